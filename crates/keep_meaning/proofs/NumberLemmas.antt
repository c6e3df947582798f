-- The numbers are those that keep_syntax gives to statements, values and key parts.
--
-- The numbers of mentions are counted along the statements; keep_syntax counts along the lines of the tree. A statement
-- is one statement, each key part is one mark, and each value one mention that states a value, so both counts go up by
-- the same at each entry and each line. So by induction over entries, content and lines they agree.
--
-- Theorems: `count_from-keys`, `valued-entries`, `valued-content` and `statements-count`.
use Rattle.std.proofs.Common.{◌≡◌, ℕ, suc, ◌+◌, Bool, true, false, if◌then◌else◌, List, [], ◌∷◌, ◌++◌, length, map}
use Rattle.std.proofs.Common.{refl, sym, ap, ◌∙◌, arith, Option, Some, None}
use Rattle.std.specs.Prelude.{◌==◌}
use Rattle.std.specs.List.{filter_map, cons_option}
use Rattle.std.proofs.lemmas.List.{length-append, append_assoc}
use Rattle.keep_syntax.specs.Tree.{Name, Entries, none, entry, Content, blank, keyval, header, element, Line, Ended}
use Rattle.keep_syntax.specs.Tree.{Document, name_leaves, line_leaves, ended_leaves}
use Rattle.keep_syntax.specs.Numbered as syntax
use Rattle.keep_syntax.specs.Numbered.{over_lines, line_statements, content_values, content_statements, next_line}
use Rattle.keep_syntax.specs.Numbered.{first_line, entries_values, value_count, nested_of, rest_of}
use Rattle.keep_types.specs.declared.syntax.Start.{Start}
use Rattle.keep_path.specs.Path.{Part, key, index}
use Rattle.keep_meaning.specs.Fact.{Fact}
use Rattle.keep_meaning.specs.Rules.{Mark}
use Rattle.keep_meaning.specs.Marks.{MentionKind, through, past, define, element as kinds_element, dotted}
use Rattle.keep_meaning.specs.Marks.{value as mentions_value, begun, passed, item, Mention, Statement, below, Reading}
use Rattle.keep_meaning.specs.Marks.{statement_mentions, next_reading, reading_after, mentions_from, marks, with_path}
use Rattle.keep_meaning.specs.Marks.{role_of, elements_of, entered_path, passing_mentions, header_prefixes, header_path}
use Rattle.keep_meaning.specs.Meaning.{key_value, further_value, keys_of, body_fact, keyed_mentions, entry_mentions}
use Rattle.keep_meaning.specs.Meaning.{entries_mentions, statement_of, line_of}
use Rattle.keep_meaning.specs.Counts.{Count, is_value, is_mark, one_if, count_with_mention, numbered_mentions}
use Rattle.keep_meaning.specs.Counts.{count_after, next_count, count_from, numbered_from, line_statement, statements_in}
use Rattle.keep_meaning.proofs.PlaceLemmas.{marked-append}

-- how many values are stated
abbrev pub valued : List Mention → ℕ
valued [] = 0
valued (m ∷ ms) = one_if (is_value m.kind) + valued ms

-- ---- the numbers are counts

pub one_mark : (s : MentionKind) (p : List Part) (xs : List Mark)
    → length (cons_option (with_path p (role_of s)) xs) ≡ one_if (is_mark s) + length xs
one_mark through p xs = omega arith
one_mark past p xs = omega arith
one_mark define p xs = omega arith
one_mark kinds_element p xs = omega arith
one_mark dotted p xs = omega arith
one_mark (mentions_value f) p xs = omega arith
one_mark begun p xs = omega arith
one_mark passed p xs = omega arith
one_mark (item f) p xs = omega arith

pub count_after-keys : (c : Count) (ms : List Mention) → (count_after c ms).keys ≡ c.keys + length (marks ms)
count_after-keys c [] = omega arith
count_after-keys c (m ∷ ms) =
    omega (arith, count_after-keys (count_with_mention c m) ms, one_mark m.kind m.path (marks ms))

pub count_after-values : (c : Count) (ms : List Mention) → (count_after c ms).values ≡ c.values + valued ms
count_after-values c [] = omega arith
count_after-values c (m ∷ ms) = omega (arith, count_after-values (count_with_mention c m) ms)

pub count_after-statements : (c : Count) (ms : List Mention) → (count_after c ms).statements ≡ c.statements
count_after-statements c [] = refl
count_after-statements c (m ∷ ms) = count_after-statements (count_with_mention c m) ms

-- the number of a statement is how many come before it
pub count_from-statements : (c : Count) (r : Reading) (ss : List Statement)
    → (count_from c r ss).statements ≡ c.statements + length ss
count_from-statements c r [] = omega arith
count_from-statements c r (s ∷ ss) =
    omega (
      arith,
      count_from-statements (next_count c (statement_mentions r s)) (next_reading r s) ss,
      count_after-statements c (statement_mentions r s),
    )

-- that of a key part, how many marks
pub count_from-keys : (c : Count) (r : Reading) (ss : List Statement)
    → (count_from c r ss).keys ≡ c.keys + length (marks (mentions_from r ss))
count_from-keys c r [] = omega arith
count_from-keys c r (s ∷ ss) =
    omega (
      arith,
      count_from-keys (next_count c (statement_mentions r s)) (next_reading r s) ss,
      count_after-keys c (statement_mentions r s),
      marked-append (statement_mentions r s) (mentions_from (next_reading r s) ss),
    )

-- what is said by further statements comes after, and leaves the numbers as they are
pub numbered_from-append : (c : Count) (r : Reading) (xs ys : List Statement)
    → numbered_from c r (xs ++ ys) ≡ numbered_from c r xs ++ numbered_from (count_from c r xs) (reading_after r xs) ys
numbered_from-append c r [] ys = refl
numbered_from-append c r (x ∷ xs) ys =
    ap (λ ns. numbered_mentions c (statement_mentions r x) ++ ns)
    (numbered_from-append (next_count c (statement_mentions r x)) (next_reading r x) xs ys)
    ∙ sym (append_assoc (numbered_mentions c (statement_mentions r x))
    (numbered_from (next_count c (statement_mentions r x)) (next_reading r x) xs)
    (numbered_from (count_from c r (x ∷ xs)) (reading_after r (x ∷ xs)) ys))

-- ---- as many values as keep_syntax has

pub valued-append : (xs ys : List Mention) → valued (xs ++ ys) ≡ valued xs + valued ys
valued-append [] ys = omega arith
valued-append (x ∷ xs) ys = omega (arith, valued-append xs ys)

pub valued-below : (at : List Part) (ms : List Mention) → valued (map (below at) ms) ≡ valued ms
valued-below at [] = refl
valued-below at (m ∷ ms) = ap (λ n. one_if (is_value m.kind) + n) (valued-below at ms)

pub valued-keyed : (k : List ℕ) (ks : List (List ℕ)) (ms : List Mention)
    → valued (keyed_mentions (k ∷ ks) ms) ≡ valued ms
valued-keyed k [] ms = valued-below (key k ∷ []) ms
valued-keyed k (l ∷ ks) ms = omega (arith, valued-below (key k ∷ []) (keyed_mentions (l ∷ ks) ms), valued-keyed l ks ms)

valued-entry : (n : ℕ) (name : Option Name) (f : Fact) (nested : List Mention)
    → valued (entry_mentions n name f nested) ≡ suc (valued nested)
valued-entry n None f nested = omega (arith, valued-below (index n ∷ []) nested)
valued-entry n (Some name) f nested =
    omega (
      arith,
      valued-keyed (key_value name.key.first) (map further_value name.key.more)
          (record { path = []; kind = mentions_value f } ∷ nested),
    )

pub valued-entries : (n : ℕ) (es : Entries) → valued (entries_mentions n es) ≡ value_count es
valued-entries n none = refl
valued-entries n (entry name body nested after comma rest) =
    omega (
      arith,
      valued-append (entry_mentions n name (body_fact body) (entries_mentions 0 nested))
          (entries_mentions (n + 1) rest),
      valued-entry n name (body_fact body) (entries_mentions 0 nested),
      valued-entries 0 nested,
      valued-entries (n + 1) rest,
    )

pub length-entries_values : (p : Start) (es : Entries) → length (entries_values p es) ≡ value_count es
length-entries_values p none = refl
length-entries_values p (entry name body nested after comma rest) =
    let i : Start = nested_of p (syntax.value_start p.at name) (syntax.name_count name) body in
    let e : Start = rest_of p name body nested after comma in
    omega (
      arith,
      length-append (entries_values i nested) (entries_values e rest),
      length-entries_values i nested,
      length-entries_values e rest,
    )

none_either : (b : Bool) (xs ys : List Mention) → valued xs ≡ 0 → valued ys ≡ 0 → valued (if b then xs else ys) ≡ 0
none_either true xs ys h g = h
none_either false xs ys h g = g

valued-prefixes : (tables : List (List Part)) (at : List Part) (ks : List (List ℕ))
    → valued (header_prefixes tables at ks) ≡ 0
valued-prefixes tables at [] = refl
valued-prefixes tables at (k ∷ []) = refl
valued-prefixes tables at (k ∷ l ∷ ks) =
    omega (
      arith,
      valued-append (passing_mentions tables (at ++ key k ∷ []))
          (header_prefixes tables (entered_path tables (at ++ key k ∷ [])) (l ∷ ks)),
      none_either (0 == elements_of (at ++ key k ∷ []) tables) (record { path = at ++ key k ∷ []; kind = through } ∷ [])
          (record { path = at ++ key k ∷ []; kind = past }
          ∷ record { path = entered_path tables (at ++ key k ∷ []); kind = passed } ∷ []) refl refl,
      valued-prefixes tables (entered_path tables (at ++ key k ∷ [])) (l ∷ ks),
    )

pub valued-content : (r : Reading) (p : Start) (c : Content)
    → valued (elim (statement_of c) [ None ↦ [] | Some s ↦ statement_mentions r s ]) ≡ length (content_values p c)
valued-content r p blank = refl
valued-content r p (keyval name v) =
    let nested : List Mention = entry_mentions 0 (Some name) (body_fact v.body) (entries_mentions 0 v.nested) in
    let i : Start = nested_of p (p.at + syntax.width (name_leaves name)) (syntax.key_count name.key) v.body in
    omega (
      arith,
      valued-below r.body nested,
      valued-entry 0 (Some name) (body_fact v.body) (entries_mentions 0 v.nested),
      valued-entries 0 v.nested,
      length-entries_values i v.nested,
    )
valued-content r p (header before k after) =
    omega (
      arith,
      valued-append (header_prefixes r.tables [] (keys_of k))
          (record { path = header_path r.tables [] (keys_of k); kind = define } ∷ []),
      valued-prefixes r.tables [] (keys_of k),
    )
valued-content r p (element before k after) =
    let path : List Part = header_path r.tables [] (keys_of k) in
    omega (
      arith,
      valued-append (header_prefixes r.tables [] (keys_of k))
          (record { path = path; kind = kinds_element }
          ∷ record { path = path ++ index (elements_of path r.tables) ∷ []; kind = begun } ∷ []),
      valued-prefixes r.tables [] (keys_of k),
    )

-- ---- and as many statements

stated-line : (c : syntax.Count) (l : Line) (line_end : ℕ) (x : Content) (ss : List Statement) (n : ℕ) → length ss ≡ n
    → length (cons_option (statement_of x) ss) ≡ length (content_statements c l line_end x) + n
stated-line c l line_end blank ss n h = omega (arith, h)
stated-line c l line_end (keyval name v) ss n h = omega (arith, h)
stated-line c l line_end (header before k after) ss n h = omega (arith, h)
stated-line c l line_end (element before k after) ss n h = omega (arith, h)

statements-lines : (c : syntax.Count) (es : List Ended) (last : Line)
    → length (filter_map line_statement (map line_of es ++ last ∷ [])) ≡ length (over_lines line_statements c es last)
statements-lines c [] last =
    omega (arith, stated-line c last (c.at + syntax.width (line_leaves last)) last.content [] 0 refl)
statements-lines c (e ∷ es) last =
    omega (
      arith,
      stated-line c e.line (c.at + syntax.width (ended_leaves e)) e.line.content
          (filter_map line_statement (map line_of es ++ last ∷ []))
          (length (over_lines line_statements (next_line c e) es last)) (statements-lines (next_line c e) es last),
      length-append (line_statements c e.line (c.at + syntax.width (ended_leaves e)))
          (over_lines line_statements (next_line c e) es last),
    )

-- a document has as many statements as keep_syntax numbers
pub statements-count : (s : Document) → length (statements_in s) ≡ length (syntax.statements s)
statements-count s = statements-lines (first_line s) s.ended s.last
