-- A document has as many marks as key parts, so each mark has its key part.
--
-- `marked` counts the mentions that are key parts. By induction over keys, entries, content and lines it is the number
-- of key parts that keep_syntax lists of them: each key of a header and each part of a keyval's key is one of both, and
-- items have none.
--
-- Theorem: `marked-parts`.
use Rattle.std.proofs.Common.{◌≡◌, ℕ, suc, ◌+◌, Bool, true, false, if◌then◌else◌, List, [], ◌∷◌, ◌++◌, length, map}
use Rattle.std.proofs.Common.{refl, sym, ap, ◌∙◌, arith, Option, Some, None}
use Rattle.std.specs.Prelude.{◌==◌}
use Rattle.std.specs.List.{cons_option}
use Rattle.std.proofs.lemmas.List.{length-append}
use Rattle.std.proofs.lemmas.List.Elements.{filter_map-append}
use Rattle.keep_syntax.specs.Tree.{Further, Name, Entries, none, entry, Value, Content, blank, keyval, header, element}
use Rattle.keep_syntax.specs.Tree.{Line, Ended, Document, name_leaves}
use Rattle.keep_syntax.specs.Numbered as syntax
use Rattle.keep_syntax.specs.Numbered.{Count, over_lines, line_parts, content_parts, content_start, next_line}
use Rattle.keep_syntax.specs.Numbered.{first_line, key_parts, further_parts, named_parts, name_count, part_count}
use Rattle.keep_syntax.specs.Numbered.{entries_parts}
use Rattle.keep_types.specs.declared.role.Role.{Role}
use Rattle.keep_path.specs.Path.{Part, key, index}
use Rattle.keep_meaning.specs.Fact.{Fact}
use Rattle.keep_meaning.specs.Rules.{Mark}
use Rattle.keep_meaning.specs.Marks.{Mention, below, Reading, statement_mentions, mark_of, marks, with_path, role_of}
use Rattle.keep_meaning.specs.Marks.{elements_of, entered_path, passing_mentions, header_prefixes, header_path, start}
use Rattle.keep_meaning.specs.Marks.{define, begun, element as kinds_element, value as marks_value}
use Rattle.keep_meaning.specs.Meaning.{keys_of, further_value, key_value, body_fact, keyed_mentions, entry_mentions}
use Rattle.keep_meaning.specs.Meaning.{entries_mentions, mentions_of_value, statement_of, line_mentions, after_line}
use Rattle.keep_meaning.specs.Meaning.{lines_mentions, line_of, mentions_in}
use Rattle.keep_meaning.specs.Faults.{parts_in}

-- how many marks there are
abbrev pub marked : List Mention → ℕ
marked ms = length (marks ms)

pub marked-append : (xs ys : List Mention) → marked (xs ++ ys) ≡ marked xs + marked ys
marked-append xs ys = ap length (filter_map-append mark_of xs ys) ∙ length-append (marks xs) (marks ys)

one_role : (o : Option Role) (p q : List Part) (xs ys : List Mark) → length xs ≡ length ys
    → length (cons_option (with_path p o) xs) ≡ length (cons_option (with_path q o) ys)
one_role None p q xs ys h = h
one_role (Some r) p q xs ys h = omega (arith, h)

pub marked-below : (at : List Part) (ms : List Mention) → marked (map (below at) ms) ≡ marked ms
marked-below at [] = refl
marked-below at (m ∷ ms) =
    one_role (role_of m.kind) (at ++ m.path) m.path (marks (map (below at) ms)) (marks ms) (marked-below at ms)

pub marked-keyed : (k : List ℕ) (ks : List (List ℕ)) (ms : List Mention)
    → marked (keyed_mentions (k ∷ ks) ms) ≡ length ks + marked ms
marked-keyed k [] ms = marked-below (key k ∷ []) ms ∙ omega arith
marked-keyed k (l ∷ ks) ms = omega (arith, marked-below (key k ∷ []) (keyed_mentions (l ∷ ks) ms), marked-keyed l ks ms)

length-keys : (fs : List Further) → length (map further_value fs) ≡ length fs
length-keys [] = refl
length-keys (f ∷ fs) = ap suc (length-keys fs)

marked-entry : (n : ℕ) (name : Option Name) (f : Fact) (nested : List Mention)
    → marked (entry_mentions n name f nested) ≡ name_count name + marked nested
marked-entry n None f nested = marked-below (index n ∷ []) nested ∙ omega arith
marked-entry n (Some name) f nested =
    omega (
      arith,
      marked-keyed (key_value name.key.first) (map further_value name.key.more)
          (record { path = []; kind = marks_value f } ∷ nested),
      length-keys name.key.more,
    )

pub marked-entries : (n : ℕ) (es : Entries) → marked (entries_mentions n es) ≡ part_count es
marked-entries n none = refl
marked-entries n (entry name body nested after comma rest) =
    omega (
      arith,
      marked-append (entry_mentions n name (body_fact body) (entries_mentions 0 nested))
          (entries_mentions (n + 1) rest),
      marked-entry n name (body_fact body) (entries_mentions 0 nested),
      marked-entries 0 nested,
      marked-entries (n + 1) rest,
    )

-- ---- key parts

pub length-further : (at : ℕ) (fs : List Further) → length (further_parts at fs) ≡ length fs
length-further at [] = refl
length-further at (f ∷ fs) =
    ap suc (length-further (at + syntax.width f.before + 1 + syntax.width f.after + length f.part.text) fs)

pub length-named : (at : ℕ) (name : Option Name) → length (named_parts at name) ≡ name_count name
length-named at None = refl
length-named at (Some n) = ap suc (length-further (at + length n.key.first.text) n.key.more)

pub length-entries_parts : (at : ℕ) (es : Entries) → length (entries_parts at es) ≡ part_count es
length-entries_parts at none = refl
length-entries_parts at (entry name body nested after comma rest) =
    let i : ℕ = syntax.nested_start (syntax.value_start at name) body in
    let e : ℕ = syntax.entry_end at name body nested after comma in
    omega (
      arith,
      length-append (named_parts at name) (entries_parts i nested ++ entries_parts e rest),
      length-append (entries_parts i nested) (entries_parts e rest),
      length-named at name,
      length-entries_parts i nested,
      length-entries_parts e rest,
    )

-- ---- lines

one_either : (b : Bool) (xs ys : List Mention) → marked xs ≡ 1 → marked ys ≡ 1 → marked (if b then xs else ys) ≡ 1
one_either true xs ys h g = h
one_either false xs ys h g = g

marked-passing_mentions : (tables : List (List Part)) (path : List Part) → marked (passing_mentions tables path) ≡ 1
marked-passing_mentions tables path = one_either (0 == elements_of path tables) _ _ refl refl

pub marked-prefixes : (tables : List (List Part)) (at : List Part) (k : List ℕ) (ks : List (List ℕ))
    → marked (header_prefixes tables at (k ∷ ks)) ≡ length ks
marked-prefixes tables at k [] = refl
marked-prefixes tables at k (l ∷ ks) =
    omega (
      arith,
      marked-append (passing_mentions tables (at ++ key k ∷ []))
          (header_prefixes tables (entered_path tables (at ++ key k ∷ [])) (l ∷ ks)),
      marked-passing_mentions tables (at ++ key k ∷ []),
      marked-prefixes tables (entered_path tables (at ++ key k ∷ [])) l ks,
    )

pub marked-content : (r : Reading) (at : ℕ) (c : Content)
    → marked (elim (statement_of c) [ None ↦ [] | Some s ↦ statement_mentions r s ]) ≡ length (content_parts at c)
marked-content r at blank = refl
marked-content r at (keyval name v) =
    let nested : List Mention = entry_mentions 0 (Some name) (body_fact v.body) (entries_mentions 0 v.nested) in
    let from : ℕ = syntax.nested_start (at + syntax.width (name_leaves name)) v.body in
    omega (
      arith,
      marked-below r.body nested,
      marked-entry 0 (Some name) (body_fact v.body) (entries_mentions 0 v.nested),
      marked-entries 0 v.nested,
      length-append (key_parts at name.key) (entries_parts from v.nested),
      length-further (at + length name.key.first.text) name.key.more,
      length-entries_parts from v.nested,
    )
marked-content r at (header before k after) =
    omega (
      arith,
      marked-append (header_prefixes r.tables [] (keys_of k))
          (record { path = header_path r.tables [] (keys_of k); kind = define } ∷ []),
      marked-prefixes r.tables [] (key_value k.first) (map further_value k.more),
      length-keys k.more,
      length-further (at + 1 + syntax.width before + length k.first.text) k.more,
    )
marked-content r at (element before k after) =
    let path : List Part = header_path r.tables [] (keys_of k) in
    omega (
      arith,
      marked-append (header_prefixes r.tables [] (keys_of k))
          (record { path = path; kind = kinds_element }
          ∷ record { path = path ++ index (elements_of path r.tables) ∷ []; kind = begun } ∷ []),
      marked-prefixes r.tables [] (key_value k.first) (map further_value k.more),
      length-keys k.more,
      length-further (at + 2 + syntax.width before + length k.first.text) k.more,
    )

marked-lines : (r : Reading) (c : Count) (es : List Ended) (last : Line)
    → marked (lines_mentions r (map line_of es ++ last ∷ []))
    ≡ length (over_lines (λ c l line_end. line_parts c l) c es last)
marked-lines r c [] last =
    omega (arith, marked-append (line_mentions r last) [], marked-content r (content_start c last) last.content)
marked-lines r c (e ∷ es) last =
    omega (
      arith,
      marked-append (line_mentions r e.line) (lines_mentions (after_line r e.line) (map line_of es ++ last ∷ [])),
      marked-content r (content_start c e.line) e.line.content,
      length-append (line_parts c e.line) (over_lines (λ c l line_end. line_parts c l) (next_line c e) es last),
      marked-lines (after_line r e.line) (next_line c e) es last,
    )

-- a document has as many marks as key parts
pub marked-parts : (s : Document) → length (marks (mentions_in s)) ≡ length (syntax.parts s)
marked-parts s = marked-lines start (first_line s) s.ended s.last

-- so has a value
pub marked-parts_in : (v : Value) → length (marks (mentions_of_value v)) ≡ length (parts_in v)
marked-parts_in v = marked-entries 0 v.nested ∙ sym (length-entries_parts (syntax.nested_start 0 v.body) v.nested)
