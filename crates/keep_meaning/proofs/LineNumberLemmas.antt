-- The numbers of what is said before and after a line: they are lower than the line's (`lower_from`), or not
-- (`higher_from`), and one more line with one key part makes those after it greater by one (`numbered_later`).
--
-- A number is a count of what comes before, and the line's numbers count all that comes before the line. So what is
-- itself counted there has a lower number (`lower_mentions`): a statement, a value, a key part. A key part from which a
-- keyval continues has the number of the keyval's value. That this number is lower needs that each such key part is
-- followed by the value (`AreValued`), as in every statement of a document (`valued_statements`). From the line on, no
-- count is less than the line's (`higher_after`). Counts that begin greater by one stay so (`other_after`), and so do
-- the numbers that are counted from there (`other_mentions`).
--
-- Theorems: `lower_from`: the numbers before a line; `higher_from`: those from there on; `numbered_later`: those after
-- one more line.
use Rattle.std.proofs.Common.{◌≡◌, ℕ, suc, ◌+◌, ◌<◌, ◌≤◌, Bool, true, false, List, [], ◌∷◌, ◌++◌, length, map, refl}
use Rattle.std.proofs.Common.{sym, ap, ap₂, ◌∙◌, arith, Option, Some, None}
use Rattle.std.specs.Prelude.{⊤, ◌==◌, ◌||◌, if◌then◌else◌}
use Rattle.std.specs.List.{filter_map, cons_option}
use Rattle.std.proofs.lemmas.List.{map-append}
use Rattle.keep_syntax.specs.Tree.{Name, Entries, none, entry, Content, blank, keyval, header, element, Line, Document}
use Rattle.keep_path.specs.Path.{Part, key, index}
use Rattle.keep_meaning.specs.Fact.{Fact}
use Rattle.keep_meaning.specs.Marks.{through, past, define, passed, value as mentions_value, Mention, Statement, below}
use Rattle.keep_meaning.specs.Marks.{Reading, statement_mentions, next_reading, mentions_from, marks, elements_of}
use Rattle.keep_meaning.specs.Marks.{entered_path, passing_mentions, header_prefixes, header_path}
use Rattle.keep_meaning.specs.Meaning.{key_value, further_value, keys_of, body_fact, keyed_mentions, entry_mentions}
use Rattle.keep_meaning.specs.Meaning.{entries_mentions, statement_of, lines}
use Rattle.keep_meaning.specs.Counts.{Count, Numbered, is_value, is_mark, one_if, count_with_mention, numbered_mentions}
use Rattle.keep_meaning.specs.Counts.{count_after, next_count, count_from, numbered_from, line_statement, statements_in}
use Rattle.keep_meaning.specs.Nodes.{is_dotted}
use Rattle.keep_meaning.specs.OtherValues.{IsSaidBefore}
use Rattle.keep_meaning.proofs.NumberLemmas.{valued, valued-append, valued-below, valued-keyed, one_mark}
use Rattle.keep_meaning.proofs.NumberLemmas.{count_after-keys, count_after-values, count_after-statements}
use Rattle.keep_meaning.proofs.NumberLemmas.{count_from-keys, count_from-statements}

abbrev pub AllOf : {A : Type 0} → (A → Type 0) → List A → Type 0
AllOf P [] = ⊤
AllOf P (x ∷ xs) = P x × AllOf P xs

pub all_join : {A : Type 0} (P : A → Type 0) (xs ys : List A) → AllOf P xs → AllOf P ys → AllOf P (xs ++ ys)
all_join P [] ys h g = g
all_join P (x ∷ xs) ys h g = (h.0, all_join P xs ys h.1 g)

pub all_left : {A : Type 0} (P : A → Type 0) (xs ys : List A) → AllOf P (xs ++ ys) → AllOf P xs
all_left P [] ys h = tt
all_left P (x ∷ xs) ys h = (h.0, all_left P xs ys h.1)

pub all_right : {A : Type 0} (P : A → Type 0) (xs ys : List A) → AllOf P (xs ++ ys) → AllOf P ys
all_right P [] ys h = h
all_right P (x ∷ xs) ys h = all_right P xs ys h.1

pub all_of : {A : Type 0} (P Q : A → Type 0) → ((x : A) → P x → Q x) → (xs : List A) → AllOf P xs → AllOf Q xs
all_of P Q f [] h = tt
all_of P Q f (x ∷ xs) h = (f x h.0, all_of P Q f xs h.1)

-- ---- numbers that are greater by one

abbrev pub later : Count → Count
later c = record { statements = suc c.statements; values = suc c.values; keys = suc c.keys }

-- what is said, where the count before it is another
abbrev pub with_count : (Count → Count) → Numbered → Numbered
with_count other n = record { mention = n.mention; before = other n.before }

abbrev pub later_numbered : Numbered → Numbered
later_numbered n = with_count later n

later_with : (c : Count) (m : Mention) → count_with_mention (later c) m ≡ later (count_with_mention c m)
later_with c m =
    let values : suc c.values + one_if (is_value m.kind) ≡ suc (c.values + one_if (is_value m.kind)) = omega arith in
    let keys : suc c.keys + one_if (is_mark m.kind) ≡ suc (c.keys + one_if (is_mark m.kind)) = omega arith in
    ap₂ (λ (v k : ℕ). record { statements = suc c.statements; values = v; keys = k }) values keys

later_statement : (c : Count) → record (later c) { statements = (later c).statements + 1 }
    ≡ later (record c { statements = c.statements + 1 })
later_statement c =
    let statements : suc c.statements + 1 ≡ suc (c.statements + 1) = omega arith in
    ap (λ (n : ℕ). record { statements = n; values = suc c.values; keys = suc c.keys }) statements

-- counts that begin otherwise, where what each mention and each statement adds is the same
module _ (other : Count → Count)
    (other_with : (c : Count) (m : Mention) → count_with_mention (other c) m ≡ other (count_with_mention c m))
    (other_statement : (c : Count)
    → record (other c) { statements = (other c).statements + 1 } ≡ other (record c { statements = c.statements + 1 }))
  where
    other_after : (c : Count) (ms : List Mention) → count_after (other c) ms ≡ other (count_after c ms)
    other_after c [] = refl
    other_after c (m ∷ ms) =
        ap (λ (d : Count). count_after d ms) (other_with c m) ∙ other_after (count_with_mention c m) ms

    other_next : (c : Count) (ms : List Mention) → next_count (other c) ms ≡ other (next_count c ms)
    other_next c ms =
        ap (λ (x : Count). record { statements = x.statements + 1; values = x.values; keys = x.keys })
        (other_after c ms)
        ∙ other_statement (count_after c ms)

    other_mentions : (c : Count) (ms : List Mention)
        → numbered_mentions (other c) ms ≡ map (with_count other) (numbered_mentions c ms)
    other_mentions c [] = refl
    other_mentions c (m ∷ ms) =
        ap (λ (ns : List Numbered). record { mention = m; before = other c } ∷ ns)
        (ap (λ (d : Count). numbered_mentions d ms) (other_with c m) ∙ other_mentions (count_with_mention c m) ms)

    pub numbered_other : (c : Count) (r : Reading) (ss : List Statement)
        → numbered_from (other c) r ss ≡ map (with_count other) (numbered_from c r ss)
    numbered_other c r [] = refl
    numbered_other c r (s ∷ ss) =
        let ms : List Mention = statement_mentions r s in
        ap₂ (λ (xs ys : List Numbered). xs ++ ys) (other_mentions c ms)
        (ap (λ (d : Count). numbered_from d (next_reading r s) ss) (other_next c ms)
        ∙ numbered_other (next_count c ms) (next_reading r s) ss)
        ∙ sym (map-append (with_count other) (numbered_mentions c ms)
        (numbered_from (next_count c ms) (next_reading r s) ss))

pub numbered_later : (c : Count) (r : Reading) (ss : List Statement)
    → numbered_from (later c) r ss ≡ map later_numbered (numbered_from c r ss)
numbered_later c r ss = numbered_other later later_with later_statement c r ss

-- ---- a keyval that continues has a value

abbrev AreValued : List Mention → Type 0
AreValued [] = ⊤
AreValued (m ∷ ms) = (is_dotted m.kind ≡ true → 0 < valued ms) × AreValued ms

valued_join : (xs ys : List Mention) → AreValued xs → AreValued ys → AreValued (xs ++ ys)
valued_join [] ys h g = g
valued_join (x ∷ xs) ys h g = ((λ e. omega (arith, h.0 e, valued-append xs ys)), valued_join xs ys h.1 g)

valued_under : (at : List Part) (ms : List Mention) → AreValued ms → AreValued (map (below at) ms)
valued_under at [] h = tt
valued_under at (m ∷ ms) h = ((λ e. omega (arith, h.0 e, valued-below at ms)), valued_under at ms h.1)

valued_keys : (k : List ℕ) (ks : List (List ℕ)) (ms : List Mention) → 0 < valued ms → AreValued ms
    → AreValued (keyed_mentions (k ∷ ks) ms)
valued_keys k [] ms some h = valued_under (key k ∷ []) ms h
valued_keys k (l ∷ ks) ms some h = (
  (λ e. omega (arith, some, valued-below (key k ∷ []) (keyed_mentions (l ∷ ks) ms), valued-keyed l ks ms)),
  valued_under (key k ∷ []) (keyed_mentions (l ∷ ks) ms) (valued_keys l ks ms some h),
)

valued_entry : (n : ℕ) (name : Option Name) (f : Fact) (nested : List Mention) → AreValued nested
    → AreValued (entry_mentions n name f nested)
valued_entry n None f nested h = ((λ e. cc), valued_under (index n ∷ []) nested h)
valued_entry n (Some name) f nested h =
    valued_keys (key_value name.key.first) (map further_value name.key.more)
    (record { path = []; kind = mentions_value f } ∷ nested) (omega arith) ((λ e. cc), h)

valued_inside : (n : ℕ) (es : Entries) → AreValued (entries_mentions n es)
valued_inside n none = tt
valued_inside n (entry name body nested after comma rest) =
    valued_join (entry_mentions n name (body_fact body) (entries_mentions 0 nested)) (entries_mentions (n + 1) rest)
    (valued_entry n name (body_fact body) (entries_mentions 0 nested) (valued_inside 0 nested))
    (valued_inside (n + 1) rest)

valued_prefixes : (tables : List (List Part)) (at : List Part) (ks : List (List ℕ))
    → AreValued (header_prefixes tables at ks)
valued_prefixes tables at [] = tt
valued_prefixes tables at (k ∷ []) = tt
valued_prefixes tables at (k ∷ l ∷ ks) =
    let path : List Part = at ++ key k ∷ [] in
    valued_join (passing_mentions tables path) (header_prefixes tables (entered_path tables path) (l ∷ ks))
    (by (0 == elements_of path tables)) (valued_prefixes tables (entered_path tables path) (l ∷ ks))
  where
    by : (b : Bool) → (let path : List Part = at ++ key k ∷ [] in
        AreValued (if b then record { path = path; kind = through } ∷ [] else record { path = path; kind = past }
        ∷ record { path = entered_path tables path; kind = passed } ∷ []))
    by true = ((λ e. cc), tt)
    by false = ((λ e. cc), ((λ e. cc), tt))

abbrev pub IsValued : Statement → Type 0
IsValued s = (r : Reading) → AreValued (statement_mentions r s)

valued_content : (c : Content) (ss : List Statement) → AllOf IsValued ss
    → AllOf IsValued (cons_option (statement_of c) ss)
valued_content blank ss h = h
valued_content (keyval name v) ss h = (
  λ r. valued_under r.body _ (valued_entry 0 (Some name) (body_fact v.body) (entries_mentions 0 v.nested)
      (valued_inside 0 v.nested)),
  h,
)
valued_content (header before k after) ss h = (
  λ r. valued_join (header_prefixes r.tables [] (keys_of k))
      (record { path = header_path r.tables [] (keys_of k); kind = define } ∷ [])
      (valued_prefixes r.tables [] (keys_of k)) ((λ e. cc), tt),
  h,
)
valued_content (element before k after) ss h = (
  λ r. valued_join (header_prefixes r.tables [] (keys_of k)) _ (valued_prefixes r.tables [] (keys_of k))
      ((λ e. cc), ((λ e. cc), tt)),
  h,
)

valued_lines : (ls : List Line) → AllOf IsValued (filter_map line_statement ls)
valued_lines [] = tt
valued_lines (l ∷ ls) = valued_content l.content (filter_map line_statement ls) (valued_lines ls)

pub valued_statements : (s : Document) → AllOf IsValued (statements_in s)
valued_statements s = valued_lines (lines s)

-- ---- numbers before a line

pub record IsLower (c : Count) (n : Numbered) : Type 0 where
  pub statement : n.before.statements < c.statements
  pub value : (is_value n.mention.kind || is_dotted n.mention.kind) ≡ true → n.before.values < c.values
  pub key : is_mark n.mention.kind ≡ true → n.before.keys < c.keys

lower_value : (m : Mention) (ms : List Mention) (before end : ℕ) → (is_dotted m.kind ≡ true → 0 < valued ms)
    → before + (one_if (is_value m.kind) + valued ms) ≤ end → (is_value m.kind || is_dotted m.kind) ≡ true
    → before < end
lower_value m ms before end more low e = by (is_value m.kind) refl (is_dotted m.kind) refl
  where
    by : (b : Bool) → is_value m.kind ≡ b → (c : Bool) → is_dotted m.kind ≡ c → before < end
    by true v c d = omega (arith, low, ap one_if v)
    by false v true d = omega (arith, low, more d)
    by false v false d = absurd (let k : false ≡ true = sym (ap₂ (λ (a b : Bool). a || b) v d) ∙ e in cc)

lower_key : (m : Mention) (ms : List Mention) (before end : ℕ) → before + length (marks (m ∷ ms)) ≤ end
    → is_mark m.kind ≡ true → before < end
lower_key m ms before end low e = omega (arith, low, one_mark m.kind m.path (marks ms), ap one_if e)

lower_mentions : (c : Count) (ms : List Mention) (d : Count) → AreValued ms → c.statements < d.statements
    → c.values + valued ms ≤ d.values → c.keys + length (marks ms) ≤ d.keys → AllOf (IsLower d) (numbered_mentions c ms)
lower_mentions c [] d h s v k = tt
lower_mentions c (m ∷ ms) d h s v k = (
  record { statement = s; value = lower_value m ms c.values d.values h.0 v; key = lower_key m ms c.keys d.keys k },
  lower_mentions (count_with_mention c m) ms d h.1 s (omega (arith, v))
      (omega (arith, k, one_mark m.kind m.path (marks ms))),
)

count_from-values : (c : Count) (r : Reading) (ss : List Statement)
    → (count_from c r ss).values ≡ c.values + valued (mentions_from r ss)
count_from-values c r [] = omega arith
count_from-values c r (s ∷ ss) =
    omega (
      arith,
      count_from-values (next_count c (statement_mentions r s)) (next_reading r s) ss,
      count_after-values c (statement_mentions r s),
      valued-append (statement_mentions r s) (mentions_from (next_reading r s) ss),
    )

pub lower_from : (c : Count) (r : Reading) (ss : List Statement) → AllOf IsValued ss
    → AllOf (IsLower (count_from c r ss)) (numbered_from c r ss)
lower_from c r [] h = tt
lower_from c r (s ∷ ss) h =
    let ms : List Mention = statement_mentions r s in
    let next : Count = next_count c ms in
    all_join (IsLower (count_from c r (s ∷ ss))) (numbered_mentions c ms) (numbered_from next (next_reading r s) ss)
    (lower_mentions c ms (count_from c r (s ∷ ss)) (h.0 r)
    (omega (arith, count_from-statements next (next_reading r s) ss, count_after-statements c ms))
    (omega (arith, count_from-values next (next_reading r s) ss, count_after-values c ms))
    (omega (arith, count_from-keys next (next_reading r s) ss, count_after-keys c ms)))
    (lower_from next (next_reading r s) ss h.1)

-- ---- numbers from a line on

pub record IsHigher (c : Count) (n : Numbered) : Type 0 where
  pub statement : c.statements ≤ n.before.statements
  pub value : c.values ≤ n.before.values
  pub key : c.keys ≤ n.before.keys

pub record IsUpTo (c d : Count) : Type 0 where
  pub statement : c.statements ≤ d.statements
  pub value : c.values ≤ d.values
  pub key : c.keys ≤ d.keys

pub higher_mentions : (c d : Count) (ms : List Mention) → IsUpTo c d → AllOf (IsHigher c) (numbered_mentions d ms)
higher_mentions c d [] h = tt
higher_mentions c d (m ∷ ms) h = (
  record { statement = h.statement; value = h.value; key = h.key },
  higher_mentions c (count_with_mention d m) ms
      (record { statement = h.statement; value = omega (arith, h.value); key = omega (arith, h.key) }),
)

higher_after : (c d : Count) (r : Reading) (ss : List Statement) → IsUpTo c d
    → AllOf (IsHigher c) (numbered_from d r ss)
higher_after c d r [] h = tt
higher_after c d r (s ∷ ss) h =
    let ms : List Mention = statement_mentions r s in
    all_join (IsHigher c) (numbered_mentions d ms) (numbered_from (next_count d ms) (next_reading r s) ss)
    (higher_mentions c d ms h)
    (higher_after c (next_count d ms) (next_reading r s) ss (record {
      statement = omega (arith, h.statement, count_after-statements d ms);
      value = omega (arith, h.value, count_after-values d ms);
      key = omega (arith, h.key, count_after-keys d ms);
    }))

pub higher_from : (c : Count) (r : Reading) (ss : List Statement) → AllOf (IsHigher c) (numbered_from c r ss)
higher_from c r ss = higher_after c c r ss (record { statement = omega arith; value = omega arith; key = omega arith })

-- ---- what comes before each mention is no more than what comes before all that follows them

pub few_mentions : (c : Count) (ms : List Mention) (d : Count) → c.values + valued ms ≤ d.values
    → c.keys + length (marks ms) ≤ d.keys → AllOf (IsSaidBefore d) (numbered_mentions c ms)
few_mentions c [] d v k = tt
few_mentions c (m ∷ ms) d v k = (
  record { values = omega (arith, v); keys = omega (arith, k) },
  few_mentions (count_with_mention c m) ms d (omega (arith, v))
      (omega (arith, k, one_mark m.kind m.path (marks ms))),
)

pub few_from : (c : Count) (r : Reading) (ss : List Statement)
    → AllOf (IsSaidBefore (count_from c r ss)) (numbered_from c r ss)
few_from c r [] = tt
few_from c r (s ∷ ss) =
    let ms : List Mention = statement_mentions r s in
    let next : Count = next_count c ms in
    all_join (IsSaidBefore (count_from c r (s ∷ ss))) (numbered_mentions c ms)
    (numbered_from next (next_reading r s) ss)
    (few_mentions c ms (count_from c r (s ∷ ss))
    (omega (arith, count_from-values next (next_reading r s) ss, count_after-values c ms))
    (omega (arith, count_from-keys next (next_reading r s) ss, count_after-keys c ms)))
    (few_from next (next_reading r s) ss)
