-- The line on which the value of a path is (`IsLineValue`): where its key has one part it is a line of which
-- `RemoveTakesValue` speaks, and where no node is below the value, too, one of which `RemoveTakesLine` does. Where its
-- key has several parts, it is one of which `RemoveTakesKeys` does; with some of them passed, one of which
-- `RemoveTakesDots` does. Its numbers are those that the syntax has with the value.
--
-- A value in which something is nested has a node below it (`childless`), so here nothing is. What the syntax counts
-- before a line are the statements, the values and the key parts that the lines before it say (`lines_counted`).
--
-- Theorems: `value_line`, `line_of_value`, `keys_line_of_value`, `dots_line_of_value` and `line_numbers`.
use Rattle.std.proofs.Common.{◌≡◌, ℕ, zero, suc, ◌+◌, ◌<◌, List, [], ◌∷◌, ◌++◌, length, map, refl, sym, ap, subst, ◌∙◌}
use Rattle.std.proofs.Common.{append-nil, append_assoc, arith, None, Some}
use Rattle.std.specs.List.{cons_option, filter_map}
use Rattle.std.proofs.lemmas.List.{length-map}
use Rattle.keep_syntax.specs.Numbered as syntax
use Rattle.keep_syntax.specs.Numbered.{content_statements, content_parts, content_values, content_start, line_start}
use Rattle.keep_syntax.specs.Numbered.{next_line, first_line, after_lines, key_count}
use Rattle.keep_syntax.specs.Tree.{Content, blank, keyval, header, element, Entries, none, entry, Further, Name, Value}
use Rattle.keep_syntax.specs.Tree.{Line, Ended, Document}
use Rattle.keep_path.specs.NodeInfos.{LineNumbers}
use Rattle.keep_path.specs.Path.{Part}
use Rattle.keep_meaning.specs.Counts.{Count, count_from, line_statement, next_count, no_count}
use Rattle.keep_meaning.specs.Fact.{Fact}
use Rattle.keep_meaning.specs.LinesMore.{numbers_after}
use Rattle.keep_meaning.specs.Marks as marks
use Rattle.keep_meaning.specs.Marks.{Mention, Reading, Statement, below, next_reading, start, statement_mentions, value}
use Rattle.keep_meaning.specs.Meaning.{body_fact, entries_mentions, further_value, key_value, keyed_mentions, keys_of}
use Rattle.keep_meaning.specs.Meaning.{keyval_mentions, line_of, lines, lines_mentions, mentions_in}
use Rattle.keep_meaning.specs.Meaning.{reading_after_lines, statement_of, step, valued_mentions}
use Rattle.keep_meaning.specs.Nodes.{children, node_paths}
use Rattle.keep_meaning.proofs.Shared.{count_after-keys, count_after-values, count_from-statements, marked-content}
use Rattle.keep_meaning.proofs.Shared.{valued-content}
use Rattle.keep_edit_spec.specs.KeyvalLines.{IsDotsLineOf, IsKeysLineOf, IsLineOf, IsValueLine}
use Rattle.keep_edit_spec.proofs.Common.SetDocument.{whole_mentions}
use Rattle.keep_edit_spec.proofs.Common.SetLaw.{run}
use Rattle.keep_edit_spec.proofs.Remove.RemoveLinePlace.{IsLineValue, head_line, lines_split, tail_lines}
use Rattle.keep_edit_spec.proofs.Remove.RemoveLines.{keyval_run}
use Rattle.keep_edit_spec.proofs.Set.Childless.{childless}

-- ---- nothing is nested in a value that says no more

keyed_say : (k : List ℕ) (ks : List (List ℕ)) (m : Mention) (ms more : List Mention)
    → keyed_mentions (k ∷ ks) (m ∷ ms) ++ more ≡ [] → ⊥
keyed_say k [] m ms more e = cc
keyed_say k (l ∷ ks) m ms more e = cc

nothing_nested : (es : Entries) → entries_mentions 0 es ≡ [] → es ≡ none
nothing_nested none e = refl
nothing_nested (entry None body nested after comma rest) e = absurd cc
nothing_nested (entry (Some name) body nested after comma rest) e =
    absurd (keyed_say (key_value name.key.first) (map further_value name.key.more)
    (record { path = []; kind = value (body_fact body) }) (entries_mentions 0 nested) (entries_mentions (0 + 1) rest) e)

one_part : (fs : List Further) → suc (length fs) ≡ 1 → fs ≡ []
one_part [] e = refl
one_part (f ∷ fs) e = absurd (omega (arith, e))

-- a key's parts, of which so many come first
record IsCutAt (ks : List (List ℕ)) (n : ℕ) : Type 0 where
  passed : List (List ℕ)
  first : List ℕ
  further : List (List ℕ)
  whole : ks ≡ passed ++ first ∷ further
  many : length passed ≡ n

cut_at : (ks : List (List ℕ)) (n : ℕ) → n < length ks → IsCutAt ks n
cut_at [] n few = absurd (omega (arith, few))
cut_at (k ∷ ks) zero few = record { passed = []; first = k; further = ks; whole = refl; many = refl }
cut_at (k ∷ ks) (suc n) few =
    let c : IsCutAt ks n = cut_at ks n (omega (arith, few)) in
    record {
      passed = k ∷ c.passed;
      first = c.first;
      further = c.further;
      whole = ap (λ (l : List (List ℕ)). k ∷ l) c.whole;
      many = ap suc c.many;
    }

-- ---- what is counted before a line

record AreCounted (c : Count) (k : syntax.Count) : Type 0 where
  statements : c.statements ≡ k.statements
  values : c.values ≡ k.values
  keys : c.keys ≡ k.parts

-- a line, and then those after it
content_counted : (k : syntax.Count) (l : Line) (x : Content) (c : Count) (r : Reading) (ss : List Statement)
    (to : syntax.Count) → AreCounted c k
    → ((d : Count) (q : Reading) → d.statements ≡ k.statements + length (content_statements k l 0 x)
    → d.values ≡ k.values + length (content_values (line_start k l) x)
    → d.keys ≡ k.parts + length (content_parts (content_start k l) x)
    → AreCounted (count_from d q ss) to)
    → AreCounted (count_from c r (cons_option (statement_of x) ss)) to
content_counted k l blank c r ss to h more =
    more c r (omega (arith, h.statements)) (omega (arith, h.values)) (omega (arith, h.keys))
content_counted k l (keyval name v) c r ss to h more =
    let s : Statement = marks.keyval (keyval_mentions name v) in
    let ms : List Mention = statement_mentions r s in
    more (next_count c ms) (next_reading r s) (omega (arith, h.statements, count_from-statements c r (s ∷ [])))
    (omega (arith, h.values, count_after-values c ms, valued-content r (line_start k l) (keyval name v)))
    (omega (arith, h.keys, count_after-keys c ms, marked-content r (content_start k l) (keyval name v)))
content_counted k l (header b y a) c r ss to h more =
    let s : Statement = marks.header (keys_of y) in
    let ms : List Mention = statement_mentions r s in
    more (next_count c ms) (next_reading r s) (omega (arith, h.statements, count_from-statements c r (s ∷ [])))
    (omega (arith, h.values, count_after-values c ms, valued-content r (line_start k l) (header b y a)))
    (omega (arith, h.keys, count_after-keys c ms, marked-content r (content_start k l) (header b y a)))
content_counted k l (element b y a) c r ss to h more =
    let s : Statement = marks.element_header (keys_of y) in
    let ms : List Mention = statement_mentions r s in
    more (next_count c ms) (next_reading r s) (omega (arith, h.statements, count_from-statements c r (s ∷ [])))
    (omega (arith, h.values, count_after-values c ms, valued-content r (line_start k l) (element b y a)))
    (omega (arith, h.keys, count_after-keys c ms, marked-content r (content_start k l) (element b y a)))

lines_counted : (k : syntax.Count) (es : List Ended) (c : Count) (r : Reading) → AreCounted c k
    → AreCounted (count_from c r (filter_map line_statement (map line_of es))) (after_lines k es)
lines_counted k [] c r h = h
lines_counted k (e ∷ es) c r h =
    content_counted k e.line e.line.content c r (filter_map line_statement (map line_of es))
    (after_lines (next_line k e) es) h
    (λ d q s v p. lines_counted (next_line k e) es d q (record { statements = s; values = v; keys = p }))

same_numbers : (a b : LineNumbers) → a.statement ≡ b.statement → a.value ≡ b.value → a.key ≡ b.key → a ≡ b
same_numbers a b e f g =
    ap (λ (x : ℕ). record a { statement = x }) e ∙ ap (λ (x : ℕ). record b { value = x; key = a.key }) f
    ∙ ap (λ (x : ℕ). record b { key = x }) g

-- ---- the line

module _ (path : List Part) (s : Document) (pre rest : List Ended) (was : s.ended ≡ pre ++ rest)
    (v : IsLineValue path s pre rest) where
  abbrev name : Name
  name = v.its_line.name

  abbrev held : Value
  held = v.its_line.held

  abbrev r : Reading
  r = reading_after_lines start (map line_of pre)

  abbrev nested : List Mention
  nested = entries_mentions 0 held.nested

  lines_are : lines s ≡ map line_of pre ++ head_line rest s.last ∷ tail_lines rest s.last
  lines_are = ap (λ (es : List Ended). map line_of es ++ s.last ∷ []) was ∙ lines_split pre rest s.last

  -- no node is below the value
  empty : children path (node_paths (mentions_in s)) ≡ [] → held.nested ≡ none
  empty alone =
      let f : Fact = body_fact held.body in
      let p : List Part = r.body ++ step 0 (Some name) in
      let left : List Mention = lines_mentions start (map line_of pre) in
      let dots : List Mention = map (below r.body) (keyed_mentions (keys_of name.key) []) in
      let right : List Mention = lines_mentions r (tail_lines rest s.last) in
      let place : p ++ [] ≡ path = append-nil p ∙ v.its_line.named in
      let its_run : map (below p) (valued_mentions (value f) nested) ≡ run path (value f) nested =
      ap (λ (q : List Part). record { path = q; kind = value f } ∷ map (below p) nested) place
      ∙ ap (λ (q : List Part). record { path = path; kind = value f } ∷ map (below q) nested) v.its_line.named in
      let mentioned : mentions_in s ≡ (left ++ dots) ++ (run path (value f) nested ++ right) =
      ap (lines_mentions start) lines_are
      ∙ whole_mentions (map line_of pre) (tail_lines rest s.last) (head_line rest s.last) name held v.its_line.content
      ∙ ap (λ (ms : List Mention). left ++ (ms ++ right))
      (keyval_run r.body name held ∙ ap (λ (ms : List Mention). dots ++ ms) its_run)
      ∙ regroup left dots (run path (value f) nested) right in
      nothing_nested held.nested (childless path (value f) held.nested (left ++ dots) right
      (subst (λ (ms : List Mention). children path (node_paths ms) ≡ []) mentioned alone))
    where
      regroup : (a b c d : List Mention) → a ++ ((b ++ c) ++ d) ≡ (a ++ b) ++ (c ++ d)
      regroup a b c d = simp append_assoc refl

  pub value_line : v.own.keys ≡ 1 → IsValueLine s path (map line_of pre) held
  value_line one = record {
    line = head_line rest s.last;
    after = tail_lines rest s.last;
    name = name;
    here = lines_are;
    content = v.its_line.content;
    place = v.its_line.named;
    one = one_part name.key.more (sym v.keys ∙ one);
  }

  pub line_of_value : v.own.keys ≡ 1 → children path (node_paths (mentions_in s)) ≡ []
      → IsLineOf s path (map line_of pre) held
  line_of_value one alone = record {
    line = head_line rest s.last;
    after = tail_lines rest s.last;
    name = name;
    here = lines_are;
    content = v.its_line.content;
    place = v.its_line.named;
    one = one_part name.key.more (sym v.keys ∙ one);
    empty = empty alone;
  }

  pub keys_line_of_value : (v.own.keys ≡ 1 → ⊥)
      → (line : IsKeysLineOf s path (map line_of pre) held) × (v.own.keys ≡ key_count line.name.key)
  keys_line_of_value several = by name.key.more refl
    where
      by : (fs : List Further) → name.key.more ≡ fs
          → (line : IsKeysLineOf s path (map line_of pre) held) × (v.own.keys ≡ key_count line.name.key)
      by [] no_more = absurd (several (v.keys ∙ ap (λ (fs : List Further). suc (length fs)) no_more))
      by (next ∷ further) are = (
        record {
          line = head_line rest s.last;
          after = tail_lines rest s.last;
          name = name;
          next = next;
          further = further;
          here = lines_are;
          content = v.its_line.content;
          place = v.its_line.named;
          several = are;
        },
        v.keys,
      )

  pub dots_line_of_value : (n : ℕ) → n < v.own.keys
      → (line : IsDotsLineOf s path (map line_of pre) held) × (length line.passed ≡ n)
      × (v.own.keys ≡ length (line.passed ++ line.first ∷ line.further))
  dots_line_of_value n few =
      let many : v.own.keys ≡ length (keys_of name.key) =
      v.keys ∙ ap suc (sym (length-map name.key.more further_value)) in
      let c : IsCutAt (keys_of name.key) n = cut_at (keys_of name.key) n (omega (arith, few, many)) in (
        record {
          line = head_line rest s.last;
          after = tail_lines rest s.last;
          name = name;
          passed = c.passed;
          first = c.first;
          further = c.further;
          here = lines_are;
          content = v.its_line.content;
          place = v.its_line.named;
          parts = c.whole;
        },
        c.many,
        many ∙ ap (λ (ks : List (List ℕ)). length ks) c.whole,
      )

  pub line_numbers : numbers_after (filter_map line_statement (map line_of pre))
      ≡ record { statement = v.number; value = v.value.number; key = v.own.first_key }
  line_numbers =
      let c : Count = count_from no_count start (filter_map line_statement (map line_of pre)) in
      let h : AreCounted c (after_lines (first_line s) pre) =
      lines_counted (first_line s) pre no_count start (record { statements = refl; values = refl; keys = refl }) in
      same_numbers (numbers_after (filter_map line_statement (map line_of pre)))
      (record { statement = v.number; value = v.value.number; key = v.own.first_key })
      (h.statements ∙ sym v.statements_before) (h.values ∙ sym v.values_before) (h.keys ∙ sym v.keys_before)
