-- Where `set` puts a value with a key in place of another, the numbered mentions of the value give place to those of
-- the new one, and what comes after has its numbers moved by how many values and key parts more, or fewer, there are.
--
-- What a value says is one run of mentions of its keyval (`IsSet`). The numbers after the run are those after the
-- value's own mention, raised by how many values and key parts its entries have (`after_run`), and so are all numbers
-- of what follows in the statement and in the statements after it (`raised_mentions`, `raised_from`). So what follows
-- the old value and what follows the new one are one list, raised by what the entries of each have (`numbers_around`).
-- An item's path ends in its number (`entries_items`), so at a path that ends in a key the value has a name
-- (`value_named`).
--
-- Theorems: `value_set`, and `value_in_place` for a line whose own value is another, whatever the edit.
use Rattle.std.proofs.Common.{◌≡◌, ℕ, suc, ◌+◌, ◌-◌, ◌≤◌, List, [], ◌∷◌, ◌++◌, length, map, refl, sym, ap, ap₂, subst}
use Rattle.std.proofs.Common.{◌∙◌, append_assoc, length-append, arith, Option, Some, None}
use Rattle.std.specs.List.{filter_map}
use Rattle.std.proofs.lemmas.List.{map-append}
use Rattle.std.proofs.lemmas.List.Sums.{fold-append}
use Rattle.keep_syntax.specs.Tree.{Name, Entries, none, entry, Value, keyval, Line, Ended, Document}
use Rattle.keep_syntax.specs.Numbered as syntax
use Rattle.keep_syntax.specs.Numbered.{over_lines, line_values, line_start, next_line, first_line, value_count}
use Rattle.keep_syntax.specs.Numbered.{part_count}
use Rattle.keep_path.specs.Path.{Part, key, index, last_part, EndsInKey}
use Rattle.keep_meaning.specs.Fact.{Fact}
use Rattle.keep_meaning.specs.Marks as marks
use Rattle.keep_meaning.specs.Marks.{MentionKind, value, item, dotted, Mention, Statement, below, Reading}
use Rattle.keep_meaning.specs.Marks.{statement_mentions, next_reading, reading_after, start}
use Rattle.keep_meaning.specs.Meaning.{key_value, further_value, body_fact, valued_mentions, keyed_mentions}
use Rattle.keep_meaning.specs.Meaning.{entry_mentions, entries_mentions, keyval_mentions, statement_of, line_mentions}
use Rattle.keep_meaning.specs.Meaning.{after_line, line_of, lines_mentions, reading_after_lines, lines, mentions_in}
use Rattle.keep_meaning.specs.Counts.{Count, Numbered, is_value, is_mark, one_if, count_with_mention, count_after}
use Rattle.keep_meaning.specs.Counts.{next_count, no_count, numbered_mentions, numbered_from, count_from}
use Rattle.keep_meaning.specs.Counts.{line_statement, statements_in, numbered_in}
use Rattle.keep_meaning.specs.Nodes.{mention_of}
use Rattle.keep_meaning.specs.OtherValues.{HasOtherValue, IsApart, IsSaidBefore, IsSaidPast, count_past, said_by_value}
use Rattle.keep_meaning.specs.OtherValues.{said_past}
use Rattle.keep_meaning.proofs.Shared.{count_after-keys, count_after-values, numbered_mentions-append}
use Rattle.keep_meaning.proofs.Shared.{mentions-numbered_mentions, mentions-numbered_from, lines_mentions-statements}
use Rattle.keep_meaning.proofs.Shared.{marked, marked-append, marked-below, marked-entries, marked-parts, valued}
use Rattle.keep_meaning.proofs.Shared.{valued-append, valued-below, valued-content, valued-entries}
use Rattle.keep_edit_spec.specs.Changed.{Changed}
use Rattle.keep_edit_spec.specs.Edits.{set, change}
use Rattle.keep_edit_spec.proofs.Common.Runs.{AllOf, all_join, all_right, Rules, IsDisjoint}
use Rattle.keep_edit_spec.proofs.Common.SetLaw.{IsSet, run, tag_of}
use Rattle.keep_edit_spec.proofs.Common.StatementNumbers.{reading_lines, count_of_lines, numbered_around}
use Rattle.keep_edit_spec.proofs.Common.SetDocument.{LinesSet, IsLineSet, line_set, one_line_set, whole_mentions}
use Rattle.keep_edit_spec.proofs.Common.SetDocument.{reading_of}
use Rattle.keep_edit_spec.proofs.Set.SetNumbers.{reading_past, the_to}

-- ---- numbers with so many values and key parts more before them

abbrev raised : ℕ → ℕ → Count → Count
raised v k c = record c { values = c.values + v; keys = c.keys + k }

abbrev raised_numbered : ℕ → ℕ → Numbered → Numbered
raised_numbered v k n = record n { before = raised v k n.before }

raised_with : (v k : ℕ) (c : Count) (m : Mention)
    → count_with_mention (raised v k c) m ≡ raised v k (count_with_mention c m)
raised_with v k c m =
    let values : (c.values + v) + one_if (is_value m.kind) ≡ (c.values + one_if (is_value m.kind)) + v = omega arith in
    let keys : (c.keys + k) + one_if (is_mark m.kind) ≡ (c.keys + one_if (is_mark m.kind)) + k = omega arith in
    ap₂ (λ (a b : ℕ). record { statements = c.statements; values = a; keys = b }) values keys

raised_after : (v k : ℕ) (c : Count) (ms : List Mention) → count_after (raised v k c) ms ≡ raised v k (count_after c ms)
raised_after v k c [] = refl
raised_after v k c (m ∷ ms) =
    ap (λ (d : Count). count_after d ms) (raised_with v k c m) ∙ raised_after v k (count_with_mention c m) ms

raised_next : (v k : ℕ) (c : Count) (ms : List Mention) → next_count (raised v k c) ms ≡ raised v k (next_count c ms)
raised_next v k c ms = ap (λ (d : Count). record d { statements = d.statements + 1 }) (raised_after v k c ms)

raised_mentions : (v k : ℕ) (c : Count) (ms : List Mention)
    → numbered_mentions (raised v k c) ms ≡ map (raised_numbered v k) (numbered_mentions c ms)
raised_mentions v k c [] = refl
raised_mentions v k c (m ∷ ms) =
    ap (λ (ns : List Numbered). record { mention = m; before = raised v k c } ∷ ns)
    (ap (λ (d : Count). numbered_mentions d ms) (raised_with v k c m) ∙ raised_mentions v k (count_with_mention c m) ms)

raised_from : (v k : ℕ) (c : Count) (r : Reading) (ss : List Statement)
    → numbered_from (raised v k c) r ss ≡ map (raised_numbered v k) (numbered_from c r ss)
raised_from v k c r [] = refl
raised_from v k c r (s ∷ ss) =
    let ms : List Mention = statement_mentions r s in
    ap₂ (λ (xs ys : List Numbered). xs ++ ys) (raised_mentions v k c ms)
    (ap (λ (d : Count). numbered_from d (next_reading r s) ss) (raised_next v k c ms)
    ∙ raised_from v k (next_count c ms) (next_reading r s) ss)
    ∙ sym (map-append (raised_numbered v k) (numbered_mentions c ms)
    (numbered_from (next_count c ms) (next_reading r s) ss))

-- ---- the numbers after a value

same_count : (c d : Count) → c.statements ≡ d.statements → c.values ≡ d.values → c.keys ≡ d.keys → c ≡ d
same_count c d statements values keys =
    ap₂ (λ (a b : ℕ). record { statements = a; values = b; keys = c.keys }) statements values
    ∙ ap (λ (b : ℕ). record { statements = d.statements; values = d.values; keys = b }) keys

same_statement : (c : Count) (ms : List Mention) → (count_after c ms).statements ≡ c.statements
same_statement c [] = refl
same_statement c (m ∷ ms) = same_statement (count_with_mention c m) ms

-- what a value with a key says, and what is in it
abbrev value_run : List Part → Fact → Entries → List Mention
value_run path f es = run path (value f) (entries_mentions 0 es)

-- after its own mention
abbrev past_own : Count → Count
past_own c = record c { values = c.values + 1; keys = c.keys + 1 }

after_run : (c : Count) (path : List Part) (f : Fact) (es : Entries)
    → count_after c (value_run path f es) ≡ raised (value_count es) (part_count es) (past_own c)
after_run c path f es =
    let ms : List Mention = map (below path) (entries_mentions 0 es) in
    let d : Count = past_own c in
    same_count (count_after d ms) (raised (value_count es) (part_count es) d) (same_statement d ms)
    (count_after-values d ms
    ∙ ap (λ (n : ℕ). d.values + n) (valued-below path (entries_mentions 0 es) ∙ valued-entries 0 es))
    (count_after-keys d ms
    ∙ ap (λ (n : ℕ). d.keys + n) (marked-below path (entries_mentions 0 es) ∙ marked-entries 0 es))

-- A value in a statement, that has `before` and `after` beside it, where so much comes before the statement.
module _ (path : List Part) (f : Fact) (es : Entries) (c : Count) (before after : List Mention) where
  abbrev in_run : List Mention
  in_run = value_run path f es

  abbrev at_run : Count
  at_run = count_after c before

  abbrev values : ℕ
  values = value_count es

  abbrev keys : ℕ
  keys = part_count es

  statement_numbers : numbered_mentions c (before ++ (in_run ++ after))
      ≡ numbered_mentions c before ++ (said_by_value at_run path f es
      ++ map (raised_numbered values keys) (numbered_mentions (past_own at_run) after))
  statement_numbers =
      numbered_mentions-append c before (in_run ++ after)
      ∙ ap (λ (ns : List Numbered). numbered_mentions c before ++ ns) (numbered_mentions-append at_run in_run after
      ∙ ap (λ (ns : List Numbered). said_by_value at_run path f es ++ ns)
      (ap (λ (d : Count). numbered_mentions d after) (after_run at_run path f es)
      ∙ raised_mentions values keys (past_own at_run) after))

  statement_count : next_count c (before ++ (in_run ++ after)) ≡ raised values keys (next_count (past_own at_run) after)
  statement_count =
      ap (λ (d : Count). record d { statements = d.statements + 1 })
      (fold-append count_with_mention c before (in_run ++ after) ∙ fold-append count_with_mention at_run in_run after
      ∙ ap (λ (d : Count). count_after d after) (after_run at_run path f es))
      ∙ raised_next values keys (past_own at_run) after

-- what follows a value in its statement and after it, with the numbers that it had if nothing were in the value
abbrev following : Count → List Mention → Reading → List Statement → List Numbered
following d after r later = numbered_mentions d after ++ numbered_from (next_count d after) r later

regroup : (a b c d e : List Numbered) → a ++ ((b ++ (c ++ d)) ++ e) ≡ (a ++ b) ++ (c ++ (d ++ e))
regroup a b c d e = simp append_assoc refl

numbers_around : (path : List Part) (f : Fact) (es : Entries) (c : Count) (before after : List Mention)
    (earlier : List Numbered) (r : Reading) (later : List Statement)
    → (let ms : List Mention = before ++ (value_run path f es ++ after) in
    let d : Count = count_after c before in
    earlier ++ (numbered_mentions c ms ++ numbered_from (next_count c ms) r later)
    ≡ (earlier ++ numbered_mentions c before)
    ++ (said_by_value d path f es ++ map (raised_numbered (value_count es) (part_count es)) (following (past_own d)
    after r later)))
numbers_around path f es c before after earlier r later =
    let d : Count = count_after c before in
    let more : Numbered → Numbered = raised_numbered (value_count es) (part_count es) in
    let said : List Numbered = said_by_value d path f es in
    let own : List Numbered = numbered_mentions (past_own d) after in
    let next : List Numbered = numbered_from (next_count (past_own d) after) r later in
    ap₂ (λ (xs ys : List Numbered). earlier ++ (xs ++ ys)) (statement_numbers path f es c before after)
    (ap (λ (e : Count). numbered_from e r later) (statement_count path f es c before after)
    ∙ raised_from (value_count es) (part_count es) (next_count (past_own d) after) r later)
    ∙ regroup earlier (numbered_mentions c before) said (map more own) (map more next)
    ∙ ap (λ (ns : List Numbered). (earlier ++ numbered_mentions c before) ++ (said ++ ns))
    (sym (map-append more own next))

-- what follows one value, moved, is what follows the other
past_other : (c : Count) (old new : Entries) (ns : List Numbered)
    → map (said_past c old new) (map (raised_numbered (value_count old) (part_count old)) ns)
    ≡ map (raised_numbered (value_count new) (part_count new)) ns
past_other c old new [] = refl
past_other c old new (n ∷ ns) =
    let values : ((n.before.values + value_count old) + value_count new) - value_count old ≡ n.before.values
    + value_count new = omega arith in
    let keys : ((n.before.keys + part_count old) + part_count new) - part_count old ≡ n.before.keys + part_count new =
    omega arith in
    ap₂ (λ (x : Numbered) (xs : List Numbered). x ∷ xs)
    (ap₂ (λ (v k : ℕ).
    record { mention = n.mention; before = record { statements = n.before.statements; values = v; keys = k } }) values
    keys)
    (past_other c old new ns)

-- ---- numbers before and after a value

-- no more of each
record IsUpTo (c d : Count) : Type 0 where
  values : c.values ≤ d.values
  keys : c.keys ≤ d.keys

up_after : (c : Count) (ms : List Mention) → IsUpTo c (count_after c ms)
up_after c ms = record { values = omega (arith, count_after-values c ms); keys = omega (arith, count_after-keys c ms) }

up_from : (c : Count) (r : Reading) (ss : List Statement) → IsUpTo c (count_from c r ss)
up_from c r [] = record { values = omega arith; keys = omega arith }
up_from c r (s ∷ ss) =
    let ms : List Mention = statement_mentions r s in
    let next : IsUpTo c (count_after c ms) = up_after c ms in
    let more : IsUpTo (next_count c ms) (count_from c r (s ∷ ss)) = up_from (next_count c ms) (next_reading r s) ss in
    record { values = omega (arith, next.values, more.values); keys = omega (arith, next.keys, more.keys) }

lower_mentions : (c : Count) (ms : List Mention) (d : Count) → IsUpTo (count_after c ms) d
    → AllOf (IsSaidBefore d) (numbered_mentions c ms)
lower_mentions c [] d h = tt
lower_mentions c (m ∷ ms) d h =
    let own : IsUpTo c (count_after c (m ∷ ms)) = up_after c (m ∷ ms) in (
      record { values = omega (arith, own.values, h.values); keys = omega (arith, own.keys, h.keys) },
      lower_mentions (count_with_mention c m) ms d h,
    )

lower_from : (c : Count) (r : Reading) (ss : List Statement) (d : Count) → IsUpTo (count_from c r ss) d
    → AllOf (IsSaidBefore d) (numbered_from c r ss)
lower_from c r [] d h = tt
lower_from c r (s ∷ ss) d h =
    let ms : List Mention = statement_mentions r s in
    let more : IsUpTo (next_count c ms) (count_from c r (s ∷ ss)) = up_from (next_count c ms) (next_reading r s) ss in
    all_join (IsSaidBefore d) (numbered_mentions c ms) (numbered_from (next_count c ms) (next_reading r s) ss)
    (lower_mentions c ms d (record {
      values = omega (arith, more.values, h.values);
      keys = omega (arith, more.keys, h.keys);
    }))
    (lower_from (next_count c ms) (next_reading r s) ss d h)

higher_mentions : (c d : Count) (ms : List Mention) → IsUpTo c d → AllOf (IsSaidPast c) (numbered_mentions d ms)
higher_mentions c d [] h = tt
higher_mentions c d (m ∷ ms) h = (
  record { values = h.values; keys = h.keys },
  higher_mentions c (count_with_mention d m) ms
      (record { values = omega (arith, h.values); keys = omega (arith, h.keys) }),
)

higher_from : (c d : Count) (r : Reading) (ss : List Statement) → IsUpTo c d
    → AllOf (IsSaidPast c) (numbered_from d r ss)
higher_from c d r [] h = tt
higher_from c d r (s ∷ ss) h =
    let ms : List Mention = statement_mentions r s in
    let next : IsUpTo d (count_after d ms) = up_after d ms in
    all_join (IsSaidPast c) (numbered_mentions d ms) (numbered_from (next_count d ms) (next_reading r s) ss)
    (higher_mentions c d ms h)
    (higher_from c (next_count d ms) (next_reading r s) ss
    (record { values = omega (arith, h.values, next.values); keys = omega (arith, h.keys, next.keys) }))

higher_following : (d : Count) (after : List Mention) (r : Reading) (later : List Statement)
    → AllOf (IsSaidPast d) (following d after r later)
higher_following d after r later =
    let next : IsUpTo d (count_after d after) = up_after d after in
    all_join (IsSaidPast d) (numbered_mentions d after) (numbered_from (next_count d after) r later)
    (higher_mentions d d after (record { values = omega arith; keys = omega arith }))
    (higher_from d (next_count d after) r later (record { values = next.values; keys = next.keys }))

higher_raised : (c : Count) (es : Entries) (ns : List Numbered) → AllOf (IsSaidPast (past_own c)) ns
    → AllOf (IsSaidPast (count_past c es)) (map (raised_numbered (value_count es) (part_count es)) ns)
higher_raised c es [] h = tt
higher_raised c es (n ∷ ns) h =
    (record { values = omega (arith, h.0.values); keys = omega (arith, h.0.keys) }, higher_raised c es ns h.1)

-- ---- what is said elsewhere

apart : (path : List Part) (ns : List Numbered) → AllOf (IsDisjoint path) (map mention_of ns) → AllOf (IsApart path) ns
apart path [] h = tt
apart path (n ∷ ns) h = (h.0, apart path ns h.1)

apart_raised : (path : List Part) (v k : ℕ) (ns : List Numbered) → AllOf (IsApart path) ns
    → AllOf (IsApart path) (map (raised_numbered v k) ns)
apart_raised path v k [] h = tt
apart_raised path v k (n ∷ ns) h = (h.0, apart_raised path v k ns h.1)

apart_mentions : (path : List Part) (c : Count) (ms : List Mention) → AllOf (IsDisjoint path) ms
    → AllOf (IsApart path) (numbered_mentions c ms)
apart_mentions path c ms h =
    apart path (numbered_mentions c ms)
    (subst (λ (l : List Mention). AllOf (IsDisjoint path) l) (sym (mentions-numbered_mentions c ms)) h)

apart_lines : (path : List Part) (c : Count) (r : Reading) (ls : List Line)
    → AllOf (IsDisjoint path) (lines_mentions r ls)
    → AllOf (IsApart path) (numbered_from c r (filter_map line_statement ls))
apart_lines path c r ls h =
    let ss : List Statement = filter_map line_statement ls in
    let same : lines_mentions r ls ≡ map mention_of (numbered_from c r ss) =
    lines_mentions-statements r ls ∙ sym (mentions-numbered_from c r ss) in
    apart path (numbered_from c r ss) (subst (λ (l : List Mention). AllOf (IsDisjoint path) l) same h)

-- ---- an item's path ends in a number

-- if it is said of an item, its path ends in the item's number
abbrev IsItemAt : Mention → Type 0
IsItemAt m = (f : Fact) → m.kind ≡ item f → (n : ℕ) × (last_part m.path ≡ Some (index n))

last_part-more : (s p : List Part) (x : Part) → last_part p ≡ Some x → last_part (s ++ p) ≡ Some x
last_part-more [] p x e = e
last_part-more (a ∷ []) [] x e = absurd cc
last_part-more (a ∷ []) (b ∷ p) x e = e
last_part-more (a ∷ b ∷ s) p x e = last_part-more (b ∷ s) p x e

items_below : (s : List Part) (ms : List Mention) → AllOf IsItemAt ms → AllOf IsItemAt (map (below s) ms)
items_below s [] h = tt
items_below s (m ∷ ms) h =
    ((λ f e. let at = h.0 f e in (at.0, last_part-more s m.path (index at.0) at.1)), items_below s ms h.1)

items_keyed : (k : List ℕ) (ks : List (List ℕ)) (ms : List Mention) → AllOf IsItemAt ms
    → AllOf IsItemAt (keyed_mentions (k ∷ ks) ms)
items_keyed k [] ms h = items_below (key k ∷ []) ms h
items_keyed k (l ∷ ks) ms h =
    items_below (key k ∷ []) (record { path = []; kind = dotted } ∷ keyed_mentions (l ∷ ks) ms)
    ((λ f e. absurd cc), items_keyed l ks ms h)

items_named : (n : ℕ) (name : Option Name) (f : Fact) (nested : List Mention) → AllOf IsItemAt nested
    → AllOf IsItemAt (entry_mentions n name f nested)
items_named n None f nested h = ((λ g e. (n, refl)), items_below (index n ∷ []) nested h)
items_named n (Some name) f nested h =
    items_keyed (key_value name.key.first) (map further_value name.key.more) (valued_mentions (value f) nested)
    ((λ g e. absurd cc), h)

entries_items : (n : ℕ) (es : Entries) → AllOf IsItemAt (entries_mentions n es)
entries_items n none = tt
entries_items n (entry name body nested after comma rest) =
    all_join IsItemAt (entry_mentions n name (body_fact body) (entries_mentions 0 nested))
    (entries_mentions (n + 1) rest)
    (items_named n name (body_fact body) (entries_mentions 0 nested) (entries_items 0 nested))
    (entries_items (n + 1) rest)

-- So what is said at a path that ends in a key is said of a value with a name.
value_named : (name : Option Name) (path : List Part) (f : Fact) (before nested after : List Mention)
    → AllOf IsItemAt (before ++ (run path (tag_of name f) nested ++ after)) → EndsInKey path → (g : Fact)
    → tag_of name g ≡ value g
value_named (Some name) path f before nested after h ends g = refl
value_named None path f before nested after h ends g =
    let at = (all_right IsItemAt before (run path (item f) nested ++ after) h).0 f refl in
    let no : Some (key ends.0) ≡ Some (index at.0) = sym ends.1 ∙ at.1 in
    absurd cc

-- ---- how many values and key parts there are

valued-lines : (r : Reading) (c : syntax.Count) (es : List Ended) (last : Line)
    → valued (lines_mentions r (map line_of es ++ last ∷ []))
    ≡ length (over_lines (λ c l line_end. line_values c l) c es last)
valued-lines r c [] last =
    omega (arith, valued-append (line_mentions r last) [], valued-content r (line_start c last) last.content)
valued-lines r c (e ∷ es) last =
    omega (
      arith,
      valued-append (line_mentions r e.line) (lines_mentions (after_line r e.line) (map line_of es ++ last ∷ [])),
      valued-content r (line_start c e.line) e.line.content,
      length-append (line_values c e.line) (over_lines (λ c l line_end. line_values c l) (next_line c e) es last),
      valued-lines (after_line r e.line) (next_line c e) es last,
    )

-- a document states as many values as it has
pub valued-values : (s : Document) → valued (mentions_in s) ≡ length (syntax.values s)
valued-values s = valued-lines start (first_line s) s.ended s.last

-- what a document says, where a value is in the middle
abbrev with_run : List Mention → List Mention → List Mention → List Mention → List Part → Fact → Entries → List Mention
with_run left before after right path f es = left ++ ((before ++ (value_run path f es ++ after)) ++ right)

values_around : (left before after right : List Mention) (path : List Part) (f : Fact) (es : Entries)
    → valued (with_run left before after right path f es)
    ≡ (valued left + (valued before + (valued after + valued right))) + suc (value_count es)
values_around left before after right path f es =
    omega (
      arith,
      valued-append left ((before ++ (value_run path f es ++ after)) ++ right),
      valued-append (before ++ (value_run path f es ++ after)) right,
      valued-append before (value_run path f es ++ after),
      valued-append (value_run path f es) after,
      valued-below path (entries_mentions 0 es),
      valued-entries 0 es,
    )

keys_around : (left before after right : List Mention) (path : List Part) (f : Fact) (es : Entries)
    → marked (with_run left before after right path f es)
    ≡ (marked left + (marked before + (marked after + marked right))) + suc (part_count es)
keys_around left before after right path f es =
    omega (
      arith,
      marked-append left ((before ++ (value_run path f es ++ after)) ++ right),
      marked-append (before ++ (value_run path f es ++ after)) right,
      marked-append before (value_run path f es ++ after),
      marked-append (value_run path f es) after,
      marked-below path (entries_mentions 0 es),
      marked-entries 0 es,
    )

-- ---- in the document

-- what the line with that value says of its value, before and after, and what other lines say
abbrev pub IsOneSet : (s s' : Document) (path : List Part) (new : Value) → LinesSet start path new (lines s) (lines s')
    → Type 0
IsOneSet s s' path new h =
    let r : Reading = reading_after_lines start h.pre in
    let said_by : Value → List Mention = λ v. map (below r.body) (keyval_mentions h.content.name v) in
    IsLineSet path new (lines_mentions start h.pre) (said_by h.content.old) (said_by h.content.now)
    (lines_mentions r h.post)

-- another value, in the place where the line says the one before
pub record IsOtherValue (s s' : Document) (path : List Part) (new : Value)
    (h : LinesSet start path new (lines s) (lines s')) (one : IsOneSet s s' path new h) : Type 0 where
  pub other : HasOtherValue s s' path new
  pub fact : other.fact ≡ one.set.fact
  pub entries : other.entries ≡ one.set.entries
  pub count : other.count ≡ count_after (count_of_lines h.pre) one.set.before

module _ (s s' : Document) (path : List Part) (new : Value) (h : LinesSet start path new (lines s) (lines s'))
    (one : IsOneSet s s' path new h) (ends : EndsInKey path) where
  abbrev reading : Reading
  reading = reading_after_lines start h.pre

  abbrev left : List Mention
  left = lines_mentions start h.pre

  abbrev right : List Mention
  right = lines_mentions reading h.post

  abbrev said_by : Value → List Mention
  said_by v = map (below reading.body) (keyval_mentions h.content.name v)

  abbrev is_set : IsSet path new (said_by h.content.old) (said_by h.content.now)
  is_set = one.set

  items : AllOf IsItemAt (said_by h.content.old)
  items =
      let v : Value = h.content.old in
      items_below reading.body (keyval_mentions h.content.name v)
      (items_named 0 (Some h.content.name) (body_fact v.body) (entries_mentions 0 v.nested) (entries_items 0 v.nested))

  named : (g : Fact) → tag_of is_set.name g ≡ value g
  named =
      value_named is_set.name path is_set.fact is_set.before (entries_mentions 0 is_set.entries) is_set.after
      (subst (λ (l : List Mention). AllOf IsItemAt l) is_set.was items) ends

  was : said_by h.content.old ≡ is_set.before ++ (value_run path is_set.fact is_set.entries ++ is_set.after)
  was = is_set.was
      ∙ ap (λ (k : MentionKind). is_set.before ++ (run path k (entries_mentions 0 is_set.entries) ++ is_set.after))
      (named is_set.fact)

  is : said_by h.content.now ≡ is_set.before ++ (value_run path (body_fact new.body) new.nested ++ is_set.after)
  is =
      is_set.is
      ∙ ap (λ (k : MentionKind). is_set.before ++ (run path k (entries_mentions 0 new.nested) ++ is_set.after))
      (named (body_fact new.body))

  abbrev lines_count : Count
  lines_count = count_of_lines h.pre

  abbrev count : Count
  count = count_after lines_count is_set.before

  abbrev earlier : List Numbered
  earlier = numbered_from no_count start (filter_map line_statement h.pre)

  abbrev said_before : List Numbered
  said_before = earlier ++ numbered_mentions lines_count is_set.before

  abbrev later : List Statement
  later = filter_map line_statement h.post

  abbrev said_after : List Numbered
  said_after = following (past_own count) is_set.after reading later

  abbrev said_after_value : Entries → List Numbered
  said_after_value es = map (raised_numbered (value_count es) (part_count es)) said_after

  -- The document has this value at the path, and says all else that both documents say.
  record IsWith (d : Document) (f : Fact) (es : Entries) : Type 0 where
    numbers : numbered_in d ≡ said_before ++ (said_by_value count path f es ++ said_after_value es)
    values : length (syntax.values d) ≡ (valued left + (valued is_set.before + (valued is_set.after + valued right)))
        + suc (value_count es)
    keys : length (syntax.parts d) ≡ (marked left + (marked is_set.before + (marked is_set.after + marked right)))
        + suc (part_count es)

  is_with : (d : Document) (l : Line) (v : Value) (f : Fact) (es : Entries) → lines d ≡ h.pre ++ l ∷ h.post
      → l.content ≡ keyval h.content.name v
      → said_by v ≡ is_set.before ++ (value_run path f es ++ is_set.after) → IsWith d f es
  is_with d l v f es whole content said =
      let here : List Mention = with_run left is_set.before is_set.after right path f es in
      let mentioned : mentions_in d ≡ here =
      ap (lines_mentions start) whole ∙ whole_mentions h.pre h.post l h.content.name v content
      ∙ ap (λ (ms : List Mention). left ++ (ms ++ right)) said in
      record {
        numbers = ap (λ (ls : List Line). numbered_from no_count start (filter_map line_statement ls)) whole
            ∙ numbered_around h.pre h.post l (marks.keyval (keyval_mentions h.content.name v)) (ap statement_of content)
            ∙ ap (λ (ms : List Mention).
            earlier ++ (numbered_mentions lines_count ms ++ numbered_from (next_count lines_count ms) reading later))
            said
            ∙ numbers_around path f es lines_count is_set.before is_set.after earlier reading later;
        values =
            sym (valued-values d) ∙ ap valued mentioned ∙ values_around left is_set.before is_set.after right path f es;
        keys = sym (marked-parts d) ∙ ap marked mentioned ∙ keys_around left is_set.before is_set.after right path f es;
      }

  old_with : IsWith s is_set.fact is_set.entries
  old_with = is_with s h.old h.content.old is_set.fact is_set.entries h.was h.content.was was

  new_with : IsWith s' (body_fact new.body) new.nested
  new_with = is_with s' h.now h.content.now (body_fact new.body) new.nested h.is h.content.is is

  all_lower : AllOf (IsSaidBefore count) said_before
  all_lower =
      let up : IsUpTo lines_count count = up_after lines_count is_set.before in
      all_join (IsSaidBefore count) earlier (numbered_mentions lines_count is_set.before)
      (lower_from no_count start (filter_map line_statement h.pre) count up)
      (lower_mentions lines_count is_set.before count (record { values = omega arith; keys = omega arith }))

  all_apart : AllOf (IsApart path) said_after
  all_apart =
      let own : Count = past_own count in
      all_join (IsApart path) (numbered_mentions own is_set.after)
      (numbered_from (next_count own is_set.after) reading later)
      (apart_mentions path own is_set.after is_set.disjoint_after)
      (apart_lines path (next_count own is_set.after) reading h.post one.disjoint_right)

  same_reading : reading_after start (statements_in s') ≡ reading_after start (statements_in s)
  same_reading =
      let x = h.content in
      reading_lines start (lines s') ∙ ap (reading_after_lines start) h.is
      ∙ reading_past start h.pre h.post h.now h.old
      (λ q. reading_of q h.now x.name x.now x.is ∙ sym (reading_of q h.old x.name x.old x.was))
      ∙ sym (ap (reading_after_lines start) h.was) ∙ sym (reading_lines start (lines s))

  abbrev lines_value_set : HasOtherValue s s' path new
  lines_value_set = record {
    fact = is_set.fact;
    entries = is_set.entries;
    count = count;
    before = said_before;
    after = said_after_value is_set.entries;
    old = old_with.numbers;
    new = new_with.numbers
        ∙ ap (λ (ns : List Numbered). said_before ++ (said_by_value count path (body_fact new.body) new.nested ++ ns))
        (sym (past_other count is_set.entries new.nested said_after));
    lower = all_lower;
    higher =
        higher_raised count is_set.entries said_after (higher_following (past_own count) is_set.after reading later);
    apart_before = all_join (IsApart path) earlier (numbered_mentions lines_count is_set.before)
        (apart_lines path no_count start h.pre one.disjoint_left)
        (apart_mentions path lines_count is_set.before is_set.disjoint_before);
    apart_after = apart_raised path (value_count is_set.entries) (part_count is_set.entries) said_after all_apart;
    values = omega (arith, old_with.values, new_with.values);
    keys = omega (arith, old_with.keys, new_with.keys);
    tables = ap (λ (r : Reading). r.tables) same_reading;
  }

  pub value_in_place : IsOtherValue s s' path new h one
  value_in_place = record { other = lines_value_set; fact = refl; entries = refl; count = refl }

-- At a path that ends in a key, `set` puts the value in the place of the one there, and all else is said as before.
pub value_set : (s : Document) (path : List Part) (new : Value) (c : Changed Document) → Rules (mentions_in s)
    → change s (set path new) ≡ Some c → EndsInKey path → HasOtherValue s c.to path new
value_set s path new c rules e ends =
    let lines_changed : LinesSet start path new (lines s) (lines c.to) =
    the_to (λ s'. LinesSet start path new (lines s) (lines s')) (change s (set path new)) c e
    (one_line_set s path new) in
    (value_in_place s c.to path new lines_changed (line_set path new (lines s) (lines c.to) rules lines_changed)
    ends).other
