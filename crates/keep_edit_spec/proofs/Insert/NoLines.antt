-- Where a value is, no line begins a body at or under its path, and no line's key or header continues from there.
--
-- Each of the three tests of a line that an insert makes means that the line says something at the path: a body that
-- begins there, a header that goes through it, a dotted key that continues from it. But a value is alone at its path,
-- and nothing else is under it. So no line passes (`disjoint_fail`), apart from the line of the value itself, whose own
-- key and value are looked at one by one.
--
-- Theorems: `value_no_lines`; `value_none`, of any test of lines that say something there; `value_no_begins`.
use Rattle.std.proofs.Common.{◌≡◌, ℕ, Bool, true, false, List, [], ◌∷◌, ◌++◌, map, refl, sym, ap, subst, ◌∙◌}
use Rattle.std.proofs.Common.{append_assoc, Option, Some, None, inl, inr}
use Rattle.std.specs.Prelude.{⊤}
use Rattle.std.proofs.lemmas.Bool.{and_parts}
use Rattle.std.proofs.lemmas.List.{map-append}
use Rattle.keep_syntax.specs.Tree.{Written, Gap, Name, Value, Content, blank, keyval, header, element, Line, Document}
use Rattle.keep_syntax.specs.Tree.{bom_leaves, text_of}
use Rattle.keep_path.specs.Path.{Part}
use Rattle.keep_meaning.specs.Marks.{MentionKind, Mention, Reading, start, below, value}
use Rattle.keep_meaning.specs.Meaning.{key_value, further_value, keys_of, body_fact, valued_mentions, keyed_mentions}
use Rattle.keep_meaning.specs.Meaning.{entries_mentions, step, keyval_mentions, line_mentions, after_line}
use Rattle.keep_meaning.specs.Meaning.{lines_mentions, reading_after_lines, lines, mentions_in}
use Rattle.keep_meaning.specs.Nodes.{is_dotted, is_through, has}
use Rattle.keep_edit_spec.specs.Changed.{Changed}
use Rattle.keep_edit_spec.specs.Values.{Act, replacement}
use Rattle.keep_edit_spec.specs.Lines.{Page, in_lines, in_line, with_page, last_line, begins, is_header, leads_through}
use Rattle.keep_edit_spec.specs.Lines.{leads_dotted}
use Rattle.keep_edit_spec.specs.Edits.{end_of, nested}
use Rattle.keep_edit_spec.proofs.Common.Runs.{AllOf, SomeOf, all_left, all_right, Rules, IsDisjoint, some_left}
use Rattle.keep_edit_spec.proofs.Common.SetLaw.{IsAloneAt, keyed_split, keyed_disjoint, disjoint_below}
use Rattle.keep_edit_spec.proofs.Common.SetDocument.{whole_mentions}
use Rattle.keep_edit_spec.proofs.Common.BodyEnd.{IsStated, begins_stated}
use Rattle.keep_edit_spec.proofs.Common.Doubles.{IsMentioned, has_some}
use Rattle.keep_edit_spec.proofs.Common.DoneInDocument.{IsDoneInLines, done_lines}
use Rattle.keep_edit_spec.proofs.Common.InValue.{IsBeside, beside_keyval}
use Rattle.keep_edit_spec.proofs.Common.ValueThere.{the_some, some_nested}
use Rattle.keep_edit_spec.proofs.Insert.Gives.{IsNamedAt, never_named}
use Rattle.keep_edit_spec.proofs.Insert.InsertWhole.{has_lines}
use Rattle.keep_edit_spec.proofs.Insert.ItemPlaces.{within_is, of_some}

-- ---- lines that do not pass

abbrev AllFail : (Reading → Line → Bool) → Reading → List Line → Type 0
AllFail test r [] = ⊤
AllFail test r (l ∷ ls) = (test r l ≡ false) × AllFail test (after_line r l) ls

fail_none : (test : Reading → Line → Bool) (r : Reading) (ls : List Line) → AllFail test r ls
    → last_line test r ls ≡ None
fail_none test r [] h = refl
fail_none test r (l ∷ ls) h = rw (fail_none test (after_line r l) ls h.1, h.0) refl

fail_join : (test : Reading → Line → Bool) (r : Reading) (a b : List Line) → AllFail test r a
    → AllFail test (reading_after_lines r a) b → AllFail test r (a ++ b)
fail_join test r [] b h g = g
fail_join test r (l ∷ a) b h g = (h.0, fail_join test (after_line r l) a b h.1 g)

-- a line that passes says something of the path
abbrev pub StatesEdits : List Part → (Reading → Line → Bool) → Type 0
StatesEdits p test = (r : Reading) (l : Line) → test r l ≡ true → SomeOf (IsNamedAt p) (line_mentions r l)

disjoint_fail : (p x : List Part) (test : Reading → Line → Bool) → StatesEdits (p ++ x) test
    → (r : Reading) (ls : List Line) → AllOf (IsDisjoint p) (lines_mentions r ls) → AllFail test r ls
disjoint_fail p x test tells r [] h = tt
disjoint_fail p x test tells r (l ∷ ls) h = (
  by (test r l) refl,
  disjoint_fail p x test tells (after_line r l) ls
      (all_right (IsDisjoint p) (line_mentions r l) (lines_mentions (after_line r l) ls) h),
)
  where
    by : (b : Bool) → test r l ≡ b → test r l ≡ false
    by false e = e
    by true e =
        absurd (never_named p x (line_mentions r l)
        (all_left (IsDisjoint p) (line_mentions r l) (lines_mentions (after_line r l) ls) h) (tells r l e))

-- ---- what the lines tell of

named_of_stated : (p : List Part) (ms : List Mention) → SomeOf (IsStated p) ms → SomeOf (IsNamedAt p) ms
named_of_stated p [] s = s
named_of_stated p (m ∷ ms) (inl h) = inl h.0
named_of_stated p (m ∷ ms) (inr s) = inr (named_of_stated p ms s)

named_of_mentions : (is : MentionKind → Bool) (p : List Part) (ms : List Mention) → SomeOf (IsMentioned is p) ms
    → SomeOf (IsNamedAt p) ms
named_of_mentions is p [] s = s
named_of_mentions is p (m ∷ ms) (inl h) = inl h.0
named_of_mentions is p (m ∷ ms) (inr s) = inr (named_of_mentions is p ms s)

begins_states : (p : List Part) → StatesEdits p (begins p)
begins_states p r l e = named_of_stated p (line_mentions r l) (begins_stated p r l e)

through_states : (p : List Part) → StatesEdits p (leads_through p)
through_states p r l e =
    named_of_mentions is_through p (line_mentions r l)
    (has_some is_through p (line_mentions r l)
    (and_parts (is_header l.content) (has is_through p (line_mentions r l)) e).1)

-- a line's own key
own_dotted : (p body : List Part) (name : Name)
    → has is_dotted p (map (below body) (keyed_mentions (keys_of name.key) [])) ≡ true
    → SomeOf (IsNamedAt p) (map (below body) (keyed_mentions (keys_of name.key) []))
own_dotted p body name e =
    named_of_mentions is_dotted p _ (has_some is_dotted p (map (below body) (keyed_mentions (keys_of name.key) [])) e)

dotted_states : (p : List Part) → StatesEdits p (leads_dotted p)
dotted_states p r l e = by l.before l.after l.comment l.content e
  where
    by : (before after : Gap) (comment : Option Written) (c : Content)
        → (let l : Line = record { before = before; content = c; after = after; comment = comment } in
        leads_dotted p r l ≡ true → SomeOf (IsNamedAt p) (line_mentions r l))
    by before after comment blank e = absurd cc
    by before after comment (header b k a) e = absurd cc
    by before after comment (element b k a) e = absurd cc
    by before after comment (keyval name v) e =
        let vs : List Mention = valued_mentions (value (body_fact v.body)) (entries_mentions 0 v.nested) in
        subst (λ (ms : List Mention). SomeOf (IsNamedAt p) ms)
        (sym (ap (map (below r.body)) (keyed_split (keys_of name.key) vs)
        ∙ map-append (below r.body) (keyed_mentions (keys_of name.key) []) _))
        (some_left (IsNamedAt p) (map (below r.body) (keyed_mentions (keys_of name.key) [])) _
        (own_dotted p r.body name e))

end_none : (s : Document) (a : List Part) → (a ≡ [] → ⊥) → last_line (begins a) start (lines s) ≡ None
    → end_of s a ≡ None
end_none s [] some e = absurd (some refl)
end_none s (p ∷ ps) some e = rw (e, end_of) refl

-- ---- the line of the value

abbrev probe : Act
probe more v = replacement v more v

line_of_value : (at : List Part) (s : Document) → Rules (mentions_in s) → SomeOf (IsAloneAt at) (mentions_in s)
    → (c : Changed Page) × IsDoneInLines probe start at (record { ended = s.ended; last = s.last }) c
line_of_value at s rules alone =
    let (c, e) = the_some (nested probe at s) (some_nested probe (λ v. tt) at s rules alone) in
    let w = within_is (with_page s) (text_of (bom_leaves s.bom)) [] (in_lines (in_line probe at) start s.ended s.last) c
    e in (
      w.inner,
      of_some (IsDoneInLines probe start at (record { ended = s.ended; last = s.last }))
          (in_lines (in_line probe at) start s.ended s.last) w.inner w.is
          (done_lines probe (λ p ps v. refl) at start s.ended s.last),
    )

module _ (s : Document) (rules : Rules (mentions_in s)) (pre post : List Line) (l : Line) (name : Name) (v : Value)
    (was : lines s ≡ pre ++ l ∷ post) (content : l.content ≡ keyval name v) (x : List Part) where
  abbrev r : Reading
  r = reading_after_lines start pre

  abbrev p : List Part
  p = r.body ++ step 0 (Some name)

  abbrev a : List Part
  a = p ++ x

  beside : IsBeside p (lines_mentions start pre) (map (below r.body) (keyval_mentions name v)) (lines_mentions r post)
  beside =
      beside_keyval pre post name v (subst Rules
      (ap (lines_mentions start) was ∙ whole_mentions pre post l name v content) rules)

  -- nor does the line itself pass
  none_by : (test : Reading → Line → Bool) → StatesEdits a test → test r l ≡ false
      → last_line test start (lines s) ≡ None
  none_by test tells own =
      let same : after_line r l ≡ r =
      ap (λ (c : Content).
      after_line r (record { before = l.before; content = c; after = l.after; comment = l.comment })) content in
      ap (last_line test start) was
      ∙ fail_none test start (pre ++ l ∷ post)
      (fail_join test start pre (l ∷ post) (disjoint_fail p x test tells start pre beside.before)
      (own, subst (λ (q : Reading). AllFail test q post) (sym same) (disjoint_fail p x test tells r post beside.after)))

  no_header : is_header l.content ≡ false
  no_header = ap is_header content

  no_begins : last_line (begins a) start (lines s) ≡ None
  no_begins = none_by (begins a) (begins_states a) (rw no_header refl)

  no_through : last_line (leads_through a) start (lines s) ≡ None
  no_through = none_by (leads_through a) (through_states a) (rw no_header refl)

  no_dotted : last_line (leads_dotted a) start (lines s) ≡ None
  no_dotted =
      none_by (leads_dotted a) (dotted_states a)
      (ap (λ (c : Content).
      leads_dotted a r (record { before = l.before; content = c; after = l.after; comment = l.comment })) content
      ∙ by (has is_dotted a ways) refl)
    where
      ways : List Mention
      ways = map (below r.body) (keyed_mentions (keys_of name.key) [])

      by : (b : Bool) → has is_dotted a ways ≡ b → has is_dotted a ways ≡ false
      by false e = e
      by true e =
          absurd (never_named p x ways (disjoint_below r.body (step 0 (Some name))
          (keyed_mentions (keys_of name.key) [])
          (keyed_disjoint (key_value name.key.first) (map further_value name.key.more))) (own_dotted a r.body name e))

  no_end : end_of s a ≡ None
  no_end = end_none s a (some r.body) no_begins
    where
      some : (body : List Part) → (body ++ step 0 (Some name)) ++ x ≡ [] → ⊥
      some [] e = absurd cc
      some (b ∷ bs) e = absurd cc

-- No line has to do with what is at or under a value's path.
pub value_no_lines : (s : Document) (at dots : List Part) → Rules (mentions_in s)
    → SomeOf (IsAloneAt at) (mentions_in s) → has_lines s (at ++ dots) ≡ false
value_no_lines s at dots rules alone =
    let (c, d) = line_of_value at s rules alone in
    let whole : at ++ dots ≡ ((reading_after_lines start d.pre).body ++ step 0 (Some d.name)) ++ (d.more ++ dots) =
    ap (λ (q : List Part). q ++ dots) d.place
    ∙ append_assoc ((reading_after_lines start d.pre).body ++ step 0 (Some d.name)) d.more dots in
    ap (has_lines s) whole
    ∙ none_of (((reading_after_lines start d.pre).body ++ step 0 (Some d.name)) ++ (d.more ++ dots))
    (no_end s rules d.pre d.post d.line d.name d.value d.was d.content (d.more ++ dots))
    (no_dotted s rules d.pre d.post d.line d.name d.value d.was d.content (d.more ++ dots))
    (no_through s rules d.pre d.post d.line d.name d.value d.was d.content (d.more ++ dots))
  where
    none_by : (o p q : Option ℕ) → o ≡ None → p ≡ None → q ≡ None
        → elim o [ Some n ↦ true | None ↦ elim p [ Some i ↦ true | None ↦ elim q [ Some i ↦ true | None ↦ false ] ] ]
        ≡ false
    none_by o p q e f g = rw (e, f, g) refl

    none_of : (a : List Part) → end_of s a ≡ None → last_line (leads_dotted a) start (lines s) ≡ None
        → last_line (leads_through a) start (lines s) ≡ None → has_lines s a ≡ false
    none_of a e f g =
        none_by (end_of s a) (last_line (leads_dotted a) start (lines s)) (last_line (leads_through a) start (lines s))
        e f g

-- Nor does any line pass a test of lines that say something at or under the path, if the value's own line does not.
pub value_none : (s : Document) (at dots : List Part) → Rules (mentions_in s) → SomeOf (IsAloneAt at) (mentions_in s)
    → (test : Reading → Line → Bool) → StatesEdits (at ++ dots) test
    → ((r : Reading) (l : Line) (name : Name) (v : Value) (more : List Part) → l.content ≡ keyval name v
    → at ≡ (r.body ++ step 0 (Some name)) ++ more → test r l ≡ false)
    → last_line test start (lines s) ≡ None
value_none s at dots rules alone test tells own =
    let (c, d) = line_of_value at s rules alone in
    let r : Reading = reading_after_lines start d.pre in
    let whole : at ++ dots ≡ (r.body ++ step 0 (Some d.name)) ++ (d.more ++ dots) =
    ap (λ (q : List Part). q ++ dots) d.place ∙ append_assoc (r.body ++ step 0 (Some d.name)) d.more dots in
    none_by s rules d.pre d.post d.line d.name d.value d.was d.content (d.more ++ dots) test
    (subst (λ (q : List Part). StatesEdits q test) whole tells)
    (own r d.line d.name d.value d.more d.content d.place)

pub value_no_begins : (s : Document) (at dots : List Part) → Rules (mentions_in s)
    → SomeOf (IsAloneAt at) (mentions_in s) → last_line (begins (at ++ dots)) start (lines s) ≡ None
value_no_begins s at dots rules alone =
    value_none s at dots rules alone (begins (at ++ dots)) (begins_states (at ++ dots))
    (λ r l name v more content place.
    let no_header : is_header l.content ≡ false = ap is_header content in rw no_header refl)
