-- The document after a remove that takes a table or an element with its header: which lines are left, what they say,
-- and where they begin.
--
-- The header and its body are some lines in a row (`lines_were`), and the others are left (`lines_are`). The paths of
-- later elements of the array are others then: each path goes where `goes` takes it, but those elsewhere than at the
-- changed path and below it stay (`stays_apart`). So there the facts are the same (`fact_now`). A line before the
-- header begins where it did, and one after the body earlier by the bytes of the lines that went (`width_beyond`).
--
-- Theorems: `is_now`, `lines_were`, `lines_are`: the lines; `left`, `behind`, `stays_apart`: the paths; `kinds_mid`,
-- `fact_now`, `kinds_unsaid`: what they say; `start_is`, `end_is`, `takes`, `has_bytes`, `begins_elsewhere`, `few`,
-- `length_was`: the lines that go; `start_before`, `start_from`, `at_before`, `at_from`: where the others begin.
use Rattle.std.proofs.Common.{◌≡◌, ◌≢◌, ℕ, zero, suc, ◌+◌, ◌-◌, ◌<◌, ◌≤◌, Bool, true, false, cond, List, [], ◌∷◌, ◌++◌}
use Rattle.std.proofs.Common.{length, map, take, refl, sym, ap, ◌∙◌, append_assoc, length-append, arith, None, inl, inr}
use Rattle.std.specs.List.{list_any}
use Rattle.std.specs.Prelude.{nat_lt, filter_map, ⊤}
use Rattle.std.proofs.Math.Seq.{take-append_seam}
use Rattle.std.proofs.lemmas.Bool.{le-ltb, lt-ltb}
use Rattle.std.proofs.lemmas.List.{map-append, take-append-le}
use Rattle.keep_types.specs.declared.leaf.Profile.{Profile}
use Rattle.keep_syntax.specs.Tree.{Document, Ended, Line, bom_leaves, text_of}
use Rattle.keep_path.specs.Path.{Part, strip}
use Rattle.keep_meaning.specs.Marks.{MentionKind, fact_of}
use Rattle.keep_meaning.specs.Meaning.{after_line, line_of, lines, mentions_in}
use Rattle.keep_meaning.specs.Nodes.{fact_at, first_of, kinds_at}
use Rattle.keep_edit_spec.specs.ClearedLines.{line_start}
use Rattle.keep_edit_spec.specs.Edits.{edited_document, remove}
use Rattle.keep_edit_spec.specs.ElementRuns.{changed_path}
use Rattle.keep_edit_spec.specs.Laws.{IsEditable}
use Rattle.keep_edit_spec.specs.RemovedHeaders.{RemovesElement, RemovesHeader}
use Rattle.keep_edit_spec.specs.RemovedSections.{RemovesSection}
use Rattle.keep_edit_spec.specs.TextChanges.{IsBeside, TextChange, moved_by}
use Rattle.keep_edit_spec.proofs.Common.Cuts.{cut_by}
use Rattle.keep_edit_spec.proofs.Common.HeadersGo.{Goes}
use Rattle.keep_edit_spec.proofs.Common.Moves.{mentions_moved, moved}
use Rattle.keep_edit_spec.proofs.Lists.ChangedPath.{array_changed, key_changed}
use Rattle.keep_edit_spec.proofs.Lists.HeaderLeft as left_of
use Rattle.keep_edit_spec.proofs.Lists.HeaderLeft.{IsLeft}
use Rattle.keep_edit_spec.proofs.Lists.HeaderTaken as taken_of
use Rattle.keep_edit_spec.proofs.Lists.HeaderTaken.{IsHeaderTaken, element_taken, table_ends, table_taken}
use Rattle.keep_edit_spec.proofs.Lists.OwnLine.{kinds_cut}
use Rattle.keep_edit_spec.proofs.Lists.Places.{width, width_grows, width_more, width_stays}
use Rattle.keep_edit_spec.proofs.Lists.SectionAt as at_of
use Rattle.keep_edit_spec.proofs.Lists.SectionAt.{IsSectionAt}
use Rattle.keep_edit_spec.proofs.Lists.SectionsApart as sections
use Rattle.keep_edit_spec.proofs.Lists.SectionsApart.{after_split, more, without}
use Rattle.keep_edit_spec.proofs.Remove.Shift.{disjoint_element, shifted, shifted_disjoint}

-- ---- the lengths of the lines before one, without some in a row

width_past : (gone more : List Ended) (k i : ℕ) → k ≡ i + length gone
    → width (take k (gone ++ more)) ≡ width (take i more) + width gone
width_past [] more k i is =
    let same : k ≡ i = omega (arith, is) in
    ap (λ (j : ℕ). width (take j more)) same ∙ omega arith
width_past (x ∷ gone) more zero i is = absurd (let h : 0 ≡ i + suc (length gone) = is in omega (arith, h))
width_past (x ∷ gone) more (suc k) i is =
    let h : suc k ≡ i + suc (length gone) = is in
    omega (
      arith,
      width_more x (take k (gone ++ more)),
      width_more x gone,
      width_past gone more k i (omega (arith, h)),
    )

width_beyond : (first gone more : List Ended) (k i : ℕ) → length first ≤ i → k ≡ i + length gone
    → width (take k (first ++ (gone ++ more))) ≡ width (take i (first ++ more)) + width gone
width_beyond [] gone more k i far is = width_past gone more k i is
width_beyond (x ∷ first) gone more k zero far is =
    absurd (let h : suc (length first) ≤ 0 = far in omega (arith, h))
width_beyond (x ∷ first) gone more zero (suc i) far is = absurd (omega (arith, is))
width_beyond (x ∷ first) gone more (suc k) (suc i) far is =
    let h : suc (length first) ≤ suc i = far in
    omega (
      arith,
      width_more x (take k (first ++ (gone ++ more))),
      width_more x (take i (first ++ more)),
      width_beyond first gone more k i (omega (arith, h)) (omega (arith, is)),
    )

-- ---- a table or an element

module _ (profile : Profile) (limit : ℕ) (s : Document) (path : List Part) (c : TextChange)
    (fine : IsEditable profile limit s) where
  abbrev pub taken : RemovesHeader profile limit s path c → IsHeaderTaken profile limit s path c
  taken (inl h) = table_taken profile limit s path c fine h
  taken (inr h) = element_taken profile limit s path c fine h

  -- paths that are not gone, and where they go
  abbrev pub stays : RemovesHeader profile limit s path c → List Part → Type 0
  stays (inl h) = λ q. ⊤
  stays (inr h) = left_of.stays profile limit s path c fine h

  abbrev pub goes : RemovesHeader profile limit s path c → List Part → List Part
  goes (inl h) = λ q. q
  goes (inr h) = shifted (left_of.array profile limit s path c fine h) (left_of.number profile limit s path c fine h)

  pub left : (h : RemovesHeader profile limit s path c) → IsLeft (stays h) (goes h) s path (taken h).at
  left (inl h) = left_of.table_left profile limit s path c fine h
  left (inr h) = left_of.element_left profile limit s path c fine h

  -- ---- the changed path

  pub table_changed : RemovesSection profile limit s path c → changed_path path ≡ path
  table_changed h = key_changed path (table_ends profile limit s path c fine h)

  element_changed : (h : RemovesElement profile limit s path c)
      → changed_path path ≡ left_of.array profile limit s path c fine h
  element_changed h =
      ap changed_path (sym (left_of.path_is profile limit s path c fine h))
      ∙ array_changed (left_of.array profile limit s path c fine h) (left_of.number profile limit s path c fine h)

  -- what is elsewhere stays where it is
  pub stays_apart : (h : RemovesHeader profile limit s path c) (q : List Part) → strip (changed_path path) q ≡ None
      → stays h q × (goes h q ≡ q)
  stays_apart (inl h) q clear = (tt, refl)
  stays_apart (inr h) q clear =
      let array : List Part = left_of.array profile limit s path c fine h in
      let n : ℕ = left_of.number profile limit s path c fine h in
      let out : strip array q ≡ None = ap (λ (p : List Part). strip p q) (sym (element_changed h)) ∙ clear in
      (disjoint_element array n q out, shifted_disjoint array n q out)

  pub under : (h : RemovesHeader profile limit s path c) (q : List Part) → strip (changed_path path) q ≡ None
      → strip path q ≡ None
  under (inl h) q clear = ap (λ (p : List Part). strip p q) (sym (table_changed h)) ∙ clear
  under (inr h) q clear =
      ap (λ (p : List Part). strip p q) (sym (left_of.path_is profile limit s path c fine h))
      ∙ (stays_apart (inr h) q clear).0

-- ---- the document without it

module _ (profile : Profile) (limit : ℕ) (s : Document) (path : List Part) (c : TextChange)
    (fine : IsEditable profile limit s) (h : RemovesHeader profile limit s path c) where
  abbrev pub its : IsHeaderTaken profile limit s path c
  its = taken profile limit s path c fine h

  abbrev pub at : IsSectionAt s path
  at = its.at

  abbrev pub now : Document
  now = without s path at

  pub is_now : edited_document s (remove path) ≡ now
  is_now = taken_of.is_now profile limit s path c fine its

  -- the number of its header, and how many lines go with it
  abbrev pub n : ℕ
  n = length at.first

  abbrev pub gone : ℕ
  gone = suc (length at.body)

  abbrev pub before : List Line
  before = map line_of at.first

  abbrev pub taken_lines : List Line
  taken_lines = at.head.line ∷ map line_of at.body

  abbrev pub after : List Line
  after = more s path at

  pub lines_were : lines s ≡ before ++ (taken_lines ++ after)
  lines_were =
      at_of.lines_were s path at ∙ ap (λ (ls : List Line). before ++ at.head.line ∷ ls) (after_split s path at)

  pub lines_are : lines now ≡ before ++ after
  lines_are =
      ap (λ (ls : List Line). ls ++ s.last ∷ []) (map-append line_of at.first at.more)
      ∙ append_assoc before (map line_of at.more) (s.last ∷ [])

  -- ---- what is said

  abbrev pub was : IsLeft (stays profile limit s path c fine h) (goes profile limit s path c fine h) s path at
  was = left profile limit s path c fine h

  -- the lines after it, read with it and without it
  pub behind : Goes (stays profile limit s path c fine h) (goes profile limit s path c fine h)
      (after_line (sections.r s path at) at.head.line) (sections.r s path at) after
  behind = was.behind

  -- elsewhere as much is said as by those that are left
  pub kinds_mid : (q : List Part) → strip (changed_path path) q ≡ None
      → kinds_at q (mentions_in now) ≡ kinds_at q was.mid
  kinds_mid q clear =
      let (there, same) = stays_apart profile limit s path c fine h q clear in
      ap (kinds_at q) was.said
      ∙ ap (λ (p : List Part). kinds_at p (map (moved (goes profile limit s path c fine h)) was.mid)) (sym same)
      ∙ mentions_moved (stays profile limit s path c fine h) (goes profile limit s path c fine h) was.inj q there
      was.mid was.apart

  pub fact_now : (q : List Part) → strip (changed_path path) q ≡ None
      → fact_at q (mentions_in now) ≡ fact_at q (mentions_in s)
  fact_now q clear =
      ap (λ (ks : List MentionKind). first_of (filter_map fact_of ks)) (kinds_mid q clear)
      ∙ cut_by path (mentions_in s) was.mid was.cut q None (under profile limit s path c fine h q clear)

  pub kinds_unsaid : (T : MentionKind → Bool) (q : List Part) → strip (changed_path path) q ≡ None
      → list_any T (kinds_at q (mentions_in s)) ≡ false → list_any T (kinds_at q (mentions_in now)) ≡ false
  kinds_unsaid T q clear e =
      ap (list_any T) (kinds_mid q clear) ∙ kinds_cut T path q (mentions_in s) was.mid was.cut e

  -- ---- where the others begin

  abbrev bom : ℕ
  bom = length (text_of (bom_leaves s.bom))

  pub size_is : c.size ≡ width (at.head ∷ at.body)
  size_is = taken_of.size_is profile limit s path c fine its

  pub start_before : (j : ℕ) → j ≤ n → line_start now j ≡ line_start s j
  start_before j less =
      let rest : List Ended = at.head ∷ (at.body ++ at.more) in
      ap (λ (es : List Ended). bom + width es)
      (take-append-le j at.first at.more less ∙ sym (take-append-le j at.first rest less))
      ∙ ap (λ (es : List Ended). bom + width (take j es)) (sym at.was)

  pub start_from : (j : ℕ) → n ≤ j → line_start s (j + gone) ≡ line_start now j + c.size
  start_from j far =
      let shorter : width (take (j + gone) s.ended) ≡ width (take j now.ended) + width (at.head ∷ at.body) =
      ap (λ (es : List Ended). width (take (j + gone) es)) at.was
      ∙ width_beyond at.first (at.head ∷ at.body) at.more (j + gone) j far (omega arith) in
      omega (arith, shorter, size_is)

  -- ---- the lines that go

  pub start_is : c.at ≡ line_start s n
  start_is =
      taken_of.at_is profile limit s path c fine its
      ∙ ap (λ (es : List Ended). bom + width es) (sym (take-append_seam at.first at.more))
      ∙ start_before n (omega arith)

  pub end_is : c.at + c.size ≡ line_start s (n + gone)
  end_is = omega (arith, start_is, start_before n (omega arith), start_from n (omega arith))

  pub takes : c.new ≡ []
  takes = taken_of.new_is profile limit s path c fine its

  pub has_bytes : 0 < c.size
  has_bytes = taken_of.has_bytes profile limit s path c fine its

  -- what comes beside them does not come where they began
  pub begins_elsewhere : (d : TextChange) → IsBeside c d → c.at ≢ d.at
  begins_elsewhere d (inl past) e = absurd (omega (arith, e, past, has_bytes))
  begins_elsewhere d (inr before) e = absurd (omega (arith, e, before.0))

  pub length_was : length s.ended ≡ length now.ended + gone
  length_was =
      omega (
        arith,
        ap (λ (es : List Ended). length es) at.was,
        length-append at.first (at.head ∷ (at.body ++ at.more)),
        length-append at.body at.more,
        length-append at.first at.more,
      )

  pub few : n + gone ≤ length s.ended
  few = omega (arith, length_was, length-append at.first at.more)

  -- ---- what begins at a line, moved

  pub at_before : (j at : ℕ) → j < n → at ≡ line_start s j → moved_by c at ≡ line_start now j
  at_before j at less is =
      let earlier : nat_lt at c.at ≡ true =
      lt-ltb at c.at (omega (
        arith,
        start_is,
        is,
        width_grows profile n j s.ended fine.valid.ended less (omega (arith, few)),
      )) in
      ap (λ (b : Bool). cond b at ((at + length c.new) - c.size)) earlier
      ∙ is ∙ sym (start_before j (omega (arith, less)))

  pub at_from : (j at : ℕ) → n ≤ j → at ≡ line_start s (j + gone) → moved_by c at ≡ line_start now j
  at_from j at far is =
      let later : nat_lt at c.at ≡ false =
      le-ltb at c.at (omega (
        arith,
        start_is,
        is,
        width_stays n (j + gone) s.ended (omega (arith, far)),
      )) in
      let back : (at + length c.new) - c.size ≡ line_start now j =
      omega (arith, is, start_from j far, ap (λ (t : List ℕ). length t) takes) in
      ap (λ (b : Bool). cond b at ((at + length c.new) - c.size)) later ∙ back
