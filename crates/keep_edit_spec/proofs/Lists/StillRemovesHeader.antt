-- A remove of a table or an element with its header, after one of another.
--
-- The other's header is still there, at the path that it has now, and its body is the same (SectionsApart). So a header
-- defines the table or begins the element still (`stated_now`), no header goes through it, as none did (`none_now`, by
-- what is left of the mentions), and the remove is not refused. Its place is as before, or earlier by the bytes of the
-- lines that are gone (`moved_there`).
--
-- Theorems: `still_removes_header`; `still_removes_table`: of two tables; `header_has_bytes`: what is taken is not
-- empty.
use Rattle.std.proofs.Common.{◌≡◌, ◌≢◌, ℕ, ◌+◌, ◌-◌, ◌<◌, ◌≤◌, Bool, true, false, cond, not, ◌&&◌, ◌||◌, List, [], ◌∷◌}
use Rattle.std.proofs.Common.{◌++◌, length, map, refl, sym, ap, ap₂, subst, ◌∙◌, length-append, arith, None, ◌⊎◌, inl}
use Rattle.std.proofs.Common.{inr}
use Rattle.std.specs.Prelude.{nat_lt, ⊤}
use Rattle.std.specs.List.{list_any}
use Rattle.std.proofs.lemmas.Bool.{le-ltb, lt-ltb}
use Rattle.keep_types.specs.declared.leaf.Profile.{Profile}
use Rattle.keep_syntax.specs.Tree.{Line, Ended, Document, bom_leaves, text, text_of}
use Rattle.keep_path.specs.Path.{Part}
use Rattle.keep_meaning.specs.Marks.{MentionKind, start}
use Rattle.keep_meaning.specs.Meaning.{line_mentions, line_of, lines_mentions, mentions_in, reading_after_lines}
use Rattle.keep_meaning.specs.Nodes.{has, is_begun, is_define, is_node, is_passed, is_root, is_through, kinds_at}
use Rattle.keep_edit_spec.specs.declared.fault.EditFault.TheVariants as fault
use Rattle.keep_edit_spec.specs.Edits.{edited_document, place, remove}
use Rattle.keep_edit_spec.specs.Laws.{IsEditable}
use Rattle.keep_edit_spec.specs.Refusals.{first_that_holds, has_value, is_one_piece, refusal}
use Rattle.keep_edit_spec.specs.RemovedHeaders.{RemovesElement, RemovesHeader, StillRemovesHeader, path_before}
use Rattle.keep_edit_spec.specs.RemovedSections.{RemovesSection}
use Rattle.keep_edit_spec.specs.TextChanges.{TextChange, moved, moved_by, place_of_change}
use Rattle.keep_edit_spec.specs.TextEnds.{ends_in_newline}
use Rattle.keep_edit_spec.proofs.Common.BodyEnd.{IsStated, begins_stated, stated_has}
use Rattle.keep_edit_spec.proofs.Common.Doubles.{has_some}
use Rattle.keep_edit_spec.proofs.Common.LineLaws.{lines_mentions-append}
use Rattle.keep_edit_spec.proofs.Common.Moves.{mentions_moved}
use Rattle.keep_edit_spec.proofs.Common.Runs.{Rules, SomeOf, some_left, some_right}
use Rattle.keep_edit_spec.proofs.Common.SetLaw.{IsAloneAt}
use Rattle.keep_edit_spec.proofs.Common.TableThere.{defined_ends}
use Rattle.keep_edit_spec.proofs.Lists.HeaderLeft as left_of
use Rattle.keep_edit_spec.proofs.Lists.HeaderLeft.{IsLeft, element_left, path_is, table_left}
use Rattle.keep_edit_spec.proofs.Lists.HeaderLines.{last_empty, lines_end}
use Rattle.keep_edit_spec.proofs.Lists.HeaderTaken.{IsElement, IsHeaderTaken, IsTable, at_is, element_is, element_taken}
use Rattle.keep_edit_spec.proofs.Lists.HeaderTaken.{empty, has_bytes, is_now, new_is, not_begun, not_defined, now}
use Rattle.keep_edit_spec.proofs.Lists.HeaderTaken.{rules_now, size_is, table_ends, table_is, table_taken, valid_now}
use Rattle.keep_edit_spec.proofs.Lists.OwnLine.{kinds_cut}
use Rattle.keep_edit_spec.proofs.Lists.PathsBefore.{before_element, before_table}
use Rattle.keep_edit_spec.proofs.Lists.Places.{width}
use Rattle.keep_edit_spec.proofs.Lists.SaidOfPrefixes.{node_kinds}
use Rattle.keep_edit_spec.proofs.Lists.SectionAt as at_of
use Rattle.keep_edit_spec.proofs.Lists.SectionAt.{IsSectionAt}
use Rattle.keep_edit_spec.proofs.Lists.SectionsApart.{IsStillAt, still_at}
use Rattle.keep_edit_spec.proofs.Remove.ElementThere.{begun_alone}
use Rattle.keep_edit_spec.proofs.Remove.RemoveRefusal.{no_both}
use Rattle.keep_edit_spec.proofs.Remove.RemoveWhole.{shared_define}
use Rattle.keep_edit_spec.proofs.Remove.Shift.{shifted}

-- ---- what a path's mentions say

first_of_two : (d b : Bool) → (d || b) ≡ true → b ≡ false → d ≡ true
first_of_two true b h e = refl
first_of_two false b h e = absurd cc

second_of_two : (d b : Bool) → (d || b) ≡ true → d ≡ false → b ≡ true
second_of_two true b h e = absurd cc
second_of_two false b h e = h

any_of_some : (T : MentionKind → Bool) (ks : List MentionKind) → list_any T ks ≡ true
    → list_any (λ (k : MentionKind). true) ks ≡ true
any_of_some T [] e = absurd cc
any_of_some T (k ∷ ks) e = refl

-- what is said of a path that is one piece, with this said of it, can be removed
piece_allowed : (profile : Profile) (limit : ℕ) (s : Document) (path : List Part) (T : MentionKind → Bool)
    → has T path (mentions_in s) ≡ true → is_root path ≡ false → is_one_piece path (mentions_in s) ≡ true
    → refusal profile limit s (remove path) ≡ None
piece_allowed profile limit s path T said root piece =
    let node : is_node path (mentions_in s) ≡ true =
    node_kinds path (mentions_in s)
    ∙ ap₂ (λ (b c : Bool). b || c) root (any_of_some T (kinds_at path (mentions_in s)) said) in
    by (is_node path (mentions_in s)) (is_root path) (is_one_piece path (mentions_in s)) node root piece
  where
    by : (a b c : Bool) → a ≡ true → b ≡ false → c ≡ true
        → first_that_holds ((not a, fault.NotFound) ∷ (b, fault.NotKey) ∷ (not c, fault.Scattered) ∷ []) ≡ None
    by true false true d e f = refl
    by false b c d e f = absurd cc
    by true true c d e f = absurd cc
    by true false false d e f = absurd cc

table_piece : (v d t z : Bool) → d ≡ true → t ≡ false → (v || ((d && not t) || z)) ≡ true
table_piece true d t z e f = refl
table_piece false true false z e f = refl
table_piece false false t z e f = absurd cc
table_piece false true true z e f = absurd cc

element_piece : (v z b q : Bool) → b ≡ true → q ≡ false → (v || (z || (b && not q))) ≡ true
element_piece true z b q e f = refl
element_piece false true b q e f = refl
element_piece false false true false e f = refl
element_piece false false false q e f = absurd cc
element_piece false false true true e f = absurd cc

-- ---- another, after it, where paths go

module _ (D : List Part → Type 0) (f : List Part → List Part) (profile : Profile) (limit : ℕ) (s : Document)
    (path : List Part) (c : TextChange) (other : List Part) (d : TextChange) (fine : IsEditable profile limit s)
    (h : IsHeaderTaken profile limit s path c) (left : IsLeft D f s path h.at)
    (k : IsHeaderTaken profile limit s other d) (differs : path ≢ other) where
  abbrev to : Document
  to = now profile limit s path c fine h

  still : IsStillAt D f s path other h.at k.at
  still =
      still_at D f left.inj profile s path other differs fine.valid.ended (empty profile limit s path c fine h) h.at
      k.at left.before left.behind

  abbrev there : IsSectionAt to (f other)
  there = still.section

  stated_now : (has is_define (f other) (mentions_in to) || has is_begun (f other) (mentions_in to)) ≡ true
  stated_now =
      let first : List Line = map line_of there.first in
      let r = reading_after_lines start first in
      let said : mentions_in to ≡ lines_mentions start first
      ++ lines_mentions r (there.head.line ∷ at_of.after to (f other) there) =
      ap (lines_mentions start) (at_of.lines_were to (f other) there)
      ∙ lines_mentions-append start first (there.head.line ∷ at_of.after to (f other) there) in
      stated_has (f other) (mentions_in to)
      (subst (SomeOf (IsStated (f other))) (sym said)
      (some_right (IsStated (f other)) (lines_mentions start first) _
      (some_left (IsStated (f other)) (line_mentions r there.head.line) _
      (begins_stated (f other) r there.head.line there.passes))))

  -- what was not said of it is not said of it now
  none_now : (T : MentionKind → Bool) → has T other (mentions_in s) ≡ false → has T (f other) (mentions_in to) ≡ false
  none_now T e =
      ap (list_any T)
      (ap (kinds_at (f other)) left.said ∙ mentions_moved D f left.inj other still.apart left.mid left.apart)
      ∙ kinds_cut T path other (mentions_in s) left.mid left.cut e

  root_now : is_root (f other) ≡ false
  root_now = by (f other) refl
    where
      by : (q : List Part) → f other ≡ q → is_root q ≡ false
      by (p ∷ ps) e = refl
      by [] e =
          let root : is_root other ≡ true =
          ap is_root (left.inj other [] still.apart left.root_apart (e ∙ sym left.root_stays)) in
          let below : is_root other ≡ false = k.below_root in
          absurd cc

  closed_now : ends_in_newline (text to) ≡ true
  closed_now =
      lines_end profile to (valid_now profile limit s path c fine h) (last_empty profile s fine.valid h.closed)
      (omega (
        arith,
        ap (λ (es : List Ended). length es) there.was,
        length-append there.first (there.head ∷ (there.body ++ there.more)),
      ))

  moved_there : moved_by c d.at ≡ length (text_of (bom_leaves s.bom)) + width there.first
  moved_there = by still.place
    where
      by : ((width k.at.first ≡ width there.first) × (width k.at.first < width h.at.first))
          ⊎ ((width k.at.first ≡ width there.first + width (h.at.head ∷ h.at.body))
          × (width h.at.first ≤ width there.first))
          → moved_by c d.at ≡ length (text_of (bom_leaves s.bom)) + width there.first
      by (inl (same, less)) =
          let earlier : nat_lt d.at c.at ≡ true =
          lt-ltb d.at c.at (omega (
            arith,
            at_is profile limit s path c fine h,
            at_is profile limit s other d fine k,
            less,
          )) in
          ap (λ (b : Bool). cond b d.at ((d.at + length c.new) - c.size)) earlier
          ∙ at_is profile limit s other d fine k
          ∙ ap (λ (n : ℕ). length (text_of (bom_leaves s.bom)) + n) same
      by (inr (sum, far)) =
          let later : nat_lt d.at c.at ≡ false =
          le-ltb d.at c.at (omega (
            arith,
            at_is profile limit s path c fine h,
            at_is profile limit s other d fine k,
            sum,
            far,
          )) in
          let back : (d.at + length c.new) - c.size ≡ length (text_of (bom_leaves s.bom)) + width there.first =
          omega (
            arith,
            at_is profile limit s other d fine k,
            size_is profile limit s path c fine h,
            ap (λ (t : List ℕ). length t) (new_is profile limit s path c fine h),
            sum,
          ) in
          ap (λ (b : Bool). cond b d.at ((d.at + length c.new) - c.size)) later ∙ back

  place_now : (SomeOf (IsAloneAt (f other)) (mentions_in to) → ⊥)
      → place to (remove (f other)) ≡ place_of_change (moved c d)
  place_now valueless =
      at_of.place_is to (f other) there (at_of.bare to (f other) valueless) (at_of.none_own to (f other) valueless)
      ∙ ap₂ (λ (b e : ℕ). record { start = b; end = e; new = [] }) (sym moved_there)
      (omega (arith, moved_there, still.same, size_is profile limit s other d fine k))
      ∙ ap (λ (t : List ℕ). record { start = moved_by c d.at; end = moved_by c d.at + d.size; new = t })
      (sym (new_is profile limit s other d fine k))

  rules_to : Rules (mentions_in to)
  rules_to = rules_now profile limit s path c fine h

  pub table_now : IsTable other s → RemovesSection profile limit to (f other) (moved c d)
  table_now t =
      let defined : has is_define (f other) (mentions_in to) ≡ true =
      first_of_two (has is_define (f other) (mentions_in to)) (has is_begun (f other) (mentions_in to)) stated_now
      (none_now is_begun (not_begun s other (defined_ends s other (has_some is_define other (mentions_in s) t.0)))) in
      record {
        allowed = piece_allowed profile limit to (f other) is_define defined root_now
            (table_piece (has_value (f other) (mentions_in to)) (has is_define (f other) (mentions_in to))
            (has is_through (f other) (mentions_in to))
            (has is_begun (f other) (mentions_in to) && not (has is_passed (f other) (mentions_in to))) defined
            (none_now is_through t.1));
        defined = defined;
        closed = closed_now;
        is = place_now (λ alone. no_both is_define shared_define (f other) (mentions_in to)
            (has_some is_define (f other) (mentions_in to) defined) alone rules_to);
      }

  pub element_now : IsElement other s → RemovesElement profile limit to (f other) (moved c d)
  element_now t =
      let begun : has is_begun (f other) (mentions_in to) ≡ true =
      second_of_two (has is_define (f other) (mentions_in to)) (has is_begun (f other) (mentions_in to)) stated_now
      (none_now is_define (not_defined s other t.0)) in
      record {
        allowed = piece_allowed profile limit to (f other) is_begun begun root_now
            (element_piece (has_value (f other) (mentions_in to))
            (has is_define (f other) (mentions_in to) && not (has is_through (f other) (mentions_in to)))
            (has is_begun (f other) (mentions_in to)) (has is_passed (f other) (mentions_in to)) begun
            (none_now is_passed t.1));
        begun = begun;
        closed = closed_now;
        is = place_now (λ alone. begun_alone to (f other) rules_to
            (has_some is_begun (f other) (mentions_in to) begun) alone);
      }

-- ---- the laws

module _ (profile : Profile) (limit : ℕ) (s : Document) (path : List Part) (c : TextChange)
    (fine : IsEditable profile limit s) where
  pub header_has_bytes : RemovesHeader profile limit s path c → 0 < c.size
  header_has_bytes (inl h) = has_bytes profile limit s path c fine (table_taken profile limit s path c fine h)
  header_has_bytes (inr h) = has_bytes profile limit s path c fine (element_taken profile limit s path c fine h)

  module _ (other : List Part) (d : TextChange) (differs : path ≢ other) where
    pub still_removes_table : RemovesSection profile limit s path c → RemovesSection profile limit s other d
        → RemovesSection profile limit (edited_document s (remove path)) other (moved c d)
    still_removes_table h k =
        let taken = table_taken profile limit s path c fine h in
        subst (λ (to : Document). RemovesSection profile limit to other (moved c d))
        (sym (is_now profile limit s path c fine taken))
        (table_now (λ q. ⊤) (λ q. q) profile limit s path c other d fine taken
        (table_left profile limit s path c fine h) (table_taken profile limit s other d fine k) differs
        (table_is profile limit s other d fine k))

    after_any : (D : List Part → Type 0) (f : List Part → List Part) (h : IsHeaderTaken profile limit s path c)
        → IsLeft D f s path h.at → RemovesHeader profile limit s other d
        → RemovesHeader profile limit (edited_document s (remove path)) (f other) (moved c d)
    after_any D f h left (inl k) =
        inl (subst (λ (to : Document). RemovesSection profile limit to (f other) (moved c d))
        (sym (is_now profile limit s path c fine h))
        (table_now D f profile limit s path c other d fine h left (table_taken profile limit s other d fine k)
        differs (table_is profile limit s other d fine k)))
    after_any D f h left (inr k) =
        inr (subst (λ (to : Document). RemovesElement profile limit to (f other) (moved c d))
        (sym (is_now profile limit s path c fine h))
        (element_now D f profile limit s path c other d fine h left (element_taken profile limit s other d fine k)
        differs (element_is profile limit s other d fine k)))

pub still_removes_header : StillRemovesHeader
still_removes_header profile limit s path c other d fine (inl h) k differs =
    subst (λ (q : List Part). RemovesHeader profile limit (edited_document s (remove path)) q (moved c d))
    (before_table path other (table_ends profile limit s path c fine h))
    (after_any profile limit s path c fine (path_before path other) d differs (λ q. ⊤) (λ q. q)
    (table_taken profile limit s path c fine h) (table_left profile limit s path c fine h) k)
still_removes_header profile limit s path c other d fine (inr h) k differs =
    let array : List Part = left_of.array profile limit s path c fine h in
    let number : ℕ = left_of.number profile limit s path c fine h in
    let goes : shifted array number (path_before path other) ≡ other =
    ap (λ (p : List Part). shifted array number (path_before p other)) (sym (path_is profile limit s path c fine h))
    ∙ before_element array number other in
    subst (λ (q : List Part). RemovesHeader profile limit (edited_document s (remove path)) q (moved c d)) goes
    (after_any profile limit s path c fine (path_before path other) d differs
    (left_of.stays profile limit s path c fine h) (shifted array number)
    (element_taken profile limit s path c fine h) (element_left profile limit s path c fine h) k)
