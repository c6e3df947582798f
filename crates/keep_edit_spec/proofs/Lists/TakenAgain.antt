-- A remove that takes a table or an element with its header takes the same bytes in another document, if that says the
-- same of its path, and the header and the end of its body are known by their lines there.
--
-- The header is the last line that begins the body, which ends where the section does (`head_is`, `ends_is`). So where
-- these two lines begin tells the section's place, here and in the other document (`place_again`). Whether the remove
-- is refused is told by what is said of the path alone (`refused_alike`), and so is whether a header defines the table
-- or begins the element (`table_again`, `element_again`).
--
-- Theorems: `head_is`, `ends_is`, `few`, `starts_at`, `ends_at`, `takes`, `has_bytes`: the section; `taken_again`.
use Rattle.std.proofs.Common.{◌≡◌, ℕ, suc, ◌+◌, ◌<◌, ◌≤◌, Bool, true, false, not, ◌&&◌, ◌||◌, List, [], ◌∷◌, ◌++◌}
use Rattle.std.proofs.Common.{length, take, drop, refl, sym, ap, ap₂, ◌∙◌, append_assoc, length-append, arith, Some}
use Rattle.std.proofs.Common.{None, inl, inr}
use Rattle.std.specs.List.{filter_map, list_any}
use Rattle.keep_types.specs.declared.leaf.Profile.{Profile}
use Rattle.keep_syntax.specs.Tree.{Document, Ended, bom_leaves, text, text_of}
use Rattle.keep_path.specs.Path.{Part}
use Rattle.keep_meaning.specs.Fact.{is_value_fact}
use Rattle.keep_meaning.specs.Marks.{MentionKind, fact_of, start}
use Rattle.keep_meaning.specs.Meaning.{lines, mentions_in}
use Rattle.keep_meaning.specs.Nodes.{first_of, has, is_begun, is_define, is_node, is_passed, is_root, is_through}
use Rattle.keep_meaning.specs.Nodes.{kinds_at}
use Rattle.keep_edit_spec.specs.declared.fault.EditFault.TheVariants as fault
use Rattle.keep_edit_spec.specs.ClearedLines.{line_start}
use Rattle.keep_edit_spec.specs.Edits.{end_of, place, remove}
use Rattle.keep_edit_spec.specs.Laws.{IsEditable}
use Rattle.keep_edit_spec.specs.Lines.{begins, body_end, body_length, last_line}
use Rattle.keep_edit_spec.specs.Refusals.{first_that_holds, refusal}
use Rattle.keep_edit_spec.specs.RemovedHeaders.{RemovesElement, RemovesHeader}
use Rattle.keep_edit_spec.specs.RemovedSections.{RemovesSection}
use Rattle.keep_edit_spec.specs.TextChanges.{TextChange, moved, moved_by, place_of_change}
use Rattle.keep_edit_spec.specs.TextEnds.{ends_in_newline}
use Rattle.keep_edit_spec.proofs.Common.Doubles.{has_some}
use Rattle.keep_edit_spec.proofs.Common.Marks.{rules_of_document}
use Rattle.keep_edit_spec.proofs.Common.Runs.{SomeOf}
use Rattle.keep_edit_spec.proofs.Common.SetLaw.{IsAloneAt}
use Rattle.keep_edit_spec.proofs.Common.TableThere as table_there
use Rattle.keep_edit_spec.proofs.Common.ValueThere.{IsSome}
use Rattle.keep_edit_spec.proofs.Lists.BodyEnds.{end_at}
use Rattle.keep_edit_spec.proofs.Lists.HeaderLines.{last_blank}
use Rattle.keep_edit_spec.proofs.Lists.HeaderTaken as taken_of
use Rattle.keep_edit_spec.proofs.Lists.HeaderTaken.{IsHeaderTaken}
use Rattle.keep_edit_spec.proofs.Lists.Places.{width}
use Rattle.keep_edit_spec.proofs.Lists.SaidOfPrefixes.{node_kinds, node_of}
use Rattle.keep_edit_spec.proofs.Lists.SectionAt as at_of
use Rattle.keep_edit_spec.proofs.Lists.SectionAt.{IsSectionAt, section_of}
use Rattle.keep_edit_spec.proofs.Lists.SectionsApart.{take_whole, width_join}
use Rattle.keep_edit_spec.proofs.Lists.TakenGone.{taken}
use Rattle.keep_edit_spec.proofs.Remove.ElementThere as element_there
use Rattle.keep_edit_spec.proofs.Remove.ElementThere.{begun_alone}
use Rattle.keep_edit_spec.proofs.Remove.RemoveRefusal.{no_both}
use Rattle.keep_edit_spec.proofs.Remove.RemoveWhole.{shared_define}

-- ---- the lines of a section, by their numbers

module _ (s : Document) (path : List Part) (at : IsSectionAt s path) where
  abbrev from : ℕ
  from = length at.first

  abbrev to : ℕ
  to = suc (from + length at.body)

  section_ends : (SomeOf (IsAloneAt path) (mentions_in s) → ⊥) → is_root path ≡ false → end_of s path ≡ Some to
  section_ends valueless below = by path refl
    where
      count : body_length (drop (suc from) (lines s)) ≡ length at.body
      count = at_of.count s path at (at_of.bare s path valueless) (at_of.none_own s path valueless)

      by : (q : List Part) → path ≡ q → end_of s q ≡ Some to
      by [] e = (let root : is_root path ≡ true = ap is_root e in absurd cc)
      by (p ∷ ps) e =
          ap (end_at (lines s))
          (ap (λ (q : List Part). last_line (begins q) start (lines s)) (sym e) ∙ at_of.last_is s path at)
          ∙ ap (λ (n : ℕ). Some n) (let same : body_end from (lines s) ≡ to = omega (arith, count) in same)

  begins_at : length (text_of (bom_leaves s.bom)) + width at.first ≡ line_start s from
  begins_at =
      ap (λ (es : List Ended). length (text_of (bom_leaves s.bom)) + width es)
      (sym (ap (take from) at.was ∙ take_whole at.first (at.head ∷ (at.body ++ at.more))))

  done_at : (length (text_of (bom_leaves s.bom)) + width at.first) + width (at.head ∷ at.body) ≡ line_start s to
  done_at =
      let es : List Ended = at.first ++ at.head ∷ at.body in
      let long : to ≡ length es = omega (arith, length-append at.first (at.head ∷ at.body)) in
      let whole : take to s.ended ≡ es =
      ap₂ (λ (n : ℕ) (xs : List Ended). take n xs) long
      (at.was ∙ sym (append_assoc at.first (at.head ∷ at.body) at.more))
      ∙ take_whole es at.more in
      omega (arith, width_join at.first (at.head ∷ at.body), ap width whole)

  lines_few : to ≤ length s.ended
  lines_few =
      omega (
        arith,
        ap (λ (es : List Ended). length es) at.was,
        length-append at.first (at.head ∷ (at.body ++ at.more)),
        length-append at.body at.more,
      )

-- ---- what is said of a path tells whether it can be removed

abbrev value_in : List MentionKind → Bool
value_in kinds = elim (first_of (filter_map fact_of kinds)) [ None ↦ false | Some f ↦ is_value_fact f ]

abbrev piece_in : List MentionKind → Bool
piece_in kinds =
    value_in kinds
    || ((list_any is_define kinds && not (list_any is_through kinds))
    || (list_any is_begun kinds && not (list_any is_passed kinds)))

refused_alike : (profile : Profile) (limit : ℕ) (s now : Document) (path : List Part)
    → kinds_at path (mentions_in now) ≡ kinds_at path (mentions_in s)
    → refusal profile limit now (remove path) ≡ refusal profile limit s (remove path)
refused_alike profile limit s now path kinds =
    let node : is_node path (mentions_in now) ≡ is_node path (mentions_in s) =
    node_kinds path (mentions_in now) ∙ ap (node_of path) kinds ∙ sym (node_kinds path (mentions_in s)) in
    ap₂ (λ (b c : Bool).
    first_that_holds ((not b, fault.NotFound) ∷ (is_root path, fault.NotKey) ∷ (not c, fault.Scattered) ∷ []))
    node (ap piece_in kinds)

-- ---- in another document

module _ (profile : Profile) (limit : ℕ) (s : Document) (other : List Part) (d : TextChange)
    (fine : IsEditable profile limit s) (k : RemovesHeader profile limit s other d) where
  abbrev pub its : IsHeaderTaken profile limit s other d
  its = taken profile limit s other d fine k

  abbrev pub at : IsSectionAt s other
  at = its.at

  -- the number of its header, and of the line after its body
  abbrev pub head_number : ℕ
  head_number = length at.first

  abbrev pub end_number : ℕ
  end_number = suc (head_number + length at.body)

  pub head_is : last_line (begins other) start (lines s) ≡ Some head_number
  head_is = at_of.last_is s other at

  pub ends_is : end_of s other ≡ Some end_number
  ends_is = section_ends s other at its.valueless its.below_root

  pub few : end_number ≤ length s.ended
  few = lines_few s other at

  pub starts_at : d.at ≡ line_start s head_number
  starts_at = taken_of.at_is profile limit s other d fine its ∙ begins_at s other at

  pub ends_at : d.at + d.size ≡ line_start s end_number
  ends_at =
      ap₂ (λ (n m : ℕ). n + m) (taken_of.at_is profile limit s other d fine its)
      (taken_of.size_is profile limit s other d fine its)
      ∙ done_at s other at

  pub takes : d.new ≡ []
  takes = taken_of.new_is profile limit s other d fine its

  pub has_bytes : 0 < d.size
  has_bytes = taken_of.has_bytes profile limit s other d fine its

  module _ (now : Document) (c : TextChange) (i e : ℕ) (fine_now : IsEditable profile limit now)
      (closed : ends_in_newline (text now) ≡ true)
      (kinds : kinds_at other (mentions_in now) ≡ kinds_at other (mentions_in s))
      (head : last_line (begins other) start (lines now) ≡ Some i) (ends : end_of now other ≡ Some e)
      (from : line_start now i ≡ moved_by c d.at) (to : line_start now e ≡ moved_by c d.at + d.size) where
    place_again : IsSome (last_line (begins other) start (lines now))
        → (SomeOf (IsAloneAt other) (mentions_in now) → ⊥)
        → place now (remove other) ≡ place_of_change (moved c d)
    place_again some valueless =
        let z : IsSectionAt now other = section_of now other (last_blank profile now fine_now.valid closed) some in
        let first_line : Some (length z.first) ≡ Some i = sym (at_of.last_is now other z) ∙ head in
        let last_end : Some (suc (length z.first + length z.body)) ≡ Some e =
        sym (section_ends now other z valueless its.below_root) ∙ ends in
        let is_first : length z.first ≡ i = cc in
        let is_end : suc (length z.first + length z.body) ≡ e = cc in
        at_of.place_is now other z (at_of.bare now other valueless) (at_of.none_own now other valueless)
        ∙ ap₂ (λ (b f : ℕ). record { start = b; end = f; new = [] })
        (begins_at now other z ∙ ap (line_start now) is_first ∙ from)
        (done_at now other z ∙ ap (line_start now) is_end ∙ to)
        ∙ ap (λ (t : List ℕ). record { start = moved_by c d.at; end = moved_by c d.at + d.size; new = t })
        (sym takes)

    allowed_again : refusal profile limit now (remove other) ≡ None
    allowed_again = refused_alike profile limit s now other kinds ∙ its.allowed

    table_again : RemovesSection profile limit s other d → RemovesSection profile limit now other (moved c d)
    table_again t =
        let defined : has is_define other (mentions_in now) ≡ true = ap (list_any is_define) kinds ∙ t.defined in
        let said = has_some is_define other (mentions_in now) defined in
        record {
          allowed = allowed_again;
          defined = defined;
          closed = closed;
          is = place_again (table_there.some_begins other start (lines now) said).0
              (λ alone. no_both is_define shared_define other (mentions_in now) said alone
              (rules_of_document now fine_now.obeys));
        }

    element_again : RemovesElement profile limit s other d → RemovesElement profile limit now other (moved c d)
    element_again t =
        let begun : has is_begun other (mentions_in now) ≡ true = ap (list_any is_begun) kinds ∙ t.begun in
        let said = has_some is_begun other (mentions_in now) begun in
        record {
          allowed = allowed_again;
          begun = begun;
          closed = closed;
          is = place_again (element_there.some_begins other start (lines now) said)
              (λ alone. begun_alone now other (rules_of_document now fine_now.obeys) said alone);
        }

    pub taken_again : RemovesHeader profile limit now other (moved c d)
    taken_again = by k
      where
        by : RemovesHeader profile limit s other d → RemovesHeader profile limit now other (moved c d)
        by (inl t) = inl (table_again t)
        by (inr t) = inr (element_again t)
