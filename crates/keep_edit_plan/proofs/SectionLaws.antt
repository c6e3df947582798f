-- A table or an element that a remove takes with its header, in a text that ends in a newline.
--
-- What is taken is a section, so it is cut where the edit's place is, and nothing is put back (`section_arm`). The
-- number of its header is that of a statement that defines the path, or begins it.
--
-- Theorems: `section_found`: what is known of a section that may be removed; `number_within`: its header is in the
-- syntax; `section_is_removed`, and `section_span`: it is cut from character to character; `each_table`, `table_makes`:
-- where the path ends in a key, it is of a table, and makes its change in a run.
use Rattle.std.proofs.Common.{◌≡◌, ℕ, ◌+◌, ◌-◌, ◌<◌, true, List, [], ◌∷◌, ◌++◌, length, drop, refl, sym, ap, subst}
use Rattle.std.proofs.Common.{◌∙◌, arith, Option, Some, None, Result, Ok, inl, inr}
use Rattle.std.specs.Prelude.{IfSome}
use Rattle.keep_types.specs.declared.leaf.Profile.{Profile}
use Rattle.keep_syntax.specs.declared.syntax.Syntax.{Syntax}
use Rattle.keep_syntax.specs.Contract.{statements_of}
use Rattle.keep_syntax.specs.Numbered.{span}
use Rattle.keep_syntax.specs.Tree.{Document}
use Rattle.keep_meaning.specs.KeyText.{text_at}
use Rattle.keep_meaning.specs.Nodes.{is_begun, is_define, statement_number}
use Rattle.keep_path.specs.NodeInfos.{NodeInfos}
use Rattle.keep_path.specs.Path as its_last
use Rattle.keep_path.specs.Path.{Part, key, last_part}
use Rattle.keep_rules.specs.declared.index.NodeId.{NodeId}
use Rattle.keep_edit_spec.specs.declared.fault.EditFault.{EditFault}
use Rattle.keep_edit_spec.specs.Edits.{place, remove}
use Rattle.keep_edit_spec.specs.Refusals.{refusal}
use Rattle.keep_edit_spec.specs.Removal.{section_place}
use Rattle.keep_edit_spec.specs.RemovedHeaders.{RemovesHeader}
use Rattle.keep_edit_spec.specs.RemovedSections.{RemovesSection}
use Rattle.keep_edit_spec.specs.Runs.{MakesChange}
use Rattle.keep_edit_spec.specs.TextChanges.{TextChange, change_at, place_of_change}
use Rattle.keep_edit_spec.specs.TextEnds.{ends_in_newline}
use Rattle.keep_edit_spec.proofs.Shared.{EndsInKey, element_ends, last_part-snoc, same_place, snoc_of}
use Rattle.keep_edit_plan.specs.Answers.{IsSpanOf, value_number_of}
use Rattle.keep_edit_plan.specs.Plans.{IsNodeOf}
use Rattle.keep_edit_plan.specs.Reading.{limit, ProfiledText, Holds, IsTextOfTree}
use Rattle.keep_edit_plan.specs.Removing.{IsCutAt, IsHeaded, IsRemovalFound, KeepsNothing, cut_place}
use Rattle.keep_edit_plan.specs.TextEdits.{change_of}
use Rattle.keep_edit_plan.specs.declared.remove.Cut.{Cut}
use Rattle.keep_edit_plan.specs.declared.remove.Piece.{Piece}
use Rattle.keep_edit_plan.specs.declared.remove.Piece.TheVariants.{Section}
use Rattle.keep_edit_plan.specs.declared.text_edit.TextEdit.{TextEdit}
use Rattle.keep_edit_plan.proofs.RemoveCut.{IsSectionArm, section_arm}
use Rattle.keep_edit_plan.proofs.RemoveNode.{has_of}
use Rattle.keep_edit_plan.proofs.RemoveSteps.{text_none}

-- a section that may be removed
pub record IsSectionFound (profile : Profile) (path : List Part) (s : Document) (id : NodeId) (number : ℕ)
    : Type 0 where
  pub node : IsNodeOf path s id
  pub allowed : refusal profile limit s (remove path) ≡ None
  pub no_value : value_number_of path s ≡ None
  pub headed : IsHeaded path s number

pub section_found : (profile : Profile) (path : List Part) (s : Document) (result : Result (NodeId × Piece) EditFault)
    (id : NodeId) (piece : Piece) (number : ℕ) → result ≡ Ok (id, piece) → piece ≡ Section number
    → IsRemovalFound profile path s result → IsSectionFound profile path s id number
section_found profile path s result id piece number is it h =
    let found = subst (λ (p : Piece). IsRemovalFound profile path s (Ok (id, p))) it
    (subst (IsRemovalFound profile path s) is h) in
    record { node = found.0; allowed = found.1.0; no_value = found.1.1.0; headed = found.1.1.1 }

module _ (d : ProfiledText) (syntax : Syntax) (index : NodeInfos) (path : List Part) (s : Document)
    (holds : Holds d syntax index) (read : IsTextOfTree d s) (id : NodeId) (number : ℕ)
    (found : IsSectionFound d.profile path s id number) where
  arm : IsSectionArm d syntax index path s holds read found.allowed number
  arm = section_arm d syntax index path s holds read found.allowed number found.no_value found.headed

  pub number_within : number < length (statements_of syntax)
  number_within = arm.within

  module _ (cut : Cut) (at : cut_place d.text cut ≡ section_place (drop number (statements_of syntax)))
      (keeps : KeepsNothing cut) where
    cut_is : IsCutAt path s d.text cut
    cut_is = arm.cut cut at keeps

    pub section_span : IsSpanOf d.text cut.span
    section_span = cut_is.1

    abbrev taken : List ℕ → TextChange
    taken new = change_at cut.span.start (cut.span.end - cut.span.start) new

    place_is : (new : List ℕ) → new ≡ [] → place s (remove path) ≡ place_of_change (taken new)
    place_is new none =
        let kept : text_at d.text cut.preserved ≡ [] =
        subst (λ (end : ℕ). text_at d.text (span cut.preserved.start end) ≡ []) (keeps.0 ∙ sym keeps.1)
        (text_none d.text cut.preserved.start) in
        let end : cut.span.end ≡ cut.span.start + (cut.span.end - cut.span.start) =
        omega (arith, cut_is.1.ordered) in
        cut_is.0 ∙ same_place _ _ _ _ _ _ refl end (kept ∙ sym none)

    pub section_is_removed : ends_in_newline d.text ≡ true → (new : List ℕ) → new ≡ []
        → RemovesHeader d.profile limit s path (taken new)
    section_is_removed closed new none = by found.headed
      where
        by : IsHeaded path s number → RemovesHeader d.profile limit s path (taken new)
        by (inl (defined, other)) =
            inl (record {
              allowed = found.allowed;
              defined = has_of path s read.obeys is_define statement_number number defined;
              closed = ap ends_in_newline (sym read.reads.spelled) ∙ closed;
              is = place_is new none;
            })
        by (inr (begun, other)) =
            inr (record {
              allowed = found.allowed;
              begun = has_of path s read.obeys is_begun statement_number number begun;
              closed = ap ends_in_newline (sym read.reads.spelled) ∙ closed;
              is = place_is new none;
            })

-- ---- a table alone

-- its path ends in a key, and an element's does not
key_at_end : (path : List Part) → its_last.EndsInKey path → EndsInKey path
key_at_end [] (text, e) = absurd cc
key_at_end (p ∷ ps) (text, e) =
    let (prefix, z, is) = snoc_of p ps in
    let both : Some z ≡ Some (key text) = sym (last_part-snoc prefix z) ∙ ap last_part (sym is) ∙ e in
    let same : z ≡ key text = cc in
    (prefix, text, is ∙ ap (λ (q : Part). prefix ++ q ∷ []) same)

pub table_alone : (profile : Profile) (s : Document) (path : List Part) (c : TextChange) → its_last.EndsInKey path
    → RemovesHeader profile limit s path c → RemovesSection profile limit s path c
table_alone profile s path c ends (inl h) = h
table_alone profile s path c ends (inr h) = absurd (element_ends s path h.begun (key_at_end path ends))

pub each_table : (profile : Profile) (s : Document) (path : List Part) → its_last.EndsInKey path
    → (o : Option TextEdit) → IfSome o (λ made. RemovesHeader profile limit s path (change_of made))
    → IfSome o (λ made. RemovesSection profile limit s path (change_of made))
each_table profile s path ends None h = tt
each_table profile s path ends (Some made) h = table_alone profile s path (change_of made) ends h

-- it makes its change in a run
pub table_makes : (profile : Profile) (s : Document) (path : List Part) (o : Option TextEdit)
    → IfSome o (λ made. RemovesSection profile limit s path (change_of made))
    → IfSome o (λ made. MakesChange profile limit s (remove path) (change_of made))
table_makes profile s path None h = tt
table_makes profile s path (Some made) h = inr (inr h)
