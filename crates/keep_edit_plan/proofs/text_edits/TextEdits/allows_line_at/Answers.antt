-- Only one edit takes the byte before the place, and a line can come in the place of what it takes.
use Rattle.std.proofs.Common.{All, List, inl, inr, subst}
use Rattle.keep_edit_spec.specs.Runs.{LetsCome}
use Rattle.keep_edit_spec.specs.TextChanges.{TextChange}
use Rattle.keep_edit_plan.specs.TextEdits.{IsChangeIn, TakesAlone, change_of}
use Rattle.keep_edit_plan.proofs.TextEditLaws.{all_if_alone, all_of_one}
use Rattle.keep_edit_plan.proofs.text_edits.TextEdits.allows_line_at.Goals as goal

pub frees_place-requires : goal.frees_place-requires
frees_place-requires c =
    let alone : TakesAlone c.args.place c.args.self.now (change_of c.in-Some.edit.now) = c.in-Some.ensures.one in
    let here : IsChangeIn c.args.text.now (change_of c.in-Some.edit.now) =
    all_of_one (IsChangeIn c.args.text.now) alone.before (change_of c.in-Some.edit.now) alone.after
    (subst (λ (changes : List TextChange). All (IsChangeIn c.args.text.now) changes) alone.is c.requires) in
    here.starts.0

pub returns-in-Some : goal.returns-in-Some
returns-in-Some c = λ yes.
    all_if_alone c.args.place c.args.self.now (change_of c.in-Some.edit.now) c.in-Some.ensures.one
    (LetsCome c.args.text.now c.args.self.now c.args.place) (λ d not. inl not) (inr (c.frees_place.ensures yes))
