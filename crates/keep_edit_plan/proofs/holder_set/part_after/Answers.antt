use Rattle.std.proofs.Common.{ℕ, List, ◌++◌, ap₂, ◌∙◌}
use Rattle.keep_edit_plan.proofs.HolderSetLaws.{put_inside}
use Rattle.keep_edit_plan.proofs.holder_set.part_after.Goals as goal

pub returns : goal.returns
returns c =
    let add : List ℕ → List ℕ → List ℕ = λ a b. a ++ b in
    put_inside c.args.text.now c.args.span c.args.edit.now c.requires.inside.0 c.requires.edit.ordered
    c.requires.inside.1 _
    (c.in_ok-push_str-3.ensures.bytes
    ∙ ap₂ add (c.in_ok-push_str-2.ensures.bytes
    ∙ ap₂ add (c.in_ok-push_str.ensures.bytes ∙ ap₂ add c.in_ok-part.ensures.bytes c.range.ensures.value)
    c.as_str-new.ensures.value) c.range-2.ensures.value)
