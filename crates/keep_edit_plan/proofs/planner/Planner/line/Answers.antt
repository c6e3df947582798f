use Rattle.std.proofs.Common.{subst, ◌∙◌}
use Rattle.keep_syntax.specs.Tree.{Document, Value}
use Rattle.keep_edit_spec.specs.BroughtHeaders.{BringsHeader}
use Rattle.keep_edit_spec.specs.DottedLines.{AddsDotted}
use Rattle.keep_edit_plan.specs.Reading.{IsTextOfTree, IsTextOfValue, ProfiledText, limit}
use Rattle.keep_edit_plan.specs.TextEdits.{change_of}
use Rattle.keep_edit_plan.proofs.planner.Planner.line.Goals as goal

pub returns-in-Some-added_dotted_line-clause-added : goal.returns-in-Some-added_dotted_line-clause-added
returns-in-Some-added_dotted_line-clause-added c =
    subst (λ (now : ProfiledText). (s : Document) → IsTextOfTree now s → (v : Value)
    → IsTextOfValue c.args.value.now v
    → AddsDotted now.profile limit s c.args.path.now v (change_of c.in-Some-added_dotted_line.text_edit))
    (c.self.view_is ∙ c.added_line.ensures.same) c.in-Some-added_dotted_line.ensures.added

pub returns-clause-added : goal.returns-clause-added
returns-clause-added c =
    subst (λ (now : ProfiledText). (s : Document) → IsTextOfTree now s → (v : Value)
    → IsTextOfValue c.args.value.now v
    → BringsHeader now.profile limit s c.args.path.now v (change_of c.in_ok-text_edit.text_edit))
    (c.self.view_is ∙ c.added_line.ensures.same) c.in_ok-text_edit.ensures.added
