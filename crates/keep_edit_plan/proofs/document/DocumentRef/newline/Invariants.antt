use Rattle.std.proofs.Common.{◌≡◌}
use Rattle.keep_syntax.specs.Tree as tree
use Rattle.keep_syntax.specs.Contract.{left}
use Rattle.keep_edit_spec.specs.Lines.{newline_of}
use Rattle.keep_edit_plan.specs.Newlines.{newline_among}
use Rattle.keep_edit_plan.specs.Reading.{IsTextOfTree}
use Rattle.keep_edit_plan.proofs.document.DocumentRef.newline.Given as goal

abbrev pub invariant-loop-token : goal.invariant-loop-token
invariant-loop-token l =
    (goal.iterator-loop-token).can_next l.token-iterator ×
    (goal.iterator-loop-token).is_finite l.token-iterator ×
    ((s : tree.Document) → IsTextOfTree l.self s → (newline_of s).text ≡ newline_among (left l.token-iterator))
