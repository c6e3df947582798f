use Rattle.std.proofs.Common.{take}
use Rattle.keep_syntax.specs.Tree.{Document}
use Rattle.keep_edit.specs.Lists.{AreMade}
use Rattle.keep_edit.specs.Reading.{ProfiledText}
use Rattle.keep_edit.proofs.document.Document.apply_up_to.Given as goal

abbrev pub invariant-loop-index : goal.invariant-loop-index
invariant-loop-index l =
    (s : Document) (old : ProfiledText) → AreMade s (take l.first l.edits) old l.fn.self
    → AreMade s (take l.index l.edits) old l.self
