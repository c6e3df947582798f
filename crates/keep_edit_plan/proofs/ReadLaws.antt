-- One text has one tree.
--
-- Theorem: `one_tree`.
use Rattle.std.proofs.Common.{◌≡◌, sym, ◌∙◌}
use Rattle.keep_syntax.specs.Tree.{Document}
use Rattle.keep_syntax.proofs.Shared.{one_document}
use Rattle.keep_edit_plan.specs.Reading.{ProfiledText, IsTextOfTree}

-- one text has one tree
pub one_tree : (t : ProfiledText) (s u : Document) → IsTextOfTree t s → IsTextOfTree t u → s ≡ u
one_tree t s u h k = one_document t.profile s u h.reads.valid k.reads.valid (sym h.reads.spelled ∙ k.reads.spelled)
