use Rattle.keep_edit_spec.proofs.Touched.FitLaws.{touched_lines_are_lines}
use Rattle.keep_edit_spec.proofs.laws.touched_lines_are_lines.Goals as goal

pub returns : goal.returns
returns c = touched_lines_are_lines
