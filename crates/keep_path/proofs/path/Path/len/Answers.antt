use Rattle.std.proofs.Common.{subst}
use Rattle.keep_path.specs.Path.{AreUtf8}
use Rattle.keep_path.proofs.PathTextLaws.{steps_are_utf8}
use Rattle.keep_path.proofs.path.Path.len.Goals as goal

pub returns-clause-utf8 : goal.returns-clause-utf8
returns-clause-utf8 c = subst AreUtf8 c.self.view_is (steps_are_utf8 c.self.inside.steps.items)
