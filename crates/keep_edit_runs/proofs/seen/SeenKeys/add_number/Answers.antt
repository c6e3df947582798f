use Rattle.std.proofs.Common.{refl}
use Rattle.keep_edit_runs.specs.Seen.{number_of}
use Rattle.keep_edit_runs.proofs.SeenLaws.{number_added}
use Rattle.keep_edit_runs.proofs.seen.SeenKeys.add_number.Goals as goal

pub returns-clause-others : goal.returns-clause-others
returns-clause-others c =
    let (here, on) =
    number_added c.args.self.now.paths c.insert.new.self c.args.number c.in_ok-insert.ensures.updates in
    (refl, (refl, λ path had. on (number_of path) had))
