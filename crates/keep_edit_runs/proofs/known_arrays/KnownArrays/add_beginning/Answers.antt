use Rattle.keep_edit_runs.specs.Seen.{number_of}
use Rattle.keep_edit_runs.proofs.SeenLaws.{number_added}
use Rattle.keep_edit_runs.proofs.known_arrays.KnownArrays.add_beginning.Goals as goal

pub returns-clause-others : goal.returns-clause-others
returns-clause-others c =
    let (own, on) =
    number_added c.args.self.now.beginnings c.insert.new.self c.args.number c.in_ok-insert.ensures.updates in record {
      arrays = λ path had. had;
      beginnings = λ path had. on (number_of path) had;
    }
