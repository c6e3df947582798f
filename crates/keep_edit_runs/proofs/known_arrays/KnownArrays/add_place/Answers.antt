use Rattle.std.proofs.Common.{subst}
use Rattle.keep_edit_runs.specs.Seen.{number_of}
use Rattle.keep_edit_runs.proofs.KnownLaws.{HasPlace, place_added}
use Rattle.keep_edit_runs.proofs.known_arrays.KnownArrays.add_place.Goals as goal

pub returns-clause-added : goal.returns-clause-added
returns-clause-added c = λ path is.
    let (own, on) =
    place_added c.args.self.now.places c.insert.new.self c.args.number c.args.place c.in_ok-insert.ensures.updates in
    subst (HasPlace c.insert.new.self) is own

pub returns-clause-others : goal.returns-clause-others
returns-clause-others c =
    let (own, on) =
    place_added c.args.self.now.places c.insert.new.self c.args.number c.args.place c.in_ok-insert.ensures.updates in
    record {
      arrays = λ path had. on (number_of path) had;
      beginnings = λ path had. had;
    }
