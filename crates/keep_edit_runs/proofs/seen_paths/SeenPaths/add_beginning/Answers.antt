use Rattle.keep_edit_runs.proofs.SeenPathLaws.{paths_kept}
use Rattle.keep_edit_runs.proofs.seen_paths.SeenPaths.add_beginning.Goals as goal

pub returns-clause-others : goal.returns-clause-others
returns-clause-others c =
    let on =
    paths_kept c.args.self.now.beginnings c.insert.new.self c.args.number c.in_ok-insert.ensures.updates in record {
      ends = λ path had. had;
      keyed = λ path had. had;
      beginnings = on;
      keys = λ text had. had;
      names = λ text had. had;
    }
