use Rattle.keep_edit_runs.proofs.SeenPathLaws.{numbers_kept, paths_kept}
use Rattle.keep_edit_runs.proofs.seen_paths.SeenPaths.add_end.Goals as goal

pub returns-clause-others : goal.returns-clause-others
returns-clause-others c =
    let updates = c.in_ok-insert.ensures.updates in record {
      ends = paths_kept c.args.self.now.ends c.insert.new.self c.args.number updates;
      keyed = numbers_kept c.args.self.now.ends c.insert.new.self c.args.number updates;
      beginnings = λ path had. had;
      keys = λ text had. had;
      names = λ text had. had;
    }
