use Rattle.keep_edit_runs.proofs.SeenLaws.{text_added}
use Rattle.keep_edit_runs.proofs.seen_paths.SeenPaths.add_name.Goals as goal

pub returns-clause-others : goal.returns-clause-others
returns-clause-others c =
    let added = text_added c.args.self.now.names c.insert.new.self c.args.key c.in_ok-insert.ensures.updates in record {
      ends = λ path had. had;
      keyed = λ path had. had;
      beginnings = λ path had. had;
      keys = λ text had. had;
      names = added.1;
    }
