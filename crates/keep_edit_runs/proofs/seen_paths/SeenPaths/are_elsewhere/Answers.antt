use Rattle.keep_edit_runs.proofs.SeenPathLaws.{seen_elsewhere}
use Rattle.keep_edit_runs.proofs.seen_paths.SeenPaths.are_elsewhere.Goals as goal

pub returns-then-misses_path : goal.returns-then-misses_path
returns-then-misses_path c = λ yes.
    seen_elsewhere c.args.self.now c.args.array.now (c.misses_path.ensures c.if-misses_path.true)
    (c.misses_names.ensures yes)
