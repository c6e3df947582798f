use Rattle.keep_edit_runs.proofs.SeenPathLaws.{allowed_as, key_allowed}
use Rattle.keep_edit_runs.proofs.seen_paths.SeenPaths.allow.Goals as goal

pub returns-then-lacks_ends_above : goal.returns-then-lacks_ends_above
returns-then-lacks_ends_above c = λ yes.
    let here = c.in-Rename in
    let seen = c.args.self.now in
    allowed_as seen c.args.outline.now _ here.is
    (key_allowed seen here.path here.key (c.lacks_ends_above.ensures c.if-lacks_ends_above.true)
    (c.misses_new.ensures.path yes) (c.misses_new.ensures.keys yes) (c.misses_new.ensures.key yes))
