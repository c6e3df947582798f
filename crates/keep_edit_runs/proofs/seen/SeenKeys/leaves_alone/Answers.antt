use Rattle.std.proofs.Common.{eqb-true, length}
use Rattle.keep_path.specs.Path.{beside}
use Rattle.keep_edit_runs.proofs.SeenLaws.{alone_as, element_alone, rename_alone}
use Rattle.keep_edit_runs.proofs.seen.SeenKeys.leaves_alone.Goals as goal

pub returns-then-lacks : goal.returns-then-lacks
returns-then-lacks c = λ yes.
    let here = c.in-Rename-Rename in
    alone_as c.args.self.now _ c.args.outline.now _ here.is-0 here.is-1
    (rename_alone c.args.self.now here.field-0-0 here.path here.field-1-0 here.key (c.lacks_all_above.ensures yes)
    (c.lacks-in-Rename-Rename.ensures c.if-lacks.true (beside here.path here.key.now) c.number_beside.ensures))

pub returns-then-self : goal.returns-then-self
returns-then-self c = λ yes.
    let here = c.in-Element-Element in
    alone_as c.args.self.now _ c.args.outline.now _ here.is-0 here.is-1
    (element_alone c.args.self.now here.keys here.more c.if-self.true (eqb-true (length here.keys.now)
    (length here.more.now) yes))
