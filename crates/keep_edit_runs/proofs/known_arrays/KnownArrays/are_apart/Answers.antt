use Rattle.std.proofs.Common.{◌==◌, subst, sym}
use Rattle.std.specs.HashSet.{contains_by}
use Rattle.keep_edit_runs.proofs.KnownLaws.{known_apart, lacks_one, none_of}
use Rattle.keep_edit_runs.proofs.SeenLaws.{HasNumber}
use Rattle.keep_edit_runs.proofs.known_arrays.KnownArrays.are_apart.Goals as goal

pub returns-then-is_none : goal.returns-then-is_none
returns-then-is_none c = λ lacks.
    let known = c.args.self.now in
    let path = c.args.path.now in
    let number = c.number_of.result in
    known_apart known path
    (none_of c.above.result _ c.is_none.result c.is_none.ensures c.if-is_none.true c.above.ensures) (λ has.
    lacks_one (contains_by (λ n. number == n) known.beginnings) c.contains.result c.contains.ensures lacks
    (subst (HasNumber known.beginnings) (sym c.number_of.ensures) has))
