use Rattle.std.proofs.Common.{◌≤◌, ℕ, List, length, subst, take}
use Rattle.keep_path.specs.Path.{Part, beside}
use Rattle.keep_edit_runs.specs.Seen.{HasPath}
use Rattle.keep_edit_runs.proofs.SeenLaws.{allowed_as, key_allowed}
use Rattle.keep_edit_runs.proofs.seen.SeenKeys.allow.Goals as goal

pub returns-then-lacks : goal.returns-then-lacks
returns-then-lacks c = λ yes.
    let here = c.in-Rename-Rename in
    let seen = c.args.self.now in
    allowed_as seen _ c.args.outline.now _ here.is-0 here.is-1
    (key_allowed seen here.field-0-0 here.path here.field-1-0 here.key
    (subst (λ (q : List Part). (n : ℕ) → n ≤ length q → ¬ HasPath seen (take n q)) c.parent.ensures
    (c.lacks_all_above.ensures yes))
    (c.lacks.ensures c.if-lacks.true (beside here.path here.key.now) c.number_beside.ensures))
