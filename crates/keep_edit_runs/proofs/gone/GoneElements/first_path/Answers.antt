use Rattle.std.proofs.Common.{◌≡◌, ◌∙◌, List, ap, arith, subst, sym}
use Rattle.std.specs.Prelude.{IfSome}
use Rattle.keep_path.specs.Path.{Part}
use Rattle.keep_edit_spec.specs.RemovedHeaders.{first_path}
use Rattle.keep_edit_runs.proofs.GoneFound.{above_here}
use Rattle.keep_edit_runs.proofs.GoneLaws.{one_above}
use Rattle.keep_edit_runs.proofs.gone.GoneElements.first_path.Goals as goal

pub returns : goal.returns
returns c =
    let all = c.self.inside.arrays.items in
    let at = c.in_ok-at.at in
    let gone = c.index.result.now in
    subst (λ (p : List Part). IfSome c.first_path.result (λ first. first ≡ p))
    (sym (one_above all at gone c.args.path.now c.self.invariant.0
    (omega (arith, c.in_ok-at.ensures.found, c.as_slice.ensures.len)) c.index.ensures
    (above_here all c.as_slice.result.now at gone c.of.result c.args.path.now c.as_slice.ensures.value c.of.ensures
    c.index.ensures c.in_ok-at.ensures.above))
    ∙ ap (λ (gone : List (List Part)). first_path gone c.args.path.now) c.self.view_is)
    c.first_path.ensures
