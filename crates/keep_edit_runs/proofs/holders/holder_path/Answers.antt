use Rattle.std.proofs.Common.{◌≡◌, ◌++◌, ◌∷◌, [], List, Option, arith, subst, sym}
use Rattle.std.specs.Prelude.{IfSome}
use Rattle.keep_path.specs.Path.{Part}
use Rattle.keep_edit_runs.proofs.InRuns.{holder_first}
use Rattle.keep_edit_runs.proofs.holders.holder_path.Goals as goal

pub returns : goal.returns
returns c =
    let path = c.args.path.now in
    subst (λ (r : Option (List Part)). IfSome r (λ holder. (part : Part) × (path ≡ holder ++ part ∷ [])))
    (sym c.ok.ensures.value)
    (holder_first path _ c.first_steps.result (omega (arith, c.len-len.ensures.count, c.if-len-eq0.false))
    c.first_steps.ensures)
