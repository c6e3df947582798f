use Rattle.std.proofs.Common.{◌≡◌, ◌-◌, ◌∙◌, ℕ, ap, arith, length, sym, take}
use Rattle.keep_edit_runs.proofs.AlikeLaws.{before_last}
use Rattle.keep_edit_runs.proofs.outline.Steps.before_last.Goals as goal

pub returns : goal.returns
returns c =
    let path = c.args.path.now in
    let count : c.saturating_sub.result ≡ length path - 1 =
    omega (arith, c.saturating_sub.ensures, c.len.ensures.count) in
    ap (λ (n : ℕ). take n path) count ∙ sym (before_last path)
