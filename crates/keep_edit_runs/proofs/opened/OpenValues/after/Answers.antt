use Rattle.std.proofs.Common.{◌≡◌, subst₂, sym}
use Rattle.std.specs.Prelude.{IfOk}
use Rattle.keep_edit_runs.specs.ValueAfter.{MakesValue}
use Rattle.keep_edit_runs.proofs.ValueAfterLaws.{ok_there}
use Rattle.keep_edit_runs.proofs.opened.OpenValues.after.Goals as goal

pub returns : goal.returns
returns c profile =
    let is : c.in_ok-value.value ≡ c.in_ok-now.now =
    ok_there (λ r. IfOk r (λ v. v ≡ c.in_ok-now.now)) c.value.result c.in_ok-value.value c.in_ok-value.ensures.value
    c.value.ensures in
    subst₂ (λ was now. MakesValue profile was c.args.edit.now now) c.in_ok-was.ensures (sym is)
    (c.in_ok-now.ensures profile)
