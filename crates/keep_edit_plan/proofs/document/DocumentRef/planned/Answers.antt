use Rattle.std.specs.Prelude.{IfOk}
use Rattle.keep_edit_plan.specs.Plans.{EditPlanned, IsPlanOf}
use Rattle.keep_edit_plan.proofs.ChangeLaws.{ok_there, planned_is}
use Rattle.keep_edit_plan.proofs.document.DocumentRef.planned.Goals as goal

pub returns : goal.returns
returns c =
    let plan = c.in_ok-plan.plan in
    let now = c.args.self.now in
    let is = c.in_ok-plan.ensures.value in
    let (e, given) = c.plan.ensures.edit in
    record {
      edit = e;
      is = given;
      planned = λ s read f its.
          planned_is now s f plan
          (ok_there (EditPlanned s f now) c.plan.result plan is (c.plan.ensures.planned s read f its));
      within = (ok_there (λ r. IfOk r (IsPlanOf now)) c.plan.result plan is c.plan.ensures.of_edit).0.within;
    }
