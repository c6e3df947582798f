use Rattle.std.proofs.Common.{◌∙◌, ap, sym}
use Rattle.std.specs.Prelude.{IfOk}
use Rattle.keep_edit_spec.specs.Edits.{append_element}
use Rattle.keep_edit_spec.specs.TextEnds.{ends_in_newline}
use Rattle.keep_edit_plan.specs.Headers.{key_texts}
use Rattle.keep_edit_plan.specs.Plans.{EditPlanned, IsPlanOf}
use Rattle.keep_edit_plan.proofs.AnswerLaws.{index_of, seen, text_seen}
use Rattle.keep_edit_plan.proofs.ChangeLaws.{ok_there}
use Rattle.keep_edit_plan.proofs.NewElementLaws.{element_appends_here}
use Rattle.keep_edit_plan.proofs.document.DocumentRef.new_element.Goals as goal

pub returns : goal.returns
returns c =
    let plan = c.in_ok-plan.plan in
    let now = c.args.self.now in
    let is = c.in_ok-plan.ensures.value in
    let within =
    (ok_there (λ r. IfOk r (IsPlanOf now)) c.append_plan.result plan is c.append_plan.ensures.of_edit).0.within in
    record {
      appends = λ s read.
          element_appends_here now c.args.keys.now c.in_ok-number.number plan s read
          (ap ends_in_newline (sym (text_seen c.self.view_is)) ∙ sym c.ends_in_newline.ensures
          ∙ c.if-not-ends_in_newline.false)
          (ok_there (EditPlanned s (append_element (key_texts c.args.keys.now)) now) c.append_plan.result plan is
          (c.append_plan.ensures.planned s read))
          within.ordered
          (c.in_ok-number.ensures s (index_of now _ _ s (seen c.self.view_is c.self.invariant) read));
      within = within;
    }
