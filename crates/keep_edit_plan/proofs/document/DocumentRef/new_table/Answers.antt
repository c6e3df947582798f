use Rattle.std.proofs.Common.{◌∙◌, ap, sym}
use Rattle.std.specs.Prelude.{IfOk}
use Rattle.keep_edit_spec.specs.Edits.{append_table}
use Rattle.keep_edit_spec.specs.TextEnds.{ends_in_newline}
use Rattle.keep_edit_plan.specs.Headers.{key_texts}
use Rattle.keep_edit_plan.specs.Plans.{EditPlanned, IsPlanOf}
use Rattle.keep_edit_plan.proofs.AnswerLaws.{index_of, seen, text_seen}
use Rattle.keep_edit_plan.proofs.ChangeLaws.{ok_there}
use Rattle.keep_edit_plan.proofs.NewTableLaws.{appends_here}
use Rattle.keep_edit_plan.proofs.document.DocumentRef.new_table.Goals as goal

pub returns : goal.returns
returns c =
    let plan = c.in_ok-plan.plan in
    let now = c.args.self.now in
    let is = c.in_ok-plan.ensures.value in
    let within =
    (ok_there (λ r. IfOk r (IsPlanOf now)) c.append_plan.result plan is c.append_plan.ensures.of_edit).0.within in
    record {
      appends = λ s read.
          appends_here now c.args.keys.now plan s read
          (ap ends_in_newline (sym (text_seen c.self.view_is)) ∙ sym c.ends_in_newline.ensures
          ∙ c.if-not-ends_in_newline.false)
          (ok_there (EditPlanned s (append_table (key_texts c.args.keys.now)) now) c.append_plan.result plan is
          (c.append_plan.ensures.planned s read))
          within.ordered
          (c.leads_to_none.ensures c.if-not-leads_to_none.false s
          (index_of now _ _ s (seen c.self.view_is c.self.invariant) read));
      within = within;
    }
