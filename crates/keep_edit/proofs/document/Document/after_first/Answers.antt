use Rattle.std.proofs.Common.{subst}
use Rattle.keep_edit_runs.specs.Runs.{MakeChanges}
use Rattle.keep_edit.specs.Reading.{ProfiledText}
use Rattle.keep_edit.proofs.document.Document.after_first.Goals as goal

pub returns-clause-made : goal.returns-clause-made
returns-clause-made c = λ s old h.
    let run = c.in_ok-run.run' in
    rw c.in_ok-with_changes.ensures
    (subst (λ (now : ProfiledText). MakeChanges c.args.edits.now 0 run.end now run.changes) c.before-2.ensures
    c.in_ok-run.ensures.made s old h)
