-- The change may come before what is at the end of the text, and is added in order with the lines. Then the edit's
-- paths are known, beside all that were.
use Rattle.std.proofs.Common.{◌∙◌, length, refl, subst, sym}
use Rattle.keep_edit_plan.specs.Reading.{ProfiledText}
use Rattle.keep_edit_runs.specs.KindsRun.{LetsChange}
use Rattle.keep_edit_runs.specs.Newlines.{IsNewlineOf, LeavesBy}
use Rattle.keep_edit_runs.specs.Runs.{outlined}
use Rattle.keep_edit_runs.specs.SeenPaths.{IsSeen}
use Rattle.keep_edit_runs.proofs.NewlineSteps.{lets_here}
use Rattle.keep_edit_runs.proofs.SameRuns.{blocks_in}
use Rattle.keep_edit_runs.proofs.SeenLaws.{was_added}
use Rattle.keep_edit_runs.proofs.before.Before.add_before.Goals as goal

pub returns-clause-added : goal.returns-clause-added
returns-clause-added c = λ added.
    let o = c.args.outline in
    let old = c.args.run.now in
    let now = c.args.self.now in
    let newline = subst (λ (d : ProfiledText). IsNewlineOf d c.self.inside.newline) c.self.view_is c.self.invariant.1 in
    record {
      lets = lets_here now c.self.inside.newline newline (blocks_in old.tail) (length now.text) (outlined o)
          c.args.made.change
          (subst (λ (d : ProfiledText).
          LetsChange (LeavesBy c.self.inside.newline) (blocks_in old.tail) (length d.text) (outlined o)
          c.args.made.change) c.self.view_is (c.lets_change.ensures c.if-not-lets_change.false));
      added = (c.is_empty-is_none_gone.result, (c.is_empty-is_none_gone.ensures.0, c.add_in_order.ensures.added added));
      outlines = c.add_in_order.ensures.outlines added;
      seen = was_added (IsSeen c.add.new.self o) c.add.result c.add.ensures.seen
          (sym c.unwrap_or.ensures ∙ c.if-not-unwrap_or.false);
      others = c.add.ensures.others;
      newline = c.add_in_order.ensures.newline added;
      rest = refl;
    }
