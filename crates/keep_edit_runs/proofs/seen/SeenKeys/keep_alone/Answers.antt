use Rattle.std.proofs.Common.{◌∙◌, sym}
use Rattle.std.proofs.lemmas.List.Elements.{All-weaker}
use Rattle.keep_edit_runs.specs.Runs.{LeavesAlone}
use Rattle.keep_edit_runs.specs.Seen.{IsSeen}
use Rattle.keep_edit_runs.proofs.SeenLaws.{was_added}
use Rattle.keep_edit_runs.proofs.seen.SeenKeys.keep_alone.Goals as goal
use Rattle.keep_edit_runs.proofs.seen.SeenKeys.keep_alone.Goals.{else-leaves_alone, then-leaves_alone}

pub returns-clause-alone : goal.returns-clause-alone
returns-clause-alone c = λ added. elim c.if-leaves_alone.branch [
  | then-leaves_alone w ↦
      All-weaker (IsSeen c.args.self.now) (λ y. LeavesAlone y c.args.outline.now)
      (c.leaves_alone.ensures w.if-leaves_alone.true) c.args.outlines.now c.requires
  | else-leaves_alone w ↦ w.leave_alone_within.ensures (sym w.value-is ∙ c.if-not-leave_alone_within.false)
]

pub returns-clause-seen : goal.returns-clause-seen
returns-clause-seen c = λ added.
    was_added (IsSeen c.add.new.self c.args.outline.now) c.add.result c.add.ensures.seen
    (sym c.unwrap_or.ensures ∙ added)
