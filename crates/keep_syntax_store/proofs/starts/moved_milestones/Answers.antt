use Rattle.std.proofs.Common.{[], ◌∷◌, sym, subst}
use Rattle.std.specs.List.{AllByRecursion}
use Rattle.keep_syntax_store.specs.declared.starts.Milestone.{Milestone}
use Rattle.keep_syntax_store.specs.Starts.{CanMoveOn, IsMilestone}
use Rattle.keep_syntax_store.proofs.BeforeLaws.{all_append}
use Rattle.keep_syntax_store.proofs.BulkMilestoneLemmas.{all_at}
use Rattle.keep_syntax_store.proofs.starts.moved_milestones.Goals.{in-Some+in_ok-push, in_default}
use Rattle.keep_syntax_store.proofs.starts.moved_milestones.Goals as goal

pub milestones-preserved : goal.milestones-preserved
milestones-preserved c = λ steps far all.
    let can = CanMoveOn c.args.low c.args.high c.args.at steps far in
    let none : Milestone = record { steps = 0; far = 0; place = 0 } in
    elim c.match-moved_milestone.branch [
      | in-Some+in_ok-push w ↦
          let is = w.in-Some.ensures in
          let here : IsMilestone steps far w.in-Some.moved =
          subst (IsMilestone steps far) (sym is.moved)
          (all_at can c.args.milestones.now c.milestones.milestone-index none c.milestones-test.true all is.from
          is.to) in
          rw w.out-is (subst (AllByRecursion (IsMilestone steps far)) (sym w.in_ok-push.ensures.items)
          (all_append (IsMilestone steps far) c.milestones.out.items (w.in-Some.moved ∷ [])
          (c.milestones.invariant steps far all) (here, tt)))
      | in_default w ↦ rw w.out-is (c.milestones.invariant steps far all)
    ]
