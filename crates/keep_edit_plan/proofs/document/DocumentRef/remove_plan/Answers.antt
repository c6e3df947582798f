use Rattle.std.proofs.Common.{[]}
use Rattle.std.proofs.lemmas.Result.{err_from_is_err_and}
use Rattle.keep_meaning.specs.KeyText.{text_at}
use Rattle.keep_edit_spec.specs.Edits.{remove}
use Rattle.keep_edit_plan.proofs.AnswerLaws.{text_seen, seen}
use Rattle.keep_edit_plan.proofs.EditedLaws.{refused_planned, planned, plan_of_edit}
use Rattle.keep_edit_plan.proofs.RemoveCut.{removal_law, removal_done}
use Rattle.keep_edit_plan.proofs.document.DocumentRef.remove_plan.Goals as goal

pub returns-in_err-node-clause-planned : goal.returns-in_err-node-clause-planned
returns-in_err-node-clause-planned c = λ s read.
    let p = err_from_is_err_and c.from_residual.result c.from_residual.ensures.1 in
    rw (p.1, p.2) (refused_planned s (remove c.args.path.now) c.args.self.now [] _ (c.in_err-node.ensures s read))

pub cut-cut-requires : goal.cut-cut-requires
cut-cut-requires c =
    let h = seen c.self.view_is c.self.invariant in
    (c.args.path.now, h.tree, h.read, (c.in_ok-node.ensures h.tree h.read).1)

pub removal_change-change-requires : goal.removal_change-change-requires
removal_change-change-requires c =
    let h = seen c.self.view_is c.self.invariant in
    (h.tree, h.read, c.in_ok-node.ensures h.tree h.read)

pub part_at-requires : goal.part_at-requires
part_at-requires c =
    let h = seen c.self.view_is c.self.invariant in
    let at = c.cut-cut.ensures c.args.path.now h.tree h.read (c.in_ok-node.ensures h.tree h.read).1 in
    rw (text_seen c.self.view_is) at.2

pub returns-clause-planned : goal.returns-clause-planned
returns-clause-planned c = λ s read.
    let found = c.in_ok-node.ensures s read in
    let at = c.cut-cut.ensures c.args.path.now s read found.1 in
    let is = rw (c.part_at.ensures, text_seen c.self.view_is) at c.plan_at.ensures in
    planned c.args.self.now s (remove c.args.path.now) c.cut-cut.result.span
    (text_at c.args.self.now.text c.cut-cut.result.preserved) read
    (removal_done c.args.self.now c.args.path.now s _ c.cut-cut.result found.1 at)
    (removal_law c.args.self.now c.args.path.now s read found.1.0)
    c.removal_change-change.result (c.removal_change-change.ensures s read found) (λ one. absurd one) c.plan_at.result
    is

pub returns-clause-of_edit : goal.returns-clause-of_edit
returns-clause-of_edit c =
    let h = seen c.self.view_is c.self.invariant in
    let found = c.in_ok-node.ensures h.tree h.read in
    let at = c.cut-cut.ensures c.args.path.now h.tree h.read found.1 in
    let is = rw (c.part_at.ensures, text_seen c.self.view_is) at c.plan_at.ensures in
    plan_of_edit c.args.self.now h.tree (remove c.args.path.now) c.cut-cut.result.span
    (text_at c.args.self.now.text c.cut-cut.result.preserved) h.read
    (removal_done c.args.self.now c.args.path.now h.tree _ c.cut-cut.result found.1 at)
    (removal_law c.args.self.now c.args.path.now h.tree h.read found.1.0)
    c.removal_change-change.result (c.removal_change-change.ensures h.tree h.read found) c.plan_at.result is
