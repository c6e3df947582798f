use Rattle.std.proofs.Common.{subst, sym, ◌∙◌}
use Rattle.std.specs.Prelude.{IsTrue}
use Rattle.keep_edit_runs.proofs.InsertAgainSteps.{AddsAt}
use Rattle.keep_edit_runs.proofs.UndoneSteps.{undone_here}
use Rattle.keep_edit_runs.proofs.before.Before.is_undone.Goals as goal

pub returns-in-Some-clause-undone : goal.returns-in-Some-clause-undone
returns-in-Some-clause-undone c line =
    let path = c.in-Insert-Remove.path in
    let given = c.in-Insert-Remove.value in
    let made = c.in-Some.line in
    undone_here c.args.self.now c.args.edit.now c.args.next.now path c.in-Insert-Remove.gone given made.text_edit
    made.kind
    c.in-Insert-Remove.is-0 c.in-Insert-Remove.is-1
    (sym c.of.ensures ∙ c.is_same.ensures.0 c.if-not-is_same.false ∙ c.of-2.ensures)
    (subst IsTrue c.ne.ensures line)
    (subst (λ d. AddsAt d path given made.text_edit made.kind) c.requires c.in-Some.ensures.added)
    c.in-Some.ensures.value
