use Rattle.std.proofs.Common.{List, subst, ℕ}
use Rattle.keep_edit_runs.specs.Runs.{IsSetBy}
use Rattle.keep_edit_runs.specs.ValueAfter.{MakesValue}
use Rattle.keep_edit_runs.proofs.InRuns.{entry_again}
use Rattle.keep_edit_runs.proofs.before.Before.entry_again.Goals as goal

pub returns : goal.returns
returns c =
    let x = c.args.edit.now in
    let now = c.args.self.now in
    let outlines = c.args.so_far.now.outlines.items in
    let path = c.in_ok-path.path.now in
    let was = c.in_ok-earlier.earlier.now in
    let value : List ℕ = c.in_ok-value.value in
    let made =
    subst (λ (text : List ℕ). MakesValue now.profile text x value) c.as_str.ensures.value c.in_ok-value.ensures in
    entry_again now outlines c.args.so_far.now.changes x path was value c.set_of_holder.result c.in_ok-path.ensures
    (subst (IsSetBy outlines) c.before_last.ensures c.in_ok-earlier.ensures.set) c.in_ok-earlier.ensures.change made
    c.set_of_holder.ensures.made c.set_of_holder.ensures.place
