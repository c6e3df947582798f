use Rattle.std.proofs.Common.{◌≡◌, List, ap, sym, ℕ, ◌∙◌}
use Rattle.std.specs.Prelude.{slice_range}
use Rattle.keep_edit_runs.proofs.InRuns.{by_places}
use Rattle.keep_edit_runs.proofs.before.Before.change_by_places.Goals as goal

pub returns : goal.returns
returns c =
    let x = c.args.edit.now in
    let now = c.args.self.now in
    let path = c.in_ok-path.path.now in
    let span = c.in_ok-span.span in
    let was : List ℕ = c.in_ok-was.was'.now in
    let value : List ℕ = c.in_ok-value.value in
    let given : slice_range now.text span.start span.end ≡ was =
    sym (c.in_ok-was.ensures.cases.0 ∙ ap (λ b. slice_range b span.start span.end) (ap (λ d. d.text) c.self.view_is))
    in
    by_places now x path span was value c.set_of_holder.result c.in_ok-path.ensures given
    (c.in_ok-value.ensures now.profile) c.set_of_holder.ensures.made c.set_of_holder.ensures.place
