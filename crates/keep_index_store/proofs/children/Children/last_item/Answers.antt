use Rattle.std.proofs.Common.{◌≡◌, ◌∙◌, ℕ, ◌<◌, ◌-◌, IfSome, ap, length, subst, sym}
use Rattle.std.specs.Prelude.{slice_index_or}
use Rattle.keep_index_store.specs.ChildForms.{children_in}
use Rattle.keep_index_store.specs.Children.{ChildList, child_ids}
use Rattle.keep_index_store.specs.Runs.{consecutive}
use Rattle.keep_index_store.proofs.RunLemmas.{length-consecutive}
use Rattle.keep_index_store.proofs.children.Children.last_item.Goals as goal

pub returns-in-Run-clause-some : goal.returns-in-Run-clause-some
returns-in-Run-clause-some c =
    let nodes = consecutive c.in-Run.first c.in-Run.len in
    subst (λ (x : ChildList).
    IfSome c.last_child.result (λ id.
    (0 < length (child_ids x)) × (id ≡ slice_index_or (child_ids x) (length (child_ids x) - 1) 0)))
    (ap children_in (sym c.in-Run.is) ∙ c.self.view_is)
    (subst (λ (n : ℕ). IfSome c.last_child.result (λ id. (0 < n) × (id ≡ slice_index_or nodes (n - 1) 0)))
    (sym (length-consecutive c.in-Run.first c.in-Run.len)) c.last_child.ensures.some)
