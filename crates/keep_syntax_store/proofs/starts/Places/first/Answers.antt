use Rattle.std.proofs.Common.{ℕ, take, sym, ap, ◌∙◌}
use Rattle.std.specs.Prelude.{min}
use Rattle.std.proofs.lemmas.List.{take_min}
use Rattle.keep_syntax_store.specs.Left.{places_left}
use Rattle.keep_syntax_store.proofs.StartLaws.{places_all}
use Rattle.keep_syntax_store.proofs.MilestoneLaws.{are_first}
use Rattle.keep_syntax_store.proofs.starts.Places.first.Goals as goal

pub invariant_of-result : goal.invariant_of-result
invariant_of-result c =
    let p = c.args.self.now in
    let first =
    are_first p.at p.steps.now p.far.now c.min.result c.count_far.result c.count_far.ensures p.matched p.small in
    record { small = first.small; matched = first.matched }

pub returns-clause-first : goal.returns-clause-first
returns-clause-first c =
    let p = c.args.self.now in
    (are_first p.at p.steps.now p.far.now c.min.result c.count_far.result c.count_far.ensures p.matched p.small).places
    ∙ ap (λ (n : ℕ). take n (places_left p))
    (c.min.ensures ∙ ap (min c.args.count) (sym (places_all p.at p.steps.now p.far.now p.matched)))
    ∙ take_min c.args.count (places_left p)
