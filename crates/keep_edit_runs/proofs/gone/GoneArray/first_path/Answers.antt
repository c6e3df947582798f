use Rattle.std.proofs.Common.{◌≡◌, ◌∙◌, ℕ, List, ap, length, subst}
use Rattle.std.specs.Prelude.{IfSome}
use Rattle.keep_path.specs.Path.{Part}
use Rattle.keep_edit_runs.specs.Gone.{GoneNumbers, first_number}
use Rattle.keep_edit_runs.proofs.GoneFound.{traced}
use Rattle.keep_edit_runs.proofs.gone.GoneArray.first_path.Goals as goal

pub with_index-requires : goal.with_index-requires
with_index-requires c =
    (c.in_ok-number.number, (c.index_at.ensures c.in_ok-number.number).0 c.in_ok-number.was)

pub returns : goal.returns
returns c =
    let number = c.in_ok-number.number in
    let there = (c.index_at.ensures number).0 c.in_ok-number.was in
    subst (λ (p : List Part). IfSome c.with_index.result (λ first. first ≡ p))
    (traced c.args.self.now.array c.args.path.now c.args.self.now.numbers number c.in_ok-first.first c.len-at.result
    c.requires (c.len-at.ensures.count ∙ ap (λ (g : GoneNumbers). length g.array) c.self.view_is) there
    (c.in_ok-first.ensures ∙ ap (λ (ns : List ℕ). first_number ns number) c.as_slice.ensures.value
    ∙ ap (λ (g : GoneNumbers). first_number g.numbers number) c.self.view_is))
    c.with_index.ensures
