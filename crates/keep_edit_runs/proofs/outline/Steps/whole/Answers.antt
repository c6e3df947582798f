use Rattle.std.proofs.Common.{List, ap, length, sym, take, ℕ, ◌∙◌}
use Rattle.std.proofs.lemmas.List.{length-take-le}
use Rattle.keep_path.specs.Path.{Part}
use Rattle.keep_edit_runs.proofs.outline.Steps.whole.Goals as goal

pub returns : goal.returns
returns c =
    let path : List Part = c.self.inside.path.now in
    ap (take (length c.args.self.now)) c.of.ensures
    ∙ ap (λ (steps : List Part). take (length steps) path) (sym c.self.view_is)
    ∙ ap (λ (n : ℕ). take n path) (length-take-le c.self.inside.count path c.self.invariant)
    ∙ c.self.view_is
