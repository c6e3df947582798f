use Rattle.std.proofs.Common.{◌≡◌, ℕ, ◌+◌, [], ◌∷◌, drop, refl, sym, ap, ◌∙◌, arith}
use Rattle.std.specs.Prelude.{sum}
use Rattle.keep_syntax_store.specs.Starts.{last_of}
use Rattle.keep_syntax_store.specs.Left.{places_left}
use Rattle.keep_syntax_store.proofs.RunLaws.{place_and_near, left_after, last_after_run, past_end}
use Rattle.keep_syntax_store.proofs.starts.Places.skip_places.Goals as goal

pub runs-preserved : goal.runs-preserved
runs-preserved c =
    let all = places_left c.args.self.now in
    let near = c.take_near-near.result in
    let n = c.runs.number in
    let at = c.in-Some.field-0 in
    let left = places_left c.advance.new.self in
    let rest = places_left c.take_near-near.new.self in
    let low = c.args.self.now.at in
    let here : drop n all ≡ at ∷ left = sym c.runs.invariant.left ∙ c.in-Some.ensures.first in
    let whole =
    place_and_near all near.steps.now rest left n at c.advance.new.self.at here c.in-Some.ensures.at
    c.take_near-near.ensures.left in
    record {
      bounded = omega (arith, c.take_near-near.ensures.most, c.runs-test.true);
      left = left_after all near.steps.now rest n _ at near.near whole refl;
      last = c.take_near-near.ensures.at ∙ ap (λ (place : ℕ). place + sum near.steps.now) (sym c.in-Some.ensures.at)
          ∙ sym (last_after_run all near.steps.now rest low n _ at near.near whole refl);
    }

pub returns-in_default-clause-last : goal.returns-in_default-clause-last
returns-in_default-clause-last c =
    let all = places_left c.args.self.now in
    let none : drop c.runs.number all ≡ [] = sym c.runs.invariant.left ∙ c.in_default.ensures.first.0 in
    c.in_default.ensures.none refl ∙ c.runs.invariant.last
    ∙ ap (last_of c.args.self.now.at)
    (sym (past_end all c.runs.number c.args.count none (omega (arith, c.runs-test.true))))
