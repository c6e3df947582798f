use Rattle.std.proofs.Common.{◌≡◌, ◌+◌, ◌-◌, ◌<◌, ◌^◌, List, ℕ, [], ◌++◌, length, take, drop, sym, ap, ◌∙◌, arith}
use Rattle.std.proofs.lemmas.List.{take-append-drop, take_rest}
use Rattle.keep_syntax_store.specs.declared.starts.Near.{Near}
use Rattle.keep_syntax_store.specs.declared.starts.Places.{Places}
use Rattle.keep_syntax_store.specs.Starts.{places_at}
use Rattle.keep_syntax_store.proofs.RunLaws.{IsPastNear, past_near, after_near}
use Rattle.keep_syntax_store.proofs.starts.Places.take_near.Goals as goal

split : (p : Places) (n : Near) → n.steps.now ≡ take (length n.steps.now) p.steps.now
    → p.steps.now ≡ n.steps.now ++ take (length p.steps.now
    - length n.steps.now) (drop (length n.steps.now) p.steps.now)
split p n first =
    let near : List ℕ = n.steps.now in
    let steps : List ℕ = p.steps.now in
    let rest : List ℕ = drop (length near) steps in
    sym (ap (λ (ys : List ℕ). ys ++ rest) first ∙ take-append-drop (length near) steps)
    ∙ sym (ap (λ (ys : List ℕ). near ++ ys) (take_rest steps (length near)))

-- what is left after the near steps that stand first
past : (p : Places) (n : Near) → p.at < 2 ^ 64 → n.steps.now ≡ take (length n.steps.now) p.steps.now
    → IsPastNear p.at p.steps.now n.steps.now
    (take (length p.steps.now - length n.steps.now) (drop (length n.steps.now) p.steps.now)) p.far.now
past p n fits first =
    let near : List ℕ = n.steps.now in
    let steps : List ℕ = p.steps.now in
    past_near p.at steps near (take (length steps - length near) (drop (length near) steps)) p.far.now (split p n first)
    n.near (λ _. fits) p.small

pub overflow_add-self : goal.overflow_add-self
overflow_add-self c =
    omega (
      arith,
      (past c.args.self.now c.near-near.result (omega arith) c.near-near.ensures.first).fits,
      c.near-near.result.leads,
    )

pub invariant_of-self : goal.invariant_of-self
invariant_of-self c =
    let p = c.args.self.now in
    let n = c.near-near.result in
    record {
      small = rw n.leads ((past p n (omega arith) c.near-near.ensures.first).small);
      matched = p.matched ∙ after_near p.steps.now n.steps.now _ (split p n c.near-near.ensures.first) n.near;
    }

pub returns-clause-left : goal.returns-clause-left
returns-clause-left c =
    let p = c.args.self.now in
    let n = c.near-near.result in
    let steps : List ℕ = take (length p.steps.now - length n.steps.now) (drop (length n.steps.now) p.steps.now) in
    (past p n (omega arith) c.near-near.ensures.first).left
    ∙ ap (λ (d : ℕ). places_at p.at n.steps.now [] ++ places_at (p.at + d) steps p.far.now) (sym n.leads)
