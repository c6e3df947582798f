use Rattle.std.proofs.Common.{◌≡◌, ◌+◌, ◌-◌, List, ℕ, take, drop, ap, ◌∙◌, arith}
use Rattle.keep_syntax_store.specs.Starts.{fars, last_of}
use Rattle.keep_syntax_store.specs.Left.{places_left}
use Rattle.keep_syntax_store.proofs.BulkMilestoneLemmas.{gone_on}
use Rattle.keep_syntax_store.proofs.starts.milestone_after.Goals as goal

pub returns-clause-is : goal.returns-clause-is
returns-clause-is c =
    let known = c.args.known in
    let left = c.without-left.ensures in
    gone_on c.args.steps.now c.args.far.now known c.args.count c.count_far.result c.without-left.result.at
    c.requires.known c.requires.can c.requires.within
    (c.count_far.ensures ∙ ap (λ (k : ℕ). fars (take k (drop known.steps c.args.steps.now)))
    (let e : known.steps + c.args.count - known.steps ≡ c.args.count = omega arith in e))
    (left.last ∙ ap (λ (at : ℕ). last_of at (take c.args.count (places_left c.after.result))) c.after.ensures.at
    ∙ ap (λ (ps : List ℕ). last_of known.place (take c.args.count ps)) c.after.ensures.left)
