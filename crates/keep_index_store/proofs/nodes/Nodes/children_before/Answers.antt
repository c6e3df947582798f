-- The children ascend, so all before `low` come before.
use Rattle.std.proofs.Common.{◌≡◌, ◌<◌, ◌≤◌, ◌-◌, ℕ, List, arith, get_or, length, inl, inr, sym, subst}
use Rattle.std.proofs.lemmas.Bool.{cases_lt}
use Rattle.keep_index_store.specs.AllNodes.{node_at}
use Rattle.keep_index_store.specs.Children.{child_ids}
use Rattle.keep_index_store.proofs.AscendingLemmas.{Ascends, stored_ascend}
use Rattle.keep_index_store.proofs.nodes.Nodes.children_before.Goals as goal

-- if the last of the first `low` elements is less than `at`, all of them are
all_less : (ids : List ℕ) → Ascends ids → (low at : ℕ) → low ≤ length ids → (0 < low → get_or ids (low - 1) 0 < at)
    → (k : ℕ) → k < low → get_or ids k 0 < at
all_less ids a low at within less k h = elim (cases_lt k (low - 1)) [
  | inl before ↦
      omega (arith, a k (low - 1) 0 before (omega (arith, within, h)), less (omega (arith, h)))
  | inr last ↦
      let same : k ≡ low - 1 = omega (arith, last, h) in
      subst (λ (n : ℕ). get_or ids n 0 < at) (sym same) (less (omega (arith, h)))
]

pub returns-clause-before : goal.returns-clause-before
returns-clause-before c =
    let nodes = c.args.self.now.items in
    let id : ℕ = c.args.id in
    let ascend : Ascends (child_ids (node_at nodes id).children) =
    stored_ascend nodes c.requires.stored id c.requires.within in
    let i = c.loop-low.invariant in
    all_less (child_ids (node_at nodes id).children) ascend c.loop-low.low c.args.at
    (omega (arith, i.0, i.1)) i.2
