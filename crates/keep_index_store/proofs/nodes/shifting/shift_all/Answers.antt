-- Where the facts of each node stay, all nodes stay.
use Rattle.std.proofs.Common.{◌≡◌, List, [], ◌∷◌, map, refl, sym, ap₂}
use Rattle.keep_index_store.specs.declared.facts.NodeFacts.{NodeFacts}
use Rattle.keep_index_store.specs.declared.nodes.Node.{Node}
use Rattle.keep_index_store.specs.declared.shift.NumberShifts.{NumberShifts}
use Rattle.keep_index_store.specs.Below.{shifted_facts, with_shifted_stored}
use Rattle.keep_index_store.proofs.nodes.shifting.shift_all.Goals as goal

nodes_stay : (by : NumberShifts) → ((t : NodeFacts) → shifted_facts by t ≡ t) → (nodes : List Node)
    → nodes ≡ map (with_shifted_stored by) nodes
nodes_stay by same [] = refl
nodes_stay by same (n ∷ ns) =
    ap₂ (λ (t : NodeFacts) (ms : List Node). let m : Node = record { children = n.children; facts = t } in m ∷ ms)
    (sym (same n.facts)) (nodes_stay by same ns)

pub returns-then-moves_nothing-clause-shifted : goal.returns-then-moves_nothing-clause-shifted
returns-then-moves_nothing-clause-shifted c _ =
    nodes_stay c.args.by (c.moves_nothing.ensures c.if-moves_nothing.true) c.args.nodes.now
