use Rattle.std.proofs.Common.{All, List, subst, sym}
use Rattle.keep_index_store.specs.declared.nodes.Node.{Node as StoredNode}
use Rattle.keep_index_store.specs.Replacing.{CanShiftChildren}
use Rattle.keep_index_store.proofs.ReplacedNodeLemmas.{rest_moved, rest_then}
use Rattle.keep_index_store.proofs.nodes.taking_in.shift_beside.Goals as goal

pub shift_children-requires-2 : goal.shift_children-requires-2
shift_children-requires-2 c =
    subst (λ (ns : List StoredNode). All (λ n. CanShiftChildren c.args.by n.children) ns)
    (sym (rest_then c.args.by c.args.list.now c.shift_children.new.list c.args.list.now c.args.id c.args.after
    c.requires.within.0 c.requires.within.1 c.shift_children.ensures))
    c.requires.after

pub returns-clause-after : goal.returns-clause-after
returns-clause-after c =
    rest_moved c.args.by c.args.list.now c.shift_children.new.list c.shift_children-2.new.list c.args.id c.args.after
    c.requires.within.0 c.requires.within.1 c.shift_children.ensures c.shift_children-2.ensures
