use Rattle.std.proofs.Common.{◌≡◌, ◌<◌, ◌∙◌, Bool, arith, false, sym, true}
use Rattle.std.proofs.lemmas.Bool.{le-ltb, ltb-true}
use Rattle.keep_index_store.specs.AllNodes.{HasSmallLink, no_node, node_at}
use Rattle.keep_index_store.proofs.SmallLinkLemmas.{few_kids, links_small_below}
use Rattle.keep_index_store.proofs.nodes.Nodes.can_grow_below.Goals as goal
use Rattle.keep_index_store.proofs.nodes.Nodes.can_grow_below.Goals.{then-len-max, else-len-max}

not_both : {X : Type 0} (b : Bool) → b ≡ true → b ≡ false → X
not_both b is is_not = absurd cc

pub returns-then-parent-max-clause-each : goal.returns-then-parent-max-clause-each
returns-then-parent-max-clause-each c can = elim c.if-len-max.branch [
  | then-len-max w ↦
      let number : c.number.result < 4294967295 = ltb-true _ _ can in
      let parent : w.parent.result < 4294967295 = ltb-true _ _ (sym w.value-is ∙ c.if-parent-max.true) in
      let root : HasSmallLink (node_at c.args.self.now.items 0) =
      (omega (arith, parent, w.parent.ensures), omega (arith, number, c.number.ensures)) in
      links_small_below c.args.self.now.items c.requires.stored (omega (arith, w.if-len-max.true, c.len.ensures)) root
  | else-len-max w ↦ not_both c.if-len-max.value c.if-parent-max.true (w.value-is ∙ le-ltb _ _ w.if-len-max.false)
]

pub returns-then-parent-max-clause-next : goal.returns-then-parent-max-clause-next
returns-then-parent-max-clause-next c can = elim c.if-len-max.branch [
  | then-len-max w ↦
      let kids = few_kids c.args.self.now.items c.requires.stored c.args.parent no_node c.requires.within in (
        omega (arith, w.if-len-max.true, c.len.ensures, c.requires.within),
        omega (arith, w.if-len-max.true, c.len.ensures, kids),
      )
  | else-len-max w ↦ not_both c.if-len-max.value c.if-parent-max.true (w.value-is ∙ le-ltb _ _ w.if-len-max.false)
]
