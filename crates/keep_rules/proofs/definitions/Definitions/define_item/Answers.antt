use Rattle.std.proofs.Common.{◌≡◌, ◌∷◌, ◌++◌, [], length, refl, sym, subst}
use Rattle.keep_types.specs.declared.node.NodeInfo.{NodeInfo}
use Rattle.keep_index_store.specs.Children.{holding}
use Rattle.keep_index_store.specs.Tree.{TrieInfos}
use Rattle.keep_rules.specs.Defines.{DefinesItem}
use Rattle.keep_rules.specs.Tables.{IsShaped}
use Rattle.keep_rules.proofs.StepLemmas.{adds_item}
use Rattle.keep_rules.proofs.OutcomeLemmas.{both_ok, on_either, two_ok}
use Rattle.keep_rules.proofs.KeyWalkInfoLemmas.{item_added, both_on}
use Rattle.keep_rules.proofs.definitions.Definitions.define_item.Goals as goal

pub add_item-requires : goal.add_item-requires
add_item-requires c = record { within = c.requires.within; listed = c.requires.listed }

pub invariant_of-self : goal.invariant_of-self
invariant_of-self c =
    let old = c.args.self.now in
    let new = c.add_item.new.self in
    record {
      shaped =
          on_either c.add_item.result _ _ _
          (λ grows.
          (adds_item old.tree.trie new.trie c.args.array (length old.tree.trie) (holding c.args.holds) grows old.shaped
          c.requires.plain refl).shaped)
          (λ (is : new ≡ old.tree). subst (λ (t : TrieInfos). IsShaped t.trie) (sym is) old.shaped)
          c.add_item.ensures.grows c.add_item.ensures.refused;
    }

pub returns-clause-ok : goal.returns-clause-ok
returns-clause-ok c =
    let old = c.args.self.now in
    let new = c.add_item.new.self in
    let holds = holding c.args.holds in
    two_ok c.add_item.result _ _ (DefinesItem old.tree new c.args.array c.args.value c.args.kind holds)
    (λ to one facts. record { node = one; facts = facts })
    (both_ok _ _ _ _ (λ grows to last.
    adds_item old.tree.trie new.trie c.args.array to holds grows old.shaped c.requires.plain last)
    c.add_item.ensures.grows c.add_item.ensures.last)
    (both_on _ _ _ _ (λ grows infos. item_added old.tree new c.args.array c.args.value c.args.kind holds grows
    (subst (λ (i : NodeInfo). new.infos ≡ old.tree.infos ++ i ∷ []) c.unnamed-facts.ensures.info infos))
    c.add_item.ensures.grows c.add_item.ensures.infos)
