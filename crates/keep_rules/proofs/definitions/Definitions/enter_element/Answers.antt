-- The facts go to the node of the array of tables and to that of its last element, which is a later one.
use Rattle.std.proofs.Common.{◌≡◌, ℕ, slice_set, subst, ap, refl, sym, ◌∙◌, arith, List}
use Rattle.std.proofs.lemmas.List.{get_or-set_other}
use Rattle.keep_types.specs.declared.node.NodeInfo.{NodeInfo}
use Rattle.keep_path.specs.NodeInfos.{no_info}
use Rattle.keep_path.specs.Path.{Part}
use Rattle.keep_index_store.specs.Facts.{info_of, joined_info}
use Rattle.keep_index_store.specs.Tree.{TrieInfos, info_at}
use Rattle.keep_index_store.specs.Trie.{TrieNode, paths_of, path_at}
use Rattle.keep_meaning.specs.Marks.{Mention}
use Rattle.keep_rules.specs.Represents.{Represents}
use Rattle.keep_rules.specs.AddedInfos.{AddsInfo}
use Rattle.keep_rules.proofs.AddedInfoLemmas.{added_at_existing}
use Rattle.keep_rules.proofs.KeyWalkInfoLemmas.{past_added, both_on}
use Rattle.keep_rules.proofs.OutcomeLemmas.{on_either}
use Rattle.keep_rules.proofs.PassLemmas.{element_later}
use Rattle.keep_rules.specs.Tables.{IsShaped}
use Rattle.keep_rules.proofs.definitions.Definitions.enter_element.Goals as goal

pub add_facts_to_both-requires : goal.add_facts_to_both-requires
add_facts_to_both-requires c = record { first = c.requires.nested; second = c.requires.table.within }

pub invariant_of-self : goal.invariant_of-self
invariant_of-self c =
    let old = c.args.self.now in
    let new = c.add_facts_to_both.new.self in
    record {
      shaped =
          on_either c.add_facts_to_both.result _ _ _
          (λ (is : new.trie ≡ old.tree.trie). subst (λ (ts : List TrieNode). IsShaped ts) (sym is) old.shaped)
          (λ (is : new ≡ old.tree). subst (λ (t : TrieInfos). IsShaped t.trie) (sym is) old.shaped)
          c.add_facts_to_both.ensures.same c.add_facts_to_both.ensures.refused;
    }

pub returns-clause-facts : goal.returns-clause-facts
returns-clause-facts c =
    let old = c.args.self.now.tree in
    let new = c.add_facts_to_both.new.self in
    let tables = c.args.tables in
    let last = c.args.last in
    let p = path_at old.trie tables in
    let past = info_of c.named-past.result in
    let infos : List NodeInfo = slice_set old.infos tables (joined_info (info_at old tables) past) in
    let mid : TrieInfos = record { trie = old.trie; infos = infos } in
    both_on c.add_facts_to_both.result _ _ _
    (λ (same : new.trie ≡ old.trie)
    (is : new.infos ≡ slice_set infos last (joined_info (info_at old last) (info_of c.passed-passed.result)))
    (statement : ℕ) (ms : List Mention) (headers : List (List Part)) (represents : Represents old.trie ms headers).
    let trie = represents.index.trie in
    let other : last ≡ tables → ⊥ =
    λ e. absurd (omega (arith, e, element_later old.trie trie p tables last c.requires)) in
    let own : info_at mid last ≡ info_at old last =
    get_or-set_other old.infos tables last (joined_info (info_at old tables) past) no_info other in
    past_added old mid new p tables last c.args.part statement c.requires
    (subst (λ (i : NodeInfo). AddsInfo old mid p i) c.named-past.ensures.info
    (added_at_existing old mid tables p past trie c.requires.nested refl refl refl))
    (subst (λ (i : NodeInfo). AddsInfo mid new (path_at old.trie last) i) c.passed-passed.ensures
    (added_at_existing mid new last (path_at old.trie last) (info_of c.passed-passed.result) trie
    c.requires.table.within refl (ap paths_of same)
    (is ∙ ap (λ i. slice_set infos last (joined_info i (info_of c.passed-passed.result))) (sym own)))) ms headers
    represents)
    c.add_facts_to_both.ensures.same c.add_facts_to_both.ensures.infos
