-- One child after another.
use Rattle.std.proofs.Common.{◌≡◌, ℕ, ◌+◌, List, ◌∙◌, ap, get_or, sym, subst}
use Rattle.std.proofs.lemmas.Option.{get_or_from_slice_get}
use Rattle.keep_path.specs.NodeInfos.{no_info}
use Rattle.keep_path.specs.NodesBelow.{value_of}
use Rattle.std.specs.Prelude.{drop, max}
use Rattle.keep_index_store.specs.DotsLess.{greatest_value}
use Rattle.keep_index_store.specs.Tree.{TrieInfos}
use Rattle.keep_index_store.specs.Trie.{IsTrie, children_of}
use Rattle.keep_index_store.proofs.DotsLessLemmas.{IsChildAt, child_there, greatest_next, larger_is}
use Rattle.keep_index_store.proofs.tree.Tree.last_value.Goals as goal

child : (c : goal.In-Some) → IsChildAt c.args.self.now.trie c.args.id c.loop-number.number c.in-Some.child
child c =
    child_there c.args.self.now.trie
    (subst (λ (x : TrieInfos). IsTrie x.trie) c.self.view_is c.self.invariant.trie) c.args.id c.loop-number.number
    c.in-Some.child c.requires c.in-Some.ensures.met

pub info-requires : goal.info-requires
info-requires c = (child c).nested

pub loop-number-preserved : goal.loop-number-preserved
loop-number-preserved c =
    let t = c.args.self.now in
    let ids : List ℕ = children_of t.trie c.args.id in
    let k : ℕ = c.loop-number.number in
    let there : IsChildAt t.trie c.args.id k c.in-Some.child =
    child_there t.trie (subst (λ (x : TrieInfos). IsTrie x.trie) c.self.view_is c.self.invariant.trie) c.args.id k
    c.in-Some.child c.requires c.in-Some.ensures.met in
    let value : c.value_of.result ≡ value_of (get_or t.infos (get_or ids k 0) no_info) =
    c.value_of.ensures
    ∙ ap value_of (sym (get_or_from_slice_get t.infos c.in-Some.child c.info.result no_info c.info.ensures)
    ∙ ap (λ (n : ℕ). get_or t.infos n no_info) there.is) in
    ap (λ (n : ℕ). max n (greatest_value t.infos (drop (k + 1) ids)))
    (c.max-last.ensures ∙ larger_is c.loop-number.last c.value_of.result)
    ∙ greatest_next t.infos ids k c.loop-number.last c.value_of.result there.counted value
    ∙ c.loop-number.invariant
