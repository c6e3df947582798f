-- The new node's facts are those of the last mention.
use Rattle.std.proofs.Common.{◌∙◌, ◌∷◌, ◌++◌, [], None, ap, length, subst, sym}
use Rattle.keep_index_store.specs.Trie.{IsTrie, by_key, children_of, holds_at, path_at}
use Rattle.keep_types.specs.declared.node.NodeInfo.{NodeInfo}
use Rattle.keep_index_store.specs.Tree.{TrieInfos}
use Rattle.keep_index_store.proofs.Shared.{holds_below}
use Rattle.keep_path.specs.Path.{index}
use Rattle.keep_rules.specs.HeaderJoins.{with_joins}
use Rattle.keep_rules.specs.MentionInfos.{with_info}
use Rattle.keep_rules.proofs.HeaderJoinLemmas.{are_ascending, key_added, on_err, on_ok}
use Rattle.keep_rules.proofs.index.headers.add_element.Goals as goal

pub join_and_add_item-requires-clause-joins : goal.join_and_add_item-requires-clause-joins
join_and_add_item-requires-clause-joins c =
    are_ascending 0 c.args.array _ c.args.joins.now c.requires.joins c.requires.node.within

pub returns-then-is_err : goal.returns-then-is_err
returns-then-is_err c =
    let same =
    on_err c.join_and_add_item.result _ (sym c.is_err.ensures.value ∙ c.if-is_err.true)
    c.join_and_add_item.ensures.refused in
    record {
      added = tt;
      tree = (
        subst (λ (t : TrieInfos). IsTrie t.trie) (sym same) c.requires.node.trie,
        ap (λ (t : TrieInfos). holds_at t.trie 0) same,
      );
      refused = same;
    }

pub returns : goal.returns
returns c =
    let old = c.args.nodes.now in
    let new = c.join_and_add_item.new.self in
    let path = path_at old.trie c.args.array ++ index (length (children_of old.trie c.args.array)) ∷ [] in
    let grows =
    on_ok c.join_and_add_item.result _ (sym c.is_err.ensures.value ∙ c.if-is_err.false)
    c.join_and_add_item.ensures.grows in
    let infos =
    on_ok c.join_and_add_item.result _ (sym c.is_err.ensures.value ∙ c.if-is_err.false)
    c.join_and_add_item.ensures.infos in
    record {
      added = key_added old new c.args.joins.now c.args.array path None by_key c.unnamed-element.result grows infos
          ∙ ap (λ (i : NodeInfo). with_info (with_joins old c.args.joins.now) path i) c.unnamed-element.ensures.info;
      tree = (grows.trie', holds_below grows 0 c.requires.node.trie.root);
      refused = tt;
    }
