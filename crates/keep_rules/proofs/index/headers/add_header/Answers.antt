-- The nodes that come are those of the header's further keys.
use Rattle.std.proofs.Common.{◌∙◌, rules, subst, sym, ap}
use Rattle.keep_index_store.specs.Tree.{TrieInfos}
use Rattle.keep_index_store.specs.Trie.{IsTrie, holds_at}
use Rattle.keep_rules.proofs.HeaderJoinLemmas.{are_ascending, on_err, on_ok}
use Rattle.keep_rules.proofs.index.headers.add_header.Goals as goal

pub join_and_add_keys-requires-clause-joins : goal.join_and_add_keys-requires-clause-joins
join_and_add_keys-requires-clause-joins c =
    are_ascending 0 c.args.at _ c.args.joins.now c.requires.joins c.requires.node.within

pub returns-then-is_err : goal.returns-then-is_err
returns-then-is_err c =
    let same =
    on_err c.join_and_add_keys.result _ (sym c.is_err.ensures.value ∙ c.if-is_err.true)
    c.join_and_add_keys.ensures.refused in
    record {
      added = tt;
      tree = (
        subst (λ (t : TrieInfos). IsTrie t.trie) (sym same) c.requires.node.trie,
        ap (λ (t : TrieInfos). holds_at t.trie 0) same,
      );
      refused = same;
    }

pub returns : goal.returns
returns c =
    let adds =
    on_ok c.join_and_add_keys.result _ (sym c.is_err.ensures.value ∙ c.if-is_err.false)
    c.join_and_add_keys.ensures.added in
    record {
      added = record { fresh = search rules; adds = adds };
      tree = (adds.trie, adds.root);
      refused = tt;
    }
