-- The nodes that were there have their roles after the new ones are added, so their facts can be stored then.
use Rattle.std.proofs.Common.{List, map, ◌∷◌, ◌++◌, ◌∙◌, ap, sym, subst}
use Rattle.std.specs.Prelude.{string_bytes}
use Rattle.std.proofs.lemmas.List.{append_assoc}
use Rattle.keep_types.specs.declared.node.NodeInfo.{NodeInfo}
use Rattle.keep_index_store.specs.Facts.{info_of}
use Rattle.keep_index_store.specs.Joined.{joined_all, with_all_infos}
use Rattle.keep_index_store.specs.KeysBelow.{element_infos, infos_below}
use Rattle.keep_index_store.specs.Trie.{IsTrie, TrieNode, holds_at, paths_of}
use Rattle.keep_index_store.proofs.JoinedLemmas.{roles_same}
use Rattle.keep_index_store.proofs.tree.Tree.join_and_add_keys.Goals as goal

pub set_all-requires : goal.set_all-requires
set_all-requires c =
    roles_same c.args.self.now.trie c.add_keys.new.self.trie c.in_ok-add_keys.ensures.states.0
    c.in_ok-add_keys.ensures.states.1 c.in_ok-joined.joined.items c.in_ok-joined.ensures.roles

pub returns-clause-added : goal.returns-clause-added
returns-clause-added c =
    let added = c.in_ok-add_keys.ensures.added in
    let same = c.set_all.ensures.same in
    let all = c.in_ok-joined.joined.items in
    let infos : List NodeInfo = c.args.self.now.infos in
    let tables : List NodeInfo = infos_below c.args.facts.through (map string_bytes c.args.leading.now) in
    let own : List NodeInfo = info_of c.args.facts.own ∷ element_infos c.args.facts.element in
    record {
      trie = subst IsTrie (sym same) added.trie;
      paths = ap paths_of same ∙ added.paths;
      infos =
          c.set_all.ensures.infos
          ∙ ap (λ (is : List NodeInfo). with_all_infos is all) (added.infos ∙ append_assoc infos tables own)
          ∙ c.in_ok-joined.ensures.infos (tables ++ own)
          ∙ sym (append_assoc (joined_all infos c.args.joins.now) tables own);
      root = ap (λ (ns : List TrieNode). holds_at ns 0) same ∙ added.root;
    }
