-- The nodes are those without the one of the line, and then the numbers in their facts change.
use Rattle.std.proofs.Common.{List, ◌∙◌, ap, ap₂, map, rules, subst, sym}
use Rattle.keep_path.specs.NodeInfos.{NodeInfos, earlier_number, renumbered}
use Rattle.keep_index_store.specs.Renumbering.{numbers_of}
use Rattle.keep_index_store.specs.Trie.{TrieNode, IsTrie, holdings_of, holds_at, paths_of}
use Rattle.keep_index_store.proofs.RemovedTreeLemmas.{holdings_there, infos_there, leaf_there, paths_there, root_there}
use Rattle.keep_index_store.proofs.RemovedTreeLemmas.{stored_there}
use Rattle.keep_index_store.proofs.tree.Tree.remove_key.Goals as goal

pub remove-requires-clause-leaf : goal.remove-requires-clause-leaf
remove-requires-clause-leaf c =
    leaf_there _ _ c.self.view_is c.self.invariant c.args.id c.requires (c.is_leaf.ensures (search rules))

pub invariant_of-self : goal.invariant_of-self
invariant_of-self c =
    stored_there _ _ c.self.view_is c.self.invariant c.args.id c.requires
    (c.is_leaf.ensures (search rules)) _ c.remove.ensures

pub returns-clause-removed : goal.returns-clause-removed
returns-clause-removed c =
    ap₂ (λ ps is. let t : NodeInfos = record { paths = ps; infos = is } in t)
    (ap paths_of c.renumber_earlier.ensures.trie
    ∙ paths_there _ _ c.self.view_is c.self.invariant c.args.id c.requires
    (c.is_leaf.ensures (search rules)) _ c.remove.ensures)
    (c.renumber_earlier.ensures.infos
    ∙ ap (map (renumbered earlier_number (numbers_of c.args.line)))
    (infos_there _ _ c.self.view_is c.self.invariant c.args.id c.requires
    (c.is_leaf.ensures (search rules)) _ c.remove.ensures))

pub returns-clause-holdings : goal.returns-clause-holdings
returns-clause-holdings c =
    ap holdings_of c.renumber_earlier.ensures.trie
    ∙ holdings_there _ _ c.self.view_is c.self.invariant c.args.id c.requires
    (c.is_leaf.ensures (search rules)) _ c.remove.ensures

pub returns-clause-trie : goal.returns-clause-trie
returns-clause-trie c =
    subst IsTrie (sym c.renumber_earlier.ensures.trie)
    (stored_there _ _ c.self.view_is c.self.invariant c.args.id c.requires
    (c.is_leaf.ensures (search rules)) _ c.remove.ensures).trie

pub returns-clause-root : goal.returns-clause-root
returns-clause-root c =
    ap (λ (ts : List TrieNode). holds_at ts 0) c.renumber_earlier.ensures.trie
    ∙ root_there _ _ c.self.view_is c.self.invariant c.args.id c.requires
    (c.is_leaf.ensures (search rules)) _ c.remove.ensures
