-- The stored nodes keep their tree of steps.
use Rattle.std.proofs.Common.{◌∙◌, ap, map, sym, subst}
use Rattle.keep_path.specs.NodeInfos.{renumbered, earlier_number}
use Rattle.keep_index_store.specs.Renumbering.{numbers_of}
use Rattle.keep_index_store.specs.Stored.{IsStored, infos_of, trie_of}
use Rattle.keep_index_store.specs.Tree.{TrieInfos}
use Rattle.keep_index_store.proofs.RenumberingLemmas.{infos_renumbered, stored_renumbered, trie_stays}
use Rattle.keep_index_store.proofs.tree.Tree.renumber_earlier.Goals as goal

pub returns-clause-trie : goal.returns-clause-trie
returns-clause-trie c =
    ap trie_of c.renumber_earlier.ensures ∙ trie_stays earlier_number c.args.line c.self.inside.nodes.items
    ∙ ap (λ (t : TrieInfos). t.trie) c.self.view_is

pub invariant_of-self : goal.invariant_of-self
invariant_of-self c =
    subst IsStored (sym c.renumber_earlier.ensures)
    (stored_renumbered earlier_number c.args.line c.self.inside.nodes.items c.self.invariant)

pub returns-clause-infos : goal.returns-clause-infos
returns-clause-infos c =
    ap infos_of c.renumber_earlier.ensures ∙ infos_renumbered earlier_number c.args.line c.self.inside.nodes.items
    ∙ ap (λ (t : TrieInfos). map (renumbered earlier_number (numbers_of c.args.line)) t.infos) c.self.view_is
