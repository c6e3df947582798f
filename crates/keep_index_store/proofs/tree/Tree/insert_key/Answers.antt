-- Where the node is not put in, the facts have the numbers that they had.
use Rattle.std.proofs.Common.{◌≡◌, ◌∙◌, List, ap, ap₂, false, map, rules}
use Rattle.keep_types.specs.declared.node.NodeInfo.{NodeInfo}
use Rattle.keep_path.specs.NodeInfos.{earlier_number, later_number, renumbered}
use Rattle.keep_path.proofs.Shared.{infos_back}
use Rattle.keep_index_store.specs.Renumbering.{numbers_of}
use Rattle.keep_index_store.specs.Tree.{TrieInfos}
use Rattle.keep_index_store.specs.Trie.{TrieNode}
use Rattle.keep_index_store.proofs.tree.Tree.insert_key.Goals as goal

pub returns-then-not-insert_node-clause-refused : goal.returns-then-not-insert_node-clause-refused
returns-then-not-insert_node-clause-refused c =
    let not : c.insert_node.result ≡ false = search rules in
    let same : c.insert_node.new.self ≡ c.renumber_later.new.self = c.insert_node.ensures.refused not in
    let infos : c.renumber_later.new.self.infos
    ≡ map (renumbered later_number (numbers_of c.args.line)) c.args.self.now.infos = search rules in
    ap₂ (λ (ts : List TrieNode) (is : List NodeInfo). let t : TrieInfos = record { trie = ts; infos = is } in t)
    (c.renumber_earlier.ensures.trie ∙ ap (λ (t : TrieInfos). t.trie) same ∙ c.renumber_later.ensures.trie)
    (c.renumber_earlier.ensures.infos
    ∙ ap (λ (t : TrieInfos). map (renumbered earlier_number (numbers_of c.args.line)) t.infos) same
    ∙ ap (map (renumbered earlier_number (numbers_of c.args.line))) infos
    ∙ infos_back (numbers_of c.args.line) c.args.self.now.infos)
