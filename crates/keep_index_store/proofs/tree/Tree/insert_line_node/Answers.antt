-- Where the node or its value is refused, the facts have the numbers that they had.
use Rattle.std.proofs.Common.{◌≡◌, ◌∙◌, ap, ap₂, map, rules}
use Rattle.keep_path.specs.NodeInfos.{NodeInfos, earlier_number, later_number, renumbered}
use Rattle.keep_path.proofs.Shared.{infos_back}
use Rattle.keep_index_store.specs.Renumbering.{numbers_of}
use Rattle.keep_index_store.specs.Tree.{node_infos}
use Rattle.keep_index_store.specs.Trie.{paths_of}
use Rattle.keep_index_store.proofs.tree.Tree.insert_line_node.Goals as goal

pub returns-then-not-insert_with_value-clause-refused : goal.returns-then-not-insert_with_value-clause-refused
returns-then-not-insert_with_value-clause-refused c =
    let same : node_infos c.insert_with_value.new.self ≡ node_infos c.renumber_later.new.self =
    c.insert_with_value.ensures.refused c.if-not-insert_with_value.true in
    let later : c.renumber_later.new.self.infos
    ≡ map (renumbered later_number (numbers_of c.args.line)) c.args.self.now.infos =
    search rules in
    ap₂ (λ ps is. let t : NodeInfos = record { paths = ps; infos = is } in t)
    (ap paths_of c.renumber_earlier.ensures.trie ∙ ap (λ (t : NodeInfos). t.paths) same
    ∙ ap paths_of c.renumber_later.ensures.trie)
    (c.renumber_earlier.ensures.infos
    ∙ ap (λ (t : NodeInfos). map (renumbered earlier_number (numbers_of c.args.line)) t.infos) same
    ∙ ap (map (renumbered earlier_number (numbers_of c.args.line))) later
    ∙ infos_back (numbers_of c.args.line) c.args.self.now.infos)
