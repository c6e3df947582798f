-- The first key's node comes with the facts of a value or of a table, and the nodes below it are those of the further
-- keys.
use Rattle.std.proofs.Common.{ℕ, List, [], ◌∷◌, ◌++◌, ◌∙◌, ap, arith}
use Rattle.indexmap.proofs.MapLemmas.{OnOk-map}
use Rattle.keep_index_store.specs.Below.{totals_in}
use Rattle.keep_index_store.specs.Renumbering.{numbers_of}
use Rattle.keep_index_store.specs.Tree.{node_infos}
use Rattle.keep_index_store.specs.Trie.{path_at}
use Rattle.keep_index_store.proofs.Shared.{node_taker, table_taker}
use Rattle.keep_path.specs.NodeInfos.{NodeInfos, with_node, with_table}
use Rattle.keep_path.specs.NodesBelow.{Totals, one_more, with_value}
use Rattle.keep_path.specs.Path.{Part, key}
use Rattle.keep_types.specs.declared.node.Kind.TheVariants.{Table}
use Rattle.keep_rules.proofs.KeysAloneLemmas.{first_alone, first_of_several, first_same, rest_same}
use Rattle.keep_rules.proofs.PassedLemmas.{taker_of}
use Rattle.keep_rules.proofs.index.new_keys.add_new_keys.Goals as goal

pub returns-then-saturating_sub-from-clause-added : goal.returns-then-saturating_sub-from-clause-added
returns-then-saturating_sub-from-clause-added c =
    let t : NodeInfos = node_infos c.args.nodes.now in
    let path : List ℕ → List Part = λ text. path_at c.args.nodes.now.trie c.args.place.parent ++ key text ∷ [] in
    OnOk-map c.insert_key.result _ _ (λ is first further are.
    is
    ∙ ap (λ (text : List ℕ).
    with_node t c.args.place.at (numbers_of c.args.place.line) (path text) c.args.kind)
    (first_same c.args.keys.path.now c.args.keys.from first further are c.in_ok-first.first.now
    c.in_ok-first.ensures)
    ∙ first_alone c.args.keys.path.now c.args.keys.from first further are (omega arith) t c.args.place.at
    (numbers_of c.args.place.line) (path first) c.args.kind (totals_in c.args.old) (totals_in c.args.new))
    c.insert_key.ensures.inserted

pub returns-then-saturating_sub-from-clause-takers : goal.returns-then-saturating_sub-from-clause-takers
returns-then-saturating_sub-from-clause-takers c =
    OnOk-map c.insert_key.result _ _ (λ is many id before taker.
    taker_of many id (node_infos c.insert_key.new.self) _ is
    (node_taker (node_infos c.args.nodes.now) c.args.place.at (numbers_of c.args.place.line) [] c.requires.place many id
    before taker c.args.kind)) c.insert_key.ensures.inserted

pub returns-clause-added : goal.returns-clause-added
returns-clause-added c =
    let t : NodeInfos = node_infos c.args.nodes.now in
    let path : List ℕ → List Part = λ text. path_at c.args.nodes.now.trie c.args.place.parent ++ key text ∷ [] in
    let after : List ℕ → Totals → NodeInfos → NodeInfos = λ text bare inside.
    with_value (with_table t c.args.place.at (numbers_of c.args.place.line) (path text)) c.args.place.at 0 bare
    (totals_in c.args.new) inside Table in
    OnOk-map c.insert_table.result _ _ (λ is first further are.
    is
    ∙ ap (λ (text : List ℕ). after text (totals_in c.in-Some.bare) (node_infos c.in_ok-inside.inside))
    (first_same c.args.keys.path.now c.args.keys.from first further are c.in_ok-first.first.now
    c.in_ok-first.ensures)
    ∙ ap (λ (b : Totals). after first b (node_infos c.in_ok-inside.inside)) c.in-Some.ensures
    ∙ ap (after first (one_more (totals_in c.args.old)))
    (c.in_ok-inside.ensures further (rest_same c.args.keys.path.now c.args.keys.from first further are))
    ∙ first_of_several c.args.keys.path.now c.args.keys.from first further are (omega arith) t c.args.place.at
    (numbers_of c.args.place.line) (path first) c.args.kind (totals_in c.args.old) (totals_in c.args.new))
    c.insert_table.ensures.inserted

pub returns-clause-takers : goal.returns-clause-takers
returns-clause-takers c =
    OnOk-map c.insert_table.result _ _ (λ is many id before taker.
    taker_of many id (node_infos c.insert_table.new.self) _ is
    (table_taker (node_infos c.args.nodes.now) c.args.place.at (numbers_of c.args.place.line) [] c.requires.place many
    id before taker (totals_in c.in-Some.bare) (totals_in c.args.new) (node_infos c.in_ok-inside.inside) Table))
    c.insert_table.ensures.inserted
