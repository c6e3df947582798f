-- Where the nodes are refused, key parts have the numbers that they had. Where they come, the tables that are passed
-- can take their mentions, since their numbers alone have changed.
use Rattle.std.proofs.Common.{◌≡◌, ℕ, List, [], ◌∷◌, ◌++◌, ◌∙◌, ap, arith, subst, sym}
use Rattle.keep_index_store.specs.Below.{totals_in}
use Rattle.keep_index_store.specs.Dots.{AreTakers, without_parts}
use Rattle.keep_index_store.specs.Renumbering.{numbers_of}
use Rattle.keep_index_store.specs.Tree.{node_infos}
use Rattle.keep_index_store.specs.Trie.{TrieNode, path_at}
use Rattle.keep_index_store.proofs.Shared.{moved_taker, parts_back}
use Rattle.keep_path.specs.Dots as dots
use Rattle.keep_path.specs.Dots.{with_dots, with_keys, with_parts_from}
use Rattle.keep_path.specs.NodeInfos.{LineNumbers, NodeInfos}
use Rattle.keep_path.specs.NodesBelow.{Totals}
use Rattle.keep_path.specs.Path.{Part, key}
use Rattle.keep_rules.proofs.PassedLemmas.{passed_known, passed_takers, passed_within, same_numbers, taker_of}
use Rattle.keep_rules.proofs.index.new_keys.insert_past.Goals as goal

pub returns-clause-refused : goal.returns-clause-refused
returns-clause-refused c =
    c.take_parts.ensures.taken
    ∙ ap (without_parts c.args.place.line.key c.args.keys.passed)
    (c.in-Err.ensures.refused ∙ c.in_ok-add_parts.ensures.added)
    ∙ parts_back c.args.place.line.key c.args.keys.passed (node_infos c.args.nodes.now)

pub mention_tables-requires-clause-tables : goal.mention_tables-requires-clause-tables
mention_tables-requires-clause-tables c =
    subst (AreTakers c.add_new_keys.new.nodes.infos) (sym c.as_slice.ensures.value)
    (passed_takers c.args.nodes.now c.args.place.parent c.args.place.at c.in_ok-tables.tables.items c.args.keys.passed
    c.in_ok-tables.ensures.tables (omega arith) c.requires.place c.in_ok-tables.ensures.counted
    c.add_new_keys.new.nodes.infos (λ many id before taker.
    c.in-Ok.ensures.takers many id before
    (taker_of many id (node_infos c.add_parts.new.self)
    (with_parts_from c.args.place.line.key c.args.keys.passed (node_infos c.args.nodes.now))
    c.in_ok-add_parts.ensures.added
    (moved_taker c.args.place.line.key c.args.keys.passed many id (node_infos c.args.nodes.now) taker))))

pub returns-in-Ok-clause-passed : goal.returns-in-Ok-clause-passed
returns-in-Ok-clause-passed c base passed here many = (
  c.in_ok-tables.tables.items,
  passed_known c.args.nodes.now c.args.place.parent c.args.place.at c.in_ok-tables.tables.items c.args.keys.passed
      c.in_ok-tables.ensures.tables (omega arith) c.requires.parent c.requires.trie _
      (c.in_ok-tables.ensures.paths base passed here many),
)

pub returns-in-Ok-clause-inserted : goal.returns-in-Ok-clause-inserted
returns-in-Ok-clause-inserted c first further are base passed ids here many numbered =
    let old = c.args.nodes.now in
    let v : ℕ = c.args.place.line.value in
    let all : NodeInfos = with_parts_from c.args.place.line.key c.args.keys.passed (node_infos old) in
    let path : List TrieNode → List Part = λ ts. path_at ts c.args.place.parent ++ key first ∷ [] in
    let after : NodeInfos → List TrieNode → LineNumbers → Totals → NodeInfos = λ t ts line totals.
    with_keys t c.args.place.at line (path ts) further c.args.kind totals (totals_in c.args.new) in
    let found : c.in_ok-tables.tables.items ≡ ids =
    same_numbers old.trie c.requires.trie c.in_ok-tables.tables.items
    (passed_within old c.args.place.parent c.args.place.at c.in_ok-tables.tables.items c.args.keys.passed
    c.in_ok-tables.ensures.tables (omega arith) c.requires.parent) _
    (c.in_ok-tables.ensures.paths base passed here many) ids numbered in
    let come : node_infos c.add_new_keys.new.nodes
    ≡ after all old.trie (dots.after_parts c.args.keys.passed (numbers_of c.args.place.line))
    (dots.totals_after_parts c.args.keys.passed (totals_in c.args.old)) =
    c.in-Ok.ensures.added first further are
    ∙ ap (λ (t : NodeInfos).
    after t c.add_parts.new.self.trie (numbers_of c.in-Some.own) (totals_in c.in-Some-totals_after_parts.before))
    c.in_ok-add_parts.ensures.added
    ∙ ap (λ (ts : List TrieNode).
    after all ts (numbers_of c.in-Some.own) (totals_in c.in-Some-totals_after_parts.before))
    c.in_ok-add_parts.ensures.same
    ∙ ap (λ (line : LineNumbers). after all old.trie line (totals_in c.in-Some-totals_after_parts.before))
    c.in-Some.ensures
    ∙ ap (after all old.trie (dots.after_parts c.args.keys.passed (numbers_of c.args.place.line)))
    c.in-Some-totals_after_parts.ensures in
    c.mention_tables.ensures.mentioned
    ∙ ap (λ (ks : List ℕ). with_dots v ks (node_infos c.add_new_keys.new.nodes)) (c.as_slice.ensures.value ∙ found)
    ∙ ap (with_dots v ids) come
