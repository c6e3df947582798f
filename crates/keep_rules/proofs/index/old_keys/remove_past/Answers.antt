-- The tables come before the node, so they are the same ones with the same paths once it has gone.
use Rattle.std.proofs.Common.{◌≡◌, ℕ, ◌<◌, List, ◌∙◌, ap, arith, length, subst, sym}
use Rattle.keep_index_store.specs.Below.{totals_in}
use Rattle.keep_index_store.specs.Dots.{up_from}
use Rattle.keep_index_store.specs.DotsLess.{AreGivers, LeavesTables}
use Rattle.keep_index_store.specs.Renumbering.{numbers_of}
use Rattle.keep_index_store.specs.Tree.{TrieInfos, node_infos}
use Rattle.keep_index_store.specs.Trie.{IsTrie, TrieNode, parent_at}
use Rattle.keep_meaning.specs.DotsLess.{without_dots}
use Rattle.keep_path.specs.Dots.{totals_after_parts, without_keys, without_parts}
use Rattle.keep_path.specs.NodeInfos.{LineNumbers, NodeInfos, root_infos, without_node}
use Rattle.keep_path.specs.NodesBelow.{Totals, one_more, with_value}
use Rattle.keep_rules.proofs.DotsLessLemmas.{dots_taken, tables_known}
use Rattle.keep_rules.proofs.index.old_keys.remove_past.Goals as goal

pub returns-clause-removed : goal.returns-clause-removed
returns-clause-removed c base keys first ids here many numbered gone k below =
    let t : TrieInfos = c.args.nodes.now in
    let u : TrieInfos = c.take_parts.new.self in
    let id : ℕ = c.args.id in
    let last : ℕ = c.parent-last.result in
    let count : ℕ = c.args.passed in
    let later : 0 < id = omega (arith, c.if-id-eq0.false) in
    let before : last < id = c.parent-last.ensures.earlier later in
    let all : AreGivers t last count = c.are_shared_tables.ensures c.if-not-are_shared_tables.false in
    let leaves : LeavesTables id c.args.old c.in-Some-bare_totals.bare t c.remove_value.new.self =
    c.in_ok-remove_value.ensures.tables in
    let same : u.trie ≡ c.remove_value.new.self.trie = c.take_parts.ensures.same in
    let trie : IsTrie u.trie = subst IsTrie (sym same) c.remove_value.ensures.trie in
    let within : last < length u.trie =
    omega (arith, before, leaves.within, ap (λ (ts : List TrieNode). length ts) same) in
    let then : AreGivers u last count = c.take_parts.ensures.tables last count (leaves.givers last count before all) in
    let up : last ≡ parent_at t.trie id = c.parent-last.ensures.parent in
    let found : up_from u.trie last count ≡ ids =
    ap (λ (ts : List TrieNode). up_from ts last count) same ∙ leaves.above last count before all
    ∙ ap (λ (p : ℕ). up_from t.trie p count) up
    ∙ tables_known t c.requires.trie id count later c.requires.within
    (subst (λ (p : ℕ). AreGivers t p count) up all) base keys first ids here many numbered in
    let gone_by : Totals → LineNumbers → NodeInfos = λ bare line.
    without_node (with_value (node_infos t) id gone (totals_in c.args.old) bare root_infos k) id line in
    let come : node_infos u
    ≡ without_keys (node_infos t) id gone count (numbers_of c.args.line) (totals_in c.args.old)
    (totals_in c.args.new) k =
    c.take_parts.ensures.taken
    ∙ ap (without_parts c.args.line.key count)
    (c.in_ok-remove_value.ensures.removed gone k below
    ∙ ap (λ (bare : Totals). gone_by bare (numbers_of c.in-Some.own)) c.in-Some-bare_totals.ensures
    ∙ ap (gone_by (one_more (totals_after_parts count (totals_in c.args.new)))) c.in-Some.ensures) in
    ap node_infos c.take_mentions.ensures.taken ∙ dots_taken count last u trie within then
    ∙ ap (λ (ks : List ℕ). without_dots ks (node_infos u)) found ∙ ap (without_dots ids) come
