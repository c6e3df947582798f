-- One key after another.
use Rattle.std.proofs.Common.{List, ℕ, [], map, take, length, ◌≡◌, arith, subst, sym}
use Rattle.std.specs.Prelude.{string_bytes}
use Rattle.keep_index_store.specs.declared.tree.joining.Join.{Join}
use Rattle.keep_rules.specs.HeaderJoins.{PassesKeys}
use Rattle.keep_rules.proofs.HeaderJoinLemmas.{key_more, keys_so_far, no_keys_passed}
use Rattle.keep_rules.proofs.index.headers.pass_keys.Goals as goal

pub loop-i-init : goal.loop-i-init
loop-i-init c =
    subst (λ (js : List Join). PassesKeys c.args.nodes.now js c.args.statement c.args.key [] 0) (sym c.requires.none)
    (no_keys_passed c.args.nodes.now c.args.statement c.args.key c.requires.trie)

pub loop-i-preserved : goal.loop-i-preserved
loop-i-preserved c =
    let keys = c.args.keys.now in
    let i = c.loop-i.i in
    let before : List (List ℕ) = map string_bytes (take i keys) in
    let many : length before ≡ i = keys_so_far keys i (omega arith) in
    subst (λ (ks : List (List ℕ)).
    PassesKeys c.args.nodes.now c.pass_node.new.joins.items c.args.statement c.args.key ks c.in_ok-at.at)
    (key_more keys i c.index-keys-i.result c.as_str.result.now c.loop-i-test.true c.index-keys-i.is
    c.as_str.ensures.value)
    (c.in_ok-at.ensures c.args.key before c.loop-i.at c.as_str.result.now c.loop-i.invariant c.in-Some.ensures.1
    (omega (arith, many)))

pub returns-clause-passes : goal.returns-clause-passes
returns-clause-passes c =
    subst (λ (n : ℕ).
    PassesKeys c.args.nodes.now c.loop-i.joins.items c.args.statement c.args.key
    (map string_bytes (take n c.args.keys.now)) c.loop-i.at) (omega (arith, c.loop-i-test.false, c.loop-i.auto.i-end))
    c.loop-i.invariant
