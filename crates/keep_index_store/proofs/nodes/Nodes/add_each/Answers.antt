-- Each key has its place below the table before it, and what was there before stays.
use Rattle.keep_index_store.proofs.KeysBelowLemmas.{keys_begun, last_place, next_begun, next_last}
use Rattle.keep_index_store.proofs.KeysBelowLemmas.{next_place, next_tables, tables_begun}
use Rattle.keep_index_store.proofs.TreeLemmas.{on_both}
use Rattle.std.proofs.Common.{List, map, subst, sym, ap, refl, ◌∙◌}
use Rattle.std.specs.Prelude.{string_bytes}
use Rattle.keep_index_store.specs.AllNodes.{Node, with_key_below}
use Rattle.keep_index_store.specs.Trie.{Holding}
use Rattle.keep_index_store.specs.KeysBelow.{HasBegun, first_key}
use Rattle.keep_index_store.proofs.nodes.Nodes.add_each.Goals as goal

pub add_key-requires-clause-within : goal.add_key-requires-clause-within
add_key-requires-clause-within c =
    (next_place c.args.self.now.items c.args.parent c.args.facts c.args.leading.now c.args.last.now
    (record { within = c.requires.within; keyed = c.requires.keyed; fresh = c.requires.fresh })
    c.loop-i.i c.loop-i.self.items c.loop-i.at c.loop-i.invariant.0 c.loop-i.invariant.1 c.index-leading-i.result
    c.as_str.result.now c.loop-i-test.true c.index-leading-i.is c.as_str.ensures.value).within

pub add_key-requires-clause-keyed : goal.add_key-requires-clause-keyed
add_key-requires-clause-keyed c =
    (next_place c.args.self.now.items c.args.parent c.args.facts c.args.leading.now c.args.last.now
    (record { within = c.requires.within; keyed = c.requires.keyed; fresh = c.requires.fresh })
    c.loop-i.i c.loop-i.self.items c.loop-i.at c.loop-i.invariant.0 c.loop-i.invariant.1 c.index-leading-i.result
    c.as_str.result.now c.loop-i-test.true c.index-leading-i.is c.as_str.ensures.value).keyed

pub add_key-requires-clause-fresh : goal.add_key-requires-clause-fresh
add_key-requires-clause-fresh c =
    (next_place c.args.self.now.items c.args.parent c.args.facts c.args.leading.now c.args.last.now
    (record { within = c.requires.within; keyed = c.requires.keyed; fresh = c.requires.fresh })
    c.loop-i.i c.loop-i.self.items c.loop-i.at c.loop-i.invariant.0 c.loop-i.invariant.1 c.index-leading-i.result
    c.as_str.result.now c.loop-i-test.true c.index-leading-i.is c.as_str.ensures.value).fresh

pub returns-in_err-add_key-clause-begun : goal.returns-in_err-add_key-clause-begun
returns-in_err-add_key-clause-begun c =
    subst (λ (ns : List Node).
    HasBegun c.args.self.now.items ns c.args.parent
    (first_key (map string_bytes c.args.leading.now) c.args.last.now))
    (sym c.in_err-add_key.ensures.err)
    (next_begun c.args.self.now.items c.args.parent c.args.facts c.args.leading.now c.args.last.now
    (record { within = c.requires.within; keyed = c.requires.keyed; fresh = c.requires.fresh })
    c.loop-i.i c.loop-i.self.items c.loop-i.at c.loop-i.invariant.0 c.loop-i.invariant.1 c.index-leading-i.result
    c.as_str.result.now c.loop-i-test.true c.index-leading-i.is c.as_str.ensures.value)

pub loop-i-preserved : goal.loop-i-preserved
loop-i-preserved c = (
  next_tables c.args.self.now.items c.args.parent c.args.facts c.args.leading.now c.args.last.now
      (record { within = c.requires.within; keyed = c.requires.keyed; fresh = c.requires.fresh })
      c.loop-i.i c.loop-i.self.items c.loop-i.at c.loop-i.invariant.0 c.loop-i.invariant.1 c.index-leading-i.result
      c.as_str.result.now c.loop-i-test.true c.index-leading-i.is c.as_str.ensures.value
      c.add_key.new.self.items _ c.in_ok-add_key.ensures.ok refl,
  next_last c.args.self.now.items c.args.parent c.args.facts c.args.leading.now c.args.last.now
      (record { within = c.requires.within; keyed = c.requires.keyed; fresh = c.requires.fresh })
      c.loop-i.i c.loop-i.self.items c.loop-i.at c.loop-i.invariant.0 c.loop-i.invariant.1 c.index-leading-i.result
      c.as_str.result.now c.loop-i-test.true c.index-leading-i.is c.as_str.ensures.value
      c.len-id.result c.len-id.ensures,
)

pub add_key-requires-2-clause-within : goal.add_key-requires-2-clause-within
add_key-requires-2-clause-within c =
    (last_place c.args.self.now.items c.args.parent c.args.facts c.args.leading.now c.args.last.now
    (record { within = c.requires.within; keyed = c.requires.keyed; fresh = c.requires.fresh })
    c.loop-i.i c.loop-i.self.items c.loop-i.at c.loop-i.invariant.0 c.loop-i.invariant.1 c.loop-i-test.false).within

pub add_key-requires-2-clause-keyed : goal.add_key-requires-2-clause-keyed
add_key-requires-2-clause-keyed c =
    (last_place c.args.self.now.items c.args.parent c.args.facts c.args.leading.now c.args.last.now
    (record { within = c.requires.within; keyed = c.requires.keyed; fresh = c.requires.fresh })
    c.loop-i.i c.loop-i.self.items c.loop-i.at c.loop-i.invariant.0 c.loop-i.invariant.1 c.loop-i-test.false).keyed

pub add_key-requires-2-clause-fresh : goal.add_key-requires-2-clause-fresh
add_key-requires-2-clause-fresh c =
    (last_place c.args.self.now.items c.args.parent c.args.facts c.args.leading.now c.args.last.now
    (record { within = c.requires.within; keyed = c.requires.keyed; fresh = c.requires.fresh })
    c.loop-i.i c.loop-i.self.items c.loop-i.at c.loop-i.invariant.0 c.loop-i.invariant.1 c.loop-i-test.false).fresh

pub returns-clause-begun : goal.returns-clause-begun
returns-clause-begun c =
    on_both c.add_key-2.result
    (λ is.
    keys_begun c.args.self.now.items c.args.parent c.args.facts c.args.leading.now c.args.last.now
    (record { within = c.requires.within; keyed = c.requires.keyed; fresh = c.requires.fresh })
    c.loop-i.i c.loop-i.self.items c.loop-i.at c.loop-i.invariant.0 c.loop-i.invariant.1 c.loop-i-test.false
    c.add_key-2.new.self.items
    (is
    ∙ ap (λ (h : Holding). with_key_below c.loop-i.self.items c.loop-i.at c.args.last.now h c.args.facts.own)
    c.holds.ensures))
    (λ is.
    subst (λ (ns : List Node).
    HasBegun c.args.self.now.items ns c.args.parent
    (first_key (map string_bytes c.args.leading.now) c.args.last.now)) (sym is)
    (tables_begun c.args.self.now.items c.args.parent c.args.facts c.args.leading.now c.args.last.now
    (record { within = c.requires.within; keyed = c.requires.keyed; fresh = c.requires.fresh })
    c.loop-i.i c.loop-i.self.items c.loop-i.at c.loop-i.invariant.0 c.loop-i.invariant.1 c.loop-i-test.false))
    c.add_key-2.ensures.ok c.add_key-2.ensures.err
