-- What the callees ensure of one value is what holds of it as a nested value.
use Rattle.std.proofs.Common.{◌<◌, [], ◌∷◌, ◌++◌, length, refl, arith}
use Rattle.std.proofs.lemmas.Result.{err_from_is_err_and, IfOk-weaker}
use Rattle.keep_syntax_store.specs.Flat.{flat}
use Rattle.keep_rules.specs.Keys.{AreKeysAt, Key, key_of}
use Rattle.keep_rules.specs.Defines.{DefinesValue}
use Rattle.keep_rules.specs.Plans.{NestedValueRead}
use Rattle.keep_rules.proofs.PlanLemmas.{IsPlace, some_item_place, some_keyed_place, item_read_all, some_next_keys}
use Rattle.keep_rules.proofs.PlanLemmas.{keyed_read_all, keyed_fault_meets}
use Rattle.keep_index_store.specs.Trie.{by_key, by_index}
use Rattle.keep_rules.proofs.KeyLemmas.{length-keys_in}
use Rattle.keep_rules.proofs.definitions.Definitions.read_value.Goals as goal
use Rattle.keep_rules.proofs.definitions.Definitions.read_value.Goals.{In-Item, In-Inline}

-- the node that the value is in

array_place : (c : In-Item) → IsPlace c.args.self.now.tree c.args.ids.now c.args.base c.in-Item.array by_index
array_place c =
    some_item_place c.args.text.now (flat c.args.parts.now).keys c.args.self.now.tree c.args.ids.now c.args.base
    c.args.value c.in-Item.array c.in-Item.is c.requires.next

pub overflow_add-at : goal.overflow_add-at
overflow_add-at c =
    let place = array_place (goal.at.overflow_add-at c).In-Item in omega (arith, place.high, c.requires.numbered)

pub overflow_sub-at : goal.overflow_sub-at
overflow_sub-at c = (array_place (goal.at.overflow_sub-at c).In-Item).low

pub bounds-ids-array : goal.bounds-ids-array
bounds-ids-array c =
    let place = array_place (goal.at.bounds-ids-array c).In-Item in omega (arith, place.low, place.high)

pub define_item-requires : goal.define_item-requires
define_item-requires c =
    let place = array_place (goal.at.define_item-requires c).In-Item in
    record { within = place.within; listed = place.held; plain = place.plain }

table_place : (c : In-Inline) → IsPlace c.args.self.now.tree c.args.ids.now c.args.base c.in-Inline.table by_key
table_place c =
    some_keyed_place c.args.text.now (flat c.args.parts.now).keys c.args.self.now.tree c.args.ids.now c.args.base
    c.args.value c.in-Inline.table c.in-Inline.is c.requires.next

pub overflow_add-at-in-Inline : goal.overflow_add-at-in-Inline
overflow_add-at-in-Inline c =
    let place = table_place (goal.at.overflow_add-at-in-Inline c).In-Inline in
    omega (arith, place.high, c.requires.numbered)

pub overflow_sub-at-in-Inline : goal.overflow_sub-at-in-Inline
overflow_sub-at-in-Inline c = (table_place (goal.at.overflow_sub-at-in-Inline c).In-Inline).low

pub bounds-ids-table : goal.bounds-ids-table
bounds-ids-table c =
    let place = table_place (goal.at.bounds-ids-table c).In-Inline in omega (arith, place.low, place.high)

pub define_value-requires : goal.define_value-requires
define_value-requires c =
    let place = table_place (goal.at.define_value-requires c).In-Inline in
    record { within = place.within; keyed = place.held }

are_keys : (c : In-Inline)
    → AreKeysAt c.args.text.now (flat c.args.parts.now).keys c.args.value.first_key c.args.value.keys
are_keys c =
    some_next_keys c.args.text.now (flat c.args.parts.now).keys _ _ c.args.base c.args.value c.in-Inline.table
    c.requires.readable c.in-Inline.is c.requires.next

pub invariant_of-keys : goal.invariant_of-keys
invariant_of-keys c = are_keys (goal.at.invariant_of-keys c).In-Inline

-- what was read

pub returns-in_err-define_item-in-Item : goal.returns-in_err-define_item-in-Item
returns-in_err-define_item-in-Item c =
    let p = err_from_is_err_and c.from_residual.result c.from_residual.ensures.1 in
    rw (p.1, p.2) (record { was_read = tt; define = tt })

pub returns-in_ok-define_item-in-Item : goal.returns-in_ok-define_item-in-Item
returns-in_ok-define_item-in-Item c = record {
  was_read =
      item_read_all c.args.text.now (flat c.args.parts.now) c.args.base c.args.value _ _ c.args.ids.now c.args.number
      c.in-Item.array _ _ _ _ c.in-Item.is refl c.kind_of-kind.ensures c.holds_of_leaf-holds.ensures
      c.in_ok-define_item-in-Item.ensures.ok.node c.in_ok-define_item-in-Item.ensures.ok.facts;
  define = tt;
}

pub returns-in-Inline : goal.returns-in-Inline
returns-in-Inline c =
    let f = flat c.args.parts.now in
    let old = c.args.self.now.tree in
    let new = c.define_value.new.self.tree in
    let r = c.define_value.result in
    let are = are_keys (goal.at.returns-in-Inline c).In-Inline in
    let own : Key = key_of c.args.text.now f.keys c.args.value.first_key c.args.value.keys in
    let some : 0 < length own.texts = omega (arith, are.some, length-keys_in c.args.text.now f.keys _ _ are.within) in
    record {
      was_read =
          IfOk-weaker r (DefinesValue old new _ own c.args.number _ _)
          (λ id. NestedValueRead c.args.text.now f c.args.base c.args.value old c.args.ids.now new
          (c.args.ids.now ++ id ∷ []) c.args.number)
          (λ id one.
          keyed_read_all c.args.text.now f c.args.base c.args.value old new c.args.ids.now own c.args.number
          c.in-Inline.table _ id _ _ c.in-Inline.is refl c.kind_of-kind.ensures c.holds_of_leaf-holds.ensures some refl
          one.node one.facts)
          c.define_value.ensures.ok;
      define =
          keyed_fault_meets r c.args.text.now f c.args.base c.args.value old c.args.ids.now own.texts c.in-Inline.table
          _ c.in-Inline.is refl refl c.define_value.ensures.define;
    }
