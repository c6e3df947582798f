use Rattle.std.proofs.Common.{◌<◌, ℕ, List, [], length, get_or, ap, sym, ◌∙◌, arith}
use Rattle.keep_index_store.specs.Moved.{moved_number}
use Rattle.keep_index_store.proofs.MovedKeyLemmas.{entries_stay, with_value, value_read, values_more}
use Rattle.keep_index_store.proofs.MovedListLemmas.{moved_before, partly_count, partly_at, partly_all}
use Rattle.keep_index_store.proofs.key_map.KeyMap.renumber.Goals as goal

pub returns-then-ends_before : goal.returns-then-ends_before
returns-then-ends_before c =
    entries_stay (moved_number c.args.last c.args.at) c.args.self.now
    (λ k d h.
    moved_before c.args.last c.args.at (get_or c.args.self.now k d).1
    (c.ends_before.ensures c.if-ends_before.true k d h) c.requires.place)

pub loop-number-init : goal.loop-number-init
loop-number-init c = c.self.view_is

pub index_mut-child-requires : goal.index_mut-child-requires
index_mut-child-requires c =
    omega (
      arith,
      c.loop-number-test.true,
      c.len-number-end.ensures.len,
      ap length c.self.view_is,
      partly_count (with_value (moved_number c.args.last c.args.at)) c.args.self.now _ c.loop-number.number
          c.loop-number.invariant
          (omega (arith, c.loop-number-test.true, c.len-number-end.ensures.len, ap length c.self.view_is)),
    )

pub number_then-requires : goal.number_then-requires
number_then-requires c =
    let f : List ℕ × ℕ → List ℕ × ℕ = with_value (moved_number c.args.last c.args.at) in
    let low : c.loop-number.number < length c.args.self.now =
    omega (arith, c.loop-number-test.true, c.len-number-end.ensures.len, ap length c.self.view_is) in
    let many = partly_count f c.args.self.now _ c.loop-number.number c.loop-number.invariant (omega (arith, low)) in
    omega (
      arith,
      value_read c.loop-number.self-inside.table.entries c.loop-number.number _ c.index_mut-child.ensures.value
          (omega (arith, low, many)),
      ap (λ (e : List ℕ × ℕ).
          e.1) (partly_at f c.args.self.now _ c.loop-number.number c.loop-number.invariant ([], 0) low),
      c.requires.within c.loop-number.number ([], 0) low,
    )

pub loop-number-preserved : goal.loop-number-preserved
loop-number-preserved c =
    let f : List ℕ × ℕ → List ℕ × ℕ = with_value (moved_number c.args.last c.args.at) in
    let low : c.loop-number.number < length c.args.self.now =
    omega (arith, c.loop-number-test.true, c.len-number-end.ensures.len, ap length c.self.view_is) in
    let many = partly_count f c.args.self.now _ c.loop-number.number c.loop-number.invariant (omega (arith, low)) in
    values_more (moved_number c.args.last c.args.at) c.args.self.now c.loop-number.self-inside.table.entries
    c.loop-number.number c.number_then.result low (omega (arith, low, many)) c.loop-number.invariant
    (c.number_then.ensures
    ∙ ap (moved_number c.args.last c.args.at)
    (sym (value_read c.loop-number.self-inside.table.entries c.loop-number.number _ c.index_mut-child.ensures.value
    (omega (arith, low, many)))))

pub returns : goal.returns
returns c =
    partly_all (with_value (moved_number c.args.last c.args.at)) c.args.self.now _ c.loop-number.number
    c.loop-number.invariant
    (omega (arith, c.loop-number-test.false, c.len-number-end.ensures.len, ap length c.self.view_is))
