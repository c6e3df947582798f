use Rattle.std.proofs.Common.{◌<◌, ℕ, List, [], length, get_or, ap, subst, sym, ◌∙◌, arith}
use Rattle.keep_index_store.specs.Below.{shifted_by}
use Rattle.keep_index_store.specs.Replacing.{CanShift}
use Rattle.keep_index_store.proofs.MovedKeyLemmas.{entries_stay, with_value, value_read, values_more}
use Rattle.keep_index_store.proofs.MovedListLemmas.{partly_count, partly_at, partly_all}
use Rattle.keep_index_store.proofs.ShiftedLemmas.{shifted_low}
use Rattle.keep_index_store.proofs.key_map.KeyMap.shift.Goals as goal

pub returns-then-ends_before : goal.returns-then-ends_before
returns-then-ends_before c =
    entries_stay (shifted_by c.args.by) c.args.self.now
    (λ k d h.
    shifted_low c.args.by (get_or c.args.self.now k d).1 (c.ends_before.ensures c.if-ends_before.true k d h))

pub loop-number-init : goal.loop-number-init
loop-number-init c = c.self.view_is

pub index_mut-child-requires : goal.index_mut-child-requires
index_mut-child-requires c =
    let now : List (List ℕ × ℕ) = c.args.self.now in
    let low : c.loop-number.number < length now =
    omega (arith, c.loop-number-test.true, c.len-number-end.ensures.len, ap length c.self.view_is) in
    let f : List ℕ × ℕ → List ℕ × ℕ = with_value (shifted_by c.args.by) in
    omega (arith, low, partly_count f now _ c.loop-number.number c.loop-number.invariant (omega (arith, low)))

pub shifted-requires : goal.shifted-requires
shifted-requires c =
    let now : List (List ℕ × ℕ) = c.args.self.now in
    let entries : List (List ℕ × ℕ) = c.loop-number.self-inside.table.entries in
    let n : ℕ = c.loop-number.number in
    let low : n < length now =
    omega (arith, c.loop-number-test.true, c.len-number-end.ensures.len, ap length c.self.view_is) in
    let f : List ℕ × ℕ → List ℕ × ℕ = with_value (shifted_by c.args.by) in
    let low' : n < length entries =
    omega (arith, low, partly_count f now entries n c.loop-number.invariant (omega (arith, low))) in
    subst (CanShift c.args.by)
    (sym (ap (λ (e : List ℕ × ℕ). e.1) (partly_at f now entries n c.loop-number.invariant ([], 0) low))
    ∙ value_read entries n _ c.index_mut-child.ensures.value low')
    (c.requires.fit n ([], 0) low)

pub loop-number-preserved : goal.loop-number-preserved
loop-number-preserved c =
    let now : List (List ℕ × ℕ) = c.args.self.now in
    let entries : List (List ℕ × ℕ) = c.loop-number.self-inside.table.entries in
    let n : ℕ = c.loop-number.number in
    let low : n < length now =
    omega (arith, c.loop-number-test.true, c.len-number-end.ensures.len, ap length c.self.view_is) in
    let f : List ℕ × ℕ → List ℕ × ℕ = with_value (shifted_by c.args.by) in
    let low' : n < length entries =
    omega (arith, low, partly_count f now entries n c.loop-number.invariant (omega (arith, low))) in
    let read = value_read entries n _ c.index_mut-child.ensures.value low' in
    values_more (shifted_by c.args.by) now entries n c.shifted.result low low' c.loop-number.invariant
    (c.shifted.ensures ∙ ap (shifted_by c.args.by) (sym read))

pub returns : goal.returns
returns c =
    partly_all (with_value (shifted_by c.args.by)) c.args.self.now _ c.loop-number.number c.loop-number.invariant
    (omega (arith, c.loop-number-test.false, c.len-number-end.ensures.len, ap length c.self.view_is))
