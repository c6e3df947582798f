use Rattle.std.proofs.Common.{◌<◌, ℕ, List, length, get_or, ap, sym, ◌∙◌, arith}
use Rattle.keep_path.specs.NodeInfos.{earlier_number}
use Rattle.keep_index_store.proofs.MovedKeyLemmas.{entries_stay, with_value, value_read, values_more}
use Rattle.keep_index_store.proofs.MovedListLemmas.{partly_count, partly_all}
use Rattle.keep_index_store.proofs.RemovedListLemmas.{earlier_low}
use Rattle.keep_index_store.proofs.key_map.KeyMap.renumber_earlier.Goals as goal

pub returns-then-ends_before : goal.returns-then-ends_before
returns-then-ends_before c =
    entries_stay (earlier_number c.args.at) c.args.self.now
    (λ k d h.
    earlier_low c.args.at (get_or c.args.self.now k d).1
    (omega (arith, c.ends_before.ensures c.if-ends_before.true k d h)))

pub loop-number-init : goal.loop-number-init
loop-number-init c = c.self.view_is

pub index_mut-child-requires : goal.index_mut-child-requires
index_mut-child-requires c =
    let now : List (List ℕ × ℕ) = c.args.self.now in
    let low : c.loop-number.number < length now =
    omega (arith, c.loop-number-test.true, c.len-number-end.ensures.len, ap length c.self.view_is) in
    let f : List ℕ × ℕ → List ℕ × ℕ = with_value (earlier_number c.args.at) in
    omega (arith, low, partly_count f now _ c.loop-number.number c.loop-number.invariant (omega (arith, low)))

pub loop-number-preserved : goal.loop-number-preserved
loop-number-preserved c =
    let now : List (List ℕ × ℕ) = c.args.self.now in
    let entries : List (List ℕ × ℕ) = c.loop-number.self-inside.table.entries in
    let n : ℕ = c.loop-number.number in
    let low : n < length now =
    omega (arith, c.loop-number-test.true, c.len-number-end.ensures.len, ap length c.self.view_is) in
    let f : List ℕ × ℕ → List ℕ × ℕ = with_value (earlier_number c.args.at) in
    let low' : n < length entries =
    omega (arith, low, partly_count f now entries n c.loop-number.invariant (omega (arith, low))) in
    let read = value_read entries n _ c.index_mut-child.ensures.value low' in
    values_more (earlier_number c.args.at) now entries n c.earlier_number.result low low' c.loop-number.invariant
    (c.earlier_number.ensures ∙ ap (earlier_number c.args.at) (sym read))

pub returns : goal.returns
returns c =
    partly_all (with_value (earlier_number c.args.at)) c.args.self.now _ c.loop-number.number c.loop-number.invariant
    (omega (arith, c.loop-number-test.false, c.len-number-end.ensures.len, ap length c.self.view_is))
