use Rattle.std.proofs.Common.{◌≡◌, ◌+◌, ◌-◌, ◌==◌, length, get_or, arith, rules, suc, false, true, ap, ℕ}
use Rattle.std.proofs.lemmas.Bool.Decides.{nat_tests}
use Rattle.std.proofs.lemmas.Result.{err_from_is_err_and}
use Rattle.keep_syntax.specs.Reading.{close_byte}
use Rattle.keep_syntax_store.specs.Flat.{flat}
use Rattle.keep_syntax.specs.Growth.{value_taken}
use Rattle.keep_syntax.proofs.ValueCodeLaws.{same_read, value_array, value_inline, value_scalar, bracket_fails}
use Rattle.keep_syntax.proofs.ValueCodeLaws.{bracket_number, bracket_is}
use Rattle.keep_syntax.proofs.NestingLaws.{item_fails_name, item_fails_value, name_keys, name_values, item_number}
use Rattle.keep_syntax.proofs.NestingLaws.{item_is, so_far_none, so_far_more, so_far_last, so_far_done, so_far_fails}
use Rattle.keep_syntax.proofs.NestingLaws.{comma_some, comma_none}
use Rattle.keep_syntax.proofs.value.+nesting.Goals as goal

pub bracket-set_end-requires : goal.bracket-set_end-requires
bracket-set_end-requires t c =
    let sg = rw c.open_leaf.ensures at c.in_ok-open.ensures in
    let stated = rw c.open_leaf-2.ensures at c.in_ok-push_value.ensures.ok in
    let sg2 = rw c.close_leaf.ensures at c.in_ok-end.ensures in
    rw c.value_count-number.ensures
    (bracket_number c.args.text.now c.args.brackets c.args.limits.profile (c.args.limits.depth - 1) c.args.at
    c.args.keys c.in_ok-open.open c.in_ok-first.first c.in_ok-close.close c.in_ok-end.end c.args.start.now _
    (flat c.args.out.now) (flat c.punctuation.new.out) (flat c.push_value.new.self) (flat c.gap_in.new.out)
    (flat c.entries.new.out) (flat c.punctuation-2.new.out) sg stated c.in_ok-first.ensures c.in_ok-close.ensures sg2)

pub bracket-returns-in_err-close : goal.bracket-returns-in_err-close
bracket-returns-in_err-close t c =
    let p = err_from_is_err_and c.from_residual-in_err-close.result c.from_residual-in_err-close.ensures.1 in
    let k : c.args.limits.depth ≡ suc (c.args.limits.depth - 1) = omega arith in
    let sg = rw c.open_leaf.ensures at c.in_ok-open.ensures in
    rw (
      p.1,
      p.2,
      k,
    ) (bracket_fails c.args.limits.profile c.args.brackets c.args.text.now c.args.at (c.args.limits.depth - 1)
    c.in_ok-open.open c.in_ok-first.first
    (flat c.push_value.new.self) (flat c.gap_in.new.out) c.in_err-close.field-0.0 sg.end_is c.in_ok-first.ensures
    c.in_err-close.ensures)

pub bracket-returns : goal.bracket-returns
bracket-returns t c =
    let k : c.args.limits.depth ≡ suc (c.args.limits.depth - 1) = omega arith in
    let sg = rw c.open_leaf.ensures at c.in_ok-open.ensures in
    let stated = rw c.open_leaf-2.ensures at c.in_ok-push_value.ensures.ok in
    let sg2 = rw c.close_leaf.ensures at c.in_ok-end.ensures in
    rw k (bracket_is c.args.text.now c.args.brackets c.args.limits.profile (c.args.limits.depth - 1) c.args.at
    c.args.keys c.in_ok-open.open c.in_ok-first.first c.in_ok-close.close c.in_ok-end.end c.value_count-number.result
    c.value_count.result c.key_count.result (c.args.start.now.depth + 1) c.owner_in.result c.args.start.now
    (flat c.args.out.now) (flat c.punctuation.new.out) (flat c.push_value.new.self) (flat c.gap_in.new.out)
    (flat c.entries.new.out) (flat c.punctuation-2.new.out) (flat c.set_end.new.self)
    sg stated c.in_ok-first.ensures c.value_count.ensures c.key_count.ensures c.owner_in.ensures (omega arith)
    c.value_count-number.ensures c.requires.1.1.1.1.0 c.requires.1.1.1.1.1.0 c.in_ok-close.ensures sg2
    c.set_end.ensures.change)

pub entries-items-init : goal.entries-items-init
entries-items-init t c =
    so_far_none c.args.brackets c.args.limits.profile c.args.limits.depth c.args.text.now c.args.start.now
    (flat c.args.out.now) c.requires.1.1.0 c.requires.1.1.1.0 c.requires.1.1.1.1.0

pub entries-returns-in_err-at : goal.entries-returns-in_err-at
entries-returns-in_err-at t c =
    let p = err_from_is_err_and c.from_residual.result c.from_residual.ensures.1 in
    let open' : (get_or c.args.text.now c.items.here.at 0 == close_byte c.args.brackets) ≡ false =
    grind (arith, nat_tests, c.byte_at.ensures, c.close_byte.ensures) in
    rw (
      p.1,
      p.2,
    ) (so_far_fails c.args.brackets c.args.limits.profile c.args.limits.depth c.args.text.now c.args.start.now
    (flat c.args.out.now) (flat c.items.out) c.items.here c.in_err-at.field-0.0 c.items.invariant open'
    c.in_err-at.ensures)

pub entries-items-preserved : goal.entries-items-preserved
entries-items-preserved t c =
    let open' : (get_or c.args.text.now c.items.here.at 0 == close_byte c.args.brackets) ≡ false =
    grind (arith, nat_tests, c.byte_at.ensures, c.close_byte.ensures) in
    so_far_more c.args.brackets c.args.limits.profile c.args.limits.depth c.args.text.now c.args.start.now
    (flat c.args.out.now) (flat c.items.out) (flat c.item.new.out) c.items.here c.in_ok-at.at c.value_count.result
    c.key_count.result c.in_ok-at.comma
    c.items.invariant c.in_ok-at.ensures open' (comma_some c.in_ok-at.comma c.if-is_none.ensures) c.value_count.ensures
    c.key_count.ensures

pub entries-returns-after-items : goal.entries-returns-after-items
entries-returns-after-items t c =
    let closed : (get_or c.args.text.now c.items.here.at 0 == close_byte c.args.brackets) ≡ true =
    grind (arith, nat_tests, c.byte_at.ensures, c.close_byte.ensures) in
    so_far_done c.args.brackets c.args.limits.profile c.args.limits.depth c.args.text.now c.args.start.now
    (flat c.args.out.now) (flat c.items.out) c.items.here c.items.invariant
    (omega (arith, c.byte_at.ensures, c.close_byte.ensures)) closed

pub entries-returns-then-is_none : goal.entries-returns-then-is_none
entries-returns-then-is_none t c =
    let open' : (get_or c.args.text.now c.items.here.at 0 == close_byte c.args.brackets) ≡ false =
    grind (arith, nat_tests, c.byte_at.ensures, c.close_byte.ensures) in
    so_far_last c.args.brackets c.args.limits.profile c.args.limits.depth c.args.text.now c.args.start.now
    (flat c.args.out.now) (flat c.items.out) (flat c.item.new.out) c.items.here c.in_ok-at.at c.in_ok-at.comma
    c.items.invariant c.in_ok-at.ensures open' (comma_none c.in_ok-at.comma c.if-is_none.ensures)

pub item-returns-in_err-begin : goal.item-returns-in_err-begin
item-returns-in_err-begin t c =
    let p = err_from_is_err_and c.from_residual.result c.from_residual.ensures.1 in
    rw (
      p.1,
      p.2,
    ) (item_fails_name c.args.limits.profile c.args.brackets c.args.limits.depth _ c.args.text.now
    c.in_err-begin.field-0.0 c.in_err-begin.ensures)

pub item-overflow_sub-keys : goal.item-overflow_sub-keys
item-overflow_sub-keys t c =
    omega (
      arith,
      name_keys c.args.limits.profile c.args.brackets c.args.text.now c.args.start.now c.in_ok-begin.begin
          (flat c.args.out.now) (flat c.entry_key.new.out) c.requires.1.1.1.1.0 c.in_ok-begin.ensures,
      c.key_count.ensures,
    )

pub item-value-requires : goal.item-value-requires
item-value-requires t c =
    let values : c.args.start.now.values ≡ length (flat c.entry_key.new.out).values =
    name_values c.args.limits.profile c.args.brackets c.args.text.now c.args.start.now c.in_ok-begin.begin
    (flat c.args.out.now) (flat c.entry_key.new.out) c.requires.1.1.1.0 c.in_ok-begin.ensures in
    let more =
    name_keys c.args.limits.profile c.args.brackets c.args.text.now c.args.start.now c.in_ok-begin.begin
    (flat c.args.out.now) (flat c.entry_key.new.out) c.requires.1.1.1.1.0 c.in_ok-begin.ensures in
    let parts : c.args.start.now.parts + (c.key_count.result - c.args.start.now.parts)
    ≡ length (flat c.entry_key.new.out).keys = omega (arith, more, c.key_count.ensures) in
    let bound = c.in_ok-begin.ensures.bound in
    let forward = c.in_ok-begin.ensures.forward in
    search rules

pub item-returns-in_err-end : goal.item-returns-in_err-end
item-returns-in_err-end t c =
    let p = err_from_is_err_and c.from_residual-in_err-end.result c.from_residual-in_err-end.ensures.1 in
    rw (
      p.1,
      p.2,
    ) (item_fails_value c.args.limits.profile c.args.brackets c.args.limits.depth c.args.text.now c.args.start.now.at
    c.in_ok-begin.begin (flat c.args.out.now) (flat c.entry_key.new.out) c.in_err-end.field-0.0 c.in_ok-begin.ensures
    c.in_err-end.ensures)

pub item-after_entry-requires-clause-number : goal.item-after_entry-requires-clause-number
item-after_entry-requires-clause-number t c =
    item_number c.args.limits.profile c.args.limits.depth c.args.text.now c.args.start.now c.in_ok-begin.begin _
    c.in_ok-end.end (flat c.entry_key.new.out) (flat c.value.new.out)
    (name_values c.args.limits.profile c.args.brackets c.args.text.now c.args.start.now c.in_ok-begin.begin
    (flat c.args.out.now) (flat c.entry_key.new.out) c.requires.1.1.1.0 c.in_ok-begin.ensures) c.in_ok-end.ensures

pub item-returns : goal.item-returns
item-returns t c =
    item_is c.args.limits.profile c.args.brackets c.args.limits.depth c.args.text.now c.args.start.now
    c.in_ok-begin.begin (c.key_count.result - c.args.start.now.parts) c.in_ok-end.end (flat c.args.out.now)
    (flat c.entry_key.new.out) (flat c.value.new.out) (flat c.after_entry.new.out) c.after_entry.result
    c.requires.1.1.1.0 c.requires.1.1.1.1.0 (ap (λ (n : ℕ). n - c.args.start.now.parts) c.key_count.ensures)
    c.in_ok-begin.ensures c.in_ok-end.ensures c.after_entry.ensures

pub value-returns-then-byte-eq91 : goal.value-returns-then-byte-eq91
value-returns-then-byte-eq91 t c =
    same_read c.args.text.now c.args.at 1 (value_taken c.args.start.now c.args.at c.args.keys) (flat c.args.out.now)
    (flat c.bracket.new.out) c.bracket.result _ _
    (value_array c.args.limits.profile c.args.limits.depth c.args.text.now c.args.at
    (omega (arith, c.byte_at-byte.ensures))) c.bracket.ensures

pub value-returns-then-byte-eq123 : goal.value-returns-then-byte-eq123
value-returns-then-byte-eq123 t c =
    same_read c.args.text.now c.args.at 1 (value_taken c.args.start.now c.args.at c.args.keys) (flat c.args.out.now) _ _
    _ _ (value_inline c.args.limits.profile c.args.limits.depth c.args.text.now c.args.at
    (omega (arith, c.byte_at-byte.ensures))) c.bracket-then-byte-eq123.ensures

pub value-returns-else-byte-eq123 : goal.value-returns-else-byte-eq123
value-returns-else-byte-eq123 t c =
    let not_array : (get_or c.args.text.now c.args.at 0 == 91) ≡ false =
    grind (arith, nat_tests, c.byte_at-byte.ensures) in
    let not_inline : (get_or c.args.text.now c.args.at 0 == 123) ≡ false =
    grind (arith, nat_tests, c.byte_at-byte.ensures) in
    same_read c.args.text.now c.args.at 1 (value_taken c.args.start.now c.args.at c.args.keys) (flat c.args.out.now)
    (flat c.scalar.new.out) c.scalar.result _ _
    (value_scalar c.args.limits.profile c.args.limits.depth c.args.text.now c.args.at not_array not_inline)
    c.scalar.ensures
