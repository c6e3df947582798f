use Rattle.std.proofs.Common.{ap, arith, length, refl}
use Rattle.keep_edit_plan.proofs.Shared.{profile_seen, text_seen}
use Rattle.keep_edit.proofs.TakeLaws.{in_text, high, cut, scanned_as, scanned_is, holds_after, read_as, change_known}
use Rattle.keep_edit.proofs.TakeLaws.{change_can, holds_same}
use Rattle.keep_edit.proofs.planned.reread.Goals as goal

pub lines-whole-requires : goal.lines-whole-requires
lines-whole-requires c =
    let (old, p, change) = c.requires in
    in_text old c.args.edited.now _ _ p.holds p.edit

pub overflow_sub-last-2 : goal.overflow_sub-last-2
overflow_sub-last-2 c =
    let (old, p, change) = c.requires in
    let low = high old c.args.edited.now _ _ p.holds p.edit c.lines-whole.result c.lines-whole.ensures in
    omega (arith, low)

pub overflow_add-last : goal.overflow_add-last
overflow_add-last c =
    let (old, p, change) = c.requires in
    let within = (cut old c.args.edited.now _ _ p.holds p.edit c.lines-whole.result c.lines-whole.ensures).within in
    let size = ap length (text_seen p.is) in
    let added = ap length c.as_str.ensures.value in
    omega (arith, within, size, added, c.type_inv.text)

pub range-lines-requires-clause-start_le_end : goal.range-lines-requires-clause-start_le_end
range-lines-requires-clause-start_le_end c =
    let (old, p, change) = c.requires in
    rw c.as_str.ensures.value (cut old c.args.edited.now _ _ p.holds p.edit c.lines-whole.result
    c.lines-whole.ensures).ordered

pub range-lines-requires-clause-start_boundary : goal.range-lines-requires-clause-start_boundary
range-lines-requires-clause-start_boundary c = λ some.
    let (old, p, change) = c.requires in
    rw (text_seen p.is) (cut old c.args.edited.now _ _ p.holds p.edit c.lines-whole.result c.lines-whole.ensures).starts

pub range-lines-requires-clause-end_boundary : goal.range-lines-requires-clause-end_boundary
range-lines-requires-clause-end_boundary c =
    let (old, p, change) = c.requires in
    rw (c.as_str.ensures.value, text_seen p.is)
    (cut old c.args.edited.now _ _ p.holds p.edit c.lines-whole.result c.lines-whole.ensures).ends

pub put_lines-requires : goal.put_lines-requires
put_lines-requires c =
    let (old, p, change) = c.requires in (
      old,
      c.args.edited.now,
      _,
      scanned_as old c.args.edited.now _ _ c.args.profile c.args.text.now c.lines-whole.result c.range-lines.result.now
          p c.lines-whole.ensures (rw (c.range-lines.ensures.value, c.as_str.ensures.value) refl),
    )

pub renew-requires-clause-read : goal.renew-requires-clause-read
renew-requires-clause-read c =
    let (old, p, change) = c.requires in
    let scanned =
    scanned_as old c.args.edited.now _ _ c.args.profile c.args.text.now c.lines-whole.result c.range-lines.result.now p
    c.lines-whole.ensures (rw (c.range-lines.ensures.value, c.as_str.ensures.value) refl) in
    let renewed = c.in-Ok.ensures.renewed old c.args.edited.now _ scanned in
    rw (text_seen p.is, profile_seen p.is)
    (p.edit.changed.to, read_as old c.args.edited.now _ _ p.holds p.edit c.put_lines.new.syntax renewed)

pub renew-requires-clause-can : goal.renew-requires-clause-can
renew-requires-clause-can c =
    let (old, p, change) = c.requires in
    change_can old c.args.edited.now _ _ p.holds p.edit c.args.change change

pub returns-in-Ok-renew : goal.returns-in-Ok-renew
returns-in-Ok-renew c = λ old p change.
    let scanned =
    scanned_as old c.args.edited.now _ _ c.args.profile c.args.text.now c.lines-whole.result c.range-lines.result.now p
    c.lines-whole.ensures (rw (c.range-lines.ensures.value, c.as_str.ensures.value) refl) in
    let renewed = c.in-Ok.ensures.renewed old c.args.edited.now _ scanned in
    let known =
    c.in-Ok-renew.ensures.new p.edit.changed.to
    (rw (text_seen p.is, profile_seen p.is)
    (read_as old c.args.edited.now _ _ p.holds p.edit c.put_lines.new.syntax renewed))
    (change_known old c.args.edited.now _ _ p.holds p.edit c.args.change change) in (
      holds_after old c.args.edited.now _ _ p.holds p.edit c.put_lines.new.syntax _ renewed known,
      λ s q read at.
          rw c.as_str.ensures.value (scanned_is old c.args.edited.now _ _ p.holds p.edit c.lines-whole.result
          c.lines-whole.ensures s q read at),
    )

pub returns-in_default : goal.returns-in_default
returns-in_default c = λ old p change. (refl, holds_same old _ _ _ c.in_default.ensures.refused p.holds)

pub returns-in-Err : goal.returns-in-Err
returns-in-Err c =
    λ old p change. (
      c.in-Err.ensures.memory,
      rw c.in-Err.ensures.old (holds_same old _ _ _ (c.restore.ensures c.args.syntax.now c.in-Ok.ensures.undo) p.holds),
    )
