use Rattle.std.proofs.Common.{◌≡◌, ◌==◌, ◌&&◌, not, get_or, false, refl, arith}
use Rattle.std.proofs.lemmas.Bool.Decides.{nat_tests}
use Rattle.keep_syntax_store.specs.Flat.{flat}
use Rattle.keep_syntax.specs.Reading.{close_byte, is_free}
use Rattle.keep_syntax.proofs.ValueCodeLaws.{after_comma, after_number}
use Rattle.keep_syntax.proofs.value.after_entry.Goals as goal
use Rattle.keep_syntax.proofs.value.after_entry.Goals.{else-not-is_free-via-then-not-is_free+else-byte_at-close_byte}
use Rattle.keep_syntax.proofs.value.after_entry.Goals.{else-not-is_free-via-else-not-is_free}

pub set_comma-requires : goal.set_comma-requires
set_comma-requires c =
    after_number c.args.profile c.args.brackets c.args.text.now c.args.at c.args.number c.in_ok-end.end
    c.in_ok-after.after (flat c.args.out.now) (flat c.gap_in.new.out) (flat c.punctuation.new.out) c.in_ok-end.ensures
    c.in_ok-after.ensures c.requires.number

pub returns-else-not-is_free : goal.returns-else-not-is_free
returns-else-not-is_free c =
    let may : (not (is_free c.args.profile c.args.brackets)
    && (get_or c.args.text.now c.in_ok-next.next 0 == close_byte c.args.brackets)) ≡ false =
    elim c.else-not-is_free.branch [
      | else-not-is_free-via-then-not-is_free+else-byte_at-close_byte w ↦
          let other : (get_or c.args.text.now c.in_ok-next.next 0 == close_byte c.args.brackets) ≡ false =
          grind (arith, nat_tests, w.byte_at.ensures, w.close_byte.ensures) in
          rw (← c.is_free.ensures, w.if-not-is_free.true, other) refl
      | else-not-is_free-via-else-not-is_free w ↦ rw (← c.is_free.ensures, w.if-not-is_free.false) refl
    ] in
    after_comma c.args.profile c.args.brackets c.args.text.now c.args.at c.args.number c.in_ok-end.end
    c.in_ok-after.after c.in_ok-next.next (flat c.args.out.now) (flat c.gap_in.new.out) (flat c.punctuation.new.out)
    (flat c.set_comma.new.self) (flat c.gap_in-then-byte-eq44.new.out)
    c.in_ok-end.ensures (omega (arith, c.byte_at-byte.ensures)) c.in_ok-after.ensures c.set_comma.ensures.change
    c.in_ok-next.ensures may
