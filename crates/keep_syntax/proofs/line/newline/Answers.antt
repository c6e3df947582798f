use Rattle.std.proofs.Common.{◌≡◌, ◌==◌, ◌&&◌, ◌+◌, get_or, false, refl, arith}
use Rattle.std.proofs.lemmas.Bool.Decides.{nat_tests}
use Rattle.keep_syntax_store.specs.Flat.{flat}
use Rattle.keep_syntax.proofs.LineCodeLaws.{other_newline, newline_1, newline_2}
use Rattle.keep_syntax.proofs.line.newline.Goals as goal
use Rattle.keep_syntax.proofs.line.newline.Goals.{else-byte-eq13-via-then-byte-eq13+else-byte_at-eq10}
use Rattle.keep_syntax.proofs.line.newline.Goals.{else-byte-eq13-via-else-byte-eq13}

pub returns-then-byte-eq10 : goal.returns-then-byte-eq10
returns-then-byte-eq10 c =
    newline_1 c.args.text.now c.args.at (flat c.args.out.now) (flat c.punctuation.new.out) c.punctuation.result
    (omega (arith, c.byte_at-byte.ensures)) c.punctuation.ensures

pub returns-then-byte_at-eq10 : goal.returns-then-byte_at-eq10
returns-then-byte_at-eq10 c =
    newline_2 c.args.text.now c.args.at (flat c.args.out.now) (flat c.punctuation-then-byte_at-eq10.new.out)
    c.punctuation-then-byte_at-eq10.result
    (omega (arith, c.byte_at-byte.ensures)) (omega (arith, c.byte_at.ensures)) c.punctuation-then-byte_at-eq10.ensures

pub returns-else-byte-eq13 : goal.returns-else-byte-eq13
returns-else-byte-eq13 c =
    let a = get_or c.args.text.now c.args.at 0 in
    let b = get_or c.args.text.now (c.args.at + 1) 0 in
    let one : (a == 10) ≡ false = grind (arith, nat_tests, c.byte_at-byte.ensures) in
    let two : (a == 13 && b == 10) ≡ false = elim c.else-byte-eq13.branch [
      | else-byte-eq13-via-then-byte-eq13+else-byte_at-eq10 w ↦ let e : a ≡ 13 =
          omega (arith, c.byte_at-byte.ensures, w.if-byte-eq13.true) in let h : (b == 10) ≡ false =
          grind (arith, nat_tests, w.byte_at.ensures, w.if-byte_at-eq10.false) in rw (e, h) refl
      | else-byte-eq13-via-else-byte-eq13 w ↦ let h : (a == 13) ≡ false =
          grind (arith, nat_tests, c.byte_at-byte.ensures, w.if-byte-eq13.false) in rw h refl
    ] in
    other_newline c.args.text.now c.args.at (flat c.args.out.now) c.syntax_fault_at.result one two
    c.syntax_fault_at.ensures
