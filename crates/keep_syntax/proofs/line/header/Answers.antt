use Rattle.std.proofs.Common.{◌≡◌, ◌==◌, get_or, false, arith}
use Rattle.std.proofs.lemmas.Bool.Decides.{nat_tests}
use Rattle.std.proofs.lemmas.Result.{err_from_is_err_and}
use Rattle.keep_types.specs.declared.leaf.Leaf.TheVariants as leaf
use Rattle.keep_syntax_store.specs.Flat.{flat}
use Rattle.keep_syntax.proofs.LineContentLaws.{key_grown, header_fails, header_bad, header_is}
use Rattle.keep_syntax.proofs.line.header.Goals as goal

pub returns-in_err-close : goal.returns-in_err-close
returns-in_err-close c =
    let p = err_from_is_err_and c.from_residual-in_err-close.result c.from_residual-in_err-close.ensures.1 in
    rw (
      p.1,
      p.2,
    ) (header_fails c.args.limits.profile c.args.limits.depth c.args.text.now c.args.start.now.at c.in_ok-after.after
    c.in_ok-begin.begin (flat c.punctuation.new.out) (flat c.space.new.out) c.in_err-close.field-0.0
    c.requires.opens c.requires.once c.in_ok-after.ensures.end_is c.in_ok-begin.ensures c.in_err-close.ensures)

pub returns-then-byte_at-ne93 : goal.returns-then-byte_at-ne93
returns-then-byte_at-ne93 c =
    let other : (get_or c.args.text.now c.in_ok-close.close 0 == 93) ≡ false =
    grind (arith, nat_tests, c.byte_at.ensures) in
    header_bad c.args.limits.profile c.args.limits.depth c.args.text.now c.args.start.now.at c.in_ok-after.after
    c.in_ok-begin.begin c.in_ok-close.close (flat c.punctuation.new.out) (flat c.space.new.out) (flat c.key.new.out)
    c.syntax_fault_at.result
    c.requires.opens c.requires.once c.in_ok-after.ensures.end_is c.in_ok-begin.ensures c.in_ok-close.ensures other
    c.syntax_fault_at.ensures

pub overflow_sub-head : goal.overflow_sub-head
overflow_sub-head c =
    let n = key_grown c.args.limits.profile c.args.text.now c.args.start.now.at 1 c.in_ok-after.after
    c.in_ok-begin.begin c.in_ok-close.close leaf.HeadOpen (flat c.args.out.now) (flat c.punctuation.new.out)
    (flat c.space.new.out) (flat c.key.new.out) c.in_ok-after.ensures c.in_ok-begin.ensures c.in_ok-close.ensures in
    omega (arith, c.requires.parts, c.key_count.ensures, n)

pub returns : goal.returns
returns c =
    header_is c.args.limits.profile c.args.limits.depth c.args.text.now c.args.start.now c.in_ok-after.after
    c.in_ok-begin.begin c.in_ok-close.close c.in_ok-end.end c.key_count.result (flat c.args.out.now)
    (flat c.punctuation.new.out) (flat c.space.new.out) (flat c.key.new.out) (flat c.punctuation-2.new.out)
    c.requires.opens c.requires.once c.in_ok-after.ensures c.in_ok-begin.ensures c.in_ok-close.ensures
    (omega (arith, c.byte_at.ensures)) c.requires.parts c.key_count.ensures c.in_ok-end.ensures
