use Rattle.std.proofs.Common.{refl, arith}
use Rattle.keep_syntax.proofs.reread.new_lines.Goals as goal

pub returns : goal.returns
returns c = record {
  begins = c.in_ok-parts.begins;
  read = c.in_ok-parts.ensures;
  size = refl;
  end = omega (arith, c.in-Some.ensures);
  starts_are = c.in_ok-starts.ensures;
  len_is = c.in-Some-moved.ensures.1;
}
