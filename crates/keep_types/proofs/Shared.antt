-- An option holds one value.
use Rattle.std.proofs.Common.{◌≡◌, Option, Some, sym, ◌∙◌}

pub one_of_two : {A : Type 0} (o : Option A) (x y : A) → o ≡ Some x → o ≡ Some y → x ≡ y
one_of_two o x y e f = let k : Some x ≡ Some y = sym e ∙ f in cc
