-- What a chain of tests gives, from the tests in the order in which they are made.
--
-- Theorems: `and_fails`: where the first test fails, so does the chain; `and_or_first`: where it holds and so does the
-- second, the chain holds; `and_or_second`: where the second fails, the third decides.
use Rattle.std.proofs.Common.{◌≡◌, Bool, true, false, ◌&&◌, ◌||◌, sym, ◌∙◌}

pub and_fails : (r a b : Bool) → r ≡ a → r ≡ false → r ≡ (a && b)
and_fails r a b e f = let g : a ≡ false = sym e ∙ f in rw g f

pub and_or_first : (r s a b c : Bool) → r ≡ a → r ≡ true → s ≡ b → s ≡ true → s ≡ (a && (b || c))
and_or_first r s a b c e f g h =
    let i : a ≡ true = sym e ∙ f in
    let j : b ≡ true = sym g ∙ h in
    rw (i, j) h

pub and_or_second : (r s u a b c : Bool) → r ≡ a → r ≡ true → s ≡ b → s ≡ false → u ≡ c → u ≡ (a && (b || c))
and_or_second r s u a b c e f g h k =
    let i : a ≡ true = sym e ∙ f in
    let j : b ≡ false = sym g ∙ h in
    rw (i, j) k

pub and_and_last : (r s u a b c : Bool) → r ≡ a → r ≡ true → s ≡ b → s ≡ true → u ≡ c → u ≡ (a && (b && c))
and_and_last r s u a b c e f g h k =
    let i : a ≡ true = sym e ∙ f in
    let j : b ≡ true = sym g ∙ h in
    rw (i, j) k

pub and_and_second : (r s a b c : Bool) → r ≡ a → r ≡ true → s ≡ b → s ≡ false → s ≡ (a && (b && c))
and_and_second r s a b c e f g h =
    let i : a ≡ true = sym e ∙ f in
    let j : b ≡ false = sym g ∙ h in
    rw (i, j) h
