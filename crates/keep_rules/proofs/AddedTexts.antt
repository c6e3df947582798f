-- A text that was added to can be cut back to what it was.
--
-- Theorems: `grown`: its first bytes are the old text; `grown_then`: they are after two steps; `old_ends`: the old text
-- ends where a character does.
use Rattle.std.proofs.Common.{◌≡◌, ℕ, ◌≤◌, List, ◌++◌, length, take, sym, ap, ◌∙◌, subst, arith, length-take}
use Rattle.std.specs.Prelude.{IsUtf8}
use Rattle.std.proofs.Math.Seq.{take-length, take-append_seam}
use Rattle.std.proofs.lemmas.List.{take-take}
use Rattle.std.proofs.lemmas.Str.{IsCharBoundary-from_take}
use Rattle.std.specs.String.Boundary.{IsSplitPoint}

pub grown_none : (old : List ℕ) → take (length old) old ≡ old
grown_none old = take-length old

pub grown : (old new more : List ℕ) → new ≡ old ++ more → take (length old) new ≡ old
grown old new more e = ap (take (length old)) e ∙ take-append_seam old more

-- what was added to in two steps
pub grown_then : (old mid new : List ℕ) → take (length old) mid ≡ old → take (length mid) new ≡ mid
    → take (length old) new ≡ old
grown_then old mid new h k =
    let fits : length old ≤ length mid = omega (arith, length-take (length old) mid, ap length h) in
    sym (take-take (length old) (length mid) new fits) ∙ (ap (take (length old)) k ∙ h)

-- the old text ends where a character does
pub old_ends : (old new : List ℕ) → IsUtf8 old → IsUtf8 new → take (length old) new ≡ old
    → IsSplitPoint new (length old)
old_ends old new utf8 utf8_new e =
    let fits : length old ≤ length new = omega (arith, length-take (length old) new, ap length e) in
    let cut = IsCharBoundary-from_take new (length old) utf8_new fits (subst IsUtf8 (sym e) utf8) in
    (fits, λ some less high. cut.1 less high)
