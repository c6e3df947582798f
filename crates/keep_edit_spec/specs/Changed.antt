-- A change of a part of the tree, with the cut of its text: what stays before, what goes, what comes, what stays after.
use Rattle.std.specs.Prelude.{◌≡◌, ℕ, ◌+◌, List, ◌++◌, length, take, drop, Option, Some, None}

pub record Changed (A : Type 0) : Type 0 where
  pub to : A
  pub before : List ℕ
  pub old : List ℕ
  pub new : List ℕ
  pub after : List ℕ

-- The change is of this value, whose text is given by `text`.
pub record IsChangeOf {A : Type 0} (text : A → List ℕ) (from : A) (c : Changed A) : Type 0 where
  pub was : text from ≡ c.before ++ (c.old ++ c.after)
  pub is : text c.to ≡ c.before ++ (c.new ++ c.after)

-- the same change seen from outside, where more text is on each side
abbrev pub framed_change : {A B : Type 0} → (A → B) → List ℕ → List ℕ → Changed A → Changed B
framed_change outer left right c =
    record { to = outer c.to; before = left ++ c.before; old = c.old; new = c.new; after = c.after ++ right }

abbrev pub within : {A B : Type 0} → (A → B) → List ℕ → List ℕ → Option (Changed A) → Option (Changed B)
within outer left right None = None
within outer left right (Some c) = Some (framed_change outer left right c)

abbrev pub or_else : {A : Type 0} → Option A → Option A → Option A
or_else None other = other
or_else (Some c) other = Some c

-- ---- the place of a change, and the new text by it

pub record Place : Type 0 where
  pub start : ℕ
  pub end : ℕ
  pub new : List ℕ

abbrev pub place_of : {A : Type 0} → Changed A → Place
place_of c = record { start = length c.before; end = length c.before + length c.old; new = c.new }

-- the old text with start..end replaced
abbrev pub put : List ℕ → Place → List ℕ
put text p = take p.start text ++ (p.new ++ drop p.end text)
