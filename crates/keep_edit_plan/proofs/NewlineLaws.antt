-- The newline of a document is its first token that is one, or a line feed if none is.
--
-- Theorems: `newline_is`; `newline_here` and `newline_later`: the same token by token.
use Rattle.std.proofs.Common.{◌≡◌, ℕ, ◌+◌, List, [], ◌∷◌, length, refl, sym, ap, Option, Some, None}
use Rattle.std.specs.Prelude.{codes}
use Rattle.keep_types.specs.declared.leaf.Leaf.{Leaf}
use Rattle.keep_types.specs.declared.leaf.Leaf.TheVariants as leaf
use Rattle.keep_syntax.specs.Tree.{Written, Document, leaves}
use Rattle.keep_syntax.specs.Numbered.{Placed, placed, tokens}
use Rattle.keep_edit_spec.specs.Lines.{first_newline, newline_of}
use Rattle.keep_edit_plan.specs.Newlines.{newline_among}

abbrev or_line_feed : Option Written → Written
or_line_feed o = elim o [ Some w ↦ w | None ↦ record { leaf = leaf.Newline; text = codes "\n" } ]

among_by : (w : Written) (at : ℕ) (ws : List Written) (l : Leaf)
    → newline_among (placed (at + length w.text) ws) ≡ (or_line_feed (first_newline ws)).text
    → elim l [ leaf.Newline ↦ w.text | _ ↦ newline_among (placed (at + length w.text) ws) ]
    ≡ (or_line_feed (elim l [ leaf.Newline ↦ Some w | _ ↦ first_newline ws ])).text
among_by w at ws leaf.Newline more = refl
among_by w at ws _ more = more

among : (at : ℕ) (ws : List Written) → newline_among (placed at ws) ≡ (or_line_feed (first_newline ws)).text
among at [] = refl
among at (w ∷ ws) = among_by w at ws w.leaf (among (at + length w.text) ws)

pub newline_is : (s : Document) → (newline_of s).text ≡ newline_among (tokens s)
newline_is s = sym (among 0 (leaves s))

-- ---- token by token

pub newline_here : (t : Placed) (ts : List Placed) → t.leaf ≡ leaf.Newline → newline_among (t ∷ ts) ≡ t.text
newline_here t ts e = ap (λ (l : Leaf). elim l [ leaf.Newline ↦ t.text | _ ↦ newline_among ts ]) e

pub newline_later : (t : Placed) (ts : List Placed) → (t.leaf ≡ leaf.Newline → ⊥)
    → newline_among (t ∷ ts) ≡ newline_among ts
newline_later t ts other = by t.leaf refl
  where
    by : (l : Leaf) → t.leaf ≡ l → elim l [ leaf.Newline ↦ t.text | _ ↦ newline_among ts ] ≡ newline_among ts
    by leaf.Newline e = absurd (other e)
    by _ e = refl
