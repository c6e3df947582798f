-- The tokens that kinds and starts cut out of a text.
use Rattle.std.specs.Prelude.{ℕ, List, [], ◌∷◌, ◌++◌, length, get_or, drop, slice_range}
use Rattle.keep_types.specs.declared.leaf.Leaf.{Leaf}
use Rattle.keep_types.specs.declared.leaf.Leaf.TheVariants as leaf
use Rattle.keep_syntax.specs.Numbered.{Placed}
use Rattle.keep_syntax_store.specs.Flat.{Flat}

-- where the token with this number begins, if those stored begin so; End begins at the end of the text
abbrev pub start_in : List ℕ → List ℕ → ℕ → ℕ
start_in text starts number = get_or starts number (length text)

-- Tokens of these kinds. Each ends where the next begins.
abbrev pub cut : List ℕ → List Leaf → List ℕ → List Placed
cut text [] starts = []
cut text (l ∷ ls) starts =
    record {
      leaf = l;
      at = start_in text starts 0;
      text = slice_range text (start_in text starts 0) (start_in text starts 1);
    } ∷ cut text ls (drop 1 starts)

-- the kinds of the tokens that are stored, and End
abbrev pub all_kinds : Flat → List Leaf
all_kinds f = f.kinds ++ (leaf.End ∷ [])

-- the tokens of a text, by what is stored of it
abbrev pub cut_by : Flat → List ℕ → List Placed
cut_by f text = cut text (all_kinds f) f.starts
