-- The newline of a document, looked for among its tokens.
use Rattle.std.specs.Prelude.{◌≡◌, ℕ, List, [], ◌∷◌, Some, codes, length}
use Rattle.keep_types.specs.declared.leaf.Leaf.TheVariants as leaf
use Rattle.keep_syntax.specs.Numbered.{Placed}
use Rattle.keep_syntax.specs.Tree.{Document}
use Rattle.keep_edit_spec.specs.FirstNewline.{first_line_text}

-- the text of the first newline, else a line feed
abbrev pub newline_among : List Placed → List ℕ
newline_among [] = codes "\n"
newline_among (t ∷ ts) = elim t.leaf [ leaf.Newline ↦ t.text | _ ↦ newline_among ts ]

-- the document has a first line with a newline, which ends before this byte
abbrev pub IsFirstLineEnd : Document → ℕ → Type 0
IsFirstLineEnd s end =
    (line : List ℕ) × ((first_line_text s.bom s.ended ≡ Some line) × (length line ≡ end))
