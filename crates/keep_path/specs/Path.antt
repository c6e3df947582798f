-- Paths: lists of keys and indexes, from the root, or from a value. (TOML 1.0.0: Keys, Array, Array of Tables)
use Rattle.std.specs.Prelude.{◌≡◌, ℕ, Bool, true, false, ◌==◌, List, [], ◌∷◌, ◌++◌, Option, Some, None, IsUtf8}
use Rattle.std.specs.Str.{bytes_eq}
use Rattle.std.specs.Cmp.Lexicographic.{pointwise}

-- one step of a path: a key, by its decoded bytes, or the number of an item or element
pub data Part : Type 0 where
  key : List ℕ → Part
  index : ℕ → Part

abbrev pub same_part : Part → Part → Bool
same_part (key a) (key b) = bytes_eq a b
same_part (index m) (index n) = m == n
same_part (key a) (index n) = false
same_part (index m) (key b) = false

abbrev pub same_path : List Part → List Part → Bool
same_path = pointwise same_part

-- a path from the root: its first step is a key
abbrev pub IsRooted : List Part → Type 0
IsRooted [] = Unit {0}
IsRooted (key text ∷ parts) = Unit {0}
IsRooted (index n ∷ parts) = ⊥

-- the keys are in UTF-8
abbrev pub AreUtf8 : List Part → Type 0
AreUtf8 [] = Unit {0}
AreUtf8 (key text ∷ parts) = IsUtf8 text × AreUtf8 parts
AreUtf8 (index n ∷ parts) = AreUtf8 parts

-- ---- the last step

-- the last part, and what comes before it
abbrev pub last_part : List Part → Option Part
last_part [] = None
last_part (p ∷ []) = Some p
last_part (p ∷ q ∷ ps) = last_part (q ∷ ps)

abbrev pub without_last : List Part → List Part
without_last [] = []
without_last (p ∷ []) = []
without_last (p ∷ q ∷ ps) = p ∷ without_last (q ∷ ps)

-- its last step is a key
abbrev pub EndsInKey : List Part → Type 0
EndsInKey path = (text : List ℕ) × (last_part path ≡ Some (key text))

-- the path with this key in place of its last step: the name of a new sibling
abbrev pub beside : List Part → List ℕ → List Part
beside path text = without_last path ++ key text ∷ []

-- ---- prefixes

-- what is left of a path after a prefix of it
abbrev pub strip : List Part → List Part → Option (List Part)
strip [] path = Some path
strip (p ∷ ps) [] = None
strip (p ∷ ps) (q ∷ qs) = elim (same_part p q) [ true ↦ strip ps qs | false ↦ None ]

-- a path at or below `from`, with `to` in place of that; any other path as it is
abbrev pub moved_path : List Part → List Part → List Part → List Part
moved_path from to path = elim (strip from path) [ None ↦ path | Some more ↦ to ++ more ]
