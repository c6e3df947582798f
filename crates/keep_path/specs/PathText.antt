-- The texts of paths: a key part, then dots with key parts and indexes in brackets, with no spaces. The root's text is
-- empty.
use Rattle.std.specs.Prelude.{◌≡◌, ℕ, ◌<◌, IsTrue, List, [], ◌∷◌, ◌++◌, length, take, drop, decimal}
use Rattle.std.specs.List.{flat_map}
use Rattle.keep_types.specs.declared.leaf.Leaf.{Leaf}
use Rattle.keep_types.specs.declared.leaf.Profile.TheVariants.{Strict}
use Rattle.keep_token.specs.Abnf.{Language, Just, Longest, ◌⨾◌}
use Rattle.keep_token.specs.Encoded.{encoded_key}
use Rattle.keep_token.specs.Leaves.{IsLeaf, is_key_leaf, Means}
use Rattle.keep_path.specs.Path.{Part, key, index}

-- ---- how a path is written

abbrev pub index_text : ℕ → List ℕ
index_text n = 0x5B ∷ (decimal n ++ (0x5D ∷ []))

-- the first step of a path
abbrev pub first_text : Part → List ℕ
first_text (key text) = encoded_key text
first_text (index n) = index_text n

-- a step after others: a dot and a key part, or an index
abbrev pub part_text : Part → List ℕ
part_text (key text) = 0x2E ∷ encoded_key text
part_text (index n) = index_text n

abbrev pub encoded_path : List Part → List ℕ
encoded_path [] = []
encoded_path (part ∷ parts) = first_text part ++ flat_map part_text parts

-- ---- how a path is read

-- a bare key, a basic or a literal string that means this key
abbrev pub KeyText : List ℕ → Language
KeyText value text = (l : Leaf) × IsTrue (is_key_leaf l) × IsLeaf Strict l text × Means Strict l text value

-- an index has at most nine digits
abbrev pub IndexText : ℕ → Language
IndexText n text = (n < 1_000_000_000) × (text ≡ index_text n)

abbrev pub StepText : Part → Language
StepText (key value) = Just (0x2E ∷ []) ⨾ KeyText value
StepText (index n) = IndexText n

abbrev pub StepsText : List Part → Language
StepsText [] = Just []
StepsText (part ∷ parts) = StepText part ⨾ StepsText parts

-- the text is the text of the path
abbrev pub IsPathText : List ℕ → List Part → Type 0
IsPathText text [] = text ≡ []
IsPathText text (key value ∷ parts) = (KeyText value ⨾ StepsText parts) text
IsPathText text (index n ∷ parts) = ⊥

-- some path has the text
abbrev pub SomePath : Language
SomePath text = (path : List Part) × IsPathText text path

-- The longest prefix that is a path's text has so many bytes, and it is not all of the text. So what comes after it
-- does not begin with a step's text.
abbrev pub StopsAt : List ℕ → ℕ → Type 0
StopsAt text at = Longest SomePath text at × (at < length text)

-- its indexes can be read again
abbrev pub HasSmallIndexes : List Part → Type 0
HasSmallIndexes [] = Unit {0}
HasSmallIndexes (key value ∷ parts) = HasSmallIndexes parts
HasSmallIndexes (index n ∷ parts) = (n < 1_000_000_000) × HasSmallIndexes parts

-- ---- the first index

abbrev pub AreKeys : List Part → Type 0
AreKeys [] = Unit {0}
AreKeys (key value ∷ parts) = AreKeys parts
AreKeys (index n ∷ parts) = ⊥

-- keys come before this byte, and an index begins there
abbrev pub FirstIndex : List ℕ → ℕ → Type 0
FirstIndex text at =
    (keys : List Part) × AreKeys keys × IsPathText (take at text) keys × (n : ℕ) × (parts : List Part)
    × StepsText (index n ∷ parts) (drop at text)
