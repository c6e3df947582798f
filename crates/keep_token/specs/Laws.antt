-- Laws of leaves that public functions carry.
use Rattle.std.specs.Prelude.{◌≡◌, ℕ, IsTrue, List}
use Rattle.keep_types.specs.declared.leaf.Profile.{Profile}
use Rattle.keep_types.specs.declared.leaf.Profile.TheVariants.{Strict, Wide}
use Rattle.keep_types.specs.declared.leaf.Leaf.{Leaf}
use Rattle.keep_token.specs.Leaves.{IsLeaf, Means, is_scalar_leaf, is_string_leaf}

-- No text is of two kinds of scalars.
abbrev pub ScalarsShareNoText : Type 0
ScalarsShareNoText =
    (profile : Profile) (text : List ℕ) (one other : Leaf) → IsTrue (is_scalar_leaf one) → IsTrue (is_scalar_leaf other)
    → IsLeaf profile one text → IsLeaf profile other text → one ≡ other

-- What is a leaf in Strict is the same leaf in Wide.
abbrev pub WideHasStrict : Type 0
WideHasStrict = (leaf : Leaf) (text : List ℕ) → IsLeaf Strict leaf text → IsLeaf Wide leaf text

-- A string leaf and a key part mean one text.
abbrev pub MeansOneText : Type 0
MeansOneText =
    (leaf : Leaf) (text one other : List ℕ) → IsTrue (is_string_leaf leaf) → Means Wide leaf text one
    → Means Wide leaf text other → one ≡ other
