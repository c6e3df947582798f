-- What is found at the start of a path's text. The laws in proofs/ tie it to the texts of paths.
use Rattle.std.specs.Prelude.{◌≡◌, ℕ, ◌-◌, ◌<◌, ◌≤◌, IsTrue, List, ◌∷◌, length, take, drop, Some}
use Rattle.keep_types.specs.declared.leaf.Leaf.{Leaf}
use Rattle.keep_types.specs.declared.leaf.Profile.TheVariants.{Strict, Wide}
use Rattle.keep_token.specs.Leaves.{IsLeaf, is_key_leaf, Means}
use Rattle.keep_token.specs.Scanning.{key_at}
use Rattle.keep_path.specs.Path.{Part}
use Rattle.keep_path.specs.PathText.{StepText, StepsText}

-- a key part of n bytes
abbrev pub KeyFound : List ℕ → ℕ → Type 0
KeyFound text n = (l : Leaf) × (key_at Strict text ≡ Some (l, n))

-- a key part of n bytes that means this key
abbrev pub KeyRead : List ℕ → List ℕ → ℕ → Type 0
KeyRead text key n = (l : Leaf) × (key_at Strict text ≡ Some (l, n)) × Means Wide l (take n text) key

-- no key part that begins the text has more than n bytes
abbrev pub KeysWithin : List ℕ → ℕ → Type 0
KeysWithin text n =
    (l : Leaf) (m : ℕ) → IsTrue (is_key_leaf l) → m ≤ length text → IsLeaf Strict l (take m text) → m ≤ n

-- some steps have this text
abbrev pub SomeSteps : List ℕ → Type 0
SomeSteps text = (parts : List Part) × StepsText parts text

-- a prefix of more than n bytes that is the text of steps goes on with steps after these bytes
abbrev pub StepsGoOn : List ℕ → ℕ → Type 0
StepsGoOn text n =
    (k : ℕ) → n < k → k ≤ length text → SomeSteps (take k text) → SomeSteps (take (k - n) (drop n text))

-- no step's text begins the text
abbrev pub NoSteps : List ℕ → Type 0
NoSteps text = (k : ℕ) → 0 < k → k ≤ length text → SomeSteps (take k text) → ⊥

-- a step of n bytes, with which all steps that have this text begin
pub record StepRead (text : List ℕ) (part : Part) (n : ℕ) : Type 0 where
  pub some : 0 < n
  pub within : n ≤ length text
  pub step : StepText part (take n text)
  pub first : (parts : List Part) → StepsText parts text
      → (more : List Part) × (parts ≡ part ∷ more) × StepsText more (drop n text)
