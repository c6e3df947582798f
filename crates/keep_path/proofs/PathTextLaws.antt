-- What a path is written as is a text of that path, if it begins with no index and its indexes are small.
--
-- Theorems: `encoded_stated`: what it is written as; `steps_are_utf8`: the keys of steps are UTF-8.
use Rattle.std.proofs.Common.{◌≡◌, ℕ, true, List, [], ◌∷◌, map, get_or, refl, Fits, w8, string_bytes, inl, inr}
use Rattle.std.proofs.lemmas.Bool.{cases_Bool}
use Rattle.std.specs.List.{flat_map}
use Rattle.std.proofs.lemmas.Str.{IsUtf8-string_bytes}
use Rattle.keep_token.specs.Encoded.{encoded_key, encoded_key_leaf, is_bare_text}
use Rattle.keep_token.specs.Leaves.{is_key_leaf}
use Rattle.keep_token.proofs.Shared.{key_is_leaf, key_means}
use Rattle.keep_path.proofs.ByteLaws.{text_bytes}
use Rattle.keep_path.specs.declared.step.Step.{Step}
use Rattle.keep_path.specs.declared.step.Step.TheVariants.{Key, Index}
use Rattle.keep_path.specs.Path.{Part, key, index, AreUtf8, IsRooted}
use Rattle.keep_path.specs.PathText.{encoded_path, part_text, KeyText, StepsText, IsPathText, HasSmallIndexes}
use Rattle.keep_path.specs.Step.{part_of}

-- the keys are made of bytes
abbrev HasBytes : List Part → Type 0
HasBytes [] = Unit {0}
HasBytes (key value ∷ parts) = ((i : ℕ) → Fits w8 (get_or value i 0)) × HasBytes parts
HasBytes (index n ∷ parts) = HasBytes parts

steps_have_bytes : (steps : List Step) → HasBytes (map part_of steps)
steps_have_bytes [] = tt
steps_have_bytes (Key text ∷ steps) =
    (text_bytes (string_bytes text) (IsUtf8-string_bytes text), steps_have_bytes steps)
steps_have_bytes (Index n ∷ steps) = steps_have_bytes steps

encoded_leaf_is_key : (value : List ℕ) → is_key_leaf (encoded_key_leaf value) ≡ true
encoded_leaf_is_key value = elim (cases_Bool (is_bare_text value)) [ inl e ↦ rw e refl | inr e ↦ rw e refl ]

key_stated : (value : List ℕ) → ((i : ℕ) → Fits w8 (get_or value i 0)) → KeyText value (encoded_key value)
key_stated value h = (encoded_key_leaf value, encoded_leaf_is_key value, key_is_leaf value h, key_means value h)

steps_stated : (parts : List Part) → HasBytes parts → HasSmallIndexes parts → StepsText parts (flat_map part_text parts)
steps_stated [] h small = refl
steps_stated (key value ∷ parts) h small = (
  part_text (key value),
  flat_map part_text parts,
  refl,
  (0x2E ∷ [], encoded_key value, refl, refl, key_stated value h.0),
  steps_stated parts h.1 small,
)
steps_stated (index n ∷ parts) h small =
    (part_text (index n), flat_map part_text parts, refl, (small.0, refl), steps_stated parts h small.1)

path_stated : (parts : List Part) → IsRooted parts → HasBytes parts → HasSmallIndexes parts
    → IsPathText (encoded_path parts) parts
path_stated [] r h small = refl
path_stated (key value ∷ parts) r h small =
    (encoded_key value, flat_map part_text parts, refl, key_stated value h.0, steps_stated parts h.1 small)
path_stated (index n ∷ parts) r h small = absurd r

pub encoded_stated : (steps : List Step) → IsRooted (map part_of steps) → HasSmallIndexes (map part_of steps)
    → IsPathText (encoded_path (map part_of steps)) (map part_of steps)
encoded_stated steps r small = path_stated (map part_of steps) r (steps_have_bytes steps) small

pub steps_are_utf8 : (steps : List Step) → AreUtf8 (map part_of steps)
steps_are_utf8 [] = tt
steps_are_utf8 (Key text ∷ steps) = (IsUtf8-string_bytes text, steps_are_utf8 steps)
steps_are_utf8 (Index n ∷ steps) = steps_are_utf8 steps
