-- The decoded texts of the key parts of a document.
use Rattle.std.specs.Prelude.{ℕ, ◌≤◌, IsTrue, IsCharBoundary, List, slice_range, string_bytes, map, take, drop}
use Rattle.keep_types.specs.declared.leaf.Profile.TheVariants.{Wide}
use Rattle.keep_token.specs.Leaves.{IsLeaf, is_key_leaf}
use Rattle.keep_types.specs.declared.syntax.KeyPart.{KeyPart}
use Rattle.keep_types.specs.declared.syntax.Span.{Span}
use Rattle.keep_meaning.specs.declared.key_text.KeyText.{KeyText}
use Rattle.keep_meaning.specs.declared.key_text.KeyText.TheVariants.{Plain, Decoded}
use Rattle.keep_meaning.specs.Meaning.{string_value}

-- what is at a place
abbrev pub text_at : List ℕ → Span → List ℕ
text_at bytes span = slice_range bytes span.start span.end

-- what a key part at a place means
abbrev pub part_text : List ℕ → KeyPart → List ℕ
part_text bytes p = string_value p.leaf (text_at bytes p.span)

-- the decoded texts of its parts
abbrev pub keys_in : List ℕ → List KeyPart → ℕ → ℕ → List (List ℕ)
keys_in bytes parts first count = map (part_text bytes) (take count (drop first parts))

-- a key part is there, between characters
pub record IsKeyAt (bytes : List ℕ) (p : KeyPart) : Type 0 where
  pub start : IsCharBoundary bytes p.span.start
  pub end : IsCharBoundary bytes p.span.end
  pub forward : p.span.start ≤ p.span.end
  pub key : IsTrue (is_key_leaf p.leaf)
  pub spelled : IsLeaf Wide p.leaf (text_at bytes p.span)

-- the bytes of a decoded text
abbrev pub text_of_key : KeyText → List ℕ
text_of_key (Plain text) = text.now
text_of_key (Decoded text) = string_bytes text
