-- A key of a document: a number of its key parts from one on.
use Rattle.std.specs.Prelude.{◌≡◌, ℕ, ◌+◌, ◌-◌, ◌<◌, ◌≤◌, List, length, take, Some, slice_get, slice_index_or, []}
use Rattle.keep_types.specs.declared.syntax.KeyPart.{KeyPart}
use Rattle.keep_meaning.specs.KeyText.{IsKeyAt, keys_in}

-- each key part can be read in the text
abbrev pub AreReadable : List ℕ → List KeyPart → Type 0
AreReadable bytes parts = (n : ℕ) (p : KeyPart) → slice_get parts n ≡ Some p → IsKeyAt bytes p

-- the document has such a key
pub record AreKeysAt (bytes : List ℕ) (parts : List KeyPart) (first count : ℕ) : Type 0 where
  pub some : 0 < count
  pub within : first + count ≤ length parts
  pub each : AreReadable bytes parts

-- the decoded texts of its parts, and the number of the first
pub record Key : Type 0 where
  pub texts : List (List ℕ)
  pub first : ℕ

abbrev pub key_of : List ℕ → List KeyPart → ℕ → ℕ → Key
key_of bytes parts first count = record { texts = keys_in bytes parts first count; first = first }

abbrev pub key_text_at : Key → ℕ → List ℕ
key_text_at k number = slice_index_or k.texts number []

-- all parts but the last
abbrev pub leading_texts : Key → List (List ℕ)
leading_texts k = take (length k.texts - 1) k.texts

abbrev pub last_text : Key → List ℕ
last_text k = key_text_at k (length k.texts - 1)
