-- What `insert` writes, piece by piece.
use Rattle.std.specs.Prelude.{◌≡◌, ℕ, Bool, true, if◌then◌else◌, List, [], ◌∷◌, ◌++◌, take, drop}
use Rattle.keep_token.specs.Encoded.{encoded_key}
use Rattle.keep_path.specs.Path.{Part, key, index}
use Rattle.keep_edit_spec.specs.Look.{keys_in}

-- a key, after a dot if it is a further one
abbrev pub key_text : Bool → List ℕ → List ℕ
key_text dot k = (if dot then 0x2E ∷ [] else []) ++ encoded_key k

-- keys with dots between them, and one before the first, if that is so
abbrev pub keys_text : Bool → List (List ℕ) → List ℕ
keys_text dot [] = []
keys_text dot (k ∷ ks) = key_text dot k ++ keys_text true ks

-- A step is written if it is a key, and then the next key is a further one.
abbrev pub AddsStep : Bool → Bool → Part → List ℕ → List ℕ → Type 0
AddsStep dot further (key k) old new = (further ≡ true) × (new ≡ old ++ key_text dot k)
AddsStep dot further (index n) old new = (further ≡ dot) × (new ≡ old)

-- the keys among the steps of a path from one number on and before another
abbrev pub keys_between : ℕ → ℕ → List Part → List (List ℕ)
keys_between from to path = keys_in (drop from (take to path))
