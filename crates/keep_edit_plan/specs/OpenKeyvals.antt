-- A keyval that comes into an inline table whose entries are known by their places.
use Rattle.std.specs.Prelude.{◌≡◌, ⊤, ℕ, zero, suc, ◌+◌, List, [], ◌∷◌, ◌++◌, codes, drop, false, slice_index, take}
use Rattle.std.specs.Prelude.{true}
use Rattle.std.specs.Prelude.{Some}
use Rattle.std.specs.List.{prefix_len}
use Rattle.std.specs.Str.{bytes_eq}
use Rattle.keep_types.specs.declared.leaf.Leaf.{Leaf}
use Rattle.keep_types.specs.declared.leaf.Profile.TheVariants.{Wide}
use Rattle.keep_token.specs.Abnf.{is_ws}
use Rattle.keep_token.specs.Encoded.{encoded_key}
use Rattle.keep_token.specs.Scanning.{key_at}
use Rattle.keep_meaning.specs.Meaning.{string_value}
use Rattle.keep_edit_plan.specs.declared.open_value.EntryPlace.{EntryPlace}

-- KEY = VALUE
abbrev pub keyval_text : List ℕ → List ℕ → List ℕ
keyval_text name value = encoded_key name ++ (codes " = " ++ value)

-- What the key part means that comes first in these bytes has this property.
abbrev pub KeyIs : (List ℕ → Type 0) → List ℕ → Type 0
KeyIs P bytes = (l : Leaf) (n : ℕ) → key_at Wide bytes ≡ Some (l, n) → P (string_value l (take n bytes))

-- So it is where each entry begins, of which the first has its gap from this byte on.
abbrev pub KeysAre : (List ℕ → Type 0) → List ℕ → ℕ → List EntryPlace → Type 0
KeysAre P bytes end [] = ⊤
KeysAre P bytes end (p ∷ ps) = KeyIs P (drop (end + p.gap) bytes) × KeysAre P bytes (end + p.gap + p.len) ps

abbrev pub IsOther : List ℕ → List ℕ → Type 0
IsOther name key = bytes_eq key name ≡ false

-- A key part that comes first in these bytes means something else.
abbrev pub IsOtherKey : List ℕ → List ℕ → Type 0
IsOtherKey name bytes = KeyIs (IsOther name) bytes

-- So it is where each entry begins.
abbrev pub AreOtherKeys : List ℕ → List ℕ → ℕ → List EntryPlace → Type 0
AreOtherKeys name bytes end places = KeysAre (IsOther name) bytes end places

-- A key part comes first that means this, and after it and white space `=`.
pub record IsOwnKey (name bytes : List ℕ) : Type 0 where
  pub leaf : Leaf
  pub len : ℕ
  pub part : key_at Wide bytes ≡ Some (leaf, len)
  pub means : bytes_eq (string_value leaf (take len bytes)) name ≡ true
  pub equals : slice_index (drop len bytes) (prefix_len is_ws (drop len bytes)) ≡ 0x3D

-- The key part where entry n begins is this, and no other is before it. The first gap is from this byte on.
abbrev pub IsKeyedAt : List ℕ → List ℕ → ℕ → ℕ → List EntryPlace → Type 0
IsKeyedAt name bytes end n [] = ⊥
IsKeyedAt name bytes end zero (p ∷ ps) = IsOwnKey name (drop (end + p.gap) bytes)
IsKeyedAt name bytes end (suc n) (p ∷ ps) =
    IsOtherKey name (drop (end + p.gap) bytes) × IsKeyedAt name bytes (end + p.gap + p.len) n ps
