-- Which bytes go with an entry of an array or an inline table, by the places of the entries.
use Rattle.std.specs.Prelude.{◌≡◌, ◌⊎◌, ℕ, zero, suc, ◌+◌, ◌-◌, false, List, [], ◌∷◌, ◌++◌, ◌==◌, Bool, drop, take}
use Rattle.std.specs.Prelude.{length, slice_index}
use Rattle.std.specs.List.{list_any, prefix_len}
use Rattle.keep_types.specs.declared.syntax.Span.{Span}
use Rattle.keep_token.specs.Abnf.{is_ws}
use Rattle.keep_edit_spec.specs.Removal.{is_hash}
use Rattle.keep_edit_plan.specs.OpenPlaces.{extent}
use Rattle.keep_edit_plan.specs.declared.open_value.EntryPlace.{EntryPlace}

abbrev pub is_comma : ℕ → Bool
is_comma byte = byte == 0x2C

-- A comma comes first; that and the white space after it are n bytes.
abbrev pub IsCommaRun : ℕ → List ℕ → Type 0
IsCommaRun n bytes = (slice_index bytes 0 ≡ 0x2C) × (n ≡ suc (prefix_len is_ws (drop 1 bytes)))

abbrev pub HasNoComma : List ℕ → Type 0
HasNoComma bytes = list_any is_comma bytes ≡ false

-- A comma comes first, no comment is in so many bytes, and none of the bytes after so many more is a comma.
abbrev pub IsLastGap : ℕ → ℕ → List ℕ → Type 0
IsLastGap gap len bytes =
    (slice_index bytes 0 ≡ 0x2C)
    × ((list_any is_hash (take gap bytes) ≡ false) × HasNoComma (drop (gap + len) bytes))

-- The places after one that ends so many bytes on, where so many bytes before the first of them go.
abbrev pub joined : ℕ → ℕ → List EntryPlace → List EntryPlace
joined bytes gone [] = []
joined bytes gone (q ∷ qs) = record { gap = bytes + q.gap - gone; len = q.len } ∷ qs

-- the places without that of entry n, with which so many bytes go
abbrev pub without_place : ℕ → ℕ → List EntryPlace → List EntryPlace
without_place n gone [] = []
without_place zero gone (p ∷ ps) = joined (p.gap + p.len) gone ps
without_place (suc n) gone (p ∷ ps) = p ∷ without_place n gone ps

-- An entry goes with the comma that comes directly after it, and the white space after that.
pub record IsCutWithComma (bytes : List ℕ) (places : List EntryPlace) (n : ℕ) (cut : Span) (left : List EntryPlace)
    : Type 0 where
  pub before : List EntryPlace
  pub here : EntryPlace
  pub rest : List EntryPlace
  pub run : ℕ
  pub are : places ≡ before ++ (here ∷ rest)
  pub count : length before ≡ n
  pub is_run : IsCommaRun run (drop (suc (extent before + (here.gap + here.len))) bytes)
  pub start : cut.start ≡ suc (extent before + here.gap)
  pub end : cut.end ≡ cut.start + (here.len + run)
  pub are_left : left ≡ before ++ joined (here.gap + here.len) (here.len + run) rest

-- The last entry, after which no comma comes, goes with the comma that comes directly after the one before it, and
-- with the gap between, in which no comment is.
pub record IsCutAtEnd (bytes : List ℕ) (places : List EntryPlace) (n : ℕ) (cut : Span) (left : List EntryPlace)
    : Type 0 where
  pub before : List EntryPlace
  pub last : EntryPlace
  pub here : EntryPlace
  pub are : places ≡ before ++ (last ∷ here ∷ [])
  pub count : suc (length before) ≡ n
  pub gap : IsLastGap here.gap here.len (drop (suc (extent before + (last.gap + last.len))) bytes)
  pub start : cut.start ≡ suc (extent before + (last.gap + last.len))
  pub end : cut.end ≡ cut.start + (here.gap + here.len)
  pub are_left : left ≡ before ++ (last ∷ [])

-- The only entry, after which no comma comes, goes alone.
pub record IsCutAlone (bytes : List ℕ) (places : List EntryPlace) (n : ℕ) (cut : Span) (left : List EntryPlace)
    : Type 0 where
  pub here : EntryPlace
  pub are : places ≡ here ∷ []
  pub count : n ≡ 0
  pub alone : HasNoComma (drop (suc (here.gap + here.len)) bytes)
  pub start : cut.start ≡ suc here.gap
  pub end : cut.end ≡ cut.start + here.len
  pub are_left : left ≡ []

-- what goes with the last entry
abbrev pub IsLastCut : List ℕ → List EntryPlace → ℕ → Span → List EntryPlace → Type 0
IsLastCut bytes places n cut left = IsCutAtEnd bytes places n cut left ⊎ IsCutAlone bytes places n cut left

-- what goes with entry n, and the places of the entries that are left
abbrev pub IsCutOf : List ℕ → List EntryPlace → ℕ → Span → List EntryPlace → Type 0
IsCutOf bytes places n cut left = IsCutWithComma bytes places n cut left ⊎ IsLastCut bytes places n cut left

-- the places that are left where that is cut out with entry n
abbrev pub places_left : ℕ → Span → List EntryPlace → List EntryPlace
places_left n cut places = without_place n (cut.end - cut.start) places
