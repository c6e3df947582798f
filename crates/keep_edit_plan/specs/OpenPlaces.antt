-- Where the entries of an array or an inline table are, and where one more comes in.
use Rattle.std.specs.Prelude.{ℕ, suc, ◌+◌, ◌-◌, ◌≤◌, ◌==◌, if◌then◌else◌, List, [], ◌∷◌, ◌++◌, take, drop, slice_get}
use Rattle.std.specs.Prelude.{Option, Some, None, codes}
use Rattle.std.specs.Prelude.{⊤}
use Rattle.keep_types.specs.declared.leaf.Leaf.{Leaf}
use Rattle.keep_types.specs.declared.leaf.Leaf.TheVariants as leaf
use Rattle.keep_types.specs.declared.leaf.Profile.TheVariants.{Strict}
use Rattle.keep_types.specs.declared.syntax.ValueInfo.{ValueInfo}
use Rattle.keep_syntax.specs.Tree.{Value, value_depth}
use Rattle.keep_meaning.specs.ReadText.{IsValueText}
use Rattle.keep_edit_plan.specs.Reading.{limit}
use Rattle.keep_edit_plan.specs.declared.open_value.EntryPlace.{EntryPlace}

abbrev pub place : ℕ → ℕ → EntryPlace
place gap len = record { gap = gap; len = len }

-- how many bytes entries take, each with the gap before it
abbrev pub extent : List EntryPlace → ℕ
extent [] = 0
extent (p ∷ ps) = p.gap + p.len + extent ps

-- ---- of what was read

-- the bracket of an array or an inline table
abbrev pub IsBracket : Leaf → Type 0
IsBracket leaf.ArrayOpen = ⊤
IsBracket leaf.InlineOpen = ⊤
IsBracket _ = ⊥

-- The places of the values directly inside a value, of which the first ones, up to this byte, are left out.
abbrev pub places_of : ℕ → List ValueInfo → List EntryPlace
places_of end [] = []
places_of end (v ∷ vs) =
    if v.depth == 1 then place (v.whole.start - end) (v.span.end - v.whole.start) ∷ places_of v.span.end vs
    else places_of end vs

-- ---- one more

-- the text of a value of TOML v1.0.0 that may be inside another
abbrev pub CanBeNested : List ℕ → Type 0
CanBeNested bytes = (v : Value) × IsValueText Strict limit bytes v × (suc (value_depth v) ≤ limit)

-- what is before an entry, if it is there
abbrev pub gap_before : Option EntryPlace → ℕ
gap_before None = 0
gap_before (Some p) = p.gap

-- Where an entry comes in that gets this number, from the opening bracket on: where the one with the number begins, or
-- where the last one ends.
abbrev pub place_of_new : ℕ → List EntryPlace → ℕ
place_of_new n places = extent (take n places) + gap_before (slice_get places n)

-- The places with one more, of that length, which gets this number: before the one that has the number, if one has it.
abbrev pub with_place : ℕ → ℕ → List EntryPlace → Option EntryPlace → List EntryPlace
with_place n len places (Some p) = take n places ++ (place p.gap len ∷ place 2 p.len ∷ drop (suc n) places)
with_place n len [] None = place 0 len ∷ []
with_place n len (p ∷ ps) None = (p ∷ ps) ++ (place 2 len ∷ [])

-- what is written for an item: it is before another, alone, or after the last
abbrev pub item_text : List ℕ → List EntryPlace → Option EntryPlace → List ℕ
item_text item places (Some p) = item ++ codes ", "
item_text item [] None = item
item_text item (p ∷ ps) None = codes ", " ++ item
