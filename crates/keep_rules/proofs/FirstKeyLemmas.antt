-- The key parts of the values of entries follow one another.
--
-- Theorems: `first_keys`: they do so, from a number of key parts on; `nested_count`: how many values the entries have;
-- `match_nested`: in the list of all values, those from a number on are these values.
use Rattle.std.proofs.Common.{◌≡◌, ℕ, suc, ◌+◌, ◌<◌, List, [], ◌∷◌, ◌++◌, length, take, drop, slice_get, refl, sym, ◌∙◌}
use Rattle.std.proofs.Common.{ap, subst, arith, length-append, Option, Some, None}
use Rattle.std.specs.List.{AllZip}
use Rattle.std.proofs.lemmas.List.{length-map, get_or-take, get_or-drop, length-take, length-drop}
use Rattle.std.proofs.lemmas.Option.{slice_get_within, slice_get-get_or, get_or_from_slice_get}
use Rattle.keep_types.specs.declared.syntax.Start.{Start}
use Rattle.keep_types.specs.declared.syntax.ValueInfo.{ValueInfo}
use Rattle.keep_syntax_store.specs.Flat.{Flat}
use Rattle.keep_syntax.specs.Tree.{Name, Entries, none, entry}
use Rattle.keep_syntax.specs.Numbered.{name_count, value_count, part_count, value_start, nested_of, rest_of}
use Rattle.keep_syntax.specs.Numbered.{entries_values}
use Rattle.keep_meaning.specs.Fact.{Fact}
use Rattle.keep_meaning.specs.Meaning.{body_fact, further_value}
use Rattle.keep_rules.specs.NestedValues.{NestedValue, entry_nested, nested_values}
use Rattle.keep_rules.specs.FlatValues.{MatchesNested}
use Rattle.keep_rules.specs.FirstKeys.{FirstKeys}
use Rattle.keep_rules.specs.Plans.{EndsAt, MatchNested}
use Rattle.keep_rules.specs.NestedReads.{nested_keys, all_nested_keys, HasKeys}
use Rattle.keep_meaning.proofs.Shared.{length-entries_values}

entry_keys : (o : ℕ) (name : Option Name) (f : Fact) → nested_keys (entry_nested o name f) ≡ name_count name
entry_keys o None f = refl
entry_keys o (Some name) f = ap suc (length-map name.key.more further_value)

has_keys : (o : ℕ) (name : Option Name) (f : Fact) → HasKeys (entry_nested o name f)
has_keys o None f = tt
has_keys o (Some name) f = omega arith

all_nested_keys-append : (xs ys : List NestedValue)
    → all_nested_keys (xs ++ ys) ≡ all_nested_keys xs + all_nested_keys ys
all_nested_keys-append [] ys = omega arith
all_nested_keys-append (x ∷ xs) ys = omega (arith, all_nested_keys-append xs ys)

nested_keys_are : (o v : ℕ) (es : Entries) → all_nested_keys (nested_values o v es) ≡ part_count es
nested_keys_are o v none = refl
nested_keys_are o v (entry name body nested after comma rest) =
    omega (
      arith,
      entry_keys o name (body_fact body),
      all_nested_keys-append (nested_values v (suc v) nested) (nested_values o (suc v + value_count nested) rest),
      nested_keys_are v (suc v) nested,
      nested_keys_are o (suc v + value_count nested) rest,
    )

pub nested_count : (o v : ℕ) (es : Entries) → length (nested_values o v es) ≡ value_count es
nested_count o v none = refl
nested_count o v (entry name body nested after comma rest) =
    omega (
      arith,
      length-append (nested_values v (suc v) nested) (nested_values o (suc v + value_count nested) rest),
      nested_count v (suc v) nested,
      nested_count o (suc v + value_count nested) rest,
    )

first_keys-append : (first : ℕ) (xs ys : List NestedValue) (is js : List ValueInfo) → length xs ≡ length is
    → FirstKeys first xs is → FirstKeys (first + all_nested_keys xs) ys js → FirstKeys first (xs ++ ys) (is ++ js)
first_keys-append first [] ys [] js same h g =
    subst (λ (n : ℕ). FirstKeys n ys js) (let e : first + 0 ≡ first = omega arith in e) g
first_keys-append first [] ys (i ∷ is) js same h g = absurd (omega (arith, same))
first_keys-append first (x ∷ xs) ys [] js same h g = absurd (omega (arith, same))
first_keys-append first (x ∷ xs) ys (i ∷ is) js same h g = (
  h.0,
  h.1,
  first_keys-append (first + nested_keys x) xs ys is js (omega (arith, same)) h.2
      (subst (λ (n : ℕ). FirstKeys n ys js)
      (let e : first + (nested_keys x + all_nested_keys xs) ≡ (first + nested_keys x) + all_nested_keys xs =
      omega arith in e) g),
)

-- the values of entries that begin after so many key parts
pub first_keys : (o v : ℕ) (p : Start) (es : Entries) → FirstKeys p.parts (nested_values o v es) (entries_values p es)
first_keys o v p none = tt
first_keys o v p (entry name body nested after comma rest) =
    let i : Start = nested_of p (value_start p.at name) (name_count name) body in
    let r : Start = rest_of p name body nested after comma in
    let t : NestedValue = entry_nested o name (body_fact body) in
    let inner : List NestedValue = nested_values v (suc v) nested in
    let outer : List NestedValue = nested_values o (suc v + value_count nested) rest in
    let keys : nested_keys t ≡ name_count name = entry_keys o name (body_fact body) in
    let one : FirstKeys (p.parts + nested_keys t) inner (entries_values i nested) =
    subst (λ (n : ℕ). FirstKeys (p.parts + n) inner (entries_values i nested)) (sym keys)
    (first_keys v (suc v) i nested) in
    let two : FirstKeys ((p.parts + nested_keys t) + all_nested_keys inner) outer (entries_values r rest) =
    subst (λ (n : ℕ). FirstKeys n outer (entries_values r rest))
    (let e : p.parts + (name_count name + part_count nested) ≡ (p.parts + nested_keys t) + all_nested_keys inner =
    omega (arith, keys, nested_keys_are v (suc v) nested) in e)
    (first_keys o (suc v + value_count nested) r rest) in (
      refl,
      has_keys o name (body_fact body),
      first_keys-append (p.parts + nested_keys t) inner outer (entries_values i nested) (entries_values r rest)
          (nested_count v (suc v) nested ∙ sym (length-entries_values i nested)) one two,
    )

-- ---- in the list of all values

-- they are in it from a number on
abbrev pub AreFrom : List ValueInfo → ℕ → List ValueInfo → Type 0
AreFrom values from infos =
    (i : ℕ) (info : ValueInfo) → slice_get infos i ≡ Some info → slice_get values (from + i) ≡ Some info

pub match_nested : (bytes : List ℕ) (f : Flat) (base from first : ℕ) (ts : List NestedValue) (infos : List ValueInfo)
    → AllZip (MatchesNested bytes f.keys base) ts infos → FirstKeys first ts infos → AreFrom f.values from infos
    → EndsAt f.values (from + length ts) → MatchNested bytes f base from first ts
match_nested bytes f base from first [] infos matches keys nodes_so_far ends =
    subst (EndsAt f.values) (let e : from + 0 ≡ from = omega arith in e) ends
match_nested bytes f base from first (t ∷ ts) [] matches keys nodes_so_far ends = absurd matches
match_nested bytes f base from first (t ∷ ts) (info ∷ infos) matches keys nodes_so_far ends = (
  info,
  subst (λ (n : ℕ). slice_get f.values n ≡ Some info) (let e : from + 0 ≡ from = omega arith in e)
      (nodes_so_far 0 info refl),
  matches.0,
  keys.1,
  keys.0,
  match_nested bytes f base (from + 1) (first + nested_keys t) ts infos matches.1 keys.2
      (λ i other at.
      subst (λ (n : ℕ). slice_get f.values n ≡ Some other) (let e : from + suc i ≡ (from + 1) + i = omega arith in e)
      (nodes_so_far (suc i) other at))
      (subst (EndsAt f.values) (let e : from + suc (length ts) ≡ (from + 1) + length ts = omega arith in e) ends),
)

-- a part of it
pub taken_from : (values : List ValueInfo) (from n : ℕ) → AreFrom values from (take n (drop from values))
taken_from values from n i info at =
    let low : i < length (take n (drop from values)) = slice_get_within (take n (drop from values)) i info at in
    let nested : from + i < length values =
    omega (arith, low, length-take n (drop from values), length-drop from values) in
    slice_get-get_or values (from + i) info nested
    ∙ ap (λ (x : ValueInfo). Some x)
    (sym (get_or-drop from values i info)
    ∙ sym (get_or-take n (drop from values) i info (omega (arith, low, length-take n (drop from values))))
    ∙ get_or_from_slice_get (take n (drop from values)) i info info at)
