-- The values of a document fit what they are in: items arrays, and what has a key inline tables and bodies.
--
-- Theorems: `keyval_suits`: the values of a keyval in a body; `value_suits`: those in a value alone; `nested_suit`:
-- those of entries that fit.
use Rattle.std.proofs.Common.{◌≡◌, ℕ, suc, ◌+◌, ◌<◌, List, [], ◌∷◌, ◌++◌, length, refl, sym, ◌∙◌, ap, subst, arith}
use Rattle.std.proofs.Common.{Option, Some, None}
use Rattle.keep_types.specs.declared.leaf.Profile.{Profile}
use Rattle.keep_syntax.specs.Tree.{Name, Body, scalar, array, inline, Entries, none, entry, Value}
use Rattle.std.proofs.lemmas.List.{append-nil}
use Rattle.keep_syntax.specs.Grammar.{Place, in_scalar, in_array, in_inline, place_in, IsNamed, AreEntries, IsValue}
use Rattle.keep_syntax.specs.Numbered.{value_count}
use Rattle.keep_meaning.specs.Fact.{Fact}
use Rattle.keep_path.specs.Path.{Part}
use Rattle.keep_meaning.specs.Meaning.{body_fact}
use Rattle.keep_index_store.specs.Trie.{Holding, nothing, by_key, by_index}
use Rattle.keep_rules.specs.NestedValues.{NestedValue, holding_of, entry_nested, nested_values, NestingState}
use Rattle.keep_rules.specs.NestedValues.{holding_of_value, next_nesting, nesting_after, Suits, AllSuit, NameSuits}
use Rattle.keep_rules.specs.NestedValues.{EntriesSuit, body_nesting, value_nesting, keyval_nested}
use Rattle.keep_rules.proofs.NestedValueLemmas.{HasValues, next_values, new_holding, nested_stay, Stays, next_stays}
use Rattle.keep_rules.proofs.NestedValueLemmas.{fact_is, owner_is}

pub all_suit-append : (s : NestingState) (xs ys : List NestedValue) → AllSuit s xs → AllSuit (nesting_after s xs) ys
    → AllSuit s (xs ++ ys)
all_suit-append s [] ys h g = g
all_suit-append s (x ∷ xs) ys h g = (h.0, all_suit-append (next_nesting s x) xs ys h.1 g)

suits_entry : (s : NestingState) (owner : ℕ) (name : Option Name) (f : Fact) (h : Holding)
    → holding_of_value s owner ≡ h → NameSuits h name → owner < length s.paths → Suits s (entry_nested owner name f)
suits_entry s owner None f by_index is suits low = (low, is)
suits_entry s owner (Some name) f by_key is suits low = (low, is)
suits_entry s owner None f by_key is suits low = absurd suits
suits_entry s owner None f nothing is suits low = absurd suits
suits_entry s owner (Some name) f by_index is suits low = absurd suits
suits_entry s owner (Some name) f nothing is suits low = absurd suits

-- entries that fit their value give values that fit theirs
pub nested_suit : (s : NestingState) (owner v : ℕ) (es : Entries) → HasValues s v → owner < v
    → EntriesSuit (holding_of_value s owner) es → AllSuit s (nested_values owner v es)
nested_suit s owner v none has low suits = tt
nested_suit s owner v (entry name body nested after comma rest) has low suits =
    let f : Fact = body_fact body in
    let t : NestedValue = entry_nested owner name f in
    let a : NestingState = next_nesting s t in
    let ins : List NestedValue = nested_values v (suc v) nested in
    let b : NestingState = nesting_after a ins in
    let has' = next_values s t v has in
    let first : Stays s a owner v 1 =
    subst (λ (o : ℕ). Stays s a o v 1) (owner_is owner name f) (next_stays s t v has) in
    let second = nested_stay a v (suc v) nested has' (omega arith) in
    let own : holding_of_value a v ≡ holding_of f = new_holding s t v has ∙ ap holding_of (fact_is owner name f) in
    let same : holding_of_value b owner ≡ holding_of_value s owner =
    second.holdings owner (omega arith) ∙ first.holdings owner low in (
      suits_entry s owner name f (holding_of_value s owner) refl suits.0 (omega (arith, has.paths)),
      all_suit-append a ins (nested_values owner (suc v + value_count nested) rest)
          (nested_suit a v (suc v) nested has' (omega arith)
          (subst (λ (h : Holding). EntriesSuit h nested) (sym own) suits.1))
          (nested_suit b owner (suc v + value_count nested) rest second.has (omega arith)
          (subst (λ (h : Holding). EntriesSuit h rest) (sym same) suits.2)),
    )

-- ---- by the grammar

-- the entries of a value of this form
abbrev PlaceHolds : Place → Holding → Type 0
PlaceHolds in_scalar h = Unit {0}
PlaceHolds in_array h = h ≡ by_index
PlaceHolds in_inline h = h ≡ by_key

name_suits : (profile : Profile) (place : Place) (h : Holding) (name : Option Name) → PlaceHolds place h
    → IsNamed profile place name → NameSuits h name
name_suits profile in_scalar h None fits is = absurd is
name_suits profile in_scalar h (Some name) fits is = absurd is
name_suits profile in_array h None fits is = subst (λ (x : Holding). NameSuits x None) (sym fits) tt
name_suits profile in_array h (Some name) fits is = absurd is
name_suits profile in_inline h None fits is = absurd is
name_suits profile in_inline h (Some name) fits is = subst (λ (x : Holding). NameSuits x (Some name)) (sym fits) tt

body_holds : (body : Body) → PlaceHolds (place_in body) (holding_of (body_fact body))
body_holds (scalar w) = tt
body_holds (array first) = refl
body_holds (inline first) = refl

pub entries_suit : (profile : Profile) (place : Place) (h : Holding) (es : Entries) → PlaceHolds place h
    → AreEntries profile place es → EntriesSuit h es
entries_suit profile place h none fits are = tt
entries_suit profile place h (entry name body nested after comma rest) fits are = (
  name_suits profile place h name fits are.0,
  entries_suit profile (place_in body) (holding_of (body_fact body)) nested (body_holds body) are.2,
  entries_suit profile place h rest fits are.5,
)

-- a keyval in a body
pub keyval_suits : (profile : Profile) (path : List Part) (name : Name) (v : Value) → IsValue profile v
    → AllSuit (body_nesting path) (keyval_nested name v)
keyval_suits profile path name v is =
    let e : Entries = entry (Some name) v.body v.nested [] None none in
    subst (λ (ts : List NestedValue). AllSuit (body_nesting path) (entry_nested 0 (Some name) (body_fact v.body) ∷ ts))
    (append-nil (nested_values 1 2 v.nested))
    (nested_suit (body_nesting path) 0 1 e record { paths = refl; holdings = refl; entries = refl } (omega arith) (
      tt,
      entries_suit profile (place_in v.body) (holding_of (body_fact v.body)) v.nested (body_holds v.body) is.nested,
      tt,
    ))

-- the values in a value alone
pub value_suits : (profile : Profile) (v : Value) → IsValue profile v
    → AllSuit (value_nesting (body_fact v.body)) (nested_values 0 1 v.nested)
value_suits profile v is =
    nested_suit (value_nesting (body_fact v.body)) 0 1 v.nested record { paths = refl; holdings = refl; entries = refl }
    (omega arith)
    (entries_suit profile (place_in v.body) (holding_of (body_fact v.body)) v.nested (body_holds v.body) is.nested)
