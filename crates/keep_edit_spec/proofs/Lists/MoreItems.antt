-- What a document says after an item was inserted as the last of an array.
--
-- The item's number is the count, so the insert is not refused: the prefixes of an item's path, and so how deep it is,
-- are the same for each number (`prefixes_alike`). The law of inserts tells where each fact of the new document comes
-- from: that of the array and of its prefixes from where it was (`put_prefix`), so the array stays, and other items are
-- as deep. The item after the last is the given one, and the one after that is none: so there is one item more.
--
-- Theorems: `unrefused`: an insert of an item; `item_allowed`, `array_stays`, `one_more_item`, `others_stay`;
-- `prefixes_alike`; `keys_same`: the index of an item's path is no key.
use Rattle.std.proofs.Common.{◌≡◌, ℕ, suc, ◌+◌, ◌-◌, ◌<◌, ◌≤◌, ◌==◌, Bool, true, false, cond, nat_lt, List, []}
use Rattle.std.proofs.Common.{◌∷◌, ◌++◌, map, refl, sym, ap, subst, ◌∙◌, arith, Option, Some, None, IsUtf8, inl, inr}
use Rattle.std.specs.Prelude.{◌⊎◌}
use Rattle.std.specs.List.{AllByRecursion, count_by}
use Rattle.std.proofs.lemmas.Bool.{cases_lt, eq-eqb, eqb-true, false_from_ne_true, le-ltb}
use Rattle.std.proofs.lemmas.List.{append-nil}
use Rattle.std.proofs.lemmas.List.Elements.{filter_map-append}
use Rattle.keep_types.specs.declared.leaf.Profile.{Profile}
use Rattle.keep_syntax.specs.Tree.{Value, Document, value_depth}
use Rattle.keep_path.specs.Path.{Part, index, strip}
use Rattle.keep_meaning.specs.Fact as fact
use Rattle.keep_meaning.specs.Fact.{Fact, is_bracket, is_value_fact}
use Rattle.keep_meaning.specs.Marks.{Mention}
use Rattle.keep_meaning.specs.Meaning.{mentions_in, mentions_of_value}
use Rattle.keep_meaning.specs.Nodes.{fact_at}
use Rattle.keep_edit_spec.specs.declared.fault.EditFault.{EditFault}
use Rattle.keep_edit_spec.specs.declared.fault.EditFault.TheVariants as fault
use Rattle.keep_edit_spec.specs.Edits.{edited_document, insert}
use Rattle.keep_edit_spec.specs.Laws.{IsEditable, IsLawfulEdit}
use Rattle.keep_edit_spec.specs.Look.{enclosing, is_array_at, is_bracket_at, item_count, item_number, key_text, keys_in}
use Rattle.keep_edit_spec.specs.Look.{prefixes, without_last}
use Rattle.keep_edit_spec.specs.Refusals.{first_that_holds, has_value, is_foreign, is_too_deep, refusal, refusal_by}
use Rattle.keep_edit_spec.specs.Trees.{Source, fact_from, from, given, put_in, source}
use Rattle.keep_edit_spec.proofs.EditLaws.{insert_lawful}
use Rattle.keep_edit_spec.proofs.Common.Cuts.{last_part-snoc, without_last-snoc}
use Rattle.keep_edit_spec.proofs.Common.DoneAtValue.{count_map, count_step, value_fact-body}
use Rattle.keep_edit_spec.proofs.Common.Runs.{same_part-refl, strip-append}
use Rattle.keep_edit_spec.proofs.Insert.ItemNumbers.{AreNumbered, items_numbered}
use Rattle.keep_edit_spec.proofs.Insert.ItemThere.{item_at}
use Rattle.keep_edit_spec.specs.AddedItems.{CanBeItem, HasItems, item_path}

-- ---- the prefixes of a path but for its last part

pub prefixes_alike : (t u : List Part → Bool) (a : List Part) (x y : Part)
    → ((q rest : List Part) → a ≡ q ++ rest → t q ≡ u q)
    → count_by t (prefixes (a ++ x ∷ [])) ≡ count_by u (prefixes (a ++ y ∷ []))
prefixes_alike t u [] x y h =
    let here : cond {A = ℕ} (t []) 1 0 ≡ cond (u []) 1 0 = ap (λ b. cond {A = ℕ} b 1 0) (h [] [] refl) in
    omega (arith, here, count_step t [] [], count_step u [] [])
prefixes_alike t u (p ∷ a) x y h =
    let here : cond {A = ℕ} (t []) 1 0 ≡ cond (u []) 1 0 = ap (λ b. cond {A = ℕ} b 1 0) (h [] (p ∷ a) refl) in
    omega (
      arith,
      here,
      count_step t [] (map (λ q. p ∷ q) (prefixes (a ++ x ∷ []))),
      count_step u [] (map (λ q. p ∷ q) (prefixes (a ++ y ∷ []))),
      count_map t (λ q. p ∷ q) (prefixes (a ++ x ∷ [])),
      count_map u (λ q. p ∷ q) (prefixes (a ++ y ∷ [])),
      prefixes_alike (λ q. t (p ∷ q)) (λ q. u (p ∷ q)) a x y
          (λ q rest e. h (p ∷ q) rest (ap (λ (l : List Part). p ∷ l) e)),
    )

-- ---- where the facts come from, when an item is put in

strip_short : (q rest : List Part) → (strip (q ++ rest) q ≡ None) ⊎ (strip (q ++ rest) q ≡ Some [])
strip_short [] [] = inr refl
strip_short [] (r ∷ rest) = inl refl
strip_short (p ∷ q) rest = rw (same_part-refl p, strip) (strip_short q rest)

put_prefix : (a : List Part) (n : ℕ) (q rest : List Part) → a ≡ q ++ rest → put_in a n q ≡ from q
put_prefix a n q rest is = subst (λ (x : List Part). put_in x n q ≡ from q) (sym is) (by (strip_short q rest))
  where
    by : (strip (q ++ rest) q ≡ None) ⊎ (strip (q ++ rest) q ≡ Some []) → put_in (q ++ rest) n q ≡ from q
    by (inl e) = rw (e, put_in) refl
    by (inr e) = rw (e, put_in) refl

put_given : (a : List Part) (n : ℕ) → put_in a n (item_path a n) ≡ given []
put_given a n = rw (strip-append a (index n ∷ []), le-ltb n n (omega arith), eq-eqb n n refl, put_in) refl

put_next : (a : List Part) (n : ℕ) → put_in a n (item_path a (suc n)) ≡ from (item_path a n)
put_next a n = rw (strip-append a (index (suc n) ∷ []), le-ltb (suc n) n (omega arith), other, put_in) same
  where
    other : (suc n == n) ≡ false
    other = false_from_ne_true (suc n == n) (λ e. let k : suc n ≡ n = eqb-true (suc n) n e in absurd (omega (arith, k)))

    same : from (a ++ index (suc n - 1) ∷ []) ≡ from (item_path a n)
    same = ap (λ (k : ℕ). from (a ++ index k ∷ [])) (omega arith)

-- ---- an item's number

number_at : (a : List Part) (k : ℕ) (ms : List Mention) → is_array_at a ms ≡ true
    → item_number (item_path a k) ms ≡ Some k
number_at a k ms h = rw (last_part-snoc a (index k), without_last-snoc a (index k), h, item_number) refl

array_fact : (a : List Part) (ms : List Mention) → is_array_at a ms ≡ true → fact_at a ms ≡ Some fact.array
array_fact a ms h =
    subst (λ (p : List Part). fact_at p ms ≡ Some fact.array) (without_last-snoc a (index 0))
    (item_at (item_path a 0) 0 ms (number_at a 0 ms h)).is_array

pub keys_same : (a : List Part) (k : ℕ) → keys_in (item_path a k) ≡ keys_in a
keys_same a k = filter_map-append key_text a (index k ∷ []) ∙ append-nil (keys_in a)

-- what is asked of a fact
abbrev bracket_of : Option Fact → Bool
bracket_of None = false
bracket_of (Some f) = is_bracket f

abbrev value_of : Option Fact → Bool
value_of None = false
value_of (Some f) = is_value_fact f

-- ---- what is not refused

abbrev tests : Bool → Bool → Bool → Option EditFault
tests few deep foreign =
    first_that_holds ((few, fault.NotFound) ∷ (deep, fault.TooDeep) ∷ (foreign, fault.Profile) ∷ [])

all_pass : (few deep foreign : Bool) → few ≡ false → deep ≡ false → foreign ≡ false → tests few deep foreign ≡ None
all_pass few deep foreign e g h = rw (e, g, h) refl

pub unrefused : (profile : Profile) (limit : ℕ) (a : List Part) (n : ℕ) (new : Value) (ms : List Mention)
    → is_array_at a ms ≡ true → n ≤ item_count a ms → is_too_deep limit (item_path a n) new ms ≡ false
    → is_foreign profile new ≡ false → refusal_by profile limit ms (insert (item_path a n) new) ≡ None
unrefused profile limit a n new ms array_is enough shallow own =
    by ∙ all_pass (nat_lt (item_count (without_last (item_path a n)) ms) n) (is_too_deep limit (item_path a n) new ms)
    (is_foreign profile new) few shallow own
  where
    by : refusal_by profile limit ms (insert (item_path a n) new)
        ≡ tests (nat_lt (item_count (without_last (item_path a n)) ms) n) (is_too_deep limit (item_path a n) new ms)
        (is_foreign profile new)
    by = rw (number_at a n ms array_is, refusal_by) refl

    few : nat_lt (item_count (without_last (item_path a n)) ms) n ≡ false
    few =
        le-ltb (item_count (without_last (item_path a n)) ms) n
        (omega (arith, ap (λ (b : List Part). item_count b ms) (without_last-snoc a (index n)), enough))

-- ---- one item more

module _ (profile : Profile) (limit : ℕ) (s : Document) (array : List Part) (n at : ℕ) (value : Value) where
  abbrev ms : List Mention
  ms = mentions_in s

  abbrev path : List Part
  path = item_path array n

  abbrev edited : Document
  edited = edited_document s (insert path value)

  abbrev now : List Mention
  now = mentions_in edited

  -- ---- the refusal

  item_allowed_of : HasItems profile limit s array n at → CanBeItem profile limit s array value
      → refusal profile limit s (insert path value) ≡ None
  item_allowed_of items can =
      unrefused profile limit array n value ms items.array_is (omega (arith, items.counted)) shallow can.own
    where
      shallow : is_too_deep limit path value ms ≡ false
      shallow =
          ap (λ (k : ℕ). nat_lt limit (k + value_depth value))
          (prefixes_alike (is_bracket_at ms) (is_bracket_at ms) array (index n) (index 0) (λ q rest e. refl))
          ∙ can.shallow

  -- ---- the document after it

  module _ (editable : IsEditable profile limit s) (items : HasItems profile limit s array n at)
      (can : CanBeItem profile limit s array value) where
    law : IsLawfulEdit profile limit s (insert path value)
    law =
        insert_lawful profile limit s path value editable can.given
        (subst (AllByRecursion IsUtf8) (sym (keys_same array n)) items.utf8) (item_allowed_of items can)

    source_is : (q : List Part) → source ms (insert path value) q ≡ put_in array n q
    source_is q =
        by (number_at array n ms items.array_is)
        ∙ ap (λ (a : List Part). put_in a n q) (without_last-snoc array (index n))
      where
        by : item_number path ms ≡ Some n → source ms (insert path value) q ≡ put_in (without_last path) n q
        by e = rw (e, source) refl

    fact_is : (q : List Part) (from_where : Source) → put_in array n q ≡ from_where
        → fact_at q now ≡ fact_from ms (mentions_of_value value) from_where
    fact_is q from_where e = law.tree q ∙ ap (fact_from ms (mentions_of_value value)) (source_is q ∙ e)

    prefix_stays : (q rest : List Part) → array ≡ q ++ rest → fact_at q now ≡ fact_at q ms
    prefix_stays q rest e = fact_is q (from q) (put_prefix array n q rest e)

    array_now : fact_at array now ≡ Some fact.array
    array_now = prefix_stays array [] (sym (append-nil array)) ∙ array_fact array ms items.array_is

    there : AreNumbered array s
    there = items_numbered profile s array editable.valid editable.obeys (array_fact array ms items.array_is)

    there_now : AreNumbered array edited
    there_now = items_numbered profile edited array law.reads.valid law.obeys array_now

    -- the given value comes after all items
    last_is : has_value path now ≡ true
    last_is = ap value_of (fact_is path (given []) (put_given array n)) ∙ value_fact-body value.body

    -- and nothing after it
    none_after : has_value (item_path array (suc n)) now ≡ false
    none_after =
        ap value_of (fact_is (item_path array (suc n)) (from path) (put_next array n))
        ∙ there.from_count n (omega (arith, items.counted))

    more_now : item_count array now ≡ suc n
    more_now = by (cases_lt n (item_count array now)) (cases_lt (suc n) (item_count array now))
      where
        by : (n < item_count array now) ⊎ (item_count array now ≤ n)
            → (suc n < item_count array now) ⊎ (item_count array now ≤ suc n) → item_count array now ≡ suc n
        by (inr low) d = let k : true ≡ false = sym last_is ∙ there_now.from_count n low in absurd cc
        by (inl high) (inl higher) =
            let k : true ≡ false = sym (there_now.below_count (suc n) higher) ∙ none_after in absurd cc
        by (inl high) (inr low) = omega (arith, high, low)

    enclosing_stays : enclosing (item_path array 0) now ≡ enclosing (item_path array 0) ms
    enclosing_stays =
        prefixes_alike (is_bracket_at now) (is_bracket_at ms) array (index 0) (index 0)
        (λ q rest e. ap bracket_of (prefix_stays q rest e))

    array_is_now : is_array_at array now ≡ true
    array_is_now = rw (array_now, is_array_at) refl

    other_stays : (other : Value) → CanBeItem profile limit s array other → CanBeItem profile limit edited array other
    other_stays other h = record {
      given = h.given;
      shallow = ap (λ (k : ℕ). nat_lt limit (k + value_depth other)) enclosing_stays ∙ h.shallow;
      own = h.own;
    }

pub item_allowed : (profile : Profile) (limit : ℕ) (s : Document) (array : List Part) (n at : ℕ) (value : Value)
    → HasItems profile limit s array n at → CanBeItem profile limit s array value
    → refusal profile limit s (insert (item_path array n) value) ≡ None
item_allowed profile limit s array n at value items can = item_allowed_of profile limit s array n at value items can

pub array_stays : (profile : Profile) (limit : ℕ) (s : Document) (array : List Part) (n at : ℕ) (value : Value)
    → IsEditable profile limit s → HasItems profile limit s array n at → CanBeItem profile limit s array value
    → is_array_at array (mentions_in (edited_document s (insert (item_path array n) value))) ≡ true
array_stays profile limit s array n at value editable items can =
    array_is_now profile limit s array n at value editable items can

pub one_more_item : (profile : Profile) (limit : ℕ) (s : Document) (array : List Part) (n at : ℕ) (value : Value)
    → IsEditable profile limit s → HasItems profile limit s array n at → CanBeItem profile limit s array value
    → item_count array (mentions_in (edited_document s (insert (item_path array n) value))) ≡ suc n
one_more_item profile limit s array n at value editable items can =
    more_now profile limit s array n at value editable items can

pub others_stay : (profile : Profile) (limit : ℕ) (s : Document) (array : List Part) (n at : ℕ) (value : Value)
    → IsEditable profile limit s → HasItems profile limit s array n at → CanBeItem profile limit s array value
    → (other : Value) → CanBeItem profile limit s array other
    → CanBeItem profile limit (edited_document s (insert (item_path array n) value)) array other
others_stay profile limit s array n at value editable items can =
    other_stays profile limit s array n at value editable items can
