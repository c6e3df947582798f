-- What an insert adds that is not refused, of the item after all others of an array.
--
-- All of the path is taken (`in_array`): were it a keyval's, then its holder would be shorter than the path. So the
-- place is after the array's last item, or in its empty brackets, and the item's number is the count. At this place
-- every other value is put too (`other_placed`). What is asked of the value is what the insert is not refused for, for
-- how deep it is does not depend on the number. The text has a comma before it unless it is the first item.
--
-- Theorems: `after_added`, `first_added`: the next item is added; `after_boundary`, `first_boundary`: it comes between
-- characters.
use Rattle.std.proofs.Common.{◌≡◌, ◌⊎◌, ℕ, zero, suc, ◌+◌, ◌-◌, ◌<◌, ◌≤◌, Bool, true, false, not, cond, nat_lt, List}
use Rattle.std.proofs.Common.{[], ◌∷◌, ◌++◌, length, drop, map, slice_get, refl, sym, ap, subst, ◌∙◌, arith}
use Rattle.std.proofs.Common.{length-append, Option, Some, None, Result, Ok, Err, inl, inr}
use Rattle.std.specs.Prelude.{IsCharBoundary, IsUtf8, codes}
use Rattle.std.specs.List.{AllByRecursion}
use Rattle.std.specs.Result.{is_ok, result_ok}
use Rattle.std.proofs.lemmas.Bool.{le-ltb}
use Rattle.keep_types.specs.declared.leaf.Profile.TheVariants.{Wide}
use Rattle.keep_types.specs.declared.syntax.ValueInfo.{ValueInfo}
use Rattle.keep_syntax.specs.declared.syntax.Syntax.{Syntax}
use Rattle.keep_syntax.specs.Contract.{values_of}
use Rattle.keep_syntax.specs.Tree.{Value, Document, value_depth, value_text}
use Rattle.keep_path.specs.NodeInfos.{NodeInfos}
use Rattle.keep_path.specs.Path.{Part, AreUtf8, key, index}
use Rattle.keep_meaning.specs.Marks.{Mention}
use Rattle.keep_meaning.specs.Meaning.{mentions_in}
use Rattle.keep_edit_spec.specs.Edits.{insert, place}
use Rattle.keep_edit_spec.specs.Insertion.{keyed_text, put_in}
use Rattle.keep_edit_spec.specs.Look.{enclosing, holder, is_array_at, is_bracket_at, item_count, item_number, keys_in}
use Rattle.keep_edit_spec.specs.Look.{without_last}
use Rattle.keep_edit_spec.proofs.Shared.{IsGranted, granted}
use Rattle.keep_edit_spec.proofs.Shared.{new_path}
use Rattle.keep_edit_spec.proofs.Shared.{IsItemPath, item_at}
use Rattle.keep_edit_spec.specs.AddedItems.{AddsNextItem, CanBeItem, separator}
use Rattle.keep_edit_spec.specs.TextChanges.{change_at}
use Rattle.keep_edit_spec.proofs.Shared.{keys_same, prefixes_alike}
use Rattle.keep_edit_plan.specs.Inserting.{IsInsertionOf, IsItemSpot, IsKeyvalSpot, IsPutIn}
use Rattle.keep_edit_plan.specs.Reading.{limit, ProfiledText, Holds, IsTextOfTree, IsTextOfValue}
use Rattle.keep_edit_plan.specs.declared.insert.Insertion.{Insertion}
use Rattle.keep_edit_plan.specs.declared.insert.Spot.{Spot}
use Rattle.keep_edit_plan.specs.declared.insert.Spot.TheVariants as spot
use Rattle.keep_edit_plan.proofs.BracketPlaces.{IsInBrackets, drop_all}
use Rattle.keep_edit_plan.proofs.InsertedLaws.{after_put, empty_put}
use Rattle.keep_edit_plan.proofs.ItemTexts.{other_placed}
use Rattle.keep_edit_plan.proofs.KeysLaws.{keys_utf8}

-- ---- the text

-- what is there after a push that memory was there for
pub pushed : {E : Type 0} (result : Result (Unit {0}) E) (u : Unit {0}) (now then old : List ℕ)
    → Some u ≡ result_ok result → now ≡ cond (is_ok result) then old → now ≡ then
pushed (Ok w) u now then old e h = h
pushed (Err f) u now then old e h = absurd cc

-- what comes before the value where so many are before it, and after others or not
abbrev pub IsStart : Bool → ℕ → List ℕ → Type 0
IsStart first before start =
    ((start ≡ codes ", ") × ((0 < before) ⊎ (first ≡ false)))
    ⊎ ((start ≡ []) × ((before ≤ 0) × (first ≡ true)))

after_others : (n : ℕ) → 0 < n → codes ", " ≡ separator n
after_others zero h = absurd (omega (arith, h))
after_others (suc n) h = refl

after_none : (n : ℕ) → n ≤ 0 → [] ≡ separator n
after_none zero h = refl
after_none (suc n) h = absurd (omega (arith, h))

start_after : (first : Bool) (before n : ℕ) (start : List ℕ) → first ≡ false → 0 < n → IsStart first before start
    → start ≡ separator (n + before)
start_after first before n start e some (inl (is, why)) = is ∙ after_others (n + before) (omega (arith, some))
start_after first before n start e some (inr (is, (none, why))) =
    let k : true ≡ false = sym why ∙ e in absurd cc

start_first : (first : Bool) (before n : ℕ) (start : List ℕ) → first ≡ true → n ≡ 0 → IsStart first before start
    → start ≡ separator (n + before)
start_first first before n start e zero_n (inl (is, inl some)) = is ∙ after_others (n + before) (omega (arith, some))
start_first first before n start e zero_n (inl (is, inr why)) =
    let k : false ≡ true = sym why ∙ e in absurd cc
start_first first before n start e zero_n (inr (is, (none, why))) =
    is ∙ after_none (n + before) (omega (arith, none, zero_n))

module _ (d : ProfiledText) (syntax : Syntax) (nodes : NodeInfos) (path : List Part) (s : Document) (v : Value)
    (bytes : List ℕ) (i : Insertion)
    (holds : Holds d syntax nodes) (read : IsTextOfTree d s) (value : IsTextOfValue bytes v)
    (there : IsInsertionOf d.profile path v s (Ok i)) (utf8 : AreUtf8 path) (whole : i.from ≡ length path) where
  abbrev ms : List Mention
  ms = mentions_in s

  abbrev array : List Part
  array = without_last path

  -- ---- the path

  abbrev SpotBy : Option ℕ → Type 0
  SpotBy o = elim o [
    | Some n ↦ (i.from ≡ length path) × IsItemSpot path n s i.spot
    | None ↦ IsKeyvalSpot (holder path ms) s i.from i.spot
  ]

  -- a keyval's holder is shorter than its path
  shorter : item_number path ms ≡ None → length (holder path ms) < length path
  shorter none =
      let new = new_path d.profile limit ms path v none there.0 in
      omega (
        arith,
        ap (λ (p : List Part). length p) new.whole,
        length-append (holder path ms) (map key (new.first ∷ new.more)),
      )

  in_holder : (at : Spot) → IsInBrackets at → IsKeyvalSpot (holder path ms) s i.from at
      → i.from ≤ length (holder path ms)
  in_holder (spot.InEmpty b) brackets (of_value, base, e) = omega (arith, base)
  in_holder (spot.AfterEntry w) brackets (inl (b, of_value, base, e)) = omega (arith, base)
  in_holder (spot.AfterEntry w) brackets (inr (b, dotted, base, of_value)) = base.within
  in_holder (spot.BeforeItem w) brackets h = absurd h
  in_holder (spot.AfterBody o) brackets h = absurd brackets
  in_holder (spot.AfterLine w) brackets h = absurd brackets
  in_holder (spot.NewSection w) brackets h = absurd brackets

  in_array : (at : Spot) → i.spot ≡ at → IsInBrackets at
      → (n : ℕ) × (item_number path ms ≡ Some n) × IsItemSpot path n s at
  in_array at e brackets = by (item_number path ms) refl there.1
    where
      by : (o : Option ℕ) → item_number path ms ≡ o
          → SpotBy o
          → (n : ℕ) × (item_number path ms ≡ Some n) × IsItemSpot path n s at
      by (Some n) number h = (n, number, subst (IsItemSpot path n s) e h.1)
      by None none h =
          absurd (omega (
            arith,
            whole,
            shorter none,
            in_holder at brackets (subst (IsKeyvalSpot (holder path ms) s i.from) e h),
          ))

  -- ---- the item

  no_keys : keys_in (drop i.from path) ≡ []
  no_keys = ap (λ (m : ℕ). keys_in (drop m path)) whole ∙ ap keys_in (drop_all path)

  item_text : keyed_text (keys_in (drop i.from path)) v ≡ value_text v
  item_text = ap (λ (ks : List (List ℕ)). keyed_text ks v) no_keys

  module _ (n : ℕ) (number : item_number path ms ≡ Some n) where
    item : IsItemPath path n ms
    item = item_at path n ms number

    is_array : is_array_at array ms ≡ true
    is_array = rw (item.is_array, is_array_at) refl

    array_utf8 : AllByRecursion IsUtf8 (keys_in array)
    array_utf8 =
        subst (AllByRecursion IsUtf8) (ap keys_in item.whole ∙ keys_same array n) (keys_utf8 path utf8)

    can_be : CanBeItem d.profile limit s array v
    can_be =
        let g : IsGranted d.profile limit s path n v = granted d.profile limit s path n v number there.0 in
        record {
          given = record { valid = value.reads.valid; obeys = value.obeys };
          shallow =
              ap (λ (k : ℕ). nat_lt limit (k + value_depth v))
              (prefixes_alike (is_bracket_at ms) (is_bracket_at ms) array (index 0) (index n) (λ q rest e. refl)
              ∙ ap (λ (p : List Part). enclosing p ms) (sym item.whole))
              ∙ le-ltb limit (enclosing path ms + value_depth v) g.shallow;
          own = ap not g.suits;
        }

    added : (at : ℕ) → item_count array ms ≡ n → place s (insert path v) ≡ put_in at (separator n ++ value_text v)
        → (before : ℕ) (start line : List ℕ) → start ≡ separator (n + before) → line ≡ start ++ bytes
        → AddsNextItem d.profile limit s path before v (change_at at (at - at) line)
    added at counted put before start line start_is is = record {
      array = array;
      number = n;
      whole = item.whole;
      items = record {
        utf8 = array_utf8;
        array_is = is_array;
        counted = counted;
        next = λ w.
            subst (λ (p : List Part). place s (insert p w) ≡ put_in at (separator n ++ value_text w)) item.whole
            (other_placed v w Wide value.reads.valid n s path n at number put);
      };
      can = can_be;
      adds = omega arith;
      is = is ∙ ap (λ (t : List ℕ). t ++ bytes) start_is
          ∙ ap (λ (t : List ℕ). separator (n + before) ++ t) value.reads.spelled;
    }

  module _ (spot_is : Bool × ℕ) where
    -- ---- after an entry

    module _ (w : ℕ) (info : ValueInfo) (after : i.spot ≡ spot.AfterEntry w)
        (stored : slice_get (values_of syntax) w ≡ Some info) (is_first : spot_is ≡ (false, info.span.end)) where
      after_is : IsPutIn path v s d.text info.span.end []
          (codes ", " ++ keyed_text (keys_in (drop i.from path)) v)
      after_is =
          after_put d syntax nodes path s v bytes i holds read value there utf8 w info [] (codes ", ")
          (codes ", " ++ keyed_text (keys_in (drop i.from path)) v) after stored refl refl

      at_end : spot_is.1 ≡ info.span.end
      at_end = ap (λ (p : Bool × ℕ). p.1) is_first

      pub after_boundary : IsCharBoundary d.text spot_is.1
      after_boundary =
          let (fresh, is, placed, span) = after_is in
          subst (λ (n : ℕ). IsCharBoundary d.text n) (sym at_end) span.starts

      pub after_added : (before : ℕ) (start line : List ℕ) → IsStart spot_is.0 before start → line ≡ start ++ bytes
          → AddsNextItem d.profile limit s path before v (change_at spot_is.1 (spot_is.1 - spot_is.1) line)
      after_added before start line start_is is =
          let (n, number, (m, more, count, last)) = in_array (spot.AfterEntry w) after tt in
          let (fresh, same, placed, span) = after_is in
          added n number spot_is.1 count
          (placed ∙ ap (λ (at : ℕ). put_in at fresh) (sym at_end) ∙ ap (put_in spot_is.1)
          (sym same ∙ ap (λ (t : List ℕ). codes ", " ++ t) item_text
          ∙ ap (λ (t : List ℕ). t ++ value_text v) (after_others n (omega (arith, more)))))
          before start line
          (start_after spot_is.0 before n start (ap (λ (p : Bool × ℕ). p.0) is_first) (omega (arith, more)) start_is) is

    -- ---- in empty brackets

    module _ (w : ℕ) (info : ValueInfo) (at : ℕ) (empty : i.spot ≡ spot.InEmpty w)
        (stored : slice_get (values_of syntax) w ≡ Some info) (next : at ≡ suc info.span.start)
        (is_first : spot_is ≡ (true, at)) where
      at_start : spot_is.1 ≡ suc info.span.start
      at_start = ap (λ (p : Bool × ℕ). p.1) is_first ∙ next

      first_is : IsPutIn path v s d.text spot_is.1 [] (keyed_text (keys_in (drop i.from path)) v)
      first_is =
          empty_put d syntax nodes path s v bytes i holds read value there utf8 w info spot_is.1 []
          (keyed_text (keys_in (drop i.from path)) v) empty stored at_start refl

      pub first_boundary : IsCharBoundary d.text spot_is.1
      first_boundary = let (fresh, is, placed, span) = first_is in span.starts

      pub first_added : (before : ℕ) (start line : List ℕ) → IsStart spot_is.0 before start → line ≡ start ++ bytes
          → AddsNextItem d.profile limit s path before v (change_at spot_is.1 (spot_is.1 - spot_is.1) line)
      first_added before start line start_is is =
          let (n, number, (none, count, brackets)) = in_array (spot.InEmpty w) empty tt in
          let (fresh, same, placed, span) = first_is in
          added n number spot_is.1 (count ∙ sym none)
          (placed ∙ ap (put_in spot_is.1) (sym same ∙ item_text
          ∙ ap (λ (t : List ℕ). t ++ value_text v) (after_none n (omega (arith, none)))))
          before start line
          (start_first spot_is.0 before n start (ap (λ (p : Bool × ℕ). p.0) is_first) none start_is) is
