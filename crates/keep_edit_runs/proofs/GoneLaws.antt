-- Paths before elements of arrays of tables went, one after another.
--
-- Each of these elements raises a number of its own array that is its own or greater, and leaves what is elsewhere. So
-- a path in one array leads back by the numbers of that array (`element_first`), and stays in it (`led_in`); any path
-- elsewhere is the same (`apart_first`). Of two arrays that are apart, what is in one is not in the other
-- (`elsewhere`): so what leads back by an element of one passes by those of the other (`passes`), and the order in
-- which elements of two arrays went does not matter. A path that ends in no number changes no other (`not_counted`).
--
-- Theorems: `none_above`, `one_above`: a path in none of the arrays, and in one; `more_of_one`, `array_added`: one more
-- is gone, of an array that is there and of another; `still_apart`, `added_apart`: then the arrays are apart still;
-- `not_counted`; `element_first`: the path of an element of one array, or below it.
use Rattle.std.proofs.Common.{◌≡◌, ◌≢◌, ℕ, zero, suc, ◌<◌, ◌≤◌, List, [], ◌∷◌, ◌++◌}
use Rattle.std.proofs.Common.{length, take, drop, refl, sym, ap, ap₂, subst, ◌∙◌, arith, Option, Some, None}
use Rattle.std.proofs.Common.{get_or, map, All, append_assoc, ◌⊎◌, inl, inr, take_all}
use Rattle.std.specs.List.{AllPairs}
use Rattle.std.proofs.Math.ListN.{set}
use Rattle.std.proofs.Math.Seq.{map-set_same}
use Rattle.std.proofs.lemmas.Bool.{cases_lt}
use Rattle.std.proofs.lemmas.List.{get_or-map, length-map, map-append, take-append-drop, take-take}
use Rattle.std.proofs.lemmas.List.Elements.{All-cons, All-head, All-push, All-tail}
use Rattle.std.proofs.lemmas.List.Kept.{AllPairs-cons}
use Rattle.keep_path.specs.Path.{Part, index, last_part, strip}
use Rattle.keep_path.proofs.Shared.{strip_append}
use Rattle.keep_edit_spec.specs.AddedItems.{item_path}
use Rattle.keep_edit_spec.specs.RemovedHeaders.{first_path, path_before}
use Rattle.keep_edit_spec.specs.Runs.{AreApart}
use Rattle.keep_edit_spec.proofs.Shared.{apart_before, element_before, first_with, no_number_before, stays_below}
use Rattle.keep_edit_runs.specs.Gone.{AreArraysApart, GoneNumbers, IsGoneWith, element_paths, first_number, gone_paths}
use Rattle.keep_edit_runs.proofs.AlikeLaws.{begins_with, none_unless, within}

-- ---- of one array

pub element_first : (array : List Part) (numbers : List ℕ) (n : ℕ) (rest : List Part)
    → first_path (element_paths array numbers) (array ++ index n ∷ rest)
    ≡ array ++ index (first_number numbers n) ∷ rest
element_first array [] n rest = refl
element_first array (gone ∷ numbers) n rest =
    ap (path_before (item_path array gone)) (element_first array numbers n rest)
    ∙ element_before array gone (first_number numbers n) rest

apart_first : (array : List Part) (numbers : List ℕ) (q : List Part) → strip array q ≡ None
    → first_path (element_paths array numbers) q ≡ q
apart_first array [] q apart = refl
apart_first array (gone ∷ numbers) q apart =
    ap (path_before (item_path array gone)) (apart_first array numbers q apart) ∙ apart_before array gone q apart

-- ---- at an array or below it

in_or_out : (array q : List Part) → (strip array q ≢ None) ⊎ (strip array q ≡ None)
in_or_out array q = by (strip array q)
  where
    by : (o : Option (List Part)) → (o ≢ None) ⊎ (o ≡ None)
    by None = inr refl
    by (Some more) = inl (λ e. cc)

in_array : (array q rest : List Part) → q ≡ array ++ rest → strip array q ≢ None
in_array array q rest is none =
    let some : Some rest ≡ None = sym (strip_append array rest) ∙ ap (strip array) (sym is) ∙ none in absurd cc

below : (array q : List Part) → strip array q ≢ None → q ≡ array ++ drop (length array) q
below array q h =
    sym (take-append-drop (length array) q)
    ∙ ap (λ (p : List Part). p ++ drop (length array) q) (begins_with array q h).1

-- it stays there
stays_in : (array : List Part) (n : ℕ) (q : List Part) → strip array q ≢ None
    → strip array (path_before (item_path array n) q) ≢ None
stays_in array n q h =
    let there = stays_below array n (drop (length array) q) in
    in_array array (path_before (item_path array n) q) there.0
    (ap (path_before (item_path array n)) (below array q h) ∙ there.1)

led_in : (array : List Part) (numbers : List ℕ) (q : List Part) → strip array q ≢ None
    → strip array (first_path (element_paths array numbers) q) ≢ None
led_in array [] q h = h
led_in array (gone ∷ numbers) q h =
    stays_in array gone (first_path (element_paths array numbers) q) (led_in array numbers q h)

-- ---- of two arrays that are apart

-- of two beginnings of a path the shorter begins the longer
shorter_begins : (a b q : List Part) → length a ≤ length b → take (length a) q ≡ a → take (length b) q ≡ b
    → strip a b ≢ None
shorter_begins a b q few is_a is_b =
    (within (length a) a b refl).0
    (ap (take (length a)) (sym is_b) ∙ take-take (length a) (length b) q few ∙ is_a
    ∙ sym (take_all (length a) a (omega arith)))

-- what is in one is not in the other
elsewhere : (a b q : List Part) → AreApart a b → strip a q ≢ None → strip b q ≡ None
elsewhere a b q apart in_a = none_unless (strip b q) (λ in_b.
    let is_a = (begins_with a q in_a).1 in
    let is_b = (begins_with b q in_b).1 in
    elim (cases_lt (length b) (length a)) [
      | inl less ↦ shorter_begins b a q (omega (arith, less)) is_b is_a apart.1
      | inr more ↦ shorter_begins a b q more is_a is_b apart.0
    ])

apart_turned : (a b : List Part) → AreApart a b → AreApart b a
apart_turned a b apart = (apart.1, apart.0)

-- what leads back by an element of one passes by those of the other
passes : (a b : List Part) (n : ℕ) (numbers : List ℕ) (q : List Part) → AreApart a b
    → path_before (item_path a n) (first_path (element_paths b numbers) q)
    ≡ first_path (element_paths b numbers) (path_before (item_path a n) q)
passes a b n numbers q apart = elim (in_or_out a q) [
  | inl in_a ↦
      ap (path_before (item_path a n)) (apart_first b numbers q (elsewhere a b q apart in_a))
      ∙ sym (apart_first b numbers (path_before (item_path a n) q)
      (elsewhere a b (path_before (item_path a n) q) apart (stays_in a n q in_a)))
  | inr out_a ↦
      apart_before a n (first_path (element_paths b numbers) q) (led_out out_a)
      ∙ ap (first_path (element_paths b numbers)) (sym (apart_before a n q out_a))
]
  where
    led_out : strip a q ≡ None → strip a (first_path (element_paths b numbers) q) ≡ None
    led_out out_a = elim (in_or_out b q) [
      | inl in_b ↦ elsewhere b a _ (apart_turned a b apart) (led_in b numbers q in_b)
      | inr out_b ↦ ap (strip a) (apart_first b numbers q out_b) ∙ out_a
    ]

-- ---- of several

abbrev arrays_of : List GoneNumbers → List (List Part)
arrays_of all = map (λ gone. gone.array) all

first_joined : (gone more : List (List Part)) (q : List Part)
    → first_path (gone ++ more) q ≡ first_path gone (first_path more q)
first_joined [] more q = refl
first_joined (p ∷ gone) more q = ap (path_before p) (first_joined gone more q)

head_apart : (gone : GoneNumbers) (more : List GoneNumbers) → AreArraysApart (gone ∷ more)
    → All (AreApart gone.array) (arrays_of more)
head_apart gone more h = λ k d lt. h 0 (suc k) d (omega arith) (omega (arith, lt))

tail_apart : (gone : GoneNumbers) (more : List GoneNumbers) → AreArraysApart (gone ∷ more) → AreArraysApart more
tail_apart gone more h = λ i j d less lt. h (suc i) (suc j) d (omega (arith, less)) (omega (arith, lt))

passes_all : (a : List Part) (n : ℕ) (all : List GoneNumbers) (q : List Part) → All (AreApart a) (arrays_of all)
    → path_before (item_path a n) (first_path (gone_paths all) q)
    ≡ first_path (gone_paths all) (path_before (item_path a n) q)
passes_all a n [] q apart = refl
passes_all a n (gone ∷ more) q apart =
    ap (path_before (item_path a n)) (first_joined (element_paths gone.array gone.numbers) (gone_paths more) q)
    ∙ passes a gone.array n gone.numbers (first_path (gone_paths more) q)
    (All-head (AreApart a) gone.array (arrays_of more) apart)
    ∙ ap (first_path (element_paths gone.array gone.numbers))
    (passes_all a n more q (All-tail (AreApart a) gone.array (arrays_of more) apart))
    ∙ sym (first_joined (element_paths gone.array gone.numbers) (gone_paths more) (path_before (item_path a n) q))

pub none_above : (all : List GoneNumbers) (q : List Part) → All (λ gone. strip gone.array q ≡ None) all
    → first_path (gone_paths all) q ≡ q
none_above [] q none = refl
none_above (gone ∷ more) q none =
    first_joined (element_paths gone.array gone.numbers) (gone_paths more) q
    ∙ ap (first_path (element_paths gone.array gone.numbers))
    (none_above more q (All-tail (λ g. strip g.array q ≡ None) gone more none))
    ∙ apart_first gone.array gone.numbers q (All-head (λ g. strip g.array q ≡ None) gone more none)

-- a path in one of them is in none of the others
others_out : (array q : List Part) (more : List GoneNumbers) → All (AreApart array) (arrays_of more)
    → strip array q ≢ None → All (λ gone. strip gone.array q ≡ None) more
others_out array q [] apart in_it = λ k d lt. absurd (omega (arith, lt))
others_out array q (gone ∷ more) apart in_it =
    All-cons (λ g. strip g.array q ≡ None) gone more
    (elsewhere array gone.array q (All-head (AreApart array) gone.array (arrays_of more) apart) in_it)
    (others_out array q more (All-tail (AreApart array) gone.array (arrays_of more) apart) in_it)

other_apart : (g : GoneNumbers) (more : List GoneNumbers) (k : ℕ) (gone : GoneNumbers) → AreArraysApart (g ∷ more)
    → k < length more → gone ≡ get_or more k gone → AreApart g.array gone.array
other_apart g more k gone apart lt here =
    subst (AreApart g.array)
    (get_or-map (λ (x : GoneNumbers). x.array) more k gone gone.array lt ∙ ap (λ (x : GoneNumbers). x.array) (sym here))
    (head_apart g more apart k gone.array (omega (arith, lt, length-map more (λ (x : GoneNumbers). x.array))))

-- by the numbers of that array alone
pub one_above : (all : List GoneNumbers) (k : ℕ) (gone : GoneNumbers) (q : List Part) → AreArraysApart all
    → k < length all → gone ≡ get_or all k gone → strip gone.array q ≢ None
    → first_path (gone_paths all) q ≡ first_path (element_paths gone.array gone.numbers) q
one_above [] k gone q apart lt here in_it = absurd (omega (arith, lt))
one_above (g ∷ more) zero gone q apart lt here in_it =
    let in_g : strip g.array q ≢ None = subst (λ (x : GoneNumbers). strip x.array q ≢ None) here in_it in
    first_joined (element_paths g.array g.numbers) (gone_paths more) q
    ∙ ap (first_path (element_paths g.array g.numbers))
    (none_above more q (others_out g.array q more (head_apart g more apart) in_g))
    ∙ ap (λ (x : GoneNumbers). first_path (element_paths x.array x.numbers) q) (sym here)
one_above (g ∷ more) (suc k) gone q apart lt here in_it =
    let short : k < length more = omega (arith, lt) in
    let led : first_path (gone_paths more) q ≡ first_path (element_paths gone.array gone.numbers) q =
    one_above more k gone q (tail_apart g more apart) short here in_it in
    first_joined (element_paths g.array g.numbers) (gone_paths more) q
    ∙ ap (first_path (element_paths g.array g.numbers)) led
    ∙ apart_first g.array g.numbers _
    (elsewhere gone.array g.array _ (apart_turned g.array gone.array (other_apart g more k gone apart short here))
    (led_in gone.array gone.numbers q in_it))

-- ---- one more

pub not_counted : (gone : List (List Part)) (path : List Part) → ((n : ℕ) → last_part path ≡ Some (index n) → ⊥)
    → IsGoneWith gone path gone
not_counted gone path none q = ap (first_path gone) (sym (no_number_before path q none))

one_more_gone : (array : List Part) (numbers : List ℕ) (n : ℕ) (q : List Part)
    → first_path (element_paths array (numbers ++ n ∷ [])) q
    ≡ first_path (element_paths array numbers) (path_before (item_path array n) q)
one_more_gone array numbers n q =
    ap (λ (ps : List (List Part)). first_path ps q) (map-append (item_path array) numbers (n ∷ []))
    ∙ first_with (element_paths array numbers) (item_path array n) q

-- of one of the arrays
pub more_of_one : (all : List GoneNumbers) (k : ℕ) (gone more : GoneNumbers) (n : ℕ) → AreArraysApart all
    → k < length all → gone ≡ get_or all k gone → more.array ≡ gone.array → more.numbers ≡ gone.numbers ++ n ∷ []
    → IsGoneWith (gone_paths all) (item_path gone.array n) (gone_paths (set all k more))
more_of_one [] k gone more n apart lt here same one q = absurd (omega (arith, lt))
more_of_one (g ∷ rest) zero gone more n apart lt here same one q =
    first_joined (element_paths more.array more.numbers) (gone_paths rest) q
    ∙ ap₂ (λ (a : List Part) (ns : List ℕ). first_path (element_paths a ns) (first_path (gone_paths rest) q)) same one
    ∙ one_more_gone gone.array gone.numbers n (first_path (gone_paths rest) q)
    ∙ ap (first_path (element_paths gone.array gone.numbers))
    (passes_all gone.array n rest q
    (subst (λ (x : GoneNumbers). All (AreApart x.array) (arrays_of rest)) (sym here) (head_apart g rest apart)))
    ∙ sym (first_joined (element_paths gone.array gone.numbers) (gone_paths rest)
    (path_before (item_path gone.array n) q))
    ∙ ap (λ (x : GoneNumbers). first_path (element_paths x.array x.numbers ++ gone_paths rest)
    (path_before (item_path gone.array n) q)) here
more_of_one (g ∷ rest) (suc k) gone more n apart lt here same one q =
    first_joined (element_paths g.array g.numbers) (gone_paths (set rest k more)) q
    ∙ ap (first_path (element_paths g.array g.numbers))
    (more_of_one rest k gone more n (tail_apart g rest apart) (omega (arith, lt)) here same one q)
    ∙ sym (first_joined (element_paths g.array g.numbers) (gone_paths rest) (path_before (item_path gone.array n) q))

pub still_apart : (all : List GoneNumbers) (k : ℕ) (gone more : GoneNumbers) → AreArraysApart all
    → gone ≡ get_or all k gone → more.array ≡ gone.array → AreArraysApart (set all k more)
still_apart all k gone more apart here same =
    subst (AllPairs AreApart)
    (sym (map-set_same (λ (x : GoneNumbers). x.array) all k more gone
    (same ∙ ap (λ (x : GoneNumbers). x.array) here))) apart

-- of an array more
paths_joined : (all more : List GoneNumbers) → gone_paths (all ++ more) ≡ gone_paths all ++ gone_paths more
paths_joined [] more = refl
paths_joined (gone ∷ all) more =
    ap (λ (ps : List (List Part)). element_paths gone.array gone.numbers ++ ps) (paths_joined all more)
    ∙ sym (append_assoc (element_paths gone.array gone.numbers) (gone_paths all) (gone_paths more))

one_more_apart : (all : List GoneNumbers) (gone : GoneNumbers) → AreArraysApart all
    → All (λ g. AreApart g.array gone.array) all → AreArraysApart (all ++ gone ∷ [])
one_more_apart [] gone apart from_all = λ i j d less lt. absurd (omega (arith, less, lt))
one_more_apart (g ∷ rest) gone apart from_all =
    AllPairs-cons AreApart g.array (arrays_of (rest ++ gone ∷ []))
    (subst (All (AreApart g.array)) (sym (map-append (λ (x : GoneNumbers). x.array) rest (gone ∷ [])))
    (All-push (AreApart g.array) (arrays_of rest) gone.array (head_apart g rest apart)
    (All-head (λ x. AreApart x.array gone.array) g rest from_all)))
    (one_more_apart rest gone (tail_apart g rest apart) (All-tail (λ x. AreApart x.array gone.array) g rest from_all))

module _ (all now : List GoneNumbers) (gone : GoneNumbers) (array : List Part) (n : ℕ)
    (one : gone ≡ record { array = array; numbers = n ∷ [] }) (is : now ≡ all ++ gone ∷ []) where
  pub array_added : (view : List (List Part)) → gone_paths all ≡ view
      → IsGoneWith view (item_path array n) (gone_paths now)
  array_added view seen q =
      ap (λ (ps : List (List Part)). first_path ps q)
      (ap gone_paths is ∙ paths_joined all (gone ∷ [])
      ∙ ap (λ (g : GoneNumbers). gone_paths all ++ gone_paths (g ∷ [])) one)
      ∙ first_with (gone_paths all) (item_path array n) q
      ∙ ap (λ (ps : List (List Part)). first_path ps (path_before (item_path array n) q)) seen

  pub added_apart : AreArraysApart all → All (λ g. AreApart g.array array) all → AreArraysApart now
  added_apart apart from_all =
      subst AreArraysApart (sym is)
      (one_more_apart all gone apart
      (subst (λ (g : GoneNumbers). All (λ x. AreApart x.array g.array) all) (sym one) from_all))
