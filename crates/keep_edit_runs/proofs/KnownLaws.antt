-- Paths of arrays of tables, and a path that is known by its numbers to be apart from each.
--
-- A path is at an array or below it only if the array's number is that of what the path begins with, and above it only
-- if its own number is that of what the array's path begins with. All these numbers are kept of each array.
--
-- Theorems: `goes_on`: one more; `place_added`: one number more; `if_none`, `none_of`, `when_none`,
-- `lacks_one`: what a look-up tells; `none_at`: a path in none of the arrays;
-- `known_apart`: one that is apart from each; `all_still`, `one_more`, `with_another`: arrays that are known;
-- `none_of_array`: an array that has no number is not that of any element.
use Rattle.std.proofs.Common.{◌≡◌, ◌≤◌, ◌==◌, ℕ, Bool, FoldHasher, IsTrue, List, None, Option, Some, cond, not}
use Rattle.std.proofs.Common.{[], ◌∷◌, ◌++◌, ◌<◌, ◌≢◌, ◌∙◌, All, ap, false, get_or, length, refl, subst, sym, take}
use Rattle.std.proofs.Common.{true}
use Rattle.std.proofs.Math.ListN.{set}
use Rattle.std.proofs.lemmas.List.Elements.{All-append, All-head, All-map, All-nil, All-push, All-set, All-tail}
use Rattle.std.proofs.lemmas.List.Elements.{All-weaker}
use Rattle.std.proofs.Common.{BuildHasherDefault, FoldHasher, None, Some, cond}
use Rattle.std.specs.HashMap.{HashMap, Updates, get_by}
use Rattle.std.specs.Option.{is_some}
use Rattle.std.specs.Prelude.{IfNone}
use Rattle.keep_path.specs.Path.{Part, index, strip, without_last}
use Rattle.keep_edit_spec.specs.AddedItems.{item_path}
use Rattle.keep_edit_spec.specs.Runs.{AreApart}
use Rattle.keep_edit_runs.specs.Gone.{AreKnown, GoneNumbers, element_paths, gone_paths}
use Rattle.keep_edit_runs.specs.KnownArrays.{GoesOn, HasBeginning, HasPath, IsKnown}
use Rattle.keep_edit_runs.specs.declared.known_arrays.KnownArrays.{KnownArrays}
use Rattle.keep_edit_runs.proofs.SeenLaws.{none_above}

pub goes_on : (a b c : KnownArrays) → GoesOn a b → GoesOn b c → GoesOn a c
goes_on a b c on more = record {
  arrays = λ path has. more.arrays path (on.arrays path has);
  beginnings = λ path has. more.beginnings path (on.beginnings path has);
}

-- ---- one number more

-- places that are kept by numbers, and whether a number has one
abbrev pub Places : Type 0
Places = HashMap ℕ ℕ (BuildHasherDefault FoldHasher)

abbrev pub HasPlace : Places → ℕ → Type 0
HasPlace places n = IsTrue (is_some (get_by (λ k. n == k) places))

kept_place : (b : Bool) (place : ℕ) (had has : Option ℕ) → has ≡ cond b (Some place) had → is_some had ≡ true
    → is_some has ≡ true
kept_place true place had has is h = subst (λ (o : Option ℕ). is_some o ≡ true) (sym is) refl
kept_place false place had has is h = subst (λ (o : Option ℕ). is_some o ≡ true) (sym is) h

pub place_added : (old new : Places) (n place : ℕ) → Updates ◌==◌ old new n (Some place)
    → HasPlace new n × ((k : ℕ) → HasPlace old k → HasPlace new k)
place_added old new n place updates = (
  subst (λ (o : Option ℕ). is_some o ≡ true) (sym updates.1) refl,
  λ k had. kept_place (n == k) place _ _ (updates.0 k) had,
)

-- ---- what is asked of them

pub if_none : {X : Type 0} (r : Option X) (P Q : Type 0) → (P → Q) → IfNone r P → IfNone r Q
if_none None P Q f h = f h
if_none (Some x) P Q f h = tt

pub none_of : {X : Type 0} (r : Option X) (P : Type 0) (b : Bool) → is_some r ≡ not b → IsTrue b → IfNone r P → P
none_of None P b is test h = h
none_of (Some x) P b is test h = absurd cc

pub when_none : {X : Type 0} (r : Option X) (P : Type 0) → r ≡ None → IfNone r P → P
when_none None P is h = h
when_none (Some x) P is h = absurd cc

pub lacks_one : (has b : Bool) → b ≡ has → IsTrue (not b) → IsTrue has → ⊥
lacks_one has b is none h = absurd cc

-- ---- what is known

known_still : (old new : KnownArrays) (array : List Part) → GoesOn old new → IsKnown old array → IsKnown new array
known_still old new array on known = record {
  whole = on.arrays array known.whole;
  all = λ n many. on.beginnings (take n array) (known.all n many);
}

pub none_at : (known : KnownArrays) (path : List Part) → ((n : ℕ) → n ≤ length path → ¬ HasPath known (take n path))
    → (array : List Part) → IsKnown known array → strip array path ≡ None
none_at known path lacks array is =
    none_above (HasPath known) array path is.whole (λ n same many. lacks n many)

pub known_apart : (known : KnownArrays) (path : List Part)
    → ((array : List Part) → IsKnown known array → strip array path ≡ None) → ¬ HasBeginning known path
    → (array : List Part) → IsKnown known array → AreApart array path
known_apart known path none lacks array is = (
  none array is,
  none_above (λ l. ¬ HasBeginning known l) path array lacks (λ n same many lacking. lacking (is.all n many)),
)

-- ---- all arrays of a list

pub all_still : (old new : KnownArrays) (all : List GoneNumbers) → GoesOn old new → AreKnown old all
    → AreKnown new all
all_still old new all on known =
    All-weaker (λ g. IsKnown old g.array) (λ g. IsKnown new g.array) (λ g is. known_still old new g.array on is) all
    known

pub one_more : (old new : KnownArrays) (all now : List GoneNumbers) (gone : GoneNumbers) (array : List Part) (n : ℕ)
    → gone ≡ record { array = array; numbers = n ∷ [] } → now ≡ all ++ gone ∷ [] → GoesOn old new
    → IsKnown new array → AreKnown old all → AreKnown new now
one_more old new all now gone array n one is on own known =
    subst (AreKnown new) (sym is)
    (All-push (λ g. IsKnown new g.array) all gone (all_still old new all on known)
    (subst (λ (g : GoneNumbers). IsKnown new g.array) (sym one) own))

-- one of them with other numbers
pub with_another : (known : KnownArrays) (all : List GoneNumbers) (k : ℕ) (own more : GoneNumbers) → k < length all
    → own ≡ get_or all k own → more.array ≡ own.array → AreKnown known all → AreKnown known (set all k more)
with_another known all k own more lt here same are =
    All-set (λ g. IsKnown known g.array) all k more
    (subst (IsKnown known) (sym same)
    (subst (λ (g : GoneNumbers). IsKnown known g.array) (sym here) (are k own lt))) are

-- ---- an array that is none of them

without_pushed : (array : List Part) (part : Part) → without_last (array ++ part ∷ []) ≡ array
without_pushed [] part = refl
without_pushed (p ∷ []) part = refl
without_pushed (p ∷ q ∷ ps) part = ap (λ (l : List Part). p ∷ l) (without_pushed (q ∷ ps) part)

pub none_of_array : (known : KnownArrays) (array : List Part) → ¬ HasPath known array → (all : List GoneNumbers)
    → AreKnown known all → (n : ℕ) → All (λ path. path ≢ item_path array n) (gone_paths all)
none_of_array known array lacks [] are n = All-nil _
none_of_array known array lacks (gone ∷ more) are n =
    All-append (λ path. path ≢ item_path array n) (element_paths gone.array gone.numbers) (gone_paths more)
    (All-map (λ path. path ≢ item_path array n) (item_path gone.array) gone.numbers (λ k d lt same.
    lacks (subst (HasPath known)
    (sym (without_pushed gone.array _) ∙ ap without_last same ∙ without_pushed array (index n))
    (All-head (λ g. IsKnown known g.array) gone more are).whole)))
    (none_of_array known array lacks more (All-tail (λ g. IsKnown known g.array) gone more are) n)
