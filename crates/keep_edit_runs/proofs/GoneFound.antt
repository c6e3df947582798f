-- Paths before elements of arrays of tables went, as the code finds them.
--
-- The array that a path is in is found by its place in a list. The path is led back step by step: those of the array,
-- the number from before, and those that are left (`step_pushed`).
--
-- Theorems: `left`: a path in none of the arrays; `above_here`: one in the array that was found; `traced`: the one
-- before, with its steps; `own_added`, `own_apart`, `gone_there`: one more is gone; `step_pushed`, `not_first`,
-- `last_index_is`: of steps.
use Rattle.std.proofs.Common.{◌≡◌, ◌≢◌, ◌↔◌, ℕ, zero, suc, ◌+◌, ◌-◌, ◌<◌, Bool, List, [], ◌∷◌, ◌++◌}
use Rattle.std.proofs.Common.{length, take, drop, refl, sym, ap, ap₂, subst, ◌∙◌, arith, Option, Some, None, slice_get}
use Rattle.std.specs.Prelude.{IsNone}
use Rattle.std.specs.Option.{is_some}
use Rattle.std.proofs.Common.{not, get_or, All, IsTrue, append_assoc}
use Rattle.std.specs.List.{HoldsAt}
use Rattle.std.proofs.Math.ListN.{set}
use Rattle.std.proofs.Math.Seq.{drop-cons}
use Rattle.std.proofs.lemmas.List.{get_or_default, take-append-drop}
use Rattle.std.proofs.lemmas.Option.{get_or_from_slice_get, slice_get_within}
use Rattle.keep_path.specs.Path.{IsRooted, Part, index, key, last_part, strip, without_last}
use Rattle.keep_edit_spec.specs.AddedItems.{item_path}
use Rattle.keep_edit_spec.specs.RemovedHeaders.{first_path, path_before}
use Rattle.keep_edit_runs.specs.Gone.{AreArraysApart, GoneNumbers, IsGoneWith, element_paths, first_number, gone_paths}
use Rattle.keep_edit_runs.proofs.AlikeLaws.{begins_with}
use Rattle.keep_edit_runs.proofs.GoneLaws.{element_first, more_of_one, none_above, still_apart}

-- ---- which array a path is in

pub left : (all seen : List GoneNumbers) (q path : List Part) (gone : List (List Part)) (r : Option ℕ) (b : Bool)
    → seen ≡ all → q ≡ path → gone_paths all ≡ gone → (IsNone r → All (λ g. strip g.array q ≡ None) seen)
    → is_some r ≡ not b → IsTrue b → first_path gone path ≡ path
left all seen q path gone None b same same_path view none is h =
    ap₂ first_path (sym view ∙ ap gone_paths (sym same)) (sym same_path) ∙ none_above seen q (none refl) ∙ same_path
left all seen q path gone (Some k) b same same_path view none is h = absurd cc

pub above_here : (all seen : List GoneNumbers) (k : ℕ) (gone : GoneNumbers) (q path : List Part) → seen ≡ all
    → q ≡ path → gone ≡ get_or all k gone → HoldsAt (λ g. strip g.array q ≢ None) seen k
    → strip gone.array path ≢ None
above_here all seen k gone q path same same_path here above =
    subst (λ (p : List Part). strip gone.array p ≢ None) same_path
    (subst (λ (g : GoneNumbers). strip g.array q ≢ None)
    (ap (λ (l : List GoneNumbers). get_or l k gone) same ∙ sym here) (above gone))

-- ---- the steps of a path

-- what is left of a path from a step on
from_step : (path : List Part) (n : ℕ) (p : Part) → slice_get path n ≡ Some p → drop n path ≡ p ∷ drop (n + 1) path
from_step path n p here =
    let one : suc n ≡ n + 1 = omega arith in
    drop-cons path n p (slice_get_within path n p here)
    ∙ ap₂ (λ (q : Part) (m : ℕ). q ∷ drop m path) (get_or_from_slice_get path n p p here) one

pub step_pushed : (before path whole after : List Part) (n : ℕ) (p : Part) → slice_get path n ≡ Some p
    → after ≡ before ++ p ∷ [] → before ++ drop n path ≡ whole
    → (after ≢ []) × (after ++ drop (n + 1) path ≡ whole)
step_pushed before path whole after n p here is so_far = (
  λ none. never before (sym is ∙ none),
  ap (λ (l : List Part). l ++ drop (n + 1) path) is ∙ append_assoc before (p ∷ []) (drop (n + 1) path)
      ∙ ap (λ (l : List Part). before ++ l) (sym (from_step path n p here)) ∙ so_far,
)
  where
    never : (before : List Part) → before ++ p ∷ [] ≡ [] → ⊥
    never [] e = cc
    never (q ∷ before) e = cc

pub not_first : (path before : List Part) (at n : ℕ) → IsRooted path → slice_get path at ≡ Some (index n)
    → before ≡ take at path → before ≢ []
not_first [] before at n rooted here taken = absurd cc
not_first (key name ∷ path) before zero n rooted here taken = absurd cc
not_first (index m ∷ path) before at n rooted here taken = absurd rooted
not_first (key name ∷ path) before (suc at) n rooted here taken =
    λ none. let some : [] ≡ key name ∷ take at path = sym none ∙ taken in absurd cc

pub traced : (array path : List Part) (numbers : List ℕ) (n first at : ℕ) → strip array path ≢ None
    → at ≡ length array → slice_get path at ≡ Some (index n) → first ≡ first_number numbers n
    → take at path ++ index first ∷ drop (at + 1) path ≡ first_path (element_paths array numbers) path
traced array path numbers n first at in_it at_is here first_is =
    let rest = drop (at + 1) path in
    let begins : take at path ≡ array =
    ap (λ (k : ℕ). take k path) at_is ∙ (begins_with array path in_it).1 in
    let whole : path ≡ array ++ index n ∷ rest =
    sym (take-append-drop at path) ∙ ap₂ (λ (a b : List Part). a ++ b) begins (from_step path at (index n) here) in
    ap₂ (λ (a : List Part) (k : ℕ). a ++ index k ∷ rest) begins first_is
    ∙ sym (element_first array numbers n rest)
    ∙ ap (first_path (element_paths array numbers)) (sym whole)

-- ---- the last step

last_is : (path : List Part) (n : ℕ) → n + 1 ≡ length path → last_part path ≡ slice_get path n
last_is [] n many = absurd (omega (arith, many))
last_is (p ∷ []) n many = ap (slice_get (p ∷ [])) (let none : 0 ≡ n = omega (arith, many) in none)
last_is (p ∷ q ∷ ps) n many =
    last_is (q ∷ ps) (n - 1) (omega (arith, many))
    ∙ ap (slice_get (p ∷ q ∷ ps)) (let one : suc (n - 1) ≡ n = omega (arith, many) in one)

whole_path : (path : List Part) (x : Part) → last_part path ≡ Some x → path ≡ without_last path ++ x ∷ []
whole_path [] x e = absurd cc
whole_path (p ∷ []) x e = let same : p ≡ x = cc in ap (λ (y : Part). y ∷ []) same
whole_path (p ∷ q ∷ ps) x e = ap (λ (l : List Part). p ∷ l) (whole_path (q ∷ ps) x e)

pub last_index_is : (path : List Part) (len : ℕ) (r : Option ℕ) → len ≡ length path → 0 < len
    → ((n : ℕ) → (r ≡ Some n) ↔ (slice_get path (len - 1) ≡ Some (index n)))
    → (n : ℕ) → (r ≡ Some n) ↔ (last_part path ≡ Some (index n))
last_index_is path len r many some there n =
    let last : last_part path ≡ slice_get path (len - 1) =
    last_is path (len - 1) (let more : len - 1 + 1 ≡ length path = omega (arith, many, some) in more) in
    ((λ e. last ∙ (there n).0 e), λ e. (there n).1 (sym last ∙ e))

-- a path whose last step is that number, beside the path of its array
element_is : (array path : List Part) (n : ℕ) → without_last path ≡ array → last_part path ≡ Some (index n)
    → path ≡ item_path array n
element_is array path n same last = whole_path path (index n) last ∙ ap (λ (p : List Part). p ++ index n ∷ []) same

-- ---- one more

-- a path whose last step is that number, in the array that the code compared
pub gone_there : (gone next : List (List Part)) (array path : List Part) (n : ℕ) → array ≡ without_last path
    → last_part path ≡ Some (index n) → IsGoneWith gone (item_path array n) next → IsGoneWith gone path next
gone_there gone next array path n is last h q =
    h q
    ∙ ap (λ (p : List Part). first_path gone (path_before p q)) (sym (element_is array path n (sym is) last))

module _ (all : List GoneNumbers) (k : ℕ) (gone own more : GoneNumbers) (apart : AreArraysApart all)
    (lt : k < length all) (here : gone ≡ get_or all k gone) (own_here : own ≡ get_or all k own)
    (same : more.array ≡ own.array) where
  pub own_apart : AreArraysApart (set all k more)
  own_apart = still_apart all k own more apart own_here same

  pub own_added : (view : List (List Part)) (array path : List Part) (n : ℕ) → gone_paths all ≡ view
      → more.numbers ≡ own.numbers ++ n ∷ [] → array ≡ gone.array → array ≡ without_last path
      → last_part path ≡ Some (index n) → IsGoneWith view path (gone_paths (set all k more))
  own_added view array path n seen one at is last =
      let one_gone : gone ≡ own = here ∙ get_or_default all k gone own lt ∙ sym own_here in
      let of_own : own.array ≡ without_last path =
      ap (λ (g : GoneNumbers). g.array) (sym one_gone) ∙ sym at ∙ is in
      gone_there view (gone_paths (set all k more)) own.array path n of_own last
      (λ q. more_of_one all k own more n apart lt own_here same one q
      ∙ ap (λ (ps : List (List Part)). first_path ps (path_before (item_path own.array n) q)) seen)
