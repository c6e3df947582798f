-- Near steps, each given by its byte: the places that they lead to, and what is left after them.
--
-- A step is near if its byte is not `FAR`: it leads so many bytes on from the place before, and takes none of the far
-- places. So near steps lead to as many places as there are steps (`near_all`), the last of these is their sum further
-- on (`near_last`), and the steps after them go on from there with all the far places (`near_split`). Where a list of
-- places has a place and then those of near steps from it, this whole run is passed at once: what is left after it
-- (`left_after`) needs only the number of steps, and its last place only their sum. Far steps are counted from one to
-- the next, since before the first of them all are near (`none_far`).
--
-- Theorems: `past_near`: what is known after near steps that come first; `last_after_run`: the last place of a run;
-- `far_counted`: the first far step, and those after it.
use Rattle.std.proofs.Common.{◌≡◌, ℕ, zero, suc, ◌+◌, ◌<◌, ◌≤◌, ◌^◌, ◌==◌, true, false, cond, List, [], ◌∷◌, ◌++◌}
use Rattle.std.proofs.Common.{length, get_or, take, drop, refl, sym, ap, ◌∙◌, subst, inl, inr, arith}
use Rattle.std.specs.Prelude.{sum}
use Rattle.std.proofs.lemmas.List.{take_all, length-drop, take_at, drop_at, drop_more, drop-drop}
use Rattle.std.proofs.lemmas.List.Sums.{sum_by-take-drop, sum_by-cons, sum_by-append, count_by_more_no}
use Rattle.std.proofs.lemmas.Bool.Decides.{eqb_tells}
use Rattle.keep_syntax_store.specs.declared.starts.TheConstants.{FAR}
use Rattle.keep_syntax_store.specs.Starts.{places_at, last_of, AllSmall, fars}
use Rattle.keep_syntax_store.proofs.AscendLaws.{last_part}
use Rattle.keep_syntax_store.proofs.StartLaws.{near_step, fars_after, places_join, places_all}

-- ---- the places that near steps lead to

-- the first of near steps, and the others
pub record IsNear (step : ℕ) (steps : List ℕ) : Type 0 where
  pub first : (step == FAR) ≡ false
  pub others : fars steps ≡ 0
  pub whole : sum (step ∷ steps) ≡ step + sum steps

pub is_near : (step : ℕ) (steps : List ℕ) → fars (step ∷ steps) ≡ 0 → IsNear step steps
is_near step steps none = elim (eqb_tells step FAR) [
  | inl t ↦ absurd (omega (arith, none, fars_after step steps true t.0))
  | inr t ↦
      record {
        first = t.0;
        others = omega (arith, none, fars_after step steps false t.0);
        whole = sum_by-cons (λ (s : ℕ). s) step steps;
      }
]

pub near_last : (at : ℕ) (near : List ℕ) → fars near ≡ 0 → last_of at (places_at at near []) ≡ at + sum near
near_last at [] none = omega arith
near_last at (step ∷ steps) none =
    let n : IsNear step steps = is_near step steps none in
    ap (last_of at) (near_step at step steps [] n.first) ∙ near_last (at + step) steps n.others ∙ omega (arith, n.whole)

pub near_all : (at : ℕ) (near : List ℕ) → fars near ≡ 0 → length (places_at at near []) ≡ length near
near_all at near none = places_all at near [] (sym none)

-- steps of which none is far
pub none_far : (steps : List ℕ) (n : ℕ) → n ≤ length steps → ((k : ℕ) → k < n → (get_or steps k 0 == FAR) ≡ true → ⊥)
    → fars (take n steps) ≡ 0
none_far steps zero within none = refl
none_far steps (suc n) within none =
    let last : (get_or steps n 0 == FAR) ≡ false =
    elim (eqb_tells (get_or steps n 0) FAR) [ inl t ↦ absurd (none n (omega arith) t.0) | inr t ↦ t.0 ] in
    ap (λ (m : ℕ). fars (take m steps)) (let e : suc n ≡ n + 1 = omega arith in e)
    ∙ count_by_more_no (λ (s : ℕ). s == FAR) steps n 0 (omega arith) last
    ∙ none_far steps n (omega arith) (λ k before. none k (omega arith))

-- the first far step of some, and those after it
pub far_counted : (steps : List ℕ) (n : ℕ) → n < length steps → ((k : ℕ) → k < n → (get_or steps k 0 == FAR) ≡ true → ⊥)
    → (get_or steps n 0 == FAR) ≡ true → fars steps ≡ 1 + fars (drop (n + 1) steps)
far_counted steps n within none is =
    omega (
      arith,
      sum_by-take-drop (λ (s : ℕ). cond (s == FAR) 1 0) steps n,
      none_far steps n (omega (arith, within)) none,
      ap fars (drop_more steps n 0 within),
      fars_after (get_or steps n 0) (drop (n + 1) steps) true is,
    )

-- ---- small places

pub small_rest : (places more : List ℕ) → AllSmall (places ++ more) → AllSmall more
small_rest [] more small = small
small_rest (place ∷ places) more small = small_rest places more (λ k. small (suc k))

last_small : (at : ℕ) (places more : List ℕ) → (length places ≡ 0 → at < 2 ^ 64) → AllSmall (places ++ more)
    → last_of at places < 2 ^ 64
last_small at [] more le small = le refl
last_small at (place ∷ places) more le small = last_small place places more (λ _. small 0) (λ k. small (suc k))

-- ---- the near steps that stand first

-- near steps, and those after them, which are counted from the last of their places
pub near_split : (at : ℕ) (near more far : List ℕ) → fars near ≡ 0
    → places_at at (near ++ more) far ≡ places_at at near [] ++ places_at (at + sum near) more far
near_split at near more far none =
    places_join at near [] more far (sym none)
    ∙ ap (λ (last : ℕ). places_at at near [] ++ places_at last more far) (near_last at near none)

-- what is known after near steps that stand first
pub record IsPastNear (at : ℕ) (all near more far : List ℕ) : Type 0 where
  pub fits : at + sum near < 2 ^ 64
  pub small : AllSmall (places_at (at + sum near) more far)
  pub left : places_at at all far ≡ places_at at near [] ++ places_at (at + sum near) more far

pub after_near : (all near more : List ℕ) → all ≡ near ++ more → fars near ≡ 0 → fars all ≡ fars more
after_near all near more is none =
    ap fars is ∙ sum_by-append (λ (s : ℕ). cond (s == FAR) 1 0) near more ∙ omega (arith, none)

pub past_near : (at : ℕ) (all near more far : List ℕ) → all ≡ near ++ more → fars near ≡ 0
    → (length near ≡ 0 → at < 2 ^ 64) → AllSmall (places_at at all far) → IsPastNear at all near more far
past_near at all near more far is none le small =
    let there : List ℕ = places_at at near [] in
    let rest : List ℕ = places_at (at + sum near) more far in
    let split : places_at at all far ≡ there ++ rest =
    ap (λ (s : List ℕ). places_at at s far) is ∙ near_split at near more far none in
    let both : AllSmall (there ++ rest) = subst AllSmall split small in
    record {
      fits = subst (λ (n : ℕ). n < 2 ^ 64) (near_last at near none)
          (last_small at there rest (λ e. le (sym (near_all at near none) ∙ e)) both);
      small = small_rest there rest both;
      left = split;
    }

-- ---- stored after others

pub last_after : (at : ℕ) (places more : List ℕ) → last_of at (places ++ more) ≡ last_of (last_of at places) more
last_after at [] more = refl
last_after at (place ∷ places) more = last_after place places more

-- ---- a run of a list: what stands first in what is left of it

run_past : {A : Type 0} (xs run rest : List A) (n m : ℕ) → drop n xs ≡ run ++ rest → m ≡ n + length run
    → drop m xs ≡ rest
run_past xs run rest n m e is =
    ap (λ k. drop k xs) is ∙ sym (drop-drop (length run) n xs) ∙ ap (drop (length run)) e
    ∙ drop_at run rest (length run) refl

-- all, where nothing is left
pub past_end : {A : Type 0} (xs : List A) (n m : ℕ) → drop n xs ≡ [] → n ≤ m → take m xs ≡ take n xs
past_end xs n m e order =
    let short : length xs ≤ n = omega (arith, ap length e, length-drop n xs) in
    take_all m xs (omega (arith, short, order)) ∙ sym (take_all n xs short)

-- ---- a place and the near ones after it

-- what is left of a list begins with a place and with those that near steps lead to from there
pub place_and_near : (all near rest left : List ℕ) (n at there : ℕ) → drop n all ≡ at ∷ left → at ≡ there
    → left ≡ places_at there near [] ++ rest → drop n all ≡ (at ∷ places_at at near []) ++ rest
place_and_near all near rest left n at there e same is =
    e ∙ ap (λ (ps : List ℕ). at ∷ ps) (is ∙ ap (λ (place : ℕ). places_at place near [] ++ rest) (sym same))

pub left_after : (all near rest : List ℕ) (n m at : ℕ) → fars near ≡ 0
    → drop n all ≡ (at ∷ places_at at near []) ++ rest → m ≡ n + 1 + length near → rest ≡ drop m all
left_after all near rest n m at none e is =
    sym (run_past all (at ∷ places_at at near []) rest n m e (omega (arith, is, near_all at near none)))

pub last_after_run : (all near rest : List ℕ) (low n m at : ℕ) → fars near ≡ 0
    → drop n all ≡ (at ∷ places_at at near []) ++ rest → m ≡ n + 1 + length near
    → last_of low (take m all) ≡ at + sum near
last_after_run all near rest low n m at none e is =
    let run : List ℕ = at ∷ places_at at near [] in
    let k : ℕ = 1 + length near in
    ap (λ (i : ℕ). last_of low (take i all)) (let i : m ≡ n + k = omega (arith, is) in i)
    ∙ last_part low all n k
    ∙ ap (λ (ps : List ℕ). last_of (last_of low (take n all)) (take k ps)) e
    ∙ ap (last_of (last_of low (take n all)))
    (take_at run rest k (let i : length run ≡ k = omega (arith, near_all at near none) in i))
    ∙ near_last at near none
