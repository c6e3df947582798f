-- How many stored places are before a place: no more than are stored, and near places that follow one another count all
-- at once if the last of them is before it.
--
-- Theorems: `run_counted`: a place and the near places after it count all at once; `before_within`: no more places are
-- before a place than there are; `places_within`: steps lead to no more places than there are steps.
use Rattle.std.proofs.Common.{◌≡◌, ℕ, suc, ◌+◌, ◌<◌, ◌≤◌, List, [], ◌∷◌, ◌++◌, length, refl, ap, ◌∙◌, inl, inr, arith}
use Rattle.std.specs.Prelude.{sum}
use Rattle.std.proofs.lemmas.List.{length-append}
use Rattle.std.proofs.lemmas.Bool.{lt-ltb}
use Rattle.std.proofs.lemmas.Bool.Decides.{eqb_tells, leb_tells}
use Rattle.keep_syntax_store.specs.declared.starts.TheConstants.{FAR}
use Rattle.keep_syntax_store.specs.Starts.{places_at, last_of, Ascend, fars}
use Rattle.keep_syntax_store.specs.Rereading.{places_before}
use Rattle.keep_syntax_store.proofs.AscendLaws.{ascend_last}
use Rattle.keep_syntax_store.proofs.StartLaws.{near_step}
use Rattle.keep_syntax_store.proofs.RunLaws.{IsNear, is_near, near_all}

-- no more than there are
pub before_within : (place : ℕ) (places : List ℕ) → places_before place places ≤ length places
before_within place [] = omega arith
before_within place (x ∷ xs) = elim (leb_tells (suc x) place) [
  | inl t ↦ rw t.0 (omega (arith, before_within place xs))
  | inr t ↦ rw t.0 (omega arith)
]

-- each step leads to at most one place
pub places_within : (at : ℕ) (steps far : List ℕ) → length (places_at at steps far) ≤ length steps
places_within at [] far = omega arith
places_within at (step ∷ steps) [] = elim (eqb_tells step FAR) [
  | inl t ↦ rw t.0 (omega arith)
  | inr t ↦ rw t.0 (omega (arith, places_within (at + step) steps []))
]
places_within at (step ∷ steps) (place ∷ far) = elim (eqb_tells step FAR) [
  | inl t ↦ rw t.0 (omega (arith, places_within place steps far))
  | inr t ↦ rw t.0 (omega (arith, places_within (at + step) steps (place ∷ far)))
]

one_before : (place at : ℕ) (places : List ℕ) → at < place
    → places_before place (at ∷ places) ≡ suc (places_before place places)
one_before place at places before = rw (lt-ltb at place before)

-- all, if the last is
pub all_before : (place low : ℕ) (xs : List ℕ) → Ascend low xs → last_of low xs < place
    → places_before place xs ≡ length xs
all_before place low [] ascends before = refl
all_before place low (x ∷ xs) ascends before =
    one_before place x xs (omega (arith, before, ascend_last x xs ascends.1))
    ∙ ap suc (all_before place x xs ascends.1 before)

-- Near steps lead forward: where the last of their places is before a place, so are the others.
pub near_before : (place at : ℕ) (near rest : List ℕ) → fars near ≡ 0 → at + sum near < place
    → places_before place (places_at at near [] ++ rest) ≡ length near + places_before place rest
near_before place at [] rest none last = omega arith
near_before place at (step ∷ steps) rest none last =
    let n : IsNear step steps = is_near step steps none in
    ap (λ (ps : List ℕ). places_before place (ps ++ rest)) (near_step at step steps [] n.first)
    ∙ one_before place (at + step) (places_at (at + step) steps [] ++ rest) (omega (arith, last, n.whole))
    ∙ ap suc (near_before place (at + step) steps rest n.others (omega (arith, last, n.whole)))
    ∙ omega arith

-- a place, the near places after it, and the others
pub run_counted : (place at there : ℕ) (left after near rest : List ℕ) → left ≡ at ∷ after → at ≡ there
    → after ≡ places_at there near [] ++ rest → fars near ≡ 0
    → at < place → at + sum near < place → places_before place left ≡ 1 + length near + places_before place rest
run_counted place at there left after near rest first same split none before last =
    ap (places_before place) first
    ∙ one_before place at after before
    ∙ ap (λ (ps : List ℕ). suc (places_before place ps)) split
    ∙ ap suc (near_before place there near rest none (omega (arith, same, last)))
    ∙ omega arith

pub run_within : (at there : ℕ) (left after near rest : List ℕ) → left ≡ at ∷ after
    → after ≡ places_at there near [] ++ rest → fars near ≡ 0 → length left ≡ 1 + length near + length rest
run_within at there left after near rest first split none =
    ap length first
    ∙ omega (arith, ap length split, length-append (places_at there near []) rest, near_all there near none)
