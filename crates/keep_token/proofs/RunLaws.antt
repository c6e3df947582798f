-- Runs of bytes of a class: how long they are, what comes after them, and that they are found again.
--
-- Theorems: `prefix_len-run`: a run is found again before a byte that does not pass; `list_all-run`: each byte of a run
-- passes; `first-after_run`: the byte after a run does not.
use Rattle.std.proofs.Common.{◌≡◌, ℕ, suc, ◌+◌, ◌<◌, Bool, true, false, List, [], ◌∷◌, ◌++◌, length, take, drop, refl}
use Rattle.std.proofs.Common.{inl, inr, arith, add-zero, get_or-drop, take_at, drop_at, ◌⊎◌}
use Rattle.std.proofs.lemmas.Bool.{cases_lt, and_parts}
use Rattle.std.proofs.lemmas.List.{append-nil, get_or_past}
use Rattle.std.proofs.lemmas.List.Sums.{prefix_len_stops}
use Rattle.std.specs.List.{prefix_len, list_all}
use Rattle.keep_token.specs.Scanning.{first}

-- a test, with its outcome
pub tested : (b : Bool) → (b ≡ true) ⊎ (b ≡ false)
tested true = inl refl
tested false = inr refl

-- a run is found again before a byte that does not pass
pub prefix_len-run : (p : ℕ → Bool) (run rest : List ℕ) → list_all p run ≡ true → p (first rest) ≡ false
    → prefix_len p (run ++ rest) ≡ length run
prefix_len-run p [] [] all stop = refl
prefix_len-run p [] (c ∷ rest) all stop = rw stop
prefix_len-run p (c ∷ run) rest all stop =
    let (here, more) = and_parts (p c) (list_all p run) all in
    rw here (omega (arith, prefix_len-run p run rest more stop))

-- each byte of a run passes
pub list_all-run : (p : ℕ → Bool) (text : List ℕ) → list_all p (take (prefix_len p text) text) ≡ true
list_all-run p [] = refl
list_all-run p (c ∷ cs) =
    let one : 1 + prefix_len p cs ≡ suc (prefix_len p cs) = omega arith in
    elim (tested (p c)) [
      | inl e ↦ rw (e, one, e, list_all-run p cs) refl
      | inr e ↦ rw e refl
    ]

-- the byte after a run does not pass
pub first-after_run : (p : ℕ → Bool) (text : List ℕ) → p 0 ≡ false → p (first (drop (prefix_len p text) text)) ≡ false
first-after_run p text none =
    elim (cases_lt (prefix_len p text) (length text)) [
      | inl within ↦ rw (get_or-drop (prefix_len p text) text 0 0, add-zero) (prefix_len_stops p text 0 within)
      | inr past ↦ rw (get_or-drop (prefix_len p text) text 0 0, add-zero, get_or_past text _ 0 past) none
    ]

-- a run that begins is not empty
pub prefix_len-positive : (p : ℕ → Bool) (text : List ℕ) → p 0 ≡ false → p (first text) ≡ true → 0 < prefix_len p text
prefix_len-positive p [] none e = absurd cc
prefix_len-positive p (c ∷ cs) none e = rw e (omega arith)

-- a run is the whole text where each byte passes
pub prefix_len-all : (p : ℕ → Bool) (run : List ℕ) → list_all p run ≡ true → prefix_len p run ≡ length run
prefix_len-all p [] h = refl
prefix_len-all p (c ∷ cs) h =
    let (here, more) = and_parts (p c) (list_all p cs) h in rw here (omega (arith, prefix_len-all p cs more))

-- two runs are one
pub list_all-both : (p : ℕ → Bool) (a b : List ℕ) → list_all p a ≡ true → list_all p b ≡ true
    → list_all p (a ++ b) ≡ true
list_all-both p [] b h k = k
list_all-both p (c ∷ cs) b h k =
    let (here, more) = and_parts (p c) (list_all p cs) h in
    rw (here, list_all-both p cs b more k) refl

pub take_all : (t : List ℕ) → take (length t) t ≡ t
take_all t = rw append-nil at (take_at t [] (length t) refl)

pub drop_all : (t : List ℕ) → drop (length t) t ≡ []
drop_all t = rw append-nil at (drop_at t [] (length t) refl)
