-- The entries of a map with another key in place of one.
--
-- The map cannot change the key of an entry. So the entry with the other key is added as the last, and then the old one
-- is removed by moving the last to its place (`swap_remove`): all others are where they were (`swap_pushed`). The child
-- is read from the entry first, so that the two together give that entry with another key.
--
-- Theorems: `key_set_at` and `swapped`.
use Rattle.std.proofs.Common.{◌≡◌, ◌∙◌, ℕ, ◌-◌, ◌<◌, List, [], ◌∷◌, ◌++◌, length, get_or, set, take, map, refl, sym, ap}
use Rattle.std.proofs.Common.{arith, length-append, Option, None, Some}
use Rattle.std.specs.Prelude.{IfSome, slice_get, swap_remove}
use Rattle.std.proofs.lemmas.List.{get_or-map, get_or_push, length-map, length-set, set-append_left}
use Rattle.std.proofs.lemmas.Option.{slice_get-get_or, slice_get_within, get_or_from_slice_get}
use Rattle.std.proofs.Math.Seq.{take-append_seam}
use Rattle.keep_index_store.specs.KeyMaps.{with_key_at}

-- the child of an entry, and the entry with another key
entry_child : (now : List (List ℕ × ℕ)) (n child : ℕ) → slice_get (map (λ e. e.1) now) n ≡ Some child
    → (get_or now n ([], 0)).1 ≡ child
entry_child now n child is =
    let low : n < length now =
    omega (arith, slice_get_within (map (λ e. e.1) now) n child is, length-map now (λ (e : List ℕ × ℕ). e.1)) in
    sym (get_or-map (λ (e : List ℕ × ℕ). e.1) now n ([], 0) 0 low)
    ∙ get_or_from_slice_get (map (λ e. e.1) now) n child 0 is

pub key_set_at : (now : List (List ℕ × ℕ)) (n : ℕ) (key : List ℕ) (child : ℕ)
    → slice_get (map (λ e. e.1) now) n ≡ Some child → set now n (key, child) ≡ with_key_at now n key
key_set_at now n key child is = ap (λ k. set now n (key, k)) (sym (entry_child now n child is))

-- the last of a list, which goes to the place of another
swap_pushed : {X : Type 0} (es : List X) (x p : X) (n : ℕ) → n < length es → swap_remove (es ++ x ∷ []) n p ≡ set es n x
swap_pushed es x p n low =
    let last : length (es ++ x ∷ []) - 1 ≡ length es = omega (arith, length-append es (x ∷ [])) in
    ap (λ k. take k (set (es ++ x ∷ []) n (get_or (es ++ x ∷ []) k p))) last
    ∙ ap (λ y. take (length es) (set (es ++ x ∷ []) n y)) (get_or_push es x p (length es) refl)
    ∙ ap (take (length es)) (set-append_left es (x ∷ []) n x low)
    ∙ ap (λ k. take k (set es n x ++ x ∷ [])) (sym (length-set es n x)) ∙ take-append_seam (set es n x) (x ∷ [])

pub swapped : {X : Type 0} (es longer new : List X) (x : X) (n : ℕ) (o : Option X) → longer ≡ es ++ x ∷ []
    → n < length es → o ≡ slice_get longer n → IfSome o (λ p. new ≡ swap_remove longer n p) → new ≡ set es n x
swapped es longer new x n None is low met more =
    let there = slice_get-get_or longer n x (omega (arith, low, ap length is, length-append es (x ∷ []))) in absurd cc
swapped es longer new x n (Some p) is low met more = more ∙ ap (λ xs. swap_remove xs n p) is ∙ swap_pushed es x p n low
