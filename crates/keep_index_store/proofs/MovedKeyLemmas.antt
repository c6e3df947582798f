-- The entries of a map from keys to children, where the last one takes an earlier place, and under other numbers.
--
-- Theorems: `moved_index`: moving the last entry to a place gives the list with it there; `values_more`: one step of a
-- loop that gives each entry another number; `keys_moved`: entries with their new numbers are the moved children.
use Rattle.std.proofs.Common.{◌≡◌, ℕ, zero, suc, ◌+◌, ◌-◌, ◌<◌, List, [], ◌∷◌, ◌++◌, length, get_or, set, take, drop}
use Rattle.std.proofs.Common.{map, refl, sym, ◌∙◌, ap, arith, Some}
use Rattle.std.specs.Prelude.{All, slice_get}
use Rattle.std.specs.List.{insert, remove}
use Rattle.std.specs.Option.{option_map_or}
use Rattle.std.proofs.lemmas.List.{append-nil, drop_all, get_or-map, get_or_default}
use Rattle.std.proofs.lemmas.List.Edits.{map_over_more}
use Rattle.std.proofs.lemmas.List.Folds.{map_fixed}
use Rattle.std.proofs.lemmas.Option.{get_or_from_slice_get, slice_get-get_or}
use Rattle.indexmap.specs.IndexMap.{move_index, set_value_at}
use Rattle.keep_index_store.specs.Children.{ChildList, Keyed, Listed}
use Rattle.keep_index_store.specs.Moved.{with_last_at, moved_number, moved_children}

pub moved_index : {X : Type 0} (none : X) (xs : List X) (n to : ℕ) → n ≡ length xs - 1 → 0 < length xs
    → move_index xs n to ≡ with_last_at none xs to
moved_index none xs n to is some =
    let low : n < length xs = omega arith in
    ap (λ o. option_map_or (λ x. insert (remove xs n) to x) o xs) (slice_get-get_or xs n none low)
    ∙ ap (λ ys. insert ys to (get_or xs n none))
    (ap (λ ys. take n xs ++ ys) (drop_all (suc n) xs (omega arith)) ∙ append-nil (take n xs))
    ∙ ap (λ k. insert (take k xs) to (get_or xs k none)) is

-- an entry under another number
abbrev pub with_value : (ℕ → ℕ) → List ℕ × ℕ → List ℕ × ℕ
with_value f e = (e.0, f e.1)

value_set : (es : List (List ℕ × ℕ)) (i w : ℕ) (d : List ℕ × ℕ) → i < length es
    → set_value_at es i w ≡ set es i ((get_or es i d).0, w)
value_set [] i w d h = refl
value_set (e ∷ es) zero w d h = refl
value_set (e ∷ es) (suc i) w d h = ap (λ (xs : List (List ℕ × ℕ)). e ∷ xs) (value_set es i w d (omega arith))

-- a loop that renumbers each entry
pub values_more : (f : ℕ → ℕ) (xs ys : List (List ℕ × ℕ)) (i w : ℕ) → i < length xs → i < length ys
    → ys ≡ map (with_value f) (take i xs) ++ drop i xs → w ≡ f (get_or ys i ([], 0)).1
    → set_value_at ys i w ≡ map (with_value f) (take (i + 1) xs) ++ drop (i + 1) xs
values_more f xs ys i w h g is value =
    let x : List ℕ × ℕ = get_or ys i ([], 0) in
    value_set ys i w ([], 0) g ∙ ap (λ (v : ℕ). set ys i (x.0, v)) value
    ∙ map_over_more (with_value f) xs ys i x h is (get_or_default ys i ([], 0) x g)

-- entries whose numbers stay
pub entries_stay : (f : ℕ → ℕ) (es : List (List ℕ × ℕ)) → All (λ e. f e.1 ≡ e.1) es → es ≡ map (with_value f) es
entries_stay f es stay =
    sym (map_fixed (with_value f) es (λ k d h.
    let e : List ℕ × ℕ = get_or es k d in
    ap (λ (n : ℕ). let next : List ℕ × ℕ = (e.0, n) in next) (stay k d h)))

pub value_read : (es : List (List ℕ × ℕ)) (i v : ℕ) → slice_get (map (λ e. e.1) es) i ≡ Some v → i < length es
    → (get_or es i ([], 0)).1 ≡ v
value_read es i v is h =
    let d : List ℕ × ℕ = ([], 0) in
    sym (get_or-map (λ e. e.1) es i d 0 h) ∙ get_or_from_slice_get (map (λ e. e.1) es) i v 0 is

-- what the children of a node are next, by their form
pub keys_moved : (last at : ℕ) (c : ChildList) (pairs next : List (List ℕ × ℕ)) → c ≡ Keyed pairs
    → next ≡ map (with_value (moved_number last at)) pairs → Keyed next ≡ moved_children last at c
keys_moved last at c pairs next is by = ap Keyed by ∙ ap (moved_children last at) (sym is)

pub items_moved : (last at : ℕ) (c : ChildList) (ids next : List ℕ) → c ≡ Listed ids
    → next ≡ map (moved_number last at) ids → Listed next ≡ moved_children last at c
items_moved last at c ids next is by = ap Listed by ∙ ap (moved_children last at) (sym is)
