-- Lists of entries, packed and not: one more, one by its number, one changed, and all packed.
--
-- Three steps give the entries of a list (`of_lists`): what is packed is unpacked, the entries that do not fit are put
-- in at their numbers (`with_unfit`), and each entry is moved with its block (`in_blocks`). What the last two steps do
-- to an entry depends on its number alone, so the lemmas here join one of `UnfitLaws` and one of `BlockLaws`: for one
-- more (`unfit_append`, `blocks_append`), for one by its number (`unfit_get`, `blocks_get`), and for one changed
-- (`unfit_set` or `unfit_changed`, `blocks_set`). Which of the two forms an entry has is what is `found` at its number.
-- A packed entry that is pushed has a number after all of those that do not fit (`found_before`); another one is pushed
-- as the last of them (`found_last`).
--
-- Theorems: `entries_length`: how many entries there are; `packed_at`: a packed entry by its number; `all_packed`:
-- where all are packed and no block is moved, the entries are the packed ones, unpacked.
use Rattle.std.proofs.Common.{◌≡◌, ℕ, zero, suc, ◌+◌, ◌<◌, List, [], ◌∷◌, ◌++◌, length, map, get_or, refl, sym, ap, ◌∙◌}
use Rattle.std.proofs.Common.{arith, Option, Some, None, slice_get}
use Rattle.std.specs.Prelude.{option_map, unwrap_or}
use Rattle.std.proofs.Math.ListN.{set}
use Rattle.std.proofs.lemmas.List.{map-append, length-map, map-set}
use Rattle.std.proofs.lemmas.Option.{slice_get-map, slice_get_read}
use Rattle.keep_syntax_store.specs.declared.packed_vec.PackedVec.{PackedVec}
use Rattle.keep_syntax_store.specs.declared.unfit.Numbered.{Numbered}
use Rattle.keep_syntax_store.specs.Blocks.{raise_by, in_blocks}
use Rattle.keep_syntax_store.specs.Unfit.{numbered, found, AreBefore, IsChangedAt, with_unfit}
use Rattle.keep_syntax_store.specs.PackedVec.{entries, IsAllPacked, HasSameRest}
use Rattle.keep_syntax_store.proofs.BlockLaws.{move_of, blocks_length, blocks_get, blocks_set, blocks_append, no_blocks}
use Rattle.keep_syntax_store.proofs.UnfitLaws.{unfit_length, no_unfit, unfit_get, unfit_append, unfit_alike, unfit_set}
use Rattle.keep_syntax_store.proofs.UnfitLaws.{unfit_changed, found_before, found_earlier, found_last}

pub no_items : {A : Type 0} (xs : List A) → length xs ≡ 0 → xs ≡ []
no_items [] e = refl
no_items (x ∷ xs) e = absurd (omega (arith, e))

-- ---- the same entries

pub same_rest : {E P : Type 0} (u v w : PackedVec E P) → HasSameRest u v → HasSameRest v w → HasSameRest u w
same_rest u v w a b = record { unfit = b.unfit ∙ a.unfit; moves = b.moves ∙ a.moves }

pub still_packed : {E P : Type 0} (v w : PackedVec E P) → HasSameRest v w → IsAllPacked v → IsAllPacked w
still_packed v w h p = record { packed = h.unfit ∙ p.packed; still = h.moves ∙ p.still }

module _ {E P : Type 0} (unpack : P → E) (raise : ℕ → E → E) where
  abbrev of_lists : List (Option ℕ) → List P → List (Numbered E) → List E
  of_lists ms ps us = in_blocks raise ms 0 (with_unfit us 0 (map unpack ps))

  pub same_entries : (v w : PackedVec E P) → w.packed.items ≡ v.packed.items → HasSameRest v w
      → entries unpack raise w ≡ entries unpack raise v
  same_entries v w e h =
      ap (λ ms. of_lists ms w.packed.items w.unfit) h.moves
      ∙ ap (λ ps. of_lists v.moves.items ps w.unfit) e
      ∙ ap (λ us. of_lists v.moves.items v.packed.items us) h.unfit

  pub all_packed : (v : PackedVec E P) → IsAllPacked v → entries unpack raise v ≡ map unpack v.packed.items
  all_packed v h =
      ap (λ ms. of_lists ms v.packed.items v.unfit) h.still
      ∙ no_blocks raise 0 (with_unfit v.unfit 0 (map unpack v.packed.items))
      ∙ ap (λ us. with_unfit us 0 (map unpack v.packed.items)) h.packed
      ∙ no_unfit 0 (map unpack v.packed.items)

  list_length : (v : PackedVec E P) → length (with_unfit v.unfit 0 (map unpack v.packed.items)) ≡ length v.packed.items
  list_length v = unfit_length v.unfit 0 (map unpack v.packed.items) ∙ length-map v.packed.items unpack

  pub entries_length : (v : PackedVec E P) → length (entries unpack raise v) ≡ length v.packed.items
  entries_length v =
      blocks_length raise v.moves.items 0 (with_unfit v.unfit 0 (map unpack v.packed.items)) ∙ list_length v

  -- ---- one more

  -- what is at the end of a list with one more
  one_more : (ms : List (Option ℕ)) (us : List (Numbered E)) (ps : List P) (s : P)
      → of_lists ms (ps ++ s ∷ []) us
      ≡ of_lists ms ps us ++ raise_by raise (move_of ms (length ps)) (unwrap_or (found (length ps) us) (unpack s)) ∷ []
  one_more ms us ps s =
      ap (λ xs. in_blocks raise ms 0 (with_unfit us 0 xs)) (map-append unpack ps (s ∷ []))
      ∙ ap (λ xs. in_blocks raise ms 0 xs) (unfit_append us 0 (map unpack ps) (unpack s ∷ []))
      ∙ blocks_append raise ms 0 (with_unfit us 0 (map unpack ps))
      (with_unfit us (0 + length (map unpack ps)) (unpack s ∷ []))
      ∙ ap (λ n.
      of_lists ms ps us ++ raise_by raise (move_of ms n) (unwrap_or (found (0 + length (map unpack ps)) us) (unpack s))
      ∷ [])
      (let e : 0 + length (with_unfit us 0 (map unpack ps)) ≡ length ps =
      omega (arith, unfit_length us 0 (map unpack ps), length-map ps unpack) in e)
      ∙ ap (λ n. of_lists ms ps us ++ raise_by raise (move_of ms (length ps)) (unwrap_or (found n us) (unpack s)) ∷ [])
      (let e : 0 + length (map unpack ps) ≡ length ps = omega (arith, length-map ps unpack) in e)

  pub pushed : (v : PackedVec E P) (ps : List P) (s : P) (e : E) → v.moves.items ≡ []
      → AreBefore (length v.packed.items) v.unfit → unpack s ≡ e → ps ≡ v.packed.items ++ s ∷ []
      → of_lists v.moves.items ps v.unfit ≡ entries unpack raise v ++ e ∷ []
  pushed v ps s e still before is all =
      let n = length v.packed.items in
      ap (λ xs. of_lists v.moves.items xs v.unfit) all
      ∙ one_more v.moves.items v.unfit v.packed.items s
      ∙ ap (λ ms. entries unpack raise v ++ raise_by raise (move_of ms n) (unwrap_or (found n v.unfit) (unpack s)) ∷ [])
      still
      ∙ ap (λ m. entries unpack raise v ++ unwrap_or m (unpack s) ∷ []) (found_before n n v.unfit before (omega arith))
      ∙ ap (λ x. entries unpack raise v ++ x ∷ []) is

  pub pushed_unfit : (v : PackedVec E P) (ps : List P) (us : List (Numbered E)) (s : P) (n : ℕ) (e x : E)
      → n ≡ length v.packed.items
      → raise_by raise (move_of v.moves.items n) x ≡ e → AreBefore n v.unfit → us ≡ v.unfit ++ numbered n x ∷ []
      → ps ≡ v.packed.items ++ s ∷ []
      → of_lists v.moves.items ps us ≡ entries unpack raise v ++ e ∷ []
  pushed_unfit v ps us s n e x is raised before more all =
      let xs = map unpack v.packed.items in
      ap (λ qs. of_lists v.moves.items qs us) all
      ∙ one_more v.moves.items us v.packed.items s
      ∙ ap (λ k.
      of_lists v.moves.items v.packed.items us
      ++ raise_by raise (move_of v.moves.items k) (unwrap_or (found k us) (unpack s)) ∷ []) (sym is)
      ∙ ap (λ m.
      of_lists v.moves.items v.packed.items us ++ raise_by raise (move_of v.moves.items n) (unwrap_or m (unpack s))
      ∷ []) (ap (found n) more ∙ found_last n x v.unfit before)
      ∙ ap (λ y. of_lists v.moves.items v.packed.items us ++ y ∷ []) raised
      ∙ ap (λ ys. in_blocks raise v.moves.items 0 ys ++ e ∷ [])
      (unfit_alike v.unfit us 0 xs (λ i low high. ap (found i) more
      ∙ found_earlier i n x v.unfit (λ z. omega (arith, high, is, z, length-map v.packed.items unpack))))

  -- ---- one by its number

  at : (v : PackedVec E P) (n : ℕ) (s : P) → n < length v.packed.items → s ≡ get_or v.packed.items n s
      → slice_get (entries unpack raise v) n
      ≡ Some (raise_by raise (move_of v.moves.items n) (unwrap_or (found n v.unfit) (unpack s)))
  at v n s h e =
      let xs = map unpack v.packed.items in
      blocks_get raise v.moves.items 0 n (with_unfit v.unfit 0 xs)
      ∙ ap (λ k. option_map (raise_by raise (move_of v.moves.items k)) (slice_get (with_unfit v.unfit 0 xs) n))
      (let z : 0 + n ≡ n = omega arith in z)
      ∙ ap (option_map (raise_by raise (move_of v.moves.items n)))
      (unfit_get v.unfit 0 n xs
      ∙ ap (λ k. option_map (unwrap_or (found k v.unfit)) (slice_get xs n)) (let z : 0 + n ≡ n = omega arith in z)
      ∙ ap (option_map (unwrap_or (found n v.unfit)))
      (slice_get-map unpack v.packed.items n
      ∙ ap (option_map unpack) (slice_get_read v.packed.items (length v.packed.items) n s refl h e)))

  pub packed_at : (v : PackedVec E P) (n : ℕ) (s : P) → n < length v.packed.items → found n v.unfit ≡ None
      → s ≡ get_or v.packed.items n s
      → slice_get (entries unpack raise v) n ≡ Some (raise_by raise (move_of v.moves.items n) (unpack s))
  packed_at v n s h none e =
      at v n s h e ∙ ap (λ m. Some (raise_by raise (move_of v.moves.items n) (unwrap_or m (unpack s)))) none

  pub unfit_at : (v : PackedVec E P) (n : ℕ) (e : E) → n < length v.packed.items → found n v.unfit ≡ Some e
      → slice_get (entries unpack raise v) n ≡ Some (raise_by raise (move_of v.moves.items n) e)
  unfit_at v n e h some = some_at (read v.packed.items n h)
    where
      read : (ps : List P) (n : ℕ) → n < length ps → (s : P) × (s ≡ get_or ps n s)
      read [] n h = absurd (omega (arith, h))
      read (p ∷ ps) zero h = (p, refl)
      read (p ∷ ps) (suc n) h = read ps n (omega (arith, h))

      some_at : (s : P) × (s ≡ get_or v.packed.items n s)
          → slice_get (entries unpack raise v) n ≡ Some (raise_by raise (move_of v.moves.items n) e)
      some_at q =
          at v n q.0 h q.1 ∙ ap (λ m. Some (raise_by raise (move_of v.moves.items n) (unwrap_or m (unpack q.0)))) some

  -- ---- one changed

  pub set_packed : (v : PackedVec E P) (n : ℕ) (s : P) → found n v.unfit ≡ None
      → of_lists v.moves.items (set v.packed.items n s) v.unfit
      ≡ set (entries unpack raise v) n (raise_by raise (move_of v.moves.items n) (unpack s))
  set_packed v n s none =
      let xs = map unpack v.packed.items in
      ap (λ ys. in_blocks raise v.moves.items 0 (with_unfit v.unfit 0 ys)) (map-set unpack v.packed.items n s)
      ∙ ap (λ ys. in_blocks raise v.moves.items 0 ys)
      (unfit_set v.unfit 0 n (unpack s) xs (ap (λ k. found k v.unfit) (let z : 0 + n ≡ n = omega arith in z) ∙ none))
      ∙ blocks_set raise v.moves.items 0 n (unpack s) (with_unfit v.unfit 0 xs)
      ∙ ap (λ k. set (entries unpack raise v) n (raise_by raise (move_of v.moves.items k) (unpack s)))
      (let z : 0 + n ≡ n = omega arith in z)

  pub set_unfit : (v : PackedVec E P) (us : List (Numbered E)) (n : ℕ) (e : E) → IsChangedAt n e v.unfit us
      → of_lists v.moves.items v.packed.items us
      ≡ set (entries unpack raise v) n (raise_by raise (move_of v.moves.items n) e)
  set_unfit v us n e h =
      let xs = map unpack v.packed.items in
      ap (λ ys. in_blocks raise v.moves.items 0 ys) (unfit_changed v.unfit us 0 n e xs (same (0 + n) (omega arith)))
      ∙ blocks_set raise v.moves.items 0 n e (with_unfit v.unfit 0 xs)
      ∙ ap (λ k. set (entries unpack raise v) n (raise_by raise (move_of v.moves.items k) e))
      (let z : 0 + n ≡ n = omega arith in z)
    where
      same : (k : ℕ) → n ≡ k → IsChangedAt k e v.unfit us
      same k z = rw (sym z) h
