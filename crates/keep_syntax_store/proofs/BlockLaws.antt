-- Entries that are moved with their blocks: what a list of them is, cut, changed or moved once more.
--
-- What is added to an entry depends on its number alone, by the block that it is in. So a list in blocks is read entry
-- by entry: an entry that is changed changes nothing else, a prefix is the list in blocks of a prefix, and what is
-- after a block's end is read from there. Where other entries and other numbers stand in some blocks, the list is cut
-- at the ends of these: before them nothing changed, within them each entry is read, and after them each was moved
-- once, and now once more.
--
-- Theorem: `patch_gives`: a run in the place of as many entries, with other moves of the blocks after them, gives the
-- entries before, the new ones, and those after, moved.
use Rattle.std.proofs.Common.{◌≡◌, ℕ, zero, suc, ◌+◌, ◌-◌, ◌<◌, ◌≤◌, ◌/◌, List, [], ◌∷◌, ◌++◌, length, map, take, drop}
use Rattle.std.proofs.Common.{get_or, refl, sym, ap, subst, ◌∙◌, arith, append_assoc, Option, Some, None, slice_get}
use Rattle.std.specs.Prelude.{slice_range, option_map}
use Rattle.std.specs.List.{AllByRecursion}
use Rattle.std.proofs.Math.ListN.{set}
use Rattle.std.proofs.lemmas.List.{map-append, length-append, length-map, length-drop}
use Rattle.std.proofs.lemmas.List.Folds.{drop_split}
use Rattle.keep_syntax_store.specs.declared.packed_vec.TheConstants.{BLOCK}
use Rattle.keep_syntax_store.specs.Blocks.{raise_by, in_blocks, moved_on}
use Rattle.keep_syntax_store.specs.PackedVec.{with_run}
use Rattle.keep_syntax_store.proofs.ExchangeLaws.{take_length, range_length}

-- what each number from n on, up to m, has
abbrev pub From : (ℕ → Type 0) → ℕ → ℕ → Type 0
From P n m = (i : ℕ) → n ≤ i → i < m → P i

abbrev pub move_of : List (Option ℕ) → ℕ → Option ℕ
move_of moves i = get_or moves (i / BLOCK) None

module _ {E : Type 0} (raise : ℕ → E → E) where
  pub blocks_length : (ms : List (Option ℕ)) (n : ℕ) (es : List E) → length (in_blocks raise ms n es) ≡ length es
  blocks_length ms n [] = refl
  blocks_length ms n (e ∷ es) = ap suc (blocks_length ms (suc n) es)

  pub blocks_get : (ms : List (Option ℕ)) (n k : ℕ) (es : List E)
      → slice_get (in_blocks raise ms n es) k ≡ option_map (raise_by raise (move_of ms (n + k))) (slice_get es k)
  blocks_get ms n k [] = refl
  blocks_get ms n zero (e ∷ es) =
      ap (λ i. Some (raise_by raise (move_of ms i) e)) (let h : n ≡ n + 0 = omega arith in h)
  blocks_get ms n (suc k) (e ∷ es) =
      blocks_get ms (suc n) k es
      ∙ ap (λ i. option_map (raise_by raise (move_of ms i)) (slice_get es k))
      (let h : suc n + k ≡ n + suc k = omega arith in h)

  pub blocks_set : (ms : List (Option ℕ)) (n k : ℕ) (e : E) (es : List E)
      → in_blocks raise ms n (set es k e) ≡ set (in_blocks raise ms n es) k (raise_by raise (move_of ms (n + k)) e)
  blocks_set ms n k e [] = refl
  blocks_set ms n zero e (d ∷ es) =
      ap (λ i. raise_by raise (move_of ms i) e ∷ in_blocks raise ms (suc n) es) (let h : n ≡ n + 0 = omega arith in h)
  blocks_set ms n (suc k) e (d ∷ es) =
      ap (λ xs. raise_by raise (move_of ms n) d ∷ xs) (blocks_set ms (suc n) k e es)
      ∙ ap (λ i.
      raise_by raise (move_of ms n) d ∷ set (in_blocks raise ms (suc n) es) k (raise_by raise (move_of ms i) e))
      (let h : suc n + k ≡ n + suc k = omega arith in h)

  pub blocks_append : (ms : List (Option ℕ)) (n : ℕ) (xs ys : List E)
      → in_blocks raise ms n (xs ++ ys) ≡ in_blocks raise ms n xs ++ in_blocks raise ms (n + length xs) ys
  blocks_append ms n [] ys = ap (λ i. in_blocks raise ms i ys) (let h : n ≡ n + 0 = omega arith in h)
  blocks_append ms n (x ∷ xs) ys =
      ap (λ zs. raise_by raise (move_of ms n) x ∷ zs) (blocks_append ms (suc n) xs ys)
      ∙ ap (λ i. raise_by raise (move_of ms n) x ∷ (in_blocks raise ms (suc n) xs ++ in_blocks raise ms i ys))
      (let h : suc n + length xs ≡ n + suc (length xs) = omega arith in h)

  pub blocks_take : (ms : List (Option ℕ)) (n k : ℕ) (es : List E)
      → take k (in_blocks raise ms n es) ≡ in_blocks raise ms n (take k es)
  blocks_take ms n zero es = refl
  blocks_take ms n (suc k) [] = refl
  blocks_take ms n (suc k) (e ∷ es) = ap (λ xs. raise_by raise (move_of ms n) e ∷ xs) (blocks_take ms (suc n) k es)

  pub blocks_drop : (ms : List (Option ℕ)) (n k : ℕ) (es : List E)
      → drop k (in_blocks raise ms n es) ≡ in_blocks raise ms (n + k) (drop k es)
  blocks_drop ms n zero es = ap (λ i. in_blocks raise ms i es) (let h : n ≡ n + 0 = omega arith in h)
  blocks_drop ms n (suc k) [] = refl
  blocks_drop ms n (suc k) (e ∷ es) =
      blocks_drop ms (suc n) k es
      ∙ ap (λ i. in_blocks raise ms i (drop k es)) (let h : suc n + k ≡ n + suc k = omega arith in h)

  -- blocks that are moved alike
  pub blocks_alike : (ms ms2 : List (Option ℕ)) (n : ℕ) (es : List E)
      → From (λ i. move_of ms2 i ≡ move_of ms i) n (n + length es) → in_blocks raise ms2 n es ≡ in_blocks raise ms n es
  blocks_alike ms ms2 n [] h = refl
  blocks_alike ms ms2 n (e ∷ es) h =
      ap (λ m. raise_by raise m e ∷ in_blocks raise ms2 (suc n) es) (h n (omega arith) (omega arith))
      ∙ ap (λ xs. raise_by raise (move_of ms n) e ∷ xs)
      (blocks_alike ms ms2 (suc n) es (λ i low high. h i (omega (arith, low)) (omega (arith, high))))

  -- blocks that are not moved
  pub blocks_still : (ms : List (Option ℕ)) (n : ℕ) (es : List E) → From (λ i. move_of ms i ≡ None) n (n + length es)
      → in_blocks raise ms n es ≡ es
  blocks_still ms n [] h = refl
  blocks_still ms n (e ∷ es) h =
      ap (λ m. raise_by raise m e ∷ in_blocks raise ms (suc n) es) (h n (omega arith) (omega arith))
      ∙ ap (λ xs. e ∷ xs) (blocks_still ms (suc n) es (λ i low high. h i (omega (arith, low)) (omega (arith, high))))

  pub no_blocks : (n : ℕ) (es : List E) → in_blocks raise [] n es ≡ es
  no_blocks n [] = refl
  no_blocks n (e ∷ es) = ap (λ xs. e ∷ xs) (no_blocks (suc n) es)

  -- blocks that are moved once more
  module _ (by : ℕ) (move : E → E) (Held : E → Type 0) (once : (e : E) → Held e → raise by e ≡ move e)
      (again : (more : ℕ) (e : E) → Held (raise more e)
      → raise_by raise (moved_on by (Some more)) e ≡ move (raise more e)) where
    one_more : (m : Option ℕ) (e : E) → Held (raise_by raise m e)
        → raise_by raise (moved_on by m) e ≡ move (raise_by raise m e)
    one_more None e h = once e h
    one_more (Some more) e h = again more e h

    pub blocks_moved : (ms ms2 : List (Option ℕ)) (n : ℕ) (es : List E)
        → From (λ i. move_of ms2 i ≡ moved_on by (move_of ms i)) n (n + length es)
        → AllByRecursion Held (in_blocks raise ms n es) → in_blocks raise ms2 n es ≡ map move (in_blocks raise ms n es)
    blocks_moved ms ms2 n [] h held = refl
    blocks_moved ms ms2 n (e ∷ es) h held =
        ap (λ m. raise_by raise m e ∷ in_blocks raise ms2 (suc n) es) (h n (omega arith) (omega arith))
        ∙ ap (λ x. x ∷ in_blocks raise ms2 (suc n) es) (one_more (move_of ms n) e held.0)
        ∙ ap (λ xs. move (raise_by raise (move_of ms n) e) ∷ xs)
        (blocks_moved ms ms2 (suc n) es (λ i low high. h i (omega (arith, low)) (omega (arith, high))) held.1)

-- ---- a run in the place of as many entries

all_drop : {A : Type 0} (P : A → Type 0) (xs : List A) (n m : ℕ) → n ≤ m → AllByRecursion P (drop n xs)
    → AllByRecursion P (drop m xs)
all_drop P xs zero zero h all = all
all_drop P [] zero (suc m) h all = tt
all_drop P (x ∷ xs) zero (suc m) h all = all_drop P xs zero m (omega arith) all.1
all_drop P [] (suc n) m h all = none m
  where
    none : (m : ℕ) → AllByRecursion P (drop m [])
    none zero = tt
    none (suc m) = tt
all_drop P (x ∷ xs) (suc n) zero h all = absurd (omega (arith, h))
all_drop P (x ∷ xs) (suc n) (suc m) h all = all_drop P xs n m (omega (arith, h)) all

take_none : {A : Type 0} (k : ℕ) → ◌≡◌ {A = List A} (take k []) []
take_none zero = refl
take_none (suc k) = refl

take_split : {A : Type 0} (xs : List A) (n m : ℕ) → n ≤ m → take n xs ++ slice_range xs n m ≡ take m xs
take_split xs zero m h = ap (λ k. take k xs) (let e : m - 0 ≡ m = omega arith in e)
take_split [] (suc n) m h = take_none (m - suc n) ∙ sym (take_none m)
take_split (x ∷ xs) (suc n) zero h = absurd (omega (arith, h))
take_split (x ∷ xs) (suc n) (suc m) h =
    ap (λ k. x ∷ (take n xs ++ take k (drop n xs))) (let e : suc m - suc n ≡ m - n = omega arith in e)
    ∙ ap (λ ys. x ∷ ys) (take_split xs n m (omega (arith, h)))

module _ {E : Type 0} (raise : ℕ → E → E) (still fresh_move move : E → E) (Held : E → Type 0) (by : ℕ)
    (stays : (e : E) → still e ≡ e) (once : (e : E) → Held e → raise by e ≡ move e)
    (again : (more : ℕ) (e : E) → Held (raise more e)
    → raise_by raise (moved_on by (Some more)) e ≡ move (raise more e))
    (xs run : List E) (ms ms2 : List (Option ℕ)) (fresh : List E) (from to start end : ℕ) where
  abbrev es : List E
  es = in_blocks raise ms 0 xs

  pub patch_gives : start ≤ from → from ≤ to → to ≤ end → end ≤ length xs → length fresh + from ≡ to
      → run ≡ (map still (slice_range es start from) ++ map fresh_move fresh) ++ map move (slice_range es to end)
      → From (λ i. move_of ms2 i ≡ move_of ms i) 0 start → From (λ i. move_of ms2 i ≡ None) start end
      → From (λ i. move_of ms2 i ≡ moved_on by (move_of ms i)) end (length xs)
      → AllByRecursion Held (drop to es)
      → in_blocks raise ms2 0 (with_run xs start run) ≡ take from es ++ (map fresh_move fresh ++ map move (drop to es))
  patch_gives a b c d size is before inside later held =
      ap (λ k. in_blocks raise ms2 0 (take start xs ++ (run ++ drop k xs)))
      (let e : start + length run ≡ end = omega (arith, parts_len, a, b, c) in e)
      ∙ blocks_append raise ms2 0 (take start xs) (run ++ drop end xs)
      ∙ ap (λ ys. ys ++ in_blocks raise ms2 (0 + length (take start xs)) (run ++ drop end xs))
      (blocks_alike raise ms ms2 0 (take start xs) (λ i low high. before i low (omega (arith, high, first)))
      ∙ sym (blocks_take raise ms 0 start xs))
      ∙ ap (λ k. take start es ++ in_blocks raise ms2 k (run ++ drop end xs))
      (let z : 0 + length (take start xs) ≡ start = omega (arith, first) in z)
      ∙ ap (λ ys. take start es ++ ys) (blocks_append raise ms2 start run (drop end xs))
      ∙ ap (λ ys. take start es ++ (ys ++ in_blocks raise ms2 (start + length run) (drop end xs)))
      (blocks_still raise ms2 start run (λ i low high. inside i low (omega (arith, high, middle))))
      ∙ ap (λ k. take start es ++ (run ++ in_blocks raise ms2 k (drop end xs))) middle
      ∙ ap (λ ys. take start es ++ (run ++ ys))
      (blocks_moved raise by move Held once again ms ms2 end (drop end xs)
      (λ i low high. later i low (omega (arith, high, length-drop end xs, d)))
      (subst (AllByRecursion Held) dropped (all_drop Held es to end c held))
      ∙ ap (map move) (sym dropped))
      ∙ ap (λ ys. take start es ++ (ys ++ map move (drop end es))) is
      ∙ ap (λ ys.
      take start es ++ (((ys ++ map fresh_move fresh) ++ map move (slice_range es to end)) ++ map move (drop end es)))
      (same (slice_range es start from))
      ∙ joined
    where
      first : length (take start xs) ≡ start
      first = take_length xs start (omega (arith, a, b, c, d))

      dropped : drop end es ≡ in_blocks raise ms end (drop end xs)
      dropped =
          blocks_drop raise ms 0 end xs
          ∙ ap (λ k. in_blocks raise ms k (drop end xs)) (let z : 0 + end ≡ end = omega arith in z)

      count : length es ≡ length xs
      count = blocks_length raise ms 0 xs

      same : (ys : List E) → map still ys ≡ ys
      same [] = refl
      same (y ∷ ys) = ap (λ z. z ∷ map still ys) (stays y) ∙ ap (λ zs. y ∷ zs) (same ys)

      parts_len : length run ≡ end - start
      parts_len = omega (
        arith,
        ap length is,
        length-append (map still (slice_range es start from) ++ map fresh_move fresh)
            (map move (slice_range es to end)),
        length-append (map still (slice_range es start from)) (map fresh_move fresh),
        length-map (slice_range es start from) still,
        length-map fresh fresh_move,
        length-map (slice_range es to end) move,
        range_length es start from a (omega (arith, b, c, d, count)),
        range_length es to end c (omega (arith, d, count)),
        size,
        a,
        b,
        c,
      )

      middle : start + length run ≡ end
      middle = omega (arith, parts_len, a, b, c)

      joined : take start es ++ (((slice_range es start from ++ map fresh_move fresh)
          ++ map move (slice_range es to end)) ++ map move (drop end es))
          ≡ take from es ++ (map fresh_move fresh ++ map move (drop to es))
      joined =
          let x = take start es in
          let y = slice_range es start from in
          let z = map fresh_move fresh in
          let u = map move (slice_range es to end) in
          let v = map move (drop end es) in
          ap (λ ys. x ++ ys) (append_assoc (y ++ z) u v ∙ append_assoc y z (u ++ v))
          ∙ sym (append_assoc x y (z ++ (u ++ v)))
          ∙ ap (λ ys. ys ++ (z ++ (u ++ v))) (take_split es start from a)
          ∙ ap (λ ys. take from es ++ (z ++ ys))
          (sym (map-append move (slice_range es to end) (drop end es)) ∙ ap (map move) (sym (drop_split es to end c)))
