-- The move of a block is brought into its packed entries: what the list stores stays the same.
--
-- The list is cut into the entries before the block, those in it, and those after it (`parts`). Those of other blocks
-- are moved as before (`before`, `after`), since the move of this block alone is another. Those of the block were moved
-- by one number (`blocks_raised`), and are not moved any more, but are stored as that number made them (`within`).
--
-- Theorem: `block_settled`: the entries with the moves before are those that are stored then, with the moves then.
use Rattle.std.proofs.Common.{◌≡◌, ℕ, suc, ◌+◌, ◌-◌, ◌*◌, ◌/◌, ◌<◌, ◌≤◌, min, List, [], ◌∷◌, ◌++◌, length, map}
use Rattle.std.proofs.Common.{take, drop, get_or, refl, sym, ap, ◌∙◌, arith, Option, Some, None}
use Rattle.std.specs.Prelude.{slice_range}
use Rattle.std.proofs.Math.ListN.{set}
use Rattle.std.proofs.Math.Nat.{div-mul-le_self, lt-div-mul-add}
use Rattle.std.proofs.lemmas.List.{map-append, length-map, length-drop, get_or-set_same, get_or-set_other}
use Rattle.keep_syntax_store.specs.Blocks.{raise_by, in_blocks}
use Rattle.keep_syntax_store.specs.Unfit.{with_unfit}
use Rattle.keep_syntax_store.proofs.BlockLaws.{From, move_of, blocks_append, blocks_alike, blocks_still}
use Rattle.keep_syntax_store.proofs.ExchangeLaws.{three, take_length, range_length}
use Rattle.keep_syntax_store.proofs.UnfitLaws.{no_unfit}

module _ {E P : Type 0} (unpack : P → E) (raise : ℕ → E → E) where
  -- entries in blocks that are moved by one number
  blocks_raised : (ms : List (Option ℕ)) (by n : ℕ) (es : List E)
      → From (λ i. move_of ms i ≡ Some by) n (n + length es) → in_blocks raise ms n es ≡ map (raise by) es
  blocks_raised ms by n [] h = refl
  blocks_raised ms by n (e ∷ es) h =
      ap (λ m. raise_by raise m e ∷ in_blocks raise ms (suc n) es) (h n (omega arith) (omega arith))
      ∙ ap (λ xs. raise by e ∷ xs)
      (blocks_raised ms by (suc n) es (λ i low high. h i (omega (arith, low)) (omega (arith, high))))

  parts : (ms : List (Option ℕ)) (xs ys zs : List P)
      → in_blocks raise ms 0 (map unpack (xs ++ (ys ++ zs)))
      ≡ in_blocks raise ms 0 (map unpack xs) ++ (in_blocks raise ms (length xs) (map unpack ys)
      ++ in_blocks raise ms (length xs + length ys) (map unpack zs))
  parts ms xs ys zs =
      let a = map unpack xs in
      let b = map unpack ys in
      let c = map unpack zs in
      ap (in_blocks raise ms 0) (map-append unpack xs (ys ++ zs) ∙ ap (λ es. a ++ es) (map-append unpack ys zs))
      ∙ blocks_append raise ms 0 a (b ++ c)
      ∙ ap (λ n. in_blocks raise ms 0 a ++ in_blocks raise ms n (b ++ c))
      (let e : 0 + length a ≡ length xs = omega (arith, length-map xs unpack) in e)
      ∙ ap (λ es. in_blocks raise ms 0 a ++ es) (blocks_append raise ms (length xs) b c)
      ∙ ap (λ n. in_blocks raise ms 0 a ++ (in_blocks raise ms (length xs) b ++ in_blocks raise ms (length xs + n) c))
      (length-map ys unpack)

  module _ (ms : List (Option ℕ)) (ps run : List P) (block start end by : ℕ) (there : block < length ms)
      (is : get_or ms block None ≡ Some by) (from : start ≡ min (block * 16) (length ps))
      (to : end ≡ start + min 16 (length ps - start))
      (raised : map unpack run ≡ map (raise by) (map unpack (slice_range ps start end))) where
    abbrev moves : List (Option ℕ)
    moves = set ms block None

    low : (i : ℕ) → i / 16 * 16 ≤ i
    low i = div-mul-le_self i 16

    high : (i : ℕ) → i < i / 16 * 16 + 16
    high i = lt-div-mul-add (omega arith)

    first : length (take start ps) ≡ start
    first = take_length ps start (omega (arith, from))

    middle : length (slice_range ps start end) ≡ end - start
    middle = range_length ps start end (omega (arith, to)) (omega (arith, from, to))

    middle_run : length run ≡ end - start
    middle_run = omega (
      arith,
      ap length raised,
      length-map run unpack,
      length-map (map unpack (slice_range ps start end)) (raise by),
      length-map (slice_range ps start end) unpack,
      middle,
    )

    other : (i : ℕ) → (i / 16 ≡ block → ⊥) → move_of moves i ≡ move_of ms i
    other i h = get_or-set_other ms block (i / 16) None None h

    inside : (i : ℕ) → start ≤ i → i < end → i / 16 ≡ block
    inside i below above = omega (arith, below, above, from, to, low i, high i)

    before : in_blocks raise moves 0 (map unpack (take start ps)) ≡ in_blocks raise ms 0 (map unpack (take start ps))
    before =
        blocks_alike raise ms moves 0 (map unpack (take start ps)) (λ i below above.
        other i (λ e. omega (arith, above, length-map (take start ps) unpack, first, from, e, low i)))

    within : in_blocks raise moves start (map unpack run)
        ≡ in_blocks raise ms start (map unpack (slice_range ps start end))
    within =
        blocks_still raise moves start (map unpack run) (λ i below above.
        ap (λ k. get_or moves k None)
        (inside i below (omega (arith, above, length-map run unpack, middle_run, to)))
        ∙ get_or-set_same ms block None None there)
        ∙ raised
        ∙ sym (blocks_raised ms by start (map unpack (slice_range ps start end)) (λ i below above.
        ap (λ k. get_or ms k None)
        (inside i below (omega (arith, above, length-map (slice_range ps start end) unpack, middle, to)))
        ∙ is))

    after : in_blocks raise moves end (map unpack (drop end ps)) ≡ in_blocks raise ms end (map unpack (drop end ps))
    after =
        blocks_alike raise ms moves end (map unpack (drop end ps)) (λ i below above.
        other i (λ e. omega (
          arith,
          below,
          above,
          length-map (drop end ps) unpack,
          length-drop end ps,
          from,
          to,
          e,
          high i,
        )))

    pub block_settled : in_blocks raise moves 0 (with_unfit [] 0 (map unpack (take start ps ++ (run ++ drop end ps))))
        ≡ in_blocks raise ms 0 (with_unfit [] 0 (map unpack ps))
    block_settled =
        let a = map unpack (take start ps) in
        let b = map unpack (slice_range ps start end) in
        let c = map unpack (drop end ps) in
        ap (in_blocks raise moves 0) (no_unfit 0 (map unpack (take start ps ++ (run ++ drop end ps))))
        ∙ parts moves (take start ps) run (drop end ps)
        ∙ ap (λ n.
        in_blocks raise moves 0 a ++ (in_blocks raise moves n (map unpack run)
        ++ in_blocks raise moves (n + length run) c)) first
        ∙ ap (λ n.
        in_blocks raise moves 0 a ++ (in_blocks raise moves start (map unpack run) ++ in_blocks raise moves n c))
        (let e : start + length run ≡ end = omega (arith, middle_run, to) in e)
        ∙ ap (λ es. es ++ (in_blocks raise moves start (map unpack run) ++ in_blocks raise moves end c)) before
        ∙ ap (λ es. in_blocks raise ms 0 a ++ (es ++ in_blocks raise moves end c)) within
        ∙ ap (λ es. in_blocks raise ms 0 a ++ (in_blocks raise ms start b ++ es)) after
        ∙ sym (
        ap (λ qs. in_blocks raise ms 0 (with_unfit [] 0 (map unpack qs))) (three ps start end (omega (arith, to)))
        ∙ ap (in_blocks raise ms 0)
        (no_unfit 0 (map unpack (take start ps ++ (slice_range ps start end ++ drop end ps))))
        ∙ parts ms (take start ps) (slice_range ps start end) (drop end ps)
        ∙ ap (λ n.
        in_blocks raise ms 0 a ++ (in_blocks raise ms n b
        ++ in_blocks raise ms (n + length (slice_range ps start end)) c)) first
        ∙ ap (λ n. in_blocks raise ms 0 a ++ (in_blocks raise ms start b ++ in_blocks raise ms n c))
        (let e : start + length (slice_range ps start end) ≡ end = omega (arith, middle, to) in e))
