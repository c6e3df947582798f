-- What is stored after it changed places with a patch, and that it changes places back.
--
-- A patch has the packed entries of the blocks that an edit is in, and the numbers that are added to the blocks after
-- them. Where these change places with what a list stores, the list is the entries before the run, the patch's, and
-- those after, whose blocks have other numbers: `patch_gives` of BlockLaws says that these are the entries moved. The
-- patch then has what the list had, and both have as many entries as before, so that they can change places again
-- without memory.
--
-- Theorems: `patch_made`: the patch that is made gives the entries before, the new ones, and those after, moved;
-- `patch_undone`: once they change places again, what was stored before is stored.
use Rattle.std.proofs.Common.{◌≡◌, ℕ, ◌+◌, ◌-◌, ◌*◌, ◌/◌, ◌%◌, ◌<◌, ◌≤◌, min, List, ◌++◌, length, map, take, drop}
use Rattle.std.proofs.Common.{get_or, refl, sym, ap, ◌∙◌, arith, append_assoc, None, lt-ltb, le-ltb}
use Rattle.std.specs.Prelude.{ltb, slice_range}
use Rattle.std.specs.List.{AllByRecursion}
use Rattle.std.proofs.Math.Nat.{div-mul-le_self, lt-div-mul-add, mod-add-div', mod-lt}
use Rattle.std.proofs.lemmas.List.{length-append, length-drop, length-map, map-append}
use Rattle.keep_syntax_store.specs.declared.moves.Counts.{Counts}
use Rattle.keep_syntax_store.specs.declared.packed_vec.PackedVec.{PackedVec}
use Rattle.keep_syntax_store.specs.declared.patch.Patch.{Patch}
use Rattle.keep_syntax_store.specs.declared.parts.Parts.{Parts}
use Rattle.keep_syntax_store.specs.declared.parts.patching.PartsPatch.{PartsPatch}
use Rattle.keep_syntax_store.specs.declared.replacing.Gone.{Gone}
use Rattle.keep_syntax_store.specs.declared.replacing.Gone.TheVariants as gone
use Rattle.keep_syntax_store.specs.Blocks.{in_blocks, move_after, moved_on, step, raise_key, raise_statement}
use Rattle.keep_syntax_store.specs.Blocks.{raise_value}
use Rattle.keep_syntax_store.specs.Flat.{Flat, flat, unpacked_statement, unpacked_key_part, unpacked_value}
use Rattle.keep_syntax_store.specs.Moving.{MovesRight, OnlyPlacesMove}
use Rattle.keep_syntax_store.specs.PackedVec.{entries, IsWithin, IsRunOf, with_run, IsPatched, Gives}
use Rattle.keep_syntax_store.specs.Rereading.{nothing}
use Rattle.keep_syntax_store.specs.InPlace.{GivesParts, FitsParts, ArePatched, UndoesPatch, UndoesParts}
use Rattle.keep_syntax_store.specs.Unfit.{IsFree, with_unfit}
use Rattle.keep_syntax_store.proofs.UnfitLaws.{unfit_length, unfit_run}
use Rattle.keep_syntax_store.proofs.BlockLaws.{From, move_of, patch_gives}
use Rattle.keep_syntax_store.proofs.EntryLaws.{entries_length, same_entries}
use Rattle.keep_syntax_store.proofs.ExchangeLaws.{three, take_prefix, drop_prefix, take_length, range_length}
use Rattle.keep_syntax_store.proofs.ExchangedLaws.{map_take, map_drop}
use Rattle.keep_syntax_store.proofs.FlatLaws.{same_flat}
use Rattle.keep_syntax_store.proofs.TestLaws.{if_true, if_false}

-- ---- one list

-- two runs that change places change places back
with_run_back : {A : Type 0} (xs run : List A) (from to : ℕ) → to ≡ from + length run → to ≤ length xs
    → with_run (with_run xs from run) from (slice_range xs from to) ≡ xs
with_run_back xs run from to e h =
    let a = take from xs in
    let b = slice_range xs from to in
    let d = drop (from + length run) xs in
    let l : length a ≡ from = take_length xs from (omega (arith, e, h)) in
    let n : length b ≡ length run =
    range_length xs from to (omega (arith, e)) h ∙ (let k : to - from ≡ length run = omega (arith, e) in k) in
    let m : length (a ++ run) ≡ from + length b = omega (arith, length-append a run, l, n) in
    ap (λ ys. ys ++ (b ++ drop (from + length b) (a ++ (run ++ d)))) (take_prefix a (run ++ d) from l)
    ∙ ap (λ ys. a ++ (b ++ drop (from + length b) ys)) (sym (append_assoc a run d))
    ∙ ap (λ ys. a ++ (b ++ ys)) (drop_prefix (a ++ run) d (from + length b) m)
    ∙ ap (λ k. a ++ (b ++ drop k xs)) (sym e)
    ∙ sym (three xs from to (omega (arith, e)))

map_run : {A B : Type 0} (f : A → B) (xs : List A) (from : ℕ) (run : List A)
    → map f (with_run xs from run) ≡ with_run (map f xs) from (map f run)
map_run f xs from run =
    map-append f (take from xs) (run ++ drop (from + length run) xs)
    ∙ ap (λ ys. map f (take from xs) ++ ys) (map-append f run (drop (from + length run) xs))
    ∙ ap (λ ys. ys ++ (map f run ++ map f (drop (from + length run) xs))) (map_take f from xs)
    ∙ ap (λ ys. take from (map f xs) ++ (map f run ++ ys)) (map_drop f (from + length run) xs)
    ∙ ap (λ k. take from (map f xs) ++ (map f run ++ drop (from + k) (map f xs))) (sym (length-map run f))

module _ {E P : Type 0} (unpack : P → E) (raise : ℕ → E → E) where
  -- what the list stores then
  pub given_entries : (v w : PackedVec E P) (c d : Patch P) (es : List E) → Gives unpack raise v c es
      → IsPatched v c w d → entries unpack raise w ≡ es
  given_entries v w c d es given h =
      ap (λ ms. in_blocks raise ms 0 (with_unfit w.unfit 0 (map unpack w.packed.items))) h.moves
      ∙ ap (λ us. in_blocks raise c.moves.items 0 (with_unfit us 0 (map unpack w.packed.items))) h.unfit
      ∙ ap (λ ps. in_blocks raise c.moves.items 0 (with_unfit v.unfit 0 (map unpack ps))) h.packed
      ∙ given.gives

  pub back_entries : (v w x : PackedVec E P) (c d e : Patch P) → IsWithin v c → IsPatched v c w d → IsPatched w d x e
      → entries unpack raise x ≡ entries unpack raise v
  back_entries v w x c d e fits h k =
      let to = c.from + length c.run.items in
      same_entries unpack raise v x
      (k.packed
      ∙ ap (λ ps. with_run ps d.from d.run.items) h.packed
      ∙ ap (λ n. with_run (with_run v.packed.items c.from c.run.items) n d.run.items) h.from
      ∙ ap (λ run. with_run (with_run v.packed.items c.from c.run.items) c.from run) h.run
      ∙ with_run_back v.packed.items c.run.items c.from to refl fits.within)
      (record { unfit = k.unfit ∙ h.unfit; moves = k.moves ∙ h.back })

pub back_fits : {E P : Type 0} (v w : PackedVec E P) (c d : Patch P) → IsWithin v c → IsPatched v c w d → IsWithin w d
back_fits v w c d fits h =
    let xs = v.packed.items in
    let run = c.run.items in
    let to = c.from + length run in
    record {
      within = omega (
        arith,
        h.from,
        ap length h.run,
        ap length h.packed,
        fits.within,
        range_length xs c.from to (omega arith) fits.within,
        length-append (take c.from xs) (run ++ drop to xs),
        length-append run (drop to xs),
        length-drop to xs,
        take_length xs c.from (omega (arith, fits.within)),
      );
    }

-- ---- all lists

pub given_fits : (p : Parts) (c : PartsPatch) (f : Flat) → GivesParts p c f → FitsParts p c
given_fits p c f given =
    record { statements = given.statements.fits; keys = given.keys.fits; values = given.values.fits }

pub given_flat : (p q : Parts) (c d : PartsPatch) (f : Flat) → GivesParts p c f → ArePatched p c q d → flat q ≡ f
given_flat p q c d f given h =
    same_flat (flat q) f
    (h.kinds ∙ given.kinds) (h.starts ∙ given.starts)
    (given_entries unpacked_statement raise_statement p.statements q.statements c.statements d.statements f.statements
    given.statements h.statements)
    (given_entries unpacked_key_part raise_key p.keys q.keys c.keys d.keys f.keys given.keys h.keys)
    (given_entries unpacked_value raise_value p.values q.values c.values d.values f.values given.values h.values)

pub patch_undone : (p q : Parts) (c d : PartsPatch) → FitsParts p c → ArePatched p c q d → UndoesPatch d p q
patch_undone p q c d fits h = record {
  fits = record {
    statements = back_fits p.statements q.statements c.statements d.statements fits.statements h.statements;
    keys = back_fits p.keys q.keys c.keys d.keys fits.keys h.keys;
    values = back_fits p.values q.values c.values d.values fits.values h.values;
  };
  undone = λ r e k. same_flat (flat r) (flat p)
      (k.kinds ∙ h.kinds_back) (k.starts ∙ h.starts_back)
      (back_entries unpacked_statement raise_statement p.statements q.statements r.statements c.statements d.statements
      e.statements fits.statements h.statements k.statements)
      (back_entries unpacked_key_part raise_key p.keys q.keys r.keys c.keys d.keys e.keys fits.keys h.keys k.keys)
      (back_entries unpacked_value raise_value p.values q.values r.values c.values d.values e.values fits.values
      h.values k.values);
}

-- ---- the patch that is made

-- Where the blocks of a run end: at the end of the block that the run ends in, or of the list.
pub record BlockEnd (b len end : ℕ) : Type 0 where
  pub after : b ≤ end
  pub within : end ≤ len
  pub inside : end ≤ (b / 16 + 1) * 16
  pub last : end < len → end ≡ (b / 16 + 1) * 16

pub block_end : (b len more : ℕ) → b ≤ len → more ≡ min (len - b) (16 - b % 16) → BlockEnd b len (b + more)
block_end b len more h e =
    let d = mod-add-div' b 16 in
    let m : b % 16 < 16 = mod-lt b (omega arith) in
    record {
      after = omega arith;
      within = omega (arith, e, h);
      inside = omega (arith, e, d, m, h);
      last = λ short. omega (arith, e, d, m, h, short);
    }

module _ {E P : Type 0} (unpack : P → E) (raise : ℕ → E → E) (After : Counts → ℕ → E → Type 0)
    (moved : Counts → Counts → E → E) (right : MovesRight After moved raise) where
  pub patch_made : (v : PackedVec E P) (fresh : List E) (len : ℕ) (from to until : Counts) (a b end : ℕ) (c : Patch P)
      → c.from ≡ a / 16 * 16 → IsFree (a / 16 * 16) end v.unfit → IsRunOf a b (length fresh) v
      → OnlyPlacesMove len to until → AllByRecursion (After to len) (drop b (entries unpack raise v))
      → BlockEnd b (length v.packed.items) end
      → map unpack c.run.items ≡ (map (moved nothing nothing) (slice_range (entries unpack raise v) (a / 16 * 16) a)
      ++ map (moved nothing from) fresh) ++ map (moved to until) (slice_range (entries unpack raise v) b end)
      → ((block : ℕ) → block < length v.packed.items / 16 + 1
      → get_or c.moves.items block None ≡ move_after (a / 16) (b / 16 + 1) (step to.at until.at) v.moves.items block)
      → Gives unpack raise v c (take a (entries unpack raise v)
      ++ (map (moved nothing from) fresh ++ map (moved to until) (drop b (entries unpack raise v))))
  patch_made v fresh len from to until a b end c at free is places after ends run_is blocks = record {
    fits = record { within = omega (arith, at, run_len, start, is.size, ends.after, ends.within) };
    gives =
        ap (λ k.
        in_blocks raise c.moves.items 0 (with_unfit v.unfit 0 (map unpack (with_run v.packed.items k c.run.items)))) at
        ∙ ap (λ ys. in_blocks raise c.moves.items 0 ys) run_in
        ∙ patch_gives raise (moved nothing nothing) (moved nothing from) (moved to until) (After to len)
        (step to.at until.at)
        right.stays (λ e h. right.once len to until e places h) (λ more e h. right.again more len to until e places h)
        xs (map unpack c.run.items) v.moves.items c.moves.items fresh a b (a / 16 * 16) end
        start (omega (arith, is.size)) ends.after (omega (arith, ends.within, xs_len)) is.size run_is
        before inside (λ i low high. later i low (omega (arith, high, xs_len))) after;
  }
    where
      xs : List E
      xs = with_unfit v.unfit 0 (map unpack v.packed.items)

      xs_len : length xs ≡ length v.packed.items
      xs_len = unfit_length v.unfit 0 (map unpack v.packed.items) ∙ length-map v.packed.items unpack

      start : a / 16 * 16 ≤ a
      start = div-mul-le_self a 16

      count : length (entries unpack raise v) ≡ length v.packed.items
      count = entries_length unpack raise v

      run_len : length c.run.items ≡ end - a / 16 * 16
      run_len =
          let es = entries unpack raise v in
          let s = a / 16 * 16 in
          omega (
            arith,
            length-map c.run.items unpack,
            ap length run_is,
            length-append (map (moved nothing nothing) (slice_range es s a) ++ map (moved nothing from) fresh)
                (map (moved to until) (slice_range es b end)),
            length-append (map (moved nothing nothing) (slice_range es s a)) (map (moved nothing from) fresh),
            length-map (slice_range es s a) (moved nothing nothing),
            length-map fresh (moved nothing from),
            length-map (slice_range es b end) (moved to until),
            range_length es s a start (omega (arith, count, is.size, is.within)),
            range_length es b end ends.after (omega (arith, ends.within, count)),
            start,
            is.size,
            ends.after,
          )

      run_in : with_unfit v.unfit 0 (map unpack (with_run v.packed.items (a / 16 * 16) c.run.items))
          ≡ with_run xs (a / 16 * 16) (map unpack c.run.items)
      run_in =
          let s = a / 16 * 16 in
          ap (λ ys. with_unfit v.unfit 0 ys) (map_run unpack v.packed.items s c.run.items)
          ∙ unfit_run v.unfit s (map unpack v.packed.items) (map unpack c.run.items)
          (omega (arith, length-map v.packed.items unpack, start, is.size, is.within))
          (λ i below above.
          free i below (omega (arith, above, length-map c.run.items unpack, run_len, start, is.size, ends.after)))

      low : (i : ℕ) → i / 16 * 16 ≤ i
      low i = div-mul-le_self i 16

      high : (i : ℕ) → i < i / 16 * 16 + 16
      high i = lt-div-mul-add (omega arith)

      in_list : (i : ℕ) → i < length v.packed.items → i / 16 < length v.packed.items / 16 + 1
      in_list i h = omega (arith, h, low i, high (length v.packed.items))

      before : From (λ i. move_of c.moves.items i ≡ move_of v.moves.items i) 0 (a / 16 * 16)
      before i _ h =
          blocks (i / 16) (in_list i (omega (arith, h, start, is.size, is.within)))
          ∙ if_true (ltb (i / 16) (a / 16)) _ _ (lt-ltb (i / 16) (a / 16) (omega (arith, h, low i)))

      inside : From (λ i. move_of c.moves.items i ≡ None) (a / 16 * 16) end
      inside i h k =
          blocks (i / 16) (in_list i (omega (arith, k, ends.within)))
          ∙ if_false (ltb (i / 16) (a / 16)) _ _ (le-ltb (i / 16) (a / 16) (omega (arith, h, high i)))
          ∙ if_true (ltb (i / 16) (b / 16 + 1)) _ _
          (lt-ltb (i / 16) (b / 16 + 1) (omega (arith, k, low i, ends.inside)))

      later : From (λ i. move_of c.moves.items i ≡ moved_on (step to.at until.at) (move_of v.moves.items i)) end
          (length v.packed.items)
      later i h k =
          let e : end ≡ (b / 16 + 1) * 16 = ends.last (omega (arith, h, k)) in
          blocks (i / 16) (in_list i k)
          ∙ if_false (ltb (i / 16) (a / 16)) _ _
          (le-ltb (i / 16) (a / 16) (omega (arith, h, e, high i, low a, high b, is.size)))
          ∙ if_false (ltb (i / 16) (b / 16 + 1)) _ _ (le-ltb (i / 16) (b / 16 + 1) (omega (arith, h, e, high i)))

-- ---- what is put back, of parts that store the same

pub undoes_same : (g : Gone) (p q after : Parts) → flat p ≡ flat q → UndoesParts g p after → UndoesParts g q after
undoes_same (gone.Lines patch) p q after e u = record { fits = u.fits; undone = λ r d h. u.undone r d h ∙ e }
undoes_same (gone.Run run from to until) p q after e u = (u.0, u.1 ∙ e, u.2)
undoes_same (gone.Whole parts) p q after e u = u ∙ e
