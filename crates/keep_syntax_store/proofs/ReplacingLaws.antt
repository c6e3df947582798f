-- What is stored after lines were replaced in place is what rereading stores, and putting them back stores what was
-- stored before.
--
-- All three are lists cut at the same counts: the entries before, the new ones, and those after, each moved. `placed`
-- is that list. Rereading stores it (`replaced_placed`): by `three_moved` where lines follow, by `two_moved` where none
-- do. Exchanging entries in place stores it too (`exchanged_flat`), where every entry is packed: then a packed entry
-- that was moved is the moved entry. To go back is one more exchange. What it needs is known after the first
-- (`run_undone`, `can_go_back`), and what it gives is what was there before (`went_back`). Taking memory changes no
-- entry (`exchanged_before`).
--
-- Theorems: `replaced_placed` and `exchanged_flat`: both store the same; `went_back`: putting the lines back.
use Rattle.std.proofs.Common.{◌≡◌, ℕ, zero, suc, ◌-◌, ◌≤◌, Bool, true, false, List, [], ◌∷◌, ◌++◌, length, map, take}
use Rattle.std.proofs.Common.{drop, refl, sym, ap, ◌∙◌, arith, append_assoc}
use Rattle.std.specs.Prelude.{ltb, slice_range}
use Rattle.std.specs.List.{AllByRecursion}
use Rattle.std.proofs.lemmas.List.{append-nil, length-append, length-map, length-drop}
use Rattle.keep_types.specs.declared.syntax.Span.{Span}
use Rattle.keep_types.specs.declared.syntax.KeyPart.{KeyPart}
use Rattle.keep_types.specs.declared.syntax.Statement.{Statement}
use Rattle.keep_types.specs.declared.syntax.ValueInfo.{ValueInfo}
use Rattle.keep_syntax_store.specs.declared.moves.Counts.{Counts}
use Rattle.keep_syntax_store.specs.declared.parts.Parts.{Parts}
use Rattle.keep_syntax_store.specs.Counts.{Count}
use Rattle.keep_syntax_store.specs.Flat.{Flat, flat, unpacked_statement, unpacked_key_part, unpacked_value}
use Rattle.keep_syntax_store.specs.Flat.{statements_in, key_parts_in, values_in}
use Rattle.keep_syntax_store.specs.Rereading.{count_at, count_of, nothing, counts_at, counts_before, with_prefix}
use Rattle.keep_syntax_store.specs.Rereading.{with_new, with_back, replaced_flat, CanMove}
use Rattle.keep_syntax_store.specs.Lifted.{origin, moved, moved_key, moved_statement, moved_value}
use Rattle.keep_syntax_store.specs.Shifting.{shifted_key, CanShiftKey, shifted_statement, CanShiftStatement}
use Rattle.keep_syntax_store.specs.Shifting.{shifted_value, CanShiftValue}
use Rattle.keep_syntax_store.specs.InPlace.{IsPacked, CanShift, IsRun, IsShifted, IsAsBefore, same, IsExchanged}
use Rattle.keep_syntax_store.specs.InPlace.{replaced_places, placed, counts_after, counts_through, UndoesRun}
use Rattle.keep_syntax_store.specs.Blocks.{raise_key, raise_statement, raise_value}
use Rattle.keep_syntax_store.proofs.EntryLaws.{all_packed, same_entries, same_rest, still_packed}
use Rattle.keep_syntax_store.proofs.FlatLaws.{same_flat}
use Rattle.keep_syntax_store.proofs.TestLaws.{if_true, if_false}
use Rattle.keep_syntax_store.proofs.ExchangeLaws.{range_length}
use Rattle.keep_syntax_store.proofs.ExchangedLaws.{changed_back, exchanged_back, same_exchanged, unpacked_exchanged}
use Rattle.keep_syntax_store.proofs.ShiftLaws.{key_again, key_back, key_is, map_is, statement_again, statement_back}
use Rattle.keep_syntax_store.proofs.ShiftLaws.{statement_is, value_again, value_back, value_is}
use Rattle.keep_syntax_store.proofs.LiftedLaws.{same_count}
use Rattle.keep_syntax_store.proofs.StayLaws.{stays_key, stays_statement, stays_value, map_same}

-- ---- lists

range_first : {A : Type 0} (xs : List A) (n : ℕ) → slice_range xs 0 n ≡ take n xs
range_first xs n = ap (λ k. take k xs) (let e : n - 0 ≡ n = omega arith in e)

take_short : {A : Type 0} (xs : List A) (n : ℕ) → length xs ≤ n → take n xs ≡ xs
take_short [] zero h = refl
take_short [] (suc n) h = refl
take_short (x ∷ xs) zero h = absurd (omega (arith, h))
take_short (x ∷ xs) (suc n) h = ap (λ ys. x ∷ ys) (take_short xs n (omega (arith, h)))

pub range_whole : {A : Type 0} (xs : List A) → slice_range xs 0 (length xs) ≡ xs
range_whole xs = range_first xs (length xs) ∙ take_short xs (length xs) (omega arith)

range_rest : {A : Type 0} (xs : List A) (n : ℕ) → slice_range xs n (length xs) ≡ drop n xs
range_rest xs n = take_short (drop n xs) (length xs - n) (omega (arith, length-drop n xs))

drop_whole : {A : Type 0} (xs : List A) → drop (length xs) xs ≡ []
drop_whole [] = refl
drop_whole (x ∷ xs) = drop_whole xs

-- those before, those of another list, and those after, each moved
pub three_moved : {A : Type 0} (m0 m1 m2 : A → A) → ((x : A) → m0 x ≡ x) → (xs ys : List A) (n k : ℕ)
    → (map m0 (slice_range xs 0 n) ++ map m1 (slice_range ys 0 (length ys))) ++ map m2 (slice_range xs k (length xs))
    ≡ take n xs ++ (map m1 ys ++ map m2 (drop k xs))
three_moved m0 m1 m2 stay xs ys n k =
    ap (λ zs. (zs ++ map m1 (slice_range ys 0 (length ys))) ++ map m2 (slice_range xs k (length xs)))
    (map_same m0 stay (slice_range xs 0 n) ∙ range_first xs n)
    ∙ ap (λ zs. (take n xs ++ map m1 zs) ++ map m2 (slice_range xs k (length xs))) (range_whole ys)
    ∙ ap (λ zs. (take n xs ++ map m1 ys) ++ map m2 zs) (range_rest xs k)
    ∙ append_assoc (take n xs) (map m1 ys) (map m2 (drop k xs))

-- the same where none are after
pub two_moved : {A : Type 0} (m0 m1 m2 : A → A) → ((x : A) → m0 x ≡ x) → (xs ys : List A) (n : ℕ)
    → map m0 (slice_range xs 0 n) ++ map m1 (slice_range ys 0 (length ys)) ≡ take n xs
    ++ (map m1 ys ++ map m2 (drop (length xs) xs))
two_moved m0 m1 m2 stay xs ys n =
    ap (λ zs. zs ++ map m1 (slice_range ys 0 (length ys))) (map_same m0 stay (slice_range xs 0 n) ∙ range_first xs n)
    ∙ ap (λ zs. take n xs ++ map m1 zs) (range_whole ys)
    ∙ ap (λ zs. take n xs ++ zs) (sym (append-nil (map m1 ys))
    ∙ sym (ap (λ zs. map m1 ys ++ map m2 zs) (drop_whole xs)))

-- without moving
pub three_kept : {A : Type 0} (xs ys : List A) (n k : ℕ)
    → (slice_range xs 0 n ++ slice_range ys 0 (length ys)) ++ slice_range xs k (length xs) ≡ take n xs
    ++ (ys ++ drop k xs)
three_kept xs ys n k =
    ap (λ zs. (zs ++ slice_range ys 0 (length ys)) ++ slice_range xs k (length xs)) (range_first xs n)
    ∙ ap (λ zs. (take n xs ++ zs) ++ slice_range xs k (length xs)) (range_whole ys)
    ∙ ap (λ zs. (take n xs ++ ys) ++ zs) (range_rest xs k)
    ∙ append_assoc (take n xs) ys (drop k xs)

pub two_kept : {A : Type 0} (xs ys : List A) (n : ℕ)
    → slice_range xs 0 n ++ slice_range ys 0 (length ys) ≡ take n xs ++ (ys ++ drop (length xs) xs)
two_kept xs ys n =
    ap (λ zs. zs ++ slice_range ys 0 (length ys)) (range_first xs n)
    ∙ ap (λ zs. take n xs ++ zs) (range_whole ys ∙ sym (append-nil ys) ∙ sym (ap (λ zs. ys ++ zs) (drop_whole xs)))

-- ---- what is stored, by lists

front_length : {A B : Type 0} (f : A → B) (xs : List A) (n : ℕ) → n ≤ length xs
    → length (map f (slice_range xs 0 n)) ≡ n
front_length f xs n h = omega (arith, length-map (slice_range xs 0 n) f, range_length xs 0 n (omega arith) h)

new_length : {A B : Type 0} (f : A → B) (xs : List A) → length (map f (slice_range xs 0 (length xs))) ≡ length xs
new_length f xs = length-map (slice_range xs 0 (length xs)) f ∙ ap length (range_whole xs)

module _ (f g : Flat) (whole : Span) (len size end : ℕ) (can : CanMove f whole len) where
  abbrev from : Counts
  from = counts_before f whole.start

  abbrev until : Counts
  until = counts_after from (counts_at size g) end

  front_count : count_at whole.start (with_prefix f whole.start) ≡ count_of from
  front_count = same_count (count_at whole.start (with_prefix f whole.start)) (count_of from) refl
      (front_length (moved_statement origin origin) f.statements from.statements can.prefix.statements)
      (front_length (moved_key origin origin) f.keys from.keys can.prefix.keys)
      (front_length (moved_value origin origin) f.values from.values can.prefix.values)

  new_count : count_at end (with_new f g whole.start size) ≡ count_of until
  new_count =
      let c = count_at whole.start (with_prefix f whole.start) in
      let a = map (moved_statement origin origin) (slice_range f.statements 0 from.statements) in
      let b = map (moved_key origin origin) (slice_range f.keys 0 from.keys) in
      let d = map (moved_value origin origin) (slice_range f.values 0 from.values) in
      let a2 = map (moved_statement origin c) (slice_range g.statements 0 (length g.statements)) in
      let b2 = map (moved_key origin c) (slice_range g.keys 0 (length g.keys)) in
      let d2 = map (moved_value origin c) (slice_range g.values 0 (length g.values)) in
      same_count (count_at end (with_new f g whole.start size)) (count_of until) refl
      (omega (
        arith,
        length-append a a2,
        front_length (moved_statement origin origin) f.statements from.statements can.prefix.statements,
        new_length (moved_statement origin c) g.statements,
      ))
      (omega (
        arith,
        length-append b b2,
        front_length (moved_key origin origin) f.keys from.keys can.prefix.keys,
        new_length (moved_key origin c) g.keys,
      ))
      (omega (
        arith,
        length-append d d2,
        front_length (moved_value origin origin) f.values from.values can.prefix.values,
        new_length (moved_value origin c) g.values,
      ))

  back_placed : with_back f g whole len size end ≡ placed f g from (counts_before f whole.end) until end
  back_placed =
      let to = counts_before f whole.end in
      let c = count_at whole.start (with_prefix f whole.start) in
      let e = count_at end (with_new f g whole.start size) in
      same_flat (with_back f g whole len size end) (placed f g from to until end)
      (three_kept f.kinds g.kinds from.tokens to.tokens) refl
      (three_moved (moved_statement origin origin) (moved_statement origin c) (moved_statement (count_of to) e)
      stays_statement f.statements g.statements from.statements to.statements
      ∙ ap (λ (x : Count).
      take from.statements f.statements
      ++ (map (moved_statement origin x) g.statements
      ++ map (moved_statement (count_of to) e) (drop to.statements f.statements))) front_count
      ∙ ap (λ (x : Count).
      take from.statements f.statements
      ++ (map (moved_statement origin (count_of from)) g.statements
      ++ map (moved_statement (count_of to) x) (drop to.statements f.statements))) new_count)
      (three_moved (moved_key origin origin) (moved_key origin c) (moved_key (count_of to) e) stays_key f.keys g.keys
      from.keys to.keys
      ∙ ap (λ (x : Count).
      take from.keys f.keys ++ (map (moved_key origin x) g.keys
      ++ map (moved_key (count_of to) e) (drop to.keys f.keys))) front_count
      ∙ ap (λ (x : Count).
      take from.keys f.keys ++ (map (moved_key origin (count_of from)) g.keys
      ++ map (moved_key (count_of to) x) (drop to.keys f.keys))) new_count)
      (three_moved (moved_value origin origin) (moved_value origin c) (moved_value (count_of to) e) stays_value f.values
      g.values from.values to.values
      ∙ ap (λ (x : Count).
      take from.values f.values ++ (map (moved_value origin x) g.values
      ++ map (moved_value (count_of to) e) (drop to.values f.values))) front_count
      ∙ ap (λ (x : Count).
      take from.values f.values ++ (map (moved_value origin (count_of from)) g.values
      ++ map (moved_value (count_of to) x) (drop to.values f.values))) new_count)

  no_places : {A : Type 0} (n : ℕ) (xs : List A) (h : ℕ → ℕ) (ns : List ℕ) → map h (slice_range ns n n) ≡ []
  no_places n xs h ns = ap (λ k. map h (take k (drop n ns))) (let e : n - n ≡ 0 = omega arith in e)

  new_placed : with_new f g whole.start size ≡ placed f g from (counts_at len f) until end
  new_placed =
      let to = counts_at len f in
      let c = count_at whole.start (with_prefix f whole.start) in
      let ps =
      map (moved 0 0) (slice_range f.starts 0 from.tokens)
      ++ map (moved 0 whole.start) (slice_range g.starts 0 (length g.kinds)) in
      same_flat (with_new f g whole.start size) (placed f g from to until end)
      (two_kept f.kinds g.kinds from.tokens)
      (sym (append-nil ps) ∙ sym (ap (λ ns. ps ++ ns) (no_places (length f.kinds) f.starts (moved len end) f.starts)))
      (two_moved (moved_statement origin origin) (moved_statement origin c)
      (moved_statement (count_of to) (count_of until)) stays_statement f.statements g.statements from.statements
      ∙ ap (λ (x : Count).
      take from.statements f.statements
      ++ (map (moved_statement origin x) g.statements
      ++ map (moved_statement (count_of to) (count_of until)) (drop to.statements f.statements))) front_count)
      (two_moved (moved_key origin origin) (moved_key origin c) (moved_key (count_of to) (count_of until)) stays_key
      f.keys g.keys from.keys
      ∙ ap (λ (x : Count).
      take from.keys f.keys ++ (map (moved_key origin x) g.keys
      ++ map (moved_key (count_of to) (count_of until)) (drop to.keys f.keys))) front_count)
      (two_moved (moved_value origin origin) (moved_value origin c) (moved_value (count_of to) (count_of until))
      stays_value f.values g.values from.values
      ∙ ap (λ (x : Count).
      take from.values f.values ++ (map (moved_value origin x) g.values
      ++ map (moved_value (count_of to) (count_of until)) (drop to.values f.values))) front_count)

  pub replaced_placed : replaced_flat f g whole len size end ≡ placed f g from (counts_through f whole len) until end
  replaced_placed = by (ltb whole.end len) refl
    where
      by : (b : Bool) → ltb whole.end len ≡ b
          → replaced_flat f g whole len size end ≡ placed f g from (counts_through f whole len) until end
      by true t =
          if_true (ltb whole.end len) _ _ t ∙ back_placed
          ∙ ap (λ (k : Counts). placed f g from k until end)
          (sym (if_true (ltb whole.end len) (counts_before f whole.end) (counts_at len f) t))
      by false t =
          if_false (ltb whole.end len) _ _ t ∙ new_placed
          ∙ ap (λ (k : Counts). placed f g from k until end)
          (sym (if_false (ltb whole.end len) (counts_before f whole.end) (counts_at len f) t))

-- by the counts that are computed
pub placed_replaced : (f g : Flat) (whole : Span) (len size end : ℕ) → CanMove f whole len
    → (from to until all : Counts) → from ≡ counts_before f whole.start → to ≡ counts_through f whole len
    → all ≡ counts_at size g → until ≡ counts_after from all end
    → placed f g from to until until.at ≡ replaced_flat f g whole len size end
placed_replaced f g whole len size end can from to until all is_from is_to is_all is =
    let e : until ≡ counts_after (counts_before f whole.start) (counts_at size g) end =
    is ∙ ap (λ (k : Counts). counts_after k all end) is_from
    ∙ ap (λ (k : Counts). counts_after (counts_before f whole.start) k end) is_all in
    ap (λ (k : Counts). placed f g k to until until.at) is_from
    ∙ ap (λ (k : Counts). placed f g (counts_before f whole.start) k until until.at) is_to
    ∙ ap (λ (k : Counts). placed f g (counts_before f whole.start) (counts_through f whole len) k k.at) e
    ∙ sym (replaced_placed f g whole len size end can)

-- ---- what is packed

map_id : {A : Type 0} (xs : List A) → map same xs ≡ xs
map_id xs = map_same same (λ x. refl) xs

-- what is stored after the exchange
pub exchanged_flat : (p fresh run q gone : Parts) (from to until : Counts) (end : ℕ) → IsPacked p → IsPacked fresh
    → CanShift to to until p → CanShift nothing nothing from fresh
    → IsShifted nothing from fresh run → run.starts ≡ replaced_places (flat p) (flat fresh) from to end
    → IsExchanged from to to until p run q gone
    → flat q ≡ placed (flat p) (flat fresh) from to until end
exchanged_flat p fresh run q gone from to until end pp pf can new shift starts h =
    let m = moved_statement (count_of to) (count_of until) in
    let m1 = moved_statement origin (count_of from) in
    let k = moved_key (count_of to) (count_of until) in
    let k1 = moved_key origin (count_of from) in
    let v = moved_value (count_of to) (count_of until) in
    let v1 = moved_value origin (count_of from) in
    same_flat (flat q) (placed (flat p) (flat fresh) from to until end)
    (h.kinds.items_are
    ∙ ap (λ xs. take from.tokens p.kinds.items ++ (xs ++ map same (drop to.tokens p.kinds.items))) shift.kinds
    ∙ ap (λ xs. take from.tokens p.kinds.items ++ (fresh.kinds.items ++ xs)) (map_id (drop to.tokens p.kinds.items)))
    (h.starts ∙ starts)
    (all_packed unpacked_statement raise_statement q.statements
    (still_packed p.statements q.statements h.rest_of_statements pp.statements)
    ∙ unpacked_exchanged unpacked_statement (shifted_statement to until) m (CanShiftStatement to until)
    (statement_is to until) from.statements to.statements p.statements.packed run.statements.packed q.statements.packed
    gone.statements.packed h.statements can.statements
    ∙ ap (λ (xs : List Statement).
    take from.statements xs ++ (map unpacked_statement run.statements.packed.items ++ map m (drop to.statements xs)))
    (sym (all_packed unpacked_statement raise_statement p.statements pp.statements))
    ∙ ap (λ (xs : List Statement).
    take from.statements (statements_in p.statements)
    ++ (xs ++ map m (drop to.statements (statements_in p.statements))))
    (ap (map unpacked_statement) shift.statements
    ∙ map_is unpacked_statement (shifted_statement nothing from) m1 (CanShiftStatement nothing from)
    (statement_is nothing from) fresh.statements.packed.items new.statements
    ∙ ap (map m1) (sym (all_packed unpacked_statement raise_statement fresh.statements pf.statements))))
    (all_packed unpacked_key_part raise_key q.keys (still_packed p.keys q.keys h.rest_of_keys pp.keys)
    ∙ unpacked_exchanged unpacked_key_part (shifted_key to until) k (CanShiftKey to until) (key_is to until) from.keys
    to.keys p.keys.packed run.keys.packed q.keys.packed gone.keys.packed h.keys can.keys
    ∙ ap (λ (xs : List KeyPart).
    take from.keys xs ++ (map unpacked_key_part run.keys.packed.items ++ map k (drop to.keys xs)))
    (sym (all_packed unpacked_key_part raise_key p.keys pp.keys))
    ∙ ap (λ (xs : List KeyPart).
    take from.keys (key_parts_in p.keys) ++ (xs ++ map k (drop to.keys (key_parts_in p.keys))))
    (ap (map unpacked_key_part) shift.keys
    ∙ map_is unpacked_key_part (shifted_key nothing from) k1 (CanShiftKey nothing from) (key_is nothing from)
    fresh.keys.packed.items new.keys
    ∙ ap (map k1) (sym (all_packed unpacked_key_part raise_key fresh.keys pf.keys))))
    (all_packed unpacked_value raise_value q.values (still_packed p.values q.values h.rest_of_values pp.values)
    ∙ unpacked_exchanged unpacked_value (shifted_value to until) v (CanShiftValue to until) (value_is to until)
    from.values to.values p.values.packed run.values.packed q.values.packed gone.values.packed h.values can.values
    ∙ ap (λ (xs : List ValueInfo).
    take from.values xs ++ (map unpacked_value run.values.packed.items ++ map v (drop to.values xs)))
    (sym (all_packed unpacked_value raise_value p.values pp.values))
    ∙ ap (λ (xs : List ValueInfo).
    take from.values (values_in p.values) ++ (xs ++ map v (drop to.values (values_in p.values))))
    (ap (map unpacked_value) shift.values
    ∙ map_is unpacked_value (shifted_value nothing from) v1 (CanShiftValue nothing from) (value_is nothing from)
    fresh.values.packed.items new.values
    ∙ ap (map v1) (sym (all_packed unpacked_value raise_value fresh.values pf.values))))

-- ---- before and after taking memory

pub before_is : (p q : Parts) → IsAsBefore p q → flat q ≡ flat p
before_is p q h =
    same_flat (flat q) (flat p) h.kinds h.starts
    (same_entries unpacked_statement raise_statement p.statements q.statements h.statements h.rest_of_statements)
    (same_entries unpacked_key_part raise_key p.keys q.keys h.keys h.rest_of_keys)
    (same_entries unpacked_value raise_value p.values q.values h.values h.rest_of_values)

pub exchanged_before : (p p1 run run1 q gone : Parts) (from to old new : Counts) → IsAsBefore p p1 → IsAsBefore run run1
    → IsExchanged from to old new p1 run1 q gone → IsExchanged from to old new p run q gone
exchanged_before p p1 run run1 q gone from to old new e r h = record {
  kinds = same_exchanged same from.tokens to.tokens p.kinds p1.kinds run.kinds run1.kinds q.kinds gone.kinds e.kinds
      r.kinds h.kinds;
  statements =
      same_exchanged (shifted_statement old new) from.statements to.statements p.statements.packed p1.statements.packed
      run.statements.packed run1.statements.packed q.statements.packed gone.statements.packed e.statements r.statements
      h.statements;
  keys = same_exchanged (shifted_key old new) from.keys to.keys p.keys.packed p1.keys.packed run.keys.packed
      run1.keys.packed q.keys.packed gone.keys.packed e.keys r.keys h.keys;
  values =
      same_exchanged (shifted_value old new) from.values to.values p.values.packed p1.values.packed run.values.packed
      run1.values.packed q.values.packed gone.values.packed e.values r.values h.values;
  starts = h.starts ∙ r.starts;
  gone_starts = h.gone_starts ∙ e.starts;
  rest_of_statements = same_rest p.statements p1.statements q.statements e.rest_of_statements h.rest_of_statements;
  rest_of_keys = same_rest p.keys p1.keys q.keys e.rest_of_keys h.rest_of_keys;
  rest_of_values = same_rest p.values p1.values q.values e.rest_of_values h.rest_of_values;
}

-- ---- going back

all_same : {A : Type 0} (xs : List A) → AllByRecursion (λ x. x ≡ x) xs
all_same [] = tt
all_same (x ∷ xs) = (refl, all_same xs)

pub can_go_back : (gone : Parts) (from to until : Counts) (before after : Parts)
    → UndoesRun gone from to until before after → CanShift until until to after
can_go_back gone from to until before after u = record {
  statements =
      changed_back (shifted_statement to until) (CanShiftStatement to until) (CanShiftStatement until to)
      (statement_again to until) from.statements to.statements until.statements
      before.statements.packed u.run.statements.packed after.statements.packed gone.statements.packed
      u.is_run.statements.order u.is_run.statements.within u.statements u.can.statements u.now.statements;
  keys = changed_back (shifted_key to until) (CanShiftKey to until) (CanShiftKey until to) (key_again to until)
      from.keys to.keys until.keys
      before.keys.packed u.run.keys.packed after.keys.packed gone.keys.packed
      u.is_run.keys.order u.is_run.keys.within u.keys u.can.keys u.now.keys;
  values =
      changed_back (shifted_value to until) (CanShiftValue to until) (CanShiftValue until to) (value_again to until)
      from.values to.values until.values
      before.values.packed u.run.values.packed after.values.packed gone.values.packed
      u.is_run.values.order u.is_run.values.within u.values u.can.values u.now.values;
}

pub went_back : (gone : Parts) (from to until : Counts) (before after r rest : Parts)
    → UndoesRun gone from to until before after
    → IsExchanged from until until to after gone r rest → flat r ≡ flat before
went_back gone from to until before after r rest u h = before_is before r (record {
  kinds = exchanged_back same same (λ x. x ≡ x) (λ x e. refl) from.tokens to.tokens until.tokens before.kinds
      u.run.kinds after.kinds gone.kinds r.kinds rest.kinds
      u.is_run.tokens.order u.is_run.tokens.within u.tokens (all_same (drop to.tokens before.kinds.items)) u.now.kinds
      h.kinds;
  starts = h.starts ∙ u.now.gone_starts;
  statements =
      exchanged_back (shifted_statement to until) (shifted_statement until to) (CanShiftStatement to until)
      (statement_back to until) from.statements to.statements until.statements
      before.statements.packed u.run.statements.packed after.statements.packed gone.statements.packed
      r.statements.packed rest.statements.packed
      u.is_run.statements.order u.is_run.statements.within u.statements u.can.statements u.now.statements h.statements;
  keys = exchanged_back (shifted_key to until) (shifted_key until to) (CanShiftKey to until) (key_back to until)
      from.keys to.keys until.keys
      before.keys.packed u.run.keys.packed after.keys.packed gone.keys.packed r.keys.packed rest.keys.packed
      u.is_run.keys.order u.is_run.keys.within u.keys u.can.keys u.now.keys h.keys;
  values =
      exchanged_back (shifted_value to until) (shifted_value until to) (CanShiftValue to until) (value_back to until)
      from.values to.values until.values
      before.values.packed u.run.values.packed after.values.packed gone.values.packed r.values.packed rest.values.packed
      u.is_run.values.order u.is_run.values.within u.values u.can.values u.now.values h.values;
  rest_of_statements =
      same_rest before.statements after.statements r.statements u.now.rest_of_statements h.rest_of_statements;
  rest_of_keys = same_rest before.keys after.keys r.keys u.now.rest_of_keys h.rest_of_keys;
  rest_of_values = same_rest before.values after.values r.values u.now.rest_of_values h.rest_of_values;
})

-- ---- a run that is replaced

-- the counts after the new run are those that its parts have
pub run_undone : (p fresh run q gone : Parts) (from to until : Counts) (size end : ℕ) → IsRun from to p → IsPacked fresh
    → CanShift to to until p
    → IsShifted nothing from fresh run → until ≡ counts_after from (counts_at size (flat fresh)) end
    → IsExchanged from to to until p run q gone → UndoesRun gone from to until p q
run_undone p fresh run q gone from to until size end is pf can shift u h = record {
  run = run;
  is_run = is;
  can = can;
  now = h;
  tokens = omega (arith, ap (λ (c : Counts). c.tokens) u, ap length shift.kinds, run.kinds.ok.0);
  statements = omega (
    arith,
    ap (λ (c : Counts). c.statements) u,
    ap length shift.statements,
    length-map fresh.statements.packed.items (shifted_statement nothing from),
    run.statements.packed.ok.0,
    ap length (all_packed unpacked_statement raise_statement fresh.statements pf.statements),
    length-map fresh.statements.packed.items unpacked_statement,
  );
  keys = omega (
    arith,
    ap (λ (c : Counts). c.keys) u,
    ap length shift.keys,
    length-map fresh.keys.packed.items (shifted_key nothing from),
    run.keys.packed.ok.0,
    ap length (all_packed unpacked_key_part raise_key fresh.keys pf.keys),
    length-map fresh.keys.packed.items unpacked_key_part,
  );
  values = omega (
    arith,
    ap (λ (c : Counts). c.values) u,
    ap length shift.values,
    length-map fresh.values.packed.items (shifted_value nothing from),
    run.values.packed.ok.0,
    ap length (all_packed unpacked_value raise_value fresh.values pf.values),
    length-map fresh.values.packed.items unpacked_value,
  );
}
