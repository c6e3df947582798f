-- After a run of packed records changed places with another: what the records unpack to, and that they are as before
-- once the runs change places again.
--
-- Theorems: `unpacked_exchanged`: what they unpack to after the exchange; `exchanged_back`: exchanged again, the
-- records are as before; `changed_back`: what comes after the run can be changed back.
use Rattle.std.proofs.Common.{◌≡◌, ℕ, zero, suc, ◌+◌, ◌≤◌, List, [], ◌∷◌, ◌++◌, length, map, take, drop, refl, sym, ap}
use Rattle.std.proofs.Common.{◌∙◌, subst, arith, append_assoc, vec_len, Vec}
use Rattle.std.specs.Prelude.{slice_range}
use Rattle.std.specs.List.{AllByRecursion}
use Rattle.std.proofs.lemmas.List.{length-append, map-append}
use Rattle.keep_syntax_store.specs.Exchanging.{Exchanged}
use Rattle.keep_syntax_store.proofs.ExchangeLaws.{three, take_prefix, drop_prefix, take_length}
use Rattle.keep_syntax_store.proofs.ShiftLaws.{map_is, map_back, map_again}

pub map_take : {A B : Type 0} (f : A → B) (n : ℕ) (xs : List A) → map f (take n xs) ≡ take n (map f xs)
map_take f zero xs = refl
map_take f (suc n) [] = refl
map_take f (suc n) (x ∷ xs) = ap (λ ys. f x ∷ ys) (map_take f n xs)

pub map_drop : {A B : Type 0} (f : A → B) (n : ℕ) (xs : List A) → map f (drop n xs) ≡ drop n (map f xs)
map_drop f zero xs = refl
map_drop f (suc n) [] = refl
map_drop f (suc n) (x ∷ xs) = map_drop f n xs

-- what is said after the exchange
pub unpacked_exchanged : {A B Z : Type 0} (unpack : A → B) (f : A → A) (m : B → B) (P : A → Type 0)
    → ((x : A) → P x → unpack (f x) ≡ m (unpack x))
    → (from to : ℕ) (p run q gone : Vec A Z) → Exchanged f from to p run q gone → AllByRecursion P (drop to p.items)
    → map unpack q.items ≡ take from (map unpack p.items)
    ++ (map unpack run.items ++ map m (drop to (map unpack p.items)))
unpacked_exchanged unpack f m P one from to p run q gone e all =
    ap (map unpack) e.items_are
    ∙ map-append unpack (take from p.items) (run.items ++ map f (drop to p.items))
    ∙ ap (λ ys. map unpack (take from p.items) ++ ys) (map-append unpack run.items (map f (drop to p.items)))
    ∙ ap (λ ys. ys ++ (map unpack run.items ++ map unpack (map f (drop to p.items)))) (map_take unpack from p.items)
    ∙ ap (λ ys. take from (map unpack p.items) ++ (map unpack run.items ++ ys))
    (map_is unpack f m P one (drop to p.items) all ∙ ap (map m) (map_drop unpack to p.items))

-- the same of vectors with the same elements
pub same_exchanged : {A Z : Type 0} (f : A → A) (from to : ℕ) (p p1 run run1 q gone : Vec A Z) → p1.items ≡ p.items
    → run1.items ≡ run.items → Exchanged f from to p1 run1 q gone → Exchanged f from to p run q gone
same_exchanged f from to p p1 run run1 q gone e r h = record {
  items_are =
      h.items_are ∙ ap (λ xs. take from xs ++ (run1.items ++ map f (drop to xs))) e
      ∙ ap (λ xs. take from p.items ++ (xs ++ map f (drop to p.items))) r;
  run_is = h.run_is ∙ ap (λ xs. slice_range xs from to) e;
  len = omega (arith, h.len, ap length e, ap length r, p.ok.0, p1.ok.0, run.ok.0, run1.ok.0);
  run_len = h.run_len;
  room = h.room;
  room_for_run = omega (arith, h.room_for_run, ap length r, run.ok.0, run1.ok.0);
}

-- after what took the run's place is what was after the run, changed
pub after_exchanged : {A Z : Type 0} (f : A → A) (from to until : ℕ) (p run q gone : Vec A Z) → from ≤ to
    → to ≤ vec_len p → until ≡ from + vec_len run
    → Exchanged f from to p run q gone → drop until q.items ≡ map f (drop to p.items)
after_exchanged f from to until p run q gone order within count h =
    let prefix = take from p.items in
    let new = run.items in
    let after = map f (drop to p.items) in
    let l : length prefix ≡ from = take_length p.items from (omega (arith, order, within, p.ok.0)) in
    let n : length (prefix ++ new) ≡ until = omega (arith, length-append prefix new, l, count, run.ok.0) in
    ap (drop until) (h.items_are ∙ sym (append_assoc prefix new after)) ∙ drop_prefix (prefix ++ new) after until n

-- once they change places again, the first is as before
pub exchanged_back : {A Z : Type 0} (f g : A → A) (P : A → Type 0) → ((x : A) → P x → g (f x) ≡ x)
    → (from to until : ℕ) (p run q gone r rest : Vec A Z)
    → from ≤ to → to ≤ vec_len p → until ≡ from + vec_len run → AllByRecursion P (drop to p.items)
    → Exchanged f from to p run q gone → Exchanged g from until q gone r rest → r.items ≡ p.items
exchanged_back f g P back from to until p run q gone r rest order within count all h k =
    let xs = p.items in
    let prefix = take from xs in
    let new = run.items in
    let after = map f (drop to xs) in
    let l : length prefix ≡ from = take_length xs from (omega (arith, order, within, p.ok.0)) in
    k.items_are
    ∙ ap (λ ys. take from ys ++ (gone.items ++ map g (drop until q.items))) h.items_are
    ∙ ap (λ ys. ys ++ (gone.items ++ map g (drop until q.items))) (take_prefix prefix (new ++ after) from l)
    ∙ ap (λ ys. prefix ++ (ys ++ map g (drop until q.items))) h.run_is
    ∙ ap (λ ys. prefix ++ (slice_range xs from to ++ map g ys))
    (after_exchanged f from to until p run q gone order within count h)
    ∙ ap (λ ys. prefix ++ (slice_range xs from to ++ ys)) (map_back f g P back (drop to xs) all)
    ∙ sym (three xs from to order)

-- and they can be changed back
pub changed_back : {A Z : Type 0} (f : A → A) (P Q : A → Type 0) → ((x : A) → P x → Q (f x))
    → (from to until : ℕ) (p run q gone : Vec A Z)
    → from ≤ to → to ≤ vec_len p → until ≡ from + vec_len run → AllByRecursion P (drop to p.items)
    → Exchanged f from to p run q gone → AllByRecursion Q (drop until q.items)
changed_back f P Q again from to until p run q gone order within count all h =
    subst (AllByRecursion Q) (sym (after_exchanged f from to until p run q gone order within count h))
    (map_again f P Q again (drop to p.items) all)
