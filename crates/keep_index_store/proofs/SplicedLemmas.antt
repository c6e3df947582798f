-- A run of elements gives place to another in steps: as many elements first, then more old ones go or a new one comes.
--
-- Theorems: `spliced_then_removed`: more of the old elements go; `spliced_then_inserted`: one more comes;
-- `map-spliced`: a function on each element of such a list.
use Rattle.std.proofs.Common.{◌≡◌, ℕ, ◌+◌, ◌-◌, ◌<◌, ◌≤◌, List, [], ◌∷◌, ◌++◌, length, map, set, take, drop}
use Rattle.std.proofs.Common.{refl, sym, ap, ◌∙◌, arith, append_assoc}
use Rattle.std.proofs.lemmas.List.{append-nil, drop-drop, drop-map, drop_all, length-append, length-drop, map-append}
use Rattle.std.proofs.lemmas.List.{take-append-drop, take-map}
use Rattle.std.proofs.Math.Seq.{take-append_seam, drop-append_seam}
use Rattle.std.specs.List.{insert}
use Rattle.keep_path.specs.NodesBelow.{spliced}

pub take_prefix : {A : Type 0} (xs ys : List A) (n : ℕ) → length xs ≡ n → take n (xs ++ ys) ≡ xs
take_prefix xs ys n e = ap (λ k. take k (xs ++ ys)) (sym e) ∙ take-append_seam xs ys

pub drop_prefix : {A : Type 0} (xs ys : List A) (n : ℕ) → length xs ≡ n → drop n (xs ++ ys) ≡ ys
drop_prefix xs ys n e = ap (λ k. drop k (xs ++ ys)) (sym e) ∙ drop-append_seam xs ys

pub take_count : {A : Type 0} (xs : List A) (n : ℕ) → n ≤ length xs → length (take n xs) ≡ n
take_count xs n h =
    omega (
      arith,
      ap length (take-append-drop n xs),
      length-append (take n xs) (drop n xs),
      length-drop n xs,
      h,
    )

-- the first elements, a run after them, and the rest
pub three_runs : {A : Type 0} (xs : List A) (at gone : ℕ)
    → xs ≡ take at xs ++ (take gone (drop at xs) ++ drop (at + gone) xs)
three_runs xs at gone =
    sym (take-append-drop at xs)
    ∙ ap (λ ys. take at xs ++ ys) (sym (take-append-drop gone (drop at xs)))
    ∙ ap (λ ys. take at xs ++ (take gone (drop at xs) ++ ys)) (drop-drop gone at xs)

pub run_count : {A : Type 0} (xs : List A) (at gone : ℕ) → at + gone ≤ length xs
    → length (take gone (drop at xs)) ≡ gone
run_count xs at gone h = take_count (drop at xs) gone (omega (arith, length-drop at xs, h))

pub map-spliced : {X Y : Type 0} (f : X → Y) (at gone : ℕ) (new xs : List X)
    → map f (spliced at gone new xs) ≡ spliced at gone (map f new) (map f xs)
map-spliced f at gone new xs =
    map-append f (take at xs) (new ++ drop (at + gone) xs)
    ∙ ap (λ ys. ys ++ map f (new ++ drop (at + gone) xs)) (sym (take-map f at xs))
    ∙ ap (λ ys. take at (map f xs) ++ ys)
    (map-append f new (drop (at + gone) xs) ∙ ap (λ ys. map f new ++ ys) (sym (drop-map f (at + gone) xs)))

pub set_first : {X : Type 0} (xs : List X) (x : X) → 0 < length xs → set xs 0 x ≡ x ∷ drop 1 xs
set_first [] x some = absurd (omega (arith, some))
set_first (y ∷ ys) x some = refl

-- the rest of a list, where it was written
pub drop_rest : {X : Type 0} (xs ys : List X) (a : ℕ) → a ≤ length xs
    → drop a (take a xs ++ (ys ++ drop (length xs - a) (drop a xs))) ≡ ys
drop_rest xs ys a low =
    drop_prefix (take a xs) (ys ++ drop (length xs - a) (drop a xs)) a (take_count xs a low)
    ∙ ap (λ zs. ys ++ zs) (drop_all (length xs - a) (drop a xs) (omega (arith, length-drop a xs)))
    ∙ append-nil ys

-- ---- the rest of a list, once a run has given place to as many others

module _ {X : Type 0} (xs ns : List X) (at count : ℕ) (some : length ns ≡ count) (low : at ≤ length xs) where
  fronts : spliced at count ns xs ≡ (take at xs ++ ns) ++ drop (at + count) xs
  fronts = sym (append_assoc (take at xs) ns (drop (at + count) xs))

  front_count : length (take at xs ++ ns) ≡ at + count
  front_count = omega (arith, length-append (take at xs) ns, take_count xs at low, some)

  pub take_spliced : take (at + count) (spliced at count ns xs) ≡ take at xs ++ ns
  take_spliced =
      ap (take (at + count)) fronts
      ∙ take_prefix (take at xs ++ ns) (drop (at + count) xs) (at + count) front_count

  pub drop_spliced : drop (at + count) (spliced at count ns xs) ≡ drop (at + count) xs
  drop_spliced =
      ap (drop (at + count)) fronts
      ∙ drop_prefix (take at xs ++ ns) (drop (at + count) xs) (at + count) front_count

  -- more of the old elements go
  pub spliced_then_removed : (more gone : ℕ) → count + more ≡ gone
      → spliced (at + count) more [] (spliced at count ns xs) ≡ spliced at gone ns xs
  spliced_then_removed more gone all =
      let ys : List X = spliced at count ns xs in
      let past : at + count + more ≡ at + gone = omega (arith, all) in
      let rest : drop (at + count + more) ys ≡ drop (at + gone) xs =
      sym (drop-drop more (at + count) ys) ∙ ap (drop more) drop_spliced ∙ drop-drop more (at + count) xs
      ∙ ap (λ n. drop n xs) past in
      ap (λ zs. zs ++ drop (at + count + more) ys) take_spliced ∙ ap (λ zs. (take at xs ++ ns) ++ zs) rest
      ∙ append_assoc (take at xs) ns (drop (at + gone) xs)

  -- one more comes
  pub spliced_then_inserted : (x : X)
      → insert (spliced at count ns xs) (at + count) x ≡ spliced at count (ns ++ x ∷ []) xs
  spliced_then_inserted x =
      ap (λ zs. zs ++ x ∷ drop (at + count) (spliced at count ns xs)) take_spliced
      ∙ ap (λ zs. (take at xs ++ ns) ++ x ∷ zs) drop_spliced
      ∙ append_assoc (take at xs) ns (x ∷ drop (at + count) xs)
      ∙ ap (λ zs. take at xs ++ zs) (sym (append_assoc ns (x ∷ []) (drop (at + count) xs)))

-- others come, and were put at the end after the old elements
pub four_runs : {X : Type 0} (front new back out more : List X)
    → (front ++ (new ++ back)) ++ (out ++ more) ≡ (front ++ new) ++ ((back ++ out) ++ more)
four_runs front new back out more =
    append_assoc front (new ++ back) (out ++ more)
    ∙ ap (λ zs. front ++ zs)
    (append_assoc new back (out ++ more) ∙ ap (λ zs. new ++ zs) (sym (append_assoc back out more)))
    ∙ sym (append_assoc front new ((back ++ out) ++ more))

pub old_at_end : {X : Type 0} (front new back out more : List X)
    → (front ++ new) ++ (more ++ (back ++ out)) ≡ (front ++ ((new ++ more) ++ back)) ++ out
old_at_end front new back out more =
    append_assoc front new (more ++ (back ++ out))
    ∙ ap (λ zs. front ++ zs)
    (ap (λ zs. new ++ zs) (sym (append_assoc more back out)) ∙ sym (append_assoc new (more ++ back) out)
    ∙ ap (λ zs. zs ++ out) (sym (append_assoc new more back)))
    ∙ sym (append_assoc front ((new ++ more) ++ back) out)
