-- Where what is stored is joined to more, each of the two is a part of the whole, and taking that part out gives it
-- again.
--
-- Theorems: `part_prefix`: the part up to where they join is the first; `part_back`: the part after that is the second;
-- `joined_assoc`: joining is associative.
use Rattle.std.proofs.Common.{◌≡◌, ℕ, ◌-◌, List, ◌++◌, length, take, drop, refl, sym, ap, ◌∙◌, arith, append_assoc}
use Rattle.std.specs.Prelude.{slice_range}
use Rattle.std.proofs.lemmas.List.{length-append}
use Rattle.std.proofs.Math.Seq.{take-append_seam, drop-append_seam, take-length}
use Rattle.keep_syntax_store.specs.declared.moves.Counts.{Counts}
use Rattle.keep_syntax_store.specs.Flat.{Flat}
use Rattle.keep_syntax_store.specs.Rereading.{counts_at, nothing, IsPart, part_of, joined, appended}
use Rattle.keep_syntax_store.proofs.FlatLaws.{same_flat}

pub joined_assoc : (f g h : Flat) → joined (joined f g) h ≡ joined f (joined g h)
joined_assoc f g h =
    same_flat (joined (joined f g) h) (joined f (joined g h))
    (append_assoc f.kinds g.kinds h.kinds)
    (append_assoc f.starts g.starts h.starts)
    (append_assoc f.statements g.statements h.statements)
    (append_assoc f.keys g.keys h.keys)
    (append_assoc f.values g.values h.values)

-- as many kinds as places
abbrev pub IsEven : Flat → Type 0
IsEven f = length f.starts ≡ length f.kinds

pub joined_even : (f g : Flat) → IsEven f → IsEven g → IsEven (joined f g)
joined_even f g h k = omega (arith, h, k, length-append f.starts g.starts, length-append f.kinds g.kinds)

-- what is appended to the same
pub appended_as : {out out2 new : Flat} (other : Flat) {a a2 b b2 : Counts} (at : ℕ) → out ≡ out2 → a ≡ a2 → b ≡ b2
    → new ≡ appended out other a b at → new ≡ appended out2 other a2 b2 at
appended_as {out} {out2} {new} other {a} {a2} {b} {b2} at p q r h =
    h ∙ ap (λ (x : Flat). appended x other a b at) p ∙ ap (λ (x : Counts). appended out2 other x b at) q
    ∙ ap (λ (x : Counts). appended out2 other a2 x at) r

-- ---- parts of what is stored

pub range_prefix : {A : Type 0} (xs ys : List A) (n : ℕ) → n ≡ length xs → slice_range (xs ++ ys) 0 n ≡ xs
range_prefix xs ys n e =
    ap (λ k. take k (xs ++ ys)) (let k : n - 0 ≡ length xs = omega (arith, e) in k) ∙ take-append_seam xs ys

pub range_back : {A : Type 0} (xs ys : List A) (n m : ℕ) → n ≡ length xs → m ≡ length (xs ++ ys)
    → slice_range (xs ++ ys) n m ≡ ys
range_back xs ys n m e k =
    ap (λ i. take (m - n) (drop i (xs ++ ys))) e ∙ ap (λ zs. take (m - n) zs) (drop-append_seam xs ys)
    ∙ ap (λ i. take i ys) (let size : m - n ≡ length ys = omega (arith, e, k, length-append xs ys) in size)
    ∙ take-length ys

pub range_all : {A : Type 0} (xs : List A) (n : ℕ) → n ≡ length xs → slice_range xs 0 n ≡ xs
range_all xs n e = ap (λ k. take k xs) (let k : n - 0 ≡ length xs = omega (arith, e) in k) ∙ take-length xs

pub part_prefix : (x y : Flat) (place : ℕ) → IsEven x → part_of nothing (counts_at place x) (joined x y) ≡ x
part_prefix x y place even =
    same_flat (part_of nothing (counts_at place x) (joined x y)) x
    (range_prefix x.kinds y.kinds _ refl) (range_prefix x.starts y.starts _ (sym even))
    (range_prefix x.statements y.statements _ refl) (range_prefix x.keys y.keys _ refl)
    (range_prefix x.values y.values _ refl)

pub part_back : (x y : Flat) (a b : ℕ) → IsEven x → IsEven y
    → part_of (counts_at a x) (counts_at b (joined x y)) (joined x y) ≡ y
part_back x y a b even also =
    same_flat (part_of (counts_at a x) (counts_at b (joined x y)) (joined x y)) y
    (range_back x.kinds y.kinds _ _ refl refl)
    (range_back x.starts y.starts _ _ (sym even) (sym (joined_even x y even also)))
    (range_back x.statements y.statements _ _ refl refl) (range_back x.keys y.keys _ _ refl refl)
    (range_back x.values y.values _ _ refl refl)

pub part_all : (x : Flat) (place : ℕ) → IsEven x → part_of nothing (counts_at place x) x ≡ x
part_all x place even =
    same_flat (part_of nothing (counts_at place x) x) x (range_all x.kinds _ refl) (range_all x.starts _ (sym even))
    (range_all x.statements _ refl) (range_all x.keys _ refl) (range_all x.values _ refl)

-- ---- what can be taken out

pub part_before : (x y : Flat) (a : ℕ) → IsPart nothing (counts_at a x) (joined x y)
part_before x y a = record {
  tokens_from = omega arith;
  tokens = omega (arith, length-append x.kinds y.kinds);
  statements_from = omega arith;
  statements = omega (arith, length-append x.statements y.statements);
  keys_from = omega arith;
  keys = omega (arith, length-append x.keys y.keys);
  values_from = omega arith;
  values = omega (arith, length-append x.values y.values);
}

pub part_after : (x y : Flat) (a b : ℕ) → IsPart (counts_at a x) (counts_at b (joined x y)) (joined x y)
part_after x y a b = record {
  tokens_from = omega (arith, length-append x.kinds y.kinds);
  tokens = omega arith;
  statements_from = omega (arith, length-append x.statements y.statements);
  statements = omega arith;
  keys_from = omega (arith, length-append x.keys y.keys);
  keys = omega arith;
  values_from = omega (arith, length-append x.values y.values);
  values = omega arith;
}
