-- A path has a longest prefix that passes a test, or none of its prefixes passes the test.
--
-- Theorem: `valued_prefix`.
use Rattle.std.proofs.Common.{◌≡◌, Bool, true, false, List, [], ◌∷◌, ◌++◌, refl, sym, ap, ◌∙◌, ◌⊎◌, inl, inr}
use Rattle.keep_path.specs.Path.{Part}

pub record IsValuedPrefix (T : List Part → Bool) (h : List Part) : Type 0 where
  pub at : List Part
  pub dots : List Part
  pub whole : h ≡ at ++ dots
  pub passes : T at ≡ true
  pub none : (b : Part) (bs r : List Part) → dots ≡ (b ∷ bs) ++ r → T (at ++ b ∷ bs) ≡ false

pub valued_prefix : (T : List Part → Bool) (h : List Part)
    → IsValuedPrefix T h ⊎ ((x r : List Part) → h ≡ x ++ r → T x ≡ false)
valued_prefix T [] = by (T []) refl
  where
    empty : (x r : List Part) → [] ≡ x ++ r → T [] ≡ false → T x ≡ false
    empty [] r e k = k
    empty (p ∷ x) r e k = absurd cc

    by : (b : Bool) → T [] ≡ b → IsValuedPrefix T [] ⊎ ((x r : List Part) → [] ≡ x ++ r → T x ≡ false)
    by true e =
        inl (record { at = []; dots = []; whole = refl; passes = e; none = λ b bs x k. absurd (never b bs x k) })
      where
        never : (b : Part) (bs r : List Part) → [] ≡ (b ∷ bs) ++ r → ⊥
        never b bs r k = cc
    by false e = inr (λ x r k. empty x r k e)
valued_prefix T (p ∷ ps) = by (T []) refl (valued_prefix (λ x. T (p ∷ x)) ps)
  where
    deeper : ((x r : List Part) → ps ≡ x ++ r → T (p ∷ x) ≡ false) → (b : Part) (bs r : List Part)
        → p ∷ ps ≡ (b ∷ bs) ++ r → T (b ∷ bs) ≡ false
    deeper never b bs r k =
        let one : p ≡ b = cc in
        let more : ps ≡ bs ++ r = cc in
        ap (λ (y : Part). T (y ∷ bs)) (sym one) ∙ never bs r more

    all : ((x r : List Part) → ps ≡ x ++ r → T (p ∷ x) ≡ false) → T [] ≡ false → (x r : List Part) → p ∷ ps ≡ x ++ r
        → T x ≡ false
    all never e [] r k = e
    all never e (b ∷ bs) r k = deeper never b bs r k

    by : (b : Bool) → T [] ≡ b
        → IsValuedPrefix (λ x. T (p ∷ x)) ps ⊎ ((x r : List Part) → ps ≡ x ++ r → T (p ∷ x) ≡ false)
        → IsValuedPrefix T (p ∷ ps) ⊎ ((x r : List Part) → p ∷ ps ≡ x ++ r → T x ≡ false)
    by c e (inl k) =
        inl (record {
          at = p ∷ k.at;
          dots = k.dots;
          whole = ap (λ (l : List Part). p ∷ l) k.whole;
          passes = k.passes;
          none = k.none;
        })
    by true e (inr never) = inl (record { at = []; dots = p ∷ ps; whole = refl; passes = e; none = deeper never })
    by false e (inr never) = inr (all never e)
