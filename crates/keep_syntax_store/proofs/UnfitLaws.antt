-- Entries that are kept apart by their numbers: what is found, where the numbers ascend, and what a list with them is.
--
-- `found` gives the first entry with a number. Where the numbers ascend (`Ascend`), no two are equal: so the entry at a
-- place is what its number finds (`found_at`), and another entry put there changes what this number finds, and nothing
-- else (`set_changes`). A search ends at the first number that is not less than the one sought; if it is another, none
-- is the one sought, because those after it are greater still (`not_found`). One more entry with a later number is
-- found (`found_last`); other numbers find what they did (`found_earlier`). A list with such entries (`with_unfit`)
-- has, for each number, the entry found or else its own (`unfit_get`). Induction over the list gives what its parts are
-- (`unfit_append`), what it is with a run put in (`unfit_run`), and with an entry changed (`unfit_set`,
-- `unfit_changed`).
--
-- Theorems: `found_there` and `not_found`: what a search finds; `unfit_get`: what a list with these entries has.
use Rattle.std.proofs.Common.{◌≡◌, ℕ, zero, suc, ◌+◌, ◌<◌, ◌≤◌, ◌==◌, true, false, List, [], ◌∷◌, ◌++◌, length, get_or}
use Rattle.std.proofs.Common.{take, drop, refl, sym, ap, subst, ◌∙◌, arith, inl, inr, ◌⊎◌, Some, None, slice_get}
use Rattle.std.specs.Prelude.{ltb, if◌then◌else◌, option_map, unwrap_or}
use Rattle.std.specs.List.Sorted.{IsNonDecreasingBy}
use Rattle.std.proofs.Math.ListN.{set}
use Rattle.std.proofs.lemmas.Bool.{cases_lt, lt-ltb, ltb-true}
use Rattle.std.proofs.lemmas.Bool.Decides.{eqb_tells}
use Rattle.std.proofs.lemmas.Option.{slice_get_read}
use Rattle.std.proofs.Math.Nat.{eq-or-lt_of_le}
use Rattle.keep_syntax_store.specs.declared.unfit.Numbered.{Numbered}
use Rattle.keep_syntax_store.specs.Unfit.{numbered, found, Ascend, AreBefore, IsFree, CountsBefore, IsChangedAt}
use Rattle.keep_syntax_store.specs.Unfit.{with_unfit}
use Rattle.keep_syntax_store.specs.PackedVec.{with_run}
use Rattle.keep_syntax_store.proofs.ExchangeLaws.{take_length}
use Rattle.keep_syntax_store.proofs.TestLaws.{if_true, if_false}

module _ {E : Type 0} where
  abbrev pub number_of : Numbered E → ℕ
  number_of u = u.number

  -- ---- what is found

  found_head : (n : ℕ) (u : Numbered E) (us : List (Numbered E)) → u.number ≡ n → found n (u ∷ us) ≡ Some u.entry
  found_head n u us e = elim (eqb_tells u.number n) [
    | inl t ↦ if_true (u.number == n) _ _ t.0
    | inr t ↦ absurd (t.1 e)
  ]

  found_after : (n : ℕ) (u : Numbered E) (us : List (Numbered E)) → (u.number ≡ n → ⊥) → found n (u ∷ us) ≡ found n us
  found_after n u us e = elim (eqb_tells u.number n) [
    | inl t ↦ absurd (e t.1)
    | inr t ↦ if_false (u.number == n) _ _ t.0
  ]

  -- none of them has the number
  pub found_none : (n : ℕ) (us : List (Numbered E))
      → ((k : ℕ) (d : Numbered E) → k < length us → (get_or us k d).number ≡ n → ⊥) → found n us ≡ None
  found_none n [] h = refl
  found_none n (u ∷ us) h =
      found_after n u us (h 0 u (omega arith)) ∙ found_none n us (λ k d l. h (suc k) d (omega (arith, l)))

  pub found_before : (n m : ℕ) (us : List (Numbered E)) → AreBefore n us → n ≤ m → found m us ≡ None
  found_before n m [] h l = refl
  found_before n m (u ∷ us) h l = found_after m u us (λ e. omega (arith, h.0, l, e)) ∙ found_before n m us h.1 l

  -- one more, with a later number
  pub found_earlier : (n m : ℕ) (e : E) (us : List (Numbered E)) → (m ≡ n → ⊥)
      → found n (us ++ numbered m e ∷ []) ≡ found n us
  found_earlier n m e [] h = found_after n (numbered m e) [] h
  found_earlier n m e (u ∷ us) h = elim (eqb_tells u.number n) [
    | inl t ↦ found_head n u (us ++ numbered m e ∷ []) t.1 ∙ sym (found_head n u us t.1)
    | inr t ↦ found_after n u (us ++ numbered m e ∷ []) t.1 ∙ found_earlier n m e us h ∙ sym (found_after n u us t.1)
  ]

  pub found_last : (n : ℕ) (e : E) (us : List (Numbered E)) → AreBefore n us
      → found n (us ++ numbered n e ∷ []) ≡ Some e
  found_last n e [] h = found_head n (numbered n e) [] refl
  found_last n e (u ∷ us) h =
      found_after n u (us ++ numbered n e ∷ []) (λ k. omega (arith, h.0, k)) ∙ found_last n e us h.1

  -- ---- numbers that ascend

  pub ascend_before : (low : ℕ) (us : List (Numbered E)) (end : ℕ) → Ascend low us end → AreBefore end us
  ascend_before low [] end h = tt
  ascend_before low (u ∷ us) end h = (last (suc u.number) us h.1, ascend_before (suc u.number) us end h.1)
    where
      last : (m : ℕ) (vs : List (Numbered E)) → Ascend m vs end → m ≤ end
      last m [] k = k
      last m (v ∷ vs) k = omega (arith, k.0, last (suc v.number) vs k.1)

  pub before_later : (n m : ℕ) (us : List (Numbered E)) → AreBefore n us → n ≤ m → AreBefore m us
  before_later n m [] h l = tt
  before_later n m (u ∷ us) h l = (omega (arith, h.0, l), before_later n m us h.1 l)

  pub ascend_more : (low n : ℕ) (e : E) (us : List (Numbered E)) (end : ℕ) → Ascend low us end → end ≤ n
      → Ascend low (us ++ numbered n e ∷ []) (suc n)
  ascend_more low n e [] end h l = (omega (arith, h, l), omega arith)
  ascend_more low n e (u ∷ us) end h l = (h.0, ascend_more (suc u.number) n e us end h.1 l)

  ascend_low : (low : ℕ) (us : List (Numbered E)) (end k : ℕ) (d : Numbered E) → Ascend low us end → k < length us
      → low ≤ (get_or us k d).number
  ascend_low low [] end k d h l = absurd (omega (arith, l))
  ascend_low low (u ∷ us) end zero d h l = h.0
  ascend_low low (u ∷ us) end (suc k) d h l =
      omega (arith, h.0, ascend_low (suc u.number) us end k d h.1 (omega (arith, l)))

  pub ascend_strict : (low : ℕ) (us : List (Numbered E)) (end i j : ℕ) (d : Numbered E) → Ascend low us end → i < j
      → j < length us → (get_or us i d).number < (get_or us j d).number
  ascend_strict low [] end i j d h l w = absurd (omega (arith, w))
  ascend_strict low (u ∷ us) end i zero d h l w = absurd (omega (arith, l))
  ascend_strict low (u ∷ us) end zero (suc j) d h l w =
      omega (arith, ascend_low (suc u.number) us end j d h.1 (omega (arith, w)))
  ascend_strict low (u ∷ us) end (suc i) (suc j) d h l w =
      ascend_strict (suc u.number) us end i j d h.1 (omega (arith, l)) (omega (arith, w))

  pub ascend_order : (low : ℕ) (us : List (Numbered E)) (end : ℕ) → Ascend low us end
      → IsNonDecreasingBy (λ (u : Numbered E). u.number) us
  ascend_order low [] end h i j d l w = absurd (omega (arith, w))
  ascend_order low (u ∷ us) end h zero zero d l w = omega arith
  ascend_order low (u ∷ us) end h zero (suc j) d l w =
      omega (arith, ascend_low (suc u.number) us end j d h.1 (omega (arith, w)))
  ascend_order low (u ∷ us) end h (suc i) zero d l w = absurd (omega (arith, l))
  ascend_order low (u ∷ us) end h (suc i) (suc j) d l w =
      ascend_order (suc u.number) us end h.1 i j d (omega (arith, l)) (omega (arith, w))

  -- ---- one by its place

  pub found_at : (low : ℕ) (us : List (Numbered E)) (end place : ℕ) (u : Numbered E) → Ascend low us end
      → slice_get us place ≡ Some u → found u.number us ≡ Some u.entry
  found_at low [] end place u h e = let never : ⊥ = cc in absurd never
  found_at low (v ∷ us) end zero u h e =
      let same : v ≡ u = cc in found_head u.number v us (ap number_of same) ∙ ap (λ (x : Numbered E). Some x.entry) same
  found_at low (v ∷ us) end (suc place) u h e =
      found_after u.number v us (λ k. omega (arith, k, low_at (suc v.number) us place h.1 e))
      ∙ found_at (suc v.number) us end place u h.1 e
    where
      low_at : (m : ℕ) (vs : List (Numbered E)) (k : ℕ) → Ascend m vs end → slice_get vs k ≡ Some u → m ≤ u.number
      low_at m [] k h e = let never : ⊥ = cc in absurd never
      low_at m (w ∷ vs) zero h e = let same : w ≡ u = cc in omega (arith, h.0, ap number_of same)
      low_at m (w ∷ vs) (suc k) h e = omega (arith, h.0, low_at (suc w.number) vs k h.1 e)

  pub ascend_set : (low : ℕ) (us : List (Numbered E)) (end place n : ℕ) (e : E) → Ascend low us end
      → option_map number_of (slice_get us place) ≡ Some n → Ascend low (set us place (numbered n e)) end
  ascend_set low [] end place n e h is = h
  ascend_set low (u ∷ us) end zero n e h is =
      let same : u.number ≡ n = cc in
      (omega (arith, h.0, same), subst (λ (m : ℕ). Ascend (suc m) us end) same h.1)
  ascend_set low (u ∷ us) end (suc place) n e h is = (h.0, ascend_set (suc u.number) us end place n e h.1 is)

  found_set_other : (us : List (Numbered E)) (place n k : ℕ) (e : E)
      → option_map number_of (slice_get us place) ≡ Some n → (n ≡ k → ⊥)
      → found k (set us place (numbered n e)) ≡ found k us
  found_set_other [] place n k e is h = refl
  found_set_other (u ∷ us) zero n k e is h =
      let same : u.number ≡ n = cc in
      found_after k (numbered n e) us h ∙ sym (found_after k u us (λ z. h (sym same ∙ z)))
  found_set_other (u ∷ us) (suc place) n k e is h = elim (eqb_tells u.number k) [
    | inl t ↦ found_head k u (set us place (numbered n e)) t.1 ∙ sym (found_head k u us t.1)
    | inr t ↦ found_after k u (set us place (numbered n e)) t.1 ∙ found_set_other us place n k e is h
        ∙ sym (found_after k u us t.1)
  ]

  set_at : (us : List (Numbered E)) (place n : ℕ) (e : E) → option_map number_of (slice_get us place) ≡ Some n
      → slice_get (set us place (numbered n e)) place ≡ Some (numbered n e)
  set_at [] place n e is = let never : ⊥ = cc in absurd never
  set_at (u ∷ us) zero n e is = refl
  set_at (u ∷ us) (suc place) n e is = set_at us place n e is

  pub set_changes : (us : List (Numbered E)) (end place n : ℕ) (e : E) → Ascend 0 us end
      → option_map number_of (slice_get us place) ≡ Some n → IsChangedAt n e us (set us place (numbered n e))
  set_changes us end place n e h is k = elim (eqb_tells n k) [
    | inl t ↦
        ap (λ (m : ℕ). found m (set us place (numbered n e))) (sym t.1)
        ∙ found_at 0 (set us place (numbered n e)) end place (numbered n e) (ascend_set 0 us end place n e h is)
        (set_at us place n e is)
        ∙ sym (if_true (n == k) (Some e) (found k us) t.0)
    | inr t ↦ found_set_other us place n k e is t.1 ∙ sym (if_false (n == k) (Some e) (found k us) t.0)
  ]

  -- ---- a list with those that are kept apart

  pub unfit_length : (us : List (Numbered E)) (n : ℕ) (es : List E) → length (with_unfit us n es) ≡ length es
  unfit_length us n [] = refl
  unfit_length us n (e ∷ es) = ap suc (unfit_length us (suc n) es)

  pub no_unfit : (n : ℕ) (es : List E) → with_unfit [] n es ≡ es
  no_unfit n [] = refl
  no_unfit n (e ∷ es) = ap (λ xs. e ∷ xs) (no_unfit (suc n) es)

  pub unfit_get : (us : List (Numbered E)) (n k : ℕ) (es : List E)
      → slice_get (with_unfit us n es) k ≡ option_map (unwrap_or (found (n + k) us)) (slice_get es k)
  unfit_get us n k [] = refl
  unfit_get us n zero (e ∷ es) = ap (λ i. Some (unwrap_or (found i us) e)) (let h : n ≡ n + 0 = omega arith in h)
  unfit_get us n (suc k) (e ∷ es) =
      unfit_get us (suc n) k es
      ∙ ap (λ i. option_map (unwrap_or (found i us)) (slice_get es k))
      (let h : suc n + k ≡ n + suc k = omega arith in h)

  pub unfit_append : (us : List (Numbered E)) (n : ℕ) (xs ys : List E)
      → with_unfit us n (xs ++ ys) ≡ with_unfit us n xs ++ with_unfit us (n + length xs) ys
  unfit_append us n [] ys = ap (λ i. with_unfit us i ys) (let h : n ≡ n + 0 = omega arith in h)
  unfit_append us n (x ∷ xs) ys =
      ap (λ zs. unwrap_or (found n us) x ∷ zs) (unfit_append us (suc n) xs ys)
      ∙ ap (λ i. unwrap_or (found n us) x ∷ (with_unfit us (suc n) xs ++ with_unfit us i ys))
      (let h : suc n + length xs ≡ n + suc (length xs) = omega arith in h)

  -- the same is found for each of the numbers
  pub unfit_alike : (us vs : List (Numbered E)) (n : ℕ) (es : List E)
      → ((i : ℕ) → n ≤ i → i < n + length es → found i vs ≡ found i us) → with_unfit vs n es ≡ with_unfit us n es
  unfit_alike us vs n [] h = refl
  unfit_alike us vs n (e ∷ es) h =
      ap (λ m. unwrap_or m e ∷ with_unfit vs (suc n) es) (h n (omega arith) (omega arith))
      ∙ ap (λ xs. unwrap_or (found n us) e ∷ xs)
      (unfit_alike us vs (suc n) es (λ i low high. h i (omega (arith, low)) (omega (arith, high))))

  pub unfit_take : (us : List (Numbered E)) (n k : ℕ) (es : List E)
      → take k (with_unfit us n es) ≡ with_unfit us n (take k es)
  unfit_take us n zero es = refl
  unfit_take us n (suc k) [] = refl
  unfit_take us n (suc k) (e ∷ es) = ap (λ xs. unwrap_or (found n us) e ∷ xs) (unfit_take us (suc n) k es)

  pub unfit_drop : (us : List (Numbered E)) (n k : ℕ) (es : List E)
      → drop k (with_unfit us n es) ≡ with_unfit us (n + k) (drop k es)
  unfit_drop us n zero es = ap (λ i. with_unfit us i es) (let h : n ≡ n + 0 = omega arith in h)
  unfit_drop us n (suc k) [] = refl
  unfit_drop us n (suc k) (e ∷ es) =
      unfit_drop us (suc n) k es
      ∙ ap (λ i. with_unfit us i (drop k es)) (let h : suc n + k ≡ n + suc k = omega arith in h)

  -- none of the numbers is kept apart
  pub unfit_free : (us : List (Numbered E)) (n : ℕ) (es : List E) → IsFree n (n + length es) us
      → with_unfit us n es ≡ es
  unfit_free us n [] h = refl
  unfit_free us n (e ∷ es) h =
      ap (λ m. unwrap_or m e ∷ with_unfit us (suc n) es) (h n (omega arith) (omega arith))
      ∙ ap (λ xs. e ∷ xs) (unfit_free us (suc n) es (λ i low high. h i (omega (arith, low)) (omega (arith, high))))

  -- a run of others, none of which is kept apart
  pub unfit_run : (us : List (Numbered E)) (from : ℕ) (xs run : List E) → from ≤ length xs
      → IsFree from (from + length run) us
      → with_unfit us 0 (with_run xs from run) ≡ with_run (with_unfit us 0 xs) from run
  unfit_run us from xs run h free =
      let a = take from xs in
      let d = drop (from + length run) xs in
      let len : 0 + length a ≡ from = omega (arith, take_length xs from h) in
      unfit_append us 0 a (run ++ d)
      ∙ ap (λ n. with_unfit us 0 a ++ with_unfit us n (run ++ d)) len
      ∙ ap (λ ys. with_unfit us 0 a ++ ys) (unfit_append us from run d)
      ∙ ap (λ ys. with_unfit us 0 a ++ (ys ++ with_unfit us (from + length run) d)) (unfit_free us from run free)
      ∙ ap (λ ys. ys ++ (run ++ with_unfit us (from + length run) d)) (sym (unfit_take us 0 from xs))
      ∙ ap (λ ys. take from (with_unfit us 0 xs) ++ (run ++ ys))
      (sym (unfit_drop us 0 (from + length run) xs
      ∙ ap (λ n. with_unfit us n d) (let z : 0 + (from + length run) ≡ from + length run = omega arith in z)))

  -- one that is not kept apart is changed
  pub unfit_set : (us : List (Numbered E)) (n k : ℕ) (e : E) (es : List E) → found (n + k) us ≡ None
      → with_unfit us n (set es k e) ≡ set (with_unfit us n es) k e
  unfit_set us n k e [] h = refl
  unfit_set us n zero e (d ∷ es) h =
      ap (λ m. unwrap_or m e ∷ with_unfit us (suc n) es)
      (ap (λ i. found i us) (let z : n ≡ n + 0 = omega arith in z) ∙ h)
  unfit_set us n (suc k) e (d ∷ es) h =
      ap (λ xs. unwrap_or (found n us) d ∷ xs)
      (unfit_set us (suc n) k e es (ap (λ i. found i us) (let z : suc n + k ≡ n + suc k = omega arith in z) ∙ h))

  -- one that is kept apart is changed
  pub unfit_changed : (us vs : List (Numbered E)) (n k : ℕ) (e : E) (es : List E) → IsChangedAt (n + k) e us vs
      → with_unfit vs n es ≡ set (with_unfit us n es) k e
  unfit_changed us vs n k e [] h = refl
  unfit_changed us vs n zero e (d ∷ es) h =
      let same : found n vs ≡ Some e = h n ∙ here (n + 0) n (omega arith) in
      ap (λ m. unwrap_or m d ∷ with_unfit vs (suc n) es) same
      ∙ ap (λ xs.
      e ∷ xs) (unfit_alike us vs (suc n) es (λ i low high. h i ∙ other (n + 0) i (λ z. omega (arith, low, z))))
    where
      here : (m i : ℕ) → m ≡ i → (if m == i then Some e else found i us) ≡ Some e
      here m i z = elim (eqb_tells m i) [ inl t ↦ if_true (m == i) _ _ t.0 | inr t ↦ absurd (t.1 z) ]

      other : (m i : ℕ) → (m ≡ i → ⊥) → (if m == i then Some e else found i us) ≡ found i us
      other m i z = elim (eqb_tells m i) [ inl t ↦ absurd (z t.1) | inr t ↦ if_false (m == i) _ _ t.0 ]
  unfit_changed us vs n (suc k) e (d ∷ es) h =
      ap (λ m. unwrap_or m d ∷ with_unfit vs (suc n) es) (h n ∙ other (n + suc k) n (λ z. omega (arith, z)))
      ∙ ap (λ xs. unwrap_or (found n us) d ∷ xs)
      (unfit_changed us vs (suc n) k e es
      (subst (λ (m : ℕ). IsChangedAt m e us vs) (let z : n + suc k ≡ suc n + k = omega arith in z) h))
    where
      other : (m i : ℕ) → (m ≡ i → ⊥) → (if m == i then Some e else found i us) ≡ found i us
      other m i z = elim (eqb_tells m i) [ inl t ↦ absurd (z t.1) | inr t ↦ if_false (m == i) _ _ t.0 ]

  -- ---- what the functions of the list promise, where its numbers ascend

  module _ (us vs : List (Numbered E)) (end : ℕ) (view : us ≡ vs) (h : Ascend 0 us end) where
    pub all_before : (n : ℕ) → end ≤ n → AreBefore n vs
    all_before n l = subst (AreBefore n) view (before_later end n us (ascend_before 0 us end h) l)

    pub none_after : (n : ℕ) → end ≤ n → None ≡ found n vs
    none_after n l = sym (found_before n n vs (all_before n l) (omega arith))

    -- a search ends at a place before which all numbers are less, and none from there on is
    pub not_found : (n place : ℕ) → CountsBefore n us place
        → ((d : Numbered E) → place < length us → (get_or us place d).number ≡ n → ⊥) → found n vs ≡ None
    not_found n place point next = ap (found n) (sym view) ∙ found_none n us each
      where
        later : (k : ℕ) (d : Numbered E) → place ≤ k → k < length us → (get_or us k d).number ≡ n
            → (place ≡ k) ⊎ (place < k) → ⊥
        later k d l w e (inl same) = next d (omega (arith, same, w)) (ap (λ i. (get_or us i d).number) same ∙ e)
        later k d l w e (inr less) =
            let first : ltb (get_or us place d).number n ≡ false =
            point.1 place d (omega arith) (omega (arith, less, w)) in
            let second : ltb (get_or us place d).number n ≡ true =
            lt-ltb (get_or us place d).number n (omega (arith, e, ascend_strict 0 us end place k d h less w)) in
            let never : ⊥ = cc in
            absurd never

        each : (k : ℕ) (d : Numbered E) → k < length us → (get_or us k d).number ≡ n → ⊥
        each k d w e = elim (cases_lt k place) [
          | inl less ↦
              let below : (get_or us k d).number < n =
              ltb-true (get_or us k d).number n (point.0 k d (omega arith) less) in
              omega (arith, below, e)
          | inr l ↦ later k d l w e (eq-or-lt_of_le l)
        ]

    -- the one at the place has a number that is not before `to`
    pub none_between : (from to place : ℕ) → CountsBefore from us place
        → ((d : Numbered E) → place < length us → to ≤ (get_or us place d).number) → IsFree from to vs
    none_between from to place point next n low high = ap (found n) (sym view) ∙ found_none n us each
      where
        each : (k : ℕ) (d : Numbered E) → k < length us → (get_or us k d).number ≡ n → ⊥
        each k d w e = elim (cases_lt k place) [
          | inl less ↦
              let below : (get_or us k d).number < from =
              ltb-true (get_or us k d).number from (point.0 k d (omega arith) less) in
              omega (arith, below, e, low)
          | inr l ↦ omega (arith, next d (omega (arith, l, w)), ascend_order 0 us end h place k d l w, e, high)
        ]

    pub same_read : (xs : List (Numbered E)) (k : ℕ) (d u : Numbered E) → k < length xs → u ≡ get_or xs k u
        → get_or xs k d ≡ u
    same_read [] k d u l e = absurd (omega (arith, l))
    same_read (x ∷ xs) zero d u l e = sym e
    same_read (x ∷ xs) (suc k) d u l e = same_read xs k d u (omega (arith, l)) e

    there : (xs : List (Numbered E)) (place n : ℕ) → option_map number_of (slice_get xs place) ≡ Some n
        → place < length xs
    there [] place n is = let never : ⊥ = cc in absurd never
    there (x ∷ xs) zero n is = omega arith
    there (x ∷ xs) (suc place) n is = omega (arith, there xs place n is)

    module _ (place n : ℕ) (u : Numbered E) (is : option_map number_of (slice_get vs place) ≡ Some n)
        (read : u ≡ get_or us place u) where
      got : slice_get us place ≡ Some u
      got = slice_get_read us (length us) place u refl
          (there us place n (ap (λ xs. option_map number_of (slice_get xs place)) view ∙ is)) read

      here : option_map number_of (slice_get us place) ≡ Some n
      here = ap (λ xs. option_map number_of (slice_get xs place)) view ∙ is

      number_is : u.number ≡ n
      number_is = let some : Some u.number ≡ Some n = sym (ap (option_map number_of) got) ∙ here in cc

      pub found_there : Some u.entry ≡ found n vs
      found_there =
          sym (ap (λ m. found m vs) (sym number_is) ∙ ap (found u.number) (sym view) ∙ found_at 0 us end place u h got)

      pub still_ascend : (e : E) → Ascend 0 (set us place (record { number = u.number; entry = e })) end
      still_ascend e =
          subst (λ (m : ℕ). Ascend 0 (set us place (numbered m e)) end) (sym number_is)
          (ascend_set 0 us end place n e h here)

      pub changed_there : (e : E) → IsChangedAt n e vs (set us place (record { number = u.number; entry = e }))
      changed_there e =
          subst (λ (xs : List (Numbered E)). IsChangedAt n e xs (set us place (numbered u.number e))) view
          (subst (λ (m : ℕ). IsChangedAt n e us (set us place (numbered m e))) (sym number_is)
          (set_changes us end place n e h here))
