-- An element is taken out of an array of tables: the paths of the elements after it go down by one.
--
-- The change of paths looks at a path's part after the array's path alone: a path elsewhere stays (`shifted_disjoint`),
-- an index above the element's goes down by one, and one below it stays (`shifted_above`, `shifted_below`). A further
-- step leaves the steps before it (`shifted_key`, `shifted_index`). Of paths that are not at or under the element,
-- different ones stay different (`shifted-injective`).
--
-- Theorems: `shifted_key`, `shifted_index` and `shifted-injective`.
use Rattle.std.proofs.Common.{◌≡◌, ℕ, ◌-◌, ◌<◌, ◌≤◌, Bool, true, false, cond, List, [], ◌∷◌, ◌++◌, refl, sym, ap, ◌∙◌}
use Rattle.std.proofs.Common.{append_assoc, Option, Some, None, ◌⊎◌, inl, inr}
use Rattle.std.proofs.lemmas.List.{append-nil}
use Rattle.std.proofs.lemmas.Bool.{lt-ltb, le-ltb}
use Rattle.keep_path.specs.Path.{Part, key, index, same_path}
use Rattle.keep_edit_spec.specs.Look.{strip, without_last}
use Rattle.keep_edit_spec.proofs.Common.Runs.{strip-append, strip-sound, strip_both, strip_shorter, same_path-sound}
use Rattle.keep_edit_spec.proofs.Common.Runs.{same_path-refl}
use Rattle.keep_edit_spec.proofs.Common.LineLaws.{Reaches, EndsInKey, within_first, beyond, prefix_cases, one_part}
use Rattle.keep_edit_spec.proofs.Common.LineLaws.{last_from, last_snoc, index_cases, never_root}
use Rattle.keep_edit_spec.proofs.Common.Moves.{IsInjectiveOn, down, down-injective}
use Rattle.keep_edit_spec.proofs.Common.Cuts.{without_last-snoc}

abbrev shifted_by : List Part → ℕ → List Part → Option (List Part) → List Part
shifted_by prefix n q o = elim o [ None ↦ q | Some more ↦ prefix ++ down n more ]

-- where the path goes when element n of the array at `prefix` is taken out
abbrev pub shifted : List Part → ℕ → List Part → List Part
shifted prefix n q = shifted_by prefix n q (strip prefix q)

-- the element's path
abbrev pub element_at : List Part → ℕ → List Part
element_at prefix n = prefix ++ index n ∷ []

-- ---- paths that do not reach a path

pub unreached : (p q : List Part) → (Reaches p q → ⊥) → strip p q ≡ None
unreached p q h = by (strip p q) refl
  where
    by : (o : Option (List Part)) → strip p q ≡ o → strip p q ≡ None
    by None e = e
    by (Some r) e = absurd (h (r, e))

pub not_reached : (p q : List Part) → strip p q ≡ None → Reaches p q → ⊥
not_reached p q h u = let k : None ≡ Some u.0 = sym h ∙ u.1 in absurd cc

-- one step on a path is disjoint from another, but where it is that path
pub disjoint_step : (p q : List Part) (x : Part) → strip p q ≡ None → (q ++ x ∷ [] ≡ p → ⊥)
    → strip p (q ++ x ∷ []) ≡ None
disjoint_step p q x h g = unreached p (q ++ x ∷ []) (λ u. elim (prefix_cases p q (x ∷ []) u.0 u.1) [
  | within_first v ↦ not_reached p q h v
  | beyond b bs e v ↦
      (let (y, z) = one_part b x bs v.0 v.1 in
      g (ap (λ (l : List Part). q ++ l) (let w : x ∷ [] ≡ b ∷ bs = cc in w) ∙ sym e))
])

-- the last steps of like paths are alike
pub last_same : (q r : List Part) (x y : Part) → q ++ x ∷ [] ≡ r ++ y ∷ [] → x ≡ y
last_same q r x y e = sym (last_snoc x x q) ∙ ap (last_from x) e ∙ last_snoc x y r

pub prefix_same : (q r : List Part) (x y : Part) → q ++ x ∷ [] ≡ r ++ y ∷ [] → q ≡ r
prefix_same q r x y e = sym (without_last-snoc q x) ∙ ap without_last e ∙ without_last-snoc r y

pub same_number : (m n : ℕ) → index m ≡ index n → m ≡ n
same_number m n e = cc

pub disjoint_key : (prefix : List Part) (n : ℕ) (q : List Part) (k : List ℕ) → strip (element_at prefix n) q ≡ None
    → strip (element_at prefix n) (q ++ key k ∷ []) ≡ None
disjoint_key prefix n q k h =
    disjoint_step (element_at prefix n) q (key k) h
    (λ e. let z : key k ≡ index n = last_same q prefix (key k) (index n) e in absurd cc)

-- what is elsewhere than in the array is elsewhere than in its element
pub disjoint_element : (prefix : List Part) (n : ℕ) (q : List Part) → strip prefix q ≡ None
    → strip (element_at prefix n) q ≡ None
disjoint_element prefix n q h =
    unreached (element_at prefix n) q
    (λ u. not_reached prefix q h (index n ∷ u.0, strip_shorter prefix (index n ∷ []) q u.0 u.1))

pub disjoint_prefix : (prefix : List Part) (n : ℕ) (x : List Part) → strip (index n ∷ []) x ≡ None
    → strip (element_at prefix n) (prefix ++ x) ≡ None
disjoint_prefix prefix n x h = strip_both prefix (index n ∷ []) x ∙ h

-- ---- the change of paths

module _ (prefix : List Part) (n : ℕ) where
  pub shifted_under : (x : List Part) → shifted prefix n (prefix ++ x) ≡ prefix ++ down n x
  shifted_under x = ap (shifted_by prefix n (prefix ++ x)) (strip-append prefix x)

  pub shifted_disjoint : (q : List Part) → strip prefix q ≡ None → shifted prefix n q ≡ q
  shifted_disjoint q h = ap (shifted_by prefix n q) h

  pub shifted_prefix : shifted prefix n prefix ≡ prefix
  shifted_prefix =
      ap (shifted_by prefix n prefix) (ap (strip prefix) (sym (append-nil prefix)) ∙ strip-append prefix [])
      ∙ append-nil prefix

  -- a path that continues from another continues from where that goes
  pub shifted_further : (q x : List Part) → (Reaches prefix (q ++ x) → Reaches prefix q ⊎ (q ++ x ≡ prefix))
      → (q ≡ prefix → down n x ≡ x) → shifted prefix n (q ++ x) ≡ shifted prefix n q ++ x
  shifted_further q x near stays = by (strip prefix q) refl
    where
      under : (more : List Part) → q ≡ prefix ++ more → down n (more ++ x) ≡ down n more ++ x
          → shifted prefix n (q ++ x) ≡ shifted prefix n q ++ x
      under more e d =
          ap (λ (y : List Part). shifted prefix n (y ++ x)) e
          ∙ ap (shifted prefix n) (append_assoc prefix more x)
          ∙ shifted_under (more ++ x)
          ∙ ap (λ (y : List Part). prefix ++ y) d
          ∙ sym (append_assoc prefix (down n more) x)
          ∙ ap (λ (y : List Part). y ++ x) (sym (shifted_under more) ∙ ap (shifted prefix n) (sym e))

      off : strip prefix q ≡ None → (o : Option (List Part)) → strip prefix (q ++ x) ≡ o
          → shifted prefix n (q ++ x) ≡ shifted prefix n q ++ x
      off h None e = shifted_disjoint (q ++ x) e ∙ ap (λ (y : List Part). y ++ x) (sym (shifted_disjoint q h))
      off h (Some r) e = elim (near (r, e)) [
        | inl u ↦ absurd (not_reached prefix q h u)
        | inr w ↦ ap (shifted prefix n) w ∙ shifted_prefix ∙ sym w
            ∙ ap (λ (y : List Part). y ++ x) (sym (shifted_disjoint q h))
      ]

      by : (o : Option (List Part)) → strip prefix q ≡ o → shifted prefix n (q ++ x) ≡ shifted prefix n q ++ x
      by None h = off h (strip prefix (q ++ x)) refl
      by (Some []) h =
          let e : q ≡ prefix ++ [] = strip-sound prefix q [] h in under [] e (stays (e ∙ append-nil prefix))
      by (Some (z ∷ zs)) h = under (z ∷ zs) (strip-sound prefix q (z ∷ zs) h) refl

  pub shifted_key : (q : List Part) (k : List ℕ) → shifted prefix n (q ++ key k ∷ []) ≡ shifted prefix n q ++ key k ∷ []
  shifted_key q k = shifted_further q (key k ∷ []) near (λ e. refl)
    where
      near : Reaches prefix (q ++ key k ∷ []) → Reaches prefix q ⊎ (q ++ key k ∷ [] ≡ prefix)
      near u = elim (prefix_cases prefix q (key k ∷ []) u.0 u.1) [
        | within_first v ↦ inl v
        | beyond b bs e v ↦
            (let (y, z) = one_part b (key k) bs v.0 v.1 in
            inr (ap (λ (l : List Part). q ++ l) (let w : key k ∷ [] ≡ b ∷ bs = cc in w) ∙ sym e))
      ]

  -- a number elsewhere than in the array
  pub shifted_index : EndsInKey prefix → (q : List Part) (m : ℕ) → (q ≡ prefix → ⊥)
      → shifted prefix n (q ++ index m ∷ []) ≡ shifted prefix n q ++ index m ∷ []
  shifted_index ends q m other =
      shifted_further q (index m ∷ []) (λ u. inl (index_cases prefix q m ends u)) (λ e. absurd (other e))

  pub shifted_below : (m : ℕ) → m ≤ n → shifted prefix n (prefix ++ index m ∷ []) ≡ prefix ++ index m ∷ []
  shifted_below m h =
      shifted_under (index m ∷ []) ∙ ap (λ (b : Bool). prefix ++ index (cond b (m - 1) m) ∷ []) (le-ltb n m h)

  pub shifted_above : (m : ℕ) → n < m → shifted prefix n (prefix ++ index m ∷ []) ≡ prefix ++ index (m - 1) ∷ []
  shifted_above m h =
      shifted_under (index m ∷ []) ∙ ap (λ (b : Bool). prefix ++ index (cond b (m - 1) m) ∷ []) (lt-ltb n m h)

  pub shifted_root : EndsInKey prefix → shifted prefix n [] ≡ []
  shifted_root ends = shifted_disjoint [] (unreached prefix [] (never_root prefix ends))

  pub disjoint_root : EndsInKey prefix → strip (element_at prefix n) [] ≡ None
  disjoint_root ends = disjoint_element prefix n [] (unreached prefix [] (never_root prefix ends))

  -- different paths stay different, but for those in the element
  pub shifted-injective : IsInjectiveOn (λ q. strip (element_at prefix n) q ≡ None) (shifted prefix n)
  shifted-injective a b ha hb e = by (strip prefix a) (strip prefix b) refl refl
    where
      rest_disjoint : (q x : List Part) → strip (element_at prefix n) q ≡ None → q ≡ prefix ++ x
          → strip (index n ∷ []) x ≡ None
      rest_disjoint q x h w = sym (strip_both prefix (index n ∷ []) x) ∙ ap (strip (element_at prefix n)) (sym w) ∙ h

      one_in : (x q r : List Part) → strip prefix q ≡ Some x → strip prefix r ≡ None
          → shifted prefix n q ≡ shifted prefix n r → ⊥
      one_in x q r hq hr w =
          let out : prefix ++ down n x ≡ r = sym (ap (shifted_by prefix n q) hq) ∙ w ∙ shifted_disjoint r hr in
          not_reached prefix r hr (down n x, ap (strip prefix) (sym out) ∙ strip-append prefix (down n x))

      by : (o u : Option (List Part)) → strip prefix a ≡ o → strip prefix b ≡ u → a ≡ b
      by None None h g = sym (shifted_disjoint a h) ∙ e ∙ shifted_disjoint b g
      by (Some x) None h g = absurd (one_in x a b h g e)
      by None (Some y) h g = absurd (one_in y b a g h (sym e))
      by (Some x) (Some y) h g =
          let wa : a ≡ prefix ++ x = strip-sound prefix a x h in
          let wb : b ≡ prefix ++ y = strip-sound prefix b y g in
          let ends : prefix ++ down n x ≡ prefix ++ down n y =
          sym (ap (shifted_by prefix n a) h) ∙ e ∙ ap (shifted_by prefix n b) g in
          let some : Some (down n x) ≡ Some (down n y) =
          sym (strip-append prefix (down n x)) ∙ ap (strip prefix) ends ∙ strip-append prefix (down n y) in
          let rests : down n x ≡ down n y = cc in
          wa ∙ ap (λ (z : List Part). prefix ++ z)
          (down-injective n x y (rest_disjoint a x ha wa) (rest_disjoint b y hb wb) rests) ∙ sym wb

  -- so the test of likeness says the same
  pub shifted_same : (a b : List Part) → strip (element_at prefix n) a ≡ None → strip (element_at prefix n) b ≡ None
      → same_path (shifted prefix n a) (shifted prefix n b) ≡ same_path a b
  shifted_same a b ha hb = by (same_path a b) (same_path (shifted prefix n a) (shifted prefix n b)) refl refl
    where
      by : (u v : Bool) → same_path a b ≡ u → same_path (shifted prefix n a) (shifted prefix n b) ≡ v
          → same_path (shifted prefix n a) (shifted prefix n b) ≡ same_path a b
      by true true h g = g ∙ sym h
      by false false h g = g ∙ sym h
      by true false h g =
          let z : same_path (shifted prefix n a) (shifted prefix n b) ≡ true =
          ap (λ (q : List Part). same_path (shifted prefix n a) (shifted prefix n q)) (sym (same_path-sound a b h))
          ∙ same_path-refl (shifted prefix n a) in
          absurd cc
      by false true h g =
          let z : same_path a b ≡ true =
          ap (same_path a) (sym (shifted-injective a b ha hb
          (same_path-sound (shifted prefix n a) (shifted prefix n b) g))) ∙ same_path-refl a in
          absurd cc
