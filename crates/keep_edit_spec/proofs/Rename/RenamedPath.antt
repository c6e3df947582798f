-- Paths where one key is replaced: at and under the old path, and nowhere else.
--
-- Theorems: `under_renamed`: at and under the old path, the new one comes in its place; `disjoint_renamed`: other paths
-- stay; `renamed_injective`: paths that are not at or under the new one stay different.
use Rattle.std.proofs.Common.{◌≡◌, ℕ, ◌<◌, List, [], ◌∷◌, ◌++◌, length, map, refl, sym, ap, ◌∙◌, append_assoc}
use Rattle.std.proofs.Common.{length-append, arith, Option, Some, None, ◌⊎◌, inl, inr}
use Rattle.keep_path.specs.Path.{Part, key, index, moved_path}
use Rattle.keep_meaning.specs.Marks.{Mention, below}
use Rattle.keep_edit_spec.specs.Look.{strip}
use Rattle.keep_edit_spec.proofs.Common.Runs.{AllOf, IsDisjoint, strip-sound, strip-append, strip_both, none_or_some}
use Rattle.keep_edit_spec.proofs.Common.LineLaws.{Reaches, EndsInKey, prefix_cases, within_first, beyond, one_part}
use Rattle.keep_edit_spec.proofs.Common.LineLaws.{last_from, last_snoc}
use Rattle.keep_edit_spec.proofs.Common.SetDocument.{cancel}
use Rattle.keep_edit_spec.proofs.Common.Moves.{moved, IsInjectiveOn}

-- the second path is the first with another last key
pub record IsBeside (t : List ℕ) (p b : List Part) : Type 0 where
  pub prefix : List Part
  pub old : List ℕ
  pub was : p ≡ prefix ++ key old ∷ []
  pub is : b ≡ prefix ++ key t ∷ []

pub ends_old : (t : List ℕ) (p b : List Part) → IsBeside t p b → EndsInKey p
ends_old t p b h = (h.prefix, h.old, h.was)

pub ends_new : (t : List ℕ) (p b : List Part) → IsBeside t p b → EndsInKey b
ends_new t p b h = (h.prefix, t, h.is)

-- where the path goes to, by what is left of it after the old path
abbrev pub replaced : List Part → List Part → Option (List Part) → List Part
replaced b q None = q
replaced b q (Some more) = b ++ more

pub under_renamed : (p b q r : List Part) → strip p q ≡ Some r → moved_path p b q ≡ b ++ r
under_renamed p b q r e = ap (replaced b q) e

pub disjoint_renamed : (p b q : List Part) → strip p q ≡ None → moved_path p b q ≡ q
disjoint_renamed p b q e = ap (replaced b q) e

-- paths that are not at or under the new one stay different
pub renamed_injective : (p b : List Part) → IsInjectiveOn (λ q. strip b q ≡ None) (moved_path p b)
renamed_injective p b x y hx hy e = by (strip p x) (strip p y) refl refl e
  where
    by : (o o' : Option (List Part)) → strip p x ≡ o → strip p y ≡ o' → replaced b x o ≡ replaced b y o' → x ≡ y
    by None None ex ey e = e
    by (Some r) None ex ey e = let k : None ≡ Some r = sym hy ∙ ap (strip b) (sym e) ∙ strip-append b r in absurd cc
    by None (Some r) ex ey e = let k : None ≡ Some r = sym hx ∙ ap (strip b) e ∙ strip-append b r in absurd cc
    by (Some r) (Some u) ex ey e = strip-sound p x r ex ∙ ap (λ l. p ++ l) (cancel b r u e) ∙ sym (strip-sound p y u ey)

-- ---- one step on

pub strip_more : (p q x r : List Part) → strip p q ≡ Some r → strip p (q ++ x) ≡ Some (r ++ x)
strip_more p q x r h =
    ap (λ l. strip p (l ++ x)) (strip-sound p q r h) ∙ ap (strip p) (append_assoc p r x) ∙ strip-append p (r ++ x)

pub renamed_beyond : (p b q x : List Part) → Reaches p q → moved_path p b (q ++ x) ≡ moved_path p b q ++ x
renamed_beyond p b q x h =
    under_renamed p b (q ++ x) (h.0 ++ x) (strip_more p q x h.0 h.1) ∙ sym (append_assoc b h.0 x)
    ∙ ap (λ l. l ++ x) (sym (under_renamed p b q h.0 h.1))

pub renamed_step : (p b q : List Part) (x : Part) → (q ++ x ∷ [] ≡ p → ⊥)
    → moved_path p b (q ++ x ∷ []) ≡ moved_path p b q ++ x ∷ []
renamed_step p b q x never = by (none_or_some (strip p q)) (none_or_some (strip p (q ++ x ∷ [])))
  where
    by : (strip p q ≡ None) ⊎ Reaches p q → (strip p (q ++ x ∷ []) ≡ None) ⊎ Reaches p (q ++ x ∷ [])
        → moved_path p b (q ++ x ∷ []) ≡ moved_path p b q ++ x ∷ []
    by (inr h) o = renamed_beyond p b q (x ∷ []) h
    by (inl e) (inl e') = disjoint_renamed p b (q ++ x ∷ []) e' ∙ ap (λ l. l ++ x ∷ []) (sym (disjoint_renamed p b q e))
    by (inl e) (inr u) = elim (prefix_cases p q (x ∷ []) u.0 u.1) [
      | within_first v ↦ (let k : None ≡ Some v.0 = sym e ∙ v.1 in absurd cc)
      | beyond c cs w v ↦
          (let (one, none) = one_part c x cs v.0 v.1 in
          let same : c ∷ cs ≡ x ∷ [] = cc in
          absurd (never (ap (λ l. q ++ l) (sym same) ∙ sym w)))
    ]

pub not_index : (p q : List Part) (n : ℕ) → EndsInKey p → q ++ index n ∷ [] ≡ p → ⊥
not_index p q n ends e =
    let same : index n ≡ key ends.1 =
    sym (last_snoc (index n) (index n) q) ∙ ap (last_from (index n)) (e ∙ ends.2)
    ∙ last_snoc (index n) (key ends.1) ends.0 in
    absurd cc

pub renamed_index : (p b q : List Part) (n : ℕ) → EndsInKey p
    → moved_path p b (q ++ index n ∷ []) ≡ moved_path p b q ++ index n ∷ []
renamed_index p b q n ends = renamed_step p b q (index n) (λ e. not_index p q n ends e)

-- what is shorter than a path is disjoint from it
pub short_disjoint : (p q : List Part) → length q < length p → strip p q ≡ None
short_disjoint p q h = elim (none_or_some (strip p q)) [
  | inl e ↦ e
  | inr u ↦
      (let k : length q ≡ length (p ++ u.0) = ap length (strip-sound p q u.0 u.1) in
      absurd (omega (arith, k, length-append p u.0)))
]

-- ---- mentions

pub moved_disjoint : (p b : List Part) (ms : List Mention) → AllOf (IsDisjoint p) ms
    → map (moved (moved_path p b)) ms ≡ ms
moved_disjoint p b [] h = refl
moved_disjoint p b (m ∷ ms) h =
    ap (λ (q : List Part). record { path = q; kind = m.kind } ∷ map (moved (moved_path p b)) ms)
    (disjoint_renamed p b m.path h.0) ∙ ap (λ l. m ∷ l) (moved_disjoint p b ms h.1)

pub moved_under : (p b at : List Part) (ms : List Mention) → Reaches p at
    → map (moved (moved_path p b)) (map (below at) ms) ≡ map (below (moved_path p b at)) ms
moved_under p b at [] h = refl
moved_under p b at (m ∷ ms) h =
    ap (λ (q : List Part). record { path = q; kind = m.kind } ∷ map (moved (moved_path p b)) (map (below at) ms))
    (renamed_beyond p b at m.path h)
    ∙ ap (λ l. below (moved_path p b at) m ∷ l) (moved_under p b at ms h)

-- seen from outside, the path continues from a prefix
renamed_both : (s p b q : List Part) → moved_path (s ++ p) (s ++ b) (s ++ q) ≡ s ++ moved_path p b q
renamed_both s p b q = ap (replaced (s ++ b) (s ++ q)) (strip_both s p q) ∙ by (strip p q)
  where
    by : (o : Option (List Part)) → replaced (s ++ b) (s ++ q) o ≡ s ++ replaced b q o
    by None = refl
    by (Some r) = append_assoc s b r

pub moved_below : (s p b : List Part) (ms : List Mention)
    → map (moved (moved_path (s ++ p) (s ++ b))) (map (below s) ms) ≡ map (below s) (map (moved (moved_path p b)) ms)
moved_below s p b [] = refl
moved_below s p b (m ∷ ms) =
    ap (λ (q : List Part).
    record { path = q; kind = m.kind } ∷ map (moved (moved_path (s ++ p) (s ++ b))) (map (below s) ms))
    (renamed_both s p b m.path)
    ∙ ap (λ l. below s (moved (moved_path p b) m) ∷ l) (moved_below s p b ms)
