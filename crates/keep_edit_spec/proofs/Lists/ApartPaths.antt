-- Paths that are apart stay so where one of them gets a new key as its last step, if the other has no such step.
--
-- The path with the new key is the one before its last step, and then that key. A path that begins with it has the key
-- as a step; and a path that it begins with is itself, or one that the old path begins with too.
--
-- Theorems: `renamed_apart`, `apart_renamed`.
use Rattle.std.proofs.Common.{◌≡◌, ℕ, List, [], ◌∷◌, ◌++◌, length, slice_get, refl, sym, ap, ◌∙◌}
use Rattle.std.proofs.Common.{append_assoc, Some, None, inl, inr}
use Rattle.keep_path.specs.Path.{Part, beside, key, strip, without_last}
use Rattle.keep_edit_spec.specs.Runs.{AreApart, IsNoStep}
use Rattle.keep_edit_spec.proofs.Common.Runs.{none_or_some, strip-append, strip-sound}

step_there : (a rest : List Part) (p : Part) → slice_get ((a ++ p ∷ []) ++ rest) (length a) ≡ Some p
step_there [] rest p = refl
step_there (q ∷ a) rest p = step_there a rest p

-- it begins with no path that ends in the key
no_prefix : (a : List Part) (text : List ℕ) (other : List Part) → IsNoStep text other
    → strip (a ++ key text ∷ []) other ≡ None
no_prefix a text other none = elim (none_or_some (strip (a ++ key text ∷ []) other)) [
  | inl e ↦ e
  | inr r ↦
      absurd (none (length a)
      (ap (λ (l : List Part). slice_get l (length a)) (strip-sound (a ++ key text ∷ []) other r.0 r.1)
      ∙ step_there a r.0 (key text)))
]

-- a path, cut before its last step
record IsCutLast (path : List Part) : Type 0 where
  last : Part
  is : path ≡ without_last path ++ last ∷ []

cut_last : (p : Part) (path : List Part) → IsCutLast (p ∷ path)
cut_last p [] = record { last = p; is = refl }
cut_last p (q ∷ path) =
    let h : IsCutLast (q ∷ path) = cut_last q path in
    record { last = h.last; is = ap (λ (l : List Part). p ∷ l) h.is }

-- what two lists have that are the same, one of them with one more at its end
data Ends (a : List Part) (p : Part) (b rest : List Part) : Type 0 where
  whole : b ≡ a ++ p ∷ [] → Ends a p b rest
  before : (more : List Part) → a ≡ b ++ more → Ends a p b rest

ends_of : (a : List Part) (p : Part) (b rest : List Part) → a ++ p ∷ [] ≡ b ++ rest → Ends a p b rest
ends_of a p [] rest e = before a refl
ends_of [] p (q ∷ []) rest e = let h : p ≡ q = cc in whole (ap (λ (x : Part). x ∷ []) (sym h))
ends_of [] p (q ∷ r ∷ b) rest e = absurd cc
ends_of (x ∷ a) p (q ∷ b) rest e =
    let h : x ≡ q = cc in
    let t : a ++ p ∷ [] ≡ b ++ rest = cc in
    elim (ends_of a p b rest t) [
      | whole is ↦ whole (ap (λ (l : List Part). q ∷ l) is ∙ ap (λ (y : Part). y ∷ (a ++ p ∷ [])) (sym h))
      | before more is ↦
          before more (ap (λ (l : List Part). x ∷ l) is ∙ ap (λ (y : Part). y ∷ (b ++ more)) h)
    ]

-- and none of its prefixes is the other
no_whole : (path : List Part) (text : List ℕ) (other : List Part) → AreApart path other → IsNoStep text other
    → strip other (beside path text) ≡ None
no_whole [] text other apart none = let e : Some other ≡ None = apart.0 in absurd cc
no_whole (p ∷ ps) text other apart none = elim (none_or_some (strip other (beside (p ∷ ps) text))) [
  | inl e ↦ e
  | inr r ↦
      let a : List Part = without_last (p ∷ ps) in
      let cut : IsCutLast (p ∷ ps) = cut_last p ps in
      elim (ends_of a (key text) other r.0 (strip-sound other (beside (p ∷ ps) text) r.0 r.1)) [
        | whole is ↦
            absurd (none (length a)
            (ap (λ (l : List Part). slice_get l (length a)) is
            ∙ ap (λ (l : List Part). slice_get l (length a)) (sym (append_nil_of (a ++ key text ∷ [])))
            ∙ step_there a [] (key text)))
        | before more is ↦
            let whole_is : p ∷ ps ≡ other ++ (more ++ cut.last ∷ []) =
            cut.is ∙ ap (λ (l : List Part). l ++ cut.last ∷ []) is ∙ append_assoc other more (cut.last ∷ []) in
            let no : None ≡ Some (more ++ cut.last ∷ []) =
            sym apart.1 ∙ ap (strip other) whole_is ∙ strip-append other (more ++ cut.last ∷ []) in
            absurd cc
      ]
]
  where
    append_nil_of : (l : List Part) → l ++ [] ≡ l
    append_nil_of [] = refl
    append_nil_of (x ∷ l) = ap (λ (m : List Part). x ∷ m) (append_nil_of l)

pub renamed_apart : (path : List Part) (text : List ℕ) (other : List Part) → AreApart path other → IsNoStep text other
    → AreApart (beside path text) other
renamed_apart path text other apart none =
    (no_prefix (without_last path) text other none, no_whole path text other apart none)

pub apart_renamed : (path other : List Part) (text : List ℕ) → AreApart path other → IsNoStep text path
    → AreApart path (beside other text)
apart_renamed path other text apart none =
    let h = renamed_apart other text path (apart.1, apart.0) none in (h.1, h.0)
