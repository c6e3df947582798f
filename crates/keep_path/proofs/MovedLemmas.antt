-- What is left of a path after a prefix of it, the paths that are moved, and a path's last step.
--
-- Theorems: `moved_pushed`: a longer path moves with the one above it; `moved_one`: two paths that are moved to one are
-- one, if neither was at or below the new place; `last_pushed`: the step that is added to a path is its last.
use Rattle.std.proofs.Common.{◌≡◌, ℕ, Bool, true, false, List, [], ◌∷◌, ◌++◌, refl, sym, ◌∙◌, ap, append-nil}
use Rattle.std.proofs.Common.{append_assoc, Option, Some, None}
use Rattle.keep_path.specs.Path.{Part, key, same_part, last_part, without_last, beside, strip, moved_path}
use Rattle.keep_path.proofs.PathLemmas.{part_decides}

-- ---- a prefix

pub strip_append : (p rest : List Part) → strip p (p ++ rest) ≡ Some rest
strip_append [] rest = refl
strip_append (a ∷ p) rest = rw (strip, (part_decides a a).1 refl) (strip_append p rest)

is_step : (a b : Part) (p q rest : List Part) (t : Bool) → same_part a b ≡ t → (strip p q ≡ Some rest → q ≡ p ++ rest)
    → elim t [ true ↦ strip p q | false ↦ None ] ≡ Some rest → b ∷ q ≡ a ∷ p ++ rest
is_step a b p q rest true e more h =
    let one : a ≡ b = (part_decides a b).0 e in let others : q ≡ p ++ rest = more h in cc
is_step a b p q rest false e more h = absurd cc

pub strip_is : (p q rest : List Part) → strip p q ≡ Some rest → q ≡ p ++ rest
strip_is [] q rest h = let e : q ≡ rest = cc in e
strip_is (a ∷ p) [] rest h = absurd cc
strip_is (a ∷ p) (b ∷ q) rest h = is_step a b p q rest (same_part a b) refl (strip_is p q rest) h

-- a longer path is no prefix
longer_root : (p : List Part) (x : Part) → strip (p ++ x ∷ []) [] ≡ None
longer_root [] x = refl
longer_root (a ∷ p) x = refl

longer_whole : (p : List Part) (x : Part) → strip (p ++ x ∷ []) p ≡ None
longer_whole [] x = refl
longer_whole (a ∷ p) x = rw (strip, (part_decides a a).1 refl) (longer_whole p x)

-- with one step more the path has the prefix only if it had it, or is it
none_root : (p : List Part) (a x : Part) (t : Bool) → same_part a x ≡ t → (x ∷ [] ≡ a ∷ p → ⊥)
    → ◌≡◌ {A = Option (List Part)} (elim t [ true ↦ strip p [] | false ↦ None ]) None
none_root p a x false e other = refl
none_root [] a x true e other = let one : a ≡ x = (part_decides a x).0 e in absurd (other cc)
none_root (b ∷ p) a x true e other = refl

none_step : (a b : Part) (p q : List Part) (x : Part) (t : Bool) → same_part a b ≡ t → (b ∷ q ++ x ∷ [] ≡ a ∷ p → ⊥)
    → (strip p q ≡ None → (q ++ x ∷ [] ≡ p → ⊥) → strip p (q ++ x ∷ []) ≡ None)
    → ◌≡◌ {A = Option (List Part)} (elim t [ true ↦ strip p q | false ↦ None ]) None
    → ◌≡◌ {A = Option (List Part)} (elim t [ true ↦ strip p (q ++ x ∷ []) | false ↦ None ]) None
none_step a b p q x false e other more h = refl
none_step a b p q x true e other more h = let one : a ≡ b = (part_decides a b).0 e in more h (λ same. other cc)

none_pushed : (p q : List Part) (x : Part) → strip p q ≡ None → (q ++ x ∷ [] ≡ p → ⊥) → strip p (q ++ x ∷ []) ≡ None
none_pushed [] q x h other = absurd cc
none_pushed (a ∷ p) [] x h other = none_root p a x (same_part a x) refl other
none_pushed (a ∷ p) (b ∷ q) x h other = none_step a b p q x (same_part a b) refl other (none_pushed p q x) h

-- ---- a moved path

moved_as : (from to path : List Part) (o : Option (List Part)) → strip from path ≡ o
    → moved_path from to path ≡ elim o [ None ↦ path | Some more ↦ to ++ more ]
moved_as from to path o is = ap (λ (o : Option (List Part)). elim o [ None ↦ path | Some more ↦ to ++ more ]) is

pub moved_self : (from to : List Part) → moved_path from to from ≡ to
moved_self from to =
    moved_as from to from (Some []) (ap (strip from) (sym (append-nil from)) ∙ strip_append from []) ∙ append-nil to

-- the root stays, and so does the path one step above
pub moved_root : (p to : List Part) (x : Part) → moved_path (p ++ x ∷ []) to [] ≡ []
moved_root p to x = moved_as (p ++ x ∷ []) to [] None (longer_root p x)

pub moved_above : (p to : List Part) (x : Part) → moved_path (p ++ x ∷ []) to p ≡ p
moved_above p to x = moved_as (p ++ x ∷ []) to p None (longer_whole p x)

-- a longer path moves with the one above it
pub moved_pushed : (from to path : List Part) (x : Part) → (path ++ x ∷ [] ≡ from → ⊥)
    → moved_path from to (path ++ x ∷ []) ≡ moved_path from to path ++ x ∷ []
moved_pushed from to path x other = by (strip from path) refl
  where
    by : (o : Option (List Part)) → strip from path ≡ o
        → moved_path from to (path ++ x ∷ []) ≡ moved_path from to path ++ x ∷ []
    by None is =
        moved_as from to (path ++ x ∷ []) None (none_pushed from path x is other)
        ∙ ap (λ (q : List Part). q ++ x ∷ []) (sym (moved_as from to path None is))
    by (Some more) is =
        let whole : path ++ x ∷ [] ≡ from ++ (more ++ x ∷ []) =
        ap (λ (q : List Part). q ++ x ∷ []) (strip_is from path more is) ∙ append_assoc from more (x ∷ []) in
        moved_as from to (path ++ x ∷ []) (Some (more ++ x ∷ []))
        (ap (strip from) whole ∙ strip_append from (more ++ x ∷ []))
        ∙ sym (append_assoc to more (x ∷ []))
        ∙ ap (λ (q : List Part). q ++ x ∷ []) (sym (moved_as from to path (Some more) is))

-- two paths that are moved to one are one, if neither was at or below the new place
pub moved_one : (from to a b : List Part) → ((more : List Part) → a ≡ to ++ more → ⊥)
    → ((more : List Part) → b ≡ to ++ more → ⊥) → moved_path from to a ≡ moved_path from to b → a ≡ b
moved_one from to a b free_a free_b same = by (strip from a) (strip from b) refl refl
  where
    by : (o u : Option (List Part)) → strip from a ≡ o → strip from b ≡ u → a ≡ b
    by None None is is' = sym (moved_as from to a None is) ∙ same ∙ moved_as from to b None is'
    by None (Some more) is is' =
        absurd (free_a more (sym (moved_as from to a None is) ∙ same ∙ moved_as from to b (Some more) is'))
    by (Some more) None is is' =
        absurd (free_b more (sym (moved_as from to b None is') ∙ sym same ∙ moved_as from to a (Some more) is))
    by (Some more) (Some rest) is is' =
        let both : to ++ more ≡ to ++ rest =
        sym (moved_as from to a (Some more) is) ∙ same ∙ moved_as from to b (Some rest) is' in
        let some : Some more ≡ Some rest = sym (strip_append to more) ∙ ap (strip to) both ∙ strip_append to rest in
        let one : more ≡ rest = cc in
        strip_is from a more is ∙ ap (λ (r : List Part). from ++ r) one ∙ sym (strip_is from b rest is')

-- ---- the last step

pub last_pushed : (p : List Part) (x : Part) → last_part (p ++ x ∷ []) ≡ Some x
last_pushed [] x = refl
last_pushed (a ∷ []) x = refl
last_pushed (a ∷ b ∷ p) x = last_pushed (b ∷ p) x

without_pushed : (p : List Part) (x : Part) → without_last (p ++ x ∷ []) ≡ p
without_pushed [] x = refl
without_pushed (a ∷ []) x = refl
without_pushed (a ∷ b ∷ p) x = ap (λ (q : List Part). a ∷ q) (without_pushed (b ∷ p) x)

pub beside_pushed : (p : List Part) (x : Part) (text : List ℕ) → beside (p ++ x ∷ []) text ≡ p ++ key text ∷ []
beside_pushed p x text = ap (λ (q : List Part). q ++ key text ∷ []) (without_pushed p x)
