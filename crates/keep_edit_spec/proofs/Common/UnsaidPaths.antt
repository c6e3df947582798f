-- Where nothing is said at a path that ends in a key, or under it, no path that goes on from it is a node.
--
-- Theorems: `none_at`: none of what is beside the path is at one that goes on from it; `unsaid_below`.
use Rattle.std.proofs.Common.{◌≡◌, ℕ, Bool, false, ◌||◌, List, [], ◌∷◌, ◌++◌, refl, ap₂}
use Rattle.std.specs.List.{list_any}
use Rattle.keep_syntax.specs.Tree.{Document}
use Rattle.keep_path.specs.Path.{Part, key}
use Rattle.keep_meaning.specs.KeysMore.{IsUnsaid}
use Rattle.keep_meaning.specs.Marks.{Mention}
use Rattle.keep_meaning.specs.Meaning.{mentions_in}
use Rattle.keep_meaning.specs.Nodes.{is_at, is_root}
use Rattle.keep_edit_spec.proofs.Common.Runs.{AllOf, IsDisjoint, is_at-disjoint, strip-append}

pub none_at : (p below : List Part) (ms : List Mention) → AllOf (IsDisjoint p) ms
    → list_any (is_at (p ++ below)) ms ≡ false
none_at p below [] h = refl
none_at p below (m ∷ ms) h =
    ap₂ (λ (a b : Bool). a || b)
    (is_at-disjoint p m (p ++ below) below h.0 (strip-append p below) (is_at (p ++ below) m) refl)
    (none_at p below ms h.1)

pub unsaid_below : (d : Document) (at : List Part) (k : List ℕ)
    → AllOf (IsDisjoint (at ++ key k ∷ [])) (mentions_in d) → IsUnsaid d (at ++ key k ∷ [])
unsaid_below d at k h below =
    ap₂ (λ (a b : Bool). a || b) (not_root at) (none_at (at ++ key k ∷ []) below (mentions_in d) h)
  where
    not_root : (p : List Part) → is_root ((p ++ key k ∷ []) ++ below) ≡ false
    not_root [] = refl
    not_root (x ∷ p) = refl
