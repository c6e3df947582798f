-- The number of a node's path is that under which it stands among the paths, which differ from one another.
--
-- Theorems: `has_number`, `number_at` and `paths_differ`.
use Rattle.std.proofs.Common.{◌≡◌, ◌≢◌, ℕ, ◌<◌, List, [], length, get_or, sym, ap, subst, ◌∙◌, inl, inr, Some, None}
use Rattle.std.specs.Prelude.{AllPairs}
use Rattle.std.proofs.lemmas.List.Folds.{list_any_at}
use Rattle.keep_syntax.specs.Tree.{Document}
use Rattle.keep_path.specs.Path.{Part, same_path}
use Rattle.keep_path.proofs.Shared.{path_decides}
use Rattle.keep_meaning.specs.Counts.{numbered_in}
use Rattle.keep_meaning.specs.LinesMore.{node_infos}
use Rattle.keep_meaning.specs.Marks.{Mention}
use Rattle.keep_meaning.specs.Nodes.{node_number, node_paths}
use Rattle.keep_meaning.proofs.Shared.{mentions-numbered_in, paths-nodes_in}
use Rattle.keep_rules.proofs.AllInfoLemmas.{met_or_unmet, node_paths-distinct}
use Rattle.keep_rules.proofs.RoleStateLemmas.{one_place}

-- a path that stands there has a number
pub has_number : (ps : List (List Part)) (i : ℕ) (p : List Part) → i < length ps → get_or ps i [] ≡ p
    → node_number ps p ≡ None → ⊥
has_number ps i p low here none = elim (met_or_unmet ps p) [
  | inl m ↦ (let clash : Some m.number ≡ None = sym m.is ∙ none in absurd cc)
  | inr u ↦
      (let met = list_any_at (same_path p) ps i [] low ((path_decides p (get_or ps i [])).1 (sym here)) in absurd cc)
]

-- and it is the place
pub number_at : (ps : List (List Part)) → AllPairs (λ p q. p ≢ q) ps → (i : ℕ) (p : List Part) → i < length ps
    → get_or ps i [] ≡ p → node_number ps p ≡ Some i
number_at ps differ i p low here = elim (met_or_unmet ps p) [
  | inl m ↦ m.is ∙ ap Some (one_place ps differ m.number i m.nested low (m.here ∙ sym here))
  | inr u ↦ absurd (has_number ps i p low here u.is)
]

pub paths_differ : (s : Document) → AllPairs (λ p q. p ≢ q) (node_infos s).paths
paths_differ s =
    subst (λ (ps : List (List Part)). AllPairs (λ p q. p ≢ q) ps) (sym (paths-nodes_in s))
    (subst (λ (ms : List Mention). AllPairs (λ p q. p ≢ q) (node_paths ms)) (mentions-numbered_in s)
    (node_paths-distinct (numbered_in s)))
