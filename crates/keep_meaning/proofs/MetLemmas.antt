-- A path is among those of the nodes exactly if it is the root's or is mentioned.
--
-- Theorem: `node_met`.
use Rattle.std.proofs.Common.{◌≡◌, Bool, true, false, ◌||◌, List, [], ◌∷◌, ◌++◌, map, refl, sym, ap, ◌∙◌, subst}
use Rattle.std.specs.Prelude.{fold, if◌then◌else◌}
use Rattle.std.specs.List.{list_any}
use Rattle.std.proofs.Math.Bool.{or-false}
use Rattle.std.proofs.lemmas.List.Folds.{list_any-append}
use Rattle.keep_path.specs.Path.{Part, same_path}
use Rattle.keep_path.proofs.Shared.{path_decides}
use Rattle.keep_meaning.specs.Marks.{Mention}
use Rattle.keep_meaning.specs.Nodes.{is_at, is_root, is_node, paths_with, node_paths}

or_assoc : (a b c : Bool) → ((a || b) || c) ≡ (a || (b || c))
or_assoc true b c = refl
or_assoc false b c = refl

pub same_turned : (p q : List Part) → same_path p q ≡ same_path q p
same_turned p q =
    by (same_path p q) (same_path q p) (λ e. (path_decides q p).1 (sym ((path_decides p q).0 e)))
    (λ e. (path_decides p q).1 (sym ((path_decides q p).0 e)))
  where
    by : (a b : Bool) → (a ≡ true → b ≡ true) → (b ≡ true → a ≡ true) → a ≡ b
    by true b f g = sym (f refl)
    by false true f g = g refl
    by false false f g = refl

-- a path is among others and one more
met_with : (paths : List (List Part)) (p q : List Part)
    → list_any (same_path p) (paths_with paths q) ≡ (list_any (same_path p) paths || same_path q p)
met_with paths p q = by (list_any (same_path q) paths) refl (same_path q p) refl
  where
    by : (b : Bool) → list_any (same_path q) paths ≡ b → (c : Bool) → same_path q p ≡ c
        → list_any (same_path p) (if b then paths else paths ++ q ∷ []) ≡ (list_any (same_path p) paths || c)
    by true e true f =
        subst (λ (r : List Part). list_any (same_path r) paths ≡ (list_any (same_path r) paths || true))
        ((path_decides q p).0 f) (rw e refl)
    by true e false f = sym (or-false (list_any (same_path p) paths))
    by false e c f =
        list_any-append (same_path p) paths (q ∷ [])
        ∙ ap (λ b. list_any (same_path p) paths || b) (or-false (same_path p q) ∙ same_turned p q ∙ f)

met_by : (paths : List (List Part)) (p : List Part) (ms : List Mention)
    → list_any (same_path p) (fold paths_with paths (map (λ (m : Mention). m.path) ms))
    ≡ (list_any (same_path p) paths || list_any (is_at p) ms)
met_by paths p [] = sym (or-false (list_any (same_path p) paths))
met_by paths p (m ∷ ms) =
    met_by (paths_with paths m.path) p ms
    ∙ ap (λ b. b || list_any (is_at p) ms) (met_with paths p m.path)
    ∙ or_assoc (list_any (same_path p) paths) (is_at p m) (list_any (is_at p) ms)

root_met : (p : List Part) → list_any (same_path p) ([] ∷ []) ≡ is_root p
root_met [] = refl
root_met (x ∷ p) = refl

pub node_met : (p : List Part) (ms : List Mention) → list_any (same_path p) (node_paths ms) ≡ is_node p ms
node_met p ms = met_by ([] ∷ []) p ms ∙ ap (λ b. b || list_any (is_at p) ms) (root_met p)
