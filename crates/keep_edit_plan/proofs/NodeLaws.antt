-- A path has a number exactly where it names a node. What is known of the node is found by that number
-- (`info_of_number`), and its kind is that of its mentions.
--
-- Theorems: `a_node` and `no_node`: whether there is a node; `kind_stated`: its kind.
use Rattle.std.proofs.Common.{◌≡◌, ℕ, Bool, true, false, ◌||◌, List, [], ◌∷◌, ◌++◌, map, slice_get, refl, sym, ap, ◌∙◌}
use Rattle.std.proofs.Common.{subst, inl, inr, Some, None}
use Rattle.std.specs.Prelude.{fold, if◌then◌else◌}
use Rattle.std.specs.List.{list_any}
use Rattle.std.specs.Option.{option_map}
use Rattle.std.proofs.Math.Bool.{or-false}
use Rattle.std.proofs.lemmas.List.Folds.{list_any-append}
use Rattle.std.proofs.lemmas.Option.{slice_get-map, slice_get-get_or}
use Rattle.keep_syntax.specs.Tree.{Document}
use Rattle.keep_types.specs.declared.node.NodeInfo.{NodeInfo}
use Rattle.keep_path.specs.Path.{Part, same_path}
use Rattle.keep_meaning.specs.Marks.{Mention}
use Rattle.keep_meaning.specs.Meaning.{mentions_in}
use Rattle.keep_meaning.specs.Counts.{Numbered, numbered_in}
use Rattle.keep_meaning.specs.Nodes.{is_at, kinds_at, is_root, is_node, paths_with, node_paths, node_number, kind_at}
use Rattle.keep_meaning.specs.Nodes.{mentioned_kind, numbered_at, mention_of, mention_kind_of, node_at, nodes_in}
use Rattle.keep_meaning.specs.Nodes.{node_info, infos_in}
use Rattle.keep_meaning.proofs.Shared.{mentions-numbered_in}
use Rattle.keep_rules.proofs.Shared.{number_is, met_or_unmet}
use Rattle.keep_path.proofs.Shared.{path_decides}

-- ---- what is mentioned is a node

or_assoc : (a b c : Bool) → ((a || b) || c) ≡ (a || (b || c))
or_assoc true b c = refl
or_assoc false b c = refl

same_turned : (p q : List Part) → same_path p q ≡ same_path q p
same_turned p q =
    by (same_path p q) (same_path q p) (λ e. (path_decides q p).1 (sym ((path_decides p q).0 e)))
    (λ e. (path_decides p q).1 (sym ((path_decides q p).0 e)))
  where
    by : (a b : Bool) → (a ≡ true → b ≡ true) → (b ≡ true → a ≡ true) → a ≡ b
    by true b f g = sym (f refl)
    by false true f g = g refl
    by false false f g = refl

-- a path is among others and one more
met_with : (paths : List (List Part)) (p q : List Part)
    → list_any (same_path p) (paths_with paths q) ≡ (list_any (same_path p) paths || same_path q p)
met_with paths p q = by (list_any (same_path q) paths) refl (same_path q p) refl
  where
    by : (b : Bool) → list_any (same_path q) paths ≡ b → (c : Bool) → same_path q p ≡ c
        → list_any (same_path p) (if b then paths else paths ++ q ∷ []) ≡ (list_any (same_path p) paths || c)
    by true e true f =
        subst (λ (r : List Part). list_any (same_path r) paths ≡ (list_any (same_path r) paths || true))
        ((path_decides q p).0 f) (rw e refl)
    by true e false f = sym (or-false (list_any (same_path p) paths))
    by false e c f =
        list_any-append (same_path p) paths (q ∷ [])
        ∙ ap (λ b. list_any (same_path p) paths || b) (or-false (same_path p q) ∙ same_turned p q ∙ f)

met_by : (paths : List (List Part)) (p : List Part) (ms : List Mention)
    → list_any (same_path p) (fold paths_with paths (map (λ (m : Mention). m.path) ms))
    ≡ (list_any (same_path p) paths || list_any (is_at p) ms)
met_by paths p [] = sym (or-false (list_any (same_path p) paths))
met_by paths p (m ∷ ms) =
    met_by (paths_with paths m.path) p ms
    ∙ ap (λ b. b || list_any (is_at p) ms) (met_with paths p m.path)
    ∙ or_assoc (list_any (same_path p) paths) (is_at p m) (list_any (is_at p) ms)

root_met : (p : List Part) → list_any (same_path p) ([] ∷ []) ≡ is_root p
root_met [] = refl
root_met (x ∷ p) = refl

node_met : (p : List Part) (ms : List Mention) → list_any (same_path p) (node_paths ms) ≡ is_node p ms
node_met p ms = met_by ([] ∷ []) p ms ∙ ap (λ b. b || list_any (is_at p) ms) (root_met p)

-- a path has a number where it names a node
pub no_node : (path : List Part) (ms : List Mention) → node_number (node_paths ms) path ≡ None → is_node path ms ≡ false
no_node path ms e = elim (met_or_unmet (node_paths ms) path) [
  | inl h ↦ let k : Some h.number ≡ None = sym h.is ∙ e in absurd cc
  | inr h ↦ sym (node_met path ms) ∙ h.unmet
]

pub a_node : (path : List Part) (ms : List Mention) (i : ℕ) → node_number (node_paths ms) path ≡ Some i
    → is_node path ms ≡ true
a_node path ms i e = elim (met_or_unmet (node_paths ms) path) [
  | inl h ↦ sym (node_met path ms) ∙ h.met
  | inr h ↦ let k : None ≡ Some i = sym h.is ∙ e in absurd cc
]

-- ---- what is known of it

abbrev pub info_at : List Part → Document → NodeInfo
info_at path s = node_info (node_at (numbered_in s) path)

pub node_of_number : (path : List Part) (s : Document) (i : ℕ) → node_number (node_paths (mentions_in s)) path ≡ Some i
    → slice_get (nodes_in s) i ≡ Some (node_at (numbered_in s) path)
node_of_number path s i e =
    let paths : List (List Part) = node_paths (map mention_of (numbered_in s)) in
    let same : node_paths (mentions_in s) ≡ paths = ap node_paths (sym (mentions-numbered_in s)) in
    let (within, here) = number_is paths path i (ap (λ (ps : List (List Part)). node_number ps path) (sym same) ∙ e) in
    let there : slice_get paths i ≡ Some path = slice_get-get_or paths i [] within ∙ ap Some here in
    slice_get-map (node_at (numbered_in s)) paths i ∙ ap (option_map (node_at (numbered_in s))) there

pub info_of_number : (path : List Part) (s : Document) (i : ℕ) → node_number (node_paths (mentions_in s)) path ≡ Some i
    → slice_get (infos_in s) i ≡ Some (info_at path s)
info_of_number path s i e =
    slice_get-map node_info (nodes_in s) i ∙ ap (option_map node_info) (node_of_number path s i e)

-- ---- its kind

pub mentions_numbered : (path : List Part) (ns : List Numbered)
    → map mention_kind_of (numbered_at path ns) ≡ kinds_at path (map mention_of ns)
mentions_numbered path [] = refl
mentions_numbered path (n ∷ ns) = by (is_at path n.mention) refl (mentions_numbered path ns)
  where
    by : (b : Bool) → is_at path n.mention ≡ b
        → map mention_kind_of (numbered_at path ns) ≡ kinds_at path (map mention_of ns)
        → map mention_kind_of (numbered_at path (n ∷ ns)) ≡ kinds_at path (map mention_of (n ∷ ns))
    by true e more = rw e (ap (λ l. n.mention.kind ∷ l) more)
    by false e more = rw e more

pub kind_stated : (path : List Part) (s : Document) → (info_at path s).kind ≡ kind_at path (mentions_in s)
kind_stated path s =
    ap mentioned_kind (mentions_numbered path (numbered_in s) ∙ ap (kinds_at path) (mentions-numbered_in s))
