-- The nodes of a document are nested as its headers say.
--
-- Theorems: `nested_represents`: they are nested so; `enters`: a header past an array of tables enters its last
-- element.
use Rattle.std.proofs.Common.{◌≡◌, ℕ, zero, suc, ◌-◌, ◌<◌, Bool, true, false, cond, List, [], ◌∷◌, ◌++◌, length, get_or}
use Rattle.std.proofs.Common.{refl, sym, ◌∙◌, ap, subst, arith, Option, Some, None}
use Rattle.std.specs.Prelude.{◌==◌, slice_get, IsSome}
use Rattle.std.specs.List.{list_all}
use Rattle.std.specs.Option.{option_and_then}
use Rattle.std.proofs.lemmas.Bool.Decides.{nat_tests}
use Rattle.std.proofs.lemmas.Option.{slice_get-get_or}
use Rattle.keep_types.specs.declared.role.Role.{Role}
use Rattle.keep_types.specs.declared.role.Role.TheVariants.{Element}
use Rattle.keep_meaning.specs.Rules.{allows}
use Rattle.keep_meaning.specs.Marks.{Mention, elements_of, entered_path}
use Rattle.keep_meaning.specs.Nodes.{node_paths, node_number, children}
use Rattle.keep_meaning.specs.State.{IsState}
use Rattle.keep_path.specs.Path.{Part, key, index}
use Rattle.keep_index_store.specs.Trie.{TrieNode, IsTrie, paths_of, path_at, state_at, children_of}
use Rattle.keep_index_store.proofs.Shared.{child_at, length-paths_of}
use Rattle.keep_rules.specs.RoleStates.{mention_roles}
use Rattle.keep_rules.specs.Nested.{AreNested}
use Rattle.keep_rules.specs.Represents.{Represents}
use Rattle.keep_rules.specs.Tables.{is_tables}
use Rattle.keep_rules.proofs.LookupLemmas.{number_is, number_some, none_longer, nth_is, count_is}
use Rattle.keep_rules.proofs.MarkLemmas.{state_represents}
use Rattle.keep_rules.proofs.TablesLemmas.{tables_listed}

-- where a header enters that goes past an array of tables
pub enters : (tables : List (List Part)) (path : List Part) (m : ℕ) → elements_of path tables ≡ m → 0 < m
    → entered_path tables path ≡ path ++ index (m - 1) ∷ []
enters tables path zero e some = absurd (omega arith)
enters tables path (suc m) e some =
    let more : (0 == suc m) ≡ false = grind (arith, nat_tests) in
    ap (λ (n : ℕ). cond (0 == n) path (path ++ index (n - 1) ∷ [])) e
    ∙ ap (λ (b : Bool). cond b path (path ++ index (suc m - 1) ∷ [])) more

module _ (nodes : List TrieNode) (ms : List Mention) (tables : List (List Part))
    (represents : Represents nodes ms tables) (d : TrieNode) where
  trie : IsTrie nodes
  trie = represents.index.trie

  paths : paths_of nodes ≡ node_paths ms
  paths = represents.index.states_represent.paths_are

  -- the node of a number
  low : (path : List Part) (i : ℕ) → node_number (node_paths ms) path ≡ Some i
      → (i < length nodes) × (path_at nodes i ≡ path)
  low path i is =
      let r = number_is (paths_of nodes) path i (ap (λ (ps : List (List Part)). node_number ps path) paths ∙ is) in
      (omega (arith, r.0, length-paths_of nodes trie.root), r.1)

  count_at : (path : List Part) (i : ℕ) → node_number (node_paths ms) path ≡ Some i
      → elements_of path tables ≡ cond (is_tables (state_at nodes i)) (length (children_of nodes i)) 0
  count_at path i is =
      let r = low path i is in
      ap (λ (p : List Part). elements_of p tables) (sym r.1) ∙ represents.tables_are.counts i r.0

  tables_at : (path : List Part) (i : ℕ) → node_number (node_paths ms) path ≡ Some i → 0 < elements_of path tables
      → is_tables (state_at nodes i) ≡ true
  tables_at path i is some = by (is_tables (state_at nodes i)) refl
    where
      by : (b : Bool) → is_tables (state_at nodes i) ≡ b → b ≡ true
      by true e = refl
      by false e =
          absurd (omega (
            arith,
            some,
            count_at path i is
                ∙ ap (λ (b : Bool). cond {A = ℕ} b (length (children_of nodes i)) 0) e,
          ))

  listed : (path : List Part) (k : List ℕ) (i : ℕ) → node_number (node_paths ms) (path ++ key k ∷ []) ≡ Some i
      → list_all (λ role. allows role Element) (mention_roles (path ++ key k ∷ []) ms) ≡ true
      → 0 < elements_of (path ++ key k ∷ []) tables
  listed path k i is open_to =
      let r = low (path ++ key k ∷ []) i is in
      let there : is_tables (state_at nodes i) ≡ true =
      by (state_at nodes i) refl (represents.shaped.marked i path k r.0 r.1)
      (state_represents nodes ms represents.index i (path ++ key k ∷ []) r.0 r.1) in
      let some : 0 < length (children_of nodes i) = represents.begun i r.0 there in
      omega (
        arith,
        some,
        count_at (path ++ key k ∷ []) i is
            ∙ ap (λ (b : Bool). cond {A = ℕ} b (length (children_of nodes i)) 0) there,
      )
    where
      by : (o : Option Role) → state_at nodes i ≡ o → IsSome o → IsState o (mention_roles (path ++ key k ∷ []) ms)
          → is_tables o ≡ true
      by None e some state = cc
      by (Some s) e some state = state Element ∙ open_to

  entered : (path : List Part) (i : ℕ) → node_number (node_paths ms) path ≡ Some i → 0 < elements_of path tables
      → option_and_then (node_number (node_paths ms))
      (slice_get (children path (node_paths ms)) (length (children path (node_paths ms)) - 1))
      ≡ node_number (node_paths ms) (entered_path tables path)
  entered path i is some =
      let r = low path i is in
      let there : is_tables (state_at nodes i) ≡ true = tables_at path i is some in
      let ids : List ℕ = children_of nodes i in
      let many : elements_of path tables ≡ length ids =
      count_at path i is ∙ ap (λ (b : Bool). cond {A = ℕ} b (length ids) 0) there in
      let n : ℕ = length ids - 1 in
      let last : ℕ = get_or ids n 0 in
      let within : n < length ids = omega (arith, some, many) in
      let child = child_at nodes trie i n d r.0 within in
      let here : path_at nodes last ≡ path ++ index n ∷ [] =
      represents.shaped.elements i n r.0 (tables_listed nodes represents.shaped i r.0 there) within
      ∙ ap (λ (p : List Part). p ++ index n ∷ []) r.1 in
      let counted : length (children path (paths_of nodes)) ≡ length ids =
      ap (λ (p : List Part). length (children p (paths_of nodes))) (sym r.1) ∙ count_is nodes trie i d r.0 in
      let found : option_and_then (node_number (paths_of nodes)) (slice_get (children path (paths_of nodes)) n)
      ≡ Some last =
      ap (λ (p : List Part). option_and_then (node_number (paths_of nodes)) (slice_get (children p (paths_of nodes)) n))
      (sym r.1)
      ∙ nth_is nodes trie i n d r.0 ∙ slice_get-get_or ids n 0 within in
      let whole : option_and_then (node_number (paths_of nodes))
      (slice_get (children path (paths_of nodes)) (length (children path (paths_of nodes)) - 1))
      ≡ node_number (paths_of nodes) (entered_path tables path) =
      ap (λ (k : ℕ).
      option_and_then (node_number (paths_of nodes)) (slice_get (children path (paths_of nodes)) (k - 1))) counted
      ∙ found ∙ sym (number_some nodes trie last child.nested)
      ∙ ap (node_number (paths_of nodes))
      (here ∙ sym (enters tables path (length ids) many (omega (arith, some, many)))) in
      subst (λ (ps : List (List Part)).
      option_and_then (node_number ps) (slice_get (children path ps) (length (children path ps) - 1))
      ≡ node_number ps (entered_path tables path)) paths whole

  pub nested_represents : AreNested ms tables
  nested_represents = record {
    closed =
        λ path more none.
        subst (λ (ps : List (List Part)). node_number ps path ≡ None → node_number ps (path ++ more) ≡ None) paths
        (none_longer nodes trie path more) none;
    listed = listed;
    entered = entered;
  }
