-- How the nodes of a document are nested.
use Rattle.std.specs.Prelude.{◌≡◌, ℕ, ◌-◌, ◌<◌, true, List, [], ◌∷◌, ◌++◌, length, Some, None, slice_get}
use Rattle.std.specs.List.{list_all}
use Rattle.std.specs.Option.{option_and_then}
use Rattle.keep_types.specs.declared.role.Role.TheVariants.{Element}
use Rattle.keep_meaning.specs.Rules.{allows}
use Rattle.keep_meaning.specs.Marks.{Mention, elements_of, entered_path}
use Rattle.keep_meaning.specs.Nodes.{node_paths, node_number, children}
use Rattle.keep_path.specs.Path.{Part, key}
use Rattle.keep_rules.specs.RoleStates.{mention_roles}

-- the nodes of these mentions, with the full paths of the `[[..]]` lines
pub record AreNested (ms : List Mention) (tables : List (List Part)) : Type 0 where
  -- below a path without a node there is none
  pub closed : (path more : List Part) → node_number (node_paths ms) path ≡ None
      → node_number (node_paths ms) (path ++ more) ≡ None
  -- a key's node that a further `[[..]]` line may name is an array of tables
  pub listed : (path : List Part) (k : List ℕ) (i : ℕ) → node_number (node_paths ms) (path ++ key k ∷ []) ≡ Some i
      → list_all (λ role. allows role Element) (mention_roles (path ++ key k ∷ []) ms) ≡ true
      → 0 < elements_of (path ++ key k ∷ []) tables
  -- the last node below an array of tables is the element that a further header enters
  pub entered : (path : List Part) (i : ℕ) → node_number (node_paths ms) path ≡ Some i → 0 < elements_of path tables
      → option_and_then (node_number (node_paths ms))
      (slice_get (children path (node_paths ms)) (length (children path (node_paths ms)) - 1))
      ≡ node_number (node_paths ms) (entered_path tables path)
