-- The way along a path, as far as its steps lead to nodes.
use Rattle.std.specs.Prelude.{◌≡◌, ◌⊎◌, ℕ, ◌+◌, suc, ◌≤◌, ◌<◌, Bool, true, false, List, [], length, take, Option, Some}
use Rattle.std.specs.Prelude.{None}
use Rattle.keep_syntax.specs.Tree.{Document}
use Rattle.keep_path.specs.Path.{Part}
use Rattle.keep_types.specs.declared.node.Kind.{Kind}
use Rattle.keep_types.specs.declared.node.Kind.TheVariants as kind
use Rattle.keep_types.specs.declared.node.Origin.{Origin}
use Rattle.keep_types.specs.declared.node.Origin.TheVariants as origin
use Rattle.keep_meaning.specs.Counts.{one_if}
use Rattle.keep_meaning.specs.Meaning.{mentions_in}
use Rattle.keep_meaning.specs.Nodes.{is_node, node_number, node_paths}
use Rattle.keep_edit_spec.specs.Look.{holder, enclosing, is_bracket_at}
use Rattle.keep_edit_plan.specs.Inserting.{is_dotted_origin, origin_of}
use Rattle.keep_edit_plan.specs.declared.holder.Holder.{Holder}

-- how many arrays or inline tables a node of this kind is
abbrev pub brackets_of : Kind → ℕ
brackets_of kind.Array = 1
brackets_of kind.Inline = 1
brackets_of _ = 0

abbrev pub is_value_origin : Origin → Bool
is_value_origin (origin.Value v) = true
is_value_origin _ = false

-- The first `len` steps of a path lead to this node. The last of the nodes on that way that dots don't lead to has
-- `base` steps, and is a value or not. So many arrays and inline tables are on the way, the last node counted.
pub record IsOnWalk (path : List Part) (s : Document) (h : Holder) : Type 0 where
  pub within : h.len ≤ length path
  pub node : node_number (node_paths (mentions_in s)) (take h.len path) ≡ Some h.id.0
  pub based : h.base ≤ h.len
  pub base : is_dotted_origin (origin_of (take h.base path) s) ≡ false
  pub dots : (n : ℕ) → h.base < n → n ≤ h.len → is_dotted_origin (origin_of (take n path) s) ≡ true
  pub braced : h.braced ≡ is_value_origin (origin_of (take h.base path) s)
  pub low : h.depth ≤ h.len
  pub depth : h.depth ≡ enclosing (take h.len path) (mentions_in s)
      + one_if (is_bracket_at (mentions_in s) (take h.len path))

-- The way is one step longer, or no more steps lead to a node.
abbrev pub IsFurther : List Part → Document → Holder → Option Holder → Type 0
IsFurther path s h (Some next) = IsOnWalk path s next × (next.len ≡ suc h.len)
IsFurther path s h None = (n : ℕ) → h.len < n → n ≤ length path → is_node (take n path) (mentions_in s) ≡ false

-- The way leads to the longest prefix of the path, itself left out, that names a node.
pub record IsHolder (path : List Part) (s : Document) (h : Holder) : Type 0 where
  pub walk : IsOnWalk path s h
  pub prefix : holder path (mentions_in s) ≡ take h.len path
  pub proper : (path ≡ []) ⊎ (h.len < length path)
  pub depth : h.depth ≡ enclosing path (mentions_in s)
  pub beyond : suc h.len < length path → (n : ℕ) → h.len < n → n ≤ length path
      → is_node (take n path) (mentions_in s) ≡ false
