-- Nodes that were found in a document.
use Rattle.std.specs.Prelude.{◌≡◌, ℕ, List, [], ◌∷◌, ◌++◌, false, Option, Some, None}
use Rattle.keep_syntax.specs.Tree.{Document}
use Rattle.keep_meaning.specs.Meaning.{mentions_in}
use Rattle.keep_meaning.specs.Nodes.{is_node}
use Rattle.keep_path.specs.Path.{Part, index}
use Rattle.keep_rules.specs.declared.index.NodeId.{NodeId}
use Rattle.keep_edit_plan.specs.Plans.{IsNodeOf}
use Rattle.keep_edit.specs.Reading.{IsTextOfTree}
use Rattle.keep_edit.specs.declared.nodes.NodeRef.{NodeRef}

-- the node is one of this document, and has this path
pub record IsNodeAt (s : Document) (path : List Part) (r : NodeRef) : Type 0 where
  pub of : IsTextOfTree r.document.now s
  pub numbered : IsNodeOf path s r.node

-- the node of the path, if there is one
abbrev pub FindsNode : Document → List Part → Option NodeRef → Type 0
FindsNode s path None = is_node path (mentions_in s) ≡ false
FindsNode s path (Some r) = IsNodeAt s path r

-- the node of that item of the path; if there is none, there is none below it either
abbrev pub FindsItem : Document → List Part → ℕ → Option NodeRef → Type 0
FindsItem s path n None = (more : List Part) → is_node (path ++ index n ∷ more) (mentions_in s) ≡ false
FindsItem s path n (Some r) = IsNodeAt s (path ++ index n ∷ []) r

abbrev pub FindsItemNumber : Document → List Part → ℕ → Option NodeId → Type 0
FindsItemNumber s path n None = (more : List Part) → is_node (path ++ index n ∷ more) (mentions_in s) ≡ false
FindsItemNumber s path n (Some node) = IsNodeOf (path ++ index n ∷ []) s node
