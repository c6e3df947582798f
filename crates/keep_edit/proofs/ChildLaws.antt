-- How many nodes are one step below a path, asked of the index.
--
-- Theorems: `all_children`: where the index finds a node, it counts all that are one step below; `no_children`: where
-- it finds none, there is no count.
use Rattle.std.proofs.Common.{◌≡◌, ℕ, true, false, List, length, refl, sym, ap, ap₂, ◌∙◌, Option, Some, None}
use Rattle.keep_syntax.specs.declared.syntax.Syntax.{Syntax}
use Rattle.keep_syntax.specs.Tree.{Document}
use Rattle.keep_path.specs.Path.{Part}
use Rattle.keep_meaning.specs.Meaning.{mentions_in}
use Rattle.keep_meaning.specs.Nodes.{children, is_node, node_number, node_paths}
use Rattle.keep_path.specs.NodeInfos.{NodeInfos}
use Rattle.keep_rules.specs.declared.index.NodeId.{NodeId}
use Rattle.keep_rules.specs.Lookup.{number_of, path_numbered, children_numbered}
use Rattle.keep_rules.proofs.Shared.{number_is}
use Rattle.keep_edit.specs.Children.{child_count_of}
use Rattle.keep_edit.specs.Reading.{ProfiledText, IsTextOfTree, Holds}
use Rattle.keep_edit_plan.proofs.Shared.{a_node, no_node, paths_are}

module _ (d : ProfiledText) (syntax : Syntax) (index : NodeInfos) (path : List Part) (s : Document)
    (holds : Holds d syntax index) (read : IsTextOfTree d s) (o : Option NodeId)
    (found : number_of o ≡ node_number index.paths path) where
  its_paths : index.paths ≡ node_paths (mentions_in s)
  its_paths = paths_are d syntax index s holds read

  pub no_children : o ≡ None → None ≡ child_count_of path s
  no_children none =
      let unnamed : is_node path (mentions_in s) ≡ false =
      no_node path (mentions_in s) (ap (λ (ps : List (List Part)). node_number ps path) (sym its_paths) ∙ sym found
      ∙ ap number_of none) in
      rw unnamed refl

  pub all_children : (id : NodeId) (n : ℕ) → o ≡ Some id → n ≡ length (children_numbered index id.0)
      → Some n ≡ child_count_of path s
  all_children id n one counted =
      let number : node_number index.paths path ≡ Some id.0 = sym found ∙ ap number_of one in
      let named : is_node path (mentions_in s) ≡ true =
      a_node path (mentions_in s) id.0 (ap (λ (ps : List (List Part)). node_number ps path) (sym its_paths) ∙ number) in
      let there : path_numbered index id.0 ≡ path = (number_is index.paths path id.0 number).1 in
      rw named (ap Some (counted
      ∙ ap₂ (λ (p : List Part) (ps : List (List Part)). length (children p ps)) there its_paths))
