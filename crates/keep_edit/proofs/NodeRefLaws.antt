-- Nodes that were found in a document, by their numbers.
--
-- The index has the paths of the tree's nodes in their order. So a number that is a path's in the tree is that path's
-- in the index, too, and what is found a step below it is what is at the path with that step.
--
-- Theorems: `no_string_there`: where there is no node; `same_node`, `at_is`, `same_number`, `there`, `within`: a number
-- that the index has; `in_index`, `path_of`, `number_found_at`: a path's number; `at_each`: the path of a number;
-- `step_found`, `step_number`, `none_below`, `item_found`: what is found a step below; `counted`: how many are a step
-- below.
use Rattle.std.proofs.Common.{◌≡◌, ◌<◌, ◌∷◌, ◌++◌, ◌∙◌, [], ℕ, List, None, Option, Some, ap, arith, false, length}
use Rattle.std.proofs.Common.{Bool, refl, subst, sym, true}
use Rattle.std.specs.Prelude.{IsNone, Result, if◌then◌else◌, nat_lt}
use Rattle.std.proofs.lemmas.Bool.Decides.{nat_tests}
use Rattle.keep_syntax.specs.declared.syntax.Syntax.{Syntax}
use Rattle.keep_syntax.specs.Tree.{Document}
use Rattle.keep_path.specs.NodeInfos.{NodeInfos}
use Rattle.keep_path.specs.Path.{Part, index as at_index}
use Rattle.keep_meaning.specs.Meaning.{mentions_in}
use Rattle.keep_meaning.specs.Nodes.{is_node, node_number, node_paths}
use Rattle.keep_rules.specs.Lookup.{children_numbered, number_of, path_numbered}
use Rattle.keep_rules.specs.declared.index.NodeId.{NodeId}
use Rattle.keep_rules.proofs.Shared.{number_is}
use Rattle.keep_edit.specs.Answers.{IsFound, path_at, str_value_of}
use Rattle.keep_edit.specs.Children.{child_count_of}
use Rattle.keep_edit.specs.NodeRefs.{FindsItemNumber}
use Rattle.keep_edit.specs.Reading.{Holds, IsTextOfTree, ProfiledText}
use Rattle.keep_edit_plan.specs.Plans.{IsNodeOf}
use Rattle.keep_edit_spec.specs.declared.fault.EditFault.{EditFault}
use Rattle.keep_edit_spec.specs.declared.fault.EditFault.TheVariants.{NotFound}
use Rattle.keep_edit_plan.proofs.Shared.{no_node, one_tree, paths_are}
use Rattle.keep_edit.proofs.ChildLaws.{all_children}
use Rattle.keep_edit.proofs.ScalarLaws.{no_string_found}

pub no_string_there : (path : List Part) (s : Document) → is_node path (mentions_in s) ≡ false
    → str_value_of path s ≡ None
no_string_there path s none = sym (no_string_found path s NotFound none)

-- ---- a number that was looked for

pub same_node : (path : List Part) (s : Document) (node id : NodeId) → id.0 ≡ node.0 → IsNodeOf path s node
    → IsNodeOf path s id
same_node path s node id same is = is ∙ ap Some (sym same)

numbered_by : (b : Bool) (n : ℕ) (id : NodeId) → Some id.0 ≡ (if b then Some n else None) → id.0 ≡ n
numbered_by true n id is = cc
numbered_by false n id is = absurd cc

pub at_is : (path : List Part) (s : Document) (node : NodeId) → IsNodeOf path s node → path_at s node.0 ≡ path
at_is path s node is = (number_is (node_paths (mentions_in s)) path node.0 is).1

pub same_number : (n many : ℕ) (o : Option NodeId) (id : NodeId) → o ≡ Some id
    → number_of o ≡ (if nat_lt n many then Some n else None) → id.0 ≡ n
same_number n many o id one found = numbered_by (nat_lt n many) n id (sym (ap number_of one) ∙ found)

pub there : (n many : ℕ) (o : Option NodeId) → o ≡ None
    → number_of o ≡ (if nat_lt n many then Some n else None) → n < many → ⊥
there n many o none found lt =
    let low : nat_lt n many ≡ true = grind (arith, nat_tests) in
    let no : None ≡ Some n =
    sym (ap number_of none) ∙ found ∙ ap (λ (b : Bool). if b then Some n else None) low in absurd cc

module _ (d : ProfiledText) (syntax : Syntax) (index : NodeInfos) (s : Document) (holds : Holds d syntax index)
    (read : IsTextOfTree d s) where
  its_paths : index.paths ≡ node_paths (mentions_in s)
  its_paths = paths_are d syntax index s holds read

  pub within : (n : ℕ) → n < length index.paths → n < length (node_paths (mentions_in s))
  within n lt = subst (λ (ps : List (List Part)). n < length ps) its_paths lt

  -- ---- a path's number

  pub in_index : (path : List Part) (node : NodeId) → IsNodeOf path s node
      → node_number index.paths path ≡ Some node.0
  in_index path node is = ap (λ (ps : List (List Part)). node_number ps path) its_paths ∙ is

  pub path_of : (path : List Part) (node : NodeId) → IsNodeOf path s node
      → (node.0 < length index.paths) × (path_numbered index node.0 ≡ path)
  path_of path node is = number_is index.paths path node.0 (in_index path node is)

  pub number_found_at : (path : List Part) (o : Option NodeId) (node : NodeId) → o ≡ Some node
      → number_of o ≡ node_number index.paths path → IsNodeOf path s node
  number_found_at path o node one found =
      ap (λ (ps : List (List Part)). node_number ps path) (sym its_paths) ∙ sym found ∙ ap number_of one

  -- ---- the path of a number

  -- the one tree of the text has it
  pub at_each : (n : ℕ) (part : Part) (r : Result ℕ EditFault) → IsFound (path_at s n ++ part ∷ []) s r
      → IsFound (path_at holds.tree n ++ part ∷ []) s r
  at_each n part r found =
      subst (λ (t : Document). IsFound (path_at t n ++ part ∷ []) s r) (sym (one_tree d holds.tree s holds.read read))
      found

  -- ---- a step below

  pub step_found : (path : List Part) (node : NodeId) (part : Part) (o : Option NodeId) → IsNodeOf path s node
      → number_of o ≡ node_number index.paths (path_numbered index node.0 ++ part ∷ [])
      → number_of o ≡ node_number index.paths (path ++ part ∷ [])
  step_found path node part o is found =
      found ∙ ap (λ (p : List Part). node_number index.paths (p ++ part ∷ [])) (path_of path node is).1

  pub step_number : (path : List Part) (node : NodeId) (part : Part) (o : Option NodeId) (next : NodeId)
      → IsNodeOf path s node → o ≡ Some next
      → number_of o ≡ node_number index.paths (path_numbered index node.0 ++ part ∷ [])
      → IsNodeOf (path ++ part ∷ []) s next
  step_number path node part o next is one found =
      number_found_at (path ++ part ∷ []) o next one (step_found path node part o is found)

  pub none_below : (path : List Part) (node : NodeId) (part : Part) → IsNodeOf path s node
      → ((more : List Part) → node_number index.paths (path_numbered index node.0 ++ part ∷ more) ≡ None)
      → (more : List Part) → is_node (path ++ part ∷ more) (mentions_in s) ≡ false
  none_below path node part is none more =
      no_node (path ++ part ∷ more) (mentions_in s)
      (ap (λ (ps : List (List Part)). node_number ps (path ++ part ∷ more)) (sym its_paths)
      ∙ ap (λ (p : List Part). node_number index.paths (p ++ part ∷ more)) (sym (path_of path node is).1)
      ∙ none more)

  pub counted : (path : List Part) (node : NodeId) (n : ℕ) → IsNodeOf path s node
      → n ≡ length (children_numbered index node.0) → Some n ≡ child_count_of path s
  counted path node n is many =
      all_children d syntax index path s holds read (Some node) (sym (in_index path node is)) node n refl many

  pub item_found : (path : List Part) (node : NodeId) (n : ℕ) (o : Option NodeId) → IsNodeOf path s node
      → number_of o ≡ node_number index.paths (path_numbered index node.0 ++ at_index n ∷ [])
      → (IsNone o → (more : List Part)
      → node_number index.paths (path_numbered index node.0 ++ at_index n ∷ more) ≡ None)
      → FindsItemNumber s path n o
  item_found path node n None is found none = none_below path node (at_index n) is (none refl)
  item_found path node n (Some next) is found none = step_number path node (at_index n) (Some next) next is refl found
