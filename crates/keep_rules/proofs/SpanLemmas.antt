-- Where the value of a node is in the text, by the number that the node's origin has.
--
-- Theorem: `value_placed_at`.
use Rattle.std.proofs.Common.{◌≡◌, ℕ, List, [], map, get_or, refl, sym, ◌∙◌, ap, arith, Option, Some, None}
use Rattle.std.specs.Prelude.{slice_get}
use Rattle.std.specs.Option.{option_map, option_and_then}
use Rattle.std.proofs.lemmas.List.{get_or-map, length-map}
use Rattle.std.proofs.lemmas.Option.{slice_get-map, slice_get_within, get_or_from_slice_get}
use Rattle.keep_types.specs.declared.syntax.ValueInfo.{ValueInfo}
use Rattle.keep_syntax.specs.Tree.{Document}
use Rattle.keep_types.specs.declared.node.NodeInfo.{NodeInfo}
use Rattle.keep_types.specs.declared.node.Origin.{Origin}
use Rattle.keep_types.specs.declared.node.Origin.TheVariants as origin
use Rattle.keep_path.specs.Path.{Part}
use Rattle.keep_meaning.specs.Counts.{Numbered, is_value, numbered_in}
use Rattle.keep_meaning.specs.Nodes.{Node, is_through, is_define, is_element, is_dotted, is_begun, last_number}
use Rattle.keep_meaning.specs.Nodes.{statement_number, value_number, mention_of, node_paths, numbered_at, node_at}
use Rattle.keep_meaning.specs.Nodes.{node_info, nodes_in, value_span, value_span_of}
use Rattle.keep_path.specs.NodeInfos.{NodeInfos}
use Rattle.keep_rules.specs.ReadDocuments.{IsIndexOf}
use Rattle.keep_rules.proofs.NodeInfoLemmas.{placed}

-- the number of the value that an origin names
abbrev pub origin_value : Origin → Option ℕ
origin_value (origin.Value v) = Some v
origin_value _ = None

pub no_value : (o : Origin) → ((v : ℕ) → o ≡ origin.Value v → ⊥) → origin_value o ≡ None
no_value (origin.Value v) other = absurd (other v refl)
no_value origin.Root other = refl
no_value (origin.Through i) other = refl
no_value (origin.Dotted v) other = refl
no_value (origin.Header i) other = refl
no_value (origin.Element i) other = refl
no_value origin.Tables other = refl

value_placed : (a b c d e f : Option ℕ) → a ≡ origin_value (placed a b c d e f)
value_placed (Some v) b c d e f = refl
value_placed None (Some i) c d e f = refl
value_placed None None (Some i) d e f = refl
value_placed None None None (Some i) e f = refl
value_placed None None None None (Some i) f = refl
value_placed None None None None None (Some i) = refl
value_placed None None None None None None = refl

-- a node's origin has the number of its value
value_numbered : (ns : List Numbered) (p : List Part) → (node_at ns p).value ≡ origin_value (node_at ns p).origin
value_numbered ns p =
    let here : List Numbered = numbered_at p ns in
    value_placed (last_number is_value value_number here) (last_number is_element statement_number here)
    (last_number is_begun statement_number here) (last_number is_define statement_number here)
    (last_number is_dotted value_number here) (last_number is_through statement_number here)

node_value : (d : Document) (i : ℕ) (n : Node) → slice_get (nodes_in d) i ≡ Some n → n.value ≡ origin_value n.origin
node_value d i n is =
    let ns : List Numbered = numbered_in d in
    let paths : List (List Part) = node_paths (map mention_of ns) in
    let low = slice_get_within (nodes_in d) i n is in
    let here : n ≡ node_at ns (get_or paths i []) =
    sym (get_or_from_slice_get (nodes_in d) i n n is)
    ∙ get_or-map (node_at ns) paths i [] n (omega (arith, low, length-map paths (node_at ns))) in
    ap (λ (x : Node). x.value) here ∙ value_numbered ns (get_or paths i [])
    ∙ ap (λ (x : Node). origin_value x.origin) (sym here)

-- ---- a node of an index

node_known : (d : Document) (t : NodeInfos) (i : ℕ) (info : NodeInfo) → IsIndexOf d t → slice_get t.infos i ≡ Some info
    → option_map node_info (slice_get (nodes_in d) i) ≡ Some info
node_known d t i info is here =
    sym (slice_get-map node_info (nodes_in d) i) ∙ ap (λ (x : NodeInfos). slice_get x.infos i) (sym is.facts) ∙ here

valued : (values : List ValueInfo) (o : Option Node) (info : NodeInfo)
    → ((n : Node) → o ≡ Some n → n.value ≡ origin_value n.origin) → option_map node_info o ≡ Some info
    → option_and_then (value_span values) (origin_value info.origin) ≡ option_and_then (value_span_of values) o
valued values None info numbered is = absurd cc
valued values (Some n) info numbered is =
    let same : info ≡ node_info n = cc in
    ap (λ (i : NodeInfo). option_and_then (value_span values) (origin_value i.origin)) same
    ∙ ap (option_and_then (value_span values)) (sym (numbered n refl))

module _ (d : Document) (t : NodeInfos) (i : ℕ) (info : NodeInfo) (is : IsIndexOf d t)
    (here : slice_get t.infos i ≡ Some info) where
  -- the value that the facts name is the node's
  pub value_placed_at : (known values : List ValueInfo) → known ≡ values
      → option_and_then (value_span known) (origin_value info.origin)
      ≡ option_and_then (value_span_of values) (slice_get (nodes_in d) i)
  value_placed_at known values same =
      ap (λ vs. option_and_then (value_span vs) (origin_value info.origin)) same
      ∙ valued values (slice_get (nodes_in d) i) info (node_value d i) (node_known d t i info is here)
