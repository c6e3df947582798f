-- What is found at a path: the number of its value, and where the value is.
--
-- The index has the paths of the nodes in order, so what a look-up finds is the number of the path among them, and what
-- is stored with that number is what the document states of the path (`node_found`). The node's origin is a value
-- exactly where a value is the last thing that names it, since the origins have an order (`origin_of_value`,
-- `value_of_origin`). The number of the value is then its number in the syntax, which has its span (`value_there`).
--
-- Theorems: `paths_are`, `inside`, `step_at`: the node of a number; `node_found`, `number_found`, `no_number_found` and
-- `value_there`.
use Rattle.std.proofs.Common.{◌≡◌, ℕ, ◌<◌, Bool, true, false, ◌||◌, List, [], ◌∷◌, length, slice_get, refl, sym, ap}
use Rattle.std.proofs.Common.{subst, ◌∙◌, arith, Option, Some, None}
use Rattle.std.specs.Prelude.{◌++◌, IsCharBoundary, slice_index_or}
use Rattle.std.specs.List.{list_any}
use Rattle.std.specs.Option.{option_map}
use Rattle.std.proofs.lemmas.Option.{slice_get_within}
use Rattle.keep_types.specs.declared.syntax.ValueInfo.{ValueInfo}
use Rattle.keep_syntax.specs.declared.syntax.Syntax.{Syntax}
use Rattle.keep_syntax.specs.Tree.{Document, text, value_text}
use Rattle.keep_syntax.specs.Contract.{values_of}
use Rattle.keep_syntax.specs.Numbered as numbered
use Rattle.keep_rules.specs.declared.index.NodeId.{NodeId}
use Rattle.keep_types.specs.declared.node.NodeInfo.{NodeInfo}
use Rattle.keep_types.specs.declared.node.Origin.TheVariants as origin
use Rattle.keep_meaning.specs.Counts.{Numbered, is_value, numbered_in}
use Rattle.keep_meaning.specs.Fact.{Fact}
use Rattle.keep_rules.specs.Lookup.{number_of, path_numbered}
use Rattle.keep_meaning.specs.Marks.{Mention}
use Rattle.keep_meaning.specs.Meaning.{mentions_in}
use Rattle.keep_meaning.specs.Nodes.{is_at, is_root, is_node, fact_at, node_at, node_number, node_paths, nodes_in}
use Rattle.keep_meaning.specs.Nodes.{is_element, is_begun, is_define, is_dotted, is_through, numbered_at, last_number}
use Rattle.keep_meaning.specs.Nodes.{value_number, statement_number, first_that_fits, mentioned_origin}
use Rattle.keep_path.specs.Path.{Part}
use Rattle.keep_path.specs.NodeInfos.{NodeInfos}
use Rattle.keep_meaning.proofs.Shared.{paths-nodes_in, IsPart, part_ends}
use Rattle.keep_edit_spec.specs.declared.fault.EditFault.TheVariants as fault
use Rattle.keep_edit_spec.proofs.Shared.{IsValueOf, value_of_number, none_of_number, fact_past}
use Rattle.keep_edit_plan.specs.Plans.{IsNodeOf}
use Rattle.keep_edit_plan.specs.Reading.{ProfiledText, IsTextOfTree, Holds}
use Rattle.keep_edit_plan.specs.Answers.{path_at, value_number_of, HasNoValue, IsSpanOf}
use Rattle.keep_edit_plan.proofs.AnswerLaws.{tree_is, stated_is}
use Rattle.keep_edit_plan.proofs.NodeLaws.{info_at, info_of_number, node_of_number, no_node, a_node}
use Rattle.keep_edit_plan.proofs.ValueEnds.{value_ends, starts_between, ends_between}

-- ---- the node

-- what is known of the node of a path
pub record IsStated (path : List Part) (s : Document) (info : NodeInfo) : Type 0 where
  pub node : is_node path (mentions_in s) ≡ true
  pub is : info ≡ info_at path s

module _ (d : ProfiledText) (syntax : Syntax) (index : NodeInfos) (s : Document) (holds : Holds d syntax index)
    (read : IsTextOfTree d s) where
  pub paths_are : index.paths ≡ node_paths (mentions_in s)
  paths_are = ap (λ (t : NodeInfos). t.paths) (stated_is d syntax index s holds read) ∙ paths-nodes_in s

  -- a number that the tree has
  pub inside : (n : ℕ) → n < length (node_paths (mentions_in s)) → n < length index.paths
  inside n lt = subst (λ (ps : List (List Part)). n < length ps) (sym paths_are) lt

  -- a step below the node of a number
  pub step_at : (n : ℕ) (part : Part) (o : Option NodeId)
      → number_of o ≡ node_number index.paths (path_numbered index n ++ part ∷ [])
      → number_of o ≡ node_number index.paths (path_at s n ++ part ∷ [])
  step_at n part o found =
      found ∙ ap (λ (ps : List (List Part)). node_number index.paths (slice_index_or ps n [] ++ part ∷ [])) paths_are

module _ (d : ProfiledText) (syntax : Syntax) (index : NodeInfos) (path : List Part) (s : Document)
    (holds : Holds d syntax index) (read : IsTextOfTree d s) where
  its_paths : index.paths ≡ node_paths (mentions_in s)
  its_paths = paths_are d syntax index s holds read

  pub none_found : (o : Option NodeId) → o ≡ None → number_of o ≡ node_number index.paths path
      → is_node path (mentions_in s) ≡ false
  none_found o none found =
      no_node path (mentions_in s) (ap (λ (ps : List (List Part)). node_number ps path) (sym its_paths) ∙ sym found
      ∙ ap number_of none)

  -- the node with that number is the path's
  pub number_found_at : (id : NodeId) (o : Option NodeId) → o ≡ Some id → number_of o ≡ node_number index.paths path
      → IsNodeOf path s id
  number_found_at id o one found =
      ap (λ (ps : List (List Part)). node_number ps path) (sym its_paths) ∙ sym found ∙ ap number_of one

  pub one_found : (id : NodeId) (info : NodeInfo) (o : Option NodeId) → o ≡ Some id
      → number_of o ≡ node_number index.paths path → slice_get index.infos id.0 ≡ Some info → IsStated path s info
  one_found id info o one found there =
      let number : node_number (node_paths (mentions_in s)) path ≡ Some id.0 = number_found_at id o one found in
      let same : Some info ≡ Some (info_at path s) =
      sym there ∙ ap (λ (t : NodeInfos). slice_get t.infos id.0) (stated_is d syntax index s holds read)
      ∙ info_of_number path s id.0 number in
      record { node = a_node path (mentions_in s) id.0 number; is = cc }

  -- the node itself
  pub node_found : (id : NodeId) (o : Option NodeId) → o ≡ Some id → number_of o ≡ node_number index.paths path
      → slice_get (nodes_in s) id.0 ≡ Some (node_at (numbered_in s) path)
  node_found id o one found = node_of_number path s id.0 (number_found_at id o one found)

-- ---- its value

no_value_later : (b c d e f : Option ℕ) (n : ℕ)
    → first_that_fits (option_map (λ i. origin.Tables) b ∷ option_map origin.Element c ∷ option_map origin.Header d
    ∷ option_map origin.Dotted e ∷ option_map origin.Through f ∷ []) ≡ origin.Value n → ⊥
no_value_later (Some i) c d e f n h = absurd cc
no_value_later None (Some i) d e f n h = absurd cc
no_value_later None None (Some i) e f n h = absurd cc
no_value_later None None None (Some i) f n h = absurd cc
no_value_later None None None None (Some i) n h = absurd cc
no_value_later None None None None None n h = absurd cc

first_value : (a b c d e f : Option ℕ) (n : ℕ)
    → first_that_fits (option_map origin.Value a ∷ option_map (λ i. origin.Tables) b ∷ option_map origin.Element c
    ∷ option_map origin.Header d ∷ option_map origin.Dotted e ∷ option_map origin.Through f ∷ []) ≡ origin.Value n
    → a ≡ Some n
first_value None b c d e f n h = absurd (no_value_later b c d e f n h)
first_value (Some v) b c d e f n h = let same : v ≡ n = cc in ap Some same

pub origin_of_value : (ns : List Numbered) (n : ℕ) → mentioned_origin ns ≡ origin.Value n
    → last_number is_value value_number ns ≡ Some n
origin_of_value ns n h =
    first_value (last_number is_value value_number ns) (last_number is_element statement_number ns)
    (last_number is_begun statement_number ns)
    (last_number is_define statement_number ns) (last_number is_dotted value_number ns)
    (last_number is_through statement_number ns) n h

pub value_of_origin : (ns : List Numbered) (n : ℕ) → last_number is_value value_number ns ≡ Some n
    → mentioned_origin ns ≡ origin.Value n
value_of_origin ns n h = rw h refl

pub none_unless : (o : Option ℕ) → ((n : ℕ) → o ≡ Some n → ⊥) → o ≡ None
none_unless None h = refl
none_unless (Some n) h = absurd (h n refl)

pub number_found : (path : List Part) (s : Document) (info : NodeInfo) (n : ℕ) → IsStated path s info
    → info.origin ≡ origin.Value n → value_number_of path s ≡ Some n
number_found path s info n stated e =
    origin_of_value (numbered_at path (numbered_in s)) n (sym (ap (λ (i : NodeInfo). i.origin) stated.is) ∙ e)

pub no_number_found : (d : ProfiledText) (path : List Part) (s : Document) (info : NodeInfo) → IsTextOfTree d s
    → IsStated path s info → ((n : ℕ) → info.origin ≡ origin.Value n → ⊥) → HasNoValue path s fault.NotValue
no_number_found d path s info read stated other =
    let none : value_number_of path s ≡ None =
    none_unless (value_number_of path s)
    (λ n e. other n (ap (λ (i : NodeInfo). i.origin) stated.is
    ∙ value_of_origin (numbered_at path (numbered_in s)) n e)) in
    (stated.node, none_of_number path s read.obeys none)

-- ---- where the value is

-- the value with that number is the path's, and is there in the text
pub record IsValueThere (d : ProfiledText) (path : List Part) (s : Document) (number : ℕ) (info : ValueInfo) : Type
    0 where
  pub of : IsValueOf d.profile path s number info
  pub span : IsSpanOf d.text info.span

part_of_same : (a b : List ℕ) (at : ℕ) (t : List ℕ) → a ≡ b → IsPart b at t → IsPart a at t
part_of_same a b at t e h = subst (λ (x : List ℕ). IsPart x at t) (sym e) h

span_is : (d : ProfiledText) (path : List Part) (s : Document) (number : ℕ) (info : ValueInfo) → IsTextOfTree d s
    → IsValueOf d.profile path s number info → IsSpanOf d.text info.span
span_is d path s number info read of =
    let there : IsPart d.text info.span.start (value_text of.value) =
    part_of_same d.text (text s) info.span.start (value_text of.value) read.reads.spelled of.here in
    let ends = value_ends d.profile of.value of.valid in
    record {
      ordered = omega (arith, of.end);
      within = omega (arith, of.end, part_ends d.text info.span.start (value_text of.value) there);
      starts = starts_between d.text info.span.start (value_text of.value) there ends;
      ends = subst (IsCharBoundary d.text) (sym of.end)
          (ends_between d.text info.span.start (value_text of.value) read.utf8 there ends);
    }

module _ (d : ProfiledText) (syntax : Syntax) (index : NodeInfos) (path : List Part) (s : Document) (number : ℕ)
    (holds : Holds d syntax index) (read : IsTextOfTree d s) (found : value_number_of path s ≡ Some number) where
  pub values_are : values_of syntax ≡ numbered.values s
  values_are = holds.is.values ∙ ap numbered.values (tree_is d syntax index s holds read)

  pub value_nested : number < length (values_of syntax)
  value_nested =
      let (info, of) = value_of_number d.profile path s number read.reads.valid read.obeys found in
      slice_get_within (values_of syntax) number info (ap (λ vs. slice_get vs number) values_are ∙ of.info)

  pub value_there : (info : ValueInfo) → slice_get (values_of syntax) number ≡ Some info
      → IsValueThere d path s number info
  value_there info here =
      let (own, of) = value_of_number d.profile path s number read.reads.valid read.obeys found in
      let same : Some own ≡ Some info = sym of.info ∙ ap (λ vs. slice_get vs number) (sym values_are) ∙ here in
      let is : IsValueOf d.profile path s number info =
      subst (λ (i : ValueInfo). IsValueOf d.profile path s number i) (let k : own ≡ info = cc in k) of in
      record { of = is; span = span_is d path s number info read is }

-- ---- a node with a fact

or_true : (b : Bool) → (b || true) ≡ true
or_true true = refl
or_true false = refl

-- what a fact is stated of is mentioned
fact_names : (path : List Part) (ms : List Mention) (f : Fact) → fact_at path ms ≡ Some f
    → list_any (is_at path) ms ≡ true
fact_names path [] f e = absurd cc
fact_names path (m ∷ ms) f e = by (is_at path m) refl (λ k. fact_names path ms f k)
  where
    by : (b : Bool) → is_at path m ≡ b → (fact_at path ms ≡ Some f → list_any (is_at path) ms ≡ true)
        → list_any (is_at path) (m ∷ ms) ≡ true
    by true here more = ap (λ b. b || list_any (is_at path) ms) here
    by false here more = ap (λ b. b || list_any (is_at path) ms) here ∙ more (sym (fact_past path m ms here) ∙ e)

pub fact_node : (path : List Part) (ms : List Mention) (f : Fact) → fact_at path ms ≡ Some f → is_node path ms ≡ true
fact_node path ms f e = ap (λ b. is_root path || b) (fact_names path ms f e) ∙ or_true (is_root path)
