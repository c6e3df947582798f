-- What is joined to the nodes that the header goes through, and what its new node has, is what the header says.
use Rattle.std.proofs.Common.{◌≡◌, ◌+◌, ◌∷◌, ◌++◌, [], ◌-◌, List, ℕ, drop, length, map, take, ◌∙◌, ap}
use Rattle.std.proofs.Common.{arith, subst, sym}
use Rattle.std.specs.Prelude.{String, string_bytes}
use Rattle.std.proofs.lemmas.List.{length-drop, length-map, length-take-le, map-append, take-append-drop, take_all}
use Rattle.std.specs.Global.{Global}
use Rattle.std.proofs.lemmas.Result.{on_ok_weaker}
use Rattle.keep_index_store.specs.declared.tree.joining.Join.{Join}
use Rattle.keep_index_store.specs.Facts.{named_info, unnamed_info}
use Rattle.keep_index_store.specs.Tree.{node_infos}
use Rattle.keep_index_store.specs.Trie.{children_of, path_at}
use Rattle.keep_meaning.specs.Marks.{element_header}
use Rattle.keep_meaning.specs.StatementsMore.{said_next}
use Rattle.keep_types.specs.declared.node.Kind.TheVariants as kind
use Rattle.keep_types.specs.declared.node.Origin.TheVariants as origin
use Rattle.keep_path.specs.NodeInfos.{NodeInfos}
use Rattle.keep_path.specs.Path.{index}
use Rattle.keep_rules.specs.HeaderJoins.{AreUpTo, PassesKeys, with_joins}
use Rattle.keep_rules.specs.MentionInfos.{with_info, with_mentions}
use Rattle.keep_rules.specs.ReadDocuments.{IsIndexOf}
use Rattle.keep_rules.proofs.HeaderJoinLemmas.{all_keys, element_known, tables_ascend}
use Rattle.keep_rules.proofs.NewTablesLemmas.{array_known, given}
use Rattle.keep_rules.proofs.index.Index.append_element.Goals as goal

pub add_element-requires-clause-joins : goal.add_element-requires-clause-joins
add_element-requires-clause-joins c =
    subst (AreUpTo 0 c.in_ok-array.array) (sym (c.deref-2.ensures.value ∙ c.in_ok-push_join.ensures))
    (tables_ascend c.self.inside.nodes c.self.invariant.0 c.pass_keys.new.joins.items c.args.statement c.args.key
    (map string_bytes (take c.in_ok-at.count c.in-Some.leading.now)) c.in_ok-at.at c.in_ok-at.ensures.passes
    c.as_str-2.result.now c.in_ok-array.array c.in_ok-array.ensures c.named-tables.result)

pub returns-clause-stated : goal.returns-clause-stated
returns-clause-stated c = λ d of numbers.
    let old = c.self.inside.nodes in
    let array = c.in_ok-array.array in
    let joins = c.pass_keys.new.joins.items in
    let leading : List (List ℕ) = map string_bytes c.in-Some.leading.now in
    let all : take c.in_ok-at.count c.in-Some.leading.now ≡ c.in-Some.leading.now =
    take_all c.in_ok-at.count c.in-Some.leading.now (omega (arith, c.if-count-leading.false)) in
    let passes : PassesKeys old joins c.args.statement c.args.key leading c.in_ok-at.at =
    subst (λ (ks : List (String Global)).
    PassesKeys old joins c.args.statement c.args.key (map string_bytes ks) c.in_ok-at.at) all
    c.in_ok-at.ensures.passes in
    let many : c.in-Some-checked_add.part ≡ c.args.key + length leading =
    omega (arith, length-map c.in-Some.leading.now string_bytes) in
    let same : node_infos old ≡ c.args.self.now = c.self.view_is in
    let keys : leading ++ c.as_str-2.result.now ∷ [] ≡ map string_bytes c.args.keys.now =
    all_keys c.args.keys.now c.in-Some.leading.now c.in-Some.last.now c.as_str-2.result.now c.in-Some.ensures.cases.0
    c.as_str-2.ensures.value in
    on_ok_weaker c.add_element.result (λ is.
    element_known old c.self.invariant.0 joins c.args.statement c.args.key leading c.in_ok-at.at passes
    c.as_str-2.result.now c.in-Some-checked_add.part many d (subst (IsIndexOf d) (sym same) of) numbers array
    c.in_ok-array.ensures c.named-tables.result c.named-tables.ensures.info (node_infos c.add_element.new.nodes)
    (is ∙ ap (λ (js : List Join).
    with_info (with_joins old js) (path_at old.trie array ++ index (length (children_of old.trie array)) ∷ [])
    (unnamed_info kind.Table (origin.Element c.args.statement))) (c.deref-2.ensures.value ∙ c.in_ok-push_join.ensures))
    ∙ ap (λ (ks : List (List ℕ)). with_mentions (node_infos old) (said_next d (element_header ks))) keys
    ∙ ap (λ (t : NodeInfos). with_mentions t (said_next d (element_header (map string_bytes c.args.keys.now)))) same)
    c.add_element.ensures.added

pub returns-then-count-leading-clause-stated : goal.returns-then-count-leading-clause-stated
returns-then-count-leading-clause-stated c = λ d of numbers.
    let old = c.self.inside.nodes in
    let leading = c.in-Some.leading.now in
    let text = c.as_str-then-count-leading.result.now in
    let passed : List (List ℕ) = map string_bytes (take c.in_ok-at.count leading) in
    let rest = take (length leading - c.in_ok-at.count) (drop c.in_ok-at.count leading) in
    let further : List (List ℕ) = map string_bytes rest in
    let all : rest ≡ drop c.in_ok-at.count leading =
    take_all (length leading - c.in_ok-at.count) (drop c.in_ok-at.count leading)
    (omega (arith, length-drop c.in_ok-at.count leading)) in
    let passes : PassesKeys old c.deref.result.now c.args.statement c.args.key passed c.in_ok-at.at =
    subst (λ (js : List Join). PassesKeys old js c.args.statement c.args.key passed c.in_ok-at.at)
    (sym c.deref.ensures.value) c.in_ok-at.ensures.passes in
    let many : c.args.key + c.in_ok-at.count ≡ c.args.key + length passed =
    ap (λ (n : ℕ). c.args.key + n)
    (sym (length-map (take c.in_ok-at.count leading) string_bytes
    ∙ length-take-le c.in_ok-at.count leading c.in_ok-at.ensures.few)) in
    let last_is : c.in-Some-checked_add.part ≡ (c.args.key + c.in_ok-at.count) + length further =
    omega (
      arith,
      length-map rest string_bytes,
      ap length all,
      length-drop c.in_ok-at.count leading,
      c.in_ok-at.ensures.few,
    ) in
    let same : node_infos old ≡ c.args.self.now = c.self.view_is in
    let whole : passed ++ further ≡ map string_bytes leading =
    ap (λ xs. passed ++ map string_bytes xs) all
    ∙ sym (map-append string_bytes (take c.in_ok-at.count leading) (drop c.in_ok-at.count leading))
    ∙ ap (map string_bytes) (take-append-drop c.in_ok-at.count leading) in
    let keys : (passed ++ further) ++ text ∷ [] ≡ map string_bytes c.args.keys.now =
    ap (λ (ks : List (List ℕ)). ks ++ text ∷ []) whole
    ∙ all_keys c.args.keys.now leading c.in-Some.last.now text c.in-Some.ensures.cases.0
    c.as_str-then-count-leading.ensures.value in
    let element = given c.array_facts-facts.result.element _ c.array_facts-facts.ensures.some
    c.array_facts-facts.ensures.element in
    on_ok_weaker c.add_header.result (λ adds.
    array_known old c.add_header.new.nodes c.self.invariant.0 c.deref.result.now c.args.statement c.args.key passed
    c.in_ok-at.at passes further text (c.args.key + c.in_ok-at.count) many c.array_facts-facts.result adds
    c.array_facts-facts.ensures.through d (subst (IsIndexOf d) (sym same) of) numbers element.0 element.1
    (c.array_facts-facts.ensures.own ∙ ap (λ (n : ℕ). named_info kind.Tables n origin.Tables) last_is) element.2
    ∙ ap (λ (ks : List (List ℕ)). with_mentions (node_infos old) (said_next d (element_header ks))) keys
    ∙ ap (λ (t : NodeInfos). with_mentions t (said_next d (element_header (map string_bytes c.args.keys.now)))) same)
    c.add_header.ensures.added
