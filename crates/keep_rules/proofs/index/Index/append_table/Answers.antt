-- What is joined to the nodes that the header goes through, and what its new nodes have, is what the header says.
use Rattle.std.proofs.Common.{◌≡◌, ◌+◌, ◌-◌, ◌∷◌, ◌++◌, [], List, ℕ, drop, length, map, take, ◌∙◌, ap, arith, subst}
use Rattle.std.proofs.Common.{sym}
use Rattle.std.proofs.lemmas.List.{length-map, length-drop, length-take-le, map-append, take-append-drop, take_all}
use Rattle.std.proofs.lemmas.Result.{on_ok_weaker}
use Rattle.std.specs.Global.{Global}
use Rattle.std.specs.Prelude.{String, string_bytes}
use Rattle.keep_index_store.specs.declared.tree.joining.Join.{Join}
use Rattle.keep_types.specs.declared.node.Kind.TheVariants as kind
use Rattle.keep_types.specs.declared.node.Origin.TheVariants as origin
use Rattle.keep_index_store.specs.Facts.{named_info}
use Rattle.keep_index_store.specs.Tree.{node_infos}
use Rattle.keep_meaning.specs.Marks.{header}
use Rattle.keep_meaning.specs.StatementsMore.{said_next}
use Rattle.keep_path.specs.NodeInfos.{NodeInfos}
use Rattle.keep_rules.specs.HeaderJoins.{AreUpTo, PassesKeys, with_joins}
use Rattle.keep_rules.specs.MentionInfos.{with_mentions}
use Rattle.keep_rules.specs.ReadDocuments.{IsIndexOf}
use Rattle.keep_rules.proofs.HeaderJoinLemmas.{all_keys, table_ascends, table_known}
use Rattle.keep_rules.proofs.NewTablesLemmas.{tables_known}
use Rattle.keep_rules.proofs.index.Index.append_table.Goals as goal

pub returns-clause-stated : goal.returns-clause-stated
returns-clause-stated c = λ d of numbers.
    let old = c.self.inside.nodes in
    let leading = c.in-Some.leading.now in
    let passed : List (List ℕ) = map string_bytes (take c.in_ok-at.count leading) in
    let rest = take (length leading - c.in_ok-at.count) (drop c.in_ok-at.count leading) in
    let further : List (List ℕ) = map string_bytes rest in
    let all : rest ≡ drop c.in_ok-at.count leading =
    take_all (length leading - c.in_ok-at.count) (drop c.in_ok-at.count leading)
    (omega (arith, length-drop c.in_ok-at.count leading)) in
    let passes : PassesKeys old c.deref-2.result.now c.args.statement c.args.key passed c.in_ok-at.at =
    subst (λ (js : List Join). PassesKeys old js c.args.statement c.args.key passed c.in_ok-at.at)
    (sym c.deref-2.ensures.value) c.in_ok-at.ensures.passes in
    let many : c.args.key + c.in_ok-at.count ≡ c.args.key + length passed =
    ap (λ (n : ℕ). c.args.key + n)
    (sym (length-map (take c.in_ok-at.count leading) string_bytes
    ∙ length-take-le c.in_ok-at.count leading c.in_ok-at.ensures.few)) in
    let last_is : c.in-Some-checked_add.part ≡ (c.args.key + c.in_ok-at.count) + length further =
    omega (
      arith,
      length-map rest string_bytes,
      ap length all,
      length-drop c.in_ok-at.count leading,
      c.in_ok-at.ensures.few,
    ) in
    let same : node_infos old ≡ c.args.self.now = c.self.view_is in
    let whole : passed ++ further ≡ map string_bytes leading =
    ap (λ xs. passed ++ map string_bytes xs) all
    ∙ sym (map-append string_bytes (take c.in_ok-at.count leading) (drop c.in_ok-at.count leading))
    ∙ ap (map string_bytes) (take-append-drop c.in_ok-at.count leading) in
    let keys : (passed ++ further) ++ c.as_str-2.result.now ∷ [] ≡ map string_bytes c.args.keys.now =
    ap (λ (ks : List (List ℕ)). ks ++ c.as_str-2.result.now ∷ []) whole
    ∙ all_keys c.args.keys.now leading c.in-Some.last.now c.as_str-2.result.now c.in-Some.ensures.cases.0
    c.as_str-2.ensures.value in
    on_ok_weaker c.add_header.result (λ adds.
    tables_known old c.add_header.new.nodes c.self.invariant.0 c.deref-2.result.now c.args.statement c.args.key passed
    c.in_ok-at.at passes further c.as_str-2.result.now (c.args.key + c.in_ok-at.count) many c.table_facts-facts.result
    adds c.table_facts-facts.ensures.through d (subst (IsIndexOf d) (sym same) of) numbers
    c.table_facts-facts.ensures.element
    (c.table_facts-facts.ensures.own
    ∙ ap (λ (n : ℕ). named_info kind.Table n (origin.Header c.args.statement)) last_is)
    ∙ ap (λ (ks : List (List ℕ)). with_mentions (node_infos old) (said_next d (header ks))) keys
    ∙ ap (λ (t : NodeInfos). with_mentions t (said_next d (header (map string_bytes c.args.keys.now)))) same)
    c.add_header.ensures.added

pub join_all-requires-clause-joins : goal.join_all-requires-clause-joins
join_all-requires-clause-joins c = (
  c.in-Some-child.child,
  c.in-Some-child.ensures.0,
  subst (AreUpTo 0 c.in-Some-child.child) (sym (c.deref.ensures.value ∙ c.in_ok-push_join.ensures))
      (table_ascends c.self.inside.nodes c.self.invariant.0 c.pass_keys.new.joins.items c.args.statement c.args.key
      (map string_bytes (take c.in_ok-at.count c.in-Some.leading.now)) c.in_ok-at.at c.in_ok-at.ensures.passes
      c.as_str.result.now c.in-Some-child.child c.in-Some-child.ensures.0 c.in-Some-child.ensures.1
      c.named-table.result),
)

pub returns-in-Some-child-clause-stated : goal.returns-in-Some-child-clause-stated
returns-in-Some-child-clause-stated c = λ d of numbers.
    let old = c.self.inside.nodes in
    let joins = c.pass_keys.new.joins.items in
    let leading : List (List ℕ) = map string_bytes c.in-Some.leading.now in
    let all : take c.in_ok-at.count c.in-Some.leading.now ≡ c.in-Some.leading.now =
    take_all c.in_ok-at.count c.in-Some.leading.now (omega (arith, c.if-count-leading.true)) in
    let passes : PassesKeys old joins c.args.statement c.args.key leading c.in_ok-at.at =
    subst (λ (ks : List (String Global)).
    PassesKeys old joins c.args.statement c.args.key (map string_bytes ks) c.in_ok-at.at) all
    c.in_ok-at.ensures.passes in
    let many : c.in-Some-checked_add.part ≡ c.args.key + length leading =
    omega (arith, length-map c.in-Some.leading.now string_bytes) in
    let same : node_infos old ≡ c.args.self.now = c.self.view_is in
    let keys : leading ++ c.as_str.result.now ∷ [] ≡ map string_bytes c.args.keys.now =
    all_keys c.args.keys.now c.in-Some.leading.now c.in-Some.last.now c.as_str.result.now c.in-Some.ensures.cases.0
    c.as_str.ensures.value in
    on_ok_weaker c.join_all.result (λ is.
    table_known old c.self.invariant.0 joins c.args.statement c.args.key leading c.in_ok-at.at passes
    c.as_str.result.now c.in-Some-checked_add.part many d (subst (IsIndexOf d) (sym same) of) numbers
    c.in-Some-child.child c.in-Some-child.ensures.0 c.in-Some-child.ensures.1 c.named-table.result
    c.named-table.ensures.info (node_infos c.join_all.new.nodes)
    (is ∙ ap (λ (js : List Join). with_joins old js) (c.deref.ensures.value ∙ c.in_ok-push_join.ensures))
    ∙ ap (λ (ks : List (List ℕ)). with_mentions (node_infos old) (said_next d (header ks))) keys
    ∙ ap (λ (t : NodeInfos). with_mentions t (said_next d (header (map string_bytes c.args.keys.now)))) same)
    c.join_all.ensures.joined
