-- A value alone obeys the rules once it is read, and its nodes are those of the definitions; else its first faulty key
-- part is refused.
--
-- The tree is at first its root alone, which represents the value itself (`root_nesting`). The flat list has the values
-- inside it in their order (`alone_matches`), so these are the next to be read (`alone_next`). Once they are read, the
-- nodes represent all mentions in the value, so these obey the rules (`alone_obeys`). The facts are then those of the
-- mentions one after another, and no value is given to a path that is there, so they are the facts that the definitions
-- have (`alone_nodes`, by `values_new_of`). Where a key part breaks the rules, it is the first faulty one
-- (`alone_breaks`); so it is one of the value's key parts (`alone_within`), and the refusal is that of the definitions
-- (`alone_refused`).
--
-- Theorems: `alone_obeys`: a value that was read obeys the rules; `alone_nodes`: the nodes are those in the value;
-- `alone_refused`: a refusal is of the first faulty key part, or memory ran out.
use Rattle.std.proofs.Common.{◌≡◌, ℕ, zero, suc, ◌+◌, ◌<◌, ◌^◌, List, [], ◌∷◌, ◌++◌, length, map, get_or, slice_get}
use Rattle.std.proofs.Common.{refl, sym, ◌∙◌, ap, subst, arith, Some, None}
use Rattle.std.specs.List.{AllZip}
use Rattle.std.proofs.lemmas.List.{append-nil}
use Rattle.keep_types.specs.declared.leaf.Profile.{Profile}
use Rattle.keep_syntax.specs.declared.fault.ReadFault.{ReadFault}
use Rattle.keep_syntax.specs.declared.fault.Why.{Why}
use Rattle.keep_types.specs.declared.syntax.KeyPart.{KeyPart}
use Rattle.keep_types.specs.declared.syntax.ValueInfo.{ValueInfo}
use Rattle.keep_syntax.specs.Contract.{alone, parts_alone, values_alone}
use Rattle.keep_syntax_store.specs.Flat.{Flat}
use Rattle.keep_syntax.specs.Grammar.{IsValue}
use Rattle.keep_syntax.specs.Tree.{Value, value_text}
use Rattle.keep_syntax.specs.Numbered.{info, nested_of, entries_values}
use Rattle.keep_rules.specs.declared.definitions.DefineFault.{DefineFault}
use Rattle.keep_meaning.specs.Fact.{Fact}
use Rattle.keep_meaning.specs.Rules.{ObeysRules, IsFirstFaulty}
use Rattle.keep_meaning.specs.Marks as marks
use Rattle.keep_meaning.specs.Marks.{Mention}
use Rattle.keep_meaning.specs.Meaning.{body_fact, entries_mentions, mentions_of_value}
use Rattle.keep_meaning.specs.Counts.{Count, Numbered, numbered_mentions}
use Rattle.keep_meaning.specs.Nodes.{mention_of}
use Rattle.keep_meaning.specs.OtherValues.{nodes_in_value}
use Rattle.keep_meaning.specs.Faults.{parts_in}
use Rattle.keep_rules.specs.NestedValues.{NestedValue, nested_values, holding_of, all_nested_mentions, value_nesting}
use Rattle.keep_index_store.specs.Trie.{TrieNode, Holding}
use Rattle.keep_rules.specs.Tables.{is_tables}
use Rattle.keep_index_store.specs.Tree.{TrieInfos, IsRoot, node_infos}
use Rattle.keep_path.specs.NodeInfos.{NodeInfos, root_infos}
use Rattle.keep_rules.specs.MentionInfos.{with_mentions, ValuesAreNew}
use Rattle.keep_rules.specs.Reads.{IsValueNode, AreValueNodes}
use Rattle.keep_rules.specs.DefineFaults.{FaultMeets}
use Rattle.keep_rules.specs.FlatValues.{leaf_holding, MatchesNested, MatchAlone}
use Rattle.keep_rules.specs.Plans.{EndsAt, AreNext, NestedValuesRead, NestedValuesFault}
use Rattle.keep_rules.specs.ReadDocuments.{ValueObeys, IsValueRefusal, IsFaultAt}
use Rattle.keep_rules.proofs.FirstKeyLemmas.{nested_count, first_keys, AreFrom, match_nested}
use Rattle.keep_rules.proofs.FlatValueLemmas.{alone_matches}
use Rattle.keep_rules.proofs.NestedValueLemmas.{value_nested-mentions}
use Rattle.keep_meaning.proofs.Shared.{length-entries_values, marked-parts_in, mentions-numbered_mentions}
use Rattle.keep_rules.proofs.AllInfoLemmas.{values_new_of}
use Rattle.keep_rules.proofs.BuildLemmas.{meets_weaker}
use Rattle.keep_rules.proofs.RootLemmas.{rooted_represents, first_low, fault_placed}
use Rattle.keep_rules.proofs.StopLemmas.{fault_is_first}
use Rattle.keep_rules.proofs.SuitLemmas.{value_suits}
use Rattle.keep_rules.proofs.UnderwayLemmas.{past_ends}

some_info : (a b : ValueInfo) → Some a ≡ Some b → a ≡ b
some_info a b e = cc

-- the root represents the value
root_nesting : (t : TrieNode) (f : Fact) → t.state ≡ None → t.holds ≡ holding_of f
    → AreValueNodes (t ∷ []) (0 ∷ []) (value_nesting f)
root_nesting t f state holds = record {
  paths = refl;
  holdings = refl;
  entries = refl;
  each = λ j low. one j low;
  distinct = λ i j low high same. omega (arith, low, high);
}
  where
    one : (j : ℕ) → j < 1 → IsValueNode (t ∷ []) (get_or (0 ∷ []) j 0) (value_nesting f) j
    one zero low =
        record { nested = omega arith; here = refl; held = holds; plain = ap is_tables state; listed = λ is. refl }
    one (suc j) low = absurd (omega (arith, low))

module _ (bytes : List ℕ) (profile : Profile) (v : Value) (is : IsValue profile v) (spelled : bytes ≡ value_text v)
    (f : Flat) (keys : f.keys ≡ parts_alone v) (values : f.values ≡ values_alone v)
    (nodes : TrieInfos) (first : ValueInfo) (here : slice_get f.values 0 ≡ Some first) (h : Holding)
    (holds : h ≡ leaf_holding first.leaf) (root : IsRoot h nodes) where
  pub alone_next : AreNext bytes f nodes.trie (0 ∷ []) 1 1 0 (value_nesting (body_fact v.body))
      (nested_values 0 1 v.nested)
  alone_next =
      let matches : MatchAlone bytes (parts_alone v) v (values_alone v) = alone_matches bytes profile v is spelled in
      let own : ValueInfo = info alone 0 0 v.body v.nested None in
      let inner : List ValueInfo = entries_values (nested_of alone 0 0 v.body) v.nested in
      let ts : List NestedValue = nested_values 0 1 v.nested in
      let same : own ≡ first = some_info own first (sym (ap (λ vs. slice_get vs 0) values) ∙ here) in
      let is_open : AreFrom f.values 1 inner =
      λ i other at. ap (λ vs. slice_get vs (1 + i)) values
      ∙ subst (λ (n : ℕ). slice_get (own ∷ inner) n ≡ Some other) (let e : suc i ≡ 1 + i = omega arith in e) at in
      let ends : EndsAt f.values (1 + length ts) =
      past_ends f.values (1 + length ts)
      (omega (
        arith,
        ap length values,
        length-entries_values (nested_of alone 0 0 v.body) v.nested,
        nested_count 0 1 v.nested,
      )) in
      record {
        nested =
            subst (λ (t : List TrieNode). AreValueNodes t (0 ∷ []) (value_nesting (body_fact v.body))) (sym root.alone)
            (root_nesting root.root (body_fact v.body) root.state
            (root.holds ∙ holds ∙ ap (λ (i : ValueInfo). leaf_holding i.leaf) (sym same) ∙ sym matches.0.holds));
        suit = value_suits profile v is;
        matches =
            match_nested bytes f 1 1 0 ts inner
            (subst (λ (ks : List KeyPart). AllZip (MatchesNested bytes ks 1) ts inner) (sym keys) matches.1)
            (first_keys 0 1 (nested_of alone 0 0 v.body) v.nested) is_open ends;
      }

  mentions_nested : all_nested_mentions (value_nesting (body_fact v.body)) (nested_values 0 1 v.nested)
      ≡ entries_mentions 0 v.nested
  mentions_nested = value_nested-mentions v

  pub alone_obeys : (new : TrieInfos) (ids : List ℕ) → NestedValuesRead bytes f 1 1 nodes (0 ∷ []) new ids
      → ValueObeys v
  alone_obeys new ids was_read =
      let all = was_read (value_nesting (body_fact v.body)) (nested_values 0 1 v.nested) 0 alone_next in
      subst (λ (ms : List Mention). ObeysRules (marks.marks ms)) mentions_nested
      (all.represents [] [] (rooted_represents nodes h root)).index.states_represent.obeys

  alone_breaks : (at : ℕ) (why : Why) → NestedValuesFault bytes f 1 1 nodes (0 ∷ []) at why
      → IsFirstFaulty (marks.marks (mentions_of_value v)) at why
  alone_breaks at why faults =
      let one =
      faults (value_nesting (body_fact v.body)) (nested_values 0 1 v.nested) 0 alone_next [] []
      (rooted_represents nodes h root) in
      let more : List Mention = all_nested_mentions (value_nesting (body_fact v.body)) (nested_values 0 1 v.nested) in
      subst (λ (ms : List Mention). IsFirstFaulty (marks.marks ms) at why) (append-nil more ∙ mentions_nested)
      (subst (λ (n : ℕ). IsFirstFaulty (marks.marks (more ++ [])) n why)
      (let e : 0 + one.within ≡ at = omega (arith, one.sum) in e) (fault_is_first [] more [] one.within why one.fault))

  pub alone_within : (g : DefineFault) → FaultMeets g (NestedValuesFault bytes f 1 1 nodes (0 ∷ []))
      → FaultMeets g (λ n w. n < length f.keys)
  alone_within g meets =
      meets_weaker g (NestedValuesFault bytes f 1 1 nodes (0 ∷ [])) (λ n w. n < length f.keys)
      (λ n w faults. let low = first_low (marks.marks (mentions_of_value v)) n w (alone_breaks n w faults) in
      omega (arith, low, marked-parts_in v, ap length keys)) meets

  pub alone_refused : (g : DefineFault) (r : ReadFault) → IsFaultAt f.keys g r
      → FaultMeets g (NestedValuesFault bytes f 1 1 nodes (0 ∷ [])) → IsValueRefusal v r
  alone_refused g r at meets =
      fault_placed (parts_in v) (marks.marks (mentions_of_value v)) (IsValueRefusal v) g r
      (subst (λ (ks : List KeyPart). IsFaultAt ks g r) keys at)
      (meets_weaker g (NestedValuesFault bytes f 1 1 nodes (0 ∷ []))
      (λ n w. IsFirstFaulty (marks.marks (mentions_of_value v)) n w) alone_breaks meets) (λ place why fault. fault) tt

  -- the nodes are those in the value
  pub alone_nodes : length f.keys < 2 ^ 64 → (new : TrieInfos) (ids : List ℕ)
      → NestedValuesRead bytes f 1 1 nodes (0 ∷ []) new ids → node_infos new ≡ nodes_in_value v
  alone_nodes few new ids was_read =
      let c : Count = record { statements = 0; values = 1; keys = 0 } in
      let said : List Mention = all_nested_mentions (value_nesting (body_fact v.body)) (nested_values 0 1 v.nested) in
      let inside : List Numbered = numbered_mentions c (entries_mentions 0 v.nested) in
      let all = was_read (value_nesting (body_fact v.body)) (nested_values 0 1 v.nested) 0 alone_next in
      let few_marks : length (marks.marks (map mention_of inside)) < 2 ^ 64 =
      omega (
        arith,
        few,
        ap length keys,
        marked-parts_in v,
        ap (λ ms. length (marks.marks ms)) (mentions-numbered_mentions c (entries_mentions 0 v.nested)),
      ) in
      let fresh : ValuesAreNew ([] ∷ []) inside =
      subst (λ (ms : List Mention). ValuesAreNew ([] ∷ []) (numbered_mentions c ms)) mentions_nested
      (subst (λ (t : NodeInfos). ValuesAreNew t.paths (numbered_mentions c said)) root.facts (all.fresh c refl refl)) in
      all.facts c refl refl
      ∙ ap (λ (t : NodeInfos). with_mentions t (numbered_mentions c said)) root.facts
      ∙ ap (λ (ms : List Mention). with_mentions root_infos (numbered_mentions c ms)) mentions_nested
      ∙ values_new_of inside few_marks fresh
