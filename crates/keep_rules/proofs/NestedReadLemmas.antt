-- Nested values, read one after another.
--
-- What reading a list of nested values does is one record, `NestedRead`: the nodes represent their mentions too, the
-- facts of these are added one after another, and no value is given to a path that is there. Reading none changes
-- nothing (`nested_read_none`). Reading one list and then another is reading both (`nested_read_then`): the mentions of
-- the second are numbered from where those of the first end (`numbered_parts`), as many values later as the first has
-- (`all_nested_valued`), and the paths that are there then are those that the first met (`with_mentions-paths`). One
-- value, whose key parts `nested_marks` counts, is read in two ways: as an item (`nested_read_item`, by `item_taken`
-- and `item_represents`), or as a value with a key (`nested_read_keyed`, by `keyed_taken` and `keyed_represents`).
--
-- Theorems: `nested_read_then`: one list after another; `nested_read_item` and `nested_read_keyed`: one value.
use Rattle.std.proofs.Common.{◌≡◌, ℕ, ◌+◌, ◌<◌, List, [], ◌∷◌, ◌++◌, length, map, get_or, refl, sym, ◌∙◌, ap, subst}
use Rattle.std.proofs.Common.{arith, if◌then◌else◌, inl, inr}
use Rattle.std.proofs.lemmas.List.{append_assoc, append-nil}
use Rattle.keep_types.specs.declared.node.NodeInfo.{NodeInfo}
use Rattle.keep_meaning.specs.Fact.{Fact}
use Rattle.keep_path.specs.Path.{Part}
use Rattle.keep_meaning.specs.Marks as marks
use Rattle.keep_meaning.specs.Marks.{Mention, below}
use Rattle.keep_meaning.specs.Meaning.{keyed_mentions}
use Rattle.keep_meaning.specs.Counts.{Count, Numbered, numbered_mentions, count_after}
use Rattle.keep_rules.specs.NestedValues.{NestingState, NestedValue, nested_item, nested_keyed, holding_of}
use Rattle.keep_rules.specs.NestedValues.{holding_of_value, nested_mentions, all_nested_mentions, nesting_after}
use Rattle.keep_rules.specs.NestedValues.{next_nesting, path_of_value}
use Rattle.keep_index_store.specs.Trie.{TrieNode, by_key, by_index}
use Rattle.keep_rules.specs.Tables.{IsShaped}
use Rattle.keep_rules.specs.Represents.{Represents, Keeps}
use Rattle.keep_rules.specs.Steps.{HasNewValue, AddsItem}
use Rattle.keep_rules.specs.Reads.{AreValueNodes}
use Rattle.keep_path.specs.NodeInfos.{NodeInfos}
use Rattle.keep_rules.specs.MentionInfos.{with_info, with_info_at, with_mentions, mention_info, paths_after}
use Rattle.keep_rules.specs.MentionInfos.{ValuesAreNew}
use Rattle.keep_rules.specs.NestedReads.{HasKeys, nested_keys, NodesSoFar, NestedRead}
use Rattle.keep_meaning.proofs.Shared.{numbered_mentions-append, count_after-keys, count_after-values, valued}
use Rattle.keep_meaning.proofs.Shared.{valued-append, valued-keyed, valued-below, marked-keyed, marked-below}
use Rattle.keep_rules.proofs.NestedValueLemmas.{all_nested_mentions-append, nesting_after-append}
use Rattle.keep_rules.proofs.StepLemmas.{keeps_then}
use Rattle.keep_rules.proofs.NextValueLemmas.{item_taken, item_represents, keyed_taken, keyed_represents}
use Rattle.keep_meaning.specs.Nodes.{paths_with}
use Rattle.keep_rules.proofs.AllInfoLemmas.{met_or_unmet}
use Rattle.keep_rules.proofs.MentionInfoLemmas.{with_mentions-append, values_new-append}

-- the nodes with facts are those that were met
with_info-paths : (t : NodeInfos) (path : List Part) (more : NodeInfo)
    → (with_info t path more).paths ≡ paths_with t.paths path
with_info-paths t path more = elim (met_or_unmet t.paths path) [
  | inl met ↦ ap (λ o. (with_info_at t o path more).paths) met.is
      ∙ sym (ap (λ b. if b then t.paths else t.paths ++ path ∷ []) met.met)
  | inr unmet ↦ ap (λ o. (with_info_at t o path more).paths) unmet.is
      ∙ sym (ap (λ b. if b then t.paths else t.paths ++ path ∷ []) unmet.unmet)
]

pub with_mentions-paths : (t : NodeInfos) (ns : List Numbered) → (with_mentions t ns).paths ≡ paths_after t.paths ns
with_mentions-paths t [] = refl
with_mentions-paths t (n ∷ ns) =
    with_mentions-paths (with_info t n.mention.path (mention_info n)) ns
    ∙ ap (λ ps. paths_after ps ns) (with_info-paths t n.mention.path (mention_info n))

-- ---- how many values and key parts there are

keyed_valued : (p : List Part) (ks : List (List ℕ)) (f : Fact)
    → valued (map (below p) (keyed_mentions ks (record { path = []; kind = marks.value f } ∷ []))) ≡ 1
keyed_valued p [] f = refl
keyed_valued p (k ∷ ks) f =
    valued-below p (keyed_mentions (k ∷ ks) (record { path = []; kind = marks.value f } ∷ []))
    ∙ valued-keyed k ks (record { path = []; kind = marks.value f } ∷ [])

pub nested_valued : (s : NestingState) (t : NestedValue) → valued (nested_mentions s t) ≡ 1
nested_valued s (nested_item o f) = refl
nested_valued s (nested_keyed o ks f) = keyed_valued (path_of_value s o) ks f

pub all_nested_valued : (s : NestingState) (ts : List NestedValue) → valued (all_nested_mentions s ts) ≡ length ts
all_nested_valued s [] = refl
all_nested_valued s (t ∷ ts) =
    valued-append (nested_mentions s t) (all_nested_mentions (next_nesting s t) ts)
    ∙ omega (arith, nested_valued s t, all_nested_valued (next_nesting s t) ts)

pub nested_marks : (s : NestingState) (t : NestedValue) → HasKeys t
    → length (marks.marks (nested_mentions s t)) ≡ nested_keys t
nested_marks s (nested_item o f) has = refl
nested_marks s (nested_keyed o [] f) has = absurd (omega (arith, has))
nested_marks s (nested_keyed o (k ∷ ks) f) has =
    marked-below (path_of_value s o) (keyed_mentions (k ∷ ks) (record { path = []; kind = marks.value f } ∷ []))
    ∙ marked-keyed k ks (record { path = []; kind = marks.value f } ∷ []) ∙ omega arith

-- ---- one part after another

pub nested_read_none : (a : NodesSoFar) (from first : ℕ) (s : NestingState) → IsShaped a.trie → Keeps a.trie a.trie
    → AreValueNodes a.trie a.ids s → NestedRead a a from first s []
nested_read_none a from first s shaped keeps are = record {
  keeps = keeps;
  shaped = shaped;
  nested = are;
  represents = λ ms tables w. subst (λ (l : List Mention). Represents a.trie l tables) (sym (append-nil ms)) w;
  facts = λ c v k. refl;
  fresh = λ c v k. tt;
}

numbered_parts : (n : Count) (s : NestingState) (xs ys : List NestedValue)
    → numbered_mentions n (all_nested_mentions s (xs ++ ys)) ≡ numbered_mentions n (all_nested_mentions s xs)
    ++ numbered_mentions (count_after n (all_nested_mentions s xs)) (all_nested_mentions (nesting_after s xs) ys)
numbered_parts n s xs ys =
    ap (numbered_mentions n) (all_nested_mentions-append s xs ys)
    ∙ numbered_mentions-append n (all_nested_mentions s xs) (all_nested_mentions (nesting_after s xs) ys)

pub nested_read_then : (a b c : NodesSoFar) (from first : ℕ) (s : NestingState) (xs ys : List NestedValue)
    → NestedRead a b from first s xs
    → NestedRead b c (from + length xs) (first + length (marks.marks (all_nested_mentions s xs))) (nesting_after s xs)
    ys
    → NestedRead a c from first s (xs ++ ys)
nested_read_then a b c from first s xs ys one two = record {
  keeps = keeps_then one.keeps two.keeps;
  shaped = two.shaped;
  nested = subst (AreValueNodes c.trie c.ids) (sym (nesting_after-append s xs ys)) two.nested;
  represents = λ ms tables w.
      subst (λ (l : List Mention). Represents c.trie l tables)
      (append_assoc ms (all_nested_mentions s xs) (all_nested_mentions (nesting_after s xs) ys)
      ∙ ap (λ l. ms ++ l) (sym (all_nested_mentions-append s xs ys)))
      (two.represents (ms ++ all_nested_mentions s xs) tables (one.represents ms tables w));
  facts = λ n v k.
      two.facts (count_after n (all_nested_mentions s xs))
      (count_after-values n (all_nested_mentions s xs) ∙ omega (arith, v, all_nested_valued s xs))
      (count_after-keys n (all_nested_mentions s xs) ∙ omega (arith, k))
      ∙ ap (λ t.
      with_mentions t (numbered_mentions (count_after n (all_nested_mentions s xs))
      (all_nested_mentions (nesting_after s xs) ys))) (one.facts n v k)
      ∙ sym (with_mentions-append a.node_infos (numbered_mentions n (all_nested_mentions s xs))
      (numbered_mentions (count_after n (all_nested_mentions s xs)) (all_nested_mentions (nesting_after s xs) ys)))
      ∙ ap (with_mentions a.node_infos) (sym (numbered_parts n s xs ys));
  fresh = λ n v k.
      subst (ValuesAreNew a.node_infos.paths) (sym (numbered_parts n s xs ys))
      (values_new-append a.node_infos.paths (numbered_mentions n (all_nested_mentions s xs))
      (numbered_mentions (count_after n (all_nested_mentions s xs)) (all_nested_mentions (nesting_after s xs) ys))
      (one.fresh n v k)
      (subst (λ (ps : List (List Part)).
      ValuesAreNew ps (numbered_mentions (count_after n (all_nested_mentions s xs))
      (all_nested_mentions (nesting_after s xs) ys)))
      (ap (λ t. t.paths) (one.facts n v k)
      ∙ with_mentions-paths a.node_infos (numbered_mentions n (all_nested_mentions s xs)))
      (two.fresh (count_after n (all_nested_mentions s xs))
      (count_after-values n (all_nested_mentions s xs) ∙ omega (arith, v, all_nested_valued s xs))
      (count_after-keys n (all_nested_mentions s xs) ∙ omega (arith, k)))));
}

-- ---- one value

pub nested_read_item : (a : NodesSoFar) (new : List TrieNode) (node_infos : NodeInfos) (to from first : ℕ)
    (s : NestingState) (o : ℕ) (f : Fact)
    → AreValueNodes a.trie a.ids s → o < length a.ids → holding_of_value s o ≡ by_index
    → AddsItem a.trie new (get_or a.ids o 0) to (holding_of f)
    → ((c : Count) → c.values ≡ from → c.keys ≡ first
    → node_infos ≡ with_mentions a.node_infos (numbered_mentions c (nested_mentions s (nested_item o f))))
    → ((c : Count) → c.values ≡ from → c.keys ≡ first
    → ValuesAreNew a.node_infos.paths (numbered_mentions c (nested_mentions s (nested_item o f))))
    → NestedRead a (record { trie = new; node_infos = node_infos; ids = a.ids ++ to ∷ [] }) from first s
    (nested_item o f ∷ [])
nested_read_item a new node_infos to from first s o f are low listed added facts fresh = record {
  keeps = added.keeps;
  shaped = added.shaped;
  nested = item_taken a.trie new a.ids to s o f are low listed added;
  represents = λ ms tables w.
      subst (λ (l : List Mention). Represents new (ms ++ l) tables)
      (sym (append-nil (nested_mentions s (nested_item o f))))
      (item_represents a.trie new a.ids to s o f are low listed added ms tables w);
  facts = λ c v k. facts c v k
      ∙ ap (λ l. with_mentions a.node_infos (numbered_mentions c l))
      (sym (append-nil (nested_mentions s (nested_item o f))));
  fresh = λ c v k.
      subst (λ (l : List Mention). ValuesAreNew a.node_infos.paths (numbered_mentions c l))
      (sym (append-nil (nested_mentions s (nested_item o f)))) (fresh c v k);
}

pub nested_read_keyed : (a : NodesSoFar) (new : List TrieNode) (node_infos : NodeInfos) (to from first : ℕ)
    (s : NestingState) (o : ℕ) (leading : List (List ℕ)) (last : List ℕ) (f : Fact)
    → AreValueNodes a.trie a.ids s → o < length a.ids → holding_of_value s o ≡ by_key
    → HasNewValue a.trie new (get_or a.ids o 0) to leading last (holding_of f)
    → ((c : Count) → c.values ≡ from → c.keys ≡ first
    → node_infos ≡ with_mentions a.node_infos (numbered_mentions c
    (nested_mentions s (nested_keyed o (leading ++ last ∷ []) f))))
    → ((c : Count) → c.values ≡ from → c.keys ≡ first
    → ValuesAreNew a.node_infos.paths
    (numbered_mentions c (nested_mentions s (nested_keyed o (leading ++ last ∷ []) f))))
    → NestedRead a (record { trie = new; node_infos = node_infos; ids = a.ids ++ to ∷ [] }) from first s
    (nested_keyed o (leading ++ last ∷ []) f ∷ [])
nested_read_keyed a new node_infos to from first s o leading last f are low keyed given facts fresh =
    let t : NestedValue = nested_keyed o (leading ++ last ∷ []) f in
    record {
      keeps = given.keeps;
      shaped = given.shaped;
      nested = keyed_taken a.trie new a.ids to s o leading last f are low keyed given;
      represents =
          λ ms tables w.
          subst (λ (l : List Mention). Represents new (ms ++ l) tables) (sym (append-nil (nested_mentions s t)))
          (keyed_represents a.trie new a.ids to s o leading last f are low given ms tables w);
      facts = λ c v k. facts c v k
          ∙ ap (λ l. with_mentions a.node_infos (numbered_mentions c l)) (sym (append-nil (nested_mentions s t)));
      fresh = λ c v k.
          subst (λ (l : List Mention). ValuesAreNew a.node_infos.paths (numbered_mentions c l))
          (sym (append-nil (nested_mentions s t))) (fresh c v k);
    }
