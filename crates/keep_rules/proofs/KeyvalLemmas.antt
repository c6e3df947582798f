-- Reading a keyval of the flat list as the statement that it is.
--
-- A keyval is read as its own value, which is a nested value of the body with keys (`top_read`), and then all values
-- inside it. The body is seen as a nesting with nothing in it yet (`open_nesting`). The values inside are those of the
-- flat list from the next number on (`nested_next`), and reading both one after the other is reading the statement
-- (`keyval_all_read`, `keyval_read`). A fault is in the keyval's own keys (`keys_break`) or inside its value
-- (`nested_breaks`), and is then the same fault of the statement.
--
-- Theorems: `keyval_is_read`: the keyval is read as its statement; `keys_break_as_matched` and
-- `nested_breaks_as_matched`: its faults.
use Rattle.std.proofs.Common.{◌≡◌, ℕ, zero, suc, ◌+◌, ◌<◌, false, List, [], ◌∷◌, ◌++◌, length, get_or, map, take, drop}
use Rattle.std.proofs.Common.{slice_get, refl, sym, ◌∙◌, ap, subst, arith, inl, inr, Option, Some, None}
use Rattle.std.proofs.lemmas.Bool.{cases_Bool}
use Rattle.std.proofs.lemmas.List.{append-nil}
use Rattle.keep_syntax.specs.declared.fault.Why.{Why}
use Rattle.keep_types.specs.declared.syntax.Statement.{Statement}
use Rattle.keep_types.specs.declared.syntax.ValueInfo.{ValueInfo}
use Rattle.keep_syntax_store.specs.Flat.{Flat}
use Rattle.keep_syntax.specs.Tree.{Name, Value}
use Rattle.keep_syntax.specs.Numbered.{value_count}
use Rattle.keep_types.specs.declared.node.Kind.{Kind}
use Rattle.keep_types.specs.declared.role.Role.{Role}
use Rattle.keep_types.specs.declared.role.Role.TheVariants.{Element}
use Rattle.keep_rules.specs.declared.definitions.DefineFault.{DefineFault}
use Rattle.keep_meaning.specs.Fact.{Fact}
use Rattle.keep_path.specs.Path.{Part}
use Rattle.keep_meaning.specs.Rules.{allows}
use Rattle.keep_meaning.specs.Marks as marks
use Rattle.keep_meaning.specs.Marks.{Mention, Reading, statement_mentions, below}
use Rattle.keep_meaning.specs.Meaning.{keys_of, body_fact, keyval_mentions}
use Rattle.keep_meaning.specs.Counts.{Count, numbered_mentions}
use Rattle.keep_rules.specs.Keys.{Key, leading_texts, last_text}
use Rattle.keep_meaning.specs.KeyText.{keys_in}
use Rattle.keep_rules.specs.NestedValues.{NestingState, NestedValue, nested_keyed, nested_values, nested_mentions}
use Rattle.keep_rules.specs.NestedValues.{all_nested_mentions, next_nesting, body_nesting, keyval_nested}
use Rattle.keep_index_store.specs.Trie.{TrieNode, Holding, by_key, by_index, path_at, state_at}
use Rattle.keep_rules.specs.Tables.{is_tables, IsShaped}
use Rattle.keep_index_store.specs.Tree.{TrieInfos, node_infos}
use Rattle.keep_rules.specs.Represents.{Represents, IsOpen, FaultIn, FaultFrom}
use Rattle.keep_rules.specs.Steps.{HasNewValue}
use Rattle.keep_rules.specs.Reads.{IsValueNode, AreValueNodes, KeyedFaults}
use Rattle.keep_rules.specs.DefineFaults.{FaultMeets}
use Rattle.keep_rules.specs.AddedInfos.{KeyedAdds, AddsValue}
use Rattle.keep_rules.specs.MentionInfos.{with_mentions, ValuesAreNew}
use Rattle.keep_rules.specs.NestedReads.{NestedRead}
use Rattle.keep_types.specs.Kinds.{leaf_kind}
use Rattle.keep_rules.specs.FlatValues.{leaf_holding}
use Rattle.keep_rules.specs.FlatStatements.{MatchesKeyvalOf, MatchesStatement}
use Rattle.keep_rules.specs.Plans.{nodes_so_far, EndsAt, MatchNested, AreNext, NestedValuesRead, NestedValuesFault}
use Rattle.keep_rules.specs.ReadStatements.{HasReading, IsRead, Breaks, IsReadAsMatched, BreaksAsMatched}
use Rattle.keep_rules.proofs.NestedValueLemmas.{all_nested_mentions-append, keyval_nested-mentions}
use Rattle.keep_rules.proofs.SuitLemmas.{keyval_suits}
use Rattle.keep_rules.proofs.ReadLemmas.{keyval_reads}
use Rattle.keep_rules.proofs.StopLemmas.{fault_from_more, fault_within}
use Rattle.keep_rules.proofs.BuildLemmas.{meets_weaker}
use Rattle.keep_rules.proofs.UnderwayLemmas.{line_nested}
use Rattle.keep_rules.proofs.FirstKeyLemmas.{nested_count, match_nested, taken_from}
use Rattle.keep_rules.proofs.KeyLemmas.{texts_split, length-keys_in}
use Rattle.keep_rules.proofs.NestedReadLemmas.{nested_read_keyed, nested_read_then, nested_marks}

-- ---- the body

open_plain : (nodes : List TrieNode) (at : ℕ) (path : List Part) (o : Option Role) → IsShaped nodes
    → IsOpen nodes at path → state_at nodes at ≡ o → is_tables (state_at nodes at) ≡ false
open_plain nodes at path None shaped open_ e = ap is_tables e
open_plain nodes at path (Some s) shaped open_ e = elim (cases_Bool (allows s Element)) [
  | inl lets ↦
      absurd (let clash : by_key ≡ by_index = sym open_.open_to ∙ (shaped.fits at s open_.nested e).listed lets in cc)
  | inr not_so ↦ ap is_tables e ∙ not_so
]

-- a body with nothing in it yet
open_nesting : (nodes : List TrieNode) (at : ℕ) (path : List Part) → IsShaped nodes → IsOpen nodes at path
    → AreValueNodes nodes (at ∷ []) (body_nesting path)
open_nesting nodes at path shaped open_ = record {
  paths = refl;
  holdings = refl;
  entries = refl;
  each = λ j low. one j low;
  distinct = λ i j low high same. omega (arith, low, high);
}
  where
    one : (j : ℕ) → j < 1 → IsValueNode nodes (get_or (at ∷ []) j 0) (body_nesting path) j
    one zero low = record {
      nested = open_.nested;
      here = open_.here;
      held = open_.open_to;
      plain = open_plain nodes at path (state_at nodes at) shaped open_ refl;
      listed = λ is. absurd (let no : by_key ≡ by_index = is in cc);
    }
    one (suc j) low = absurd (omega (arith, low))

some_value : (a b : ℕ) → Some a ≡ Some b → a ≡ b
some_value a b e = cc

some_info : (a b : ValueInfo) → Some a ≡ Some b → a ≡ b
some_info a b e = cc

-- its mentions in a body
mentions_in_body : (r : Reading) (path : List Part) (name : Name) (v : Value) → path ≡ r.body
    → all_nested_mentions (body_nesting path) (keyval_nested name v)
    ≡ statement_mentions r (marks.keyval (keyval_mentions name v))
mentions_in_body r path name v e =
    ap (λ q. all_nested_mentions (body_nesting q) (keyval_nested name v)) e ∙ keyval_nested-mentions r.body name v

module _ (bytes : List ℕ) (f : Flat) (st : Statement) (old mid : TrieInfos) (body top number : ℕ) (k : Key)
    (info : ValueInfo) (kind : Kind) (holds : Holding)
    (texts : k.texts ≡ keys_in bytes f.keys st.first_key st.keys) (some : 0 < length k.texts)
    (listed : slice_get f.values number ≡ Some info) (valued : st.value ≡ Some number)
    (kind_is : kind ≡ leaf_kind info.leaf) (holds_is : holds ≡ leaf_holding info.leaf)
    (gives : HasNewValue old.trie mid.trie body top (leading_texts k) (last_text k) holds)
    (joined : KeyedAdds old mid body st.first_key k.texts number kind) where
  -- the keyval's own value was read
  pub top_read : (mentioned : List Mention) (path : List Part)
      (matches : MatchesKeyvalOf bytes f.keys f.values st mentioned) → IsShaped old.trie → IsOpen old.trie body path
      → NestedRead (nodes_so_far old (body ∷ [])) (nodes_so_far mid (body ∷ top ∷ [])) number st.first_key
      (body_nesting path) (nested_keyed 0 (keys_of matches.name.key) (body_fact matches.value.body) ∷ [])
  top_read mentioned path matches shaped open_ =
      let fact : Fact = body_fact matches.value.body in
      let s : NestingState = body_nesting path in
      let same : matches.valued.own ≡ info =
      some_info matches.valued.own info
      (sym matches.valued.here
      ∙ ap (slice_get f.values) (some_value matches.valued.first number (sym matches.valued.valued ∙ valued))
      ∙ listed) in
      let facts : (c : Count) → c.values ≡ number → c.keys ≡ st.first_key
      → AddsValue old mid c (nested_mentions s (nested_keyed 0 (leading_texts k ++ last_text k ∷ []) fact)) =
      λ c v first.
      subst (λ (x : List (List ℕ)). AddsValue old mid c (nested_mentions s (nested_keyed 0 x fact)))
      (sym (texts_split k some))
      (joined s 0 fact open_.here (matches.valued.kind ∙ ap (λ (i : ValueInfo). leaf_kind i.leaf) same ∙ sym kind_is) c
      v first) in
      subst (λ (x : List (List ℕ)).
      NestedRead (nodes_so_far old (body ∷ [])) (nodes_so_far mid (body ∷ top ∷ [])) number st.first_key s
      (nested_keyed 0 x fact ∷ [])) (texts_split k some ∙ texts ∙ matches.keys.keys)
      (nested_read_keyed (nodes_so_far old (body ∷ [])) mid.trie (node_infos mid) top number st.first_key s 0
      (leading_texts k) (last_text k) fact (open_nesting old.trie body path shaped open_) (omega arith) refl
      (subst (λ (x : Holding). HasNewValue old.trie mid.trie body top (leading_texts k) (last_text k) x)
      (holds_is ∙ ap (λ (i : ValueInfo). leaf_holding i.leaf) (sym same) ∙ sym matches.valued.holds) gives)
      (λ c v first. (facts c v first).joined)
      (λ c v first. (facts c v first).fresh))

  -- the values in it come next
  pub nested_next : (mentioned : List Mention) (path : List Part)
      (matches : MatchesKeyvalOf bytes f.keys f.values st mentioned) → IsShaped old.trie → IsOpen old.trie body path
      → AreNext bytes f mid.trie (body ∷ top ∷ []) number (number + 1) (st.first_key + st.keys)
      (next_nesting (body_nesting path) (nested_keyed 0 (keys_of matches.name.key) (body_fact matches.value.body)))
      (nested_values 1 2 matches.value.nested)
  nested_next mentioned path matches shaped open_ =
      let at : matches.valued.first ≡ number =
      some_value matches.valued.first number (sym matches.valued.valued ∙ valued) in
      let n : ℕ = value_count matches.value.nested in
      let ts : List NestedValue = nested_values 1 2 matches.value.nested in
      let ends : EndsAt f.values ((matches.valued.first + 1) + length ts) = λ other here nested.
      let line =
      matches.valued.next_line other
      (ap (slice_get f.values) (let e : (matches.valued.first + 1) + n ≡ (matches.valued.first + 1) + length ts =
      omega (arith, nested_count 1 2 matches.value.nested) in e) ∙ here) in
      line_nested line.0 other.owner line.1 nested in
      record {
        nested = (top_read mentioned path matches shaped open_).nested;
        suit = (keyval_suits matches.profile path matches.name matches.value matches.is).1;
        matches = subst (λ (b : ℕ). MatchNested bytes f b (b + 1) (st.first_key + st.keys) ts) at
            (match_nested bytes f matches.valued.first (matches.valued.first + 1) (st.first_key + st.keys) ts
            (take n (drop (matches.valued.first + 1) f.values)) matches.valued.nested matches.valued.firsts
            (taken_from f.values (matches.valued.first + 1) n) ends);
      }

  own_keys : (mentioned : List Mention) (matches : MatchesKeyvalOf bytes f.keys f.values st mentioned)
      → length (keys_of matches.name.key) ≡ st.keys
  own_keys mentioned matches =
      ap length (sym matches.keys.keys) ∙ length-keys_in bytes f.keys st.first_key st.keys matches.keys.within

  own_marks : (mentioned : List Mention) (path : List Part)
      (matches : MatchesKeyvalOf bytes f.keys f.values st mentioned)
      → length (marks.marks (all_nested_mentions (body_nesting path)
      (nested_keyed 0 (keys_of matches.name.key) (body_fact matches.value.body) ∷ []))) ≡ st.keys
  own_marks mentioned path matches =
      let t : NestedValue = nested_keyed 0 (keys_of matches.name.key) (body_fact matches.value.body) in
      ap (λ w. length (marks.marks w)) (append-nil (nested_mentions (body_nesting path) t))
      ∙ nested_marks (body_nesting path) t (omega (arith, own_keys mentioned matches, matches.keys.some))
      ∙ own_keys mentioned matches

  -- all its values were read
  pub keyval_all_read : (new : TrieInfos) (ids : List ℕ)
      → NestedValuesRead bytes f number (number + 1) mid (body ∷ top ∷ []) new ids
      → (mentioned : List Mention) (path : List Part) (matches : MatchesKeyvalOf bytes f.keys f.values st mentioned)
      → IsShaped old.trie → IsOpen old.trie body path
      → NestedRead (nodes_so_far old (body ∷ [])) (nodes_so_far new ids) number st.first_key (body_nesting path)
      (keyval_nested matches.name matches.value)
  keyval_all_read new ids was_read mentioned path matches shaped open_ =
      let t : NestedValue = nested_keyed 0 (keys_of matches.name.key) (body_fact matches.value.body) in
      let s : NestingState = body_nesting path in
      let rest : NestedRead (nodes_so_far mid (body ∷ top ∷ [])) (nodes_so_far new ids) (number + 1)
      (st.first_key + st.keys) (next_nesting s t) (nested_values 1 2 matches.value.nested) =
      was_read (next_nesting s t) (nested_values 1 2 matches.value.nested) (st.first_key + st.keys)
      (nested_next mentioned path matches shaped open_) in
      nested_read_then (nodes_so_far old (body ∷ [])) (nodes_so_far mid (body ∷ top ∷ [])) (nodes_so_far new ids) number
      st.first_key s (t ∷ []) (nested_values 1 2 matches.value.nested) (top_read mentioned path matches shaped open_)
      (subst (λ (n : ℕ).
      NestedRead (nodes_so_far mid (body ∷ top ∷ [])) (nodes_so_far new ids) (number + 1) (st.first_key + n)
      (next_nesting s t) (nested_values 1 2 matches.value.nested)) (sym (own_marks mentioned path matches)) rest)

  -- so the keyval was read
  keyval_read : (new : TrieInfos) (ids : List ℕ)
      → NestedValuesRead bytes f number (number + 1) mid (body ∷ top ∷ []) new ids → HasReading old.trie body
      → (n : ℕ) (mentioned : List Mention) → MatchesKeyvalOf bytes f.keys f.values st mentioned
      → IsRead n st old body new body (marks.keyval mentioned)
  keyval_read new ids was_read reading n mentioned matches =
      let path : List Part = path_at old.trie body in
      let open_ : IsOpen old.trie body path =
      record { nested = reading.2.is_open.nested; here = refl; open_to = reading.2.is_open.open_to } in
      let all = keyval_all_read new ids was_read mentioned path matches reading.2.represents.shaped open_ in
      let ts : List NestedValue = keyval_nested matches.name matches.value in
      subst (λ (l : List Mention). IsRead n st old body new body (marks.keyval l)) (sym matches.mentions) (record {
        reads = keyval_reads old.trie new.trie body matches.name matches.value all.keeps
            (λ ms r now.
            subst (λ (q : List Part). Represents new.trie (ms ++ all_nested_mentions (body_nesting q) ts) r.tables)
            now.is_open.here (all.represents ms r.tables now.represents));
        joined = λ ms r now c counted. record {
          joined =
              all.facts c (counted.values number valued) counted.keys
              ∙ ap (λ w. with_mentions (node_infos old) (numbered_mentions c w))
              (mentions_in_body r path matches.name matches.value now.is_open.here);
          fresh = subst (λ (w : List Mention). ValuesAreNew (node_infos old).paths (numbered_mentions c w))
              (mentions_in_body r path matches.name matches.value now.is_open.here)
              (all.fresh c (counted.values number valued) counted.keys);
        };
      })

  pub keyval_is_read : (new : TrieInfos) (ids : List ℕ)
      → NestedValuesRead bytes f number (number + 1) mid (body ∷ top ∷ []) new ids → HasReading old.trie body → (n : ℕ)
      → IsReadAsMatched bytes f n st old body new body
  keyval_is_read new ids was_read reading n (marks.header ks) matches =
      absurd (let no : None ≡ Some number = sym matches.1 ∙ valued in cc)
  keyval_is_read new ids was_read reading n (marks.element_header ks) matches =
      absurd (let no : None ≡ Some number = sym matches.1 ∙ valued in cc)
  keyval_is_read new ids was_read reading n (marks.keyval mentioned) matches =
      keyval_read new ids was_read reading n mentioned matches

  -- what may come next, of some statement that it is
  pub some_nested_next : (s : marks.Statement) × MatchesStatement bytes f.keys f.values st s → HasReading old.trie body
      → (s : NestingState) × (ts : List NestedValue) × (first : ℕ)
      × AreNext bytes f mid.trie (body ∷ top ∷ []) number (number + 1) first s ts
  some_nested_next matches reading = mentions_next matches.0 matches.1 reading
    where
      mentions_next : (s : marks.Statement) → MatchesStatement bytes f.keys f.values st s → HasReading old.trie body
          → (s : NestingState) × (ts : List NestedValue) × (first : ℕ)
          × AreNext bytes f mid.trie (body ∷ top ∷ []) number (number + 1) first s ts
      mentions_next (marks.header ks) matches reading =
          absurd (let no : None ≡ Some number = sym matches.1 ∙ valued in cc)
      mentions_next (marks.element_header ks) matches reading =
          absurd (let no : None ≡ Some number = sym matches.1 ∙ valued in cc)
      mentions_next (marks.keyval mentioned) matches reading = (
        next_nesting (body_nesting reading.1.body)
            (nested_keyed 0 (keys_of matches.name.key) (body_fact matches.value.body)),
        nested_values 1 2 matches.value.nested,
        st.first_key + st.keys,
        nested_next mentioned reading.1.body matches reading.2.represents.shaped reading.2.is_open,
      )

  -- a fault in the values in it
  nested_breaks : (at : ℕ) (why : Why) → NestedValuesFault bytes f number (number + 1) mid (body ∷ top ∷ []) at why
      → (mentioned : List Mention) → MatchesKeyvalOf bytes f.keys f.values st mentioned
      → Breaks st old body (marks.keyval mentioned) at why
  nested_breaks at why faults mentioned matches ms r reading =
      let s : NestingState = body_nesting r.body in
      let t : NestedValue = nested_keyed 0 (keys_of matches.name.key) (body_fact matches.value.body) in
      let ts : List NestedValue = nested_values 1 2 matches.value.nested in
      let was_read = top_read mentioned r.body matches reading.represents.shaped reading.is_open in
      let one =
      faults (next_nesting s t) ts (st.first_key + st.keys)
      (nested_next mentioned r.body matches reading.represents.shaped reading.is_open)
      (ms ++ all_nested_mentions s (t ∷ [])) r.tables (was_read.represents ms r.tables reading.represents) in
      let more : List Mention = all_nested_mentions (next_nesting s t) ts in
      let whole : all_nested_mentions s (t ∷ []) ++ (more ++ []) ≡ statement_mentions r (marks.keyval mentioned) =
      ap (λ w. all_nested_mentions s (t ∷ []) ++ w) (append-nil more) ∙ sym (all_nested_mentions-append s (t ∷ []) ts)
      ∙ keyval_nested-mentions r.body matches.name matches.value ∙ ap (map (below r.body)) (sym matches.mentions) in
      record {
        within = length (marks.marks (all_nested_mentions s (t ∷ []))) + one.within;
        sum = omega (arith, one.sum, own_marks mentioned r.body matches);
        fault = subst (λ (w : List Mention).
            FaultIn ms w (length (marks.marks (all_nested_mentions s (t ∷ []))) + one.within) why) whole
            (fault_within ms (all_nested_mentions s (t ∷ [])) more [] one.within why one.fault);
      }

  pub nested_breaks_as_matched : (g : DefineFault)
      → FaultMeets g (NestedValuesFault bytes f number (number + 1) mid (body ∷ top ∷ []))
      → FaultMeets g (BreaksAsMatched bytes f st old body)
  nested_breaks_as_matched g faults =
      meets_weaker g (NestedValuesFault bytes f number (number + 1) mid (body ∷ top ∷ []))
      (BreaksAsMatched bytes f st old body) (λ at why fault s matches. mentions_break at why fault s matches) faults
    where
      mentions_break : (at : ℕ) (why : Why) → NestedValuesFault bytes f number (number + 1) mid (body ∷ top ∷ []) at why
          → BreaksAsMatched bytes f st old body at why
      mentions_break at why fault (marks.header ks) matches =
          absurd (let no : None ≡ Some number = sym matches.1 ∙ valued in cc)
      mentions_break at why fault (marks.element_header ks) matches =
          absurd (let no : None ≡ Some number = sym matches.1 ∙ valued in cc)
      mentions_break at why fault (marks.keyval mentioned) matches = nested_breaks at why fault mentioned matches

-- ---- a fault in its own keys

module _ (bytes : List ℕ) (f : Flat) (st : Statement) (old : TrieInfos) (body number : ℕ) (keys : List (List ℕ))
    (texts : keys ≡ keys_in bytes f.keys st.first_key st.keys) (valued : st.value ≡ Some number) where
  keys_break : (at : ℕ) (why : Why) → KeyedFaults old.trie body st.first_key keys at why
      → BreaksAsMatched bytes f st old body at why
  keys_break at why faults (marks.header ks) matches =
      absurd (let no : None ≡ Some number = sym matches.1 ∙ valued in cc)
  keys_break at why faults (marks.element_header ks) matches =
      absurd (let no : None ≡ Some number = sym matches.1 ∙ valued in cc)
  keys_break at why faults (marks.keyval mentioned) matches = λ ms r reading.
      let s : NestingState = body_nesting r.body in
      let fact : Fact = body_fact matches.value.body in
      let t : NestedValue = nested_keyed 0 (keys_of matches.name.key) fact in
      let one : FaultFrom ms (nested_mentions s t) st.first_key at why =
      subst (λ (x : List (List ℕ)). FaultFrom ms (nested_mentions s (nested_keyed 0 x fact)) st.first_key at why)
      (texts ∙ matches.keys.keys) (faults s 0 fact reading.is_open.here ms r.tables reading.represents) in
      let whole : all_nested_mentions s (keyval_nested matches.name matches.value)
      ≡ statement_mentions r (marks.keyval mentioned) =
      keyval_nested-mentions r.body matches.name matches.value ∙ ap (map (below r.body)) (sym matches.mentions) in
      subst (λ (w : List Mention). FaultFrom ms w st.first_key at why) whole
      (fault_from_more ms (nested_mentions s t)
      (all_nested_mentions (next_nesting s t) (nested_values 1 2 matches.value.nested)) st.first_key at why one)

  pub keys_break_as_matched : (g : DefineFault) → FaultMeets g (KeyedFaults old.trie body st.first_key keys)
      → FaultMeets g (BreaksAsMatched bytes f st old body)
  keys_break_as_matched g faults =
      meets_weaker g (KeyedFaults old.trie body st.first_key keys) (BreaksAsMatched bytes f st old body)
      (λ at why fault s matches. keys_break at why fault s matches) faults

-- the nodes of the body and of the keyval's own value
pub two_ids : (a b c : List ℕ) (body top : ℕ) → a ≡ [] → b ≡ a ++ body ∷ [] → c ≡ b ++ top ∷ [] → c ≡ body ∷ top ∷ []
two_ids a b c body top none one two = two ∙ ap (λ l. l ++ top ∷ []) (one ∙ ap (λ l. l ++ body ∷ []) none)
