-- A document, statement by statement.
--
-- The statements of the flat list are those of the document, by number (`mentions_at`). While they are read, the nodes
-- represent the statements before the next one and have the facts from them (`IsReadUpTo`). This holds of the root
-- alone (`begin_read`) and still holds after one statement more (`read_next`): the facts of a statement are added after
-- those of the earlier ones. Since the earlier statements obey the rules, the fault of a statement that is refused is
-- the first of the document. After the last statement the nodes and their facts are those of the document.
--
-- Theorems: `whole_read`: the nodes are the document's index; `break_refused`: a refusal is at its first fault.
use Rattle.std.proofs.Common.{◌≡◌, ℕ, ◌+◌, ◌^◌, ◌<◌, ◌≤◌, List, [], ◌∷◌, ◌++◌, length, get_or, take, drop, slice_get}
use Rattle.std.proofs.Common.{sym, ◌∙◌, ap, subst, arith, Some}
use Rattle.std.proofs.lemmas.List.{append-nil, length-map, take_all, take_more, take-append-drop, drop_more}
use Rattle.std.proofs.lemmas.Option.{slice_get_within, slice_get-get_or}
use Rattle.keep_syntax.specs.declared.fault.ReadFault.{ReadFault}
use Rattle.keep_syntax.specs.declared.fault.Why.{Why}
use Rattle.keep_types.specs.declared.syntax.KeyPart.{KeyPart}
use Rattle.keep_types.specs.declared.syntax.Statement.{Statement}
use Rattle.keep_types.specs.declared.syntax.ValueInfo.{ValueInfo}
use Rattle.keep_syntax.specs.declared.syntax.Syntax.{Syntax}
use Rattle.keep_syntax.specs.Contract.{statements_of}
use Rattle.keep_syntax_store.specs.Flat.{Flat}
use Rattle.keep_syntax.specs.Numbered as syntax
use Rattle.keep_syntax.specs.Tree.{Document}
use Rattle.keep_rules.specs.declared.definitions.DefineFault.{DefineFault}
use Rattle.keep_path.specs.Path.{Part}
use Rattle.keep_meaning.specs.Rules.{ObeysRules, IsFirstFaulty}
use Rattle.keep_meaning.specs.Marks as marks
use Rattle.keep_meaning.specs.Marks.{Mention, Reading, statement_mentions, next_reading, mentions, mentions_from}
use Rattle.keep_meaning.specs.Marks.{reading_after, start}
use Rattle.keep_meaning.specs.Meaning.{mentions_in}
use Rattle.keep_meaning.specs.Counts.{Count, Numbered, numbered_mentions, numbered_from, count_from, no_count}
use Rattle.keep_meaning.specs.Counts.{statements_in, numbered_in}
use Rattle.keep_meaning.specs.Nodes.{node_path, nodes_in, infos_in}
use Rattle.keep_index_store.specs.Trie.{TrieNode, by_key}
use Rattle.keep_index_store.specs.Tree.{TrieInfos, IsRoot, node_infos}
use Rattle.keep_path.specs.NodeInfos.{NodeInfos, root_infos}
use Rattle.keep_rules.specs.MentionInfos.{with_mentions, ValuesAreNew}
use Rattle.keep_rules.specs.AddedInfos.{AddsValue}
use Rattle.keep_rules.specs.Reads.{IsReading}
use Rattle.keep_rules.specs.DefineFaults.{FaultMeets}
use Rattle.keep_rules.specs.FlatStatements.{MatchesStatement, IsCountBefore}
use Rattle.keep_rules.specs.ReadStatements.{IsRead, IsReadAsMatched, BreaksAsMatched}
use Rattle.keep_rules.specs.ReadDocuments.{WasRead, IsIndexOf, IsRefusal, IsFaultAt}
use Rattle.keep_meaning.proofs.Shared.{nodes_few, mentions_in-statements, paths-nodes_in, count_from-keys}
use Rattle.keep_meaning.proofs.Shared.{numbered_from-append, statements-count, marked-parts}
use Rattle.keep_rules.specs.Nested.{AreNested}
use Rattle.keep_index_store.proofs.Shared.{first}
use Rattle.keep_rules.proofs.NestedLemmas.{nested_represents}
use Rattle.keep_rules.proofs.FlatCountLemmas.{document_counts}
use Rattle.keep_rules.proofs.FlatLineLemmas.{document_matches}
use Rattle.keep_rules.proofs.BuildLemmas.{meets_weaker}
use Rattle.keep_rules.proofs.ReadLemmas.{IsReadTo, read_more, read_obeys, root_reads, mentions_from-append}
use Rattle.keep_rules.proofs.RootLemmas.{first_low, fault_placed}
use Rattle.keep_rules.proofs.StopLemmas.{fault_is_first}
use Rattle.keep_rules.proofs.AllInfoLemmas.{values_new_in}
use Rattle.keep_rules.proofs.MentionInfoLemmas.{with_mentions-append, values_new-append}
use Rattle.keep_rules.proofs.NestedReadLemmas.{with_mentions-paths}

-- the statements of the document before that number
abbrev pub before : Document → ℕ → List marks.Statement
before d number = take number (statements_in d)

abbrev pub numbered_before : Document → ℕ → List Numbered
numbered_before d number = numbered_from no_count start (before d number)

-- The nodes represent so many statements of the document, and have the facts from these.
pub record IsReadUpTo (d : Document) (nodes : TrieInfos) (body number : ℕ) : Type 0 where
  pub reading : IsReadTo nodes.trie body (before d number)
  pub facts : node_infos nodes ≡ with_mentions root_infos (numbered_before d number)
  pub fresh : ValuesAreNew ([] ∷ []) (numbered_before d number)

pub begin_read : (d : Document) (nodes : TrieInfos) → IsRoot by_key nodes → IsReadUpTo d nodes 0 0
begin_read d nodes root = record {
  reading =
      subst (λ (ts : List TrieNode). IsReading ts 0 [] start) (sym root.alone)
      (root_reads root.root root.state root.holds);
  facts = root.facts;
  fresh = tt;
}

-- the statement with that number
abbrev pub statement_at : Document → ℕ → marks.Statement
statement_at d number = get_or (statements_in d) number (marks.keyval [])

one_numbered : (c : Count) (r : Reading) (s : marks.Statement)
    → numbered_from c r (s ∷ []) ≡ numbered_mentions c (statement_mentions r s)
one_numbered c r s = append-nil (numbered_mentions c (statement_mentions r s))

module _ (bytes : List ℕ) (s : Syntax) (d : Document) (was : WasRead bytes s d) (f : Flat)
    (keys : f.keys ≡ syntax.parts d) (values : f.values ≡ syntax.values d) (number : ℕ) (st : Statement)
    (here : slice_get (statements_of s) number ≡ Some st) where
  listed : slice_get (syntax.statements d) number ≡ Some st
  listed = ap (λ sts. slice_get sts number) (sym was.is.statements) ∙ here

  there : number < length (statements_in d)
  there = omega (arith, slice_get_within (syntax.statements d) number st listed, statements-count d)

  next_before : before d (number + 1) ≡ before d number ++ statement_at d number ∷ []
  next_before = take_more (statements_in d) number (marks.keyval []) there

  -- it is the next statement
  pub mentions_at : MatchesStatement bytes f.keys f.values st (statement_at d number)
  mentions_at =
      subst (λ (ks : List KeyPart). MatchesStatement bytes ks f.values st (statement_at d number)) (sym keys)
      (subst (λ (vs : List ValueInfo). MatchesStatement bytes (syntax.parts d) vs st (statement_at d number))
      (sym values)
      (document_matches bytes was.profile d was.reads.valid was.reads.spelled number st (statement_at d number) listed
      (slice_get-get_or (statements_in d) number (marks.keyval []) there)))

  next_numbered : numbered_before d (number + 1) ≡ numbered_before d number
      ++ numbered_mentions (count_from no_count start (before d number))
      (statement_mentions (reading_after start (before d number)) (statement_at d number))
  next_numbered =
      ap (numbered_from no_count start) next_before
      ∙ numbered_from-append no_count start (before d number) (statement_at d number ∷ [])
      ∙ ap (λ ns. numbered_before d number ++ ns)
      (one_numbered (count_from no_count start (before d number)) (reading_after start (before d number))
      (statement_at d number))

  -- one statement more
  pub read_next : (old new : TrieInfos) (body to : ℕ) → IsReadUpTo d old body number
      → IsReadAsMatched bytes f number st old body new to → IsReadUpTo d new to (number + 1)
  read_next old new body to up read =
      let next : marks.Statement = statement_at d number in
      let c : Count = count_from no_count start (before d number) in
      let r : Reading = reading_after start (before d number) in
      let more : List Numbered = numbered_mentions c (statement_mentions r next) in
      let one : IsRead number st old body new to next = read next mentions_at in
      let added : AddsValue old new c (statement_mentions r next) =
      one.joined (mentions_from start (before d number)) r up.reading c (document_counts d number st listed) in
      record {
        reading =
            subst (λ (ss : List marks.Statement). IsReadTo new.trie to ss) (sym next_before)
            (read_more old.trie new.trie body to (before d number) next up.reading one.reads);
        facts = added.joined
            ∙ ap (λ t. with_mentions t more) up.facts
            ∙ sym (with_mentions-append root_infos (numbered_before d number) more)
            ∙ ap (with_mentions root_infos) (sym next_numbered);
        fresh = subst (ValuesAreNew ([] ∷ [])) (sym next_numbered)
            (values_new-append ([] ∷ []) (numbered_before d number) more up.fresh
            (subst (λ (ps : List (List Part)). ValuesAreNew ps more)
            (ap (λ t. t.paths) up.facts ∙ with_mentions-paths root_infos (numbered_before d number)) added.fresh));
      }

  -- a fault in it is the document's first
  break_first : (old : TrieInfos) (body at : ℕ) (why : Why) → IsReadUpTo d old body number
      → BreaksAsMatched bytes f st old body at why → IsFirstFaulty (marks.marks (mentions_in d)) at why
  break_first old body at why up breaks =
      let next : marks.Statement = statement_at d number in
      let r : Reading = reading_after start (before d number) in
      let ms : List Mention = mentions_from start (before d number) in
      let rest : List marks.Statement = drop (number + 1) (statements_in d) in
      let later : List Mention = mentions_from (next_reading r next) rest in
      let one = breaks next mentions_at ms r up.reading in
      let counted : IsCountBefore number st (count_from no_count start (before d number)) =
      document_counts d number st listed in
      let whole : statements_in d ≡ before d number ++ next ∷ rest =
      sym (take-append-drop number (statements_in d))
      ∙ ap (λ ss. before d number ++ ss) (drop_more (statements_in d) number (marks.keyval []) there) in
      let mentioned : mentions_in d ≡ ms ++ (statement_mentions r next ++ later) =
      mentions_in-statements d ∙ ap mentions whole ∙ mentions_from-append start (before d number) (next ∷ rest) in
      let place : length (marks.marks ms) + one.within ≡ at =
      omega (arith, one.sum, counted.keys, count_from-keys no_count start (before d number)) in
      subst (λ (l : List Mention). IsFirstFaulty (marks.marks l) at why) (sym mentioned)
      (subst (λ (n : ℕ). IsFirstFaulty (marks.marks (ms ++ (statement_mentions r next ++ later))) n why) place
      (fault_is_first ms (statement_mentions r next) later one.within why one.fault))

  pub break_within : (old : TrieInfos) (body : ℕ) (g : DefineFault) → IsReadUpTo d old body number
      → FaultMeets g (BreaksAsMatched bytes f st old body) → FaultMeets g (λ n w. n < length f.keys)
  break_within old body g up meets =
      meets_weaker g (BreaksAsMatched bytes f st old body) (λ n w. n < length f.keys)
      (λ n w breaks. let low = first_low (marks.marks (mentions_in d)) n w (break_first old body n w up breaks) in
      omega (arith, low, marked-parts d, ap length keys)) meets

  pub break_refused : (old : TrieInfos) (body : ℕ) (g : DefineFault) (r : ReadFault) → IsReadUpTo d old body number
      → IsFaultAt f.keys g r → FaultMeets g (BreaksAsMatched bytes f st old body) → IsRefusal d r
  break_refused old body g r up at meets =
      fault_placed (syntax.parts d) (marks.marks (mentions_in d)) (IsRefusal d) g r
      (subst (λ (ks : List KeyPart). IsFaultAt ks g r) keys at)
      (meets_weaker g (BreaksAsMatched bytes f st old body) (λ n w. IsFirstFaulty (marks.marks (mentions_in d)) n w)
      (λ n w breaks. break_first old body n w up breaks) meets) (λ place why fault. fault) tt

-- ---- all statements

pub whole_read : (d : Document) (nodes : TrieInfos) (body number : ℕ) → length (syntax.statements d) ≤ number
    → length (syntax.parts d) < 2 ^ 64 → IsReadUpTo d nodes body number → IsIndexOf d (node_infos nodes)
whole_read d nodes body number past few up =
    let all : before d number ≡ statements_in d =
    take_all number (statements_in d) (omega (arith, past, statements-count d)) in
    let fresh : ValuesAreNew ([] ∷ []) (numbered_in d) =
    subst (λ (ss : List marks.Statement). ValuesAreNew ([] ∷ []) (numbered_from no_count start ss)) all up.fresh in
    let mentioned : mentions_from start (before d number) ≡ mentions_in d =
    ap mentions all ∙ sym (mentions_in-statements d) in
    let nested : AreNested (mentions_from start (before d number)) (reading_after start (before d number)).tables =
    nested_represents nodes.trie (mentions_from start (before d number)) (reading_after start (before d number)).tables
    up.reading.represents (first nodes.trie up.reading.represents.index.trie) in
    record {
      nested = subst (λ (ms : List Mention). AreNested ms (reading_after start (statements_in d)).tables) mentioned
          (subst (λ (ss : List marks.Statement).
          AreNested (mentions_from start (before d number)) (reading_after start ss).tables) all nested);
      obeys = subst (λ (ms : List Mention). ObeysRules (marks.marks ms))
          (ap mentions all ∙ sym (mentions_in-statements d)) (read_obeys nodes.trie body (before d number) up.reading);
      facts = up.facts ∙ ap (λ ss. with_mentions root_infos (numbered_from no_count start ss)) all
          ∙ values_new_in d (omega (arith, few, marked-parts d)) fresh
          ∙ ap (λ ps. let t : NodeInfos = record { paths = ps; infos = infos_in d } in t) (sym (paths-nodes_in d));
    }

-- there are at most as many nodes as bytes and one
pub index_few : (bytes : List ℕ) (s : Syntax) (d : Document) (t : NodeInfos) → WasRead bytes s d → IsIndexOf d t
    → length t.paths ≤ length bytes + 1
index_few bytes s d t was is =
    omega (
      arith,
      ap (λ u. length u.paths) is.facts,
      length-map (nodes_in d) node_path,
      nodes_few was.profile d was.reads.valid,
      ap length was.reads.spelled,
    )
