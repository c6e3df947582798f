-- Where a mark is refused, it is the first faulty one.
--
-- The mentions before a refused mark are represented by nodes, so their marks obey the rules, and the refused mark is
-- the first faulty one (`one_fault`). A fault is counted from the first mention of what is read: with more mentions
-- before it the count grows by their marks, and mentions after it change nothing (`fault_within`, `fault_more`). So the
-- fault of one key part is that of its key, of its header or value, and of the document. A key part is either a leading
-- one, which the others follow (`walk_fault`, `dots_fault`), or the last.
--
-- Theorems: `fault_is_first`; of headers `header_faults`, `element_faults`; of values `keyed_walk_fault`,
-- `keyed_fault`.
use Rattle.std.proofs.Common.{◌≡◌, ℕ, ◌+◌, List, [], ◌∷◌, ◌++◌, length, map, refl, sym, ◌∙◌, ap, subst, arith}
use Rattle.std.proofs.Common.{length-append, Some}
use Rattle.std.specs.List.{cons_option}
use Rattle.std.proofs.lemmas.List.{append_assoc, append-nil}
use Rattle.std.proofs.lemmas.List.Elements.{filter_map-append}
use Rattle.keep_syntax.specs.declared.fault.Why.{Why}
use Rattle.keep_syntax.specs.declared.fault.Why.TheVariants.{NotATable, DefinedTwice, NotAnArray, NotByDots}
use Rattle.keep_syntax.specs.declared.fault.Why.TheVariants.{DuplicateKey}
use Rattle.keep_types.specs.declared.role.Role.{Role}
use Rattle.keep_types.specs.declared.role.Role.TheVariants.{Through, Define, Element, Dotted, Value}
use Rattle.keep_meaning.specs.Fact.{Fact}
use Rattle.keep_path.specs.Path.{Part, key, index}
use Rattle.keep_meaning.specs.Rules.{Mark, ObeysRules, IsRefused, IsFirstFaulty, why_of}
use Rattle.keep_meaning.specs.Marks as marks
use Rattle.keep_meaning.specs.Marks.{Mention, MentionKind, role_of, with_path, mark_of, elements_of, entered_path}
use Rattle.keep_meaning.specs.Marks.{header, element_header}
use Rattle.keep_index_store.specs.Trie.{TrieNode, path_at}
use Rattle.keep_rules.specs.Represents.{Represents, WasRefused, HasNoElement, FaultIn, FaultFrom}
use Rattle.keep_rules.specs.Descents.{descent_path, descent_mentions, dotted_mentions}
use Rattle.keep_rules.specs.Steps.{HeaderDescent, DottedDescent}
use Rattle.keep_rules.specs.NestedValues.{nested_keyed, NestingState, path_of_value, nested_mentions}
use Rattle.keep_rules.specs.Reads.{FaultsIn}
use Rattle.keep_rules.proofs.PassLemmas.{passing-none}
use Rattle.keep_rules.proofs.KeyWalkLemmas.{descent_mentions-append, header_prefixes-split, header_path-split}
use Rattle.keep_rules.proofs.KeyWalkLemmas.{marks-descent_mentions, dotted_mentions-append, marks-dotted_mentions}
use Rattle.keep_rules.proofs.NextValueLemmas.{keyed_mentions_are}

-- a refused mark, after others in order
pub one_fault : (nodes : List TrieNode) (path : List Part) (role : Role) (mention_kind : MentionKind)
    (ms leading rest : List Mention) (ts : List (List Part)) (n : ℕ)
    → Represents nodes (ms ++ leading) ts → WasRefused nodes path role → role_of mention_kind ≡ Some role
    → length (marks.marks leading) ≡ n
    → FaultIn ms (leading ++ record { path = path; kind = mention_kind } ∷ rest) n (why_of role)
one_fault nodes path role mention_kind ms leading rest ts n represents was is counted = record {
  done = leading;
  faulty = record { path = path; kind = mention_kind };
  rest = rest;
  here = refl;
  role = role;
  is = is;
  count = counted;
  obeys = represents.index.states_represent.obeys;
  refused = was (ms ++ leading) represents.index;
  reason = refl;
}

-- the same fault, with more mentions before and after
pub fault_within : (ms before more rest : List Mention) (n : ℕ) (why : Why) → FaultIn (ms ++ before) more n why
    → FaultIn ms (before ++ (more ++ rest)) (length (marks.marks before) + n) why
fault_within ms before more rest n why f =
    let joined : (ms ++ before) ++ f.done ≡ ms ++ (before ++ f.done) = append_assoc ms before f.done in
    record {
      done = before ++ f.done;
      faulty = f.faulty;
      rest = f.rest ++ rest;
      here = ap (λ w. before ++ (w ++ rest)) f.here
          ∙ ap (λ w. before ++ w) (append_assoc f.done (f.faulty ∷ f.rest) rest)
          ∙ sym (append_assoc before f.done (f.faulty ∷ (f.rest ++ rest)));
      role = f.role;
      is = f.is;
      count = ap length (filter_map-append mark_of before f.done)
          ∙ length-append (marks.marks before) (marks.marks f.done) ∙ ap (λ c. length (marks.marks before) + c) f.count;
      obeys = subst (λ (w : List Mention). ObeysRules (marks.marks w)) joined f.obeys;
      refused =
          subst (λ (w : List Mention). IsRefused (marks.marks w) (record { role = f.role; path = f.faulty.path }))
          joined f.refused;
      reason = f.reason;
    }

pub fault_more : (ms more rest : List Mention) (n : ℕ) (why : Why) → FaultIn ms more n why
    → FaultIn ms (more ++ rest) n why
fault_more ms more rest n why f =
    subst (λ (k : ℕ). FaultIn ms (more ++ rest) k why) (let e : 0 + n ≡ n = omega arith in e)
    (fault_within ms [] more rest n why (subst (λ (w : List Mention). FaultIn w more n why) (sym (append-nil ms)) f))

-- a fault is the key part with this number of the mentions' own, after so many key parts
pub fault_from : {ms more : List Mention} {n : ℕ} {why : Why} (first : ℕ) → FaultIn ms more n why
    → FaultFrom ms more first (first + n) why
fault_from first f = record { within = _; sum = refl; fault = f }

pub fault_from_more : (ms more rest : List Mention) (first n : ℕ) (why : Why) → FaultFrom ms more first n why
    → FaultFrom ms (more ++ rest) first n why
fault_from_more ms more rest first n why f =
    record { within = f.within; sum = f.sum; fault = fault_more ms more rest f.within why f.fault }

-- a fault in one statement is the first of the document, whatever follows
pub fault_is_first : (ms more later : List Mention) (number : ℕ) (why : Why) → FaultIn ms more number why
    → IsFirstFaulty (marks.marks (ms ++ (more ++ later))) (length (marks.marks ms) + number) why
fault_is_first ms more later number why fault =
    let m : Mark = record { role = fault.role; path = fault.faulty.path } in
    let whole : ms ++ (more ++ later) ≡ (ms ++ fault.done) ++ (fault.faulty ∷ (fault.rest ++ later)) =
    ap (λ w. ms ++ (w ++ later)) fault.here
    ∙ ap (λ w. ms ++ w) (append_assoc fault.done (fault.faulty ∷ fault.rest) later)
    ∙ sym (append_assoc ms fault.done (fault.faulty ∷ (fault.rest ++ later))) in
    record {
      before = marks.marks (ms ++ fault.done);
      mark = m;
      after = marks.marks (fault.rest ++ later);
      here = ap marks.marks whole ∙ filter_map-append mark_of (ms ++ fault.done) (fault.faulty ∷ (fault.rest ++ later))
          ∙ ap (λ o.
          marks.marks (ms ++ fault.done)
          ++ cons_option (with_path fault.faulty.path o) (marks.marks (fault.rest ++ later))) fault.is;
      number =
          ap length (filter_map-append mark_of ms fault.done) ∙ length-append (marks.marks ms) (marks.marks fault.done)
          ∙ ap (λ c. length (marks.marks ms) + c) fault.count;
      obeys = fault.obeys;
      refused = fault.refused;
      reason = fault.reason;
    }

-- ---- headers

-- a leading key
pub walk_fault : (old mid : List TrieNode) (at : ℕ) (ks : List (List ℕ)) (k : List ℕ) (rest : List (List ℕ))
    → HeaderDescent old mid at ks
    → WasRefused mid (path_at mid at ++ key k ∷ []) Through → HasNoElement mid (path_at mid at ++ key k ∷ [])
    → (ms : List Mention) (ts : List (List Part)) → Represents old ms ts
    → FaultIn ms (descent_mentions ts [] (ks ++ k ∷ rest)) (length ks) NotATable
walk_fault old mid at ks k rest walked was plain ms ts represents =
    let p : List Part = descent_path ts [] ks ++ key k ∷ [] in
    let full : path_at mid at ++ key k ∷ [] ≡ p = ap (λ q. q ++ key k ∷ []) (walked.is_open ms ts represents).here in
    let there = walked.represents ms ts represents in
    let zero : elements_of p ts ≡ 0 = ap (λ q. elements_of q ts) (sym full) ∙ plain ts there.tables_are there.begun in
    let whole : descent_mentions ts [] (ks ++ k ∷ rest) ≡ descent_mentions ts [] ks
    ++ record { path = p; kind = marks.through } ∷ descent_mentions ts (entered_path ts p) rest =
    descent_mentions-append ts [] ks (k ∷ rest)
    ∙ ap (λ w. descent_mentions ts [] ks ++ (w ++ descent_mentions ts (entered_path ts p) rest))
    (passing-none ts p zero) in
    subst (λ (w : List Mention). FaultIn ms w (length ks) NotATable) (sym whole)
    (one_fault mid p Through marks.through ms (descent_mentions ts [] ks) (descent_mentions ts (entered_path ts p) rest)
    ts (length ks) there (subst (λ (q : List Part). WasRefused mid q Through) full was) refl
    (marks-descent_mentions ts [] ks))

-- where a leading key is at fault, the header is
header_whole : (ts : List (List Part)) (leading : List (List ℕ)) (last : List ℕ)
    → marks.header_prefixes ts [] (leading ++ last ∷ [])
    ++ record { path = marks.header_path ts [] (leading ++ last ∷ []); kind = marks.define } ∷ []
    ≡ descent_mentions ts [] leading
    ++ record { path = descent_path ts [] leading ++ key last ∷ []; kind = marks.define } ∷ []
header_whole ts leading last =
    ap (λ w. w ++ record { path = marks.header_path ts [] (leading ++ last ∷ []); kind = marks.define } ∷ [])
    (header_prefixes-split ts [] leading last)
    ∙ ap (λ p. descent_mentions ts [] leading ++ record { path = p; kind = marks.define } ∷ [])
    (header_path-split ts [] leading last)

element_whole : (ts : List (List Part)) (leading : List (List ℕ)) (last : List ℕ)
    → marks.statement_mentions (record { tables = ts; body = [] }) (element_header (leading ++ last ∷ []))
    ≡ descent_mentions ts [] leading
    ++ record { path = descent_path ts [] leading ++ key last ∷ []; kind = marks.element }
    ∷ record {
      path = (descent_path ts [] leading ++ key last ∷ [])
          ++ index (elements_of (descent_path ts [] leading ++ key last ∷ []) ts) ∷ [];
      kind = marks.begun;
    } ∷ []
element_whole ts leading last =
    ap (λ w.
    w ++ record { path = marks.header_path ts [] (leading ++ last ∷ []); kind = marks.element }
    ∷ record {
      path = marks.header_path ts [] (leading ++ last ∷ [])
          ++ index (elements_of (marks.header_path ts [] (leading ++ last ∷ [])) ts) ∷ [];
      kind = marks.begun;
    } ∷ []) (header_prefixes-split ts [] leading last)
    ∙ ap (λ p.
    descent_mentions ts [] leading ++ record { path = p; kind = marks.element }
    ∷ record { path = p ++ index (elements_of p ts) ∷ []; kind = marks.begun } ∷ [])
    (header_path-split ts [] leading last)

pub header_walk_faults : (old : List TrieNode) (leading : List (List ℕ)) (last : List ℕ) (first n : ℕ) (why : Why)
    → ((ms : List Mention) (ts : List (List Part)) → Represents old ms ts
    → FaultFrom ms (descent_mentions ts [] leading) first n why) → (body : ℕ)
    → FaultsIn old body (header (leading ++ last ∷ [])) first n why
header_walk_faults old leading last first n why faults body ms r reading =
    subst (λ (w : List Mention). FaultFrom ms w first n why) (sym (header_whole r.tables leading last))
    (fault_from_more ms (descent_mentions r.tables [] leading) _ first n why (faults ms r.tables reading.represents))

pub element_walk_faults : (old : List TrieNode) (leading : List (List ℕ)) (last : List ℕ) (first n : ℕ) (why : Why)
    → ((ms : List Mention) (ts : List (List Part)) → Represents old ms ts
    → FaultFrom ms (descent_mentions ts [] leading) first n why) → (body : ℕ)
    → FaultsIn old body (element_header (leading ++ last ∷ [])) first n why
element_walk_faults old leading last first n why faults body ms r reading =
    subst (λ (w : List Mention). FaultFrom ms w first n why) (sym (element_whole r.tables leading last))
    (fault_from_more ms (descent_mentions r.tables [] leading) _ first n why (faults ms r.tables reading.represents))

-- the last key
pub header_faults : (old mid : List TrieNode) (at first : ℕ) (leading : List (List ℕ)) (last : List ℕ)
    → HeaderDescent old mid at leading → WasRefused mid (path_at mid at ++ key last ∷ []) Define
    → (body : ℕ) → FaultsIn old body (header (leading ++ last ∷ [])) first (first + length leading) DefinedTwice
header_faults old mid at first leading last walked was body ms r reading =
    let full : path_at mid at ++ key last ∷ [] ≡ descent_path r.tables [] leading ++ key last ∷ [] =
    ap (λ q. q ++ key last ∷ []) (walked.is_open ms r.tables reading.represents).here in
    fault_from first (subst (λ (w : List Mention). FaultIn ms w (length leading) DefinedTwice)
    (sym (header_whole r.tables leading last))
    (one_fault mid (descent_path r.tables [] leading ++ key last ∷ []) Define marks.define ms
    (descent_mentions r.tables [] leading) [] r.tables (length leading)
    (walked.represents ms r.tables reading.represents)
    (subst (λ (q : List Part). WasRefused mid q Define) full was) refl (marks-descent_mentions r.tables [] leading)))

pub element_faults : (old mid : List TrieNode) (at first : ℕ) (leading : List (List ℕ)) (last : List ℕ)
    → HeaderDescent old mid at leading → WasRefused mid (path_at mid at ++ key last ∷ []) Element
    → (body : ℕ) → FaultsIn old body (element_header (leading ++ last ∷ [])) first (first + length leading) NotAnArray
element_faults old mid at first leading last walked was body ms r reading =
    let full : path_at mid at ++ key last ∷ [] ≡ descent_path r.tables [] leading ++ key last ∷ [] =
    ap (λ q. q ++ key last ∷ []) (walked.is_open ms r.tables reading.represents).here in
    fault_from first (subst (λ (w : List Mention). FaultIn ms w (length leading) NotAnArray)
    (sym (element_whole r.tables leading last))
    (one_fault mid (descent_path r.tables [] leading ++ key last ∷ []) Element marks.element ms
    (descent_mentions r.tables [] leading) _ r.tables (length leading)
    (walked.represents ms r.tables reading.represents)
    (subst (λ (q : List Part). WasRefused mid q Element) full was) refl (marks-descent_mentions r.tables [] leading)))

-- ---- values with keys

pub dots_fault : (old mid : List TrieNode) (at by : ℕ) (ks : List (List ℕ)) (k : List ℕ) (rest : List (List ℕ))
    → DottedDescent old mid at by ks → WasRefused mid (path_at mid by ++ key k ∷ []) Dotted
    → (ms : List Mention) (ts : List (List Part)) → Represents old ms ts
    → FaultIn ms (dotted_mentions (path_at old at) (ks ++ k ∷ rest)) (length ks) NotByDots
dots_fault old mid at by ks k rest dots was ms ts represents =
    let p : List Part = path_at old at in
    let q : List Part = (p ++ map key ks) ++ key k ∷ [] in
    let full : path_at mid by ++ key k ∷ [] ≡ q = ap (λ r. r ++ key k ∷ []) dots.is_open.here in
    subst (λ (w : List Mention). FaultIn ms w (length ks) NotByDots) (sym (dotted_mentions-append p ks (k ∷ rest)))
    (one_fault mid q Dotted marks.dotted ms (dotted_mentions p ks) (dotted_mentions q rest) ts (length ks)
    (dots.represents ms ts represents) (subst (λ (r : List Part). WasRefused mid r Dotted) full was) refl
    (marks-dotted_mentions p ks))

-- a fault in the leading keys of a value in the nodes so far
pub keyed_walk_fault : (old : List TrieNode) (ids : List ℕ) (s : NestingState) (o at : ℕ) (leading : List (List ℕ))
    (last : List ℕ) (f : Fact) (first n : ℕ) (why : Why) → path_at old at ≡ path_of_value s o
    → ((ms : List Mention) (ts : List (List Part)) → Represents old ms ts
    → FaultFrom ms (dotted_mentions (path_at old at) leading) first n why)
    → (ms : List Mention) (ts : List (List Part)) → Represents old ms ts
    → FaultFrom ms (nested_mentions s (nested_keyed o (leading ++ last ∷ []) f)) first n why
keyed_walk_fault old ids s o at leading last f first n why here faults ms ts represents =
    let mentioned : nested_mentions s (nested_keyed o (leading ++ last ∷ []) f)
    ≡ dotted_mentions (path_at old at) leading
    ++ record { path = (path_at old at ++ map key leading) ++ key last ∷ []; kind = marks.value f } ∷ [] =
    keyed_mentions_are (path_of_value s o) leading last f
    ∙ ap (λ p.
    dotted_mentions p leading ++ record { path = (p ++ map key leading) ++ key last ∷ []; kind = marks.value f } ∷ [])
    (sym here) in
    subst (λ (w : List Mention). FaultFrom ms w first n why) (sym mentioned)
    (fault_from_more ms (dotted_mentions (path_at old at) leading) _ first n why (faults ms ts represents))

pub keyed_fault : (old mid : List TrieNode) (s : NestingState) (o at by : ℕ) (leading : List (List ℕ)) (last : List ℕ)
    (f : Fact) → path_at old at ≡ path_of_value s o → DottedDescent old mid at by leading
    → WasRefused mid (path_at mid by ++ key last ∷ []) Value
    → (ms : List Mention) (ts : List (List Part)) → Represents old ms ts
    → FaultIn ms (nested_mentions s (nested_keyed o (leading ++ last ∷ []) f)) (length leading) DuplicateKey
keyed_fault old mid s o at by leading last f here dots was ms ts represents =
    let p : List Part = path_at old at in
    let q : List Part = (p ++ map key leading) ++ key last ∷ [] in
    let full : path_at mid by ++ key last ∷ [] ≡ q = ap (λ r. r ++ key last ∷ []) dots.is_open.here in
    let mentioned : nested_mentions s (nested_keyed o (leading ++ last ∷ []) f) ≡ dotted_mentions p leading
    ++ record { path = q; kind = marks.value f } ∷ [] =
    keyed_mentions_are (path_of_value s o) leading last f
    ∙ ap (λ p.
    dotted_mentions p leading ++ record { path = (p ++ map key leading) ++ key last ∷ []; kind = marks.value f } ∷ [])
    (sym here) in
    subst (λ (w : List Mention). FaultIn ms w (length leading) DuplicateKey) (sym mentioned)
    (one_fault mid q Value (marks.value f) ms (dotted_mentions p leading) [] ts (length leading)
    (dots.represents ms ts represents) (subst (λ (r : List Part). WasRefused mid r Value) full was) refl
    (marks-dotted_mentions p leading))
