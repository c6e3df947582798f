-- Statements and values by their keys: the leading ones, and the last.
--
-- A key is read in two parts: a descent along its leading texts, and then what its last text defines. Here the lemmas
-- about the two parts give those about the whole key, whose texts are both (`texts_split`); its last key part has the
-- number of the first and as many more as there are leading texts (`length-leading_texts`). For a `header` there are
-- four: a leading key part is refused (`header_walk_stops`), the last one is (`header_stops`), all are read
-- (`header_read`), and their facts are added (`header_all_added`). So it is for an `element_header` (`element_read` and
-- the like) and for a value with a key (`keyed_stops` and the like, with `value_given` for the nodes). What follows
-- from a refused key part holds of the fault, and where memory ran out there is nothing to prove (`meets_weaker`,
-- `stops_weaker`).
--
-- Theorems: `header_read`: the nodes after a header; `header_stops`: its last key part, if refused, is the first faulty
-- one; `header_all_added`: the facts that it adds.
use Rattle.std.proofs.Common.{◌≡◌, ℕ, ◌+◌, ◌-◌, ◌<◌, List, [], ◌∷◌, ◌++◌, length, sym, subst}
use Rattle.keep_syntax.specs.declared.fault.Why.{Why}
use Rattle.keep_syntax.specs.declared.fault.Why.TheVariants.{DefinedTwice, NotAnArray, DuplicateKey}
use Rattle.keep_rules.specs.declared.definitions.DefineFault.{DefineFault}
use Rattle.keep_rules.specs.declared.definitions.DefineFault.TheVariants as fault
use Rattle.keep_types.specs.declared.role.Role.{Role}
use Rattle.keep_types.specs.declared.role.Role.TheVariants.{Define, Element, Value}
use Rattle.keep_meaning.specs.Rules.{why_of}
use Rattle.keep_types.specs.declared.node.Kind.{Kind}
use Rattle.keep_types.specs.declared.node.Origin.TheVariants as origin
use Rattle.keep_path.specs.Path.{Part, key}
use Rattle.keep_rules.specs.Keys.{Key, leading_texts, last_text}
use Rattle.keep_meaning.specs.Marks.{Mention, define, header, element_header}
use Rattle.keep_index_store.specs.Facts.{named_info}
use Rattle.keep_index_store.specs.Trie.{TrieNode, Holding, by_key, path_at}
use Rattle.keep_index_store.specs.Tree.{TrieInfos}
use Rattle.keep_rules.specs.Represents.{Represents, IsDefined, Begins, IsRefusedAt, FaultIn, FaultFrom, WasRefused}
use Rattle.keep_rules.specs.Steps.{HeaderDescent, DottedDescent, HasNewValue}
use Rattle.keep_rules.specs.Descents.{descent_mentions, dotted_mentions}
use Rattle.keep_rules.specs.Reads.{Reads, FaultsIn, KeyedFaults}
use Rattle.keep_rules.specs.DefineFaults.{FaultMeets}
use Rattle.keep_rules.specs.NestedValues.{nested_mentions, nested_keyed}
use Rattle.keep_rules.specs.AddedInfos.{AddsInfo, HeaderAdds, DottedAdds, StatementAdds, KeyedAdds, begin_mentions}
use Rattle.keep_rules.proofs.StepLemmas.{gives}
use Rattle.keep_rules.proofs.StopLemmas.{header_faults, header_walk_faults, element_faults, element_walk_faults}
use Rattle.keep_rules.proofs.StopLemmas.{keyed_fault, keyed_walk_fault, fault_from}
use Rattle.keep_rules.proofs.ReadLemmas.{header_reads, element_reads}
use Rattle.keep_rules.proofs.KeyLemmas.{texts_split, length-leading_texts}
use Rattle.keep_rules.proofs.KeyWalkInfoLemmas.{header_adds, header_added, element_added, keyed_added}

-- ---- faults

pub meets_weaker : (f : DefineFault) (P Q : ℕ → Why → Type 0) → ((n : ℕ) (w : Why) → P n w → Q n w) → FaultMeets f P
    → FaultMeets f Q
meets_weaker (fault.Refused n w) P Q h p = h n w p
meets_weaker fault.Memory P Q h p = p

-- what follows where the key of that number stops
pub stops_weaker : (f : DefineFault) (nodes : List TrieNode) (path : List Part) (role : Role) (at : ℕ)
    (P : ℕ → Why → Type 0) → (WasRefused nodes path role → P at (why_of role))
    → FaultMeets f (IsRefusedAt nodes path role at) → FaultMeets f P
stops_weaker (fault.Refused n w) nodes path role at P h stop =
    subst (λ (m : ℕ). P m w) (sym stop.place) (subst (λ (y : Why). P at y) (sym stop.reason) (h stop.refused))
stops_weaker fault.Memory nodes path role at P h stop = tt

module _ (k : Key) (some : 0 < length k.texts) where
  pub header_walk_stops : (old : List TrieNode) (f : DefineFault)
      → FaultMeets f (λ n w. (ms : List Mention) (ts : List (List Part)) → Represents old ms ts
      → FaultFrom ms (descent_mentions ts [] (leading_texts k)) k.first n w)
      → FaultMeets f (λ n w. (body : ℕ) → FaultsIn old body (header k.texts) k.first n w)
  header_walk_stops old f meets =
      meets_weaker f (λ (n : ℕ) (w : Why). (ms : List Mention) (ts : List (List Part)) → Represents old ms ts
      → FaultFrom ms (descent_mentions ts [] (leading_texts k)) k.first n w) _
      (λ n w faults body.
      subst (λ (ks : List (List ℕ)). FaultsIn old body (header ks) k.first n w) (texts_split k some)
      (header_walk_faults old (leading_texts k) (last_text k) k.first n w faults body)) meets

  pub element_walk_stops : (old : List TrieNode) (f : DefineFault)
      → FaultMeets f (λ n w. (ms : List Mention) (ts : List (List Part)) → Represents old ms ts
      → FaultFrom ms (descent_mentions ts [] (leading_texts k)) k.first n w)
      → FaultMeets f (λ n w. (body : ℕ) → FaultsIn old body (element_header k.texts) k.first n w)
  element_walk_stops old f meets =
      meets_weaker f (λ (n : ℕ) (w : Why). (ms : List Mention) (ts : List (List Part)) → Represents old ms ts
      → FaultFrom ms (descent_mentions ts [] (leading_texts k)) k.first n w) _
      (λ n w faults body.
      subst (λ (ks : List (List ℕ)). FaultsIn old body (element_header ks) k.first n w) (texts_split k some)
      (element_walk_faults old (leading_texts k) (last_text k) k.first n w faults body)) meets

  pub keyed_walk_stops : (old : List TrieNode) (from : ℕ) (f : DefineFault)
      → FaultMeets f (λ n w. (ms : List Mention) (ts : List (List Part)) → Represents old ms ts
      → FaultFrom ms (dotted_mentions (path_at old from) (leading_texts k)) k.first n w)
      → FaultMeets f (KeyedFaults old from k.first k.texts)
  keyed_walk_stops old from f meets =
      meets_weaker f (λ (n : ℕ) (w : Why). (ms : List Mention) (ts : List (List Part)) → Represents old ms ts
      → FaultFrom ms (dotted_mentions (path_at old from) (leading_texts k)) k.first n w) _
      (λ n w faults s o f here ms ts represents.
      subst (λ (ks : List (List ℕ)). FaultFrom ms (nested_mentions s (nested_keyed o ks f)) k.first n w)
      (texts_split k some)
      (keyed_walk_fault old [] s o from (leading_texts k) (last_text k) f k.first n w here faults ms ts represents))
      meets

-- ---- the last key

module _ (k : Key) (some : 0 < length k.texts) (text : List ℕ) (is : text ≡ last_text k) where
  pub header_read : (old mid new : List TrieNode) (at to : ℕ) → HeaderDescent old mid at (leading_texts k)
      → IsDefined mid new (path_at mid at ++ key text ∷ []) Define by_key to → (body : ℕ)
      → Reads old body new to (header k.texts)
  header_read old mid new at to walked marked body =
      subst (λ (ks : List (List ℕ)). Reads old body new to (header ks)) (texts_split k some)
      (header_reads old mid new at to (leading_texts k) (last_text k) walked
      (subst (λ (t : List ℕ). IsDefined mid new (path_at mid at ++ key t ∷ []) Define by_key to) is marked) body)

  pub element_read : (old mid new : List TrieNode) (at to : ℕ) → HeaderDescent old mid at (leading_texts k)
      → Begins mid new at to text → (body : ℕ) → Reads old body new to (element_header k.texts)
  element_read old mid new at to walked begun body =
      subst (λ (ks : List (List ℕ)). Reads old body new to (element_header ks)) (texts_split k some)
      (element_reads old mid new at to (leading_texts k) (last_text k) walked
      (subst (λ (t : List ℕ). Begins mid new at to t) is begun) body)

  pub value_given : (old mid new : List TrieNode) (from at to : ℕ) (holds : Holding)
      → DottedDescent old mid from at (leading_texts k)
      → IsDefined mid new (path_at mid at ++ key text ∷ []) Value holds to
      → HasNewValue old new from to (leading_texts k) (last_text k) holds
  value_given old mid new from at to holds gone marked =
      gives old mid new from at to (leading_texts k) (last_text k) holds gone
      (subst (λ (t : List ℕ). IsDefined mid new (path_at mid at ++ key t ∷ []) Value holds to) is marked)

  pub header_stops : (old mid : List TrieNode) (at : ℕ) → HeaderDescent old mid at (leading_texts k)
      → WasRefused mid (path_at mid at ++ key text ∷ []) Define → (body : ℕ)
      → FaultsIn old body (header k.texts) k.first (k.first + (length k.texts - 1)) DefinedTwice
  header_stops old mid at walked was body =
      subst (λ (n : ℕ). FaultsIn old body (header k.texts) k.first (k.first + n) DefinedTwice) (length-leading_texts k)
      (subst (λ (ks : List (List ℕ)).
      FaultsIn old body (header ks) k.first (k.first + length (leading_texts k)) DefinedTwice) (texts_split k some)
      (header_faults old mid at k.first (leading_texts k) (last_text k) walked
      (subst (λ (t : List ℕ). WasRefused mid (path_at mid at ++ key t ∷ []) Define) is was) body))

  pub element_stops : (old mid : List TrieNode) (at : ℕ) → HeaderDescent old mid at (leading_texts k)
      → WasRefused mid (path_at mid at ++ key text ∷ []) Element → (body : ℕ)
      → FaultsIn old body (element_header k.texts) k.first (k.first + (length k.texts - 1)) NotAnArray
  element_stops old mid at walked was body =
      subst (λ (n : ℕ). FaultsIn old body (element_header k.texts) k.first (k.first + n) NotAnArray)
      (length-leading_texts k)
      (subst (λ (ks : List (List ℕ)).
      FaultsIn old body (element_header ks) k.first (k.first + length (leading_texts k)) NotAnArray)
      (texts_split k some)
      (element_faults old mid at k.first (leading_texts k) (last_text k) walked
      (subst (λ (t : List ℕ). WasRefused mid (path_at mid at ++ key t ∷ []) Element) is was) body))

  pub keyed_stops : (old mid : List TrieNode) (from at : ℕ) → DottedDescent old mid from at (leading_texts k)
      → WasRefused mid (path_at mid at ++ key text ∷ []) Value
      → KeyedFaults old from k.first k.texts (k.first + (length k.texts - 1)) DuplicateKey
  keyed_stops old mid from at gone was s o f here ms ts represents =
      fault_from k.first (subst (λ (n : ℕ). FaultIn ms (nested_mentions s (nested_keyed o k.texts f)) n DuplicateKey)
      (length-leading_texts k)
      (subst (λ (ks : List (List ℕ)).
      FaultIn ms (nested_mentions s (nested_keyed o ks f)) (length (leading_texts k)) DuplicateKey) (texts_split k some)
      (keyed_fault old mid s o from at (leading_texts k) (last_text k) f here gone
      (subst (λ (t : List ℕ). WasRefused mid (path_at mid at ++ key t ∷ []) Value) is was) ms ts represents)))

  -- ---- the facts that are added

  -- by the number of the last key
  last_adds : (mid new : TrieInfos) (statement : ℕ) (mentioned : List (List Part) → List Mention)
      → HeaderAdds mid new (k.first + (length k.texts - 1)) statement mentioned
      → HeaderAdds mid new (k.first + length (leading_texts k)) statement mentioned
  last_adds mid new statement mentioned last =
      subst (λ (n : ℕ). HeaderAdds mid new (k.first + n) statement mentioned) (sym (length-leading_texts k)) last

  pub header_all_added : (old mid new : TrieInfos) (at statement : ℕ)
      → HeaderDescent old.trie mid.trie at (leading_texts k)
      → HeaderAdds old mid k.first statement (λ tables. descent_mentions tables [] (leading_texts k))
      → HeaderAdds mid new (k.first + (length k.texts - 1)) statement
      (λ tables. record { path = path_at mid.trie at ++ key text ∷ []; kind = define } ∷ [])
      → StatementAdds old new k.first statement (header k.texts)
  header_all_added old mid new at statement walked leading last =
      subst (λ (ks : List (List ℕ)). StatementAdds old new k.first statement (header ks)) (texts_split k some)
      (header_added old new (leading_texts k) (last_text k) k.first statement
      (header_adds old mid new at (leading_texts k) (last_text k) k.first statement
      (λ tables p. record { path = p; kind = define } ∷ []) walked leading
      (subst (λ (t : List ℕ).
      HeaderAdds mid new (k.first + length (leading_texts k)) statement
      (λ tables. record { path = path_at mid.trie at ++ key t ∷ []; kind = define } ∷ [])) is
      (last_adds mid new statement (λ tables.
      record { path = path_at mid.trie at ++ key text ∷ []; kind = define } ∷ []) last))))

  pub element_all_added : (old mid new : TrieInfos) (at statement : ℕ)
      → HeaderDescent old.trie mid.trie at (leading_texts k)
      → HeaderAdds old mid k.first statement (λ tables. descent_mentions tables [] (leading_texts k))
      → HeaderAdds mid new (k.first + (length k.texts - 1)) statement
      (begin_mentions (path_at mid.trie at ++ key text ∷ []))
      → StatementAdds old new k.first statement (element_header k.texts)
  element_all_added old mid new at statement walked leading last =
      subst (λ (ks : List (List ℕ)). StatementAdds old new k.first statement (element_header ks)) (texts_split k some)
      (element_added old new (leading_texts k) (last_text k) k.first statement
      (header_adds old mid new at (leading_texts k) (last_text k) k.first statement
      (λ tables p. begin_mentions p tables) walked leading
      (subst (λ (t : List ℕ).
      HeaderAdds mid new (k.first + length (leading_texts k)) statement
      (begin_mentions (path_at mid.trie at ++ key t ∷ []))) is
      (last_adds mid new statement (begin_mentions (path_at mid.trie at ++ key text ∷ [])) last))))

  pub keyed_all_added : (old mid new : TrieInfos) (from at id number : ℕ) (what : Kind) (holds : Holding)
      → DottedDescent old.trie mid.trie from at (leading_texts k)
      → DottedAdds old mid k.first number (dotted_mentions (path_at old.trie from) (leading_texts k))
      → IsDefined mid.trie new.trie (path_at mid.trie at ++ key text ∷ []) Value holds id
      → AddsInfo mid new (path_at mid.trie at ++ key text ∷ [])
      (named_info what (k.first + (length k.texts - 1)) (origin.Value number))
      → KeyedAdds old new from k.first k.texts number what
  keyed_all_added old mid new from at id number what holds gone leading marked one =
      subst (λ (ks : List (List ℕ)). KeyedAdds old new from k.first ks number what) (texts_split k some)
      (keyed_added old mid new from at id (leading_texts k) (last_text k) k.first number what holds gone leading
      (subst (λ (t : List ℕ). IsDefined mid.trie new.trie (path_at mid.trie at ++ key t ∷ []) Value holds id) is marked)
      (subst (λ (n : ℕ).
      AddsInfo mid new (path_at mid.trie at ++ key (last_text k) ∷ [])
      (named_info what (k.first + n) (origin.Value number))) (sym (length-leading_texts k))
      (subst (λ (t : List ℕ).
      AddsInfo mid new (path_at mid.trie at ++ key t ∷ [])
      (named_info what (k.first + (length k.texts - 1)) (origin.Value number))) is one)))
