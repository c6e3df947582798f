-- Reading one value of the flat list as the nested value that it is.
--
-- The flat list has each value with a number for its owner; the tree has it inside its owner. `IsNext` of another file
-- says which nested value comes next. From it come what the code needs before it pushes (`some_item_place`,
-- `some_keyed_place`: the owner has a node, and may have such children) and what holds after (`item_read_all`,
-- `keyed_read_all`). An item's owner is an array and a keyval's an inline table, so each lemma splits by the nested
-- value and drops the case that does not fit. A fault in its keys is one of the document, with the number of the first
-- key added (`keyed_fault_meets`).
--
-- Theorems: `item_read_all` and `keyed_read_all`: one value is read; `keyed_fault_meets`: or a fault of its keys.
use Rattle.std.proofs.Common.{◌≡◌, ℕ, ◌+◌, ◌-◌, ◌<◌, ◌≤◌, false, List, [], ◌∷◌, ◌++◌, length, get_or, sym, ◌∙◌, ap}
use Rattle.std.proofs.Common.{subst, arith, Ok, Err}
use Rattle.std.specs.Prelude.{IfErr, Result}
use Rattle.keep_syntax.specs.declared.fault.Why.{Why}
use Rattle.keep_types.specs.declared.syntax.KeyPart.{KeyPart}
use Rattle.keep_types.specs.declared.syntax.Owner.TheVariants as owner
use Rattle.keep_types.specs.declared.syntax.ValueInfo.{ValueInfo}
use Rattle.keep_syntax_store.specs.Flat.{Flat}
use Rattle.keep_types.specs.declared.node.Kind.{Kind}
use Rattle.keep_rules.specs.declared.definitions.DefineFault.{DefineFault}
use Rattle.keep_path.specs.Path.{Part}
use Rattle.keep_rules.specs.Keys.{AreReadable, AreKeysAt, Key, leading_texts, last_text}
use Rattle.keep_meaning.specs.KeyText.{keys_in}
use Rattle.keep_meaning.specs.Marks.{Mention}
use Rattle.keep_meaning.specs.Counts.{Count}
use Rattle.keep_rules.specs.NestedValues.{NestingState, NestedValue, nested_item, nested_keyed, holding_of_value}
use Rattle.keep_rules.specs.NestedValues.{nested_mentions}
use Rattle.keep_index_store.specs.Trie.{TrieNode, Holding, by_key, by_index, path_at, state_at, holds_at, children_of}
use Rattle.keep_index_store.specs.Tree.{TrieInfos, node_infos}
use Rattle.keep_rules.specs.Tables.{is_tables}
use Rattle.keep_rules.specs.Represents.{Represents, FaultFrom}
use Rattle.keep_rules.specs.Steps.{AddsItem, HasNewValue}
use Rattle.keep_rules.specs.Reads.{IsValueNode, AreValueNodes, KeyedFaults}
use Rattle.keep_rules.specs.DefineFaults.{FaultMeets}
use Rattle.keep_rules.specs.AddedInfos.{ItemAdds, KeyedAdds, AddsValue}
use Rattle.keep_rules.specs.NestedReads.{NestedRead}
use Rattle.keep_types.specs.Kinds.{leaf_kind}
use Rattle.keep_rules.specs.FlatValues.{leaf_holding}
use Rattle.keep_rules.specs.Plans.{nodes_so_far, IsNext, NestedValueRead, NestedValueFaults}
use Rattle.keep_rules.proofs.KeyLemmas.{texts_split, length-keys_in}
use Rattle.keep_rules.proofs.NestedReadLemmas.{nested_read_item, nested_read_keyed}
use Rattle.keep_rules.proofs.BuildLemmas.{meets_weaker}

-- ---- the node of the value that a value is in

-- the node of the value number o, where an owner has that number
pub record IsOwner (nodes : List TrieNode) (ids : List ℕ) (base g : ℕ) (s : NestingState) (o : ℕ) : Type 0 where
  pub low : o < length ids
  pub place : g + 1 - base ≡ o
  pub node : IsValueNode nodes (get_or ids o 0) s o

owner_of : (nodes : List TrieNode) (ids : List ℕ) (base g h : ℕ) (s : NestingState) (o : ℕ) → AreValueNodes nodes ids s
    → o < length s.paths → h ≡ g → h + 1 ≡ base + o → IsOwner nodes ids base g s o
owner_of nodes ids base g h s o are low same at = record {
  low = omega (arith, low, are.paths);
  place = omega (arith, same, at);
  node = are.each o (omega (arith, low, are.paths));
}

item_number : (g h : ℕ) → owner.Item g ≡ owner.Item h → g ≡ h
item_number g h e = cc

inline_number : (g h : ℕ) → owner.Inline g ≡ owner.Inline h → g ≡ h
inline_number g h e = cc

-- the node of the value of the number `owner`, which may have these children and is no array of tables
pub record IsPlace (nodes : TrieInfos) (ids : List ℕ) (base owner : ℕ) (holds : Holding) : Type 0 where
  pub low : base ≤ owner + 1
  pub high : owner + 1 < base + length ids
  pub within : get_or ids (owner + 1 - base) 0 < length nodes.trie
  pub held : holds_at nodes.trie (get_or ids (owner + 1 - base) 0) ≡ holds
  pub plain : is_tables (state_at nodes.trie (get_or ids (owner + 1 - base) 0)) ≡ false

place_of : (nodes : TrieInfos) (ids : List ℕ) (base g h : ℕ) (s : NestingState) (o : ℕ) (holds : Holding)
    → AreValueNodes nodes.trie ids s → (o < length s.paths) × (holding_of_value s o ≡ holds) → h ≡ g → h + 1 ≡ base + o
    → IsPlace nodes ids base g holds
place_of nodes ids base g h s o holds are suits same at =
    let own = owner_of nodes.trie ids base g h s o are suits.0 same at in
    let there : get_or ids (g + 1 - base) 0 ≡ get_or ids o 0 = ap (λ i. get_or ids i 0) own.place in
    record {
      low = omega (arith, same, at);
      high = omega (arith, same, at, own.low);
      within = omega (arith, there, own.node.nested);
      held = ap (holds_at nodes.trie) there ∙ own.node.held ∙ suits.1;
      plain = ap (λ i. is_tables (state_at nodes.trie i)) there ∙ own.node.plain;
    }

-- ---- items

item_place : (bytes : List ℕ) (parts : List KeyPart) (nodes : TrieInfos) (ids : List ℕ) (base : ℕ) (info : ValueInfo)
    (array : ℕ) (s : NestingState) (t : NestedValue)
    → info.owner ≡ owner.Item array → IsNext bytes parts nodes.trie ids base info s t
    → IsPlace nodes ids base array by_index
item_place bytes parts nodes ids base info array s (nested_keyed o ks fact) is next =
    let no : owner.Item array ≡ owner.Inline next.matches.owned.0 = sym is ∙ next.matches.owned.1 in
    absurd (cc)
item_place bytes parts nodes ids base info array s (nested_item o fact) is next =
    place_of nodes ids base array next.matches.owned.0 s o by_index next.nested next.suits
    (item_number next.matches.owned.0 array (sym next.matches.owned.1 ∙ is)) next.matches.owned.2

pub some_item_place : (bytes : List ℕ) (parts : List KeyPart) (nodes : TrieInfos) (ids : List ℕ) (base : ℕ)
    (info : ValueInfo) (array : ℕ)
    → info.owner ≡ owner.Item array
    → (s : NestingState) × (t : NestedValue) × IsNext bytes parts nodes.trie ids base info s t
    → IsPlace nodes ids base array by_index
some_item_place bytes parts nodes ids base info array is next =
    item_place bytes parts nodes ids base info array next.0 next.1 is next.2

item_read : (bytes : List ℕ) (f : Flat) (base : ℕ) (info : ValueInfo) (old new : TrieInfos) (ids : List ℕ)
    (number array at to : ℕ) (kind : Kind) (holds : Holding) (s : NestingState) (t : NestedValue)
    → info.owner ≡ owner.Item array → at ≡ get_or ids (array + 1 - base) 0 → kind ≡ leaf_kind info.leaf
    → holds ≡ leaf_holding info.leaf
    → AddsItem old.trie new.trie at to holds → ItemAdds old new at number kind
    → IsNext bytes f.keys old.trie ids base info s t
    → NestedRead (nodes_so_far old ids) (nodes_so_far new (ids ++ to ∷ [])) number info.first_key s (t ∷ [])
item_read bytes f base info old new ids number array at to kind holds s (nested_keyed o ks fact) is here k h adds joined
    next =
    let no : owner.Item array ≡ owner.Inline next.matches.owned.0 = sym is ∙ next.matches.owned.1 in
    absurd (cc)
item_read bytes f base info old new ids number array at to kind holds s (nested_item o fact) is here k h adds joined
    next =
    let own =
    owner_of old.trie ids base array next.matches.owned.0 s o next.nested next.suits.0
    (item_number next.matches.owned.0 array (sym next.matches.owned.1 ∙ is)) next.matches.owned.2 in
    let there : at ≡ get_or ids o 0 = here ∙ ap (λ i. get_or ids i 0) own.place in
    let facts : (c : Count) → c.values ≡ number → AddsValue old new c (nested_mentions s (nested_item o fact)) = λ c v.
    joined s o fact (ap (path_at old.trie) there ∙ own.node.here)
    (sym (ap (λ i. length (children_of old.trie i)) there ∙ own.node.listed next.suits.1)) (next.matches.kind ∙ sym k)
    c v in
    nested_read_item (nodes_so_far old ids) new.trie (node_infos new) to number info.first_key s o fact next.nested
    own.low next.suits.1
    (subst (λ (x : Holding). AddsItem old.trie new.trie (get_or ids o 0) to x) (h ∙ sym next.matches.holds)
    (subst (λ (x : ℕ). AddsItem old.trie new.trie x to holds) there adds))
    (λ c v first. (facts c v).joined)
    (λ c v first. (facts c v).fresh)

pub item_read_all : (bytes : List ℕ) (f : Flat) (base : ℕ) (info : ValueInfo) (old new : TrieInfos) (ids : List ℕ)
    (number array at to : ℕ) (kind : Kind) (holds : Holding)
    → info.owner ≡ owner.Item array → at ≡ get_or ids (array + 1 - base) 0 → kind ≡ leaf_kind info.leaf
    → holds ≡ leaf_holding info.leaf
    → AddsItem old.trie new.trie at to holds → ItemAdds old new at number kind
    → NestedValueRead bytes f base info old ids new (ids ++ to ∷ []) number
item_read_all bytes f base info old new ids number array at to kind holds is here k h adds joined s t next =
    item_read bytes f base info old new ids number array at to kind holds s t is here k h adds joined next

-- ---- values with keys

keyed_place : (bytes : List ℕ) (parts : List KeyPart) (nodes : TrieInfos) (ids : List ℕ) (base : ℕ) (info : ValueInfo)
    (table : ℕ) (s : NestingState) (t : NestedValue)
    → info.owner ≡ owner.Inline table → IsNext bytes parts nodes.trie ids base info s t
    → IsPlace nodes ids base table by_key
keyed_place bytes parts nodes ids base info table s (nested_item o fact) is next =
    let no : owner.Inline table ≡ owner.Item next.matches.owned.0 = sym is ∙ next.matches.owned.1 in
    absurd (cc)
keyed_place bytes parts nodes ids base info table s (nested_keyed o ks fact) is next =
    place_of nodes ids base table next.matches.owned.0 s o by_key next.nested next.suits
    (inline_number next.matches.owned.0 table (sym next.matches.owned.1 ∙ is)) next.matches.owned.2

pub some_keyed_place : (bytes : List ℕ) (parts : List KeyPart) (nodes : TrieInfos) (ids : List ℕ) (base : ℕ)
    (info : ValueInfo) (table : ℕ)
    → info.owner ≡ owner.Inline table
    → (s : NestingState) × (t : NestedValue) × IsNext bytes parts nodes.trie ids base info s t
    → IsPlace nodes ids base table by_key
some_keyed_place bytes parts nodes ids base info table is next =
    keyed_place bytes parts nodes ids base info table next.0 next.1 is next.2

-- the key parts of a value can be read
next_keys : (bytes : List ℕ) (parts : List KeyPart) (nodes : List TrieNode) (ids : List ℕ) (base : ℕ) (info : ValueInfo)
    (table : ℕ) (s : NestingState) (t : NestedValue)
    → AreReadable bytes parts → info.owner ≡ owner.Inline table → IsNext bytes parts nodes ids base info s t
    → AreKeysAt bytes parts info.first_key info.keys
next_keys bytes parts nodes ids base info table s (nested_item o fact) readable is next =
    let no : owner.Inline table ≡ owner.Item next.matches.owned.0 = sym is ∙ next.matches.owned.1 in
    absurd (cc)
next_keys bytes parts nodes ids base info table s (nested_keyed o ks fact) readable is next = record {
  some = omega (
    arith,
    next.keys,
    ap length next.matches.owned.3,
    length-keys_in bytes parts info.first_key info.keys next.matches.owned.4,
  );
  within = next.matches.owned.4;
  each = readable;
}

pub some_next_keys : (bytes : List ℕ) (parts : List KeyPart) (nodes : List TrieNode) (ids : List ℕ) (base : ℕ)
    (info : ValueInfo) (table : ℕ)
    → AreReadable bytes parts → info.owner ≡ owner.Inline table
    → (s : NestingState) × (t : NestedValue) × IsNext bytes parts nodes ids base info s t
    → AreKeysAt bytes parts info.first_key info.keys
some_next_keys bytes parts nodes ids base info table readable is next =
    next_keys bytes parts nodes ids base info table next.0 next.1 readable is next.2

keyed_read : (bytes : List ℕ) (f : Flat) (base : ℕ) (info : ValueInfo) (old new : TrieInfos) (ids : List ℕ) (k : Key)
    (number table at to : ℕ) (kind : Kind) (holds : Holding) (s : NestingState) (t : NestedValue)
    → info.owner ≡ owner.Inline table → at ≡ get_or ids (table + 1 - base) 0 → kind ≡ leaf_kind info.leaf
    → holds ≡ leaf_holding info.leaf
    → 0 < length k.texts → k.texts ≡ keys_in bytes f.keys info.first_key info.keys
    → HasNewValue old.trie new.trie at to (leading_texts k) (last_text k) holds
    → KeyedAdds old new at info.first_key k.texts number kind
    → IsNext bytes f.keys old.trie ids base info s t
    → NestedRead (nodes_so_far old ids) (nodes_so_far new (ids ++ to ∷ [])) number info.first_key s (t ∷ [])
keyed_read bytes f base info old new ids k number table at to kind holds s (nested_item o fact) is here kd h some texts
    gives joined next =
    let no : owner.Inline table ≡ owner.Item next.matches.owned.0 = sym is ∙ next.matches.owned.1 in
    absurd (cc)
keyed_read bytes f base info old new ids k number table at to kind holds s (nested_keyed o ks fact) is here kd h some
    texts gives joined next =
    let own =
    owner_of old.trie ids base table next.matches.owned.0 s o next.nested next.suits.0
    (inline_number next.matches.owned.0 table (sym next.matches.owned.1 ∙ is)) next.matches.owned.2 in
    let there : at ≡ get_or ids o 0 = here ∙ ap (λ i. get_or ids i 0) own.place in
    let whole : leading_texts k ++ last_text k ∷ [] ≡ ks = texts_split k some ∙ texts ∙ next.matches.owned.3 in
    let split : k.texts ≡ leading_texts k ++ last_text k ∷ [] = sym (texts_split k some) in
    let facts : (c : Count) → c.values ≡ number → c.keys ≡ info.first_key
    → AddsValue old new c (nested_mentions s (nested_keyed o (leading_texts k ++ last_text k ∷ []) fact)) = λ c v first.
    subst (λ (x : List (List ℕ)). AddsValue old new c (nested_mentions s (nested_keyed o x fact))) split
    (joined s o fact (ap (path_at old.trie) there ∙ own.node.here) (next.matches.kind ∙ sym kd) c v first) in
    subst (λ (x : List (List ℕ)).
    NestedRead (nodes_so_far old ids) (nodes_so_far new (ids ++ to ∷ [])) number info.first_key s
    (nested_keyed o x fact ∷ [])) whole
    (nested_read_keyed (nodes_so_far old ids) new.trie (node_infos new) to number info.first_key s o (leading_texts k)
    (last_text k) fact next.nested own.low next.suits.1
    (subst (λ (x : Holding). HasNewValue old.trie new.trie (get_or ids o 0) to (leading_texts k) (last_text k) x)
    (h ∙ sym next.matches.holds)
    (subst (λ (x : ℕ). HasNewValue old.trie new.trie x to (leading_texts k) (last_text k) holds) there gives))
    (λ c v first. (facts c v first).joined)
    (λ c v first. (facts c v first).fresh))

pub keyed_read_all : (bytes : List ℕ) (f : Flat) (base : ℕ) (info : ValueInfo) (old new : TrieInfos) (ids : List ℕ)
    (k : Key) (number table at to : ℕ) (kind : Kind) (holds : Holding)
    → info.owner ≡ owner.Inline table → at ≡ get_or ids (table + 1 - base) 0 → kind ≡ leaf_kind info.leaf
    → holds ≡ leaf_holding info.leaf
    → 0 < length k.texts → k.texts ≡ keys_in bytes f.keys info.first_key info.keys
    → HasNewValue old.trie new.trie at to (leading_texts k) (last_text k) holds
    → KeyedAdds old new at info.first_key k.texts number kind
    → NestedValueRead bytes f base info old ids new (ids ++ to ∷ []) number
keyed_read_all bytes f base info old new ids k number table at to kind holds is here kd h some texts gives joined s t
    next =
    keyed_read bytes f base info old new ids k number table at to kind holds s t is here kd h some texts gives joined
    next

-- ---- a fault among them

keyed_fault : (bytes : List ℕ) (f : Flat) (base : ℕ) (info : ValueInfo) (old : TrieInfos) (ids : List ℕ)
    (keys : List (List ℕ)) (table at number : ℕ) (why : Why) (s : NestingState) (t : NestedValue)
    → info.owner ≡ owner.Inline table → at ≡ get_or ids (table + 1 - base) 0
    → keys ≡ keys_in bytes f.keys info.first_key info.keys
    → KeyedFaults old.trie at info.first_key keys number why → IsNext bytes f.keys old.trie ids base info s t
    → (ms : List Mention) (tables : List (List Part)) → Represents old.trie ms tables
    → FaultFrom ms (nested_mentions s t) info.first_key number why
keyed_fault bytes f base info old ids keys table at number why s (nested_item o fact) is here texts faults next ms
    tables represents =
    let no : owner.Inline table ≡ owner.Item next.matches.owned.0 = sym is ∙ next.matches.owned.1 in
    absurd (cc)
keyed_fault bytes f base info old ids keys table at number why s (nested_keyed o ks fact) is here texts faults next ms
    tables represents =
    let own =
    owner_of old.trie ids base table next.matches.owned.0 s o next.nested next.suits.0
    (inline_number next.matches.owned.0 table (sym next.matches.owned.1 ∙ is)) next.matches.owned.2 in
    let there : at ≡ get_or ids o 0 = here ∙ ap (λ i. get_or ids i 0) own.place in
    subst (λ (x : List (List ℕ)). FaultFrom ms (nested_mentions s (nested_keyed o x fact)) info.first_key number why)
    (texts ∙ next.matches.owned.3)
    (faults s o fact (ap (path_at old.trie) there ∙ own.node.here) ms tables represents)

pub keyed_fault_meets : (r : Result ℕ DefineFault) (bytes : List ℕ) (f : Flat) (base : ℕ) (info : ValueInfo)
    (old : TrieInfos) (ids : List ℕ) (keys : List (List ℕ)) (table at : ℕ)
    → info.owner ≡ owner.Inline table → at ≡ get_or ids (table + 1 - base) 0
    → keys ≡ keys_in bytes f.keys info.first_key info.keys
    → IfErr r (λ g. FaultMeets g (KeyedFaults old.trie at info.first_key keys))
    → IfErr r (λ g. FaultMeets g (NestedValueFaults bytes f base info old ids))
keyed_fault_meets (Ok to) bytes f base info old ids keys table at is here texts meets = tt
keyed_fault_meets (Err g) bytes f base info old ids keys table at is here texts meets =
    meets_weaker g (KeyedFaults old.trie at info.first_key keys) (NestedValueFaults bytes f base info old ids)
    (λ number why faults s t next ms tables represents.
    keyed_fault bytes f base info old ids keys table at number why s t is here texts faults next ms tables represents)
    meets
