-- One value more: what it does to the nodes of the values so far.
--
-- Each value so far has a node (`AreValueNodes`), of which the nesting state says the path, what children it may have
-- and, of an array, how many. The node of the new value is made after all of these (`IsMade`), so it is none of them,
-- and it has what the next state says of it (`new_path`, `new_holding`, `new_entries`). The others stay as they are,
-- but for the owner: if it is an array, it has one item more (`nested_taken`). An item has the number of items so far
-- as its index (`item_taken`); a value with a key has the path of its owner with its keys (`keyed_taken`, by
-- `keys_path`). So the nodes represent the mentions of the new value too: of an item one (`item_represents`), of a
-- value with a key those along its leading keys and its own (`keyed_represents`, by `keyed_mentions_are`).
--
-- Theorems: `item_taken` and `keyed_taken`: these are again the nodes of the values so far, with the new one;
-- `keyed_mentions_are`: the mentions of a value with a key.
use Rattle.std.proofs.Common.{◌≡◌, ℕ, ◌+◌, ◌<◌, List, [], ◌∷◌, ◌++◌, length, get_or, map, refl, sym, ◌∙◌, ap, subst}
use Rattle.std.proofs.Common.{arith, length-append, inl, inr}
use Rattle.std.proofs.lemmas.List.{append_assoc, map-append, get_or_append_left, get_or_push}
use Rattle.std.proofs.lemmas.Bool.{cases_lt, cases_eq}
use Rattle.keep_meaning.specs.Fact.{Fact}
use Rattle.keep_path.specs.Path.{Part, key, index}
use Rattle.keep_meaning.specs.Marks as marks
use Rattle.keep_meaning.specs.Marks.{Mention, below}
use Rattle.keep_meaning.specs.Meaning.{keyed_mentions}
use Rattle.keep_index_store.specs.Trie.{TrieNode, by_key, by_index, path_at, holds_at, children_of}
use Rattle.keep_rules.specs.Represents.{Keeps, Represents}
use Rattle.keep_rules.specs.Descents.{dotted_mentions}
use Rattle.keep_rules.specs.Steps.{IsMade, HasNewValue, AddsItem}
use Rattle.keep_rules.specs.NestedValues.{NestedValue, nested_item, nested_keyed, holding_of, NestingState}
use Rattle.keep_rules.specs.NestedValues.{path_of_value, entries_of_value, holding_of_value, nested_mentions}
use Rattle.keep_rules.specs.NestedValues.{nested_path, nested_owner, nested_fact, next_nesting}
use Rattle.keep_rules.specs.Reads.{IsValueNode, AreValueNodes}
use Rattle.keep_rules.proofs.KeyWalkLemmas.{keyed-split}
use Rattle.keep_rules.proofs.NestedValueLemmas.{HasValues, next_values, next_stays, owner_entries, new_path}
use Rattle.keep_rules.proofs.NestedValueLemmas.{new_holding, new_entries}

has_values : (nodes : List TrieNode) (ids : List ℕ) (s : NestingState) → AreValueNodes nodes ids s
    → HasValues s (length ids)
has_values nodes ids s are = record { paths = are.paths; holdings = are.holdings; entries = are.entries }

-- the nodes of the values so far, and the new one
nested_taken : (old new : List TrieNode) (ids : List ℕ) (to : ℕ) (s : NestingState) (t : NestedValue)
    → AreValueNodes old ids s → Keeps old new → nested_owner t < length ids
    → ((j : ℕ) → j < length ids → (j ≡ nested_owner t → ⊥) → holds_at old (get_or ids j 0) ≡ by_index
    → children_of new (get_or ids j 0) ≡ children_of old (get_or ids j 0))
    → (holds_at old (get_or ids (nested_owner t) 0) ≡ by_index
    → length (children_of new (get_or ids (nested_owner t) 0))
    ≡ length (children_of old (get_or ids (nested_owner t) 0)) + 1)
    → IsMade old new to (nested_path s t) (holding_of (nested_fact t))
    → AreValueNodes new (ids ++ to ∷ []) (next_nesting s t)
nested_taken old new ids to s t are keeps low others own made =
    let v : ℕ = length ids in
    let has = has_values old ids s are in
    let next = next_values s t v has in
    let stays = next_stays s t v has in
    let more : length (ids ++ to ∷ []) ≡ v + 1 = length-append ids (to ∷ []) in
    let at_new : (j : ℕ) → v ≡ j → get_or (ids ++ to ∷ []) j 0 ≡ to = λ j e. get_or_push ids to 0 j e in
    let at_old : (j : ℕ) → j < v → get_or (ids ++ to ∷ []) j 0 ≡ get_or ids j 0 =
    λ j h. get_or_append_left ids (to ∷ []) 0 j h in
    record {
      paths = omega (arith, next.paths, more);
      holdings = omega (arith, next.holdings, more);
      entries = omega (arith, next.entries, more);
      each = λ j h. elim (cases_lt j v) [
        | inl below ↦
            let was = are.each j below in
            let now : IsValueNode new (get_or ids j 0) (next_nesting s t) j = record {
              nested = omega (arith, was.nested, keeps.longer);
              here = keeps.paths (get_or ids j 0) was.nested ∙ was.here ∙ sym (stays.paths j below);
              held = keeps.holdings (get_or ids j 0) was.nested ∙ was.held ∙ sym (stays.holdings j below);
              plain = keeps.kinds (get_or ids j 0) was.nested ∙ was.plain;
              listed = λ l.
                  let l' : holding_of_value s j ≡ by_index = sym (stays.holdings j below) ∙ l in
                  elim (cases_eq j (nested_owner t)) [
                    | inl here ↦
                        let count : length (children_of new (get_or ids j 0))
                        ≡ length (children_of old (get_or ids j 0)) + 1 =
                        ap (λ o. length (children_of new (get_or ids o 0))) here
                        ∙ own (ap (λ o. holds_at old (get_or ids o 0)) (sym here) ∙ was.held ∙ l')
                        ∙ ap (λ o. length (children_of old (get_or ids o 0)) + 1) (sym here) in
                        count ∙ ap (λ n. n + 1) (was.listed l') ∙ ap (λ o. entries_of_value s o + 1) here
                        ∙ sym (owner_entries s t v has low) ∙ ap (entries_of_value (next_nesting s t)) (sym here)
                    | inr other ↦ ap length (others j below other (was.held ∙ l')) ∙ was.listed l'
                        ∙ sym (stays.entries j below other)
                  ];
            } in
            subst (λ (id : ℕ). IsValueNode new id (next_nesting s t) j) (sym (at_old j below)) now
        | inr above ↦
            let last : v ≡ j = omega (arith, more) in
            let now : IsValueNode new to (next_nesting s t) v = record {
              nested = made.nested;
              here = made.here ∙ sym (new_path s t v has);
              held = made.held ∙ sym (new_holding s t v has);
              plain = made.plain;
              listed = λ l. ap length made.bare ∙ sym (new_entries s t v has);
            } in
            subst (λ (id : ℕ). IsValueNode new id (next_nesting s t) j) (sym (at_new j last))
            (subst (λ (i : ℕ). IsValueNode new to (next_nesting s t) i) last now)
      ];
      distinct = λ i j h g same. elim (cases_lt i v) [
        | inl low_i ↦ elim (cases_lt j v) [
          | inl low_j ↦ are.distinct i j low_i low_j (sym (at_old i low_i) ∙ same ∙ at_old j low_j)
          | inr top_j ↦
              let clash : get_or ids i 0 ≡ to = sym (at_old i low_i) ∙ same ∙ at_new j (omega (arith, more)) in
              absurd (omega (arith, clash, (are.each i low_i).nested, made.later))
        ]
        | inr top_i ↦ elim (cases_lt j v) [
          | inl low_j ↦
              let clash : get_or ids j 0 ≡ to = sym (at_old j low_j) ∙ sym same ∙ at_new i (omega (arith, more)) in
              absurd (omega (arith, clash, (are.each j low_j).nested, made.later))
          | inr top_j ↦ omega (arith, more)
        ]
      ];
    }

-- an item of an array
pub item_taken : (old new : List TrieNode) (ids : List ℕ) (to : ℕ) (s : NestingState) (o : ℕ) (f : Fact)
    → AreValueNodes old ids s → o < length ids → holding_of_value s o ≡ by_index
    → AddsItem old new (get_or ids o 0) to (holding_of f)
    → AreValueNodes new (ids ++ to ∷ []) (next_nesting s (nested_item o f))
item_taken old new ids to s o f are low listed added =
    let own = are.each o low in
    nested_taken old new ids to s (nested_item o f) are added.keeps low
    (λ j h ne l. added.items (get_or ids j 0) (are.each j h).nested (λ e. ne (are.distinct j o h low e)))
    (λ l. ap length added.own ∙ length-append (children_of old (get_or ids o 0)) (length old ∷ []))
    (subst (λ (p : List Part). IsMade old new to p (holding_of f))
    (ap (λ p. p ++ index (length (children_of old (get_or ids o 0))) ∷ []) own.here
    ∙ ap (λ n. path_of_value s o ++ index n ∷ []) (own.listed listed)) added.made)

pub item_represents : (old new : List TrieNode) (ids : List ℕ) (to : ℕ) (s : NestingState) (o : ℕ) (f : Fact)
    → AreValueNodes old ids s → o < length ids → holding_of_value s o ≡ by_index
    → AddsItem old new (get_or ids o 0) to (holding_of f) → (ms : List Mention) (ts : List (List Part))
    → Represents old ms ts → Represents new (ms ++ nested_mentions s (nested_item o f)) ts
item_represents old new ids to s o f are low listed added ms ts represents =
    let own = are.each o low in
    subst (λ (p : List Part). Represents new (ms ++ record { path = p; kind = marks.item f } ∷ []) ts)
    (ap (λ p. p ++ index (length (children_of old (get_or ids o 0))) ∷ []) own.here
    ∙ ap (λ n. path_of_value s o ++ index n ∷ []) (own.listed listed))
    (added.represents f ms ts represents)

-- a value with a key
keys_path : (p : List Part) (leading : List (List ℕ)) (last : List ℕ)
    → (p ++ map key leading) ++ key last ∷ [] ≡ p ++ map key (leading ++ last ∷ [])
keys_path p leading last =
    append_assoc p (map key leading) (key last ∷ []) ∙ ap (λ q. p ++ q) (sym (map-append key leading (last ∷ [])))

distinct_kinds : by_key ≡ by_index → ⊥
distinct_kinds e = cc

pub keyed_taken : (old new : List TrieNode) (ids : List ℕ) (to : ℕ) (s : NestingState) (o : ℕ) (leading : List (List ℕ))
    (last : List ℕ) (f : Fact) → AreValueNodes old ids s → o < length ids → holding_of_value s o ≡ by_key
    → HasNewValue old new (get_or ids o 0) to leading last (holding_of f)
    → AreValueNodes new (ids ++ to ∷ []) (next_nesting s (nested_keyed o (leading ++ last ∷ []) f))
keyed_taken old new ids to s o leading last f are low keyed given =
    let own = are.each o low in
    nested_taken old new ids to s (nested_keyed o (leading ++ last ∷ []) f) are given.keeps low
    (λ j h ne l. given.items (get_or ids j 0) (are.each j h).nested l)
    (λ l. absurd (distinct_kinds (sym keyed ∙ sym own.held ∙ l)))
    (subst (λ (p : List Part). IsMade old new to p (holding_of f))
    (keys_path (path_at old (get_or ids o 0)) leading last ∙ ap (λ p. p ++ map key (leading ++ last ∷ [])) own.here)
    given.made)

-- the mentions of a value with a key
pub keyed_mentions_are : (p : List Part) (leading : List (List ℕ)) (last : List ℕ) (f : Fact)
    → map (below p) (keyed_mentions (leading ++ last ∷ []) (record { path = []; kind = marks.value f } ∷ []))
    ≡ dotted_mentions p leading ++ record { path = (p ++ map key leading) ++ key last ∷ []; kind = marks.value f } ∷ []
keyed_mentions_are p leading last f =
    keyed-split p leading last (record { path = []; kind = marks.value f } ∷ [])
    ∙ ap (λ q. dotted_mentions p leading ++ record { path = q; kind = marks.value f } ∷ [])
    (whole (p ++ map key (leading ++ last ∷ [])) ∙ sym (keys_path p leading last))
  where
    whole : (q : List Part) → q ++ [] ≡ q
    whole [] = refl
    whole (x ∷ q) = ap (λ r. x ∷ r) (whole q)

pub keyed_represents : (old new : List TrieNode) (ids : List ℕ) (to : ℕ) (s : NestingState) (o : ℕ)
    (leading : List (List ℕ)) (last : List ℕ) (f : Fact) → AreValueNodes old ids s → o < length ids
    → HasNewValue old new (get_or ids o 0) to leading last (holding_of f) → (ms : List Mention) (ts : List (List Part))
    → Represents old ms ts → Represents new (ms ++ nested_mentions s (nested_keyed o (leading ++ last ∷ []) f)) ts
keyed_represents old new ids to s o leading last f are low given ms ts represents =
    let own = are.each o low in
    subst (λ (w : List Mention). Represents new (ms ++ w) ts)
    (ap (λ p.
    dotted_mentions p leading ++ record { path = (p ++ map key leading) ++ key last ∷ []; kind = marks.value f } ∷ [])
    own.here ∙ sym (keyed_mentions_are (path_of_value s o) leading last f))
    (given.represents f ms ts represents)
