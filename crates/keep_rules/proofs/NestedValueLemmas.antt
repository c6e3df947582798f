-- The mentions of the nested values, one after another, are those of the value's entries.
--
-- A nested value is read with nothing but the nesting state: the path, the children and the number of entries of each
-- value so far. The state only grows: one value more is added at its end and counted in its parent, and all else stays
-- (`Stays`, `next_stays`). So after the values inside an entry, the parent has its path still and one entry more
-- (`stays_through`, `nested_stay`). An entry's mentions are those of its key, of itself and of what is inside it
-- (`entry_split`), and by induction over the entries these are the mentions that its meaning gives, put below the path.
--
-- Theorems: `nested_mentions_are`; of a keyval `keyval_nested-mentions`, of a value alone `value_nested-mentions`.
use Rattle.std.proofs.Common.{◌≡◌, ℕ, suc, ◌+◌, ◌<◌, List, [], ◌∷◌, ◌++◌, length, set, map, refl, sym, ◌∙◌, ap, subst}
use Rattle.std.proofs.Common.{arith, length-append, Option, Some, None}
use Rattle.std.proofs.lemmas.List.{append_assoc, append-nil, map-append, get_or_append_left, get_or_push}
use Rattle.std.proofs.lemmas.List.{get_or-set_same, get_or-set_other, length-set}
use Rattle.keep_syntax.specs.Tree.{Name, Entries, none, entry, Value}
use Rattle.keep_syntax.specs.Numbered.{value_count}
use Rattle.keep_meaning.specs.Fact.{Fact}
use Rattle.keep_path.specs.Path.{Part, key, index}
use Rattle.keep_meaning.specs.Marks as marks
use Rattle.keep_meaning.specs.Marks.{Mention, below}
use Rattle.keep_meaning.specs.Meaning.{key_value, further_value, keys_of, body_fact, keyed_mentions, entry_mentions}
use Rattle.keep_meaning.specs.Meaning.{entries_mentions, keyval_mentions}
use Rattle.keep_index_store.specs.Trie.{Holding, nothing, by_key}
use Rattle.keep_rules.specs.NestedValues.{NestedValue, nested_keyed, holding_of, entry_nested, nested_values}
use Rattle.keep_rules.specs.NestedValues.{NestingState, path_of_value, entries_of_value, holding_of_value}
use Rattle.keep_rules.specs.NestedValues.{nested_mentions, nested_path, nested_owner, nested_fact, next_nesting}
use Rattle.keep_rules.specs.NestedValues.{all_nested_mentions, nesting_after, body_nesting, value_nesting}
use Rattle.keep_rules.specs.NestedValues.{keyval_nested}
use Rattle.keep_rules.proofs.KeyWalkLemmas.{below-below}

pub all_nested_mentions-append : (s : NestingState) (xs ys : List NestedValue)
    → all_nested_mentions s (xs ++ ys) ≡ all_nested_mentions s xs ++ all_nested_mentions (nesting_after s xs) ys
all_nested_mentions-append s [] ys = refl
all_nested_mentions-append s (x ∷ xs) ys =
    ap (λ w. nested_mentions s x ++ w) (all_nested_mentions-append (next_nesting s x) xs ys)
    ∙ sym (append_assoc (nested_mentions s x) (all_nested_mentions (next_nesting s x) xs)
    (all_nested_mentions (nesting_after (next_nesting s x) xs) ys))

pub nesting_after-append : (s : NestingState) (xs ys : List NestedValue)
    → nesting_after s (xs ++ ys) ≡ nesting_after (nesting_after s xs) ys
nesting_after-append s [] ys = refl
nesting_after-append s (x ∷ xs) ys = nesting_after-append (next_nesting s x) xs ys

-- the nesting state has so many values, each with its children and its entries
pub record HasValues (s : NestingState) (v : ℕ) : Type 0 where
  pub paths : length s.paths ≡ v
  pub holdings : length s.holdings ≡ v
  pub entries : length s.entries ≡ v

pub next_values : (s : NestingState) (t : NestedValue) (v : ℕ) → HasValues s v → HasValues (next_nesting s t) (suc v)
next_values s t v has = record {
  paths = length-append s.paths (nested_path s t ∷ []) ∙ omega (arith, has.paths);
  holdings = length-append s.holdings (holding_of (nested_fact t) ∷ []) ∙ omega (arith, has.holdings);
  entries =
      length-append (set s.entries (nested_owner t) (entries_of_value s (nested_owner t) + 1)) (0 ∷ [])
      ∙ omega (arith, length-set s.entries (nested_owner t) (entries_of_value s (nested_owner t) + 1), has.entries);
}

-- the values before stay, but for the entries of the value that these are in
pub record Stays (s t : NestingState) (owner v more : ℕ) : Type 0 where
  pub has : HasValues t (v + more)
  pub paths : (i : ℕ) → i < v → path_of_value t i ≡ path_of_value s i
  pub holdings : (i : ℕ) → i < v → holding_of_value t i ≡ holding_of_value s i
  pub entries : (i : ℕ) → i < v → (i ≡ owner → ⊥) → entries_of_value t i ≡ entries_of_value s i

pub next_stays : (s : NestingState) (t : NestedValue) (v : ℕ) → HasValues s v
    → Stays s (next_nesting s t) (nested_owner t) v 1
next_stays s t v has = record {
  has = subst (HasValues (next_nesting s t)) (let e : suc v ≡ v + 1 = omega arith in e) (next_values s t v has);
  paths = λ i h. get_or_append_left s.paths (nested_path s t ∷ []) [] i (omega (arith, has.paths));
  holdings =
      λ i h. get_or_append_left s.holdings (holding_of (nested_fact t) ∷ []) nothing i (omega (arith, has.holdings));
  entries = λ i h ne.
      get_or_append_left (set s.entries (nested_owner t) (entries_of_value s (nested_owner t) + 1)) (0 ∷ []) 0 i
      (omega (arith, length-set s.entries (nested_owner t) (entries_of_value s (nested_owner t) + 1), has.entries))
      ∙ get_or-set_other s.entries (nested_owner t) i (entries_of_value s (nested_owner t) + 1) 0 ne;
}

-- the entries of the owner of a value
pub owner_entries : (s : NestingState) (t : NestedValue) (v : ℕ) → HasValues s v → nested_owner t < v
    → entries_of_value (next_nesting s t) (nested_owner t) ≡ entries_of_value s (nested_owner t) + 1
owner_entries s t v has h =
    get_or_append_left (set s.entries (nested_owner t) (entries_of_value s (nested_owner t) + 1)) (0 ∷ []) 0
    (nested_owner t) (omega (
      arith,
      length-set s.entries (nested_owner t) (entries_of_value s (nested_owner t) + 1),
      has.entries,
    ))
    ∙ get_or-set_same s.entries (nested_owner t) (entries_of_value s (nested_owner t) + 1) 0
    (omega (arith, has.entries))

-- the new value in the nesting state
pub new_path : (s : NestingState) (t : NestedValue) (v : ℕ) → HasValues s v
    → path_of_value (next_nesting s t) v ≡ nested_path s t
new_path s t v has = get_or_push s.paths (nested_path s t) [] v has.paths

pub new_holding : (s : NestingState) (t : NestedValue) (v : ℕ) → HasValues s v
    → holding_of_value (next_nesting s t) v ≡ holding_of (nested_fact t)
new_holding s t v has = get_or_push s.holdings (holding_of (nested_fact t)) nothing v has.holdings

pub new_entries : (s : NestingState) (t : NestedValue) (v : ℕ) → HasValues s v
    → entries_of_value (next_nesting s t) v ≡ 0
new_entries s t v has =
    get_or_push (set s.entries (nested_owner t) (entries_of_value s (nested_owner t) + 1)) 0 0 v
    (length-set s.entries (nested_owner t) (entries_of_value s (nested_owner t) + 1) ∙ has.entries)

stays_none : (s : NestingState) (owner v : ℕ) → HasValues s v → Stays s s owner v 0
stays_none s owner v has = record {
  has = subst (HasValues s) (let e : v ≡ v + 0 = omega arith in e) has;
  paths = λ i h. refl;
  holdings = λ i h. refl;
  entries = λ i h ne. refl;
}

-- first one value, then those in it, then the further ones
stays_through : (s a b c : NestingState) (owner v inner rest : ℕ) → owner < v → Stays s a owner v 1
    → Stays a b v (suc v) inner → Stays b c owner (suc v + inner) rest → Stays s c owner v (suc (inner + rest))
stays_through s a b c owner v inner rest low f g h = record {
  has = subst (HasValues c) (let e : (suc v + inner) + rest ≡ v + suc (inner + rest) = omega arith in e) h.has;
  paths = λ i l. h.paths i (omega arith) ∙ g.paths i (omega arith) ∙ f.paths i l;
  holdings = λ i l. h.holdings i (omega arith) ∙ g.holdings i (omega arith) ∙ f.holdings i l;
  entries =
      λ i l ne. h.entries i (omega arith) ne ∙ g.entries i (omega arith) (λ e. absurd (omega (arith, e, l)))
      ∙ f.entries i l ne;
}

pub owner_is : (o : ℕ) (name : Option Name) (f : Fact) → nested_owner (entry_nested o name f) ≡ o
owner_is o None f = refl
owner_is o (Some name) f = refl

pub fact_is : (o : ℕ) (name : Option Name) (f : Fact) → nested_fact (entry_nested o name f) ≡ f
fact_is o None f = refl
fact_is o (Some name) f = refl

pub nested_stay : (s : NestingState) (owner v : ℕ) (es : Entries) → HasValues s v → owner < v
    → Stays s (nesting_after s (nested_values owner v es)) owner v (value_count es)
nested_stay s owner v none has low = stays_none s owner v has
nested_stay s owner v (entry name body nested after comma rest) has low =
    let t : NestedValue = entry_nested owner name (body_fact body) in
    let a : NestingState = next_nesting s t in
    let b : NestingState = nesting_after a (nested_values v (suc v) nested) in
    let first : Stays s a owner v 1 =
    subst (λ (o : ℕ). Stays s a o v 1) (owner_is owner name (body_fact body)) (next_stays s t v has) in
    let second = nested_stay a v (suc v) nested (next_values s t v has) (omega arith) in
    let third = nested_stay b owner (suc v + value_count nested) rest second.has (omega arith) in
    subst (λ (c : NestingState). Stays s c owner v (suc (value_count nested + value_count rest)))
    (sym (nesting_after-append a (nested_values v (suc v) nested)
    (nested_values owner (suc v + value_count nested) rest)))
    (stays_through s a b _ owner v (value_count nested) (value_count rest) low first second third)

-- the mentions of a value with a key: of the key's parts but the last, of the value, and then of what is in it
keyed_nested : (k : List ℕ) (ks : List (List ℕ)) (f : Fact) (nested : List Mention)
    → keyed_mentions (k ∷ ks) (record { path = []; kind = marks.value f } ∷ nested)
    ≡ keyed_mentions (k ∷ ks) (record { path = []; kind = marks.value f } ∷ []) ++ map (below (map key (k ∷ ks))) nested
keyed_nested k [] f nested = refl
keyed_nested k (l ∷ ks) f nested =
    ap (λ w. record { path = key k ∷ []; kind = marks.dotted } ∷ map (below (key k ∷ [])) w)
    (keyed_nested l ks f nested)
    ∙ ap (λ w. record { path = key k ∷ []; kind = marks.dotted } ∷ w)
    (map-append (below (key k ∷ [])) (keyed_mentions (l ∷ ks) (record { path = []; kind = marks.value f } ∷ []))
    (map (below (map key (l ∷ ks))) nested)
    ∙ ap (λ w.
    map (below (key k ∷ [])) (keyed_mentions (l ∷ ks) (record { path = []; kind = marks.value f } ∷ [])) ++ w)
    (below-below (key k ∷ []) (map key (l ∷ ks)) nested))

entry_split : (s : NestingState) (owner : ℕ) (name : Option Name) (f : Fact) (nested : List Mention)
    → map (below (path_of_value s owner)) (entry_mentions (entries_of_value s owner) name f nested)
    ≡ nested_mentions s (entry_nested owner name f) ++ map (below (nested_path s (entry_nested owner name f))) nested
entry_split s owner None f nested =
    ap (λ w. record { path = path_of_value s owner ++ index (entries_of_value s owner) ∷ []; kind = marks.item f } ∷ w)
    (below-below (path_of_value s owner) (index (entries_of_value s owner) ∷ []) nested)
entry_split s owner (Some name) f nested =
    let ks : List (List ℕ) = keys_of name.key in
    let own : List Mention = record { path = []; kind = marks.value f } ∷ [] in
    ap (map (below (path_of_value s owner)))
    (keyed_nested (key_value name.key.first) (map further_value name.key.more) f nested)
    ∙ map-append (below (path_of_value s owner)) (keyed_mentions ks own) (map (below (map key ks)) nested)
    ∙ ap (λ w. map (below (path_of_value s owner)) (keyed_mentions ks own) ++ w)
    (below-below (path_of_value s owner) (map key ks) nested)

-- the mentions of entries, seen from the path of their value
pub nested_mentions_are : (s : NestingState) (owner v : ℕ) (es : Entries) → HasValues s v → owner < v
    → all_nested_mentions s (nested_values owner v es)
    ≡ map (below (path_of_value s owner)) (entries_mentions (entries_of_value s owner) es)
nested_mentions_are s owner v none has low = refl
nested_mentions_are s owner v (entry name body nested after comma rest) has low =
    let f : Fact = body_fact body in
    let t : NestedValue = entry_nested owner name f in
    let a : NestingState = next_nesting s t in
    let ins : List NestedValue = nested_values v (suc v) nested in
    let b : NestingState = nesting_after a ins in
    let more : List NestedValue = nested_values owner (suc v + value_count nested) rest in
    let p : List Part = path_of_value s owner in
    let n : ℕ = entries_of_value s owner in
    let first : Stays s a owner v 1 =
    subst (λ (o : ℕ). Stays s a o v 1) (owner_is owner name f) (next_stays s t v has) in
    let has' = next_values s t v has in
    let second = nested_stay a v (suc v) nested has' (omega arith) in
    let at_v : path_of_value a v ≡ nested_path s t = new_path s t v has in
    let inner : all_nested_mentions a ins ≡ map (below (nested_path s t)) (entries_mentions 0 nested) =
    nested_mentions_are a v (suc v) nested has' (omega arith)
    ∙ ap (λ q. map (below q) (entries_mentions (entries_of_value a v) nested)) at_v
    ∙ ap (λ k. map (below (nested_path s t)) (entries_mentions k nested)) (new_entries s t v has) in
    let count : entries_of_value b owner ≡ n + 1 =
    second.entries owner (omega arith) (λ e. absurd (omega (arith, e, low))) ∙
    subst (λ (o : ℕ). entries_of_value a o ≡ entries_of_value s o + 1) (owner_is owner name f)
    (owner_entries s t v has (omega (arith, owner_is owner name f))) in
    let place : path_of_value b owner ≡ p = second.paths owner (omega arith) ∙ first.paths owner low in
    let outer : all_nested_mentions b more ≡ map (below p) (entries_mentions (n + 1) rest) =
    nested_mentions_are b owner (suc v + value_count nested) rest second.has (omega arith)
    ∙ ap (λ q. map (below q) (entries_mentions (entries_of_value b owner) rest)) place
    ∙ ap (λ k. map (below p) (entries_mentions k rest)) count in
    ap (λ w. nested_mentions s t ++ w)
    (all_nested_mentions-append a ins more ∙ ap (λ w. w ++ all_nested_mentions b more) inner
    ∙ ap (λ w. map (below (nested_path s t)) (entries_mentions 0 nested) ++ w) outer)
    ∙ sym (append_assoc (nested_mentions s t) (map (below (nested_path s t)) (entries_mentions 0 nested))
    (map (below p) (entries_mentions (n + 1) rest)))
    ∙ ap (λ w. w ++ map (below p) (entries_mentions (n + 1) rest))
    (sym (entry_split s owner name f (entries_mentions 0 nested)))
    ∙ sym (map-append (below p) (entry_mentions n name f (entries_mentions 0 nested)) (entries_mentions (n + 1) rest))

one_value : (path : List Part) (h : Holding)
    → HasValues (record { paths = path ∷ []; holdings = h ∷ []; entries = 0 ∷ [] }) 1
one_value path h = record { paths = refl; holdings = refl; entries = refl }

-- a keyval in a body
pub keyval_nested-mentions : (body : List Part) (name : Name) (v : Value)
    → all_nested_mentions (body_nesting body) (keyval_nested name v) ≡ map (below body) (keyval_mentions name v)
keyval_nested-mentions body name v =
    ap (λ w. all_nested_mentions (body_nesting body) (nested_keyed 0 (keys_of name.key) (body_fact v.body) ∷ w))
    (sym (append-nil (nested_values 1 2 v.nested)))
    ∙ nested_mentions_are (body_nesting body) 0 1 (entry (Some name) v.body v.nested [] None none)
    (one_value body by_key) (omega arith)
    ∙ ap (map (below body)) (append-nil (keyval_mentions name v))

below-none : (ms : List Mention) → map (below []) ms ≡ ms
below-none [] = refl
below-none (m ∷ ms) = ap (λ w. m ∷ w) (below-none ms)

-- the values in a value alone
pub value_nested-mentions : (v : Value)
    → all_nested_mentions (value_nesting (body_fact v.body)) (nested_values 0 1 v.nested) ≡ entries_mentions 0 v.nested
value_nested-mentions v =
    nested_mentions_are (value_nesting (body_fact v.body)) 0 1 v.nested (one_value [] (holding_of (body_fact v.body)))
    (omega arith) ∙ below-none (entries_mentions 0 v.nested)
