-- Tables of dotted keys that a line more goes on from: what is stored of one that has a mention more, of all of them
-- one after another, and what their paths are.
--
-- The stored facts of a table change in its marks and its number alone, so the tree of steps stays (`mentioned`). Each
-- table can take as many mentions as are left, so after one of them each can take one less (`next_takers`). They are
-- found from the lowest on, by their parents: those that are found, turned around, come after those that are left
-- (`one_found`), and where all their steps are keys, their paths are those to which these keys lead (`paths_up`).
--
-- Theorems: `info_mentioned`, `mentioned`, `first_takes`, `next_takers`, `one_found` and `paths_up`.
use Rattle.std.proofs.Common.{◌≡◌, ℕ, zero, suc, ◌+◌, ◌-◌, ◌<◌, ◌^◌, ◌==◌, Bool, false, cond, List, [], ◌∷◌, ◌++◌}
use Rattle.std.proofs.Common.{length, get_or, set, map, drop, refl, sym, ◌∙◌, ap, ap₂, subst, arith, inl, inr, Option}
use Rattle.std.proofs.Common.{Some, None}
use Rattle.std.specs.Prelude.{All, max, reverse}
use Rattle.std.proofs.lemmas.Bool.{cases_eq}
use Rattle.std.proofs.lemmas.Bool.Decides.{nat_tests}
use Rattle.std.proofs.lemmas.List.{append-nil, append_assoc, get_or-map, get_or-reverse, get_or-set_other}
use Rattle.std.proofs.lemmas.List.{get_or-set_same, get_or_append_left, get_or_push, length-append, length-map}
use Rattle.std.proofs.lemmas.List.{length-reverse, length-set, map-append, reverse-append}
use Rattle.std.proofs.Math.Seq.{drop-cons}
use Rattle.keep_types.specs.declared.node.NodeInfo.{NodeInfo}
use Rattle.keep_types.specs.declared.node.Origin.{Origin}
use Rattle.keep_types.specs.declared.node.Origin.TheVariants as origin
use Rattle.keep_path.specs.Dots.{info_with_dots, with_dots}
use Rattle.keep_path.specs.KeysAlone.{paths_below}
use Rattle.keep_path.specs.NodeInfos.{NodeInfos, no_info}
use Rattle.keep_path.specs.NodesBelow.{value_of}
use Rattle.keep_path.specs.Path.{Part, key}
use Rattle.keep_index_store.specs.declared.facts.NodeFacts.{NodeFacts}
use Rattle.keep_index_store.specs.declared.facts.OriginKind.{OriginKind}
use Rattle.keep_index_store.specs.declared.facts.OriginKind.TheVariants as origin_kind
use Rattle.keep_index_store.specs.AllNodes.{Node, no_node, node_at, with_facts}
use Rattle.keep_index_store.specs.Dots.{AreTakers, CanTake, IsTaker, up_from, with_mention}
use Rattle.keep_index_store.specs.Facts.{info_of, origin_of}
use Rattle.keep_index_store.specs.Stored.{IsStored, infos_of, trie_of}
use Rattle.keep_index_store.specs.Tree.{TrieInfos, info_at, node_infos, tree_of}
use Rattle.keep_index_store.specs.Trie.{IsTrie, TrieNode, link, parent_at, path_at, paths_of}
use Rattle.keep_index_store.proofs.NewNodeLemmas.{first}
use Rattle.keep_index_store.proofs.StoredLemmas.{IsChanged, infos_changed, stored_preserved, trie_of_preserved}
use Rattle.keep_index_store.proofs.TrieLemmas.{path_at-link, push_same}

-- ---- one table

not_zero : (n : ℕ) → 0 < n → (n == 0) ≡ false
not_zero n some = grind (arith, nat_tests)

marked : (marks k : ℕ) → 0 < marks → cond (suc marks == 0) None (Some k) ≡ cond (marks == 0) None (Some k)
marked marks k some =
    ap (λ (b : Bool). cond b None (Some k)) (not_zero (suc marks) (omega arith) ∙ sym (not_zero marks some))

number_grown : (v w : ℕ) (k : OriginKind) (n : ℕ) (i : NodeInfo) → i.origin ≡ origin_of k n
    → origin_of k n ≡ origin.Dotted w → origin_of k (max v n) ≡ origin.Dotted (max v (value_of i))
number_grown v w origin_kind.Root n i own is = absurd cc
number_grown v w origin_kind.Through n i own is = absurd cc
number_grown v w origin_kind.Dotted n i own is =
    ap (λ (o : Origin). origin.Dotted (max v (value_of (record i { origin = o })))) (sym own)
number_grown v w origin_kind.Header n i own is = absurd cc
number_grown v w origin_kind.Element n i own is = absurd cc
number_grown v w origin_kind.Tables n i own is = absurd cc
number_grown v w origin_kind.Value n i own is = absurd cc

pub info_mentioned : (v many : ℕ) (t : NodeFacts) → CanTake many (info_of t)
    → info_of (with_mention v t) ≡ info_with_dots v (info_of t)
info_mentioned v many t takes =
    ap₂ (λ (k : Option ℕ) (o : Origin).
    let i : NodeInfo = record { kind = t.kind; key = k; marks = suc t.marks; passed = t.passed; origin = o } in i)
    (marked t.marks t.key takes.named) (number_grown v takes.dotted.0 t.origin t.number (info_of t) refl takes.dotted.1)

module _ (v : ℕ) (nodes : List Node) (t : TrieInfos) (view : tree_of nodes ≡ t) (stored : IsStored nodes) (id : ℕ)
    (within : id < length t.infos) (takes : CanTake 1 (info_at t id)) where
  pub low : id < length nodes
  low =
      omega (
        arith,
        within,
        ap (λ (x : TrieInfos). length x.infos) view,
        length-map nodes (λ (n : Node). info_of n.facts),
      )

  own : CanTake 1 (info_of (node_at nodes id).facts)
  own =
      subst (CanTake 1) (get_or-map (λ (n : Node). info_of n.facts) nodes id no_node no_info low)
      (subst (λ (x : TrieInfos). CanTake 1 (info_at x id)) (sym view) takes)

  pub room : (node_at nodes id).facts.marks + 1 < 2 ^ 16
  room = own.room

  abbrev changed : Node
  changed = record (node_at nodes id) { facts = with_mention v (node_at nodes id).facts }

  is_changed : IsChanged nodes id no_node changed
  is_changed = record { stored = stored; within = low; parent = refl; number = refl; children = refl }

  module _ (after : List Node) (is : after ≡ with_facts nodes id (with_mention v (node_at nodes id).facts)) where
    pub mentioned_stored : IsStored after
    mentioned_stored = subst IsStored (sym is) (stored_preserved nodes id no_node changed is_changed refl)

    pub mentioned_trie : trie_of after ≡ t.trie
    mentioned_trie =
        ap trie_of is ∙ trie_of_preserved nodes id no_node changed is_changed refl
        ∙ ap (λ (x : TrieInfos). x.trie) view

    pub mentioned_infos : infos_of after ≡ set t.infos id (info_with_dots v (info_at t id))
    mentioned_infos =
        ap infos_of is
        ∙ infos_changed (info_with_dots v) nodes id no_node changed low
        (info_mentioned v 1 (node_at nodes id).facts own)
        ∙ ap (λ (x : TrieInfos). set x.infos id (info_with_dots v (info_at x id))) view

-- ---- one table after another

module _ (v : ℕ) (infos : List NodeInfo) (id : ℕ) (ids : List ℕ) (all : AreTakers infos (id ∷ ids)) where
  own_taker : IsTaker (suc (length ids)) infos id
  own_taker = all 0 0 (omega arith)

  pub first_within : id < length infos
  first_within = own_taker.0

  pub first_takes : CanTake 1 (get_or infos id no_info)
  first_takes =
      let own = own_taker.1 in
      record { named = own.named; room = omega (arith, own.room); dotted = own.dotted }

  pub next_takers : AreTakers (set infos id (info_with_dots v (get_or infos id no_info))) ids
  next_takers k d h =
      let x : NodeInfo = info_with_dots v (get_or infos id no_info) in
      let other : IsTaker (suc (length ids)) infos (get_or ids k d) = all (suc k) d (omega (arith, h)) in
      let one = own_taker.1 in
      let two = other.1 in (
        omega (arith, other.0, length-set infos id x),
        elim (cases_eq (get_or ids k d) id) [
          | inl same ↦
              subst (CanTake (length ids))
              (sym (ap (λ (n : ℕ). get_or (set infos id x) n no_info) same
              ∙ get_or-set_same infos id x no_info first_within))
              (record { named = omega arith; room = omega (arith, one.room); dotted = (_, refl) })
          | inr apart ↦
              subst (CanTake (length ids)) (sym (get_or-set_other infos id (get_or ids k d) x no_info apart))
              (record { named = two.named; room = omega (arith, two.room); dotted = two.dotted })
        ],
      )

module _ (v : ℕ) (t : TrieInfos) (ids : List ℕ) (i d : ℕ) (within : i < length ids)
    (all : AreTakers t.infos (drop i ids)) where
  abbrev table : ℕ
  table = get_or ids i d

  split : drop i ids ≡ table ∷ drop (i + 1) ids
  split = drop-cons ids i d within ∙ ap (λ (n : ℕ). table ∷ drop n ids) (let e : suc i ≡ i + 1 = omega arith in e)

  takers : AreTakers t.infos (table ∷ drop (i + 1) ids)
  takers = subst (AreTakers t.infos) split all

  pub now_within : table < length t.infos
  now_within = first_within v t.infos table (drop (i + 1) ids) takers

  pub now_takes : CanTake 1 (info_at t table)
  now_takes = first_takes v t.infos table (drop (i + 1) ids) takers

  module _ (after : TrieInfos) (same : after.trie ≡ t.trie)
      (infos : after.infos ≡ set t.infos table (info_with_dots v (info_at t table))) where
    pub left_takers : AreTakers after.infos (drop (i + 1) ids)
    left_takers =
        subst (λ (is : List NodeInfo). AreTakers is (drop (i + 1) ids)) (sym infos)
        (next_takers v t.infos table (drop (i + 1) ids) takers)

    pub left_mentioned : with_dots v (drop (i + 1) ids) (node_infos after) ≡ with_dots v (drop i ids) (node_infos t)
    left_mentioned =
        ap₂ (λ (ts : List TrieNode) (is : List NodeInfo).
        let all : NodeInfos = record { paths = paths_of ts; infos = is } in with_dots v (drop (i + 1) ids) all)
        same infos
        ∙ ap (λ (ks : List ℕ). with_dots v ks (node_infos t)) (sym split)

-- ---- how they are found

pub one_found : (nodes : List TrieNode) (last id count i : ℕ) (found after : List ℕ) → i < count
    → up_from nodes id (count - i) ++ reverse found ≡ up_from nodes last count → after ≡ found ++ id ∷ []
    → up_from nodes (parent_at nodes id) (count - (i + 1)) ++ reverse after ≡ up_from nodes last count
one_found nodes last id count i found after within before is =
    let left : ℕ = count - (i + 1) in
    let more : count - i ≡ suc left = omega (arith, within) in
    ap (λ (ks : List ℕ). up_from nodes (parent_at nodes id) left ++ ks)
    (ap reverse is ∙ reverse-append found (id ∷ []))
    ∙ sym (append_assoc (up_from nodes (parent_at nodes id) left) (id ∷ []) (reverse found))
    ∙ ap (λ (n : ℕ). up_from nodes id n ++ reverse found) (sym more) ∙ before

pub All-reverse : {X : Type 0} (P : X → Type 0) (xs : List X) → All P xs → All P (reverse xs)
All-reverse P xs all k d h =
    let within : k < length xs = omega (arith, h, length-reverse xs) in
    subst P (sym (get_or-reverse xs k d within)) (all (length xs - 1 - k) d (omega (arith, within)))

-- ---- their paths

pub record HasLastKey (keys : List (List ℕ)) : Type 0 where
  pub leading : List (List ℕ)
  pub last : List ℕ
  pub is : keys ≡ leading ++ last ∷ []

last_key : (k : List ℕ) (ks : List (List ℕ)) → HasLastKey (k ∷ ks)
last_key k [] = record { leading = []; last = k; is = refl }
last_key k (j ∷ ks) =
    let rest = last_key j ks in
    record { leading = k ∷ rest.leading; last = rest.last; is = ap (λ xs. k ∷ xs) rest.is }

pub paths_more : (path : List Part) (ks : List (List ℕ)) (k : List ℕ)
    → paths_below path (ks ++ k ∷ []) ≡ paths_below path ks ++ ((path ++ map key ks) ++ key k ∷ []) ∷ []
paths_more path [] k = ap (λ p. (p ++ key k ∷ []) ∷ []) (sym (append-nil path))
paths_more path (j ∷ ks) k =
    ap (λ ps. (path ++ key j ∷ []) ∷ ps)
    (paths_more (path ++ key j ∷ []) ks k
    ∙ ap (λ p. paths_below (path ++ key j ∷ []) ks ++ (p ++ key k ∷ []) ∷ [])
    (append_assoc path (key j ∷ []) (map key ks)))

-- the nodes are below the root
abbrev pub AreLater : List ℕ → Type 0
AreLater ids = All (λ id. 0 < id) ids

later_left : (ids : List ℕ) (id : ℕ) → AreLater (ids ++ id ∷ []) → AreLater ids
later_left ids id all k d h =
    subst (λ (n : ℕ). 0 < n) (get_or_append_left ids (id ∷ []) d k h)
    (all k d (omega (arith, h, length-append ids (id ∷ []))))

later_last : (ids : List ℕ) (id : ℕ) → AreLater (ids ++ id ∷ []) → 0 < id
later_last ids id all =
    subst (λ (n : ℕ). 0 < n) (get_or_push ids id 0 (length ids) refl)
    (all (length ids) 0 (omega (arith, length-append ids (id ∷ []))))

pub paths_up : (nodes : List TrieNode) → IsTrie nodes → (n id : ℕ) → id < length nodes → AreLater (up_from nodes id n)
    → (base : List Part) (passed : List (List ℕ)) → path_at nodes id ≡ base ++ map key passed → length passed ≡ n
    → map (path_at nodes) (up_from nodes id n) ≡ paths_below base passed
paths_up nodes trie zero id low later base [] here many = refl
paths_up nodes trie zero id low later base (k ∷ ks) here many = absurd (omega (arith, many))
paths_up nodes trie (suc n) id low later base [] here many = absurd (omega (arith, many))
paths_up nodes trie (suc n) id low later base (k ∷ ks) here many =
    let own = last_key k ks in
    let d : TrieNode = first nodes trie in
    let up : ℕ = parent_at nodes id in
    let above : List ℕ = up_from nodes up n in
    let high : 0 < id = later_last above id later in
    let up_is : up ≡ (get_or nodes id d).parent = get_or-map (λ (x : TrieNode). x.parent) nodes id d 0 low in
    let part : Part = (link (get_or nodes id d)).1 in
    let leads : (base ++ map key own.leading) ++ key own.last ∷ [] ≡ base ++ map key (k ∷ ks) =
    append_assoc base (map key own.leading) (key own.last ∷ [])
    ∙ ap (λ ps. base ++ ps) (sym (ap (map key) own.is ∙ map-append key own.leading (own.last ∷ []))) in
    let same = push_same (path_at nodes up) (base ++ map key own.leading) part (key own.last)
    (ap (λ (p : ℕ). path_at nodes p ++ part ∷ []) up_is ∙ sym (path_at-link nodes trie id d high low) ∙ here
    ∙ sym leads) in
    let few : length own.leading ≡ n =
    omega (arith, many, ap length own.is, length-append own.leading (own.last ∷ [])) in
    let below : up < length nodes = omega (arith, up_is, trie.parents id d high low, low) in
    map-append (path_at nodes) above (id ∷ [])
    ∙ ap₂ (λ (ps : List (List Part)) (p : List Part). ps ++ p ∷ [])
    (paths_up nodes trie n up below (later_left above id later) base own.leading same.0 few) (here ∙ sym leads)
    ∙ sym (paths_more base own.leading own.last) ∙ ap (paths_below base) (sym own.is)
