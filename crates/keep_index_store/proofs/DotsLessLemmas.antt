-- Tables of dotted keys that a line less goes on from: what is stored of one that has a mention less, and of all of
-- them one after another.
--
-- The stored facts of a table change in its marks and its number alone, so the tree of steps stays (`less_trie`). The
-- table has a mark left, so the same key part still names it (`info_given`). Those above it are other nodes, so they
-- are as they were (`givers_stay`), and no number of a value is new (`small_stay`).
--
-- Theorems: `less_there`, `less_stored`, `greatest_small`, `givers_stay`, `next_givers`, `small_stay` and
-- `greatest_next`.
use Rattle.std.proofs.Common.{◌≡◌, ℕ, zero, suc, ◌+◌, ◌-◌, ◌<◌, ◌≤◌, ◌^◌, ◌==◌, Bool, false, cond, List, [], ◌∷◌}
use Rattle.std.proofs.Common.{length, get_or, set, drop, refl, sym, ◌∙◌, ap, ap₂, subst, arith, inl, inr, Option, Some}
use Rattle.std.proofs.Common.{None}
use Rattle.std.specs.Prelude.{All, max, slice_get}
use Rattle.std.specs.Ordering.{nat_cmp, ord_max}
use Rattle.std.proofs.lemmas.Bool.{cases_lt}
use Rattle.std.proofs.lemmas.Bool.Decides.{nat_tests}
use Rattle.std.proofs.lemmas.Grind.{common_steps}
use Rattle.std.proofs.lemmas.List.{get_or-map, get_or-set_other}
use Rattle.std.proofs.lemmas.List.Elements.{All-set}
use Rattle.std.proofs.lemmas.Option.{get_or_from_slice_get, slice_get_within}
use Rattle.std.proofs.Math.ListN.{get_or-eq_default}
use Rattle.std.proofs.Math.Seq.{drop-cons}
use Rattle.keep_types.specs.declared.node.NodeInfo.{NodeInfo}
use Rattle.keep_types.specs.declared.node.Origin.{Origin}
use Rattle.keep_types.specs.declared.node.Origin.TheVariants as origin
use Rattle.keep_path.specs.NodeInfos.{no_info}
use Rattle.keep_path.specs.NodesBelow.{value_of}
use Rattle.keep_index_store.specs.declared.facts.NodeFacts.{NodeFacts}
use Rattle.keep_index_store.specs.declared.facts.OriginKind.{OriginKind}
use Rattle.keep_index_store.specs.declared.facts.OriginKind.TheVariants as origin_kind
use Rattle.keep_index_store.specs.AllNodes.{Node, no_node, node_at, with_facts}
use Rattle.keep_index_store.specs.DotsLess.{AreGivers, CanGive, HasSmallValue}
use Rattle.keep_index_store.specs.DotsLess.{greatest_value, less_mentioned, without_mention}
use Rattle.keep_index_store.specs.Facts.{info_of, origin_of}
use Rattle.keep_index_store.specs.Stored.{IsStored, infos_of, trie_of}
use Rattle.keep_index_store.specs.Tree.{TrieInfos, info_at, tree_of}
use Rattle.keep_index_store.specs.Trie.{IsTrie, TrieNode, children_of, parent_at}
use Rattle.keep_index_store.proofs.NewNodeLemmas.{first}
use Rattle.keep_index_store.proofs.StoredLemmas.{IsChanged, infos_changed, length_trie_of, stored_preserved}
use Rattle.keep_index_store.proofs.StoredLemmas.{trie_of_preserved}
use Rattle.keep_index_store.proofs.TrieLemmas.{child_at}

-- ---- one table

named_still : (marks k : ℕ) → 1 < marks → cond (marks - 1 == 0) None (Some k) ≡ cond (marks == 0) None (Some k)
named_still marks k more =
    let then : (marks - 1 == 0) ≡ false = grind (arith, nat_tests) in
    let now : (marks == 0) ≡ false = grind (arith, nat_tests) in
    ap (λ (b : Bool). cond b None (Some k)) (then ∙ sym now)

other_number : (v w : ℕ) (k : OriginKind) (n : ℕ) → origin_of k n ≡ origin.Dotted w → origin_of k v ≡ origin.Dotted v
other_number v w origin_kind.Root n is = absurd cc
other_number v w origin_kind.Through n is = absurd cc
other_number v w origin_kind.Dotted n is = refl
other_number v w origin_kind.Header n is = absurd cc
other_number v w origin_kind.Element n is = absurd cc
other_number v w origin_kind.Tables n is = absurd cc
other_number v w origin_kind.Value n is = absurd cc

-- the facts with one mention less, where the last keyval that continues has a value with the number v
abbrev pub info_less : ℕ → NodeInfo → NodeInfo
info_less v i = record i { marks = i.marks - 1; origin = origin.Dotted v }

info_given : (v : ℕ) (t : NodeFacts) → CanGive (info_of t) → info_of (without_mention v t) ≡ info_less v (info_of t)
info_given v t gives =
    ap₂ (λ (k : Option ℕ) (o : Origin).
    let i : NodeInfo = record { kind = t.kind; key = k; marks = t.marks - 1; passed = t.passed; origin = o } in i)
    (named_still t.marks t.key gives.more) (other_number v gives.dotted.0 t.origin t.number gives.dotted.1)

module _ (v : ℕ) (nodes : List Node) (t : TrieInfos) (view : tree_of nodes ≡ t) (stored : IsStored nodes) (id : ℕ)
    (within : id < length t.trie) (gives : CanGive (info_at t id)) where
  pub low : id < length nodes
  low =
      omega (
        arith,
        within,
        ap (λ (x : TrieInfos). length x.trie) view,
        length_trie_of nodes,
      )

  own : CanGive (info_of (node_at nodes id).facts)
  own =
      subst CanGive (get_or-map (λ (n : Node). info_of n.facts) nodes id no_node no_info low)
      (subst (λ (x : TrieInfos). CanGive (info_at x id)) (sym view) gives)

  pub some : 0 < (node_at nodes id).facts.marks
  some = omega (arith, own.more)

  abbrev changed : Node
  changed = record (node_at nodes id) { facts = without_mention v (node_at nodes id).facts }

  is_changed : IsChanged nodes id no_node changed
  is_changed = record { stored = stored; within = low; parent = refl; number = refl; children = refl }

  module _ (after : List Node) (is : after ≡ with_facts nodes id (without_mention v (node_at nodes id).facts)) where
    pub less_stored : IsStored after
    less_stored = subst IsStored (sym is) (stored_preserved nodes id no_node changed is_changed refl)

    less_trie : trie_of after ≡ t.trie
    less_trie =
        ap trie_of is ∙ trie_of_preserved nodes id no_node changed is_changed refl
        ∙ ap (λ (x : TrieInfos). x.trie) view

    less_infos : infos_of after ≡ set t.infos id (info_less v (info_at t id))
    less_infos =
        ap infos_of is
        ∙ infos_changed (info_less v) nodes id no_node changed low (info_given v (node_at nodes id).facts own)
        ∙ ap (λ (x : TrieInfos). set x.infos id (info_less v (info_at x id))) view

    pub less_there : v ≡ greatest_value t.infos (children_of t.trie id) → tree_of after ≡ less_mentioned id t
    less_there last =
        ap₂ (λ (ts : List TrieNode) (is : List NodeInfo). let x : TrieInfos = record { trie = ts; infos = is } in x)
        less_trie (less_infos ∙ ap (λ (n : ℕ). set t.infos id (info_less n (info_at t id))) last)

-- ---- the number of the last value

small_at : (infos : List NodeInfo) → All HasSmallValue infos → (id : ℕ) → HasSmallValue (get_or infos id no_info)
small_at infos small id = elim (cases_lt id (length infos)) [
  | inl low ↦ small id no_info low
  | inr past ↦
      let default : get_or infos id no_info ≡ no_info = get_or-eq_default infos no_info past in
      subst HasSmallValue (sym default) (let none : 0 < 2 ^ 32 = omega arith in none)
]

pub greatest_small : (infos : List NodeInfo) → All HasSmallValue infos → (ids : List ℕ)
    → greatest_value infos ids < 2 ^ 32
greatest_small infos small [] = omega arith
greatest_small infos small (id ∷ ids) = omega (arith, small_at infos small id, greatest_small infos small ids)

pub small_stay : (t : TrieInfos) → All HasSmallValue t.infos → (id : ℕ) → All HasSmallValue (less_mentioned id t).infos
small_stay t small id =
    let ids : List ℕ = children_of t.trie id in
    All-set HasSmallValue t.infos id (info_less (greatest_value t.infos ids) (info_at t id))
    (greatest_small t.infos small ids) small

-- the greatest of those so far, and of those that are left
pub greatest_next : (infos : List NodeInfo) (ids : List ℕ) (k last v : ℕ) → k < length ids
    → v ≡ value_of (get_or infos (get_or ids k 0) no_info)
    → max (max last v) (greatest_value infos (drop (k + 1) ids)) ≡ max last (greatest_value infos (drop k ids))
greatest_next infos ids k last v within is =
    let left : List ℕ = drop (k + 1) ids in
    let next : suc k ≡ k + 1 = omega arith in
    let split : drop k ids ≡ get_or ids k 0 ∷ left =
    drop-cons ids k 0 within ∙ ap (λ (n : ℕ). get_or ids k 0 ∷ drop n ids) next in
    let all : greatest_value infos (drop k ids)
    ≡ max (value_of (get_or infos (get_or ids k 0) no_info)) (greatest_value infos left) =
    ap (greatest_value infos) split in
    omega (arith, is, all)

-- the larger of two numbers, as a program answers it
pub larger_is : (a b : ℕ) → ord_max nat_cmp a b ≡ max a b
larger_is a b = grind (arith, common_steps)

-- a child that was found
pub record IsChildAt (nodes : List TrieNode) (i k child : ℕ) : Type 0 where
  pub nested : child < length nodes
  pub counted : k < length (children_of nodes i)
  pub is : child ≡ get_or (children_of nodes i) k 0

pub child_there : (nodes : List TrieNode) → IsTrie nodes → (i k child : ℕ) → i < length nodes
    → Some child ≡ slice_get (children_of nodes i) k → IsChildAt nodes i k child
child_there nodes trie i k child low found =
    let ids : List ℕ = children_of nodes i in
    let counted : k < length ids = slice_get_within ids k child (sym found) in
    let is : child ≡ get_or ids k 0 = sym (get_or_from_slice_get ids k child 0 (sym found)) in
    record {
      nested = omega (arith, is, (child_at nodes trie i k (first nodes trie) low counted).nested);
      counted = counted;
      is = is;
    }

-- ---- those above

pub parent_low : (nodes : List TrieNode) → IsTrie nodes → (j : ℕ) → 0 < j → j < length nodes → parent_at nodes j < j
parent_low nodes trie j later h =
    let d : TrieNode = first nodes trie in
    omega (arith, get_or-map (λ (x : TrieNode). x.parent) nodes j d 0 h, trie.parents j d later h)

-- what nodes before `at` are stays
module _ (t u : TrieInfos) (at : ℕ) (trie : IsTrie t.trie) (within : at ≤ length t.trie)
    (parents : (j : ℕ) → 0 < j → j < at → parent_at u.trie j ≡ parent_at t.trie j)
    (give : (j : ℕ) → j < at → CanGive (info_at t j) → CanGive (info_at u j)) where
  pub givers_stay : (n j : ℕ) → j < at → AreGivers t j n → AreGivers u j n
  givers_stay zero j h all = tt
  givers_stay (suc n) j h all =
      let later : 0 < j = all.0.later in
      let up : parent_at t.trie j < j = parent_low t.trie trie j later (omega (arith, h, within)) in (
        record { later = later; gives = give j h all.0.gives },
        subst (λ (k : ℕ). AreGivers u k n) (sym (parents j later h))
            (givers_stay n (parent_at t.trie j) (omega (arith, up, h)) all.1),
      )

pub next_givers : (t : TrieInfos) → IsTrie t.trie → (id n : ℕ) → id < length t.trie → AreGivers t id (suc n)
    → AreGivers (less_mentioned id t) (parent_at t.trie id) n
next_givers t trie id n within all =
    let x : NodeInfo = info_less (greatest_value t.infos (children_of t.trie id)) (info_at t id) in
    givers_stay t (less_mentioned id t) id trie (omega (arith, within)) (λ j later h. refl)
    (λ j h gives.
    subst CanGive (sym (get_or-set_other t.infos id j x no_info (λ same. omega (arith, h, same)))) gives) n
    (parent_at t.trie id) (parent_low t.trie trie id all.0.later within) all.1
