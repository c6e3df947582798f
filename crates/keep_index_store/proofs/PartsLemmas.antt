-- The numbers of key parts, where a line comes that has several of them, and where they are moved back.
--
-- Theorems: `parts_moved`: moving the stored numbers moves those that are seen; `parts_back`: they are as they were.
use Rattle.std.proofs.Common.{◌≡◌, ℕ, ◌+◌, ◌-◌, Bool, cond, List, [], ◌∷◌, map, refl, ◌∙◌, ap}
use Rattle.std.proofs.Common.{ap₂, subst, sym, arith, inl, inr, Option, Some, None}
use Rattle.std.specs.Option.{option_map}
use Rattle.std.proofs.lemmas.Bool.{cases_lt, lt-ltb, le-ltb}
use Rattle.keep_types.specs.declared.node.NodeInfo.{NodeInfo}
use Rattle.keep_types.specs.declared.node.Origin.{Origin}
use Rattle.keep_types.specs.declared.node.Origin.TheVariants as origin
use Rattle.keep_path.specs.Dots.{with_parts_from}
use Rattle.keep_path.specs.NodeInfos.{NodeInfos, renumbered_origin}
use Rattle.keep_path.specs.NodesBelow.{shifted, with_numbers}
use Rattle.keep_index_store.specs.declared.shift.NumberShifts.{NumberShifts}
use Rattle.keep_index_store.specs.declared.shift.Shift.{Shift}
use Rattle.keep_index_store.specs.AllNodes.{Node}
use Rattle.keep_index_store.specs.Below.{with_shifted_facts}
use Rattle.keep_index_store.specs.Dots.{without_parts}
use Rattle.keep_index_store.specs.Stored.{IsStored, infos_of, trie_of}
use Rattle.keep_index_store.specs.Tree.{TrieInfos, node_infos, tree_of}
use Rattle.keep_index_store.specs.Trie.{TrieNode, paths_of}
use Rattle.keep_index_store.proofs.BelowFactsLemmas.{infos_shifted, stored_shifted, trie_unmoved}

-- ---- as they are stored

value_stays : (n : ℕ) → shifted 0 0 0 n ≡ n
value_stays n =
    ap (λ (b : Bool). cond b n ((n + 0) - 0)) (le-ltb n 0 (omega arith)) ∙ (let e : (n + 0) - 0 ≡ n = omega arith in e)

origin_stays : (o : Origin) → renumbered_origin (λ s. s) (shifted 0 0 0) o ≡ renumbered_origin (λ s. s) (λ v. v) o
origin_stays origin.Root = refl
origin_stays (origin.Value v) = ap origin.Value (value_stays v)
origin_stays (origin.Header s) = refl
origin_stays (origin.Element s) = refl
origin_stays (origin.Dotted v) = ap origin.Dotted (value_stays v)
origin_stays (origin.Through s) = refl
origin_stays origin.Tables = refl

info_moved : (by : ℕ → ℕ) (i : NodeInfo) → with_numbers (shifted 0 0 0) by i ≡ with_numbers (λ v. v) by i
info_moved by i =
    ap (λ (o : Origin). let j : NodeInfo = record i { key = option_map by i.key; origin = o } in j)
    (origin_stays i.origin)

infos_moved : (by : ℕ → ℕ) (is : List NodeInfo)
    → map (with_numbers (shifted 0 0 0) by) is ≡ map (with_numbers (λ v. v) by) is
infos_moved by [] = refl
infos_moved by (i ∷ is) = ap₂ (λ (x : NodeInfo) (xs : List NodeInfo). x ∷ xs) (info_moved by i) (infos_moved by is)

abbrev part_shifts : Shift → NumberShifts
part_shifts keys = record { values = record { from = 0; old = 0; new = 0 }; keys = keys }

module _ (keys : Shift) (by : NumberShifts) (is_by : by ≡ part_shifts keys) (nodes : List Node) (t : TrieInfos)
    (view : tree_of nodes ≡ t) (stored : IsStored nodes) (after : List Node)
    (is : after ≡ map (with_shifted_facts by) nodes) where
  pub parts_stored : IsStored after
  parts_stored = subst IsStored (sym is) (stored_shifted by nodes stored)

  pub parts_trie : trie_of after ≡ t.trie
  parts_trie = ap trie_of is ∙ trie_unmoved by nodes ∙ ap (λ (x : TrieInfos). x.trie) view

  abbrev moved : List NodeInfo → List NodeInfo
  moved is = map (with_numbers (λ v. v) (shifted keys.from keys.old keys.new)) is

  parts_infos : infos_of after ≡ moved t.infos
  parts_infos =
      ap infos_of (is ∙ ap (λ (b : NumberShifts). map (with_shifted_facts b) nodes) is_by)
      ∙ infos_shifted (part_shifts keys) nodes
      ∙ infos_moved (shifted keys.from keys.old keys.new) (infos_of nodes)
      ∙ ap (λ (x : TrieInfos). moved x.infos) view

  pub parts_moved : node_infos (tree_of after)
      ≡ record (node_infos t) { infos = map (with_numbers (λ v. v) (shifted keys.from keys.old keys.new)) t.infos }
  parts_moved =
      ap₂ (λ (ts : List TrieNode) (is : List NodeInfo).
      let x : NodeInfos = record { paths = paths_of ts; infos = is } in x) parts_trie parts_infos

-- ---- taken back

module _ (from more : ℕ) where
  number_back : (n : ℕ) → shifted (from + more) more 0 (shifted from 0 more n) ≡ n
  number_back n = elim (cases_lt n from) [
    | inl low ↦
        ap (λ (b : Bool). shifted (from + more) more 0 (cond b n ((n + more) - 0))) (lt-ltb n from low)
        ∙ ap (λ (b : Bool). cond b n ((n + 0) - more)) (lt-ltb n (from + more) (omega (arith, low)))
    | inr high ↦
        let moved : (n + more) - 0 ≡ n + more = omega arith in
        let back : ((n + more) + 0) - more ≡ n = omega arith in
        ap (λ (b : Bool). shifted (from + more) more 0 (cond b n ((n + more) - 0))) (le-ltb n from high)
        ∙ ap (shifted (from + more) more 0) moved
        ∙ ap (λ (b : Bool). cond b (n + more) (((n + more) + 0) - more))
        (le-ltb (n + more) (from + more) (omega (arith, high)))
        ∙ back
  ]

  key_back : (o : Option ℕ) → option_map (shifted (from + more) more 0) (option_map (shifted from 0 more) o) ≡ o
  key_back None = refl
  key_back (Some n) = ap Some (number_back n)

  origin_back : (o : Origin)
      → renumbered_origin (λ s. s) (λ v. v) (renumbered_origin (λ s. s) (λ v. v) o) ≡ o
  origin_back origin.Root = refl
  origin_back (origin.Value v) = refl
  origin_back (origin.Header s) = refl
  origin_back (origin.Element s) = refl
  origin_back (origin.Dotted v) = refl
  origin_back (origin.Through s) = refl
  origin_back origin.Tables = refl

  infos_back : (is : List NodeInfo)
      → map (with_numbers (λ v. v) (shifted (from + more) more 0))
      (map (with_numbers (λ v. v) (shifted from 0 more)) is) ≡ is
  infos_back [] = refl
  infos_back (i ∷ is) =
      ap₂ (λ (x : NodeInfo) (xs : List NodeInfo). x ∷ xs)
      (ap₂ (λ (k : Option ℕ) (o : Origin). let j : NodeInfo = record i { key = k; origin = o } in j)
      (key_back i.key) (origin_back i.origin))
      (infos_back is)

  pub parts_back : (t : NodeInfos) → without_parts from more (with_parts_from from more t) ≡ t
  parts_back t = ap (λ (is : List NodeInfo). let x : NodeInfos = record t { infos = is } in x) (infos_back t.infos)
