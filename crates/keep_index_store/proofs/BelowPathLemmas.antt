-- The nodes below a node, as the stored nodes have them and as the paths tell them.
--
-- The path of a node is that of its parent and its own step (`path_stored`). So a node after the one and up to the last
-- of those below it has a path that extends its path (`path_below`), as its parent is that node or one of them; and a
-- node whose path extends it by a step or more is one of them (`is_below`), as its parent is that node, or has such a
-- path too. So the paths tell how many they are (`run_is_below`).
--
-- Theorems: `parent_earlier`, `path_stored`, `path_below`, `is_below` and `run_is_below`.
use Rattle.std.proofs.Common.{◌≡◌, ◌≢◌, ℕ, zero, suc, ◌+◌, ◌<◌, ◌≤◌, List, [], ◌∷◌, ◌++◌, length, get_or, refl, sym}
use Rattle.std.proofs.Common.{◌∙◌, ap, append_assoc, arith, inl, inr, length-append}
use Rattle.std.proofs.lemmas.Bool.{cases_eq, cases_lt}
use Rattle.std.proofs.lemmas.List.{append-nil, nil_from_length}
use Rattle.keep_path.specs.NodesBelow.{AreBelow}
use Rattle.keep_path.specs.Path.{Part}
use Rattle.keep_index_store.specs.AllNodes.{Node, no_node, node_at}
use Rattle.keep_index_store.specs.Below.{IsRunBelow}
use Rattle.keep_index_store.specs.Stored.{IsStored, trie_node_in, trie_of}
use Rattle.keep_index_store.specs.Trie.{TrieNode, link, path_at, paths_of}
use Rattle.keep_index_store.proofs.TrieLemmas.{length-paths_of, one_node, path_at-below, path_at-root, push_same}
use Rattle.keep_index_store.proofs.StoredLemmas.{here, length_trie_of, node_placed, step_below}
use Rattle.keep_index_store.proofs.MovedListLemmas.{EndsIn, ends_in}
use Rattle.keep_index_store.proofs.ReplacedRowLemmas.{step_from}

pub parent_earlier : (nodes : List Node) → IsStored nodes → (j : ℕ) → 0 < j → j < length nodes
    → (node_at nodes j).parent < j
parent_earlier nodes stored j later h = (node_placed nodes stored j no_node later h).earlier

-- a node's path, if its parent is an earlier one
pub path_stored : (nodes : List Node) (j : ℕ) → 0 < j → j < length nodes → (node_at nodes j).parent < j
    → path_at (trie_of nodes) j
    ≡ path_at (trie_of nodes) (node_at nodes j).parent
    ++ step_from (node_at nodes (node_at nodes j).parent).children (node_at nodes j).number ∷ []
path_stored nodes j later h up =
    let u : TrieNode = trie_node_in nodes no_node in
    let p : ℕ = (node_at nodes j).parent in
    let row : get_or (trie_of nodes) j u ≡ trie_node_in nodes (node_at nodes j) = here nodes j no_node u h in
    let up' : (get_or (trie_of nodes) j u).parent < j = omega (arith, ap (λ (t : TrieNode). t.parent) row, up) in
    path_at-below (trie_of nodes) j u later (omega (arith, h, length_trie_of nodes)) up'
    ∙ ap (λ (t : TrieNode). path_at (trie_of nodes) t.parent ++ (link t).1 ∷ []) row
    ∙ ap (λ s. path_at (trie_of nodes) p ++ s ∷ [])
    (step_below nodes p no_node (node_at nodes j).number (omega (arith, up, h)))

-- a path that extends another one
pub record Extends (front path : List Part) : Type 0 where
  pub more : List Part
  pub is : path ≡ front ++ more

extended : (front above path more : List Part) (s : Part) → path ≡ above ++ s ∷ [] → above ≡ front ++ more
    → path ≡ front ++ (more ++ s ∷ [])
extended front above path more s own is =
    own ∙ ap (λ ps. ps ++ s ∷ []) is ∙ append_assoc front more (s ∷ [])

parted : (front above path more first : List Part) (s last : Part) → path ≡ above ++ s ∷ [] → path ≡ front ++ more
    → more ≡ first ++ last ∷ [] → above ≡ front ++ first
parted front above path more first s last own is ends =
    (push_same above (front ++ first) s last
    (sym own ∙ is ∙ ap (λ ps. front ++ ps) ends ∙ sym (append_assoc front first (last ∷ [])))).0

-- the numbers of those below
pub record IsWithin (id gone j : ℕ) : Type 0 where
  pub after : id < j
  pub up_to : j ≤ id + gone

module _ (nodes : List Node) (id gone : ℕ) (run : IsRunBelow nodes id gone) where
  abbrev trie : List TrieNode
  trie = trie_of nodes

  abbrev step : ℕ → Part
  step j = step_from (node_at nodes (node_at nodes j).parent).children (node_at nodes j).number

  own_path : (j : ℕ) → 0 < j → j < length nodes
      → path_at trie j ≡ path_at trie (node_at nodes j).parent ++ step j ∷ []
  own_path j later h = path_stored nodes j later h (parent_earlier nodes run.stored j later h)

  -- ---- those after it extend its path

  extends : (n j : ℕ) → j < n → id ≤ j → j ≤ id + gone → Extends (path_at trie id) (path_at trie j)
  extends zero j low from to = absurd (omega (arith, low))
  extends (suc n) j low from to = elim (cases_eq j id) [
    | inl same ↦ record { more = []; is = ap (path_at trie) same ∙ sym (append-nil (path_at trie id)) }
    | inr other ↦
        let p : ℕ = (node_at nodes j).parent in
        let h : j < length nodes = omega (arith, to, run.within) in
        let up : p < j = parent_earlier nodes run.stored j (omega (arith, from, run.later)) h in
        let from' : id ≤ p = run.below j (omega (arith, from, other)) to in
        let above : Extends (path_at trie id) (path_at trie p) =
        extends n p (omega (arith, up, low)) from' (omega (arith, up, to)) in
        record {
          more = above.more ++ step j ∷ [];
          is =
              extended (path_at trie id) (path_at trie p) (path_at trie j) above.more (step j)
              (own_path j (omega (arith, from, run.later)) h) above.is;
        }
  ]

  pub path_below : (j : ℕ) → id ≤ j → j ≤ id + gone → Extends (path_at trie id) (path_at trie j)
  path_below j = extends (suc j) j (omega arith)

  -- ---- no others do

  placed : (j : ℕ) → 0 < j → j < length nodes → id ≤ (node_at nodes j).parent → (node_at nodes j).parent ≤ id + gone
      → IsWithin id gone j
  placed j later h from to =
      let up : (node_at nodes j).parent < j = parent_earlier nodes run.stored j later h in
      elim (cases_lt (id + gone) j) [
        | inr near ↦ record { after = omega (arith, up, from); up_to = near }
        | inl far ↦ elim (run.others j far h) [
          | inl before ↦ absurd (omega (arith, before, from))
          | inr past ↦ absurd (omega (arith, past, to))
        ]
      ]

  within : (n j : ℕ) → j < n → j < length nodes → (more : List Part) → 0 < length more
      → path_at trie j ≡ path_at trie id ++ more → IsWithin id gone j
  within zero j low h more some is = absurd (omega (arith, low))
  within (suc n) j low h more some is = elim (cases_lt 0 j) [
    | inr none ↦
        let top : j ≡ 0 = omega (arith, none) in
        let root : path_at trie j ≡ [] = ap (path_at trie) top ∙ path_at-root trie in
        absurd (omega (arith, some, ap length (sym root ∙ is), length-append (path_at trie id) more))
    | inl later ↦
        let p : ℕ = (node_at nodes j).parent in
        let up : p < j = parent_earlier nodes run.stored j later h in
        let e : EndsIn more = ends_in more some in
        let front : path_at trie p ≡ path_at trie id ++ e.front =
        parted (path_at trie id) (path_at trie p) (path_at trie j) more e.front (step j) e.last (own_path j later h) is
        e.is in
        elim (cases_lt 0 (length e.front)) [
          | inl more' ↦
              let above : IsWithin id gone p =
              within n p (omega (arith, up, low)) (omega (arith, up, h)) e.front more' front in
              placed j later h (omega (arith, above.after)) above.up_to
          | inr none ↦
              let alone : e.front ≡ [] = nil_from_length e.front (omega (arith, none)) in
              let same : p ≡ id = one_node trie run.stored.trie p id (omega (arith, up, h, length_trie_of nodes))
              (omega (arith, run.within, length_trie_of nodes))
              (front ∙ ap (λ ms. path_at trie id ++ ms) alone ∙ append-nil (path_at trie id)) in
              placed j later h (omega (arith, same)) (omega (arith, same))
        ]
  ]

  pub is_below : (j : ℕ) → j < length nodes → (more : List Part) → 0 < length more
      → path_at trie j ≡ path_at trie id ++ more → IsWithin id gone j
  is_below j = within (suc j) j (omega arith)

some_part : (more : List Part) → more ≢ [] → 0 < length more
some_part [] other = absurd (other refl)
some_part (p ∷ ps) other = omega arith

-- as the paths tell them, they are as many
pub run_is_below : (nodes : List Node) (id m gone : ℕ) → IsRunBelow nodes id m
    → AreBelow (paths_of (trie_of nodes)) id gone → m ≡ gone
run_is_below nodes id m gone run known = elim (cases_lt m gone) [
  | inl more ↦
      let far : id + gone < length nodes = omega (arith, known.within, count) in
      let r = known.below (id + gone) (omega (arith, more)) (omega arith) in
      let w : IsWithin id m (id + gone) = is_below nodes id m run (id + gone) far r.0 (some_part r.0 r.1) r.2 in
      absurd (omega (arith, w.up_to, more))
  | inr less ↦ elim (cases_lt gone m) [
    | inr same ↦ omega (arith, same, less)
    | inl fewer ↦
        let e : Extends (path_at (trie_of nodes) id) (path_at (trie_of nodes) (id + m)) =
        path_below nodes id m run (id + m) (omega arith) (omega arith) in
        absurd (known.others (id + m) (omega (arith, fewer)) (omega (arith, run.within, count)) e.more e.is)
  ]
]
  where
    count : length (paths_of (trie_of nodes)) ≡ length nodes
    count =
        omega (
          arith,
          run.within,
          length_trie_of nodes,
          length-paths_of (trie_of nodes) (omega (arith, run.within, length_trie_of nodes)),
        )
