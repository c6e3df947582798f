-- The tree of steps, where the nodes below one of them give place to those of another tree.
--
-- A row has its number among its siblings and the steps of its parent as before, since only numbers of nodes are moved
-- (`kids_beside`, `kids_inside`). So the path of a node beside those that go is what it was, and that of a node of the
-- other tree comes after the path of the node that has it then (`path_before`, `path_inside`, `path_after`): both by
-- induction on the number, as a parent is an earlier node. No path is met twice: those that extend the path of that
-- node were below it, and went.
--
-- Theorems: `replaced_trie`, `replaced_paths`, `replaced_holdings` and `replaced_infos`; `path_before`, `path_inside`
-- and `path_after`.
use Rattle.std.proofs.Common.{◌≡◌, ◌⊎◌, ℕ, zero, suc, ◌+◌, ◌-◌, ◌<◌, ◌≤◌, List, [], ◌∷◌, ◌++◌, length, get_or, drop}
use Rattle.std.proofs.Common.{map, sym, ◌∙◌, ap, append_assoc, arith, inl, inr}
use Rattle.std.proofs.lemmas.Bool.{cases_lt}
use Rattle.std.proofs.lemmas.List.{append-nil, append_cancel_left, ext_get_or, get_or-drop, get_or-map, get_or_default}
use Rattle.std.proofs.lemmas.List.{length-drop, length-map, nil_from_length}
use Rattle.keep_path.specs.NodesBelow.{spliced}
use Rattle.keep_path.specs.Path.{Part}
use Rattle.keep_index_store.specs.declared.shift.Shift.{Shift}
use Rattle.keep_index_store.specs.AllNodes.{Node, no_node, node_at}
use Rattle.keep_index_store.specs.Below.{IsRunBelow, replaced_below, shift_beside, shift_inside, shifted_by}
use Rattle.keep_index_store.specs.Below.{shifted_node}
use Rattle.keep_index_store.specs.Children.{ChildList, holds_of}
use Rattle.keep_index_store.specs.Stored.{IsStored, infos_of, trie_of}
use Rattle.keep_index_store.specs.Trie.{TrieNode, IsTrie, holds_at, path_at, paths_of}
use Rattle.keep_index_store.proofs.TrieLemmas.{length-paths_of, one_node, path_at-root}
use Rattle.keep_index_store.proofs.StoredLemmas.{here, keyed_node, length_trie_of}
use Rattle.keep_index_store.proofs.ReplacedRowLemmas.{holds_shifted, length-spliced, read_after, read_before}
use Rattle.keep_index_store.proofs.ReplacedRowLemmas.{read_inside}
use Rattle.keep_index_store.proofs.ReplacedRowLemmas.{replaced_count, replaced_row_after, replaced_row_before}
use Rattle.keep_index_store.proofs.ReplacedRowLemmas.{replaced_row_infos}
use Rattle.keep_index_store.proofs.ReplacedRowLemmas.{replaced_row_inside, replaced_row_own, shift_high, shift_low}
use Rattle.keep_index_store.proofs.ReplacedRowLemmas.{shift_within, step_from, step_shifted}
use Rattle.keep_index_store.proofs.BelowPathLemmas.{IsWithin, is_below, parent_earlier, path_stored}

-- the row has the number and the steps of its parent as the one with that number in the other list has them
record IsRowOf (all old : List Node) (j i : ℕ) : Type 0 where
  later : 0 < j
  nested : j < length all
  up : (node_at all j).parent < j
  old_later : 0 < i
  old_nested : i < length old
  old_up : (node_at old i).parent < i
  number : (node_at all j).number ≡ (node_at old i).number
  steps : (k : ℕ) → step_from (node_at all (node_at all j).parent).children k
      ≡ step_from (node_at old (node_at old i).parent).children k

path_moves : (all old : List Node) (front : List Part) (j i : ℕ) → IsRowOf all old j i
    → path_at (trie_of all) (node_at all j).parent ≡ front ++ path_at (trie_of old) (node_at old i).parent
    → path_at (trie_of all) j ≡ front ++ path_at (trie_of old) i
path_moves all old front j i r above =
    let c : ChildList = (node_at all (node_at all j).parent).children in
    let e : ChildList = (node_at old (node_at old i).parent).children in
    let q : List Part = path_at (trie_of old) (node_at old i).parent in
    let part : step_from c (node_at all j).number ≡ step_from e (node_at old i).number =
    r.steps (node_at all j).number ∙ ap (step_from e) r.number in
    path_stored all j r.later r.nested r.up
    ∙ ap (λ (ps : List Part). ps ++ step_from c (node_at all j).number ∷ []) above
    ∙ append_assoc front q (step_from c (node_at all j).number ∷ [])
    ∙ ap (λ (p : Part). front ++ (q ++ p ∷ [])) part
    ∙ ap (λ (ps : List Part). front ++ ps) (sym (path_stored old i r.old_later r.old_nested r.old_up))

module _ (nodes : List Node) (id gone : ℕ) (inside : List Node) (run : IsRunBelow nodes id gone)
    (inner : IsStored inside) where
  abbrev out : List Node
  out = replaced_below nodes id gone inside

  abbrev old_trie : List TrieNode
  old_trie = trie_of nodes

  abbrev inner_trie : List TrieNode
  inner_trie = trie_of inside

  abbrev trie : List TrieNode
  trie = trie_of (replaced_below nodes id gone inside)

  abbrev beside : Shift
  beside = shift_beside nodes id gone inside

  some : 0 < length inside
  some = omega (arith, inner.trie.root, length_trie_of inside)

  count : length out ≡ length nodes - gone + (length inside - 1)
  count = replaced_count nodes id gone inside run.within some

  -- ---- the numbers

  stays : (i : ℕ) → i ≤ id → shifted_by beside i ≡ i
  stays i h = shift_low beside i (omega (arith, h))

  moves : (i : ℕ) → id + gone < i → shifted_by beside i ≡ i - gone + (length inside - 1)
  moves i h = omega (arith, h, run.within, shift_high beside i (omega (arith, h)))

  -- ---- the rows

  row_before : (i : ℕ) → i < id → node_at out i ≡ shifted_node beside (node_at nodes i)
  row_before i h = replaced_row_before nodes id gone inside run.within some i no_node h

  row_inside : (i : ℕ) → 0 < i → i < length inside
      → node_at out (i + id) ≡ shifted_node (shift_inside id) (node_at inside i)
  row_inside i low high =
      replaced_row_inside nodes id gone inside run.within some (i + id) no_node (omega (arith, low))
      (omega (arith, high))
      ∙ ap (λ k. shifted_node (shift_inside id) (node_at inside k)) (let e : i + id - id ≡ i = omega arith in e)

  row_after : (i : ℕ) → id + gone < i → i < length nodes
      → node_at out (i - gone + (length inside - 1)) ≡ shifted_node beside (node_at nodes i)
  row_after i low high =
      let j : ℕ = i - gone + (length inside - 1) in
      replaced_row_after nodes id gone inside run.within some j no_node (omega (arith, low, some))
      (omega (arith, low, high, count))
      ∙ ap (λ k. shifted_node beside (node_at nodes k))
      (let e : j - (length inside - 1) + gone ≡ i = omega (arith, low) in e)

  -- ---- the steps to the children

  kids_before : (p : ℕ) → p < id → (k : ℕ)
      → step_from (node_at out (shifted_by beside p)).children k ≡ step_from (node_at nodes p).children k
  kids_before p h k =
      ap (λ n. step_from (node_at out n).children k) (stays p (omega (arith, h)))
      ∙ ap (λ (n : Node). step_from n.children k) (row_before p h)
      ∙ step_shifted beside (node_at nodes p).children k

  kids_after : (p : ℕ) → id + gone < p → p < length nodes → (k : ℕ)
      → step_from (node_at out (shifted_by beside p)).children k ≡ step_from (node_at nodes p).children k
  kids_after p low high k =
      ap (λ n. step_from (node_at out n).children k) (moves p low)
      ∙ ap (λ (n : Node). step_from n.children k) (row_after p low high)
      ∙ step_shifted beside (node_at nodes p).children k

  kids_inside : (p : ℕ) → p < length inside → (k : ℕ)
      → step_from (node_at out (shifted_by (shift_inside id) p)).children k ≡ step_from (node_at inside p).children k
  kids_inside p h k = elim (cases_lt 0 p) [
    | inl later ↦
        ap (λ n. step_from (node_at out n).children k) (shift_within id p)
        ∙ ap (λ (n : Node). step_from n.children k) (row_inside p later h)
        ∙ step_shifted (shift_inside id) (node_at inside p).children k
    | inr none ↦
        let top : p ≡ 0 = omega (arith, none) in
        let at : shifted_by (shift_inside id) p ≡ id = omega (arith, shift_within id p, top) in
        ap (λ n. step_from (node_at out n).children k) at
        ∙ ap (λ (n : Node). step_from n.children k) (replaced_row_own nodes id gone inside run.within some no_node)
        ∙ step_shifted (shift_inside id) (node_at inside 0).children k
        ∙ ap (λ n. step_from (node_at inside n).children k) (sym top)
  ]

  -- ---- each row as the one that it comes from

  -- the parent of a row up to that node, and of that node
  parent_before : (i : ℕ) → i ≤ id → (node_at out i).parent ≡ shifted_by beside (node_at nodes i).parent
  parent_before i h = elim (cases_lt i id) [
    | inl low ↦ ap (λ (n : Node). n.parent) (row_before i low)
    | inr high ↦
        let same : i ≡ id = omega (arith, h, high) in
        ap (λ k. (node_at out k).parent) same
        ∙ ap (λ (n : Node). n.parent) (replaced_row_own nodes id gone inside run.within some no_node)
        ∙ ap (λ k. shifted_by beside (node_at nodes k).parent) (sym same)
  ]

  number_before : (i : ℕ) → i ≤ id → (node_at out i).number ≡ (node_at nodes i).number
  number_before i h = elim (cases_lt i id) [
    | inl low ↦ ap (λ (n : Node). n.number) (row_before i low)
    | inr high ↦
        let same : i ≡ id = omega (arith, h, high) in
        ap (λ k. (node_at out k).number) same
        ∙ ap (λ (n : Node). n.number) (replaced_row_own nodes id gone inside run.within some no_node)
        ∙ ap (λ k. (node_at nodes k).number) (sym same)
  ]

  is_row_before : (i : ℕ) → 0 < i → i ≤ id → IsRowOf out nodes i i
  is_row_before i later h =
      let up : (node_at nodes i).parent < i =
      parent_earlier nodes run.stored i later (omega (arith, h, run.within)) in
      let kept : (node_at out i).parent ≡ (node_at nodes i).parent =
      parent_before i h ∙ stays (node_at nodes i).parent (omega (arith, up, h)) in
      record {
        later = later;
        nested = omega (arith, h, count, run.within);
        up = omega (arith, kept, up);
        old_later = later;
        old_nested = omega (arith, h, run.within);
        old_up = up;
        number = number_before i h;
        steps = λ k.
            ap (λ n. step_from (node_at out n).children k) (parent_before i h)
            ∙ kids_before (node_at nodes i).parent (omega (arith, up, h)) k;
      }

  is_row_inside : (i : ℕ) → 0 < i → i < length inside → IsRowOf out inside (i + id) i
  is_row_inside i later h =
      let up : (node_at inside i).parent < i = parent_earlier inside inner i later h in
      let own : (node_at out (i + id)).parent ≡ shifted_by (shift_inside id) (node_at inside i).parent =
      ap (λ (n : Node). n.parent) (row_inside i later h) in
      record {
        later = omega (arith, later);
        nested = omega (arith, h, count, run.within);
        up = omega (arith, own, shift_within id (node_at inside i).parent, up);
        old_later = later;
        old_nested = h;
        old_up = up;
        number = ap (λ (n : Node). n.number) (row_inside i later h);
        steps = λ k.
            ap (λ n. step_from (node_at out n).children k) own
            ∙ kids_inside (node_at inside i).parent (omega (arith, up, h)) k;
      }

  is_row_after : (i : ℕ) → id + gone < i → i < length nodes
      → IsRowOf out nodes (i - gone + (length inside - 1)) i
  is_row_after i low high =
      let p : ℕ = (node_at nodes i).parent in
      let up : p < i = parent_earlier nodes run.stored i (omega (arith, low)) high in
      let own : (node_at out (i - gone + (length inside - 1))).parent ≡ shifted_by beside p =
      ap (λ (n : Node). n.parent) (row_after i low high) in
      record {
        later = omega (arith, low);
        nested = omega (arith, low, high, count);
        up = elim (run.others i low high) [
          | inl before ↦ omega (arith, own, stays p (omega (arith, before)), before, low)
          | inr past ↦ omega (arith, own, moves p past, past, up)
        ];
        old_later = omega (arith, low);
        old_nested = high;
        old_up = up;
        number = ap (λ (n : Node). n.number) (row_after i low high);
        steps = λ k.
            ap (λ n. step_from (node_at out n).children k) own
            ∙ elim (run.others i low high) [
              | inl before ↦ kids_before p before k
              | inr past ↦ kids_after p past (omega (arith, up, high)) k
            ];
      }

  -- ---- the paths

  paths_before : (n i : ℕ) → i < n → i ≤ id → path_at trie i ≡ path_at old_trie i
  paths_before zero i low h = absurd (omega (arith, low))
  paths_before (suc n) i low h = elim (cases_lt 0 i) [
    | inr none ↦
        let top : i ≡ 0 = omega (arith, none) in
        ap (path_at trie) top ∙ path_at-root trie ∙ sym (path_at-root old_trie) ∙ ap (path_at old_trie) (sym top)
    | inl later ↦
        let r : IsRowOf out nodes i i = is_row_before i later h in
        let p : ℕ = (node_at nodes i).parent in
        let kept : (node_at out i).parent ≡ p = parent_before i h ∙ stays p (omega (arith, r.old_up, h)) in
        path_moves out nodes [] i i r
        (ap (path_at trie) kept ∙ paths_before n p (omega (arith, r.old_up, low)) (omega (arith, r.old_up, h)))
  ]

  pub path_before : (i : ℕ) → i ≤ id → path_at trie i ≡ path_at old_trie i
  path_before i = paths_before (suc i) i (omega arith)

  paths_inside : (n i : ℕ) → i < n → i < length inside
      → path_at trie (i + id) ≡ path_at old_trie id ++ path_at inner_trie i
  paths_inside zero i low h = absurd (omega (arith, low))
  paths_inside (suc n) i low h = elim (cases_lt 0 i) [
    | inr none ↦
        let top : i ≡ 0 = omega (arith, none) in
        let at : i + id ≡ id = omega (arith, none) in
        ap (path_at trie) at ∙ path_before id (omega arith) ∙ sym (append-nil (path_at old_trie id))
        ∙ ap (λ ps. path_at old_trie id ++ ps) (sym (ap (path_at inner_trie) top ∙ path_at-root inner_trie))
    | inl later ↦
        let r : IsRowOf out inside (i + id) i = is_row_inside i later h in
        let p : ℕ = (node_at inside i).parent in
        let kept : (node_at out (i + id)).parent ≡ p + id =
        ap (λ (n : Node). n.parent) (row_inside i later h) ∙ shift_within id p in
        path_moves out inside (path_at old_trie id) (i + id) i r
        (ap (path_at trie) kept ∙ paths_inside n p (omega (arith, r.old_up, low)) (omega (arith, r.old_up, h)))
  ]

  pub path_inside : (i : ℕ) → i < length inside
      → path_at trie (i + id) ≡ path_at old_trie id ++ path_at inner_trie i
  path_inside i = paths_inside (suc i) i (omega arith)

  paths_after : (n i : ℕ) → i < n → id + gone < i → i < length nodes
      → path_at trie (i - gone + (length inside - 1)) ≡ path_at old_trie i
  paths_after zero i less low high = absurd (omega (arith, less))
  paths_after (suc n) i less low high =
      let r : IsRowOf out nodes (i - gone + (length inside - 1)) i = is_row_after i low high in
      let p : ℕ = (node_at nodes i).parent in
      let own : (node_at out (i - gone + (length inside - 1))).parent ≡ shifted_by beside p =
      ap (λ (n : Node). n.parent) (row_after i low high) in
      path_moves out nodes [] (i - gone + (length inside - 1)) i r
      (elim (run.others i low high) [
        | inl before ↦
            ap (path_at trie) (own ∙ stays p (omega (arith, before))) ∙ path_before p (omega (arith, before))
        | inr past ↦
            ap (path_at trie) (own ∙ moves p past)
            ∙ paths_after n p (omega (arith, r.old_up, less)) past (omega (arith, r.old_up, high))
      ])

  pub path_after : (i : ℕ) → id + gone < i → i < length nodes
      → path_at trie (i - gone + (length inside - 1)) ≡ path_at old_trie i
  path_after i = paths_after (suc i) i (omega arith)

  -- ---- all paths

  count_old : length (paths_of old_trie) ≡ length nodes
  count_old = length-paths_of old_trie run.stored.trie.root ∙ length_trie_of nodes

  count_inner : length (paths_of inner_trie) ≡ length inside
  count_inner = length-paths_of inner_trie inner.trie.root ∙ length_trie_of inside

  rooted : 0 < length trie
  rooted = omega (arith, length_trie_of out, count, run.within)

  count_paths : length (paths_of trie) ≡ length out
  count_paths = length-paths_of trie rooted ∙ length_trie_of out

  abbrev put : List Part → List Part
  put p = path_at (trie_of nodes) id ++ p

  abbrev new_paths : List (List Part)
  new_paths = map (λ p. path_at (trie_of nodes) id ++ p) (drop 1 (paths_of (trie_of inside)))

  count_new : length new_paths ≡ length inside - 1
  count_new =
      omega (arith, length-map (drop 1 (paths_of inner_trie)) put, length-drop 1 (paths_of inner_trie), count_inner)

  fits : suc id + gone ≤ length (paths_of old_trie)
  fits = omega (arith, run.within, count_old)

  new_path : (i : ℕ) → 0 < i → i < length inside
      → get_or new_paths (i - 1) [] ≡ path_at old_trie id ++ path_at inner_trie i
  new_path i low high =
      get_or-map put (drop 1 (paths_of inner_trie)) (i - 1) [] []
      (omega (arith, low, high, length-drop 1 (paths_of inner_trie), count_inner))
      ∙ ap put (get_or-drop 1 (paths_of inner_trie) (i - 1) []
      ∙ ap (path_at inner_trie) (let e : 1 + (i - 1) ≡ i = omega (arith, low) in e))

  path_then : (j : ℕ) → j < length out
      → path_at trie j ≡ get_or (spliced (suc id) gone new_paths (paths_of old_trie)) j []
  path_then j h = elim (cases_lt j (suc id)) [
    | inl before ↦
        path_before j (omega (arith, before))
        ∙ sym (read_before (suc id) gone new_paths (paths_of old_trie) fits j [] before)
    | inr past ↦ elim (cases_lt j (id + length inside)) [
      | inl near ↦
          let i : ℕ = j - id in
          ap (path_at trie) (let e : j ≡ i + id = omega (arith, past) in e)
          ∙ path_inside i (omega (arith, past, near))
          ∙ sym (read_inside (suc id) gone new_paths (paths_of old_trie) fits j [] past
          (omega (arith, near, count_new))
          ∙ ap (λ k. get_or new_paths k []) (let e : j - suc id ≡ i - 1 = omega arith in e)
          ∙ new_path i (omega (arith, past)) (omega (arith, past, near)))
      | inr far ↦
          let i : ℕ = j - (length inside - 1) + gone in
          ap (path_at trie) (let e : j ≡ i - gone + (length inside - 1) = omega (arith, far) in e)
          ∙ path_after i (omega (arith, far, some)) (omega (arith, far, h, count, run.within, some))
          ∙ sym (read_after (suc id) gone new_paths (paths_of old_trie) fits j []
          (omega (arith, far, count_new, some))
          ∙ ap (λ k. get_or (paths_of old_trie) (j - k + gone) []) count_new)
    ]
  ]

  pub replaced_paths : paths_of (trie_of (replaced_below nodes id gone inside))
      ≡ spliced (suc id) gone (map (λ p. path_at (trie_of nodes) id ++ p) (drop 1 (paths_of (trie_of inside))))
      (paths_of (trie_of nodes))
  replaced_paths =
      ext_get_or [] (paths_of trie) (spliced (suc id) gone new_paths (paths_of old_trie))
      (omega (
        arith,
        count_paths,
        count,
        length-spliced (suc id) gone new_paths (paths_of old_trie) fits,
        count_new,
        count_old,
      ))
      (λ j h. path_then j (omega (arith, h, count_paths)))

  -- ---- no two nodes have one path

  -- a node of the old tree, and one of the other
  record IsOld (j : ℕ) : Type 0 where
    was : ℕ
    nested : was < length nodes
    apart : IsWithin id gone was → ⊥
    back : j ≡ shifted_by beside was
    path : path_at trie j ≡ path_at old_trie was

  record IsNew (j : ℕ) : Type 0 where
    was : ℕ
    later : 0 < was
    nested : was < length inside
    back : j ≡ was + id
    path : path_at trie j ≡ path_at old_trie id ++ path_at inner_trie was

  old_or_new : (j : ℕ) → j < length out → IsOld j ⊎ IsNew j
  old_or_new j h = elim (cases_lt j (suc id)) [
    | inl before ↦ inl (record {
      was = j;
      nested = omega (arith, before, run.within);
      apart = λ w. omega (arith, w.after, before);
      back = sym (stays j (omega (arith, before)));
      path = path_before j (omega (arith, before));
    })
    | inr past ↦ elim (cases_lt j (id + length inside)) [
      | inl near ↦
          let at : j ≡ j - id + id = omega (arith, past) in
          inr (record {
            was = j - id;
            later = omega (arith, past);
            nested = omega (arith, past, near);
            back = at;
            path = ap (path_at trie) at ∙ path_inside (j - id) (omega (arith, past, near));
          })
      | inr far ↦
          let i : ℕ = j - (length inside - 1) + gone in
          let at : j ≡ i - gone + (length inside - 1) = omega (arith, far) in
          let low : id + gone < i = omega (arith, far, some) in
          let high : i < length nodes = omega (arith, far, h, count, run.within, some) in
          inl (record {
            was = i;
            nested = high;
            apart = λ w. omega (arith, w.up_to, low);
            back = at ∙ sym (moves i low);
            path = ap (path_at trie) at ∙ path_after i low high;
          })
    ]
  ]

  -- the path of a node of the other tree but its root has a part
  some_part : (i : ℕ) → 0 < i → i < length inside → 0 < length (path_at inner_trie i)
  some_part i later h = elim (cases_lt 0 (length (path_at inner_trie i))) [
    | inl some ↦ some
    | inr none ↦
        let root : path_at inner_trie i ≡ path_at inner_trie 0 =
        nil_from_length (path_at inner_trie i) (omega (arith, none)) ∙ sym (path_at-root inner_trie) in
        let top : i ≡ 0 = one_node inner_trie inner.trie i 0 (omega (arith, h, length_trie_of inside))
        (omega (arith, some, length_trie_of inside)) root in
        absurd (omega (arith, top, later))
  ]

  not_both : (i j : ℕ) → IsOld i → IsNew j → path_at trie i ≡ path_at trie j → ⊥
  not_both i j a b same =
      a.apart (is_below nodes id gone run a.was a.nested (path_at inner_trie b.was) (some_part b.was b.later b.nested)
      (sym a.path ∙ same ∙ b.path))

  both_old : (i j : ℕ) → IsOld i → IsOld j → path_at trie i ≡ path_at trie j → i ≡ j
  both_old i j a b same =
      let one : a.was ≡ b.was = one_node old_trie run.stored.trie a.was b.was
      (omega (arith, a.nested, length_trie_of nodes)) (omega (arith, b.nested, length_trie_of nodes))
      (sym a.path ∙ same ∙ b.path) in
      a.back ∙ ap (shifted_by beside) one ∙ sym b.back

  both_new : (i j : ℕ) → IsNew i → IsNew j → path_at trie i ≡ path_at trie j → i ≡ j
  both_new i j a b same =
      let one : a.was ≡ b.was = one_node inner_trie inner.trie a.was b.was
      (omega (arith, a.nested, length_trie_of inside)) (omega (arith, b.nested, length_trie_of inside))
      (append_cancel_left (path_at old_trie id) (path_at inner_trie a.was) (path_at inner_trie b.was)
      (sym a.path ∙ same ∙ b.path)) in
      omega (arith, a.back, one, b.back)

  same_node : (i j : ℕ) → i < length out → j < length out → path_at trie i ≡ path_at trie j → i ≡ j
  same_node i j h g same = elim (old_or_new i h) [
    | inl a ↦ elim (old_or_new j g) [
      | inl b ↦ both_old i j a b same
      | inr b ↦ absurd (not_both i j a b same)
    ]
    | inr a ↦ elim (old_or_new j g) [
      | inl b ↦ absurd (not_both j i b a (sym same))
      | inr b ↦ both_new i j a b same
    ]
  ]

  -- ---- the tree

  earlier : (j : ℕ) → 0 < j → j < length out → (node_at out j).parent < j
  earlier j later h = elim (cases_lt j (suc id)) [
    | inl before ↦ (is_row_before j later (omega (arith, before))).up
    | inr past ↦ elim (cases_lt j (id + length inside)) [
      | inl near ↦
          let at : j ≡ j - id + id = omega (arith, past) in
          let r : (node_at out (j - id + id)).parent < j - id + id =
          (is_row_inside (j - id) (omega (arith, past)) (omega (arith, past, near))).up in
          omega (arith, ap (λ k. (node_at out k).parent) at, r, at)
      | inr far ↦
          let i : ℕ = j - (length inside - 1) + gone in
          let at : j ≡ i - gone + (length inside - 1) = omega (arith, far) in
          let r : (node_at out (i - gone + (length inside - 1))).parent < i - gone + (length inside - 1) =
          (is_row_after i (omega (arith, far, some)) (omega (arith, far, h, count, run.within, some))).up in
          omega (arith, ap (λ k. (node_at out k).parent) at, r, at)
    ]
  ]

  pub replaced_trie : IsTrie (trie_of (replaced_below nodes id gone inside))
  replaced_trie = record {
    root = rooted;
    parents = λ j u later h.
        let low : j < length out = omega (arith, h, length_trie_of out) in
        omega (arith, ap (λ (t : TrieNode). t.parent) (here out j no_node u low), earlier j later low);
    distinct = λ i j d less h same.
        let high : j < length out = omega (arith, h, count_paths) in
        let one : i ≡ j = same_node i j (omega (arith, less, high)) high
        (get_or_default (paths_of trie) i [] d (omega (arith, less, h)) ∙ same
        ∙ sym (get_or_default (paths_of trie) j [] d h)) in
        omega (arith, one, less);
  }

  -- the root holds what it did
  pub replaced_holdings : holds_at (trie_of (replaced_below nodes id gone inside)) 0 ≡ holds_at (trie_of nodes) 0
  replaced_holdings =
      keyed_node out 0 no_node (omega (arith, count, run.within))
      ∙ ap (λ (n : Node). holds_of n.children) (row_before 0 run.later)
      ∙ holds_shifted beside (node_at nodes 0).children
      ∙ sym (keyed_node nodes 0 no_node (omega (arith, run.within)))

  -- and the facts about the nodes are put in the same place
  pub replaced_infos : infos_of (replaced_below nodes id gone inside)
      ≡ spliced (suc id) gone (drop 1 (infos_of inside)) (infos_of nodes)
  replaced_infos = replaced_row_infos nodes id gone inside run.within some
