-- The tables of dotted keys that a line less goes on from, by their numbers and by their paths.
--
-- The nodes one step below a path are the children of its node, so the greatest number of a value there is the same by
-- the one and by the other (`last_same`). Each table has one mention less, the lowest first (`dots_taken`).
--
-- Theorems: `dots_taken`; `tables_known`: the tables that were found are the ones that are passed.
use Rattle.std.proofs.Common.{◌≡◌, ℕ, zero, suc, ◌+◌, ◌-◌, ◌<◌, Bool, true, false, cond, List, [], ◌∷◌, ◌++◌, length}
use Rattle.std.proofs.Common.{get_or, set, drop, map, refl, sym, ◌∙◌, ap, arith, Some}
use Rattle.std.specs.Prelude.{◌==◌, max}
use Rattle.std.proofs.lemmas.List.{get_or-drop, get_or-map, length-drop, length-map}
use Rattle.keep_types.specs.declared.node.NodeInfo.{NodeInfo}
use Rattle.keep_index_store.specs.Dots.{up_from}
use Rattle.keep_index_store.specs.DotsLess.{AreGivers, all_less_mentioned, greatest_value, less_mentioned}
use Rattle.keep_index_store.specs.Tree.{TrieInfos, node_infos}
use Rattle.keep_index_store.specs.Trie.{IsTrie, TrieNode, children_from, children_of, link, parent_at, path_at}
use Rattle.keep_index_store.specs.Trie.{paths_of}
use Rattle.keep_index_store.proofs.Shared.{first, length-paths_of, next_givers, parent_low, path_at-link, path_at-root}
use Rattle.keep_index_store.proofs.Shared.{paths_up, push_same, up_all}
use Rattle.keep_meaning.specs.DotsLess.{info_without_dots, last_value, last_value_below, without_dots}
use Rattle.keep_meaning.specs.Nodes.{is_child, node_number}
use Rattle.keep_path.specs.KeysAlone.{paths_below}
use Rattle.keep_path.specs.NodeInfos.{NodeInfos, no_info}
use Rattle.keep_path.specs.NodesBelow.{value_of}
use Rattle.keep_path.specs.Path.{Part, key}
use Rattle.keep_rules.proofs.LookupLemmas.{is_child_there, no_child_root}
use Rattle.keep_rules.proofs.PassedLemmas.{same_numbers}

-- ---- the last value below a table

-- without facts there is no number
none_last : (p : List Part) (ps : List (List Part)) → last_value p ps [] ≡ 0
none_last p [] = refl
none_last p (q ∷ ps) = refl

rest_last : (p : List Part) (ps : List (List Part)) (is : List NodeInfo) → get_or ps 0 [] ≡ []
    → last_value p ps is ≡ last_value p (drop 1 ps) (drop 1 is)
rest_last p [] is root = refl
rest_last p (q ∷ ps) [] root = sym (none_last p ps)
rest_last p (q ∷ ps) (i ∷ is) root =
    ap (λ (b : Bool). cond b (max (value_of i) (last_value p ps is)) (last_value p ps is))
    (ap (is_child p) root ∙ no_child_root p)

one_step : {X : Type 0} (xs ys : List X) (n : ℕ) (d : X) → ((k : ℕ) → get_or xs k d ≡ get_or ys (n + k) d)
    → (k : ℕ) → get_or (drop 1 xs) k d ≡ get_or ys (n + 1 + k) d
one_step xs ys n d are k =
    let next : n + (1 + k) ≡ n + 1 + k = omega arith in
    get_or-drop 1 xs k d ∙ are (1 + k) ∙ ap (λ (m : ℕ). get_or ys m d) next

-- the head of a list, by what is read of it
value_first : (infos is : List NodeInfo) (n : ℕ) → ((k : ℕ) → get_or is k no_info ≡ get_or infos (n + k) no_info)
    → value_of (get_or is 0 no_info) ≡ value_of (get_or infos n no_info)
value_first infos is n are =
    let same : n + 0 ≡ n = omega arith in ap value_of (are 0 ∙ ap (λ (m : ℕ). get_or infos m no_info) same)

-- the first of some nodes, and the others
last_split : (p q : List Part) (ps : List (List Part)) (is : List NodeInfo)
    → last_value p (q ∷ ps) is
    ≡ cond (is_child p q) (max (value_of (get_or is 0 no_info)) (last_value p ps (drop 1 is)))
    (last_value p ps (drop 1 is))
last_split p q ps (i ∷ is) = refl
last_split p q ps [] =
    let none : last_value p ps [] ≡ 0 = none_last p ps in
    sym (ap (λ (n : ℕ). cond (is_child p q) (max 0 n) n) none
    ∙ (elim (is_child p q) as (λ (b : Bool). cond b (max 0 0) 0 ≡ 0) [ true ↦ refl | false ↦ refl ]))

last_from : (p : List Part) (i n : ℕ) (infos : List NodeInfo) (ps : List (List Part)) (is : List NodeInfo)
    (ls : List (ℕ × Part)) (e : ℕ × Part) → length ps ≡ length ls
    → ((k : ℕ) → get_or is k no_info ≡ get_or infos (n + k) no_info)
    → ((k : ℕ) → k < length ls → is_child p (get_or ps k []) ≡ ((get_or ls k e).0 == i))
    → last_value p ps is ≡ greatest_value infos (children_from n i ls)
last_from p i n infos [] is [] e many are below = refl
last_from p i n infos [] is (l ∷ ls) e many are below = absurd (omega (arith, many))
last_from p i n infos (q ∷ ps) is [] e many are below = absurd (omega (arith, many))
last_from p i n infos (q ∷ ps) is (l ∷ ls) e many are below =
    let others : List ℕ = children_from (n + 1) i ls in
    let rest : last_value p ps (drop 1 is) ≡ greatest_value infos others =
    last_from p i (n + 1) infos ps (drop 1 is) ls e (omega (arith, many)) (one_step is infos n no_info are)
    (λ k h. below (suc k) (omega (arith, h))) in
    last_split p q ps is
    ∙ ap (λ (b : Bool). cond b (max (value_of (get_or is 0 no_info)) (last_value p ps (drop 1 is)))
    (last_value p ps (drop 1 is))) (below 0 (omega arith))
    ∙ (elim (l.0 == i) as (λ (b : Bool).
    cond b (max (value_of (get_or is 0 no_info)) (last_value p ps (drop 1 is))) (last_value p ps (drop 1 is))
    ≡ greatest_value infos (cond b (n ∷ others) others)) [
      | true ↦ omega (arith, rest, value_first infos is n are)
      | false ↦ rest
    ])

last_same : (t : TrieInfos) → IsTrie t.trie → (id : ℕ) → id < length t.trie
    → last_value_below (node_infos t) id ≡ greatest_value t.infos (children_of t.trie id)
last_same t trie id h =
    let d : TrieNode = first t.trie trie in
    let ps : List (List Part) = paths_of t.trie in
    let ls : List (ℕ × Part) = drop 1 (map link t.trie) in
    let many : length ps ≡ length t.trie = length-paths_of t.trie trie.root in
    let few : length ls ≡ length t.trie - 1 = omega (arith, length-drop 1 (map link t.trie), length-map t.trie link) in
    rest_last (path_at t.trie id) ps t.infos (path_at-root t.trie)
    ∙ last_from (path_at t.trie id) id 1 t.infos (drop 1 ps) (drop 1 t.infos) ls (link d)
    (omega (arith, length-drop 1 ps, many, few)) (λ k. get_or-drop 1 t.infos k no_info) (λ k g.
    let here : 1 + k < length t.trie = omega (arith, g, few) in
    let linked : get_or ls k (link d) ≡ link (get_or t.trie (1 + k) d) =
    get_or-drop 1 (map link t.trie) k (link d) ∙ get_or-map link t.trie (1 + k) d (link d) here in
    ap (is_child (path_at t.trie id)) (get_or-drop 1 ps k [])
    ∙ is_child_there t.trie trie id (1 + k) d h (omega arith) here
    ∙ ap (λ (l : ℕ × Part). l.0 == id) (sym linked))

-- ---- one table after another

-- with one keyval less that continues from it
abbrev without_dot : ℕ → NodeInfos → NodeInfos
without_dot id t =
    record t {
      infos = set t.infos id (info_without_dots (last_value_below t id) (get_or t.infos id no_info));
    }

without_last : (ids : List ℕ) (id : ℕ) (t : NodeInfos)
    → without_dots (ids ++ id ∷ []) t ≡ without_dots ids (without_dot id t)
without_last [] id t = refl
without_last (i ∷ ids) id t = ap (without_dot i) (without_last ids id t)

one_taken : (t : TrieInfos) → IsTrie t.trie → (id : ℕ) → id < length t.trie
    → node_infos (less_mentioned id t) ≡ without_dot id (node_infos t)
one_taken t trie id h =
    ap (λ (v : ℕ).
    let all : NodeInfos = record {
      paths = paths_of t.trie;
      infos = set t.infos id (info_without_dots v (get_or t.infos id no_info));
    } in all)
    (sym (last_same t trie id h))

pub dots_taken : (n id : ℕ) (t : TrieInfos) → IsTrie t.trie → id < length t.trie → AreGivers t id n
    → node_infos (all_less_mentioned id n t) ≡ without_dots (up_from t.trie id n) (node_infos t)
dots_taken zero id t trie h all = refl
dots_taken (suc n) id t trie h all =
    let up : ℕ = parent_at t.trie id in
    let above : up < id = parent_low t.trie trie id all.0.later h in
    dots_taken n up (less_mentioned id t) trie (omega (arith, above, h)) (next_givers t trie id n h all)
    ∙ ap (without_dots (up_from t.trie up n)) (one_taken t trie id h)
    ∙ sym (without_last (up_from t.trie up n) id (node_infos t))

-- ---- the tables that are passed

pub tables_known : (t : TrieInfos) → IsTrie t.trie → (id n : ℕ) → 0 < id → id < length t.trie
    → AreGivers t (parent_at t.trie id) n → (base : List Part) (keys : List (List ℕ)) (own : List ℕ) (ids : List ℕ)
    → path_at t.trie id ≡ (base ++ map key keys) ++ key own ∷ [] → length keys ≡ n
    → map (node_number (paths_of t.trie)) (paths_below base keys) ≡ map Some ids
    → up_from t.trie (parent_at t.trie id) n ≡ ids
tables_known t trie id n later h all base keys own ids here many numbered =
    let d : TrieNode = first t.trie trie in
    let up : ℕ = parent_at t.trie id in
    let low : up < length t.trie = omega (arith, parent_low t.trie trie id later h, h) in
    let up_is : up ≡ (get_or t.trie id d).parent = get_or-map (λ (x : TrieNode). x.parent) t.trie id d 0 h in
    let part : Part = (link (get_or t.trie id d)).1 in
    let above = push_same (path_at t.trie up) (base ++ map key keys) part (key own)
    (ap (λ (p : ℕ). path_at t.trie p ++ part ∷ []) up_is ∙ sym (path_at-link t.trie trie id d later h) ∙ here) in
    let they = up_all t trie n up low all in
    same_numbers t.trie trie (up_from t.trie up n) (λ k e g. (they k e g).1) (paths_below base keys)
    (paths_up t.trie trie n up low (λ k e g. (they k e g).0) base keys above.0 many) ids numbered
