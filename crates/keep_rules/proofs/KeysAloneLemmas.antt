-- The nodes of a line's further keys, as they come one after another: a chain of tables, and the value at its end.
--
-- All that is known while they come is in terms of the keys so far (`IsChain`): these are the steps up to the next one,
-- the paths of the nodes are those of `paths_below`, and the last node has all of the keys for its path (`path_end`).
-- No path has more steps than there are keys (`few_steps`), so the path with one step more is new (`fresh`). One key
-- more adds one path at the end of all (`paths_more`), and so it is with the facts (`tables_more`, `keys_more`). Steps
-- that are keys are those of one list of keys only (`keys_same`).
--
-- Theorems: `begun`, `fresh`, `goes_on` and `all_come`: the chain before its first key, below which a next one is new,
-- with a next one, and with the last; `first_same` and `rest_same`: the first of these keys, and the others;
-- `first_alone` and `first_of_several`: the nodes of all of them; `last_alone`: which is the last key's.
use Rattle.std.proofs.Common.{◌≡◌, ℕ, zero, suc, ◌+◌, ◌-◌, ◌<◌, ◌≤◌, List, [], ◌∷◌, ◌++◌, length, get_or, map, drop}
use Rattle.std.proofs.Common.{refl, sym, ◌∙◌, ap, ap₂, arith, length-append, slice_get, Option, Some}
use Rattle.std.specs.Prelude.{Contains}
use Rattle.std.proofs.lemmas.List.{append-nil, append_assoc, drop-drop, length-drop, length-map, map-append}
use Rattle.std.proofs.Math.ListN.{drop_of_length-le}
use Rattle.std.proofs.lemmas.Option.{get_or_from_slice_get, slice_get_within}
use Rattle.keep_types.specs.declared.node.Kind.{Kind}
use Rattle.keep_types.specs.declared.node.Kind.TheVariants.{Table}
use Rattle.keep_types.specs.declared.node.NodeInfo.{NodeInfo}
use Rattle.keep_types.specs.declared.role.Role.{Role}
use Rattle.keep_path.specs.Dots.{with_keys}
use Rattle.keep_path.specs.KeysAlone.{key_infos, key_numbers, keys_alone, paths_below}
use Rattle.keep_path.specs.NodeInfos.{LineNumbers, NodeInfos, dotted_info, line_info, no_info, with_last, with_node}
use Rattle.keep_path.specs.NodeInfos.{with_table}
use Rattle.keep_path.specs.NodesBelow.{AreBelow, Totals, one_more, with_value}
use Rattle.keep_path.specs.Path.{Part, key}
use Rattle.keep_index_store.specs.Growth.{Grows}
use Rattle.keep_index_store.specs.Tree.{IsRoot, TrieInfos, node_infos}
use Rattle.keep_index_store.specs.Trie.{TrieNode, by_key, holds_at, path_at, paths_of}
use Rattle.keep_index_store.proofs.Shared.{holds_last, longer, paths_more}

-- ---- lists of keys

same_key : (a b : List ℕ) → key a ≡ key b → a ≡ b
same_key a b e = cc

head_same : (p q : Part) (ps qs : List Part) → p ∷ ps ≡ q ∷ qs → p ≡ q
head_same p q ps qs e = cc

tail_same : (p q : Part) (ps qs : List Part) → p ∷ ps ≡ q ∷ qs → ps ≡ qs
tail_same p q ps qs e = cc

keys_same : (ks ls : List (List ℕ)) → map key ks ≡ map key ls → ks ≡ ls
keys_same [] [] e = refl
keys_same [] (l ∷ ls) e = absurd cc
keys_same (k ∷ ks) [] e = absurd cc
keys_same (k ∷ ks) (l ∷ ls) e =
    ap₂ (λ x xs. x ∷ xs) (same_key k l (head_same (key k) (key l) (map key ks) (map key ls) e))
    (keys_same ks ls (tail_same (key k) (key l) (map key ks) (map key ls) e))

-- the steps from one on are that one and those after it
next_step : (path : List Part) (n : ℕ) (p : Part) → slice_get path n ≡ Some p → drop n path ≡ p ∷ drop (n + 1) path
next_step [] n p e = absurd (omega (arith, slice_get_within [] n p e))
next_step (q ∷ qs) zero p e = ap (λ x. x ∷ qs) (get_or_from_slice_get (q ∷ qs) 0 p p e)
next_step (q ∷ qs) (suc n) p e =
    next_step qs n p e ∙ ap (λ k. p ∷ drop k (q ∷ qs)) (let k : suc (n + 1) ≡ suc n + 1 = omega arith in k)

-- the node of the first key of a line, where there are further ones and where there are none
module _ (t : NodeInfos) (at : ℕ) (line : LineNumbers) (path : List Part) (k : Kind) (old new : Totals) where
  with_one : (further : List (List ℕ)) → length further ≡ 0
      → with_node t at line path k ≡ with_keys t at line path further k old new
  with_one [] none = refl
  with_one (x ∷ xs) none = absurd (omega (arith, none))

  with_several : (further : List (List ℕ)) → 0 < length further
      → with_value (with_table t at line path) at 0 (one_more old) new (keys_alone further k) Table
      ≡ with_keys t at line path further k old new
  with_several [] some = absurd (omega (arith, some))
  with_several (x ∷ xs) some = refl

-- the first key of a line, and the further ones
module _ (path : List Part) (from : ℕ) (first : List ℕ) (further : List (List ℕ))
    (are : drop from path ≡ map key (first ∷ further)) where
  pub first_same : (text : List ℕ) → slice_get path from ≡ Some (key text) → text ≡ first
  first_same text e =
      same_key text first
      (head_same (key text) (key first) (drop (from + 1) path) (map key further)
      (sym (next_step path from (key text) e) ∙ are))

  pub rest_same : drop (from + 1) path ≡ map key further
  rest_same = sym (drop-drop 1 from path) ∙ ap (drop 1) are

  count : length path - from ≡ suc (length further)
  count =
      omega (arith, length-drop from path, ap length are, length-map (first ∷ further) (λ (text : List ℕ). key text))

  pub first_alone : length path - 1 ≤ from → (t : NodeInfos) (at : ℕ) (line : LineNumbers) (to : List Part) (k : Kind)
      (old new : Totals) → with_node t at line to k ≡ with_keys t at line to further k old new
  first_alone last t at line to k old new = with_one t at line to k old new further (omega (arith, last, count))

  pub first_of_several : from < length path - 1 → (t : NodeInfos) (at : ℕ) (line : LineNumbers) (to : List Part)
      (k : Kind) (old new : Totals)
      → with_value (with_table t at line to) at 0 (one_more old) new (keys_alone further k) Table
      ≡ with_keys t at line to further k old new
  first_of_several more t at line to k old new =
      with_several t at line to k old new further (omega (arith, more, count))

-- ---- paths

path_end : (path : List Part) (ks : List (List ℕ))
    → get_or (path ∷ paths_below path ks) (length ks) [] ≡ path ++ map key ks
path_end path [] = sym (append-nil path)
path_end path (k ∷ ks) = path_end (path ++ key k ∷ []) ks ∙ append_assoc path (key k ∷ []) (map key ks)

few_steps : (path : List Part) (ks : List (List ℕ)) (i : ℕ) (d : List Part) → i < length (path ∷ paths_below path ks)
    → length (get_or (path ∷ paths_below path ks) i d) ≤ length path + length ks
few_steps path ks zero d h = omega arith
few_steps path [] (suc i) d h = absurd (omega (arith, h))
few_steps path (k ∷ ks) (suc i) d h =
    omega (
      arith,
      few_steps (path ++ key k ∷ []) ks i d (omega (arith, h)),
      length-append path (key k ∷ []),
    )

-- ---- the last node

paths_many : (path : List Part) (ks : List (List ℕ)) → length (paths_below path ks) ≡ length ks
paths_many path [] = refl
paths_many path (k ∷ ks) = ap suc (paths_many (path ++ key k ∷ []) ks)

infos_many : (k : ℕ) (kind : Kind) (ks : List (List ℕ)) → length (key_infos k kind ks) ≡ length ks
infos_many k kind [] = refl
infos_many k kind (t ∷ []) = refl
infos_many k kind (t ∷ u ∷ ts) = ap suc (infos_many (suc k) kind (u ∷ ts))

none_below : (ps : List (List Part)) (i : ℕ) → length ps ≡ suc i → AreBelow ps i 0
none_below ps i many = record {
  within = omega (arith, many);
  below = λ j high low. absurd (omega (arith, high, low));
  others = λ j high low more e. omega (arith, high, low, many);
}

-- of the nodes of these keys it is that of the last, and no node is below it
pub last_alone : (t : NodeInfos) (keys : List (List ℕ)) (kind : Kind) → t ≡ keys_alone keys kind → (last : ℕ)
    → length t.infos ≡ suc last → (last ≡ length keys) × AreBelow t.paths last 0
last_alone t keys kind is last many =
    let infos : length t.infos ≡ suc (length keys) =
    ap (λ (u : NodeInfos). length u.infos) is ∙ ap suc (infos_many 0 kind keys) in
    let paths : length t.paths ≡ suc (length keys) =
    ap (λ (u : NodeInfos). length u.paths) is ∙ ap suc (paths_many [] keys) in
    (omega (arith, infos, many), none_below t.paths last (omega (arith, infos, paths, many)))

-- ---- facts

-- those of the tables of these keys
pub table_infos : ℕ → List (List ℕ) → List NodeInfo
table_infos k [] = []
table_infos k (t ∷ ts) = dotted_info (key_numbers k) ∷ table_infos (suc k) ts

tables_more : (k : ℕ) (ts : List (List ℕ)) (t : List ℕ)
    → table_infos k (ts ++ t ∷ []) ≡ table_infos k ts ++ dotted_info (key_numbers (k + length ts)) ∷ []
unfolding table_infos
tables_more k [] t = ap (λ n. dotted_info (key_numbers n) ∷ []) (let e : k ≡ k + 0 = omega arith in e)
tables_more k (u ∷ ts) t =
    ap (λ is. dotted_info (key_numbers k) ∷ is)
    (tables_more (suc k) ts t
    ∙ ap (λ n. table_infos (suc k) ts ++ dotted_info (key_numbers n) ∷ [])
    (let e : suc k + length ts ≡ k + suc (length ts) = omega arith in e))

keys_more : (k : ℕ) (kind : Kind) (ts : List (List ℕ)) (t : List ℕ)
    → key_infos k kind (ts ++ t ∷ []) ≡ table_infos k ts ++ line_info (key_numbers (k + length ts)) kind ∷ []
unfolding table_infos
keys_more k kind [] t = ap (λ n. line_info (key_numbers n) kind ∷ []) (let e : k ≡ k + 0 = omega arith in e)
keys_more k kind (u ∷ []) t =
    ap (λ n. dotted_info (key_numbers k) ∷ line_info (key_numbers n) kind ∷ [])
    (let e : suc k ≡ k + 1 = omega arith in e)
keys_more k kind (u ∷ v ∷ ts) t =
    ap (λ is. dotted_info (key_numbers k) ∷ is)
    (keys_more (suc k) kind (v ∷ ts) t
    ∙ ap (λ n. table_infos (suc k) (v ∷ ts) ++ line_info (key_numbers n) kind ∷ [])
    (let e : suc k + length (v ∷ ts) ≡ k + length (u ∷ v ∷ ts) = omega arith in e))

-- ---- the nodes

-- The steps of the path from one number up to the next are keys, and each has a table below that of the one before it.
pub record IsChain (path : List Part) (from next : ℕ) (t : TrieInfos) : Type 0 where
  pub keys : List (List ℕ)
  pub are : drop from path ≡ map key keys ++ drop next path
  pub many : from + length keys ≡ next
  pub count : length t.trie ≡ suc (length keys)
  pub keyed : holds_at t.trie (length keys) ≡ by_key
  pub paths : paths_of t.trie ≡ [] ∷ paths_below [] keys
  pub infos : t.infos ≡ no_info ∷ table_infos 0 keys

pub begun : (path : List Part) (from : ℕ) (t : TrieInfos) → IsRoot by_key t → IsChain path from from t
unfolding table_infos
begun path from t root = record {
  keys = [];
  are = refl;
  many = omega arith;
  count = ap length root.alone;
  keyed = ap (λ (ts : List TrieNode). holds_at ts 0) root.alone ∙ root.holds;
  paths = ap (λ (x : NodeInfos). x.paths) root.facts;
  infos = ap (λ (x : NodeInfos). x.infos) root.facts;
}

module _ (path : List Part) (from next : ℕ) (t : TrieInfos) (chain : IsChain path from next t) (n : ℕ)
    (last : n ≡ next - from) where
  here : n ≡ length chain.keys
  here = omega (arith, last, chain.many)

  so_many : n ≡ 0 + length chain.keys
  so_many = omega (arith, here)

  path_here : path_at t.trie n ≡ map key chain.keys
  path_here = ap₂ (λ ps i. get_or ps i []) chain.paths here ∙ path_end [] chain.keys

  pub fresh : (text : List ℕ) → Contains (paths_of t.trie) (path_at t.trie n ++ key text ∷ []) → ⊥
  fresh text has =
      let p : List Part = path_at t.trie n ++ key text ∷ [] in
      let low : has.0 < length ([] ∷ paths_below [] chain.keys) = omega (arith, has.1, ap length chain.paths) in
      let few : length (get_or ([] ∷ paths_below [] chain.keys) has.0 p) ≤ 0 + length chain.keys =
      few_steps [] chain.keys has.0 p low in
      let steps : length p ≡ length chain.keys + 1 =
      length-append (path_at t.trie n) (key text ∷ [])
      ∙ ap (λ m. m + 1) (ap length path_here ∙ length-map chain.keys key) in
      let same : get_or ([] ∷ paths_below [] chain.keys) has.0 p ≡ p =
      ap (λ ps. get_or ps has.0 p) (sym chain.paths) ∙ has.2 in
      omega (arith, few, steps, ap length same)

  -- the steps up to after the next one
  more_are : (text : List ℕ) → slice_get path next ≡ Some (key text)
      → drop from path ≡ map key (chain.keys ++ text ∷ []) ++ drop (next + 1) path
  more_are text step =
      chain.are ∙ ap (λ ps. map key chain.keys ++ ps) (next_step path next (key text) step)
      ∙ sym (append_assoc (map key chain.keys) (key text ∷ []) (drop (next + 1) path))
      ∙ ap (λ ps. ps ++ drop (next + 1) path) (sym (map-append key chain.keys (text ∷ [])))

  -- the paths with that of the next key
  more_paths : (text : List ℕ) → paths_of t.trie ++ (path_at t.trie n ++ key text ∷ []) ∷ []
      ≡ [] ∷ paths_below [] (chain.keys ++ text ∷ [])
  more_paths text =
      ap₂ (λ ps p. ps ++ (p ++ key text ∷ []) ∷ []) chain.paths path_here
      ∙ ap (λ ps. [] ∷ ps) (sym (paths_more [] chain.keys text))

  pub goes_on : (new : TrieInfos) (text : List ℕ) (role : Option Role) → slice_get path next ≡ Some (key text)
      → Grows t.trie new.trie n (path_at t.trie n ++ key text ∷ []) role by_key
      → new.infos ≡ t.infos ++ dotted_info (key_numbers n) ∷ [] → IsChain path from (next + 1) new
  goes_on new text role step grows infos =
      let longer_by : length (chain.keys ++ text ∷ []) ≡ length chain.keys + 1 =
      length-append chain.keys (text ∷ []) in
      let end : length (chain.keys ++ text ∷ []) ≡ length t.trie = omega (arith, longer_by, chain.count) in
      record {
        keys = chain.keys ++ text ∷ [];
        are = more_are text step;
        many = omega (arith, longer_by, chain.many);
        count = omega (arith, longer_by, longer grows, chain.count);
        keyed = ap (holds_at new.trie) end ∙ holds_last grows;
        paths = grows.paths ∙ more_paths text;
        infos =
            infos ∙ ap₂ (λ is i. is ++ dotted_info (key_numbers i) ∷ []) chain.infos so_many
            ∙ ap (λ is. no_info ∷ is) (sym (tables_more 0 chain.keys text));
      }

  pub all_come : (new : NodeInfos) (text : List ℕ) (kind : Kind) → slice_get path next ≡ Some (key text)
      → length path ≡ next + 1
      → new ≡ with_last (node_infos t) (path_at t.trie n ++ key text ∷ []) (line_info (key_numbers n) kind)
      → (keys : List (List ℕ)) → drop from path ≡ map key keys → new ≡ keys_alone keys kind
  all_come new text kind step end is keys are =
      let same : chain.keys ++ text ∷ [] ≡ keys =
      keys_same (chain.keys ++ text ∷ []) keys
      (sym (append-nil (map key (chain.keys ++ text ∷ [])))
      ∙ ap (λ ps. map key (chain.keys ++ text ∷ []) ++ ps) (sym (drop_of_length-le path (omega (arith, end))))
      ∙ sym (more_are text step) ∙ are) in
      is
      ∙ ap₂ (λ ps is. let x : NodeInfos = record { paths = ps; infos = is } in x) (more_paths text)
      (ap₂ (λ is i. is ++ line_info (key_numbers i) kind ∷ []) chain.infos so_many
      ∙ ap (λ is. no_info ∷ is) (sym (keys_more 0 kind chain.keys text)))
      ∙ ap (λ ks. keys_alone ks kind) same
