-- The stored nodes, with one more, and with another role at one.
--
-- A stored node has its parent, its number there and its own children. The step to it is read from the parent: the key
-- of the child with that number, or the number (`step_in`); `trie_of` is the tree with these steps. So what a parent
-- lists and what a child says of itself agree (`stored_child`, `node_placed`), and a key that no path has is not among
-- the children (`not_named`). One node more (`IsAdded`) comes after all others and last among the children of its
-- parent: the other steps stay, so the tree is the old one with a node at its end (`alike_added`). One node changed
-- (`IsChanged`) has its parent, number and children as before: all steps stay, and at most a role is another.
--
-- Theorems: `stored_child`, `node_placed` and `not_named`; `grows_with` and `stored_added`; `stored_changed` and
-- `stored_preserved`.
use Rattle.std.proofs.Common.{◌≡◌, ℕ, zero, suc, ◌+◌, ◌<◌, true, false, cond, List, [], ◌∷◌, ◌++◌, length, get_or, set}
use Rattle.std.proofs.Common.{map, refl, sym, ◌∙◌, ap, subst, arith, length-append, inl, inr, Option, Some, None}
use Rattle.std.specs.Prelude.{Contains, slice_get}
use Rattle.std.specs.Str.{bytes_eq}
use Rattle.std.specs.Map.{lookup}
use Rattle.std.proofs.lemmas.List.{get_or_append_left, get_or_push, get_or-set_same, get_or-set_other, get_or-map}
use Rattle.std.proofs.lemmas.List.{get_or_default, length-set, length-map, map-append, map-set, set-append_left}
use Rattle.std.proofs.lemmas.Bool.{cases_lt, cases_eq}
use Rattle.std.proofs.lemmas.Option.{slice_get-get_or, slice_get_past}
use Rattle.std.proofs.lemmas.Simd.{map-map}
use Rattle.std.proofs.lemmas.Slice.Eq.{bytes_eq-Decides}
use Rattle.std.proofs.Math.Seq.{map-set_same}
use Rattle.keep_index_store.specs.AllNodes.{Node, and_key}
use Rattle.keep_types.specs.declared.node.NodeInfo.{NodeInfo}
use Rattle.keep_types.specs.declared.role.Role.{Role}
use Rattle.keep_path.specs.Path.{Part, key, index}
use Rattle.keep_path.specs.NodeInfos.{no_info}
use Rattle.keep_index_store.specs.Facts.{info_of}
use Rattle.keep_index_store.specs.Children.{ChildList, Bare, Keyed, Listed, no_children, holds_of, named, child_ids}
use Rattle.keep_index_store.specs.Children.{child_named}
use Rattle.keep_index_store.specs.Trie.{TrieNode, Holding, nothing, by_key, by_index, IsTrie, state_at, holds_at}
use Rattle.keep_index_store.specs.Trie.{states_of, holdings_of, paths_of, path_at, children_of}
use Rattle.keep_index_store.specs.Growth.{Grows, Restates}
use Rattle.keep_index_store.specs.Stored.{step_at, step_in, trie_node_in, trie_of, AreNumbered, IsStored, infos_of}
use Rattle.keep_index_store.specs.Tree.{tree_of, info_at}
use Rattle.keep_index_store.proofs.TrieLemmas.{child_at, IsChildOf, child_placed, IsAmongChildren, no_children_past_end}
use Rattle.keep_index_store.proofs.TrieLemmas.{path_met}
use Rattle.keep_index_store.proofs.NewNodeLemmas.{children_here, children_other}
use Rattle.keep_index_store.proofs.GrowthLemmas.{IsAlike, rest_same, grows_alike, grows_pushed, restates_set}

-- ---- looking up

pub record IsFound (text : List ℕ) (ps : List (List ℕ × ℕ)) (id : ℕ) : Type 0 where
  pub place : ℕ
  pub nested : place < length ps
  pub name : (e : List ℕ × ℕ) → (get_or ps place e).0 ≡ text
  pub number : (e : List ℕ × ℕ) → (get_or ps place e).1 ≡ id

same_number : (a b : ℕ) → Some a ≡ Some b → a ≡ b
same_number a b e = cc

found : (text : List ℕ) (ps : List (List ℕ × ℕ)) (id : ℕ) → lookup (bytes_eq text) ps ≡ Some id → IsFound text ps id
found text [] id h = absurd cc
found text (p ∷ ps) id h =
    (elim (bytes_eq text p.0) as (λ b. bytes_eq text p.0 ≡ b → cond b (Some p.1) (lookup (bytes_eq text) ps) ≡ Some id
    → IsFound text (p ∷ ps) id) [
      | true ↦
          λ is h. record {
            place = 0;
            nested = omega arith;
            name = λ e. sym ((bytes_eq-Decides text p.0).0 is);
            number = λ e. same_number p.1 id h;
          }
      | false ↦ λ is h. let r =
          found text ps id h in
          record { place = suc r.place; nested = omega (arith, r.nested); name = r.name; number = r.number }
    ]) refl h

later_missing : (text : List ℕ) (p : List ℕ × ℕ) (ps : List (List ℕ × ℕ)) (k : ℕ) (e : List ℕ × ℕ)
    → bytes_eq text p.0 ≡ false → k < length (p ∷ ps) → (get_or (p ∷ ps) k e).0 ≡ text
    → ((j : ℕ) → j < length ps → (get_or ps j e).0 ≡ text → ⊥) → ⊥
later_missing text p ps zero e is low same more =
    let yes : bytes_eq text p.0 ≡ true = (bytes_eq-Decides text p.0).1 (sym same) in absurd cc
later_missing text p ps (suc k) e is low same more = more k (omega arith) same

missing : (text : List ℕ) (ps : List (List ℕ × ℕ)) → lookup (bytes_eq text) ps ≡ None → (k : ℕ) (e : List ℕ × ℕ)
    → k < length ps → (get_or ps k e).0 ≡ text → ⊥
missing text [] h k e low same = absurd (omega arith)
missing text (p ∷ ps) h k e low same =
    (elim (bytes_eq text p.0) as (λ b. bytes_eq text p.0 ≡ b → cond b (Some p.1) (lookup (bytes_eq text) ps) ≡ None
    → ⊥) [
      | true ↦ λ is h. absurd cc
      | false ↦ λ is h. later_missing text p ps k e is low same (λ j. missing text ps h j e)
    ]) refl h

by_names : (c : ChildList) (text : List ℕ) → holds_of c ≡ by_key → child_named c text ≡ lookup (bytes_eq text) (named c)
by_names Bare text h = cc
by_names (Keyed pairs) text h = refl
by_names (Listed ids) text h = cc

pub ids_named : (c : ChildList) → holds_of c ≡ by_key → child_ids c ≡ map (λ e. e.1) (named c)
ids_named Bare h = cc
ids_named (Keyed pairs) h = refl
ids_named (Listed ids) h = cc

pub count_named : (c : ChildList) → holds_of c ≡ by_key → length (child_ids c) ≡ length (named c)
count_named c keyed = ap length (ids_named c keyed) ∙ length-map (named c) (λ e. e.1)

-- the child of a key is that of the entry which has it
pub record IsAtKey (c : ChildList) (text : List ℕ) (id : ℕ) : Type 0 where
  pub place : ℕ
  pub nested : place < length (child_ids c)
  pub number : get_or (child_ids c) place 0 ≡ id
  pub name : (get_or (named c) place ([], 0)).0 ≡ text

pub key_found : (c : ChildList) (text : List ℕ) (id : ℕ) → holds_of c ≡ by_key → child_named c text ≡ Some id
    → IsAtKey c text id
key_found c text id keyed is =
    let f = found text (named c) id (sym (by_names c text keyed) ∙ is) in
    let e : List ℕ × ℕ = ([], 0) in
    record {
      place = f.place;
      nested = omega (arith, f.nested, count_named c keyed);
      number =
          ap (λ ns. get_or ns f.place 0) (ids_named c keyed) ∙ get_or-map (λ e. e.1) (named c) f.place e 0 f.nested
          ∙ f.number e;
      name = f.name e;
    }

pub key_missing : (c : ChildList) (text : List ℕ) (k : ℕ) → holds_of c ≡ by_key → child_named c text ≡ None
    → k < length (child_ids c) → (get_or (named c) k ([], 0)).0 ≡ text → ⊥
key_missing c text k keyed is low same =
    missing text (named c) (sym (by_names c text keyed) ∙ is) k ([], 0) (omega (arith, low, count_named c keyed)) same

-- ---- node by node

pub length_trie_of : (nodes : List Node) → length (trie_of nodes) ≡ length nodes
length_trie_of nodes = length-map nodes (trie_node_in nodes)

pub here : (nodes : List Node) (i : ℕ) (d : Node) (u : TrieNode) → i < length nodes
    → get_or (trie_of nodes) i u ≡ trie_node_in nodes (get_or nodes i d)
here nodes i d u h = get_or-map (trie_node_in nodes) nodes i d u h

pub keyed_node : (nodes : List Node) (i : ℕ) (d : Node) → i < length nodes
    → holds_at (trie_of nodes) i ≡ holds_of (get_or nodes i d).children
keyed_node nodes i d h =
    let u : TrieNode = trie_node_in nodes d in
    get_or-map (λ (t : TrieNode). t.holds) (trie_of nodes) i u nothing (omega (arith, h, length_trie_of nodes))
    ∙ ap (λ (t : TrieNode). t.holds) (here nodes i d u h)

-- the role of a node that was read
pub role_read : (nodes : List Node) (id : ℕ) (d : Node) → id < length nodes
    → state_at (trie_of nodes) id ≡ (get_or nodes id d).facts.role
role_read nodes id d h =
    let u : TrieNode = trie_node_in nodes d in
    get_or-map (λ (t : TrieNode). t.state) (trie_of nodes) id u None (omega (arith, h, length_trie_of nodes))
    ∙ ap (λ (t : TrieNode). t.state) (here nodes id d u h)

-- a step below a node that is there
pub step_below : (nodes : List Node) (p : ℕ) (d : Node) (n : ℕ) → p < length nodes
    → step_in (slice_get nodes p) n
    ≡ step_at (named (get_or nodes p d).children) (holds_of (get_or nodes p d).children) n
step_below nodes p d n h = ap (λ o. step_in o n) (slice_get-get_or nodes p d h)

-- the k-th child of a node
pub record IsStoredChild (nodes : List Node) (p k id : ℕ) (d : Node) : Type 0 where
  pub later : 0 < id
  pub nested : id < length nodes
  pub parent : (get_or nodes id d).parent ≡ p
  pub number : (get_or nodes id d).number ≡ k
  pub part : (u : TrieNode)
      → (get_or (trie_of nodes) id u).part
      ≡ step_at (named (get_or nodes p d).children) (holds_of (get_or nodes p d).children) k
  pub path : path_at (trie_of nodes) id ≡ path_at (trie_of nodes) p
      ++ step_at (named (get_or nodes p d).children) (holds_of (get_or nodes p d).children) k ∷ []

pub stored_child : (nodes : List Node) → IsStored nodes → (p k : ℕ) (d : Node) → p < length nodes
    → k < length (child_ids (get_or nodes p d).children)
    → IsStoredChild nodes p k (get_or (child_ids (get_or nodes p d).children) k 0) d
stored_child nodes stored p k d h low =
    let ids : List ℕ = child_ids (get_or nodes p d).children in
    let id : ℕ = get_or ids k 0 in
    let kids : ids ≡ children_of (trie_of nodes) p = stored.kids p d h in
    let child : IsChildOf (trie_of nodes) p id =
    subst (λ (ks : List ℕ). IsChildOf (trie_of nodes) p (get_or ks k 0)) (sym kids)
    (child_at (trie_of nodes) stored.trie p k (trie_node_in nodes d) (omega (arith, h, length_trie_of nodes))
    (omega (arith, low, ap length kids))) in
    let nested : id < length nodes = omega (arith, child.nested, length_trie_of nodes) in
    let parent : (get_or nodes id d).parent ≡ p =
    ap (λ (t : TrieNode). t.parent) (sym (here nodes id d (trie_node_in nodes d) nested))
    ∙ child.parent (trie_node_in nodes d) in
    let number : (get_or nodes id d).number ≡ k = stored.numbers p d h k d low in
    let part : (u : TrieNode)
    → (get_or (trie_of nodes) id u).part
    ≡ step_at (named (get_or nodes p d).children) (holds_of (get_or nodes p d).children) k = λ u.
    ap (λ (t : TrieNode). t.part) (here nodes id d u nested)
    ∙ ap (λ q. step_in (slice_get nodes q) (get_or nodes id d).number) parent
    ∙ ap (λ m. step_in (slice_get nodes p) m) number ∙ step_below nodes p d k h in
    record {
      later = child.later;
      nested = nested;
      parent = parent;
      number = number;
      part = part;
      path = child.path (trie_node_in nodes d)
          ∙ ap (λ x. path_at (trie_of nodes) p ++ x ∷ []) (part (trie_node_in nodes d));
    }

-- the number of a node among the children of its parent
pub record IsPlaced (nodes : List Node) (i : ℕ) (d : Node) : Type 0 where
  pub earlier : (get_or nodes i d).parent < i
  pub low : (get_or nodes i d).number < length (child_ids (get_or nodes (get_or nodes i d).parent d).children)
  pub found : get_or (child_ids (get_or nodes (get_or nodes i d).parent d).children) (get_or nodes i d).number 0 ≡ i

pub node_placed : (nodes : List Node) → IsStored nodes → (i : ℕ) (d : Node) → 0 < i → i < length nodes
    → IsPlaced nodes i d
node_placed nodes stored i d later h =
    let u : TrieNode = trie_node_in nodes d in
    let p : ℕ = (get_or nodes i d).parent in
    let h' : i < length (trie_of nodes) = omega (arith, h, length_trie_of nodes) in
    let up : (get_or (trie_of nodes) i u).parent ≡ p = ap (λ (t : TrieNode). t.parent) (here nodes i d u h) in
    let earlier : p < i = omega (arith, up, stored.trie.parents i u later h') in
    let ids : List ℕ = child_ids (get_or nodes p d).children in
    let kids : ids ≡ children_of (trie_of nodes) p = stored.kids p d (omega (arith, earlier, h)) in
    let r : IsAmongChildren i ids =
    subst (IsAmongChildren i) (ap (children_of (trie_of nodes)) up ∙ sym kids)
    (child_placed (trie_of nodes) i u later h') in
    let number : (get_or nodes i d).number ≡ r.place =
    ap (λ n. (get_or nodes n d).number) (sym r.number)
    ∙ stored.numbers p d (omega (arith, earlier, h)) r.place d r.nested in
    record {
      earlier = earlier;
      low = omega (arith, number, r.nested);
      found = ap (λ k. get_or ids k 0) number ∙ r.number;
    }

-- ---- the child of a key

pub keyed_step : (names : List (List ℕ × ℕ)) (holds : Holding) (k : ℕ) → holds ≡ by_key
    → step_at names holds k ≡ key (get_or names k ([], 0)).0
keyed_step names holds k keyed = ap (λ h. step_at names h k) keyed

pub record IsKeyChild (nodes : List Node) (parent id : ℕ) (text : List ℕ) : Type 0 where
  pub nested : id < length nodes
  pub path : path_at (trie_of nodes) id ≡ path_at (trie_of nodes) parent ++ key text ∷ []

pub child_found : (nodes : List Node) → IsStored nodes → (parent id : ℕ) (d : Node) (text : List ℕ)
    → parent < length nodes → holds_of (get_or nodes parent d).children ≡ by_key
    → child_named (get_or nodes parent d).children text ≡ Some id → IsKeyChild nodes parent id text
child_found nodes stored parent id d text h keyed is =
    let c : ChildList = (get_or nodes parent d).children in
    let f = key_found c text id keyed is in
    let child : IsStoredChild nodes parent f.place id d =
    subst (λ (n : ℕ). IsStoredChild nodes parent f.place n d) f.number
    (stored_child nodes stored parent f.place d h f.nested) in
    record {
      nested = child.nested;
      path = child.path
          ∙ ap (λ p. path_at (trie_of nodes) parent ++ p ∷ [])
          (keyed_step (named c) (holds_of c) f.place keyed ∙ ap key f.name);
    }

-- a key that no path has is not among the children
pub not_named : (nodes : List Node) → IsStored nodes → (parent : ℕ) (d : Node) (text : List ℕ) → parent < length nodes
    → holds_of (get_or nodes parent d).children ≡ by_key
    → (Contains (paths_of (trie_of nodes)) (path_at (trie_of nodes) parent ++ key text ∷ []) → ⊥)
    → child_named (get_or nodes parent d).children text ≡ None
not_named nodes stored parent d text h keyed fresh = by_case (child_named (get_or nodes parent d).children text) refl
  where
    met : (id : ℕ) → IsKeyChild nodes parent id text
        → Contains (paths_of (trie_of nodes)) (path_at (trie_of nodes) parent ++ key text ∷ [])
    met id child =
        subst (Contains (paths_of (trie_of nodes))) child.path
        (path_met (trie_of nodes) stored.trie id (omega (arith, child.nested, length_trie_of nodes)))

    by_case : (o : Option ℕ) → child_named (get_or nodes parent d).children text ≡ o → o ≡ None
    by_case None e = refl
    by_case (Some id) e = absurd (fresh (met id (child_found nodes stored parent id d text h keyed e)))

-- ---- one node more

-- the nodes with other children at one, and one more after them
abbrev pub with_one : List Node → ℕ → Node → ChildList → Node → List Node
with_one nodes parent d kids new = set nodes parent (record (get_or nodes parent d) { children = kids }) ++ new ∷ []

-- a node more, before it is a child: the others are as they were
pub above_pushed : (nodes items : List Node) (parent : ℕ) (d new : Node) → parent < length nodes
    → items ≡ nodes ++ new ∷ [] → get_or items parent d ≡ get_or nodes parent d
above_pushed nodes items parent d new within is =
    ap (λ ns. get_or ns parent d) is ∙ get_or_append_left nodes (new ∷ []) d parent within

pub linked : (nodes items : List Node) (parent : ℕ) (d : Node) (kids : ChildList) (new : Node) → parent < length nodes
    → items ≡ nodes ++ new ∷ []
    → set items parent (record (get_or items parent d) { children = kids }) ≡ with_one nodes parent d kids new
linked nodes items parent d kids new within is =
    let changed : Node = record (get_or nodes parent d) { children = kids } in
    ap (λ (n : Node). let r : Node = record n { children = kids } in set items parent r)
    (above_pushed nodes items parent d new within is)
    ∙ ap (λ ns. set ns parent changed) is ∙ set-append_left nodes (new ∷ []) parent changed within

-- the new node is the last child of the other, by this step
pub record IsAdded (nodes : List Node) (parent : ℕ) (d : Node) (kids : ChildList) (new : Node) (part : Part) : Type
    0 where
  pub stored : IsStored nodes
  pub within : parent < length nodes
  pub holds : holds_of kids ≡ holds_of (get_or nodes parent d).children
  pub ids : child_ids kids ≡ child_ids (get_or nodes parent d).children ++ length nodes ∷ []
  pub names : List (List ℕ × ℕ)
  pub named_is : named kids ≡ named (get_or nodes parent d).children ++ names
  pub parent_is : new.parent ≡ parent
  pub last : new.number ≡ length (child_ids (get_or nodes parent d).children)
  pub step : step_at (named kids) (holds_of kids) new.number ≡ part
  pub bare : child_ids new.children ≡ []

below_added : (nodes : List Node) (parent : ℕ) (changed new : Node) (i : ℕ) (e : Node) → i < length nodes
    → get_or (set nodes parent changed ++ new ∷ []) i e ≡ get_or (set nodes parent changed) i e
below_added nodes parent changed new i e h =
    get_or_append_left (set nodes parent changed) (new ∷ []) e i (omega (arith, length-set nodes parent changed))

pub length_added : (nodes : List Node) (parent : ℕ) (changed new : Node)
    → length (set nodes parent changed ++ new ∷ []) ≡ length nodes + 1
length_added nodes parent changed new =
    omega (arith, length-append (set nodes parent changed) (new ∷ []), length-set nodes parent changed)

pub last_added : (nodes : List Node) (parent : ℕ) (changed new : Node) (i : ℕ) (e : Node) → i ≡ length nodes
    → get_or (set nodes parent changed ++ new ∷ []) i e ≡ new
last_added nodes parent changed new i e is =
    get_or_push (set nodes parent changed) new e i (omega (arith, is, length-set nodes parent changed))

at_added : (nodes : List Node) (parent : ℕ) (changed new : Node) (e : Node) → parent < length nodes
    → get_or (set nodes parent changed ++ new ∷ []) parent e ≡ changed
at_added nodes parent changed new e h =
    below_added nodes parent changed new parent e h ∙ get_or-set_same nodes parent changed e h

other_added : (nodes : List Node) (parent : ℕ) (changed new : Node) (i : ℕ) (e : Node) → i < length nodes
    → (i ≡ parent → ⊥) → get_or (set nodes parent changed ++ new ∷ []) i e ≡ get_or nodes i e
other_added nodes parent changed new i e h other =
    below_added nodes parent changed new i e h ∙ get_or-set_other nodes parent i changed e other

-- what the change leaves as it was
pub preserved_added : {X : Type 0} (f : Node → X) (nodes : List Node) (parent : ℕ) (d changed new : Node)
    → parent < length nodes → f changed ≡ f (get_or nodes parent d) → (i : ℕ) (e : Node) → i < length nodes
    → f (get_or (set nodes parent changed ++ new ∷ []) i e) ≡ f (get_or nodes i e)
preserved_added f nodes parent d changed new within same i e h = elim (cases_eq i parent) [
  | inl at ↦ ap (λ k. f (get_or (set nodes parent changed ++ new ∷ []) k e)) at
      ∙ ap f (at_added nodes parent changed new e within) ∙ same ∙ ap f (get_or_default nodes parent d e within)
      ∙ ap (λ k. f (get_or nodes k e)) (sym at)
  | inr other ↦ ap f (other_added nodes parent changed new i e h other)
]

step_more : (names more : List (List ℕ × ℕ)) (holds : Holding) (n : ℕ) → (holds ≡ by_key → n < length names)
    → step_at (names ++ more) holds n ≡ step_at names holds n
step_more names more by_key n low =
    ap (λ (e : List ℕ × ℕ). key e.0) (get_or_append_left names more ([], 0) n (low refl))
step_more names more by_index n low = refl
step_more names more nothing n low = refl

-- a step of a child that was there before
step_preserved : (nodes : List Node) (parent : ℕ) (d : Node) (kids : ChildList) (new : Node) (part : Part)
    → IsAdded nodes parent d kids new part → (p n : ℕ) → p < length nodes
    → n < length (child_ids (get_or nodes p d).children)
    → step_in (slice_get (with_one nodes parent d kids new) p) n ≡ step_in (slice_get nodes p) n
step_preserved nodes parent d kids new part added p n h low =
    let changed : Node = record (get_or nodes parent d) { children = kids } in
    let all : List Node = with_one nodes parent d kids new in
    step_below all p d n (omega (arith, h, length_added nodes parent changed new)) ∙ (elim (cases_eq p parent) [
      | inl at ↦
          let above : ChildList = (get_or nodes parent d).children in
          let low' : n < length (child_ids above) =
          omega (arith, low, ap (λ k. length (child_ids (get_or nodes k d).children)) at) in
          ap (λ k. step_at (named (get_or all k d).children) (holds_of (get_or all k d).children) n) at
          ∙ ap (λ (x : Node). step_at (named x.children) (holds_of x.children) n)
          (at_added nodes parent changed new d added.within)
          ∙ ap (λ ns. step_at ns (holds_of kids) n) added.named_is
          ∙ ap (λ h. step_at (named above ++ added.names) h n) added.holds
          ∙ step_more (named above) added.names (holds_of above) n
          (λ keyed. omega (arith, low', ap length (ids_named above keyed), length-map (named above) (λ e. e.1)))
          ∙ ap (λ k. step_at (named (get_or nodes k d).children) (holds_of (get_or nodes k d).children) n) (sym at)
      | inr other ↦
          ap (λ (x : Node). step_at (named x.children) (holds_of x.children) n)
          (other_added nodes parent changed new p d h other)
    ]) ∙ sym (step_below nodes p d n h)

pub same_trie_node : {a b : ℕ} {p q : Part} {s t : Option Role} {h k : Holding} → a ≡ b → p ≡ q → s ≡ t → h ≡ k
    → ◌≡◌ {A = TrieNode} (record { parent = a; part = p; state = s; holds = h })
    (record { parent = b; part = q; state = t; holds = k })
same_trie_node e f g i = cc

trie_node_added : Node → ℕ → Part → TrieNode
trie_node_added new parent part =
    record { parent = parent; part = part; state = new.facts.role; holds = holds_of new.children }

trie_node_preserved : (nodes : List Node) (parent : ℕ) (d : Node) (kids : ChildList) (new : Node) (part : Part)
    → IsAdded nodes parent d kids new part → (i : ℕ) → 0 < i → i < length nodes
    → trie_node_in (with_one nodes parent d kids new) (get_or (with_one nodes parent d kids new) i d)
    ≡ trie_node_in nodes (get_or nodes i d)
trie_node_preserved nodes parent d kids new part added i later h =
    let changed : Node = record (get_or nodes parent d) { children = kids } in
    let all : List Node = with_one nodes parent d kids new in
    let placed = node_placed nodes added.stored i d later h in
    let up : (get_or all i d).parent ≡ (get_or nodes i d).parent =
    preserved_added (λ (n : Node). n.parent) nodes parent d changed new added.within refl i d h in
    let number : (get_or all i d).number ≡ (get_or nodes i d).number =
    preserved_added (λ (n : Node). n.number) nodes parent d changed new added.within refl i d h in
    same_trie_node up
    (ap (λ p. step_in (slice_get all p) (get_or all i d).number) up
    ∙ ap (λ n. step_in (slice_get all (get_or nodes i d).parent) n) number
    ∙ step_preserved nodes parent d kids new part added (get_or nodes i d).parent (get_or nodes i d).number
    (omega (arith, placed.earlier, h)) placed.low)
    (preserved_added (λ (n : Node). n.facts.role) nodes parent d changed new added.within refl i d h)
    (preserved_added (λ (n : Node). holds_of n.children) nodes parent d changed new added.within added.holds i d h)

trie_node_last : (nodes : List Node) (parent : ℕ) (d : Node) (kids : ChildList) (new : Node) (part : Part)
    → IsAdded nodes parent d kids new part
    → trie_node_in (with_one nodes parent d kids new) new ≡ trie_node_added new parent part
unfolding trie_node_added
trie_node_last nodes parent d kids new part added =
    let changed : Node = record (get_or nodes parent d) { children = kids } in
    let all : List Node = with_one nodes parent d kids new in
    same_trie_node added.parent_is
    (ap (λ p. step_in (slice_get all p) new.number) added.parent_is
    ∙ step_below all parent d new.number (omega (arith, added.within, length_added nodes parent changed new))
    ∙ ap (λ (x : Node). step_at (named x.children) (holds_of x.children) new.number)
    (at_added nodes parent changed new d added.within) ∙ added.step)
    refl refl

pub states_are : (nodes : List Node) → states_of (trie_of nodes) ≡ map (λ (n : Node). n.facts.role) nodes
states_are nodes = map-map (λ (t : TrieNode). t.state) (trie_node_in nodes) nodes

pub holdings_are : (nodes : List Node) → holdings_of (trie_of nodes) ≡ map (λ (n : Node). holds_of n.children) nodes
holdings_are nodes = map-map (λ (t : TrieNode). t.holds) (trie_node_in nodes) nodes

-- of all nodes, where the changed one is as it was
map_added : {X : Type 0} (f : Node → X) (nodes : List Node) (parent : ℕ) (d changed new : Node)
    → f changed ≡ f (get_or nodes parent d) → map f (set nodes parent changed ++ new ∷ []) ≡ map f nodes ++ f new ∷ []
map_added f nodes parent d changed new same =
    map-append f (set nodes parent changed) (new ∷ [])
    ∙ ap (λ xs. xs ++ f new ∷ []) (map-set_same f nodes parent changed d same)

alike_added : (nodes : List Node) (parent : ℕ) (d : Node) (kids : ChildList) (new : Node) (part : Part)
    → IsAdded nodes parent d kids new part
    → IsAlike (trie_of (with_one nodes parent d kids new)) (trie_of nodes ++ trie_node_added new parent part ∷ [])
unfolding trie_node_added
alike_added nodes parent d kids new part added =
    let changed : Node = record (get_or nodes parent d) { children = kids } in
    let all : List Node = with_one nodes parent d kids new in
    let t : TrieNode = trie_node_added new parent part in
    let longer : length all ≡ length nodes + 1 = length_added nodes parent changed new in
    let many : length (trie_of all) ≡ length (trie_of nodes ++ t ∷ []) =
    omega (arith, longer, length_trie_of all, length_trie_of nodes, length-append (trie_of nodes) (t ∷ [])) in
    record {
      many = many;
      rest = rest_same (trie_of all) (trie_of nodes ++ t ∷ []) many (λ i u later h. elim (cases_lt i (length nodes)) [
        | inl below ↦ here all i d u (omega (arith, below, longer))
            ∙ trie_node_preserved nodes parent d kids new part added i later below ∙ sym (here nodes i d u below)
            ∙ sym (get_or_append_left (trie_of nodes) (t ∷ []) u i (omega (arith, below, length_trie_of nodes)))
        | inr above ↦
            let is : i ≡ length nodes = omega (arith, above, h, length_trie_of all, longer) in
            here all i d u (omega (arith, is, longer))
            ∙ ap (trie_node_in all) (last_added nodes parent changed new i d is)
            ∙ trie_node_last nodes parent d kids new part added
            ∙ sym (get_or_push (trie_of nodes) t u i (omega (arith, is, length_trie_of nodes)))
      ]);
      states =
          states_are all ∙ map_added (λ (n : Node). n.facts.role) nodes parent d changed new refl
          ∙ ap (λ ss. ss ++ new.facts.role ∷ []) (sym (states_are nodes))
          ∙ sym (map-append (λ (u : TrieNode). u.state) (trie_of nodes) (t ∷ []));
      holdings =
          holdings_are all ∙ map_added (λ (n : Node). holds_of n.children) nodes parent d changed new added.holds
          ∙ ap (λ hs. hs ++ holds_of new.children ∷ []) (sym (holdings_are nodes))
          ∙ sym (map-append (λ (u : TrieNode). u.holds) (trie_of nodes) (t ∷ []));
    }

pub grows_added : (nodes : List Node) (parent : ℕ) (d : Node) (kids : ChildList) (new : Node) (part : Part)
    → IsAdded nodes parent d kids new part
    → (Contains (paths_of (trie_of nodes)) (path_at (trie_of nodes) parent ++ part ∷ []) → ⊥)
    → Grows (trie_of nodes) (trie_of (with_one nodes parent d kids new)) parent
    (path_at (trie_of nodes) parent ++ part ∷ []) new.facts.role (holds_of new.children)
unfolding trie_node_added
grows_added nodes parent d kids new part added fresh =
    grows_alike (grows_pushed (trie_of nodes) (trie_node_added new parent part) added.stored.trie
    (omega (arith, added.within, length_trie_of nodes)) fresh) (alike_added nodes parent d kids new part added)

-- the new nodes as they were written
pub grows_with : (nodes items : List Node) (parent : ℕ) (d : Node) (kids : ChildList) (new : Node) (part : Part)
    (holds : Holding) → IsAdded nodes parent d kids new part
    → (Contains (paths_of (trie_of nodes)) (path_at (trie_of nodes) parent ++ part ∷ []) → ⊥)
    → items ≡ with_one nodes parent d kids new → holds_of new.children ≡ holds
    → Grows (trie_of nodes) (trie_of items) parent (path_at (trie_of nodes) parent ++ part ∷ []) new.facts.role holds
grows_with nodes items parent d kids new part holds added fresh is bare =
    subst (λ (h : Holding).
    Grows (trie_of nodes) (trie_of items) parent (path_at (trie_of nodes) parent ++ part ∷ []) new.facts.role h) bare
    (subst (λ (ns : List Node).
    Grows (trie_of nodes) (trie_of ns) parent (path_at (trie_of nodes) parent ++ part ∷ []) new.facts.role
    (holds_of new.children)) (sym is) (grows_added nodes parent d kids new part added fresh))

numbers_pushed : (all : List Node) (ids : List ℕ) (id : ℕ) → AreNumbered all ids
    → ((e : Node) → (get_or all id e).number ≡ length ids) → AreNumbered all (ids ++ id ∷ [])
numbers_pushed all ids id are last k e low = elim (cases_lt k (length ids)) [
  | inl below ↦ ap (λ i. (get_or all i e).number) (get_or_append_left ids (id ∷ []) 0 k below) ∙ are k e below
  | inr above ↦
      let is : k ≡ length ids = omega (arith, above, low, length-append ids (id ∷ [])) in
      ap (λ i. (get_or all i e).number) (get_or_push ids id 0 k (sym is)) ∙ last e ∙ sym is
]

-- the children that were there keep their numbers
numbers_preserved : (nodes : List Node) (parent : ℕ) (d : Node) (kids : ChildList) (new : Node) (part : Part)
    → IsAdded nodes parent d kids new part → (i : ℕ) (e : Node) → i < length nodes
    → AreNumbered (with_one nodes parent d kids new) (child_ids (get_or nodes i e).children)
numbers_preserved nodes parent d kids new part added i e h k u low =
    let changed : Node = record (get_or nodes parent d) { children = kids } in
    let id : ℕ = get_or (child_ids (get_or nodes i e).children) k 0 in
    preserved_added (λ (n : Node). n.number) nodes parent d changed new added.within refl id u
    (stored_child nodes added.stored i k e h low).nested ∙ added.stored.numbers i e h k u low

pub stored_added : (nodes : List Node) (parent : ℕ) (d : Node) (kids : ChildList) (new : Node) (part : Part)
    → IsAdded nodes parent d kids new part
    → (Contains (paths_of (trie_of nodes)) (path_at (trie_of nodes) parent ++ part ∷ []) → ⊥)
    → IsStored (with_one nodes parent d kids new)
stored_added nodes parent d kids new part added fresh =
    let changed : Node = record (get_or nodes parent d) { children = kids } in
    let all : List Node = with_one nodes parent d kids new in
    let g = grows_added nodes parent d kids new part added fresh in
    let many : length (trie_of nodes) ≡ length nodes = length_trie_of nodes in
    let longer : length all ≡ length nodes + 1 = length_added nodes parent changed new in
    let above : List ℕ = child_ids (get_or nodes parent d).children in
    let at_parent : (i : ℕ) (e : Node) → i ≡ parent → get_or all i e ≡ changed =
    λ i e at. ap (λ k. get_or all k e) at ∙ at_added nodes parent changed new e added.within in
    record {
      trie = g.trie';
      kids = λ i e h. elim (cases_lt i (length nodes)) [
        | inl below ↦ elim (cases_eq i parent) [
          | inl at ↦
              ap (λ (n : Node). child_ids n.children) (at_parent i e at) ∙ added.ids
              ∙ ap (λ ks. ks ++ length nodes ∷ [])
              (added.stored.kids parent d added.within ∙ ap (children_of (trie_of nodes)) (sym at))
              ∙ ap (λ n. children_of (trie_of nodes) i ++ n ∷ []) (sym many) ∙ sym (children_here g i at)
          | inr other ↦ ap (λ (n : Node). child_ids n.children) (other_added nodes parent changed new i e below other)
              ∙ added.stored.kids i e below ∙ sym (children_other g i other)
        ]
        | inr past ↦
            let is : i ≡ length nodes = omega (arith, h, past, longer) in
            let far : i ≡ parent → ⊥ = λ at. absurd (omega (arith, at, added.within, past)) in
            ap (λ (n : Node). child_ids n.children) (last_added nodes parent changed new i e is) ∙ added.bare
            ∙ sym (children_other g i far
            ∙ no_children_past_end (trie_of nodes) added.stored.trie (trie_node_in nodes d) i
            (omega (arith, past, many)))
      ];
      numbers = λ i e h. elim (cases_lt i (length nodes)) [
        | inl below ↦ elim (cases_eq i parent) [
          | inl at ↦
              subst (AreNumbered all) (sym (ap (λ (n : Node). child_ids n.children) (at_parent i e at) ∙ added.ids))
              (numbers_pushed all above (length nodes)
              (numbers_preserved nodes parent d kids new part added parent d added.within)
              (λ u. ap (λ (n : Node). n.number) (last_added nodes parent changed new (length nodes) u refl)
              ∙ added.last))
          | inr other ↦
              subst (AreNumbered all) (sym (ap (λ (n : Node). child_ids n.children)
              (other_added nodes parent changed new i e below other)))
              (numbers_preserved nodes parent d kids new part added i e below)
        ]
        | inr past ↦
            let is : i ≡ length nodes = omega (arith, h, past, longer) in
            subst (AreNumbered all) (sym (ap (λ (n : Node). child_ids n.children)
            (last_added nodes parent changed new i e is) ∙ added.bare)) (λ k u low. absurd (omega arith))
      ];
    }

pub infos_added : (nodes : List Node) (parent : ℕ) (d : Node) (kids : ChildList) (new : Node)
    → infos_of (with_one nodes parent d kids new) ≡ infos_of nodes ++ info_of new.facts ∷ []
infos_added nodes parent d kids new =
    map_added (λ (n : Node). info_of n.facts) nodes parent d (record (get_or nodes parent d) { children = kids }) new
    refl

-- the step of a new child of a table, and of a new item or element
pub key_step : (above kids : ChildList) (name text : List ℕ) (id n : ℕ) → holds_of above ≡ by_key
    → holds_of kids ≡ by_key → named kids ≡ named above ++ (name, id) ∷ [] → n ≡ length (child_ids above) → name ≡ text
    → step_at (named kids) (holds_of kids) n ≡ key text
key_step above kids name text id n keyed holds names last same =
    keyed_step (named kids) (holds_of kids) n holds ∙ ap (λ (ns : List (List ℕ × ℕ)). key (get_or ns n ([], 0)).0) names
    ∙ ap (λ (e : List ℕ × ℕ). key e.0)
    (get_or_push (named above) (name, id) ([], 0) n
    (omega (arith, last, ap length (ids_named above keyed), length-map (named above) (λ e. e.1)))) ∙ ap key same

pub item_step : (kids : ChildList) (n m : ℕ) → holds_of kids ≡ by_index → n ≡ m
    → step_at (named kids) (holds_of kids) n ≡ index m
item_step kids n m holds same = ap (λ h. step_at (named kids) h n) holds ∙ ap index same

pub no_names : (c : ChildList) → holds_of c ≡ by_index → named c ≡ []
no_names Bare h = refl
no_names (Keyed pairs) h = cc
no_names (Listed ids) h = refl

-- a new node has no children
pub none_ids : (h : Holding) → child_ids (no_children h) ≡ []
none_ids nothing = refl
none_ids by_key = refl
none_ids by_index = refl

pub none_holds : (h : Holding) → holds_of (no_children h) ≡ h
none_holds nothing = refl
none_holds by_key = refl
none_holds by_index = refl

-- a child more, by its key
pub key_ids : (c : ChildList) (text : List ℕ) (id : ℕ) → holds_of c ≡ by_key
    → child_ids (and_key c text id) ≡ child_ids c ++ id ∷ []
key_ids c text id keyed =
    map-append (λ e. e.1) (named c) ((text, id) ∷ []) ∙ ap (λ ids. ids ++ id ∷ []) (sym (ids_named c keyed))

-- ---- one node changed, with its parent and its children as they were

pub record IsChanged (nodes : List Node) (id : ℕ) (d changed : Node) : Type 0 where
  pub stored : IsStored nodes
  pub within : id < length nodes
  pub parent : changed.parent ≡ (get_or nodes id d).parent
  pub number : changed.number ≡ (get_or nodes id d).number
  pub children : changed.children ≡ (get_or nodes id d).children

-- what the change leaves as it was
pub preserved_changed : {X : Type 0} (f : Node → X) (nodes : List Node) (id : ℕ) (d changed : Node) → id < length nodes
    → f changed ≡ f (get_or nodes id d) → (i : ℕ) (e : Node)
    → f (get_or (set nodes id changed) i e) ≡ f (get_or nodes i e)
preserved_changed f nodes id d changed within same i e = elim (cases_eq i id) [
  | inl at ↦ ap (λ k. f (get_or (set nodes id changed) k e)) at ∙ ap f (get_or-set_same nodes id changed e within)
      ∙ same ∙ ap f (get_or_default nodes id d e within) ∙ ap (λ k. f (get_or nodes k e)) (sym at)
  | inr other ↦ ap f (get_or-set_other nodes id i changed e other)
]

step_changed : (nodes : List Node) (id : ℕ) (d changed : Node) → IsChanged nodes id d changed → (p n : ℕ)
    → step_in (slice_get (set nodes id changed) p) n ≡ step_in (slice_get nodes p) n
step_changed nodes id d changed is p n = elim (cases_lt p (length nodes)) [
  | inl below ↦
      step_below (set nodes id changed) p d n (omega (arith, below, length-set nodes id changed))
      ∙ ap (λ c. step_at (named c) (holds_of c) n)
      (preserved_changed (λ (x : Node). x.children) nodes id d changed is.within is.children p d)
      ∙ sym (step_below nodes p d n below)
  | inr above ↦
      ap (λ o. step_in o n) (slice_get_past (set nodes id changed) p (omega (arith, above, length-set nodes id changed))
      ∙ sym (slice_get_past nodes p above))
]

map_by : {X Y : Type 0} (f g : X → Y) → ((x : X) → f x ≡ g x) → (xs : List X) → map f xs ≡ map g xs
map_by f g same [] = refl
map_by f g same (x ∷ xs) = let one : f x ≡ g x = same x in let more : map f xs ≡ map g xs = map_by f g same xs in cc

trie_of_changed : (nodes : List Node) (id : ℕ) (d changed : Node) → IsChanged nodes id d changed
    → trie_of (set nodes id changed) ≡ set (trie_of nodes) id (trie_node_in nodes changed)
trie_of_changed nodes id d changed is =
    map_by (trie_node_in (set nodes id changed)) (trie_node_in nodes)
    (λ n. same_trie_node refl (step_changed nodes id d changed is n.parent n.number) refl refl) (set nodes id changed)
    ∙ map-set (trie_node_in nodes) nodes id changed

stored_as : (nodes : List Node) (id : ℕ) (d changed : Node) → IsChanged nodes id d changed
    → IsTrie (trie_of (set nodes id changed))
    → ((i : ℕ) → children_of (trie_of (set nodes id changed)) i ≡ children_of (trie_of nodes) i)
    → IsStored (set nodes id changed)
stored_as nodes id d changed is trie same_kids =
    let preserved : (i : ℕ) (e : Node) → (get_or (set nodes id changed) i e).children ≡ (get_or nodes i e).children =
    λ i e.
    preserved_changed (λ (n : Node). n.children) nodes id d changed is.within is.children i e in
    record {
      trie = trie;
      kids = λ i e h. ap child_ids (preserved i e) ∙ is.stored.kids i e (omega (arith, h, length-set nodes id changed))
          ∙ sym (same_kids i);
      numbers = λ i e h k u low.
          let ids : List ℕ = child_ids (get_or nodes i e).children in
          let same : child_ids (get_or (set nodes id changed) i e).children ≡ ids = ap child_ids (preserved i e) in
          ap (λ ks. (get_or (set nodes id changed) (get_or ks k 0) u).number) same
          ∙ preserved_changed (λ (n : Node). n.number) nodes id d changed is.within is.number (get_or ids k 0) u
          ∙ is.stored.numbers i e (omega (arith, h, length-set nodes id changed)) k u
          (omega (arith, low, ap length same));
    }

pair_same : {a b : ℕ} {p q : Part} → a ≡ b → p ≡ q → ◌≡◌ {A = ℕ × Part} (a, p) (b, q)
pair_same e f = cc

-- another role
pub restates_changed : (nodes : List Node) (id : ℕ) (d changed : Node) (role : Role) → IsChanged nodes id d changed
    → changed.facts.role ≡ Some role → Restates (trie_of nodes) (trie_of (set nodes id changed)) id role
restates_changed nodes id d changed role is role_is =
    let u : TrieNode = trie_node_in nodes d in
    let own : get_or (trie_of nodes) id u ≡ trie_node_in nodes (get_or nodes id d) = here nodes id d u is.within in
    subst (λ (ts : List TrieNode). Restates (trie_of nodes) ts id role) (sym (trie_of_changed nodes id d changed is))
    (restates_set (trie_of nodes) id u (trie_node_in nodes changed) role record {
      trie = is.stored.trie;
      within = omega (arith, is.within, length_trie_of nodes);
      same = pair_same (is.parent ∙ ap (λ (t : TrieNode). t.parent) (sym own))
          (ap (λ p. step_in (slice_get nodes p) changed.number) is.parent
          ∙ ap (λ n. step_in (slice_get nodes (get_or nodes id d).parent) n) is.number
          ∙ ap (λ (t : TrieNode). t.part) (sym own));
      state = role_is;
      holds = ap holds_of is.children ∙ ap (λ (t : TrieNode). t.holds) (sym own);
    })

pub stored_changed : (nodes : List Node) (id : ℕ) (d changed : Node) (role : Role) → IsChanged nodes id d changed
    → changed.facts.role ≡ Some role → IsStored (set nodes id changed)
stored_changed nodes id d changed role is role_is =
    let g = restates_changed nodes id d changed role is role_is in
    stored_as nodes id d changed is g.trie' g.children

-- the same role
pub trie_of_preserved : (nodes : List Node) (id : ℕ) (d changed : Node) → IsChanged nodes id d changed
    → changed.facts.role ≡ (get_or nodes id d).facts.role → trie_of (set nodes id changed) ≡ trie_of nodes
trie_of_preserved nodes id d changed is role_is =
    map_by (trie_node_in (set nodes id changed)) (trie_node_in nodes)
    (λ n. same_trie_node refl (step_changed nodes id d changed is n.parent n.number) refl refl) (set nodes id changed)
    ∙ map-set_same (trie_node_in nodes) nodes id changed d (same_trie_node is.parent
    (ap (λ p. step_in (slice_get nodes p) changed.number) is.parent
    ∙ ap (λ n. step_in (slice_get nodes (get_or nodes id d).parent) n) is.number) role_is (ap holds_of is.children))

pub stored_preserved : (nodes : List Node) (id : ℕ) (d changed : Node) → IsChanged nodes id d changed
    → changed.facts.role ≡ (get_or nodes id d).facts.role → IsStored (set nodes id changed)
stored_preserved nodes id d changed is role_is =
    let same = trie_of_preserved nodes id d changed is role_is in
    stored_as nodes id d changed is (subst IsTrie (sym same) is.stored.trie) (λ i. ap (λ ts. children_of ts i) same)

-- the facts of one node, changed in one way
pub infos_changed : (f : NodeInfo → NodeInfo) (nodes : List Node) (id : ℕ) (d changed : Node) → id < length nodes
    → info_of changed.facts ≡ f (info_of (get_or nodes id d).facts)
    → infos_of (set nodes id changed) ≡ set (infos_of nodes) id (f (info_at (tree_of nodes) id))
infos_changed f nodes id d changed h facts =
    map-set (λ (n : Node). info_of n.facts) nodes id changed
    ∙ ap (λ i. set (infos_of nodes) id i)
    (facts ∙ ap f (sym (get_or-map (λ (n : Node). info_of n.facts) nodes id d no_info h)))
