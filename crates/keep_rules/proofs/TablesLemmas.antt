-- What a new node, and another state of a node, do to arrays, tables and arrays of tables.
--
-- Two changes of the list of nodes are looked at: one node more (`Grows`, with `Joins` for how it joins its parent) and
-- another state of one node (`Restates`). For each, every invariant is shown to hold after it: the shape of the nodes
-- (`IsShaped`), the elements that each array of tables has (`AreTables`), and that each has one (`AllBegun`). A node is
-- either the new one, its parent, or another, and the three cases are split by number. A new state must not turn a node
-- into an array of tables, or back: `kind_preserved` and `kind_made` show this from the table of roles, case by case.
--
-- Theorems: `shaped_grown` and `shaped_restated`: the shape of the nodes holds after both changes.
use Rattle.std.proofs.Common.{add-zero, ◌≡◌, ℕ, ◌+◌, ◌<◌, Bool, true, false, cond, ◌&&◌, List, [], ◌∷◌, ◌++◌, length}
use Rattle.std.proofs.Common.{get_or, refl, sym, ◌∙◌, ap, subst, arith, length-append, Option, Some, None, inl, inr}
use Rattle.std.specs.Prelude.{Contains, IsSome}
use Rattle.std.specs.List.{list_all}
use Rattle.std.proofs.lemmas.List.{get_or_append_left, get_or_push, get_or-set_same, get_or-set_other, length-map}
use Rattle.std.proofs.lemmas.List.Elements.{Contains-append_left, Contains-get_or}
use Rattle.std.proofs.lemmas.List.Sums.{fold-append}
use Rattle.std.proofs.lemmas.Bool.{cases_lt, cases_eq, cases_Bool, cond-false}
use Rattle.keep_types.specs.declared.role.Role.{Role}
use Rattle.keep_types.specs.declared.role.Role.TheVariants.{Through, Past, Define, Element, Dotted, Value}
use Rattle.keep_path.specs.Path.{Part, key, index, same_path}
use Rattle.keep_meaning.specs.Rules.{allows}
use Rattle.keep_meaning.specs.Marks.{elements_of}
use Rattle.keep_index_store.specs.Trie.{TrieNode, Holding, nothing, by_key, by_index, paths_of, path_at, states_of}
use Rattle.keep_index_store.specs.Trie.{state_at, holds_at, children_of}
use Rattle.keep_index_store.specs.Growth.{Grows, Restates}
use Rattle.keep_meaning.specs.State.{IsState}
use Rattle.keep_rules.specs.Tables.{is_tables, Fits, IsShaped, AreTables, AllBegun}
use Rattle.keep_path.proofs.Shared.{path_decides}
use Rattle.keep_rules.proofs.RoleStateLemmas.{false_ne}
use Rattle.keep_index_store.proofs.Shared.{child_at, push_same, one_node, many, first, longer, path_below, path_last}
use Rattle.keep_index_store.proofs.Shared.{state_below, state_last, holds_below, holds_last, children_other}
use Rattle.keep_index_store.proofs.Shared.{children_here, children_last}

-- ---- what a node is

pub tables_listed : (nodes : List TrieNode) → IsShaped nodes → (i : ℕ) → i < length nodes
    → is_tables (state_at nodes i) ≡ true → holds_at nodes i ≡ by_index
tables_listed nodes are i h t = by_state (state_at nodes i) refl t
  where
    by_state : (o : Option Role) → state_at nodes i ≡ o → is_tables o ≡ true → holds_at nodes i ≡ by_index
    by_state None e t = cc
    by_state (Some s) e t = (are.fits i s h e).listed t

pub key_plain : (nodes : List TrieNode) → IsShaped nodes → (i : ℕ) → i < length nodes → holds_at nodes i ≡ by_key
    → is_tables (state_at nodes i) ≡ false
key_plain nodes are i h k = false_ne _ (λ t. kinds_differ (sym k ∙ tables_listed nodes are i h t))
  where
    kinds_differ : by_key ≡ by_index → ⊥
    kinds_differ e = cc

-- ---- arrays and arrays of tables, with one node more

-- what the new node is
pub record Joins (old : List TrieNode) (parent : ℕ) (path : List Part) (state : Option Role) (holds : Holding) : Type
    0 where
  pub ends : holds_at old parent ≡ by_index → path ≡ path_at old parent ++ index (length (children_of old parent)) ∷ []
  pub bare : is_tables (state_at old parent) ≡ true → (state ≡ None) × (holds ≡ by_key)
  pub named : (p : List Part) (k : List ℕ) → path ≡ p ++ key k ∷ [] → IsSome state
  pub fits : (s : Role) → state ≡ Some s → Fits s holds

elements_grown : {old new : List TrieNode} {parent : ℕ} {path : List Part} {state : Option Role} {holds : Holding}
    → (g : Grows old new parent path state holds) → Joins old parent path state holds → IsShaped old
    → (i k : ℕ) → i < length new → holds_at new i ≡ by_index → k < length (children_of new i)
    → path_at new (get_or (children_of new i) k 0) ≡ path_at new i ++ index k ∷ []
elements_grown {old = old} {new = new} {parent = parent} {path = path} g joins are i k h t low =
    elim (cases_lt i (length old)) [
      | inl below ↦
          let t' : holds_at old i ≡ by_index = sym (holds_below g i below) ∙ t in
          elim (cases_eq i parent) [
            | inl at ↦
                let n : ℕ = length (children_of old i) in
                let own = children_here g i at in
                elim (cases_lt k n) [
                  | inl less ↦
                      let child = child_at old g.trie i k (first old g.trie) below less in
                      let same : get_or (children_of new i) k 0 ≡ get_or (children_of old i) k 0 =
                      ap (λ ks. get_or ks k 0) own
                      ∙ get_or_append_left (children_of old i) (length old ∷ []) 0 k less in
                      ap (path_at new) same ∙ path_below g _ child.nested ∙ are.elements i k below t' less
                      ∙ ap (λ p. p ++ index k ∷ []) (sym (path_below g i below))
                  | inr top ↦
                      let k_is : n ≡ k =
                      omega (arith, ap length own, length-append (children_of old i) (length old ∷ [])) in
                      let same : get_or (children_of new i) k 0 ≡ length old =
                      ap (λ ks. get_or ks k 0) own ∙ get_or_push (children_of old i) (length old) 0 k k_is in
                      let ends : path ≡ path_at old i ++ index n ∷ [] =
                      joins.ends (ap (holds_at old) (sym at) ∙ t')
                      ∙ ap (λ j. path_at old j ++ index (length (children_of old j)) ∷ []) (sym at) in
                      ap (path_at new) same ∙ path_last g ∙ ends ∙ ap (λ c. path_at old i ++ index c ∷ []) k_is
                      ∙ ap (λ p. p ++ index k ∷ []) (sym (path_below g i below))
                ]
            | inr other ↦
                let low' : k < length (children_of old i) = omega (arith, ap length (children_other g i other)) in
                let child = child_at old g.trie i k (first old g.trie) below low' in
                ap (λ ks. path_at new (get_or ks k 0)) (children_other g i other) ∙ path_below g _ child.nested
                ∙ are.elements i k below t' low' ∙ ap (λ p. p ++ index k ∷ []) (sym (path_below g i below))
          ]
      | inr above ↦
          let last : i ≡ length old = omega (arith, longer g) in
          absurd (omega (arith, ap (λ j. length (children_of new j)) last, ap length (children_last g)))
    ]

plain_grown : {old new : List TrieNode} {parent : ℕ} {path : List Part} {state : Option Role} {holds : Holding}
    → (g : Grows old new parent path state holds) → Joins old parent path state holds → IsShaped old
    → (i k : ℕ) → i < length new → is_tables (state_at new i) ≡ true → k < length (children_of new i)
    → (state_at new (get_or (children_of new i) k 0) ≡ None) × (holds_at new (get_or (children_of new i) k 0) ≡ by_key)
plain_grown {old = old} {new = new} {parent = parent} g joins are i k h t low = elim (cases_lt i (length old)) [
  | inl below ↦
      let t' : is_tables (state_at old i) ≡ true = ap is_tables (sym (state_below g i below)) ∙ t in
      elim (cases_eq i parent) [
        | inl at ↦
            let n : ℕ = length (children_of old i) in
            let own = children_here g i at in
            elim (cases_lt k n) [
              | inl less ↦
                  let child = child_at old g.trie i k (first old g.trie) below less in
                  let same : get_or (children_of new i) k 0 ≡ get_or (children_of old i) k 0 =
                  ap (λ ks. get_or ks k 0) own ∙ get_or_append_left (children_of old i) (length old ∷ []) 0 k less in
                  let was = are.plain i k below t' less in (
                    ap (state_at new) same ∙ state_below g _ child.nested ∙ was.0,
                    ap (holds_at new) same
                        ∙ holds_below g _ child.nested ∙ was.1,
                  )
              | inr top ↦
                  let k_is : n ≡ k =
                  omega (arith, ap length own, length-append (children_of old i) (length old ∷ [])) in
                  let same : get_or (children_of new i) k 0 ≡ length old =
                  ap (λ ks. get_or ks k 0) own ∙ get_or_push (children_of old i) (length old) 0 k k_is in
                  let bare = joins.bare (ap (λ j. is_tables (state_at old j)) (sym at) ∙ t') in
                  (ap (state_at new) same ∙ state_last g ∙ bare.0, ap (holds_at new) same ∙ holds_last g ∙ bare.1)
            ]
        | inr other ↦
            let low' : k < length (children_of old i) = omega (arith, ap length (children_other g i other)) in
            let child = child_at old g.trie i k (first old g.trie) below low' in
            let was = are.plain i k below t' low' in (
              ap (λ ks. state_at new (get_or ks k 0)) (children_other g i other) ∙ state_below g _ child.nested ∙ was.0,
              ap (λ ks. holds_at new (get_or ks k 0)) (children_other g i other) ∙ holds_below g _ child.nested ∙ was.1,
            )
      ]
  | inr above ↦
      let last : i ≡ length old = omega (arith, longer g) in
      absurd (omega (arith, ap (λ j. length (children_of new j)) last, ap length (children_last g)))
]

not_there : {old new : List TrieNode} {parent : ℕ} {path : List Part} {state : Option Role} {holds : Holding}
    → (g : Grows old new parent path state holds) → (p : List Part) → (Contains (paths_of new) p → ⊥)
    → Contains (paths_of old) p → ⊥
not_there {old = old} {path = path} g p none there =
    none (subst (λ (ps : List (List Part)). Contains ps p) (sym g.paths)
    (Contains-append_left (paths_of old) (path ∷ []) p there))

pub shaped_grown : {old new : List TrieNode} {parent : ℕ} {path : List Part} {state : Option Role} {holds : Holding}
    → (g : Grows old new parent path state holds) → Joins old parent path state holds → IsShaped old → IsShaped new
shaped_grown {old = old} {new = new} {path = path} {state = state} {holds = holds} g joins are = record {
  elements = elements_grown g joins are;
  plain = plain_grown g joins are;
  marked = λ i p k h is. elim (cases_lt i (length old)) [
    | inl below ↦ subst IsSome (sym (state_below g i below)) (are.marked i p k below (sym (path_below g i below) ∙ is))
    | inr above ↦
        let last : i ≡ length old = omega (arith, longer g) in
        subst IsSome (sym (ap (state_at new) last ∙ state_last g))
        (joins.named p k (sym (ap (path_at new) last ∙ path_last g) ∙ is))
  ];
  fits = λ i s h is. elim (cases_lt i (length old)) [
    | inl below ↦
        subst (λ (x : Holding). Fits s x) (sym (holds_below g i below))
        (are.fits i s below (sym (state_below g i below) ∙ is))
    | inr above ↦
        let last : i ≡ length old = omega (arith, longer g) in
        subst (λ (x : Holding). Fits s x) (sym (ap (holds_at new) last ∙ holds_last g))
        (joins.fits s (sym (ap (state_at new) last ∙ state_last g) ∙ is))
  ];
}

no_count : (b : Bool) (n : ℕ) → n ≡ 0 → ◌≡◌ {A = ℕ} (cond b n 0) 0
no_count true n e = e
no_count false n e = refl

-- where the parent is no array of tables, the arrays of tables have their elements as before
pub tables_joined : {old new : List TrieNode} {parent : ℕ} {path : List Part} {state : Option Role} {holds : Holding}
    → (g : Grows old new parent path state holds) → is_tables (state_at old parent) ≡ false → (ts : List (List Part))
    → AreTables old ts → AreTables new ts
tables_joined {old = old} {new = new} {parent = parent} {path = path} g plain ts are = record {
  counts = λ i h. elim (cases_lt i (length old)) [
    | inl below ↦
        ap (λ q. elements_of q ts) (path_below g i below) ∙ are.counts i below ∙
        elim (cases_Bool (is_tables (state_at old i))) [
          | inl t ↦
              let other : i ≡ parent → ⊥ =
              λ e. absurd (let f : is_tables (state_at old i) ≡ false = ap (λ j. is_tables (state_at old j)) e
              ∙ plain in let no : true ≡ false = sym t ∙ f in cc) in
              ap (λ ks. cond (is_tables (state_at old i)) (length ks) 0) (sym (children_other g i other))
              ∙ ap (λ x. cond (is_tables x) (length (children_of new i)) 0) (sym (state_below g i below))
          | inr f ↦ cond-false _ (length (children_of old i)) 0 f
              ∙ sym (ap (λ x. cond (is_tables x) (length (children_of new i)) 0) (state_below g i below)
              ∙ cond-false _ (length (children_of new i)) 0 f)
        ]
    | inr above ↦
        let last : i ≡ length old = omega (arith, longer g) in
        ap (λ q. elements_of q ts) (ap (path_at new) last ∙ path_last g) ∙ are.unmet path g.fresh
        ∙ sym (no_count (is_tables (state_at new i)) (length (children_of new i))
        (ap (λ j. length (children_of new j)) last ∙ ap length (children_last g)))
  ];
  unmet = λ p none. are.unmet p (not_there g p none);
}

-- where the tables have one line more
pub elements_here : (path : List Part) (ts : List (List Part))
    → elements_of path (ts ++ path ∷ []) ≡ elements_of path ts + 1
elements_here path ts =
    fold-append (λ (a : ℕ) (t : List Part). a + cond (same_path t path) 1 0) 0 ts (path ∷ [])
    ∙ ap (λ b. elements_of path ts + cond b 1 0) ((path_decides path path).1 refl)

pub elements_other : (path other : List Part) (ts : List (List Part)) → (other ≡ path → ⊥)
    → elements_of path (ts ++ other ∷ []) ≡ elements_of path ts
elements_other path other ts ne =
    fold-append (λ (a : ℕ) (t : List Part). a + cond (same_path t path) 1 0) 0 ts (other ∷ [])
    ∙ ap (λ b. elements_of path ts + cond b 1 0) (false_ne _ (λ t. ne ((path_decides other path).0 t)))
    ∙ add-zero (elements_of path ts)

-- the element of an array of tables
pub element_joins : (old : List TrieNode) (id : ℕ) (path : List Part) → path_at old id ≡ path
    → Joins old id (path ++ index (length (children_of old id)) ∷ []) None by_key
element_joins old id path here = record {
  ends = λ t. ap (λ p. p ++ index (length (children_of old id)) ∷ []) (sym here);
  bare = λ t. (refl, refl);
  named = λ p k is. absurd (let no : index (length (children_of old id)) ≡ key k = (push_same _ _ _ _ is).1 in cc);
  fits = λ s is. absurd cc;
}

-- a new element of an array of tables
pub tables_begun : (old new : List TrieNode) (id : ℕ) (path : List Part) (ts : List (List Part)) → path_at old id ≡ path
    → is_tables (state_at old id) ≡ true
    → Grows old new id (path ++ index (length (children_of old id)) ∷ []) None by_key → AreTables old ts
    → AreTables new (ts ++ path ∷ [])
tables_begun old new id path ts here tables g are =
    let n : ℕ = length (children_of old id) in
    let np : List Part = path ++ index n ∷ [] in
    let grown : length (children_of new id) ≡ n + 1 =
    omega (arith, ap length (children_here g id refl), length-append (children_of old id) (length old ∷ [])) in
    record {
      counts = λ i h. elim (cases_lt i (length old)) [
        | inl below ↦ elim (cases_eq i id) [
          | inl at ↦
              let count : elements_of path ts ≡ n =
              ap (λ p. elements_of p ts) (sym here) ∙ are.counts id g.within ∙ ap (λ t. cond t n 0) tables in
              let left : elements_of (path_at new i) (ts ++ path ∷ []) ≡ n + 1 =
              ap (λ p. elements_of p (ts ++ path ∷ [])) (path_below g i below ∙ ap (path_at old) at ∙ here)
              ∙ elements_here path ts ∙ ap (λ c. c + 1) count in
              let right : cond (is_tables (state_at new i)) (length (children_of new i)) 0 ≡ n + 1 =
              ap (λ s. cond (is_tables s) (length (children_of new i)) 0) (state_below g i below)
              ∙ ap (λ j. cond (is_tables (state_at old j)) (length (children_of new j)) 0) at
              ∙ ap (λ t. cond t (length (children_of new id)) 0) tables ∙ grown in
              left ∙ sym right
          | inr other ↦
              let differ : path ≡ path_at old i → ⊥ =
              λ e. other (one_node old g.trie i id below g.within (sym e ∙ sym here)) in
              ap (λ p. elements_of p (ts ++ path ∷ [])) (path_below g i below)
              ∙ elements_other (path_at old i) path ts differ ∙ are.counts i below
              ∙ ap (λ ks. cond (is_tables (state_at old i)) (length ks) 0) (sym (children_other g i other))
              ∙ ap (λ s. cond (is_tables s) (length (children_of new i)) 0) (sym (state_below g i below))
        ]
        | inr above ↦
            let last : i ≡ length old = omega (arith, longer g) in
            let differ : path ≡ np → ⊥ = λ e. absurd (omega (arith, ap length e, length-append path (index n ∷ []))) in
            ap (λ p. elements_of p (ts ++ path ∷ [])) (ap (path_at new) last ∙ path_last g)
            ∙ elements_other np path ts differ ∙ are.unmet np g.fresh
            ∙ sym (no_count (is_tables (state_at new i)) (length (children_of new i))
            (ap (λ j. length (children_of new j)) last ∙ ap length (children_last g)))
      ];
      unmet = λ p none.
          let old_none = not_there g p none in
          elements_other p path ts (λ e.
          old_none (subst (Contains (paths_of old)) (here ∙ e)
          (Contains-get_or (paths_of old) id [] (omega (arith, g.within, many old g.trie))))) ∙ are.unmet p old_none;
    }

-- the arrays of tables with their elements, but for a new one
pub begun_others : {old new : List TrieNode} {parent : ℕ} {path : List Part} {state : Option Role} {holds : Holding}
    → (g : Grows old new parent path state holds) → is_tables (state_at old parent) ≡ false → AllBegun old → (i : ℕ)
    → i < length new → (i ≡ length old → ⊥) → is_tables (state_at new i) ≡ true → 0 < length (children_of new i)
begun_others {old = old} {parent = parent} g plain begun i h ne t = elim (cases_lt i (length old)) [
  | inl below ↦
      let t' : is_tables (state_at old i) ≡ true = ap is_tables (sym (state_below g i below)) ∙ t in
      let other : i ≡ parent → ⊥ =
      λ e. absurd (let f : is_tables (state_at old i) ≡ false = ap (λ j. is_tables (state_at old j)) e ∙ plain in
      let no : true ≡ false = sym t' ∙ f in cc) in
      omega (arith, begun i below t', ap length (children_other g i other))
  | inr above ↦ absurd (ne (omega (arith, longer g)))
]

pub begun_joined : {old new : List TrieNode} {parent : ℕ} {path : List Part} {state : Option Role} {holds : Holding}
    → (g : Grows old new parent path state holds) → is_tables (state_at old parent) ≡ false → is_tables state ≡ false
    → AllBegun old → AllBegun new
begun_joined {old = old} {new = new} g plain bare begun i h t = elim (cases_eq i (length old)) [
  | inl last ↦
      absurd (let no : true ≡ false = sym t ∙ ap (λ j. is_tables (state_at new j)) last ∙ ap is_tables (state_last g)
      ∙ bare in cc)
  | inr ne ↦ begun_others g plain begun i h ne t
]

-- after a new element all arrays of tables have one, where the others had
pub begun_begun : (old new : List TrieNode) (id : ℕ) (path : List Part) → Grows old new id path None by_key
    → ((i : ℕ) → i < length old → (i ≡ id → ⊥) → is_tables (state_at old i) ≡ true → 0 < length (children_of old i))
    → AllBegun new
begun_begun old new id path g others i h t = elim (cases_lt i (length old)) [
  | inl below ↦ elim (cases_eq i id) [
    | inl at ↦ omega (arith, ap length (children_here g i at), length-append (children_of old i) (length old ∷ []))
    | inr other ↦
        let t' : is_tables (state_at old i) ≡ true = ap is_tables (sym (state_below g i below)) ∙ t in
        omega (arith, others i below other t', ap length (children_other g i other))
  ]
  | inr above ↦
      let last : i ≡ length old = omega (arith, longer g) in
      absurd (let no : true ≡ false = sym t ∙ ap (λ j. is_tables (state_at new j)) last ∙ ap is_tables (state_last g) in
      cc)
]

-- ---- another state

pub state_same : {old new : List TrieNode} {id : ℕ} {next : Role} → Restates old new id next
    → state_at new id ≡ Some next
state_same {old = old} {id = id} {next = next} g =
    ap (λ ss. get_or ss id None) g.states
    ∙ get_or-set_same (states_of old) id (Some next) None
    (omega (arith, g.within, length-map old (λ (n : TrieNode). n.state)))

state_other : {old new : List TrieNode} {id : ℕ} {next : Role} → Restates old new id next → (i : ℕ) → (i ≡ id → ⊥)
    → state_at new i ≡ state_at old i
state_other {old = old} {id = id} {next = next} g i ne =
    ap (λ ss. get_or ss i None) g.states ∙ get_or-set_other (states_of old) id i (Some next) None ne

pub holds_same : {old new : List TrieNode} {id : ℕ} {next : Role} → Restates old new id next → (i : ℕ)
    → holds_at new i ≡ holds_at old i
holds_same g i = ap (λ hs. get_or hs i nothing) g.holdings

pub kind_same : {old new : List TrieNode} {id : ℕ} {next : Role} → Restates old new id next
    → allows next Element ≡ is_tables (state_at old id) → (i : ℕ)
    → is_tables (state_at new i) ≡ is_tables (state_at old i)
kind_same {old = old} {new = new} {id = id} g kind i = elim (cases_eq i id) [
  | inl here ↦ ap (λ j. is_tables (state_at new j)) here ∙ ap is_tables (state_same g) ∙ kind
      ∙ ap (λ j. is_tables (state_at old j)) (sym here)
  | inr other ↦ ap is_tables (state_other g i other)
]

some_same : (a b s : Role) → Some a ≡ Some b → a ≡ b
some_same a b s e = cc

pub tables_restated : {old new : List TrieNode} {id : ℕ} {next : Role} → Restates old new id next
    → allows next Element ≡ is_tables (state_at old id) → (ts : List (List Part)) → AreTables old ts → AreTables new ts
tables_restated {old = old} {new = new} {id = id} {next = next} g kind ts are = record {
  counts = λ i h.
      ap (λ ps. elements_of (get_or ps i []) ts) g.paths ∙ are.counts i (omega (arith, g.many))
      ∙ ap (λ ks. cond (is_tables (state_at old i)) (length ks) 0) (sym (g.children i))
      ∙ ap (λ t. cond t (length (children_of new i)) 0) (sym (kind_same g kind i));
  unmet = λ p none. are.unmet p (λ there. none (subst (λ (ps : List (List Part)). Contains ps p) (sym g.paths) there));
}

pub shaped_restated : {old new : List TrieNode} {id : ℕ} {next : Role} (before : List Part) (name : List ℕ)
    → path_at old id ≡ before ++ key name ∷ [] → Restates old new id next
    → allows next Element ≡ is_tables (state_at old id)
    → Fits next (holds_at old id) → IsShaped old → IsShaped new
shaped_restated {old = old} {new = new} {id = id} {next = next} before name named g kind fits are = record {
  elements = λ i k h t low.
      ap (λ ks. path_at new (get_or ks k 0)) (g.children i)
      ∙ ap (λ ps. get_or ps (get_or (children_of old i) k 0) []) g.paths
      ∙ are.elements i k (omega (arith, g.many)) (sym (holds_same g i) ∙ t) (omega (arith, ap length (g.children i)))
      ∙ ap (λ ps. get_or ps i [] ++ index k ∷ []) (sym g.paths);
  plain = λ i k h t low.
      let t' : is_tables (state_at old i) ≡ true = sym (kind_same g kind i) ∙ t in
      let h' : i < length old = omega (arith, g.many) in
      let low' : k < length (children_of old i) = omega (arith, ap length (g.children i)) in
      let far : get_or (children_of old i) k 0 ≡ id → ⊥ = λ e.
      let two : path_at old i ++ index k ∷ [] ≡ before ++ key name ∷ [] =
      sym (are.elements i k h' (tables_listed old are i h' t') low') ∙ ap (path_at old) e ∙ named in
      let no : index k ≡ key name = (push_same _ _ _ _ two).1 in absurd (cc) in
      let was = are.plain i k h' t' low' in (
        ap (λ ks. state_at new (get_or ks k 0)) (g.children i) ∙ state_other g _ far
            ∙ was.0,
        ap (λ ks. holds_at new (get_or ks k 0)) (g.children i) ∙ holds_same g _ ∙ was.1,
      );
  marked = λ i p k h is. elim (cases_eq i id) [
    | inl here ↦ subst IsSome (sym (ap (state_at new) here ∙ state_same g)) refl
    | inr other ↦
        subst IsSome (sym (state_other g i other))
        (are.marked i p k (omega (arith, g.many)) (ap (λ ps. get_or ps i []) (sym g.paths) ∙ is))
  ];
  fits = λ i s h is. elim (cases_eq i id) [
    | inl here ↦
        let own : next ≡ s = some_same next s s (sym (state_same g) ∙ ap (state_at new) (sym here) ∙ is) in
        subst (λ (r : Role). Fits r (holds_at new i)) own
        (subst (λ (x : Holding). Fits next x) (ap (holds_at old) (sym here) ∙ sym (holds_same g i)) fits)
    | inr other ↦
        subst (λ (x : Holding). Fits s x) (sym (holds_same g i))
        (are.fits i s (omega (arith, g.many)) (sym (state_other g i other) ∙ is))
  ];
}

pub begun_existing : {old new : List TrieNode} {id : ℕ} {next : Role} → Restates old new id next
    → allows next Element ≡ is_tables (state_at old id) → AllBegun old → AllBegun new
begun_existing g kind begun =
    λ i h t. omega (arith, begun i (omega (arith, g.many)) (sym (kind_same g kind i) ∙ t), ap length (g.children i))

-- an allowed mark does not make an array of tables of something else
and_true : (b : Bool) → b ≡ (b && true)
and_true true = refl
and_true false = refl

both : (s role : Role) → allows s role ≡ true → (allows s Element && allows role Element) ≡ allows s Element
both Through role h = refl
both Define role h = refl
both Dotted role h = refl
both Value role h = refl
both Past Element h = refl
both Past Past h = refl
both Past Through h = cc
both Past Define h = cc
both Past Dotted h = cc
both Past Value h = cc
both Element Element h = refl
both Element Past h = refl
both Element Through h = cc
both Element Define h = cc
both Element Dotted h = cc
both Element Value h = cc

alike : (s role : Role) → allows s role ≡ true → allows s Element ≡ allows role Element
alike Through Through h = refl
alike Through Define h = refl
alike Through Dotted h = refl
alike Through Past h = cc
alike Through Element h = cc
alike Through Value h = cc
alike Define Through h = refl
alike Define Define h = cc
alike Define Dotted h = cc
alike Define Past h = cc
alike Define Element h = cc
alike Define Value h = cc
alike Dotted Through h = refl
alike Dotted Dotted h = refl
alike Dotted Define h = cc
alike Dotted Past h = cc
alike Dotted Element h = cc
alike Dotted Value h = cc
alike Value role h = cc
alike Past Element h = refl
alike Past Past h = refl
alike Past Through h = cc
alike Past Define h = cc
alike Past Dotted h = cc
alike Past Value h = cc
alike Element Element h = refl
alike Element Past h = refl
alike Element Through h = cc
alike Element Define h = cc
alike Element Dotted h = cc
alike Element Value h = cc

one_state : (s role : Role)
    → ((roles : List Role) → IsState (Some s) roles → list_all (λ e. allows e role) roles ≡ true) → allows s role ≡ true
one_state s role allowed =
    let pass : (allows s role && true) ≡ true = allowed (s ∷ []) (λ r. and_true (allows s r)) in
    and_true (allows s role) ∙ pass

state_then : (s next role : Role)
    → ((roles : List Role) → IsState (Some s) roles → IsState (Some next) (roles ++ role ∷ []))
    → allows next Element ≡ (allows s Element && allows role Element)
state_then s next role then =
    then (s ∷ []) (λ r. and_true (allows s r)) Element
    ∙ ap (λ b. allows s Element && b) (sym (and_true (allows role Element)))

pub kind_preserved : (o : Option Role) (next role : Role) → IsSome o
    → ((roles : List Role) → IsState o roles → list_all (λ e. allows e role) roles ≡ true)
    → ((roles : List Role) → IsState o roles → IsState (Some next) (roles ++ role ∷ []))
    → allows next Element ≡ is_tables o
kind_preserved None next role some allowed then = cc
kind_preserved (Some s) next role some allowed then =
    state_then s next role then ∙ both s role (one_state s role allowed)

pub kind_made : (o : Option Role) (next role : Role)
    → ((roles : List Role) → IsState o roles → list_all (λ e. allows e role) roles ≡ true)
    → ((roles : List Role) → IsState o roles → IsState (Some next) (roles ++ role ∷ []))
    → allows next Element ≡ allows role Element
kind_made None next role allowed then = then [] refl Element ∙ sym (and_true (allows role Element))
kind_made (Some s) next role allowed then =
    state_then s next role then ∙ both s role (one_state s role allowed) ∙ alike s role (one_state s role allowed)
