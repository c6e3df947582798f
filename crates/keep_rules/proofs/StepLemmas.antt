-- Elements, items, and keys one by one.
--
-- Each step keeps the nodes that were there, and two such changes one after the other are one (`keeps_then`,
-- `items_then`). A `[[..]]` and an item are one new node in an array: its path is the array's with the count so far,
-- and the count is one more afterwards (`begins`, `adds_item`). A key is a step along a path: no steps lead to where
-- they begin (`walks_none`, `dots_none`), and one step more leads on from where the others led, so that the mentions of
-- the step are added after theirs (`walks_more`, `dots_more`). The last key of a value then defines it (`gives`).
--
-- Theorems: `begins`, `adds_item`, `walks_more`, `dots_more`, `gives`.
use Rattle.std.proofs.Common.{◌≡◌, ℕ, ◌<◌, true, false, cond, List, [], ◌∷◌, ◌++◌, length, map, refl, sym, ◌∙◌, ap}
use Rattle.std.proofs.Common.{subst, arith, None}
use Rattle.std.specs.Prelude.{Contains}
use Rattle.std.proofs.lemmas.List.{append_assoc, append-nil, map-append}
use Rattle.keep_types.specs.declared.role.Role.TheVariants.{Element, Dotted, Value}
use Rattle.keep_path.specs.Path.{Part, key, index}
use Rattle.keep_meaning.specs.Marks.{Mention, elements_of, element, begun, dotted, value, item, passing_mentions}
use Rattle.keep_meaning.specs.Marks.{entered_path}
use Rattle.keep_index_store.specs.Trie.{TrieNode, Holding, by_key, by_index, paths_of, path_at, states_of, state_at}
use Rattle.keep_index_store.specs.Trie.{holds_at, children_of}
use Rattle.keep_index_store.specs.Growth.{Grows}
use Rattle.keep_rules.specs.RoleStates.{StatesRepresent, IsIndexOf}
use Rattle.keep_rules.specs.Tables.{is_tables, IsShaped, AreTables}
use Rattle.keep_rules.specs.Represents.{Keeps, KeepsItems, IsDefined, Represents, IsOpen, Enters, Begins}
use Rattle.keep_rules.specs.Descents.{descent_path, descent_mentions, dotted_mentions}
use Rattle.keep_rules.specs.Steps.{HeaderDescent, DottedDescent, HasNewValue, AddsItem}
use Rattle.keep_index_store.proofs.Shared.{path_at-root, push_same, no_children_past_end, first, longer, path_last}
use Rattle.keep_index_store.proofs.Shared.{state_last, holds_last, children_other, children_here}
use Rattle.keep_rules.proofs.RoleStateLemmas.{represented_new}
use Rattle.keep_rules.proofs.TablesLemmas.{Joins, tables_begun, begun_begun, element_joins, shaped_grown, tables_joined}
use Rattle.keep_rules.proofs.TablesLemmas.{begun_joined}
use Rattle.keep_rules.proofs.MarkLemmas.{represented_along, keeps_grown}
use Rattle.keep_rules.proofs.PassLemmas.{represents_marked, keeps_same}
use Rattle.keep_rules.proofs.KeyWalkLemmas.{descent_mentions-append, descent_path-append, dotted_mentions-append}

-- ---- two changes that keep the nodes, one after the other

pub keeps_then : {a b c : List TrieNode} → Keeps a b → Keeps b c → Keeps a c
keeps_then f g = record {
  longer = omega (arith, f.longer, g.longer);
  paths = λ i h. g.paths i (omega (arith, f.longer)) ∙ f.paths i h;
  holdings = λ i h. g.holdings i (omega (arith, f.longer)) ∙ f.holdings i h;
  kinds = λ i h. g.kinds i (omega (arith, f.longer)) ∙ f.kinds i h;
}

pub items_then : (a b c : List TrieNode) → Keeps a b → KeepsItems a b → KeepsItems b c → KeepsItems a c
items_then a b c k f g i h listed = g i (omega (arith, k.longer)) (k.holdings i h ∙ listed) ∙ f i h listed

pub stays_open : {old new : List TrieNode} {at : ℕ} {path : List Part} → Keeps old new → IsOpen old at path
    → IsOpen new at path
stays_open {at = at} k o = record {
  nested = omega (arith, k.longer, o.nested);
  here = k.paths at o.nested ∙ o.here;
  open_to = k.holdings at o.nested ∙ o.open_to;
}

-- ---- a `[[..]]` begins an element

pub begins : (old mid new : List TrieNode) (parent id to : ℕ) (k : List ℕ)
    → IsDefined old mid (path_at old parent ++ key k ∷ []) Element by_index id
    → Grows mid new id (path_at mid id ++ index (length (children_of mid id)) ∷ []) None by_key → to ≡ length mid
    → Begins old new parent to k
begins old mid new parent id to k marked g last =
    let p : List Part = path_at old parent ++ key k ∷ [] in
    let c : ℕ = length (children_of mid id) in
    let counted : (ms : List Mention) (ts : List (List Part)) → Represents old ms ts → elements_of p ts ≡ c =
    λ ms ts represents.
    ap (λ q. elements_of q ts) (sym marked.here) ∙ (marked.tables ts represents.tables_are).counts id marked.nested
    ∙ ap (λ t. cond t c 0) marked.kind in
    let grows : Grows mid new id (p ++ index c ∷ []) None by_key =
    subst (λ (q : List Part). Grows mid new id (q ++ index c ∷ []) None by_key) marked.here g in
    record {
      keeps = keeps_then marked.keeps (keeps_grown g);
      shaped = shaped_grown grows (element_joins mid id p marked.here) marked.shaped;
      represents = λ ms ts represents.
          let are : AreTables mid ts = marked.tables ts represents.tables_are in
          let np : List Part = p ++ index (elements_of p ts) ∷ [] in
          let np_is : p ++ index c ∷ [] ≡ np = ap (λ x. p ++ index x ∷ []) (sym (counted ms ts represents)) in
          let m1 : Mention = record { path = p; kind = element } in
          let m2 : Mention = record { path = np; kind = begun } in
          let one : IsIndexOf mid (ms ++ m1 ∷ []) = marked.index ms element refl represents.index in
          let two : StatesRepresent (paths_of mid ++ np ∷ []) (states_of mid ++ None ∷ [])
          ((ms ++ m1 ∷ []) ++ m2 ∷ []) =
          represented_new (paths_of mid) (states_of mid) (ms ++ m1 ∷ []) m2 None one.states_represent
          (λ there. grows.fresh (subst (Contains (paths_of mid)) (sym np_is) there)) refl in
          let states_represent : StatesRepresent (paths_of new) (states_of new) (ms ++ m1 ∷ m2 ∷ []) =
          represented_along _ _ _ _ _ (grows.paths ∙ ap (λ q. paths_of mid ++ q ∷ []) np_is) g.states
          (subst (λ (w : List Mention). StatesRepresent (paths_of mid ++ np ∷ []) (states_of mid ++ None ∷ []) w)
          (append_assoc ms (m1 ∷ []) (m2 ∷ [])) two) in
          record {
            index = record { trie = g.trie'; states_represent = states_represent };
            shaped = shaped_grown grows (element_joins mid id p marked.here) marked.shaped;
            tables_are = tables_begun mid new id p ts marked.here marked.kind grows are;
            begun = begun_begun mid new id (p ++ index c ∷ []) grows (marked.begun_others represents.begun);
          };
      is_open = λ ms ts represents. record {
        nested = omega (arith, longer g);
        here = ap (path_at new) last ∙ path_last grows ∙ ap (λ x. p ++ index x ∷ []) (sym (counted ms ts represents));
        open_to = ap (holds_at new) last ∙ holds_last g;
      };
    }

-- ---- an item of an array

item_joins : (old : List TrieNode) (at : ℕ) (holds : Holding) → is_tables (state_at old at) ≡ false
    → Joins old at (path_at old at ++ index (length (children_of old at)) ∷ []) None holds
item_joins old at holds plain = record {
  ends = λ t. refl;
  bare = λ t. absurd (let no : true ≡ false = sym t ∙ plain in cc);
  named = λ p k is. absurd (let no : index (length (children_of old at)) ≡ key k = (push_same _ _ _ _ is).1 in cc);
  fits = λ s is. absurd cc;
}

pub adds_item : (old new : List TrieNode) (at to : ℕ) (holds : Holding)
    → Grows old new at (path_at old at ++ index (length (children_of old at)) ∷ []) None holds → IsShaped old
    → is_tables (state_at old at) ≡ false → to ≡ length old
    → AddsItem old new at to holds
adds_item old new at to holds g shaped plain last =
    let p : List Part = path_at old at ++ index (length (children_of old at)) ∷ [] in
    record {
      keeps = keeps_grown g;
      shaped = shaped_grown g (item_joins old at holds plain) shaped;
      items = λ i h ne. children_other g i ne;
      own = children_here g at refl;
      represents = λ f ms ts represents.
          let m : Mention = record { path = p; kind = item f } in
          record {
            index = record {
              trie = g.trie';
              states_represent =
                  represented_along _ _ _ _ _ g.paths g.states
                  (represented_new (paths_of old) (states_of old) ms m None represents.index.states_represent g.fresh
                  refl);
            };
            shaped = shaped_grown g (item_joins old at holds plain) represents.shaped;
            tables_are = tables_joined g plain ts represents.tables_are;
            begun = begun_joined g plain refl represents.begun;
          };
      made = record {
        later = omega arith;
        plain = ap (λ i. is_tables (state_at new i)) last ∙ ap is_tables (state_last g);
        nested = omega (arith, longer g);
        here = ap (path_at new) last ∙ path_last g;
        held = ap (holds_at new) last ∙ holds_last g;
        bare = ap (children_of new) last ∙ children_other g (length old) (λ e. absurd (omega (arith, g.within, e)))
            ∙ no_children_past_end old g.trie (first old g.trie) (length old) (omega arith);
      };
    }

-- ---- along a header's keys

pub walks_none : (nodes : List TrieNode) → 0 < length nodes → holds_at nodes 0 ≡ by_key → HeaderDescent nodes nodes 0 []
walks_none nodes root keyed = record {
  keeps = keeps_same nodes;
  table = record { within = root; keyed = keyed };
  represents = λ ms ts represents. subst (λ (w : List Mention). Represents nodes w ts) (sym (append-nil ms)) represents;
  is_open = λ ms ts represents. record { nested = root; here = path_at-root nodes; open_to = keyed };
}

pub walks_more : (old mid new : List TrieNode) (at to : ℕ) (ks : List (List ℕ)) (k : List ℕ)
    → HeaderDescent old mid at ks → Enters mid new at to k → HeaderDescent old new to (ks ++ k ∷ [])
walks_more old mid new at to ks k walked pass = record {
  keeps = keeps_then walked.keeps pass.keeps;
  table = pass.table;
  represents = λ ms ts represents.
      let here = (walked.is_open ms ts represents).here in
      let step = pass.represents (ms ++ descent_mentions ts [] ks) ts (walked.represents ms ts represents) in
      let p : List Part = descent_path ts [] ks ++ key k ∷ [] in
      let leading : (ms ++ descent_mentions ts [] ks) ++ passing_mentions ts (path_at mid at ++ key k ∷ []) ≡ ms
      ++ descent_mentions ts [] (ks ++ k ∷ []) =
      ap (λ q. (ms ++ descent_mentions ts [] ks) ++ passing_mentions ts (q ++ key k ∷ [])) here
      ∙ append_assoc ms (descent_mentions ts [] ks) (passing_mentions ts p)
      ∙ ap (λ w. ms ++ w) (ap (λ w. descent_mentions ts [] ks ++ w) (sym (append-nil (passing_mentions ts p)))
      ∙ sym (descent_mentions-append ts [] ks (k ∷ []))) in
      subst (λ (w : List Mention). Represents new w ts) leading step;
  is_open = λ ms ts represents.
      let here = (walked.is_open ms ts represents).here in
      let step = pass.is_open (ms ++ descent_mentions ts [] ks) ts (walked.represents ms ts represents) in
      subst (λ (q : List Part). IsOpen new to q)
      (ap (λ q. entered_path ts (q ++ key k ∷ [])) here ∙ sym (descent_path-append ts [] ks (k ∷ []))) step;
}

-- ---- along a keyval's keys

pub dots_none : (nodes : List TrieNode) (at : ℕ) → at < length nodes → holds_at nodes at ≡ by_key
    → DottedDescent nodes nodes at at []
dots_none nodes at h keyed = record {
  keeps = keeps_same nodes;
  items = λ i h listed. refl;
  represents = λ ms ts represents. subst (λ (w : List Mention). Represents nodes w ts) (sym (append-nil ms)) represents;
  is_open = record { nested = h; here = sym (append-nil (path_at nodes at)); open_to = keyed };
}

pub dots_more : (old mid new : List TrieNode) (at by to : ℕ) (ks : List (List ℕ)) (k : List ℕ)
    → DottedDescent old mid at by ks → IsDefined mid new (path_at mid by ++ key k ∷ []) Dotted by_key to
    → DottedDescent old new at to (ks ++ k ∷ [])
dots_more old mid new at by to ks k dots marked =
    let p : List Part = path_at old at in
    let q : List Part = (p ++ map key ks) ++ key k ∷ [] in
    let full : path_at mid by ++ key k ∷ [] ≡ q = ap (λ r. r ++ key k ∷ []) dots.is_open.here in
    record {
      keeps = keeps_then dots.keeps marked.keeps;
      items = items_then old mid new dots.keeps dots.items marked.items;
      represents = λ ms ts represents.
          let before = dots.represents ms ts represents in
          let m : Mention = record { path = q; kind = dotted } in
          let step : IsIndexOf new ((ms ++ dotted_mentions p ks) ++ m ∷ []) =
          subst (λ (r : List Part).
          IsIndexOf new ((ms ++ dotted_mentions p ks) ++ record { path = r; kind = dotted } ∷ [])) full
          (marked.index (ms ++ dotted_mentions p ks) dotted refl before.index) in
          subst (λ (w : List Mention). Represents new w ts)
          (append_assoc ms (dotted_mentions p ks) (m ∷ [])
          ∙ ap (λ w. ms ++ w) (sym (dotted_mentions-append p ks (k ∷ []))))
          (represents_marked marked refl (ms ++ dotted_mentions p ks) (m ∷ []) ts step before);
      is_open = record {
        nested = marked.nested;
        here = marked.here ∙ full ∙ append_assoc p (map key ks) (key k ∷ [])
            ∙ ap (λ r. p ++ r) (sym (map-append key ks (k ∷ [])));
        open_to = marked.opened refl;
      };
    }

pub gives : (old mid new : List TrieNode) (at by to : ℕ) (leading : List (List ℕ)) (last : List ℕ) (holds : Holding)
    → DottedDescent old mid at by leading → IsDefined mid new (path_at mid by ++ key last ∷ []) Value holds to
    → HasNewValue old new at to leading last holds
gives old mid new at by to leading last holds dots marked =
    let p : List Part = path_at old at in
    let q : List Part = (p ++ map key leading) ++ key last ∷ [] in
    let full : path_at mid by ++ key last ∷ [] ≡ q = ap (λ r. r ++ key last ∷ []) dots.is_open.here in
    record {
      keeps = keeps_then dots.keeps marked.keeps;
      shaped = marked.shaped;
      items = items_then old mid new dots.keeps dots.items marked.items;
      represents = λ f ms ts represents.
          let before = dots.represents ms ts represents in
          let m : Mention = record { path = q; kind = value f } in
          let step : IsIndexOf new ((ms ++ dotted_mentions p leading) ++ m ∷ []) =
          subst (λ (r : List Part).
          IsIndexOf new ((ms ++ dotted_mentions p leading) ++ record { path = r; kind = value f } ∷ [])) full
          (marked.index (ms ++ dotted_mentions p leading) (value f) refl before.index) in
          subst (λ (w : List Mention). Represents new w ts) (append_assoc ms (dotted_mentions p leading) (m ∷ []))
          (represents_marked marked refl (ms ++ dotted_mentions p leading) (m ∷ []) ts step before);
      made = record {
        later = omega (arith, (marked.valued refl).2, dots.keeps.longer);
        plain = marked.kind;
        nested = marked.nested;
        here = marked.here ∙ full;
        held = (marked.valued refl).0;
        bare = (marked.valued refl).1;
      };
    }
