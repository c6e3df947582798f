-- Where an insert goes: an item of an array or not, and the refusals in their order.
--
-- A path names an item of an array where its last step is an index and the rest is a value that is an array; else a
-- keyval goes below the holder. The code asks the kind of the holder's node; that this decides is `key_item` and
-- `far_item`, by cases of the fact at its path. For an item, the numbers of the values decide where it goes: an item
-- with a number has a value, and one above the count has none (`below_of_some`, `above_of_none`). So the split is: the
-- item is there, the one before it is, the array is empty, or the number is too large.
--
-- Theorems: `before_item`, `after_item`, `in_empty_array` and `no_item_there`: where an item is put in, or that it is
-- refused.
use Rattle.std.proofs.Common.{◌≡◌, ℕ, zero, suc, ◌-◌, ◌<◌, ◌≤◌, Bool, true, false, List, [], ◌∷◌, ◌++◌, length, take}
use Rattle.std.proofs.Common.{slice_get, refl, sym, ap, ◌∙◌, arith, Option, Some, None, Ok, Err, inl, inr}
use Rattle.std.specs.Prelude.{if◌then◌else◌}
use Rattle.std.proofs.lemmas.Bool.{cases_lt}
use Rattle.std.proofs.lemmas.Option.{slice_get_within}
use Rattle.keep_types.specs.declared.leaf.Leaf.{Leaf}
use Rattle.keep_types.specs.declared.leaf.Leaf.TheVariants as leaf
use Rattle.keep_syntax.specs.Tree.{Document}
use Rattle.keep_syntax.specs.declared.syntax.Syntax.{Syntax}
use Rattle.keep_types.specs.declared.node.Kind.TheVariants as kind
use Rattle.keep_types.specs.declared.node.NodeInfo.{NodeInfo}
use Rattle.keep_types.specs.declared.node.Origin.TheVariants as origin
use Rattle.keep_meaning.specs.Counts.{numbered_in}
use Rattle.keep_meaning.specs.Fact as fact
use Rattle.keep_meaning.specs.Fact.{Fact}
use Rattle.keep_path.specs.Path.{Part, key, index}
use Rattle.keep_meaning.specs.Rules.{ObeysRules}
use Rattle.keep_meaning.specs.Marks.{Mention, marks}
use Rattle.keep_meaning.specs.Meaning.{mentions_in}
use Rattle.keep_meaning.specs.Nodes.{is_node, has, is_element, fact_at, kind_at, kind_or_table, moment_kind}
use Rattle.keep_meaning.specs.Nodes.{node_number, node_paths, numbered_at}
use Rattle.keep_meaning.proofs.Shared.{paths-nodes_in}
use Rattle.keep_path.specs.NodeInfos.{NodeInfos}
use Rattle.keep_rules.specs.Lookup.{number_of, path_numbered}
use Rattle.keep_rules.specs.declared.index.NodeId.{NodeId}
use Rattle.keep_rules.proofs.Shared.{number_is}
use Rattle.keep_edit_spec.specs.declared.fault.EditFault.TheVariants as fault
use Rattle.keep_edit_spec.specs.Look.{is_array_at, item_number, item_count, last_part, without_last}
use Rattle.keep_edit_spec.specs.Refusals.{has_value}
use Rattle.keep_edit_spec.proofs.Shared.{AreNumbered, items_numbered, has_of_number, none_of_number, no_bracket_element}
use Rattle.keep_edit_spec.proofs.Shared.{rules_of_document}
use Rattle.keep_edit_plan.specs.Reading.{ProfiledText, IsTextOfTree, Holds}
use Rattle.keep_edit_plan.specs.Answers.{value_number_of}
use Rattle.keep_edit_plan.specs.Aiming.{IsItemOf, IsItemAimed}
use Rattle.keep_edit_plan.specs.Holding.{IsHolder}
use Rattle.keep_edit_plan.specs.declared.holder.Holder.{Holder}
use Rattle.keep_edit_plan.specs.declared.insert.Spot.TheVariants as spot
use Rattle.keep_edit_plan.proofs.AnswerLaws.{stated_is}
use Rattle.keep_edit_plan.proofs.FoundLaws.{IsStated, one_found, fact_node, none_unless, value_of_origin}
use Rattle.keep_edit_plan.proofs.NodeLaws.{no_node, kind_stated}

-- ---- the end of a path

pub end_of_path : (path : List Part) (n : ℕ) (p : Part) → slice_get path n ≡ Some p → length path ≡ suc n
    → (last_part path ≡ Some p) × (without_last path ≡ take n path)
end_of_path [] n p e h = absurd cc
end_of_path (x ∷ []) zero p e h = (e, refl)
end_of_path (x ∷ []) (suc n) p e h = absurd (omega (arith, h))
end_of_path (x ∷ y ∷ ps) zero p e h = absurd (omega (arith, h))
end_of_path (x ∷ y ∷ ps) (suc n) p e h =
    let (last, prefix) = end_of_path (y ∷ ps) n p e (omega (arith, h)) in (last, ap (λ (q : List Part). x ∷ q) prefix)

pub step_nested : (path : List Part) (n : ℕ) (p : Part) → slice_get path n ≡ Some p → n < length path
step_nested path n p e = slice_get_within path n p e

without_last-take : (p : Part) (ps : List Part) → without_last (p ∷ ps) ≡ take (length ps) (p ∷ ps)
without_last-take p [] = refl
without_last-take p (q ∷ ps) = ap (λ (l : List Part). p ∷ l) (without_last-take q ps)

pub without_last-is : (path : List Part) → 0 < length path → without_last path ≡ take (length path - 1) path
without_last-is [] h = absurd (omega (arith, h))
without_last-is (p ∷ ps) h =
    without_last-take p ps
    ∙ ap (λ (n : ℕ). take n (p ∷ ps)) (let e : length ps ≡ length (p ∷ ps) - 1 = omega arith in e)

-- ---- static arrays

abbrev array_of : Option Fact → Bool
array_of o =
    elim o [
      | None ↦ false
      | Some f ↦
          elim f [
            | fact.string v ↦ false
            | fact.integer v ↦ false
            | fact.boolean v ↦ false
            | fact.float v ↦ false
            | fact.moment k v ↦ false
            | fact.array ↦ true
            | fact.inline ↦ false
            | fact.table ↦ false
          ]
    ]

array_unless : (path : List Part) (ms : List Mention) → is_node path ms ≡ false → is_array_at path ms ≡ false
array_unless path ms none = by (fact_at path ms) refl
  where
    by : (o : Option Fact) → fact_at path ms ≡ o → array_of o ≡ false
    by None e = refl
    by (Some f) e = let k : true ≡ false = sym (fact_node path ms f e) ∙ none in absurd cc

moment_array : (l : Leaf) → moment_kind l ≡ kind.Array → ⊥
moment_array leaf.OffsetDateTime e = absurd cc
moment_array leaf.LocalDateTime e = absurd cc
moment_array leaf.LocalDate e = absurd cc
moment_array _ e = absurd cc

array_by_kind : (o : Option Fact) → kind_or_table o ≡ kind.Array → array_of o ≡ true
array_by_kind None e = absurd cc
array_by_kind (Some (fact.string v)) e = absurd cc
array_by_kind (Some (fact.integer v)) e = absurd cc
array_by_kind (Some (fact.boolean v)) e = absurd cc
array_by_kind (Some (fact.float v)) e = absurd cc
array_by_kind (Some (fact.moment l v)) e = absurd (moment_array l e)
array_by_kind (Some fact.array) e = refl
array_by_kind (Some fact.inline) e = absurd cc
array_by_kind (Some fact.table) e = absurd cc

kind_of_array : (o : Option Fact) → array_of o ≡ true
    → (kind_or_table o ≡ kind.Array) × (elim o [ None ↦ false | Some f ↦ fact.is_bracket f ] ≡ true)
kind_of_array None e = absurd cc
kind_of_array (Some (fact.string v)) e = absurd cc
kind_of_array (Some (fact.integer v)) e = absurd cc
kind_of_array (Some (fact.boolean v)) e = absurd cc
kind_of_array (Some (fact.float v)) e = absurd cc
kind_of_array (Some (fact.moment l v)) e = absurd cc
kind_of_array (Some fact.array) e = (refl, refl)
kind_of_array (Some fact.inline) e = absurd cc
kind_of_array (Some fact.table) e = absurd cc

is_array : (path : List Part) (ms : List Mention) → kind_at path ms ≡ kind.Array → is_array_at path ms ≡ true
is_array path ms e = by (has is_element path ms) e
  where
    by : (b : Bool) → (if b then kind.Tables else kind_or_table (fact_at path ms)) ≡ kind.Array
        → is_array_at path ms ≡ true
    by true e = absurd cc
    by false e = array_by_kind (fact_at path ms) e

no_array : (path : List Part) (s : Document) → ObeysRules (marks (mentions_in s))
    → (kind_at path (mentions_in s) ≡ kind.Array → ⊥) → is_array_at path (mentions_in s) ≡ false
no_array path s obeys other =
    by (is_array_at path (mentions_in s)) refl (has is_element path (mentions_in s)) refl other
  where
    by : (b : Bool) → is_array_at path (mentions_in s) ≡ b → (c : Bool) → has is_element path (mentions_in s) ≡ c
        → ((if c then kind.Tables else kind_or_table (fact_at path (mentions_in s))) ≡ kind.Array → ⊥)
        → is_array_at path (mentions_in s) ≡ false
    by false e c k differs = e
    by true e true k differs =
        absurd (no_bracket_element path (mentions_in s) (rules_of_document s obeys) k
        (kind_of_array (fact_at path (mentions_in s)) e).1)
    by true e false k differs = absurd (differs (kind_of_array (fact_at path (mentions_in s)) e).0)

-- ---- the number of an item

abbrev item_by : Option Part → Bool → Option ℕ
item_by o b =
    elim o [ None ↦ None | Some part ↦ elim part [ key text ↦ None | index n ↦ (if b then Some n else None) ] ]

no_item_by : (o : Option Part) → item_by o false ≡ None
no_item_by None = refl
no_item_by (Some (key text)) = refl
no_item_by (Some (index n)) = refl

no_item : (path : List Part) (ms : List Mention) → is_array_at (without_last path) ms ≡ false
    → item_number path ms ≡ None
no_item path ms e = ap (item_by (last_part path)) e ∙ no_item_by (last_part path)

an_item : (path : List Part) (ms : List Mention) (n : ℕ) → last_part path ≡ Some (index n)
    → is_array_at (without_last path) ms ≡ true → item_number path ms ≡ Some n
an_item path ms n e k =
    ap (λ (o : Option Part). item_by o (is_array_at (without_last path) ms)) e
    ∙ ap (λ (b : Bool). item_by (Some (index n)) b) k

key_last : (path : List Part) (ms : List Mention) (k : List ℕ) → last_part path ≡ Some (key k)
    → item_number path ms ≡ None
key_last path ms k e = ap (λ (o : Option Part). item_by o (is_array_at (without_last path) ms)) e

module _ (path : List Part) (s : Document) (h : Holder) (held : IsHolder path s h) where
  -- more than one step is new
  pub far_item : suc h.len < length path → item_number path (mentions_in s) ≡ None
  far_item far =
      no_item path (mentions_in s)
      (ap (λ (q : List Part). is_array_at q (mentions_in s)) (without_last-is path (omega (arith, far)))
      ∙ array_unless (take (length path - 1) path) (mentions_in s)
      (held.beyond far (length path - 1) (omega (arith, far)) (omega arith)))

  pub key_item : (k : List ℕ) → slice_get path h.len ≡ Some (key k) → item_number path (mentions_in s) ≡ None
  key_item k is = elim (cases_lt (suc h.len) (length path)) [
    | inl far ↦ far_item far
    | inr near ↦ key_last path (mentions_in s) k (end_of_path path h.len (key k) is (one_more near)).0
  ]
    where
      one_more : length path ≤ suc h.len → length path ≡ suc h.len
      one_more near = omega (arith, near, step_nested path h.len (key k) is)

  module _ (n : ℕ) (is : slice_get path h.len ≡ Some (index n)) (one : length path ≡ suc h.len) (info : NodeInfo)
      (stated : IsStated (take h.len path) s info) (obeys : ObeysRules (marks (mentions_in s))) where
    prefix : without_last path ≡ take h.len path
    prefix = (end_of_path path h.len (index n) is one).1

    kind_is : info.kind ≡ kind_at (take h.len path) (mentions_in s)
    kind_is = ap (λ (i : NodeInfo). i.kind) stated.is ∙ kind_stated (take h.len path) s

    pub array_item : info.kind ≡ kind.Array → item_number path (mentions_in s) ≡ Some n
    array_item e = an_item path (mentions_in s) n (end_of_path path h.len (index n) is one).0
        (ap (λ (q : List Part). is_array_at q (mentions_in s)) prefix
        ∙ is_array (take h.len path) (mentions_in s) (sym kind_is ∙ e))

    pub other_item : (info.kind ≡ kind.Array → ⊥) → item_number path (mentions_in s) ≡ None
    other_item other = no_item path (mentions_in s)
        (ap (λ (q : List Part). is_array_at q (mentions_in s)) prefix
        ∙ no_array (take h.len path) s obeys (λ e. other (kind_is ∙ e)))

-- ---- a node of a number

module _ (d : ProfiledText) (syntax : Syntax) (index_of : NodeInfos) (a : List Part) (s : Document)
    (holds : Holds d syntax index_of) (read : IsTextOfTree d s) (id : NodeId)
    (node : node_number (node_paths (mentions_in s)) a ≡ Some id.0) where
  paths_are : index_of.paths ≡ node_paths (mentions_in s)
  paths_are = ap (λ (t : NodeInfos). t.paths) (stated_is d syntax index_of s holds read) ∙ paths-nodes_in s

  number : node_number index_of.paths a ≡ Some id.0
  number = ap (λ (ps : List (List Part)). node_number ps a) paths_are ∙ node

  pub number_nested : id.0 < length index_of.paths
  number_nested = (number_is index_of.paths a id.0 number).0

  path_is : path_numbered index_of id.0 ≡ a
  path_is = (number_is index_of.paths a id.0 number).1

  pub stated_here : (info : NodeInfo) → slice_get index_of.infos id.0 ≡ Some info → IsStated a s info
  stated_here info there = one_found d syntax index_of a s holds read id info (Some id) refl (sym number) there

  -- no node is one step below
  pub none_below : (p : Part) → node_number index_of.paths (path_numbered index_of id.0 ++ p ∷ []) ≡ None
      → value_number_of (a ++ p ∷ []) s ≡ None
  none_below p none = by (value_number_of (a ++ p ∷ []) s) refl
    where
      unnamed : is_node (a ++ p ∷ []) (mentions_in s) ≡ false
      unnamed = no_node (a ++ p ∷ []) (mentions_in s)
          (ap (λ (ps : List (List Part)). node_number ps (a ++ p ∷ [])) (sym paths_are)
          ∙ ap (λ (q : List Part). node_number index_of.paths (q ++ p ∷ [])) (sym path_is) ∙ none)

      by : (o : Option ℕ) → value_number_of (a ++ p ∷ []) s ≡ o → o ≡ None
      by None e = refl
      by (Some v) e =
          absurd (no_fact (fact_at (a ++ p ∷ []) (mentions_in s)) refl (has_of_number (a ++ p ∷ []) s v read.obeys e))
        where
          no_fact : (o : Option Fact) → fact_at (a ++ p ∷ []) (mentions_in s) ≡ o
              → elim o [ None ↦ false | Some f ↦ fact.is_value_fact f ] ≡ true → ⊥
          no_fact None k h = cc
          no_fact (Some f) k h =
              let t : true ≡ false = sym (fact_node (a ++ p ∷ []) (mentions_in s) f k) ∙ unnamed in cc

  module _ (p : Part) (o : Option NodeId) (next : NodeId) (one : o ≡ Some next)
      (found : number_of o ≡ node_number index_of.paths (path_numbered index_of id.0 ++ p ∷ []))
      (info : NodeInfo) (there : slice_get index_of.infos next.0 ≡ Some info) where
    pub stated_below : IsStated (a ++ p ∷ []) s info
    stated_below =
        one_found d syntax index_of (a ++ p ∷ []) s holds read next info o one
        (found ∙ ap (λ (q : List Part). node_number index_of.paths (q ++ p ∷ [])) path_is) there

pub other_value : (path : List Part) (s : Document) (info : NodeInfo) → IsStated path s info
    → ((n : ℕ) → info.origin ≡ origin.Value n → ⊥) → value_number_of path s ≡ None
other_value path s info stated other =
    none_unless (value_number_of path s)
    (λ n e. other n (ap (λ (i : NodeInfo). i.origin) stated.is
    ∙ value_of_origin (numbered_at path (numbered_in s)) n e))

-- ---- where an item goes

module _ (d : ProfiledText) (path : List Part) (n : ℕ) (s : Document) (array : ℕ) (read : IsTextOfTree d s)
    (here : IsItemOf path n s array) where
  abbrev pub a : List Part
  a = without_last path

  items : AreNumbered a s
  items = items_numbered d.profile s a read.reads.valid read.obeys here.static

  below_of_some : (m v : ℕ) → value_number_of (a ++ index m ∷ []) s ≡ Some v → m < item_count a (mentions_in s)
  below_of_some m v e = elim (cases_lt m (item_count a (mentions_in s))) [
    | inl low ↦ low
    | inr high ↦
        (let t : true ≡ false = sym (has_of_number (a ++ index m ∷ []) s v read.obeys e) ∙ items.from_count m high in
        absurd cc)
  ]

  above_of_none : (m : ℕ) → value_number_of (a ++ index m ∷ []) s ≡ None → item_count a (mentions_in s) ≤ m
  above_of_none m e = elim (cases_lt m (item_count a (mentions_in s))) [
    | inl low ↦
        (let t : true ≡ false = sym (items.below_count m low) ∙ none_of_number (a ++ index m ∷ []) s read.obeys e in
        absurd cc)
    | inr high ↦ high
  ]

  pub before_item : (v : ℕ) → Some v ≡ value_number_of (a ++ index n ∷ []) s
      → IsItemAimed path n s (Ok (spot.BeforeItem v))
  before_item v e =
      (omega (arith, below_of_some n v (sym e)), ap (λ (q : List Part). value_number_of q s) here.whole ∙ sym e)

  pub after_item : (m v : ℕ) → n ≡ suc m → None ≡ value_number_of (a ++ index n ∷ []) s
      → Some v ≡ value_number_of (a ++ index m ∷ []) s → IsItemAimed path n s (Ok (spot.AfterEntry v))
  after_item m v next none e =
      let count : item_count a (mentions_in s) ≡ n =
      omega (arith, above_of_none n (sym none), below_of_some m v (sym e), next) in
      (omega (arith, count), (m, next, count, sym e))

  pub no_item_there : (m : ℕ) → n ≡ suc m → None ≡ value_number_of (a ++ index m ∷ []) s
      → IsItemAimed path n s (Err fault.NotFound)
  no_item_there m next none = (refl, omega (arith, above_of_none m (sym none), next))

  pub in_empty_array : (v : ℕ) → n ≤ 0 → None ≡ value_number_of (a ++ index n ∷ []) s → value_number_of a s ≡ Some v
      → IsItemAimed path n s (Ok (spot.InEmpty v))
  in_empty_array v low none e =
      let count : item_count a (mentions_in s) ≡ 0 = omega (arith, above_of_none n (sym none), low) in
      (omega (arith, low), (omega (arith, low), count, e))

  pub array_has_value : value_number_of a s ≡ None → ⊥
  array_has_value none =
      let yes : has_value a (mentions_in s) ≡ true =
      ap (λ (o : Option Fact). elim o [ None ↦ false | Some f ↦ fact.is_value_fact f ]) here.static in
      let t : true ≡ false = sym yes ∙ none_of_number a s read.obeys none in
      absurd cc
