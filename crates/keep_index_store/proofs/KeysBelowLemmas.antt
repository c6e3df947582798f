-- Nodes that come each below the one before it, by their keys.
--
-- All of it is by induction over the keys: a new table has no children yet, so the next key can come below it
-- (`next_ready`); one key more is one node more (`tables_more`); and what was there before the first of them stays but
-- for one child more of one node (`has_begun`), so it can be made again.
--
-- Theorems: `next_place` and `last_place`: each key has its place; `keys_added`: what has come; `taken_back`: back
-- again.
use Rattle.std.proofs.Common.{◌≡◌, ℕ, zero, suc, ◌+◌, ◌-◌, ◌<◌, ◌≤◌, List, [], ◌∷◌, ◌++◌, length, get_or, map, set}
use Rattle.std.proofs.Common.{take, refl, sym, ap, subst, ◌∙◌, arith, None, Some}
use Rattle.std.specs.Global.{Global}
use Rattle.std.specs.Prelude.{String, string_bytes}
use Rattle.std.specs.List.{remove}
use Rattle.std.proofs.lemmas.List.{get_or-set_same, get_or-take, length-set, set-get_or, set-set}
use Rattle.std.proofs.lemmas.List.{append-nil, length-append, length-map, length-take-le, map-append, take-append-le}
use Rattle.std.proofs.lemmas.List.{take-set-le, take_all, take_more}
use Rattle.std.proofs.lemmas.List.Edits.{remove-append_right}
use Rattle.std.proofs.Math.Seq.{take-append_seam, take-set-lt}
use Rattle.keep_index_store.specs.declared.facts.NodeFacts.{NodeFacts}
use Rattle.keep_index_store.specs.declared.tree.joining.HeaderFacts.{HeaderFacts}
use Rattle.keep_index_store.specs.AllNodes.{Node, and_item, and_key, no_node, node_at, with_children, with_key_below}
use Rattle.keep_index_store.specs.Children.{ChildList, Bare, Keyed, Listed, child_ids, child_named, holds_of, named}
use Rattle.keep_index_store.specs.Children.{no_children}
use Rattle.keep_index_store.specs.KeysBelow.{HasBegun, first_key, last_table, next_facts, own_holding}
use Rattle.keep_index_store.specs.KeysBelow.{with_element, with_element_below, with_header_below, with_keys_below}
use Rattle.keep_index_store.specs.KeysBelow.{with_tables_below}
use Rattle.keep_index_store.specs.Trie.{Holding, by_index, by_key}
use Rattle.keep_index_store.proofs.StoredLemmas.{last_added, length_added}

-- ---- one node

module _ (nodes : List Node) (parent : ℕ) (text : List ℕ) (holds : Holding) (facts : NodeFacts) where
  abbrev above : Node
  above = record (node_at nodes parent) {
    children = and_key (node_at nodes parent).children text (length nodes);
  }

  abbrev row : Node
  row = record {
    parent = parent;
    number = length (child_ids (node_at nodes parent).children);
    children = no_children holds;
    facts = facts;
  }

  pub one_more : length (with_key_below nodes parent text holds facts) ≡ length nodes + 1
  one_more = length_added nodes parent above row

  new_node : node_at (with_key_below nodes parent text holds facts) (length nodes) ≡ row
  new_node = last_added nodes parent above row (length nodes) no_node refl

  stays : (n : ℕ) → n ≤ parent → n ≤ length nodes
      → take n (with_key_below nodes parent text holds facts) ≡ take n nodes
  stays n low few =
      take-append-le n (set nodes parent above) (row ∷ []) (omega (arith, few, length-set nodes parent above))
      ∙ take-set-le n nodes parent above low

  first_stays : take (length nodes) (with_key_below nodes parent text holds facts)
      ≡ with_children nodes parent (and_key (node_at nodes parent).children text (length nodes))
  first_stays =
      ap (λ n. take n (with_key_below nodes parent text holds facts)) (sym (length-set nodes parent above))
      ∙ take-append_seam (set nodes parent above) (row ∷ [])

-- ---- what the next key needs

-- a table has no child by this key
pub record HasPlaceFor (nodes : List Node) (at : ℕ) (text : List ℕ) : Type 0 where
  pub within : at < length nodes
  pub keyed : holds_of (node_at nodes at).children ≡ by_key
  pub fresh : child_named (node_at nodes at).children text ≡ None

next_ready : (nodes : List Node) (parent : ℕ) (text next : List ℕ) (facts : NodeFacts)
    → HasPlaceFor (with_key_below nodes parent text by_key facts) (length nodes) next
next_ready nodes parent text next facts = record {
  within = omega (arith, one_more nodes parent text by_key facts);
  keyed = ap (λ (n : Node). holds_of n.children) (new_node nodes parent text by_key facts);
  fresh = ap (λ (n : Node). child_named n.children next) (new_node nodes parent text by_key facts);
}

pub ready : (nodes : List Node) (parent : ℕ) (f : NodeFacts) (ks : List (List ℕ)) (next : List ℕ)
    → HasPlaceFor nodes parent (first_key ks next)
    → HasPlaceFor (with_tables_below nodes parent f ks) (last_table nodes parent f ks) next
ready nodes parent f [] next h = h
ready nodes parent f (k ∷ ks) next h =
    ready (with_key_below nodes parent k by_key f) (length nodes) (next_facts f) ks next
    (next_ready nodes parent k (first_key ks next) f)

-- ---- one key more

abbrev pub facts_after : NodeFacts → List (List ℕ) → NodeFacts
facts_after f [] = f
facts_after f (k ∷ ks) = facts_after (next_facts f) ks

pub facts_are : (f : NodeFacts) (ks : List (List ℕ)) → facts_after f ks ≡ record f { key = f.key + length ks }
facts_are f [] = ap (λ n. record f { key = n }) (omega arith)
facts_are f (k ∷ ks) = facts_are (next_facts f) ks ∙ ap (λ n. record f { key = n }) (omega arith)

pub tables_more : (nodes : List Node) (parent : ℕ) (f : NodeFacts) (ks : List (List ℕ)) (k : List ℕ)
    → with_tables_below nodes parent f (ks ++ k ∷ [])
    ≡ with_key_below (with_tables_below nodes parent f ks) (last_table nodes parent f ks) k by_key (facts_after f ks)
tables_more nodes parent f [] k = refl
tables_more nodes parent f (j ∷ ks) k =
    tables_more (with_key_below nodes parent j by_key f) (length nodes) (next_facts f) ks k

pub last_more : (nodes : List Node) (parent : ℕ) (f : NodeFacts) (ks : List (List ℕ)) (k : List ℕ)
    → last_table nodes parent f (ks ++ k ∷ []) ≡ length (with_tables_below nodes parent f ks)
last_more nodes parent f [] k = refl
last_more nodes parent f (j ∷ ks) k =
    last_more (with_key_below nodes parent j by_key f) (length nodes) (next_facts f) ks k

-- ---- what stays

module _ (old : List Node) (parent : ℕ) (text : List ℕ) where
  begun_none : parent < length old → holds_of (node_at old parent).children ≡ by_key → HasBegun old old parent text
  begun_none within keyed = record {
    within = within;
    keyed = keyed;
    longer = omega arith;
    none = λ same. refl;
    some = λ more. absurd (omega (arith, more));
  }

  begun_first : (holds : Holding) (facts : NodeFacts) → parent < length old
      → holds_of (node_at old parent).children ≡ by_key
      → HasBegun old (with_key_below old parent text holds facts) parent text
  begun_first holds facts within keyed =
      let many : length (with_key_below old parent text holds facts) ≡ length old + 1 =
      one_more old parent text holds facts in
      record {
        within = within;
        keyed = keyed;
        longer = omega (arith, many);
        none = λ same. absurd (omega (arith, many, same));
        some = λ more. first_stays old parent text holds facts;
      }

  begun_more : (mid : List Node) (at : ℕ) (next : List ℕ) (holds : Holding) (facts : NodeFacts)
      → HasBegun old mid parent text → length old < length mid → length old ≤ at
      → HasBegun old (with_key_below mid at next holds facts) parent text
  begun_more mid at next holds facts h any later =
      let many : length (with_key_below mid at next holds facts) ≡ length mid + 1 =
      one_more mid at next holds facts in
      record {
        within = h.within;
        keyed = h.keyed;
        longer = omega (arith, many, any);
        none = λ same. absurd (omega (arith, many, same, any));
        some = λ more. stays mid at next holds facts (length old) later (omega (arith, any)) ∙ h.some any;
      }

  begun_tables : (mid : List Node) (at : ℕ) (f : NodeFacts) (ks : List (List ℕ)) → HasBegun old mid parent text
      → length old < length mid → length old ≤ at
      → HasBegun old (with_tables_below mid at f ks) parent text
  begun_tables mid at f [] h any later = h
  begun_tables mid at f (k ∷ ks) h any later =
      begun_tables (with_key_below mid at k by_key f) (length mid) (next_facts f) ks
      (begun_more mid at k by_key f h any later) (omega (arith, any, one_more mid at k by_key f)) (omega (arith, any))

-- the tables, or those up to one of them
pub has_begun : (old : List Node) (parent : ℕ) (f : NodeFacts) (ks : List (List ℕ)) (next : List ℕ)
    → HasPlaceFor old parent (first_key ks next)
    → HasBegun old (with_tables_below old parent f ks) parent (first_key ks next)
has_begun old parent f [] next h = begun_none old parent next h.within h.keyed
has_begun old parent f (k ∷ ks) next h =
    begun_tables old parent k (with_key_below old parent k by_key f) (length old) (next_facts f) ks
    (begun_first old parent k by_key f h.within h.keyed) (omega (arith, one_more old parent k by_key f)) (omega arith)

-- all of them
last_later : (old mid : List Node) (at : ℕ) (f : NodeFacts) (ks : List (List ℕ)) → length old < length mid
    → length old ≤ at → length old ≤ last_table mid at f ks
last_later old mid at f [] any later = later
last_later old mid at f (k ∷ ks) any later =
    last_later old (with_key_below mid at k by_key f) (length mid) (next_facts f) ks
    (omega (arith, any, one_more mid at k by_key f)) (omega (arith, any))

tables_many : (nodes : List Node) (parent : ℕ) (f : NodeFacts) (ks : List (List ℕ))
    → length nodes ≤ length (with_tables_below nodes parent f ks)
tables_many nodes parent f [] = omega arith
tables_many nodes parent f (k ∷ ks) =
    omega (
      arith,
      one_more nodes parent k by_key f,
      tables_many (with_key_below nodes parent k by_key f) (length nodes) (next_facts f) ks,
    )

pub all_begun : (old : List Node) (parent : ℕ) (facts : HeaderFacts) (ks : List (List ℕ)) (last : List ℕ)
    → HasPlaceFor old parent (first_key ks last)
    → HasBegun old (with_keys_below old parent facts ks last) parent (first_key ks last)
all_begun old parent facts [] last h =
    begun_first old parent last (own_holding facts.element) facts.own h.within h.keyed
all_begun old parent facts (k ∷ ks) last h =
    let mid : List Node = with_key_below old parent k by_key facts.through in
    let any : length old < length mid = omega (arith, one_more old parent k by_key facts.through) in
    begun_more old parent k (with_tables_below mid (length old) (next_facts facts.through) ks)
    (last_table mid (length old) (next_facts facts.through) ks) last (own_holding facts.element) facts.own
    (has_begun old parent facts.through (k ∷ ks) last h)
    (omega (arith, any, tables_many mid (length old) (next_facts facts.through) ks))
    (last_later old mid (length old) (next_facts facts.through) ks any (omega arith))

-- ---- the element

-- the node that comes last is bare, and holds what it may
module _ (nodes : List Node) (parent : ℕ) (facts : HeaderFacts) (ks : List (List ℕ)) (last : List ℕ) where
  abbrev below : List Node
  below = with_tables_below nodes parent facts.through ks

  abbrev all : List Node
  all = with_keys_below nodes parent facts ks last

  last_is : length all - 1 ≡ length below
  last_is =
      omega (
        arith,
        one_more below (last_table nodes parent facts.through ks) last (own_holding facts.element) facts.own,
      )

  last_row : node_at all (length all - 1) ≡ record {
    parent = last_table nodes parent facts.through ks;
    number = length (child_ids (node_at below (last_table nodes parent facts.through ks)).children);
    children = no_children (own_holding facts.element);
    facts = facts.own;
  }
  last_row =
      ap (node_at all) last_is
      ∙ new_node below (last_table nodes parent facts.through ks) last (own_holding facts.element) facts.own

  pub keys_many : length nodes < length all
  keys_many =
      omega (
        arith,
        one_more below (last_table nodes parent facts.through ks) last (own_holding facts.element) facts.own,
        tables_many nodes parent facts.through ks,
      )

  pub array_within : length all - 1 < length all
  array_within =
      omega (
        arith,
        one_more below (last_table nodes parent facts.through ks) last (own_holding facts.element) facts.own,
      )

  module _ (element : NodeFacts) (is : facts.element ≡ Some element) where
    pub array_listed : holds_of (node_at all (length all - 1)).children ≡ by_index
    array_listed =
        ap (λ (n : Node). holds_of n.children) last_row ∙ ap (λ o. holds_of (no_children (own_holding o))) is

    pub array_bare : child_ids (node_at all (length all - 1)).children ≡ []
    array_bare = ap (λ (n : Node). child_ids n.children) last_row ∙ ap (λ o. child_ids (no_children (own_holding o))) is

    pub header_is : (new : List Node) → new ≡ with_element_below all (length all - 1) element
        → new ≡ with_header_below nodes parent facts ks last
    header_is more new_is = new_is ∙ ap (with_element all) (sym is)

  pub header_bare : facts.element ≡ None → all ≡ with_header_below nodes parent facts ks last
  header_bare is = ap (with_element all) (sym is)

pub element_begun : (old : List Node) (parent : ℕ) (text : List ℕ) (mid : List Node) (array : ℕ) (facts : NodeFacts)
    → HasBegun old mid parent text → length old < length mid → length old ≤ array
    → HasBegun old (with_element_below mid array facts) parent text
element_begun old parent text mid array facts h any later =
    let changed : Node = record (node_at mid array) {
      children = and_item (node_at mid array).children (length mid);
    } in
    let row : Node = record { parent = array; number = 0; children = no_children by_key; facts = facts } in
    let many : length (with_element_below mid array facts) ≡ length mid + 1 = length_added mid array changed row in
    record {
      within = h.within;
      keyed = h.keyed;
      longer = omega (arith, many, any);
      none = λ same. absurd (omega (arith, many, same, any));
      some = λ more.
          take-append-le (length old) (set mid array changed) (row ∷ [])
          (omega (arith, any, length-set mid array changed))
          ∙ take-set-le (length old) mid array changed later ∙ h.some any;
    }

-- ---- back again

keyed_again : (c : ChildList) → holds_of c ≡ by_key → Keyed (named c) ≡ c
keyed_again Bare h = cc
keyed_again (Keyed pairs) h = refl
keyed_again (Listed ids) h = cc

module _ (before now : List Node) (parent : ℕ) (text : List ℕ) (begun : HasBegun before now parent text)
    (any : length before < length now) where
  abbrev kids : ChildList
  kids = (node_at before parent).children

  abbrev parted : Node
  parted = record (node_at before parent) { children = and_key kids text (length before) }

  above_now : node_at now parent ≡ parted
  above_now =
      sym (get_or-take (length before) now parent no_node begun.within)
      ∙ ap (λ ns. get_or ns parent no_node) (begun.some any)
      ∙ get_or-set_same before parent parted no_node begun.within

  named_now : named (node_at now parent).children ≡ named kids ++ (text, length before) ∷ []
  named_now = ap (λ (n : Node). named n.children) above_now

  pub keyed_now : holds_of (node_at now parent).children ≡ by_key
  keyed_now = ap (λ (n : Node). holds_of n.children) above_now

  pub some_now : 0 < length (named (node_at now parent).children)
  some_now = omega (arith, ap length named_now, length-append (named kids) ((text, length before) ∷ []))

  last_gone : Keyed (remove (named (node_at now parent).children) (length (named (node_at now parent).children) - 1))
      ≡ kids
  last_gone =
      let many : length (named (node_at now parent).children) - 1 ≡ length (named kids) =
      omega (arith, ap length named_now, length-append (named kids) ((text, length before) ∷ [])) in
      let none : length (named kids) - length (named kids) ≡ 0 = omega arith in
      ap (λ n. Keyed (remove (named (node_at now parent).children) n)) many
      ∙ ap (λ ps. Keyed (remove ps (length (named kids)))) named_now
      ∙ ap Keyed (remove-append_right (named kids) ((text, length before) ∷ []) (length (named kids))
      (length (named kids)) refl (omega arith))
      ∙ ap (λ n. Keyed (named kids ++ remove ((text, length before) ∷ []) n)) none
      ∙ ap Keyed (append-nil (named kids))
      ∙ keyed_again kids begun.keyed

  pub taken_back : take (length before) (with_children now parent
      (Keyed (remove (named (node_at now parent).children) (length (named (node_at now parent).children) - 1))))
      ≡ before
  taken_back =
      ap (λ c. take (length before) (with_children now parent c)) last_gone
      ∙ take-set-lt (length before) now parent (record (node_at now parent) { children = kids }) begun.within
      ∙ ap (λ ns. set ns parent (record (node_at now parent) { children = kids })) (begun.some any)
      ∙ ap (λ (n : Node). let r : Node = record n { children = kids } in set (set before parent parted) parent r)
      above_now
      ∙ set-set before parent parted (node_at before parent)
      ∙ set-get_or before parent no_node

-- ---- the keys of the code

first_so_far : (keys : List (String Global)) (i : ℕ) (x : String Global) (text last : List ℕ) → i < length keys
    → x ≡ get_or keys i x → text ≡ string_bytes x
    → first_key (map string_bytes (take i keys)) text ≡ first_key (map string_bytes keys) last
first_so_far [] i x text last h is named = absurd (omega (arith, h))
first_so_far (y ∷ ys) zero x text last h is named = named ∙ ap string_bytes is
first_so_far (y ∷ ys) (suc i) x text last h is named = refl

key_more : (keys : List (String Global)) (i : ℕ) (x : String Global) (text : List ℕ) → i < length keys
    → x ≡ get_or keys i x → text ≡ string_bytes x
    → map string_bytes (take (i + 1) keys) ≡ map string_bytes (take i keys) ++ text ∷ []
key_more keys i x text h is named =
    ap (map string_bytes) (take_more keys i x h) ∙ map-append string_bytes (take i keys) (get_or keys i x ∷ [])
    ∙ ap (λ (t : List ℕ). map string_bytes (take i keys) ++ t ∷ []) (sym (named ∙ ap string_bytes is))

-- where the first tables have come, those of the keys before the one with that number
module _ (old : List Node) (parent : ℕ) (facts : HeaderFacts) (keys : List (String Global)) (last : List ℕ)
    (place : HasPlaceFor old parent (first_key (map string_bytes keys) last)) (i : ℕ) where
  abbrev so_far : List (List ℕ)
  so_far = map string_bytes (take i keys)

  module _ (now : List Node) (at : ℕ) (is : now ≡ with_tables_below old parent facts.through so_far)
      (at_is : at ≡ last_table old parent facts.through so_far) where
    table_place : (text : List ℕ) → first_key so_far text ≡ first_key (map string_bytes keys) last
        → HasPlaceFor now at text
    table_place text first =
        subst (λ ns. HasPlaceFor ns at text) (sym is)
        (subst (λ n. HasPlaceFor (with_tables_below old parent facts.through so_far) n text) (sym at_is)
        (ready old parent facts.through so_far text (subst (HasPlaceFor old parent) (sym first) place)))

    some_begun : (text : List ℕ) → first_key so_far text ≡ first_key (map string_bytes keys) last
        → HasBegun old now parent (first_key (map string_bytes keys) last)
    some_begun text first =
        subst (λ ns. HasBegun old ns parent (first_key (map string_bytes keys) last)) (sym is)
        (subst (HasBegun old (with_tables_below old parent facts.through so_far) parent) first
        (has_begun old parent facts.through so_far text (subst (HasPlaceFor old parent) (sym first) place)))

    -- at one of the leading keys
    module _ (x : String Global) (text : List ℕ) (low : i < length keys) (x_is : x ≡ get_or keys i x)
        (named_is : text ≡ string_bytes x) where
      pub next_place : HasPlaceFor now at text
      next_place = table_place text (first_so_far keys i x text last low x_is named_is)

      pub next_begun : HasBegun old now parent (first_key (map string_bytes keys) last)
      next_begun = some_begun text (first_so_far keys i x text last low x_is named_is)

      pub next_tables : (new : List Node) (table : NodeFacts) → new ≡ with_key_below now at text by_key table
          → table ≡ record facts.through { key = facts.through.key + i }
          → new ≡ with_tables_below old parent facts.through (map string_bytes (take (i + 1) keys))
      next_tables new table new_is table_is =
          let many : length so_far ≡ i = length-map (take i keys) string_bytes
          ∙ length-take-le i keys (omega (arith, low)) in
          new_is
          ∙ ap (λ ns. with_key_below ns at text by_key table) is
          ∙ ap (λ n. with_key_below (with_tables_below old parent facts.through so_far) n text by_key table) at_is
          ∙ ap (λ t.
          with_key_below (with_tables_below old parent facts.through so_far)
          (last_table old parent facts.through so_far) text by_key t)
          (table_is ∙ ap (λ n. record facts.through { key = facts.through.key + n }) (sym many)
          ∙ sym (facts_are facts.through so_far))
          ∙ sym (tables_more old parent facts.through so_far text)
          ∙ ap (with_tables_below old parent facts.through) (sym (key_more keys i x text low x_is named_is))

      pub next_last : (id : ℕ) → id ≡ length now
          → id ≡ last_table old parent facts.through (map string_bytes (take (i + 1) keys))
      next_last id id_is =
          id_is ∙ ap length is ∙ sym (last_more old parent facts.through so_far text)
          ∙ ap (last_table old parent facts.through) (sym (key_more keys i x text low x_is named_is))

    -- after all of them
    module _ (all : length keys ≤ i) where
      whole : so_far ≡ map string_bytes keys
      whole = ap (map string_bytes) (take_all i keys all)

      pub last_place : HasPlaceFor now at last
      last_place = table_place last (ap (λ ks. first_key ks last) whole)

      pub tables_begun : HasBegun old now parent (first_key (map string_bytes keys) last)
      tables_begun = some_begun last (ap (λ ks. first_key ks last) whole)

      pub keys_added : (more : List Node) → more ≡ with_key_below now at last (own_holding facts.element) facts.own
          → more ≡ with_keys_below old parent facts (map string_bytes keys) last
      keys_added more new_is =
          new_is ∙ ap (λ ns. with_key_below ns at last (own_holding facts.element) facts.own) is
          ∙ ap (λ n.
          with_key_below (with_tables_below old parent facts.through so_far) n last (own_holding facts.element)
          facts.own) at_is
          ∙ ap (λ ks. with_keys_below old parent facts ks last) whole

      pub keys_begun : (more : List Node) → more ≡ with_key_below now at last (own_holding facts.element) facts.own
          → HasBegun old more parent (first_key (map string_bytes keys) last)
      keys_begun more new_is =
          subst (λ ns. HasBegun old ns parent (first_key (map string_bytes keys) last)) (sym (keys_added more new_is))
          (all_begun old parent facts (map string_bytes keys) last place)
