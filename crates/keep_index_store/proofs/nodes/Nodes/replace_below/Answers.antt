use Rattle.std.proofs.Common.{◌≡◌, ◌+◌, All, List, length, map, ap, ◌∙◌, arith, drop, subst, suc, sym, take, true}
use Rattle.std.proofs.lemmas.List.{length-map}
use Rattle.keep_index_store.specs.declared.links.ParentLink.{ParentLink}
use Rattle.keep_index_store.specs.declared.nodes.Node.{Node as StoredNode}
use Rattle.keep_index_store.specs.declared.shift.Shift.{Shift}
use Rattle.keep_index_store.specs.Below.{shift_inside, with_shifted_stored}
use Rattle.keep_index_store.specs.Links.{FitsIn32Bits, link_of}
use Rattle.keep_index_store.specs.NodeRows.{node_rows}
use Rattle.keep_index_store.specs.Replacing.{CanShiftChildren, CanShiftLink, replaced_links, replaced_stored, shift_of}
use Rattle.keep_index_store.proofs.NodeRowLemmas.{count_seen, links_seen}
use Rattle.keep_index_store.proofs.RemovedRowLemmas.{links_fit}
use Rattle.keep_index_store.proofs.ReplacedStoredLemmas.{after_can, before_can, beside_is, inside_can}
use Rattle.keep_index_store.proofs.ReplacedStoredLemmas.{inside_links_can, links_can, rows_small, rows_then}
use Rattle.keep_index_store.proofs.nodes.Nodes.replace_below.Goals as goal

pub numbers_beside-beside-requires-clause-few : goal.numbers_beside-beside-requires-clause-few
numbers_beside-beside-requires-clause-few c =
    omega (
      arith,
      c.requires.few,
      c.len.ensures,
      c.len-2.ensures,
      c.inside.inside.list.ok.0,
      count_seen c.inside.inside.list.items c.inside.inside.links c.args.inside c.inside.view_is c.inside.invariant,
    )

pub into_packed-all_links-requires : goal.into_packed-all_links-requires
into_packed-all_links-requires c =
    subst (λ (hs : List ParentLink). All FitsIn32Bits hs) (sym c.replace.ensures.value)
    (links_fit c.self.inside.list.items c.self.inside.links c.args.self.now c.self.view_is c.self.invariant
    c.requires.links)

pub of_packed-requires : goal.of_packed-requires
of_packed-requires c =
    let same : map link_of c.make_ready.new.links.items ≡ c.self.inside.links =
    ap (map link_of) c.make_ready.ensures.links ∙ c.into_packed-all_links.ensures ∙ c.replace.ensures.value in
    subst (λ (hs : List ParentLink). All FitsIn32Bits hs) (sym same)
    (links_fit c.self.inside.list.items c.self.inside.links c.args.self.now c.self.view_is c.self.invariant
    c.requires.links)

pub into_packed-requires : goal.into_packed-requires
into_packed-requires c =
    links_fit c.inside.inside.list.items c.inside.inside.links c.args.inside c.inside.view_is c.inside.invariant
    c.requires.inside_links

pub replace_links-requires-clause-within : goal.replace_links-requires-clause-within
replace_links-requires-clause-within c =
    let same : map link_of c.make_ready.new.links.items ≡ c.self.inside.links =
    ap (map link_of) c.make_ready.ensures.links ∙ c.into_packed-all_links.ensures ∙ c.replace.ensures.value in (
      omega (
        arith,
        c.requires.within,
        links_seen c.self.inside.list.items c.self.inside.links c.args.self.now c.self.view_is c.self.invariant,
        ap length same,
        length-map c.make_ready.new.links.items link_of,
        c.make_ready.new.links.ok.0,
      ),
      omega (
        arith,
        c.requires.some,
        links_seen c.inside.inside.list.items c.inside.inside.links c.args.inside c.inside.view_is c.inside.invariant,
        ap length c.into_packed.ensures,
        length-map c.into_packed.result.items link_of,
        c.into_packed.result.ok.0,
      ),
    )

pub replace_links-requires-clause-can : goal.replace_links-requires-clause-can
replace_links-requires-clause-can c =
    let same : map link_of c.make_ready.new.links.items ≡ c.self.inside.links =
    ap (map link_of) c.make_ready.ensures.links ∙ c.into_packed-all_links.ensures ∙ c.replace.ensures.value in
    let many : c.len-2.result ≡ length c.args.inside.items =
    omega (
      arith,
      c.len-2.ensures,
      c.inside.inside.list.ok.0,
      count_seen c.inside.inside.list.items c.inside.inside.links c.args.inside c.inside.view_is c.inside.invariant,
    ) in
    let is =
    beside_is c.numbers_beside-beside.result c.len.result (length c.args.self.now.items) c.args.id c.args.gone
    c.len-2.result (length c.args.inside.items) c.numbers_beside-beside.ensures c.len.ensures many in
    subst (λ (hs : List ParentLink). All (CanShiftLink c.numbers_beside-beside.result) hs) (sym same)
    (subst (λ (s : Shift). All (CanShiftLink s) c.self.inside.links) (sym is)
    (links_can c.self.inside.list.items c.inside.inside.list.items c.self.inside.links c.inside.inside.links
    c.args.self.now c.args.inside c.self.view_is c.self.invariant c.inside.view_is c.inside.invariant c.args.id
    c.args.gone c.requires))

pub replace_links-requires-clause-can_inside : goal.replace_links-requires-clause-can_inside
replace_links-requires-clause-can_inside c =
    subst (λ (hs : List ParentLink). All (CanShiftLink (shift_inside c.args.id)) hs) (sym c.into_packed.ensures)
    (inside_links_can c.self.inside.list.items c.inside.inside.list.items c.self.inside.links c.inside.inside.links
    c.args.self.now c.args.inside c.self.view_is c.self.invariant c.inside.view_is c.inside.invariant c.args.id
    c.args.gone c.requires)

pub replace_nodes-requires-clause-within : goal.replace_nodes-requires-clause-within
replace_nodes-requires-clause-within c = (
  omega (
    arith,
    c.requires.within,
    count_seen c.self.inside.list.items c.self.inside.links c.args.self.now c.self.view_is c.self.invariant,
    c.self.inside.list.ok.0,
    c.make_ready.ensures.len.0,
  ),
  omega (
    arith,
    c.requires.some,
    count_seen c.inside.inside.list.items c.inside.inside.links c.args.inside c.inside.view_is c.inside.invariant,
    c.inside.inside.list.ok.0,
  ),
)

pub replace_nodes-requires-clause-before : goal.replace_nodes-requires-clause-before
replace_nodes-requires-clause-before c =
    let many : c.len-2.result ≡ length c.args.inside.items =
    omega (
      arith,
      c.len-2.ensures,
      c.inside.inside.list.ok.0,
      count_seen c.inside.inside.list.items c.inside.inside.links c.args.inside c.inside.view_is c.inside.invariant,
    ) in
    let is =
    beside_is c.numbers_beside-beside.result c.len.result (length c.args.self.now.items) c.args.id c.args.gone
    c.len-2.result (length c.args.inside.items) c.numbers_beside-beside.ensures c.len.ensures many in
    let done : c.make_ready.result ≡ true = c.if-not-make_ready.false in
    let same = c.make_ready.ensures.shifted done in
    subst (λ (ns : List StoredNode).
    All (λ n. CanShiftChildren c.numbers_beside-beside.result n.children) (take c.args.id ns)) (sym same)
    (subst (λ (s : Shift).
    All (λ n. CanShiftChildren s n.children)
    (take c.args.id (map (with_shifted_stored c.args.by) c.self.inside.list.items))) (sym is)
    (before_can c.self.inside.list.items c.inside.inside.list.items c.self.inside.links c.inside.inside.links
    c.args.self.now c.args.inside c.self.view_is c.self.invariant c.inside.view_is c.inside.invariant c.args.id
    c.args.gone c.requires c.args.by))

pub replace_nodes-requires-clause-after : goal.replace_nodes-requires-clause-after
replace_nodes-requires-clause-after c =
    let many : c.len-2.result ≡ length c.args.inside.items =
    omega (
      arith,
      c.len-2.ensures,
      c.inside.inside.list.ok.0,
      count_seen c.inside.inside.list.items c.inside.inside.links c.args.inside c.inside.view_is c.inside.invariant,
    ) in
    let is =
    beside_is c.numbers_beside-beside.result c.len.result (length c.args.self.now.items) c.args.id c.args.gone
    c.len-2.result (length c.args.inside.items) c.numbers_beside-beside.ensures c.len.ensures many in
    let done : c.make_ready.result ≡ true = c.if-not-make_ready.false in
    let same = c.make_ready.ensures.shifted done in
    subst (λ (ns : List StoredNode).
    All (λ n. CanShiftChildren c.numbers_beside-beside.result n.children) (drop (suc c.args.id + c.args.gone) ns))
    (sym same)
    (subst (λ (s : Shift).
    All (λ n. CanShiftChildren s n.children)
    (drop (suc c.args.id + c.args.gone) (map (with_shifted_stored c.args.by) c.self.inside.list.items))) (sym is)
    (after_can c.self.inside.list.items c.inside.inside.list.items c.self.inside.links c.inside.inside.links
    c.args.self.now c.args.inside c.self.view_is c.self.invariant c.inside.view_is c.inside.invariant c.args.id
    c.args.gone c.requires c.args.by))

pub replace_nodes-requires-clause-inside : goal.replace_nodes-requires-clause-inside
replace_nodes-requires-clause-inside c =
    inside_can c.self.inside.list.items c.inside.inside.list.items c.self.inside.links c.inside.inside.links
    c.args.self.now c.args.inside c.self.view_is c.self.invariant c.inside.view_is c.inside.invariant c.args.id
    c.args.gone c.requires

pub returns-clause-replaced : goal.returns-clause-replaced
returns-clause-replaced c _ =
    let many : c.len-2.result ≡ length c.args.inside.items =
    omega (
      arith,
      c.len-2.ensures,
      c.inside.inside.list.ok.0,
      count_seen c.inside.inside.list.items c.inside.inside.links c.args.inside c.inside.view_is c.inside.invariant,
    ) in
    let is =
    beside_is c.numbers_beside-beside.result c.len.result (length c.args.self.now.items) c.args.id c.args.gone
    c.len-2.result (length c.args.inside.items) c.numbers_beside-beside.ensures c.len.ensures many in
    let done : c.make_ready.result ≡ true = c.if-not-make_ready.false in
    let same = c.make_ready.ensures.shifted done in
    let old : map link_of c.make_ready.new.links.items ≡ c.self.inside.links =
    ap (map link_of) c.make_ready.ensures.links ∙ c.into_packed-all_links.ensures ∙ c.replace.ensures.value in
    let beside = shift_of (length c.args.self.now.items) c.args.id c.args.gone (length c.args.inside.items) in
    let ins = c.inside.inside.list.items in
    let list' = map (with_shifted_stored c.args.by) c.self.inside.list.items in
    let nodes : c.replace_nodes.new.list.items ≡ replaced_stored beside c.args.id c.args.gone list' ins =
    c.replace_nodes.ensures
    ∙ ap (λ s. replaced_stored s c.args.id c.args.gone c.make_ready.new.list.items ins) is
    ∙ ap (λ ns. replaced_stored beside c.args.id c.args.gone ns ins) same in
    let links : c.of_packed-2.result
    ≡ replaced_links beside c.args.id c.args.gone c.self.inside.links c.inside.inside.links =
    c.of_packed-2.ensures ∙ c.replace_links.ensures.replaced
    ∙ ap (λ s. replaced_links s c.args.id c.args.gone (map link_of c.make_ready.new.links.items)
    (map link_of c.into_packed.result.items)) is
    ∙ ap (λ hs. replaced_links beside c.args.id c.args.gone hs (map link_of c.into_packed.result.items)) old
    ∙ ap (λ hs. replaced_links beside c.args.id c.args.gone c.self.inside.links hs) c.into_packed.ensures in
    ap (λ ns. node_rows ns c.of_packed-2.result) nodes
    ∙ ap (node_rows (replaced_stored beside c.args.id c.args.gone list' ins)) links
    ∙ rows_then c.self.inside.list.items ins c.self.inside.links c.inside.inside.links c.args.self.now c.args.inside
    c.self.view_is c.self.invariant c.inside.view_is c.inside.invariant c.args.id c.args.gone c.requires c.args.by

pub returns-clause-links : goal.returns-clause-links
returns-clause-links c _ =
    rows_small c.replace_nodes.new.list.items c.of_packed-2.result
    (subst (λ (hs : List ParentLink). All FitsIn32Bits hs) (sym c.of_packed-2.ensures) c.replace_links.ensures.fit)
