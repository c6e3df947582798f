-- What was there before stays with the element too.
use Rattle.std.proofs.Common.{ℕ, ◌<◌, ◌≤◌, ◌-◌, List, length, map, subst, sym, arith}
use Rattle.std.specs.Prelude.{string_bytes}
use Rattle.keep_index_store.specs.AllNodes.{Node}
use Rattle.keep_index_store.specs.KeysBelow.{HasBegun, first_key}
use Rattle.keep_index_store.proofs.KeysBelowLemmas.{element_begun, keys_many}
use Rattle.keep_index_store.proofs.TreeLemmas.{on_both}
use Rattle.keep_index_store.proofs.nodes.Nodes.add_all.Goals as goal

pub returns-in-Some-clause-begun : goal.returns-in-Some-clause-begun
returns-in-Some-clause-begun c =
    let old : List Node = c.args.self.now.items in
    let mid : List Node = c.add_each.new.self.items in
    let leading : List (List ℕ) = map string_bytes c.args.leading.now in
    let text = first_key leading c.args.last.now in
    let any : length old < length mid =
    subst (λ (ns : List Node). length old < length ns) (sym c.in_ok-add_each.ensures.ok)
    (keys_many old c.args.parent c.args.facts leading c.args.last.now) in
    let later : length old ≤ c.len.result - 1 = omega (arith, any, c.len.ensures) in
    on_both c.add_element.result
    (λ is.
    subst (λ (ns : List Node). HasBegun old ns c.args.parent text) (sym is)
    (element_begun old c.args.parent text mid (c.len.result - 1) c.in-Some.element c.in_ok-add_each.ensures.begun any
    later))
    (λ is. subst (λ (ns : List Node). HasBegun old ns c.args.parent text) (sym is) c.in_ok-add_each.ensures.begun)
    c.add_element.ensures.ok c.add_element.ensures.err
