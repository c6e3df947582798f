use Rattle.std.proofs.Common.{◌∙◌, arith}
use Rattle.keep_index_store.proofs.MovedRowLemmas.{can_place, all_moved, links_count, links_small, none_comes_after}
use Rattle.keep_index_store.proofs.NodeRowLemmas.{links_seen}
use Rattle.keep_index_store.proofs.nodes.Nodes.move_last.Goals as goal

pub move_last-requires-clause-small : goal.move_last-requires-clause-small
move_last-requires-clause-small c = links_small _ _ _ c.self.view_is c.self.invariant c.requires.small

pub move_last-requires-clause-within : goal.move_last-requires-clause-within
move_last-requires-clause-within c =
    omega (arith, c.requires.last.within, links_seen _ _ _ c.self.view_is c.self.invariant)

pub move_last-requires-clause-order : goal.move_last-requires-clause-order
move_last-requires-clause-order c =
    (can_place _ _ _ c.self.view_is c.self.invariant c.args.at c.args.place c.requires.last c.get-link.result _
    (omega (arith, c.len.ensures, c.self.inside.list.ok.0)) c.get-link.ensures).order

pub move_last-requires-clause-last : goal.move_last-requires-clause-last
move_last-requires-clause-last c =
    none_comes_after _ _ _ c.self.view_is c.self.invariant c.args.at c.args.place c.requires.last c.get-link.result _
    (omega (arith, c.len.ensures, c.self.inside.list.ok.0)) c.get-link.ensures

pub move_last_node-requires-clause-within : goal.move_last_node-requires-clause-within
move_last_node-requires-clause-within c =
    let asked =
    can_place _ _ _ c.self.view_is c.self.invariant c.args.at c.args.place c.requires.last c.get-link.result _
    (omega (arith, c.len.ensures, c.self.inside.list.ok.0)) c.get-link.ensures in
    (asked.above_low, asked.at_low)

pub move_last_node-requires-clause-holds : goal.move_last_node-requires-clause-holds
move_last_node-requires-clause-holds c =
    (can_place _ _ _ c.self.view_is c.self.invariant c.args.at c.args.place c.requires.last c.get-link.result _
    (omega (arith, c.len.ensures, c.self.inside.list.ok.0)) c.get-link.ensures).holds

pub move_last_node-requires-clause-place : goal.move_last_node-requires-clause-place
move_last_node-requires-clause-place c =
    (can_place _ _ _ c.self.view_is c.self.invariant c.args.at c.args.place c.requires.last c.get-link.result _
    (omega (arith, c.len.ensures, c.self.inside.list.ok.0)) c.get-link.ensures).place

pub move_last_node-requires-clause-each : goal.move_last_node-requires-clause-each
move_last_node-requires-clause-each c =
    (can_place _ _ _ c.self.view_is c.self.invariant c.args.at c.args.place c.requires.last c.get-link.result _
    (omega (arith, c.len.ensures, c.self.inside.list.ok.0)) c.get-link.ensures).each

pub invariant_of-self : goal.invariant_of-self
invariant_of-self c =
    links_count _ _ _ c.self.view_is c.self.invariant c.args.at c.args.place c.requires.last c.get-link.result _
    (omega (arith, c.len.ensures, c.self.inside.list.ok.0)) c.get-link.ensures c.move_last.new.self c.move_last.ensures
    ∙ omega (arith, c.move_last_node.ensures.len, c.self.inside.list.ok.0, c.move_last_node.new.list.ok.0)

pub returns : goal.returns
returns c =
    all_moved _ _ _ c.self.view_is c.self.invariant c.args.at c.args.place c.requires.last c.get-link.result _
    (omega (arith, c.len.ensures, c.self.inside.list.ok.0)) c.get-link.ensures c.move_last_node.new.list.items
    c.move_last.new.self c.move_last_node.ensures.moved c.move_last.ensures
