use Rattle.std.proofs.Common.{◌+◌, ◌<◌, drop, length, subst, sym, Option}
use Rattle.std.specs.Prelude.{IfSome}
use Rattle.keep_rules.specs.declared.index.NodeId.{NodeId}
use Rattle.keep_rules.specs.Lookup.{path_numbered}
use Rattle.keep_edit_plan.specs.Headers.{key_texts}
use Rattle.keep_edit_plan.proofs.HeaderLaws.{root_number}
use Rattle.keep_edit_plan.proofs.NewTableLaws.{IsNew, LeadOn, all_lead, from_root, is_new, leads_at_next}
use Rattle.keep_edit_plan.proofs.NewTableLaws.{leads_at_none, next_key}
use Rattle.keep_edit_plan.proofs.new_table.leads_to_none.Goals as goal

pub loop-name-init : goal.loop-name-init
loop-name-init c = (
  (root_number c.requires.0 c.args.index.now c.requires.1).0,
  λ s h on. from_root s c.args.index.now h (IsNew s) c.args.keys.now on,
)

pub returns-in_default : goal.returns-in_default
returns-in_default c = λ none s h.
    let at = path_numbered c.args.index.now c.loop-name.at.0 in
    let left = key_texts (drop (c.loop-name.name-index + 1) c.args.keys.now) in
    all_lead s c.args.index.now h (key_texts c.args.keys.now)
    (c.loop-name.invariant.1 s h
    (subst (LeadOn s (IsNew s) at)
    (sym (next_key c.args.keys.now c.loop-name.name-index c.name-item.result c.as_str.result.now c.loop-name-test.true
    c.name-item.is c.as_str.ensures.value))
    (leads_at_none s c.args.index.now h (IsNew s) (is_new s c.args.index.now h) at c.as_str.result.now left
    c.child.result c.in_default.is c.child.ensures.found)))

pub loop-name-preserved : goal.loop-name-preserved
loop-name-preserved c = (
  subst (λ (o : Option NodeId). IfSome o (λ id. id.0 < length c.args.index.now.paths)) c.in-Some.is
      c.child.ensures.within,
  λ s h on.
      (let at = path_numbered c.args.index.now c.loop-name.at.0 in
      let left = key_texts (drop (c.loop-name.name-index + 1) c.args.keys.now) in
      c.loop-name.invariant.1 s h
      (subst (LeadOn s (IsNew s) at)
      (sym (next_key c.args.keys.now c.loop-name.name-index c.name-item.result c.as_str.result.now
      c.loop-name-test.true c.name-item.is c.as_str.ensures.value))
      (leads_at_next s c.args.index.now h at c.as_str.result.now c.in-Some.next c.node.result c.child.result
      c.in-Some.is c.child.ensures.found c.node.ensures c.in_default-origin.not-Value c.in_default-origin.not-Tables
      (IsNew s) left on))),
)
