use Rattle.std.proofs.Common.{◌+◌, ◌<◌, ◌∷◌, ◌++◌, [], drop, length, subst, sym, Option}
use Rattle.std.proofs.Common.{ℕ, List}
use Rattle.std.specs.Prelude.{IfSome, string_bytes}
use Rattle.keep_path.specs.Path.{key}
use Rattle.keep_rules.specs.declared.index.NodeId.{NodeId}
use Rattle.keep_rules.specs.Lookup.{path_numbered}
use Rattle.keep_edit_plan.specs.Headers.{key_texts}
use Rattle.keep_edit_plan.specs.NewTables.{HasElements}
use Rattle.keep_edit_plan.proofs.HeaderLaws.{root_number}
use Rattle.keep_edit_plan.proofs.NewElementLaws.{EndsIn, all_lead_elements, ends_at_none, none_left}
use Rattle.keep_edit_plan.proofs.NewElementLaws.{number_found, split_last}
use Rattle.keep_edit_plan.proofs.NewTableLaws.{LeadOn, from_root, leads_at_next, leads_at_none, next_key}
use Rattle.keep_edit_plan.proofs.new_table.next_element.Goals as goal

pub loop-name-init : goal.loop-name-init
loop-name-init c = (
  (root_number c.requires.0 c.args.index.now c.requires.1).0,
  λ s h n on. from_root s c.args.index.now h (EndsIn s (string_bytes c.in_ok-last.last.now) n) c.in_ok-last.way.now on,
)

pub returns-in_default : goal.returns-in_default
returns-in_default c = λ s h.
    let at = path_numbered c.args.index.now c.loop-name.at.0 in
    let last = string_bytes c.in_ok-last.last.now in
    let left = key_texts (drop (c.loop-name.name-index + 1) c.in_ok-last.way.now) in
    all_lead_elements s c.args.index.now h (key_texts c.args.keys.now) (key_texts c.in_ok-last.way.now) last 0
    (split_last c.args.keys.now c.in_ok-last.way.now c.in_ok-last.last.now c.in_ok-last.ensures.cases.0)
    (c.loop-name.invariant.1 s h 0
    (subst (LeadOn s (EndsIn s last 0) at)
    (sym (next_key c.in_ok-last.way.now c.loop-name.name-index c.name-item.result c.as_str.result.now
    c.loop-name-test.true c.name-item.is c.as_str.ensures.value))
    (leads_at_none s c.args.index.now h (EndsIn s last 0) (ends_at_none s c.args.index.now h last) at
    c.as_str.result.now left c.child.result c.in_default.is c.child.ensures.found)))

pub loop-name-preserved : goal.loop-name-preserved
loop-name-preserved c = (
  subst (λ (o : Option NodeId). IfSome o (λ id. id.0 < length c.args.index.now.paths)) c.in-Some.is
      c.child.ensures.within,
  λ s h n on.
      (let at = path_numbered c.args.index.now c.loop-name.at.0 in
      let End = EndsIn s (string_bytes c.in_ok-last.last.now) n in
      let left = key_texts (drop (c.loop-name.name-index + 1) c.in_ok-last.way.now) in
      c.loop-name.invariant.1 s h n
      (subst (LeadOn s End at)
      (sym (next_key c.in_ok-last.way.now c.loop-name.name-index c.name-item.result c.as_str.result.now
      c.loop-name-test.true c.name-item.is c.as_str.ensures.value))
      (leads_at_next s c.args.index.now h at c.as_str.result.now c.in-Some.next c.node.result c.child.result
      c.in-Some.is c.child.ensures.found c.node.ensures c.in_default-origin.not-Value c.in_default-origin.not-Tables End
      left on))),
)

pub returns : goal.returns
returns c =
    let at = path_numbered c.args.index.now c.loop-name.at.0 in
    let last = string_bytes c.in_ok-last.last.now in
    number_found c.elements_at.result c.elements_at.ensures (λ n there s h.
    all_lead_elements s c.args.index.now h (key_texts c.args.keys.now) (key_texts c.in_ok-last.way.now) last n
    (split_last c.args.keys.now c.in_ok-last.way.now c.in_ok-last.last.now c.in_ok-last.ensures.cases.0)
    (c.loop-name.invariant.1 s h n
    (none_left s (EndsIn s last n) at c.in_ok-last.way.now c.loop-name.name-index c.loop-name-test.false
    (subst (λ (k : List ℕ). HasElements s (at ++ key k ∷ []) n) c.as_str-2.ensures.value (there s h)))))
