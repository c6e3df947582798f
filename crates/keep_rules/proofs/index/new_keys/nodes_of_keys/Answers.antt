-- Each key's node comes below that of the key before it, under a path that none has yet.
use Rattle.std.proofs.Common.{◌≡◌, ◌-◌, [], ◌∷◌, ◌++◌, ◌∙◌, ap, arith, refl, slice_get, Some}
use Rattle.keep_index_store.specs.Tree.{node_infos}
use Rattle.keep_rules.proofs.KeysAloneLemmas.{all_come, begun, fresh, goes_on}
use Rattle.keep_rules.proofs.index.new_keys.nodes_of_keys.Goals as goal

pub loop-number-init : goal.loop-number-init
loop-number-init c = begun c.args.path.now c.args.from c.in-Ok.nodes c.in-Ok.ensures

pub add_key-requires-clause-fresh : goal.add_key-requires-clause-fresh
add_key-requires-clause-fresh c =
    fresh c.args.path.now c.args.from c.loop-number.number c.loop-number.nodes c.loop-number.invariant
    (c.loop-number.number - c.args.from) refl c.in_ok-text.text.now

pub loop-number-preserved : goal.loop-number-preserved
loop-number-preserved c =
    goes_on c.args.path.now c.args.from c.loop-number.number c.loop-number.nodes c.loop-number.invariant
    (c.loop-number.number - c.args.from) refl c.add_key.new.self c.in_ok-text.text.now (Some _) c.in_ok-text.ensures
    c.in-Ok-add_key.ensures.grows
    (c.in-Ok-add_key.ensures.infos ∙ ap (λ i. c.loop-number.nodes.infos ++ i ∷ []) c.named-facts.ensures.info)

pub returns : goal.returns
returns c =
    let end : c.loop-number.number ≡ c.len-last.result - 1 = omega arith in
    all_come c.args.path.now c.args.from c.loop-number.number c.loop-number.nodes c.loop-number.invariant
    (c.len-last.result - 1 - c.args.from) (omega (arith, end)) (node_infos c.append_key.new.self)
    c.in_ok-text-2.text.now c.args.kind (ap (slice_get c.args.path.now) end ∙ c.in_ok-text-2.ensures)
    (omega (arith, end)) c.in_ok-append_key.ensures.appended
