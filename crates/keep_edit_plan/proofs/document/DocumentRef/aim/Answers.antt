use Rattle.std.proofs.Common.{sym, ◌∙◌}
use Rattle.std.proofs.lemmas.Result.{err_from_is_err_and}
use Rattle.keep_edit_plan.proofs.AnswerLaws.{seen}
use Rattle.keep_edit_plan.proofs.RenameLaws.{node_test}
use Rattle.keep_edit_plan.proofs.FoundLaws.{none_unless}
use Rattle.keep_edit_plan.proofs.InsertionLaws.{item_aimed, item_unaimed, item_of, exists_there, no_index_there}
use Rattle.keep_edit_plan.proofs.InsertionLaws.{keyval_aimed, keyval_unaimed}
use Rattle.keep_edit_plan.proofs.document.DocumentRef.aim.Goals as goal

pub item_spot-requires : goal.item_spot-requires
item_spot-requires c =
    let (s, read, held) = c.requires in
    let at = sym (c.item_number.ensures s read held) ∙ c.in-Some.is in
    (c.args.path.now, s, read, item_of _ s _ at _ held)

pub returns-in_err-spot : goal.returns-in_err-spot
returns-in_err-spot c = λ s read held.
    let at = sym (c.item_number.ensures s read held) ∙ c.in-Some.is in
    let p = err_from_is_err_and c.from_residual.result c.from_residual.ensures.1 in
    rw (p.1, p.2) (item_unaimed _ s _ at _ (c.in_err-spot.ensures _ s read (item_of _ s _ at _ held)))

pub returns-in-Some : goal.returns-in-Some
returns-in-Some c = λ s read held.
    let at = sym (c.item_number.ensures s read held) ∙ c.in-Some.is in
    item_aimed _ s _ at _ _ c.len.ensures.count
    (rw c.in_ok-spot.was at c.item_spot.ensures _ s read (item_of _ s _ at _ held))

pub returns-then-is_some : goal.returns-then-is_some
returns-then-is_some c = λ s read held.
    let none = sym (c.item_number.ensures s read held) ∙ none_unless _ c.in_default.not-Some in
    let node =
    node_test _ _ _ c.args.path.now s (seen c.self.view_is c.self.invariant) read c.find.result c.find.ensures.found
    ∙ sym c.is_some.ensures ∙ c.if-is_some.true in
    exists_there _ s none node

pub returns-then-has_index : goal.returns-then-has_index
returns-then-has_index c = λ s read held.
    let none = sym (c.item_number.ensures s read held) ∙ none_unless _ c.in_default.not-Some in
    let node =
    node_test _ _ _ c.args.path.now s (seen c.self.view_is c.self.invariant) read c.find.result c.find.ensures.found
    ∙ sym c.is_some.ensures ∙ c.if-is_some.false in
    no_index_there _ s none _ held node c.if-has_index.ensures

pub returns-in_err-spot-2 : goal.returns-in_err-spot-2
returns-in_err-spot-2 c = λ s read held.
    let none = sym (c.item_number.ensures s read held) ∙ none_unless _ c.in_default.not-Some in
    let node =
    node_test _ _ _ c.args.path.now s (seen c.self.view_is c.self.invariant) read c.find.result c.find.ensures.found
    ∙ sym c.is_some.ensures ∙ c.if-is_some.false in
    let p = err_from_is_err_and c.from_residual-in_err-spot-2.result c.from_residual-in_err-spot-2.ensures.1 in
    rw (p.1, p.2) (keyval_unaimed _ s none _ held node _ c.if-has_index.ensures (c.in_err-spot-2.ensures _ s read held))

pub returns : goal.returns
returns c = λ s read held.
    let none = sym (c.item_number.ensures s read held) ∙ none_unless _ c.in_default.not-Some in
    let node =
    node_test _ _ _ c.args.path.now s (seen c.self.view_is c.self.invariant) read c.find.result c.find.ensures.found
    ∙ sym c.is_some.ensures ∙ c.if-is_some.false in
    keyval_aimed _ s none _ held node _ c.if-has_index.ensures
    (rw c.in_ok-spot-2.was at c.keyval_spot.ensures _ s read held)
