use Rattle.std.proofs.Common.{◌∙◌, ap}
use Rattle.keep_meaning.specs.KeyText.{text_at}
use Rattle.keep_edit_plan.proofs.Shared.{text_seen, seen, value_nested, value_there}
use Rattle.keep_edit.proofs.ScalarLaws.{value_at, number_of_some, integer_found, no_integer_leaf, no_integer_found}
use Rattle.keep_edit.proofs.document.Document.int_value.Goals as goal

pub value-value-requires : goal.value-value-requires
value-value-requires c =
    let h = seen c.self.view_is c.self.invariant in
    value_nested _ _ _ c.args.path.now h.tree c.in_ok-number.number h h.read
    (number_of_some c.args.path.now h.tree c.value_number.result c.ok.result c.in_ok-number.number c.ok.ensures.value
    (c.in_ok-number.was) ((rw c.as_ref.ensures at c.value_number.ensures) h.tree h.read))

pub part_at-requires : goal.part_at-requires
part_at-requires c =
    let h = seen c.self.view_is c.self.invariant in
    let found =
    number_of_some c.args.path.now h.tree c.value_number.result c.ok.result c.in_ok-number.number c.ok.ensures.value
    (c.in_ok-number.was) ((rw c.as_ref.ensures at c.value_number.ensures) h.tree h.read) in
    rw (c.as_str-text.ensures.value, text_seen c.self.view_is)
    (value_there _ _ _ c.args.path.now h.tree c.in_ok-number.number h h.read found c.value-value.result
    c.value-value.ensures.stored).span

pub returns-in_err-number-clause-integer : goal.returns-in_err-number-clause-integer
returns-in_err-number-clause-integer c = λ s read.
    c.from_residual.ensures
    ∙ no_integer_found c.args.path.now s c.value_number.result c.ok.result c.ok.ensures.value (c.in_err-number.was)
    ((rw c.as_ref.ensures at c.value_number.ensures) s read)

pub returns-in-Integer-clause-integer : goal.returns-in-Integer-clause-integer
returns-in-Integer-clause-integer c = λ s read.
    let found =
    number_of_some c.args.path.now s c.value_number.result c.ok.result c.in_ok-number.number c.ok.ensures.value
    (c.in_ok-number.was) ((rw c.as_ref.ensures at c.value_number.ensures) s read) in
    let at =
    value_at _ _ _ s c.args.path.now c.in_ok-number.number c.value-value.result (seen c.self.view_is c.self.invariant)
    read found c.value-value.ensures.stored in
    integer_found c.args.self.now c.part_at.result.now c.args.path.now s c.in_ok-number.number c.value-value.result
    c.integer_of.result at c.in-Integer.is
    (c.part_at.ensures
    ∙ ap (λ bytes. text_at bytes c.value-value.result.span) (c.as_str-text.ensures.value ∙ text_seen c.self.view_is))
    c.integer_of.ensures.found c.integer_of.ensures.value

pub returns-in_default-clause-integer : goal.returns-in_default-clause-integer
returns-in_default-clause-integer c = λ s read.
    let found =
    number_of_some c.args.path.now s c.value_number.result c.ok.result c.in_ok-number.number c.ok.ensures.value
    (c.in_ok-number.was) ((rw c.as_ref.ensures at c.value_number.ensures) s read) in
    let at =
    value_at _ _ _ s c.args.path.now c.in_ok-number.number c.value-value.result (seen c.self.view_is c.self.invariant)
    read found c.value-value.ensures.stored in
    no_integer_leaf _ c.args.path.now s c.in_ok-number.number c.value-value.result at c.in_default.not-Integer
