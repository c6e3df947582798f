use Rattle.std.proofs.Common.{refl, ◌∙◌}
use Rattle.std.proofs.lemmas.Result.{err_from_is_err_and}
use Rattle.keep_edit_plan.proofs.Shared.{text_seen, seen, value_nested, value_there}
use Rattle.keep_edit.proofs.PathLaws.{got, not_got}
use Rattle.keep_edit.proofs.document.Document.get.Goals as goal

pub returns-in_err-number-clause-got : goal.returns-in_err-number-clause-got
returns-in_err-number-clause-got c = λ s read.
    let p = err_from_is_err_and c.from_residual.result c.from_residual.ensures.1 in
    rw (p.1, p.2) (not_got _ _ s _ read ((rw c.as_ref.ensures at c.in_err-number.ensures) s read))

pub value-requires : goal.value-requires
value-requires c =
    let h = seen c.self.view_is c.self.invariant in
    value_nested _ _ _ _ h.tree _ h h.read ((rw c.as_ref.ensures at c.in_ok-number.ensures) h.tree h.read)

pub part_at-requires : goal.part_at-requires
part_at-requires c =
    let h = seen c.self.view_is c.self.invariant in
    rw (c.as_str-text.ensures.value, text_seen c.self.view_is)
    (value_there _ _ _ _ h.tree _ h h.read ((rw c.as_ref.ensures at c.in_ok-number.ensures) h.tree h.read) _
    c.value.ensures.stored).span

pub returns-clause-got : goal.returns-clause-got
returns-clause-got c = λ s read.
    let h = seen c.self.view_is c.self.invariant in
    got _ _ s _ _ _ read (value_there _ _ _ _ s _ h read ((rw c.as_ref.ensures at c.in_ok-number.ensures) s read) _
    c.value.ensures.stored) (c.part_at.ensures ∙ rw (c.as_str-text.ensures.value, text_seen c.self.view_is) refl)
