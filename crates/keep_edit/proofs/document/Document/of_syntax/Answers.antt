use Rattle.std.proofs.lemmas.Result.{err_from_is_err_and}
use Rattle.keep_edit.proofs.ReadLaws.{holds, no_index, read_once}
use Rattle.keep_edit_runs.proofs.Shared.{was_read}
use Rattle.keep_edit.proofs.document.Document.of_syntax.Goals as goal

pub build-requires : goal.build-requires
build-requires c =
    let h = c.requires in
    rw c.as_str.ensures.value (h.tree, was_read h.reads h.is)

pub returns-in_err-index-clause-only : goal.returns-in_err-index-clause-only
returns-in_err-index-clause-only c = λ (s, read).
    let p = err_from_is_err_and c.from_residual.result c.from_residual.ensures.1 in
    rw (p.1, p.2) (c.in_err-index.ensures.read s (rw c.as_str.ensures.value (read_once c.requires read)) read.obeys)

pub returns-in_err-index-clause-faults : goal.returns-in_err-index-clause-faults
returns-in_err-index-clause-faults c =
    let p = err_from_is_err_and c.from_residual.result c.from_residual.ensures.1 in
    rw (
      p.1,
      p.2,
    ) (no_index c.args.profile _ _ _ (rw c.as_str.ensures.value at c.as_str.utf8) c.requires
    (rw c.as_str.ensures.value at c.in_err-index.ensures.faults))

pub invariant_of-result : goal.invariant_of-result
invariant_of-result c =
    holds c.args.profile _ _ _ (rw c.as_str.ensures.value at c.as_str.utf8) c.requires
    (rw c.as_str.ensures.value at c.in_ok-index.ensures.ok)

pub returns-clause-accepted : goal.returns-clause-accepted
returns-clause-accepted c =
    let h = holds c.args.profile _ _ _ (rw c.as_str.ensures.value at c.as_str.utf8) c.requires
    (rw c.as_str.ensures.value at c.in_ok-index.ensures.ok) in
    (h.tree, h.read)
