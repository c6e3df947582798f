-- A remove that takes a table or an element with its header takes the same bytes after a set made its change elsewhere.
--
-- The set leaves what is said of its path, the last line that begins its body, and the line at which that ends
-- (SetLeaves). So it goes from the moved place (TakenBeside).
--
-- Theorem: `taken_after_set`.
use Rattle.std.proofs.Common.{◌≡◌, subst}
use Rattle.keep_syntax.specs.Tree.{Document}
use Rattle.keep_edit_spec.specs.Changed.{Changed}
use Rattle.keep_edit_spec.specs.Edits.{set}
use Rattle.keep_edit_spec.specs.Laws.{IsLawfulEdit}
use Rattle.keep_edit_spec.specs.Values.{replacement}
use Rattle.keep_edit_spec.proofs.EditLaws.{set_lawful}
use Rattle.keep_edit_spec.proofs.Common.DoneAtValue.{EachOf}
use Rattle.keep_edit_spec.proofs.Common.Marks.{rules_of_document}
use Rattle.keep_edit_spec.proofs.Common.SetLaw.{EachTo}
use Rattle.keep_edit_spec.proofs.Lists.HeaderLines.{last_blank}
use Rattle.keep_edit_spec.proofs.Lists.LineStarts.{LinesBegin, set_lines_begin}
use Rattle.keep_edit_spec.proofs.Lists.RenamePlaces.{change_at, placed}
use Rattle.keep_edit_spec.proofs.Lists.SetLeaves.{set_begins, set_ends, set_kinds}
use Rattle.keep_edit_spec.proofs.Lists.TakenAgain.{its}
use Rattle.keep_edit_spec.proofs.Lists.TakenBeside.{nested_last, taken_beside}
use Rattle.keep_edit_spec.proofs.Lists.TakenKinds.{TakenAfterSet}

pub taken_after_set : TakenAfterSet
taken_after_set profile limit s path value c other d fine h k apart side =
    let law : IsLawfulEdit profile limit s (set path value) =
    set_lawful profile limit s path value fine h.given h.allowed in
    let x : Changed Document = law.changed in
    taken_beside profile limit s (set path value) c other d fine law k
    (subst (EachOf (LinesBegin s)) law.is (set_lines_begin s path value))
    (change_at c x (placed s (set path value) x c law.is h.is)) h.some side
    (subst (EachTo (λ (t : Document). t.last ≡ s.last)) law.is
    (nested_last path s (last_blank profile s fine.valid (its profile limit s other d fine k).closed)
    (replacement value)))
    (set_kinds s path value x (rules_of_document s fine.obeys) law.is other apart.0)
    (set_begins s path value x law.is other) (set_ends s path value x law.is other)
