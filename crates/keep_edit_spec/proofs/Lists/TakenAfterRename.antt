-- A remove that takes a table or an element with its header takes the same bytes after a rename made its change
-- elsewhere.
--
-- Its path is apart from the renamed one and from its new one. So the same is said of it as before (RenameAllowed), the
-- same line is the last that begins its body, and that ends at the same line (RenamedEnds). So it goes from the moved
-- place (TakenBeside).
--
-- Theorem: `taken_after_rename`.
use Rattle.std.proofs.Common.{◌≡◌, List, sym, ap, subst, ◌∙◌, Option}
use Rattle.keep_syntax.specs.Tree.{Document}
use Rattle.keep_path.specs.Path.{Part, beside}
use Rattle.keep_edit_spec.specs.Changed.{Changed}
use Rattle.keep_edit_spec.specs.Edits.{changed_or_same, edited_document, rename}
use Rattle.keep_edit_spec.specs.Laws.{IsLawfulEdit}
use Rattle.keep_edit_spec.proofs.EditLaws.{rename_lawful}
use Rattle.keep_edit_spec.proofs.Common.DoneAtValue.{EachOf}
use Rattle.keep_edit_spec.proofs.Common.SetLaw.{EachTo}
use Rattle.keep_edit_spec.proofs.Lists.HeaderLines.{last_blank}
use Rattle.keep_edit_spec.proofs.Lists.LineStarts.{LinesBegin, rename_lines_begin}
use Rattle.keep_edit_spec.proofs.Lists.RenameAllowed.{kinds_stay}
use Rattle.keep_edit_spec.proofs.Lists.RenamePlaces.{change_at, placed}
use Rattle.keep_edit_spec.proofs.Lists.RenamedEnds.{begins_renamed, end_renamed}
use Rattle.keep_edit_spec.proofs.Lists.TakenAgain.{its}
use Rattle.keep_edit_spec.proofs.Lists.TakenBeside.{rename_last, taken_beside}
use Rattle.keep_edit_spec.proofs.Lists.TakenKinds.{TakenAfterRename}
use Rattle.keep_edit_spec.proofs.Rename.RenameMoves.{IsMovedTo}
use Rattle.keep_edit_spec.proofs.Rename.RenameNodes.{IsNodeRenamed, nodes_renamed}
use Rattle.keep_edit_spec.proofs.Rename.RenameWhole.{IsRenamedWhole, rename_whole}

pub taken_after_rename : TakenAfterRename
taken_after_rename profile limit s path name c other d fine h k apart fresh side =
    let b : List Part = beside path name in
    let law : IsLawfulEdit profile limit s (rename path name) =
    rename_lawful profile limit s path name fine h.utf8 h.allowed in
    let x : Changed Document = law.changed in
    let to : edited_document s (rename path name) ≡ x.to =
    ap (λ (o : Option (Changed Document)). (changed_or_same s o).to) law.is in
    let renamed : IsNodeRenamed path b s x.to =
    subst (IsNodeRenamed path b s) to
    (nodes_renamed profile limit s path name fine.valid fine.obeys h.utf8 h.allowed) in
    let whole : IsRenamedWhole profile s path name =
    rename_whole profile limit s path name fine.valid fine.obeys h.utf8 h.allowed in
    let lines_moved : IsMovedTo path b s x.to =
    subst (IsMovedTo path b s)
    (sym (ap (λ (o : Option (Changed Document)). (changed_or_same s o).to) whole.is) ∙ to) whole.by_line in
    taken_beside profile limit s (rename path name) c other d fine law k
    (subst (EachOf (LinesBegin s)) law.is (rename_lines_begin s path name))
    (change_at c x (placed s (rename path name) x c law.is h.is)) h.some side
    (subst (EachTo (λ (t : Document). t.last ≡ s.last)) law.is
    (rename_last path s (last_blank profile s fine.valid (its profile limit s other d fine k).closed) name))
    (kinds_stay path b s x.to renamed other apart.0 fresh.0)
    (begins_renamed path b s x.to other lines_moved renamed.clear apart.0 fresh.0)
    (end_renamed path b s x.to other lines_moved renamed.clear apart.0 fresh.0)
