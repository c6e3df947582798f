-- A header makes the same change at the end of the text after a rename made its change before that.
--
-- A rename leaves what is said of paths that are not at or below the old path or the new one (RenameAllowed), so of
-- each with first keys of a header that passes both by (`rename_lets`). So the header is written as before
-- (HeaderStays).
--
-- Theorems: `table_after_rename`, `element_after_rename`.
use Rattle.std.proofs.Common.{ℕ, List}
use Rattle.keep_types.specs.declared.leaf.Profile.{Profile}
use Rattle.keep_syntax.specs.Tree.{Document}
use Rattle.keep_path.specs.Path.{Part, beside}
use Rattle.keep_meaning.specs.Meaning.{mentions_in}
use Rattle.keep_edit_spec.specs.Edits.{edited_document, rename}
use Rattle.keep_edit_spec.specs.Laws.{IsEditable, IsLawfulEdit}
use Rattle.keep_edit_spec.specs.Runs.{PassesBy}
use Rattle.keep_edit_spec.proofs.Lists.TwoKinds.{ElementAfterRename, TableAfterRename}
use Rattle.keep_edit_spec.specs.RenamedKeys.{RenamesKey}
use Rattle.keep_edit_spec.specs.TextChanges.{TextChange}
use Rattle.keep_edit_spec.proofs.EditLaws.{rename_lawful}
use Rattle.keep_edit_spec.proofs.Lists.HeaderSaid.{LetsCome, passes_clear, same_lets}
use Rattle.keep_edit_spec.proofs.Lists.HeaderStays.{element_stays, table_stays}
use Rattle.keep_edit_spec.proofs.Lists.RenameAllowed.{kinds_stay}
use Rattle.keep_edit_spec.proofs.Rename.RenameNodes.{nodes_renamed}

rename_lets : (profile : Profile) (limit : ℕ) (s : Document) (path : List Part) (name : List ℕ) (c : TextChange)
    (more : List (List ℕ)) → IsEditable profile limit s → RenamesKey profile limit s path name c
    → PassesBy more path → PassesBy more (beside path name)
    → LetsCome (mentions_in s) (mentions_in (edited_document s (rename path name))) more
rename_lets profile limit s path name c more fine h passes clear =
    same_lets (mentions_in s) (mentions_in (edited_document s (rename path name))) more
    (λ q rest is. kinds_stay path (beside path name) s (edited_document s (rename path name))
    (nodes_renamed profile limit s path name fine.valid fine.obeys h.utf8 h.allowed) q
    (passes_clear more path q rest passes is) (passes_clear more (beside path name) q rest clear is))

pub table_after_rename : TableAfterRename
table_after_rename profile limit s path name c more d fine h k passes clear newline far =
    let law : IsLawfulEdit profile limit s (rename path name) =
    rename_lawful profile limit s path name fine h.utf8 h.allowed in
    table_stays profile limit s (rename path name) c more d fine law h.is
    newline (λ e. absurd (far e)) (rename_lets profile limit s path name c more fine h passes clear) k

pub element_after_rename : ElementAfterRename
element_after_rename profile limit s path name c more d fine h k passes clear newline far =
    let law : IsLawfulEdit profile limit s (rename path name) =
    rename_lawful profile limit s path name fine h.utf8 h.allowed in
    element_stays profile limit s (rename path name) c more d fine law h.is
    newline (λ e. absurd (far e)) (rename_lets profile limit s path name c more fine h passes clear) k
