-- An insert that adds a line to a table which dotted keys make adds the same one after a rename made its own change
-- elsewhere.
--
-- The insert's path is apart from the renamed one and from its new one, and so is each of its prefixes. So the same is
-- said of these as before, its holder has no header as before (RenamedEnds), and the same lines lead through it
-- (RenamedLeads). So the insert adds its line at the moved place, or right before the change (DottedBeside).
--
-- Theorems: `dotted_after_rename`; `dotted_before_rename`: right before the key.
use Rattle.std.proofs.Common.{◌≡◌, ℕ, suc, List, ◌∷◌, map, sym, ap, subst, ◌∙◌, Option, None, true}
use Rattle.keep_types.specs.declared.leaf.Profile.{Profile}
use Rattle.keep_syntax.specs.Tree.{Document, Value}
use Rattle.keep_path.specs.Path.{Part, beside, key, strip}
use Rattle.keep_meaning.specs.Meaning.{mentions_in}
use Rattle.keep_edit_spec.specs.AddedLines.{first_new}
use Rattle.keep_edit_spec.specs.Changed.{Changed}
use Rattle.keep_edit_spec.specs.ClearedLines.{line_start}
use Rattle.keep_edit_spec.specs.DottedLines.{AddsDotted, StillAdds}
use Rattle.keep_edit_spec.specs.Edits.{changed_or_same, edited_document, rename}
use Rattle.keep_edit_spec.specs.Laws.{IsEditable}
use Rattle.keep_edit_spec.specs.Lines.{newline_of}
use Rattle.keep_edit_spec.specs.Look.{holder}
use Rattle.keep_edit_spec.specs.RenamedKeys.{RenamesKey}
use Rattle.keep_edit_spec.specs.Runs.{AreApart}
use Rattle.keep_edit_spec.specs.TextChanges.{TextChange, moved, moved_by}
use Rattle.keep_edit_spec.proofs.Common.DoneAtValue.{EachOf}
use Rattle.keep_edit_spec.proofs.Lists.DottedBeside.{dotted_beside, next_moves, next_stays}
use Rattle.keep_edit_spec.proofs.Lists.DottedKinds.{DottedAfterRename, DottedBeforeRename}
use Rattle.keep_edit_spec.proofs.Lists.LineStarts.{LinesBegin, rename_lines_begin}
use Rattle.keep_edit_spec.proofs.Lists.NewHolder.{new_clear}
use Rattle.keep_edit_spec.proofs.Lists.RenameAllowed.{kinds_stay}
use Rattle.keep_edit_spec.proofs.Lists.RenamePlaces.{IsChangeAt, change_at, placed}
use Rattle.keep_edit_spec.proofs.Lists.RenamedEnds.{end_renamed}
use Rattle.keep_edit_spec.proofs.Lists.RenamedLeads.{renamed_led}
use Rattle.keep_edit_spec.proofs.Lists.RenamedReads.{renamed_page}
use Rattle.keep_edit_spec.proofs.Lists.SetAllowed.{prefix_clear}
use Rattle.keep_edit_spec.proofs.Lists.TextChanges.{behind, unmoved}
use Rattle.keep_edit_spec.proofs.Rename.RenameNodes.{IsNodeRenamed, nodes_renamed}
use Rattle.keep_edit_spec.proofs.Rename.RenameWhole.{rename_whole}

-- where the next line begins then, as this change moves it
dotted_by_rename : (profile : Profile) (limit : ℕ) (s : Document) (path : List Part) (name : List ℕ) (c : TextChange)
    (other : List Part) (more : Value) (d : TextChange) → IsEditable profile limit s
    → RenamesKey profile limit s path name c → (k : AddsDotted profile limit s other more d)
    → AreApart path (first_new s other) → AreApart (beside path name) (first_new s other)
    → newline_of (edited_document s (rename path name)) ≡ newline_of s → (e : TextChange)
    → ((x : Changed Document) → LinesBegin s x → IsChangeAt c x → line_start x.to (suc k.number) ≡ moved_by e d.at)
    → StillAdds true profile limit s (edited_document s (rename path name)) other more (moved e d)
dotted_by_rename profile limit s path name c other more d fine h k apart apart_new newline e next =
    let b : List Part = beside path name in
    let a : List Part = holder other (mentions_in s) in
    let r = rename_whole profile limit s path name fine.valid fine.obeys h.utf8 h.allowed in
    let x : Changed Document = r.changed in
    let to : edited_document s (rename path name) ≡ x.to =
    ap (λ (o : Option (Changed Document)). (changed_or_same s o).to) r.is in
    let renamed : IsNodeRenamed path b s x.to =
    subst (IsNodeRenamed path b s) to
    (nodes_renamed profile limit s path name fine.valid fine.obeys h.utf8 h.allowed) in
    let clear : strip path other ≡ None = new_clear s other k.text k.more k.new path apart in
    let clear_new : strip b other ≡ None = new_clear s other k.text k.more k.new b apart_new in
    let clear_holder : strip path a ≡ None = prefix_clear path other a (map key (k.text ∷ k.more)) clear k.new in
    let clear_new_holder : strip b a ≡ None = prefix_clear b other a (map key (k.text ∷ k.more)) clear_new k.new in
    let begin : LinesBegin s x = subst (EachOf (LinesBegin s)) r.is (rename_lines_begin s path name) in
    subst (λ (t : Document). StillAdds true profile limit s t other more (moved e d)) (sym to)
    (dotted_beside profile limit s x begin other more d k e
    (next x begin (change_at c x (placed s (rename path name) x c r.is h.is)))
    (ap newline_of (sym to) ∙ newline)
    (λ q rest is.
    kinds_stay path b s x.to renamed q (prefix_clear path other q rest clear is)
    (prefix_clear b other q rest clear_new is))
    (end_renamed path b s x.to a r.by_line renamed.clear clear_holder clear_new_holder)
    (renamed_led name path a s x
    (renamed_page profile limit s path name a x fine h.utf8 h.allowed clear_holder clear_new_holder r.is)))

pub dotted_after_rename : DottedAfterRename
dotted_after_rename profile limit s path name c other more d fine h k apart apart_new side newline far =
    dotted_by_rename profile limit s path name c other more d fine h k apart apart_new newline c
    (λ x begin there. next_moves profile limit s other more d k x c begin there h.some side)

pub dotted_before_rename : DottedBeforeRename
dotted_before_rename profile limit s path name c other more d fine h k apart apart_new starts newline =
    subst
    (λ (i : ℕ). StillAdds true profile limit s (edited_document s (rename path name)) other more (record d { at = i }))
    (unmoved d.at)
    (dotted_by_rename profile limit s path name c other more d fine h k apart apart_new newline (behind d.at)
    (λ x begin there. next_stays profile limit s other more d k x c begin there h.some starts))
