-- An insert that brings the header of its table brings the same after a rename made its own change elsewhere.
--
-- The insert's path is apart from the renamed one and from its new one, and so is each of its prefixes. So the same is
-- said of these as before. Its table has no header as before, the same headers go through it, and bodies end where they
-- did (RenamedEnds); and the same lines lead through it by their own keys (RenamedLeads). So the insert brings the
-- header at the moved place (BroughtBeside).
--
-- Theorem: `brought_after_rename`.
use Rattle.std.proofs.Common.{◌≡◌, List, ◌∷◌, map, sym, ap, subst, ◌∙◌, Option, None}
use Rattle.keep_syntax.specs.Tree.{Document}
use Rattle.keep_path.specs.Path.{Part, beside, key, strip}
use Rattle.keep_meaning.specs.Marks.{start}
use Rattle.keep_meaning.specs.Meaning.{lines, mentions_in}
use Rattle.keep_edit_spec.specs.BroughtHeaders.{StillBrings}
use Rattle.keep_edit_spec.specs.Changed.{Changed}
use Rattle.keep_edit_spec.specs.Edits.{changed_or_same, edited_document, rename}
use Rattle.keep_edit_spec.specs.Lines.{newline_of}
use Rattle.keep_edit_spec.specs.Look.{holder}
use Rattle.keep_edit_spec.specs.TextChanges.{moved}
use Rattle.keep_edit_spec.proofs.Common.DoneAtValue.{EachOf}
use Rattle.keep_edit_spec.proofs.Lists.BroughtBeside.{brought_beside}
use Rattle.keep_edit_spec.proofs.Lists.BroughtKinds.{BroughtAfterRename}
use Rattle.keep_edit_spec.proofs.Lists.LedAlike.{last_alike}
use Rattle.keep_edit_spec.proofs.Lists.LineStarts.{LinesBegin, rename_lines_begin}
use Rattle.keep_edit_spec.proofs.Lists.NewHolder.{new_clear}
use Rattle.keep_edit_spec.proofs.Lists.RenameAllowed.{kinds_stay}
use Rattle.keep_edit_spec.proofs.Lists.RenamePlaces.{change_at, placed}
use Rattle.keep_edit_spec.proofs.Lists.RenamedEnds.{bodies_renamed, end_renamed, through_renamed}
use Rattle.keep_edit_spec.proofs.Lists.RenamedLeads.{renamed_led}
use Rattle.keep_edit_spec.proofs.Lists.RenamedReads.{renamed_page}
use Rattle.keep_edit_spec.proofs.Lists.SetAllowed.{prefix_clear}
use Rattle.keep_edit_spec.proofs.Rename.RenameNodes.{IsNodeRenamed, nodes_renamed}
use Rattle.keep_edit_spec.proofs.Rename.RenameWhole.{rename_whole}

pub brought_after_rename : BroughtAfterRename
brought_after_rename profile limit s path name c other more d fine h k apart apart_new side newline far =
    let b : List Part = beside path name in
    let a : List Part = holder other (mentions_in s) in
    let r = rename_whole profile limit s path name fine.valid fine.obeys h.utf8 h.allowed in
    let x : Changed Document = r.changed in
    let to : edited_document s (rename path name) ≡ x.to =
    ap (λ (o : Option (Changed Document)). (changed_or_same s o).to) r.is in
    let renamed : IsNodeRenamed path b s x.to =
    subst (IsNodeRenamed path b s) to
    (nodes_renamed profile limit s path name fine.valid fine.obeys h.utf8 h.allowed) in
    let clear : strip path other ≡ None = new_clear s other k.text k.more k.new path apart in
    let clear_new : strip b other ≡ None = new_clear s other k.text k.more k.new b apart_new in
    let clear_holder : strip path a ≡ None = prefix_clear path other a (map key (k.text ∷ k.more)) clear k.new in
    let clear_new_holder : strip b a ≡ None = prefix_clear b other a (map key (k.text ∷ k.more)) clear_new k.new in
    subst (λ (t : Document). StillBrings profile limit s t other more (moved c d)) (sym to)
    (brought_beside profile limit s x c (subst (EachOf (LinesBegin s)) r.is (rename_lines_begin s path name))
    (change_at c x (placed s (rename path name) x c r.is h.is)) h.some other more d k side
    (ap newline_of (sym to) ∙ newline)
    (λ q rest is.
    kinds_stay path b s x.to renamed q (prefix_clear path other q rest clear is)
    (prefix_clear b other q rest clear_new is))
    (record {
      ends = end_renamed path b s x.to a r.by_line renamed.clear clear_holder clear_new_holder;
      dotted = last_alike a start start (lines s) (lines x.to)
          (renamed_led name path a s x
          (renamed_page profile limit s path name a x fine h.utf8 h.allowed clear_holder clear_new_holder r.is));
      through = through_renamed path b s x.to a r.by_line renamed.clear clear_holder clear_new_holder;
      bodies = bodies_renamed path b s x.to r.by_line renamed.clear;
    }))
