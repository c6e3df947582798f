-- An insert that brings the header of its table brings the same after a set made its change elsewhere.
--
-- The set leaves what is said of the other path and its prefixes, the ends of bodies, the headers, and the keys of all
-- lines (SetLeaves). So the insert brings the header at the moved place (BroughtBeside).
--
-- Theorem: `brought_after_set`.
use Rattle.std.proofs.Common.{◌≡◌, List, sym, ap, subst, ◌∙◌, Option, None}
use Rattle.keep_syntax.specs.Tree.{Document}
use Rattle.keep_path.specs.Path.{Part, strip}
use Rattle.keep_meaning.specs.Marks.{start}
use Rattle.keep_meaning.specs.Meaning.{lines, mentions_in}
use Rattle.keep_edit_spec.specs.BroughtHeaders.{StillBrings}
use Rattle.keep_edit_spec.specs.Changed.{Changed}
use Rattle.keep_edit_spec.specs.Edits.{changed_or_same, edited_document, set}
use Rattle.keep_edit_spec.specs.Laws.{IsLawfulEdit}
use Rattle.keep_edit_spec.specs.Lines.{newline_of}
use Rattle.keep_edit_spec.specs.Look.{holder}
use Rattle.keep_edit_spec.specs.TextChanges.{moved}
use Rattle.keep_edit_spec.proofs.EditLaws.{set_lawful}
use Rattle.keep_edit_spec.proofs.Common.DoneAtValue.{EachOf}
use Rattle.keep_edit_spec.proofs.Common.Marks.{rules_of_document}
use Rattle.keep_edit_spec.proofs.Lists.BroughtBeside.{brought_beside}
use Rattle.keep_edit_spec.proofs.Lists.BroughtKinds.{BroughtAfterSet}
use Rattle.keep_edit_spec.proofs.Lists.LedAlike.{last_alike}
use Rattle.keep_edit_spec.proofs.Lists.LineStarts.{LinesBegin, set_lines_begin}
use Rattle.keep_edit_spec.proofs.Lists.NewHolder.{new_clear}
use Rattle.keep_edit_spec.proofs.Lists.RenamePlaces.{change_at, placed}
use Rattle.keep_edit_spec.proofs.Lists.SetAllowed.{prefix_clear}
use Rattle.keep_edit_spec.proofs.Lists.SetLeaves.{set_bodies, set_ends, set_kinds, set_led, set_through}

pub brought_after_set : BroughtAfterSet
brought_after_set profile limit s path value c other more d fine h k apart side newline far =
    let law : IsLawfulEdit profile limit s (set path value) =
    set_lawful profile limit s path value fine h.given h.allowed in
    let x : Changed Document = law.changed in
    let to : x.to ≡ edited_document s (set path value) =
    ap (λ (o : Option (Changed Document)). (changed_or_same s o).to) (sym law.is) in
    let a : List Part = holder other (mentions_in s) in
    let clear : strip path other ≡ None = new_clear s other k.text k.more k.new path apart in
    subst (λ (t : Document). StillBrings profile limit s t other more (moved c d)) to
    (brought_beside profile limit s x c (subst (EachOf (LinesBegin s)) law.is (set_lines_begin s path value))
    (change_at c x (placed s (set path value) x c law.is h.is)) h.some other more d k side (ap newline_of to ∙ newline)
    (λ q rest is.
    set_kinds s path value x (rules_of_document s fine.obeys) law.is q (prefix_clear path other q rest clear is))
    (record {
      ends = set_ends s path value x law.is a;
      dotted = last_alike a start start (lines s) (lines x.to) (set_led s path value x law.is a);
      through = set_through s path value x law.is a;
      bodies = set_bodies s path value x law.is;
    }))
