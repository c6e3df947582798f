-- An insert that adds a line to a table which dotted keys make adds the same one after a set made its change elsewhere.
--
-- The set leaves what is said of the other path and its prefixes, the ends of bodies, and the keys of all lines
-- (SetLeaves). So the insert adds its line at the moved place, or right before the change (DottedBeside).
--
-- Theorems: `dotted_after_set`; `dotted_before_set`: right before the value.
use Rattle.std.proofs.Common.{◌≡◌, ℕ, suc, List, sym, ap, subst, ◌∙◌, Option, None, true}
use Rattle.keep_types.specs.declared.leaf.Profile.{Profile}
use Rattle.keep_syntax.specs.Tree.{Document, Value}
use Rattle.keep_path.specs.Path.{Part, strip}
use Rattle.keep_meaning.specs.Meaning.{mentions_in}
use Rattle.keep_edit_spec.specs.AddedLines.{first_new}
use Rattle.keep_edit_spec.specs.Changed.{Changed}
use Rattle.keep_edit_spec.specs.ClearedLines.{line_start}
use Rattle.keep_edit_spec.specs.DottedLines.{AddsDotted, StillAdds}
use Rattle.keep_edit_spec.specs.Edits.{changed_or_same, edited_document, set}
use Rattle.keep_edit_spec.specs.Laws.{IsEditable, IsLawfulEdit}
use Rattle.keep_edit_spec.specs.Lines.{newline_of}
use Rattle.keep_edit_spec.specs.Look.{holder}
use Rattle.keep_edit_spec.specs.Runs.{AreApart}
use Rattle.keep_edit_spec.specs.SetValues.{SetsValue}
use Rattle.keep_edit_spec.specs.TextChanges.{TextChange, moved, moved_by}
use Rattle.keep_edit_spec.proofs.EditLaws.{set_lawful}
use Rattle.keep_edit_spec.proofs.Common.DoneAtValue.{EachOf}
use Rattle.keep_edit_spec.proofs.Common.Marks.{rules_of_document}
use Rattle.keep_edit_spec.proofs.Lists.DottedBeside.{dotted_beside, next_moves, next_stays}
use Rattle.keep_edit_spec.proofs.Lists.DottedKinds.{DottedAfterSet, DottedBeforeSet}
use Rattle.keep_edit_spec.proofs.Lists.LineStarts.{LinesBegin, set_lines_begin}
use Rattle.keep_edit_spec.proofs.Lists.NewHolder.{new_clear}
use Rattle.keep_edit_spec.proofs.Lists.RenamePlaces.{IsChangeAt, change_at, placed}
use Rattle.keep_edit_spec.proofs.Lists.SetAllowed.{prefix_clear}
use Rattle.keep_edit_spec.proofs.Lists.SetLeaves.{set_ends, set_kinds, set_led}
use Rattle.keep_edit_spec.proofs.Lists.TextChanges.{behind, unmoved}

-- where the next line begins then, as this change moves it
dotted_by_set : (profile : Profile) (limit : ℕ) (s : Document) (path : List Part) (value : Value) (c : TextChange)
    (other : List Part) (more : Value) (d : TextChange) → IsEditable profile limit s
    → SetsValue profile limit s path value c → (k : AddsDotted profile limit s other more d)
    → AreApart path (first_new s other) → newline_of (edited_document s (set path value)) ≡ newline_of s
    → (e : TextChange)
    → ((x : Changed Document) → LinesBegin s x → IsChangeAt c x → line_start x.to (suc k.number) ≡ moved_by e d.at)
    → StillAdds true profile limit s (edited_document s (set path value)) other more (moved e d)
dotted_by_set profile limit s path value c other more d fine h k apart newline e next =
    let law : IsLawfulEdit profile limit s (set path value) =
    set_lawful profile limit s path value fine h.given h.allowed in
    let x : Changed Document = law.changed in
    let to : x.to ≡ edited_document s (set path value) =
    ap (λ (o : Option (Changed Document)). (changed_or_same s o).to) (sym law.is) in
    let a : List Part = holder other (mentions_in s) in
    let clear : strip path other ≡ None = new_clear s other k.text k.more k.new path apart in
    let begin : LinesBegin s x = subst (EachOf (LinesBegin s)) law.is (set_lines_begin s path value) in
    subst (λ (t : Document). StillAdds true profile limit s t other more (moved e d)) to
    (dotted_beside profile limit s x begin other more d k e
    (next x begin (change_at c x (placed s (set path value) x c law.is h.is))) (ap newline_of to ∙ newline)
    (λ q rest is.
    set_kinds s path value x (rules_of_document s fine.obeys) law.is q (prefix_clear path other q rest clear is))
    (set_ends s path value x law.is a) (set_led s path value x law.is a))

pub dotted_after_set : DottedAfterSet
dotted_after_set profile limit s path value c other more d fine h k apart side newline far =
    dotted_by_set profile limit s path value c other more d fine h k apart newline c
    (λ x begin there. next_moves profile limit s other more d k x c begin there h.some side)

pub dotted_before_set : DottedBeforeSet
dotted_before_set profile limit s path value c other more d fine h k apart starts newline =
    subst
    (λ (i : ℕ). StillAdds true profile limit s (edited_document s (set path value)) other more (record d { at = i }))
    (unmoved d.at)
    (dotted_by_set profile limit s path value c other more d fine h k apart newline (behind d.at)
    (λ x begin there. next_stays profile limit s other more d k x c begin there h.some starts))
