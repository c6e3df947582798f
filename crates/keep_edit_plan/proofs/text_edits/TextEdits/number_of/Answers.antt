-- The edit with this number has the place and the text that are looked for, so its change is the same.
use Rattle.std.proofs.Common.{◌≡◌, ℕ, ◌-◌, List, Some, arith, ap, ap₂, option_map, slice_get, string_bytes, sym}
use Rattle.std.proofs.Common.{◌∙◌}
use Rattle.std.proofs.lemmas.Option.{slice_get-get_or, slice_get-map}
use Rattle.std.proofs.lemmas.Slice.Eq.{bytes_eq-Decides}
use Rattle.keep_edit_spec.specs.TextChanges.{TextChange, change_at}
use Rattle.keep_edit_plan.specs.declared.text_edit.TextEdit.{TextEdit}
use Rattle.keep_edit_plan.specs.TextEdits.{change_of}
use Rattle.keep_edit_plan.proofs.text_edits.TextEdits.number_of.Goals as goal

same_change : (t e : TextEdit) → t.place.start ≡ e.place.start → t.place.end ≡ e.place.end
    → string_bytes t.new ≡ string_bytes e.new → change_of t ≡ change_of e
same_change t e starts ends new =
    ap (λ (n : ℕ). change_at n (t.place.end - n) (string_bytes t.new)) starts
    ∙ ap₂ (λ (n : ℕ) (w : List ℕ). change_at e.place.start (n - e.place.start) w) ends new

pub returns-then-eq : goal.returns-then-eq
returns-then-eq c =
    let edits = c.self.inside.edits.items in
    let number = c.loop-number.number in
    let there = c.index-other.result.now in
    let edit = c.args.edit.now in
    let new : string_bytes there.new ≡ string_bytes edit.new =
    sym c.as_str.ensures.value
    ∙ (bytes_eq-Decides c.as_str.result.now c.as_str-then-other-end.result.now).0 (sym c.eq.ensures ∙ c.if-eq.true)
    ∙ c.as_str-then-other-end.ensures.value in
    ap (λ (changes : List TextChange). slice_get changes number) (sym c.self.view_is)
    ∙ slice_get-map change_of edits number
    ∙ ap (option_map change_of)
    (slice_get-get_or edits number there (omega (arith, c.loop-number-test.true, c.len-number-end.ensures)))
    ∙ ap (λ (t : TextEdit). Some (change_of t)) (sym c.index-other.ensures)
    ∙ ap (λ (x : TextChange). Some x) (same_change there edit c.if-other-start.false c.if-other-end.true new)
