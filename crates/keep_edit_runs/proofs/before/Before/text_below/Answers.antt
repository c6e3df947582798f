-- The insert writes its header and its line where no insert comes below the header there, and its line alone behind
-- others. The block with that number tells which it is.
use Rattle.std.proofs.Common.{◌≡◌, ◌∙◌, Global, List, Option, Some, String, ap, false, refl, rules}
use Rattle.std.proofs.Common.{slice_get, string_bytes, subst, sym, true, ℕ}
use Rattle.std.specs.Prelude.{Err, IfOk, IfSome, Ok, Result, is_some}
use Rattle.std.specs.Result.{result_ok}
use Rattle.std.specs.declared.alloc.AllocError.{AllocError}
use Rattle.keep_edit_spec.specs.declared.line_kind.LineKind.TheVariants.{WithHeader}
use Rattle.keep_edit_plan.specs.Reading.{ProfiledText}
use Rattle.keep_edit_plan.specs.declared.edit.Edit.{Edit}
use Rattle.keep_edit_plan.specs.declared.text_edit.TextEdit.{TextEdit}
use Rattle.keep_edit_runs.specs.KindsRun.{IsTextBelow}
use Rattle.keep_edit_runs.specs.Newlines.{IsNewlineOf, LeavesEndBy, LeavesEndHere}
use Rattle.keep_edit_runs.specs.Runs.{AddsLineAlone}
use Rattle.keep_edit_runs.specs.declared.at_once.RunEdit.{RunEdit}
use Rattle.keep_edit_runs.specs.declared.tail.Block.{Block}
use Rattle.keep_edit_runs.proofs.SameRuns.{blocks_in}
use Rattle.keep_edit_runs.proofs.before.Before.text_below.Goals as goal

module _ (now : ProfiledText) (blocks : List Block) (n : ℕ) (x : Edit) (made : RunEdit)
    (line_is : made.line ≡ Some WithHeader) (leaves : LeavesEndHere now (string_bytes made.change.new)) where
  first_there : (r : Result (String Global) AllocError)
      → ((b : Block) → slice_get blocks n ≡ Some b → false ≡ is_some b.table)
      → IfOk r (λ s. string_bytes s ≡ string_bytes made.change.new)
      → IfSome (result_ok r) (IsTextBelow now blocks n x made)
  first_there (Err e) none copied = tt
  first_there (Ok s) none copied = record {
    line = line_is;
    leaves = (subst (LeavesEndHere now) (sym copied) leaves, leaves);
    written = λ b here. record {
      first = λ _. copied;
      next = λ t is. absurd (let no : false ≡ true = none b here ∙ ap is_some is in cc);
    };
  }

  behind_others : (line : TextEdit) → ((b : Block) → slice_get blocks n ≡ Some b → true ≡ is_some b.table)
      → AddsLineAlone now x line → LeavesEndHere now (string_bytes line.new) → IsTextBelow now blocks n x made line.new
  behind_others line some adds its = record {
    line = line_is;
    leaves = (its, leaves);
    written = λ b here. record {
      first = λ is. absurd (let no : true ≡ false = some b here ∙ ap is_some is in cc);
      next = λ t is. (line, (adds, refl));
    };
  }

pub returns-then-not-has_lines_below : goal.returns-then-not-has_lines_below
returns-then-not-has_lines_below c =
    let there = blocks_in c.args.tail.now in
    let made = c.args.made.now in
    let n = c.args.block in
    let line_is : made.line ≡ Some WithHeader = search rules in
    let newline = subst (λ (d : ProfiledText). IsNewlineOf d c.self.inside.newline) c.self.view_is c.self.invariant.1 in
    let leaves : LeavesEndHere c.args.self.now (string_bytes made.change.new) =
    newline.ends (string_bytes made.change.new)
    (subst (LeavesEndBy c.self.inside.newline) c.as_str.ensures.value
    (c.is_left_at_end.ensures c.if-not-is_left_at_end.false)) in
    let none : (b : Block) → slice_get there n ≡ Some b → false ≡ is_some b.table =
    λ b here. sym c.if-not-has_lines_below.true ∙ c.has_lines_below.ensures b here in
    let copied = subst (λ (bytes : List ℕ). IfOk c.from_str.result (λ s. string_bytes s ≡ bytes))
    c.as_str-then-not-has_lines_below.ensures.value c.from_str.ensures.ok in
    subst (λ (r : Option (String Global)).
    IfSome r (IsTextBelow c.args.self.now there n c.args.edit.now made)) (sym c.ok.ensures.value)
    (first_there c.args.self.now there n c.args.edit.now made line_is leaves c.from_str.result none copied)

pub returns : goal.returns
returns c =
    let there = blocks_in c.args.tail.now in
    let made = c.args.made.now in
    let n = c.args.block in
    let line_is : made.line ≡ Some WithHeader = search rules in
    let newline = subst (λ (d : ProfiledText). IsNewlineOf d c.self.inside.newline) c.self.view_is c.self.invariant.1 in
    let leaves : LeavesEndHere c.args.self.now (string_bytes made.change.new) =
    newline.ends (string_bytes made.change.new)
    (subst (LeavesEndBy c.self.inside.newline) c.as_str.ensures.value
    (c.is_left_at_end.ensures c.if-not-is_left_at_end.false)) in
    let line = c.in_ok-line.line in
    let its : LeavesEndHere c.args.self.now (string_bytes line.new) =
    newline.ends (string_bytes line.new)
    (subst (LeavesEndBy c.self.inside.newline) c.as_str-2.ensures.value
    (c.is_left_at_end-2.ensures c.if-not-is_left_at_end-2.false)) in
    let some : (b : Block) → slice_get there n ≡ Some b → true ≡ is_some b.table =
    λ b here. sym c.if-not-has_lines_below.false ∙ c.has_lines_below.ensures b here in
    behind_others c.args.self.now there n c.args.edit.now made line_is leaves line some c.in_ok-line.ensures its
