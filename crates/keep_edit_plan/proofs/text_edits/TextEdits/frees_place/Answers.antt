use Rattle.std.proofs.Common.{◌≡◌, length, string_bytes, arith}
use Rattle.keep_edit_plan.proofs.SaidLaws.{place_left}
use Rattle.keep_edit_plan.proofs.text_edits.TextEdits.frees_place.Goals as goal

pub returns-in-Some : goal.returns-in-Some
returns-in-Some c =
    λ yes.
    let none : length (string_bytes c.args.edit.now.new) ≡ 0 = omega (arith, c.if-len-gt0.false, c.len.ensures) in
    place_left c.args.text.now c.args.self.now c.args.edit.now c.in-Some.line none c.in-Some.ensures
    (c.spare.ensures yes)
