use Rattle.std.proofs.Common.{◌≡◌, ◌∙◌, false, refl, subst, sym}
use Rattle.std.specs.Prelude.{◌==◌}
use Rattle.std.specs.HashSet.{contains_by}
use Rattle.keep_edit_runs.specs.Seen.{number_of}
use Rattle.keep_edit_runs.proofs.HeaderLaws.{no_error_holds, ok_holds}
use Rattle.keep_edit_runs.proofs.LineLaws.{others_by}
use Rattle.keep_edit_runs.proofs.SeenLaws.{HasNumber, number_added}
use Rattle.keep_edit_runs.proofs.added_lines.AddedLines.keep_header.Goals as goal

pub returns-then-is_ok : goal.returns-then-is_ok
returns-then-is_ok c = λ yes.
    let old = c.args.self.now in
    let at = c.args.at in
    let table = c.args.table in
    let number = c.number_of-number.result in
    let number_is = c.number_of-number.ensures in
    let (there, its, others, rest) =
    no_error_holds _ c.insert.result (sym c.is_err.ensures.value ∙ c.if-is_err.false) c.insert.ensures.updates in
    let (own, on) =
    number_added old.tables c.insert-2.new.self number
    (ok_holds _ c.insert-2.result (sym c.is_ok.ensures.value ∙ c.if-is_ok.true) c.insert-2.ensures.updates) in
    record {
      free = c.has_header_at.ensures c.if-has_header_at.false;
      dotted = refl;
      ends = refl;
      one = c.add.ensures yes;
      follower = refl;
      appended = refl;
      here = its;
      others = others_by at _ others;
      first = λ has.
          (let none : contains_by (λ n. number == n) old.tables ≡ false =
          sym c.contains.ensures ∙ c.if-contains.false in
          let some : HasNumber old.tables number = subst (HasNumber old.tables) (sym number_is) has in absurd cc);
      with_it = subst (HasNumber c.insert-2.new.self) number_is own;
      more = λ q has. on (number_of q) has;
      brought = c.bring.ensures c.if-not-bring.false;
    }
