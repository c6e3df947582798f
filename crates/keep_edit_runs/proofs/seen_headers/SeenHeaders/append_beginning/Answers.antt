use Rattle.std.proofs.Common.{◌≡◌, ◌∙◌, ◌==◌, false, subst, sym}
use Rattle.std.specs.HashSet.{contains_by}
use Rattle.keep_edit_runs.proofs.HeaderLaws.{ok_holds}
use Rattle.keep_edit_runs.proofs.SeenLaws.{HasNumber, number_added}
use Rattle.keep_edit_runs.proofs.SeenPathLaws.{numbers_kept}
use Rattle.keep_edit_runs.proofs.seen_headers.SeenHeaders.append_beginning.Goals as goal

pub returns-then-not-contains : goal.returns-then-not-contains
returns-then-not-contains c = λ yes.
    let old = c.args.self.now in
    let number = c.args.number in
    let updates = ok_holds _ c.insert.result (sym c.is_ok.ensures.value ∙ yes) c.insert.ensures.updates in
    let (own, on) = number_added old.appended c.insert.new.self number updates in
    record {
      passes = λ path is has.
          (let none : contains_by (λ n. number == n) old.brought ≡ false =
          sym c.contains.ensures ∙ c.if-not-contains.true in
          let some : HasNumber old.brought number = subst (HasNumber old.brought) (sym is) has in absurd cc);
      here = λ path is. subst (HasNumber c.insert.new.self) is own;
      more = record {
        appended = numbers_kept old.appended c.insert.new.self number updates;
        brought = λ path has. has;
      };
    }
