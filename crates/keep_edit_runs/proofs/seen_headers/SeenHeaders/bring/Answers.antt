use Rattle.std.proofs.Common.{◌≡◌, ◌∙◌, ◌==◌, false, subst, sym}
use Rattle.std.specs.HashSet.{contains_by}
use Rattle.keep_edit_runs.proofs.HeaderLaws.{ok_holds}
use Rattle.keep_edit_runs.proofs.SeenLaws.{HasNumber, number_added}
use Rattle.keep_edit_runs.proofs.SeenPathLaws.{numbers_kept}
use Rattle.keep_edit_runs.proofs.seen_headers.SeenHeaders.bring.Goals as goal

pub returns-then-not-contains : goal.returns-then-not-contains
returns-then-not-contains c = λ yes.
    let old = c.args.self.now in
    let number = c.number_of_keys-number.result in
    let number_is = c.number_of_keys-number.ensures in
    let updates = ok_holds _ c.insert.result (sym c.is_ok.ensures.value ∙ yes) c.insert.ensures.updates in
    let (own, on) = number_added old.brought c.insert.new.self number updates in
    record {
      passes = λ has.
          (let none : contains_by (λ n. number == n) old.appended ≡ false =
          sym c.contains.ensures ∙ c.if-not-contains.true in
          let some : HasNumber old.appended number = subst (HasNumber old.appended) (sym number_is) has in absurd cc);
      here = (
        c.begins_in_key.ensures c.if-not-begins_in_key.false,
        subst (HasNumber c.insert.new.self) number_is own,
      );
      more = record {
        appended = λ path has. has;
        brought = numbers_kept old.brought c.insert.new.self number updates;
      };
    }
