use Rattle.std.proofs.Common.{◌≡◌, ◌∙◌, ◌==◌, false, subst, sym}
use Rattle.std.specs.HashSet.{contains_by}
use Rattle.keep_edit_runs.proofs.HeaderLaws.{ok_holds}
use Rattle.keep_edit_runs.proofs.SeenLaws.{HasNumber, number_added}
use Rattle.keep_edit_runs.proofs.SeenPathLaws.{numbers_kept}
use Rattle.keep_edit_runs.proofs.filled_tables.FilledTables.keep_own.Goals as goal

pub returns-then-not-contains-clause-kept : goal.returns-then-not-contains-clause-kept
returns-then-not-contains-clause-kept c = λ yes.
    let old = c.args.self.now in
    let number = c.number_of_keys-number.result in
    let number_is = c.number_of_keys-number.ensures in
    let updates = ok_holds _ c.insert.result (sym c.is_ok.ensures.value ∙ yes) c.insert.ensures.updates in
    let (own, on) = number_added old.own c.insert.new.self number updates in
    record {
      lacks = λ has.
          (let none : contains_by (λ n. number == n) old.own ≡ false =
          sym c.contains.ensures ∙ c.if-not-contains.true in
          let some : HasNumber old.own number = subst (HasNumber old.own) (sym number_is) has in absurd cc);
      here = subst (HasNumber c.insert.new.self) number_is own;
      more = numbers_kept old.own c.insert.new.self number updates;
    }
