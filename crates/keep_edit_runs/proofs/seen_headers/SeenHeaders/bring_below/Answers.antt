use Rattle.std.proofs.Common.{◌∙◌, subst, sym}
use Rattle.keep_edit_runs.proofs.HeaderLaws.{ok_holds}
use Rattle.keep_edit_runs.proofs.SeenLaws.{HasNumber, number_added}
use Rattle.keep_edit_runs.proofs.SeenPathLaws.{numbers_kept}
use Rattle.keep_edit_runs.proofs.seen_headers.SeenHeaders.bring_below.Goals as goal

pub returns-then-begins_in_key : goal.returns-then-begins_in_key
returns-then-begins_in_key c = λ yes.
    let old = c.args.self.now in
    let number = c.number_of_keys.result in
    let updates = ok_holds _ c.insert.result (sym c.is_ok.ensures.value ∙ yes) c.insert.ensures.updates in
    let (own, on) = number_added old.brought c.insert.new.self number updates in (
      (
        c.begins_in_key.ensures c.if-begins_in_key.true,
        subst (HasNumber c.insert.new.self) c.number_of_keys.ensures own,
      ),
      record {
        appended = λ path has. has;
        brought = numbers_kept old.brought c.insert.new.self number updates;
      },
    )
