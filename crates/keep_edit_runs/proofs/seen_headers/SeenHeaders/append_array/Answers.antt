use Rattle.std.proofs.Common.{◌∙◌, subst, sym}
use Rattle.keep_edit_runs.proofs.HeaderLaws.{more_of_more, ok_holds}
use Rattle.keep_edit_runs.proofs.SeenLaws.{HasNumber, number_added}
use Rattle.keep_edit_runs.proofs.SeenPathLaws.{numbers_kept}
use Rattle.keep_edit_runs.proofs.seen_headers.SeenHeaders.append_array.Goals as goal

pub returns : goal.returns
returns c = λ yes.
    let appended = c.append.ensures c.if-not-append.false in
    let then = c.append.new.self in
    let number = c.number_of_header.result in
    let updates = ok_holds _ c.insert.result (sym c.is_ok.ensures.value ∙ yes) c.insert.ensures.updates in
    let (own, on) = number_added then.brought c.insert.new.self number updates in
    record {
      apart = c.has_beginning.ensures c.if-has_beginning.false;
      passes = appended.passes;
      here = appended.here;
      brought = subst (HasNumber c.insert.new.self) c.number_of_header.ensures own;
      more = more_of_more c.args.self.now then _ appended.more (record {
        appended = λ path has. has;
        brought = numbers_kept then.brought c.insert.new.self number updates;
      });
    }
