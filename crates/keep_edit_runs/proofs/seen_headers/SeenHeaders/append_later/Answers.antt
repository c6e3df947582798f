use Rattle.std.proofs.Common.{◌≡◌, ◌∙◌, ◌==◌, false, subst, sym}
use Rattle.std.specs.HashSet.{contains_by}
use Rattle.keep_edit_runs.proofs.SeenLaws.{HasNumber}
use Rattle.keep_edit_runs.proofs.seen_headers.SeenHeaders.append_later.Goals as goal

pub returns-then-not-contains : goal.returns-then-not-contains
returns-then-not-contains c = λ yes.
    let old = c.args.self.now in
    let number = c.number_of_header.result in
    let (here, more) = c.add_beginnings.ensures yes in
    record {
      other = λ has.
          (let none : contains_by (λ n. number == n) old.brought ≡ false =
          sym c.contains.ensures ∙ c.if-not-contains.true in
          let some : HasNumber old.brought number =
          subst (HasNumber old.brought) (sym c.number_of_header.ensures) has in absurd cc);
      here = here;
      more = more;
    }
