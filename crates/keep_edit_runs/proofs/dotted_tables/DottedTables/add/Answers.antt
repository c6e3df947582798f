use Rattle.std.proofs.Common.{◌≡◌, ◌∙◌, ℕ, List, length, refl, subst, sym}
use Rattle.keep_path.specs.Path.{Part}
use Rattle.keep_edit_runs.specs.Counts.{IsOneOfLength}
use Rattle.keep_edit_runs.specs.DottedTables.{FitsAt, HasTableAt}
use Rattle.keep_edit_runs.specs.declared.counts.LengthCounts.{LengthCounts}
use Rattle.keep_edit_runs.specs.declared.dotted_tables.DottedTables.{DottedTables}
use Rattle.keep_edit_runs.proofs.DottedLaws.{longer}
use Rattle.keep_edit_runs.proofs.HeaderLaws.{no_error_holds}
use Rattle.keep_edit_runs.proofs.LineLaws.{others_by}
use Rattle.keep_edit_runs.proofs.dotted_tables.DottedTables.add.Goals as goal
use Rattle.keep_edit_runs.proofs.dotted_tables.DottedTables.add.Goals.{else-is_longest-via-else-is_longest}
use Rattle.keep_edit_runs.proofs.dotted_tables.DottedTables.add.Goals.{else-is_longest-via-then-is_longest+else-is_err}

-- with this longest table there are all, and that of the line, and as many lines as before
abbrev HasAll : DottedTables → ℕ → List Part → DottedTables → Type 0
HasAll old at table now =
    (now.lengths ≡ old.lengths)
    × (HasTableAt now at table × ((n : ℕ) (q : List Part) → HasTableAt old n q → HasTableAt now n q))

pub returns : goal.returns
returns c = λ yes.
    let old = c.args.self.now in
    let at = c.args.at in
    let table = c.args.table in
    let now = c.else-is_longest.self in
    let all : HasAll old at table now = elim c.else-is_longest.branch [
      | else-is_longest-via-then-is_longest+else-is_err w ↦
          (let (there, its, others, rest) =
          no_error_holds _ w.insert.result (sym w.is_err.ensures.value ∙ w.if-is_err.false) w.insert.ensures.updates in
          let with_it : DottedTables = record { longest = w.insert.new.self; lengths = old.lengths } in
          subst (HasAll old at table) (sym w.self-is) (
            refl,
            longer old with_it at table its (others_by at _ others)
                (subst (FitsAt old at table) w.if-is_longest.true c.in-Some.ensures),
          ))
      | else-is_longest-via-else-is_longest w ↦
          (subst (HasAll old at table) (sym w.self-is)
          (refl, (subst (FitsAt old at table) w.if-is_longest.false c.in-Some.ensures, λ n q h. h)))
    ] in
    record {
      one = subst (λ (l : LengthCounts). IsOneOfLength l (length table) at c.add.new.self) all.0
          (subst (λ (n : ℕ). IsOneOfLength now.lengths n at c.add.new.self) c.len-length.ensures (c.add.ensures yes));
      here = all.1.0;
      others = all.1.1;
    }
