use Rattle.std.proofs.Common.{◌≡◌, Some, refl, rules}
use Rattle.keep_edit_runs.specs.DottedTables.{longest_at}
use Rattle.keep_edit_runs.proofs.DottedLaws.{above_all, within_is}
use Rattle.keep_edit_runs.proofs.dotted_tables.DottedTables.is_longest.Goals as goal

pub returns-in-Some : goal.returns-in-Some
returns-in-Some c =
    let longest = c.in-Some.longest.now in
    let is : longest_at c.args.self.now c.args.at ≡ Some longest = search rules in
    (longest, (is, within_is longest c.args.table.now (c.is_within.ensures.0 c.if-is_within.true)))

pub returns-in_default : goal.returns-in_default
returns-in_default c =
    let longest = c.in-Some.longest.now in
    let is : longest_at c.args.self.now c.args.at ≡ Some longest = search rules in
    above_all c.args.self.now c.args.at longest c.args.table.now is
    (within_is c.args.table.now longest (c.if-not-is_within.ensures.0 refl))
