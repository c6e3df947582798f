-- A text of a date's shape has its digits at their places.
use Rattle.std.proofs.Common.{◌≡◌, true, ◌∙◌, sym, arith}
use Rattle.keep_token.specs.Leaves as leaves
use Rattle.keep_token.proofs.DateCode.{shaped}
use Rattle.keep_token.proofs.dates.is_date.Goals as goal

pub pair-requires-clause-tens : goal.pair-requires-clause-tens
pair-requires-clause-tens c =
    let k : leaves.has_date_shape c.args.bytes.now ≡ true = grind arith in
    (shaped c.args.bytes.now k).a

pub pair-requires-clause-ones : goal.pair-requires-clause-ones
pair-requires-clause-ones c =
    let k : leaves.has_date_shape c.args.bytes.now ≡ true = grind arith in
    (shaped c.args.bytes.now k).b

pub pair-requires-2-clause-tens : goal.pair-requires-2-clause-tens
pair-requires-2-clause-tens c =
    let k : leaves.has_date_shape c.args.bytes.now ≡ true = grind arith in
    (shaped c.args.bytes.now k).c

pub pair-requires-2-clause-ones : goal.pair-requires-2-clause-ones
pair-requires-2-clause-ones c =
    let k : leaves.has_date_shape c.args.bytes.now ≡ true = grind arith in
    (shaped c.args.bytes.now k).d

pub pair-month-requires-clause-tens : goal.pair-month-requires-clause-tens
pair-month-requires-clause-tens c =
    let k : leaves.has_date_shape c.args.bytes.now ≡ true = grind arith in
    (shaped c.args.bytes.now k).f

pub pair-month-requires-clause-ones : goal.pair-month-requires-clause-ones
pair-month-requires-clause-ones c =
    let k : leaves.has_date_shape c.args.bytes.now ≡ true = grind arith in
    (shaped c.args.bytes.now k).g

pub pair-day-requires-clause-tens : goal.pair-day-requires-clause-tens
pair-day-requires-clause-tens c =
    let k : leaves.has_date_shape c.args.bytes.now ≡ true = grind arith in
    (shaped c.args.bytes.now k).i

pub pair-day-requires-clause-ones : goal.pair-day-requires-clause-ones
pair-day-requires-clause-ones c =
    let k : leaves.has_date_shape c.args.bytes.now ≡ true = grind arith in
    (shaped c.args.bytes.now k).j

pub returns : goal.returns
returns c =
    let k : leaves.has_date_shape c.args.bytes.now ≡ true = grind arith in
    c.is_day.ensures
    ∙ rw (c.pair.ensures, c.pair-2.ensures, c.pair-month.ensures, c.pair-day.ensures)
    (sym (shaped c.args.bytes.now k).date)
