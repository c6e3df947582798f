-- A text too short for a date and a time has no offset after them.
use Rattle.std.proofs.Common.{sym, arith}
use Rattle.keep_token.proofs.DateShapes.{short_no_offset}
use Rattle.keep_token.proofs.dates.is_offset_date_time.Goals as goal

pub returns-then-bytes-lt-SHORTEST_DATE_TIME : goal.returns-then-bytes-lt-SHORTEST_DATE_TIME
returns-then-bytes-lt-SHORTEST_DATE_TIME c = sym (short_no_offset c.args.profile c.args.bytes.now (omega arith))
