use Rattle.std.proofs.Common.{◌≡◌, ◌++◌}
use Rattle.keep_commands.proofs.Writing.{second_stops, stops_up, third_written}
use Rattle.keep_commands.proofs.write.write_edited.Goals as goal

pub returns-in_err-second-clause-writes : goal.returns-in_err-second-clause-writes
returns-in_err-second-clause-writes g c =
    let whole : c.as_bytes.result.now ++ (c.as_bytes-2.result.now ++ c.pieces.result.2.now) ≡ c.args.edited.now =
    rw (c.as_bytes.ensures.value, c.as_bytes-2.ensures.value) c.pieces.ensures.pieces in
    let first = c.in_ok-first.ensures.writes in
    stops_up 0 _ _ _ c.from_residual-in_err-second.result c.in_err-second.field-0.0 _
    c.from_residual-in_err-second.ensures.1
    (second_stops c.in_ok-first.first.written _ _ _ c.as_bytes.result.now c.as_bytes-2.result.now c.pieces.result.2.now
    c.args.edited.now _ _ first.1 first.2 c.in_err-second.ensures.writes whole)

pub returns-clause-writes : goal.returns-clause-writes
returns-clause-writes g c =
    let whole : c.as_bytes.result.now ++ (c.as_bytes-2.result.now ++ c.as_bytes-3.result.now) ≡ c.args.edited.now =
    rw (c.as_bytes.ensures.value, c.as_bytes-2.ensures.value, c.as_bytes-3.ensures.value) c.pieces.ensures.pieces in
    let first = c.in_ok-first.ensures.writes in
    let second = c.in_ok-second.ensures.writes in
    third_written c.in_ok-first.first.written c.in_ok-second.second.written _ _ _ _ c.as_bytes.result.now
    c.as_bytes-2.result.now c.as_bytes-3.result.now c.args.edited.now _ _ first.1 first.2 second.1 second.2
    c.write_after-3.ensures.writes whole
