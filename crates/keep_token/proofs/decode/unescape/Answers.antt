-- Each iteration takes a run, and then the piece at the backslash.
use Rattle.std.proofs.Common.{◌+◌, ◌<◌, List, length, arith, ap, ◌∙◌, sym, subst, drop}
use Rattle.std.specs.List.{prefix_len}
use Rattle.std.proofs.lemmas.List.{take_rest}
use Rattle.std.proofs.lemmas.Str.{IsCharBoundary-start}
use Rattle.keep_types.specs.declared.leaf.Profile.TheVariants.{Wide}
use Rattle.std.specs.String.{string_bytes}
use Rattle.keep_token.specs.Strings.{Piece}
use Rattle.keep_token.specs.Decoding.{IsBodyOf}
use Rattle.keep_token.specs.Pieces.{escape_at, line_end_at}
use Rattle.keep_token.specs.PieceLens.{piece_len}
use Rattle.keep_token.proofs.DecodeLaws.{LeftOf, Iteration, is_plain, left_all, left_none, stop_byte, cut_stop}
use Rattle.keep_token.proofs.DecodeLaws.{after_run, iteration_escape, iteration_line_end, no_iteration}
use Rattle.keep_token.proofs.decode.unescape.Goals as goal

pub loop-value-init : goal.loop-value-init
loop-value-init c = record {
  cut = IsCharBoundary-start c.args.body.now c.utf8.body;
  left = λ ps h. subst (LeftOf ps c.args.body.now) (sym c.in_ok-value.ensures.bytes) (left_all c.args.body.now ps h);
}

pub range-requires-clause-end_boundary : goal.range-requires-clause-end_boundary
range-requires-clause-end_boundary c =
    let at = c.loop-value.at in
    let same = c.as_bytes-bytes.ensures.value in
    let len =
    c.plain_run.ensures.len ∙ ap (prefix_len is_plain) (take_rest c.as_bytes-bytes.result.now at ∙ ap (drop at) same) in
    cut_stop c.args.body.now at c.plain_run.result len (omega arith)

pub returns-then-stop-body : goal.returns-then-stop-body
returns-then-stop-body c ps h =
    let at = c.loop-value.at in
    let same = c.as_bytes-bytes.ensures.value in
    let len =
    c.plain_run.ensures.len ∙ ap (prefix_len is_plain) (take_rest c.as_bytes-bytes.result.now at ∙ ap (drop at) same) in
    let left =
    after_run ps c.args.body.now _ _ _ at c.plain_run.result (c.loop-value.invariant.left ps h) len
    c.range.ensures.value c.in_ok-push_str.ensures.bytes in
    left_none ps c.args.body.now _ (at + c.plain_run.result) left c.if-stop-body.true

pub loop-value-preserved-in-Some : goal.loop-value-preserved-in-Some
loop-value-preserved-in-Some c =
    let at = c.loop-value.at in
    let body = c.args.body.now in
    let n = c.plain_run.result in
    let same = c.as_bytes-bytes.ensures.value in
    let len =
    c.plain_run.ensures.len ∙ ap (prefix_len is_plain) (take_rest c.as_bytes-bytes.result.now at ∙ ap (drop at) same) in
    let nested : at + n < length body = omega (arith, c.if-stop-body.false, c.range.ensures.len, ap length same) in
    let byte = stop_byte body at n len nested in
    let cut = cut_stop body at n len (omega (arith, nested)) in
    let after = take_rest c.as_bytes-bytes.result.now (at + n + 1) ∙ ap (drop (at + n + 1)) same in
    let (q, found, size, given) = c.in-Some.ensures.escape in
    let found' = ap (escape_at Wide) (sym after) ∙ found in
    let again : (ps : List Piece) → IsBodyOf body ps
    → Iteration ps body (string_bytes c.push.new.self) (at + n + c.in-Some.escape.len) = λ ps h.
    let left =
    after_run ps body _ _ _ at n (c.loop-value.invariant.left ps h) len c.range.ensures.value
    c.in_ok-push_str.ensures.bytes in
    iteration_escape ps body _ _ _ (at + n) c.in-Some.escape.len q left nested byte found' size given
    c.in_ok-push.ensures.bytes c.utf8.body cut
    in
    record { cut = (again c.requires.0 c.requires.1).cut; left = λ ps h. (again ps h).left }

pub loop-value-preserved : goal.loop-value-preserved
loop-value-preserved c =
    let at = c.loop-value.at in
    let body = c.args.body.now in
    let n = c.plain_run.result in
    let same = c.as_bytes-bytes.ensures.value in
    let len =
    c.plain_run.ensures.len ∙ ap (prefix_len is_plain) (take_rest c.as_bytes-bytes.result.now at ∙ ap (drop at) same) in
    let nested : at + n < length body = omega (arith, c.if-stop-body.false, c.range.ensures.len, ap length same) in
    let byte = stop_byte body at n len nested in
    let cut = cut_stop body at n len (omega (arith, nested)) in
    let after = take_rest c.as_bytes-bytes.result.now (at + n + 1) ∙ ap (drop (at + n + 1)) same in
    let none = ap (escape_at Wide) (sym after) ∙ c.in_default.ensures.escape in
    let found = ap (λ t. piece_len (line_end_at t)) (sym after) ∙ sym c.in-Some-line_end_len.ensures.len in
    let again : (ps : List Piece) → IsBodyOf body ps
    → Iteration ps body (string_bytes c.push_str.new.self) (at + n + c.in-Some-line_end_len.len) = λ ps h.
    let left =
    after_run ps body _ _ _ at n (c.loop-value.invariant.left ps h) len c.range.ensures.value
    c.in_ok-push_str.ensures.bytes in
    iteration_line_end ps body _ (at + n) c.in-Some-line_end_len.len left nested byte none found c.utf8.body cut
    in
    record { cut = (again c.requires.0 c.requires.1).cut; left = λ ps h. (again ps h).left }

pub unreachable-requires : goal.unreachable-requires
unreachable-requires c =
    let at = c.loop-value.at in
    let body = c.args.body.now in
    let n = c.plain_run.result in
    let same = c.as_bytes-bytes.ensures.value in
    let len =
    c.plain_run.ensures.len ∙ ap (prefix_len is_plain) (take_rest c.as_bytes-bytes.result.now at ∙ ap (drop at) same) in
    let nested : at + n < length body = omega (arith, c.if-stop-body.false, c.range.ensures.len, ap length same) in
    let byte = stop_byte body at n len nested in
    let after = take_rest c.as_bytes-bytes.result.now (at + n + 1) ∙ ap (drop (at + n + 1)) same in
    let none = ap (escape_at Wide) (sym after) ∙ c.in_default.ensures.escape in
    let missed = ap (λ t. piece_len (line_end_at t)) (sym after) ∙ sym c.in_default-line_end_len.ensures.len in
    let left =
    after_run c.requires.0 body _ _ _ at n (c.loop-value.invariant.left c.requires.0 c.requires.1) len
    c.range.ensures.value c.in_ok-push_str.ensures.bytes in
    no_iteration c.requires.0 body _ (at + n) left nested byte none missed
