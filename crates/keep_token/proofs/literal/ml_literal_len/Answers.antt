-- The scan goes past runs and pieces, and ends at three marks or more, or at a fault.
use Rattle.std.proofs.Common.{◌+◌, Some, arith, ap, ◌∙◌, sym}
use Rattle.std.specs.List.{prefix_len}
use Rattle.std.proofs.lemmas.List.{take_rest}
use Rattle.keep_token.specs.PieceLens.{piece_len}
use Rattle.keep_token.specs.Pieces.{ml_literal_piece}
use Rattle.keep_token.specs.Blocks.{is_plain}
use Rattle.keep_token.proofs.StringScans.{marks, ml_literal_run, ml_literal_ends, ml_literal_more, ml_literal_stops}
use Rattle.keep_token.proofs.StringScans.{length-rest}
use Rattle.keep_token.proofs.literal.ml_literal_len.Goals as goal

pub returns-then-marks-ge3-clause-found : goal.returns-then-marks-ge3-clause-found
returns-then-marks-ge3-clause-found c =
    let at = c.loop-at.at in
    let n = c.run_in_blocks-at.result in
    let run = ap (prefix_len (is_plain 0x0A 0x27 0x27)) (take_rest c.args.bytes.now at) in
    let count = c.marks_run-marks.ensures.len ∙ ap (marks 0x27) (take_rest c.args.bytes.now (at + n)) in
    let preserved =
    c.loop-at.invariant.preserved
    ∙ ml_literal_run c.args.bytes.now at n (omega (arith, run, c.run_in_blocks-at.ensures.run)) in
    ml_literal_ends c.args.bytes.now (at + n) c.marks_run-marks.result count (omega arith) preserved
    ∙ ap (λ m. Some (at + n + m)) (sym c.min.ensures)

pub loop-at-preserved : goal.loop-at-preserved
loop-at-preserved c =
    let at = c.loop-at.at in
    let n = c.run_in_blocks-at.result in
    let run = ap (prefix_len (is_plain 0x0A 0x27 0x27)) (take_rest c.args.bytes.now at) in
    let count = c.marks_run-marks.ensures.len ∙ ap (marks 0x27) (take_rest c.args.bytes.now (at + n)) in
    let preserved =
    c.loop-at.invariant.preserved
    ∙ ml_literal_run c.args.bytes.now at n (omega (arith, run, c.run_in_blocks-at.ensures.run)) in
    let found =
    ap (λ t. piece_len (ml_literal_piece t)) (sym (take_rest c.args.bytes.now (at + n))) ∙ sym c.in-Some.ensures.len in
    record {
      within = omega (arith, c.in-Some.ensures.within, length-rest c.args.bytes.now (at + n) (omega arith));
      preserved =
          preserved
          ∙ ml_literal_more c.args.bytes.now (at + n) c.marks_run-marks.result c.in-Some.len count (omega arith) found;
    }

pub returns-in-None-clause-found : goal.returns-in-None-clause-found
returns-in-None-clause-found c =
    let at = c.loop-at.at in
    let n = c.run_in_blocks-at.result in
    let run = ap (prefix_len (is_plain 0x0A 0x27 0x27)) (take_rest c.args.bytes.now at) in
    let count = c.marks_run-marks.ensures.len ∙ ap (marks 0x27) (take_rest c.args.bytes.now (at + n)) in
    let preserved =
    c.loop-at.invariant.preserved
    ∙ ml_literal_run c.args.bytes.now at n (omega (arith, run, c.run_in_blocks-at.ensures.run)) in
    let none =
    ap (λ t. piece_len (ml_literal_piece t)) (sym (take_rest c.args.bytes.now (at + n))) ∙ sym c.in-None.ensures.len in
    ml_literal_stops c.args.bytes.now (at + n) c.marks_run-marks.result count (omega arith) none preserved
