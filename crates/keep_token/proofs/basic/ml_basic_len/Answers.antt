-- The scan goes past runs and pieces, and ends at three marks or more, or at a fault.
use Rattle.std.proofs.Common.{◌+◌, Some, arith, ap, ◌∙◌, sym}
use Rattle.std.specs.List.{prefix_len}
use Rattle.std.proofs.lemmas.List.{take_rest}
use Rattle.keep_token.specs.PieceLens.{piece_len}
use Rattle.keep_token.specs.Pieces.{ml_basic_piece}
use Rattle.keep_token.specs.Blocks.{is_plain}
use Rattle.keep_token.proofs.StringScans.{marks, ml_basic_run, ml_basic_ends, ml_basic_more, ml_basic_stops}
use Rattle.keep_token.proofs.StringScans.{length-rest}
use Rattle.keep_token.proofs.basic.ml_basic_len.Goals as goal

pub returns-then-marks-ge3-clause-found : goal.returns-then-marks-ge3-clause-found
returns-then-marks-ge3-clause-found c =
    let at = c.loop-profile.at in
    let n = c.run_in_blocks-at.result in
    let run = ap (prefix_len (is_plain 0x0A 0x22 0x5C)) (take_rest c.args.bytes.now at) in
    let count = c.marks_run-marks.ensures.len ∙ ap (marks 0x22) (take_rest c.args.bytes.now (at + n)) in
    let preserved =
    c.loop-profile.invariant.preserved
    ∙ ml_basic_run c.args.profile c.args.bytes.now at n (omega (arith, run, c.run_in_blocks-at.ensures.run)) in
    ml_basic_ends c.args.profile c.args.bytes.now (at + n) c.marks_run-marks.result count (omega arith) preserved
    ∙ ap (λ m. Some (at + n + m)) (sym c.min.ensures)

pub loop-profile-preserved : goal.loop-profile-preserved
loop-profile-preserved c =
    let at = c.loop-profile.at in
    let n = c.run_in_blocks-at.result in
    let run = ap (prefix_len (is_plain 0x0A 0x22 0x5C)) (take_rest c.args.bytes.now at) in
    let count = c.marks_run-marks.ensures.len ∙ ap (marks 0x22) (take_rest c.args.bytes.now (at + n)) in
    let preserved =
    c.loop-profile.invariant.preserved
    ∙ ml_basic_run c.args.profile c.args.bytes.now at n (omega (arith, run, c.run_in_blocks-at.ensures.run)) in
    let found =
    ap (λ t. piece_len (ml_basic_piece c.args.profile t)) (sym (take_rest c.args.bytes.now (at + n)))
    ∙ sym c.in-Some.ensures.len in
    record {
      within = omega (arith, c.in-Some.ensures.within, length-rest c.args.bytes.now (at + n) (omega arith));
      preserved =
          preserved
          ∙ ml_basic_more c.args.profile c.args.bytes.now (at + n) c.marks_run-marks.result c.in-Some.len count
          (omega arith) found;
    }

pub returns-in-None-clause-found : goal.returns-in-None-clause-found
returns-in-None-clause-found c =
    let at = c.loop-profile.at in
    let n = c.run_in_blocks-at.result in
    let run = ap (prefix_len (is_plain 0x0A 0x22 0x5C)) (take_rest c.args.bytes.now at) in
    let count = c.marks_run-marks.ensures.len ∙ ap (marks 0x22) (take_rest c.args.bytes.now (at + n)) in
    let preserved =
    c.loop-profile.invariant.preserved
    ∙ ml_basic_run c.args.profile c.args.bytes.now at n (omega (arith, run, c.run_in_blocks-at.ensures.run)) in
    let none =
    ap (λ t. piece_len (ml_basic_piece c.args.profile t)) (sym (take_rest c.args.bytes.now (at + n)))
    ∙ sym c.in-None.ensures.len in
    ml_basic_stops c.args.profile c.args.bytes.now (at + n) c.marks_run-marks.result count (omega arith) none preserved
