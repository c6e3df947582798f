-- Each iteration takes one tab, space or newline.
use Rattle.std.proofs.Common.{arith, sym, ap, ◌∙◌}
use Rattle.std.proofs.lemmas.List.{take_rest}
use Rattle.keep_token.specs.Pieces.{newline_len}
use Rattle.keep_token.proofs.BlankLaws.{white_at, newline_at, nothing_at}
use Rattle.keep_token.proofs.strings.blank_len.Goals as goal

pub loop-at-preserved-then-is_ws : goal.loop-at-preserved-then-is_ws
loop-at-preserved-then-is_ws c = record {
  within = omega arith;
  passed = white_at c.args.bytes.now c.loop-at.at (omega arith) (cc) ∙ c.loop-at.invariant.passed;
}

pub returns-then-newline-eq0-clause-len : goal.returns-then-newline-eq0-clause-len
returns-then-newline-eq0-clause-len c =
    let len = c.newline_len-newline.ensures.len ∙ ap newline_len (take_rest c.args.bytes.now c.loop-at.at) in
    let nothing = nothing_at c.args.bytes.now c.loop-at.at (sym len ∙ c.if-newline-eq0.true) (cc) in
    omega (arith, nothing, c.loop-at.invariant.passed)

pub loop-at-preserved : goal.loop-at-preserved
loop-at-preserved c =
    let len = c.newline_len-newline.ensures.len ∙ ap newline_len (take_rest c.args.bytes.now c.loop-at.at) in
    record {
      within = omega arith;
      passed =
          newline_at c.args.bytes.now c.loop-at.at c.newline_len-newline.result len (cc) ∙ c.loop-at.invariant.passed;
    }
