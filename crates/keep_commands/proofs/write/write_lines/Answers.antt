use Rattle.std.proofs.Common.{◌≡◌, ◌++◌, take, drop, length, length-append, ap, sym, subst, arith, ◌∙◌, List, ℕ}
use Rattle.std.proofs.lemmas.List.{take_all}
use Rattle.std.specs.Io.KnownBytes.{Appends}
use Rattle.keep_commands.proofs.Appends.{appends_then}
use Rattle.keep_edit.specs.Answers.{entries_of}
use Rattle.keep_edit.specs.Reading.{ProfiledText, IsTextOfTree}
use Rattle.keep_commands.specs.Answer.{lines_of}
use Rattle.keep_commands.proofs.ListLines.{lines_around, lines_taken}
use Rattle.keep_commands.proofs.Writing.{second_stops, stops_up}
use Rattle.keep_commands.proofs.write.write_lines.Goals as goal

pub write_after-requires-clause-fits : goal.write_after-requires-clause-fits
write_after-requires-clause-fits g c =
    let (s, read) = c.count-count.ensures.accepted in
    let here = subst (λ (d : ProfiledText). IsTextOfTree d s) (sym c.loop-number.invariant.same) read in
    let block : lines_of (take c.loop-number.number (entries_of s)) ++ c.as_bytes.result.now
    ≡ lines_of (take c.fill-number.result (entries_of s)) =
    rw (c.as_bytes.ensures.value, c.block.ensures) (c.fill-number.ensures.block s here) in
    omega (
      arith,
      (c.loop-number.invariant.written s read).0,
      ap length block,
      length-append (lines_of (take c.loop-number.number (entries_of s))) c.as_bytes.result.now,
      lines_taken (entries_of s) c.fill-number.result,
      c.count-count.ensures.fits s read,
    )

pub returns-in_err-written-clause-writes : goal.returns-in_err-written-clause-writes
returns-in_err-written-clause-writes g c = λ s read.
    let here = subst (λ (d : ProfiledText). IsTextOfTree d s) (sym c.loop-number.invariant.same) read in
    let block : lines_of (take c.loop-number.number (entries_of s)) ++ c.as_bytes.result.now
    ≡ lines_of (take c.fill-number.result (entries_of s)) =
    rw (c.as_bytes.ensures.value, c.block.ensures) (c.fill-number.ensures.block s here) in
    let before = c.loop-number.invariant.written s read in
    stops_up 0 _ _ _ c.from_residual.result c.in_err-written.field-0.0 _ c.from_residual.ensures.1
    (second_stops c.loop-number.written _ _ _ (lines_of (take c.loop-number.number (entries_of s)))
    c.as_bytes.result.now (lines_of (drop c.fill-number.result (entries_of s))) (lines_of (entries_of s)) _ _
    (omega (arith, before.0)) before.1 c.in_err-written.ensures.writes
    (lines_around (entries_of s) c.loop-number.number c.fill-number.result c.as_bytes.result.now block))

pub loop-number-preserved : goal.loop-number-preserved
loop-number-preserved g c =
    let w = c.in_ok-written.ensures.writes in
    record {
      going = w.0;
      same = c.fill-number.ensures.document ∙ c.loop-number.invariant.same;
      written = λ s read.
          let here = subst (λ (d : ProfiledText). IsTextOfTree d s) (sym c.loop-number.invariant.same) read in
          let block : lines_of (take c.loop-number.number (entries_of s)) ++ c.as_bytes.result.now
          ≡ lines_of (take c.fill-number.result (entries_of s)) =
          rw (c.as_bytes.ensures.value, c.block.ensures) (c.fill-number.ensures.block s here) in
          let before = c.loop-number.invariant.written s read in (
            omega (
              arith,
              w.1,
              before.0,
              ap length block,
              length-append (lines_of (take c.loop-number.number (entries_of s))) c.as_bytes.result.now,
            ),
            subst (λ (t : List ℕ).
                Appends (g.W.Write.contents c.args.output.now.inner) (g.W.Write.contents c.write_after.new.output.inner)
                t) block (appends_then _ _ _ _ _ before.1 w.2),
          );
      silent =
          λ e. c.in_ok-written.ensures.silent (omega (arith, e, w.1))
          ∙ c.loop-number.invariant.silent (omega (arith, e, w.1));
    }

pub returns-clause-writes : goal.returns-clause-writes
returns-clause-writes g c = λ s read.
    let done = c.loop-number.invariant.written s read in
    let all : take c.loop-number.number (entries_of s) ≡ entries_of s =
    take_all c.loop-number.number (entries_of s)
    (omega (arith, c.count-count.ensures.few s read, c.loop-number-test.false)) in
    let whole : lines_of (take c.loop-number.number (entries_of s)) ≡ lines_of (entries_of s) = ap lines_of all in (
      c.loop-number.invariant.going,
      omega (arith, done.0, ap length whole),
      subst (λ (t : List ℕ).
          Appends (g.W.Write.contents c.args.output.now.inner) (g.W.Write.contents c.loop-number.output.inner) t) whole
          done.1,
    )
