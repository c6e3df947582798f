use Rattle.std.proofs.Common.{◌≡◌, ◌∙◌, ◌≤◌, ap, arith, length, length-append, sym, subst, take, string_bytes}
use Rattle.std.proofs.Common.{string_len}
use Rattle.std.proofs.lemmas.List.{take_all}
use Rattle.keep_edit.specs.Answers.{entries_of}
use Rattle.keep_commands.specs.Answer.{lines_of}
use Rattle.keep_commands.specs.Lines.{line_at}
use Rattle.keep_edit.specs.declared.document.Counts.{Counts}
use Rattle.keep_commands.proofs.ListLines.{entries_few}
use Rattle.keep_commands.proofs.ListRooms.{fit_all, fit_next, len_is, lines_next}
use Rattle.keep_commands.proofs.lines.longest_line.Goals.{then-longest-len, else-longest-len}
use Rattle.keep_commands.proofs.lines.longest_line.Goals as goal

pub loop-number-preserved : goal.loop-number-preserved
loop-number-preserved c = λ s read.
    let before = c.loop-number.invariant s read in
    let n = c.loop-number.number in
    let longer = c.if-longest-len.longest in
    let both : (c.loop-number.longest ≤ c.if-longest-len.longest)
    × (c.len-in-loop-number.result ≤ c.if-longest-len.longest) = elim c.if-longest-len.branch [
      | then-longest-len w ↦ (
        omega (arith, w.if-longest-len, w.len-longest.ensures, c.len-in-loop-number.ensures, w.longest-is),
        omega (arith, w.len-longest.ensures, c.len-in-loop-number.ensures, w.longest-is),
      )
      | else-longest-len w ↦ (omega (arith, w.longest-is), omega (arith, w.if-longest-len, w.longest-is))
    ] in
    let line : string_bytes c.push_line.new.out ≡ line_at (entries_of s) n =
    rw c.clear.ensures.bytes at (c.in_ok-push_line.ensures.line s read) in
    let size : length (line_at (entries_of s) n) ≡ string_len c.push_line.new.out =
    sym (len_is c.push_line.new.out ∙ ap length line) in (
      fit_next (entries_of s) n c.loop-number.room c.push_line.new.room c.loop-number.longest longer before.0
          c.push_line.ensures.grown.1 both.0 (c.in_ok-push_line.ensures.enough s read)
          (omega (arith, both.1, size, c.len-in-loop-number.ensures)),
      omega (
        arith,
        before.1,
        size,
        ap length (lines_next (entries_of s) n),
        length-append (lines_of (take n (entries_of s))) (line_at (entries_of s) n),
        c.in-Some.ensures,
        c.len.ensures,
      ),
      omega (arith, c.in-Some.ensures),
    )

pub returns : goal.returns
returns c = λ s read.
    let done = c.loop-number.invariant s read in
    let past : length (entries_of s) ≤ c.loop-number.number =
    entries_few s c.loop-number.number
    (subst (λ (k : Counts). k.nodes ≤ c.loop-number.number) (c.counts-number-end.ensures.counts s read)
    c.loop-number-test.false) in
    record {
      each = fit_all (entries_of s) c.loop-number.number c.loop-number.room c.loop-number.longest past done.0;
      all = omega (
        arith,
        done.1,
        done.2,
        ap (λ es. length (lines_of es)) (take_all c.loop-number.number (entries_of s) past),
      );
    }
