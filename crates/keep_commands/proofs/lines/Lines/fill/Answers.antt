use Rattle.std.proofs.Common.{◌≡◌, ◌∙◌, ◌++◌, ap, append_assoc, arith, take, sym, subst, slice_get, string_bytes}
use Rattle.keep_edit.specs.Answers.{entries_of}
use Rattle.keep_edit.specs.Reading.{ProfiledText, IsTextOfTree}
use Rattle.keep_commands.specs.Answer.{lines_of}
use Rattle.keep_commands.specs.Lines.{line_at}
use Rattle.keep_commands.proofs.ListRooms.{block_room, len_is, line_room, lines_next, not_both, not_failed}
use Rattle.keep_commands.proofs.lines.Lines.fill.Goals as goal

pub unreachable-requires : goal.unreachable-requires
unreachable-requires c =
    let (s, here) = c.push_line.ensures.accepted in
    let has =
    c.loop-next.invariant.room s (subst (λ (d : ProfiledText). IsTextOfTree d s) c.loop-next.invariant.same here) in
    not_both c.push_line.result c.if-is_err.ensures.value
    (c.push_line.ensures.fits s here
    (line_room c.loop-next.self-inside.room has.longest c.loop-next.self-inside.block
    (slice_get (entries_of s) c.loop-next.next) (has.lines.each c.loop-next.next)
    (omega (arith, has.block, c.if-len-lt-BLOCK.true, c.len.ensures, len_is c.loop-next.self-inside.block))))

pub loop-next-preserved : goal.loop-next-preserved
loop-next-preserved c =
    let next = c.loop-next.next in
    let old = string_bytes c.loop-next.self-inside.block in
    record {
      same = c.loop-next.invariant.same;
      least = omega (arith, c.loop-next.invariant.least);
      none = λ e. absurd (omega (arith, e, c.loop-next.invariant.least));
      lines = λ s read.
          let here = subst (λ (d : ProfiledText). IsTextOfTree d s) (sym c.loop-next.invariant.same) read in
          let line : string_bytes c.push_line.new.out ≡ old ++ line_at (entries_of s) next =
          not_failed c.push_line.result c.if-is_err.ensures.value (c.push_line.ensures.line s here) in
          ap (λ t. lines_of (take c.args.number (entries_of s)) ++ t) line
          ∙ sym (append_assoc (lines_of (take c.args.number (entries_of s))) old (line_at (entries_of s) next))
          ∙ ap (λ t. t ++ line_at (entries_of s) next) (c.loop-next.invariant.lines s read)
          ∙ sym (lines_next (entries_of s) next);
      room = λ s read.
          block_room s _ _ _ _ (c.loop-next.invariant.room s read) c.push_line.ensures.grown.1
          c.push_line.ensures.grown.0;
    }
