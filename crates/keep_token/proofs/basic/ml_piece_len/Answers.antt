-- A backslash that begins no escape may end a line.
use Rattle.std.proofs.Common.{ap, ◌∙◌, sym}
use Rattle.std.proofs.lemmas.List.{take_rest}
use Rattle.keep_token.specs.PieceLens.{piece_len}
use Rattle.keep_token.specs.Pieces.{escape_at, line_end_at}
use Rattle.keep_token.proofs.StringScans.{ml_basic_line_end}
use Rattle.keep_token.proofs.basic.ml_piece_len.Goals as goal

pub returns-in-None-clause-len : goal.returns-in-None-clause-len
returns-in-None-clause-len c =
    let rest = take_rest c.args.bytes.now 1 in
    let none = ap (escape_at c.args.profile) (sym rest) ∙ c.in-None.ensures.escape in
    c.line_end_len.ensures.len ∙ ap (λ t. piece_len (line_end_at t)) rest
    ∙ ap piece_len (sym (ml_basic_line_end c.args.profile c.args.bytes.now (cc) none))
