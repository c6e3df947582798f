-- The value is the text between the marks, after a newline where one follows the opening.
use Rattle.std.proofs.Common.{drop, arith, ap, ◌∙◌, sym}
use Rattle.std.proofs.lemmas.List.{take_rest}
use Rattle.std.proofs.lemmas.Result.{IfOk-weaker}
use Rattle.keep_token.specs.Strings.{IsMlLiteralPiece}
use Rattle.keep_token.specs.Pieces.{newline_len}
use Rattle.keep_token.proofs.StringBodies.{ml_literal_parts, starts, ends, between_marks, ml_literal_value}
use Rattle.keep_token.proofs.decode.decode_ml_literal.Goals as goal

pub range-requires-clause-start_boundary : goal.range-requires-clause-start_boundary
range-requires-clause-start_boundary c _ =
    let (ps, string) = c.requires in
    let text = c.args.text.now in
    let newline =
    c.newline_len-start.ensures.len
    ∙ ap newline_len (take_rest c.as_bytes.result.now 3 ∙ ap (drop 3) c.as_bytes.ensures.value) in
    starts IsMlLiteralPiece 0x27 text ps (ml_literal_parts text ps string) c.newline_len-start.result newline
    (omega arith) c.utf8.text

pub range-requires-clause-end_boundary : goal.range-requires-clause-end_boundary
range-requires-clause-end_boundary c =
    let (ps, string) = c.requires in
    let text = c.args.text.now in
    ends IsMlLiteralPiece 0x27 text ps (ml_literal_parts text ps string) (omega arith)

pub returns : goal.returns
returns c =
    let (ps, string) = c.requires in
    let text = c.args.text.now in
    let newline =
    c.newline_len-start.ensures.len
    ∙ ap newline_len (take_rest c.as_bytes.result.now 3 ∙ ap (drop 3) c.as_bytes.ensures.value) in
    let p = ml_literal_parts text ps string in
    let body =
    c.range.ensures.value ∙ between_marks IsMlLiteralPiece 0x27 text ps p c.newline_len-start.result newline in
    IfOk-weaker c.from_str.result _ _
    (λ s same. (ps, string, same ∙ body ∙ sym (ml_literal_value p.rest p.each) ∙ sym p.given)) c.from_str.ensures.ok
