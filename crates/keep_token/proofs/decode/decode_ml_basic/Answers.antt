-- The body is between the marks, after a newline where one follows the opening.
use Rattle.std.proofs.Common.{drop, arith, ap, ◌∙◌, sym}
use Rattle.std.proofs.lemmas.List.{take_rest}
use Rattle.std.proofs.lemmas.Result.{IfOk-weaker}
use Rattle.keep_types.specs.declared.leaf.Profile.TheVariants.{Wide}
use Rattle.keep_token.specs.Strings.{IsMlBasicPiece}
use Rattle.keep_token.specs.Pieces.{newline_len}
use Rattle.keep_token.proofs.StringBodies.{ml_basic_parts, starts, ends, between_marks, ml_basic_body}
use Rattle.keep_token.proofs.decode.decode_ml_basic.Goals as goal

pub range-requires-clause-start_boundary : goal.range-requires-clause-start_boundary
range-requires-clause-start_boundary c _ =
    let (ps, string) = c.requires in
    let text = c.args.text.now in
    let newline =
    c.newline_len-start.ensures.len
    ∙ ap newline_len (take_rest c.as_bytes.result.now 3 ∙ ap (drop 3) c.as_bytes.ensures.value) in
    starts (IsMlBasicPiece Wide) 0x22 text ps (ml_basic_parts text ps string) c.newline_len-start.result newline
    (omega arith) c.utf8.text

pub range-requires-clause-end_boundary : goal.range-requires-clause-end_boundary
range-requires-clause-end_boundary c =
    let (ps, string) = c.requires in
    let text = c.args.text.now in
    ends (IsMlBasicPiece Wide) 0x22 text ps (ml_basic_parts text ps string) (omega arith)

pub unescape-requires : goal.unescape-requires
unescape-requires c =
    let (ps, string) = c.requires in
    let text = c.args.text.now in
    let newline =
    c.newline_len-start.ensures.len
    ∙ ap newline_len (take_rest c.as_bytes.result.now 3 ∙ ap (drop 3) c.as_bytes.ensures.value) in
    let p = ml_basic_parts text ps string in
    let body =
    c.range.ensures.value ∙ between_marks (IsMlBasicPiece Wide) 0x22 text ps p c.newline_len-start.result newline in
    (p.rest, ml_basic_body c.range.result.now text ps string p body)

pub returns : goal.returns
returns c =
    let (ps, string) = c.requires in
    let text = c.args.text.now in
    let newline =
    c.newline_len-start.ensures.len
    ∙ ap newline_len (take_rest c.as_bytes.result.now 3 ∙ ap (drop 3) c.as_bytes.ensures.value) in
    let p = ml_basic_parts text ps string in
    let body =
    c.range.ensures.value ∙ between_marks (IsMlBasicPiece Wide) 0x22 text ps p c.newline_len-start.result newline in
    IfOk-weaker c.unescape.result _ _
    (λ s given. (ps, string, given p.rest (ml_basic_body c.range.result.now text ps string p body) ∙ sym p.given))
    c.unescape.ensures
