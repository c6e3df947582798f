-- The body is between two marks, and its pieces are those of the string.
use Rattle.std.proofs.Common.{[], ◌∷◌, arith, ◌∙◌, refl}
use Rattle.std.proofs.lemmas.Result.{IfOk-weaker}
use Rattle.keep_token.specs.Strings.{text_of}
use Rattle.keep_token.proofs.StringBodies.{start_cut, nested, one_ascii, basic_body}
use Rattle.keep_token.proofs.decode.decode_basic.Goals as goal

pub range-requires-clause-start_boundary : goal.range-requires-clause-start_boundary
range-requires-clause-start_boundary c _ =
    start_cut c.args.text.now (0x22 ∷ []) (text_of c.requires.0) (0x22 ∷ []) 1 c.requires.1.spelled c.utf8.text
    (one_ascii 0x22 (omega arith)) refl

pub unescape-requires : goal.unescape-requires
unescape-requires c =
    let (ps, string) = c.requires in
    let body =
    c.range.ensures.value
    ∙ nested c.args.text.now (0x22 ∷ []) (text_of ps) (0x22 ∷ []) 1 _ string.spelled refl
    (omega (arith, c.range.ensures.len)) in
    (ps, basic_body c.range.result.now ps body string.each)

pub returns : goal.returns
returns c =
    let (ps, string) = c.requires in
    let body =
    c.range.ensures.value
    ∙ nested c.args.text.now (0x22 ∷ []) (text_of ps) (0x22 ∷ []) 1 _ string.spelled refl
    (omega (arith, c.range.ensures.len)) in
    IfOk-weaker c.unescape.result _ _
    (λ s given. (ps, string, given ps (basic_body c.range.result.now ps body string.each))) c.unescape.ensures
