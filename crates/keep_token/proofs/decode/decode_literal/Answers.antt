-- The value is the text between two marks.
use Rattle.std.proofs.Common.{[], ◌∷◌, arith, ◌∙◌, refl, sym}
use Rattle.std.proofs.lemmas.Result.{IfOk-weaker}
use Rattle.keep_token.specs.Strings.{text_of}
use Rattle.keep_token.proofs.StringBodies.{start_cut, nested, one_ascii, literal_value}
use Rattle.keep_token.proofs.decode.decode_literal.Goals as goal

pub range-requires-clause-start_boundary : goal.range-requires-clause-start_boundary
range-requires-clause-start_boundary c _ =
    start_cut c.args.text.now (0x27 ∷ []) (text_of c.requires.0) (0x27 ∷ []) 1 c.requires.1.spelled c.utf8.text
    (one_ascii 0x27 (omega arith)) refl

pub returns : goal.returns
returns c =
    let (ps, string) = c.requires in
    let body =
    c.range.ensures.value
    ∙ nested c.args.text.now (0x27 ∷ []) (text_of ps) (0x27 ∷ []) 1 _ string.spelled refl
    (omega (arith, c.range.ensures.len)) in
    IfOk-weaker c.from_str.result _ _ (λ s same. (ps, string, same ∙ body ∙ sym (literal_value ps string.each)))
    c.from_str.ensures.ok
