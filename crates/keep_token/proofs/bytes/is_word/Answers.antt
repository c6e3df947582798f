-- The table agrees with the class.
use Rattle.std.proofs.Common.{◌≡◌, ◌<◌, ◌==◌, not, get_or, length, true, refl, arith}
use Rattle.std.specs.Prelude.{bit_and}
use Rattle.keep_token.specs.declared.bytes.TheConstants.{CLASSES}
use Rattle.keep_token.specs.Abnf.{is_word}
use Rattle.keep_token.proofs.ClassLaws.{agrees, agrees_all}
use Rattle.keep_token.proofs.bytes.is_word.Goals as goal

table : agrees is_word 4 0 CLASSES ≡ true
table = refl

pub returns : goal.returns
returns c =
    let within : c.args.byte < length CLASSES = omega arith in
    let h : not (bit_and (get_or CLASSES c.args.byte 0) 4 == 0) ≡ is_word c.args.byte =
    agrees_all is_word 4 CLASSES c.args.byte table within in
    cc
