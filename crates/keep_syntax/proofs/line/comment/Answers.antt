use Rattle.std.proofs.Common.{◌≡◌, ◌==◌, get_or, false, arith}
use Rattle.std.proofs.lemmas.Bool.Decides.{nat_tests}
use Rattle.keep_syntax_store.specs.Flat.{flat}
use Rattle.keep_syntax.proofs.LineCodeLaws.{other_comment, comment_kind, none_comment, some_comment}
use Rattle.keep_syntax.proofs.line.comment.Goals as goal

pub returns-then-byte_at-ne35 : goal.returns-then-byte_at-ne35
returns-then-byte_at-ne35 c =
    let other : (get_or c.args.text.now c.args.at 0 == 35) ≡ false = grind (arith, nat_tests, c.byte_at.ensures) in
    other_comment c.args.text.now c.args.at (flat c.args.out.now) c.requires other

pub returns-in_ok-push_token-in-Some : goal.returns-in_ok-push_token-in-Some
returns-in_ok-push_token-in-Some c =
    let e = comment_kind c.args.text.now c.args.at c.in-Some.field-0-0 c.in-Some.end (omega (arith, c.byte_at.ensures))
    c.in-Some.ensures.value in
    some_comment c.args.text.now c.args.at (flat c.args.out.now) (flat c.push_token.new.self) c.in-Some.end c.requires
    c.in-Some.ensures.ends e c.in_ok-push_token-in-Some.ensures.ok

pub returns-in-None : goal.returns-in-None
returns-in-None c = none_comment c.args.text.now c.args.at (flat c.args.out.now) c.requires c.in-None.ensures.value
