use Rattle.std.proofs.Common.{sym}
use Rattle.keep_syntax_store.specs.Flat.{flat}
use Rattle.keep_syntax.proofs.GapCodeLaws.{other_byte, white_leaf}
use Rattle.keep_syntax.proofs.gap.space.Goals as goal

pub returns-then-not-is_ws : goal.returns-then-not-is_ws
returns-then-not-is_ws c =
    other_byte c.args.text.now c.args.at (flat c.args.out.now) c.requires
    (rw (c.is_ws.ensures, c.byte_at.ensures) at c.if-not-is_ws.true)

pub returns : goal.returns
returns c =
    white_leaf c.args.text.now c.args.at (flat c.args.out.now) (flat c.push_token.new.self) c.ws_end.result
    c.requires c.ws_end.ensures.ends (sym c.ws_end.ensures.value) c.in_ok-push_token.ensures.ok
