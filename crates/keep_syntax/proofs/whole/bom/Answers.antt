use Rattle.std.proofs.Common.{sym, ◌∙◌}
use Rattle.keep_syntax_store.specs.Flat.{flat}
use Rattle.keep_syntax.proofs.WholeCodeLaws.{bom_there, bom_absent}
use Rattle.keep_syntax.proofs.whole.bom.Goals as goal

pub returns-in_ok-push_token : goal.returns-in_ok-push_token
returns-in_ok-push_token c =
    bom_there c.args.text.now (flat c.args.out.now) (flat c.push_token.new.self) c.utf8.text
    (sym c.has_bom.ensures ∙ c.if-has_bom.true) c.in_ok-push_token.ensures.ok

pub returns-else-has_bom : goal.returns-else-has_bom
returns-else-has_bom c =
    bom_absent c.args.text.now (flat c.args.out.now) c.utf8.text (sym c.has_bom.ensures ∙ c.if-has_bom.false)
