use Rattle.keep_syntax_store.specs.Flat.{flat}
use Rattle.keep_syntax.proofs.ValueCodeLaws.{scalar_is}
use Rattle.keep_syntax.proofs.value.scalar.Goals as goal

pub returns : goal.returns
returns c =
    scalar_is c.args.profile c.args.text.now c.args.at c.args.keys c.args.start.now (flat c.args.out.now)
    (flat c.push_token.new.self) (flat c.push_value.new.self) c.in_ok-leaf.leaf c.in_ok-leaf.end
    c.requires c.in_ok-leaf.ensures.ends c.in_ok-leaf.ensures.found.0 c.in_ok-leaf.ensures.value
    c.in_ok-push_token.ensures.ok c.in_ok-push_value.ensures.ok
