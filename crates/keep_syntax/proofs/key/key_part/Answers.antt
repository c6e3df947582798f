use Rattle.keep_syntax_store.specs.Flat.{flat}
use Rattle.keep_syntax.proofs.KeyCodeLaws.{part_is}
use Rattle.keep_syntax.proofs.key.key_part.Goals as goal

pub returns : goal.returns
returns c =
    part_is c.args.profile c.args.text.now c.args.at (flat c.args.out.now) (flat c.push_token.new.self)
    (flat c.push_key.new.self) c.in_ok-leaf.leaf c.in_ok-leaf.end
    c.requires c.in_ok-leaf.ensures.ends c.in_ok-leaf.ensures.found.0 c.in_ok-leaf.ensures.value
    c.in_ok-push_token.ensures.ok c.in_ok-push_key.ensures.ok
