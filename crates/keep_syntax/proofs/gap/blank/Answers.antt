use Rattle.keep_syntax_store.specs.Flat.{flat}
use Rattle.keep_syntax.proofs.GapCodeLaws.{blank_none, blank_more, blank_done}
use Rattle.keep_syntax.proofs.gap.blank.Goals as goal

pub leaves-init : goal.leaves-init
leaves-init c = blank_none c.args.text.now c.args.at (flat c.args.out.now) c.requires

pub leaves-preserved : goal.leaves-preserved
leaves-preserved c =
    blank_more c.args.text.now c.args.at c.leaves.here (flat c.args.out.now) (flat c.leaves.out)
    (flat c.push_token.new.self) c.in-Some.leaf c.in-Some.end
    c.leaves.invariant c.in-Some.ensures.value c.in-Some.ensures.found.0 c.in-Some.ensures.ends
    c.in_ok-push_token.ensures.ok

pub returns : goal.returns
returns c =
    blank_done c.args.text.now c.args.at c.leaves.here (flat c.args.out.now) (flat c.leaves.out) c.leaves.invariant
    (rw c.in_default.is at c.scan_gap.ensures.value)
