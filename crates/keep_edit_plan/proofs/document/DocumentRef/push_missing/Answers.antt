use Rattle.keep_edit_plan.proofs.LineWriting.{some_missing, none_missing}
use Rattle.keep_edit_plan.proofs.document.DocumentRef.push_missing.Goals as goal

pub returns-in_ok-push_str : goal.returns-in_ok-push_str
returns-in_ok-push_str c =
    λ s read.
    some_missing c.args.self.now s c.args.at c.is_open.result c.args.newline.now _ _ (c.is_open.ensures s read)
    c.if-is_open.true c.in_ok-push_str.ensures.bytes

pub returns-else-is_open : goal.returns-else-is_open
returns-else-is_open c =
    λ s read.
    none_missing c.args.self.now s c.args.at c.is_open.result c.args.newline.now _ (c.is_open.ensures s read)
    c.if-is_open.false
