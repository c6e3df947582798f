use Rattle.std.proofs.Common.{drop}
use Rattle.keep_edit_spec.specs.Look.{keys_in}
use Rattle.keep_edit_plan.proofs.LineWriting.{line_pushed}
use Rattle.keep_edit_plan.proofs.document.DocumentRef.push_line.Goals as goal

pub returns : goal.returns
returns c = λ s read v given.
    line_pushed c.args.self.now s c.args.at (keys_in (drop c.args.from c.args.path.now)) v c.newline-newline.result.now
    _ _ _ _ read (c.newline-newline.ensures s read) (c.in_ok-push_missing.ensures s read)
    (c.in_ok-push_keyed.ensures v given) c.in_ok-push_str.ensures.bytes
