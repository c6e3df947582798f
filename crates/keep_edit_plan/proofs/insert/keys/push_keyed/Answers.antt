use Rattle.std.proofs.Common.{◌++◌, ap, ◌∙◌, string_bytes}
use Rattle.keep_edit_plan.proofs.WritingLaws.{keyed_written, value_written}
use Rattle.keep_edit_plan.proofs.insert.keys.push_keyed.Goals as goal
use Rattle.keep_edit_plan.proofs.insert.keys.push_keyed.Goals.{then-from-to+in_ok-push_keys+in_ok-push_str}
use Rattle.keep_edit_plan.proofs.insert.keys.push_keyed.Goals.{else-from-to}

pub returns : goal.returns
returns c = λ v read. elim c.if-from-to.branch [
  | then-from-to+in_ok-push_keys+in_ok-push_str w ↦
      keyed_written c.args.from c.len-to.result c.args.path.now v _ _ _ _ _ w.if-from-to.true c.len-to.ensures.count
      c.requires w.in_ok-push_keys.ensures (ap string_bytes w.out-is ∙ w.in_ok-push_str.ensures.bytes)
      (c.as_str.ensures.text ∙ read.reads.spelled) c.in_ok-push_str-2.ensures.bytes
  | else-from-to w ↦
      value_written c.args.from c.len-to.result c.args.path.now v _ _ _ w.if-from-to.false c.len-to.ensures.count
      (c.as_str.ensures.text ∙ read.reads.spelled)
      (c.in_ok-push_str-2.ensures.bytes ∙ ap (λ o. string_bytes o ++ c.as_str.result.now) w.out-is)
]
