use Rattle.std.proofs.Common.{sym, ◌∙◌, ap, arith}
use Rattle.std.proofs.lemmas.List.{take_rest}
use Rattle.std.specs.List.{prefix_len}
use Rattle.keep_token.specs.Abnf.{is_comment}
use Rattle.keep_token.proofs.BlockLaws.{comment_class, comment_ends}
use Rattle.keep_token.proofs.comment.long_comment_len.Goals as goal

pub returns-in-Ok-clause-len : goal.returns-in-Ok-clause-len
returns-in-Ok-clause-len c = sym (comment_ends c.args.bytes.now c.in-Ok.len c.in-Ok.ensures.run)

pub returns-in-Err-clause-len : goal.returns-in-Err-clause-len
returns-in-Err-clause-len c =
    let at = c.in-Err.at in
    let tail = c.comment_run.ensures.len ∙ ap (prefix_len is_comment) (take_rest c.args.bytes.now at) in
    omega (arith, tail, comment_class c.args.bytes.now at c.in-Err.ensures.run)
