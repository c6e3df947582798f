use Rattle.std.proofs.Common.{◌∙◌, ap, arith}
use Rattle.std.proofs.lemmas.List.{take_rest}
use Rattle.std.specs.List.{prefix_len}
use Rattle.keep_token.specs.Abnf.{is_ws}
use Rattle.keep_token.proofs.bytes.ws_run.Goals as goal

pub returns-in-Err-clause-len : goal.returns-in-Err-clause-len
returns-in-Err-clause-len c =
    let at = c.in-Err.at in
    let tail = c.ws_tail.ensures.len ∙ ap (prefix_len is_ws) (take_rest c.args.bytes.now at) in
    omega (arith, tail, c.in-Err.ensures.run)
