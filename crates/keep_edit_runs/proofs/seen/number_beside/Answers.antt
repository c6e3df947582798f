use Rattle.std.proofs.Common.{◌≡◌, ◌∙◌, ap, length, take, ◌-◌}
use Rattle.std.specs.Hash.FoldHasher.{finish, write}
use Rattle.keep_edit_runs.specs.Seen.{hashed, with_step}
use Rattle.keep_edit_runs.proofs.SeenLaws.{hashed_beside}
use Rattle.keep_edit_runs.proofs.seen.number_beside.Goals as goal

pub returns : goal.returns
returns c =
    let path = c.args.path.now in
    let before : c.hashed-hasher.result ≡ hashed (take (length path - 1) path) = cc in
    let text : c.write.new.self ≡ write c.hashed-hasher.result c.args.key.now = cc in
    c.finish.ensures ∙ ap finish (text ∙ hashed_beside with_step path c.args.key.now c.hashed-hasher.result before)
