use Rattle.std.proofs.Common.{◌≡◌, ◌∙◌, ◌-◌, ap, length, take}
use Rattle.std.specs.Hash.FoldHasher.{finish, write}
use Rattle.keep_edit_runs.specs.SeenPaths.{keys_hashed, with_key}
use Rattle.keep_edit_runs.proofs.SeenLaws.{hashed_beside}
use Rattle.keep_edit_runs.proofs.seen_paths.number_of_keys_beside.Goals as goal

pub returns : goal.returns
returns c =
    let path = c.args.path.now in
    let hasher = c.keys_hashed-hasher.result in
    let before : hasher ≡ keys_hashed (take (length path - 1) path) = cc in
    let text : c.write.new.self ≡ write hasher c.args.key.now = cc in
    c.finish.ensures ∙ ap finish (text ∙ hashed_beside with_key path c.args.key.now hasher before)
