use Rattle.std.proofs.Common.{ap, arith, ℕ, List, ◌∙◌, ◌≡◌, ◌<◌, length, get_or, set}
use Rattle.std.proofs.lemmas.List.{get_or_default}
use Rattle.std.proofs.lemmas.List.Edits.{map_over_more}
use Rattle.keep_path.specs.NodeInfos.{earlier_number}
use Rattle.keep_index_store.proofs.MovedListLemmas.{partly_count}
use Rattle.keep_index_store.proofs.removed.renumber_earlier.Goals as goal

pub loop-id-preserved : goal.loop-id-preserved
loop-id-preserved c =
    let f = earlier_number c.args.at in
    let now : List ℕ = c.args.ids.now in
    let ids : List ℕ = c.loop-id.ids in
    let i : ℕ = c.loop-id.id-index in
    let low : i < length now = omega (arith, c.loop-id-test.true) in
    let many : length ids ≡ length now = partly_count f now ids i c.loop-id.invariant (omega (arith, low)) in
    let x = get_or ids i 0 in
    ap (set ids i) c.earlier_number.ensures
    ∙ map_over_more f now ids i x low c.loop-id.invariant (get_or_default ids i 0 x (omega (arith, low, many)))
