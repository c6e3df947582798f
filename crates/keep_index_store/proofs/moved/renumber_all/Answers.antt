use Rattle.std.proofs.Common.{ap, arith, ◌∙◌, ◌≡◌, ◌<◌, length, get_or, set}
use Rattle.std.proofs.lemmas.List.{get_or_default}
use Rattle.std.proofs.lemmas.List.Edits.{map_over_more}
use Rattle.keep_index_store.specs.Moved.{moved_number}
use Rattle.keep_index_store.proofs.MovedListLemmas.{partly_count}
use Rattle.keep_index_store.proofs.moved.renumber_all.Goals as goal

pub loop-id-preserved : goal.loop-id-preserved
loop-id-preserved c =
    let f = moved_number c.args.last c.args.at in
    let low : c.loop-id.id-index < length c.args.ids.now = omega (arith, c.loop-id-test.true) in
    let many : length c.loop-id.ids ≡ length c.args.ids.now =
    partly_count f c.args.ids.now c.loop-id.ids c.loop-id.id-index c.loop-id.invariant (omega (arith, low)) in
    let x = get_or c.loop-id.ids c.loop-id.id-index 0 in
    ap (set c.loop-id.ids c.loop-id.id-index) c.number_then.ensures
    ∙ map_over_more f c.args.ids.now c.loop-id.ids c.loop-id.id-index x low c.loop-id.invariant
    (get_or_default c.loop-id.ids c.loop-id.id-index 0 x (omega (arith, low, many)))
