use Rattle.std.proofs.Common.{ap, arith, ℕ, List, ◌∙◌, ◌≡◌, ◌<◌, length, get_or, set, subst, sym}
use Rattle.std.proofs.lemmas.List.{get_or_default}
use Rattle.std.proofs.lemmas.List.Edits.{map_over_more}
use Rattle.keep_index_store.specs.Below.{shifted_by}
use Rattle.keep_index_store.specs.Replacing.{CanShift}
use Rattle.keep_index_store.proofs.MovedListLemmas.{partly_at, partly_count}
use Rattle.keep_index_store.proofs.replaced.shift_ids.Goals as goal

pub shifted-requires : goal.shifted-requires
shifted-requires c =
    let f = shifted_by c.args.by in
    let now : List ℕ = c.args.ids.now in
    let i : ℕ = c.loop-id.id-index in
    let low : i < length now = omega (arith, c.loop-id-test.true) in
    subst (CanShift c.args.by) (sym (partly_at f now c.loop-id.ids i c.loop-id.invariant 0 low)) (c.requires i 0 low)

pub loop-id-preserved : goal.loop-id-preserved
loop-id-preserved c =
    let f = shifted_by c.args.by in
    let now : List ℕ = c.args.ids.now in
    let ids : List ℕ = c.loop-id.ids in
    let i : ℕ = c.loop-id.id-index in
    let low : i < length now = omega (arith, c.loop-id-test.true) in
    let many : length ids ≡ length now = partly_count f now ids i c.loop-id.invariant (omega (arith, low)) in
    let x = get_or ids i 0 in
    ap (set ids i) c.shifted.ensures
    ∙ map_over_more f now ids i x low c.loop-id.invariant (get_or_default ids i 0 x (omega (arith, low, many)))
