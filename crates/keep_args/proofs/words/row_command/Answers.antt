use Rattle.std.proofs.Common.{◌≡◌, ◌<◌, ◌∙◌, ◌||◌, Bool, List, arith, ap, ap₂, length, min, take}
use Rattle.clap.specs.Walk.{Text}
use Rattle.keep_args.specs.App.{word_ids}
use Rattle.keep_args.proofs.Building.{id_at, take_few, with_ids, word_added}
use Rattle.keep_args.proofs.words.row_command.Goals as goal

pub loop-place-preserved : goal.loop-place-preserved
loop-place-preserved c =
    let added = c.in_ok-inner.ensures in
    let lt : c.loop-place.place < 2 = omega (arith, c.loop-place-test.true, c.min-place-end.ensures) in
    record {
      shape = word_added c.args.row.now.0.now c.loop-place.place _ _ _ _ lt c.loop-place.invariant.shape
          c.word.ensures.rule (id_at _ _ _ c.loop-place.place lt) (added.shape c.word.ensures.local);
      local = added.globals ∙ ap₂ (λ (a b : Bool). a || b) c.loop-place.invariant.local c.word.ensures.local;
    }

pub returns-clause-shape : goal.returns-clause-shape
returns-clause-shape c =
    let place : c.loop-place.place ≡ min (length c.args.row.now.2.now) 2 =
    omega (arith, c.loop-place-test.false, c.loop-place.auto.place-end, c.min-place-end.ensures) in
    ◌∙◌ {b = with_ids c.args.row.now.0.now (take c.loop-place.place word_ids)} c.loop-place.invariant.shape
    (ap (λ (ids : List Text). with_ids c.args.row.now.0.now ids)
    (take_few (length c.args.row.now.2.now) c.loop-place.place place))
