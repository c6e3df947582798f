use Rattle.std.proofs.Common.{length, sym, subst, ap, ◌∙◌, arith}
use Rattle.keep_syntax_store.specs.Starts.{Ascend, last_of}
use Rattle.keep_syntax_store.specs.Left.{places_left}
use Rattle.std.proofs.lemmas.List.{length-drop}
use Rattle.keep_syntax_store.specs.Rereading.{places_before}
use Rattle.keep_syntax_store.proofs.AscendLaws.{count_after}
use Rattle.keep_syntax_store.proofs.CountLaws.{all_before, before_within, run_counted, run_within}
use Rattle.keep_syntax_store.proofs.starts.Starts.count_before.Goals as goal

pub runs-init : goal.runs-init
runs-init c =
    let near = c.near_place-number in
    let all = c.args.self.now in
    record {
      counted =
          omega (
            arith,
            count_after c.args.place all near.result.0 near.ensures.within near.ensures.before,
            ap (places_before c.args.place) near.ensures.past.left,
          );
      bounded =
          omega (
            arith,
            near.ensures.within,
            ap length near.ensures.past.left,
            length-drop near.result.0 all,
            c.len-count.ensures,
          );
    }

pub overflow_add-result : goal.overflow_add-result
overflow_add-result c =
    omega (
      arith,
      c.runs.invariant.bounded,
      ap length c.in-Some.ensures.first,
      c.count_before.ensures,
      before_within c.args.place (places_left c.advance.new.self),
      c.len-count.type_inv,
    )

pub overflow_add-number-in-Some : goal.overflow_add-number-in-Some
overflow_add-number-in-Some c =
    let near = c.take_near-near.result in
    omega (
      arith,
      c.runs.invariant.bounded,
      c.len-count.type_inv,
      run_within c.in-Some.at c.advance.new.self.at (places_left c.runs.left) (places_left c.advance.new.self)
          near.steps.now (places_left c.take_near-near.new.self)
          c.in-Some.ensures.first c.take_near-near.ensures.left near.near,
    )

pub runs-preserved : goal.runs-preserved
runs-preserved c =
    let near = c.take_near-near.result in
    let at = c.in-Some.at in
    let there = c.advance.new.self.at in
    let left = places_left c.runs.left in
    let after = places_left c.advance.new.self in
    let rest = places_left c.take_near-near.new.self in
    record {
      counted = omega (
        arith,
        c.runs.invariant.counted,
        run_counted c.args.place at there left after near.steps.now rest c.in-Some.ensures.first c.in-Some.ensures.at
            c.take_near-near.ensures.left near.near
            (omega (arith, c.if-place-at.false)) (omega (arith, c.if-place-at-2.false, near.leads)),
      );
      bounded = omega (
        arith,
        c.runs.invariant.bounded,
        run_within at there left after near.steps.now rest c.in-Some.ensures.first c.take_near-near.ensures.left
            near.near,
      );
    }

pub returns-then-self-place : goal.returns-then-self-place
returns-then-self-place c =
    let stored = c.self.invariant.stored in
    c.len-count.ensures
    ∙ sym (all_before c.args.place 0 c.args.self.now (subst (Ascend 0) c.self.view_is stored.ascends)
    (omega (arith, c.if-self-place.true, stored.last_is, ap (last_of 0) c.self.view_is)))
