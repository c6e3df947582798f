use Rattle.std.proofs.Common.{◌<◌, arith, length}
use Rattle.keep_edit_runs.proofs.GoneFound.{gone_there, own_added, own_apart}
use Rattle.keep_edit_runs.proofs.GoneLaws.{not_counted}
use Rattle.keep_edit_runs.proofs.KnownLaws.{with_another}
use Rattle.keep_edit_runs.proofs.gone.GoneElements.add.Goals as goal

pub returns-in_default : goal.returns-in_default
returns-in_default c = λ t.
    not_counted c.args.self.now c.args.path.now (λ n e. let there = (c.last_index.ensures n).1 e in absurd cc)

pub invariant_of-self : goal.invariant_of-self
invariant_of-self c =
    let all = c.self.inside.arrays.items in
    let at = c.in-Some-array_above.at in
    let lt : at < length all = omega (arith, c.in-Some-array_above.ensures.found, c.as_slice.ensures.len) in (
      own_apart all at c.index.result.now c.index_mut.result.now c.add.new.self c.self.invariant.0 lt
          c.index.ensures c.index_mut.ensures.value c.add.ensures.array,
      with_another c.self.inside.known all at c.index_mut.result.now c.add.new.self lt c.index_mut.ensures.value
          c.add.ensures.array c.self.invariant.1,
    )

pub returns-then-is_at : goal.returns-then-is_at
returns-then-is_at c = λ added.
    own_added c.self.inside.arrays.items c.in-Some-array_above.at c.index.result.now c.index_mut.result.now
    c.add.new.self c.self.invariant.0 (omega (arith, c.in-Some-array_above.ensures.found, c.as_slice.ensures.len))
    c.index.ensures c.index_mut.ensures.value c.add.ensures.array c.args.self.now c.before_last-array.result
    c.args.path.now c.in-Some.number c.self.view_is (c.add.ensures.added added) (c.is_at.ensures.0 c.if-is_at.true)
    c.before_last-array.ensures ((c.last_index.ensures c.in-Some.number).0 c.in-Some.is)

pub returns-in-None : goal.returns-in-None
returns-in-None c = λ added.
    gone_there c.args.self.now c.add_array.new.self c.before_last-array.result c.args.path.now c.in-Some.number
    c.before_last-array.ensures ((c.last_index.ensures c.in-Some.number).0 c.in-Some.is) (c.add_array.ensures added)
