use Rattle.std.proofs.Common.{List, subst, sym}
use Rattle.std.proofs.lemmas.List.Elements.{All-weaker}
use Rattle.keep_edit_runs.specs.Gone.{AreArraysApart, AreKnown, GoneNumbers}
use Rattle.keep_edit_runs.specs.KnownArrays.{IsKnown}
use Rattle.keep_edit_spec.specs.Runs.{AreApart}
use Rattle.keep_edit_runs.proofs.GoneLaws.{added_apart, array_added}
use Rattle.keep_edit_runs.proofs.KnownLaws.{all_still, one_more}
use Rattle.keep_edit_runs.proofs.gone.GoneElements.add_array.Goals as goal

pub invariant_of-self : goal.invariant_of-self
invariant_of-self c = (
  c.self.invariant.0,
  all_still c.self.inside.known c.add.new.self c.self.inside.arrays.items c.add.ensures.others c.self.invariant.1,
)

pub invariant_of-self-in_default-push : goal.invariant_of-self-in_default-push
invariant_of-self-in_default-push c =
    subst (λ (all : List GoneNumbers). AreArraysApart all × AreKnown c.add.new.self all)
    (sym c.in_default-push.ensures.items) (
      c.self.invariant.0,
      all_still c.self.inside.known c.add.new.self c.self.inside.arrays.items c.add.ensures.others c.self.invariant.1,
    )

pub invariant_of-self-2 : goal.invariant_of-self-2
invariant_of-self-2 c = (
  added_apart c.self.inside.arrays.items c.push.new.self.items c.in-Some.gone c.args.array.now c.args.number
      c.in-Some.ensures c.in-Ok-push.ensures.items c.self.invariant.0
      (All-weaker (λ g. IsKnown c.self.inside.known g.array) (λ g. AreApart g.array c.args.array.now)
      (λ g is. c.are_apart.ensures c.if-not-are_apart.false g.array is) c.self.inside.arrays.items c.self.invariant.1),
  one_more c.self.inside.known c.add.new.self c.self.inside.arrays.items c.push.new.self.items c.in-Some.gone
      c.args.array.now c.args.number c.in-Some.ensures c.in-Ok-push.ensures.items c.add.ensures.others
      c.in-Ok.ensures.added c.self.invariant.1,
)

pub returns : goal.returns
returns c = λ t.
    array_added c.self.inside.arrays.items c.push.new.self.items c.in-Some.gone c.args.array.now c.args.number
    c.in-Some.ensures c.in-Ok-push.ensures.items c.args.self.now c.self.view_is
