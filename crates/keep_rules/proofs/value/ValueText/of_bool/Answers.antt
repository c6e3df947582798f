use Rattle.keep_rules.proofs.ValueLaws.{true_holds, false_holds, true_means, false_means}
use Rattle.keep_rules.proofs.value.ValueText.of_bool.Goals as goal
use Rattle.keep_rules.proofs.value.ValueText.of_bool.Goals.{then-value, else-value}

pub invariant_of-result : goal.invariant_of-result
invariant_of-result c = elim c.if-value.branch [
  | then-value w ↦ rw (c.in_ok-text.ensures.ok, w.from_str-is) true_holds
  | else-value w ↦ rw (c.in_ok-text.ensures.ok, w.from_str-is) false_holds
]

pub returns-clause-fact : goal.returns-clause-fact
returns-clause-fact c = elim c.if-value.branch [
  | then-value w ↦ rw (c.in_ok-text.ensures.ok, w.from_str-is, w.if-value.true) true_means
  | else-value w ↦ rw (c.in_ok-text.ensures.ok, w.from_str-is, w.if-value.false) false_means
]
