use Rattle.std.proofs.Common.{◌≡◌, ℕ, arith, get_or, inl, inr, length, refl, rules, subst, sym, true}
use Rattle.std.proofs.lemmas.Bool.{cases_lt}
use Rattle.std.proofs.lemmas.Option.{get_or_from_slice_get, slice_get_read}
use Rattle.keep_edit_runs.specs.declared.outline.Outline.{Outline}
use Rattle.keep_edit_runs.specs.Runs.{LeavesAlone}
use Rattle.keep_edit_runs.proofs.alike.all_leave_alone.Goals as goal

pub loop-outline-preserved : goal.loop-outline-preserved
loop-outline-preserved c = λ k d lt. elim (cases_lt k c.loop-outline.outline-index) [
  | inl before ↦ c.loop-outline.invariant k d before
  | inr past ↦
      let outlines = c.args.outlines.now in
      let n = c.loop-outline.outline-index in
      let x = c.outline-item.result in
      let here : n ≡ k = omega (arith, lt, past) in
      let yes : c.leaves_alone.result ≡ true = search rules in
      let is : get_or outlines n d ≡ x =
      get_or_from_slice_get outlines n x d
      (slice_get_read outlines (length outlines) n x refl (omega arith) c.outline-item.is) in
      subst (λ (m : ℕ). LeavesAlone (get_or outlines m d) c.args.other.now) here
      (subst (λ (e : Outline). LeavesAlone e c.args.other.now) (sym is) (c.leaves_alone.ensures.0 yes))
]
