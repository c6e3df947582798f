use Rattle.std.proofs.Common.{◌≡◌, ℕ, arith, get_or, inl, inr, length, refl, string_bytes, subst, sym, ◌∙◌}
use Rattle.std.proofs.lemmas.Bool.{cases_lt}
use Rattle.std.proofs.lemmas.List.{length-map}
use Rattle.std.proofs.lemmas.Option.{get_or_from_slice_get, slice_get_read}
use Rattle.keep_edit_plan.specs.Headers.{key_texts}
use Rattle.keep_edit_runs.specs.declared.outline.Outline.{Outline}
use Rattle.keep_edit_runs.specs.declared.outline.Outline.TheVariants.{Element}
use Rattle.keep_edit_runs.specs.Runs.{LeavesAlone}
use Rattle.keep_edit_runs.proofs.AlikeLaws.{same_or_apart}
use Rattle.keep_edit_runs.proofs.alike.are_elements_alike.Goals as goal

pub loop-outline-preserved : goal.loop-outline-preserved
loop-outline-preserved c = λ k d lt. elim (cases_lt k c.loop-outline.outline-index) [
  | inl before ↦ c.loop-outline.invariant k d before
  | inr past ↦
      let outlines = c.args.outlines.now in
      let n = c.loop-outline.outline-index in
      let x = c.outline-item.result in
      let keys = c.in-Element-outline.keys.now in
      let more = c.in-Element.more.now in
      let long : length (key_texts keys) ≡ length (key_texts more) =
      omega (
        arith,
        length-map keys string_bytes,
        length-map more string_bytes,
        c.if-keys-more.false,
      ) in
      let is : get_or outlines n d ≡ x =
      get_or_from_slice_get outlines n x d
      (slice_get_read outlines (length outlines) n x refl (omega arith) c.outline-item.is) in
      let here : n ≡ k = omega (arith, lt, past) in
      subst (λ (m : ℕ). LeavesAlone (get_or outlines m d) c.args.other.now) here
      (subst (λ (e : Outline). LeavesAlone e c.args.other.now) (sym (is ∙ c.in-Element-outline.is))
      (subst (LeavesAlone (Element c.in-Element-outline.keys)) (sym c.in-Element.is)
      (same_or_apart (key_texts keys) (key_texts more) long)))
]
