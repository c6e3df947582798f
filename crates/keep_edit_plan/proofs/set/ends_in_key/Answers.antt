use Rattle.std.proofs.Common.{◌≡◌, ℕ, ◌-◌, List, length, slice_get, refl, sym, ap, ◌∙◌, Some, None}
use Rattle.keep_path.specs.Path.{EndsInKey, Part, index, key}
use Rattle.keep_path.specs.declared.step.Step.{Step}
use Rattle.keep_path.specs.Step.{part_of}
use Rattle.keep_edit_plan.proofs.ValueChangeLaws.{ends_in_key, key_at_end}
use Rattle.keep_edit_plan.proofs.set.ends_in_key.Goals as goal

-- the last step, by what was asked for
last_step : (c : goal.In-Some-Key)
    → slice_get c.args.path.now (length c.args.path.now - 1) ≡ Some (part_of c.in-Some-Key.field-0.now)
last_step c =
    ap (λ (n : ℕ). slice_get c.args.path.now (n - 1)) (sym c.len.ensures.count)
    ∙ ap (λ (n : ℕ). slice_get c.args.path.now n) (sym c.saturating_sub.ensures) ∙ sym c.in-Some-Key.ensures

pub returns-in-Some-Key : goal.returns-in-Some-Key
returns-in-Some-Key c =
    let is : part_of c.in-Some-Key.field-0.now
    ≡ part_of (Rattle.keep_path.specs.declared.step.Step.TheVariants.Key c.in-Some-Key.field-0-0) =
    ap part_of c.in-Some-Key.field-0-is in
    ((λ yes. ends_in_key c.args.path.now _ (last_step c ∙ ap Some is)), (λ ends. refl))

-- of a path that ends in a key, by its number
its_key : (path : List Part) (count at : ℕ) → count ≡ length path → at ≡ count - 1 → EndsInKey path
    → (text : List ℕ) × (slice_get path at ≡ Some (key text))
its_key path count at many is ends =
    let (text, e) = key_at_end path ends in
    (text, ap (λ (n : ℕ). slice_get path n) (is ∙ ap (λ (n : ℕ). n - 1) many) ∙ e)

pub returns-in-Some-Index : goal.returns-in-Some-Index
returns-in-Some-Index c = (
  (λ no. absurd cc),
  (λ ends.
      let (text, e) =
      its_key c.args.path.now c.len.result c.saturating_sub.result c.len.ensures.count c.saturating_sub.ensures ends in
      let both : Some (index c.in-Some-Index.field-0-0) ≡ Some (key text) =
      ap (λ (s : Step). Some (part_of s)) (sym c.in-Some-Index.field-0-is) ∙ c.in-Some-Index.ensures ∙ e in
      absurd cc),
)

pub returns-in-None : goal.returns-in-None
returns-in-None c = (
  (λ no. absurd cc),
  (λ ends.
      let (text, e) =
      its_key c.args.path.now c.len.result c.saturating_sub.result c.len.ensures.count c.saturating_sub.ensures ends in
      let both : None ≡ Some (key text) = c.in-None.ensures ∙ e in
      absurd cc),
)
