use Rattle.std.proofs.Common.{◌≡◌, ◌-◌, ◌∙◌, length, slice_get, sym, ap, arith, Some}
use Rattle.std.specs.Option.{option_map, option_copied}
use Rattle.keep_path.specs.Step.{part_of}
use Rattle.keep_edit_plan.proofs.RenameLaws.{last_is, by_key, by_index, by_nothing}
use Rattle.keep_edit_plan.proofs.rename.ends_in_key.Goals as goal

pub returns-in-Some-Key : goal.returns-in-Some-Key
returns-in-Some-Key c =
    let n : length c.args.path.now - 1 ≡ c.saturating_sub.result =
    omega (arith, c.saturating_sub.ensures, c.len.ensures.count) in
    by_key c.args.path.now _ (sym (last_is c.args.path.now) ∙ ap (slice_get c.args.path.now) n ∙ sym c.step.ensures
    ∙ ap (λ o. option_map part_of (option_copied o)) c.in-Some-Key.is
    ∙ ap (λ s. Some (part_of s)) c.in-Some-Key.field-0-is)

pub returns-in-Some-Index : goal.returns-in-Some-Index
returns-in-Some-Index c =
    let n : length c.args.path.now - 1 ≡ c.saturating_sub.result =
    omega (arith, c.saturating_sub.ensures, c.len.ensures.count) in
    by_index c.args.path.now _ (sym (last_is c.args.path.now) ∙ ap (slice_get c.args.path.now) n ∙ sym c.step.ensures
    ∙ ap (λ o. option_map part_of (option_copied o)) c.in-Some-Index.is
    ∙ ap (λ s. Some (part_of s)) c.in-Some-Index.field-0-is)

pub returns-in-None : goal.returns-in-None
returns-in-None c =
    let n : length c.args.path.now - 1 ≡ c.saturating_sub.result =
    omega (arith, c.saturating_sub.ensures, c.len.ensures.count) in
    by_nothing c.args.path.now (sym (last_is c.args.path.now) ∙ ap (slice_get c.args.path.now) n ∙ sym c.step.ensures
    ∙ ap (λ o. option_map part_of (option_copied o)) c.in-None.is)
