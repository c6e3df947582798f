use Rattle.std.proofs.Common.{◌∙◌, ap, sym, length, ◌-◌, slice_get}
use Rattle.std.specs.Prelude.{option_copied}
use Rattle.keep_edit_plan.proofs.AppendLaws.{by_last}
use Rattle.keep_edit_plan.proofs.append.ends_in_newline.Goals as goal

pub returns-in-Some : goal.returns-in-Some
returns-in-Some c =
    by_last c.args.text.now _ (sym (ap option_copied c.in-Some.is) ∙ c.last.ensures.value
    ∙ ap (λ t. slice_get t (length t - 1)) c.as_bytes.ensures.value)
