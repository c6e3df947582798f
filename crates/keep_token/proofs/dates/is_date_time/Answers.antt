use Rattle.std.proofs.Common.{sym, ap, ◌∙◌}
use Rattle.std.proofs.lemmas.List.{take_rest}
use Rattle.keep_token.specs.Words.{is_time}
use Rattle.keep_token.proofs.TestChains.{and_fails, and_and_last, and_and_second}
use Rattle.keep_token.proofs.dates.is_date_time.Goals.{then-is_date, else-is_date}
use Rattle.keep_token.proofs.dates.is_date_time.Goals as goal

pub returns-then-is_between_date_and_time : goal.returns-then-is_between_date_and_time
returns-then-is_between_date_and_time c =
    let time = c.is_time.ensures ∙ ap (is_time c.args.profile) (take_rest c.args.bytes.now 11) in
    elim c.if-is_date.branch [
      | then-is_date w ↦
          and_and_last _ _ _ _ _ _ c.is_date.ensures w.if-is_date.true w.is_between_date_and_time.ensures
          (sym w.value-is ∙ c.if-is_between_date_and_time.true) time
      | else-is_date w ↦ absurd (let e = sym w.value-is ∙ c.if-is_between_date_and_time.true in cc)
    ]

pub returns-else-is_between_date_and_time : goal.returns-else-is_between_date_and_time
returns-else-is_between_date_and_time c =
    elim c.if-is_date.branch [
      | then-is_date w ↦ w.value-is
          ∙ and_and_second _ _ _ _ _ c.is_date.ensures w.if-is_date.true w.is_between_date_and_time.ensures
          (sym w.value-is ∙ c.if-is_between_date_and_time.false)
      | else-is_date w ↦ w.value-is ∙ and_fails _ _ _ c.is_date.ensures w.if-is_date.false
    ]
