use Rattle.std.proofs.Common.{◌≡◌, ℕ, ◌<◌, false, List, [], ◌∷◌, length, refl, ap, ◌∙◌, arith}
use Rattle.std.proofs.lemmas.List.{take_rest}
use Rattle.keep_types.specs.declared.leaf.Profile.{Profile}
use Rattle.keep_token.specs.Words.{is_time, is_time_end, is_short}
use Rattle.keep_token.proofs.TestChains.{and_fails, and_or_first, and_or_second}
use Rattle.keep_token.proofs.dates.is_time.Goals as goal

too_short : (profile : Profile) (t : List ℕ) → length t < 5 → false ≡ is_time profile t
too_short profile [] h = refl
too_short profile (a ∷ []) h = refl
too_short profile (a ∷ b ∷ []) h = refl
too_short profile (a ∷ b ∷ c ∷ []) h = refl
too_short profile (a ∷ b ∷ c ∷ d ∷ []) h = refl
too_short profile (a ∷ b ∷ c ∷ d ∷ e ∷ more) h = absurd (omega arith)

pub returns-then-bytes-lt5 : goal.returns-then-bytes-lt5
returns-then-bytes-lt5 c = too_short c.args.profile c.args.bytes.now c.if-bytes-lt5.true

pub returns-else-is_minutes : goal.returns-else-is_minutes
returns-else-is_minutes c = and_fails _ _ _ c.is_minutes.ensures c.if-is_minutes.false

pub returns-then-is_time_end : goal.returns-then-is_time_end
returns-then-is_time_end c =
    let end = c.is_time_end.ensures ∙ ap is_time_end (take_rest c.args.bytes.now 5) in
    and_or_first _ _ _ _ _ c.is_minutes.ensures c.if-is_minutes.true end c.if-is_time_end.true

pub returns-else-is_time_end : goal.returns-else-is_time_end
returns-else-is_time_end c =
    let end = c.is_time_end.ensures ∙ ap is_time_end (take_rest c.args.bytes.now 5) in
    let short = c.is_short.ensures ∙ ap (is_short c.args.profile) (take_rest c.args.bytes.now 5) in
    and_or_second _ _ _ _ _ _ c.is_minutes.ensures c.if-is_minutes.true end c.if-is_time_end.false short
