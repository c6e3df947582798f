use Rattle.std.proofs.Common.{◌≡◌, ◌-◌, ◌∙◌, length, sym, arith, eqb-true, eq-eqb}
use Rattle.std.proofs.lemmas.Bool.Decides.{Decides-like}
use Rattle.std.proofs.lemmas.Slice.Eq.{bytes_eq-Decides}
use Rattle.keep_edit_runs.proofs.AlikeLaws.{renamed_alike, renamed_parts}
use Rattle.keep_edit_runs.proofs.alike.is_renamed_alike.Goals as goal
use Rattle.keep_edit_runs.proofs.alike.is_renamed_alike.Goals.{else-eq, then-eq}

pub returns-then-parents-saturating_sub : goal.returns-then-parents-saturating_sub
returns-then-parents-saturating_sub c =
    let other = c.args.other.now in
    let key = c.args.key.now in
    let more = c.args.other_key.now in
    let n = c.saturating_sub-parents.result in
    elim c.if-eq.branch [
      | then-eq w ↦
          let same = eqb-true n w.saturating_sub.result (sym w.value-is ∙ c.if-parents-saturating_sub.true) in
          let wide : n ≡ length other - 1 =
          omega (arith, same, w.saturating_sub.ensures, w.len-then-eq.ensures) in
          let (alike, parts) =
          renamed_alike n c.args.path.now other key more
          (omega (arith, c.saturating_sub-parents.ensures, c.len.ensures)) wide
          ((bytes_eq-Decides key more).0 (sym c.eq.ensures ∙ w.if-eq.true)) in
          Decides-like c.agree.result alike parts c.agree.ensures
      | else-eq w ↦ absurd cc
    ]

pub returns-else-parents-saturating_sub : goal.returns-else-parents-saturating_sub
returns-else-parents-saturating_sub c =
    let key = c.args.key.now in
    let more = c.args.other_key.now in
    let n = c.saturating_sub-parents.result in (
      λ yes. absurd cc,
      λ same.
          let (keys, many, steps) =
          renamed_parts n c.args.path.now c.args.other.now key more
          (omega (arith, c.saturating_sub-parents.ensures, c.len.ensures)) same in
          elim c.if-eq.branch [
            | then-eq w ↦
                w.value-is
                ∙ eq-eqb n w.saturating_sub.result
                (omega (arith, many, w.saturating_sub.ensures, w.len-then-eq.ensures))
            | else-eq w ↦ w.value-is ∙ c.eq.ensures ∙ (bytes_eq-Decides key more).1 keys
          ],
    )
