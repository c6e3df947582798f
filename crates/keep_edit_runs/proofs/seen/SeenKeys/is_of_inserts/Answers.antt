use Rattle.std.proofs.Common.{◌≡◌, ap, false, true, ◌∙◌}
use Rattle.keep_edit_spec.specs.Runs.{is_insert}
use Rattle.keep_edit_runs.specs.Runs.{outlined}
use Rattle.keep_edit_runs.proofs.KindLaws.{of_kind}
use Rattle.keep_edit_runs.proofs.seen.SeenKeys.is_of_inserts.Goals as goal

pub returns-in-Insert : goal.returns-in-Insert
returns-in-Insert c = λ yes other h.
    (of_kind c.args.self.now c.args.self.now.first other h).0 ∙ ap (λ f. is_insert (outlined f)) c.in-Insert.is

pub returns-in_default : goal.returns-in_default
returns-in_default c = λ yes other h. (let no : false ≡ true = yes in absurd cc)
