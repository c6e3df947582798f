use Rattle.std.proofs.Common.{◌≡◌, None}
use Rattle.std.proofs.lemmas.List.Elements.{All-weaker}
use Rattle.keep_path.specs.Path.{strip}
use Rattle.keep_edit_runs.specs.KnownArrays.{IsKnown}
use Rattle.keep_edit_runs.proofs.KnownLaws.{when_none}
use Rattle.keep_edit_runs.proofs.gone.array_above.Goals as goal

pub returns-in_err-number-clause-none : goal.returns-in_err-number-clause-none
returns-in_err-number-clause-none c = λ none.
    All-weaker (λ g. IsKnown c.args.known.now g.array) (λ g. strip g.array c.args.path.now ≡ None)
    (λ g is. when_none c.above.result _ c.in_err-number.was c.above.ensures g.array is) c.args.arrays.now c.requires
