use Rattle.std.proofs.Common.{◌≡◌, true, false}
use Rattle.keep_edit.proofs.ReadLaws.{not_utf8, reports_no_text}
use Rattle.keep_edit.proofs.document.Document.read_in.Goals as goal

pub returns-in-Err-clause-faults : goal.returns-in-Err-clause-faults
returns-in-Err-clause-faults c =
    not_utf8 c.args.profile _ _ (λ u. let e : false ≡ true = c.in-Err.ensures.ok.1 u in absurd cc)
    c.in-Err.ensures.prefix

pub returns-in-Err-clause-no_text : goal.returns-in-Err-clause-no_text
returns-in-Err-clause-no_text c = reports_no_text _ _ c.in-Err.ensures.prefix
