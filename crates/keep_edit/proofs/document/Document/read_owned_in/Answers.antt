use Rattle.std.proofs.Common.{◌≡◌, ℕ, List, true, false, subst, Err}
use Rattle.keep_syntax.specs.declared.fault.ReadFault.TheVariants.{Utf8}
use Rattle.keep_edit.specs.Reading.{IsRefused, ReportsNoText, text_in}
use Rattle.keep_edit.proofs.ReadLaws.{not_utf8, reports_no_text}
use Rattle.keep_edit.proofs.document.Document.read_owned_in.Goals as goal

pub returns-in-Err-clause-faults : goal.returns-in-Err-clause-faults
returns-in-Err-clause-faults c =
    let refused =
    not_utf8 c.args.profile c.as_slice.result.now c.in-Err.at
    (λ u. let e : false ≡ true = c.in-Err.ensures.ok.1 u in absurd cc) c.in-Err.ensures.prefix in
    subst (λ (bytes : List ℕ). IsRefused (text_in c.args.profile bytes) (Utf8 c.in-Err.at)) c.as_slice.ensures.value
    refused

pub returns-in-Err-clause-no_text : goal.returns-in-Err-clause-no_text
returns-in-Err-clause-no_text c =
    subst (λ (bytes : List ℕ). ReportsNoText bytes (Err (Utf8 c.in-Err.at))) c.as_slice.ensures.value
    (reports_no_text c.as_slice.result.now c.in-Err.at c.in-Err.ensures.prefix)
