-- The text is read, and its syntax and index are those of one document.
use Rattle.std.proofs.Common.{None, Option, Some}
use Rattle.std.specs.Prelude.{IfOk, IfSome}
use Rattle.keep_syntax.specs.Contract.{IsReadOf, IsTextOf}
use Rattle.keep_rules.specs.ReadDocuments.{IsBuilt}
use Rattle.keep_edit_plan.specs.Reading.{IsAccepted, limit, text_in}
use Rattle.keep_edit_runs.proofs.ReadLaws.{holds, was_read}
use Rattle.keep_edit_runs.proofs.ValueAfterLaws.{ok_there}
use Rattle.keep_edit_runs.proofs.value_after.change_in.Goals as goal

whatever_some : {A : Type 0} (Q : Type 0) (o : Option A) → Q → IfSome o (λ _. Q)
whatever_some Q None q = tt
whatever_some Q (Some a) q = q

pub build-requires : goal.build-requires
build-requires c =
    let (d, reads, is) =
    ok_there (λ r. IfOk r (IsReadOf c.args.profile limit c.args.text.now)) c.read.result _ c.in_ok-syntax.ensures.value
    c.read.ensures.found in
    (d, was_read reads is)

pub new-requires : goal.new-requires
new-requires c =
    let text = c.args.text.now in
    let (d, reads, is) =
    ok_there (λ r. IfOk r (IsReadOf c.args.profile limit text)) c.read.result _ c.in_ok-syntax.ensures.value
    c.read.ensures.found in
    let of_text =
    ok_there (λ r. IfOk r (λ syntax. IsTextOf syntax text)) c.read.result _ c.in_ok-syntax.ensures.value
    c.read.ensures.of_text in
    let built =
    ok_there (IsBuilt text c.in_ok-syntax.syntax) c.build.result _ c.in_ok-index.ensures.value c.build.ensures in
    holds c.args.profile text c.in_ok-syntax.syntax c.in_ok-index.index d c.utf8.text reads is of_text built.ok

pub returns-clause-read : goal.returns-clause-read
returns-clause-read c =
    let text = c.args.text.now in
    let (d, reads, is) =
    ok_there (λ r. IfOk r (IsReadOf c.args.profile limit text)) c.read.result _ c.in_ok-syntax.ensures.value
    c.read.ensures.found in
    let built =
    ok_there (IsBuilt text c.in_ok-syntax.syntax) c.build.result _ c.in_ok-index.ensures.value c.build.ensures in
    let obeys = (built.ok d (was_read reads is)).obeys in
    whatever_some (IsAccepted (text_in c.args.profile text)) c.change_of_holder.result
    (d, record { utf8 = c.utf8.text; reads = reads; obeys = obeys })
