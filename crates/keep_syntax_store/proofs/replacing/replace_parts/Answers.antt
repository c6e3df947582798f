use Rattle.std.proofs.Common.{◌≡◌, sym, ap, subst, ◌∙◌, Ok}
use Rattle.std.specs.Prelude.{Option, IfSome}
use Rattle.std.proofs.lemmas.Result.{on_ok_weaker, IfOk-weaker}
use Rattle.keep_syntax_store.specs.declared.moves.Counts.{Counts}
use Rattle.keep_syntax_store.specs.declared.replacing.Gone.{Gone}
use Rattle.keep_syntax_store.specs.After.{AreAfter}
use Rattle.keep_syntax_store.specs.Flat.{Flat, flat}
use Rattle.keep_syntax_store.specs.Rereading.{replaced_flat}
use Rattle.keep_syntax_store.specs.InPlace.{placed, counts_through, UndoesParts}
use Rattle.keep_syntax_store.proofs.PatchLaws.{undoes_same}
use Rattle.keep_syntax_store.proofs.ReplacingLaws.{placed_replaced}
use Rattle.keep_syntax_store.proofs.RestLaws.{in_place}
use Rattle.keep_syntax_store.proofs.replacing.replace_parts.Goals as goal

pub returns-in-Some-2-clause-done : goal.returns-in-Some-2-clause-done
returns-in-Some-2-clause-done c =
    let f : Flat = flat c.args.parts.now in
    let g : Flat = flat c.args.fresh in
    let until = c.in-Some.until in
    let now = placed f g c.counts_before-from.result c.counts_through-to.result until until.at in
    subst (λ (o : Option Gone). IfSome o (λ _. flat c.replace_lines.new.parts ≡ now)) c.in-Some-2.is
    c.in_ok-gone.ensures.done
    ∙ placed_replaced f g c.args.whole c.args.len c.args.size c.args.end c.requires.can c.counts_before-from.result
    c.counts_through-to.result until c.counts_at.result
    c.counts_before-from.ensures c.counts_through-to.ensures c.counts_at.ensures c.in-Some.ensures.1

pub returns-then-can_replace-clause-done : goal.returns-then-can_replace-clause-done
returns-then-can_replace-clause-done c =
    let f : Flat = flat c.args.parts.now in
    let g : Flat = flat c.args.fresh in
    let until = c.in-Some.until in
    let same : flat c.settle.new.self ≡ f = c.settle.ensures ∙ c.in_ok-gone.ensures.none (ap Ok c.in_default-2.is) in
    on_ok_weaker c.replace_run.result
    (λ done. done
    ∙ ap (λ (x : Flat). placed x g c.counts_before-from.result c.counts_through-to.result until until.at) same
    ∙ placed_replaced f g c.args.whole c.args.len c.args.size c.args.end c.requires.can c.counts_before-from.result
    c.counts_through-to.result until c.counts_at.result
    c.counts_before-from.ensures c.counts_through-to.ensures c.counts_at.ensures c.in-Some.ensures.1)
    c.replace_run.ensures.done

pub returns-then-can_replace-clause-undo : goal.returns-then-can_replace-clause-undo
returns-then-can_replace-clause-undo c =
    let same : flat c.settle.new.self ≡ flat c.args.parts.now =
    c.settle.ensures ∙ c.in_ok-gone.ensures.none (ap Ok c.in_default-2.is) in
    IfOk-weaker c.replace_run.result
    (λ (g : Gone). UndoesParts g c.settle.new.self c.replace_run.new.parts)
    (λ (g : Gone). UndoesParts g c.args.parts.now c.replace_run.new.parts)
    (λ g u. undoes_same g c.settle.new.self c.args.parts.now c.replace_run.new.parts same u)
    c.replace_run.ensures.undo

pub returns-clause-done : goal.returns-clause-done
returns-clause-done c =
    let same : flat c.settle.new.self ≡ flat c.args.parts.now =
    c.settle.ensures ∙ c.in_ok-gone.ensures.none (ap Ok c.in_default-2.is) in
    on_ok_weaker c.replace_whole-2.result
    (λ done. done
    ∙ ap (λ (x : Flat). replaced_flat x (flat c.args.fresh) c.args.whole c.args.len c.args.size c.args.end) same)
    c.replace_whole-2.ensures.done

pub returns-clause-undo : goal.returns-clause-undo
returns-clause-undo c =
    let same : flat c.settle.new.self ≡ flat c.args.parts.now =
    c.settle.ensures ∙ c.in_ok-gone.ensures.none (ap Ok c.in_default-2.is) in
    IfOk-weaker c.replace_whole-2.result
    (λ (g : Gone). UndoesParts g c.settle.new.self c.replace_whole-2.new.parts)
    (λ (g : Gone). UndoesParts g c.args.parts.now c.replace_whole-2.new.parts)
    (λ g u. undoes_same g c.settle.new.self c.args.parts.now c.replace_whole-2.new.parts same u)
    c.replace_whole-2.ensures.undo

pub replace_lines-requires : goal.replace_lines-requires
replace_lines-requires c =
    subst (λ (k : Counts). AreAfter k c.args.len (flat c.args.parts.now)) (sym c.counts_through-to.ensures)
    c.requires.after

pub replace_run-requires-clause-in_place : goal.replace_run-requires-clause-in_place
replace_run-requires-clause-in_place c =
    let same : flat c.settle.new.self ≡ flat c.args.parts.now =
    c.settle.ensures ∙ c.in_ok-gone.ensures.none (ap Ok c.in_default-2.is) in
    let after : AreAfter c.counts_through-to.result c.args.len (flat c.settle.new.self) =
    subst (λ (k : Counts). AreAfter k c.args.len (flat c.settle.new.self)) (sym c.counts_through-to.ensures)
    (subst (λ (x : Flat). AreAfter (counts_through (flat c.args.parts.now) c.args.whole c.args.len) c.args.len x)
    (sym same) c.requires.after) in
    in_place _ c.settle.new.self c.args.fresh after (c.can_replace.ensures.0 c.if-can_replace.true)
