use Rattle.std.proofs.Common.{subst, ◌∙◌}
use Rattle.keep_syntax_store.specs.declared.replacing.Gone.{Gone}
use Rattle.keep_syntax_store.specs.InPlace.{UndoesParts, CanUndoParts}
use Rattle.keep_syntax_store.proofs.ReplacingLaws.{can_go_back, went_back}
use Rattle.keep_syntax_store.proofs.replacing.restore_parts.Goals as goal

pub returns-in-Run : goal.returns-in-Run
returns-in-Run c = λ before u.
    let w = subst (λ (g : Gone). UndoesParts g before c.args.parts.now) c.in-Run.is u in
    went_back c.in-Run.run' c.in-Run.from c.in-Run.to c.in-Run.until w.0 c.args.parts.now c.exchange.new.self
    c.exchange.new.run w.2 c.exchange.ensures ∙ w.1

pub returns-in-Lines : goal.returns-in-Lines
returns-in-Lines c = λ before u.
    let w = subst (λ (g : Gone). UndoesParts g before c.args.parts.now) c.in-Lines.is u in
    w.undone c.exchange_patch.new.self c.exchange_patch.new.patch c.exchange_patch.ensures

pub exchange-requires-clause-can : goal.exchange-requires-clause-can
exchange-requires-clause-can c =
    let w = subst (λ (g : Gone). CanUndoParts g c.args.parts.now) c.in-Run.is c.requires in
    can_go_back c.in-Run.run' c.in-Run.from c.in-Run.to c.in-Run.until w.1.0 c.args.parts.now w.1.2
