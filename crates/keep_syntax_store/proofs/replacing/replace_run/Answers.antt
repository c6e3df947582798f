use Rattle.std.proofs.Common.{subst, refl, ◌∙◌}
use Rattle.keep_syntax_store.specs.declared.moves.Counts.{Counts}
use Rattle.keep_syntax_store.specs.Rereading.{nothing}
use Rattle.keep_syntax_store.specs.InPlace.{IsShifted, IsExchanged}
use Rattle.keep_syntax_store.proofs.ReplacingLaws.{exchanged_flat, exchanged_before, run_undone}
use Rattle.keep_syntax_store.proofs.replacing.replace_run.Goals as goal

-- the new parts' numbers were moved to after those before the run
fresh_shifted : (c : goal.After-exchange) → IsShifted nothing c.args.from c.args.fresh c.shift_all.new.self
fresh_shifted c =
    subst (λ (k : Counts). IsShifted k c.args.from c.args.fresh c.shift_all.new.self) c.nothing.ensures
    c.shift_all.ensures.shifted

-- and they changed places with the run
exchanged : (c : goal.After-exchange)
    → IsExchanged c.args.from c.args.to c.args.to c.args.until c.args.parts.now c.shift_all.new.self c.exchange.new.self
    c.exchange.new.run
exchanged c =
    exchanged_before c.args.parts.now c.reserve.new.self c.shift_all.new.self c.reserve.new.run c.exchange.new.self
    c.exchange.new.run c.args.from c.args.to c.args.to c.args.until
    c.reserve.ensures.parts c.reserve.ensures.run c.exchange.ensures

pub returns-clause-done : goal.returns-clause-done
returns-clause-done c =
    exchanged_flat c.args.parts.now c.args.fresh c.shift_all.new.self c.exchange.new.self c.exchange.new.run c.args.from
    c.args.to c.args.until c.args.until.at
    c.requires.in_place.packed c.requires.in_place.fresh_packed c.requires.in_place.can c.requires.in_place.fresh_can
    (fresh_shifted c) (c.shift_all.ensures.starts ∙ c.in_ok-places.ensures) (exchanged c)

pub returns-clause-undo : goal.returns-clause-undo
returns-clause-undo c = (
  c.args.parts.now,
  refl,
  run_undone c.args.parts.now c.args.fresh c.shift_all.new.self c.exchange.new.self c.exchange.new.run c.args.from
      c.args.to c.args.until c.requires.until.0 c.args.until.at
      c.requires.in_place.is_run c.requires.in_place.fresh_packed c.requires.in_place.can (fresh_shifted c)
      c.requires.until.1 (exchanged c),
)
