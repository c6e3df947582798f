use Rattle.std.proofs.Common.{◌∙◌, ap, sym, take, arith, None, Some}
use Rattle.keep_rules.specs.Lookup.{number_of}
use Rattle.keep_path.specs.Step.{part_of}
use Rattle.keep_rules.proofs.QueryLemmas.{child_answer, count_paths, at_root, at_next, at_none, step_there, at_end}
use Rattle.keep_rules.proofs.QueryLemmas.{finds}
use Rattle.keep_rules.proofs.index.Index.find_first.Goals as goal

pub loop-number-init : goal.loop-number-init
loop-number-init c =
    at_root c.self.inside.nodes c.args.self.now record { trie = c.self.invariant.0; view = c.self.view_is }
    c.args.path.now

pub returns-in_err-step : goal.returns-in_err-step
returns-in_err-step c =
    absurd (step_there c.args.path.now c.loop-number.number (omega arith) (sym c.in_err-step.ensures))

pub child_by-requires : goal.child_by-requires
child_by-requires c =
    omega (
      arith,
      c.loop-number.invariant.nested,
      count_paths c.self.inside.nodes c.args.self.now c.self.invariant.0 c.self.view_is,
    )

pub returns-in_err-id : goal.returns-in_err-id
returns-in_err-id c =
    finds c.args.self.now (take c.args.n c.args.path.now) c.from_residual-in_err-id.result
    (ap number_of c.from_residual-in_err-id.ensures
    ∙ at_none c.self.inside.nodes c.args.self.now record { trie = c.self.invariant.0; view = c.self.view_is }
    c.args.path.now c.loop-number.number c.loop-number.id c.args.n (part_of c.in_ok-step.field-0.now)
    c.loop-number.invariant (sym c.in_ok-step.ensures) (omega arith)
    (child_answer c.self.inside.nodes c.args.self.now c.loop-number.id (part_of c.in_ok-step.field-0.now) None
    record { trie = c.self.invariant.0; view = c.self.view_is; nested = c.loop-number.invariant.nested }
    c.in_err-id.ensures))

pub loop-number-preserved : goal.loop-number-preserved
loop-number-preserved c =
    at_next c.args.self.now c.args.path.now c.loop-number.number c.loop-number.id c.in_ok-id.id
    (part_of c.in_ok-step.field-0.now) c.loop-number.invariant (sym c.in_ok-step.ensures)
    (child_answer c.self.inside.nodes c.args.self.now c.loop-number.id (part_of c.in_ok-step.field-0.now)
    (Some c.in_ok-id.id) record {
      trie = c.self.invariant.0;
      view = c.self.view_is;
      nested = c.loop-number.invariant.nested;
    } c.in_ok-id.ensures)

pub returns : goal.returns
returns c = record {
  found = at_end c.self.inside.nodes c.args.self.now record { trie = c.self.invariant.0; view = c.self.view_is }
      c.args.path.now c.loop-number.number c.args.n c.loop-number.id c.loop-number.invariant (omega arith);
  within = c.loop-number.invariant.nested;
}
