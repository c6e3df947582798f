-- The root represents the value, and the nodes that reading adds to it are those in the value.
use Rattle.std.proofs.Common.{◌∙◌, ◌^◌, ◌<◌, length, slice_get, ap, arith, sym, refl}
use Rattle.std.proofs.lemmas.Result.{err_from_is_err_and}
use Rattle.keep_syntax_store.specs.Flat.{flat}
use Rattle.keep_syntax.specs.Tree.{Value}
use Rattle.keep_rules.specs.NestedValues.{value_nesting, nested_values}
use Rattle.keep_meaning.specs.Meaning.{body_fact}
use Rattle.keep_rules.specs.ReadDocuments.{IsValueRefusal, WasReadAlone}
use Rattle.keep_rules.proofs.AloneLemmas.{alone_next, alone_nodes, alone_obeys, alone_within, alone_refused}
use Rattle.keep_meaning.proofs.Shared.{value_syntax_readable}
use Rattle.keep_rules.proofs.PartLemmas.{few_keys}
use Rattle.keep_rules.proofs.RefusalLaws.{value_refused_memory}
use Rattle.keep_rules.proofs.RootLemmas.{rooted_represents}
use Rattle.keep_rules.proofs.read.value_tree.Goals as goal

pub invariant_of-definitions : goal.invariant_of-definitions
invariant_of-definitions c = record { shaped = (rooted_represents c.in_ok-root.root _ c.in_ok-root.ensures).shaped }

-- the parts are those of the syntax

pub read_inside-requires : goal.read_inside-requires
read_inside-requires c =
    let root = c.in_ok-root.root in
    record {
      readable = λ n p at.
          value_syntax_readable c.args.syntax.now c.args.text.now c.requires.1.profile c.requires.0 c.utf8.text
          c.requires.1.reads.valid c.requires.1.reads.spelled c.requires.1.is n p
          (ap (λ q. slice_get (flat q).keys n) (sym c.parts-parts.ensures) ∙ at);
      next = (
        value_nesting (body_fact c.requires.0.body),
        nested_values 0 1 c.requires.0.nested,
        0,
        alone_next c.args.text.now c.requires.1.profile c.requires.0 c.requires.1.reads.valid c.requires.1.reads.spelled
            (flat c.parts-parts.result.now) (ap (λ p. (flat p).keys) c.parts-parts.ensures ∙ c.requires.1.is.parts)
            (ap (λ p. (flat p).values) c.parts-parts.ensures ∙ c.requires.1.is.values) root c.value.result
            (ap (λ p. slice_get (flat p).values 0) c.parts-parts.ensures ∙ c.value.ensures.stored) _
            c.holds_of_leaf-holds.ensures c.in_ok-root.ensures,
      );
      numbered = refl;
    }

pub returns-in_err-root-clause-checked : goal.returns-in_err-root-clause-checked
returns-in_err-root-clause-checked c =
    let p = err_from_is_err_and c.from_residual.result c.from_residual.ensures.1 in
    rw (p.1, p.2) (record { ok = λ v was. tt; read = λ v was obeys. refl; faults = λ v was. tt })

pub returns-in-Ok-clause-checked : goal.returns-in-Ok-clause-checked
returns-in-Ok-clause-checked c = record {
  ok = λ (v : Value) (was : WasReadAlone c.args.text.now c.args.syntax.now v).
      alone_obeys c.args.text.now was.profile v was.reads.valid was.reads.spelled (flat c.parts-parts.result.now)
      (ap (λ p. (flat p).keys) c.parts-parts.ensures ∙ was.is.parts)
      (ap (λ p. (flat p).values) c.parts-parts.ensures ∙ was.is.values) c.in_ok-root.root c.value.result
      (ap (λ p. slice_get (flat p).values 0) c.parts-parts.ensures ∙ c.value.ensures.stored) _
      c.holds_of_leaf-holds.ensures c.in_ok-root.ensures c.read_inside.new.self.tree c.in-Ok.ensures.0
      c.in-Ok.ensures.1.was_read;
  read = λ v was obeys. tt;
  faults = λ v was. tt;
}

-- the number of key parts is stored in a word

pub returns-in-Ok-clause-nodes : goal.returns-in-Ok-clause-nodes
returns-in-Ok-clause-nodes c = λ (v : Value) (was : WasReadAlone c.args.text.now c.args.syntax.now v).
    let few : length (flat c.parts-parts.result.now).keys < 2 ^ 64 = omega (arith, few_keys c.parts-parts.result.now) in
    alone_nodes c.args.text.now was.profile v was.reads.valid was.reads.spelled (flat c.parts-parts.result.now)
    (ap (λ p. (flat p).keys) c.parts-parts.ensures ∙ was.is.parts)
    (ap (λ p. (flat p).values) c.parts-parts.ensures ∙ was.is.values) c.in_ok-root.root c.value.result
    (ap (λ p. slice_get (flat p).values 0) c.parts-parts.ensures ∙ c.value.ensures.stored) _
    c.holds_of_leaf-holds.ensures c.in_ok-root.ensures few c.read_inside.new.self.tree c.in-Ok.ensures.0
    c.in-Ok.ensures.1.was_read

pub read_fault-requires : goal.read_fault-requires
read_fault-requires c =
    alone_within c.args.text.now c.requires.1.profile c.requires.0 c.requires.1.reads.valid c.requires.1.reads.spelled
    (flat c.parts-parts.result.now) (ap (λ p. (flat p).keys) c.parts-parts.ensures ∙ c.requires.1.is.parts)
    (ap (λ p. (flat p).values) c.parts-parts.ensures ∙ c.requires.1.is.values) c.in_ok-root.root c.value.result
    (ap (λ p. slice_get (flat p).values 0) c.parts-parts.ensures ∙ c.value.ensures.stored) _
    c.holds_of_leaf-holds.ensures c.in_ok-root.ensures c.in-Err.fault c.in-Err.ensures.1.define

pub returns-in-Err-clause-checked : goal.returns-in-Err-clause-checked
returns-in-Err-clause-checked c =
    let refused : (v : Value) → WasReadAlone c.args.text.now c.args.syntax.now v
    → IsValueRefusal v c.read_fault.result = λ v was.
    alone_refused c.args.text.now was.profile v was.reads.valid was.reads.spelled (flat c.parts-parts.result.now)
    (ap (λ p. (flat p).keys) c.parts-parts.ensures ∙ was.is.parts)
    (ap (λ p. (flat p).values) c.parts-parts.ensures ∙ was.is.values) c.in_ok-root.root c.value.result
    (ap (λ p. slice_get (flat p).values 0) c.parts-parts.ensures ∙ c.value.ensures.stored) _
    c.holds_of_leaf-holds.ensures c.in_ok-root.ensures c.in-Err.fault c.read_fault.result c.read_fault.ensures
    c.in-Err.ensures.1.define in
    record {
      ok = λ v was. tt;
      read = λ v was obeys. value_refused_memory v c.read_fault.result (refused v was) obeys;
      faults = refused;
    }
