-- The values so far are read as the first of the nested values that they may be.
use Rattle.std.proofs.Common.{◌+◌, [], ◌∷◌, length, ap, ◌∙◌, arith, length-append}
use Rattle.std.proofs.lemmas.Result.{err_from_is_err_and}
use Rattle.keep_syntax_store.specs.Flat.{flat}
use Rattle.keep_rules.proofs.UnderwayLemmas.{begin_underway, some_next_seen, underway_more_seen, underway_ends}
use Rattle.keep_rules.proofs.UnderwayLemmas.{past_ends, line_ends, other_nested, underway_faults_seen, IsThere}
use Rattle.keep_rules.proofs.definitions.Definitions.read_nested.Goals as goal

pub loop-number-init : goal.loop-number-init
loop-number-init c = record {
  numbered = c.requires.numbered;
  underway =
      begin_underway c.args.text.now (flat c.args.parts.now) c.args.base c.args.from c.args.self.now.tree
      c.args.ids.now.items c.args.self.now.shaped;
}

pub returns-in-Line : goal.returns-in-Line
returns-in-Line c = record {
  was_read = underway_ends c.args.text.now (flat c.args.parts.now) c.args.base c.args.from _ _ _ _ c.loop-number.number
      (line_ends (flat c.args.parts.now).values c.loop-number.number c.value-value.result c.in-Line.field-0
      c.value-value.ensures c.in-Line.is) c.loop-number.invariant.underway;
  define = tt;
}

pub read_value-requires : goal.read_value-requires
read_value-requires c =
    let there : IsThere (flat c.args.parts.now).values c.loop-number.number c.value-value.result =
    record { listed = c.value-value.ensures; nested = other_nested c.value-value.result.owner c.in_default.not-Line } in
    record {
      readable = c.requires.readable;
      numbered = ap (λ l. c.args.base + length l) c.as_slice.ensures.value ∙ c.loop-number.invariant.numbered;
      next = some_next_seen c.args.text.now (flat c.args.parts.now) c.args.base c.args.from _ _ c.loop-number.self.tree
          c.loop-number.ids.items c.as_slice.result.now c.loop-number.number c.value-value.result
          c.as_slice.ensures.value there
          c.loop-number.invariant.underway c.requires.next;
    }

pub returns-in_err-id : goal.returns-in_err-id
returns-in_err-id c =
    let p = err_from_is_err_and c.from_residual.result c.from_residual.ensures.1 in
    let there : IsThere (flat c.args.parts.now).values c.loop-number.number c.value-value.result =
    record { listed = c.value-value.ensures; nested = other_nested c.value-value.result.owner c.in_default.not-Line } in
    rw (p.1, p.2) (record {
      was_read = tt;
      define =
          underway_faults_seen c.args.text.now (flat c.args.parts.now) c.args.base c.args.from c.args.self.now.tree
          c.args.ids.now.items c.loop-number.self.tree c.loop-number.ids.items c.as_slice.result.now
          c.loop-number.number
          c.value-value.result _ c.as_slice.ensures.value there c.loop-number.invariant.underway
          c.in_err-id.ensures.define;
    })

pub returns-in_err-push_id : goal.returns-in_err-push_id
returns-in_err-push_id c =
    let p = err_from_is_err_and c.from_residual-in_err-push_id.result c.from_residual-in_err-push_id.ensures.1 in
    rw (p.1, p.2) (record { was_read = tt; define = tt })

pub loop-number-preserved : goal.loop-number-preserved
loop-number-preserved c =
    let there : IsThere (flat c.args.parts.now).values c.loop-number.number c.value-value.result =
    record { listed = c.value-value.ensures; nested = other_nested c.value-value.result.owner c.in_default.not-Line } in
    record {
      numbered =
          omega (
            arith,
            c.loop-number.invariant.numbered,
            ap length c.in_ok-push_id.ensures,
            length-append c.loop-number.ids.items (c.in_ok-id.id ∷ []),
          );
      underway =
          underway_more_seen c.args.text.now (flat c.args.parts.now) c.args.base c.args.from c.args.self.now.tree
          c.args.ids.now.items c.loop-number.self.tree c.loop-number.ids.items c.as_slice.result.now
          c.read_value.new.self.tree c.push_id.new.ids.items c.in_ok-id.id c.loop-number.number c.value-value.result
          c.as_slice.ensures.value c.in_ok-push_id.ensures there c.loop-number.invariant.underway
          c.in_ok-id.ensures.was_read;
    }

pub returns : goal.returns
returns c = record {
  was_read = underway_ends c.args.text.now (flat c.args.parts.now) c.args.base c.args.from _ _ _ _ c.loop-number.number
      (past_ends (flat c.args.parts.now).values c.loop-number.number
      (omega (arith, c.loop-number-test.false, c.value_count-number-end.ensures))) c.loop-number.invariant.underway;
  define = tt;
}
