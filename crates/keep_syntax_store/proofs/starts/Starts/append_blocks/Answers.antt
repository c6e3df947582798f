use Rattle.std.proofs.Common.{◌∙◌, arith}
use Rattle.keep_syntax_store.specs.Left.{places_left}
use Rattle.keep_syntax_store.specs.Lifted.{moved}
use Rattle.keep_syntax_store.proofs.PastLaws.{past_ascends, past_last, stored_further}
use Rattle.keep_syntax_store.proofs.starts.Starts.append_blocks.Goals as goal

pub append_block-requires-clause-ascend : goal.append_block-requires-clause-ascend
append_block-requires-clause-ascend c =
    past_ascends c.args.other.now c.runs.number c.runs.left c.places_from-left.ensures.ascend c.runs.invariant.past

pub append_block-requires-clause-last : goal.append_block-requires-clause-last
append_block-requires-clause-last c =
    past_last c.args.other.now c.runs.number c.next_block-next.result.0 c.runs.left c.next_block-next.result.1
    c.runs.invariant.past c.next_block-next.ensures.past (omega (arith, c.next_block-next.ensures.further))

pub runs-preserved : goal.runs-preserved
runs-preserved c =
    let next = c.next_block-next.result.0 in
    let so_far = c.runs.invariant in
    record {
      begun = omega (arith, so_far.begun, c.next_block-next.ensures.further);
      bounded = omega (arith, c.next_block-next.ensures.within, c.runs-test.true);
      past = c.next_block-next.ensures.past;
      stored =
          stored_further (moved c.args.old c.args.new) c.args.self.now c.runs.self c.push_milestone.new.self
          c.args.other.now (places_left c.runs.left) c.args.from c.runs.number next
          so_far.begun (omega (arith, c.next_block-next.ensures.further)) so_far.past.left so_far.stored
          (c.push_milestone.ensures ∙ c.in_ok-append_block.ensures);
    }
