use Rattle.keep_index_store.specs.declared.facts.NodeFacts.{NodeFacts}
use Rattle.keep_index_store.specs.declared.packed.Form.TheVariants.{Packed}
use Rattle.keep_index_store.specs.Packed.{facts_in}
use Rattle.keep_index_store.proofs.PackedLemmas.{joined_in_place}
use Rattle.keep_index_store.proofs.packed.PackedFacts.join_packed.Goals as goal

pub returns-clause-facts : goal.returns-clause-facts
returns-clause-facts c =
    let own = c.in-Packed in
    let old : NodeFacts = facts_in (Packed own.state own.kind own.short) in
    rw (← c.self.view_is, own.is, c.later_kind.ensures, c.in_ok-short.ensures, c.in_ok-more_short.ensures.short)
    (joined_in_place old c.args.more.now c.args.role)
