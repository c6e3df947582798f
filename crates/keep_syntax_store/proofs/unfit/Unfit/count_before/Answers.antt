use Rattle.std.proofs.Common.{sym, subst, ◌∙◌, rules}
use Rattle.std.specs.Prelude.{ltb}
use Rattle.std.proofs.lemmas.List.Sorted.{IsPartitionPoint-from_clause, IsPartitionedBy-ltb}
use Rattle.keep_syntax_store.specs.Unfit.{Ascend, CountsBefore}
use Rattle.keep_syntax_store.proofs.UnfitLaws.{ascend_order}
use Rattle.keep_syntax_store.proofs.unfit.Unfit.count_before.Goals as goal

pub returns : goal.returns
returns g c =
    let us = c.as_slice.result.now in
    let n = c.args.number in
    let i = c.partition_point.result in
    let end = c.self.inside.end in
    let h : Ascend 0 us end = subst (λ xs. Ascend 0 xs end) (sym c.as_slice.ensures.value) c.self.invariant in
    let parted = IsPartitionedBy-ltb (λ u. u.number) us n (ascend_order 0 us end h) in
    let point =
    IsPartitionPoint-from_clause (λ u. ltb u.number n) us i c.partition_point.ensures.partitioned parted
    (λ a r q k. search rules) in
    subst (λ xs. CountsBefore n xs i) (c.as_slice.ensures.value ∙ c.self.view_is) point
