use Rattle.std.proofs.Common.{subst, sym, ℕ}
use Rattle.keep_edit_runs.specs.Tail.{IsBlockFor, LetsTable}
use Rattle.keep_edit_runs.proofs.BlockLaws.{block_found}
use Rattle.keep_edit_runs.proofs.tail.Tail.block_for.Goals as goal

pub returns : goal.returns
returns c =
    let blocks = c.args.self.now.blocks.items in
    let table = c.args.table.now in
    let lets =
    subst (λ (n : ℕ). LetsTable blocks n table) c.unwrap_or-number.ensures
    (c.lets_table.ensures c.if-not-lets_table.false) in
    subst (IsBlockFor blocks table) (sym c.unwrap_or-number.ensures)
    (block_found blocks table c.in_ok-last.last c.block_of.result c.in_ok-last.ensures c.block_of.ensures lets)
