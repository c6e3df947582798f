use Rattle.std.proofs.Common.{arith}
use Rattle.keep_syntax_store.specs.Blocks.{raise_statement}
use Rattle.keep_syntax_store.specs.Flat.{unpacked_statement}
use Rattle.keep_syntax_store.proofs.EntryLaws.{entries_length}
use Rattle.keep_edit_plan.proofs.insert.numbers.next_statement.Goals as goal

pub overflow_add-number : goal.overflow_add-number
overflow_add-number c =
    let ss = c.args.syntax.now.parts.statements in
    omega (
      arith,
      c.requires _ c.in-Some.is,
      entries_length unpacked_statement raise_statement ss,
      ss.packed.ok.0,
      ss.packed.ok.1,
      ss.packed.small,
    )
