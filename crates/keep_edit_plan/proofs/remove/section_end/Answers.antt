use Rattle.std.proofs.Common.{sym, ◌∙◌, arith}
use Rattle.keep_syntax_store.specs.Blocks.{raise_statement}
use Rattle.keep_syntax_store.specs.Flat.{unpacked_statement}
use Rattle.keep_syntax_store.proofs.EntryLaws.{entries_length}
use Rattle.keep_edit_plan.proofs.LineWriting.{section_ends}
use Rattle.keep_edit_plan.proofs.remove.section_end.Goals as goal

pub returns : goal.returns
returns c =
    c.body_end.ensures
    ∙ sym (section_ends c.args.number _ c.statement-end.result _ c.statement-end.ensures (omega arith))

pub overflow_add-number : goal.overflow_add-number
overflow_add-number c =
    let ss = c.args.syntax.now.parts.statements in
    omega (
      arith,
      c.requires,
      entries_length unpacked_statement raise_statement ss,
      ss.packed.ok.0,
      ss.packed.ok.1,
      ss.packed.small,
    )
