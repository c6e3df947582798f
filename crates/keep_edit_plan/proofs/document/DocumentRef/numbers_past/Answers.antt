use Rattle.std.proofs.Common.{arith}
use Rattle.keep_syntax_store.specs.Blocks.{raise_statement}
use Rattle.keep_syntax_store.specs.Flat.{unpacked_statement}
use Rattle.keep_syntax_store.proofs.EntryLaws.{entries_length}
use Rattle.keep_edit_plan.proofs.AnswerLaws.{seen}
use Rattle.keep_edit_plan.proofs.LineNumberLaws.{keyval_within, numbers_past_line, on_some_line, statement_within}
use Rattle.keep_edit_plan.proofs.document.DocumentRef.numbers_past.Goals as goal

pub value-requires : goal.value-requires
value-requires c =
    let (s, read, (line, on)) = c.requires in
    keyval_within _ _ _ s (seen c.self.view_is c.self.invariant) read c.args.keyval line on

pub overflow_add-statement : goal.overflow_add-statement
overflow_add-statement c =
    let (s, read, (line, on)) = c.requires in
    let ss = c.self.inside.syntax.now.parts.statements in
    omega (
      arith,
      statement_within _ _ _ s (seen c.self.view_is c.self.invariant) read c.args.keyval line on c.value.result
          c.value.ensures.stored c.in-Line.statement c.in-Line.is,
      entries_length unpacked_statement raise_statement ss,
      ss.packed.ok.0,
      ss.packed.ok.1,
      ss.packed.small,
    )

pub unreachable-requires : goal.unreachable-requires
unreachable-requires c =
    let (s, read, (line, on)) = c.requires in
    on_some_line _ _ _ s (seen c.self.view_is c.self.invariant) read c.args.keyval line on c.value.result
    c.value.ensures.stored c.in_default.not-Line

pub returns : goal.returns
returns c = λ s read line on.
    numbers_past_line _ _ _ s (seen c.self.view_is c.self.invariant) read c.args.keyval line on c.value.result
    c.value.ensures.stored c.in-Line.statement c.in-Line.is c.numbers_from.result
    (omega (arith, c.numbers_from.ensures.statement)) c.numbers_from.ensures.value c.numbers_from.ensures.key
