-- The nodes represent the statements so far.
use Rattle.std.proofs.Common.{◌∙◌, ◌^◌, ◌<◌, ◌≤◌, length, slice_get, ap, sym, arith}
use Rattle.keep_syntax_store.specs.Flat.{flat}
use Rattle.keep_syntax.specs.Numbered as syntax
use Rattle.keep_syntax.specs.Tree.{Document}
use Rattle.keep_meaning.specs.Marks.{start, mentions_from, reading_after}
use Rattle.keep_rules.specs.ReadDocuments.{WasRead}
use Rattle.keep_rules.proofs.DocumentLemmas.{before, begin_read, mentions_at, statement_at, read_next, break_within}
use Rattle.keep_rules.proofs.DocumentLemmas.{break_refused, whole_read}
use Rattle.keep_meaning.proofs.Shared.{syntax_readable}
use Rattle.keep_rules.proofs.PartLemmas.{few_keys}
use Rattle.keep_rules.proofs.RootLemmas.{rooted_represents}
use Rattle.keep_index_store.specs.Trie.{by_key}
use Rattle.keep_rules.proofs.read.read_document.Goals as goal

pub loop-number-init : goal.loop-number-init
loop-number-init c = λ d was. begin_read d c.args.root c.requires.root

pub invariant_of-definitions : goal.invariant_of-definitions
invariant_of-definitions c = record { shaped = (rooted_represents c.args.root by_key c.requires.root).shaped }

pub read_statement-requires : goal.read_statement-requires
read_statement-requires c =
    let was = c.requires.read.1 in
    let d = c.requires.read.0 in
    let number = c.loop-number.number in
    record {
      statement = record {
        readable =
            λ n p at.
            syntax_readable c.args.syntax.now c.args.text.now was.profile d c.utf8.text was.reads.valid
            was.reads.spelled was.is n p (ap (λ q. slice_get (flat q).keys n) (sym c.parts-parts.ensures) ∙ at);
        statement = statement_at d number;
        matches =
            mentions_at c.args.text.now c.args.syntax.now d was (flat c.parts-parts.result.now)
            (ap (λ p. (flat p).keys) c.parts-parts.ensures ∙ was.is.parts)
            (ap (λ p. (flat p).values) c.parts-parts.ensures ∙ was.is.values) number c.statement-statement.result
            c.statement-statement.ensures;
      };
      reading = (
        mentions_from start (before d number),
        reading_after start (before d number),
        (c.loop-number.invariant d was).reading,
      );
    }

pub read_fault-requires : goal.read_fault-requires
read_fault-requires c =
    break_within c.args.text.now c.args.syntax.now c.requires.read.0 c.requires.read.1 (flat c.parts-parts.result.now)
    (ap (λ p. (flat p).keys) c.parts-parts.ensures ∙ c.requires.read.1.is.parts)
    (ap (λ p. (flat p).values) c.parts-parts.ensures ∙ c.requires.read.1.is.values) c.loop-number.number
    c.statement-statement.result c.statement-statement.ensures c.loop-number.definitions.tree c.loop-number.body
    c.in-Err.fault (c.loop-number.invariant c.requires.read.0 c.requires.read.1) c.in-Err.ensures.define

pub returns-in-Err : goal.returns-in-Err
returns-in-Err c = record {
  rooted = tt;
  ok = tt;
  faults = λ (d : Document) (was : WasRead c.args.text.now c.args.syntax.now d).
      break_refused c.args.text.now c.args.syntax.now d was (flat c.parts-parts.result.now)
      (ap (λ p. (flat p).keys) c.parts-parts.ensures ∙ was.is.parts)
      (ap (λ p. (flat p).values) c.parts-parts.ensures ∙ was.is.values) c.loop-number.number
      c.statement-statement.result c.statement-statement.ensures c.loop-number.definitions.tree c.loop-number.body
      c.in-Err.fault c.read_fault.result (c.loop-number.invariant d was) c.read_fault.ensures c.in-Err.ensures.define;
}

pub loop-number-preserved : goal.loop-number-preserved
loop-number-preserved c = λ (d : Document) (was : WasRead c.args.text.now c.args.syntax.now d).
    read_next c.args.text.now c.args.syntax.now d was (flat c.parts-parts.result.now)
    (ap (λ p. (flat p).keys) c.parts-parts.ensures ∙ was.is.parts)
    (ap (λ p. (flat p).values) c.parts-parts.ensures ∙ was.is.values) c.loop-number.number c.statement-statement.result
    c.statement-statement.ensures c.loop-number.definitions.tree c.read_statement.new.self.tree c.loop-number.body
    c.in-Ok.to (c.loop-number.invariant d was) c.in-Ok.ensures.read

pub returns : goal.returns
returns c = record {
  rooted = (c.loop-number.invariant c.requires.read.0 c.requires.read.1).reading.rooted;
  ok = λ (d : Document) (was : WasRead c.args.text.now c.args.syntax.now d).
      let past : length (syntax.statements d) ≤ c.loop-number.number =
      omega (arith, c.loop-number-test.false, c.statement_count-number-end.ensures, ap length was.is.statements) in
      let few : length (syntax.parts d) < 2 ^ 64 =
      omega (
        arith,
        few_keys c.parts-parts.result.now,
        ap (λ p. length (flat p).keys) c.parts-parts.ensures,
        ap length was.is.parts,
      ) in
      whole_read d c.loop-number.definitions.tree c.loop-number.body c.loop-number.number past few
      (c.loop-number.invariant d was);
  faults = tt;
}
