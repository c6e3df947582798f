-- The nodes of the document, or its first fault.
use Rattle.std.proofs.lemmas.Result.{err_from_is_err_and}
use Rattle.keep_syntax.specs.Tree.{Document}
use Rattle.keep_meaning.specs.Marks.{marks}
use Rattle.keep_meaning.specs.Meaning.{mentions_in}
use Rattle.keep_rules.specs.ReadDocuments.{WasRead}
use Rattle.keep_meaning.specs.Rules.{ObeysRules}
use Rattle.keep_index_store.specs.Tree.{node_infos}
use Rattle.keep_rules.proofs.DocumentLemmas.{index_few}
use Rattle.keep_rules.proofs.RefusalLaws.{refused_memory}
use Rattle.keep_rules.proofs.index.Index.read.Goals as goal

pub returns-in_err-nodes : goal.returns-in_err-nodes
returns-in_err-nodes c =
    let p = err_from_is_err_and c.from_residual.result c.from_residual.ensures.1 in
    rw (p.1, p.2) (record {
      ok = λ d was. tt;
      read = λ (d : Document) (was : WasRead c.args.text.now c.args.syntax.now d)
          (obeys : ObeysRules (marks (mentions_in d))).
          refused_memory d c.in_err-nodes.field-0.0 (c.in_err-nodes.ensures.faults d was) obeys;
      few = tt;
      faults =
          λ (d : Document) (was : WasRead c.args.text.now c.args.syntax.now d). c.in_err-nodes.ensures.faults d was;
    })

pub returns : goal.returns
returns c = record {
  ok = c.in_ok-nodes.ensures.ok;
  read = λ d was obeys. tt;
  few = index_few c.args.text.now c.args.syntax.now c.requires.read.0 (node_infos c.in_ok-nodes.nodes) c.requires.read.1
      (c.in_ok-nodes.ensures.ok c.requires.read.0 c.requires.read.1);
  faults = λ d was. tt;
}
