use Rattle.keep_syntax.specs.Tree.{Document}
use Rattle.keep_rules.specs.ReadDocuments.{WasRead}
use Rattle.keep_rules.proofs.DocumentLemmas.{IsReadUpTo}
use Rattle.keep_rules.proofs.read.read_document.Given as goal

abbrev pub invariant-loop-number : goal.invariant-loop-number
invariant-loop-number l = (d : Document) → WasRead l.text l.syntax d → IsReadUpTo d l.definitions.tree l.body l.number
