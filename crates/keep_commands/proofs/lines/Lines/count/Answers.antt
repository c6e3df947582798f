use Rattle.std.proofs.Common.{◌≤◌, arith, sym, subst}
use Rattle.keep_edit.specs.declared.document.Counts.{Counts}
use Rattle.keep_edit.specs.Reading.{IsTextOfTree}
use Rattle.keep_commands.specs.Lines.{ListState}
use Rattle.keep_commands.proofs.ListLines.{entries_few}
use Rattle.keep_commands.proofs.lines.Lines.count.Goals as goal

pub returns-clause-few : goal.returns-clause-few
returns-clause-few c = λ s read.
    let here = subst (λ (l : ListState). IsTextOfTree l.document s) (sym c.self.view_is) read in
    entries_few s c.counts.result.nodes
    (subst (λ (k : Counts). k.nodes ≤ c.counts.result.nodes) (c.counts.ensures.counts s here) (omega arith))

pub returns-clause-fits : goal.returns-clause-fits
returns-clause-fits c =
    λ s read.
    (c.self.invariant s (subst (λ (l : ListState). IsTextOfTree l.document s) (sym c.self.view_is) read)).lines.all
