use Rattle.std.proofs.Common.{arith, rules, subst}
use Rattle.keep_edit_runs.specs.Counts.{IsOneMore}
use Rattle.keep_edit_runs.specs.declared.counts.Counts.{Counts}
use Rattle.keep_edit_runs.proofs.LengthLaws.{one_more}
use Rattle.keep_edit_runs.proofs.counts.LengthCounts.add.Goals as goal

pub returns-in-Some : goal.returns-in-Some
returns-in-Some c = λ yes most n.
    omega (
      arith,
      one_more c.reach.new.self.counts.items c.args.length c.add.new.self c.in-Some.counts.now c.args.at
          (search rules) (subst (λ (d : Counts). IsOneMore d c.args.at c.add.new.self)
          c.in-Some.ensures.item.1 (c.add.ensures yes)) most n,
      c.reach.ensures most n,
    )
