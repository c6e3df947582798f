use Rattle.keep_rules.proofs.HeaderJoinLemmas.{are_ascending}
use Rattle.keep_rules.proofs.index.headers.join_all.Goals as goal

pub join_all-requires : goal.join_all-requires
join_all-requires c = record {
  joins = are_ascending 0 c.requires.joins.0 _ c.args.joins.now c.requires.joins.2 c.requires.joins.1;
}
