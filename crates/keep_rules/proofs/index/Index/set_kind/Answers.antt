use Rattle.std.proofs.Common.{List, ◌∙◌, ap, arith, subst, sym}
use Rattle.keep_index_store.specs.Trie.{TrieNode, IsTrie, holds_at}
use Rattle.keep_rules.proofs.QueryLemmas.{count_paths, kind_set}
use Rattle.keep_rules.proofs.index.Index.set_kind.Goals as goal

pub set_kind-requires : goal.set_kind-requires
set_kind-requires c =
    omega (arith, c.requires, count_paths c.self.inside.nodes c.args.self.now c.self.invariant.0 c.self.view_is)

pub invariant_of-self : goal.invariant_of-self
invariant_of-self c = (
  subst IsTrie (sym c.set_kind.ensures.same) c.self.invariant.0,
  ap (λ (ts : List TrieNode). holds_at ts 0) c.set_kind.ensures.same ∙ c.self.invariant.1,
)

pub returns : goal.returns
returns c =
    kind_set c.self.inside.nodes c.set_kind.new.self c.args.self.now c.args.id.0 c.args.kind c.self.view_is
    c.set_kind.ensures.same c.set_kind.ensures.infos
