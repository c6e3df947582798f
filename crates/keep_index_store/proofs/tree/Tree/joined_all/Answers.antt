-- What was made of the stored nodes is made of the tree that they represent.
use Rattle.std.proofs.lemmas.Result.{IfOk-weaker}
use Rattle.keep_index_store.proofs.JoinedLemmas.{seen_ascending, seen_joined, seen_roles}
use Rattle.keep_index_store.proofs.tree.Tree.joined_all.Goals as goal

pub joined_all-requires : goal.joined_all-requires
joined_all-requires c =
    seen_ascending c.self.inside.nodes.items c.args.self.now c.self.view_is c.self.invariant c.args.joins.now c.requires

pub returns-clause-roles : goal.returns-clause-roles
returns-clause-roles c =
    IfOk-weaker c.joined_all.result _ _
    (λ all is.
    seen_roles c.self.inside.nodes.items c.args.self.now c.self.view_is c.self.invariant c.args.joins.now c.requires
    all.items is) c.joined_all.ensures

pub returns-clause-infos : goal.returns-clause-infos
returns-clause-infos c =
    IfOk-weaker c.joined_all.result _ _
    (λ all is.
    seen_joined c.self.inside.nodes.items c.args.self.now c.self.view_is c.self.invariant c.args.joins.now c.requires
    all.items is) c.joined_all.ensures
