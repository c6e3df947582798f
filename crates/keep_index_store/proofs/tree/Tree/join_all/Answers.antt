-- What was made of the facts that were there is what they are joined to.
use Rattle.std.proofs.Common.{List, [], ◌∙◌, ap, sym}
use Rattle.std.proofs.lemmas.List.{append-nil}
use Rattle.keep_types.specs.declared.node.NodeInfo.{NodeInfo}
use Rattle.keep_index_store.specs.Joined.{joined_all, with_all_infos}
use Rattle.keep_index_store.proofs.tree.Tree.join_all.Goals as goal

pub returns-clause-infos : goal.returns-clause-infos
returns-clause-infos c =
    let infos : List NodeInfo = c.args.self.now.infos in
    let all = c.in_ok-joined.joined.items in
    c.set_all.ensures.infos ∙ ap (λ (is : List NodeInfo). with_all_infos is all) (sym (append-nil infos))
    ∙ c.in_ok-joined.ensures.infos [] ∙ append-nil (joined_all infos c.args.joins.now)
