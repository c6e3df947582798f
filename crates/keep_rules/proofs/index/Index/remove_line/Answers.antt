use Rattle.std.proofs.Common.{◌∙◌, ap, arith}
use Rattle.indexmap.proofs.MapLemmas.{OnOk-map}
use Rattle.keep_index_store.specs.Renumbering.{numbers_of}
use Rattle.keep_path.specs.NodeInfos.{NodeInfos, without_node}
use Rattle.keep_rules.proofs.QueryLemmas.{count_paths}
use Rattle.keep_rules.proofs.index.Index.remove_line.Goals as goal

pub remove_key-requires : goal.remove_key-requires
remove_key-requires c =
    omega (arith, c.requires, count_paths c.self.inside.nodes c.args.self.now c.self.invariant.0 c.self.view_is)

pub returns-clause-removed : goal.returns-clause-removed
returns-clause-removed c =
    OnOk-map c.remove_key.result _ _ (λ is.
    is ∙ ap (λ (x : NodeInfos). without_node x c.args.node.0 (numbers_of c.args.line)) c.self.view_is)
    c.remove_key.ensures.removed
