use Rattle.std.proofs.Common.{◌∷◌, ◌++◌, [], ◌∙◌, ap, arith}
use Rattle.indexmap.proofs.MapLemmas.{OnOk-map}
use Rattle.keep_index_store.specs.Renumbering.{numbers_of}
use Rattle.keep_path.specs.NodeInfos.{NodeInfos, line_info, with_last}
use Rattle.keep_path.specs.Path.{key}
use Rattle.keep_rules.specs.Lookup.{path_numbered}
use Rattle.keep_rules.proofs.QueryLemmas.{count_paths}
use Rattle.keep_rules.proofs.index.Index.append_line.Goals as goal

pub append_key-requires : goal.append_key-requires
append_key-requires c =
    omega (arith, c.requires, count_paths c.self.inside.nodes c.args.self.now c.self.invariant.0 c.self.view_is)

pub returns-clause-appended : goal.returns-clause-appended
returns-clause-appended c =
    OnOk-map c.append_key.result _ _ (λ is.
    is
    ∙ ap (λ (x : NodeInfos).
    with_last x (path_numbered x c.args.parent.0 ++ key c.args.text.now ∷ [])
    (line_info (numbers_of c.args.line) c.args.kind)) c.self.view_is) c.append_key.ensures.appended
