use Rattle.std.proofs.Common.{◌∙◌, ap, take}
use Rattle.std.proofs.Math.Seq.{take-length}
use Rattle.keep_meaning.specs.Nodes.{node_number}
use Rattle.keep_rules.proofs.QueryLemmas.{finds}
use Rattle.keep_rules.proofs.index.Index.find.Goals as goal

pub returns : goal.returns
returns c =
    finds c.args.self.now c.args.path.now c.find_first.result
    (c.find_first.ensures.found
    ∙ ap (λ n. node_number c.args.self.now.paths (take n c.args.path.now)) c.len.ensures.count
    ∙ ap (node_number c.args.self.now.paths) (take-length c.args.path.now))
