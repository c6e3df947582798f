-- All but one child of one node is as before, and that one is taken away.
use Rattle.std.proofs.Common.{ℕ, ◌<◌, ◌∙◌, ap, arith, length, List, sym, take}
use Rattle.keep_index_store.specs.AllNodes.{Node}
use Rattle.keep_index_store.proofs.KeysBelowLemmas.{taken_back}
use Rattle.keep_index_store.proofs.nodes.Nodes.take_back.Goals as goal

pub returns : goal.returns
returns c = λ before text begun count.
    let any : length before < length c.args.self.now.items =
    omega (arith, begun.longer, count, c.len.ensures, c.if-len-count.false) in
    c.truncate.ensures ∙ ap (λ (n : ℕ). take n c.unlink_last.new.self.items) (sym count)
    ∙ ap (λ (ns : List Node). take (length before) ns) c.unlink_last.ensures
    ∙ taken_back before c.args.self.now.items c.args.parent text begun any
