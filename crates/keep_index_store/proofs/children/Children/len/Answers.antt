use Rattle.std.proofs.Common.{◌∙◌, ap, length, sym}
use Rattle.keep_index_store.specs.ChildForms.{children_in}
use Rattle.keep_index_store.specs.Children.{child_ids}
use Rattle.keep_index_store.proofs.RunLemmas.{length-consecutive}
use Rattle.keep_index_store.proofs.children.Children.len.Goals as goal

pub returns-in-Run : goal.returns-in-Run
returns-in-Run c =
    sym (length-consecutive c.in-Run.first c.in-Run.len)
    ∙ ap (λ form. length (child_ids (children_in form))) (sym c.in-Run.is)
    ∙ ap (λ x. length (child_ids x)) c.self.view_is
