-- The text that is read is that of the value, so the nodes that reading gives are those in the value, and its first
-- leaf has its kind.
use Rattle.std.proofs.Common.{◌∙◌}
use Rattle.keep_rules.proofs.ValueLaws.{kind_read, read_again}
use Rattle.keep_rules.proofs.index.values.nodes_in_text.Goals as goal

pub returns-clause-nodes : goal.returns-clause-nodes
returns-clause-nodes c =
    λ v text.
    c.in-Ok-value_tree.ensures.nodes v
    (read_again c.args.profile c.args.text.now c.in-Ok.syntax c.in-Ok.ensures.found v text)

pub returns-clause-kind : goal.returns-clause-kind
returns-clause-kind c =
    λ v text. c.kind_of-kind.ensures
    ∙ kind_read c.args.text.now c.in-Ok.syntax v
    (read_again c.args.profile c.args.text.now c.in-Ok.syntax c.in-Ok.ensures.found v text) c.value.result
    c.value.ensures.stored
