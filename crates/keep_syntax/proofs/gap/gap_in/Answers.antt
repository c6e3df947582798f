use Rattle.keep_syntax_store.specs.Flat.{flat}
use Rattle.keep_syntax.proofs.GapCodeLaws.{no_gap}
use Rattle.keep_syntax.proofs.gap.gap_in.Goals as goal

pub returns-then-not-begins_gap : goal.returns-then-not-begins_gap
returns-then-not-begins_gap c =
    no_gap c.args.profile c.args.brackets c.args.text.now c.args.at (flat c.args.out.now) c.requires
    (rw (c.begins_gap.ensures, c.byte_at.ensures) at c.if-not-begins_gap.true)
