use Rattle.keep_syntax_store.specs.Flat.{flat}
use Rattle.keep_syntax.proofs.ValueCodeLaws.{named_array, named_inline}
use Rattle.keep_syntax.proofs.value.entry_key.Goals as goal

pub returns-in-Array : goal.returns-in-Array
returns-in-Array c =
    rw c.in-Array.is (named_array c.args.profile c.args.text.now c.args.at (flat c.args.out.now) c.requires)

pub returns-in-Inline : goal.returns-in-Inline
returns-in-Inline c =
    rw c.in-Inline.is (named_inline c.args.profile c.args.text.now c.args.at (flat c.args.out.now)
    (flat c.key_and_equals.new.out) c.key_and_equals.result c.key_and_equals.ensures)
