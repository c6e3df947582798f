-- Where there is no escape, what is between the marks is what the string means; a copy is what it means.
use Rattle.std.proofs.Common.{ap, ◌∙◌, sym}
use Rattle.std.specs.List.{list_any}
use Rattle.keep_token.specs.Leaves.{is_one_line}
use Rattle.keep_meaning.proofs.KeyTextLemmas.{basic_plain, is_backslash, literal_plain, marked_start}
use Rattle.keep_meaning.proofs.Shared.{means_value}
use Rattle.keep_edit.proofs.ScalarLaws.{quoted_string}
use Rattle.keep_edit.proofs.str_text.str_text.Goals as goal

pub range-requires-clause-start_boundary : goal.range-requires-clause-start_boundary
range-requires-clause-start_boundary c _ =
    marked_start c.args.leaf c.args.spelled.now (ap is_one_line c.in-Basic.is) c.requires.leaf c.utf8.spelled

pub range-requires-in-Literal-clause-start_boundary : goal.range-requires-in-Literal-clause-start_boundary
range-requires-in-Literal-clause-start_boundary c _ =
    marked_start c.args.leaf c.args.spelled.now (ap is_one_line c.in-Literal.is) c.requires.leaf c.utf8.spelled

pub returns-in-Basic : goal.returns-in-Basic
returns-in-Basic c =
    let none =
    ap (list_any is_backslash) (sym c.as_bytes.ensures.value)
    ∙ sym c.contains.ensures.value
    ∙ c.if-not-contains.true in
    basic_plain c.args.leaf c.args.spelled.now c.range.result.now c.in-Basic.is c.requires.leaf none
    c.range.ensures.value

pub returns-in-Literal : goal.returns-in-Literal
returns-in-Literal c =
    literal_plain c.args.leaf c.args.spelled.now c.range-in-Literal.result.now c.in-Literal.is
    c.range-in-Literal.ensures.value

pub returns-in_ok-decode_string-in_default : goal.returns-in_ok-decode_string-in_default
returns-in_ok-decode_string-in_default c =
    means_value c.args.leaf c.args.spelled.now _ (quoted_string c.args.leaf c.requires.kind)
    c.in_ok-decode_string-in_default.ensures
