-- A copy is what the part means, and where there is no escape, what is between the marks is.
use Rattle.std.proofs.Common.{◌≡◌, ap, ◌∙◌, sym}
use Rattle.std.specs.List.{list_any}
use Rattle.keep_types.specs.declared.leaf.Leaf.TheVariants.{BareKey}
use Rattle.keep_token.specs.Leaves.{is_string_leaf}
use Rattle.keep_meaning.proofs.DecodeLaws.{means_value}
use Rattle.keep_meaning.proofs.KeyTextLemmas.{is_backslash, is_marked, literal_only, marked_start, basic_plain}
use Rattle.keep_meaning.proofs.KeyTextLemmas.{literal_plain}
use Rattle.keep_meaning.proofs.key_text.decoded_key.Goals as goal
use Rattle.keep_meaning.proofs.key_text.decoded_key.Goals.{in_default-via-in-Basic+else-contains}
use Rattle.keep_meaning.proofs.key_text.decoded_key.Goals.{in_default-via-in_default}

pub range-requires-clause-start_boundary : goal.range-requires-clause-start_boundary
range-requires-clause-start_boundary c _ =
    let bare : c.args.leaf ≡ BareKey → ⊥ = elim c.in_default.branch [
      | in_default-via-in-Basic+else-contains w ↦ λ e. (let f = sym w.in-Basic.is ∙ e in cc)
      | in_default-via-in_default w ↦ w.in_default.not-BareKey
    ] in
    marked_start c.args.leaf c.args.spelled.now (is_marked c.args.leaf c.requires.kind bare) c.requires.leaf
    c.utf8.spelled

pub returns-in_ok-decode_string-in-Basic : goal.returns-in_ok-decode_string-in-Basic
returns-in_ok-decode_string-in-Basic c =
    means_value c.args.leaf c.args.spelled.now _ (ap is_string_leaf c.in-Basic.is)
    c.in_ok-decode_string-in-Basic.ensures

pub returns-in_default : goal.returns-in_default
returns-in_default c = elim c.in_default.branch [
  | in_default-via-in-Basic+else-contains w ↦
      let none =
      ap (list_any is_backslash) (sym w.as_bytes.ensures.value) ∙ sym w.contains.ensures.value ∙ w.if-contains.false in
      basic_plain c.args.leaf c.args.spelled.now c.range.result.now w.in-Basic.is c.requires.leaf none
      c.range.ensures.value
  | in_default-via-in_default w ↦
      literal_plain c.args.leaf c.args.spelled.now c.range.result.now
      (literal_only c.args.leaf c.requires.kind w.in_default.not-BareKey w.in_default.not-Basic) c.range.ensures.value
]
