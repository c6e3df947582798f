-- The value of a line, by its number in the syntax: its bytes alone are its text.
--
-- Theorem: `line_value_read`.
use Rattle.std.proofs.Common.{◌≡◌, ℕ, List, sym, ap, subst, ◌∙◌, arith, Some, slice_get, true}
use Rattle.std.specs.Prelude.{OnOk, Result, Ok, Err, is_ok}
use Rattle.keep_types.specs.declared.leaf.Profile.{Profile}
use Rattle.keep_types.specs.declared.syntax.ValueInfo.{ValueInfo}
use Rattle.keep_syntax.specs.declared.syntax.Syntax.{Syntax}
use Rattle.keep_syntax.specs.Contract.{values_of}
use Rattle.keep_syntax.specs.Tree.{Document, Value, value_text}
use Rattle.keep_meaning.specs.KeyText.{text_at}
use Rattle.keep_rules.proofs.Shared.{in_wide}
use Rattle.keep_edit_spec.specs.KeyvalLines.{IsLineValue}
use Rattle.keep_edit_spec.proofs.Shared.{IsLineValueText, line_value_text}
use Rattle.keep_edit.specs.Reading.{IsReadAs, IsTextOfValue}

one_info : (a b : ValueInfo) → Some a ≡ Some b → a ≡ b
one_info a b e = cc

pub line_value_read : (profile : Profile) (bytes : List ℕ) (syntax : Syntax) (d : Document)
    → IsReadAs profile bytes syntax d → (number : ℕ) (v : Value) → IsLineValue d number v
    → (info : ValueInfo) → slice_get (values_of syntax) number ≡ Some info → (part : List ℕ)
    → part ≡ text_at bytes info.span → IsTextOfValue part v
line_value_read profile bytes syntax d was number v at info here part is =
    let t : IsLineValueText profile d number v =
    subst (λ (n : ℕ). IsLineValueText profile d n v) at.counted
    (line_value_text profile d was.read.reads.valid was.read.obeys at.before at.after at.line at.name v at.here
    at.content) in
    let same : info ≡ t.info =
    one_info info t.info (sym here ∙ ap (λ (vs : List ValueInfo). slice_get vs number) was.is.values ∙ t.here) in
    let spelled : part ≡ value_text v =
    is ∙ ap (λ (i : ValueInfo). text_at bytes i.span) same
    ∙ ap (λ (b : List ℕ). text_at b t.info.span) was.read.reads.spelled ∙ t.spelled in
    in_wide profile part v (record {
      reads = record { valid = t.valid; spelled = spelled; shallow = omega (arith, t.shallow, was.read.reads.shallow) };
      obeys = t.obeys;
    })

-- what holds where a call succeeds
pub from_ok : {T E : Type 0} (P : Type 0) (r : Result T E) → is_ok r ≡ true → OnOk r P → P
from_ok P (Ok x) e h = h
from_ok P (Err f) e h = absurd cc
