-- What an insert of a list writes before the value that it gives, and a set of that value right after it: for each kind
-- of line.
--
-- A line without a header begins with its keys (AddedKeys), one with a header with that (BroughtTexts). The insert of
-- another value there writes the same before it, at the same place (`given_alike`, `same_place`), and in another
-- document as much, if it writes the same bytes there (`given_as_long`). Right after it a set replaces the value
-- (ValueAdded, BroughtValue).
--
-- Theorems: `given`; `same_place`, `given_alike`; `given_as_long`; `set_right_after`.
use Rattle.std.proofs.Common.{◌≡◌, ℕ, suc, ◌+◌, Bool, true, false, List, ◌++◌, length, take, sym, ap, ◌∙◌}
use Rattle.std.proofs.lemmas.Option.{same_Some}
use Rattle.keep_types.specs.declared.leaf.Profile.{Profile}
use Rattle.keep_syntax.specs.Tree.{Document, Value, bom_leaves, text_of, value_text}
use Rattle.keep_path.specs.Path.{Part}
use Rattle.keep_edit_spec.specs.AddedLines.{first_new}
use Rattle.keep_edit_spec.specs.DottedLines.{AddsLineTo}
use Rattle.keep_edit_spec.specs.Edits.{edited_document, insert}
use Rattle.keep_edit_spec.specs.InsertKinds.{AddsAs}
use Rattle.keep_edit_spec.specs.Laws.{IsEditable}
use Rattle.keep_edit_spec.specs.Lines.{newline_of}
use Rattle.keep_edit_spec.specs.SetValues.{SetsValue}
use Rattle.keep_edit_spec.specs.TextChanges.{TextChange, change_at}
use Rattle.keep_edit_spec.specs.declared.line_kind.LineKind.{LineKind}
use Rattle.keep_edit_spec.specs.declared.line_kind.LineKind.TheVariants.{LastInBody, OfDotted, WithHeader}
use Rattle.keep_edit_spec.proofs.Lists.AddedKeys.{as_long, keys_text, line_text_is, same_line}
use Rattle.keep_edit_spec.proofs.Lists.AddedKeyval.{AddsKeyval, keyval_of, keys as keys_of_line}
use Rattle.keep_edit_spec.proofs.Lists.BroughtTexts.{before_value, brought_alike, brought_as_long, brought_at_one}
use Rattle.keep_edit_spec.proofs.Lists.BroughtTexts.{brought_text}
use Rattle.keep_edit_spec.proofs.Lists.BroughtValue.{set_after_brought_line}
use Rattle.keep_edit_spec.proofs.Lists.DottedLine as dotted
use Rattle.keep_edit_spec.proofs.Lists.LineKinds.{as_kind, line_kind}
use Rattle.keep_edit_spec.proofs.Lists.Places.{at_is, width}
use Rattle.keep_edit_spec.proofs.Lists.ValueAdded.{set_after}

-- what comes before the value
pub record IsGiven (s : Document) (value : Value) (c : TextChange) : Type 0 where
  pub before : List ℕ
  pub text : c.new ≡ before ++ (value_text value ++ (newline_of s).text)

-- ---- lines without headers

module _ (to : Bool) (profile : Profile) (limit : ℕ) where
  abbrev line : (s : Document) (path : List Part) (value : Value) (c : TextChange) → IsEditable profile limit s
      → AddsLineTo to profile limit s path value c → AddsKeyval profile limit s path value c
  line s path value c fine h = keyval_of profile limit s path value c to fine h

  abbrev pub given_line : (s : Document) (path : List Part) (value : Value) (c : TextChange)
      → IsEditable profile limit s → AddsLineTo to profile limit s path value c → IsGiven s value c
  given_line s path value c fine h = record {
    before = keys_text (keys_of_line profile limit s path value c (line s path value c fine h));
    text = line_text_is profile limit s path value c (line s path value c fine h);
  }

  alike_lines : (s : Document) (path : List Part) (value more : Value) (c d : TextChange)
      → (fine : IsEditable profile limit s) → (h : AddsLineTo to profile limit s path value c)
      → (k : AddsLineTo to profile limit s path more d) → c.at ≡ d.at
      → (given_line s path value c fine h).before ≡ (given_line s path more d fine k).before
  alike_lines s path value more c d fine h k at =
      ap keys_text
      (same_line profile limit s path value more c d fine (line s path value c fine h) (line s path more d fine k) at)

  lines_as_long : (s now : Document) (path : List Part) (value : Value) (c d : TextChange)
      → (fine : IsEditable profile limit s) → (then : IsEditable profile limit now)
      → (h : AddsLineTo to profile limit s path value c) → (k : AddsLineTo to profile limit now path value d)
      → c.new ≡ d.new
      → length (given_line s path value c fine h).before ≡ length (given_line now path value d then k).before
  lines_as_long s now path value c d fine then h k new =
      as_long profile limit s now path value c d fine then (line s path value c fine h) (line now path value d then k)
      new

  set_after_line : (s : Document) (path : List Part) (value : Value) (c : TextChange)
      → (fine : IsEditable profile limit s) → (h : AddsLineTo to profile limit s path value c) → (more : Value)
      → (d : TextChange) → AddsLineTo to profile limit s path more d
      → SetsValue profile limit (edited_document s (insert path value)) path more
      (change_at (c.at + length (given_line s path value c fine h).before) (length (value_text value))
      (value_text more))
  set_after_line s path value c fine h more d k =
      set_after profile limit s path value c (line s path value c fine h) fine
      (line_kind to, as_kind to profile limit s path value c h) more d
      (line_kind to, as_kind to profile limit s path more d k)

-- ---- any line

abbrev pub given : (kind : LineKind) (profile : Profile) (limit : ℕ) (s : Document) (path : List Part) (value : Value)
    (c : TextChange) → IsEditable profile limit s → AddsAs kind profile limit s path value c → IsGiven s value c
given LastInBody profile limit s path value c fine h = given_line false profile limit s path value c fine h
given OfDotted profile limit s path value c fine h = given_line true profile limit s path value c fine h
given WithHeader profile limit s path value c fine h = record {
  before = before_value profile limit s path value c h;
  text = brought_text profile limit s path value c h;
}

-- two inserts of one path
module _ (profile : Profile) (limit : ℕ) (s : Document) (path : List Part) (value more : Value) (c d : TextChange) where
  pub same_place : (kind : LineKind) → AddsAs kind profile limit s path value c
      → AddsAs kind profile limit s path more d → c.at ≡ d.at
  same_place LastInBody h k =
      let number : h.number ≡ k.number = same_Some h.number k.number (sym h.ends ∙ k.ends) in
      at_is profile limit s path value c h
      ∙ ap (λ (n : ℕ). length (text_of (bom_leaves s.bom)) + width (take n s.ended)) number
      ∙ sym (at_is profile limit s path more d k)
  same_place OfDotted h k =
      let number : h.number ≡ k.number = same_Some h.number k.number (sym h.last ∙ k.last) in
      dotted.at_is profile limit s path value c h
      ∙ ap (λ (n : ℕ). length (text_of (bom_leaves s.bom)) + width (take (suc n) s.ended)) number
      ∙ sym (dotted.at_is profile limit s path more d k)
  same_place WithHeader h k = brought_at_one profile limit s path value more c d h k

  pub given_alike : (kind : LineKind) (fine : IsEditable profile limit s)
      (h : AddsAs kind profile limit s path value c) (k : AddsAs kind profile limit s path more d)
      → (given kind profile limit s path value c fine h).before ≡ (given kind profile limit s path more d fine k).before
  given_alike LastInBody fine h k =
      alike_lines false profile limit s path value more c d fine h k (same_place LastInBody h k)
  given_alike OfDotted fine h k =
      alike_lines true profile limit s path value more c d fine h k (same_place OfDotted h k)
  given_alike WithHeader fine h k = brought_alike profile limit s path value more c d h k

pub given_as_long : (kind : LineKind) (profile : Profile) (limit : ℕ) (s now : Document) (path : List Part)
    (value : Value) (c d : TextChange) (fine : IsEditable profile limit s) (then : IsEditable profile limit now)
    (h : AddsAs kind profile limit s path value c) (k : AddsAs kind profile limit now path value d) → c.new ≡ d.new
    → first_new now path ≡ first_new s path
    → length (given kind profile limit s path value c fine h).before
    ≡ length (given kind profile limit now path value d then k).before
given_as_long LastInBody profile limit s now path value c d fine then h k new first =
    lines_as_long false profile limit s now path value c d fine then h k new
given_as_long OfDotted profile limit s now path value c d fine then h k new first =
    lines_as_long true profile limit s now path value c d fine then h k new
given_as_long WithHeader profile limit s now path value c d fine then h k new first =
    brought_as_long profile limit s now path value c d h k new first

pub set_right_after : (kind : LineKind) (profile : Profile) (limit : ℕ) (s : Document) (path : List Part)
    (value : Value) (c : TextChange) (fine : IsEditable profile limit s)
    (h : AddsAs kind profile limit s path value c) (more : Value) (d : TextChange)
    → AddsAs kind profile limit s path more d
    → SetsValue profile limit (edited_document s (insert path value)) path more
    (change_at (c.at + length (given kind profile limit s path value c fine h).before) (length (value_text value))
    (value_text more))
set_right_after LastInBody profile limit s path value c fine h more d k =
    set_after_line false profile limit s path value c fine h more d k
set_right_after OfDotted profile limit s path value c fine h more d k =
    set_after_line true profile limit s path value c fine h more d k
set_right_after WithHeader profile limit s path value c fine h more d k =
    set_after_brought_line profile limit s path value c h fine more d k
