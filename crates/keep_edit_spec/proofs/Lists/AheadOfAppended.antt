-- An insert that adds a line, maybe at the end of the text, adds the same one at the same byte after a header was
-- appended, if the header's keys lead neither to the first new key nor to the table of a header that the line brings.
--
-- The header comes behind all lines of the document, so each begins where it did; the line of the insert comes before
-- the header's lines, maybe where these begin. The holder is the same, the insert is not refused, and its line comes
-- after the same one as before: that holds at any byte which some change leaves where it is (InsertAfterHeader,
-- DottedAfterHeader, BroughtAfterHeader), and one right behind the byte does (`unmoved`). The first newline is the
-- same, too, since the text has one (HeaderLines).
--
-- Theorems: `adds_ahead_of_table`, `adds_ahead_of_element`.
use Rattle.std.proofs.Common.{◌≡◌, ℕ, true, List, [], refl, sym, ap, subst, ◌∙◌, Option}
use Rattle.keep_types.specs.declared.leaf.Profile.{Profile}
use Rattle.keep_syntax.specs.Tree.{Content, Document, Value, element, header, text}
use Rattle.keep_path.specs.Path.{Part}
use Rattle.keep_edit_spec.specs.AddedLines.{AddsLineStill, first_new}
use Rattle.keep_edit_spec.specs.BroughtHeaders.{StillBrings}
use Rattle.keep_edit_spec.specs.Changed.{Changed}
use Rattle.keep_edit_spec.specs.DottedLines.{StillAdds}
use Rattle.keep_edit_spec.specs.Edits.{changed_or_same, insert, key_with}
use Rattle.keep_edit_spec.specs.InsertKinds.{AddsAs, added_as}
use Rattle.keep_edit_spec.specs.Laws.{IsEditable}
use Rattle.keep_edit_spec.specs.Lines.{is_header, newline_of}
use Rattle.keep_edit_spec.specs.LinesAhead.{StillAddsAheadOfElement, StillAddsAheadOfTable}
use Rattle.keep_edit_spec.specs.Runs.{IsSeenStill, PassesBy, PassesTable}
use Rattle.keep_edit_spec.specs.TextChanges.{TextChange}
use Rattle.keep_edit_spec.specs.TextEnds.{ends_in_newline}
use Rattle.keep_edit_spec.specs.declared.line_kind.LineKind.{LineKind}
use Rattle.keep_edit_spec.specs.declared.line_kind.LineKind.TheVariants.{LastInBody, OfDotted, WithHeader}
use Rattle.keep_edit_spec.proofs.Lists.BroughtAfterHeader as brought
use Rattle.keep_edit_spec.proofs.Lists.DottedAfterHeader as dotted
use Rattle.keep_edit_spec.proofs.Lists.HeaderComes.{HeaderComes, after_header, element_comes, table_comes}
use Rattle.keep_edit_spec.proofs.Lists.HeaderLines.{headed, newline_again}
use Rattle.keep_edit_spec.proofs.Lists.InsertAfterHeader as line
use Rattle.keep_edit_spec.proofs.Lists.LineKinds.{of_table, seen_still}
use Rattle.keep_edit_spec.proofs.Lists.MadeStill.{brings_still}
use Rattle.keep_edit_spec.proofs.Lists.TextChanges.{behind, unmoved}

-- in that document, too, and seen there as before
abbrev AddsThere : LineKind → Profile → ℕ → Document → List Part → Value → TextChange → Document → Type 0
AddsThere kind profile limit s other more d now =
    AddsAs kind profile limit now other more d × IsSeenStill s now (insert other more)

module _ (profile : Profile) (limit : ℕ) (s : Document) (keys : List (List ℕ)) (c : TextChange) (content : Content)
    (other : List Part) (more : Value) (d : TextChange) (fine : IsEditable profile limit s)
    (h : HeaderComes s keys c content) (is : is_header content ≡ true) (closed : ends_in_newline (text s) ≡ true)
    (clear : PassesBy keys (first_new s other)) where
  abbrev now : Document
  now = (headed s content).to

  same : newline_of now ≡ newline_of s
  same =
      ap (λ (o : Option (Changed Document)). newline_of (changed_or_same s o).to) (sym h.made)
      ∙ newline_again profile s fine.valid closed content

  adds_now : (kind : LineKind) → AddsAs kind profile limit s other more d → PassesTable keys (added_as s other d)
      → AddsThere kind profile limit s other more d now
  adds_now LastInBody k lets =
      let x : AddsLineStill profile limit s now other more d =
      subst (λ (i : ℕ). AddsLineStill profile limit s now other more (record d { at = i })) (unmoved d.at)
      (line.adds_now profile limit s keys c content other more d fine h is k clear (behind d.at) (unmoved d.at) same) in
      (x.0, seen_still LastInBody profile limit s now other more d d k x.0 x.1)
  adds_now OfDotted k lets =
      let x : StillAdds true profile limit s now other more d =
      subst (λ (i : ℕ). StillAdds true profile limit s now other more (record d { at = i })) (unmoved d.at)
      (dotted.adds_now profile limit s keys c content other more d fine h is k clear (behind d.at) (unmoved d.at)
      same) in
      (x.0, seen_still OfDotted profile limit s now other more d d k x.0 x.1)
  adds_now WithHeader k lets =
      let x : StillBrings profile limit s now other more d =
      subst (λ (i : ℕ). StillBrings profile limit s now other more (record d { at = i })) (unmoved d.at)
      (brought.brings_now profile limit s keys c content other more d fine h is k clear
      (of_table (PassesBy keys) profile limit s other more d k lets) (behind d.at) (unmoved d.at) same) in
      (x.0, (brings_still profile limit s now other more d d k x).1)

-- ---- of a table, and of an element

pub adds_ahead_of_table : StillAddsAheadOfTable
adds_ahead_of_table profile limit s keys c kind other more d fine h k clear lets =
    let one : Content = header [] (key_with keys) [] in
    let come : HeaderComes s keys c one = table_comes profile limit s keys c fine h in
    after_header (AddsThere kind profile limit s other more d) s one keys c come
    (adds_now profile limit s keys c one other more d fine come refl h.closed clear kind k lets)

pub adds_ahead_of_element : StillAddsAheadOfElement
adds_ahead_of_element profile limit s keys c kind other more d fine h k clear lets =
    let one : Content = element [] (key_with keys) [] in
    let come : HeaderComes s keys c one = element_comes profile limit s keys c fine h in
    after_header (AddsThere kind profile limit s other more d) s one keys c come
    (adds_now profile limit s keys c one other more d fine come refl h.closed clear kind k lets)
