-- An insert that adds a line adds the same one after a header came at the end of the text, if the header's keys do not
-- lead to the first new key and it does not write at the end of the text itself.
--
-- The holder's body begins in the document, so the header does not begin it once more (HeaderComes): it ends where it
-- did (HeaderEnds). So it is the holder still, and the insert is not refused (KeysAfterHeader). The header comes behind
-- the line, so the place stays, and the same line comes (AddsAgain).
--
-- Theorems: `insert_after_table`, `insert_after_element`; `adds_now`: at any byte that a change leaves where it is.
use Rattle.std.proofs.Common.{◌≡◌, ℕ, ◌≤◌, true, List, [], length, refl, sym, ap, ◌∙◌, length-append, arith}
use Rattle.std.proofs.Common.{Option, Some, inl}
use Rattle.keep_types.specs.declared.leaf.Profile.{Profile}
use Rattle.keep_syntax.specs.Tree.{Content, Document, Value, element, header}
use Rattle.keep_path.specs.Path.{Part}
use Rattle.keep_meaning.specs.Meaning.{mentions_in}
use Rattle.keep_meaning.specs.Nodes.{is_node}
use Rattle.keep_edit_spec.specs.AddedLines.{AddsLine, AddsLineStill, first_new}
use Rattle.keep_edit_spec.specs.Changed.{Changed}
use Rattle.keep_edit_spec.specs.ClearedLines.{line_start}
use Rattle.keep_edit_spec.specs.Edits.{changed_or_same, end_of, insert, key_with}
use Rattle.keep_edit_spec.specs.Laws.{IsEditable}
use Rattle.keep_edit_spec.specs.Lines.{is_header, newline_of}
use Rattle.keep_edit_spec.specs.Look.{holder}
use Rattle.keep_edit_spec.specs.Runs.{PassesBy}
use Rattle.keep_edit_spec.specs.TextChanges.{TextChange, moved, moved_by}
use Rattle.keep_edit_spec.proofs.Common.BodyEnd.{end_is}
use Rattle.keep_edit_spec.proofs.Lists.AddsAgain.{adds_there}
use Rattle.keep_edit_spec.proofs.Lists.HeaderComes.{HeaderComes, after_header, element_comes, not_begun, table_comes}
use Rattle.keep_edit_spec.proofs.Lists.HeaderEnds.{end_headed}
use Rattle.keep_edit_spec.proofs.Lists.HeaderLines.{header_lines, headed, put_is, starts_stay}
use Rattle.keep_edit_spec.proofs.Lists.HeaderNew.{IsMadeIn}
use Rattle.keep_edit_spec.proofs.Lists.KeysAfterHeader.{at_headed, holder_headed, refusal_headed}
use Rattle.keep_edit_spec.proofs.Lists.NewHolder.{body_node}
use Rattle.keep_edit_spec.proofs.Lists.NewPaths.{InsertsKeys, line_keys}
use Rattle.keep_edit_spec.proofs.Lists.Places.{at_is}
use Rattle.keep_edit_spec.proofs.Lists.TwoKinds.{InsertAfterElement, InsertAfterTable}

module _ (profile : Profile) (limit : ℕ) (s : Document) (keys : List (List ℕ)) (c : TextChange) (content : Content)
    (other : List Part) (more : Value) (d : TextChange) (fine : IsEditable profile limit s)
    (h : HeaderComes s keys c content) (is : is_header content ≡ true) (k : AddsLine profile limit s other more d)
    (clear : PassesBy keys (first_new s other)) (beyond : TextChange)
    (stays : moved_by beyond d.at ≡ d.at) where
  abbrev now : Document
  now = (headed s content).to

  abbrev a : List Part
  a = holder other (mentions_in s)

  abbrev n : ℕ
  n = k.number

  abbrev its : InsertsKeys profile limit s other more
  its = line_keys profile limit s other more d k

  -- ---- the end of the holder's body

  made : IsMadeIn a (mentions_in s)
  made = inl (end_is s a n k.ends).stated

  end_now : end_of now a ≡ Some n
  end_now = end_headed s content h.empty is a (not_begun s keys c content h a made) ∙ k.ends

  node_now : is_node a (mentions_in now) ≡ true
  node_now = body_node now a n end_now

  closed_now : n ≤ length now.ended
  closed_now =
      omega (
        arith,
        k.closed,
        ap (λ (t : Document). length t.ended) (put_is s content),
        length-append s.ended (header_lines s content),
      )

  -- ---- the line

  begins_at : line_start now n ≡ moved_by beyond d.at
  begins_at =
      starts_stay s content n k.closed ∙ sym (at_is profile limit s other more d k) ∙ sym stays

  -- the same line, where a change beyond it leaves it
  pub adds_now : newline_of now ≡ newline_of s → AddsLineStill profile limit s now other more (moved beyond d)
  adds_now same =
      adds_there profile limit s now other more d k n end_now closed_now beyond begins_at same
      (holder_headed s keys c content h profile limit other more its clear node_now (h.new a made))
      (refusal_headed s keys c content h profile limit other more its clear node_now (h.new a made)) k.newline

-- ---- of a table, and of an element

pub insert_after_table : InsertAfterTable
insert_after_table profile limit s keys c other more d fine h k clear apart same =
    let one : Content = header [] (key_with keys) [] in
    let come : HeaderComes s keys c one = table_comes profile limit s keys c fine h in
    after_header (λ (t : Document). AddsLineStill profile limit s t other more (moved c d)) s one keys c come
    (adds_now profile limit s keys c one other more d fine come refl k clear c
    (at_headed s keys c one come profile fine.valid (insert other more) d k.is apart)
    (ap (λ (o : Option (Changed Document)). newline_of (changed_or_same s o).to) (sym come.made) ∙ same))

pub insert_after_element : InsertAfterElement
insert_after_element profile limit s keys c other more d fine h k clear apart same =
    let one : Content = element [] (key_with keys) [] in
    let come : HeaderComes s keys c one = element_comes profile limit s keys c fine h in
    after_header (λ (t : Document). AddsLineStill profile limit s t other more (moved c d)) s one keys c come
    (adds_now profile limit s keys c one other more d fine come refl k clear c
    (at_headed s keys c one come profile fine.valid (insert other more) d k.is apart)
    (ap (λ (o : Option (Changed Document)). newline_of (changed_or_same s o).to) (sym come.made) ∙ same))
