-- A remove takes the same table or element with its header after another header came at the end of the text, if that
-- one's keys do not lead to the path. (Those of an element's path are its array's, so no element of that array comes.)
--
-- The body begins in the document, so the new header does not begin it once more (HeaderComes). So its header is still
-- the last that begins it, and it ends where it did (HeaderEnds). The new header says nothing at the path (HeaderSays),
-- and the text ends in a newline again. It comes behind these lines, so they begin where they did (`stays`,
-- `begins_at`), and the remove takes them (TakenAgain).
--
-- Theorems: `taken_after_table`, `taken_after_element`.
use Rattle.std.proofs.Common.{◌≡◌, ℕ, ◌+◌, ◌-◌, ◌≤◌, Bool, true, false, cond, List, [], length, map, refl, sym, ap}
use Rattle.std.proofs.Common.{subst, ◌∙◌, arith, Option, Some, inl}
use Rattle.std.proofs.lemmas.Bool.{lt-ltb}
use Rattle.keep_types.specs.declared.leaf.Profile.{Profile}
use Rattle.keep_syntax.specs.Tree.{Content, Document, element, header, text}
use Rattle.keep_path.specs.Path.{Part}
use Rattle.keep_meaning.specs.Marks.{start}
use Rattle.keep_meaning.specs.Meaning.{line_of, lines, mentions_in, reading_after_lines}
use Rattle.keep_meaning.specs.Nodes.{kinds_at}
use Rattle.keep_edit_spec.specs.Changed.{Changed, Place}
use Rattle.keep_edit_spec.specs.ClearedLines.{line_start}
use Rattle.keep_edit_spec.specs.Edits.{append, append_element, append_table, changed_or_same, end_of, key_with, remove}
use Rattle.keep_edit_spec.specs.Laws.{IsEditable, IsLawfulEdit}
use Rattle.keep_edit_spec.specs.Lines.{begins, is_header, last_line, plain_line}
use Rattle.keep_edit_spec.specs.RemovedHeaders.{RemovesHeader}
use Rattle.keep_edit_spec.specs.Runs.{PassesBy}
use Rattle.keep_edit_spec.proofs.Lists.TakenKinds.{TakenAfterElement, TakenAfterTable}
use Rattle.keep_edit_spec.specs.TextChanges.{TextChange, moved, moved_by}
use Rattle.keep_edit_spec.specs.TextEnds.{ends_in_newline}
use Rattle.keep_edit_spec.proofs.EditLaws.{append_element_lawful, append_table_lawful, place_within}
use Rattle.keep_edit_spec.proofs.Common.BodyEnd.{end_is}
use Rattle.keep_edit_spec.proofs.Lists.HeaderComes.{HeaderComes, after_header, comes_at, element_comes, not_begun}
use Rattle.keep_edit_spec.proofs.Lists.HeaderComes.{table_comes}
use Rattle.keep_edit_spec.proofs.Lists.HeaderEnds.{end_headed, last_headed}
use Rattle.keep_edit_spec.proofs.Lists.HeaderLines.{ends_again, headed, starts_stay}
use Rattle.keep_edit_spec.proofs.Lists.HeaderSays.{kinds_same}
use Rattle.keep_edit_spec.proofs.Lists.TakenAgain as section

module _ (profile : Profile) (limit : ℕ) (s : Document) (keys : List (List ℕ)) (c : TextChange) (content : Content)
    (other : List Part) (d : TextChange) (fine : IsEditable profile limit s) (h : HeaderComes s keys c content)
    (is : is_header content ≡ true) (k : RemovesHeader profile limit s other d) (passes : PassesBy keys other) where
  abbrev now : Document
  now = (headed s content).to

  abbrev head : ℕ
  head = section.head_number profile limit s other d fine k

  abbrev end : ℕ
  end = section.end_number profile limit s other d fine k

  -- ---- the header and the end of the body

  not_again : begins other (reading_after_lines start (map line_of s.ended)) (plain_line content) ≡ false
  not_again =
      not_begun s keys c content h other
      (inl (end_is s other end (section.ends_is profile limit s other d fine k)).stated)

  head_now : last_line (begins other) start (lines now) ≡ Some head
  head_now = last_headed s content h.empty is other not_again ∙ section.head_is profile limit s other d fine k

  end_now : end_of now other ≡ Some end
  end_now = end_headed s content h.empty is other not_again ∙ section.ends_is profile limit s other d fine k

  kinds_now : kinds_at other (mentions_in now) ≡ kinds_at other (mentions_in s)
  kinds_now = ap (kinds_at other) h.says ∙ kinds_same keys other (mentions_in s) h.own passes h.of_header

  -- ---- the place

  within : d.at + d.size ≤ length (text s)
  within =
      omega (
        arith,
        ap (λ (p : Place). p.end) (section.its profile limit s other d fine k).is,
        place_within s (remove other),
      )

  stays : moved_by c d.at ≡ d.at
  stays =
      ap (λ (b : Bool). cond b d.at ((d.at + length c.new) - c.size))
      (lt-ltb d.at c.at (omega (
        arith,
        comes_at s keys c content h profile fine.valid,
        within,
        section.has_bytes profile limit s other d fine k,
      )))

  begins_at : (i : ℕ) → i ≤ length s.ended → line_start now i ≡ line_start s i
  begins_at i few = starts_stay s content i few

  -- ---- the remove

  takes_now : IsEditable profile limit (changed_or_same s (append s content)).to
      → RemovesHeader profile limit now other (moved c d)
  takes_now fine_then =
      let few : end ≤ length s.ended = section.few profile limit s other d fine k in
      let fine_now : IsEditable profile limit now =
      subst (λ (o : Option (Changed Document)). IsEditable profile limit (changed_or_same s o).to) h.made fine_then in
      let closed_now : ends_in_newline (text now) ≡ true =
      subst (λ (o : Option (Changed Document)). ends_in_newline (text (changed_or_same s o).to) ≡ true) h.made
      (ends_again profile s fine.valid (section.its profile limit s other d fine k).closed content fine_then.valid) in
      section.taken_again profile limit s other d fine k now c head end fine_now closed_now kinds_now head_now end_now
      (begins_at head (omega (arith, few)) ∙ sym (section.starts_at profile limit s other d fine k) ∙ sym stays)
      (begins_at end few ∙ sym (section.ends_at profile limit s other d fine k)
      ∙ ap (λ (at : ℕ). at + d.size) (sym stays))

-- ---- a header of a table comes, or one of an element

pub taken_after_table : TakenAfterTable
taken_after_table profile limit s keys c other d fine h k passes =
    let one : Content = header [] (key_with keys) [] in
    let come : HeaderComes s keys c one = table_comes profile limit s keys c fine h in
    let law : IsLawfulEdit profile limit s (append_table keys) =
    append_table_lawful profile limit s keys fine h.utf8 h.allowed in
    after_header (λ (t : Document). RemovesHeader profile limit t other (moved c d)) s one keys c come
    (takes_now profile limit s keys c one other d fine come refl k passes
    (record { valid = law.reads.valid; shallow = law.reads.shallow; obeys = law.obeys }))

pub taken_after_element : TakenAfterElement
taken_after_element profile limit s keys c other d fine h k passes =
    let one : Content = element [] (key_with keys) [] in
    let come : HeaderComes s keys c one = element_comes profile limit s keys c fine h in
    let law : IsLawfulEdit profile limit s (append_element keys) =
    append_element_lawful profile limit s keys fine h.utf8 h.allowed in
    after_header (λ (t : Document). RemovesHeader profile limit t other (moved c d)) s one keys c come
    (takes_now profile limit s keys c one other d fine come refl k passes
    (record { valid = law.reads.valid; shallow = law.reads.shallow; obeys = law.obeys }))
