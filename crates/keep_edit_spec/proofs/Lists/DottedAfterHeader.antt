-- An insert that adds a line to a table which dotted keys make adds the same one after a header came at the end of the
-- text, if the header's keys do not lead to the first new key and it does not write at the end of the text itself.
--
-- Dotted keys make the holder in the document, so the header does not begin a body of it (HeaderComes), and leads
-- through nothing by dots: the last line that leads through the holder is the same (HeaderEnds). So it is the holder
-- still, and the insert is not refused (KeysAfterHeader). The header comes behind that line, so the place stays, and
-- the same line comes (DottedAgain).
--
-- Theorems: `dotted_after_table`, `dotted_after_element`; `adds_now`: at any byte that a change leaves where it is.
use Rattle.std.proofs.Common.{◌≡◌, ℕ, suc, true, List, [], ◌∷◌, length, map, refl, sym, ap, subst, ◌∙◌}
use Rattle.std.proofs.Common.{length-append, arith, Option, Some, inr}
use Rattle.std.proofs.lemmas.List.{length-map}
use Rattle.keep_types.specs.declared.leaf.Profile.{Profile}
use Rattle.keep_syntax.specs.Tree.{Content, Document, Line, Value, blank, element, header}
use Rattle.keep_path.specs.Path.{Part}
use Rattle.keep_meaning.specs.Marks.{Reading, start}
use Rattle.keep_meaning.specs.Meaning.{line_of, lines, mentions_in}
use Rattle.keep_meaning.specs.Nodes.{is_node}
use Rattle.keep_edit_spec.specs.AddedLines.{first_new}
use Rattle.keep_edit_spec.specs.Changed.{Changed}
use Rattle.keep_edit_spec.specs.ClearedLines.{line_start}
use Rattle.keep_edit_spec.specs.DottedLines.{AddsDotted, StillAdds}
use Rattle.keep_edit_spec.specs.Edits.{changed_or_same, insert, key_with}
use Rattle.keep_edit_spec.specs.Laws.{IsEditable}
use Rattle.keep_edit_spec.specs.Lines.{is_header, last_line, leads_dotted, newline_of, plain_line, reading_at}
use Rattle.keep_edit_spec.specs.Look.{holder}
use Rattle.keep_edit_spec.specs.Runs.{PassesBy}
use Rattle.keep_edit_spec.specs.TextChanges.{TextChange, moved, moved_by}
use Rattle.keep_edit_spec.proofs.Common.LineLaws.{EndsInKey}
use Rattle.keep_edit_spec.proofs.Common.SetDocument.{ends_keys}
use Rattle.keep_edit_spec.proofs.Insert.InsertDotted.{IsDottedLine}
use Rattle.keep_edit_spec.proofs.Lists.DottedAgain.{IsLastThere, dotted_again}
use Rattle.keep_edit_spec.proofs.Lists.DottedKinds.{DottedAfterElement, DottedAfterTable}
use Rattle.keep_edit_spec.proofs.Lists.DottedLine as line
use Rattle.keep_edit_spec.proofs.Lists.HeaderComes.{HeaderComes, after_header, element_comes, not_begun, table_comes}
use Rattle.keep_edit_spec.proofs.Lists.HeaderEnds.{end_headed, leads_headed}
use Rattle.keep_edit_spec.proofs.Lists.HeaderLines.{header_lines, headed, lines_are, put_is, starts_stay}
use Rattle.keep_edit_spec.proofs.Lists.HeaderNew.{IsMadeIn}
use Rattle.keep_edit_spec.proofs.Lists.KeysAfterHeader.{at_headed, holder_headed, refusal_headed}
use Rattle.keep_edit_spec.proofs.Lists.NewHolder.{lead_node}
use Rattle.keep_edit_spec.proofs.Lists.NewPaths.{InsertsKeys, dotted_keys}
use Rattle.keep_edit_spec.proofs.Lists.OneLineMore.{reading_alike}

module _ (profile : Profile) (limit : ℕ) (s : Document) (keys : List (List ℕ)) (c : TextChange) (content : Content)
    (other : List Part) (more : Value) (d : TextChange) (fine : IsEditable profile limit s)
    (h : HeaderComes s keys c content) (is : is_header content ≡ true) (k : AddsDotted profile limit s other more d)
    (clear : PassesBy keys (first_new s other)) (beyond : TextChange)
    (stays : moved_by beyond d.at ≡ d.at) where
  abbrev now : Document
  now = (headed s content).to

  abbrev a : List Part
  a = holder other (mentions_in s)

  abbrev n : ℕ
  n = k.number

  abbrev its : InsertsKeys profile limit s other more
  its = dotted_keys profile limit s other more d k

  -- ---- the last line that leads through the holder

  made : IsMadeIn a (mentions_in s)
  made =
      let l : IsDottedLine s a n = line.before profile limit s other more d k in
      let body : List Part = (reading_at n (lines s)).body in
      let ends : EndsInKey a = subst EndsInKey (sym l.whole) (ends_keys body l.first l.prefix) in
      inr (ends, l.dotted)

  last_now : last_line (leads_dotted a) start (lines now) ≡ Some n
  last_now = leads_headed s content h.empty is a ∙ k.last

  body_now : (reading_at n (lines now)).body ≡ (reading_at n (lines s)).body
  body_now =
      ap (λ (t : Document). (reading_at n (lines t)).body) (put_is s content)
      ∙ ap (λ (ls : List Line). (reading_at n ls).body) (lines_are s content)
      ∙ ap (λ (r : Reading). r.body)
      (reading_alike start (map line_of s.ended) (plain_line blank ∷ plain_line content ∷ s.last ∷ []) (s.last ∷ []) n
      (omega (arith, k.closed, length-map s.ended line_of)))

  there : IsLastThere s other n now n
  there = record {
    bare = end_headed s content h.empty is a (not_begun s keys c content h a made) ∙ k.bare;
    last = last_now;
    body = body_now;
    closed =
        omega (
          arith,
          k.closed,
          ap (λ (t : Document). length t.ended) (put_is s content),
          length-append s.ended (header_lines s content),
        );
  }

  node_now : is_node a (mentions_in now) ≡ true
  node_now = lead_node now a n last_now

  -- ---- the line

  begins_at : line_start now (suc n) ≡ moved_by beyond d.at
  begins_at =
      starts_stay s content (suc n) k.closed ∙ sym (line.at_is profile limit s other more d k) ∙ sym stays

  -- the same line, where a change beyond it leaves it
  pub adds_now : newline_of now ≡ newline_of s → StillAdds true profile limit s now other more (moved beyond d)
  adds_now same =
      dotted_again profile limit s now other more beyond d k n there begins_at same
      (holder_headed s keys c content h profile limit other more its clear node_now (h.new a made))
      (refusal_headed s keys c content h profile limit other more its clear node_now (h.new a made))

-- ---- of a table, and of an element

pub dotted_after_table : DottedAfterTable
dotted_after_table profile limit s keys c other more d fine h k clear apart same =
    let one : Content = header [] (key_with keys) [] in
    let come : HeaderComes s keys c one = table_comes profile limit s keys c fine h in
    after_header (λ (t : Document). StillAdds true profile limit s t other more (moved c d)) s one keys c come
    (adds_now profile limit s keys c one other more d fine come refl k clear c
    (at_headed s keys c one come profile fine.valid (insert other more) d k.is apart)
    (ap (λ (o : Option (Changed Document)). newline_of (changed_or_same s o).to) (sym come.made) ∙ same))

pub dotted_after_element : DottedAfterElement
dotted_after_element profile limit s keys c other more d fine h k clear apart same =
    let one : Content = element [] (key_with keys) [] in
    let come : HeaderComes s keys c one = element_comes profile limit s keys c fine h in
    after_header (λ (t : Document). StillAdds true profile limit s t other more (moved c d)) s one keys c come
    (adds_now profile limit s keys c one other more d fine come refl k clear c
    (at_headed s keys c one come profile fine.valid (insert other more) d k.is apart)
    (ap (λ (o : Option (Changed Document)). newline_of (changed_or_same s o).to) (sym come.made) ∙ same))
