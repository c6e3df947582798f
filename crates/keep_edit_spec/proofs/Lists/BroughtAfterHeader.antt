-- An insert that brings the header of its table brings the same after another header came at the end of the text, if
-- the keys of that one lead neither to the first new key nor to the table, and it does not write at the end of the text
-- itself.
--
-- The other header says nothing of the table (HeaderComes), so it begins no body of it and does not go through it: the
-- last header that does is the same, and its body ends where it did (HeaderEnds). So the table is the holder still, and
-- the insert is not refused (KeysAfterHeader). The other header comes behind that body, so the place stays, and the
-- same lines come (BroughtAgain).
--
-- Theorems: `brought_after_table`, `brought_after_element`; `brings_now`: at any byte that a change leaves where it is.
use Rattle.std.proofs.Common.{◌≡◌, ℕ, ◌≤◌, true, List, [], length, refl, sym, ap, ◌∙◌, length-append, arith}
use Rattle.std.proofs.Common.{Option}
use Rattle.keep_types.specs.declared.leaf.Profile.{Profile}
use Rattle.keep_syntax.specs.Tree.{Content, Document, Value, element, header}
use Rattle.keep_path.specs.Path.{Part}
use Rattle.keep_meaning.specs.Meaning.{lines, mentions_in}
use Rattle.keep_meaning.specs.Nodes.{is_node, kinds_at}
use Rattle.keep_edit_spec.specs.AddedLines.{first_new}
use Rattle.keep_edit_spec.specs.BroughtHeaders.{BringsHeader, StillBrings}
use Rattle.keep_edit_spec.specs.Changed.{Changed}
use Rattle.keep_edit_spec.specs.ClearedLines.{line_start}
use Rattle.keep_edit_spec.specs.Edits.{changed_or_same, insert, key_with}
use Rattle.keep_edit_spec.specs.Laws.{IsEditable}
use Rattle.keep_edit_spec.specs.Lines.{body_end, is_header, newline_of}
use Rattle.keep_edit_spec.specs.Look.{holder}
use Rattle.keep_edit_spec.specs.Runs.{PassesBy}
use Rattle.keep_edit_spec.specs.TextChanges.{TextChange, moved, moved_by}
use Rattle.keep_edit_spec.proofs.Common.Runs.{AllOf}
use Rattle.keep_edit_spec.proofs.Lists.BroughtAgain.{IsThroughThere, brought_again}
use Rattle.keep_edit_spec.proofs.Lists.BroughtAllowed.{brought_keys}
use Rattle.keep_edit_spec.proofs.Lists.BroughtKinds.{BroughtAfterElement, BroughtAfterTable}
use Rattle.keep_edit_spec.proofs.Lists.BroughtLines.{at_is}
use Rattle.keep_edit_spec.proofs.Lists.HeaderComes.{HeaderComes, after_header, begins_none, element_comes, not_through}
use Rattle.keep_edit_spec.proofs.Lists.HeaderComes.{states_nothing, table_comes}
use Rattle.keep_edit_spec.proofs.Lists.HeaderEnds.{body_end_headed, end_headed, leads_headed, through_headed}
use Rattle.keep_edit_spec.proofs.Lists.HeaderLines.{header_lines, headed, put_is, starts_stay}
use Rattle.keep_edit_spec.proofs.Lists.HeaderNew.{StatesNothing}
use Rattle.keep_edit_spec.proofs.Lists.HeaderSays.{kinds_same}
use Rattle.keep_edit_spec.proofs.Lists.KeysAfterHeader.{at_headed, holder_headed, refusal_headed}
use Rattle.keep_edit_spec.proofs.Lists.NewPaths.{InsertsKeys, goes}
use Rattle.keep_edit_spec.proofs.Lists.SaidOfPrefixes.{node_kinds, node_of}

module _ (profile : Profile) (limit : ℕ) (s : Document) (keys : List (List ℕ)) (c : TextChange) (content : Content)
    (other : List Part) (more : Value) (d : TextChange) (fine : IsEditable profile limit s)
    (h : HeaderComes s keys c content) (is : is_header content ≡ true) (k : BringsHeader profile limit s other more d)
    (clear : PassesBy keys (first_new s other)) (beside : PassesBy keys (holder other (mentions_in s)))
    (beyond : TextChange)
    (stays : moved_by beyond d.at ≡ d.at) where
  abbrev now : Document
  now = (headed s content).to

  abbrev a : List Part
  a = holder other (mentions_in s)

  abbrev its : InsertsKeys profile limit s other more
  its = brought_keys profile limit s other more d k

  -- ---- the last header that goes through the table

  nothing : AllOf (StatesNothing a) h.own
  nothing = states_nothing s keys c content h a beside

  end_now : body_end k.number (lines now) ≡ body_end k.number (lines s)
  end_now = body_end_headed s content h.empty is k.number (omega (arith, k.closed))

  closed_now : body_end k.number (lines s) ≤ length now.ended
  closed_now =
      omega (
        arith,
        k.closed,
        ap (λ (t : Document). length t.ended) (put_is s content),
        length-append s.ended (header_lines s content),
      )

  there : IsThroughThere s other now k.number
  there = record {
    bare = end_headed s content h.empty is a (begins_none s keys c content h a nothing) ∙ k.bare;
    no_dots = leads_headed s content h.empty is a ∙ k.no_dots;
    last = through_headed s content h.empty is a (not_through s keys c content h a beside) ∙ k.last;
    closed = omega (arith, end_now, closed_now);
  }

  node_now : is_node a (mentions_in now) ≡ true
  node_now =
      node_kinds a (mentions_in now)
      ∙ ap (node_of a)
      (ap (kinds_at a) h.says ∙ kinds_same keys a (mentions_in s) h.own beside h.of_header)
      ∙ sym (node_kinds a (mentions_in s)) ∙ (goes profile limit s other more its).node

  -- ---- the lines

  begins_at : line_start now (body_end k.number (lines now)) ≡ moved_by beyond d.at
  begins_at =
      ap (line_start now) end_now ∙ starts_stay s content (body_end k.number (lines s)) k.closed
      ∙ sym (at_is profile limit s other more d k) ∙ sym stays

  -- the same lines, where a change beyond them leaves them
  pub brings_now : newline_of now ≡ newline_of s → StillBrings profile limit s now other more (moved beyond d)
  brings_now same =
      brought_again profile limit s now other more beyond d k k.number there begins_at same
      (holder_headed s keys c content h profile limit other more its clear node_now nothing)
      (refusal_headed s keys c content h profile limit other more its clear node_now nothing)

-- ---- of a table, and of an element

pub brought_after_table : BroughtAfterTable
brought_after_table profile limit s keys c other more d fine h k clear beside apart same =
    let one : Content = header [] (key_with keys) [] in
    let come : HeaderComes s keys c one = table_comes profile limit s keys c fine h in
    after_header (λ (t : Document). StillBrings profile limit s t other more (moved c d)) s one keys c come
    (brings_now profile limit s keys c one other more d fine come refl k clear beside c
    (at_headed s keys c one come profile fine.valid (insert other more) d k.is apart)
    (ap (λ (o : Option (Changed Document)). newline_of (changed_or_same s o).to) (sym come.made) ∙ same))

pub brought_after_element : BroughtAfterElement
brought_after_element profile limit s keys c other more d fine h k clear beside apart same =
    let one : Content = element [] (key_with keys) [] in
    let come : HeaderComes s keys c one = element_comes profile limit s keys c fine h in
    after_header (λ (t : Document). StillBrings profile limit s t other more (moved c d)) s one keys c come
    (brings_now profile limit s keys c one other more d fine come refl k clear beside c
    (at_headed s keys c one come profile fine.valid (insert other more) d k.is apart)
    (ap (λ (o : Option (Changed Document)). newline_of (changed_or_same s o).to) (sym come.made) ∙ same))
