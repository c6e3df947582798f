-- An insert that adds a line to a table which dotted keys make adds the same one after a remove, of another path, took
-- its line.
--
-- The last line that leads through the holder is not the one that is gone, since that one does not end where the new
-- line comes. So it is the last still, at its number or at one less, and in the same body (OneLineLess); and no line
-- begins a body of the holder (`bare_now`). The new line does not come right before the one that is gone. So the line
-- after the last one begins where it did, or the bytes of the line that is gone before that (`at_now`): the insert adds
-- its own there (DottedAgain). Where it does come right before that one, the last line is the one before it, and what
-- comes next begins where that began (`at_there`).
--
-- Theorems: `dotted_after_remove`; `dotted_before_remove`: right before the line that is gone.
use Rattle.std.proofs.Common.{◌≡◌, ◌≢◌, ℕ, suc, ◌+◌, ◌<◌, ◌≤◌, true, List, ◌∷◌, ◌++◌, length, sym, ap, subst, ◌∙◌}
use Rattle.std.proofs.Common.{arith, None, inl, inr}
use Rattle.std.proofs.lemmas.Bool.{cases_lt}
use Rattle.keep_types.specs.declared.leaf.Profile.{Profile}
use Rattle.keep_syntax.specs.Tree.{Value, Line, Document}
use Rattle.keep_path.specs.Path.{Part, strip}
use Rattle.keep_meaning.specs.Marks.{Reading, start}
use Rattle.keep_meaning.specs.Meaning.{after_line, lines, mentions_in, reading_after_lines}
use Rattle.keep_edit_spec.specs.ClearedLines.{line_start}
use Rattle.keep_edit_spec.specs.DottedLines.{AddsDotted, StillAdds}
use Rattle.keep_edit_spec.specs.Edits.{end_of}
use Rattle.keep_edit_spec.specs.Laws.{IsEditable}
use Rattle.keep_edit_spec.specs.Lines.{begins, last_line, leads_dotted, newline_of, reading_at}
use Rattle.keep_edit_spec.specs.Look.{holder}
use Rattle.keep_edit_spec.specs.RemovedLines.{RemovesLine}
use Rattle.keep_edit_spec.specs.TextChanges.{IsBeside, TextChange, moved, moved_by}
use Rattle.keep_edit_spec.proofs.Lists.BodyEnds.{later_before, later_from}
use Rattle.keep_edit_spec.proofs.Lists.DottedAfter.{bare_by}
use Rattle.keep_edit_spec.proofs.Lists.DottedAgain.{IsLastThere, dotted_cut}
use Rattle.keep_edit_spec.proofs.Lists.DottedKinds.{DottedAfterRemove, DottedBeforeRemove}
use Rattle.keep_edit_spec.proofs.Lists.DottedLine.{at_is}
use Rattle.keep_edit_spec.proofs.Lists.InsertInPlace.{same_number}
use Rattle.keep_edit_spec.proofs.Lists.LineGone as gone
use Rattle.keep_edit_spec.proofs.Lists.NewHolder.{new_clear}
use Rattle.keep_edit_spec.proofs.Lists.OneLineLess.{IsLastLess, last_less, none_less, reading_less}
use Rattle.keep_edit_spec.proofs.Lists.Places.{later_line}
use Rattle.keep_edit_spec.proofs.Lists.RemovedPlaces.{at_is as line_at, end_is as line_end, line_has_bytes}
use Rattle.keep_edit_spec.proofs.Lists.TextChanges.{behind, unmoved}

-- ---- the document without the line

module _ (profile : Profile) (limit : ℕ) (s : Document) (path : List Part) (l : TextChange)
    (other : List Part) (more : Value) (m : TextChange) (fine : IsEditable profile limit s)
    (h : RemovesLine profile limit s path l) (k : AddsDotted profile limit s other more m)
    (past : l.at + l.size ≢ m.at) where
  abbrev now : Document
  now = gone.now profile limit s path l fine h

  abbrev b : List Part
  b = holder other (mentions_in s)

  abbrev before : List Line
  before = gone.before profile limit s path l fine h

  abbrev here : Line
  here = (gone.c profile limit s path l fine h).here.line

  abbrev after : List Line
  after = gone.after profile limit s path l fine h

  keeps : after_line (reading_after_lines start before) here ≡ reading_after_lines start before
  keeps = gone.keeps profile limit s path l fine h

  lines_were : lines s ≡ before ++ here ∷ after
  lines_were = gone.lines_were profile limit s path l fine h

  lines_are : lines now ≡ before ++ after
  lines_are = gone.lines_are profile limit s path l fine h

  number_is : length before ≡ h.number
  number_is = gone.before_length profile limit s path l fine h

  m_at : m.at ≡ line_start s (suc k.number)
  m_at = at_is profile limit s other more m k

  -- ---- the last line that leads through the holder

  not_gone : k.number ≢ h.number
  not_gone e =
      past (line_end profile limit s path l h ∙ ap (λ (i : ℕ). line_start s (suc i)) (sym e) ∙ sym m_at)

  less : IsLastLess (leads_dotted b) start (before ++ after) (length before) k.number
  less =
      last_less start before here after keeps (leads_dotted b) k.number
      (ap (last_line (leads_dotted b) start) (sym lines_were) ∙ k.last) (λ e. not_gone (e ∙ number_is))

  abbrev j : ℕ
  j = less.number

  later : k.number ≡ later_line h.number j
  later = less.later ∙ ap (λ (n : ℕ). later_line n j) number_is

  number_before : j < h.number → k.number ≡ j
  number_before first = later ∙ later_before h.number j first

  number_from : h.number ≤ j → k.number ≡ suc j
  number_from far = later ∙ later_from h.number j far

  body_now : (reading_at j (lines now)).body ≡ (reading_at k.number (lines s)).body
  body_now =
      ap (λ (ls : List Line). (reading_at j ls).body) lines_are
      ∙ sym (ap (λ (ls : List Line). (reading_at k.number ls).body) lines_were
      ∙ ap (λ (i : ℕ). (reading_at i (before ++ here ∷ after)).body) less.later
      ∙ ap (λ (r : Reading). r.body) (reading_less start before here after keeps j))

  closed_now : suc j ≤ length now.ended
  closed_now =
      let was : length s.ended ≡ suc (length now.ended) = gone.length_was profile limit s path l fine h in
      let few : h.number ≤ length now.ended = gone.number_few profile limit s path l fine h in
      elim (cases_lt j h.number) [
        | inl first ↦ omega (arith, first, few)
        | inr far ↦ omega (arith, k.closed, was, number_from far)
      ]

  -- ---- no header begins a body of the holder

  bare_now : end_of now b ≡ None
  bare_now =
      bare_by s now b k.bare
      (λ none. ap (last_line (begins b) start) lines_are
      ∙ none_less start before here after keeps (begins b) (ap (last_line (begins b) start) (sym lines_were) ∙ none))

  there : IsLastThere s other k.number now j
  there = record {
    bare = bare_now;
    last = ap (last_line (leads_dotted b) start) lines_are ∙ less.last;
    body = body_now;
    closed = closed_now;
  }

  -- ---- where the new line comes

  -- as this change moves it
  adds_by : (c : TextChange) → line_start now (suc j) ≡ moved_by c m.at → strip path other ≡ None
      → newline_of now ≡ newline_of s → StillAdds true profile limit s now other more (moved c m)
  adds_by c at clear same =
      dotted_cut profile limit s now other more c m k j there at same path
      (gone.cut_now profile limit s path l fine h) clear

  module _ (side : IsBeside l m) where
    not_there : m.at ≢ l.at
    not_there e =
        let some : 0 < l.size = (line_has_bytes profile limit s path l fine h).0 in
        elim side [ inl far ↦ omega (arith, e, far, some) | inr far ↦ omega (arith, e, far.0) ]

    at_now : line_start now (suc j) ≡ moved_by l m.at
    at_now = elim (cases_lt j h.number) [
      | inl first ↦
          (let m_is : m.at ≡ line_start s (suc j) =
          m_at ∙ ap (λ (i : ℕ). line_start s (suc i)) (number_before first) in
          elim (cases_lt (suc j) h.number) [
            | inl next ↦ sym (gone.at_before profile limit s path l fine h (suc j) m.at next m_is)
            | inr last ↦
                (let same : suc j ≡ h.number = omega (arith, first, last) in
                absurd (not_there (m_is ∙ ap (line_start s) same ∙ sym (line_at profile limit s path l h))))
          ])
      | inr far ↦
          sym (gone.at_from profile limit s path l fine h (suc j) m.at (omega (arith, far))
          (m_at ∙ ap (λ (i : ℕ). line_start s (suc i)) (number_from far)))
    ]

    adds_now : strip path other ≡ None → newline_of now ≡ newline_of s
        → StillAdds true profile limit s now other more (moved l m)
    adds_now = adds_by l at_now

  -- ---- right before what goes

  module _ (starts : l.at ≡ m.at) where
    next : suc k.number ≡ h.number
    next =
        same_number profile limit s fine (suc k.number) h.number k.closed (omega (arith, h.closed))
        (sym m_at ∙ sym starts ∙ line_at profile limit s path l h)

    at_there : line_start now (suc j) ≡ moved_by (behind m.at) m.at
    at_there =
        let same : k.number ≡ j = elim (cases_lt j h.number) [
          | inl first ↦ number_before first
          | inr far ↦ absurd (omega (arith, far, number_from far, next))
        ] in
        omega (
          arith,
          gone.same_to profile limit s path l fine h (suc j) (omega (arith, same, next)),
          m_at,
          ap (λ (i : ℕ). line_start s (suc i)) same,
          unmoved m.at,
        )

    adds_there : strip path other ≡ None → newline_of now ≡ newline_of s
        → StillAdds true profile limit s now other more m
    adds_there clear same =
        subst (λ (i : ℕ). StillAdds true profile limit s now other more (record m { at = i })) (unmoved m.at)
        (adds_by (behind m.at) at_there clear same)

pub dotted_after_remove : DottedAfterRemove
dotted_after_remove profile limit s path l other more m fine h k apart side same past =
    let is = gone.is_now profile limit s path l fine h in
    let clear : strip path other ≡ None = new_clear s other k.text k.more k.new path apart in
    subst (λ (d : Document). StillAdds true profile limit s d other more (moved l m)) (sym is)
    (adds_now profile limit s path l other more m fine h k past side clear (ap newline_of (sym is) ∙ same))

pub dotted_before_remove : DottedBeforeRemove
dotted_before_remove profile limit s path l other more m fine h k apart starts same =
    let is = gone.is_now profile limit s path l fine h in
    let clear : strip path other ≡ None = new_clear s other k.text k.more k.new path apart in
    let past : l.at + l.size ≢ m.at =
    λ e. omega (arith, e, starts, (line_has_bytes profile limit s path l fine h).0) in
    subst (λ (d : Document). StillAdds true profile limit s d other more m) (sym is)
    (adds_there profile limit s path l other more m fine h k past starts clear (ap newline_of (sym is) ∙ same))
