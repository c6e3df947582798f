-- An insert that adds a line to a table which dotted keys make adds the same one after a remove, of another path, left
-- its line with the comment.
--
-- The last line that leads through the holder is not the one that is blank now, since that one does not end where the
-- new line comes. So without it the last would be the same (OneLineLess), and so it is with a blank line there, which
-- leads through no table and begins no body: at its number, and in its body. The line after it begins where it did, or
-- moved by the change (LineStarts). So the insert adds its own there (DottedAgain), also right before the change.
--
-- Theorems: `dotted_after_clear`; `dotted_before_clear`: right before what goes.
use Rattle.std.proofs.Common.{◌≡◌, ◌≢◌, ℕ, suc, ◌+◌, true, List, ◌∷◌, ◌++◌, length, refl, sym, ap, subst, ◌∙◌, arith}
use Rattle.std.proofs.Common.{Option, Some, None}
use Rattle.std.specs.Option.{option_map}
use Rattle.keep_types.specs.declared.leaf.Profile.{Profile}
use Rattle.keep_syntax.specs.Tree.{Value, Line, Document}
use Rattle.keep_path.specs.Path.{Part, strip}
use Rattle.keep_meaning.specs.Marks.{Reading, start}
use Rattle.keep_meaning.specs.Meaning.{after_line, lines, mentions_in, reading_after_lines}
use Rattle.keep_edit_spec.specs.AddedLines.{first_new}
use Rattle.keep_edit_spec.specs.Changed.{Changed}
use Rattle.keep_edit_spec.specs.ClearedLines.{ClearsLine, line_start}
use Rattle.keep_edit_spec.specs.DottedLines.{AddsDotted, StillAdds}
use Rattle.keep_edit_spec.specs.Edits.{changed_or_same, edited_document, end_of, remove}
use Rattle.keep_edit_spec.specs.Laws.{IsEditable}
use Rattle.keep_edit_spec.specs.Lines.{begins, last_line, leads_dotted, newline_of, reading_at}
use Rattle.keep_edit_spec.specs.Look.{holder}
use Rattle.keep_edit_spec.specs.Runs.{AreApart}
use Rattle.keep_edit_spec.specs.TextChanges.{IsBeside, TextChange, moved, moved_by}
use Rattle.keep_edit_spec.proofs.Common.Cuts.{IsCut}
use Rattle.keep_edit_spec.proofs.Lists.DottedAfter.{bare_by}
use Rattle.keep_edit_spec.proofs.Lists.DottedAgain.{IsLastThere, dotted_cut}
use Rattle.keep_edit_spec.proofs.Lists.DottedKinds.{DottedAfterClear, DottedBeforeClear}
use Rattle.keep_edit_spec.proofs.Lists.DottedLine.{at_is}
use Rattle.keep_edit_spec.proofs.Lists.LineCleared as done
use Rattle.keep_edit_spec.proofs.Lists.LineStarts.{line_moves, line_stays}
use Rattle.keep_edit_spec.proofs.Lists.NewHolder.{new_clear}
use Rattle.keep_edit_spec.proofs.Lists.OneLineLess.{IsLastLess, last_less, none_less, reading_less}
use Rattle.keep_edit_spec.proofs.Lists.OneLineMore.{none_still}
use Rattle.keep_edit_spec.proofs.Lists.OwnLine.{before_length, cut_now}
use Rattle.keep_edit_spec.proofs.Lists.Places.{later_line}
use Rattle.keep_edit_spec.proofs.Lists.RemovedOwn.{last_without}
use Rattle.keep_edit_spec.proofs.Lists.TextChanges.{behind, unmoved}

module _ (profile : Profile) (limit : ℕ) (s : Document) (path : List Part) (l : TextChange)
    (other : List Part) (more : Value) (m : TextChange) (fine : IsEditable profile limit s)
    (h : ClearsLine profile limit s path l) (k : AddsDotted profile limit s other more m)
    (past : l.at + l.size ≢ m.at) where
  abbrev pub x : Changed Document
  x = done.x profile limit s path l fine h

  to_is : x.to ≡ done.now profile limit s path l fine h
  to_is = done.to_is profile limit s path l fine h

  abbrev b : List Part
  b = holder other (mentions_in s)

  abbrev before : List Line
  before = done.before profile limit s path l fine h

  abbrev here : Line
  here = (done.c profile limit s path l fine h).here.line

  -- the line then
  abbrev bare : Line
  bare = (done.bare profile limit s path l fine h).to

  abbrev after : List Line
  after = done.after profile limit s path l fine h

  keeps : after_line (reading_after_lines start before) here ≡ reading_after_lines start before
  keeps = done.keeps profile limit s path l fine h

  lines_were : lines s ≡ before ++ here ∷ after
  lines_were = done.lines_were profile limit s path l fine h

  lines_are : lines x.to ≡ before ++ bare ∷ after
  lines_are = ap lines to_is ∙ done.lines_are profile limit s path l fine h

  m_at : m.at ≡ line_start s (suc k.number)
  m_at = at_is profile limit s other more m k

  -- ---- the last line that leads through the holder

  other_line : k.number ≢ length before
  other_line e =
      let number : length before ≡ h.number = before_length profile limit s path h.number fine h.own h.closed in
      past (h.ends ∙ ap (λ (i : ℕ). line_start s (suc i)) (sym (e ∙ number)) ∙ sym m_at)

  less : IsLastLess (leads_dotted b) start (before ++ after) (length before) k.number
  less =
      last_less start before here after keeps (leads_dotted b) k.number
      (ap (last_line (leads_dotted b) start) (sym lines_were) ∙ k.last) other_line

  last_now : last_line (leads_dotted b) start (lines x.to) ≡ Some k.number
  last_now =
      ap (last_line (leads_dotted b) start) lines_are
      ∙ last_without (leads_dotted b) start before bare after refl refl
      ∙ ap (option_map (later_line (length before))) less.last
      ∙ ap (λ (n : ℕ). Some n) (sym less.later)

  reading_now : reading_at k.number (lines x.to) ≡ reading_at k.number (lines s)
  reading_now =
      ap (reading_at k.number) lines_are
      ∙ ap (λ (i : ℕ). reading_at i (before ++ bare ∷ after)) less.later
      ∙ reading_less start before bare after refl less.number
      ∙ sym (ap (reading_at k.number) lines_were
      ∙ ap (λ (i : ℕ). reading_at i (before ++ here ∷ after)) less.later
      ∙ reading_less start before here after keeps less.number)

  -- ---- no header begins a body of the holder

  bare_now : end_of x.to b ≡ None
  bare_now =
      bare_by s x.to b k.bare
      (λ none. ap (last_line (begins b) start) lines_are
      ∙ none_still (begins b) start before bare after refl refl
      (none_less start before here after keeps (begins b)
      (ap (last_line (begins b) start) (sym lines_were) ∙ none)))

  pub there : IsLastThere s other k.number x.to k.number
  there = record {
    bare = bare_now;
    last = last_now;
    body = ap (λ (r : Reading). r.body) reading_now;
    closed = omega (arith, k.closed, (done.lines_begin profile limit s path l fine h).count);
  }

  -- ---- where the new line comes

  cut : IsCut path (mentions_in s) (mentions_in x.to)
  cut =
      cut_now profile limit s path h.number fine h.own h.closed x.to
      (ap mentions_in to_is ∙ done.said_now profile limit s path l fine h)

  -- as this change moves it
  pub adds_by : (c : TextChange) → line_start x.to (suc k.number) ≡ moved_by c m.at → strip path other ≡ None
      → newline_of x.to ≡ newline_of s → StillAdds true profile limit s x.to other more (moved c m)
  adds_by c at_now clear same =
      dotted_cut profile limit s x.to other more c m k k.number there at_now same path cut clear

  at_now : IsBeside l m → line_start x.to (suc k.number) ≡ moved_by l m.at
  at_now side =
      omega (
        arith,
        line_moves s x (done.thin profile limit s path l fine h) m (done.lines_begin profile limit s path l fine h)
            (done.there profile limit s path l fine h) (done.some profile limit s path l fine h)
            (done.beside profile limit s path l fine h m side) (suc k.number) 0 (omega arith) (omega (arith, m_at)),
        done.moves profile limit s path l fine h m.at,
      )

pub dotted_by_clear : (profile : Profile) (limit : ℕ) (s : Document) (path : List Part) (l : TextChange)
    (other : List Part) (more : Value) (m : TextChange) (fine : IsEditable profile limit s)
    (h : ClearsLine profile limit s path l) (k : AddsDotted profile limit s other more m)
    → AreApart path (first_new s other) → newline_of (edited_document s (remove path)) ≡ newline_of s
    → l.at + l.size ≢ m.at → (c : TextChange)
    → line_start (done.x profile limit s path l fine h).to (suc k.number) ≡ moved_by c m.at
    → StillAdds true profile limit s (edited_document s (remove path)) other more (moved c m)
dotted_by_clear profile limit s path l other more m fine h k apart same past c at_now =
    let to : (done.x profile limit s path l fine h).to ≡ edited_document s (remove path) =
    ap (λ (o : Option (Changed Document)). (changed_or_same s o).to) (sym (done.made profile limit s path l fine h)) in
    let clear : strip path other ≡ None = new_clear s other k.text k.more k.new path apart in
    subst (λ (t : Document). StillAdds true profile limit s t other more (moved c m)) to
    (adds_by profile limit s path l other more m fine h k past c at_now clear (ap newline_of to ∙ same))

pub dotted_after_clear : DottedAfterClear
dotted_after_clear profile limit s path l other more m fine h k apart side same past =
    dotted_by_clear profile limit s path l other more m fine h k apart same past l
    (at_now profile limit s path l other more m fine h k past side)

pub dotted_before_clear : DottedBeforeClear
dotted_before_clear profile limit s path l other more m fine h k apart starts same =
    let past : l.at + l.size ≢ m.at =
    λ e. omega (arith, e, starts, h.some, h.is.start, h.is.end) in
    subst (λ (i : ℕ). StillAdds true profile limit s (edited_document s (remove path)) other more (record m { at = i }))
    (unmoved m.at)
    (dotted_by_clear profile limit s path l other more m fine h k apart same past (behind m.at)
    (line_stays s (done.x profile limit s path l fine h) (done.thin profile limit s path l fine h)
    (done.lines_begin profile limit s path l fine h) (done.there profile limit s path l fine h)
    (done.some profile limit s path l fine h) (suc k.number)
    (sym h.is.start ∙ starts ∙ at_is profile limit s other more m k)
    ∙ sym (at_is profile limit s other more m k) ∙ sym (unmoved m.at)))
