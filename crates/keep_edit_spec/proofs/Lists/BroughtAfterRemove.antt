-- An insert that brings the header of its table brings the same after a remove, of another path, took its line, or left
-- it with the comment.
--
-- That line is a keyval's, so it begins no body and is no header that goes through the table. So the last header that
-- does is the same one (OneLineLess). Its body does not end right after the line, since the change ends elsewhere than
-- where the new header comes. So it ends where it did, or a line earlier if the line went before that (EndsWithout,
-- EndsCleared), and the next line begins at the moved place. So the insert brings its header there (BroughtAgain).
--
-- Theorems: `brought_after_remove`, `brought_after_clear`.
use Rattle.std.proofs.Common.{◌≡◌, ◌≢◌, ℕ, suc, ◌+◌, ◌<◌, ◌≤◌, Bool, false, ◌&&◌, List, ◌∷◌, ◌++◌, length, refl}
use Rattle.std.proofs.Common.{sym, ap, ap₂, subst, ◌∙◌, arith, Option, Some, None}
use Rattle.std.specs.Option.{option_map}
use Rattle.keep_types.specs.declared.leaf.Profile.{Profile}
use Rattle.keep_syntax.specs.Tree.{Content, Document, Line, Value, Written}
use Rattle.keep_path.specs.Path.{Part, strip}
use Rattle.keep_meaning.specs.Marks.{Reading, start}
use Rattle.keep_meaning.specs.Meaning.{after_line, line_mentions, lines, mentions_in, reading_after_lines}
use Rattle.keep_meaning.specs.Nodes.{has, is_through}
use Rattle.keep_edit_spec.specs.BroughtHeaders.{BringsHeader, StillBrings}
use Rattle.keep_edit_spec.specs.Changed.{Changed}
use Rattle.keep_edit_spec.specs.ClearedLines.{ClearsLine, line_start}
use Rattle.keep_edit_spec.specs.Edits.{changed_or_same, edited_document, is_own, remove}
use Rattle.keep_edit_spec.specs.Laws.{IsEditable}
use Rattle.keep_edit_spec.specs.Lines.{begins, body_end, is_header, last_line, leads_dotted, leads_through, newline_of}
use Rattle.keep_edit_spec.specs.Look.{holder}
use Rattle.keep_edit_spec.specs.RemovedLines.{RemovesLine}
use Rattle.keep_edit_spec.specs.TextChanges.{IsBeside, TextChange, moved, moved_by}
use Rattle.keep_edit_spec.proofs.Common.LineTexts.{cleared}
use Rattle.keep_edit_spec.proofs.Lists.BroughtAgain.{IsThroughThere, brought_cut}
use Rattle.keep_edit_spec.proofs.Lists.BroughtKinds.{BroughtAfterClear, BroughtAfterRemove}
use Rattle.keep_edit_spec.proofs.Lists.BroughtLines.{at_is}
use Rattle.keep_edit_spec.proofs.Lists.DottedAfter.{bare_by}
use Rattle.keep_edit_spec.proofs.Lists.EndsCleared.{body_end_cleared}
use Rattle.keep_edit_spec.proofs.Lists.EndsWithout.{body_end_without}
use Rattle.keep_edit_spec.proofs.Lists.LineCleared as done
use Rattle.keep_edit_spec.proofs.Lists.LineGone as gone
use Rattle.keep_edit_spec.proofs.Lists.LineStarts.{line_moves}
use Rattle.keep_edit_spec.proofs.Lists.NewHolder.{new_clear}
use Rattle.keep_edit_spec.proofs.Lists.OneLineLess.{IsLastLess, last_kept, none_less}
use Rattle.keep_edit_spec.proofs.Lists.OneLineMore.{none_still}
use Rattle.keep_edit_spec.proofs.Lists.OwnLine as own
use Rattle.keep_edit_spec.proofs.Lists.Places.{later_line}
use Rattle.keep_edit_spec.proofs.Lists.RemovedOwn.{last_without}
use Rattle.keep_edit_spec.proofs.Lists.RemovedPlaces.{end_is as line_end}
use Rattle.keep_edit_spec.proofs.Remove.RemoveLines.{IsOwnLine}

-- ---- the line, of both removes

module _ (profile : Profile) (limit : ℕ) (s : Document) (path : List Part) (l : TextChange)
    (other : List Part) (more : Value) (m : TextChange) (fine : IsEditable profile limit s)
    (k : BringsHeader profile limit s other more m) (number : ℕ)
    (mine : last_line (λ r l. is_own path r l.content) start (lines s) ≡ Some number)
    (closed : number < length s.ended) (next : l.at + l.size ≡ line_start s (suc number))
    (past : l.at + l.size ≢ m.at) where
  abbrev b : List Part
  b = holder other (mentions_in s)

  abbrev before : List Line
  before = own.before profile limit s path number fine mine closed

  abbrev here : Line
  here = (own.c profile limit s path number fine mine closed).here.line

  abbrev after : List Line
  after = own.after profile limit s path number fine mine closed

  its : IsOwnLine (reading_after_lines start before).body path here.content
  its = own.its profile limit s path number fine mine closed

  keeps : after_line (reading_after_lines start before) here ≡ reading_after_lines start before
  keeps = own.keeps profile limit s path number fine mine closed

  lines_were : lines s ≡ before ++ here ∷ after
  lines_were = own.lines_were profile limit s path number fine mine closed

  number_is : length before ≡ number
  number_is = own.before_length profile limit s path number fine mine closed

  -- where the body ends after which the header comes
  abbrev end : ℕ
  end = body_end k.number (lines s)

  end_at : m.at ≡ line_start s end
  end_at = at_is profile limit s other more m k

  not_next : end ≢ suc (length before)
  not_next e =
      past (next ∙ ap (λ (i : ℕ). line_start s (suc i)) (sym number_is) ∙ ap (line_start s) (sym e) ∙ sym end_at)

  -- where none passes with the line, none does without it
  none_left : (test : Reading → Line → Bool) → last_line test start (lines s) ≡ None
      → last_line test start (before ++ after) ≡ None
  none_left test none =
      none_less start before here after keeps test (ap (last_line test start) (sym lines_were) ∙ none)

  fails : leads_through b (reading_after_lines start before) here ≡ false
  fails =
      ap (λ (c : Content). is_header c && has is_through b (line_mentions (reading_after_lines start before) here))
      its.was

  less : IsLastLess (leads_through b) start (before ++ after) (length before) k.number
  less =
      last_kept start before here after keeps (leads_through b) fails k.number
      (ap (last_line (leads_through b) start) (sym lines_were) ∙ k.last)

  end_was : body_end (later_line (length before) less.number) (before ++ here ∷ after) ≡ end
  end_was = ap₂ (λ (i : ℕ) (ls : List Line). body_end i ls) (sym less.later) (sym lines_were)

  -- ---- without the line

  module _ (now : Document) (are : lines now ≡ before ++ after) where
    abbrev left : ℕ
    left = body_end less.number (lines now)

    end_moves : end ≡ later_line number left
    end_moves =
        sym end_was
        ∙ body_end_without here its.name its.held its.was before after less.number (λ e. not_next (sym end_was ∙ e))
        ∙ ap₂ (λ (n : ℕ) (ls : List Line). later_line n (body_end less.number ls)) number_is (sym are)

    none_now : (test : Reading → Line → Bool) → last_line test start (lines s) ≡ None
        → last_line test start (lines now) ≡ None
    none_now test none = ap (last_line test start) are ∙ none_left test none

    there_without : left ≤ length now.ended → IsThroughThere s other now less.number
    there_without few = record {
      bare = bare_by s now b k.bare (none_now (begins b));
      no_dots = none_now (leads_dotted b) k.no_dots;
      last = ap (last_line (leads_through b) start) are ∙ less.last;
      closed = few;
    }

  -- ---- with a blank line there

  module _ (comment : Written) (now : Document)
      (are : lines now ≡ before ++ (cleared here comment).to ∷ after) where
    abbrev bare : Line
    bare = (cleared here comment).to

    end_stays : body_end k.number (lines now) ≡ end
    end_stays =
        let was : body_end k.number (before ++ here ∷ after) ≡ end = ap (body_end k.number) (sym lines_were) in
        ap (body_end k.number) are
        ∙ body_end_cleared here its.name its.held its.was comment before after k.number (λ e. not_next (sym was ∙ e))
        ∙ was

    none_cleared : (test : Reading → Line → Bool) → test (reading_after_lines start before) bare ≡ false
        → last_line test start (lines s) ≡ None → last_line test start (lines now) ≡ None
    none_cleared test quiet none =
        ap (last_line test start) are ∙ none_still test start before bare after refl quiet (none_left test none)

    last_cleared : last_line (leads_through b) start (lines now) ≡ Some k.number
    last_cleared =
        ap (last_line (leads_through b) start) are
        ∙ last_without (leads_through b) start before bare after refl refl
        ∙ ap (option_map (later_line (length before))) less.last
        ∙ ap (λ (n : ℕ). Some n) (sym less.later)

    there_cleared : length now.ended ≡ length s.ended → IsThroughThere s other now k.number
    there_cleared count = record {
      bare = bare_by s now b k.bare (none_cleared (begins b) refl);
      no_dots = none_cleared (leads_dotted b) refl k.no_dots;
      last = last_cleared;
      closed = omega (arith, end_stays, count, k.closed);
    }

-- ---- after the line is gone

module _ (profile : Profile) (limit : ℕ) (s : Document) (path : List Part) (l : TextChange)
    (other : List Part) (more : Value) (m : TextChange) (fine : IsEditable profile limit s)
    (h : RemovesLine profile limit s path l) (k : BringsHeader profile limit s other more m)
    (past : l.at + l.size ≢ m.at) where
  abbrev now : Document
  now = gone.now profile limit s path l fine h

  next : l.at + l.size ≡ line_start s (suc h.number)
  next = line_end profile limit s path l h

  abbrev j : ℕ
  j = (less profile limit s path l other more m fine k h.number h.own h.closed next past).number

  moves : body_end k.number (lines s) ≡ later_line h.number (body_end j (lines now))
  moves =
      end_moves profile limit s path l other more m fine k h.number h.own h.closed next past now
      (gone.lines_are profile limit s path l fine h)

  there : IsThroughThere s other now j
  there =
      there_without profile limit s path l other more m fine k h.number h.own h.closed next past now
      (gone.lines_are profile limit s path l fine h)
      (gone.few_now profile limit s path l fine h (body_end k.number (lines s)) (body_end j (lines now)) moves k.closed)

  at_now : line_start now (body_end j (lines now)) ≡ moved_by l m.at
  at_now =
      gone.at_now profile limit s path l fine h (body_end k.number (lines s)) (body_end j (lines now)) m.at moves
      (at_is profile limit s other more m k)

  brings_without : strip path other ≡ None → newline_of now ≡ newline_of s
      → StillBrings profile limit s now other more (moved l m)
  brings_without clear same =
      brought_cut profile limit s now other more l m k j there at_now same path
      (gone.cut_now profile limit s path l fine h) clear

pub brought_after_remove : BroughtAfterRemove
brought_after_remove profile limit s path l other more m fine h k apart side same past =
    let is = gone.is_now profile limit s path l fine h in
    let clear : strip path other ≡ None = new_clear s other k.text k.more k.new path apart in
    subst (λ (d : Document). StillBrings profile limit s d other more (moved l m)) (sym is)
    (brings_without profile limit s path l other more m fine h k past clear (ap newline_of (sym is) ∙ same))

-- ---- after the line is left with its comment

module _ (profile : Profile) (limit : ℕ) (s : Document) (path : List Part) (l : TextChange)
    (other : List Part) (more : Value) (m : TextChange) (fine : IsEditable profile limit s)
    (h : ClearsLine profile limit s path l) (k : BringsHeader profile limit s other more m)
    (side : IsBeside l m) (past : l.at + l.size ≢ m.at) where
  abbrev x : Changed Document
  x = done.x profile limit s path l fine h

  to_is : x.to ≡ done.now profile limit s path l fine h
  to_is = done.to_is profile limit s path l fine h

  lines_then : lines x.to ≡ done.before profile limit s path l fine h
      ++ (done.bare profile limit s path l fine h).to ∷ done.after profile limit s path l fine h
  lines_then = ap lines to_is ∙ done.lines_are profile limit s path l fine h

  stays : body_end k.number (lines x.to) ≡ body_end k.number (lines s)
  stays =
      end_stays profile limit s path l other more m fine k h.number h.own h.closed h.ends past
      (done.comment profile limit s path l fine h) x.to lines_then

  still_there : IsThroughThere s other x.to k.number
  still_there =
      there_cleared profile limit s path l other more m fine k h.number h.own h.closed h.ends past
      (done.comment profile limit s path l fine h) x.to lines_then
      (done.lines_begin profile limit s path l fine h).count

  at_then : line_start x.to (body_end k.number (lines x.to)) ≡ moved_by l m.at
  at_then =
      omega (
        arith,
        line_moves s x (done.thin profile limit s path l fine h) m (done.lines_begin profile limit s path l fine h)
            (done.there profile limit s path l fine h) (done.some profile limit s path l fine h)
            (done.beside profile limit s path l fine h m side) (body_end k.number (lines s)) 0 (omega arith)
            (omega (arith, at_is profile limit s other more m k)),
        done.moves profile limit s path l fine h m.at,
        ap (line_start x.to) stays,
      )

  brings_cleared : strip path other ≡ None → newline_of x.to ≡ newline_of s
      → StillBrings profile limit s x.to other more (moved l m)
  brings_cleared clear same =
      brought_cut profile limit s x.to other more l m k k.number still_there at_then same path
      (own.cut_now profile limit s path h.number fine h.own h.closed x.to
      (ap mentions_in to_is ∙ done.said_now profile limit s path l fine h))
      clear

pub brought_after_clear : BroughtAfterClear
brought_after_clear profile limit s path l other more m fine h k apart side same past =
    let to : (done.x profile limit s path l fine h).to ≡ edited_document s (remove path) =
    ap (λ (o : Option (Changed Document)). (changed_or_same s o).to) (sym (done.made profile limit s path l fine h)) in
    let clear : strip path other ≡ None = new_clear s other k.text k.more k.new path apart in
    subst (λ (t : Document). StillBrings profile limit s t other more (moved l m)) to
    (brings_cleared profile limit s path l other more m fine h k side past clear (ap newline_of to ∙ same))
