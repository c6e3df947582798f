-- An insert that adds a line adds the same one after a remove, of another path, left its line with the comment.
--
-- The holder's body ends at the line at which it did, since the line that is blank now is not the last before that end
-- (`ends_now`, by EndsCleared). That line begins where it did, or moved by the change (LineStarts). So the insert adds
-- its own there (AddsAgain).
--
-- Theorem: `insert_after_clear`.
use Rattle.std.proofs.Common.{◌≡◌, ◌≢◌, ℕ, suc, ◌+◌, ◌≤◌, List, length, sym, ap, subst, ◌∙◌, arith, Option, Some, None}
use Rattle.keep_types.specs.declared.leaf.Profile.{Profile}
use Rattle.keep_syntax.specs.Tree.{Document, Value}
use Rattle.keep_path.specs.Path.{Part, strip}
use Rattle.keep_meaning.specs.Meaning.{lines, mentions_in}
use Rattle.keep_edit_spec.specs.AddedLines.{AddsLine, AddsLineStill}
use Rattle.keep_edit_spec.specs.Changed.{Changed}
use Rattle.keep_edit_spec.specs.ClearedLines.{ClearsLine, line_start}
use Rattle.keep_edit_spec.specs.Edits.{changed_or_same, edited_document, end_of, remove}
use Rattle.keep_edit_spec.specs.Laws.{IsEditable}
use Rattle.keep_edit_spec.specs.Lines.{newline_of}
use Rattle.keep_edit_spec.specs.Look.{holder}
use Rattle.keep_edit_spec.specs.TextChanges.{IsBeside, TextChange, moved, moved_by}
use Rattle.keep_edit_spec.proofs.Lists.AddsAgain.{adds_again}
use Rattle.keep_edit_spec.proofs.Lists.ClearedKinds.{InsertAfterClear}
use Rattle.keep_edit_spec.proofs.Lists.EndsCleared.{end_cleared}
use Rattle.keep_edit_spec.proofs.Lists.LineCleared as done
use Rattle.keep_edit_spec.proofs.Lists.LineStarts.{line_moves}
use Rattle.keep_edit_spec.proofs.Lists.NewHolder.{apart_clear}
use Rattle.keep_edit_spec.proofs.Lists.OwnLine.{before_length, cut_now}
use Rattle.keep_edit_spec.proofs.Lists.Places.{at_is}

module _ (profile : Profile) (limit : ℕ) (s : Document) (path : List Part) (l : TextChange)
    (other : List Part) (more : Value) (m : TextChange) (fine : IsEditable profile limit s)
    (h : ClearsLine profile limit s path l) (k : AddsLine profile limit s other more m) where
  abbrev x : Changed Document
  x = done.x profile limit s path l fine h

  to_is : x.to ≡ done.now profile limit s path l fine h
  to_is = done.to_is profile limit s path l fine h

  m_at : m.at ≡ line_start s k.number
  m_at = at_is profile limit s other more m k

  ends_now : l.at + l.size ≢ m.at → end_of x.to (holder other (mentions_in s)) ≡ Some k.number
  ends_now past =
      let its = done.its profile limit s path l fine h in
      let number : length (done.before profile limit s path l fine h) ≡ h.number =
      before_length profile limit s path h.number fine h.own h.closed in
      end_cleared (done.c profile limit s path l fine h).here.line its.name its.held its.was
      (done.comment profile limit s path l fine h) s x.to (done.before profile limit s path l fine h)
      (done.after profile limit s path l fine h) (done.lines_were profile limit s path l fine h)
      (ap lines to_is ∙ done.lines_are profile limit s path l fine h) (holder other (mentions_in s)) k.number k.ends
      (λ e. past (h.ends ∙ ap (line_start s) (sym (e ∙ ap suc number)) ∙ sym m_at))

  closed_now : k.number ≤ length x.to.ended
  closed_now = omega (arith, k.closed, (done.lines_begin profile limit s path l fine h).count)

  at_now : IsBeside l m → line_start x.to k.number ≡ moved_by l m.at
  at_now side =
      omega (
        arith,
        line_moves s x (done.thin profile limit s path l fine h) m (done.lines_begin profile limit s path l fine h)
            (done.there profile limit s path l fine h) (done.some profile limit s path l fine h)
            (done.beside profile limit s path l fine h m side) k.number 0 (omega arith) (omega (arith, m_at)),
        done.moves profile limit s path l fine h m.at,
      )

  adds_now : strip path other ≡ None → IsBeside l m → newline_of x.to ≡ newline_of s
      → l.at + l.size ≢ m.at → AddsLineStill profile limit s x.to other more (moved l m)
  adds_now clear side same past =
      adds_again profile limit s path x.to
      (cut_now profile limit s path h.number fine h.own h.closed x.to
      (ap mentions_in to_is ∙ done.said_now profile limit s path l fine h))
      other more m k clear k.number (ends_now past) closed_now l (at_now side) same k.newline

pub insert_after_clear : InsertAfterClear
insert_after_clear profile limit s path l other more m fine h k apart side same past =
    let to : (done.x profile limit s path l fine h).to ≡ edited_document s (remove path) =
    ap (λ (o : Option (Changed Document)). (changed_or_same s o).to) (sym (done.made profile limit s path l fine h)) in
    let clear : strip path other ≡ None = apart_clear profile limit s other more m k path apart in
    subst (λ (t : Document). AddsLineStill profile limit s t other more (moved l m)) to
    (adds_now profile limit s path l other more m fine h k clear side (ap newline_of to ∙ same) past)
