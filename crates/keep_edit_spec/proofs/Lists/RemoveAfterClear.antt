-- A remove takes the same line, or leaves its own line with the comment, after a remove of another path left its line
-- with the comment.
--
-- The line that is blank now was of the other path neither before nor after (`not_own`), and it is read as before. So
-- the line with the number that the second remove had is still the last own line of its path (`own_now`), and whether
-- one has a comment is as before. So it takes its line, or clears it, at the moved place (StaysBeside).
--
-- Theorems: `remove_after_clear`, `clear_after_clear`.
use Rattle.std.proofs.Common.{◌≡◌, ◌≢◌, ℕ, true, false, List, refl, sym, ap, subst, ◌∙◌, None}
use Rattle.keep_types.specs.declared.leaf.Profile.{Profile}
use Rattle.keep_syntax.specs.Tree.{Document, Line, Written, text}
use Rattle.keep_path.specs.Path.{Part}
use Rattle.keep_meaning.specs.Marks.{Reading, marks, start}
use Rattle.keep_meaning.specs.Meaning.{after_line, lines, mentions_in}
use Rattle.keep_meaning.specs.Rules.{ObeysRules}
use Rattle.keep_edit_spec.specs.Changed.{Changed, put}
use Rattle.keep_edit_spec.specs.ClearedLines.{ClearsLine}
use Rattle.keep_edit_spec.specs.Edits.{clear_line, edited_document, is_own, remove}
use Rattle.keep_edit_spec.specs.Laws.{IsEditable}
use Rattle.keep_edit_spec.specs.Lines.{Page, in_document, in_lines, last_line, with_page}
use Rattle.keep_edit_spec.specs.RemovedLines.{RemovesLine}
use Rattle.keep_edit_spec.specs.TextChanges.{IsBeside, TextChange, moved}
use Rattle.keep_edit_spec.proofs.EditLaws.{change_put, remove_lawful}
use Rattle.keep_edit_spec.proofs.Common.LineTexts.{clear_cases, clear_line-is, cleared}
use Rattle.keep_edit_spec.proofs.Common.SetDocument.{reading_of}
use Rattle.keep_edit_spec.proofs.Common.SetLaw.{EachTo}
use Rattle.keep_edit_spec.proofs.Lists.ClearStays.{not_cleared}
use Rattle.keep_edit_spec.proofs.Lists.ClearedKinds.{ClearAfterClear, RemoveAfterClear}
use Rattle.keep_edit_spec.proofs.Lists.LineCleared as done
use Rattle.keep_edit_spec.proofs.Lists.LinesReplaced.{last_stays, none_stays}
use Rattle.keep_edit_spec.proofs.Lists.RemovedPlaces.{is_other, mine}
use Rattle.keep_edit_spec.proofs.Lists.SetPlaces.{Stays}
use Rattle.keep_edit_spec.proofs.Lists.StaysBeside.{clears_beside, removes_beside}
use Rattle.keep_edit_spec.proofs.Remove.RemoveLines.{IsOwnLine, own_line}

-- ---- a line that is cleared

module _ (path other : List Part) (differs : path ≢ other) (r : Reading) (l : Line) (w : Written)
    (mine_is : is_own path r l.content ≡ true) where
  reads : after_line r (cleared l w).to ≡ after_line r l
  reads =
      let o : IsOwnLine r.body path l.content = own_line path r l.content mine_is in
      sym (reading_of r l o.name o.held o.was)

  not_own : is_own other r l.content ≡ false
  not_own = is_other path other r l.content (own_line path r l.content mine_is) differs

-- ---- after the remove

module _ (profile : Profile) (limit : ℕ) (s : Document) (path : List Part) (c : TextChange) (other : List Part)
    (d : TextChange) (fine : IsEditable profile limit s) (h : ClearsLine profile limit s path c)
    (differs : path ≢ other) (side : IsBeside c d) where
  abbrev x : Changed Document
  x = done.x profile limit s path c fine h

  abbrev thin : TextChange
  thin = done.thin profile limit s path c fine h

  to : x.to ≡ edited_document s (remove path)
  to = done.to_is profile limit s path c fine h ∙ sym (done.is_now profile limit s path c fine h)

  obeys : ObeysRules (marks (mentions_in x.to))
  obeys =
      subst (λ (t : Document). ObeysRules (marks (mentions_in t))) (sym to)
      (remove_lawful profile limit s path fine h.allowed).obeys

  on_pages : (P : Document → Type 0)
      → EachTo (λ (b : Page). P (with_page s b)) (in_lines (clear_line path) start s.ended s.last) → P x.to
  on_pages P = subst (EachTo (λ (b : Page). P (with_page s b))) (done.page_is profile limit s path c fine h)

  own_now : last_line (mine other) start (lines x.to) ≡ last_line (mine other) start (lines s)
  own_now =
      on_pages (λ t. last_line (mine other) start (lines t) ≡ last_line (mine other) start (lines s))
      (last_stays (clear_line path) (mine other)
      (λ r l. clear_cases
      (EachTo (λ y. (after_line r y ≡ after_line r l) × (mine other r y ≡ mine other r l))) path r l tt
      (λ w e own. (reads path other differs r l w own, sym (not_own path other differs r l w own))))
      start s.ended s.last)

  bare_now : in_lines (clear_line other) start s.ended s.last ≡ None
      → in_lines (clear_line other) start x.to.ended x.to.last ≡ None
  bare_now bare =
      on_pages (λ t. in_lines (clear_line other) start t.ended t.last ≡ None)
      (none_stays (clear_line path) (clear_line other)
      (λ r l. clear_cases
      (EachTo (λ y. (after_line r y ≡ after_line r l) × (clear_line other r l ≡ None → clear_line other r y ≡ None)))
      path r l tt
      (λ w e own. (reads path other differs r l w own, λ none. refl)))
      start s.ended s.last bare)

  removes : RemovesLine profile limit s other d → RemovesLine profile limit x.to other (moved c d)
  removes k =
      subst (RemovesLine profile limit x.to other) (done.moves_same profile limit s path c fine h d)
      (removes_beside profile limit s x thin (done.lines_begin profile limit s path c fine h)
      (done.there profile limit s path c fine h) (done.some profile limit s path c fine h) other d k
      (done.beside profile limit s path c fine h d side) obeys (bare_now k.bare) own_now)

  -- the other line is not the one that is blank now
  uncleared : clear_line other (done.r profile limit s path c fine h) (done.c profile limit s path c fine h).here.line
      ≡ None
  uncleared =
      let l : Line = (done.c profile limit s path c fine h).here.line in
      let r : Reading = done.r profile limit s path c fine h in
      not_cleared other r l (is_other path other r l.content (done.its profile limit s path c fine h) differs)

  clears : ClearsLine profile limit s other d → ClearsLine profile limit x.to other (moved c d)
  clears k =
      subst (ClearsLine profile limit x.to other) (done.moves_same profile limit s path c fine h d)
      (clears_beside profile limit s x thin (done.lines_begin profile limit s path c fine h)
      (done.there profile limit s path c fine h) (done.some profile limit s path c fine h) other d k
      (done.beside profile limit s path c fine h d side) obeys
      (ap text to ∙ change_put s (remove path) ∙ ap (put (text s)) (done.placed profile limit s path c fine h))
      (done.thin_within profile limit s path c fine h)
      (subst (λ (t : Document). Stays x (in_document s (in_lines (clear_line other) start s.ended s.last))
      (in_document t (in_lines (clear_line other) start t.ended t.last)))
      (sym (done.to_is profile limit s path c fine h))
      (done.document_cleared profile limit s path c fine h (clear_line other) (λ q y. clear_line-is other q y) uncleared
      refl)) own_now)

pub remove_after_clear : RemoveAfterClear
remove_after_clear profile limit s path c other d fine h k differs side =
    subst (λ (t : Document). RemovesLine profile limit t other (moved c d))
    (to profile limit s path c other d fine h differs side)
    (removes profile limit s path c other d fine h differs side k)

pub clear_after_clear : ClearAfterClear
clear_after_clear profile limit s path c other d fine h k differs side =
    subst (λ (t : Document). ClearsLine profile limit t other (moved c d))
    (to profile limit s path c other d fine h differs side)
    (clears profile limit s path c other d fine h differs side k)
