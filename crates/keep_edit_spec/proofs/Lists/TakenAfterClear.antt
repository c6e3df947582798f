-- A remove takes the same table or element with its header after another remove, of a path apart from its own, left a
-- line beside it with its comment.
--
-- The line is blank now. It began no body and begins none, and it is read as before. So the header is at the line at
-- which it was (`head_now`), and its body ends at the line at which it did, since the line is not in it (`end_now`, by
-- EndsCleared). These lines begin at the moved place (LineStarts). The last line has no bytes still, so the text ends
-- in a newline (`closed_now`). Nothing else is said at the path (OwnKinds). So the remove takes these lines
-- (TakenAgain).
--
-- Theorem: `taken_after_clear`.
use Rattle.std.proofs.Common.{◌≡◌, ◌≢◌, ℕ, suc, ◌+◌, ◌<◌, ◌≤◌, Bool, true, ◌&&◌, List, [], ◌∷◌, ◌++◌, sym, ap, ap₂}
use Rattle.std.proofs.Common.{subst, ◌∙◌, arith, Some, inl, inr}
use Rattle.keep_types.specs.declared.leaf.Profile.{Profile}
use Rattle.keep_syntax.specs.Tree.{Content, Document, Line, text}
use Rattle.keep_path.specs.Path.{Part, same_path}
use Rattle.keep_meaning.specs.Marks.{Reading, start}
use Rattle.keep_meaning.specs.Meaning.{after_line, lines, mentions_in, reading_after_lines}
use Rattle.keep_meaning.specs.Nodes.{kinds_at}
use Rattle.keep_edit_spec.specs.Changed.{Changed}
use Rattle.keep_edit_spec.specs.ClearedLines.{ClearsLine, line_start}
use Rattle.keep_edit_spec.specs.Edits.{edited_document, end_of, remove}
use Rattle.keep_edit_spec.specs.Laws.{IsEditable}
use Rattle.keep_edit_spec.specs.Lines.{begins, is_empty, is_header, last_line}
use Rattle.keep_edit_spec.specs.RemovedHeaders.{RemovesHeader}
use Rattle.keep_edit_spec.specs.Runs.{AreApart}
use Rattle.keep_edit_spec.specs.TextChanges.{IsBeside, TextChange, moved, moved_by}
use Rattle.keep_edit_spec.specs.TextEnds.{ends_in_newline}
use Rattle.keep_edit_spec.proofs.EditLaws.{remove_lawful}
use Rattle.keep_edit_spec.proofs.Lists.EndsCleared.{end_cleared}
use Rattle.keep_edit_spec.proofs.Lists.HeaderLines.{last_empty, lines_end}
use Rattle.keep_edit_spec.proofs.Lists.LineCleared as done
use Rattle.keep_edit_spec.proofs.Lists.LineStarts.{line_moves}
use Rattle.keep_edit_spec.proofs.Lists.OwnKinds.{kinds_beside}
use Rattle.keep_edit_spec.proofs.Lists.OwnLine.{before_length}
use Rattle.keep_edit_spec.proofs.Lists.RemovedOwn.{last_or}
use Rattle.keep_edit_spec.proofs.Lists.TakenAgain as again
use Rattle.keep_edit_spec.proofs.Lists.TakenKinds.{TakenAfterClear}

-- ---- the last line that passes, with another line that is read alike

last_alike : (test : Reading → Line → Bool) (r : Reading) (pre : List Line) (l y : Line) (post : List Line)
    → (let x : Reading = reading_after_lines r pre in
    after_line x y ≡ after_line x l → test x y ≡ test x l
    → last_line test r (pre ++ y ∷ post) ≡ last_line test r (pre ++ l ∷ post))
last_alike test r [] l y post reads same =
    ap₂ (λ (b : Bool) (x : Reading). last_or b (last_line test x post)) same reads
last_alike test r (z ∷ pre) l y post reads same =
    ap (last_or (test r z)) (last_alike test (after_line r z) pre l y post reads same)

-- ---- the document with the line cleared

module _ (profile : Profile) (limit : ℕ) (s : Document) (path : List Part) (c : TextChange) (other : List Part)
    (d : TextChange) (fine : IsEditable profile limit s) (h : ClearsLine profile limit s path c)
    (k : RemovesHeader profile limit s other d) (side : IsBeside c d) where
  abbrev x : Changed Document
  x = done.x profile limit s path c fine h

  abbrev thin : TextChange
  thin = done.thin profile limit s path c fine h

  abbrev head : ℕ
  head = again.head_number profile limit s other d fine k

  abbrev end : ℕ
  end = again.end_number profile limit s other d fine k

  to_is : x.to ≡ done.now profile limit s path c fine h
  to_is = done.to_is profile limit s path c fine h

  edited_is : edited_document s (remove path) ≡ x.to
  edited_is = done.is_now profile limit s path c fine h ∙ sym to_is

  fine_now : IsEditable profile limit x.to
  fine_now =
      let law = remove_lawful profile limit s path fine h.allowed in
      subst (IsEditable profile limit) edited_is
      (record { valid = law.reads.valid; shallow = law.reads.shallow; obeys = law.obeys })

  closed_now : ends_in_newline (text x.to) ≡ true
  closed_now =
      let empty : is_empty x.to.last ≡ true =
      ap (λ (t : Document). is_empty t.last) to_is
      ∙ last_empty profile s fine.valid (again.its profile limit s other d fine k).closed in
      lines_end profile x.to fine_now.valid empty
      (omega (arith, h.closed, (done.lines_begin profile limit s path c fine h).count))

  -- ---- the numbers of the lines

  lines_now : lines x.to ≡ done.before profile limit s path c fine h
      ++ (done.bare profile limit s path c fine h).to ∷ done.after profile limit s path c fine h
  lines_now = ap lines to_is ∙ done.lines_are profile limit s path c fine h

  head_now : last_line (begins other) start (lines x.to) ≡ Some head
  head_now =
      let r : Reading = done.r profile limit s path c fine h in
      let l : Line = (done.c profile limit s path c fine h).here.line in
      ap (last_line (begins other) start) lines_now
      ∙ last_alike (begins other) start (done.before profile limit s path c fine h) l
      (done.bare profile limit s path c fine h).to (done.after profile limit s path c fine h)
      (sym (done.keeps profile limit s path c fine h))
      (sym (ap (λ (y : Content). is_header y && same_path (after_line r l).body other)
      (done.its profile limit s path c fine h).was))
      ∙ ap (last_line (begins other) start) (sym (done.lines_were profile limit s path c fine h))
      ∙ again.head_is profile limit s other d fine k

  -- the line is not in the body
  not_next : end ≢ suc h.number
  not_next e =
      let same : c.at + c.size ≡ d.at + d.size =
      h.ends ∙ ap (line_start s) (sym e) ∙ sym (again.ends_at profile limit s other d fine k) in
      let some : 0 < c.size = omega (arith, h.some, h.is.start, h.is.end) in
      elim side [
        | inl first ↦ absurd (omega (arith, same, first, again.has_bytes profile limit s other d fine k))
        | inr later ↦ absurd (omega (arith, same, later.1, some))
      ]

  end_now : end_of x.to other ≡ Some end
  end_now =
      let its = done.its profile limit s path c fine h in
      end_cleared (done.c profile limit s path c fine h).here.line its.name its.held its.was
      (done.comment profile limit s path c fine h) s x.to (done.before profile limit s path c fine h)
      (done.after profile limit s path c fine h) (done.lines_were profile limit s path c fine h) lines_now other end
      (again.ends_is profile limit s other d fine k)
      (λ e. not_next (e ∙ ap suc (before_length profile limit s path h.number fine h.own h.closed)))

  -- ---- where they begin

  moves : (n m : ℕ) → m ≤ d.size → d.at + m ≡ line_start s n → line_start x.to n ≡ moved_by c d.at + m
  moves n m few is =
      line_moves s x thin d (done.lines_begin profile limit s path c fine h)
      (done.there profile limit s path c fine h) (done.some profile limit s path c fine h)
      (done.beside profile limit s path c fine h d side) n m few is
      ∙ ap (λ (at : ℕ). at + m) (done.moves profile limit s path c fine h d.at)

  from_now : line_start x.to head ≡ moved_by c d.at
  from_now =
      omega (
        arith,
        moves head 0 (omega arith) (omega (arith, again.starts_at profile limit s other d fine k)),
      )

  takes_now : AreApart path other → RemovesHeader profile limit x.to other (moved c d)
  takes_now apart =
      again.taken_again profile limit s other d fine k x.to c head end fine_now closed_now
      (ap (kinds_at other) (ap mentions_in to_is ∙ done.said_now profile limit s path c fine h)
      ∙ kinds_beside profile limit s path h.number fine h.own h.closed other apart)
      head_now end_now from_now
      (moves end d.size (omega arith) (again.ends_at profile limit s other d fine k))

pub taken_after_clear : TakenAfterClear
taken_after_clear profile limit s path c other d fine h k apart side =
    subst (λ (t : Document). RemovesHeader profile limit t other (moved c d))
    (sym (edited_is profile limit s path c other d fine h k side))
    (takes_now profile limit s path c other d fine h k side apart)
