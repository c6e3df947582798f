-- An insert that adds a line, at the end of a body or to a table which dotted keys make, adds the same one at the same
-- byte after an insert brought the header of its own table there.
--
-- Lines begin in the order of their numbers, so both come before the same line of the document (`same_line`). The
-- tables are others (LineAfterBrought). So the document says of the line's path what it said: its insert is not
-- refused, and its holder is the same (BroughtAllowed). The holder's body ends where it did, since an empty line and a
-- header come there; to a table that dotted keys make the line comes after the last one that leads through the holder,
-- which is the same (BroughtEnds). So the same line comes, where the first of the header's lines begins (AddsAgain,
-- DottedAgain): as after a change behind it, which leaves it where it is.
--
-- Theorem: `adds_ahead`.
use Rattle.std.proofs.Common.{◌≡◌, ◌≢◌, ℕ, suc, ◌≤◌, true, List, length, refl, sym, ap, subst, ◌∙◌, arith, Some}
use Rattle.std.proofs.Common.{inl, inr}
use Rattle.keep_types.specs.declared.leaf.Profile.{Profile}
use Rattle.keep_syntax.specs.Tree.{Document, Value}
use Rattle.keep_path.specs.Path.{Part}
use Rattle.keep_meaning.specs.Meaning.{mentions_in}
use Rattle.keep_edit_spec.specs.AddedLines.{AddsLine, AddsLineStill, first_new}
use Rattle.keep_edit_spec.specs.BroughtHeaders.{BringsHeader}
use Rattle.keep_edit_spec.specs.ClearedLines.{line_start}
use Rattle.keep_edit_spec.specs.DottedLines.{AddsDotted, StillAdds}
use Rattle.keep_edit_spec.specs.Edits.{edited_document, end_of, insert}
use Rattle.keep_edit_spec.specs.Laws.{IsEditable}
use Rattle.keep_edit_spec.specs.LinesAhead.{StillAddsAhead}
use Rattle.keep_edit_spec.specs.Look.{holder}
use Rattle.keep_edit_spec.specs.TextChanges.{TextChange, moved_by}
use Rattle.keep_edit_spec.specs.declared.line_kind.LineKind.TheVariants.{LastInBody, OfDotted, WithHeader}
use Rattle.keep_edit_spec.proofs.Lists.AddsAgain.{adds_there}
use Rattle.keep_edit_spec.proofs.Lists.BroughtAllowed.{holder_clear, holder_stays, refusal_stays}
use Rattle.keep_edit_spec.proofs.Lists.BroughtEnds.{IsLeadMoved, bare_now, dots_move, end_stays}
use Rattle.keep_edit_spec.proofs.Lists.BroughtLines as brought
use Rattle.keep_edit_spec.proofs.Lists.BroughtLines.{length_now, new_start, newline_stays}
use Rattle.keep_edit_spec.proofs.Lists.DottedAgain.{IsLastThere, dotted_again}
use Rattle.keep_edit_spec.proofs.Lists.DottedLine as dotted
use Rattle.keep_edit_spec.proofs.Lists.InsertInPlace.{same_number}
use Rattle.keep_edit_spec.proofs.Lists.LineAfterBrought.{dotted_differs, line_differs}
use Rattle.keep_edit_spec.proofs.Lists.LineKinds.{seen_still}
use Rattle.keep_edit_spec.proofs.Lists.NewPaths.{InsertsKeys, dotted_keys, line_keys}
use Rattle.keep_edit_spec.proofs.Lists.Places.{at_is}
use Rattle.keep_edit_spec.proofs.Lists.TextChanges.{behind, unmoved}

module _ (profile : Profile) (limit : ℕ) (s : Document) (path : List Part) (value : Value) (c : TextChange)
    (other : List Part) (more : Value) (d : TextChange) (fine : IsEditable profile limit s)
    (h : BringsHeader profile limit s path value c) (other_keys : first_new s path ≢ first_new s other)
    (at : c.at ≡ d.at) where
  abbrev now : Document
  now = edited_document s (insert path value)

  abbrev table : List Part
  table = holder other (mentions_in s)

  -- the number of the first new line
  abbrev n : ℕ
  n = brought.n profile limit s path value c h

  closed_now : n ≤ length now.ended
  closed_now = omega (arith, h.closed, length_now profile limit s path value c h)

  -- the line comes before the same one of the document
  same_line : (m : ℕ) → m ≤ length s.ended → d.at ≡ line_start s m → m ≡ n
  same_line m few is =
      same_number profile limit s fine m n few h.closed
      (sym is ∙ sym at ∙ brought.at_is profile limit s path value c h)

  starts : line_start now n ≡ moved_by (behind d.at) d.at
  starts = new_start profile limit s path value c h ∙ at ∙ sym (unmoved d.at)

  -- ---- at the end of a body

  module _ (k : AddsLine profile limit s other more d) where
    abbrev its : InsertsKeys profile limit s other more
    its = line_keys profile limit s other more d k

    differs : holder path (mentions_in s) ≢ table
    differs = line_differs profile limit s path value c other more d h k

    ends : end_of now table ≡ Some n
    ends =
        end_stays profile limit s path value c fine h table differs
        (k.ends ∙ ap (λ (m : ℕ). Some m) (same_line k.number k.closed (at_is profile limit s other more d k)))

    adds_now : AddsLineStill profile limit s now other more d
    adds_now =
        subst (λ (i : ℕ). AddsLineStill profile limit s now other more (record d { at = i })) (unmoved d.at)
        (adds_there profile limit s now other more d k n ends closed_now (behind d.at) starts
        (newline_stays profile limit s path value c h fine)
        (holder_stays profile limit s path value c fine h other more its other_keys)
        (refusal_stays profile limit s path value c fine h other more its other_keys) (inl (omega arith)))

  -- ---- to a table that dotted keys make

  module _ (k : AddsDotted profile limit s other more d) where
    abbrev its_dotted : InsertsKeys profile limit s other more
    its_dotted = dotted_keys profile limit s other more d k

    differs_dotted : holder path (mentions_in s) ≢ table
    differs_dotted = dotted_differs profile limit s path value c other more d h k

    lead : IsLeadMoved s now table n (length (brought.new_lines profile limit s path value c h)) k.number
    lead =
        dots_move profile limit s path value c fine h table
        (holder_clear profile limit s path value c fine h other more its_dotted other_keys) k.number k.last

    -- it comes right before the new lines
    next : suc lead.number ≡ n
    next =
        let was : suc k.number ≡ n =
        same_line (suc k.number) k.closed (dotted.at_is profile limit s other more d k) in
        elim lead.moves [ inl x ↦ omega (arith, x.0, was) | inr x ↦ absurd (omega (arith, x.1, was)) ]

    there : IsLastThere s other k.number now lead.number
    there = record {
      bare = bare_now profile limit s path value c fine h table differs_dotted k.bare;
      last = lead.last;
      body = lead.body;
      closed = omega (arith, next, closed_now);
    }

    adds_dotted_now : StillAdds true profile limit s now other more d
    adds_dotted_now =
        subst (λ (i : ℕ). StillAdds true profile limit s now other more (record d { at = i })) (unmoved d.at)
        (dotted_again profile limit s now other more (behind d.at) d k lead.number there
        (ap (line_start now) next ∙ starts) (newline_stays profile limit s path value c h fine)
        (holder_stays profile limit s path value c fine h other more its_dotted other_keys)
        (refusal_stays profile limit s path value c fine h other more its_dotted other_keys))

pub adds_ahead : StillAddsAhead
adds_ahead profile limit s path value c LastInBody other more d fine h k no_header other_keys at =
    let now : Document = edited_document s (insert path value) in
    let x : AddsLineStill profile limit s now other more d =
    adds_now profile limit s path value c other more d fine h other_keys at k in
    (x.0, seen_still LastInBody profile limit s now other more d d k x.0 x.1)
adds_ahead profile limit s path value c OfDotted other more d fine h k no_header other_keys at =
    let now : Document = edited_document s (insert path value) in
    let x : StillAdds true profile limit s now other more d =
    adds_dotted_now profile limit s path value c other more d fine h other_keys at k in
    (x.0, seen_still OfDotted profile limit s now other more d d k x.0 x.1)
adds_ahead profile limit s path value c WithHeader other more d fine h k no_header other_keys at =
    absurd (no_header refl)
