-- An insert that adds a line to a table which dotted keys make adds the same one at the same byte after an insert, of
-- another first new key, added its line there at the end of a body.
--
-- Lines begin in the order of their numbers, so the new line comes right after the last one that leads through the
-- holder (`same_line`). It does not lead there itself, and comes behind: so that one is still the last, with the same
-- number (`last_stays`), in the same body, since the lines up to it are the same (`body_stays`). The document says of
-- the second path what it said (SaidOnWay). So the same line comes, where the new one begins (DottedAgain): as after a
-- change behind it, which leaves it where it is.
--
-- Theorem: `adds_ahead_of_end`.
use Rattle.std.proofs.Common.{◌≡◌, ◌≢◌, ℕ, suc, ◌+◌, true, List, [], ◌∷◌, length, take, drop, sym, ap, subst, ◌∙◌}
use Rattle.std.proofs.Common.{arith, Some}
use Rattle.std.proofs.lemmas.List.{take-append-drop}
use Rattle.keep_types.specs.declared.leaf.Profile.{Profile}
use Rattle.keep_syntax.specs.Tree.{Document, Ended, Line, Name, Value, bom_leaves, keyval, text_of}
use Rattle.keep_path.specs.Path.{Part}
use Rattle.keep_meaning.specs.Marks.{Reading, start}
use Rattle.keep_meaning.specs.Meaning.{lines, mentions_in}
use Rattle.keep_edit_spec.specs.AddedLines.{AddsLine, first_new}
use Rattle.keep_edit_spec.specs.ClearedLines.{line_start}
use Rattle.keep_edit_spec.specs.DottedLines.{AddsDotted, StillAdds}
use Rattle.keep_edit_spec.specs.Edits.{edited_document, insert, name_with}
use Rattle.keep_edit_spec.specs.Laws.{IsEditable}
use Rattle.keep_edit_spec.specs.Lines.{last_line, leads_dotted, new_line, newline_of, reading_at}
use Rattle.keep_edit_spec.specs.LinesAhead.{StillAddsAheadOfEnd}
use Rattle.keep_edit_spec.specs.Look.{holder}
use Rattle.keep_edit_spec.specs.TextChanges.{TextChange, moved_by}
use Rattle.keep_edit_spec.specs.declared.line_kind.LineKind.TheVariants.{OfDotted}
use Rattle.keep_edit_spec.proofs.Lists.BodyEnds.{later_before, later_from}
use Rattle.keep_edit_spec.proofs.Lists.DottedAfter.{bare_now}
use Rattle.keep_edit_spec.proofs.Lists.DottedAfterLine.{last_now}
use Rattle.keep_edit_spec.proofs.Lists.DottedAgain.{IsLastThere, dotted_again}
use Rattle.keep_edit_spec.proofs.Lists.DottedLine as dotted
use Rattle.keep_edit_spec.proofs.Lists.InsertInPlace.{same_number}
use Rattle.keep_edit_spec.proofs.Lists.LineKinds.{seen_still}
use Rattle.keep_edit_spec.proofs.Lists.LineOnWay.{AddsOnWay, line_on_way}
use Rattle.keep_edit_spec.proofs.Lists.NewPaths.{InsertsKeys, dotted_keys}
use Rattle.keep_edit_spec.proofs.Lists.OneLineMore.{reading_alike}
use Rattle.keep_edit_spec.proofs.Lists.Places.{at_is, earlier, width}
use Rattle.keep_edit_spec.proofs.Lists.PutsKeyval.{PutsKeyval, few_still, first_long, line_puts, lines_are}
use Rattle.keep_edit_spec.proofs.Lists.SaidOnWay.{holder_stays, refusal_stays}
use Rattle.keep_edit_spec.proofs.Lists.TextChanges.{behind, unmoved}

module _ (profile : Profile) (limit : ℕ) (s : Document) (path : List Part) (value : Value) (c : TextChange)
    (other : List Part) (more : Value) (d : TextChange) (fine : IsEditable profile limit s)
    (h : AddsLine profile limit s path value c) (k : AddsDotted profile limit s other more d)
    (other_keys : first_new s path ≢ first_new s other) (at : c.at ≡ d.at) where
  abbrev now : Document
  now = edited_document s (insert path value)

  abbrev b : List Part
  b = holder other (mentions_in s)

  -- the number of the new line
  abbrev n : ℕ
  n = h.number

  abbrev name : Name
  name = name_with (h.text ∷ h.more)

  abbrev x : Ended
  x = new_line (newline_of s) (keyval name value)

  abbrev first : List Line
  first = take n (lines s)

  abbrev rest : List Line
  rest = drop n (lines s)

  abbrev its : InsertsKeys profile limit s other more
  its = dotted_keys profile limit s other more d k

  abbrev way : AddsOnWay profile limit s path value
  way = line_on_way profile limit s path value c h

  put : PutsKeyval s now n name value c
  put = line_puts profile limit s path value c fine h

  -- it comes right after the last line that leads through the holder
  same_line : suc k.number ≡ n
  same_line =
      same_number profile limit s fine (suc k.number) n k.closed h.closed
      (sym (dotted.at_is profile limit s other more d k) ∙ sym at ∙ at_is profile limit s path value c h)

  -- ---- that line

  last_stays : last_line (leads_dotted b) start (lines now) ≡ Some k.number
  last_stays =
      last_now profile limit s path value c other more d fine h k
      ∙ ap (λ (m : ℕ). Some m) (later_before n k.number (omega (arith, same_line)))

  body_stays : (reading_at k.number (lines now)).body ≡ (reading_at k.number (lines s)).body
  body_stays =
      ap (λ (ls : List Line). (reading_at k.number ls).body) (lines_are s now n name value c put)
      ∙ ap (λ (r : Reading). r.body)
      (reading_alike start first (x.line ∷ rest) rest k.number
      (omega (arith, same_line, first_long s now n name value c put)))
      ∙ ap (λ (ls : List Line). (reading_at k.number ls).body) (take-append-drop n (lines s))

  there : IsLastThere s other k.number now k.number
  there = record {
    bare = bare_now profile limit s now n name value c put fine other more d k;
    last = last_stays;
    body = body_stays;
    closed = omega (
      arith,
      few_still s now n name value c put (suc k.number) k.closed,
      later_from n (suc k.number) (omega (arith, same_line)),
    );
  }

  -- ---- its place

  begins_at : line_start now (suc k.number) ≡ moved_by (behind d.at) d.at
  begins_at =
      ap (λ (z : Document). line_start z (suc k.number)) put.is
      ∙ ap (λ (es : List Ended). length (text_of (bom_leaves s.bom)) + width es)
      (earlier n (suc k.number) (x ∷ []) s.ended (omega (arith, same_line)) h.closed)
      ∙ sym (dotted.at_is profile limit s other more d k)
      ∙ sym (unmoved d.at)

  dotted_ahead : StillAdds true profile limit s now other more d
  dotted_ahead =
      subst (λ (i : ℕ). StillAdds true profile limit s now other more (record d { at = i })) (unmoved d.at)
      (dotted_again profile limit s now other more (behind d.at) d k k.number there begins_at put.newline
      (holder_stays profile limit s path value way other more its other_keys)
      (refusal_stays profile limit s path value way other more its other_keys))

pub adds_ahead_of_end : StillAddsAheadOfEnd
adds_ahead_of_end profile limit s path value c other more d fine h k other_keys at =
    let now : Document = edited_document s (insert path value) in
    let x : StillAdds true profile limit s now other more d =
    dotted_ahead profile limit s path value c other more d fine h k other_keys at in
    (x.0, seen_still OfDotted profile limit s now other more d d k x.0 x.1)
