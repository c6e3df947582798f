-- An insert that adds a line to a table which dotted keys make adds the same one at the same byte after another insert,
-- of another first new key, added its line there to such a table above that.
--
-- Lines begin in the order of their numbers, so both lines come right after the same one (`same_line`). The new line
-- leads through no table below its own (DottedLeads), and comes behind: so the last one that leads through the second
-- holder is still the last, with the same number (`last_stays`), in the same body, since the lines up to it are the
-- same (`body_stays`). The document says of the second path what it said (SaidOnWay). So the same line comes, where the
-- new one begins (DottedAgain): as after a change behind it, which leaves it where it is.
--
-- Theorem: `adds_ahead_of_above`.
use Rattle.std.proofs.Common.{◌≡◌, ◌≢◌, ℕ, suc, ◌+◌, Bool, true, false, List, [], ◌∷◌, length, take, drop, refl}
use Rattle.std.proofs.Common.{sym, ap, ap₂, subst, subst₂, ◌∙◌, arith, Option, Some}
use Rattle.std.specs.Option.{option_map}
use Rattle.std.proofs.lemmas.List.{take-append-drop}
use Rattle.keep_types.specs.declared.leaf.Profile.{Profile}
use Rattle.keep_syntax.specs.Tree.{Document, Ended, Line, Name, Value, bom_leaves, text_of}
use Rattle.keep_path.specs.Path.{Part, key, without_last}
use Rattle.keep_meaning.specs.Marks.{Reading, start}
use Rattle.keep_meaning.specs.Meaning.{lines, mentions_in, reading_after_lines}
use Rattle.keep_edit_spec.specs.AddedLines.{first_new}
use Rattle.keep_edit_spec.specs.ClearedLines.{line_start}
use Rattle.keep_edit_spec.specs.DottedLines.{AddsDotted, StillAdds}
use Rattle.keep_edit_spec.specs.Edits.{edited_document, insert, name_with}
use Rattle.keep_edit_spec.specs.Laws.{IsEditable}
use Rattle.keep_edit_spec.specs.Lines.{last_line, leads_dotted, reading_at}
use Rattle.keep_edit_spec.specs.LinesAhead.{StillAddsAheadOfAbove, is_below, table_in}
use Rattle.keep_edit_spec.specs.Look.{holder}
use Rattle.keep_edit_spec.specs.TextChanges.{TextChange, moved_by}
use Rattle.keep_edit_spec.specs.declared.line_kind.LineKind.TheVariants.{OfDotted}
use Rattle.keep_edit_spec.proofs.Insert.ItemCount.{without_last-snoc}
use Rattle.keep_edit_spec.proofs.Lists.BehindLine.{below_more}
use Rattle.keep_edit_spec.proofs.Lists.BodyEnds.{later_before, later_from}
use Rattle.keep_edit_spec.proofs.Lists.DottedAfter.{bare_now}
use Rattle.keep_edit_spec.proofs.Lists.DottedAgain.{IsLastThere, dotted_again}
use Rattle.keep_edit_spec.proofs.Lists.DottedLeads.{below_fails}
use Rattle.keep_edit_spec.proofs.Lists.DottedLine as dotted
use Rattle.keep_edit_spec.proofs.Lists.DottedLine.{at_is, lines_now, puts}
use Rattle.keep_edit_spec.proofs.Lists.InsertInPlace.{same_number}
use Rattle.keep_edit_spec.proofs.Lists.LineKinds.{seen_still}
use Rattle.keep_edit_spec.proofs.Lists.LineOnWay.{AddsOnWay, dotted_on_way}
use Rattle.keep_edit_spec.proofs.Lists.NewPaths.{InsertsKeys, dotted_keys, first_path, goes}
use Rattle.keep_edit_spec.proofs.Lists.OneLineMore.{reading_alike}
use Rattle.keep_edit_spec.proofs.Lists.Places.{earlier, later_line, width}
use Rattle.keep_edit_spec.proofs.Lists.PutsKeyval.{PutsKeyval, few_still, first_long}
use Rattle.keep_edit_spec.proofs.Lists.RemovedOwn.{last_without}
use Rattle.keep_edit_spec.proofs.Lists.SaidOnWay.{holder_stays, refusal_stays}
use Rattle.keep_edit_spec.proofs.Lists.TextChanges.{behind, unmoved}

module _ (profile : Profile) (limit : ℕ) (s : Document) (path : List Part) (value : Value) (c : TextChange)
    (other : List Part) (more : Value) (d : TextChange) (fine : IsEditable profile limit s)
    (h : AddsDotted profile limit s path value c) (k : AddsDotted profile limit s other more d)
    (below : is_below (table_in s other) (table_in s path) ≡ true)
    (other_keys : first_new s path ≢ first_new s other) (at : c.at ≡ d.at) where
  abbrev now : Document
  now = edited_document s (insert path value)

  abbrev a : List Part
  a = holder path (mentions_in s)

  abbrev b : List Part
  b = holder other (mentions_in s)

  -- the number of the new line
  abbrev n : ℕ
  n = dotted.n profile limit s path value c h

  abbrev x : Ended
  x = dotted.x profile limit s path value c h

  abbrev name : Name
  name = name_with (dotted.keys profile limit s path value c h)

  abbrev first : List Line
  first = take n (lines s)

  abbrev rest : List Line
  rest = drop n (lines s)

  abbrev r : Reading
  r = reading_after_lines start first

  abbrev own : InsertsKeys profile limit s path value
  own = dotted_keys profile limit s path value c h

  abbrev its : InsertsKeys profile limit s other more
  its = dotted_keys profile limit s other more d k

  abbrev way : AddsOnWay profile limit s path value
  way = dotted_on_way profile limit s path value c h

  put : PutsKeyval s now n name value c
  put = puts profile limit s path value c h fine

  -- both come right after the same line
  same_line : suc k.number ≡ n
  same_line =
      same_number profile limit s fine (suc k.number) n k.closed h.closed
      (sym (at_is profile limit s other more d k) ∙ sym at ∙ at_is profile limit s path value c h)

  -- ---- that line

  leads_none : leads_dotted b r x.line ≡ false
  leads_none = by (leads_dotted b r x.line) refl
    where
      tables : is_below b a ≡ true
      tables =
          subst₂ (λ (p q : List Part). is_below p q ≡ true)
          (ap without_last (first_path profile limit s other more its) ∙ without_last-snoc b (key k.text))
          (ap without_last (first_path profile limit s path value own) ∙ without_last-snoc a (key h.text)) below

      by : (t : Bool) → leads_dotted b r x.line ≡ t → leads_dotted b r x.line ≡ false
      by true e =
          let (p, (ps, far)) = below_more b a tables in
          absurd
          (below_fails profile limit s path value c h b (goes profile limit s other more its).node k.number k.last p ps
          far e)
      by false e = e

  last_stays : last_line (leads_dotted b) start (lines now) ≡ Some k.number
  last_stays =
      ap (last_line (leads_dotted b) start) (lines_now profile limit s path value c h)
      ∙ last_without (leads_dotted b) start first x.line rest refl leads_none
      ∙ ap (λ (ls : List Line). option_map (later_line (length first)) (last_line (leads_dotted b) start ls))
      (take-append-drop n (lines s))
      ∙ ap₂ (λ (m : ℕ) (o : Option ℕ). option_map (later_line m) o) (first_long s now n name value c put) k.last
      ∙ ap (λ (m : ℕ). Some m) (later_before n k.number (omega (arith, same_line)))

  body_stays : (reading_at k.number (lines now)).body ≡ (reading_at k.number (lines s)).body
  body_stays =
      ap (λ (ls : List Line). (reading_at k.number ls).body) (lines_now profile limit s path value c h)
      ∙ ap (λ (q : Reading). q.body)
      (reading_alike start first (x.line ∷ rest) rest k.number
      (omega (arith, same_line, first_long s now n name value c put)))
      ∙ ap (λ (ls : List Line). (reading_at k.number ls).body) (take-append-drop n (lines s))

  there : IsLastThere s other k.number now k.number
  there = record {
    bare = bare_now profile limit s now n name value c put fine other more d k;
    last = last_stays;
    body = body_stays;
    closed = omega (
      arith,
      few_still s now n name value c put (suc k.number) k.closed,
      later_from n (suc k.number) (omega (arith, same_line)),
    );
  }

  -- ---- its place

  begins_at : line_start now (suc k.number) ≡ moved_by (behind d.at) d.at
  begins_at =
      ap (λ (z : Document). line_start z (suc k.number)) put.is
      ∙ ap (λ (es : List Ended). length (text_of (bom_leaves s.bom)) + width es)
      (earlier n (suc k.number) (x ∷ []) s.ended (omega (arith, same_line)) h.closed)
      ∙ sym (at_is profile limit s other more d k)
      ∙ sym (unmoved d.at)

  dotted_ahead : StillAdds true profile limit s now other more d
  dotted_ahead =
      subst (λ (i : ℕ). StillAdds true profile limit s now other more (record d { at = i })) (unmoved d.at)
      (dotted_again profile limit s now other more (behind d.at) d k k.number there begins_at put.newline
      (holder_stays profile limit s path value way other more its other_keys)
      (refusal_stays profile limit s path value way other more its other_keys))

pub adds_ahead_of_above : StillAddsAheadOfAbove
adds_ahead_of_above profile limit s path value c other more d fine h k below other_keys at =
    let now : Document = edited_document s (insert path value) in
    let x : StillAdds true profile limit s now other more d =
    dotted_ahead profile limit s path value c other more d fine h k below other_keys at in
    (x.0, seen_still OfDotted profile limit s now other more d d k x.0 x.1)
