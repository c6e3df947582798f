-- An insert that adds a line to a table which dotted keys make adds the same one after another such insert, of another
-- first new key, added its line; of lines that come to one place the first is of the same table, or of one below it.
--
-- The document says of the second path what it said (SaidOnWay), so the insert is not refused, and its holder and its
-- first new key are the same. The first insert puts its line in right after line i, and the second one's last line is
-- line j. The new line leads through the second holder only if j is i or later (DottedLeads), and does if j is i, since
-- then both lines come to one place, and it leads through its table and those above that. So the last line is now j, or
-- a line later from i on (OneLineMore): the same line comes, at the moved place (DottedAfter).
--
-- Theorem: `still_adds_dotted`.
use Rattle.std.proofs.Common.{◌≡◌, ℕ, suc, ◌+◌, true, List, ◌∷◌, ◌++◌, length, map, take, drop, refl, sym, ap}
use Rattle.std.proofs.Common.{subst₂, ◌∙◌, Some}
use Rattle.std.proofs.lemmas.List.{take-append-drop}
use Rattle.keep_types.specs.declared.leaf.Profile.{Profile}
use Rattle.keep_syntax.specs.Tree.{Value, Ended, Line, Document, Name, bom_leaves, text_of}
use Rattle.keep_path.specs.Path.{Part, key, without_last}
use Rattle.keep_meaning.specs.Marks.{Mention, start}
use Rattle.keep_meaning.specs.Meaning.{lines, mentions_in}
use Rattle.keep_edit_spec.specs.DottedLines.{AddsDotted, AreInOrder, IsAtOrBelow, StillAdds, added_at}
use Rattle.keep_edit_spec.specs.Edits.{edited_document, insert, name_with}
use Rattle.keep_edit_spec.specs.Laws.{IsEditable}
use Rattle.keep_edit_spec.specs.Lines.{last_line, leads_dotted, reading_at}
use Rattle.keep_edit_spec.specs.Look.{holder}
use Rattle.keep_edit_spec.specs.TextChanges.{TextChange, moved}
use Rattle.keep_edit_spec.proofs.Insert.InsertDotted.{IsDottedLine}
use Rattle.keep_edit_spec.proofs.Insert.ItemCount.{without_last-snoc}
use Rattle.keep_edit_spec.proofs.Lists.BodyEnds.{later_suc}
use Rattle.keep_edit_spec.proofs.Lists.DottedAfter.{dotted_still}
use Rattle.keep_edit_spec.proofs.Lists.DottedLeads as leads
use Rattle.keep_edit_spec.proofs.Lists.DottedLeads.{leads_above, past_before}
use Rattle.keep_edit_spec.proofs.Lists.DottedLine as line
use Rattle.keep_edit_spec.proofs.Lists.DottedLine.{at_is, lines_now, puts}
use Rattle.keep_edit_spec.proofs.Lists.LineOnWay.{AddsOnWay, dotted_on_way}
use Rattle.keep_edit_spec.proofs.Lists.NewPaths.{InsertsKeys, dotted_keys, first_path, goes}
use Rattle.keep_edit_spec.proofs.Lists.OneLineMore.{last_still}
use Rattle.keep_edit_spec.proofs.Lists.Places.{later_line, width}
use Rattle.keep_edit_spec.proofs.Lists.PutsKeyval.{PutsKeyval, first_long}
use Rattle.keep_edit_spec.proofs.Lists.SaidOnWay.{holder_stays, refusal_stays}

module _ (profile : Profile) (limit : ℕ) (s : Document) (path : List Part) (value : Value) (c : TextChange)
    (other : List Part) (more : Value) (d : TextChange) (fine : IsEditable profile limit s)
    (h : AddsDotted profile limit s path value c) (k : AddsDotted profile limit s other more d)
    (order : AreInOrder (added_at s path c true) (added_at s other d true)) where
  abbrev ms : List Mention
  ms = mentions_in s

  abbrev now : Document
  now = edited_document s (insert path value)

  abbrev a : List Part
  a = holder path ms

  abbrev b : List Part
  b = holder other ms

  abbrev n : ℕ
  n = line.n profile limit s path value c h

  abbrev x : Ended
  x = line.x profile limit s path value c h

  abbrev name : Name
  name = name_with (line.keys profile limit s path value c h)

  -- the number of the last line then
  abbrev j : ℕ
  j = later_line h.number k.number

  abbrev first : List Line
  first = take n (lines s)

  abbrev rest : List Line
  rest = drop n (lines s)

  abbrev own : InsertsKeys profile limit s path value
  own = dotted_keys profile limit s path value c h

  abbrev its : InsertsKeys profile limit s other more
  its = dotted_keys profile limit s other more d k

  abbrev way : AddsOnWay profile limit s path value
  way = dotted_on_way profile limit s path value c h

  put : PutsKeyval s now n name value c
  put = puts profile limit s path value c h fine

  -- of lines after one line the table of the first is that of the second, or below it
  tables : k.number ≡ h.number → IsAtOrBelow a b
  tables is =
      let bom : List ℕ = text_of (bom_leaves s.bom) in
      let at : c.at ≡ d.at =
      at_is profile limit s path value c h ∙ ap (λ (i : ℕ). length bom + width (take (suc i) s.ended)) (sym is)
      ∙ sym (at_is profile limit s other more d k) in
      subst₂ IsAtOrBelow
      (ap without_last (first_path profile limit s path value own) ∙ without_last-snoc a (key h.text))
      (ap without_last (first_path profile limit s other more its) ∙ without_last-snoc b (key k.text))
      (order.table refl at).1

  -- so the new line leads through that of the second
  leads_both : k.number ≡ h.number → leads_dotted b (leads.r profile limit s path value c h) x.line ≡ true
  leads_both is =
      let there : IsDottedLine s b k.number = line.before profile limit s other more d k in
      leads_above profile limit s path value c h b there.first there.prefix
      (there.whole
      ∙ ap (λ (i : ℕ). (reading_at i (lines s)).body ++ map key (there.first ∷ there.prefix)) is) (tables is)

  last_now : last_line (leads_dotted b) start (lines now) ≡ Some j
  last_now =
      ap (last_line (leads_dotted b) start) (lines_now profile limit s path value c h)
      ∙ last_still (leads_dotted b) start first x.line rest refl h.number k.number
      (first_long s now n name value c put)
      (ap (last_line (leads_dotted b) start) (take-append-drop n (lines s)) ∙ k.last)
      (past_before profile limit s path value c h b (goes profile limit s other more its).node k.number k.last)
      leads_both

  pub still_adds_dotted : StillAdds true profile limit s now other more (moved c d)
  still_adds_dotted =
      dotted_still profile limit s now n name value c put fine other more d k j (later_suc h.number k.number)
      (holder_stays profile limit s path value way other more its order.other)
      (refusal_stays profile limit s path value way other more its order.other) last_now
