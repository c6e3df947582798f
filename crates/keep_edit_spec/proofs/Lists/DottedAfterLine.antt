-- An insert that adds a line to a table which dotted keys make adds the same one after an insert, of another first new
-- key, added its line at the end of a body; the two lines come to two places.
--
-- All that the new line says is at the path of its first new key or under it, so it does not lead through a node
-- (`leads_none`). So the last line that leads through the second holder is the same one, a line later if the body ends
-- at it or before it. The body does not end right after it, where the lines would come to one place: so the place moves
-- as the line does (`number`). The document says of the second path what it said (SaidOnWay), and the same line comes
-- (DottedAfter).
--
-- Theorems: `dotted_after_line`; `last_now`: wherever the lines come.
use Rattle.std.proofs.Common.{◌≡◌, ℕ, suc, ◌+◌, Bool, true, false, List, [], ◌∷◌, ◌++◌, length, map, take, drop, refl}
use Rattle.std.proofs.Common.{sym, ap, ap₂, subst, ◌∙◌, append_assoc, arith, Option, Some, inl, inr}
use Rattle.std.specs.Option.{option_map}
use Rattle.std.proofs.lemmas.Bool.{cases_lt}
use Rattle.std.proofs.lemmas.List.{take-append-drop}
use Rattle.keep_types.specs.declared.leaf.Profile.{Profile}
use Rattle.keep_syntax.specs.Tree.{Value, Ended, Line, Document, Name, bom_leaves, keyval, text_of}
use Rattle.keep_path.specs.Path.{Part, key}
use Rattle.keep_meaning.specs.Marks.{Mention, Reading, below, start}
use Rattle.keep_meaning.specs.Meaning.{keyed_mentions, keys_of, lines, mentions_in, reading_after_lines}
use Rattle.keep_meaning.specs.Nodes.{is_dotted, is_node}
use Rattle.keep_edit_spec.specs.AddedLines.{AddsLine}
use Rattle.keep_edit_spec.specs.DottedLines.{AddsDotted, AreInOrder, StillAdds, added_at}
use Rattle.keep_edit_spec.specs.Edits.{edited_document, insert, name_with}
use Rattle.keep_edit_spec.specs.Laws.{IsEditable}
use Rattle.keep_edit_spec.specs.Lines.{last_line, leads_dotted, new_line, newline_of}
use Rattle.keep_edit_spec.specs.Look.{holder}
use Rattle.keep_edit_spec.specs.TextChanges.{TextChange, moved}
use Rattle.keep_edit_spec.proofs.Common.Doubles.{IsMentioned, has_some}
use Rattle.keep_edit_spec.proofs.Common.Runs.{SomeOf}
use Rattle.keep_edit_spec.proofs.Common.Stops.{Continues, dotted_prefix, some_unbelow}
use Rattle.keep_edit_spec.proofs.Insert.KeysAtEnd.{end, means}
use Rattle.keep_edit_spec.proofs.Lists.BodyEnds.{later_before, later_from}
use Rattle.keep_edit_spec.proofs.Lists.DottedAfter.{dotted_still}
use Rattle.keep_edit_spec.proofs.Lists.DottedLine as dotted
use Rattle.keep_edit_spec.proofs.Lists.LineOnWay.{AddsOnWay, line_on_way}
use Rattle.keep_edit_spec.proofs.Lists.NewHolder.{no_node}
use Rattle.keep_edit_spec.proofs.Lists.NewPaths.{InsertsKeys, dotted_keys, goes, line_keys, unsaid}
use Rattle.keep_edit_spec.proofs.Lists.Places.{at_is, later_line, width}
use Rattle.keep_edit_spec.proofs.Lists.PutsKeyval.{PutsKeyval, first_long, line_puts, lines_are}
use Rattle.keep_edit_spec.proofs.Lists.RemovedOwn.{last_without}
use Rattle.keep_edit_spec.proofs.Lists.SaidOnWay.{holder_stays, refusal_stays}

module _ (profile : Profile) (limit : ℕ) (s : Document) (path : List Part) (value : Value) (c : TextChange)
    (other : List Part) (more : Value) (d : TextChange) (fine : IsEditable profile limit s)
    (h : AddsLine profile limit s path value c) (k : AddsDotted profile limit s other more d) where
  abbrev ms : List Mention
  ms = mentions_in s

  abbrev now : Document
  now = edited_document s (insert path value)

  abbrev a : List Part
  a = holder path ms

  abbrev b : List Part
  b = holder other ms

  abbrev n : ℕ
  n = h.number

  abbrev name : Name
  name = name_with (h.text ∷ h.more)

  abbrev x : Ended
  x = new_line (newline_of s) (keyval name value)

  -- the number of the last line then
  abbrev j : ℕ
  j = later_line n k.number

  abbrev first : List Line
  first = take n (lines s)

  abbrev rest : List Line
  rest = drop n (lines s)

  abbrev r : Reading
  r = reading_after_lines start first

  abbrev own : InsertsKeys profile limit s path value
  own = line_keys profile limit s path value c h

  abbrev its : InsertsKeys profile limit s other more
  its = dotted_keys profile limit s other more d k

  abbrev way : AddsOnWay profile limit s path value
  way = line_on_way profile limit s path value c h

  put : PutsKeyval s now n name value c
  put = line_puts profile limit s path value c fine h

  -- ---- the new line

  no_lead : leads_dotted b r x.line ≡ true → ⊥
  no_lead leads =
      let keys : List (List ℕ) = h.text ∷ h.more in
      let written : List (List ℕ) = keys_of name.key in
      let mean : written ≡ keys =
      means profile limit s path h.text h.more value n h.utf8 h.allowed h.new h.ends in
      let body : r.body ≡ a =
      (end profile limit s path h.text h.more value n h.utf8 h.allowed h.new h.ends).body in
      let u = some_unbelow is_dotted r.body b (keyed_mentions written [])
      (has_some is_dotted b (map (below r.body) (keyed_mentions written [])) leads) in
      let g : Continues keys u.0 =
      dotted_prefix keys u.0
      (subst (λ (ks : List (List ℕ)). SomeOf (IsMentioned is_dotted u.0) (keyed_mentions ks [])) mean u.1.1) in
      let both : h.text ∷ h.more ≡ g.first ∷ (g.prefix ++ g.next ∷ g.more) = g.whole in
      let same : g.first ≡ h.text = cc in
      let is : b ≡ (a ++ key h.text ∷ []) ++ map key g.prefix =
      u.1.0 ∙ ap₂ (λ (p q : List Part). p ++ q) body g.path
      ∙ ap (λ (t : List ℕ). a ++ key t ∷ map key g.prefix) same
      ∙ sym (append_assoc a (key h.text ∷ []) (map key g.prefix)) in
      let no : is_node b ms ≡ false =
      ap (λ (p : List Part). is_node p ms) is
      ∙ no_node s path a h.text h.more h.new (unsaid profile limit s path value own) (map key g.prefix) in
      let node : is_node b ms ≡ true = (goes profile limit s other more its).node in
      absurd cc

  leads_none : leads_dotted b r x.line ≡ false
  leads_none = by (leads_dotted b r x.line) refl
    where
      by : (t : Bool) → leads_dotted b r x.line ≡ t → leads_dotted b r x.line ≡ false
      by true e = absurd (no_lead e)
      by false e = e

  pub last_now : last_line (leads_dotted b) start (lines now) ≡ Some j
  last_now =
      ap (last_line (leads_dotted b) start) (lines_are s now n name value c put)
      ∙ last_without (leads_dotted b) start first x.line rest refl leads_none
      ∙ ap (λ (ls : List Line). option_map (later_line (length first)) (last_line (leads_dotted b) start ls))
      (take-append-drop n (lines s))
      ∙ ap₂ (λ (m : ℕ) (o : Option ℕ). option_map (later_line m) o) (first_long s now n name value c put) k.last

  -- ---- its place

  module _ (order : AreInOrder (added_at s path c false) (added_at s other d true)) where
    two_places : n ≡ suc k.number → ⊥
    two_places is =
        let bom : List ℕ = text_of (bom_leaves s.bom) in
        let at : c.at ≡ d.at =
        at_is profile limit s path value c h ∙ ap (λ (i : ℕ). length bom + width (take i s.ended)) is
        ∙ sym (dotted.at_is profile limit s other more d k) in
        let both : false ≡ true = (order.table refl at).0 in
        absurd cc

    number : suc j ≡ later_line n (suc k.number)
    number = elim (cases_lt k.number n) [
      | inl l ↦ elim (cases_lt (suc k.number) n) [
        | inl less ↦ omega (arith, later_before n k.number l, later_before n (suc k.number) less)
        | inr g ↦ absurd (two_places (omega (arith, l, g)))
      ]
      | inr g ↦ omega (arith, later_from n k.number g, later_from n (suc k.number) (omega (arith, g)))
    ]

    pub dotted_after_line : StillAdds true profile limit s now other more (moved c d)
    dotted_after_line =
        dotted_still profile limit s now n name value c put fine other more d k j number
        (holder_stays profile limit s path value way other more its order.other)
        (refusal_stays profile limit s path value way other more its order.other) last_now
