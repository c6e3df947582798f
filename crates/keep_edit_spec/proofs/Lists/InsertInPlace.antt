-- An insert that adds a line at the end of a body adds the same one in the place of the body's last keyval line, after
-- a remove took that line.
--
-- Lines begin in the order of their numbers, so the body ended right after the line that is gone (`number_is`). The
-- line before this is not blank (`said`, by SaidBefore), so the body ends where it was (`ends_now`, by EndsInPlace). So
-- the insert adds its own there (AddsAgain).
--
-- Theorems: `insert_in_place`; `same_number`.
use Rattle.std.proofs.Common.{◌≡◌, ℕ, suc, ◌+◌, ◌<◌, ◌≤◌, List, [], ◌∷◌, ◌++◌, length, map, sym, ap, subst, ◌∙◌}
use Rattle.std.proofs.Common.{length-append, arith, Some, None, inl, inr}
use Rattle.std.proofs.lemmas.Bool.{cases_lt}
use Rattle.std.proofs.lemmas.List.{map-append}
use Rattle.keep_types.specs.declared.leaf.Profile.{Profile}
use Rattle.keep_syntax.specs.Tree.{Value, Line, Document, bom_leaves, text, text_of}
use Rattle.keep_path.specs.Path.{Part, strip}
use Rattle.keep_meaning.specs.Meaning.{line_of, mentions_in}
use Rattle.keep_edit_spec.specs.AddedLines.{AddsLine, AddsLineStill}
use Rattle.keep_edit_spec.specs.ClearedLines.{line_start}
use Rattle.keep_edit_spec.specs.Edits.{end_of}
use Rattle.keep_edit_spec.specs.Laws.{IsEditable}
use Rattle.keep_edit_spec.specs.Lines.{newline_of}
use Rattle.keep_edit_spec.specs.Look.{holder}
use Rattle.keep_edit_spec.specs.RemovedLines.{RemovesLine}
use Rattle.keep_edit_spec.specs.SaidLines.{SaysBefore}
use Rattle.keep_edit_spec.specs.TextChanges.{TextChange, moved, moved_by}
use Rattle.keep_edit_spec.proofs.Lists.AddsAgain.{adds_again}
use Rattle.keep_edit_spec.proofs.Lists.EndsInPlace.{end_in_place}
use Rattle.keep_edit_spec.proofs.Lists.LineGone as gone
use Rattle.keep_edit_spec.proofs.Lists.NewHolder.{apart_clear}
use Rattle.keep_edit_spec.proofs.Lists.Places.{at_is, width_grows}
use Rattle.keep_edit_spec.proofs.Lists.RemovedPlaces.{at_is as line_at, before_is, end_is as line_end}
use Rattle.keep_edit_spec.proofs.Lists.SaidBefore.{EndsSaid, said_before}
use Rattle.keep_edit_spec.proofs.Lists.TwoKinds.{InsertInPlace}

-- lines that begin at the same byte have the same number
pub same_number : (profile : Profile) (limit : ℕ) (s : Document) → IsEditable profile limit s → (i n : ℕ)
    → i ≤ length s.ended → n ≤ length s.ended → line_start s i ≡ line_start s n → i ≡ n
same_number profile limit s fine i n few some same = elim (cases_lt i n) [
  | inl less ↦ absurd (omega (arith, same, width_grows profile n i s.ended fine.valid.ended less some))
  | inr far ↦ elim (cases_lt n i) [
    | inl less ↦ absurd (omega (arith, same, width_grows profile i n s.ended fine.valid.ended less few))
    | inr near ↦ omega (arith, far, near)
  ]
]

-- ---- the document without the line

module _ (profile : Profile) (limit : ℕ) (s : Document) (path : List Part) (l : TextChange)
    (other : List Part) (more : Value) (m : TextChange) (fine : IsEditable profile limit s)
    (h : RemovesLine profile limit s path l) (k : AddsLine profile limit s other more m)
    (clear : strip path other ≡ None) (next : l.at + l.size ≡ m.at) (says : SaysBefore (text s) l.at) where
  abbrev now : Document
  now = gone.now profile limit s path l fine h

  abbrev a : List Part
  a = holder other (mentions_in s)

  abbrev before : List Line
  before = gone.before profile limit s path l fine h

  m_at : m.at ≡ line_start s k.number
  m_at = at_is profile limit s other more m k

  number_is : k.number ≡ suc h.number
  number_is =
      same_number profile limit s fine k.number (suc h.number) k.closed (omega (arith, h.closed))
      (sym m_at ∙ sym next ∙ line_end profile limit s path l h)

  before_number : length before ≡ h.number
  before_number = gone.before_length profile limit s path l fine h

  -- ---- the line before

  said : EndsSaid (gone.c profile limit s path l fine h).first
  said =
      let c = gone.c profile limit s path l fine h in
      said_before profile s fine.valid c.first (c.here ∷ c.more) c.was
      (subst (SaysBefore (text s)) (line_at profile limit s path l h
      ∙ ap (λ (n : ℕ). length (text_of (bom_leaves s.bom)) + n)
      (before_is s path h.number h.bare h.own h.closed)) says)

  cut : before ≡ map line_of said.pre ++ said.here.line ∷ []
  cut = ap (map line_of) said.is ∙ map-append line_of said.pre (said.here ∷ [])

  positive : 0 < h.number
  positive =
      omega (
        arith,
        before_number,
        ap (λ (ls : List Line). length ls) cut,
        length-append (map line_of said.pre) (said.here.line ∷ []),
      )

  -- ---- the end of the holder's body

  ends_now : end_of now a ≡ Some h.number
  ends_now =
      let its = gone.its profile limit s path l fine h in
      end_in_place (gone.c profile limit s path l fine h).here.line its.name its.held its.was said.here.line said.said
      s now before (gone.after profile limit s path l fine h)
      (gone.lines_were profile limit s path l fine h) (gone.lines_are profile limit s path l fine h)
      (map line_of said.pre) cut a
      (k.ends ∙ ap (λ (n : ℕ). Some n) (number_is ∙ ap suc (sym before_number)))
      ∙ ap (λ (n : ℕ). Some n) before_number

  at_now : line_start now h.number ≡ moved_by l m.at
  at_now =
      sym (gone.at_from profile limit s path l fine h h.number m.at (omega arith)
      (m_at ∙ ap (line_start s) number_is))

  adds_now : newline_of now ≡ newline_of s → AddsLineStill profile limit s now other more (moved l m)
  adds_now same =
      adds_again profile limit s path now (gone.cut_now profile limit s path l fine h) other more m k clear h.number
      ends_now (gone.number_few profile limit s path l fine h) l at_now same (inl positive)

pub insert_in_place : InsertInPlace
insert_in_place profile limit s path l other more m fine h k apart same next says =
    let is = gone.is_now profile limit s path l fine h in
    let clear : strip path other ≡ None = apart_clear profile limit s other more m k path apart in
    subst (λ (d : Document). AddsLineStill profile limit s d other more (moved l m)) (sym is)
    (adds_now profile limit s path l other more m fine h k clear next says (ap newline_of (sym is) ∙ same))
