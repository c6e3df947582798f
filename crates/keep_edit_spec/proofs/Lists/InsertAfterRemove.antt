-- An insert that adds a line adds the same one after a remove, of another path, took its line.
--
-- The holder's body ends where it did, or a line earlier, since the line that is gone is not the last before that end
-- (`end_now`, by EndsWithout). That line begins where it did, or the bytes of the line that is gone before that
-- (`at_now`). So the insert adds its own there (AddsAgain).
--
-- Theorem: `insert_after_remove`.
use Rattle.std.proofs.Common.{◌≡◌, ◌≢◌, ℕ, suc, ◌+◌, ◌<◌, ◌≤◌, List, length, sym, ap, subst, ◌∙◌, arith, None, ◌⊎◌, inl}
use Rattle.std.proofs.Common.{inr}
use Rattle.std.proofs.lemmas.Bool.{cases_lt}
use Rattle.keep_types.specs.declared.leaf.Profile.{Profile}
use Rattle.keep_syntax.specs.Tree.{Value, Document, value_depth}
use Rattle.keep_path.specs.Path.{Part, strip}
use Rattle.keep_meaning.specs.Meaning.{mentions_in}
use Rattle.keep_edit_spec.specs.ClearedLines.{line_start}
use Rattle.keep_edit_spec.specs.AddedLines.{AddsLine, AddsLineStill}
use Rattle.keep_edit_spec.specs.Laws.{IsEditable}
use Rattle.keep_edit_spec.specs.Lines.{newline_of}
use Rattle.keep_edit_spec.specs.Look.{holder}
use Rattle.keep_edit_spec.specs.RemovedLines.{RemovesLine}
use Rattle.keep_edit_spec.specs.TextChanges.{TextChange, moved, moved_by}
use Rattle.keep_edit_spec.proofs.Lists.AddsAgain.{adds_again}
use Rattle.keep_edit_spec.proofs.Lists.BodyEnds.{later_before, later_from}
use Rattle.keep_edit_spec.proofs.Lists.EndsWithout.{IsEndNow, end_without}
use Rattle.keep_edit_spec.proofs.Lists.LineGone as gone
use Rattle.keep_edit_spec.proofs.Lists.NewHolder.{apart_clear}
use Rattle.keep_edit_spec.proofs.Lists.Places.{at_is}
use Rattle.keep_edit_spec.proofs.Lists.RemovedPlaces.{end_is as line_end}
use Rattle.keep_edit_spec.proofs.Lists.TwoKinds.{InsertAfterRemove}

-- ---- the document without the line

module _ (profile : Profile) (limit : ℕ) (s : Document) (path : List Part) (l : TextChange)
    (other : List Part) (more : Value) (m : TextChange) (fine : IsEditable profile limit s)
    (h : RemovesLine profile limit s path l) (k : AddsLine profile limit s other more m)
    (clear : strip path other ≡ None) (past : l.at + l.size ≢ m.at) where
  abbrev now : Document
  now = gone.now profile limit s path l fine h

  abbrev a : List Part
  a = holder other (mentions_in s)

  m_at : m.at ≡ line_start s k.number
  m_at = at_is profile limit s other more m k

  -- ---- the end of the holder's body

  not_next : k.number ≢ suc h.number
  not_next e = past (line_end profile limit s path l h ∙ ap (line_start s) (sym e) ∙ sym m_at)

  end_now : IsEndNow now a h.number k.number
  end_now =
      let number : length (gone.before profile limit s path l fine h) ≡ h.number =
      gone.before_length profile limit s path l fine h in
      let its = gone.its profile limit s path l fine h in
      subst (λ (i : ℕ). IsEndNow now a i k.number) number
      (end_without (gone.c profile limit s path l fine h).here.line its.name its.held its.was s now
      (gone.before profile limit s path l fine h) (gone.after profile limit s path l fine h)
      (gone.lines_were profile limit s path l fine h) (gone.lines_are profile limit s path l fine h)
      a k.number k.ends (λ e. not_next (e ∙ ap suc number)))

  abbrev j : ℕ
  j = end_now.number

  number_before : j < h.number → k.number ≡ j
  number_before less = end_now.later ∙ later_before h.number j less

  number_from : h.number ≤ j → k.number ≡ suc j
  number_from far = end_now.later ∙ later_from h.number j far

  closed_now : j ≤ length now.ended
  closed_now = gone.few_now profile limit s path l fine h k.number j end_now.later k.closed

  positive : 0 < k.number → 0 < j
  positive some = elim (cases_lt j h.number) [
    | inl less ↦ omega (arith, some, number_before less)
    | inr far ↦ elim (cases_lt 0 j) [
      | inl found ↦ found
      | inr none ↦ absurd (not_next (omega (arith, none, far, number_from far)))
    ]
  ]

  newline_now : (0 < j) ⊎ (value_depth more ≡ 0)
  newline_now = elim k.newline [ inl some ↦ inl (positive some) | inr flat ↦ inr flat ]

  at_now : line_start now j ≡ moved_by l m.at
  at_now = gone.at_now profile limit s path l fine h k.number j m.at end_now.later m_at

  adds_now : newline_of now ≡ newline_of s → AddsLineStill profile limit s now other more (moved l m)
  adds_now same =
      adds_again profile limit s path now (gone.cut_now profile limit s path l fine h) other more m k clear j
      end_now.ends closed_now l at_now same newline_now

pub insert_after_remove : InsertAfterRemove
insert_after_remove profile limit s path l other more m fine h k apart beside same past =
    let is = gone.is_now profile limit s path l fine h in
    let clear : strip path other ≡ None = apart_clear profile limit s other more m k path apart in
    subst (λ (d : Document). AddsLineStill profile limit s d other more (moved l m)) (sym is)
    (adds_now profile limit s path l other more m fine h k clear past (ap newline_of (sym is) ∙ same))
