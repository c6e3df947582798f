-- An insert that adds a line adds the same one after a remove took a table or an element with its header, of another
-- path than the insert's.
--
-- The insert's path is not at the changed path nor below it, so its holder is not either (`holder_clear`). The holder's
-- body ends where it did, before the header, or as many lines earlier as went (`end_now`, by TakenEnds), and not where
-- the header began, as what the insert adds is beside what goes. So that line begins where it did, or earlier by the
-- bytes that went (`at_now`), and the insert adds its own there (AddsAgain).
--
-- Theorem: `insert_after_taken`.
use Rattle.std.proofs.Common.{◌≡◌, ℕ, ◌<◌, ◌≤◌, List, ◌∷◌, length, map, sym, ap, subst, ◌∙◌, arith}
use Rattle.std.proofs.Common.{None, ◌⊎◌, inl, inr}
use Rattle.keep_types.specs.declared.leaf.Profile.{Profile}
use Rattle.keep_syntax.specs.Tree.{Value, Document, value_depth}
use Rattle.keep_path.specs.Path.{Part, key, strip}
use Rattle.keep_meaning.specs.Meaning.{mentions_in}
use Rattle.keep_edit_spec.specs.AddedLines.{AddsLine, AddsLineStill}
use Rattle.keep_edit_spec.specs.ClearedLines.{line_start}
use Rattle.keep_edit_spec.specs.ElementRuns.{changed_path}
use Rattle.keep_edit_spec.specs.Laws.{IsEditable}
use Rattle.keep_edit_spec.specs.Lines.{newline_of}
use Rattle.keep_edit_spec.specs.Look.{holder}
use Rattle.keep_edit_spec.specs.RemovedHeaders.{RemovesHeader}
use Rattle.keep_edit_spec.specs.TextChanges.{IsBeside, TextChange, moved, moved_by}
use Rattle.keep_edit_spec.proofs.Lists.AddsAgain.{adds_beside_said}
use Rattle.keep_edit_spec.proofs.Lists.TakenEnds.{IsEndGone}
use Rattle.keep_edit_spec.proofs.Lists.NewHolder.{apart_clear}
use Rattle.keep_edit_spec.proofs.Lists.Places.{at_is}
use Rattle.keep_edit_spec.proofs.Lists.SaidBeside.{said_now}
use Rattle.keep_edit_spec.proofs.Lists.SetAllowed.{prefix_clear}
use Rattle.keep_edit_spec.proofs.Lists.TakenEnds as ends
use Rattle.keep_edit_spec.proofs.Lists.TakenGone as gone_of
use Rattle.keep_edit_spec.proofs.Lists.TakenKinds.{InsertAfterTaken}

-- ---- the document without the table or the element

module _ (profile : Profile) (limit : ℕ) (s : Document) (path : List Part) (c : TextChange)
    (other : List Part) (more : Value) (d : TextChange) (fine : IsEditable profile limit s)
    (h : RemovesHeader profile limit s path c) (k : AddsLine profile limit s other more d)
    (clear : strip (changed_path path) other ≡ None) (beside : IsBeside c d) where
  abbrev now : Document
  now = gone_of.now profile limit s path c fine h

  abbrev n : ℕ
  n = gone_of.n profile limit s path c fine h

  abbrev gone : ℕ
  gone = gone_of.gone profile limit s path c fine h

  abbrev a : List Part
  a = holder other (mentions_in s)

  d_at : d.at ≡ line_start s k.number
  d_at = at_is profile limit s other more d k

  -- ---- the end of the holder's body

  holder_clear : strip (changed_path path) a ≡ None
  holder_clear = prefix_clear (changed_path path) other a (map key (k.text ∷ k.more)) clear k.new

  end_now : IsEndGone now a n gone k.number
  end_now = ends.end_now profile limit s path c fine h a holder_clear k.number k.ends

  abbrev j : ℕ
  j = end_now.number

  closed_now : j ≤ length now.ended
  closed_now = ends.few_now profile limit s path c fine h k.number j end_now.moves k.closed

  newline_now : (0 < j) ⊎ (value_depth more ≡ 0)
  newline_now = elim k.newline [
    | inl some ↦ inl (elim end_now.moves [
      | inl to ↦ omega (arith, to.0, some)
      | inr from ↦ omega (arith, from.1)
    ])
    | inr flat ↦ inr flat
  ]

  at_now : line_start now j ≡ moved_by c d.at
  at_now = ends.at_now profile limit s path c fine h k.number j end_now.moves d beside d_at

  adds_now : newline_of now ≡ newline_of s → AddsLineStill profile limit s now other more (moved c d)
  adds_now same =
      adds_beside_said profile limit s (changed_path path) now (said_now profile limit s path c fine h) other more d k
      clear j end_now.ends closed_now c at_now same newline_now

pub insert_after_taken : InsertAfterTaken
insert_after_taken profile limit s path c other more d fine h k apart beside same =
    let is = gone_of.is_now profile limit s path c fine h in
    let clear : strip (changed_path path) other ≡ None =
    apart_clear profile limit s other more d k (changed_path path) apart in
    subst (λ (z : Document). AddsLineStill profile limit s z other more (moved c d)) (sym is)
    (adds_now profile limit s path c other more d fine h k clear beside (ap newline_of (sym is) ∙ same))
