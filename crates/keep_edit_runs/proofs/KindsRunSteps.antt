-- A run of edits of several kinds, as far as it is gone through, and one edit more of those that do not come at the end
-- of the text.
--
-- What such an edit does to the run is one of four things: it makes its own change, also in the place of what another
-- takes, does again what another did, or removes an element. For each the steps of ElementSteps, InPlaceSteps and
-- AgainSteps tell that the edits up to it are made.
--
-- Theorems: `run_begins`: no edits; `adds_one`, `adds_in_place`, `puts_one`, `takes_one`: one more.
use Rattle.std.proofs.Common.{[], ◌≡◌, ◌<◌, ℕ, suc, All, List, length, get_or, inl, inr, refl, subst}
use Rattle.std.proofs.Common.{subst₂, sym}
use Rattle.std.specs.Prelude.{Bool, true}
use Rattle.keep_edit_spec.specs.TextChanges.{TextChange}
use Rattle.keep_edit_plan.specs.declared.edit.Edit.{Edit}
use Rattle.keep_edit_runs.specs.GoneBetween.{AreElsewhere}
use Rattle.keep_edit_plan.specs.TextEdits.{change_of}
use Rattle.keep_edit_runs.specs.KindsRun.{AddsInPlace, AddsOne, PutsOne, StartsAt, TakesOne}
use Rattle.keep_edit_runs.specs.Runs.{IsAddedInOrder}
use Rattle.keep_edit_plan.specs.Reading.{ProfiledText}
use Rattle.keep_edit_runs.specs.SeenPaths.{IsSeen}
use Rattle.keep_edit_runs.specs.declared.added_lines.AddedLines.{AddedLines}
use Rattle.keep_edit_runs.specs.declared.gone_between.GoneBetween.{GoneBetween}
use Rattle.keep_edit_runs.specs.declared.kinds_run.KindsRun.{KindsRun}
use Rattle.keep_edit_runs.specs.declared.outline.Outline.{Outline}
use Rattle.keep_edit_runs.proofs.AgainSteps.{made_once_more}
use Rattle.keep_edit_runs.proofs.AheadSteps.{more_ahead}
use Rattle.keep_edit_runs.proofs.ElementSteps.{AreMadeAmong, less_among, more_among, none_gone, placed_too}
use Rattle.keep_edit_runs.proofs.FollowSteps.{more_following}
use Rattle.keep_edit_runs.proofs.InPlaceSteps.{more_before, more_in_place}
use Rattle.keep_edit_runs.proofs.RunSteps.{IsPlaced, no_changes}

-- the edits up to this number are made by the run's changes, before what comes at the end of the text
abbrev pub AreBaseIn : List Edit → ℕ → ℕ → ProfiledText → KindsRun → Type 0
AreBaseIn edits first end now run =
    AreMadeAmong edits first end now run.so_far.outlines.items run.so_far.changes run.lines run.gone

-- ---- one more

-- in place of the parts of a run those that are the same
made_as : (edits : List Edit) (first end : ℕ) (now : ProfiledText)
    → {outlines os : List Outline} {changes cs : List TextChange} {adds lines : AddedLines} {gone away : GoneBetween}
    → AreMadeAmong edits first end now outlines changes adds gone → os ≡ outlines → cs ≡ changes → lines ≡ adds
    → away ≡ gone → AreMadeAmong edits first end now os cs lines away
made_as edits first end now {outlines} {os} {changes} {cs} {adds} {lines} {gone} {away} so_far o c l g =
    subst₂ (λ (l : AddedLines) (g : GoneBetween). AreMadeAmong edits first end now os cs l g) (sym l) (sym g)
    (subst₂ (λ (os : List Outline) (cs : List TextChange). AreMadeAmong edits first end now os cs adds gone) (sym o)
    (sym c) so_far)

module _ (edits : List Edit) (first end : ℕ) (now : ProfiledText) (old new : KindsRun)
    (so_far : AreBaseIn edits first end now old) (lt : end < length edits) (d x : Edit)
    (here : get_or edits end d ≡ x) where
  pub adds_one : AddsOne now old x new → AreBaseIn edits first (suc end) now new
  adds_one h = by h.added.0 h.added.1.0 h.added.1.1
    where
      placed_here : IsPlaced old.so_far.outlines.items now old.so_far.changes h.outline (change_of h.change).at
      placed_here =
          placed_too old.so_far.outlines.items now old.so_far.changes h.outline (change_of h.change).at h.placed

      by : (alone : Bool) → (alone ≡ true → old.gone.arrays.items ≡ [])
          → IsAddedInOrder now x old.lines old.so_far.changes h.outline (change_of h.change) h.line alone new.lines
          new.so_far.changes
          → AreBaseIn edits first (suc end) now new
      by alone empties (inl behind) =
          made_as edits first (suc end) now
          (more_among edits first end now old.so_far.outlines.items old.so_far.changes old.lines new.lines old.gone d x
          h.outline h.change h.line so_far lt here h.makes h.alone.edits h.alone.elsewhere
          behind.beside h.placed behind.kept behind.ends)
          h.outlines behind.changes_are refl h.gone
      by alone empties (inr (sure, inl ahead)) =
          let (no_elements, none) = so_far.none (empties sure) in
          made_as edits first (suc end) now
          (none_gone edits first (suc end) now _ new.so_far.changes new.lines old.gone
          (more_ahead edits first end now old.so_far.outlines.items old.so_far.changes new.so_far.changes old.lines
          new.lines d x h.outline h.change h.line none lt here h.makes h.alone.edits placed_here ahead)
          (empties sure) no_elements)
          h.outlines refl refl h.gone
      by alone empties (inr (sure, inr (inr before))) =
          let (no_elements, none) = so_far.none (empties sure) in
          made_as edits first (suc end) now
          (none_gone edits first (suc end) now _ new.so_far.changes new.lines old.gone
          (more_before edits first end now old.so_far.outlines.items old.so_far.changes new.so_far.changes old.lines
          new.lines d x h.outline h.change h.line none lt here h.makes h.alone.edits placed_here before)
          (empties sure) no_elements)
          h.outlines refl refl h.gone
      by alone empties (inr (sure, inr (inl follows))) =
          let (no_elements, none) = so_far.none (empties sure) in
          made_as edits first (suc end) now
          (none_gone edits first (suc end) now _ new.so_far.changes new.lines old.gone
          (more_following edits first end now old.so_far.outlines.items old.so_far.changes new.so_far.changes old.lines
          new.lines d x h.outline h.change h.line none lt here h.makes h.alone.edits placed_here follows)
          (empties sure) no_elements)
          h.outlines refl refl h.gone

  pub adds_in_place : AddsInPlace now old x new → AreBaseIn edits first (suc end) now new
  adds_in_place h =
      let (no_elements, none) = so_far.none h.none in
      made_as edits first (suc end) now
      (none_gone edits first (suc end) now _ new.so_far.changes new.lines old.gone
      (more_in_place edits first end now old.so_far.outlines.items old.so_far.changes new.so_far.changes old.lines
      new.lines d x h.outline h.first h.change none lt here h.makes h.is h.alone.edits h.newline h.freed h.added)
      h.none no_elements)
      h.outlines refl refl h.gone

  pub puts_one : All (IsSeen old.paths) old.so_far.outlines.items → PutsOne now old x new
      → AreBaseIn edits first (suc end) now new
  puts_one seen h =
      let (no_elements, none) = so_far.none h.none in
      made_as edits first (suc end) now
      (none_gone edits first (suc end) now _ new.so_far.changes old.lines old.gone
      (made_once_more edits first end now old.so_far.outlines.items old.so_far.changes new.so_far.changes old.lines d x
      h.again (IsSeen old.paths) none lt here h.is h.does.allowed h.does.lets seen h.does.put)
      h.none no_elements)
      h.does.outlines refl h.does.lines h.does.gone

  pub takes_one : TakesOne now old x new → AreBaseIn edits first (suc end) now new
  takes_one h =
      let takes = h.takes in
      made_as edits first (suc end) now
      (less_among edits first end now old.so_far.outlines.items old.so_far.changes old.lines old.gone new.gone d x
      takes.change so_far lt here takes.removes takes.arrays
      (subst (AreElsewhere new.gone.arrays.items) h.outlines h.elsewhere) takes.beside)
      h.outlines takes.changes h.lines refl

-- ---- none yet

pub run_begins : (edits : List Edit) (first : ℕ) (now : ProfiledText) (run : KindsRun) → StartsAt now run
    → AreBaseIn edits first first now run
run_begins edits first now run h =
    made_as edits first first now
    (none_gone edits first first now [] [] run.lines run.gone (no_changes edits first now run.lines h.brought h.counts)
    h.arrays h.elements)
    h.outlines h.changes refl refl
