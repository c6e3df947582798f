-- Runs of edits that are known by the document before them: the law of one more.
--
-- What `later` says of one edit is that of the first document, where the changes move its own. So the edit is not
-- refused, and the text has the change put in there (`text_with_edit`). An edit that it leaves alone, and that makes a
-- change beside it, makes it still (StillMakes), moved once more (`moved_with`): `later_still`. Both are seen after the
-- run as they were seen before it. A new line or header keeps its place (PlacesKept), and kept it before that edit
-- (PlacesBefore).
--
-- Theorems: `none_is_run`, `run_goes_on`; `text_with_edit`, `later_still`: an edit that makes its change after a run,
-- and another after it; `text_with_change`, `later_placed`: where it is known to be placed; `seen_here`, `seen_on`,
-- `same_seen`: as others see an edit; `lines_before`.
use Rattle.std.proofs.Common.{◌≡◌, ℕ, List, [], ◌∷◌, refl, sym, ap, subst, subst₂, ◌∙◌, arith, All, take, drop}
use Rattle.std.proofs.lemmas.List.Elements.{All-head, All-tail}
use Rattle.keep_types.specs.declared.leaf.Profile.{Profile}
use Rattle.keep_syntax.specs.Tree.{Document, text}
use Rattle.keep_path.specs.Path.{Part}
use Rattle.keep_edit_spec.specs.InsertKinds.{Added, added_as}
use Rattle.keep_edit_spec.specs.Edits.{Edit, append_element, append_table, edited_document, insert, remove, rename, set}
use Rattle.keep_edit_spec.specs.Runs.{IsSeenStill, IsStillPlaced, KeepsPlace, LeavesAlone, MakesChange, NoneIsRun}
use Rattle.keep_edit_spec.specs.Runs.{RunGoesOn, seen, with_line}
use Rattle.keep_edit_spec.specs.TextChanges.{IsBeside, TextChange, moved_by_all, moved_past, with_change}
use Rattle.keep_edit_spec.proofs.Lists.TextChanges.{beside_past, moved_with, one_of_all, rest_of_all}
use Rattle.keep_edit_spec.proofs.Lists.MadeChanges.{change_allowed, change_is_there}
use Rattle.keep_edit_spec.proofs.Lists.StillMakes.{still_makes}
use Rattle.keep_edit_spec.proofs.Lists.TextsAfter.{IsTextAfter, made_puts, of_run, text_goes_on}
use Rattle.keep_edit_spec.proofs.Lists.PlacesBefore.{placed_before}
use Rattle.keep_edit_spec.proofs.Lists.PlacesKept.{IsPlacedChange, change_placed, still_placed}

-- ---- as others see an edit

pub seen_here : (s : Document) (e : Edit) → IsSeenStill s s e
seen_here s (insert path value) = (refl, refl)
seen_here s (set path value) = tt
seen_here s (rename path name) = tt
seen_here s (remove path) = tt
seen_here s (append_table keys) = tt
seen_here s (append_element keys) = tt

pub seen_on : (s now then : Document) (e : Edit) → IsSeenStill s now e → IsSeenStill now then e → IsSeenStill s then e
seen_on s now then (insert path value) h k = (k.0 ∙ h.0, k.1 ∙ h.1)
seen_on s now then (set path value) h k = tt
seen_on s now then (rename path name) h k = tt
seen_on s now then (remove path) h k = tt
seen_on s now then (append_table keys) h k = tt
seen_on s now then (append_element keys) h k = tt

pub same_seen : (s now : Document) (e : Edit) → IsSeenStill s now e → seen now e ≡ seen s e
same_seen s now (insert path value) h = ap (λ (p : List Part). insert p value) h.0
same_seen s now (set path value) h = refl
same_seen s now (rename path name) h = refl
same_seen s now (remove path) h = refl
same_seen s now (append_table keys) h = refl
same_seen s now (append_element keys) h = refl

-- what holds of all lines holds of those before the last edit
pub lines_before : (P : Added → Type 0) (s : Document) (e : Edit) (c : TextChange) (lines : List Added)
    → All P (with_line s e c lines) → All P lines
lines_before P s (insert path value) c lines h = All-tail P (added_as s path c) lines h
lines_before P s (set path value) c lines h = h
lines_before P s (rename path name) c lines h = h
lines_before P s (remove path) c lines h = h
lines_before P s (append_table keys) c lines h = h
lines_before P s (append_element keys) c lines h = h

-- ---- a run

pub none_is_run : NoneIsRun
none_is_run profile limit s editable = record {
  first = editable;
  editable = editable;
  follow = tt;
  text = refl;
  kept = λ z beside few. ap (λ (at : ℕ). take z.size (drop at (text s))) (omega arith);
  later = λ e c makes alone beside placed. (
    subst (λ (at : ℕ). MakesChange profile limit s e (record c { at = at }))
        (let same : c.at ≡ moved_by_all [] c.at = omega arith in same) makes,
    seen_here s e,
  );
}

-- ---- one more

-- an edit that makes its change after a run, where it changes the first text
module _ (profile : Profile) (limit : ℕ) (s : Document) (changes : List TextChange) (now : Document) (e : Edit)
    (c : TextChange) (r : IsTextAfter profile limit s changes now) (there : IsPlacedChange s e c)
    (beside : All (λ d. IsBeside d c) changes) (is_now : MakesChange profile limit now e (moved_past changes c)) where
  pub text_with_change : IsTextAfter profile limit s (with_change changes c) (edited_document now e)
  text_with_change =
      text_goes_on profile limit s changes now e c r there.within beside
      (made_puts profile limit now e (moved_past changes c) r.editable is_now)

  -- another that makes its change after the run does so after this one, too, if it is placed still
  pub later_placed : (f : Edit) (d : TextChange) → seen now e ≡ seen s e
      → MakesChange profile limit now f (moved_past changes d)
      → seen now f ≡ seen s f → LeavesAlone (seen s e) (seen s f) → All (λ x. IsBeside x d) (with_change changes c)
      → IsStillPlaced now e (moved_past changes c) f (moved_past changes d)
      → MakesChange profile limit (edited_document now e) f (moved_past (with_change changes c) d)
      × IsSeenStill now (edited_document now e) f
  later_placed f d same_e makes_now same_f alone beside' placed =
      let others : All (λ x. IsBeside x d) changes = rest_of_all (λ x. IsBeside x d) changes c beside' in
      let one : IsBeside c d = one_of_all (λ x. IsBeside x d) changes c beside' in
      let left : LeavesAlone (seen now e) (seen now f) =
      subst₂ (λ (a b : Edit). LeavesAlone a b) (sym same_e) (sym same_f) alone in
      let (still, same) =
      still_makes profile limit now e (moved_past changes c) f (moved_past changes d) r.editable is_now makes_now
      left (beside_past changes c d r.follow beside others one) placed in (
        subst (MakesChange profile limit (edited_document now e) f)
            (sym (moved_with changes c d r.follow beside others one)) still,
        same,
      )

-- and as before it
module _ (profile : Profile) (limit : ℕ) (s : Document) (edits : List Edit) (changes : List TextChange)
    (lines : List Added) (now : Document) (e : Edit) (c : TextChange) (r : IsTextAfter profile limit s changes now)
    (makes : MakesChange profile limit s e c) (beside : All (λ d. IsBeside d c) changes)
    (is_now : MakesChange profile limit now e (moved_past changes c)) (seen_now : IsSeenStill s now e) where
  there : IsPlacedChange s e c
  there = change_placed profile limit s e c r.first makes

  pub text_with_edit : IsTextAfter profile limit s (with_change changes c) (edited_document now e)
  text_with_edit = text_with_change profile limit s changes now e c r there beside is_now

  -- another that makes its change after the run does so after this one, too
  pub later_still : (f : Edit) (d : TextChange) → MakesChange profile limit now f (moved_past changes d)
      → IsSeenStill s now f → LeavesAlone (seen s e) (seen s f) → All (λ x. IsBeside x d) (with_change changes c)
      → KeepsPlace s (seen s e ∷ edits) (with_change changes c) (with_line s e c lines) f d
      → MakesChange profile limit (edited_document now e) f (moved_past (with_change changes c) d)
      × IsSeenStill s (edited_document now e) f
  later_still f d makes_now seen_there alone beside' placed =
      let (still, same) =
      later_placed profile limit s changes now e c r there beside is_now f d (same_seen s now e seen_now) makes_now
      (same_seen s now f seen_there) alone beside'
      (still_placed profile limit s edits changes lines now r e c f d there seen_now seen_there beside
      (rest_of_all (λ x. IsBeside x d) changes c beside') (one_of_all (λ x. IsBeside x d) changes c beside')
      text_with_edit placed) in
      (still, seen_on s now (edited_document now e) f seen_there same)

pub run_goes_on : RunGoesOn
run_goes_on profile limit s edits changes lines now e c r makes alone beside placed =
    let (is_now, seen_now) = r.later e c makes alone beside placed in
    let before : IsTextAfter profile limit s changes now = of_run profile limit s edits changes lines now r in
    let after : IsTextAfter profile limit s (with_change changes c) (edited_document now e) =
    text_with_edit profile limit s edits changes lines now e c before makes beside is_now seen_now in
    record {
      allowed = change_allowed profile limit now e (moved_past changes c) is_now;
      is = change_is_there profile limit now e (moved_past changes c) r.editable is_now;
      run = record {
        first = after.first;
        editable = after.editable;
        follow = after.follow;
        text = after.text;
        kept = after.kept;
        later = λ f d makes' alone' beside' placed'.
            let others : All (λ x. IsBeside x d) changes = rest_of_all (λ x. IsBeside x d) changes c beside' in
            let (makes_now, seen_there) =
            r.later f d makes' (All-tail (λ x. LeavesAlone x (seen s f)) (seen s e) edits alone') others
            (placed_before s (seen s e ∷ edits) edits (λ P. All-tail P (seen s e) edits) (with_line s e c lines) lines
            (λ P. lines_before P s e c lines) changes c f d placed') in
            later_still profile limit s edits changes lines now e c before makes beside is_now seen_now f d makes_now
            seen_there (All-head (λ x. LeavesAlone x (seen s f)) (seen s e) edits alone') beside' placed';
      };
    }
