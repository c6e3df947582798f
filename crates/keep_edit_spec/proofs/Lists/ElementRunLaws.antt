-- Runs of edits of all kinds between which elements of arrays of tables, or tables, are removed: the laws of one edit
-- more, and of one element less.
--
-- The text goes on as that of any run (TextsAfter). After an edit more another makes its change as in RunLaws, and an
-- element is removed as it was before that edit, which is elsewhere than in its array (`removed_still`). So it is after
-- edits that are made at once, one after another (`removed_after`). After an element less an edit elsewhere makes its
-- change still, and a new line or header keeps its place as after any remove (`made_without`). Another element is
-- removed then as in HeaderRunLaws: where the edits are elsewhere, they are elsewhere than the path that it had before,
-- too (ElsewherePaths).
--
-- Theorems: `run_is_element_run`, `element_run_goes_on`, `element_run_goes_on_without`, `element_run_goes_on_by_entry`;
-- `header_puts`.
use Rattle.std.proofs.Common.{◌≡◌, ℕ, List, [], ◌∷◌, ◌++◌, refl, sym, ap, subst, arith, All, Some, inl}
use Rattle.std.proofs.lemmas.List.Elements.{All-head, All-pop, All-tail}
use Rattle.keep_types.specs.declared.leaf.Profile.{Profile}
use Rattle.keep_syntax.specs.Tree.{Document, text}
use Rattle.keep_path.specs.Path.{Part}
use Rattle.keep_edit_spec.specs.Changed.{put}
use Rattle.keep_edit_spec.specs.Edits.{Edit, edited_document, remove, set}
use Rattle.keep_edit_spec.specs.ElementRuns.{ElementRunGoesOn, ElementRunGoesOnByEntry, ElementRunGoesOnWithout}
use Rattle.keep_edit_spec.specs.ElementRuns.{IsElementRun, IsElementRunLonger, IsElsewhere, KeepsPlaceAmong}
use Rattle.keep_edit_spec.specs.ElementRuns.{RunIsElementRun, changed_path}
use Rattle.keep_edit_spec.specs.EntryEdits.{MakesSet}
use Rattle.keep_edit_spec.specs.InsertKinds.{Added}
use Rattle.keep_edit_spec.specs.Laws.{IsEditable}
use Rattle.keep_edit_spec.specs.RemovedHeaders.{RemovesHeader, first_path, path_before}
use Rattle.keep_edit_spec.specs.RunLists.{AreAtOnce, MadeEdit, changes_of, document_after, lines_of, seen_of}
use Rattle.keep_edit_spec.specs.Runs.{IsRun, IsSeenStill, LeavesAlone, MakesChange, seen, with_line}
use Rattle.keep_edit_spec.specs.TextChanges.{IsBeside, TextChange, moved_by_all, moved_past, with_change}
use Rattle.keep_edit_spec.proofs.EditLaws.{remove_lawful}
use Rattle.keep_edit_spec.proofs.Lists.BehindHeaders.{made_now}
use Rattle.keep_edit_spec.proofs.Lists.ElsewherePaths.{elsewhere_before}
use Rattle.keep_edit_spec.proofs.Lists.EntryEditRuns.{entry_lawful, entry_still}
use Rattle.keep_edit_spec.proofs.Lists.HeaderRunLaws.{first_with, header_allowed, header_place, header_still}
use Rattle.keep_edit_spec.proofs.Lists.HeaderRunLaws.{header_within}
use Rattle.keep_edit_spec.proofs.Lists.MadeChanges.{change_allowed, change_lawful}
use Rattle.keep_edit_spec.proofs.Lists.PlacesBefore.{among_before, among_with_remove, keeps_place}
use Rattle.keep_edit_spec.proofs.Lists.PlacesKept.{IsPlacedChange, still_placed}
use Rattle.keep_edit_spec.proofs.Lists.RunLaws.{later_still, lines_before, same_seen, seen_on, text_with_edit}
use Rattle.keep_edit_spec.proofs.Lists.RunLists.{run_is_known}
use Rattle.keep_edit_spec.proofs.Lists.StillRemovesHeader.{header_has_bytes}
use Rattle.keep_edit_spec.proofs.Lists.StillWithout.{still_makes_without, still_removes_after}
use Rattle.keep_edit_spec.proofs.Lists.TextChanges.{beside_past, moved_with, one_of_all, rest_of_all}
use Rattle.keep_edit_spec.proofs.Lists.TextsAfter.{IsTextAfter, PutsChange, of_element_run, of_run, text_goes_on}

-- ---- one edit more

-- What is removed after a run is removed after an edit elsewhere that comes then, too.
removed_still : (profile : Profile) (limit : ℕ) (s : Document) (changes : List TextChange) (now : Document) (e : Edit)
    (c : TextChange) → IsTextAfter profile limit s changes now → All (λ x. IsBeside x c) changes
    → MakesChange profile limit now e (moved_past changes c) → seen now e ≡ seen s e
    → (path : List Part) (d : TextChange) → RemovesHeader profile limit now path (moved_past changes d)
    → IsElsewhere (changed_path path) (seen s e) → All (λ x. IsBeside x d) (with_change changes c)
    → RemovesHeader profile limit (edited_document now e) path (moved_past (with_change changes c) d)
removed_still profile limit s changes now e c r beside is_now same path d removes elsewhere beside' =
    let others : All (λ x. IsBeside x d) changes = rest_of_all (λ x. IsBeside x d) changes c beside' in
    let one : IsBeside c d = one_of_all (λ x. IsBeside x d) changes c beside' in
    subst (RemovesHeader profile limit (edited_document now e) path)
    (sym (moved_with changes c d r.follow beside others one))
    (still_removes_after profile limit now e (moved_past changes c) path (moved_past changes d) r.editable is_now
    removes (subst (IsElsewhere (changed_path path)) (sym same) elsewhere)
    (beside_past changes c d r.follow beside others one))

pub element_run_goes_on : ElementRunGoesOn
element_run_goes_on profile limit s edits changes lines gone now e c r makes alone elsewhere beside placed =
    let (is_now, seen_now) = r.later e c makes alone elsewhere beside placed in
    let before : IsTextAfter profile limit s changes now =
    of_element_run profile limit s edits changes lines now gone r in
    let after : IsTextAfter profile limit s (with_change changes c) (edited_document now e) =
    text_with_edit profile limit s edits changes lines now e c before makes beside is_now seen_now in
    record {
      allowed = change_allowed profile limit now e (moved_past changes c) is_now;
      lawful = change_lawful profile limit now e (moved_past changes c) r.editable is_now;
      run = record {
        first = after.first;
        editable = after.editable;
        follow = after.follow;
        text = after.text;
        kept = after.kept;
        later = λ f d makes' alone' elsewhere' beside' placed'.
            let (makes_now, seen_there) =
            r.later f d makes' (All-tail (λ x. LeavesAlone x (seen s f)) (seen s e) edits alone') elsewhere'
            (rest_of_all (λ x. IsBeside x d) changes c beside')
            (among_before s (seen s e ∷ edits) edits (λ P. All-tail P (seen s e) edits) (with_line s e c lines) lines
            (λ P. lines_before P s e c lines) changes c f d placed') in
            later_still profile limit s edits changes lines now e c before makes beside is_now seen_now f d makes_now
            seen_there (All-head (λ x. LeavesAlone x (seen s f)) (seen s e) edits alone') beside'
            (keeps_place s (seen s e ∷ edits) (with_change changes c) (with_line s e c lines) f d placed');
        removes = λ path d removes' elsewhere' beside'.
            removed_still profile limit s changes now e c before beside is_now (same_seen s now e seen_now) path d
            (r.removes path d removes' (All-tail (IsElsewhere (changed_path path)) (seen s e) edits elsewhere')
            (rest_of_all (λ x. IsBeside x d) changes c beside'))
            (All-head (IsElsewhere (changed_path path)) (seen s e) edits elsewhere') beside';
      };
    }

-- ---- edits that are made at once

module _ (profile : Profile) (limit : ℕ) (s : Document) (fine : IsEditable profile limit s) where
  removed_after : (ms : List MadeEdit) → AreAtOnce profile limit s ms → (path : List Part) (d : TextChange)
      → RemovesHeader profile limit s path d → All (IsElsewhere (changed_path path)) (seen_of s ms)
      → All (λ x. IsBeside x d) (changes_of ms)
      → RemovesHeader profile limit (document_after s ms) path (moved_past (changes_of ms) d)
  removed_after [] h path d removes elsewhere beside =
      subst (λ (at : ℕ). RemovesHeader profile limit s path (record d { at = at }))
      (let same : d.at ≡ moved_by_all [] d.at = omega arith in same) removes
  removed_after (m ∷ ms) (makes, (alone, (beside, others))) path d removes elsewhere beside' =
      let changes : List TextChange = changes_of ms in
      let now : Document = document_after s ms in
      let r : IsRun profile limit s (seen_of s ms) changes (lines_of s ms) now =
      run_is_known profile limit s ms fine others in
      let (is_now, same) = made_now profile limit s m ms fine (makes, (alone, (beside, others))) in
      removed_still profile limit s changes now m.edit m.change
      (of_run profile limit s (seen_of s ms) changes (lines_of s ms) now r) beside is_now same path d
      (removed_after ms others path d removes
      (All-tail (IsElsewhere (changed_path path)) (seen s m.edit) (seen_of s ms) elsewhere)
      (rest_of_all (λ x. IsBeside x d) changes m.change beside'))
      (All-head (IsElsewhere (changed_path path)) (seen s m.edit) (seen_of s ms) elsewhere) beside'

pub run_is_element_run : RunIsElementRun
run_is_element_run profile limit s ms fine h =
    let edits : List Edit = seen_of s ms in
    let r : IsRun profile limit s edits (changes_of ms) (lines_of s ms) (document_after s ms) =
    run_is_known profile limit s ms fine h in
    record {
      first = r.first;
      editable = r.editable;
      follow = r.follow;
      text = r.text;
      kept = r.kept;
      later = λ e c makes alone elsewhere beside placed.
          r.later e c makes alone beside (keeps_place s edits (changes_of ms) (lines_of s ms) e c placed);
      removes = removed_after profile limit s fine ms h;
    }

-- ---- one element less

-- a remove of a header, as an edit of the text
pub header_puts : (profile : Profile) (limit : ℕ) (s : Document) (path : List Part) (c : TextChange)
    → IsEditable profile limit s → RemovesHeader profile limit s path c → PutsChange profile limit s (remove path) c
header_puts profile limit s path c fine h = record {
  within = header_within profile limit s path c h;
  lawful = remove_lawful profile limit s path fine (header_allowed profile limit s path c h);
  puts = ap (put (text s)) (header_place profile limit s path c h);
}

-- it takes bytes, whatever path it has later
header_placed : (profile : Profile) (limit : ℕ) (s : Document) (path : List Part) (c : TextChange)
    → IsEditable profile limit s → RemovesHeader profile limit s path c → (later : List Part)
    → IsPlacedChange s (remove later) c
header_placed profile limit s path c fine h later = record {
  within = header_within profile limit s path c h;
  takes = λ other. inl (header_has_bytes profile limit s path c fine h);
}

module _ (profile : Profile) (limit : ℕ) (s : Document) (edits : List Edit) (changes : List TextChange)
    (lines : List Added) (now : Document) (path : List Part) (c : TextChange)
    (r : IsTextAfter profile limit s changes now) (placed : IsPlacedChange s (remove path) c)
    (beside : All (λ x. IsBeside x c) changes)
    (is_now : RemovesHeader profile limit now path (moved_past changes c)) where
  text_without : IsTextAfter profile limit s (with_change changes c) (edited_document now (remove path))
  text_without =
      text_goes_on profile limit s changes now (remove path) c r placed.within beside
      (header_puts profile limit now path (moved_past changes c) r.editable is_now)

  -- What is made after the run elsewhere is made after the remove, too.
  made_without : (f : Edit) (d : TextChange) → MakesChange profile limit now f (moved_past changes d)
      → IsSeenStill s now f → IsElsewhere (changed_path path) (seen s f)
      → All (λ x. IsBeside x d) (with_change changes c)
      → KeepsPlaceAmong s edits (with_change changes c) lines f d
      → MakesChange profile limit (edited_document now (remove path)) f (moved_past (with_change changes c) d)
      × IsSeenStill s (edited_document now (remove path)) f
  made_without f d makes_now seen_there elsewhere beside' keeps =
      let all : List TextChange = with_change changes c in
      let others : All (λ x. IsBeside x d) changes = rest_of_all (λ x. IsBeside x d) changes c beside' in
      let one : IsBeside c d = one_of_all (λ x. IsBeside x d) changes c beside' in
      let (still, same) =
      still_makes_without profile limit now path (moved_past changes c) f (moved_past changes d) r.editable is_now
      makes_now (subst (IsElsewhere (changed_path path)) (sym (same_seen s now f seen_there)) elsewhere)
      (beside_past changes c d r.follow beside others one)
      (still_placed profile limit s edits changes lines now r (remove path) c f d placed tt seen_there beside others
      one text_without
      (keeps_place s (remove path ∷ edits) all lines f d (among_with_remove s edits all lines path f d keeps))) in (
        subst (MakesChange profile limit (edited_document now (remove path)) f)
            (sym (moved_with changes c d r.follow beside others one)) still,
        seen_on s now (edited_document now (remove path)) f seen_there same,
      )

pub element_run_goes_on_without : ElementRunGoesOnWithout
element_run_goes_on_without profile limit s edits changes lines gone now path c r removes elsewhere beside =
    let is_now : RemovesHeader profile limit now path (moved_past changes c) =
    r.removes path c removes elsewhere beside in
    let before : IsTextAfter profile limit s changes now =
    of_element_run profile limit s edits changes lines now gone r in
    let placed : IsPlacedChange s (remove path) c =
    header_placed profile limit s (first_path gone path) c r.first removes path in
    let after : IsTextAfter profile limit s (with_change changes c) (edited_document now (remove path)) =
    text_without profile limit s edits changes lines now path c before placed beside is_now in
    record {
      allowed = header_allowed profile limit now path (moved_past changes c) is_now;
      lawful = (header_puts profile limit now path (moved_past changes c) r.editable is_now).lawful;
      run = record {
        first = after.first;
        editable = after.editable;
        follow = after.follow;
        text = after.text;
        kept = after.kept;
        later = λ f d makes alone elsewhere' beside' keeps.
            let others : All (λ x. IsBeside x d) changes = rest_of_all (λ x. IsBeside x d) changes c beside' in
            let apart =
            All-pop (λ q. IsElsewhere (changed_path q) (seen s f)) (gone ++ path ∷ []) gone (Some path) refl
            elsewhere' in
            let (makes_now, seen_there) =
            r.later f d makes alone apart.0 others
            (among_before s edits edits (λ P h. h) lines lines (λ P h. h) changes c f d keeps) in
            made_without profile limit s edits changes lines now path c before placed beside is_now f d makes_now
            seen_there apart.1 beside' keeps;
        removes = λ other d removes' elsewhere' beside'.
            header_still profile limit changes now path c r.editable r.follow is_now beside other d
            (r.removes (path_before path other) d
            (subst (λ (q : List Part). RemovesHeader profile limit s q d) (first_with gone path other) removes')
            (elsewhere_before path other edits elsewhere elsewhere')
            (rest_of_all (λ x. IsBeside x d) changes c beside')) beside';
      };
    }

-- ---- an edit of an entry

pub element_run_goes_on_by_entry : ElementRunGoesOnByEntry
element_run_goes_on_by_entry profile limit s edits changes lines gone now e a value c r h alone elsewhere beside =
    let still : MakesSet profile limit now e a value (moved_past changes c) =
    entry_still profile limit s changes now e a value c
    (of_element_run profile limit s edits changes lines now gone r) h beside
    (r.later (set a value) c h.sets alone elsewhere beside tt).0 in
    let longer : IsElementRunLonger profile limit s edits changes lines gone now (set a value) c =
    element_run_goes_on profile limit s edits changes lines gone now (set a value) c r h.sets alone elsewhere beside tt
    in
    record {
      allowed = still.allowed;
      lawful = entry_lawful profile limit now e a value (moved_past changes c) r.editable still;
      run = subst (IsElementRun profile limit s (set a value ∷ edits) (with_change changes c) lines gone)
          (sym still.same) longer.run;
    }
