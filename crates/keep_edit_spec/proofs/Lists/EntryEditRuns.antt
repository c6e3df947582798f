-- A run of edits goes on by an edit of an entry, as by the set of the value that holds it.
--
-- That set makes its change after the run (`later`), where the value's bytes are as before (`kept`). So the edit does
-- what the set does there (EntryEdits), and the run with the set is one with the edit.
--
-- Theorems: `entry_lawful`, `entry_still`, `run_goes_on_by_entry`.
use Rattle.std.proofs.Common.{ℕ, sym, subst}
use Rattle.keep_types.specs.declared.leaf.Profile.{Profile}
use Rattle.keep_syntax.specs.Tree.{Document, Value}
use Rattle.keep_path.specs.Path.{Part}
use Rattle.std.specs.Prelude.{All, List, ◌∷◌}
use Rattle.keep_edit_spec.specs.Edits.{Edit, append_element, append_table, insert, remove, rename, set}
use Rattle.keep_edit_spec.specs.EntryEdits.{RunGoesOnByEntry, MakesSet}
use Rattle.keep_edit_spec.specs.Laws.{IsEditable, IsLawfulEdit}
use Rattle.keep_edit_spec.specs.Runs.{IsRun, IsRunLonger}
use Rattle.keep_edit_spec.specs.SetValues.{SetsValue}
use Rattle.keep_edit_spec.specs.TextChanges.{IsBeside, TextChange, moved_past, with_change}
use Rattle.keep_edit_spec.proofs.EditLaws.{insert_lawful, remove_lawful, rename_lawful, set_lawful}
use Rattle.keep_edit_spec.proofs.Lists.EntryEdits.{of_itself, still_makes_set}
use Rattle.keep_edit_spec.proofs.Lists.MadeChanges.{within_text}
use Rattle.keep_edit_spec.proofs.Lists.RunLaws.{run_goes_on}
use Rattle.keep_edit_spec.proofs.Lists.TextsAfter.{IsTextAfter, of_run}

pub entry_lawful : (profile : Profile) (limit : ℕ) (s : Document) (e : Edit) (a : List Part) (value : Value)
    (c : TextChange)
    → IsEditable profile limit s → MakesSet profile limit s e a value c → IsLawfulEdit profile limit s e
entry_lawful profile limit s (insert path new) a value c fine h =
    insert_lawful profile limit s path new fine h.of_entry.given h.of_entry.utf8 h.allowed
entry_lawful profile limit s (remove path) a value c fine h = remove_lawful profile limit s path fine h.allowed
entry_lawful profile limit s (set path new) a value c fine h =
    set_lawful profile limit s path new fine h.of_entry.given h.allowed
entry_lawful profile limit s (rename path name) a value c fine h =
    rename_lawful profile limit s path name fine h.of_entry.utf8 h.allowed
entry_lawful profile limit s (append_table keys) a value c fine h = absurd h.of_entry
entry_lawful profile limit s (append_element keys) a value c fine h = absurd h.of_entry

-- After a run it makes what that set makes there.
pub entry_still : (profile : Profile) (limit : ℕ) (s : Document) (changes : List TextChange) (now : Document) (e : Edit)
    (a : List Part) (value : Value) (c : TextChange)
    → IsTextAfter profile limit s changes now → MakesSet profile limit s e a value c
    → All (λ x. IsBeside x c) changes → SetsValue profile limit now a value (moved_past changes c)
    → MakesSet profile limit now e a value (moved_past changes c)
entry_still profile limit s changes now e a value c r h beside is_now =
    still_makes_set profile limit s e a value c now e a (moved_past changes c) r.first r.editable h is_now
    (r.kept c beside (within_text profile limit s (set a value) c r.first h.sets))
    (of_itself profile limit s e a value c h)

pub run_goes_on_by_entry : RunGoesOnByEntry
run_goes_on_by_entry profile limit s edits changes lines now e a value c r h alone beside =
    let still : MakesSet profile limit now e a value (moved_past changes c) =
    entry_still profile limit s changes now e a value c (of_run profile limit s edits changes lines now r) h beside
    (r.later (set a value) c h.sets alone beside tt).0 in
    let longer : IsRunLonger profile limit s edits changes lines now (set a value) c =
    run_goes_on profile limit s edits changes lines now (set a value) c r h.sets alone beside tt in
    record {
      allowed = still.allowed;
      lawful = entry_lawful profile limit now e a value (moved_past changes c) r.editable still;
      run = subst (IsRun profile limit s (set a value ∷ edits) (with_change changes c) lines) (sym still.same)
          longer.run;
    }
