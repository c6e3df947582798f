-- Edits of one text, and what changes of the text they are.
use Rattle.std.specs.Prelude.{◌≡◌, ◌+◌, ◌-◌, ◌<◌, ◌≤◌, ◌++◌, ◌∷◌, [], ℕ, All, List, None, IsCharBoundary, false, true}
use Rattle.std.specs.Prelude.{insert, length, string_bytes, take}
use Rattle.keep_syntax.specs.Tree.{Document, Value, text}
use Rattle.keep_path.specs.Path.{Part}
use Rattle.keep_meaning.specs.Meaning.{mentions_in}
use Rattle.keep_meaning.specs.Nodes.{fact_at}
use Rattle.keep_edit_spec.specs.Edits as law
use Rattle.keep_edit_spec.specs.Edits.{edited_document, place}
use Rattle.keep_edit_spec.specs.EntryEdits.{CanHold, MakesSet}
use Rattle.keep_edit_spec.specs.LinesInPlace.{FreesPlace}
use Rattle.keep_edit_spec.specs.Refusals.{refusal}
use Rattle.keep_edit_spec.specs.Runs.{MakesChange, takes_up_to}
use Rattle.keep_edit_spec.specs.SetValues.{SetsValue}
use Rattle.keep_edit_spec.specs.TextChanges.{IsBeside, TextChange, change_at, text_with, with_change}
use Rattle.keep_edit_plan.specs.Answers.{IsMadeAt, IsSpanOf}
use Rattle.keep_edit_plan.specs.Given.{IsEdit}
use Rattle.keep_edit_plan.specs.Reading.{IsTextOfTree, ProfiledText, limit}
use Rattle.keep_edit_plan.specs.declared.edit.Edit.{Edit}
use Rattle.keep_edit_plan.specs.declared.text_edit.TextEdit.{TextEdit}

-- what an edit changes of a text
abbrev pub change_of : TextEdit → TextChange
change_of t = change_at t.place.start (t.place.end - t.place.start) (string_bytes t.new)

abbrev pub IsOrdered : TextEdit → Type 0
IsOrdered t = t.place.start ≤ t.place.end

-- a change from character to character of this text
pub record IsChangeIn (bytes : List ℕ) (c : TextChange) : Type 0 where
  pub starts : IsCharBoundary bytes c.at
  pub ends : IsCharBoundary bytes (c.at + c.size)

-- one of the changes
pub record HasChange (changes : List TextChange) (c : TextChange) : Type 0 where
  pub before : List TextChange
  pub after : List TextChange
  pub is : changes ≡ before ++ c ∷ after

-- one of the changes, which takes the byte before this one, and no other does
pub record TakesAlone (at : ℕ) (changes : List TextChange) (c : TextChange) : Type 0 where
  pub before : List TextChange
  pub after : List TextChange
  pub is : changes ≡ before ++ c ∷ after
  pub takes : takes_up_to at c ≡ true
  pub earlier : All (λ d. takes_up_to at d ≡ false) before
  pub later : All (λ d. takes_up_to at d ≡ false) after

-- One of the changes frees the place at this byte, where the others are made.
pub record IsFreed (bytes : List ℕ) (changes : List TextChange) (at : ℕ) : Type 0 where
  pub before : List TextChange
  pub c : TextChange
  pub after : List TextChange
  pub is : changes ≡ before ++ c ∷ after
  pub frees : FreesPlace bytes (before ++ after) c at

-- the text with the changes before the one with this number, up to where that begins
abbrev pub IsTextBefore : List ℕ → List TextChange → ℕ → List ℕ → Type 0
IsTextBefore bytes changes number new =
    (before : List TextChange) (c : TextChange) (after : List TextChange) → changes ≡ before ++ c ∷ after
    → length before ≡ number → new ≡ text_with 0 (take c.at bytes) before

-- The change overlaps none of these, and has this number among them.
pub record HasRoom (changes : List TextChange) (c : TextChange) (n : ℕ) : Type 0 where
  pub beside : All (λ d. IsBeside d c) changes
  pub within : n ≤ length changes
  pub is : with_change changes c ≡ insert changes n c

-- the change comes in the place of one that takes the same bytes
pub record IsReplaced (old : List TextChange) (d : TextChange) (new : List TextChange) : Type 0 where
  pub before : List TextChange
  pub gone : TextChange
  pub after : List TextChange
  pub was : old ≡ before ++ gone ∷ after
  pub is : new ≡ before ++ d ∷ after
  pub at : gone.at ≡ d.at
  pub size : gone.size ≡ d.size

-- the change comes beside all others, right before the last ones that begin where it does, so many
pub record IsPutAhead (old : List TextChange) (c : TextChange) (count : ℕ) (new : List TextChange) : Type 0 where
  pub before : List TextChange
  pub behind : List TextChange
  pub after : List TextChange
  pub was : old ≡ before ++ behind ++ after
  pub many : length behind ≡ count
  pub at : All (λ d. d.at ≡ c.at) behind
  pub later : All (λ d. c.at < d.at) after
  pub is : new ≡ before ++ c ∷ behind ++ after
  pub beside : All (λ d. IsBeside d c) old

-- the change d is where c was
pub record HasInstead (old : List TextChange) (c d : TextChange) (new : List TextChange) : Type 0 where
  pub before : List TextChange
  pub after : List TextChange
  pub was : old ≡ before ++ c ∷ after
  pub is : new ≡ before ++ d ∷ after

-- The edit makes this change of the document of this text, as it does in a run.
pub record MakesChangeHere (now : ProfiledText) (x : Edit) (t : TextEdit) : Type 0 where
  pub edit : law.Edit
  pub is : IsEdit x edit
  pub makes : (s : Document) → IsTextOfTree now s → MakesChange now.profile limit s edit (change_of t)
  pub within : IsSpanOf now.text t.place

-- It is of the edit's place, and the edit is not refused.
pub record IsPlannedHere (now : ProfiledText) (x : Edit) (t : TextEdit) : Type 0 where
  pub edit : law.Edit
  pub is : IsEdit x edit
  pub planned : (s : Document) → IsTextOfTree now s → (e : law.Edit) → IsEdit x e
      → (refusal now.profile limit s e ≡ None) × IsMadeAt (place s e) t
  pub within : IsSpanOf now.text t.place

-- ---- an edit of an entry, as a set of the value that holds it

-- What the path's last step leads from can have such an entry. The edit is not refused, and the text with it is that
-- with this value set there.
pub record IsSetOfHolder (now : ProfiledText) (x : Edit) (path : List Part) (t : TextEdit) : Type 0 where
  pub edit : law.Edit
  pub is : IsEdit x edit
  pub holder : List Part
  pub part : Part
  pub whole : path ≡ holder ++ part ∷ []
  pub value : Value
  pub holds : (s : Document) → IsTextOfTree now s → CanHold (fact_at holder (mentions_in s)) part
  pub allowed : (s : Document) → IsTextOfTree now s → refusal now.profile limit s edit ≡ None
  pub sets : (s : Document) → IsTextOfTree now s → SetsValue now.profile limit s holder value (change_of t)
  pub same : (s : Document) → IsTextOfTree now s
      → text (edited_document s edit) ≡ text (edited_document s (law.set holder value))
  pub within : IsSpanOf now.text t.place

-- The edit is of an entry, and makes of the document of this text what the set of its holder to this value makes, which
-- changes the text so.
pub record MakesSetHere (now : ProfiledText) (x : Edit) (t : TextEdit) : Type 0 where
  pub edit : law.Edit
  pub is : IsEdit x edit
  pub holder : List Part
  pub value : Value
  pub makes : (s : Document) → IsTextOfTree now s
      → MakesSet now.profile limit s edit holder value (change_of t)
  pub within : IsSpanOf now.text t.place
