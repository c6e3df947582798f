-- Renames of a list: the place of each is known by the first document alone, as long as their paths are apart. A key
-- that is renamed twice is as if it was renamed once, to the second key.
use Rattle.std.specs.Prelude.{◌≡◌, ◌≢◌, ℕ, ◌<◌, List, length, None, IsUtf8}
use Rattle.keep_types.specs.declared.leaf.Profile.{Profile}
use Rattle.keep_syntax.specs.Tree.{Document}
use Rattle.keep_path.specs.Path.{Part, beside, strip}
use Rattle.keep_edit_spec.specs.Edits.{edited_document, place, rename}
use Rattle.keep_edit_spec.specs.Laws.{IsEditable}
use Rattle.keep_edit_spec.specs.Refusals.{refusal}
use Rattle.keep_edit_spec.specs.TextChanges.{IsBeside, TextChange, change_at, moved, place_of_change}

-- A rename that is not refused, and the change of the text that it makes. The key that goes has bytes.
pub record RenamesKey (profile : Profile) (limit : ℕ) (s : Document) (path : List Part) (text : List ℕ) (c : TextChange)
    : Type 0 where
  pub utf8 : IsUtf8 text
  pub allowed : refusal profile limit s (rename path text) ≡ None
  pub some : 0 < c.size
  pub is : place s (rename path text) ≡ place_of_change c

-- the second path is not that of the first's node or below it, and the new keys don't give both one path
pub record ArePathsApart (path : List Part) (text : List ℕ) (other : List Part) (more : List ℕ) : Type 0 where
  pub below : strip path other ≡ None
  pub new : beside path text ≢ beside other more

-- A rename makes the same change after another made its own, elsewhere.
abbrev pub StillRenamesKey : Type 0
StillRenamesKey =
    (profile : Profile) (limit : ℕ) (s : Document) (path : List Part) (text : List ℕ) (c : TextChange)
    (other : List Part) (more : List ℕ) (d : TextChange)
    → IsEditable profile limit s → RenamesKey profile limit s path text c → RenamesKey profile limit s other more d
    → ArePathsApart path text other more → IsBeside c d
    → RenamesKey profile limit (edited_document s (rename path text)) other more (moved c d)

-- The renamed key renamed again: that replaces what the first rename wrote, is not refused, and the document is the one
-- that the second rename of the first path alone makes.
pub record IsRenamedAgain (profile : Profile) (limit : ℕ) (s : Document) (path : List Part) (text : List ℕ)
    (c : TextChange) (more : List ℕ) (d : TextChange) : Type 0 where
  pub at : d.at ≡ c.at
  pub size : d.size ≡ c.size
  pub renames : RenamesKey profile limit (edited_document s (rename path text)) (beside path text) more
      (change_at c.at (length c.new) d.new)
  pub same : edited_document (edited_document s (rename path text)) (rename (beside path text) more)
      ≡ edited_document s (rename path more)

-- A rename of a key that was renamed before, to another key, is as if the first key was renamed to that one.
abbrev pub RenamesAgain : Type 0
RenamesAgain =
    (profile : Profile) (limit : ℕ) (s : Document) (path : List Part) (text : List ℕ) (c : TextChange) (more : List ℕ)
    (d : TextChange)
    → IsEditable profile limit s → RenamesKey profile limit s path text c → RenamesKey profile limit s path more d
    → text ≢ more → IsRenamedAgain profile limit s path text c more d
