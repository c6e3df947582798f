-- Removes that take tables, each a header with its body.
use Rattle.std.specs.Prelude.{◌≡◌, ℕ, true, List, None}
use Rattle.keep_types.specs.declared.leaf.Profile.{Profile}
use Rattle.keep_syntax.specs.Tree as tree
use Rattle.keep_syntax.specs.Tree.{Document}
use Rattle.keep_path.specs.Path.{Part}
use Rattle.keep_meaning.specs.Meaning.{mentions_in}
use Rattle.keep_meaning.specs.Nodes.{has, is_define}
use Rattle.keep_edit_spec.specs.Edits.{place, remove}
use Rattle.keep_edit_spec.specs.Refusals.{refusal}
use Rattle.keep_edit_spec.specs.TextChanges.{TextChange, place_of_change}
use Rattle.keep_edit_spec.specs.TextEnds.{ends_in_newline}

-- A remove of a table that a header defines, which is not refused, and the change of the text that it makes. The text
-- ends in a newline, so each line that goes has one.
pub record RemovesSection (profile : Profile) (limit : ℕ) (s : Document) (path : List Part) (c : TextChange)
    : Type 0 where
  pub allowed : refusal profile limit s (remove path) ≡ None
  pub defined : has is_define path (mentions_in s) ≡ true
  pub closed : ends_in_newline (tree.text s) ≡ true
  pub is : place s (remove path) ≡ place_of_change c
