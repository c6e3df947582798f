-- Removes of a list that take lines: each is known by the first document alone, as long as all are of other paths.
use Rattle.std.specs.Prelude.{◌≡◌, ◌≢◌, ℕ, ◌+◌, ◌<◌, List, [], length, Some, None}
use Rattle.keep_types.specs.declared.leaf.Profile.{Profile}
use Rattle.keep_syntax.specs.Tree.{Document}
use Rattle.keep_path.specs.Path.{Part}
use Rattle.keep_meaning.specs.Marks.{start}
use Rattle.keep_meaning.specs.Meaning.{lines}
use Rattle.keep_edit_spec.specs.Edits.{clear_line, edited_document, is_own, place, remove}
use Rattle.keep_edit_spec.specs.Laws.{IsEditable}
use Rattle.keep_edit_spec.specs.Lines.{in_lines, last_line}
use Rattle.keep_edit_spec.specs.Refusals.{refusal}
use Rattle.keep_edit_spec.specs.TextChanges.{TextChange, moved}

-- A remove of a value with a line of its own, which is not refused, and no comment is on the line: so it takes this
-- line. It has a newline.
pub record RemovesLine (profile : Profile) (limit : ℕ) (s : Document) (path : List Part) (c : TextChange)
    : Type 0 where
  pub allowed : refusal profile limit s (remove path) ≡ None
  pub bare : in_lines (clear_line path) start s.ended s.last ≡ None
  pub number : ℕ
  pub own : last_line (λ r l. is_own path r l.content) start (lines s) ≡ Some number
  pub closed : number < length s.ended
  pub takes : c.new ≡ []
  pub is : place s (remove path) ≡ record { start = c.at; end = c.at + c.size; new = [] }

-- A remove that takes a line takes the same one after another remove, of another path, took its line.
abbrev pub StillRemovesLine : Type 0
StillRemovesLine =
    (profile : Profile) (limit : ℕ) (s : Document) (path : List Part) (c : TextChange) (other : List Part)
    (d : TextChange)
    → IsEditable profile limit s → RemovesLine profile limit s path c → RemovesLine profile limit s other d
    → path ≢ other
    → RemovesLine profile limit (edited_document s (remove path)) other (moved c d)
