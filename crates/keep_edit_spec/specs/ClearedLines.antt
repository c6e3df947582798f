-- Removes of a list that leave a line with its comment: each is known by the first document alone.
use Rattle.std.specs.Prelude.{◌≡◌, ℕ, suc, ◌+◌, ◌<◌, List, length, take, Some, None}
use Rattle.keep_types.specs.declared.leaf.Profile.{Profile}
use Rattle.keep_syntax.specs.Tree.{Document, bom_leaves, text, text_of}
use Rattle.keep_path.specs.Path.{Part}
use Rattle.keep_meaning.specs.Marks.{start}
use Rattle.keep_meaning.specs.Meaning.{lines}
use Rattle.keep_edit_spec.specs.Changed.{Changed}
use Rattle.keep_edit_spec.specs.Edits.{clear_line, is_own, place, remove}
use Rattle.keep_edit_spec.specs.Lines.{Page, ended_text, in_lines, last_line}
use Rattle.keep_edit_spec.specs.Refusals.{refusal}
use Rattle.keep_edit_spec.specs.TextChanges.{IsWider, TextChange}

-- where line number n begins
abbrev pub line_start : Document → ℕ → ℕ
line_start s n = length (text_of (bom_leaves s.bom)) + length (ended_text (take n s.ended))

-- A remove of a value with a line of its own, which is not refused, and a comment is on the line: so the line stays,
-- cleared to its comment. It has a newline. The change is from the key to the end of the line, and the comment and the
-- newline come back.
pub record ClearsLine (profile : Profile) (limit : ℕ) (s : Document) (path : List Part) (c : TextChange)
    : Type 0 where
  pub allowed : refusal profile limit s (remove path) ≡ None
  pub cleared : Changed Page
  pub commented : in_lines (clear_line path) start s.ended s.last ≡ Some cleared
  pub number : ℕ
  pub own : last_line (λ r l. is_own path r l.content) start (lines s) ≡ Some number
  pub closed : number < length s.ended
  pub some : (place s (remove path)).start < (place s (remove path)).end
  pub is : IsWider (text s) (place s (remove path)) c
  pub ends : c.at + c.size ≡ line_start s (suc number)
