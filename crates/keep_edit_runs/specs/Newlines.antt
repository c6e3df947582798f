-- Which changes leave a document's first newline, by what is known of its text.
use Rattle.std.specs.Prelude.{⊤, ℕ, ◌≤◌, List, length}
use Rattle.keep_syntax.specs.Tree.{Document}
use Rattle.keep_edit_plan.specs.Reading.{IsTextOfTree, ProfiledText}
use Rattle.keep_edit_spec.specs.FirstNewline.{IsPlain, LeavesNewline}
use Rattle.keep_edit_spec.specs.TextChanges.{TextChange, change_at}
use Rattle.keep_edit_runs.specs.declared.newline.Newline.{Newline}
use Rattle.keep_edit_runs.specs.declared.newline.Newline.TheVariants.{After, LineFeed, Unknown}

-- A change leaves the first newline, by what is known of that.
abbrev pub LeavesBy : Newline → TextChange → Type 0
LeavesBy LineFeed c = IsPlain c.new
LeavesBy (After end) c = end ≤ c.at
LeavesBy Unknown c = ⊥

-- so does what comes at the end of the text
abbrev pub LeavesEndBy : Newline → List ℕ → Type 0
LeavesEndBy LineFeed new = IsPlain new
LeavesEndBy (After end) new = ⊤
LeavesEndBy Unknown new = ⊥

-- The change leaves the first newline of the document of this text.
abbrev pub LeavesHere : ProfiledText → TextChange → Type 0
LeavesHere now c = (s : Document) → IsTextOfTree now s → LeavesNewline s c

-- What comes at the end of the text leaves it so.
abbrev pub LeavesEndHere : ProfiledText → List ℕ → Type 0
LeavesEndHere now new = LeavesHere now (change_at (length now.text) 0 new)

-- By what is known it is known of the document of this text.
pub record IsNewlineOf (now : ProfiledText) (n : Newline) : Type 0 where
  pub changes : (c : TextChange) → LeavesBy n c → LeavesHere now c
  pub ends : (new : List ℕ) → LeavesEndBy n new → LeavesEndHere now new
