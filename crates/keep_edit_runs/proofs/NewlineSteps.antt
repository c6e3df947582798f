-- Changes that leave the first newline of the document of a text: so they do of each document with this text. By what
-- is known of that newline more is known to leave it.
--
-- Theorems: `leave_here`; `allow_here`, `lets_here`, `does_here`, `appended_here`: by what is known.
use Rattle.std.proofs.Common.{All, Bor, Global, List, String, inl, inr, string_bytes, ℕ}
use Rattle.std.proofs.lemmas.List.Elements.{All-weaker}
use Rattle.keep_syntax.specs.Tree.{Document}
use Rattle.keep_edit_spec.specs.Edits as law
use Rattle.keep_edit_spec.specs.FirstNewline.{LeavesNewline}
use Rattle.keep_edit_spec.specs.Runs.{LeaveNewline}
use Rattle.keep_edit_spec.specs.TextChanges.{TextChange}
use Rattle.keep_edit_plan.specs.Reading.{IsTextOfTree, ProfiledText}
use Rattle.keep_edit_plan.specs.TextEdits.{change_of}
use Rattle.keep_edit_plan.specs.declared.text_edit.TextEdit.{TextEdit}
use Rattle.keep_edit_runs.specs.Again.{AllowAgain, AllowLine}
use Rattle.keep_edit_runs.specs.KindsRun.{DoesAgain, IsAppended, LetsAgainBefore, LetsChange}
use Rattle.keep_edit_runs.specs.Newlines.{IsNewlineOf, LeavesBy, LeavesEndBy, LeavesEndHere, LeavesHere}
use Rattle.keep_edit_runs.specs.SeenPaths.{IsSeen}
use Rattle.keep_edit_runs.specs.declared.again.Again.{Again}
use Rattle.keep_edit_runs.specs.declared.again.Again.TheVariants as again
use Rattle.keep_edit_runs.specs.declared.kinds_run.KindsRun.{KindsRun}
use Rattle.keep_edit_runs.specs.declared.newline.Newline.{Newline}
use Rattle.keep_edit_runs.specs.declared.outline.Outline.{Outline}
use Rattle.keep_edit_runs.specs.declared.tail.Block.{Block}

pub leave_here : (now : ProfiledText) (s : Document) → IsTextOfTree now s → (cs : List TextChange)
    → All (LeavesHere now) cs → LeaveNewline s cs
leave_here now s read = All-weaker (LeavesHere now) (LeavesNewline s) (λ c leaves. leaves s read)

module _ (now : ProfiledText) (newline : Newline) (known : IsNewlineOf now newline) where
  line_here : (P : Outline → Type 0) (t : TextEdit) → AllowLine (LeavesBy newline) P t
      → AllowLine (LeavesHere now) P t
  line_here P t (inl leaves) = inl (known.changes (change_of t) leaves)
  line_here P t (inr inserts) = inr inserts

  pub allow_here : (P : Outline → Type 0) (a : Again) → AllowAgain (LeavesBy newline) P a
      → AllowAgain (LeavesHere now) P a
  allow_here P (again.Value t) allowed = allowed
  allow_here P (again.Key o t) allowed = allowed
  allow_here P (again.Line number was t) allowed = line_here P t allowed
  allow_here P (again.LineKey o giving was t) (line, alone) = (line_here P t line, alone)

  pub lets_here : (blocks : List Block) (len : ℕ) (e : law.Edit) (t : TextEdit)
      → LetsChange (LeavesBy newline) blocks len e t → LetsChange (LeavesHere now) blocks len e t
  lets_here blocks len e t (inl none) = inl none
  lets_here blocks len e t (inr (leaves, ends)) = inr (known.changes (change_of t) leaves, ends)

  again_here : (blocks : List Block) (a : Again) → LetsAgainBefore (LeavesBy newline) blocks a
      → LetsAgainBefore (LeavesHere now) blocks a
  again_here blocks (again.Value t) (inl none) = inl none
  again_here blocks (again.Value t) (inr leaves) = inr (known.changes (change_of t) leaves)
  again_here blocks (again.Key o t) none = none
  again_here blocks (again.Line number was t) none = none
  again_here blocks (again.LineKey o giving was t) none = none

  pub does_here : (old : KindsRun) (a : Again) (new : KindsRun) → DoesAgain (LeavesBy newline) old a new
      → DoesAgain (LeavesHere now) old a new
  does_here old a new h = record {
    allowed = allow_here (IsSeen old.paths) a h.allowed;
    lets = h.lets;
    before = again_here old.tail.blocks.items a h.before;
    put = h.put;
    outlines = h.outlines;
    lines = h.lines;
    gone = h.gone;
    tail = h.tail;
  }

  pub appended_here : (old : KindsRun) (o : Outline) (keys : Bor (List (String Global))) (t : TextEdit)
      (new : KindsRun) → IsAppended (LeavesEndBy newline) old o keys t new
      → IsAppended (LeavesEndHere now) old o keys t new
  appended_here old o keys t new h = record {
    leaves = known.ends (string_bytes t.new) h.leaves;
    lines = h.lines;
    added = h.added;
    outlines = h.outlines;
    rest = h.rest;
  }
