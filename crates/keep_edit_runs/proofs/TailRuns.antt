-- Edits that are made at once, with what comes at the end of the text after all others: what is known of them.
--
-- The edits that change the text elsewhere are a list of their own (`own`), which is made at once as ElementSteps tells
-- (`base`). Those at the end come after its document (`IsTailTo`), whichever were first in the list that is given.
use Rattle.std.proofs.Common.{[], ◌≡◌, ◌≤◌, ◌++◌, ℕ, List, All, IsUtf8, length, take}
use Rattle.std.specs.Prelude.{◌⊎◌, ⊤, None, false}
use Rattle.std.specs.List.{list_any}
use Rattle.keep_types.specs.declared.leaf.Profile.{Profile}
use Rattle.keep_syntax.specs.Tree.{Document}
use Rattle.keep_path.specs.Path.{Part, without_last}
use Rattle.keep_edit_spec.specs.Edits as law
use Rattle.keep_edit_spec.specs.Edits.{edited_document}
use Rattle.keep_edit_spec.specs.ElementRuns.{IsElsewhere}
use Rattle.keep_edit_spec.specs.EndEdits.{AreAtEnd, EndEdit, document_with}
use Rattle.keep_edit_spec.specs.Laws.{IsLawfulEdit}
use Rattle.keep_edit_spec.specs.Refusals.{refusal}
use Rattle.keep_edit_spec.specs.Runs as runs
use Rattle.keep_edit_spec.specs.Runs.{takes_up_to}
use Rattle.keep_edit_spec.specs.TextChanges.{TextChange, text_with}
use Rattle.keep_edit_plan.specs.Reading.{IsAccepted, ProfiledText, limit, text_in}
use Rattle.keep_edit_plan.specs.declared.edit.Edit.{Edit}
use Rattle.keep_edit_runs.specs.AddedLines.{IsHeaderKnown}
use Rattle.keep_edit_runs.specs.Lists.{AreMade, IsEdit}
use Rattle.keep_edit_runs.specs.Newlines.{LeavesEndHere, LeavesHere}
use Rattle.keep_edit_runs.specs.Runs.{outlined, plain}
use Rattle.keep_edit_runs.specs.SeenHeaders.{HasTableOf}
use Rattle.keep_edit_runs.specs.Tail.{AreBlocks, bytes_of}
use Rattle.keep_edit_runs.specs.declared.added_lines.AddedLines.{AddedLines}
use Rattle.keep_edit_runs.specs.declared.kinds_run.KindsRun.{KindsRun}
use Rattle.keep_edit_runs.specs.declared.outline.Outline.{Outline}
use Rattle.keep_edit_runs.specs.declared.tail.Tail.{Tail}
use Rattle.keep_edit_runs.proofs.ElementSteps.{AreMadeAmong}
use Rattle.keep_edit_runs.proofs.TailNewlines.{IsFirstKnown}

-- the table into which the edit inserts is known as one whose header comes with a line
abbrev pub IsTableKnown : AddedLines → law.Edit → Type 0
IsTableKnown adds (law.insert first value) = HasTableOf adds.headers (without_last first)
IsTableKnown adds e = ⊤

-- With the edits up to number `end` made, this is the text with the changes, and what comes at its end. The document
-- after those that change it elsewhere is `tree`.
pub record IsTailTo (s : Document) (edits : List Edit) (end : ℕ) (old now : ProfiledText) (tree : Document)
    (outlines : List Outline) (changes : List TextChange) (adds : AddedLines) (tail : Tail) : Type 0 where
  pub ts : List EndEdit
  pub is : AreBlocks tail.blocks.items ts
  pub ends : AreAtEnd now.profile limit tree ts
  pub made : AreMade s (take end edits) old
      (text_in now.profile (text_with 0 now.text changes ++ bytes_of tail.blocks.items))
  pub tree_is : document_with tree ts ≡ made.tree
  pub alone : (f : law.Edit) → All (λ x. runs.LeavesAlone (outlined x) (plain f)) tail.outlines.items
      → All (λ t. runs.LeavesAlone t.seen f) ts
  pub elsewhere : (path : List Part) → All (λ x. IsElsewhere path (outlined x)) tail.outlines.items
      → All (λ t. IsElsewhere path t.seen) ts
  pub apart : All (λ o. All (λ t. runs.LeavesAlone t.seen (outlined o)) ts) outlines
  pub leave : All (λ t. LeavesEndHere now t.new) ts
  pub utf8 : All (λ t. IsUtf8 t.new) ts
  pub known : All (λ t. IsHeaderKnown adds t.seen) ts
  pub tables : All (λ t. IsTableKnown adds t.seen) ts

-- the changes leave the first newline, and the text's last byte stays
pub record IsEndClear (now : ProfiledText) (changes : List TextChange) : Type 0 where
  pub leave : All (LeavesHere now) changes
  pub clear : list_any (takes_up_to (length now.text)) changes ≡ false

-- nothing is at the end, or that
abbrev pub IsClear : ProfiledText → KindsRun → Type 0
IsClear now run = (run.tail.blocks.items ≡ []) ⊎ IsEndClear now run.so_far.changes

-- The edits of a list up to number `end` are made by the run.
pub record AreMadeIn (edits : List Edit) (first end : ℕ) (now : ProfiledText) (run : KindsRun) : Type 0 where
  pub own : List Edit
  pub begins : take first own ≡ take first edits
  pub low : first ≤ length own
  pub no_headers : run.lines.appended ≡ 0
  pub base : AreMadeAmong own first (length own) now run.so_far.outlines.items run.so_far.changes run.lines run.gone
  pub whole : (s : Document) (old : ProfiledText) → (h : AreMade s (take first own) old now)
      → IsTailTo s edits end old now (base.made s old h).made.tree run.so_far.outlines.items run.so_far.changes
      run.lines run.tail
  pub clear : IsAccepted now → IsClear now run

-- An edit of the document `tree` is made after what comes at the end of it, too, and both orders make one document.
pub record IsLifted (profile : Profile) (tree : Document) (ts : List EndEdit) (e : law.Edit) : Type 0 where
  pub allowed : refusal profile limit (document_with tree ts) e ≡ None
  pub lawful : IsLawfulEdit profile limit (document_with tree ts) e
  pub ends : AreAtEnd profile limit (edited_document tree e) ts
  pub same : edited_document (document_with tree ts) e ≡ document_with (edited_document tree e) ts

-- So it is of an edit that is given, wherever the edits before are made, if the first newline is known with it, too.
abbrev pub Lifts : List Edit → ℕ → ℕ → ProfiledText → KindsRun → Edit → Type 0
Lifts edits first end now run x =
    (so_far : AreMadeIn edits first end now run) (s : Document) (old : ProfiledText)
    (h : AreMade s (take first so_far.own) old now) (e : law.Edit) → IsEdit x e
    → IsFirstKnown (so_far.base.made s old h).made.tree (so_far.whole s old h).ts
    (edited_document (so_far.base.made s old h).made.tree e)
    → IsLifted now.profile (so_far.base.made s old h).made.tree (so_far.whole s old h).ts e
