-- A run of edits of several kinds that are made at once, between which elements of arrays of tables are removed: what
-- is known of it, and what one edit more does to it.
use Rattle.std.specs.Prelude.{◌≡◌, ◌⊎◌, ℕ, ◌<◌, Bool, All, List, [], ◌∷◌, ◌++◌, None, Option, Some, String, false}
use Rattle.std.specs.Prelude.{get_or, length, slice_get, string_bytes, true}
use Rattle.std.specs.Borrow.{Bor}
use Rattle.std.specs.Global.{Global}
use Rattle.std.specs.List.{list_any}
use Rattle.keep_edit_spec.specs.Edits as law
use Rattle.keep_edit_spec.specs.ElementRuns.{IsElsewhere, changed_path}
use Rattle.keep_edit_spec.specs.Runs as runs
use Rattle.keep_edit_spec.specs.Runs.{LetsCome, takes_up_to}
use Rattle.keep_edit_spec.specs.TextChanges.{IsBeside, TextChange, change_at, with_change}
use Rattle.keep_edit_spec.specs.declared.line_kind.LineKind.{LineKind}
use Rattle.keep_edit_spec.specs.declared.line_kind.LineKind.TheVariants.{LastInBody, WithHeader}
use Rattle.keep_edit_plan.specs.Headers.{key_texts}
use Rattle.keep_edit_plan.specs.TextEdits.{IsFreed, change_of}
use Rattle.keep_edit_plan.specs.declared.edit.Edit.{Edit}
use Rattle.keep_edit_plan.specs.declared.text_edit.TextEdit.{TextEdit}
use Rattle.keep_edit_runs.specs.Again.{AllowAgain, IsAgainHere, IsPutAgain, LetsAgain, outlines_of}
use Rattle.keep_edit_runs.specs.GoneBetween.{AreElsewhere, HasArray, RemovesElementHere, TakesElement}
use Rattle.keep_edit_plan.specs.Reading.{ProfiledText}
use Rattle.keep_path.specs.Path.{Part, without_last}
use Rattle.keep_edit_runs.specs.Newlines.{LeavesEndHere, LeavesHere}
use Rattle.keep_edit_runs.specs.Runs.{AddsLineAlone, IsAddedBehind, IsAddedInOrder, LeavesAlone, MakesInRunHere}
use Rattle.keep_edit_runs.specs.Runs.{no_value, outlined}
use Rattle.keep_edit_runs.specs.Tail.{HeaderIsAdded, IsBlockFor, IsOutlineAdded, IsPutBelow, bytes_of, is_element}
use Rattle.keep_edit_runs.specs.SeenPaths.{IsArraySeen, IsSeen}
use Rattle.keep_edit_runs.specs.declared.added_lines.AddedLines.{AddedLines}
use Rattle.keep_edit_runs.specs.declared.again.Again.{Again}
use Rattle.keep_edit_runs.specs.declared.again.Again.TheVariants as again
use Rattle.keep_edit_runs.specs.declared.at_once.Run.{Run}
use Rattle.keep_edit_runs.specs.declared.at_once.RunEdit.{RunEdit}
use Rattle.keep_edit_runs.specs.declared.gone_between.GoneBetween.{GoneBetween}
use Rattle.keep_edit_runs.specs.declared.kinds_run.KindsRun.{KindsRun}
use Rattle.keep_edit_runs.specs.declared.outline.Outline.{Outline}
use Rattle.keep_edit_runs.specs.declared.seen_paths.SeenPaths.{SeenPaths}
use Rattle.keep_edit_runs.specs.AddedLines.{IsCounted, IsHeaderLast, IsTableBelow, brought_at}
use Rattle.keep_edit_runs.specs.declared.tail.Block.{Block}
use Rattle.keep_edit_runs.specs.declared.tail.Tail.{Tail}

-- The edits with these outlines, and those at the end of the text, leave alone this one, which is elsewhere than in the
-- arrays.
pub record IsAloneAmong (outlines at_end : List Outline) (arrays : List (List Part)) (o : Outline) : Type 0 where
  pub edits : All (λ y. LeavesAlone y o) outlines
  pub tail : All (λ y. LeavesAlone y o) at_end
  pub elsewhere : All (λ array. IsElsewhere array (outlined o)) arrays

abbrev pub IsAlone : KindsRun → Outline → Type 0
IsAlone run o = IsAloneAmong run.so_far.outlines.items run.tail.outlines.items run.gone.arrays.items o

-- The paths of its edits are known, and those of the arrays. Each element that is appended at the end of the text is
-- left alone by all edits, itself too.
pub record AreSeen (run : KindsRun) : Type 0 where
  pub edits : All (IsSeen run.paths) run.so_far.outlines.items
  pub arrays : All (IsArraySeen run.paths) run.gone.arrays.items
  pub tail : All (IsSeen run.tail.paths) run.tail.outlines.items
  pub elements : All (λ t. is_element t ≡ true → IsAlone run t) run.tail.outlines.items

-- no edits yet of the document of this text
pub record StartsAt (now : ProfiledText) (run : KindsRun) : Type 0 where
  pub outlines : run.so_far.outlines.items ≡ []
  pub changes : run.so_far.changes ≡ []
  pub arrays : run.gone.arrays.items ≡ []
  pub elements : run.gone.elements ≡ []
  pub outlines_at_end : run.tail.outlines.items ≡ []
  pub blocks : run.tail.blocks.items ≡ []
  pub brought : (n : ℕ) → brought_at run.lines n ≡ None
  pub counts : IsCounted run.lines [] []
  pub planner : run.planner ≡ now

-- Its edits are of the document of this text, and their paths are known. If they are known to leave its first newline,
-- they do.
pub record IsRunOn (now : ProfiledText) (run : KindsRun) : Type 0 where
  pub seen : AreSeen run
  pub newline : run.so_far.leave_newline ≡ true → All (LeavesHere now) run.so_far.changes
  pub planner : run.planner ≡ now

-- the same run with these paths, where so many pairs may still be compared
abbrev pub with_paths : KindsRun → SeenPaths → ℕ → KindsRun
with_paths run paths left = record run { paths = paths; left = left }

-- and with these paths and these elements gone
abbrev pub with_gone : KindsRun → SeenPaths → GoneBetween → KindsRun
with_gone run paths gone = record run { paths = paths; gone = gone }

-- The array is one of those, as all before are, and the edits are elsewhere than in each. All paths are known still,
-- and all else is as it was.
pub record KeepsArray (old : KindsRun) (array : List Part) (new : KindsRun) : Type 0 where
  pub own : HasArray new.gone.arrays.items array
  pub arrays : (a : List Part) → HasArray old.gone.arrays.items a → HasArray new.gone.arrays.items a
  pub elsewhere : AreElsewhere new.gone.arrays.items old.so_far.outlines.items
  pub tail : All (λ o. IsElsewhere array (outlined o)) old.tail.outlines.items
  pub seen : AreSeen new
  pub elements : new.gone.elements ≡ old.gone.elements
  pub rest : new ≡ with_gone old new.paths new.gone

-- If an edit writes a line or a header, the others leave the first newline, and none takes the byte before its place,
-- but for one in whose place a line comes.
pub record IsPlacedAmong (now : ProfiledText) (changes : List TextChange) (x : Outline) (at : ℕ) : Type 0 where
  pub insert : runs.is_insert (outlined x) ≡ true
      → All (LeavesHere now) changes × All (LetsCome now.text changes at) changes
  pub header : runs.is_header (outlined x) ≡ true
      → All (LeavesHere now) changes × (list_any (takes_up_to at) changes ≡ false)

-- ---- one edit more

-- Its change comes in order with the lines. Behind all others where it begins, if elements went.
abbrev pub IsAddedTo : ProfiledText → Edit → KindsRun → Outline → TextChange → Option LineKind → KindsRun → Type 0
IsAddedTo now x old o c line new =
    (none_gone : Bool) × ((none_gone ≡ true → old.gone.arrays.items ≡ [])
    × IsAddedInOrder now x old.lines old.so_far.changes o c line none_gone new.lines new.so_far.changes)

-- Where something is at the end of a text of so many bytes, a change leaves the first newline, and takes no byte right
-- before the end, if it is no new line.
abbrev pub LetsChange : (TextChange → Type 0) → List Block → ℕ → law.Edit → TextEdit → Type 0
LetsChange Leaves blocks len e t =
    (blocks ≡ []) ⊎ (Leaves (change_of t) × (runs.is_insert e ≡ false → t.place.end < len))

-- It makes its own change, beside the others, and before what is at the end of the text.
pub record AddsOne (now : ProfiledText) (old : KindsRun) (edit : Edit) (new : KindsRun) : Type 0 where
  pub outline : Outline
  pub other : runs.is_header (outlined outline) ≡ false
  pub change : TextEdit
  pub line : Option LineKind
  pub makes : MakesInRunHere now edit (outlined outline) change line
  pub alone : IsAlone old outline
  pub lets : LetsChange (LeavesHere now) old.tail.blocks.items (length now.text) (outlined outline) change
  pub placed : IsPlacedAmong now old.so_far.changes outline (change_of change).at
  pub added : IsAddedTo now edit old outline (change_of change) line new
  pub outlines : new.so_far.outlines.items ≡ old.so_far.outlines.items ++ outline ∷ []
  pub gone : new.gone ≡ old.gone
  pub tail : new.tail ≡ old.tail

-- It adds a line at the end of a body, behind all others where it begins, in the place of what one of the others takes,
-- while no element is gone.
pub record AddsInPlace (now : ProfiledText) (old : KindsRun) (edit : Edit) (new : KindsRun) : Type 0 where
  pub outline : Outline
  pub first : List Part
  pub is : outlined outline ≡ law.insert first no_value
  pub change : TextEdit
  pub makes : MakesInRunHere now edit (outlined outline) change (Some LastInBody)
  pub alone : IsAlone old outline
  pub lets : LetsChange (LeavesHere now) old.tail.blocks.items (length now.text) (outlined outline) change
  pub newline : All (LeavesHere now) old.so_far.changes
  pub leaves : LeavesHere now (change_of change)
  pub freed : IsFreed now.text old.so_far.changes (change_of change).at
  pub none : old.gone.arrays.items ≡ []
  pub added : IsAddedBehind now.text old.lines old.so_far.changes outline (change_of change) (Some LastInBody) new.lines
      new.so_far.changes
  pub outlines : new.so_far.outlines.items ≡ old.so_far.outlines.items ++ outline ∷ []
  pub gone : new.gone ≡ old.gone
  pub tail : new.tail ≡ old.tail

-- where something is at the end of the text, a value alone is set again, which leaves the first newline
abbrev pub LetsAgainBefore : (TextChange → Type 0) → List Block → Again → Type 0
LetsAgainBefore Leaves blocks (again.Value t) = (blocks ≡ []) ⊎ Leaves (change_of t)
LetsAgainBefore Leaves blocks a = blocks ≡ []

-- what is done again is put in the place of what was done
pub record DoesAgain (Leaves : TextChange → Type 0) (old : KindsRun) (again : Again) (new : KindsRun) : Type 0 where
  pub allowed : AllowAgain Leaves (IsSeen old.paths) again
  pub lets : LetsAgain old.lines again
  pub before : LetsAgainBefore Leaves old.tail.blocks.items again
  pub put : IsPutAgain again old.so_far.changes new.so_far.changes
  pub outlines : new.so_far.outlines.items ≡ old.so_far.outlines.items ++ outlines_of again
  pub lines : new.lines ≡ old.lines
  pub gone : new.gone ≡ old.gone
  pub tail : new.tail ≡ old.tail

-- It does again what one of the others did, while no element is gone.
pub record PutsOne (now : ProfiledText) (old : KindsRun) (edit : Edit) (new : KindsRun) : Type 0 where
  pub again : Again
  pub is : IsAgainHere now edit old.so_far.outlines.items old.so_far.changes again
  pub none : old.gone.arrays.items ≡ []
  pub does : DoesAgain (LeavesHere now) old again new

-- An edit is found to take this from the text after those of the run, as it removes an element: its array is one of
-- those then. All paths are known still, and all else is as it was.
pub record FindsElement (now : ProfiledText) (old : KindsRun) (edit : Edit) (t : TextEdit) (new : KindsRun)
    : Type 0 where
  pub removes : RemovesElementHere now old.gone new.gone old.so_far.outlines.items edit t
  pub arrays : (a : List Part) → HasArray old.gone.arrays.items a → HasArray new.gone.arrays.items a
  pub elsewhere : AreElsewhere new.gone.arrays.items old.so_far.outlines.items
  pub tail : All (λ o. IsElsewhere (changed_path removes.header.path) (outlined o)) old.tail.outlines.items
  pub lets : LetsChange (LeavesHere now) old.tail.blocks.items (length now.text) (law.remove removes.header.path) t
  pub seen : AreSeen new
  pub rest : new ≡ with_gone old new.paths new.gone

-- It removes an element.
pub record TakesOne (now : ProfiledText) (old : KindsRun) (edit : Edit) (new : KindsRun) : Type 0 where
  pub takes : TakesElement now old.gone new.gone old.so_far new.so_far edit
  pub elsewhere : AreElsewhere new.gone.arrays.items new.so_far.outlines.items
  pub at_end : All (λ o. IsElsewhere (changed_path takes.removes.header.path) (outlined o)) old.tail.outlines.items
  pub lets : LetsChange (LeavesHere now) old.tail.blocks.items (length now.text)
      (law.remove takes.removes.header.path) takes.change
  pub outlines : new.so_far.outlines.items ≡ old.so_far.outlines.items
  pub lines : new.lines ≡ old.lines
  pub tail : new.tail ≡ old.tail

-- ---- one edit more at the end of the text

-- the run with other lines and another tail
abbrev pub with_tail : KindsRun → AddedLines → Tail → KindsRun
with_tail run lines tail = record run { lines = lines; tail = tail }

-- the outline is that of a header with these keys
abbrev pub IsOfHeader : Outline → Bor (List (String Global)) → Type 0
IsOfHeader o keys =
    (outlined o ≡ law.append_table (key_texts keys.now)) ⊎ (outlined o ≡ law.append_element (key_texts keys.now))

-- A header with these keys, as it is written, comes behind all others at the end.
pub record IsAppended (Leaves : List ℕ → Type 0) (old : KindsRun) (o : Outline) (keys : Bor (List (String Global)))
    (t : TextEdit) (new : KindsRun) : Type 0 where
  pub leaves : Leaves (string_bytes t.new)
  pub lines : IsHeaderLast old.lines (key_texts keys.now) new.lines
  pub added : HeaderIsAdded old.tail keys t.new new.tail
  pub outlines : IsOutlineAdded old.tail o new.tail
  pub rest : new ≡ with_tail old new.lines new.tail

-- It appends a header.
pub record AppendsOne (now : ProfiledText) (old : KindsRun) (edit : Edit) (new : KindsRun) : Type 0 where
  pub outline : Outline
  pub keys : Bor (List (String Global))
  pub header : IsOfHeader outline keys
  pub change : TextEdit
  pub line : Option LineKind
  pub makes : MakesInRunHere now edit (outlined outline) change line
  pub alone : IsAlone old outline
  pub placed : IsPlacedAmong now old.so_far.changes outline (change_of change).at
  pub appended : IsAppended (LeavesEndHere now) old outline keys change (with_tail old new.lines new.tail)
  pub same : new.so_far ≡ old.so_far
  pub gone : new.gone ≡ old.gone

-- what an insert with this change writes below a header: its header and its line, or its line alone behind others
pub record IsWrittenBelow (now : ProfiledText) (edit : Edit) (change : TextEdit) (table : Option (List Part))
    (text : List ℕ) : Type 0 where
  pub first : table ≡ None → text ≡ string_bytes change.new
  pub next : (t : List Part) → table ≡ Some t
      → (line : TextEdit) × (AddsLineAlone now edit line × (text ≡ string_bytes line.new))

-- An insert of this first new key comes below a header that goes through its table: behind others into the table, or
-- below the last one. By the document before the run it would make this change: beside the others, and none takes the
-- byte before it.
pub record IsInsertedBelow (now : ProfiledText) (old : KindsRun) (edit : Edit) (o : Outline) (t : TextEdit)
    (line : Option LineKind) (new : KindsRun) : Type 0 where
  pub first : List Part
  pub is : outlined o ≡ law.insert first no_value
  pub line_is : line ≡ Some WithHeader
  pub clear : list_any (takes_up_to (change_of t).at) old.so_far.changes ≡ false
  pub beside : All (λ c. IsBeside c (change_of t)) old.so_far.changes
  pub number : ℕ
  pub block : IsBlockFor old.tail.blocks.items (without_last first) number
  pub text : List ℕ
  pub written : IsWrittenBelow now edit t block.block.table text
  pub leaves : LeavesEndHere now text × LeavesEndHere now (string_bytes t.new)
  pub lines : IsTableBelow old.lines (change_of t).at (without_last first) new.lines
  pub put : IsPutBelow old.tail.blocks.items number (without_last first) text new.tail.blocks.items
  pub outlines : IsOutlineAdded old.tail o new.tail
  pub rest : new ≡ with_tail old new.lines new.tail

-- It is such an insert.
pub record PutsBelow (now : ProfiledText) (old : KindsRun) (edit : Edit) (new : KindsRun) : Type 0 where
  pub outline : Outline
  pub change : TextEdit
  pub line : Option LineKind
  pub makes : MakesInRunHere now edit (outlined outline) change line
  pub alone : IsAlone old outline
  pub placed : IsPlacedAmong now old.so_far.changes outline (change_of change).at
  pub inserted : IsInsertedBelow now old edit outline change line (with_tail old new.lines new.tail)
  pub same : new.so_far ≡ old.so_far
  pub gone : new.gone ≡ old.gone

-- no change is added, and what is at the end is the same
pub record IsUnchanged (old new : KindsRun) : Type 0 where
  pub changes : new.so_far.changes ≡ old.so_far.changes
  pub tail : bytes_of new.tail.blocks.items ≡ bytes_of old.tail.blocks.items

-- An edit with this outline and change is added before what is at the end.
pub record IsAddedBefore (now : ProfiledText) (old : KindsRun) (edit : Edit) (o : Outline) (t : TextEdit)
    (line : Option LineKind) (new : KindsRun) : Type 0 where
  pub lets : LetsChange (LeavesHere now) old.tail.blocks.items (length now.text) (outlined o) t
  pub added : IsAddedTo now edit old o (change_of t) line new
  pub outlines : new.so_far.outlines.items ≡ old.so_far.outlines.items ++ o ∷ []
  pub seen : IsSeen new.paths o
  pub others : (y : Outline) → IsSeen old.paths y → IsSeen new.paths y
  pub newline : new.so_far.leave_newline ≡ true → (old.so_far.leave_newline ≡ true)
      × (All (LeavesHere now) old.so_far.changes → All (LeavesHere now) new.so_far.changes)
  pub rest : new ≡ record old { so_far = new.so_far; lines = new.lines; paths = new.paths }

-- An edit with this outline and change is added behind all others where it begins, in the place of what one of them
-- takes.
pub record IsAddedInPlace (now : ProfiledText) (old : KindsRun) (o : Outline) (t : TextEdit) (line : Option LineKind)
    (new : KindsRun) : Type 0 where
  pub last : line ≡ Some LastInBody
  pub first : List Part
  pub is : outlined o ≡ law.insert first no_value
  pub lets : LetsChange (LeavesHere now) old.tail.blocks.items (length now.text) (outlined o) t
  pub leave : All (LeavesHere now) old.so_far.changes
  pub leaves : LeavesHere now (change_of t)
  pub freed : IsFreed now.text old.so_far.changes (change_of t).at
  pub none : old.gone.arrays.items ≡ []
  pub added : IsAddedBehind now.text old.lines old.so_far.changes o (change_of t) line new.lines new.so_far.changes
  pub outlines : new.so_far.outlines.items ≡ old.so_far.outlines.items ++ o ∷ []
  pub seen : IsSeen new.paths o
  pub others : (y : Outline) → IsSeen old.paths y → IsSeen new.paths y
  pub newline : new.so_far.leave_newline ≡ true → (old.so_far.leave_newline ≡ true)
      × (All (LeavesHere now) old.so_far.changes → All (LeavesHere now) new.so_far.changes)
  pub rest : new ≡ record old { so_far = new.so_far; lines = new.lines; paths = new.paths; left = new.left }

-- what such an insert writes below the header with this number, which leaves the first newline
pub record IsTextBelow (now : ProfiledText) (blocks : List Block) (n : ℕ) (edit : Edit) (made : RunEdit)
    (text : String Global) : Type 0 where
  pub line : made.line ≡ Some WithHeader
  pub leaves : LeavesEndHere now (string_bytes text) × LeavesEndHere now (string_bytes made.change.new)
  pub written : (b : Block) → slice_get blocks n ≡ Some b
      → IsWrittenBelow now edit made.change b.table (string_bytes text)

-- it makes its own change among the others, at the end, or in the place of another
abbrev pub AddsAny : ProfiledText → KindsRun → Edit → KindsRun → Type 0
AddsAny now old edit new =
    AddsOne now old edit new
    ⊎ (AppendsOne now old edit new ⊎ (PutsBelow now old edit new ⊎ AddsInPlace now old edit new))

-- the edit does one of these
abbrev pub DoesOne : ProfiledText → KindsRun → Edit → KindsRun → Type 0
DoesOne now old edit new =
    AddsAny now old edit new ⊎ (PutsOne now old edit new ⊎ TakesOne now old edit new)

-- the edit with this number does one of these
pub record GoesOn (now : ProfiledText) (old : KindsRun) (edits : List Edit) (number : ℕ) (new : KindsRun)
    : Type 0 where
  pub edit : Edit
  pub here : get_or edits number edit ≡ edit
  pub by : DoesOne now old edit new

-- What the run changes in a text of so many bytes, up to this number; nothing from number `first` on, where memory was
-- refused.
pub record IsRunUpTo (run : KindsRun) (first end len : ℕ) (result : Run) : Type 0 where
  pub by : ((run.tail.blocks.items ≡ []) × ((result.changes ≡ run.so_far.changes) × (result.end ≡ end)))
      ⊎ (((result.changes ≡ with_change run.so_far.changes (change_at len 0 (bytes_of run.tail.blocks.items)))
      × (result.end ≡ end))
      ⊎ ((result.changes ≡ []) × (result.end ≡ first)))
