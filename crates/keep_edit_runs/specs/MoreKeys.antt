-- Edits of several kinds that are made at once, among them inserts of further keys into tables that the dotted keys of
-- an insert right before them make: what is known of them, and what one edit more does.
use Rattle.std.specs.Prelude.{◌≡◌, ◌≢◌, ◌⊎◌, ℕ, suc, All, IfSome, List, [], ◌∷◌, ◌++◌, Option, Some, get_or, length}
use Rattle.std.specs.Prelude.{take, true}
use Rattle.keep_syntax.specs.Tree.{Document}
use Rattle.keep_path.specs.Path.{Part}
use Rattle.keep_meaning.specs.Meaning.{mentions_in}
use Rattle.keep_edit_spec.specs.Edits as law
use Rattle.keep_edit_spec.specs.Look.{holder}
use Rattle.keep_edit_spec.specs.MoreKeys.{GoOnApart, IsOpen, key_below}
use Rattle.keep_edit_spec.specs.Runs as runs
use Rattle.keep_edit_runs.specs.Newlines.{LeavesHere}
use Rattle.keep_edit_spec.specs.TextChanges.{TextChange}
use Rattle.keep_edit_spec.specs.declared.line_kind.LineKind.{LineKind}
use Rattle.keep_edit_spec.specs.declared.line_kind.LineKind.TheVariants.{LastInBody, WithHeader}
use Rattle.keep_edit_plan.specs.Reading.{IsTextOfTree, ProfiledText, limit}
use Rattle.keep_edit_plan.specs.TextEdits.{change_of}
use Rattle.keep_edit_plan.specs.declared.edit.Edit.{Edit}
use Rattle.keep_edit_plan.specs.declared.edit.Edit.TheVariants.{Insert}
use Rattle.keep_edit_plan.specs.declared.text_edit.TextEdit.{TextEdit}
use Rattle.keep_edit_runs.specs.GoneBetween.{IsElementRunTo}
use Rattle.keep_edit_runs.specs.KindsRun.{IsAlone, IsPlacedAmong, IsRunOn}
use Rattle.keep_edit_runs.specs.Runs.{IsAddedBehind, MakesInRunHere, MakesItselfHere, no_value, outlined}
use Rattle.keep_edit_runs.specs.SeenPaths.{HasBeginning, HasName, IsSeen}
use Rattle.keep_edit_runs.specs.declared.added_lines.AddedLines.{AddedLines}
use Rattle.keep_edit_runs.specs.declared.kinds_run.KindsRun.{KindsRun}
use Rattle.keep_edit_runs.specs.declared.more_keys.NewTable.{NewTable}
use Rattle.keep_edit_runs.specs.declared.outline.Outline.{Outline}
use Rattle.keep_edit_runs.specs.declared.outline.Outline.TheVariants as kind
use Rattle.keep_edit_runs.specs.declared.seen_paths.SeenPaths.{SeenPaths}
use Rattle.keep_edit_runs.specs.declared.outline.SeenAs.{SeenAs}
use Rattle.keep_edit_runs.specs.declared.outline.SeenAs.TheVariants.{FirstKey}

-- ---- a new table

-- so many steps of a path lead to what an insert of it adds first
abbrev pub LeadsToNew : ProfiledText → List Part → ℕ → Type 0
LeadsToNew now path count =
    (s : Document) → IsTextOfTree now s → count ≡ suc (length (holder path (mentions_in s)))

abbrev pub IsNewTable : ProfiledText → NewTable → Type 0
IsNewTable now t = LeadsToNew now t.path.now t.count

-- the path that leads to it
abbrev pub path_to_new : NewTable → List Part
path_to_new t = take t.count t.path.now

-- the line has the table's kind, and no header
abbrev pub IsOfTable : Option LineKind → NewTable → Type 0
IsOfTable line t = (line ≡ Some t.kind) × (t.kind ≢ WithHeader)

-- The edit is the insert that makes the table, as others see it, by such a line.
abbrev pub MakesTable : Edit → SeenAs → Option LineKind → NewTable → Type 0
MakesTable x seen line t =
    (given : List ℕ) × ((x ≡ Insert t.path.now given) × ((seen ≡ FirstKey t.count) × IsOfTable line t))

-- The edit inserts a further key into the table.
pub record IsMoreKey (now : ProfiledText) (t : NewTable) (x : Edit) : Type 0 where
  pub path : List Part
  pub given : List ℕ
  pub is : x ≡ Insert path given
  pub leads : LeadsToNew now path t.count
  pub same : path_to_new t ≡ take t.count path
  pub apart : GoOnApart (path_to_new t) t.path.now path

-- An edit leaves alone the insert of any key of the table, unless the paths that were seen, its own among them, begin
-- with that of the key, or the key is the new one of a rename.
abbrev pub LetsKeysIn : List Part → Outline → Type 0
LetsKeysIn table x =
    (seen : SeenPaths) (name : List ℕ) → IsSeen seen x → ¬ HasBeginning seen (key_below table name)
    → ¬ HasName seen name
    → runs.LeavesAlone (outlined x) (law.insert (key_below table name) no_value)

-- the edit is seen as the insert of a key of the table
abbrev pub IsKeyOf : NewTable → Outline → Type 0
IsKeyOf t o = (name : List ℕ) × (o ≡ kind.Insert (key_below (path_to_new t) name))

-- What is known of the table that the last edits of a run make, or go into: each of the run lets its keys in.
pub record IsKnownTable (now : ProfiledText) (run : KindsRun) (t : NewTable) : Type 0 where
  pub leads : IsNewTable now t
  pub lets : All (LetsKeysIn (path_to_new t)) run.so_far.outlines.items

-- ---- one edit more

-- nothing is at the end of the text, and no element is gone
pub record IsPlainRun (run : KindsRun) : Type 0 where
  pub blocks : run.tail.blocks.items ≡ []
  pub headers : run.tail.outlines.items ≡ []
  pub arrays : run.gone.arrays.items ≡ []

-- An edit with this outline and change is added behind all others where it begins.
pub record IsAddedLast (now : ProfiledText) (old : KindsRun) (o : Outline) (t : TextEdit) (line : Option LineKind)
    (new : KindsRun) : Type 0 where
  pub added : IsAddedBehind now.text old.lines old.so_far.changes o (change_of t) line new.lines new.so_far.changes
  pub outlines : new.so_far.outlines.items ≡ old.so_far.outlines.items ++ o ∷ []
  pub seen : IsSeen new.paths o
  pub others : (y : Outline) → IsSeen old.paths y → IsSeen new.paths y
  pub newline : new.so_far.leave_newline ≡ true → (old.so_far.leave_newline ≡ true)
      × (All (LeavesHere now) old.so_far.changes → All (LeavesHere now) new.so_far.changes)
  pub rest : new ≡ record old { so_far = new.so_far; lines = new.lines; paths = new.paths }

-- It makes its own change. If it makes a table, this is that.
pub record AddsBehind (now : ProfiledText) (old : KindsRun) (edit : Edit) (new : KindsRun) (table : Option NewTable)
    : Type 0 where
  pub outline : Outline
  pub change : TextEdit
  pub line : Option LineKind
  pub makes : MakesInRunHere now edit (outlined outline) change line
  pub alone : IsAlone old outline
  pub placed : IsPlacedAmong now old.so_far.changes outline (change_of change).at
  pub added : IsAddedBehind now.text old.lines old.so_far.changes outline (change_of change) line new.lines
      new.so_far.changes
  pub outlines : new.so_far.outlines.items ≡ old.so_far.outlines.items ++ outline ∷ []
  pub gone : new.gone ≡ old.gone
  pub makes_table : (t : NewTable) → table ≡ Some t → IsNewTable now t × (IsOfTable line t
      × ((given : List ℕ) × ((edit ≡ Insert t.path.now given)
      × (outlined outline ≡ law.insert (path_to_new t) no_value))))

-- It inserts a further key into a new table: its change is that of a line of the table's kind, and it is known as one
-- at the end of a body.
pub record AddsInside (now : ProfiledText) (old : KindsRun) (t : NewTable) (edit : Edit) (new : KindsRun) : Type 0 where
  pub more : IsMoreKey now t edit
  pub outline : Outline
  pub is : outlined outline ≡ law.insert (key_below (path_to_new t) more.apart.next) no_value
  pub change : TextEdit
  pub makes : MakesItselfHere now edit change (Some t.kind)
  pub alone : IsAlone old outline
  pub added : IsAddedBehind now.text old.lines old.so_far.changes outline (change_of change) (Some LastInBody) new.lines
      new.so_far.changes
  pub outlines : new.so_far.outlines.items ≡ old.so_far.outlines.items ++ outline ∷ []
  pub gone : new.gone ≡ old.gone

-- The edit with this number does one of these. If it made a table, or was into one, that is told.
pub record GoesOnWithKeys (now : ProfiledText) (old : KindsRun) (table : Option NewTable) (edits : List Edit)
    (number : ℕ) (new : KindsRun) (next : Option NewTable) : Type 0 where
  pub edit : Edit
  pub here : get_or edits number edit ≡ edit
  pub by : AddsBehind now old edit new next
      ⊎ ((t : NewTable) × ((table ≡ Some t) × ((next ≡ Some t) × AddsInside now old t edit new)))
  pub run : IsRunOn now new
  pub none : IsPlainRun new
  pub known : IfSome next (IsKnownTable now new)

-- ---- the edits so far

-- They are made. If the last of them made a table, or was into one, further keys go into it.
pub record IsKeyedRunTo (s : Document) (edits : List Edit) (end : ℕ) (old now : ProfiledText) (before : Document)
    (outlines : List Outline) (changes : List TextChange) (adds : AddedLines) (arrays gone : List (List Part))
    (table : Option NewTable) : Type 0 where
  pub to : IsElementRunTo s edits end old now before outlines changes adds arrays gone
  pub opened : (t : NewTable) → table ≡ Some t
      → IsOpen now.profile limit before to.es changes to.made.tree t.path.now t.kind
