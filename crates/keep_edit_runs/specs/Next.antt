-- How a list of edits goes on.
use Rattle.std.specs.Prelude.{⊤, ℕ, All, List}
use Rattle.keep_edit_plan.specs.Reading.{ProfiledText}
use Rattle.keep_edit_plan.specs.TextEdits.{IsChangeIn}
use Rattle.keep_edit_plan.specs.declared.edit.Edit.{Edit}
use Rattle.keep_edit_runs.specs.Runs.{MakeChanges}
use Rattle.keep_edit_runs.specs.declared.next.Next.{Next}
use Rattle.keep_edit_runs.specs.declared.next.Next.TheVariants.{AtOnce, OneByOne}

-- the number of the first edit after those
abbrev pub end_of : Next → ℕ
end_of (AtOnce run) = run.end
end_of (OneByOne end) = end

-- Those from number `first` on that are made at once make these changes of the text, each within it.
abbrev pub GoesOnTo : List Edit → ℕ → ProfiledText → Next → Type 0
GoesOnTo edits first now (AtOnce run) =
    MakeChanges edits first run.end now run.changes × All (IsChangeIn now.text) run.changes
GoesOnTo edits first now (OneByOne end) = ⊤
