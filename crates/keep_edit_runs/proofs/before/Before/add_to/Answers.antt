-- An edit is added to a run in four steps: the others leave it alone; it makes its change; its place is kept, or it may
-- come in the place of what another takes; and its change is put beside theirs, in order with the lines, or at the end
-- of the text. The first two leave all else of the run as it was, so what is known of the run before is known of what
-- is
-- left of it after them.
use Rattle.std.proofs.Common.{◌≡◌, ◌∙◌, Bor, Global, List, None, Option, Some, String, ap, refl, subst, sym}
use Rattle.keep_edit_plan.specs.Reading.{ProfiledText}
use Rattle.keep_edit_runs.specs.KindsRun.{IsAlone, IsRunOn, with_paths}
use Rattle.keep_edit_runs.specs.Newlines.{IsNewlineOf}
use Rattle.keep_edit_runs.specs.Runs.{MakesInRunHere}
use Rattle.keep_edit_runs.specs.declared.kinds_run.KindsRun.{KindsRun}
use Rattle.keep_edit_runs.specs.declared.opened.OpenValues.{OpenValues}
use Rattle.keep_edit_runs.specs.declared.outline.Outline.{Outline}
use Rattle.keep_edit_runs.proofs.NewlineSteps.{appended_here}
use Rattle.keep_edit_runs.proofs.SameRuns.{added_as, adds_in_place, adds_one, alone_as, appends_one, on_planned}
use Rattle.keep_edit_runs.proofs.SameRuns.{planned, puts_below, run_at_end, run_before, run_in_place, unchanged_as}
use Rattle.keep_edit_runs.proofs.before.Before.add_to.Goals as goal

-- there is none if it is no keys
none_unless : (o : Option (Bor (List (String Global)))) → ((x : Bor (List (String Global))) → o ≡ Some x → ⊥) → o ≡ None
none_unless None h = refl
none_unless (Some x) h = absurd (h x refl)

-- the run after the first two steps
module _ (old left : KindsRun) (opened : OpenValues) (planner : ProfiledText)
    (is : left ≡ with_paths old old.paths left.left) where
  abbrev then : KindsRun
  then = record left { opened = opened; planner = planner }

  then_is : then ≡ planned old opened planner left.left
  then_is = ap (λ (r : KindsRun). record r { opened = opened; planner = planner }) is

  then_on : (now : ProfiledText) → IsRunOn now old → planner ≡ left.planner → IsRunOn now then
  then_on now run same =
      on_planned old then opened planner left.left then_is now run
      (same ∙ ap (λ (r : KindsRun). r.planner) is ∙ run.planner)

  then_alone : (o : Outline) → IsAlone old o → IsAlone then o
  then_alone = alone_as old then opened planner left.left then_is

pub keeps_place_in-requires-clause-run : goal.keeps_place_in-requires-clause-run
keeps_place_in-requires-clause-run c =
    then_on c.args.run.now c.is_left_alone.new.self c.change_in_run.new.opened c.change_in_run.new.planner
    c.is_left_alone.ensures.rest c.args.self.now c.requires.run c.change_in_run.ensures.planner

pub add_in_place-requires-clause-run : goal.add_in_place-requires-clause-run
add_in_place-requires-clause-run c =
    then_on c.args.run.now c.is_left_alone.new.self c.change_in_run.new.opened c.change_in_run.new.planner
    c.is_left_alone.ensures.rest c.args.self.now
    c.requires.run c.change_in_run.ensures.planner

pub returns-then-not-keeps_place_in-clause-added : goal.returns-then-not-keeps_place_in-clause-added
returns-then-not-keeps_place_in-clause-added c = λ added.
    let now = c.args.self.now in
    let x = c.args.edit.now in
    let old = c.args.run.now in
    let o = c.of-outline.result in
    let made = c.in-Some.made in
    let left = c.is_left_alone.new.self in
    let opened = c.change_in_run.new.opened in
    let planner = c.change_in_run.new.planner in
    let then : KindsRun = record left { opened = opened; planner = planner } in
    let new = c.add_in_place.new.run in
    let is = then_is old left opened planner c.is_left_alone.ensures.rest in
    let makes = subst (λ a. MakesInRunHere now x a made.change made.line) (sym c.of-outline.ensures)
    c.in-Some.ensures.made in
    let alone = alone_as old then opened planner left.left is o
    (c.is_left_alone.ensures.alone c.if-not-is_left_alone.false) in
    added_as old then opened planner left.left is now x new
    (adds_in_place now then x o made.change made.line new makes alone (c.add_in_place.ensures.added added))

pub returns-then-not-keeps_place_in-clause-run : goal.returns-then-not-keeps_place_in-clause-run
returns-then-not-keeps_place_in-clause-run c = λ added.
    let now = c.args.self.now in
    let made = c.in-Some.made in
    let run = then_on c.args.run.now c.is_left_alone.new.self c.change_in_run.new.opened c.change_in_run.new.planner
    c.is_left_alone.ensures.rest now c.requires.run
    c.change_in_run.ensures.planner in
    run_in_place now
    (record c.is_left_alone.new.self { opened = c.change_in_run.new.opened; planner = c.change_in_run.new.planner })
    c.of-outline.result made.change made.line c.add_in_place.new.run run
    (then_alone c.args.run.now c.is_left_alone.new.self c.change_in_run.new.opened c.change_in_run.new.planner
    c.is_left_alone.ensures.rest c.of-outline.result
    (c.is_left_alone.ensures.alone c.if-not-is_left_alone.false))
    (c.add_in_place.ensures.added added)

pub returns-then-not-keeps_place_in-clause-refused : goal.returns-then-not-keeps_place_in-clause-refused
returns-then-not-keeps_place_in-clause-refused c = λ refused.
    let old = c.args.run.now in
    let left = c.is_left_alone.new.self in
    let opened = c.change_in_run.new.opened in
    let planner = c.change_in_run.new.planner in
    let then : KindsRun = record left { opened = opened; planner = planner } in
    unchanged_as old then opened planner left.left
    (then_is old left opened planner c.is_left_alone.ensures.rest)
    c.add_in_place.new.run (c.add_in_place.ensures.refused refused)

pub append-requires : goal.append-requires
append-requires c =
    (then_on c.args.run.now c.is_left_alone.new.self c.change_in_run.new.opened c.change_in_run.new.planner
    c.is_left_alone.ensures.rest c.args.self.now
    c.requires.run c.change_in_run.ensures.planner).seen

pub put_below-requires-clause-seen : goal.put_below-requires-clause-seen
put_below-requires-clause-seen c =
    (then_on c.args.run.now c.is_left_alone.new.self c.change_in_run.new.opened c.change_in_run.new.planner
    c.is_left_alone.ensures.rest c.args.self.now
    c.requires.run c.change_in_run.ensures.planner).seen

pub returns-in-Some-header_keys-clause-added : goal.returns-in-Some-header_keys-clause-added
returns-in-Some-header_keys-clause-added c = λ added.
    let now = c.args.self.now in
    let newline = subst (λ (d : ProfiledText). IsNewlineOf d c.self.inside.newline) c.self.view_is c.self.invariant.1 in
    let x = c.args.edit.now in
    let old = c.args.run.now in
    let o = c.of-outline.result in
    let made = c.in-Some.made in
    let left = c.is_left_alone.new.self in
    let opened = c.change_in_run.new.opened in
    let planner = c.change_in_run.new.planner in
    let then : KindsRun = record left { opened = opened; planner = planner } in
    let new = c.append.new.self in
    let is = then_is old left opened planner c.is_left_alone.ensures.rest in
    let makes = subst (λ a. MakesInRunHere now x a made.change made.line) (sym c.of-outline.ensures)
    c.in-Some.ensures.made in
    let alone = alone_as old then opened planner left.left is o
    (c.is_left_alone.ensures.alone c.if-not-is_left_alone.false) in
    let placed = c.keeps_place_in.ensures c.if-not-keeps_place_in.false in
    added_as old then opened planner left.left is now x new
    (appends_one now then x o made.change made.line new makes alone placed c.in-Some-header_keys.keys
    c.in-Some-header_keys.ensures.keys
    (appended_here now c.self.inside.newline newline then o c.in-Some-header_keys.keys made.change new
    (c.append.ensures.appended added)))

pub returns-in-Some-header_keys-clause-run : goal.returns-in-Some-header_keys-clause-run
returns-in-Some-header_keys-clause-run c = λ added.
    let appended = c.append.ensures.appended added in
    let new = c.append.new.self in
    let run = then_on c.args.run.now c.is_left_alone.new.self c.change_in_run.new.opened c.change_in_run.new.planner
    c.is_left_alone.ensures.rest c.args.self.now
    c.requires.run c.change_in_run.ensures.planner in
    run_at_end c.args.self.now
    (record c.is_left_alone.new.self { opened = c.change_in_run.new.opened; planner = c.change_in_run.new.planner }) new
    c.of-outline.result new.lines new.tail run
    (then_alone c.args.run.now c.is_left_alone.new.self c.change_in_run.new.opened c.change_in_run.new.planner
    c.is_left_alone.ensures.rest c.of-outline.result
    (c.is_left_alone.ensures.alone c.if-not-is_left_alone.false))
    appended.rest appended.outlines

pub returns-in-Some-header_keys-clause-refused : goal.returns-in-Some-header_keys-clause-refused
returns-in-Some-header_keys-clause-refused c = λ refused.
    let old = c.args.run.now in
    let left = c.is_left_alone.new.self in
    let opened = c.change_in_run.new.opened in
    let planner = c.change_in_run.new.planner in
    let then : KindsRun = record left { opened = opened; planner = planner } in
    unchanged_as old then opened planner left.left
    (then_is old left opened planner c.is_left_alone.ensures.rest)
    c.append.new.self (c.append.ensures.refused refused)

pub returns-then-comes_below-clause-added : goal.returns-then-comes_below-clause-added
returns-then-comes_below-clause-added c = λ added.
    let now = c.args.self.now in
    let x = c.args.edit.now in
    let old = c.args.run.now in
    let o = c.of-outline.result in
    let made = c.in-Some.made in
    let left = c.is_left_alone.new.self in
    let opened = c.change_in_run.new.opened in
    let planner = c.change_in_run.new.planner in
    let then : KindsRun = record left { opened = opened; planner = planner } in
    let new = c.put_below.new.run in
    let is = then_is old left opened planner c.is_left_alone.ensures.rest in
    let makes = subst (λ a. MakesInRunHere now x a made.change made.line) (sym c.of-outline.ensures)
    c.in-Some.ensures.made in
    let alone = alone_as old then opened planner left.left is o
    (c.is_left_alone.ensures.alone c.if-not-is_left_alone.false) in
    let placed = c.keeps_place_in.ensures c.if-not-keeps_place_in.false in
    added_as old then opened planner left.left is now x new
    (puts_below now then x o made.change made.line new makes alone placed (c.put_below.ensures.put added))

pub returns-then-comes_below-clause-run : goal.returns-then-comes_below-clause-run
returns-then-comes_below-clause-run c = λ added.
    let put = c.put_below.ensures.put added in
    let new = c.put_below.new.run in
    let run = then_on c.args.run.now c.is_left_alone.new.self c.change_in_run.new.opened c.change_in_run.new.planner
    c.is_left_alone.ensures.rest c.args.self.now
    c.requires.run c.change_in_run.ensures.planner in
    run_at_end c.args.self.now
    (record c.is_left_alone.new.self { opened = c.change_in_run.new.opened; planner = c.change_in_run.new.planner }) new
    c.of-outline.result new.lines new.tail run
    (then_alone c.args.run.now c.is_left_alone.new.self c.change_in_run.new.opened c.change_in_run.new.planner
    c.is_left_alone.ensures.rest c.of-outline.result
    (c.is_left_alone.ensures.alone c.if-not-is_left_alone.false))
    put.rest put.outlines

pub returns-then-comes_below-clause-refused : goal.returns-then-comes_below-clause-refused
returns-then-comes_below-clause-refused c = λ refused.
    let old = c.args.run.now in
    let left = c.is_left_alone.new.self in
    let opened = c.change_in_run.new.opened in
    let planner = c.change_in_run.new.planner in
    let then : KindsRun = record left { opened = opened; planner = planner } in
    unchanged_as old then opened planner left.left
    (then_is old left opened planner c.is_left_alone.ensures.rest)
    c.put_below.new.run (c.put_below.ensures.refused refused)

pub returns-clause-added : goal.returns-clause-added
returns-clause-added c = λ added.
    let now = c.args.self.now in
    let x = c.args.edit.now in
    let old = c.args.run.now in
    let o = c.of-outline.result in
    let made = c.in-Some.made in
    let left = c.is_left_alone.new.self in
    let opened = c.change_in_run.new.opened in
    let planner = c.change_in_run.new.planner in
    let then : KindsRun = record left { opened = opened; planner = planner } in
    let new = c.add_before.new.run in
    let is = then_is old left opened planner c.is_left_alone.ensures.rest in
    let makes = subst (λ a. MakesInRunHere now x a made.change made.line) (sym c.of-outline.ensures)
    c.in-Some.ensures.made in
    let alone = alone_as old then opened planner left.left is o
    (c.is_left_alone.ensures.alone c.if-not-is_left_alone.false) in
    let placed = c.keeps_place_in.ensures c.if-not-keeps_place_in.false in
    added_as old then opened planner left.left is now x new
    (adds_one now then x o made.change made.line new makes alone placed
    (c.header_keys.ensures.other (none_unless c.header_keys.result c.in_default-header_keys.not-Some))
    (c.add_before.ensures.added added))

pub returns-clause-run : goal.returns-clause-run
returns-clause-run c = λ added.
    let now = c.args.self.now in
    let made = c.in-Some.made in
    let run = then_on c.args.run.now c.is_left_alone.new.self c.change_in_run.new.opened c.change_in_run.new.planner
    c.is_left_alone.ensures.rest now c.requires.run
    c.change_in_run.ensures.planner in
    run_before now
    (record c.is_left_alone.new.self { opened = c.change_in_run.new.opened; planner = c.change_in_run.new.planner })
    c.args.edit.now c.of-outline.result made.change made.line
    c.add_before.new.run run
    (then_alone c.args.run.now c.is_left_alone.new.self c.change_in_run.new.opened c.change_in_run.new.planner
    c.is_left_alone.ensures.rest c.of-outline.result
    (c.is_left_alone.ensures.alone c.if-not-is_left_alone.false))
    (c.add_before.ensures.added added)

pub returns-clause-refused : goal.returns-clause-refused
returns-clause-refused c = λ refused.
    let old = c.args.run.now in
    let left = c.is_left_alone.new.self in
    let opened = c.change_in_run.new.opened in
    let planner = c.change_in_run.new.planner in
    let then : KindsRun = record left { opened = opened; planner = planner } in
    unchanged_as old then opened planner left.left
    (then_is old left opened planner c.is_left_alone.ensures.rest)
    c.add_before.new.run (c.add_before.ensures.refused refused)
