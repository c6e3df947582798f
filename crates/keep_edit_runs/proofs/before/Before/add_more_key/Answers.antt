-- The others leave the insert of the further key alone, and it makes its own change behind theirs.
use Rattle.std.proofs.Common.{◌≡◌, ◌∙◌, ◌+◌, ◌<◌, List, Some, ap, arith, length, rules, subst, take}
use Rattle.keep_path.specs.Path.{Part}
use Rattle.keep_edit_spec.specs.Edits as law
use Rattle.keep_edit_spec.specs.declared.line_kind.LineKind.TheVariants.{LastInBody}
use Rattle.keep_edit_plan.specs.Reading.{ProfiledText}
use Rattle.keep_edit_runs.specs.KindsRun.{with_paths}
use Rattle.keep_edit_runs.specs.Runs.{MakesItselfHere, no_value}
use Rattle.keep_edit_runs.specs.declared.kinds_run.KindsRun.{KindsRun}
use Rattle.keep_edit_runs.specs.declared.outline.Outline.{Outline}
use Rattle.keep_edit_runs.specs.declared.outline.Outline.TheVariants as kind
use Rattle.keep_edit_runs.proofs.KeysLetIn.{still_known}
use Rattle.keep_edit_runs.proofs.MoreKeySteps.{behind_as, gone_as, next_below, outlines_as, run_last}
use Rattle.keep_edit_runs.proofs.SameRuns.{alone_as, on_planned, planned}
use Rattle.keep_edit_runs.proofs.before.Before.add_more_key.Goals as goal

-- the run when its change is planned
then_is : (old left : KindsRun) (planner : ProfiledText) → left ≡ with_paths old old.paths left.left
    → record left { planner = planner } ≡ planned old old.opened planner left.left
then_is old left planner is = ap (λ (r : KindsRun). record r { planner = planner }) is

pub lets_key-requires-clause-key : goal.lets_key-requires-clause-key
lets_key-requires-clause-key c =
    let more = c.requires.more in
    let path_is : c.in-Insert.path ≡ more.path = search rules in
    let count = c.args.table.count in
    let few : count < length more.path =
    omega (arith, c.if-table-len.false, c.len.ensures.count, ap (λ (p : List Part). length p) path_is) in
    let here = c.first.ensures ∙ ap (take (count + 1)) path_is
    ∙ next_below c.args.self.now c.args.table c.args.edit.now more few in
    (more.apart.next, ap (λ (p : List Part). kind.Insert p) here)

pub returns-clause-added : goal.returns-clause-added
returns-clause-added c = λ yes.
    let now = c.args.self.now in
    let x = c.args.edit.now in
    let old = c.args.run.now in
    let left = c.lets_key.new.self in
    let planner = c.change_by_itself.new.planner in
    let then : KindsRun = record left { planner = planner } in
    let new = c.add_last.new.run in
    let o : Outline = kind.Insert c.first.result in
    let made = c.in-Some.made in
    let is = then_is old left planner c.lets_key.ensures.rest in
    let last : made.line ≡ Some c.args.table.kind = c.is_of_kind.ensures c.if-not-is_of_kind.false in
    let more = c.requires.more in
    let path_is : c.in-Insert.path ≡ more.path = search rules in
    let count = c.args.table.count in
    let few : count < length more.path =
    omega (arith, c.if-table-len.false, c.len.ensures.count, ap (λ (p : List Part). length p) path_is) in
    let added = c.add_last.ensures.added yes in
    record {
      more = more;
      outline = o;
      is = ap (λ (p : List Part). law.insert p no_value)
          (c.first.ensures ∙ ap (take (count + 1)) path_is ∙ next_below now c.args.table x more few);
      change = made.change;
      makes = subst (MakesItselfHere now x made.change) last c.in-Some.ensures.made;
      alone = c.lets_key.ensures.alone c.if-not-lets_key.false;
      added = behind_as now old then new old.opened planner left.left is o made.change (Some LastInBody) added;
      outlines = outlines_as now old then new old.opened planner left.left is o made.change (Some LastInBody)
          added;
      gone = gone_as now old then new old.opened planner left.left is o made.change (Some LastInBody) added;
    }

pub returns-clause-lets : goal.returns-clause-lets
returns-clause-lets c = λ yes.
    still_known c.args.self.now c.args.run.now c.add_last.new.run c.args.table c.args.edit.now c.requires.lets
    (returns-clause-added c yes)

pub returns-clause-run : goal.returns-clause-run
returns-clause-run c = λ yes.
    let now = c.args.self.now in
    let old = c.args.run.now in
    let left = c.lets_key.new.self in
    let rest = c.lets_key.ensures.rest in
    let planner = c.change_by_itself.new.planner in
    let then : KindsRun = record left { planner = planner } in
    let o : Outline = kind.Insert c.first.result in
    let made = c.in-Some.made in
    let is = then_is old left planner rest in
    let (run, none) = c.requires.run in
    run_last now old then c.add_last.new.run old.opened planner left.left is o made.change (Some LastInBody)
    (c.add_last.ensures.added yes) c.args.edit.now
    (on_planned old then old.opened planner left.left is now run
    (c.change_by_itself.ensures.planner ∙ ap (λ (r : KindsRun). r.planner) rest ∙ run.planner))
    (alone_as old then old.opened planner left.left is o
    (c.lets_key.ensures.alone c.if-not-lets_key.false)) none
