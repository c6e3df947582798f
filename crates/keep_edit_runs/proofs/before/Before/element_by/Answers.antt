-- The array of the element is kept, and its path is where paths change once the element is gone: so the edits at the
-- end of the text are elsewhere than there.
use Rattle.std.proofs.Common.{◌≡◌, ◌∙◌, All, Some, ap, length, subst, subst₂}
use Rattle.keep_edit_spec.specs.Edits.{remove}
use Rattle.keep_edit_spec.specs.ElementRuns.{IsElsewhere, changed_path}
use Rattle.keep_edit_plan.specs.Reading.{ProfiledText}
use Rattle.keep_edit_runs.specs.GoneBetween.{RemovesElementHere}
use Rattle.keep_edit_runs.specs.KindsRun.{LetsChange, with_gone}
use Rattle.keep_edit_runs.specs.Newlines.{IsNewlineOf, LeavesBy}
use Rattle.keep_edit_runs.specs.Runs.{outlined}
use Rattle.keep_edit_runs.specs.declared.gone_between.GoneBetween.{GoneBetween}
use Rattle.keep_edit_runs.specs.declared.kinds_run.KindsRun.{KindsRun}
use Rattle.keep_edit_runs.specs.declared.tail.Tail.{Tail}
use Rattle.keep_edit_runs.proofs.ElementArrays.{element_here, removed_path}
use Rattle.keep_edit_runs.proofs.NewlineSteps.{lets_here}
use Rattle.keep_edit_runs.proofs.before.Before.element_by.Goals as goal

pub returns-clause-found : goal.returns-clause-found
returns-clause-found c =
    let now = c.args.self.now in
    let newline = subst (λ (d : ProfiledText). IsNewlineOf d c.self.inside.newline) c.self.view_is c.self.invariant.1 in
    let old = c.args.run.now in
    let x = c.args.edit.now in
    let path = c.in-Remove.path in
    let array = c.in_ok-array_of.field-0 in
    let change = c.in_ok-change.change in
    let kept = c.keep_array.ensures.kept c.if-not-keep_array.false in
    let gone : GoneBetween =
    record { elements = c.section_by.new.gone; arrays = c.keep_array.new.self.gone.arrays } in
    let outlines = old.so_far.outlines.items in
    let removes : RemovesElementHere now old.gone gone outlines x change =
    element_here now old.gone gone c.keep_array.new.self.gone.elements outlines x path array (Some change)
    kept.elements c.in-Remove.is c.in_ok-array_of.ensures kept.own kept.elsewhere c.in_ok-change.ensures in
    let here : array ≡ changed_path removes.header.path =
    c.in_ok-array_of.ensures
    ∙ ap changed_path (removed_path x path removes.header.path c.in-Remove.is removes.header.is) in
    record {
      removes = removes;
      arrays = kept.arrays;
      elsewhere = kept.elsewhere;
      tail = subst (λ a. All (λ o. IsElsewhere a (outlined o)) old.tail.outlines.items) here kept.tail;
      lets = lets_here now c.self.inside.newline newline old.tail.blocks.items (length now.text)
          (remove removes.header.path) change
          (subst₂ (λ (l : Tail) (d : ProfiledText).
          LetsChange (LeavesBy c.self.inside.newline) l.blocks.items (length d.text) (remove removes.header.path)
          change) c.keep_array.ensures.tail c.self.view_is
          (c.lets_section.ensures c.if-not-lets_section.false removes.header.path));
      seen = record {
        edits = kept.seen.edits;
        arrays = kept.seen.arrays;
        tail = kept.seen.tail;
        elements = kept.seen.elements;
      };
      rest = ap (λ (r : KindsRun). with_gone r c.keep_array.new.self.paths gone) kept.rest;
    }
