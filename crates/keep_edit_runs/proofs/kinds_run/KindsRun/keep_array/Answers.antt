-- An array that is there already is known, and the edits of the run are elsewhere than in it; those at the end of the
-- text are compared with it. A new one is known then by its path, too.
use Rattle.std.proofs.Common.{◌∙◌, All, List, refl, subst, sym}
use Rattle.std.specs.Result.{is_ok}
use Rattle.std.proofs.lemmas.List.Elements.{All-push, All-weaker}
use Rattle.keep_path.specs.Path.{Part}
use Rattle.keep_edit_spec.specs.ElementRuns.{IsElsewhere}
use Rattle.keep_edit_runs.specs.Runs.{outlined}
use Rattle.keep_edit_runs.specs.SeenPaths.{IsArraySeen, IsSeen}
use Rattle.keep_edit_runs.specs.declared.outline.Outline.{Outline}
use Rattle.keep_edit_runs.specs.declared.outline.Outline.TheVariants.{Remove}
use Rattle.keep_edit_runs.proofs.ElementArrays.{array_still, own_array, pushed, with_array}
use Rattle.keep_edit_runs.proofs.ElementsAlone.{alone_apart}
use Rattle.keep_edit_runs.proofs.SeenLaws.{was_added}
use Rattle.keep_edit_runs.proofs.SeenPathLaws.{arrays_still}
use Rattle.keep_edit_runs.proofs.kinds_run.KindsRun.keep_array.Goals as goal
use Rattle.keep_edit_runs.proofs.kinds_run.KindsRun.keep_array.Goals.{else-are_elsewhere, then-are_elsewhere}

pub returns-then-has_array-clause-kept : goal.returns-then-has_array-clause-kept
returns-then-has_array-clause-kept c = λ kept.
    let seen = c.requires.seen in
    record {
      own = c.has_array.ensures c.if-has_array.true;
      arrays = λ a has. has;
      elsewhere = c.requires.elsewhere;
      tail = c.are_elsewhere.ensures kept;
      seen = record {
        edits = seen.edits;
        arrays = seen.arrays;
        tail = seen.tail;
        elements = seen.elements;
      };
      elements = refl;
      rest = refl;
    }

pub returns-then-unwrap_or-clause-kept : goal.returns-then-unwrap_or-clause-kept
returns-then-unwrap_or-clause-kept c = λ kept.
    let old = c.args.self.now in
    let array = c.args.array in
    let arrays = old.gone.arrays.items in
    let now = c.push.new.self.items in
    let outlines = old.so_far.outlines.items in
    let paths = c.add.new.self in
    let is = pushed arrays now array (is_ok c.push.result) c.push.ensures.items (sym c.is_ok.ensures.value ∙ kept) in
    let elsewhere : All (λ (o : Outline). IsElsewhere array (outlined o)) outlines =
    elim c.if-are_elsewhere.branch [
      | else-are_elsewhere w ↦
          subst (All (λ (o : Outline). IsElsewhere array (outlined o))) w.as_slice.ensures.value
          (w.are_elsewhere-else-are_elsewhere.ensures
          (sym w.value-is ∙ c.if-not-are_elsewhere.false))
      | then-are_elsewhere w ↦
          All-weaker (IsSeen old.paths) (λ (o : Outline). IsElsewhere array (outlined o))
          (c.are_elsewhere-2.ensures w.if-are_elsewhere.true) outlines c.requires.seen.edits
    ] in
    let seen : IsArraySeen paths array =
    subst (λ (a : List Part). IsSeen paths (Remove a)) c.same.ensures
    (was_added (IsSeen paths (Remove c.same.result)) c.add.result c.add.ensures.seen
    (sym c.unwrap_or.ensures ∙ c.if-unwrap_or.true)) in
    record {
      own = own_array arrays now array is;
      arrays = array_still arrays now array is;
      elsewhere = with_array arrays now array is outlines c.requires.elsewhere elsewhere;
      tail = c.are_elsewhere-3.ensures c.if-not-are_elsewhere-2.false;
      seen = record {
        edits = All-weaker (IsSeen old.paths) (IsSeen paths) c.add.ensures.others outlines c.requires.seen.edits;
        arrays = subst (All (IsArraySeen paths)) (sym is)
            (All-push (IsArraySeen paths) arrays array
            (arrays_still old.paths paths c.add.ensures.others arrays c.requires.seen.arrays) seen);
        tail = c.requires.seen.tail;
        elements = alone_apart outlines old.tail.outlines.items arrays c.requires.seen.elements now array is
            (c.are_elsewhere-3.ensures c.if-not-are_elsewhere-2.false);
      };
      elements = refl;
      rest = refl;
    }
