-- A run of edits of several kinds, and the same run after an edit's change was planned: what was opened and planned,
-- and how many pairs may still be compared is another (`planned`). All else is as it was, so what one edit more does to
-- the one it does to the other.
--
-- Theorems: `on_planned`: the run is still of that text; `alone_as`, `added_as`, `unchanged_as`: what an edit does to
-- it; `run_before`, `run_in_place`, `run_at_end`: the run with one edit more, before what is at the end of the text, or
-- there; `adds_one`, `appends_one`, `puts_below`, `adds_in_place`: what that edit does.
use Rattle.std.proofs.Common.{[], ◌≡◌, ◌∙◌, ◌∷◌, ◌++◌, ℕ, All, Bor, Global, List, Option, String, ap, false, inl, inr}
use Rattle.std.proofs.Common.{refl, subst, subst₂, sym}
use Rattle.std.proofs.lemmas.List.Elements.{All-cons, All-nil}
use Rattle.keep_edit_spec.specs.Runs.{is_header}
use Rattle.keep_edit_spec.specs.declared.line_kind.LineKind.{LineKind}
use Rattle.keep_edit_plan.specs.Reading.{ProfiledText}
use Rattle.keep_edit_plan.specs.TextEdits.{change_of}
use Rattle.keep_edit_plan.specs.declared.edit.Edit.{Edit}
use Rattle.keep_edit_plan.specs.declared.text_edit.TextEdit.{TextEdit}
use Rattle.keep_edit_runs.specs.KindsRun.{AddsAny, IsAddedBefore, IsAddedInPlace, IsAlone, IsAppended}
use Rattle.keep_edit_runs.specs.KindsRun.{IsInsertedBelow, IsOfHeader}
use Rattle.keep_edit_runs.specs.KindsRun.{IsPlacedAmong, IsRunOn, IsUnchanged, with_tail}
use Rattle.keep_edit_runs.specs.Newlines.{LeavesEndHere}
use Rattle.keep_edit_runs.specs.Runs.{IsAddedBehind, LeavesAlone, MakesInRunHere, outlined}
use Rattle.keep_edit_runs.specs.SeenPaths.{IsArraySeen, IsSeen}
use Rattle.keep_edit_runs.specs.Tail.{IsOutlineAdded}
use Rattle.keep_edit_runs.specs.declared.added_lines.AddedLines.{AddedLines}
use Rattle.keep_edit_runs.specs.declared.gone_between.GoneBetween.{GoneBetween}
use Rattle.keep_edit_runs.specs.declared.kinds_run.KindsRun.{KindsRun}
use Rattle.keep_edit_runs.specs.declared.opened.OpenValues.{OpenValues}
use Rattle.keep_edit_runs.specs.declared.outline.Outline.{Outline}
use Rattle.keep_edit_runs.specs.declared.tail.Block.{Block}
use Rattle.keep_edit_runs.specs.declared.tail.Tail.{Tail}
use Rattle.keep_edit_runs.proofs.ElementsAlone.{AreElementsAlone, alone_at_end, alone_before}
use Rattle.keep_edit_runs.proofs.SeenLaws.{more_seen}
use Rattle.keep_edit_runs.proofs.SeenPathLaws.{arrays_still}

-- what comes at the end of the text
abbrev pub blocks_in : Tail → List Block
blocks_in tail = tail.blocks.items

abbrev pub planned : KindsRun → OpenValues → ProfiledText → ℕ → KindsRun
planned run opened planner left = record run { opened = opened; planner = planner; left = left }

module _ (old then : KindsRun) (opened : OpenValues) (planner : ProfiledText) (left : ℕ)
    (is : then ≡ planned old opened planner left) where
  pub on_planned : (now : ProfiledText) → IsRunOn now old → planner ≡ now → IsRunOn now then
  on_planned now run same = subst (IsRunOn now) (sym is) (record {
    seen = record {
      edits = run.seen.edits;
      arrays = run.seen.arrays;
      tail = run.seen.tail;
      elements = run.seen.elements;
    };
    newline = run.newline;
    planner = same;
  })

  pub alone_as : (o : Outline) → IsAlone old o → IsAlone then o
  alone_as o alone = subst (λ (r : KindsRun). IsAlone r o) (sym is) alone

  pub unchanged_as : (new : KindsRun) → IsUnchanged then new → IsUnchanged old new
  unchanged_as new = subst (λ (r : KindsRun). IsUnchanged r new → IsUnchanged old new) (sym is) (λ h. record {
    changes = h.changes;
    tail = h.tail;
  })

  pub added_as : (now : ProfiledText) (x : Edit) (new : KindsRun) → AddsAny now then x new → AddsAny now old x new
  added_as now x new = subst (λ (r : KindsRun). AddsAny now r x new → AddsAny now old x new) (sym is) by
    where
      by : AddsAny now (planned old opened planner left) x new → AddsAny now old x new
      by (inl h) = inl (record {
        outline = h.outline;
        other = h.other;
        change = h.change;
        line = h.line;
        makes = h.makes;
        alone = h.alone;
        lets = h.lets;
        placed = h.placed;
        added = h.added;
        outlines = h.outlines;
        gone = h.gone;
        tail = h.tail;
      })
      by (inr (inl h)) =
          let put = h.appended in
          inr (inl (record {
            outline = h.outline;
            keys = h.keys;
            header = h.header;
            change = h.change;
            line = h.line;
            makes = h.makes;
            alone = h.alone;
            placed = h.placed;
            appended = record {
              leaves = put.leaves;
              lines = put.lines;
              added = put.added;
              outlines = put.outlines;
              rest = refl;
            };
            same = h.same;
            gone = h.gone;
          }))
      by (inr (inr (inl h))) =
          let put = h.inserted in
          inr (inr (inl (record {
            outline = h.outline;
            change = h.change;
            line = h.line;
            makes = h.makes;
            alone = h.alone;
            placed = h.placed;
            inserted = record {
              first = put.first;
              is = put.is;
              line_is = put.line_is;
              clear = put.clear;
              beside = put.beside;
              number = put.number;
              block = put.block;
              text = put.text;
              written = put.written;
              leaves = put.leaves;
              lines = put.lines;
              put = put.put;
              outlines = put.outlines;
              rest = refl;
            };
            same = h.same;
            gone = h.gone;
          })))
      by (inr (inr (inr h))) = inr (inr (inr (record {
        outline = h.outline;
        first = h.first;
        is = h.is;
        change = h.change;
        makes = h.makes;
        alone = h.alone;
        lets = h.lets;
        newline = h.newline;
        leaves = h.leaves;
        freed = h.freed;
        none = h.none;
        added = h.added;
        outlines = h.outlines;
        gone = h.gone;
        tail = h.tail;
      })))

-- ---- one edit more

-- the elements at the end of the text are left alone
still_alone : {now : ProfiledText} (old new : KindsRun) (o : Outline) → IsRunOn now old → IsAlone old o
    → new.so_far.outlines.items ≡ old.so_far.outlines.items ++ o ∷ [] → new.tail ≡ old.tail → new.gone ≡ old.gone
    → AreElementsAlone new.so_far.outlines.items new.tail.outlines.items new.gone.arrays.items
still_alone old new o run alone outlines tail gone =
    subst₂ (λ (l : Tail) (g : GoneBetween).
    AreElementsAlone new.so_far.outlines.items l.outlines.items g.arrays.items) (sym tail) (sym gone)
    (subst (λ (l : List Outline). AreElementsAlone l old.tail.outlines.items old.gone.arrays.items) (sym outlines)
    (alone_before old.so_far.outlines.items old.tail.outlines.items old.gone.arrays.items run.seen.elements (o ∷ [])
    (All-cons (λ (x : Outline). All (λ y. LeavesAlone y x) old.tail.outlines.items) o [] alone.tail
    (All-nil (λ (x : Outline). All (λ y. LeavesAlone y x) old.tail.outlines.items)))))

-- before what is at the end of the text
pub run_before : (now : ProfiledText) (old : KindsRun) (x : Edit) (o : Outline) (t : TextEdit) (line : Option LineKind)
    (new : KindsRun) → IsRunOn now old → IsAlone old o → IsAddedBefore now old x o t line new → IsRunOn now new
run_before now old x o t line new run alone added = record {
  seen = record {
    edits = subst (All (IsSeen new.paths)) (sym added.outlines)
        (more_seen (IsSeen old.paths) (IsSeen new.paths) old.so_far.outlines.items o added.others added.seen
        run.seen.edits);
    arrays = subst (λ (g : GoneBetween). All (IsArraySeen new.paths) g.arrays.items)
        (sym (ap (λ (r : KindsRun). r.gone) added.rest))
        (arrays_still old.paths new.paths added.others old.gone.arrays.items run.seen.arrays);
    tail = subst (λ (l : Tail). All (IsSeen l.paths) l.outlines.items)
        (sym (ap (λ (r : KindsRun). r.tail) added.rest)) run.seen.tail;
    elements = still_alone old new o run alone added.outlines (ap (λ (r : KindsRun). r.tail) added.rest)
        (ap (λ (r : KindsRun). r.gone) added.rest);
  };
  newline = λ yes. let (before, more) = added.newline yes in more (run.newline before);
  planner = ap (λ (r : KindsRun). r.planner) added.rest ∙ run.planner;
}

-- so it is in the place of what another takes
pub run_in_place : (now : ProfiledText) (old : KindsRun) (o : Outline) (t : TextEdit) (line : Option LineKind)
    (new : KindsRun) → IsRunOn now old → IsAlone old o → IsAddedInPlace now old o t line new → IsRunOn now new
run_in_place now old o t line new run alone added = record {
  seen = record {
    edits = subst (All (IsSeen new.paths)) (sym added.outlines)
        (more_seen (IsSeen old.paths) (IsSeen new.paths) old.so_far.outlines.items o added.others added.seen
        run.seen.edits);
    arrays = subst (λ (g : GoneBetween). All (IsArraySeen new.paths) g.arrays.items)
        (sym (ap (λ (r : KindsRun). r.gone) added.rest))
        (arrays_still old.paths new.paths added.others old.gone.arrays.items run.seen.arrays);
    tail = subst (λ (l : Tail). All (IsSeen l.paths) l.outlines.items)
        (sym (ap (λ (r : KindsRun). r.tail) added.rest)) run.seen.tail;
    elements = still_alone old new o run alone added.outlines (ap (λ (r : KindsRun). r.tail) added.rest)
        (ap (λ (r : KindsRun). r.gone) added.rest);
  };
  newline = λ yes. let (before, more) = added.newline yes in more (run.newline before);
  planner = ap (λ (r : KindsRun). r.planner) added.rest ∙ run.planner;
}

-- and at the end of the text
pub run_at_end : (now : ProfiledText) (old new : KindsRun) (o : Outline) (lines : AddedLines) (tail : Tail)
    → IsRunOn now old → IsAlone old o → new ≡ with_tail old lines tail → IsOutlineAdded old.tail o tail
    → IsRunOn now new
run_at_end now old new o lines tail run alone is added = subst (IsRunOn now) (sym is) (record {
  seen = record {
    edits = run.seen.edits;
    arrays = run.seen.arrays;
    tail = added.seen;
    elements = subst (λ (l : List Outline). AreElementsAlone old.so_far.outlines.items l old.gone.arrays.items)
        (sym added.outlines)
        (alone_at_end old.so_far.outlines.items old.tail.outlines.items old.gone.arrays.items run.seen.elements o
        alone);
  };
  newline = run.newline;
  planner = run.planner;
})

-- so it does if it was added before what is at the end, or put there
module _ (now : ProfiledText) (old : KindsRun) (x : Edit) (o : Outline) (t : TextEdit) (line : Option LineKind)
    (new : KindsRun) (makes : MakesInRunHere now x (outlined o) t line) (alone : IsAlone old o)
    (placed : IsPlacedAmong now old.so_far.changes o (change_of t).at) where
  pub adds_one : is_header (outlined o) ≡ false → IsAddedBefore now old x o t line new → AddsAny now old x new
  adds_one other h = inl (record {
    outline = o;
    other = other;
    change = t;
    line = line;
    makes = makes;
    alone = alone;
    lets = h.lets;
    placed = placed;
    added = h.added;
    outlines = h.outlines;
    gone = ap (λ (r : KindsRun). r.gone) h.rest;
    tail = ap (λ (r : KindsRun). r.tail) h.rest;
  })

  pub appends_one : (keys : Bor (List (String Global))) → IsOfHeader o keys
      → IsAppended (LeavesEndHere now) old o keys t new
      → AddsAny now old x new
  appends_one keys header h = inr (inl (record {
    outline = o;
    keys = keys;
    header = header;
    change = t;
    line = line;
    makes = makes;
    alone = alone;
    placed = placed;
    appended = record {
      leaves = h.leaves;
      lines = h.lines;
      added = h.added;
      outlines = h.outlines;
      rest = refl;
    };
    same = ap (λ (r : KindsRun). r.so_far) h.rest;
    gone = ap (λ (r : KindsRun). r.gone) h.rest;
  }))

  pub puts_below : IsInsertedBelow now old x o t line new → AddsAny now old x new
  puts_below h = inr (inr (inl (record {
    outline = o;
    change = t;
    line = line;
    makes = makes;
    alone = alone;
    placed = placed;
    inserted = record {
      first = h.first;
      is = h.is;
      line_is = h.line_is;
      clear = h.clear;
      beside = h.beside;
      number = h.number;
      block = h.block;
      text = h.text;
      written = h.written;
      leaves = h.leaves;
      lines = h.lines;
      put = h.put;
      outlines = h.outlines;
      rest = refl;
    };
    same = ap (λ (r : KindsRun). r.so_far) h.rest;
    gone = ap (λ (r : KindsRun). r.gone) h.rest;
  })))

-- or in the place of what one of the others takes
pub adds_in_place : (now : ProfiledText) (old : KindsRun) (x : Edit) (o : Outline) (t : TextEdit)
    (line : Option LineKind) (new : KindsRun) → MakesInRunHere now x (outlined o) t line → IsAlone old o
    → IsAddedInPlace now old o t line new → AddsAny now old x new
adds_in_place now old x o t line new makes alone h = inr (inr (inr (record {
  outline = o;
  first = h.first;
  is = h.is;
  change = t;
  makes = subst (MakesInRunHere now x (outlined o) t) h.last makes;
  alone = alone;
  lets = h.lets;
  newline = h.leave;
  leaves = h.leaves;
  freed = h.freed;
  none = h.none;
  added = subst
      (λ (l : Option LineKind). IsAddedBehind now.text old.lines old.so_far.changes o (change_of t) l new.lines
      new.so_far.changes) h.last h.added;
  outlines = h.outlines;
  gone = ap (λ (r : KindsRun). r.gone) h.rest;
  tail = ap (λ (r : KindsRun). r.tail) h.rest;
})))
