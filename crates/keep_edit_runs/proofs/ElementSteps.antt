-- Edits of a list that are made at once, between which elements of arrays of tables are removed: the edits so far are
-- made in the document's text, with their changes.
--
-- Until an element goes, they are made as those that RunSteps tells of. By the laws of runs from which elements go, one
-- more edit that is elsewhere than in their arrays is not refused after those before it, nor is the remove of one more
-- element, and its change is put in where they move it. So the edits up to it are made.
--
-- Theorems: `left_alone`, `is_elsewhere`, `keeps_place`: how one edit more comes among those of a run;
-- `none_gone`: where none is gone; `more_among`, `placed_too`: with one edit more; `less_among`: with one element less;
-- `among_made`, `among_within`: so all are made.
use Rattle.std.proofs.Common.{[], ◌≡◌, ◌≢◌, ◌<◌, ◌∷◌, ◌++◌, ℕ, suc, List, length, take, get_or, refl, sym, ap, subst}
use Rattle.std.proofs.Common.{subst₂, ◌∙◌, arith, All, IsUtf8, inl, inr}
use Rattle.std.specs.Prelude.{◌⊎◌, None, Option, Some, true}
use Rattle.std.specs.List.{count_by}
use Rattle.std.proofs.lemmas.List.Elements.{All-cons, All-nil, All-push, All-weaker}
use Rattle.std.proofs.lemmas.Str.{IsUtf8-string_bytes}
use Rattle.keep_types.specs.declared.leaf.Profile.{Profile}
use Rattle.keep_syntax.specs.Tree.{Document, Value, text}
use Rattle.keep_path.specs.Path.{Part}
use Rattle.keep_edit_spec.specs.Edits as law
use Rattle.keep_edit_spec.specs.Edits.{edited_document}
use Rattle.keep_edit_spec.specs.ElementRuns.{IsElementRun, IsElementRunByEntry, IsElementRunLonger}
use Rattle.keep_edit_spec.specs.ElementRuns.{IsElsewhere, KeepsPlaceAmong, changed_path}
use Rattle.keep_edit_spec.specs.EntryEdits.{MakesSet}
use Rattle.keep_edit_spec.specs.InsertKinds.{Added, AddsAs, added_as, kind_of}
use Rattle.keep_edit_spec.specs.Laws.{IsLawfulEdit}
use Rattle.keep_edit_spec.specs.MoreKeys.{IsOpen}
use Rattle.keep_edit_spec.specs.Refusals.{refusal}
use Rattle.keep_edit_spec.specs.Runs as runs
use Rattle.keep_edit_spec.specs.Runs.{IsBeforeHeaders, IsInOrder, LeaveNewline, LeaveNewlineBefore, LetsCome}
use Rattle.keep_edit_spec.specs.Runs.{MakesChange, with_line}
use Rattle.keep_edit_spec.specs.TextChanges.{IsBeside, TextChange, with_change}
use Rattle.keep_edit_spec.specs.declared.line_kind.LineKind.{LineKind}
use Rattle.keep_edit_spec.specs.declared.line_kind.LineKind.TheVariants.{WithHeader}
use Rattle.keep_edit_spec.proofs.Shared.{all_with}
use Rattle.keep_edit_plan.proofs.Shared.{change_in}
use Rattle.keep_edit_plan.specs.TextEdits.{IsChangeIn, change_of}
use Rattle.keep_edit_plan.specs.declared.edit.Edit.{Edit}
use Rattle.keep_edit_plan.specs.declared.text_edit.TextEdit.{TextEdit}
use Rattle.keep_edit_runs.specs.GoneBetween.{AreElsewhere, HasArray, IsElementRunTo, RemovesElementHere}
use Rattle.keep_edit_runs.specs.KindsRun.{IsPlacedAmong}
use Rattle.keep_edit_runs.specs.Lists.{AreMade, IsEdit}
use Rattle.keep_edit_plan.specs.Reading.{IsTextOfTree, ProfiledText, limit}
use Rattle.keep_edit_runs.specs.Runs.{IsLineKept, IsOfKind, LeavesAlone, MakeChanges, MakesInRun, MakesInRunHere}
use Rattle.keep_edit_runs.specs.Runs.{IsNoSecondOf, changed_text, outlined, plain}
use Rattle.keep_edit_runs.specs.declared.added_lines.AddedLines.{AddedLines}
use Rattle.keep_edit_runs.specs.declared.gone_between.GoneBetween.{GoneBetween}
use Rattle.keep_edit_runs.specs.declared.outline.Outline.{Outline}
use Rattle.keep_edit_spec.proofs.Shared.{element_run_goes_on, element_run_goes_on_by_entry, run_is_open}
use Rattle.keep_edit_runs.proofs.ElementsGone.{in_none, none_gone_to, of_one, one_element_less, plain_elsewhere}
use Rattle.keep_edit_runs.proofs.NewlineSteps.{leave_here}
use Rattle.keep_edit_runs.proofs.RunSteps.{AreMadeTo, IsPlaced, before_headers, change_made, counted_more, headers_with}
use Rattle.keep_edit_runs.proofs.RunSteps.{known_with, more_changes, one_if, order, parts, passes, plain_alone}
use Rattle.keep_edit_runs.proofs.RunSteps.{plain_header, plain_insert, tree_made}

-- So far these changes are made, and the edits up to number `end` are made by them, which have these outlines, and
-- whose lines and headers are known, or removed elements of these arrays. If none is gone, they are made at once as any
-- others.
pub record AreMadeAmong (edits : List Edit) (first end : ℕ) (now : ProfiledText) (outlines : List Outline)
    (changes : List TextChange) (adds : AddedLines) (gone : GoneBetween) : Type 0 where
  pub made : (s : Document) (old : ProfiledText) → (h : AreMade s (take first edits) old now)
      → IsElementRunTo s edits end old now h.tree outlines changes adds gone.arrays.items gone.elements
  pub none : gone.arrays.items ≡ [] → (gone.elements ≡ []) × AreMadeTo edits first end now outlines changes adds
  pub elsewhere : AreElsewhere gone.arrays.items outlines
  pub within : All (IsChangeIn now.text) changes
  pub utf8 : All (λ c. IsUtf8 c.new) changes

-- ---- where no element is gone

pub none_gone : (edits : List Edit) (first end : ℕ) (now : ProfiledText) (outlines : List Outline)
    (changes : List TextChange) (adds : AddedLines) (gone : GoneBetween)
    → AreMadeTo edits first end now outlines changes adds → gone.arrays.items ≡ [] → gone.elements ≡ []
    → AreMadeAmong edits first end now outlines changes adds gone
none_gone edits first end now outlines changes adds gone so_far empty same = record {
  made = λ s old h. none_gone_to s edits end old now h.tree outlines changes adds gone h.read same
      (so_far.made s old h);
  none = λ e. (same, so_far);
  elsewhere = subst (λ (arrays : List (List Part)). AreElsewhere arrays outlines) (sym empty)
      (All-nil (λ array. All (λ o. IsElsewhere array (outlined o)) outlines));
  within = so_far.within;
  utf8 = so_far.utf8;
}

-- ---- one edit more

-- others see it so, and the run is longer
record IsLongerAmong (profile : Profile) (s : Document) (es : List law.Edit) (changes : List TextChange)
    (lines : List Added) (paths : List (List Part)) (now : Document) (e a : law.Edit) (c : TextChange)
    (line : Option LineKind) : Type 0 where
  edit : law.Edit
  seen_is : runs.seen s edit ≡ a
  of : IsOfKind s edit line
  allowed : refusal profile limit now e ≡ None
  lawful : IsLawfulEdit profile limit now e
  run : IsElementRun profile limit s (a ∷ es) (with_change changes c) (with_line s edit c lines) paths
      (edited_document now e)

module _ (profile : Profile) (s : Document) (es : List law.Edit) (changes : List TextChange) (lines : List Added)
    (paths : List (List Part)) (now : Document) (e a : law.Edit) (c : TextChange) (line : Option LineKind)
    (r : IsElementRun profile limit s es changes lines paths now) (alone : All (λ f. runs.LeavesAlone f a) es)
    (away : All (λ path. IsElsewhere (changed_path path) a) paths) (beside : All (λ d. IsBeside d c) changes) where
  abbrev Longer : Type 0
  Longer = IsLongerAmong profile s es changes lines paths now e a c line

  abbrev Others : law.Edit → Type 0
  Others b = All (λ f. runs.LeavesAlone f b) es × All (λ path. IsElsewhere (changed_path path) b) paths

  longer_by_itself : a ≡ runs.seen s e → MakesChange profile limit s e c → IsOfKind s e line
      → KeepsPlaceAmong s es changes lines e c → Longer
  longer_by_itself is makes of placed =
      let (others, elsewhere) = subst Others is (alone, away) in
      let longer : IsElementRunLonger profile limit s es changes lines paths now e c =
      element_run_goes_on profile limit s es changes lines paths now e c r makes others elsewhere beside placed in
      subst (λ (b : law.Edit). IsLongerAmong profile s es changes lines paths now e b c line) (sym is) (record {
        edit = e;
        seen_is = refl;
        of = of;
        allowed = longer.allowed;
        lawful = longer.lawful;
        run = longer.run;
      })

  longer_by_set : (holder : List Part) (value : Value) → a ≡ law.set holder value
      → MakesSet profile limit s e holder value c → Longer
  longer_by_set holder value is h =
      let (others, elsewhere) = subst Others is (alone, away) in
      let longer : IsElementRunByEntry profile limit s es changes lines paths now e holder value c =
      element_run_goes_on_by_entry profile limit s es changes lines paths now e holder value c r h others elsewhere
      beside in
      subst (λ (b : law.Edit). IsLongerAmong profile s es changes lines paths now e b c line) (sym is) (record {
        edit = law.set holder value;
        seen_is = refl;
        of = tt;
        allowed = longer.allowed;
        lawful = longer.lawful;
        run = longer.run;
      })

  goes_on_by : (a ≡ runs.seen s e → IsOfKind s e line → KeepsPlaceAmong s es changes lines e c)
      → MakesInRun profile s e a c line → Longer
  goes_on_by placed (inl (is, h, of)) = longer_by_itself is h of (placed is of)
  goes_on_by placed (inr (holder, value, is, h)) = longer_by_set holder value is h

-- One edit more comes so among those of a run: they leave it alone, it is elsewhere than all that is gone, and placed.
module _ (s : Document) (edits : List Edit) (n : ℕ) (old now : ProfiledText) (before : Document)
    (outlines : List Outline) (changes : List TextChange) (adds : AddedLines) (arrays gone : List (List Part))
    (read : IsTextOfTree now before)
    (h : IsElementRunTo s edits n old now before outlines changes adds arrays gone) (o : Outline) (a : law.Edit)
    (plain_is : plain a ≡ outlined o) where
  pub left_alone : All (λ y. LeavesAlone y o) outlines → All (λ f. runs.LeavesAlone f a) h.es
  left_alone alone =
      h.alone a
      (subst (λ (g : law.Edit). All (λ y. runs.LeavesAlone (outlined y) g) outlines) (sym plain_is) alone)

  -- it is elsewhere than all that is gone, as that is in the arrays
  pub is_elsewhere : All (λ array. IsElsewhere array (outlined o)) arrays
      → All (λ path. IsElsewhere (changed_path path) a) h.paths
  is_elsewhere away =
      All-weaker (λ path. HasArray arrays (changed_path path)) (λ path. IsElsewhere (changed_path path) a)
      (λ path has. plain_elsewhere (changed_path path) a
      (subst (IsElsewhere (changed_path path)) (sym plain_is)
      (of_one (λ array. IsElsewhere array (outlined o)) arrays (changed_path path) away has)))
      h.paths h.of_arrays

module _ (s : Document) (edits : List Edit) (n : ℕ) (old now : ProfiledText) (before : Document)
    (outlines : List Outline) (changes : List TextChange) (adds next_adds : AddedLines)
    (arrays gone : List (List Part)) (read : IsTextOfTree now before)
    (h : IsElementRunTo s edits n old now before outlines changes adds arrays gone) (o : Outline) (e a : law.Edit)
    (plain_is : plain a ≡ outlined o) (c : TextChange) (line : Option LineKind)
    (placed : IsPlacedAmong now changes o c.at) (kept : IsLineKept adds changes o c.at line next_adds)
    (ends : (kind : LineKind) → line ≡ Some kind → (c.at ≢ length now.text) ⊎ (adds.appended ≡ 0)) where
  in_order : (p : List Part) (v : Value) → a ≡ runs.seen before (law.insert p v) → line ≡ Some (kind_of before p)
      → IsInOrder h.es changes h.lines (added_as before p c)
  in_order = order before h.es changes h.lines adds next_adds o a plain_is c line kept h.headers_known h.known

  pass : (f : law.Edit) → a ≡ f → All (λ l. IsNoSecondOf l f) h.lines
  pass f same =
      subst (λ (g : law.Edit). All (λ l. IsNoSecondOf l g) h.lines) same
      (passes before h.es changes h.lines adds next_adds o a plain_is c line kept h.headers_known h.known)

  -- a line comes so in this text
  abbrev Comes : List ℕ → Type 0
  Comes bytes = All (LetsCome bytes changes c.at) changes × IsBeforeHeaders bytes h.es c.at

  pub keeps_place : a ≡ runs.seen before e → IsOfKind before e line → KeepsPlaceAmong before h.es changes h.lines e c
  keeps_place is of =
      by e is of (ap runs.is_insert (sym plain_is) ∙ plain_insert a) (ap runs.is_header (sym plain_is) ∙ plain_header a)
    where
      comes : (kind : LineKind) → line ≡ Some kind → runs.is_insert (outlined o) ≡ true
          → LeaveNewline before changes × Comes (text before)
      comes kind is_line is_one =
          let (leave, come) = placed.insert is_one in
          let ahead : IsBeforeHeaders now.text h.es c.at =
          before_headers now.text h.es c.at adds h.counted (ends kind is_line) in
          (leave_here now before read changes leave, subst Comes read.reads.spelled (come, ahead))

      headed : runs.is_header (outlined o) ≡ true → LeaveNewlineBefore before changes c.at
      headed head =
          let (leave, none) = placed.header head in
          (leave_here now before read changes leave, none)

      by : (f : law.Edit) → a ≡ runs.seen before f → IsOfKind before f line
          → runs.is_insert (outlined o) ≡ runs.is_insert a → runs.is_header (outlined o) ≡ runs.is_header a
          → KeepsPlaceAmong before h.es changes h.lines f c
      by (law.insert p v) same of insert header =
          (in_order p v same of, comes (kind_of before p) of (insert ∙ ap runs.is_insert same))
      by (law.remove p) same of insert header = tt
      by (law.set p v) same of insert header = tt
      by (law.rename p name) same of insert header = tt
      by (law.append_table ks) same of insert header =
          (pass (law.append_table ks) same, headed (header ∙ ap runs.is_header same))
      by (law.append_element ks) same of insert header =
          (pass (law.append_element ks) same, headed (header ∙ ap runs.is_header same))

module _ (s : Document) (edits : List Edit) (n : ℕ) (old now : ProfiledText) (before : Document)
    (outlines : List Outline) (changes : List TextChange) (adds next_adds : AddedLines)
    (arrays gone : List (List Part)) (read : IsTextOfTree now before)
    (h : IsElementRunTo s edits n old now before outlines changes adds arrays gone) (d x : Edit) (lt : n < length edits)
    (here : get_or edits n d ≡ x) (o : Outline) (e a : law.Edit) (given : IsEdit x e) (plain_is : plain a ≡ outlined o)
    (c : TextChange) (line : Option LineKind) (makes : MakesInRun now.profile before e a c line)
    (others_alone : All (λ y. LeavesAlone y o) outlines) (away : All (λ array. IsElsewhere array (outlined o)) arrays)
    (beside : All (λ b. IsBeside b c) changes) (placed : IsPlacedAmong now changes o c.at)
    (kept : IsLineKept adds changes o c.at line next_adds)
    (ends : (kind : LineKind) → line ≡ Some kind → (c.at ≢ length now.text) ⊎ (adds.appended ≡ 0))
    (utf8 : All (λ b. IsUtf8 b.new) (with_change changes c))
    (within : All (IsChangeIn now.text) (with_change changes c)) where
  abbrev t : Document
  t = h.made.tree

  others : All (λ f. runs.LeavesAlone f a) h.es
  others = left_alone s edits n old now before outlines changes adds arrays gone read h o a plain_is others_alone

  elsewhere : All (λ path. IsElsewhere (changed_path path) a) h.paths
  elsewhere = is_elsewhere s edits n old now before outlines changes adds arrays gone read h o a plain_is away

  keeps : a ≡ runs.seen before e → IsOfKind before e line → KeepsPlaceAmong before h.es changes h.lines e c
  keeps =
      keeps_place s edits n old now before outlines changes adds next_adds arrays gone read h o e a plain_is c line
      placed kept ends

  longer : IsLongerAmong now.profile before h.es changes h.lines h.paths t e a c line
  longer =
      goes_on_by now.profile before h.es changes h.lines h.paths t e a c line h.run others elsewhere beside keeps makes

  made : AreMade s (take (suc n) edits) old (changed_text now (with_change changes c))
  made =
      change_made s edits n old now before changes read h.made d x lt here e given c h.run.text longer.run.text
      longer.run.follow longer.allowed longer.lawful utf8 within

  same_tree : edited_document t e ≡ made.tree
  unfolding made
  same_tree =
      tree_made s edits n old now before changes read h.made d x lt here e given c h.run.text longer.run.text
      longer.run.follow longer.allowed longer.lawful utf8 within

  -- a header that it appends is counted
  counted : count_by runs.is_header (a ∷ h.es) ≡ next_adds.appended
  counted =
      let alike : runs.is_header a ≡ runs.is_header (outlined o) =
      sym (plain_header a) ∙ ap runs.is_header plain_is in
      omega (
        arith,
        counted_more runs.is_header a h.es,
        counted_more runs.is_header (outlined o) [],
        ap one_if alike,
        h.counted,
        kept.counts.appended,
      )

  pub one_more_among : IsElementRunTo s edits (suc n) old now before (outlines ++ o ∷ []) (with_change changes c)
      next_adds arrays gone
  one_more_among = record {
    made = made;
    es = a ∷ h.es;
    lines = with_line before longer.edit c h.lines;
    paths = h.paths;
    alone = λ f all.
        let (all_before, its) = parts (λ y. runs.LeavesAlone (outlined y) (plain f)) outlines o all in
        All-cons (λ g. runs.LeavesAlone g f) a h.es
        (plain_alone a f (subst (λ (g : law.Edit). runs.LeavesAlone g (plain f)) (sym plain_is) its))
        (h.alone f all_before);
    elsewhere = λ path all.
        let (all_before, its) = parts (λ y. IsElsewhere path (outlined y)) outlines o all in
        All-cons (IsElsewhere path) a h.es
        (plain_elsewhere path a (subst (IsElsewhere path) (sym plain_is) its)) (h.elsewhere path all_before);
    known = known_with before h.es changes h.lines adds next_adds o a plain_is c line kept h.headers_known h.known
        longer.edit longer.seen_is longer.of;
    counted = counted;
    headers_known = headers_with before h.es changes h.lines adds next_adds o a plain_is c line kept h.headers_known
        h.known;
    of_arrays = h.of_arrays;
    leads = h.leads;
    run = subst
        (IsElementRun now.profile limit before (a ∷ h.es) (with_change changes c)
        (with_line before longer.edit c h.lines) h.paths)
        same_tree longer.run;
  }

  -- further keys go into the table that its dotted keys make, if it is an insert that adds a line without a header
  pub opened_after : h.paths ≡ [] → (p : List Part) (v : Value) (kind : LineKind) → e ≡ law.insert p v
      → a ≡ runs.seen before e → IsOfKind before e line → kind ≢ WithHeader
      → AddsAs kind now.profile limit before p v c
      → IsOpen now.profile limit before one_more_among.es (with_change changes c) one_more_among.made.tree p kind
  unfolding one_more_among
  opened_after none p v kind is same of headless adds =
      let itself : a ≡ runs.seen before (law.insert p v) = same ∙ ap (runs.seen before) is in
      subst₂ (λ (b : law.Edit) (u : Document).
      IsOpen now.profile limit before (b ∷ h.es) (with_change changes c) u p kind) (sym itself)
      (ap (edited_document t) (sym is) ∙ same_tree)
      (run_is_open now.profile limit before h.es changes h.lines t p v c kind
      (subst (λ (gone : List (List Part)). IsElementRun now.profile limit before h.es changes h.lines gone t) none
      h.run)
      headless adds (subst (λ (b : law.Edit). All (λ f. runs.LeavesAlone f b) h.es) itself others) beside
      (subst (λ (f : law.Edit). KeepsPlaceAmong before h.es changes h.lines f c) is (keeps same of)))

-- as it is placed among others between which elements go, it is placed among those between which none does
pub placed_too : (outlines : List Outline) (now : ProfiledText) (changes : List TextChange) (x : Outline) (at : ℕ)
    → IsPlacedAmong now changes x at → IsPlaced outlines now changes x at
placed_too outlines now changes x at h =
    record { insert = λ is. inr (h.insert is); header = λ is. inr (h.header is) }

pub more_among : (edits : List Edit) (first end : ℕ) (now : ProfiledText) (outlines : List Outline)
    (changes : List TextChange) (adds next : AddedLines) (gone : GoneBetween) (d x : Edit) (o : Outline) (t : TextEdit)
    (line : Option LineKind)
    → AreMadeAmong edits first end now outlines changes adds gone → end < length edits → get_or edits end d ≡ x
    → MakesInRunHere now x (outlined o) t line → All (λ y. LeavesAlone y o) outlines
    → All (λ array. IsElsewhere array (outlined o)) gone.arrays.items
    → All (λ b. IsBeside b (change_of t)) changes → IsPlacedAmong now changes o (change_of t).at
    → IsLineKept adds changes o (change_of t).at line next
    → ((kind : LineKind) → line ≡ Some kind → ((change_of t).at ≢ length now.text) ⊎ (adds.appended ≡ 0))
    → AreMadeAmong edits first (suc end) now (outlines ++ o ∷ []) (with_change changes (change_of t)) next gone
more_among edits first end now outlines changes adds next gone d x o t line so_far lt here makes alone away beside
    placed kept ends =
    let c : TextChange = change_of t in
    let utf8 = all_with (λ b. IsUtf8 b.new) changes c so_far.utf8 (IsUtf8-string_bytes t.new) in
    let within = all_with (IsChangeIn now.text) changes c so_far.within (change_in now.text t makes.within) in
    record {
      made = λ s old h. one_more_among s edits end old now h.tree outlines changes adds next gone.arrays.items
          gone.elements h.read (so_far.made s old h) d x lt here o makes.edit (makes.in_run h.tree) makes.is
          (makes.outline_is h.tree h.read) c line (makes.makes h.tree h.read) alone away beside placed kept ends
          utf8 within;
      none = λ empty.
          let (same, all) = so_far.none empty in (
            same,
            more_changes edits first end now outlines changes adds next d x o t line all lt here makes alone beside
                (placed_too outlines now changes o c.at placed) kept ends,
          );
      elsewhere = λ k array less.
          let array_there : List Part = get_or gone.arrays.items k array in
          All-push (λ y. IsElsewhere array_there (outlined y)) outlines o (so_far.elsewhere k array less)
          (away k array less);
      within = within;
      utf8 = utf8;
    }

-- ---- one element less

pub less_among : (edits : List Edit) (first end : ℕ) (now : ProfiledText) (outlines : List Outline)
    (changes : List TextChange) (adds : AddedLines) (gone next : GoneBetween) (d x : Edit) (t : TextEdit)
    → AreMadeAmong edits first end now outlines changes adds gone → end < length edits → get_or edits end d ≡ x
    → RemovesElementHere now gone next outlines x t
    → ((a : List Part) → HasArray gone.arrays.items a → HasArray next.arrays.items a)
    → AreElsewhere next.arrays.items outlines → All (λ b. IsBeside b (change_of t)) changes
    → AreMadeAmong edits first (suc end) now outlines (with_change changes (change_of t)) adds next
less_among edits first end now outlines changes adds gone next d x t so_far lt here removes kept away beside =
    let c : TextChange = change_of t in
    let it = removes.header in
    let utf8 = all_with (λ b. IsUtf8 b.new) changes c so_far.utf8 (IsUtf8-string_bytes t.new) in
    let within = all_with (IsChangeIn now.text) changes c so_far.within (change_in now.text t it.within) in
    record {
      made = λ s old h. one_element_less s edits end old now h.tree outlines changes adds gone.arrays.items
          next.arrays.items gone.elements next.elements h.read (so_far.made s old h) d x lt here it.path it.is c
          (it.removes h.tree h.read) it.gone_with removes.array removes.elsewhere kept beside utf8 within;
      none = λ empty. absurd (in_none (changed_path it.path)
          (subst (λ (arrays : List (List Part)). HasArray arrays (changed_path it.path)) empty removes.array));
      elsewhere = away;
      within = within;
      utf8 = utf8;
    }

-- ---- so all are made

-- So all edits that the changes are of are made by them.
pub among_made : (edits : List Edit) (first : ℕ) (now : ProfiledText) (outlines : List Outline)
    (changes : List TextChange) (adds : AddedLines) (gone : GoneBetween) → {end to : ℕ} {its : List TextChange}
    → AreMadeAmong edits first end now outlines changes adds gone → its ≡ changes → to ≡ end
    → MakeChanges edits first to now its
among_made edits first now outlines changes adds gone so_far same there s old h =
    subst₂ (λ (n : ℕ) (cs : List TextChange). AreMade s (take n edits) old (changed_text now cs)) (sym there) (sym same)
    (so_far.made s old h).made

-- And the changes are in the text.
pub among_within : (edits : List Edit) (first : ℕ) (now : ProfiledText) (outlines : List Outline)
    (changes : List TextChange) (adds : AddedLines) (gone : GoneBetween) → {end : ℕ} {its : List TextChange}
    → AreMadeAmong edits first end now outlines changes adds gone → its ≡ changes → All (IsChangeIn now.text) its
among_within edits first now outlines changes adds gone so_far same =
    subst (All (IsChangeIn now.text)) (sym same) so_far.within
