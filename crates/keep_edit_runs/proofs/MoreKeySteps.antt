-- Edits of several kinds that are made at once, among them inserts of further keys into tables that the dotted keys of
-- an insert right before them make.
--
-- They are a run from which no element is gone (ElementSteps). If the last of them is an insert that adds a line at the
-- end of a body, its keys may make a table; then, by keep_edit_spec's law of such runs, an insert that goes on from the
-- table by another key makes the change that it makes by the document before the run, behind that line (`one_inside`).
--
-- Theorems: `split_at`, `next_below`: paths; `added_as`: an edit that is added behind all others; `keyed_begins`: no
-- edits; `behind_more`, `inside_more`: one more; `keyed_made`: so all are made.
use Rattle.std.proofs.Common.{◌≡◌, ◌∙◌, ◌∷◌, ◌++◌, ◌<◌, ◌+◌, [], ℕ, zero, suc, All, IsUtf8, List, None, Option}
use Rattle.std.proofs.Common.{Some, ap, arith, drop, false, get_or, inl, inr, length, refl, slice_get, subst, subst₂}
use Rattle.std.proofs.Common.{sym}
use Rattle.std.proofs.Common.{take, true}
use Rattle.std.specs.List.{count_by}
use Rattle.std.specs.Prelude.{◌⊎◌, IfSome}
use Rattle.std.proofs.lemmas.List.{length-take-le}
use Rattle.std.proofs.lemmas.List.Elements.{All-cons, All-head, All-weaker}
use Rattle.std.proofs.lemmas.Str.{IsUtf8-string_bytes}
use Rattle.keep_types.specs.declared.leaf.Profile.{Profile}
use Rattle.keep_syntax.specs.Tree.{Document, Value}
use Rattle.keep_path.specs.Path.{Part, key}
use Rattle.keep_meaning.specs.Meaning.{mentions_in}
use Rattle.keep_edit_spec.specs.AddedLines.{first_new}
use Rattle.keep_edit_spec.specs.Edits as law
use Rattle.keep_edit_spec.specs.Edits.{edited_document}
use Rattle.keep_edit_spec.specs.ElementRuns.{IsElementRun, IsElsewhere, changed_path}
use Rattle.keep_edit_spec.specs.InsertKinds.{AddsAs, kind_of}
use Rattle.keep_edit_spec.specs.Look.{holder}
use Rattle.keep_edit_spec.specs.MoreKeys.{GoOnApart, IsOpen, IsRunInside, inner_line, key_below}
use Rattle.keep_edit_spec.specs.Runs as runs
use Rattle.keep_edit_spec.specs.Runs.{MakesChange}
use Rattle.keep_edit_spec.specs.TextChanges.{IsBeside, TextChange, with_change}
use Rattle.keep_edit_spec.specs.declared.line_kind.LineKind.{LineKind}
use Rattle.keep_edit_spec.specs.declared.line_kind.LineKind.TheVariants.{LastInBody}
use Rattle.keep_edit_spec.proofs.Lists.LineKinds.{as_of_kind}
use Rattle.keep_edit_spec.proofs.Shared.{all_with, run_goes_on_inside}
use Rattle.keep_edit_plan.proofs.Shared.{change_in}
use Rattle.keep_edit_plan.specs.Reading.{IsTextOfTree, ProfiledText, limit}
use Rattle.keep_edit_plan.specs.TextEdits.{IsChangeIn, change_of}
use Rattle.keep_edit_plan.specs.declared.edit.Edit.{Edit}
use Rattle.keep_edit_plan.specs.declared.text_edit.TextEdit.{TextEdit}
use Rattle.keep_edit_runs.specs.AddedLines.{IsHeaderKnown, IsKnownAt}
use Rattle.keep_edit_runs.specs.GoneBetween.{HasArray, IsElementRunTo}
use Rattle.keep_edit_runs.specs.KindsRun.{IsAlone, IsRunOn, StartsAt}
use Rattle.keep_edit_runs.specs.Lists.{AreMade, IsEdit}
use Rattle.keep_edit_runs.specs.MoreKeys.{AddsBehind, AddsInside, GoesOnWithKeys, IsAddedLast, IsKeyedRunTo}
use Rattle.keep_edit_runs.specs.MoreKeys.{IsKnownTable, IsMoreKey, IsNewTable, IsPlainRun, path_to_new}
use Rattle.keep_edit_runs.specs.Runs.{IsAddedBehind, IsLineKept, IsOfKind, LeavesAlone, MakeChanges, MakesInRun}
use Rattle.keep_edit_runs.specs.Runs.{changed_text, no_value, outlined, plain}
use Rattle.keep_edit_runs.specs.declared.added_lines.AddedLines.{AddedLines}
use Rattle.keep_edit_runs.specs.declared.gone_between.GoneBetween.{GoneBetween}
use Rattle.keep_edit_runs.specs.declared.kinds_run.KindsRun.{KindsRun}
use Rattle.keep_edit_runs.specs.declared.more_keys.NewTable.{NewTable}
use Rattle.keep_edit_runs.specs.declared.opened.OpenValues.{OpenValues}
use Rattle.keep_edit_runs.specs.declared.outline.Outline.{Outline}
use Rattle.keep_edit_runs.specs.declared.tail.Tail.{Tail}
use Rattle.keep_edit_runs.proofs.ElementSteps.{left_alone, one_more_among, opened_after}
use Rattle.keep_edit_runs.proofs.ElementsGone.{in_none, plain_elsewhere}
use Rattle.keep_edit_runs.proofs.KindsRunSteps.{AreBaseIn, run_begins}
use Rattle.keep_edit_runs.proofs.RunSteps.{change_made, counted_more, one_if, parts, plain_alone, plain_header}
use Rattle.keep_edit_runs.proofs.RunSteps.{tree_made}
use Rattle.keep_edit_runs.proofs.SameRuns.{planned, run_before}

-- ---- paths

-- a path as what comes before one of its steps, that step, and the rest
pub split_at : (path : List Part) (n : ℕ) (p : Part) → slice_get path n ≡ Some p
    → path ≡ take n path ++ p ∷ drop (suc n) path
split_at [] n p is = absurd cc
split_at (q ∷ path) zero p is = let same : q ≡ p = cc in ap (λ (x : Part). x ∷ path) same
split_at (q ∷ path) (suc n) p is = ap (λ (l : List Part). q ∷ l) (split_at path n p is)

take_next : (a b : List Part) (p : Part) → take (suc (length a)) (a ++ p ∷ b) ≡ a ++ p ∷ []
take_next [] [] p = refl
take_next [] (q ∷ b) p = refl
take_next (x ∷ a) b p = ap (λ (l : List Part). x ∷ l) (take_next a b p)

-- the path of the further key
pub next_below : (now : ProfiledText) (t : NewTable) (x : Edit) (h : IsMoreKey now t x) → t.count < length h.path
    → take (t.count + 1) h.path ≡ key_below (path_to_new t) h.apart.next
next_below now t x h few =
    let long : length (path_to_new t) ≡ t.count =
    ap (λ (p : List Part). length p) h.same ∙ length-take-le t.count h.path (omega (arith, few)) in
    let one : t.count + 1 ≡ suc (length (path_to_new t)) = omega (arith, long) in
    ap (λ (n : ℕ). take n h.path) one ∙ ap (take (suc (length (path_to_new t)))) h.apart.other_is
    ∙ take_next (path_to_new t) h.apart.rest (key h.apart.next)

-- ---- an edit that is added behind all others, after its change was planned

module _ (now : ProfiledText) (old then new : KindsRun) (opened : OpenValues) (planner : ProfiledText) (left : ℕ)
    (is : then ≡ planned old opened planner left) (o : Outline) (t : TextEdit)
    (line : Option LineKind) (last : IsAddedLast now then o t line new) where
  pub behind_as : IsAddedBehind now.text old.lines old.so_far.changes o (change_of t) line new.lines new.so_far.changes
  behind_as =
      subst (λ (r : KindsRun).
      IsAddedBehind now.text r.lines r.so_far.changes o (change_of t) line new.lines new.so_far.changes) is last.added

  pub outlines_as : new.so_far.outlines.items ≡ old.so_far.outlines.items ++ o ∷ []
  outlines_as =
      subst (λ (r : KindsRun). new.so_far.outlines.items ≡ r.so_far.outlines.items ++ o ∷ []) is last.outlines

  pub gone_as : new.gone ≡ old.gone
  gone_as = ap (λ (r : KindsRun). r.gone) last.rest ∙ ap (λ (r : KindsRun). r.gone) is

  tail_as : new.tail ≡ old.tail
  tail_as = ap (λ (r : KindsRun). r.tail) last.rest ∙ ap (λ (r : KindsRun). r.tail) is

  pub run_last : (x : Edit) → IsRunOn now then → IsAlone then o → IsPlainRun old → IsRunOn now new × IsPlainRun new
  run_last x on alone none = (
    run_before now then x o t line new on alone (record {
      lets = inl (ap (λ (r : KindsRun). r.tail.blocks.items) is ∙ none.blocks);
      added = (false, (λ yes. (let both : false ≡ true = yes in absurd cc), inl last.added));
      outlines = last.outlines;
      seen = last.seen;
      others = last.others;
      newline = last.newline;
      rest = last.rest;
    }),
    record {
      blocks = ap (λ (l : Tail). l.blocks.items) tail_as ∙ none.blocks;
      headers = ap (λ (l : Tail). l.outlines.items) tail_as ∙ none.headers;
      arrays = ap (λ (g : GoneBetween). g.arrays.items) gone_as ∙ none.arrays;
    },
  )

-- ---- the edits so far

-- no element is gone
paths_none : (arrays paths : List (List Part)) → arrays ≡ [] → All (λ path. HasArray arrays (changed_path path)) paths
    → paths ≡ []
paths_none arrays [] empty of = refl
paths_none arrays (p ∷ paths) empty of =
    absurd (in_none (changed_path p)
    (subst (λ (l : List (List Part)). HasArray l (changed_path p)) empty
    (All-head (λ path. HasArray arrays (changed_path path)) p paths of)))

pub record AreMadeKeyed (edits : List Edit) (first end : ℕ) (now : ProfiledText) (outlines : List Outline)
    (changes : List TextChange) (adds : AddedLines) (gone : GoneBetween) (table : Option NewTable) : Type 0 where
  pub made : (s : Document) (old : ProfiledText) → (h : AreMade s (take first edits) old now)
      → IsKeyedRunTo s edits end old now h.tree outlines changes adds gone.arrays.items gone.elements table
  pub empty : gone.arrays.items ≡ []
  pub within : All (IsChangeIn now.text) changes
  pub utf8 : All (λ c. IsUtf8 c.new) changes

abbrev pub AreKeyedIn : List Edit → ℕ → ℕ → ProfiledText → KindsRun → Option NewTable → Type 0
AreKeyedIn edits first end now run table =
    AreMadeKeyed edits first end now run.so_far.outlines.items run.so_far.changes run.lines run.gone table

pub keyed_begins : (edits : List Edit) (first : ℕ) (now : ProfiledText) (run : KindsRun) → StartsAt now run
    → AreKeyedIn edits first first now run None
keyed_begins edits first now run h =
    let base : AreBaseIn edits first first now run = run_begins edits first now run h in
    record {
      made = λ s old k. record {
        to = base.made s old k;
        opened = λ t is. absurd (let no : None ≡ Some t = is in cc);
      };
      empty = h.arrays;
      within = base.within;
      utf8 = base.utf8;
    }

-- ---- one that makes its own change

-- the edit is that insert, as others see it
insert_is : (profile : Profile) (s : Document) (e a : law.Edit) (c : TextChange) (line : Option LineKind)
    (p first : List Part) (v : Value) (of_line : LineKind) → e ≡ law.insert p v
    → plain a ≡ law.insert first no_value → line ≡ Some of_line → MakesInRun profile s e a c line
    → (a ≡ runs.seen s e) × (IsOfKind s e line × AddsAs of_line profile limit s p v c)
insert_is profile s e a c line p first v of_line is seen last (inl (same, makes, of)) =
    let here : Some of_line ≡ Some (kind_of s p) =
    sym last ∙ subst (λ (f : law.Edit). IsOfKind s f line) is of in
    let kind : kind_of s p ≡ of_line = cc in (
      same,
      (
        of,
        as_of_kind of_line profile limit s p v c kind
            (subst (λ (f : law.Edit). MakesChange profile limit s f c) is makes),
      ),
    )
insert_is profile s e a c line p first v of_line is seen last (inr (holder, value, same, h)) =
    absurd (let both : law.set holder no_value ≡ law.insert first no_value = sym (ap plain same) ∙ seen in cc)

-- the first new key of the insert that makes the table, and of a further key's
firsts : (now : ProfiledText) (s : Document) → IsTextOfTree now s → (path : List Part) (count : ℕ)
    → ((u : Document) → IsTextOfTree now u → count ≡ suc (length (holder path (mentions_in u))))
    → first_new s path ≡ take count path
firsts now s read path count leads = ap (λ (n : ℕ). take n path) (sym (leads s read))

module _ (edits : List Edit) (first n : ℕ) (now : ProfiledText) (old new : KindsRun) (table next : Option NewTable)
    (so_far : AreKeyedIn edits first n now old table) (lt : n < length edits) (d x : Edit) (here : get_or edits n d ≡ x)
  where
    -- so it is of the parts of the run
    made_as : {outlines : List Outline} {changes : List TextChange} {gone : GoneBetween}
        → AreMadeKeyed edits first (suc n) now outlines changes new.lines gone next
        → new.so_far.outlines.items ≡ outlines → new.so_far.changes ≡ changes → new.gone ≡ gone
        → AreKeyedIn edits first (suc n) now new next
    made_as {outlines} {changes} {gone} all o c g =
        subst (λ (away : GoneBetween). AreMadeKeyed edits first (suc n) now new.so_far.outlines.items
        new.so_far.changes new.lines away next) (sym g)
        (subst₂ (λ (os : List Outline) (cs : List TextChange).
        AreMadeKeyed edits first (suc n) now os cs new.lines gone next) (sym o) (sym c) all)

    module _ (adds : AddsBehind now old x new next) where
      abbrev c : TextChange
      c = change_of adds.change

      utf8 : All (λ b. IsUtf8 b.new) (with_change old.so_far.changes c)
      utf8 = all_with (λ b. IsUtf8 b.new) old.so_far.changes c so_far.utf8 (IsUtf8-string_bytes adds.change.new)

      within : All (IsChangeIn now.text) (with_change old.so_far.changes c)
      within =
          all_with (IsChangeIn now.text) old.so_far.changes c so_far.within
          (change_in now.text adds.change adds.makes.within)

      keyed_to : (s : Document) (older : ProfiledText) → (h : AreMade s (take first edits) older now)
          → IsKeyedRunTo s edits (suc n) older now h.tree (old.so_far.outlines.items ++ adds.outline ∷ [])
          (with_change old.so_far.changes c) new.lines old.gone.arrays.items old.gone.elements next
      keyed_to s older h =
          let run : IsKeyedRunTo s edits n older now h.tree old.so_far.outlines.items old.so_far.changes old.lines
          old.gone.arrays.items old.gone.elements table = so_far.made s older h in
          let a : law.Edit = adds.makes.in_run h.tree in
          let seen : plain a ≡ outlined adds.outline = adds.makes.outline_is h.tree h.read in
          let makes : MakesInRun now.profile h.tree adds.makes.edit a c adds.line = adds.makes.makes h.tree h.read in
          record {
            to = one_more_among s edits n older now h.tree old.so_far.outlines.items old.so_far.changes old.lines
                new.lines old.gone.arrays.items old.gone.elements h.read run.to d x lt here adds.outline adds.makes.edit
                a adds.makes.is seen c adds.line makes adds.alone.edits adds.alone.elsewhere adds.added.beside
                adds.placed adds.added.kept adds.added.ends utf8 within;
            opened = λ t is.
                let (known, ((last, headless), (given, (own, of_outline)))) = adds.makes_table t is in
                let (v, text, edit_is) =
                subst (λ (y : Edit). IsEdit y adds.makes.edit) own adds.makes.is in
                let (itself, (kind, line)) =
                insert_is now.profile h.tree adds.makes.edit a c adds.line t.path.now (path_to_new t) v t.kind edit_is
                (seen ∙ of_outline) last makes in
                opened_after s edits n older now h.tree old.so_far.outlines.items old.so_far.changes old.lines
                new.lines old.gone.arrays.items old.gone.elements h.read run.to d x lt here adds.outline adds.makes.edit
                a adds.makes.is seen c adds.line makes adds.alone.edits adds.alone.elsewhere adds.added.beside
                adds.placed adds.added.kept adds.added.ends utf8 within
                (paths_none old.gone.arrays.items run.to.paths so_far.empty run.to.of_arrays) t.path.now v t.kind
                edit_is itself kind headless line;
          }

      pub behind_more : AreKeyedIn edits first (suc n) now new next
      behind_more =
          made_as (record { made = keyed_to; empty = so_far.empty; within = within; utf8 = utf8 }) adds.outlines
          adds.added.changes_are adds.gone

-- ---- a further key

module _ (s : Document) (edits : List Edit) (n : ℕ) (old now : ProfiledText) (before : Document)
    (outlines : List Outline) (changes : List TextChange) (adds next : AddedLines) (arrays gone : List (List Part))
    (read : IsTextOfTree now before)
    (h : IsElementRunTo s edits n old now before outlines changes adds arrays gone) (none : h.paths ≡ []) (d x : Edit)
    (lt : n < length edits) (here : get_or edits n d ≡ x) (t : NewTable)
    (is_open : IsOpen now.profile limit before h.es changes h.made.tree t.path.now t.kind) (leads : IsNewTable now t)
    (more : IsMoreKey now t x) (o : Outline)
    (o_is : outlined o ≡ law.insert (key_below (path_to_new t) more.apart.next) no_value) (c : TextChange)
    (e : law.Edit) (given : IsEdit x e) (makes : MakesChange now.profile limit before e c)
    (of : IsOfKind before e (Some t.kind)) (left : All (λ y. LeavesAlone y o) outlines)
    (beside : All (λ b. IsBeside b c) changes) (kept : IsLineKept adds changes o c.at (Some LastInBody) next)
    (utf8 : All (λ b. IsUtf8 b.new) (with_change changes c))
    (within : All (IsChangeIn now.text) (with_change changes c)) where
  abbrev q : List Part
  q = more.path

  its : (v : Value) × (e ≡ law.insert q v)
  its =
      let (v, text, is) = subst (λ (y : Edit). IsEdit y e) more.is given in
      (v, is)

  abbrev v : Value
  v = its.0

  abbrev own : law.Edit
  own = law.insert q v

  line : AddsAs t.kind now.profile limit before q v c
  line =
      let there : Some t.kind ≡ Some (kind_of before q) =
      subst (λ (f : law.Edit). IsOfKind before f (Some t.kind)) its.1 of in
      let kind : kind_of before q ≡ t.kind = cc in
      as_of_kind t.kind now.profile limit before q v c kind
      (subst (λ (f : law.Edit). MakesChange now.profile limit before f c) its.1 makes)

  first_is : first_new before t.path.now ≡ path_to_new t
  first_is = firsts now before read t.path.now t.count leads

  same : first_new before t.path.now ≡ first_new before q
  same = first_is ∙ more.same ∙ sym (firsts now before read q t.count more.leads)

  abbrev apart : GoOnApart (first_new before t.path.now) t.path.now q
  apart = record {
    own = more.apart.own;
    own_rest = more.apart.own_rest;
    path_is = more.apart.path_is ∙ ap (λ (p : List Part). p ++ key more.apart.own ∷ more.apart.own_rest) (sym first_is);
    next = more.apart.next;
    rest = more.apart.rest;
    other_is = more.apart.other_is ∙ ap (λ (p : List Part). p ++ key more.apart.next ∷ more.apart.rest) (sym first_is);
    differ = more.apart.differ;
  }

  abbrev below : List Part
  below = key_below (first_new before t.path.now) more.apart.next

  abbrev a : law.Edit
  a = law.insert below v

  below_is : below ≡ key_below (path_to_new t) more.apart.next
  below_is = ap (λ (p : List Part). key_below p more.apart.next) first_is

  plain_is : plain a ≡ outlined o
  plain_is = ap (λ (p : List Part). law.insert p no_value) below_is ∙ sym o_is

  others : All (λ f. runs.LeavesAlone f a) h.es
  others = left_alone s edits n old now before outlines changes adds arrays gone read h o a plain_is left

  alone_run : IsElementRun now.profile limit before h.es changes h.lines [] h.made.tree
  alone_run =
      subst (λ (l : List (List Part)). IsElementRun now.profile limit before h.es changes h.lines l h.made.tree) none
      h.run

  inside : IsRunInside now.profile limit before h.es changes h.lines h.made.tree t.path.now t.kind q below v c
  inside =
      run_goes_on_inside now.profile limit before h.es changes h.lines h.made.tree t.path.now t.kind q v c alone_run
      is_open
      line same apart others beside

  made : AreMade s (take (suc n) edits) old (changed_text now (with_change changes c))
  made =
      change_made s edits n old now before changes read h.made d x lt here own (subst (IsEdit x) its.1 given) c
      h.run.text inside.run.text inside.run.follow inside.allowed inside.lawful utf8 within

  same_tree : edited_document h.made.tree own ≡ made.tree
  unfolding made
  same_tree =
      tree_made s edits n old now before changes read h.made d x lt here own (subst (IsEdit x) its.1 given) c
      h.run.text inside.run.text inside.run.follow inside.allowed inside.lawful utf8 within

  counted : count_by runs.is_header (a ∷ h.es) ≡ next.appended
  counted =
      let alike : runs.is_header a ≡ runs.is_header (outlined o) =
      sym (plain_header a) ∙ ap runs.is_header plain_is in
      omega (
        arith,
        counted_more runs.is_header a h.es,
        counted_more runs.is_header (outlined o) [],
        ap one_if alike,
        h.counted,
        kept.counts.appended,
      )

  known : All (IsKnownAt next) (inner_line below c.at ∷ h.lines)
  known =
      All-cons (IsKnownAt next) (inner_line below c.at) h.lines
      (subst (λ (p : List Part). IsKnownAt next (inner_line p c.at)) (sym below_is)
      (kept.own (key_below (path_to_new t) more.apart.next) LastInBody o_is refl).here)
      (All-weaker (IsKnownAt adds) (IsKnownAt next) kept.others h.lines h.known)

  pub one_inside : IsKeyedRunTo s edits (suc n) old now before (outlines ++ o ∷ []) (with_change changes c) next arrays
      gone (Some t)
  one_inside = record {
    to = record {
      made = made;
      es = a ∷ h.es;
      lines = inner_line below c.at ∷ h.lines;
      paths = h.paths;
      alone = λ f all.
          let (all_before, its_own) = parts (λ y. runs.LeavesAlone (outlined y) (plain f)) outlines o all in
          All-cons (λ g. runs.LeavesAlone g f) a h.es
          (plain_alone a f (subst (λ (g : law.Edit). runs.LeavesAlone g (plain f)) (sym plain_is) its_own))
          (h.alone f all_before);
      elsewhere = λ path all.
          let (all_before, its_own) = parts (λ y. IsElsewhere path (outlined y)) outlines o all in
          All-cons (IsElsewhere path) a h.es
          (plain_elsewhere path a (subst (IsElsewhere path) (sym plain_is) its_own)) (h.elsewhere path all_before);
      known = known;
      counted = counted;
      headers_known = All-cons (IsHeaderKnown next) a h.es tt
          (All-weaker (IsHeaderKnown adds) (IsHeaderKnown next) kept.headers h.es h.headers_known);
      of_arrays = h.of_arrays;
      leads = h.leads;
      run = subst₂ (λ (l : List (List Part)) (u : Document).
          IsElementRun now.profile limit before (a ∷ h.es) (with_change changes c) (inner_line below c.at ∷ h.lines)
          l u) (sym none) same_tree inside.run;
    };
    opened = λ own_table is.
        let table : t ≡ own_table = (let both : Some t ≡ Some own_table = is in cc) in
        subst₂ (λ (u : Document) (its_table : NewTable).
        IsOpen now.profile limit before (a ∷ h.es) (with_change changes c) u its_table.path.now its_table.kind)
        same_tree table
        inside.still;
  }

module _ (edits : List Edit) (first n : ℕ) (now : ProfiledText) (old new : KindsRun) (t : NewTable)
    (so_far : AreKeyedIn edits first n now old (Some t)) (lt : n < length edits) (d x : Edit)
    (here : get_or edits n d ≡ x) (leads : IsNewTable now t) (adds : AddsInside now old t x new) where
  abbrev its_change : TextChange
  its_change = change_of adds.change

  utf8_inside : All (λ b. IsUtf8 b.new) (with_change old.so_far.changes its_change)
  utf8_inside =
      all_with (λ b. IsUtf8 b.new) old.so_far.changes its_change so_far.utf8 (IsUtf8-string_bytes adds.change.new)

  within_inside : All (IsChangeIn now.text) (with_change old.so_far.changes its_change)
  within_inside =
      all_with (IsChangeIn now.text) old.so_far.changes its_change so_far.within
      (change_in now.text adds.change adds.makes.within)

  pub inside_more : AreKeyedIn edits first (suc n) now new (Some t)
  inside_more =
      made_as edits first n now old new (Some t) (Some t) so_far lt d x here (record {
        made = λ s older h.
            let run : IsKeyedRunTo s edits n older now h.tree old.so_far.outlines.items old.so_far.changes old.lines
            old.gone.arrays.items old.gone.elements (Some t) = so_far.made s older h in
            let (makes, of) = adds.makes.makes h.tree h.read in
            one_inside s edits n older now h.tree old.so_far.outlines.items old.so_far.changes old.lines new.lines
            old.gone.arrays.items old.gone.elements h.read run.to
            (paths_none old.gone.arrays.items run.to.paths so_far.empty run.to.of_arrays) d x lt here t
            (run.opened t refl) leads adds.more adds.outline adds.is its_change adds.makes.edit adds.makes.is makes of
            adds.alone.edits adds.added.beside adds.added.kept utf8_inside within_inside;
        empty = so_far.empty;
        within = within_inside;
        utf8 = utf8_inside;
      }) adds.outlines adds.added.changes_are adds.gone

-- ---- so all are made

pub keyed_made : (edits : List Edit) (first : ℕ) (now : ProfiledText) (outlines : List Outline)
    (changes : List TextChange) (adds : AddedLines) (gone : GoneBetween) (table : Option NewTable)
    → {end to : ℕ} {its : List TextChange} → AreMadeKeyed edits first end now outlines changes adds gone table
    → its ≡ changes → to ≡ end → MakeChanges edits first to now its
keyed_made edits first now outlines changes adds gone table so_far same there s old h =
    subst₂ (λ (n : ℕ) (cs : List TextChange). AreMade s (take n edits) old (changed_text now cs)) (sym there) (sym same)
    (so_far.made s old h).to.made

-- ---- as the code goes

-- So it is with one edit more.
pub keyed_longer : (edits : List Edit) (first n : ℕ) (now : ProfiledText) (old new : KindsRun)
    (table next : Option NewTable) → AreKeyedIn edits first n now old table → IfSome table (IsKnownTable now old)
    → n < length edits → GoesOnWithKeys now old table edits n new next → AreKeyedIn edits first (suc n) now new next
keyed_longer edits first n now old new table next so_far known lt h = by h.by
  where
    by : AddsBehind now old h.edit new next
        ⊎ ((t : NewTable) × ((table ≡ Some t) × ((next ≡ Some t) × AddsInside now old t h.edit new)))
        → AreKeyedIn edits first (suc n) now new next
    by (inl adds) = behind_more edits first n now old new table next so_far lt h.edit h.edit h.here adds
    by (inr (t, (is, (next_is, adds)))) =
        subst (λ (o : Option NewTable). AreKeyedIn edits first (suc n) now new o) (sym next_is)
        (inside_more edits first n now old new t
        (subst (λ (o : Option NewTable). AreKeyedIn edits first n now old o) is so_far) lt h.edit h.edit h.here
        (subst (λ (o : Option NewTable). IfSome o (IsKnownTable now old)) is known).leads adds)
