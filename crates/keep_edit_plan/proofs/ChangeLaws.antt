-- Edits that are found to make a change of a document: what is known of the plan of each is what the law of runs wants.
--
-- Theorems: `remove_here`: a remove that takes a line, leaves it with its comment, or takes a table; `ok_there`,
-- `planned_is`, `sets_here`, `by_set_or_rename`, `by_header`: by the plan.
use Rattle.std.proofs.Common.{◌≡◌, ◌<◌, ◌≤◌, ◌+◌, ◌-◌, ℕ, List, [], true, refl, sym, ap, subst, ◌∙◌, arith}
use Rattle.std.proofs.Common.{IsCharBoundary, Option, Some, None, inl, inr}
use Rattle.std.specs.Prelude.{Err, IfSome, Ok, Result, String, Vec, string_bytes, ◌⊎◌}
use Rattle.std.specs.Result.{result_ok}
use Rattle.std.specs.Global.{Global}
use Rattle.std.proofs.lemmas.Str.{IsUtf8-string_bytes}
use Rattle.keep_types.specs.declared.syntax.Span.{Span}
use Rattle.keep_syntax.specs.Tree as tree
use Rattle.keep_syntax.specs.Tree.{Document, Value, text}
use Rattle.keep_path.specs.Path.{Part}
use Rattle.keep_edit_spec.specs.declared.fault.EditFault.{EditFault}
use Rattle.keep_edit_spec.specs.Changed.{Place}
use Rattle.keep_edit_spec.specs.Edits as law
use Rattle.keep_edit_spec.specs.Edits.{key_with, place}
use Rattle.keep_edit_spec.specs.Refusals.{refusal}
use Rattle.keep_edit_spec.specs.Runs.{MakesChange}
use Rattle.keep_edit_spec.specs.SetValues.{SetsValue}
use Rattle.keep_edit_spec.specs.TextChanges.{place_of_change}
use Rattle.keep_edit_spec.specs.TextEnds.{ends_in_newline}
use Rattle.keep_edit_spec.proofs.Shared.{rename_has_bytes, set_has_bytes, append_place}
use Rattle.keep_edit_plan.proofs.AppendDone.{keys_utf8}
use Rattle.keep_edit_plan.proofs.EditedLaws.{editable}
use Rattle.keep_edit_plan.specs.Answers.{IsDone, IsMadeAt, IsSpanOf, refusal_in}
use Rattle.keep_edit_plan.specs.Given.{IsEdit}
use Rattle.keep_edit_plan.specs.Headers.{edit_of, key_texts}
use Rattle.keep_edit_plan.specs.Plans.{EditPlanned, IsPlan}
use Rattle.keep_edit_plan.specs.Reading.{limit, IsTextOfTree, IsTextOfValue, ProfiledText}
use Rattle.keep_edit_plan.specs.TextEdits.{IsChangeIn, IsPlannedHere, MakesChangeHere, change_of}
use Rattle.keep_edit_plan.specs.declared.header.Header.{Header}
use Rattle.keep_edit_plan.specs.declared.header.Header.TheVariants.{Table, Element}
use Rattle.keep_edit_plan.specs.declared.edit.Edit.{Edit}
use Rattle.keep_edit_plan.specs.declared.edit.Edit.TheVariants as edit
use Rattle.keep_edit_plan.specs.declared.plan.Plan.{Plan}
use Rattle.keep_edit_plan.specs.declared.text_edit.TextEdit.{TextEdit}

-- ---- from character to character

pub change_in : (bytes : List ℕ) (t : TextEdit) → IsSpanOf bytes t.place → IsChangeIn bytes (change_of t)
change_in bytes t h = record {
  starts = h.starts;
  ends = subst (IsCharBoundary bytes)
      (let e : t.place.end ≡ t.place.start + (t.place.end - t.place.start) = omega (arith, h.ordered) in e) h.ends;
}

-- ---- by what is added or taken

pub remove_here : (now : ProfiledText) (x : Edit) (path : List Part) (r : Option TextEdit) → x ≡ edit.Remove path
    → ((s : Document) → IsTextOfTree now s
    → IfSome r (λ made. MakesChange now.profile limit s (law.remove path) (change_of made)))
    → IfSome r (λ made. IsSpanOf now.text made.place) → IfSome r (MakesChangeHere now x)
remove_here now x path None is takes within = tt
remove_here now x path (Some t) is takes within = record {
  edit = law.remove path;
  is = subst (λ (e : Edit). IsEdit e (law.remove path)) (sym is) refl;
  makes = λ s read. takes s read;
  within = within;
}

-- ---- by a plan

-- an edit that has a plan is not refused, and what it writes is of its place
pub planned_is : (old : ProfiledText) (s : Document) (e : law.Edit) (plan : Plan) → EditPlanned s e old (Ok plan)
    → (refusal old.profile limit s e ≡ None) × IsMadeAt (place s e) plan.text_edit
planned_is old s e plan h = by (refusal_in old s e) refl h
  where
    by : (o : Option EditFault) → refusal_in old s e ≡ o → IsDone (IsPlan s e old) o (Ok plan)
        → (refusal old.profile limit s e ≡ None) × IsMadeAt (place s e) plan.text_edit
    by None is k = (is, k.made.0)
    by (Some f) is k = absurd cc

-- what is known of an answer is known of what is in it
pub ok_there : {A E : Type 0} (P : Result A E → Type 0) (r : Result A E) (a : A) → Some a ≡ result_ok r → P r
    → P (Ok a)
ok_there {A} {E} P (Ok found) a is h = let same : found ≡ a = cc in subst (λ (x : A). P (Ok x)) same h
ok_there {A} {E} P (Err f) a is h = absurd cc

-- what is written is the change that is known of it
pub place_is : (p : Place) (t : TextEdit) → IsMadeAt p t → t.place.start ≤ t.place.end
    → p ≡ place_of_change (change_of t)
place_is p t made ordered =
    let start : p.start ≡ t.place.start = ap (λ (x : Span). x.start) (sym made.0) in
    let end : p.end ≡ t.place.end = ap (λ (x : Span). x.end) (sym made.0) in
    let whole : t.place.end ≡ t.place.start + (t.place.end - t.place.start) = omega arith in
    ap (λ (n : ℕ). record { start = n; end = p.end; new = p.new }) start
    ∙ ap (λ (n : ℕ). record { start = t.place.start; end = n; new = p.new }) (end ∙ whole)
    ∙ ap (λ (b : List ℕ). record {
      start = t.place.start;
      end = t.place.start + (t.place.end - t.place.start);
      new = b;
    }) (sym made.1)

-- how many bytes go: some, or none
size_some : (p : Place) (t : TextEdit) → IsMadeAt p t → p.start < p.end → 0 < t.place.end - t.place.start
size_some p t made some =
    omega (arith, some, ap (λ (x : Span). x.start) made.0, ap (λ (x : Span). x.end) made.0)

pub size_none : (p : Place) (t : TextEdit) → IsMadeAt p t → p.start ≡ p.end → t.place.end - t.place.start ≡ 0
size_none p t made none =
    omega (arith, none, ap (λ (x : Span). x.start) made.0, ap (λ (x : Span). x.end) made.0)

module _ (now : ProfiledText) (x : Edit) (t : TextEdit) (h : IsPlannedHere now x t) where
  -- what is known of the plan is what the law of runs wants
  makes_here : ((s : Document) → IsTextOfTree now s → MakesChange now.profile limit s h.edit (change_of t))
      → MakesChangeHere now x t
  makes_here makes = record {
    edit = h.edit;
    is = h.is;
    makes = makes;
    within = h.within;
  }

  -- it sets that value
  pub sets_here : (path : List Part) (given : List ℕ) → x ≡ edit.Set path given → (v : Value) → IsTextOfValue given v
      → (s : Document) → IsTextOfTree now s → SetsValue now.profile limit s path v (change_of t)
  sets_here path given is v value s read =
      let e : law.Edit = law.set path v in
      let (allowed, made) = h.planned s read e (subst (λ (y : Edit). IsEdit y e) (sym is) (v, value, refl)) in
      record {
        given = record { valid = value.reads.valid; obeys = value.obeys };
        allowed = allowed;
        some = size_some (place s e) t made
            (set_has_bytes now.profile limit s path v (editable now s read) allowed);
        is = place_is (place s e) t made h.within.ordered;
      }

  set_here : (path : List Part) (given : List ℕ) → x ≡ edit.Set path given → MakesChangeHere now x t
  set_here path given is =
      let (v, value, same) = subst (λ (y : Edit). IsEdit y h.edit) is h.is in
      makes_here (λ s read.
      subst (λ (f : law.Edit). MakesChange now.profile limit s f (change_of t)) (sym same)
      (sets_here path given is v value s read))

  rename_here : (path : List Part) (name : String Global) → x ≡ edit.Rename path name
      → MakesChangeHere now x t
  rename_here path name is =
      let e : law.Edit = law.rename path (string_bytes name) in
      let same : h.edit ≡ e = subst (λ (y : Edit). IsEdit y h.edit) is h.is in
      makes_here (λ s read.
      let (allowed, made) = h.planned s read h.edit h.is in
      let allowed_rename : refusal now.profile limit s e ≡ None =
      subst (λ (f : law.Edit). refusal now.profile limit s f ≡ None) same allowed in
      let made_rename : IsMadeAt (place s e) t = subst (λ (f : law.Edit). IsMadeAt (place s f) t) same made in
      subst (λ (f : law.Edit). MakesChange now.profile limit s f (change_of t)) (sym same) (record {
        utf8 = IsUtf8-string_bytes name;
        allowed = allowed_rename;
        some = size_some (place s e) t made_rename
            (rename_has_bytes now.profile limit s path (string_bytes name) (editable now s read) allowed_rename);
        is = place_is (place s e) t made_rename h.within.ordered;
      }))

  -- the same of a header, which is written at the end
  module _ (header : Header) (keys : List (String Global)) (late : ends_in_newline now.text ≡ true)
      (same : h.edit ≡ edit_of header (key_texts keys)) (s : Document) (read : IsTextOfTree now s) where
    abbrev e : law.Edit
    e = edit_of header (key_texts keys)

    allowed_header : refusal now.profile limit s e ≡ None
    allowed_header =
        subst (λ (f : law.Edit). refusal now.profile limit s f ≡ None) same (h.planned s read h.edit h.is).0

    made_header : IsMadeAt (place s e) t
    made_header = subst (λ (f : law.Edit). IsMadeAt (place s f) t) same (h.planned s read h.edit h.is).1

    late_tree : ends_in_newline (text s) ≡ true
    late_tree = ap ends_in_newline (sym read.reads.spelled) ∙ late

    place_header : place s e ≡ place_of_change (change_of t)
    place_header = place_is (place s e) t made_header h.within.ordered

    adds_header : t.place.end - t.place.start ≡ 0
    adds_header = size_none (place s e) t made_header (by header)
      where
        by : (header : Header) → (place s (edit_of header (key_texts keys))).start
            ≡ (place s (edit_of header (key_texts keys))).end
        by Table =
            let at = append_place now.profile s read.reads.valid (tree.header [] (key_with (key_texts keys)) []) in
            ap (λ (p : Place). p.start) at ∙ sym (ap (λ (p : Place). p.end) at)
        by Element =
            let at = append_place now.profile s read.reads.valid (tree.element [] (key_with (key_texts keys)) []) in
            ap (λ (p : Place). p.start) at ∙ sym (ap (λ (p : Place). p.end) at)

  table_here : (keys : Vec (String Global) Global) → x ≡ edit.Table keys → ends_in_newline now.text ≡ true
      → MakesChangeHere now x t
  table_here keys is late =
      let same : h.edit ≡ law.append_table (key_texts keys.items) =
      subst (λ (y : Edit). IsEdit y h.edit) is h.is in
      makes_here (λ s read.
      subst (λ (f : law.Edit). MakesChange now.profile limit s f (change_of t)) (sym same) (record {
        utf8 = keys_utf8 keys.items;
        allowed = allowed_header Table keys.items late same s read;
        closed = late_tree Table keys.items late same s read;
        adds = adds_header Table keys.items late same s read;
        is = place_header Table keys.items late same s read;
      }))

  element_here : (keys : Vec (String Global) Global) → x ≡ edit.Element keys → ends_in_newline now.text ≡ true
      → MakesChangeHere now x t
  element_here keys is late =
      let same : h.edit ≡ law.append_element (key_texts keys.items) =
      subst (λ (y : Edit). IsEdit y h.edit) is h.is in
      makes_here (λ s read.
      subst (λ (f : law.Edit). MakesChange now.profile limit s f (change_of t)) (sym same) (record {
        utf8 = keys_utf8 keys.items;
        allowed = allowed_header Element keys.items late same s read;
        closed = late_tree Element keys.items late same s read;
        adds = adds_header Element keys.items late same s read;
        is = place_header Element keys.items late same s read;
      }))

-- ---- as the code tells them apart

pub by_set_or_rename : (now : ProfiledText) (x : Edit) (r : Option TextEdit)
    → ((path : List Part) × (given : List ℕ) × (x ≡ edit.Set path given))
    ⊎ ((path : List Part) × (name : String Global) × (x ≡ edit.Rename path name))
    → IfSome r (IsPlannedHere now x) → IfSome r (MakesChangeHere now x)
by_set_or_rename now x None kind h = tt
by_set_or_rename now x (Some t) (inl (path, given, is)) h = set_here now x t h path given is
by_set_or_rename now x (Some t) (inr (path, name, is)) h = rename_here now x t h path name is

pub by_header : (now : ProfiledText) (x : Edit) (r : Option TextEdit)
    → ((keys : Vec (String Global) Global) × (x ≡ edit.Table keys))
    ⊎ ((keys : Vec (String Global) Global) × (x ≡ edit.Element keys))
    → ends_in_newline now.text ≡ true
    → IfSome r (IsPlannedHere now x) → IfSome r (MakesChangeHere now x)
by_header now x None kind late h = tt
by_header now x (Some t) (inl (keys, is)) late h = table_here now x t h keys is late
by_header now x (Some t) (inr (keys, is)) late h = element_here now x t h keys is late
