-- Edits of entries, as sets of the values that hold them.
--
-- What is written into the holder's text gives its new text, so the whole text is the same whether the edit writes its
-- bytes or the set writes that text (`put_inside`). Both make documents of the grammar, and one text has one document,
-- so they make the same (`same_document`). The set is planned, so it is not refused and its place is the holder's
-- value; and what the index tells of the holder's kind is what the document states of it (`holds`).
--
-- Theorems: `not_first`, `step_taken`: the first steps of a path; `last_step`: a path and its last step; `put_inside`:
-- the text of a value after an edit inside; `planned_set`: the edit as a set; `by_insert`, `by_set`, `by_rename`,
-- `by_remove`: of an entry.
use Rattle.std.proofs.Common.{◌≡◌, ◌≢◌, ℕ, zero, suc, ◌+◌, ◌-◌, ◌≤◌, true, List, [], ◌∷◌, ◌++◌, length, take, drop}
use Rattle.std.proofs.Common.{slice_get, slice_range, string_bytes, refl, sym, ap, ap₂, subst, ◌∙◌, arith, append_assoc}
use Rattle.std.proofs.Common.{Global, Option, Some, None, Result, Ok, String, take_all}
use Rattle.std.specs.Prelude.{IfSome}
use Rattle.std.specs.Result.{result_ok}
use Rattle.std.proofs.lemmas.List.{drop-drop, drop-take, take-append-drop, take-take}
use Rattle.std.proofs.lemmas.Str.{IsUtf8-string_bytes}
use Rattle.keep_types.specs.declared.leaf.Profile.TheVariants.{Wide}
use Rattle.keep_types.specs.declared.node.NodeInfo.{NodeInfo}
use Rattle.keep_types.specs.declared.syntax.Span.{Span}
use Rattle.keep_types.specs.declared.syntax.ValueInfo.{ValueInfo}
use Rattle.keep_syntax.specs.declared.syntax.Syntax.{Syntax}
use Rattle.keep_syntax.specs.Contract.{values_of}
use Rattle.keep_syntax.specs.Tree.{Document, Value, text}
use Rattle.keep_syntax.proofs.Shared.{one_document}
use Rattle.keep_path.specs.NodeInfos.{NodeInfos}
use Rattle.keep_path.specs.Path.{Part, AreUtf8, IsRooted, index, key}
use Rattle.keep_meaning.specs.Marks.{Mention}
use Rattle.keep_meaning.specs.Meaning.{mentions_in}
use Rattle.keep_meaning.specs.Nodes.{fact_at, kind_at}
use Rattle.keep_rules.specs.declared.index.NodeId.{NodeId}
use Rattle.keep_edit_spec.specs.declared.fault.EditFault.{EditFault}
use Rattle.keep_edit_spec.specs.Changed.{put}
use Rattle.keep_edit_spec.specs.Edits as law
use Rattle.keep_edit_spec.specs.Edits.{edited_document, place}
use Rattle.keep_edit_spec.specs.EntryEdits.{CanHold}
use Rattle.keep_edit_spec.specs.Laws.{IsGivenValue, IsLawfulEdit}
use Rattle.keep_edit_spec.specs.Refusals.{has_value, refusal}
use Rattle.keep_edit_spec.specs.SetValues.{SetsValue}
use Rattle.keep_edit_spec.proofs.Shared.{change_put, has_of_number, insert_lawful, remove_lawful, rename_lawful}
use Rattle.keep_edit_spec.proofs.Shared.{set_lawful, set_place}
use Rattle.keep_edit_plan.specs.Answers.{text_after}
use Rattle.keep_edit_plan.specs.Given.{IsEdit}
use Rattle.keep_edit_plan.specs.Places.{place_at}
use Rattle.keep_edit_plan.specs.Plans.{IsValueFound}
use Rattle.keep_edit_plan.specs.Reading.{Holds, IsTextOfTree, IsTextOfValue, ProfiledText, limit}
use Rattle.keep_edit_plan.specs.TextEdits.{IsPlannedHere, IsSetOfHolder, MakesSetHere, change_of}
use Rattle.keep_edit_plan.specs.declared.edit.Edit.{Edit}
use Rattle.keep_edit_plan.specs.declared.edit.Edit.TheVariants as edit
use Rattle.keep_edit_plan.specs.declared.text_edit.TextEdit.{TextEdit}
use Rattle.keep_edit_plan.proofs.AimLaws.{stated_here}
use Rattle.keep_edit_plan.proofs.ChangeLaws.{ok_there, sets_here}
use Rattle.keep_edit_plan.proofs.EditedLaws.{editable}
use Rattle.keep_edit_plan.proofs.FoundLaws.{value_there}
use Rattle.keep_edit_plan.proofs.HolderLaws.{taken_more}
use Rattle.keep_edit_plan.proofs.KeysLaws.{keys_utf8}
use Rattle.keep_edit_plan.proofs.NodeLaws.{kind_stated}

-- the node and the number of the value that were found
pub found_there : (d : ProfiledText) (path : List Part) (r : Result (NodeId × ℕ) EditFault) (found : NodeId × ℕ)
    → Some found ≡ result_ok r → ((s : Document) → IsTextOfTree d s → IsValueFound path s r)
    → (s : Document) → IsTextOfTree d s → IsValueFound path s (Ok found)
found_there d path r found is there s read = ok_there (IsValueFound path s) r found is (there s read)

-- ---- the steps of a path

-- an index is not the first step
pub not_first : (path first : List Part) (n : ℕ) (p : Part) → IsRooted path → slice_get path n ≡ Some p
    → first ≡ take n path → (k : ℕ) → p ≡ index k → first ≢ []
not_first [] first n p rooted is before k at e = absurd cc
not_first (key name ∷ path) first zero p rooted is before k at e =
    let same : Some (key name) ≡ Some (index k) = is ∙ ap Some at in absurd cc
not_first (index m ∷ path) first n p rooted is before k at e = absurd rooted
not_first (key name ∷ path) first (suc n) p rooted is before k at e =
    let none : [] ≡ key name ∷ take n path = sym e ∙ before in absurd cc

-- one step more is taken
pub step_taken : (path first : List Part) (n : ℕ) (p : Part) → slice_get path n ≡ Some p → first ≡ take n path
    → first ++ p ∷ [] ≡ take (n + 1) path
step_taken path first n p is before =
    let next : suc n ≡ n + 1 = omega arith in
    ap (λ (q : List Part). q ++ p ∷ []) before ∙ sym (taken_more path n p is) ∙ ap (λ (m : ℕ). take m path) next

pub last_step : (path holder : List Part) (n : ℕ) (p : Part) → slice_get path n ≡ Some p → length path ≡ suc n
    → holder ≡ take n path → path ≡ holder ++ p ∷ []
last_step path holder n p is count first =
    sym (take_all (suc n) path (omega (arith, count))) ∙ taken_more path n p is
    ∙ ap (λ (q : List Part). q ++ p ∷ []) (sym first)

-- ---- the text of a value after an edit inside

module _ (bytes : List ℕ) (s : Span) (t : TextEdit) (low : s.start ≤ t.place.start)
    (ordered : t.place.start ≤ t.place.end) (high : t.place.end ≤ s.end) where
  start_is : take s.start bytes ++ slice_range bytes s.start t.place.start ≡ take t.place.start bytes
  start_is =
      let at : s.start + (t.place.start - s.start) ≡ t.place.start = omega (arith, low) in
      ap₂ (λ (a b : List ℕ). a ++ b) (sym (take-take s.start t.place.start bytes low))
      (sym (drop-take s.start (t.place.start - s.start) bytes)
      ∙ ap (λ (n : ℕ). drop s.start (take n bytes)) at)
      ∙ take-append-drop s.start (take t.place.start bytes)

  end_is : slice_range bytes t.place.end s.end ++ drop s.end bytes ≡ drop t.place.end bytes
  end_is =
      let at : t.place.end + (s.end - t.place.end) ≡ s.end = omega (arith, high) in
      ap (λ (b : List ℕ). slice_range bytes t.place.end s.end ++ b)
      (ap (λ (n : ℕ). drop n bytes) (sym at) ∙ sym (drop-drop (s.end - t.place.end) t.place.end bytes))
      ∙ take-append-drop (s.end - t.place.end) (drop t.place.end bytes)

  pub put_inside : (part : List ℕ)
      → part ≡ (slice_range bytes s.start t.place.start ++ string_bytes t.new) ++ slice_range bytes t.place.end s.end
      → put bytes (place_at s part) ≡ text_after bytes t
  put_inside part is =
      let a : List ℕ = take s.start bytes in
      let b : List ℕ = slice_range bytes s.start t.place.start in
      let c : List ℕ = slice_range bytes t.place.end s.end in
      let d : List ℕ = drop s.end bytes in
      let new : List ℕ = string_bytes t.new in
      ap (λ (x : List ℕ). a ++ (x ++ d)) is
      ∙ ap (λ (x : List ℕ). a ++ x) (append_assoc (b ++ new) c d ∙ append_assoc b new (c ++ d))
      ∙ sym (append_assoc a b (new ++ (c ++ d)))
      ∙ ap₂ (λ (x y : List ℕ). x ++ (new ++ y)) start_is end_is

-- ---- the edit as a set

module _ (d : ProfiledText) (syntax : Syntax) (nodes : NodeInfos) (held : Holds d syntax nodes) (x : Edit)
    (path holder : List Part) (part : Part) (whole : path ≡ holder ++ part ∷ []) (id : NodeId) (number : ℕ)
    (found : (s : Document) → IsTextOfTree d s → IsValueFound holder s (Ok (id, number))) (info : NodeInfo)
    (node : slice_get nodes.infos id.0 ≡ Some info)
    (can : (q : List Part) (ms : List Mention) → info.kind ≡ kind_at q ms → CanHold (fact_at q ms) part)
    (value : ValueInfo) (there : slice_get (values_of syntax) number ≡ Some value) (entry : TextEdit)
    (planned : IsPlannedHere d x entry) (given : List ℕ)
    (inside : put d.text (place_at value.span given) ≡ text_after d.text entry) where
  holds : (s : Document) → IsTextOfTree d s → CanHold (fact_at holder (mentions_in s)) part
  holds s read =
      let stated = stated_here d syntax nodes holder s held read id (found s read).0 info node in
      can holder (mentions_in s) (ap (λ (i : NodeInfo). i.kind) stated.is ∙ kind_stated holder s)

  entry_text : (s : Document) → IsTextOfTree d s → text (edited_document s planned.edit) ≡ text_after d.text entry
  entry_text s read =
      let (allowed, made) = planned.planned s read planned.edit planned.is in
      change_put s planned.edit ∙ ap (λ (b : List ℕ). put b (place s planned.edit)) (sym read.reads.spelled)
      ∙ sym (ap₂ (λ (y : Span) (g : List ℕ). put d.text (place_at y g)) made.0 made.1)

  set_text : (v : Value) → IsTextOfValue given v → (s : Document) → IsTextOfTree d s
      → text (edited_document s (law.set holder v)) ≡ put d.text (place_at value.span given)
  set_text v is s read =
      let at = value_there d syntax nodes holder s number held read (found s read).1 value there in
      change_put s (law.set holder v) ∙ ap (λ (b : List ℕ). put b (place s (law.set holder v))) (sym read.reads.spelled)
      ∙ ap (put d.text) (set_place holder v s number value read.obeys
      (has_of_number holder s number read.obeys (found s read).1) (found s read).1 at.of.info
      ∙ ap (place_at value.span) (sym is.reads.spelled))

  set_of_holder : (t : TextEdit) → IsPlannedHere d (edit.Set holder given) t → IsSetOfHolder d x path t
  set_of_holder t set =
      let (v, is, e) = set.is in
      record {
        edit = planned.edit;
        is = planned.is;
        holder = holder;
        part = part;
        whole = whole;
        value = v;
        holds = holds;
        allowed = λ s read. (planned.planned s read planned.edit planned.is).0;
        sets = sets_here d (edit.Set holder given) t set holder given refl v is;
        same = λ s read. entry_text s read ∙ sym inside ∙ sym (set_text v is s read);
        within = set.within;
      }

  pub planned_set : (r : Option TextEdit) → IfSome r (IsPlannedHere d (edit.Set holder given))
      → IfSome r (IsSetOfHolder d x path)
  planned_set None h = tt
  planned_set (Some t) h = set_of_holder t h

-- ---- of an entry

-- what both make of the text is of the grammar, so it is of one document
same_document : (d : ProfiledText) (s : Document) (path : List Part) (v : Value) (c : TextEdit) (e : law.Edit)
    → IsTextOfTree d s → SetsValue d.profile limit s path v (change_of c) → IsLawfulEdit d.profile limit s e
    → text (edited_document s e) ≡ text (edited_document s (law.set path v))
    → edited_document s e ≡ edited_document s (law.set path v)
same_document d s path v c e read sets lawful same =
    let other : IsLawfulEdit d.profile limit s (law.set path v) =
    set_lawful d.profile limit s path v (editable d s read) sets.given sets.allowed in
    one_document d.profile (edited_document s e) (edited_document s (law.set path v)) lawful.reads.valid
    other.reads.valid same

pub by_insert : (d : ProfiledText) (x : Edit) (path : List Part) (given : List ℕ) (r : Option TextEdit)
    → x ≡ edit.Insert path given → AreUtf8 path → IfSome r (IsSetOfHolder d x path) → IfSome r (MakesSetHere d x)
by_insert d x path given None is utf8 h = tt
by_insert d x path given (Some t) is utf8 h =
    let (v, value, same) = subst (λ (y : Edit). IsEdit y h.edit) is h.is in
    let e : law.Edit = law.insert path v in
    record {
      edit = e;
      is = subst (λ (f : law.Edit). IsEdit x f) same h.is;
      holder = h.holder;
      value = h.value;
      makes = λ s read.
          let allowed : refusal d.profile limit s e ≡ None =
          subst (λ (f : law.Edit). refusal d.profile limit s f ≡ None) same (h.allowed s read) in
          let lawful : IsLawfulEdit d.profile limit s e =
          insert_lawful d.profile limit s path v (editable d s read)
          (record { valid = value.reads.valid; obeys = value.obeys }) (keys_utf8 path utf8) allowed in
          record {
            of_entry = record {
              part = h.part;
              is = h.whole;
              holds = h.holds s read;
              given = record { valid = value.reads.valid; obeys = value.obeys };
              utf8 = keys_utf8 path utf8;
            };
            allowed = allowed;
            sets = h.sets s read;
            same =
                same_document d s h.holder h.value t e read (h.sets s read) lawful
                (subst (λ (f : law.Edit).
                text (edited_document s f) ≡ text (edited_document s (law.set h.holder h.value))) same
                (h.same s read));
          };
      within = h.within;
    }

pub by_set : (d : ProfiledText) (x : Edit) (path : List Part) (given : List ℕ) (r : Option TextEdit)
    → x ≡ edit.Set path given → IfSome r (IsSetOfHolder d x path) → IfSome r (MakesSetHere d x)
by_set d x path given None is h = tt
by_set d x path given (Some t) is h =
    let (v, value, same) = subst (λ (y : Edit). IsEdit y h.edit) is h.is in
    let e : law.Edit = law.set path v in
    let good : IsGivenValue Wide v = record { valid = value.reads.valid; obeys = value.obeys } in
    record {
      edit = e;
      is = subst (λ (f : law.Edit). IsEdit x f) same h.is;
      holder = h.holder;
      value = h.value;
      makes = λ s read.
          let allowed : refusal d.profile limit s e ≡ None =
          subst (λ (f : law.Edit). refusal d.profile limit s f ≡ None) same (h.allowed s read) in
          record {
            of_entry = record { part = h.part; is = h.whole; holds = h.holds s read; given = good };
            allowed = allowed;
            sets = h.sets s read;
            same =
                same_document d s h.holder h.value t e read (h.sets s read)
                (set_lawful d.profile limit s path v (editable d s read) good allowed)
                (subst (λ (f : law.Edit).
                text (edited_document s f) ≡ text (edited_document s (law.set h.holder h.value))) same
                (h.same s read));
          };
      within = h.within;
    }

pub by_rename : (d : ProfiledText) (x : Edit) (path : List Part) (name : String Global) (r : Option TextEdit)
    → x ≡ edit.Rename path name → IfSome r (IsSetOfHolder d x path) → IfSome r (MakesSetHere d x)
by_rename d x path name None is h = tt
by_rename d x path name (Some t) is h =
    let same = subst (λ (y : Edit). IsEdit y h.edit) is h.is in
    let e : law.Edit = law.rename path (string_bytes name) in
    record {
      edit = e;
      is = subst (λ (f : law.Edit). IsEdit x f) same h.is;
      holder = h.holder;
      value = h.value;
      makes = λ s read.
          let allowed : refusal d.profile limit s e ≡ None =
          subst (λ (f : law.Edit). refusal d.profile limit s f ≡ None) same (h.allowed s read) in
          record {
            of_entry =
                record { part = h.part; is = h.whole; holds = h.holds s read; utf8 = IsUtf8-string_bytes name };
            allowed = allowed;
            sets = h.sets s read;
            same =
                same_document d s h.holder h.value t e read (h.sets s read)
                (rename_lawful d.profile limit s path (string_bytes name) (editable d s read)
                (IsUtf8-string_bytes name) allowed)
                (subst (λ (f : law.Edit).
                text (edited_document s f) ≡ text (edited_document s (law.set h.holder h.value))) same
                (h.same s read));
          };
      within = h.within;
    }

-- a path at which a value is found has one
pub valued : (d : ProfiledText) (path : List Part) (r : Result (NodeId × ℕ) EditFault) (found : NodeId × ℕ)
    → Some found ≡ result_ok r → ((s : Document) → IsTextOfTree d s → IsValueFound path s r)
    → (s : Document) → IsTextOfTree d s → has_value path (mentions_in s) ≡ true
valued d path r found is there s read =
    has_of_number path s found.1 read.obeys (found_there d path r found is there s read).1

pub by_remove : (d : ProfiledText) (x : Edit) (path : List Part) (r : Option TextEdit) → x ≡ edit.Remove path
    → ((s : Document) → IsTextOfTree d s → has_value path (mentions_in s) ≡ true)
    → IfSome r (IsSetOfHolder d x path) → IfSome r (MakesSetHere d x)
by_remove d x path None is valued h = tt
by_remove d x path (Some t) is valued h =
    let same = subst (λ (y : Edit). IsEdit y h.edit) is h.is in
    let e : law.Edit = law.remove path in
    record {
      edit = e;
      is = subst (λ (f : law.Edit). IsEdit x f) same h.is;
      holder = h.holder;
      value = h.value;
      makes = λ s read.
          let allowed : refusal d.profile limit s e ≡ None =
          subst (λ (f : law.Edit). refusal d.profile limit s f ≡ None) same (h.allowed s read) in
          record {
            of_entry = record { part = h.part; is = h.whole; holds = h.holds s read; valued = valued s read };
            allowed = allowed;
            sets = h.sets s read;
            same =
                same_document d s h.holder h.value t e read (h.sets s read)
                (remove_lawful d.profile limit s path (editable d s read) allowed)
                (subst (λ (f : law.Edit).
                text (edited_document s f) ≡ text (edited_document s (law.set h.holder h.value))) same
                (h.same s read));
          };
      within = h.within;
    }
