-- What an edit is in a run with others: itself, or the set of the value that holds its entry.
--
-- The holder's path is that of the entry without its last step.
--
-- Theorems: `by_itself`, `line_in_run`, `other_in_run`, `by_set`, `by_places`; `again`: a set of a value that is set
-- already; `entry_again`: an edit of an entry of one; `holder_first`, `same_place`: the holder's path, and its place.
use Rattle.std.proofs.Common.{◌≡◌, ◌∷◌, ◌++◌, [], List, refl, sym, ap, subst, ◌∙◌, inl, inr, Option, Some, None}
use Rattle.std.proofs.Common.{false, true, string_bytes, ℕ, suc, ◌-◌, arith, length, take, get_or, Bool, not, ap₂}
use Rattle.std.proofs.Common.{eqb-true, take-suc, take_all, drop}
use Rattle.std.specs.Prelude.{◌&&◌, ◌==◌, Err, IfOk, IfSome, Ok, Result, slice_range}
use Rattle.std.specs.Result.{result_ok}
use Rattle.keep_types.specs.declared.leaf.Profile.TheVariants.{Wide}
use Rattle.keep_types.specs.declared.syntax.Span.{Span}
use Rattle.keep_syntax.specs.Tree.{Document, Value, text}
use Rattle.keep_syntax.proofs.Shared.{one_value}
use Rattle.keep_path.specs.Path.{Part, without_last}
use Rattle.keep_edit_spec.specs.Edits as law
use Rattle.keep_edit_spec.specs.EntryEdits.{IsOfEntry, MakesSet}
use Rattle.keep_edit_spec.specs.InsertKinds.{AddsAs}
use Rattle.keep_edit_spec.specs.declared.line_kind.LineKind.{LineKind}
use Rattle.keep_edit_spec.proofs.Shared.{kind_is, without_last-snoc}
use Rattle.keep_edit_plan.specs.Headers.{key_texts}
use Rattle.keep_edit_plan.proofs.Shared.{editable}
use Rattle.keep_edit_spec.specs.Runs as runs
use Rattle.keep_edit_spec.specs.Runs.{MakesChange}
use Rattle.keep_edit_spec.specs.TextChanges.{TextChange, change_at}
use Rattle.keep_edit_plan.specs.TextEdits.{HasChange, MakesChangeHere, MakesSetHere, change_of}
use Rattle.keep_edit_plan.specs.declared.edit.Edit.{Edit}
use Rattle.keep_edit_plan.specs.declared.edit.Edit.TheVariants as edit
use Rattle.keep_edit_plan.specs.declared.text_edit.TextEdit.{TextEdit}
use Rattle.keep_edit_plan.specs.Answers.{IsSpanOf}
use Rattle.keep_edit_runs.specs.Lists.{IsEdit}
use Rattle.keep_edit_plan.specs.Reading.{IsAcceptedValue, IsTextOfTree, IsTextOfValue, ProfiledText, limit}
use Rattle.keep_edit_runs.specs.Runs.{IsOfKind, IsSeenAs, IsSetBy, MakesInRunHere, MakesItselfHere, SetsAgainHere}
use Rattle.keep_edit_runs.specs.Runs.{SetsHolderHere, no_value, outline}
use Rattle.keep_edit_runs.specs.Runs.{plain}
use Rattle.keep_edit_runs.specs.ValueAfter.{HasPath, MakesValue}
use Rattle.keep_edit_runs.specs.declared.outline.Outline.{Outline}
use Rattle.keep_edit_runs.specs.declared.at_once.RunEdit.{RunEdit}
use Rattle.keep_edit_runs.specs.declared.outline.SeenAs.{SeenAs}
use Rattle.keep_edit_runs.specs.declared.outline.SeenAs.TheVariants.{Entry, FirstKey, Itself}

module _ (now : ProfiledText) (s : Document) (read : IsTextOfTree now s) where
  plain_seen : (e a : law.Edit) → e ≡ a → plain (runs.seen s e) ≡ plain (runs.seen s a)
  plain_seen e a is = ap (λ (f : law.Edit). plain (runs.seen s f)) is

  -- an edit that is not seen as the set of a value
  plain_itself : (x : Edit) (e : law.Edit) (how : SeenAs) → (how ≡ Entry → ⊥) → IsSeenAs now x how → IsEdit x e
      → plain (runs.seen s e) ≡ outline x how
  plain_itself (edit.Insert p w) e Itself other h (v, text, is) = absurd h
  plain_itself (edit.Insert p w) e Entry other h (v, text, is) = absurd (other refl)
  plain_itself (edit.Insert p w) e (FirstKey n) other h (v, text, is) =
      plain_seen e (law.insert p v) is ∙ ap (λ (k : ℕ). law.insert (take k p) no_value) (sym (h s read))
  plain_itself (edit.Remove p) e Itself other h is = plain_seen e (law.remove p) is
  plain_itself (edit.Remove p) e Entry other h is = absurd (other refl)
  plain_itself (edit.Remove p) e (FirstKey n) other h is = plain_seen e (law.remove p) is
  plain_itself (edit.Set p w) e Itself other h (v, text, is) = plain_seen e (law.set p v) is
  plain_itself (edit.Set p w) e Entry other h (v, text, is) = absurd (other refl)
  plain_itself (edit.Set p w) e (FirstKey n) other h (v, text, is) = plain_seen e (law.set p v) is
  plain_itself (edit.Rename p w) e Itself other h is = plain_seen e (law.rename p (string_bytes w)) is
  plain_itself (edit.Rename p w) e Entry other h is = absurd (other refl)
  plain_itself (edit.Rename p w) e (FirstKey n) other h is = plain_seen e (law.rename p (string_bytes w)) is
  plain_itself (edit.Table ks) e how other h is = plain_seen e (law.append_table (key_texts ks.items)) is
  plain_itself (edit.Element ks) e how other h is = plain_seen e (law.append_element (key_texts ks.items)) is

set_at : (holder path : List Part) (part : Part) → path ≡ holder ++ part ∷ []
    → law.set holder no_value ≡ law.set (without_last path) no_value
set_at holder path part is =
    ap (λ (p : List Part). law.set p no_value) (sym (ap without_last is ∙ without_last-snoc holder part))

module _ (s : Document) (holder : List Part) where
  plain_set : (x : Edit) (e : law.Edit) → IsEdit x e → IsOfEntry s holder e
      → law.set holder no_value ≡ outline x Entry
  plain_set (edit.Insert p w) e (v, text, is) h =
      let entry : IsOfEntry s holder (law.insert p v) = subst (IsOfEntry s holder) is h in
      set_at holder p entry.part entry.is
  plain_set (edit.Remove p) e is h =
      let entry : IsOfEntry s holder (law.remove p) = subst (IsOfEntry s holder) is h in
      set_at holder p entry.part entry.is
  plain_set (edit.Set p w) e (v, text, is) h =
      let entry : IsOfEntry s holder (law.set p v) = subst (IsOfEntry s holder) is h in
      set_at holder p entry.part entry.is
  plain_set (edit.Rename p w) e is h =
      let entry : IsOfEntry s holder (law.rename p (string_bytes w)) = subst (IsOfEntry s holder) is h in
      set_at holder p entry.part entry.is
  plain_set (edit.Table ks) e is h =
      let no : IsOfEntry s holder (law.append_table (key_texts ks.items)) = subst (IsOfEntry s holder) is h in
      absurd no
  plain_set (edit.Element ks) e is h =
      let no : IsOfEntry s holder (law.append_element (key_texts ks.items)) = subst (IsOfEntry s holder) is h in
      absurd no

-- what an edit makes by itself is what it makes in a run, if it is not seen as the set of a value
pub by_itself : (now : ProfiledText) (x : Edit) (how : SeenAs) (r : Option RunEdit) → (how ≡ Entry → ⊥)
    → IsSeenAs now x how → IfSome r (λ m. MakesItselfHere now x m.change m.line)
    → IfSome r (λ m. MakesInRunHere now x (outline x how) m.change m.line)
by_itself now x how None other seen h = tt
by_itself now x how (Some m) other seen h = record {
  edit = h.edit;
  is = h.is;
  in_run = λ s. runs.seen s h.edit;
  outline_is = λ s read. plain_itself now s read x h.edit how other seen h.is;
  makes = λ s read. let (makes, of) = h.makes s read in inl (refl, makes, of);
  within = h.within;
}

-- an insert that adds a line of that kind
pub line_in_run : (now : ProfiledText) (x : Edit) (path : List Part) (given : List ℕ) (t : TextEdit) (kind : LineKind)
    → x ≡ edit.Insert path given
    → ((s : Document) → IsTextOfTree now s → (v : Value) → IsTextOfValue given v
    → AddsAs kind now.profile limit s path v (change_of t))
    → IsSpanOf now.text t.place → IsAcceptedValue Wide given → MakesItselfHere now x t (Some kind)
line_in_run now x path given t kind is adds within (v, value) = record {
  edit = law.insert path v;
  is = subst (λ (y : Edit). IsEdit y (law.insert path v)) (sym is) (v, value, refl);
  makes = λ s read.
      let line : AddsAs kind now.profile limit s path v (change_of t) = adds s read v value in (
        (kind, line),
        ap (λ (a : LineKind). Some a) (sym (kind_is kind now.profile limit s path v (change_of t) line)),
      );
  within = within;
}

-- an edit that is no insert
pub other_in_run : (now : ProfiledText) (x : Edit) (t : TextEdit)
    → ((path : List Part) (given : List ℕ) → x ≡ edit.Insert path given → ⊥) → MakesChangeHere now x t
    → MakesItselfHere now x t None
other_in_run now x t none h = record {
  edit = h.edit;
  is = h.is;
  makes = λ s read. (h.makes s read, of_none s x h.edit none h.is);
  within = h.within;
}
  where
    of_none : (s : Document) (y : Edit) (e : law.Edit)
        → ((path : List Part) (given : List ℕ) → y ≡ edit.Insert path given → ⊥) → IsEdit y e → IsOfKind s e None
    of_none s (edit.Insert p w) e never is = absurd (never p w refl)
    of_none s (edit.Set p w) e never (v, given, is) = subst (λ (f : law.Edit). IsOfKind s f None) (sym is) tt
    of_none s (edit.Remove p) e never is = subst (λ (f : law.Edit). IsOfKind s f None) (sym is) tt
    of_none s (edit.Rename p w) e never is = subst (λ (f : law.Edit). IsOfKind s f None) (sym is) tt
    of_none s (edit.Table ks) e never is = subst (λ (f : law.Edit). IsOfKind s f None) (sym is) tt
    of_none s (edit.Element ks) e never is = subst (λ (f : law.Edit). IsOfKind s f None) (sym is) tt

pub by_set : (now : ProfiledText) (x : Edit) (r : Option TextEdit) → IfSome r (MakesSetHere now x)
    → IfSome r (λ t. MakesInRunHere now x (outline x Entry) t None)
by_set now x None h = tt
by_set now x (Some t) h = record {
  edit = h.edit;
  is = h.is;
  in_run = λ s. law.set h.holder h.value;
  outline_is = λ s read. plain_set s h.holder x h.edit h.is (h.makes s read).of_entry;
  makes = λ s read. inr (h.holder, h.value, refl, h.makes s read);
  within = h.within;
}

-- an edit of an entry of the value in this place, by the set of the value to what it makes of that
pub by_places : (now : ProfiledText) (x : Edit) (path : List Part) (place : Span) (was new : List ℕ)
    (r : Option TextEdit) → HasPath x path → slice_range now.text place.start place.end ≡ was
    → MakesValue now.profile was x new → IfSome r (SetsHolderHere now path new) → IfSome r (λ t. t.place ≡ place)
    → IfSome r (λ t. MakesInRunHere now x (outline x Entry) t None)
by_places now x path place was new None has given made by same = tt
by_places now x path place was new (Some t) has given made by same =
    let (v, text_is, is_set) = by.sets.is in
    let same_value : v ≡ made.value =
    one_value Wide v made.value text_is.reads.valid made.text_is.reads.valid
    (sym text_is.reads.spelled ∙ made.text_is.reads.spelled) in
    let is : by.sets.edit ≡ law.set by.holder made.value = is_set ∙ ap (law.set by.holder) same_value in
    let there : (s : Document) → IsTextOfTree now s
    → take (change_of t).size (drop (change_of t).at (text s)) ≡ was =
    λ s read.
    subst (λ (p : Span). take (p.end - p.start) (drop p.start (text s)) ≡ was) (sym same)
    (ap (λ b. slice_range b place.start place.end) (sym read.reads.spelled) ∙ given) in
    let makes : (s : Document) → IsTextOfTree now s
    → MakesSet now.profile limit s made.edit by.holder made.value (change_of t) =
    λ s read. made.makes s by.holder by.part (change_of t) (has made.edit made.is ∙ by.whole) (editable now s read)
    (subst (λ (e : law.Edit). MakesChange now.profile limit s e (change_of t)) is (by.sets.makes s read))
    (there s read) in
    record {
      edit = made.edit;
      is = made.is;
      in_run = λ s. law.set by.holder made.value;
      outline_is = λ s read. plain_set s by.holder x made.edit made.is (makes s read).of_entry;
      makes = λ s read. inr (by.holder, made.value, refl, makes s read);
      within = by.sets.within;
    }

-- a set of a value that an edit with one of these outlines sets
pub again : (now : ProfiledText) (outlines : List Outline) (changes : List TextChange) (x : Edit) (path : List Part)
    (r : Option TextEdit) → ((e : law.Edit) → IsEdit x e → (v : Value) × (e ≡ law.set path v))
    → IsSetBy outlines path → IfSome r (MakesChangeHere now x)
    → IfSome r (SetsAgainHere now x outlines changes)
again now outlines changes x path None sets already h = tt
again now outlines changes x path (Some t) sets already h =
    let (v, is) = sets h.edit h.is in
    record {
      edit = h.edit;
      is = h.is;
      path = path;
      value = v;
      makes = inl is;
      already = already;
      sets = λ s read. subst (λ (e : law.Edit). MakesChange now.profile limit s e (change_of t)) is (h.makes s read);
      within = h.within;
    }

-- ---- an edit of an entry of a value that is set already

-- the first steps, without the last
ends_in : (path holder : List Part) (n : ℕ) → length path ≡ suc n → holder ≡ take n path
    → (part : Part) × (path ≡ holder ++ part ∷ [])
ends_in [] holder n count is = absurd (omega (arith, count))
ends_in (p ∷ ps) holder n count is = (
  get_or (p ∷ ps) n p,
  sym (take_all (suc n) (p ∷ ps) (omega (arith, count))) ∙ take-suc (p ∷ ps) n p (omega (arith, count))
      ∙ ap (λ (q : List Part). q ++ get_or (p ∷ ps) n p ∷ []) (sym is),
)

pub holder_first : {E : Type 0} (path : List Part) (n : ℕ) (r : Result (List Part) E) → length path ≡ suc n
    → IfOk r (λ first. first ≡ take n path)
    → IfSome (result_ok r) (λ holder. (part : Part) × (path ≡ holder ++ part ∷ []))
holder_first path n (Err f) count h = tt
holder_first path n (Ok first) count h = ends_in path first n count h

-- places that are told to be the same
pub same_place : (differ : Bool) (p q : Span) → differ ≡ not ((p.start == q.start) && (p.end == q.end))
    → differ ≡ false → p ≡ q
same_place differ p q is same =
    let (starts, ends) = both_true differ (p.start == q.start) (p.end == q.end) is same in
    ap₂ (λ (a b : ℕ). record { start = a; end = b }) (eqb-true p.start q.start starts) (eqb-true p.end q.end ends)
  where
    both_true : (r x y : Bool) → r ≡ not (x && y) → r ≡ false → (x ≡ true) × (y ≡ true)
    both_true r true true e f = (refl, refl)
    both_true r true false e f = absurd cc
    both_true r false y e f = absurd cc

-- an edit of an entry of a value that an edit with one of these outlines sets
pub entry_again : (now : ProfiledText) (outlines : List Outline) (changes : List TextChange) (x : Edit)
    (path : List Part) (was : TextEdit) (new : List ℕ) (r : Option TextEdit) → HasPath x path
    → IsSetBy outlines (without_last path) → HasChange changes (change_of was)
    → MakesValue now.profile (string_bytes was.new) x new → IfSome r (SetsHolderHere now path new)
    → IfSome r (λ t. t.place ≡ was.place) → IfSome r (SetsAgainHere now x outlines changes)
entry_again now outlines changes x path was new None has already earlier made by place = tt
entry_again now outlines changes x path was new (Some t) has already earlier made by place =
    let (v, text_is, is_set) = by.sets.is in
    let same : v ≡ made.value =
    one_value Wide v made.value text_is.reads.valid made.text_is.reads.valid
    (sym text_is.reads.spelled ∙ made.text_is.reads.spelled) in
    let is : by.sets.edit ≡ law.set by.holder made.value = is_set ∙ ap (law.set by.holder) same in
    let before : without_last path ≡ by.holder = ap without_last by.whole ∙ without_last-snoc by.holder by.part in
    record {
      edit = made.edit;
      is = made.is;
      path = by.holder;
      value = made.value;
      makes = inr (record {
        was = string_bytes was.new;
        earlier = subst (λ (p : Span). HasChange changes (change_at p.start (p.end - p.start) (string_bytes was.new)))
            (sym place) earlier;
        makes = λ u d fine sets there.
            made.makes u by.holder by.part d (has made.edit made.is ∙ by.whole) fine sets there;
      });
      already = subst (IsSetBy outlines) before already;
      sets = λ s read.
          subst (λ (e : law.Edit). MakesChange now.profile limit s e (change_of t)) is (by.sets.makes s read);
      within = by.sets.within;
    }
