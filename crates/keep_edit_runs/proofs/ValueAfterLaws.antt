-- The text of a value after an edit of an entry in it, made in a document that has no more than the value.
--
-- In that document the edit of the same entry makes what a set of the value makes, and that set replaces the bytes from
-- the fifth to the last, which are the value's text (`value_there`). So the edit that is given does the same wherever
-- that text is a value's, by the law of edits of entries: both paths go on by the same step (`same_step`). What the set
-- writes is the text of its value (`written`).
--
-- Theorems: `alone_path`: the path of the entry there; `makes_value`.
use Rattle.std.proofs.Common.{◌≡◌, ℕ, ◌-◌, List, [], ◌∷◌, ◌++◌, length, take, drop, refl, sym, ap, ap₂, subst, ◌∙◌}
use Rattle.std.proofs.Common.{◌≤◌, arith, codes, length-append, slice_get, string_bytes, suc, take-suc, take_all}
use Rattle.std.proofs.Common.{Err, Global, IsUtf8, Ok, Result, Some, String}
use Rattle.std.specs.List.{AllByRecursion}
use Rattle.std.specs.Prelude.{IfOk, IfSome}
use Rattle.std.specs.Result.{result_ok}
use Rattle.std.proofs.lemmas.Option.{get_or_from_slice_get, same_Some, slice_get_within}
use Rattle.keep_types.specs.declared.leaf.Profile.{Profile}
use Rattle.keep_syntax.specs.Tree.{Document, Value, text}
use Rattle.keep_path.specs.Path.{AreUtf8, Part, index, key, last_part}
use Rattle.keep_meaning.specs.Meaning.{mentions_in}
use Rattle.keep_edit_spec.specs.Changed.{Place}
use Rattle.keep_edit_spec.specs.Edits as law
use Rattle.keep_edit_spec.specs.EntryEdits.{AreOfSameEntry, AreSameEntry, MakesSet}
use Rattle.keep_edit_spec.specs.Laws.{IsEditable}
use Rattle.keep_edit_spec.specs.Look.{keys_in}
use Rattle.keep_edit_spec.specs.SetValues.{SetsValue}
use Rattle.keep_edit_spec.specs.TextChanges.{TextChange}
use Rattle.keep_edit_spec.proofs.Shared.{IsSettable, last_part-snoc, set_place, settable, still_makes_set}
use Rattle.keep_edit_spec.proofs.Shared.{value_of_path}
use Rattle.keep_edit_plan.specs.TextEdits.{MakesSetHere, change_of}
use Rattle.keep_edit_plan.specs.declared.edit.Edit.{Edit}
use Rattle.keep_edit_plan.specs.declared.edit.Edit.TheVariants as edit
use Rattle.keep_edit_plan.specs.declared.text_edit.TextEdit.{TextEdit}
use Rattle.keep_edit_plan.proofs.Shared.{editable}
use Rattle.keep_edit_plan.specs.Reading.{IsAccepted, IsTextOfTree, IsTextOfValue, limit, text_in}
use Rattle.keep_edit_runs.specs.ValueAfter.{IsAlone, IsAlonePath, MakesValue}

-- what is known of an answer is known of what is in it
pub ok_there : {A E : Type 0} (P : Result A E → Type 0) (r : Result A E) (a : A) → Some a ≡ result_ok r → P r
    → P (Ok a)
ok_there {A} {E} P (Ok found) a is h = let same : found ≡ a = cc in subst (λ (x : A). P (Ok x)) same h
ok_there {A} {E} P (Err f) a is h = absurd cc

-- ---- what is written

-- A set that is not refused writes the text of its value.
written : (profile : Profile) (s : Document) (path : List Part) (value : Value) (c : TextChange)
    → IsEditable profile limit s → SetsValue profile limit s path value c → IsTextOfValue c.new value
written profile s path value c fine h =
    let can : IsSettable profile limit path value (mentions_in s) =
    settable profile limit path value (mentions_in s) h.allowed in
    let (v, i, there) = value_of_path profile path s fine.valid fine.obeys can.valued in
    record {
      reads = record {
        valid = h.given.valid;
        spelled =
            ap (λ (p : Place). p.new)
            (sym h.is ∙ set_place path value s v i fine.obeys can.valued there.number there.info);
        shallow = omega (arith, can.shallow);
      };
      obeys = h.given.obeys;
    }

-- ---- the text of the value

value_there : (was bytes : List ℕ) (t : TextEdit) → bytes ≡ codes "v = " ++ was → t.place.start ≡ 4
    → t.place.end ≡ length bytes → take (change_of t).size (drop (change_of t).at bytes) ≡ was
value_there was bytes t is start end =
    let long : t.place.end - t.place.start ≡ length was =
    omega (arith, start, end, ap (λ (b : List ℕ). length b) is, length-append (codes "v = ") was) in
    ap₂ (λ (n : ℕ) (b : List ℕ). take n b) long (ap₂ (λ (n : ℕ) (b : List ℕ). drop n b) start is)
    ∙ take_all (length was) was (omega arith)

-- ---- the same entry

pub keys_utf8 : (path : List Part) → AreUtf8 path → AllByRecursion IsUtf8 (keys_in path)
keys_utf8 [] h = tt
keys_utf8 (key name ∷ path) h = (h.0, keys_utf8 path h.1)
keys_utf8 (index n ∷ path) h = keys_utf8 path h

-- the path with the last step of another
pub alone_path : {E : Type 0} (path : List Part) (n : ℕ) (part : Part) (r : Result (List Part) E) → AreUtf8 path
    → length path ≤ suc n → slice_get path n ≡ Some part
    → IfOk r (λ alone. alone ≡ key (codes "v") ∷ part ∷ []) → IfSome (result_ok r) (IsAlonePath path)
alone_path path n part (Err f) utf8 few there h = tt
alone_path path n part (Ok alone) utf8 few there h = record {
  before = take n path;
  part = part;
  whole =
      sym (take_all (suc n) path few) ∙ take-suc path n part (slice_get_within path n part there)
      ∙ ap (λ (p : Part). take n path ++ p ∷ []) (get_or_from_slice_get path n part part there);
  is = h;
  utf8 = keys_utf8 path utf8;
}

pub one_step : (a b path : List Part) (p q : Part) → path ≡ a ++ p ∷ [] → path ≡ b ++ q ∷ [] → p ≡ q
one_step a b path p q here there =
    same_Some p q (sym (last_part-snoc a p) ∙ ap last_part (sym here ∙ there) ∙ last_part-snoc b q)

-- both paths go on by the same step
same_entry : (path alone holder other : List Part) (part last : Part) → IsAlonePath path alone
    → alone ≡ holder ++ last ∷ [] → path ≡ other ++ part ∷ [] → AreSameEntry holder alone other path
same_entry path alone holder other part last h is there =
    let first : h.part ≡ part = one_step h.before other path h.part part h.whole there in
    let second : h.part ≡ last = one_step (key (codes "v") ∷ []) holder alone h.part last h.is is in
    record {
      part = part;
      is = is ∙ ap (λ (p : Part). holder ++ p ∷ []) (sym second ∙ first);
      there = there;
    }

-- ---- the edit

module _ (profile : Profile) (was bytes : List ℕ) (t : TextEdit) (is : bytes ≡ codes "v = " ++ was)
    (start : t.place.start ≡ 4) (end : t.place.end ≡ length bytes) (s : Document)
    (read : IsTextOfTree (text_in profile bytes) s) where
  -- in another document
  still : (e f : law.Edit) (holder : List Part) (value : Value) → MakesSet profile limit s e holder value (change_of t)
      → (u : Document) (path : List Part) (d : TextChange) → IsEditable profile limit u
      → SetsValue profile limit u path value d → take d.size (drop d.at (text u)) ≡ was
      → AreOfSameEntry holder e path f → MakesSet profile limit u f path value d
  still e f holder value h u path d fine sets here entry =
      still_makes_set profile limit s e holder value (change_of t) u f path d
      (editable (text_in profile bytes) s read) fine h sets
      (here ∙ sym (ap (λ (b : List ℕ). take (change_of t).size (drop (change_of t).at b)) (sym read.reads.spelled)
      ∙ value_there was bytes t is start end)) entry

  by_insert : (path alone : List Part) (given : List ℕ) → IsAlonePath path alone
      → MakesSetHere (text_in profile bytes) (edit.Insert alone given) t
      → MakesValue profile was (edit.Insert path given) (string_bytes t.new)
  by_insert path alone given entry h =
      let (v, text_is, e_is) = h.is in
      let made : MakesSet profile limit s (law.insert alone v) h.holder h.value (change_of t) =
      subst (λ (e : law.Edit). MakesSet profile limit s e h.holder h.value (change_of t)) e_is (h.makes s read) in
      record {
        edit = law.insert path v;
        is = (v, text_is, refl);
        value = h.value;
        text_is =
            written profile s h.holder h.value (change_of t) (editable (text_in profile bytes) s read) made.sets;
        makes = λ u other part d there fine sets here.
            still (law.insert alone v) (law.insert path v) h.holder h.value made u other d fine sets here (
              same_entry path alone h.holder other part made.of_entry.part entry made.of_entry.is there,
              refl,
              entry.utf8,
            );
      }

  by_remove : (path alone : List Part) → IsAlonePath path alone
      → MakesSetHere (text_in profile bytes) (edit.Remove alone) t
      → MakesValue profile was (edit.Remove path) (string_bytes t.new)
  by_remove path alone entry h =
      let made : MakesSet profile limit s (law.remove alone) h.holder h.value (change_of t) =
      subst (λ (e : law.Edit). MakesSet profile limit s e h.holder h.value (change_of t)) h.is (h.makes s read) in
      record {
        edit = law.remove path;
        is = refl;
        value = h.value;
        text_is =
            written profile s h.holder h.value (change_of t) (editable (text_in profile bytes) s read) made.sets;
        makes = λ u other part d there fine sets here.
            still (law.remove alone) (law.remove path) h.holder h.value made u other d fine sets here
            (same_entry path alone h.holder other part made.of_entry.part entry made.of_entry.is there);
      }

  by_set : (path alone : List Part) (given : List ℕ) → IsAlonePath path alone
      → MakesSetHere (text_in profile bytes) (edit.Set alone given) t
      → MakesValue profile was (edit.Set path given) (string_bytes t.new)
  by_set path alone given entry h =
      let (v, text_is, e_is) = h.is in
      let made : MakesSet profile limit s (law.set alone v) h.holder h.value (change_of t) =
      subst (λ (e : law.Edit). MakesSet profile limit s e h.holder h.value (change_of t)) e_is (h.makes s read) in
      record {
        edit = law.set path v;
        is = (v, text_is, refl);
        value = h.value;
        text_is =
            written profile s h.holder h.value (change_of t) (editable (text_in profile bytes) s read) made.sets;
        makes = λ u other part d there fine sets here.
            still (law.set alone v) (law.set path v) h.holder h.value made u other d fine sets here
            (same_entry path alone h.holder other part made.of_entry.part entry made.of_entry.is there, refl);
      }

  by_rename : (path alone : List Part) (name same : String Global) → string_bytes same ≡ string_bytes name
      → IsAlonePath path alone
      → MakesSetHere (text_in profile bytes) (edit.Rename alone same) t
      → MakesValue profile was (edit.Rename path name) (string_bytes t.new)
  by_rename path alone name same alike entry h =
      let made : MakesSet profile limit s (law.rename alone (string_bytes same)) h.holder h.value (change_of t) =
      subst (λ (e : law.Edit). MakesSet profile limit s e h.holder h.value (change_of t)) h.is (h.makes s read) in
      record {
        edit = law.rename path (string_bytes name);
        is = refl;
        value = h.value;
        text_is =
            written profile s h.holder h.value (change_of t) (editable (text_in profile bytes) s read) made.sets;
        makes = λ u other part d there fine sets here.
            still (law.rename alone (string_bytes same)) (law.rename path (string_bytes name)) h.holder h.value made u
            other d fine sets here
            (same_entry path alone h.holder other part made.of_entry.part entry made.of_entry.is there, sym alike);
      }

  by_edits : (x y : Edit) → IsAlone x y → MakesSetHere (text_in profile bytes) y t
      → MakesValue profile was x (string_bytes t.new)
  by_edits (edit.Insert path value) (edit.Insert alone same) (alike, entry) h =
      by_insert path alone value entry
      (subst (λ (v : List ℕ). MakesSetHere (text_in profile bytes) (edit.Insert alone v) t) alike h)
  by_edits (edit.Remove path) (edit.Remove alone) entry h = by_remove path alone entry h
  by_edits (edit.Set path value) (edit.Set alone same) (alike, entry) h =
      by_set path alone value entry
      (subst (λ (v : List ℕ). MakesSetHere (text_in profile bytes) (edit.Set alone v) t) alike h)
  by_edits (edit.Rename path name) (edit.Rename alone same) (alike, entry) h =
      by_rename path alone name same alike entry h
  by_edits x y entry h = absurd entry

-- What the edit alone makes of a document that has no more than the value, the edit makes wherever the value is.
pub makes_value : (profile : Profile) (was bytes : List ℕ) (x y : Edit) (t : TextEdit)
    → bytes ≡ codes "v = " ++ was → t.place.start ≡ 4 → t.place.end ≡ length bytes
    → IsAccepted (text_in profile bytes) → IsAlone x y → MakesSetHere (text_in profile bytes) y t
    → MakesValue profile was x (string_bytes t.new)
makes_value profile was bytes x y t is start end (s, read) =
    by_edits profile was bytes t is start end s read x y
