-- What an edit of an entry makes of a value whose entries are known by their places.
--
-- It is told of the value alone: an item or a keyval comes in, or an entry goes. So the edit makes that wherever a
-- value with this text is, by the law of changes of entries: its path goes on by the same step there (`one_step`).
--
-- Theorems: `puts_item`, `puts_keyval`, `takes_entry`; `ends_in`: a path ends in its last step; `each_some`.
use Rattle.std.proofs.Common.{◌≡◌, ℕ, List, refl, subst, sym, ◌∙◌, IsUtf8}
use Rattle.std.proofs.Common.{[], ◌∷◌, ◌++◌, ap, length, slice_get, suc, take, take-suc, take_all, ◌≤◌, Option, None}
use Rattle.std.proofs.Common.{Some}
use Rattle.std.specs.Prelude.{IfSome}
use Rattle.std.proofs.lemmas.Option.{get_or_from_slice_get, slice_get_within}
use Rattle.std.specs.List.{AllByRecursion}
use Rattle.keep_types.specs.declared.leaf.Profile.{Profile}
use Rattle.keep_types.specs.declared.leaf.Profile.TheVariants.{Wide}
use Rattle.keep_syntax.specs.Tree.{Value}
use Rattle.keep_path.specs.Path.{AreUtf8, Part, index, key}
use Rattle.keep_edit_spec.specs.Edits as law
use Rattle.keep_edit_spec.specs.EntryChanges.{IsGivenTo, MakesOfValue}
use Rattle.keep_edit_spec.specs.Laws.{IsGivenValue}
use Rattle.keep_edit_spec.specs.Look.{keys_in}
use Rattle.keep_edit_spec.specs.Runs.{path_of}
use Rattle.keep_edit_spec.proofs.Shared.{entry_change_is_set}
use Rattle.keep_edit_plan.specs.OpenValues.{Becomes, PutsItemText, PutsKeyvalText, TakesEntryText}
use Rattle.keep_edit_plan.specs.declared.edit.Edit.{Edit}
use Rattle.keep_edit_plan.specs.declared.edit.Edit.TheVariants as edit
use Rattle.keep_edit_runs.specs.Lists.{IsEdit}
use Rattle.keep_edit_plan.specs.Reading.{IsTextOfValue, limit}
use Rattle.keep_edit_runs.specs.ValueAfter.{EndsInStep, MakesValue}
use Rattle.keep_edit_runs.proofs.ValueAfterLaws.{keys_utf8, one_step}

pub each_some : {A : Type 0} {P Q : A → Type 0} → ((a : A) → P a → Q a) → (o : Option A) → IfSome o P → IfSome o Q
each_some f None h = tt
each_some f (Some a) h = f a h

pub ends_in : (path : List Part) (n : ℕ) (part : Part) → length path ≤ suc n → slice_get path n ≡ Some part
    → EndsInStep path part
ends_in path n part few there = (
  take n path,
  sym (take_all (suc n) path few) ∙ take-suc path n part (slice_get_within path n part there)
      ∙ ap (λ (p : Part). take n path ++ p ∷ []) (get_or_from_slice_get path n part part there),
)

given : (bytes : List ℕ) (v : Value) → IsTextOfValue bytes v → IsGivenValue Wide v
given bytes v read = record { valid = read.reads.valid; obeys = read.obeys }

module _ (profile : Profile) (was now : List ℕ) (path : List Part) (step : Part) (ends : EndsInStep path step)
    (utf8 : AreUtf8 path) where
  made : (x : Edit) (e : law.Edit) → IsEdit x e → path_of e ≡ path → IsGivenTo Wide e
      → Becomes (λ before after. MakesOfValue before e step after) was now → MakesValue profile was x now
  made x e is at fits h = record {
    edit = e;
    is = is;
    value = h.after;
    text_is = h.reads;
    makes = λ u other part d goes fine sets here.
        entry_change_is_set profile limit u other part e h.before h.after d fine goes
        (subst (λ (p : List Part). AllByRecursion IsUtf8 (keys_in p)) (sym at) (keys_utf8 path utf8)) fits
        (given was h.before h.read)
        (here ∙ h.read.reads.spelled)
        (subst (λ (p : Part). MakesOfValue h.before e p h.after)
        (one_step ends.0 other path step part ends.1 (sym at ∙ goes)) h.made) sets;
  }

pub puts_item : (profile : Profile) (was now : List ℕ) (path : List Part) (n : ℕ) (item : List ℕ)
    → EndsInStep path (index n) → AreUtf8 path → PutsItemText was n item now
    → MakesValue profile was (edit.Insert path item) now
puts_item profile was now path n item ends utf8 h =
    made profile was now path (index n) ends utf8 (edit.Insert path item) (law.insert path h.value)
    (h.value, h.is, refl) refl (given item h.value h.is) h.puts

pub puts_keyval : (profile : Profile) (was now : List ℕ) (path : List Part) (name item : List ℕ)
    → EndsInStep path (key name) → AreUtf8 path → PutsKeyvalText was name item now
    → MakesValue profile was (edit.Insert path item) now
puts_keyval profile was now path name item ends utf8 h =
    made profile was now path (key name) ends utf8 (edit.Insert path item) (law.insert path h.value)
    (h.value, h.is, refl) refl (given item h.value h.is) h.puts

pub takes_entry : (profile : Profile) (was now : List ℕ) (path : List Part) (step : Part)
    → EndsInStep path step → AreUtf8 path → TakesEntryText was step now
    → MakesValue profile was (edit.Remove path) now
takes_entry profile was now path step ends utf8 h =
    made profile was now path step ends utf8 (edit.Remove path) (law.remove path) refl refl tt h
