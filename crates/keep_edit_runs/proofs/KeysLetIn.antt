-- Edits that leave alone the insert of any key of a table, but for one whose path or key was seen.
--
-- One that leaves alone the insert of the table's own path does so: it takes, sets or renames nothing there, nor below,
-- and no header is of the table. And so does an insert, whatever its path is.
--
-- Theorems: `lets_insert`, `lets_alone`: one edit; `made_known`, `still_known`: all those of a run, where the last one
-- makes the table or goes into it.
use Rattle.std.proofs.Common.{◌≡◌, ◌≢◌, ◌∷◌, ◌++◌, [], ℕ, zero, suc, All, List, None, Option, Some, ap, map}
use Rattle.std.proofs.Common.{refl, subst, sym}
use Rattle.std.specs.Prelude.{IfSome}
use Rattle.std.proofs.lemmas.List.Elements.{All-append, All-cons, All-nil, All-weaker}
use Rattle.keep_path.specs.Path.{Part, index, key, strip}
use Rattle.keep_edit_spec.specs.Edits as law
use Rattle.keep_edit_spec.specs.Look.{keys_in}
use Rattle.keep_edit_spec.specs.MoreKeys.{key_below}
use Rattle.keep_edit_spec.specs.Runs as runs
use Rattle.keep_edit_spec.specs.Runs.{AreApart, IsNoStep, PassesBy}
use Rattle.keep_edit_spec.proofs.Lists.NewHolder.{apart_under, clear_under}
use Rattle.keep_edit_plan.specs.Headers.{key_texts}
use Rattle.keep_edit_plan.specs.Reading.{ProfiledText}
use Rattle.keep_edit_plan.specs.declared.edit.Edit.{Edit}
use Rattle.keep_edit_runs.specs.MoreKeys.{AddsBehind, AddsInside, IsKnownTable, LetsKeysIn, path_to_new}
use Rattle.keep_edit_runs.specs.Runs.{LeavesAlone, no_value, outlined}
use Rattle.keep_edit_runs.specs.SeenPaths.{HasBeginning, HasName}
use Rattle.keep_edit_runs.specs.declared.kinds_run.KindsRun.{KindsRun}
use Rattle.keep_edit_runs.specs.declared.more_keys.NewTable.{NewTable}
use Rattle.keep_edit_runs.specs.declared.outline.Outline.{Outline}
use Rattle.keep_edit_runs.specs.declared.outline.Outline.TheVariants.{Element, Insert, Remove, Rename, Set, Table}
use Rattle.keep_edit_runs.proofs.SeenPathLaws.{whole}

-- ---- a key below a path

turned : (a b : List Part) → AreApart a b → AreApart b a
turned a b h = (h.1, h.0)

apart_below : (p table : List Part) (name : List ℕ) → AreApart p table → AreApart p (key_below table name)
apart_below p table name h =
    turned (key_below table name) p (apart_under table (key name ∷ []) p (turned p table h))

no_step_below : (own : List ℕ) (table : List Part) (name : List ℕ) → own ≢ name → IsNoStep own table
    → IsNoStep own (key_below table name)
no_step_below own [] name other h zero = λ is. other (let same : name ≡ own = cc in sym same)
no_step_below own [] name other h (suc n) = λ is. absurd cc
no_step_below own (p ∷ table) name other h zero = h zero
no_step_below own (p ∷ table) name other h (suc n) = no_step_below own table name other (λ m. h (suc m)) n

keys_below : (table : List Part) (name : List ℕ)
    → map key (keys_in (key_below table name)) ≡ map key (keys_in table) ++ key name ∷ []
keys_below [] name = refl
keys_below (key text ∷ table) name = ap (λ (l : List Part). key text ∷ l) (keys_below table name)
keys_below (index n ∷ table) name = keys_below table name

passes_below : (keys : List (List ℕ)) (table : List Part) (name : List ℕ) → PassesBy keys table
    → PassesBy keys (key_below table name)
passes_below keys table name h =
    subst (λ (l : List Part). strip l (map key keys) ≡ None) (sym (keys_below table name))
    (clear_under (map key (keys_in table)) (key name ∷ []) (map key keys) h)

-- ---- edits that let such keys in

pub lets_insert : (table p : List Part) → LetsKeysIn table (Insert p)
lets_insert table p seen name (path, keys) lacks none =
    λ same. lacks (subst (HasBeginning seen) same (whole seen p path))

pub lets_alone : (table : List Part) (x : Outline) → LeavesAlone x (Insert table) → LetsKeysIn table x
lets_alone table (Insert p) h = lets_insert table p
lets_alone table (Remove p) h = λ seen name is lacks none. apart_below p table name h
lets_alone table (Set p) h = λ seen name is lacks none. apart_below p table name h
lets_alone table (Rename p own) h =
    λ seen name is lacks none. (
      apart_below p table name h.0,
      no_step_below own.now table name (λ same. none (subst (HasName seen) same is.1.name_is)) h.1,
    )
lets_alone table (Table keys) h = λ seen name is lacks none. passes_below (key_texts keys.now) table name h
lets_alone table (Element keys) h = λ seen name is lacks none. passes_below (key_texts keys.now) table name h

-- an insert as others see it
lets_as_insert : (table p : List Part) (x : Outline) → outlined x ≡ law.insert p no_value → LetsKeysIn table x
lets_as_insert table p (Insert own) is = lets_insert table own
lets_as_insert table p (Remove own) is = absurd cc
lets_as_insert table p (Set own) is = absurd cc
lets_as_insert table p (Rename own name) is = absurd cc
lets_as_insert table p (Table keys) is = absurd cc
lets_as_insert table p (Element keys) is = absurd cc

-- ---- all edits of a run

one_more : (table p : List Part) (xs : List Outline) (x : Outline) → All (LetsKeysIn table) xs
    → outlined x ≡ law.insert p no_value → All (LetsKeysIn table) (xs ++ x ∷ [])
one_more table p xs x all is =
    All-append (LetsKeysIn table) xs (x ∷ []) all
    (All-cons (LetsKeysIn table) x [] (lets_as_insert table p x is) (All-nil (LetsKeysIn table)))

-- An edit that makes a table was left alone by the others, as its insert.
pub made_known : (now : ProfiledText) (old new : KindsRun) (edit : Edit) (table : Option NewTable)
    → AddsBehind now old edit new table → IfSome table (IsKnownTable now new)
made_known now old new edit None adds = tt
made_known now old new edit (Some t) adds =
    let (leads, (last, (given, (own, is)))) = adds.makes_table t refl in
    let path : List Part = path_to_new t in
    let before : List Outline = old.so_far.outlines.items in
    let alone : All (λ y. LeavesAlone y (Insert path)) before =
    All-weaker (λ y. LeavesAlone y adds.outline) (λ y. LeavesAlone y (Insert path))
    (λ y. subst (λ (e : law.Edit). runs.LeavesAlone (outlined y) e) is) before adds.alone.edits in
    let lets : All (LetsKeysIn path) before =
    All-weaker (λ y. LeavesAlone y (Insert path)) (LetsKeysIn path) (lets_alone path) before alone in
    record {
      leads = leads;
      lets = subst (All (LetsKeysIn path)) (sym adds.outlines) (one_more path path before adds.outline lets is);
    }

-- and the insert of a key lets others in
pub still_known : (now : ProfiledText) (old new : KindsRun) (t : NewTable) (edit : Edit) → IsKnownTable now old t
    → AddsInside now old t edit new → IsKnownTable now new t
still_known now old new t edit known adds = record {
  leads = known.leads;
  lets = subst (All (LetsKeysIn (path_to_new t))) (sym adds.outlines)
      (one_more (path_to_new t) (key_below (path_to_new t) adds.more.apart.next) old.so_far.outlines.items adds.outline
      known.lets adds.is);
}
