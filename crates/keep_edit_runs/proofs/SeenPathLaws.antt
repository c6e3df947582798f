-- The paths of edits of any kinds that are made at once, by numbers that stand for them, and an edit that each of those
-- leaves alone by its paths.
--
-- Each path has one number. So two paths are apart if the number of neither is that of what the other begins with. The
-- same of the keys of headers and of the paths that renames make. A header goes to the table of a path or below it only
-- if its keys begin with those of the path; paths with the same keys have one number by these.
--
-- Theorems: `numbers_kept`, `paths_kept`, `goes_on`, `all_before`, `no_key_more`: one more; `first_key`,
-- `keys_as_path`: of a header; `some_key`, `passes_unless`: a header that passes by a path; `insert_alone`,
-- `remove_alone`, `set_alone`, `rename_alone`, `table_alone`, `element_alone`, `alone_as`: an edit that all of those
-- leave alone; `path_elsewhere`, `seen_elsewhere`, `rename_elsewhere`, `header_elsewhere`, `elsewhere_as`: an edit that
-- is elsewhere than in an array; `key_allowed`, `allowed_as`: a new key that all of those allow; `arrays_still`:
-- arrays that are known still.
use Rattle.std.proofs.Common.{◌≡◌, ◌≢◌, ◌+◌, ◌-◌, ◌<◌, ◌==◌, ◌∷◌, ◌++◌, ◌∙◌, [], ℕ, zero, suc, Bor, FoldHasher, Global}
use Rattle.std.proofs.Common.{List, None, Option, Some, String, ap, arith, fold, inl, inr, length, map, refl}
use Rattle.std.proofs.Common.{All, slice_get, string_bytes, subst, sym, take, true}
use Rattle.std.specs.Hash.FoldHasher.{finish, initial, write}
use Rattle.std.specs.HashSet.{Updates}
use Rattle.std.proofs.lemmas.Bool.{cases_lt}
use Rattle.std.proofs.lemmas.List.{take_all}
use Rattle.std.proofs.lemmas.List.Elements.{All-weaker}
use Rattle.std.proofs.lemmas.Option.{slice_get_within}
use Rattle.keep_path.specs.Path.{Part, beside, index, key, without_last}
use Rattle.keep_edit_spec.specs.Look.{keys_in}
use Rattle.keep_edit_spec.specs.ElementRuns.{IsElsewhere}
use Rattle.keep_edit_spec.specs.Runs.{AreApart, IsNoStep, PassesBy}
use Rattle.keep_edit_plan.specs.Headers.{key_texts}
use Rattle.keep_edit_runs.specs.declared.outline.Outline.{Outline}
use Rattle.keep_edit_runs.specs.declared.outline.Outline.TheVariants.{Element, Insert, Remove, Rename, Set, Table}
use Rattle.keep_edit_runs.specs.Runs.{Allows, LeavesAlone, outlined}
use Rattle.keep_edit_runs.specs.Seen.{number_of, with_step}
use Rattle.keep_edit_runs.specs.SeenPaths.{BeginsInKey, GoesOn, HasBeginning, HasEnd, HasKey, HasKeyBeginning}
use Rattle.keep_edit_runs.specs.SeenPaths.{HasKeyEnd, HasPath, IsArraySeen, IsSeen, LacksAbove, MissesNames}
use Rattle.keep_edit_runs.specs.SeenPaths.{MissesPath, keys_hashed, keys_number, path_to, with_key}
use Rattle.keep_edit_runs.specs.declared.seen_paths.SeenPaths.{SeenPaths}
use Rattle.keep_edit_runs.proofs.AlikeLaws.{own_or_apart}
use Rattle.keep_edit_runs.proofs.SeenLaws.{HasNumber, Numbers, none_above, number_added, step_more, step_past}

-- ---- one more

pub numbers_kept : (old new : Numbers) (n : ℕ) → Updates ◌==◌ old new n true
    → (path : List Part) → HasNumber old (keys_number path) → HasNumber new (keys_number path)
numbers_kept old new n updates path = (number_added old new n updates).1 (keys_number path)

pub paths_kept : (old new : Numbers) (n : ℕ) → Updates ◌==◌ old new n true
    → (path : List Part) → HasNumber old (number_of path) → HasNumber new (number_of path)
paths_kept old new n updates path = (number_added old new n updates).1 (number_of path)

pub goes_on : (a b c : SeenPaths) → GoesOn a b → GoesOn b c → GoesOn a c
goes_on a b c on more = record {
  ends = λ path has. more.ends path (on.ends path has);
  keyed = λ path has. more.keyed path (on.keyed path has);
  beginnings = λ path has. more.beginnings path (on.beginnings path has);
  keys = λ text has. more.keys text (on.keys text has);
  names = λ text has. more.names text (on.names text has);
}

pub all_before : (P : ℕ → Type 0) (n : ℕ) → P n → ((k : ℕ) → k < n → P k) → (k : ℕ) → k < n + 1 → P k
all_before P n here before k lt = elim (cases_lt k n) [
  | inl low ↦ before k low
  | inr past ↦
      let same : n ≡ k = omega (arith, lt, past) in
      subst P same here
]

-- a step that is no key, or none
pub no_key_more : (path : List Part) (n : ℕ) (h : FoldHasher) → ((text : List ℕ) → slice_get path n ≢ Some (key text))
    → h ≡ keys_hashed (take n path) → h ≡ keys_hashed (take (n + 1) path)
no_key_more path n h other before = by (slice_get path n) refl
  where
    by : (o : Option Part) → slice_get path n ≡ o → h ≡ keys_hashed (take (n + 1) path)
    by None is = step_past with_key path n h is before
    by (Some (key text)) is = absurd (other text is)
    by (Some (index m)) is = step_more with_key path n (index m) h is before

pub first_key : (keys : List (String Global)) → 0 < length keys → BeginsInKey (map key (key_texts keys))
first_key [] some = absurd (omega (arith, some))
first_key (own ∷ keys) some = (string_bytes own, refl)

-- ---- keys of paths

keys_hashed_alike : (h : FoldHasher) (path : List Part)
    → fold with_key h (map key (keys_in path)) ≡ fold with_key h path
keys_hashed_alike h [] = refl
keys_hashed_alike h (key text ∷ path) = keys_hashed_alike (write h text) path
keys_hashed_alike h (index n ∷ path) = keys_hashed_alike h path

-- the path of the keys alone has the same number
pub keys_alike : (path : List Part) → keys_number (map key (keys_in path)) ≡ keys_number path
keys_alike path = ap finish (keys_hashed_alike initial path)

-- keys alone have the number of the path that they are
keys_as_steps : (h : FoldHasher) (n : ℕ) (keys : List (List ℕ))
    → fold with_key h (take n (map key keys)) ≡ fold with_step h (take n (map key keys))
keys_as_steps h zero keys = refl
keys_as_steps h (suc n) [] = refl
keys_as_steps h (suc n) (text ∷ keys) = keys_as_steps (write h text) n keys

first_keys : (n : ℕ) (keys : List (List ℕ))
    → keys_number (take n (map key keys)) ≡ number_of (take n (map key keys))
first_keys n keys = ap finish (keys_as_steps initial n keys)

pub keys_as_path : (keys : List (List ℕ)) → keys_number (map key keys) ≡ number_of (map key keys)
keys_as_path keys =
    let all : take (length (map key keys)) (map key keys) ≡ map key keys =
    take_all (length (map key keys)) (map key keys) (omega arith) in
    subst (λ (l : List Part). keys_number l ≡ number_of l) all (first_keys (length (map key keys)) keys)

abbrev HasSomeKey : List Part → Type 0
HasSomeKey path = 0 < length (map key (keys_in path))

pub some_key : (path : List Part) → BeginsInKey path → HasSomeKey path
some_key [] (text, is) = absurd cc
some_key (key own ∷ path) (text, is) = omega arith
some_key (index n ∷ path) (text, is) = absurd cc

some_pushed : (path : List Part) (name : List ℕ) → HasSomeKey (path ++ key name ∷ [])
some_pushed [] name = omega arith
some_pushed (key own ∷ path) name = omega arith
some_pushed (index n ∷ path) name = some_pushed path name

-- ---- headers that pass by

-- A header passes by a path if what holds of the number of its keys holds of that of no beginning of the header's keys.
pub passes_unless : (P : ℕ → Type 0) (keys : List (List ℕ)) (path : List Part) → HasSomeKey path
    → P (keys_number path) → ((n : ℕ) → n < length (map key keys) → ¬ P (keys_number (take (n + 1) (map key keys))))
    → PassesBy keys path
passes_unless P keys path some its lacks =
    none_above (λ l. P (keys_number l)) (map key (keys_in path)) (map key keys)
    (subst P (sym (keys_alike path)) its) (λ n is many.
    let more : (n - 1) + 1 ≡ n = omega (arith, is, some) in
    subst (λ (k : ℕ). ¬ P (keys_number (take k (map key keys)))) more
    (lacks (n - 1) (omega (arith, is, some, many))))

-- the same of the numbers of the beginnings themselves
passes_paths : (P : ℕ → Type 0) (keys : List (List ℕ)) (path : List Part) → HasSomeKey path
    → P (keys_number path) → ((n : ℕ) → n < length (map key keys) → ¬ P (number_of (take (n + 1) (map key keys))))
    → PassesBy keys path
passes_paths P keys path some its lacks =
    passes_unless P keys path some its (λ n lt. subst (λ (k : ℕ). ¬ P k) (sym (first_keys (n + 1) keys)) (lacks n lt))

-- ---- edits that leave one another alone

module _ (seen : SeenPaths) where
  -- neither begins with the other
  apart : (p path : List Part) → HasPath seen p → MissesPath seen path → AreApart p path
  apart p path h m =
      let own = slice_get_within p 0 (key h.first.0) h.first.1 in
      let other = slice_get_within path 0 (key m.first.0) m.first.1 in (
        none_above (HasEnd seen) p path h.whole (λ n is many.
            let more : n ≡ (n - 1) + 1 = omega (arith, is, own) in
            λ has. m.all (n - 1) (omega (arith, is, own, many))
            (subst (λ (k : ℕ). HasEnd seen (take k path)) more has)),
        none_above (λ l. ¬ HasBeginning seen l) path p m.lacks (λ n is many.
            let more : (n - 1) + 1 ≡ n = omega (arith, is, other) in
            λ lacks. lacks (subst (λ (k : ℕ). HasBeginning seen (take k p)) more
            (h.all (n - 1) (omega (arith, is, other, many))))),
      )

  turned : (a b : List Part) → AreApart a b → AreApart b a
  turned a b h = (h.1, h.0)

  -- a path begins with all of itself
  pub whole : (p : List Part) → HasPath seen p → HasBeginning seen p
  whole p h =
      let own = slice_get_within p 0 (key h.first.0) h.first.1 in
      let more : (length p - 1) + 1 ≡ length p = omega (arith, own) in
      subst (HasBeginning seen) (ap (λ (k : ℕ). take k p) more ∙ take_all (length p) p (omega arith))
      (h.all (length p - 1) (omega (arith, own)))

  -- a header before a path, and one after it
  passes_later : (keys : List (List ℕ)) (path : List Part) → HasPath seen (map key keys) → HasSomeKey path
      → ¬ HasKeyBeginning seen path → PassesBy keys path
  passes_later keys path h some lacks =
      passes_paths (λ k. ¬ HasNumber seen.beginnings k) keys path some lacks (λ n lt none. none (h.all n lt))

  passes_earlier : (keys : List (List ℕ)) (p : List Part) → MissesPath seen (map key keys) → HasSomeKey p
      → HasKeyEnd seen p → PassesBy keys p
  passes_earlier keys p m some has = passes_paths (HasNumber seen.ends) keys p some has m.all

  -- a path after a header, and one before it
  later : (keys : List (List ℕ)) (path : List Part) → HasPath seen (map key keys) → MissesPath seen path
      → PassesBy keys path
  later keys path h m = passes_later keys path h (some_key path m.first) m.lacks_keys

  earlier : (keys : List (List ℕ)) (p : List Part) → MissesPath seen (map key keys) → HasPath seen p → PassesBy keys p
  earlier keys p m h = passes_earlier keys p m (some_key p h.first) h.keyed

  -- a rename after a header, and one before it
  later_name : (keys : List (List ℕ)) (path : List Part) (name : List ℕ) → HasPath seen (map key keys)
      → MissesPath seen path → ¬ HasKeyBeginning seen (beside path name)
      → PassesBy keys path × PassesBy keys (beside path name)
  later_name keys path name h m new =
      (later keys path h m, passes_later keys (beside path name) h (some_pushed (without_last path) name) new)

  earlier_name : (keys : List (List ℕ)) (p : List Part) (name : List ℕ) → MissesPath seen (map key keys)
      → HasPath seen p → HasKeyEnd seen (beside p name) → PassesBy keys p × PassesBy keys (beside p name)
  earlier_name keys p name m h end =
      (earlier keys p m h, passes_earlier keys (beside p name) m (some_pushed (without_last p) name) end)

  pub insert_alone : (path : List Part) → MissesPath seen path → MissesNames seen path
      → (e : Outline) → IsSeen seen e → LeavesAlone e (Insert path)
  insert_alone path m names (Insert p) (h, keys) =
      λ same. m.lacks (subst (HasBeginning seen) same (whole p h))
  insert_alone path m names (Remove p) (h, keys) = apart p path h m
  insert_alone path m names (Set p) (h, keys) = apart p path h m
  insert_alone path m names (Rename p w) (h, new) = (apart p path h m, λ n is. names n w.now is new.name_is)
  insert_alone path m names (Table ks) h = later (key_texts ks.now) path h m
  insert_alone path m names (Element ks) h = later (key_texts ks.now) path h m

  pub remove_alone : (path : List Part) → MissesPath seen path → MissesNames seen path
      → (e : Outline) → IsSeen seen e → LeavesAlone e (Remove path)
  remove_alone path m names (Insert p) (h, keys) = apart p path h m
  remove_alone path m names (Remove p) (h, keys) = tt
  remove_alone path m names (Set p) (h, keys) = apart p path h m
  remove_alone path m names (Rename p w) (h, new) = (apart p path h m, λ n is. names n w.now is new.name_is)
  remove_alone path m names (Table ks) h = later (key_texts ks.now) path h m
  remove_alone path m names (Element ks) h = later (key_texts ks.now) path h m

  pub set_alone : (path : List Part) → MissesPath seen path → MissesNames seen path
      → (e : Outline) → IsSeen seen e → LeavesAlone e (Set path)
  set_alone path m names (Insert p) (h, keys) = apart p path h m
  set_alone path m names (Remove p) (h, keys) = apart p path h m
  set_alone path m names (Set p) (h, keys) = tt
  set_alone path m names (Rename p w) (h, new) = (apart p path h m, λ n is. names n w.now is new.name_is)
  set_alone path m names (Table ks) h = later (key_texts ks.now) path h m
  set_alone path m names (Element ks) h = later (key_texts ks.now) path h m

  -- so an edit of a path is elsewhere than in an array that was seen, and one that was is elsewhere than in a new one
  pub path_elsewhere : (path : List Part) → MissesPath seen path → (array : List Part) → IsArraySeen seen array
      → AreApart array path
  path_elsewhere path m array (h, keys) = apart array path h m

  pub seen_elsewhere : (array : List Part) → MissesPath seen array → MissesNames seen array
      → (e : Outline) → IsSeen seen e → IsElsewhere array (outlined e)
  seen_elsewhere array m names (Insert p) (h, keys) = turned p array (apart p array h m)
  seen_elsewhere array m names (Remove p) (h, keys) = turned p array (apart p array h m)
  seen_elsewhere array m names (Set p) (h, keys) = turned p array (apart p array h m)
  seen_elsewhere array m names (Rename p w) (h, new) =
      (turned p array (apart p array h m), λ n is. names n w.now is new.name_is)
  seen_elsewhere array m names (Table ks) h = later (key_texts ks.now) array h m
  seen_elsewhere array m names (Element ks) h = later (key_texts ks.now) array h m

  pub rename_elsewhere : (path : List Part) (name : Bor (List ℕ)) → MissesPath seen path → ¬ HasKey seen name.now
      → (array : List Part) → IsArraySeen seen array → AreApart array path × IsNoStep name.now array
  rename_elsewhere path name m lacks array (h, keys) = (apart array path h m, λ n is. lacks (keys n name.now is))

  pub header_elsewhere : (more : Bor (List (String Global))) → MissesPath seen (path_to more)
      → (array : List Part) → IsArraySeen seen array → PassesBy (key_texts more.now) array
  header_elsewhere more m array (h, keys) = earlier (key_texts more.now) array m h

  pub elsewhere_as : (x y : Outline) → x ≡ y → ((a : List Part) → IsArraySeen seen a → IsElsewhere a (outlined y))
      → (a : List Part) → IsArraySeen seen a → IsElsewhere a (outlined x)
  elsewhere_as x y is all a h = subst (λ (o : Outline). IsElsewhere a (outlined o)) (sym is) (all a h)

  pub rename_alone : (path : List Part) (name : Bor (List ℕ)) → MissesPath seen path
      → ¬ HasBeginning seen (beside path name.now) → ¬ HasKeyBeginning seen (beside path name.now)
      → ¬ HasKey seen name.now → (e : Outline) → IsSeen seen e → LeavesAlone e (Rename path name)
  rename_alone path name m new keyed lacks (Insert p) (h, keys) = (apart p path h m, λ n is. lacks (keys n name.now is))
  rename_alone path name m new keyed lacks (Remove p) (h, keys) = (apart p path h m, λ n is. lacks (keys n name.now is))
  rename_alone path name m new keyed lacks (Set p) (h, keys) = (apart p path h m, λ n is. lacks (keys n name.now is))
  rename_alone path name m new keyed lacks (Rename p w) (h, its) = record {
    below = (apart p path h m).0;
    new = λ same. new (subst (HasBeginning seen) same its.beginning);
  }
  rename_alone path name m new keyed lacks (Table ks) h = later_name (key_texts ks.now) path name.now h m keyed
  rename_alone path name m new keyed lacks (Element ks) h = later_name (key_texts ks.now) path name.now h m keyed

  -- each of those allows the new key of a rename
  pub key_allowed : (path : List Part) (name : Bor (List ℕ)) → LacksAbove seen path
      → ¬ HasBeginning seen (beside path name.now) → ¬ HasKeyBeginning seen (beside path name.now)
      → ¬ HasKey seen name.now → (e : Outline) → IsSeen seen e → Allows e (Rename path name)
  key_allowed path name m new keyed lacks (Insert p) (h, keys) = λ n is. lacks (keys n name.now is)
  key_allowed path name m new keyed lacks (Remove p) (h, keys) = λ n is. lacks (keys n name.now is)
  key_allowed path name m new keyed lacks (Set p) (h, keys) = λ n is. lacks (keys n name.now is)
  key_allowed path name m new keyed lacks (Rename p w) (h, its) =
      let own = slice_get_within p 0 (key h.first.0) h.first.1 in
      elim (own_or_apart (HasEnd seen) p path h.whole (λ n is less.
      (let more : n ≡ (n - 1) + 1 = omega (arith, is, own) in
      λ has. m (n - 1) (omega (arith, is, own, less))
      (subst (λ (k : ℕ). HasEnd seen (take k path)) more has)))) [
        | inl same ↦ inl same
        | inr below ↦ inr (record { below = below; new = λ same. new (subst (HasBeginning seen) same its.beginning) })
      ]
  key_allowed path name m new keyed lacks (Table ks) h =
      passes_later (key_texts ks.now) (beside path name.now) h (some_pushed (without_last path) name.now) keyed
  key_allowed path name m new keyed lacks (Element ks) h =
      passes_later (key_texts ks.now) (beside path name.now) h (some_pushed (without_last path) name.now) keyed

  pub table_alone : (more : Bor (List (String Global))) → MissesPath seen (path_to more)
      → (e : Outline) → IsSeen seen e → LeavesAlone e (Table more)
  table_alone more m (Insert p) (h, keys) = earlier (key_texts more.now) p m h
  table_alone more m (Remove p) (h, keys) = earlier (key_texts more.now) p m h
  table_alone more m (Set p) (h, keys) = earlier (key_texts more.now) p m h
  table_alone more m (Rename p w) (h, new) = earlier_name (key_texts more.now) p w.now m h new.keyed
  table_alone more m (Table ks) h =
      λ same. m.lacks (subst (λ (l : List (List ℕ)). HasBeginning seen (map key l)) same (whole (path_to ks) h))
  table_alone more m (Element ks) h = apart (path_to ks) (path_to more) h m

  pub element_alone : (more : Bor (List (String Global))) → MissesPath seen (path_to more)
      → (e : Outline) → IsSeen seen e → LeavesAlone e (Element more)
  element_alone more m (Insert p) (h, keys) = earlier (key_texts more.now) p m h
  element_alone more m (Remove p) (h, keys) = earlier (key_texts more.now) p m h
  element_alone more m (Set p) (h, keys) = earlier (key_texts more.now) p m h
  element_alone more m (Rename p w) (h, new) = earlier_name (key_texts more.now) p w.now m h new.keyed
  element_alone more m (Table ks) h = apart (path_to ks) (path_to more) h m
  element_alone more m (Element ks) h = inr (apart (path_to ks) (path_to more) h m)

  pub allowed_as : (x y : Outline) → x ≡ y → ((e : Outline) → IsSeen seen e → Allows e y)
      → (e : Outline) → IsSeen seen e → Allows e x
  allowed_as x y is all e h = subst (Allows e) (sym is) (all e h)

  pub alone_as : (x y : Outline) → x ≡ y → ((e : Outline) → IsSeen seen e → LeavesAlone e y)
      → (e : Outline) → IsSeen seen e → LeavesAlone e x
  alone_as x y is all e h = subst (LeavesAlone e) (sym is) (all e h)

-- ---- arrays that were seen

pub arrays_still : (old new : SeenPaths) → ((o : Outline) → IsSeen old o → IsSeen new o)
    → (arrays : List (List Part)) → All (IsArraySeen old) arrays → All (IsArraySeen new) arrays
arrays_still old new on arrays =
    All-weaker (IsArraySeen old) (IsArraySeen new) (λ (a : List Part). on (Remove a)) arrays
