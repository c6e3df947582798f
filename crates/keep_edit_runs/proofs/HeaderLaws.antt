-- One header more, among those that edits append which are made at once, and the tables whose headers come with a line.
--
-- A header that is appended passes by the table of a path if the number of the table's keys is that of no beginning of
-- the header's keys. All these numbers are kept of each header, and that one of each table, so whichever comes later is
-- known to pass by all earlier ones, or a header not to be a table's. What is kept stays.
--
-- Theorems: `table_passed`, `header_passes`, `header_differs`: a table after a header, and a header after a table;
-- `more_of_same`, `more_of_more`: headers that stay; `header_still`: one of them; `ok_holds`, `no_error_holds`: of what
-- is kept.
use Rattle.std.proofs.Common.{◌≡◌, ◌≢◌, ◌+◌, ◌<◌, ◌∙◌, ℕ, List, ap, length, map, subst, sym, take, true, false}
use Rattle.std.specs.Prelude.{Err, Ok, OnOk, Result}
use Rattle.std.specs.Result.{is_err, is_ok}
use Rattle.keep_path.specs.Path.{Part, key}
use Rattle.keep_edit_spec.specs.Look.{keys_in}
use Rattle.keep_edit_spec.specs.Runs.{PassesBy}
use Rattle.keep_edit_runs.specs.SeenHeaders.{HasAppended, HasBrought, HasHeader, HasMore, HasTableOf}
use Rattle.keep_edit_runs.specs.SeenPaths.{BeginsInKey, keys_number}
use Rattle.keep_edit_runs.specs.declared.seen_headers.SeenHeaders.{SeenHeaders}
use Rattle.keep_edit_runs.proofs.SeenLaws.{HasNumber}
use Rattle.keep_edit_runs.proofs.SeenPathLaws.{keys_alike, passes_unless, some_key}

pub table_passed : (seen : SeenHeaders) (keys : List (List ℕ)) (table : List Part) → BeginsInKey table
    → ¬ HasAppended seen table → HasHeader seen (map key keys) → PassesBy keys table
table_passed seen keys table first lacks h =
    passes_unless (λ k. ¬ HasNumber seen.appended k) keys table (some_key table first) lacks
    (λ n lt none. none (h n lt))

pub header_passes : (seen : SeenHeaders) (keys : List (List ℕ)) (table : List Part) → HasTableOf seen table
    → ((n : ℕ) → n < length (map key keys) → ¬ HasBrought seen (take (n + 1) (map key keys))) → PassesBy keys table
header_passes seen keys table (first, has) lacks =
    passes_unless (HasNumber seen.brought) keys table (some_key table first) has lacks

-- one that is no table's is no second header of it
pub header_differs : (seen : SeenHeaders) (keys : List (List ℕ)) (table : List Part) → HasTableOf seen table
    → ¬ HasBrought seen (map key keys) → keys ≢ keys_in table
header_differs seen keys table (first, has) lacks same =
    lacks (subst (HasNumber seen.brought)
    (sym (ap (λ (ks : List (List ℕ)). keys_number (map key ks)) same ∙ keys_alike table)) has)

-- ---- what stays

pub more_of_same : (old new : SeenHeaders) → new ≡ old → HasMore old new
more_of_same old new same =
    subst (HasMore old) (sym same) (record { appended = λ path has. has; brought = λ path has. has })

pub more_of_more : (a b c : SeenHeaders) → HasMore a b → HasMore b c → HasMore a c
more_of_more a b c on more = record {
  appended = λ path has. more.appended path (on.appended path has);
  brought = λ path has. more.brought path (on.brought path has);
}

pub header_still : (old new : SeenHeaders) (keys : List Part) → HasMore old new → HasHeader old keys
    → HasHeader new keys
header_still old new keys more h = λ n lt. more.appended (take (n + 1) keys) (h n lt)

-- ---- what a set of numbers keeps

pub ok_holds : {A E : Type 0} (P : Type 0) (r : Result A E) → is_ok r ≡ true → OnOk r P → P
ok_holds P (Ok a) e h = h
ok_holds P (Err f) e h = absurd cc

pub no_error_holds : {A E : Type 0} (P : Type 0) (r : Result A E) → is_err r ≡ false → OnOk r P → P
no_error_holds P (Ok a) e h = h
no_error_holds P (Err f) e h = absurd cc
