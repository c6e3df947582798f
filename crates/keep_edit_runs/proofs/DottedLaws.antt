-- The tables that dotted keys make, of the lines that come at each byte, with one more.
--
-- Where all tables at a byte are on the way to one, that is the longest there then, and they are still there
-- (`longer`). One that is within another begins with it (`within_is`).
--
-- Theorems: `within_is`, `above_all`, `longer`.
use Rattle.std.proofs.Common.{◌≡◌, ◌≢◌, ◌∙◌, ℕ, List, [], ◌++◌, Some, None, ap, append_assoc, drop, length, subst, sym}
use Rattle.std.proofs.Common.{true}
use Rattle.std.proofs.lemmas.List.{append-nil, take-append-drop}
use Rattle.keep_path.specs.Path.{Part, strip}
use Rattle.keep_edit_spec.specs.DottedLines.{IsAtOrBelow}
use Rattle.keep_edit_runs.specs.DottedTables.{FitsAt, HasTableAt, longest_at}
use Rattle.keep_edit_runs.specs.declared.dotted_tables.DottedTables.{DottedTables}
use Rattle.keep_edit_runs.proofs.AlikeLaws.{begins_with}
use Rattle.keep_edit_runs.proofs.LineLaws.{by_number}

pub within_is : (path above : List Part) → strip above path ≢ None → IsAtOrBelow path above
within_is path above some =
    let begins = begins_with above path some in (
      drop (length above) path,
      sym (take-append-drop (length above) path) ∙ ap (λ (q : List Part). q ++ drop (length above) path) begins.1,
    )

-- what is above the longest is above all that are there
pub above_all : (tables : DottedTables) (at : ℕ) (longest table : List Part) → longest_at tables at ≡ Some longest
    → IsAtOrBelow table longest → FitsAt tables at table true
above_all tables at longest table is (more, far) = λ q h.
    let both : Some longest ≡ Some h.0 = sym is ∙ h.1.0 in
    let same : longest ≡ h.0 = cc in (
      h.1.1.0 ++ more,
      far ∙ ap (λ (p : List Part). p ++ more) (same ∙ h.1.1.1) ∙ append_assoc q h.1.1.0 more,
    )

pub longer : (old new : DottedTables) (at : ℕ) (table : List Part) → longest_at new at ≡ Some table
    → ((n : ℕ) → n ≢ at → longest_at new n ≡ longest_at old n) → FitsAt old at table true
    → HasTableAt new at table × ((n : ℕ) (q : List Part) → HasTableAt old n q → HasTableAt new n q)
longer old new at table there rest fits = (
  (table, (there, ([], sym (append-nil table)))),
  λ n q h.
      by_number n at
      (λ same. (
        table,
        (
          ap (longest_at new) same ∙ there,
          fits q (subst (λ (m : ℕ). HasTableAt old m q) same h),
        ),
      ))
      (λ other. (h.0, (rest n other ∙ h.1.0, h.1.1))),
)
