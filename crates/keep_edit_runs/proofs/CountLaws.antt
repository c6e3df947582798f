-- How many lines come at each byte, where one edit more is counted.
--
-- The line of an insert is one more at its byte, of those that end a body or of those with a header, as its kind tells;
-- another edit adds none (`insert_counted`, `header_counted`, `none_counted`).
--
-- Theorems: `no_fewer`, `some_here`: one more at a byte; `counted`, `uncounted`, `counted_table`, `same_tables`: lines
-- of the kind of one more, and others; `insert_counted`, `header_counted`, `none_counted`: an edit more.
use Rattle.std.proofs.Common.{◌≡◌, ◌≤◌, ◌<◌, ◌+◌, ℕ, Bool, true, false, List, [], Option, Some, None, refl, sym}
use Rattle.std.proofs.Common.{ap, subst, ◌∙◌, arith, cond, length, suc}
use Rattle.std.specs.Prelude.{◌==◌, ◌&&◌, nat_lt}
use Rattle.std.specs.List.{count_by}
use Rattle.std.proofs.lemmas.Bool.{eq-eqb}
use Rattle.keep_path.specs.Path.{Part, without_last}
use Rattle.keep_edit_spec.specs.Edits as law
use Rattle.keep_edit_spec.specs.InsertKinds.{Added, has_header, is_last_in_body}
use Rattle.keep_edit_spec.specs.LinesAhead.{is_end_at, is_headed_at}
use Rattle.keep_edit_spec.specs.Runs as runs
use Rattle.keep_edit_spec.specs.declared.line_kind.LineKind.{LineKind}
use Rattle.keep_edit_runs.specs.AddedLines.{IsCountedMore, is_shorter, is_shorter_at, lines_by}
use Rattle.keep_edit_runs.specs.Counts.{IsOneMore, IsOneOfLength, count_at, shorter_at}
use Rattle.keep_edit_runs.specs.Runs.{no_value, outlined}
use Rattle.keep_edit_runs.specs.declared.added_lines.AddedLines.{AddedLines}
use Rattle.keep_edit_runs.specs.declared.counts.Counts.{Counts}
use Rattle.keep_edit_runs.specs.declared.dotted_tables.DottedTables.{DottedTables}
use Rattle.keep_edit_runs.specs.declared.outline.Outline.{Outline}
use Rattle.keep_edit_runs.specs.declared.outline.Outline.TheVariants.{Element, Insert, Remove, Rename, Set, Table}

-- ---- one more

pub no_fewer : (old new : Counts) (at : ℕ) → IsOneMore old at new → (n : ℕ) → count_at old n ≤ count_at new n
no_fewer old new at one n = omega (arith, one n)

pub some_here : (old new : Counts) (at : ℕ) → IsOneMore old at new → 0 < count_at new at
some_here old new at one =
    let more : count_at new at ≡ 1 + count_at old at =
    one at ∙ ap (λ (b : Bool). cond b 1 0 + count_at old at) (eq-eqb at at refl) in
    omega (arith, more)

-- none more
none_more : (n m : ℕ) → n ≡ m → n ≡ 0 + m
none_more n m same = omega (arith, same)

-- ---- the line of an insert

-- one line, if it is of those and there
abbrev one_of : Bool → Bool → ℕ
one_of here of = 0 + cond (here && of) 1 0

of_none : (here : Bool) (n : ℕ) → n ≡ one_of here false + n
of_none true n = omega arith
of_none false n = omega arith

of_all : (here : Bool) (n : ℕ) → cond here 1 0 + n ≡ one_of here true + n
of_all true n = omega arith
of_all false n = omega arith

-- one of a table that dotted keys make is counted with its length
of_one : (b : Bool) (n : ℕ) → cond b 1 0 + n ≡ (0 + cond b 1 0) + n
of_one true n = omega arith
of_one false n = omega arith

pub counted_table : (old new : DottedTables) (at : ℕ) (table : List Part) → IsOneOfLength old.lengths (length table) at
    new.lengths → (most n : ℕ)
    → shorter_at new.lengths most n ≡ one_of (at == n) (nat_lt (length table) most) + shorter_at old.lengths most n
counted_table old new at table one most n =
    one most n ∙ of_one ((at == n) && nat_lt (length table) most) (shorter_at old.lengths most n)

-- and others without
pub same_tables : (old new : DottedTables) (at : ℕ) → new ≡ old → (most n : ℕ)
    → shorter_at new.lengths most n ≡ one_of (at == n) false + shorter_at old.lengths most n
same_tables old new at same most n =
    ap (λ (tables : DottedTables). shorter_at tables.lengths most n) same
    ∙ of_none (at == n) (shorter_at old.lengths most n)

-- lines of its kind are counted with it, and others without
pub counted : (old new : Counts) (at : ℕ) → IsOneMore old at new
    → (n : ℕ) → count_at new n ≡ one_of (at == n) true + count_at old n
counted old new at one n = one n ∙ of_all (at == n) (count_at old n)

pub uncounted : (old new : Counts) (at : ℕ) → new ≡ old
    → (n : ℕ) → count_at new n ≡ one_of (at == n) false + count_at old n
uncounted old new at same n =
    ap (λ (counts : Counts). count_at counts n) same ∙ of_none (at == n) (count_at old n)

pub insert_counted : (old : AddedLines) (x : Outline) (first : List Part) (at : ℕ) (kind : LineKind) (new : AddedLines)
    → outlined x ≡ law.insert first no_value
    → ((most n : ℕ) → shorter_at new.dotted.lengths most n
    ≡ one_of (at == n) (is_shorter most kind (without_last first)) + shorter_at old.dotted.lengths most n)
    → ((n : ℕ) → count_at new.ends n ≡ one_of (at == n) (is_last_in_body kind) + count_at old.ends n)
    → ((n : ℕ) → count_at new.headed n ≡ one_of (at == n) (has_header kind) + count_at old.headed n)
    → new.appended ≡ old.appended → IsCountedMore old (outlined x) at (Some kind) new
insert_counted old x first at kind new is shorter ends headed appended =
    subst (λ (e : law.Edit). IsCountedMore old e at (Some kind) new) (sym is)
    (record {
      shorter = shorter;
      ends = ends;
      headed = headed;
      appended = none_more new.appended old.appended appended;
    })

-- ---- edits that add no line

module _ (old : AddedLines) (e : law.Edit) (at : ℕ) (line : Option LineKind) (new : AddedLines)
    (none : lines_by e at line ≡ []) (dotted_same : new.dotted ≡ old.dotted) (ends_same : new.ends ≡ old.ends)
    (headed_same : new.headed ≡ old.headed) where
  same_count : (n : ℕ) (had has : Counts) → has ≡ had → (test : Added → Bool)
      → count_at has n ≡ count_by test (lines_by e at line) + count_at had n
  same_count n had has same test =
      none_more (count_at has n) (count_at had n) (ap (λ (counts : Counts). count_at counts n) same)
      ∙ ap (λ (lines : List Added). count_by test lines + count_at had n) (sym none)

  -- where the headers that it appends are counted
  lineless_counted : new.appended ≡ (0 + cond (runs.is_header e) 1 0) + old.appended → IsCountedMore old e at line new
  lineless_counted appended = record {
    shorter = λ most n.
        none_more (shorter_at new.dotted.lengths most n) (shorter_at old.dotted.lengths most n)
        (ap (λ (tables : DottedTables). shorter_at tables.lengths most n) dotted_same)
        ∙ ap (λ (lines : List Added). count_by (is_shorter_at most n) lines + shorter_at old.dotted.lengths most n)
        (sym none);
    ends = λ n. same_count n old.ends new.ends ends_same (is_end_at n);
    headed = λ n. same_count n old.headed new.headed headed_same (is_headed_at n);
    appended = appended;
  }

no_line : (x : Outline) (at : ℕ) (line : Option LineKind)
    → ((first : List Part) (kind : LineKind) → outlined x ≡ law.insert first no_value → line ≡ Some kind → ⊥)
    → lines_by (outlined x) at line ≡ []
no_line x at None none = refl
no_line (Insert path) at (Some kind) none = absurd (none path kind refl refl)
no_line (Set path) at (Some kind) none = refl
no_line (Rename path name) at (Some kind) none = refl
no_line (Remove path) at (Some kind) none = refl
no_line (Table ks) at (Some kind) none = refl
no_line (Element ks) at (Some kind) none = refl

pub none_counted : (added : AddedLines) (x : Outline) (at : ℕ) (line : Option LineKind)
    → ((first : List Part) (kind : LineKind) → outlined x ≡ law.insert first no_value → line ≡ Some kind → ⊥)
    → runs.is_header (outlined x) ≡ false → IsCountedMore added (outlined x) at line added
none_counted added x at line none headless =
    lineless_counted added (outlined x) at line added (no_line x at line none) refl refl refl
    (none_more added.appended added.appended refl
    ∙ ap (λ (b : Bool). (0 + cond b 1 0) + added.appended) (sym headless))

pub header_counted : (old : AddedLines) (x : Outline) (at : ℕ) (line : Option LineKind) (new : AddedLines)
    → ((first : List Part) → outlined x ≡ law.insert first no_value → ⊥) → runs.is_header (outlined x) ≡ true
    → new.dotted ≡ old.dotted → new.ends ≡ old.ends → new.headed ≡ old.headed → new.appended ≡ suc old.appended
    → IsCountedMore old (outlined x) at line new
header_counted old x at line new other headed dotted_same ends_same headed_same appended =
    lineless_counted old (outlined x) at line new (no_line x at line (λ first kind is its. other first is)) dotted_same
    ends_same headed_same (more ∙ ap (λ (b : Bool). (0 + cond b 1 0) + old.appended) (sym headed))
  where
    more : new.appended ≡ 1 + old.appended
    more = omega (arith, appended)
