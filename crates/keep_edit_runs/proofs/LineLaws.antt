-- One line more, among those that edits of a list add which are made at once.
--
-- At another byte all is as it was (`known_still`). At this one the end of a body comes after all lines but one with a
-- header; a line of a table that dotted keys make after lines of that table and those below it, as there are no others:
-- of two tables there one is that of the other or below it (`before_or_after`), and none has fewer steps; and a header
-- after all other lines, as the first of its table. No appended header goes through its table, and none that is
-- appended later is of the table. A line that comes where others have to come behind it comes before those alone: a
-- line of a table that dotted keys make before those of tables above it, ends of bodies and headers, an end of a body
-- before a header, and each before headers that are appended.
--
-- Theorems: `end_kept`, `table_kept`, `header_kept`, `appended_kept`, `none_kept`; `end_ahead`, `table_ahead`,
-- `header_ahead`: before what comes behind; `brought_same`, `headers_stay`, `lets_known`, `with_header`: of headers;
-- `by_number`, `others_by`: of what is kept.
use Rattle.std.proofs.Common.{◌≡◌, ◌≢◌, ◌≤◌, ◌<◌, ◌+◌, ◌∙◌, ◌==◌, ℕ, Bool, true, false, List, [], ◌∷◌, ◌++◌, Option}
use Rattle.std.proofs.Common.{Some, None, refl, sym, ap, ap₂, cond, subst, arith, eqb-true, inl, inr, length}
use Rattle.std.proofs.Common.{length-append, map}
use Rattle.std.specs.Prelude.{◌⊎◌, ◌&&◌, nat_lt}
use Rattle.std.specs.List.{list_any}
use Rattle.std.proofs.lemmas.Bool.{eq-eqb, lt-ltb}
use Rattle.keep_path.specs.Path.{Part, key, without_last}
use Rattle.keep_edit_spec.specs.Edits as law
use Rattle.keep_edit_spec.specs.InsertKinds.{Added, IsAfterLine, table_of}
use Rattle.keep_edit_spec.specs.DottedLines.{IsAtOrBelow}
use Rattle.keep_edit_spec.specs.LinesAhead.{comes_before, is_below}
use Rattle.keep_edit_spec.specs.Runs as runs
use Rattle.keep_edit_spec.specs.Runs.{IsNoSecond, LetsTable, PassesBy, PassesTable, takes_up_to}
use Rattle.keep_edit_spec.specs.TextChanges.{TextChange}
use Rattle.keep_edit_spec.proofs.Shared.{below_more, left_below}
use Rattle.keep_edit_spec.specs.declared.line_kind.LineKind.{LineKind}
use Rattle.keep_edit_spec.specs.declared.line_kind.LineKind.TheVariants.{LastInBody, OfDotted, WithHeader}
use Rattle.keep_edit_runs.specs.AddedLines.{HasTable, IsAppendedKept, IsCountedMore, IsEndKept, IsEndMore, IsHeaderKept}
use Rattle.keep_edit_runs.specs.AddedLines.{IsHeaderKnown, IsKnownAs, IsKnownAt, IsSameOfHeaders, IsTableKept}
use Rattle.keep_edit_runs.specs.AddedLines.{IsTableMore, PassesHeaderAt, brought_at, line_of}
use Rattle.keep_edit_runs.specs.Counts.{count_at, shorter_at}
use Rattle.keep_edit_runs.specs.DottedTables.{HasTableAt, IsDottedAt}
use Rattle.keep_edit_runs.specs.Runs.{IsBroughtThen, IsKeptAhead, IsKnownThen, IsLineKept, IsNoSecondOf}
use Rattle.keep_edit_runs.specs.Runs.{no_value, outlined}
use Rattle.keep_edit_runs.specs.SeenHeaders.{HasHeader, HasMore, HasTableOf}
use Rattle.keep_edit_runs.specs.declared.added_lines.AddedLines.{AddedLines}
use Rattle.keep_edit_runs.specs.declared.counts.Counts.{Counts}
use Rattle.keep_edit_runs.specs.declared.dotted_tables.DottedTables.{DottedTables}
use Rattle.keep_edit_runs.specs.declared.outline.Outline.{Outline}
use Rattle.keep_edit_runs.proofs.CountLaws.{counted, counted_table, header_counted, insert_counted, no_fewer}
use Rattle.keep_edit_runs.proofs.CountLaws.{none_counted, same_tables, some_here, uncounted}
use Rattle.keep_edit_runs.proofs.HeaderLaws.{header_differs, header_still, more_of_same, table_passed}

-- ---- lines that were known

-- where there are no fewer lines, and all tables are still there
known_still : (old new : AddedLines) → ((n : ℕ) → count_at old.ends n ≤ count_at new.ends n)
    → ((n : ℕ) (q : List Part) → IsDottedAt old.dotted n q → IsDottedAt new.dotted n q)
    → ((n : ℕ) (q : List Part) → brought_at old n ≡ Some q → brought_at new n ≡ Some q)
    → ((q : List Part) → HasTable old q → HasTable new q) → HasMore old.headers new.headers
    → (l : Added) → IsKnownAt old l → IsKnownAt new l
known_still old new ends dotted brought tables more l known = by l.kind known
  where
    by : (kind : LineKind) → IsKnownAs kind old l → IsKnownAs kind new l
    by LastInBody h = omega (arith, h, ends l.at)
    by OfDotted h = dotted l.at (table_of l) h
    by WithHeader (h, (has, (first, one))) =
        (brought l.at (table_of l) h, (tables (table_of l) has, (first, more.brought (table_of l) one)))

-- what holds where two numbers are one, and where they are not
pub by_number : {P : Type 0} (n at : ℕ) → (n ≡ at → P) → (n ≢ at → P) → P
by_number {P = P} n at same other = by (n == at) refl
  where
    by : (b : Bool) → (n == at) ≡ b → P
    by true e = same (eqb-true n at e)
    by false e = other (λ is. (let both : false ≡ true = sym e ∙ eq-eqb n at is in absurd cc))

-- the same tables of dotted keys, and as many ends
dotted_same : (old new : DottedTables) → new ≡ old → (n : ℕ) (q : List Part) → IsDottedAt old n q → IsDottedAt new n q
dotted_same old new same n q = subst (λ (tables : DottedTables). IsDottedAt tables n q) (sym same)

ends_same : (old new : AddedLines) → new.ends ≡ old.ends → (n : ℕ) → count_at old.ends n ≤ count_at new.ends n
ends_same old new same n =
    let is : count_at new.ends n ≡ count_at old.ends n = ap (λ (counts : Counts). count_at counts n) same in
    omega (arith, is)

-- the same headers
module _ (old new : AddedLines) (same : IsSameOfHeaders old new) where
  pub brought_same : (n : ℕ) → brought_at new n ≡ brought_at old n
  brought_same n = ap (λ brought. brought_at (record old { brought = brought }) n) same.brought

  headers_same : HasMore old.headers new.headers
  headers_same = more_of_same old.headers new.headers same.headers

  others_stay : ((n : ℕ) → count_at old.ends n ≤ count_at new.ends n)
      → ((n : ℕ) (q : List Part) → IsDottedAt old.dotted n q → IsDottedAt new.dotted n q)
      → (l : Added) → IsKnownAt old l → IsKnownAt new l
  others_stay ends dotted =
      known_still old new ends dotted (λ n q h. brought_same n ∙ h)
      (λ q. subst (λ tables. HasTable (record old { tables = tables }) q) (sym same.tables)) headers_same

  -- headers come where they came
  brought_then : (x : Outline) (at : ℕ) (line : Option LineKind) (n : ℕ) (q : List Part) → brought_at new n ≡ Some q
      → IsBroughtThen old x at line n q
  brought_then x at line n q there = inl (sym (brought_same n) ∙ there)

-- one that is known with a header, as that
pub with_header : (added : AddedLines) (l : Added) → IsKnownAt added l → l.kind ≡ WithHeader
    → IsKnownAs WithHeader added l
with_header added l known is = subst (λ (kind : LineKind). IsKnownAs kind added l) is known

-- where no header comes, none of the lines has one
none_there : (added : AddedLines) (at : ℕ) (l : Added) → brought_at added at ≡ None → IsKnownAt added l
    → l.kind ≡ WithHeader → l.at ≡ at → ⊥
none_there added at l free known is same =
    let h : brought_at added l.at ≡ Some (table_of l) = (with_header added l known is).0 in
    let both : None ≡ Some (table_of l) =
    sym free ∙ subst (λ (n : ℕ). brought_at added n ≡ Some (table_of l)) same h in
    absurd cc

-- headers that are appended pass by the table of a line without one
lets_headless : (l : Added) → l.kind ≢ WithHeader → (e : law.Edit) → LetsTable l e
lets_headless l headless (law.append_table ks) = λ headed. absurd (headless headed)
lets_headless l headless (law.append_element ks) = λ headed. absurd (headless headed)
lets_headless l headless (law.insert p v) = tt
lets_headless l headless (law.remove p) = tt
lets_headless l headless (law.set p v) = tt
lets_headless l headless (law.rename p name) = tt

-- ---- headers

-- The edit appends the header of these keys.
abbrev pub AppendsHeader : List (List ℕ) → law.Edit → Type 0
AppendsHeader keys e = (e ≡ law.append_table keys) ⊎ (e ≡ law.append_element keys)

pub headers_stay : (old new : AddedLines) → HasMore old.headers new.headers → (e : law.Edit) → IsHeaderKnown old e
    → IsHeaderKnown new e
headers_stay old new more (law.append_table ks) h = header_still old.headers new.headers (map key ks) more h
headers_stay old new more (law.append_element ks) h = header_still old.headers new.headers (map key ks) more h
headers_stay old new more (law.insert p v) h = tt
headers_stay old new more (law.remove p) h = tt
headers_stay old new more (law.set p v) h = tt
headers_stay old new more (law.rename p name) h = tt

-- and the tables whose headers come with a line
tables_still : (old new : AddedLines) → HasMore old.headers new.headers → (table : List Part)
    → HasTableOf old.headers table → HasTableOf new.headers table
tables_still old new more table (first, has) = (first, more.brought table has)

-- an edit that appends none
no_header : (e : law.Edit) → runs.is_header e ≡ false → (l : Added) → IsNoSecondOf l e
no_header (law.append_table ks) none l = absurd cc
no_header (law.append_element ks) none l = absurd cc
no_header (law.insert p v) none l = tt
no_header (law.remove p) none l = tt
no_header (law.set p v) none l = tt
no_header (law.rename p name) none l = tt

unheaded : (added : AddedLines) (e : law.Edit) → runs.is_header e ≡ false → IsHeaderKnown added e
unheaded added (law.append_table ks) none = absurd cc
unheaded added (law.append_element ks) none = absurd cc
unheaded added (law.insert p v) none = tt
unheaded added (law.remove p) none = tt
unheaded added (law.set p v) none = tt
unheaded added (law.rename p name) none = tt

-- An edit that appends no header passes by each table.
pub lets_no_header : (l : Added) (e : law.Edit) → runs.is_header e ≡ false → LetsTable l e
lets_no_header l (law.append_table ks) none = absurd cc
lets_no_header l (law.append_element ks) none = absurd cc
lets_no_header l (law.insert p v) none = tt
lets_no_header l (law.remove p) none = tt
lets_no_header l (law.set p v) none = tt
lets_no_header l (law.rename p name) none = tt

-- Headers pass by the table of a line, if it has a header of its own, where those that are known do.
pub lets_known : (added : AddedLines) (l : Added)
    → ((keys : List (List ℕ)) → HasHeader added.headers (map key keys) → PassesTable keys l)
    → (e : law.Edit) → IsHeaderKnown added e → LetsTable l e
lets_known added l passes (law.append_table ks) h = passes ks h
lets_known added l passes (law.append_element ks) h = passes ks h
lets_known added l passes (law.insert p v) h = tt
lets_known added l passes (law.remove p) h = tt
lets_known added l passes (law.set p v) h = tt
lets_known added l passes (law.rename p name) h = tt

-- ---- the end of a body

module _ (old : AddedLines) (at : ℕ) (new : AddedLines) (k : IsEndMore old at new) where
  end_others : (l : Added) → IsKnownAt old l → IsKnownAt new l
  end_others =
      others_stay old new k.same (no_fewer old.ends new.ends at k.one) (dotted_same old.dotted new.dotted k.dotted)

  end_counted : (x : Outline) (first : List Part) → outlined x ≡ law.insert first no_value
      → IsCountedMore old (outlined x) at (Some LastInBody) new
  end_counted x first is =
      insert_counted old x first at LastInBody new is (same_tables old.dotted new.dotted at k.dotted)
      (counted old.ends new.ends at k.one) (uncounted old.headed new.headed at k.same.headed) k.same.appended

pub end_kept : (old : AddedLines) (changes : List TextChange) (x : Outline) (first : List Part) (at : ℕ)
    (new : AddedLines) → outlined x ≡ law.insert first no_value → IsEndKept old at new
    → IsLineKept old changes x at (Some LastInBody) new
end_kept old changes x first at new is k = record {
  others = end_others old at new k.more;
  headers = headers_stay old new (headers_same old new k.more.same);
  own = λ path kind same line.
      subst (λ (a : LineKind). IsKnownThen old changes (line_of path at a) new)
      (let own : LastInBody ≡ kind = cc in own) (record {
        stays = λ differs. absurd (differs refl);
        passed = λ e known. lets_headless (line_of path at LastInBody) (λ headed. absurd cc) e;
        after = λ l known there headed. none_there old at l k.free known headed there;
        here = some_here old.ends new.ends at k.more.one;
      });
  brought = brought_then old new k.more.same x at (Some LastInBody);
  follower = k.more.same.follower;
  counts = end_counted old at new k.more x first is;
  tables = tables_still old new (headers_same old new k.more.same);
  passes = λ l known. no_header (outlined x) (ap runs.is_header is) l;
  header = unheaded new (outlined x) (ap runs.is_header is);
}

-- ---- a line of a table that dotted keys make

-- Two paths with which one begins: the first is the second or below it, or the second is below the first.
on_one : (q table more rest : List Part) → q ++ more ≡ table ++ rest
    → IsAtOrBelow q table ⊎ ((p : Part) × ((ps : List Part) × (table ≡ q ++ p ∷ ps)))
on_one q [] more rest same = inl (q, refl)
on_one [] (p ∷ table) more rest same = inr (p, (table, refl))
on_one (x ∷ q) (p ∷ table) more rest same =
    let first : x ≡ p = cc in
    let later : q ++ more ≡ table ++ rest = cc in
    elim (on_one q table more rest later) [
      | inl (left, is) ↦ inl (left, ap₂ (λ (a : Part) (l : List Part). a ∷ l) first is)
      | inr (a, (rest, is)) ↦ inr (a, (rest, ap₂ (λ (b : Part) (l : List Part). b ∷ l) (sym first) is))
    ]

module _ (old : AddedLines) (at : ℕ) (table : List Part) (new : AddedLines) (k : IsTableMore old at table new) where
  tables_stay : (n : ℕ) (q : List Part) → IsDottedAt old.dotted n q → IsDottedAt new.dotted n q
  tables_stay n q h = record {
    there = k.dotted.others n q h.there;
    counted = λ most less. omega (arith, h.counted most less, k.dotted.one most n);
  }

  table_here : IsDottedAt new.dotted at table
  table_here = record {
    there = k.dotted.here;
    counted = λ most less.
        (let one : shorter_at new.dotted.lengths most at ≡ 1 + shorter_at old.dotted.lengths most at =
        k.dotted.one most at
        ∙ ap₂ (λ (b c : Bool). cond (b && c) 1 0 + shorter_at old.dotted.lengths most at) (eq-eqb at at refl)
        (lt-ltb (length table) most less) in
        omega (arith, one));
  }

  table_others : (l : Added) → IsKnownAt old l → IsKnownAt new l
  table_others = others_stay old new k.same (ends_same old new k.ends) tables_stay

  -- The table of a line there is this one or below it, or this one is below that.
  before_or_after : (q : List Part) → HasTableAt old.dotted at q → IsAtOrBelow q table ⊎ (is_below table q ≡ true)
  before_or_after q h =
      let (longest, (is, (more, on))) = k.dotted.others at q h in
      let (other, (its, (rest, own))) = k.dotted.here in
      let both : Some longest ≡ Some other = sym is ∙ its in
      let same : longest ≡ other = cc in
      elim (on_one q table more rest (sym on ∙ same ∙ own)) [
        | inl within ↦ inl within
        | inr (p, (ps, far)) ↦ inr (left_below table q p ps far)
      ]

  table_counted : (x : Outline) (first : List Part) → outlined x ≡ law.insert first no_value
      → table ≡ without_last first → IsCountedMore old (outlined x) at (Some OfDotted) new
  table_counted x first is table_is =
      insert_counted old x first at OfDotted new is
      (λ most n. counted_table old.dotted new.dotted at table k.dotted.one most n
      ∙ ap (λ (p : List Part). (0 + cond ((at == n) && nat_lt (length p) most) 1 0)
      + shorter_at old.dotted.lengths most n) table_is)
      (uncounted old.ends new.ends at k.ends) (uncounted old.headed new.headed at k.same.headed) k.same.appended

-- Where no line has fewer steps, each is of this table or below it.
table_after : (old : AddedLines) (at : ℕ) (table : List Part) (new : AddedLines) → IsTableKept old at table new
    → (l : Added) → IsKnownAs OfDotted old l → l.at ≡ at → IsAtOrBelow (table_of l) table
table_after old at table new k l h same =
    elim (before_or_after old at table new k.more (table_of l)
    (subst (λ (n : ℕ). HasTableAt old.dotted n (table_of l)) same h.there)) [
      | inl within ↦ within
      | inr below ↦
          (let (p, (ps, far)) = below_more table (table_of l) below in
          let some : 0 < shorter_at old.dotted.lengths (length table) at =
          subst (λ (n : ℕ). 0 < shorter_at old.dotted.lengths (length table) n) same
          (h.counted (length table)
          (omega (arith, ap length far, length-append (table_of l) (p ∷ ps)))) in
          absurd (omega (arith, some, k.shortest)))
    ]

-- so it is where none ends a body, and none has a header
only_table : (old : AddedLines) (at : ℕ) (table : List Part) (new : AddedLines) → IsTableKept old at table new
    → (l : Added) → IsKnownAt old l → l.at ≡ at → (l.kind ≡ OfDotted) × IsAtOrBelow (table_of l) table
only_table old at table new k l known same = by l.kind refl known
  where
    by : (kind : LineKind) → l.kind ≡ kind → IsKnownAs kind old l
        → (l.kind ≡ OfDotted) × IsAtOrBelow (table_of l) table
    by LastInBody is h =
        let some : 0 < count_at old.ends at = subst (λ (n : ℕ). 0 < count_at old.ends n) same h in
        absurd (omega (arith, some, k.endless))
    by OfDotted is h = (is, table_after old at table new k l h same)
    by WithHeader is h = absurd (none_there old at l k.free known is same)

pub table_kept : (old : AddedLines) (changes : List TextChange) (x : Outline) (first table : List Part) (at : ℕ)
    (new : AddedLines) → outlined x ≡ law.insert first no_value → table ≡ without_last first
    → list_any (takes_up_to at) changes ≡ false → IsTableKept old at table new
    → IsLineKept old changes x at (Some OfDotted) new
table_kept old changes x first table at new is table_is clear k = record {
  others = table_others old at table new k.more;
  headers = headers_stay old new (headers_same old new k.more.same);
  own = λ path kind same line.
      let own : law.insert first no_value ≡ law.insert path no_value = sym is ∙ same in
      let path_is : first ≡ path = cc in
      let its : table ≡ without_last path = table_is ∙ ap without_last path_is in
      subst (λ (a : LineKind). IsKnownThen old changes (line_of path at a) new)
      (let kind_is : OfDotted ≡ kind = cc in kind_is) (record {
        stays = λ differs. clear;
        passed = λ e known. lets_headless (line_of path at OfDotted) (λ headed. absurd cc) e;
        after = λ l known same_at.
            let (of, there) = only_table old at table new k l known same_at in
            (of, subst (IsAtOrBelow (table_of l)) its there);
        here = subst (IsDottedAt new.dotted at) its (table_here old at table new k.more);
      });
  brought = brought_then old new k.more.same x at (Some OfDotted);
  follower = k.more.same.follower;
  counts = table_counted old at table new k.more x first is table_is;
  tables = tables_still old new (headers_same old new k.more.same);
  passes = λ l known. no_header (outlined x) (ap runs.is_header is) l;
  header = unheaded new (outlined x) (ap runs.is_header is);
}

-- ---- a line with a header

module _ (old : AddedLines) (at : ℕ) (table : List Part) (new : AddedLines) (k : IsHeaderKept old at table new) where
  header_others : (l : Added) → IsKnownAt old l → IsKnownAt new l
  header_others =
      known_still old new (ends_same old new k.ends) (dotted_same old.dotted new.dotted k.dotted) brought_still k.more
      k.brought.more
    where
      brought_still : (n : ℕ) (q : List Part) → brought_at old n ≡ Some q → brought_at new n ≡ Some q
      brought_still n q h =
          by_number n at
          (λ same. absurd (
          let both : None ≡ Some q = sym k.free ∙ subst (λ (m : ℕ). brought_at old m ≡ Some q) same h in
          cc
          ))
          (λ other. k.others n other ∙ h)

  header_after : (first : List Part) → table ≡ without_last first → (l : Added) → IsKnownAt old l
      → IsAfterLine l (line_of first at WithHeader)
  header_after first its l known is = (
    none_there old at l k.free known is,
    λ same. k.first (subst (HasTable old) (same ∙ sym its) (with_header old l known is).1.0),
  )

  header_lets : (first : List Part) → table ≡ without_last first → (e : law.Edit) → IsHeaderKnown old e
      → LetsTable (line_of first at WithHeader) e
  header_lets first its =
      lets_known old (line_of first at WithHeader) (λ keys known headed.
      subst (PassesBy keys) its (table_passed old.headers keys table k.brought.here.0 k.brought.passes known))

  header_here : (first : List Part) → table ≡ without_last first → IsKnownAt new (line_of first at WithHeader)
  header_here first its = (
    k.here ∙ ap (λ (p : List Part). Some p) its,
    (subst (HasTable new) its k.with_it, subst (HasTableOf new.headers) its k.brought.here),
  )

  brought_more : (x : Outline) (first : List Part) → outlined x ≡ law.insert first no_value
      → (n : ℕ) (q : List Part) → brought_at new n ≡ Some q → IsBroughtThen old x at (Some WithHeader) n q
  brought_more x first is n q there =
      by_number n at (λ same. inr (same, (refl, (first, is)))) (λ other. inl (sym (k.others n other) ∙ there))

  header_counted_more : (x : Outline) (first : List Part) → outlined x ≡ law.insert first no_value
      → IsCountedMore old (outlined x) at (Some WithHeader) new
  header_counted_more x first is =
      insert_counted old x first at WithHeader new is (same_tables old.dotted new.dotted at k.dotted)
      (uncounted old.ends new.ends at k.ends) (counted old.headed new.headed at k.one) k.appended

pub header_kept : (old : AddedLines) (changes : List TextChange) (x : Outline) (first table : List Part) (at : ℕ)
    (new : AddedLines) → outlined x ≡ law.insert first no_value → table ≡ without_last first
    → list_any (takes_up_to at) changes ≡ false → IsHeaderKept old at table new
    → IsLineKept old changes x at (Some WithHeader) new
header_kept old changes x first table at new is table_is clear k = record {
  others = header_others old at table new k;
  headers = headers_stay old new k.brought.more;
  own = λ path kind same line.
      let own : law.insert first no_value ≡ law.insert path no_value = sym is ∙ same in
      let path_is : first ≡ path = cc in
      let its : table ≡ without_last path = table_is ∙ ap without_last path_is in
      subst (λ (a : LineKind). IsKnownThen old changes (line_of path at a) new)
      (let kind_is : WithHeader ≡ kind = cc in kind_is) (record {
        stays = λ differs. clear;
        passed = header_lets old at table new k path its;
        after = header_after old at table new k path its;
        here = header_here old at table new k path its;
      });
  brought = brought_more old at table new k x first is;
  follower = k.follower;
  counts = header_counted_more old at table new k x first is;
  tables = tables_still old new k.brought.more;
  passes = λ l known. no_header (outlined x) (ap runs.is_header is) l;
  header = unheaded new (outlined x) (ap runs.is_header is);
}

-- ---- a line before those that come behind it

-- l comes before such a line, or behind it
abbrev AfterOrBefore : LineKind → List Part → ℕ → Added → Type 0
AfterOrBefore kind first at l =
    IsAfterLine l (line_of first at kind)
    ⊎ ((l.at ≡ at) × (comes_before kind (without_last first) l.kind (table_of l) ≡ true))

-- by the kind of l
ahead_by : (kind of : LineKind) (first : List Part) (l : Added) → l.kind ≡ of
    → comes_before kind (without_last first) of (table_of l) ≡ true
    → comes_before kind (without_last first) l.kind (table_of l) ≡ true
ahead_by kind of first l its =
    subst (λ (k : LineKind). comes_before kind (without_last first) k (table_of l) ≡ true) (sym its)

-- one that ends a body
pub end_ahead : (old : AddedLines) (changes : List TextChange) (x : Outline) (first : List Part) (at : ℕ)
    (is_at_end : Bool) (new : AddedLines) → outlined x ≡ law.insert first no_value
    → (is_at_end ≡ false → PassesHeaderAt old at) → list_any (takes_up_to at) changes ≡ false → IsEndMore old at new
    → IsKeptAhead old changes x at (Some LastInBody) is_at_end new
end_ahead old changes x first at is_at_end new is passed clear k = record {
  passed = passed;
  clear = clear;
  first = first;
  is = is;
  kind = LastInBody;
  line_is = refl;
  lets = λ e known. lets_headless (line_of first at LastInBody) (λ headed. absurd cc) e;
  after = λ l known. by l l.kind refl;
  here = some_here old.ends new.ends at k.one;
  others = end_others old at new k;
  headers = headers_stay old new (headers_same old new k.same);
  brought = brought_then old new k.same x at (Some LastInBody);
  follower = k.same.follower;
  counts = end_counted old at new k x first is;
  tables = tables_still old new (headers_same old new k.same);
}
  where
    by : (l : Added) (kind : LineKind) → l.kind ≡ kind → AfterOrBefore LastInBody first at l
    by l LastInBody its = inl (λ there headed. (let both : LastInBody ≡ WithHeader = sym its ∙ headed in absurd cc))
    by l OfDotted its = inl (λ there headed. (let both : OfDotted ≡ WithHeader = sym its ∙ headed in absurd cc))
    by l WithHeader its =
        by_number l.at at (λ there. inr (there, ahead_by LastInBody WithHeader first l its refl))
        (λ other. inl (λ there headed. other there))

-- one of a table that dotted keys make
pub table_ahead : (old : AddedLines) (changes : List TextChange) (x : Outline) (first table : List Part) (at : ℕ)
    (is_at_end : Bool) (new : AddedLines) → outlined x ≡ law.insert first no_value → table ≡ without_last first
    → (is_at_end ≡ false → PassesHeaderAt old at) → list_any (takes_up_to at) changes ≡ false
    → IsTableMore old at table new → IsKeptAhead old changes x at (Some OfDotted) is_at_end new
table_ahead old changes x first table at is_at_end new is table_is passed clear k = record {
  passed = passed;
  clear = clear;
  first = first;
  is = is;
  kind = OfDotted;
  line_is = refl;
  lets = λ e known. lets_headless (line_of first at OfDotted) (λ headed. absurd cc) e;
  after = λ l known. by l l.kind refl known;
  here = subst (IsDottedAt new.dotted at) table_is (table_here old at table new k);
  others = table_others old at table new k;
  headers = headers_stay old new (headers_same old new k.same);
  brought = brought_then old new k.same x at (Some OfDotted);
  follower = k.same.follower;
  counts = table_counted old at table new k x first is table_is;
  tables = tables_still old new (headers_same old new k.same);
}
  where
    by : (l : Added) (kind : LineKind) → l.kind ≡ kind → IsKnownAs kind old l → AfterOrBefore OfDotted first at l
    by l LastInBody its h =
        by_number l.at at (λ there. inr (there, ahead_by OfDotted LastInBody first l its refl))
        (λ other. inl (λ there. absurd (other there)))
    by l OfDotted its h =
        by_number l.at at
        (λ there. elim (before_or_after old at table new k (table_of l)
        (subst (λ (n : ℕ). HasTableAt old.dotted n (table_of l)) there h.there)) [
          | inl within ↦ inl (λ same. (its, subst (IsAtOrBelow (table_of l)) table_is within))
          | inr below ↦ inr (
            there,
            ahead_by OfDotted OfDotted first l its
                (subst (λ (p : List Part). is_below p (table_of l) ≡ true) table_is below),
          )
        ])
        (λ other. inl (λ there. absurd (other there)))
    by l WithHeader its h =
        by_number l.at at (λ there. inr (there, ahead_by OfDotted WithHeader first l its refl))
        (λ other. inl (λ there. absurd (other there)))

-- one with a header, before those that are appended
pub header_ahead : (old : AddedLines) (changes : List TextChange) (x : Outline) (first table : List Part) (at : ℕ)
    (is_at_end : Bool) (new : AddedLines) → outlined x ≡ law.insert first no_value → table ≡ without_last first
    → (is_at_end ≡ false → PassesHeaderAt old at) → list_any (takes_up_to at) changes ≡ false
    → IsHeaderKept old at table new → IsKeptAhead old changes x at (Some WithHeader) is_at_end new
header_ahead old changes x first table at is_at_end new is table_is passed clear k = record {
  passed = passed;
  clear = clear;
  first = first;
  is = is;
  kind = WithHeader;
  line_is = refl;
  lets = header_lets old at table new k first table_is;
  after = λ l known. inl (header_after old at table new k first table_is l known);
  here = header_here old at table new k first table_is;
  others = header_others old at table new k;
  headers = headers_stay old new k.brought.more;
  brought = brought_more old at table new k x first is;
  follower = k.follower;
  counts = header_counted_more old at table new k x first is;
  tables = tables_still old new k.brought.more;
}

-- ---- no line

-- where the edit adds none, and appends no header
pub none_kept : (added : AddedLines) (changes : List TextChange) (x : Outline) (at : ℕ) (line : Option LineKind)
    → ((first : List Part) (kind : LineKind) → outlined x ≡ law.insert first no_value → line ≡ Some kind → ⊥)
    → runs.is_header (outlined x) ≡ false → IsLineKept added changes x at line added
none_kept added changes x at line none headless = record {
  others = λ l known. known;
  headers = λ e known. known;
  own = λ first kind is its. absurd (none first kind is its);
  brought = λ n table is. inl is;
  follower = refl;
  counts = none_counted added x at line none headless;
  tables = λ table has. has;
  passes = λ l known. no_header (outlined x) headless l;
  header = unheaded added (outlined x) headless;
}

-- where it appends one
pub appended_kept : (old : AddedLines) (changes : List TextChange) (x : Outline) (at : ℕ) (line : Option LineKind)
    (keys : List (List ℕ)) (new : AddedLines) → AppendsHeader keys (outlined x) → IsAppendedKept old keys new
    → IsLineKept old changes x at line new
appended_kept old changes x at line keys new appends k = record {
  others = known_still old new (ends_same old new ends_are)
      (dotted_same old.dotted new.dotted (ap (λ (a : AddedLines). a.dotted) k.rest)) (λ n q h. brought_are n ∙ h)
      (λ q. subst (λ tables. HasTable (record old { tables = tables }) q)
      (sym (ap (λ (a : AddedLines). a.tables) k.rest))) k.appends.more;
  headers = headers_stay old new k.appends.more;
  own = λ first kind is its. absurd (no_insert appends is);
  brought = λ n table is. inl (sym (brought_are n) ∙ is);
  follower = ap (λ (a : AddedLines). a.has_follower) k.rest;
  counts = header_counted old x at line new (λ first is. no_insert appends is) (is_one appends)
      (ap (λ (a : AddedLines). a.dotted) k.rest) ends_are
      (ap (λ (a : AddedLines). a.headed) k.rest) k.one;
  tables = tables_still old new k.appends.more;
  passes = λ l known. by l appends (λ headed. header_differs old.headers keys (table_of l)
      (with_header old l known headed).1.1 k.appends.other);
  header = by_header appends;
}
  where
    ends_are : new.ends ≡ old.ends
    ends_are = ap (λ (a : AddedLines). a.ends) k.rest

    brought_are : (n : ℕ) → brought_at new n ≡ brought_at old n
    brought_are n = ap (λ (a : AddedLines). brought_at a n) k.rest

    no_insert : {first : List Part} → AppendsHeader keys (outlined x) → outlined x ≡ law.insert first no_value → ⊥
    no_insert (inl table) is = absurd cc
    no_insert (inr element) is = absurd cc

    is_one : AppendsHeader keys (outlined x) → runs.is_header (outlined x) ≡ true
    is_one (inl table) = ap runs.is_header table
    is_one (inr element) = ap runs.is_header element

    by : (l : Added) → AppendsHeader keys (outlined x) → IsNoSecond keys l → IsNoSecondOf l (outlined x)
    by l (inl table) its = subst (IsNoSecondOf l) (sym table) its
    by l (inr element) its = subst (IsNoSecondOf l) (sym element) its

    by_header : AppendsHeader keys (outlined x) → IsHeaderKnown new (outlined x)
    by_header (inl table) = subst (IsHeaderKnown new) (sym table) k.appends.here
    by_header (inr element) = subst (IsHeaderKnown new) (sym element) k.appends.here

-- ---- what a map of numbers keeps

-- what holds at each number that is not told to be one holds at each other
pub others_by : (at : ℕ) (P : ℕ → Type 0) → ((q : ℕ) → (at == q) ≡ false → P q) → (n : ℕ) → n ≢ at → P n
others_by at P holds n differs = by (at == n) refl
  where
    by : (b : Bool) → (at == n) ≡ b → P n
    by false e = holds n e
    by true e = absurd (differs (sym (eqb-true at n e)))
