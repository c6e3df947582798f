-- The last line that passes a test of keyvals, once a table or an element went with its header: it is still the last,
-- its number is known, and the body that it is in is the same.
--
-- The test passes keyvals alone (`IsOfKeyvals`), asks of the reading for its body alone (`AsksBodies`), and passes no
-- line in a body at the changed path or below it (`PassesNoneBelow`). So no line of the table or the element passes, as
-- its header is no keyval (`none_taken`). After it no keyval comes before the next header, and from there on a body
-- is where it was, or it was at the changed path or below it and still is (`goes_near` of TakenSearch). So the same
-- lines pass, in the same bodies (`each_alike`). The last one is either before the header, at the same number, or after
-- the body, at a number that is less by the lines that went (`found_now`).
--
-- Theorems: `found_now`; `same_after`: the last one after the body.
use Rattle.std.proofs.Common.{◌≡◌, ℕ, zero, suc, ◌+◌, ◌<◌, ◌≤◌, Bool, true, false, List, [], ◌∷◌, ◌++◌, length, map}
use Rattle.std.proofs.Common.{take, refl, sym, ap, ap₂, subst, ◌∙◌, length-append, arith, Option, Some, None, ◌⊎◌, inl}
use Rattle.std.proofs.Common.{inr}
use Rattle.std.specs.Prelude.{⊤}
use Rattle.std.proofs.lemmas.List.{length-map}
use Rattle.keep_types.specs.declared.leaf.Profile.{Profile}
use Rattle.keep_syntax.specs.Tree.{Content, Document, Gap, Line, Written, blank, element, header, keyval}
use Rattle.keep_path.specs.Path.{Part}
use Rattle.keep_meaning.specs.Marks.{Reading, start}
use Rattle.keep_meaning.specs.Meaning.{after_line, line_of, lines, reading_after_lines}
use Rattle.keep_edit_spec.specs.ElementRuns.{changed_path}
use Rattle.keep_edit_spec.specs.Laws.{IsEditable}
use Rattle.keep_edit_spec.specs.Lines.{body_length, last_line, more_lines, reading_at}
use Rattle.keep_edit_spec.specs.RemovedHeaders.{RemovesHeader}
use Rattle.keep_edit_spec.specs.TextChanges.{TextChange}
use Rattle.keep_edit_spec.proofs.Common.BodyEnd.{IsLast, last_found}
use Rattle.keep_edit_spec.proofs.Common.HeadersGo.{Goes}
use Rattle.keep_edit_spec.proofs.Common.LineLaws.{Reaches}
use Rattle.keep_edit_spec.proofs.Lists.HeaderLines.{last_before, not_last}
use Rattle.keep_edit_spec.proofs.Lists.LinesAfterBody.{Test}
use Rattle.keep_edit_spec.proofs.Lists.RemovedOwn.{last_or}
use Rattle.keep_edit_spec.proofs.Lists.SectionAt.{IsSectionAt}
use Rattle.keep_edit_spec.proofs.Lists.SectionsApart as sections
use Rattle.keep_edit_spec.proofs.Lists.SectionsApart.{body_keeps, body_taken, is_head, more_none, take_few}
use Rattle.keep_edit_spec.proofs.Lists.TakenGone as gone
use Rattle.keep_edit_spec.proofs.Lists.TakenSearch as search
use Rattle.keep_edit_spec.proofs.Lists.TakenSearch.{AreNear, NearOrNone, is_keyval, next_by, no_keyval, none_first}

-- keyvals alone pass
abbrev pub IsOfKeyvals : Test → Type 0
IsOfKeyvals test = (r : Reading) (l : Line) → is_keyval l.content ≡ false → test r l ≡ false

-- of the reading the body alone counts
abbrev pub AsksBodies : Test → Type 0
AsksBodies test = (r u : Reading) (l : Line) → r.body ≡ u.body → test r l ≡ test u l

-- in a body at the path or below it no line passes
abbrev pub PassesNoneBelow : List Part → Test → Type 0
PassesNoneBelow zone test = (r : Reading) (l : Line) → Reaches zone r.body → test r l ≡ false

-- ---- the last line that passes

one_number : (i j : ℕ) → Some i ≡ Some j → i ≡ j
one_number i j e = cc

-- the reading before a line behind the first ones
reading_past : (r : Reading) (first more : List Line) (k m : ℕ) → k ≡ length first + m
    → reading_after_lines r (take k (first ++ more)) ≡ reading_after_lines (reading_after_lines r first) (take m more)
reading_past r [] more k m is =
    let same : k ≡ m = omega (arith, is) in ap (λ (i : ℕ). reading_after_lines r (take i more)) same
reading_past r (x ∷ first) more zero m is = absurd (let h : 0 ≡ suc (length first) + m = is in omega (arith, h))
reading_past r (x ∷ first) more (suc k) m is =
    let h : suc k ≡ suc (length first) + m = is in reading_past (after_line r x) first more k m (omega (arith, h))

module _ (test : Test) where
  -- where a later one passes
  last_past : (r : Reading) (first more : List Line) (m : ℕ)
      → last_line test (reading_after_lines r first) more ≡ Some m
      → last_line test r (first ++ more) ≡ Some (length first + m)
  last_past r [] more m e =
      e ∙ ap (λ (i : ℕ). Some i) (let same : m ≡ 0 + m = omega arith in same)
  last_past r (l ∷ first) more m e =
      let same : suc (length first + m) ≡ suc (length first) + m = omega arith in
      ap (last_or (test r l)) (last_past (after_line r l) first more m e) ∙ ap (λ (i : ℕ). Some i) same

  last_few : (r : Reading) (ls : List Line) (i : ℕ) → last_line test r ls ≡ Some i → i < length ls
  last_few r ls i e =
      let f : IsLast test r ls i = last_found test r ls i e in
      omega (arith, f.number, ap (λ (l : List Line). length l) f.was, length-append f.pre (f.here ∷ f.post))

  -- none of a body's lines passes
  none_by : (r : Reading) → ((l : Line) → test r l ≡ false) → (before after : Gap) (comment : Option Written)
      (c : Content) (ls : List Line) → last_line test r (take (body_length ls) ls) ≡ None
      → (let l : Line = record { before = before; content = c; after = after; comment = comment } in
      last_line test r (take (body_length (l ∷ ls)) (l ∷ ls)) ≡ None)
  none_by r misses before after comment blank ls more = by (body_length ls) more
    where
      by : (k : ℕ) → last_line test r (take k ls) ≡ None
          → last_line test r (take (more_lines false k)
          (record { before = before; content = blank; after = after; comment = comment } ∷ ls)) ≡ None
      by zero e = refl
      by (suc m) e =
          ap₂ last_or (misses (record { before = before; content = blank; after = after; comment = comment })) e
  none_by r misses before after comment (keyval name v) ls more =
      ap₂ last_or
      (misses (record { before = before; content = keyval name v; after = after; comment = comment })) more
  none_by r misses before after comment (header x k y) ls more = refl
  none_by r misses before after comment (element x k y) ls more = refl

  none_in_body : (r : Reading) → ((l : Line) → test r l ≡ false) → (ls : List Line)
      → last_line test r (take (body_length ls) ls) ≡ None
  none_in_body r misses [] = refl
  none_in_body r misses (l ∷ ls) =
      none_by r misses l.before l.after l.comment l.content ls (none_in_body r misses ls)

  -- ---- lines that are read twice

  -- the same ones pass, in the same bodies
  abbrev AreAlikeLines : Reading → Reading → List Line → Type 0
  AreAlikeLines r u [] = ⊤
  AreAlikeLines r u (l ∷ ls) =
      ((test u l ≡ test r l) × (test r l ≡ true → u.body ≡ r.body))
      × AreAlikeLines (after_line r l) (after_line u l) ls

  last_alike : (r u : Reading) (ls : List Line) → AreAlikeLines r u ls → last_line test u ls ≡ last_line test r ls
  last_alike r u [] h = refl
  last_alike r u (l ∷ ls) h = ap₂ last_or h.0.0 (last_alike (after_line r l) (after_line u l) ls h.1)

  abbrev SameBodyAt : Reading → Reading → List Line → ℕ → Type 0
  SameBodyAt r u ls k = (reading_after_lines u (take k ls)).body ≡ (reading_after_lines r (take k ls)).body

  body_alike : (r u : Reading) (ls : List Line) (m : ℕ) → AreAlikeLines r u ls → last_line test r ls ≡ Some m
      → SameBodyAt r u ls m
  body_alike r u [] m h e = absurd cc
  body_alike r u (l ∷ ls) m h e =
      by (last_line test (after_line r l) ls) (test r l)
      (λ k f. body_alike (after_line r l) (after_line u l) ls k h.1 f) h.0.1 e
    where
      by : (o : Option ℕ) (b : Bool) → ((k : ℕ) → o ≡ Some k → SameBodyAt (after_line r l) (after_line u l) ls k)
          → (b ≡ true → u.body ≡ r.body) → last_or b o ≡ Some m → SameBodyAt r u (l ∷ ls) m
      by (Some k) b later here is =
          subst (SameBodyAt r u (l ∷ ls)) (let same : suc k ≡ m = cc in same) (later k refl)
      by None true later here is = subst (SameBodyAt r u (l ∷ ls)) (let same : 0 ≡ m = cc in same) (here refl)
      by None false later here is = absurd cc

  -- ---- where each header's path goes

  module _ (zone : List Part) (D : List Part → Type 0) (f : List Part → List Part)
      (near : (q : List Part) → D q → AreNear zone q (f q)) (only : IsOfKeyvals test) (asks : AsksBodies test)
      (below : PassesNoneBelow zone test) where
    near_alike : (r u : Reading) (l : Line) → AreNear zone r.body u.body
        → (test u l ≡ test r l) × (test r l ≡ true → u.body ≡ r.body)
    near_alike r u l (inl same) = (asks u r l (sym same), (λ t. sym same))
    near_alike r u l (inr (was, is)) =
        let fails : test r l ≡ false = below r l was in (below u l is ∙ sym fails, (λ t. absurd cc))

    line_alike : (r u : Reading) (l : Line) (ls : List Line) → NearOrNone zone r u (l ∷ ls)
        → (test u l ≡ test r l) × (test r l ≡ true → u.body ≡ r.body)
    line_alike r u l ls (inl n) = near_alike r u l n
    line_alike r u l ls (inr none) =
        let no : is_keyval l.content ≡ false = none_first l.before l.after l.comment l.content ls none in
        let fails : test r l ≡ false = only r l no in (only u l no ∙ sym fails, (λ t. absurd cc))

    each_alike : (r u : Reading) (ls : List Line) → Goes D f r u ls → NearOrNone zone r u ls → AreAlikeLines r u ls
    each_alike r u [] h from = tt
    each_alike r u (l ∷ ls) h from = (
      line_alike r u l ls from,
      each_alike (after_line r l) (after_line u l) ls h.1
          (next_by zone D f near r u l.before l.after l.comment l.content ls h.0 from),
    )

-- ---- the document without the table or the element

-- Its number is the same, or less by so many lines.
pub record IsFoundStill (s now : Document) (test : Test) (n gone was : ℕ) : Type 0 where
  pub number : ℕ
  pub last : last_line test start (lines now) ≡ Some number
  pub body : (reading_at number (lines now)).body ≡ (reading_at was (lines s)).body
  pub place : ((number < n) × (was ≡ number)) ⊎ ((n ≤ number) × (was ≡ number + gone))

module _ (profile : Profile) (limit : ℕ) (s : Document) (path : List Part) (c : TextChange)
    (fine : IsEditable profile limit s) (h : RemovesHeader profile limit s path c)
    (test : Test) (only : IsOfKeyvals test) (asks : AsksBodies test)
    (below : PassesNoneBelow (changed_path path) test) where
  abbrev at : IsSectionAt s path
  at = gone.at profile limit s path c fine h

  abbrev now : Document
  now = gone.now profile limit s path c fine h

  -- the number of its header, and of its lines
  abbrev head : ℕ
  head = gone.n profile limit s path c fine h

  abbrev count : ℕ
  count = gone.gone profile limit s path c fine h

  abbrev pre : List Line
  pre = gone.before profile limit s path c fine h

  abbrev taken : List Line
  taken = gone.taken_lines profile limit s path c fine h

  abbrev rest : List Line
  rest = sections.more s path at

  -- the reading before the header, and that in the body
  abbrev x : Reading
  x = search.x profile limit s path c fine h

  abbrev u : Reading
  u = search.u profile limit s path c fine h

  were : lines s ≡ pre ++ (taken ++ rest)
  were = gone.lines_were profile limit s path c fine h

  are : lines now ≡ pre ++ rest
  are = gone.lines_are profile limit s path c fine h

  reading_taken : reading_after_lines x taken ≡ u
  reading_taken = search.section_read profile limit s path c fine h

  misses : (l : Line) → test u l ≡ false
  misses l = below u l (search.own_in profile limit s path c fine h)

  none_taken : last_line test x taken ≡ None
  none_taken =
      not_last test x at.head.line (map line_of at.body)
      (only x at.head.line (no_keyval at.head.line.content (is_head s path at)))
      (ap (last_line test u) (sym (body_taken s path at)) ∙ none_in_body test u misses (sections.after s path at))

  -- the lines after it, read with it or without
  rest_alike : AreAlikeLines test u x rest
  rest_alike =
      each_alike test (changed_path path) (gone.stays profile limit s path c fine h)
      (gone.goes profile limit s path c fine h) (search.goes_near profile limit s path c fine h) only asks below u x
      rest (gone.behind profile limit s path c fine h) (inr (more_none s path at))

  pub same_after : last_line test (reading_after_lines x taken) rest ≡ last_line test x rest
  same_after =
      ap (λ (z : Reading). last_line test z rest) reading_taken ∙ sym (last_alike test u x rest rest_alike)

  module _ (was : ℕ) (passed : last_line test start (lines s) ≡ Some was) where
    found : last_line test start (pre ++ (taken ++ rest)) ≡ Some was
    found = ap (last_line test start) (sym were) ∙ passed

    before_is : length pre ≡ length at.first
    before_is = length-map at.first line_of

    -- no later one passes
    from_before : last_line test x rest ≡ None → IsFoundStill s now test head count was
    from_before none =
        let early : last_line test start pre ≡ Some was =
        sym (last_before test start pre (taken ++ rest)
        (last_before test x taken rest (same_after ∙ none) ∙ none_taken)) ∙ found in
        let few : was < length pre = last_few test start pre was early in
        record {
          number = was;
          last = ap (last_line test start) are ∙ last_before test start pre rest none ∙ early;
          body = ap (λ (r : Reading). r.body) (ap (reading_at was) are
              ∙ ap (reading_after_lines start) (take_few was pre rest (taken ++ rest) (omega (arith, few)))
              ∙ ap (reading_at was) (sym were));
          place = inl (omega (arith, before_is, few), refl);
        }

    from_after : (m : ℕ) → last_line test x rest ≡ Some m → IsFoundStill s now test head count was
    from_after m e =
        let passes : last_line test u rest ≡ Some m = sym (last_alike test u x rest rest_alike) ∙ e in
        let same : was ≡ length pre + (length taken + m) =
        one_number was (length pre + (length taken + m))
        (sym found ∙ last_past test start pre (taken ++ rest) (length taken + m)
        (last_past test x taken rest m (same_after ∙ e))) in
        let with_it : reading_after_lines u (take m rest) ≡ reading_at was (lines s) =
        ap (λ (z : Reading). reading_after_lines z (take m rest)) (sym reading_taken)
        ∙ sym (reading_past x taken rest (length taken + m) m refl)
        ∙ sym (reading_past start pre (taken ++ rest) was (length taken + m) same)
        ∙ ap (reading_at was) (sym were) in
        record {
          number = length pre + m;
          last = ap (last_line test start) are ∙ last_past test start pre rest m e;
          body = ap (λ (r : Reading). r.body) (ap (reading_at (length pre + m)) are
              ∙ reading_past start pre rest (length pre + m) m refl)
              ∙ body_alike test u x rest m rest_alike passes
              ∙ ap (λ (r : Reading). r.body) with_it;
          place = inr (
            omega (arith, before_is),
            omega (arith, same, length-map at.body line_of),
          );
        }

    pub found_now : IsFoundStill s now test head count was
    found_now = by (last_line test x rest) refl
      where
        by : (o : Option ℕ) → last_line test x rest ≡ o → IsFoundStill s now test head count was
        by None e = from_before e
        by (Some m) e = from_after m e
