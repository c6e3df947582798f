-- What is found in the lines of a document once there are new ones where the body of a header ends.
--
-- A test may pass in headers alone, and a test may ask for the reading's body at keyvals alone (`IsBodiless`). After
-- the end of a body no keyval comes before the next header, so behind the new lines the last one that passes is as
-- before, if the new ones leave the tables of the reading as they are (`same_after`). No header is in a body
-- (`none_in_body`). So if the new lines pass only if that header does, the last one that passes is the same, if it was
-- not that header: one before it, or one behind the new lines and later by these (`last_comes`). The body of a header
-- before that one ends before it, as it did, and that of one behind the new lines ends later by these. If it was that
-- header, and the new lines neither pass nor are in its body, it is the last still, and its body ends before them
-- (`last_here`). And if none of the new lines passes a test, the last one that does is the same (`last_stays`).
--
-- Theorems: `bodiless_begins`, `bodiless_through`, `bodiless_dotted`, `bodiless_own`, `same_after`, `none_after`,
-- `last_stays`; `last_comes`, `last_here`; `last_behind`, `drop_behind`: behind some lines; `none_in_body`.
use Rattle.std.proofs.Common.{◌≡◌, ℕ, zero, suc, ◌+◌, ◌<◌, ◌≤◌, Bool, true, false, List, [], ◌∷◌, ◌++◌, length}
use Rattle.std.proofs.Common.{drop, refl, sym, ap, ap₂, ◌∙◌, append_assoc, length-append, arith, Option, Some, None}
use Rattle.std.proofs.Common.{◌⊎◌, inl, inr}
use Rattle.std.proofs.lemmas.List.{drop-append-le, length-drop}
use Rattle.keep_syntax.specs.Tree.{Written, Gap, Key, Content, blank, keyval, header, element, Line}
use Rattle.keep_path.specs.Path.{Part}
use Rattle.keep_meaning.specs.Marks.{Reading, start}
use Rattle.keep_meaning.specs.Meaning.{after_line, reading_after_lines}
use Rattle.keep_edit_spec.specs.Edits.{is_own}
use Rattle.keep_edit_spec.specs.Lines.{begins, body_end, body_length, is_header, last_line, leads_dotted, leads_through}
use Rattle.keep_edit_spec.specs.Lines.{more_lines}
use Rattle.keep_edit_spec.proofs.Common.BodyEnd.{IsLast, last_found}
use Rattle.keep_edit_spec.proofs.Lists.BodyEnds.{drop_none, earlier_end, header_few, header_none, header_same}
use Rattle.keep_edit_spec.proofs.Lists.BodyEnds.{length_after}
use Rattle.keep_edit_spec.proofs.Lists.HeaderLines.{last_before}
use Rattle.keep_edit_spec.proofs.Lists.RemovedOwn.{last_or}

abbrev pub Test : Type 0
Test = Reading → Line → Bool

-- ---- the last line among more lines behind

-- one of those behind
pub last_behind : (test : Test) (r : Reading) (first more : List Line) (k : ℕ)
    → last_line test (reading_after_lines r first) more ≡ Some k
    → last_line test r (first ++ more) ≡ Some (length first + k)
last_behind test r [] more k h = h ∙ ap (λ (m : ℕ). Some m) (let same : k ≡ 0 + k = omega arith in same)
last_behind test r (l ∷ first) more k h =
    ap (last_or (test r l)) (last_behind test (after_line r l) first more k h)
    ∙ ap (λ (m : ℕ). Some m)
    (let same : suc (length first + k) ≡ suc (length first) + k = omega arith in same)

pub drop_behind : (first more : List Line) (k : ℕ) → drop (length first + k) (first ++ more) ≡ drop k more
drop_behind [] more k = ap (λ (m : ℕ). drop m more) (let same : 0 + k ≡ k = omega arith in same)
drop_behind (l ∷ first) more k =
    ap (λ (m : ℕ). drop m (l ∷ (first ++ more)))
    (let same : suc (length first) + k ≡ suc (length first + k) = omega arith in same)
    ∙ drop_behind first more k

-- ---- tests that ask for the body at keyvals alone

-- seen in these tables, in either body
abbrev Alike : Test → Line → Type 0
Alike test l =
    (t : List (List Part)) (a b : List Part)
    → test (record { tables = t; body = a }) l ≡ test (record { tables = t; body = b }) l

abbrev pub IsBodiless : Test → Type 0
IsBodiless test =
    (before after : Gap) (comment : Option Written)
    → Alike test (record { before = before; content = blank; after = after; comment = comment })
    × ((x y : Gap) (k : Key)
    → Alike test (record { before = before; content = header x k y; after = after; comment = comment })
    × Alike test (record { before = before; content = element x k y; after = after; comment = comment }))

pub bodiless_begins : (path : List Part) → IsBodiless (begins path)
bodiless_begins path before after comment = ((λ t a b. refl), λ x y k. ((λ t a b. refl), λ t a b. refl))

pub bodiless_through : (path : List Part) → IsBodiless (leads_through path)
bodiless_through path before after comment = ((λ t a b. refl), λ x y k. ((λ t a b. refl), λ t a b. refl))

pub bodiless_dotted : (path : List Part) → IsBodiless (leads_dotted path)
bodiless_dotted path before after comment = ((λ t a b. refl), λ x y k. ((λ t a b. refl), λ t a b. refl))

pub bodiless_own : (path : List Part) → IsBodiless (λ r l. is_own path r l.content)
bodiless_own path before after comment = ((λ t a b. refl), λ x y k. ((λ t a b. refl), λ t a b. refl))

module _ (test : Test) (bodiless : IsBodiless test) (t : List (List Part)) (a b : List Part) where
  abbrev in_a : Reading
  in_a = record { tables = t; body = a }

  abbrev in_b : Reading
  in_b = record { tables = t; body = b }

  same_by : (before after : Gap) (comment : Option Written) (c : Content) (ls : List Line)
      → last_line test in_a (drop (body_length ls) ls) ≡ last_line test in_b (drop (body_length ls) ls)
      → (let l : Line = record { before = before; content = c; after = after; comment = comment } in
      last_line test in_a (drop (body_length (l ∷ ls)) (l ∷ ls))
      ≡ last_line test in_b (drop (body_length (l ∷ ls)) (l ∷ ls)))
  same_by before after comment blank ls more = by (body_length ls) more
    where
      l : Line
      l = record { before = before; content = blank; after = after; comment = comment }

      by : (k : ℕ) → last_line test in_a (drop k ls) ≡ last_line test in_b (drop k ls)
          → last_line test in_a (drop (more_lines false k) (l ∷ ls))
          ≡ last_line test in_b (drop (more_lines false k) (l ∷ ls))
      by zero h =
          ap₂ last_or ((bodiless before after comment).0 t a b)
          (ap (last_line test in_a) (sym (drop_none ls)) ∙ h ∙ ap (last_line test in_b) (drop_none ls))
      by (suc k) h = h
  same_by before after comment (keyval name v) ls more = more
  same_by before after comment (header x k y) ls more =
      ap (λ (o : Bool). last_or o (last_line test (after_line in_a
      (record { before = before; content = header x k y; after = after; comment = comment })) ls))
      (((bodiless before after comment).1 x y k).0 t a b)
  same_by before after comment (element x k y) ls more =
      ap (λ (o : Bool). last_or o (last_line test (after_line in_a
      (record { before = before; content = element x k y; after = after; comment = comment })) ls))
      (((bodiless before after comment).1 x y k).1 t a b)

  pub same_after : (ls : List Line)
      → last_line test in_a (drop (body_length ls) ls) ≡ last_line test in_b (drop (body_length ls) ls)
  same_after [] = refl
  same_after (l ∷ ls) = same_by l.before l.after l.comment l.content ls (same_after ls)

-- ---- no header is in a body

pub none_in_body : (test : Test) → ((r : Reading) (l : Line) → test r l ≡ true → is_header l.content ≡ true)
    → (r : Reading) (ls more : List Line) → body_length (ls ++ more) ≡ length ls → last_line test r ls ≡ None
none_in_body test heads r [] more h = refl
none_in_body test heads r (l ∷ ls) more h =
    by (test r l) refl
    (none_in_body test heads (after_line r l) ls more (earlier_end l.content (body_length (ls ++ more)) (length ls) h))
  where
    by : (b : Bool) → test r l ≡ b → last_line test (after_line r l) ls ≡ None → last_line test r (l ∷ ls) ≡ None
    by false e none = ap₂ last_or e none
    by true e none =
        let all : suc (length ls) ≡ 0 = sym h ∙ header_none l.content (body_length (ls ++ more)) (heads r l e) in
        absurd (omega (arith, all))

-- ---- lines that are all of their body

-- still, before other lines that are in no body
body_stays : (ls more other : List Line) → body_length (ls ++ more) ≡ length ls → body_length other ≡ 0
    → body_length (ls ++ other) ≡ length ls
body_stays [] more other h none = none
body_stays (l ∷ ls) more other h none =
    let was : body_length (ls ++ more) ≡ length ls =
    earlier_end l.content (body_length (ls ++ more)) (length ls) h in
    ap (length_after l.content) (body_stays ls more other was none ∙ sym was) ∙ h

-- ---- new lines where the body of a header ends

-- The last line that passes now, where line j was the last: it has that number if it comes before line n, and else it
-- is so many lines later.
pub record IsLastNow (test : Test) (now : List Line) (n more j : ℕ) : Type 0 where
  pub number : ℕ
  pub last : last_line test start now ≡ Some number
  pub moves : ((number ≡ j) × (j < n)) ⊎ ((number ≡ more + j) × (n ≤ j))

-- and where the body ends that it begins
pub record IsStillLast (test : Test) (was now : List Line) (n more j : ℕ) : Type 0 where
  pub number : ℕ
  pub last : last_line test start now ≡ Some number
  pub moves : ((number ≡ j) × (j < n)) ⊎ ((number ≡ more + j) × (n ≤ j))
  pub ends : ((body_end number now ≡ body_end j was) × (body_end j was < n))
      ⊎ ((body_end number now ≡ more + body_end j was) × (n ≤ body_end j was))

-- Line j is still the last that passes, and the body that it begins ends before the new lines, which begin at line n.
pub record IsLastBefore (test : Test) (now : List Line) (n j : ℕ) : Type 0 where
  pub last : last_line test start now ≡ Some j
  pub less : j < n
  pub ends : body_end j now ≡ n

module _ (test : Test) (pre : List Line) (here : Line) (body rest new : List Line) where
  abbrev pub first : List Line
  first = pre ++ here ∷ body

  abbrev pub was : List Line
  was = first ++ rest

  abbrev pub now : List Line
  now = first ++ (new ++ rest)

  abbrev r : Reading
  r = reading_after_lines start first

  abbrev to : Reading
  to = reading_after_lines r new

  -- where none passes
  pub none_after : last_line test start was ≡ None → last_line test r new ≡ None
      → last_line test to rest ≡ last_line test r rest → last_line test start now ≡ None
  none_after none fails same = by (last_line test r rest) refl
    where
      by : (o : Option ℕ) → last_line test r rest ≡ o → last_line test start now ≡ None
      by None e =
          let all : last_line test r (new ++ rest) ≡ None = last_before test r new rest (same ∙ e) ∙ fails in
          last_before test start first (new ++ rest) all
          ∙ sym (last_before test start first rest e) ∙ none
      by (Some k) e =
          let no : None ≡ Some (length first + k) = sym none ∙ last_behind test start first rest k e in
          absurd cc

  -- where none of the new ones passes
  pub last_stays : (j : ℕ) → last_line test start was ≡ Some j → last_line test r new ≡ None
      → last_line test to rest ≡ last_line test r rest → IsLastNow test now (length first) (length new) j
  last_stays j last fails same = by (last_line test r rest) refl
    where
      by : (o : Option ℕ) → last_line test r rest ≡ o → IsLastNow test now (length first) (length new) j
      by (Some k) e =
          let m : ℕ = length new + k in
          let both : Some j ≡ Some (length first + k) = sym last ∙ last_behind test start first rest k e in
          let number : j ≡ length first + k = cc in
          record {
            number = length first + m;
            last = last_behind test start first (new ++ rest) m (last_behind test r new rest k (same ∙ e));
            moves = inr (omega (arith, number), omega (arith, number));
          }
      by None e =
          let before : last_line test start first ≡ Some j = sym (last_before test start first rest e) ∙ last in
          let f : IsLast test start first j = last_found test start first j before in
          record {
            number = j;
            last = last_before test start first (new ++ rest) (last_before test r new rest (same ∙ e) ∙ fails)
                ∙ before;
            moves = inl (
              refl,
              omega (
                arith,
                f.number,
                ap (λ (ls : List Line). length ls) f.was,
                length-append f.pre (f.here ∷ f.post),
              ),
            );
          }

  module _ (heads : (r : Reading) (l : Line) → test r l ≡ true → is_header l.content ≡ true)
      (is : is_header here.content ≡ true) (ends : body_length (body ++ rest) ≡ length body)
      (same : last_line test to rest ≡ last_line test r rest) where
    abbrev at : Reading
    at = reading_after_lines start pre

    in_header : test at here ≡ true → last_line test start first ≡ Some (length pre)
    in_header passes =
        last_behind test start pre (here ∷ body) 0
        (ap₂ last_or passes (none_in_body test heads (after_line at here) body rest ends))
        ∙ ap (λ (m : ℕ). Some m) (let same : length pre + 0 ≡ length pre = omega arith in same)

    before_header : test at here ≡ false → last_line test start first ≡ last_line test start pre
    before_header fails =
        last_before test start pre (here ∷ body)
        (ap₂ last_or fails (none_in_body test heads (after_line at here) body rest ends))

    whole : (more : List Line) → first ++ more ≡ pre ++ here ∷ (body ++ more)
    whole more = append_assoc pre (here ∷ body) more

    -- the body of this header ends where the new lines come
    own_end : (more : List Line) → body_length (body ++ more) ≡ length body
        → body_end (length pre) (first ++ more) ≡ length first
    own_end more all =
        let next : suc (length pre) ≡ length pre + 1 = omega arith in
        let after : drop (suc (length pre)) (first ++ more) ≡ body ++ more =
        ap₂ (λ (m : ℕ) (ls : List Line). drop m ls) next (whole more) ∙ drop_behind pre (here ∷ (body ++ more)) 1
        ∙ drop_none (body ++ more) in
        omega (arith, ap body_length after, all, length-append pre (here ∷ body))

    -- the body of a header before this one
    module _ (j : ℕ) (less : j < length pre) where
      abbrev between : List Line
      between = drop (suc j) pre

      after_j : (more : List Line) → drop (suc j) (pre ++ here ∷ more) ≡ between ++ here ∷ more
      after_j more = drop-append-le (suc j) pre (here ∷ more) (omega (arith, less))

      before_same : body_end j now ≡ body_end j was
      before_same =
          ap (λ (m : ℕ). suc j + m)
          (ap (λ (ls : List Line). body_length (drop (suc j) ls)) (whole (new ++ rest))
          ∙ ap body_length (after_j (body ++ (new ++ rest)))
          ∙ header_same between here (body ++ (new ++ rest)) (body ++ rest) is
          ∙ ap body_length (sym (after_j (body ++ rest)))
          ∙ ap (λ (ls : List Line). body_length (drop (suc j) ls)) (sym (whole rest)))

      before_less : body_end j was < length first
      before_less =
          omega (
            arith,
            less,
            ap (λ (ls : List Line). body_length (drop (suc j) ls)) (whole rest),
            ap body_length (after_j (body ++ rest)),
            header_few between here (body ++ rest) is,
            length-drop (suc j) pre,
            length-append pre (here ∷ body),
          )

    -- no line behind passes
    module _ (j : ℕ) (last : last_line test start was ≡ Some j) (e : last_line test r rest ≡ None) where
      before : last_line test start first ≡ Some j
      before = sym (last_before test start first rest e) ∙ last

      is_here : test at here ≡ true → length pre ≡ j
      is_here passes = (let both : Some (length pre) ≡ Some j = sym (in_header passes) ∙ before in cc)

      is_earlier : test at here ≡ false → j < length pre
      is_earlier fails =
          let f : IsLast test start pre j = last_found test start pre j (sym (before_header fails) ∙ before) in
          omega (arith, f.number, ap (λ (ls : List Line). length ls) f.was, length-append f.pre (f.here ∷ f.post))

      stays : last_line test r new ≡ None → last_line test start now ≡ Some j
      stays quiet =
          last_before test start first (new ++ rest) (last_before test r new rest (same ∙ e) ∙ quiet) ∙ before

    pub last_comes : (test at here ≡ true) ⊎ (last_line test r new ≡ None) → (j : ℕ)
        → last_line test start was ≡ Some j → (body_end j was ≡ length first → ⊥)
        → IsStillLast test was now (length first) (length new) j
    last_comes only j last other = by (last_line test r rest) refl
      where
        behind : (k : ℕ) → last_line test r rest ≡ Some k → IsStillLast test was now (length first) (length new) j
        behind k e =
            let m : ℕ = length new + k in
            let number : j ≡ length first + k =
            (let both : Some j ≡ Some (length first + k) = sym last ∙ last_behind test start first rest k e in cc) in
            let at : suc j ≡ length first + suc k = omega (arith, number) in
            let later : suc (length first + m) ≡ length first + (length new + suc k) = omega arith in
            let was_rest : drop (suc j) was ≡ drop (suc k) rest =
            ap (λ (i : ℕ). drop i was) at ∙ drop_behind first rest (suc k) in
            let now_rest : drop (suc (length first + m)) now ≡ drop (suc k) rest =
            ap (λ (i : ℕ). drop i now) later ∙ drop_behind first (new ++ rest) (length new + suc k)
            ∙ drop_behind new rest (suc k) in
            record {
              number = length first + m;
              last = last_behind test start first (new ++ rest) m (last_behind test r new rest k (same ∙ e));
              moves = inr (omega (arith, number), omega (arith, number));
              ends = inr (
                omega (arith, number, ap body_length was_rest, ap body_length now_rest),
                omega (arith, number),
              );
            }

        not_here : last_line test r rest ≡ None → test at here ≡ true → ⊥
        not_here e passes =
            other (ap (λ (i : ℕ). body_end i was) (sym (is_here j last e passes)) ∙ own_end rest ends)

        found : last_line test r rest ≡ None → (b : Bool) → test at here ≡ b
            → IsStillLast test was now (length first) (length new) j
        found e true passes = absurd (not_here e passes)
        found e false fails =
            let less : j < length pre = is_earlier j last e fails in
            let quiet : last_line test r new ≡ None = elim only [
              | inl passes ↦ absurd (not_here e passes)
              | inr none ↦ none
            ] in
            record {
              number = j;
              last = stays j last e quiet;
              moves = inl (refl, omega (arith, less, length-append pre (here ∷ body)));
              ends = inl (before_same j less, before_less j less);
            }

        by : (o : Option ℕ) → last_line test r rest ≡ o → IsStillLast test was now (length first) (length new) j
        by (Some k) e = behind k e
        by None e = found e (test at here) refl

    -- where the last one that passes is this header
    pub last_here : (j : ℕ) → last_line test start was ≡ Some j → body_end j was ≡ length first
        → last_line test r new ≡ None → body_length (new ++ rest) ≡ 0 → IsLastBefore test now (length first) j
    last_here j last at_end quiet none = by (last_line test r rest) refl
      where
        found : last_line test r rest ≡ None → (b : Bool) → test at here ≡ b → IsLastBefore test now (length first) j
        found e false fails = absurd (omega (arith, at_end, before_less j (is_earlier j last e fails)))
        found e true passes =
            let number : length pre ≡ j = is_here j last e passes in
            record {
              last = stays j last e quiet;
              less = omega (arith, number, length-append pre (here ∷ body));
              ends = ap (λ (i : ℕ). body_end i now) (sym number)
                  ∙ own_end (new ++ rest) (body_stays body rest (new ++ rest) ends none);
            }

        by : (o : Option ℕ) → last_line test r rest ≡ o → IsLastBefore test now (length first) j
        by None e = found e (test at here) refl
        by (Some k) e =
            let both : Some j ≡ Some (length first + k) = sym last ∙ last_behind test start first rest k e in
            let number : j ≡ length first + k = cc in
            absurd (omega (arith, number, at_end))
