-- Lines that pass a test, and where bodies end, after an insert brought the header of its table.
--
-- The three new lines come where the body of a header ends (`were`, `are`), and the lines behind them are read in
-- another body, but none of those is a keyval before the next header (`behind_same`). So where none of the new lines
-- passes a test the last line that does is the same (`none_now`, `last_now`). Where the test passes in headers alone,
-- the body that this line begins ends where it did, if it did not end right where the new lines come (`still_last`),
-- and also if it did, since the new lines begin with an empty line and a header (`still_before`; all by
-- LinesAfterBody). Only the table's body is begun by the new header (`not_begun`). The text ends in a newline again
-- (`still_closed`).
--
-- Theorems: `were`, `are`, `behind_same`; `new_none`, `new_there`, `none_now`, `last_now`, `still_last`,
-- `still_before`; `not_begun`; `still_closed`.
use Rattle.std.proofs.Common.{◌≡◌, ◌≢◌, ℕ, Bool, true, false, List, [], ◌∷◌, ◌++◌, map, refl, sym, ap}
use Rattle.std.proofs.Common.{ap₂, subst, ◌∙◌, arith, None, Some, ◌⊎◌}
use Rattle.std.proofs.lemmas.List.{take-append-drop}
use Rattle.keep_types.specs.declared.leaf.Profile.{Profile}
use Rattle.keep_syntax.specs.Tree.{Document, Line, Value, blank, keyval, text}
use Rattle.keep_path.specs.Path.{Part, same_path}
use Rattle.keep_meaning.specs.Marks.{Reading, header_path, start}
use Rattle.keep_meaning.specs.Meaning.{after_line, keys_of, line_of, lines, mentions_in, reading_after_lines}
use Rattle.keep_edit_spec.specs.BroughtHeaders.{BringsHeader}
use Rattle.keep_edit_spec.specs.Edits.{edited_document, insert, key_with, name_with, new_header}
use Rattle.keep_edit_spec.specs.Laws.{IsEditable}
use Rattle.keep_edit_spec.specs.Lines.{begins, body_end, is_empty, is_header, last_line, plain_line}
use Rattle.keep_edit_spec.specs.Look.{holder, keys_in}
use Rattle.keep_edit_spec.specs.TextChanges.{TextChange}
use Rattle.keep_edit_spec.specs.TextEnds.{ends_in_newline}
use Rattle.keep_edit_spec.proofs.EditLaws.{insert_lawful}
use Rattle.keep_edit_spec.proofs.Common.Runs.{same_path-sound}
use Rattle.keep_edit_spec.proofs.Lists.BroughtLines as brought
use Rattle.keep_edit_spec.proofs.Lists.BroughtLines.{body_ends, edited_is, first_lines, head, last, length_now}
use Rattle.keep_edit_spec.proofs.Lists.BroughtLines.{lines_now, long, reading_is, rest_lines}
use Rattle.keep_edit_spec.proofs.Lists.BroughtWay.{path_is}
use Rattle.keep_edit_spec.proofs.Lists.HeaderLines.{last_empty, lines_end, not_last}
use Rattle.keep_edit_spec.proofs.Lists.LinesAfterBody.{IsBodiless, IsLastBefore, IsLastNow, IsStillLast, Test}
use Rattle.keep_edit_spec.proofs.Lists.LinesAfterBody.{last_comes, last_here, last_stays, none_after, same_after}

module _ (profile : Profile) (limit : ℕ) (s : Document) (path : List Part) (value : Value) (c : TextChange)
    (fine : IsEditable profile limit s) (h : BringsHeader profile limit s path value c) where
  abbrev now : Document
  now = edited_document s (insert path value)

  abbrev a : List Part
  a = holder path (mentions_in s)

  -- ---- the lines

  abbrev n : ℕ
  n = brought.n profile limit s path value c h

  -- before the header that goes through the table, and that
  abbrev pub pre : List Line
  pre = (last profile limit s path value c h).pre

  abbrev pub here : Line
  here = (last profile limit s path value c h).here

  abbrev body : List Line
  body = brought.body profile limit s path value c h

  abbrev rest : List Line
  rest = brought.rest profile limit s path value c h

  abbrev pub first : List Line
  first = brought.first profile limit s path value c h

  abbrev pub new : List Line
  new = map line_of (brought.new_lines profile limit s path value c h)

  abbrev pub r : Reading
  r = brought.r profile limit s path value c h

  pub were : lines s ≡ first ++ rest
  were =
      sym (take-append-drop n (lines s))
      ∙ ap₂ (λ (x y : List Line). x ++ y) (first_lines profile limit s path value c h)
      (rest_lines profile limit s path value c h)

  pub are : lines now ≡ first ++ (new ++ rest)
  are =
      lines_now profile limit s path value c h
      ∙ ap₂ (λ (x y : List Line). x ++ (new ++ y)) (first_lines profile limit s path value c h)
      (rest_lines profile limit s path value c h)

  -- ---- the new lines

  abbrev pub header : Line
  header = plain_line (new_header (keys_in a))

  abbrev pub statement : Line
  statement = plain_line (keyval (name_with (h.text ∷ h.more)) value)

  pub new_none : (test : Test) → test r (plain_line blank) ≡ false → test r header ≡ false
      → test (after_line r header) statement ≡ false → last_line test r new ≡ None
  new_none test one two three =
      not_last test r (plain_line blank) (header ∷ statement ∷ []) one
      (not_last test r header (statement ∷ []) two (not_last test (after_line r header) statement [] three refl))

  -- from the reading before them
  pub new_there : (test : Test) → last_line test r new ≡ None
      → last_line test (reading_after_lines start first) new ≡ None
  new_there test none =
      ap (λ (x : Reading). last_line test x new) (reading_is profile limit s path value c h) ∙ none

  pub behind_same : (test : Test) → IsBodiless test
      → last_line test (reading_after_lines (reading_after_lines start first) new) rest
      ≡ last_line test (reading_after_lines start first) rest
  behind_same test bodiless =
      let is : reading_after_lines start first ≡ r = reading_is profile limit s path value c h in
      ap (λ (x : Reading). last_line test (reading_after_lines x new) rest) is
      ∙ same_after test bodiless r.tables (header_path r.tables [] (keys_of (key_with (keys_in a)))) r.body
      (last profile limit s path value c h).post
      ∙ ap (λ (x : Reading). last_line test x rest) (sym is)

  -- the new header begins no body but the table's
  pub not_begun : (b : List Part) → a ≢ b → begins b r header ≡ false
  not_begun b differs = by (same_path (header_path r.tables [] (keys_of (key_with (keys_in a)))) b) refl
    where
      by : (t : Bool) → same_path (header_path r.tables [] (keys_of (key_with (keys_in a)))) b ≡ t → t ≡ false
      by false e = refl
      by true e = absurd (differs (sym (path_is profile limit s path value c fine h) ∙ same_path-sound _ b e))

  -- ---- the last line that passes

  -- where none of the new lines does
  module _ (test : Test) (bodiless : IsBodiless test) (fails : last_line test r new ≡ None) where
    pub none_now : last_line test start (lines s) ≡ None → last_line test start (lines now) ≡ None
    none_now none =
        ap (last_line test start) are
        ∙ none_after test pre here body rest new (ap (last_line test start) (sym were) ∙ none) (new_there test fails)
        (behind_same test bodiless)

    pub last_now : (j : ℕ) → last_line test start (lines s) ≡ Some j → IsLastNow test (lines now) n 3 j
    last_now j passes =
        subst (λ (ls : List Line). IsLastNow test ls n 3 j) (sym are)
        (subst (λ (i : ℕ). IsLastNow test (first ++ (new ++ rest)) i 3 j) (long profile limit s path value c h)
        (last_stays test pre here body rest new j (ap (last_line test start) (sym were) ∙ passes)
        (new_there test fails) (behind_same test bodiless)))

  -- where only headers pass, and the new ones pass only if the one before them does
  pub still_last : (test : Test) → IsBodiless test
      → ((x : Reading) (l : Line) → test x l ≡ true → is_header l.content ≡ true)
      → (test (reading_after_lines start pre) here ≡ true)
      ⊎ (last_line test (reading_after_lines start first) new ≡ None)
      → (j : ℕ) → last_line test start (lines s) ≡ Some j → body_end j (lines s) ≢ n
      → IsStillLast test (lines s) (lines now) n 3 j
  still_last test bodiless heads only j passes other =
      subst (λ (ls : List Line). IsStillLast test (lines s) ls n 3 j) (sym are)
      (subst (λ (ls : List Line). IsStillLast test ls (first ++ (new ++ rest)) n 3 j) (sym were)
      (subst (λ (i : ℕ). IsStillLast test (first ++ rest) (first ++ (new ++ rest)) i 3 j)
      (long profile limit s path value c h)
      (last_comes test pre here body rest new heads (head profile limit s path value c h)
      (body_ends profile limit s path value c h) (behind_same test bodiless) only j
      (ap (last_line test start) (sym were) ∙ passes)
      (λ at. other (ap (body_end j) were ∙ at ∙ long profile limit s path value c h)))))

  -- where only headers pass, and the new one doesn't, and the body ended where the new lines come
  pub still_before : (test : Test) → IsBodiless test
      → ((x : Reading) (l : Line) → test x l ≡ true → is_header l.content ≡ true) → last_line test r new ≡ None
      → (j : ℕ) → last_line test start (lines s) ≡ Some j → body_end j (lines s) ≡ n
      → IsLastBefore test (lines now) n j
  still_before test bodiless heads fails j passes at_end =
      subst (λ (ls : List Line). IsLastBefore test ls n j) (sym are)
      (subst (λ (i : ℕ). IsLastBefore test (first ++ (new ++ rest)) i j) (long profile limit s path value c h)
      (last_here test pre here body rest new heads (head profile limit s path value c h)
      (body_ends profile limit s path value c h) (behind_same test bodiless) j
      (ap (last_line test start) (sym were) ∙ passes)
      (ap (body_end j) (sym were) ∙ at_end ∙ sym (long profile limit s path value c h)) (new_there test fails) refl))

  -- ---- the end of the text

  pub still_closed : ends_in_newline (text s) ≡ true → ends_in_newline (text now) ≡ true
  still_closed closed =
      lines_end profile now (insert_lawful profile limit s path value fine h.given h.utf8 h.allowed).reads.valid
      (ap (λ (d : Document). is_empty d.last) (edited_is profile limit s path value c h)
      ∙ last_empty profile s fine.valid closed)
      (omega (arith, length_now profile limit s path value c h))
