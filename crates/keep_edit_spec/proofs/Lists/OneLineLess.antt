-- The last line that passes a test, once another line is gone that leaves the reading as it is.
--
-- Whether the line that goes passes or not, the last one that does is the same line. It comes a line earlier if it was
-- behind that one (`last_less`, by OneLineMore and RemovedOwn). Where none passed, none does then (`none_less`). The
-- reading before each other line is as it was (`reading_less`).
--
-- Theorems: `last_less`, `last_kept`, `none_less`, `reading_less`.
use Rattle.std.proofs.Common.{◌≡◌, ◌≢◌, ℕ, Bool, true, false, List, ◌∷◌, ◌++◌, length, take, refl, sym, ap, ◌∙◌, arith}
use Rattle.std.proofs.Common.{Option, Some, None, inl, inr}
use Rattle.std.specs.Option.{option_map}
use Rattle.std.proofs.lemmas.Bool.{cases_lt}
use Rattle.keep_syntax.specs.Tree.{Line}
use Rattle.keep_meaning.specs.Marks.{Reading}
use Rattle.keep_meaning.specs.Meaning.{after_line, reading_after_lines}
use Rattle.keep_edit_spec.specs.Lines.{last_line}
use Rattle.keep_edit_spec.proofs.Lists.BodyEnds.{later_before, later_from}
use Rattle.keep_edit_spec.proofs.Lists.OneLineMore.{last_with, new_before, new_from, or_new, reading_alike}
use Rattle.keep_edit_spec.proofs.Lists.OneLineMore.{reading_later}
use Rattle.keep_edit_spec.proofs.Lists.Places.{later_line}
use Rattle.keep_edit_spec.proofs.Lists.RemovedOwn.{last_without}

-- the last line without the line that had number `gone`, where it had number `was`
pub record IsLastLess (test : Reading → Line → Bool) (r : Reading) (ls : List Line) (gone was : ℕ) : Type 0 where
  pub number : ℕ
  pub last : last_line test r ls ≡ Some number
  pub later : was ≡ later_line gone number

module _ (r : Reading) (first : List Line) (l : Line) (more : List Line)
    (keeps : after_line (reading_after_lines r first) l ≡ reading_after_lines r first) where
  abbrev n : ℕ
  n = length first

  -- before the line that now has number j
  pub reading_less : (j : ℕ) → reading_after_lines r (take (later_line n j) (first ++ l ∷ more))
      ≡ reading_after_lines r (take j (first ++ more))
  reading_less j = elim (cases_lt j n) [
    | inl less ↦ at (later_before n j less) ∙ reading_alike r first (l ∷ more) more j (omega (arith, less))
    | inr past ↦ at (later_from n j past) ∙ reading_later r first l more j keeps past
  ]
    where
      at : {i k : ℕ} → i ≡ k → reading_after_lines r (take i (first ++ l ∷ more))
          ≡ reading_after_lines r (take k (first ++ l ∷ more))
      at e = ap (λ (m : ℕ). reading_after_lines r (take m (first ++ l ∷ more))) e

  module _ (test : Reading → Line → Bool) where
    abbrev was : Option ℕ
    was = last_line test r (first ++ l ∷ more)

    abbrev now : Option ℕ
    now = last_line test r (first ++ more)

    abbrev passes : Bool
    passes = test (reading_after_lines r first) l

    with_it : passes ≡ true → was ≡ Some (or_new n now)
    with_it is = last_with test r first l more keeps is

    without_it : passes ≡ false → was ≡ option_map (later_line n) now
    without_it is = last_without test r first l more keeps is

    -- where the line does not pass
    pub last_kept : passes ≡ false → (i : ℕ) → was ≡ Some i → IsLastLess test r (first ++ more) n i
    last_kept fails i e = by now refl
      where
        same_is : (o : Option ℕ) → now ≡ o → Some i ≡ option_map (later_line n) o
        same_is o now_is = sym e ∙ without_it fails ∙ ap (option_map (later_line n)) now_is

        by : (o : Option ℕ) → now ≡ o → IsLastLess test r (first ++ more) n i
        by None none = let no : Some i ≡ None = same_is None none in absurd cc
        by (Some j) some =
            let same : Some i ≡ Some (later_line n j) = same_is (Some j) some in
            record { number = j; last = some; later = cc }

    pub last_less : (i : ℕ) → was ≡ Some i → i ≢ n → IsLastLess test r (first ++ more) n i
    last_less i e other = by passes refl now refl
      where
        new_is : passes ≡ true → (o : Option ℕ) → now ≡ o → i ≡ or_new n o
        new_is is o now_is =
            let same : Some i ≡ Some (or_new n o) =
            sym e ∙ with_it is ∙ ap (λ (p : Option ℕ). Some (or_new n p)) now_is in cc

        by : (b : Bool) → passes ≡ b → (o : Option ℕ) → now ≡ o → IsLastLess test r (first ++ more) n i
        by true is None none = absurd (other (new_is is None none))
        by true is (Some j) some = elim (cases_lt j n) [
          | inl less ↦ absurd (other (new_is is (Some j) some ∙ new_before n j less))
          | inr past ↦ record {
            number = j;
            last = some;
            later = new_is is (Some j) some ∙ new_from n j past ∙ sym (later_from n j past);
          }
        ]
        by false is o now_is = last_kept is i e

    pub none_less : was ≡ None → now ≡ None
    none_less none = by passes refl now refl
      where
        by : (b : Bool) → passes ≡ b → (o : Option ℕ) → now ≡ o → now ≡ None
        by b is None e = e
        by true is (Some j) e = let no : None ≡ Some (or_new n now) = sym none ∙ with_it is in absurd cc
        by false is (Some j) e =
            let no : None ≡ Some (later_line n j) =
            sym none ∙ without_it is ∙ ap (option_map (later_line n)) e in absurd cc
