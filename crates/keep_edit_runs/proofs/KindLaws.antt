-- Edits of which the paths are added are all of the kind of the first one (`of_kind`). So where one of them writes a
-- line or a header, all do.
--
-- Theorem: `placed_of_kind`.
use Rattle.std.proofs.Common.{◌≡◌, ℕ, true, List, All, refl, sym, ◌∙◌, inl}
use Rattle.std.proofs.lemmas.List.Elements.{All-weaker}
use Rattle.keep_edit_spec.specs.Runs as runs
use Rattle.keep_edit_spec.specs.TextChanges.{TextChange}
use Rattle.keep_edit_runs.specs.declared.outline.Outline.{Outline}
use Rattle.keep_edit_runs.specs.declared.outline.Outline.TheVariants.{Element, Insert, Remove, Rename, Set, Table}
use Rattle.keep_edit_plan.specs.Reading.{ProfiledText}
use Rattle.keep_edit_runs.specs.Runs.{outlined}
use Rattle.keep_edit_runs.specs.Seen.{HasPathsOf, IsSeen}
use Rattle.keep_edit_runs.specs.declared.seen.SeenKeys.{SeenKeys}
use Rattle.keep_edit_runs.proofs.RunSteps.{IsPlaced}

-- the two write a line, or a header, alike
abbrev IsOfKind : Outline → Outline → Type 0
IsOfKind x f = (runs.is_insert (outlined x) ≡ runs.is_insert (outlined f))
    × (runs.is_header (outlined x) ≡ runs.is_header (outlined f))

pub of_kind : (seen : SeenKeys) (f x : Outline) → HasPathsOf seen f x → IsOfKind x f
of_kind seen (Insert f) (Insert p) h = (refl, refl)
of_kind seen (Insert f) (Remove p) h = absurd h
of_kind seen (Insert f) (Set p) h = absurd h
of_kind seen (Insert f) (Rename p w) h = absurd h
of_kind seen (Insert f) (Table ks) h = absurd h
of_kind seen (Insert f) (Element ks) h = absurd h
of_kind seen (Remove f) (Insert p) h = absurd h
of_kind seen (Remove f) (Remove p) h = (refl, refl)
of_kind seen (Remove f) (Set p) h = absurd h
of_kind seen (Remove f) (Rename p w) h = absurd h
of_kind seen (Remove f) (Table ks) h = absurd h
of_kind seen (Remove f) (Element ks) h = absurd h
of_kind seen (Set f) (Insert p) h = absurd h
of_kind seen (Set f) (Remove p) h = absurd h
of_kind seen (Set f) (Set p) h = (refl, refl)
of_kind seen (Set f) (Rename p w) h = absurd h
of_kind seen (Set f) (Table ks) h = absurd h
of_kind seen (Set f) (Element ks) h = absurd h
of_kind seen (Rename f v) (Insert p) h = absurd h
of_kind seen (Rename f v) (Remove p) h = absurd h
of_kind seen (Rename f v) (Set p) h = absurd h
of_kind seen (Rename f v) (Rename p w) h = (refl, refl)
of_kind seen (Rename f v) (Table ks) h = absurd h
of_kind seen (Rename f v) (Element ks) h = absurd h
of_kind seen (Table f) (Insert p) h = absurd h
of_kind seen (Table f) (Remove p) h = absurd h
of_kind seen (Table f) (Set p) h = absurd h
of_kind seen (Table f) (Rename p w) h = absurd h
of_kind seen (Table f) (Table ks) h = (refl, refl)
of_kind seen (Table f) (Element ks) h = absurd h
of_kind seen (Element f) (Insert p) h = absurd h
of_kind seen (Element f) (Remove p) h = absurd h
of_kind seen (Element f) (Set p) h = absurd h
of_kind seen (Element f) (Rename p w) h = absurd h
of_kind seen (Element f) (Table ks) h = absurd h
of_kind seen (Element f) (Element ks) h = (refl, refl)

same_kind : (seen : SeenKeys) (x y : Outline) → IsSeen seen x → IsSeen seen y → IsOfKind y x
same_kind seen x y h k =
    let one = of_kind seen seen.first x h in
    let other = of_kind seen seen.first y k in
    (other.0 ∙ sym one.0, other.1 ∙ sym one.1)

pub placed_of_kind : (seen : SeenKeys) (outlines : List Outline) (now : ProfiledText) (changes : List TextChange)
    (x : Outline) (at : ℕ) → All (IsSeen seen) outlines → IsSeen seen x → IsPlaced outlines now changes x at
placed_of_kind seen outlines now changes x at all h = record {
  insert = λ is. inl (All-weaker (IsSeen seen) (λ y. runs.is_insert (outlined y) ≡ true)
      (λ y k. (same_kind seen x y h k).0 ∙ is) outlines all);
  header = λ is. inl (All-weaker (IsSeen seen) (λ y. runs.is_header (outlined y) ≡ true)
      (λ y k. (same_kind seen x y h k).1 ∙ is) outlines all);
}
