-- The words of an operation, and the edit that it makes of them.
--
-- Theorems: `words_are`: the first word, or the first and the second, are all words of the operation; `strict_edit`:
-- the edit that it makes by `Strict` gives no value but of that grammar.
use Rattle.std.proofs.Common.{◌≡◌, ◌≤◌, ℕ, List, [], ◌∷◌, length, refl, sym, subst, arith, unwrap_or}
use Rattle.std.specs.Prelude.{slice_get}
use Rattle.keep_types.specs.declared.leaf.Profile.TheVariants.{Strict}
use Rattle.keep_edit.specs.Reading.{IsAcceptedValue}
use Rattle.keep_edit_plan.specs.declared.edit.Edit.{Edit}
use Rattle.keep_edit_plan.specs.declared.edit.Edit.TheVariants as edit
use Rattle.keep_args.specs.declared.subcommand.Op.{Op}
use Rattle.keep_args.specs.declared.subcommand.Op.TheVariants as op
use Rattle.keep_args.specs.Table.{edit_words}
use Rattle.keep_commands.specs.OwnValues.{IsStrictEdit}
use Rattle.keep_cli.specs.EditWords.{Makes, words_for}

-- an operation has one word or two
one_or_two : (o : Op) → (1 ≤ length (edit_words o)) × (length (edit_words o) ≤ 2)
one_or_two op.Set = (omega arith, omega arith)
one_or_two op.Insert = (omega arith, omega arith)
one_or_two op.Rename = (omega arith, omega arith)
one_or_two op.Remove = (omega arith, omega arith)
one_or_two op.Table = (omega arith, omega arith)
one_or_two op.Element = (omega arith, omega arith)

-- so many words are the words of the operation
pub words_are : (o : Op) (words : List (List ℕ)) (first second : List ℕ) → length words ≡ length (edit_words o)
    → first ≡ unwrap_or (slice_get words 0) [] → second ≡ unwrap_or (slice_get words 1) []
    → words_for o first second ≡ words
words_are o [] first second many is_first is_second = absurd (omega (arith, many, (one_or_two o).0))
words_are o (a ∷ []) first second many is_first is_second = rw (sym many, is_first) refl
words_are o (a ∷ b ∷ []) first second many is_first is_second = rw (sym many, is_first, is_second) refl
words_are o (a ∷ b ∷ c ∷ more) first second many is_first is_second = absurd (omega (arith, many, (one_or_two o).1))

-- ---- the profile of the values

given_strict : (word value : List ℕ) → value ≡ word → IsAcceptedValue Strict word → IsAcceptedValue Strict value
given_strict word value same accepted = subst (λ (t : List ℕ). IsAcceptedValue Strict t) (sym same) accepted

pub strict_edit : (o : Op) (words : List (List ℕ)) (e : Edit) → Makes Strict o words e → IsStrictEdit e
strict_edit op.Set (path ∷ word ∷ []) (edit.Set p value) (at, (same, accepted)) = given_strict word value same accepted
strict_edit op.Insert (path ∷ word ∷ []) (edit.Insert p value) (at, (same, accepted)) =
    given_strict word value same accepted
strict_edit op.Rename (path ∷ word ∷ []) (edit.Rename p name) made = tt
strict_edit op.Remove (path ∷ []) (edit.Remove p) made = tt
strict_edit op.Table (word ∷ []) (edit.Table keys) made = tt
strict_edit op.Element (word ∷ []) (edit.Element keys) made = tt
strict_edit o words e made = absurd made
