-- The program's command, as it is built row by row and word by word, and the row of the table that a name finds.
--
-- Theorems: `word_added`: with the rule of its next word, a subcommand has one word more; `row_added`: with one more
-- subcommand, the command has one row more; `words_met`: the row of an edit has the words of its operation.
use Rattle.std.proofs.Common.{◌≡◌, ◌∙◌, ◌+◌, ◌<◌, ℕ, zero, suc, Bool, true, false, refl, sym, ap, subst, arith, List}
use Rattle.std.proofs.Common.{[], ◌∷◌, ◌++◌, map, length, take, drop, get_or, inl, inr, min, Bor, Option, None, Some}
use Rattle.std.proofs.Common.{unwrap_or}
use Rattle.std.specs.Prelude.{option_and_then}
use Rattle.std.proofs.lemmas.Bool.Decides.{eqb_tells}
use Rattle.std.proofs.lemmas.List.{drop_more, map-append, take_more}
use Rattle.clap.specs.Walk.{Rule, Text, is_empty}
use Rattle.clap.specs.Simple.{App, Shape, new_shape, with_rule, with_subcommand}
use Rattle.keep_args.specs.App.{app_with, leaf_of, word_ids, word_rule}
use Rattle.std.specs.Str.{bytes_eq}
use Rattle.keep_args.specs.declared.subcommand.Ask.{Ask}
use Rattle.keep_args.specs.declared.subcommand.Ask.TheVariants as ask
use Rattle.keep_args.specs.declared.subcommand.Op.{Op}
use Rattle.keep_args.specs.Chosen.{row_or_first}
use Rattle.keep_args.specs.Table.{Row, edit_words, first_row, row, table, words_of}
use Rattle.keep_args.specs.Wanted.{op_in, row_named}

-- the place's name
pub id_at : (first second d : Bor Text) (place : ℕ) → place < 2
    → (get_or (first ∷ second ∷ []) place d).now ≡ get_or (first.now ∷ second.now ∷ []) place []
id_at first second d zero lt = refl
id_at first second d (suc zero) lt = refl
id_at first second d (suc (suc n)) lt = absurd (omega arith)

-- a subcommand with its first words
abbrev pub with_ids : Text → List Text → Shape
with_ids name ids = record (new_shape name) { rules = map word_rule ids }

pub word_added : (name : Text) (place : ℕ) (old new : App) (rule : Rule) (id : Text) → place < 2
    → old.top ≡ with_ids name (take place word_ids) → rule ≡ word_rule id → id ≡ get_or word_ids place []
    → new ≡ with_rule old rule → new.top ≡ with_ids name (take (place + 1) word_ids)
word_added name zero old new rule id lt before is at more = rw (more, before, is, at) refl
word_added name (suc zero) old new rule id lt before is at more = rw (more, before, is, at) refl
word_added name (suc (suc n)) old new rule id lt before is at more = absurd (omega arith)

take_none : (n : ℕ) → take {A = Text} n [] ≡ []
take_none zero = refl
take_none (suc n) = refl

-- a subcommand has no more words than there are places
pub take_few : (n place : ℕ) → place ≡ min n 2 → take place word_ids ≡ take n word_ids
take_few zero place e = rw e refl
take_few (suc zero) place e = rw e refl
take_few (suc (suc n)) place e = let two : place ≡ 2 = omega (arith, e) in rw (two, take_none n) refl

some_rows : (rows : List Row) (row : Row) → is_empty (rows ++ row ∷ []) ≡ false
some_rows [] row = refl
some_rows (x ∷ xs) row =
    elim (eqb_tells (length (x ∷ xs ++ row ∷ [])) 0) [ inl same ↦ absurd (omega (arith, same.1)) | inr other ↦ other.0 ]

-- one more subcommand
pub row_added : (rows : List Row) (number : ℕ) (d row : Row) (old new : App) → number < length rows
    → row ≡ get_or rows number d → old ≡ app_with (take number rows) → new ≡ with_subcommand old (leaf_of row)
    → new ≡ app_with (take (number + 1) rows)
row_added rows number d row old new lt at before more =
    let next : take (number + 1) rows ≡ take number rows ++ row ∷ [] =
    take_more rows number d lt ∙ ap (λ (r : Row). take number rows ++ r ∷ []) (sym at) in
    more ∙ (ap (λ (a : App). with_subcommand a (leaf_of row)) before ∙ rw (next, some_rows, map-append) refl)

-- a row of another name is passed over
pub next_row : (rows : List Row) (number : ℕ) (d row : Row) (name : Text) → number < length rows
    → row ≡ get_or rows number d → bytes_eq row.name name ≡ false
    → row_named name (drop number rows) ≡ row_named name rows
    → row_named name (drop (number + 1) rows) ≡ row_named name rows
next_row rows number d row name lt at other before =
    let rest : drop number rows ≡ row ∷ drop (number + 1) rows =
    drop_more rows number d lt ∙ ap (λ (r : Row). r ∷ drop (number + 1) rows) (sym at) in
    let past : row_named name (row ∷ drop (number + 1) rows) ≡ row_named name (drop (number + 1) rows) =
    rw other refl in
    sym past ∙ (ap (row_named name) (sym rest) ∙ before)

-- the row that stands for a name without one asks for no edit
pub op_met : (found : Option Row) → op_in (unwrap_or found first_row).ask ≡ option_and_then (λ row. op_in row.ask) found
op_met None = refl
op_met (Some row) = refl

-- each row has the words of what it asks
abbrev IsOwn : Option Row → Type 0
IsOwn found = (unwrap_or found first_row).words ≡ words_of (unwrap_or found first_row).ask

abbrev made_again : List Row → List Row
made_again rows = map (λ r. row r.name r.ask) rows

own_found : (name : Text) (rows : List Row) → IsOwn (row_named name (made_again rows))
own_found name [] = refl
own_found name (r ∷ rows) = by (bytes_eq r.name name) refl (own_found name rows)
  where
    by : (b : Bool) → bytes_eq r.name name ≡ b → IsOwn (row_named name (made_again rows))
        → IsOwn (row_named name (made_again (r ∷ rows)))
    by true e more = rw e refl
    by false e more = rw e more

own_words : (name : Text) → IsOwn (row_named name table)
own_words name = own_found name table

words_asked : (asked : Ask) (o : Op) → Some o ≡ op_in asked → words_of asked ≡ edit_words o
words_asked (ask.Edit op) o is = let same : op ≡ o = cc in ap edit_words same
words_asked ask.Check o is = absurd cc
words_asked ask.CheckWide o is = absurd cc
words_asked ask.List o is = absurd cc
words_asked ask.Get o is = absurd cc
words_asked ask.Text o is = absurd cc
words_asked ask.Apply o is = absurd cc
words_asked ask.ApplyWide o is = absurd cc

-- the row of an edit has the words of its operation
pub words_met : (name : Text) (row : Row) (o : Op) → row ≡ row_or_first name → Some o ≡ op_in row.ask
    → row.words ≡ edit_words o
words_met name row o at is =
    subst (λ (r : Row). r.words ≡ words_of r.ask) (sym at) (own_words name) ∙ words_asked row.ask o is
