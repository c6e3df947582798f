-- What `clap` makes of the program's words, for any table of subcommands with at most two words each.
--
-- The program's command is as building leaves it, so `clap`'s walk over the words computes. It stops at the name of a
-- subcommand (`walk_named`), and from there the subcommand's own command decides (`fault_named`). Whether that takes
-- the words is computed for each number of words that a row has, each number that is given, and each place of the `--`
-- among them; an option fails wherever it is (`Options`). So a row takes the words exactly where they are as many as it
-- has (`words_decide`), and a name of no row is refused (`name_unknown`).
--
-- Theorems: `err_refuses` and `ok_reads`: what an answer of `clap` means; `whole_read`: what is read is a row of the
-- table with as many words as it has.
use Rattle.std.proofs.Common.{◌≡◌, ◌∙◌, ◌⊎◌, ◌++◌, ◌&&◌, ℕ, suc, Bool, true, false, refl, sym, ap, ap₂, subst, inl, inr}
use Rattle.std.proofs.Common.{List, [], ◌∷◌, map, length, Option, Some, None, is_some, option_map, find, fold}
use Rattle.std.proofs.Common.{append_assoc, append-nil, arith, leb-true, Global, String}
use Rattle.std.specs.Str.{bytes_eq}
use Rattle.std.specs.List.{list_all}
use Rattle.std.specs.Prelude.{◌==◌, ⊤, Contains, IsUtf8, nat_le, option_and_then, string_bytes, unwrap_or}
use Rattle.std.specs.Option.{option_map_or}
use Rattle.std.proofs.lemmas.Slice.Eq.{bytes_eq-Decides}
use Rattle.std.proofs.lemmas.Bool.Decides.{eqb_tells}
use Rattle.std.proofs.lemmas.Str.{IsUtf8-string_bytes}
use Rattle.clap.specs.Walk.{Names, Row as Found, Rule, Text, answers_to, finished, settled, subcommand_met, Walk, idle}
use Rattle.clap.specs.Walk.{is_empty, nothing_held, walk, walked, walk_from}
use Rattle.clap.specs.Simple.{App, HasMatchesOf, Shape, built, built_leaf, entered, inherited, is_simple, label_of}
use Rattle.clap.specs.Simple.{marked_built, names_of, rows_at, subcommand_of, subcommand_rows_of, with_leaf_noted}
use Rattle.clap.specs.Faults.{fault_of, check_fault, defaults_fault, entered_fault, is_simple_and_free, level_fault}
use Rattle.clap.specs.Faults.{settle_fault, walk_fault}
use Rattle.clap.specs.Kinds.{HasKind, Kinds, or_else}
use Rattle.clap.specs.Values.{kind_of}
use Rattle.clap.specs.declared.error.kind.ErrorKind.{ErrorKind}
use Rattle.clap.specs.declared.error.kind.ErrorKind.TheVariants.{OutOfMemory}
use Rattle.clap.specs.declared.error.Error.{Error}
use Rattle.clap.specs.declared.parser.matches.ArgMatches.{ArgMatches}
use Rattle.clap.proofs.OnLiterals.{clap_on_literals}
use Rattle.clap.proofs.FaultLemmas.{stopped_fault}
use Rattle.clap.proofs.WalkLemmas.{both}
use Rattle.keep_args.specs.App.{program_app, leaf_of, top_app}
use Rattle.keep_args.specs.Table.{Row, first_row, table}
use Rattle.keep_args.specs.declared.subcommand.Word.{Word}
use Rattle.keep_args.specs.Chosen.{read_rows, wanted_with, words_in}
use Rattle.keep_args.proofs.Options.{AreRequests, IsGoing, IsOptionWord, IsPlainWord, fails_after, first_fails}
use Rattle.keep_args.proofs.Options.{nothing_met, seen, turn_fails}
use Rattle.keep_args.specs.Wanted.{IsWhole, is_dashes, row_named, taken, wanted_by, wanted_in, wanted_of, with_words}

-- ---- the names of the subcommands

-- the subcommands as building leaves them
abbrev subs_under : Shape → List Row → List Shape
subs_under above rows = map built_leaf (map (inherited above) (map leaf_of rows))

abbrev shape_under : Shape → Row → Shape
shape_under above row = built_leaf (inherited above (leaf_of row))

pub met_name : (above : Shape) (rows : List Row) (name : Text)
    → subcommand_met (map label_of (subs_under above rows)) idle name
    ≡ option_map (λ row. row.name) (row_named name rows)
met_name above [] name = refl
met_name above (row ∷ rows) name = by (bytes_eq row.name name) refl (met_name above rows name)
  where
    by : (b : Bool) → bytes_eq row.name name ≡ b
        → subcommand_met (map label_of (subs_under above rows)) idle name
        ≡ option_map (λ row. row.name) (row_named name rows)
        → subcommand_met (map label_of (subs_under above (row ∷ rows))) idle name
        ≡ option_map (λ row. row.name) (row_named name (row ∷ rows))
    by true e more = rw e refl
    by false e more = rw e more

pub met_shape : (above : Shape) (rows : List Row) (name : Text)
    → find (λ s. answers_to name (label_of s)) (subs_under above rows)
    ≡ option_map (shape_under above) (row_named name rows)
met_shape above [] name = refl
met_shape above (row ∷ rows) name = by (bytes_eq row.name name) refl (met_shape above rows name)
  where
    by : (b : Bool) → bytes_eq row.name name ≡ b
        → find (λ s. answers_to name (label_of s)) (subs_under above rows)
        ≡ option_map (shape_under above) (row_named name rows)
        → find (λ s. answers_to name (label_of s)) (subs_under above (row ∷ rows))
        ≡ option_map (shape_under above) (row_named name (row ∷ rows))
    by true e more = rw e refl
    by false e more = rw e more

-- the row of a name has this name
pub named_so : (rows : List Row) (name : Text) (row : Row) → row_named name rows ≡ Some row → row.name ≡ name
named_so [] name row h = absurd cc
named_so (x ∷ rows) name row h = by (bytes_eq x.name name) refl (named_so rows name row)
  where
    by : (b : Bool) → bytes_eq x.name name ≡ b → (row_named name rows ≡ Some row → row.name ≡ name) → row.name ≡ name
    by true e more =
        let found : Some x ≡ Some row = rw e at h in
        let same : x ≡ row = cc in
        ap (λ (r : Row). r.name) (sym same) ∙ (bytes_eq-Decides x.name name).0 e
    by false e more = more (rw e at h)

-- ---- the walk over the words

abbrev pub stopped_at : Text → List Text → Walk
stopped_at name words = record {
  held = nothing_held;
  waiting = idle;
  position = 1;
  is_trailing = false;
  stopped = Some (name, words);
}

-- a walk that stopped takes up the words
pub walk_stopped : (c : List Rule) (names : Names) (name : Text) (taken words : List Text)
    → fold (walked c names) (stopped_at name taken) words ≡ stopped_at name (taken ++ words)
unfolding walked
walk_stopped c names name taken [] = ap (λ (t : List Text). stopped_at name t) (sym (append-nil taken))
walk_stopped c names name taken (x ∷ xs) = walk_stopped c names name (taken ++ x ∷ []) xs
    ∙ ap (λ (t : List Text). stopped_at name t) (append_assoc taken (x ∷ []) xs)

-- at the name of a subcommand the walk stops
walk_named : (c : List Rule) (names : Names) (name found : Text) (words : List Text)
    → subcommand_met names idle name ≡ Some found → walk c names nothing_held (name ∷ words) ≡ stopped_at found words
unfolding walked
walk_named c names name found words e = rw e (walk_stopped c names found [] words)

and_false : (b : Bool) → (b && false) ≡ false
and_false true = refl
and_false false = refl

-- the program with these subcommands, of which there are some
abbrev pub preserved : List Row → App
preserved rows = record { top = record top_app.top { is_leaf = false }; subs = map leaf_of rows }

abbrev top_of : List Row → Shape
top_of rows = (built (preserved rows)).top

abbrev names_in : List Row → Names
names_in rows = names_of (built (preserved rows))

named_fault : (rows : List Row) (name found : Text) (words : List Text)
    → subcommand_met (names_in rows) idle name ≡ Some found
    → walk_fault (top_of rows) (names_in rows) (walk_from nothing_held) (name ∷ words) ≡ []
unfolding walked walk_fault
named_fault rows name found words e =
    rw (e, and_false) (stopped_fault (top_of rows) (names_in rows) (stopped_at found []) (found, []) words)

-- the faults of a parse from the walk over the words and the faults of that walk
abbrev shell : List Row → Walk → Kinds → Kinds
shell rows w kinds =
    let a = built (preserved rows) in
    or_else kinds (or_else (entered_fault a w.stopped)
    (or_else (settle_fault a.top.rules a.top.args_override_self w.held)
    (or_else (defaults_fault (settled a.top.rules w.held).rows a.top.rules)
    (check_fault a.top (finished a.top.rules w.held) (is_some (entered a w.stopped))))))

as_shell : (rows : List Row) (program : Text) (words : List Text)
    → fault_of (preserved rows) (program ∷ words)
    ≡ shell rows (walk (top_of rows).rules (names_in rows) nothing_held words)
    (walk_fault (top_of rows) (names_in rows) (walk_from nothing_held) words)
as_shell rows program words = refl

-- what a subcommand takes from the program
abbrev above : Shape
above = with_leaf_noted (marked_built (record top_app.top { is_leaf = false }))

-- the command of a row, as building leaves it
abbrev leaf : Row → Shape
leaf row = shape_under above row

abbrev leaf_fault : Row → List Text → Kinds
leaf_fault row words = level_fault (leaf row) [] nothing_held words false []

shell_named : (rows : List Row) (name : Text) (row : Row) (words : List Text) → row_named name rows ≡ Some row
    → shell rows (stopped_at name words) [] ≡ or_else (leaf_fault row words) []
unfolding clap_on_literals
shell_named rows name row words e = rw (met_shape above rows name, e) refl

met_row : (rows : List Row) (name : Text) (row : Row) → row_named name rows ≡ Some row
    → subcommand_met (names_in rows) idle name ≡ Some name
met_row rows name row e =
    met_name above rows name
    ∙ (ap (λ (o : Option Row). option_map (λ r. r.name) o) e ∙ ap (λ (n : Text). Some n) (named_so rows name row e))

-- where the words begin with the name of a row, its command alone decides
fault_named : (rows : List Row) (program name : Text) (row : Row) (words : List Text) → row_named name rows ≡ Some row
    → fault_of (preserved rows) (program ∷ name ∷ words) ≡ or_else (leaf_fault row words) []
fault_named rows program name row words e =
    let met = met_row rows name row e in
    as_shell rows program (name ∷ words)
    ∙ (ap₂ (shell rows) (walk_named _ _ name name words met) (named_fault rows name name words met)
    ∙ shell_named rows name row words e)

entered_named : (rows : List Row) (program name : Text) (row : Row) (words : List Text) → row_named name rows ≡ Some row
    → subcommand_of (preserved rows) (program ∷ name ∷ words) ≡ Some (rows_at (leaf row) words)
entered_named rows program name row words e =
    let met = met_row rows name row e in
    ap (λ (w : Walk). entered (built (preserved rows)) w.stopped) (walk_named _ _ name name words met)
    ∙ rw (met_shape above rows name, e) refl

-- ---- the words of a subcommand

-- the words that the command of a row finds
abbrev found_in : Row → List Text → List Text
found_in row words = words_in row (rows_at (leaf row) words).1

-- how many words are taken is how many the row has
abbrev has_as_many : Row → Option (List Text) → Bool
has_as_many row words = option_map_or (λ ws. length ws == length row.words) words false

-- The command of a row takes the words exactly if they are as many as it has, and then finds them. The first `--` is
-- none of them.
abbrev Takes : Row → List Text → Type 0
Takes row words =
    (leaf_fault row words ≡ []) × (taken words ≡ Some (found_in row words)) × (has_as_many row (taken words) ≡ true)

abbrev Refuses : Row → List Text → Type 0
Refuses row words = (is_empty (leaf_fault row words) ≡ false) × (has_as_many row (taken words) ≡ false)

unequal : (n m : ℕ) → (n ≡ m → ⊥) → (n == m) ≡ false
unequal n m h = elim (eqb_tells n m) [ inl same ↦ absurd (h same.1) | inr other ↦ other.0 ]

-- words that are too many, whatever comes after them
abbrev more_by : (List Text → List Text) → ℕ → Option (List Text) → Bool
more_by more n words = option_map_or (λ ws. length ws == n) (option_map more words) false

past_none : (a : Text) (words : Option (List Text)) → more_by (λ ws. a ∷ ws) 0 words ≡ false
past_none a None = refl
past_none a (Some ws) = unequal (length (a ∷ ws)) 0 (λ same. absurd (omega arith))

past_one : (a b : Text) (words : Option (List Text))
    → more_by (λ ws. a ∷ ws) 1 (option_map (λ ws. b ∷ ws) words) ≡ false
past_one a b None = refl
past_one a b (Some ws) = unequal (length (a ∷ b ∷ ws)) 1 (λ same. absurd (omega arith))

past_two : (a b c : Text) (words : Option (List Text))
    → more_by (λ ws. a ∷ ws) 2 (option_map (λ ws. b ∷ ws) (option_map (λ ws. c ∷ ws) words)) ≡ false
past_two a b c None = refl
past_two a b c (Some ws) = unequal (length (a ∷ b ∷ c ∷ ws)) 2 (λ same. absurd (omega arith))

-- ---- a subcommand without words

none_of_none : (row : Row) → row.words ≡ [] → Takes row []
unfolding clap_on_literals
none_of_none row is =
    rw is ((refl {a = []}), (refl {a = Some ([])}), (refl {a = true}))

none_after_dashes : (row : Row) (a : Text) → row.words ≡ [] → is_dashes a ≡ true → Takes row (a ∷ [])
unfolding clap_on_literals
none_after_dashes row a is da =
    rw is (simp (da) (refl {a = []}), simp (da) (refl {a = Some ([])}), simp (da) (refl {a = true}))

one_of_none : (row : Row) (a : Text) (rest : List Text) → row.words ≡ [] → IsPlainWord a → Refuses row (a ∷ rest)
unfolding clap_on_literals
one_of_none row a rest is pa =
    let ea = pa.long in let fa = pa.short in let ga = pa.dashes in
    rw is (simp (ea, fa, ga) (refl {a = false}), simp (ea, fa, ga) (past_none a (taken rest)))

one_of_none_after_dashes : (row : Row) (a b : Text) (rest : List Text) → row.words ≡ [] → is_dashes a ≡ true
    → Refuses row (a ∷ b ∷ rest)
unfolding clap_on_literals
one_of_none_after_dashes row a b rest is da =
    rw is (simp (da) (refl {a = false}), simp (da) (unequal (length (b ∷ rest)) 0 (λ same. absurd (omega arith))))

-- ---- a subcommand with one word

none_of_one : (row : Row) (k : Word) → row.words ≡ k ∷ [] → Refuses row []
unfolding clap_on_literals
none_of_one row k is =
    rw is ((refl {a = false}), (refl {a = false}))

none_of_one_after_dashes : (row : Row) (k : Word) (a : Text) → row.words ≡ k ∷ [] → is_dashes a ≡ true
    → Refuses row (a ∷ [])
unfolding clap_on_literals
none_of_one_after_dashes row k a is da =
    rw is (simp (da) (refl {a = false}), simp (da) (refl {a = false}))

one_of_one : (row : Row) (k : Word) (a : Text) → row.words ≡ k ∷ [] → IsPlainWord a → Takes row (a ∷ [])
unfolding clap_on_literals
one_of_one row k a is pa =
    let ea = pa.long in let fa = pa.short in let ga = pa.dashes in
    rw is (
      simp (ea, fa, ga) (refl {a = []}),
      simp (ea, fa, ga) (refl {a = Some (a ∷ [])}),
      simp (ea, fa, ga) (refl {a = true}),
    )

one_after_dashes : (row : Row) (k : Word) (a b : Text) → row.words ≡ k ∷ [] → is_dashes a ≡ true
    → Takes row (a ∷ b ∷ [])
unfolding clap_on_literals
one_after_dashes row k a b is da =
    rw is (simp (da) (refl {a = []}), simp (da) (refl {a = Some (b ∷ [])}), simp (da) (refl {a = true}))

one_before_dashes : (row : Row) (k : Word) (a b : Text) → row.words ≡ k ∷ [] → IsPlainWord a → is_dashes b ≡ true
    → Takes row (a ∷ b ∷ [])
unfolding clap_on_literals
one_before_dashes row k a b is pa db =
    let ea = pa.long in let fa = pa.short in let ga = pa.dashes in
    rw is (
      simp (ea, fa, ga, db) (refl {a = []}),
      simp (ea, fa, ga, db) (refl {a = Some (a ∷ [])}),
      simp (ea, fa, ga, db) (refl {a = true}),
    )

two_of_one : (row : Row) (k : Word) (a b : Text) (rest : List Text) → row.words ≡ k ∷ [] → IsPlainWord a → IsPlainWord b
    → Refuses row (a ∷ b ∷ rest)
unfolding clap_on_literals
two_of_one row k a b rest is pa pb =
    let ea = pa.long in let fa = pa.short in let ga = pa.dashes in
    let eb = pb.long in let fb = pb.short in let gb = pb.dashes in
    rw is (simp (ea, fa, ga, eb, fb, gb) (refl {a = false}), simp (ea, fa, ga, eb, fb, gb) (past_one a b (taken rest)))

two_of_one_after_dashes : (row : Row) (k : Word) (a b c : Text) (rest : List Text) → row.words ≡ k ∷ []
    → is_dashes a ≡ true → Refuses row (a ∷ b ∷ c ∷ rest)
unfolding clap_on_literals
two_of_one_after_dashes row k a b c rest is da =
    rw is (simp (da) (refl {a = false}), simp (da) (unequal (length (b ∷ c ∷ rest)) 1 (λ same. absurd (omega arith))))

two_of_one_around_dashes : (row : Row) (k : Word) (a b c : Text) (rest : List Text) → row.words ≡ k ∷ [] → IsPlainWord a
    → is_dashes b ≡ true → Refuses row (a ∷ b ∷ c ∷ rest)
unfolding clap_on_literals
two_of_one_around_dashes row k a b c rest is pa db =
    let ea = pa.long in let fa = pa.short in let ga = pa.dashes in
    rw is (
      simp (ea, fa, ga, db) (refl {a = false}),
      simp (ea, fa, ga, db) (unequal (length (a ∷ c ∷ rest)) 1 (λ same. absurd (omega arith))),
    )

-- ---- a subcommand with two words

none_of_two : (row : Row) (k l : Word) → row.words ≡ k ∷ l ∷ [] → Refuses row []
unfolding clap_on_literals
none_of_two row k l is =
    rw is ((refl {a = false}), (refl {a = false}))

none_of_two_after_dashes : (row : Row) (k l : Word) (a : Text) → row.words ≡ k ∷ l ∷ [] → is_dashes a ≡ true
    → Refuses row (a ∷ [])
unfolding clap_on_literals
none_of_two_after_dashes row k l a is da =
    rw is (simp (da) (refl {a = false}), simp (da) (refl {a = false}))

one_of_two : (row : Row) (k l : Word) (a : Text) → row.words ≡ k ∷ l ∷ [] → IsPlainWord a → Refuses row (a ∷ [])
unfolding clap_on_literals
one_of_two row k l a is pa =
    let ea = pa.long in let fa = pa.short in let ga = pa.dashes in
    rw is (simp (ea, fa, ga) (refl {a = false}), simp (ea, fa, ga) (refl {a = false}))

one_of_two_after_dashes : (row : Row) (k l : Word) (a b : Text) → row.words ≡ k ∷ l ∷ [] → is_dashes a ≡ true
    → Refuses row (a ∷ b ∷ [])
unfolding clap_on_literals
one_of_two_after_dashes row k l a b is da =
    rw is (simp (da) (refl {a = false}), simp (da) (refl {a = false}))

one_of_two_before_dashes : (row : Row) (k l : Word) (a b : Text) → row.words ≡ k ∷ l ∷ [] → IsPlainWord a
    → is_dashes b ≡ true → Refuses row (a ∷ b ∷ [])
unfolding clap_on_literals
one_of_two_before_dashes row k l a b is pa db =
    let ea = pa.long in let fa = pa.short in let ga = pa.dashes in
    rw is (simp (ea, fa, ga, db) (refl {a = false}), simp (ea, fa, ga, db) (refl {a = false}))

two_of_two : (row : Row) (k l : Word) (a b : Text) → row.words ≡ k ∷ l ∷ [] → IsPlainWord a → IsPlainWord b
    → Takes row (a ∷ b ∷ [])
unfolding clap_on_literals
two_of_two row k l a b is pa pb =
    let ea = pa.long in let fa = pa.short in let ga = pa.dashes in
    let eb = pb.long in let fb = pb.short in let gb = pb.dashes in
    rw is (
      simp (ea, fa, ga, eb, fb, gb) (refl {a = []}),
      simp (ea, fa, ga, eb, fb, gb) (refl {a = Some (a ∷ b ∷ [])}),
      simp (ea, fa, ga, eb, fb, gb) (refl {a = true}),
    )

two_after_dashes : (row : Row) (k l : Word) (a b c : Text) → row.words ≡ k ∷ l ∷ [] → is_dashes a ≡ true
    → Takes row (a ∷ b ∷ c ∷ [])
unfolding clap_on_literals
two_after_dashes row k l a b c is da =
    rw is (simp (da) (refl {a = []}), simp (da) (refl {a = Some (b ∷ c ∷ [])}), simp (da) (refl {a = true}))

two_around_dashes : (row : Row) (k l : Word) (a b c : Text) → row.words ≡ k ∷ l ∷ [] → IsPlainWord a
    → is_dashes b ≡ true → Takes row (a ∷ b ∷ c ∷ [])
unfolding clap_on_literals
two_around_dashes row k l a b c is pa db =
    let ea = pa.long in let fa = pa.short in let ga = pa.dashes in
    rw is (
      simp (ea, fa, ga, db) (refl {a = []}),
      simp (ea, fa, ga, db) (refl {a = Some (a ∷ c ∷ [])}),
      simp (ea, fa, ga, db) (refl {a = true}),
    )

two_before_dashes : (row : Row) (k l : Word) (a b c : Text) → row.words ≡ k ∷ l ∷ [] → IsPlainWord a → IsPlainWord b
    → is_dashes c ≡ true → Takes row (a ∷ b ∷ c ∷ [])
unfolding clap_on_literals
two_before_dashes row k l a b c is pa pb dc =
    let ea = pa.long in let fa = pa.short in let ga = pa.dashes in
    let eb = pb.long in let fb = pb.short in let gb = pb.dashes in
    rw is (
      simp (ea, fa, ga, eb, fb, gb, dc) (refl {a = []}),
      simp (ea, fa, ga, eb, fb, gb, dc) (refl {a = Some (a ∷ b ∷ [])}),
      simp (ea, fa, ga, eb, fb, gb, dc) (refl {a = true}),
    )

three_of_two : (row : Row) (k l : Word) (a b c : Text) (rest : List Text) → row.words ≡ k ∷ l ∷ [] → IsPlainWord a
    → IsPlainWord b → IsPlainWord c → Refuses row (a ∷ b ∷ c ∷ rest)
unfolding clap_on_literals
three_of_two row k l a b c rest is pa pb pc =
    let ea = pa.long in let fa = pa.short in let ga = pa.dashes in
    let eb = pb.long in let fb = pb.short in let gb = pb.dashes in
    let ec = pc.long in let fc = pc.short in let gc = pc.dashes in
    rw is (
      simp (ea, fa, ga, eb, fb, gb, ec, fc, gc) (refl {a = false}),
      simp (ea, fa, ga, eb, fb, gb, ec, fc, gc) (past_two a b c (taken rest)),
    )

three_of_two_after_dashes : (row : Row) (k l : Word) (a b c d : Text) (rest : List Text) → row.words ≡ k ∷ l ∷ []
    → is_dashes a ≡ true → Refuses row (a ∷ b ∷ c ∷ d ∷ rest)
unfolding clap_on_literals
three_of_two_after_dashes row k l a b c d rest is da =
    rw is (
      simp (da) (refl {a = false}),
      simp (da) (unequal (length (b ∷ c ∷ d ∷ rest)) 2 (λ same. absurd (omega arith))),
    )

three_of_two_around_dashes : (row : Row) (k l : Word) (a b c d : Text) (rest : List Text) → row.words ≡ k ∷ l ∷ []
    → IsPlainWord a → is_dashes b ≡ true → Refuses row (a ∷ b ∷ c ∷ d ∷ rest)
unfolding clap_on_literals
three_of_two_around_dashes row k l a b c d rest is pa db =
    let ea = pa.long in let fa = pa.short in let ga = pa.dashes in
    rw is (
      simp (ea, fa, ga, db) (refl {a = false}),
      simp (ea, fa, ga, db) (unequal (length (a ∷ c ∷ d ∷ rest)) 2 (λ same. absurd (omega arith))),
    )

three_of_two_past_dashes : (row : Row) (k l : Word) (a b c d : Text) (rest : List Text) → row.words ≡ k ∷ l ∷ []
    → IsPlainWord a → IsPlainWord b → is_dashes c ≡ true → Refuses row (a ∷ b ∷ c ∷ d ∷ rest)
unfolding clap_on_literals
three_of_two_past_dashes row k l a b c d rest is pa pb dc =
    let ea = pa.long in let fa = pa.short in let ga = pa.dashes in
    let eb = pb.long in let fb = pb.short in let gb = pb.dashes in
    rw is (
      simp (ea, fa, ga, eb, fb, gb, dc) (refl {a = false}),
      simp (ea, fa, ga, eb, fb, gb, dc) (unequal (length (a ∷ b ∷ d ∷ rest)) 2 (λ same. absurd (omega arith))),
    )

-- ---- an option among the words of a subcommand

leaf_requests : (row : Row) (kinds : List Word) → row.words ≡ kinds → nat_le (length kinds) 2 ≡ true
    → AreRequests (leaf row).rules
leaf_requests row [] is few = rw is (inr (record { alone = refl; asks = λ again rows. refl }), tt)
leaf_requests row (k ∷ []) is few = rw is (inl refl, (inr (record { alone = refl; asks = λ again rows. refl }), tt))
leaf_requests row (k ∷ l ∷ []) is few =
    rw is (inl refl, (inl refl, (inr (record { alone = refl; asks = λ again rows. refl }), tt)))
leaf_requests row (k ∷ l ∷ m ∷ ks) is few = absurd (omega (arith, leb-true (length (k ∷ l ∷ m ∷ ks)) 2 few))

-- the walk after these words
abbrev after : Row → List Text → Walk
after row words = fold (walked (leaf row).rules []) (walk_from nothing_held) words

option_after : (row : Row) (before : List Text) (word : Text) (rest : List Text) → AreRequests (leaf row).rules
    → IsGoing (after row before) → IsOptionWord word → is_empty (leaf_fault row (before ++ word ∷ rest)) ≡ false
option_after row before word rest are going is =
    first_fails _ _ (fails_after (leaf row) [] (walk_from nothing_held) before word rest
    (turn_fails (leaf row) [] (after row before) word are going (nothing_met (after row before).waiting word) is))

going_one : (row : Row) (k : Word) (a : Text) → row.words ≡ k ∷ [] → IsPlainWord a → IsGoing (after row (a ∷ []))
unfolding clap_on_literals
going_one row k a is pa =
    let ea = pa.long in let fa = pa.short in let ga = pa.dashes in
    rw is (simp (ea, fa, ga) (refl {a = None}), simp (ea, fa, ga) (refl {a = false}), simp (ea, fa, ga) (refl {a = 0}))

going_first : (row : Row) (k l : Word) (a : Text) → row.words ≡ k ∷ l ∷ [] → IsPlainWord a
    → IsGoing (after row (a ∷ []))
unfolding clap_on_literals
going_first row k l a is pa =
    let ea = pa.long in let fa = pa.short in let ga = pa.dashes in
    rw is (simp (ea, fa, ga) (refl {a = None}), simp (ea, fa, ga) (refl {a = false}), simp (ea, fa, ga) (refl {a = 0}))

going_second : (row : Row) (k l : Word) (a b : Text) → row.words ≡ k ∷ l ∷ [] → IsPlainWord a → IsPlainWord b
    → IsGoing (after row (a ∷ b ∷ []))
unfolding clap_on_literals
going_second row k l a b is pa pb =
    let ea = pa.long in let fa = pa.short in let ga = pa.dashes in
    let eb = pb.long in let fb = pb.short in let gb = pb.dashes in
    rw is (
      simp (ea, fa, ga, eb, fb, gb) (refl {a = None}),
      simp (ea, fa, ga, eb, fb, gb) (refl {a = false}),
      simp (ea, fa, ga, eb, fb, gb) (refl {a = 0}),
    )

-- a command with an option takes no words
none_taken : (row : Row) (words : Option (List Text)) → words ≡ None → has_as_many row words ≡ false
none_taken row words none = rw none refl

option_first : (row : Row) (o : Text) (rest : List Text) → AreRequests (leaf row).rules → IsOptionWord o
    → Refuses row (o ∷ rest)
option_first row o rest are q =
    let d = q.dashes in let i = q.is in
    (option_after row [] o rest are (refl, refl, refl) q, none_taken row (taken (o ∷ rest)) (rw (d, i) refl))

option_second : (row : Row) (a o : Text) (rest : List Text) → AreRequests (leaf row).rules
    → IsGoing (after row (a ∷ [])) → IsPlainWord a → IsOptionWord o → Refuses row (a ∷ o ∷ rest)
option_second row a o rest are going pa q =
    let ea = pa.long in let fa = pa.short in let ga = pa.dashes in let d = q.dashes in let i = q.is in
    (option_after row (a ∷ []) o rest are going q, none_taken row (taken (a ∷ o ∷ rest)) (rw (ga, ea, fa, d, i) refl))

option_third : (row : Row) (a b o : Text) (rest : List Text) → AreRequests (leaf row).rules
    → IsGoing (after row (a ∷ b ∷ [])) → IsPlainWord a → IsPlainWord b → IsOptionWord o → Refuses row (a ∷ b ∷ o ∷ rest)
option_third row a b o rest are going pa pb q =
    let ea = pa.long in let fa = pa.short in let ga = pa.dashes in
    let eb = pb.long in let fb = pb.short in let gb = pb.dashes in let d = q.dashes in let i = q.is in (
      option_after row (a ∷ b ∷ []) o rest are going q,
      none_taken row (taken (a ∷ b ∷ o ∷ rest)) (rw (ga, ea, fa, gb, eb, fb, d, i) refl),
    )

-- ---- the words decide

abbrev pub AreUtf8 : List Text → Type 0
AreUtf8 [] = ⊤
AreUtf8 (word ∷ words) = IsUtf8 word × AreUtf8 words

abbrev Decided : Row → List Text → Type 0
Decided row words = Takes row words ⊎ Refuses row words

module _ (row : Row) (is : row.words ≡ []) (are : AreRequests (leaf row).rules) where
  dashes_of_none : (a : Text) (more : List Text) → is_dashes a ≡ true → Decided row (a ∷ more)
  dashes_of_none a [] d = inl (none_after_dashes row a is d)
  dashes_of_none a (b ∷ rest) d = inr (one_of_none_after_dashes row a b rest is d)

  of_none : (words : List Text) → AreUtf8 words → Decided row words
  of_none [] u = inl (none_of_none row is)
  of_none (a ∷ more) u = elim (seen a u.0) [
    | inl d ↦ dashes_of_none a more d
    | inr (inl p) ↦ inr (one_of_none row a more is p)
    | inr (inr q) ↦ inr (option_first row a more are q)
  ]

module _ (row : Row) (k : Word) (is : row.words ≡ k ∷ []) (are : AreRequests (leaf row).rules) where
  dashes_of_one : (a : Text) (more : List Text) → is_dashes a ≡ true → Decided row (a ∷ more)
  dashes_of_one a [] d = inr (none_of_one_after_dashes row k a is d)
  dashes_of_one a (b ∷ []) d = inl (one_after_dashes row k a b is d)
  dashes_of_one a (b ∷ c ∷ rest) d = inr (two_of_one_after_dashes row k a b c rest is d)

  dashes_after_one : (a b : Text) (more : List Text) → IsPlainWord a → is_dashes b ≡ true → Decided row (a ∷ b ∷ more)
  dashes_after_one a b [] p d = inl (one_before_dashes row k a b is p d)
  dashes_after_one a b (c ∷ rest) p d = inr (two_of_one_around_dashes row k a b c rest is p d)

  past_first : (a : Text) (more : List Text) → IsPlainWord a → AreUtf8 more → Decided row (a ∷ more)
  past_first a [] p u = inl (one_of_one row k a is p)
  past_first a (b ∷ more) p u = elim (seen b u.0) [
    | inl d ↦ dashes_after_one a b more p d
    | inr (inl q) ↦ inr (two_of_one row k a b more is p q)
    | inr (inr q) ↦ inr (option_second row a b more are (going_one row k a is p) p q)
  ]

  of_one : (words : List Text) → AreUtf8 words → Decided row words
  of_one [] u = inr (none_of_one row k is)
  of_one (a ∷ more) u = elim (seen a u.0) [
    | inl d ↦ dashes_of_one a more d
    | inr (inl p) ↦ past_first a more p u.1
    | inr (inr q) ↦ inr (option_first row a more are q)
  ]

module _ (row : Row) (k l : Word) (is : row.words ≡ k ∷ l ∷ []) (are : AreRequests (leaf row).rules) where
  dashes_of_two : (a : Text) (more : List Text) → is_dashes a ≡ true → Decided row (a ∷ more)
  dashes_of_two a [] e = inr (none_of_two_after_dashes row k l a is e)
  dashes_of_two a (b ∷ []) e = inr (one_of_two_after_dashes row k l a b is e)
  dashes_of_two a (b ∷ c ∷ []) e = inl (two_after_dashes row k l a b c is e)
  dashes_of_two a (b ∷ c ∷ d ∷ rest) e = inr (three_of_two_after_dashes row k l a b c d rest is e)

  dashes_after_first : (a b : Text) (more : List Text) → IsPlainWord a → is_dashes b ≡ true → Decided row (a ∷ b ∷ more)
  dashes_after_first a b [] p e = inr (one_of_two_before_dashes row k l a b is p e)
  dashes_after_first a b (c ∷ []) p e = inl (two_around_dashes row k l a b c is p e)
  dashes_after_first a b (c ∷ d ∷ rest) p e = inr (three_of_two_around_dashes row k l a b c d rest is p e)

  dashes_after_two : (a b c : Text) (more : List Text) → IsPlainWord a → IsPlainWord b → is_dashes c ≡ true
      → Decided row (a ∷ b ∷ c ∷ more)
  dashes_after_two a b c [] p q e = inl (two_before_dashes row k l a b c is p q e)
  dashes_after_two a b c (d ∷ rest) p q e = inr (three_of_two_past_dashes row k l a b c d rest is p q e)

  past_both : (a b : Text) (more : List Text) → IsPlainWord a → IsPlainWord b → AreUtf8 more
      → Decided row (a ∷ b ∷ more)
  past_both a b [] p q u = inl (two_of_two row k l a b is p q)
  past_both a b (c ∷ more) p q u = elim (seen c u.0) [
    | inl d ↦ dashes_after_two a b c more p q d
    | inr (inl r) ↦ inr (three_of_two row k l a b c more is p q r)
    | inr (inr r) ↦ inr (option_third row a b c more are (going_second row k l a b is p q) p q r)
  ]

  past_first_of_two : (a : Text) (more : List Text) → IsPlainWord a → AreUtf8 more → Decided row (a ∷ more)
  past_first_of_two a [] p u = inr (one_of_two row k l a is p)
  past_first_of_two a (b ∷ more) p u = elim (seen b u.0) [
    | inl d ↦ dashes_after_first a b more p d
    | inr (inl q) ↦ past_both a b more p q u.1
    | inr (inr q) ↦ inr (option_second row a b more are (going_first row k l a is p) p q)
  ]

  of_two : (words : List Text) → AreUtf8 words → Decided row words
  of_two [] u = inr (none_of_two row k l is)
  of_two (a ∷ more) u = elim (seen a u.0) [
    | inl d ↦ dashes_of_two a more d
    | inr (inl p) ↦ past_first_of_two a more p u.1
    | inr (inr q) ↦ inr (option_first row a more are q)
  ]

words_decide : (row : Row) (kinds : List Word) (words : List Text) → row.words ≡ kinds → nat_le (length kinds) 2 ≡ true
    → AreUtf8 words → Decided row words
words_decide row [] words is few u = of_none row is (leaf_requests row [] is few) words u
words_decide row (k ∷ []) words is few u = of_one row k is (leaf_requests row (k ∷ []) is few) words u
words_decide row (k ∷ l ∷ []) words is few u = of_two row k l is (leaf_requests row (k ∷ l ∷ []) is few) words u
words_decide row (k ∷ l ∷ m ∷ ks) words is few u = absurd (omega (arith, leb-true (length (k ∷ l ∷ m ∷ ks)) 2 few))

-- ---- a word that names no subcommand

none_met : (rows : List Row) (name : Text) → row_named name rows ≡ None
    → subcommand_met (names_in rows) idle name ≡ None
none_met rows name none = met_name above rows name ∙ ap (λ (o : Option Row). option_map (λ r. r.name) o) none

unknown_name : (rows : List Row) (program name : Text) (rest : List Text) → row_named name rows ≡ None
    → IsPlainWord name → is_empty (fault_of (preserved rows) (program ∷ name ∷ rest)) ≡ false
unfolding clap_on_literals
unknown_name rows program name rest none p =
    let met = none_met rows name none in
    let e = p.long in let f = p.short in let g = p.dashes in simp (met, e, f, g) (refl {a = false})

unknown_dashes : (rows : List Row) (program name : Text) (rest : List Text) → row_named name rows ≡ None
    → is_dashes name ≡ true → is_empty (fault_of (preserved rows) (program ∷ name ∷ rest)) ≡ false
unfolding clap_on_literals
unknown_dashes rows program name [] none d = let met = none_met rows name none in simp (met, d) (refl {a = false})
unknown_dashes rows program name (word ∷ rest) none d =
    let met = none_met rows name none in simp (met, d) (refl {a = false})

top_requests : (rows : List Row) → AreRequests (top_of rows).rules
top_requests rows = (
  inr (record { alone = refl; asks = λ again found. refl }),
  (inr (record { alone = refl; asks = λ again found. refl }), tt),
)

unknown_option : (rows : List Row) (program name : Text) (rest : List Text) → row_named name rows ≡ None
    → IsOptionWord name → is_empty (fault_of (preserved rows) (program ∷ name ∷ rest)) ≡ false
unknown_option rows program name rest none is =
    first_fails _ _ (fails_after (top_of rows) (names_in rows) (walk_from nothing_held) [] name rest
    (turn_fails (top_of rows) (names_in rows) (walk_from nothing_held) name (top_requests rows) (refl, refl, refl)
    (none_met rows name none) is))

name_unknown : (rows : List Row) (program name : Text) (rest : List Text) → row_named name rows ≡ None → IsUtf8 name
    → is_empty (fault_of (preserved rows) (program ∷ name ∷ rest)) ≡ false
name_unknown rows program name rest none u = elim (seen name u) [
  | inl d ↦ unknown_dashes rows program name rest none d
  | inr (inl p) ↦ unknown_name rows program name rest none p
  | inr (inr q) ↦ unknown_option rows program name rest none q
]

-- ---- all words

-- A parse of these words is refused exactly where they ask for nothing, and else enters the row and finds the words
-- that they ask for.
abbrev Enters : List Row → List Text → Row → Type 0
Enters rows words row =
    (fault_of (preserved rows) words ≡ []) × (row_named row.name rows ≡ Some row) × (rest : List Text)
    × (wanted_in rows words ≡ Some (record { row = row; words = found_in row rest }))
    × (subcommand_of (preserved rows) words ≡ Some (rows_at (leaf row) rest))

abbrev AsksNothing : List Row → List Text → Type 0
AsksNothing rows words = (is_empty (fault_of (preserved rows) words) ≡ false) × (wanted_in rows words ≡ None)

abbrev Decides : List Row → List Text → Type 0
Decides rows words = ((row : Row) × Enters rows words row) ⊎ AsksNothing rows words

-- each row has at most two words
abbrev is_short : Row → Bool
is_short row = nat_le (length row.words) 2

is_short_named : (rows : List Row) (name : Text) (row : Row) → list_all is_short rows ≡ true
    → row_named name rows ≡ Some row → is_short row ≡ true
is_short_named [] name row all h = absurd cc
is_short_named (x ∷ rows) name row all h =
    let parts = both _ _ all in by (bytes_eq x.name name) refl (is_short_named rows name row parts.1) parts.0
  where
    by : (b : Bool) → bytes_eq x.name name ≡ b → (row_named name rows ≡ Some row → is_short row ≡ true)
        → is_short x ≡ true → is_short row ≡ true
    by true e more first =
        let found : Some x ≡ Some row = rw e at h in
        let same : x ≡ row = cc in
        subst (λ (r : Row). is_short r ≡ true) same first
    by false e more first = more (rw e at h)

or_nil : (k : Kinds) → or_else k [] ≡ k
or_nil [] = refl
or_nil (x ∷ xs) = refl

-- what is asked where the row has as many words, and where not
asked_so : (row : Row) (words : List Text) (found : List Text) → taken words ≡ Some found
    → has_as_many row (taken words) ≡ true → wanted_by words row ≡ Some (record { row = row; words = found })
asked_so row words found is many =
    let all : (length found == length row.words) ≡ true = rw is at many in rw is (rw all refl)

asked_not : (row : Row) (words : Option (List Text)) → has_as_many row words ≡ false
    → option_and_then (with_words row) words ≡ None
asked_not row None many = refl
asked_not row (Some found) many = rw many refl

row_decides : (rows : List Row) (program name : Text) (row : Row) (words : List Text) → row_named name rows ≡ Some row
    → Decided row words → Decides rows (program ∷ name ∷ words)
row_decides rows program name row words e (inl takes) = inl (
  row,
  (
    fault_named rows program name row words e ∙ ap (λ (k : Kinds). or_else k []) takes.0,
    subst (λ (n : Text). row_named n rows ≡ Some row) (sym (named_so rows name row e)) e,
    words,
    ap (λ (o : Option Row). option_and_then (wanted_by words) o) e
        ∙ asked_so row words (found_in row words) takes.1 takes.2,
    entered_named rows program name row words e,
  ),
)
row_decides rows program name row words e (inr refuses) = inr (
  ap (is_empty {X = ErrorKind}) (fault_named rows program name row words e ∙ or_nil (leaf_fault row words)) ∙ refuses.0,
  ap (λ (o : Option Row). option_and_then (wanted_by words) o) e ∙ asked_not row (taken words) refuses.1,
)

no_words : (rows : List Row) → is_empty (fault_of (preserved rows) []) ≡ false
unfolding clap_on_literals
no_words rows = refl {a = false}

no_name : (rows : List Row) (program : Text) → is_empty (fault_of (preserved rows) (program ∷ [])) ≡ false
unfolding clap_on_literals
no_name rows program = refl {a = false}

decides : (rows : List Row) → list_all is_short rows ≡ true → (words : List Text) → AreUtf8 words → Decides rows words
decides rows all [] u = inr (no_words rows, refl)
decides rows all (program ∷ []) u = inr (no_name rows program, refl)
decides rows all (program ∷ name ∷ rest) u = by (row_named name rows) refl
  where
    by : (o : Option Row) → row_named name rows ≡ o → Decides rows (program ∷ name ∷ rest)
    by None e =
        inr (name_unknown rows program name rest e u.1.0, ap (λ (o : Option Row). option_and_then (wanted_by rest) o) e)
    by (Some row) e =
        row_decides rows program name row rest e
        (words_decide row row.words rest refl (is_short_named rows name row all e) u.1.1)

-- the words are text
pub are_utf8 : (words : List (String Global)) → AreUtf8 (map (λ s. string_bytes s) words)
are_utf8 [] = tt
are_utf8 (word ∷ words) = (IsUtf8-string_bytes word, are_utf8 words)

-- ---- the program's table

all_short : list_all is_short table ≡ true
all_short = refl

keep_is_simple : is_simple_and_free program_app ≡ true
unfolding clap_on_literals
keep_is_simple = refl {a = true}

keep_simple : is_simple program_app ≡ true
unfolding clap_on_literals
keep_simple = refl {a = true}

-- what is read where the words enter a row is what they ask for
reads_same : (words : List Text) (row : Row) (rows : Option (Text × List Found))
    → rows ≡ subcommand_of program_app words → Enters table words row → wanted_of words ≡ Some (read_rows rows)
reads_same words row rows met enters =
    let at : rows ≡ Some (rows_at (leaf row) enters.2) = met ∙ enters.4 in
    enters.3 ∙ (rw at (rw enters.1 refl))

pub err_refuses : (app : App) (words : List Text) (e : Error) → app ≡ program_app → AreUtf8 words
    → (is_simple_and_free app ≡ true → HasKind (fault_of app words) e) → (kind_of e ≡ OutOfMemory → ⊥)
    → wanted_of words ≡ None
err_refuses app words e is_app u fails not_memory =
    elim (decides table all_short words u) [
      | inl enters ↦ (
          let has : HasKind (fault_of app words) e = fails (ap is_simple_and_free is_app ∙ keep_is_simple) in
          let none : fault_of app words ≡ [] = ap (λ (a : App). fault_of a words) is_app ∙ enters.1.0 in
          let bad : HasKind [] e = subst (λ (k : Kinds). HasKind k e) none has in
          elim bad [ inl memory ↦ absurd (not_memory memory) | inr never ↦ absurd never ])
      | inr nothing ↦ nothing.1
    ]

pub ok_reads : (app : App) (words : List Text) (m : ArgMatches) → app ≡ program_app → AreUtf8 words
    → (is_simple_and_free app ≡ true → fault_of app words ≡ []) → HasMatchesOf app words m
    → wanted_of words ≡ Some (read_rows (subcommand_rows_of m))
ok_reads app words m is_app u takes matches =
    let none : fault_of app words ≡ [] = takes (ap is_simple_and_free is_app ∙ keep_is_simple) in
    let met : subcommand_rows_of m ≡ subcommand_of program_app words =
    (matches (ap is_simple is_app ∙ keep_simple)).1 ∙ ap (λ (a : App). subcommand_of a words) is_app in
    elim (decides table all_short words u) [
      | inl enters ↦ reads_same words enters.0 (subcommand_rows_of m) met enters.1
      | inr nothing ↦ (
          let empty : fault_of program_app words ≡ [] = ap (λ (a : App). fault_of a words) (sym is_app) ∙ none in
          let bad : true ≡ false = sym (ap (is_empty {X = ErrorKind}) empty) ∙ nothing.0 in
          cc)
    ]

-- ---- what is read is a whole row

row_in : (rows : List Row) (name : Text) (row : Row) → row_named name rows ≡ Some row → Contains rows row
row_in [] name row h = absurd cc
row_in (x ∷ rows) name row h = by (bytes_eq x.name name) refl (row_in rows name row)
  where
    later : Contains rows row → Contains (x ∷ rows) row
    later (k, lt, at) = (suc k, omega (arith, lt), at)

    by : (b : Bool) → bytes_eq x.name name ≡ b → (row_named name rows ≡ Some row → Contains rows row)
        → Contains (x ∷ rows) row
    by true e more =
        let found : Some x ≡ Some row = rw e at h in
        let same : x ≡ row = cc in
        (0, omega arith, same)
    by false e more = later (more (rw e at h))

many_in : (row : Row) (kinds : List Word) (found : List Found) → row.words ≡ kinds → is_short row ≡ true
    → length (words_in row found) ≡ length row.words
many_in row [] found is few = rw is refl
many_in row (k ∷ []) found is few = rw is refl
many_in row (k ∷ l ∷ []) found is few = rw is refl
many_in row (k ∷ l ∷ m ∷ ks) found is few =
    absurd (let many : nat_le (length (k ∷ l ∷ m ∷ ks)) 2 ≡ true = rw is at few in
    omega (arith, leb-true (length (k ∷ l ∷ m ∷ ks)) 2 many))

whole_with : (row : Row) (found : List Found) → Contains table row → is_short row ≡ true
    → IsWhole (wanted_with found row)
whole_with row found here few = record { row = here; many = many_in row row.words found refl few }

pub whole_read : (found : Option (Text × List Found)) → IsWhole (read_rows found)
whole_read None = whole_with first_row [] (0, omega arith, refl) refl
whole_read (Some p) = by (row_named p.0 table) refl
  where
    by : (o : Option Row) → row_named p.0 table ≡ o → IsWhole (wanted_with p.1 (unwrap_or o first_row))
    by None e = whole_with first_row p.1 (0, omega arith, refl) refl
    by (Some row) e = whole_with row p.1 (row_in table p.0 row e) (is_short_named table p.0 row all_short e)
