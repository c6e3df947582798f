-- The facts with a new section: its keyval's under the keyval's path, a table at its own path, and elsewhere what was
-- there.
--
-- Theorem: `section_tree`.
use Rattle.std.proofs.Common.{◌≡◌, ℕ, Bool, true, false, cond, List, [], ◌∷◌, ◌++◌, take, drop, refl, sym, ap, subst}
use Rattle.std.proofs.Common.{◌∙◌, append_assoc, Option, Some, None, inl, inr}
use Rattle.std.specs.List.{filter_map, cons_option}
use Rattle.keep_syntax.specs.Tree.{Value, Document}
use Rattle.keep_meaning.specs.Fact.{Fact, table}
use Rattle.keep_path.specs.Path.{Part, same_path}
use Rattle.keep_meaning.specs.Marks.{MentionKind, define, Mention, fact_of, Reading, start, header_prefixes}
use Rattle.keep_meaning.specs.Meaning.{lines_mentions, reading_after_lines, lines, mentions_in, mentions_of_value}
use Rattle.keep_meaning.specs.Nodes.{is_at, kinds_at, fact_at, first_of}
use Rattle.keep_edit_spec.specs.Look.{strip}
use Rattle.keep_edit_spec.proofs.Common.Runs.{AllOf, all_map, Allowed, same_path-sound, same_path-refl, kinds_at-append}
use Rattle.keep_edit_spec.proofs.Common.InsertLaw.{without_ways}
use Rattle.keep_edit_spec.proofs.Insert.InsertDotted.{mentioned_before}
use Rattle.keep_edit_spec.proofs.Append.AppendTable.{AtMostTable, more_facts, before_define, silent_prefixes}
use Rattle.keep_edit_spec.proofs.Insert.SectionLaw.{IsSectionPlace, IsSectionLaw}

table_amid : (q : List Part) (m : Mention) (ms more : List Mention) → is_at q m ≡ true → fact_of m.kind ≡ Some table
    → AllOf (λ x. x.path ≡ q → AtMostTable x.kind) ms → fact_at q (ms ++ m ∷ more) ≡ Some table
table_amid q m [] more e stated h =
    more_facts q m more e
    ∙ ap (λ (o : Option Fact). first_of (cons_option o (filter_map fact_of (kinds_at q more)))) stated
table_amid q m (x ∷ ms) more e stated h = by (is_at q x) refl (table_amid q m ms more e stated h.1)
  where
    by : (b : Bool) → is_at q x ≡ b → fact_at q (ms ++ m ∷ more) ≡ Some table
        → fact_at q (x ∷ (ms ++ m ∷ more)) ≡ Some table
    by false k ih = rw k ih
    by true k ih = more_facts q x (ms ++ m ∷ more) k ∙ (elim (h.0 (same_path-sound x.path q k)) [
      | inl no_fact ↦
          ap (λ (o : Option Fact). first_of (cons_option o (filter_map fact_of (kinds_at q (ms ++ m ∷ more))))) no_fact
          ∙ ih
      | inr a_table ↦
          ap (λ (o : Option Fact). first_of (cons_option o (filter_map fact_of (kinds_at q (ms ++ m ∷ more))))) a_table
    ])

skip_mentions : (q : List Part) (m : Mention) (more : List Mention) → is_at q m ≡ false
    → kinds_at q (m ∷ more) ≡ kinds_at q more
skip_mentions q m more e = rw e refl

other_amid : (q : List Part) (m : Mention) (ms more : List Mention) → is_at q m ≡ false
    → fact_at q (ms ++ m ∷ more) ≡ fact_at q (ms ++ more)
other_amid q m ms more e =
    ap (λ (l : List MentionKind). first_of (filter_map fact_of l))
    (kinds_at-append q ms (m ∷ more) ∙ ap (λ (l : List MentionKind). kinds_at q ms ++ l) (skip_mentions q m more e)
    ∙ sym (kinds_at-append q ms more))

amid : (q : List Part) (m : Mention) (ms more : List Mention) → fact_of m.kind ≡ Some table
    → AllOf (λ x. x.path ≡ m.path → AtMostTable x.kind) ms → (b : Bool) → same_path q m.path ≡ b
    → fact_at q (ms ++ m ∷ more) ≡ cond b (Some table) (fact_at q (ms ++ more))
amid q m ms more stated h true e =
    let same : q ≡ m.path = same_path-sound q m.path e in
    table_amid q m ms more (subst (λ (p : List Part). same_path m.path p ≡ true) (sym same) (same_path-refl m.path))
    stated (subst (λ (p : List Part). AllOf (λ x. x.path ≡ p → AtMostTable x.kind) ms) (sym same) h)
amid q m ms more stated h false e = other_amid q m ms more (by (is_at q m) refl)
  where
    by : (c : Bool) → is_at q m ≡ c → is_at q m ≡ false
    by false k = k
    by true k =
        let y : same_path q m.path ≡ true =
        subst (λ (p : List Part). same_path q p ≡ true) (sym (same_path-sound m.path q k)) (same_path-refl q) in
        absurd cc

-- the fact of the new value, or another
abbrev pub given_or : Value → Option (List Part) → Option Fact → Option Fact
given_or v (Some more) other = fact_at more (mentions_of_value v)
given_or v None other = other

-- The tree with a new section: the keyval's facts under its path, a table at the section's path, and elsewhere what was
-- there.
pub section_tree : (s : Document) (n : ℕ) (a : List Part) (keys : List (List ℕ)) (p : List Part) (v : Value)
    (s' : Document) → IsSectionPlace s n a keys → IsSectionLaw s n a keys p v s' → (q : List Part)
    → fact_at q (mentions_in s') ≡ given_or v (strip p q) (cond (same_path q a) (Some table)
    (fact_at q (mentions_in s)))
section_tree s n a keys p v s' place law q = law.tree q ∙ start_by (strip p q) ∙ by (strip p q)
  where
    r : Reading
    r = reading_after_lines start (take n (lines s))

    before : List Mention
    before = lines_mentions start (take n (lines s))

    after : List Mention
    after = lines_mentions r (drop n (lines s))

    prefixes : List Mention
    prefixes = header_prefixes r.tables [] keys

    m : Mention
    m = record { path = a; kind = define }

    start_by : (o : Option (List Part))
        → elim o [
          | Some more ↦ fact_at more (mentions_of_value v)
          | None ↦
              fact_at q ((before ++ (prefixes ++ m ∷ [])) ++ after)
        ] ≡ given_or v o (fact_at q ((before ++ (prefixes ++ m ∷ [])) ++ after))
    start_by (Some more) = refl
    start_by None = refl

    inner : fact_at q ((before ++ (prefixes ++ m ∷ [])) ++ after)
        ≡ cond (same_path q a) (Some table) (fact_at q (mentions_in s))
    inner =
        ap (fact_at q) (ap (λ (l : List Mention). l ++ after) (sym (append_assoc before prefixes (m ∷ [])))
        ∙ append_assoc (before ++ prefixes) (m ∷ []) after)
        ∙ without_ways q before prefixes (m ∷ after) (silent_prefixes r.tables [] keys)
        ∙ amid q m before after refl (all_map (λ x. Allowed x m) (λ x. x.path ≡ a → AtMostTable x.kind)
        (λ x f e. before_define x.kind (f e)) before place.before_lets) (same_path q a) refl
        ∙ ap (λ (l : List Mention). cond (same_path q a) (Some table) (fact_at q l)) (sym (mentioned_before s n))

    by : (o : Option (List Part))
        → given_or v o (fact_at q ((before ++ (prefixes ++ m ∷ [])) ++ after))
        ≡ given_or v o (cond (same_path q a) (Some table) (fact_at q (mentions_in s)))
    by (Some more) = refl
    by None = inner
