-- The facts about a node after one more mention are the facts before, joined with those from that mention.
--
-- What is known of a node has five fields, and each is shown alone, for one mention more at its path: the kind
-- (`kind_more`, by the mention's kind), the first key part (`key_joined`: the first one stays), the count of marks
-- (`marks_joined`), whether a header passed it (`passed_joined`), and the origin (`place_more`). The origin is the hard
-- one: it is the first known of several numbers in a fixed order, so there is a lemma for each kind of mention that a
-- later one may be (`later_begun`, `later_define` and the others).
--
-- Theorem: `node_joined`: the facts after one more mention are the facts before, joined with its own.
use Rattle.std.proofs.Common.{◌≡◌, ℕ, ◌+◌, ◌<◌, ◌-◌, Bool, true, false, cond, ◌||◌, List, [], ◌∷◌, ◌++◌, map, refl, sym}
use Rattle.std.proofs.Common.{ap, ◌∙◌, arith, Option, Some, None}
use Rattle.std.specs.Prelude.{◌==◌, ◌^◌, min}
use Rattle.std.specs.List.{list_any, filter_map, count_by}
use Rattle.std.specs.Option.{option_map}
use Rattle.std.proofs.lemmas.List.{map-append, append-nil}
use Rattle.std.proofs.lemmas.List.Elements.{filter_map-append}
use Rattle.std.proofs.lemmas.List.Folds.{list_any-append}
use Rattle.std.proofs.lemmas.List.Sums.{sum_by-cons}
use Rattle.std.proofs.lemmas.Bool.Decides.{nat_tests}
use Rattle.std.proofs.Math.Bool.{or-false}
use Rattle.keep_types.specs.declared.node.Kind.{Kind}
use Rattle.keep_types.specs.declared.node.Kind.TheVariants as kind
use Rattle.keep_types.specs.declared.node.Origin.{Origin}
use Rattle.keep_types.specs.declared.node.Origin.TheVariants as origin
use Rattle.keep_types.specs.declared.node.NodeInfo.{NodeInfo}
use Rattle.keep_meaning.specs.Fact.{Fact, table}
use Rattle.keep_path.specs.Path.{Part}
use Rattle.keep_meaning.specs.Marks.{MentionKind, through, past, define, element, dotted, value, begun, passed, item}
use Rattle.keep_meaning.specs.Marks.{fact_of}
use Rattle.keep_meaning.specs.Counts.{Count, Numbered, is_value, is_mark}
use Rattle.keep_meaning.specs.Nodes.{first_of, is_through, is_define, is_element, is_dotted, is_begun, is_passed}
use Rattle.keep_meaning.specs.Nodes.{kind_or_table, mentioned_kind, mention_kind_of, last_number, first_number}
use Rattle.keep_meaning.specs.Nodes.{statement_number, value_number, key_number, first_that_fits, mentioned_origin}
use Rattle.keep_meaning.specs.Nodes.{mentioned_node, node_info}
use Rattle.keep_index_store.specs.Facts.{later_kind, later_origin, joined_info}
use Rattle.keep_rules.specs.MentionInfos.{mention_info}
use Rattle.keep_meaning.proofs.Shared.{marks-more, last_number-more, or_number, first_number-more, passed-more}

-- ---- the kind

abbrev kind_of : Bool → List Fact → Kind
kind_of is_tables facts = cond is_tables kind.Tables (kind_or_table (first_of facts))

no_fact : (b : Bool) (facts : List Fact) → kind_of (b || false) (facts ++ []) ≡ kind_of b facts
no_fact true facts = refl
no_fact false facts = ap (λ fs. kind_or_table (first_of fs)) (append-nil facts)

table_joined : (b : Bool) (facts : List Fact) → kind_of (b || false) (facts ++ table ∷ []) ≡ kind_of b facts
table_joined true facts = refl
table_joined false [] = refl
table_joined false (f ∷ facts) = refl

tables_joined : (b : Bool) (facts : List Fact) → kind_of (b || true) (facts ++ []) ≡ kind.Tables
tables_joined true facts = refl
tables_joined false facts = refl

kind_more : (b : Bool) (facts : List Fact) (s : MentionKind) → is_value s ≡ false
    → kind_of (b || list_any is_element (s ∷ [])) (facts ++ filter_map fact_of (s ∷ []))
    ≡ later_kind (kind_of b facts) (mentioned_kind (s ∷ []))
kind_more b facts through h = no_fact b facts
kind_more b facts past h = no_fact b facts
kind_more b facts define h = table_joined b facts
kind_more b facts element h = tables_joined b facts
kind_more b facts dotted h = no_fact b facts
kind_more b facts begun h = table_joined b facts
kind_more b facts passed h = no_fact b facts
kind_more b facts (value f) h = cc
kind_more b facts (item f) h = cc

mentioned_kind-more : (mention_kind : List MentionKind) (s : MentionKind) → is_value s ≡ false
    → mentioned_kind (mention_kind ++ s ∷ []) ≡ later_kind (mentioned_kind mention_kind) (mentioned_kind (s ∷ []))
mentioned_kind-more mention_kind s h =
    ap (λ b. kind_of b (filter_map fact_of (mention_kind ++ s ∷ []))) (list_any-append is_element mention_kind (s ∷ []))
    ∙ ap (kind_of (list_any is_element mention_kind || list_any is_element (s ∷ [])))
    (filter_map-append fact_of mention_kind (s ∷ []))
    ∙ kind_more (list_any is_element mention_kind) (filter_map fact_of mention_kind) s h

-- ---- the first key part that names it

abbrev is_missing : Option ℕ → Bool
is_missing None = true
is_missing (Some k) = false

some_marks : (k : ℕ) → (1 + k == 0) ≡ false
some_marks k = grind (arith, nat_tests)

no_more : (k : ℕ) → 0 + k ≡ k
no_more k = omega arith

unmarked : (ns : List Numbered)
    → (count_by (λ n. is_mark n.mention.kind) ns == 0) ≡ is_missing (first_number is_mark key_number ns)
unmarked [] = refl
unmarked (n ∷ ns) =
    ap (λ k. k == 0) (sum_by-cons (λ (m : Numbered). cond (is_mark m.mention.kind) 1 0) n ns)
    ∙ elim (is_mark n.mention.kind) as
    (λ b. (cond b 1 0 + count_by (λ n. is_mark n.mention.kind) ns == 0)
    ≡ is_missing (cond b (Some (key_number n.before)) (first_number is_mark key_number ns))) [
      | true ↦ some_marks (count_by (λ n. is_mark n.mention.kind) ns)
      | false ↦ ap (λ k. k == 0) (no_more (count_by (λ n. is_mark n.mention.kind) ns)) ∙ unmarked ns
    ]

first_key : (a b : Option ℕ) (t : Bool) → t ≡ is_missing a → or_number a b ≡ cond t b a
first_key None b t is = rw is
first_key (Some k) b t is = rw is

-- ---- the place

abbrev pub placed : Option ℕ → Option ℕ → Option ℕ → Option ℕ → Option ℕ → Option ℕ → Origin
placed a b c d e f = first_that_fits (
    option_map origin.Value a
    ∷ option_map (λ i. origin.Tables) b
    ∷ option_map origin.Element c
    ∷ option_map origin.Header d
    ∷ option_map origin.Dotted e
    ∷ option_map origin.Through f
    ∷ [])

later_element : (a b c d e f : Option ℕ) (i : ℕ)
    → placed a (Some i) c d e f ≡ later_origin (placed a b c d e f) origin.Tables
later_element (Some j) b c d e f i = refl
later_element None (Some j) c d e f i = refl
later_element None None (Some j) d e f i = refl
later_element None None None (Some j) e f i = refl
later_element None None None None (Some j) f i = refl
later_element None None None None None (Some j) i = refl
later_element None None None None None None i = refl

later_begun : (a b c d e f : Option ℕ) (i : ℕ)
    → placed a b (Some i) d e f ≡ later_origin (placed a b c d e f) (origin.Element i)
later_begun (Some j) b c d e f i = refl
later_begun None (Some j) c d e f i = refl
later_begun None None (Some j) d e f i = refl
later_begun None None None (Some j) e f i = refl
later_begun None None None None (Some j) f i = refl
later_begun None None None None None (Some j) i = refl
later_begun None None None None None None i = refl

later_define : (a b c d e f : Option ℕ) (i : ℕ)
    → placed a b c (Some i) e f ≡ later_origin (placed a b c d e f) (origin.Header i)
later_define (Some j) b c d e f i = refl
later_define None (Some j) c d e f i = refl
later_define None None (Some j) d e f i = refl
later_define None None None (Some j) e f i = refl
later_define None None None None (Some j) f i = refl
later_define None None None None None (Some j) i = refl
later_define None None None None None None i = refl

later_dotted : (a b c d e f : Option ℕ) (i : ℕ)
    → placed a b c d (Some i) f ≡ later_origin (placed a b c d e f) (origin.Dotted i)
later_dotted (Some j) b c d e f i = refl
later_dotted None (Some j) c d e f i = refl
later_dotted None None (Some j) d e f i = refl
later_dotted None None None (Some j) e f i = refl
later_dotted None None None None (Some j) f i = refl
later_dotted None None None None None (Some j) i = refl
later_dotted None None None None None None i = refl

later_through : (a b c d e f : Option ℕ) (i : ℕ)
    → placed a b c d e (Some i) ≡ later_origin (placed a b c d e f) (origin.Through i)
later_through (Some j) b c d e f i = refl
later_through None (Some j) c d e f i = refl
later_through None None (Some j) d e f i = refl
later_through None None None (Some j) e f i = refl
later_through None None None None (Some j) f i = refl
later_through None None None None None (Some j) i = refl
later_through None None None None None None i = refl

later_root : (p : Origin) → p ≡ later_origin p origin.Root
later_root origin.Root = refl
later_root (origin.Through i) = refl
later_root (origin.Dotted v) = refl
later_root (origin.Header i) = refl
later_root (origin.Element i) = refl
later_root origin.Tables = refl
later_root (origin.Value v) = refl

abbrev number_if : Bool → ℕ → Option ℕ → Option ℕ
number_if b i known = cond b (Some i) known

place_more : (k : Count) (a b c d e f : Option ℕ) (s : MentionKind) → is_value s ≡ false
    → placed (number_if (is_value s) k.values a) (number_if (is_element s) k.statements b)
    (number_if (is_begun s) k.statements c) (number_if (is_define s) k.statements d)
    (number_if (is_dotted s) k.values e) (number_if (is_through s) k.statements f)
    ≡ later_origin (placed a b c d e f)
    (placed (number_if (is_value s) k.values None) (number_if (is_element s) k.statements None)
    (number_if (is_begun s) k.statements None) (number_if (is_define s) k.statements None)
    (number_if (is_dotted s) k.values None) (number_if (is_through s) k.statements None))
place_more k a b c d e f through h = later_through a b c d e f k.statements
place_more k a b c d e f past h = later_root (placed a b c d e f)
place_more k a b c d e f define h = later_define a b c d e f k.statements
place_more k a b c d e f element h = later_element a b c d e f k.statements
place_more k a b c d e f dotted h = later_dotted a b c d e f k.values
place_more k a b c d e f begun h = later_begun a b c d e f k.statements
place_more k a b c d e f passed h = later_root (placed a b c d e f)
place_more k a b c d e f (value x) h = cc
place_more k a b c d e f (item x) h = cc

mentioned_origin-more : (ns : List Numbered) (n : Numbered) → is_value n.mention.kind ≡ false
    → mentioned_origin (ns ++ n ∷ []) ≡ later_origin (mentioned_origin ns) (mentioned_origin (n ∷ []))
mentioned_origin-more ns n h = rw (
  last_number-more is_value value_number ns n,
  last_number-more is_element statement_number ns n,
  last_number-more is_begun statement_number ns n,
  last_number-more is_define statement_number ns n,
  last_number-more is_dotted value_number ns n,
  last_number-more is_through statement_number ns n,
) (place_more n.before (last_number is_value value_number ns) (last_number is_element statement_number ns)
    (last_number is_begun statement_number ns) (last_number is_define statement_number ns)
    (last_number is_dotted value_number ns) (last_number is_through statement_number ns) n.mention.kind h)

-- ---- all of it

same_info : (a b : NodeInfo) → a.kind ≡ b.kind → a.key ≡ b.key → a.marks ≡ b.marks → a.passed ≡ b.passed
    → a.origin ≡ b.origin → a ≡ b
same_info a b k n m p q =
    let fields : record { kind = a.kind; key = a.key; marks = a.marks; passed = a.passed; origin = a.origin }
    ≡ record { kind = b.kind; key = b.key; marks = b.marks; passed = b.passed; origin = b.origin } = cc in
    fields

module _ (p : List Part) (ns : List Numbered) (n : Numbered) (given : is_value n.mention.kind ≡ false) where
  key_joined : (mentioned_node p (ns ++ n ∷ [])).key
      ≡ (joined_info (node_info (mentioned_node p ns)) (mention_info n)).key
  key_joined =
      first_number-more is_mark key_number ns n
      ∙ first_key (first_number is_mark key_number ns) (first_number is_mark key_number (n ∷ []))
      (count_by (λ n. is_mark n.mention.kind) ns == 0) (unmarked ns)

  marks_joined : (mentioned_node p (ns ++ n ∷ [])).marks < 2 ^ 64
      → (mentioned_node p (ns ++ n ∷ [])).marks
      ≡ min ((mentioned_node p ns).marks + (mention_info n).marks) (2 ^ 64 - 1)
  marks_joined h = omega (arith, marks-more p ns n)

  passed_joined : (mentioned_node p (ns ++ n ∷ [])).passed ≡ ((mentioned_node p ns).passed || (mention_info n).passed)
  passed_joined =
      passed-more p ns n ∙ ap (λ b. (mentioned_node p ns).passed || b) (sym (or-false (is_passed n.mention.kind)))

  pub node_joined : (mentioned_node p (ns ++ n ∷ [])).marks < 2 ^ 64
      → node_info (mentioned_node p (ns ++ n ∷ [])) ≡ joined_info (node_info (mentioned_node p ns)) (mention_info n)
  node_joined h =
      same_info _ _
      (ap mentioned_kind (map-append mention_kind_of ns (n ∷ []))
      ∙ mentioned_kind-more (map mention_kind_of ns) n.mention.kind given)
      key_joined
      (marks_joined h)
      passed_joined
      (mentioned_origin-more ns n given)
