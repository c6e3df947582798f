-- The facts from mentions, part by part, and those from one mention.
--
-- Theorems: `with_mentions-append`: the facts from two lists of mentions; `values_new-append`: the values of both are
-- new if those of one are, and then those of the other; `through_info`, and its like for each other kind: the facts
-- from one mention.
use Rattle.std.proofs.Common.{◌≡◌, List, [], ◌∷◌, ◌++◌, ℕ, refl}
use Rattle.keep_types.specs.declared.node.Kind.TheVariants as kind
use Rattle.keep_types.specs.declared.node.Origin.TheVariants as origin
use Rattle.keep_meaning.specs.Fact.{Fact}
use Rattle.keep_path.specs.Path.{Part}
use Rattle.keep_meaning.specs.Marks.{through, past, define, element, dotted, value, begun, passed, item}
use Rattle.keep_meaning.specs.Counts.{Numbered}
use Rattle.keep_meaning.specs.Nodes.{fact_kind, paths_with}
use Rattle.keep_path.specs.NodeInfos.{NodeInfos}
use Rattle.keep_index_store.specs.Facts.{named_info, unnamed_info, passed_info}
use Rattle.keep_rules.specs.MentionInfos.{with_info, with_mentions, mention_info, paths_after, ValuesAreNew}

-- ---- part by part

pub with_mentions-append : (t : NodeInfos) (xs ys : List Numbered)
    → with_mentions t (xs ++ ys) ≡ with_mentions (with_mentions t xs) ys
with_mentions-append t [] ys = refl
with_mentions-append t (x ∷ xs) ys = with_mentions-append (with_info t x.mention.path (mention_info x)) xs ys

pub paths_after-append : (paths : List (List Part)) (xs ys : List Numbered)
    → paths_after paths (xs ++ ys) ≡ paths_after (paths_after paths xs) ys
paths_after-append paths [] ys = refl
paths_after-append paths (x ∷ xs) ys = paths_after-append (paths_with paths x.mention.path) xs ys

pub values_new-append : (paths : List (List Part)) (xs ys : List Numbered) → ValuesAreNew paths xs
    → ValuesAreNew (paths_after paths xs) ys → ValuesAreNew paths (xs ++ ys)
values_new-append paths [] ys h g = g
values_new-append paths (x ∷ xs) ys h g = (h.0, values_new-append (paths_with paths x.mention.path) xs ys h.1 g)

-- ---- the facts from one mention

module _ (n : Numbered) where
  pub through_info : (key : ℕ) → n.mention.kind ≡ through → n.before.keys ≡ key
      → mention_info n ≡ named_info kind.Table key (origin.Through n.before.statements)
  through_info key is named = rw (is, named)

  pub past_info : (key : ℕ) → n.mention.kind ≡ past → n.before.keys ≡ key
      → mention_info n ≡ named_info kind.Table key origin.Root
  past_info key is named = rw (is, named)

  pub define_info : (key : ℕ) → n.mention.kind ≡ define → n.before.keys ≡ key
      → mention_info n ≡ named_info kind.Table key (origin.Header n.before.statements)
  define_info key is named = rw (is, named)

  pub element_info : (key : ℕ) → n.mention.kind ≡ element → n.before.keys ≡ key
      → mention_info n ≡ named_info kind.Tables key origin.Tables
  element_info key is named = rw (is, named)

  pub dotted_info : (key : ℕ) → n.mention.kind ≡ dotted → n.before.keys ≡ key
      → mention_info n ≡ named_info kind.Table key (origin.Dotted n.before.values)
  dotted_info key is named = rw (is, named)

  pub value_info : (f : Fact) (key : ℕ) → n.mention.kind ≡ value f → n.before.keys ≡ key
      → mention_info n ≡ named_info (fact_kind f) key (origin.Value n.before.values)
  value_info f key is named = rw (is, named)

  pub begun_info : n.mention.kind ≡ begun
      → mention_info n ≡ unnamed_info kind.Table (origin.Element n.before.statements)
  begun_info is = rw is

  pub passed_is_info : n.mention.kind ≡ passed → mention_info n ≡ passed_info
  passed_is_info is = rw is

  pub item_info : (f : Fact) → n.mention.kind ≡ item f
      → mention_info n ≡ unnamed_info (fact_kind f) (origin.Value n.before.values)
  item_info f is = rw is
