-- What a line says of the first of some keys, and what it says below that one's path: the value, if it is the only key,
-- with what is in the value; else that the line continues from it, and what the other keys say.
--
-- Theorem: `first_said`.
use Rattle.std.proofs.Common.{◌≡◌, ℕ, List, [], ◌∷◌, ◌++◌, map, refl, ap}
use Rattle.keep_types.specs.declared.node.Kind.{Kind}
use Rattle.keep_types.specs.declared.node.Kind.TheVariants as kind
use Rattle.keep_types.specs.declared.node.Origin.{Origin}
use Rattle.keep_types.specs.declared.node.Origin.TheVariants as origin
use Rattle.keep_path.specs.Path.{Part, key}
use Rattle.keep_meaning.specs.Counts.{Count}
use Rattle.keep_meaning.specs.Fact as fact
use Rattle.keep_meaning.specs.Fact.{Fact}
use Rattle.keep_meaning.specs.Marks.{Mention, MentionKind, below, dotted, value}
use Rattle.keep_meaning.specs.Meaning.{keyed_mentions, valued_mentions}
use Rattle.keep_meaning.specs.Nodes.{fact_kind}
use Rattle.keep_meaning.proofs.KeyChainLemmas.{below_below}
use Rattle.keep_meaning.proofs.KeyRunLaws.{Says, of_dots, says_dots}
use Rattle.keep_meaning.proofs.LineNumberLemmas.{AllOf, all_of}
use Rattle.keep_meaning.proofs.RunLaws.{IsPlace}
use Rattle.keep_meaning.proofs.RunLemmas.{IsDeeper, IsOfBody, deeper_keys}

pub of_value : IsPlace origin.Value
of_value = record { moves = λ f v. refl; number = λ i v. refl }

pub says_value : (path : List Part) (c : Count) (f : Fact) → Says path c origin.Value (value f) (fact_kind f)
says_value path c f = record { marked = refl; stated = refl }

-- ---- by the keys after it

abbrev pub first_place : List (List ℕ) → ℕ → Origin
first_place [] = origin.Value
first_place (k ∷ ks) = origin.Dotted

abbrev pub first_kind : List (List ℕ) → Fact → MentionKind
first_kind [] f = value f
first_kind (k ∷ ks) f = dotted

abbrev pub first_node_kind : List (List ℕ) → Fact → Kind
first_node_kind [] f = fact_kind f
first_node_kind (k ∷ ks) f = kind.Table

-- what is said below its path
abbrev pub first_nested : List (List ℕ) → Fact → List Mention → List Mention
first_nested [] f inner = inner
first_nested (k ∷ ks) f inner = keyed_mentions (k ∷ ks) (valued_mentions (value f) inner)

pub is_first_place : (ks : List (List ℕ)) → IsPlace (first_place ks)
is_first_place [] = of_value
is_first_place (k ∷ ks) = of_dots

pub says_first : (path : List Part) (c : Count) (ks : List (List ℕ)) (f : Fact)
    → Says path c (first_place ks) (first_kind ks f) (first_node_kind ks f)
says_first path c [] f = says_value path c f
says_first path c (k ∷ ks) f = says_dots path c

-- a table, where the value is one: so it has the kind of a node from which a line continues
pub says_table : (path : List Part) (c : Count) (ks : List (List ℕ))
    → Says path c (first_place ks) (first_kind ks fact.table) kind.Table
says_table path c [] = says_value path c fact.table
says_table path c (k ∷ ks) = says_dots path c

pub deep_first : (ks : List (List ℕ)) (f : Fact) (inner : List Mention) → AllOf IsDeeper inner
    → AllOf IsDeeper (first_nested ks f inner)
deep_first [] f inner deep = deep
deep_first (k ∷ ks) f inner deep =
    deeper_keys k ks (valued_mentions (value f) inner)
    (refl, all_of IsDeeper IsOfBody (λ m h. h.1) inner deep)

pub first_said : (at : List Part) (k : List ℕ) (ks : List (List ℕ)) (f : Fact) (inner : List Mention)
    → map (below at) (keyed_mentions (k ∷ ks) (valued_mentions (value f) inner))
    ≡ record { path = at ++ key k ∷ []; kind = first_kind ks f }
    ∷ map (below (at ++ key k ∷ [])) (first_nested ks f inner)
first_said at k [] f inner =
    ap (λ (ms : List Mention). record { path = at ++ key k ∷ []; kind = value f } ∷ ms)
    (below_below at (key k ∷ []) inner)
first_said at k (l ∷ ks) f inner =
    ap (λ (ms : List Mention). record { path = at ++ key k ∷ []; kind = dotted } ∷ ms)
    (below_below at (key k ∷ []) (keyed_mentions (l ∷ ks) (valued_mentions (value f) inner)))
