-- The way along a path: one step further, and the longest prefix of the path that names a node.
--
-- The code steps along the path from node to node and counts the arrays and inline tables that it passes. `IsGoing` is
-- its loop invariant: it holds at the root (`going`), and a step to the next node keeps it (`went`). The loop ends
-- where no node is further on (`stopped`) or the path has no more steps but its last (`ended`). For both, `holder_at`
-- shows that the node reached is the last prefix that is a node, as the definition asks: a prefix that is no node is no
-- bracket either (`flat_unless`), so the count does not change after it (`enclosing_same`). The long case split is one
-- step, `next_one`.
--
-- Theorems: `stopped` and `ended`: where the loop ends, the node that it is at is the holder of the path.
use Rattle.std.proofs.Common.{◌≡◌, ℕ, zero, suc, ◌+◌, ◌-◌, ◌<◌, ◌≤◌, Bool, true, false, cond, List, [], ◌∷◌, ◌++◌, map}
use Rattle.std.proofs.Common.{length, take, drop, slice_get, refl, sym, ap, subst, ◌∙◌, append_assoc, arith, Option}
use Rattle.std.proofs.Common.{Some, None, ◌⊎◌, inl, inr}
use Rattle.std.specs.Prelude.{fold, if◌then◌else◌}
use Rattle.std.specs.List.{count_by, list_any}
use Rattle.std.proofs.lemmas.Bool.{cases_lt, lt-ltb}
use Rattle.std.proofs.lemmas.List.{map-append, take-take, take-append-drop, take_all}
use Rattle.std.proofs.lemmas.List.Sums.{sum_by-append}
use Rattle.std.proofs.lemmas.Option.{get_or_from_slice_get, slice_get_within}
use Rattle.std.proofs.Math.Seq.{take-suc}
use Rattle.keep_types.specs.declared.leaf.Leaf.{Leaf}
use Rattle.keep_types.specs.declared.leaf.Leaf.TheVariants as leaf
use Rattle.keep_syntax.specs.declared.syntax.Syntax.{Syntax}
use Rattle.keep_syntax.specs.Tree.{Document}
use Rattle.keep_types.specs.declared.node.Kind.TheVariants as kind
use Rattle.keep_types.specs.declared.node.NodeInfo.{NodeInfo}
use Rattle.keep_types.specs.declared.node.Origin.{Origin}
use Rattle.keep_types.specs.declared.node.Origin.TheVariants as origin
use Rattle.keep_meaning.specs.Counts.{one_if}
use Rattle.keep_meaning.specs.Fact as fact
use Rattle.keep_meaning.specs.Fact.{Fact, is_bracket}
use Rattle.keep_path.specs.Path.{Part, same_path}
use Rattle.keep_meaning.specs.Marks.{Mention}
use Rattle.keep_meaning.specs.Meaning.{mentions_in}
use Rattle.keep_meaning.specs.Nodes.{is_node, node_number, node_paths, paths_with, has, is_element, fact_at, kind_at}
use Rattle.keep_meaning.specs.Nodes.{kind_or_table, moment_kind, mentioned_origin}
use Rattle.keep_meaning.proofs.Shared.{paths-nodes_in}
use Rattle.keep_path.specs.NodeInfos.{NodeInfos}
use Rattle.keep_rules.specs.Lookup.{number_of, path_numbered}
use Rattle.keep_rules.specs.declared.index.NodeId.{NodeId}
use Rattle.keep_rules.proofs.Shared.{number_is}
use Rattle.keep_edit_spec.specs.Look.{prefixes, last_passing, holder, enclosing, is_bracket_at}
use Rattle.keep_edit_spec.proofs.Shared.{Rules, alone_of_bracket, never_whole, no_bracket_element, rules_of_document}
use Rattle.keep_edit_plan.specs.Reading.{ProfiledText, IsTextOfTree, Holds}
use Rattle.keep_edit_plan.specs.Inserting.{origin_of, is_dotted_origin}
use Rattle.keep_edit_plan.specs.Holding.{brackets_of, is_value_origin, IsOnWalk, IsFurther, IsHolder}
use Rattle.keep_edit_plan.specs.declared.holder.Holder.{Holder}
use Rattle.keep_edit_plan.proofs.AnswerLaws.{stated_is}
use Rattle.keep_edit_plan.proofs.FoundLaws.{IsStated, one_found, fact_node}
use Rattle.keep_edit_plan.proofs.NodeLaws.{no_node, a_node, kind_stated}
use Rattle.keep_edit_plan.proofs.RootLaws.{root_unsaid}

-- ---- counting along the prefixes

count_join : (t : List Part → Bool) (xs ys : List (List Part)) → count_by t (xs ++ ys) ≡ count_by t xs + count_by t ys
count_join t xs ys = omega (arith, sum_by-append (λ x. cond (t x) 1 0) xs ys)

count_one : (t : List Part → Bool) (x : List Part) → count_by t (x ∷ []) ≡ one_if (t x)
count_one t x = by (t x) refl
  where
    by : (b : Bool) → t x ≡ b → count_by t (x ∷ []) ≡ one_if b
    by true e = rw e refl
    by false e = rw e refl

prefixes_more : (q : List Part) (p : Part) → prefixes (q ++ p ∷ []) ≡ prefixes q ++ q ∷ []
prefixes_more [] p = refl
prefixes_more (x ∷ xs) p =
    ap (λ l. [] ∷ map (λ (prefix : List Part). x ∷ prefix) l) (prefixes_more xs p)
    ∙ ap (λ l. [] ∷ l) (map-append (λ (prefix : List Part). x ∷ prefix) (prefixes xs) (xs ∷ []))

pub taken_more : (path : List Part) (n : ℕ) (p : Part) → slice_get path n ≡ Some p
    → take (suc n) path ≡ take n path ++ p ∷ []
taken_more path n p is =
    take-suc path n p (slice_get_within path n p is)
    ∙ ap (λ q. take n path ++ q ∷ []) (get_or_from_slice_get path n p p is)

some_part : (path : List Part) (n : ℕ) → n < length path → (p : Part) × (slice_get path n ≡ Some p)
some_part [] n h = absurd (omega (arith, h))
some_part (p ∷ ps) zero h = (p, refl)
some_part (p ∷ ps) (suc n) h = some_part ps n (omega (arith, h))

enclosing_more : (path : List Part) (ms : List Mention) (n : ℕ) → n < length path
    → enclosing (take (suc n) path) ms ≡ enclosing (take n path) ms + one_if (is_bracket_at ms (take n path))
enclosing_more path ms n h =
    let (p, is) = some_part path n h in
    let t : List Part → Bool = is_bracket_at ms in
    ap (λ (q : List Part). count_by t (prefixes q)) (taken_more path n p is)
    ∙ ap (λ (l : List (List Part)). count_by t l) (prefixes_more (take n path) p)
    ∙ count_join t (prefixes (take n path)) (take n path ∷ [])
    ∙ ap (λ (k : ℕ). count_by t (prefixes (take n path)) + k) (count_one t (take n path))

-- ---- the kind of a node tells whether it is an array or an inline table

abbrev bracket_of : Option Fact → Bool
bracket_of o = elim o [ None ↦ false | Some f ↦ is_bracket f ]

moment_brackets : (l : Leaf) → brackets_of (moment_kind l) ≡ 0
moment_brackets leaf.OffsetDateTime = refl
moment_brackets leaf.LocalDateTime = refl
moment_brackets leaf.LocalDate = refl
moment_brackets _ = refl

fact_brackets : (o : Option Fact) → brackets_of (kind_or_table o) ≡ one_if (bracket_of o)
fact_brackets None = refl
fact_brackets (Some (fact.string v)) = refl
fact_brackets (Some (fact.integer v)) = refl
fact_brackets (Some (fact.boolean v)) = refl
fact_brackets (Some (fact.float v)) = refl
fact_brackets (Some (fact.moment l v)) = moment_brackets l
fact_brackets (Some fact.array) = refl
fact_brackets (Some fact.inline) = refl
fact_brackets (Some fact.table) = refl

kind_brackets : (path : List Part) (ms : List Mention) → Rules ms
    → brackets_of (kind_at path ms) ≡ one_if (is_bracket_at ms path)
kind_brackets path ms rules = by (has is_element path ms) refl (is_bracket_at ms path) refl
  where
    by : (e : Bool) → has is_element path ms ≡ e → (b : Bool) → is_bracket_at ms path ≡ b
        → brackets_of (if e then kind.Tables else kind_or_table (fact_at path ms)) ≡ one_if b
    by true e true k = absurd (no_bracket_element path ms rules e k)
    by true e false k = refl
    by false e b k = fact_brackets (fact_at path ms) ∙ ap one_if k

-- ---- one step further

no_dots : (o : Origin) → ((v : ℕ) → o ≡ origin.Dotted v → ⊥) → is_dotted_origin o ≡ false
no_dots (origin.Dotted v) h = absurd (h v refl)
no_dots (origin.Value v) h = refl
no_dots (origin.Header v) h = refl
no_dots (origin.Element v) h = refl
no_dots (origin.Through v) h = refl
no_dots origin.Root h = refl
no_dots origin.Tables h = refl

module _ (d : ProfiledText) (syntax : Syntax) (index : NodeInfos) (path : List Part) (s : Document)
    (holds : Holds d syntax index) (read : IsTextOfTree d s) (h : Holder) (walk : IsOnWalk path s h) where
  paths_are : index.paths ≡ node_paths (mentions_in s)
  paths_are = ap (λ (t : NodeInfos). t.paths) (stated_is d syntax index s holds read) ∙ paths-nodes_in s

  here : (h.id.0 < length index.paths) × (path_numbered index h.id.0 ≡ take h.len path)
  here = number_is index.paths (take h.len path) h.id.0
      (ap (λ (ps : List (List Part)). node_number ps (take h.len path)) paths_are ∙ walk.node)

  pub node_nested : h.id.0 < length index.paths
  node_nested = here.0

  next_path : (p : Part) → slice_get path h.len ≡ Some p → (more : List Part)
      → path_numbered index h.id.0 ++ p ∷ more ≡ take (suc h.len) path ++ more
  next_path p is more =
      ap (λ (q : List Part). q ++ p ∷ more) here.1
      ∙ sym (append_assoc (take h.len path) (p ∷ []) more)
      ∙ ap (λ (q : List Part). q ++ more) (sym (taken_more path h.len p is))

  -- no node is there, and none at a longer prefix
  pub none_further : (p : Part) → slice_get path h.len ≡ Some p
      → ((more : List Part) → node_number index.paths (path_numbered index h.id.0 ++ p ∷ more) ≡ None)
      → (n : ℕ) → h.len < n → n ≤ length path → is_node (take n path) (mentions_in s) ≡ false
  none_further p is none n low high =
      let more : List Part = drop (suc h.len) (take n path) in
      let whole : take (suc h.len) path ++ more ≡ take n path =
      ap (λ (q : List Part). q ++ more) (sym (take-take (suc h.len) n path (omega (arith, low))))
      ∙ take-append-drop (suc h.len) (take n path) in
      no_node (take n path) (mentions_in s)
      (ap (λ (q : List Part). node_number (node_paths (mentions_in s)) q) (sym whole)
      ∙ ap (λ (ps : List (List Part)). node_number ps (take (suc h.len) path ++ more)) (sym paths_are)
      ∙ ap (node_number index.paths) (sym (next_path p is more))
      ∙ none more)

  next_one : (p : Part) → slice_get path h.len ≡ Some p → path_numbered index h.id.0 ++ p ∷ [] ≡ take (suc h.len) path
  next_one p is = ap (λ (q : List Part). q ++ p ∷ []) here.1 ∙ sym (taken_more path h.len p is)

  module _ (p : Part) (is : slice_get path h.len ≡ Some p) (o : Option NodeId) (id : NodeId) (one : o ≡ Some id)
      (found : number_of o ≡ node_number index.paths (path_numbered index h.id.0 ++ p ∷ []))
      (info : NodeInfo) (there : slice_get index.infos id.0 ≡ Some info) (len k : ℕ) (long : len ≡ suc h.len)
      (count : k ≡ brackets_of info.kind) (few : k ≤ 1) where
    number : number_of o ≡ node_number index.paths (take (suc h.len) path)
    number = found ∙ ap (node_number index.paths) (next_one p is)

    stated : IsStated (take (suc h.len) path) s info
    stated = one_found d syntax index (take (suc h.len) path) s holds read id info o one number there

    next_node : node_number (node_paths (mentions_in s)) (take len path) ≡ Some id.0
    next_node =
        ap (λ (n : ℕ). node_number (node_paths (mentions_in s)) (take n path)) long
        ∙ ap (λ (ps : List (List Part)). node_number ps (take (suc h.len) path)) (sym paths_are)
        ∙ sym number
        ∙ ap number_of one

    place_is : origin_of (take (suc h.len) path) s ≡ info.origin
    place_is = sym (ap (λ (i : NodeInfo). i.origin) stated.is)

    nested : suc h.len ≤ length path
    nested = omega (arith, slice_get_within path h.len p is)

    brackets_are : k ≡ one_if (is_bracket_at (mentions_in s) (take (suc h.len) path))
    brackets_are =
        count
        ∙ ap brackets_of (ap (λ (i : NodeInfo). i.kind) stated.is ∙ kind_stated (take (suc h.len) path) s)
        ∙ kind_brackets (take (suc h.len) path) (mentions_in s) (rules_of_document s read.obeys)

    deeper : h.depth + k ≡ enclosing (take len path) (mentions_in s)
        + one_if (is_bracket_at (mentions_in s) (take len path))
    deeper =
        let more : enclosing (take (suc h.len) path) (mentions_in s) ≡ enclosing (take h.len path) (mentions_in s)
        + one_if (is_bracket_at (mentions_in s) (take h.len path)) =
        enclosing_more path (mentions_in s) h.len (slice_get_within path h.len p is) in
        let whole : h.depth + k ≡ enclosing (take (suc h.len) path) (mentions_in s)
        + one_if (is_bracket_at (mentions_in s) (take (suc h.len) path)) =
        omega (arith, more, walk.depth, brackets_are) in
        whole ∙ ap (λ (n : ℕ).
        enclosing (take n path) (mentions_in s) + one_if (is_bracket_at (mentions_in s) (take n path))) (sym long)

    pub by_dots : (v : ℕ) → info.origin ≡ origin.Dotted v
        → IsOnWalk path s (record { id = id; len = len; base = h.base; braced = h.braced; depth = h.depth + k })
        × (len ≡ suc h.len)
    by_dots v dot = (
      record {
        within = omega (arith, long, nested);
        node = next_node;
        based = omega (arith, long, walk.based);
        base = walk.base;
        dots = λ n low high. dotted n low (cases n high);
        braced = walk.braced;
        low = omega (arith, long, walk.low, few);
        depth = deeper;
      },
      long,
    )
      where
        cases : (n : ℕ) → n ≤ len → (n ≤ h.len) ⊎ (n ≡ suc h.len)
        cases n high = elim (cases_lt h.len n) [ inl b ↦ inr (omega (arith, b, high, long)) | inr a ↦ inl a ]

        dotted : (n : ℕ) → h.base < n → (n ≤ h.len) ⊎ (n ≡ suc h.len)
            → is_dotted_origin (origin_of (take n path) s) ≡ true
        dotted n low (inl a) = walk.dots n low a
        dotted n low (inr b) =
            ap (λ (m : ℕ). is_dotted_origin (origin_of (take m path) s)) b ∙ ap is_dotted_origin (place_is ∙ dot)

    pub by_other : (b : Bool) → b ≡ is_value_origin info.origin → ((v : ℕ) → info.origin ≡ origin.Dotted v → ⊥)
        → IsOnWalk path s (record { id = id; len = len; base = len; braced = b; depth = h.depth + k })
        × (len ≡ suc h.len)
    by_other b value other = (
      record {
        within = omega (arith, long, nested);
        node = next_node;
        based = omega arith;
        base = ap (λ (m : ℕ). is_dotted_origin (origin_of (take m path) s)) long ∙ ap is_dotted_origin place_is
            ∙ no_dots info.origin other;
        dots = λ n low high. absurd (omega (arith, low, high));
        braced =
            value ∙ ap is_value_origin (sym place_is)
            ∙ ap (λ (m : ℕ). is_value_origin (origin_of (take m path) s)) (sym long);
        low = omega (arith, long, walk.low, few);
        depth = deeper;
      },
      long,
    )

-- ---- no step yet

first_number : (ps : List (List Part)) (more : List (List Part))
    → (rest : List (List Part)) × (fold paths_with ([] ∷ ps) more ≡ [] ∷ rest)
first_number ps [] = (ps, refl)
first_number ps (q ∷ more) =
    by (list_any (same_path q) ([] ∷ ps)) (first_number ps more) (first_number (ps ++ q ∷ []) more)
  where
    by : (b : Bool) → (rest : List (List Part)) × (fold paths_with ([] ∷ ps) more ≡ [] ∷ rest)
        → (rest : List (List Part)) × (fold paths_with ([] ∷ (ps ++ q ∷ [])) more ≡ [] ∷ rest)
        → (rest : List (List Part)) × (fold paths_with (if b then [] ∷ ps else [] ∷ (ps ++ q ∷ [])) more ≡ [] ∷ rest)
    by true preserved longer = preserved
    by false preserved longer = longer

root_number : (s : Document) → node_number (node_paths (mentions_in s)) [] ≡ Some 0
root_number s = let (rest, e) = first_number [] (map (λ (m : Mention). m.path) (mentions_in s)) in
    ap (λ (ps : List (List Part)). node_number ps []) e
    ∙ ap (λ (b : Bool). cond {A = Option ℕ} b (Some 0) None) (lt-ltb 0 (suc (length rest)) (omega arith))

root_place : (s : Document) → origin_of [] s ≡ origin.Root
root_place s = ap mentioned_origin (root_unsaid s)

root_flat : (s : Document) → is_bracket_at (mentions_in s) [] ≡ false
root_flat s = by (is_bracket_at (mentions_in s) []) refl
  where
    by : (b : Bool) → is_bracket_at (mentions_in s) [] ≡ b → b ≡ false
    by false e = refl
    by true e = absurd (never_whole s (alone_of_bracket [] (mentions_in s) e))

pub at_root : (path : List Part) (s : Document)
    → IsOnWalk path s (record { id = record { 0 = 0 }; len = 0; base = 0; braced = false; depth = 0 })
at_root path s = record {
  within = omega arith;
  node = root_number s;
  based = omega arith;
  base = ap is_dotted_origin (root_place s);
  dots = λ n low high. absurd (omega (arith, low, high));
  braced = sym (ap is_value_origin (root_place s));
  low = omega arith;
  depth = omega (arith, ap one_if (root_flat s));
}

-- ---- the longest prefix

abbrev mapped : (List Part → List Part) → Option (List Part) → Option (List Part)
mapped f None = None
mapped f (Some x) = Some (f x)

passing_map : (T : List Part → Bool) (f : List Part → List Part) (xs : List (List Part))
    → last_passing T (map f xs) ≡ mapped f (last_passing (λ x. T (f x)) xs)
passing_map T f [] = refl
passing_map T f (x ∷ xs) =
    by (last_passing T (map f xs)) (last_passing (λ x. T (f x)) xs) (T (f x)) (passing_map T f xs)
  where
    by : (o p : Option (List Part)) (b : Bool) → o ≡ mapped f p
        → elim o [ Some y ↦ Some y | None ↦ cond b (Some (f x)) None ]
        ≡ mapped f (elim p [ Some y ↦ Some y | None ↦ cond b (Some x) None ])
    by o (Some y) b e = rw e refl
    by o None true e = rw e refl
    by o None false e = rw e refl

abbrev or_this : Option (List Part) → Bool → Option (List Part)
or_this o b = elim o [ Some y ↦ Some y | None ↦ cond b (Some []) None ]

passing_none : (T : List Part → Bool) (path : List Part) → ((m : ℕ) → m < length path → T (take m path) ≡ false)
    → last_passing T (prefixes path) ≡ None
passing_none T [] none = refl
passing_none T (p ∷ ps) none =
    let rest : last_passing T (map (λ (x : List Part). p ∷ x) (prefixes ps)) ≡ None =
    passing_map T (λ (x : List Part). p ∷ x) (prefixes ps)
    ∙ ap (mapped (λ (x : List Part). p ∷ x))
    (passing_none (λ x. T (p ∷ x)) ps (λ m h. none (suc m) (omega (arith, h)))) in
    ap (λ o. or_this o (T [])) rest ∙ ap (or_this None) (none 0 (omega arith))

passing_longest : (T : List Part → Bool) (path : List Part) (n : ℕ) → n < length path → T (take n path) ≡ true
    → ((m : ℕ) → n < m → m < length path → T (take m path) ≡ false)
    → last_passing T (prefixes path) ≡ Some (take n path)
passing_longest T [] n low hit none = absurd (omega (arith, low))
passing_longest T (p ∷ ps) zero low hit none =
    let rest : last_passing T (map (λ (x : List Part). p ∷ x) (prefixes ps)) ≡ None =
    passing_map T (λ (x : List Part). p ∷ x) (prefixes ps)
    ∙ ap (mapped (λ (x : List Part). p ∷ x))
    (passing_none (λ x. T (p ∷ x)) ps (λ m h. none (suc m) (omega arith) (omega (arith, h)))) in
    ap (λ o. or_this o (T [])) rest ∙ ap (or_this None) hit
passing_longest T (p ∷ ps) (suc n) low hit none =
    let rest : last_passing T (map (λ (x : List Part). p ∷ x) (prefixes ps)) ≡ Some (p ∷ take n ps) =
    passing_map T (λ (x : List Part). p ∷ x) (prefixes ps)
    ∙ ap (mapped (λ (x : List Part). p ∷ x))
    (passing_longest (λ x. T (p ∷ x)) ps n (omega (arith, low)) hit
    (λ m g h. none (suc m) (omega (arith, g)) (omega (arith, h)))) in
    ap (λ o. or_this o (T [])) rest

-- what is no node is no array and no inline table
flat_unless : (path : List Part) (ms : List Mention) → is_node path ms ≡ false → is_bracket_at ms path ≡ false
flat_unless path ms none = by (fact_at path ms) refl
  where
    by : (o : Option Fact) → fact_at path ms ≡ o → bracket_of o ≡ false
    by None e = refl
    by (Some f) e = let k : true ≡ false = sym (fact_node path ms f e) ∙ none in absurd cc

enclosing_same : (path : List Part) (ms : List Mention) (k n : ℕ) → n + k ≡ length path
    → ((m : ℕ) → n ≤ m → m < length path → is_bracket_at ms (take m path) ≡ false)
    → enclosing path ms ≡ enclosing (take n path) ms
enclosing_same path ms zero n e none = ap (λ (q : List Part). enclosing q ms) (sym (take_all n path (omega (arith, e))))
enclosing_same path ms (suc k) n e none =
    let next : enclosing path ms ≡ enclosing (take (suc n) path) ms =
    enclosing_same path ms k (suc n) (omega (arith, e)) (λ m g h. none m (omega (arith, g)) h) in
    omega (
      arith,
      next,
      enclosing_more path ms n (omega (arith, e)),
      ap one_if (none n (omega arith) (omega (arith, e))),
    )

-- ---- the way along a path, and its end

abbrev pub IsGoing : ProfiledText → List Part → ℕ → Holder → Type 0
IsGoing d path len h =
    (len ≡ suc h.len) × ((path ≡ []) ⊎ (h.len < length path)) × ((s : Document) → IsTextOfTree d s → IsOnWalk path s h)

some_step : (path : List Part) → (path ≡ []) ⊎ (0 < length path)
some_step [] = inl refl
some_step (p ∷ ps) = inr (omega arith)

pub going : (d : ProfiledText) (path : List Part)
    → IsGoing d path 1 (record { id = record { 0 = 0 }; len = 0; base = 0; braced = false; depth = 0 })
going d path = (refl, some_step path, λ s read. at_root path s)

holder_at : (path : List Part) (s : Document) (h : Holder) → IsOnWalk path s h → (path ≡ []) ⊎ (h.len < length path)
    → ((n : ℕ) → h.len < n → n < length path → is_node (take n path) (mentions_in s) ≡ false)
    → (holder path (mentions_in s) ≡ take h.len path) × (h.depth ≡ enclosing path (mentions_in s))
holder_at path s h walk (inl empty) none = (
  by path empty walk.within,
  subst (λ (q : List Part). h.depth ≡ enclosing q (mentions_in s)) (sym empty)
      (zero_depth path empty h.len walk.within h.depth walk.depth),
)
  where
    by : (q : List Part) → q ≡ [] → h.len ≤ length q → holder q (mentions_in s) ≡ take h.len q
    by [] e low = sym (take_all h.len [] (omega arith))
    by (p ∷ ps) e low = absurd cc

    zero_depth : (q : List Part) → q ≡ [] → (n : ℕ) → n ≤ length q → (k : ℕ)
        → k ≡ enclosing (take n q) (mentions_in s) + one_if (is_bracket_at (mentions_in s) (take n q)) → k ≡ 0
    zero_depth [] e n low k is =
        let none_taken : take {A = Part} n [] ≡ [] = take_all n [] (omega arith) in
        let at_end : k ≡ 0 + one_if (is_bracket_at (mentions_in s) []) =
        is ∙ ap (λ (q : List Part). enclosing q (mentions_in s) + one_if (is_bracket_at (mentions_in s) q))
        none_taken in
        omega (arith, at_end, ap one_if (root_flat s))
    zero_depth (p ∷ ps) e n low k is = absurd cc
holder_at path s h walk (inr more) none =
    let ms : List Mention = mentions_in s in
    let passing : last_passing (λ prefix. is_node prefix ms) (prefixes path) ≡ Some (take h.len path) =
    passing_longest (λ prefix. is_node prefix ms) path h.len more (a_node (take h.len path) ms h.id.0 walk.node) none in
    let deeper : enclosing path ms ≡ enclosing (take (suc h.len) path) ms =
    enclosing_same path ms (length path - suc h.len) (suc h.len) (omega (arith, more))
    (λ m g low. flat_unless (take m path) ms (none m (omega (arith, g)) low)) in (
      ap (λ (o : Option (List Part)). elim o [ Some a ↦ a | None ↦ [] ]) passing,
      omega (arith, walk.depth, deeper, enclosing_more path ms h.len more),
    )

-- no node is further on
pub stopped : (d : ProfiledText) (path : List Part) (len : ℕ) (h : Holder) (s : Document) → IsTextOfTree d s
    → IsGoing d path len h → IsFurther path s h None → IsHolder path s h
stopped d path len h s read (next, proper, on) none =
    let walk : IsOnWalk path s h = on s read in
    let (prefix, depth) = holder_at path s h walk proper (λ n low high. none n low (omega (arith, high))) in
    record { walk = walk; prefix = prefix; proper = proper; depth = depth; beyond = λ more n low high. none n low high }

-- the path has no more steps but its last
pub ended : (d : ProfiledText) (path : List Part) (len : ℕ) (h : Holder) (s : Document) → IsTextOfTree d s
    → IsGoing d path len h → length path ≤ len → IsHolder path s h
ended d path len h s read (next, proper, on) end =
    let walk : IsOnWalk path s h = on s read in
    let (prefix, depth) = holder_at path s h walk proper (λ n low high. absurd (omega (arith, low, high, end, next))) in
    record {
      walk = walk;
      prefix = prefix;
      proper = proper;
      depth = depth;
      beyond = λ more n low high. absurd (omega (arith, more, end, next));
    }

pub went : (d : ProfiledText) (path : List Part) (len : ℕ) (h next : Holder) (s : Document) → IsTextOfTree d s
    → len < length path → IsGoing d path len h
    → ((s : Document) → IsTextOfTree d s → IsOnWalk path s h → IsFurther path s h (Some next))
    → IsGoing d path (len + 1) next
went d path len h next s read more (e, proper, on) further =
    let longer : next.len ≡ suc h.len = (further s read (on s read)).1 in
    (omega (arith, longer, e), inr (omega (arith, longer, more, e)), λ s read. (further s read (on s read)).0)
