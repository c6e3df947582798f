-- A line less that passes tables of dotted keys: the nodes of its new keys go, and these tables have one mention less
-- (`dots_take_nodes`).
--
-- With the line there are the nodes of its new keys, and of each passed table one mention more (`nodes_more`). Without
-- the former, which come after the tables, there are the nodes of before, with these mentions still (`rest_marked`).
-- Each passed table has a shorter path than the next (`deeper`), and the number of the last value below it
-- (`all_last`). So these mentions go.
--
-- Theorem: `dots_take_nodes`.
use Rattle.std.proofs.Common.{◌≡◌, ℕ, ◌+◌, ◌<◌, ◌≤◌, All, List, [], ◌∷◌, ◌++◌, get_or, length, map, refl, sym, ap}
use Rattle.std.proofs.Common.{subst, ◌∙◌, arith, length-append, Some}
use Rattle.std.specs.Prelude.{slice_set}
use Rattle.std.proofs.lemmas.List.{length-map}
use Rattle.std.proofs.lemmas.List.Elements.{All-head, All-tail}
use Rattle.keep_types.specs.declared.node.Kind.TheVariants as kind
use Rattle.keep_types.specs.declared.node.Origin.TheVariants as origin
use Rattle.keep_syntax.specs.Tree.{Document}
use Rattle.keep_path.specs.Dots.{info_with_dots, with_dots, without_keys, without_parts}
use Rattle.keep_path.specs.KeysAlone.{paths_below}
use Rattle.keep_path.specs.NodeInfos.{NodeInfos, no_info}
use Rattle.keep_path.specs.NodesBelow.{AreBelow}
use Rattle.keep_path.specs.Path.{Part, key}
use Rattle.keep_index_store.proofs.PartsLemmas.{parts_back}
use Rattle.keep_meaning.specs.DotsLess.{DotsHaveLast, DotsTakeNodes, without_dots}
use Rattle.keep_meaning.specs.DotsMore.{AreDotted, HasDotsMore, IsDotted, new_path, passed_paths}
use Rattle.keep_meaning.specs.KeysMore.{IsUnsaid}
use Rattle.keep_meaning.specs.LinesMore.{node_infos, nodes_after, numbers_after}
use Rattle.keep_meaning.specs.Marks.{marks, reading_after, start}
use Rattle.keep_meaning.specs.Meaning.{mentions_in}
use Rattle.keep_meaning.specs.Nodes.{node_info, node_number, node_path, nodes_of}
use Rattle.keep_meaning.specs.OtherValues.{totals_of}
use Rattle.keep_meaning.specs.Rules.{ObeysRules}
use Rattle.keep_meaning.proofs.DotMarkLemmas.{AreDeeper, AreMarked, HasLast, marks_gone, marks_stay}
use Rattle.keep_meaning.proofs.DotsLaws.{dots_taken, rest, xs}
use Rattle.keep_meaning.proofs.LineLaws.{as_many, few_before}
use Rattle.keep_meaning.proofs.LineNodeLemmas.{infos_of}
use Rattle.keep_meaning.proofs.LineNumberLemmas.{AllOf, all_of}
use Rattle.keep_rules.proofs.DotsKnownLaws.{dots_more, numbers_kept}
use Rattle.keep_rules.proofs.LookupLemmas.{number_is}

-- ---- tables that are each above the next

module _ (ps : List (List Part)) where
  abbrev IsBelow : List Part → ℕ → Type 0
  IsBelow above id = length above < length (get_or ps id [])

  first_below : (above : List Part) (k : List ℕ) (id : ℕ) → node_number ps (above ++ key k ∷ []) ≡ Some id
      → length (get_or ps id []) ≡ length above + 1
  first_below above k id number =
      ap length (number_is ps (above ++ key k ∷ []) id number).1 ∙ length-append above (key k ∷ [])

  all_below : (above : List Part) (ks : List (List ℕ)) (ids : List ℕ)
      → map (node_number ps) (paths_below above ks) ≡ map Some ids → AllOf (IsBelow above) ids
  all_below above [] [] same = tt
  all_below above [] (id ∷ ids) same = absurd cc
  all_below above (k ∷ ks) [] same = absurd cc
  all_below above (k ∷ ks) (id ∷ ids) same =
      let q : List Part = above ++ key k ∷ [] in
      let first : node_number ps q ≡ Some id = cc in
      let others : map (node_number ps) (paths_below q ks) ≡ map Some ids = cc in (
        omega (arith, first_below above k id first),
        all_of (IsBelow q) (IsBelow above) (λ j h. omega (arith, h, length-append above (key k ∷ []))) ids
            (all_below q ks ids others),
      )

  all_deeper : (above : List Part) (ks : List (List ℕ)) (ids : List ℕ)
      → map (node_number ps) (paths_below above ks) ≡ map Some ids → AreDeeper ps ids
  all_deeper above [] [] same = tt
  all_deeper above [] (id ∷ ids) same = absurd cc
  all_deeper above (k ∷ ks) [] same = absurd cc
  all_deeper above (k ∷ ks) (id ∷ ids) same =
      let q : List Part = above ++ key k ∷ [] in
      let first : node_number ps q ≡ Some id = cc in
      let others : map (node_number ps) (paths_below q ks) ≡ map Some ids = cc in (
        all_of (IsBelow q) (λ j. length (get_or ps id []) < length (get_or ps j []))
            (λ j h. omega (arith, h, first_below above k id first, length-append above (key k ∷ []))) ids
            (all_below q ks ids others),
        all_deeper q ks ids others,
      )

-- ---- one mention more leaves the paths

dots_paths : (v : ℕ) (ids : List ℕ) (t : NodeInfos) → (with_dots v ids t).paths ≡ t.paths
dots_paths v [] t = refl
dots_paths v (id ∷ ids) t =
    dots_paths v ids
    (record t { infos = slice_set t.infos id (info_with_dots v (get_or t.infos id no_info)) })

-- ---- the documents

module _ (have_last : DotsHaveLast) (d more : Document) (line : HasDotsMore d more) (ids : List ℕ)
    (passed : AreDotted d (nodes_after line.before) (passed_paths line.before line.passed) ids)
    (unsaid : IsUnsaid d (new_path line.before line.passed line.first)) (obeys : ObeysRules (marks (mentions_in d)))
  where
    abbrev at : ℕ
    at = nodes_after line.before

    abbrev m : ℕ
    m = length line.passed

    abbrev v : ℕ
    v = (numbers_after line.before).value

    abbrev was : NodeInfos
    was = node_infos d

    -- with the nodes of the new keys
    abbrev now : NodeInfos
    now = infos_of (xs d more line unsaid ++ rest d more line unsaid)

    nodes_more : node_infos more ≡ with_dots v ids now
    nodes_more = dots_more d more line ids passed unsaid

    abbrev its_gone : ℕ
    its_gone = (dots_taken d more line unsaid).gone

    paths_more : (node_infos more).paths ≡ now.paths
    paths_more = ap (λ (t : NodeInfos). t.paths) nodes_more ∙ dots_paths v ids now

    -- ---- without the nodes of the new keys

    abbrev rest_of : NodeInfos → NodeInfos
    rest_of t =
        without_keys t at its_gone m (numbers_after line.before) (totals_of more) (totals_of d) kind.Table

    rest_is : rest_of now ≡ was
    rest_is =
        ap (without_parts (numbers_after line.before).key m) (sym (dots_taken d more line unsaid).back)
        ∙ parts_back (numbers_after line.before).key m was

    within : at < length now.infos
    within = omega (
      arith,
      (dots_taken d more line unsaid).below.within,
      length-map (nodes_of (xs d more line unsaid ++ rest d more line unsaid)) node_info,
      length-map (nodes_of (xs d more line unsaid ++ rest d more line unsaid)) node_path,
    )

    all_before : (is : List ℕ) → All (IsDotted d at) is → AllOf (λ i. i < at) is
    all_before [] h = tt
    all_before (i ∷ is) h =
        ((All-head (IsDotted d at) i is h).0, all_before is (All-tail (IsDotted d at) i is h))

    rest_marked : AreMarked ids was (rest_of (with_dots v ids now))
    rest_marked =
        subst (λ (t : NodeInfos). AreMarked ids t (rest_of (with_dots v ids now))) rest_is
        (marks_stay at its_gone m (numbers_after line.before) (totals_of more) (totals_of d) kind.Table v ids now
        (all_before ids passed.dotted) within)

    -- ---- without their mentions

    few : at ≤ length was.infos
    few = omega (
      arith,
      few_before d line.before line.after line.old,
      as_many d line.before line.after line.old,
    )

    all_last : (is : List ℕ) → All (IsDotted d at) is → AllOf (HasLast was) is
    all_last [] h = tt
    all_last (i ∷ is) h =
        let own : IsDotted d at i = All-head (IsDotted d at) i is h in
        let low : i < length was.infos = omega (arith, own.0, few) in (
          record {
            within = low;
            last = own.1.1 ∙ ap origin.Dotted (sym (have_last d obeys i own.1.0 low own.1.1));
          },
          all_last is (All-tail (IsDotted d at) i is h),
        )

    deeper : AreDeeper was.paths ids
    deeper = all_deeper was.paths (reading_after start line.before).body line.passed ids passed.numbers

    nodes_less : was ≡ without_dots ids (rest_of (node_infos more))
    nodes_less =
        sym (marks_gone ids was (rest_of (with_dots v ids now)) rest_marked (all_last ids passed.dotted) deeper)
        ∙ ap (λ (t : NodeInfos). without_dots ids (rest_of t)) (sym nodes_more)

    number_more : node_number (node_infos more).paths (new_path line.before line.passed line.first) ≡ Some at
    number_more =
        ap (λ (ps : List (List Part)). node_number ps (new_path line.before line.passed line.first)) paths_more
        ∙ (dots_taken d more line unsaid).number

    numbers_more : map (node_number (node_infos more).paths) (passed_paths line.before line.passed) ≡ map Some ids
    numbers_more =
        ap (λ (ps : List (List Part)). map (node_number ps) (passed_paths line.before line.passed)) paths_more
        ∙ numbers_kept d more line ids passed unsaid (passed_paths line.before line.passed) ids passed.numbers
        passed.dotted

pub dots_take_nodes : DotsHaveLast → DotsTakeNodes
dots_take_nodes have_last d more line ids passed unsaid obeys = (
  number_more have_last d more line ids passed unsaid obeys,
  numbers_more have_last d more line ids passed unsaid obeys,
  (
    its_gone have_last d more line ids passed unsaid obeys,
    subst (λ (ps : List (List Part)).
        AreBelow ps (nodes_after line.before) (its_gone have_last d more line ids passed unsaid obeys))
        (sym (paths_more have_last d more line ids passed unsaid obeys)) (dots_taken d more line unsaid).below,
    nodes_less have_last d more line ids passed unsaid obeys,
  ),
)
