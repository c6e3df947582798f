-- Where the line's node is among the nodes is found by the facts about the others (`line_is_found`).
--
-- The nodes that are met before the line come first, in their order (`same_node`), and no further one has the path of
-- one of these (`new_node`). So by a node's number its path is said before the line or not, and its facts state the
-- same.
--
-- Theorem: `line_is_found`.
use Rattle.std.proofs.Common.{◌≡◌, ℕ, ◌<◌, ◌≤◌, ◌↔◌, Bool, true, false, cond, ◌||◌, List, [], ◌∷◌, ◌++◌, length, get_or}
use Rattle.std.proofs.Common.{map, refl, sym, ap, subst, ◌∙◌, ◌⊎◌, inl, inr, arith}
use Rattle.std.specs.Prelude.{fold}
use Rattle.std.specs.List.{list_any}
use Rattle.std.proofs.lemmas.Bool.{cases_lt, or_parts}
use Rattle.std.proofs.lemmas.List.{get_or-map, get_or_append_left, get_or_push, length-append, length-map, map-append}
use Rattle.std.proofs.lemmas.List.Elements.{filter-append}
use Rattle.std.proofs.lemmas.List.Folds.{list_any-append, list_any_at}
use Rattle.std.proofs.lemmas.List.Sums.{fold-append}
use Rattle.keep_types.specs.declared.node.NodeInfo.{NodeInfo}
use Rattle.keep_syntax.specs.Tree.{Document}
use Rattle.keep_path.specs.NodeInfos.{no_info}
use Rattle.keep_path.specs.Path.{Part, same_path}
use Rattle.keep_path.proofs.Shared.{path_decides}
use Rattle.keep_meaning.specs.Counts.{Numbered, count_from, no_count, statements_in}
use Rattle.keep_meaning.specs.Laws.{LineIsFound}
use Rattle.keep_meaning.specs.LinesMore.{is_met_from, nodes_after, numbers_after}
use Rattle.keep_meaning.specs.Marks.{Mention, Reading, Statement, marks, reading_after, start}
use Rattle.keep_meaning.specs.Meaning.{mentions_in}
use Rattle.keep_meaning.specs.Nodes.{infos_in, is_at, is_node, is_numbered_at, is_root, mention_of, node_at, node_info}
use Rattle.keep_meaning.specs.Nodes.{node_paths, nodes_of, numbered_at, paths_with}
use Rattle.keep_meaning.specs.Rules.{ObeysRules}
use Rattle.keep_meaning.proofs.CountLemmas.{mentions-numbered_from}
use Rattle.keep_meaning.proofs.ElementLemmas.{IsSound, IsSoundStatement, no_longer, sound_from, sound_statements}
use Rattle.keep_meaning.proofs.FoundLemmas.{met_at}
use Rattle.keep_meaning.proofs.LineLaws.{after_higher, after_line, as_many, before_line, before_lower, few_before}
use Rattle.keep_meaning.proofs.LineLaws.{mentions_old, met_before_line, numbered_old}
use Rattle.keep_meaning.proofs.LineNodeLemmas.{map_twice, path_of}
use Rattle.keep_meaning.proofs.LineNumberLemmas.{AllOf, all_left, all_right}
use Rattle.keep_meaning.proofs.MetLemmas.{node_met}
use Rattle.keep_meaning.proofs.MetLineLemmas.{met_after, met_before}

-- ---- the paths that are met, and further ones

pub same_node : (ps qs : List (List Part)) (i : ℕ) → i < length ps
    → get_or (fold paths_with ps qs) i [] ≡ get_or ps i []
same_node ps [] i low = refl
same_node ps (q ∷ qs) i low = by (list_any (same_path q) ps) (λ more h. same_node more qs i h)
  where
    by : (b : Bool)
        → ((more : List (List Part)) → i < length more → get_or (fold paths_with more qs) i [] ≡ get_or more i [])
        → get_or (fold paths_with (cond b ps (ps ++ q ∷ [])) qs) i [] ≡ get_or ps i []
    by true same = same ps low
    by false same =
        same (ps ++ q ∷ []) (omega (arith, low, length-append ps (q ∷ []))) ∙ get_or_append_left ps (q ∷ []) [] i low

new_node : (ps qs : List (List Part)) (i : ℕ) → length ps ≤ i → i < length (fold paths_with ps qs)
    → list_any (same_path (get_or (fold paths_with ps qs) i [])) ps ≡ false
new_node ps [] i high low = absurd (omega (arith, high, low))
new_node ps (q ∷ qs) i high low = by (list_any (same_path q) ps) refl low (λ more h l. new_node more qs i h l)
  where
    by : (b : Bool) → list_any (same_path q) ps ≡ b → i < length (fold paths_with (cond b ps (ps ++ q ∷ [])) qs)
        → ((more : List (List Part)) → length more ≤ i → i < length (fold paths_with more qs)
        → list_any (same_path (get_or (fold paths_with more qs) i [])) more ≡ false)
        → list_any (same_path (get_or (fold paths_with (cond b ps (ps ++ q ∷ [])) qs) i [])) ps ≡ false
    by true e low new = new ps high low
    by false e low new = place (cases_lt (length ps) i)
      where
        place : (length ps < i) ⊎ (i ≤ length ps)
            → list_any (same_path (get_or (fold paths_with (ps ++ q ∷ []) qs) i [])) ps ≡ false
        place (inl past) =
            let x : List Part = get_or (fold paths_with (ps ++ q ∷ []) qs) i [] in
            (or_parts (list_any (same_path x) ps) (list_any (same_path x) (q ∷ []))
            (sym (list_any-append (same_path x) ps (q ∷ []))
            ∙ new (ps ++ q ∷ []) (omega (arith, past, length-append ps (q ∷ []))) low)).0
        place (inr last) =
            let here : length ps ≡ i = omega (arith, high, last) in
            ap (λ (p : List Part). list_any (same_path p) ps)
            (same_node (ps ++ q ∷ []) qs i (omega (arith, last, length-append ps (q ∷ [])))
            ∙ get_or_push ps q [] i here) ∙ e

either_third : (a b c : Bool) → (a || (b || c)) ≡ true → a ≡ false → b ≡ false → c ≡ true
either_third true b c h e e' = absurd cc
either_third false true c h e e' = absurd cc
either_third false false c h e e' = h

-- ---- a document and some statement of it

module _ (d : Document) (before after : List Statement) (old : statements_in d ≡ before ++ after)
    (obeys : ObeysRules (marks (mentions_in d))) where
  abbrev xs : List Numbered
  xs = before_line d before after old

  abbrev ys : List Numbered
  ys = after_line d before after old

  abbrev middle : Reading
  middle = reading_after start before

  sound : AllOf IsSoundStatement (before ++ after)
  sound = subst (AllOf IsSoundStatement) old (sound_statements d)

  first : IsSound start middle (map mention_of xs)
  first = subst (IsSound start middle) (sym (mentions-numbered_from no_count start before))
      (sound_from start before (all_left IsSoundStatement before after sound))

  second : IsSound middle (reading_after middle after) (map mention_of ys)
  second =
      subst (IsSound middle (reading_after middle after))
      (sym (mentions-numbered_from (count_from no_count start before) middle after))
      (sound_from middle after (all_right IsSoundStatement before after sound))

  both_obey : ObeysRules (marks (map mention_of xs ++ map mention_of ys))
  both_obey = subst (λ (ms : List Mention). ObeysRules (marks ms)) (mentions_old d before after old) obeys

  abbrev was_met : List (List Part)
  was_met = node_paths (map mention_of xs)

  abbrev pub ps : List (List Part)
  ps = node_paths (map mention_of (xs ++ ys))

  mentioned : map mention_of (xs ++ ys) ≡ map mention_of xs ++ map mention_of ys
  mentioned = map-append mention_of xs ys

  paths_are : ps ≡ fold paths_with was_met (map path_of (map mention_of ys))
  paths_are =
      ap node_paths mentioned
      ∙ ap (fold paths_with ([] ∷ [])) (map-append path_of (map mention_of xs) (map mention_of ys))
      ∙ fold-append paths_with ([] ∷ []) (map path_of (map mention_of xs)) (map path_of (map mention_of ys))

  infos_are : infos_in d ≡ map (λ (q : List Part). node_info (node_at (xs ++ ys) q)) ps
  infos_are =
      ap (λ (ns : List Numbered). map node_info (nodes_of ns)) (numbered_old d before after old)
      ∙ map_twice node_info (node_at (xs ++ ys)) ps

  as_many_paths : length (infos_in d) ≡ length ps
  as_many_paths = ap length infos_are ∙ length-map ps (λ (q : List Part). node_info (node_at (xs ++ ys) q))

  module _ (i : ℕ) (within : i < length (infos_in d)) where
    abbrev q : List Part
    q = get_or ps i []

    low : i < length ps
    low = omega (arith, within, as_many_paths)

    -- by what is said of it before the line, and after
    info_is : is_met_from (numbers_after before) (get_or (infos_in d) i no_info)
        ≡ met_at (numbers_after before) q (numbered_at q xs ++ numbered_at q ys)
    info_is =
        ap (λ (l : List NodeInfo). is_met_from (numbers_after before) (get_or l i no_info)) infos_are
        ∙ ap (is_met_from (numbers_after before))
        (get_or-map (λ (q : List Part). node_info (node_at (xs ++ ys) q)) ps i [] no_info low)
        ∙ ap (met_at (numbers_after before) q) (filter-append (is_numbered_at q) xs ys)

    pub met_there : i < length was_met → is_node q (map mention_of xs) ≡ true
    met_there early =
        let same : q ≡ get_or was_met i [] =
        ap (λ (l : List (List Part)). get_or l i []) paths_are
        ∙ same_node was_met (map path_of (map mention_of ys)) i early in
        sym (node_met q (map mention_of xs))
        ∙ list_any_at (same_path q) was_met i [] early ((path_decides q (get_or was_met i [])).1 same)

    unmet : length was_met ≤ i → is_node q (map mention_of xs) ≡ false
    unmet late =
        sym (node_met q (map mention_of xs))
        ∙ ap (λ (l : List (List Part)). list_any (same_path (get_or l i [])) was_met) paths_are
        ∙ new_node was_met (map path_of (map mention_of ys)) i late (omega (arith, low, ap length paths_are))

    met_later : length was_met ≤ i → list_any (is_at q) (map mention_of ys) ≡ true
    met_later late =
        let node : is_node q (map mention_of (xs ++ ys)) ≡ true =
        sym (node_met q (map mention_of (xs ++ ys)))
        ∙ list_any_at (same_path q) ps i [] low ((path_decides q q).1 refl) in
        let both : list_any (is_at q) (map mention_of (xs ++ ys))
        ≡ (list_any (is_at q) (map mention_of xs) || list_any (is_at q) (map mention_of ys)) =
        ap (list_any (is_at q)) mentioned ∙ list_any-append (is_at q) (map mention_of xs) (map mention_of ys) in
        let none = or_parts (is_root q) (list_any (is_at q) (map mention_of xs)) (unmet late) in
        either_third (is_root q) (list_any (is_at q) (map mention_of xs)) (list_any (is_at q) (map mention_of ys))
        (ap (λ (b : Bool). is_root q || b) (sym both) ∙ node) none.0 none.1

    stated_before : i < length was_met → is_met_from (numbers_after before) (get_or (infos_in d) i no_info) ≡ false
    stated_before early =
        info_is ∙ met_before (count_from no_count start before) xs ys middle (reading_after middle after)
        first second (before_lower d before after old) (after_higher d before after old) both_obey q (met_there early)

    stated_after : length was_met ≤ i → is_met_from (numbers_after before) (get_or (infos_in d) i no_info) ≡ true
    stated_after late =
        info_is ∙ met_after (count_from no_count start before) xs ys middle (reading_after middle after) first
        second (before_lower d before after old) (after_higher d before after old) both_obey q (unmet late)
        (met_later late)

    pub stated : (nodes_after before ≤ i) ↔
        (is_met_from (numbers_after before) (get_or (infos_in d) i no_info) ≡ true)
    stated = (
      λ high. stated_after (omega (arith, high, met_before_line d before after old)),
      λ is. by is (cases_lt i (length was_met)),
    )
      where
        by : is_met_from (numbers_after before) (get_or (infos_in d) i no_info) ≡ true
            → (i < length was_met) ⊎ (length was_met ≤ i) → nodes_after before ≤ i
        by is (inl early) = absurd (no_longer _ is (stated_before early))
        by is (inr late) = omega (arith, late, met_before_line d before after old)

pub statement_is_found : (d : Document) (before after : List Statement) → statements_in d ≡ before ++ after
    → ObeysRules (marks (mentions_in d))
    → (nodes_after before ≤ length (infos_in d))
    × ((i : ℕ) → i < length (infos_in d) → (nodes_after before ≤ i)
    ↔ (is_met_from (numbers_after before) (get_or (infos_in d) i no_info) ≡ true))
statement_is_found d before after old obeys = (
  omega (arith, few_before d before after old, as_many d before after old),
  stated d before after old obeys,
)

pub line_is_found : LineIsFound
line_is_found d more line obeys = statement_is_found d line.before line.after line.old obeys
