-- One line more in a document gives one node more (`line_adds_node`), and without it the nodes are those that were
-- (`line_takes_node`).
--
-- What the line says is one mention (`said_there`), between what is said before it and what is said after it, whose
-- numbers are then greater by one (`numbered_new`). The numbers before the line are lower than its own, and those after
-- it are not (`before_lower`, `after_higher`). So where the path is new, `node_more` gives the nodes of before with the
-- line's node, which comes after those that are met before the line (`met_before_line`). Taking that node out gives
-- back the nodes of before (`node_back`): what was put into a list is taken out of it again (`removed_again`), and each
-- number is what it was (`infos_back`).
--
-- Theorems: `line_adds_node`: the nodes with the line; `line_takes_node`: the nodes without it.
use Rattle.std.proofs.Common.{◌≡◌, ℕ, suc, ◌+◌, ◌≤◌, Bool, true, false, cond, List, [], ◌∷◌, ◌++◌, length, map, sym, ap}
use Rattle.std.proofs.Common.{ap₂, subst, ◌∙◌, arith, append_assoc}
use Rattle.std.specs.Prelude.{fold, take, drop}
use Rattle.std.specs.List.{insert, list_any, remove}
use Rattle.std.proofs.lemmas.List.{map-append, length-append, length-map, length-take-le, take-append-drop}
use Rattle.std.proofs.lemmas.List.Sums.{fold-append}
use Rattle.std.proofs.Math.Seq.{take-append-add, drop-append-add}
use Rattle.keep_types.specs.declared.node.NodeInfo.{NodeInfo}
use Rattle.keep_syntax.specs.Tree.{Document}
use Rattle.keep_path.specs.NodeInfos.{NodeInfos, LineNumbers, earlier_number, later_number, renumbered, with_node}
use Rattle.keep_path.specs.NodeInfos.{line_info, without_node}
use Rattle.keep_path.specs.Path.{Part, key, same_path}
use Rattle.keep_path.proofs.Shared.{infos_back}
use Rattle.keep_meaning.specs.Marks.{Mention, Reading, Statement, keyval, value as mentions_value, start, reading_after}
use Rattle.keep_meaning.specs.Meaning.{mentions_in}
use Rattle.keep_meaning.specs.Counts.{Count, Numbered, count_from, no_count, numbered_from, numbered_in, statements_in}
use Rattle.keep_meaning.specs.Laws.{LineAddsNode, LineTakesNode}
use Rattle.keep_meaning.specs.LinesMore.{HasLineMore, nodes_after, node_infos, numbers_after, path_after}
use Rattle.keep_meaning.specs.Nodes.{fact_kind, is_node, mention_of, node_info, node_path, node_paths, nodes_in}
use Rattle.keep_meaning.specs.Nodes.{paths_with}
use Rattle.keep_meaning.proofs.CountLemmas.{mentions-numbered_from, mentions-numbered_in, paths-nodes_in}
use Rattle.keep_meaning.proofs.LineNodeLemmas.{infos_of, line_of, node_more, path_of}
use Rattle.keep_meaning.proofs.LineNumberLemmas.{AllOf, IsHigher, IsLower, IsValued, all_left, higher_from, later}
use Rattle.keep_meaning.proofs.LineNumberLemmas.{later_numbered, lower_from, numbered_later, valued_statements}
use Rattle.keep_meaning.proofs.NumberLemmas.{numbered_from-append}

-- ---- what is said before some statement of a document, and from it on

module _ (d : Document) (before after : List Statement) (old : statements_in d ≡ before ++ after) where
  abbrev c : Count
  c = count_from no_count start before

  abbrev r : Reading
  r = reading_after start before

  abbrev pub before_line : List Numbered
  before_line = numbered_from no_count start before

  abbrev pub after_line : List Numbered
  after_line = numbered_from c r after

  pub numbered_old : numbered_in d ≡ before_line ++ after_line
  numbered_old = ap (numbered_from no_count start) old ∙ numbered_from-append no_count start before after

  pub before_lower : AllOf (IsLower c) before_line
  before_lower =
      lower_from no_count start before
      (all_left IsValued before after (subst (AllOf IsValued) old (valued_statements d)))

  pub after_higher : AllOf (IsHigher c) after_line
  after_higher = higher_from c r after

  pub mentions_old : mentions_in d ≡ map mention_of before_line ++ map mention_of after_line
  mentions_old =
      sym (mentions-numbered_in d) ∙ ap (map mention_of) numbered_old ∙ map-append mention_of before_line after_line

  pub met_before_line : length (node_paths (map mention_of before_line)) ≡ nodes_after before
  met_before_line =
      ap (λ (ms : List Mention). length (node_paths ms)) (mentions-numbered_from no_count start before)

-- ---- what the line says, among the rest

module _ (d more : Document) (line : HasLineMore d more) where
  abbrev its_count : Count
  its_count = count_from no_count start line.before

  abbrev its_reading : Reading
  its_reading = reading_after start line.before

  abbrev path : List Part
  path = path_after line.before line.text

  -- what is said before the line, and after it
  abbrev said_before : List Numbered
  said_before = before_line d line.before line.after line.old

  abbrev said_after : List Numbered
  said_after = after_line d line.before line.after line.old

  abbrev said_there : Numbered
  said_there = record { mention = record { path = path; kind = mentions_value line.fact }; before = its_count }

  next_is : (c : Count) → record { statements = c.statements + 1; values = c.values + 1; keys = c.keys + 1 } ≡ later c
  next_is c =
      let s : c.statements + 1 ≡ suc c.statements = omega arith in
      let v : c.values + 1 ≡ suc c.values = omega arith in
      let k : c.keys + 1 ≡ suc c.keys = omega arith in
      ap (λ (n : ℕ). record { statements = n; values = c.values + 1; keys = c.keys + 1 }) s
      ∙ ap₂ (λ (m n : ℕ). record { statements = suc c.statements; values = m; keys = n }) v k

  numbered_new : numbered_in more ≡ said_before ++ said_there ∷ map later_numbered said_after
  numbered_new =
      ap (numbered_from no_count start) line.new
      ∙ numbered_from-append no_count start line.before
      (keyval (record { path = key line.text ∷ []; kind = mentions_value line.fact } ∷ []) ∷ line.after)
      ∙ ap (λ (x : Count). said_before ++ said_there ∷ numbered_from x its_reading line.after) (next_is its_count)
      ∙ ap (λ (l : List Numbered). said_before ++ said_there ∷ l) (numbered_later its_count its_reading line.after)

  pub adds_node : is_node path (mentions_in d) ≡ false
      → node_infos more ≡ with_node (node_infos d) (nodes_after line.before) (numbers_after line.before) path (fact_kind
      line.fact)
  adds_node fresh =
      ap infos_of numbered_new
      ∙ node_more its_count said_before said_after (before_lower d line.before line.after line.old)
      (after_higher d line.before line.after line.old) path (mentions_value line.fact)
      (ap (is_node path) (sym (mentions_old d line.before line.after line.old)) ∙ fresh)
      ∙ ap₂ (λ (t : NodeInfos) (n : ℕ). with_node t n (line_of its_count) path (fact_kind line.fact))
      (ap infos_of (sym (numbered_old d line.before line.after line.old)))
      (met_before_line d line.before line.after line.old)

pub line_adds_node : LineAddsNode
line_adds_node d more line fresh = adds_node d more line fresh

-- ---- and back

pub removed_again : {A : Type 0} (xs : List A) (i : ℕ) (x : A) → i ≤ length xs → remove (insert xs i x) i ≡ xs
removed_again xs i x low =
    let many : length (take i xs) ≡ i = length-take-le i xs low in
    let at : i ≡ length (take i xs) + 0 = omega (arith, many) in
    let next : suc i ≡ length (take i xs) + 1 = omega (arith, many) in
    ap₂ (λ (us vs : List _). us ++ vs)
    (ap (λ (n : ℕ). take n (insert xs i x)) at ∙ take-append-add (take i xs) (x ∷ drop i xs) 0)
    (ap (λ (n : ℕ). drop n (insert xs i x)) next ∙ drop-append-add (take i xs) (x ∷ drop i xs) 1)
    ∙ append_assoc (take i xs) [] (drop i xs)
    ∙ take-append-drop i xs

-- with any facts about the node
pub node_back : (t : NodeInfos) (at : ℕ) (l : LineNumbers) (p : List Part) (i : NodeInfo) → at ≤ length t.paths
    → at ≤ length t.infos
    → without_node
    (record { paths = insert t.paths at p; infos = insert (map (renumbered later_number l) t.infos) at i })
    at l ≡ t
node_back t at l p i low low' =
    ap₂ (λ (ps : List (List Part)) (is : List NodeInfo). record { paths = ps; infos = is })
    (removed_again t.paths at p low)
    (ap (map (renumbered earlier_number l))
    (removed_again (map (renumbered later_number l) t.infos) at _
    (omega (arith, low', length-map t.infos (renumbered later_number l)))) ∙ infos_back l t.infos)

pub paths_grow : (ps qs : List (List Part)) → length ps ≤ length (fold paths_with ps qs)
paths_grow ps [] = omega arith
paths_grow ps (q ∷ qs) = by (list_any (same_path q) ps) (λ more. paths_grow more qs)
  where
    by : (b : Bool) → ((more : List (List Part)) → length more ≤ length (fold paths_with more qs))
        → length ps ≤ length (fold paths_with (cond b ps (ps ++ q ∷ [])) qs)
    by true grow = grow ps
    by false grow = omega (arith, grow (ps ++ q ∷ []), length-append ps (q ∷ []))

module _ (d : Document) (before after : List Statement) (old : statements_in d ≡ before ++ after) where
  pub paths_old : (node_infos d).paths
      ≡ fold paths_with (node_paths (map mention_of (before_line d before after old)))
      (map path_of (map mention_of (after_line d before after old)))
  paths_old =
      let xs : List Mention = map mention_of (before_line d before after old) in
      let ys : List Mention = map mention_of (after_line d before after old) in
      paths-nodes_in d ∙ ap node_paths (mentions_old d before after old)
      ∙ ap (fold paths_with ([] ∷ [])) (map-append path_of xs ys)
      ∙ fold-append paths_with ([] ∷ []) (map path_of xs) (map path_of ys)

  pub few_before : nodes_after before ≤ length (node_infos d).paths
  few_before =
      omega (
        arith,
        met_before_line d before after old,
        ap length paths_old,
        paths_grow (node_paths (map mention_of (before_line d before after old)))
            (map path_of (map mention_of (after_line d before after old))),
      )

  pub as_many : length (node_infos d).infos ≡ length (node_infos d).paths
  as_many = length-map (nodes_in d) node_info ∙ sym (length-map (nodes_in d) node_path)

module _ (d more : Document) (line : HasLineMore d more) where
  takes_node : is_node (path_after line.before line.text) (mentions_in d) ≡ false
      → node_infos d ≡ without_node (node_infos more) (nodes_after line.before) (numbers_after line.before)
  takes_node fresh =
      let at : ℕ = nodes_after line.before in
      let l : LineNumbers = numbers_after line.before in
      let few : at ≤ length (node_infos d).paths = few_before d line.before line.after line.old in
      sym (node_back (node_infos d) at l (path_after line.before line.text) (line_info l (fact_kind line.fact)) few
      (omega (arith, few, as_many d line.before line.after line.old)))
      ∙ ap (λ (t : NodeInfos). without_node t at l) (sym (adds_node d more line fresh))

pub line_takes_node : LineTakesNode
line_takes_node d more line fresh = takes_node d more line fresh
