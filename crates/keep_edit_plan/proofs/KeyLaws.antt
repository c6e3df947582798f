-- `rename` puts a key in place of another: of all that the index tells the paths at and under one node change.
--
-- The law of the edit says so of all that is numbered (`nodes_renamed`): it is the same, at changed paths. What is
-- known of a node depends on its mentions, but not on their paths (`info_moved`). Different paths stay different, so a
-- changed path has the mentions that the old one had (`there_moved`), and what is known there is what was known at the
-- old one (`known_there`). So what is known of all nodes, as a list, is the same but for the paths (`known_moved`). The
-- nodes are nested as before (`nested_moved`). No node has the new path yet (`no_number`), so the key can be changed in
-- the index.
--
-- Theorem: `key_changed`.
use Rattle.std.proofs.Common.{◌≡◌, ℕ, ◌+◌, Bool, Bor, true, false, cond, ◌||◌, List, [], ◌∷◌, map, refl, sym, ap, ap₂}
use Rattle.std.proofs.Common.{subst, ◌∙◌, Option, Some, None, IsUtf8}
use Rattle.std.specs.List.{list_any, count_by}
use Rattle.std.proofs.lemmas.List.Folds.{fold-map}
use Rattle.std.proofs.lemmas.List.Sums.{sum_by-cons}
use Rattle.keep_syntax.specs.declared.syntax.Syntax.{Syntax}
use Rattle.keep_syntax.specs.Tree.{Document}
use Rattle.keep_path.specs.Path as path_of
use Rattle.keep_path.specs.Path.{beside, last_part, Part, key, moved_path, same_path}
use Rattle.keep_types.specs.declared.node.Kind.{Kind}
use Rattle.keep_types.specs.declared.node.Origin.{Origin}
use Rattle.keep_types.specs.declared.node.NodeInfo.{NodeInfo}
use Rattle.keep_meaning.specs.Counts.{Count, Numbered, is_value, is_mark, numbered_in, statements_in}
use Rattle.keep_meaning.specs.Marks.{MentionKind, Mention, start, reading_after}
use Rattle.keep_meaning.specs.Meaning.{mentions_in}
use Rattle.keep_meaning.specs.Nodes.{is_begun, is_define, is_dotted, is_element, is_node, is_passed, is_through}
use Rattle.keep_meaning.specs.Nodes.{last_number, first_number, key_number, mention_kind_of, mention_of, mentioned_kind}
use Rattle.keep_meaning.specs.Nodes.{mentioned_node, mentioned_origin, node_at, node_info, node_number, node_paths}
use Rattle.keep_meaning.specs.Nodes.{numbered_at, statement_number, value_number, infos_in}
use Rattle.keep_meaning.proofs.Shared.{mentions-numbered_in, paths-nodes_in}
use Rattle.keep_path.specs.NodeInfos.{NodeInfos, with_path}
use Rattle.keep_rules.specs.declared.index.NodeId.{NodeId}
use Rattle.keep_rules.specs.Nested.{AreNested}
use Rattle.keep_rules.proofs.Shared.{number_is}
use Rattle.keep_edit_spec.specs.Edits.{rename, edited_document}
use Rattle.keep_edit_spec.proofs.Shared.{AllOf, EndsInKey, IsClear, IsNodeRenamed, KeepsSteps, last_part-snoc, moved}
use Rattle.keep_edit_spec.proofs.Shared.{moved_numbered, nodes_renamed}
use Rattle.keep_edit_plan.specs.Answers.{refusal_in}
use Rattle.keep_edit_plan.specs.IndexChanges.{IsIndexChange}
use Rattle.keep_edit_plan.specs.Plans.{IsNodeOf}
use Rattle.keep_edit_plan.specs.declared.plan.IndexChange.TheVariants as change
use Rattle.keep_edit_plan.specs.Reading.{limit, ProfiledText, Holds, IsTextOfTree, telling_in}
use Rattle.keep_edit_plan.proofs.AnswerLaws.{tree_is}
use Rattle.keep_edit_plan.proofs.EditedLaws.{editable}
use Rattle.keep_edit_plan.proofs.KindLaws.{info_in, infos_by_path}
use Rattle.keep_edit_plan.proofs.MovedNested.{nested_moved}
use Rattle.keep_edit_plan.proofs.MovedNodes.{all_paths, paths_moved, same_moved}
use Rattle.keep_edit_plan.proofs.NodeLaws.{a_node}

-- ---- what is known does not depend on paths

module _ (f : List Part → List Part) where
  kinds_moved : (ns : List Numbered) → map mention_kind_of (map (moved_numbered f) ns) ≡ map mention_kind_of ns
  kinds_moved [] = refl
  kinds_moved (n ∷ ns) = ap (λ (ks : List MentionKind). n.mention.kind ∷ ks) (kinds_moved ns)

  last_moved : (is : MentionKind → Bool) (number : Count → ℕ) (ns : List Numbered)
      → last_number is number (map (moved_numbered f) ns) ≡ last_number is number ns
  last_moved is number ns =
      fold-map (λ (known : Option ℕ) (n : Numbered). cond (is n.mention.kind) (Some (number n.before)) known)
      (moved_numbered f) None ns

  first_moved : (is : MentionKind → Bool) (number : Count → ℕ) (ns : List Numbered)
      → first_number is number (map (moved_numbered f) ns) ≡ first_number is number ns
  first_moved is number [] = refl
  first_moved is number (n ∷ ns) =
      ap (λ (o : Option ℕ). cond (is n.mention.kind) (Some (number n.before)) o) (first_moved is number ns)

  marks_moved : (ns : List Numbered)
      → count_by (λ (n : Numbered). is_mark n.mention.kind) (map (moved_numbered f) ns)
      ≡ count_by (λ (n : Numbered). is_mark n.mention.kind) ns
  marks_moved [] = refl
  marks_moved (n ∷ ns) =
      sum_by-cons (λ (n : Numbered). cond (is_mark n.mention.kind) 1 0) (moved_numbered f n) (map (moved_numbered f) ns)
      ∙ ap (λ (m : ℕ). cond (is_mark n.mention.kind) 1 0 + m) (marks_moved ns)
      ∙ sym (sum_by-cons (λ (n : Numbered). cond (is_mark n.mention.kind) 1 0) n ns)

  passed_moved : (ns : List Numbered)
      → list_any (λ (n : Numbered). is_passed n.mention.kind) (map (moved_numbered f) ns)
      ≡ list_any (λ (n : Numbered). is_passed n.mention.kind) ns
  passed_moved [] = refl
  passed_moved (n ∷ ns) = ap (λ (b : Bool). is_passed n.mention.kind || b) (passed_moved ns)

  origin_moved : (ns : List Numbered) → mentioned_origin (map (moved_numbered f) ns) ≡ mentioned_origin ns
  origin_moved ns =
      rw (
        last_moved is_value value_number ns,
        last_moved is_element statement_number ns,
        last_moved is_begun statement_number ns,
        last_moved is_define statement_number ns,
        last_moved is_dotted value_number ns,
        last_moved is_through statement_number ns,
      ) refl

  same_info : (k k' : Kind) (first first' : Option ℕ) (m m' : ℕ) (p p' : Bool) (o o' : Origin) → k ≡ k' → first ≡ first'
      → m ≡ m' → p ≡ p' → o ≡ o'
      → (let x : NodeInfo = record { kind = k; key = first; marks = m; passed = p; origin = o } in
      let y : NodeInfo = record { kind = k'; key = first'; marks = m'; passed = p'; origin = o' } in
      x ≡ y)
  same_info k k' first first' m m' p p' o o' ek ef em ep eo = cc

  info_moved : (q q' : List Part) (ns : List Numbered)
      → node_info (mentioned_node q' (map (moved_numbered f) ns)) ≡ node_info (mentioned_node q ns)
  info_moved q q' ns =
      same_info _ _ _ _ _ _ _ _ _ _ (ap mentioned_kind (kinds_moved ns)) (first_moved is_mark key_number ns)
      (marks_moved ns) (passed_moved ns) (origin_moved ns)

-- ---- what is known of the nodes

all_of_map : {A B : Type 0} (P : B → Type 0) (h : A → B) (xs : List A) → AllOf P (map h xs)
    → AllOf (λ (x : A). P (h x)) xs
all_of_map P h [] all = tt
all_of_map P h (x ∷ xs) all = (all.0, all_of_map P h xs all.1)

module _ (P : List Part → Type 0) (f : List Part → List Part) (keeps : KeepsSteps P f) where
  there_moved : (q : List Part) (ns : List Numbered) → P q → AllOf (λ (n : Numbered). P n.mention.path) ns
      → numbered_at (f q) (map (moved_numbered f) ns) ≡ map (moved_numbered f) (numbered_at q ns)
  there_moved q [] hq h = refl
  there_moved q (n ∷ ns) hq h =
      ap₂ (λ (b : Bool) (l : List Numbered). cond b (moved_numbered f n ∷ l) l)
      (same_moved P f keeps n.mention.path q h.0 hq) (there_moved q ns hq h.1) ∙ by (same_path n.mention.path q)
    where
      by : (b : Bool)
          → cond b (moved_numbered f n ∷ map (moved_numbered f) (numbered_at q ns))
          (map (moved_numbered f) (numbered_at q ns))
          ≡ map (moved_numbered f) (cond b (n ∷ numbered_at q ns) (numbered_at q ns))
      by true = refl
      by false = refl

  module _ (s s' : Document) (numbered : numbered_in s' ≡ map (moved_numbered f) (numbered_in s))
      (mentioned : mentions_in s' ≡ map (moved f) (mentions_in s))
      (all : AllOf (λ (m : Mention). P m.path) (mentions_in s)) where
    all_numbered : AllOf (λ (n : Numbered). P n.mention.path) (numbered_in s)
    all_numbered =
        all_of_map (λ (m : Mention). P m.path) mention_of (numbered_in s)
        (subst (AllOf (λ (m : Mention). P m.path)) (sym (mentions-numbered_in s)) all)

    known_there : (q : List Part) → P q → info_in s' (f q) ≡ info_in s q
    known_there q hq =
        ap (λ (ns : List Numbered). node_info (node_at ns (f q))) numbered
        ∙ ap (λ (ns : List Numbered). node_info (mentioned_node (f q) ns))
        (there_moved q (numbered_in s) hq all_numbered)
        ∙ info_moved f q (f q) (numbered_at q (numbered_in s))

    known_each : (ps : List (List Part)) → AllOf P ps → map (info_in s') (map f ps) ≡ map (info_in s) ps
    known_each [] h = refl
    known_each (q ∷ ps) h = ap₂ (λ (i : NodeInfo) (is : List NodeInfo). i ∷ is) (known_there q h.0) (known_each ps h.1)

    paths_are : node_paths (mentions_in s') ≡ map f (node_paths (mentions_in s))
    paths_are = ap node_paths mentioned ∙ paths_moved P f keeps (mentions_in s) all

    known_infos : infos_in s' ≡ infos_in s
    known_infos =
        infos_by_path s' ∙ ap (map (info_in s')) paths_are
        ∙ known_each (node_paths (mentions_in s)) (all_paths P f keeps (mentions_in s) all) ∙ sym (infos_by_path s)

    known_moved : telling_in s' ≡ (let t : NodeInfos =
        record { paths = map f (telling_in s).paths; infos = (telling_in s).infos } in t)
    known_moved =
        ap₂ (λ (ps : List (List Part)) (is : List NodeInfo). let t : NodeInfos = record { paths = ps; infos = is } in t)
        (paths-nodes_in s' ∙ paths_are ∙ ap (map f) (sym (paths-nodes_in s))) known_infos

-- ---- the edit

pub no_number : (path : List Part) (ms : List Mention) → is_node path ms ≡ false
    → node_number (node_paths ms) path ≡ None
no_number path ms none = by (node_number (node_paths ms) path) refl
  where
    by : (o : Option ℕ) → node_number (node_paths ms) path ≡ o → o ≡ None
    by None e = refl
    by (Some i) e = let there : is_node path ms ≡ true = a_node path ms i e in absurd cc

last_key : (path : List Part) → EndsInKey path → path_of.EndsInKey path
last_key path (prefix, last, e) = (last, ap last_part e ∙ last_part-snoc prefix (key last))

-- the node of the path, with another key
pub key_changed : (d : ProfiledText) (syntax : Syntax) (index : NodeInfos) (path : List Part) (s : Document)
    → Holds d syntax index → IsTextOfTree d s → (id : NodeId) → IsNodeOf path s id → (text : Bor (List ℕ))
    → IsUtf8 text.now
    → refusal_in d s (rename path text.now) ≡ None
    → IsIndexChange s (edited_document s (rename path text.now)) (change.Key id text)
key_changed d syntax index path s holds read id its_number text utf8 allowed =
    let b : List Part = beside path text.now in
    let new : Document = edited_document s (rename path text.now) in
    let f : List Part → List Part = moved_path path b in
    let e = editable d s read in
    let h : IsNodeRenamed path b s new = nodes_renamed d.profile limit s path text.now e.valid e.obeys utf8 allowed in
    let nested : AreNested (mentions_in s) (reading_after start (statements_in s)).tables =
    subst (λ (u : Document). AreNested (mentions_in u) (reading_after start (statements_in u)).tables)
    (tree_is d syntax index s holds read) holds.nested in
    let here : node_number (telling_in s).paths path ≡ Some id.0 =
    ap (λ (ps : List (List Part)). node_number ps path) (paths-nodes_in s) ∙ its_number in
    let (within, at) = number_is (telling_in s).paths path id.0 here in
    let free : node_number (telling_in s).paths b ≡ None =
    ap (λ (ps : List (List Part)). node_number ps b) (paths-nodes_in s) ∙ no_number b (mentions_in s) h.fresh in
    record {
      can = (
        within,
        subst path_of.EndsInKey (sym at) (last_key path h.ends),
        ap (λ (p : List Part). node_number (telling_in s).paths (beside p text.now)) at ∙ free,
      );
      facts = λ u is. is
          ∙ sym (known_moved (IsClear b) f h.steps s new h.moved.numbered h.moved.mentioned h.clear
          ∙ ap (λ (p : List Part). with_path (telling_in s) p (beside p text.now)) (sym at));
      nested =
          subst (λ (ms : List Mention). AreNested ms (reading_after start (statements_in new)).tables)
          (sym h.moved.mentioned)
          (subst (λ (ts : List (List Part)). AreNested (map (moved f) (mentions_in s)) ts) (sym h.moved.tables)
          (nested_moved (IsClear b) f h.steps (mentions_in s) (reading_after start (statements_in s)).tables h.clear
          h.tables_clear nested));
    }
