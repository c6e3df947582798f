-- `set` puts a scalar in place of a value below which no node is: of all that the index tells one kind changes.
--
-- The law of the edit says so of each node by its path (`kind_set`): the one at the path has another kind, and all
-- others are as before. It needs that nothing is in the new value, as nothing is in a scalar (`no_entries`), and that
-- no node is below the path, since none is counted in the index (`nothing_below`). For the list of the nodes this means
-- that one entry has another kind, and all else stays, since a path has one number in it (`distinct`, `known_infos`,
-- `known_again`). The nodes are nested as before, since their paths, their roles and the headers of elements are
-- (`nested_again`).
--
-- Theorem: `kind_changed`.
use Rattle.std.proofs.Common.{◌≡◌, ◌≢◌, ℕ, ◌-◌, ◌<◌, ◌≤◌, false, List, [], ◌∷◌, ◌++◌, length, get_or, map, refl, sym}
use Rattle.std.proofs.Common.{ap, ap₂, subst, ◌∙◌, arith, inl, inr, Option, Some, None, slice_get, set}
use Rattle.std.specs.Prelude.{fold, AllPairs}
use Rattle.std.specs.List.{list_all}
use Rattle.std.specs.Option.{option_and_then}
use Rattle.std.proofs.lemmas.List.{get_or-map}
use Rattle.std.proofs.lemmas.Bool.{cases_Bool}
use Rattle.keep_types.specs.declared.leaf.Profile.TheVariants.{Wide}
use Rattle.keep_syntax.specs.declared.syntax.Syntax.{Syntax}
use Rattle.keep_syntax.specs.Tree.{Body, scalar, array, inline, Entries, none, entry, Value, Document, value_depth}
use Rattle.keep_syntax.specs.Grammar.{place_in, AreEntries}
use Rattle.keep_path.specs.Path.{Part, key, same_path}
use Rattle.keep_path.proofs.Shared.{path_decides}
use Rattle.keep_types.specs.declared.node.Kind.{Kind}
use Rattle.keep_types.specs.declared.node.NodeInfo.{NodeInfo}
use Rattle.keep_types.specs.declared.role.Role.TheVariants.{Element}
use Rattle.keep_meaning.specs.Counts.{numbered_in, statements_in}
use Rattle.keep_meaning.specs.Marks.{Mention, start, reading_after, elements_of, entered_path}
use Rattle.keep_meaning.specs.Meaning.{body_fact, mentions_in}
use Rattle.keep_meaning.specs.Nodes.{children, fact_kind, node_at, node_info, node_number, node_paths, infos_in}
use Rattle.keep_meaning.specs.Nodes.{mention_of, paths_with}
use Rattle.keep_meaning.specs.Rules.{allows}
use Rattle.keep_meaning.proofs.Shared.{mentions-numbered_in, paths-nodes_in}
use Rattle.keep_path.specs.NodeInfos.{NodeInfos, no_info, with_kind}
use Rattle.keep_rules.specs.declared.index.NodeId.{NodeId}
use Rattle.keep_rules.specs.Lookup.{children_numbered}
use Rattle.keep_rules.specs.Nested.{AreNested}
use Rattle.keep_rules.specs.RoleStates.{mention_roles}
use Rattle.keep_rules.proofs.Shared.{number_is, node_paths-distinct, infos_set, infos_of, one_place}
use Rattle.keep_edit_spec.specs.Changed.{Changed}
use Rattle.keep_edit_spec.specs.Edits.{set as set_edit, changed_or_same, edited_document}
use Rattle.keep_edit_spec.specs.Laws.{IsLawfulEdit}
use Rattle.keep_edit_spec.proofs.Shared.{set_lawful, rules_of_document, IsKindSet, kind_set}
use Rattle.keep_edit_plan.specs.Answers.{refusal_in}
use Rattle.keep_edit_plan.specs.IndexChanges.{IsIndexChange}
use Rattle.keep_edit_plan.specs.Plans.{IsNodeOf}
use Rattle.keep_edit_plan.specs.declared.plan.IndexChange.TheVariants as change
use Rattle.keep_edit_plan.specs.Reading.{limit, ProfiledText, Holds, IsTextOfTree, IsTextOfValue, telling_in}
use Rattle.keep_edit_plan.proofs.AnswerLaws.{tree_is, stated_is}
use Rattle.keep_edit_plan.proofs.EditedLaws.{editable}

-- ---- a scalar has nothing in it

pub no_entries : (w : Body) (es : Entries) → AreEntries Wide (place_in w) es
    → value_depth (record { body = w; nested = es }) ≡ 0 → es ≡ none
no_entries (scalar w) none are e = refl
no_entries (scalar w) (entry name body nested after comma rest) are e = absurd are.0
no_entries (array first) es are e = absurd cc
no_entries (inline first) es are e = absurd cc

-- ---- the nodes are nested as before

module _ (old new : List Mention) (tables tables' : List (List Part)) (paths : node_paths new ≡ node_paths old)
    (roles : (p : List Part) → mention_roles p new ≡ mention_roles p old) (same : tables' ≡ tables) where
  nested_again : AreNested old tables → AreNested new tables'
  nested_again h = record {
    closed =
        λ path more none. ap (λ ps. node_number ps (path ++ more)) paths
        ∙ h.closed path more (ap (λ ps. node_number ps path) (sym paths) ∙ none);
    listed = λ path k i is all.
        subst (λ ts. 0 < elements_of (path ++ key k ∷ []) ts) (sym same)
        (h.listed path k i (ap (λ ps. node_number ps (path ++ key k ∷ [])) (sym paths) ∙ is)
        (ap (list_all (λ role. allows role Element)) (sym (roles (path ++ key k ∷ []))) ∙ all));
    entered = λ path i is some.
        subst (λ ps.
        option_and_then (node_number ps) (slice_get (children path ps) (length (children path ps) - 1))
        ≡ node_number ps (entered_path tables' path)) (sym paths)
        (subst (λ ts.
        option_and_then (node_number (node_paths old))
        (slice_get (children path (node_paths old)) (length (children path (node_paths old)) - 1))
        ≡ node_number (node_paths old) (entered_path ts path)) (sym same)
        (h.entered path i (ap (λ ps. node_number ps path) (sym paths) ∙ is)
        (subst (λ ts. 0 < elements_of path ts) same some)));
  }

-- ---- what is known of them

abbrev pub info_in : Document → List Part → NodeInfo
info_in s p = node_info (node_at (numbered_in s) p)

pub infos_by_path : (s : Document) → infos_in s ≡ map (info_in s) (node_paths (mentions_in s))
infos_by_path s =
    infos_of node_info (node_at (numbered_in s)) (node_paths (map mention_of (numbered_in s)))
    ∙ ap (λ ms. map (info_in s) (node_paths ms)) (mentions-numbered_in s)

not_same : (p q : List Part) → (p ≡ q → ⊥) → same_path p q ≡ false
not_same p q differ =
    elim (cases_Bool (same_path p q)) [ inl same ↦ absurd (differ ((path_decides p q).0 same)) | inr is ↦ is ]

module _ (path : List Part) (k : Kind) (s s' : Document) (h : IsKindSet path k s s') (i : ℕ)
    (number : node_number (node_paths (mentions_in s)) path ≡ Some i) where
  same_paths : node_paths (mentions_in s') ≡ node_paths (mentions_in s)
  same_paths = ap (λ (ps : List (List Part)). fold paths_with ([] ∷ []) ps) h.met

  within : i < length (node_paths (mentions_in s))
  within = (number_is (node_paths (mentions_in s)) path i number).0

  here : get_or (node_paths (mentions_in s)) i [] ≡ path
  here = (number_is (node_paths (mentions_in s)) path i number).1

  distinct : AllPairs (λ p q. p ≢ q) (node_paths (mentions_in s))
  distinct =
      subst (λ (ms : List Mention). AllPairs (λ p q. p ≢ q) (node_paths ms)) (mentions-numbered_in s)
      (node_paths-distinct (numbered_in s))

  abbrev other_kind : NodeInfo
  other_kind = record (get_or (infos_in s) i no_info) { kind = k }

  known_at : other_kind ≡ info_in s' (get_or (node_paths (mentions_in s)) i [])
  known_at =
      let was : get_or (infos_in s) i no_info ≡ info_in s path =
      ap (λ (is : List NodeInfo). get_or is i no_info) (infos_by_path s)
      ∙ get_or-map (info_in s) (node_paths (mentions_in s)) i [] no_info within ∙ ap (info_in s) here in
      ap (λ (n : NodeInfo). record n { kind = k }) was ∙ sym (ap node_info h.here) ∙ ap (info_in s') (sym here)

  known_elsewhere : (j : ℕ) → j < length (node_paths (mentions_in s)) → (j ≡ i → ⊥)
      → info_in s' (get_or (node_paths (mentions_in s)) j []) ≡ info_in s (get_or (node_paths (mentions_in s)) j [])
  known_elsewhere j low other =
      ap node_info (h.elsewhere (get_or (node_paths (mentions_in s)) j [])
      (not_same path (get_or (node_paths (mentions_in s)) j [])
      (λ e. other (one_place (node_paths (mentions_in s)) distinct j i low within (sym e ∙ sym here)))))

  known_infos : infos_in s' ≡ set (infos_in s) i other_kind
  known_infos =
      infos_by_path s'
      ∙ ap (map (info_in s')) same_paths
      ∙ sym (infos_set (info_in s) (info_in s') (node_paths (mentions_in s)) i other_kind within known_at
      known_elsewhere)
      ∙ ap (λ (is : List NodeInfo). set is i other_kind) (sym (infos_by_path s))

  known_again : telling_in s' ≡ with_kind (telling_in s) i k
  known_again =
      ap₂ (λ (ps : List (List Part)) (is : List NodeInfo). record { paths = ps; infos = is })
      (paths-nodes_in s' ∙ same_paths ∙ sym (paths-nodes_in s)) known_infos

-- ---- the edit

module _ (d : ProfiledText) (syntax : Syntax) (index : NodeInfos) (path : List Part) (s : Document)
    (holds : Holds d syntax index) (read : IsTextOfTree d s) (id : NodeId)
    (its_number : IsNodeOf path s id) where
  paths_are : index.paths ≡ node_paths (mentions_in s)
  paths_are = ap (λ (t : NodeInfos). t.paths) (stated_is d syntax index s holds read) ∙ paths-nodes_in s

  -- it is in the index
  pub node_within : id.0 < length index.paths
  node_within = omega (arith, (number_is (node_paths (mentions_in s)) path id.0 its_number).0, ap length paths_are)

  its_children : children_numbered index id.0 ≡ children path (node_paths (mentions_in s))
  its_children =
      ap (λ (ps : List (List Part)). children (get_or ps id.0 []) ps) paths_are
      ∙ ap (λ (p : List Part). children p (node_paths (mentions_in s)))
      (number_is (node_paths (mentions_in s)) path id.0 its_number).1

  -- a node below it is counted
  pub some_below : (count : ℕ) → count ≡ length (children_numbered index id.0) → 0 < count
      → children path (node_paths (mentions_in s)) ≡ [] → ⊥
  some_below count is some empty = omega (arith, is, some, ap length (its_children ∙ empty))

  -- no node is, if none is counted
  pub nothing_below : (count : ℕ) → count ≡ length (children_numbered index id.0) → count ≤ 0
      → children path (node_paths (mentions_in s)) ≡ []
  nothing_below count is few = sym its_children ∙ no_length (children_numbered index id.0) (omega (arith, is, few))
    where
      no_length : (xs : List (List Part)) → length xs ≤ 0 → xs ≡ []
      no_length [] low = refl
      no_length (x ∷ xs) low = absurd (omega (arith, low))

  pub kind_changed : (given : List ℕ) (v : Value) → IsTextOfValue given v → refusal_in d s (set_edit path v) ≡ None
      → (count : ℕ) → count ≡ length (children_numbered index id.0) → count ≤ 0
      → value_depth v ≤ 0 → (k : Kind) → k ≡ fact_kind (body_fact v.body)
      → IsIndexChange s (edited_document s (set_edit path v)) (change.Kind id k)
  kind_changed given v value allowed count is few flat k kind_is =
      let law : IsLawfulEdit d.profile limit s (set_edit path v) =
      set_lawful d.profile limit s path v (editable d s read)
      (record { valid = value.reads.valid; obeys = value.obeys }) allowed in
      let empty : v.nested ≡ none = no_entries v.body v.nested value.reads.valid.nested (omega (arith, flat)) in
      let to : edited_document s (set_edit path v) ≡ law.changed.to =
      ap (λ (c : Option (Changed Document)). (changed_or_same s c).to) law.is in
      let h : IsKindSet path k s (edited_document s (set_edit path v)) =
      subst (λ (u : Document). IsKindSet path k s u) (sym to)
      (subst (λ (kind : Kind). IsKindSet path kind s law.changed.to) (sym kind_is)
      (kind_set s path v law.changed (rules_of_document s read.obeys) law.is empty (nothing_below count is few))) in
      let nested : AreNested (mentions_in s) (reading_after start (statements_in s)).tables =
      subst (λ (u : Document). AreNested (mentions_in u) (reading_after start (statements_in u)).tables)
      (tree_is d syntax index s holds read) holds.nested in
      record {
        can = omega (
          arith,
          (number_is (node_paths (mentions_in s)) path id.0 its_number).0,
          ap length (paths-nodes_in s),
        );
        facts = λ u is. is ∙ sym (known_again path k s (edited_document s (set_edit path v)) h id.0 its_number);
        nested =
            nested_again (mentions_in s) (mentions_in (edited_document s (set_edit path v))) _ _
            (same_paths path k s (edited_document s (set_edit path v)) h id.0 its_number) h.roles h.tables nested;
      }
