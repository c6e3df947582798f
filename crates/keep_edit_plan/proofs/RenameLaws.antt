-- Renaming a key: when it is refused, and where the key is.
--
-- The refusal is the first of five tests that holds: no node, no key at the end, a node of the new name, more than one
-- mention. The code asks in this order, and each answer decides its test (`not_found`, `not_key`, `exists_there`): a
-- look-up finds a node exactly where there is one (`node_test`), and the last step tells whether the path ends in a
-- key. Where the index says that the node has one mention (`IsOneKey`), the last test passes, and the span that it
-- gives is that of the key part (`key_found`); so the edit is done there (`renamed_there`).
--
-- Theorems: `scattered`, `allowed`, `renamed_there` and `law_of`.
use Rattle.std.proofs.Common.{◌≡◌, ℕ, suc, ◌-◌, Bool, true, false, List, [], ◌∷◌, ◌++◌, length, take, slice_get, refl}
use Rattle.std.proofs.Common.{sym, ap, subst, ◌∙◌, arith, Option, Some, None, Ok}
use Rattle.std.specs.Prelude.{not, ◌&&◌, ◌||◌, ◌==◌, ◌++◌, IsUtf8, is_some}
use Rattle.std.specs.Option.{option_and_then}
use Rattle.std.proofs.lemmas.Bool.{eqb-true}
use Rattle.keep_syntax.specs.declared.syntax.Syntax.{Syntax}
use Rattle.keep_types.specs.declared.leaf.Profile.{Profile}
use Rattle.keep_token.specs.Encoded.{encoded_key}
use Rattle.keep_types.specs.declared.syntax.Span.{Span}
use Rattle.keep_syntax.specs.Tree.{Document}
use Rattle.keep_types.specs.declared.node.NodeInfo.{NodeInfo}
use Rattle.keep_meaning.specs.Meaning.{mentions_in}
use Rattle.keep_rules.specs.declared.index.NodeId.{NodeId}
use Rattle.keep_rules.specs.Lookup.{number_of}
use Rattle.keep_meaning.specs.Nodes.{is_root, is_node, mark_count, node_at, node_number, node_paths, nodes_in}
use Rattle.keep_meaning.specs.Nodes.{key_span_of}
use Rattle.keep_rules.specs.ReadDocuments.{IsIndexOf}
use Rattle.keep_meaning.specs.Counts.{numbered_in}
use Rattle.keep_syntax.specs.Numbered as numbered
use Rattle.keep_syntax.specs.Contract.{IsSyntaxOf}
use Rattle.keep_path.specs.NodeInfos.{NodeInfos}
use Rattle.keep_meaning.proofs.Shared.{paths-nodes_in, parts_readable}
use Rattle.keep_path.specs.Path.{Part, key, index as index_part}
use Rattle.keep_edit_spec.specs.declared.fault.EditFault.{EditFault}
use Rattle.keep_edit_spec.specs.declared.fault.EditFault.TheVariants as fault
use Rattle.keep_edit_spec.specs.Edits.{rename}
use Rattle.keep_edit_spec.specs.Laws.{IsLawfulEdit}
use Rattle.keep_edit_spec.specs.Look.{last_part, without_last, is_index}
use Rattle.keep_edit_spec.specs.Refusals.{refusal, first_that_holds, ends_in_index, beside}
use Rattle.keep_edit_spec.proofs.Shared.{rename_lawful, false_unless, IsKeyRenamed, marks_stated, rename_placed}
use Rattle.keep_edit_spec.proofs.Shared.{rename_place_is}
use Rattle.keep_edit_plan.specs.Reading.{limit, ProfiledText, Holds, IsTextOfTree}
use Rattle.keep_edit_plan.specs.Places.{IsDoneAt}
use Rattle.keep_edit_plan.proofs.AnswerLaws.{index_of, stated_is, tree_is}
use Rattle.keep_edit_plan.proofs.NodeLaws.{a_node}
use Rattle.keep_edit_plan.proofs.FoundLaws.{IsStated, node_found, none_found}
use Rattle.keep_edit_plan.proofs.EditedLaws.{editable}

-- ---- the refusal

-- by the tests in their order: the path names a node, is the root's, ends in an index; the new key names a node; one
-- mark
abbrev rename_refusal : Bool → Bool → Bool → Bool → Bool → Option EditFault
rename_refusal a r i x c =
    first_that_holds ((not a, fault.NotFound) ∷ ((not r && not i) && x, fault.Exists) ∷ (r || i, fault.NotKey)
    ∷ (not c, fault.Scattered) ∷ [])

no_node_by : (a r i x c : Bool) → a ≡ false → rename_refusal a r i x c ≡ Some fault.NotFound
no_node_by false r i x c e = refl
no_node_by true r i x c e = absurd cc

no_key_by : (a r i x c : Bool) → a ≡ true → (not r && not i) ≡ false → rename_refusal a r i x c ≡ Some fault.NotKey
no_key_by false r i x c e f = absurd cc
no_key_by true true i x c e f = refl
no_key_by true false true x c e f = refl
no_key_by true false false x c e f = absurd cc

exists_by : (a r i x c : Bool) → a ≡ true → (not r && not i) ≡ true → x ≡ true
    → rename_refusal a r i x c ≡ Some fault.Exists
exists_by false r i x c e f g = absurd cc
exists_by true true i x c e f g = absurd cc
exists_by true false true x c e f g = absurd cc
exists_by true false false false c e f g = absurd cc
exists_by true false false true c e f g = refl

marked_by : (a r i x c : Bool) → a ≡ true → (not r && not i) ≡ true → x ≡ false
    → rename_refusal a r i x c ≡ first_that_holds ((not c, fault.Scattered) ∷ [])
marked_by false r i x c e f g = absurd cc
marked_by true true i x c e f g = absurd cc
marked_by true false true x c e f g = absurd cc
marked_by true false false true c e f g = absurd cc
marked_by true false false false c e f g = refl

-- the path ends in a key
abbrev pub ends_in_key : List Part → Bool
ends_in_key path = not (is_root path) && not (ends_in_index path)

module _ (profile : Profile) (s : Document) (path : List Part) (t : List ℕ) where
  pub not_found : is_node path (mentions_in s) ≡ false → refusal profile limit s (rename path t) ≡ Some fault.NotFound
  not_found e =
      no_node_by (is_node path (mentions_in s)) (is_root path) (ends_in_index path)
      (is_node (beside path t) (mentions_in s)) (mark_count path (mentions_in s) == 1) e

  pub not_key : is_node path (mentions_in s) ≡ true → ends_in_key path ≡ false
      → refusal profile limit s (rename path t) ≡ Some fault.NotKey
  not_key e f =
      no_key_by (is_node path (mentions_in s)) (is_root path) (ends_in_index path)
      (is_node (beside path t) (mentions_in s)) (mark_count path (mentions_in s) == 1) e f

  pub exists_there : is_node path (mentions_in s) ≡ true → ends_in_key path ≡ true
      → is_node (beside path t) (mentions_in s) ≡ true → refusal profile limit s (rename path t) ≡ Some fault.Exists
  exists_there e f g =
      exists_by (is_node path (mentions_in s)) (is_root path) (ends_in_index path)
      (is_node (beside path t) (mentions_in s)) (mark_count path (mentions_in s) == 1) e f g

  marked : is_node path (mentions_in s) ≡ true → ends_in_key path ≡ true
      → is_node (beside path t) (mentions_in s) ≡ false
      → refusal profile limit s (rename path t)
      ≡ first_that_holds ((not (mark_count path (mentions_in s) == 1), fault.Scattered) ∷ [])
  marked e f g =
      marked_by (is_node path (mentions_in s)) (is_root path) (ends_in_index path)
      (is_node (beside path t) (mentions_in s)) (mark_count path (mentions_in s) == 1) e f g

-- ---- the path

-- without its last part
pub prefix_is : (path : List Part) → take (length path - 1) path ≡ without_last path
prefix_is [] = refl
prefix_is (p ∷ []) = refl
prefix_is (p ∷ q ∷ ps) =
    let n : length (p ∷ q ∷ ps) - 1 ≡ suc (length (q ∷ ps) - 1) = omega arith in
    ap (λ k. take k (p ∷ q ∷ ps)) n ∙ ap (λ l. p ∷ l) (prefix_is (q ∷ ps))

pub beside_is : (path : List Part) (t : List ℕ) → take (length path - 1) path ++ key t ∷ [] ≡ beside path t
beside_is path t = ap (λ l. l ++ key t ∷ []) (prefix_is path)

-- its last part
pub last_is : (path : List Part) → slice_get path (length path - 1) ≡ last_part path
last_is [] = refl
last_is (p ∷ []) = refl
last_is (p ∷ q ∷ ps) =
    let n : length (p ∷ q ∷ ps) - 1 ≡ suc (length (q ∷ ps) - 1) = omega arith in
    ap (slice_get (p ∷ q ∷ ps)) n ∙ last_is (q ∷ ps)

-- the tests of the code
pub by_key : (path : List Part) (t : List ℕ) → last_part path ≡ Some (key t) → true ≡ ends_in_key path
by_key [] t e = absurd cc
by_key (p ∷ ps) t e = ap (λ (o : Option Part). not (elim o [ None ↦ false | Some part ↦ is_index part ])) (sym e)

pub by_index : (path : List Part) (n : ℕ) → last_part path ≡ Some (index_part n) → false ≡ ends_in_key path
by_index [] n e = absurd cc
by_index (p ∷ ps) n e = ap (λ (o : Option Part). not (elim o [ None ↦ false | Some part ↦ is_index part ])) (sym e)

pub by_nothing : (path : List Part) → last_part path ≡ None → false ≡ ends_in_key path
by_nothing [] e = refl
by_nothing (p ∷ []) e = absurd cc
by_nothing (p ∷ q ∷ ps) e = absurd (none_last q ps e)
  where
    none_last : (q : Part) (ps : List Part) → last_part (q ∷ ps) ≡ None → ⊥
    none_last q [] e = absurd cc
    none_last q (r ∷ ps) e = none_last r ps e

-- a node that was looked for is there exactly if it was found
pub node_test : (d : ProfiledText) (syntax : Syntax) (index : NodeInfos) (path : List Part) (s : Document)
    → Holds d syntax index → IsTextOfTree d s
    → (o : Option NodeId) → number_of o ≡ node_number index.paths path → is_node path (mentions_in s) ≡ is_some o
node_test d syntax index path s holds read None found = none_found d syntax index path s holds read None refl found
node_test d syntax index path s holds read (Some id) found =
    let paths : index.paths ≡ node_paths (mentions_in s) =
    ap (λ (t : NodeInfos). t.paths) (stated_is d syntax index s holds read) ∙ paths-nodes_in s in
    a_node path (mentions_in s) id.0 (ap (λ (ps : List (List Part)). node_number ps path) (sym paths) ∙ sym found)

pub beside_test : (d : ProfiledText) (syntax : Syntax) (index : NodeInfos) (path : List Part) (t : List ℕ)
    (s : Document) → Holds d syntax index → IsTextOfTree d s
    → (o : Option NodeId) → number_of o ≡ node_number index.paths (take (length path - 1) path ++ key t ∷ [])
    → is_node (beside path t) (mentions_in s) ≡ is_some o
beside_test d syntax index path t s holds read o found =
    ap (λ q. is_node q (mentions_in s)) (sym (beside_is path t))
    ∙ node_test d syntax index (take (length path - 1) path ++ key t ∷ []) s holds read o found

-- ---- where the key is

-- what was looked up of the path's node, where it ends in a key and the new key is free
pub record IsOneKey (d : ProfiledText) (t : List ℕ) (path : List Part) (s : Document) (info : NodeInfo)
    (key_span : Option Span) : Type 0 where
  pub read : IsTextOfTree d s
  pub utf8 : IsUtf8 t
  pub stated : IsStated path s info
  pub key_is : key_span ≡ key_span_of (numbered.parts s) (node_at (numbered_in s) path)
  pub by_key : ends_in_key path ≡ true
  pub fresh : is_node (beside path t) (mentions_in s) ≡ false

-- the span that the index gives of the node's key
pub key_found : (d : ProfiledText) (syntax : Syntax) (index : NodeInfos) (path : List Part) (s : Document)
    → Holds d syntax index → IsTextOfTree d s → (id : NodeId) (o : Option NodeId) → o ≡ Some id
    → number_of o ≡ node_number index.paths path
    → (key_span : Option Span)
    → ((u : Document) → IsSyntaxOf syntax u → IsIndexOf u index
    → key_span ≡ option_and_then (key_span_of (numbered.parts u)) (slice_get (nodes_in u) id.0))
    → key_span ≡ key_span_of (numbered.parts s) (node_at (numbered_in s) path)
key_found d syntax index path s holds read id o one found key_span is =
    is s (subst (λ (u : Document). IsSyntaxOf syntax u) (tree_is d syntax index s holds read) holds.is)
    (index_of d syntax index s holds read)
    ∙ ap (option_and_then (key_span_of (numbered.parts s))) (node_found d syntax index path s holds read id o one found)

module _ (d : ProfiledText) (t : List ℕ) (path : List Part) (s : Document) (info : NodeInfo) (key_span : Option Span)
    (at : IsOneKey d t path s info key_span) where
  marks_are : info.marks ≡ mark_count path (mentions_in s)
  marks_are = ap (λ (i : NodeInfo). i.marks) at.stated.is ∙ marks_stated path s

  refusal_is : (b : Bool) → (info.marks == 1) ≡ b
      → refusal d.profile limit s (rename path t) ≡ first_that_holds ((not b, fault.Scattered) ∷ [])
  refusal_is b e =
      marked d.profile s path t at.stated.node at.by_key at.fresh
      ∙ ap (λ c. first_that_holds ((not c, fault.Scattered) ∷ [])) (ap (λ n. n == 1) (sym marks_are) ∙ e)

  pub scattered : (info.marks ≡ 1 → ⊥) → refusal d.profile limit s (rename path t) ≡ Some fault.Scattered
  scattered other = refusal_is false (false_unless (info.marks == 1) (λ e. other (eqb-true info.marks 1 e)))

  pub allowed : info.marks ≡ 1 → refusal d.profile limit s (rename path t) ≡ None
  allowed e = refusal_is true (ap (λ n. n == 1) e)

  renamed : (e : info.marks ≡ 1) → (law : IsLawfulEdit d.profile limit s (rename path t))
      → IsKeyRenamed path t s law.changed
  renamed e law = rename_placed path t s law.changed (sym marks_are ∙ e) law.is

  lawful : info.marks ≡ 1 → IsLawfulEdit d.profile limit s (rename path t)
  lawful e = rename_lawful d.profile limit s path t (editable d s at.read) at.utf8 (allowed e)

  -- one key part has a place
  pub has_span : info.marks ≡ 1 → key_span ≡ None → ⊥
  has_span e none =
      let h = renamed e (lawful e) in
      let k : None ≡ Some h.own.span = sym none ∙ at.key_is ∙ h.span in
      absurd cc

  pub renamed_there : (span : Span) → info.marks ≡ 1 → key_span ≡ Some span
      → IsDoneAt s (rename path t) d (encoded_key t) (Ok span)
  renamed_there span e here =
      let law = lawful e in
      let h = renamed e law in
      let same : Some h.own.span ≡ Some span = sym h.span ∙ sym at.key_is ∙ here in
      let own : h.own.span ≡ span = (let k : h.own.span ≡ span = cc in k) in
      let part =
      parts_readable d.text d.profile s at.read.utf8 at.read.reads.valid at.read.reads.spelled h.number h.own h.here in
      subst (λ (x : Span). IsDoneAt s (rename path t) d (encoded_key t) (Ok x)) own (
        allowed e,
        rename_place_is path t s law.changed h law.is,
        record { ordered = part.forward; within = part.end.0; starts = part.start; ends = part.end },
      )

-- the law of a rename that is not refused
pub law_of : (d : ProfiledText) (s : Document) (path : List Part) (t : List ℕ) → IsTextOfTree d s → IsUtf8 t
    → refusal d.profile limit s (rename path t) ≡ None → IsLawfulEdit d.profile limit s (rename path t)
law_of d s path t read utf8 allowed = rename_lawful d.profile limit s path t (editable d s read) utf8 allowed
