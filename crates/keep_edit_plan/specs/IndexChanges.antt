-- What an edit changes of the index, where it need not be built anew.
use Rattle.std.specs.Prelude.{◌≡◌, ◌<◌, [], ◌∷◌, ◌++◌, List, None, Some, drop, length, map}
use Rattle.std.specs.Prelude.{ℕ}
use Rattle.keep_types.specs.declared.node.Kind.{Kind as NodeKind}
use Rattle.keep_types.specs.declared.node.Kind.TheVariants as node_kind
use Rattle.keep_syntax.specs.Tree.{Document, Value as TreeValue}
use Rattle.keep_meaning.specs.Counts.{statements_in}
use Rattle.keep_meaning.specs.DotsLess.{without_dots}
use Rattle.keep_meaning.specs.KeysMore.{keys_with_value}
use Rattle.keep_meaning.specs.Marks.{start, reading_after}
use Rattle.keep_meaning.specs.Meaning.{body_fact, mentions_in}
use Rattle.keep_meaning.specs.Nodes.{fact_kind, node_number}
use Rattle.keep_meaning.specs.OtherValues.{nodes_in_value, totals_of}
use Rattle.keep_meaning.specs.StatementsMore.{AreNumbersAtEnd, said_next}
use Rattle.keep_path.specs.Dots.{after_parts, totals_after_parts, with_dots, with_keys, with_parts_from}
use Rattle.keep_path.specs.Dots.{without_keys}
use Rattle.keep_path.specs.KeysAlone.{paths_below}
use Rattle.keep_path.specs.NodeInfos.{NodeInfos, line_info, root_infos, with_kind, with_last, with_node, with_path}
use Rattle.keep_path.specs.NodeInfos.{with_table, without_node}
use Rattle.keep_path.specs.NodesBelow.{AreBelow, with_value}
use Rattle.keep_path.specs.Path.{EndsInKey, Part, beside, key}
pub use Rattle.keep_index_store.specs.Below.{totals_in}
use Rattle.keep_index_store.specs.Renumbering.{numbers_of}
use Rattle.keep_rules.specs.LinePlaces.{IsPlaceOf, met_before, one_more}
use Rattle.keep_rules.specs.Lookup.{path_numbered}
use Rattle.keep_rules.specs.MentionInfos.{with_mentions}
use Rattle.keep_rules.specs.Nested.{AreNested}
use Rattle.keep_rules.specs.ReadDocuments.{IsIndexOf}
use Rattle.keep_edit_spec.specs.KeyvalLines.{IsLineValue}
use Rattle.keep_edit_plan.specs.Headers.{key_texts, statement_of}
use Rattle.keep_edit_plan.specs.Reading.{IsTextOfValue, telling_in}
use Rattle.keep_edit_plan.specs.declared.plan.IndexChange.{IndexChange}
use Rattle.keep_edit_plan.specs.declared.plan.IndexChange.TheVariants.{Kind, Key, Value, Inside, AddedLine, RemovedLine}
use Rattle.keep_edit_plan.specs.declared.plan.IndexChange.TheVariants.{AddedValue, AddedKeys, AddedKeysValue}
use Rattle.keep_edit_plan.specs.declared.plan.IndexChange.TheVariants.{AppendedHeader, AppendedLine, RemovedKeys}
use Rattle.keep_edit_plan.specs.declared.plan.IndexChange.TheVariants.{RemovedValue}

-- The node is there. Where another key is its path's last one, the path ends in a key, and no node is at the new one.
-- No node is at the path of a new line's first key, and the nodes that are met before the line come first. The numbers
-- of a new header come after those of a document of which this is known.
abbrev pub CanChange : NodeInfos → IndexChange → Type 0
CanChange t (Kind node kind) = node.0 < length t.paths
CanChange t (Key node text) =
    (node.0 < length t.paths) × EndsInKey (path_numbered t node.0)
    × (node_number t.paths (beside (path_numbered t node.0) text.now) ≡ None)
CanChange t (Value node value old) = node.0 < length t.paths
CanChange t (Inside node number old) = node.0 < length t.paths
CanChange t (AddedLine parent text line kind) =
    (parent.0 < length t.paths) × (node_number t.paths (path_numbered t parent.0 ++ key text.now ∷ []) ≡ None)
    × IsPlaceOf (numbers_of line) t.infos (met_before (numbers_of line) t.infos)
CanChange t (AppendedLine parent text line kind) =
    (parent.0 < length t.paths) × (node_number t.paths (path_numbered t parent.0 ++ key text.now ∷ []) ≡ None)
CanChange t (RemovedLine node line) = node.0 < length t.paths
CanChange t (AddedValue parent text line value old) =
    (parent.0 < length t.paths) × (node_number t.paths (path_numbered t parent.0 ++ key text.now ∷ []) ≡ None)
    × IsPlaceOf (numbers_of line) t.infos (met_before (numbers_of line) t.infos)
CanChange t (AddedKeys parent keys line kind old) =
    (parent.0 < length t.paths)
    × ((first : List ℕ) (further : List (List ℕ)) → drop keys.from keys.path.now ≡ map key (first ∷ further)
    → node_number t.paths (path_numbered t parent.0 ++ key first ∷ []) ≡ None)
    × IsPlaceOf (numbers_of line) t.infos (met_before (numbers_of line) t.infos)
CanChange t (AddedKeysValue parent path from line value old) =
    (parent.0 < length t.paths)
    × ((first : List ℕ) (further : List (List ℕ)) → drop from path.now ≡ map key (first ∷ further)
    → node_number t.paths (path_numbered t parent.0 ++ key first ∷ []) ≡ None)
    × IsPlaceOf (numbers_of line) t.infos (met_before (numbers_of line) t.infos)
CanChange t (RemovedValue node line old) = node.0 < length t.paths
CanChange t (RemovedKeys node passed line old) = node.0 < length t.paths
CanChange t (AppendedHeader header keys statement first) =
    (d : Document) × IsIndexOf d t × AreNumbersAtEnd d statement first

-- The nodes of the second are those of the first, with this change, which gives this document.
abbrev pub IsChanged : NodeInfos → Document → IndexChange → NodeInfos → Type 0
IsChanged t d (Kind node kind) u = u ≡ with_kind t node.0 kind
IsChanged t d (Key node text) u =
    u ≡ with_path t (path_numbered t node.0) (beside (path_numbered t node.0) text.now)
IsChanged t d (Value node value old) u =
    (v : TreeValue) → IsTextOfValue value.now v → (gone : ℕ) → AreBelow t.paths node.0 gone
    → u ≡ with_value t node.0 gone (totals_in old) (totals_of d) (nodes_in_value v) (fact_kind (body_fact v.body))
IsChanged t d (Inside node number old) u =
    (v : TreeValue) → IsLineValue d number v → (gone : ℕ) → AreBelow t.paths node.0 gone
    → u ≡ with_value t node.0 gone (totals_in old) (totals_of d) (nodes_in_value v) (fact_kind (body_fact v.body))
IsChanged t d (AddedLine parent text line kind) u =
    u ≡ with_node t (met_before (numbers_of line) t.infos) (numbers_of line)
    (path_numbered t parent.0 ++ key text.now ∷ []) kind
IsChanged t d (AppendedLine parent text line kind) u =
    u ≡ with_last t (path_numbered t parent.0 ++ key text.now ∷ []) (line_info (numbers_of line) kind)
IsChanged t d (RemovedLine node line) u = u ≡ without_node t node.0 (numbers_of line)
IsChanged t d (AddedValue parent text line value old) u =
    (v : TreeValue) → IsTextOfValue value.now v
    → u ≡ with_value (with_node t (met_before (numbers_of line) t.infos) (numbers_of line)
    (path_numbered t parent.0 ++ key text.now ∷ []) (fact_kind (body_fact v.body)))
    (met_before (numbers_of line) t.infos) 0 (one_more (totals_in old)) (totals_of d) (nodes_in_value v)
    (fact_kind (body_fact v.body))
IsChanged t d (AddedKeys parent keys line kind old) u =
    (first : List ℕ) (further : List (List ℕ)) → drop keys.from keys.path.now ≡ map key (first ∷ further)
    → (base : List Part) (passed : List (List ℕ)) (ids : List ℕ) → path_numbered t parent.0 ≡ base ++ map key passed
    → length passed ≡ keys.passed → map (node_number t.paths) (paths_below base passed) ≡ map Some ids
    → u ≡ with_dots line.value ids (with_keys (with_parts_from line.key keys.passed t)
    (met_before (numbers_of line) t.infos) (after_parts keys.passed (numbers_of line))
    (path_numbered t parent.0 ++ key first ∷ []) further kind (totals_after_parts keys.passed (totals_in old))
    (totals_of d))
IsChanged t d (AddedKeysValue parent path from line value old) u =
    (first : List ℕ) (further : List (List ℕ)) → drop from path.now ≡ map key (first ∷ further)
    → (v : TreeValue) → IsTextOfValue value.now v
    → u ≡ with_value (with_table t (met_before (numbers_of line) t.infos) (numbers_of line)
    (path_numbered t parent.0 ++ key first ∷ []))
    (met_before (numbers_of line) t.infos) 0 (one_more (totals_in old)) (totals_of d)
    (keys_with_value further (fact_kind (body_fact v.body)) (nodes_in_value v)) node_kind.Table
IsChanged t d (RemovedValue node line old) u =
    (gone : ℕ) (k : NodeKind) → AreBelow t.paths node.0 gone
    → u ≡ without_node (with_value t node.0 gone (totals_in old) (one_more (totals_of d)) root_infos k) node.0
    (numbers_of line)
IsChanged t d (RemovedKeys node passed line old) u =
    (base : List Part) (keys : List (List ℕ)) (first : List ℕ) (ids : List ℕ)
    → path_numbered t node.0 ≡ (base ++ map key keys) ++ key first ∷ [] → length keys ≡ passed
    → map (node_number t.paths) (paths_below base keys) ≡ map Some ids
    → (gone : ℕ) (k : NodeKind) → AreBelow t.paths node.0 gone
    → u ≡ without_dots ids (without_keys t node.0 gone passed (numbers_of line) (totals_in old) (totals_of d) k)
IsChanged t d (AppendedHeader header keys statement first) u =
    (old : Document) → IsIndexOf old t → AreNumbersAtEnd old statement first
    → u ≡ with_mentions t (said_next old (statement_of header (key_texts keys.now)))

-- What is known of the nodes of the new document is what is known of those of the old one, with this change. They are
-- nested as its headers say.
pub record IsIndexChange (old new : Document) (change : IndexChange) : Type 0 where
  pub can : CanChange (telling_in old) change
  pub facts : (u : NodeInfos) → IsChanged (telling_in old) new change u → u ≡ telling_in new
  pub nested : AreNested (mentions_in new) (reading_after start (statements_in new)).tables
