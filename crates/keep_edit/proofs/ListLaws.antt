-- The entries of a document: node by node, each with its path and what is there.
--
-- The definitions list the entries of the nodes but the root in the order of first meeting, and the index answers node
-- by node by its number. So the entry of a number is that of the next node, and a list that has the first of them has
-- all in the end.
--
-- Theorems: `entries_all`: a list that has the entries of all nodes is that of the definitions; `entry_added`: the path
-- and the kind that are answered for a number are those of its entry.
use Rattle.std.proofs.Common.{◌≡◌, ℕ, ◌+◌, ◌<◌, ◌≤◌, List, [], ◌∷◌, ◌++◌, length, length-drop, map, take, drop, get_or}
use Rattle.std.proofs.Common.{refl, sym, ap, subst, ◌∙◌, arith, false, true, Option, Some, None, String, Global}
use Rattle.std.specs.Prelude.{slice_get, IfSome, IsErr, OnOk, Result, Ok, Err}
use Rattle.std.proofs.lemmas.Grind.{get_or_after_one}
use Rattle.std.specs.Option.{option_map}
use Rattle.std.proofs.lemmas.List.{map-append, length-map, length-take-le, drop-append-le, take_more, take_all}
use Rattle.std.proofs.lemmas.Option.{slice_get-map, slice_get-get_or, slice_get_past}
use Rattle.keep_syntax.specs.declared.syntax.Syntax.{Syntax}
use Rattle.keep_syntax.specs.Tree.{Document}
use Rattle.keep_types.specs.declared.node.Kind.{Kind}
use Rattle.keep_types.specs.declared.node.NodeInfo.{NodeInfo}
use Rattle.keep_meaning.specs.Counts.{numbered_in}
use Rattle.keep_rules.specs.Lookup.{path_numbered}
use Rattle.keep_meaning.specs.Meaning.{mentions_in}
use Rattle.keep_meaning.specs.Nodes.{kind_at, mention_of, node_at, node_info, node_paths, infos_in}
use Rattle.keep_path.specs.Path.{Part}
use Rattle.keep_path.specs.PathText.{encoded_path}
use Rattle.keep_path.specs.NodeInfos.{NodeInfos}
use Rattle.keep_meaning.proofs.Shared.{mentions-numbered_in, paths-nodes_in}
use Rattle.keep_edit.specs.declared.document.Entry.{Entry}
use Rattle.keep_rules.specs.PathRooms.{HasRoom}
use Rattle.keep_edit.specs.Answers.{entry_at, entries_of, AddsEntryPath, HasEntryRoom}
use Rattle.keep_edit.specs.Reading.{ProfiledText, IsTextOfTree, telling_in, Holds}
use Rattle.keep_edit_plan.proofs.Shared.{stated_is, kind_stated}

-- ---- what is at the nodes

kinds-of : (s : Document) (paths : List (List Part))
    → map (λ i. i.kind) (map node_info (map (node_at (numbered_in s)) paths))
    ≡ map (λ path. kind_at path (mentions_in s)) paths
kinds-of s [] = refl
kinds-of s (p ∷ ps) =
    ap (λ k. k ∷ map (λ i. i.kind) (map node_info (map (node_at (numbered_in s)) ps))) (kind_stated p s)
    ∙ ap (λ ks. kind_at p (mentions_in s) ∷ ks) (kinds-of s ps)

kinds-infos_in : (s : Document)
    → map (λ i. i.kind) (infos_in s) ≡ map (λ path. kind_at path (mentions_in s)) (node_paths (mentions_in s))
kinds-infos_in s =
    kinds-of s (node_paths (map mention_of (numbered_in s)))
    ∙ ap (λ ms. map (λ path. kind_at path (mentions_in s)) (node_paths ms)) (mentions-numbered_in s)

-- ---- the entry of a node

-- so many nodes, the root among them, have their entries
abbrev pub entries_before : Document → ℕ → List Entry
entries_before s n = map (entry_at (mentions_in s)) (drop 1 (take n (node_paths (mentions_in s))))

abbrev entry : List Part → Kind → Entry
entry path kind = record { path = path; kind = kind }

kind_numbered : (s : Document) (n : ℕ) (info : NodeInfo) → n < length (node_paths (mentions_in s))
    → slice_get (infos_in s) n ≡ Some info
    → info.kind ≡ kind_at (get_or (node_paths (mentions_in s)) n []) (mentions_in s)
kind_numbered s n info h is =
    let paths : List (List Part) = node_paths (mentions_in s) in
    let stated : slice_get (map (λ i. i.kind) (infos_in s)) n ≡ Some info.kind =
    slice_get-map (λ i. i.kind) (infos_in s) n ∙ ap (option_map (λ i. i.kind)) is in
    let mentioned : slice_get (map (λ path. kind_at path (mentions_in s)) paths) n
    ≡ Some (kind_at (get_or paths n []) (mentions_in s)) =
    slice_get-map (λ path. kind_at path (mentions_in s)) paths n
    ∙ ap (option_map (λ path. kind_at path (mentions_in s))) (slice_get-get_or paths n [] h) in
    let both : Some info.kind ≡ Some (kind_at (get_or paths n []) (mentions_in s)) =
    sym stated ∙ ap (λ (ks : List Kind). slice_get ks n) (kinds-infos_in s) ∙ mentioned in
    cc

-- what an index tells of all nodes
record IsStatedOf (s : Document) (index : NodeInfos) : Type 0 where
  paths : index.paths ≡ node_paths (mentions_in s)
  infos : index.infos ≡ infos_in s

report_of : (t : ProfiledText) (parts : Syntax) (index : NodeInfos) (s : Document) → Holds t parts index
    → IsTextOfTree t s → IsStatedOf s index
report_of t parts index s h read =
    let is : index ≡ telling_in s = stated_is t parts index s h read in
    record { paths = ap (λ (t : NodeInfos). t.paths) is ∙ paths-nodes_in s; infos = ap (λ (t : NodeInfos). t.infos) is }

-- ---- one after another

pub entries_none : (s : Document) → [] ≡ entries_before s 1
entries_none s = by (node_paths (mentions_in s))
  where
    by : (paths : List (List Part)) → [] ≡ map (entry_at (mentions_in s)) (drop 1 (take 1 paths))
    by [] = refl
    by (p ∷ ps) = refl

pub entries_more : (t : ProfiledText) (parts : Syntax) (index : NodeInfos) (s : Document) (entries : List Entry) (n : ℕ)
    (path : List Part) (info : NodeInfo) → Holds t parts index → IsTextOfTree t s
    → entries ≡ entries_before s n → 1 ≤ n → n < length index.paths → path ≡ path_numbered index n
    → slice_get index.infos n ≡ Some info
    → entries ++ entry path info.kind ∷ [] ≡ entries_before s (n + 1)
entries_more t parts index s entries n path info h read so_far some within place stated =
    let is : IsStatedOf s index = report_of t parts index s h read in
    let paths : List (List Part) = node_paths (mentions_in s) in
    let low : n < length paths = omega (arith, within, ap (λ (ps : List (List Part)). length ps) is.paths) in
    let p : List Part = get_or paths n [] in
    let here : path ≡ p = place ∙ ap (λ (ps : List (List Part)). get_or ps n []) is.paths in
    let kind : info.kind ≡ kind_at p (mentions_in s) =
    kind_numbered s n info low (ap (λ (is : List NodeInfo). slice_get is n) (sym is.infos) ∙ stated) in
    let next : entry path info.kind ≡ entry_at (mentions_in s) p =
    ap (λ q. entry q info.kind) here ∙ ap (entry p) kind in
    let prefix : drop 1 (take (n + 1) paths) ≡ drop 1 (take n paths) ++ p ∷ [] =
    ap (drop 1) (take_more paths n [] low)
    ∙ drop-append-le 1 (take n paths) (p ∷ []) (omega (arith, length-take-le n paths (omega arith))) in
    ap (λ es. es ++ entry path info.kind ∷ []) so_far
    ∙ ap (λ e. entries_before s n ++ e ∷ []) next
    ∙ sym (map-append (entry_at (mentions_in s)) (drop 1 (take n paths)) (p ∷ []))
    ∙ ap (map (entry_at (mentions_in s))) (sym prefix)

pub entries_all : (t : ProfiledText) (parts : Syntax) (index : NodeInfos) (s : Document) (entries : List Entry) (n : ℕ)
    → Holds t parts index → IsTextOfTree t s → entries ≡ entries_before s n
    → length index.paths ≤ n → entries ≡ entries_of s
entries_all t parts index s entries n h read so_far past =
    let is : IsStatedOf s index = report_of t parts index s h read in
    so_far ∙ ap (λ ps. map (entry_at (mentions_in s)) (drop 1 ps))
    (take_all n (node_paths (mentions_in s)) (omega (arith, past, ap (λ (ps : List (List Part)). length ps) is.paths)))

-- ---- by number

path_of_entry : (paths : List (List Part)) (n : ℕ) → n + 1 < length paths
    → slice_get (drop 1 paths) n ≡ Some (get_or paths (n + 1) [])
path_of_entry paths n low =
    slice_get-get_or (drop 1 paths) n [] (omega (arith, length-drop 1 paths))
    ∙ ap Some (get_or_after_one paths n [] ∙ ap (λ i. get_or paths i []) (omega arith))

-- what holds of the path of a node holds of that of its entry
pub entry_has : (P : List Part → Type 0) (t : ProfiledText) (parts : Syntax) (index : NodeInfos) (s : Document) (n : ℕ)
    → Holds t parts index → IsTextOfTree t s → n + 1 < length index.paths
    → P (path_numbered index (n + 1)) → IfSome (slice_get (entries_of s) n) (λ e. P e.path)
entry_has P t parts index s n h read within has =
    let is : IsStatedOf s index = report_of t parts index s h read in
    let paths : List (List Part) = node_paths (mentions_in s) in
    let low : n + 1 < length paths = omega (arith, within, ap (λ (ps : List (List Part)). length ps) is.paths) in
    let p : List Part = get_or paths (n + 1) [] in
    let there : slice_get (entries_of s) n ≡ Some (entry_at (mentions_in s) p) =
    slice_get-map (entry_at (mentions_in s)) (drop 1 paths) n
    ∙ ap (option_map (entry_at (mentions_in s))) (path_of_entry paths n low) in
    let same : path_numbered index (n + 1) ≡ p = ap (λ (ps : List (List Part)). get_or ps (n + 1) []) is.paths in
    subst (λ (o : Option Entry). IfSome o (λ e. P e.path)) (sym there) (subst P same has)

-- room for the text of its path is room for that of the node's
pub entry_room : (t : ProfiledText) (parts : Syntax) (index : NodeInfos) (s : Document) (n nodes : ℕ)
    (out : String Global) → Holds t parts index → IsTextOfTree t s → n + 1 < length index.paths
    → HasEntryRoom nodes out (slice_get (entries_of s) n) → HasRoom nodes out (path_numbered index (n + 1))
entry_room t parts index s n nodes out h read within room =
    let is : IsStatedOf s index = report_of t parts index s h read in
    let paths : List (List Part) = node_paths (mentions_in s) in
    let low : n + 1 < length paths = omega (arith, within, ap (λ (ps : List (List Part)). length ps) is.paths) in
    let p : List Part = get_or paths (n + 1) [] in
    let there : slice_get (entries_of s) n ≡ Some (entry_at (mentions_in s) p) =
    slice_get-map (entry_at (mentions_in s)) (drop 1 paths) n
    ∙ ap (option_map (entry_at (mentions_in s))) (path_of_entry paths n low) in
    let same : path_numbered index (n + 1) ≡ p = ap (λ (ps : List (List Part)). get_or ps (n + 1) []) is.paths in
    let has : HasRoom nodes out p = subst (λ (o : Option Entry). HasEntryRoom nodes out o) there room in
    subst (λ (path : List Part). HasRoom nodes out path) (sym same) has

-- where nothing was answered
pub of_error : {T E : Type 0} (P : Type 0) (r : Result T E) → IsErr r → OnOk r P
of_error P (Ok x) failed = let no : false ≡ true = failed in absurd cc
of_error P (Err e) failed = tt

-- there is no entry of which something could hold
pub none_has : (P : Entry → Type 0) (t : ProfiledText) (parts : Syntax) (index : NodeInfos) (s : Document) (n : ℕ)
    → Holds t parts index → IsTextOfTree t s → length index.paths ≤ n + 1 → IfSome (slice_get (entries_of s) n) P
none_has P t parts index s n h read past =
    let is : IsStatedOf s index = report_of t parts index s h read in
    let paths : List (List Part) = node_paths (mentions_in s) in
    let few : length (entries_of s) ≤ n =
    omega (
      arith,
      past,
      ap (λ (ps : List (List Part)). length ps) is.paths,
      length-map (drop 1 paths) (entry_at (mentions_in s)),
      length-drop 1 paths,
    ) in
    subst (λ (o : Option Entry). IfSome o P) (sym (slice_get_past (entries_of s) n few)) tt

-- the path that was added and the kind that was reported are those of the entry
pub entry_added : (t : ProfiledText) (parts : Syntax) (index : NodeInfos) (s : Document) (n : ℕ) (old new : List ℕ)
    (info : NodeInfo) → Holds t parts index → IsTextOfTree t s
    → n + 1 < length index.paths → new ≡ old ++ encoded_path (path_numbered index (n + 1))
    → slice_get index.infos (n + 1) ≡ Some info
    → AddsEntryPath (slice_get (entries_of s) n) (Some info.kind) old new
entry_added t parts index s n old new info h read within text stated =
    let is : IsStatedOf s index = report_of t parts index s h read in
    let paths : List (List Part) = node_paths (mentions_in s) in
    let low : n + 1 < length paths = omega (arith, within, ap (λ (ps : List (List Part)). length ps) is.paths) in
    let p : List Part = get_or paths (n + 1) [] in
    let kind : info.kind ≡ kind_at p (mentions_in s) =
    kind_numbered s (n + 1) info low (ap (λ (is : List NodeInfo). slice_get is (n + 1)) (sym is.infos) ∙ stated) in
    let there : slice_get (entries_of s) n ≡ Some (entry_at (mentions_in s) p) =
    slice_get-map (entry_at (mentions_in s)) (drop 1 paths) n
    ∙ ap (option_map (entry_at (mentions_in s))) (path_of_entry paths n low) in
    let same : path_numbered index (n + 1) ≡ p = ap (λ (ps : List (List Part)). get_or ps (n + 1) []) is.paths in
    subst (λ (e : Option Entry). AddsEntryPath e (Some info.kind) old new) (sym there)
    (ap Some kind, text ∙ ap (λ q. old ++ encoded_path q) same)

-- there is no entry with that number
pub no_entry : (t : ProfiledText) (parts : Syntax) (index : NodeInfos) (s : Document) (n : ℕ) (old : List ℕ)
    → Holds t parts index → IsTextOfTree t s → length index.paths ≤ n + 1
    → AddsEntryPath (slice_get (entries_of s) n) None old old
no_entry t parts index s n old h read past =
    let is : IsStatedOf s index = report_of t parts index s h read in
    let paths : List (List Part) = node_paths (mentions_in s) in
    let few : length (entries_of s) ≤ n =
    omega (
      arith,
      past,
      ap (λ (ps : List (List Part)). length ps) is.paths,
      length-map (drop 1 paths) (entry_at (mentions_in s)),
      length-drop 1 paths,
    ) in
    subst (λ (e : Option Entry). AddsEntryPath e None old old) (sym (slice_get_past (entries_of s) n few)) (refl, refl)
