-- A document says at most as many things as it has leaves, so it has at most one node more than bytes.
--
-- Each node but the root comes from a mention (`node_paths_few`), so it is enough to count mentions against tokens. A
-- key of n parts has n - 1 dots besides, which pays for the mentions of its prefixes; a header mentions at most two
-- things for each key but the last, and has two tokens for each, and its brackets besides (`way_few`, `header_many`).
-- Entries are by induction (`entries_few`), and so are lines (`lines_few`). The token `End` has no bytes, and pays for
-- the root.
--
-- Theorems: `nodes_few`: at most one node more than bytes; `nodes_reach`: a document that has so many.
use Rattle.std.proofs.Common.{◌≡◌, ℕ, suc, ◌+◌, ◌≤◌, Bool, true, false, if◌then◌else◌, List, [], ◌∷◌, ◌++◌, length, map}
use Rattle.std.proofs.Common.{refl, ap, ◌∙◌, arith, Option, Some, None}
use Rattle.std.specs.Prelude.{◌==◌, fold}
use Rattle.std.specs.List.{flat_map, list_any}
use Rattle.std.proofs.lemmas.List.{length-append, length-map}
use Rattle.keep_types.specs.declared.leaf.Profile.{Profile}
use Rattle.keep_types.specs.declared.leaf.Profile.TheVariants.{Strict}
use Rattle.keep_types.specs.declared.leaf.Leaf.TheVariants as leaf
use Rattle.keep_syntax.specs.Tree.{Written, Gap, Further, Key, Name, Body, scalar, array, inline, Entries, none, entry}
use Rattle.keep_syntax.specs.Tree.{Value, Content, blank, keyval, header, element, Line, Ended, Document, token}
use Rattle.keep_syntax.specs.Tree.{further_leaves, key_leaves, name_leaves, named_leaves, opening, closing}
use Rattle.keep_syntax.specs.Tree.{comma_leaves, entries_leaves, value_leaves, content_leaves, comment_leaves}
use Rattle.keep_syntax.specs.Tree.{line_leaves, ended_leaves, bom_leaves, leaves, text, depth}
use Rattle.keep_syntax.specs.Grammar.{IsDocument}
use Rattle.keep_syntax.proofs.Shared.{leaves_count}
use Rattle.keep_path.specs.Path.{Part, key, index, same_path}
use Rattle.keep_meaning.specs.Fact.{Fact}
use Rattle.keep_meaning.specs.Marks.{through, past, passed, define, element as kinds_element, begun}
use Rattle.keep_meaning.specs.Marks.{value as mentions_value, item, Mention, below, Reading, statement_mentions}
use Rattle.keep_meaning.specs.Marks.{elements_of, entered_path, passing_mentions, header_prefixes, header_path, start}
use Rattle.keep_meaning.specs.Meaning.{key_value, further_value, keys_of, body_fact, keyed_mentions, valued_mentions}
use Rattle.keep_meaning.specs.Meaning.{entry_mentions, entries_mentions, statement_of, line_mentions, after_line}
use Rattle.keep_meaning.specs.Meaning.{lines_mentions, line_of, mentions_in}
use Rattle.keep_meaning.specs.Nodes.{paths_with, node_path, node_paths, nodes_in}
use Rattle.keep_meaning.proofs.CountLemmas.{paths-nodes_in}

-- ---- at most as many nodes as things said, and the root

one_more : (b : Bool) (paths : List (List Part)) (path : List Part)
    → length (if b then paths else paths ++ path ∷ []) ≤ length paths + 1
one_more true paths path = omega arith
one_more false paths path = omega (arith, length-append paths (path ∷ []))

met_few : (paths ps : List (List Part)) → length (fold paths_with paths ps) ≤ length paths + length ps
met_few paths [] = omega arith
met_few paths (p ∷ ps) = omega (arith, one_more (list_any (same_path p) paths) paths p, met_few (paths_with paths p) ps)

pub node_paths_few : (ms : List Mention) → length (node_paths ms) ≤ length ms + 1
node_paths_few ms =
    omega (arith, met_few ([] ∷ []) (map (λ (m : Mention). m.path) ms), length-map ms (λ (m : Mention). m.path))

-- ---- keys

length-keyed : (k : List ℕ) (ks : List (List ℕ)) (ms : List Mention)
    → length (keyed_mentions (k ∷ ks) ms) ≡ length ks + length ms
length-keyed k [] ms = length-map ms (below (key k ∷ [])) ∙ omega arith
length-keyed k (l ∷ ks) ms =
    omega (arith, length-map (keyed_mentions (l ∷ ks) ms) (below (key k ∷ [])), length-keyed l ks ms)

-- a further part of a key has two leaves at least, its dot and its own
further_many : (fs : List Further) → length fs + length fs ≤ length (flat_map further_leaves fs)
further_many [] = omega arith
further_many (f ∷ fs) =
    let dot = token leaf.Dot (0x2E ∷ []) in
    omega (
      arith,
      length-append (further_leaves f) (flat_map further_leaves fs),
      length-append f.before (dot ++ (f.after ++ (f.part ∷ []))),
      length-append f.after (f.part ∷ []),
      further_many fs,
    )

-- ---- what entries say

entry_few : (n : ℕ) (name : Option Name) (f : Fact) (nested : List Mention)
    → length (entry_mentions n name f nested) ≤ length (named_leaves name) + suc (length nested)
entry_few n None f nested = omega (arith, length-map (valued_mentions (item f) nested) (below (index n ∷ [])))
entry_few n (Some name) f nested =
    omega (
      arith,
      length-keyed (key_value name.key.first) (map further_value name.key.more)
          (valued_mentions (mentions_value f) nested),
      length-map name.key.more further_value,
      length-append (key_leaves name.key) (name.before ++ (token leaf.Equals (0x3D ∷ []) ++ name.after)),
      further_many name.key.more,
    )

-- a value has a leaf at least, and those of what is inside
value_many : (v : Value) → suc (length (entries_leaves v.nested)) ≤ length (value_leaves v)
value_many v = by v.body
  where
    by : (b : Body)
        → suc (length (entries_leaves v.nested)) ≤ length (opening b ++ (entries_leaves v.nested ++ closing b))
    by (scalar w) = omega (arith, length-append (entries_leaves v.nested) [])
    by (array first) =
        omega (
          arith,
          length-append first (entries_leaves v.nested ++ closing (array first)),
          length-append (entries_leaves v.nested) (closing (array first)),
        )
    by (inline first) =
        omega (
          arith,
          length-append first (entries_leaves v.nested ++ closing (inline first)),
          length-append (entries_leaves v.nested) (closing (inline first)),
        )

-- an entry is its name, its value, and what comes after
entry_many : (name : Option Name) (v : Value) (after : Gap) (comma : Option Gap) (rest : Entries)
    → length (named_leaves name) + suc (length (entries_leaves v.nested)) + length (entries_leaves rest)
    ≤ length (entries_leaves (entry name v.body v.nested after comma rest))
entry_many name v after comma rest =
    let suffix : List Written = after ++ (comma_leaves comma ++ entries_leaves rest) in
    omega (
      arith,
      length-append (named_leaves name) (opening v.body ++ (entries_leaves v.nested ++ (closing v.body ++ suffix))),
      length-append (opening v.body) (entries_leaves v.nested ++ (closing v.body ++ suffix)),
      length-append (entries_leaves v.nested) (closing v.body ++ suffix),
      length-append (closing v.body) suffix,
      length-append after (comma_leaves comma ++ entries_leaves rest),
      length-append (comma_leaves comma) (entries_leaves rest),
      length-append (opening v.body) (entries_leaves v.nested ++ closing v.body),
      length-append (entries_leaves v.nested) (closing v.body),
      value_many v,
    )

entries_few : (n : ℕ) (es : Entries) → length (entries_mentions n es) ≤ length (entries_leaves es)
entries_few n none = omega arith
entries_few n (entry name body nested after comma rest) =
    omega (
      arith,
      length-append (entry_mentions n name (body_fact body) (entries_mentions 0 nested))
          (entries_mentions (n + 1) rest),
      entry_few n name (body_fact body) (entries_mentions 0 nested),
      entries_few 0 nested,
      entries_few (n + 1) rest,
      entry_many name (record { body = body; nested = nested }) after comma rest,
    )

-- ---- what headers say

passing_few : (b : Bool) (p q : Mention) (r : Mention) → length (if b then p ∷ [] else q ∷ r ∷ []) ≤ 2
passing_few true p q r = omega arith
passing_few false p q r = omega arith

-- on its way at most two things for each key but the last
way_few : (tables : List (List Part)) (at : List Part) (k : List ℕ) (ks : List (List ℕ))
    → length (header_prefixes tables at (k ∷ ks)) ≤ length ks + length ks
way_few tables at k [] = omega arith
way_few tables at k (l ∷ ks) =
    let path : List Part = at ++ key k ∷ [] in
    omega (
      arith,
      length-append (passing_mentions tables path) (header_prefixes tables (entered_path tables path) (l ∷ ks)),
      passing_few (0 == elements_of path tables) (record { path = path; kind = through })
          (record { path = path; kind = past }) (record { path = entered_path tables path; kind = passed }),
      way_few tables (entered_path tables path) l ks,
    )

-- a header's leaves: its brackets, its keys, and a dot before each but the first
header_many : (first last : Written) (before : Gap) (k : Key) (after : Gap)
    → length k.more + length k.more + 3 ≤ length (first ∷ (before ++ (key_leaves k ++ (after ++ last ∷ []))))
header_many first last before k after =
    omega (
      arith,
      length-append before (key_leaves k ++ (after ++ last ∷ [])),
      length-append (key_leaves k) (after ++ last ∷ []),
      length-append after (last ∷ []),
      further_many k.more,
    )

-- ---- lines

content_few : (r : Reading) (c : Content)
    → length {A = Mention} (elim (statement_of c) [ None ↦ [] | Some s ↦ statement_mentions r s ])
    ≤ length (content_leaves c)
content_few r blank = omega arith
content_few r (keyval name v) =
    let nested : List Mention = entry_mentions 0 (Some name) (body_fact v.body) (entries_mentions 0 v.nested) in
    omega (
      arith,
      length-map nested (below r.body),
      entry_few 0 (Some name) (body_fact v.body) (entries_mentions 0 v.nested),
      entries_few 0 v.nested,
      value_many v,
      length-append (name_leaves name) (value_leaves v),
    )
content_few r (header before k after) =
    omega (
      arith,
      length-append (header_prefixes r.tables [] (keys_of k))
          (record { path = header_path r.tables [] (keys_of k); kind = define } ∷ []),
      way_few r.tables [] (key_value k.first) (map further_value k.more),
      length-map k.more further_value,
      header_many (record { leaf = leaf.HeadOpen; text = 0x5B ∷ [] })
          (record { leaf = leaf.HeadClose; text = 0x5D ∷ [] }) before k after,
    )
content_few r (element before k after) =
    let path : List Part = header_path r.tables [] (keys_of k) in
    omega (
      arith,
      length-append (header_prefixes r.tables [] (keys_of k))
          (record { path = path; kind = kinds_element }
          ∷ record { path = path ++ index (elements_of path r.tables) ∷ []; kind = begun } ∷ []),
      way_few r.tables [] (key_value k.first) (map further_value k.more),
      length-map k.more further_value,
      header_many (record { leaf = leaf.ElemOpen; text = 0x5B ∷ 0x5B ∷ [] })
          (record { leaf = leaf.ElemClose; text = 0x5D ∷ 0x5D ∷ [] }) before k after,
    )

line_few : (r : Reading) (l : Line) → length (line_mentions r l) ≤ length (line_leaves l)
line_few r l =
    omega (
      arith,
      content_few r l.content,
      length-append l.before (content_leaves l.content ++ (l.after ++ comment_leaves l.comment)),
      length-append (content_leaves l.content) (l.after ++ comment_leaves l.comment),
    )

lines_few : (r : Reading) (es : List Ended) (last : Line)
    → length (lines_mentions r (map line_of es ++ last ∷ [])) ≤ length (flat_map ended_leaves es)
    + length (line_leaves last)
lines_few r [] last = omega (arith, length-append (line_mentions r last) [], line_few r last)
lines_few r (e ∷ es) last =
    omega (
      arith,
      length-append (line_mentions r e.line) (lines_mentions (after_line r e.line) (map line_of es ++ last ∷ [])),
      line_few r e.line,
      lines_few (after_line r e.line) es last,
      length-append (ended_leaves e) (flat_map ended_leaves es),
      length-append (line_leaves e.line) (e.newline ∷ []),
    )

-- A document says fewer things than it has leaves: End says nothing.
pub mentions_few : (d : Document) → length (mentions_in d) + 1 ≤ length (leaves d)
mentions_few d =
    let end : List Written = token leaf.End [] in
    omega (
      arith,
      lines_few start d.ended d.last,
      length-append (bom_leaves d.bom) (flat_map ended_leaves d.ended ++ (line_leaves d.last ++ end)),
      length-append (flat_map ended_leaves d.ended) (line_leaves d.last ++ end),
      length-append (line_leaves d.last) end,
    )

-- ---- documents

-- a document has at most one node more than bytes
pub nodes_few : (profile : Profile) (d : Document) → IsDocument profile d → length (nodes_in d) ≤ length (text d) + 1
nodes_few profile d h =
    omega (
      arith,
      length-map (nodes_in d) node_path,
      ap length (paths-nodes_in d),
      node_paths_few (mentions_in d),
      mentions_few d,
      leaves_count profile (depth d) (text d) d (record { valid = h; spelled = refl; shallow = omega arith }),
    )

-- the document with no bytes: it has one node, the root
abbrev nothing : Document
nothing = record { bom = false; ended = []; last = record { before = []; content = blank; after = []; comment = None } }

pub nodes_reach : (d : Document) × IsDocument Strict d × (length (text d) ≡ 0) × (length (nodes_in d) ≡ 1)
nodes_reach = (
  nothing,
  record { ended = tt; last = record { before = tt; content = tt; after = refl; comment = tt } },
  refl,
  refl,
)
