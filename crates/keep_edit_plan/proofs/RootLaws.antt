-- No mention of a document is at the root.
--
-- Theorem: `root_unsaid`.
use Rattle.std.proofs.Common.{◌≡◌, ℕ, ◌-◌, ◌==◌, Bool, true, false, cond, List, [], ◌∷◌, ◌++◌, map, refl, sym, subst}
use Rattle.std.proofs.Common.{None, Some}
use Rattle.keep_syntax.specs.Tree.{Content, blank, keyval, header, element, Line, Document}
use Rattle.keep_path.specs.Path.{Part, key, index}
use Rattle.keep_meaning.specs.Marks as marks
use Rattle.keep_meaning.specs.Marks.{Mention, Reading, start, below, elements_of, entered_path, passing_mentions}
use Rattle.keep_meaning.specs.Marks.{header_path, header_prefixes}
use Rattle.keep_meaning.specs.Meaning.{key_value, further_value, keys_of, keyed_mentions, statement_of, line_mentions}
use Rattle.keep_meaning.specs.Meaning.{after_line, lines_mentions, lines}
use Rattle.keep_meaning.specs.Counts.{Numbered, numbered_in}
use Rattle.keep_meaning.specs.Nodes.{mention_of, numbered_at}
use Rattle.keep_meaning.proofs.Shared.{mentions-numbered_in}
use Rattle.keep_edit_spec.proofs.Shared.{AllOf, all_join}

abbrev Named : Mention → Type 0
Named m = m.path ≡ [] → ⊥

some_path : (at : List Part) (p : Part) → at ++ p ∷ [] ≡ [] → ⊥
some_path [] p e = cc
some_path (x ∷ at) p e = cc

named_below : (p : Part) (ps : List Part) (ms : List Mention) → AllOf Named (map (below (p ∷ ps)) ms)
named_below p ps [] = tt
named_below p ps (m ∷ ms) = ((λ e. absurd cc), named_below p ps ms)

-- ---- headers

entered_named : (tables : List (List Part)) (q : List Part) → (q ≡ [] → ⊥) → entered_path tables q ≡ [] → ⊥
entered_named tables q some = by (0 == elements_of q tables)
  where
    by : (b : Bool) → cond b q (q ++ index (elements_of q tables - 1) ∷ []) ≡ [] → ⊥
    by true e = some e
    by false e = some_path q (index (elements_of q tables - 1)) e

pass_named : (tables : List (List Part)) (q : List Part) → (q ≡ [] → ⊥) → AllOf Named (passing_mentions tables q)
pass_named tables q some = by (0 == elements_of q tables)
  where
    by : (b : Bool)
        → AllOf Named (cond b (record { path = q; kind = marks.through } ∷ [])
        (record { path = q; kind = marks.past } ∷ record { path = entered_path tables q; kind = marks.passed } ∷ []))
    by true = (some, tt)
    by false = (some, (entered_named tables q some, tt))

way_named : (tables : List (List Part)) (at : List Part) (ks : List (List ℕ))
    → AllOf Named (header_prefixes tables at ks)
way_named tables at [] = tt
way_named tables at (k ∷ []) = tt
way_named tables at (k ∷ l ∷ ks) =
    let q : List Part = at ++ key k ∷ [] in
    all_join Named (passing_mentions tables q) (header_prefixes tables (entered_path tables q) (l ∷ ks))
    (pass_named tables q (some_path at (key k))) (way_named tables (entered_path tables q) (l ∷ ks))

path_named : (tables : List (List Part)) (at : List Part) (k : List ℕ) (ks : List (List ℕ))
    → header_path tables at (k ∷ ks) ≡ [] → ⊥
path_named tables at k [] e = some_path at (key k) e
path_named tables at k (l ∷ ks) e = path_named tables (entered_path tables (at ++ key k ∷ [])) l ks e

-- ---- keyvals

keyed_named : (k : List ℕ) (ks : List (List ℕ)) (ms : List Mention) → AllOf Named (keyed_mentions (k ∷ ks) ms)
keyed_named k [] ms = named_below (key k) [] ms
keyed_named k (l ∷ ks) ms =
    named_below (key k) [] (record { path = []; kind = marks.dotted } ∷ keyed_mentions (l ∷ ks) ms)

body_named : (body : List Part) (ms : List Mention) → AllOf Named ms → AllOf Named (map (below body) ms)
body_named body [] h = tt
body_named body (m ∷ ms) h = ((λ e. h.0 (rest body e)), body_named body ms h.1)
  where
    rest : (b : List Part) → b ++ m.path ≡ [] → m.path ≡ []
    rest [] e = e
    rest (x ∷ b) e = absurd cc

-- ---- all lines

content_named : (r : Reading) (c : Content)
    → AllOf Named (elim (statement_of c) [ None ↦ [] | Some s ↦ marks.statement_mentions r s ])
content_named r blank = tt
content_named r (keyval name v) =
    body_named r.body _ (keyed_named (key_value name.key.first) (map further_value name.key.more) _)
content_named r (header b k a) =
    all_join Named (header_prefixes r.tables [] (keys_of k))
    (record { path = header_path r.tables [] (keys_of k); kind = marks.define } ∷ [])
    (way_named r.tables [] (keys_of k))
    (path_named r.tables [] (key_value k.first) (map further_value k.more), tt)
content_named r (element b k a) =
    let path : List Part = header_path r.tables [] (keys_of k) in
    all_join Named (header_prefixes r.tables [] (keys_of k))
    (record { path = path; kind = marks.element }
    ∷ record { path = path ++ index (elements_of path r.tables) ∷ []; kind = marks.begun } ∷ [])
    (way_named r.tables [] (keys_of k))
    (path_named r.tables [] (key_value k.first) (map further_value k.more), (some_path path _, tt))

lines_named : (r : Reading) (ls : List Line) → AllOf Named (lines_mentions r ls)
lines_named r [] = tt
lines_named r (l ∷ ls) =
    all_join Named (line_mentions r l) (lines_mentions (after_line r l) ls) (content_named r l.content)
    (lines_named (after_line r l) ls)

none_at : (ns : List Numbered) → AllOf Named (map mention_of ns) → numbered_at [] ns ≡ []
none_at [] h = refl
none_at (n ∷ ns) h = by n.mention.path refl (none_at ns h.1)
  where
    by : (p : List Part) → n.mention.path ≡ p → numbered_at [] ns ≡ [] → numbered_at [] (n ∷ ns) ≡ []
    by [] e more = absurd (h.0 e)
    by (x ∷ p) e more = rw e more

pub root_unsaid : (s : Document) → numbered_at [] (numbered_in s) ≡ []
root_unsaid s =
    none_at (numbered_in s) (subst (AllOf Named) (sym (mentions-numbered_in s)) (lines_named start (lines s)))
