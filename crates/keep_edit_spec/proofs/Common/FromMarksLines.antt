-- In a document the rules over marks give those over mentions.
--
-- Besides the rules over marks, `rules_from` asks for two things: marks end in a key and items in an index
-- (`formed_lines`), and two items are never at one path (`items_lines`). Both are inductions over the lines. What a
-- line says has no items at all (`IsPlain`), or is what a keyval says, below the body (`sort_line`). Inside the
-- keyval's value `items_entries` compares the items with one another. All of them are under the keyval's path
-- (`items_up`), and nothing later is at or under that path: it would come with a mention at the path itself
-- (`lines_closed`), where the rules over marks allow none after a value (`clash_value`). So they differ from all later
-- items (`items_across`).
--
-- Theorems: `document_rules`: the rules over marks give those over mentions; `formed_lines`: marks end in a key and
-- items in an index; `path_ends`: a header's path ends in a key.
use Rattle.std.proofs.Common.{◌≡◌, ℕ, Bool, true, false, cond, List, [], ◌∷◌, ◌++◌, map, refl, sym, ap, subst, ◌∙◌}
use Rattle.std.proofs.Common.{Option, Some, inl, inr}
use Rattle.std.specs.Prelude.{◌==◌}
use Rattle.keep_syntax.specs.Tree.{Written, Gap, Name, Value, Content, blank, keyval, header, element, Line, Document}
use Rattle.keep_path.specs.Path.{Part, key}
use Rattle.keep_meaning.specs.Marks.{through, past, passed, Mention, below, Reading, start, elements_of, entered_path}
use Rattle.keep_meaning.specs.Marks.{passing_mentions, header_path, header_prefixes}
use Rattle.keep_meaning.specs.Meaning.{key_value, further_value, keys_of, body_fact, entries_mentions, step}
use Rattle.keep_meaning.specs.Meaning.{keyval_mentions, line_mentions, after_line, lines_mentions, lines, mentions_in}
use Rattle.keep_edit_spec.proofs.Common.Runs.{strip_both, AllOf, SomeOf, Pairs, pairs_split, pairs_join, all_join}
use Rattle.keep_edit_spec.proofs.Common.Runs.{all_map, Across, Rules, IsDisjoint, IsUnder}
use Rattle.keep_edit_spec.proofs.Common.LineLaws.{EndsInKey, lines_closed}
use Rattle.keep_edit_spec.proofs.Common.SetDocument.{ends_keys, longer, from_closed}
use Rattle.keep_edit_spec.proofs.Common.FromMarks.{Formed, is_item, MarkAllowed, ItemsDisjoint, IsValueAt, rules_from}
use Rattle.keep_edit_spec.proofs.Common.FromMarks.{formed_below, formed_entries, formed_named, items_below, items_named}
use Rattle.keep_edit_spec.proofs.Common.FromMarks.{items_under, items_across, items_entries, marks_below, marks_named}
use Rattle.keep_edit_spec.proofs.Common.FromMarks.{value_at, clash_value}

-- what a header says has no items, and is at keys
abbrev NoItem : Mention → Type 0
NoItem m = is_item m.kind ≡ true → ⊥

pub record IsPlain (ms : List Mention) : Type 0 where
  pub formed : AllOf Formed ms
  pub none : AllOf NoItem ms

plain_join : (xs ys : List Mention) → IsPlain xs → IsPlain ys → IsPlain (xs ++ ys)
plain_join xs ys h g =
    record { formed = all_join Formed xs ys h.formed g.formed; none = all_join NoItem xs ys h.none g.none }

plain_passing : (tables : List (List Part)) (at : List Part) (k : List ℕ) (b : Bool)
    → (let q : List Part = at ++ key k ∷ [] in
    IsPlain (cond b (record { path = q; kind = through } ∷ [])
    (record { path = q; kind = past } ∷ record { path = entered_path tables q; kind = passed } ∷ [])))
plain_passing tables at k true = record { formed = ((at, k, refl), tt); none = ((λ e. cc), tt) }
plain_passing tables at k false = record { formed = ((at, k, refl), (tt, tt)); none = ((λ e. cc), ((λ e. cc), tt)) }

plain_prefixes : (tables : List (List Part)) (at : List Part) (k : List ℕ) (ks : List (List ℕ))
    → IsPlain (header_prefixes tables at (k ∷ ks))
plain_prefixes tables at k [] = record { formed = tt; none = tt }
plain_prefixes tables at k (l ∷ ks) =
    plain_join (passing_mentions tables (at ++ key k ∷ []))
    (header_prefixes tables (entered_path tables (at ++ key k ∷ [])) (l ∷ ks))
    (plain_passing tables at k (0 == elements_of (at ++ key k ∷ []) tables))
    (plain_prefixes tables (entered_path tables (at ++ key k ∷ [])) l ks)

pub path_ends : (tables : List (List Part)) (at : List Part) (k : List ℕ) (ks : List (List ℕ))
    → EndsInKey (header_path tables at (k ∷ ks))
path_ends tables at k [] = (at, k, refl)
path_ends tables at k (l ∷ ks) = path_ends tables (entered_path tables (at ++ key k ∷ [])) l ks

-- a line whose mentions are a keyval's, or plain
pub data LineSort (r : Reading) (l : Line) : Type 0 where
  plain : IsPlain (line_mentions r l) → LineSort r l
  of_keyval : (name : Name) (v : Value) → line_mentions r l ≡ map (below r.body) (keyval_mentions name v)
      → after_line r l ≡ r → LineSort r l

sort_content : (r : Reading) (before after' : Gap) (comment : Option Written) (c : Content)
    → LineSort r (record { before = before; content = c; after = after'; comment = comment })
sort_content r before after' comment blank = plain (record { formed = tt; none = tt })
sort_content r before after' comment (keyval name v) = of_keyval name v refl refl
sort_content r before after' comment (header b k a) =
    plain (plain_join (header_prefixes r.tables [] (keys_of k)) _
    (plain_prefixes r.tables [] (key_value k.first) (map further_value k.more))
    (record {
      formed = (path_ends r.tables [] (key_value k.first) (map further_value k.more), tt);
      none = ((λ e. cc), tt);
    }))
sort_content r before after' comment (element b k a) =
    plain (plain_join (header_prefixes r.tables [] (keys_of k)) _
    (plain_prefixes r.tables [] (key_value k.first) (map further_value k.more))
    (record {
      formed = (path_ends r.tables [] (key_value k.first) (map further_value k.more), (tt, tt));
      none = ((λ e. cc), ((λ e. cc), tt));
    }))

sort_line : (r : Reading) (l : Line) → LineSort r l
sort_line r l = sort_content r l.before l.after l.comment l.content

formed_keyval : (body : List Part) (name : Name) (v : Value) → AllOf Formed (map (below body) (keyval_mentions name v))
formed_keyval body name v =
    formed_below body (keyval_mentions name v)
    (formed_named 0 (Some name) (body_fact v.body) (entries_mentions 0 v.nested) (formed_entries 0 v.nested))

formed_line : (r : Reading) (l : Line) → LineSort r l → AllOf Formed (line_mentions r l)
formed_line r l (plain h) = h.formed
formed_line r l (of_keyval name v e e') = subst (AllOf Formed) (sym e) (formed_keyval r.body name v)

pub formed_lines : (r : Reading) (ls : List Line) → AllOf Formed (lines_mentions r ls)
formed_lines r [] = tt
formed_lines r (l ∷ ls) =
    all_join Formed (line_mentions r l) (lines_mentions (after_line r l) ls) (formed_line r l (sort_line r l))
    (formed_lines (after_line r l) ls)

-- no items among themselves
plain_items : (ms : List Mention) → AllOf NoItem ms → Pairs ItemsDisjoint ms
plain_items [] h = tt
plain_items (m ∷ ms) h = (all_map NoItem (ItemsDisjoint m) (λ x n a b e. n b) ms h.1, plain_items ms h.1)

plain_across : (xs ys : List Mention) → AllOf NoItem xs → Across ItemsDisjoint xs ys
plain_across [] ys h = tt
plain_across (x ∷ xs) ys h = (all ys, plain_across xs ys h.1)
  where
    all : (zs : List Mention) → AllOf (ItemsDisjoint x) zs
    all [] = tt
    all (z ∷ zs) = ((λ a b e. h.0 a), all zs)

value_below : (s p : List Part) (ms : List Mention) → SomeOf (IsValueAt p) ms
    → SomeOf (IsValueAt (s ++ p)) (map (below s) ms)
value_below s p [] h = absurd h
value_below s p (m ∷ ms) (inl h) = inl (record { path = ap (λ q. s ++ q) h.path; fact = h.fact; kind = h.kind })
value_below s p (m ∷ ms) (inr h) = inr (value_below s p ms h)

items_up : (s p : List Part) (ms : List Mention) → AllOf (λ x. is_item x.kind ≡ true → IsUnder p x) ms
    → AllOf (λ x. is_item x.kind ≡ true → IsUnder (s ++ p) x) (map (below s) ms)
items_up s p [] h = tt
items_up s p (m ∷ ms) h = ((λ i. ((h.0 i).0, strip_both s p m.path ∙ (h.0 i).1)), items_up s p ms h.1)

items_line : (r : Reading) (l : Line) (ls : List Line) → LineSort r l
    → Pairs MarkAllowed (line_mentions r l ++ lines_mentions (after_line r l) ls)
    → Pairs ItemsDisjoint (lines_mentions (after_line r l) ls)
    → Pairs ItemsDisjoint (line_mentions r l ++ lines_mentions (after_line r l) ls)
items_line r l ls (plain h) rules rest =
    pairs_join ItemsDisjoint (line_mentions r l) (lines_mentions (after_line r l) ls) (record {
      left = plain_items (line_mentions r l) h.none;
      right = rest;
      across = plain_across (line_mentions r l) (lines_mentions (after_line r l) ls) h.none;
    })
items_line r l ls (of_keyval name v e e') rules rest =
    let mid : List Mention = map (below r.body) (keyval_mentions name v) in
    let right : List Mention = lines_mentions r ls in
    let p : List Part = r.body ++ step 0 (Some name) in
    let k : List ℕ = key_value name.key.first in
    let ks : List (List ℕ) = map further_value name.key.more in
    let ends : EndsInKey p = ends_keys r.body k ks in
    let shape : line_mentions r l ++ lines_mentions (after_line r l) ls ≡ mid ++ right =
    ap (λ x. x ++ lines_mentions (after_line r l) ls) e ∙ ap (λ (x : Reading). mid ++ lines_mentions x ls) e' in
    let all : Pairs MarkAllowed (mid ++ right) = subst (Pairs MarkAllowed) shape rules in
    let parts = pairs_split MarkAllowed mid right all in
    let disjoint : AllOf (IsDisjoint p) right =
    from_closed p r.body right (lines_closed p r ls ends) (λ u. longer r.body (key k) (map key ks) u)
    (λ s. clash_value p mid right ends
    (value_below r.body (step 0 (Some name)) (keyval_mentions name v)
    (value_at (keys_of name.key) (body_fact v.body) (entries_mentions 0 v.nested))) (formed_lines r ls) all s) in
    subst (Pairs ItemsDisjoint) (sym shape)
    (pairs_join ItemsDisjoint mid right (record {
      left = items_below r.body (keyval_mentions name v)
          (items_named 0 (Some name) (body_fact v.body) (entries_mentions 0 v.nested) (formed_entries 0 v.nested)
          (items_entries 0 v.nested (marks_named 0 (Some name) (body_fact v.body) (entries_mentions 0 v.nested)
          (marks_below r.body (keyval_mentions name v) parts.left))));
      right = subst (λ (x : Reading). Pairs ItemsDisjoint (lines_mentions x ls)) e' rest;
      across =
          items_across p mid right (items_up r.body (step 0 (Some name)) (keyval_mentions name v)
          (items_under 0 (Some name) (body_fact v.body) (entries_mentions 0 v.nested))) disjoint;
    }))

items_lines : (r : Reading) (ls : List Line) → Pairs MarkAllowed (lines_mentions r ls)
    → Pairs ItemsDisjoint (lines_mentions r ls)
items_lines r [] rules = tt
items_lines r (l ∷ ls) rules =
    items_line r l ls (sort_line r l) rules
    (items_lines (after_line r l) ls
    (pairs_split MarkAllowed (line_mentions r l) (lines_mentions (after_line r l) ls) rules).right)

-- In a document the rules over marks are those over mentions.
pub document_rules : (s : Document) → Pairs MarkAllowed (mentions_in s) → Rules (mentions_in s)
document_rules s rules =
    rules_from (mentions_in s) (formed_lines start (lines s)) rules (items_lines start (lines s) rules)
