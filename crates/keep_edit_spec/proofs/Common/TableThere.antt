-- Where a header defines a table, some line begins its body.
--
-- Theorems: `some_begins`; `defined_ends`: the path of the table ends in a key; `some_of_table`: `remove` makes a
-- change.
use Rattle.std.proofs.Common.{◌≡◌, ℕ, suc, ◌+◌, Bool, true, false, cond, List, [], ◌∷◌, ◌++◌, map, refl, sym, ap, subst}
use Rattle.std.proofs.Common.{◌∙◌, Option, Some, None, inl, inr}
use Rattle.std.specs.Prelude.{drop, ◌==◌}
use Rattle.keep_syntax.specs.Tree.{Written, Gap, Name, Entries, none, entry, Content, blank, keyval, header, element}
use Rattle.keep_syntax.specs.Tree.{Line, Document}
use Rattle.keep_path.specs.Path.{Part, key, index, same_path}
use Rattle.keep_meaning.specs.Fact.{Fact}
use Rattle.keep_meaning.specs.Marks.{through, past, define, dotted, value, passed, item, Mention, Reading, start, below}
use Rattle.keep_meaning.specs.Marks.{header_path, header_prefixes, passing_mentions, entered_path, elements_of}
use Rattle.keep_meaning.specs.Meaning.{keys_of, key_value, further_value, keyed_mentions, valued_mentions}
use Rattle.keep_meaning.specs.Meaning.{entry_mentions, entries_mentions, keyval_mentions, body_fact, line_mentions}
use Rattle.keep_meaning.specs.Meaning.{lines_mentions, after_line, lines, mentions_in}
use Rattle.keep_meaning.specs.Nodes.{is_define}
use Rattle.keep_edit_spec.specs.Lines.{in_document, in_lines, last_line, begins, body_length}
use Rattle.keep_edit_spec.specs.Changed.{Changed, or_else}
use Rattle.keep_edit_spec.specs.Edits.{remove, change, nested, is_own, clear_line, without_lines}
use Rattle.keep_edit_spec.specs.Values.{removal}
use Rattle.keep_edit_spec.proofs.Common.Runs.{AllOf, SomeOf, all_join, same_path-refl}
use Rattle.keep_edit_spec.proofs.Common.LineLaws.{EndsInKey}
use Rattle.keep_edit_spec.proofs.Common.FromMarksLines.{path_ends}
use Rattle.keep_edit_spec.proofs.Common.ValueThere.{IsSome, some_first, some_second, some_cases}
use Rattle.keep_edit_spec.proofs.Common.RemoveThere.{some_here, some_later, dropped}

-- it defines no table
abbrev DefinesNone : Mention → Type 0
DefinesNone m = is_define m.kind ≡ false

-- it defines the table of this path
abbrev pub IsDefined : List Part → Mention → Type 0
IsDefined p m = (m.path ≡ p) × (is_define m.kind ≡ true)

none_below : (s : List Part) (ms : List Mention) → AllOf DefinesNone ms → AllOf DefinesNone (map (below s) ms)
none_below s [] h = tt
none_below s (m ∷ ms) h = (h.0, none_below s ms h.1)

none_keyed : (k : List ℕ) (ks : List (List ℕ)) (ms : List Mention) → AllOf DefinesNone ms
    → AllOf DefinesNone (keyed_mentions (k ∷ ks) ms)
none_keyed k [] ms h = none_below (key k ∷ []) ms h
none_keyed k (l ∷ ks) ms h =
    none_below (key k ∷ []) (record { path = []; kind = dotted } ∷ keyed_mentions (l ∷ ks) ms)
    (refl, none_keyed l ks ms h)

none_named : (n : ℕ) (name : Option Name) (f : Fact) (ms : List Mention) → AllOf DefinesNone ms
    → AllOf DefinesNone (entry_mentions n name f ms)
none_named n None f ms h = none_below (index n ∷ []) (valued_mentions (item f) ms) (refl, h)
none_named n (Some name) f ms h =
    none_keyed (key_value name.key.first) (map further_value name.key.more) (valued_mentions (value f) ms) (refl, h)

none_entries : (n : ℕ) (es : Entries) → AllOf DefinesNone (entries_mentions n es)
none_entries n none = tt
none_entries n (entry name body nested after comma rest) =
    all_join DefinesNone (entry_mentions n name (body_fact body) (entries_mentions 0 nested))
    (entries_mentions (n + 1) rest)
    (none_named n name (body_fact body) (entries_mentions 0 nested) (none_entries 0 nested)) (none_entries (n + 1) rest)

none_pass : (tables : List (List Part)) (q : List Part) (b : Bool)
    → AllOf DefinesNone (cond b (record { path = q; kind = through } ∷ [])
    (record { path = q; kind = past } ∷ record { path = entered_path tables q; kind = passed } ∷ []))
none_pass tables q true = (refl, tt)
none_pass tables q false = (refl, (refl, tt))

none_prefixes : (tables : List (List Part)) (at : List Part) (keys : List (List ℕ))
    → AllOf DefinesNone (header_prefixes tables at keys)
none_prefixes tables at [] = tt
none_prefixes tables at (k ∷ []) = tt
none_prefixes tables at (k ∷ l ∷ ks) =
    let q : List Part = at ++ key k ∷ [] in
    all_join DefinesNone (passing_mentions tables q) (header_prefixes tables (entered_path tables q) (l ∷ ks))
    (none_pass tables q (0 == elements_of q tables)) (none_prefixes tables (entered_path tables q) (l ∷ ks))

never : (p : List Part) (ms : List Mention) → AllOf DefinesNone ms → SomeOf (IsDefined p) ms → ⊥
never p [] h s = s
never p (m ∷ ms) h (inl s) =
    let no : is_define m.kind ≡ false = h.0 in let yes : is_define m.kind ≡ true = s.1 in absurd cc
never p (m ∷ ms) h (inr s) = never p ms h.1 s

-- ---- a line that defines the table begins its body

content_begins : (p : List Part) (r : Reading) (before after : Gap) (comment : Option Written) (c : Content)
    → (let l : Line = record { before = before; content = c; after = after; comment = comment } in
    SomeOf (IsDefined p) (line_mentions r l) → (begins p r l ≡ true) × EndsInKey p)
content_begins p r before after comment blank s = absurd s
content_begins p r before after comment (keyval name v) s =
    absurd (never p (map (below r.body) (keyval_mentions name v))
    (none_below r.body (keyval_mentions name v)
    (none_named 0 (Some name) (body_fact v.body) (entries_mentions 0 v.nested) (none_entries 0 v.nested))) s)
content_begins p r before after comment (header b k a) s =
    let prefixes : List Mention = header_prefixes r.tables [] (keys_of k) in
    let at : List Part = header_path r.tables [] (keys_of k) in
    elim (some_cases (IsDefined p) prefixes (record { path = at; kind = define } ∷ []) s) [
      | inl w ↦ absurd (never p prefixes (none_prefixes r.tables [] (keys_of k)) w)
      | inr h ↦
          (elim h [
            | inl d ↦ (
              ap (same_path at) (sym d.0)
                  ∙ same_path-refl at,
              subst EndsInKey d.0 (path_ends r.tables [] (key_value k.first) (map further_value k.more)),
            )
            | inr end ↦ absurd end
          ])
    ]
content_begins p r before after comment (element b k a) s =
    absurd (never p _ (all_join DefinesNone (header_prefixes r.tables [] (keys_of k)) _
    (none_prefixes r.tables [] (keys_of k)) (refl, (refl, tt))) s)

-- the path of a defined table ends in a key, and some line begins its body
pub some_begins : (p : List Part) (r : Reading) (ls : List Line) → SomeOf (IsDefined p) (lines_mentions r ls)
    → IsSome (last_line (begins p) r ls) × EndsInKey p
some_begins p r [] s = absurd s
some_begins p r (l ∷ ls) s =
    elim (some_cases (IsDefined p) (line_mentions r l) (lines_mentions (after_line r l) ls) s) [
      | inl h ↦
          (let (here, ends) = content_begins p r l.before l.after l.comment l.content h in
          (some_here (begins p) r l ls here, ends))
      | inr h ↦ (let (later, ends) = some_begins p (after_line r l) ls h in (some_later (begins p) r l ls later, ends))
    ]

pub defined_ends : (s : Document) (path : List Part) → SomeOf (IsDefined path) (mentions_in s) → EndsInKey path
defined_ends s path defined = (some_begins path start (lines s) defined).1

-- A header defines the table at the path.
pub some_of_table : (s : Document) (path : List Part) → SomeOf (IsDefined path) (mentions_in s)
    → IsSome (change s (remove path))
some_of_table s path defined =
    let cleared = in_document s (in_lines (clear_line path) start s.ended s.last) in
    let without : Option (Changed Document) =
    elim (last_line (λ r l. is_own path r l.content) start (lines s)) [ None ↦ None | Some i ↦ without_lines s i 1 ] in
    let section : Option (Changed Document) =
    elim (last_line (begins path) start (lines s)) [
      | None ↦ None
      | Some i ↦
          without_lines s i (suc (body_length (drop (suc i) (lines s))))
    ] in
    some_second cleared (or_else without (or_else section (nested removal path s)))
    (some_second without (or_else section (nested removal path s))
    (some_first section (nested removal path s)
    (dropped s (λ i. suc (body_length (drop (suc i) (lines s)))) (last_line (begins path) start (lines s))
    (some_begins path start (lines s) defined).0)))
