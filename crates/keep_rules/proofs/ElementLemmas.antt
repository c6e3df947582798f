-- What the facts about a node say of the `[[..]]` lines: its kind is that of an array of tables exactly if some name
-- it.
--
-- A mention names an array of tables where a `[[..]]` line has its path, and a keyval has no such mention
-- (`entries_plain`). So line by line, some line so far has a path exactly if some mention so far names it
-- (`statement_named`). The kind of a node is given by the mentions at its path alone.
--
-- Theorems: `tables_some` and `tables_none`, of a node; `tables_dotted`, of one that dotted keys make; `tables_unmet`,
-- of a path without a node; `info_stated`: the facts about a node are what is said at its path.
use Rattle.std.proofs.Common.{◌≡◌, ℕ, ◌+◌, ◌<◌, Bool, true, false, cond, ◌||◌, ◌&&◌, List, [], ◌∷◌, ◌++◌, length}
use Rattle.std.proofs.Common.{suc, get_or, map, refl, sym, ap, subst, ◌∙◌, arith, Option, Some, None}
use Rattle.std.specs.Prelude.{◌==◌, Contains, nat_lt, filter, fold, if◌then◌else◌, slice_get}
use Rattle.std.specs.List.{list_any, filter_map, cons_option}
use Rattle.std.specs.Option.{option_map}
use Rattle.std.proofs.lemmas.List.Elements.{Contains-append_left, Contains-push}
use Rattle.std.proofs.lemmas.List.Folds.{list_any-append}
use Rattle.std.proofs.lemmas.List.Sums.{sum_by-append, sum_by-cons}
use Rattle.std.proofs.lemmas.Bool.Decides.{nat_tests}
use Rattle.std.proofs.lemmas.Option.{slice_get-map, slice_get-get_or}
use Rattle.std.proofs.Math.Bool.{or-false, or_assoc}
use Rattle.keep_types.specs.declared.leaf.Leaf.{Leaf}
use Rattle.keep_types.specs.declared.leaf.Leaf.TheVariants as leaf
use Rattle.keep_types.specs.declared.node.Kind.{Kind}
use Rattle.keep_types.specs.declared.node.Kind.TheVariants as kind
use Rattle.keep_types.specs.declared.node.NodeInfo.{NodeInfo}
use Rattle.keep_types.specs.declared.node.Origin.TheVariants as origin
use Rattle.keep_syntax.specs.Tree.{Name, Entries, none, entry, Content, Line, Document}
use Rattle.keep_syntax.specs.Tree as tree
use Rattle.keep_path.specs.NodeInfos.{NodeInfos}
use Rattle.keep_path.specs.Path.{Part, key, index, same_path}
use Rattle.keep_meaning.specs.Fact as fact
use Rattle.keep_meaning.specs.Fact.{Fact}
use Rattle.keep_meaning.specs.Counts.{Count, Numbered, is_value, line_statement, numbered_in, statements_in}
use Rattle.keep_meaning.specs.Marks.{Mention, MentionKind, Reading, Statement, through, past, passed, define, element}
use Rattle.keep_meaning.specs.Marks.{begun, dotted, value, item, below, keyval, header, element_header, elements_of}
use Rattle.keep_meaning.specs.Marks.{entered_path, fact_of, passing_mentions, header_path, header_prefixes}
use Rattle.keep_meaning.specs.Marks.{statement_mentions, next_reading, mentions_from, reading_after, start}
use Rattle.keep_meaning.specs.Meaning.{body_fact, entries_mentions, entry_mentions, keyed_mentions, keys_of, lines}
use Rattle.keep_meaning.specs.Meaning.{mentions_in, statement_of, valued_mentions}
use Rattle.keep_meaning.specs.Nodes.{fact_kind, first_of, is_at, is_element, kind_at, kind_or_table, kinds_at}
use Rattle.keep_meaning.specs.Nodes.{mention_kind_of, mention_of, mentioned_kind, moment_kind, node_at, node_info}
use Rattle.keep_meaning.specs.Nodes.{node_paths, nodes_in, numbered_at, paths_with}
use Rattle.keep_meaning.specs.Nodes.{first_that_fits, is_begun, is_define, is_dotted, is_through, last_number}
use Rattle.keep_meaning.specs.Nodes.{mentioned_origin, statement_number, value_number}
use Rattle.keep_meaning.specs.LinesMore.{node_infos}
use Rattle.keep_meaning.specs.StatementsMore.{reading_at_end}
use Rattle.keep_meaning.proofs.Shared.{mentions-numbered_in, mentions_in-statements, paths-nodes_in}
use Rattle.keep_path.proofs.Shared.{path_decides}
use Rattle.keep_rules.specs.ReadDocuments.{IsIndexOf}

-- ---- keyvals

abbrev any_element : List Mention → Bool
any_element ms = list_any (λ (m : Mention). is_element m.kind) ms

neither : (a b : Bool) → a ≡ false → b ≡ false → (a || b) ≡ false
neither true b e f = cc
neither false b e f = f

below_plain : (at : List Part) (ms : List Mention) → any_element (map (below at) ms) ≡ any_element ms
below_plain at [] = refl
below_plain at (m ∷ ms) = ap (λ b. is_element m.kind || b) (below_plain at ms)

keyed_plain : (ks : List (List ℕ)) (ms : List Mention) → any_element ms ≡ false
    → any_element (keyed_mentions ks ms) ≡ false
keyed_plain [] ms h = h
keyed_plain (k ∷ []) ms h = below_plain (key k ∷ []) ms ∙ h
keyed_plain (k ∷ l ∷ ks) ms h =
    below_plain (key k ∷ []) (record { path = []; kind = dotted } ∷ keyed_mentions (l ∷ ks) ms)
    ∙ keyed_plain (l ∷ ks) ms h

entry_plain : (n : ℕ) (name : Option Name) (f : Fact) (nested : List Mention) → any_element nested ≡ false
    → any_element (entry_mentions n name f nested) ≡ false
entry_plain n None f nested h = below_plain (index n ∷ []) (valued_mentions (item f) nested) ∙ h
entry_plain n (Some name) f nested h = keyed_plain (keys_of name.key) (valued_mentions (value f) nested) h

entries_plain : (n : ℕ) (es : Entries) → any_element (entries_mentions n es) ≡ false
entries_plain n none = refl
entries_plain n (entry name body nested after comma rest) =
    list_any-append (λ (m : Mention). is_element m.kind)
    (entry_mentions n name (body_fact body) (entries_mentions 0 nested)) (entries_mentions (n + 1) rest)
    ∙ neither _ _ (entry_plain n name (body_fact body) (entries_mentions 0 nested) (entries_plain 0 nested))
    (entries_plain (n + 1) rest)

abbrev IsPlain : Statement → Type 0
IsPlain (keyval nested) = any_element nested ≡ false
IsPlain (header keys) = Unit {0}
IsPlain (element_header keys) = Unit {0}

abbrev ArePlain : List Statement → Type 0
ArePlain [] = Unit {0}
ArePlain (s ∷ ss) = IsPlain s × ArePlain ss

content_plain : (c : Content) (ss : List Statement) → ArePlain ss → ArePlain (cons_option (statement_of c) ss)
content_plain tree.blank ss h = h
content_plain (tree.keyval name v) ss h =
    (entry_plain 0 (Some name) (body_fact v.body) (entries_mentions 0 v.nested) (entries_plain 0 v.nested), h)
content_plain (tree.header b k a) ss h = (tt, h)
content_plain (tree.element b k a) ss h = (tt, h)

lines_plain : (ls : List Line) → ArePlain (filter_map line_statement ls)
lines_plain [] = tt
lines_plain (l ∷ ls) = content_plain l.content (filter_map line_statement ls) (lines_plain ls)

-- ---- statement by statement

-- the mention names the path as that of an array of tables
abbrev names : List Part → Mention → Bool
names t m = same_path m.path t && is_element m.kind

abbrev has_elements : List Part → List (List Part) → Bool
has_elements t tables = nat_lt 0 (elements_of t tables)

and_false : (b : Bool) → (b && false) ≡ false
and_false true = refl
and_false false = refl

and_true : (b : Bool) → (b && true) ≡ b
and_true true = refl
and_true false = refl

or_left : (a b : Bool) → (a || b) ≡ false → a ≡ false
or_left true b h = cc
or_left false b h = refl

or_right : (a b : Bool) → (a || b) ≡ false → b ≡ false
or_right true b h = cc
or_right false b h = h

plain_unnamed : (t : List Part) (ms : List Mention) → any_element ms ≡ false → list_any (names t) ms ≡ false
plain_unnamed t [] h = refl
plain_unnamed t (m ∷ ms) h =
    neither (names t m) (list_any (names t) ms)
    (ap (λ b. same_path m.path t && b) (or_left (is_element m.kind) (any_element ms) h)
    ∙ and_false (same_path m.path t))
    (plain_unnamed t ms (or_right (is_element m.kind) (any_element ms) h))

passing_plain : (tables : List (List Part)) (p : List Part) → any_element (passing_mentions tables p) ≡ false
passing_plain tables p =
    elim (0 == elements_of p tables) as
    (λ b. any_element (cond b (record { path = p; kind = through } ∷ [])
    (record { path = p; kind = past } ∷ record { path = entered_path tables p; kind = passed } ∷ [])) ≡ false) [
      | true ↦ refl
      | false ↦ refl
    ]

prefixes_plain : (tables : List (List Part)) (at : List Part) (ks : List (List ℕ))
    → any_element (header_prefixes tables at ks) ≡ false
prefixes_plain tables at [] = refl
prefixes_plain tables at (k ∷ []) = refl
prefixes_plain tables at (k ∷ l ∷ ks) =
    let p : List Part = at ++ key k ∷ [] in
    list_any-append (λ (m : Mention). is_element m.kind) (passing_mentions tables p)
    (header_prefixes tables (entered_path tables p) (l ∷ ks))
    ∙ neither _ _ (passing_plain tables p) (prefixes_plain tables (entered_path tables p) (l ∷ ks))

-- the last mentions of a header
header_named : (t : List Part) (tables : List (List Part)) (ks : List (List ℕ)) (last : List Mention)
    → list_any (names t) (header_prefixes tables [] ks ++ last) ≡ list_any (names t) last
header_named t tables ks last =
    list_any-append (names t) (header_prefixes tables [] ks) last
    ∙ ap (λ b. b || list_any (names t) last)
    (plain_unnamed t (header_prefixes tables [] ks) (prefixes_plain tables [] ks))

one_more : (t p : List Part) (tables : List (List Part))
    → elements_of t (tables ++ p ∷ []) ≡ elements_of t tables + cond (same_path p t) 1 0
one_more t p tables =
    let is : List Part → ℕ = λ q. cond (same_path q t) 1 0 in
    omega (arith, sum_by-append is tables (p ∷ []), sum_by-cons is p [])

more_than_none : (n m : ℕ) (b : Bool) → n ≡ m + cond b 1 0 → nat_lt 0 n ≡ (nat_lt 0 m || b)
more_than_none n m true e = let some : nat_lt 0 n ≡ true = grind (arith, nat_tests) in some ∙ sym (by (nat_lt 0 m))
  where
    by : (b : Bool) → (b || true) ≡ true
    by true = refl
    by false = refl
more_than_none n m false e =
    let same : n ≡ m = omega (arith, e) in ap (λ (k : ℕ). nat_lt 0 k) same ∙ sym (or-false (nat_lt 0 m))

statement_named : (t : List Part) (r : Reading) (s : Statement) → IsPlain s
    → has_elements t (next_reading r s).tables
    ≡ (has_elements t r.tables || list_any (names t) (statement_mentions r s))
statement_named t r (keyval nested) h =
    sym (ap (λ b. has_elements t r.tables || b)
    (plain_unnamed t (map (below r.body) nested) (below_plain r.body nested ∙ h)) ∙ or-false (has_elements t r.tables))
statement_named t r (header keys) h =
    let p : List Part = header_path r.tables [] keys in
    sym (ap (λ b. has_elements t r.tables || b)
    (header_named t r.tables keys (record { path = p; kind = define } ∷ [])
    ∙ ap (λ b. b || false) (and_false (same_path p t))) ∙ or-false (has_elements t r.tables))
statement_named t r (element_header keys) h =
    let p : List Part = header_path r.tables [] keys in
    let q : List Part = p ++ index (elements_of p r.tables) ∷ [] in
    more_than_none (elements_of t (r.tables ++ p ∷ [])) (elements_of t r.tables) (same_path p t) (one_more t p r.tables)
    ∙ sym (ap (λ b. has_elements t r.tables || b)
    (header_named t r.tables keys (record { path = p; kind = element } ∷ record { path = q; kind = begun } ∷ [])
    ∙ ap (λ b. names t (record { path = p; kind = element }) || (b || false)) (and_false (same_path q t))
    ∙ or-false (same_path p t && true) ∙ and_true (same_path p t)))

statements_named : (t : List Part) (r : Reading) (ss : List Statement) → ArePlain ss
    → has_elements t (reading_after r ss).tables ≡ (has_elements t r.tables || list_any (names t) (mentions_from r ss))
statements_named t r [] h = sym (or-false (has_elements t r.tables))
statements_named t r (s ∷ ss) h =
    let xs : List Mention = statement_mentions r s in
    let ys : List Mention = mentions_from (next_reading r s) ss in
    statements_named t (next_reading r s) ss h.1
    ∙ ap (λ b. b || list_any (names t) ys) (statement_named t r s h.0)
    ∙ or_assoc (has_elements t r.tables) (list_any (names t) xs) (list_any (names t) ys)
    ∙ ap (λ b. has_elements t r.tables || b) (sym (list_any-append (names t) xs ys))

named_kinds : (t : List Part) (ms : List Mention) → list_any (names t) ms ≡ list_any is_element (kinds_at t ms)
named_kinds t [] = refl
named_kinds t (m ∷ ms) = by (same_path m.path t) (named_kinds t ms)
  where
    by : (b : Bool) → list_any (names t) ms ≡ list_any is_element (kinds_at t ms)
        → ((b && is_element m.kind) || list_any (names t) ms)
        ≡ list_any is_element (map (λ (m : Mention). m.kind) (cond b (m ∷ filter (is_at t) ms) (filter (is_at t) ms)))
    by true more = ap (λ b. is_element m.kind || b) more
    by false more = more

document_named : (d : Document) (t : List Part)
    → has_elements t (reading_at_end d).tables ≡ list_any is_element (kinds_at t (mentions_in d))
document_named d t =
    statements_named t start (statements_in d) (lines_plain (lines d))
    ∙ ap (list_any (names t)) (sym (mentions_in-statements d)) ∙ named_kinds t (mentions_in d)

-- ---- the kind of a node

pub kinds_numbered : (path : List Part) (ns : List Numbered)
    → map mention_kind_of (numbered_at path ns) ≡ kinds_at path (map mention_of ns)
kinds_numbered path [] = refl
kinds_numbered path (n ∷ ns) = by (is_at path n.mention) (kinds_numbered path ns)
  where
    by : (b : Bool) → map mention_kind_of (numbered_at path ns) ≡ kinds_at path (map mention_of ns)
        → map mention_kind_of (cond b (n ∷ numbered_at path ns) (numbered_at path ns))
        ≡ map (λ (m : Mention). m.kind)
        (cond b (n.mention ∷ filter (is_at path) (map mention_of ns)) (filter (is_at path) (map mention_of ns)))
    by true more = ap (λ l. n.mention.kind ∷ l) more
    by false more = more

no_moment : (l : Leaf) → moment_kind l ≡ kind.Tables → ⊥
no_moment leaf.OffsetDateTime e = cc
no_moment leaf.LocalDateTime e = cc
no_moment leaf.LocalDate e = cc
no_moment _ e = cc

no_fact : (f : Fact) → fact_kind f ≡ kind.Tables → ⊥
no_fact (fact.string v) e = cc
no_fact (fact.integer v) e = cc
no_fact (fact.boolean v) e = cc
no_fact (fact.float v) e = cc
no_fact (fact.moment l v) e = no_moment l e
no_fact fact.array e = cc
no_fact fact.inline e = cc
no_fact fact.table e = cc

no_tables : (o : Option Fact) → kind_or_table o ≡ kind.Tables → ⊥
no_tables None e = cc
no_tables (Some f) e = no_fact f e

kind_answers : (b : Bool) (facts : List Fact) (k : Kind) → k ≡ cond b kind.Tables (kind_or_table (first_of facts))
    → (k ≡ kind.Tables → b ≡ true) × ((k ≡ kind.Tables → ⊥) → b ≡ false)
kind_answers true facts k e = (λ is. refl, λ not. absurd (not e))
kind_answers false facts k e = (λ is. absurd (no_tables (first_of facts) (sym e ∙ is)), λ not. refl)

-- ---- where a node comes from

last_none : (is : MentionKind → Bool) (number : Count → ℕ) (ns : List Numbered) (known : Option ℕ)
    → fold (λ known n. if is n.mention.kind then Some (number n.before) else known) known ns ≡ None
    → (known ≡ None) × (list_any is (map mention_kind_of ns) ≡ false)
last_none is number [] known h = (h, refl)
last_none is number (n ∷ ns) known h =
    by (is n.mention.kind) (last_none is number ns (cond (is n.mention.kind) (Some (number n.before)) known) h)
  where
    by : (b : Bool) → (cond b (Some (number n.before)) known ≡ None) × (list_any is (map mention_kind_of ns) ≡ false)
        → (known ≡ None) × ((b || list_any is (map mention_kind_of ns)) ≡ false)
    by true more = absurd (let e = more.0 in cc)
    by false more = more

-- no `[[..]]` names what dotted keys make
dotted_is_plain : (ns : List Numbered) (v : ℕ) → mentioned_origin ns ≡ origin.Dotted v
    → list_any is_element (map mention_kind_of ns) ≡ false
dotted_is_plain ns v e =
    (last_none is_element statement_number ns None (by (last_number is_value value_number ns)
    (last_number is_element statement_number ns) e)).1
  where
    by : (o p : Option ℕ)
        → first_that_fits (option_map origin.Value o
        ∷ option_map (λ i. origin.Tables) p
        ∷ option_map origin.Element (last_number is_begun statement_number ns)
        ∷ option_map origin.Header (last_number is_define statement_number ns)
        ∷ option_map origin.Dotted (last_number is_dotted value_number ns)
        ∷ option_map origin.Through (last_number is_through statement_number ns)
        ∷ []) ≡ origin.Dotted v
        → p ≡ None
    by (Some n) p e = absurd cc
    by None None e = refl
    by None (Some n) e = absurd cc

module _ (d : Document) (t : NodeInfos) (of : t ≡ node_infos d) (i : ℕ) (path : List Part) (info : NodeInfo)
    (within : i < length t.paths) (here : get_or t.paths i [] ≡ path) (there : slice_get t.infos i ≡ Some info) where
  pub info_stated : info ≡ node_info (node_at (numbered_in d) path)
  info_stated =
      let paths : List (List Part) = node_paths (map mention_of (numbered_in d)) in
      let same : t.paths ≡ paths =
      ap (λ (x : NodeInfos). x.paths) of ∙ paths-nodes_in d ∙ ap node_paths (sym (mentions-numbered_in d)) in
      let low : i < length paths = subst (λ (ps : List (List Part)). i < length ps) same within in
      let at : slice_get paths i ≡ Some path =
      slice_get-get_or paths i [] low ∙ ap Some (ap (λ (ps : List (List Part)). get_or ps i []) (sym same) ∙ here) in
      let found : Some info ≡ Some (node_info (node_at (numbered_in d) path)) =
      sym there ∙ ap (λ (x : NodeInfos). slice_get x.infos i) of ∙ slice_get-map node_info (nodes_in d) i
      ∙ ap (option_map node_info) (slice_get-map (node_at (numbered_in d)) paths i
      ∙ ap (option_map (node_at (numbered_in d))) at) in
      cc

  kind_stated : info.kind ≡ kind_at path (mentions_in d)
  kind_stated =
      ap (λ (x : NodeInfo). x.kind) info_stated
      ∙ ap mentioned_kind (kinds_numbered path (numbered_in d) ∙ ap (kinds_at path) (mentions-numbered_in d))

  pub tables_some : info.kind ≡ kind.Tables → 0 < elements_of path (reading_at_end d).tables
  tables_some is =
      let b = (kind_answers (list_any is_element (kinds_at path (mentions_in d)))
      (filter_map fact_of (kinds_at path (mentions_in d))) info.kind kind_stated).0 is in
      let more : nat_lt 0 (elements_of path (reading_at_end d).tables) ≡ true = document_named d path ∙ b in
      grind (arith, nat_tests)

  pub tables_none : (info.kind ≡ kind.Tables → ⊥) → elements_of path (reading_at_end d).tables ≡ 0
  tables_none not =
      let b = (kind_answers (list_any is_element (kinds_at path (mentions_in d)))
      (filter_map fact_of (kinds_at path (mentions_in d))) info.kind kind_stated).1 not in
      let none : nat_lt 0 (elements_of path (reading_at_end d).tables) ≡ false = document_named d path ∙ b in
      grind (arith, nat_tests)

  pub tables_dotted : (v : ℕ) → info.origin ≡ origin.Dotted v → elements_of path (reading_at_end d).tables ≡ 0
  tables_dotted v is =
      let plain = dotted_is_plain (numbered_at path (numbered_in d)) v
      (sym (ap (λ (x : NodeInfo). x.origin) info_stated) ∙ is) in
      let none : nat_lt 0 (elements_of path (reading_at_end d).tables) ≡ false =
      document_named d path
      ∙ ap (list_any is_element) (sym (kinds_numbered path (numbered_in d)
      ∙ ap (kinds_at path) (mentions-numbered_in d)))
      ∙ plain in
      grind (arith, nat_tests)

-- ---- a path without a node

any_contains : (ps : List (List Part)) (p : List Part) → list_any (same_path p) ps ≡ true → Contains ps p
any_contains [] p h = cc
any_contains (r ∷ rs) p h =
    (elim (same_path p r) as (λ b. same_path p r ≡ b → (b || list_any (same_path p) rs) ≡ true → Contains (r ∷ rs) p) [
      | true ↦ λ same h. (0, omega arith, sym ((path_decides p r).0 same))
      | false ↦ λ other h. let rest = any_contains rs p h in (suc rest.0, omega (arith, rest.1), rest.2)
    ]) refl h

with_itself : (ps : List (List Part)) (p : List Part) → Contains (paths_with ps p) p
with_itself ps p =
    (elim (list_any (same_path p) ps) as
    (λ b. list_any (same_path p) ps ≡ b → Contains (cond b ps (ps ++ p ∷ [])) p) [
      | true ↦ λ met. any_contains ps p met
      | false ↦ λ new. Contains-push ps p
    ]) refl

with_others : (ps : List (List Part)) (p q : List Part) → Contains ps q → Contains (paths_with ps p) q
with_others ps p q h =
    elim (list_any (same_path p) ps) as (λ b. Contains (cond b ps (ps ++ p ∷ [])) q) [
      | true ↦ h
      | false ↦ Contains-append_left ps (p ∷ []) q h
    ]

stay_met : (ps qs : List (List Part)) (q : List Part) → Contains ps q → Contains (fold paths_with ps qs) q
stay_met ps [] q h = h
stay_met ps (p ∷ qs) q h = stay_met (paths_with ps p) qs q (with_others ps p q h)

unmet_kinds : (ps : List (List Part)) (ms : List Mention) (q : List Part)
    → (Contains (fold paths_with ps (map (λ (m : Mention). m.path) ms)) q → ⊥) → kinds_at q ms ≡ []
unmet_kinds ps [] q h = refl
unmet_kinds ps (m ∷ ms) q h =
    (elim (is_at q m) as
    (λ b. is_at q m ≡ b → map (λ (m : Mention). m.kind) (cond b (m ∷ filter (is_at q) ms) (filter (is_at q) ms)) ≡ []) [
      | true ↦
          λ at.
          absurd (h (stay_met (paths_with ps m.path) (map (λ (m : Mention). m.path) ms) q
          (subst (Contains (paths_with ps m.path)) ((path_decides m.path q).0 at) (with_itself ps m.path))))
      | false ↦ λ other. unmet_kinds (paths_with ps m.path) ms q h
    ]) refl

pub tables_unmet : (d : Document) (t : NodeInfos) → IsIndexOf d t → (q : List Part) → (Contains t.paths q → ⊥)
    → elements_of q (reading_at_end d).tables ≡ 0
tables_unmet d t of q fresh =
    let same : t.paths ≡ node_paths (mentions_in d) = ap (λ (x : NodeInfos). x.paths) of.facts ∙ paths-nodes_in d in
    let none : nat_lt 0 (elements_of q (reading_at_end d).tables) ≡ false =
    document_named d q
    ∙ ap (list_any is_element) (unmet_kinds ([] ∷ []) (mentions_in d) q (subst (λ (ps : List (List Part)). Contains ps q
    → ⊥) same fresh)) in
    grind (arith, nat_tests)
