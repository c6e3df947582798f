-- New tables and elements that a list appends, and keys that it inserts into the last of them: what stays known after
-- one of them.
--
-- A header says nothing but of paths that its keys lead to. That of a table begins no element (`tables_of_table`), and
-- that of an element begins one of its own array alone (`tables_of_element`). So a table that it does not lead to is
-- new still, by the same way (`new_after_table`, `new_after_element`), and an element has the number that it had, or
-- that after the new one of its array (`element_after`, `element_more`). So it is after a key's line, which says
-- nothing that is not at the key's path or below it, but what was said (`new_after_key`, `element_after_key`;
-- AddedKeyval). What is open for keys is so for others after a key of it came at the end of the text
-- (`open_after_key`, by the law of two inserts), where the end is as much later as the line is long (`end_after`).
--
-- Theorems: `new_after_table`, `element_after`, `newline_after_table`; `new_after_element`, `element_more`,
-- `newline_after_element`; `new_after_key`, `element_after_key`, `newline_after_key`; `open_after_key`; `end_after`.
use Rattle.std.proofs.Common.{◌≡◌, ◌≢◌, ℕ, suc, ◌+◌, ◌-◌, Bool, true, false, cond, List, [], ◌∷◌, ◌++◌, length}
use Rattle.std.proofs.Common.{map, take, drop, refl, sym, ap, ap₂, subst, ◌∙◌, arith, All, IsUtf8, Option, Some, None}
use Rattle.std.proofs.Common.{length-append, inl, inr}
use Rattle.std.specs.Prelude.{◌==◌}
use Rattle.std.proofs.lemmas.Bool.{le-ltb}
use Rattle.std.proofs.lemmas.List.{append-nil, length-map, length-take-le, map-append}
use Rattle.std.proofs.lemmas.List.Elements.{All-head, All-tail, filter_map-append}
use Rattle.std.proofs.lemmas.List.Sums.{sum_by-append}
use Rattle.keep_types.specs.declared.leaf.Profile.{Profile}
use Rattle.keep_syntax.specs.Tree.{Content, Document, Value, element, header, text}
use Rattle.keep_path.specs.Path.{Part, index, key, last_part, same_path, strip}
use Rattle.keep_meaning.specs.Fact.{Fact, is_bracket}
use Rattle.keep_meaning.specs.Marks as marks_of
use Rattle.keep_meaning.specs.Marks.{Mention, begun, define, elements_of, entered_path, header_path, header_prefixes}
use Rattle.keep_meaning.specs.Marks.{passed, passing_mentions, past, statement_mentions, through}
use Rattle.keep_meaning.specs.Meaning.{keys_of, mentions_in}
use Rattle.keep_meaning.specs.Nodes.{is_node}
use Rattle.keep_edit_spec.specs.AddedLines.{AddsLine, first_new}
use Rattle.keep_edit_spec.specs.AppendedHeaders.{AppendsTable, AreSameOrApart}
use Rattle.keep_edit_spec.specs.Changed.{Place, put}
use Rattle.keep_edit_spec.specs.Edits.{Edit, append_element, append_table, edited_document, insert, key_with, place}
use Rattle.keep_edit_spec.specs.FilledTables.{AppendsNewElement, AppendsNewTable, IsFitting, IsOpen, key_in, key_line}
use Rattle.keep_edit_spec.specs.Laws.{IsEditable}
use Rattle.keep_edit_spec.specs.Lines.{newline_of}
use Rattle.keep_edit_spec.specs.Look.{is_bracket_at, keys_in}
use Rattle.keep_edit_spec.specs.Refusals.{element_path, end_reading, tables_in}
use Rattle.keep_edit_spec.specs.Runs.{AreApart, PassesBy}
use Rattle.keep_edit_spec.specs.TextChanges.{TextChange, change_at, moved, moved_by}
use Rattle.keep_edit_spec.proofs.Common.Cuts.{last_part-snoc}
use Rattle.keep_edit_spec.proofs.Common.NewLines.{key_means}
use Rattle.keep_edit_spec.proofs.Common.Runs.{same_path-sound, strip-append}
use Rattle.keep_edit_spec.proofs.EditLaws.{change_put}
use Rattle.keep_edit_spec.proofs.Insert.NewPath.{keys_of_map}
use Rattle.keep_edit_spec.proofs.Lists.AddedKeyval.{AddsKeyval, any_stays, elements_stay, fact_stays, keyval_of}
use Rattle.keep_edit_spec.proofs.Lists.AddedKeyval.{node_stays}
use Rattle.keep_edit_spec.proofs.Lists.HeaderAfterInsert.{element_after_insert, table_after_insert}
use Rattle.keep_edit_spec.proofs.Lists.HeaderComes.{HeaderComes, after_header, element_comes, table_comes}
use Rattle.keep_edit_spec.proofs.Lists.HeaderLines.{headed, newline_again}
use Rattle.keep_edit_spec.proofs.Lists.HeaderOpens.{path_is}
use Rattle.keep_edit_spec.proofs.Lists.HeaderSaid.{LetsCome, any_lets, passes_clear}
use Rattle.keep_edit_spec.proofs.Lists.HeaderSays.{bracket_same, kinds_same}
use Rattle.keep_edit_spec.proofs.Lists.NewHolder.{apart_differs}
use Rattle.keep_edit_spec.proofs.Lists.OtherHeader.{element_after_table, table_after_element}
use Rattle.keep_edit_spec.proofs.Lists.PutsKeyval.{line_puts}
use Rattle.keep_edit_spec.proofs.Lists.SaidOfPrefixes.{node_kinds, node_of}
use Rattle.keep_edit_spec.proofs.Lists.StillAdds.{still_adds}
use Rattle.keep_edit_spec.proofs.Lists.StillAppends.{still_appends_element, still_appends_table}
use Rattle.keep_edit_spec.proofs.Rename.KeyTexts.{key_texts}

-- ---- keys of paths of keys

-- keys that do not lead to a table pass by it
passes_table : (keys more : List (List ℕ)) → strip (map key more) (map key keys) ≡ None → PassesBy keys (map key more)
passes_table keys more clear =
    ap (λ (ks : List (List ℕ)). strip (map key ks) (map key keys)) (keys_of_map more) ∙ clear

with_rest : (more ks rest : List (List ℕ)) → more ≡ ks ++ rest → more ≡ keys_in (map key ks) ++ rest
with_rest more ks rest is = is ∙ ap (λ (l : List (List ℕ)). l ++ rest) (sym (keys_of_map ks))

-- ---- what headers say of elements

passing_quiet : (tables : List (List Part)) (p : List Part) (b : Bool)
    → tables_in (cond b (record { path = p; kind = through } ∷ [])
    (record { path = p; kind = past } ∷ record { path = entered_path tables p; kind = passed } ∷ [])) ≡ []
passing_quiet tables p true = refl
passing_quiet tables p false = refl

-- on its way a header begins no element
prefixes_quiet : (tables : List (List Part)) (at : List Part) (keys : List (List ℕ))
    → tables_in (header_prefixes tables at keys) ≡ []
prefixes_quiet tables at [] = refl
prefixes_quiet tables at (k ∷ []) = refl
prefixes_quiet tables at (k ∷ l ∷ ks) =
    let p : List Part = at ++ key k ∷ [] in
    filter_map-append element_path (passing_mentions tables p)
    (header_prefixes tables (entered_path tables p) (l ∷ ks))
    ∙ ap₂ (λ (a b : List (List Part)). a ++ b) (passing_quiet tables p (0 == elements_of p tables))
    (prefixes_quiet tables (entered_path tables p) (l ∷ ks))

-- nor does that of a table at its end
table_quiet : (tables : List (List Part)) (keys : List (List ℕ))
    → tables_in (statement_mentions (record { tables = tables; body = [] }) (marks_of.header keys)) ≡ []
table_quiet tables keys =
    filter_map-append element_path (header_prefixes tables [] keys)
    (record { path = header_path tables [] keys; kind = define } ∷ [])
    ∙ ap (λ (a : List (List Part)). a ++ []) (prefixes_quiet tables [] keys)

-- and that of an element begins its own
element_counts : (tables : List (List Part)) (keys : List (List ℕ))
    → tables_in (statement_mentions (record { tables = tables; body = [] }) (marks_of.element_header keys))
    ≡ header_path tables [] keys ∷ []
element_counts tables keys =
    let path : List Part = header_path tables [] keys in
    let begins : Mention = record { path = path ++ index (elements_of path tables) ∷ []; kind = begun } in
    filter_map-append element_path (header_prefixes tables [] keys)
    (record { path = path; kind = marks_of.element } ∷ begins ∷ [])
    ∙ ap (λ (a : List (List Part)). a ++ path ∷ []) (prefixes_quiet tables [] keys)

-- one path more among those of elements
one_counted : (tables : List (List Part)) (t q : List Part) (b : Bool) → same_path t q ≡ b
    → elements_of q (tables ++ t ∷ []) ≡ cond b 1 0 + elements_of q tables
one_counted tables t q b is =
    let one : cond {A = ℕ} (same_path t q) 1 0 ≡ cond b 1 0 = ap (λ (x : Bool). cond {A = ℕ} x 1 0) is in
    omega (arith, one, sum_by-append (λ (u : List Part). cond (same_path u q) 1 0) tables (t ∷ []))

-- ---- after a header, by what it says

-- a header of a table or of an element came, which states these elements
module _ (s : Document) (keys : List (List ℕ)) (c : TextChange) (content : Content)
    (h : HeaderComes s keys c content) (begun_there : List (List Part))
    (counts : tables_in (mentions_in s ++ h.own) ≡ tables_in (mentions_in s) ++ begun_there) where
  abbrev ms : List Mention
  ms = mentions_in s

  abbrev now : Document
  now = (headed s content).to

  node_after : (more : List (List ℕ)) → strip (map key more) (map key keys) ≡ None
      → is_node (map key more) (mentions_in now) ≡ is_node (map key more) ms
  node_after more clear =
      ap (is_node (map key more)) h.says
      ∙ node_kinds (map key more) (ms ++ h.own)
      ∙ ap (node_of (map key more)) (kinds_same keys (map key more) ms h.own (passes_table keys more clear) h.of_header)
      ∙ sym (node_kinds (map key more) ms)

  bracket_after : (q : List Part) → is_bracket_at (mentions_in now) q ≡ is_bracket_at ms q
  bracket_after q =
      ap (λ (l : List Mention). is_bracket_at l q) h.says ∙ bracket_same keys q ms h.own h.of_header

  counts_after : (q : List Part) → elements_of q (tables_in (mentions_in now))
      ≡ elements_of q (tables_in ms ++ begun_there)
  counts_after q = ap (λ (l : List Mention). elements_of q (tables_in l)) h.says ∙ ap (elements_of q) counts

-- ---- after the header of a table

tables_of_table : (profile : Profile) (limit : ℕ) (s : Document) (keys : List (List ℕ)) (c : TextChange)
    (fine : IsEditable profile limit s) (h : AppendsTable profile limit s keys c)
    → tables_in (mentions_in s ++ (table_comes profile limit s keys c fine h).own) ≡ tables_in (mentions_in s) ++ []
tables_of_table profile limit s keys c fine h =
    let come : HeaderComes s keys c (header [] (key_with keys) []) = table_comes profile limit s keys c fine h in
    filter_map-append element_path (mentions_in s) come.own
    ∙ ap (λ (t : List (List Part)). tables_in (mentions_in s) ++ t)
    (ap tables_in (sym (come.stated (end_reading (mentions_in s)) refl))
    ∙ table_quiet (tables_in (mentions_in s)) (keys_of (key_with keys)))

module _ (profile : Profile) (limit : ℕ) (s : Document) (keys : List (List ℕ)) (c : TextChange)
    (fine : IsEditable profile limit s) (h : AppendsTable profile limit s keys c) where
  abbrev one : Content
  one = header [] (key_with keys) []

  abbrev come : HeaderComes s keys c one
  come = table_comes profile limit s keys c fine h

  abbrev same_counts : tables_in (mentions_in s ++ come.own) ≡ tables_in (mentions_in s) ++ []
  same_counts = tables_of_table profile limit s keys c fine h

  counted_as : (q : List Part) → elements_of q (tables_in (mentions_in (headed s one).to))
      ≡ elements_of q (tables_in (mentions_in s))
  counted_as q =
      counts_after s keys c one come [] same_counts q
      ∙ ap (elements_of q) (append-nil (tables_in (mentions_in s)))

  pub new_after_table : (more : List (List ℕ)) (d : TextChange) → AppendsNewTable profile limit s more d
      → strip (map key more) (map key keys) ≡ None
      → AppendsNewTable profile limit (edited_document s (append_table keys)) more (moved c d)
  new_after_table more d its clear = record {
    appends = still_appends_table profile limit s keys c more d fine h its.appends
        (λ same. apart_differs (map key more) (map key keys) clear (ap (map key) (sym same)));
    new = after_header (λ (t : Document). is_node (map key more) (mentions_in t) ≡ false) s one keys c come
        (node_after s keys c one come [] same_counts more clear ∙ its.new);
    no_elements = λ k ks rest is.
        after_header (λ (t : Document). elements_of (map key (k ∷ ks)) (tables_in (mentions_in t)) ≡ 0) s one keys c
        come (counted_as (map key (k ∷ ks)) ∙ its.no_elements k ks rest is);
    no_brackets = λ ks rest is.
        after_header (λ (t : Document). is_bracket_at (mentions_in t) (map key ks) ≡ false) s one keys c come
        (bracket_after s keys c one come [] same_counts (map key ks) ∙ its.no_brackets ks rest is);
  }

  pub element_after : (more : List (List ℕ)) (number : ℕ) (d : TextChange)
      → AppendsNewElement profile limit s more number d → AreApart (map key keys) (map key more)
      → AppendsNewElement profile limit (edited_document s (append_table keys)) more number (moved c d)
  element_after more number d its apart = record {
    appends = element_after_table profile limit s keys c more d fine h its.appends apart;
    counted = after_header (λ (t : Document). elements_of (map key more) (tables_in (mentions_in t)) ≡ number) s one
        keys c come (counted_as (map key more) ∙ its.counted);
    no_elements = λ k ks l rest is.
        after_header (λ (t : Document). elements_of (map key (k ∷ ks)) (tables_in (mentions_in t)) ≡ 0) s one keys c
        come (counted_as (map key (k ∷ ks)) ∙ its.no_elements k ks l rest is);
    no_brackets = λ ks rest is.
        after_header (λ (t : Document). is_bracket_at (mentions_in t) (map key ks) ≡ false) s one keys c come
        (bracket_after s keys c one come [] same_counts (map key ks) ∙ its.no_brackets ks rest is);
  }

  pub newline_after_table : newline_of (edited_document s (append_table keys)) ≡ newline_of s
  newline_after_table = newline_again profile s fine.valid h.closed one

-- ---- after the header of an element

tables_of_element : (profile : Profile) (limit : ℕ) (s : Document) (keys : List (List ℕ)) (number : ℕ) (c : TextChange)
    (fine : IsEditable profile limit s) (h : AppendsNewElement profile limit s keys number c)
    → tables_in (mentions_in s ++ (element_comes profile limit s keys c fine h.appends).own)
    ≡ tables_in (mentions_in s) ++ map key keys ∷ []
tables_of_element profile limit s [] number c fine h = let no = h.appends.allowed in absurd cc
tables_of_element profile limit s (k ∷ ks) number c fine h =
    let keys : List (List ℕ) = k ∷ ks in
    let come : HeaderComes s keys c (element [] (key_with keys) []) =
    element_comes profile limit s keys c fine h.appends in
    let means : keys_of (key_with keys) ≡ keys = key_means profile k ks (key_texts profile keys h.appends.utf8) in
    filter_map-append element_path (mentions_in s) come.own
    ∙ ap (λ (t : List (List Part)). tables_in (mentions_in s) ++ t)
    (ap tables_in (sym (come.stated (end_reading (mentions_in s)) refl))
    ∙ element_counts (tables_in (mentions_in s)) (keys_of (key_with keys))
    ∙ ap (λ (l : List (List ℕ)). header_path (tables_in (mentions_in s)) [] l ∷ []) means
    ∙ ap (λ (p : List Part). p ∷ []) (path_is (tables_in (mentions_in s)) keys h.no_elements))

-- a path of keys is not that of the first of these, if those keys are not the first
not_first : (keys more ks rest : List (List ℕ)) → strip (map key keys) (map key more) ≡ None → more ≡ ks ++ rest
    → (b : Bool) → same_path (map key keys) (map key ks) ≡ b → b ≡ false
not_first keys more ks rest clear is false e = refl
not_first keys more ks rest clear is true e =
    let same : map key keys ≡ map key ks = same_path-sound (map key keys) (map key ks) e in
    let some : strip (map key keys) (map key more) ≡ Some (map key rest) =
    ap (strip (map key keys)) (ap (map key) is ∙ map-append key ks rest ∙ ap (λ (p : List Part). p ++ map key rest)
    (sym same)) ∙ strip-append (map key keys) (map key rest) in
    let no : None ≡ Some (map key rest) = sym clear ∙ some in
    absurd cc

-- nor is it that of fewer
not_fewer : (keys ks : List (List ℕ)) (l : List ℕ) (rest : List (List ℕ)) → keys ≡ ks ++ l ∷ rest
    → (b : Bool) → same_path (map key keys) (map key ks) ≡ b → b ≡ false
not_fewer keys ks l rest is false e = refl
not_fewer keys ks l rest is true e =
    let same : map key keys ≡ map key ks = same_path-sound (map key keys) (map key ks) e in
    let long : length keys ≡ length ks + suc (length rest) =
    ap (λ (x : List (List ℕ)). length x) is ∙ length-append ks (l ∷ rest) in
    let few : length keys ≡ length ks =
    sym (length-map keys key) ∙ ap (λ (p : List Part). length p) same ∙ length-map ks key in
    absurd (omega (arith, long, few))

module _ (profile : Profile) (limit : ℕ) (s : Document) (keys : List (List ℕ)) (number : ℕ) (c : TextChange)
    (fine : IsEditable profile limit s) (h : AppendsNewElement profile limit s keys number c) where
  abbrev head : Content
  head = element [] (key_with keys) []

  abbrev enters : HeaderComes s keys c head
  enters = element_comes profile limit s keys c fine h.appends

  abbrev with_own : tables_in (mentions_in s ++ enters.own) ≡ tables_in (mentions_in s) ++ map key keys ∷ []
  with_own = tables_of_element profile limit s keys number c fine h

  counts_with : (q : List Part) (b : Bool) → same_path (map key keys) q ≡ b
      → elements_of q (tables_in (mentions_in (headed s head).to))
      ≡ cond b 1 0 + elements_of q (tables_in (mentions_in s))
  counts_with q b is =
      counts_after s keys c head enters (map key keys ∷ []) with_own q
      ∙ one_counted (tables_in (mentions_in s)) (map key keys) q b is

  counts_as : (q : List Part) → same_path (map key keys) q ≡ false
      → elements_of q (tables_in (mentions_in (headed s head).to)) ≡ elements_of q (tables_in (mentions_in s))
  counts_as q other = counts_with q false other ∙ omega arith

  pub new_after_element : (more : List (List ℕ)) (d : TextChange) → AppendsNewTable profile limit s more d
      → AreApart (map key keys) (map key more)
      → AppendsNewTable profile limit (edited_document s (append_element keys)) more (moved c d)
  new_after_element more d its apart = record {
    appends = table_after_element profile limit s keys c more d fine h.appends its.appends apart;
    new = after_header (λ (t : Document). is_node (map key more) (mentions_in t) ≡ false) s head keys c enters
        (node_after s keys c head enters (map key keys ∷ []) with_own more apart.1 ∙ its.new);
    no_elements = λ k ks rest is.
        after_header (λ (t : Document). elements_of (map key (k ∷ ks)) (tables_in (mentions_in t)) ≡ 0) s head keys c
        enters
        (counts_as (map key (k ∷ ks)) (not_first keys more (k ∷ ks) rest apart.0 is _ refl)
        ∙ its.no_elements k ks rest is);
    no_brackets = λ ks rest is.
        after_header (λ (t : Document). is_bracket_at (mentions_in t) (map key ks) ≡ false) s head keys c enters
        (bracket_after s keys c head enters (map key keys ∷ []) with_own (map key ks)
        ∙ its.no_brackets ks rest is);
  }

  not_on_way : (more : List (List ℕ)) → AreSameOrApart keys more → (ks : List (List ℕ)) (l : List ℕ)
      (rest : List (List ℕ)) → more ≡ ks ++ l ∷ rest → same_path (map key keys) (map key ks) ≡ false
  not_on_way more (inl same) ks l rest is = not_fewer keys ks l rest (same ∙ is) _ refl
  not_on_way more (inr apart) ks l rest is = not_first keys more ks (l ∷ rest) apart.0 is _ refl

  pub element_more : (more : List (List ℕ)) (count : ℕ) (d : TextChange)
      → AppendsNewElement profile limit s more count d → AreSameOrApart keys more
      → AppendsNewElement profile limit (edited_document s (append_element keys)) more
      (cond (same_path (map key keys) (map key more)) 1 0 + count) (moved c d)
  element_more more count d its apart = record {
    appends = still_appends_element profile limit s keys c more d fine h.appends its.appends apart;
    counted = after_header (λ (t : Document). elements_of (map key more) (tables_in (mentions_in t))
        ≡ cond (same_path (map key keys) (map key more)) 1 0 + count) s head keys c enters
        (counts_with (map key more) (same_path (map key keys) (map key more)) refl
        ∙ ap (λ (n : ℕ). cond (same_path (map key keys) (map key more)) 1 0 + n) its.counted);
    no_elements = λ k ks l rest is.
        after_header (λ (t : Document). elements_of (map key (k ∷ ks)) (tables_in (mentions_in t)) ≡ 0) s head keys c
        enters
        (counts_as (map key (k ∷ ks)) (not_on_way more apart (k ∷ ks) l rest is) ∙ its.no_elements k ks l rest is);
    no_brackets = λ ks rest is.
        after_header (λ (t : Document). is_bracket_at (mentions_in t) (map key ks) ≡ false) s head keys c enters
        (bracket_after s keys c head enters (map key keys ∷ []) with_own (map key ks)
        ∙ its.no_brackets ks rest is);
  }

  pub newline_after_element : newline_of (edited_document s (append_element keys)) ≡ newline_of s
  newline_after_element = newline_again profile s fine.valid h.appends.closed head

-- ---- after a key

pub newline_after_key : (profile : Profile) (limit : ℕ) (s : Document) (path : List Part) (value : Value)
    (c : TextChange)
    → IsEditable profile limit s → AddsLine profile limit s path value c
    → newline_of (edited_document s (insert path value)) ≡ newline_of s
newline_after_key profile limit s path value c fine h = (line_puts profile limit s path value c fine h).newline

module _ (profile : Profile) (limit : ℕ) (s : Document) (path : List Part) (value : Value) (c : TextChange)
    (fine : IsEditable profile limit s) (h : AddsLine profile limit s path value c)
    (first : first_new s path ≡ path) (more : List (List ℕ)) (clear : PassesBy more path) where
  abbrev then : Document
  then = edited_document s (insert path value)

  keyval : AddsKeyval profile limit s path value c
  keyval = keyval_of profile limit s path value c false fine h

  passes : PassesBy more (first_new s path)
  passes = subst (PassesBy more) (sym first) clear

  beyond : (q : List Part) (rest : List (List ℕ)) → more ≡ keys_in q ++ rest → strip (first_new s path) q ≡ None
  beyond q rest is = passes_clear more (first_new s path) q rest passes is

  lets : LetsCome (mentions_in s) (mentions_in then) more
  lets =
      any_lets (mentions_in s) (mentions_in then) more
      (λ test q rest is. any_stays profile limit s path value c keyval test q (beyond q rest is))
      (λ q rest is. elements_stay profile limit s path value c keyval q (beyond q rest is))

  counted_past : (ks rest : List (List ℕ)) → more ≡ ks ++ rest
      → elements_of (map key ks) (tables_in (mentions_in then)) ≡ elements_of (map key ks) (tables_in (mentions_in s))
  counted_past ks rest is = lets.counts (map key ks) rest (with_rest more ks rest is)

  bracket_past : (ks rest : List (List ℕ)) → more ≡ ks ++ rest
      → is_bracket_at (mentions_in then) (map key ks) ≡ is_bracket_at (mentions_in s) (map key ks)
  bracket_past ks rest is =
      ap (λ (o : Option Fact). elim o [ None ↦ false | Some f ↦ is_bracket f ])
      (fact_stays profile limit s path value c keyval (map key ks)
      (beyond (map key ks) rest (with_rest more ks rest is)))

  pub new_after_key : (d : TextChange) → AppendsNewTable profile limit s more d
      → AppendsNewTable profile limit then more (moved c d)
  new_after_key d its = record {
    appends = table_after_insert profile limit s path value c false more d fine h its.appends passes
        (newline_after_key profile limit s path value c fine h);
    new = node_stays profile limit s path value c keyval (map key more)
        (beyond (map key more) [] (with_rest more more [] (sym (append-nil more)))) ∙ its.new;
    no_elements = λ k ks rest is. counted_past (k ∷ ks) rest is ∙ its.no_elements k ks rest is;
    no_brackets = λ ks rest is. bracket_past ks rest is ∙ its.no_brackets ks rest is;
  }

  pub element_after_key : (number : ℕ) (d : TextChange) → AppendsNewElement profile limit s more number d
      → AppendsNewElement profile limit then more number (moved c d)
  element_after_key number d its = record {
    appends = element_after_insert profile limit s path value c false more d fine h its.appends passes
        (newline_after_key profile limit s path value c fine h);
    counted = counted_past more [] (sym (append-nil more)) ∙ its.counted;
    no_elements = λ k ks l rest is. counted_past (k ∷ ks) (l ∷ rest) is ∙ its.no_elements k ks l rest is;
    no_brackets = λ ks rest is. bracket_past ks rest is ∙ its.no_brackets ks rest is;
  }

-- ---- the end of the text

drop_whole : {X : Type 0} (xs : List X) → drop (length xs) xs ≡ []
drop_whole [] = refl
drop_whole (x ∷ xs) = drop_whole xs

longer_by : (bytes new : List ℕ) (p : Place) → p ≡ record { start = length bytes; end = length bytes; new = new }
    → length (put bytes p) ≡ length bytes + length new
longer_by bytes new p is =
    ap (λ (q : Place). length (put bytes q)) is
    ∙ length-append (take (length bytes) bytes) (new ++ drop (length bytes) bytes)
    ∙ omega (
      arith,
      length-take-le (length bytes) bytes (omega arith),
      length-append new (drop (length bytes) bytes),
      ap (λ (l : List ℕ). length l) (drop_whole bytes),
    )

pub end_after : (s : Document) (e : Edit) (new : List ℕ)
    → place s e ≡ record { start = length (text s); end = length (text s); new = new }
    → length (text (edited_document s e)) ≡ moved_by (change_at (length (text s)) 0 new) (length (text s))
end_after s e new is =
    let at : ℕ = length (text s) in
    ap (λ (t : List ℕ). length t) (change_put s e) ∙ longer_by (text s) new (place s e) is
    ∙ (let same : at + length new ≡ (at + length new) - 0 = omega arith in same)
    ∙ sym (ap (λ (b : Bool). cond b at ((at + length new) - 0)) (le-ltb at at (omega arith)))

-- ---- what is open stays open

other_name : (at : List Part) (name other : List ℕ) → key_in at name ≡ key_in at other → name ≡ other
other_name at name other same =
    let last : Some (key name) ≡ Some (key other) =
    sym (last_part-snoc at (key name)) ∙ ap last_part same ∙ last_part-snoc at (key other) in
    cc

pub open_after_key : (profile : Profile) (limit : ℕ) (newline : List ℕ) (s : Document) (at : List Part)
    (names : List (List ℕ)) (name : List ℕ) (value : Value)
    → IsEditable profile limit s → IsOpen profile limit newline s at names
    → IsUtf8 name → IsFitting profile limit value → All (λ n. n ≢ name) names
    → IsOpen profile limit newline (edited_document s (insert (key_in at name) value)) at (name ∷ names)
open_after_key profile limit newline s at names name value fine opened utf8 fits fresh other more utf8' fits' fresh' =
    let path : List Part = key_in at name in
    let end : ℕ = length (text s) in
    let line : List ℕ = key_line newline name value in
    let (h, first) = opened name value utf8 fits fresh in
    let (k, first') = opened other more utf8' fits' (All-tail (λ n. n ≢ other) name names fresh') in
    let differs : first_new s path ≢ first_new s (key_in at other) =
    λ same. All-head (λ n. n ≢ other) name names fresh' (other_name at name other (sym first ∙ same ∙ first')) in
    let (adds, first_now) =
    still_adds profile limit s path value (change_at end 0 line) (key_in at other) more
    (change_at end 0 (key_line newline other more)) fine h k differs in (
      subst (λ (n : ℕ). AddsLine profile limit (edited_document s (insert path value)) (key_in at other) more
          (change_at n 0 (key_line newline other more)))
          (sym (end_after s (insert path value) line h.is)) adds,
      first_now ∙ first',
    )
