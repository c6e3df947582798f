-- A header appended where the rules allow its marks: the rules, the tree and the grammar of the new document.
--
-- Three things are shown of the document with one more header. It is of the grammar: a line with valid content was put
-- in (`valid_append`). It obeys the rules: the refusal looked for the first fault that the header's marks make after
-- the others and found none (`no_conflict`). Its tree is the old one with a table at the path: only the last mention of
-- the header states a fact (`silent_prefixes`), and at most a table was there before (`before_define`,
-- `table_appended`). For the refusal to speak of the same marks, the arrays of tables in the mentions have to be those
-- of the reading: `tables_stated`, by induction over the lines.
--
-- Theorem: `append_table_is_right`: where nothing is refused, the appended header gives the right document.
use Rattle.std.proofs.Common.{◌≡◌, ℕ, suc, ◌+◌, Bool, true, false, cond, List, [], ◌∷◌, ◌++◌, length, map, refl, sym}
use Rattle.std.proofs.Common.{ap, subst, ◌∙◌, append_assoc, Option, Some, None, ◌⊎◌, inl, inr}
use Rattle.std.specs.Prelude.{◌==◌}
use Rattle.std.specs.List.{filter_map, cons_option}
use Rattle.std.specs.Option.{option_map}
use Rattle.std.proofs.lemmas.List.{append-nil}
use Rattle.std.proofs.lemmas.List.Elements.{filter_map-append}
use Rattle.keep_types.specs.declared.leaf.Profile.{Profile}
use Rattle.keep_syntax.specs.Tree.{Written, Gap, Name, Entries, none, entry, Content, blank, keyval, header, element}
use Rattle.keep_syntax.specs.Tree.{Line, Ended, Document}
use Rattle.keep_syntax.specs.Grammar.{IsDocument, IsContent}
use Rattle.keep_edit_spec.specs.declared.fault.EditFault.TheVariants as fault
use Rattle.keep_meaning.specs.Fact.{Fact, table}
use Rattle.keep_path.specs.Path.{Part, key, index, same_path}
use Rattle.keep_meaning.specs.Rules.{ObeysRules}
use Rattle.keep_meaning.specs.Faults.{Fault, first_fault_after}
use Rattle.keep_meaning.specs.Marks as marks_of
use Rattle.keep_meaning.specs.Marks.{MentionKind, through, past, define, element as kinds_element, dotted, value, begun}
use Rattle.keep_meaning.specs.Marks.{passed, item, Mention, below, fact_of, Reading, start, Statement}
use Rattle.keep_meaning.specs.Marks.{statement_mentions, header_path, header_prefixes, entered_path, elements_of}
use Rattle.keep_meaning.specs.Marks.{passing_mentions, mark_of, marks}
use Rattle.keep_meaning.specs.Meaning.{keys_of, body_fact, valued_mentions, keyed_mentions, entry_mentions}
use Rattle.keep_meaning.specs.Meaning.{entries_mentions, keyval_mentions, line_mentions, after_line, lines_mentions}
use Rattle.keep_meaning.specs.Meaning.{reading_after_lines, lines, mentions_in}
use Rattle.keep_meaning.specs.Nodes.{is_at, kinds_at, fact_at, first_of, is_element}
use Rattle.keep_edit_spec.specs.Lines.{plain_line, is_empty}
use Rattle.keep_edit_spec.specs.Refusals.{element_path, tables_in, end_reading, conflict, refusal}
use Rattle.keep_edit_spec.specs.Edits.{append_table, append, at_line, change, key_with}
use Rattle.keep_edit_spec.specs.Trees as trees
use Rattle.keep_edit_spec.specs.Trees.{fact_from}
use Rattle.keep_edit_spec.proofs.Common.Runs.{AllOf, Across, all_join, all_right, pairs_split, Rules, Allowed}
use Rattle.keep_edit_spec.proofs.Common.Runs.{kinds_allow, same_path-sound, same_path-refl, kinds_at-append}
use Rattle.keep_edit_spec.proofs.Common.SetLaw.{EachTo}
use Rattle.keep_edit_spec.proofs.Common.SetDocument.{IsLawful, each_to}
use Rattle.keep_edit_spec.proofs.Common.SetWhole.{IsSetWhole, EachChange, together}
use Rattle.keep_edit_spec.proofs.Common.LineTexts.{change-is}
use Rattle.keep_edit_spec.proofs.Common.Marks.{rules_of_document}
use Rattle.keep_edit_spec.proofs.Append.AppendLaw.{append_law}
use Rattle.keep_edit_spec.proofs.Common.InsertLaw.{without_ways}
use Rattle.keep_edit_spec.proofs.Common.NewLines.{IsKeyText, valid_at_line, valid_key, key_means}
use Rattle.keep_meaning.proofs.Shared.{StatesEdits, first_fault_after-states}

-- ---- the tables stated are those of the reading

abbrev NoElement : Mention → Type 0
NoElement m = is_element m.kind ≡ false

none_below : (s : List Part) (ms : List Mention) → AllOf NoElement ms → AllOf NoElement (map (below s) ms)
none_below s [] h = tt
none_below s (m ∷ ms) h = (h.0, none_below s ms h.1)

none_keyed : (ks : List (List ℕ)) (ms : List Mention) → AllOf NoElement ms → AllOf NoElement (keyed_mentions ks ms)
none_keyed [] ms h = h
none_keyed (k ∷ []) ms h = none_below (key k ∷ []) ms h
none_keyed (k ∷ l ∷ ks) ms h =
    none_below (key k ∷ []) (record { path = []; kind = dotted } ∷ keyed_mentions (l ∷ ks) ms)
    (refl, none_keyed (l ∷ ks) ms h)

none_named : (n : ℕ) (name : Option Name) (f : Fact) (ms : List Mention) → AllOf NoElement ms
    → AllOf NoElement (entry_mentions n name f ms)
none_named n None f ms h = none_below (index n ∷ []) (valued_mentions (item f) ms) (refl, h)
none_named n (Some name) f ms h = none_keyed (keys_of name.key) (valued_mentions (value f) ms) (refl, h)

none_entries : (n : ℕ) (es : Entries) → AllOf NoElement (entries_mentions n es)
none_entries n none = tt
none_entries n (entry name body nested after comma rest) =
    all_join NoElement (entry_mentions n name (body_fact body) (entries_mentions 0 nested))
    (entries_mentions (n + 1) rest)
    (none_named n name (body_fact body) (entries_mentions 0 nested) (none_entries 0 nested)) (none_entries (n + 1) rest)

pub tables_none : (ms : List Mention) → AllOf NoElement ms → tables_in ms ≡ []
tables_none [] h = refl
tables_none (m ∷ ms) h =
    ap (λ (b : Bool). cons_option (cond b (Some m.path) None) (tables_in ms)) h.0 ∙ tables_none ms h.1

tables-append : (a b : List Mention) → tables_in (a ++ b) ≡ tables_in a ++ tables_in b
tables-append a b = filter_map-append element_path a b

none_passing : (tables : List (List Part)) (q : List Part) (b : Bool)
    → AllOf NoElement (cond b (record { path = q; kind = through } ∷ [])
    (record { path = q; kind = past } ∷ record { path = entered_path tables q; kind = passed } ∷ []))
none_passing tables q true = (refl, tt)
none_passing tables q false = (refl, (refl, tt))

pub none_prefixes : (tables : List (List Part)) (at : List Part) (ks : List (List ℕ))
    → AllOf NoElement (header_prefixes tables at ks)
none_prefixes tables at [] = tt
none_prefixes tables at (k ∷ []) = tt
none_prefixes tables at (k ∷ l ∷ ks) =
    let q : List Part = at ++ key k ∷ [] in
    all_join NoElement (passing_mentions tables q) (header_prefixes tables (entered_path tables q) (l ∷ ks))
    (none_passing tables q (0 == elements_of q tables)) (none_prefixes tables (entered_path tables q) (l ∷ ks))

content_tables : (r : Reading) (before after' : Gap) (comment : Option Written) (c : Content)
    → (let l : Line = record { before = before; content = c; after = after'; comment = comment } in
    (after_line r l).tables ≡ r.tables ++ tables_in (line_mentions r l))
content_tables r before after' comment blank = sym (append-nil r.tables)
content_tables r before after' comment (keyval name v) =
    sym (ap (λ l.
    r.tables ++ l) (tables_none (map (below r.body) (keyval_mentions name v)) (none_below r.body
    (keyval_mentions name v) (none_named 0 (Some name) (body_fact v.body) (entries_mentions 0 v.nested)
    (none_entries 0 v.nested)))) ∙ append-nil r.tables)
content_tables r before after' comment (header b k a) =
    let prefixes : List Mention = header_prefixes r.tables [] (keys_of k) in
    sym (ap (λ l.
    r.tables ++ l) (tables-append prefixes (record { path = header_path r.tables [] (keys_of k); kind = define } ∷ [])
    ∙ ap (λ l. l ++ []) (tables_none prefixes (none_prefixes r.tables [] (keys_of k)))) ∙ append-nil r.tables)
content_tables r before after' comment (element b k a) =
    let prefixes : List Mention = header_prefixes r.tables [] (keys_of k) in
    let path : List Part = header_path r.tables [] (keys_of k) in
    sym (ap (λ l.
    r.tables ++ l) (tables-append prefixes (record { path = path; kind = kinds_element }
    ∷ record { path = path ++ index (elements_of path r.tables) ∷ []; kind = begun } ∷ [])
    ∙ ap (λ l. l ++ path ∷ []) (tables_none prefixes (none_prefixes r.tables [] (keys_of k)))))

pub tables_stated : (r : Reading) (ls : List Line)
    → (reading_after_lines r ls).tables ≡ r.tables ++ tables_in (lines_mentions r ls)
tables_stated r [] = sym (append-nil r.tables)
tables_stated r (l ∷ ls) =
    tables_stated (after_line r l) ls
    ∙ ap (λ (t : List (List Part)). t ++ tables_in (lines_mentions (after_line r l) ls))
    (content_tables r l.before l.after l.comment l.content)
    ∙ append_assoc r.tables (tables_in (line_mentions r l)) (tables_in (lines_mentions (after_line r l) ls))
    ∙ ap (λ t. r.tables ++ t) (sym (tables-append (line_mentions r l) (lines_mentions (after_line r l) ls)))

-- ---- the rules

no_fault : (o : Option Fault) → option_map fault.Conflict (option_map (λ f. f.why) o) ≡ None → o ≡ None
no_fault None h = refl
no_fault (Some f) h = absurd cc

pub no_conflict : (st : Statement) (ms : List Mention) → ObeysRules (marks ms) → conflict st ms ≡ None
    → ObeysRules (marks (ms ++ statement_mentions (end_reading ms) st))
no_conflict st ms obeys h =
    let new : List Mention = statement_mentions (end_reading ms) st in
    let e : first_fault_after (marks ms) (marks new) ≡ None = no_fault (first_fault_after (marks ms) (marks new)) h in
    subst ObeysRules (sym (filter_map-append mark_of ms new))
    (subst (StatesEdits (marks ms ++ marks new)) e (first_fault_after-states (marks ms) (marks new) obeys))

-- ---- the grammar

append_good-by : (P : Document → Type 0) (s : Document) (c : Content) → ((n : ℕ) → EachTo P (at_line s n (c ∷ [])))
    → ((n : ℕ) → EachTo P (at_line s n (blank ∷ c ∷ []))) → (es : List Ended) (b : Bool) → EachTo P (elim es [
      | [] ↦ cond b (at_line s 0 (c ∷ [])) (at_line s 1 (blank ∷ c ∷ []))
      | e ∷ es ↦
          cond b (at_line s (length s.ended) (blank ∷ c ∷ [])) (at_line s (suc (length s.ended)) (blank ∷ c ∷ []))
    ])
append_good-by P s c one two [] true = one 0
append_good-by P s c one two [] false = two 1
append_good-by P s c one two (e ∷ es) true = two (length s.ended)
append_good-by P s c one two (e ∷ es) false = two (suc (length s.ended))

pub valid_append : (profile : Profile) (s : Document) (c : Content) → IsDocument profile s → IsContent profile c
    → EachTo (IsDocument profile) (append s c)
valid_append profile s c h hc =
    append_good-by (IsDocument profile) s c (λ n. valid_at_line profile s n (c ∷ []) h (hc, tt))
    (λ n. valid_at_line profile s n (blank ∷ c ∷ []) h (tt, (hc, tt))) s.ended (is_empty s.last)

-- ---- the tree

abbrev NoFact : Mention → Type 0
NoFact m = fact_of m.kind ≡ None

silent_passing : (tables : List (List Part)) (q : List Part) (b : Bool)
    → AllOf NoFact (cond b (record { path = q; kind = through } ∷ [])
    (record { path = q; kind = past } ∷ record { path = entered_path tables q; kind = passed } ∷ []))
silent_passing tables q true = (refl, tt)
silent_passing tables q false = (refl, (refl, tt))

pub silent_prefixes : (tables : List (List Part)) (at : List Part) (ks : List (List ℕ))
    → AllOf NoFact (header_prefixes tables at ks)
silent_prefixes tables at [] = tt
silent_prefixes tables at (k ∷ []) = tt
silent_prefixes tables at (k ∷ l ∷ ks) =
    let q : List Part = at ++ key k ∷ [] in
    all_join NoFact (passing_mentions tables q) (header_prefixes tables (entered_path tables q) (l ∷ ks))
    (silent_passing tables q (0 == elements_of q tables)) (silent_prefixes tables (entered_path tables q) (l ∷ ks))

-- at most a table is there
abbrev pub AtMostTable : MentionKind → Type 0
AtMostTable a = (fact_of a ≡ None) ⊎ (fact_of a ≡ Some table)

pub more_facts : (q : List Part) (x : Mention) (ms : List Mention) → is_at q x ≡ true
    → fact_at q (x ∷ ms) ≡ first_of (cons_option (fact_of x.kind) (filter_map fact_of (kinds_at q ms)))
more_facts q x ms e = rw e refl

table_end : (q : List Part) (m : Mention) (ms : List Mention) → is_at q m ≡ true → fact_of m.kind ≡ Some table
    → AllOf (λ x. x.path ≡ q → AtMostTable x.kind) ms → fact_at q (ms ++ m ∷ []) ≡ Some table
table_end q m [] e stated h = more_facts q m [] e ∙ ap (λ (o : Option Fact). first_of (cons_option o [])) stated
table_end q m (x ∷ ms) e stated h = by (is_at q x) refl (table_end q m ms e stated h.1)
  where
    by : (b : Bool) → is_at q x ≡ b → fact_at q (ms ++ m ∷ []) ≡ Some table
        → fact_at q (x ∷ (ms ++ m ∷ [])) ≡ Some table
    by false k ih = rw k ih
    by true k ih = more_facts q x (ms ++ m ∷ []) k ∙ (elim (h.0 (same_path-sound x.path q k)) [
      | inl no_fact ↦
          ap (λ (o : Option Fact). first_of (cons_option o (filter_map fact_of (kinds_at q (ms ++ m ∷ []))))) no_fact
          ∙ ih
      | inr a_table ↦
          ap (λ (o : Option Fact). first_of (cons_option o (filter_map fact_of (kinds_at q (ms ++ m ∷ []))))) a_table
    ])

other_mentions : (q : List Part) (m : Mention) → is_at q m ≡ false → kinds_at q (m ∷ []) ≡ []
other_mentions q m e = rw e refl

other_end : (q : List Part) (m : Mention) (ms : List Mention) → is_at q m ≡ false
    → fact_at q (ms ++ m ∷ []) ≡ fact_at q ms
other_end q m ms e =
    ap (λ (l : List MentionKind). first_of (filter_map fact_of l))
    (kinds_at-append q ms (m ∷ []) ∙ ap (λ (l : List MentionKind). kinds_at q ms ++ l) (other_mentions q m e)
    ∙ append-nil (kinds_at q ms))

-- mentions that tell no fact, and then a table at a path where at most a table was there
pub table_appended : (ms prefixes : List Mention) (m : Mention) (q : List Part) → AllOf NoFact prefixes
    → fact_of m.kind ≡ Some table → AllOf (λ x. x.path ≡ m.path → AtMostTable x.kind) ms → (b : Bool)
    → same_path q m.path ≡ b
    → fact_at q ((ms ++ prefixes) ++ m ∷ []) ≡ cond b (Some table) (fact_at q ms)
table_appended ms prefixes m q silent stated h true e =
    let same : q ≡ m.path = same_path-sound q m.path e in
    let here : is_at q m ≡ true =
    subst (λ (p : List Part). same_path m.path p ≡ true) (sym same) (same_path-refl m.path) in
    without_ways q ms prefixes (m ∷ []) silent
    ∙ table_end q m ms here stated
    (subst (λ (p : List Part). AllOf (λ x. x.path ≡ p → AtMostTable x.kind) ms) (sym same) h)
table_appended ms prefixes m q silent stated h false e =
    without_ways q ms prefixes (m ∷ []) silent ∙ other_end q m ms (by (is_at q m) refl)
  where
    by : (c : Bool) → is_at q m ≡ c → is_at q m ≡ false
    by false k = k
    by true k =
        let y : same_path q m.path ≡ true =
        subst (λ (p : List Part). same_path q p ≡ true) (sym (same_path-sound m.path q k)) (same_path-refl q) in
        absurd cc

pub from_cond : (ms : List Mention) (q : List Part) (b : Bool)
    → fact_from ms [] (cond b trees.a_table (trees.from q)) ≡ cond b (Some table) (fact_at q ms)
from_cond ms q true = refl
from_cond ms q false = refl

-- ---- append_table

pub before_define : (a : MentionKind) → kinds_allow a define ≡ true → AtMostTable a
before_define through h = inl refl
before_define past h = inl refl
before_define define h = inr refl
before_define kinds_element h = inl refl
before_define dotted h = inl refl
before_define (value f) h = absurd cc
before_define begun h = inr refl
before_define passed h = inl refl
before_define (item f) h = absurd cc

defined_before : (ms prefixes : List Mention) (p : List Part)
    → Across Allowed ms (prefixes ++ record { path = p; kind = define } ∷ [])
    → AllOf (λ x. x.path ≡ p → AtMostTable x.kind) ms
defined_before [] prefixes p h = tt
defined_before (x ∷ ms) prefixes p h = (
  (λ e. before_define x.kind ((all_right (Allowed x) prefixes (record { path = p; kind = define } ∷ []) h.0).0 e)),
  defined_before ms prefixes p h.1,
)

table_lawful : (profile : Profile) (s : Document) (k : List ℕ) (ks : List (List ℕ)) → AllOf (IsKeyText profile) (k ∷ ks)
    → ObeysRules (marks (mentions_in s)) → conflict (marks_of.header (k ∷ ks)) (mentions_in s) ≡ None
    → EachTo (IsLawful s (append_table (k ∷ ks))) (append s (header [] (key_with (k ∷ ks)) []))
table_lawful profile s k ks texts obeys free =
    let ms : List Mention = mentions_in s in
    let c : Content = header [] (key_with (k ∷ ks)) [] in
    let r : Reading = reading_after_lines start (lines s) in
    let prefixes : List Mention = header_prefixes (tables_in ms) [] (k ∷ ks) in
    let p : List Part = header_path (tables_in ms) [] (k ∷ ks) in
    let m : Mention = record { path = p; kind = define } in
    let new : line_mentions r (plain_line c) ≡ prefixes ++ m ∷ [] =
    ap (λ (l : List (List ℕ)). statement_mentions r (marks_of.header l)) (key_means profile k ks texts)
    ∙ ap (λ (t : List (List Part)). statement_mentions (record { tables = t; body = [] }) (marks_of.header (k ∷ ks)))
    (tables_stated start (lines s)) in
    let allowed : ObeysRules (marks (ms ++ (prefixes ++ m ∷ []))) =
    no_conflict (marks_of.header (k ∷ ks)) ms obeys free in
    each_to (λ s'. mentions_in s' ≡ ms ++ line_mentions r (plain_line c)) (IsLawful s (append_table (k ∷ ks)))
    (append s c)
    (λ s' is.
    let now : mentions_in s' ≡ ms ++ (prefixes ++ m ∷ []) = is ∙ ap (λ (l : List Mention). ms ++ l) new in
    let rules : Rules (mentions_in s') =
    rules_of_document s' (subst (λ (l : List Mention). ObeysRules (marks l)) (sym now) allowed) in
    let parts = pairs_split Allowed ms (prefixes ++ m ∷ []) (subst Rules now rules) in
    record {
      rules = rules;
      tree = λ q. ap (fact_at q) (now ∙ sym (append_assoc ms prefixes (m ∷ [])))
          ∙ table_appended ms prefixes m q (silent_prefixes (tables_in ms) [] (k ∷ ks)) refl
          (defined_before ms prefixes p parts.across) (same_path q p) refl
          ∙ sym (from_cond ms q (same_path q p));
    })
    (append_law s c)

-- From no refusal: the header is appended, and the new document is right.
pub append_table_is_right : (profile : Profile) (limit : ℕ) (s : Document) (keys : List (List ℕ))
    → refusal profile limit s (append_table keys) ≡ None → AllOf (IsKeyText profile) keys
    → IsDocument profile s → ObeysRules (marks (mentions_in s))
    → EachChange (IsSetWhole profile s (append_table keys)) (change s (append_table keys))
append_table_is_right profile limit s [] granted texts valid obeys = absurd cc
append_table_is_right profile limit s (k ∷ ks) granted texts valid obeys =
    together profile s (append_table (k ∷ ks)) (change s (append_table (k ∷ ks)))
    (valid_append profile s (header [] (key_with (k ∷ ks)) []) valid (tt, valid_key profile k ks texts, tt))
    (change-is s (append_table (k ∷ ks)))
    (table_lawful profile s k ks texts obeys granted)
