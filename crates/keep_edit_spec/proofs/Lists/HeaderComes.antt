-- A header that an append writes at the end of a text that ends in a newline, of a table or of an element.
--
-- All that another edit asks of it is in `HeaderComes`: what it says is said after the rest, with which it obeys the
-- rules, and has paths that its keys lead to (HeaderSays), so it states nothing of another (`states_nothing`) and does
-- not go through it (`not_through`); it states nothing of a table that is made in the document (HeaderNew), so it
-- begins no body of that table (`begins_none`, `not_begun`); it comes before the last line (HeaderLines), where the
-- change is stated to be, at the end of the text (`comes_at`); and it has no value, nor a key part that leads to a path
-- that its keys pass by.
--
-- Theorems: `table_comes`, `element_comes`; `after_header`, `comes_at`, `states_nothing`, `end_tables`, `begins_none`,
-- `not_begun`, `not_through`; `values_pass`.
use Rattle.std.proofs.Common.{◌≡◌, ℕ, Bool, true, false, ◌&&◌, List, [], ◌∷◌, ◌++◌, length, map, refl, sym, ap, subst}
use Rattle.std.proofs.Common.{◌∙◌, Option, Some, None}
use Rattle.std.specs.Prelude.{position}
use Rattle.std.specs.List.{list_any}
use Rattle.std.proofs.Math.Bool.{and-false}
use Rattle.keep_types.specs.declared.leaf.Profile.{Profile}
use Rattle.keep_syntax.specs.Tree.{Content, Document, Line, blank, comment_leaves, element, header, text}
use Rattle.keep_syntax.specs.Tree.{text_of}
use Rattle.keep_syntax.specs.Grammar.{IsDocument}
use Rattle.keep_path.specs.Path.{Part, same_path}
use Rattle.keep_meaning.specs.Marks as marks_of
use Rattle.keep_meaning.specs.Marks.{Mention, Reading, Statement, header_path, marks, start, statement_mentions}
use Rattle.keep_meaning.specs.Meaning.{keys_of, line_mentions, line_of, lines, mentions_in, reading_after_lines}
use Rattle.keep_meaning.specs.Nodes.{has, is_through}
use Rattle.keep_meaning.specs.Rules.{ObeysRules}
use Rattle.keep_edit_spec.specs.AppendedHeaders.{AppendsElement, AppendsTable}
use Rattle.keep_edit_spec.specs.Changed.{Changed, Place, place_of, within}
use Rattle.keep_edit_spec.specs.Edits.{append, changed_or_same, key_with}
use Rattle.keep_edit_spec.specs.Laws.{IsEditable}
use Rattle.keep_edit_spec.specs.Lines.{begins, in_content, in_line, is_header, key_prefixes, leads_through, part_paths}
use Rattle.keep_edit_spec.specs.Lines.{plain_line}
use Rattle.keep_edit_spec.specs.Runs.{PassesBy}
use Rattle.keep_edit_spec.specs.Refusals.{conflict, end_reading, tables_in}
use Rattle.keep_edit_spec.specs.TextChanges.{TextChange, place_of_change}
use Rattle.keep_edit_spec.specs.TextEnds.{ends_in_newline}
use Rattle.keep_edit_spec.specs.Values.{Act}
use Rattle.keep_edit_spec.proofs.Append.AppendLaw.{reading_append}
use Rattle.keep_edit_spec.proofs.Append.AppendPlace.{append_place}
use Rattle.keep_edit_spec.proofs.Append.AppendTable.{no_conflict, tables_stated}
use Rattle.keep_edit_spec.proofs.Common.BodyEnd.{IsStated, begins_stated}
use Rattle.keep_edit_spec.proofs.Common.Marks.{rules_of_document}
use Rattle.keep_edit_spec.proofs.Common.NewLines.{key_means}
use Rattle.keep_edit_spec.proofs.Common.Runs.{AllOf, Rules, SomeOf, all_map, meet}
use Rattle.keep_edit_spec.proofs.Lists.HeaderLines.{FindsNothing, append_is, headed, last_blank}
use Rattle.keep_edit_spec.proofs.Lists.HeaderNew.{IsMadeIn, StatesNothing, element_new, not_stated, table_new}
use Rattle.keep_edit_spec.proofs.Lists.HeaderSays.{IsOfHeader, element_own, not_at, not_named, nothing_there}
use Rattle.keep_edit_spec.proofs.Lists.HeaderSays.{table_own}
use Rattle.keep_edit_spec.proofs.Lists.StillAppends.{said}
use Rattle.keep_edit_spec.proofs.Rename.KeyTexts.{key_texts}

pub record HeaderComes (s : Document) (keys : List (List ℕ)) (c : TextChange) (content : Content) : Type 0 where
  pub made : append s content ≡ Some (headed s content)
  pub is : place_of (headed s content) ≡ place_of_change c
  pub empty : s.last.content ≡ blank
  pub own : List Mention
  pub says : mentions_in (headed s content).to ≡ mentions_in s ++ own
  pub rules : Rules (mentions_in s ++ own)
  pub stated : (r : Reading) → r.tables ≡ tables_in (mentions_in s) → line_mentions r (plain_line content) ≡ own
  pub of_header : AllOf (IsOfHeader keys) own
  pub new : (a : List Part) → IsMadeIn a (mentions_in s) → AllOf (StatesNothing a) own
  pub no_value : (act : Act) (body path : List Part) → in_content act body path content ≡ None
  pub no_part : (r : Reading) (q : List Part) → PassesBy keys q → position (same_path q) (part_paths r content) ≡ None

-- what holds of the document after the change
pub after_header : (P : Document → Type 0) (s : Document) (content : Content) (keys : List (List ℕ)) (c : TextChange)
    → HeaderComes s keys c content → P (headed s content).to → P (changed_or_same s (append s content)).to
after_header P s content keys c h holds =
    subst (λ (o : Option (Changed Document)). P (changed_or_same s o).to) (sym h.made) holds

module _ (s : Document) (keys : List (List ℕ)) (c : TextChange) (content : Content) (h : HeaderComes s keys c content)
  where
    -- It comes at the end of the text.
    pub comes_at : (profile : Profile) → IsDocument profile s → c.at ≡ length (text s)
    comes_at profile valid =
        ap (λ (p : Place). p.start)
        (sym h.is ∙ ap (λ (o : Option (Changed Document)). place_of (changed_or_same s o)) (sym h.made)
        ∙ append_place profile s valid content)

    -- It states nothing of a path that its keys do not lead to.
    pub states_nothing : (a : List Part) → PassesBy keys a → AllOf (StatesNothing a) h.own
    states_nothing a clear =
        all_map (IsOfHeader keys) (StatesNothing a) (λ m of_header e. absurd (not_at keys a m clear of_header e)) h.own
        h.of_header

    abbrev at_end : Reading
    at_end = reading_after_lines start (map line_of s.ended)

    -- All arrays of tables are known before it.
    pub end_tables : at_end.tables ≡ tables_in (mentions_in s)
    end_tables =
        ap (λ (r : Reading). r.tables)
        (sym (reading_append start (map line_of s.ended) (s.last ∷ [])
        ∙ ap (λ (x : Content). reading_after_lines at_end (plain_line x ∷ [])) h.empty))
        ∙ tables_stated start (lines s)

    -- It begins no body of a path of which it states nothing.
    pub begins_none : (a : List Part) → AllOf (StatesNothing a) h.own → begins a at_end (plain_line content) ≡ false
    begins_none a nothing = by (begins a at_end (plain_line content)) refl
      where
        by : (b : Bool) → begins a at_end (plain_line content) ≡ b → b ≡ false
        by false e = refl
        by true e =
            let (m, stated, other) =
            meet (IsStated a) (StatesNothing a) h.own
            (subst (SomeOf (IsStated a)) (h.stated at_end end_tables) (begins_stated a at_end (plain_line content) e))
            nothing in
            absurd (not_stated a m stated other)

    -- nor one of a table that is made in the document
    pub not_begun : (a : List Part) → IsMadeIn a (mentions_in s) → begins a at_end (plain_line content) ≡ false
    not_begun a made = begins_none a (h.new a made)

    -- It goes through no path that its keys do not lead to.
    pub not_through : (a : List Part) → PassesBy keys a → leads_through a at_end (plain_line content) ≡ false
    not_through a clear =
        ap (λ (b : Bool). is_header content && b)
        (ap (has is_through a) (h.stated at_end end_tables)
        ∙ ap (list_any is_through) (nothing_there keys a h.own clear h.of_header))
        ∙ and-false (is_header content)

-- A search in values passes it.
pub values_pass : (s : Document) (keys : List (List ℕ)) (c : TextChange) (content : Content)
    → HeaderComes s keys c content → (act : Act) (path : List Part) → FindsNothing (in_line act path) content
values_pass s keys c content h act path = record {
  blanks = λ r l e. none r l (ap (in_content act r.body path) e);
  there = λ r. none r (plain_line content) (h.no_value act r.body path);
}
  where
    none : (r : Reading) (l : Line) → in_content act r.body path l.content ≡ None → in_line act path r l ≡ None
    none r l e =
        ap (within (λ (x : Content). record l { content = x }) (text_of l.before)
        (text_of l.after ++ text_of (comment_leaves l.comment))) e

comes : (profile : Profile) (limit : ℕ) (s : Document) (k : List ℕ) (ks : List (List ℕ)) (c : TextChange)
    (content : Content) (st : Statement) → IsEditable profile limit s → ends_in_newline (text s) ≡ true
    → conflict st (mentions_in s) ≡ None → place_of (changed_or_same s (append s content)) ≡ place_of_change c
    → ((r : Reading) → line_mentions r (plain_line content)
    ≡ statement_mentions (record { tables = r.tables; body = [] }) st)
    → AllOf (IsOfHeader (k ∷ ks)) (statement_mentions (end_reading (mentions_in s)) st)
    → ((a : List Part) → IsMadeIn a (mentions_in s)
    → Rules (mentions_in s ++ statement_mentions (end_reading (mentions_in s)) st)
    → AllOf (StatesNothing a) (statement_mentions (end_reading (mentions_in s)) st))
    → ((act : Act) (body path : List Part) → in_content act body path content ≡ None)
    → ((r : Reading) → part_paths r content ≡ map (header_path r.tables []) (key_prefixes (k ∷ ks)))
    → HeaderComes s (k ∷ ks) c content
comes profile limit s k ks c content st fine closed free is states of_header new no_value parts =
    let made : append s content ≡ Some (headed s content) = append_is profile s fine.valid closed content in
    let all : List Mention = mentions_in s ++ statement_mentions (end_reading (mentions_in s)) st in
    let says : mentions_in (headed s content).to ≡ all =
    ap (λ (o : Option (Changed Document)). mentions_in (changed_or_same s o).to) (sym made)
    ∙ said s content st (headed s content) made states in
    let rules : Rules all =
    subst Rules says (rules_of_document (headed s content).to
    (subst (λ (ms : List Mention). ObeysRules (marks ms)) (sym says)
    (no_conflict st (mentions_in s) fine.obeys free))) in
    record {
      made = made;
      is = ap (λ (o : Option (Changed Document)). place_of (changed_or_same s o)) (sym made) ∙ is;
      empty = last_blank profile s fine.valid closed;
      own = statement_mentions (end_reading (mentions_in s)) st;
      says = says;
      rules = rules;
      stated = λ r e. states r
          ∙ ap (λ (tables : List (List Part)). statement_mentions (record { tables = tables; body = [] }) st) e;
      of_header = of_header;
      new = λ a there. new a there rules;
      no_value = no_value;
      no_part = λ r q clear. ap (λ (l : List (List Part)). position (same_path q) l) (parts r)
          ∙ not_named r.tables k ks q clear;
    }

pub table_comes : (profile : Profile) (limit : ℕ) (s : Document) (keys : List (List ℕ)) (c : TextChange)
    → IsEditable profile limit s → AppendsTable profile limit s keys c
    → HeaderComes s keys c (header [] (key_with keys) [])
table_comes profile limit s [] c fine h = let no = h.allowed in absurd cc
table_comes profile limit s (k ∷ ks) c fine h =
    let same : keys_of (key_with (k ∷ ks)) ≡ k ∷ ks = key_means profile k ks (key_texts profile (k ∷ ks) h.utf8) in
    comes profile limit s k ks c (header [] (key_with (k ∷ ks)) []) (marks_of.header (k ∷ ks)) fine h.closed h.allowed
    h.is (λ r. ap (λ (x : List (List ℕ)). statement_mentions r (marks_of.header x)) same)
    (table_own (tables_in (mentions_in s)) k ks [])
    (λ a there rules. table_new s k ks a there rules) (λ act body path. refl)
    (λ r. ap (λ (x : List (List ℕ)). map (header_path r.tables []) (key_prefixes x)) same)

pub element_comes : (profile : Profile) (limit : ℕ) (s : Document) (keys : List (List ℕ)) (c : TextChange)
    → IsEditable profile limit s → AppendsElement profile limit s keys c
    → HeaderComes s keys c (element [] (key_with keys) [])
element_comes profile limit s [] c fine h = let no = h.allowed in absurd cc
element_comes profile limit s (k ∷ ks) c fine h =
    let same : keys_of (key_with (k ∷ ks)) ≡ k ∷ ks = key_means profile k ks (key_texts profile (k ∷ ks) h.utf8) in
    comes profile limit s k ks c (element [] (key_with (k ∷ ks)) []) (marks_of.element_header (k ∷ ks)) fine h.closed
    h.allowed h.is (λ r. ap (λ (x : List (List ℕ)). statement_mentions r (marks_of.element_header x)) same)
    (element_own (tables_in (mentions_in s)) k ks [])
    (λ a there rules. element_new s k ks a there rules) (λ act body path. refl)
    (λ r. ap (λ (x : List (List ℕ)). map (header_path r.tables []) (key_prefixes x)) same)
