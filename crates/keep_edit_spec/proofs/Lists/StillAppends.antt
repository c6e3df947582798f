-- A header makes the same change at the end of the text after another header made its own there.
--
-- The new document says what the old one said, and then what the first header says (`said`, by `append_law`). So the
-- second header is not refused: two tables that differ, and two elements whose keys are the same or not the first of
-- one another, are not in each other's way (HeaderApart). By the law of the first append the new document is valid, so
-- the second header is written after the first as it would have been without it (HeaderStays).
--
-- Theorems: `still_appends_table`, `still_appends_element`.
use Rattle.std.proofs.Common.{◌≡◌, ℕ, List, [], ◌∷◌, ◌++◌, length, map, sym, ap, ◌∙◌, length-append, arith, Option}
use Rattle.std.proofs.Common.{Some, None, inl, inr}
use Rattle.std.specs.List.{AllByRecursion}
use Rattle.std.specs.Prelude.{IsUtf8}
use Rattle.std.proofs.lemmas.List.{map-append}
use Rattle.keep_types.specs.declared.leaf.Profile.{Profile}
use Rattle.keep_syntax.specs.Tree.{Content, Document, element, header}
use Rattle.keep_path.specs.Path.{Part, key, strip}
use Rattle.keep_meaning.specs.Marks as marks_of
use Rattle.keep_meaning.specs.Marks.{Mention, Reading, Statement, start, statement_mentions}
use Rattle.keep_meaning.specs.Meaning.{line_mentions, lines, mentions_in, reading_after_lines}
use Rattle.keep_edit_spec.specs.AppendedHeaders.{AreSameOrApart, StillAppendsElement}
use Rattle.keep_edit_spec.specs.AppendedHeaders.{StillAppendsTable}
use Rattle.keep_edit_spec.specs.Changed.{Changed}
use Rattle.keep_edit_spec.specs.Edits.{append, append_element, append_table, changed_or_same, edited_document, key_with}
use Rattle.keep_edit_spec.specs.Laws.{IsEditable, IsLawfulEdit}
use Rattle.keep_edit_spec.specs.Lines.{plain_line}
use Rattle.keep_edit_spec.specs.Refusals.{conflict, refusal}
use Rattle.keep_edit_spec.proofs.EditLaws.{append_element_lawful, append_table_lawful}
use Rattle.keep_edit_spec.proofs.Append.AppendLaw.{append_law}
use Rattle.keep_edit_spec.proofs.Append.AppendTable.{tables_stated}
use Rattle.keep_edit_spec.proofs.Common.NewLines.{key_means}
use Rattle.keep_edit_spec.proofs.Common.Runs.{strip-append}
use Rattle.keep_edit_spec.proofs.Common.SetLaw.{EachTo}
use Rattle.keep_edit_spec.proofs.Lists.HeaderApart.{GoesNotOn, element_goes_on, table_goes_on, with_statement}
use Rattle.keep_edit_spec.proofs.Lists.HeaderLines.{ends_again, newline_again}
use Rattle.keep_edit_spec.proofs.Lists.HeaderStays.{element_again, table_again}
use Rattle.keep_edit_spec.proofs.Rename.KeyTexts.{key_texts}

-- ---- what is said after an append

each_edited : (P : Document → Type 0) (s : Document) (o : Option (Changed Document)) (c : Changed Document)
    → o ≡ Some c → EachTo P o → P (changed_or_same s o).to
each_edited P s None c is h = absurd cc
each_edited P s (Some x) c is h = h

pub said : (s : Document) (content : Content) (st : Statement) (c : Changed Document) → append s content ≡ Some c
    → ((r : Reading) → line_mentions r (plain_line content)
    ≡ statement_mentions (record { tables = r.tables; body = [] }) st)
    → mentions_in (changed_or_same s (append s content)).to ≡ with_statement (mentions_in s) st
said s content st c is states =
    let ms : List Mention = mentions_in s in
    let r : Reading = reading_after_lines start (lines s) in
    each_edited (λ s'. mentions_in s' ≡ ms ++ line_mentions r (plain_line content)) s (append s content) c is
    (append_law s content)
    ∙ ap (λ (l : List Mention). ms ++ l)
    (states r
    ∙ ap (λ (t : List (List Part)). statement_mentions (record { tables = t; body = [] }) st)
    (tables_stated start (lines s)))

-- ---- keys that are not the first of others

same_goes_not : (keys more : List (List ℕ)) → keys ≡ more → GoesNotOn keys more
same_goes_not keys more e x xs f =
    omega (
      arith,
      ap (λ (l : List (List ℕ)). length l) e,
      ap (λ (l : List (List ℕ)). length l) f,
      length-append keys (x ∷ xs),
    )

pub apart_goes_not : (keys more : List (List ℕ)) → strip (map key keys) (map key more) ≡ None → GoesNotOn keys more
apart_goes_not keys more none x xs f =
    let some : strip (map key keys) (map key more) ≡ Some (map key (x ∷ xs)) =
    ap (strip (map key keys)) (ap (map key) f ∙ map-append key keys (x ∷ xs))
    ∙ strip-append (map key keys) (map key (x ∷ xs)) in
    absurd cc

go_not_on : (keys more : List (List ℕ)) → AreSameOrApart keys more → GoesNotOn keys more × GoesNotOn more keys
go_not_on keys more (inl e) = (same_goes_not keys more e, same_goes_not more keys (sym e))
go_not_on keys more (inr h) = (apart_goes_not keys more h.0, apart_goes_not more keys h.1)

-- ---- tables

table_allowed : (profile : Profile) (limit : ℕ) (s : Document) (keys more : List (List ℕ))
    → IsEditable profile limit s → AllByRecursion IsUtf8 keys → (keys ≡ more → ⊥)
    → refusal profile limit s (append_table keys) ≡ None → refusal profile limit s (append_table more) ≡ None
    → refusal profile limit (edited_document s (append_table keys)) (append_table more) ≡ None
table_allowed profile limit s [] more fine utf8 differ h g = absurd cc
table_allowed profile limit s (k ∷ ks) [] fine utf8 differ h g = absurd cc
table_allowed profile limit s (k ∷ ks) (l ∷ ls) fine utf8 differ h g =
    let law : IsLawfulEdit profile limit s (append_table (k ∷ ks)) =
    append_table_lawful profile limit s (k ∷ ks) fine utf8 h in
    ap (conflict (marks_of.header (l ∷ ls)))
    (said s (header [] (key_with (k ∷ ks)) []) (marks_of.header (k ∷ ks)) law.changed law.is
    (λ r. ap (λ (x : List (List ℕ)). statement_mentions r (marks_of.header x))
    (key_means profile k ks (key_texts profile (k ∷ ks) utf8))))
    ∙ table_goes_on (mentions_in s) fine.obeys k ks l ls differ h g

pub still_appends_table : StillAppendsTable
still_appends_table profile limit s keys c more d fine h g differ =
    let law : IsLawfulEdit profile limit s (append_table keys) =
    append_table_lawful profile limit s keys fine h.utf8 h.allowed in
    let one : Content = header [] (key_with keys) [] in
    table_again profile limit s (append_table keys) c more d fine law h.is
    (newline_again profile s fine.valid h.closed one)
    (λ e. ends_again profile s fine.valid h.closed one law.reads.valid)
    (table_allowed profile limit s keys more fine h.utf8 differ h.allowed g.allowed) g

-- ---- elements

element_allowed : (profile : Profile) (limit : ℕ) (s : Document) (keys more : List (List ℕ))
    → IsEditable profile limit s → AllByRecursion IsUtf8 keys → AreSameOrApart keys more
    → refusal profile limit s (append_element keys) ≡ None → refusal profile limit s (append_element more) ≡ None
    → refusal profile limit (edited_document s (append_element keys)) (append_element more) ≡ None
element_allowed profile limit s [] more fine utf8 apart h g = absurd cc
element_allowed profile limit s (k ∷ ks) [] fine utf8 apart h g = absurd cc
element_allowed profile limit s (k ∷ ks) (l ∷ ls) fine utf8 apart h g =
    let law : IsLawfulEdit profile limit s (append_element (k ∷ ks)) =
    append_element_lawful profile limit s (k ∷ ks) fine utf8 h in
    let (below, above) = go_not_on (k ∷ ks) (l ∷ ls) apart in
    ap (conflict (marks_of.element_header (l ∷ ls)))
    (said s (element [] (key_with (k ∷ ks)) []) (marks_of.element_header (k ∷ ks)) law.changed law.is
    (λ r. ap (λ (x : List (List ℕ)). statement_mentions r (marks_of.element_header x))
    (key_means profile k ks (key_texts profile (k ∷ ks) utf8))))
    ∙ element_goes_on (mentions_in s) fine.obeys k ks l ls below above h g

pub still_appends_element : StillAppendsElement
still_appends_element profile limit s keys c more d fine h g apart =
    let law : IsLawfulEdit profile limit s (append_element keys) =
    append_element_lawful profile limit s keys fine h.utf8 h.allowed in
    let one : Content = element [] (key_with keys) [] in
    element_again profile limit s (append_element keys) c more d fine law h.is
    (newline_again profile s fine.valid h.closed one)
    (λ e. ends_again profile s fine.valid h.closed one law.reads.valid)
    (element_allowed profile limit s keys more fine h.utf8 apart h.allowed g.allowed) g
