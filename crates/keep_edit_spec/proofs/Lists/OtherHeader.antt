-- A header makes the same change at the end of the text after a header of the other kind made its own there.
--
-- As for two headers of one kind (StillAppends): the new document says what the old one said, and then what the first
-- header says, so the second is not refused (OtherHeaderApart), and it is written after the first as it would have been
-- without it (HeaderStays).
--
-- Theorems: `element_after_table`, `table_after_element`.
use Rattle.std.proofs.Common.{◌≡◌, ℕ, List, [], ◌∷◌, map, sym, ap, ◌∙◌, Some, None}
use Rattle.std.specs.List.{AllByRecursion}
use Rattle.std.specs.Prelude.{IsUtf8}
use Rattle.std.proofs.lemmas.List.{append-nil}
use Rattle.keep_types.specs.declared.leaf.Profile.{Profile}
use Rattle.keep_syntax.specs.Tree.{Content, Document, element, header}
use Rattle.keep_path.specs.Path.{Part, key, strip}
use Rattle.keep_meaning.specs.Marks as marks_of
use Rattle.keep_meaning.specs.Marks.{statement_mentions}
use Rattle.keep_meaning.specs.Meaning.{mentions_in}
use Rattle.keep_edit_spec.specs.Edits.{append_element, append_table, edited_document, key_with}
use Rattle.keep_edit_spec.specs.Laws.{IsEditable, IsLawfulEdit}
use Rattle.keep_edit_spec.specs.Runs.{AreApart}
use Rattle.keep_edit_spec.proofs.Lists.TwoKinds.{ElementAfterTable, TableAfterElement}
use Rattle.keep_edit_spec.specs.Refusals.{conflict, refusal}
use Rattle.keep_edit_spec.proofs.EditLaws.{append_element_lawful, append_table_lawful}
use Rattle.keep_edit_spec.proofs.Common.NewLines.{key_means}
use Rattle.keep_edit_spec.proofs.Common.Runs.{strip-append}
use Rattle.keep_edit_spec.proofs.Lists.HeaderLines.{ends_again, newline_again}
use Rattle.keep_edit_spec.proofs.Lists.HeaderStays.{element_again, table_again}
use Rattle.keep_edit_spec.proofs.Lists.OtherHeaderApart.{element_goes_past, table_goes_past}
use Rattle.keep_edit_spec.proofs.Lists.StillAppends.{apart_goes_not, said}
use Rattle.keep_edit_spec.proofs.Rename.KeyTexts.{key_texts}

pub apart_differ : (keys more : List (List ℕ)) → strip (map key keys) (map key more) ≡ None → keys ≡ more → ⊥
apart_differ keys more none e =
    let p : List Part = map key keys in
    let some : strip p (map key more) ≡ Some [] =
    ap (λ (l : List (List ℕ)). strip p (map key l)) (sym e) ∙ ap (strip p) (sym (append-nil p)) ∙ strip-append p [] in
    absurd cc

-- ---- an element after a table

element_allowed : (profile : Profile) (limit : ℕ) (s : Document) (keys more : List (List ℕ))
    → IsEditable profile limit s → AllByRecursion IsUtf8 keys → AreApart (map key keys) (map key more)
    → refusal profile limit s (append_table keys) ≡ None → refusal profile limit s (append_element more) ≡ None
    → refusal profile limit (edited_document s (append_table keys)) (append_element more) ≡ None
element_allowed profile limit s [] more fine utf8 apart h g = absurd cc
element_allowed profile limit s (k ∷ ks) [] fine utf8 apart h g = absurd cc
element_allowed profile limit s (k ∷ ks) (l ∷ ls) fine utf8 apart h g =
    let law : IsLawfulEdit profile limit s (append_table (k ∷ ks)) =
    append_table_lawful profile limit s (k ∷ ks) fine utf8 h in
    ap (conflict (marks_of.element_header (l ∷ ls)))
    (said s (header [] (key_with (k ∷ ks)) []) (marks_of.header (k ∷ ks)) law.changed law.is
    (λ r. ap (λ (x : List (List ℕ)). statement_mentions r (marks_of.header x))
    (key_means profile k ks (key_texts profile (k ∷ ks) utf8))))
    ∙ element_goes_past (mentions_in s) fine.obeys k ks l ls (apart_differ (k ∷ ks) (l ∷ ls) apart.0)
    (apart_goes_not (l ∷ ls) (k ∷ ks) apart.1) h g

pub element_after_table : ElementAfterTable
element_after_table profile limit s keys c more d fine h g apart =
    let law : IsLawfulEdit profile limit s (append_table keys) =
    append_table_lawful profile limit s keys fine h.utf8 h.allowed in
    let one : Content = header [] (key_with keys) [] in
    element_again profile limit s (append_table keys) c more d fine law h.is
    (newline_again profile s fine.valid h.closed one)
    (λ e. ends_again profile s fine.valid h.closed one law.reads.valid)
    (element_allowed profile limit s keys more fine h.utf8 apart h.allowed g.allowed) g

-- ---- a table after an element

table_allowed : (profile : Profile) (limit : ℕ) (s : Document) (keys more : List (List ℕ))
    → IsEditable profile limit s → AllByRecursion IsUtf8 keys → AreApart (map key keys) (map key more)
    → refusal profile limit s (append_element keys) ≡ None → refusal profile limit s (append_table more) ≡ None
    → refusal profile limit (edited_document s (append_element keys)) (append_table more) ≡ None
table_allowed profile limit s [] more fine utf8 apart h g = absurd cc
table_allowed profile limit s (k ∷ ks) [] fine utf8 apart h g = absurd cc
table_allowed profile limit s (k ∷ ks) (l ∷ ls) fine utf8 apart h g =
    let law : IsLawfulEdit profile limit s (append_element (k ∷ ks)) =
    append_element_lawful profile limit s (k ∷ ks) fine utf8 h in
    ap (conflict (marks_of.header (l ∷ ls)))
    (said s (element [] (key_with (k ∷ ks)) []) (marks_of.element_header (k ∷ ks)) law.changed law.is
    (λ r. ap (λ (x : List (List ℕ)). statement_mentions r (marks_of.element_header x))
    (key_means profile k ks (key_texts profile (k ∷ ks) utf8))))
    ∙ table_goes_past (mentions_in s) fine.obeys k ks l ls (apart_differ (k ∷ ks) (l ∷ ls) apart.0)
    (apart_goes_not (l ∷ ls) (k ∷ ks) apart.1) (apart_goes_not (k ∷ ks) (l ∷ ls) apart.0) h g

pub table_after_element : TableAfterElement
table_after_element profile limit s keys c more d fine h g apart =
    let law : IsLawfulEdit profile limit s (append_element keys) =
    append_element_lawful profile limit s keys fine h.utf8 h.allowed in
    let one : Content = element [] (key_with keys) [] in
    table_again profile limit s (append_element keys) c more d fine law h.is
    (newline_again profile s fine.valid h.closed one)
    (λ e. ends_again profile s fine.valid h.closed one law.reads.valid)
    (table_allowed profile limit s keys more fine h.utf8 apart h.allowed g.allowed) g
