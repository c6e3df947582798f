-- A header that may come at the end of a text may still come after a header of the other kind that came there, if the
-- keys of neither are the first ones of the other's.
--
-- The marks of the first header on its way and at its own path have other keys than the second header's own path, so
-- none of them is met there (`last_free`). On the second header's way it is as for two headers of one kind (`goes_on`
-- of HeaderApart).
--
-- Theorems: `element_goes_past`, `table_goes_past`.
use Rattle.std.proofs.Common.{◌≡◌, ℕ, false, List, [], ◌∷◌, ◌++◌, refl, sym, ap, subst, ◌∙◌, None}
use Rattle.std.specs.Option.{option_map}
use Rattle.std.proofs.lemmas.List.{append-nil}
use Rattle.keep_types.specs.declared.role.Role.{Role}
use Rattle.keep_types.specs.declared.role.Role.TheVariants.{Define, Element}
use Rattle.keep_path.specs.Path.{Part, index}
use Rattle.keep_meaning.specs.Marks as marks_of
use Rattle.keep_meaning.specs.Marks.{Mention, begun, define, element as kinds_element, elements_of, header_path, marks}
use Rattle.keep_meaning.specs.Rules.{Mark, ObeysRules}
use Rattle.keep_edit_spec.specs.declared.fault.EditFault.TheVariants as fault
use Rattle.keep_edit_spec.specs.Headers.{header_conflict, is_refused}
use Rattle.keep_edit_spec.specs.Look.{keys_in}
use Rattle.keep_edit_spec.specs.Refusals.{conflict, tables_in}
use Rattle.keep_edit_spec.proofs.Append.AppendTable.{no_conflict}
use Rattle.keep_edit_spec.proofs.Append.HeaderConflict.{element_met, table_met}
use Rattle.keep_edit_spec.proofs.Append.HeaderMarks.{lets_pass}
use Rattle.keep_edit_spec.proofs.Insert.HeaderPrefixes.{path_keys}
use Rattle.keep_edit_spec.proofs.Lists.HeaderApart.{GoesNotOn, goes_on, marks_with, no_reason, onward_element}
use Rattle.keep_edit_spec.proofs.Lists.HeaderApart.{onward_table, own_marks, passes_own, tables_with, way_other}
use Rattle.keep_edit_spec.proofs.Lists.HeaderApart.{with_statement}

module _ (ms : List Mention) (obeys : ObeysRules (marks ms)) (k : List ℕ) (ks : List (List ℕ)) (l : List ℕ)
    (ls : List (List ℕ)) (differ : k ∷ ks ≡ l ∷ ls → ⊥) (far : GoesNotOn (l ∷ ls) (k ∷ ks)) where
  abbrev tables : List (List Part)
  tables = tables_in ms

  -- At the second header's own path there is no mark of the first.
  last_free : (own role : Role)
      → is_refused (own_marks tables (k ∷ ks) own) role (header_path tables [] (l ∷ ls)) ≡ false
  last_free own role =
      let path : List Part = header_path tables [] (l ∷ ls) in
      passes_own tables (k ∷ ks) own role path
      (way_other tables role path [] (k ∷ ks) (k ∷ ks) refl
      (subst (λ (x : List (List ℕ)). GoesNotOn x (k ∷ ks)) (sym (path_keys tables [] l ls)) far))
      (λ e. absurd (differ (sym (path_keys tables [] k ks) ∙ ap keys_in e ∙ path_keys tables [] l ls)))

  -- an element after a table
  pub element_goes_past : conflict (marks_of.header (k ∷ ks)) ms ≡ None
      → conflict (marks_of.element_header (l ∷ ls)) ms ≡ None
      → conflict (marks_of.element_header (l ∷ ls)) (with_statement ms (marks_of.header (k ∷ ks))) ≡ None
  element_goes_past first other =
      let now : List Mention = with_statement ms (marks_of.header (k ∷ ks)) in
      let top : Mention = record { path = header_path tables [] (k ∷ ks); kind = define } in
      let free : header_conflict (marks ms) tables [] (l ∷ ls) Element ≡ None =
      sym (element_met ms (lets_pass ms obeys) l ls) ∙ no_reason _ other in
      let same : tables_in now ≡ tables = tables_with ms (k ∷ ks) (top ∷ []) ∙ append-nil tables in
      ap (option_map fault.Conflict)
      (element_met now (lets_pass now (no_conflict (marks_of.header (k ∷ ks)) ms obeys first)) l ls
      ∙ ap (λ (m : List Mark). header_conflict m (tables_in now) [] (l ∷ ls) Element)
      (marks_with ms (k ∷ ks) Define (top ∷ []) refl)
      ∙ goes_on (marks ms) (own_marks tables (k ∷ ks) Define) tables (tables_in now) Element (l ∷ ls)
      (onward_table tables (tables_in now) k ks (l ∷ ls) same) [] l ls refl (last_free Define Element) free)

  -- a table after an element
  pub table_goes_past : GoesNotOn (k ∷ ks) (l ∷ ls) → conflict (marks_of.element_header (k ∷ ks)) ms ≡ None
      → conflict (marks_of.header (l ∷ ls)) ms ≡ None
      → conflict (marks_of.header (l ∷ ls)) (with_statement ms (marks_of.element_header (k ∷ ks))) ≡ None
  table_goes_past apart first other =
      let now : List Mention = with_statement ms (marks_of.element_header (k ∷ ks)) in
      let own : List Part = header_path tables [] (k ∷ ks) in
      let top : List Mention =
      record { path = own; kind = kinds_element }
      ∷ record { path = own ++ index (elements_of own tables) ∷ []; kind = begun } ∷ [] in
      let free : header_conflict (marks ms) tables [] (l ∷ ls) Define ≡ None =
      sym (table_met ms (lets_pass ms obeys) l ls) ∙ no_reason _ other in
      let more : tables_in now ≡ tables ++ own ∷ [] = tables_with ms (k ∷ ks) top in
      ap (option_map fault.Conflict)
      (table_met now (lets_pass now (no_conflict (marks_of.element_header (k ∷ ks)) ms obeys first)) l ls
      ∙ ap (λ (m : List Mark). header_conflict m (tables_in now) [] (l ∷ ls) Define)
      (marks_with ms (k ∷ ks) Element top refl)
      ∙ goes_on (marks ms) (own_marks tables (k ∷ ks) Element) tables (tables_in now) Define (l ∷ ls)
      (onward_element tables (tables_in now) k ks (l ∷ ls) more apart) [] l ls refl (last_free Element Define) free)
