-- A header appended is the last statement of the new document.
--
-- Theorems: `append_table_adds_statement` and `append_element_adds_statement`.
use Rattle.std.proofs.Common.{◌≡◌, ℕ, suc, ◌≤◌, Bool, true, false, cond, List, [], ◌∷◌, ◌++◌, length, map, take, drop}
use Rattle.std.proofs.Common.{refl, sym, ap, ◌∙◌, arith, Option}
use Rattle.std.specs.List.{cons_option}
use Rattle.std.proofs.lemmas.List.{append-nil, take-append-drop}
use Rattle.keep_syntax.specs.Tree.{Content, blank, element, header, Line, Ended, Document}
use Rattle.keep_meaning.specs.Counts.{statements_in}
use Rattle.keep_meaning.specs.Marks as marks
use Rattle.keep_meaning.specs.Marks.{Statement}
use Rattle.keep_meaning.specs.Meaning.{line_of, lines, statement_of}
use Rattle.keep_edit_spec.specs.AppendedStatements.{AppendElementAddsStatement, AppendTableAddsStatement}
use Rattle.keep_edit_spec.specs.Changed.{Changed}
use Rattle.keep_edit_spec.specs.Edits.{append, at_line, changed_or_same, key_with}
use Rattle.keep_edit_spec.specs.Lines.{is_empty, new_line, newline_of}
use Rattle.keep_edit_spec.proofs.Append.AppendLaw.{blank_by, drop_all, drop_last}
use Rattle.keep_edit_spec.proofs.Common.LineStatements.{put_statements, statements-append, statements_of}
use Rattle.keep_edit_spec.proofs.Common.NewLines.{key_means}
use Rattle.keep_edit_spec.proofs.Rename.KeyTexts.{key_texts}

-- ---- lines put where only lines without a statement come after

put_end : (s : Document) (n : ℕ) (contents : List Content) → n ≤ suc (length s.ended)
    → statements_of (drop n (lines s)) ≡ []
    → statements_in (changed_or_same s (at_line s n contents)).to ≡ statements_in s
    ++ statements_of (map line_of (map (new_line (newline_of s)) contents))
put_end s n contents few silent =
    let ls : List Line = lines s in
    let new : List Line = map line_of (map (new_line (newline_of s)) contents) in
    let after : statements_of (new ++ drop n ls) ≡ statements_of new =
    statements-append new (drop n ls) ∙ ap (λ (l : List Statement). statements_of new ++ l) silent
    ∙ append-nil (statements_of new) in
    let same : statements_in s ≡ statements_of (take n ls) =
    ap statements_of (sym (take-append-drop n ls)) ∙ statements-append (take n ls) (drop n ls)
    ∙ ap (λ (l : List Statement). statements_of (take n ls) ++ l) silent ∙ append-nil (statements_of (take n ls)) in
    put_statements n (map (new_line (newline_of s)) contents) (newline_of s) s.ended s.last few
    ∙ statements-append (take n ls) (new ++ drop n ls)
    ∙ ap (λ (l : List Statement). statements_of (take n ls) ++ l) after
    ∙ ap (λ (l : List Statement). l ++ statements_of new) (sym same)

empty_statements : (l : Line) → is_empty l ≡ true → statements_of (l ∷ []) ≡ []
empty_statements l h =
    ap (λ (c : Content). cons_option (statement_of c) []) (blank_by l.before l.after l.comment l.content h)

-- ---- the change of an append

abbrev Says : Document → Content → Option (Changed Document) → Type 0
Says s c o = statements_in (changed_or_same s o).to ≡ statements_in s ++ cons_option (statement_of c) []

append_when : (s : Document) (c : Content) (es : List Ended) → s.ended ≡ es → (b : Bool) → is_empty s.last ≡ b
    → Says s c (elim es [
      | [] ↦ cond b (at_line s 0 (c ∷ [])) (at_line s 1 (blank ∷ c ∷ []))
      | e ∷ es ↦
          cond b (at_line s (length s.ended) (blank ∷ c ∷ [])) (at_line s (suc (length s.ended)) (blank ∷ c ∷ []))
    ])
append_when s c [] e true h =
    put_end s 0 (c ∷ []) (omega arith)
    (ap (λ (x : List Ended). statements_of (map line_of x ++ s.last ∷ [])) e ∙ empty_statements s.last h)
append_when s c [] e false h =
    put_end s 1 (blank ∷ c ∷ []) (omega arith)
    (ap (λ (x : List Ended). statements_of (drop 1 (map line_of x ++ s.last ∷ []))) e)
append_when s c (x ∷ xs) e true h =
    put_end s (length s.ended) (blank ∷ c ∷ []) (omega arith)
    (ap statements_of (drop_last s.ended s.last) ∙ empty_statements s.last h)
append_when s c (x ∷ xs) e false h =
    put_end s (suc (length s.ended)) (blank ∷ c ∷ []) (omega arith) (ap statements_of (drop_all s.ended s.last))

appended : (s : Document) (c : Content) → Says s c (append s c)
appended s c = append_when s c s.ended refl (is_empty s.last) refl

-- ---- the laws

pub append_table_adds_statement : AppendTableAddsStatement
append_table_adds_statement profile limit s [] utf8 allowed = absurd cc
append_table_adds_statement profile limit s (k ∷ ks) utf8 allowed =
    appended s (header [] (key_with (k ∷ ks)) [])
    ∙ ap (λ (l : List (List ℕ)). statements_in s ++ marks.header l ∷ [])
    (key_means profile k ks (key_texts profile (k ∷ ks) utf8))

pub append_element_adds_statement : AppendElementAddsStatement
append_element_adds_statement profile limit s [] utf8 allowed = absurd cc
append_element_adds_statement profile limit s (k ∷ ks) utf8 allowed =
    appended s (element [] (key_with (k ∷ ks)) [])
    ∙ ap (λ (l : List (List ℕ)). statements_in s ++ marks.element_header l ∷ [])
    (key_means profile k ks (key_texts profile (k ∷ ks) utf8))
