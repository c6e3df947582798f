-- A header that is appended to the text is so after other edits at its end that leave it alone.
--
-- It makes its change after one of them, behind what that wrote (`header_after`, by StillMakes): such an edit is a
-- header or an insert, and where it is an insert the first newline of the text is the same before and after
-- (EndTexts), and the header is not that of the insert's table (`in_order`). By induction it does so after all of them.
--
-- Theorem: `end_goes_on`.
use Rattle.std.proofs.Common.{◌≡◌, ℕ, Bool, false, true, [], ◌∷◌, sym, subst, subst₂, arith, inl, List, Option}
use Rattle.std.specs.Prelude.{IsTrue, not}
use Rattle.std.proofs.lemmas.List.Elements.{All-head, All-tail}
use Rattle.keep_types.specs.declared.leaf.Profile.{Profile}
use Rattle.keep_syntax.specs.Tree.{Document}
use Rattle.keep_edit_spec.specs.Edits.{Edit, append_element, append_table, edited_document, insert, remove, rename, set}
use Rattle.keep_edit_spec.specs.EndEdits.{EndEdit, EndGoesOn, IsAtEnd, IsNoSecondHeader, end_change}
use Rattle.keep_edit_spec.specs.FirstNewline.{HasFirst, LeavesFirstAtEnd}
use Rattle.keep_edit_spec.specs.Laws.{IsEditable}
use Rattle.keep_edit_spec.specs.Runs.{ComesInOrder, IsStillPlaced, LeavesAlone}
use Rattle.keep_edit_spec.specs.Runs.{is_header, is_new_after, seen}
use Rattle.keep_edit_spec.specs.TextChanges.{TextChange}
use Rattle.keep_edit_spec.proofs.Lists.EndTexts.{end_again, end_editable, end_puts, header_or_line, leave_rest}
use Rattle.keep_edit_spec.proofs.Lists.EndTexts.{end_first, same_newline}
use Rattle.keep_edit_spec.proofs.Lists.StillMakes.{still_makes}
use Rattle.keep_edit_spec.proofs.Lists.TextsAfter.{PutsChange}

-- the header is no second one of the table of a line that came
in_order : (s : Document) (f : Edit) (d : TextChange) (e : Edit) (c : TextChange) → is_header f ≡ true
    → IsNoSecondHeader f (seen s e) → ComesInOrder s f d e c
in_order s (append_table keys) d (insert path value) c head other = λ own. other
in_order s (append_table keys) d (set path value) c head other = tt
in_order s (append_table keys) d (rename path name) c head other = tt
in_order s (append_table keys) d (remove path) c head other = tt
in_order s (append_table keys) d (append_table more) c head other = tt
in_order s (append_table keys) d (append_element more) c head other = tt
in_order s (append_element keys) d (insert path value) c head other = λ own. other
in_order s (append_element keys) d (set path value) c head other = tt
in_order s (append_element keys) d (rename path name) c head other = tt
in_order s (append_element keys) d (remove path) c head other = tt
in_order s (append_element keys) d (append_table more) c head other = tt
in_order s (append_element keys) d (append_element more) c head other = tt
in_order s (insert path value) d e c head other = absurd cc
in_order s (set path value) d e c head other = absurd cc
in_order s (rename path name) d e c head other = absurd cc
in_order s (remove path) d e c head other = absurd cc

not_new : (b : Bool) → b ≡ true → not b ≡ true → ⊥
not_new true one new = absurd cc
not_new false one new = absurd cc

-- a header is none of another kind than the header before it
after_other : (e f : Edit) → is_header e ≡ true → is_header f ≡ true → IsTrue (is_new_after e f) → ⊥
after_other e (append_table keys) one head new = not_new (is_header e) one new
after_other e (append_element keys) one head new = not_new (is_header e) one new
after_other e (insert path value) one head new = absurd cc
after_other e (set path value) one head new = absurd cc
after_other e (rename path name) one head new = absurd cc
after_other e (remove path) one head new = absurd cc

-- ---- after one of them

module _ (profile : Profile) (limit : ℕ) (s : Document) (u t : EndEdit) (fine : IsEditable profile limit s)
    (before : IsAtEnd profile limit s u) (is : IsAtEnd profile limit s t) (head : is_header t.edit ≡ true)
    (alone : LeavesAlone u.seen t.seen) (other : IsNoSecondHeader t.edit u.seen)
    (line : Option (List ℕ)) (has : HasFirst line s) (leaves : LeavesFirstAtEnd line u.new) where
  abbrev c : TextChange
  c = end_change s u

  abbrev d : TextChange
  d = end_change s t

  puts : PutsChange profile limit s u.edit c
  puts = end_puts profile limit s u fine before

  placed : IsStillPlaced s u.edit c t.edit d
  placed = (
    λ after. (
      same_newline profile limit s u.edit c puts fine line has
          (end_first profile limit s u fine before line has leaves),
      λ no_line. absurd (after_other u.edit t.edit (header_or_line profile limit s u fine before no_line) head after),
    ),
    in_order s t.edit d u.edit c head (subst (IsNoSecondHeader t.edit) (sym before.seen_is) other),
  )

  header_after : IsAtEnd profile limit (edited_document s u.edit) t
  header_after =
      end_again profile limit s u.edit c puts t is
      (still_makes profile limit s u.edit c t.edit d fine before.makes is.makes
      (subst₂ (λ (a b : Edit). LeavesAlone a b) (sym before.seen_is) (sym is.seen_is) alone) (inl (omega arith)) placed)

-- ---- after all of them

pub end_goes_on : EndGoesOn
end_goes_on profile limit s [] t fine h is head alone others line leave = (is, tt)
end_goes_on profile limit s (u ∷ us) t fine h is head alone others line leave =
    let left : LeavesAlone u.seen t.seen = All-head (λ (v : EndEdit). LeavesAlone v.seen t.seen) u us alone in
    let other : IsNoSecondHeader t.edit u.seen =
    All-head (λ (v : EndEdit). IsNoSecondHeader t.edit v.seen) u us others in
    let leaves : LeavesFirstAtEnd line u.new =
    All-head (λ (v : EndEdit). LeavesFirstAtEnd line v.new) u us leave.ends in (
      h.0,
      end_goes_on profile limit (edited_document s u.edit) us t (end_editable profile limit s u fine h.0) h.1
          (header_after profile limit s u t fine h.0 is head left other line leave.has leaves) head
          (All-tail (λ (v : EndEdit). LeavesAlone v.seen t.seen) u us alone)
          (All-tail (λ (v : EndEdit). IsNoSecondHeader t.edit v.seen) u us others)
          line (leave_rest profile limit s u fine h.0 line us leave),
    )
