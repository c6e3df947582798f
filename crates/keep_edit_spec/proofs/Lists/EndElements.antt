-- The remove of an element or a table with its header, and edits at the end of the text: either may come first.
--
-- The remove takes no byte right before the end, so what it takes lies before what another writes there (`before`). So
-- each of the two makes its change after the other (StillWithout): the remove the same one (`removed_still`), and the
-- edit at the end one at the end that the text has then (`end_still`). Both orders make one document (EndTexts). After
-- the first edit at the end the text is longer and its first newline is the same, so the others come by induction.
--
-- Theorem: `end_comes_after_element`.
use Rattle.std.proofs.Common.{◌≡◌, ◌≢◌, ℕ, ◌+◌, ◌<◌, List, [], ◌∷◌, length, refl, sym, ap, subst, ◌∙◌, arith, inl, inr}
use Rattle.std.proofs.Common.{Option}
use Rattle.std.proofs.lemmas.Bool.{lt-ltb}
use Rattle.std.proofs.lemmas.List.Elements.{All-head, All-tail}
use Rattle.keep_types.specs.declared.leaf.Profile.{Profile}
use Rattle.keep_syntax.specs.Tree.{Document, text}
use Rattle.keep_path.specs.Path.{Part}
use Rattle.keep_edit_spec.specs.Edits.{Edit, append_element, append_table, edited_document, insert, remove, rename, set}
use Rattle.keep_edit_spec.specs.ElementRuns.{IsElsewhere, changed_path}
use Rattle.keep_edit_spec.specs.EndEdits.{AreAtEnd, EndComesAfterElement, EndEdit, IsAtEnd, IsRemovedBefore}
use Rattle.keep_edit_spec.specs.EndEdits.{document_with, end_change}
use Rattle.keep_edit_spec.specs.FirstNewline.{HasFirst, LeavesFirstAtEnd}
use Rattle.keep_edit_spec.specs.Laws.{IsEditable}
use Rattle.keep_edit_spec.specs.RemovedHeaders.{RemovesHeader}
use Rattle.keep_edit_spec.specs.Runs.{ComesInOrder, IsStillPlaced, seen}
use Rattle.keep_edit_spec.specs.TextChanges.{TextChange, change_at, moved_by}
use Rattle.keep_edit_spec.proofs.Lists.ElementRunLaws.{header_puts}
use Rattle.keep_edit_spec.proofs.Lists.EndTexts.{end_again, end_editable, end_later, leave_rest, same_made}
use Rattle.keep_edit_spec.proofs.Lists.EndTexts.{end_first, same_newline, then_editable}
use Rattle.keep_edit_spec.proofs.Lists.HeaderRunLaws.{header_within}
use Rattle.keep_edit_spec.proofs.Lists.StillWithout.{still_makes_without, still_removes_after}
use Rattle.keep_edit_spec.proofs.Lists.TextsAfter.{PutsChange}

-- ---- one edit at the end

module _ (profile : Profile) (limit : ℕ) (s : Document) (t : EndEdit) (path : List Part) (c : TextChange)
    (fine : IsEditable profile limit s) (end : IsAtEnd profile limit s t) (h : RemovesHeader profile limit s path c)
    (elsewhere : IsElsewhere (changed_path path) t.seen) (clear : c.at + c.size ≢ length (text s)) where
  -- after the edit at the end
  abbrev now : Document
  now = edited_document s t.edit

  -- after the remove
  abbrev then : Document
  then = edited_document s (remove path)

  abbrev d : TextChange
  d = end_change s t

  puts : PutsChange profile limit s (remove path) c
  puts = header_puts profile limit s path c fine h

  before : c.at + c.size < length (text s)
  before = omega (arith, puts.within, clear)

  far : IsElsewhere (changed_path path) (seen s t.edit)
  far = subst (IsElsewhere (changed_path path)) (sym end.seen_is) elsewhere

  -- the remove after the edit at the end
  removed_still : RemovesHeader profile limit now path c
  removed_still =
      subst (λ (at : ℕ). RemovesHeader profile limit now path (change_at at c.size c.new)) unmoved
      (still_removes_after profile limit s t.edit d path c fine end.makes h far (inr (less, omega (arith, before))))
    where
      less : c.at < length (text s)
      less = omega (arith, before)

      unmoved : moved_by d c.at ≡ c.at
      unmoved = rw (lt-ltb c.at (length (text s)) less) refl

  -- the edit at the end after the remove
  module _ (line : Option (List ℕ)) (has : HasFirst line s) (still : HasFirst line then) where
    placed : IsStillPlaced s (remove path) c t.edit d
    placed = (
      λ new. (same_newline profile limit s (remove path) c puts fine line has still, λ other. inl clear),
      order t.edit,
    )
      where
        order : (f : Edit) → ComesInOrder s f d (remove path) c
        order (insert other more) = tt
        order (remove other) = tt
        order (set other more) = tt
        order (rename other name) = tt
        order (append_table keys) = tt
        order (append_element keys) = tt

    end_still : IsAtEnd profile limit then t
    end_still =
        end_again profile limit s (remove path) c puts t end
        (still_makes_without profile limit s path c t.edit d fine h end.makes far (inl (omega (arith, before))) placed)

    same : edited_document then t.edit ≡ edited_document now (remove path)
    same =
        same_made profile limit s (remove path) c puts t end fine end_still
        (header_puts profile limit now path c (end_editable profile limit s t fine end) removed_still)

    -- the first newline is known after both
    first_still : LeavesFirstAtEnd line t.new → HasFirst line (edited_document now (remove path))
    first_still leaves =
        subst (HasFirst line) same
        (end_first profile limit then t (then_editable profile limit s (remove path) c puts) end_still line still
        leaves)

    -- the others, if the remove comes before them
    with_rest : (ts : List EndEdit) → IsRemovedBefore profile limit now ts path c
        → IsRemovedBefore profile limit s (t ∷ ts) path c
    with_rest ts rest = record {
      makes = rest.makes;
      ends = (end_still, subst (λ (x : Document). AreAtEnd profile limit x ts) (sym same) rest.ends);
      same = rest.same ∙ ap (λ (x : Document). document_with x ts) (sym same);
    }

-- ---- all of them

pub end_comes_after_element : EndComesAfterElement
end_comes_after_element profile limit s [] path c fine ends h elsewhere line all still clear =
    record { makes = h; ends = tt; same = refl }
end_comes_after_element profile limit s (t ∷ ts) path c fine (end, more) h elsewhere line all still clear =
    let now : Document = edited_document s t.edit in
    let one : IsElsewhere (changed_path path) t.seen =
    All-head (λ (u : EndEdit). IsElsewhere (changed_path path) u.seen) t ts elsewhere in
    let later : c.at + c.size < length (text now) =
    end_later profile limit s t fine end (c.at + c.size) (header_within profile limit s path c h) in
    with_rest profile limit s t path c fine end h one clear line all.has still ts
    (end_comes_after_element profile limit now ts path c (end_editable profile limit s t fine end) more
    (removed_still profile limit s t path c fine end h one clear)
    (All-tail (λ (u : EndEdit). IsElsewhere (changed_path path) u.seen) t ts elsewhere)
    line (leave_rest profile limit s t fine end line ts all)
    (first_still profile limit s t path c fine end h one clear line all.has still
    (All-head (λ (u : EndEdit). LeavesFirstAtEnd line u.new) t ts all.ends))
    (λ same. omega (arith, same, later)))
