-- An insert that adds a line to a table which dotted keys make adds the same one right before the bytes that an edit of
-- what is there took: one law for each such edit, joined here.
--
-- Theorem: `still_adds_before`.
use Rattle.std.proofs.Common.{◌≡◌, ℕ, true, List, sym, subst, inl, inr}
use Rattle.std.specs.Prelude.{Bool, false}
use Rattle.keep_types.specs.declared.leaf.Profile.{Profile}
use Rattle.keep_syntax.specs.Tree.{Document, Value}
use Rattle.keep_path.specs.Path.{Part}
use Rattle.keep_edit_spec.specs.AddedLines.{first_new}
use Rattle.keep_edit_spec.specs.DottedLines.{StillAdds}
use Rattle.keep_edit_spec.specs.Edits.{Edit, append_element, append_table, edited_document, insert, remove, rename, set}
use Rattle.keep_edit_spec.specs.InsertKinds.{AddsAs}
use Rattle.keep_edit_spec.specs.Laws.{IsEditable}
use Rattle.keep_edit_spec.specs.Lines.{newline_of}
use Rattle.keep_edit_spec.specs.Runs.{AreApart, IsSeenStill, LeavesAlone, MakesChange, seen}
use Rattle.keep_edit_spec.specs.TextChanges.{TextChange}
use Rattle.keep_edit_spec.specs.declared.line_kind.LineKind.TheVariants.{OfDotted}
use Rattle.keep_edit_spec.proofs.Lists.ApartPaths.{renamed_apart}
use Rattle.keep_edit_spec.proofs.Lists.DottedAfterClear.{dotted_before_clear}
use Rattle.keep_edit_spec.proofs.Lists.DottedAfterRemove.{dotted_before_remove}
use Rattle.keep_edit_spec.proofs.Lists.DottedAfterRename.{dotted_before_rename}
use Rattle.keep_edit_spec.proofs.Lists.DottedAfterSet.{dotted_before_set}
use Rattle.keep_edit_spec.proofs.Lists.DottedAfterTaken.{dotted_before_taken}
use Rattle.keep_edit_spec.proofs.Lists.LineKinds.{seen_still}
use Rattle.keep_edit_spec.proofs.Lists.TakenGone.{table_changed}

-- the edit is of what is there: it adds nothing
abbrev pub is_of_old : Edit → Bool
is_of_old (set path value) = true
is_of_old (rename path name) = true
is_of_old (remove path) = true
is_of_old _ = false

pub still_adds_before : (profile : Profile) (limit : ℕ) (s : Document) (e : Edit) (c : TextChange) (other : List Part)
    (more : Value) (d : TextChange) → IsEditable profile limit s → is_of_old e ≡ true
    → MakesChange profile limit s e c → AddsAs OfDotted profile limit s other more d
    → LeavesAlone (seen s e) (seen s (insert other more)) → c.at ≡ d.at
    → newline_of (edited_document s e) ≡ newline_of s
    → AddsAs OfDotted profile limit (edited_document s e) other more d
    × IsSeenStill s (edited_document s e) (insert other more)
still_adds_before profile limit s e c other more d fine old makes k alone starts same = by e old makes alone same
  where
    there : (now : Document) → StillAdds true profile limit s now other more d
        → AddsAs OfDotted profile limit now other more d × IsSeenStill s now (insert other more)
    there now h = (h.0, seen_still OfDotted profile limit s now other more d d k h.0 h.1)

    by : (f : Edit) → is_of_old f ≡ true → MakesChange profile limit s f c
        → LeavesAlone (seen s f) (seen s (insert other more)) → newline_of (edited_document s f) ≡ newline_of s
        → AddsAs OfDotted profile limit (edited_document s f) other more d
        × IsSeenStill s (edited_document s f) (insert other more)
    by (set path value) is h apart newline =
        there (edited_document s (set path value))
        (dotted_before_set profile limit s path value c other more d fine h k apart starts newline)
    by (rename path name) is h apart newline =
        there (edited_document s (rename path name))
        (dotted_before_rename profile limit s path name c other more d fine h k apart.0
        (renamed_apart path name (first_new s other) apart.0 apart.1) starts newline)
    by (remove path) is (inl h) apart newline =
        there (edited_document s (remove path))
        (dotted_before_remove profile limit s path c other more d fine h k apart starts newline)
    by (remove path) is (inr (inl h)) apart newline =
        there (edited_document s (remove path))
        (dotted_before_clear profile limit s path c other more d fine h k apart starts newline)
    by (remove path) is (inr (inr h)) apart newline =
        there (edited_document s (remove path))
        (dotted_before_taken profile limit s path c other more d fine (inl h) k
        (subst (λ (q : List Part). AreApart q (first_new s other))
        (sym (table_changed profile limit s path c fine h)) apart) starts newline)
    by (insert path value) is h apart newline = absurd cc
    by (append_table keys) is h apart newline = absurd cc
    by (append_element keys) is h apart newline = absurd cc
