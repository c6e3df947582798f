-- A rename makes the same change after a remove of another path cleared its line to the comment, beside it.
--
-- The remove's change is from the key to the end of its line (`taken`), so the rename finds nothing in that line
-- (RenameLineGone). Cleared to its comment, the line has no key. So the rename makes the same change as before, at the
-- moved place (LineCleared). No key part in the line names the path of the rename, and what is said then was said
-- before, so the rename is not refused (`renamable_without` of RenameAfterRemove, RenameAllowed).
--
-- Theorems: `in_page_begins`, `rename_after_clear`.
use Rattle.std.proofs.Common.{◌≡◌, ℕ, suc, ◌+◌, List, [], ◌∷◌, length, take, refl, sym, ap, ap₂, subst, length-append}
use Rattle.std.proofs.Common.{arith, Option, None}
use Rattle.keep_types.specs.declared.leaf.Profile.{Profile}
use Rattle.keep_syntax.specs.Tree.{Document, Ended, Line, bom_leaves, ended_leaves, text_of}
use Rattle.keep_path.specs.Path.{Part, strip}
use Rattle.keep_meaning.specs.Marks.{Mention, start}
use Rattle.keep_meaning.specs.Meaning.{line_mentions, lines_mentions, mentions_in}
use Rattle.keep_edit_spec.specs.Changed.{Changed, Place}
use Rattle.keep_edit_spec.specs.ClearedLines.{ClearsLine}
use Rattle.keep_edit_spec.specs.Edits.{change, key_part, nested, rename}
use Rattle.keep_edit_spec.specs.Laws.{IsEditable, IsLawfulEdit}
use Rattle.keep_edit_spec.specs.Lines.{in_document, in_lines, rename_line}
use Rattle.keep_edit_spec.specs.Refusals.{refusal}
use Rattle.keep_edit_spec.specs.RenamedKeys.{RenamesKey}
use Rattle.keep_edit_spec.specs.TextChanges.{IsBeside, TextChange, moved}
use Rattle.keep_edit_spec.specs.Values.{renaming}
use Rattle.keep_edit_spec.proofs.EditLaws.{rename_lawful}
use Rattle.keep_edit_spec.proofs.Common.LineTexts.{rename_line-is}
use Rattle.keep_edit_spec.proofs.Common.Texts.{renaming-is}
use Rattle.keep_edit_spec.proofs.Lists.ClearedKinds.{RenameAfterClear}
use Rattle.keep_edit_spec.proofs.Lists.LineCleared as gone
use Rattle.keep_edit_spec.proofs.Lists.LineCleared.{in_page}
use Rattle.keep_edit_spec.proofs.Lists.Places.{width, width_more}
use Rattle.keep_edit_spec.proofs.Lists.RemovedPlaces.{IsCutAt, width_after}
use Rattle.keep_edit_spec.proofs.Lists.RenameAfterRemove.{renamable_without}
use Rattle.keep_edit_spec.proofs.Lists.RenameAllowed.{unrefused}
use Rattle.keep_edit_spec.proofs.Lists.RenameLineGone.{IsTaken, misses, unmarked}
use Rattle.keep_edit_spec.proofs.Lists.SetPlaces.{Stays, either_stays}
use Rattle.keep_edit_spec.proofs.Rename.RenameWhole.{IsRenamable, renamable}

-- where the change of the line after those lines begins
pub in_page_begins : (first : List Ended) (e : Ended) (more : List Ended) (last : Line) (d : Changed Line)
    → length (in_page first e more last d).before ≡ width first + length d.before
in_page_begins [] e more last d = omega arith
in_page_begins (x ∷ first) e more last d =
    omega (
      arith,
      length-append (text_of (ended_leaves x)) (in_page first e more last d).before,
      width_more x first,
      in_page_begins first e more last d,
    )

module _ (profile : Profile) (limit : ℕ) (s : Document) (path : List Part) (c : TextChange) (other : List Part)
    (key : List ℕ) (d : TextChange) (fine : IsEditable profile limit s) (h : ClearsLine profile limit s path c)
    (k : RenamesKey profile limit s other key d) (apart : strip path other ≡ None) (side : IsBeside c d) where
  abbrev now : Document
  now = gone.now profile limit s path c fine h

  abbrev t : IsCutAt h.number s.ended
  t = gone.c profile limit s path c fine h

  abbrev earlier : List Mention
  earlier = lines_mentions start (gone.before profile limit s path c fine h)

  abbrev here : List Mention
  here = line_mentions (gone.r profile limit s path c fine h) t.here.line

  abbrev later : List Mention
  later = lines_mentions (gone.r profile limit s path c fine h) (gone.after profile limit s path c fine h)

  taken : IsTaken profile limit s path h.number fine h.own h.closed c
  taken =
      let bom : List ℕ = text_of (bom_leaves s.bom) in
      let bare : Changed Line = gone.bare profile limit s path c fine h in
      let begins = in_page_begins t.first t.here t.more s.last bare in
      record {
        from = omega (
          arith,
          h.is.start,
          ap (λ (p : Place). p.start) (gone.place_is profile limit s path c fine h),
          length-append bom (in_page t.first t.here t.more s.last bare).before,
          begins,
        );
        to = omega (
          arith,
          h.ends,
          ap₂ (λ (n : ℕ) (es : List Ended). width (take (suc n) es)) t.number t.was,
          width_after t.first t.here t.more,
        );
      }

  missing : rename_line (key_part key) other (gone.r profile limit s path c fine h) t.here.line ≡ None
  missing = misses profile limit s path h.number fine h.own h.closed c taken other key d k apart side

  allowed_now : refusal profile limit now (rename other key) ≡ None
  allowed_now =
      let renamable_now : IsRenamable other key (mentions_in now) =
      renamable_without other key (mentions_in s) (mentions_in now) earlier here later
      (gone.said_was profile limit s path c fine h) (gone.said_now profile limit s path c fine h)
      (unmarked profile limit s path h.number fine h.own h.closed c taken other key d k apart side)
      (renamable profile limit s other key k.allowed) in
      unrefused profile limit other key (mentions_in now) renamable_now

  abbrev in_keys : Document → Option (Changed Document)
  in_keys u = in_document u (in_lines (rename_line (key_part key) other) start u.ended u.last)

  stays : Stays (gone.x profile limit s path c fine h) (change s (rename other key)) (change now (rename other key))
  stays =
      either_stays (gone.x profile limit s path c fine h) (in_keys s) (in_keys now)
      (nested (renaming (key_part key)) other s) (nested (renaming (key_part key)) other now)
      (gone.document_cleared profile limit s path c fine h (rename_line (key_part key) other)
      (λ r l. rename_line-is (key_part key) other r l) missing refl)
      (gone.nested_cleared profile limit s path c fine h (renaming (key_part key)) (renaming-is (key_part key)) other
      apart)

  renames_now : RenamesKey profile limit now other key (moved c d)
  renames_now =
      let law : IsLawfulEdit profile limit s (rename other key) =
      rename_lawful profile limit s other key fine k.utf8 k.allowed in
      record {
        utf8 = k.utf8;
        allowed = allowed_now;
        some = k.some;
        is =
            gone.place_cleared profile limit s path c fine h d (rename other key) law.changed law.is k.is k.some stays;
      }

pub rename_after_clear : RenameAfterClear
rename_after_clear profile limit s path c other key d fine h k apart differ side =
    subst (λ (t : Document). RenamesKey profile limit t other key (moved c d))
    (sym (gone.is_now profile limit s path c fine h))
    (renames_now profile limit s path c other key d fine h k apart.0 side)
