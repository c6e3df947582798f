-- A rename makes the same change after an insert that brought the header of its table, if its own path and the path
-- that it leads to are apart from that of the first new key.
--
-- What is said of these two paths stays, so the rename is not refused (RenameAllowed). It finds nothing in the new
-- lines, neither a part of a key nor something in the value, so it finds the same key part, at the moved place
-- (BroughtFound).
--
-- Theorem: `rename_after_brought`.
use Rattle.std.proofs.Common.{ℕ, List, refl, sym, ap, ◌∙◌, Option}
use Rattle.keep_types.specs.declared.leaf.Profile.{Profile}
use Rattle.keep_syntax.specs.Tree.{Document, Value, Written}
use Rattle.keep_path.specs.Path.{Part, beside}
use Rattle.keep_meaning.specs.Marks.{start}
use Rattle.keep_meaning.specs.Meaning.{mentions_in}
use Rattle.keep_edit_spec.specs.AddedLines.{first_new}
use Rattle.keep_edit_spec.specs.BroughtHeaders.{BringsHeader}
use Rattle.keep_edit_spec.specs.Changed.{Changed}
use Rattle.keep_edit_spec.specs.Edits.{change, edited_document, insert, key_part, nested, rename}
use Rattle.keep_edit_spec.specs.Laws.{IsEditable, IsLawfulEdit}
use Rattle.keep_edit_spec.specs.Lines.{in_document, in_lines, rename_line}
use Rattle.keep_edit_spec.specs.RenamedKeys.{RenamesKey}
use Rattle.keep_edit_spec.specs.Runs.{AreApart}
use Rattle.keep_edit_spec.specs.TextChanges.{TextChange, moved}
use Rattle.keep_edit_spec.specs.Values.{renaming}
use Rattle.keep_edit_spec.proofs.EditLaws.{rename_lawful}
use Rattle.keep_edit_spec.proofs.Common.LineTexts.{rename_line-is}
use Rattle.keep_edit_spec.proofs.Common.Texts.{renaming-is}
use Rattle.keep_edit_spec.proofs.Lists.BroughtFound.{found_stays, header_none, kinds_stay, made, made_place}
use Rattle.keep_edit_spec.proofs.Lists.BroughtFound.{rename_none, still_nested}
use Rattle.keep_edit_spec.proofs.Lists.BroughtKinds.{RenameAfterBrought}
use Rattle.keep_edit_spec.proofs.Lists.BroughtSaid.{node_stays}
use Rattle.keep_edit_spec.proofs.Lists.RenameAllowed.{mark_kinds, role_count, unrefused}
use Rattle.keep_edit_spec.proofs.Lists.SetPlaces.{Stays, either_stays, still_place}
use Rattle.keep_edit_spec.proofs.Rename.RenameWhole.{IsRenamable, renamable}

module _ (profile : Profile) (limit : ℕ) (s : Document) (path : List Part) (value : Value) (c : TextChange)
    (other : List Part) (text : List ℕ) (d : TextChange) (fine : IsEditable profile limit s)
    (h : BringsHeader profile limit s path value c) (k : RenamesKey profile limit s other text d)
    (apart : AreApart (first_new s path) other) (apart_new : AreApart (first_new s path) (beside other text)) where
  abbrev now : Document
  now = edited_document s (insert path value)

  renamable_now : IsRenamable other text (mentions_in now)
  renamable_now =
      let g : IsRenamable other text (mentions_in s) = renamable profile limit s other text k.allowed in
      record {
        node = node_stays profile limit s path value c fine h other apart.0 ∙ g.node;
        below_root = g.below_root;
        by_key = g.by_key;
        fresh = node_stays profile limit s path value c fine h (beside other text) apart_new.0 ∙ g.fresh;
        marks = mark_kinds other (mentions_in now)
            ∙ ap role_count (kinds_stay profile limit s path value c fine h other apart)
            ∙ sym (mark_kinds other (mentions_in s)) ∙ g.marks;
      }

  abbrev new : Written
  new = key_part text

  abbrev in_keys : Document → Option (Changed Document)
  in_keys t = in_document t (in_lines (rename_line new other) start t.ended t.last)

  abbrev first : Changed Document
  first = made profile limit s path value c fine h

  rename_stays : Stays first (change s (rename other text)) (change now (rename other text))
  rename_stays =
      either_stays first (in_keys s) (in_keys now) (nested (renaming new) other s) (nested (renaming new) other now)
      (found_stays profile limit s path value c fine h (rename_line new other) (λ q l. rename_line-is new other q l)
      (λ before after comment. ((λ q. refl), λ x y key. ((λ t a b. refl), λ t a b. refl)))
      (header_none profile limit s path value c fine h new other apart)
      (rename_none profile limit s path value c fine h new other apart))
      (still_nested profile limit s path value c fine h (renaming new) (renaming-is new) other apart.0)

  law : IsLawfulEdit profile limit s (rename other text)
  law = rename_lawful profile limit s other text fine k.utf8 k.allowed

  again : RenamesKey profile limit now other text (moved c d)
  again = record {
    utf8 = k.utf8;
    allowed = unrefused profile limit other text (mentions_in now) renamable_now;
    some = k.some;
    is = still_place c d s now (rename other text) first law.changed
        (made_place profile limit s path value c fine h) k.is k.some law.is rename_stays;
  }

pub rename_after_brought : RenameAfterBrought
rename_after_brought profile limit s path value c other text d fine h k apart apart_new side =
    again profile limit s path value c other text d fine h k apart apart_new
