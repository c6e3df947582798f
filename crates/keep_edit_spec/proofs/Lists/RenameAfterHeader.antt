-- A rename makes the same change after a header came at the end of the text, if its keys lead neither to the rename's
-- path nor to the one with the new key.
--
-- The header says nothing of the two paths (HeaderSays), so the rename is not refused, as before (`renamable_after`).
-- It finds its key part in the lines before the header, since none of that leads to its path, so its change is the same
-- (HeaderLines).
--
-- Theorems: `rename_after_table`, `rename_after_element`.
use Rattle.std.proofs.Common.{◌≡◌, ℕ, List, [], ◌++◌, refl, sym, ap, ◌∙◌, None}
use Rattle.std.specs.Prelude.{position}
use Rattle.keep_types.specs.declared.leaf.Profile.{Profile}
use Rattle.keep_syntax.specs.Tree.{Written, Content, Document, Line, element, header}
use Rattle.keep_path.specs.Path.{Part, beside, same_path}
use Rattle.keep_meaning.specs.Marks.{Mention, Reading, start}
use Rattle.keep_meaning.specs.Meaning.{mentions_in}
use Rattle.keep_meaning.specs.Nodes.{is_node, kinds_at}
use Rattle.keep_edit_spec.specs.Edits.{change, key_part, key_with, nested, rename}
use Rattle.keep_edit_spec.specs.Laws.{IsEditable, IsLawfulEdit}
use Rattle.keep_edit_spec.specs.Lines.{in_document, in_line, in_lines, part_paths, plain_line, rename_line}
use Rattle.keep_edit_spec.specs.Runs.{PassesBy}
use Rattle.keep_edit_spec.proofs.Lists.TwoKinds.{RenameAfterElement, RenameAfterTable}
use Rattle.keep_edit_spec.specs.Refusals.{refusal_by}
use Rattle.keep_edit_spec.specs.RenamedKeys.{RenamesKey}
use Rattle.keep_edit_spec.specs.TextChanges.{TextChange, moved}
use Rattle.keep_edit_spec.specs.Values.{renaming}
use Rattle.keep_edit_spec.proofs.EditLaws.{rename_lawful}
use Rattle.keep_edit_spec.proofs.Common.LineTexts.{in_line-is, rename_line-is}
use Rattle.keep_edit_spec.proofs.Common.Runs.{AllOf}
use Rattle.keep_edit_spec.proofs.Common.Texts.{renaming-is}
use Rattle.keep_edit_spec.proofs.Lists.HeaderLines.{FindsNothing, headed, lines_stay}
use Rattle.keep_edit_spec.proofs.Lists.HeaderComes.{HeaderComes, after_header, element_comes, table_comes, values_pass}
use Rattle.keep_edit_spec.proofs.Lists.HeaderSays.{IsOfHeader, kinds_same}
use Rattle.keep_edit_spec.proofs.Lists.RenameAllowed.{mark_kinds, role_count, unrefused}
use Rattle.keep_edit_spec.proofs.Lists.SaidOfPrefixes.{node_kinds, node_of}
use Rattle.keep_edit_spec.proofs.Lists.SetPlaces.{Stays, either_stays, still_place}
use Rattle.keep_edit_spec.proofs.Rename.RenameWhole.{IsRenamable, renamable}

-- ---- it is not refused

renamable_after : (keys : List (List ℕ)) (path : List Part) (text : List ℕ) (ms own : List Mention)
    → PassesBy keys path → PassesBy keys (beside path text) → AllOf (IsOfHeader keys) own
    → IsRenamable path text ms → IsRenamable path text (ms ++ own)
renamable_after keys path text ms own clear free of_header h =
    let same : kinds_at path (ms ++ own) ≡ kinds_at path ms = kinds_same keys path ms own clear of_header in
    record {
      node = node_same path clear ∙ h.node;
      below_root = h.below_root;
      by_key = h.by_key;
      fresh = node_same (beside path text) free ∙ h.fresh;
      marks = mark_kinds path (ms ++ own) ∙ ap role_count same ∙ sym (mark_kinds path ms) ∙ h.marks;
    }
  where
    node_same : (q : List Part) → PassesBy keys q → is_node q (ms ++ own) ≡ is_node q ms
    node_same q passes =
        node_kinds q (ms ++ own) ∙ ap (node_of q) (kinds_same keys q ms own passes of_header) ∙ sym (node_kinds q ms)

-- ---- its change

pub unnamed : (new : Written) (path : List Part) (r : Reading) (l : Line)
    → position (same_path path) (part_paths r l.content) ≡ None → rename_line new path r l ≡ None
unnamed new path r l e = rw (e, rename_line) refl

parts_pass : (s : Document) (keys : List (List ℕ)) (c : TextChange) (content : Content)
    → HeaderComes s keys c content → (new : Written) (path : List Part) → PassesBy keys path
    → FindsNothing (rename_line new path) content
parts_pass s keys c content h new path clear = record {
  blanks = λ r l e. unnamed new path r l (ap (λ (x : Content). position (same_path path) (part_paths r x)) e);
  there = λ r. unnamed new path r (plain_line content) (h.no_part r path clear);
}

rename_after_header : (profile : Profile) (limit : ℕ) (s : Document) (keys : List (List ℕ)) (c : TextChange)
    (content : Content) (other : List Part) (text : List ℕ) (d : TextChange)
    → IsEditable profile limit s → HeaderComes s keys c content → RenamesKey profile limit s other text d
    → PassesBy keys other → PassesBy keys (beside other text)
    → RenamesKey profile limit (headed s content).to other text (moved c d)
rename_after_header profile limit s keys c content other text d fine h g clear free =
    let law : IsLawfulEdit profile limit s (rename other text) =
    rename_lawful profile limit s other text fine g.utf8 g.allowed in
    let to : Document = (headed s content).to in
    let new : Written = key_part text in
    let stays : Stays (headed s content) (change s (rename other text)) (change to (rename other text)) =
    either_stays (headed s content) (in_document s (in_lines (rename_line new other) start s.ended s.last))
    (in_document to (in_lines (rename_line new other) start to.ended to.last)) (nested (renaming new) other s)
    (nested (renaming new) other to)
    (lines_stay s content h.empty (rename_line new other) (λ r l. rename_line-is new other r l)
    (parts_pass s keys c content h new other clear))
    (lines_stay s content h.empty (in_line (renaming new) other)
    (λ r l. in_line-is (renaming new) (renaming-is new) other r l)
    (values_pass s keys c content h (renaming new) other)) in
    record {
      utf8 = g.utf8;
      allowed = ap (λ (ms : List Mention). refusal_by profile limit ms (rename other text)) h.says
          ∙ unrefused profile limit other text (mentions_in s ++ h.own)
          (renamable_after keys other text (mentions_in s) h.own clear free h.of_header
          (renamable profile limit s other text g.allowed));
      some = g.some;
      is = still_place c d s to (rename other text) (headed s content) law.changed h.is g.is g.some law.is stays;
    }

-- ---- of a table, and of an element

pub rename_after_table : RenameAfterTable
rename_after_table profile limit s keys c other text d fine h g clear free =
    let come : HeaderComes s keys c (header [] (key_with keys) []) = table_comes profile limit s keys c fine h in
    after_header (λ (t : Document). RenamesKey profile limit t other text (moved c d)) s
    (header [] (key_with keys) []) keys c come
    (rename_after_header profile limit s keys c (header [] (key_with keys) []) other text d fine come g clear free)

pub rename_after_element : RenameAfterElement
rename_after_element profile limit s keys c other text d fine h g clear free =
    let come : HeaderComes s keys c (element [] (key_with keys) []) = element_comes profile limit s keys c fine h in
    after_header (λ (t : Document). RenamesKey profile limit t other text (moved c d)) s
    (element [] (key_with keys) []) keys c come
    (rename_after_header profile limit s keys c (element [] (key_with keys) []) other text d fine come g clear free)
