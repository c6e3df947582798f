-- The document after edits of a run, whatever is removed between them: its text, and its text after one edit more.
--
-- By the law of the edit the document after it is editable, and its text has the change put in there (`text_with_one`).
-- Bytes that no change touches move alike (`rest_stays`).
--
-- Theorems: `text_goes_on`; `of_run`, `of_element_run`: runs have such a text; `made_puts`: an edit whose change is
-- known puts it into the text.
use Rattle.std.proofs.Common.{◌≡◌, ℕ, ◌+◌, ◌≤◌, List, length, sym, ap, ap₂, ◌∙◌, arith, All, take, drop}
use Rattle.keep_types.specs.declared.leaf.Profile.{Profile}
use Rattle.keep_syntax.specs.Tree as tree
use Rattle.keep_syntax.specs.Tree.{Document}
use Rattle.keep_path.specs.Path.{Part}
use Rattle.keep_edit_spec.specs.Changed.{put}
use Rattle.keep_edit_spec.specs.Edits.{Edit, edited_document, place}
use Rattle.keep_edit_spec.specs.ElementRuns.{IsElementRun}
use Rattle.keep_edit_spec.specs.InsertKinds.{Added}
use Rattle.keep_edit_spec.specs.Laws.{IsEditable, IsLawfulEdit}
use Rattle.keep_edit_spec.specs.Runs.{IsRun, MakesChange}
use Rattle.keep_edit_spec.specs.TextChanges.{Follow, IsBeside, TextChange, moved_by, moved_by_all, moved_past}
use Rattle.keep_edit_spec.specs.TextChanges.{place_of_change, text_with, with_change}
use Rattle.keep_edit_spec.proofs.EditLaws.{change_put}
use Rattle.keep_edit_spec.proofs.Lists.MadeChanges.{change_lawful, change_puts, within_text}
use Rattle.keep_edit_spec.proofs.Lists.TextChanges.{beside_past, follow_with, moved_with, one_of_all, rest_of_all}
use Rattle.keep_edit_spec.proofs.Lists.TextChanges.{text_with_one}
use Rattle.keep_edit_spec.proofs.Lists.WiderChanges.{rest_stays}

-- The text is that of the first document with the changes, and bytes beside these are there still.
pub record IsTextAfter (profile : Profile) (limit : ℕ) (s : Document) (changes : List TextChange) (now : Document)
    : Type 0 where
  pub first : IsEditable profile limit s
  pub editable : IsEditable profile limit now
  pub follow : Follow 0 changes
  pub text : tree.text now ≡ text_with 0 (tree.text s) changes
  pub kept : (r : TextChange) → All (λ d. IsBeside d r) changes → r.at + r.size ≤ length (tree.text s)
      → take r.size (drop (moved_by_all changes r.at) (tree.text now)) ≡ take r.size (drop r.at (tree.text s))

module _ (profile : Profile) (limit : ℕ) (s : Document) (edits : List Edit) (changes : List TextChange)
    (lines : List Added) (now : Document) where
  pub of_run : IsRun profile limit s edits changes lines now → IsTextAfter profile limit s changes now
  of_run r = record { first = r.first; editable = r.editable; follow = r.follow; text = r.text; kept = r.kept }

  pub of_element_run : (gone : List (List Part)) → IsElementRun profile limit s edits changes lines gone now
      → IsTextAfter profile limit s changes now
  of_element_run gone r =
      record { first = r.first; editable = r.editable; follow = r.follow; text = r.text; kept = r.kept }

-- ---- one more

-- the edit is lawful, and puts this change into the text
pub record PutsChange (profile : Profile) (limit : ℕ) (s : Document) (e : Edit) (c : TextChange) : Type 0 where
  pub within : c.at + c.size ≤ length (tree.text s)
  pub lawful : IsLawfulEdit profile limit s e
  pub puts : put (tree.text s) (place s e) ≡ put (tree.text s) (place_of_change c)

pub made_puts : (profile : Profile) (limit : ℕ) (s : Document) (e : Edit) (c : TextChange) → IsEditable profile limit s
    → MakesChange profile limit s e c → PutsChange profile limit s e c
made_puts profile limit s e c fine makes = record {
  within = within_text profile limit s e c fine makes;
  lawful = change_lawful profile limit s e c fine makes;
  puts = change_puts profile limit s e c fine makes;
}

pub text_goes_on : (profile : Profile) (limit : ℕ) (s : Document) (changes : List TextChange) (now : Document)
    (e : Edit) (c : TextChange)
    → IsTextAfter profile limit s changes now → c.at + c.size ≤ length (tree.text s)
    → All (λ x. IsBeside x c) changes → PutsChange profile limit now e (moved_past changes c)
    → IsTextAfter profile limit s (with_change changes c) (edited_document now e)
text_goes_on profile limit s changes now e c r within beside h =
    let there : TextChange = moved_past changes c in
    record {
      first = r.first;
      editable = record { valid = h.lawful.reads.valid; shallow = h.lawful.reads.shallow; obeys = h.lawful.obeys };
      follow = follow_with 0 changes c (omega arith) r.follow beside;
      text = change_put now e ∙ h.puts ∙ ap (λ (t : List ℕ). put t (place_of_change there)) r.text
          ∙ sym (text_with_one (tree.text s) changes c within r.follow beside);
      kept = λ z beside' few.
          let others : All (λ x. IsBeside x z) changes = rest_of_all (λ x. IsBeside x z) changes c beside' in
          let one : IsBeside c z = one_of_all (λ x. IsBeside x z) changes c beside' in
          let at : moved_by_all (with_change changes c) z.at ≡ moved_by there (moved_by_all changes z.at) + 0 =
          ap (λ (x : TextChange). x.at) (moved_with changes c z r.follow beside others one) ∙ omega arith in
          ap₂ (λ (n : ℕ) (t : List ℕ). take z.size (drop n t)) at (change_put now e ∙ h.puts)
          ∙ rest_stays (tree.text now) there (moved_past changes z) 0 z.size (omega arith) h.within
          (beside_past changes c z r.follow beside others one)
          ∙ ap (λ (n : ℕ). take z.size (drop n (tree.text now))) (omega arith)
          ∙ r.kept z others few;
    }
