-- A remove that clears its line to the comment clears the same one after a rename made its own change elsewhere.
--
-- One line is changed by the rename, and each is read as before for the other path (RenamedReads). The line that the
-- remove clears is not the one with the key: the key is no part of the other path's own key, and is not in its value,
-- as the renamed path does not begin with the other (`not_own`). So the remove's own change stays (`line_second`,
-- RenamedStays), in the line with the same number (`last_page`). So it is at the moved place (StaysBeside).
--
-- Theorem: `clear_after_rename`.
use Rattle.std.proofs.Common.{◌≡◌, ℕ, true, List, ◌++◌, refl, sym, ap, subst, ◌∙◌, arith, Option, Some, None}
use Rattle.keep_syntax.specs.Tree.{Content, Document, Line, comment_leaves, keyval, text, text_of}
use Rattle.keep_path.specs.Path.{Part, strip}
use Rattle.keep_meaning.specs.Marks.{Reading, marks, start}
use Rattle.keep_meaning.specs.Meaning.{lines, mentions_in, step}
use Rattle.keep_meaning.specs.Rules.{ObeysRules}
use Rattle.keep_edit_spec.specs.Changed.{Changed, Place, put, within}
use Rattle.keep_edit_spec.specs.ClearedLines.{ClearsLine}
use Rattle.keep_edit_spec.specs.Edits.{changed_or_same, clear_line, edited_document, is_own, key_part, rename}
use Rattle.keep_edit_spec.specs.Laws.{IsLawfulEdit}
use Rattle.keep_edit_spec.specs.Lines.{in_content, in_line, last_line, with_page}
use Rattle.keep_edit_spec.specs.TextChanges.{moved}
use Rattle.keep_edit_spec.specs.Values.{renaming}
use Rattle.keep_edit_spec.proofs.EditLaws.{change_put, rename_lawful}
use Rattle.keep_edit_spec.proofs.Common.DoneAtValue.{EachOf}
use Rattle.keep_edit_spec.proofs.Common.LineTexts.{change_rename-is, clear_cases, clear_line-is}
use Rattle.keep_edit_spec.proofs.Common.Texts.{EachIs}
use Rattle.keep_edit_spec.proofs.Lists.ClearedKinds.{ClearAfterRename}
use Rattle.keep_edit_spec.proofs.Lists.LineStarts.{LinesBegin, rename_lines_begin}
use Rattle.keep_edit_spec.proofs.Lists.LinesReplaced.{clear_alike}
use Rattle.keep_edit_spec.proofs.Lists.RemoveAfterRename.{clear_same, hidden_own, last_page, line_alike}
use Rattle.keep_edit_spec.proofs.Lists.RemovedPlaces.{mine}
use Rattle.keep_edit_spec.proofs.Lists.RenamePlaces.{IsChangeAt, change_at, placed}
use Rattle.keep_edit_spec.proofs.Lists.RenamedReads.{IsLineRead, IsRenamedPage, by_key, in_braces, renamed_page}
use Rattle.keep_edit_spec.proofs.Lists.RenamedStays.{renamed_stays}
use Rattle.keep_edit_spec.proofs.Lists.SetPlaces.{Stays, length_cut}
use Rattle.keep_edit_spec.proofs.Lists.StaysBeside.{clears_beside}
use Rattle.keep_edit_spec.proofs.Remove.RemoveLines.{IsOwnLine, own_line}

-- ---- the line with the key

module _ (t : List ℕ) (path other : List Part) (above : strip other path ≡ None) where
  -- nothing is renamed in the value of the other path's own line
  none_in : (r : Reading) (l : Line) → is_own other r l.content ≡ true
      → in_line (renaming (key_part t)) path r l ≡ None
  none_in r l own =
      let o : IsOwnLine r.body other l.content = own_line other r l.content own in
      let body : List Part = r.body ++ step 0 (Some o.name) in
      let by : strip body path ≡ None → in_content (renaming (key_part t)) r.body path (keyval o.name o.held) ≡ None =
      λ e. rw (in_content, e) refl in
      ap (λ (c : Option (Changed Content)). within (λ x. record l { content = x }) (text_of l.before)
      (text_of l.after ++ text_of (comment_leaves l.comment)) c)
      (ap (in_content (renaming (key_part t)) r.body path) o.was
      ∙ by (ap (λ (p : List Part). strip p path) o.place ∙ above))

  not_own : (r r' : Reading) (l : Line) (x : Changed Line) → IsLineRead t path other r r' l x
      → is_own other r l.content ≡ true → ⊥
  not_own r r' l x (by_key h) own = let no = hidden_own other r l.content h.was in absurd cc
  not_own r r' l x (in_braces same is) own = let no = none_in r l own in absurd cc

  line_second : (r r' : Reading) (l : Line) (x : Changed Line) → IsLineRead t path other r r' l x
      → Stays x (clear_line other r l) (clear_line other r' x.to)
  line_second r r' l x read =
      clear_cases (λ (o : Option (Changed Line)). clear_line other r l ≡ o → Stays x o (clear_line other r' x.to)) other
      r l (λ e. clear_alike other r r' l x.to (line_alike t path other r r' l x read) e)
      (λ c has own e. absurd (not_own r r' l x read own)) refl

pub clear_after_rename : ClearAfterRename
clear_after_rename profile limit s path name c other d fine h k apart fresh side =
    let law : IsLawfulEdit profile limit s (rename path name) =
    rename_lawful profile limit s path name fine h.utf8 h.allowed in
    let x : Changed Document = law.changed in
    let to : x.to ≡ edited_document s (rename path name) =
    ap (λ (o : Option (Changed Document)). (changed_or_same s o).to) (sym law.is) in
    let whole : IsRenamedPage name path other s x =
    renamed_page profile limit s path name other x fine h.utf8 h.allowed apart.0 fresh.0 law.is in
    let page : x.to ≡ with_page s whole.page.to = ap (λ (y : Changed Document). y.to) whole.is in
    let there : IsChangeAt c x = change_at c x (placed s (rename path name) x c law.is h.is) in
    let cut : EachIs text s (Some x) = subst (EachIs text s) law.is (change_rename-is s path name) in
    subst (λ (t : Document). ClearsLine profile limit t other (moved c d)) to
    (clears_beside profile limit s x c (subst (EachOf (LinesBegin s)) law.is (rename_lines_begin s path name)) there
    h.some other d k side
    (subst (λ (t : Document). ObeysRules (marks (mentions_in t))) (sym to) law.obeys)
    (ap (λ (t : Document). text t) to ∙ change_put s (rename path name)
    ∙ ap (λ (p : Place). put (text s) p) h.is)
    (omega (arith, there.at, there.size, length_cut (text s) x.before x.old x.after cut.was))
    (renamed_stays name path other (clear_line other) (λ r l. clear_line-is other r l) (clear_same other)
    (line_second name path other apart.1) s x whole)
    (ap (λ (t : Document). last_line (mine other) start (lines t)) page
    ∙ last_page name path other start start s.ended s.last whole.page whole.read))
