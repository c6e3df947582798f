-- A header makes the same change at the end of the text after a remove took a table or an element with its header.
--
-- Its keys pass by the changed path, so each path on its way is elsewhere (`passes_clear`). There the marks that are
-- left refuse no more than all did (TakenGone), and there are as many elements: the header that goes begins none of
-- such a path, and those after it begin what they began (`counts_without`, by PartsGo). So the header is let come. What
-- is taken does not end where the header comes, so that is written as before (HeaderStays).
--
-- Theorems: `table_after_taken`, `element_after_taken`.
use Rattle.std.proofs.Common.{◌≡◌, ℕ, Bool, true, false, cond, List, [], ◌∷◌, ◌++◌, refl, sym, ap, subst, ◌∙◌}
use Rattle.std.proofs.Common.{arith, Option, Some, None}
use Rattle.keep_types.specs.declared.leaf.Profile.{Profile}
use Rattle.keep_syntax.specs.Tree.{Written, Gap, Content, blank, keyval, header, element, Line, Document}
use Rattle.keep_path.specs.Path.{Part, index, same_path, strip}
use Rattle.keep_meaning.specs.Marks.{Reading, elements_of, header_path, start}
use Rattle.keep_meaning.specs.Meaning.{after_line, keys_of, lines, mentions_in, reading_after_lines}
use Rattle.keep_edit_spec.specs.Edits.{edited_document, remove}
use Rattle.keep_edit_spec.specs.ElementRuns.{changed_path}
use Rattle.keep_edit_spec.specs.Laws.{IsEditable}
use Rattle.keep_edit_spec.specs.Lines.{begins}
use Rattle.keep_edit_spec.specs.Refusals.{tables_in}
use Rattle.keep_edit_spec.specs.RemovedHeaders.{RemovesHeader}
use Rattle.keep_edit_spec.specs.Runs.{PassesBy}
use Rattle.keep_edit_spec.specs.TextChanges.{TextChange}
use Rattle.keep_edit_spec.proofs.EditLaws.{remove_lawful}
use Rattle.keep_edit_spec.proofs.Append.AppendLaw.{reading_append}
use Rattle.keep_edit_spec.proofs.Append.AppendTable.{tables_stated}
use Rattle.keep_edit_spec.proofs.Common.Runs.{same_path-sound}
use Rattle.keep_edit_spec.proofs.Lists.HeaderSaid.{LetsCome, passes_clear, refused_by, refuses_role}
use Rattle.keep_edit_spec.proofs.Lists.HeaderStays.{element_stays, table_stays}
use Rattle.keep_edit_spec.proofs.Lists.SectionAt.{IsSectionAt}
use Rattle.keep_edit_spec.proofs.Lists.SectionsApart as sections
use Rattle.keep_edit_spec.proofs.Lists.SectionsApart.{body_keeps}
use Rattle.keep_edit_spec.proofs.Lists.TakenGone as gone
use Rattle.keep_edit_spec.proofs.Lists.TakenKinds.{ElementAfterTaken, TableAfterTaken}
use Rattle.keep_edit_spec.proofs.Lists.ChangedPath.{array_changed}
use Rattle.keep_edit_spec.proofs.Remove.PartsGo.{elements_go}
use Rattle.keep_edit_spec.proofs.Remove.ShiftPrefixes.{elements_more}
use Rattle.keep_edit_spec.proofs.Rename.RenamedParts.{strip_self}

-- ---- the header that goes

module _ (path q : List Part) (clear : strip (changed_path path) q ≡ None) where
  -- it begins no element of a path that is elsewhere
  head_by : (r : Reading) (before after : Gap) (comment : Option Written) (c : Content)
      → (let l : Line = record { before = before; content = c; after = after; comment = comment } in
      begins path r l ≡ true → elements_of q (after_line r l).tables ≡ elements_of q r.tables)
  head_by r before after comment blank e = refl
  head_by r before after comment (keyval name v) e = refl
  head_by r before after comment (header x k y) e = refl
  head_by r before after comment (element x k y) e =
      let p : List Part = header_path r.tables [] (keys_of k) in
      let n : ℕ = elements_of p r.tables in
      let its : changed_path path ≡ p =
      ap changed_path (sym (same_path-sound (p ++ index n ∷ []) path e)) ∙ array_changed p n in
      let other : same_path p q ≡ false = not_there p (ap (λ (a : List Part). strip a q) (sym its) ∙ clear) in
      omega (arith, elements_more q p r.tables, ap (λ (b : Bool). cond {A = ℕ} b 1 0) other)
    where
      not_there : (p : List Part) → strip p q ≡ None → same_path p q ≡ false
      not_there p out = by (same_path p q) refl
        where
          by : (b : Bool) → same_path p q ≡ b → b ≡ false
          by false e = refl
          by true e =
              let no : None ≡ Some [] =
              sym out ∙ ap (strip p) (sym (same_path-sound p q e)) ∙ strip_self p in
              absurd cc

-- ---- the header that comes

module _ (profile : Profile) (limit : ℕ) (s : Document) (path : List Part) (c : TextChange)
    (fine : IsEditable profile limit s) (h : RemovesHeader profile limit s path c) where
  abbrev now : Document
  now = gone.now profile limit s path c fine h

  abbrev at : IsSectionAt s path
  at = gone.at profile limit s path c fine h

  abbrev before : List Line
  before = gone.before profile limit s path c fine h

  abbrev taken : List Line
  taken = gone.taken_lines profile limit s path c fine h

  abbrev after : List Line
  after = gone.after profile limit s path c fine h

  abbrev x : Reading
  x = sections.r s path at

  abbrev u : Reading
  u = after_line x at.head.line

  -- what is read past what goes, and without it
  read_was : reading_after_lines start (lines s) ≡ reading_after_lines u after
  read_was =
      ap (reading_after_lines start) (gone.lines_were profile limit s path c fine h)
      ∙ reading_append start before (taken ++ after) ∙ reading_append x taken after
      ∙ ap (λ (r : Reading). reading_after_lines r after) (body_keeps s path at u)

  read_now : reading_after_lines start (lines now) ≡ reading_after_lines x after
  read_now =
      ap (reading_after_lines start) (gone.lines_are profile limit s path c fine h)
      ∙ reading_append start before after

  counts_without : (q : List Part) → strip (changed_path path) q ≡ None
      → elements_of q (tables_in (mentions_in now)) ≡ elements_of q (tables_in (mentions_in s))
  counts_without q clear =
      let was = gone.was profile limit s path c fine h in
      let (there, still) = gone.stays_apart profile limit s path c fine h q clear in
      ap (elements_of q) (sym (tables_stated start (lines now)) ∙ ap (λ (r : Reading). r.tables) read_now)
      ∙ elements_go (gone.stays profile limit s path c fine h) (gone.goes profile limit s path c fine h) was.inj q
      there still u x after was.parts
      (sym (head_by path q clear x at.head.line.before at.head.line.after at.head.line.comment at.head.line.content
      at.passes))
      ∙ ap (elements_of q)
      (ap (λ (r : Reading). r.tables) (sym read_was) ∙ tables_stated start (lines s))

  lets_come : (more : List (List ℕ)) → PassesBy more (changed_path path)
      → LetsCome (mentions_in s) (mentions_in (edited_document s (remove path))) more
  lets_come more passes =
      subst (λ (t : Document). LetsCome (mentions_in s) (mentions_in t) more)
      (sym (gone.is_now profile limit s path c fine h)) (record {
        lets = λ role q rest e comes free.
            refused_by role q (mentions_in now)
            ∙ gone.kinds_unsaid profile limit s path c fine h (refuses_role role) q
            (passes_clear more (changed_path path) q rest passes e) (sym (refused_by role q (mentions_in s)) ∙ free);
        counts = λ q rest e. counts_without q (passes_clear more (changed_path path) q rest passes e);
      })

pub table_after_taken : TableAfterTaken
table_after_taken profile limit s path c more d fine h k passes newline far =
    let its = gone.its profile limit s path c fine h in
    table_stays profile limit s (remove path) c more d fine (remove_lawful profile limit s path fine its.allowed) its.is
    newline (λ e. absurd (far e)) (lets_come profile limit s path c fine h more passes) k

pub element_after_taken : ElementAfterTaken
element_after_taken profile limit s path c more d fine h k passes newline far =
    let its = gone.its profile limit s path c fine h in
    element_stays profile limit s (remove path) c more d fine (remove_lawful profile limit s path fine its.allowed)
    its.is newline (λ e. absurd (far e)) (lets_come profile limit s path c fine h more passes) k
