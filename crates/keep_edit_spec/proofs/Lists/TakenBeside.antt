-- A remove that takes a table or an element with its header takes the same bytes after a change within one line, beside
-- it.
--
-- A set and a rename find nothing in the last line, which says nothing (`nested_last`, `rename_last`). So that stays,
-- and the text ends in a newline as before. Where the same is said of the path, and its header and the end of its body
-- are at the same lines, these lines begin where they did, or moved by the change (LineStarts). So the remove takes the
-- section that they bound (TakenAgain).
--
-- Theorems: `nested_last`, `rename_last`; `taken_beside`.
use Rattle.std.proofs.Common.{◌≡◌, ℕ, ◌<◌, true, List, [], ◌∷◌, ◌++◌, refl, sym, ap, subst, ◌∙◌, arith, Option, Some}
use Rattle.std.proofs.Common.{None}
use Rattle.std.specs.Prelude.{position}
use Rattle.keep_types.specs.declared.leaf.Profile.{Profile}
use Rattle.keep_syntax.specs.Tree.{Content, Document, Ended, Line, Written, blank, bom_leaves, comment_leaves}
use Rattle.keep_syntax.specs.Tree.{ended_leaves, text, text_of}
use Rattle.keep_path.specs.Path.{Part, same_path}
use Rattle.keep_meaning.specs.Marks.{Reading, start}
use Rattle.keep_meaning.specs.Meaning.{after_line, lines, mentions_in}
use Rattle.keep_meaning.specs.Nodes.{kinds_at}
use Rattle.keep_edit_spec.specs.Changed.{Changed, within}
use Rattle.keep_edit_spec.specs.Edits.{Edit, change, changed_or_same, edited_document, end_of, key_part, nested, rename}
use Rattle.keep_edit_spec.specs.Laws.{IsEditable, IsLawfulEdit}
use Rattle.keep_edit_spec.specs.Lines.{Page, begins, in_content, in_document, in_line, in_lines, is_empty, last_line}
use Rattle.keep_edit_spec.specs.Lines.{page_text, part_paths, rename_line, with_page}
use Rattle.keep_edit_spec.specs.RemovedHeaders.{RemovesHeader}
use Rattle.keep_edit_spec.specs.TextChanges.{IsBeside, TextChange, moved}
use Rattle.keep_edit_spec.specs.TextEnds.{ends_in_newline}
use Rattle.keep_edit_spec.specs.Values.{Act, renaming}
use Rattle.keep_edit_spec.proofs.Common.SetLaw.{EachTo, to_or_else, to_within}
use Rattle.keep_edit_spec.proofs.Lists.HeaderLines.{last_empty, lines_end}
use Rattle.keep_edit_spec.proofs.Lists.LineStarts.{LinesBegin, line_moves}
use Rattle.keep_edit_spec.proofs.Lists.RenameAfterHeader.{unnamed}
use Rattle.keep_edit_spec.proofs.Lists.RenamePlaces.{IsChangeAt}
use Rattle.keep_edit_spec.proofs.Lists.TakenAgain as again
use Rattle.keep_edit_spec.proofs.Lists.TakenAgain.{taken_again}

-- ---- the last line, where nothing can be changed

last_kept : (f : Reading → Line → Option (Changed Line)) (last : Line) → ((r : Reading) → f r last ≡ None)
    → (r : Reading) (es : List Ended) → EachTo (λ (b : Page). b.last ≡ last) (in_lines f r es last)
last_kept f last none r [] =
    subst (λ (o : Option (Changed Line)). EachTo (λ (b : Page). b.last ≡ last)
    (within (λ l. record { ended = []; last = l }) [] [] o)) (sym (none r)) tt
last_kept f last none r (e ∷ es) =
    let after : Option (Changed Page) = in_lines f (after_line r e.line) es last in
    let with_line : Line → Page =
    λ l. record { ended = record { line = l; newline = e.newline } ∷ es; last = last } in
    let with_first : Page → Page = λ b. record { ended = e ∷ b.ended; last = b.last } in
    let right : List ℕ = e.newline.text ++ page_text (record { ended = es; last = last }) in
    to_or_else (λ (b : Page). b.last ≡ last) (within with_line [] right (f r e.line))
    (within with_first (text_of (ended_leaves e)) [] after)
    (by with_line right (λ l. refl) (f r e.line))
    (to_within (λ (b : Page). b.last ≡ last) (λ (b : Page). b.last ≡ last) with_first (text_of (ended_leaves e)) []
    after (λ b h. h) (last_kept f last none (after_line r e.line) es))
  where
    by : (with_line : Line → Page) (right : List ℕ) → ((l : Line) → (with_line l).last ≡ last)
        → (o : Option (Changed Line)) → EachTo (λ (b : Page). b.last ≡ last) (within with_line [] right o)
    by with_line right same None = tt
    by with_line right same (Some c) = same c.to

module _ (path : List Part) (s : Document) (empty : s.last.content ≡ blank) where
  abbrev pub LastStays : Document → Type 0
  LastStays t = t.last ≡ s.last

  search_last : (f : Reading → Line → Option (Changed Line)) → ((r : Reading) → f r s.last ≡ None)
      → EachTo LastStays (in_document s (in_lines f start s.ended s.last))
  search_last f none =
      to_within (λ (b : Page). b.last ≡ s.last) LastStays (with_page s) (text_of (bom_leaves s.bom)) []
      (in_lines f start s.ended s.last) (λ b h. h) (last_kept f s.last none start s.ended)

  pub nested_last : (act : Act) → EachTo LastStays (nested act path s)
  nested_last act =
      search_last (in_line act path)
      (λ r. ap (λ (x : Content). within (λ (c : Content). record s.last { content = c }) (text_of s.last.before)
      (text_of s.last.after ++ text_of (comment_leaves s.last.comment)) (in_content act r.body path x)) empty)

  pub rename_last : (name : List ℕ) → EachTo LastStays (change s (rename path name))
  rename_last name =
      let new : Written = key_part name in
      to_or_else LastStays (in_document s (in_lines (rename_line new path) start s.ended s.last))
      (nested (renaming new) path s)
      (search_last (rename_line new path)
      (λ r. unnamed new path r s.last (ap (λ (x : Content). position (same_path path) (part_paths r x)) empty)))
      (nested_last (renaming new))

-- ---- beside a table or an element that goes

module _ (profile : Profile) (limit : ℕ) (s : Document) (e : Edit) (c : TextChange) (other : List Part)
    (d : TextChange) (fine : IsEditable profile limit s) (law : IsLawfulEdit profile limit s e)
    (k : RemovesHeader profile limit s other d) where
  abbrev x : Changed Document
  x = law.changed

  made : edited_document s e ≡ x.to
  made = ap (λ (o : Option (Changed Document)). (changed_or_same s o).to) law.is

  fine_now : IsEditable profile limit x.to
  fine_now =
      subst (IsEditable profile limit) made
      (record { valid = law.reads.valid; shallow = law.reads.shallow; obeys = law.obeys })

  pub taken_beside : LinesBegin s x → IsChangeAt c x → 0 < c.size → IsBeside c d → x.to.last ≡ s.last
      → kinds_at other (mentions_in x.to) ≡ kinds_at other (mentions_in s)
      → last_line (begins other) start (lines x.to) ≡ last_line (begins other) start (lines s)
      → end_of x.to other ≡ end_of s other
      → RemovesHeader profile limit (edited_document s e) other (moved c d)
  taken_beside begin there some side last kinds head ends =
      let i : ℕ = again.head_number profile limit s other d fine k in
      let n : ℕ = again.end_number profile limit s other d fine k in
      let closed : ends_in_newline (text s) ≡ true = (again.its profile limit s other d fine k).closed in
      subst (λ (t : Document). RemovesHeader profile limit t other (moved c d)) (sym made)
      (taken_again profile limit s other d fine k x.to c i n fine_now
      (lines_end profile x.to fine_now.valid (ap is_empty last ∙ last_empty profile s fine.valid closed)
      (omega (arith, begin.count, again.few profile limit s other d fine k)))
      kinds (head ∙ again.head_is profile limit s other d fine k) (ends ∙ again.ends_is profile limit s other d fine k)
      (omega (
        arith,
        line_moves s x c d begin there some side i 0 (omega arith)
            (omega (arith, again.starts_at profile limit s other d fine k)),
      ))
      (line_moves s x c d begin there some side n d.size (omega arith)
      (again.ends_at profile limit s other d fine k)))
