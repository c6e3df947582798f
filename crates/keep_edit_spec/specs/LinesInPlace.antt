-- Lists of edits that are made at once, where a line comes in the place of one that an edit of the list takes, or right
-- before what one takes.
use Rattle.std.specs.Prelude.{◌≡◌, ℕ, ◌+◌, ◌<◌, [], ◌∷◌, ◌++◌, List, All, None, false}
use Rattle.keep_types.specs.declared.leaf.Profile.{Profile}
use Rattle.keep_syntax.specs.Tree.{Document, Value, text}
use Rattle.keep_path.specs.Path.{Part}
use Rattle.keep_edit_spec.specs.Edits.{edited_document, insert}
use Rattle.keep_edit_spec.specs.InsertKinds.{Added, AddsAs, IsAfterLine, added_as}
use Rattle.keep_edit_spec.specs.Laws.{IsEditable}
use Rattle.keep_edit_spec.specs.Refusals.{refusal}
use Rattle.keep_edit_spec.specs.RunLists.{AreAtOnce, IsOneOf, MadeEdit, changes_of, document_after, lines_of, made}
use Rattle.keep_edit_spec.specs.RunLists.{seen_of}
use Rattle.keep_edit_spec.specs.Runs.{IsBeforeHeaders, IsSeenStill, KeepsPlace, LeaveNewline, LeavesAlone, LetsTable}
use Rattle.keep_edit_spec.specs.Runs.{is_header, seen, with_line}
use Rattle.keep_edit_spec.specs.SaidLines.{SaysBefore}
use Rattle.keep_edit_spec.specs.TextChanges.{IsBeside, TextChange, moved_by_all, text_with, with_change}
use Rattle.keep_edit_spec.specs.declared.line_kind.LineKind.{LineKind}
use Rattle.keep_edit_spec.specs.declared.line_kind.LineKind.TheVariants.{LastInBody, OfDotted}

-- The change takes the bytes up to this one, and writes none. In the text with the other changes, a line that says
-- something is right before those.
pub record FreesPlace (bytes : List ℕ) (others : List TextChange) (c : TextChange) (at : ℕ) : Type 0 where
  pub some : 0 < c.size
  pub takes : c.new ≡ []
  pub next : c.at + c.size ≡ at
  pub said : SaysBefore (text_with 0 bytes others) (moved_by_all others c.at)

-- The line of an insert at the end of a body comes after the others at its byte, where no header is appended; headers
-- pass by its table. The edits leave the first newline.
pub record CanComeInPlace (s : Document) (ms : List MadeEdit) (path : List Part) (d : TextChange) : Type 0 where
  pub after : All (λ l. IsAfterLine l (added_as s path d)) (lines_of s ms)
  pub passed : All (LetsTable (added_as s path d)) (seen_of s ms)
  pub newline : LeaveNewline s (changes_of ms)
  pub before : IsBeforeHeaders (text s) (seen_of s ms) d.at

-- An insert after these edits, one of which adds nothing and could come after all others and the insert. It adds its
-- line there still, with the same bytes, is not refused, and is seen as before. The document is the one that they make
-- where it comes before that edit, after all others. With it the changes are these.
pub record IsRunBefore (profile : Profile) (limit : ℕ) (s : Document) (ms : List MadeEdit) (path : List Part)
    (value : Value) (kind : LineKind) (d : TextChange) (changes : List TextChange) : Type 0 where
  pub last : MadeEdit
  pub others : List MadeEdit
  pub one : IsOneOf last ms others
  pub no_line : (lines : List Added) → with_line s last.edit last.change lines ≡ lines
  pub no_header : is_header (seen s last.edit) ≡ false
  pub there : TextChange
  pub new_is : there.new ≡ d.new
  pub makes : AddsAs kind profile limit (document_after s ms) path value there
  pub seen_still : IsSeenStill s (document_after s ms) (insert path value)
  pub allowed : refusal profile limit (document_after s ms) (insert path value) ≡ None
  pub same : edited_document (document_after s ms) (insert path value)
      ≡ document_after s (last ∷ made (insert path value) d ∷ others)
  pub still : AreAtOnce profile limit s (last ∷ made (insert path value) d ∷ others)
  pub changes_are : changes_of (last ∷ made (insert path value) d ∷ others) ≡ changes

-- Such an insert after these edits, one of which frees its place, makes its change behind all others there.
abbrev pub RunGoesOnInPlace : Type 0
RunGoesOnInPlace =
    (profile : Profile) (limit : ℕ) (s : Document) (ms : List MadeEdit) (path : List Part) (value : Value)
    (before : List TextChange) (c : TextChange) (after : List TextChange) (d : TextChange)
    → IsEditable profile limit s → AreAtOnce profile limit s ms → AddsAs LastInBody profile limit s path value d
    → All (λ f. LeavesAlone f (seen s (insert path value))) (seen_of s ms)
    → All (λ x. IsBeside x d) (changes_of ms) → CanComeInPlace s ms path d
    → changes_of ms ≡ before ++ c ∷ after → FreesPlace (text s) (before ++ after) c d.at
    → IsRunBefore profile limit s ms path value LastInBody d (with_change (changes_of ms) d)

-- ---- right before what an edit takes

-- The change comes right before one of these, which takes bytes from there on.
pub record IsPutBefore (old : List TextChange) (d : TextChange) (new : List TextChange) : Type 0 where
  pub before : List TextChange
  pub next : TextChange
  pub after : List TextChange
  pub was : old ≡ before ++ next ∷ after
  pub at : next.at ≡ d.at
  pub some : 0 < next.size
  pub is : new ≡ before ++ d ∷ next ∷ after

-- A line of a table that dotted keys make keeps its place so, too.
abbrev pub RunGoesOnBefore : Type 0
RunGoesOnBefore =
    (profile : Profile) (limit : ℕ) (s : Document) (ms : List MadeEdit) (path : List Part) (value : Value)
    (d : TextChange) (new : List TextChange)
    → IsEditable profile limit s → AreAtOnce profile limit s ms → AddsAs OfDotted profile limit s path value d
    → All (λ f. LeavesAlone f (seen s (insert path value))) (seen_of s ms)
    → KeepsPlace s (seen_of s ms) (changes_of ms) (lines_of s ms) (insert path value) d
    → IsPutBefore (changes_of ms) d new
    → IsRunBefore profile limit s ms path value OfDotted d new
