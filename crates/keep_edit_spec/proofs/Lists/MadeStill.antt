-- What an edit makes in another document as in the first, and is seen there as before: its change, of the same kind.
--
-- A line that is added comes in the place of one that was taken only after an edit that took it.
--
-- Theorems: `none_in_place`, `not_in_place`; `remove_after`: of a remove; `adds_still`, `brings_still`, `line_after`:
-- of an insert.
use Rattle.std.proofs.Common.{◌≡◌, ◌≢◌, ℕ, suc, ◌+◌, true, false, List, length, take, sym, ap, ◌∙◌, inl, inr}
use Rattle.std.specs.Prelude.{◌⊎◌}
use Rattle.keep_types.specs.declared.leaf.Profile.{Profile}
use Rattle.keep_syntax.specs.Tree.{Document, Value}
use Rattle.keep_path.specs.Path.{Part}
use Rattle.keep_edit_spec.specs.AddedLines.{AddsLine, AddsLineStill, first_new}
use Rattle.keep_edit_spec.specs.BroughtHeaders.{BringsHeader, StillBrings}
use Rattle.keep_edit_spec.specs.ClearedLines.{ClearsLine}
use Rattle.keep_edit_spec.specs.DottedLines.{AddsDotted, StillAdds}
use Rattle.keep_edit_spec.specs.Edits.{Edit, insert, place, remove}
use Rattle.keep_edit_spec.specs.InsertKinds.{AddsAs, is_last_in_body}
use Rattle.keep_edit_spec.specs.RemovedLines.{RemovesLine}
use Rattle.keep_edit_spec.specs.RemovedSections.{RemovesSection}
use Rattle.keep_edit_spec.specs.Runs.{ComesInPlace, IsSeenStill, MakesChange, ends_body}
use Rattle.keep_edit_spec.specs.TextChanges.{TextChange, moved}
use Rattle.keep_edit_spec.specs.declared.line_kind.LineKind.{LineKind}
use Rattle.keep_edit_spec.specs.declared.line_kind.LineKind.TheVariants.{LastInBody, OfDotted, WithHeader}
use Rattle.keep_edit_spec.proofs.Lists.LineKinds.{kind_is, seen_still}

-- where no line comes in the place of one that was taken
pub none_in_place : (s : Document) (c : TextChange) (f : Edit) (d : TextChange) → (ComesInPlace s c f d → ⊥)
    → (c.at + c.size ≢ d.at) ⊎ ComesInPlace s c f d → c.at + c.size ≢ d.at
none_in_place s c f d none (inl far) = far
none_in_place s c f d none (inr here) = absurd (none here)

pub not_in_place : (s : Document) (c : TextChange) (f : Edit) (d : TextChange) → ends_body s f ≡ false
    → (c.at + c.size ≢ d.at) ⊎ ComesInPlace s c f d → c.at + c.size ≢ d.at
not_in_place s c f d no_line =
    none_in_place s c f d (λ here. (let both : true ≡ false = sym here.line ∙ no_line in absurd cc))

-- A remove after an edit of another kind takes its line, leaves it with its comment, or takes its table, as before.
pub remove_after : (profile : Profile) (limit : ℕ) (s now : Document) (path : List Part) (c d : TextChange)
    → (RemovesLine profile limit s path d → RemovesLine profile limit now path (moved c d))
    → (ClearsLine profile limit s path d → ClearsLine profile limit now path (moved c d))
    → (RemovesSection profile limit s path d → RemovesSection profile limit now path (moved c d))
    → MakesChange profile limit s (remove path) d → MakesChange profile limit now (remove path) (moved c d)
remove_after profile limit s now path c d takes clears goes (inl k) = inl (takes k)
remove_after profile limit s now path c d takes clears goes (inr (inl k)) = inr (inl (clears k))
remove_after profile limit s now path c d takes clears goes (inr (inr k)) = inr (inr (goes k))

-- in another document, too, and seen as before
abbrev pub MakesStill : Profile → ℕ → Document → Document → Edit → TextChange → Type 0
MakesStill profile limit s now e c = MakesChange profile limit now e c × IsSeenStill s now e

pub adds_still : (kind : LineKind) (profile : Profile) (limit : ℕ) (s now : Document) (path : List Part) (value : Value)
    (c d : TextChange) → AddsAs kind profile limit s path value c
    → AddsAs kind profile limit now path value d × (first_new now path ≡ first_new s path)
    → MakesStill profile limit s now (insert path value) d
adds_still kind profile limit s now path value c d was h =
    ((kind, h.0), seen_still kind profile limit s now path value c d was h.0 h.1)

-- an insert that brings its header still has the same first new key
pub brings_still : (profile : Profile) (limit : ℕ) (s now : Document) (path : List Part) (value : Value)
    (c d : TextChange) → BringsHeader profile limit s path value c → StillBrings profile limit s now path value d
    → MakesStill profile limit s now (insert path value) d
brings_still profile limit s now path value c d was h =
    adds_still WithHeader profile limit s now path value c d was
    (h.0, ap (λ (table : List Part). take (suc (length table)) path) h.1)

-- after an edit of another kind: only a line at the end of a body comes in the place of one that was taken
pub line_after : (kind : LineKind) (profile : Profile) (limit : ℕ) (s now : Document) (c : TextChange)
    (path : List Part) (value : Value) (d : TextChange) → AddsAs kind profile limit s path value d
    → (c.at + c.size ≢ d.at) ⊎ ComesInPlace s c (insert path value) d
    → (AddsLine profile limit s path value d → (c.at + c.size ≢ d.at) ⊎ ComesInPlace s c (insert path value) d
    → AddsLineStill profile limit s now path value (moved c d))
    → (AddsDotted profile limit s path value d → c.at + c.size ≢ d.at
    → StillAdds true profile limit s now path value (moved c d))
    → (BringsHeader profile limit s path value d → c.at + c.size ≢ d.at
    → StillBrings profile limit s now path value (moved c d))
    → MakesStill profile limit s now (insert path value) (moved c d)
line_after LastInBody profile limit s now c path value d k place line to_table brings =
    adds_still LastInBody profile limit s now path value d (moved c d) k (line k place)
line_after OfDotted profile limit s now c path value d k place line to_table brings =
    adds_still OfDotted profile limit s now path value d (moved c d) k
    (to_table k (not_in_place s c (insert path value) d
    (ap is_last_in_body (kind_is OfDotted profile limit s path value d k)) place))
line_after WithHeader profile limit s now c path value d k place line to_table brings =
    brings_still profile limit s now path value d (moved c d) k
    (brings k (not_in_place s c (insert path value) d
    (ap is_last_in_body (kind_is WithHeader profile limit s path value d k)) place))
