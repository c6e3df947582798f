-- Inserts of a list that add lines of their own: what all have, whichever kind their lines are of.
--
-- The insert tells its kind (`kind_is`): a header defines the table of the first, the last keyval that leads there by
-- dots makes that of the second, and neither is there for the third. All are of new keys (`keys_of_line`), the table of
-- which is the holder of the path (`table_is`). A line that brings no header is of the kind that tells whether dotted
-- keys make its table (`line_kind`).
--
-- Theorems: `kind_is`, `keys_of_line`, `table_is`, `of_table`, `seen_still`, `as_of_kind`; `as_kind`.
use Rattle.std.proofs.Common.{◌≡◌, ℕ, Bool, true, false, List, refl, sym, ap, subst, ◌∙◌}
use Rattle.keep_types.specs.declared.leaf.Profile.{Profile}
use Rattle.keep_syntax.specs.Tree.{Document, Value}
use Rattle.keep_path.specs.Path.{Part, key, without_last}
use Rattle.keep_meaning.specs.Meaning.{mentions_in}
use Rattle.keep_edit_spec.specs.AddedLines.{first_new}
use Rattle.keep_edit_spec.specs.BroughtHeaders.{BringsHeader}
use Rattle.keep_edit_spec.specs.DottedLines.{AddsLineTo}
use Rattle.keep_edit_spec.specs.Edits.{insert}
use Rattle.keep_edit_spec.specs.InsertKinds.{AddsAs, added_as, kind_of, table_of}
use Rattle.keep_edit_spec.specs.Look.{holder}
use Rattle.keep_edit_spec.specs.Runs.{IsSeenStill, MakesChange}
use Rattle.keep_edit_spec.specs.TextChanges.{TextChange}
use Rattle.keep_edit_spec.specs.declared.line_kind.LineKind.{LineKind}
use Rattle.keep_edit_spec.specs.declared.line_kind.LineKind.TheVariants.{LastInBody, OfDotted, WithHeader}
use Rattle.keep_edit_spec.proofs.Insert.ItemCount.{without_last-snoc}
use Rattle.keep_edit_spec.proofs.Lists.NewPaths.{InsertsKeys, any_keys, first_path}

pub kind_is : (kind : LineKind) (profile : Profile) (limit : ℕ) (s : Document) (path : List Part) (value : Value)
    (c : TextChange) → AddsAs kind profile limit s path value c → kind_of s path ≡ kind
kind_is LastInBody profile limit s path value c h = rw (kind_of, h.ends) refl
kind_is OfDotted profile limit s path value c h = rw (kind_of, h.bare, h.last) refl
kind_is WithHeader profile limit s path value c h = rw (kind_of, h.bare, h.no_dots) refl

pub keys_of_line : (kind : LineKind) (profile : Profile) (limit : ℕ) (s : Document) (path : List Part) (value : Value)
    (c : TextChange) → AddsAs kind profile limit s path value c → InsertsKeys profile limit s path value
keys_of_line LastInBody profile limit s path value c h = any_keys profile limit s path value c false h
keys_of_line OfDotted profile limit s path value c h = any_keys profile limit s path value c true h
keys_of_line WithHeader profile limit s path value c h =
    record { text = h.text; more = h.more; new = h.new; allowed = h.allowed }

pub table_is : (profile : Profile) (limit : ℕ) (s : Document) (path : List Part) (value : Value) (c : TextChange)
    → InsertsKeys profile limit s path value → table_of (added_as s path c) ≡ holder path (mentions_in s)
table_is profile limit s path value c h =
    ap without_last (first_path profile limit s path value h)
    ∙ without_last-snoc (holder path (mentions_in s)) (key h.text)

-- what holds of the table of a line with a header
pub of_table : (P : List Part → Type 0) (profile : Profile) (limit : ℕ) (s : Document) (path : List Part)
    (value : Value) (c : TextChange) → BringsHeader profile limit s path value c
    → (kind_of s path ≡ WithHeader → P (table_of (added_as s path c))) → P (holder path (mentions_in s))
of_table P profile limit s path value c h holds =
    subst P (table_is profile limit s path value c (keys_of_line WithHeader profile limit s path value c h))
    (holds (kind_is WithHeader profile limit s path value c h))

-- ---- in another document

-- an insert that adds a line of the same kind there, with the same first new key
pub seen_still : (kind : LineKind) (profile : Profile) (limit : ℕ) (s now : Document) (path : List Part) (value : Value)
    (c d : TextChange) → AddsAs kind profile limit s path value c → AddsAs kind profile limit now path value d
    → first_new now path ≡ first_new s path → IsSeenStill s now (insert path value)
seen_still kind profile limit s now path value c d was h first = (
  first,
  kind_is kind profile limit now path value d h ∙ sym (kind_is kind profile limit s path value c was),
)

-- an insert adds a line of the kind that the document says it is of
pub as_of_kind : (kind : LineKind) (profile : Profile) (limit : ℕ) (s : Document) (path : List Part) (value : Value)
    (c : TextChange) → kind_of s path ≡ kind → MakesChange profile limit s (insert path value) c
    → AddsAs kind profile limit s path value c
as_of_kind kind profile limit s path value c is (own, h) =
    subst (λ (a : LineKind). AddsAs a profile limit s path value c)
    (sym (kind_is own profile limit s path value c h) ∙ is) h

-- ---- lines that bring no header

abbrev pub line_kind : Bool → LineKind
line_kind true = OfDotted
line_kind false = LastInBody

pub as_kind : (to : Bool) (profile : Profile) (limit : ℕ) (s : Document) (path : List Part) (value : Value)
    (c : TextChange) → AddsLineTo to profile limit s path value c → AddsAs (line_kind to) profile limit s path value c
as_kind true profile limit s path value c h = h
as_kind false profile limit s path value c h = h
