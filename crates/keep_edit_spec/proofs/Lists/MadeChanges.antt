-- Edits whose changes of the text are known: each is lawful, and the text after it is the text with its change.
--
-- A change is of the edit's place, but that of a remove may go on past it (`just_the_place`, `removes_there`); the text
-- with the one is the text with the other (`change_puts`).
--
-- Theorems: `change_is_there`, `removes_there`, `change_allowed`, `change_lawful`, `within_text`, `change_puts`;
-- `same_place`: where nothing goes; `added`: what all lines have that inserts add.
use Rattle.std.proofs.Common.{◌≡◌, ℕ, ◌+◌, ◌<◌, ◌≤◌, List, [], length, sym, ap, subst, ◌∙◌, arith, None, inl, inr}
use Rattle.std.proofs.Common.{IsUtf8}
use Rattle.std.specs.List.{AllByRecursion}
use Rattle.std.proofs.lemmas.List.{append-nil}
use Rattle.keep_types.specs.declared.leaf.Profile.{Profile}
use Rattle.keep_types.specs.declared.leaf.Profile.TheVariants.{Wide}
use Rattle.keep_syntax.specs.Tree.{Document, Value, text}
use Rattle.keep_path.specs.Path.{Part}
use Rattle.keep_edit_spec.specs.Changed.{Place, put}
use Rattle.keep_edit_spec.specs.Edits.{Edit, append_element, append_table, insert, place, remove, rename, set}
use Rattle.keep_edit_spec.specs.Insertion.{put_in}
use Rattle.keep_edit_spec.specs.Laws.{IsEditable, IsGivenValue, IsLawfulEdit}
use Rattle.keep_edit_spec.specs.Look.{keys_in}
use Rattle.keep_edit_spec.specs.Refusals.{refusal}
use Rattle.keep_edit_spec.specs.Runs.{IsOfPlace, MakesChange}
use Rattle.keep_edit_spec.specs.TextChanges.{TextChange, place_of_change, IsWider}
use Rattle.keep_edit_spec.specs.declared.line_kind.LineKind.TheVariants.{LastInBody, OfDotted, WithHeader}
use Rattle.keep_edit_spec.proofs.EditLaws.{append_element_lawful, append_table_lawful, insert_lawful, place_ordered}
use Rattle.keep_edit_spec.proofs.EditLaws.{place_within, remove_lawful, rename_lawful, set_lawful}
use Rattle.keep_edit_spec.proofs.Lists.HeaderTaken.{has_bytes, table_taken}
use Rattle.keep_edit_spec.proofs.Lists.RemovedPlaces.{line_has_bytes}
use Rattle.keep_edit_spec.proofs.Lists.WiderChanges.{wider_put}

-- ---- what makes a change is lawful, and does so where it says

-- a change that is put in a text's place
pub same_place : (c : TextChange) → c.size ≡ 0 → put_in c.at c.new ≡ place_of_change c
same_place c none =
    ap (λ (e : ℕ). record { start = c.at; end = e; new = c.new })
    (let e : c.at ≡ c.at + c.size = omega (arith, none) in e)

-- what all kinds of lines have that an insert adds
pub record IsAdded (profile : Profile) (limit : ℕ) (s : Document) (path : List Part) (value : Value) (c : TextChange)
    : Type 0 where
  pub utf8 : AllByRecursion IsUtf8 (keys_in path)
  pub given : IsGivenValue Wide value
  pub allowed : refusal profile limit s (insert path value) ≡ None
  pub adds : c.size ≡ 0
  pub is : place s (insert path value) ≡ put_in c.at c.new

pub added : (profile : Profile) (limit : ℕ) (s : Document) (path : List Part) (value : Value) (c : TextChange)
    → MakesChange profile limit s (insert path value) c → IsAdded profile limit s path value c
added profile limit s path value c (LastInBody, h) =
    record { utf8 = h.utf8; given = h.given; allowed = h.allowed; adds = h.adds; is = h.is }
added profile limit s path value c (OfDotted, h) =
    record { utf8 = h.utf8; given = h.given; allowed = h.allowed; adds = h.adds; is = h.is }
added profile limit s path value c (WithHeader, h) =
    record { utf8 = h.utf8; given = h.given; allowed = h.allowed; adds = h.adds; is = h.is }

no_text : (c : TextChange) → c.new ≡ [] → record { start = c.at; end = c.at + c.size; new = [] } ≡ place_of_change c
no_text c none = ap (λ (t : List ℕ). record { start = c.at; end = c.at + c.size; new = t }) (sym none)

-- a change of just the place
just_the_place : (s : Document) (e : Edit) (c : TextChange) → place s e ≡ place_of_change c
    → IsWider (text s) (place s e) c
just_the_place s e c is = record {
  rest = 0;
  start = ap (λ (p : Place). p.start) (sym is);
  end = ap (λ (p : Place). p.end) (sym is) ∙ omega arith;
  within = omega (arith, place_within s e);
  new = ap (λ (p : Place). p.new) (sym is) ∙ sym (append-nil (place s e).new);
}

-- a remove takes bytes, from its place on
pub removes_there : (profile : Profile) (limit : ℕ) (s : Document) (path : List Part) (c : TextChange)
    → IsEditable profile limit s → MakesChange profile limit s (remove path) c
    → IsWider (text s) (place s (remove path)) c × (0 < c.size)
removes_there profile limit s path c fine (inl h) =
    (just_the_place s (remove path) c (h.is ∙ no_text c h.takes), (line_has_bytes profile limit s path c fine h).0)
removes_there profile limit s path c fine (inr (inl h)) = (h.is, omega (arith, h.some, h.is.start, h.is.end))
removes_there profile limit s path c fine (inr (inr h)) = (
  just_the_place s (remove path) c h.is,
  has_bytes profile limit s path c fine (table_taken profile limit s path c fine h),
)

pub change_is_there : (profile : Profile) (limit : ℕ) (s : Document) (e : Edit) (c : TextChange)
    → IsEditable profile limit s → MakesChange profile limit s e c → IsOfPlace s e c
change_is_there profile limit s (insert path value) c fine h =
    let a : IsAdded profile limit s path value c = added profile limit s path value c h in
    a.is ∙ same_place c a.adds
change_is_there profile limit s (remove path) c fine h = (removes_there profile limit s path c fine h).0
change_is_there profile limit s (set path value) c fine h = h.is
change_is_there profile limit s (rename path name) c fine h = h.is
change_is_there profile limit s (append_table keys) c fine h = h.is
change_is_there profile limit s (append_element keys) c fine h = h.is

pub change_allowed : (profile : Profile) (limit : ℕ) (s : Document) (e : Edit) (c : TextChange)
    → MakesChange profile limit s e c → refusal profile limit s e ≡ None
change_allowed profile limit s (insert path value) c h = (added profile limit s path value c h).allowed
change_allowed profile limit s (remove path) c (inl h) = h.allowed
change_allowed profile limit s (remove path) c (inr (inl h)) = h.allowed
change_allowed profile limit s (remove path) c (inr (inr h)) = h.allowed
change_allowed profile limit s (set path value) c h = h.allowed
change_allowed profile limit s (rename path name) c h = h.allowed
change_allowed profile limit s (append_table keys) c h = h.allowed
change_allowed profile limit s (append_element keys) c h = h.allowed

pub change_lawful : (profile : Profile) (limit : ℕ) (s : Document) (e : Edit) (c : TextChange)
    → IsEditable profile limit s → MakesChange profile limit s e c → IsLawfulEdit profile limit s e
change_lawful profile limit s (insert path value) c fine h =
    let a : IsAdded profile limit s path value c = added profile limit s path value c h in
    insert_lawful profile limit s path value fine a.given a.utf8 a.allowed
change_lawful profile limit s (remove path) c fine h =
    remove_lawful profile limit s path fine (change_allowed profile limit s (remove path) c h)
change_lawful profile limit s (set path value) c fine h = set_lawful profile limit s path value fine h.given h.allowed
change_lawful profile limit s (rename path name) c fine h =
    rename_lawful profile limit s path name fine h.utf8 h.allowed
change_lawful profile limit s (append_table keys) c fine h =
    append_table_lawful profile limit s keys fine h.utf8 h.allowed
change_lawful profile limit s (append_element keys) c fine h =
    append_element_lawful profile limit s keys fine h.utf8 h.allowed

-- ---- the place

pub within_text : (profile : Profile) (limit : ℕ) (s : Document) (e : Edit) (c : TextChange)
    → IsEditable profile limit s → MakesChange profile limit s e c → c.at + c.size ≤ length (text s)
within_text profile limit s e c fine h = by e (change_is_there profile limit s e c fine h)
  where
    inside : (a : Edit) → place s a ≡ place_of_change c → c.at + c.size ≤ length (text s)
    inside a is = subst (λ (p : Place). p.end ≤ length (text s)) is (place_within s a)

    by : (a : Edit) → IsOfPlace s a c → c.at + c.size ≤ length (text s)
    by (insert path value) is = inside (insert path value) is
    by (remove path) is = omega (arith, is.end, is.within)
    by (set path value) is = inside (set path value) is
    by (rename path name) is = inside (rename path name) is
    by (append_table keys) is = inside (append_table keys) is
    by (append_element keys) is = inside (append_element keys) is

-- the text with the edit is the text with the change
pub change_puts : (profile : Profile) (limit : ℕ) (s : Document) (e : Edit) (c : TextChange)
    → IsEditable profile limit s → MakesChange profile limit s e c
    → put (text s) (place s e) ≡ put (text s) (place_of_change c)
change_puts profile limit s e c fine h = by e (change_is_there profile limit s e c fine h)
  where
    by : (a : Edit) → IsOfPlace s a c → put (text s) (place s a) ≡ put (text s) (place_of_change c)
    by (insert path value) is = ap (put (text s)) is
    by (remove path) is = wider_put (text s) (place s (remove path)) c is (place_ordered s (remove path))
    by (set path value) is = ap (put (text s)) is
    by (rename path name) is = ap (put (text s)) is
    by (append_table keys) is = ap (put (text s)) is
    by (append_element keys) is = ap (put (text s)) is
