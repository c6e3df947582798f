-- A table or an element that a remove takes with its header: what both have in common.
--
-- Its header and body are a section of the lines, no value is at its path, and no header goes through it
-- (`table_taken`, `element_taken`). So the remove takes these lines and no more: the change of the text has their place
-- and their bytes (`at_is`, `size_is`, `new_is`), and the document is the one without them (`is_now`), which obeys the
-- rules.
--
-- Theorems: `table_taken`, `element_taken`; `its_place`, `at_is`, `size_is`, `new_is`, `has_bytes`; `is_now`,
-- `valid_now`, `rules_now`.
use Rattle.std.proofs.Common.{◌≡◌, ℕ, ◌+◌, ◌<◌, Bool, true, false, not, ◌&&◌, ◌||◌, List, [], ◌∷◌, ◌++◌, length}
use Rattle.std.proofs.Common.{refl, sym, ap, subst, ◌∙◌, arith, None, ◌⊎◌, inl, inr}
use Rattle.keep_types.specs.declared.leaf.Profile.{Profile}
use Rattle.keep_syntax.specs.Grammar.{IsDocument}
use Rattle.keep_syntax.specs.Tree.{Document, blank, bom_leaves, text, text_of}
use Rattle.keep_path.specs.Path.{Part}
use Rattle.keep_meaning.specs.Marks.{marks, start}
use Rattle.keep_meaning.specs.Meaning.{lines, mentions_in}
use Rattle.keep_meaning.specs.Nodes.{has, is_begun, is_define, is_passed, is_root, is_through}
use Rattle.keep_meaning.specs.Rules.{ObeysRules}
use Rattle.keep_edit_spec.specs.Changed.{Place}
use Rattle.keep_edit_spec.specs.Edits.{edited_document, place, remove}
use Rattle.keep_edit_spec.specs.Laws.{IsEditable, IsLawfulEdit}
use Rattle.keep_edit_spec.specs.Refusals.{has_value, refusal}
use Rattle.keep_edit_spec.specs.RemovedHeaders.{RemovesElement}
use Rattle.keep_edit_spec.specs.RemovedSections.{RemovesSection}
use Rattle.keep_edit_spec.specs.TextChanges.{TextChange, place_of_change}
use Rattle.keep_edit_spec.specs.TextEnds.{ends_in_newline}
use Rattle.keep_edit_spec.proofs.EditLaws.{remove_lawful}
use Rattle.keep_edit_spec.proofs.Common.Doubles.{IsMentioned, has_some}
use Rattle.keep_edit_spec.proofs.Common.LineLaws.{EndsInKey}
use Rattle.keep_edit_spec.proofs.Common.Marks.{rules_of_document}
use Rattle.keep_edit_spec.proofs.Common.Runs.{Rules, SomeOf}
use Rattle.keep_edit_spec.proofs.Common.SetLaw.{IsAloneAt}
use Rattle.keep_edit_spec.proofs.Common.TableThere as table_there
use Rattle.keep_edit_spec.proofs.Common.TableThere.{IsDefined, defined_ends}
use Rattle.keep_edit_spec.proofs.Common.ValueThere.{alone_of_has}
use Rattle.keep_edit_spec.proofs.Lists.HeaderLines.{last_blank}
use Rattle.keep_edit_spec.proofs.Lists.Places.{width, width_more}
use Rattle.keep_edit_spec.proofs.Lists.SectionAt as at_of
use Rattle.keep_edit_spec.proofs.Lists.SectionAt.{IsSectionAt, section_of}
use Rattle.keep_edit_spec.proofs.Lists.SectionsApart.{head_bytes}
use Rattle.keep_edit_spec.proofs.Remove.ElementThere as element_there
use Rattle.keep_edit_spec.proofs.Remove.ElementThere.{begun_alone}
use Rattle.keep_edit_spec.proofs.Remove.RemoveRefusal.{lines_begun, never_begun, no_both}
use Rattle.keep_edit_spec.proofs.Remove.RemoveWhole.{removable, shared_define}

-- A header defines the table, and none goes through it; or one begins the element, and none goes past it.
abbrev pub IsTable : List Part → Document → Type 0
IsTable path s = (has is_define path (mentions_in s) ≡ true) × (has is_through path (mentions_in s) ≡ false)

abbrev pub IsElement : List Part → Document → Type 0
IsElement path s = (has is_begun path (mentions_in s) ≡ true) × (has is_passed path (mentions_in s) ≡ false)

pub record IsHeaderTaken (profile : Profile) (limit : ℕ) (s : Document) (path : List Part) (c : TextChange)
    : Type 0 where
  pub at : IsSectionAt s path
  pub valueless : SomeOf (IsAloneAt path) (mentions_in s) → ⊥
  pub allowed : refusal profile limit s (remove path) ≡ None
  pub closed : ends_in_newline (text s) ≡ true
  pub is : place s (remove path) ≡ place_of_change c
  pub below_root : is_root path ≡ false

-- ---- a table's path ends in a key, an element's does not

pub not_begun : (s : Document) (path : List Part) → EndsInKey path → has is_begun path (mentions_in s) ≡ false
not_begun s path ends = by (has is_begun path (mentions_in s)) refl
  where
    by : (b : Bool) → has is_begun path (mentions_in s) ≡ b → has is_begun path (mentions_in s) ≡ false
    by false e = e
    by true e =
        absurd (never_begun path (mentions_in s) (lines_begun path ends start (lines s))
        (has_some is_begun path (mentions_in s) e))

pub element_ends : (s : Document) (path : List Part) → has is_begun path (mentions_in s) ≡ true → EndsInKey path → ⊥
element_ends s path begun ends = let no : has is_begun path (mentions_in s) ≡ false = not_begun s path ends in absurd cc

pub not_defined : (s : Document) (path : List Part) → has is_begun path (mentions_in s) ≡ true
    → has is_define path (mentions_in s) ≡ false
not_defined s path begun = by (has is_define path (mentions_in s)) refl
  where
    by : (b : Bool) → has is_define path (mentions_in s) ≡ b → has is_define path (mentions_in s) ≡ false
    by false e = e
    by true e =
        absurd (element_ends s path begun (defined_ends s path (has_some is_define path (mentions_in s) e)))

-- of the two kinds of pieces it is the one, where no value is
piece_of : (v d t b q : Bool) → (v || ((d && not t) || (b && not q))) ≡ true → (v ≡ true → ⊥)
    → ((d ≡ true) × (t ≡ false)) ⊎ ((b ≡ true) × (q ≡ false))
piece_of true d t b q h none = absurd (none refl)
piece_of false true false b q h none = inl (refl, refl)
piece_of false d t true false h none = inr (refl, refl)
piece_of false true true true true h none = absurd cc
piece_of false true true false q h none = absurd cc
piece_of false false t true true h none = absurd cc
piece_of false false t false q h none = absurd cc

module _ (profile : Profile) (limit : ℕ) (s : Document) (path : List Part) (c : TextChange)
    (fine : IsEditable profile limit s) where
  rules_then : Rules (mentions_in s)
  rules_then = rules_of_document s fine.obeys

  piece : refusal profile limit s (remove path) ≡ None → (SomeOf (IsAloneAt path) (mentions_in s) → ⊥)
      → IsTable path s ⊎ IsElement path s
  piece allowed valueless =
      piece_of (has_value path (mentions_in s)) (has is_define path (mentions_in s))
      (has is_through path (mentions_in s)) (has is_begun path (mentions_in s)) (has is_passed path (mentions_in s))
      (removable profile limit s path allowed).piece
      (λ e. valueless (alone_of_has path (mentions_in s) e))

  module _ (h : RemovesSection profile limit s path c) where
    defined : SomeOf (IsDefined path) (mentions_in s)
    defined = has_some is_define path (mentions_in s) h.defined

    pub table_ends : EndsInKey path
    table_ends = defined_ends s path defined

    no_value_there : SomeOf (IsAloneAt path) (mentions_in s) → ⊥
    no_value_there alone = no_both is_define shared_define path (mentions_in s) defined alone rules_then

    pub table_taken : IsHeaderTaken profile limit s path c
    table_taken = record {
      at = section_of s path (last_blank profile s fine.valid h.closed)
          (table_there.some_begins path start (lines s) defined).0;
      valueless = no_value_there;
      allowed = h.allowed;
      closed = h.closed;
      is = h.is;
      below_root = (removable profile limit s path h.allowed).below_root;
    }

    pub table_is : IsTable path s
    table_is = by (piece h.allowed no_value_there)
      where
        by : IsTable path s ⊎ IsElement path s → IsTable path s
        by (inl t) = t
        by (inr e) = absurd (element_ends s path e.0 table_ends)

  module _ (h : RemovesElement profile limit s path c) where
    begins_there : SomeOf (IsMentioned is_begun path) (mentions_in s)
    begins_there = has_some is_begun path (mentions_in s) h.begun

    no_item_there : SomeOf (IsAloneAt path) (mentions_in s) → ⊥
    no_item_there alone = begun_alone s path rules_then begins_there alone

    pub element_taken : IsHeaderTaken profile limit s path c
    element_taken = record {
      at = section_of s path (last_blank profile s fine.valid h.closed)
          (element_there.some_begins path start (lines s) begins_there);
      valueless = no_item_there;
      allowed = h.allowed;
      closed = h.closed;
      is = h.is;
      below_root = (removable profile limit s path h.allowed).below_root;
    }

    pub element_is : IsElement path s
    element_is = by (piece h.allowed no_item_there)
      where
        by : IsTable path s ⊎ IsElement path s → IsElement path s
        by (inr e) = e
        by (inl t) =
            let no : has is_define path (mentions_in s) ≡ false = not_defined s path h.begun in
            let yes : has is_define path (mentions_in s) ≡ true = t.0 in
            absurd cc

-- ---- what is taken

module _ (profile : Profile) (limit : ℕ) (s : Document) (path : List Part) (c : TextChange)
    (fine : IsEditable profile limit s) (h : IsHeaderTaken profile limit s path c) where
  pub rules : Rules (mentions_in s)
  rules = rules_of_document s fine.obeys

  pub empty : s.last.content ≡ blank
  empty = last_blank profile s fine.valid h.closed

  abbrev bom : ℕ
  bom = length (text_of (bom_leaves s.bom))

  pub its_place : place_of_change c ≡ record {
    start = bom + width h.at.first;
    end = (bom + width h.at.first) + width (h.at.head ∷ h.at.body);
    new = [];
  }
  its_place =
      sym h.is
      ∙ at_of.place_is s path h.at (at_of.bare s path h.valueless) (at_of.none_own s path h.valueless)

  pub at_is : c.at ≡ bom + width h.at.first
  at_is = ap (λ (p : Place). p.start) its_place

  pub size_is : c.size ≡ width (h.at.head ∷ h.at.body)
  size_is = omega (arith, at_is, ap (λ (p : Place). p.end) its_place)

  pub new_is : c.new ≡ []
  new_is = ap (λ (p : Place). p.new) its_place

  pub has_bytes : 0 < c.size
  has_bytes =
      omega (
        arith,
        size_is,
        width_more h.at.head h.at.body,
        head_bytes profile s.ended h.at.first h.at.head (h.at.body ++ h.at.more) fine.valid.ended h.at.was,
      )

  -- the document without it
  abbrev pub now : Document
  now = record { bom = s.bom; ended = h.at.first ++ h.at.more; last = s.last }

  pub is_now : edited_document s (remove path) ≡ now
  is_now = at_of.edited_is s path h.at (at_of.bare s path h.valueless) (at_of.none_own s path h.valueless)

  lawful : IsLawfulEdit profile limit s (remove path)
  lawful = remove_lawful profile limit s path fine h.allowed

  pub valid_now : IsDocument profile now
  valid_now = subst (IsDocument profile) is_now lawful.reads.valid

  pub rules_now : Rules (mentions_in now)
  rules_now =
      rules_of_document now (subst (λ (d : Document). ObeysRules (marks (mentions_in d))) is_now lawful.obeys)
