-- An insert that brings the header of its table brings it after edits at the end of the text, too, none of which is of
-- the table or below it.
--
-- Over one edit (`over_one`) it brings the same lines at some byte. A header that is appended passes by the table: then
-- they come where they came, maybe right before it (AheadOfAppended). Or it goes through the table: then they come at
-- the end, below it (BroughtBelow). An insert that brings a header where the lines come leaves them before that
-- (AheadOfBrought), and any other insert is as each that leaves it alone (StillMakes). Any other edit takes bytes, so
-- it is not at the end (`none_else`).
--
-- Theorems: `over_all`, `below_header`.
use Rattle.std.proofs.Common.{◌≡◌, ◌≢◌, ℕ, ◌+◌, ◌≤◌, Bool, true, false, List, [], ◌∷◌, length, map, All, refl, sym, ap}
use Rattle.std.proofs.Common.{subst, ◌∙◌, arith, Some, None, inl, inr}
use Rattle.std.specs.Prelude.{◌==◌, nat_lt}
use Rattle.std.proofs.lemmas.Bool.{eq-eqb, eqb-true, ltb-false, ltb-true}
use Rattle.std.proofs.lemmas.List.Elements.{All-head, All-tail}
use Rattle.keep_types.specs.declared.leaf.Profile.{Profile}
use Rattle.keep_syntax.specs.Tree.{Document, Value, text}
use Rattle.keep_path.specs.Path.{Part, key, strip, without_last}
use Rattle.keep_meaning.specs.Meaning.{mentions_in}
use Rattle.keep_edit_spec.specs.AddedLines.{first_new}
use Rattle.keep_edit_spec.specs.BroughtHeaders.{BringsHeader, StillBrings}
use Rattle.keep_edit_spec.specs.Edits.{Edit, append_element, append_table, edited_document, insert, remove, rename, set}
use Rattle.keep_edit_spec.specs.EndEdits.{AreAtEnd, EndEdit, GoesThrough, IsAtEnd, IsNotOf, document_with, end_change}
use Rattle.keep_edit_spec.specs.HeadersBelow.{GoThrough}
use Rattle.keep_edit_spec.specs.InsertKinds.{AddsAs, IsAfterAs, added_as, kind_of, table_of}
use Rattle.keep_edit_spec.specs.Laws.{IsEditable}
use Rattle.keep_edit_spec.specs.Look.{holder, keys_in}
use Rattle.keep_edit_spec.specs.Runs.{IsSeenStill, LeavesAlone, MakesChange, PassesBy, PassesTable, is_header}
use Rattle.keep_edit_spec.specs.Runs.{is_insert, seen}
use Rattle.keep_edit_spec.specs.TextChanges.{IsBeside, TextChange, change_at, moved, moved_by}
use Rattle.keep_edit_spec.specs.declared.line_kind.LineKind.{LineKind}
use Rattle.keep_edit_spec.specs.declared.line_kind.LineKind.TheVariants.{LastInBody, OfDotted, WithHeader}
use Rattle.keep_edit_spec.proofs.Rename.RenamedParts.{strip_self}
use Rattle.keep_edit_spec.proofs.Lists.AheadOfAppended.{adds_ahead_of_element, adds_ahead_of_table}
use Rattle.keep_edit_spec.proofs.Lists.AheadOfBrought.{brings_ahead}
use Rattle.keep_edit_spec.proofs.Lists.BroughtBelow.{brings_below_element, brings_below_table}
use Rattle.keep_edit_spec.proofs.Lists.EndJoined.{fine_after_one, length_behind}
use Rattle.keep_edit_spec.proofs.Lists.KeysThrough.{through_or_not}
use Rattle.keep_edit_spec.proofs.Lists.LineKinds.{as_of_kind, keys_of_line, kind_is, table_is}
use Rattle.keep_edit_spec.proofs.Lists.MadeChanges.{within_text}
use Rattle.keep_edit_spec.proofs.Lists.MadeStill.{brings_still}
use Rattle.keep_edit_spec.proofs.Lists.PlacesKept.{change_placed}
use Rattle.keep_edit_spec.proofs.Lists.StillMakes.{still_makes}

-- An edit that is no insert and appends no header is not at the end.
pub none_else : (profile : Profile) (limit : ℕ) (s : Document) (f : Edit) (at : ℕ) (new : List ℕ)
    → IsEditable profile limit s → MakesChange profile limit s f (change_at at 0 new) → is_insert f ≡ false
    → is_header f ≡ false → ⊥
none_else profile limit s f at new fine makes other no_header =
    elim ((change_placed profile limit s f (change_at at 0 new) fine makes).takes other) [
      | inl some ↦ absurd (omega (arith, some))
      | inr (head, there) ↦ (let both : true ≡ false = sym head ∙ no_header in absurd cc)
    ]

-- It brings these lines there at that byte, and its first new key is the same.
pub record BringsStill (profile : Profile) (limit : ℕ) (s now : Document) (path : List Part) (value : Value)
    (new : List ℕ) (at : ℕ) : Type 0 where
  pub brings : BringsHeader profile limit now path value (change_at at 0 new)
  pub first : first_new now path ≡ first_new s path

-- at some byte
abbrev pub BringsSomewhere : Profile → ℕ → Document → Document → List Part → Value → List ℕ → Type 0
BringsSomewhere profile limit s now path value new = (at : ℕ) × BringsStill profile limit s now path value new at

module _ (profile : Profile) (limit : ℕ) (s : Document) (path : List Part) (value : Value) (new : List ℕ)
    (table : List Part) (is_table : without_last (first_new s path) ≡ table)
    (is_keys : map key (keys_in table) ≡ table) where
  abbrev e : Edit
  e = insert path value

  -- ---- a document in which it does

  module _ (x : Document) (fine : IsEditable profile limit x) (at : ℕ)
      (b : BringsStill profile limit s x path value new at) where
    abbrev d : TextChange
    d = change_at at 0 new

    same_table : table_of (added_as x path d) ≡ table
    same_table = ap without_last b.first ∙ is_table

    holds : holder path (mentions_in x) ≡ table
    holds = sym (table_is profile limit x path value d (keys_of_line WithHeader profile limit x path value d b.brings))
        ∙ same_table

    kind_here : kind_of x path ≡ WithHeader
    kind_here = kind_is WithHeader profile limit x path value d b.brings

    within : at + 0 ≤ length (text x)
    within = within_text profile limit x e d fine (WithHeader, b.brings)

    -- what it does in another document, by that one
    still_there : (now : Document) (n : ℕ) → BringsHeader profile limit now path value (change_at n 0 new)
        → IsSeenStill x now e → BringsStill profile limit s now path value new n
    still_there now n brings still = record { brings = brings; first = still.0 ∙ b.first }

    still_brings : (now : Document) (n : ℕ) → StillBrings profile limit x now path value (change_at n 0 new)
        → BringsStill profile limit s now path value new n
    still_brings now n h =
        still_there now n h.0 (brings_still profile limit x now path value d (change_at n 0 new) b.brings h).1

    -- ---- after a header

    passes_by : (keys : List (List ℕ)) → PassesBy keys (first_new s path) → PassesBy keys (first_new x path)
    passes_by keys = subst (PassesBy keys) (sym b.first)

    goes_below : (keys : List (List ℕ)) → GoThrough keys table → GoThrough keys (holder path (mentions_in x))
    goes_below keys = subst (GoThrough keys) (sym holds)

    passes_table : (keys : List (List ℕ)) → PassesBy keys table → PassesTable keys (added_as x path d)
    passes_table keys passes is = subst (PassesBy keys) (sym same_table) passes

    -- ---- after another insert

    module _ (other : List Part) (more : Value) (c : TextChange) (end : c.at ≡ length (text x)) (none : c.size ≡ 0)
        (apart : strip table (without_last (first_new x other)) ≡ None)
        (alone : first_new x other ≢ first_new s path) where
      abbrev then : Document
      then = edited_document x (insert other more)

      differs : first_new x other ≢ first_new x path
      differs same = alone (same ∙ b.first)

      beside : IsBeside c d
      beside = by (nat_lt at c.at) refl
        where
          by : (t : Bool) → nat_lt at c.at ≡ t → IsBeside c d
          by true is = let less = ltb-true at c.at is in inr (less, omega (arith, less))
          by false is = inl (omega (arith, ltb-false at c.at is, none))

      not_in_table : table_of (added_as x other c) ≢ table_of (added_as x path d)
      not_in_table same =
          let some : strip table (without_last (first_new x other)) ≡ Some [] =
          ap (strip table) (same ∙ same_table) ∙ strip_self table in
          let both : None ≡ Some [] = sym apart ∙ some in
          absurd cc

      -- where it leaves the lines where they are, or moves them on
      as_any : (kind : LineKind) → AddsAs kind profile limit x other more c → (kind ≡ WithHeader → c.at ≢ at)
          → BringsSomewhere profile limit s then path value new
      as_any kind k far =
          let order : IsAfterAs WithHeader (added_as x other c) (added_as x path d) =
          λ head. (far (sym (kind_is kind profile limit x other more c k) ∙ head), not_in_table) in
          let (makes, still) =
          still_makes profile limit x (insert other more) c e d fine (kind, k) (WithHeader, b.brings) differs beside (
            (λ after. absurd cc),
            subst (λ (a : LineKind). IsAfterAs a (added_as x other c) (added_as x path d)) (sym kind_here) order,
          ) in (
            moved_by c at,
            still_there then (moved_by c at)
                (as_of_kind WithHeader profile limit then path value (moved c d) (still.1 ∙ kind_here) makes) still,
          )

      -- where it brings its own header right there
      ahead : BringsHeader profile limit x other more c → c.at ≡ at
          → BringsSomewhere profile limit s then path value new
      ahead k same =
          let its : holder other (mentions_in x) ≡ without_last (first_new x other) =
          sym (table_is profile limit x other more c (keys_of_line WithHeader profile limit x other more c k)) in (
            at,
            still_brings then at
                (brings_ahead profile limit x other more c path value d fine k b.brings
                (ap (λ (q : List Part). strip q (holder other (mentions_in x))) holds ∙ ap (strip table) its ∙ apart)
                same),
          )

      after_insert : (kind : LineKind) → AddsAs kind profile limit x other more c
          → BringsSomewhere profile limit s then path value new
      after_insert LastInBody k = as_any LastInBody k (λ same. absurd cc)
      after_insert OfDotted k = as_any OfDotted k (λ same. absurd cc)
      after_insert WithHeader k = by (c.at == at) refl
        where
          by : (t : Bool) → (c.at == at) ≡ t → BringsSomewhere profile limit s then path value new
          by true is = ahead k (eqb-true c.at at is)
          by false is =
              as_any WithHeader k (λ head same. (let both : false ≡ true = sym is ∙ eq-eqb c.at at same in absurd cc))

    -- ---- after any edit at the end

    module _ (t : EndEdit) (end : IsAtEnd profile limit x t) where
      abbrev its : TextChange
      its = end_change x t

      over_edit : (f : Edit) → MakesChange profile limit x f its → IsNotOf table (seen x f)
          → LeavesAlone (seen x f) (seen s e) → BringsSomewhere profile limit s (edited_document x f) path value new
      over_edit (insert other more) (kind, k) apart alone =
          after_insert other more its refl refl apart alone kind k
      over_edit (append_table keys) makes apart alone = elim (through_or_not keys table is_keys) [
        | inl passes ↦
            (let h =
            adds_ahead_of_table profile limit x keys its WithHeader path value d fine makes b.brings
            (passes_by keys alone) (passes_table keys passes) in
            (at, still_there (edited_document x (append_table keys)) at h.0 h.1))
        | inr (inl same) ↦ absurd (apart same)
        | inr (inr goes) ↦ (
          length (text x) + length t.new,
          still_brings (edited_document x (append_table keys)) (length (text x) + length t.new)
              (brings_below_table profile limit x keys its path value d fine makes b.brings (passes_by keys alone)
              (goes_below keys goes)),
        )
      ]
      over_edit (append_element keys) makes apart alone = elim (through_or_not keys table is_keys) [
        | inl passes ↦
            (let h =
            adds_ahead_of_element profile limit x keys its WithHeader path value d fine makes b.brings
            (passes_by keys alone) (passes_table keys passes) in
            (at, still_there (edited_document x (append_element keys)) at h.0 h.1))
        | inr (inl same) ↦ absurd (apart same)
        | inr (inr goes) ↦ (
          length (text x) + length t.new,
          still_brings (edited_document x (append_element keys)) (length (text x) + length t.new)
              (brings_below_element profile limit x keys its path value d fine makes b.brings (passes_by keys alone)
              (goes_below keys goes)),
        )
      ]
      over_edit (set other more) makes apart alone =
          absurd (none_else profile limit x (set other more) (length (text x)) t.new fine makes refl refl)
      over_edit (rename other name) makes apart alone =
          absurd (none_else profile limit x (rename other name) (length (text x)) t.new fine makes refl refl)
      over_edit (remove other) makes apart alone =
          absurd (none_else profile limit x (remove other) (length (text x)) t.new fine makes refl refl)

      over_one : IsNotOf table t.seen → LeavesAlone t.seen (seen s e)
          → BringsSomewhere profile limit s (edited_document x t.edit) path value new
      over_one apart alone =
          over_edit t.edit end.makes (subst (IsNotOf table) (sym end.seen_is) apart)
          (subst (λ (f : Edit). LeavesAlone f (seen s e)) (sym end.seen_is) alone)

      -- ---- after a header that goes through the table: at the end

      below_edit : (f : Edit) → MakesChange profile limit x f its → GoesThrough table f
          → LeavesAlone (seen x f) (seen s e)
          → BringsStill profile limit s (edited_document x f) path value new (length (text x) + length t.new)
      below_edit (append_table keys) makes goes alone =
          still_brings (edited_document x (append_table keys)) (length (text x) + length t.new)
          (brings_below_table profile limit x keys its path value d fine makes b.brings (passes_by keys alone)
          (goes_below keys goes))
      below_edit (append_element keys) makes goes alone =
          still_brings (edited_document x (append_element keys)) (length (text x) + length t.new)
          (brings_below_element profile limit x keys its path value d fine makes b.brings (passes_by keys alone)
          (goes_below keys goes))
      below_edit (insert other more) makes goes alone = absurd goes
      below_edit (set other more) makes goes alone = absurd goes
      below_edit (rename other name) makes goes alone = absurd goes
      below_edit (remove other) makes goes alone = absurd goes

      pub below_header : GoesThrough table t.edit → LeavesAlone t.seen (seen s e)
          → BringsStill profile limit s (edited_document x t.edit) path value new
          (length (text (edited_document x t.edit)))
      below_header goes alone =
          subst (BringsStill profile limit s (edited_document x t.edit) path value new)
          (sym (length_behind profile limit x t fine end))
          (below_edit t.edit end.makes goes (subst (λ (f : Edit). LeavesAlone f (seen s e)) (sym end.seen_is) alone))

  -- ---- after all

  pub over_all : (x : Document) (ts : List EndEdit) → IsEditable profile limit x
      → BringsSomewhere profile limit s x path value new → AreAtEnd profile limit x ts
      → All (λ t. IsNotOf table t.seen) ts → All (λ t. LeavesAlone t.seen (seen s e)) ts
      → BringsSomewhere profile limit s (document_with x ts) path value new
  over_all x [] fine b ends apart alone = b
  over_all x (t ∷ ts) fine (at, b) ends apart alone =
      over_all (edited_document x t.edit) ts (fine_after_one profile limit x t fine ends.0)
      (over_one x fine at b t ends.0 (All-head (λ (u : EndEdit). IsNotOf table u.seen) t ts apart)
      (All-head (λ (u : EndEdit). LeavesAlone u.seen (seen s e)) t ts alone)) ends.1
      (All-tail (λ (u : EndEdit). IsNotOf table u.seen) t ts apart)
      (All-tail (λ (u : EndEdit). LeavesAlone u.seen (seen s e)) t ts alone)
