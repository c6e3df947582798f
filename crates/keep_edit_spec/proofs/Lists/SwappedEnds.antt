-- An edit, and one that writes at the end of the text: either may be made first.
--
-- The one at the end adds a line or appends a header, so what is left alone by it leaves it alone, too (`left_back`).
-- After the other edit it makes its change where that moves it, which is the end of the text again (`at_end_again`, by
-- StillMakes): the first newline is a line feed before and after, and lines come in order (`in_order_after`). The other
-- edit makes its change after it where it did: before the end of the text by StillMakes (`made_sooner`); at the end,
-- where it adds a line, ahead of the header (`ahead_of_header`, by AheadOfAppended). Both ways give one document
-- (EndTexts).
--
-- Theorem: `swap_end`.
use Rattle.std.proofs.Common.{◌≡◌, ◌≢◌, ℕ, ◌+◌, ◌<◌, ◌≤◌, Bool, true, false, ◌&&◌, ◌||◌, List, [], length, Option}
use Rattle.std.proofs.Common.{map, refl, sym, ap, subst, ◌∙◌, arith, inl, inr, Some, None}
use Rattle.std.specs.Prelude.{IsTrue}
use Rattle.std.proofs.lemmas.Bool.{cases_lt, lt-ltb}
use Rattle.keep_types.specs.declared.leaf.Profile.{Profile}
use Rattle.keep_syntax.specs.Tree.{Document, element, header, text}
use Rattle.keep_path.specs.Path.{Part, key, strip}
use Rattle.keep_edit_spec.specs.AddedLines.{first_new}
use Rattle.keep_edit_spec.specs.Edits.{Edit, append_element, append_table, edited_document, insert, key_with, remove}
use Rattle.keep_edit_spec.specs.Edits.{rename, set}
use Rattle.keep_edit_spec.specs.EndEdits.{EndEdit, IsAtEnd, LetsEdit, end_change}
use Rattle.keep_edit_spec.specs.InsertKinds.{Added, IsAfterAs, added_as, kind_of, table_of}
use Rattle.keep_edit_spec.specs.Laws.{IsEditable}
use Rattle.keep_edit_spec.specs.Look.{keys_in}
use Rattle.keep_edit_spec.specs.Runs.{ComesInOrder, IsNoSecond, IsSeenStill, IsStillPlaced, LeavesAlone}
use Rattle.keep_edit_spec.specs.Runs.{MakesChange, PassesTable, StaysPlaced, is_header, is_insert, is_new_after, seen}
use Rattle.keep_edit_spec.specs.TextChanges.{TextChange, change_at, moved_by}
use Rattle.keep_edit_spec.specs.declared.line_kind.LineKind.{LineKind}
use Rattle.keep_edit_spec.specs.declared.line_kind.LineKind.TheVariants.{LastInBody, OfDotted, WithHeader}
use Rattle.keep_edit_spec.proofs.Lists.AheadOfAppended.{adds_ahead_of_element, adds_ahead_of_table}
use Rattle.keep_edit_spec.proofs.Lists.BehindLine.{element_back, insert_back, table_back}
use Rattle.keep_edit_spec.proofs.Lists.EndTexts.{end_again, end_editable, header_or_line, same_made, same_newline}
use Rattle.keep_edit_spec.proofs.Lists.HeaderLines.{newline_again}
use Rattle.keep_edit_spec.proofs.Lists.MadeChanges.{within_text}
use Rattle.keep_edit_spec.proofs.Lists.StillMakes.{still_makes}
use Rattle.keep_edit_spec.proofs.Lists.TextsAfter.{PutsChange, made_puts}
use Rattle.keep_edit_spec.proofs.Rename.RenamedParts.{strip_self}
use Rattle.keep_edit_spec.specs.FirstNewline.{HasFirst}

-- An edit and one at the end of the text, in either order.
pub record IsSwapped (profile : Profile) (limit : ℕ) (s : Document) (e : Edit) (c : TextChange) (t : EndEdit)
    : Type 0 where
  pub ends : IsAtEnd profile limit (edited_document s e) t
  pub makes : MakesChange profile limit (edited_document s t.edit) e c
  pub still : IsSeenStill s (edited_document s t.edit) e
  pub same : edited_document (edited_document s e) t.edit ≡ edited_document (edited_document s t.edit) e

-- ---- what leaves alone

-- An edit that an insert or a header leaves alone leaves it alone, too.
left_back : (s : Document) (f e : Edit) → (is_insert f ≡ false → is_header f ≡ true)
    → LeavesAlone (seen s f) (seen s e) → LeavesAlone (seen s e) (seen s f)
left_back s (insert path value) e adds h = insert_back (first_new s path) value (seen s e) h
left_back s (append_table keys) e adds h = table_back keys (seen s e) h
left_back s (append_element keys) e adds h = element_back keys (seen s e) h
left_back s (remove path) e adds h = (let head = adds refl in absurd cc)
left_back s (set path value) e adds h = (let head = adds refl in absurd cc)
left_back s (rename path name) e adds h = (let head = adds refl in absurd cc)

-- ---- lines in order

-- an edit that writes this at the end, as others see it
abbrev known : Document → Edit → List ℕ → EndEdit
known s f new = record { edit = f; seen = seen s f; new = new }

-- A header that passes by the table of a line is not that of the table.
not_second : (keys : List (List ℕ)) (l : Added) → PassesTable keys l → IsNoSecond keys l
not_second keys l passes is same =
    let own : List Part = map key (keys_in (table_of l)) in
    let self : strip own (map key keys) ≡ Some [] =
    ap (λ (ks : List (List ℕ)). strip own (map key ks)) same ∙ strip_self own in
    let none : strip own (map key keys) ≡ None = passes is in
    absurd cc

-- one at the end comes after a line in order
in_order_after : (s : Document) (e : Edit) (c : TextChange) (f : Edit) (d : TextChange) (new : List ℕ)
    → is_header e ≡ false → LetsEdit s e c (known s f new) → (c.at ≡ d.at → is_header f ≡ true)
    → ComesInOrder s f d e c
in_order_after s (insert path value) c (insert other more) d new no_head lets first = by (kind_of s other)
  where
    apart : c.at ≢ d.at
    apart same = (let head = first same in absurd cc)

    by : (a : LineKind) → IsAfterAs a (added_as s path c) (added_as s other d)
    by LastInBody = λ same. absurd (apart same)
    by OfDotted = λ same. absurd (apart same)
    by WithHeader = λ is. (apart, lets is)
in_order_after s (insert path value) c (append_table keys) d new no_head lets first =
    not_second keys (added_as s path c) lets
in_order_after s (insert path value) c (append_element keys) d new no_head lets first =
    not_second keys (added_as s path c) lets
in_order_after s (append_table keys) c f d new no_head lets first = absurd cc
in_order_after s (append_element keys) c f d new no_head lets first = absurd cc
in_order_after s (remove path) c (insert other more) d new no_head lets first = tt
in_order_after s (remove path) c (append_table keys) d new no_head lets first = tt
in_order_after s (remove path) c (append_element keys) d new no_head lets first = tt
in_order_after s (set path value) c (insert other more) d new no_head lets first = tt
in_order_after s (set path value) c (append_table keys) d new no_head lets first = tt
in_order_after s (set path value) c (append_element keys) d new no_head lets first = tt
in_order_after s (rename path name) c (insert other more) d new no_head lets first = tt
in_order_after s (rename path name) c (append_table keys) d new no_head lets first = tt
in_order_after s (rename path name) c (append_element keys) d new no_head lets first = tt
in_order_after s e c (remove other) d new no_head lets first = tt
in_order_after s e c (set other more) d new no_head lets first = tt
in_order_after s e c (rename other name) d new no_head lets first = tt

-- and a line elsewhere after one at the end
in_order_ahead : (s : Document) (e : Edit) (c : TextChange) (f : Edit) (d : TextChange) (new : List ℕ)
    → is_header e ≡ false → LetsEdit s e c (known s f new) → d.at ≢ c.at → ComesInOrder s e c f d
in_order_ahead s (insert path value) c (insert other more) d new no_head lets differs = by (kind_of s path) refl
  where
    by : (a : LineKind) → kind_of s path ≡ a → IsAfterAs a (added_as s other d) (added_as s path c)
    by LastInBody is = λ same. absurd (differs same)
    by OfDotted is = λ same. absurd (differs same)
    by WithHeader is = λ head. (differs, λ same. lets is (sym same))
in_order_ahead s (insert path value) c (append_table keys) d new no_head lets differs = lets
in_order_ahead s (insert path value) c (append_element keys) d new no_head lets differs = lets
in_order_ahead s (insert path value) c (remove other) d new no_head lets differs = tt
in_order_ahead s (insert path value) c (set other more) d new no_head lets differs = tt
in_order_ahead s (insert path value) c (rename other name) d new no_head lets differs = tt
in_order_ahead s (append_table keys) c f d new no_head lets differs = absurd cc
in_order_ahead s (append_element keys) c f d new no_head lets differs = absurd cc
in_order_ahead s (remove path) c f d new no_head lets differs = tt
in_order_ahead s (set path value) c f d new no_head lets differs = tt
in_order_ahead s (rename path name) c f d new no_head lets differs = tt

-- ---- the two edits

-- Each makes its change, and the edit may come before the one at the end.
record MayComeFirst (profile : Profile) (limit : ℕ) (s : Document) (e : Edit) (c : TextChange) (t : EndEdit)
    : Type 0 where
  fine : IsEditable profile limit s
  ends : IsAtEnd profile limit s t
  makes : MakesChange profile limit s e c
  other : is_header e ≡ false
  alone : LeavesAlone (seen s t.edit) (seen s e)
  lets : LetsEdit s e c (known s t.edit t.new)
  clear : is_insert e ≡ false → c.at + c.size ≢ length (text s)
  first : c.at ≡ length (text s) → is_header t.edit ≡ true

abbrev IsMadeThere : Profile → ℕ → Document → Edit → TextChange → Edit → Type 0
IsMadeThere profile limit s e c f =
    MakesChange profile limit (edited_document s f) e c × IsSeenStill s (edited_document s f) e

-- an edit that is no header is none that comes anew after an insert
none_new : (line head : Bool) → ((line && false) || (head && true)) ≡ true → head ≡ false → ⊥
none_new true true is no_head = absurd cc
none_new true false is no_head = absurd cc
none_new false true is no_head = absurd cc
none_new false false is no_head = absurd cc

module _ (profile : Profile) (limit : ℕ) (s : Document) (e : Edit) (c : TextChange) (t : EndEdit)
    (h : MayComeFirst profile limit s e c t) where
  abbrev d : TextChange
  d = end_change s t

  puts : PutsChange profile limit s e c
  puts = made_puts profile limit s e c h.fine h.makes

  adds : is_insert t.edit ≡ false → is_header t.edit ≡ true
  adds = header_or_line profile limit s t h.fine h.ends

  -- the one at the end after the other
  module _ (line : Option (List ℕ)) (has : HasFirst line s) (still : HasFirst line (edited_document s e)) where
    placed_after : IsStillPlaced s e c t.edit d
    placed_after = (
      λ after. (same_newline profile limit s e c puts h.fine line has still, λ other. inl (h.clear other)),
      in_order_after s e c t.edit d t.new h.other h.lets h.first,
    )

    at_end_again : IsAtEnd profile limit (edited_document s e) t
    at_end_again =
        end_again profile limit s e c puts t h.ends
        (still_makes profile limit s e c t.edit d h.fine h.makes h.ends.makes (left_back s t.edit e adds h.alone)
        (inl puts.within) placed_after)

  -- the other after the one at the end, where it comes before the end of the text
  module _ (less : c.at < length (text s)) where
    begins_apart : d.at + d.size ≢ c.at
    begins_apart same = omega (arith, less, same)

    stays : (f : Edit) → (is_insert f ≡ false → is_header f ≡ true) → MakesChange profile limit s f d
        → IsTrue (is_new_after f e) → StaysPlaced s f d e c
    stays (insert path value) adds k after = absurd (none_new (is_insert e) (is_header e) after h.other)
    stays (append_table keys) adds k after =
        (newline_again profile s h.fine.valid k.closed (header [] (key_with keys) []), λ no_line. inl begins_apart)
    stays (append_element keys) adds k after =
        (newline_again profile s h.fine.valid k.closed (element [] (key_with keys) []), λ no_line. inl begins_apart)
    stays (remove path) adds k after = (let head = adds refl in absurd cc)
    stays (set path value) adds k after = (let head = adds refl in absurd cc)
    stays (rename path name) adds k after = (let head = adds refl in absurd cc)

    made_sooner : IsMadeThere profile limit s e c t.edit
    made_sooner =
        let unmoved : moved_by d c.at ≡ c.at = rw (lt-ltb c.at (length (text s)) less) refl in
        let (there, still) =
        still_makes profile limit s t.edit d e c h.fine h.ends.makes h.makes h.alone (inr (less, puts.within)) (
          stays t.edit adds h.ends.makes,
          in_order_ahead s e c t.edit d t.new h.other h.lets (λ same. omega (arith, less, same)),
        ) in (
          subst (λ (n : ℕ). MakesChange profile limit (edited_document s t.edit) e (change_at n c.size c.new)) unmoved
              there,
          still,
        )

-- a line, where a header is appended at the end
ahead_of_header : (profile : Profile) (limit : ℕ) (s : Document) (e : Edit) (c : TextChange) (f : Edit)
    (d : TextChange) (new : List ℕ)
    → IsEditable profile limit s → MakesChange profile limit s e c → MakesChange profile limit s f d
    → is_insert e ≡ true → is_header f ≡ true → LeavesAlone (seen s f) (seen s e) → LetsEdit s e c (known s f new)
    → IsMadeThere profile limit s e c f
ahead_of_header profile limit s (insert path value) c (append_table keys) d new fine (kind, h) k line head apart
    passes =
    let (there, still) = adds_ahead_of_table profile limit s keys d kind path value c fine k h apart passes in
    ((kind, there), still)
ahead_of_header profile limit s (insert path value) c (append_element keys) d new fine (kind, h) k line head apart
    passes =
    let (there, still) = adds_ahead_of_element profile limit s keys d kind path value c fine k h apart passes in
    ((kind, there), still)
ahead_of_header profile limit s e c (insert path value) d new fine h k line head apart passes = absurd cc
ahead_of_header profile limit s e c (remove path) d new fine h k line head apart passes = absurd cc
ahead_of_header profile limit s e c (set path value) d new fine h k line head apart passes = absurd cc
ahead_of_header profile limit s e c (rename path name) d new fine h k line head apart passes = absurd cc
ahead_of_header profile limit s (remove path) c f d new fine h k line head apart passes = absurd cc
ahead_of_header profile limit s (set path value) c f d new fine h k line head apart passes = absurd cc
ahead_of_header profile limit s (rename path name) c f d new fine h k line head apart passes = absurd cc
ahead_of_header profile limit s (append_table keys) c f d new fine h k line head apart passes = absurd cc
ahead_of_header profile limit s (append_element keys) c f d new fine h k line head apart passes = absurd cc

made_there : (profile : Profile) (limit : ℕ) (s : Document) (e : Edit) (c : TextChange) (t : EndEdit)
    → MayComeFirst profile limit s e c t → IsMadeThere profile limit s e c t.edit
made_there profile limit s e c t h = elim (cases_lt c.at (length (text s))) [
  | inl less ↦ made_sooner profile limit s e c t h less
  | inr up ↦
      let at : length (text s) ≡ c.at = omega (arith, up, within) in
      ahead_of_header profile limit s e c t.edit (end_change s t) t.new h.fine h.makes h.ends.makes
      (adds_line at (is_insert e) refl) (h.first (sym at)) h.alone h.lets
]
  where
    within : c.at + c.size ≤ length (text s)
    within = within_text profile limit s e c h.fine h.makes

    -- at the end it takes nothing, so it is an insert
    adds_line : length (text s) ≡ c.at → (b : Bool) → is_insert e ≡ b → is_insert e ≡ true
    adds_line at true is = is
    adds_line at false is = absurd (h.clear is (omega (arith, at, within)))

-- ---- both

pub swap_end : (profile : Profile) (limit : ℕ) (s : Document) (e : Edit) (c : TextChange) (t : EndEdit)
    → IsEditable profile limit s → IsAtEnd profile limit s t → MakesChange profile limit s e c
    → is_header e ≡ false → LeavesAlone t.seen (seen s e) → LetsEdit s e c t
    → (line : Option (List ℕ)) → HasFirst line s → HasFirst line (edited_document s e)
    → (is_insert e ≡ false → c.at + c.size ≢ length (text s))
    → (c.at ≡ length (text s) → is_header t.edit ≡ true)
    → IsSwapped profile limit s e c t
swap_end profile limit s e c t fine ends makes other left lets line has still clear first =
    let h : MayComeFirst profile limit s e c t = record {
      fine = fine;
      ends = ends;
      makes = makes;
      other = other;
      alone = subst (λ (f : Edit). LeavesAlone f (seen s e)) (sym ends.seen_is) left;
      lets = subst (λ (f : Edit). LetsEdit s e c (record t { seen = f })) (sym ends.seen_is) lets;
      clear = clear;
      first = first;
    } in
    let there : IsMadeThere profile limit s e c t.edit = made_there profile limit s e c t h in
    let again : IsAtEnd profile limit (edited_document s e) t = at_end_again profile limit s e c t h line has still in
    record {
      ends = again;
      makes = there.0;
      still = there.1;
      same = same_made profile limit s e c (made_puts profile limit s e c fine makes) t ends fine again
          (made_puts profile limit (edited_document s t.edit) e c (end_editable profile limit s t fine ends) there.0);
    }
