-- Of edits that are made at once, only an insert of a path makes the change of an insert that adds a line there.
--
-- Two edits that make the same change make the same text, and so the same document (`one_made`). After the insert the
-- path has a value there (ValueAdded). After an insert of another path that the path does not begin with, and after a
-- header, it has none, as before (`none_after`). If the path begins with the other one, that one has none after the
-- insert. What any other edit changes has bytes that go.
--
-- Theorem: `only_insert`.
use Rattle.std.proofs.Common.{◌≡◌, ◌≢◌, ℕ, ◌<◌, Bool, true, false, cond, ◌&&◌, List, [], ◌∷◌, ◌++◌, length}
use Rattle.std.proofs.Common.{refl, sym, ap, subst, ◌∙◌, length-append, arith, None, ◌⊎◌, inl, inr}
use Rattle.std.proofs.lemmas.List.{append-nil}
use Rattle.keep_types.specs.declared.leaf.Profile.{Profile}
use Rattle.keep_syntax.specs.Tree.{Document, Value}
use Rattle.keep_syntax.proofs.Shared.{one_document}
use Rattle.keep_path.specs.Path.{Part, index, same_path, strip}
use Rattle.keep_meaning.specs.Marks.{Mention, elements_of, header_path}
use Rattle.keep_meaning.specs.Meaning.{mentions_in, mentions_of_value}
use Rattle.keep_edit_spec.specs.Edits.{Edit, append_element, append_table, edited_document, insert, remove, rename, set}
use Rattle.keep_edit_spec.specs.Laws.{IsEditable}
use Rattle.keep_edit_spec.specs.Look.{holder}
use Rattle.keep_edit_spec.specs.Refusals.{has_value, tables_in}
use Rattle.keep_edit_spec.specs.Runs.{MakesChange}
use Rattle.keep_edit_spec.specs.TextChanges.{TextChange}
use Rattle.keep_edit_spec.specs.Trees.{a_table, fact_from, from, is_through_alone, source}
use Rattle.keep_edit_spec.proofs.EditLaws.{change_put}
use Rattle.keep_edit_spec.proofs.Common.Runs.{none_or_some, same_path-refl, same_path-sound, strip-sound}
use Rattle.keep_edit_spec.proofs.Lists.LineKinds.{keys_of_line}
use Rattle.keep_edit_spec.proofs.Lists.MadeChanges.{added, change_lawful, change_puts, removes_there}
use Rattle.keep_edit_spec.proofs.Lists.NewPaths.{InsertsKeys}
use Rattle.keep_edit_spec.proofs.Lists.Places.{item_none}
use Rattle.keep_edit_spec.proofs.Lists.SetAllowed.{value_of}
use Rattle.keep_edit_spec.proofs.Lists.ValueAdded.{has_then, no_value}
use Rattle.keep_edit_spec.proofs.Rename.RenamedPath.{short_disjoint}

-- two edits that make one change
one_made : (profile : Profile) (limit : ℕ) (s : Document) (e f : Edit) (c : TextChange) → IsEditable profile limit s
    → MakesChange profile limit s e c → MakesChange profile limit s f c → edited_document s e ≡ edited_document s f
one_made profile limit s e f c fine h k =
    one_document profile (edited_document s e) (edited_document s f)
    (change_lawful profile limit s e c fine h).reads.valid (change_lawful profile limit s f c fine k).reads.valid
    (change_put s e ∙ change_puts profile limit s e c fine h ∙ sym (change_puts profile limit s f c fine k)
    ∙ sym (change_put s f))

-- a header says a table, or nothing new
none_after : (ms new : List Mention) (b : Bool) (path : List Part) → has_value path ms ≡ false
    → value_of (fact_from ms new (cond b a_table (from path))) ≡ false
none_after ms new true path none = refl
none_after ms new false path none = none

module _ (profile : Profile) (limit : ℕ) (s : Document) (path : List Part) (value : Value) (c : TextChange)
    (fine : IsEditable profile limit s) (h : MakesChange profile limit s (insert path value) c) where
  abbrev new_keys : InsertsKeys profile limit s path value
  new_keys = keys_of_line h.0 profile limit s path value c h.1

  -- where the path has no value, the insert did not make the document
  not_made : (f : Edit) → MakesChange profile limit s f c
      → has_value path (mentions_in (edited_document s f)) ≡ false → ⊥
  not_made f k none =
      let has : has_value path (mentions_in (edited_document s f)) ≡ true =
      subst (λ (d : Document). has_value path (mentions_in d) ≡ true)
      (one_made profile limit s (insert path value) f c fine h k)
      (has_then profile limit s path value new_keys
      (change_lawful profile limit s (insert path value) c fine h)) in
      absurd cc

  was_none : has_value path (mentions_in s) ≡ false
  was_none = no_value profile limit s path value new_keys

  -- nor did an insert of a path that this one does not begin with
  not_below : (other : List Part) (more : Value) → MakesChange profile limit s (insert other more) c
      → strip other path ≡ None → ⊥
  not_below other more k clear =
      let ms : List Mention = mentions_in s in
      let its : InsertsKeys profile limit s other more = keys_of_line k.0 profile limit s other more c k.1 in
      let through : Bool = same_path path (holder other ms) && is_through_alone path ms in
      let own : source ms (insert other more) path ≡ cond through a_table (from path) =
      rw (item_none other (holder other ms) its.text its.more its.new ms, clear, source) refl in
      not_made (insert other more) k
      (ap value_of ((change_lawful profile limit s (insert other more) c fine k).tree path
      ∙ ap (fact_from ms (mentions_of_value more)) own)
      ∙ none_after ms (mentions_of_value more) through path was_none)

-- inserts of two paths that make one change
two_made : (profile : Profile) (limit : ℕ) (s : Document) (path other : List Part) (value more : Value) (c : TextChange)
    → IsEditable profile limit s → MakesChange profile limit s (insert path value) c
    → MakesChange profile limit s (insert other more) c → other ≢ path → ⊥
two_made profile limit s path other value more c fine h k differs = elim (none_or_some (strip other path)) [
  | inl clear ↦ not_below profile limit s path value c fine h other more k clear
  | inr (rest, e) ↦ longer rest (strip-sound other path rest e)
]
  where
    longer : (rest : List Part) → path ≡ other ++ rest → ⊥
    longer [] is = differs (sym (is ∙ append-nil other))
    longer (p ∷ ps) is =
        not_below profile limit s other more c fine k path value h
        (short_disjoint path other (omega (arith, ap length is, length-append other (p ∷ ps))))

module _ (profile : Profile) (limit : ℕ) (s : Document) (path : List Part) (value : Value) (c : TextChange)
    (fine : IsEditable profile limit s) (h : MakesChange profile limit s (insert path value) c) where
  other_insert : (other : List Part) (more : Value) (x : TextChange)
      → MakesChange profile limit s (insert other more) x → other ≢ path → x ≢ c
  other_insert other more x k differs same =
      two_made profile limit s path other value more c fine h
      (subst (MakesChange profile limit s (insert other more)) same k) differs

  none_taken : c.size ≡ 0
  none_taken = (added profile limit s path value c h).adds

  -- what takes bytes
  takes_some : (x : TextChange) → 0 < x.size → x ≢ c
  takes_some x some same = omega (arith, some, ap (λ (y : TextChange). y.size) same, none_taken)

  table_other : (keys : List (List ℕ)) (x : TextChange) → MakesChange profile limit s (append_table keys) x → x ≢ c
  table_other keys x k same =
      let makes : MakesChange profile limit s (append_table keys) c =
      subst (MakesChange profile limit s (append_table keys)) same k in
      not_made profile limit s path value c fine h (append_table keys) makes
      (ap value_of ((change_lawful profile limit s (append_table keys) c fine makes).tree path)
      ∙ none_after (mentions_in s) [] (same_path path (header_path (tables_in (mentions_in s)) [] keys)) path
      (was_none profile limit s path value c fine h))

  element_other : (keys : List (List ℕ)) (x : TextChange) → MakesChange profile limit s (append_element keys) x
      → x ≢ c
  element_other keys x k same =
      let makes : MakesChange profile limit s (append_element keys) c =
      subst (MakesChange profile limit s (append_element keys)) same k in
      let tables : List (List Part) = tables_in (mentions_in s) in
      let array : List Part = header_path tables [] keys in
      not_made profile limit s path value c fine h (append_element keys) makes
      (ap value_of ((change_lawful profile limit s (append_element keys) c fine makes).tree path)
      ∙ none_after (mentions_in s) [] (same_path path (array ++ index (elements_of array tables) ∷ [])) path
      (was_none profile limit s path value c fine h))

  -- the edit is an insert of the path, or makes another change
  pub only_insert : (f : Edit) (x : TextChange) → MakesChange profile limit s f x
      → ((more : Value) × (f ≡ insert path more)) ⊎ (x ≢ c)
  only_insert (insert other more) x k = by (same_path other path) refl
    where
      by : (b : Bool) → same_path other path ≡ b
          → ((new : Value) × (insert other more ≡ insert path new)) ⊎ (x ≢ c)
      by true e = inl (more, ap (λ (p : List Part). insert p more) (same_path-sound other path e))
      by false e = inr (other_insert other more x k (differs e))
        where
          differs : same_path other path ≡ false → other ≢ path
          differs apart same =
              let own : same_path other path ≡ true =
              ap (λ (p : List Part). same_path p path) same ∙ same_path-refl path in
              absurd cc
  only_insert (remove other) x k = inr (takes_some x (removes_there profile limit s other x fine k).1)
  only_insert (set other more) x k = inr (takes_some x k.some)
  only_insert (rename other name) x k = inr (takes_some x k.some)
  only_insert (append_table keys) x k = inr (table_other keys x k)
  only_insert (append_element keys) x k = inr (element_other keys x k)
