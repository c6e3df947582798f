-- A remove that takes a line, or leaves it with its comment, makes the same change after a set made its own elsewhere.
--
-- The set gives one keyval another value. Its line is read as before, it is the own line of the same path, and its
-- comment stays. So the line with the number that the remove had is still the last own line of its path (`own_now`),
-- and no line of that path has a comment if none had (`bare_now`). So the remove takes its line at the moved place
-- (StaysBeside). The line of the set is the other path's own neither before nor after (`line_apart`), so a line that is
-- cleared is found as before (`stays`).
--
-- Theorems: `remove_after_set`, `clear_after_set`.
use Rattle.std.proofs.Common.{◌≡◌, ℕ, ◌≤◌, Bool, true, false, List, [], ◌++◌, length, refl, sym, ap, subst, ◌∙◌, Option}
use Rattle.std.proofs.Common.{Some, None}
use Rattle.keep_syntax.specs.Tree.{Content, Document, Line, Name, Value, blank, bom_leaves, comment_leaves, element}
use Rattle.keep_syntax.specs.Tree.{header, keyval, name_leaves, text, text_of}
use Rattle.keep_path.specs.Path.{Part, strip}
use Rattle.keep_meaning.specs.Marks.{Reading, marks, start}
use Rattle.keep_meaning.specs.Meaning.{after_line, lines, mentions_in, step}
use Rattle.keep_meaning.specs.Rules.{ObeysRules}
use Rattle.keep_edit_spec.specs.Changed.{Changed, Place, framed_change, put, within}
use Rattle.keep_edit_spec.specs.ClearedLines.{ClearsLine}
use Rattle.keep_edit_spec.specs.Edits.{change, changed_or_same, clear_line, edited_document, is_own, set}
use Rattle.keep_edit_spec.specs.Laws.{IsLawfulEdit}
use Rattle.keep_edit_spec.specs.Lines.{Page, in_content, in_document, in_line, in_lines, last_line, with_page}
use Rattle.keep_edit_spec.proofs.Lists.TwoKinds.{RemoveAfterSet}
use Rattle.keep_edit_spec.specs.RemovedLines.{RemovesLine}
use Rattle.keep_edit_spec.specs.TextChanges.{moved}
use Rattle.keep_edit_spec.specs.Values.{in_value, replacement}
use Rattle.keep_edit_spec.specs.Runs.{AreApart}
use Rattle.keep_edit_spec.proofs.EditLaws.{change_put, place_within, set_lawful}
use Rattle.keep_edit_spec.proofs.Common.DoneAtValue.{EachOf}
use Rattle.keep_edit_spec.proofs.Common.LineTexts.{clear_line-is, in_line-is}
use Rattle.keep_edit_spec.proofs.Common.SetLaw.{EachTo, to_within}
use Rattle.keep_edit_spec.proofs.Common.Texts.{replacement-is}
use Rattle.keep_edit_spec.proofs.Lists.ClearStays.{not_cleared}
use Rattle.keep_edit_spec.proofs.Lists.ClearedKinds.{ClearAfterSet}
use Rattle.keep_edit_spec.proofs.Lists.LineStarts.{LinesBegin, set_lines_begin}
use Rattle.keep_edit_spec.proofs.Lists.LinesReplaced.{clear_alike, last_stays, none_stays, value_line}
use Rattle.keep_edit_spec.proofs.Lists.RemovedPlaces.{mine}
use Rattle.keep_edit_spec.proofs.Lists.RenamePlaces.{change_at, placed}
use Rattle.keep_edit_spec.proofs.Lists.SetPlaces.{EachStays, Stays, document_stays, reading_stays, stays_as}
use Rattle.keep_edit_spec.proofs.Lists.StaysBeside.{clears_beside, removes_beside}
use Rattle.keep_edit_spec.proofs.Remove.RemoveLines.{IsOwnLine, own_line}

-- ---- a line with another value

module _ (other : List Part) (r : Reading) (l : Line) (name : Name) (old new : Value)
    (was : l.content ≡ keyval name old) where
  abbrev now : Line
  now = record l { content = keyval name new }

  reads : after_line r now ≡ after_line r l
  reads = ap (λ (c : Content). after_line r (record l { content = c })) (sym was)

  own_same : is_own other r now.content ≡ is_own other r l.content
  own_same = ap (is_own other r) (sym was)

  uncleared : clear_line other r l ≡ None → clear_line other r now ≡ None
  uncleared = clear_alike other r r l now (record { own = own_same; comment = refl })

-- A line whose value is at a path that does not begin with the other is not the other's own, before and after.
module _ (path : List Part) (value : Value) (other : List Part) (apart : strip other path ≡ None) (r : Reading)
    (l : Line) where
  not_own : (name : Name) (old : Value) (more : List Part) → strip (r.body ++ step 0 (Some name)) path ≡ Some more
      → is_own other r (keyval name old) ≡ false
  not_own name old more begins = by (is_own other r (keyval name old)) refl
    where
      by : (b : Bool) → is_own other r (keyval name old) ≡ b → b ≡ false
      by false e = refl
      by true e =
          let own : IsOwnLine r.body other (keyval name old) = own_line other r (keyval name old) e in
          let same : own.name ≡ name = cc in
          let place : other ≡ r.body ++ step 0 (Some name) =
          sym own.place ∙ ap (λ (n : Name). r.body ++ step 0 (Some n)) same in
          let both : None ≡ Some more = sym apart ∙ ap (λ (p : List Part). strip p path) place ∙ begins in
          absurd cc

  abbrev with_content : Option (Changed Content) → Option (Changed Line)
  with_content =
      within (λ c. record l { content = c }) (text_of l.before) (text_of l.after ++ text_of (comment_leaves l.comment))

  line_apart : EachStays (in_line (replacement value) path r l) (clear_line other r) l
  line_apart = of_content l.content refl
    where
      of_value : (name : Name) (old : Value) → l.content ≡ keyval name old → is_own other r (keyval name old) ≡ false
          → (o : Option (Changed Value))
          → EachStays (with_content (within (keyval name) (text_of (name_leaves name)) [] o)) (clear_line other r) l
      of_value name old e other_own None = tt
      of_value name old e other_own (Some c) =
          stays_as (framed_change (λ y. record l { content = y }) (text_of l.before)
          (text_of l.after ++ text_of (comment_leaves l.comment))
          (framed_change (keyval name) (text_of (name_leaves name)) [] c)) None None (clear_line other r l)
          (clear_line other r (record l { content = keyval name c.to }))
          (not_cleared other r l (ap (is_own other r) e ∙ other_own))
          (not_cleared other r (record l { content = keyval name c.to }) other_own) refl

      by : (name : Name) (old : Value) → l.content ≡ keyval name old → (o : Option (List Part))
          → strip (r.body ++ step 0 (Some name)) path ≡ o → EachStays (with_content (elim o [
            | None ↦ None
            | Some more ↦ within (keyval name) (text_of (name_leaves name)) []
                (in_value (replacement value) more old)
          ])) (clear_line other r) l
      by name old e None begins = tt
      by name old e (Some more) begins =
          of_value name old e (not_own name old more begins) (in_value (replacement value) more old)

      of_content : (c : Content) → l.content ≡ c
          → EachStays (with_content (in_content (replacement value) r.body path c)) (clear_line other r) l
      of_content blank e = tt
      of_content (header before k after) e = tt
      of_content (element before k after) e = tt
      of_content (keyval name old) e = by name old e (strip (r.body ++ step 0 (Some name)) path) refl

-- ---- after the set

module _ (s : Document) (path : List Part) (value : Value) (other : List Part) (x : Changed Document)
    (made : change s (set path value) ≡ Some x) where
  abbrev each : Reading → Line → Option (Changed Line)
  each = in_line (replacement value) path

  abbrev found : Option (Changed Page)
  found = in_lines each start s.ended s.last

  abbrev bom : List ℕ
  bom = text_of (bom_leaves s.bom)

  on_pages : (P : Document → Type 0) → EachTo (λ (b : Page). P (with_page s b)) found → P x.to
  on_pages P h =
      subst (λ (o : Option (Changed Document)). EachTo P o) made
      (to_within (λ (b : Page). P (with_page s b)) P (with_page s) bom [] found (λ b g. g) h)

  own_now : last_line (mine other) start (lines x.to) ≡ last_line (mine other) start (lines s)
  own_now =
      on_pages (λ t. last_line (mine other) start (lines t) ≡ last_line (mine other) start (lines s))
      (last_stays each (mine other)
      (λ r l. value_line (replacement value) path r l
      (λ y. (after_line r y ≡ after_line r l) × (mine other r y ≡ mine other r l))
      (λ name old new e. (reads other r l name old new e, own_same other r l name old new e)))
      start s.ended s.last)

  bare_now : in_lines (clear_line other) start s.ended s.last ≡ None
      → in_lines (clear_line other) start x.to.ended x.to.last ≡ None
  bare_now bare =
      on_pages (λ t. in_lines (clear_line other) start t.ended t.last ≡ None)
      (none_stays each (clear_line other)
      (λ r l. value_line (replacement value) path r l
      (λ y. (after_line r y ≡ after_line r l) × (clear_line other r l ≡ None → clear_line other r y ≡ None))
      (λ name old new e. (reads other r l name old new e, uncleared other r l name old new e)))
      start s.ended s.last bare)

  stays : AreApart path other → Stays x (in_document s (in_lines (clear_line other) start s.ended s.last))
      (in_document x.to (in_lines (clear_line other) start x.to.ended x.to.last))
  stays apart =
      subst (λ (o : Option (Changed Document)). EachStays o
      (λ (t : Document). in_document t (in_lines (clear_line other) start t.ended t.last)) s) made
      (document_stays each (clear_line other)
      (λ r l. in_line-is (replacement value) (replacement-is value) path r l) (λ r l. clear_line-is other r l)
      (λ r l. reading_stays (replacement value) path r l) (λ r l. line_apart path value other apart.1 r l) s)

pub remove_after_set : RemoveAfterSet
remove_after_set profile limit s path value c other d fine h k apart side =
    let law : IsLawfulEdit profile limit s (set path value) =
    set_lawful profile limit s path value fine h.given h.allowed in
    let x : Changed Document = law.changed in
    let to : x.to ≡ edited_document s (set path value) =
    ap (λ (o : Option (Changed Document)). (changed_or_same s o).to) (sym law.is) in
    subst (λ (t : Document). RemovesLine profile limit t other (moved c d)) to
    (removes_beside profile limit s x c (subst (EachOf (LinesBegin s)) law.is (set_lines_begin s path value))
    (change_at c x (placed s (set path value) x c law.is h.is)) h.some other d k side
    (subst (λ (t : Document). ObeysRules (marks (mentions_in t))) (sym to) law.obeys)
    (bare_now s path value other x law.is k.bare) (own_now s path value other x law.is))

pub clear_after_set : ClearAfterSet
clear_after_set profile limit s path value c other d fine h k apart side =
    let law : IsLawfulEdit profile limit s (set path value) =
    set_lawful profile limit s path value fine h.given h.allowed in
    let x : Changed Document = law.changed in
    let to : x.to ≡ edited_document s (set path value) =
    ap (λ (o : Option (Changed Document)). (changed_or_same s o).to) (sym law.is) in
    subst (λ (t : Document). ClearsLine profile limit t other (moved c d)) to
    (clears_beside profile limit s x c (subst (EachOf (LinesBegin s)) law.is (set_lines_begin s path value))
    (change_at c x (placed s (set path value) x c law.is h.is)) h.some other d k side
    (subst (λ (t : Document). ObeysRules (marks (mentions_in t))) (sym to) law.obeys)
    (ap text to ∙ change_put s (set path value) ∙ ap (put (text s)) h.is)
    (subst (λ (p : Place). p.end ≤ length (text s)) h.is (place_within s (set path value)))
    (stays s path value other x law.is apart) (own_now s path value other x law.is))
