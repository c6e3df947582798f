-- A remove takes the same line, or leaves its own line with the comment, after an insert that added a line, if its own
-- path does not begin with that of the first new key.
--
-- The new line leaves the reading as it is, and is the own line of the new path alone (AddedKeyval). So the line that
-- the remove takes or clears is still the last own line of its path, a line later if it comes after the new one
-- (`own_now`); it has a comment if it had one, and the remove is not refused (RemovedOwn). Its place is as before, or
-- later by the new line's length (`places`), and so is its end (`ends_now`).
--
-- Theorems: `remove_after_insert`, `clear_after_insert`.
use Rattle.std.proofs.Common.{◌≡◌, ℕ, suc, ◌+◌, ◌-◌, ◌<◌, ◌≤◌, Bool, true, false, cond, List, [], ◌∷◌, ◌++◌, length}
use Rattle.std.proofs.Common.{map, take, drop, refl, sym, ap, ap₂, subst, ◌∙◌, append_assoc, length-append, arith}
use Rattle.std.proofs.Common.{Option, Some, None, inl, inr}
use Rattle.std.specs.Prelude.{nat_lt}
use Rattle.std.specs.Option.{option_map}
use Rattle.std.proofs.lemmas.Bool.{cases_lt, le-ltb, lt-ltb}
use Rattle.std.proofs.lemmas.List.{length-map, length-take-le, map-append, take-append-drop}
use Rattle.keep_types.specs.declared.leaf.Profile.{Profile}
use Rattle.keep_syntax.specs.Tree.{Value, Line, Ended, Document, bom_leaves, text, text_of}
use Rattle.keep_path.specs.Path.{Part, strip}
use Rattle.keep_meaning.specs.Marks.{marks, start}
use Rattle.keep_meaning.specs.Meaning.{line_of, lines, mentions_in}
use Rattle.keep_meaning.specs.Rules.{ObeysRules}
use Rattle.keep_edit_spec.specs.AddedLines.{first_new}
use Rattle.keep_edit_spec.specs.Changed.{Changed, Place, put}
use Rattle.keep_edit_spec.specs.ClearedLines.{ClearsLine, line_start}
use Rattle.keep_edit_spec.specs.Edits.{clear_line, insert, place, remove}
use Rattle.keep_edit_spec.specs.Laws.{IsEditable, IsLawfulEdit}
use Rattle.keep_edit_spec.specs.Lines.{Page, in_document, in_lines, last_line}
use Rattle.keep_edit_spec.proofs.Lists.TwoKinds.{RemoveAfterInsert}
use Rattle.keep_edit_spec.specs.Refusals.{refusal}
use Rattle.keep_edit_spec.specs.RemovedLines.{RemovesLine}
use Rattle.keep_edit_spec.specs.TextChanges.{IsBeside, TextChange, moved, moved_by, place_of_change}
use Rattle.keep_edit_spec.proofs.EditLaws.{change_put, place_within}
use Rattle.keep_edit_spec.proofs.Common.LineTexts.{clear_line-is}
use Rattle.keep_edit_spec.proofs.Common.Marks.{rules_of_document}
use Rattle.keep_edit_spec.proofs.Remove.RemoveWhole.{removable}
use Rattle.keep_edit_spec.proofs.Lists.AddedKeyval as added
use Rattle.keep_edit_spec.proofs.Lists.AddedKeyval.{AddsKeyval, its, keeps, keyval_of, past_lines, path_differs, to_is}
use Rattle.keep_edit_spec.proofs.Lists.BodyEnds.{later_before, later_from}
use Rattle.keep_edit_spec.proofs.Lists.ClearStays.{clears_now}
use Rattle.keep_edit_spec.proofs.Lists.ClearedKinds.{ClearAfterInsert}
use Rattle.keep_edit_spec.proofs.Lists.HeaderAfterInsert.{line_lawful}
use Rattle.keep_edit_spec.proofs.Lists.LineGone.{width_less, width_same}
use Rattle.keep_edit_spec.proofs.Lists.Places.{later_line, size, width, width_grows, width_stays}
use Rattle.keep_edit_spec.proofs.Lists.RemovedOwn.{last_without, own_allowed}
use Rattle.keep_edit_spec.proofs.Lists.RemovedPlaces.{at_is as taken_at, end_is as taken_end, is_other, lines_here}
use Rattle.keep_edit_spec.proofs.Lists.RemovedPlaces.{mine, place_is}
use Rattle.keep_edit_spec.proofs.Lists.SetPlaces.{Stays}

module _ (profile : Profile) (limit : ℕ) (s : Document) (path : List Part) (value : Value) (l : TextChange)
    (other : List Part) (m : TextChange) (fine : IsEditable profile limit s)
    (law : IsLawfulEdit profile limit s (insert path value)) (h : AddsKeyval profile limit s path value l)
    (clear : strip (first_new s path) other ≡ None)
    (allowed : refusal profile limit s (remove other) ≡ None) (n : ℕ)
    (own : last_line (mine other) start (lines s) ≡ Some n) (closed : n < length s.ended)
    (m_end : m.at + m.size ≡ line_start s (suc n)) where
  abbrev x : Ended
  x = added.x profile limit s path value l h

  abbrev first : List Ended
  first = take h.n s.ended

  abbrev rest : List Ended
  rest = drop h.n s.ended

  abbrev now : Document
  now = record { bom = s.bom; ended = first ++ x ∷ rest; last = s.last }

  abbrev j : ℕ
  j = later_line h.n n

  first_long : length first ≡ h.n
  first_long = length-take-le h.n s.ended h.few

  cut_was : first ++ rest ≡ s.ended
  cut_was = take-append-drop h.n s.ended

  -- ---- its line

  abbrev before : List Line
  before = map line_of first

  abbrev after : List Line
  after = map line_of rest ++ s.last ∷ []

  lines_were : lines s ≡ before ++ after
  lines_were =
      ap (λ (es : List Ended). map line_of es ++ s.last ∷ []) (sym cut_was)
      ∙ ap (λ (ls : List Line). ls ++ s.last ∷ []) (map-append line_of first rest)
      ∙ append_assoc before (map line_of rest) (s.last ∷ [])

  own_now : last_line (mine other) start (lines now) ≡ Some j
  own_now =
      ap (last_line (mine other) start) (lines_here first x rest s.last)
      ∙ last_without (mine other) start before x.line after (keeps profile limit s path value l h)
      (is_other path other (added.r profile limit s path value l h) x.line.content
      (its profile limit s path value l h) (path_differs profile limit s path value l h other clear))
      ∙ ap₂ (λ (i : ℕ) (o : Option ℕ). option_map (later_line i) o) (length-map first line_of ∙ first_long)
      (ap (last_line (mine other) start) (sym lines_were) ∙ own)

  closed_now : j < length now.ended
  closed_now =
      let long : length now.ended ≡ suc (length s.ended) =
      omega (
        arith,
        length-append first (x ∷ rest),
        length-append first rest,
        ap (λ (es : List Ended). length es) cut_was,
      ) in
      elim (cases_lt n h.n) [
        | inl less ↦ omega (arith, long, closed, later_before h.n n less)
        | inr past ↦ omega (arith, long, closed, later_from h.n n past)
      ]

  allowed_now : refusal profile limit now (remove other) ≡ None
  allowed_now =
      own_allowed profile limit now other j
      (rules_of_document now (subst (λ (d : Document). ObeysRules (marks (mentions_in d))) h.puts.is law.obeys))
      own_now (removable profile limit s other allowed).below_root

  -- ---- the place

  abbrev bom : ℕ
  bom = length (text_of (bom_leaves s.bom))

  same_to : (i : ℕ) → i ≤ h.n → width (take i now.ended) ≡ width (take i s.ended)
  same_to i few =
      width_same first x rest i (omega (arith, few, first_long))
      ∙ ap (λ (es : List Ended). width (take i es)) cut_was

  more_from : (i : ℕ) → h.n ≤ i → width (take (suc i) now.ended) ≡ width (take i s.ended) + size x
  more_from i few =
      width_less first x rest i (omega (arith, few, first_long))
      ∙ ap (λ (es : List Ended). width (take i es) + size x) cut_was

  record IsMoved (i : ℕ) : Type 0 where
    at : bom + width (take i now.ended) ≡ moved_by l m.at
    end : bom + width (take (suc i) now.ended) ≡ moved_by l m.at + m.size

  moved_to : (i at : ℕ) → moved_by l m.at ≡ at → bom + width (take i now.ended) ≡ at
      → bom + width (take (suc i) now.ended) ≡ at + m.size → IsMoved i
  moved_to i at e f g = record { at = f ∙ sym e; end = g ∙ ap (λ (b : ℕ). b + m.size) (sym e) }

  places : m.at ≡ line_start s n → IsMoved j
  places m_at = elim (cases_lt n h.n) [
    | inl less ↦
        let earlier : nat_lt m.at l.at ≡ true =
        lt-ltb m.at l.at (omega (
          arith,
          h.puts.at,
          m_at,
          width_grows profile h.n n s.ended fine.valid.ended less h.few,
        )) in
        subst IsMoved (sym (later_before h.n n less))
        (moved_to n m.at (ap (λ (b : Bool). cond b m.at ((m.at + length l.new) - l.size)) earlier)
        (omega (arith, m_at, same_to n (omega (arith, less))))
        (omega (arith, m_end, same_to (suc n) (omega (arith, less)))))
    | inr past ↦
        let later : nat_lt m.at l.at ≡ false =
        le-ltb m.at l.at (omega (arith, h.puts.at, m_at, width_stays h.n n s.ended past)) in
        let on : (m.at + length l.new) - l.size ≡ m.at + size x =
        omega (arith, ap (λ (t : List ℕ). length t) h.puts.line, h.puts.adds) in
        subst IsMoved (sym (later_from h.n n past))
        (moved_to (suc n) (m.at + size x)
        (ap (λ (b : Bool). cond b m.at ((m.at + length l.new) - l.size)) later ∙ on)
        (omega (arith, m_at, more_from n past))
        (omega (arith, m_end, more_from (suc n) (omega (arith, past)))))
  ]

  -- ---- the line is taken

  bare_now : in_lines (clear_line other) start s.ended s.last ≡ None
      → in_lines (clear_line other) start now.ended now.last ≡ None
  bare_now bare =
      subst (λ (d : Document). in_lines (clear_line other) start d.ended d.last ≡ None)
      (to_is profile limit s path value l h)
      (subst (λ (o : Option (Changed Page)). Stays (added.put_page profile limit s path value l h) o
      (in_lines (clear_line other) start (added.made profile limit s path value l h).to.ended
      (added.made profile limit s path value l h).to.last)) bare
      (past_lines profile limit s path value l h (clear_line other) (λ q e. clear_line-is other q e) refl))

  removes_now : in_lines (clear_line other) start s.ended s.last ≡ None → m.new ≡ [] → m.at ≡ line_start s n
      → RemovesLine profile limit now other (moved l m)
  removes_now bare takes m_at = record {
    allowed = allowed_now;
    bare = bare_now bare;
    number = j;
    own = own_now;
    closed = closed_now;
    takes = takes;
    is = place_is now other j (bare_now bare) own_now closed_now
        ∙ ap₂ (λ (b e : ℕ). record { start = b; end = e; new = [] }) (places m_at).at (places m_at).end;
  }

  -- ---- the line stays with its comment

  -- where it ends, since the new line is before it or after
  ends_now : 0 < m.size → IsBeside l m → line_start now (suc j) ≡ moved_by l m.at + m.size
  ends_now some side = elim (cases_lt n h.n) [
    | inl less ↦
        let earlier : nat_lt m.at l.at ≡ true =
        lt-ltb m.at l.at
        (omega (arith, h.puts.at, m_end, some, width_stays (suc n) h.n s.ended (omega (arith, less)))) in
        subst (λ (i : ℕ). line_start now (suc i) ≡ moved_by l m.at + m.size) (sym (later_before h.n n less))
        (rw earlier (omega (arith, m_end, same_to (suc n) (omega (arith, less)))))
    | inr past ↦
        let after : l.at < m.at + m.size =
        omega (
          arith,
          h.puts.at,
          m_end,
          width_grows profile (suc n) h.n s.ended fine.valid.ended
              (omega (arith, past)) (omega (arith, closed)),
        ) in
        subst (λ (i : ℕ). line_start now (suc i) ≡ moved_by l m.at + m.size) (sym (later_from h.n n past))
        (by side after (more_from (suc n) (omega (arith, past))))
  ]
    where
      by : IsBeside l m → l.at < m.at + m.size
          → width (take (suc (suc n)) now.ended) ≡ width (take (suc n) s.ended) + size x
          → line_start now (suc (suc n)) ≡ moved_by l m.at + m.size
      by (inr (less, far)) after more = absurd (omega (arith, far, after))
      by (inl far) after more =
          let past : l.at + l.size ≤ m.at = far in
          let moved : moved_by l m.at ≡ (m.at + length l.new) - l.size =
          rw (le-ltb m.at l.at (omega (arith, past))) refl in
          omega (
            arith,
            moved,
            m_end,
            more,
            h.puts.adds,
            ap (λ (t : List ℕ). length t) h.puts.line,
          )

  clears_after : ClearsLine profile limit s other m → IsBeside l m → ClearsLine profile limit now other (moved l m)
  clears_after k side =
      clears_now profile limit s now other l m k side allowed_now j own_now closed_now
      (ends_now (omega (arith, k.some, k.is.start, k.is.end)) side)
      (ap text (sym h.puts.is) ∙ change_put s (insert path value) ∙ ap (put (text s)) at_change)
      (subst (λ (p : Place). p.end ≤ length (text s)) at_change (place_within s (insert path value)))
      (added.made profile limit s path value l h) l (added.made_place profile limit s path value l h) (λ at. refl)
      (subst (λ (t : Document). Stays (added.made profile limit s path value l h)
      (in_document s (in_lines (clear_line other) start s.ended s.last))
      (in_document t (in_lines (clear_line other) start t.ended t.last))) h.puts.is
      (added.found_stays profile limit s path value l h (clear_line other) (λ q e. clear_line-is other q e) refl))
    where
      at_change : place s (insert path value) ≡ place_of_change l
      at_change = h.is ∙ ap (λ (e : ℕ). record { start = l.at; end = e; new = l.new }) (omega (arith, h.puts.adds))

pub remove_after_insert : RemoveAfterInsert
remove_after_insert profile limit s path value l to other m fine adds k apart beside =
    let h : AddsKeyval profile limit s path value l = keyval_of profile limit s path value l to fine adds in
    subst (λ (d : Document). RemovesLine profile limit d other (moved l m)) (sym h.puts.is)
    (removes_now profile limit s path value l other m fine (line_lawful to profile limit s path value l fine adds) h
    apart.0 k.allowed k.number k.own k.closed (taken_end profile limit s other m k) k.bare k.takes
    (taken_at profile limit s other m k))

pub clear_after_insert : ClearAfterInsert
clear_after_insert profile limit s path value l to other m fine adds k apart beside =
    let h : AddsKeyval profile limit s path value l = keyval_of profile limit s path value l to fine adds in
    subst (λ (d : Document). ClearsLine profile limit d other (moved l m)) (sym h.puts.is)
    (clears_after profile limit s path value l other m fine (line_lawful to profile limit s path value l fine adds) h
    apart.0 k.allowed k.number k.own k.closed k.ends k beside)
