-- A remove takes the same line, or leaves its own line with the comment, after another remove, of another path, took
-- its line.
--
-- The line that is gone leaves the reading as it is (LineGone), and is not the own line of the other path. So the other
-- line is still the last that is (`number_now`), it has a comment if it had one, and the remove is not refused
-- (RemovedOwn). Its place is as before, or the bytes of the line that is gone before that (`places`), and so is its end
-- (`ends_now`).
--
-- Theorems: `still_removes`, `clear_after_remove`.
use Rattle.std.proofs.Common.{◌≡◌, ◌≢◌, ℕ, suc, ◌+◌, ◌-◌, ◌<◌, ◌≤◌, true, false, List, [], length, take, refl, sym, ap}
use Rattle.std.proofs.Common.{ap₂, subst, ◌∙◌, arith, Option, Some, None, inl, inr}
use Rattle.std.specs.Prelude.{nat_lt}
use Rattle.std.specs.Option.{option_map}
use Rattle.std.proofs.lemmas.Bool.{cases_lt, le-ltb, lt-ltb}
use Rattle.keep_types.specs.declared.leaf.Profile.{Profile}
use Rattle.keep_syntax.specs.Tree.{Line, Ended, Document, bom_leaves, text, text_of}
use Rattle.keep_path.specs.Path.{Part}
use Rattle.keep_meaning.specs.Marks.{marks, start}
use Rattle.keep_meaning.specs.Meaning.{after_line, lines, mentions_in}
use Rattle.keep_meaning.specs.Rules.{ObeysRules}
use Rattle.keep_edit_spec.specs.Changed.{Place, put}
use Rattle.keep_edit_spec.specs.ClearedLines.{ClearsLine, line_start}
use Rattle.keep_edit_spec.specs.Edits.{clear_line, is_own, place, remove}
use Rattle.keep_edit_spec.specs.Laws.{IsEditable}
use Rattle.keep_edit_spec.specs.Lines.{in_lines, last_line}
use Rattle.keep_edit_spec.specs.Refusals.{refusal}
use Rattle.keep_edit_spec.specs.RemovedLines.{RemovesLine, StillRemovesLine}
use Rattle.keep_edit_spec.specs.TextChanges.{IsBeside, TextChange, moved, moved_by, place_of_change}
use Rattle.keep_edit_spec.proofs.EditLaws.{change_put, place_within, remove_lawful}
use Rattle.keep_edit_spec.proofs.Common.LineTexts.{clear_line-is}
use Rattle.keep_edit_spec.proofs.Common.Marks.{rules_of_document}
use Rattle.keep_edit_spec.proofs.Remove.RemoveWhole.{removable}
use Rattle.keep_edit_spec.proofs.Lists.BodyEnds.{later_before, later_from}
use Rattle.keep_edit_spec.proofs.Lists.ClearStays.{clears_now, not_cleared}
use Rattle.keep_edit_spec.proofs.Lists.ClearedKinds.{ClearAfterRemove}
use Rattle.keep_edit_spec.proofs.Lists.LineGone as gone
use Rattle.keep_edit_spec.proofs.Lists.Places.{later_line, size, width, width_grows, width_stays}
use Rattle.keep_edit_spec.proofs.Lists.RemovedOwn.{last_without, none_without, own_allowed}
use Rattle.keep_edit_spec.proofs.Lists.RemovedPlaces.{IsCutAt, at_is as line_at, end_is as line_end, is_other, mine}
use Rattle.keep_edit_spec.proofs.Lists.RemovedPlaces.{place_is}

record IsNumberNow (s : Document) (path : List Part) (n was : ℕ) : Type 0 where
  number : ℕ
  own : last_line (mine path) start (lines s) ≡ Some number
  later : was ≡ later_line n number

module _ (profile : Profile) (limit : ℕ) (s : Document) (path : List Part) (l : TextChange)
    (other : List Part) (m : TextChange) (fine : IsEditable profile limit s)
    (h : RemovesLine profile limit s path l) (differs : path ≢ other)
    (allowed : refusal profile limit s (remove other) ≡ None) (n : ℕ)
    (own : last_line (mine other) start (lines s) ≡ Some n) (closed : n < length s.ended)
    (m_end : m.at + m.size ≡ line_start s (suc n)) where
  abbrev c : IsCutAt h.number s.ended
  c = gone.c profile limit s path l fine h

  abbrev now : Document
  now = gone.now profile limit s path l fine h

  keeps : after_line (gone.r profile limit s path l fine h) c.here.line ≡ gone.r profile limit s path l fine h
  keeps = gone.keeps profile limit s path l fine h

  apart : is_own other (gone.r profile limit s path l fine h) c.here.line.content ≡ false
  apart =
      is_other path other (gone.r profile limit s path l fine h) c.here.line.content
      (gone.its profile limit s path l fine h) differs

  last_was : option_map (later_line h.number) (last_line (mine other) start (lines now)) ≡ Some n
  last_was =
      ap₂ (λ (i : ℕ) (ls : List Line). option_map (later_line i) (last_line (mine other) start ls))
      (sym (gone.before_length profile limit s path l fine h)) (gone.lines_are profile limit s path l fine h)
      ∙ sym (last_without (mine other) start (gone.before profile limit s path l fine h) c.here.line
      (gone.after profile limit s path l fine h) keeps apart)
      ∙ ap (last_line (mine other) start) (sym (gone.lines_were profile limit s path l fine h)) ∙ own

  number_now : IsNumberNow now other h.number n
  number_now = by (last_line (mine other) start (lines now)) refl last_was
    where
      by : (o : Option ℕ) → last_line (mine other) start (lines now) ≡ o
          → option_map (later_line h.number) o ≡ Some n → IsNumberNow now other h.number n
      by None e f = absurd cc
      by (Some j) e f =
          let same : later_line h.number j ≡ n = cc in record { number = j; own = e; later = sym same }

  abbrev j : ℕ
  j = number_now.number

  closed_now : j < length now.ended
  closed_now = elim (cases_lt j h.number) [
    | inl less ↦ omega (arith, less, gone.number_few profile limit s path l fine h)
    | inr past ↦ omega (
      arith,
      closed,
      gone.length_was profile limit s path l fine h,
      number_now.later,
      later_from h.number j past,
    )
  ]

  allowed_now : refusal profile limit now (remove other) ≡ None
  allowed_now =
      own_allowed profile limit now other j
      (rules_of_document now (subst (λ (d : Document). ObeysRules (marks (mentions_in d)))
      (gone.is_now profile limit s path l fine h) (remove_lawful profile limit s path fine h.allowed).obeys))
      number_now.own (removable profile limit s other allowed).below_root

  -- ---- the place

  abbrev bom : ℕ
  bom = length (text_of (bom_leaves s.bom))

  record IsMoved : Type 0 where
    at : bom + width (take j now.ended) ≡ moved_by l m.at
    end : bom + width (take (suc j) now.ended) ≡ moved_by l m.at + m.size

  moved_to : moved_by l m.at ≡ bom + width (take j now.ended)
      → bom + width (take (suc j) now.ended) ≡ bom + width (take j now.ended) + m.size → IsMoved
  moved_to e f = record { at = sym e; end = f ∙ ap (λ (b : ℕ). b + m.size) (sym e) }

  taken : m.at ≡ line_start s n → (i : ℕ) → n ≡ i → (m.at ≡ line_start s i) × (m.at + m.size ≡ line_start s (suc i))
  taken m_at i e = (m_at ∙ ap (line_start s) e, m_end ∙ ap (λ (v : ℕ). line_start s (suc v)) e)

  places : m.at ≡ line_start s n → IsMoved
  places m_at = elim (cases_lt j h.number) [
    | inl less ↦
        let t = taken m_at j (number_now.later ∙ later_before h.number j less) in
        moved_to (gone.at_before profile limit s path l fine h j m.at less t.0)
        (omega (
          arith,
          t.0,
          t.1,
          gone.same_to profile limit s path l fine h j (omega (arith, less)),
          gone.same_to profile limit s path l fine h (suc j) (omega (arith, less)),
        ))
    | inr past ↦
        let t = taken m_at (suc j) (number_now.later ∙ later_from h.number j past) in
        moved_to (gone.at_from profile limit s path l fine h j m.at past t.0)
        (omega (
          arith,
          t.0,
          t.1,
          gone.less_from profile limit s path l fine h j past,
          gone.less_from profile limit s path l fine h (suc j) (omega (arith, past)),
        ))
  ]

  -- ---- the line is taken

  bare_now : in_lines (clear_line other) start s.ended s.last ≡ None
      → in_lines (clear_line other) start now.ended now.last ≡ None
  bare_now bare =
      none_without (clear_line other) s.last start c.first c.here c.more keeps
      (subst (λ (es : List Ended). in_lines (clear_line other) start es s.last ≡ None) c.was bare)

  removes_now : in_lines (clear_line other) start s.ended s.last ≡ None → m.new ≡ [] → m.at ≡ line_start s n
      → RemovesLine profile limit now other (moved l m)
  removes_now bare takes m_at = record {
    allowed = allowed_now;
    bare = bare_now bare;
    number = j;
    own = number_now.own;
    closed = closed_now;
    takes = takes;
    is = place_is now other j (bare_now bare) number_now.own closed_now
        ∙ ap₂ (λ (b e : ℕ). record { start = b; end = e; new = [] }) (places m_at).at (places m_at).end;
  }

  -- ---- the line stays with its comment

  abbrev l_at : l.at ≡ line_start s h.number
  l_at = line_at profile limit s path l h

  -- where it ends, since the line that is gone is before it or after
  ends_now : 0 < m.size → IsBeside l m → line_start now (suc j) ≡ moved_by l m.at + m.size
  ends_now some side = elim (cases_lt j h.number) [
    | inl less ↦
        let same : n ≡ j = number_now.later ∙ later_before h.number j less in
        let end : m.at + m.size ≡ line_start s (suc j) = m_end ∙ ap (λ (v : ℕ). line_start s (suc v)) same in
        let earlier : nat_lt m.at l.at ≡ true =
        lt-ltb m.at l.at
        (omega (arith, l_at, end, some, width_stays (suc j) h.number s.ended (omega (arith, less)))) in
        rw earlier (omega (arith, end, gone.same_to profile limit s path l fine h (suc j) (omega (arith, less))))
    | inr far ↦
        let same : n ≡ suc j = number_now.later ∙ later_from h.number j far in
        let end : m.at + m.size ≡ line_start s (suc (suc j)) = m_end ∙ ap (λ (v : ℕ). line_start s (suc v)) same in
        let after : l.at < m.at + m.size =
        omega (
          arith,
          l_at,
          end,
          width_grows profile (suc (suc j)) h.number s.ended fine.valid.ended
              (omega (arith, far)) (omega (arith, closed, same)),
        ) in
        by side after end (gone.less_from profile limit s path l fine h (suc j) (omega (arith, far)))
  ]
    where
      by : IsBeside l m → l.at < m.at + m.size → m.at + m.size ≡ line_start s (suc (suc j))
          → width (take (suc (suc j)) s.ended) ≡ width (take (suc j) now.ended) + size c.here
          → line_start now (suc j) ≡ moved_by l m.at + m.size
      by (inr (less, far)) after end more = absurd (omega (arith, far, after))
      by (inl far) after end more =
          let past : l.at + l.size ≤ m.at = far in
          let back : moved_by l m.at ≡ (m.at + length l.new) - l.size =
          rw (le-ltb m.at l.at (omega (arith, past))) refl in
          omega (
            arith,
            back,
            past,
            end,
            more,
            gone.size_is profile limit s path l fine h,
            ap (λ (t : List ℕ). length t) h.takes,
          )

  clears_after : ClearsLine profile limit s other m → IsBeside l m → ClearsLine profile limit now other (moved l m)
  clears_after k side =
      let at_change : place s (remove path) ≡ place_of_change l =
      h.is ∙ ap (λ (t : List ℕ). record { start = l.at; end = l.at + l.size; new = t }) (sym h.takes) in
      clears_now profile limit s now other l m k side allowed_now j number_now.own closed_now
      (ends_now (omega (arith, k.some, k.is.start, k.is.end)) side)
      (ap text (sym (gone.is_now profile limit s path l fine h)) ∙ change_put s (remove path)
      ∙ ap (put (text s)) at_change)
      (subst (λ (p : Place). p.end ≤ length (text s)) at_change (place_within s (remove path)))
      (gone.removed profile limit s path l fine h) l (gone.removed_place profile limit s path l fine h) (λ at. refl)
      (gone.document_without profile limit s path l fine h (clear_line other) (λ q e. clear_line-is other q e)
      (not_cleared other (gone.r profile limit s path l fine h) c.here.line apart))

pub still_removes : StillRemovesLine
still_removes profile limit s path l other m fine h k differs =
    subst (λ (d : Document). RemovesLine profile limit d other (moved l m))
    (sym (gone.is_now profile limit s path l fine h))
    (removes_now profile limit s path l other m fine h differs k.allowed k.number k.own k.closed
    (line_end profile limit s other m k) k.bare k.takes (line_at profile limit s other m k))

pub clear_after_remove : ClearAfterRemove
clear_after_remove profile limit s path l other m fine h k differs side =
    subst (λ (d : Document). ClearsLine profile limit d other (moved l m))
    (sym (gone.is_now profile limit s path l fine h))
    (clears_after profile limit s path l other m fine h differs k.allowed k.number k.own k.closed k.ends k side)
