-- A remove takes the same line, or leaves its own line with the comment, after another remove took a table or an
-- element with its header, if the line's path is elsewhere than at the changed path and below it.
--
-- No line that goes is the other path's own, and of the other lines the same ones are (TakenFound). So the line that
-- the remove takes or clears is still the last own line of its path, at the same number if it comes before the header,
-- and else at one that is less by the lines that went. It has a comment if it had one (TakenSearch), and the remove is
-- not refused (RemovedOwn). Its place is as before, or earlier by the bytes of the lines that went (`places`), and so
-- is its end (`ends_now`).
--
-- Theorems: `remove_after_taken`, `clear_after_taken`.
use Rattle.std.proofs.Common.{◌≡◌, ℕ, suc, ◌+◌, ◌-◌, ◌<◌, ◌≤◌, true, List, [], length, refl, sym, ap, ap₂, subst}
use Rattle.std.proofs.Common.{◌∙◌, arith, Option, Some, None, inl, inr}
use Rattle.std.specs.Prelude.{nat_lt}
use Rattle.std.proofs.lemmas.Bool.{le-ltb, lt-ltb}
use Rattle.keep_types.specs.declared.leaf.Profile.{Profile}
use Rattle.keep_syntax.specs.Tree.{Document, bom_leaves, text, text_of}
use Rattle.keep_path.specs.Path.{Part, strip}
use Rattle.keep_meaning.specs.Marks.{start}
use Rattle.keep_meaning.specs.Meaning.{lines}
use Rattle.keep_edit_spec.specs.Changed.{Changed, Place, put}
use Rattle.keep_edit_spec.specs.ClearedLines.{ClearsLine, line_start}
use Rattle.keep_edit_spec.specs.Edits.{clear_line, remove}
use Rattle.keep_edit_spec.specs.ElementRuns.{changed_path}
use Rattle.keep_edit_spec.specs.Laws.{IsEditable}
use Rattle.keep_edit_spec.specs.Lines.{Page, in_document, in_lines, last_line, with_page}
use Rattle.keep_edit_spec.specs.Refusals.{refusal}
use Rattle.keep_edit_spec.specs.RemovedHeaders.{RemovesHeader}
use Rattle.keep_edit_spec.specs.RemovedLines.{RemovesLine}
use Rattle.keep_edit_spec.specs.TextChanges.{IsBeside, TextChange, moved, moved_by}
use Rattle.keep_edit_spec.proofs.EditLaws.{change_put, place_within}
use Rattle.keep_edit_spec.proofs.Remove.RemoveWhole.{removable}
use Rattle.keep_edit_spec.proofs.Lists.ClearStays.{clears_now}
use Rattle.keep_edit_spec.proofs.Lists.HeaderTaken.{rules_now}
use Rattle.keep_edit_spec.proofs.Lists.Places.{width_stays}
use Rattle.keep_edit_spec.proofs.Lists.RemovedOwn.{own_allowed, within_none}
use Rattle.keep_edit_spec.proofs.Lists.RemovedPlaces.{at_is as line_at, end_is as line_end, mine, place_is}
use Rattle.keep_edit_spec.proofs.Lists.SetPlaces.{Stays}
use Rattle.keep_edit_spec.proofs.Lists.TakenFound.{IsFoundStill, found_now}
use Rattle.keep_edit_spec.proofs.Lists.TakenGone as gone
use Rattle.keep_edit_spec.proofs.Lists.TakenKinds.{ClearAfterTaken, RemoveAfterTaken}
use Rattle.keep_edit_spec.proofs.Lists.TakenSearch.{below_none, clear_without, own_apart, own_by_body, removed}
use Rattle.keep_edit_spec.proofs.Lists.TakenSearch.{removed_place, never_own}

module _ (profile : Profile) (limit : ℕ) (s : Document) (path : List Part) (c : TextChange)
    (other : List Part) (m : TextChange) (fine : IsEditable profile limit s)
    (h : RemovesHeader profile limit s path c) (apart : strip (changed_path path) other ≡ None)
    (allowed : refusal profile limit s (remove other) ≡ None) (n : ℕ)
    (own : last_line (mine other) start (lines s) ≡ Some n) (closed : n < length s.ended)
    (m_end : m.at + m.size ≡ line_start s (suc n)) where
  abbrev now : Document
  now = gone.now profile limit s path c fine h

  -- the number of its header, and of the lines that go
  abbrev head : ℕ
  head = gone.n profile limit s path c fine h

  abbrev count : ℕ
  count = gone.gone profile limit s path c fine h

  its : IsFoundStill s now (mine other) head count n
  its =
      found_now profile limit s path c fine h (mine other) (λ r l e. never_own other r l.content e)
      (λ r u l e. own_by_body other r u l.content e)
      (λ r l w. own_apart other r (below_none (changed_path path) other r.body apart w) l.content) n own

  abbrev j : ℕ
  j = its.number

  closed_now : j < length now.ended
  closed_now =
      let few = gone.few profile limit s path c fine h in
      let was = gone.length_was profile limit s path c fine h in
      elim its.place [
        | inl e ↦ omega (arith, e.0, few, was)
        | inr e ↦ omega (arith, e.1, closed, was)
      ]

  allowed_now : refusal profile limit now (remove other) ≡ None
  allowed_now =
      own_allowed profile limit now other j
      (rules_now profile limit s path c fine (gone.its profile limit s path c fine h)) its.last
      (removable profile limit s other allowed).below_root

  -- ---- the place

  -- where the line ends that is number i without them, before them or after
  end_before : (i : ℕ) → n ≡ i → m.at + m.size ≡ line_start s (suc i)
  end_before i e = m_end ∙ ap (λ (k : ℕ). line_start s (suc k)) e

  end_from : (i : ℕ) → n ≡ i + count → m.at + m.size ≡ line_start s (suc i + count)
  end_from i e = m_end ∙ ap (line_start s) (let next : suc n ≡ suc i + count = omega (arith, e) in next)

  record IsMoved : Type 0 where
    at : line_start now j ≡ moved_by c m.at
    end : line_start now (suc j) ≡ moved_by c m.at + m.size

  moved_to : moved_by c m.at ≡ line_start now j → line_start now (suc j) ≡ line_start now j + m.size → IsMoved
  moved_to e f = record { at = sym e; end = f ∙ ap (λ (b : ℕ). b + m.size) (sym e) }

  places : m.at ≡ line_start s n → IsMoved
  places m_at = elim its.place [
    | inl e ↦
        let from : m.at ≡ line_start s j = m_at ∙ ap (line_start s) e.1 in
        let to : m.at + m.size ≡ line_start s (suc j) = end_before j e.1 in
        moved_to (gone.at_before profile limit s path c fine h j m.at e.0 from)
        (omega (
          arith,
          from,
          to,
          gone.start_before profile limit s path c fine h j (omega (arith, e.0)),
          gone.start_before profile limit s path c fine h (suc j) (omega (arith, e.0)),
        ))
    | inr e ↦
        let from : m.at ≡ line_start s (j + count) = m_at ∙ ap (line_start s) e.1 in
        let to : m.at + m.size ≡ line_start s (suc j + count) = end_from j e.1 in
        moved_to (gone.at_from profile limit s path c fine h j m.at e.0 from)
        (omega (
          arith,
          from,
          to,
          gone.start_from profile limit s path c fine h j e.0,
          gone.start_from profile limit s path c fine h (suc j) (omega (arith, e.0)),
        ))
  ]

  -- ---- the search

  found_stays : Stays (removed profile limit s path c fine h)
      (in_document s (in_lines (clear_line other) start s.ended s.last))
      (in_document now (in_lines (clear_line other) start now.ended now.last))
  found_stays = clear_without profile limit s path c fine h other apart

  -- ---- the line is taken

  bare_now : in_lines (clear_line other) start s.ended s.last ≡ None
      → in_lines (clear_line other) start now.ended now.last ≡ None
  bare_now bare =
      within_none (with_page now) (text_of (bom_leaves now.bom)) []
      (in_lines (clear_line other) start now.ended now.last)
      (subst (λ (o : Option (Changed Page)). Stays (removed profile limit s path c fine h) (in_document s o)
      (in_document now (in_lines (clear_line other) start now.ended now.last))) bare found_stays)

  removes_now : in_lines (clear_line other) start s.ended s.last ≡ None → m.new ≡ [] → m.at ≡ line_start s n
      → RemovesLine profile limit now other (moved c m)
  removes_now bare takes m_at = record {
    allowed = allowed_now;
    bare = bare_now bare;
    number = j;
    own = its.last;
    closed = closed_now;
    takes = takes;
    is = place_is now other j (bare_now bare) its.last closed_now
        ∙ ap₂ (λ (b e : ℕ). record { start = b; end = e; new = [] }) (places m_at).at (places m_at).end;
  }

  -- ---- the line stays with its comment

  -- where it ends, since they are before it or after
  ends_now : 0 < m.size → IsBeside c m → line_start now (suc j) ≡ moved_by c m.at + m.size
  ends_now some side = elim its.place [
    | inl e ↦
        let to : m.at + m.size ≡ line_start s (suc j) = end_before j e.1 in
        let earlier : nat_lt m.at c.at ≡ true =
        lt-ltb m.at c.at
        (omega (
          arith,
          gone.start_is profile limit s path c fine h,
          to,
          some,
          width_stays (suc j) head s.ended (omega (arith, e.0)),
        )) in
        rw earlier (omega (arith, to, gone.start_before profile limit s path c fine h (suc j) (omega (arith, e.0))))
    | inr e ↦
        let to : m.at + m.size ≡ line_start s (suc j + count) = end_from j e.1 in
        let after : c.at < m.at + m.size =
        omega (
          arith,
          gone.end_is profile limit s path c fine h,
          gone.has_bytes profile limit s path c fine h,
          to,
          width_stays (head + count) (suc j + count) s.ended (omega (arith, e.0)),
        ) in
        by side after to (gone.start_from profile limit s path c fine h (suc j) (omega (arith, e.0)))
  ]
    where
      by : IsBeside c m → c.at < m.at + m.size → m.at + m.size ≡ line_start s (suc j + count)
          → line_start s (suc j + count) ≡ line_start now (suc j) + c.size
          → line_start now (suc j) ≡ moved_by c m.at + m.size
      by (inr (less, far)) after to more = absurd (omega (arith, far, after))
      by (inl far) after to more =
          let past : c.at + c.size ≤ m.at = far in
          let back : moved_by c m.at ≡ (m.at + length c.new) - c.size =
          rw (le-ltb m.at c.at (omega (arith, past))) refl in
          omega (
            arith,
            back,
            past,
            to,
            more,
            ap (λ (t : List ℕ). length t) (gone.takes profile limit s path c fine h),
          )

  clears_after : ClearsLine profile limit s other m → IsBeside c m → ClearsLine profile limit now other (moved c m)
  clears_after k side =
      clears_now profile limit s now other c m k side allowed_now j its.last closed_now
      (ends_now (omega (arith, k.some, k.is.start, k.is.end)) side)
      (ap text (sym (gone.is_now profile limit s path c fine h)) ∙ change_put s (remove path)
      ∙ ap (put (text s)) (gone.its profile limit s path c fine h).is)
      (subst (λ (p : Place). p.end ≤ length (text s)) (gone.its profile limit s path c fine h).is
      (place_within s (remove path)))
      (removed profile limit s path c fine h) c (removed_place profile limit s path c fine h) (λ at. refl) found_stays

pub remove_after_taken : RemoveAfterTaken
remove_after_taken profile limit s path c other d fine h k apart side =
    subst (λ (t : Document). RemovesLine profile limit t other (moved c d))
    (sym (gone.is_now profile limit s path c fine h))
    (removes_now profile limit s path c other d fine h apart.0 k.allowed k.number k.own k.closed
    (line_end profile limit s other d k) k.bare k.takes (line_at profile limit s other d k))

pub clear_after_taken : ClearAfterTaken
clear_after_taken profile limit s path c other d fine h k apart side =
    subst (λ (t : Document). ClearsLine profile limit t other (moved c d))
    (sym (gone.is_now profile limit s path c fine h))
    (clears_after profile limit s path c other d fine h apart.0 k.allowed k.number k.own k.closed k.ends k side)
