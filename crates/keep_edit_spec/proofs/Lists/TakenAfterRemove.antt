-- A remove takes the same table or element with its header after another remove, of a path apart from its own, took a
-- line beside it.
--
-- The line is before the header, or after the body (`side_of`). It is a keyval's, so it begins no body, and no body
-- ends where it is. So the header and the end of its body are one line up if the line was before them
-- (`line_earlier`), or where they were (`line_later`), and they begin at the moved place. The last line has no bytes
-- still, and the header is left, so the text ends in a newline (`closed_now`). The line said nothing at the path of the
-- table or the element, which is apart (OwnKinds). So the remove takes these lines (TakenAgain).
--
-- Theorem: `taken_after_remove`.
use Rattle.std.proofs.Common.{◌≡◌, ◌≢◌, ℕ, suc, ◌+◌, ◌<◌, ◌≤◌, true, false, ◌&&◌, List, ◌++◌, length, refl, sym, ap}
use Rattle.std.proofs.Common.{subst, ◌∙◌, arith, Option, Some, None, ◌⊎◌, inl, inr}
use Rattle.std.specs.Option.{option_map}
use Rattle.std.proofs.lemmas.Bool.{cases_lt}
use Rattle.keep_types.specs.declared.leaf.Profile.{Profile}
use Rattle.keep_syntax.specs.Tree.{Content, Document, Line, text}
use Rattle.keep_path.specs.Path.{Part, same_path}
use Rattle.keep_meaning.specs.Marks.{Reading, start}
use Rattle.keep_meaning.specs.Meaning.{after_line, lines}
use Rattle.keep_meaning.specs.Nodes.{kinds_at}
use Rattle.keep_edit_spec.specs.ClearedLines.{line_start}
use Rattle.keep_edit_spec.specs.Laws.{IsEditable}
use Rattle.keep_edit_spec.specs.Lines.{begins, is_header, last_line}
use Rattle.keep_edit_spec.specs.RemovedLines.{RemovesLine}
use Rattle.keep_edit_spec.specs.RemovedHeaders.{RemovesHeader}
use Rattle.keep_edit_spec.specs.Runs.{AreApart}
use Rattle.keep_edit_spec.proofs.Lists.TakenKinds.{TakenAfterRemove}
use Rattle.keep_edit_spec.specs.TextChanges.{IsBeside, TextChange, moved, moved_by}
use Rattle.keep_edit_spec.specs.TextEnds.{ends_in_newline}
use Rattle.keep_edit_spec.proofs.EditLaws.{remove_lawful}
use Rattle.keep_edit_spec.proofs.Lists.BodyEnds.{later_before, later_from}
use Rattle.keep_edit_spec.proofs.Lists.EndsWithout.{IsEndNow, end_without}
use Rattle.keep_edit_spec.proofs.Lists.HeaderLines.{last_empty, lines_end}
use Rattle.keep_edit_spec.proofs.Lists.LineGone as gone
use Rattle.keep_edit_spec.proofs.Lists.OwnKinds.{kinds_beside}
use Rattle.keep_edit_spec.proofs.Lists.Places.{later_line, width_stays}
use Rattle.keep_edit_spec.proofs.Lists.RemovedOwn.{last_without}
use Rattle.keep_edit_spec.proofs.Lists.RemovedPlaces.{at_is, end_is, line_has_bytes}
use Rattle.keep_edit_spec.proofs.Lists.TakenAgain as section

-- ---- numbers of lines with one line more

-- A line before that one has its number, and a line after it has the next.
before_now : (n i now : ℕ) → i ≡ later_line n now → i < n → now ≡ i
before_now n i now e less = elim (cases_lt now n) [
  | inl l ↦ omega (arith, e, later_before n now l)
  | inr g ↦ absurd (omega (arith, e, later_from n now g, g, less))
]

after_now : (n i now : ℕ) → i ≡ later_line n now → n ≤ i → (n ≤ now) × (i ≡ suc now)
after_now n i now e far = elim (cases_lt now n) [
  | inl l ↦ absurd (omega (arith, e, later_before n now l, l, far))
  | inr g ↦ (g, omega (arith, e, later_from n now g))
]

-- ---- the document without the line

module _ (profile : Profile) (limit : ℕ) (s : Document) (path : List Part) (c : TextChange) (other : List Part)
    (d : TextChange) (fine : IsEditable profile limit s) (h : RemovesLine profile limit s path c)
    (k : RemovesHeader profile limit s other d) where
  abbrev now : Document
  now = gone.now profile limit s path c fine h

  abbrev head : ℕ
  head = section.head_number profile limit s other d fine k

  abbrev end : ℕ
  end = section.end_number profile limit s other d fine k

  fine_now : IsEditable profile limit now
  fine_now =
      let law = remove_lawful profile limit s path fine h.allowed in
      subst (IsEditable profile limit) (gone.is_now profile limit s path c fine h)
      (record { valid = law.reads.valid; shallow = law.reads.shallow; obeys = law.obeys })

  -- ---- the line is beside the header and its body

  side_of : IsBeside c d → (h.number < head) ⊎ (end ≤ h.number)
  side_of (inl first) = elim (cases_lt h.number head) [
    | inl less ↦ inl less
    | inr far ↦
        absurd (omega (
          arith,
          first,
          at_is profile limit s path c h,
          (line_has_bytes profile limit s path c fine h).0,
          section.starts_at profile limit s other d fine k,
          width_stays head h.number s.ended far,
        ))
  ]
  side_of (inr later) = elim (cases_lt h.number end) [
    | inr far ↦ inr far
    | inl less ↦
        absurd (omega (
          arith,
          later.1,
          end_is profile limit s path c h,
          (line_has_bytes profile limit s path c fine h).0,
          section.ends_at profile limit s other d fine k,
          width_stays (suc h.number) end s.ended less,
        ))
  ]

  module _ (side : (h.number < head) ⊎ (end ≤ h.number)) where
    closed_now : ends_in_newline (text now) ≡ true
    closed_now =
        lines_end profile now fine_now.valid
        (last_empty profile s fine.valid (section.its profile limit s other d fine k).closed)
        (elim side [
          | inl less ↦
              omega (
                arith,
                less,
                section.few profile limit s other d fine k,
                gone.length_was profile limit s path c fine h,
              )
          | inr far ↦ omega (arith, far, h.closed, gone.length_was profile limit s path c fine h)
        ])

    -- ---- the header's number

    fails : begins other (gone.r profile limit s path c fine h) (gone.c profile limit s path c fine h).here.line
        ≡ false
    fails =
        let r : Reading = gone.r profile limit s path c fine h in
        ap (λ (x : Content).
        is_header x && same_path (after_line r (gone.c profile limit s path c fine h).here.line).body other)
        (gone.its profile limit s path c fine h).was

    number : length (gone.before profile limit s path c fine h) ≡ h.number
    number = gone.before_length profile limit s path c fine h

    head_then : Some head ≡ option_map (later_line h.number) (last_line (begins other) start (lines now))
    head_then =
        sym (section.head_is profile limit s other d fine k)
        ∙ ap (last_line (begins other) start) (gone.lines_were profile limit s path c fine h)
        ∙ last_without (begins other) start (gone.before profile limit s path c fine h)
        (gone.c profile limit s path c fine h).here.line (gone.after profile limit s path c fine h)
        (gone.keeps profile limit s path c fine h) fails
        ∙ ap (λ (i : ℕ). option_map (later_line i) (last_line (begins other) start
        (gone.before profile limit s path c fine h ++ gone.after profile limit s path c fine h))) number
        ∙ ap (λ (ls : List Line). option_map (later_line h.number) (last_line (begins other) start ls))
        (sym (gone.lines_are profile limit s path c fine h))

    head_now : (i : ℕ) × ((last_line (begins other) start (lines now) ≡ Some i) × (head ≡ later_line h.number i))
    head_now = by (last_line (begins other) start (lines now)) head_then
      where
        by : (o : Option ℕ) → Some head ≡ option_map (later_line h.number) o
            → (i : ℕ) × ((o ≡ Some i) × (head ≡ later_line h.number i))
        by None e = absurd cc
        by (Some i) e = (i, (refl, cc))

    -- ---- the end of its body

    not_next : end ≢ suc h.number
    not_next e = elim side [
      | inl less ↦ absurd (omega (arith, e, less))
      | inr far ↦ absurd (omega (arith, e, far))
    ]

    end_now : IsEndNow now other h.number end
    end_now =
        let its = gone.its profile limit s path c fine h in
        subst (λ (i : ℕ). IsEndNow now other i end) number
        (end_without (gone.c profile limit s path c fine h).here.line its.name its.held its.was s now
        (gone.before profile limit s path c fine h) (gone.after profile limit s path c fine h)
        (gone.lines_were profile limit s path c fine h) (gone.lines_are profile limit s path c fine h)
        other end (section.ends_is profile limit s other d fine k) (λ e. not_next (e ∙ ap suc number)))

    abbrev i : ℕ
    i = head_now.0

    abbrev j : ℕ
    j = end_now.number

    -- ---- where they begin

    record IsPlaced : Type 0 where
      from : line_start now i ≡ moved_by c d.at
      to : line_start now j ≡ moved_by c d.at + d.size

    line_earlier : h.number < head → IsPlaced
    line_earlier less =
        let (far, head_is) = after_now h.number head i head_now.1.1 (omega (arith, less)) in
        let (end_far, end_is) = after_now h.number end j end_now.later (omega (arith, less)) in
        let starts : d.at ≡ line_start s (suc i) =
        section.starts_at profile limit s other d fine k ∙ ap (line_start s) head_is in
        let ends : d.at + d.size ≡ line_start s (suc j) =
        section.ends_at profile limit s other d fine k ∙ ap (line_start s) end_is in
        let from : moved_by c d.at ≡ line_start now i =
        gone.at_from profile limit s path c fine h i d.at far starts in
        record {
          from = sym from;
          to = omega (
            arith,
            from,
            starts,
            ends,
            gone.less_from profile limit s path c fine h i far,
            gone.less_from profile limit s path c fine h j end_far,
          );
        }

    line_later : end ≤ h.number → IsPlaced
    line_later far =
        let head_is : i ≡ head = before_now h.number head i head_now.1.1 (omega (arith, far)) in
        let end_is : j ≡ end = end_before (cases_lt j h.number) in
        let starts : d.at ≡ line_start s i =
        section.starts_at profile limit s other d fine k ∙ ap (line_start s) (sym head_is) in
        let ends : d.at + d.size ≡ line_start s j =
        section.ends_at profile limit s other d fine k ∙ ap (line_start s) (sym end_is) in
        let from : moved_by c d.at ≡ line_start now i =
        gone.at_before profile limit s path c fine h i d.at (omega (arith, head_is, far)) starts in
        record {
          from = sym from;
          to = omega (
            arith,
            from,
            starts,
            ends,
            gone.same_to profile limit s path c fine h i (omega (arith, head_is, far)),
            gone.same_to profile limit s path c fine h j (omega (arith, end_is, far)),
          );
        }
      where
        -- where a keyval's line is, no body ends
        end_before : (j < h.number) ⊎ (h.number ≤ j) → j ≡ end
        end_before (inl l) = omega (arith, end_now.later, later_before h.number j l)
        end_before (inr g) = absurd (omega (arith, end_now.later, later_from h.number j g, g, far))

    placed : IsPlaced
    placed = elim side [ inl less ↦ line_earlier less | inr far ↦ line_later far ]

    takes_now : AreApart path other → RemovesHeader profile limit now other (moved c d)
    takes_now apart =
        section.taken_again profile limit s other d fine k now c i j fine_now closed_now
        (ap (kinds_at other) (gone.said_now profile limit s path c fine h)
        ∙ kinds_beside profile limit s path h.number fine h.own h.closed other apart)
        head_now.1.0 end_now.ends placed.from placed.to

pub taken_after_remove : TakenAfterRemove
taken_after_remove profile limit s path c other d fine h k apart side =
    subst (λ (t : Document). RemovesHeader profile limit t other (moved c d))
    (sym (gone.is_now profile limit s path c fine h))
    (takes_now profile limit s path c other d fine h k (side_of profile limit s path c other d fine h k side) apart)
