-- A line of a path's own, and a table which goes with its header, beside each other: the two paths are apart.
--
-- What the lines beside the table's say is not at its path or under it, as all of it is said of the document without
-- the table, from which that is cut (`all_apart`). The line is one of these: its bytes are not among the table's
-- (`not_taken`), and where a list is cut twice is known (`seam_of`). It says a value at its path, so that is not at the
-- table's or under it (`not_below`). And beside the line nothing is said at its path or under it; but the table's
-- header says something at the table's, and the line defines no table (`not_above`).
--
-- Theorems: `line_apart`, `cleared_apart`.
use Rattle.std.proofs.Common.{◌≡◌, ℕ, suc, ◌+◌, ◌<◌, ◌≤◌, true, false, List, ◌∷◌, ◌++◌, length, map, refl, sym}
use Rattle.std.proofs.Common.{ap, subst, ◌∙◌, length-append, arith, Some, None, ◌⊎◌, inl, inr}
use Rattle.std.proofs.lemmas.List.{length-map}
use Rattle.keep_types.specs.declared.leaf.Profile.{Profile}
use Rattle.keep_syntax.specs.Tree.{Line, Document}
use Rattle.keep_path.specs.Path.{Part, strip}
use Rattle.keep_meaning.specs.Marks.{Mention, MentionKind, Reading, below, start}
use Rattle.keep_meaning.specs.Meaning.{after_line, keyval_mentions, line_mentions, line_of, lines, lines_mentions}
use Rattle.keep_meaning.specs.Meaning.{mentions_in, reading_after_lines}
use Rattle.keep_meaning.specs.Nodes.{is_define}
use Rattle.keep_edit_spec.specs.ClearedLines.{ClearsLine, line_start}
use Rattle.keep_edit_spec.specs.Laws.{IsEditable}
use Rattle.keep_edit_spec.specs.Lines.{last_line}
use Rattle.keep_edit_spec.specs.RemovedLines.{RemovesLine}
use Rattle.keep_edit_spec.specs.RemovedSections.{RemovesSection}
use Rattle.keep_edit_spec.specs.Runs.{AreApart}
use Rattle.keep_edit_spec.specs.TextChanges.{IsBeside, TextChange}
use Rattle.keep_edit_spec.proofs.Append.AppendLaw.{reading_append}
use Rattle.keep_edit_spec.proofs.Common.Doubles.{has_some}
use Rattle.keep_edit_spec.proofs.Common.HeadersGo.{with_body}
use Rattle.keep_edit_spec.proofs.Common.InValue as value
use Rattle.keep_edit_spec.proofs.Common.LineLaws.{lines_mentions-append}
use Rattle.keep_edit_spec.proofs.Common.Runs.{AllOf, IsDisjoint, SomeOf, all_join, all_left, all_right, meet}
use Rattle.keep_edit_spec.proofs.Common.SetDocument.{keyval_alone, mentions_of}
use Rattle.keep_edit_spec.proofs.Common.SetLaw.{IsAloneAt}
use Rattle.keep_edit_spec.proofs.Common.TableThere.{IsDefined}
use Rattle.keep_edit_spec.proofs.Common.ValueThere.{some_cases}
use Rattle.keep_edit_spec.proofs.Lists.HeaderLeft.{cut, section_read}
use Rattle.keep_edit_spec.proofs.Lists.MadeChanges.{removes_there}
use Rattle.keep_edit_spec.proofs.Lists.OwnLine as line
use Rattle.keep_edit_spec.proofs.Lists.Places.{width_grows, width_stays}
use Rattle.keep_edit_spec.proofs.Lists.RemovedPlaces.{end_is, mine}
use Rattle.keep_edit_spec.proofs.Lists.SectionsApart as section
use Rattle.keep_edit_spec.proofs.Lists.SectionsApart.{Seam, beyond, seam_of, within}
use Rattle.keep_edit_spec.proofs.Lists.TakenGone as gone
use Rattle.keep_edit_spec.proofs.Remove.KeyvalMentions.{mentioned_below, mentions_keyval}
use Rattle.keep_edit_spec.proofs.Remove.RemoveLines.{IsOwnLine}
use Rattle.keep_edit_spec.proofs.Remove.RemoveSection.{body_is}

-- ---- where a line ends that goes, beside what goes of a table

-- the line that ends there is before the table, or after it
abbrev EndsBeside : ℕ → TextChange → Type 0
EndsBeside end d = (end ≤ d.at) ⊎ (d.at + d.size < end)

ends_beside : (c d : TextChange) (end : ℕ) → 0 < c.size → c.at + c.size ≡ end → IsBeside c d ⊎ IsBeside d c
    → EndsBeside end d
ends_beside c d end some e (inl (inl a)) = inl (omega (arith, e, a))
ends_beside c d end some e (inl (inr b)) = inr (omega (arith, e, some, b.1))
ends_beside c d end some e (inr (inl a)) = inr (omega (arith, e, some, a))
ends_beside c d end some e (inr (inr b)) = inl (omega (arith, e, b.1))

-- ---- the table

module _ (profile : Profile) (limit : ℕ) (s : Document) (other : List Part) (d : TextChange)
    (fine : IsEditable profile limit s) (k : RemovesSection profile limit s other d) where
  abbrev first : List Line
  first = gone.before profile limit s other d fine (inl k)

  abbrev taken : List Line
  taken = gone.taken_lines profile limit s other d fine (inl k)

  abbrev left : List Line
  left = gone.after profile limit s other d fine (inl k)

  abbrev x : Reading
  x = reading_after_lines start first

  abbrev u : Reading
  u = with_body other x

  -- the number of its header, and of the line after it
  abbrev number : ℕ
  number = gone.n profile limit s other d fine (inl k)

  abbrev end : ℕ
  end = number + gone.gone profile limit s other d fine (inl k)

  all_apart : AllOf (IsDisjoint other) (lines_mentions start first ++ lines_mentions x left)
  all_apart =
      let left_of = cut profile limit s other d fine k in
      subst (AllOf (IsDisjoint other))
      (sym left_of.is ∙ ap (lines_mentions start) (gone.lines_are profile limit s other d fine (inl k))
      ∙ lines_mentions-append start first left)
      (all_join (IsDisjoint other) left_of.before left_of.after left_of.disjoint_before left_of.disjoint_after)

  -- the lines after it are read alike past its body
  read_alike : lines_mentions u left ≡ lines_mentions x left
  read_alike =
      let at = gone.at profile limit s other d fine (inl k) in
      let following : List Line = section.after s other at in
      ap (lines_mentions u) (sym (section.more_left s other at)) ∙ (body_is u following).further x.body
      ∙ ap (lines_mentions x) (section.more_left s other at)

  before_apart : AllOf (IsDisjoint other) (lines_mentions start first)
  before_apart = all_left (IsDisjoint other) (lines_mentions start first) (lines_mentions x left) all_apart

  after_apart : AllOf (IsDisjoint other) (lines_mentions u left)
  after_apart =
      subst (AllOf (IsDisjoint other)) (sym read_alike)
      (all_right (IsDisjoint other) (lines_mentions start first) (lines_mentions x left) all_apart)

  -- ---- a line beside it

  module _ (path : List Part) (m : ℕ) (own : last_line (mine path) start (lines s) ≡ Some m)
      (closed : m < length s.ended) (side : EndsBeside (line_start s (suc m)) d) where
    abbrev pre : List Line
    pre = line.before profile limit s path m fine own closed

    abbrev post : List Line
    post = line.after profile limit s path m fine own closed

    abbrev l : Line
    l = (line.c profile limit s path m fine own closed).here.line

    abbrev r : Reading
    r = line.r profile limit s path m fine own closed

    abbrev its : IsOwnLine r.body path l.content
    its = line.its profile limit s path m fine own closed

    said_is : line_mentions r l ≡ map (below r.body) (keyval_mentions its.name its.held)
    said_is = mentions_of r l its.name its.held its.was

    -- it says a value at its path, and defines no table
    value_there : SomeOf (IsAloneAt path) (line_mentions r l)
    value_there =
        subst (SomeOf (IsAloneAt path)) (sym said_is)
        (subst (λ (p : List Part). SomeOf (IsAloneAt p) (map (below r.body) (keyval_mentions its.name its.held)))
        its.place (keyval_alone r.body its.name its.held))

    abbrev defines_none : MentionKind → Type 0
    defines_none a = is_define a ≡ false

    none_defined : AllOf (λ (m : Mention). defines_none m.kind) (line_mentions r l)
    none_defined =
        subst (AllOf (λ (m : Mention). defines_none m.kind)) (sym said_is)
        (mentioned_below defines_none r.body (keyval_mentions its.name its.held)
        (mentions_keyval defines_none (record { dot = refl; held = λ f. refl; unnamed = λ f. refl }) its.name its.held))

    -- among lines that say nothing at the table's path or under it, its path is not there
    among : (y : Reading) (z more : List Line) → reading_after_lines y z ≡ r
        → AllOf (IsDisjoint other) (lines_mentions y (z ++ l ∷ more)) → strip other path ≡ None
    among y z more reads apart =
        let from : lines_mentions y (z ++ l ∷ more)
        ≡ lines_mentions y z ++ (line_mentions r l ++ lines_mentions (after_line r l) more) =
        lines_mentions-append y z (l ∷ more)
        ∙ ap (λ (w : Reading). lines_mentions y z ++ (line_mentions w l ++ lines_mentions (after_line w l) more))
        reads in
        let here : AllOf (IsDisjoint other) (line_mentions r l) =
        all_left (IsDisjoint other) (line_mentions r l) (lines_mentions (after_line r l) more)
        (all_right (IsDisjoint other) (lines_mentions y z)
        (line_mentions r l ++ lines_mentions (after_line r l) more)
        (subst (AllOf (IsDisjoint other)) from apart)) in
        let (said, alone, away) = meet (IsAloneAt path) (IsDisjoint other) (line_mentions r l) value_there here in
        subst (λ (q : List Part). strip other q ≡ None) alone.path away

    -- it is none of the table's lines
    not_taken : (z more : List Line) → pre ≡ first ++ z → taken ≡ z ++ l ∷ more → ⊥
    not_taken z more e g =
        let at = gone.at profile limit s other d fine (inl k) in
        let is : m ≡ number + length z =
        omega (
          arith,
          line.before_length profile limit s path m fine own closed,
          ap (λ (ls : List Line). length ls) e,
          length-append first z,
          length-map at.first line_of,
        ) in
        let inside : suc m ≤ end =
        omega (
          arith,
          is,
          ap (λ (ls : List Line). length ls) g,
          length-append z (l ∷ more),
          length-map at.body line_of,
        ) in
        by (omega (arith, is)) inside side
      where
        by : number ≤ m → suc m ≤ end → EndsBeside (line_start s (suc m)) d → ⊥
        by from to (inl before) =
            omega (
              arith,
              before,
              gone.start_is profile limit s other d fine (inl k),
              width_grows profile (suc m) number s.ended fine.valid.ended (omega (arith, from)) (omega (arith, closed)),
            )
        by from to (inr past) =
            omega (
              arith,
              past,
              gone.end_is profile limit s other d fine (inl k),
              width_stays (suc m) end s.ended to,
            )

    not_below : strip other path ≡ None
    not_below =
        by (seam_of first (taken ++ left) pre l post
        (sym (gone.lines_were profile limit s other d fine (inl k))
        ∙ line.lines_were profile limit s path m fine own closed))
      where
        later : (z : List Line) → pre ≡ first ++ z → Seam taken left z l post → strip other path ≡ None
        later z e (within y g) = absurd (not_taken z y e g)
        later z e (beyond y g h) =
            among u y post
            (sym (ap (reading_after_lines start) (e ∙ ap (λ (ls : List Line). first ++ ls) g)
            ∙ reading_append start first (taken ++ y) ∙ reading_append x taken y
            ∙ ap (λ (w : Reading). reading_after_lines w y) (section_read profile limit s other d fine k)))
            (subst (λ (ls : List Line). AllOf (IsDisjoint other) (lines_mentions u ls)) h after_apart)

        by : Seam first (taken ++ left) pre l post → strip other path ≡ None
        by (within z e) =
            among start pre z refl
            (subst (λ (ls : List Line). AllOf (IsDisjoint other) (lines_mentions start ls)) e before_apart)
        by (beyond z e g) = later z e (seam_of taken left z l post g)

    -- and the table's path is not under that of its value
    defined_beside : (ms : List Mention) → SomeOf (IsDefined other) ms → AllOf (IsDisjoint path) ms
        → strip path other ≡ None
    defined_beside ms defined apart =
        let (said, here, away) = meet (IsDefined other) (IsDisjoint path) ms defined apart in
        subst (λ (q : List Part). strip path q ≡ None) here.0 away

    defined_here : SomeOf (IsDefined other) (line_mentions r l) → ⊥
    defined_here defined =
        let (said, here, none) =
        meet (IsDefined other) (λ (m : Mention). defines_none m.kind) (line_mentions r l) defined none_defined in
        let yes : is_define said.kind ≡ true = here.1 in
        absurd cc

    not_above : strip path other ≡ None
    not_above =
        let said : SomeOf (IsDefined other)
        (lines_mentions start pre ++ (line_mentions r l ++ lines_mentions r post)) =
        subst (SomeOf (IsDefined other)) (line.said_was profile limit s path m fine own closed)
        (has_some is_define other (mentions_in s) k.defined) in
        let apart : value.IsBeside path (lines_mentions start pre) (line_mentions r l) (lines_mentions r post) =
        line.apart profile limit s path m fine own closed in
        elim (some_cases (IsDefined other) (lines_mentions start pre) (line_mentions r l ++ lines_mentions r post)
        said) [
          | inl a ↦ defined_beside (lines_mentions start pre) a apart.before
          | inr b ↦
              (elim (some_cases (IsDefined other) (line_mentions r l) (lines_mentions r post) b) [
                | inl a ↦ absurd (defined_here a)
                | inr a ↦ defined_beside (lines_mentions r post) a apart.after
              ])
        ]

    pub apart : AreApart path other
    apart = (not_above, not_below)

-- ---- the laws

pub line_apart : (profile : Profile) (limit : ℕ) (s : Document) (path : List Part) (c : TextChange)
    (other : List Part) (d : TextChange) → IsEditable profile limit s → RemovesLine profile limit s path c
    → RemovesSection profile limit s other d → IsBeside c d ⊎ IsBeside d c → AreApart path other
line_apart profile limit s path c other d fine h k side =
    apart profile limit s other d fine k path h.number h.own h.closed
    (ends_beside c d (line_start s (suc h.number)) (removes_there profile limit s path c fine (inl h)).1
    (end_is profile limit s path c h) side)

pub cleared_apart : (profile : Profile) (limit : ℕ) (s : Document) (path : List Part) (c : TextChange)
    (other : List Part) (d : TextChange) → IsEditable profile limit s → ClearsLine profile limit s path c
    → RemovesSection profile limit s other d → IsBeside c d ⊎ IsBeside d c → AreApart path other
cleared_apart profile limit s path c other d fine h k side =
    apart profile limit s other d fine k path h.number h.own h.closed
    (ends_beside c d (line_start s (suc h.number)) (removes_there profile limit s path c fine (inr (inl h))).1 h.ends
    side)
