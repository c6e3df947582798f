-- The document after a remove that takes a line, and what a change of a line becomes in it.
--
-- The other lines say what they said (OwnLine). The lines before one are as long as before, or shorter by the line.
--
-- Where a change finds nothing in that line, it finds in the others what it found, and its place is as it was, or
-- earlier by the bytes of the line that goes: this is `Stays` of SetPlaces, by induction over the lines before it
-- (`lines_without`).
--
-- Theorems: `its`, `keeps`, `is_now`, `lines_were`, `lines_are`: the line and the document; `said_was`, `said_now`,
-- `cut_now`, `fact_now`: what it says; `before_length`, `length_was`, `number_few`: how many lines there are;
-- `width_same`, `width_less`, `same_to`, `less_from`, `at_before`, `at_from`, `few_now`, `at_now`: the lengths of those
-- before one; `document_without`, `line_misses`, `nested_without`, `place_without`: a change after such a remove.
use Rattle.std.proofs.Common.{◌≡◌, ℕ, zero, suc, ◌+◌, ◌-◌, ◌<◌, ◌≤◌, Bool, true, false, cond, List, [], ◌∷◌, ◌++◌}
use Rattle.std.proofs.Common.{length, map, take, refl, sym, ap, ap₂, subst, ◌∙◌, append_assoc, length-append, arith}
use Rattle.std.proofs.Common.{Option, Some, None, inl, inr}
use Rattle.std.specs.Prelude.{nat_lt}
use Rattle.std.proofs.lemmas.Bool.{cases_lt, le-ltb, lt-ltb}
use Rattle.std.proofs.lemmas.List.{append-nil, map-append}
use Rattle.keep_types.specs.declared.leaf.Profile.{Profile}
use Rattle.keep_syntax.specs.Tree.{Line, Ended, Document, bom_leaves, ended_leaves, text_of}
use Rattle.keep_path.specs.Path.{Part, strip}
use Rattle.keep_meaning.specs.Marks.{Reading, start}
use Rattle.keep_meaning.specs.Meaning.{after_line, line_mentions, line_of, lines, lines_mentions, mentions_in}
use Rattle.keep_meaning.specs.Meaning.{reading_after_lines}
use Rattle.keep_meaning.specs.Nodes.{fact_at}
use Rattle.keep_edit_spec.specs.Changed.{Changed, framed_change, or_else, place_of, within}
use Rattle.keep_edit_spec.specs.Edits.{Edit, change, changed_or_same, edited_document, nested, place, remove}
use Rattle.keep_edit_spec.specs.Laws.{IsEditable}
use Rattle.keep_edit_spec.specs.Lines.{Page, drop_lines, in_document, in_line, in_lines, line_text, page_text}
use Rattle.keep_edit_spec.specs.Lines.{with_page}
use Rattle.keep_edit_spec.specs.RemovedLines.{RemovesLine}
use Rattle.keep_edit_spec.specs.TextChanges.{TextChange, moved, moved_by, place_of_change}
use Rattle.keep_edit_spec.specs.Values.{Act}
use Rattle.keep_edit_spec.proofs.Common.Cuts.{IsCut}
use Rattle.keep_edit_spec.proofs.Common.LineLaws.{lines_mentions-append}
use Rattle.keep_edit_spec.proofs.Common.LineTexts.{in_line-is}
use Rattle.keep_edit_spec.proofs.Common.Texts.{EachIs, IsAct}
use Rattle.keep_edit_spec.proofs.Lists.BodyEnds.{later_before, later_from}
use Rattle.keep_edit_spec.proofs.Lists.OwnLine as own
use Rattle.keep_edit_spec.proofs.Lists.Places.{later_line, size, width, width_grows, width_more, width_stays}
use Rattle.keep_edit_spec.proofs.Lists.RemovedPlaces.{IsCutAt, at_is, changes, edited_is, end_is}
use Rattle.keep_edit_spec.proofs.Lists.SetPlaces.{Stays, framed_stays, length_cut, past_line, stays_as, still_place}
use Rattle.keep_edit_spec.proofs.Remove.RemoveLines.{IsOwnLine}

-- ---- the lengths of the lines before one, without a line

pub width_same : (first : List Ended) (e : Ended) (more : List Ended) (i : ℕ) → i ≤ length first
    → width (take i (first ++ e ∷ more)) ≡ width (take i (first ++ more))
width_same [] e [] zero h = refl
width_same [] e (x ∷ more) zero h = refl
width_same [] e more (suc i) h = absurd (let k : suc i ≤ 0 = h in omega (arith, k))
width_same (x ∷ first) e more zero h = refl
width_same (x ∷ first) e more (suc i) h =
    let few : suc i ≤ suc (length first) = h in
    omega (
      arith,
      width_more x (take i (first ++ e ∷ more)),
      width_more x (take i (first ++ more)),
      width_same first e more i (omega (arith, few)),
    )

pub width_less : (first : List Ended) (e : Ended) (more : List Ended) (i : ℕ) → length first ≤ i
    → width (take (suc i) (first ++ e ∷ more)) ≡ width (take i (first ++ more)) + size e
width_less [] e more i h = omega (arith, width_more e (take i more))
width_less (x ∷ first) e more zero h = absurd (let k : suc (length first) ≤ 0 = h in omega (arith, k))
width_less (x ∷ first) e more (suc i) h =
    let few : suc (length first) ≤ suc i = h in
    omega (
      arith,
      width_more x (take (suc i) (first ++ e ∷ more)),
      width_more x (take i (first ++ more)),
      width_less first e more i (omega (arith, few)),
    )

-- ---- a change of the lines without one

-- with a line before the others, with that line changed, and the text after it
abbrev pub behind : Ended → Page → Page
behind x b = record { ended = x ∷ b.ended; last = b.last }

abbrev pub with_line : Line → Ended → List Ended → Line → Page
with_line last x es l = record { ended = record { line = l; newline = x.newline } ∷ es; last = last }

abbrev pub right_of : Line → Ended → List Ended → List ℕ
right_of last x es = x.newline.text ++ page_text (record { ended = es; last = last })

module _ (f : Reading → Line → Option (Changed Line)) (cuts : (r : Reading) (l : Line) → EachIs line_text l (f r l))
    (last : Line) where
  -- a line comes before those that are changed
  pub line_before : (r : Reading) (x : Ended) (es to : List Ended) (c : Changed Page) (was are : Option (Changed Page))
      → Stays c was are
      → Stays (framed_change (behind x) (text_of (ended_leaves x)) [] c)
      (or_else (within (with_line last x es) [] (right_of last x es) (f r x.line))
      (within (behind x) (text_of (ended_leaves x)) [] was))
      (or_else (within (with_line last x to) [] (right_of last x to) (f r x.line))
      (within (behind x) (text_of (ended_leaves x)) [] are))
  line_before r x es to c was are = by (f r x.line) (cuts r x.line)
    where
      by : (o : Option (Changed Line)) → EachIs line_text x.line o → Stays c was are
          → Stays (framed_change (behind x) (text_of (ended_leaves x)) [] c)
          (or_else (within (with_line last x es) [] (right_of last x es) o)
          (within (behind x) (text_of (ended_leaves x)) [] was))
          (or_else (within (with_line last x to) [] (right_of last x to) o)
          (within (behind x) (text_of (ended_leaves x)) [] are))
      by None here h = framed_stays (behind x) (text_of (ended_leaves x)) [] c was are h
      by (Some d) here h = record {
        next = framed_change (with_line last x to) [] (right_of last x to) d;
        is = refl;
        old = refl;
        given = refl;
        place = inr (
          (omega (
            arith,
            length_cut (line_text x.line) d.before d.old d.after here.was,
            length-append (text_of (ended_leaves x)) c.before,
            ap (λ (t : List ℕ). length t) (past_line x.line x.newline),
            length-append (line_text x.line) x.newline.text,
          )),
          refl,
        );
      }

  -- the first line goes
  gone_by : (e : Ended) (c : Changed Page) → length c.before ≡ 0 → length c.old ≡ length (text_of (ended_leaves e))
      → length c.new ≡ 0 → (o : Option (Changed Page)) → Stays c (within (behind e) (text_of (ended_leaves e)) [] o) o
  gone_by e c b w n None = refl
  gone_by e c b w n (Some d) =
      let far = length-append (text_of (ended_leaves e)) d.before in
      record {
        next = d;
        is = refl;
        old = refl;
        given = refl;
        place = inl ((omega (arith, b, w, far)), (omega (arith, w, n, far)));
      }

  first_gone : (e : Ended) (more : List Ended) (o : Option (Changed Page))
      → Stays (drop_lines 0 1 (e ∷ more) last) (within (behind e) (text_of (ended_leaves e)) [] o) o
  first_gone e [] o =
      gone_by e (drop_lines 0 1 (e ∷ []) last) refl
      (ap (λ (t : List ℕ). length t) (append-nil (text_of (ended_leaves e)))) refl o
  first_gone e (x ∷ more) o =
      gone_by e (drop_lines 0 1 (e ∷ x ∷ more) last) refl
      (ap (λ (t : List ℕ). length t) (append-nil (text_of (ended_leaves e)))) refl o

  lines_without : (r : Reading) (first : List Ended) (e : Ended) (more : List Ended)
      → (let x : Reading = reading_after_lines r (map line_of first) in
      after_line x e.line ≡ x → f x e.line ≡ None
      → Stays (drop_lines (length first) 1 (first ++ e ∷ more) last) (in_lines f r (first ++ e ∷ more) last)
      (in_lines f r (first ++ more) last))
  lines_without r [] e more keeps fails =
      let later : Option (Changed Page) = in_lines f r more last in
      stays_as (drop_lines 0 1 (e ∷ more) last) (within (behind e) (text_of (ended_leaves e)) [] later) later
      (in_lines f r (e ∷ more) last) later
      (ap₂ (λ (a : Option (Changed Line)) (x : Reading).
      or_else (within (with_line last e more) [] (right_of last e more) a)
      (within (behind e) (text_of (ended_leaves e)) [] (in_lines f x more last))) fails keeps)
      refl (first_gone e more later)
  lines_without r (x ∷ first) e more keeps fails =
      line_before r x (first ++ e ∷ more) (first ++ more)
      (drop_lines (length first) 1 (first ++ e ∷ more) last)
      (in_lines f (after_line r x.line) (first ++ e ∷ more) last)
      (in_lines f (after_line r x.line) (first ++ more) last)
      (lines_without (after_line r x.line) first e more keeps fails)

-- ---- the document without the line

module _ (profile : Profile) (limit : ℕ) (s : Document) (path : List Part) (l : TextChange)
    (fine : IsEditable profile limit s) (h : RemovesLine profile limit s path l) where
  abbrev pub c : IsCutAt h.number s.ended
  c = own.c profile limit s path h.number fine h.own h.closed

  abbrev pub now : Document
  now = record { bom = s.bom; ended = c.first ++ c.more; last = s.last }

  abbrev pub before : List Line
  before = own.before profile limit s path h.number fine h.own h.closed

  abbrev pub after : List Line
  after = own.after profile limit s path h.number fine h.own h.closed

  abbrev pub r : Reading
  r = own.r profile limit s path h.number fine h.own h.closed

  pub its : IsOwnLine r.body path c.here.line.content
  its = own.its profile limit s path h.number fine h.own h.closed

  pub keeps : after_line r c.here.line ≡ r
  keeps = own.keeps profile limit s path h.number fine h.own h.closed

  pub is_now : edited_document s (remove path) ≡ now
  is_now = edited_is s path h.number h.bare h.own h.closed

  pub lines_were : lines s ≡ before ++ c.here.line ∷ after
  lines_were = own.lines_were profile limit s path h.number fine h.own h.closed

  pub lines_are : lines now ≡ before ++ after
  lines_are =
      ap (λ (ls : List Line). ls ++ s.last ∷ []) (map-append line_of c.first c.more)
      ∙ append_assoc before (map line_of c.more) (s.last ∷ [])

  pub before_length : length before ≡ h.number
  before_length = own.before_length profile limit s path h.number fine h.own h.closed

  pub length_was : length s.ended ≡ suc (length now.ended)
  length_was =
      omega (
        arith,
        ap (λ (es : List Ended). length es) c.was,
        length-append c.first (c.here ∷ c.more),
        length-append c.first c.more,
      )

  pub number_few : h.number ≤ length now.ended
  number_few = omega (arith, c.number, length-append c.first c.more)

  -- ---- what it says

  pub said_was : mentions_in s
      ≡ lines_mentions start before ++ (line_mentions r c.here.line ++ lines_mentions r after)
  said_was = own.said_was profile limit s path h.number fine h.own h.closed

  pub said_now : mentions_in now ≡ lines_mentions start before ++ lines_mentions r after
  said_now = ap (lines_mentions start) lines_are ∙ lines_mentions-append start before after

  pub cut_now : IsCut path (mentions_in s) (mentions_in now)
  cut_now = own.cut_now profile limit s path h.number fine h.own h.closed now said_now

  pub fact_now : (q : List Part) → strip path q ≡ None → fact_at q (mentions_in now) ≡ fact_at q (mentions_in s)
  fact_now q e = ap (fact_at q) said_now ∙ own.fact_without profile limit s path h.number fine h.own h.closed q e

  -- ---- the lengths of the lines before one

  pub same_to : (i : ℕ) → i ≤ h.number → width (take i s.ended) ≡ width (take i now.ended)
  same_to i few =
      ap (λ (es : List Ended). width (take i es)) c.was
      ∙ width_same c.first c.here c.more i (omega (arith, few, c.number))

  pub less_from : (i : ℕ) → h.number ≤ i → width (take (suc i) s.ended) ≡ width (take i now.ended) + size c.here
  less_from i few =
      ap (λ (es : List Ended). width (take (suc i) es)) c.was
      ∙ width_less c.first c.here c.more i (omega (arith, few, c.number))

  pub size_is : l.size ≡ size c.here
  size_is =
      omega (
        arith,
        at_is profile limit s path l h,
        end_is profile limit s path l h,
        same_to h.number (omega arith),
        less_from h.number (omega arith),
      )

  abbrev bom : ℕ
  bom = length (text_of (bom_leaves s.bom))

  -- what begins at a line, moved
  pub at_before : (j at : ℕ) → j < h.number → at ≡ bom + width (take j s.ended)
      → moved_by l at ≡ bom + width (take j now.ended)
  at_before j at less is =
      let earlier : nat_lt at l.at ≡ true =
      lt-ltb at l.at (omega (
        arith,
        at_is profile limit s path l h,
        is,
        width_grows profile h.number j s.ended fine.valid.ended less (omega (arith, h.closed)),
      )) in
      let same : at ≡ bom + width (take j now.ended) = omega (arith, is, same_to j (omega (arith, less))) in
      ap (λ (b : Bool). cond b at ((at + length l.new) - l.size)) earlier ∙ same

  pub at_from : (j at : ℕ) → h.number ≤ j → at ≡ bom + width (take (suc j) s.ended)
      → moved_by l at ≡ bom + width (take j now.ended)
  at_from j at far is =
      let later : nat_lt at l.at ≡ false =
      le-ltb at l.at (omega (
        arith,
        at_is profile limit s path l h,
        is,
        width_stays h.number (suc j) s.ended (omega (arith, far)),
      )) in
      let back : (at + length l.new) - l.size ≡ bom + width (take j now.ended) =
      omega (arith, is, less_from j far, size_is, ap (λ (t : List ℕ). length t) h.takes) in
      ap (λ (b : Bool). cond b at ((at + length l.new) - l.size)) later ∙ back

  -- of a line that is there still
  pub few_now : (i j : ℕ) → i ≡ later_line h.number j → i ≤ length s.ended → j ≤ length now.ended
  few_now i j later few = elim (cases_lt j h.number) [
    | inl less ↦ omega (arith, less, number_few)
    | inr far ↦ omega (arith, few, length_was, later, later_from h.number j far)
  ]

  pub at_now : (i j at : ℕ) → i ≡ later_line h.number j → at ≡ bom + width (take i s.ended)
      → bom + width (take j now.ended) ≡ moved_by l at
  at_now i j at later is = elim (cases_lt j h.number) [
    | inl less ↦
        sym (at_before j at less
        (is ∙ ap (λ (k : ℕ). bom + width (take k s.ended)) (later ∙ later_before h.number j less)))
    | inr far ↦
        sym (at_from j at far (is ∙ ap (λ (k : ℕ). bom + width (take k s.ended)) (later ∙ later_from h.number j far)))
  ]

  -- ---- a change of it

  abbrev pub removed : Changed Document
  removed = framed_change (with_page s) (text_of (bom_leaves s.bom)) [] (drop_lines h.number 1 s.ended s.last)

  pub removed_place : place_of removed ≡ place_of_change l
  removed_place =
      let taken : change s (remove path) ≡ Some removed = changes s path h.number h.bare h.own h.closed in
      ap (λ (o : Option (Changed Document)). place_of (changed_or_same s o)) (sym taken) ∙ h.is
      ∙ ap (λ (t : List ℕ). record { start = l.at; end = l.at + l.size; new = t }) (sym h.takes)

  pub document_without : (f : Reading → Line → Option (Changed Line))
      → ((x : Reading) (y : Line) → EachIs line_text y (f x y)) → f r c.here.line ≡ None
      → Stays removed (in_document s (in_lines f start s.ended s.last))
      (in_document now (in_lines f start now.ended now.last))
  document_without f cuts fails =
      let are : Option (Changed Page) = in_lines f start (c.first ++ c.more) s.last in
      framed_stays (with_page s) (text_of (bom_leaves s.bom)) [] (drop_lines h.number 1 s.ended s.last)
      (in_lines f start s.ended s.last) are
      (subst (λ (k : ℕ). Stays (drop_lines k 1 s.ended s.last) (in_lines f start s.ended s.last) are) (sym c.number)
      (subst (λ (es : List Ended).
      Stays (drop_lines (length c.first) 1 es s.last) (in_lines f start es s.last) are) (sym c.was)
      (lines_without f cuts s.last start c.first c.here c.more keeps fails)))

  pub line_misses : (act : Act) (other : List Part) → strip path other ≡ None → in_line act other r c.here.line ≡ None
  line_misses act other apart =
      own.line_misses profile limit s path h.number fine h.own h.closed act other apart

  pub nested_without : (act : Act) → IsAct act → (other : List Part) → strip path other ≡ None
      → Stays removed (nested act other s) (nested act other now)
  nested_without act is other apart =
      document_without (in_line act other) (λ x y. in_line-is act is other x y) (line_misses act other apart)

  -- the place of an edit that makes the same change without the line
  pub place_without : (d : TextChange) (e : Edit) (y : Changed Document) → change s e ≡ Some y
      → place s e ≡ place_of_change d → 0 < d.size → Stays removed (change s e) (change now e)
      → place now e ≡ place_of_change (moved l d)
  place_without d e y made is some stays = still_place l d s now e removed y removed_place is some made stays
