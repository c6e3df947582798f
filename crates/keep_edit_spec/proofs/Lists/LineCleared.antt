-- The document after a remove that leaves its line with the comment, and what a change of a line becomes in it.
--
-- The line is the one that the remove clears, since no other is the path's own (`line_none`, `here_is`). It is blank
-- then, and says nothing; the other lines say what they said (OwnLine). There are as many lines, which begin where they
-- did or are moved (`lines_begin`).
--
-- Where a change finds nothing in that line before and after, it finds in the others what it found, at the moved place:
-- this is `Stays` of SetPlaces, by induction over the lines before it (`lines_beside`). An act in a value at a path
-- that does not begin with the removed one finds nothing in it.
--
-- Theorems: `its`, `keeps`, `is_now`, `lines_were`, `lines_are`: the line and the document; `said_was`,
-- `said_now`, `fact_now`: what it says; `made`, `place_is`, `lines_begin`, `there`, `some`,
-- `moves`, `moves_same`, `beside`, `bare_cut`: the change; `document_cleared`, `line_misses`, `nested_cleared`,
-- `place_cleared`: a change after it.
use Rattle.std.proofs.Common.{◌≡◌, ℕ, ◌+◌, ◌<◌, ◌≤◌, true, List, [], ◌∷◌, ◌++◌, length, map, refl, sym, ap, ap₂, subst}
use Rattle.std.proofs.Common.{◌∙◌, arith, Option, Some, None}
use Rattle.std.proofs.lemmas.List.{append-nil}
use Rattle.keep_types.specs.declared.leaf.Profile.{Profile}
use Rattle.keep_syntax.specs.Tree.{Written, Line, Ended, Document, bom_leaves, ended_leaves, text, text_of}
use Rattle.keep_path.specs.Path.{Part, strip}
use Rattle.keep_meaning.specs.Marks.{Mention, Reading, below, start}
use Rattle.keep_meaning.specs.Meaning.{after_line, keyval_mentions, line_mentions, line_of, lines, lines_mentions}
use Rattle.keep_meaning.specs.Meaning.{mentions_in, reading_after_lines}
use Rattle.keep_meaning.specs.Nodes.{fact_at}
use Rattle.keep_edit_spec.specs.Changed.{Changed, framed_change, or_else, place_of, within}
use Rattle.keep_edit_spec.specs.ClearedLines.{ClearsLine}
use Rattle.keep_edit_spec.specs.Edits.{Edit, change, changed_or_same, clear_line, edited_document, is_own, nested}
use Rattle.keep_edit_spec.specs.Edits.{place, remove}
use Rattle.keep_edit_spec.specs.Laws.{IsEditable}
use Rattle.keep_edit_spec.specs.Lines.{Page, in_document, in_line, in_lines, line_text, with_page}
use Rattle.keep_edit_spec.specs.TextChanges.{IsBeside, TextChange, moved, moved_by, place_of_change}
use Rattle.keep_edit_spec.specs.Values.{Act}
use Rattle.keep_edit_spec.proofs.Common.DoneAtValue.{EachOf}
use Rattle.keep_edit_spec.proofs.Common.LineLaws.{lines_mentions-append}
use Rattle.keep_edit_spec.proofs.Common.LineTexts.{clear_cases, clear_line-is, cleared, in_line-is}
use Rattle.keep_edit_spec.proofs.Common.Runs.{AllOf, IsDisjoint, SomeOf, all_left, all_right}
use Rattle.keep_edit_spec.proofs.Common.SetDocument.{keyval_alone, mentions_of}
use Rattle.keep_edit_spec.proofs.Common.SetLaw.{IsAloneAt}
use Rattle.keep_edit_spec.proofs.Common.Texts.{EachIs, IsAct}
use Rattle.keep_edit_spec.proofs.Common.ValueThere.{disjoint_alone}
use Rattle.keep_edit_spec.proofs.Lists.ClearStays.{made_by}
use Rattle.keep_edit_spec.proofs.Lists.LineGone.{behind, line_before, right_of, with_line}
use Rattle.keep_edit_spec.proofs.Lists.LineStarts.{LinesBegin, document_begins}
use Rattle.keep_edit_spec.proofs.Lists.OwnLine as own
use Rattle.keep_edit_spec.proofs.Lists.RemovedPlaces.{IsCutAt, lines_here}
use Rattle.keep_edit_spec.proofs.Lists.RenamePlaces.{IsChangeAt, change_at}
use Rattle.keep_edit_spec.proofs.Lists.SetPlaces.{Stays, first_stays, framed_stays, past_line, stays_as, still_place}
use Rattle.keep_edit_spec.proofs.Lists.WiderChanges.{beside_narrow, narrow, narrow_moves, narrow_place}
use Rattle.keep_edit_spec.proofs.Remove.RemoveLines.{IsOwnLine, own_line}

-- ---- the line that is cleared

own_said : (path : List Part) (r : Reading) (l : Line) → is_own path r l.content ≡ true
    → SomeOf (IsAloneAt path) (line_mentions r l)
own_said path r l e =
    let o : IsOwnLine r.body path l.content = own_line path r l.content e in
    subst (SomeOf (IsAloneAt path)) (sym (mentions_of r l o.name o.held o.was))
    (subst (λ (p : List Part). SomeOf (IsAloneAt p) (map (below r.body) (keyval_mentions o.name o.held))) o.place
    (keyval_alone r.body o.name o.held))

-- a line that says nothing under a path is not cleared
line_none : (path : List Part) (r : Reading) (l : Line) → AllOf (IsDisjoint path) (line_mentions r l)
    → clear_line path r l ≡ None
line_none path r l h =
    clear_cases (λ (o : Option (Changed Line)). o ≡ None) path r l refl
    (λ c e mine. absurd (disjoint_alone path (line_mentions r l) h (own_said path r l mine)))

none_cleared : (path : List Part) (r : Reading) (es : List Ended) (last : Line)
    → AllOf (IsDisjoint path) (lines_mentions r (map line_of es ++ last ∷ []))
    → in_lines (clear_line path) r es last ≡ None
none_cleared path r [] last h =
    ap (within (λ l. record { ended = []; last = l }) [] [])
    (line_none path r last (all_left (IsDisjoint path) (line_mentions r last) [] h))
none_cleared path r (e ∷ es) last h =
    let here : List Mention = line_mentions r e.line in
    let later : List Mention = lines_mentions (after_line r e.line) (map line_of es ++ last ∷ []) in
    ap₂ (λ (a : Option (Changed Line)) (b : Option (Changed Page)).
    or_else (within (with_line last e es) [] (right_of last e es) a)
    (within (behind e) (text_of (ended_leaves e)) [] b))
    (line_none path r e.line (all_left (IsDisjoint path) here later h))
    (none_cleared path (after_line r e.line) es last (all_right (IsDisjoint path) here later h))

-- a change of the line after those
abbrev pub in_page : List Ended → Ended → List Ended → Line → Changed Line → Changed Page
in_page [] e more last d = framed_change (with_line last e more) [] (right_of last e more) d
in_page (x ∷ first) e more last d =
    framed_change (behind x) (text_of (ended_leaves x)) [] (in_page first e more last d)

page_to : (first : List Ended) (e : Ended) (more : List Ended) (last : Line) (d : Changed Line)
    → (in_page first e more last d).to
    ≡ record { ended = first ++ record { line = d.to; newline = e.newline } ∷ more; last = last }
page_to [] e more last d = refl
page_to (x ∷ first) e more last d = ap (behind x) (page_to first e more last d)

-- that line, or none, where the others say nothing under the path
here_is : (path : List Part) (r : Reading) (first : List Ended) (e : Ended) (more : List Ended) (last : Line)
    (d : Option (Changed Line)) → AllOf (IsDisjoint path) (lines_mentions r (map line_of first))
    → (let x : Reading = reading_after_lines r (map line_of first) in
    after_line x e.line ≡ x → AllOf (IsDisjoint path) (lines_mentions x (map line_of more ++ last ∷ []))
    → clear_line path x e.line ≡ d
    → in_lines (clear_line path) r (first ++ e ∷ more) last
    ≡ elim d [ None ↦ None | Some y ↦ Some (in_page first e more last y) ])
here_is path r [] e more last d before keeps after is =
    let none : in_lines (clear_line path) (after_line r e.line) more last ≡ None =
    none_cleared path (after_line r e.line) more last
    (subst (λ (x : Reading). AllOf (IsDisjoint path) (lines_mentions x (map line_of more ++ last ∷ []))) (sym keeps)
    after) in
    ap₂ (λ (a : Option (Changed Line)) (b : Option (Changed Page)).
    or_else (within (with_line last e more) [] (right_of last e more) a)
    (within (behind e) (text_of (ended_leaves e)) [] b)) is none ∙ by d
  where
    by : (o : Option (Changed Line)) → or_else (within (with_line last e more) [] (right_of last e more) o) None
        ≡ elim o [ None ↦ None | Some y ↦ Some (in_page [] e more last y) ]
    by None = refl
    by (Some y) = refl
here_is path r (x ∷ first) e more last d before keeps after is =
    let here : List Mention = line_mentions r x.line in
    let later : List Mention = lines_mentions (after_line r x.line) (map line_of first) in
    ap₂ (λ (a : Option (Changed Line)) (b : Option (Changed Page)).
    or_else (within (with_line last x (first ++ e ∷ more)) [] (right_of last x (first ++ e ∷ more)) a)
    (within (behind x) (text_of (ended_leaves x)) [] b))
    (line_none path r x.line (all_left (IsDisjoint path) here later before))
    (here_is path (after_line r x.line) first e more last d (all_right (IsDisjoint path) here later before) keeps after
    is) ∙ by d
  where
    by : (o : Option (Changed Line)) → within (behind x) (text_of (ended_leaves x)) []
        (elim o [ None ↦ None | Some y ↦ Some (in_page first e more last y) ])
        ≡ elim o [ None ↦ None | Some y ↦ Some (in_page (x ∷ first) e more last y) ]
    by None = refl
    by (Some y) = refl

-- ---- a change of the other lines

module _ (f : Reading → Line → Option (Changed Line)) (cuts : (r : Reading) (l : Line) → EachIs line_text l (f r l))
    (last : Line) (e : Ended) (more : List Ended) (d : Changed Line) (cut : EachIs line_text e.line (Some d)) where
  abbrev new : Ended
  new = record { line = d.to; newline = e.newline }

  -- the line is read alike, and nothing is found in it before and after
  lines_beside : (r : Reading) (first : List Ended)
      → (let x : Reading = reading_after_lines r (map line_of first) in
      after_line x d.to ≡ after_line x e.line → f x e.line ≡ None → f x d.to ≡ None
      → Stays (in_page first e more last d) (in_lines f r (first ++ e ∷ more) last)
      (in_lines f r (first ++ new ∷ more) last))
  lines_beside r [] reads fails fails_now =
      let later : Option (Changed Page) = in_lines f (after_line r e.line) more last in
      let text_is : (l : Line) → text_of (ended_leaves (record { line = l; newline = e.newline }))
      ≡ line_text l ++ (e.newline.text ++ []) =
      λ l. past_line l e.newline ∙ ap (λ (t : List ℕ). line_text l ++ t) (sym (append-nil e.newline.text)) in
      stays_as (in_page [] e more last d)
      (within (behind e) (line_text e.line ++ (e.newline.text ++ [])) [] later)
      (within (behind new) (line_text d.to ++ (e.newline.text ++ [])) [] later)
      (in_lines f r (e ∷ more) last) (in_lines f r (new ∷ more) last)
      (ap₂ (λ (a : Option (Changed Line)) (t : List ℕ).
      or_else (within (with_line last e more) [] (right_of last e more) a) (within (behind e) t [] later)) fails
      (text_is e.line))
      (ap₂ (λ (a : Option (Changed Line)) (x : Reading).
      or_else (within (with_line last new more) [] (right_of last new more) a)
      (within (behind new) (text_of (ended_leaves new)) [] (in_lines f x more last))) fails_now reads
      ∙ ap (λ (t : List ℕ). within (behind new) t [] later) (text_is d.to))
      (first_stays line_text e.line (with_line last e more) [] (right_of last e more) (e.newline.text ++ []) d
      (behind e) (behind new) later cut)
  lines_beside r (x ∷ first) reads fails fails_now =
      line_before f cuts last r x (first ++ e ∷ more) (first ++ new ∷ more) (in_page first e more last d)
      (in_lines f (after_line r x.line) (first ++ e ∷ more) last)
      (in_lines f (after_line r x.line) (first ++ new ∷ more) last)
      (lines_beside (after_line r x.line) first reads fails fails_now)

-- ---- the document with the line cleared

module _ (profile : Profile) (limit : ℕ) (s : Document) (path : List Part) (l : TextChange)
    (fine : IsEditable profile limit s) (h : ClearsLine profile limit s path l) where
  abbrev pub c : IsCutAt h.number s.ended
  c = own.c profile limit s path h.number fine h.own h.closed

  abbrev pub before : List Line
  before = own.before profile limit s path h.number fine h.own h.closed

  abbrev pub after : List Line
  after = own.after profile limit s path h.number fine h.own h.closed

  abbrev pub r : Reading
  r = own.r profile limit s path h.number fine h.own h.closed

  pub its : IsOwnLine r.body path c.here.line.content
  its = own.its profile limit s path h.number fine h.own h.closed

  pub keeps : after_line r c.here.line ≡ r
  keeps = own.keeps profile limit s path h.number fine h.own h.closed

  pub lines_were : lines s ≡ before ++ c.here.line ∷ after
  lines_were = own.lines_were profile limit s path h.number fine h.own h.closed

  -- its comment, and how it is found
  pub record IsFound : Type 0 where
    pub comment : Written
    pub has : c.here.line.comment ≡ Some comment
    pub is : clear_line path r c.here.line ≡ Some (cleared c.here.line comment)

  found_as : (o : Option (Changed Line)) → clear_line path r c.here.line ≡ o
      → in_lines (clear_line path) start s.ended s.last
      ≡ elim o [ None ↦ None | Some y ↦ Some (in_page c.first c.here c.more s.last y) ]
  found_as o is =
      let beside = own.apart profile limit s path h.number fine h.own h.closed in
      ap (λ (es : List Ended). in_lines (clear_line path) start es s.last) c.was
      ∙ here_is path start c.first c.here c.more s.last o beside.before keeps beside.after is

  pub found : IsFound
  found =
      clear_cases (λ (o : Option (Changed Line)). clear_line path r c.here.line ≡ o → IsFound) path r c.here.line none
      some refl
    where
      none : clear_line path r c.here.line ≡ None → IsFound
      none e = let is : None ≡ Some h.cleared = sym (found_as None e) ∙ h.commented in absurd cc

      some : (w : Written) → c.here.line.comment ≡ Some w → is_own path r c.here.line.content ≡ true
          → clear_line path r c.here.line ≡ Some (cleared c.here.line w) → IsFound
      some w has mine is = record { comment = w; has = has; is = is }

  abbrev pub comment : Written
  comment = found.comment

  abbrev pub bare : Changed Line
  bare = cleared c.here.line comment

  abbrev pub now : Document
  now = record {
    bom = s.bom;
    ended = c.first ++ record { line = bare.to; newline = c.here.newline } ∷ c.more;
    last = s.last;
  }

  abbrev pub page : Changed Page
  page = in_page c.first c.here c.more s.last bare

  abbrev pub x : Changed Document
  x = framed_change (with_page s) (text_of (bom_leaves s.bom)) [] page

  pub page_is : in_lines (clear_line path) start s.ended s.last ≡ Some page
  page_is = found_as (Some bare) found.is

  pub made : change s (remove path) ≡ Some x
  made = made_by s path page page_is

  pub to_is : x.to ≡ now
  to_is = ap (with_page s) (page_to c.first c.here c.more s.last bare)

  pub is_now : edited_document s (remove path) ≡ now
  is_now = ap (λ (o : Option (Changed Document)). (changed_or_same s o).to) made ∙ to_is

  pub lines_are : lines now ≡ before ++ bare.to ∷ after
  lines_are = lines_here c.first (record { line = bare.to; newline = c.here.newline }) c.more s.last

  -- ---- what it says

  pub said_was : mentions_in s
      ≡ lines_mentions start before ++ (line_mentions r c.here.line ++ lines_mentions r after)
  said_was = own.said_was profile limit s path h.number fine h.own h.closed

  pub said_now : mentions_in now ≡ lines_mentions start before ++ lines_mentions r after
  said_now = ap (lines_mentions start) lines_are ∙ lines_mentions-append start before (bare.to ∷ after)

  pub fact_now : (q : List Part) → strip path q ≡ None → fact_at q (mentions_in now) ≡ fact_at q (mentions_in s)
  fact_now q e = ap (fact_at q) said_now ∙ own.fact_without profile limit s path h.number fine h.own h.closed q e

  -- ---- its place

  pub place_is : place s (remove path) ≡ place_of x
  place_is = ap (λ (o : Option (Changed Document)). place_of (changed_or_same s o)) made

  low : (place s (remove path)).start ≤ (place s (remove path)).end
  low = omega (arith, h.some)

  -- the change of that place alone
  abbrev pub thin : TextChange
  thin = narrow (place s (remove path))

  pub placed : place s (remove path) ≡ place_of_change thin
  placed = narrow_place (place s (remove path)) low

  pub there : IsChangeAt thin x
  there = change_at thin x (sym place_is ∙ placed)

  pub some : 0 < thin.size
  some = omega (arith, h.some)

  pub moves : (at : ℕ) → moved_by thin at ≡ moved_by l at
  moves = narrow_moves _ (place s (remove path)) l h.is low

  pub moves_same : (d : TextChange) → moved thin d ≡ moved l d
  moves_same d = ap (λ (at : ℕ). record d { at = at }) (moves d.at)

  pub beside : (d : TextChange) → IsBeside l d → IsBeside thin d
  beside = beside_narrow _ (place s (remove path)) l h.is low

  pub thin_within : thin.at + thin.size ≤ length (text s)
  thin_within = omega (arith, h.is.within, low)

  pub lines_begin : LinesBegin s x
  lines_begin =
      let begun : EachOf (LinesBegin s) (in_document s (in_lines (clear_line path) start s.ended s.last)) =
      document_begins (clear_line path) (λ q y. clear_line-is path q y) s in
      subst (λ (o : Option (Changed Page)). EachOf (LinesBegin s) (in_document s o)) page_is begun

  -- ---- a change of it

  pub bare_cut : EachIs line_text c.here.line (Some bare)
  bare_cut = subst (EachIs line_text c.here.line) found.is (clear_line-is path r c.here.line)

  pub document_cleared : (f : Reading → Line → Option (Changed Line))
      → ((q : Reading) (y : Line) → EachIs line_text y (f q y)) → f r c.here.line ≡ None → f r bare.to ≡ None
      → Stays x (in_document s (in_lines f start s.ended s.last))
      (in_document now (in_lines f start now.ended now.last))
  document_cleared f cuts fails fails_now =
      let was : Option (Changed Page) = in_lines f start (c.first ++ c.here ∷ c.more) s.last in
      framed_stays (with_page s) (text_of (bom_leaves s.bom)) [] page (in_lines f start s.ended s.last)
      (in_lines f start now.ended s.last)
      (subst (λ (es : List Ended). Stays page (in_lines f start es s.last) (in_lines f start now.ended s.last))
      (sym c.was)
      (lines_beside f cuts s.last c.here c.more bare bare_cut start c.first (sym keeps) fails fails_now))

  pub line_misses : (act : Act) (other : List Part) → strip path other ≡ None → in_line act other r c.here.line ≡ None
  line_misses act other clear =
      own.line_misses profile limit s path h.number fine h.own h.closed act other clear

  pub nested_cleared : (act : Act) → IsAct act → (other : List Part) → strip path other ≡ None
      → Stays x (nested act other s) (nested act other now)
  nested_cleared act is other clear =
      document_cleared (in_line act other) (λ q y. in_line-is act is other q y) (line_misses act other clear) refl

  -- the place of an edit that makes the same change with the line cleared
  pub place_cleared : (d : TextChange) (e : Edit) (y : Changed Document) → change s e ≡ Some y
      → place s e ≡ place_of_change d → 0 < d.size → Stays x (change s e) (change now e)
      → place now e ≡ place_of_change (moved l d)
  place_cleared d e y is at many stays =
      still_place thin d s now e x y (sym place_is ∙ placed) at many is stays ∙ ap place_of_change (moves_same d)
