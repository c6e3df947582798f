-- A change of lines after a remove took a table or an element with its header.
--
-- A search goes through the lines, and finds nothing in those that go (`FindsNone`). If it finds in the lines after
-- them what it found, its place there is earlier by the bytes of the lines that went (`past_lines`), and in the lines
-- before them the change is where it was: this is `Stays` of SetPlaces, by induction over them (`lines_without`).
--
-- In the lines after them the reading is another without them. Before the next header no keyval comes, and from there
-- on the body's path is the same, or both paths are at the changed path or below it (`goes_near`). So a search finds
-- the same in all of them (`same_lines`), if it finds something in keyvals alone, by their body's path, and nothing at
-- the changed path or below it (`IsOfBodies`). An act in a value elsewhere is such a search, and so is one for an own
-- line.
--
-- Theorems: `removed_place`, `body_is`, `section_read`, `own_in`, `goes_near`: what goes, and the readings;
-- `section_misses`: nothing is found in it; `document_without`: a change, where the search finds the same in the lines
-- after it; `bodies_without`, `nested_without`, `clear_without`, `place_without`: a change after such a remove.
-- `act_of_bodies`, `clear_of_bodies`, `same_lines`: searches by the paths of bodies; `next_by`, `none_first`: from line
-- to line. `below_none`, `further_none`, `own_by_body`, `own_apart`, `never_own`: paths elsewhere, and lines that are
-- not theirs.
use Rattle.std.proofs.Common.{◌≡◌, ℕ, zero, suc, ◌+◌, ◌<◌, Bool, true, false, List, [], ◌∷◌, ◌++◌, length, map, take}
use Rattle.std.proofs.Common.{refl, sym, ap, ap₂, subst, ◌∙◌, length-append, arith, Option, Some, None, ◌⊎◌, inl, inr}
use Rattle.std.specs.Prelude.{⊤}
use Rattle.std.proofs.lemmas.Bool.{and_parts}
use Rattle.std.proofs.lemmas.List.{append-nil}
use Rattle.keep_types.specs.declared.leaf.Profile.{Profile}
use Rattle.keep_syntax.specs.Tree.{Content, Document, Ended, Gap, Line, Written, blank, bom_leaves, comment_leaves}
use Rattle.keep_syntax.specs.Tree.{element, ended_leaves, header, keyval, text_of}
use Rattle.keep_path.specs.Path.{Part, same_path, strip}
use Rattle.keep_meaning.specs.Marks.{Reading, start}
use Rattle.keep_meaning.specs.Meaning.{after_line, line_of, reading_after_lines, step}
use Rattle.keep_edit_spec.specs.Changed.{Changed, framed_change, or_else, place_of, within}
use Rattle.keep_edit_spec.specs.Edits.{Edit, change, changed_or_same, clear_line, is_own, nested, place}
use Rattle.keep_edit_spec.specs.ElementRuns.{changed_path}
use Rattle.keep_edit_spec.specs.Laws.{IsEditable}
use Rattle.keep_edit_spec.specs.Lines.{Page, body_length, content_text, drop_lines, in_content, in_document, in_line}
use Rattle.keep_edit_spec.specs.Lines.{in_lines, is_header, line_text, more_lines, with_page}
use Rattle.keep_edit_spec.specs.RemovedHeaders.{RemovesHeader}
use Rattle.keep_edit_spec.specs.TextChanges.{TextChange, moved, place_of_change}
use Rattle.keep_edit_spec.specs.Values.{Act}
use Rattle.keep_edit_spec.proofs.Common.HeadersGo.{Goes, HeaderGoes}
use Rattle.keep_edit_spec.proofs.Common.LineLaws.{Reaches}
use Rattle.keep_edit_spec.proofs.Common.LineTexts.{clear_cases, clear_line-is, in_line-is}
use Rattle.keep_edit_spec.proofs.Common.Runs.{same_path-sound, strip-append, strip-sound, strip_shorter}
use Rattle.keep_edit_spec.proofs.Common.Texts.{EachIs, IsAct}
use Rattle.keep_edit_spec.proofs.Lists.HeaderTaken.{IsHeaderTaken}
use Rattle.keep_edit_spec.proofs.Lists.LineGone.{behind, line_before, right_of, with_line}
use Rattle.keep_edit_spec.proofs.Lists.Places.{width, width_more}
use Rattle.keep_edit_spec.proofs.Lists.SectionAt as at_of
use Rattle.keep_edit_spec.proofs.Lists.SectionAt.{IsRunDropped, IsSectionAt, lines_dropped}
use Rattle.keep_edit_spec.proofs.Lists.SectionsApart as sections
use Rattle.keep_edit_spec.proofs.Lists.SectionsApart.{body_keeps, body_taken, is_head, more_none, without}
use Rattle.keep_edit_spec.proofs.Lists.SetPlaces.{Stays, framed_stays, still_place}
use Rattle.keep_edit_spec.proofs.Lists.TakenGone as gone
use Rattle.keep_edit_spec.proofs.Remove.Shift.{not_reached, unreached}

abbrev pub Search : Type 0
Search = Reading → Line → Option (Changed Line)

-- it finds nothing in these lines
abbrev pub FindsNone : Search → Reading → List Line → Type 0
FindsNone f r [] = ⊤
FindsNone f r (l ∷ ls) = (f r l ≡ None) × FindsNone f (after_line r l) ls

abbrev pub is_keyval : Content → Bool
is_keyval blank = false
is_keyval (keyval name v) = true
is_keyval (header x k y) = false
is_keyval (element x k y) = false

pub no_keyval : (k : Content) → is_header k ≡ true → is_keyval k ≡ false
no_keyval blank e = refl
no_keyval (keyval name v) e = absurd cc
no_keyval (header x k y) e = refl
no_keyval (element x k y) e = refl

-- ---- paths below another

-- what is at the zone or below it does not lead to a path that is elsewhere
pub below_none : (zone other b : List Part) → strip zone other ≡ None → Reaches zone b → strip b other ≡ None
below_none zone other b apart w =
    unreached b other (λ v. not_reached zone other apart (
      w.0 ++ v.0,
      strip_shorter zone w.0 other v.0 (ap (λ (p : List Part). strip p other)
          (sym (strip-sound zone b w.0 w.1)) ∙ v.1),
    ))

pub further_none : (b other q : List Part) → strip b other ≡ None → strip (b ++ q) other ≡ None
further_none b other q apart =
    unreached (b ++ q) other (λ v. not_reached b other apart (q ++ v.0, strip_shorter b q other v.0 v.1))

-- ---- searches by the paths of bodies

-- It finds something in keyvals alone, by the path of their body, and nothing at the zone and below it.
pub record IsOfBodies (zone : List Part) (f : Search) : Type 0 where
  pub only : (r : Reading) (l : Line) → is_keyval l.content ≡ false → f r l ≡ None
  pub by_body : (r u : Reading) (l : Line) → r.body ≡ u.body → f r l ≡ f u l
  pub none_in : (r : Reading) (l : Line) → Reaches zone r.body → f r l ≡ None

-- an act in a value finds nothing in other lines than keyvals
not_in : (act : Act) (other b : List Part) (k : Content) → is_keyval k ≡ false → in_content act b other k ≡ None
not_in act other b blank e = refl
not_in act other b (keyval name v) e = absurd cc
not_in act other b (header x k y) e = refl
not_in act other b (element x k y) e = refl

-- and nothing below a path that does not lead to its own
not_below : (act : Act) (other b : List Part) → strip b other ≡ None → (k : Content) → in_content act b other k ≡ None
not_below act other b apart blank = refl
not_below act other b apart (keyval name v) = rw (in_content, further_none b other (step 0 (Some name)) apart) refl
not_below act other b apart (header x k y) = refl
not_below act other b apart (element x k y) = refl

-- seen from the line
abbrev seen : Line → Option (Changed Content) → Option (Changed Line)
seen l =
    within (λ k. record l { content = k }) (text_of l.before) (text_of l.after ++ text_of (comment_leaves l.comment))

pub act_of_bodies : (act : Act) (zone other : List Part) → strip zone other ≡ None
    → IsOfBodies zone (in_line act other)
act_of_bodies act zone other apart = record {
  only = λ r l e. ap (seen l) (not_in act other r.body l.content e);
  by_body = λ r u l e. ap (λ (b : List Part). seen l (in_content act b other l.content)) e;
  none_in = λ r l w. ap (seen l) (not_below act other r.body (below_none zone other r.body apart w) l.content);
}

-- the own line of a path
pub never_own : (other : List Part) (r : Reading) (c : Content) → is_keyval c ≡ false → is_own other r c ≡ false
never_own other r blank e = refl
never_own other r (keyval name v) e = absurd cc
never_own other r (header x k y) e = refl
never_own other r (element x k y) e = refl

pub own_by_body : (other : List Part) (r u : Reading) (k : Content) → r.body ≡ u.body
    → is_own other r k ≡ is_own other u k
own_by_body other r u blank e = refl
own_by_body other r u (keyval name v) e =
    ap (λ (b : List Part). same_path (b ++ step 0 (Some name)) other) e
own_by_body other r u (header x k y) e = refl
own_by_body other r u (element x k y) e = refl

pub own_apart : (other : List Part) (r : Reading) → strip r.body other ≡ None → (k : Content)
    → is_own other r k ≡ false
own_apart other r apart blank = refl
own_apart other r apart (keyval name v) = by (same_path (r.body ++ step 0 (Some name)) other) refl
  where
    by : (b : Bool) → same_path (r.body ++ step 0 (Some name)) other ≡ b → b ≡ false
    by false e = refl
    by true e =
        let some : strip r.body other ≡ Some (step 0 (Some name)) =
        ap (strip r.body) (sym (same_path-sound (r.body ++ step 0 (Some name)) other e))
        ∙ strip-append r.body (step 0 (Some name)) in
        absurd (let no : None ≡ Some (step 0 (Some name)) = sym apart ∙ some in cc)
own_apart other r apart (header x k y) = refl
own_apart other r apart (element x k y) = refl

not_own : (other : List Part) (r : Reading) (l : Line) → is_own other r l.content ≡ false
    → clear_line other r l ≡ None
not_own other r l other_line =
    clear_cases (λ o. o ≡ None) other r l refl
    (λ c e own. absurd (let both : true ≡ false = sym own ∙ other_line in cc))

abbrev cleared_by : Line → Option Written → Bool → Option (Changed Line)
cleared_by l o b = elim o [
  | None ↦ None
  | Some c ↦ elim b [
    | false ↦ None
    | true ↦ Some (record {
      to = record { before = l.before; content = blank; after = []; comment = Some c };
      before = text_of l.before;
      old = content_text l.content ++ text_of l.after;
      new = [];
      after = c.text;
    })
  ]
]

pub clear_of_bodies : (zone other : List Part) → strip zone other ≡ None → IsOfBodies zone (clear_line other)
clear_of_bodies zone other apart = record {
  only = λ r l e. not_own other r l (never_own other r l.content e);
  by_body = λ r u l e. ap (cleared_by l l.comment) (own_by_body other r u l.content e);
  none_in = λ r l w. not_own other r l (own_apart other r (below_none zone other r.body apart w) l.content);
}

-- ---- the lines after what went

-- the body's path is the same, or both paths are at the zone or below it
abbrev pub AreNear : List Part → List Part → List Part → Type 0
AreNear zone a b = (a ≡ b) ⊎ (Reaches zone a × Reaches zone b)

-- where no keyval comes before the next header, the body does not count
abbrev pub NearOrNone : List Part → Reading → Reading → List Line → Type 0
NearOrNone zone r u ls = AreNear zone r.body u.body ⊎ (body_length ls ≡ 0)

none_after : (k : ℕ) → more_lines false k ≡ 0 → k ≡ 0
none_after zero e = refl
none_after (suc k) e = absurd cc

pub none_first : (before after : Gap) (comment : Option Written) (c : Content) (ls : List Line)
    → (let l : Line = record { before = before; content = c; after = after; comment = comment } in
    body_length (l ∷ ls) ≡ 0 → is_keyval c ≡ false)
none_first before after comment blank ls none = refl
none_first before after comment (keyval name v) ls none = absurd cc
none_first before after comment (header x k y) ls none = refl
none_first before after comment (element x k y) ls none = refl

module _ (zone : List Part) (D : List Part → Type 0) (g : List Part → List Part)
    (near : (q : List Part) → D q → AreNear zone q (g q)) where
  near_there : (q p : List Part) → D q × (p ≡ g q) → AreNear zone q p
  near_there q p (there, is) = subst (AreNear zone q) (sym is) (near q there)

  pub next_by : (r u : Reading) (before after : Gap) (comment : Option Written) (c : Content) (ls : List Line)
      → (let l : Line = record { before = before; content = c; after = after; comment = comment } in
      HeaderGoes D g r u l → NearOrNone zone r u (l ∷ ls) → NearOrNone zone (after_line r l) (after_line u l) ls)
  next_by r u before after comment blank ls goes (inl n) = inl n
  next_by r u before after comment blank ls goes (inr none) = inr (none_after (body_length ls) none)
  next_by r u before after comment (keyval name v) ls goes (inl n) = inl n
  next_by r u before after comment (keyval name v) ls goes (inr none) = absurd cc
  next_by r u before after comment (header x k y) ls goes n = inl (near_there _ _ (goes refl))
  next_by r u before after comment (element x k y) ls goes n = inl (near_there _ _ (goes refl))

  module _ (f : Search) (of : IsOfBodies zone f) where
    found_same : (r u : Reading) (l : Line) (ls : List Line) → NearOrNone zone r u (l ∷ ls) → f r l ≡ f u l
    found_same r u l ls (inl (inl e)) = of.by_body r u l e
    found_same r u l ls (inl (inr (w, v))) = of.none_in r l w ∙ sym (of.none_in u l v)
    found_same r u l ls (inr none) =
        let no : is_keyval l.content ≡ false = none_first l.before l.after l.comment l.content ls none in
        of.only r l no ∙ sym (of.only u l no)

    pub same_lines : (r u : Reading) (es : List Ended) (last : Line) → Goes D g r u (map line_of es ++ last ∷ [])
        → NearOrNone zone r u (map line_of es ++ last ∷ []) → in_lines f r es last ≡ in_lines f u es last
    same_lines r u [] last goes n =
        ap (within (λ l. record { ended = []; last = l }) [] []) (found_same r u last [] n)
    same_lines r u (e ∷ es) last goes n =
        ap₂ (λ (o : Option (Changed Line)) (p : Option (Changed Page)).
        or_else (within (with_line last e es) [] (right_of last e es) o)
        (within (behind e) (text_of (ended_leaves e)) [] p))
        (found_same r u e.line (map line_of es ++ last ∷ []) n)
        (same_lines (after_line r e.line) (after_line u e.line) es last goes.1
        (next_by r u e.line.before e.line.after e.line.comment e.line.content (map line_of es ++ last ∷ []) goes.0 n))

-- ---- the lines of the body

module _ (f : Search) (r : Reading) (misses : (l : Line) → is_header l.content ≡ false → f r l ≡ None) where
  none_by : (before after : Gap) (comment : Option Written) (c : Content) (ls : List Line)
      → FindsNone f r (take (body_length ls) ls)
      → (let l : Line = record { before = before; content = c; after = after; comment = comment } in
      FindsNone f r (take (body_length (l ∷ ls)) (l ∷ ls)))
  none_by before after comment blank ls more = by (body_length ls) more
    where
      by : (k : ℕ) → FindsNone f r (take k ls)
          → FindsNone f r (take (more_lines false k)
          (record { before = before; content = blank; after = after; comment = comment } ∷ ls))
      by zero e = tt
      by (suc m) e = (misses _ refl, e)
  none_by before after comment (keyval name v) ls more = (misses _ refl, more)
  none_by before after comment (header x k y) ls more = tt
  none_by before after comment (element x k y) ls more = tt

  -- no header is in a body
  none_in_body : (ls : List Line) → FindsNone f r (take (body_length ls) ls)
  none_in_body [] = tt
  none_in_body (l ∷ ls) = none_by l.before l.after l.comment l.content ls (none_in_body ls)

-- ---- a change behind lines in which nothing is found

-- the same change, with so many bytes more before it
record IsPast (w : ℕ) (d : Changed Page) (o : Option (Changed Page)) : Type 0 where
  next : Changed Page
  is : o ≡ Some next
  far : length next.before ≡ w + length d.before
  old : next.old ≡ d.old
  given : next.new ≡ d.new

abbrev EachPast : ℕ → Option (Changed Page) → Option (Changed Page) → Type 0
EachPast w None p = p ≡ None
EachPast w (Some d) p = IsPast w d p

past_none : (o : Option (Changed Page)) → EachPast 0 o o
past_none None = refl
past_none (Some d) = record { next = d; is = refl; far = omega arith; old = refl; given = refl }

past_one : (e : Ended) (es : List Ended) (o p : Option (Changed Page)) → EachPast (width es) o p
    → EachPast (width (e ∷ es)) o (within (behind e) (text_of (ended_leaves e)) [] p)
past_one e es None p h = ap (within (behind e) (text_of (ended_leaves e)) []) h
past_one e es (Some d) p h = record {
  next = framed_change (behind e) (text_of (ended_leaves e)) [] h.next;
  is = ap (within (behind e) (text_of (ended_leaves e)) []) h.is;
  far = omega (arith, length-append (text_of (ended_leaves e)) h.next.before, h.far, width_more e es);
  old = h.old;
  given = h.given;
}

past_lines : (f : Search) (last : Line) (r : Reading) (gone more : List Ended) → FindsNone f r (map line_of gone)
    → EachPast (width gone) (in_lines f (reading_after_lines r (map line_of gone)) more last)
    (in_lines f r (gone ++ more) last)
past_lines f last r [] more h = past_none (in_lines f r more last)
past_lines f last r (e ∷ gone) more h =
    let later : Option (Changed Page) = in_lines f (after_line r e.line) (gone ++ more) last in
    let o : Option (Changed Page) = in_lines f (reading_after_lines r (map line_of (e ∷ gone))) more last in
    subst (λ (a : Option (Changed Line)).
    EachPast (width (e ∷ gone)) o (or_else (within (with_line last e (gone ++ more)) []
    (right_of last e (gone ++ more)) a) (within (behind e) (text_of (ended_leaves e)) [] later))) (sym h.0)
    (past_one e gone o later (past_lines f last (after_line r e.line) gone more h.1))

-- once those lines go
past_stays : (c : Changed Page) (w : ℕ) → length c.before ≡ 0 → length c.old ≡ w → c.new ≡ []
    → (o p : Option (Changed Page)) → EachPast w o p → Stays c p o
past_stays c w b g n None p h = subst (λ (q : Option (Changed Page)). Stays c q None) (sym h) refl
past_stays c w b g n (Some d) p h =
    subst (λ (q : Option (Changed Page)). Stays c q (Some d)) (sym h.is) (record {
      next = d;
      is = refl;
      old = sym h.old;
      given = sym h.given;
      place = inl (
        (omega (arith, b, g, h.far)),
        (omega (arith, g, h.far, ap (λ (t : List ℕ). length t) n)),
      );
    })

-- ---- a change of the lines without some in a row

module _ (f : Search) (cuts : (r : Reading) (l : Line) → EachIs line_text l (f r l)) (last : Line) where
  lines_without : (r : Reading) (first gone more : List Ended)
      → (let x : Reading = reading_after_lines r (map line_of first) in
      FindsNone f x (map line_of gone)
      → in_lines f (reading_after_lines x (map line_of gone)) more last ≡ in_lines f x more last
      → Stays (drop_lines (length first) (length gone) (first ++ (gone ++ more)) last)
      (in_lines f r (first ++ (gone ++ more)) last) (in_lines f r (first ++ more) last))
  lines_without r [] gone more none same =
      let d : IsRunDropped [] gone more last (drop_lines 0 (length gone) (gone ++ more) last) =
      lines_dropped [] gone more last in
      let c : Changed Page = drop_lines 0 (length gone) (gone ++ more) last in
      subst (Stays c (in_lines f r (gone ++ more) last)) same
      (past_stays c (width gone) d.before d.old d.new
      (in_lines f (reading_after_lines r (map line_of gone)) more last) (in_lines f r (gone ++ more) last)
      (past_lines f last r gone more none))
  lines_without r (x ∷ first) gone more none same =
      line_before f cuts last r x (first ++ (gone ++ more)) (first ++ more)
      (drop_lines (length first) (length gone) (first ++ (gone ++ more)) last)
      (in_lines f (after_line r x.line) (first ++ (gone ++ more)) last)
      (in_lines f (after_line r x.line) (first ++ more) last)
      (lines_without (after_line r x.line) first gone more none same)

-- ---- the document without the table or the element

module _ (profile : Profile) (limit : ℕ) (s : Document) (path : List Part) (c : TextChange)
    (fine : IsEditable profile limit s) (h : RemovesHeader profile limit s path c) where
  abbrev at : IsSectionAt s path
  at = gone.at profile limit s path c fine h

  abbrev now : Document
  now = gone.now profile limit s path c fine h

  abbrev its : IsHeaderTaken profile limit s path c
  its = gone.its profile limit s path c fine h

  abbrev dropped : Changed Page
  dropped = drop_lines (length at.first) (suc (length at.body)) s.ended s.last

  -- the reading before the header, and that in the body
  abbrev pub x : Reading
  x = sections.r s path at

  abbrev pub u : Reading
  u = after_line x at.head.line

  abbrev pub taken_lines : List Line
  taken_lines = at.head.line ∷ map line_of at.body

  abbrev pub removed : Changed Document
  removed = framed_change (with_page s) (text_of (bom_leaves s.bom)) [] dropped

  pub removed_place : place_of removed ≡ place_of_change c
  removed_place =
      ap (λ (o : Option (Changed Document)). place_of (changed_or_same s o))
      (sym (at_of.changes s path at (at_of.bare s path its.valueless) (at_of.none_own s path its.valueless)))
      ∙ its.is

  -- ---- the readings

  pub body_is : u.body ≡ path
  body_is =
      same_path-sound u.body path
      (and_parts (is_header at.head.line.content) (same_path u.body path) at.passes).1

  -- past its header and its body
  pub section_read : reading_after_lines x taken_lines ≡ u
  section_read = body_keeps s path at u

  -- it is at the changed path or below it
  pub own_in : Reaches (changed_path path) u.body
  own_in = by (strip (changed_path path) path) refl
    where
      by : (o : Option (List Part)) → strip (changed_path path) path ≡ o → Reaches (changed_path path) u.body
      by (Some more) e = (more, ap (strip (changed_path path)) body_is ∙ e)
      by None e =
          let no : strip path path ≡ None = gone.under profile limit s path c fine h path e in
          absurd (not_reached path path no ([], ap (strip path) (sym (append-nil path)) ∙ strip-append path []))

  -- a path that is left is the same, or it was at the changed path or below it, and is
  pub goes_near : (q : List Part) → gone.stays profile limit s path c fine h q
      → AreNear (changed_path path) q (gone.goes profile limit s path c fine h q)
  goes_near q there = by (strip (changed_path path) q) (strip (changed_path path) (goes q)) refl refl
    where
      goes : List Part → List Part
      goes = gone.goes profile limit s path c fine h

      by : (o p : Option (List Part)) → strip (changed_path path) q ≡ o → strip (changed_path path) (goes q) ≡ p
          → AreNear (changed_path path) q (goes q)
      by None p e k = inl (sym (gone.stays_apart profile limit s path c fine h q e).1)
      by (Some a) (Some b) e k = inr ((a, e), (b, k))
      by (Some a) None e k =
          let (there_too, still) = gone.stays_apart profile limit s path c fine h (goes q) k in
          let same : goes q ≡ q = (gone.was profile limit s path c fine h).inj (goes q) q there_too there still in
          inl (sym same)

  -- ---- nothing is found in it

  pub section_misses : (f : Search) → f x at.head.line ≡ None
      → ((l : Line) → is_header l.content ≡ false → f u l ≡ None) → FindsNone f x taken_lines
  section_misses f head body =
      (head, subst (FindsNone f u) (body_taken s path at) (none_in_body f u body (sections.after s path at)))

  pub misses : (f : Search) → IsOfBodies (changed_path path) f → FindsNone f x taken_lines
  misses f of =
      section_misses f (of.only x at.head.line (no_keyval at.head.line.content (is_head s path at)))
      (λ l e. of.none_in u l own_in)

  -- ---- a change of the other lines

  pub document_without : (f : Search) → ((r : Reading) (l : Line) → EachIs line_text l (f r l))
      → FindsNone f x taken_lines
      → in_lines f (reading_after_lines x taken_lines) at.more s.last ≡ in_lines f x at.more s.last
      → Stays removed (in_document s (in_lines f start s.ended s.last))
      (in_document now (in_lines f start now.ended now.last))
  document_without f cuts none same =
      let are : Option (Changed Page) = in_lines f start (at.first ++ at.more) s.last in
      framed_stays (with_page s) (text_of (bom_leaves s.bom)) [] dropped (in_lines f start s.ended s.last) are
      (subst (λ (es : List Ended). Stays (drop_lines (length at.first) (suc (length at.body)) es s.last)
      (in_lines f start es s.last) are) (sym at.was)
      (lines_without f cuts s.last start at.first (at.head ∷ at.body) at.more none same))

  pub bodies_without : (f : Search) → ((r : Reading) (l : Line) → EachIs line_text l (f r l))
      → IsOfBodies (changed_path path) f
      → Stays removed (in_document s (in_lines f start s.ended s.last))
      (in_document now (in_lines f start now.ended now.last))
  bodies_without f cuts of =
      document_without f cuts (misses f of)
      (ap (λ (r : Reading). in_lines f r at.more s.last) section_read
      ∙ same_lines (changed_path path) (gone.stays profile limit s path c fine h)
      (gone.goes profile limit s path c fine h) goes_near f of u x at.more s.last
      (gone.behind profile limit s path c fine h) (inr (more_none s path at)))

  pub nested_without : (act : Act) → IsAct act → (other : List Part) → strip (changed_path path) other ≡ None
      → Stays removed (nested act other s) (nested act other now)
  nested_without act is other apart =
      bodies_without (in_line act other) (λ r l. in_line-is act is other r l)
      (act_of_bodies act (changed_path path) other apart)

  pub clear_without : (other : List Part) → strip (changed_path path) other ≡ None
      → Stays removed (in_document s (in_lines (clear_line other) start s.ended s.last))
      (in_document now (in_lines (clear_line other) start now.ended now.last))
  clear_without other apart =
      bodies_without (clear_line other) (λ r l. clear_line-is other r l)
      (clear_of_bodies (changed_path path) other apart)

  -- the place of an edit that makes the same change without it
  pub place_without : (d : TextChange) (e : Edit) (y : Changed Document) → change s e ≡ Some y
      → place s e ≡ place_of_change d → 0 < d.size → Stays removed (change s e) (change now e)
      → place now e ≡ place_of_change (moved c d)
  place_without d e y made is some stays = still_place c d s now e removed y removed_place is some made stays
