-- The document after a header came at the end of a text that ends in a newline: two lines more, before a last line
-- that says nothing; and what is found in its lines.
--
-- As the text ends in a newline, there are lines with newlines, and the last line has no bytes. So a blank line and the
-- header come behind all of the former (`append_is`, `after_is`). The first line's newline is still the document's
-- (`newline_again`), and the text ends in one again (`ends_again`).
--
-- The last line that passes a test is as before, if none of the new ones passes it (`last_before`). A search that finds
-- nothing in them finds in the lines before them what it found: the change that is found, and where it is, stay
-- (`before_stay`, by induction over the lines; `lines_stay`, `none_stays`). So the place of an edit that searches so
-- stays, too.
--
-- Theorems: `put_is`, `lines_are`, `lines_end`, `last_empty`, `last_blank`, `append_is`, `after_is`, `newline_again`,
-- `ends_again`; `starts_stay`: the lines before them begin where they did; `last_before`, `not_last`; `lines_stay`,
-- `none_stays`.
use Rattle.std.proofs.Common.{◌≡◌, ℕ, suc, ◌+◌, ◌<◌, ◌≤◌, Bool, true, false, cond, List, [], ◌∷◌, ◌++◌, length, map}
use Rattle.std.proofs.Common.{refl, sym, ap, ap₂, subst, ◌∙◌, append_assoc, length-append, arith, Option, Some, None}
use Rattle.std.specs.List.{AllByRecursion}
use Rattle.std.proofs.lemmas.List.{map-append, take-append-le}
use Rattle.keep_types.specs.declared.leaf.Profile.{Profile}
use Rattle.keep_syntax.specs.Tree.{Written, Content, blank, Line, Ended, Document, bom_leaves, ended_leaves, text}
use Rattle.keep_syntax.specs.Tree.{text_of}
use Rattle.keep_syntax.specs.Grammar.{IsDocument, IsEnded}
use Rattle.keep_meaning.specs.Marks.{Reading, start}
use Rattle.keep_meaning.specs.Meaning.{after_line, line_of, lines, reading_after_lines}
use Rattle.keep_edit_spec.specs.Changed.{Changed, framed_change, or_else, within}
use Rattle.keep_edit_spec.specs.ClearedLines.{line_start}
use Rattle.keep_edit_spec.specs.Edits.{append, at_line, changed_or_same}
use Rattle.keep_edit_spec.specs.Lines.{Page, ended_text, in_document, in_lines, is_empty, last_line, line_text}
use Rattle.keep_edit_spec.specs.Lines.{new_line, newline_of, page_text, plain_line, put_lines, with_page}
use Rattle.keep_edit_spec.specs.TextEnds.{ends_in_newline}
use Rattle.keep_edit_spec.proofs.Append.AppendLaw.{blank_by}
use Rattle.keep_edit_spec.proofs.Append.AppendPlace.{last_written, lines_written, none_written}
use Rattle.keep_edit_spec.proofs.Common.Texts.{EachIs}
use Rattle.keep_edit_spec.proofs.Lists.HeaderPlaces.{newline_kept, not_bare}
use Rattle.keep_edit_spec.proofs.Lists.RemovedOwn.{last_or}
use Rattle.keep_edit_spec.proofs.Lists.SetPlaces.{Stays, framed_stays, later_stays, past_line}
use Rattle.keep_edit_spec.proofs.Lists.SetPlaces.{stays_as}

-- ---- a header at the end

abbrev pub header_lines : Document → Content → List Ended
header_lines s c = map (new_line (newline_of s)) (blank ∷ c ∷ [])

-- the change that brings it: with a blank line before it, before the last line
abbrev pub headed : Document → Content → Changed Document
headed s content =
    framed_change (with_page s) (text_of (bom_leaves s.bom)) []
    (put_lines (length s.ended) (header_lines s content) (newline_of s) s.ended s.last)

put_at_end : (new : List Ended) (newline : Written) (es : List Ended) (last : Line)
    → (put_lines (length es) new newline es last).to ≡ record { ended = es ++ new; last = last }
put_at_end new newline [] last = refl
put_at_end new newline (e ∷ es) last =
    ap (λ (b : Page). record { ended = e ∷ b.ended; last = b.last }) (put_at_end new newline es last)

abbrev pub with_header : Document → Content → Document
with_header s c = record { bom = s.bom; ended = s.ended ++ header_lines s c; last = s.last }

pub put_is : (s : Document) (c : Content) → (headed s c).to ≡ with_header s c
put_is s c = ap (with_page s) (put_at_end (header_lines s c) (newline_of s) s.ended s.last)

pub lines_are : (s : Document) (c : Content)
    → lines (with_header s c) ≡ map line_of s.ended ++ plain_line blank ∷ plain_line c ∷ s.last ∷ []
lines_are s c =
    ap (λ (ls : List Line). ls ++ s.last ∷ []) (map-append line_of s.ended (header_lines s c))
    ∙ append_assoc (map line_of s.ended) (map line_of (header_lines s c)) (s.last ∷ [])

pub starts_stay : (s : Document) (c : Content) (i : ℕ) → i ≤ length s.ended
    → line_start (headed s c).to i ≡ line_start s i
starts_stay s c i few =
    ap (λ (t : Document). line_start t i) (put_is s c)
    ∙ ap (λ (es : List Ended). length (text_of (bom_leaves s.bom)) + length (ended_text es))
    (take-append-le i s.ended (header_lines s c) few)

-- the text of lines with newlines, before a last line with no bytes
pub lines_end : (profile : Profile) (s : Document) → IsDocument profile s → is_empty s.last ≡ true → 0 < length s.ended
    → ends_in_newline (text s) ≡ true
lines_end profile s valid empty = by s.ended refl
  where
    by : (es : List Ended) → s.ended ≡ es → 0 < length es → ends_in_newline (text s) ≡ true
    by [] are some = absurd (omega (arith, some))
    by (e ∷ es) are some = (lines_written profile s valid e es are empty).1

module _ (profile : Profile) (s : Document) (valid : IsDocument profile s)
    (closed : ends_in_newline (text s) ≡ true) where
  pub last_empty : is_empty s.last ≡ true
  last_empty = by (is_empty s.last) refl
    where
      by : (b : Bool) → is_empty s.last ≡ b → is_empty s.last ≡ true
      by true h = h
      by false h =
          let no : true ≡ false = sym closed ∙ (last_written profile s valid h).1 in
          absurd cc

  pub last_blank : s.last.content ≡ blank
  last_blank = blank_by s.last.before s.last.after s.last.comment s.last.content last_empty

  has_lines : s.ended ≡ [] → ⊥
  has_lines none =
      let no : true ≡ false = sym (none_written profile s valid none last_empty) ∙ not_bare (text s) closed in
      absurd cc

  pub append_is : (c : Content) → append s c ≡ Some (headed s c)
  append_is c = by s.ended refl
    where
      by : (es : List Ended) → s.ended ≡ es → elim es [
        | [] ↦ cond (is_empty s.last) (at_line s 0 (c ∷ [])) (at_line s 1 (blank ∷ c ∷ []))
        | e ∷ es ↦
            cond (is_empty s.last) (at_line s (length s.ended) (blank ∷ c ∷ []))
            (at_line s (suc (length s.ended)) (blank ∷ c ∷ []))
      ] ≡ Some (headed s c)
      by [] are = absurd (has_lines are)
      by (e ∷ es) are =
          ap (λ (b : Bool). cond b (at_line s (length s.ended) (blank ∷ c ∷ []))
          (at_line s (suc (length s.ended)) (blank ∷ c ∷ []))) last_empty

  pub after_is : (c : Content) → (changed_or_same s (append s c)).to ≡ with_header s c
  after_is c = ap (λ (o : Option (Changed Document)). (changed_or_same s o).to) (append_is c) ∙ put_is s c

  pub newline_again : (c : Content) → newline_of (changed_or_same s (append s c)).to ≡ newline_of s
  newline_again c = ap newline_of (after_is c) ∙ by s.ended refl valid.ended
    where
      with_lines : List Ended → Document
      with_lines es = record { bom = s.bom; ended = es; last = s.last }

      by : (es : List Ended) → s.ended ≡ es → AllByRecursion (IsEnded profile) es
          → newline_of (with_lines (es ++ header_lines s c)) ≡ newline_of (with_lines es)
      by [] are h = absurd (has_lines are)
      by (e ∷ es) are h = newline_kept s.bom e (es ++ header_lines s c) es s.last s.last h.0.kind

  pub ends_again : (c : Content) → IsDocument profile (changed_or_same s (append s c)).to
      → ends_in_newline (text (changed_or_same s (append s c)).to) ≡ true
  ends_again c valid_now =
      lines_end profile (changed_or_same s (append s c)).to valid_now
      (ap (λ (d : Document). is_empty d.last) (after_is c) ∙ last_empty)
      (omega (
        arith,
        ap (λ (d : Document). length d.ended) (after_is c),
        length-append s.ended (header_lines s c),
      ))

-- ---- the last line that passes

pub last_before : (test : Reading → Line → Bool) (r : Reading) (first more : List Line)
    → last_line test (reading_after_lines r first) more ≡ None
    → last_line test r (first ++ more) ≡ last_line test r first
last_before test r [] more h = h
last_before test r (l ∷ first) more h = ap (last_or (test r l)) (last_before test (after_line r l) first more h)

pub not_last : (test : Reading → Line → Bool) (r : Reading) (l : Line) (more : List Line) → test r l ≡ false
    → last_line test (after_line r l) more ≡ None → last_line test r (l ∷ more) ≡ None
not_last test r l more fails h = ap₂ last_or fails h

-- ---- lines that come before the last, where nothing is found

module _ (f : Reading → Line → Option (Changed Line)) (cuts : (r : Reading) (l : Line) → EachIs line_text l (f r l))
    (new : List Ended) (newline : Written) (last : Line) (none : (r : Reading) → f r last ≡ None)
    (quiet : (r : Reading) → in_lines f r new last ≡ None) where
  abbrev added : List Ended → Changed Page
  added es = put_lines (length es) new newline es last

  abbrev found : Reading → Page → Option (Changed Page)
  found r b = in_lines f r b.ended b.last

  before_stay : (r : Reading) (es : List Ended) → Stays (added es) (in_lines f r es last) (found r (added es).to)
  before_stay r [] =
      stays_as (added []) None None (in_lines f r [] last) (in_lines f r new last)
      (ap (λ (o : Option (Changed Line)). within (λ (l : Line). record { ended = []; last = l }) [] [] o) (none r))
      (quiet r) refl
  before_stay r (e ∷ es) =
      by (f r e.line) (cuts r e.line) (in_lines f (after_line r e.line) es last)
      (found (after_line r e.line) (added es).to) (before_stay (after_line r e.line) es)
    where
      page : Page
      page = record { ended = es; last = last }

      with_line : Page → Line → Page
      with_line b l = record { ended = record { line = l; newline = e.newline } ∷ b.ended; last = b.last }

      before_lines : Page → Page
      before_lines b = record { ended = e ∷ b.ended; last = b.last }

      right : Page → List ℕ
      right b = e.newline.text ++ page_text b

      by : (o : Option (Changed Line)) → EachIs line_text e.line o → (p q : Option (Changed Page))
          → Stays (added es) p q
          → Stays (framed_change before_lines (text_of (ended_leaves e)) [] (added es))
          (or_else (within (with_line page) [] (right page) o) (within before_lines (text_of (ended_leaves e)) [] p))
          (or_else (within (with_line (added es).to) [] (right (added es).to) o)
          (within before_lines (text_of (ended_leaves e)) [] q))
      by None cut p q k = framed_stays before_lines (text_of (ended_leaves e)) [] (added es) p q k
      by (Some d) cut p q k =
          subst (λ (t : List ℕ). Stays (framed_change before_lines t [] (added es))
          (within (with_line page) [] (right page) (Some d))
          (within (with_line (added es).to) [] (right (added es).to) (Some d)))
          (sym (past_line e.line e.newline))
          (later_stays line_text e.line (with_line page) (with_line (added es).to) [] (right page)
          (right (added es).to) e.newline.text (Some d) before_lines (added es) cut)

-- ---- what is found before a header at the end

-- nothing is found in a blank line, nor in the header's
pub record FindsNothing (f : Reading → Line → Option (Changed Line)) (content : Content) : Type 0 where
  pub blanks : (r : Reading) (l : Line) → l.content ≡ blank → f r l ≡ None
  pub there : (r : Reading) → f r (plain_line content) ≡ None

module _ (s : Document) (content : Content) (empty : s.last.content ≡ blank)
    (f : Reading → Line → Option (Changed Line)) (cuts : (r : Reading) (l : Line) → EachIs line_text l (f r l))
    (nothing : FindsNothing f content) where
  none_new : (r : Reading) → in_lines f r (header_lines s content) s.last ≡ None
  none_new r =
      rw (
        nothing.blanks r (plain_line blank) refl,
        nothing.there r,
        nothing.blanks (after_line r (plain_line content)) s.last empty,
      ) refl

  abbrev to : Document
  to = (headed s content).to

  page_stays : Stays (put_lines (length s.ended) (header_lines s content) (newline_of s) s.ended s.last)
      (in_lines f start s.ended s.last) (in_lines f start to.ended to.last)
  page_stays =
      before_stay f cuts (header_lines s content) (newline_of s) s.last (λ r. nothing.blanks r s.last empty) none_new
      start s.ended

  pub lines_stay : Stays (headed s content) (in_document s (in_lines f start s.ended s.last))
      (in_document to (in_lines f start to.ended to.last))
  lines_stay =
      framed_stays (with_page s) (text_of (bom_leaves s.bom)) []
      (put_lines (length s.ended) (header_lines s content) (newline_of s) s.ended s.last)
      (in_lines f start s.ended s.last) (in_lines f start to.ended to.last) page_stays

  pub none_stays : in_lines f start s.ended s.last ≡ None → in_lines f start to.ended to.last ≡ None
  none_stays none =
      subst (λ (o : Option (Changed Page)). Stays
      (put_lines (length s.ended) (header_lines s content) (newline_of s) s.ended s.last) o
      (in_lines f start to.ended to.last)) none page_stays
