-- A table or an element with a header of its own: where the header and its body are among the lines, and what a remove
-- takes.
--
-- The header is the last that begins the body, and the text ends in a newline, so the last line is in no body
-- (`section_of`). No value is at the path, so no keyval says something there (`not_own`), and the remove takes these
-- lines (`changes`): its place is from where the header's line begins to where the body ends (`place_is`).
--
-- Theorems: `section_of`, `section_here`: the section; `bare`, `none_own`: no line of the path's own; `edited_is`,
-- `place_is`: the document and the place.
use Rattle.std.proofs.Common.{◌≡◌, ℕ, suc, ◌+◌, Bool, true, false, List, [], ◌∷◌, ◌++◌, length, map, take, drop, refl}
use Rattle.std.proofs.Common.{sym, ap, ap₂, subst, ◌∙◌, length-append, arith, Option, Some, None}
use Rattle.std.proofs.lemmas.Bool.{and_parts}
use Rattle.std.proofs.lemmas.List.{length-map, length-take-le, take-append-drop}
use Rattle.keep_syntax.specs.Tree.{Line, Ended, Document, blank, bom_leaves, ended_leaves, text_of}
use Rattle.keep_path.specs.Path.{Part, same_path}
use Rattle.keep_meaning.specs.Marks.{Mention, Reading, below, start}
use Rattle.keep_meaning.specs.Meaning.{after_line, keyval_mentions, line_of, lines, lines_mentions, mentions_in}
use Rattle.keep_meaning.specs.Meaning.{reading_after_lines, step}
use Rattle.keep_edit_spec.specs.Changed.{Changed, Place, or_else, place_of}
use Rattle.keep_edit_spec.specs.Edits.{change, changed_or_same, clear_line, edited_document, nested, place, remove}
use Rattle.keep_edit_spec.specs.Edits.{without_lines}
use Rattle.keep_edit_spec.specs.Lines.{Page, begins, body_length, drop_lines, drop_prefix, in_document, in_lines}
use Rattle.keep_edit_spec.specs.Lines.{is_header, last_line}
use Rattle.keep_edit_spec.specs.Values.{removal}
use Rattle.keep_edit_spec.proofs.Common.Runs.{SomeOf, some_left, some_right}
use Rattle.keep_edit_spec.proofs.Common.SetDocument.{keyval_alone, whole_mentions}
use Rattle.keep_edit_spec.proofs.Common.SetLaw.{IsAloneAt}
use Rattle.keep_edit_spec.proofs.Common.ValueThere.{IsSome, the_some}
use Rattle.keep_edit_spec.proofs.Lists.ForeignPath as foreign
use Rattle.keep_edit_spec.proofs.Lists.Places.{width, width_more}
use Rattle.keep_edit_spec.proofs.Lists.RemovedOwn.{last_or}
use Rattle.keep_edit_spec.proofs.Lists.RemovedPlaces.{lines_here, mine}
use Rattle.keep_edit_spec.proofs.Lists.SectionLines.{body_within}
use Rattle.keep_edit_spec.proofs.Remove.RemoveLinePlace.{IsPageLine, head_line, page_line, tail_lines}
use Rattle.keep_edit_spec.proofs.Remove.RemoveLines.{IsOwnLine}
use Rattle.keep_edit_spec.proofs.Remove.RemoveSectionPlace.{after_length}

-- ---- no keyval is at the path

module _ (s : Document) (path : List Part) (valueless : SomeOf (IsAloneAt path) (mentions_in s) → ⊥) where
  not_own : (pre : List Line) (l : Line) (post : List Line) → lines s ≡ pre ++ l ∷ post
      → IsOwnLine (reading_after_lines start pre).body path l.content → ⊥
  not_own pre l post was own =
      let r : Reading = reading_after_lines start pre in
      let p : List Part = r.body ++ step 0 (Some own.name) in
      let mid : List Mention = map (below r.body) (keyval_mentions own.name own.held) in
      let whole : mentions_in s ≡ lines_mentions start pre ++ (mid ++ lines_mentions r post) =
      ap (lines_mentions start) was ∙ whole_mentions pre post l own.name own.held own.was in
      let alone : SomeOf (IsAloneAt path) mid =
      subst (λ (q : List Part). SomeOf (IsAloneAt q) mid) own.place (keyval_alone r.body own.name own.held) in
      valueless (subst (λ (ms : List Mention). SomeOf (IsAloneAt path) ms) (sym whole)
      (some_right (IsAloneAt path) (lines_mentions start pre) (mid ++ lines_mentions r post)
      (some_left (IsAloneAt path) mid (lines_mentions r post) alone)))

  pub none_own : last_line (mine path) start (lines s) ≡ None
  none_own = foreign.none_own s path not_own

  pub bare : in_lines (clear_line path) start s.ended s.last ≡ None
  bare = foreign.bare s path not_own

-- ---- lines that are dropped in a row

pub record IsRunDropped (first gone more : List Ended) (last : Line) (c : Changed Page) : Type 0 where
  pub to : c.to ≡ record { ended = first ++ more; last = last }
  pub before : length c.before ≡ width first
  pub old : length c.old ≡ width gone
  pub new : c.new ≡ []

run_dropped : (gone more : List Ended) (last : Line)
    → IsRunDropped [] gone more last (drop_prefix (length gone) (gone ++ more) last)
run_dropped [] [] last = record { to = refl; before = refl; old = refl; new = refl }
run_dropped [] (e ∷ more) last = record { to = refl; before = refl; old = refl; new = refl }
run_dropped (e ∷ gone) more last =
    let d = run_dropped gone more last in
    let c : Changed Page = drop_prefix (length gone) (gone ++ more) last in
    record {
      to = d.to;
      before = d.before;
      old = omega (
        arith,
        length-append (text_of (ended_leaves e)) c.old,
        d.old,
        width_more e gone,
      );
      new = d.new;
    }

pub lines_dropped : (first gone more : List Ended) (last : Line)
    → IsRunDropped first gone more last (drop_lines (length first) (length gone) (first ++ (gone ++ more)) last)
lines_dropped [] [] [] last = record { to = refl; before = refl; old = refl; new = refl }
lines_dropped [] [] (e ∷ more) last = record { to = refl; before = refl; old = refl; new = refl }
lines_dropped [] (e ∷ gone) more last = run_dropped (e ∷ gone) more last
lines_dropped (x ∷ first) gone more last =
    let d = lines_dropped first gone more last in
    let c : Changed Page = drop_lines (length first) (length gone) (first ++ (gone ++ more)) last in
    record {
      to = ap (λ (b : Page). record { ended = x ∷ b.ended; last = b.last }) d.to;
      before = omega (
        arith,
        length-append (text_of (ended_leaves x)) c.before,
        d.before,
        width_more x first,
      );
      old = d.old;
      new = d.new;
    }

-- ---- a header with its body

pub record IsSectionAt (s : Document) (path : List Part) : Type 0 where
  pub first : List Ended
  pub head : Ended
  pub body : List Ended
  pub more : List Ended
  pub was : s.ended ≡ first ++ head ∷ (body ++ more)
  pub passes : begins path (reading_after_lines start (map line_of first)) head.line ≡ true
  pub none_later : last_line (begins path) (after_line (reading_after_lines start (map line_of first)) head.line)
      (map line_of (body ++ more) ++ s.last ∷ []) ≡ None
  pub size : body_length (map line_of (body ++ more) ++ s.last ∷ []) ≡ length body

last_at : (test : Reading → Line → Bool) (r : Reading) (pre : List Line) (l : Line) (post : List Line)
    → test (reading_after_lines r pre) l ≡ true
    → last_line test (after_line (reading_after_lines r pre) l) post ≡ None
    → last_line test r (pre ++ l ∷ post) ≡ Some (length pre)
last_at test r [] l post here none = ap₂ last_or here none
last_at test r (x ∷ pre) l post here none =
    ap (last_or (test r x)) (last_at test (after_line r x) pre l post here none)

module _ (s : Document) (path : List Part) (at : IsSectionAt s path) where
  abbrev pub after : List Line
  after = map line_of (at.body ++ at.more) ++ s.last ∷ []

  pub lines_were : lines s ≡ map line_of at.first ++ at.head.line ∷ after
  lines_were =
      ap (λ (es : List Ended). map line_of es ++ s.last ∷ []) at.was
      ∙ lines_here at.first at.head (at.body ++ at.more) s.last

  pub last_is : last_line (begins path) start (lines s) ≡ Some (length at.first)
  last_is =
      ap (last_line (begins path) start) lines_were
      ∙ last_at (begins path) start (map line_of at.first) at.head.line after at.passes at.none_later
      ∙ ap (λ (n : ℕ). Some n) (length-map at.first line_of)

  module _ (clear : in_lines (clear_line path) start s.ended s.last ≡ None)
      (own : last_line (mine path) start (lines s) ≡ None) where
    abbrev by : Option (Changed Page) → Option ℕ → Option ℕ → Option (Changed Document)
    by o p q =
        or_else (in_document s o)
        (or_else (elim p [ None ↦ None | Some i ↦ without_lines s i 1 ])
        (or_else (elim q [
          | None ↦ None
          | Some i ↦ without_lines s i (suc (body_length (drop (suc i) (lines s))))
        ])
        (nested removal path s)))

    pub count : body_length (drop (suc (length at.first)) (lines s)) ≡ length at.body
    count =
        ap (λ (ls : List Line). body_length (drop (suc (length at.first)) ls)) lines_were
        ∙ ap body_length (after_length at.first at.head.line after) ∙ at.size

    pub changes : change s (remove path) ≡ without_lines s (length at.first) (suc (length at.body))
    changes =
        ap (λ (o : Option (Changed Page)). by o (last_line (mine path) start (lines s))
        (last_line (begins path) start (lines s))) clear
        ∙ ap (λ (p : Option ℕ). by None p (last_line (begins path) start (lines s))) own
        ∙ ap (λ (q : Option ℕ). by None None q) last_is
        ∙ ap (λ (n : ℕ). without_lines s (length at.first) (suc n)) count

    abbrev dropped : Changed Page
    dropped = drop_lines (length at.first) (suc (length at.body)) s.ended s.last

    drops : IsRunDropped at.first (at.head ∷ at.body) at.more s.last dropped
    drops =
        subst (λ (es : List Ended). IsRunDropped at.first (at.head ∷ at.body) at.more s.last
        (drop_lines (length at.first) (suc (length at.body)) es s.last)) (sym at.was)
        (lines_dropped at.first (at.head ∷ at.body) at.more s.last)

    pub edited_is : edited_document s (remove path)
        ≡ record { bom = s.bom; ended = at.first ++ at.more; last = s.last }
    edited_is =
        ap (λ (c : Option (Changed Document)). (changed_or_same s c).to) changes
        ∙ ap (λ (b : Page). record { bom = s.bom; ended = b.ended; last = b.last }) drops.to

    abbrev placed : ℕ → ℕ → List ℕ → Place
    placed b e w = record { start = b; end = e; new = w }

    pub place_is : place s (remove path) ≡ record {
      start = length (text_of (bom_leaves s.bom)) + width at.first;
      end = (length (text_of (bom_leaves s.bom)) + width at.first) + width (at.head ∷ at.body);
      new = [];
    }
    place_is =
        let bom : List ℕ = text_of (bom_leaves s.bom) in
        let from : length (bom ++ dropped.before) ≡ length bom + width at.first =
        length-append bom dropped.before ∙ ap (λ (k : ℕ). length bom + k) drops.before in
        ap (λ (c : Option (Changed Document)). place_of (changed_or_same s c)) changes
        ∙ ap₂ (λ (b o : ℕ). placed b (b + o) dropped.new) from drops.old
        ∙ ap (placed (length bom + width at.first) ((length bom + width at.first) + width (at.head ∷ at.body)))
        drops.new

-- ---- the section of a table

no_blank : (path : List Part) (r : Reading) (l : Line) → begins path r l ≡ true → l.content ≡ blank → ⊥
no_blank path r l e h =
    let yes : is_header l.content ≡ true =
    (and_parts (is_header l.content) (same_path (after_line r l).body path) e).0 in
    let no : is_header l.content ≡ false = ap is_header h in
    absurd cc

abbrev pub section_here : (s : Document) (path : List Part) (first : List Ended) (e : Ended) (rest : List Ended)
    → s.last.content ≡ blank → s.ended ≡ first ++ e ∷ rest
    → begins path (reading_after_lines start (map line_of first)) e.line ≡ true
    → last_line (begins path) (after_line (reading_after_lines start (map line_of first)) e.line)
    (map line_of rest ++ s.last ∷ []) ≡ None
    → IsSectionAt s path
section_here s path first e rest empty was passes none =
    let n : ℕ = body_length (map line_of rest ++ s.last ∷ []) in
    let whole : take n rest ++ drop n rest ≡ rest = take-append-drop n rest in
    record {
      first = first;
      head = e;
      body = take n rest;
      more = drop n rest;
      was = was ∙ ap (λ (es : List Ended). first ++ e ∷ es) (sym whole);
      passes = passes;
      none_later = subst (λ (es : List Ended). last_line (begins path)
          (after_line (reading_after_lines start (map line_of first)) e.line) (map line_of es ++ s.last ∷ []) ≡ None)
          (sym whole) none;
      size = ap (λ (es : List Ended). body_length (map line_of es ++ s.last ∷ [])) whole
          ∙ sym (length-take-le n rest
          (omega (arith, (body_within (map line_of rest) s.last empty).1, length-map rest line_of)));
    }

-- the last line says nothing, and some line begins the path's body
pub section_of : (s : Document) (path : List Part) → s.last.content ≡ blank
    → IsSome (last_line (begins path) start (lines s)) → IsSectionAt s path
section_of s path empty some =
    let (i, is) = the_some (last_line (begins path) start (lines s)) some in
    let l : IsPageLine (begins path) start s.ended s.last i = page_line (begins path) start s.ended s.last i is in
    by l.pre l.rest l.was l.passes l.none_later
  where
    by : (pre rest : List Ended) → s.ended ≡ pre ++ rest
        → begins path (reading_after_lines start (map line_of pre)) (head_line rest s.last) ≡ true
        → last_line (begins path) (after_line (reading_after_lines start (map line_of pre)) (head_line rest s.last))
        (tail_lines rest s.last) ≡ None
        → IsSectionAt s path
    by pre [] was passes none = absurd (no_blank path (reading_after_lines start (map line_of pre)) s.last passes empty)
    by pre (e ∷ rest) was passes none = section_here s path pre e rest empty was passes none
