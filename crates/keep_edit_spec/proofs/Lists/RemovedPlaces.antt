-- Where a remove takes a line, and whose line it is.
--
-- Such a remove drops line n (`drop_here`), so its place is from the length of the lines before line n to that of the
-- lines before the next (`place_is`). A line has at least one byte, and is the own line of one path only (`one_path`).
--
-- Theorems: `line_has_bytes`; `edited_is`, `place_is`, `at_is`, `end_is`: the document and the place; `own_of`,
-- `is_other`: whose line it is.
use Rattle.std.proofs.Common.{◌≡◌, ◌≢◌, ℕ, zero, suc, ◌+◌, ◌<◌, ◌≤◌, Bool, true, false, cond, List, [], ◌∷◌, ◌++◌}
use Rattle.std.proofs.Common.{length, map, take, drop, refl, sym, ap, ap₂, subst, ◌∙◌, length-append, arith, Option}
use Rattle.std.proofs.Common.{Some, None}
use Rattle.std.specs.List.{flat_map}
use Rattle.std.proofs.lemmas.List.{append-nil, length-map}
use Rattle.keep_types.specs.declared.leaf.Profile.{Profile}
use Rattle.keep_types.specs.declared.leaf.Leaf.TheVariants as leaf
use Rattle.keep_syntax.specs.Tree.{Written, Name, Content, Line, Ended, Document, bom_leaves, ended_leaves, keyval}
use Rattle.keep_syntax.specs.Tree.{line_leaves, text, text_of, token}
use Rattle.keep_path.specs.Path.{Part}
use Rattle.keep_meaning.specs.Marks.{Reading, start}
use Rattle.keep_meaning.specs.Meaning.{after_line, line_of, lines, reading_after_lines, step}
use Rattle.keep_edit_spec.specs.Changed.{Changed, Place, or_else, place_of}
use Rattle.keep_edit_spec.specs.Edits.{change, changed_or_same, clear_line, edited_document, is_own, nested, place}
use Rattle.keep_edit_spec.specs.Edits.{remove, without_lines}
use Rattle.keep_edit_spec.specs.Laws.{IsEditable}
use Rattle.keep_edit_spec.specs.Lines.{Page, begins, body_length, drop_lines, drop_prefix, ended_text, in_document}
use Rattle.keep_edit_spec.specs.Lines.{in_lines, last_line}
use Rattle.keep_edit_spec.specs.Values.{removal}
use Rattle.keep_edit_spec.proofs.Common.Texts.{text_of-append}
use Rattle.keep_edit_spec.proofs.Remove.RemoveLines.{IsOwnLine, own_line}
use Rattle.keep_edit_spec.specs.RemovedLines.{RemovesLine}
use Rattle.keep_edit_spec.specs.TextChanges.{TextChange}
use Rattle.keep_edit_spec.proofs.Lists.Places.{size, width, width_grows, width_more}

-- ---- lines cut at one line

pub record IsCutAt (n : ℕ) (es : List Ended) : Type 0 where
  pub first : List Ended
  pub here : Ended
  pub more : List Ended
  pub was : es ≡ first ++ here ∷ more
  pub number : n ≡ length first

pub cut_at : (n : ℕ) (es : List Ended) → n < length es → IsCutAt n es
cut_at n [] h = absurd (let k : n < 0 = h in omega (arith, k))
cut_at zero (e ∷ es) h = record { first = []; here = e; more = es; was = refl; number = refl }
cut_at (suc n) (e ∷ es) h =
    let few : suc n < suc (length es) = h in
    let c : IsCutAt n es = cut_at n es (omega (arith, few)) in
    record {
      first = e ∷ c.first;
      here = c.here;
      more = c.more;
      was = ap (λ (l : List Ended). e ∷ l) c.was;
      number = ap suc c.number;
    }

pub lines_here : (first : List Ended) (e : Ended) (more : List Ended) (last : Line)
    → map line_of (first ++ e ∷ more) ++ last ∷ [] ≡ map line_of first ++ e.line ∷ (map line_of more ++ last ∷ [])
lines_here [] e more last = refl
lines_here (x ∷ first) e more last = ap (λ (ls : List Line). x.line ∷ ls) (lines_here first e more last)

width_before : (first : List Ended) (e : Ended) (more : List Ended)
    → width (take (length first) (first ++ e ∷ more)) ≡ width first
width_before [] e more = refl
width_before (x ∷ first) e more =
    omega (
      arith,
      width_more x (take (length first) (first ++ e ∷ more)),
      width_more x first,
      width_before first e more,
    )

pub width_after : (first : List Ended) (e : Ended) (more : List Ended)
    → width (take (suc (length first)) (first ++ e ∷ more)) ≡ width first + size e
width_after [] e [] = omega (arith, width_more e [])
width_after [] e (x ∷ more) = omega (arith, width_more e [])
width_after (x ∷ first) e more =
    omega (
      arith,
      width_more x (take (suc (length first)) (first ++ e ∷ more)),
      width_more x first,
      width_after first e more,
    )

pub width_few : (n : ℕ) (es : List Ended) → width (take n es) ≤ width es
width_few zero [] = omega arith
width_few (suc n) [] = omega arith
width_few zero (e ∷ es) = omega arith
width_few (suc n) (e ∷ es) = omega (arith, width_more e (take n es), width_more e es, width_few n es)

-- ---- a line dropped

record IsDropHere (first : List Ended) (e : Ended) (more : List Ended) (last : Line) (c : Changed Page) : Type 0 where
  to : c.to ≡ record { ended = first ++ more; last = last }
  before : c.before ≡ ended_text first
  old : c.old ≡ text_of (ended_leaves e)
  new : c.new ≡ []

drop_first : (e : Ended) (more : List Ended) (last : Line)
    → IsDropHere [] e more last (drop_prefix 1 (e ∷ more) last)
drop_first e [] last =
    record { to = refl; before = refl; old = append-nil (text_of (ended_leaves e)); new = refl }
drop_first e (x ∷ more) last =
    record { to = refl; before = refl; old = append-nil (text_of (ended_leaves e)); new = refl }

drop_here : (first : List Ended) (e : Ended) (more : List Ended) (last : Line)
    → IsDropHere first e more last (drop_lines (length first) 1 (first ++ e ∷ more) last)
drop_here [] e more last = drop_first e more last
drop_here (x ∷ first) e more last =
    let d = drop_here first e more last in
    record {
      to = ap (λ (b : Page). record { ended = x ∷ b.ended; last = b.last }) d.to;
      before = ap (λ (t : List ℕ). text_of (ended_leaves x) ++ t) d.before
          ∙ sym (text_of-append (ended_leaves x) (flat_map ended_leaves first));
      old = d.old;
      new = d.new;
    }

-- ---- the document after the remove, and the place

abbrev pub mine : List Part → Reading → Line → Bool
mine path r l = is_own path r l.content

module _ (s : Document) (path : List Part) (n : ℕ)
    (bare : in_lines (clear_line path) start s.ended s.last ≡ None)
    (own : last_line (mine path) start (lines s) ≡ Some n) (closed : n < length s.ended) where
  abbrev otherwise : Option (Changed Document)
  otherwise =
      or_else (elim (last_line (begins path) start (lines s)) [
        | None ↦ None
        | Some i ↦ without_lines s i (suc (body_length (drop (suc i) (lines s))))
      ])
      (nested removal path s)

  pub changes : change s (remove path) ≡ without_lines s n 1
  changes =
      ap₂ (λ (o : Option (Changed Page)) (p : Option ℕ).
      or_else (in_document s o) (or_else (elim p [ None ↦ None | Some i ↦ without_lines s i 1 ]) otherwise))
      bare own

  abbrev dropped : Changed Page
  dropped = drop_lines n 1 s.ended s.last

  abbrev pub cut : IsCutAt n s.ended
  cut = cut_at n s.ended closed

  drops : IsDropHere cut.first cut.here cut.more s.last dropped
  drops =
      subst (λ (k : ℕ). IsDropHere cut.first cut.here cut.more s.last (drop_lines k 1 s.ended s.last)) (sym cut.number)
      (subst (λ (es : List Ended).
      IsDropHere cut.first cut.here cut.more s.last (drop_lines (length cut.first) 1 es s.last)) (sym cut.was)
      (drop_here cut.first cut.here cut.more s.last))

  pub edited_is : edited_document s (remove path)
      ≡ record { bom = s.bom; ended = cut.first ++ cut.more; last = s.last }
  edited_is =
      ap (λ (c : Option (Changed Document)). (changed_or_same s c).to) changes
      ∙ ap (λ (b : Page). record { bom = s.bom; ended = b.ended; last = b.last }) drops.to

  pub before_is : width (take n s.ended) ≡ width cut.first
  before_is =
      ap₂ (λ (k : ℕ) (es : List Ended). width (take k es)) cut.number cut.was
      ∙ width_before cut.first cut.here cut.more

  pub after_is : width (take (suc n) s.ended) ≡ width cut.first + size cut.here
  after_is =
      ap₂ (λ (k : ℕ) (es : List Ended). width (take (suc k) es)) cut.number cut.was
      ∙ width_after cut.first cut.here cut.more

  abbrev placed : ℕ → ℕ → List ℕ → Place
  placed b e w = record { start = b; end = e; new = w }

  pub place_is : place s (remove path) ≡ record {
    start = length (text_of (bom_leaves s.bom)) + width (take n s.ended);
    end = length (text_of (bom_leaves s.bom)) + width (take (suc n) s.ended);
    new = [];
  }
  place_is =
      let bom : List ℕ = text_of (bom_leaves s.bom) in
      let at : length (bom ++ dropped.before) ≡ length bom + width (take n s.ended) =
      length-append bom dropped.before
      ∙ ap (λ (t : List ℕ). length bom + length t) drops.before
      ∙ ap (λ (k : ℕ). length bom + k) (sym before_is) in
      let old : length dropped.old ≡ size cut.here = ap (λ (t : List ℕ). length t) drops.old in
      let end : length (bom ++ dropped.before) + length dropped.old ≡ length bom + width (take (suc n) s.ended) =
      omega (arith, at, old, before_is, after_is) in
      ap (λ (c : Option (Changed Document)). place_of (changed_or_same s c)) changes
      ∙ ap₂ (λ (b e : ℕ). placed b e dropped.new) at end
      ∙ ap (placed (length bom + width (take n s.ended)) (length bom + width (take (suc n) s.ended))) drops.new

module _ (profile : Profile) (limit : ℕ) (s : Document) (path : List Part) (l : TextChange)
    (h : RemovesLine profile limit s path l) where
  abbrev bom : List ℕ
  bom = text_of (bom_leaves s.bom)

  pub at_is : l.at ≡ length bom + width (take h.number s.ended)
  at_is = ap (λ (p : Place). p.start) (sym h.is ∙ place_is s path h.number h.bare h.own h.closed)

  pub end_is : l.at + l.size ≡ length bom + width (take (suc h.number) s.ended)
  end_is = ap (λ (p : Place). p.end) (sym h.is ∙ place_is s path h.number h.bare h.own h.closed)

  has_bytes : IsEditable profile limit s → (0 < l.size) × (l.at + l.size ≤ length (text s))
  has_bytes fine =
      let n : ℕ = h.number in
      let rest : List Written = line_leaves s.last ++ token leaf.End [] in (
        omega (
          arith,
          at_is,
          end_is,
          width_grows profile (suc n) n s.ended fine.valid.ended (omega arith) (omega (arith, h.closed)),
        ),
        omega (
          arith,
          end_is,
          width_few (suc n) s.ended,
          ap (λ (t : List ℕ). length t) (text_of-append (bom_leaves s.bom) (flat_map ended_leaves s.ended ++ rest)),
          length-append bom (text_of (flat_map ended_leaves s.ended ++ rest)),
          ap (λ (t : List ℕ). length t) (text_of-append (flat_map ended_leaves s.ended) rest),
          length-append (ended_text s.ended) (text_of rest),
        ),
      )

pub line_has_bytes : (profile : Profile) (limit : ℕ) (s : Document) (path : List Part) (l : TextChange)
    → IsEditable profile limit s → RemovesLine profile limit s path l
    → (0 < l.size) × (l.at + l.size ≤ length (text s))
line_has_bytes profile limit s path l fine h = has_bytes profile limit s path l h fine

-- ---- whose line it is

-- the last line that passes does
passes : (test : Reading → Line → Bool) (r : Reading) (first : List Line) (l : Line) (more : List Line)
    → last_line test r (first ++ l ∷ more) ≡ Some (length first) → test (reading_after_lines r first) l ≡ true
passes test r [] l more e = by (last_line test (after_line r l) more) (test r l) e
  where
    by : (o : Option ℕ) (b : Bool)
        → ◌≡◌ {A = Option ℕ} (elim o [ Some n ↦ Some (suc n) | None ↦ cond b (Some zero) None ]) (Some zero)
        → b ≡ true
    by None true e = refl
    by None false e = absurd cc
    by (Some n) b e = absurd cc
passes test r (x ∷ first) l more e =
    passes test (after_line r x) first l more
    (by (last_line test (after_line r x) (first ++ l ∷ more)) (test r x) e)
  where
    by : (o : Option ℕ) (b : Bool)
        → ◌≡◌ {A = Option ℕ} (elim o [ Some n ↦ Some (suc n) | None ↦ cond b (Some zero) None ])
        (Some (suc (length first)))
        → o ≡ Some (length first)
    by None true e = absurd cc
    by None false e = absurd cc
    by (Some n) b e = cc

pub own_of : (s : Document) (path : List Part) (n : ℕ) → last_line (mine path) start (lines s) ≡ Some n
    → (c : IsCutAt n s.ended)
    → IsOwnLine (reading_after_lines start (map line_of c.first)).body path c.here.line.content
own_of s path n own c =
    let ls : List Line = map line_of c.first in
    let more : List Line = map line_of c.more ++ s.last ∷ [] in
    own_line path (reading_after_lines start ls) c.here.line.content
    (passes (mine path) start ls c.here.line more
    (ap (last_line (mine path) start) (sym (lines_here c.first c.here c.more s.last)
    ∙ ap (λ (es : List Ended). map line_of es ++ s.last ∷ []) (sym c.was))
    ∙ own ∙ ap (λ (k : ℕ). Some k) (c.number ∙ sym (length-map c.first line_of))))

-- a line is the own line of one path only
one_path : (path other : List Part) (body : List Part) (c : Content) → IsOwnLine body path c → IsOwnLine body other c
    → path ≡ other
one_path path other body c mine its =
    let same : keyval mine.name mine.held ≡ keyval its.name its.held = sym mine.was ∙ its.was in
    let names : mine.name ≡ its.name = cc in
    sym mine.place ∙ ap (λ (m : Name). body ++ step 0 (Some m)) names ∙ its.place

pub is_other : (path other : List Part) (r : Reading) (c : Content) → IsOwnLine r.body path c → path ≢ other
    → is_own other r c ≡ false
is_other path other r c mine differs = by (is_own other r c) refl
  where
    by : (b : Bool) → is_own other r c ≡ b → b ≡ false
    by false e = refl
    by true e = absurd (differs (one_path path other r.body c mine (own_line other r c e)))
