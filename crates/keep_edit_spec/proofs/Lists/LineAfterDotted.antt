-- An insert that adds a line at the end of a body adds the same one after an insert, of another first new key, added
-- its line to a table which dotted keys make.
--
-- The new line comes right after a keyval, so the body that this one is in becomes a line longer, and no other does
-- (`moves_through`): each end of a body at that place or after it is a line later (`cut_through`). The document says of
-- the second path what it said (SaidOnWay), and the same line comes (PutsKeyval).
--
-- Theorems: `line_after_dotted`; `cut_through`.
use Rattle.std.proofs.Common.{◌≡◌, ◌≢◌, ℕ, zero, suc, ◌<◌, true, false, List, [], ◌∷◌, ◌++◌, length, refl, sym}
use Rattle.std.proofs.Common.{ap, ◌∙◌, append_assoc, length-append, arith, Some, Option}
use Rattle.keep_types.specs.declared.leaf.Profile.{Profile}
use Rattle.keep_syntax.specs.Tree.{Written, Gap, Name, Value, Content, blank, keyval, header, element, Line, Document}
use Rattle.keep_path.specs.Path.{Part}
use Rattle.keep_meaning.specs.Marks.{Reading, start}
use Rattle.keep_meaning.specs.Meaning.{lines, mentions_in, reading_after_lines}
use Rattle.keep_edit_spec.specs.AddedLines.{AddsLine, AddsLineStill, first_new}
use Rattle.keep_edit_spec.specs.DottedLines.{AddsDotted}
use Rattle.keep_edit_spec.specs.Edits.{edited_document, insert, name_with}
use Rattle.keep_edit_spec.specs.Laws.{IsEditable}
use Rattle.keep_edit_spec.specs.Lines.{body_length, last_line, leads_dotted, more_lines}
use Rattle.keep_edit_spec.specs.Look.{holder}
use Rattle.keep_edit_spec.specs.TextChanges.{TextChange, moved}
use Rattle.keep_edit_spec.proofs.Common.BodyEnd.{IsLast, last_found}
use Rattle.keep_edit_spec.proofs.Lists.BodyEnds.{EachMoves, IsCut, Moves, end_moves, header_none, later_before}
use Rattle.keep_edit_spec.proofs.Lists.BodyEnds.{later_from, later_positive, later_suc, length_after}
use Rattle.keep_edit_spec.proofs.Lists.DottedLine as line
use Rattle.keep_edit_spec.proofs.Lists.DottedLine.{lines_now, puts}
use Rattle.keep_edit_spec.proofs.Lists.LineOnWay.{AddsOnWay, dotted_on_way}
use Rattle.keep_edit_spec.proofs.Lists.NewPaths.{InsertsKeys, line_keys}
use Rattle.keep_edit_spec.proofs.Lists.Places.{later_line}
use Rattle.keep_edit_spec.proofs.Lists.PutsKeyval.{PutsKeyval, line_still}
use Rattle.keep_edit_spec.proofs.Lists.SaidOnWay.{holder_stays, refusal_stays}

-- ---- lengths of bodies

some_blank : (m : ℕ) → 0 < m → more_lines false m ≡ suc m
some_blank zero h = absurd (omega (arith, h))
some_blank (suc m) h = refl

length_moves : (x : Content) (n m : ℕ) → 0 < n
    → length_after x (later_line n m) ≡ later_line (suc n) (length_after x m)
length_moves blank n zero h =
    ap (more_lines false) (later_before n 0 h) ∙ sym (later_before (suc n) 0 (omega arith))
length_moves blank n (suc m) h =
    some_blank (later_line n (suc m)) (later_positive n (suc m) (omega arith)) ∙ later_suc n (suc m)
length_moves (keyval name v) n m h = later_suc n m
length_moves (header b k a) n m h = sym (later_before (suc n) 0 (omega arith))
length_moves (element b k a) n m h = sym (later_before (suc n) 0 (omega arith))

-- a line with which a body goes on, whatever comes after it
abbrev GoesOn : Line → Type 0
GoesOn l = (m : ℕ) → length_after l.content m ≡ suc m

module _ (name : Name) (v : Value) (l : Line) (goes : GoesOn l) (more : List Line) where
  moves_through : (pre : List Line) → Moves name v (pre ++ l ∷ []) more
  moves_through [] =
      let m : ℕ = body_length more in
      goes (suc m) ∙ sym (later_from 1 (suc m) (omega arith)) ∙ ap (later_line 1) (sym (goes m))
  moves_through (y ∷ pre) =
      ap (length_after y.content) (moves_through pre)
      ∙ length_moves y.content (length (pre ++ l ∷ [])) (body_length ((pre ++ l ∷ []) ++ more))
      (omega (arith, length-append pre (l ∷ [])))

  each_through : (pre : List Line) → EachMoves name v (pre ++ l ∷ []) more
  each_through [] = (
    λ is. absurd
        (let none : length_after l.content 0 ≡ 0 = header_none l.content 0 is in omega (arith, none, goes 0)),
    tt,
  )
  each_through (y ∷ pre) = (λ _. moves_through pre, each_through pre)

-- ---- the last line whose key leads through a path

keyval_goes : (a : List Part) (r : Reading) (before after : Gap) (comment : Option Written) (c : Content)
    → leads_dotted a r (record { before = before; content = c; after = after; comment = comment }) ≡ true
    → (m : ℕ) → length_after c m ≡ suc m
keyval_goes a r before after comment blank h m = absurd cc
keyval_goes a r before after comment (header b k x) h m = absurd cc
keyval_goes a r before after comment (element b k x) h m = absurd cc
keyval_goes a r before after comment (keyval name v) h m = refl

pub cut_through : (name : Name) (v : Value) (a : List Part) (ls : List Line) (i : ℕ)
    → last_line (leads_dotted a) start ls ≡ Some i → IsCut name v ls (suc i)
cut_through name v a ls i e =
    let f : IsLast (leads_dotted a) start ls i = last_found (leads_dotted a) start ls i e in
    let l : Line = f.here in
    let goes : GoesOn l =
    keyval_goes a (reading_after_lines start f.pre) l.before l.after l.comment l.content f.passes in
    record {
      first = f.pre ++ f.here ∷ [];
      more = f.post;
      was = f.was ∙ sym (append_assoc f.pre (f.here ∷ []) f.post);
      number = omega (arith, f.number, length-append f.pre (f.here ∷ []));
      moves = moves_through name v f.here goes f.post f.pre;
      each = each_through name v f.here goes f.post f.pre;
    }

-- ---- the two inserts

pub line_after_dotted : (profile : Profile) (limit : ℕ) (s : Document) (path : List Part) (value : Value)
    (c : TextChange) (other : List Part) (more : Value) (d : TextChange) → IsEditable profile limit s
    → AddsDotted profile limit s path value c → AddsLine profile limit s other more d
    → first_new s path ≢ first_new s other
    → AddsLineStill profile limit s (edited_document s (insert path value)) other more (moved c d)
line_after_dotted profile limit s path value c other more d fine h k differs =
    let now : Document = edited_document s (insert path value) in
    let n : ℕ = line.n profile limit s path value c h in
    let name : Name = name_with (line.keys profile limit s path value c h) in
    let p : PutsKeyval s now n name value c = puts profile limit s path value c h fine in
    let way : AddsOnWay profile limit s path value = dotted_on_way profile limit s path value c h in
    let its : InsertsKeys profile limit s other more = line_keys profile limit s other more d k in
    line_still s now n name value c p profile limit other more d fine k
    (holder_stays profile limit s path value way other more its differs)
    (refusal_stays profile limit s path value way other more its differs)
    (end_moves name value s now n (holder other (mentions_in s)) k.number
    (cut_through name value (holder path (mentions_in s)) (lines s) h.number h.last)
    (lines_now profile limit s path value c h) k.ends)
