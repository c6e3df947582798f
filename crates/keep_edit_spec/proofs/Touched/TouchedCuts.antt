-- The lines that an edit touches begin and end where characters do, in the old text and in the new one.
--
-- A line starts after a newline, after the byte order mark or where the text does. So what follows is UTF-8 if the text
-- is (`after_lines`, `after_bom`), and a character begins there. The new text has the same bytes before its touched
-- lines, and after them.
--
-- Theorems: `touched_cut`: in the old text; `touched_in_new_cut`: in the new one.
use Rattle.std.proofs.Common.{◌≡◌, ℕ, ◌+◌, ◌-◌, ◌≤◌, Bool, true, false, List, [], ◌∷◌, ◌++◌, length, take, drop, refl}
use Rattle.std.proofs.Common.{sym, ap, subst, ◌∙◌, arith, append_assoc, Some, inl, inr, ◌⊎◌, IsUtf8, IsCharBoundary}
use Rattle.std.proofs.Common.{leb-true}
use lib.Utf8.{encode}
use Rattle.std.specs.Prelude.{leb, if◌then◌else◌}
use Rattle.std.specs.List.{flat_map, AllByRecursion}
use Rattle.std.proofs.lemmas.List.{append-nil, length-append, take-append-le}
use Rattle.std.proofs.Math.Seq.{drop-append-add}
use Rattle.std.proofs.lemmas.Str.{IsUtf8-take, IsUtf8-drop, IsUtf8-past_char, IsCharBoundary-at_seam}
use Rattle.std.proofs.lemmas.Str.{IsCharBoundary-end, IsCharBoundary-from_take, IsCharBoundary-from_drop}
use Rattle.keep_types.specs.declared.leaf.Profile.{Profile}
use Rattle.keep_types.specs.declared.leaf.Profile.TheVariants.{Strict}
use Rattle.keep_types.specs.declared.leaf.Leaf.TheVariants as leaf
use Rattle.keep_token.specs.Leaves.{IsLeaf}
use Rattle.keep_token.proofs.Shared.{cut_one}
use Rattle.keep_types.specs.declared.syntax.Span.{Span}
use Rattle.keep_syntax.specs.Tree.{Ended, Document, line_leaves, ended_leaves, bom_leaves, text_of, text}
use Rattle.keep_syntax.specs.Grammar.{IsEnded, IsDocument}
use Rattle.keep_syntax.specs.Numbered.{width, span}
use Rattle.keep_syntax.specs.WholeLines.{line_starts, last_to, begin, touched}
use Rattle.keep_syntax.proofs.Shared.{text_of-append, line_of, next_of, next_high}
use Rattle.keep_syntax_store.proofs.Shared.{if_true, if_false}
use Rattle.keep_edit_spec.specs.Changed.{Changed, IsChangeOf, place_of}
use Rattle.keep_edit_spec.specs.Edits.{Edit, change}
use Rattle.keep_edit_spec.specs.Lines.{line_text, ended_text}
use Rattle.keep_edit_spec.specs.TouchedLines.{touched_by, touched_in_new}
use Rattle.keep_edit_spec.proofs.Common.LineTexts.{change-is}
use Rattle.keep_edit_spec.proofs.Common.Texts.{EachIs}
use Rattle.keep_edit_spec.proofs.Touched.SwapLaws.{have_bytes}
use Rattle.keep_edit_spec.proofs.Touched.TouchLaws.{Touches, EachTouches, have_newlines, change_touches}
use Rattle.keep_edit_spec.proofs.Touched.FitLaws.{all_prefix, ended_append, bom_text, document_text, Prefixes, prefixes}

-- a part of a text, from character to character
pub record IsCut (bytes : List ℕ) (part : Span) : Type 0 where
  pub ordered : part.start ≤ part.end
  pub within : part.end ≤ length bytes
  pub starts : IsCharBoundary bytes part.start
  pub ends : IsCharBoundary bytes part.end

-- ---- what follows a line start is text

after_newline : (before newline rest : List ℕ) → IsLeaf Strict leaf.Newline newline
    → IsUtf8 (before ++ (newline ++ rest)) → IsUtf8 rest
after_newline before newline rest (inl e) u =
    (cut_one before 0x0A rest (omega arith) (subst (λ n. IsUtf8 (before ++ (n ++ rest))) e u)).1
after_newline before newline rest (inr e) u =
    (cut_one [] 0x0A rest (omega arith)
    (cut_one before 0x0D (0x0A ∷ rest) (omega arith) (subst (λ n. IsUtf8 (before ++ (n ++ rest))) e u)).1).1

first_newline : (e : Ended) (es : List Ended) (rest : List ℕ)
    → ended_text (e ∷ es) ++ rest ≡ line_text e.line ++ (e.newline.text ++ (ended_text es ++ rest))
first_newline e es rest =
    ap (λ t. t ++ rest) (text_of-append (ended_leaves e) (flat_map ended_leaves es)
    ∙ ap (λ t. t ++ ended_text es) (text_of-append (line_leaves e.line) (e.newline ∷ [])))
    ∙ simp (append_assoc, append-nil) refl

after_lines : (profile : Profile) (es : List Ended) (rest : List ℕ) → AllByRecursion (IsEnded profile) es
    → IsUtf8 (ended_text es ++ rest) → IsUtf8 rest
after_lines profile [] rest h u = u
after_lines profile (e ∷ es) rest h u =
    after_lines profile es rest h.1
    (after_newline (line_text e.line) e.newline.text (ended_text es ++ rest) h.0.newline
    (subst IsUtf8 (first_newline e es rest) u))

after_bom : (b : Bool) (rest : List ℕ) → IsUtf8 (text_of (bom_leaves b) ++ rest) → IsUtf8 rest
unfolding encode
after_bom false rest u = u
after_bom true rest u = IsUtf8-past_char (0xEF ∷ 0xBB ∷ 0xBF ∷ rest) rest 0xFEFF u refl

-- ---- line starts

-- the start of the lines after some of a document's
start_cut : (profile : Profile) (s : Document) (prefix more : List Ended) → IsDocument profile s → IsUtf8 (text s)
    → s.ended ≡ prefix ++ more → IsCharBoundary (text s) (begin s + length (ended_text prefix))
start_cut profile s prefix more valid utf8 is =
    let rest : List ℕ = ended_text more ++ line_text s.last in
    let all : text s ≡ bom_text s ++ (ended_text prefix ++ rest) =
    document_text s ∙ ap (λ es. bom_text s ++ (ended_text es ++ line_text s.last)) is
    ∙ ap (λ x. bom_text s ++ (x ++ line_text s.last)) (ended_append prefix more)
    ∙ ap (λ x. bom_text s ++ x) (append_assoc (ended_text prefix) (ended_text more) (line_text s.last)) in
    let lines : IsUtf8 (ended_text prefix ++ rest) =
    after_bom s.bom (ended_text prefix ++ rest) (subst IsUtf8 all utf8) in
    let end : IsUtf8 rest =
    after_lines profile prefix rest
    (all_prefix (IsEnded profile) prefix more (subst (λ xs. AllByRecursion (IsEnded profile) xs) is valid.ended))
    lines in
    subst (λ n. IsCharBoundary (text s) n) (length-append (bom_text s) (ended_text prefix))
    (IsCharBoundary-at_seam (text s) (bom_text s ++ ended_text prefix) rest
    (all ∙ sym (append_assoc (bom_text s) (ended_text prefix) rest)) end)

-- the start of the line of a place is at most that place
line_most : (start low at : ℕ) (es : List Ended) → low ≤ start → last_to start low (line_starts at es) ≤ start
line_most start low at [] h = by (leb at start) refl
  where
    by : (b : Bool) → leb at start ≡ b → (if b then at else low) ≤ start
    by true t = leb-true at start t
    by false t = h
line_most start low at (e ∷ es) h = by (leb at start) refl (λ k. line_most start at (at + width (ended_leaves e)) es k)
  where
    by : (b : Bool) → leb at start ≡ b
        → (at ≤ start → last_to start at (line_starts (at + width (ended_leaves e)) es) ≤ start)
        → (if b then last_to start at (line_starts (at + width (ended_leaves e)) es) else low) ≤ start
    by true t more = more (leb-true at start t)
    by false t more = h

-- The place is the end of the text, or the start of the lines after some.
abbrev IsNext : ℕ → ℕ → List Ended → ℕ → Type 0
IsNext total at es o =
    (o ≡ total) ⊎ ((prefix : List Ended) × (more : List Ended) × (es ≡ prefix ++ more)
    × (o ≡ at + length (ended_text prefix)))

next_start : (end total at : ℕ) (es : List Ended) → IsNext total at es (next_of end total at es)
next_start end total at [] = by (leb end at) refl
  where
    by : (b : Bool) → leb end at ≡ b → IsNext total at [] (next_of end total at [])
    by true t =
        subst (λ n. IsNext total at [] n) (sym (if_true (leb end at) at total t)) (inr ([], [], refl, omega arith))
    by false t = subst (λ n. IsNext total at [] n) (sym (if_false (leb end at) at total t)) (inl refl)
next_start end total at (e ∷ es) = by (leb end at) refl (next_start end total (at + width (ended_leaves e)) es)
  where
    by : (b : Bool) → leb end at ≡ b
        → IsNext total (at + width (ended_leaves e)) es (next_of end total (at + width (ended_leaves e)) es)
        → IsNext total at (e ∷ es) (next_of end total at (e ∷ es))
    by true t h =
        subst (λ n. IsNext total at (e ∷ es) n) (sym (if_true (leb end at) at _ t))
        (inr ([], e ∷ es, refl, omega arith))
    by false t (inl h) = subst (λ n. IsNext total at (e ∷ es) n) (sym (if_false (leb end at) at _ t)) (inl h)
    by false t (inr (prefix, more, is, o)) =
        subst (λ n. IsNext total at (e ∷ es) n) (sym (if_false (leb end at) at _ t))
        (inr (
          e ∷ prefix,
          more,
          ap (λ xs. e ∷ xs) is,
          omega (
            arith,
            o,
            ap length (text_of-append (ended_leaves e) (flat_map ended_leaves prefix)),
            length-append (text_of (ended_leaves e)) (ended_text prefix),
          ),
        ))

-- ---- in the old text

pub touched_cut : (profile : Profile) (s : Document) (start end : ℕ) → IsDocument profile s → IsUtf8 (text s)
    → begin s ≤ start → start ≤ end → end ≤ length (text s) → IsCut (text s) (touched s (span start end))
touched_cut profile s start end valid utf8 low order within =
    let p : ℕ = line_of start (begin s) s.ended in
    let o : ℕ = next_of end (length (text s)) (begin s) s.ended in
    let f : Prefixes (begin s) s.ended p =
    prefixes start (begin s) s.ended (have_bytes s.ended (have_newlines profile s.ended valid.ended)) low in
    let starts : IsCharBoundary (text s) p =
    subst (λ n. IsCharBoundary (text s) n) (sym f.here) (start_cut profile s _ f.after valid utf8 f.all) in
    let ends : IsCharBoundary (text s) o = end_cut (next_start end (length (text s)) (begin s) s.ended) in
    record {
      ordered =
          omega (
            arith,
            line_most start (begin s) (begin s) s.ended low,
            order,
            next_high end (length (text s)) (begin s) s.ended within,
          );
      within = ends.0;
      starts = starts;
      ends = ends;
    }
  where
    end_cut : IsNext (length (text s)) (begin s) s.ended (next_of end (length (text s)) (begin s) s.ended)
        → IsCharBoundary (text s) (next_of end (length (text s)) (begin s) s.ended)
    end_cut (inl e) = subst (λ n. IsCharBoundary (text s) n) (sym e) (IsCharBoundary-end (text s))
    end_cut (inr (prefix, more, is, e)) =
        subst (λ n. IsCharBoundary (text s) n) (sym e) (start_cut profile s prefix more valid utf8 is)

-- ---- in the new text

-- the lines that replace the touched ones of an edit
pub touched_in_new_cut : (profile : Profile) (s : Document) (e : Edit) (c : Changed Document) → IsDocument profile s
    → IsUtf8 (text s) → change s e ≡ Some c → IsUtf8 (text c.to) → IsCut (text c.to) (touched_in_new s (place_of c))
touched_in_new_cut profile s e c valid utf8 made new =
    let is : IsChangeOf text s c = subst (EachIs text s) made (change-is s e) in
    let h : Touches s (place_of c).start (place_of c).end c.to =
    subst (EachTouches s) made (change_touches profile s e valid) in
    let was : length (text s) ≡ length c.before + (length c.old + length c.after) =
    ap length is.was ∙ length-append c.before (c.old ++ c.after)
    ∙ ap (λ n. length c.before + n) (length-append c.old c.after) in
    let now : length (text c.to) ≡ length c.before + (length c.new + length c.after) =
    ap length is.is ∙ length-append c.before (c.new ++ c.after)
    ∙ ap (λ n. length c.before + n) (length-append c.new c.after) in
    let within : (place_of c).end ≤ length (text s) = omega (arith, was) in
    let whole : Span = touched_by s (place_of c) in
    let cut : IsCut (text s) whole =
    touched_cut profile s (place_of c).start (place_of c).end valid utf8 h.low (omega arith) within in
    let low : whole.start ≤ length c.before = line_most (place_of c).start (begin s) (begin s) s.ended h.low in
    let high : length c.before + length c.old ≤ whole.end =
    next_high (place_of c).end (length (text s)) (begin s) s.ended within in
    let end : ℕ = (touched_in_new s (place_of c)).end in
    let past : ℕ = whole.end - (length c.before + length c.old) in
    let prefix : take whole.start (text c.to) ≡ take whole.start (text s) =
    ap (take whole.start) is.is ∙ take-append-le whole.start c.before (c.new ++ c.after) low
    ∙ sym (ap (take whole.start) is.was ∙ take-append-le whole.start c.before (c.old ++ c.after) low) in
    let back : drop end (text c.to) ≡ drop whole.end (text s) =
    after (text c.to) c.before c.new c.after end past is.is (omega (arith, high))
    ∙ sym (after (text s) c.before c.old c.after whole.end past is.was (omega (arith, high))) in
    let fits : end ≤ length (text c.to) = omega (arith, was, now, high, cut.within) in
    record {
      ordered = omega (arith, low, high);
      within = fits;
      starts =
          IsCharBoundary-from_take (text c.to) whole.start new (omega (arith, low, now))
          (subst IsUtf8 (sym prefix) (IsUtf8-take (text s) whole.start utf8 cut.starts));
      ends = IsCharBoundary-from_drop (text c.to) end fits
          (subst IsUtf8 (sym back) (IsUtf8-drop (text s) whole.end utf8 cut.ends));
    }
  where
    -- a text from after two of its parts on
    after : (bytes a b rest : List ℕ) (n m : ℕ) → bytes ≡ a ++ (b ++ rest) → n ≡ length a + length b + m
        → drop n bytes ≡ drop m rest
    after bytes a b rest n m e size =
        ap (λ k. drop k bytes) (let k : n ≡ length (a ++ b) + m = omega (arith, size, length-append a b) in k)
        ∙ ap (drop (length (a ++ b) + m)) (e ∙ sym (append_assoc a b rest)) ∙ drop-append-add (a ++ b) rest m
