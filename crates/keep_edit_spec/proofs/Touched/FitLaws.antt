-- The touched lines of an edit are lines of their own: `touched_lines_are_lines`.
--
-- A text is cut where its touched lines begin (`prefixes`) and where they end (`backs`). So the new text is the old
-- one's prefix, the text of the new lines, and the old one's end (`pieces`). The new lines are valid and within the
-- limit, since the new document is; and the last of them is empty, or is the last line of the new document.
--
-- Theorem: `touched_lines_are_lines`.
use Rattle.std.proofs.Common.{◌≡◌, ℕ, ◌+◌, ◌-◌, ◌<◌, ◌≤◌, Bool, true, false, List, [], ◌∷◌, ◌++◌, length, take, drop}
use Rattle.std.proofs.Common.{refl, sym, ap, subst, ◌∙◌, arith, append_assoc, inl, inr, ◌⊎◌}
use Rattle.std.specs.Prelude.{ltb, leb, if◌then◌else◌, slice_range}
use Rattle.std.proofs.Common.{le-leb, le-ltb, leb-true, ltb-true, ltb-false}
use Rattle.std.specs.List.{flat_map, AllByRecursion}
use Rattle.std.proofs.lemmas.List.{append-nil, length-append}
use Rattle.std.proofs.Math.Seq.{take-append_seam, drop-append_seam}
use Rattle.keep_types.specs.declared.leaf.Profile.{Profile}
use Rattle.keep_types.specs.declared.leaf.Leaf.TheVariants as leaf
use Rattle.keep_types.specs.declared.syntax.Span.{Span}
use Rattle.keep_edit_spec.specs.Changed.{Changed, IsChangeOf, place_of}
use Rattle.keep_edit_spec.proofs.Common.LineTexts.{change-is}
use Rattle.keep_edit_spec.proofs.Common.Texts.{EachIs}
use Rattle.keep_edit_spec.specs.TouchedLines.{TouchesLines, TouchedLinesAreLines}
use Rattle.keep_edit_spec.proofs.Touched.TouchLaws.{Touches, EachTouches, have_newlines, document_fills, change_touches}
use Rattle.keep_syntax.specs.Tree.{Written, Line, Ended, Document, line_leaves, ended_leaves, bom_leaves, text_of, text}
use Rattle.keep_syntax.specs.Tree.{lines_depth, content_depth, depth}
use Rattle.keep_syntax.specs.Grammar.{IsLine, IsEnded, IsDocument}
use Rattle.keep_syntax.specs.Numbered.{width, span}
use Rattle.keep_syntax.proofs.Shared.{text_of-append, line_of, next_of, HaveBytes, line_step, before_step, from_step}
use Rattle.keep_syntax.proofs.Shared.{none_before, all_from, line_low}
use Rattle.keep_edit_spec.specs.Lines.{page_text, line_text, ended_text}
use Rattle.keep_syntax.specs.WholeLines.{empty_line, line_starts, last_to, lines_before, lines_from, begin, touched}
use Rattle.keep_syntax.specs.WholeLines.{replaced}
use Rattle.keep_syntax_store.proofs.Shared.{if_true, if_false}
use Rattle.keep_edit_spec.proofs.Touched.SwapLaws.{FillPage, have_bytes, page_cons, fill_rest}

-- ---- lists that all are so

pub all_prefix : {A : Type 0} (P : A → Type 0) (xs ys : List A) → AllByRecursion P (xs ++ ys) → AllByRecursion P xs
all_prefix P [] ys h = tt
all_prefix P (x ∷ xs) ys h = (h.0, all_prefix P xs ys h.1)

pub all_back : {A : Type 0} (P : A → Type 0) (xs ys : List A) → AllByRecursion P (xs ++ ys) → AllByRecursion P ys
all_back P [] ys h = h
all_back P (x ∷ xs) ys h = all_back P xs ys h.1

-- ---- depth

depth_prefix : (n : ℕ) (xs ys : List Ended) → lines_depth (xs ++ ys) ≤ n → lines_depth xs ≤ n
depth_prefix n [] ys h = omega arith
depth_prefix n (x ∷ xs) ys h =
    let k : lines_depth (xs ++ ys) ≤ n = omega (arith, h) in
    omega (arith, h, depth_prefix n xs ys k)

depth_back : (n : ℕ) (xs ys : List Ended) → lines_depth (xs ++ ys) ≤ n → lines_depth ys ≤ n
depth_back n [] ys h = h
depth_back n (x ∷ xs) ys h = depth_back n xs ys (omega (arith, h))

-- ---- the text before a line, and from a line start on

pub ended_append : (xs ys : List Ended) → ended_text (xs ++ ys) ≡ ended_text xs ++ ended_text ys
ended_append [] ys = refl
ended_append (x ∷ xs) ys =
    text_of-append (ended_leaves x) (flat_map ended_leaves (xs ++ ys))
    ∙ ap (λ t. text_of (ended_leaves x) ++ t) (ended_append xs ys)
    ∙ sym (ap (λ t. t ++ ended_text ys) (text_of-append (ended_leaves x) (flat_map ended_leaves xs))
    ∙ append_assoc (text_of (ended_leaves x)) (ended_text xs) (ended_text ys))

-- the lines before the line of a place end where it begins
pub record Prefixes (at : ℕ) (es : List Ended) (p : ℕ) : Type 0 where
  pub here : p ≡ at + length (ended_text (lines_before p at es))
  pub after : List Ended
  pub all : es ≡ lines_before p at es ++ after

prefixes_here : (at : ℕ) (es : List Ended) → Prefixes at es at
prefixes_here at es = record {
  here = omega (arith, ap (λ xs. length (ended_text xs)) (none_before at es));
  after = es;
  all = sym (ap (λ xs. xs ++ es) (none_before at es));
}

pub prefixes : (start at : ℕ) (es : List Ended) → HaveBytes es → at ≤ start → Prefixes at es (line_of start at es)
prefixes start at [] h low =
    subst (λ n. Prefixes at [] n) (sym (if_true (leb at start) at at (le-leb at start low))) (prefixes_here at [])
prefixes start at (e ∷ es) h low =
    by (leb (at + width (ended_leaves e)) start) refl (λ k. prefixes start (at + width (ended_leaves e)) es h.1 k)
  where
    by : (b : Bool) → leb (at + width (ended_leaves e)) start ≡ b
        → (at + width (ended_leaves e) ≤ start
        → Prefixes (at + width (ended_leaves e)) es (line_of start (at + width (ended_leaves e)) es))
        → Prefixes at (e ∷ es) (line_of start at (e ∷ es))
    by true t rest =
        let b : ℕ = at + width (ended_leaves e) in
        let k : b ≤ start = leb-true b start t in
        let f = rest k in
        let p : ℕ = line_of start b es in
        let lp : at < p = omega (arith, h.0, line_low start b b es (omega arith)) in
        let prefix : lines_before p at (e ∷ es) ≡ e ∷ lines_before p b es = before_step p at e es lp in
        subst (λ n. Prefixes at (e ∷ es) n) (sym (line_step start at e es k))
        (record {
          here = omega (
            arith,
            f.here,
            ap (λ xs. length (ended_text xs)) prefix,
            ap length (text_of-append (ended_leaves e) (flat_map ended_leaves (lines_before p b es))),
            length-append (text_of (ended_leaves e)) (ended_text (lines_before p b es)),
          );
          after = f.after;
          all = ap (λ xs. e ∷ xs) f.all ∙ sym (ap (λ xs. xs ++ f.after) prefix);
        })
    by false t rest =
        subst (λ n. Prefixes at (e ∷ es) n) (sym (if_true (leb at start) _ at (le-leb at start low) ∙ stop es))
        (prefixes_here at (e ∷ es))
      where
        stop : (es : List Ended) → last_to start at (line_starts (at + width (ended_leaves e)) es) ≡ at
        stop [] = if_false (leb (at + width (ended_leaves e)) start) _ at t
        stop (d ∷ ds) = if_false (leb (at + width (ended_leaves e)) start) _ at t

-- the text of the lines from a line start on, or nothing at the text's end
abbrev back_text : ℕ → ℕ → List Ended → Line → ℕ → List ℕ
back_text total at es last o = ended_text (lines_from o at es) ++ (if ltb o total then line_text last else [])

record Backs (total at : ℕ) (es : List Ended) (last : Line) (o : ℕ) : Type 0 where
  before : List ℕ
  here : o ≡ at + length before
  all : page_text (record { ended = es; last = last }) ≡ before ++ back_text total at es last o

-- an empty rest
no_line : (n : ℕ) (t : List ℕ) → n ≡ n + length t → t ≡ []
no_line n [] h = refl
no_line n (x ∷ xs) h = absurd (omega (arith, h))

backs_here : (total at : ℕ) (es : List Ended) (last : Line) → FillPage total at es last → Backs total at es last at
backs_here total at es last fills = by (ltb at total) refl
  where
    lines : ended_text (lines_from at at es) ≡ ended_text es
    lines = ap ended_text (all_from at es)

    by : (b : Bool) → ltb at total ≡ b → Backs total at es last at
    by true t = record {
      before = [];
      here = omega arith;
      all = sym (ap (λ x. x ++ (if ltb at total then line_text last else [])) lines
          ∙ ap (λ x. ended_text es ++ x) (if_true (ltb at total) (line_text last) [] t));
    }
    by false t =
        let size : length (page_text (record { ended = es; last = last })) ≡ length (ended_text es)
        + length (line_text last) = length-append (ended_text es) (line_text last) in
        let none : line_text last ≡ [] =
        no_line 0 (line_text last) (omega (arith, fills, size, ltb-false at total t)) in
        record {
          before = [];
          here = omega arith;
          all = sym (ap (λ x. x ++ (if ltb at total then line_text last else [])) lines
              ∙ ap (λ x. ended_text es ++ x) (if_false (ltb at total) (line_text last) [] t ∙ sym none));
        }

backs : (end total at : ℕ) (es : List Ended) (last : Line) → HaveBytes es → FillPage total at es last → end ≤ total
    → Backs total at es last (next_of end total at es)
backs end total at [] last h fills within = by (leb end at) refl
  where
    by : (b : Bool) → leb end at ≡ b → Backs total at [] last (next_of end total at [])
    by true t =
        subst (λ n. Backs total at [] last n) (sym (if_true (leb end at) at total t))
        (backs_here total at [] last fills)
    by false t = subst (λ n. Backs total at [] last n) (sym (if_false (leb end at) at total t))
        (record {
          before = line_text last;
          here = omega (arith, fills);
          all = sym (ap (λ x. line_text last ++ x)
              (if_false (ltb total total) (line_text last) [] (le-ltb total total (omega arith)))
              ∙ append-nil (line_text last));
        })
backs end total at (e ∷ es) last h fills within =
    by (leb end at) refl (backs end total (at + width (ended_leaves e)) es last h.1 (fill_rest total at e es last fills)
    within)
  where
    by : (b : Bool) → leb end at ≡ b
        → Backs total (at + width (ended_leaves e)) es last (next_of end total (at + width (ended_leaves e)) es)
        → Backs total at (e ∷ es) last (next_of end total at (e ∷ es))
    by true t r =
        subst (λ n. Backs total at (e ∷ es) last n) (sym (if_true (leb end at) at _ t))
        (backs_here total at (e ∷ es) last fills)
    by false t r =
        let b : ℕ = at + width (ended_leaves e) in
        let o : ℕ = next_of end total b es in
        let past : at < o = omega (arith, h.0, r.here) in
        let lines : ended_text (lines_from o at (e ∷ es)) ≡ ended_text (lines_from o b es) =
        ap ended_text (from_step o at e es past) in
        subst (λ n. Backs total at (e ∷ es) last n) (sym (if_false (leb end at) at _ t))
        (record {
          before = text_of (ended_leaves e) ++ r.before;
          here = omega (arith, r.here, length-append (text_of (ended_leaves e)) r.before);
          all = page_cons e es last ∙ ap (λ x. text_of (ended_leaves e) ++ x) r.all
              ∙ sym (append_assoc (text_of (ended_leaves e)) r.before (back_text total b es last o))
              ∙ sym (ap (λ x.
              (text_of (ended_leaves e) ++ r.before) ++ (x ++ (if ltb o total then line_text last else []))) lines);
        })

-- ---- documents

abbrev pub bom_text : Document → List ℕ
bom_text s = text_of (bom_leaves s.bom)

pub document_text : (s : Document) → text s ≡ bom_text s ++ page_text (record { ended = s.ended; last = s.last })
document_text s =
    let end : Written = record { leaf = leaf.End; text = [] } in
    text_of-append (bom_leaves s.bom) (flat_map ended_leaves s.ended ++ (line_leaves s.last ++ (end ∷ [])))
    ∙ ap (λ x. bom_text s ++ x) (text_of-append (flat_map ended_leaves s.ended) (line_leaves s.last ++ (end ∷ []))
    ∙ ap (λ x. ended_text s.ended ++ x)
    (text_of-append (line_leaves s.last) (end ∷ []) ∙ append-nil (line_text s.last)))

middle : (a m r : List ℕ) (from to : ℕ) → from ≡ length a → to ≡ length a + length m
    → slice_range (a ++ (m ++ r)) from to ≡ m
middle a m r from to f t =
    ap (λ n. take (to - n) (drop n (a ++ (m ++ r)))) f
    ∙ ap (λ x. take (to - length a) x) (drop-append_seam a (m ++ r))
    ∙ ap (λ n. take n (m ++ r)) (let e : to - length a ≡ length m = omega (arith, t) in e)
    ∙ take-append_seam m r

-- the text of the new document, cut at the touched lines
cut_again : (x prefix new back line last : List ℕ)
    → x ++ ((prefix ++ (new ++ back)) ++ last) ≡ (x ++ prefix) ++ (new ++ (back ++ last))
cut_again x prefix new back line last = simp append_assoc refl

pub record Pieces (s t m : Document) (whole : Span) : Type 0 where
  pub before : List ℕ
  pub after : List ℕ
  pub is : text t ≡ before ++ (text m ++ after)
  pub start : whole.start ≡ length before
  pub end : length (text s) ≡ whole.end + length after

pieces : (profile : Profile) (s : Document) (start end : ℕ) (t : Document) → IsDocument profile s → begin s ≤ start
    → end ≤ length (text s) → (h : Touches s start end t) → Pieces s t h.lines (touched s (span start end))
pieces profile s start end t valid low within h =
    let es : List Ended = s.ended in
    let b : ℕ = begin s in
    let total : ℕ = length (text s) in
    let some : HaveBytes es = have_bytes es (have_newlines profile es valid.ended) in
    let fills = document_fills s in
    let f = prefixes start b es some low in
    let k = backs end total b es s.last some fills within in
    let p : ℕ = line_of start b es in
    let o : ℕ = next_of end total b es in
    let m : Document = h.lines in
    let prefix : List ℕ = ended_text (lines_before p b es) in
    let back : List ℕ = ended_text (lines_from o b es) in
    let rest : List ℕ = back_text total b es s.last o in
    let size : length (text s) ≡ o + length rest =
    omega (
      arith,
      ap length (document_text s),
      length-append (bom_text s) (page_text (record { ended = es; last = s.last })),
      ap length k.all,
      length-append k.before rest,
      k.here,
    ) in
    let text_m : text m ≡ ended_text m.ended ++ line_text m.last =
    document_text m
    ∙ ap (λ (x : Bool). text_of (bom_leaves x) ++ page_text (record { ended = m.ended; last = m.last })) h.bom in
    let lines : ended_text (lines_before p b es ++ (m.ended ++ lines_from o b es)) ≡ prefix
    ++ (ended_text m.ended ++ back) =
    ended_append (lines_before p b es) (m.ended ++ lines_from o b es)
    ∙ ap (λ x. prefix ++ x) (ended_append m.ended (lines_from o b es)) in
    let tail : back ++ line_text (if ltb o total then s.last else m.last) ≡ line_text m.last ++ rest =
    ends (ltb o total) refl h.closed size in
    record {
      before = bom_text s ++ prefix;
      after = rest;
      is = ap text h.is ∙ document_text (replaced s (touched s (span start end)) m)
          ∙ ap (λ x. bom_text s ++ (x ++ line_text (if ltb o total then s.last else m.last))) lines
          ∙ cut_again (bom_text s) prefix (ended_text m.ended) back (line_text m.last)
          (line_text (if ltb o total then s.last else m.last))
          ∙ ap (λ x. (bom_text s ++ prefix) ++ (ended_text m.ended ++ x)) tail
          ∙ ap (λ x. (bom_text s ++ prefix) ++ x) (sym (append_assoc (ended_text m.ended) (line_text m.last) rest))
          ∙ ap (λ x. (bom_text s ++ prefix) ++ (x ++ rest)) (sym text_m);
      start = omega (arith, f.here, length-append (bom_text s) prefix);
      end = size;
    }
  where
    ends : (test : Bool) → ltb (next_of end (length (text s)) (begin s) s.ended) (length (text s)) ≡ test
        → (h.lines.last ≡ empty_line) ⊎ (next_of end (length (text s)) (begin s) s.ended ≡ length (text s))
        → length (text s) ≡ next_of end (length (text s)) (begin s) s.ended
        + length (back_text (length (text s)) (begin s) s.ended s.last
        (next_of end (length (text s)) (begin s) s.ended))
        → ended_text (lines_from (next_of end (length (text s)) (begin s) s.ended) (begin s) s.ended)
        ++ line_text (if ltb (next_of end (length (text s)) (begin s) s.ended) (length (text s)) then s.last else
        h.lines.last)
        ≡ line_text h.lines.last ++ back_text (length (text s)) (begin s) s.ended s.last (next_of end (length (text s))
        (begin s) s.ended)
    ends true t (inl e) n =
        let o : ℕ = next_of end (length (text s)) (begin s) s.ended in
        let back : List ℕ = ended_text (lines_from o (begin s) s.ended) in
        ap (λ l. back ++ line_text l) (if_true (ltb o (length (text s))) s.last h.lines.last t)
        ∙ sym (ap (λ l. line_text l ++ back_text (length (text s)) (begin s) s.ended s.last o) e
        ∙ ap (λ x. back ++ x) (if_true (ltb o (length (text s))) (line_text s.last) [] t))
    ends true t (inr e) n =
        absurd (omega (arith, ltb-true (next_of end (length (text s)) (begin s) s.ended) (length (text s)) t, e))
    ends false t c n =
        let o : ℕ = next_of end (length (text s)) (begin s) s.ended in
        let back : List ℕ = ended_text (lines_from o (begin s) s.ended) in
        let r : back_text (length (text s)) (begin s) s.ended s.last o ≡ back =
        ap (λ x. back ++ x) (if_false (ltb o (length (text s))) (line_text s.last) [] t) ∙ append-nil back in
        let none : back ≡ [] =
        no_line (length (text s)) back (omega (arith, n, ap length r, ltb-false o (length (text s)) t)) in
        ap (λ l. back ++ line_text l) (if_false (ltb o (length (text s))) s.last h.lines.last t)
        ∙ ap (λ x. x ++ line_text h.lines.last) none
        ∙ sym (ap (λ x. line_text h.lines.last ++ x) (r ∙ none) ∙ append-nil (line_text h.lines.last))

-- The touched lines of a change to a valid document within the limit are the text of such lines.
pub touches_lines : (profile : Profile) (limit : ℕ) (s : Document) (c : Changed Document) → IsDocument profile s
    → IsDocument profile c.to → depth c.to ≤ limit → IsChangeOf text s c
    → (h : Touches s (place_of c).start (place_of c).end c.to) → TouchesLines profile limit s c
touches_lines profile limit s c valid new shallow is h =
    let start : ℕ = (place_of c).start in
    let end : ℕ = (place_of c).end in
    let whole : Span = touched s (span start end) in
    let m : Document = h.lines in
    let was : length (text s) ≡ length c.before + (length c.old + length c.after) =
    ap length is.was ∙ length-append c.before (c.old ++ c.after)
    ∙ ap (λ n. length c.before + n) (length-append c.old c.after) in
    let now : length (text c.to) ≡ length c.before + (length c.new + length c.after) =
    ap length is.is ∙ length-append c.before (c.new ++ c.after)
    ∙ ap (λ n. length c.before + n) (length-append c.new c.after) in
    let k = pieces profile s start end c.to valid h.low (omega (arith, was)) h in
    let size : length (text c.to) ≡ length k.before + (length (text m) + length k.after) =
    ap length k.is ∙ length-append k.before (text m ++ k.after)
    ∙ ap (λ n. length k.before + n) (length-append (text m) k.after) in
    let es : List Ended = lines_before whole.start (begin s) s.ended in
    let bs : List Ended = lines_from whole.end (begin s) s.ended in
    let all : AllByRecursion (IsEnded profile) (es ++ (m.ended ++ bs)) =
    subst (λ (x : Document). AllByRecursion (IsEnded profile) x.ended) h.is new.ended in
    let deep : depth (replaced s whole m) ≤ limit = subst (λ (x : Document). depth x ≤ limit) h.is shallow in
    let lines_deep : lines_depth (es ++ (m.ended ++ bs)) ≤ limit = omega (arith, deep) in
    record {
      low = h.low;
      within = omega (arith, was);
      lines = m;
      bom = h.bom;
      reads = record {
        valid = record {
          ended = all_prefix (IsEnded profile) m.ended bs (all_back (IsEnded profile) es (m.ended ++ bs) all);
          last = last_valid h.closed (ltb whole.end (length (text s))) refl
              (subst (λ (x : Document). IsLine profile x.last) h.is new.last);
        };
        spelled = ap (λ x. slice_range x whole.start (whole.end + length c.new - (end - start))) k.is
            ∙ middle k.before (text m) k.after whole.start (whole.end + length c.new - (end - start)) k.start
            (omega (arith, was, now, size, k.end, k.start));
        shallow =
            omega (
              arith,
              depth_prefix limit m.ended bs (depth_back limit es (m.ended ++ bs) lines_deep),
              last_deep h.closed (ltb whole.end (length (text s))) refl (omega (arith, deep)),
            );
      };
      closed = h.closed;
      is = h.is;
    }
  where
    last_valid : (h.lines.last ≡ empty_line)
        ⊎ ((touched s (span (place_of c).start (place_of c).end)).end ≡ length (text s)) → (b : Bool)
        → ltb (touched s (span (place_of c).start (place_of c).end)).end (length (text s)) ≡ b
        → IsLine profile (if ltb (touched s (span (place_of c).start (place_of c).end)).end (length (text s)) then
        s.last else h.lines.last) → IsLine profile h.lines.last
    last_valid (inl e) b t v =
        subst (IsLine profile) (sym e) (record { before = tt; content = tt; after = refl; comment = tt })
    last_valid (inr e) b t v =
        subst (IsLine profile) (if_false
        (ltb (touched s (span (place_of c).start (place_of c).end)).end (length (text s))) s.last h.lines.last
        (le-ltb (touched s (span (place_of c).start (place_of c).end)).end (length (text s)) (omega (arith, e)))) v

    last_deep : (h.lines.last ≡ empty_line)
        ⊎ ((touched s (span (place_of c).start (place_of c).end)).end ≡ length (text s)) → (b : Bool)
        → ltb (touched s (span (place_of c).start (place_of c).end)).end (length (text s)) ≡ b
        → content_depth (if ltb (touched s (span (place_of c).start (place_of c).end)).end (length (text s)) then s.last
        else h.lines.last).content ≤ limit → content_depth h.lines.last.content ≤ limit
    last_deep (inl e) b t v = subst (λ (l : Line). content_depth l.content ≤ limit) (sym e) (omega arith)
    last_deep (inr e) b t v =
        subst (λ (l : Line). content_depth l.content ≤ limit)
        (if_false (ltb (touched s (span (place_of c).start (place_of c).end)).end (length (text s))) s.last h.lines.last
        (le-ltb (touched s (span (place_of c).start (place_of c).end)).end (length (text s)) (omega (arith, e)))) v

-- The law: of an edit that changes a valid document to a valid one within the limit, the touched lines are lines.
pub touched_lines_are_lines : TouchedLinesAreLines
touched_lines_are_lines profile limit s e c valid made new shallow =
    touches_lines profile limit s c valid new shallow (subst (EachIs text s) made (change-is s e))
    (subst (EachTouches s) made (change_touches profile s e valid))
