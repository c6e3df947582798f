-- The lines of a document in three parts: those before the lines that a span touches, these, and those after.
--
-- The touched lines go from the last line start at or before the span's start (`line_of`) to the first at or after its
-- end, or to the end of the text (`next_of`). Two inductions over the lines find the parts: each line that ends at or
-- before the span's start is in the first part (`split`); from the next line on, each that begins before the span's end
-- is touched, and the others come after (`rest`). Each of these lines ends with a newline, so it has a byte
-- (`have_bytes`). Hence the starts of lines ascend strictly, and `lines_before` and `lines_from` cut the lines at these
-- two places. That the touched lines end at `next_of` is known only where this is before the end of the text; else no
-- ended line comes after.
--
-- Theorems: `document_split`: the three parts of the lines of a document; `text_length`: how long its text is.
use Rattle.std.proofs.Common.{◌≡◌, ℕ, ◌+◌, ◌<◌, ◌≤◌, Bool, true, false, List, [], ◌∷◌, ◌++◌, length, refl, sym, ap}
use Rattle.std.proofs.Common.{subst, ◌∙◌, arith, le-leb, leb-true, leb-false}
use Rattle.std.specs.Prelude.{leb}
use Rattle.std.specs.List.{flat_map, AllByRecursion}
use Rattle.std.proofs.lemmas.List.{length-append}
use Rattle.keep_types.specs.declared.leaf.Profile.{Profile}
use Rattle.keep_types.specs.declared.leaf.Leaf.TheVariants as leaf
use Rattle.keep_types.specs.declared.syntax.Span.{Span}
use Rattle.keep_syntax.specs.Tree.{Written, Ended, Document, token, line_leaves, ended_leaves, bom_leaves, text}
use Rattle.keep_syntax.specs.Grammar.{IsEnded, IsDocument}
use Rattle.keep_syntax.specs.Numbered.{width}
use Rattle.keep_syntax.specs.WholeLines.{line_starts, last_to, lines_before, lines_from, begin, touched}
use Rattle.keep_syntax.proofs.SpaceLaws.{gap_leaf_some}
use Rattle.keep_syntax.proofs.GrowthLaws.{width-append}
use Rattle.keep_syntax_store.proofs.Shared.{if_true, if_false}
use Rattle.keep_syntax.proofs.LineStartLaws.{HaveBytes, line_of, next_of, line_low, next_high, line_step, next_step}
use Rattle.keep_syntax.proofs.LineStartLaws.{before_step, from_step, none_before, all_from}

abbrev pub bytes_of : List Ended → ℕ
bytes_of es = width (flat_map ended_leaves es)

-- a line with a newline has a byte
pub have_bytes : (profile : Profile) (es : List Ended) → AllByRecursion (IsEnded profile) es → HaveBytes es
have_bytes profile [] h = tt
have_bytes profile (e ∷ es) h = (
  omega (
    arith,
    gap_leaf_some leaf.Newline e.newline.text refl h.0.newline,
    width-append (line_leaves e.line) (e.newline ∷ []),
    length-append e.newline.text [],
  ),
  have_bytes profile es h.1,
)

-- ---- from the first touched line on

record Rest (total at : ℕ) (es : List Ended) (o : ℕ) : Type 0 where
  gone : List Ended
  back : List Ended
  all : es ≡ gone ++ back
  from : lines_from o at es ≡ back
  end_is : o < total → o ≡ at + bytes_of gone
  none : total ≤ o → back ≡ []

rest : (end total at : ℕ) (es : List Ended) → HaveBytes es → end ≤ total → at + bytes_of es ≤ total
    → Rest total at es (next_of end total at es)
rest end total at [] h within fills = by (leb end at) refl
  where
    by : (b : Bool) → leb end at ≡ b → Rest total at [] (next_of end total at [])
    by true t =
        subst (λ n. Rest total at [] n) (sym (if_true (leb end at) at total t))
        (record { gone = []; back = []; all = refl; from = refl; end_is = λ k. omega arith; none = λ k. refl })
    by false t =
        subst (λ n. Rest total at [] n) (sym (if_false (leb end at) at total t))
        (record {
          gone = [];
          back = [];
          all = refl;
          from = refl;
          end_is = λ k. absurd (omega (arith, k));
          none = λ k. refl;
        })
rest end total at (e ∷ es) h within fills =
    by (leb end at) refl (rest end total (at + width (ended_leaves e)) es h.1 within
    (omega (arith, fills, width-append (ended_leaves e) (flat_map ended_leaves es))))
  where
    by : (b : Bool) → leb end at ≡ b
        → Rest total (at + width (ended_leaves e)) es (next_of end total (at + width (ended_leaves e)) es)
        → Rest total at (e ∷ es) (next_of end total at (e ∷ es))
    by true t r =
        subst (λ n. Rest total at (e ∷ es) n) (sym (if_true (leb end at) at _ t))
        (record {
          gone = [];
          back = e ∷ es;
          all = refl;
          from = all_from at (e ∷ es);
          end_is = λ k. omega arith;
          none = λ k. absurd (omega (arith, k, fills, h.0, width-append (ended_leaves e) (flat_map ended_leaves es)));
        })
    by false t r =
        let b : ℕ = at + width (ended_leaves e) in
        let o : ℕ = next_of end total b es in
        let past : at < end = leb-false end at t in
        subst (λ n. Rest total at (e ∷ es) n) (sym (next_step end total at e es past))
        (record {
          gone = e ∷ r.gone;
          back = r.back;
          all = ap (λ xs. e ∷ xs) r.all;
          from = from_step o at e es (omega (arith, past, next_high end total b es within)) ∙ r.from;
          end_is = λ k. omega (arith, r.end_is k, width-append (ended_leaves e) (flat_map ended_leaves r.gone));
          none = r.none;
        })

-- ---- all lines

pub record Split (total at : ℕ) (es : List Ended) (p o : ℕ) : Type 0 where
  pub prefix : List Ended
  pub gone : List Ended
  pub back : List Ended
  pub all : es ≡ prefix ++ (gone ++ back)
  pub before : lines_before p at es ≡ prefix
  pub from : lines_from o at es ≡ back
  pub start_is : p ≡ at + bytes_of prefix
  pub end_is : o < total → o ≡ p + bytes_of gone
  pub none : total ≤ o → back ≡ []

split_here : (total at : ℕ) (es : List Ended) (o : ℕ) → Rest total at es o → Split total at es at o
split_here total at es o r =
    record {
      prefix = [];
      gone = r.gone;
      back = r.back;
      all = r.all;
      before = none_before at es;
      from = r.from;
      start_is = omega arith;
      end_is = r.end_is;
      none = r.none;
    }

split : (start end total at : ℕ) (es : List Ended) → HaveBytes es → at ≤ start → start ≤ end → end ≤ total
    → at + bytes_of es ≤ total → Split total at es (line_of start at es) (next_of end total at es)
split start end total at [] h low order within fills =
    subst (λ n. Split total at [] n (next_of end total at []))
    (sym (if_true (leb at start) at at (le-leb at start low)))
    (split_here total at [] (next_of end total at []) (rest end total at [] h within fills))
split start end total at (e ∷ es) h low order within fills =
    by (leb (at + width (ended_leaves e)) start) refl
    (λ k. split start end total (at + width (ended_leaves e)) es h.1 k order within
    (omega (arith, fills, width-append (ended_leaves e) (flat_map ended_leaves es))))
  where
    by : (b : Bool) → leb (at + width (ended_leaves e)) start ≡ b
        → (at + width (ended_leaves e) ≤ start
        → Split total (at + width (ended_leaves e)) es (line_of start (at + width (ended_leaves e)) es)
        (next_of end total (at + width (ended_leaves e)) es))
        → Split total at (e ∷ es) (line_of start at (e ∷ es)) (next_of end total at (e ∷ es))
    by true t more =
        let b : ℕ = at + width (ended_leaves e) in
        let k : b ≤ start = leb-true b start t in
        let r = more k in
        let p : ℕ = line_of start b es in
        let o : ℕ = next_of end total b es in
        let past : at < p = omega (arith, h.0, line_low start b b es (omega arith)) in
        let there : at < o = omega (arith, h.0, k, order, next_high end total b es within) in
        subst (λ n. Split total at (e ∷ es) n (next_of end total at (e ∷ es))) (sym (line_step start at e es k))
        (subst (λ n. Split total at (e ∷ es) p n) (sym (next_step end total at e es (omega (arith, h.0, k, order))))
        (record {
          prefix = e ∷ r.prefix;
          gone = r.gone;
          back = r.back;
          all = ap (λ xs. e ∷ xs) r.all;
          before = before_step p at e es past ∙ ap (λ xs. e ∷ xs) r.before;
          from = from_step o at e es there ∙ r.from;
          start_is = omega (arith, r.start_is, width-append (ended_leaves e) (flat_map ended_leaves r.prefix));
          end_is = r.end_is;
          none = r.none;
        }))
    by false t more =
        subst (λ n. Split total at (e ∷ es) n (next_of end total at (e ∷ es)))
        (sym (if_true (leb at start) _ at (le-leb at start low) ∙ stop es))
        (split_here total at (e ∷ es) (next_of end total at (e ∷ es)) (rest end total at (e ∷ es) h within fills))
      where
        stop : (es : List Ended) → last_to start at (line_starts (at + width (ended_leaves e)) es) ≡ at
        stop [] = if_false (leb (at + width (ended_leaves e)) start) _ at t
        stop (d ∷ ds) = if_false (leb (at + width (ended_leaves e)) start) _ at t

-- the length of a document's text
pub text_length : (d : Document) → length (text d) ≡ begin d + (bytes_of d.ended + width (line_leaves d.last))
text_length d =
    let end : List Written = token leaf.End [] in
    omega (
      arith,
      width-append (bom_leaves d.bom) (flat_map ended_leaves d.ended ++ (line_leaves d.last ++ end)),
      width-append (flat_map ended_leaves d.ended) (line_leaves d.last ++ end),
      width-append (line_leaves d.last) end,
    )

pub document_split : (profile : Profile) (d : Document) (sp : Span) → IsDocument profile d → begin d ≤ sp.start
    → sp.start ≤ sp.end → sp.end ≤ length (text d)
    → Split (length (text d)) (begin d) d.ended (touched d sp).start (touched d sp).end
document_split profile d sp valid low order within =
    split sp.start sp.end (length (text d)) (begin d) d.ended (have_bytes profile d.ended valid.ended) low order within
    (omega (arith, text_length d))
