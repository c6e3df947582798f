-- A change of lines replaces the lines that it touches.
--
-- `Swaps` says so of a page, the lines of a document, by the places where the change begins and ends. If it holds of a
-- page, it holds of that page with one more line before it (`swaps_step`, `swaps_framed`): the touched lines stay the
-- same ones. So each change comes down to the first line that it touches: lines put in (`swaps_put`), lines taken out
-- (`swaps_drop`, by `Leads`, which says what is left after them), one line changed (`swaps_lines`). A line's change has
-- to begin after the line's first byte or to take a byte (`IsSolid`). Else the first line start at or after its end
-- would be the start of that line.
--
-- Theorems: `swaps_put`, `swaps_drop` and `swaps_lines`: lines put in, lines taken out, and a change inside one line.
use Rattle.std.proofs.Common.{◌≡◌, ℕ, zero, suc, ◌+◌, ◌<◌, ◌≤◌, Bool, true, false, List, [], ◌∷◌, ◌++◌, length, refl}
use Rattle.std.proofs.Common.{sym, ap, subst, ◌∙◌, arith, append_assoc, Option, Some, None, inl, inr, ◌⊎◌}
use Rattle.std.specs.Prelude.{⊤, ltb, leb, if◌then◌else◌}
use Rattle.std.proofs.Common.{le-leb, le-ltb, ltb-false}
use Rattle.std.proofs.lemmas.Bool.{lt-leb}
use Rattle.std.specs.List.{flat_map, AllByRecursion}
use Rattle.std.proofs.lemmas.List.{append-nil, length-append}
use Rattle.keep_syntax.specs.Tree.{Written, Line, Ended, line_leaves, ended_leaves, text_of}
use Rattle.keep_syntax.proofs.Shared.{text_of-append, line_of, next_of, HaveBytes, line_low, next_high, line_step}
use Rattle.keep_syntax.proofs.Shared.{next_step, before_step, from_step, none_before, all_from}
use Rattle.keep_syntax.specs.Numbered.{width}
use Rattle.keep_syntax_store.proofs.Shared.{if_true, if_false}
use Rattle.keep_edit_spec.specs.Changed.{Changed, IsChangeOf, framed_change, within, or_else}
use Rattle.keep_edit_spec.proofs.Common.Texts.{EachIs}
use Rattle.keep_meaning.specs.Marks.{Reading}
use Rattle.keep_meaning.specs.Meaning.{after_line}
use Rattle.keep_edit_spec.proofs.Common.LineTexts.{put_lines-is, drop_prefix-is, drop_lines-is, in_lines-is}
use Rattle.keep_edit_spec.specs.Lines.{Page, page_text, line_text, ended_text, put_lines, drop_prefix, drop_lines}
use Rattle.keep_edit_spec.specs.Lines.{in_lines}
use Rattle.keep_syntax.specs.WholeLines.{empty_line, line_starts, last_to, lines_before, lines_from}

-- The page is that of these lines with those that start..end touches replaced: by lines that have newlines, and by
-- another last line if no bytes follow.
pub record Swaps (total at : ℕ) (es : List Ended) (last : Line) (start end : ℕ) (to : Page) : Type 0 where
  pub new : List Ended
  pub line : Line
  pub ended : to.ended ≡ lines_before (line_of start at es) at es ++ (new ++ lines_from (next_of end total at es) at es)
  pub last_is : to.last ≡ (if ltb (next_of end total at es) total then last else line)
  pub closed : (line ≡ empty_line) ⊎ (next_of end total at es ≡ total)

-- ---- a change after the first line

pub swaps_step : (total at : ℕ) (e : Ended) (es : List Ended) (last : Line) (start end : ℕ) (to : Page)
    → 0 < width (ended_leaves e) → at + width (ended_leaves e) ≤ start → start ≤ end → end ≤ total
    → Swaps total (at + width (ended_leaves e)) es last start end to
    → Swaps total at (e ∷ es) last start end (record { ended = e ∷ to.ended; last = to.last })
swaps_step total at e es last start end to some there order within s =
    let b : ℕ = at + width (ended_leaves e) in
    let p : ℕ = line_of start b es in
    let o : ℕ = next_of end total b es in
    let ep : line_of start at (e ∷ es) ≡ p = line_step start at e es there in
    let eo : next_of end total at (e ∷ es) ≡ o = next_step end total at e es (omega (arith, there, order, some)) in
    let lp : at < p = omega (arith, some, line_low start b b es (omega arith)) in
    let lo : at < o = omega (arith, some, there, order, next_high end total b es within) in
    let prefix : lines_before (line_of start at (e ∷ es)) at (e ∷ es) ≡ e ∷ lines_before p b es =
    ap (λ n. lines_before n at (e ∷ es)) ep ∙ before_step p at e es lp in
    let back : lines_from (next_of end total at (e ∷ es)) at (e ∷ es) ≡ lines_from o b es =
    ap (λ n. lines_from n at (e ∷ es)) eo ∙ from_step o at e es lo in
    record {
      new = s.new;
      line = s.line;
      ended = ap (λ xs. e ∷ xs) s.ended
          ∙ sym (ap (λ xs. xs ++ (s.new ++ lines_from (next_of end total at (e ∷ es)) at (e ∷ es))) prefix
          ∙ ap (λ xs. e ∷ (lines_before p b es ++ (s.new ++ xs))) back);
      last_is = s.last_is ∙ sym (ap (λ n. if ltb n total then last else s.line) eo);
      closed = elim s.closed [ inl h ↦ inl h | inr h ↦ inr (eo ∙ h) ];
    }

-- ---- changes of pages

pub page_cons : (e : Ended) (es : List Ended) (last : Line)
    → page_text (record { ended = e ∷ es; last = last }) ≡ text_of (ended_leaves e)
    ++ page_text (record { ended = es; last = last })
page_cons e es last =
    ap (λ t. t ++ line_text last) (text_of-append (ended_leaves e) (flat_map ended_leaves es))
    ∙ append_assoc (text_of (ended_leaves e)) (ended_text es) (line_text last)

-- the change replaces the lines that its place touches
abbrev pub SwapsBy : ℕ → ℕ → List Ended → Line → Changed Page → Type 0
SwapsBy total at es last c = Swaps total at es last (at + length c.before) (at + length c.before + length c.old) c.to

swaps_at : (total at : ℕ) (es : List Ended) (last : Line) (to : Page) (s s' t t' : ℕ) → s ≡ s' → t ≡ t'
    → Swaps total at es last s t to → Swaps total at es last s' t' to
swaps_at total at es last to s s' t t' a b h =
    subst (λ n. Swaps total at es last s' n to) b (subst (λ n. Swaps total at es last n t to) a h)

abbrev pub FillPage : ℕ → ℕ → List Ended → Line → Type 0
FillPage total at es last = total ≡ at + length (page_text (record { ended = es; last = last }))

pub fill_rest : (total at : ℕ) (e : Ended) (es : List Ended) (last : Line) → FillPage total at (e ∷ es) last
    → FillPage total (at + width (ended_leaves e)) es last
fill_rest total at e es last h =
    omega (
      arith,
      h,
      ap length (page_cons e es last),
      length-append (text_of (ended_leaves e)) (page_text (record { ended = es; last = last })),
    )

swaps_framed : (total at : ℕ) (e : Ended) (es : List Ended) (last : Line) (c : Changed Page)
    → 0 < width (ended_leaves e) → FillPage total at (e ∷ es) last
    → IsChangeOf page_text (record { ended = es; last = last }) c
    → SwapsBy total (at + width (ended_leaves e)) es last c
    → SwapsBy total at (e ∷ es) last
    (framed_change (λ b. record { ended = e ∷ b.ended; last = b.last }) (text_of (ended_leaves e)) [] c)
swaps_framed total at e es last c some fills h s =
    let b : ℕ = at + width (ended_leaves e) in
    let n : length (text_of (ended_leaves e) ++ c.before) ≡ width (ended_leaves e) + length c.before =
    length-append (text_of (ended_leaves e)) c.before in
    let f : total ≡ b + length (page_text (record { ended = es; last = last })) = fill_rest total at e es last fills in
    let w : length (page_text (record { ended = es; last = last })) ≡ length c.before + length (c.old ++ c.after) =
    ap length h.was ∙ length-append c.before (c.old ++ c.after) in
    swaps_at total at (e ∷ es) last _ (b + length c.before) (at + length (text_of (ended_leaves e) ++ c.before))
    (b + length c.before + length c.old) (at + length (text_of (ended_leaves e) ++ c.before) + length c.old)
    (omega (arith, n)) (omega (arith, n))
    (swaps_step total at e es last (b + length c.before) (b + length c.before + length c.old) c.to some (omega arith)
    (omega arith) (omega (arith, f, w, length-append c.old c.after)) s)

-- ---- lines put in

pub line_here : (at : ℕ) (es : List Ended) → HaveBytes es → line_of at at es ≡ at
line_here at [] h = if_true (leb at at) at at (le-leb at at (omega arith))
line_here at (e ∷ es) h = if_true (leb at at) _ at (le-leb at at (omega arith)) ∙ next es
  where
    next : (es : List Ended) → last_to at at (line_starts (at + width (ended_leaves e)) es) ≡ at
    next [] =
        if_false (leb (at + width (ended_leaves e)) at)
        _ at (lt-leb (at + width (ended_leaves e)) at (omega (arith, h.0)))
    next (d ∷ ds) =
        if_false (leb (at + width (ended_leaves e)) at)
        _ at (lt-leb (at + width (ended_leaves e)) at (omega (arith, h.0)))

next_here : (total at : ℕ) (es : List Ended) → next_of at total at es ≡ at
next_here total at [] = if_true (leb at at) at total (le-leb at at (omega arith))
next_here total at (e ∷ es) = if_true (leb at at) at _ (le-leb at at (omega arith))

-- The last line is kept. It counts as kept if bytes follow the place `o`, else as replaced by itself.
record Stays (total o : ℕ) (last : Line) : Type 0 where
  line : Line
  is : last ≡ (if ltb o total then last else line)
  closed : (line ≡ empty_line) ⊎ (o ≡ total)

stays : (total o : ℕ) (last : Line) → o ≤ total → Stays total o last
stays total o last h = by (ltb o total) refl
  where
    by : (b : Bool) → ltb o total ≡ b → Stays total o last
    by true t = record { line = empty_line; is = sym (if_true (ltb o total) last empty_line t); closed = inl refl }
    by false t =
        record {
          line = last;
          is = sym (if_false (ltb o total) last last t);
          closed = inr (omega (arith, h, ltb-false o total t));
        }

-- what begins at the start of these lines and takes none of them
swaps_here : (total at : ℕ) (es : List Ended) (last : Line) (new : List Ended) → HaveBytes es → at ≤ total
    → Swaps total at es last at at (record { ended = new ++ es; last = last })
swaps_here total at es last new h within =
    let s : Stays total at last = stays total at last within in
    let p : line_of at at es ≡ at = line_here at es h in
    let o : next_of at total at es ≡ at = next_here total at es in
    record {
      new = new;
      line = s.line;
      ended = sym (ap (λ n. lines_before n at es ++ (new ++ lines_from (next_of at total at es) at es)) p
          ∙ ap (λ n. lines_before at at es ++ (new ++ lines_from n at es)) o
          ∙ ap (λ xs. xs ++ (new ++ lines_from at at es)) (none_before at es) ∙ ap (λ xs. new ++ xs) (all_from at es));
      last_is = s.is ∙ sym (ap (λ n. if ltb n total then last else s.line) o);
      closed = elim s.closed [ inl k ↦ inl k | inr k ↦ inr (o ∙ k) ];
    }

pub swaps_put : (total at n : ℕ) (new : List Ended) (newline : Written) (es : List Ended) (last : Line) → HaveBytes es
    → FillPage total at es last → SwapsBy total at es last (put_lines n new newline es last)
swaps_put total at zero new newline [] last h fills =
    swaps_at total at [] last _ at (at + 0) at (at + 0 + 0) (omega arith) (omega arith)
    (subst (λ xs. Swaps total at [] last at at (record { ended = xs; last = last })) (append-nil new)
    (swaps_here total at [] last new h (omega (arith, fills))))
swaps_put total at (suc m) new newline [] last h fills =
    let end : at + length (line_text last) ≡ total = omega (arith, fills) in
    swaps_at total at [] last _ total (at + length (line_text last)) total (at + length (line_text last) + 0) (sym end)
    (omega (arith, end))
    (record {
      new = record { line = last; newline = newline } ∷ new;
      line = empty_line;
      ended = sym (append-nil _);
      last_is =
          sym (if_false (ltb (next_of total total at []) total) last empty_line
          (le-ltb (next_of total total at []) total (next_high total total at [] (omega arith))));
      closed = inl refl;
    })
swaps_put total at zero new newline (e ∷ es) last h fills =
    swaps_at total at (e ∷ es) last _ at (at + 0) at (at + 0 + 0) (omega arith) (omega arith)
    (swaps_here total at (e ∷ es) last new h (omega (arith, fills)))
swaps_put total at (suc m) new newline (e ∷ es) last h fills =
    swaps_framed total at e es last (put_lines m new newline es last) h.0 fills (put_lines-is m new newline es last)
    (swaps_put total (at + width (ended_leaves e)) m new newline es last h.1 (fill_rest total at e es last fills))

-- ---- lines gone

-- what is left after lines that are taken out, the last of which ended at `end`
record Leads (total at : ℕ) (es : List Ended) (last : Line) (end : ℕ) (to : Page) : Type 0 where
  line : Line
  ended : to.ended ≡ lines_from (next_of end total at es) at es
  last_is : to.last ≡ (if ltb (next_of end total at es) total then last else line)
  closed : (line ≡ empty_line) ⊎ (next_of end total at es ≡ total)

leads_at : (total at : ℕ) (es : List Ended) (last : Line) (to : Page) (t t' : ℕ) → t ≡ t' → Leads total at es last t to
    → Leads total at es last t' to
leads_at total at es last to t t' b h = subst (λ n. Leads total at es last n to) b h

leads_here : (total at : ℕ) (es : List Ended) (last : Line) → at ≤ total
    → Leads total at es last at (record { ended = es; last = last })
leads_here total at es last within =
    let s : Stays total at last = stays total at last within in
    let o : next_of at total at es ≡ at = next_here total at es in
    record {
      line = s.line;
      ended = sym (ap (λ n. lines_from n at es) o ∙ all_from at es);
      last_is = s.is ∙ sym (ap (λ n. if ltb n total then last else s.line) o);
      closed = elim s.closed [ inl k ↦ inl k | inr k ↦ inr (o ∙ k) ];
    }

leads_prefix : (total at n : ℕ) (es : List Ended) (last : Line) → HaveBytes es → FillPage total at es last
    → Leads total at es last (at + length (drop_prefix n es last).old) (drop_prefix n es last).to
leads_prefix total at zero [] last h fills =
    leads_at total at [] last _ at (at + 0) (omega arith) (leads_here total at [] last (omega (arith, fills)))
leads_prefix total at (suc m) [] last h fills =
    leads_at total at [] last _ total (at + length (line_text last)) (omega (arith, fills))
    (record {
      line = empty_line;
      ended = refl;
      last_is =
          sym (if_false (ltb (next_of total total at []) total) last empty_line
          (le-ltb (next_of total total at []) total (next_high total total at [] (omega arith))));
      closed = inl refl;
    })
leads_prefix total at zero (e ∷ es) last h fills =
    leads_at total at (e ∷ es) last _ at (at + 0) (omega arith)
    (leads_here total at (e ∷ es) last (omega (arith, fills)))
leads_prefix total at (suc m) (e ∷ es) last h fills =
    let b : ℕ = at + width (ended_leaves e) in
    let c : Changed Page = drop_prefix m es last in
    let end : ℕ = b + length c.old in
    let g : Leads total b es last end c.to = leads_prefix total b m es last h.1 (fill_rest total at e es last fills) in
    let was : page_text (record { ended = es; last = last }) ≡ c.before ++ (c.old ++ c.after) =
    (drop_prefix-is m es last).0.was in
    let within : end ≤ total =
    omega (
      arith,
      fill_rest total at e es last fills,
      ap length was,
      length-append c.before (c.old ++ c.after),
      length-append c.old c.after,
    ) in
    let o : next_of end total at (e ∷ es) ≡ next_of end total b es = next_step end total at e es (omega (arith, h.0)) in
    let high : at < next_of end total b es = omega (arith, h.0, next_high end total b es within) in
    leads_at total at (e ∷ es) last _ end (at + length (text_of (ended_leaves e) ++ c.old))
    (omega (arith, length-append (text_of (ended_leaves e)) c.old))
    (record {
      line = g.line;
      ended = g.ended ∙ sym (ap (λ n. lines_from n at (e ∷ es)) o ∙ from_step (next_of end total b es) at e es high);
      last_is = g.last_is ∙ sym (ap (λ n. if ltb n total then last else g.line) o);
      closed = elim g.closed [ inl k ↦ inl k | inr k ↦ inr (o ∙ k) ];
    })

swaps_prefix : (total at n : ℕ) (es : List Ended) (last : Line) → HaveBytes es → FillPage total at es last
    → SwapsBy total at es last (drop_prefix n es last)
swaps_prefix total at n es last h fills =
    let c : Changed Page = drop_prefix n es last in
    let g = leads_prefix total at n es last h fills in
    let s : at ≡ at + length c.before = omega (arith, ap length (drop_prefix-is n es last).1) in
    swaps_at total at es last c.to at (at + length c.before) (at + length c.old) (at + length c.before + length c.old) s
    (omega (arith, ap length (drop_prefix-is n es last).1))
    (record {
      new = [];
      line = g.line;
      ended = g.ended
          ∙ sym (ap (λ n. lines_before n at es ++ lines_from (next_of (at + length c.old) total at es) at es)
          (line_here at es h)
          ∙ ap (λ xs. xs ++ lines_from (next_of (at + length c.old) total at es) at es) (none_before at es));
      last_is = g.last_is;
      closed = g.closed;
    })

pub swaps_drop : (total at i n : ℕ) (es : List Ended) (last : Line) → HaveBytes es → FillPage total at es last
    → SwapsBy total at es last (drop_lines i n es last)
swaps_drop total at i n [] last h fills = swaps_prefix total at n [] last h fills
swaps_drop total at zero n (e ∷ es) last h fills = swaps_prefix total at n (e ∷ es) last h fills
swaps_drop total at (suc j) n (e ∷ es) last h fills =
    swaps_framed total at e es last (drop_lines j n es last) h.0 fills (drop_lines-is j n es last)
    (swaps_drop total (at + width (ended_leaves e)) j n es last h.1 (fill_rest total at e es last fills))

-- ---- one line changed

-- The change is of the line, and not before its first byte.
pub record IsSolid (l : Line) (c : Changed Line) : Type 0 where
  pub is : IsChangeOf line_text l c
  pub some : 0 < length c.before + length c.old

abbrev pub EachSolid : Line → Option (Changed Line) → Type 0
EachSolid l None = ⊤
EachSolid l (Some c) = IsSolid l c

abbrev pub EachSwaps : ℕ → ℕ → List Ended → Line → Option (Changed Page) → Type 0
EachSwaps total at es last None = ⊤
EachSwaps total at es last (Some c) = SwapsBy total at es last c

-- each line that ends has a newline with bytes
abbrev pub HaveNewlines : List Ended → Type 0
HaveNewlines [] = ⊤
HaveNewlines (e ∷ es) = (0 < length e.newline.text) × HaveNewlines es

ended_width : (e : Ended) → width (ended_leaves e) ≡ length (line_text e.line) + length e.newline.text
ended_width e =
    ap length (text_of-append (line_leaves e.line) (e.newline ∷ []))
    ∙ length-append (line_text e.line) (e.newline.text ++ [])
    ∙ ap (λ n. length (line_text e.line) + n) (ap length (append-nil e.newline.text))

pub have_bytes : (es : List Ended) → HaveNewlines es → HaveBytes es
have_bytes [] h = tt
have_bytes (e ∷ es) h = (omega (arith, h.0, ended_width e), have_bytes es h.1)

line_size : (l : Line) (c : Changed Line) → IsSolid l c
    → length (line_text l) ≡ length c.before + (length c.old + length c.after)
line_size l c h =
    ap length h.is.was ∙ length-append c.before (c.old ++ c.after)
    ∙ ap (λ n. length c.before + n) (length-append c.old c.after)

-- the first of these lines is changed
swaps_first : (total at : ℕ) (e : Ended) (es : List Ended) (last : Line) (c : Changed Line) → HaveNewlines (e ∷ es)
    → FillPage total at (e ∷ es) last → IsSolid e.line c
    → Swaps total at (e ∷ es) last (at + length c.before) (at + length c.before + length c.old)
    (record { ended = record { line = c.to; newline = e.newline } ∷ es; last = last })
swaps_first total at e es last c h fills solid =
    let b : ℕ = at + width (ended_leaves e) in
    let start : ℕ = at + length c.before in
    let end : ℕ = start + length c.old in
    let size : width (ended_leaves e) ≡ length c.before + (length c.old + length c.after) + length e.newline.text =
    ended_width e ∙ ap (λ n. n + length e.newline.text) (line_size e.line c solid) in
    let low : start < b = omega (arith, size, h.0) in
    let high : end ≤ b = omega (arith, size) in
    let past : at < end = omega (arith, solid.some) in
    let p : line_of start at (e ∷ es) ≡ at =
    if_true (leb at start) _ at (le-leb at start (omega arith)) ∙ stop es start b low in
    let o : next_of end total at (e ∷ es) ≡ b = next_step end total at e es past ∙ here es end b high in
    let s : Stays total b last = stays total b last (omega (arith, fill_rest total at e es last fills)) in
    let back : lines_from b at (e ∷ es) ≡ es = from_step b at e es (omega (arith, past, high)) ∙ all_from b es in
    record {
      new = record { line = c.to; newline = e.newline } ∷ [];
      line = s.line;
      ended = sym (ap (λ n.
          lines_before n at (e ∷ es) ++ (record { line = c.to; newline = e.newline }
          ∷ lines_from (next_of end total at (e ∷ es)) at (e ∷ es))) p
          ∙ ap (λ xs.
          xs ++ (record { line = c.to; newline = e.newline } ∷ lines_from (next_of end total at (e ∷ es)) at (e ∷ es)))
          (none_before at (e ∷ es))
          ∙ ap (λ n. record { line = c.to; newline = e.newline } ∷ lines_from n at (e ∷ es)) o
          ∙ ap (λ xs. record { line = c.to; newline = e.newline } ∷ xs) back);
      last_is = s.is ∙ sym (ap (λ n. if ltb n total then last else s.line) o);
      closed = elim s.closed [ inl k ↦ inl k | inr k ↦ inr (o ∙ k) ];
    }
  where
    stop : (es : List Ended) (start b : ℕ) → start < b → last_to start at (line_starts b es) ≡ at
    stop [] start b l = if_false (leb b start) _ at (lt-leb b start l)
    stop (d ∷ ds) start b l = if_false (leb b start) _ at (lt-leb b start l)

    here : (es : List Ended) (end b : ℕ) → end ≤ b → next_of end total b es ≡ b
    here [] end b l = if_true (leb end b) b _ (le-leb end b l)
    here (d ∷ ds) end b l = if_true (leb end b) b _ (le-leb end b l)

-- the last line is changed
swaps_last : (total at : ℕ) (last : Line) (c : Changed Line) → FillPage total at [] last → IsSolid last c
    → Swaps total at [] last (at + length c.before) (at + length c.before + length c.old)
    (record { ended = []; last = c.to })
swaps_last total at last c fills solid =
    let end : ℕ = at + length c.before + length c.old in
    let o : next_of end total at [] ≡ total =
    if_false (leb end at) at total (lt-leb end at (omega (arith, solid.some))) in
    record {
      new = [];
      line = c.to;
      ended = refl;
      last_is =
          sym (ap (λ n. if ltb n total then last else c.to) o
          ∙ if_false (ltb total total) last c.to (le-ltb total total (omega arith)));
      closed = inr o;
    }

pub swaps_lines : (Good : Line → Type 0) (f : Reading → Line → Option (Changed Line))
    → ((r : Reading) (l : Line) → EachIs line_text l (f r l))
    → ((r : Reading) (l : Line) → Good l → EachSolid l (f r l))
    → (total at : ℕ) (r : Reading) (es : List Ended) (last : Line) → AllByRecursion (λ e. Good e.line) es → Good last
    → HaveNewlines es → FillPage total at es last → EachSwaps total at es last (in_lines f r es last)
swaps_lines Good f is solid total at r [] last good good_last h fills = by (f r last) (solid r last good_last)
  where
    by : (o : Option (Changed Line)) → EachSolid last o
        → EachSwaps total at [] last (within (λ l. record { ended = []; last = l }) [] [] o)
    by None s = tt
    by (Some c) s = swaps_last total at last c fills s
swaps_lines Good f is solid total at r (e ∷ es) last good good_last h fills =
    by (f r e.line) (solid r e.line good.0) (in_lines f (after_line r e.line) es last)
    (in_lines-is f is (after_line r e.line) es last)
    (swaps_lines Good f is solid total (at + width (ended_leaves e)) (after_line r e.line) es last good.1 good_last h.1
    (fill_rest total at e es last fills))
  where
    rest : (o : Option (Changed Page)) → EachIs page_text (record { ended = es; last = last }) o
        → EachSwaps total (at + width (ended_leaves e)) es last o
        → EachSwaps total at (e ∷ es) last
        (within (λ b. record { ended = e ∷ b.ended; last = b.last }) (text_of (ended_leaves e)) [] o)
    rest None i s = tt
    rest (Some c) i s = swaps_framed total at e es last c (have_bytes (e ∷ es) h).0 fills i s

    by : (o : Option (Changed Line)) → EachSolid e.line o → (more : Option (Changed Page))
        → EachIs page_text (record { ended = es; last = last }) more
        → EachSwaps total (at + width (ended_leaves e)) es last more
        → EachSwaps total at (e ∷ es) last
        (or_else (within (λ l. record { ended = record { line = l; newline = e.newline } ∷ es; last = last }) []
        (e.newline.text ++ page_text (record { ended = es; last = last })) o)
        (within (λ b. record { ended = e ∷ b.ended; last = b.last }) (text_of (ended_leaves e)) [] more))
    by None s more i k = rest more i k
    by (Some c) s more i k = swaps_first total at e es last c h fills s
