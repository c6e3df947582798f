-- New lines put into a document that leave the reading as it is: it says what it said, with what the new lines say put
-- in.
--
-- Theorems: `put_mentions`: what the lines say, with any new ones among them; `keyval_put`: a line with a keyval;
-- `rules_put`: the rules hold then, if they hold in the new run and no other mention is at or under its path.
use Rattle.std.proofs.Common.{◌≡◌, ℕ, zero, suc, ◌≤◌, false, List, [], ◌∷◌, ◌++◌, length, map, take, drop, refl, sym}
use Rattle.std.proofs.Common.{ap, subst, ◌∙◌, append_assoc, length-append, arith, Option}
use Rattle.std.proofs.lemmas.List.{map-append, append-nil, take-append-drop, length-map}
use Rattle.keep_syntax.specs.Tree.{Written, Gap, Name, Value, Content, blank, keyval, header, element, Line, Ended}
use Rattle.keep_syntax.specs.Tree.{Document}
use Rattle.keep_path.specs.Path.{Part}
use Rattle.keep_meaning.specs.Marks.{Mention, below, Reading, start}
use Rattle.keep_meaning.specs.Meaning.{keyval_mentions, line_mentions, after_line, lines_mentions, reading_after_lines}
use Rattle.keep_meaning.specs.Meaning.{line_of, lines, mentions_in}
use Rattle.keep_syntax.specs.WholeLines.{empty_line}
use Rattle.keep_edit_spec.specs.Lines.{put_lines, body_length, more_lines, new_line, newline_of}
use Rattle.keep_edit_spec.specs.Edits.{at_line}
use Rattle.keep_edit_spec.proofs.Common.Runs.{all_left, all_right, AllOf, Rules, IsDisjoint, IsUnder, rules_replaced}
use Rattle.keep_edit_spec.proofs.Common.SetLaw.{EachTo}
use Rattle.keep_edit_spec.proofs.Common.SetDocument.{page_lines}
use Rattle.keep_edit_spec.proofs.Common.LineLaws.{lines_mentions-append}

line_of_all : (es : List Ended) (fs : List Ended) → map line_of (es ++ fs) ≡ map line_of es ++ map line_of fs
line_of_all es fs = map-append line_of es fs

-- new lines before line n; where n is the number of all lines, after the last
pub put_mentions : (r : Reading) (n : ℕ) (new : List Ended) (newline : Written) (es : List Ended) (last : Line)
    → n ≤ suc (length es) → lines_mentions r (page_lines (put_lines n new newline es last).to)
    ≡ lines_mentions r (take n (map line_of es ++ last ∷ [])
    ++ (map line_of new ++ drop n (map line_of es ++ last ∷ [])))
put_mentions r zero new newline [] last h = refl
put_mentions r (suc zero) new newline [] last h =
    ap (λ l. line_mentions r last ++ l)
    (lines_mentions-append (after_line r last) (map line_of new) (empty_line ∷ [])
    ∙ append-nil (lines_mentions (after_line r last) (map line_of new))
    ∙ ap (lines_mentions (after_line r last)) (sym (append-nil (map line_of new))))
put_mentions r (suc (suc m)) new newline [] last h = absurd (let k : suc (suc m) ≤ suc 0 = h in omega (arith, k))
put_mentions r zero new newline (e ∷ es) last h =
    ap (lines_mentions r) (ap (λ l. l ++ last ∷ []) (line_of_all new (e ∷ es))
    ∙ append_assoc (map line_of new) (map line_of (e ∷ es)) (last ∷ []))
put_mentions r (suc m) new newline (e ∷ es) last h =
    ap (λ l. line_mentions r e.line ++ l)
    (put_mentions (after_line r e.line) m new newline es last
    (let k : suc m ≤ suc (suc (length es)) = h in omega (arith, k)))

-- what the new lines say is put in; they leave the reading as it is
pub record IsPut (r : Reading) (n : ℕ) (ls : List Line) (new : List Mention) (to : List Mention) : Type 0 where
  pub before : List Mention
  pub after : List Mention
  pub was : lines_mentions r ls ≡ before ++ after
  pub is : to ≡ before ++ (new ++ after)

cut_lines : (n : ℕ) (ls : List Line) → take n ls ++ drop n ls ≡ ls
cut_lines n ls = take-append-drop n ls

-- lines that leave the reading as it is, as keyvals do
pub lines_put : (n : ℕ) (new : List Ended) (newline : Written) (es : List Ended) (last : Line) → n ≤ suc (length es)
    → (let ls : List Line = map line_of es ++ last ∷ [] in
    let r : Reading = reading_after_lines start (take n ls) in
    reading_after_lines r (map line_of new) ≡ r
    → IsPut start n ls (lines_mentions r (map line_of new))
    (lines_mentions start (page_lines (put_lines n new newline es last).to)))
lines_put n new newline es last h keeps =
    let ls : List Line = map line_of es ++ last ∷ [] in
    let r : Reading = reading_after_lines start (take n ls) in
    record {
      before = lines_mentions start (take n ls);
      after = lines_mentions r (drop n ls);
      was = ap (lines_mentions start) (sym (cut_lines n ls)) ∙ lines_mentions-append start (take n ls) (drop n ls);
      is = put_mentions start n new newline es last h
          ∙ lines_mentions-append start (take n ls) (map line_of new ++ drop n ls)
          ∙ ap (λ l. lines_mentions start (take n ls) ++ l) (lines_mentions-append r (map line_of new) (drop n ls)
          ∙ ap (λ (x : Reading). lines_mentions r (map line_of new) ++ lines_mentions x (drop n ls)) keeps);
    }

-- A keyval line at line n, where the body has the path: its mentions are put in.
pub keyval_put : (s : Document) (n : ℕ) (name : Name) (v : Value) → n ≤ length (lines s)
    → EachTo (λ s'.
    IsPut start n (lines s) (map (below (reading_after_lines start (take n (lines s))).body) (keyval_mentions name v))
    (mentions_in s')) (at_line s n (keyval name v ∷ []))
keyval_put s n name v h =
    let r : Reading = reading_after_lines start (take n (lines s)) in
    let few : n ≤ suc (length s.ended) =
    omega (arith, h, length-append (map line_of s.ended) (s.last ∷ []), length-map s.ended line_of) in
    let p = lines_put n (new_line (newline_of s) (keyval name v) ∷ []) (newline_of s) s.ended s.last few refl in
    record {
      before = p.before;
      after = p.after;
      was = p.was;
      is = p.is
          ∙ ap (λ l. p.before ++ (l ++ p.after)) (append-nil (map (below r.body) (keyval_mentions name v)));
    }

-- ---- the end of a body

blank_keeps : (r : Reading) (l : Line) (ls : List Line) (k : ℕ) → after_line r l ≡ r
    → (reading_after_lines r (take k ls)).body ≡ r.body
    → (reading_after_lines r (take (more_lines false k) (l ∷ ls))).body ≡ r.body
blank_keeps r l ls zero same h = refl
blank_keeps r l ls (suc m) same h = ap (λ (x : Reading). (reading_after_lines x (take (suc m) ls)).body) same ∙ h

content_keeps : (r : Reading) (before after' : Gap) (comment : Option Written) (c : Content) (ls : List Line)
    → (reading_after_lines r (take (body_length ls) ls)).body ≡ r.body
    → (let l : Line = record { before = before; content = c; after = after'; comment = comment } in
    (reading_after_lines r (take (body_length (l ∷ ls)) (l ∷ ls))).body ≡ r.body)
content_keeps r before after' comment blank ls h =
    blank_keeps r (record { before = before; content = blank; after = after'; comment = comment }) ls (body_length ls)
    refl h
content_keeps r before after' comment (keyval name v) ls h = h
content_keeps r before after' comment (header b k a) ls h = refl
content_keeps r before after' comment (element b k a) ls h = refl

-- No line up to the last keyval of a body begins another.
pub body_keeps : (r : Reading) (ls : List Line) → (reading_after_lines r (take (body_length ls) ls)).body ≡ r.body
body_keeps r [] = refl
body_keeps r (l ∷ ls) = content_keeps r l.before l.after l.comment l.content ls (body_keeps r ls)

-- A run under a fresh path, put in: the rules hold if they hold in the run.
pub rules_put : (p : List Part) (r : Reading) (n : ℕ) (ls : List Line) (new to : List Mention)
    → (h : IsPut r n ls new to) → Rules (lines_mentions r ls)
    → AllOf (IsDisjoint p) (lines_mentions r ls) → AllOf (IsUnder p) new → Rules new → Rules to
rules_put p r n ls new to h rules disjoint under rules_new =
    let both : AllOf (IsDisjoint p) (h.before ++ h.after) =
    subst (λ (l : List Mention). AllOf (IsDisjoint p) l) h.was disjoint in
    subst Rules (sym h.is)
    (rules_replaced p h.before [] new h.after (subst Rules h.was rules) (all_left (IsDisjoint p) h.before h.after both)
    (all_right (IsDisjoint p) h.before h.after both) under rules_new)
