-- A header appended: what is said is what was said, and then what the header says from where the reading was.
--
-- Theorem: `append_law`.
use Rattle.std.proofs.Common.{◌≡◌, ℕ, suc, ◌≤◌, Bool, true, false, cond, List, [], ◌∷◌, ◌++◌, length, map, take, drop}
use Rattle.std.proofs.Common.{refl, sym, ap, subst, ◌∙◌, arith, Option}
use Rattle.std.proofs.lemmas.List.{append-nil, take-append-drop, length-map}
use Rattle.std.proofs.Math.Seq.{drop-append_seam}
use Rattle.keep_syntax.specs.Tree.{Written, Gap, Content, blank, keyval, header, element, Line, Ended, Document}
use Rattle.keep_meaning.specs.Marks.{Reading, start}
use Rattle.keep_meaning.specs.Meaning.{line_mentions, after_line, lines_mentions, reading_after_lines, line_of, lines}
use Rattle.keep_meaning.specs.Meaning.{mentions_in}
use Rattle.keep_edit_spec.specs.Lines.{is_empty, new_line, newline_of, plain_line}
use Rattle.keep_edit_spec.specs.Edits.{at_line, append}
use Rattle.keep_edit_spec.proofs.Common.SetLaw.{EachTo}
use Rattle.keep_edit_spec.proofs.Common.PutLines.{put_mentions}
use Rattle.keep_edit_spec.proofs.Common.LineLaws.{lines_mentions-append}

-- a line without leaves is blank
pub blank_by : (before after' : Gap) (comment : Option Written) (c : Content)
    → is_empty (record { before = before; content = c; after = after'; comment = comment }) ≡ true → c ≡ blank
blank_by before after' comment blank h = refl
blank_by (w ∷ g) after' comment (keyval n v) h = absurd cc
blank_by [] after' comment (keyval n v) h = absurd cc
blank_by (w ∷ g) after' comment (header b k a) h = absurd cc
blank_by [] after' comment (header b k a) h = absurd cc
blank_by (w ∷ g) after' comment (element b k a) h = absurd cc
blank_by [] after' comment (element b k a) h = absurd cc

empty_mentions : (r : Reading) (l : Line) → is_empty l ≡ true → line_mentions r l ≡ []
empty_mentions r l h =
    ap (λ (c : Content).
    line_mentions r (record { before = l.before; content = c; after = l.after; comment = l.comment }))
    (blank_by l.before l.after l.comment l.content h)

empty_reads : (r : Reading) (l : Line) → is_empty l ≡ true → after_line r l ≡ r
empty_reads r l h =
    ap (λ (c : Content). after_line r (record { before = l.before; content = c; after = l.after; comment = l.comment }))
    (blank_by l.before l.after l.comment l.content h)

-- lines put where only lines that say nothing come after
pub record IsSilent (ls : List Line) : Type 0 where
  pub kind : (r : Reading) → lines_mentions r ls ≡ []
  pub reads : (r : Reading) → reading_after_lines r ls ≡ r

pub reading_append : (r : Reading) (a b : List Line)
    → reading_after_lines r (a ++ b) ≡ reading_after_lines (reading_after_lines r a) b
reading_append r [] b = refl
reading_append r (l ∷ a) b = reading_append (after_line r l) a b

put_end : (s : Document) (n : ℕ) (contents : List Content) → n ≤ suc (length s.ended) → IsSilent (drop n (lines s))
    → EachTo (λ s'.
    mentions_in s' ≡ mentions_in s
    ++ lines_mentions (reading_after_lines start (lines s)) (map line_of (map (new_line (newline_of s)) contents)))
    (at_line s n contents)
put_end s n contents few silent =
    let ls : List Line = lines s in
    let new : List Line = map line_of (map (new_line (newline_of s)) contents) in
    let r : Reading = reading_after_lines start (take n ls) in
    let cut : ls ≡ take n ls ++ drop n ls = sym (take-append-drop n ls) in
    let same_reading : reading_after_lines start ls ≡ r =
    ap (reading_after_lines start) cut ∙ reading_append start (take n ls) (drop n ls) ∙ silent.reads r in
    let same_mentions : mentions_in s ≡ lines_mentions start (take n ls) =
    ap (lines_mentions start) cut ∙ lines_mentions-append start (take n ls) (drop n ls)
    ∙ ap (λ l. lines_mentions start (take n ls) ++ l) (silent.kind r) ∙ append-nil (lines_mentions start (take n ls)) in
    put_mentions start n (map (new_line (newline_of s)) contents) (newline_of s) s.ended s.last few
    ∙ lines_mentions-append start (take n ls) (new ++ drop n ls)
    ∙ ap (λ l. lines_mentions start (take n ls) ++ l)
    (lines_mentions-append r new (drop n ls)
    ∙ ap (λ l. lines_mentions r new ++ l) (silent.kind (reading_after_lines r new)) ∙ append-nil (lines_mentions r new))
    ∙ sym (ap (λ l. l ++ lines_mentions (reading_after_lines start ls) new) same_mentions
    ∙ ap (λ (x : Reading). lines_mentions start (take n ls) ++ lines_mentions x new) same_reading)

none_silent : IsSilent []
none_silent = record { kind = λ r. refl; reads = λ r. refl }

last_silent : (l : Line) → is_empty l ≡ true → IsSilent (l ∷ [])
last_silent l h =
    record { kind = λ r. append-nil (line_mentions r l) ∙ empty_mentions r l h; reads = λ r. empty_reads r l h }

pub drop_last : (es : List Ended) (last : Line) → drop (length es) (map line_of es ++ last ∷ []) ≡ last ∷ []
drop_last es last =
    ap (λ n. drop n (map line_of es ++ last ∷ [])) (sym (length-map es line_of))
    ∙ drop-append_seam (map line_of es) (last ∷ [])

pub drop_all : (es : List Ended) (last : Line) → drop (suc (length es)) (map line_of es ++ last ∷ []) ≡ []
drop_all [] last = refl
drop_all (e ∷ es) last = drop_all es last

-- what a header says where the reading is, with a blank line before it or not
header_mentions : (r : Reading) (newline : Written) (c : Content)
    → lines_mentions r (map line_of (map (new_line newline) (blank ∷ c ∷ []))) ≡ line_mentions r (plain_line c)
header_mentions r newline c = append-nil (line_mentions r (plain_line c))

IsAppended : Document → Content → Document → Type 0
IsAppended s c s' = mentions_in s' ≡ mentions_in s ++ line_mentions (reading_after_lines start (lines s)) (plain_line c)

appended : (s : Document) (c : Content) (n : ℕ) → n ≤ suc (length s.ended) → IsSilent (drop n (lines s))
    → EachTo (IsAppended s c) (at_line s n (blank ∷ c ∷ []))
unfolding IsAppended
appended s c n few silent =
    put_end s n (blank ∷ c ∷ []) few silent
    ∙ ap (λ l. mentions_in s ++ l) (header_mentions (reading_after_lines start (lines s)) (newline_of s) c)

appended_first : (s : Document) (c : Content) (n : ℕ) → n ≤ suc (length s.ended) → IsSilent (drop n (lines s))
    → EachTo (IsAppended s c) (at_line s n (c ∷ []))
unfolding IsAppended
appended_first s c n few silent =
    put_end s n (c ∷ []) few silent
    ∙ ap (λ l. mentions_in s ++ l) (append-nil (line_mentions (reading_after_lines start (lines s)) (plain_line c)))

append_when : (s : Document) (c : Content) (es : List Ended) → s.ended ≡ es → (b : Bool) → is_empty s.last ≡ b
    → EachTo (IsAppended s c) (elim es [
      | [] ↦ cond b (at_line s 0 (c ∷ [])) (at_line s 1 (blank ∷ c ∷ []))
      | e ∷ es ↦
          cond b (at_line s (length s.ended) (blank ∷ c ∷ [])) (at_line s (suc (length s.ended)) (blank ∷ c ∷ []))
    ])
append_when s c [] e true h =
    appended_first s c 0 (omega arith)
    (subst (λ (x : List Ended). IsSilent (map line_of x ++ s.last ∷ [])) (sym e) (last_silent s.last h))
append_when s c [] e false h =
    appended s c 1 (omega arith) (subst (λ (x : List Ended). IsSilent (drop 1 (map line_of x ++ s.last ∷ []))) (sym e)
    none_silent)
append_when s c (x ∷ xs) e true h =
    appended s c (length s.ended) (omega arith) (subst IsSilent (sym (drop_last s.ended s.last)) (last_silent s.last h))
append_when s c (x ∷ xs) e false h =
    appended s c (suc (length s.ended)) (omega arith) (subst IsSilent (sym (drop_all s.ended s.last)) none_silent)

-- An append adds what its header says at the end.
pub append_law : (s : Document) (c : Content)
    → EachTo (λ s'.
    mentions_in s' ≡ mentions_in s ++ line_mentions (reading_after_lines start (lines s)) (plain_line c)) (append s c)
unfolding IsAppended
append_law s c = append_when s c s.ended refl (is_empty s.last) refl
