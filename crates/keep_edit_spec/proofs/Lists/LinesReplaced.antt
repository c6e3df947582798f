-- A change of one line: what is known of the lines by it.
--
-- The change is in one line, and all others stay. Where the line is read as before, and passes a test as before, the
-- last line that passes is the same (`last_stays`); and where nothing could be done with any line, nothing can be now
-- (`none_stays`). A change in a value replaces the content of its line by a keyval of the same name (`value_line`).
-- Where a remove finds no comment to keep in a line, it finds none in one that is alike (`clear_alike`).
--
-- Theorems: `last_stays`, `none_stays`, `value_line`, `clear_alike`.
use Rattle.std.proofs.Common.{◌≡◌, ℕ, Bool, true, false, List, [], ◌∷◌, ◌++◌, map, refl, ap, ap₂, ◌∙◌, Option}
use Rattle.std.proofs.Common.{Some, None}
use Rattle.keep_syntax.specs.Tree.{Content, Ended, Line, Name, Value, blank, comment_leaves, element, ended_leaves}
use Rattle.keep_syntax.specs.Tree.{Written, header, keyval, name_leaves, text_of}
use Rattle.keep_path.specs.Path.{Part}
use Rattle.keep_meaning.specs.Marks.{Reading}
use Rattle.keep_meaning.specs.Meaning.{after_line, line_of, step}
use Rattle.keep_edit_spec.specs.Look.{strip}
use Rattle.keep_edit_spec.specs.Changed.{Changed, or_else, within}
use Rattle.keep_edit_spec.specs.Values.{Act, in_value}
use Rattle.keep_edit_spec.specs.Edits.{clear_line, is_own}
use Rattle.keep_edit_spec.specs.Lines.{Page, in_content, in_line, in_lines, last_line, page_text}
use Rattle.keep_edit_spec.proofs.Common.LineTexts.{cleared}
use Rattle.keep_edit_spec.proofs.Common.SetLaw.{EachTo, to_or_else, to_within}
use Rattle.keep_edit_spec.proofs.Lists.RemovedOwn.{IsNone, last_or, none_parts, within_none}

-- a page with one more line before it
abbrev with_first : Ended → Page → Page
with_first e b = record { ended = e ∷ b.ended; last = b.last }

-- a page with another first line
abbrev with_line : Ended → List Ended → Line → Line → Page
with_line e es last l = record { ended = record { line = l; newline = e.newline } ∷ es; last = last }

-- what comes after the first line
abbrev text_after : Ended → List Ended → Line → List ℕ
text_after e es last = e.newline.text ++ page_text (record { ended = es; last = last })

module _ (f : Reading → Line → Option (Changed Line)) where
  -- ---- the lines that pass a test

  -- The changed line is read as before, and passes the test as before.
  pub last_stays : (test : Reading → Line → Bool)
      → ((r : Reading) (l : Line)
      → EachTo (λ y. (after_line r y ≡ after_line r l) × (test r y ≡ test r l)) (f r l))
      → (r : Reading) (es : List Ended) (last : Line)
      → EachTo (λ (b : Page). last_line test r (map line_of b.ended ++ b.last ∷ [])
      ≡ last_line test r (map line_of es ++ last ∷ [])) (in_lines f r es last)
  last_stays test same r [] last =
      to_within (λ y. (after_line r y ≡ after_line r last) × (test r y ≡ test r last))
      (λ (b : Page). last_line test r (map line_of b.ended ++ b.last ∷ []) ≡ last_line test r (last ∷ []))
      (λ l. record { ended = []; last = l }) [] [] (f r last)
      (λ y h. ap (λ (b : Bool). last_or b None) h.1) (same r last)
  last_stays test same r (e ∷ es) last =
      let ls : List Line = map line_of es ++ last ∷ [] in
      let after : Option (Changed Page) = in_lines f (after_line r e.line) es last in
      to_or_else (λ (b : Page). last_line test r (map line_of b.ended ++ b.last ∷ []) ≡ last_line test r (e.line ∷ ls))
      (within (with_line e es last) [] (text_after e es last) (f r e.line))
      (within (with_first e) (text_of (ended_leaves e)) [] after)
      (to_within (λ y. (after_line r y ≡ after_line r e.line) × (test r y ≡ test r e.line))
      (λ (b : Page). last_line test r (map line_of b.ended ++ b.last ∷ []) ≡ last_line test r (e.line ∷ ls))
      (with_line e es last) [] (text_after e es last) (f r e.line)
      (λ y h. ap₂ (λ (b : Bool) (x : Reading). last_or b (last_line test x ls)) h.1 h.0) (same r e.line))
      (to_within (λ (b : Page). last_line test (after_line r e.line) (map line_of b.ended ++ b.last ∷ [])
      ≡ last_line test (after_line r e.line) ls)
      (λ (b : Page). last_line test r (map line_of b.ended ++ b.last ∷ []) ≡ last_line test r (e.line ∷ ls))
      (with_first e) (text_of (ended_leaves e)) [] after (λ b h. ap (last_or (test r e.line)) h)
      (last_stays test same (after_line r e.line) es last))

  -- ---- the lines that can be changed

  -- Where the line could not be changed so, the changed line can't, and it is read as before.
  pub none_stays : (g : Reading → Line → Option (Changed Line))
      → ((r : Reading) (l : Line)
      → EachTo (λ y. (after_line r y ≡ after_line r l) × (g r l ≡ None → g r y ≡ None)) (f r l))
      → (r : Reading) (es : List Ended) (last : Line) → in_lines g r es last ≡ None
      → EachTo (λ (b : Page). in_lines g r b.ended b.last ≡ None) (in_lines f r es last)
  none_stays g same r [] last none =
      to_within (λ y. (after_line r y ≡ after_line r last) × (g r last ≡ None → g r y ≡ None))
      (λ (b : Page). in_lines g r b.ended b.last ≡ None) (λ l. record { ended = []; last = l }) [] [] (f r last)
      (λ y h. ap (λ (o : Option (Changed Line)). within (λ l. record { ended = []; last = l }) [] [] o)
      (h.1 (within_none (λ l. record { ended = []; last = l }) [] [] (g r last) none))) (same r last)
  none_stays g same r (e ∷ es) last none =
      let next : Reading = after_line r e.line in
      let after : Option (Changed Page) = in_lines f next es last in
      let p : IsNone g last r e es = none_parts g last r e es none in
      to_or_else (λ (b : Page). in_lines g r b.ended b.last ≡ None)
      (within (with_line e es last) [] (text_after e es last) (f r e.line))
      (within (with_first e) (text_of (ended_leaves e)) [] after)
      (to_within (λ y. (after_line r y ≡ next) × (g r e.line ≡ None → g r y ≡ None))
      (λ (b : Page). in_lines g r b.ended b.last ≡ None) (with_line e es last) [] (text_after e es last) (f r e.line)
      (λ y h.
      (let now : Ended = record { line = y; newline = e.newline } in
      ap₂ (λ (o : Option (Changed Line)) (x : Reading). either now es last o (in_lines g x es last)) (h.1 p.here) h.0
      ∙ ap (either now es last None) p.later)) (same r e.line))
      (to_within (λ (b : Page). in_lines g next b.ended b.last ≡ None)
      (λ (b : Page). in_lines g r b.ended b.last ≡ None) (with_first e) (text_of (ended_leaves e)) [] after
      (λ b h. ap₂ (λ (o : Option (Changed Line)) (q : Option (Changed Page)). either e b.ended b.last o q) p.here h)
      (none_stays g same next es last p.later))
    where
      -- of the first line, or of the later ones
      either : Ended → List Ended → Line → Option (Changed Line) → Option (Changed Page) → Option (Changed Page)
      either e es last o q =
          or_else (within (with_line e es last) [] (text_after e es last) o)
          (within (with_first e) (text_of (ended_leaves e)) [] q)

-- ---- a change in a value

-- What holds of each line with another value in its keyval holds of the changed line.
pub value_line : (act : Act) (path : List Part) (r : Reading) (l : Line) (P : Line → Type 0)
    → ((name : Name) (old new : Value) → l.content ≡ keyval name old → P (record l { content = keyval name new }))
    → EachTo P (in_line act path r l)
value_line act path r l P h =
    to_within (λ (c : Content). P (record l { content = c })) P (λ c. record l { content = c }) (text_of l.before)
    (text_of l.after ++ text_of (comment_leaves l.comment)) (in_content act r.body path l.content) (λ y k. k)
    (of_content l.content refl)
  where
    of_value : (name : Name) (old : Value) → l.content ≡ keyval name old → (o : Option (Changed Value))
        → EachTo (λ (c : Content). P (record l { content = c }))
        (within (keyval name) (text_of (name_leaves name)) [] o)
    of_value name old e None = tt
    of_value name old e (Some c) = h name old c.to e

    by : (name : Name) (old : Value) → l.content ≡ keyval name old → (o : Option (List Part))
        → EachTo {A = Content} (λ c. P (record l { content = c })) (elim o [
          | None ↦ None
          | Some more ↦ within (keyval name) (text_of (name_leaves name)) [] (in_value act more old)
        ])
    by name old e None = tt
    by name old e (Some more) = of_value name old e (in_value act more old)

    of_content : (c : Content) → l.content ≡ c
        → EachTo (λ (y : Content). P (record l { content = y })) (in_content act r.body path c)
    of_content blank e = tt
    of_content (header before k after) e = tt
    of_content (element before k after) e = tt
    of_content (keyval name value) e = by name value e (strip (r.body ++ step 0 (Some name)) path)

-- ---- the comment of a line whose value is removed

-- what a remove of a value with a line of its own makes of a line
abbrev pub cleared_by : Line → Option Written → Bool → Option (Changed Line)
cleared_by l o b = elim o [ None ↦ None | Some c ↦ elim b [ false ↦ None | true ↦ Some (cleared l c) ] ]

none_by : (l l' : Line) (o : Option Written) (b : Bool) → cleared_by l o b ≡ None → cleared_by l' o b ≡ None
none_by l l' None b e = refl
none_by l l' (Some c) false e = refl
none_by l l' (Some c) true e = absurd cc

-- both are the other path's own or neither is, with the same comment
pub record IsAlike (other : List Part) (r r' : Reading) (l l' : Line) : Type 0 where
  pub own : is_own other r' l'.content ≡ is_own other r l.content
  pub comment : l'.comment ≡ l.comment

pub clear_alike : (other : List Part) (r r' : Reading) (l l' : Line) → IsAlike other r r' l l'
    → clear_line other r l ≡ None → clear_line other r' l' ≡ None
clear_alike other r r' l l' h e =
    ap₂ (cleared_by l') h.comment h.own ∙ none_by l l' l.comment (is_own other r l.content) e
