-- The line at which a body ends: there the reading is still in the body.
--
-- The line that begins a body is the last that passes a test (`last_found`), and the body is the lines after it up to
-- the next header (`body_few`), which leave the reading's body as it is (`reading_beyond`). So at the end of those
-- lines the reading is in that body. That the body began says that its path is a table (`begins_stated`).
--
-- Theorems: `last_found` and `end_is`.
use Rattle.std.proofs.Common.{◌≡◌, ℕ, zero, suc, ◌+◌, ◌≤◌, Bool, true, false, cond, ◌||◌, List, [], ◌∷◌, ◌++◌, length}
use Rattle.std.proofs.Common.{take, drop, refl, sym, ap, subst, ◌∙◌, length-append, arith, Option, Some, None, ◌⊎◌, inl}
use Rattle.std.proofs.Common.{inr}
use Rattle.std.specs.Prelude.{⊤}
use Rattle.std.specs.List.{list_any}
use Rattle.std.proofs.lemmas.Bool.{and_parts}
use Rattle.keep_syntax.specs.Tree.{Written, Gap, Content, blank, keyval, header, element, Line, Document}
use Rattle.keep_path.specs.Path.{Part, same_path}
use Rattle.keep_meaning.specs.Marks.{Mention, Reading, start, header_prefixes}
use Rattle.keep_meaning.specs.Meaning.{keys_of, line_mentions, after_line, lines_mentions, reading_after_lines, lines}
use Rattle.keep_meaning.specs.Meaning.{mentions_in}
use Rattle.keep_meaning.specs.Nodes.{is_at, kinds_at, has, is_define, is_begun}
use Rattle.keep_edit_spec.specs.Lines.{last_line, begins, is_header, body_length, body_end, more_lines}
use Rattle.keep_edit_spec.specs.Edits.{end_of}
use Rattle.keep_edit_spec.proofs.Common.Runs.{SomeOf, some_left, some_right, same_path-sound, same_path-refl}
use Rattle.keep_edit_spec.proofs.Common.LineLaws.{lines_mentions-append}
use Rattle.keep_edit_spec.proofs.Common.PutLines.{body_keeps}

-- ---- the last line that passes

pub record IsLast (test : Reading → Line → Bool) (r : Reading) (ls : List Line) (i : ℕ) : Type 0 where
  pub pre : List Line
  pub here : Line
  pub post : List Line
  pub was : ls ≡ pre ++ here ∷ post
  pub number : i ≡ length pre
  pub passes : test (reading_after_lines r pre) here ≡ true

abbrev LastIs : (Reading → Line → Bool) → Reading → List Line → Option ℕ → Type 0
LastIs test r ls None = ⊤
LastIs test r ls (Some i) = IsLast test r ls i

last_step : (test : Reading → Line → Bool) (r : Reading) (l : Line) (ls : List Line) (o : Option ℕ)
    → LastIs test (after_line r l) ls o → (b : Bool) → test r l ≡ b
    → LastIs test r (l ∷ ls) (elim o [ Some n ↦ Some (suc n) | None ↦ cond b (Some zero) None ])
last_step test r l ls (Some n) h b e =
    record {
      pre = l ∷ h.pre;
      here = h.here;
      post = h.post;
      was = ap (λ (x : List Line). l ∷ x) h.was;
      number = ap suc h.number;
      passes = h.passes;
    }
last_step test r l ls None h true e = record { pre = []; here = l; post = ls; was = refl; number = refl; passes = e }
last_step test r l ls None h false e = tt

last_is : (test : Reading → Line → Bool) (r : Reading) (ls : List Line) → LastIs test r ls (last_line test r ls)
last_is test r [] = tt
last_is test r (l ∷ ls) =
    last_step test r l ls (last_line test (after_line r l) ls) (last_is test (after_line r l) ls) (test r l) refl

pub last_found : (test : Reading → Line → Bool) (r : Reading) (ls : List Line) (i : ℕ) → last_line test r ls ≡ Some i
    → IsLast test r ls i
last_found test r ls i e = subst (LastIs test r ls) e (last_is test r ls)

-- ---- cuts after a line

pub drop_after : (pre : List Line) (l : Line) (post : List Line) → drop (suc (length pre)) (pre ++ l ∷ post) ≡ post
drop_after [] l post = refl
drop_after (x ∷ pre) l post = drop_after pre l post

pub take_before : (pre : List Line) (post : List Line) → take (length pre) (pre ++ post) ≡ pre
take_before [] [] = refl
take_before [] (y ∷ post) = refl
take_before (x ∷ pre) post = ap (λ (l : List Line). x ∷ l) (take_before pre post)

abbrev pub beyond : List Line → ℕ → ℕ
beyond [] m = suc m
beyond (x ∷ pre) m = suc (beyond pre m)

pub beyond_is : (pre : List Line) (m : ℕ) → suc (length pre) + m ≡ beyond pre m
beyond_is [] m = omega arith
beyond_is (x ∷ pre) m = let h : suc (length pre) + m ≡ beyond pre m = beyond_is pre m in omega arith

reading_past : (r : Reading) (pre : List Line) (l : Line) (post : List Line) (m : ℕ)
    → reading_after_lines r (take (beyond pre m) (pre ++ l ∷ post))
    ≡ reading_after_lines (after_line (reading_after_lines r pre) l) (take m post)
reading_past r [] l post m = refl
reading_past r (x ∷ pre) l post m = reading_past (after_line r x) pre l post m

pub reading_beyond : (r : Reading) (pre : List Line) (l : Line) (post : List Line) (m : ℕ)
    → reading_after_lines r (take (suc (length pre) + m) (pre ++ l ∷ post))
    ≡ reading_after_lines (after_line (reading_after_lines r pre) l) (take m post)
reading_beyond r pre l post m =
    ap (λ (k : ℕ). reading_after_lines r (take k (pre ++ l ∷ post))) (beyond_is pre m) ∙ reading_past r pre l post m

-- ---- a body's length

more_few : (l : Line) (ls : List Line) (n : ℕ) (b : Bool) → n ≤ length ls → more_lines b n ≤ length (l ∷ ls)
more_few l ls n true h = omega arith
more_few l ls zero false h = omega arith
more_few l ls (suc m) false h = omega arith

content_few : (before after' : Gap) (comment : Option Written) (c : Content) (ls : List Line)
    → body_length ls ≤ length ls
    → body_length (record { before = before; content = c; after = after'; comment = comment } ∷ ls) ≤ suc (length ls)
content_few before after' comment blank ls h =
    more_few (record { before = before; content = blank; after = after'; comment = comment }) ls (body_length ls) false
    h
content_few before after' comment (keyval n v) ls h =
    more_few (record { before = before; content = keyval n v; after = after'; comment = comment }) ls (body_length ls)
    true h
content_few before after' comment (header b k a) ls h = omega arith
content_few before after' comment (element b k a) ls h = omega arith

pub body_few : (ls : List Line) → body_length ls ≤ length ls
body_few [] = omega arith
body_few (l ∷ ls) = content_few l.before l.after l.comment l.content ls (body_few ls)

-- ---- a header says that its body's path is a table

abbrev pub IsStated : List Part → Mention → Type 0
IsStated a m = (m.path ≡ a) × ((is_define m.kind || is_begun m.kind) ≡ true)

stated_by : (a : List Part) (r : Reading) (before after' : Gap) (comment : Option Written) (c : Content)
    → (let l : Line = record { before = before; content = c; after = after'; comment = comment } in
    is_header c ≡ true → (after_line r l).body ≡ a → SomeOf (IsStated a) (line_mentions r l))
stated_by a r before after' comment blank h e = absurd cc
stated_by a r before after' comment (keyval n v) h e = absurd cc
stated_by a r before after' comment (header b k x) h e =
    some_right (IsStated a) (header_prefixes r.tables [] (keys_of k)) _ (inl (e, refl))
stated_by a r before after' comment (element b k x) h e =
    some_right (IsStated a) (header_prefixes r.tables [] (keys_of k)) _ (inr (inl (e, refl)))

pub begins_stated : (a : List Part) (r : Reading) (l : Line) → begins a r l ≡ true
    → SomeOf (IsStated a) (line_mentions r l)
begins_stated a r l h =
    let (one, two) = and_parts (is_header l.content) (same_path (after_line r l).body a) h in
    stated_by a r l.before l.after l.comment l.content one (same_path-sound (after_line r l).body a two)

has_step : (a : List Part) (m : Mention) (ms : List Mention) → IsStated a m
    → (has is_define a (m ∷ ms) || has is_begun a (m ∷ ms)) ≡ true
has_step a m ms h =
    let here : is_at a m ≡ true = subst (λ (q : List Part). same_path m.path q ≡ true) h.0 (same_path-refl m.path) in
    rw here (by (is_define m.kind) (is_begun m.kind) (list_any is_define (kinds_at a ms))
    (list_any is_begun (kinds_at a ms)) h.1)
  where
    by : (a b c d : Bool) → (a || b) ≡ true → ((a || c) || (b || d)) ≡ true
    by true b c d h = refl
    by false true true d h = refl
    by false true false d h = refl
    by false false c d h = absurd cc

has_skip : (a : List Part) (m : Mention) (ms : List Mention) (b : Bool) → is_at a m ≡ b
    → (has is_define a ms || has is_begun a ms) ≡ true → (has is_define a (m ∷ ms) || has is_begun a (m ∷ ms)) ≡ true
has_skip a m ms false e h = rw e h
has_skip a m ms true e h =
    rw e (by (is_define m.kind) (is_begun m.kind) (list_any is_define (kinds_at a ms))
    (list_any is_begun (kinds_at a ms)) h)
  where
    by : (a b c d : Bool) → (c || d) ≡ true → ((a || c) || (b || d)) ≡ true
    by true b c d h = refl
    by false b true d h = refl
    by false true false d h = refl
    by false false false d h = h

pub stated_has : (a : List Part) (ms : List Mention) → SomeOf (IsStated a) ms
    → (has is_define a ms || has is_begun a ms) ≡ true
stated_has a [] h = absurd h
stated_has a (m ∷ ms) (inl h) = has_step a m ms h
stated_has a (m ∷ ms) (inr h) = has_skip a m ms (is_at a m) refl (stated_has a ms h)

-- ---- where a body ends

pub record IsBodyEnd (s : Document) (a : List Part) (n : ℕ) : Type 0 where
  pub few : n ≤ length (lines s)
  pub body : (reading_after_lines start (take n (lines s))).body ≡ a
  pub stated : (a ≡ []) ⊎ SomeOf (IsStated a) (mentions_in s)

end_found : (s : Document) (p : Part) (ps : List Part) (o : Option ℕ) (n : ℕ)
    → last_line (begins (p ∷ ps)) start (lines s) ≡ o
    → elim o [ None ↦ None | Some i ↦ Some (body_end i (lines s)) ] ≡ Some n → IsBodyEnd s (p ∷ ps) n
end_found s p ps None n e h = absurd cc
end_found s p ps (Some i) n e h =
    let f = last_found (begins (p ∷ ps)) start (lines s) i e in
    let r : Reading = reading_after_lines start f.pre in
    let (one, two) = and_parts (is_header f.here.content) (same_path (after_line r f.here).body (p ∷ ps)) f.passes in
    let number : n ≡ body_end i (lines s) = cc in
    let post : drop (suc i) (lines s) ≡ f.post =
    ap (λ (k : ℕ). drop (suc k) (lines s)) f.number ∙ ap (λ (l : List Line). drop (suc (length f.pre)) l) f.was
    ∙ drop_after f.pre f.here f.post in
    let same : n ≡ suc (length f.pre) + body_length f.post =
    number ∙ ap (λ (k : ℕ). suc k + body_length (drop (suc i) (lines s))) f.number
    ∙ ap (λ (l : List Line). suc (length f.pre) + body_length l) post in
    record {
      few = omega (
        arith,
        same,
        body_few f.post,
        ap (λ (l : List Line). length l) f.was,
        length-append f.pre (f.here ∷ f.post),
      );
      body = ap (λ (k : ℕ). (reading_after_lines start (take k (lines s))).body) same
          ∙ ap (λ (l : List Line). (reading_after_lines start (take (suc (length f.pre) + body_length f.post) l)).body)
          f.was
          ∙ ap (λ (x : Reading). x.body) (reading_beyond start f.pre f.here f.post (body_length f.post))
          ∙ body_keeps (after_line r f.here) f.post
          ∙ same_path-sound (after_line r f.here).body (p ∷ ps) two;
      stated = inr (subst (λ (l : List Line). SomeOf (IsStated (p ∷ ps)) (lines_mentions start l)) (sym f.was)
          (subst (SomeOf (IsStated (p ∷ ps))) (sym (lines_mentions-append start f.pre (f.here ∷ f.post)))
          (some_right (IsStated (p ∷ ps)) (lines_mentions start f.pre) _
          (some_left (IsStated (p ∷ ps)) (line_mentions r f.here) _ (begins_stated (p ∷ ps) r f.here f.passes)))));
    }

pub end_is : (s : Document) (a : List Part) (n : ℕ) → end_of s a ≡ Some n → IsBodyEnd s a n
end_is s [] n h =
    let e : n ≡ body_length (lines s) = cc in
    record {
      few = omega (arith, e, body_few (lines s));
      body = ap (λ (k : ℕ). (reading_after_lines start (take k (lines s))).body) e ∙ body_keeps start (lines s);
      stated = inl refl;
    }
end_is s (p ∷ ps) n h = end_found s p ps (last_line (begins (p ∷ ps)) start (lines s)) n refl h
