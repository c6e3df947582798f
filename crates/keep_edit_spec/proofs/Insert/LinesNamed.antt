-- Which line names a path, and what a header says on its way.
--
-- A mention of a document is one of some line (`line_of_some`), and a test that this line passes has a last line that
-- passes (`some_among`). Each element that is counted so far was begun by a line (`tables_begin`, by induction over the
-- lines). What a header says on its way of a path is that it goes through it, or past its last element, or that this
-- element is passed (`way_case`, by induction over the keys).
--
-- Theorems: `line_of_some`, `tables_begin`, `counted` and `way_case`.
use Rattle.std.proofs.Common.{◌≡◌, ℕ, zero, suc, ◌+◌, ◌-◌, ◌<◌, ◌≤◌, Bool, true, false, cond, List, [], ◌∷◌, ◌++◌, map}
use Rattle.std.proofs.Common.{refl, sym, ap, subst, ◌∙◌, arith, Option, Some, None, inl, inr}
use Rattle.std.specs.Prelude.{◌==◌}
use Rattle.std.specs.List.{list_any, cons_option}
use Rattle.std.proofs.lemmas.Bool.{cases_lt}
use Rattle.std.proofs.lemmas.List.Sums.{sum_by-append}
use Rattle.keep_syntax.specs.Tree.{Written, Gap, Content, blank, keyval, header, element, Line}
use Rattle.keep_path.specs.Path.{Part, key, index, same_path}
use Rattle.keep_meaning.specs.Marks.{through, past, passed, Mention, Reading, below, header_path, header_prefixes}
use Rattle.keep_meaning.specs.Marks.{passing_mentions, entered_path, elements_of}
use Rattle.keep_meaning.specs.Meaning.{keys_of, line_mentions, lines_mentions, after_line, reading_after_lines}
use Rattle.keep_meaning.specs.Nodes.{is_at, is_through, is_element}
use Rattle.keep_edit_spec.specs.Lines.{last_line, begins}
use Rattle.keep_edit_spec.specs.Refusals.{tables_in}
use Rattle.keep_edit_spec.proofs.Common.Runs.{SomeOf, some_left, some_right, same_path-sound, same_path-refl}
use Rattle.keep_edit_spec.proofs.Common.Doubles.{IsMentioned}
use Rattle.keep_edit_spec.proofs.Common.ValueThere.{IsSome, some_cases}
use Rattle.keep_edit_spec.proofs.Common.RemoveThere.{some_here, some_later}
use Rattle.keep_edit_spec.proofs.Insert.Gives.{IsNamedAt}

-- ---- the line that names a path

pub named_of : (p : List Part) (ms : List Mention) → list_any (is_at p) ms ≡ true → SomeOf (IsNamedAt p) ms
named_of p [] h = absurd cc
named_of p (m ∷ ms) h = by (is_at p m) refl (λ g. named_of p ms g)
  where
    by : (b : Bool) → is_at p m ≡ b → (list_any (is_at p) ms ≡ true → SomeOf (IsNamedAt p) ms)
        → SomeOf (IsNamedAt p) (m ∷ ms)
    by true e more = inl (same_path-sound m.path p e)
    by false e more = inr (more (rw e at h))

pub named_unbelow : (s x : List Part) (ms : List Mention) → SomeOf (IsNamedAt x) (map (below s) ms)
    → (y : List Part) × ((x ≡ s ++ y) × SomeOf (IsNamedAt y) ms)
named_unbelow s x [] h = absurd h
named_unbelow s x (m ∷ ms) (inl h) = (m.path, (sym h, inl refl))
named_unbelow s x (m ∷ ms) (inr h) = let (y, (e, g)) = named_unbelow s x ms h in (y, (e, inr g))

pub record IsLineOf (P : Mention → Type 0) (r : Reading) (ls : List Line) : Type 0 where
  pub pre : List Line
  pub here : Line
  pub post : List Line
  pub was : ls ≡ pre ++ here ∷ post
  pub mentioned : SomeOf P (line_mentions (reading_after_lines r pre) here)

pub line_of_some : (P : Mention → Type 0) (r : Reading) (ls : List Line) → SomeOf P (lines_mentions r ls)
    → IsLineOf P r ls
line_of_some P r [] s = absurd s
line_of_some P r (l ∷ ls) s = elim (some_cases P (line_mentions r l) (lines_mentions (after_line r l) ls) s) [
  | inl h ↦ record { pre = []; here = l; post = ls; was = refl; mentioned = h }
  | inr h ↦
      (let k = line_of_some P (after_line r l) ls h in
      record {
        pre = l ∷ k.pre;
        here = k.here;
        post = k.post;
        was = ap (λ (x : List Line). l ∷ x) k.was;
        mentioned = k.mentioned;
      })
]

pub some_among : (test : Reading → Line → Bool) (r : Reading) (pre : List Line) (l : Line) (post : List Line)
    → test (reading_after_lines r pre) l ≡ true → IsSome (last_line test r (pre ++ l ∷ post))
some_among test r [] l post e = some_here test r l post e
some_among test r (x ∷ pre) l post e =
    some_later test r x (pre ++ l ∷ post) (some_among test (after_line r x) pre l post e)

pub some_prefix : (test : Reading → Line → Bool) (r : Reading) (pre post : List Line) → IsSome (last_line test r pre)
    → IsSome (last_line test r (pre ++ post))
some_prefix test r [] post s = absurd s
some_prefix test r (l ∷ pre) post s =
    by (last_line test (after_line r l) pre) refl (test r l) refl s (λ k. some_prefix test (after_line r l) pre post k)
  where
    by : (o : Option ℕ) → last_line test (after_line r l) pre ≡ o → (b : Bool) → test r l ≡ b
        → IsSome {A = ℕ} (elim o [ Some n ↦ Some (suc n) | None ↦ cond b (Some zero) None ])
        → (IsSome (last_line test (after_line r l) pre) → IsSome (last_line test (after_line r l) (pre ++ post)))
        → IsSome (last_line test r (l ∷ (pre ++ post)))
    by (Some n) e b k s more = some_later test r l (pre ++ post) (more (subst IsSome (sym e) tt))
    by None e true k s more = some_here test r l (pre ++ post) k
    by None e false k s more = absurd s

-- ---- the elements of arrays of tables

count_join : (q : List Part) (xs ys : List (List Part)) → elements_of q (xs ++ ys) ≡ elements_of q xs + elements_of q ys
count_join q xs ys = omega (arith, sum_by-append (λ t. cond (same_path t q) 1 0) xs ys)

one_more : (q t : List Part) (b : Bool) → same_path t q ≡ b → elements_of q (t ∷ []) ≡ cond b 1 0
one_more q t true e = rw e refl
one_more q t false e = rw e refl

-- each element is begun by a line
content_begin : (q : List Part) (j : ℕ) (r : Reading) (before after : Gap) (comment : Option Written) (c : Content)
    (ls : List Line)
    → (let x : Line = record { before = before; content = c; after = after; comment = comment } in
    elements_of q r.tables ≤ j
    → (elements_of q (after_line r x).tables ≤ j → IsSome (last_line (begins (q ++ index j ∷ [])) (after_line r x) ls))
    → IsSome (last_line (begins (q ++ index j ∷ [])) r (x ∷ ls)))
content_begin q j r before after comment blank ls few ih =
    some_later (begins (q ++ index j ∷ [])) r
    (record { before = before; content = blank; after = after; comment = comment }) ls (ih few)
content_begin q j r before after comment (keyval name v) ls few ih =
    some_later (begins (q ++ index j ∷ [])) r
    (record { before = before; content = keyval name v; after = after; comment = comment }) ls (ih few)
content_begin q j r before after comment (header b k a) ls few ih =
    some_later (begins (q ++ index j ∷ [])) r
    (record { before = before; content = header b k a; after = after; comment = comment }) ls (ih few)
content_begin q j r before after comment (element b k a) ls few ih = by (same_path path q) refl
  where
    path : List Part
    path = header_path r.tables [] (keys_of k)

    by : (c : Bool) → same_path (header_path r.tables [] (keys_of k)) q ≡ c
        → IsSome (last_line (begins (q ++ index j ∷ [])) r
        (record { before = before; content = element b k a; after = after; comment = comment } ∷ ls))
    by false e =
        some_later (begins (q ++ index j ∷ [])) r
        (record { before = before; content = element b k a; after = after; comment = comment }) ls
        (ih (omega (
          arith,
          few,
          count_join q r.tables (header_path r.tables [] (keys_of k) ∷ []),
          one_more q (header_path r.tables [] (keys_of k)) false e,
        )))
    by true e = elim (cases_lt (elements_of q r.tables) j) [
      | inl l ↦
          some_later (begins (q ++ index j ∷ [])) r
          (record { before = before; content = element b k a; after = after; comment = comment }) ls
          (ih (omega (
            arith,
            l,
            count_join q r.tables (header_path r.tables [] (keys_of k) ∷ []),
            one_more q (header_path r.tables [] (keys_of k)) true e,
          )))
      | inr g ↦
          (let p : List Part = header_path r.tables [] (keys_of k) in
          let same : p ≡ q = same_path-sound p q e in
          let number : elements_of q r.tables ≡ j = omega arith in
          let whole : p ++ index (elements_of p r.tables) ∷ [] ≡ q ++ index j ∷ [] =
          ap (λ (x : List Part). x ++ index (elements_of x r.tables) ∷ []) same
          ∙ ap (λ (n : ℕ). q ++ index n ∷ []) number in
          some_here (begins (q ++ index j ∷ [])) r
          (record { before = before; content = element b k a; after = after; comment = comment }) ls
          (ap (same_path (p ++ index (elements_of p r.tables) ∷ [])) (sym whole)
          ∙ same_path-refl (p ++ index (elements_of p r.tables) ∷ [])))
    ]

pub tables_begin : (q : List Part) (j : ℕ) (r : Reading) (ls : List Line) → elements_of q r.tables ≤ j
    → j < elements_of q (reading_after_lines r ls).tables → IsSome (last_line (begins (q ++ index j ∷ [])) r ls)
tables_begin q j r [] few more = absurd (omega (arith, few, more))
tables_begin q j r (l ∷ ls) few more =
    content_begin q j r l.before l.after l.comment l.content ls few (λ f. tables_begin q j (after_line r l) ls f more)

-- what is counted is said
pub counted : (q : List Part) (ms : List Mention) → 0 < elements_of q (tables_in ms)
    → SomeOf (IsMentioned is_element q) ms
counted q [] h = absurd (omega arith)
counted q (m ∷ ms) h = by (is_element m.kind) refl (same_path m.path q) refl h (λ g. counted q ms g)
  where
    by : (b : Bool) → is_element m.kind ≡ b → (c : Bool) → same_path m.path q ≡ c
        → 0 < elements_of q (cons_option (cond b (Some m.path) None) (tables_in ms))
        → (0 < elements_of q (tables_in ms) → SomeOf (IsMentioned is_element q) ms)
        → SomeOf (IsMentioned is_element q) (m ∷ ms)
    by true e true k h more = inl (same_path-sound m.path q k, e)
    by true e false k h more =
        inr (more (omega (arith, h, count_join q (m.path ∷ []) (tables_in ms), one_more q m.path false k)))
    by false e c k h more = inr (more h)

-- ---- what a header says on its way

pub data WayCase (tables : List (List Part)) (h : List Part) (ms : List Mention) : Type 0 where
  goes : SomeOf (IsMentioned is_through h) ms → WayCase tables h ms
  beyond_element : 0 < elements_of h tables → WayCase tables h ms
  at_element : (q : List Part) → h ≡ q ++ index (elements_of q tables - 1) ∷ [] → 0 < elements_of q tables
      → WayCase tables h ms

pub some_elements : (n : ℕ) → (0 == n) ≡ false → 0 < n
some_elements zero e = absurd cc
some_elements (suc n) e = omega arith

pass_case : (tables : List (List Part)) (h q : List Part) (b : Bool) → (0 == elements_of q tables) ≡ b
    → (let ms : List Mention =
    cond b (record { path = q; kind = through } ∷ [])
    (record { path = q; kind = past }
    ∷ record { path = cond b q (q ++ index (elements_of q tables - 1) ∷ []); kind = passed } ∷ []) in
    SomeOf (IsNamedAt h) ms → WayCase tables h ms)
pass_case tables h q true e (inl s) = goes (inl (s, refl))
pass_case tables h q true e (inr s) = absurd s
pass_case tables h q false e (inl s) =
    beyond_element (subst (λ (x : List Part). 0 < elements_of x tables) s (some_elements (elements_of q tables) e))
pass_case tables h q false e (inr (inl s)) = at_element q (sym s) (some_elements (elements_of q tables) e)
pass_case tables h q false e (inr (inr s)) = absurd s

case_left : (tables : List (List Part)) (h : List Part) (xs ys : List Mention) → WayCase tables h xs
    → WayCase tables h (xs ++ ys)
case_left tables h xs ys (goes s) = goes (some_left (IsMentioned is_through h) xs ys s)
case_left tables h xs ys (beyond_element e) = beyond_element e
case_left tables h xs ys (at_element q e k) = at_element q e k

case_right : (tables : List (List Part)) (h : List Part) (xs ys : List Mention) → WayCase tables h ys
    → WayCase tables h (xs ++ ys)
case_right tables h xs ys (goes s) = goes (some_right (IsMentioned is_through h) xs ys s)
case_right tables h xs ys (beyond_element e) = beyond_element e
case_right tables h xs ys (at_element q e k) = at_element q e k

pub way_case : (tables : List (List Part)) (h at : List Part) (ks : List (List ℕ))
    → SomeOf (IsNamedAt h) (header_prefixes tables at ks) → WayCase tables h (header_prefixes tables at ks)
way_case tables h at [] s = absurd s
way_case tables h at (k ∷ []) s = absurd s
way_case tables h at (k ∷ l ∷ ks) s =
    let q : List Part = at ++ key k ∷ [] in
    let first : List Mention = passing_mentions tables q in
    let more : List Mention = header_prefixes tables (entered_path tables q) (l ∷ ks) in
    elim (some_cases (IsNamedAt h) first more s) [
      | inl x ↦ case_left tables h first more (pass_case tables h q (0 == elements_of q tables) refl x)
      | inr x ↦ case_right tables h first more (way_case tables h (entered_path tables q) (l ∷ ks) x)
    ]
