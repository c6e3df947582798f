-- Where bodies end once there is one keyval line more, where a body ends.
--
-- A body's length is counted up to a header, so of the bodies only that one can become longer: each other body ends
-- before a header at or before that line, or begins after it (`cut_at`). So an end moves as a line does (`end_moves`),
-- also where lines are cut elsewhere so that each body's length moves so (`IsCut`); and so does the end of the body of
-- the last header that passes any test (`ends_move`).
--
-- Theorems: `cut_at`, `end_moves`, `ends_move`; `header_few`, `header_same`: before a header; `earlier_end`;
-- `end_first`, `end_next`: among the lines after the first; `lines_put`, `all_put`: the lines then.
use Rattle.std.proofs.Common.{◌≡◌, ℕ, zero, suc, ◌+◌, ◌<◌, ◌≤◌, Bool, true, false, cond, List, [], ◌∷◌, ◌++◌, length}
use Rattle.std.proofs.Common.{map, take, drop, refl, sym, ap, ap₂, ◌∙◌, append_assoc, length-append, arith}
use Rattle.std.proofs.Common.{Option, Some, None, inl, inr}
use Rattle.std.specs.Prelude.{⊤}
use Rattle.std.specs.Option.{option_map}
use Rattle.std.proofs.lemmas.Bool.{and_parts, cases_lt, lt-ltb, le-ltb}
use Rattle.std.proofs.lemmas.List.{append-nil, map-append, take-append-drop, length-take-le, drop_at}
use Rattle.keep_syntax.specs.Tree.{Name, Value, Content, blank, keyval, header, element, Line, Ended, Document}
use Rattle.keep_path.specs.Path.{Part, same_path}
use Rattle.keep_meaning.specs.Marks.{Reading, start}
use Rattle.keep_meaning.specs.Meaning.{after_line, reading_after_lines, line_of, lines}
use Rattle.keep_edit_spec.specs.Edits.{end_of}
use Rattle.keep_edit_spec.specs.Lines.{last_line, begins, is_header, body_length, body_end}
use Rattle.keep_edit_spec.specs.Lines.{more_lines, plain_line}
use Rattle.keep_edit_spec.proofs.Common.BodyEnd.{last_found, drop_after, take_before, body_few}
use Rattle.keep_edit_spec.proofs.Lists.Places.{later_line}

pub later_before : (n i : ℕ) → i < n → later_line n i ≡ i
later_before n i h = rw (lt-ltb i n h) refl

pub later_from : (n i : ℕ) → n ≤ i → later_line n i ≡ suc i
later_from n i h = rw (le-ltb i n h) refl

pub later_suc : (n i : ℕ) → suc (later_line n i) ≡ later_line (suc n) (suc i)
later_suc n i = elim (cases_lt i n) [
  | inl l ↦ ap suc (later_before n i l) ∙ sym (later_before (suc n) (suc i) (omega (arith, l)))
  | inr g ↦ ap suc (later_from n i g) ∙ sym (later_from (suc n) (suc i) (omega (arith, g)))
]

pub later_few : (n i m : ℕ) → i ≤ m → later_line n i ≤ suc m
later_few n i m h = elim (cases_lt i n) [
  | inl l ↦ omega (arith, h, later_before n i l)
  | inr g ↦ omega (arith, h, later_from n i g)
]

-- a line with lines before it has some before it later on
pub later_positive : (n i : ℕ) → 0 < i → 0 < later_line n i
later_positive n i h = elim (cases_lt i n) [
  | inl l ↦ omega (arith, h, later_before n i l)
  | inr g ↦ omega (arith, h, later_from n i g)
]

-- ---- the document after the insert

pub all_put : (n : ℕ) (xs es : List Ended) (last : Line) → n ≤ length es
    → map line_of (take n es ++ (xs ++ drop n es)) ++ last ∷ []
    ≡ take n (map line_of es ++ last ∷ []) ++ (map line_of xs ++ drop n (map line_of es ++ last ∷ []))
all_put zero xs [] last h =
    ap (λ (l : List Line). l ++ last ∷ []) (map-append line_of xs [] ∙ append-nil (map line_of xs))
all_put (suc n) xs [] last h = absurd (let few : suc n ≤ 0 = h in omega (arith, few))
all_put zero xs (e ∷ es) last h =
    ap (λ (l : List Line). l ++ last ∷ []) (map-append line_of xs (e ∷ es))
    ∙ append_assoc (map line_of xs) (map line_of (e ∷ es)) (last ∷ [])
all_put (suc n) xs (e ∷ es) last h =
    ap (λ (ls : List Line). e.line ∷ ls)
    (all_put n xs es last (let few : suc n ≤ suc (length es) = h in omega (arith, few)))

pub lines_put : (n : ℕ) (k : Ended) (es : List Ended) (last : Line) → n ≤ length es
    → map line_of (take n es ++ k ∷ drop n es) ++ last ∷ []
    ≡ take n (map line_of es ++ last ∷ []) ++ line_of k ∷ drop n (map line_of es ++ last ∷ [])
lines_put n k es last h = all_put n (k ∷ []) es last h

-- ---- one line more, and a body's length

-- of lines, from that of the lines after the first
abbrev pub length_after : Content → ℕ → ℕ
length_after x n = elim x [
  | blank ↦ more_lines false n
  | keyval name value ↦ more_lines true n
  | header before k after ↦ 0
  | element before k after ↦ 0
]

after_few : (x : Content) (m n : ℕ) → m ≤ n → length_after x m ≤ suc n
after_few blank zero n h = omega arith
after_few blank (suc m) n h = omega (arith, h)
after_few (keyval name v) m n h = omega (arith, h)
after_few (header b k a) m n h = omega arith
after_few (element b k a) m n h = omega arith

pub header_none : (x : Content) (m : ℕ) → is_header x ≡ true → length_after x m ≡ 0
header_none blank m h = absurd cc
header_none (keyval name v) m h = absurd cc
header_none (header b k a) m h = refl
header_none (element b k a) m h = refl

-- Before a header it is the same, whatever comes after that.
pub header_few : (pre : List Line) (l : Line) (ls : List Line) → is_header l.content ≡ true
    → body_length (pre ++ l ∷ ls) ≤ length pre
header_few [] l ls h = omega (arith, header_none l.content (body_length ls) h)
header_few (x ∷ pre) l ls h = after_few x.content (body_length (pre ++ l ∷ ls)) (length pre) (header_few pre l ls h)

pub header_same : (pre : List Line) (l : Line) (ls more : List Line) → is_header l.content ≡ true
    → body_length (pre ++ l ∷ ls) ≡ body_length (pre ++ l ∷ more)
header_same [] l ls more h =
    header_none l.content (body_length ls) h ∙ sym (header_none l.content (body_length more) h)
header_same (x ∷ pre) l ls more h = ap (length_after x.content) (header_same pre l ls more h)

-- Lines that are all of their body: so are those after the first, and they still are with one more.
later_end : (x : Content) (m k n : ℕ) → (m ≡ n → k ≡ suc n) → length_after x m ≡ suc n → length_after x k ≡ suc (suc n)
later_end blank zero k n go h = absurd cc
later_end blank (suc m) k n go h = ap (more_lines false) (go cc)
later_end (keyval name v) m k n go h = ap suc (go cc)
later_end (header b x a) m k n go h = absurd cc
later_end (element b x a) m k n go h = absurd cc

pub earlier_end : (x : Content) (m n : ℕ) → length_after x m ≡ suc n → m ≡ n
earlier_end blank zero n h = absurd cc
earlier_end blank (suc m) n h = cc
earlier_end (keyval name v) m n h = cc
earlier_end (header b x a) m n h = absurd cc
earlier_end (element b x a) m n h = absurd cc

-- ---- the end of a path's body among lines

pub drop_none : (ls : List Line) → drop 0 ls ≡ ls
drop_none [] = refl
drop_none (l ∷ ls) = refl

abbrev pub end_at : List Line → Option ℕ → Option ℕ
end_at ls o = elim o [ None ↦ None | Some i ↦ Some (body_end i ls) ]

-- for a path that is not the root
abbrev pub end_in : List Part → Reading → List Line → Option ℕ
end_in a r ls = end_at ls (last_line (begins a) r ls)

-- from the end among the lines after one line: that, or the end of the body which the line begins
abbrev pub end_or : Bool → ℕ → Option ℕ → Option ℕ
end_or b m None = cond b (Some (suc m)) None
end_or b m (Some n) = Some (suc n)

-- of the body that begins after the first line, and after a later one
pub end_first : (l : Line) (ls : List Line) → body_end 0 (l ∷ ls) ≡ suc (body_length ls)
end_first l ls =
    let same : body_length (drop 0 ls) ≡ body_length ls = ap body_length (drop_none ls) in
    let first : 1 + body_length (drop 0 ls) ≡ suc (body_length ls) = omega (arith, same) in first

pub end_next : (i : ℕ) (l : Line) (ls : List Line) → body_end (suc i) (l ∷ ls) ≡ suc (body_end i ls)
end_next i l ls =
    let m : ℕ = body_length (drop (suc i) ls) in
    let next : suc (suc i) + m ≡ suc (suc i + m) = omega arith in next

cons_by : (test : Reading → Line → Bool) (r : Reading) (l : Line) (ls : List Line)
    → end_at (l ∷ ls) (last_line test r (l ∷ ls))
    ≡ end_or (test r l) (body_length ls) (end_at ls (last_line test (after_line r l) ls))
cons_by test r l ls = by (last_line test (after_line r l) ls) (test r l)
  where
    by : (o : Option ℕ) (b : Bool)
        → end_at (l ∷ ls) (elim o [ Some n ↦ Some (suc n) | None ↦ cond b (Some zero) None ])
        ≡ end_or b (body_length ls) (end_at ls o)
    by None false = refl
    by None true = ap (λ (m : ℕ). Some m) (end_first l ls)
    by (Some n) b = ap (λ (m : ℕ). Some m) (end_next n l ls)

pub end_cons : (a : List Part) (r : Reading) (l : Line) (ls : List Line)
    → end_in a r (l ∷ ls) ≡ end_or (begins a r l) (body_length ls) (end_in a (after_line r l) ls)
end_cons a r l ls = cons_by (begins a) r l ls

-- ---- one line more, and the ends of bodies

module _ (name : Name) (v : Value) where
  abbrev pub added : Line
  added = plain_line (keyval name v)

  -- The length of the body that these lines begin moves as the number of a line.
  abbrev pub Moves : List Line → List Line → Type 0
  Moves ls more = body_length (ls ++ added ∷ more) ≡ later_line (length ls) (body_length (ls ++ more))

  -- and so does that of each body that begins among them
  abbrev pub EachMoves : List Line → List Line → Type 0
  EachMoves [] more = ⊤
  EachMoves (l ∷ ls) more = (is_header l.content ≡ true → Moves ls more) × EachMoves ls more

  at_end : (ls more : List Line) → body_length (ls ++ more) ≡ length ls
      → body_length (ls ++ added ∷ more) ≡ suc (length ls)
  at_end [] more h = ap suc h
  at_end (l ∷ ls) more h =
      later_end l.content (body_length (ls ++ more)) (body_length (ls ++ added ∷ more)) (length ls) (at_end ls more) h

  moves_at_end : (ls more : List Line) → body_length (ls ++ more) ≡ length ls → Moves ls more
  moves_at_end ls more h =
      at_end ls more h ∙ ap suc (sym h) ∙ sym (later_from (length ls) (body_length (ls ++ more)) (omega (arith, h)))

  each_at_end : (ls more : List Line) → body_length (ls ++ more) ≡ length ls → EachMoves ls more
  each_at_end [] more h = tt
  each_at_end (l ∷ ls) more h =
      let m : ℕ = body_length (ls ++ more) in
      let all : length_after l.content m ≡ suc (length ls) = h in (
        λ is. absurd (let none : length_after l.content m ≡ 0 = header_none l.content m is in omega (arith, all, none)),
        each_at_end ls more (earlier_end l.content m (length ls) h),
      )

  -- the lines up to the end of the last header's body
  module _ (l : Line) (ls more : List Line) (is : is_header l.content ≡ true)
      (ends : body_length (ls ++ more) ≡ length ls) where
    moves_after : (pre : List Line) → Moves (pre ++ l ∷ ls) more
    moves_after pre =
        let few : body_length (pre ++ l ∷ (ls ++ more)) ≤ length pre = header_few pre l (ls ++ more) is in
        let m : ℕ = body_length ((pre ++ l ∷ ls) ++ more) in
        let same : m ≡ body_length (pre ++ l ∷ (ls ++ more)) = ap body_length (append_assoc pre (l ∷ ls) more) in
        ap body_length (append_assoc pre (l ∷ ls) (added ∷ more))
        ∙ header_same pre l (ls ++ added ∷ more) (ls ++ more) is
        ∙ sym same
        ∙ sym (later_before (length (pre ++ l ∷ ls)) m (omega (arith, few, same, length-append pre (l ∷ ls))))

    each_after : (pre : List Line) → EachMoves (pre ++ l ∷ ls) more
    each_after [] = (λ _. moves_at_end ls more ends, each_at_end ls more ends)
    each_after (x ∷ pre) = (λ _. moves_after pre, each_after pre)

  -- the end of the body of the last header that passes a test
  module _ (test : Reading → Line → Bool)
      (heads : (r : Reading) (l : Line) → test r l ≡ true → is_header l.content ≡ true) where
    none_passes : (r : Reading) (b : Bool) → test r added ≡ b → test r added ≡ false
    none_passes r true e = absurd (let no : false ≡ true = heads r added e in cc)
    none_passes r false e = e

    moves_by : (r : Reading) (ls more : List Line) → EachMoves ls more
        → end_at (ls ++ added ∷ more) (last_line test r (ls ++ added ∷ more))
        ≡ option_map (later_line (length ls)) (end_at (ls ++ more) (last_line test r (ls ++ more)))
    moves_by r [] more h =
        let none : test r added ≡ false = none_passes r (test r added) refl in
        cons_by test r added more
        ∙ ap (λ (b : Bool). end_or b (body_length more) (end_at more (last_line test r more))) none
        ∙ by (end_at more (last_line test r more))
      where
        by : (o : Option ℕ) → end_or false (body_length more) o ≡ option_map (later_line 0) o
        by None = refl
        by (Some n) = ap (λ (m : ℕ). Some m) (sym (later_from 0 n (omega arith)))
    moves_by r (l ∷ ls) more h =
        cons_by test r l (ls ++ added ∷ more)
        ∙ ap (end_or (test r l) (body_length (ls ++ added ∷ more))) (moves_by (after_line r l) ls more h.1)
        ∙ by (end_at (ls ++ more) (last_line test (after_line r l) (ls ++ more))) (test r l) (λ e. h.0 (heads r l e))
        ∙ ap (option_map (later_line (suc (length ls)))) (sym (cons_by test r l (ls ++ more)))
      where
        by : (o : Option ℕ) (b : Bool) → (b ≡ true → Moves ls more)
            → end_or b (body_length (ls ++ added ∷ more)) (option_map (later_line (length ls)) o)
            ≡ option_map (later_line (suc (length ls))) (end_or b (body_length (ls ++ more)) o)
        by None false m = refl
        by None true m = ap (λ (k : ℕ). Some k) (ap suc (m refl) ∙ later_suc (length ls) (body_length (ls ++ more)))
        by (Some n) b m = ap (λ (k : ℕ). Some k) (later_suc (length ls) n)

-- ---- the line at which a body ends

-- a body, cut at its end
record IsBodyCut (ls : List Line) : Type 0 where
  body : List Line
  more : List Line
  was : ls ≡ body ++ more
  number : body_length ls ≡ length body
  ends : body_length (body ++ more) ≡ length body

body_cut : (ls : List Line) → IsBodyCut ls
body_cut ls =
    let n : ℕ = body_length ls in
    let number : n ≡ length (take n ls) = sym (length-take-le n ls (body_few ls)) in
    record {
      body = take n ls;
      more = drop n ls;
      was = sym (take-append-drop n ls);
      number = number;
      ends = ap body_length (take-append-drop n ls) ∙ number;
    }

-- lines cut at a line: with one more there, the ends of bodies move
pub record IsCut (name : Name) (v : Value) (ls : List Line) (n : ℕ) : Type 0 where
  pub first : List Line
  pub more : List Line
  pub was : ls ≡ first ++ more
  pub number : n ≡ length first
  pub moves : Moves name v first more
  pub each : EachMoves name v first more

module _ (name : Name) (v : Value) where
  cut_after : (a : List Part) (ls : List Line) (o : Option ℕ) (n : ℕ) → last_line (begins a) start ls ≡ o
      → end_at ls o ≡ Some n → IsCut name v ls n
  cut_after a ls None n e h = absurd cc
  cut_after a ls (Some i) n e h =
      let f = last_found (begins a) start ls i e in
      let r : Reading = reading_after_lines start f.pre in
      let is : is_header f.here.content ≡ true =
      (and_parts (is_header f.here.content) (same_path (after_line r f.here).body a) f.passes).0 in
      let c : IsBodyCut f.post = body_cut f.post in
      let number : n ≡ body_end i ls = cc in
      let post : drop (suc i) ls ≡ f.post =
      ap (λ (k : ℕ). drop (suc k) ls) f.number ∙ ap (drop (suc (length f.pre))) f.was
      ∙ drop_after f.pre f.here f.post in
      record {
        first = f.pre ++ f.here ∷ c.body;
        more = c.more;
        was = f.was ∙ ap (λ (x : List Line). f.pre ++ f.here ∷ x) c.was
            ∙ sym (append_assoc f.pre (f.here ∷ c.body) c.more);
        number = omega (
          arith,
          number,
          f.number,
          ap body_length post,
          c.number,
          length-append f.pre (f.here ∷ c.body),
        );
        moves = moves_after name v f.here c.body c.more is c.ends f.pre;
        each = each_after name v f.here c.body c.more is c.ends f.pre;
      }

  pub cut_at : (s : Document) (a : List Part) (n : ℕ) → end_of s a ≡ Some n → IsCut name v (lines s) n
  cut_at s [] n h =
      let c : IsBodyCut (lines s) = body_cut (lines s) in
      let same : n ≡ body_length (lines s) = cc in
      record {
        first = c.body;
        more = c.more;
        was = c.was;
        number = same ∙ c.number;
        moves = moves_at_end name v c.body c.more c.ends;
        each = each_at_end name v c.body c.more c.ends;
      }
  cut_at s (p ∷ ps) n h = cut_after (p ∷ ps) (lines s) (last_line (begins (p ∷ ps)) start (lines s)) n refl h

  -- for any path
  abbrev pub end_among : List Part → List Line → Option ℕ
  end_among [] ls = Some (body_length ls)
  end_among (p ∷ ps) ls = end_in (p ∷ ps) start ls

  pub end_is_among : (s : Document) (a : List Part) → end_of s a ≡ end_among a (lines s)
  end_is_among s [] = refl
  end_is_among s (p ∷ ps) = refl

  end_moves_among : (a : List Part) (ls : List Line) (n : ℕ) → (c : IsCut name v ls n)
      → end_among a (c.first ++ added name v ∷ c.more)
      ≡ option_map (later_line (length c.first)) (end_among a (c.first ++ c.more))
  end_moves_among [] ls n c = ap (λ (m : ℕ). Some m) c.moves
  end_moves_among (p ∷ ps) ls n c =
      moves_by name v (begins (p ∷ ps))
      (λ r l e. (and_parts (is_header l.content) (same_path (after_line r l).body (p ∷ ps)) e).0) start c.first c.more
      c.each

  -- with one more line at such a cut
  lines_at : (ls to : List Line) (n : ℕ) (c : IsCut name v ls n) → to ≡ take n ls ++ added name v ∷ drop n ls
      → to ≡ c.first ++ added name v ∷ c.more
  lines_at ls to n c are =
      let first : take n ls ≡ c.first =
      ap₂ (λ (k : ℕ) (ls : List Line). take k ls) c.number c.was ∙ take_before c.first c.more in
      let more : drop n ls ≡ c.more = ap (drop n) c.was ∙ drop_at c.first c.more n (sym c.number) in
      are ∙ ap₂ (λ (x y : List Line). x ++ added name v ∷ y) first more

  -- A document with one more line at such a cut: each end is later as that line makes it.
  pub end_moves : (s to : Document) (n : ℕ) (other : List Part) (m : ℕ) → IsCut name v (lines s) n
      → lines to ≡ take n (lines s) ++ added name v ∷ drop n (lines s) → end_of s other ≡ Some m
      → end_of to other ≡ Some (later_line n m)
  end_moves s to n other m c are before =
      end_is_among to other
      ∙ ap (end_among other) (lines_at (lines s) (lines to) n c are)
      ∙ end_moves_among other (lines s) n c
      ∙ ap₂ (λ (k : ℕ) (ls : List Line). option_map (later_line k) (end_among other ls)) (sym c.number) (sym c.was)
      ∙ ap (option_map (later_line n)) (sym (end_is_among s other) ∙ before)

  -- and so is that of the body of the last header that passes a test.
  pub ends_move : (test : Reading → Line → Bool)
      → ((r : Reading) (l : Line) → test r l ≡ true → is_header l.content ≡ true) → (ls to : List Line) (n i j : ℕ)
      → IsCut name v ls n → to ≡ take n ls ++ added name v ∷ drop n ls → last_line test start ls ≡ Some i
      → last_line test start to ≡ Some j → body_end j to ≡ later_line n (body_end i ls)
  ends_move test heads ls to n i j c are was now =
      let both : Some (body_end j to) ≡ Some (later_line n (body_end i ls)) =
      sym (ap (end_at to) now)
      ∙ ap (λ (x : List Line). end_at x (last_line test start x)) (lines_at ls to n c are)
      ∙ moves_by name v test heads start c.first c.more c.each
      ∙ ap₂ (λ (k : ℕ) (x : List Line). option_map (later_line k) (end_at x (last_line test start x))) (sym c.number)
      (sym c.was)
      ∙ ap (λ (o : Option ℕ). option_map (later_line n) (end_at ls o)) was in
      cc
