-- Each node but the root is said by a value, a header, an element or a dotted key: none is only gone past.
--
-- All that a keyval mentions says where a node comes from (`is_origin`), and so do the last mentions of a header. Only
-- on its way may a header go past a path, and `way_case` gives three cases of that way. The header goes through the
-- path. Or earlier lines began elements there, and one of them names the path as an array of tables (`counted`). Or the
-- path is an element, and the line that begins it mentions it (`tables_begin`, `begun_mentioned`). `from_way` puts the
-- cases together. `line_of_some` finds a line that mentions the path, and `line_origin` splits by what that line is.
--
-- Theorem: `origin_mentioned`.
use Rattle.std.proofs.Common.{◌≡◌, ℕ, suc, ◌-◌, ◌<◌, Bool, true, false, cond, List, [], ◌∷◌, ◌++◌, map, refl, sym}
use Rattle.std.proofs.Common.{subst, arith, Option, Some, None, inl, inr}
use Rattle.std.specs.List.{list_any}
use Rattle.keep_syntax.specs.Tree.{Written, Gap, Content, blank, keyval, header, element, Line, Document}
use Rattle.keep_path.specs.Path.{Part, index}
use Rattle.keep_meaning.specs.Marks as marks_of
use Rattle.keep_meaning.specs.Marks.{MentionKind, through, past, define, dotted, value, begun, passed, item, Mention}
use Rattle.keep_meaning.specs.Marks.{Reading, start, below, header_path, header_prefixes, elements_of}
use Rattle.keep_meaning.specs.Meaning.{keys_of, keyval_mentions, line_mentions, after_line, lines_mentions}
use Rattle.keep_meaning.specs.Meaning.{reading_after_lines, lines, mentions_in}
use Rattle.keep_meaning.specs.Nodes.{is_at, is_through, is_element}
use Rattle.keep_edit_spec.specs.Lines.{last_line, begins}
use Rattle.keep_edit_spec.proofs.Common.Runs.{AllOf, SomeOf, some_left, some_right, same_path-sound}
use Rattle.keep_edit_spec.proofs.Common.LineLaws.{lines_mentions-append}
use Rattle.keep_edit_spec.proofs.Common.Doubles.{IsMentioned}
use Rattle.keep_edit_spec.proofs.Common.ValueThere.{IsSome, some_cases}
use Rattle.keep_edit_spec.proofs.Append.AppendTable.{tables_stated}
use Rattle.keep_edit_spec.proofs.Insert.Gives.{IsNamedAt}
use Rattle.keep_edit_spec.proofs.Insert.LinesNamed.{named_of, line_of_some, tables_begin, counted, WayCase, goes}
use Rattle.keep_edit_spec.proofs.Insert.LinesNamed.{beyond_element, at_element, way_case}
use Rattle.keep_edit_spec.proofs.Remove.KeyvalMentions.{mentioned_below, mentions_keyval}

-- it tells where a node comes from
abbrev pub is_origin : MentionKind → Bool
is_origin past = false
is_origin passed = false
is_origin _ = true

widened : (is : MentionKind → Bool) → ((a : MentionKind) → is a ≡ true → is_origin a ≡ true)
    → (h : List Part) (ms : List Mention) → SomeOf (IsMentioned is h) ms → SomeOf (IsMentioned is_origin h) ms
widened is wide h [] s = s
widened is wide h (m ∷ ms) (inl s) = inl (s.0, wide m.kind s.1)
widened is wide h (m ∷ ms) (inr s) = inr (widened is wide h ms s)

through_origin : (a : MentionKind) → is_through a ≡ true → is_origin a ≡ true
through_origin through e = refl
through_origin past e = absurd cc
through_origin define e = refl
through_origin marks_of.element e = refl
through_origin dotted e = refl
through_origin (value f) e = refl
through_origin begun e = refl
through_origin passed e = absurd cc
through_origin (item f) e = refl

element_origin : (a : MentionKind) → is_element a ≡ true → is_origin a ≡ true
element_origin through e = refl
element_origin past e = absurd cc
element_origin define e = refl
element_origin marks_of.element e = refl
element_origin dotted e = refl
element_origin (value f) e = refl
element_origin begun e = refl
element_origin passed e = absurd cc
element_origin (item f) e = refl

-- ---- a line that begins a body says so

content_begins : (h : List Part) (r : Reading) (before after : Gap) (comment : Option Written) (c : Content)
    → (let l : Line = record { before = before; content = c; after = after; comment = comment } in
    begins h r l ≡ true → SomeOf (IsMentioned is_origin h) (line_mentions r l))
content_begins h r before after comment blank e = absurd cc
content_begins h r before after comment (keyval name v) e = absurd cc
content_begins h r before after comment (header b k a) e =
    let path : List Part = header_path r.tables [] (keys_of k) in
    some_right (IsMentioned is_origin h) (header_prefixes r.tables [] (keys_of k))
    (record { path = path; kind = define } ∷ []) (inl (same_path-sound path h e, refl))
content_begins h r before after comment (element b k a) e =
    let path : List Part = header_path r.tables [] (keys_of k) in
    let top : List Part = path ++ index (elements_of path r.tables) ∷ [] in
    some_right (IsMentioned is_origin h) (header_prefixes r.tables [] (keys_of k))
    (record { path = path; kind = marks_of.element } ∷ record { path = top; kind = begun } ∷ [])
    (inr (inl (same_path-sound top h e, refl)))

begun_mentioned : (h : List Part) (r : Reading) (ls : List Line) → IsSome (last_line (begins h) r ls)
    → SomeOf (IsMentioned is_origin h) (lines_mentions r ls)
begun_mentioned h r [] s = absurd s
begun_mentioned h r (l ∷ ls) s =
    by (last_line (begins h) (after_line r l) ls) refl (begins h r l) refl (begun_mentioned h (after_line r l) ls) s
  where
    by : (o : Option ℕ) → last_line (begins h) (after_line r l) ls ≡ o → (b : Bool) → begins h r l ≡ b
        → (IsSome (last_line (begins h) (after_line r l) ls)
        → SomeOf (IsMentioned is_origin h) (lines_mentions (after_line r l) ls))
        → IsSome {A = ℕ} (elim o [ Some n ↦ Some (suc n) | None ↦ cond b (Some 0) None ])
        → SomeOf (IsMentioned is_origin h) (lines_mentions r (l ∷ ls))
    by (Some n) e b k more s =
        some_right (IsMentioned is_origin h) (line_mentions r l) (lines_mentions (after_line r l) ls)
        (more (subst (λ (o : Option ℕ). IsSome o) (sym e) tt))
    by None e true k more s =
        some_left (IsMentioned is_origin h) (line_mentions r l) (lines_mentions (after_line r l) ls)
        (content_begins h r l.before l.after l.comment l.content k)
    by None e false k more s = absurd s

-- ---- a line that names a path

module _ (s : Document) (h : List Part) (pre : List Line) (l : Line) (post : List Line)
    (was : lines s ≡ pre ++ l ∷ post) where
  abbrev r : Reading
  r = reading_after_lines start pre

  prepended : SomeOf (IsMentioned is_origin h) (lines_mentions start pre)
      → SomeOf (IsMentioned is_origin h) (mentions_in s)
  prepended x = subst (λ (ls : List Line). SomeOf (IsMentioned is_origin h) (lines_mentions start ls)) (sym was)
      (subst (SomeOf (IsMentioned is_origin h)) (sym (lines_mentions-append start pre (l ∷ post)))
      (some_left (IsMentioned is_origin h) (lines_mentions start pre) (lines_mentions r (l ∷ post)) x))

  in_line : SomeOf (IsMentioned is_origin h) (line_mentions r l) → SomeOf (IsMentioned is_origin h) (mentions_in s)
  in_line x = subst (λ (ls : List Line). SomeOf (IsMentioned is_origin h) (lines_mentions start ls)) (sym was)
      (subst (SomeOf (IsMentioned is_origin h)) (sym (lines_mentions-append start pre (l ∷ post)))
      (some_right (IsMentioned is_origin h) (lines_mentions start pre) (lines_mentions r (l ∷ post))
      (some_left (IsMentioned is_origin h) (line_mentions r l) (lines_mentions (after_line r l) post) x)))

  from_way : (prefixes : List Mention)
      → (SomeOf (IsMentioned is_origin h) prefixes → SomeOf (IsMentioned is_origin h) (line_mentions r l))
      → WayCase r.tables h prefixes → SomeOf (IsMentioned is_origin h) (mentions_in s)
  from_way prefixes carry (goes k) = in_line (carry (widened is_through through_origin h prefixes k))
  from_way prefixes carry (beyond_element k) =
      prepended (widened is_element element_origin h (lines_mentions start pre)
      (counted h (lines_mentions start pre)
      (subst (λ (t : List (List Part)). 0 < elements_of h t) (tables_stated start pre) k)))
  from_way prefixes carry (at_element q e k) =
      let n : ℕ = elements_of q r.tables in
      prepended (subst (λ (x : List Part). SomeOf (IsMentioned is_origin x) (lines_mentions start pre)) (sym e)
      (begun_mentioned (q ++ index (n - 1) ∷ []) start pre
      (tables_begin q (n - 1) start pre (omega arith) (omega (arith, k)))))

all_origins : (h : List Part) (ms : List Mention) → AllOf (λ (m : Mention). is_origin m.kind ≡ true) ms
    → SomeOf (IsNamedAt h) ms → SomeOf (IsMentioned is_origin h) ms
all_origins h [] a s = absurd s
all_origins h (m ∷ ms) a (inl e) = inl (e, a.0)
all_origins h (m ∷ ms) a (inr s) = inr (all_origins h ms a.1 s)

line_origin : (s : Document) (h : List Part) (pre : List Line) (before after : Gap) (comment : Option Written)
    (c : Content) (post : List Line)
    → (let l : Line = record { before = before; content = c; after = after; comment = comment } in
    lines s ≡ pre ++ l ∷ post → SomeOf (IsNamedAt h) (line_mentions (reading_after_lines start pre) l)
    → SomeOf (IsMentioned is_origin h) (mentions_in s))
line_origin s h pre before after comment blank post was x = absurd x
line_origin s h pre before after comment (keyval name v) post was x =
    let l : Line = record { before = before; content = keyval name v; after = after; comment = comment } in
    let body : List Part = (reading_after_lines start pre).body in
    in_line s h pre l post was (all_origins h (map (below body) (keyval_mentions name v))
    (mentioned_below (λ (a : MentionKind). is_origin a ≡ true) body (keyval_mentions name v)
    (mentions_keyval (λ (a : MentionKind). is_origin a ≡ true)
    (record { dot = refl; held = λ f. refl; unnamed = λ f. refl }) name v)) x)
line_origin s h pre before after comment (header b k a) post was x =
    let l : Line = record { before = before; content = header b k a; after = after; comment = comment } in
    let r : Reading = reading_after_lines start pre in
    let prefixes : List Mention = header_prefixes r.tables [] (keys_of k) in
    let end : List Mention = record { path = header_path r.tables [] (keys_of k); kind = define } ∷ [] in
    elim (some_cases (IsNamedAt h) prefixes end x) [
      | inl w ↦
          from_way s h pre l post was prefixes (λ g. some_left (IsMentioned is_origin h) prefixes end g)
          (way_case r.tables h [] (keys_of k) w)
      | inr t ↦
          in_line s h pre l post was (some_right (IsMentioned is_origin h) prefixes end
          (all_origins h end (refl, tt) t))
    ]
line_origin s h pre before after comment (element b k a) post was x =
    let l : Line = record { before = before; content = element b k a; after = after; comment = comment } in
    let r : Reading = reading_after_lines start pre in
    let prefixes : List Mention = header_prefixes r.tables [] (keys_of k) in
    let path : List Part = header_path r.tables [] (keys_of k) in
    let end : List Mention =
    record { path = path; kind = marks_of.element }
    ∷ record { path = path ++ index (elements_of path r.tables) ∷ []; kind = begun } ∷ [] in
    elim (some_cases (IsNamedAt h) prefixes end x) [
      | inl w ↦
          from_way s h pre l post was prefixes (λ g. some_left (IsMentioned is_origin h) prefixes end g)
          (way_case r.tables h [] (keys_of k) w)
      | inr t ↦
          in_line s h pre l post was (some_right (IsMentioned is_origin h) prefixes end
          (all_origins h end (refl, (refl, tt)) t))
    ]

-- What is mentioned at all is said to come from somewhere.
pub origin_mentioned : (s : Document) (h : List Part) → list_any (is_at h) (mentions_in s) ≡ true
    → SomeOf (IsMentioned is_origin h) (mentions_in s)
origin_mentioned s h node =
    let l = line_of_some (IsNamedAt h) start (lines s) (named_of h (mentions_in s) node) in
    line_origin s h l.pre l.here.before l.here.after l.here.comment l.here.content l.post l.was l.mentioned
