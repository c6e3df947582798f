-- Where a keyval says something of a path with one more step, one says something of the path, too, or the path is the
-- body of a line.
--
-- By induction: a key with several parts says something of each of its paths, and what is inside a value is said of
-- paths that go on from the value's (`topped`, `beyond_part`). A keyval's own paths begin at the body of its line.
--
-- Theorem: `kept_up`; `kept_of`: what keyvals say.
use Rattle.std.proofs.Common.{◌≡◌, ℕ, ◌+◌, ◌-◌, Bool, true, false, cond, List, [], ◌∷◌, ◌++◌, map, refl, sym, ap, subst}
use Rattle.std.proofs.Common.{◌∙◌, append-nil, append_assoc, Option, None, Some, ◌⊎◌, inl, inr}
use Rattle.std.specs.Prelude.{◌==◌}
use Rattle.keep_syntax.specs.Tree.{Written, Gap, Name, Entries, none, entry, Content, blank, keyval, header, element}
use Rattle.keep_syntax.specs.Tree.{Line, Document}
use Rattle.keep_path.specs.Path.{Part, key, index}
use Rattle.keep_meaning.specs.Counts.{is_value}
use Rattle.keep_meaning.specs.Fact.{Fact}
use Rattle.keep_meaning.specs.Marks as marks_of
use Rattle.keep_meaning.specs.Marks.{MentionKind, through, past, define, dotted, value, begun, passed, item, Mention}
use Rattle.keep_meaning.specs.Marks.{Reading, below, elements_of, entered_path, header_prefixes, passing_mentions}
use Rattle.keep_meaning.specs.Marks.{start}
use Rattle.keep_meaning.specs.Meaning.{after_line, body_fact, entries_mentions, entry_mentions, further_value}
use Rattle.keep_meaning.specs.Meaning.{key_value, keyed_mentions, keys_of, keyval_mentions, line_mentions, lines}
use Rattle.keep_meaning.specs.Meaning.{lines_mentions, mentions_in, reading_after_lines, valued_mentions}
use Rattle.keep_meaning.specs.Nodes.{is_dotted}
use Rattle.keep_edit_spec.proofs.Common.Doubles.{IsMentioned}
use Rattle.keep_edit_spec.proofs.Common.Runs.{SomeOf, some_left, some_right}
use Rattle.keep_edit_spec.proofs.Common.Stops.{some_mentioned_below, some_unbelow}
use Rattle.keep_edit_spec.proofs.Common.ValueThere.{some_cases}
use Rattle.keep_edit_spec.proofs.Insert.OneBase.{IsBody, body_after}
use Rattle.keep_edit_spec.proofs.Remove.Shift.{prefix_same}
use Rattle.keep_edit_spec.proofs.Rename.RenameInValue.{snoc_of}

-- said by a keyval
abbrev pub in_keyval : MentionKind → Bool
in_keyval dotted = true
in_keyval (value f) = true
in_keyval (item f) = true
in_keyval _ = false

abbrev pub IsKept : List Part → List Mention → Type 0
IsKept p ms = SomeOf (IsMentioned in_keyval p) ms

pub kept_of : (is : MentionKind → Bool) → ((k : MentionKind) → is k ≡ true → in_keyval k ≡ true) → (p : List Part)
    (ms : List Mention) → SomeOf (IsMentioned is p) ms → IsKept p ms
kept_of is more p [] s = s
kept_of is more p (m ∷ ms) (inl s) = inl (s.0, more m.kind s.1)
kept_of is more p (m ∷ ms) (inr s) = inr (kept_of is more p ms s)

pub dots_kept : (k : MentionKind) → is_dotted k ≡ true → in_keyval k ≡ true
dots_kept dotted is = refl
dots_kept other is = absurd cc

pub value_kept : (k : MentionKind) → is_value k ≡ true → in_keyval k ≡ true
value_kept (value f) is = refl
value_kept (item f) is = refl
value_kept other is = absurd cc

-- so it is of each path above, up to where the paths begin, or to there as well
abbrev FromStart : List Mention → Type 0
FromStart ms = (x : List Part) (p : Part) → IsKept (x ++ p ∷ []) ms → (x ≡ []) ⊎ IsKept x ms

abbrev WithStart : List Mention → Type 0
WithStart ms = (x : List Part) (p : Part) → IsKept (x ++ p ∷ []) ms → IsKept x ms

no_step : (x : List Part) (p : Part) → [] ≡ x ++ p ∷ [] → ⊥
no_step [] p e = cc
no_step (y ∷ x) p e = cc

topped : (k : MentionKind) (ms : List Mention) → in_keyval k ≡ true → FromStart ms
    → WithStart (record { path = []; kind = k } ∷ ms)
topped k ms is more x p (inl s) = absurd (no_step x p s.0)
topped k ms is more x p (inr s) = elim (more x p s) [ inl e ↦ inl (sym e, is) | inr h ↦ inr h ]

-- a path with one more step that goes on from others: they are it, or it goes on from them with one step less
record IsStepOf (s x y : List Part) : Type 0 where
  before : List Part
  last : Part
  ends : y ≡ before ++ last ∷ []
  whole : x ≡ s ++ before

step_of : (s x y : List Part) (p : Part) → x ++ p ∷ [] ≡ s ++ y → (y ≡ []) ⊎ IsStepOf s x y
step_of s x [] p e = inl refl
step_of s x (q ∷ ys) p e =
    let (before, last, ends) = snoc_of q ys in
    inr (record {
      before = before;
      last = last;
      ends = ends;
      whole = prefix_same x (s ++ before) p last
          (e ∙ ap (λ (l : List Part). s ++ l) ends ∙ sym (append_assoc s before (last ∷ [])));
    })

beyond_part : (k : Part) (ms : List Mention) → WithStart ms → FromStart (map (below (k ∷ [])) ms)
beyond_part k ms more x p s =
    let (y, (e, h)) = some_unbelow in_keyval (k ∷ []) (x ++ p ∷ []) ms s in
    elim (step_of (k ∷ []) x y p e) [
      | inl empty ↦ inl (prefix_same x [] p k (e ∙ ap (λ (l : List Part). k ∷ l) empty))
      | inr h' ↦
          inr (subst (λ (l : List Part). IsKept l (map (below (k ∷ [])) ms)) (sym h'.whole)
          (some_mentioned_below in_keyval (k ∷ []) h'.before ms
          (more h'.before h'.last (subst (λ (l : List Part). IsKept l ms) h'.ends h))))
    ]

of_keys : (k : List ℕ) (ks : List (List ℕ)) (ms : List Mention) → WithStart ms
    → FromStart (keyed_mentions (k ∷ ks) ms)
of_keys k [] ms more = beyond_part (key k) ms more
of_keys k (l ∷ ks) ms more =
    beyond_part (key k) (record { path = []; kind = dotted } ∷ keyed_mentions (l ∷ ks) ms)
    (topped dotted (keyed_mentions (l ∷ ks) ms) refl (of_keys l ks ms more))

of_entry : (n : ℕ) (name : Option Name) (f : Fact) (ms : List Mention) → FromStart ms
    → FromStart (entry_mentions n name f ms)
of_entry n None f ms more = beyond_part (index n) (valued_mentions (item f) ms) (topped (item f) ms refl more)
of_entry n (Some name) f ms more =
    of_keys (key_value name.key.first) (map further_value name.key.more) (valued_mentions (value f) ms)
    (topped (value f) ms refl more)

of_both : (ms ns : List Mention) → FromStart ms → FromStart ns → FromStart (ms ++ ns)
of_both ms ns f g x p s = elim (some_cases (IsMentioned in_keyval (x ++ p ∷ [])) ms ns s) [
  | inl h ↦ (elim (f x p h) [ inl e ↦ inl e | inr t ↦ inr (some_left (IsMentioned in_keyval x) ms ns t) ])
  | inr h ↦ (elim (g x p h) [ inl e ↦ inl e | inr t ↦ inr (some_right (IsMentioned in_keyval x) ms ns t) ])
]

of_entries : (n : ℕ) (es : Entries) → FromStart (entries_mentions n es)
of_entries n none = λ x p s. absurd s
of_entries n (entry name body nested after comma rest) =
    of_both (entry_mentions n name (body_fact body) (entries_mentions 0 nested)) (entries_mentions (n + 1) rest)
    (of_entry n name (body_fact body) (entries_mentions 0 nested) (of_entries 0 nested)) (of_entries (n + 1) rest)

-- ---- a line

-- a key has a part
never_at_start : (k : List ℕ) (ks : List (List ℕ)) (ms : List Mention) → IsKept [] (keyed_mentions (k ∷ ks) ms) → ⊥
never_at_start k [] ms s = let (y, (e, h)) = some_unbelow in_keyval (key k ∷ []) [] ms s in cc
never_at_start k (l ∷ ks) ms s =
    let (y, (e, h)) =
    some_unbelow in_keyval (key k ∷ []) [] (record { path = []; kind = dotted } ∷ keyed_mentions (l ∷ ks) ms) s in cc

no_pass : (q x : List Part) (n : ℕ) (b : Bool)
    → SomeOf (IsMentioned in_keyval x)
    (cond b (record { path = q; kind = through } ∷ [])
    (record { path = q; kind = past } ∷ record { path = cond b q (q ++ index n ∷ []); kind = passed } ∷ [])) → ⊥
no_pass q x n true (inl h) = let no : in_keyval through ≡ true = h.1 in absurd cc
no_pass q x n true (inr h) = h
no_pass q x n false (inl h) = let no : in_keyval past ≡ true = h.1 in absurd cc
no_pass q x n false (inr (inl h)) = let no : in_keyval passed ≡ true = h.1 in absurd cc
no_pass q x n false (inr (inr h)) = h

no_prefixes : (tables : List (List Part)) (at : List Part) (keys : List (List ℕ)) (x : List Part)
    → SomeOf (IsMentioned in_keyval x) (header_prefixes tables at keys) → ⊥
no_prefixes tables at [] x h = h
no_prefixes tables at (k ∷ []) x h = h
no_prefixes tables at (k ∷ l ∷ ks) x h =
    let q : List Part = at ++ key k ∷ [] in
    elim (some_cases (IsMentioned in_keyval x) (passing_mentions tables q)
    (header_prefixes tables (entered_path tables q) (l ∷ ks)) h) [
      | inl s ↦ no_pass q x (elements_of q tables - 1) (0 == elements_of q tables) s
      | inr s ↦ no_prefixes tables (entered_path tables q) (l ∷ ks) x s
    ]

line_kept : (r : Reading) (before after : Gap) (comment : Option Written) (c : Content) (x : List Part) (p : Part)
    → (let l : Line = record { before = before; content = c; after = after; comment = comment } in
    IsKept (x ++ p ∷ []) (line_mentions r l) → (x ≡ r.body) ⊎ IsKept x (line_mentions r l))
line_kept r before after comment blank x p s = absurd s
line_kept r before after comment (header b k a) x p s =
    elim (some_cases (IsMentioned in_keyval (x ++ p ∷ [])) (header_prefixes r.tables [] (keys_of k)) _ s) [
      | inl w ↦ absurd (no_prefixes r.tables [] (keys_of k) (x ++ p ∷ []) w)
      | inr t ↦ (elim t [ inl h ↦ (let no : in_keyval define ≡ true = h.1 in absurd cc) | inr h ↦ absurd h ])
    ]
line_kept r before after comment (element b k a) x p s =
    elim (some_cases (IsMentioned in_keyval (x ++ p ∷ [])) (header_prefixes r.tables [] (keys_of k)) _ s) [
      | inl w ↦ absurd (no_prefixes r.tables [] (keys_of k) (x ++ p ∷ []) w)
      | inr t ↦ (elim t [
        | inl h ↦ (let no : in_keyval marks_of.element ≡ true = h.1 in absurd cc)
        | inr u ↦ (elim u [ inl h ↦ (let no : in_keyval begun ≡ true = h.1 in absurd cc) | inr h ↦ absurd h ])
      ])
    ]
line_kept r before after comment (keyval name v) x p s =
    let ms : List Mention = keyval_mentions name v in
    let (y, (e, h)) = some_unbelow in_keyval r.body (x ++ p ∷ []) ms s in
    elim (step_of r.body x y p e) [
      | inl empty ↦
          absurd (never_at_start (key_value name.key.first) (map further_value name.key.more)
          (valued_mentions (value (body_fact v.body)) (entries_mentions 0 v.nested))
          (subst (λ (l : List Part). IsKept l ms) empty h))
      | inr g ↦
          (elim (of_entry 0 (Some name) (body_fact v.body) (entries_mentions 0 v.nested) (of_entries 0 v.nested)
          g.before g.last (subst (λ (l : List Part). IsKept l ms) g.ends h)) [
            | inl empty ↦ inl (g.whole ∙ ap (λ (l : List Part). r.body ++ l) empty ∙ append-nil r.body)
            | inr t ↦
                inr (subst (λ (l : List Part). IsKept l (map (below r.body) ms)) (sym g.whole)
                (some_mentioned_below in_keyval r.body g.before ms t))
          ])
    ]

-- ---- lines

-- it is the body after some of these lines
record IsBodyAmong (r : Reading) (ls : List Line) (x : List Part) : Type 0 where
  first : List Line
  rest : List Line
  whole : ls ≡ first ++ rest
  body : x ≡ (reading_after_lines r first).body

lines_kept : (r : Reading) (ls : List Line) (x : List Part) (p : Part) → IsKept (x ++ p ∷ []) (lines_mentions r ls)
    → IsBodyAmong r ls x ⊎ IsKept x (lines_mentions r ls)
lines_kept r [] x p s = absurd s
lines_kept r (l ∷ ls) x p s =
    let one : List Mention = line_mentions r l in
    let more : List Mention = lines_mentions (after_line r l) ls in
    elim (some_cases (IsMentioned in_keyval (x ++ p ∷ [])) one more s) [
      | inl h ↦ (elim (line_kept r l.before l.after l.comment l.content x p h) [
        | inl e ↦ inl (record { first = []; rest = l ∷ ls; whole = refl; body = e })
        | inr t ↦ inr (some_left (IsMentioned in_keyval x) one more t)
      ])
      | inr h ↦ (elim (lines_kept (after_line r l) ls x p h) [
        | inl b ↦
            inl (record {
              first = l ∷ b.first;
              rest = b.rest;
              whole = ap (λ (k : List Line). l ∷ k) b.whole;
              body = b.body;
            })
        | inr t ↦ inr (some_right (IsMentioned in_keyval x) one more t)
      ])
    ]

pub kept_up : (s : Document) (x : List Part) (p : Part) → IsKept (x ++ p ∷ []) (mentions_in s)
    → IsBody x (mentions_in s) ⊎ IsKept x (mentions_in s)
kept_up s x p h = elim (lines_kept start (lines s) x p h) [
  | inl b ↦
      inl (subst (λ (q : List Part). IsBody q (mentions_in s)) (sym b.body) (body_after s b.first b.rest b.whole))
  | inr t ↦ inr t
]
