-- The table from which dots lead to a path: that of a line's body, or a value in braces.
--
-- A key of several parts says its dots of each proper prefix. So where dots are said of a path, it is a base and keys
-- after it, and dots are said of all that is between (`IsDottedFrom`). The base is the body of a line's keyval, or the
-- value, said as such, that the keyval is in (`IsDottedIn`).
--
-- Theorem: `dotted_where`.
use Rattle.std.proofs.Common.{◌≡◌, ℕ, ◌+◌, true, false, List, [], ◌∷◌, ◌++◌, map, refl, sym, ap, subst, ◌∙◌}
use Rattle.std.proofs.Common.{append_assoc, Option, Some, None, ◌⊎◌, inl, inr}
use Rattle.keep_syntax.specs.Tree.{Written, Gap, Name, Entries, none, entry, Value, Content, blank, keyval, header}
use Rattle.keep_syntax.specs.Tree.{element, Line}
use Rattle.keep_path.specs.Path.{Part, key, index}
use Rattle.keep_meaning.specs.Marks as marks_of
use Rattle.keep_meaning.specs.Marks.{MentionKind, define, value, begun, item, Mention, Reading, below, header_prefixes}
use Rattle.keep_meaning.specs.Meaning.{keys_of, body_fact, valued_mentions, keyed_mentions, entry_mentions}
use Rattle.keep_meaning.specs.Meaning.{entries_mentions, keyval_mentions, line_mentions, after_line, lines_mentions}
use Rattle.keep_meaning.specs.Fact.{Fact}
use Rattle.keep_meaning.specs.Counts.{is_value}
use Rattle.keep_meaning.specs.Nodes.{is_dotted}
use Rattle.keep_edit_spec.specs.Lines.{last_line, leads_dotted}
use Rattle.keep_edit_spec.proofs.Common.Runs.{SomeOf, some_left, some_right}
use Rattle.keep_edit_spec.proofs.Common.SetLaw.{keyed_split}
use Rattle.keep_edit_spec.proofs.Common.Doubles.{IsMentioned, some_has}
use Rattle.keep_edit_spec.proofs.Common.Stops.{stops, keyed_stops, some_unbelow, some_mentioned_below, Continues}
use Rattle.keep_edit_spec.proofs.Common.Stops.{dotted_prefix}
use Rattle.keep_edit_spec.proofs.Common.ValueThere.{IsSome, some_cases}
use Rattle.keep_edit_spec.proofs.Common.RemoveThere.{some_here, some_later}
use Rattle.keep_edit_spec.proofs.Common.ThroughAlone.{no_dotted_prefixes}

-- ---- dots from a path on

-- By keys alone the one path continues to the other, and each path on the way, the last among them, is mentioned by
-- dots.
pub record IsDottedFrom (ms : List Mention) (x base : List Part) : Type 0 where
  pub first : List ℕ
  pub prefix : List (List ℕ)
  pub whole : x ≡ base ++ map key (first ∷ prefix)
  pub dots : (g : List ℕ) (gs back : List (List ℕ)) → first ∷ prefix ≡ g ∷ (gs ++ back)
      → SomeOf (IsMentioned is_dotted (base ++ map key (g ∷ gs))) ms

-- from a value
pub record IsDottedIn (ms : List Mention) (x : List Part) : Type 0 where
  pub base : List Part
  pub held : SomeOf (IsMentioned is_value base) ms
  pub from : IsDottedFrom ms x base

pub from_left : (x base : List Part) (ms more : List Mention) → IsDottedFrom ms x base
    → IsDottedFrom (ms ++ more) x base
from_left x base ms more h =
    record {
      first = h.first;
      prefix = h.prefix;
      whole = h.whole;
      dots = λ g gs back e. some_left (IsMentioned is_dotted (base ++ map key (g ∷ gs))) ms more (h.dots g gs back e);
    }

pub from_right : (x base : List Part) (more ms : List Mention) → IsDottedFrom ms x base
    → IsDottedFrom (more ++ ms) x base
from_right x base more ms h =
    record {
      first = h.first;
      prefix = h.prefix;
      whole = h.whole;
      dots = λ g gs back e. some_right (IsMentioned is_dotted (base ++ map key (g ∷ gs))) more ms (h.dots g gs back e);
    }

pub from_below : (s x base : List Part) (ms : List Mention) → IsDottedFrom ms x base
    → IsDottedFrom (map (below s) ms) (s ++ x) (s ++ base)
from_below s x base ms h = record {
  first = h.first;
  prefix = h.prefix;
  whole = ap (λ (q : List Part). s ++ q) h.whole ∙ sym (append_assoc s base (map key (h.first ∷ h.prefix)));
  dots = λ g gs back e.
      subst (λ (q : List Part). SomeOf (IsMentioned is_dotted q) (map (below s) ms))
      (sym (append_assoc s base (map key (g ∷ gs))))
      (some_mentioned_below is_dotted s (base ++ map key (g ∷ gs)) ms (h.dots g gs back e));
}

pub in_left : (x : List Part) (ms more : List Mention) → IsDottedIn ms x → IsDottedIn (ms ++ more) x
in_left x ms more h =
    record {
      base = h.base;
      held = some_left (IsMentioned is_value h.base) ms more h.held;
      from = from_left x h.base ms more h.from;
    }

pub in_right : (x : List Part) (more ms : List Mention) → IsDottedIn ms x → IsDottedIn (more ++ ms) x
in_right x more ms h =
    record {
      base = h.base;
      held = some_right (IsMentioned is_value h.base) more ms h.held;
      from = from_right x h.base more ms h.from;
    }

pub in_below : (s x : List Part) (ms : List Mention) → IsDottedIn ms x → IsDottedIn (map (below s) ms) (s ++ x)
in_below s x ms h =
    record {
      base = s ++ h.base;
      held = some_mentioned_below is_value s h.base ms h.held;
      from = from_below s x h.base ms h.from;
    }

-- ---- a key's own dots

stops_mentioned : (g : List ℕ) (gs back : List (List ℕ))
    → SomeOf (IsMentioned is_dotted (map key (g ∷ gs))) (stops (g ∷ (gs ++ back)))
stops_mentioned g [] back = inl (refl, refl)
stops_mentioned g (h ∷ hs) back =
    inr (some_mentioned_below is_dotted (key g ∷ []) (map key (h ∷ hs)) (stops (h ∷ (hs ++ back)))
    (stops_mentioned h hs back))

-- of a keyval whose key continues from the path
pub own_from : (keys : List (List ℕ)) (x : List Part) (vs : List Mention) → Continues keys x
    → IsDottedFrom (keyed_mentions keys vs) x []
own_from keys x vs g =
    let prefix : List (List ℕ) = g.first ∷ g.prefix in
    let run : List Mention = map (below (map key prefix)) (keyed_mentions (g.next ∷ g.more) vs) in
    let is : keyed_mentions keys vs ≡ stops prefix ++ run =
    ap (λ (l : List (List ℕ)). keyed_mentions l vs) g.whole ∙ keyed_stops prefix g.next g.more vs in
    record {
      first = g.first;
      prefix = g.prefix;
      whole = g.path;
      dots = λ f fs back e. subst (SomeOf (IsMentioned is_dotted (map key (f ∷ fs)))) (sym is)
          (some_left (IsMentioned is_dotted (map key (f ∷ fs))) (stops prefix) run
          (subst (λ (l : List (List ℕ)). SomeOf (IsMentioned is_dotted (map key (f ∷ fs))) (stops l)) (sym e)
          (stops_mentioned f fs back)));
    }

-- ---- inside a value

abbrev Nested : List Mention → List Part → Type 0
Nested ms x = IsDottedFrom ms x [] ⊎ IsDottedIn ms x

-- the value itself is said, and then what is inside it
valued_in : (mention_kind : MentionKind) (x : List Part) (ms : List Mention) → is_value mention_kind ≡ true
    → Nested ms x → IsDottedIn (valued_mentions mention_kind ms) x
valued_in mention_kind x ms v (inl h) =
    record {
      base = [];
      held = inl (refl, v);
      from = from_right x [] (record { path = []; kind = mention_kind } ∷ []) ms h;
    }
valued_in mention_kind x ms v (inr h) = in_right x (record { path = []; kind = mention_kind } ∷ []) ms h

valued_dotted : (mention_kind : MentionKind) (x : List Part) (ms : List Mention) → is_value mention_kind ≡ true
    → is_dotted mention_kind ≡ false → (SomeOf (IsMentioned is_dotted x) ms → Nested ms x)
    → SomeOf (IsMentioned is_dotted x) (valued_mentions mention_kind ms)
    → IsDottedIn (valued_mentions mention_kind ms) x
valued_dotted mention_kind x ms v other nested (inl h) = let yes : is_dotted mention_kind ≡ true = h.1 in absurd cc
valued_dotted mention_kind x ms v other nested (inr h) = valued_in mention_kind x ms v (nested h)

-- what a keyval says inside its value
pub deep_in : (name : Name) (x : List Part) (vs : List Mention) → IsDottedIn vs x
    → IsDottedIn (keyed_mentions (keys_of name.key) vs) (map key (keys_of name.key) ++ x)
deep_in name x vs h =
    subst (λ (l : List Mention). IsDottedIn l (map key (keys_of name.key) ++ x))
    (sym (keyed_split (keys_of name.key) vs))
    (in_right (map key (keys_of name.key) ++ x) (keyed_mentions (keys_of name.key) [])
    (map (below (map key (keys_of name.key))) vs) (in_below (map key (keys_of name.key)) x vs h))

named_nested : (n : ℕ) (name : Option Name) (f : Fact) (ms : List Mention) (x : List Part)
    → ((y : List Part) → SomeOf (IsMentioned is_dotted y) ms → Nested ms y)
    → SomeOf (IsMentioned is_dotted x) (entry_mentions n name f ms) → Nested (entry_mentions n name f ms) x
named_nested n None f ms x nested s =
    let u = some_unbelow is_dotted (index n ∷ []) x (valued_mentions (item f) ms) s in
    inr (subst (IsDottedIn (map (below (index n ∷ [])) (valued_mentions (item f) ms))) (sym u.1.0)
    (in_below (index n ∷ []) u.0 (valued_mentions (item f) ms)
    (valued_dotted (item f) u.0 ms refl refl (nested u.0) u.1.1)))
named_nested n (Some name) f ms x nested s =
    let keys : List (List ℕ) = keys_of name.key in
    let vs : List Mention = valued_mentions (value f) ms in
    elim (some_cases (IsMentioned is_dotted x) (keyed_mentions keys []) (map (below (map key keys)) vs)
    (subst (SomeOf (IsMentioned is_dotted x)) (keyed_split keys vs) s)) [
      | inl own ↦ inl (own_from keys x vs (dotted_prefix keys x own))
      | inr deep ↦
          (let u = some_unbelow is_dotted (map key keys) x vs deep in
          inr (subst (IsDottedIn (keyed_mentions keys vs)) (sym u.1.0)
          (deep_in name u.0 vs (valued_dotted (value f) u.0 ms refl refl (nested u.0) u.1.1))))
    ]

join_nested : (x : List Part) (ms more : List Mention) → (SomeOf (IsMentioned is_dotted x) ms → Nested ms x)
    → (SomeOf (IsMentioned is_dotted x) more → Nested more x)
    → SomeOf (IsMentioned is_dotted x) (ms ++ more) → Nested (ms ++ more) x
join_nested x ms more f g s = elim (some_cases (IsMentioned is_dotted x) ms more s) [
  | inl h ↦ (elim (f h) [ inl a ↦ inl (from_left x [] ms more a) | inr b ↦ inr (in_left x ms more b) ])
  | inr h ↦ (elim (g h) [ inl a ↦ inl (from_right x [] ms more a) | inr b ↦ inr (in_right x ms more b) ])
]

entries_nested : (n : ℕ) (es : Entries) (x : List Part) → SomeOf (IsMentioned is_dotted x) (entries_mentions n es)
    → Nested (entries_mentions n es) x
entries_nested n none x s = absurd s
entries_nested n (entry name body nested after comma rest) x s =
    join_nested x (entry_mentions n name (body_fact body) (entries_mentions 0 nested)) (entries_mentions (n + 1) rest)
    (named_nested n name (body_fact body) (entries_mentions 0 nested) x (entries_nested 0 nested))
    (entries_nested (n + 1) rest x) s

-- what is said inside a keyval's value, that it is one among it
pub nested_keyval : (v : Value) (x : List Part)
    → SomeOf (IsMentioned is_dotted x) (valued_mentions (value (body_fact v.body)) (entries_mentions 0 v.nested))
    → IsDottedIn (valued_mentions (value (body_fact v.body)) (entries_mentions 0 v.nested)) x
nested_keyval v x s =
    valued_dotted (value (body_fact v.body)) x (entries_mentions 0 v.nested) refl refl (entries_nested 0 v.nested x) s

-- ---- lines

line_where : (a : List Part) (r : Reading) (before after : Gap) (comment : Option Written) (c : Content)
    → (let l : Line = record { before = before; content = c; after = after; comment = comment } in
    SomeOf (IsMentioned is_dotted a) (line_mentions r l)
    → (leads_dotted a r l ≡ true) ⊎ IsDottedIn (line_mentions r l) a)
line_where a r before after comment blank s = absurd s
line_where a r before after comment (header b k x) s =
    elim (some_cases (IsMentioned is_dotted a) (header_prefixes r.tables [] (keys_of k)) _ s) [
      | inl w ↦ absurd (no_dotted_prefixes r.tables [] (keys_of k) a w)
      | inr t ↦ (elim t [ inl h ↦ (let no : is_dotted define ≡ true = h.1 in absurd cc) | inr h ↦ absurd h ])
    ]
line_where a r before after comment (element b k x) s =
    elim (some_cases (IsMentioned is_dotted a) (header_prefixes r.tables [] (keys_of k)) _ s) [
      | inl w ↦ absurd (no_dotted_prefixes r.tables [] (keys_of k) a w)
      | inr t ↦ (elim t [
        | inl h ↦ (let no : is_dotted marks_of.element ≡ true = h.1 in absurd cc)
        | inr u ↦ (elim u [ inl h ↦ (let no : is_dotted begun ≡ true = h.1 in absurd cc) | inr h ↦ absurd h ])
      ])
    ]
line_where a r before after comment (keyval name v) s =
    let keys : List (List ℕ) = keys_of name.key in
    let vs : List Mention = valued_mentions (value (body_fact v.body)) (entries_mentions 0 v.nested) in
    let u = some_unbelow is_dotted r.body a (keyval_mentions name v) s in
    elim (some_cases (IsMentioned is_dotted u.0) (keyed_mentions keys []) (map (below (map key keys)) vs)
    (subst (SomeOf (IsMentioned is_dotted u.0)) (keyed_split keys vs) u.1.1)) [
      | inl own ↦ inl (some_has is_dotted a (map (below r.body) (keyed_mentions keys []))
          (subst (λ (p : List Part). SomeOf (IsMentioned is_dotted p) (map (below r.body) (keyed_mentions keys [])))
          (sym u.1.0) (some_mentioned_below is_dotted r.body u.0 (keyed_mentions keys []) own)))
      | inr deep ↦
          (let w = some_unbelow is_dotted (map key keys) u.0 vs deep in
          inr (subst (IsDottedIn (map (below r.body) (keyval_mentions name v)))
          (sym (u.1.0 ∙ ap (λ (q : List Part). r.body ++ q) w.1.0))
          (in_below r.body (map key keys ++ w.0) (keyval_mentions name v)
          (deep_in name w.0 vs (nested_keyval v w.0 w.1.1)))))
    ]

-- A path that dots are said of: a line's key continues from it, or a key in braces does.
pub dotted_where : (a : List Part) (r : Reading) (ls : List Line)
    → SomeOf (IsMentioned is_dotted a) (lines_mentions r ls)
    → IsSome (last_line (leads_dotted a) r ls) ⊎ IsDottedIn (lines_mentions r ls) a
dotted_where a r [] s = absurd s
dotted_where a r (l ∷ ls) s =
    elim (some_cases (IsMentioned is_dotted a) (line_mentions r l) (lines_mentions (after_line r l) ls) s) [
      | inl h ↦ (elim (line_where a r l.before l.after l.comment l.content h) [
        | inl e ↦ inl (some_here (leads_dotted a) r l ls e)
        | inr k ↦ inr (in_left a (line_mentions r l) (lines_mentions (after_line r l) ls) k)
      ])
      | inr h ↦ (elim (dotted_where a (after_line r l) ls h) [
        | inl e ↦ inl (some_later (leads_dotted a) r l ls e)
        | inr k ↦ inr (in_right a (line_mentions r l) (lines_mentions (after_line r l) ls) k)
      ])
    ]
