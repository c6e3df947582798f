-- A path to which dots lead from a line's body has no other base: no keyval in braces leads to it by dots.
--
-- Two bases of a path are prefixes of it, with keys alone after them (`prefixes_of`). If one is longer, then dots are
-- said of it as well; but of a body's path a header says what dots may not be beside, or it is the root or an element,
-- and of a value's path nothing else may be said. If they are the same, a body and a value have one path, which the
-- rules don't allow either.
--
-- Theorems: `body_after`, `line_base`, `not_in_braces`.
use Rattle.std.proofs.Common.{◌≡◌, ℕ, Bool, true, false, List, [], ◌∷◌, ◌++◌, map, refl, sym, ap, subst, ◌∙◌, Option}
use Rattle.std.proofs.Common.{◌⊎◌, inl, inr, ◌||◌}
use Rattle.std.proofs.lemmas.List.{append-nil}
use Rattle.keep_syntax.specs.Tree.{Written, Gap, Content, blank, keyval, header, element, Line, Document}
use Rattle.keep_path.specs.Path.{Part, key, index}
use Rattle.keep_meaning.specs.Marks as marks_of
use Rattle.keep_meaning.specs.Marks.{MentionKind, through, define, dotted, value, item, Mention, Reading, start, below}
use Rattle.keep_meaning.specs.Meaning.{keys_of, body_fact, valued_mentions, keyed_mentions, entries_mentions}
use Rattle.keep_meaning.specs.Meaning.{line_mentions, after_line, lines_mentions, reading_after_lines, lines}
use Rattle.keep_meaning.specs.Meaning.{mentions_in}
use Rattle.keep_meaning.specs.Counts.{is_value}
use Rattle.keep_meaning.specs.Nodes.{is_define, is_begun, is_dotted, is_element}
use Rattle.keep_edit_spec.specs.Lines.{leads_dotted, is_header}
use Rattle.keep_edit_spec.proofs.Common.Runs.{AllOf, SomeOf, Allowed, Rules, kinds_allow, exclusive, some_left}
use Rattle.keep_edit_spec.proofs.Common.Runs.{some_right, same_path-refl}
use Rattle.keep_edit_spec.proofs.Common.SetLaw.{IsAloneAt}
use Rattle.keep_edit_spec.proofs.Common.BodyEnd.{IsStated, begins_stated}
use Rattle.keep_edit_spec.proofs.Common.Doubles.{IsMentioned, has_some}
use Rattle.keep_edit_spec.proofs.Common.FromMarks.{IsFormed, Formed}
use Rattle.keep_edit_spec.proofs.Common.FromMarksLines.{formed_lines}
use Rattle.keep_edit_spec.proofs.Common.LineLaws.{EndsInKey, lines_mentions-append}
use Rattle.keep_edit_spec.proofs.Common.Stops.{some_unbelow, dotted_prefix}
use Rattle.keep_edit_spec.proofs.Remove.ElementThere.{begun_alone}
use Rattle.keep_edit_spec.proofs.Remove.RemoveRefusal.{lines_begun, never_begun}
use Rattle.keep_edit_spec.proofs.Insert.DottedBase.{IsDottedFrom, IsDottedIn, from_below, own_from}
use Rattle.keep_edit_spec.proofs.Insert.Origins.{dotted_ends, no_root}

-- ---- what may not be said beside one another

clash : (P Q : MentionKind → Bool)
    → ((a b : MentionKind) → P a ≡ true → Q b ≡ true → (kinds_allow a b ≡ false) × (kinds_allow b a ≡ false))
    → ((a : MentionKind) → P a ≡ true → Q a ≡ true → ⊥) → (p : List Part) (ms : List Mention)
    → SomeOf (IsMentioned P p) ms → SomeOf (IsMentioned Q p) ms → Rules ms → ⊥
clash P Q never disjoint p [] s t rules = s
clash P Q never disjoint p (m ∷ ms) (inl s) (inl t) rules = disjoint m.kind s.1 t.1
clash P Q never disjoint p (m ∷ ms) (inr s) (inr t) rules = clash P Q never disjoint p ms s t rules.1
clash P Q never disjoint p (m ∷ ms) (inl s) (inr t) rules = against ms t rules.0
  where
    against : (xs : List Mention) → SomeOf (IsMentioned Q p) xs → AllOf (Allowed m) xs → ⊥
    against [] t h = t
    against (x ∷ xs) (inl t) h =
        let k : true ≡ false = sym (h.0 (s.0 ∙ sym t.0)) ∙ (never m.kind x.kind s.1 t.1).0 in absurd cc
    against (x ∷ xs) (inr t) h = against xs t h.1
clash P Q never disjoint p (m ∷ ms) (inr s) (inl t) rules = against ms s rules.0
  where
    against : (xs : List Mention) → SomeOf (IsMentioned P p) xs → AllOf (Allowed m) xs → ⊥
    against [] s h = s
    against (x ∷ xs) (inl s) h =
        let k : true ≡ false = sym (h.0 (t.0 ∙ sym s.0)) ∙ (never x.kind m.kind s.1 t.1).1 in absurd cc
    against (x ∷ xs) (inr s) h = against xs s h.1

-- a value, a header's table, or an array of tables: none is gone on from by dots
abbrev no_dots : MentionKind → Bool
no_dots (value f) = true
no_dots (item f) = true
no_dots define = true
no_dots marks_of.element = true
no_dots _ = false

dots_disjoint : (a b : MentionKind) → is_dotted a ≡ true → no_dots b ≡ true
    → (kinds_allow a b ≡ false) × (kinds_allow b a ≡ false)
dots_disjoint dotted (value f) h g = (refl, refl)
dots_disjoint dotted (item f) h g = (refl, refl)
dots_disjoint dotted define h g = (refl, refl)
dots_disjoint dotted marks_of.element h g = (refl, refl)
dots_disjoint dotted other h g = absurd cc
dots_disjoint other b h g = absurd cc

dots_not : (a : MentionKind) → is_dotted a ≡ true → no_dots a ≡ true → ⊥
dots_not dotted h g = absurd cc
dots_not other h g = absurd cc

value_no_dots : (a : MentionKind) → is_value a ≡ true → (no_dots a ≡ true) × (exclusive a ≡ true)
value_no_dots (value f) h = (refl, refl)
value_no_dots (item f) h = (refl, refl)
value_no_dots other h = absurd cc

define_no_dots : (a : MentionKind) → is_define a ≡ true → no_dots a ≡ true
define_no_dots define h = refl
define_no_dots other h = absurd cc

element_no_dots : (a : MentionKind) → is_element a ≡ true → no_dots a ≡ true
element_no_dots marks_of.element h = refl
element_no_dots other h = absurd cc

some_as : (P Q : MentionKind → Bool) → ((a : MentionKind) → P a ≡ true → Q a ≡ true)
    → (p : List Part) (ms : List Mention) → SomeOf (IsMentioned P p) ms → SomeOf (IsMentioned Q p) ms
some_as P Q f p [] s = s
some_as P Q f p (m ∷ ms) (inl s) = inl (s.0, f m.kind s.1)
some_as P Q f p (m ∷ ms) (inr s) = inr (some_as P Q f p ms s)

module _ (p : List Part) (s : Document) (rules : Rules (mentions_in s))
    (dots : SomeOf (IsMentioned is_dotted p) (mentions_in s)) where
  pub no_value : SomeOf (IsMentioned is_value p) (mentions_in s) → ⊥
  no_value h =
      clash is_dotted no_dots dots_disjoint dots_not p (mentions_in s) dots
      (some_as is_value no_dots (λ a e. (value_no_dots a e).0) p (mentions_in s) h) rules

  pub no_define : SomeOf (IsMentioned is_define p) (mentions_in s) → ⊥
  no_define h =
      clash is_dotted no_dots dots_disjoint dots_not p (mentions_in s) dots
      (some_as is_define no_dots define_no_dots p (mentions_in s) h) rules

  pub no_element : SomeOf (IsMentioned is_element p) (mentions_in s) → ⊥
  no_element h =
      clash is_dotted no_dots dots_disjoint dots_not p (mentions_in s) dots
      (some_as is_element no_dots element_no_dots p (mentions_in s) h) rules

  pub no_begun : SomeOf (IsMentioned is_begun p) (mentions_in s) → ⊥
  no_begun h = never_begun p (mentions_in s) (lines_begun p (dotted_ends p s dots) start (lines s)) h

-- ---- a body is the root's or a header's

abbrev pub IsBody : List Part → List Mention → Type 0
IsBody b ms = (b ≡ []) ⊎ (SomeOf (IsMentioned is_define b) ms ⊎ SomeOf (IsMentioned is_begun b) ms)

stated_body : (b : List Part) (ms : List Mention) → SomeOf (IsStated b) ms → IsBody b ms
stated_body b ms h = inr (by ms h)
  where
    by : (ms : List Mention) → SomeOf (IsStated b) ms
        → SomeOf (IsMentioned is_define b) ms ⊎ SomeOf (IsMentioned is_begun b) ms
    by [] h = absurd h
    by (m ∷ ms) (inl h) = one (is_define m.kind) refl (is_begun m.kind) refl h.1
      where
        one : (c : Bool) → is_define m.kind ≡ c → (d : Bool) → is_begun m.kind ≡ d
            → (is_define m.kind || is_begun m.kind) ≡ true
            → SomeOf (IsMentioned is_define b) (m ∷ ms) ⊎ SomeOf (IsMentioned is_begun b) (m ∷ ms)
        one true e d f k = inl (inl (h.0, e))
        one false e true f k = inr (inl (h.0, f))
        one false e false f k = let no : (is_define m.kind || is_begun m.kind) ≡ false = rw (e, f) refl in absurd cc
    by (m ∷ ms) (inr h) = elim (by ms h) [ inl a ↦ inl (inr a) | inr a ↦ inr (inr a) ]

plain_content : (r : Reading) (before after : Gap) (comment : Option Written) (c : Content) → is_header c ≡ false
    → after_line r (record { before = before; content = c; after = after; comment = comment }) ≡ r
plain_content r before after comment blank h = refl
plain_content r before after comment (keyval name v) h = refl
plain_content r before after comment (header b k a) h = absurd cc
plain_content r before after comment (element b k a) h = absurd cc

body_stated : (r : Reading) (ls : List Line)
    → ((reading_after_lines r ls).body ≡ r.body)
    ⊎ SomeOf (IsStated (reading_after_lines r ls).body) (lines_mentions r ls)
body_stated r [] = inl refl
body_stated r (l ∷ ls) = elim (body_stated (after_line r l) ls) [
  | inr h ↦
      inr (some_right (IsStated (reading_after_lines (after_line r l) ls).body) (line_mentions r l)
      (lines_mentions (after_line r l) ls) h)
  | inl e ↦ by (is_header l.content) refl e
]
  where
    at : List Part
    at = (reading_after_lines (after_line r l) ls).body

    by : (b : Bool) → is_header l.content ≡ b → at ≡ (after_line r l).body
        → (at ≡ r.body) ⊎ SomeOf (IsStated at) (lines_mentions r (l ∷ ls))
    by false h e = inl (e ∙ ap (λ (x : Reading). x.body) (plain_content r l.before l.after l.comment l.content h))
    by true h e =
        let stated : SomeOf (IsStated (after_line r l).body) (line_mentions r l) =
        begins_stated (after_line r l).body r l (rw h (same_path-refl (after_line r l).body)) in
        inr (subst (λ (p : List Part). SomeOf (IsStated p) (lines_mentions r (l ∷ ls))) (sym e)
        (some_left (IsStated (after_line r l).body) (line_mentions r l) (lines_mentions (after_line r l) ls) stated))

-- ---- the base of a line's key

-- The path's dots begin at a body.
pub record IsLineBase (s : Document) (a b : List Part) : Type 0 where
  pub from : IsDottedFrom (mentions_in s) a b
  pub body : IsBody b (mentions_in s)

from_more : (x base : List Part) (ms ns : List Mention) → ((P : Mention → Type 0) → SomeOf P ms → SomeOf P ns)
    → IsDottedFrom ms x base → IsDottedFrom ns x base
from_more x base ms ns carry h =
    record {
      first = h.first;
      prefix = h.prefix;
      whole = h.whole;
      dots = λ g gs back e. carry (IsMentioned is_dotted (base ++ map key (g ∷ gs))) (h.dots g gs back e);
    }

content_from : (a : List Part) (r : Reading) (before after : Gap) (comment : Option Written) (c : Content)
    → (let l : Line = record { before = before; content = c; after = after; comment = comment } in
    leads_dotted a r l ≡ true → IsDottedFrom (line_mentions r l) a r.body)
content_from a r before after comment blank h = absurd cc
content_from a r before after comment (header b k x) h = absurd cc
content_from a r before after comment (element b k x) h = absurd cc
content_from a r before after comment (keyval name v) h =
    let keys : List (List ℕ) = keys_of name.key in
    let vs : List Mention = valued_mentions (value (body_fact v.body)) (entries_mentions 0 v.nested) in
    let some : SomeOf (IsMentioned is_dotted a) (map (below r.body) (keyed_mentions keys [])) =
    has_some is_dotted a (map (below r.body) (keyed_mentions keys [])) h in
    let u = some_unbelow is_dotted r.body a (keyed_mentions keys []) some in
    let own : IsDottedFrom (map (below r.body) (keyed_mentions keys vs)) (r.body ++ u.0) (r.body ++ []) =
    from_below r.body u.0 [] (keyed_mentions keys vs) (own_from keys u.0 vs (dotted_prefix keys u.0 u.1.1)) in
    subst (λ (x : List Part). IsDottedFrom (map (below r.body) (keyed_mentions keys vs)) x r.body) (sym u.1.0)
    (subst (λ (b : List Part). IsDottedFrom (map (below r.body) (keyed_mentions keys vs)) (r.body ++ u.0) b)
    (append-nil r.body) own)

-- after some lines of the document
pub body_after : (s : Document) (pre post : List Line) → lines s ≡ pre ++ post
    → IsBody (reading_after_lines start pre).body (mentions_in s)
body_after s pre post was = elim (body_stated start pre) [
  | inl e ↦ inl e
  | inr t ↦
      (let r : Reading = reading_after_lines start pre in
      stated_body r.body (mentions_in s)
      (subst (SomeOf (IsStated r.body)) (sym (ap (lines_mentions start) was ∙ lines_mentions-append start pre post))
      (some_left (IsStated r.body) (lines_mentions start pre) (lines_mentions r post) t)))
]

-- of a line among those of the document
pub line_base : (s : Document) (a : List Part) (pre : List Line) (l : Line) (post : List Line)
    → lines s ≡ pre ++ l ∷ post → leads_dotted a (reading_after_lines start pre) l ≡ true
    → IsLineBase s a (reading_after_lines start pre).body
line_base s a pre l post was goes =
    let r : Reading = reading_after_lines start pre in
    let mentioned : mentions_in s ≡ lines_mentions start pre
    ++ (line_mentions r l ++ lines_mentions (after_line r l) post) =
    ap (lines_mentions start) was ∙ lines_mentions-append start pre (l ∷ post) in
    let here : IsDottedFrom (line_mentions r l) a r.body = content_from a r l.before l.after l.comment l.content goes in
    record {
      from = from_more a r.body (line_mentions r l) (mentions_in s)
          (λ P h. subst (SomeOf P) (sym mentioned)
          (some_right P (lines_mentions start pre) (line_mentions r l ++ lines_mentions (after_line r l) post)
          (some_left P (line_mentions r l) (lines_mentions (after_line r l) post) h))) here;
      body = body_after s pre (l ∷ post) was;
    }

-- ---- two prefixes of a path, after which there are keys alone

pub data Prefixes (b c : List Part) (ks js : List (List ℕ)) : Type 0 where
  same : b ≡ c → Prefixes b c ks js
  longer : (g : List ℕ) (gs back : List (List ℕ)) → c ≡ b ++ map key (g ∷ gs) → ks ≡ g ∷ (gs ++ back)
      → Prefixes b c ks js
  shorter : (g : List ℕ) (gs back : List (List ℕ)) → b ≡ c ++ map key (g ∷ gs) → js ≡ g ∷ (gs ++ back)
      → Prefixes b c ks js

-- a prefix of keys
key_prefix : (c : List Part) (ks js : List (List ℕ)) → map key ks ≡ c ++ map key js → Prefixes [] c ks js
key_prefix [] ks js e = same refl
key_prefix (p ∷ c) [] js e = absurd cc
key_prefix (p ∷ c) (k ∷ ks) js e =
    let one : key k ≡ p = cc in
    elim (key_prefix c ks js (let rest : map key ks ≡ c ++ map key js = cc in rest)) [
      | same h ↦ longer k [] ks (ap (λ (x : Part). x ∷ c) (sym one) ∙ ap (λ (l : List Part). key k ∷ l) (sym h)) refl
      | longer g gs back h f ↦
          longer k (g ∷ gs) back (ap (λ (x : Part). x ∷ c) (sym one) ∙ ap (λ (l : List Part). key k ∷ l) h)
          (ap (λ (l : List (List ℕ)). k ∷ l) f)
      | shorter g gs back h f ↦ absurd (no_prefix c (key g) (map key gs) h)
    ]
  where
    no_prefix : (c : List Part) (x : Part) (xs : List Part) → [] ≡ c ++ x ∷ xs → ⊥
    no_prefix [] x xs e = absurd cc
    no_prefix (y ∷ c) x xs e = absurd cc

turned : (b c : List Part) (ks js : List (List ℕ)) → Prefixes b c ks js → Prefixes c b js ks
turned b c ks js (same h) = same (sym h)
turned b c ks js (longer g gs back h f) = shorter g gs back h f
turned b c ks js (shorter g gs back h f) = longer g gs back h f

pub prefixes_of : (b c : List Part) (ks js : List (List ℕ)) → b ++ map key ks ≡ c ++ map key js → Prefixes b c ks js
prefixes_of [] c ks js e = key_prefix c ks js e
prefixes_of (p ∷ b) [] ks js e = turned [] (p ∷ b) js ks (key_prefix (p ∷ b) js ks (sym e))
prefixes_of (p ∷ b) (q ∷ c) ks js e =
    let one : p ≡ q = cc in
    elim (prefixes_of b c ks js (let rest : b ++ map key ks ≡ c ++ map key js = cc in rest)) [
      | same h ↦ same (ap (λ (x : Part). x ∷ b) one ∙ ap (λ (l : List Part). q ∷ l) h)
      | longer g gs back h f ↦ longer g gs back (ap (λ (x : Part). x ∷ c) (sym one) ∙ ap (λ (l : List Part). p ∷ l) h) f
      | shorter g gs back h f ↦ shorter g gs back (ap (λ (x : Part). x ∷ b) one ∙ ap (λ (l : List Part). q ∷ l) h) f
    ]

-- ---- one base

formed_value : (a : MentionKind) (p : List Part) → is_value a ≡ true → IsFormed a p → p ≡ [] → ⊥
formed_value (value f) p h g e = longer_key g.0 g.1 (sym g.2 ∙ e)
  where
    longer_key : (prefix : List Part) (k : List ℕ) → prefix ++ key k ∷ [] ≡ [] → ⊥
    longer_key [] k e = absurd cc
    longer_key (x ∷ prefix) k e = absurd cc
formed_value (item f) p h g e = longer_index g.0 g.1 (sym g.2 ∙ e)
  where
    longer_index : (prefix : List Part) (n : ℕ) → prefix ++ index n ∷ [] ≡ [] → ⊥
    longer_index [] n e = absurd cc
    longer_index (x ∷ prefix) n e = absurd cc
formed_value through p h g e = absurd cc
formed_value other p h g e = absurd cc

no_root_value : (ms : List Mention) → AllOf Formed ms → SomeOf (IsMentioned is_value []) ms → ⊥
no_root_value [] f s = s
no_root_value (m ∷ ms) f (inl s) = formed_value m.kind m.path s.1 f.0 s.0
no_root_value (m ∷ ms) f (inr s) = no_root_value ms f.1 s

alone_of_value : (p : List Part) (ms : List Mention) → SomeOf (IsMentioned is_value p) ms → SomeOf (IsAloneAt p) ms
alone_of_value p [] s = s
alone_of_value p (m ∷ ms) (inl s) = inl (record { path = s.0; kind = (value_no_dots m.kind s.1).1 })
alone_of_value p (m ∷ ms) (inr s) = inr (alone_of_value p ms s)

define_disjoint : (a b : MentionKind) → is_define a ≡ true → is_value b ≡ true
    → (kinds_allow a b ≡ false) × (kinds_allow b a ≡ false)
define_disjoint define (value f) h g = (refl, refl)
define_disjoint define (item f) h g = (refl, refl)
define_disjoint define other h g = absurd cc
define_disjoint other b h g = absurd cc

define_not : (a : MentionKind) → is_define a ≡ true → is_value a ≡ true → ⊥
define_not define h g = absurd cc
define_not other h g = absurd cc

-- a body's path has no value
pub body_no_value : (s : Document) (b : List Part) → Rules (mentions_in s) → IsBody b (mentions_in s)
    → SomeOf (IsMentioned is_value b) (mentions_in s) → ⊥
body_no_value s b rules (inl e) h =
    no_root_value (mentions_in s) (formed_lines start (lines s))
    (subst (λ (p : List Part). SomeOf (IsMentioned is_value p) (mentions_in s)) e h)
body_no_value s b rules (inr (inl d)) h =
    clash is_define is_value define_disjoint define_not b (mentions_in s) d h rules
body_no_value s b rules (inr (inr g)) h = begun_alone s b rules g (alone_of_value b (mentions_in s) h)

-- and no dots are said of it
pub body_no_dots : (s : Document) (b : List Part) → Rules (mentions_in s) → IsBody b (mentions_in s)
    → SomeOf (IsMentioned is_dotted b) (mentions_in s) → ⊥
body_no_dots s b rules (inl e) h = no_root (subst EndsInKey e (dotted_ends b s h))
body_no_dots s b rules (inr (inl d)) h = no_define b s rules h d
body_no_dots s b rules (inr (inr g)) h = no_begun b s rules h g

-- Where a line's key continues from the path, no key in braces does.
pub not_in_braces : (s : Document) (a b : List Part) → Rules (mentions_in s) → IsLineBase s a b
    → IsDottedIn (mentions_in s) a → ⊥
not_in_braces s a b rules line h =
    elim (prefixes_of b h.base (line.from.first ∷ line.from.prefix) (h.from.first ∷ h.from.prefix)
    (sym line.from.whole ∙ h.from.whole)) [
      | same e ↦
          body_no_value s b rules line.body
          (subst (λ (p : List Part). SomeOf (IsMentioned is_value p) (mentions_in s)) (sym e) h.held)
      | longer g gs back e f ↦
          no_value h.base s rules (subst (λ (p : List Part). SomeOf (IsMentioned is_dotted p) (mentions_in s)) (sym e)
          (line.from.dots g gs back f)) h.held
      | shorter g gs back e f ↦
          body_no_dots s b rules line.body
          (subst (λ (p : List Part). SomeOf (IsMentioned is_dotted p) (mentions_in s)) (sym e)
          (h.from.dots g gs back f))
    ]
