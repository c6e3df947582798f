-- Acts that can be done at any value, and are done at the end of a path alone, are all done at one value by that path.
-- With another value in its place they are done at that one.
--
-- What acts make of something is told for all of them at once: each makes of it what it makes of that value, seen from
-- outside (`IsAtValue`), or none makes anything. By induction over entries and lines, as the search for the value goes:
-- each step outwards is `at_framed`; of two lines the first is taken in which there is a value (`first_of`).
--
-- Theorems: `one_value_at`; `makes_there`: what an act makes of the whole; `at_end`: at a value itself.
use Rattle.std.proofs.Common.{◌≡◌, ℕ, ◌+◌, List, [], ◌∷◌, ◌++◌, refl, sym, ap, ap₂, ◌∙◌, append_assoc, Option, Some}
use Rattle.std.proofs.Common.{None, inl, inr, subst}
use Rattle.std.specs.Prelude.{◌⊎◌}
use Rattle.std.specs.List.{AllByRecursion}
use Rattle.std.proofs.lemmas.List.{append-nil}
use Rattle.keep_types.specs.declared.leaf.Profile.{Profile}
use Rattle.keep_syntax.specs.Tree.{Gap, Name, name_leaves, named_leaves, opening, closing, comma_leaves, comment_leaves}
use Rattle.keep_syntax.specs.Tree.{Body, Entries, none, entry, Value, Content, blank, keyval, header, element, Line}
use Rattle.keep_syntax.specs.Tree.{Ended, Document, ended_leaves, bom_leaves, text_of}
use Rattle.keep_syntax.specs.Grammar.{IsContent, IsEnded, IsLine, IsValue, place_in}
use Rattle.keep_path.specs.Path.{Part}
use Rattle.keep_meaning.specs.Marks.{Reading, start}
use Rattle.keep_meaning.specs.Meaning.{step, after_line}
use Rattle.keep_edit_spec.specs.Look.{strip}
use Rattle.keep_edit_spec.specs.Changed.{Changed, within, or_else}
use Rattle.keep_edit_spec.specs.Values.{Act, entry_prefix, entry_back, in_entries, in_value}
use Rattle.keep_edit_spec.specs.Lines.{Page, page_text, with_page, in_content, in_line, in_lines}
use Rattle.keep_edit_spec.specs.Edits.{nested}
use Rattle.keep_edit_spec.proofs.Common.SetLaw.{no_entry}
use Rattle.keep_edit_spec.proofs.Common.ValueThere.{CanBeDone, IsSome, some_within}
use Rattle.keep_edit_spec.proofs.Common.DoneAtValue.{IsAtEnd}
use Rattle.keep_edit_spec.proofs.Common.FoundValue.{Valid_document, Valid_entries, Valid_value}
use Rattle.keep_edit_spec.proofs.Lists.SetPlaces.{past_end}

-- ---- what acts make

-- The whole is this value, seen from outside. Each act that can be done makes of it, and of any value seen so, what it
-- makes of that value, seen so. The value is valid where the whole is, and from outside two values are told apart.
pub record IsAtValue {A : Type 0} (Whole : Profile → Type 0) (made : A → Act → Option (Changed A)) (whole : A)
    : Type 0 where
  pub value : Value
  pub valid : (profile : Profile) → Whole profile → IsValue profile value
  pub outer : Value → A
  pub left : List ℕ
  pub right : List ℕ
  pub one : (v w : Value) → outer v ≡ outer w → v ≡ w
  pub is : whole ≡ outer value
  pub makes : (v : Value) (act : Act) → IsAtEnd act → CanBeDone act
      → made (outer v) act ≡ within outer left right (act [] v)

pub makes_there : {A : Type 0} {Whole : Profile → Type 0} {made : A → Act → Option (Changed A)} {whole : A}
    (h : IsAtValue Whole made whole) (act : Act) → IsAtEnd act → CanBeDone act
    → made whole act ≡ within h.outer h.left h.right (act [] h.value)
makes_there {made = made} h act ends can = ap (λ y. made y act) h.is ∙ h.makes h.value act ends can

abbrev pub MakeNothing : {A : Type 0} → (A → Act → Option (Changed A)) → A → Type 0
MakeNothing made whole = (act : Act) → IsAtEnd act → CanBeDone act → made whole act ≡ None

abbrev pub AtOne : {A : Type 0} → (Profile → Type 0) → (A → Act → Option (Changed A)) → A → Type 0
AtOne Whole made whole = MakeNothing made whole ⊎ IsAtValue Whole made whole

twice : {A B C : Type 0} (outer : A → B) (further : B → C) (left right l r : List ℕ) (o : Option (Changed A))
    → within further l r (within outer left right o) ≡ within (λ x. further (outer x)) (l ++ left) (right ++ r) o
twice outer further left right l r None = refl
twice outer further left right l r (Some c) =
    ap₂ (λ (b a : List ℕ).
    Some (record { to = further (outer c.to); before = b; old = c.old; new = c.new; after = a }))
    (sym (append_assoc l left c.before)) (append_assoc c.after right r)

-- ---- seen from outside

module _ {A B : Type 0} (Inner Whole : Profile → Type 0) (made : A → Act → Option (Changed A))
    (made' : B → Act → Option (Changed B)) (part : A) (further : A → B) (l r : List ℕ)
    (fits : (profile : Profile) → Whole profile → Inner profile) (one : (x y : A) → further x ≡ further y → x ≡ y) where
  -- where what an act makes is told from outside only if it makes something
  value_framed : ((y : A) (act : Act) → IsAtEnd act → CanBeDone act → IsSome (made y act)
      → made' (further y) act ≡ within further l r (made y act))
      → IsAtValue Inner made part → IsAtValue Whole made' (further part)
  value_framed same h = record {
    value = h.value;
    valid = λ profile w. h.valid profile (fits profile w);
    outer = λ v. further (h.outer v);
    left = l ++ h.left;
    right = h.right ++ r;
    one = λ v w e. h.one v w (one (h.outer v) (h.outer w) e);
    is = ap further h.is;
    makes = λ v act ends can.
        same (h.outer v) act ends can (subst (λ (o : Option (Changed A)). IsSome o) (sym (h.makes v act ends can))
        (some_within h.outer h.left h.right (act [] v) (can v)))
        ∙ ap (within further l r) (h.makes v act ends can) ∙ twice h.outer further h.left h.right l r (act [] v);
  }

  at_framed : ((y : A) (act : Act) → IsAtEnd act → CanBeDone act
      → made' (further y) act ≡ within further l r (made y act))
      → AtOne Inner made part → AtOne Whole made' (further part)
  at_framed same (inl nothing) =
      inl (λ act ends can. same part act ends can ∙ ap (within further l r) (nothing act ends can))
  at_framed same (inr h) = inr (value_framed (λ y act ends can some. same y act ends can) h)

-- ---- in a value

itself : (o : Option (Changed Value)) → o ≡ within (λ v. v) [] [] o
itself None = refl
itself (Some c) =
    ap (λ (t : List ℕ). Some (record { to = c.to; before = c.before; old = c.old; new = c.new; after = t }))
    (sym (append-nil c.after))

pub at_end : (act : Act) (v : Value) → in_value act [] v ≡ act [] v
at_end act v =
    ap (λ (o : Option (Changed Entries)). or_else (within (λ es. record v { nested = es }) (text_of (opening v.body))
    (text_of (closing v.body)) o) (act [] v)) (no_entry act 0 v.nested)

at_value : (path : List Part) (v : Value)
    → AtOne (Valid_entries v.nested) (λ es act. in_entries act path 0 es) v.nested
    → AtOne (Valid_value v) (λ w act. in_value act path w) v
at_value [] v h = inr (record {
  value = v;
  valid = λ profile w. w;
  outer = λ x. x;
  left = [];
  right = [];
  one = λ x y e. e;
  is = refl;
  makes = λ w act ends can. at_end act w ∙ itself (act [] w);
})
at_value (p ∷ ps) v h =
    at_framed (Valid_entries v.nested) (Valid_value v) (λ es act. in_entries act (p ∷ ps) 0 es)
    (λ w act. in_value act (p ∷ ps) w) v.nested (λ es. record v { nested = es }) (text_of (opening v.body))
    (text_of (closing v.body)) (λ profile w. (place_in v.body, w.nested)) (λ x y e. ap (λ (w : Value). w.nested) e)
    (λ es act ends can. past_end act ends p ps (record v { nested = es })) h

same_entry : (name : Option Name) (v w : Value) (after : Gap) (comma : Option Gap) (rest : Entries)
    → entry name v.body v.nested after comma rest ≡ entry name w.body w.nested after comma rest → v ≡ w
same_entry name v w after comma rest e =
    let body : v.body ≡ w.body = cc in
    let nested : v.nested ≡ w.nested = cc in
    ap₂ (λ (b : Body) (es : Entries). record { body = b; nested = es }) body nested

at_entries : (path : List Part) (n : ℕ) (es : Entries)
    → AtOne (Valid_entries es) (λ xs act. in_entries act path n xs) es
at_entries path n none = inl (λ act ends can. refl)
at_entries path n (entry name body nested after comma rest) =
    by (strip (step n name) path) refl (at_entries path (n + 1) rest) (λ more. at_entries more 0 nested)
  where
    whole : Entries
    whole = entry name body nested after comma rest

    v : Value
    v = record { body = body; nested = nested }

    by : (o : Option (List Part)) → strip (step n name) path ≡ o
        → AtOne (Valid_entries rest) (λ es act. in_entries act path (n + 1) es) rest
        → ((more : List Part) → AtOne (Valid_entries nested) (λ es act. in_entries act more 0 es) nested)
        → AtOne (Valid_entries whole) (λ es act. in_entries act path n es) whole
    by None e further inner =
        at_framed (Valid_entries rest) (Valid_entries whole) (λ es act. in_entries act path (n + 1) es)
        (λ es act. in_entries act path n es) rest (entry name body nested after comma)
        (entry_prefix name body nested ++ (text_of after ++ text_of (comma_leaves comma))) []
        (λ profile w. (w.0, w.1.5)) (λ x y same. cc) (λ es act ends can. rw (in_entries, e) refl) further
    by (Some more) e further inner =
        at_framed (Valid_value v) (Valid_entries whole) (λ x act. in_value act more x)
        (λ es act. in_entries act path n es) v (λ (x : Value). entry name x.body x.nested after comma rest)
        (text_of (named_leaves name)) (entry_back after comma rest)
        (λ profile w. record { body = w.1.1; nested = w.1.2 })
        (λ x y same. same_entry name x y after comma rest same) (λ x act ends can. rw (in_entries, e) refl)
        (at_value more v (inner more))

-- ---- in a line

at_content : (body path : List Part) (c : Content)
    → AtOne (λ profile. IsContent profile c) (λ k act. in_content act body path k) c
at_content body path blank = inl (λ act ends can. refl)
at_content body path (header before k after) = inl (λ act ends can. refl)
at_content body path (element before k after) = inl (λ act ends can. refl)
at_content body path (keyval name v) = by (strip (body ++ step 0 (Some name)) path) refl
  where
    by : (o : Option (List Part)) → strip (body ++ step 0 (Some name)) path ≡ o
        → AtOne (λ profile. IsContent profile (keyval name v)) (λ k act. in_content act body path k) (keyval name v)
    by None e = inl (λ act ends can. rw (in_content, e) refl)
    by (Some more) e =
        at_framed (Valid_value v) (λ profile. IsContent profile (keyval name v)) (λ x act. in_value act more x)
        (λ k act. in_content act body path k) v (keyval name) (text_of (name_leaves name)) [] (λ profile w. w.1)
        (λ x y same. cc) (λ x act ends can. rw (in_content, e) refl) (at_value more v (at_entries more 0 v.nested))

at_line : (path : List Part) (r : Reading) (l : Line)
    → AtOne (λ profile. IsLine profile l) (λ k act. in_line act path r k) l
at_line path r l =
    at_framed (λ profile. IsContent profile l.content) (λ profile. IsLine profile l)
    (λ c act. in_content act r.body path c) (λ k act. in_line act path r k) l.content (λ c. record l { content = c })
    (text_of l.before) (text_of l.after ++ text_of (comment_leaves l.comment)) (λ profile w. w.content)
    (λ x y e. ap (λ (k : Line). k.content) e) (λ c act ends can. refl) (at_content r.body path l.content)

-- ---- in lines

first_of : {A : Type 0} (o p : Option A) → IsSome o → or_else o p ≡ o
first_of None p h = absurd h
first_of (Some x) p h = refl

abbrev ValidLines : List Ended → Line → Profile → Type 0
ValidLines es last profile = AllByRecursion (IsEnded profile) es × IsLine profile last

abbrev page : List Ended → Line → Page
page es last = record { ended = es; last = last }

at_lines : (path : List Part) (r : Reading) (es : List Ended) (last : Line)
    → AtOne (ValidLines es last) (λ b act. in_lines (in_line act path) r b.ended b.last) (page es last)
at_lines path r [] last =
    at_framed (λ profile. IsLine profile last) (ValidLines [] last) (λ l act. in_line act path r l)
    (λ b act. in_lines (in_line act path) r b.ended b.last) last (page []) [] [] (λ profile w. w.1)
    (λ x y e. ap (λ (b : Page). b.last) e) (λ l act ends can. refl) (at_line path r last)
at_lines path r (e ∷ es) last = by (at_line path r e.line) (at_lines path (after_line r e.line) es last)
  where
    with_line : Line → Ended
    with_line l = record { line = l; newline = e.newline }

    here : Page → Line → Page
    here b l = page (with_line l ∷ b.ended) b.last

    there : Line → Page → Page
    there l b = here b l

    right : Page → List ℕ
    right b = e.newline.text ++ page_text b

    left : Line → List ℕ
    left l = text_of (ended_leaves (with_line l))

    further : Line → Page → Act → Option (Changed Page)
    further l b act = in_lines (in_line act path) (after_line r l) b.ended b.last

    all : Page → Act → Option (Changed Page)
    all b act = in_lines (in_line act path) r b.ended b.last

    first : List Ended → Line
    first [] = last
    first (x ∷ xs) = x.line

    rest : List Ended → List Ended
    rest [] = []
    rest (x ∷ xs) = xs

    -- a line of which an act makes something is the first
    found : (l : Line) (act : Act) → IsAtEnd act → CanBeDone act → IsSome (in_line act path r l)
        → all (here (page es last) l) act
        ≡ within (here (page es last)) [] (right (page es last)) (in_line act path r l)
    found l act ends can some =
        first_of (within (here (page es last)) [] (right (page es last)) (in_line act path r l))
        (within (there l) (left l) [] (further l (page es last) act))
        (some_within (here (page es last)) [] (right (page es last)) (in_line act path r l) some)

    by : AtOne (λ profile. IsLine profile e.line) (λ l act. in_line act path r l) e.line
        → AtOne (ValidLines es last) (further e.line) (page es last)
        → AtOne (ValidLines (e ∷ es) last) all (page (e ∷ es) last)
    by (inr h) k =
        inr (value_framed (λ profile. IsLine profile e.line) (ValidLines (e ∷ es) last)
        (λ l act. in_line act path r l) all e.line (here (page es last)) [] (right (page es last))
        (λ profile w. w.0.0.line) (λ x y same. ap (λ (b : Page). first b.ended) same) found h)
    by (inl nothing) k =
        at_framed (ValidLines es last) (ValidLines (e ∷ es) last) (further e.line) all (page es last) (there e.line)
        (left e.line) [] (λ profile w. (w.0.1, w.1))
        (λ x y same. ap₂ page (ap (λ (b : Page). rest b.ended) same) (ap (λ (b : Page). b.last) same))
        (λ b act ends can. ap (λ (o : Option (Changed Line)). or_else (within (here b) [] (right b) o)
        (within (there e.line) (left e.line) [] (further e.line b act))) (nothing act ends can)) k

-- in a document
pub one_value_at : (path : List Part) (s : Document) → AtOne (Valid_document s) (λ t act. nested act path t) s
one_value_at path s =
    at_framed (ValidLines s.ended s.last) (Valid_document s)
    (λ b act. in_lines (in_line act path) start b.ended b.last) (λ t act. nested act path t) (page s.ended s.last)
    (with_page s) (text_of (bom_leaves s.bom)) [] (λ profile v. (v.ended, v.last))
    (λ x y e. ap₂ page (ap (λ (d : Document). d.ended) e) (ap (λ (d : Document). d.last) e))
    (λ b act ends can. refl) (at_lines path start s.ended s.last)
