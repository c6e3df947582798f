-- A set of one value does not change where and what a set of another value replaces, except that the place moves.
--
-- Neither path is a prefix of the other, so the two searches part at an entry or a line, and neither value is in the
-- other. `Stays` says of a change c and another change d of the same thing: what c gives has d too, with the same old
-- and new text, either after c, moved by the bytes that c brings and takes, or before c, at the same place. It holds of
-- two acts that are done at the end of their paths, by induction over entries (`entries_stay`), in a value
-- (`ends_stay`), in a line (`line_stays`) and in all lines (`lines_stay`). Where the searches part, the length of the
-- text that is passed is known from the cut of the change in it (`first_stays`, `later_stays`).
--
-- Theorems: `either_stays`, `or_stays`: of the first of two changes that there is; `document_stays`, `acts_stay`,
-- `nested_stays`; `still_place`, `place_after`: the place of an edit whose change stays; `set_place_stays`: of a set.
use Rattle.std.proofs.Common.{◌≡◌, ℕ, ◌+◌, ◌<◌, ◌≤◌, List, [], ◌∷◌, ◌++◌, length, refl, sym, ap, ap₂, subst, ◌∙◌}
use Rattle.std.proofs.Common.{append_assoc, length-append, arith, Option, Some, None, inl, inr}
use Rattle.std.specs.Prelude.{◌⊎◌, ⊤}
use Rattle.std.proofs.lemmas.Bool.{lt-ltb, le-ltb}
use Rattle.std.proofs.lemmas.List.{append-nil}
use Rattle.keep_syntax.specs.Tree.{Written, Gap, Name, name_leaves, named_leaves, opening, closing, comma_leaves}
use Rattle.keep_syntax.specs.Tree.{comment_leaves, Entries, none, entry, Value, Content, blank, keyval, header, element}
use Rattle.keep_syntax.specs.Tree.{Line, Ended, Document, line_leaves, ended_leaves, bom_leaves, text_of}
use Rattle.keep_path.specs.Path.{Part}
use Rattle.keep_meaning.specs.Marks.{Reading, start}
use Rattle.keep_meaning.specs.Meaning.{step, after_line}
use Rattle.keep_edit_spec.specs.Look.{strip}
use Rattle.keep_edit_spec.specs.Changed.{Changed, IsChangeOf, framed_change, within, or_else, Place, place_of}
use Rattle.keep_edit_spec.specs.Values.{Act, entry_prefix, entry_back, text_of_value, in_entries, in_value, replacement}
use Rattle.keep_edit_spec.specs.Lines.{line_text, Page, page_text, with_page, page_of, in_document, in_lines}
use Rattle.keep_edit_spec.specs.Lines.{in_content, in_line}
use Rattle.keep_edit_spec.specs.Edits.{Edit, set, nested, change, changed_or_same, edited_document, place}
use Rattle.keep_edit_spec.specs.TextChanges.{TextChange, place_of_change, moved_by, moved}
use Rattle.keep_edit_spec.proofs.Common.Runs.{strip-sound, strip_both}
use Rattle.keep_edit_spec.proofs.Common.Texts.{EachIs, IsAct, text_of-append, in_value-is, replacement-is}
use Rattle.keep_edit_spec.proofs.Common.LineTexts.{in_line-is}
use Rattle.keep_edit_spec.proofs.Common.SetLaw.{EachTo, to_within}
use Rattle.keep_edit_spec.proofs.Common.DoneAtValue.{IsAtEnd}

-- where d is after c: moved, if it comes after c, and else where it was
abbrev pub IsMovedBy : {A : Type 0} → Changed A → Changed A → Changed A → Type 0
IsMovedBy c d next =
    ((length c.before + length c.old ≤ length d.before)
    × (length next.before + length c.old ≡ length d.before + length c.new))
    ⊎ ((length d.before + length d.old ≤ length c.before) × (length next.before ≡ length d.before))

-- the same change as d, after c
pub record IsStill {A : Type 0} (c d : Changed A) (o : Option (Changed A)) : Type 0 where
  pub next : Changed A
  pub is : o ≡ Some next
  pub old : next.old ≡ d.old
  pub given : next.new ≡ d.new
  pub place : IsMovedBy c d next

-- of the change d of something, if there is one, and that of what c gives
abbrev pub Stays : {A : Type 0} → Changed A → Option (Changed A) → Option (Changed A) → Type 0
Stays c None o = o ≡ None
Stays c (Some d) o = IsStill c d o

abbrev pub EachStays : {A : Type 0} → Option (Changed A) → (A → Option (Changed A)) → A → Type 0
EachStays None f x = ⊤
EachStays (Some c) f x = Stays c (f x) (f c.to)

-- ---- a change of a part, seen from the whole

pub stays_as : {A : Type 0} (c : Changed A) (o o' p p' : Option (Changed A)) → p ≡ o → p' ≡ o' → Stays c o o'
    → Stays c p p'
stays_as c o o' p p' e e' h =
    subst (λ (q : Option (Changed _)). Stays c q p') (sym e)
    (subst (λ (q : Option (Changed _)). Stays c o q) (sym e') h)

-- of two changes the first that there is
pub either_stays : {A : Type 0} (c : Changed A) (o o' p p' : Option (Changed A)) → Stays c o o' → Stays c p p'
    → Stays c (or_else o p) (or_else o' p')
either_stays c None o' p p' h k = subst (λ (q : Option (Changed _)). Stays c p (or_else q p')) (sym h) k
either_stays c (Some d) o' p p' h k = record {
  next = h.next;
  is = ap (λ (q : Option (Changed _)). or_else q p') h.is;
  old = h.old;
  given = h.given;
  place = h.place;
}

pub or_stays : {A : Type 0} (o : Option (Changed A)) (f g : A → Option (Changed A)) (x : A) → EachStays o f x
    → EachStays o g x → EachStays o (λ y. or_else (f y) (g y)) x
or_stays None f g x h k = tt
or_stays (Some c) f g x h k = either_stays c (f x) (f c.to) (g x) (g c.to) h k

-- both changes are of the same part
pub framed_stays : {A B : Type 0} (outer : A → B) (left right : List ℕ) (c : Changed A) (o o' : Option (Changed A))
    → Stays c o o'
    → Stays (framed_change outer left right c) (within outer left right o) (within outer left right o')
framed_stays outer left right c None o' h = ap (within outer left right) h
framed_stays outer left right c (Some d) o' h = record {
  next = framed_change outer left right h.next;
  is = ap (within outer left right) h.is;
  old = h.old;
  given = h.given;
  place = elim h.place [
    | inl g ↦ inl (
      (omega (arith, g.0, length-append left c.before, length-append left d.before)),
      (omega (arith, g.1, length-append left h.next.before, length-append left d.before)),
    )
    | inr g ↦ inr (
      (omega (arith, g.0, length-append left c.before, length-append left d.before)),
      (omega (arith, g.1, length-append left h.next.before, length-append left d.before)),
    )
  ];
}

pub each_within : {A B : Type 0} (outer : A → B) (left right : List ℕ) (o : Option (Changed A))
    (f : A → Option (Changed A)) (g : B → Option (Changed B)) (x : A)
    → ((y : A) → g (outer y) ≡ within outer left right (f y)) → EachStays o f x
    → EachStays (within outer left right o) g (outer x)
each_within outer left right None f g x same h = tt
each_within outer left right (Some c) f g x same h =
    stays_as (framed_change outer left right c) (within outer left right (f x)) (within outer left right (f c.to))
    (g (outer x)) (g (outer c.to)) (same x) (same c.to) (framed_stays outer left right c (f x) (f c.to) h)

-- ---- where the searches part

pub length_cut : (t before mid after : List ℕ) → t ≡ before ++ (mid ++ after)
    → length t ≡ length before + (length mid + length after)
length_cut t before mid after is =
    ap length is ∙ length-append before (mid ++ after)
    ∙ ap (λ (n : ℕ). length before + n) (length-append mid after)

length_past : (left t more before : List ℕ)
    → length ((left ++ (t ++ more)) ++ before) ≡ length left + (length t + length more) + length before
length_past left t more before =
    length-append (left ++ (t ++ more)) before
    ∙ ap (λ (n : ℕ). n + length before) (length_cut (left ++ (t ++ more)) left t more refl)

-- The change c is of a part of this text, and the other of what comes after it.
pub first_stays : {A B C : Type 0} (t : A → List ℕ) (x : A) (outer : A → B) (left right more : List ℕ) (c : Changed A)
    (inside inside' : C → B) (o : Option (Changed C)) → IsChangeOf t x c
    → Stays (framed_change outer left right c) (within inside (left ++ (t x ++ more)) [] o)
    (within inside' (left ++ (t c.to ++ more)) [] o)
first_stays t x outer left right more c inside inside' None h = refl
first_stays t x outer left right more c inside inside' (Some d) h =
    let was : length (t x) ≡ length c.before + (length c.old + length c.after) =
    length_cut (t x) c.before c.old c.after h.was in
    let is : length (t c.to) ≡ length c.before + (length c.new + length c.after) =
    length_cut (t c.to) c.before c.new c.after h.is in
    let far : length ((left ++ (t x ++ more)) ++ d.before)
    ≡ length left + (length (t x) + length more) + length d.before = length_past left (t x) more d.before in
    let far' : length ((left ++ (t c.to ++ more)) ++ d.before)
    ≡ length left + (length (t c.to) + length more) + length d.before = length_past left (t c.to) more d.before in
    record {
      next = framed_change inside' (left ++ (t c.to ++ more)) [] d;
      is = refl;
      old = refl;
      given = refl;
      place = inl ((omega (arith, was, far, length-append left c.before)), (omega (arith, was, is, far, far')));
    }

-- The other is of a part of this text, and the change c of what comes after it.
pub later_stays : {A B C : Type 0} (t : A → List ℕ) (x : A) (inside inside' : A → B) (left right right' more : List ℕ)
    (o : Option (Changed A)) (outer : C → B) (c : Changed C) → EachIs t x o
    → Stays (framed_change outer (left ++ (t x ++ more)) [] c) (within inside left right o)
    (within inside' left right' o)
later_stays t x inside inside' left right right' more None outer c h = refl
later_stays t x inside inside' left right right' more (Some d) outer c h =
    let was : length (t x) ≡ length d.before + (length d.old + length d.after) =
    length_cut (t x) d.before d.old d.after h.was in
    let far : length ((left ++ (t x ++ more)) ++ c.before)
    ≡ length left + (length (t x) + length more) + length c.before = length_past left (t x) more c.before in
    record {
      next = framed_change inside' left right' d;
      is = refl;
      old = refl;
      given = refl;
      place = inr ((omega (arith, was, far, length-append left d.before)), refl);
    }

-- ---- paths

-- what is left of two paths parts as they do
pub rest_none : (s path other more rest : List Part) → strip s path ≡ Some more → strip s other ≡ Some rest
    → strip path other ≡ None → strip more rest ≡ None
rest_none s path other more rest e f h =
    sym (strip_both s more rest)
    ∙ ap₂ (λ (p q : List Part). strip p q) (sym (strip-sound s path more e)) (sym (strip-sound s other rest f)) ∙ h

-- ---- in values

or_none : {A : Type 0} (o : Option A) → or_else o None ≡ o
or_none None = refl
or_none (Some x) = refl

-- what an act that is done at the end of a path alone does in a value before that
pub past_end : (act : Act) → IsAtEnd act → (p : Part) (ps : List Part) (v : Value)
    → in_value act (p ∷ ps) v ≡ within (λ es. record v { nested = es }) (text_of (opening v.body))
    (text_of (closing v.body)) (in_entries act (p ∷ ps) 0 v.nested)
past_end act ends p ps v =
    ap (λ (o : Option (Changed Value)). or_else (within (λ es. record v { nested = es }) (text_of (opening v.body))
    (text_of (closing v.body)) (in_entries act (p ∷ ps) 0 v.nested)) o) (ends p ps v)
    ∙ or_none (within (λ es. record v { nested = es }) (text_of (opening v.body))
    (text_of (closing v.body)) (in_entries act (p ∷ ps) 0 v.nested))

-- an entry's text up to the comma, with its value's text in the middle
pub past_entry : (name : Option Name) (v : Value) (after : Gap) (comma : Option Gap)
    → entry_prefix name v.body v.nested ++ (text_of after ++ text_of (comma_leaves comma))
    ≡ text_of (named_leaves name) ++ (text_of_value v ++ (text_of after ++ text_of (comma_leaves comma)))
past_entry name v after comma = simp (text_of-append, append_assoc) refl

pub past_line : (l : Line) (newline : Written)
    → text_of (ended_leaves (record { line = l; newline = newline })) ≡ line_text l ++ newline.text
past_line l newline =
    text_of-append (line_leaves l) (newline ∷ []) ∙ ap (λ (t : List ℕ). line_text l ++ t) (append-nil newline.text)

-- What stays among a value's entries stays in the value.
abbrev pub InValueStays : Act → Act → Type 0
InValueStays one two = (path other : List Part) → strip path other ≡ None → strip other path ≡ None → (v : Value)
    → EachStays (in_entries one path 0 v.nested) (in_entries two other 0) v.nested
    → EachStays (in_value one path v) (in_value two other) v

-- so it is with acts that are done at the end of a path alone
ends_stay : (one two : Act) → IsAtEnd one → IsAtEnd two → InValueStays one two
ends_stay one two ends ends_two [] other h g v k = absurd cc
ends_stay one two ends ends_two (p ∷ ps) [] h g v k = absurd cc
ends_stay one two ends ends_two (p ∷ ps) (q ∷ qs) h g v k =
    subst (λ (o : Option (Changed Value)). EachStays o (in_value two (q ∷ qs)) v) (sym (past_end one ends p ps v))
    (each_within (λ es. record v { nested = es }) (text_of (opening v.body)) (text_of (closing v.body))
    (in_entries one (p ∷ ps) 0 v.nested) (in_entries two (q ∷ qs) 0) (in_value two (q ∷ qs)) v.nested
    (λ y. past_end two ends_two q qs (record v { nested = y })) k)

-- ---- in lines

-- Two changes of lines. A line that the first changes is read as before, and the second's change of it stays.
module _ (one two : Reading → Line → Option (Changed Line))
    (is_one : (r : Reading) (l : Line) → EachIs line_text l (one r l))
    (is_two : (r : Reading) (l : Line) → EachIs line_text l (two r l))
    (keeps : (r : Reading) (l : Line) → EachTo (λ y. after_line r y ≡ after_line r l) (one r l))
    (each : (r : Reading) (l : Line) → EachStays (one r l) (two r) l) where
  lines_stay : (r : Reading) (es : List Ended) (last : Line)
      → EachStays (in_lines one r es last) (λ (b : Page). in_lines two r b.ended b.last)
      (record { ended = es; last = last })
  lines_stay r [] last =
      each_within (λ (l : Line). record { ended = []; last = l }) [] [] (one r last) (two r)
      (λ (b : Page). in_lines two r b.ended b.last) last (λ y. refl) (each r last)
  lines_stay r (e ∷ es) last =
      by (one r e.line) (is_one r e.line) (keeps r e.line) (each r e.line)
      (in_lines one (after_line r e.line) es last) (lines_stay (after_line r e.line) es last)
    where
      page : Page
      page = record { ended = es; last = last }

      -- with another line, or with other lines behind it
      with_line : Page → Line → Page
      with_line b l = record { ended = record { line = l; newline = e.newline } ∷ b.ended; last = b.last }

      before_lines : Line → Page → Page
      before_lines l b = with_line b l

      right : Page → List ℕ
      right b = e.newline.text ++ page_text b

      second : Page → Option (Changed Page)
      second b = in_lines two r b.ended b.last

      further : Page → Option (Changed Page)
      further b = in_lines two (after_line r e.line) b.ended b.last

      found : (b : Page) (l : Line) (d : Changed Line) → two r l ≡ Some d
          → second (with_line b l) ≡ within (with_line b) [] (right b) (Some d)
      found b l d f = rw f refl

      passed : (b : Page) (l : Line) → two r l ≡ None → after_line r l ≡ after_line r e.line
          → second (with_line b l) ≡ within (before_lines l) (line_text l ++ e.newline.text) [] (further b)
      passed b l f k =
          rw f (ap₂ (λ (t : List ℕ) (q : Reading). within (before_lines l) t [] (in_lines two q b.ended b.last))
          (past_line l e.newline) k)

      -- the first change is of this line
      first : (c : Changed Line) → IsChangeOf line_text e.line c → after_line r c.to ≡ after_line r e.line
          → (o : Option (Changed Line)) → two r e.line ≡ o → Stays c o (two r c.to)
          → Stays (framed_change (with_line page) [] (right page) c) (second (with_line page e.line))
          (second (with_line page c.to))
      first c cut same None f k =
          stays_as (framed_change (with_line page) [] (right page) c)
          (within (before_lines e.line) (line_text e.line ++ e.newline.text) [] (further page))
          (within (before_lines c.to) (line_text c.to ++ e.newline.text) [] (further page))
          (second (with_line page e.line)) (second (with_line page c.to)) (passed page e.line f refl)
          (passed page c.to k same)
          (first_stays line_text e.line (with_line page) [] (right page) e.newline.text c (before_lines e.line)
          (before_lines c.to) (further page) cut)
      first c cut same (Some d) f k =
          stays_as (framed_change (with_line page) [] (right page) c)
          (within (with_line page) [] (right page) (Some d))
          (within (with_line page) [] (right page) (two r c.to))
          (second (with_line page e.line)) (second (with_line page c.to)) (found page e.line d f)
          (found page c.to k.next k.is ∙ sym (ap (within (with_line page) [] (right page)) k.is))
          (framed_stays (with_line page) [] (right page) c (Some d) (two r c.to) k)

      -- the first change is of a later line
      later : (o : Option (Changed Line)) → two r e.line ≡ o → EachIs line_text e.line o
          → (p : Option (Changed Page)) → EachStays p further page
          → EachStays (within (before_lines e.line) (line_text e.line ++ e.newline.text) [] p) second
          (with_line page e.line)
      later None f cut p k =
          each_within (before_lines e.line) (line_text e.line ++ e.newline.text) [] p further second page
          (λ y. passed y e.line f refl) k
      later (Some d) f cut None k = tt
      later (Some d) f cut (Some c) k =
          stays_as (framed_change (before_lines e.line) (line_text e.line ++ e.newline.text) [] c)
          (within (with_line page) [] (right page) (Some d))
          (within (with_line c.to) [] (right c.to) (Some d))
          (second (with_line page e.line)) (second (with_line c.to e.line)) (found page e.line d f)
          (found c.to e.line d f)
          (later_stays line_text e.line (with_line page) (with_line c.to) [] (right page) (right c.to) e.newline.text
          (Some d) (before_lines e.line) c cut)

      by : (o : Option (Changed Line)) → EachIs line_text e.line o
          → EachTo (λ y. after_line r y ≡ after_line r e.line) o → EachStays o (two r) e.line
          → (p : Option (Changed Page)) → EachStays p further page
          → EachStays (or_else (within (with_line page) [] (right page) o)
          (within (before_lines e.line) (text_of (ended_leaves e)) [] p)) second (with_line page e.line)
      by (Some c) cut same k p i = first c cut same (two r e.line) refl k
      by None cut same k p i =
          subst (λ (t : List ℕ). EachStays (within (before_lines e.line) t [] p) second (with_line page e.line))
          (sym (past_line e.line e.newline))
          (later (two r e.line) refl (is_two r e.line) p i)

  -- in a document
  pub document_stays : (s : Document) → EachStays (in_document s (in_lines one start s.ended s.last))
      (λ (t : Document). in_document t (in_lines two start t.ended t.last)) s
  document_stays s =
      each_within (with_page s) (text_of (bom_leaves s.bom)) [] (in_lines one start s.ended s.last)
      (λ (b : Page). in_lines two start b.ended b.last)
      (λ (t : Document). in_document t (in_lines two start t.ended t.last)) (page_of s) (λ y. refl)
      (lines_stay start s.ended s.last)

-- ---- in values and their lines

-- a line whose value changes is read as before
pub reading_stays : (one : Act) (path : List Part) (r : Reading) (l : Line)
    → EachTo (λ y. after_line r y ≡ after_line r l) (in_line one path r l)
reading_stays one path r l =
    to_within (λ y. after_line r (record l { content = y }) ≡ after_line r l)
    (λ y. after_line r y ≡ after_line r l) (λ c. record l { content = c }) (text_of l.before)
    (text_of l.after ++ text_of (comment_leaves l.comment)) (in_content one r.body path l.content) (λ y k. k)
    (of_content l.content)
  where
    reading : Content → Reading
    reading c = after_line r (record l { content = c })

    of_value : (name : Name) (value : Value) (o : Option (Changed Value))
        → EachTo (λ y. reading y ≡ reading (keyval name value))
        (within (keyval name) (text_of (name_leaves name)) [] o)
    of_value name value None = tt
    of_value name value (Some c) = refl

    by : (name : Name) (value : Value) (o : Option (List Part))
        → EachTo {A = Content} (λ y. reading y ≡ reading (keyval name value)) (elim o [
          | None ↦ None
          | Some more ↦ within (keyval name) (text_of (name_leaves name)) [] (in_value one more value)
        ])
    by name value None = tt
    by name value (Some more) = of_value name value (in_value one more value)

    of_content : (c : Content) → EachTo (λ y. reading y ≡ reading c) (in_content one r.body path c)
    of_content blank = tt
    of_content (header before k after) = tt
    of_content (element before k after) = tt
    of_content (keyval name value) = by name value (strip (r.body ++ step 0 (Some name)) path)

-- The first act makes the change c, the second the other.
module _ (one two : Act) (is_one : IsAct one) (is_two : IsAct two) (value_stays : InValueStays one two) where
  entries_stay : (path other : List Part) → strip path other ≡ None → strip other path ≡ None → (n : ℕ) (es : Entries)
      → EachStays (in_entries one path n es) (in_entries two other n) es
  entries_stay path other h g n none = tt
  entries_stay path other h g n (entry name body nested after comma rest) =
      by (strip (step n name) path) refl (strip (step n name) other) refl (entries_stay path other h g (n + 1) rest)
      (λ more deeper k j. entries_stay more deeper k j 0 nested)
    where
      v : Value
      v = record { body = body; nested = nested }

      left : List ℕ
      left = text_of (named_leaves name)

      more : List ℕ
      more = text_of after ++ text_of (comma_leaves comma)

      -- with another value, or with other entries behind it
      with_value : Entries → Value → Entries
      with_value es y = entry name y.body y.nested after comma es

      before_entries : Value → Entries → Entries
      before_entries y = entry name y.body y.nested after comma

      found : (y : Value) (es : Entries) (rests : List Part) → strip (step n name) other ≡ Some rests
          → in_entries two other n (with_value es y)
          ≡ within (with_value es) left (entry_back after comma es) (in_value two rests y)
      found y es rests f = rw (in_entries, f) refl

      passed : (y : Value) → strip (step n name) other ≡ None → in_entries two other n (with_value rest y)
          ≡ within (before_entries y) (left ++ (text_of_value y ++ more)) [] (in_entries two other (n + 1) rest)
      passed y f =
          rw (in_entries, f) (ap (λ (t : List ℕ). within (before_entries y) t [] (in_entries two other (n + 1) rest))
          (past_entry name y after comma))

      first : (o : Option (Changed Value)) → EachIs text_of_value v o → strip (step n name) other ≡ None
          → EachStays (within (with_value rest) left (entry_back after comma rest) o) (in_entries two other n)
          (with_value rest v)
      first None k f = tt
      first (Some c) k f =
          stays_as (framed_change (with_value rest) left (entry_back after comma rest) c)
          (within (before_entries v) (left ++ (text_of_value v ++ more)) [] (in_entries two other (n + 1) rest))
          (within (before_entries c.to) (left ++ (text_of_value c.to ++ more)) [] (in_entries two other (n + 1) rest))
          (in_entries two other n (with_value rest v)) (in_entries two other n (with_value rest c.to)) (passed v f)
          (passed c.to f)
          (first_stays text_of_value v (with_value rest) left (entry_back after comma rest) more c (before_entries v)
          (before_entries c.to) (in_entries two other (n + 1) rest) k)

      later : (o : Option (Changed Entries)) (rests : List Part) → strip (step n name) other ≡ Some rests
          → EachStays (within (before_entries v) (left ++ (text_of_value v ++ more)) [] o) (in_entries two other n)
          (with_value rest v)
      later None rests f = tt
      later (Some c) rests f =
          stays_as (framed_change (before_entries v) (left ++ (text_of_value v ++ more)) [] c)
          (within (with_value rest) left (entry_back after comma rest) (in_value two rests v))
          (within (with_value c.to) left (entry_back after comma c.to) (in_value two rests v))
          (in_entries two other n (with_value rest v)) (in_entries two other n (with_value c.to v))
          (found v rest rests f) (found v c.to rests f)
          (later_stays text_of_value v (with_value rest) (with_value c.to) left (entry_back after comma rest)
          (entry_back after comma c.to) more (in_value two rests v) (before_entries v) c
          (in_value-is two is_two rests v))

      by : (o : Option (List Part)) → strip (step n name) path ≡ o
          → (p : Option (List Part)) → strip (step n name) other ≡ p
          → EachStays (in_entries one path (n + 1) rest) (in_entries two other (n + 1)) rest
          → ((more deeper : List Part) → strip more deeper ≡ None → strip deeper more ≡ None
          → EachStays (in_entries one more 0 nested) (in_entries two deeper 0) nested)
          → EachStays {A = Entries} (elim o [
            | None ↦
                within (entry name body nested after comma)
                (entry_prefix name body nested ++ (text_of after ++ text_of (comma_leaves comma))) []
                (in_entries one path (n + 1) rest)
            | Some more ↦
                within (λ v. entry name v.body v.nested after comma rest) (text_of (named_leaves name))
                (entry_back after comma rest) (in_value one more (record { body = body; nested = nested }))
          ]) (in_entries two other n) (entry name body nested after comma rest)
      by None e None f further inner =
          each_within (entry name body nested after comma)
          (entry_prefix name body nested ++ (text_of after ++ text_of (comma_leaves comma))) []
          (in_entries one path (n + 1) rest) (in_entries two other (n + 1)) (in_entries two other n) rest
          (λ y. rw (in_entries, f) refl) further
      by (Some more) e None f further inner = first (in_value one more v) (in_value-is one is_one more v) f
      by None e (Some rests) f further inner =
          subst (λ (t : List ℕ). EachStays (within (before_entries v) t [] (in_entries one path (n + 1) rest))
          (in_entries two other n) (with_value rest v)) (sym (past_entry name v after comma))
          (later (in_entries one path (n + 1) rest) rests f)
      by (Some more) e (Some rests) f further inner =
          let a : strip more rests ≡ None = rest_none (step n name) path other more rests e f h in
          let b : strip rests more ≡ None = rest_none (step n name) other path rests more f e g in
          each_within (with_value rest) left (entry_back after comma rest) (in_value one more v) (in_value two rests)
          (in_entries two other n) v (λ y. found y rest rests f)
          (value_stays more rests a b v (inner more rests a b))

  -- ---- in lines

  content_stays : (body path other : List Part) → strip path other ≡ None → strip other path ≡ None → (c : Content)
      → EachStays (in_content one body path c) (in_content two body other) c
  content_stays body path other h g blank = tt
  content_stays body path other h g (header before k after) = tt
  content_stays body path other h g (element before k after) = tt
  content_stays body path other h g (keyval name value) = by (strip own path) refl (strip own other) refl
    where
      own : List Part
      own = body ++ step 0 (Some name)

      left : List ℕ
      left = text_of (name_leaves name)

      found : (y : Value) (rests : List Part) → strip own other ≡ Some rests
          → in_content two body other (keyval name y) ≡ within (keyval name) left [] (in_value two rests y)
      found y rests f = rw (in_content, f) refl

      elsewhere : (y : Value) → strip own other ≡ None → in_content two body other (keyval name y) ≡ None
      elsewhere y f = rw (in_content, f) refl

      alone : (o : Option (Changed Value)) → strip own other ≡ None
          → EachStays (within (keyval name) left [] o) (in_content two body other) (keyval name value)
      alone None f = tt
      alone (Some c) f =
          stays_as (framed_change (keyval name) left [] c) None None (in_content two body other (keyval name value))
          (in_content two body other (keyval name c.to)) (elsewhere value f) (elsewhere c.to f) refl

      by : (o : Option (List Part)) → strip own path ≡ o → (p : Option (List Part)) → strip own other ≡ p
          → EachStays {A = Content} (elim o [
            | None ↦ None
            | Some more ↦ within (keyval name) (text_of (name_leaves name)) [] (in_value one more value)
          ]) (in_content two body other) (keyval name value)
      by None e p f = tt
      by (Some more) e None f = alone (in_value one more value) f
      by (Some more) e (Some rests) f =
          let a : strip more rests ≡ None = rest_none own path other more rests e f h in
          let b : strip rests more ≡ None = rest_none own other path rests more f e g in
          each_within (keyval name) left [] (in_value one more value) (in_value two rests) (in_content two body other)
          value (λ y. found y rests f)
          (value_stays more rests a b value (entries_stay more rests a b 0 value.nested))

  line_stays : (path other : List Part) → strip path other ≡ None → strip other path ≡ None → (r : Reading) (l : Line)
      → EachStays (in_line one path r l) (in_line two other r) l
  line_stays path other h g r l =
      each_within (λ c. record l { content = c }) (text_of l.before)
      (text_of l.after ++ text_of (comment_leaves l.comment)) (in_content one r.body path l.content)
      (in_content two r.body other) (in_line two other r) l.content (λ y. refl)
      (content_stays r.body path other h g l.content)

  pub acts_stay : (path other : List Part) → strip path other ≡ None → strip other path ≡ None → (s : Document)
      → EachStays (nested one path s) (nested two other) s
  acts_stay path other h g s =
      document_stays (in_line one path) (in_line two other) (λ r l. in_line-is one is_one path r l)
      (λ r l. in_line-is two is_two other r l) (λ r l. reading_stays one path r l)
      (λ r l. line_stays path other h g r l) s

-- of acts that are done at the end of a path alone
pub nested_stays : (one two : Act) → IsAct one → IsAct two → IsAtEnd one → IsAtEnd two
    → (path other : List Part) → strip path other ≡ None → strip other path ≡ None → (s : Document)
    → EachStays (nested one path s) (nested two other) s
nested_stays one two is_one is_two ends ends_two path other h g s =
    acts_stay one two is_one is_two (ends_stay one two ends ends_two) path other h g s

-- ---- the moved place

moved_start : {A : Type 0} (c d : TextChange) (x y next : Changed A) → place_of x ≡ place_of_change c
    → place_of y ≡ place_of_change d → 0 < d.size → IsMovedBy x y next → length next.before ≡ moved_by c d.at
moved_start c d x y next e f some k =
    let at : length x.before ≡ c.at = ap (λ (p : Place). p.start) e in
    let end : length x.before + length x.old ≡ c.at + c.size = ap (λ (p : Place). p.end) e in
    let new : length x.new ≡ length c.new = ap (λ (p : Place). length p.new) e in
    let at' : length y.before ≡ d.at = ap (λ (p : Place). p.start) f in
    let end' : length y.before + length y.old ≡ d.at + d.size = ap (λ (p : Place). p.end) f in
    elim k [
      | inl g ↦
          let far : length x.before + length x.old ≤ length y.before = g.0 in
          let same : length next.before + length x.old ≡ length y.before + length x.new = g.1 in
          rw (le-ltb d.at c.at (omega (arith, far, at, at', end))) (omega (arith, same, at, at', end, new))
      | inr g ↦
          let far : length y.before + length y.old ≤ length x.before = g.0 in
          let less : d.at < c.at = omega (arith, far, at, at', end', some) in
          rw (lt-ltb d.at c.at less) (g.1 ∙ at')
    ]

moved_place : {A : Type 0} (c d : TextChange) (x y next : Changed A) → place_of x ≡ place_of_change c
    → place_of y ≡ place_of_change d → 0 < d.size → next.old ≡ y.old → next.new ≡ y.new → IsMovedBy x y next
    → place_of next ≡ place_of_change (moved c d)
moved_place c d x y next e f some old given k =
    let at : length next.before ≡ moved_by c d.at = moved_start c d x y next e f some k in
    let end : length y.before + length y.old ≡ d.at + d.size = ap (λ (p : Place). p.end) f in
    let first : length y.before ≡ d.at = ap (λ (p : Place). p.start) f in
    let long : length next.old ≡ d.size = ap length old ∙ omega (arith, end, first) in
    let new : next.new ≡ d.new = given ∙ ap (λ (p : Place). p.new) f in
    ap₂ (λ (a n : ℕ). record { start = a; end = a + n; new = next.new }) at long
    ∙ ap (λ (t : List ℕ). record { start = moved_by c d.at; end = moved_by c d.at + d.size; new = t }) new

-- of an edit whose change stays
pub still_place : (c d : TextChange) (s t : Document) (e : Edit) (x y : Changed Document)
    → place_of x ≡ place_of_change c → place s e ≡ place_of_change d → 0 < d.size → change s e ≡ Some y
    → Stays x (change s e) (change t e) → place t e ≡ place_of_change (moved c d)
still_place c d s t e x y is is' some made goes =
    let still : IsStill x y (change t e) =
    subst (λ (o : Option (Changed Document)). Stays x o (change t e)) made goes in
    ap (λ (o : Option (Changed Document)). place_of (changed_or_same t o)) still.is
    ∙ moved_place c d x y still.next is
    (ap (λ (o : Option (Changed Document)). place_of (changed_or_same s o)) (sym made) ∙ is') some still.old
    still.given still.place

-- of an edit whose change stays after that of another
pub place_after : (s : Document) (first second : Edit) (c d : TextChange) (x y : Changed Document)
    → EachStays (change s first) (λ (t : Document). change t second) s
    → change s first ≡ Some x → change s second ≡ Some y → 0 < d.size
    → place s first ≡ place_of_change c → place s second ≡ place_of_change d
    → place (edited_document s first) second ≡ place_of_change (moved c d)
place_after s first second c d x y stays made made' some is is' =
    let edited : x.to ≡ edited_document s first =
    ap (λ (o : Option (Changed Document)). (changed_or_same s o).to) (sym made) in
    let goes : Stays x (change s second) (change x.to second) =
    subst (λ (o : Option (Changed Document)). EachStays o (λ (t : Document). change t second) s) made stays in
    still_place c d s (edited_document s first) second x y
    (ap (λ (o : Option (Changed Document)). place_of (changed_or_same s o)) (sym made) ∙ is) is' some made'
    (subst (λ (t : Document). Stays x (change s second) (change t second)) edited goes)

-- ---- sets

pub set_place_stays : (s : Document) (path : List Part) (value : Value) (c : TextChange) (other : List Part)
    (more : Value) (d : TextChange) (x y : Changed Document)
    → strip path other ≡ None → strip other path ≡ None
    → change s (set path value) ≡ Some x → change s (set other more) ≡ Some y → 0 < d.size
    → place s (set path value) ≡ place_of_change c → place s (set other more) ≡ place_of_change d
    → place (edited_document s (set path value)) (set other more) ≡ place_of_change (moved c d)
set_place_stays s path value c other more d x y h g made made' some is is' =
    place_after s (set path value) (set other more) c d x y
    (nested_stays (replacement value) (replacement more) (replacement-is value) (replacement-is more)
    (λ p ps v. refl) (λ p ps v. refl) path other h g s) made made' some is is'
