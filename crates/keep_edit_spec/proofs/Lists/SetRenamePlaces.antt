-- A set does not change where and what a rename replaces, except that the place moves.
--
-- Neither path is a prefix of the other. The rename replaces a part of a key: of a line, or of an entry in a value. The
-- set replaces a value, whose key stays. So where both are in one line or one entry, the key part comes before the
-- value (`names_stay`, `key_stays`), and where they are in two, the one comes before the other, as with two sets
-- (SetPlaces). A rename looks into the entries of a value first, and then at their keys. So what stays of both searches
-- stays of the rename (`or_stays` of SetPlaces).
--
-- Theorem: `rename_stays`.
use Rattle.std.proofs.Common.{◌≡◌, ℕ, ◌+◌, ◌-◌, List, [], ◌∷◌, ◌++◌, length, refl, sym, ap, subst, ◌∙◌}
use Rattle.std.proofs.Common.{append_assoc, Option, Some, None}
use Rattle.std.specs.Prelude.{position}
use Rattle.std.proofs.lemmas.List.{append-nil}
use Rattle.keep_syntax.specs.Tree.{Body, Content, Document, Entries, Gap, Line, Name, Value, Written, blank, closing}
use Rattle.keep_syntax.specs.Tree.{comma_leaves, comment_leaves, element, entry, header, keyval, name_leaves}
use Rattle.keep_syntax.specs.Tree.{named_leaves, none, opening, text_of}
use Rattle.keep_path.specs.Path.{Part, same_path}
use Rattle.keep_meaning.specs.Marks.{Reading}
use Rattle.keep_meaning.specs.Meaning.{step}
use Rattle.keep_edit_spec.specs.Look.{strip}
use Rattle.keep_edit_spec.specs.Changed.{Changed, framed_change, or_else, within}
use Rattle.keep_edit_spec.specs.Values.{Act, entries_text, entry_back, entry_prefix, in_entries, in_value, rename_entry}
use Rattle.keep_edit_spec.specs.Values.{rename_name, renaming, replacement, text_of_value}
use Rattle.keep_edit_spec.specs.Lines.{in_content, in_line, part_paths, rename_content, rename_line}
use Rattle.keep_edit_spec.specs.Edits.{change, key_part, rename, set}
use Rattle.keep_edit_spec.proofs.Common.DoneAtValue.{IsAtEnd}
use Rattle.keep_edit_spec.proofs.Common.LineTexts.{in_line-is, rename_line-is}
use Rattle.keep_edit_spec.proofs.Common.Texts.{EachIs, IsAct, in_value-is, name_text_of, rename_name-is, renaming-is}
use Rattle.keep_edit_spec.proofs.Common.Texts.{replacement-is}
use Rattle.keep_edit_spec.proofs.Lists.SetPlaces.{EachStays, InValueStays, Stays, acts_stay, document_stays}
use Rattle.keep_edit_spec.proofs.Lists.SetPlaces.{each_within, first_stays, later_stays, or_stays, past_end}
use Rattle.keep_edit_spec.proofs.Lists.SetPlaces.{past_entry, reading_stays, stays_as}

-- what comes after a change does not matter
same_cut : {A : Type 0} (c : Changed A) (after : List ℕ) (o o' : Option (Changed A)) → Stays c o o'
    → Stays (record c { after = after }) o o'
same_cut c after None o' h = h
same_cut c after (Some d) o' h =
    record { next = h.next; is = h.is; old = h.old; given = h.given; place = h.place }

within_either : {A B : Type 0} (outer : A → B) (left right : List ℕ) (o p : Option (Changed A))
    → within outer left right (or_else o p) ≡ or_else (within outer left right o) (within outer left right p)
within_either outer left right None p = refl
within_either outer left right (Some c) p = refl

-- ---- entries

-- an entry's text up to the comma, with its key in the middle
past_name : (name : Name) (body : Body) (nested : Entries) (after : Gap) (comma : Option Gap)
    → [] ++ (name_text_of name ++ ((text_of (opening body) ++ (entries_text nested ++ text_of (closing body)))
    ++ (text_of after ++ text_of (comma_leaves comma))))
    ≡ entry_prefix (Some name) body nested ++ (text_of after ++ text_of (comma_leaves comma))
past_name name body nested after comma =
    sym (append_assoc (name_text_of name) (text_of (opening body) ++ (entries_text nested ++ text_of (closing body)))
    (text_of after ++ text_of (comma_leaves comma)))

-- The act is done in a value, and the rename is of a key in these entries.
module _ (one : Act) (is_one : IsAct one) (new : Written) where
  names_stay : (path other : List Part) (n : ℕ) (es : Entries)
      → EachStays (in_entries one path n es) (rename_entry new other) es
  names_stay path other n none = tt
  names_stay path other n (entry None body nested after comma rest) = by (strip (step n None) path)
    where
      by : (o : Option (List Part)) → EachStays {A = Entries} (elim o [
        | None ↦
            within (entry None body nested after comma)
            (entry_prefix None body nested ++ (text_of after ++ text_of (comma_leaves comma))) []
            (in_entries one path (n + 1) rest)
        | Some more ↦
            within (λ v. entry None v.body v.nested after comma rest) (text_of (named_leaves None))
            (entry_back after comma rest) (in_value one more (record { body = body; nested = nested }))
      ]) (rename_entry new other) (entry None body nested after comma rest)
      by None = further (in_entries one path (n + 1) rest)
        where
          further : (o : Option (Changed Entries)) → EachStays (within (entry None body nested after comma)
              (entry_prefix None body nested ++ (text_of after ++ text_of (comma_leaves comma))) [] o)
              (rename_entry new other) (entry None body nested after comma rest)
          further None = tt
          further (Some c) = refl
      by (Some more) = inner (in_value one more (record { body = body; nested = nested }))
        where
          inner : (o : Option (Changed Value))
              → EachStays (within (λ v. entry None v.body v.nested after comma rest) (text_of (named_leaves None))
              (entry_back after comma rest) o) (rename_entry new other) (entry None body nested after comma rest)
          inner None = tt
          inner (Some c) = refl
  names_stay path other n (entry (Some name) body nested after comma rest) =
      by (strip (step n (Some name)) path) (strip other (step 0 (Some name))) refl (names_stay path other (n + 1) rest)
    where
      v : Value
      v = record { body = body; nested = nested }

      left : List ℕ
      left = name_text_of name

      more : List ℕ
      more = text_of after ++ text_of (comma_leaves comma)

      part : Option (Changed Name)
      part = rename_name new (length other - 1) name

      -- with another value, or with other entries behind it
      with_value : Entries → Value → Entries
      with_value es y = entry (Some name) y.body y.nested after comma es

      before_entries : Value → Entries → Entries
      before_entries y = entry (Some name) y.body y.nested after comma

      -- with another key
      with_name : Value → Entries → Name → Entries
      with_name y es nm = entry (Some nm) y.body y.nested after comma es

      right : Value → Entries → List ℕ
      right y es =
          text_of (opening y.body) ++ (entries_text y.nested
          ++ (text_of (closing y.body) ++ entry_back after comma es))

      found : (y : Value) (es : Entries) (rests : List Part) → strip other (step 0 (Some name)) ≡ Some rests
          → rename_entry new other (with_value es y) ≡ within (with_name y es) [] (right y es) part
      found y es rests f = rw (rename_entry, f) refl

      passed : (y : Value) (es : Entries) → strip other (step 0 (Some name)) ≡ None
          → rename_entry new other (with_value es y)
          ≡ within (before_entries y) (entry_prefix (Some name) y.body y.nested ++ more) [] (rename_entry new other es)
      passed y es f = rw (rename_entry, f) refl

      passed_value : (y : Value) → strip other (step 0 (Some name)) ≡ None
          → rename_entry new other (with_value rest y)
          ≡ within (before_entries y) (left ++ (text_of_value y ++ more)) [] (rename_entry new other rest)
      passed_value y f =
          passed y rest f ∙ ap (λ (t : List ℕ). within (before_entries y) t [] (rename_entry new other rest))
          (past_entry (Some name) y after comma)

      -- the act is done in this entry's value, and the key is this entry's
      both : (o : Option (Changed Value)) (rests : List Part) → strip other (step 0 (Some name)) ≡ Some rests
          → EachStays (within (with_value rest) left (entry_back after comma rest) o) (rename_entry new other)
          (with_value rest v)
      both None rests f = tt
      both (Some c) rests f =
          subst (λ (t : List ℕ). Stays (framed_change (with_value rest) t (entry_back after comma rest) c)
          (rename_entry new other (with_value rest v)) (rename_entry new other (with_value rest c.to)))
          (append-nil left)
          (stays_as (framed_change (with_value rest) ([] ++ (left ++ [])) (entry_back after comma rest) c)
          (within (with_name v rest) [] (right v rest) part) (within (with_name c.to rest) [] (right c.to rest) part)
          (rename_entry new other (with_value rest v)) (rename_entry new other (with_value rest c.to))
          (found v rest rests f) (found c.to rest rests f)
          (same_cut (framed_change (with_value rest) ([] ++ (left ++ [])) [] c) (c.after ++ entry_back after comma rest)
          (within (with_name v rest) [] (right v rest) part) (within (with_name c.to rest) [] (right c.to rest) part)
          (later_stays name_text_of name (with_name v rest) (with_name c.to rest) [] (right v rest) (right c.to rest)
          [] part (with_value rest) c (rename_name-is new (length other - 1) name))))

      -- or a later one's
      first : (o : Option (Changed Value)) → EachIs text_of_value v o → strip other (step 0 (Some name)) ≡ None
          → EachStays (within (with_value rest) left (entry_back after comma rest) o) (rename_entry new other)
          (with_value rest v)
      first None k f = tt
      first (Some c) k f =
          stays_as (framed_change (with_value rest) left (entry_back after comma rest) c)
          (within (before_entries v) (left ++ (text_of_value v ++ more)) [] (rename_entry new other rest))
          (within (before_entries c.to) (left ++ (text_of_value c.to ++ more)) [] (rename_entry new other rest))
          (rename_entry new other (with_value rest v)) (rename_entry new other (with_value rest c.to))
          (passed_value v f) (passed_value c.to f)
          (first_stays text_of_value v (with_value rest) left (entry_back after comma rest) more c (before_entries v)
          (before_entries c.to) (rename_entry new other rest) k)

      -- the act is done in a later entry, and the key is this entry's
      later : (o : Option (Changed Entries)) (rests : List Part) → strip other (step 0 (Some name)) ≡ Some rests
          → EachStays (within (before_entries v) (entry_prefix (Some name) body nested ++ more) [] o)
          (rename_entry new other) (with_value rest v)
      later None rests f = tt
      later (Some c) rests f =
          subst (λ (t : List ℕ). Stays (framed_change (before_entries v) t [] c)
          (rename_entry new other (with_value rest v)) (rename_entry new other (with_value c.to v)))
          (past_name name body nested after comma)
          (stays_as (framed_change (before_entries v) ([] ++ (left ++ (inside ++ more))) [] c)
          (within (with_name v rest) [] (right v rest) part) (within (with_name v c.to) [] (right v c.to) part)
          (rename_entry new other (with_value rest v)) (rename_entry new other (with_value c.to v))
          (found v rest rests f) (found v c.to rests f)
          (later_stays name_text_of name (with_name v rest) (with_name v c.to) [] (right v rest) (right v c.to)
          (inside ++ more) part (before_entries v) c (rename_name-is new (length other - 1) name)))
        where
          inside : List ℕ
          inside = text_of (opening body) ++ (entries_text nested ++ text_of (closing body))

      by : (o p : Option (List Part)) → strip other (step 0 (Some name)) ≡ p
          → EachStays (in_entries one path (n + 1) rest) (rename_entry new other) rest
          → EachStays {A = Entries} (elim o [
            | None ↦
                within (entry (Some name) body nested after comma)
                (entry_prefix (Some name) body nested ++ (text_of after ++ text_of (comma_leaves comma))) []
                (in_entries one path (n + 1) rest)
            | Some more ↦
                within (λ v. entry (Some name) v.body v.nested after comma rest) (text_of (named_leaves (Some name)))
                (entry_back after comma rest) (in_value one more (record { body = body; nested = nested }))
          ]) (rename_entry new other) (entry (Some name) body nested after comma rest)
      by None None f further =
          each_within (before_entries v) (entry_prefix (Some name) body nested ++ more) []
          (in_entries one path (n + 1) rest) (rename_entry new other) (rename_entry new other) rest
          (λ y. passed v y f) further
      by None (Some rests) f further = later (in_entries one path (n + 1) rest) rests f
      by (Some deeper) None f further = first (in_value one deeper v) (in_value-is one is_one deeper v) f
      by (Some deeper) (Some rests) f further = both (in_value one deeper v) rests f

-- ---- values

renames_stay : (one : Act) → IsAct one → IsAtEnd one → (new : Written) → InValueStays one (renaming new)
renames_stay one is_one ends new [] other h g v k = absurd cc
renames_stay one is_one ends new (p ∷ ps) [] h g v k = absurd cc
renames_stay one is_one ends new (p ∷ ps) (q ∷ qs) h g v k =
    let outer : Entries → Value = λ es. record v { nested = es } in
    let left : List ℕ = text_of (opening v.body) in
    let right : List ℕ = text_of (closing v.body) in
    let two : Act = renaming new in
    subst (λ (o : Option (Changed Value)). EachStays o (in_value two (q ∷ qs)) v) (sym (past_end one ends p ps v))
    (each_within outer left right (in_entries one (p ∷ ps) 0 v.nested)
    (λ es. or_else (in_entries two (q ∷ qs) 0 es) (rename_entry new (q ∷ qs) es)) (in_value two (q ∷ qs)) v.nested
    (λ y. sym (within_either outer left right (in_entries two (q ∷ qs) 0 y) (rename_entry new (q ∷ qs) y)))
    (or_stays (in_entries one (p ∷ ps) 0 v.nested) (in_entries two (q ∷ qs) 0) (rename_entry new (q ∷ qs)) v.nested k
    (names_stay one is_one new (p ∷ ps) (q ∷ qs) 0 v.nested)))

-- ---- lines

-- the act is done in the value of a line's keyval, and the key part is the line's own
module _ (one : Act) (new : Written) (path other : List Part) where
  abbrev own_part : Reading → Content → Option (Changed Content)
  own_part r c = elim (position (same_path other) (part_paths r c)) [ None ↦ None | Some n ↦ rename_content new n c ]

  key_stays : (r : Reading) (name : Name) (value : Value) (o : Option (Changed Value))
      → EachStays (within (keyval name) (text_of (name_leaves name)) [] o) (own_part r) (keyval name value)
  key_stays r name value None = tt
  key_stays r name value (Some c) =
      subst (λ (t : List ℕ). Stays (framed_change (keyval name) t [] c) (own_part r (keyval name value))
      (own_part r (keyval name c.to))) (append-nil (name_text_of name))
      (by (position (same_path other) (part_paths r (keyval name value))))
    where
      by : (o : Option ℕ) → Stays {A = Content} (framed_change (keyval name) ([] ++ (name_text_of name ++ [])) [] c)
          (elim o [ None ↦ None | Some n ↦ rename_content new n (keyval name value) ])
          (elim o [ None ↦ None | Some n ↦ rename_content new n (keyval name c.to) ])
      by None = refl
      by (Some n) =
          later_stays name_text_of name (λ nm. keyval nm value) (λ nm. keyval nm c.to) [] (text_of_value value)
          (text_of_value c.to) [] (rename_name new n name) (keyval name) c (rename_name-is new n name)

  own_stays : (r : Reading) (c : Content) → EachStays (in_content one r.body path c) (own_part r) c
  own_stays r blank = tt
  own_stays r (header before k after) = tt
  own_stays r (element before k after) = tt
  own_stays r (keyval name value) = by (strip (r.body ++ step 0 (Some name)) path)
    where
      by : (o : Option (List Part)) → EachStays {A = Content} (elim o [
        | None ↦ None
        | Some more ↦ within (keyval name) (text_of (name_leaves name)) [] (in_value one more value)
      ]) (own_part r) (keyval name value)
      by None = tt
      by (Some more) = key_stays r name value (in_value one more value)

  line_stays : (r : Reading) (l : Line) → EachStays (in_line one path r l) (rename_line new other r) l
  line_stays r l =
      each_within outer (text_of l.before) right (in_content one r.body path l.content) (own_part r)
      (rename_line new other r) l.content (λ y. by y (position (same_path other) (part_paths r y)))
      (own_stays r l.content)
    where
      outer : Content → Line
      outer c = record l { content = c }

      right : List ℕ
      right = text_of l.after ++ text_of (comment_leaves l.comment)

      by : (y : Content) (o : Option ℕ)
          → ◌≡◌ {A = Option (Changed Line)} (elim o [
            | None ↦ None
            | Some n ↦ within (λ c. record l { content = c }) (text_of l.before)
                (text_of l.after ++ text_of (comment_leaves l.comment)) (rename_content new n y)
          ]) (within outer (text_of l.before) right (elim o [ None ↦ None | Some n ↦ rename_content new n y ]))
      by y None = refl
      by y (Some n) = refl

-- ---- a document

pub rename_stays : (s : Document) (path : List Part) (value : Value) (other : List Part) (key : List ℕ)
    → strip path other ≡ None → strip other path ≡ None
    → EachStays (change s (set path value)) (λ (t : Document). change t (rename other key)) s
rename_stays s path value other key h g =
    let one : Act = replacement value in
    let new : Written = key_part key in
    or_stays (change s (set path value)) _ _ s
    (document_stays (in_line one path) (rename_line new other) (λ r l. in_line-is one (replacement-is value) path r l)
    (λ r l. rename_line-is new other r l) (λ r l. reading_stays one path r l)
    (λ r l. line_stays one new path other r l) s)
    (acts_stay one (renaming new) (replacement-is value) (renaming-is new)
    (renames_stay one (replacement-is value) (λ p ps v. refl) new) path other h g s)
