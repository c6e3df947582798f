-- What lines say: each prefix of a path that ends in a key is spoken of where something under it is.
--
-- A mention under a path comes with a mention at the path, or the path is a prefix of where the line's reading began
-- (`ClosedFrom`). For keyvals this is known of their values. For a header it is an induction over its keys
-- (`header_closed`): each key adds one step, and a step by index into an array of tables adds none that ends in a key
-- (`index_cases`). `prefix_cases` splits a prefix of a joined path: it ends in the first part, or continues into the
-- second. `lines_closed` is the induction over lines, as each line begins where the reading is after the one before.
--
-- Theorems: `lines_closed` for the lines of a document; `header_closed` for one header.
use Rattle.std.proofs.Common.{◌≡◌, ℕ, ◌-◌, Bool, true, false, cond, List, [], ◌∷◌, ◌++◌, map, refl, sym, ap, subst, ◌∙◌}
use Rattle.std.proofs.Common.{append_assoc, Option, Some, None, ◌⊎◌, inl, inr}
use Rattle.std.specs.Prelude.{◌==◌}
use Rattle.keep_syntax.specs.Tree.{Written, Gap, Content, blank, keyval, header, element, Line}
use Rattle.keep_path.specs.Path.{Part, key, index, same_part}
use Rattle.keep_meaning.specs.Marks.{MentionKind, through, past, define, element as kinds_element, begun, passed}
use Rattle.keep_meaning.specs.Marks.{Mention, below, Reading, elements_of, entered_path, passing_mentions, header_path}
use Rattle.keep_meaning.specs.Marks.{header_prefixes}
use Rattle.keep_meaning.specs.Meaning.{key_value, further_value, keys_of, body_fact, entries_mentions, keyval_mentions}
use Rattle.keep_meaning.specs.Meaning.{line_mentions, after_line, lines_mentions, reading_after_lines}
use Rattle.keep_edit_spec.specs.Look.{strip}
use Rattle.keep_edit_spec.proofs.Common.Runs.{solid, AllOf, SomeOf, all_join, all_map, some_left, some_right, IsUnder}
use Rattle.keep_edit_spec.proofs.Common.Runs.{same_part-sound, strip-sound}
use Rattle.keep_edit_spec.proofs.Common.SetLaw.{IsSolidAt, ClosedAt, closed_named, closed_entries, some_below}

abbrev pub Reaches : List Part → List Part → Type 0
Reaches p q = (r : List Part) × (strip p q ≡ Some r)

-- a path that ends in a key
abbrev pub EndsInKey : List Part → Type 0
EndsInKey p = (prefix : List Part) × (k : List ℕ) × (p ≡ prefix ++ key k ∷ [])

-- a prefix of q ++ x is a prefix of q, or continues into x
pub data Cases (p q x : List Part) : Type 0 where
  within_first : Reaches p q → Cases p q x
  beyond : (b : Part) (bs : List Part) → p ≡ q ++ b ∷ bs → Reaches (b ∷ bs) x → Cases p q x

cases_step : (a b : Part) (p q x r : List Part) (c : Bool) → same_part a b ≡ c
    → ((r : List Part) → strip p (q ++ x) ≡ Some r → Cases p q x)
    → elim c [ true ↦ strip p (q ++ x) | false ↦ None ] ≡ Some r → Cases (a ∷ p) (b ∷ q) x
cases_step a b p q x r false e ih h = absurd cc
cases_step a b p q x r true e ih h = elim (ih r h) [
  | within_first u ↦ within_first (u.0, rw (strip, e) u.1)
  | beyond c cs f u ↦ beyond c cs (let s : a ≡ b = same_part-sound a b e in cc) u
]

pub prefix_cases : (p q x r : List Part) → strip p (q ++ x) ≡ Some r → Cases p q x
prefix_cases [] q x r h = within_first (q, refl)
prefix_cases (a ∷ p) [] x r h = beyond a p refl (r, h)
prefix_cases (a ∷ p) (b ∷ q) x r h = cases_step a b p q x r (same_part a b) refl (λ r h. prefix_cases p q x r h) h

-- ---- a header

-- something under the path is said only where the path is spoken of, or is a prefix of where the header began
abbrev pub ClosedFrom : List Part → List Part → List Mention → List Mention → Type 0
ClosedFrom p at all ms = AllOf (λ m. IsUnder p m → SomeOf (IsSolidAt p) all ⊎ Reaches p at) ms

prefix_empty : (bs r : List Part) → bs ++ r ≡ [] → bs ≡ []
prefix_empty [] r h = refl
prefix_empty (b ∷ bs) r h = absurd cc

pub one_part : (b c : Part) (bs r : List Part) → strip (b ∷ bs) (c ∷ []) ≡ Some r → (b ≡ c) × (bs ≡ [])
one_part b c bs r h =
    let e : c ∷ [] ≡ b ∷ bs ++ r = strip-sound (b ∷ bs) (c ∷ []) r h in
    (let x : b ≡ c = cc in x, prefix_empty bs r (let y : bs ++ r ≡ [] = cc in y))

abbrev pub last_from : Part → List Part → Part
last_from d [] = d
last_from d (x ∷ xs) = last_from x xs

pub last_snoc : (d x : Part) (xs : List Part) → last_from d (xs ++ x ∷ []) ≡ x
last_snoc d x [] = refl
last_snoc d x (y ∷ xs) = last_snoc y x xs

-- a prefix of a path with one more key
snoc_cases : (p at : List Part) (k : List ℕ) → Reaches p (at ++ key k ∷ []) → (p ≡ at ++ key k ∷ []) ⊎ Reaches p at
snoc_cases p at k u = elim (prefix_cases p at (key k ∷ []) u.0 u.1) [
  | within_first v ↦ inr v
  | beyond b bs e v ↦
      (let (x, y) = one_part b (key k) bs v.0 v.1 in
      inl (e ∙ ap (λ (l : List Part). at ++ l) (let z : b ∷ bs ≡ key k ∷ [] = cc in z)))
]

-- with one more index a prefix that ends in a key is one of the path before
pub index_cases : (p at : List Part) (n : ℕ) → EndsInKey p → Reaches p (at ++ index n ∷ []) → Reaches p at
index_cases p at n ends u = elim (prefix_cases p at (index n ∷ []) u.0 u.1) [
  | within_first v ↦ v
  | beyond b bs e v ↦
      (let (x, y) = one_part b (index n) bs v.0 v.1 in
      let z : b ∷ bs ≡ index n ∷ [] = cc in
      let whole : ends.0 ++ key ends.1 ∷ [] ≡ at ++ index n ∷ [] = sym ends.2 ∙ e ∙ ap (λ (l : List Part). at ++ l) z in
      let same : key ends.1 ≡ index n =
      sym (last_snoc (index n) (key ends.1) ends.0) ∙ ap (last_from (index n)) whole
      ∙ last_snoc (index n) (index n) at in
      absurd cc)
]

entered_by : (p at : List Part) (n : ℕ) (b : Bool) → EndsInKey p → Reaches p (cond b at (at ++ index n ∷ []))
    → Reaches p at
entered_by p at n true ends u = u
entered_by p at n false ends u = index_cases p at n ends u

entered_cases : (tables : List (List Part)) (p at : List Part) → EndsInKey p → Reaches p (entered_path tables at)
    → Reaches p at
entered_cases tables p at ends u = entered_by p at (elements_of at tables - 1) (0 == elements_of at tables) ends u

-- what a header says on its way
passing_top : (tables : List (List Part)) (q : List Part) (b : Bool) → SomeOf (IsSolidAt q)
    (cond b (record { path = q; kind = through } ∷ [])
    (record { path = q; kind = past } ∷ record { path = entered_path tables q; kind = passed } ∷ []))
passing_top tables q true = inl (record { path = refl; kind = refl })
passing_top tables q false = inl (record { path = refl; kind = refl })

passing_under : (tables : List (List Part)) (p q : List Part) → EndsInKey p → (b : Bool)
    → AllOf (λ m. IsUnder p m → Reaches p q)
    (cond b (record { path = q; kind = through } ∷ [])
    (record { path = q; kind = past } ∷ record { path = entered_path tables q; kind = passed } ∷ []))
passing_under tables p q ends true = ((λ u. u), tt)
passing_under tables p q ends false = ((λ u. u), ((λ u. entered_cases tables p q ends u), tt))

abbrev pub header_all : List (List Part) → List Part → List (List ℕ) → MentionKind → List Mention
header_all tables at keys mention_kind =
    header_prefixes tables at keys ++ record { path = header_path tables at keys; kind = mention_kind } ∷ []

pub record IsHeaderClosed (tables : List (List Part)) (p at : List Part) (keys : List (List ℕ))
    (mention_kind : MentionKind) : Type 0 where
  pub each : ClosedFrom p at (header_all tables at keys mention_kind) (header_all tables at keys mention_kind)
  pub path : Reaches p (header_path tables at keys)
      → SomeOf (IsSolidAt p) (header_all tables at keys mention_kind) ⊎ Reaches p at

last_key : (p at : List Part) (k : List ℕ) (mention_kind : MentionKind) → solid mention_kind ≡ true
    → Reaches p (at ++ key k ∷ [])
    → SomeOf (IsSolidAt p) (record { path = at ++ key k ∷ []; kind = mention_kind } ∷ []) ⊎ Reaches p at
last_key p at k mention_kind s u =
    elim (snoc_cases p at k u) [ inl e ↦ inl (inl (record { path = sym e; kind = s })) | inr v ↦ inr v ]

pub header_closed : (tables : List (List Part)) (p at : List Part) (keys : List (List ℕ)) (k : List ℕ)
    (mention_kind : MentionKind) → solid mention_kind ≡ true → EndsInKey p
    → IsHeaderClosed tables p at (k ∷ keys) mention_kind
header_closed tables p at [] k mention_kind s ends = record {
  each = ((λ u. last_key p at k mention_kind s u), tt);
  path = λ u. last_key p at k mention_kind s u;
}
header_closed tables p at (l ∷ ks) k mention_kind s ends =
    let q : List Part = at ++ key k ∷ [] in
    let ih = header_closed tables p (entered_path tables q) ks l mention_kind s ends in
    let prefixes : List Mention = passing_mentions tables q in
    let rest : List Mention = header_all tables (entered_path tables q) (l ∷ ks) mention_kind in
    let whole : header_all tables at (k ∷ l ∷ ks) mention_kind ≡ prefixes ++ rest =
    append_assoc prefixes (header_prefixes tables (entered_path tables q) (l ∷ ks))
    (record { path = header_path tables (entered_path tables q) (l ∷ ks); kind = mention_kind } ∷ []) in
    let reach : Reaches p q → SomeOf (IsSolidAt p) (prefixes ++ rest) ⊎ Reaches p at = λ u. elim (snoc_cases p at k u) [
      | inl e ↦
          inl (some_left (IsSolidAt p) prefixes rest
          (subst (λ (x : List Part). SomeOf (IsSolidAt x) prefixes) (sym e)
          (passing_top tables q (0 == elements_of q tables))))
      | inr v ↦ inr v
    ] in
    let onward : SomeOf (IsSolidAt p) rest ⊎ Reaches p (entered_path tables q)
    → SomeOf (IsSolidAt p) (prefixes ++ rest) ⊎ Reaches p at = λ h. elim h [
      | inl h' ↦ inl (some_right (IsSolidAt p) prefixes rest h')
      | inr u ↦ reach (entered_cases tables p q ends u)
    ] in
    record {
      each = subst (λ (l : List Mention). ClosedFrom p at l l) (sym whole)
          (all_join (λ m. IsUnder p m → SomeOf (IsSolidAt p) (prefixes ++ rest) ⊎ Reaches p at) prefixes rest
          (all_map (λ m. IsUnder p m → Reaches p q)
          (λ m. IsUnder p m → SomeOf (IsSolidAt p) (prefixes ++ rest) ⊎ Reaches p at) (λ m f u. reach (f u)) prefixes
          (passing_under tables p q ends (0 == elements_of q tables)))
          (all_map (λ m. IsUnder p m → SomeOf (IsSolidAt p) rest ⊎ Reaches p (entered_path tables q))
          (λ m. IsUnder p m → SomeOf (IsSolidAt p) (prefixes ++ rest) ⊎ Reaches p at) (λ m f u. onward (f u)) rest
          ih.each));
      path = λ u. subst (λ (l : List Mention). SomeOf (IsSolidAt p) l ⊎ Reaches p at) (sym whole) (onward (ih.path u));
    }

-- ---- lines

pub record IsLineClosed (p : List Part) (r : Reading) (l : Line) : Type 0 where
  pub each : ClosedFrom p r.body (line_mentions r l) (line_mentions r l)
  -- where the next line's body lies under the path, so did this line's, or this line speaks of the path
  pub after : Reaches p (after_line r l).body → SomeOf (IsSolidAt p) (line_mentions r l) ⊎ Reaches p r.body

keyval_closed : (p body : List Part) (all ms : List Mention) → ((q : Part) (qs : List Part) → ClosedAt (q ∷ qs) all ms)
    → ClosedFrom p body (map (below body) all) (map (below body) ms)
keyval_closed p body all [] h = tt
keyval_closed p body all (m ∷ ms) h = (
  (λ u. elim (prefix_cases p body m.path u.0 u.1) [
    | within_first v ↦ inr v
    | beyond b bs e v ↦
        inl (subst (λ (x : List Part). SomeOf (IsSolidAt x) (map (below body) all)) (sym e)
        (some_below body (b ∷ bs) all ((h b bs).0 v)))
  ]),
  keyval_closed p body all ms (λ q qs. (h q qs).1),
)

pub never_root : (p : List Part) → EndsInKey p → Reaches p [] → ⊥
never_root p ends v =
    let e : p ≡ [] = prefix_empty p v.0 (sym (strip-sound p [] v.0 v.1)) in
    let same : key ends.1 ≡ index 0 =
    sym (last_snoc (index 0) (key ends.1) ends.0) ∙ ap (last_from (index 0)) (sym ends.2 ∙ e) in
    absurd cc

header_line : (p body : List Part) (all : List Mention) → EndsInKey p → SomeOf (IsSolidAt p) all ⊎ Reaches p []
    → SomeOf (IsSolidAt p) all ⊎ Reaches p body
header_line p body all ends (inl s) = inl s
header_line p body all ends (inr v) = absurd (never_root p ends v)

content_closed : (p : List Part) (r : Reading) (before : Gap) (after' : Gap) (comment : Option Written) → EndsInKey p
    → (c : Content) → IsLineClosed p r (record { before = before; content = c; after = after'; comment = comment })
content_closed p r before after' comment ends blank = record { each = tt; after = λ u. inr u }
content_closed p r before after' comment ends (keyval name v) = record {
  each = keyval_closed p r.body (keyval_mentions name v) (keyval_mentions name v)
      (closed_named 0 (Some name) (body_fact v.body) (entries_mentions 0 v.nested) (closed_entries 0 v.nested));
  after = λ u. inr u;
}
content_closed p r before after' comment ends (header b k a) =
    let all : List Mention = header_all r.tables [] (keys_of k) define in
    let h = header_closed r.tables p [] (map further_value k.more) (key_value k.first) define refl ends in
    record {
      each = all_map (λ m. IsUnder p m → SomeOf (IsSolidAt p) all ⊎ Reaches p [])
          (λ m. IsUnder p m → SomeOf (IsSolidAt p) all ⊎ Reaches p r.body)
          (λ m f u. header_line p r.body all ends (f u)) all h.each;
      after = λ u. header_line p r.body all ends (h.path u);
    }
content_closed p r before after' comment ends (element b k a) =
    let path : List Part = header_path r.tables [] (keys_of k) in
    let n : ℕ = elements_of path r.tables in
    let first : List Mention = header_all r.tables [] (keys_of k) kinds_element in
    let more : List Mention = record { path = path ++ index n ∷ []; kind = begun } ∷ [] in
    let h = header_closed r.tables p [] (map further_value k.more) (key_value k.first) kinds_element refl ends in
    let whole : first ++ more ≡ header_prefixes r.tables [] (keys_of k)
    ++ (record { path = path; kind = kinds_element } ∷ more) =
    append_assoc (header_prefixes r.tables [] (keys_of k)) (record { path = path; kind = kinds_element } ∷ []) more in
    let lift : SomeOf (IsSolidAt p) first ⊎ Reaches p [] → SomeOf (IsSolidAt p) (first ++ more) ⊎ Reaches p r.body =
    λ s. elim (header_line p r.body first ends s) [
      | inl t ↦ inl (some_left (IsSolidAt p) first more t)
      | inr v ↦ inr v
    ] in
    record {
      each = subst (λ (l : List Mention). ClosedFrom p r.body l l) whole
          (all_join (λ m. IsUnder p m → SomeOf (IsSolidAt p) (first ++ more) ⊎ Reaches p r.body) first more
          (all_map (λ m. IsUnder p m → SomeOf (IsSolidAt p) first ⊎ Reaches p [])
          (λ m. IsUnder p m → SomeOf (IsSolidAt p) (first ++ more) ⊎ Reaches p r.body)
          (λ m f u. lift (f u)) first h.each)
          ((λ u. lift (h.path (index_cases p path n ends u))), tt));
      after = λ u.
          subst (λ (l : List Mention). SomeOf (IsSolidAt p) l ⊎ Reaches p r.body) whole
          (lift (h.path (index_cases p path n ends u)));
    }

pub line_closed : (p : List Part) (r : Reading) (l : Line) → EndsInKey p → IsLineClosed p r l
line_closed p r l ends = content_closed p r l.before l.after l.comment ends l.content

-- of lines: under the path something is said only where they speak of the path, or where it is a prefix of the body
-- that they begin in
pub lines_closed : (p : List Part) (r : Reading) (ls : List Line) → EndsInKey p
    → ClosedFrom p r.body (lines_mentions r ls) (lines_mentions r ls)
lines_closed p r [] ends = tt
lines_closed p r (l ∷ ls) ends =
    let first : List Mention = line_mentions r l in
    let rest : List Mention = lines_mentions (after_line r l) ls in
    let h = line_closed p r l ends in
    let lift : SomeOf (IsSolidAt p) first ⊎ Reaches p r.body → SomeOf (IsSolidAt p) (first ++ rest) ⊎ Reaches p r.body =
    λ s. elim s [
      | inl t ↦ inl (some_left (IsSolidAt p) first rest t)
      | inr v ↦ inr v
    ] in
    all_join (λ m. IsUnder p m → SomeOf (IsSolidAt p) (first ++ rest) ⊎ Reaches p r.body) first rest
    (all_map (λ m. IsUnder p m → SomeOf (IsSolidAt p) first ⊎ Reaches p r.body)
    (λ m. IsUnder p m → SomeOf (IsSolidAt p) (first ++ rest) ⊎ Reaches p r.body) (λ m f u. lift (f u)) first h.each)
    (all_map (λ m. IsUnder p m → SomeOf (IsSolidAt p) rest ⊎ Reaches p (after_line r l).body)
    (λ m. IsUnder p m → SomeOf (IsSolidAt p) (first ++ rest) ⊎ Reaches p r.body)
    (λ m f u. elim (f u) [ inl t ↦ inl (some_right (IsSolidAt p) first rest t) | inr v ↦ lift (h.after v) ]) rest
    (lines_closed p (after_line r l) ls ends))

pub lines_mentions-append : (r : Reading) (a b : List Line)
    → lines_mentions r (a ++ b) ≡ lines_mentions r a ++ lines_mentions (reading_after_lines r a) b
lines_mentions-append r [] b = refl
lines_mentions-append r (l ∷ a) b =
    ap (λ x. line_mentions r l ++ x) (lines_mentions-append (after_line r l) a b)
    ∙ sym (append_assoc (line_mentions r l) (lines_mentions (after_line r l) a)
    (lines_mentions (reading_after_lines (after_line r l) a) b))
