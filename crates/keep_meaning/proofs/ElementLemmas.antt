-- Which elements there are, by the `[[..]]` lines so far, and what each statement says of them.
--
-- An element is there if its number is less than the count of `[[..]]` lines with the path before it (`is_reached`). A
-- `[[..]]` line begins the first one that is not there yet, a header passes one that is there, and no other statement
-- changes what is there: `IsSound` says this, with what names the items and elements, the arrays of tables and the
-- table that further keyvals are in, of any statement and of several. So no element is begun twice, and one that is
-- passed was begun before.
--
-- Theorems: `sound_statements` and `sound_from`.
use Rattle.std.proofs.Common.{◌≡◌, ℕ, ◌+◌, ◌-◌, ◌<◌, ◌≤◌, Bool, true, false, cond, ◌||◌, List, [], ◌∷◌, ◌++◌, map, refl}
use Rattle.std.proofs.Common.{sym, ap, ap₂, subst, ◌∙◌, ◌⊎◌, inl, inr, arith, Option, Some, None}
use Rattle.std.specs.Prelude.{◌==◌, nat_lt}
use Rattle.std.specs.List.{cons_option, filter_map}
use Rattle.std.proofs.lemmas.Bool.{cases_lt, lt-ltb, le-ltb, or_parts}
use Rattle.std.proofs.lemmas.Bool.Decides.{nat_tests}
use Rattle.std.proofs.lemmas.List.Sums.{sum_by-append, sum_by-cons}
use Rattle.keep_types.specs.declared.role.Role.TheVariants as role
use Rattle.keep_syntax.specs.Tree.{Content, blank, keyval, header, element, Line, Document}
use Rattle.keep_path.specs.Path.{Part, key, index, last_part, without_last, same_path}
use Rattle.keep_path.proofs.Shared.{last_pushed, path_decides}
use Rattle.keep_meaning.specs.Marks as marks
use Rattle.keep_meaning.specs.Marks.{through, past, define, element as kinds_element, begun, passed, Mention, Statement}
use Rattle.keep_meaning.specs.Marks.{below, Reading, statement_mentions, next_reading, reading_after, mentions_from}
use Rattle.keep_meaning.specs.Marks.{elements_of, entered_path, passing_mentions, header_prefixes, header_path}
use Rattle.keep_meaning.specs.Meaning.{key_value, further_value, body_fact, entries_mentions, entry_mentions}
use Rattle.keep_meaning.specs.Meaning.{statement_of, lines}
use Rattle.keep_meaning.specs.Counts.{line_statement, statements_in}
use Rattle.keep_meaning.specs.Nodes.{is_begun, is_define, is_passed}
use Rattle.keep_meaning.proofs.LineNumberLemmas.{AllOf, all_join, all_of}
use Rattle.keep_meaning.proofs.NamedLemmas.{Fits, FitsInside, IsElementNamed, IsItemNamed, Says, SomeOf, AreNamed, base}
use Rattle.keep_meaning.proofs.NamedLemmas.{base_none, base_whole, ends, ends_below, fits_line, is_item, key_ends}
use Rattle.keep_meaning.proofs.NamedLemmas.{named_line, some_left, some_right}

-- ---- the elements that are there

abbrev reached_at : List (List Part) → List Part → Option Part → Bool
reached_at tables q (Some (index n)) = nat_lt n (elements_of q tables)
reached_at tables q _ = false

abbrev pub is_reached : List (List Part) → List Part → Bool
is_reached tables p = reached_at tables (without_last p) (last_part p)

pub without_pushed : (p : List Part) (x : Part) → without_last (p ++ x ∷ []) ≡ p
without_pushed [] x = refl
without_pushed (a ∷ []) x = refl
without_pushed (a ∷ b ∷ p) x = ap (λ (q : List Part). a ∷ q) (without_pushed (b ∷ p) x)

whole_path : (p : List Part) (x : Part) → last_part p ≡ Some x → p ≡ without_last p ++ x ∷ []
whole_path [] x h = absurd cc
whole_path (a ∷ []) x h = let one : a ≡ x = cc in ap (λ (y : Part). y ∷ []) one
whole_path (a ∷ b ∷ p) x h = ap (λ (q : List Part). a ∷ q) (whole_path (b ∷ p) x h)

pub reached_pushed : (tables : List (List Part)) (q : List Part) (n : ℕ)
    → is_reached tables (q ++ index n ∷ []) ≡ nat_lt n (elements_of q tables)
reached_pushed tables q n = ap₂ (reached_at tables) (without_pushed q (index n)) (last_pushed q (index n))

-- none is there before the first `[[..]]` line
pub none_reached : (p : List Part) → is_reached [] p ≡ false
none_reached p = by (last_part p)
  where
    by : (o : Option Part) → reached_at [] (without_last p) o ≡ false
    by None = refl
    by (Some (key k)) = refl
    by (Some (index n)) = le-ltb n 0 (omega arith)

one_more : (q t : List Part) (tables : List (List Part))
    → elements_of q (tables ++ t ∷ []) ≡ elements_of q tables + cond (same_path t q) 1 0
one_more q t tables =
    let has : List Part → ℕ = λ u. cond (same_path u q) 1 0 in
    omega (arith, sum_by-append has tables (t ∷ []), sum_by-cons has t [])

below_from : (n m : ℕ) → nat_lt n m ≡ true → n < m
below_from n m h = grind (arith, nat_tests)

-- with one `[[..]]` line more
reached_more : (tables : List (List Part)) (t p : List Part) → is_reached tables p ≡ true
    → is_reached (tables ++ t ∷ []) p ≡ true
reached_more tables t p h = by (last_part p) h
  where
    by : (o : Option Part) → reached_at tables (without_last p) o ≡ true
        → reached_at (tables ++ t ∷ []) (without_last p) o ≡ true
    by None h = absurd cc
    by (Some (key k)) h = absurd cc
    by (Some (index n)) h =
        let q : List Part = without_last p in
        lt-ltb n (elements_of q (tables ++ t ∷ []))
        (omega (arith, below_from n (elements_of q tables) h, one_more q t tables))

-- it begins the next element of its path
new_last : (tables : List (List Part)) (t p q : List Part) (n : ℕ) → p ≡ q ++ index n ∷ []
    → n < elements_of q (tables ++ t ∷ []) → (b : Bool) → same_path t q ≡ b
    → (n < elements_of q tables) ⊎ (elements_of q tables ≤ n)
    → (nat_lt n (elements_of q tables) ≡ true) ⊎ (p ≡ t ++ index (elements_of t tables) ∷ [])
new_last tables t p q n is low b e (inl before) = inl (lt-ltb n (elements_of q tables) before)
new_last tables t p q n is low true e (inr high) =
    let same : t ≡ q = (path_decides t q).0 e in
    let more : elements_of q (tables ++ t ∷ []) ≡ elements_of q tables + 1 =
    one_more q t tables ∙ ap (λ (b : Bool). elements_of q tables + cond {A = ℕ} b 1 0) e in
    let last : n ≡ elements_of q tables = omega (arith, low, high, more) in
    inr (is ∙ ap₂ (λ (l : List Part) (m : ℕ). l ++ index m ∷ []) (sym same)
    (last ∙ ap (λ (l : List Part). elements_of l tables) (sym same)))
new_last tables t p q n is low false e (inr high) =
    let none : elements_of q (tables ++ t ∷ []) ≡ elements_of q tables + 0 =
    one_more q t tables ∙ ap (λ (b : Bool). elements_of q tables + cond {A = ℕ} b 1 0) e in
    absurd (omega (arith, low, high, none))

reached_new : (tables : List (List Part)) (t p : List Part) → is_reached (tables ++ t ∷ []) p ≡ true
    → (is_reached tables p ≡ true) ⊎ (p ≡ t ++ index (elements_of t tables) ∷ [])
reached_new tables t p h = by (last_part p) refl h
  where
    by : (o : Option Part) → last_part p ≡ o → reached_at (tables ++ t ∷ []) (without_last p) o ≡ true
        → (reached_at tables (without_last p) o ≡ true) ⊎ (p ≡ t ++ index (elements_of t tables) ∷ [])
    by None is h = absurd cc
    by (Some (key k)) is h = absurd cc
    by (Some (index n)) is h =
        let q : List Part = without_last p in
        new_last tables t p q n (whole_path p (index n) is) (below_from n (elements_of q (tables ++ t ∷ [])) h)
        (same_path t q) refl (cases_lt n (elements_of q tables))

-- ---- a statement

-- this mention begins the element at the path
abbrev pub Begins : List Part → Mention → Type 0
Begins p m = (is_begun m.kind ≡ true) × (m.path ≡ p)

-- it opens the table at the path, in which further keyvals are
abbrev pub Opens : List Part → Mention → Type 0
Opens q m = ((is_define m.kind || is_begun m.kind) ≡ true) × (m.path ≡ q)

abbrev pub IsFresh : Reading → Mention → Type 0
IsFresh r m = is_begun m.kind ≡ true → is_reached r.tables m.path ≡ false

abbrev pub IsThere : Reading → Mention → Type 0
IsThere r m = (is_begun m.kind || is_passed m.kind) ≡ true → is_reached r.tables m.path ≡ true

-- what a statement says from one reading on, and the reading after it
pub record IsSound (r next : Reading) (ms : List Mention) : Type 0 where
  pub fits : AllOf Fits ms
  pub items : AreNamed ms
  pub elements : AllOf (IsElementNamed ms) ms
  pub fresh : AllOf (IsFresh r) ms
  pub there : AllOf (IsThere next) ms
  pub begins : (p : List Part) → is_reached next.tables p ≡ true → (is_reached r.tables p ≡ true) ⊎ SomeOf (Begins p) ms
  pub grows : (p : List Part) → is_reached r.tables p ≡ true → is_reached next.tables p ≡ true
  pub tables : (t : List Part) → 0 < elements_of t next.tables
      → (0 < elements_of t r.tables) ⊎ SomeOf (Says role.Element t) ms
  pub body : (q : List Part) → next.body ≡ q → (r.body ≡ q) ⊎ SomeOf (Opens q) ms

abbrev pub IsSoundStatement : Statement → Type 0
IsSoundStatement s = (r : Reading) → IsSound r (next_reading r s) (statement_mentions r s)

-- what a header says of the paths on its way
record IsOnWay (tables : List (List Part)) (m : Mention) : Type 0 where
  fits : Fits m
  item : is_item m.kind ≡ false
  begins : is_begun m.kind ≡ false
  there : is_passed m.kind ≡ true → is_reached tables m.path ≡ true

passing_on_way : (tables : List (List Part)) (path : List Part) → ends path ≡ Some true
    → AllOf (IsOnWay tables) (passing_mentions tables path)
passing_on_way tables path h = by (0 == elements_of path tables) refl
  where
    by : (b : Bool) → (0 == elements_of path tables) ≡ b
        → AllOf (IsOnWay tables) (cond b (record { path = path; kind = through } ∷ [])
        (record { path = path; kind = past }
        ∷ record { path = cond b path (path ++ index (elements_of path tables - 1) ∷ []); kind = passed } ∷ []))
    by true e = (record { fits = h; item = refl; begins = refl; there = λ is. cc }, tt)
    by false e =
        let n : ℕ = elements_of path tables in
        let some : n - 1 < n = grind (arith, nat_tests) in (
          record { fits = h; item = refl; begins = refl; there = λ is. cc },
          (
            record {
              fits = ends_below path (index (n - 1) ∷ []) false refl;
              item = refl;
              begins = refl;
              there = λ is. reached_pushed tables path (n - 1) ∙ lt-ltb (n - 1) n some;
            },
            tt,
          ),
        )

prefixes_on_way : (tables : List (List Part)) (at : List Part) (ks : List (List ℕ))
    → AllOf (IsOnWay tables) (header_prefixes tables at ks)
prefixes_on_way tables at [] = tt
prefixes_on_way tables at (k ∷ []) = tt
prefixes_on_way tables at (k ∷ l ∷ ks) =
    let path : List Part = at ++ key k ∷ [] in
    all_join (IsOnWay tables) (passing_mentions tables path)
    (header_prefixes tables (entered_path tables path) (l ∷ ks))
    (passing_on_way tables path (key_ends at k)) (prefixes_on_way tables (entered_path tables path) (l ∷ ks))

pub header_ends : (tables : List (List Part)) (at : List Part) (k : List ℕ) (ks : List (List ℕ))
    → ends (header_path tables at (k ∷ ks)) ≡ Some true
header_ends tables at k [] = key_ends at k
header_ends tables at k (l ∷ ks) = header_ends tables (entered_path tables (at ++ key k ∷ [])) l ks

pub no_longer : (b : Bool) → b ≡ true → b ≡ false → ⊥
no_longer true h g = cc
no_longer false h g = cc

either_one : (a b : Bool) → a ≡ false → (a || b) ≡ true → b ≡ true
either_one true b h g = absurd cc
either_one false b h g = g

-- what holds by some of the later mentions, or else by some of the earlier, or before both
joined : {B : Type 0} (A : Type 0) (P : Mention → Type 0) (xs ys : List Mention) → B ⊎ SomeOf P ys
    → (B → A ⊎ SomeOf P xs) → A ⊎ SomeOf P (xs ++ ys)
joined A P xs ys (inr h) f = inr (some_right P xs ys h)
joined A P xs ys (inl b) f = by (f b)
  where
    by : A ⊎ SomeOf P xs → A ⊎ SomeOf P (xs ++ ys)
    by (inl a) = inl a
    by (inr h) = inr (some_left P xs ys h)

-- a header with its last mentions
sound_header : (r next : Reading) (k : List ℕ) (ks : List (List ℕ)) (last : List Mention)
    → AllOf Fits last → AllOf (λ (m : Mention). is_item m.kind ≡ false) last → AllOf (IsElementNamed last) last
    → AllOf (IsFresh r) last → AllOf (IsThere next) last
    → ((p : List Part) → is_reached next.tables p ≡ true → (is_reached r.tables p ≡ true) ⊎ SomeOf (Begins p) last)
    → ((p : List Part) → is_reached r.tables p ≡ true → is_reached next.tables p ≡ true)
    → ((t : List Part) → 0 < elements_of t next.tables
    → (0 < elements_of t r.tables) ⊎ SomeOf (Says role.Element t) last)
    → SomeOf (Opens next.body) last
    → IsSound r next (header_prefixes r.tables [] (k ∷ ks) ++ last)
sound_header r next k ks last fits plain named fresh there begins grows tables body =
    let way : List Mention = header_prefixes r.tables [] (k ∷ ks) in
    let all : List Mention = way ++ last in
    let on : AllOf (IsOnWay r.tables) way = prefixes_on_way r.tables [] (k ∷ ks) in
    record {
      fits = all_join Fits way last (all_of (IsOnWay r.tables) Fits (λ m h. h.fits) way on) fits;
      items = all_join (IsItemNamed all) way last
          (all_of (IsOnWay r.tables) (IsItemNamed all) (λ m h is. absurd (no_longer (is_item m.kind) is h.item)) way on)
          (all_of (λ (m : Mention). is_item m.kind ≡ false) (IsItemNamed all)
          (λ m h is. absurd (no_longer (is_item m.kind) is h)) last plain);
      elements =
          all_join (IsElementNamed all) way last
          (all_of (IsOnWay r.tables) (IsElementNamed all) (λ m h is. absurd (no_longer (is_begun m.kind) is h.begins))
          way on)
          (all_of (IsElementNamed last) (IsElementNamed all)
          (λ m h is. some_right (Says role.Element (base m.path)) way last (h is)) last named);
      fresh = all_join (IsFresh r) way last
          (all_of (IsOnWay r.tables) (IsFresh r) (λ m h is. absurd (no_longer (is_begun m.kind) is h.begins)) way on)
          fresh;
      there = all_join (IsThere next) way last
          (all_of (IsOnWay r.tables) (IsThere next)
          (λ m h is. grows m.path (h.there (either_one (is_begun m.kind) (is_passed m.kind) h.begins is))) way on)
          there;
      begins = λ p h. joined (is_reached r.tables p ≡ true) (Begins p) way last (begins p h) (λ g. inl g);
      grows = grows;
      tables = λ t h. joined (0 < elements_of t r.tables) (Says role.Element t) way last (tables t h) (λ g. inl g);
      body = λ q e. inr (some_right (Opens q) way last (subst (λ (b : List Part). SomeOf (Opens b) last) e body));
    }

-- of `[..]`, and of `[[..]]`
sound_table : (k : List ℕ) (ks : List (List ℕ)) → IsSoundStatement (marks.header (k ∷ ks))
sound_table k ks r =
    sound_header r (next_reading r (marks.header (k ∷ ks))) k ks
    (record { path = header_path r.tables [] (k ∷ ks); kind = define } ∷ [])
    (header_ends r.tables [] k ks, tt) (refl, tt) ((λ is. cc), tt) ((λ is. cc), tt) ((λ is. cc), tt) (λ p h. inl h)
    (λ p h. h)
    (λ t h. inl h) (inl (refl, refl))

sound_element : (k : List ℕ) (ks : List (List ℕ)) → IsSoundStatement (marks.element_header (k ∷ ks))
sound_element k ks r =
    let path : List Part = header_path r.tables [] (k ∷ ks) in
    let n : ℕ = elements_of path r.tables in
    let own : List Part = path ++ index n ∷ [] in
    let whole : ends path ≡ Some true = header_ends r.tables [] k ks in
    let more : elements_of path (r.tables ++ path ∷ []) ≡ n + 1 =
    one_more path path r.tables ∙ ap (λ (b : Bool). n + cond {A = ℕ} b 1 0) ((path_decides path path).1 refl) in
    let named : path ≡ base own = sym (base_whole path whole) ∙ sym (base_none path (index n ∷ []) refl) in
    let there : is_reached (r.tables ++ path ∷ []) own ≡ true =
    reached_pushed (r.tables ++ path ∷ []) path n
    ∙ lt-ltb n (elements_of path (r.tables ++ path ∷ [])) (omega (arith, more)) in
    sound_header r (next_reading r (marks.element_header (k ∷ ks))) k ks
    (record { path = path; kind = kinds_element } ∷ record { path = own; kind = begun } ∷ [])
    (whole, (ends_below path (index n ∷ []) false refl, tt)) (refl, (refl, tt))
    ((λ is. cc), ((λ is. inl (refl, named)), tt))
    ((λ is. cc), ((λ is. reached_pushed r.tables path n ∙ le-ltb n n (omega arith)), tt))
    ((λ is. cc), ((λ is. there), tt))
    (λ p h. begun_by p (reached_new r.tables path p h)) (λ p h. reached_more r.tables path p h)
    (λ t h. named_table t (same_path path t) refl h) (inr (inl (refl, refl)))
  where
    named_table : (t : List Part) (b : Bool) → same_path (header_path r.tables [] (k ∷ ks)) t ≡ b
        → 0 < elements_of t (r.tables ++ header_path r.tables [] (k ∷ ks) ∷ []) → (0 < elements_of t r.tables)
        ⊎ SomeOf (Says role.Element t)
        (record { path = header_path r.tables [] (k ∷ ks); kind = kinds_element }
        ∷ record {
          path = header_path r.tables [] (k ∷ ks) ++ index (elements_of (header_path r.tables [] (k ∷ ks)) r.tables)
              ∷ [];
          kind = begun;
        } ∷ [])
    named_table t true e h = inr (inl (refl, (path_decides (header_path r.tables [] (k ∷ ks)) t).0 e))
    named_table t false e h =
        inl (omega (
          arith,
          h,
          one_more t (header_path r.tables [] (k ∷ ks)) r.tables
              ∙ ap (λ (b : Bool). elements_of t r.tables + cond {A = ℕ} b 1 0) e,
        ))

    begun_by : (p : List Part)
        → (is_reached r.tables p ≡ true)
        ⊎ (p ≡ header_path r.tables [] (k ∷ ks) ++ index (elements_of (header_path r.tables [] (k ∷ ks)) r.tables) ∷ [])
        → (is_reached r.tables p ≡ true)
        ⊎ SomeOf (Begins p) (record { path = header_path r.tables [] (k ∷ ks); kind = kinds_element }
        ∷ record {
          path = header_path r.tables [] (k ∷ ks) ++ index (elements_of (header_path r.tables [] (k ∷ ks)) r.tables)
              ∷ [];
          kind = begun;
        } ∷ [])
    begun_by p (inl h) = inl h
    begun_by p (inr e) = inr (inr (inl (refl, sym e)))

sound_content : (c : Content) (ss : List Statement) → AllOf IsSoundStatement ss
    → AllOf IsSoundStatement (cons_option (statement_of c) ss)
sound_content blank ss h = h
sound_content (keyval name v) ss h = (line, h)
  where
    line : (r : Reading)
        → IsSound r r (map (below r.body)
        (entry_mentions 0 (Some name) (body_fact v.body) (entries_mentions 0 v.nested)))
    line r =
        let ms : List Mention =
        map (below r.body) (entry_mentions 0 (Some name) (body_fact v.body) (entries_mentions 0 v.nested)) in
        let inside : AllOf FitsInside ms = fits_line r.body name (body_fact v.body) v.nested in
        record {
          fits = all_of FitsInside Fits (λ m g. g.0) ms inside;
          items = named_line r.body name (body_fact v.body) v.nested;
          elements =
              all_of FitsInside (IsElementNamed ms)
              (λ m g is. absurd (no_longer (is_begun m.kind) is (or_parts (is_begun m.kind) (is_passed m.kind) g.1).0))
              ms inside;
          fresh = all_of FitsInside (IsFresh r)
              (λ m g is. absurd (no_longer (is_begun m.kind) is (or_parts (is_begun m.kind) (is_passed m.kind) g.1).0))
              ms inside;
          there = all_of FitsInside (IsThere r)
              (λ m g is. absurd (no_longer (is_begun m.kind || is_passed m.kind) is g.1)) ms inside;
          begins = λ p h. inl h;
          grows = λ p h. h;
          tables = λ t h. inl h;
          body = λ q e. inl e;
        }
sound_content (header before k after) ss h = (sound_table (key_value k.first) (map further_value k.more), h)
sound_content (element before k after) ss h = (sound_element (key_value k.first) (map further_value k.more), h)

sound_lines : (ls : List Line) → AllOf IsSoundStatement (filter_map line_statement ls)
sound_lines [] = tt
sound_lines (l ∷ ls) = sound_content l.content (filter_map line_statement ls) (sound_lines ls)

pub sound_statements : (d : Document) → AllOf IsSoundStatement (statements_in d)
sound_statements d = sound_lines (lines d)

-- ---- statements

not_before : (a b : Bool) → (a ≡ true → b ≡ true) → b ≡ false → a ≡ false
not_before true b f h = absurd (no_longer b (f refl) h)
not_before false b f h = refl

-- what statements say from one reading on, and the reading after them
pub sound_from : (r : Reading) (ss : List Statement) → AllOf IsSoundStatement ss
    → IsSound r (reading_after r ss) (mentions_from r ss)
sound_from r [] h =
    record {
      fits = tt;
      items = tt;
      elements = tt;
      fresh = tt;
      there = tt;
      begins = λ p g. inl g;
      grows = λ p g. g;
      tables = λ t g. inl g;
      body = λ q e. inl e;
    }
sound_from r (s ∷ ss) h =
    let xs : List Mention = statement_mentions r s in
    let next : Reading = next_reading r s in
    let ys : List Mention = mentions_from next ss in
    let one : IsSound r next xs = h.0 r in
    let rest : IsSound next (reading_after next ss) ys = sound_from next ss h.1 in
    record {
      fits = all_join Fits xs ys one.fits rest.fits;
      items = all_join (IsItemNamed (xs ++ ys)) xs ys
          (all_of (IsItemNamed xs) (IsItemNamed (xs ++ ys))
          (λ m g is. some_left (Says role.Value (base m.path)) xs ys (g is)) xs one.items)
          (all_of (IsItemNamed ys) (IsItemNamed (xs ++ ys))
          (λ m g is. some_right (Says role.Value (base m.path)) xs ys (g is)) ys rest.items);
      elements =
          all_join (IsElementNamed (xs ++ ys)) xs ys
          (all_of (IsElementNamed xs) (IsElementNamed (xs ++ ys))
          (λ m g is. some_left (Says role.Element (base m.path)) xs ys (g is)) xs one.elements)
          (all_of (IsElementNamed ys) (IsElementNamed (xs ++ ys))
          (λ m g is. some_right (Says role.Element (base m.path)) xs ys (g is)) ys rest.elements);
      fresh = all_join (IsFresh r) xs ys one.fresh
          (all_of (IsFresh next) (IsFresh r)
          (λ m g is. not_before (is_reached r.tables m.path) (is_reached next.tables m.path) (one.grows m.path) (g is))
          ys rest.fresh);
      there = all_join (IsThere (reading_after next ss)) xs ys
          (all_of (IsThere next) (IsThere (reading_after next ss)) (λ m g is. rest.grows m.path (g is)) xs one.there)
          rest.there;
      begins = λ p g. joined (is_reached r.tables p ≡ true) (Begins p) xs ys (rest.begins p g) (one.begins p);
      grows = λ p g. rest.grows p (one.grows p g);
      tables = λ t g. joined (0 < elements_of t r.tables) (Says role.Element t) xs ys (rest.tables t g) (one.tables t);
      body = λ q e. joined (r.body ≡ q) (Opens q) xs ys (rest.body q e) (one.body q);
    }

-- of one of its mentions
pub record IsSaid (r next : Reading) (ms : List Mention) (m : Mention) : Type 0 where
  pub fits : Fits m
  pub item : IsItemNamed ms m
  pub element : IsElementNamed ms m
  pub fresh : IsFresh r m
  pub there : IsThere next m

pub said_all : (r next : Reading) (ms : List Mention) → IsSound r next ms → AllOf (IsSaid r next ms) ms
said_all r next ms h = by ms h.fits h.items h.elements h.fresh h.there
  where
    by : (xs : List Mention) → AllOf Fits xs → AllOf (IsItemNamed ms) xs → AllOf (IsElementNamed ms) xs
        → AllOf (IsFresh r) xs → AllOf (IsThere next) xs → AllOf (IsSaid r next ms) xs
    by [] f i e g t = tt
    by (x ∷ xs) f i e g t =
        (record { fits = f.0; item = i.0; element = e.0; fresh = g.0; there = t.0 }, by xs f.1 i.1 e.1 g.1 t.1)
