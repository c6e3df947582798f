-- What is said inside a line's value: each item is named by a key part of the line, and each path fits what is said of
-- it.
--
-- The path of an item is that of a keyval and numbers after it, so without its last numbers (`base`) it is the keyval's
-- path, which a key part states. Inside a value this is an induction over the entries: an item is in one of them, or
-- below no key (`IsInside`); the key above the value then names it (`named_value`). A path fits if its last step is a
-- key where a key part says something of it, and else a number (`Fits`).
--
-- Theorems: `fits_line` and `named_line`.
use Rattle.std.proofs.Common.{◌≡◌, ℕ, ◌+◌, Bool, true, false, ◌||◌, List, [], ◌∷◌, ◌++◌, map, refl, sym, ap, subst, ◌∙◌}
use Rattle.std.proofs.Common.{◌⊎◌, inl, inr, Option, Some, None}
use Rattle.keep_types.specs.declared.role.Role.{Role}
use Rattle.keep_types.specs.declared.role.Role.TheVariants as role
use Rattle.keep_syntax.specs.Tree.{Name, Entries, none, entry}
use Rattle.keep_path.specs.Path.{Part, key, index}
use Rattle.keep_meaning.specs.Fact.{Fact}
use Rattle.keep_meaning.specs.Marks.{MentionKind, dotted, item, value as mentions_value, Mention, below, role_of}
use Rattle.keep_meaning.specs.Meaning.{key_value, further_value, body_fact, keyed_mentions, entry_mentions}
use Rattle.keep_meaning.specs.Meaning.{entries_mentions}
use Rattle.keep_meaning.specs.Counts.{is_mark}
use Rattle.keep_meaning.specs.Nodes.{is_begun, is_passed}
use Rattle.keep_meaning.proofs.LineNumberLemmas.{AllOf, all_join, all_of}

-- ---- what holds of one of a list

abbrev pub SomeOf : {A : Type 0} → (A → Type 0) → List A → Type 0
SomeOf P [] = ⊥
SomeOf P (x ∷ xs) = P x ⊎ SomeOf P xs

pub some_left : {A : Type 0} (P : A → Type 0) (xs ys : List A) → SomeOf P xs → SomeOf P (xs ++ ys)
some_left P [] ys h = absurd h
some_left P (x ∷ xs) ys (inl p) = inl p
some_left P (x ∷ xs) ys (inr h) = inr (some_left P xs ys h)

pub some_right : {A : Type 0} (P : A → Type 0) (xs ys : List A) → SomeOf P ys → SomeOf P (xs ++ ys)
some_right P [] ys h = h
some_right P (x ∷ xs) ys h = inr (some_right P xs ys h)

pub some_map : {A B : Type 0} (P : A → Type 0) (Q : B → Type 0) (f : A → B) → ((x : A) → P x → Q (f x)) → (xs : List A)
    → SomeOf P xs → SomeOf Q (map f xs)
some_map P Q f g [] h = h
some_map P Q f g (x ∷ xs) (inl p) = inl (g x p)
some_map P Q f g (x ∷ xs) (inr h) = inr (some_map P Q f g xs h)

pub all_map : {A B : Type 0} (P : A → Type 0) (Q : B → Type 0) (f : A → B) → ((x : A) → P x → Q (f x)) → (xs : List A)
    → AllOf P xs → AllOf Q (map f xs)
all_map P Q f g [] h = tt
all_map P Q f g (x ∷ xs) h = (g x h.0, all_map P Q f g xs h.1)

-- ---- the last step of a path

-- whether it is a key
abbrev pub ends : List Part → Option Bool
ends [] = None
ends (key k ∷ []) = Some true
ends (index n ∷ []) = Some false
ends (p ∷ q ∷ ps) = ends (q ∷ ps)

pub ends_below : (at p : List Part) (b : Bool) → ends p ≡ Some b → ends (at ++ p) ≡ Some b
ends_below [] p b h = h
ends_below (a ∷ []) [] b h = absurd cc
ends_below (key k ∷ []) (q ∷ p) b h = h
ends_below (index n ∷ []) (q ∷ p) b h = h
ends_below (key k ∷ c ∷ at) p b h = ends_below (c ∷ at) p b h
ends_below (index n ∷ c ∷ at) p b h = ends_below (c ∷ at) p b h

-- it is a key where a key part says something of the path, and else a number
abbrev pub Fits : Mention → Type 0
Fits m = ends m.path ≡ Some (is_mark m.kind)

fits_below : (at : List Part) (m : Mention) → Fits m → Fits (below at m)
fits_below at m h = ends_below at m.path (is_mark m.kind) h

-- a keyval says nothing of elements
abbrev pub IsPlain : Mention → Type 0
IsPlain m = (is_begun m.kind || is_passed m.kind) ≡ false

abbrev pub FitsInside : Mention → Type 0
FitsInside m = Fits m × IsPlain m

fits_under : (at : List Part) (ms : List Mention) → AllOf FitsInside ms → AllOf FitsInside (map (below at) ms)
fits_under at ms h = all_map FitsInside FitsInside (below at) (λ m g. (fits_below at m g.0, g.1)) ms h

fits_keys : (k : List ℕ) (ks : List (List ℕ)) (f : Fact) (nested : List Mention) → AllOf FitsInside nested
    → AllOf FitsInside (keyed_mentions (k ∷ ks) (record { path = []; kind = mentions_value f } ∷ nested))
fits_keys k [] f nested h = ((refl, refl), fits_under (key k ∷ []) nested h)
fits_keys k (l ∷ ks) f nested h = ((refl, refl), fits_under (key k ∷ []) _ (fits_keys l ks f nested h))

fits_entry : (n : ℕ) (name : Option Name) (f : Fact) (nested : List Mention) → AllOf FitsInside nested
    → AllOf FitsInside (entry_mentions n name f nested)
fits_entry n None f nested h = ((refl, refl), fits_under (index n ∷ []) nested h)
fits_entry n (Some name) f nested h = fits_keys (key_value name.key.first) (map further_value name.key.more) f nested h

fits_inside : (n : ℕ) (es : Entries) → AllOf FitsInside (entries_mentions n es)
fits_inside n none = tt
fits_inside n (entry name body nested after comma rest) =
    all_join FitsInside (entry_mentions n name (body_fact body) (entries_mentions 0 nested))
    (entries_mentions (n + 1) rest)
    (fits_entry n name (body_fact body) (entries_mentions 0 nested) (fits_inside 0 nested)) (fits_inside (n + 1) rest)

pub fits_line : (at : List Part) (name : Name) (f : Fact) (es : Entries)
    → AllOf FitsInside (map (below at) (entry_mentions 0 (Some name) f (entries_mentions 0 es)))
fits_line at name f es = fits_under at _ (fits_entry 0 (Some name) f (entries_mentions 0 es) (fits_inside 0 es))

pub key_ends : (at : List Part) (k : List ℕ) → ends (at ++ key k ∷ []) ≡ Some true
key_ends at k = ends_below at (key k ∷ []) true refl

-- ---- a path without its last numbers

abbrev based : Part → List Part → List Part
based p (q ∷ qs) = p ∷ q ∷ qs
based (key k) [] = key k ∷ []
based (index n) [] = []

abbrev pub base : List Part → List Part
base [] = []
base (p ∷ ps) = based p (base ps)

base_key : (k : List ℕ) (p : List Part) → base (key k ∷ p) ≡ key k ∷ base p
base_key k p = by (base p)
  where
    by : (b : List Part) → based (key k) b ≡ key k ∷ b
    by [] = refl
    by (q ∷ qs) = refl

base_some : (at p : List Part) (q : Part) (qs : List Part) → base p ≡ q ∷ qs → base (at ++ p) ≡ at ++ q ∷ qs
base_some [] p q qs h = h
base_some (a ∷ at) p q qs h = ap (based a) (base_some at p q qs h) ∙ by at
  where
    by : (at : List Part) → based a (at ++ q ∷ qs) ≡ a ∷ at ++ q ∷ qs
    by [] = refl
    by (b ∷ at) = refl

pub base_none : (at p : List Part) → base p ≡ [] → base (at ++ p) ≡ base at
base_none [] p h = h
base_none (a ∷ at) p h = ap (based a) (base_none at p h)

pub base_whole : (p : List Part) → ends p ≡ Some true → base p ≡ p
base_whole [] h = absurd cc
base_whole (key k ∷ []) h = refl
base_whole (index n ∷ []) h = absurd cc
base_whole (key k ∷ q ∷ p) h = ap (based (key k)) (base_whole (q ∷ p) h)
base_whole (index n ∷ q ∷ p) h = ap (based (index n)) (base_whole (q ∷ p) h)

-- ---- what names an item

-- a key part of this role says it of this path
abbrev pub Says : Role → List Part → Mention → Type 0
Says r q m = (role_of m.kind ≡ Some r) × (m.path ≡ q)

abbrev pub is_item : MentionKind → Bool
is_item (item f) = true
is_item _ = false

-- a keyval states the value that the item is in
abbrev pub IsItemNamed : List Mention → Mention → Type 0
IsItemNamed ms m = is_item m.kind ≡ true → SomeOf (Says role.Value (base m.path)) ms

-- a `[[..]]` names the array that the element is in
abbrev pub IsElementNamed : List Mention → Mention → Type 0
IsElementNamed ms m = is_begun m.kind ≡ true → SomeOf (Says role.Element (base m.path)) ms

-- an item is in one of these values, or below no key of theirs
abbrev IsInside : List Mention → Mention → Type 0
IsInside ms m = is_item m.kind ≡ true → (base m.path ≡ []) ⊎ SomeOf (Says role.Value (base m.path)) ms

inside_more : (ms more : List Mention)
    → ((q : List Part) → SomeOf (Says role.Value q) ms → SomeOf (Says role.Value q) more) → (m : Mention)
    → IsInside ms m → IsInside more m
inside_more ms more f m h is = by (h is)
  where
    by : (base m.path ≡ []) ⊎ SomeOf (Says role.Value (base m.path)) ms
        → (base m.path ≡ []) ⊎ SomeOf (Says role.Value (base m.path)) more
    by (inl e) = inl e
    by (inr s) = inr (f (base m.path) s)

inside_join : (xs ys : List Mention) → AllOf (IsInside xs) xs → AllOf (IsInside ys) ys
    → AllOf (IsInside (xs ++ ys)) (xs ++ ys)
inside_join xs ys h g =
    all_join (IsInside (xs ++ ys)) xs ys
    (all_of (IsInside xs) (IsInside (xs ++ ys)) (inside_more xs (xs ++ ys) (λ q. some_left (Says role.Value q) xs ys))
    xs h)
    (all_of (IsInside ys) (IsInside (xs ++ ys)) (inside_more ys (xs ++ ys) (λ q. some_right (Says role.Value q) xs ys))
    ys g)

-- with more steps before
said_below : (at q : List Part) (ms : List Mention) → SomeOf (Says role.Value q) ms
    → SomeOf (Says role.Value (at ++ q)) (map (below at) ms)
said_below at q ms h =
    some_map (Says role.Value q) (Says role.Value (at ++ q)) (below at)
    (λ x s. (s.0, ap (λ (l : List Part). at ++ l) s.1)) ms h

-- below an item of an array
inside_item : (n : ℕ) (nested : List Mention) (m : Mention) → IsInside nested m
    → IsInside (map (below (index n ∷ [])) nested) (below (index n ∷ []) m)
inside_item n nested m h is = by (base m.path) (h is)
  where
    by : (b : List Part) → (b ≡ []) ⊎ SomeOf (Says role.Value b) nested
        → (based (index n) b ≡ []) ⊎ SomeOf (Says role.Value (based (index n) b)) (map (below (index n ∷ [])) nested)
    by [] h = inl refl
    by (q ∷ qs) (inl e) = absurd cc
    by (q ∷ qs) (inr some) = inr (said_below (index n ∷ []) (q ∷ qs) nested some)

abbrev pub AreNamed : List Mention → Type 0
AreNamed ms = AllOf (IsItemNamed ms) ms

-- below a key
named_key : (k : List ℕ) (ms : List Mention) (m : Mention) → IsItemNamed ms m
    → IsItemNamed (map (below (key k ∷ [])) ms) (below (key k ∷ []) m)
named_key k ms m h is =
    subst (λ (b : List Part). SomeOf (Says role.Value b) (map (below (key k ∷ [])) ms)) (sym (base_key k m.path))
    (said_below (key k ∷ []) (base m.path) ms (h is))

named_under : (k : List ℕ) (ms : List Mention) → AreNamed ms → AreNamed (map (below (key k ∷ [])) ms)
named_under k ms h =
    all_map (IsItemNamed ms) (IsItemNamed (map (below (key k ∷ [])) ms)) (below (key k ∷ [])) (named_key k ms) ms h

-- the value, and what is in it
named_value : (f : Fact) (nested : List Mention) → AllOf (IsInside nested) nested
    → AreNamed (record { path = []; kind = mentions_value f } ∷ nested)
named_value f nested h = (
  (λ is. cc),
  all_of (IsInside nested) (IsItemNamed (record { path = []; kind = mentions_value f } ∷ nested)) step nested h,
)
  where
    by : (b : List Part) → (b ≡ []) ⊎ SomeOf (Says role.Value b) nested
        → SomeOf (Says role.Value b) (record { path = []; kind = mentions_value f } ∷ nested)
    by b (inl e) = inl (refl, sym e)
    by b (inr s) = inr s

    step : (m : Mention) → IsInside nested m → IsItemNamed (record { path = []; kind = mentions_value f } ∷ nested) m
    step m h is = by (base m.path) (h is)

named_dotted : (ms : List Mention) → AreNamed ms → AreNamed (record { path = []; kind = dotted } ∷ ms)
named_dotted ms h = (
  (λ is. cc),
  all_of (IsItemNamed ms) (IsItemNamed (record { path = []; kind = dotted } ∷ ms)) (λ m g is. inr (g is)) ms h,
)

named_keys : (k : List ℕ) (ks : List (List ℕ)) (ms : List Mention) → AreNamed ms → AreNamed (keyed_mentions (k ∷ ks) ms)
named_keys k [] ms h = named_under k ms h
named_keys k (l ∷ ks) ms h =
    named_under k (record { path = []; kind = dotted } ∷ keyed_mentions (l ∷ ks) ms)
    (named_dotted (keyed_mentions (l ∷ ks) ms) (named_keys l ks ms h))

inside_entry : (n : ℕ) (name : Option Name) (f : Fact) (nested : List Mention) → AllOf (IsInside nested) nested
    → AllOf (IsInside (entry_mentions n name f nested)) (entry_mentions n name f nested)
inside_entry n None f nested h = (
  λ is. inl refl,
  all_map (IsInside nested) (IsInside (entry_mentions n None f nested)) (below (index n ∷ []))
      (λ m g. inside_more (map (below (index n ∷ [])) nested) (entry_mentions n None f nested) (λ q s. inr s)
      (below (index n ∷ []) m) (inside_item n nested m g)) nested h,
)
inside_entry n (Some name) f nested h =
    let all : List Mention = entry_mentions n (Some name) f nested in
    all_of (IsItemNamed all) (IsInside all) (λ m g is. inr (g is)) all
    (named_keys (key_value name.key.first) (map further_value name.key.more)
    (record { path = []; kind = mentions_value f } ∷ nested) (named_value f nested h))

inside_entries : (n : ℕ) (es : Entries) → AllOf (IsInside (entries_mentions n es)) (entries_mentions n es)
inside_entries n none = tt
inside_entries n (entry name body nested after comma rest) =
    inside_join (entry_mentions n name (body_fact body) (entries_mentions 0 nested)) (entries_mentions (n + 1) rest)
    (inside_entry n name (body_fact body) (entries_mentions 0 nested) (inside_entries 0 nested))
    (inside_entries (n + 1) rest)

-- the same of a path that begins with a key
abbrev IsKeyedNamed : List ℕ → List Mention → Mention → Type 0
IsKeyedNamed k ms m = IsItemNamed ms m × ((q : List Part) × (base m.path ≡ key k ∷ q))

-- below the body of a line's keyval
named_at : (at : List Part) (k : List ℕ) (ms : List Mention) (m : Mention) → IsKeyedNamed k ms m
    → IsItemNamed (map (below at) ms) (below at m)
named_at at k ms m g is =
    subst (λ (b : List Part). SomeOf (Says role.Value b) (map (below at) ms))
    (sym (base_some at m.path (key k) g.1.0 g.1.1))
    (said_below at (key k ∷ g.1.0) ms (subst (λ (b : List Part). SomeOf (Says role.Value b) ms) g.1.1 (g.0 is)))

named_body : (at : List Part) (k : List ℕ) (ms : List Mention) → AreNamed ms
    → AreNamed (map (below at) (map (below (key k ∷ [])) ms))
named_body at k ms h =
    let keyed : List Mention = map (below (key k ∷ [])) ms in
    all_map (IsKeyedNamed k keyed) (IsItemNamed (map (below at) keyed)) (below at) (named_at at k keyed) keyed
    (all_map (IsItemNamed ms) (IsKeyedNamed k keyed) (below (key k ∷ []))
    (λ m g. (named_key k ms m g, (base m.path, base_key k m.path))) ms h)

pub named_line : (at : List Part) (name : Name) (f : Fact) (es : Entries)
    → AreNamed (map (below at) (entry_mentions 0 (Some name) f (entries_mentions 0 es)))
named_line at name f es =
    by (key_value name.key.first) (map further_value name.key.more)
    (record { path = []; kind = mentions_value f } ∷ entries_mentions 0 es)
    (named_value f (entries_mentions 0 es) (inside_entries 0 es))
  where
    by : (k : List ℕ) (ks : List (List ℕ)) (ms : List Mention) → AreNamed ms
        → AreNamed (map (below at) (keyed_mentions (k ∷ ks) ms))
    by k [] ms h = named_body at k ms h
    by k (l ∷ ks) ms h =
        named_body at k (record { path = []; kind = dotted } ∷ keyed_mentions (l ∷ ks) ms)
        (named_dotted (keyed_mentions (l ∷ ks) ms) (named_keys l ks ms h))
