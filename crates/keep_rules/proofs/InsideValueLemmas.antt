-- What is said inside a value, by paths that begin at the value.
--
-- Nothing is said of the value itself, no `[[..]]` names anything there, and what is said of a key there lets none name
-- it (`inside_known`). If anything is said of a path, then something is said of each shorter one (`inside_closed`): an
-- item is said of its number, and a keyval of each of its keys. Each is an induction over the entries.
--
-- Theorems: `inside_known` and `inside_closed`.
use Rattle.std.proofs.Common.{◌≡◌, ℕ, ◌+◌, Bool, true, false, ◌&&◌, ◌||◌, List, [], ◌∷◌, ◌++◌, map, refl, sym, ap, ap₂}
use Rattle.std.proofs.Common.{◌∙◌, ◌⊎◌, inl, inr, Option, Some, None}
use Rattle.std.specs.List.{AllByRecursion, cons_option, list_any}
use Rattle.std.proofs.lemmas.Bool.{and_parts, or_cases, or_left, or_right}
use Rattle.std.proofs.lemmas.List.Folds.{list_any-append}
use Rattle.keep_syntax.specs.Tree.{Entries, Name, entry, none}
use Rattle.keep_path.specs.Path.{Part, index, key, last_part, same_part}
use Rattle.keep_meaning.specs.Fact.{Fact}
use Rattle.keep_meaning.specs.Marks.{Mention, MentionKind, below, dotted, item, role_of, value}
use Rattle.keep_meaning.specs.Meaning.{body_fact, entries_mentions, entry_mentions, further_value, key_value}
use Rattle.keep_meaning.specs.Meaning.{keyed_mentions}
use Rattle.keep_meaning.specs.Nodes.{is_at, is_element}
use Rattle.keep_rules.proofs.LineNestedLaws.{may_follow}

-- ---- what holds of each

all_join : {A : Type 0} (P : A → Type 0) (xs ys : List A) → AllByRecursion P xs → AllByRecursion P ys
    → AllByRecursion P (xs ++ ys)
all_join P [] ys h g = g
all_join P (x ∷ xs) ys h g = (h.0, all_join P xs ys h.1 g)

pub all_mapped : {A B : Type 0} (P : A → Type 0) (Q : B → Type 0) (f : A → B) → ((x : A) → P x → Q (f x))
    → (xs : List A) → AllByRecursion P xs → AllByRecursion Q (map f xs)
all_mapped P Q f g [] h = tt
all_mapped P Q f g (x ∷ xs) h = (g x h.0, all_mapped P Q f g xs h.1)

-- ---- one mention

-- the last step of a path with more steps before it
pub last_below : (at p : List Part) → (p ≡ [] → ⊥) → last_part (at ++ p) ≡ last_part p
last_below [] p some = refl
last_below (a ∷ []) [] some = absurd (some refl)
last_below (a ∷ []) (q ∷ p) some = refl
last_below (a ∷ b ∷ at) p some = last_below (b ∷ at) p some

-- a `[[..]]` may not name its path, if that is a key's
abbrev pub IsBare : Mention → Type 0
IsBare m = (k : List ℕ) → last_part m.path ≡ Some (key k) → may_follow (cons_option (role_of m.kind) []) ≡ false

-- it is said inside a value
pub record IsInside (m : Mention) : Type 0 where
  pub some : m.path ≡ [] → ⊥
  pub plain : is_element m.kind ≡ false
  pub bare : IsBare m

inside_below : (k : Part) (m : Mention) → IsInside m → IsInside (below (k ∷ []) m)
inside_below k m h = record {
  some = λ e. cc;
  plain = h.plain;
  bare = λ l e. h.bare l (sym (last_below (k ∷ []) m.path h.some) ∙ e);
}

inside_under : (k : Part) (ms : List Mention) → AllByRecursion IsInside ms
    → AllByRecursion IsInside (map (below (k ∷ [])) ms)
inside_under k ms h = all_mapped IsInside IsInside (below (k ∷ [])) (inside_below k) ms h

pub inside_keys : (k : List ℕ) (ks : List (List ℕ)) (f : Fact) (nested : List Mention) → AllByRecursion IsInside nested
    → AllByRecursion IsInside (keyed_mentions (k ∷ ks) (record { path = []; kind = value f } ∷ nested))
inside_keys k [] f nested h =
    (record { some = λ e. cc; plain = refl; bare = λ l e. refl }, inside_under (key k) nested h)
inside_keys k (l ∷ ks) f nested h =
    let more : List Mention = keyed_mentions (l ∷ ks) (record { path = []; kind = value f } ∷ nested) in (
      record { some = λ e. cc; plain = refl; bare = λ m e. refl },
      inside_under (key k) more (inside_keys l ks f nested h),
    )

inside_entry : (n : ℕ) (name : Option Name) (f : Fact) (nested : List Mention) → AllByRecursion IsInside nested
    → AllByRecursion IsInside (entry_mentions n name f nested)
inside_entry n None f nested h =
    (record { some = λ e. cc; plain = refl; bare = λ l e. absurd cc }, inside_under (index n) nested h)
inside_entry n (Some name) f nested h =
    inside_keys (key_value name.key.first) (map further_value name.key.more) f nested h

pub inside_known : (n : ℕ) (es : Entries) → AllByRecursion IsInside (entries_mentions n es)
inside_known n none = tt
inside_known n (entry name body nested after comma rest) =
    all_join IsInside (entry_mentions n name (body_fact body) (entries_mentions 0 nested))
    (entries_mentions (n + 1) rest)
    (inside_entry n name (body_fact body) (entries_mentions 0 nested) (inside_known 0 nested))
    (inside_known (n + 1) rest)

-- ---- no path without those above it

-- where something is said of a longer path, something is said of the shorter one
abbrev pub AreClosed : List Mention → Type 0
AreClosed ms =
    (p : Part) (ps more : List Part) → list_any (is_at (p ∷ (ps ++ more))) ms ≡ true
    → list_any (is_at (p ∷ ps)) ms ≡ true

any_below : (k p : Part) (ps : List Part) (ms : List Mention)
    → list_any (is_at (p ∷ ps)) (map (below (k ∷ [])) ms) ≡ (same_part k p && list_any (is_at ps) ms)
any_below k p ps [] = by (same_part k p)
  where
    by : (b : Bool) → false ≡ (b && false)
    by true = refl
    by false = refl
any_below k p ps (m ∷ ms) =
    ap (λ (b : Bool). (same_part k p && is_at ps m) || b) (any_below k p ps ms) ∙ by (same_part k p)
  where
    by : (b : Bool)
        → ((b && is_at ps m) || (b && list_any (is_at ps) ms)) ≡ (b && (is_at ps m || list_any (is_at ps) ms))
    by true = refl
    by false = refl

-- a key or a number with all that is below it
closed_step : (k : Part) (what : MentionKind) (ms : List Mention) → AreClosed ms
    → AreClosed (map (below (k ∷ [])) (record { path = []; kind = what } ∷ ms))
closed_step k what ms h p [] more said =
    let all : List Mention = record { path = []; kind = what } ∷ ms in
    let both = and_parts (same_part k p) (list_any (is_at more) all) (sym (any_below k p more all) ∙ said) in
    any_below k p [] all ∙ ap (λ (b : Bool). b && true) both.0
closed_step k what ms h p (q ∷ ps) more said =
    let all : List Mention = record { path = []; kind = what } ∷ ms in
    let both = and_parts (same_part k p) (list_any (is_at (q ∷ (ps ++ more))) all)
    (sym (any_below k p (q ∷ (ps ++ more)) all) ∙ said) in
    any_below k p (q ∷ ps) all ∙ ap₂ (λ (a b : Bool). a && b) both.0 (h q ps more both.1)

closed_join : (xs ys : List Mention) → AreClosed xs → AreClosed ys → AreClosed (xs ++ ys)
closed_join xs ys h g p ps more said =
    let long : List Part = p ∷ (ps ++ more) in
    list_any-append (is_at (p ∷ ps)) xs ys
    ∙ by (or_cases (list_any (is_at long) xs) (list_any (is_at long) ys)
    (sym (list_any-append (is_at long) xs ys) ∙ said))
  where
    by : (list_any (is_at (p ∷ (ps ++ more))) xs ≡ true) ⊎ (list_any (is_at (p ∷ (ps ++ more))) ys ≡ true)
        → (list_any (is_at (p ∷ ps)) xs || list_any (is_at (p ∷ ps)) ys) ≡ true
    by (inl left) = or_left (list_any (is_at (p ∷ ps)) xs) (list_any (is_at (p ∷ ps)) ys) (h p ps more left)
    by (inr right) = or_right (list_any (is_at (p ∷ ps)) xs) (list_any (is_at (p ∷ ps)) ys) (g p ps more right)

pub closed_keys : (k : List ℕ) (ks : List (List ℕ)) (f : Fact) (nested : List Mention) → AreClosed nested
    → AreClosed (keyed_mentions (k ∷ ks) (record { path = []; kind = value f } ∷ nested))
closed_keys k [] f nested h = closed_step (key k) (value f) nested h
closed_keys k (l ∷ ks) f nested h =
    closed_step (key k) dotted (keyed_mentions (l ∷ ks) (record { path = []; kind = value f } ∷ nested))
    (closed_keys l ks f nested h)

closed_entry : (n : ℕ) (name : Option Name) (f : Fact) (nested : List Mention) → AreClosed nested
    → AreClosed (entry_mentions n name f nested)
closed_entry n None f nested h = closed_step (index n) (item f) nested h
closed_entry n (Some name) f nested h =
    closed_keys (key_value name.key.first) (map further_value name.key.more) f nested h

pub inside_closed : (n : ℕ) (es : Entries) → AreClosed (entries_mentions n es)
inside_closed n none = λ p ps more said. absurd cc
inside_closed n (entry name body nested after comma rest) =
    closed_join (entry_mentions n name (body_fact body) (entries_mentions 0 nested)) (entries_mentions (n + 1) rest)
    (closed_entry n name (body_fact body) (entries_mentions 0 nested) (inside_closed 0 nested))
    (inside_closed (n + 1) rest)
