-- The general form of what an edit does to the mentions: a run put in, taken out or replaced, and paths changed.
--
-- If a function of paths takes different paths to different ones (`IsInjectiveOn`), pairs of mentions that were allowed
-- stay so when all paths are changed by it (`rules_moved`), and a changed path has the mentions that the old one had
-- (`mentions_moved`). Without a run of mentions the rules hold as well (`rules_taken`). The last part is one such
-- change: where an item is taken out of an array, the items after it have numbers one lower (`down`, `entries_after`),
-- by induction over the entries.
--
-- Theorems: `rules_moved`, `rules_taken` and `mentions_moved`: the rules, and what is mentioned at a path.
use Rattle.std.proofs.Common.{◌≡◌, ℕ, ◌+◌, ◌-◌, ◌<◌, ◌≤◌, Bool, true, false, cond, List, [], ◌∷◌, ◌++◌, map, refl, sym}
use Rattle.std.proofs.Common.{ap, subst, ◌∙◌, arith, Option, Some, None, ◌⊎◌, inl, inr}
use Rattle.std.specs.Prelude.{◌==◌, nat_lt}
use Rattle.std.proofs.lemmas.List.{map-append}
use Rattle.std.proofs.lemmas.Bool.{cases_lt, lt-ltb, le-ltb, eq-eqb}
use Rattle.keep_syntax.specs.Tree.{Name, Entries, none, entry}
use Rattle.keep_meaning.specs.Fact.{Fact}
use Rattle.keep_path.specs.Path.{Part, key, index, same_part, same_path}
use Rattle.keep_meaning.specs.Marks.{item, value, dotted, Mention, below}
use Rattle.keep_meaning.specs.Meaning.{body_fact, valued_mentions, keyed_mentions, entry_mentions, entries_mentions}
use Rattle.keep_edit_spec.specs.Look.{strip}
use Rattle.keep_meaning.specs.Nodes.{is_at, kinds_at}
use Rattle.keep_edit_spec.proofs.Common.Runs.{AllOf, pairs_split, pairs_join, across_right, Allowed, Rules}
use Rattle.keep_edit_spec.proofs.Common.Runs.{same_path-sound, same_path-refl}

abbrev pub moved : (List Part → List Part) → Mention → Mention
moved f m = record { path = f m.path; kind = m.kind }

-- f keeps different paths different, of those that pass
abbrev pub IsInjectiveOn : (List Part → Type 0) → (List Part → List Part) → Type 0
IsInjectiveOn P f = (a b : List Part) → P a → P b → f a ≡ f b → a ≡ b

allowed_moved : (P : List Part → Type 0) (f : List Part → List Part) → IsInjectiveOn P f
    → (m : Mention) (ms : List Mention) → P m.path → AllOf (λ x. P x.path) ms
    → AllOf (Allowed m) ms → AllOf (Allowed (moved f m)) (map (moved f) ms)
allowed_moved P f inj m [] hm h g = tt
allowed_moved P f inj m (x ∷ ms) hm h g =
    ((λ e. g.0 (inj m.path x.path hm h.0 e)), allowed_moved P f inj m ms hm h.1 g.1)

-- a change of paths that keeps different ones different keeps the rules
pub rules_moved : (P : List Part → Type 0) (f : List Part → List Part) → IsInjectiveOn P f → (ms : List Mention)
    → AllOf (λ x. P x.path) ms → Rules ms → Rules (map (moved f) ms)
rules_moved P f inj [] h g = tt
rules_moved P f inj (m ∷ ms) h g = (allowed_moved P f inj m ms h.0 h.1 g.0, rules_moved P f inj ms h.1 g.1)

-- without a run the rules hold
pub rules_taken : (before old after : List Mention) → Rules (before ++ (old ++ after)) → Rules (before ++ after)
rules_taken before old after h =
    let outer = pairs_split Allowed before (old ++ after) h in
    let inner = pairs_split Allowed old after outer.right in
    pairs_join Allowed before after
    (record { left = outer.left; right = inner.right; across = across_right Allowed before old after outer.across })

-- ---- the tree where paths are changed

is_at_moved : (P : List Part → Type 0) (f : List Part → List Part) → IsInjectiveOn P f → (q : List Part) (m : Mention)
    → P q → P m.path → (b c : Bool) → is_at q m ≡ b → is_at (f q) (moved f m) ≡ c → c ≡ b
is_at_moved P f inj q m hq hm true true e k = refl
is_at_moved P f inj q m hq hm false false e k = refl
is_at_moved P f inj q m hq hm true false e k =
    let x : m.path ≡ q = same_path-sound m.path q e in
    let y : same_path (f m.path) (f q) ≡ true =
    subst (λ (z : List Part). same_path (f m.path) z ≡ true) (ap f x) (same_path-refl (f m.path)) in
    absurd cc
is_at_moved P f inj q m hq hm false true e k =
    let x : m.path ≡ q = inj m.path q hm hq (same_path-sound (f m.path) (f q) k) in
    let y : same_path m.path q ≡ true =
    subst (λ (z : List Part). same_path m.path z ≡ true) x (same_path-refl m.path) in
    absurd cc

mentions_moved-step : (f : List Part → List Part) (q : List Part) (m : Mention) (ms : List Mention)
    → kinds_at (f q) (map (moved f) ms) ≡ kinds_at q ms → (b : Bool) → is_at q m ≡ b → is_at (f q) (moved f m) ≡ b
    → kinds_at (f q) (map (moved f) (m ∷ ms)) ≡ kinds_at q (m ∷ ms)
mentions_moved-step f q m ms h true e k = rw (e, k) (ap (λ l. m.kind ∷ l) h)
mentions_moved-step f q m ms h false e k = rw (e, k) h

-- at a changed path the same is said as at the old one
pub mentions_moved : (P : List Part → Type 0) (f : List Part → List Part) → IsInjectiveOn P f → (q : List Part) → P q
    → (ms : List Mention) → AllOf (λ m. P m.path) ms → kinds_at (f q) (map (moved f) ms) ≡ kinds_at q ms
mentions_moved P f inj q hq [] h = refl
mentions_moved P f inj q hq (m ∷ ms) h =
    mentions_moved-step f q m ms (mentions_moved P f inj q hq ms h.1) (is_at q m) refl
    (is_at_moved P f inj q m hq h.0 (is_at q m) (is_at (f q) (moved f m)) refl refl)

-- ---- an item taken out of an array

-- items after number n move down by one
abbrev pub down_part : ℕ → Part → Part
down_part n (key text) = key text
down_part n (index m) = index (cond (nat_lt n m) (m - 1) m)

abbrev pub down : ℕ → List Part → List Part
down n [] = []
down n (p ∷ ps) = down_part n p ∷ ps

moved_same : (n : ℕ) (p : Part) (ms : List Mention) → down_part n p ≡ p
    → map (moved (down n)) (map (below (p ∷ [])) ms) ≡ map (below (p ∷ [])) ms
moved_same n p [] e = refl
moved_same n p (m ∷ ms) e =
    ap (λ (q : Part). record { path = q ∷ m.path; kind = m.kind } ∷ map (moved (down n)) (map (below (p ∷ [])) ms)) e
    ∙ ap (λ l. below (p ∷ []) m ∷ l) (moved_same n p ms e)

moved_to : (n : ℕ) (p p' : Part) (ms : List Mention) → down_part n p ≡ p'
    → map (moved (down n)) (map (below (p ∷ [])) ms) ≡ map (below (p' ∷ [])) ms
moved_to n p p' [] e = refl
moved_to n p p' (m ∷ ms) e =
    ap (λ (q : Part). record { path = q ∷ m.path; kind = m.kind } ∷ map (moved (down n)) (map (below (p ∷ [])) ms)) e
    ∙ ap (λ l. below (p' ∷ []) m ∷ l) (moved_to n p p' ms e)

moved_keyed : (n : ℕ) (j : List ℕ) (js : List (List ℕ)) (ms : List Mention)
    → map (moved (down n)) (keyed_mentions (j ∷ js) ms) ≡ keyed_mentions (j ∷ js) ms
moved_keyed n j [] ms = moved_same n (key j) ms refl
moved_keyed n j (l ∷ js) ms =
    moved_same n (key j) (record { path = []; kind = dotted } ∷ keyed_mentions (l ∷ js) ms) refl

test_lt : (m n : ℕ) → m < n → nat_lt m n ≡ true
test_lt m n h = lt-ltb m n h

test_ge : (m n : ℕ) → n ≤ m → nat_lt m n ≡ false
test_ge m n h = le-ltb m n h

-- those before number n stay, and those after it move down
pub named_before : (n k : ℕ) (name : Option Name) (f : Fact) (nested : List Mention) → k ≤ n
    → map (moved (down n)) (entry_mentions k name f nested) ≡ entry_mentions k name f nested
named_before n k None f nested h =
    moved_same n (index k) (valued_mentions (item f) nested) (ap (λ b. index (cond b (k - 1) k)) (test_ge n k h))
named_before n k (Some name) f nested h = moved_keyed n _ _ (valued_mentions (value f) nested)

pub entries_after : (n k : ℕ) (es : Entries) → n ≤ k
    → map (moved (down n)) (entries_mentions (k + 1) es) ≡ entries_mentions k es
entries_after n k none h = refl
entries_after n k (entry name body nested after comma rest) h =
    map-append (moved (down n)) (entry_mentions (k + 1) name (body_fact body) (entries_mentions 0 nested))
    (entries_mentions (k + 1 + 1) rest)
    ∙ ap (λ l. l ++ map (moved (down n)) (entries_mentions (k + 1 + 1) rest)) (one name)
    ∙ ap (λ l. entry_mentions k name (body_fact body) (entries_mentions 0 nested) ++ l)
    (entries_after n (k + 1) rest (omega arith))
  where
    one : (name : Option Name)
        → map (moved (down n)) (entry_mentions (k + 1) name (body_fact body) (entries_mentions 0 nested))
        ≡ entry_mentions k name (body_fact body) (entries_mentions 0 nested)
    one None =
        moved_to n (index (k + 1)) (index k) (valued_mentions (item (body_fact body)) (entries_mentions 0 nested))
        (ap (λ b. index (cond b (k + 1 - 1) (k + 1))) (test_lt n (k + 1) (omega arith))
        ∙ ap index (let e : k + 1 - 1 ≡ k = omega arith in e))
    one (Some name') = moved_keyed n _ _ (valued_mentions (value (body_fact body)) (entries_mentions 0 nested))

not_it : (n : ℕ) (p : Part) (ps : List Part) (b : Bool) → same_part (index n) p ≡ b
    → strip (index n ∷ []) (p ∷ ps) ≡ None → same_part (index n) p ≡ false
not_it n p ps true e h =
    let k : strip (index n ∷ []) (p ∷ ps) ≡ Some ps = rw (strip, e) refl in
    let z : None ≡ Some ps = sym h ∙ k in
    absurd cc
not_it n p ps false e h = e

number_down : (n i : ℕ) → (n == i) ≡ false
    → (n < i) × (cond (nat_lt n i) (i - 1) i ≡ i - 1) ⊎ (i < n) × (cond (nat_lt n i) (i - 1) i ≡ i)
number_down n i h = elim (cases_lt n i) [
  | inl l ↦ inl (l, ap (λ b. cond b (i - 1) i) (test_lt n i l))
  | inr g ↦
      inr (
        (elim (cases_lt i n) [
          | inl l ↦ l
          | inr g' ↦
              absurd (let same : n ≡ i = omega arith in let yes : (n == i) ≡ true = eq-eqb n i same in cc)
        ]),
        ap (λ b. cond b (i - 1) i) (test_ge n i g),
      )
]

parts : (n : ℕ) (a b : Part) → same_part (index n) a ≡ false → same_part (index n) b ≡ false
    → down_part n a ≡ down_part n b → a ≡ b
parts n (key a) (key b) ha hb e = e
parts n (key a) (index j) ha hb e = absurd cc
parts n (index i) (key b) ha hb e = absurd cc
parts n (index i) (index j) ha hb e =
    let numbers : cond (nat_lt n i) (i - 1) i ≡ cond (nat_lt n j) (j - 1) j = cc in
    ap index (elim (number_down n i ha) [
      | inl x ↦
          elim (number_down n j hb) [
            | inl y ↦ omega (arith, x.0, x.1, y.0, y.1, numbers)
            | inr y ↦
                omega (arith, x.0, x.1, y.0, y.1, numbers)
          ]
      | inr x ↦
          elim (number_down n j hb) [
            | inl y ↦ omega (arith, x.0, x.1, y.0, y.1, numbers)
            | inr y ↦
                omega (arith, x.0, x.1, y.0, y.1, numbers)
          ]
    ])

-- down keeps different paths different, but for those in the item that goes
pub down-injective : (n : ℕ) → IsInjectiveOn (λ q. strip (index n ∷ []) q ≡ None) (down n)
down-injective n [] [] ha hb e = refl
down-injective n [] (b ∷ bs) ha hb e = absurd cc
down-injective n (a ∷ as') [] ha hb e = absurd cc
down-injective n (a ∷ as') (b ∷ bs) ha hb e =
    let rest : as' ≡ bs = cc in
    let firsts : down_part n a ≡ down_part n b = cc in
    let one : a ≡ b =
    parts n a b (not_it n a as' (same_part (index n) a) refl ha) (not_it n b bs (same_part (index n) b) refl hb)
    firsts in
    let done : a ∷ as' ≡ b ∷ bs = cc in
    done
