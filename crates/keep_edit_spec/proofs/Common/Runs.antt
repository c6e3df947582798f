-- A run of mentions in a list of mentions: the rules and the tree where it is replaced, put in or taken out.
--
-- The rules are a condition on all pairs of mentions (`Pairs`), and a list that is put together of runs satisfies it if
-- each run does and each pair of runs does (`pairs_split`, `pairs_join`). Mentions under a path and mentions disjoint
-- from it are never at one path, so such pairs are always allowed (`across_disjoint`, `across_under`). That gives the
-- rules after a run was replaced. The facts at a path are those of the mentions at it: of the run alone for paths under
-- the run's path, of the others alone elsewhere (`kinds_at-disjoint`, `kinds_at-under`). All of it is by induction over
-- lists and paths.
--
-- Theorems: `rules_replaced` for the rules; `fact_under` and `fact_elsewhere` for the tree.
use Rattle.std.proofs.Common.{◌≡◌, Bool, true, false, not, cond, List, [], ◌∷◌, ◌++◌, map, refl, sym, ap, ◌∙◌}
use Rattle.std.proofs.Common.{append_assoc, Option, Some, None, ◌⊎◌, inl, inr}
use Rattle.std.specs.Prelude.{⊤, filter}
use Rattle.std.specs.List.{filter_map}
use Rattle.std.proofs.lemmas.List.{map-append, append-nil}
use Rattle.std.proofs.lemmas.Slice.Eq.{bytes_eq-Decides}
use Rattle.std.proofs.lemmas.Bool.{and_parts, eqb-true, eq-eqb}
use Rattle.std.proofs.lemmas.List.Elements.{filter-append}
use Rattle.keep_path.specs.Path.{Part, key, index, same_part, same_path}
use Rattle.keep_meaning.specs.Marks.{MentionKind, through, past, define, element, dotted, value, begun, passed, item}
use Rattle.keep_meaning.specs.Marks.{Mention, below, fact_of}
use Rattle.keep_edit_spec.specs.Look.{strip}
use Rattle.keep_meaning.specs.Nodes.{is_at, kinds_at, fact_at, first_of}

-- ---- all pairs of a list

abbrev pub AllOf : {A : Type 0} → (A → Type 0) → List A → Type 0
AllOf P [] = ⊤
AllOf P (x ∷ xs) = P x × AllOf P xs

abbrev pub SomeOf : {A : Type 0} → (A → Type 0) → List A → Type 0
SomeOf P [] = ⊥
SomeOf P (x ∷ xs) = P x ⊎ SomeOf P xs

abbrev pub Pairs : {A : Type 0} → (A → A → Type 0) → List A → Type 0
Pairs R [] = ⊤
Pairs R (x ∷ xs) = AllOf (R x) xs × Pairs R xs

-- each of the first list with each of the second
abbrev pub Across : {A : Type 0} → (A → A → Type 0) → List A → List A → Type 0
Across R xs ys = AllOf (λ x. AllOf (R x) ys) xs

pub all_left : {A : Type 0} (P : A → Type 0) (xs ys : List A) → AllOf P (xs ++ ys) → AllOf P xs
all_left P [] ys h = tt
all_left P (x ∷ xs) ys h = (h.0, all_left P xs ys h.1)

pub all_right : {A : Type 0} (P : A → Type 0) (xs ys : List A) → AllOf P (xs ++ ys) → AllOf P ys
all_right P [] ys h = h
all_right P (x ∷ xs) ys h = all_right P xs ys h.1

pub all_join : {A : Type 0} (P : A → Type 0) (xs ys : List A) → AllOf P xs → AllOf P ys → AllOf P (xs ++ ys)
all_join P [] ys h g = g
all_join P (x ∷ xs) ys h g = (h.0, all_join P xs ys h.1 g)

pub all_map : {A : Type 0} (P Q : A → Type 0) → ((x : A) → P x → Q x) → (xs : List A) → AllOf P xs → AllOf Q xs
all_map P Q f [] h = tt
all_map P Q f (x ∷ xs) h = (f x h.0, all_map P Q f xs h.1)

-- what holds of some and what holds of all meet
pub meet : {A : Type 0} (P Q : A → Type 0) (xs : List A) → SomeOf P xs → AllOf Q xs → (x : A) × P x × Q x
meet P Q [] s h = absurd s
meet P Q (x ∷ xs) (inl p) h = (x, p, h.0)
meet P Q (x ∷ xs) (inr s) h = meet P Q xs s h.1

pub some_left : {A : Type 0} (P : A → Type 0) (xs ys : List A) → SomeOf P xs → SomeOf P (xs ++ ys)
some_left P [] ys s = absurd s
some_left P (x ∷ xs) ys (inl p) = inl p
some_left P (x ∷ xs) ys (inr s) = inr (some_left P xs ys s)

pub some_right : {A : Type 0} (P : A → Type 0) (xs ys : List A) → SomeOf P ys → SomeOf P (xs ++ ys)
some_right P [] ys s = s
some_right P (x ∷ xs) ys s = inr (some_right P xs ys s)

pub record IsSplit {A : Type 0} (R : A → A → Type 0) (xs ys : List A) : Type 0 where
  pub left : Pairs R xs
  pub right : Pairs R ys
  pub across : Across R xs ys

pub pairs_split : {A : Type 0} (R : A → A → Type 0) (xs ys : List A) → Pairs R (xs ++ ys) → IsSplit R xs ys
pairs_split R [] ys h = record { left = tt; right = h; across = tt }
pairs_split R (x ∷ xs) ys h =
    let r = pairs_split R xs ys h.1 in
    record {
      left = (all_left (R x) xs ys h.0, r.left);
      right = r.right;
      across = (all_right (R x) xs ys h.0, r.across);
    }

pub pairs_join : {A : Type 0} (R : A → A → Type 0) (xs ys : List A) → IsSplit R xs ys → Pairs R (xs ++ ys)
pairs_join R [] ys h = h.right
pairs_join R (x ∷ xs) ys h = (
  all_join (R x) xs ys h.left.0 h.across.0,
  pairs_join R xs ys (record { left = h.left.1; right = h.right; across = h.across.1 }),
)

pub across_join : {A : Type 0} (R : A → A → Type 0) (xs ys zs : List A) → Across R xs ys → Across R xs zs
    → Across R xs (ys ++ zs)
across_join R [] ys zs h g = tt
across_join R (x ∷ xs) ys zs h g = (all_join (R x) ys zs h.0 g.0, across_join R xs ys zs h.1 g.1)

pub across_right : {A : Type 0} (R : A → A → Type 0) (xs ys zs : List A) → Across R xs (ys ++ zs) → Across R xs zs
across_right R [] ys zs h = tt
across_right R (x ∷ xs) ys zs h = (all_right (R x) ys zs h.0, across_right R xs ys zs h.1)

-- ---- the rules over mentions

-- a value and an item are alone at their path
abbrev pub exclusive : MentionKind → Bool
exclusive (value f) = true
exclusive (item f) = true
exclusive _ = false

-- not said of an element by the way
abbrev pub solid : MentionKind → Bool
solid begun = false
solid passed = false
solid _ = true

abbrev pub table_allows : MentionKind → MentionKind → Bool
table_allows through through = true
table_allows through define = true
table_allows through dotted = true
table_allows define through = true
table_allows element element = true
table_allows element past = true
table_allows past element = true
table_allows past past = true
table_allows dotted through = true
table_allows dotted dotted = true
table_allows begun _ = true
table_allows passed _ = true
table_allows _ begun = true
table_allows _ passed = true
table_allows _ _ = false

abbrev pub kinds_allow : MentionKind → MentionKind → Bool
kinds_allow a b = cond (exclusive a) (not (solid b)) (cond (exclusive b) (not (solid a)) (table_allows a b))

abbrev pub Allowed : Mention → Mention → Type 0
Allowed a b = a.path ≡ b.path → kinds_allow a.kind b.kind ≡ true

abbrev pub Rules : List Mention → Type 0
Rules = Pairs Allowed

-- ---- paths under a path

-- not at or under the path
abbrev pub IsDisjoint : List Part → Mention → Type 0
IsDisjoint p m = strip p m.path ≡ None

-- at or under it
abbrev pub IsUnder : List Part → Mention → Type 0
IsUnder p m = (r : List Part) × (strip p m.path ≡ Some r)

disjoint_under : (p : List Part) (a b : Mention) → IsDisjoint p a → IsUnder p b → a.path ≡ b.path → ⊥
disjoint_under p a b h g e = let k : None ≡ Some g.0 = sym h ∙ ap (strip p) e ∙ g.1 in absurd cc

across_disjoint : (p : List Part) (xs ys : List Mention) → AllOf (IsDisjoint p) xs → AllOf (IsUnder p) ys
    → Across Allowed xs ys
across_disjoint p [] ys h g = tt
across_disjoint p (x ∷ xs) ys h g = (
  all_map (IsUnder p) (Allowed x) (λ y u e. absurd (disjoint_under p x y h.0 u e)) ys g,
  across_disjoint p xs ys h.1 g,
)

across_under : (p : List Part) (xs ys : List Mention) → AllOf (IsUnder p) xs → AllOf (IsDisjoint p) ys
    → Across Allowed xs ys
across_under p [] ys h g = tt
across_under p (x ∷ xs) ys h g = (
  all_map (IsDisjoint p) (Allowed x) (λ y a e. absurd (disjoint_under p y x a h.0 (sym e))) ys g,
  across_under p xs ys h.1 g,
)

-- A run at and under a path, with nothing else there, may be replaced by another.
pub rules_replaced : (p : List Part) (before old new after : List Mention) → Rules (before ++ (old ++ after))
    → AllOf (IsDisjoint p) before → AllOf (IsDisjoint p) after → AllOf (IsUnder p) new → Rules new
    → Rules (before ++ (new ++ after))
rules_replaced p before old new after h hb hh hn rn =
    let outer = pairs_split Allowed before (old ++ after) h in
    let inner = pairs_split Allowed old after outer.right in
    pairs_join Allowed before (new ++ after) (record {
      left = outer.left;
      right = pairs_join Allowed new after
          (record { left = rn; right = inner.right; across = across_under p new after hn hh });
      across =
          across_join Allowed before new after (across_disjoint p before new hb hn)
          (across_right Allowed before old after outer.across);
    })

-- ---- the tree

pub kinds_at-append : (q : List Part) (xs ys : List Mention) → kinds_at q (xs ++ ys) ≡ kinds_at q xs ++ kinds_at q ys
kinds_at-append q xs ys =
    ap (map (λ m. m.kind)) (filter-append (is_at q) xs ys)
    ∙ map-append (λ m. m.kind) (filter (is_at q) xs) (filter (is_at q) ys)

-- the tests of parts and paths tell that they are equal
pub same_part-sound : (p q : Part) → same_part p q ≡ true → p ≡ q
same_part-sound (key a) (key b) h = ap key ((bytes_eq-Decides a b).0 h)
same_part-sound (index m) (index n) h = ap index (eqb-true m n h)
same_part-sound (key a) (index n) h = absurd cc
same_part-sound (index m) (key b) h = absurd cc

pub same_part-refl : (p : Part) → same_part p p ≡ true
same_part-refl (key a) = (bytes_eq-Decides a a).1 refl
same_part-refl (index m) = eq-eqb m m refl

pub same_path-sound : (p q : List Part) → same_path p q ≡ true → p ≡ q
same_path-sound [] [] h = refl
same_path-sound [] (b ∷ q) h = absurd cc
same_path-sound (a ∷ p) [] h = absurd cc
same_path-sound (a ∷ p) (b ∷ q) h =
    let (one, more) = and_parts (same_part a b) (same_path p q) h in
    let x : a ≡ b = same_part-sound a b one in
    let y : p ≡ q = same_path-sound p q more in
    cc

pub same_path-refl : (p : List Part) → same_path p p ≡ true
same_path-refl [] = refl
same_path-refl (a ∷ p) = rw (same_part-refl a) (same_path-refl p)

-- ---- prefixes of paths

pub strip-append : (p r : List Part) → strip p (p ++ r) ≡ Some r
strip-append [] r = refl
strip-append (a ∷ p) r = rw (strip, same_part-refl a) (strip-append p r)

strip_step : (a b : Part) (p q r : List Part) (c : Bool) → same_part a b ≡ c → (strip p q ≡ Some r → q ≡ p ++ r)
    → elim c [ true ↦ strip p q | false ↦ None ] ≡ Some r → b ∷ q ≡ a ∷ p ++ r
strip_step a b p q r true e ih h = let x : a ≡ b = same_part-sound a b e in let y : q ≡ p ++ r = ih h in cc
strip_step a b p q r false e ih h = absurd cc

pub strip-sound : (p q r : List Part) → strip p q ≡ Some r → q ≡ p ++ r
strip-sound [] q r h = let e : q ≡ r = cc in e
strip-sound (a ∷ p) [] r h = absurd cc
strip-sound (a ∷ p) (b ∷ q) r h = strip_step a b p q r (same_part a b) refl (strip-sound p q r) h

-- beyond the same prefix, a path continues under the rest
pub strip_both : (s p q : List Part) → strip (s ++ p) (s ++ q) ≡ strip p q
strip_both [] p q = refl
strip_both (a ∷ s) p q = rw (strip, same_part-refl a) (strip_both s p q)

-- a path under a longer one is under the shorter
pub strip_shorter : (s p q r : List Part) → strip (s ++ p) q ≡ Some r → strip s q ≡ Some (p ++ r)
strip_shorter s p q r h =
    let e : q ≡ (s ++ p) ++ r = strip-sound (s ++ p) q r h in
    ap (strip s) (e ∙ append_assoc s p r) ∙ strip-append s (p ++ r)

pub none_or_some : (o : Option (List Part)) → (o ≡ None) ⊎ ((r : List Part) × (o ≡ Some r))
none_or_some None = inl refl
none_or_some (Some r) = inr (r, refl)

-- what is disjoint from the shorter path is disjoint from the longer
pub disjoint_longer : (s p : List Part) (m : Mention) → IsDisjoint s m → IsDisjoint (s ++ p) m
disjoint_longer s p m h = elim (none_or_some (strip (s ++ p) m.path)) [
  | inl e ↦ e
  | inr r ↦ (let k : None ≡ Some (p ++ r.0) = sym h ∙ strip_shorter s p m.path r.0 r.1 in absurd cc)
]

-- ---- what is said at a path

pub is_at-disjoint : (p : List Part) (m : Mention) (q r : List Part) → IsDisjoint p m → strip p q ≡ Some r → (b : Bool)
    → is_at q m ≡ b → is_at q m ≡ false
is_at-disjoint p m q r h u true e =
    let x : m.path ≡ q = same_path-sound m.path q e in let k : None ≡ Some r = sym h ∙ ap (strip p) x ∙ u in absurd cc
is_at-disjoint p m q r h u false e = e

-- nothing at a path under p is said by what is disjoint from p
pub kinds_at-disjoint : (p q r : List Part) (ms : List Mention) → AllOf (IsDisjoint p) ms → strip p q ≡ Some r
    → kinds_at q ms ≡ []
kinds_at-disjoint p q r [] h u = refl
kinds_at-disjoint p q r (m ∷ ms) h u =
    rw (is_at-disjoint p m q r h.0 u (is_at q m) refl) (kinds_at-disjoint p q r ms h.1 u)

is_at-under : (p : List Part) (m : Mention) (q r : List Part) → strip p m.path ≡ Some r → strip p q ≡ None → (b : Bool)
    → is_at q m ≡ b → is_at q m ≡ false
is_at-under p m q r h u true e =
    let x : m.path ≡ q = same_path-sound m.path q e in
    let k : None ≡ Some r = sym u ∙ ap (strip p) (sym x) ∙ h in absurd cc
is_at-under p m q r h u false e = e

-- nothing elsewhere is said by what is under p
pub kinds_at-under : (p q : List Part) (ms : List Mention) → AllOf (IsUnder p) ms → strip p q ≡ None
    → kinds_at q ms ≡ []
kinds_at-under p q [] h u = refl
kinds_at-under p q (m ∷ ms) h u = rw (is_at-under p m q h.0.0 h.0.1 u (is_at q m) refl) (kinds_at-under p q ms h.1 u)

-- seen from outside, the same is said of the longer path
same_path-both : (p x r : List Part) → same_path (p ++ x) (p ++ r) ≡ same_path x r
same_path-both [] x r = refl
same_path-both (a ∷ p) x r = rw (same_part-refl a) (same_path-both p x r)

kinds_at-step : (p r : List Part) (m : Mention) (ms : List Mention)
    → kinds_at (p ++ r) (map (below p) ms) ≡ kinds_at r ms → (b : Bool) → is_at r m ≡ b
    → kinds_at (p ++ r) (map (below p) (m ∷ ms)) ≡ kinds_at r (m ∷ ms)
kinds_at-step p r m ms h true e = rw (same_path-both p m.path r, e) (ap (λ l. m.kind ∷ l) h)
kinds_at-step p r m ms h false e = rw (same_path-both p m.path r, e) h

pub kinds_at-below : (p r : List Part) (ms : List Mention) → kinds_at (p ++ r) (map (below p) ms) ≡ kinds_at r ms
kinds_at-below p r [] = refl
kinds_at-below p r (m ∷ ms) = kinds_at-step p r m ms (kinds_at-below p r ms) (is_at r m) refl

-- What is said where a run is replaced: under its path what the run says. So its facts are those there, and elsewhere
-- those from before.
pub kinds_at-run : (p q r : List Part) (before new after : List Mention) → AllOf (IsDisjoint p) before
    → AllOf (IsDisjoint p) after → strip p q ≡ Some r → kinds_at q (before ++ (new ++ after)) ≡ kinds_at q new
kinds_at-run p q r before new after hb hh u =
    kinds_at-append q before (new ++ after)
    ∙ ap (λ l. l ++ kinds_at q (new ++ after)) (kinds_at-disjoint p q r before hb u)
    ∙ kinds_at-append q new after ∙ ap (λ l. kinds_at q new ++ l) (kinds_at-disjoint p q r after hh u)
    ∙ append-nil (kinds_at q new)

pub fact_under : (p q r : List Part) (before new after : List Mention) → AllOf (IsDisjoint p) before
    → AllOf (IsDisjoint p) after → strip p q ≡ Some r → fact_at q (before ++ (new ++ after)) ≡ fact_at q new
fact_under p q r before new after hb hh u =
    ap (λ l. first_of (filter_map fact_of l)) (kinds_at-run p q r before new after hb hh u)

pub fact_elsewhere : (p q : List Part) (before old new after : List Mention) → AllOf (IsUnder p) old
    → AllOf (IsUnder p) new → strip p q ≡ None
    → fact_at q (before ++ (new ++ after)) ≡ fact_at q (before ++ (old ++ after))
fact_elsewhere p q before old new after ho hn u =
    ap (λ l. first_of (filter_map fact_of l))
    (kinds_at-append q before (new ++ after)
    ∙ ap (λ l. kinds_at q before ++ l)
    (kinds_at-append q new after ∙ ap (λ l. l ++ kinds_at q after) (kinds_at-under p q new hn u))
    ∙ sym (kinds_at-append q before (old ++ after)
    ∙ ap (λ l. kinds_at q before ++ l)
    (kinds_at-append q old after ∙ ap (λ l. l ++ kinds_at q after) (kinds_at-under p q old ho u))))
