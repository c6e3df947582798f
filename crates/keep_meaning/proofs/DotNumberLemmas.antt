-- Which number the last mention of a kind has at a path, and which origin a node has by such numbers.
--
-- The values that come before each mention do not become fewer along a document (`ascends_in`), so no mention of a kind
-- has a greater value number than the last (`last_greatest`). There is a last one exactly if there is one at all
-- (`last_said`, `last_there`).
--
-- Theorems: these four; `dotted_parts`: what is said of a table of dotted keys; `number_few`, `number_of_value` and
-- `number_of_dotted`: bounds of the number that an origin has.
use Rattle.std.proofs.Common.{◌≡◌, ℕ, ◌≤◌, Bool, true, false, cond, List, [], ◌∷◌, ◌++◌, refl, ap, subst, ◌⊎◌, inl}
use Rattle.std.proofs.Common.{inr, arith, Option, Some, None}
use Rattle.std.specs.Prelude.{⊤, fold}
use Rattle.keep_types.specs.declared.node.Origin.{Origin}
use Rattle.keep_types.specs.declared.node.Origin.TheVariants as origin
use Rattle.keep_syntax.specs.Tree.{Document}
use Rattle.keep_path.specs.Path.{Part, same_path}
use Rattle.keep_path.proofs.Shared.{path_decides}
use Rattle.keep_meaning.specs.Counts.{Count, Numbered, count_with_mention, next_count, no_count, numbered_from}
use Rattle.keep_meaning.specs.Counts.{numbered_in, numbered_mentions, statements_in}
use Rattle.keep_meaning.specs.Marks.{MentionKind, Mention, Reading, Statement, next_reading, start, statement_mentions}
use Rattle.keep_meaning.specs.Nodes.{last_number, numbered_at, value_number}
use Rattle.keep_meaning.specs.OtherValues.{IsSaidBefore}
use Rattle.keep_meaning.proofs.ElementLemmas.{no_longer}
use Rattle.keep_meaning.proofs.FoundLemmas.{known_by, last_holds, last_some}
use Rattle.keep_meaning.proofs.LineNodeLemmas.{fitting}
use Rattle.keep_meaning.proofs.LineNumberLemmas.{AllOf, IsHigher, all_join, all_of, few_mentions, higher_from}
use Rattle.keep_meaning.proofs.LineNumberLemmas.{higher_mentions}
use Rattle.keep_meaning.proofs.NamedLemmas.{SomeOf}
use Rattle.keep_meaning.proofs.NumberLemmas.{count_after-keys, count_after-values}

-- ---- the values that come before

abbrev UpTo : ℕ → Numbered → Type 0
UpTo top n = n.before.values ≤ top

abbrev FromOn : ℕ → Numbered → Type 0
FromOn low n = low ≤ n.before.values

abbrev pub Ascends : List Numbered → Type 0
Ascends [] = ⊤
Ascends (n ∷ ns) = AllOf (FromOn n.before.values) ns × Ascends ns

ascends_mentions : (c : Count) (ms : List Mention) → Ascends (numbered_mentions c ms)
ascends_mentions c [] = tt
ascends_mentions c (m ∷ ms) =
    let next : Count = count_with_mention c m in (
      all_of (IsHigher c) (FromOn c.values) (λ n h. h.value) (numbered_mentions next ms)
          (higher_mentions c next ms
          (record { statement = omega arith; value = omega arith; key = omega arith })),
      ascends_mentions next ms,
    )

ascends_join : (top : ℕ) (xs ys : List Numbered) → Ascends xs → AllOf (UpTo top) xs → Ascends ys
    → AllOf (FromOn top) ys → Ascends (xs ++ ys)
ascends_join top [] ys h low g high = g
ascends_join top (x ∷ xs) ys h low g high = (
  all_join (FromOn x.before.values) xs ys h.0
      (all_of (FromOn top) (FromOn x.before.values) (λ n e. omega (arith, e, low.0)) ys high),
  ascends_join top xs ys h.1 low.1 g high,
)

ascends_from : (c : Count) (r : Reading) (ss : List Statement) → Ascends (numbered_from c r ss)
ascends_from c r [] = tt
ascends_from c r (s ∷ ss) =
    let ms : List Mention = statement_mentions r s in
    let next : Count = next_count c ms in
    let ys : List Numbered = numbered_from next (next_reading r s) ss in
    ascends_join next.values (numbered_mentions c ms) ys (ascends_mentions c ms)
    (all_of (IsSaidBefore next) (UpTo next.values) (λ n h. h.values) (numbered_mentions c ms)
    (few_mentions c ms next (omega (arith, count_after-values c ms)) (omega (arith, count_after-keys c ms))))
    (ascends_from next (next_reading r s) ss)
    (all_of (IsHigher next) (FromOn next.values) (λ n h. h.value) ys (higher_from next (next_reading r s) ss))

pub ascends_in : (d : Document) → Ascends (numbered_in d)
ascends_in d = ascends_from no_count start (statements_in d)

-- ---- what is said at a path

kept : (P : Numbered → Type 0) (p : List Part) (ns : List Numbered) → AllOf P ns → AllOf P (numbered_at p ns)
kept P p [] h = tt
kept P p (n ∷ ns) h = by (same_path n.mention.path p) (kept P p ns h.1)
  where
    by : (b : Bool) → AllOf P (numbered_at p ns) → AllOf P (cond b (n ∷ numbered_at p ns) (numbered_at p ns))
    by true more = (h.0, more)
    by false more = more

ascends_at : (p : List Part) (ns : List Numbered) → Ascends ns → Ascends (numbered_at p ns)
ascends_at p [] h = tt
ascends_at p (n ∷ ns) h = by (same_path n.mention.path p) (ascends_at p ns h.1)
  where
    by : (b : Bool) → Ascends (numbered_at p ns) → Ascends (cond b (n ∷ numbered_at p ns) (numbered_at p ns))
    by true more = (kept (FromOn n.before.values) p ns h.0, more)
    by false more = more

-- it is said of this path
abbrev pub SaidAt : (Numbered → Type 0) → List Part → Numbered → Type 0
SaidAt P p n = P n × (n.mention.path ≡ p)

some_kept : (P : Numbered → Type 0) (p : List Part) (ns : List Numbered) → SomeOf (SaidAt P p) ns
    → SomeOf P (numbered_at p ns)
some_kept P p [] h = h
some_kept P p (n ∷ ns) h = by (same_path n.mention.path p) refl h (some_kept P p ns)
  where
    by : (b : Bool) → same_path n.mention.path p ≡ b → SomeOf (SaidAt P p) (n ∷ ns)
        → (SomeOf (SaidAt P p) ns → SomeOf P (numbered_at p ns))
        → SomeOf P (cond b (n ∷ numbered_at p ns) (numbered_at p ns))
    by true e (inl g) more = inl g.0
    by true e (inr g) more = inr (more g)
    by false e (inl g) more = absurd (no_longer (same_path n.mention.path p) ((path_decides n.mention.path p).1 g.1) e)
    by false e (inr g) more = more g

some_said : (P : Numbered → Type 0) (p : List Part) (ns : List Numbered) → SomeOf P (numbered_at p ns)
    → SomeOf (SaidAt P p) ns
some_said P p [] h = h
some_said P p (n ∷ ns) h = by (same_path n.mention.path p) refl h (some_said P p ns)
  where
    by : (b : Bool) → same_path n.mention.path p ≡ b → SomeOf P (cond b (n ∷ numbered_at p ns) (numbered_at p ns))
        → (SomeOf P (numbered_at p ns) → SomeOf (SaidAt P p) ns) → SomeOf (SaidAt P p) (n ∷ ns)
    by true e (inl g) more = inl (g, (path_decides n.mention.path p).0 e)
    by true e (inr g) more = inr (more g)
    by false e g more = inr (more g)

-- ---- the last number of a kind

abbrev pub IsOf : (MentionKind → Bool) → Numbered → Type 0
IsOf is n = is n.mention.kind ≡ true

abbrev pub HasNumber : (MentionKind → Bool) → (Count → ℕ) → ℕ → Numbered → Type 0
HasNumber is number x n = IsOf is n × (number n.before ≡ x)

module _ (is : MentionKind → Bool) (number : Count → ℕ) where
  some_last : (x : ℕ) (ns : List Numbered) (known : Option ℕ) → fold (known_by is number) known ns ≡ Some x
      → (known ≡ Some x) ⊎ SomeOf (HasNumber is number x) ns
  some_last x [] known e = inl e
  some_last x (n ∷ ns) known e = by (some_last x ns (known_by is number known n) e)
    where
      own : (b : Bool) → is n.mention.kind ≡ b → cond b (Some (number n.before)) known ≡ Some x
          → (known ≡ Some x) ⊎ SomeOf (HasNumber is number x) (n ∷ ns)
      own true k same = let number_is : number n.before ≡ x = cc in inr (inl (k, number_is))
      own false k same = inl same

      by : (known_by is number known n ≡ Some x) ⊎ SomeOf (HasNumber is number x) ns
          → (known ≡ Some x) ⊎ SomeOf (HasNumber is number x) (n ∷ ns)
      by (inl same) = own (is n.mention.kind) refl same
      by (inr h) = inr (inr h)

  pub last_said : (p : List Part) (ns : List Numbered) (x : ℕ) → last_number is number (numbered_at p ns) ≡ Some x
      → SomeOf (SaidAt (HasNumber is number x) p) ns
  last_said p ns x e = by (some_last x (numbered_at p ns) None e)
    where
      by : (None ≡ Some x) ⊎ SomeOf (HasNumber is number x) (numbered_at p ns)
          → SomeOf (SaidAt (HasNumber is number x) p) ns
      by (inl never) = absurd cc
      by (inr h) = some_said (HasNumber is number x) p ns h

  pub last_there : (p : List Part) (ns : List Numbered) → SomeOf (SaidAt (IsOf is) p) ns
      → last_number is number (numbered_at p ns) ≡ None → ⊥
  last_there p ns h e = last_some is number (numbered_at p ns) None (λ k. some_kept (IsOf is) p ns h) e

module _ (is : MentionKind → Bool) where
  greatest : (w v : ℕ) (ns : List Numbered) (known : Option ℕ) → Ascends ns → SomeOf (HasNumber is value_number w) ns
      → fold (known_by is value_number) known ns ≡ Some v → w ≤ v
  greatest w v [] known asc h e = absurd h
  greatest w v (n ∷ ns) known asc (inr h) e =
      greatest w v ns (known_by is value_number known n) asc.1 h e
  greatest w v (n ∷ ns) known asc (inl h) e =
      last_holds (λ (m : ℕ). w ≤ m) is value_number ns (known_by is value_number known n) own
      (all_of (FromOn n.before.values) (λ (m : Numbered). is m.mention.kind ≡ true → w ≤ m.before.values)
      (λ m g k. subst (λ (x : ℕ). x ≤ m.before.values) h.1 g) ns asc.0) v e
    where
      own : (m : ℕ) → known_by is value_number known n ≡ Some m → w ≤ m
      own m k = by (is n.mention.kind) h.0 k
        where
          by : (b : Bool) → b ≡ true → cond b (Some n.before.values) known ≡ Some m → w ≤ m
          by true t same = let number_is : n.before.values ≡ m = cc in omega (arith, h.1, number_is)
          by false t same = absurd cc

  pub last_greatest : (p : List Part) (ns : List Numbered) (w v : ℕ) → Ascends ns
      → SomeOf (SaidAt (HasNumber is value_number w) p) ns
      → last_number is value_number (numbered_at p ns) ≡ Some v → w ≤ v
  last_greatest p ns w v asc h e =
      greatest w v (numbered_at p ns) None (ascends_at p ns asc) (some_kept (HasNumber is value_number w) p ns h) e

-- ---- the number of an origin

-- as of `value_of`
abbrev pub number_in : Origin → ℕ
number_in o = elim o [
  | origin.Root ↦ 0
  | origin.Value v ↦ v
  | origin.Header s ↦ 0
  | origin.Element s ↦ 0
  | origin.Dotted v ↦ v
  | origin.Through s ↦ 0
  | origin.Tables ↦ 0
]

-- nothing else is said of a table of dotted keys but a header that goes through it, and this is the last by dots
pub record AreDottedParts (v e h d : Option ℕ) (n : ℕ) : Type 0 where
  pub value : v ≡ None
  pub element : e ≡ None
  pub header : h ≡ None
  pub dotted : d ≡ Some n

pub dotted_parts : (v t e h d s : Option ℕ) (n : ℕ) → fitting v t e h d s ≡ origin.Dotted n → AreDottedParts v e h d n
dotted_parts (Some v) t e h d s n is = absurd cc
dotted_parts None (Some t) e h d s n is = absurd cc
dotted_parts None None (Some e) h d s n is = absurd cc
dotted_parts None None None (Some h) d s n is = absurd cc
dotted_parts None None None None (Some d) s n is =
    let same : d ≡ n = cc in record { value = refl; element = refl; header = refl; dotted = ap Some same }
dotted_parts None None None None None (Some s) n is = absurd cc
dotted_parts None None None None None None n is = absurd cc

pub number_few : (top : ℕ) (v t e h d s : Option ℕ) → ((w : ℕ) → v ≡ Some w → w ≤ top)
    → ((w : ℕ) → d ≡ Some w → w ≤ top) → number_in (fitting v t e h d s) ≤ top
number_few top (Some v) t e h d s f g = f v refl
number_few top None (Some t) e h d s f g = omega arith
number_few top None None (Some e) h d s f g = omega arith
number_few top None None None (Some h) d s f g = omega arith
number_few top None None None None (Some d) s f g = g d refl
number_few top None None None None None (Some s) f g = omega arith
number_few top None None None None None None f g = omega arith

pub number_of_value : (low : ℕ) (v t e h d s : Option ℕ) → (v ≡ None → ⊥) → ((w : ℕ) → v ≡ Some w → low ≤ w)
    → low ≤ number_in (fitting v t e h d s)
number_of_value low (Some v) t e h d s there f = f v refl
number_of_value low None t e h d s there f = absurd (there refl)

pub number_of_dotted : (low : ℕ) (v t e h d s : Option ℕ) → v ≡ None → t ≡ None → e ≡ None → h ≡ None
    → (d ≡ None → ⊥) → ((w : ℕ) → d ≡ Some w → low ≤ w) → low ≤ number_in (fitting v t e h d s)
number_of_dotted low v t e h d s no_value no_tables no_element no_header there f =
    rw (no_value, no_tables, no_element, no_header) (by d there f)
  where
    by : (o : Option ℕ) → (o ≡ None → ⊥) → ((w : ℕ) → o ≡ Some w → low ≤ w)
        → low ≤ number_in (fitting None None None None o s)
    by (Some d) there f = f d refl
    by None there f = absurd (there refl)
