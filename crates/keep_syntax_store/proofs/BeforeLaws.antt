-- How much comes before a place, of lists that are joined there: by places that ascend, and by the first statement
-- after it.
--
-- Theorem: `counts_join`: it is all of the first.
use Rattle.std.proofs.Common.{◌≡◌, ℕ, suc, ◌<◌, ◌≤◌, List, [], ◌∷◌, ◌++◌, length, drop, refl, ap, ◌∙◌, arith, Option}
use Rattle.std.proofs.Common.{Some, None, le-ltb, lt-ltb}
use Rattle.std.specs.Prelude.{⊤, ltb}
use Rattle.std.specs.List.{AllByRecursion}
use Rattle.std.proofs.lemmas.List.{length-append}
use Rattle.std.proofs.Math.Seq.{drop-append_seam}
use Rattle.keep_types.specs.declared.syntax.KeyPart.{KeyPart}
use Rattle.keep_types.specs.declared.syntax.Statement.{Statement}
use Rattle.keep_types.specs.declared.syntax.ValueInfo.{ValueInfo}
use Rattle.keep_syntax_store.specs.declared.moves.Counts.{Counts}
use Rattle.keep_syntax_store.specs.Counts.{Count}
use Rattle.keep_syntax_store.specs.Flat.{Flat}
use Rattle.keep_syntax_store.specs.Rereading.{counts_at, places_before, statements_before, first_key, value_or}
use Rattle.keep_syntax_store.specs.Rereading.{first_value, counts_before, joined}
pub use Rattle.keep_syntax_store.specs.Starts.{Before}
use Rattle.keep_syntax_store.proofs.TestLaws.{if_true, if_false}
use Rattle.keep_syntax_store.proofs.JoinLaws.{IsEven}

-- ---- lists that all are so

pub all_append : {A : Type 0} (P : A → Type 0) (xs ys : List A) → AllByRecursion P xs → AllByRecursion P ys
    → AllByRecursion P (xs ++ ys)
all_append P [] ys h k = k
all_append P (x ∷ xs) ys h k = (h.0, all_append P xs ys h.1 k)

pub all_prefix : {A : Type 0} (P : A → Type 0) (xs ys : List A) → AllByRecursion P (xs ++ ys) → AllByRecursion P xs
all_prefix P [] ys h = tt
all_prefix P (x ∷ xs) ys h = (h.0, all_prefix P xs ys h.1)

pub all_back : {A : Type 0} (P : A → Type 0) (xs ys : List A) → AllByRecursion P (xs ++ ys) → AllByRecursion P ys
all_back P [] ys h = h
all_back P (x ∷ xs) ys h = all_back P xs ys h.1

-- ---- places

-- the first of them is not before a place
abbrev pub From : ℕ → List ℕ → Type 0
From place [] = ⊤
From place (n ∷ ns) = place ≤ n

pub places_found : (place : ℕ) (xs ys : List ℕ) → Before place xs → From place ys
    → places_before place (xs ++ ys) ≡ length xs
places_found place [] [] h k = refl
places_found place [] (y ∷ ys) h k = if_false (ltb y place) _ _ (le-ltb y place k)
places_found place (x ∷ xs) ys h k =
    if_true (ltb x place) _ _ (lt-ltb x place h.0) ∙ ap suc (places_found place xs ys h.1 k)

-- ---- statements

abbrev pub BeginBefore : ℕ → List Statement → Type 0
BeginBefore place ss = AllByRecursion (λ (s : Statement). s.line.start < place) ss

abbrev pub BeginFrom : ℕ → List Statement → Type 0
BeginFrom place [] = ⊤
BeginFrom place (s ∷ ss) = place ≤ s.line.start

statements_found : (place : ℕ) (xs ys : List Statement) → BeginBefore place xs → BeginFrom place ys
    → statements_before place (xs ++ ys) ≡ length xs
statements_found place [] [] h k = refl
statements_found place [] (y ∷ ys) h k = if_false (ltb y.line.start place) _ _ (le-ltb y.line.start place k)
statements_found place (x ∷ xs) ys h k =
    if_true (ltb x.line.start place) _ _ (lt-ltb x.line.start place h.0) ∙ ap suc (statements_found place xs ys h.1 k)

-- ---- key parts and values

-- The first of these statements begins at or after the count and has its number of key parts; without one there are
-- none.
abbrev pub HeadIs : Count → List Statement → List KeyPart → Type 0
HeadIs c [] ks = ks ≡ []
HeadIs c (s ∷ ss) ks = (s.first_key ≡ c.parts) × (c.at ≤ s.line.start)

-- The first keyval among them has the number of values before it; without one there are none.
abbrev pub ByValue : Count → Type 0 → Option ℕ → Type 0
ByValue c rest None = rest
ByValue c rest (Some v) = v ≡ c.values

abbrev pub ValuesFrom : Count → List Statement → List ValueInfo → Type 0
ValuesFrom c [] vs = vs ≡ []
ValuesFrom c (s ∷ ss) vs = ByValue c (ValuesFrom c ss vs) s.value

pub head_begins : (c : Count) (ss : List Statement) (ks : List KeyPart) → HeadIs c ss ks → BeginFrom c.at ss
head_begins c [] ks h = tt
head_begins c (s ∷ ss) ks h = h.1

key_count : (c : Count) (ss : List Statement) (xs ys : List KeyPart) → HeadIs c ss ys → c.parts ≡ length xs
    → first_key (length (xs ++ ys)) ss ≡ length xs
key_count c [] xs ys h e = omega (arith, length-append xs ys, ap length h)
key_count c (s ∷ ss) xs ys h e = h.0 ∙ e

value_count : (c : Count) (ss : List Statement) (xs ys : List ValueInfo) → ValuesFrom c ss ys → c.values ≡ length xs
    → first_value (length (xs ++ ys)) ss ≡ length xs
value_count c [] xs ys h e = omega (arith, length-append xs ys, ap length h)
value_count c (s ∷ ss) xs ys h e = by s.value h (value_count c ss xs ys)
  where
    by : (o : Option ℕ) → ByValue c (ValuesFrom c ss ys) o
        → (ValuesFrom c ss ys → c.values ≡ length xs → first_value (length (xs ++ ys)) ss ≡ length xs)
        → value_or (first_value (length (xs ++ ys)) ss) o ≡ length xs
    by None k more = more k e
    by (Some v) k more = k ∙ e

-- ---- all of it

abbrev counts_with : ℕ → ℕ → ℕ → ℕ → ℕ → Counts
counts_with at tokens statements keys values =
    record { at = at; tokens = tokens; statements = statements; keys = keys; values = values }

counts_same : (at : ℕ) {t t' s s' k k' v v' : ℕ} → t ≡ t' → s ≡ s' → k ≡ k' → v ≡ v'
    → counts_with at t s k v ≡ counts_with at t' s' k' v'
counts_same at t s k v = cc

pub counts_join : (c : Count) (x y : Flat) (place : ℕ) → IsEven x → Before place x.starts → From place y.starts
    → BeginBefore place x.statements → BeginFrom place y.statements
    → HeadIs c y.statements y.keys → ValuesFrom c y.statements y.values → c.parts ≡ length x.keys
    → c.values ≡ length x.values → counts_before (joined x y) place ≡ counts_at place x
counts_join c x y place even low high begin after head values ek ev =
    let all : List Statement = x.statements ++ y.statements in
    let n : statements_before place all ≡ length x.statements =
    statements_found place x.statements y.statements begin after in
    let left : drop (statements_before place all) all ≡ y.statements =
    ap (λ (i : ℕ). drop i all) n ∙ drop-append_seam x.statements y.statements in
    counts_same place (places_found place x.starts y.starts low high ∙ even) n
    (ap (first_key (length (x.keys ++ y.keys))) left ∙ key_count c y.statements x.keys y.keys head ek)
    (ap (first_value (length (x.values ++ y.values))) left ∙ value_count c y.statements x.values y.values values ev)
