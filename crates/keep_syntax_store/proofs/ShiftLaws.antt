-- Packed records whose numbers are moved say what the moved records are. They can be moved back, and are as before
-- then.
--
-- A packed record stores some of its numbers, and the others as distances from these. A stored number is moved in its
-- word, and no further than the word's greatest number (`shifted_to`). Where it fits there (`FitsMoved`), the word has
-- the moved number (`fits_is`), a distance from it leads to the moved place (`fits_sum`), and it can be moved back
-- (`fits_again`) and is as before then (`fits_back`). The same holds of a number that may be absent (`there_is`,
-- `there_back`, `there_again`). From these laws, number by number, come three laws of each kind of record. Those of
-- lists follow by induction (`map_is`, `map_back`, `map_again`).
--
-- Theorems: `statement_is`: what a moved record says; `statement_again`: it can be moved back; `statement_back`: it is
-- as before then. Key parts and values have the same three.
use Rattle.std.proofs.Common.{◌≡◌, ℕ, ◌+◌, ◌-◌, Bool, true, false, List, [], ◌∷◌, map, refl, ap, ◌∙◌, arith}
use Rattle.std.specs.Prelude.{if◌then◌else◌, Option, Some}
use Rattle.std.specs.List.{AllByRecursion}
use Rattle.keep_types.specs.declared.syntax.KeyPart.{KeyPart}
use Rattle.keep_types.specs.declared.syntax.Statement.{Statement}
use Rattle.keep_types.specs.declared.syntax.ValueInfo.{ValueInfo}
use Rattle.keep_types.specs.declared.syntax.Owner.{Owner}
use Rattle.keep_types.specs.declared.syntax.Owner.TheVariants as owner
use Rattle.keep_syntax_store.specs.declared.moves.Counts.{Counts}
use Rattle.keep_syntax_store.specs.declared.statements.PackedStatement.{PackedStatement}
use Rattle.keep_syntax_store.specs.declared.keys.PackedKeyPart.{PackedKeyPart}
use Rattle.keep_syntax_store.specs.declared.values.Within.{Within}
use Rattle.keep_syntax_store.specs.declared.values.Within.TheVariants as within
use Rattle.keep_syntax_store.specs.declared.values.PackedValue.{PackedValue}
use Rattle.keep_syntax_store.specs.Counts.{span}
use Rattle.keep_syntax_store.specs.Lifted.{moved, moved_there, moved_key, moved_statement, moved_value, moved_owner}
use Rattle.keep_syntax_store.specs.Flat.{unpacked_statement, unpacked_key_part, unpacked_value, if_there, owner_of}
use Rattle.keep_syntax_store.specs.Rereading.{count_of}
use Rattle.keep_syntax_store.specs.Shifting.{last_u32, last_usize, shifted_to, FitsMoved, shifted_key, CanShiftKey}
use Rattle.keep_syntax_store.specs.Shifting.{shifted_statement, CanShiftStatement, owners_of, shifted_value}
use Rattle.keep_syntax_store.specs.Shifting.{CanShiftValue}

-- ---- numbers

pub fits_is : (last a b n : ℕ) → FitsMoved last a b n → shifted_to last a b n ≡ n - a + b
fits_is last a b n h = omega (arith, h.fits)

pub fits_sum : (last a b n k : ℕ) → FitsMoved last a b n → shifted_to last a b n + k ≡ moved a b (n + k)
fits_sum last a b n k h = omega (arith, h.fits, h.low)

pub fits_back : (last a b n : ℕ) → FitsMoved last a b n → shifted_to last b a (shifted_to last a b n) ≡ n
fits_back last a b n h = omega (arith, h.fits, h.low, h.small)

pub fits_again : (last a b n : ℕ) → FitsMoved last a b n → FitsMoved last b a (shifted_to last a b n)
fits_again last a b n h =
    record { low = omega (arith, h.fits); fits = omega (arith, h.fits, h.low, h.small); small = omega arith }

-- a number that is there or not
pub there_is : (test : Bool) (last a b n : ℕ) → (test ≡ true → FitsMoved last a b n)
    → if_there test (if test then shifted_to last a b n else n) ≡ moved_there a b (if_there test n)
there_is true last a b n h = ap Some (fits_is last a b n (h refl))
there_is false last a b n h = refl

pub there_back : (test : Bool) (last a b n : ℕ) → (test ≡ true → FitsMoved last a b n)
    → (if test then shifted_to last b a (if test then shifted_to last a b n else n) else
    (if test then shifted_to last a b n else n)) ≡ n
there_back true last a b n h = fits_back last a b n (h refl)
there_back false last a b n h = refl

pub there_again : (test : Bool) (last a b n : ℕ) → (test ≡ true → FitsMoved last a b n) → test ≡ true
    → FitsMoved last b a (if test then shifted_to last a b n else n)
there_again true last a b n h e = fits_again last a b n (h refl)
there_again false last a b n h e = let never : ⊥ = cc in absurd never

-- ---- key parts

pub key_is : (a b : Counts) (k : PackedKeyPart) → CanShiftKey a b k
    → unpacked_key_part (shifted_key a b k) ≡ moved_key (count_of a) (count_of b) (unpacked_key_part k)
key_is a b k h =
    let at : ℕ → ℕ → KeyPart = λ x y. record { leaf = k.leaf; span = span x y } in
    ap (λ y. at (shifted_to last_u32 a.at b.at k.start) y) (fits_sum last_u32 a.at b.at k.start k.len h.start)
    ∙ ap (λ x. at x (moved a.at b.at (k.start + k.len))) (fits_is last_u32 a.at b.at k.start h.start)

pub key_back : (a b : Counts) (k : PackedKeyPart) → CanShiftKey a b k → shifted_key b a (shifted_key a b k) ≡ k
key_back a b k h = ap (λ (n : ℕ). record k { start = n }) (fits_back last_u32 a.at b.at k.start h.start)

pub key_again : (a b : Counts) (k : PackedKeyPart) → CanShiftKey a b k → CanShiftKey b a (shifted_key a b k)
key_again a b k h = record { start = fits_again last_u32 a.at b.at k.start h.start }

-- ---- statements

six : {A B C : Type 0} (f : ℕ → ℕ → ℕ → ℕ → A → B → C) {x x2 y y2 z z2 w w2 : ℕ} {k k2 : A} {v v2 : B} → x ≡ x2 → y ≡ y2
    → z ≡ z2 → w ≡ w2 → k ≡ k2 → v ≡ v2 → f x y z w k v ≡ f x2 y2 z2 w2 k2 v2
six {A} {B} f {x} {x2} {y} {y2} {z} {z2} {w} {w2} {k} {k2} {v} {v2} p q r s t u =
    ap (λ (n : ℕ). f n y z w k v) p ∙ ap (λ (n : ℕ). f x2 n z w k v) q ∙ ap (λ (n : ℕ). f x2 y2 n w k v) r
    ∙ ap (λ (n : ℕ). f x2 y2 z2 n k v) s ∙ ap (λ (n : A). f x2 y2 z2 w2 n v) t
    ∙ ap (λ (n : B). f x2 y2 z2 w2 k2 n) u

pub statement_is : (a b : Counts) (s : PackedStatement) → CanShiftStatement a b s
    → unpacked_statement (shifted_statement a b s) ≡ moved_statement (count_of a) (count_of b) (unpacked_statement s)
statement_is a b s h =
    six (λ x y z w (k : ℕ) (v : Option ℕ). the_statement x y z w k v)
    (fits_sum last_u32 a.at b.at s.line_start s.before h.line_start)
    (fits_is last_u32 a.at b.at s.end h.end)
    (fits_is last_u32 a.at b.at s.line_start h.line_start)
    (fits_sum last_u32 a.at b.at s.end s.after h.end)
    (fits_is last_u32 a.keys b.keys s.first_key h.first_key)
    (there_is s.has_value last_u32 a.values b.values s.value h.value)
  where
    the_statement : ℕ → ℕ → ℕ → ℕ → ℕ → Option ℕ → Statement
    the_statement x y z w k v =
        record { kind = s.kind; span = span x y; line = span z w; first_key = k; keys = s.keys; value = v }

pub statement_back : (a b : Counts) (s : PackedStatement) → CanShiftStatement a b s
    → shifted_statement b a (shifted_statement a b s) ≡ s
statement_back a b s h =
    let x = fits_back last_u32 a.at b.at s.line_start h.line_start in
    let y = fits_back last_u32 a.at b.at s.end h.end in
    let k = fits_back last_u32 a.keys b.keys s.first_key h.first_key in
    let v = there_back s.has_value last_u32 a.values b.values s.value h.value in
    let t = shifted_statement b a (shifted_statement a b s) in
    ap (λ (n : ℕ). record t { line_start = n }) x
    ∙ ap (λ (n : ℕ). record t { line_start = s.line_start; end = n }) y
    ∙ ap (λ (n : ℕ). record t { line_start = s.line_start; end = s.end; first_key = n }) k
    ∙ ap (λ (n : ℕ). record t { line_start = s.line_start; end = s.end; first_key = s.first_key; value = n }) v

pub statement_again : (a b : Counts) (s : PackedStatement) → CanShiftStatement a b s
    → CanShiftStatement b a (shifted_statement a b s)
statement_again a b s h = record {
  line_start = fits_again last_u32 a.at b.at s.line_start h.line_start;
  end = fits_again last_u32 a.at b.at s.end h.end;
  first_key = fits_again last_u32 a.keys b.keys s.first_key h.first_key;
  value = there_again s.has_value last_u32 a.values b.values s.value h.value;
}

-- ---- values

pub owner_is : (a b : Counts) (w : Within) (n : ℕ) → FitsMoved last_u32 (owners_of w a) (owners_of w b) n
    → owner_of w (shifted_to last_u32 (owners_of w a) (owners_of w b) n)
    ≡ moved_owner (count_of a) (count_of b) (owner_of w n)
owner_is a b within.Line n h = ap owner.Line (fits_is last_u32 a.statements b.statements n h)
owner_is a b within.Inline n h = ap owner.Inline (fits_is last_u32 a.values b.values n h)
owner_is a b within.Item n h = ap owner.Item (fits_is last_u32 a.values b.values n h)

pub anchor_is : (test : Bool) (a b n : ℕ) → FitsMoved last_u32 a b n
    → if_there test (shifted_to last_u32 a b n) ≡ moved_there a b (if_there test n)
anchor_is true a b n h = ap Some (fits_is last_u32 a b n h)
anchor_is false a b n h = refl

pub value_is : (a b : Counts) (v : PackedValue) → CanShiftValue a b v
    → unpacked_value (shifted_value a b v) ≡ moved_value (count_of a) (count_of b) (unpacked_value v)
value_is a b v h =
    let x : shifted_to last_u32 a.at b.at v.anchor + v.gap + v.lead ≡ moved a.at b.at (v.anchor + v.gap + v.lead) =
    omega (arith, h.anchor.fits, h.anchor.low) in
    let o = owner_is a b v.within v.owner h.owner in
    let m = anchor_is v.has_before a.at b.at v.anchor h.anchor in
    let n = there_is v.has_after last_usize a.at b.at v.after h.after in
    six (λ x y z k (o : Owner) (m : Option ℕ).
    the_value x y z k o m (if_there v.has_after
    (if v.has_after then shifted_to last_usize a.at b.at v.after else v.after)))
    x
    (fits_is last_usize a.at b.at v.end h.end)
    (fits_sum last_u32 a.at b.at v.anchor v.gap h.anchor)
    (fits_is last_u32 a.keys b.keys v.first_key h.first_key)
    o m
    ∙ ap (λ (i : Option ℕ).
    the_value (moved a.at b.at (v.anchor + v.gap + v.lead)) (moved a.at b.at v.end) (moved a.at b.at (v.anchor + v.gap))
    (moved a.keys b.keys v.first_key)
    (moved_owner (count_of a) (count_of b) (owner_of v.within v.owner))
    (moved_there a.at b.at (if_there v.has_before v.anchor)) i) n
  where
    the_value : ℕ → ℕ → ℕ → ℕ → Owner → Option ℕ → Option ℕ → ValueInfo
    the_value x y z k o m n =
        record {
          leaf = v.leaf;
          span = span x y;
          whole = span z y;
          owner = o;
          depth = v.depth;
          first_key = k;
          keys = v.keys;
          comma_before = m;
          comma_after = n;
        }

pub value_back : (a b : Counts) (v : PackedValue) → CanShiftValue a b v → shifted_value b a (shifted_value a b v) ≡ v
value_back a b v h =
    let x = fits_back last_u32 a.at b.at v.anchor h.anchor in
    let o = fits_back last_u32 (owners_of v.within a) (owners_of v.within b) v.owner h.owner in
    let k = fits_back last_u32 a.keys b.keys v.first_key h.first_key in
    let y = fits_back last_usize a.at b.at v.end h.end in
    let n = there_back v.has_after last_usize a.at b.at v.after h.after in
    let t = shifted_value b a (shifted_value a b v) in
    ap (λ (i : ℕ). record t { anchor = i }) x
    ∙ ap (λ (i : ℕ). record t { anchor = v.anchor; owner = i }) o
    ∙ ap (λ (i : ℕ). record t { anchor = v.anchor; owner = v.owner; first_key = i }) k
    ∙ ap (λ (i : ℕ). record t { anchor = v.anchor; owner = v.owner; first_key = v.first_key; end = i }) y
    ∙ ap (λ (i : ℕ). record t { anchor = v.anchor; owner = v.owner; first_key = v.first_key; end = v.end; after = i }) n

pub value_again : (a b : Counts) (v : PackedValue) → CanShiftValue a b v → CanShiftValue b a (shifted_value a b v)
value_again a b v h = record {
  anchor = fits_again last_u32 a.at b.at v.anchor h.anchor;
  owner = fits_again last_u32 (owners_of v.within a) (owners_of v.within b) v.owner h.owner;
  first_key = fits_again last_u32 a.keys b.keys v.first_key h.first_key;
  end = fits_again last_usize a.at b.at v.end h.end;
  after = there_again v.has_after last_usize a.at b.at v.after h.after;
}

-- ---- lists of them

pub map_is : {A B : Type 0} (tell : A → B) (f : A → A) (m : B → B) (P : A → Type 0)
    → ((x : A) → P x → tell (f x) ≡ m (tell x))
    → (xs : List A) → AllByRecursion P xs → map tell (map f xs) ≡ map m (map tell xs)
map_is tell f m P one [] h = refl
map_is tell f m P one (x ∷ xs) h =
    ap (λ y. y ∷ map tell (map f xs)) (one x h.0) ∙ ap (λ ys. m (tell x) ∷ ys) (map_is tell f m P one xs h.1)

pub map_back : {A : Type 0} (f g : A → A) (P : A → Type 0) → ((x : A) → P x → g (f x) ≡ x) → (xs : List A)
    → AllByRecursion P xs → map g (map f xs) ≡ xs
map_back f g P one [] h = refl
map_back f g P one (x ∷ xs) h =
    ap (λ y. y ∷ map g (map f xs)) (one x h.0) ∙ ap (λ ys. x ∷ ys) (map_back f g P one xs h.1)

pub map_again : {A : Type 0} (f : A → A) (P Q : A → Type 0) → ((x : A) → P x → Q (f x)) → (xs : List A)
    → AllByRecursion P xs → AllByRecursion Q (map f xs)
map_again f P Q one [] h = tt
map_again f P Q one (x ∷ xs) h = (one x h.0, map_again f P Q one xs h.1)
