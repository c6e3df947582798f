-- What comes after a run can be moved in place: its places lie in a text that places of 32 bits reach, and its numbers
-- are small.
--
-- Theorems: `rest_can`: what comes after the run can be moved; `in_place`: so the run can be replaced in place.
use Rattle.std.proofs.Common.{◌≡◌, ℕ, zero, suc, ◌-◌, ◌≤◌, Bool, true, false, List, [], ◌∷◌, map, drop, refl, subst}
use Rattle.std.proofs.Common.{arith}
use Rattle.std.specs.List.{AllByRecursion}
use Rattle.keep_types.specs.declared.syntax.Statement.{Statement}
use Rattle.keep_types.specs.declared.syntax.KeyPart.{KeyPart}
use Rattle.keep_types.specs.declared.syntax.ValueInfo.{ValueInfo}
use Rattle.keep_syntax_store.specs.declared.moves.Counts.{Counts}
use Rattle.keep_syntax_store.specs.declared.moves.RunCounts.{RunCounts}
use Rattle.keep_syntax_store.specs.declared.statements.PackedStatement.{PackedStatement}
use Rattle.keep_syntax_store.specs.declared.keys.PackedKeyPart.{PackedKeyPart}
use Rattle.keep_syntax_store.specs.declared.values.Within.{Within}
use Rattle.keep_syntax_store.specs.declared.values.Within.TheVariants as within
use Rattle.keep_syntax_store.specs.declared.values.PackedValue.{PackedValue}
use Rattle.keep_syntax_store.specs.declared.parts.Parts.{Parts}
use Rattle.keep_syntax_store.specs.After.{IsBetween, IsBetweenThere, IsFromThere, IsFromOwner, IsAfterKey}
use Rattle.keep_syntax_store.specs.After.{IsAfterStatement, IsAfterValue, AreAfter}
use Rattle.keep_syntax_store.specs.Blocks.{raise_key, raise_statement, raise_value}
use Rattle.keep_syntax_store.specs.Flat.{flat, if_there, owner_of, unpacked_key_part, unpacked_statement}
use Rattle.keep_syntax_store.specs.Flat.{unpacked_value}
use Rattle.keep_syntax_store.specs.Rereading.{count_of}
use Rattle.keep_syntax_store.specs.Shifting.{last_u32, last_usize, last_small, FitsMoved, IsShort, GrowLittle}
use Rattle.keep_syntax_store.specs.Shifting.{CanShiftKey, CanShiftStatement, owners_of, CanShiftValue, IsSmallStatement}
use Rattle.keep_syntax_store.specs.Shifting.{IsSmallValue}
use Rattle.keep_syntax_store.specs.InPlace.{CanShift, CanShiftRest, CanReplace, IsInPlace, IsPacked}
use Rattle.keep_syntax_store.proofs.EntryLaws.{all_packed}

-- ---- numbers

module _ (len a b : ℕ) (short : IsShort len a b) where
  place_fits : (n : ℕ) → a ≤ n → n ≤ len → FitsMoved last_u32 a b n
  place_fits n low high =
      record { low = low; fits = omega (arith, low, high, short.moved); small = omega (arith, high, short.now) }

  end_fits : (n : ℕ) → IsBetween a len n → FitsMoved last_usize a b n
  end_fits n h =
      record { low = h.low; fits = omega (arith, h.low, h.high, short.moved); small = omega (arith, h.high, short.now) }

  end_there : (test : Bool) (n : ℕ) → IsBetweenThere a len (if_there test n) → test ≡ true → FitsMoved last_usize a b n
  end_there true n h e = end_fits n h
  end_there false n h e = let never : ⊥ = cc in absurd never

number_fits : (a b n : ℕ) → b - a ≤ last_small → a ≤ n → n ≤ last_small → FitsMoved last_u32 a b n
number_fits a b n grow low high =
    record { low = low; fits = omega (arith, grow, low, high); small = omega (arith, high) }

number_there : (a b : ℕ) (test : Bool) (n : ℕ) → b - a ≤ last_small → IsFromThere a (if_there test n) → n ≤ last_small
    → test ≡ true → FitsMoved last_u32 a b n
number_there a b true n grow low high e = number_fits a b n grow low high
number_there a b false n grow low high e = let never : ⊥ = cc in absurd never

owner_fits : (a b : Counts) (w : Within) (n : ℕ) → GrowLittle a b → IsFromOwner (count_of a) (owner_of w n)
    → n ≤ last_small → FitsMoved last_u32 (owners_of w a) (owners_of w b) n
owner_fits a b within.Line n grow low high = number_fits a.statements b.statements n grow.statements low high
owner_fits a b within.Inline n grow low high = number_fits a.values b.values n grow.values low high
owner_fits a b within.Item n grow low high = number_fits a.values b.values n grow.values low high

-- ---- entries

module _ (len : ℕ) (a b : Counts) (short : IsShort len a.at b.at) (grow : GrowLittle a b) where
  key_can : (k : PackedKeyPart) → IsAfterKey (count_of a) len (unpacked_key_part k) → k ≡ k → CanShiftKey a b k
  key_can k h same = record { start = place_fits len a.at b.at short k.start h.span.start.low h.span.start.high }

  statement_can : (s : PackedStatement) → IsAfterStatement (count_of a) len (unpacked_statement s)
      → IsSmallStatement a.at s → CanShiftStatement a b s
  statement_can s h small = record {
    line_start = place_fits len a.at b.at short s.line_start h.line.start.low h.line.start.high;
    end = place_fits len a.at b.at short s.end h.span.end.low h.span.end.high;
    first_key = number_fits a.keys b.keys s.first_key grow.keys h.first_key small.first_key;
    value = number_there a.values b.values s.has_value s.value grow.values h.value small.value;
  }

  value_can : (v : PackedValue) → IsAfterValue (count_of a) len (unpacked_value v) → IsSmallValue a.at v
      → CanShiftValue a b v
  value_can v h small = record {
    anchor =
        place_fits len a.at b.at short v.anchor small.anchor
        (let l : v.anchor ≤ len = omega (arith, h.whole.start.high) in l);
    owner = owner_fits a b v.within v.owner grow h.owner small.owner;
    first_key = number_fits a.keys b.keys v.first_key grow.keys h.first_key small.first_key;
    end = end_fits len a.at b.at short v.end h.span.end;
    after = end_there len a.at b.at short v.has_after v.after h.comma_after;
  }

-- ---- lists of them

all_can : {A B : Type 0} (unpack : A → B) (P : B → Type 0) (Q R : A → Type 0) → ((x : A) → P (unpack x) → Q x → R x)
    → (n : ℕ) (xs : List A)
    → AllByRecursion P (drop n (map unpack xs)) → AllByRecursion Q (drop n xs) → AllByRecursion R (drop n xs)
all_can unpack P Q R one zero [] h q = tt
all_can unpack P Q R one zero (x ∷ xs) h q = (one x h.0 q.0, all_can unpack P Q R one zero xs h.1 q.1)
all_can unpack P Q R one (suc n) [] h q = tt
all_can unpack P Q R one (suc n) (x ∷ xs) h q = all_can unpack P Q R one n xs h q

all_same : {A : Type 0} (xs : List A) → AllByRecursion (λ x. x ≡ x) xs
all_same [] = tt
all_same (x ∷ xs) = (refl, all_same xs)

-- what comes after the run can be moved
pub rest_can : (c : RunCounts) (p : Parts) → IsPacked p → AreAfter c.to c.len (flat p) → CanShiftRest c p
    → CanShift c.to c.to c.until p
rest_can c p packed after h =
    let a = c.to in
    let b = c.until in
    record {
      statements =
          all_can unpacked_statement (IsAfterStatement (count_of a) c.len) (IsSmallStatement a.at)
          (CanShiftStatement a b) (statement_can c.len a b h.short h.grow) a.statements p.statements.packed.items
          (subst (λ (es : List Statement). AllByRecursion (IsAfterStatement (count_of a) c.len) (drop a.statements es))
          (all_packed unpacked_statement raise_statement p.statements packed.statements) after.statements) h.statements;
      keys = all_can unpacked_key_part (IsAfterKey (count_of a) c.len) (λ k. k ≡ k) (CanShiftKey a b)
          (key_can c.len a b h.short h.grow) a.keys p.keys.packed.items
          (subst (λ (es : List KeyPart). AllByRecursion (IsAfterKey (count_of a) c.len) (drop a.keys es))
          (all_packed unpacked_key_part raise_key p.keys packed.keys) after.keys)
          (all_same (drop a.keys p.keys.packed.items));
      values =
          all_can unpacked_value (IsAfterValue (count_of a) c.len) (IsSmallValue a.at) (CanShiftValue a b)
          (value_can c.len a b h.short h.grow) a.values p.values.packed.items
          (subst (λ (es : List ValueInfo). AllByRecursion (IsAfterValue (count_of a) c.len) (drop a.values es))
          (all_packed unpacked_value raise_value p.values packed.values) after.values) h.values;
    }

-- so the run can be replaced in place
pub in_place : (c : RunCounts) (p fresh : Parts) → AreAfter c.to c.len (flat p) → CanReplace c p fresh
    → IsInPlace c.from c.to c.until p fresh
in_place c p fresh after h = record {
  packed = h.packed;
  fresh_packed = h.fresh_packed;
  is_run = h.is_run;
  can = rest_can c p h.packed after h.can;
  fresh_can = h.fresh_can;
}
