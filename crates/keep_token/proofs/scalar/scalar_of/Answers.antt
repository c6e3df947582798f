-- Each kind of string by its marks, and else the word.
use Rattle.std.proofs.Common.{◌≡◌, ℕ, Bool, true, false, cond, ◌==◌, List, take, refl, sym, ap, ◌∙◌, arith}
use Rattle.std.proofs.lemmas.Bool.Decides.{nat_tests}
use Rattle.std.specs.Prelude.{Option, Some, None, Result, Ok, Err, MatchResult}
use Rattle.keep_token.specs.declared.fault.LeafFault.{LeafFault}
use Rattle.keep_types.specs.declared.leaf.Profile.{Profile}
use Rattle.keep_types.specs.declared.leaf.Leaf.{Leaf}
use Rattle.keep_types.specs.declared.leaf.Leaf.TheVariants as leaf
use Rattle.keep_token.specs.Leaves.{word_len}
use Rattle.keep_token.specs.Pieces.{first, basic_at, literal_at, ml_basic_at, ml_literal_at}
use Rattle.keep_token.specs.Scanning.{scalar_at, are_three, with_kind, with_len}
use Rattle.keep_token.specs.Words.{word_leaf}
use Rattle.keep_token.proofs.scalar.scalar_of.Goals as goal

by_tests : (profile : Profile) (t : List ℕ) (a b d e : Bool) → a ≡ are_three 0x22 t → b ≡ are_three 0x27 t
    → d ≡ (first t == 0x22) → e ≡ (first t == 0x27)
    → scalar_at profile t ≡ cond a (with_kind leaf.MlBasic (ml_basic_at profile t)) (cond b
    (with_kind leaf.MlLiteral (ml_literal_at t))
    (cond d (with_kind leaf.Basic (basic_at profile t))
    (cond e (with_kind leaf.Literal (literal_at t)) (with_len (word_leaf profile (take (word_len t) t)) (word_len t)))))
unfolding scalar_at
by_tests profile t a b d e f g h k = rw (f, g, h, k) refl

is_at : (r s m : ℕ) → r ≡ s → r ≡ m → true ≡ (s == m)
is_at r s m e f = grind (arith, nat_tests)

not_at : (r s m : ℕ) → r ≡ s → (r ≡ m → ⊥) → false ≡ (s == m)
not_at r s m e f = grind (arith, nat_tests)

string_value : (l : Leaf) (o : Option ℕ) (p : Option (Leaf × ℕ)) (found : Result ℕ LeafFault)
    (r : Result (Leaf × ℕ) LeafFault) → p ≡ with_kind l o → MatchResult found (λ n. r ≡ Ok (l, n)) (λ f. r ≡ Err f)
    → MatchResult found (λ n. o ≡ Some n) (λ f. o ≡ None) → MatchResult r (λ x. p ≡ Some x) (λ f. p ≡ None)
string_value l o p (Ok n) r e k h = rw k (e ∙ ap (with_kind l) h)
string_value l o p (Err f) r e k h = rw k (e ∙ ap (with_kind l) h)

word_value : (profile : Profile) (t : List ℕ) (p : Option (Leaf × ℕ)) (n : ℕ) (o : Option Leaf)
    → p ≡ with_len (word_leaf profile (take (word_len t) t)) (word_len t) → n ≡ word_len t
    → o ≡ word_leaf profile (take n t) → p ≡ with_len o n
word_value profile t p n o e f g = rw (g, f) e

pub returns-then-begins_with_three-clause-value : goal.returns-then-begins_with_three-clause-value
returns-then-begins_with_three-clause-value c =
    let t = c.args.bytes.now in
    let kind =
    by_tests c.args.profile t true (are_three 0x27 t) (first t == 0x22) (first t == 0x27)
    (sym c.if-begins_with_three.true ∙ c.begins_with_three.ensures) refl refl refl in
    string_value leaf.MlBasic (ml_basic_at c.args.profile t) _ _ _ kind c.string_of.ensures c.ml_basic_len.ensures.found

pub returns-then-begins_with_three-2-clause-value : goal.returns-then-begins_with_three-2-clause-value
returns-then-begins_with_three-2-clause-value c =
    let t = c.args.bytes.now in
    let kind =
    by_tests c.args.profile t false true (first t == 0x22) (first t == 0x27)
    (sym c.if-begins_with_three.false ∙ c.begins_with_three.ensures)
    (sym c.if-begins_with_three-2.true ∙ c.begins_with_three-2.ensures) refl refl in
    string_value leaf.MlLiteral (ml_literal_at t) _ _ _ kind c.string_of-then-begins_with_three-2.ensures
    c.ml_literal_len.ensures.found

pub returns-then-first-eq34-clause-value : goal.returns-then-first-eq34-clause-value
returns-then-first-eq34-clause-value c =
    let t = c.args.bytes.now in
    let kind =
    by_tests c.args.profile t false false true (first t == 0x27)
    (sym c.if-begins_with_three.false ∙ c.begins_with_three.ensures)
    (sym c.if-begins_with_three-2.false ∙ c.begins_with_three-2.ensures)
    (is_at _ (first t) 0x22 c.byte_at-first.ensures c.if-first-eq34.true) refl in
    string_value leaf.Basic (basic_at c.args.profile t) _ _ _ kind c.string_of-then-first-eq34.ensures
    c.basic_len.ensures.found

pub returns-then-first-eq39-clause-value : goal.returns-then-first-eq39-clause-value
returns-then-first-eq39-clause-value c =
    let t = c.args.bytes.now in
    let kind =
    by_tests c.args.profile t false false false true (sym c.if-begins_with_three.false ∙ c.begins_with_three.ensures)
    (sym c.if-begins_with_three-2.false ∙ c.begins_with_three-2.ensures)
    (not_at _ (first t) 0x22 c.byte_at-first.ensures c.if-first-eq34.false)
    (is_at _ (first t) 0x27 c.byte_at-first.ensures c.if-first-eq39.true) in
    string_value leaf.Literal (literal_at t) _ _ _ kind c.string_of-then-first-eq39.ensures c.literal_len.ensures.found

pub returns-in-Some-clause-value : goal.returns-in-Some-clause-value
returns-in-Some-clause-value c =
    let t = c.args.bytes.now in
    let kind =
    by_tests c.args.profile t false false false false (sym c.if-begins_with_three.false ∙ c.begins_with_three.ensures)
    (sym c.if-begins_with_three-2.false ∙ c.begins_with_three-2.ensures)
    (not_at _ (first t) 0x22 c.byte_at-first.ensures c.if-first-eq34.false)
    (not_at _ (first t) 0x27 c.byte_at-first.ensures c.if-first-eq39.false) in
    word_value c.args.profile t _ c.word_len-len.result c.word_leaf.result kind c.word_len-len.ensures.len
    c.word_leaf.ensures ∙ ap (λ o. with_len o c.word_len-len.result) c.in-Some.is

pub returns-in-None-clause-value : goal.returns-in-None-clause-value
returns-in-None-clause-value c =
    let t = c.args.bytes.now in
    let kind =
    by_tests c.args.profile t false false false false (sym c.if-begins_with_three.false ∙ c.begins_with_three.ensures)
    (sym c.if-begins_with_three-2.false ∙ c.begins_with_three-2.ensures)
    (not_at _ (first t) 0x22 c.byte_at-first.ensures c.if-first-eq34.false)
    (not_at _ (first t) 0x27 c.byte_at-first.ensures c.if-first-eq39.false) in
    word_value c.args.profile t _ c.word_len-len.result c.word_leaf.result kind c.word_len-len.ensures.len
    c.word_leaf.ensures ∙ ap (λ o. with_len o c.word_len-len.result) c.in-None.is
