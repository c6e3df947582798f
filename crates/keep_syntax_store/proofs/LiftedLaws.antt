-- What was lifted after one count and is moved to after another is as if lifted after that; and counts with the same
-- numbers are the same.
--
-- Theorems: `moves_all`: if this is so of each thing, it is so of a list; `moves_statements`: it is so of
-- statements; `same_count`: counts with the same numbers are the same.
use Rattle.std.proofs.Common.{◌≡◌, ℕ, ◌+◌, List, [], ◌∷◌, map, refl, ap, ◌∙◌, arith, Option, Some, None}
use Rattle.keep_types.specs.declared.syntax.Span.{Span}
use Rattle.keep_types.specs.declared.syntax.Owner.{Owner}
use Rattle.keep_types.specs.declared.syntax.Owner.TheVariants as owner
use Rattle.keep_syntax_store.specs.Counts.{Count}
use Rattle.keep_syntax_store.specs.Lifted.{origin, plus, lift_there, lift_span, lift_owner, lift_key, lift_statement}
use Rattle.keep_syntax_store.specs.Lifted.{lift_value, moved, moved_there, moved_span, moved_owner, moved_key}
use Rattle.keep_syntax_store.specs.Lifted.{moved_statement, moved_value}

-- ---- counts

abbrev pub count_with : ℕ → ℕ → ℕ → ℕ → Count
count_with at statements parts values = record { at = at; statements = statements; parts = parts; values = values }

pub count_is : {a a' s s' p p' v v' : ℕ} → a ≡ a' → s ≡ s' → p ≡ p' → v ≡ v'
    → count_with a s p v ≡ count_with a' s' p' v'
count_is a s p v = cc

pub same_count : (a b : Count) → a.at ≡ b.at → a.statements ≡ b.statements → a.parts ≡ b.parts → a.values ≡ b.values
    → a ≡ b
same_count a b e1 e2 e3 e4 =
    ap (λ (x : ℕ). record a { at = x }) e1 ∙ ap (λ (x : ℕ). record a { at = b.at; statements = x }) e2
    ∙ ap (λ (x : ℕ). record b { parts = x; values = a.values }) e3 ∙ ap (λ (x : ℕ). record b { values = x }) e4

pub plus-origin : (c : Count) → plus c origin ≡ c
plus-origin c = count_is (omega arith) (omega arith) (omega arith) (omega arith)

-- ---- moving undoes a lift and lifts anew

abbrev pub Moves : {A : Type 0} → (Count → A → A) → (Count → Count → A → A) → Type 0
Moves {A} lift move = (a b : Count) (x : A) → move a b (lift a x) ≡ lift b x

pub moves_all : {A : Type 0} (lift : Count → A → A) (move : Count → Count → A → A) → Moves lift move
    → (a b : Count) (xs : List A) → map (move a b) (map (lift a) xs) ≡ map (lift b) xs
moves_all lift move h a b [] = refl
moves_all lift move h a b (x ∷ xs) = let e = h a b x in let f = moves_all lift move h a b xs in cc

-- ---- of statements, key parts and values

moved_back : (old new n : ℕ) → moved old new (old + n) ≡ new + n
moved_back old new n = omega arith

back_there : (old new : ℕ) (o : Option ℕ) → moved_there old new (lift_there old o) ≡ lift_there new o
back_there old new None = refl
back_there old new (Some n) = ap Some (moved_back old new n)

back_span : (old new : ℕ) (s : Span) → moved_span old new (lift_span old s) ≡ lift_span new s
back_span old new s = let a = moved_back old new s.start in let b = moved_back old new s.end in cc

back_owner : (a b : Count) (o : Owner) → moved_owner a b (lift_owner a o) ≡ lift_owner b o
back_owner a b (owner.Line n) = ap owner.Line (moved_back a.statements b.statements n)
back_owner a b (owner.Inline n) = ap owner.Inline (moved_back a.values b.values n)
back_owner a b (owner.Item n) = ap owner.Item (moved_back a.values b.values n)

pub moves_keys : Moves lift_key moved_key
moves_keys a b k = let s = back_span a.at b.at k.span in cc

pub moves_statements : Moves lift_statement moved_statement
moves_statements a b s =
    let x = back_span a.at b.at s.span in
    let y = back_span a.at b.at s.line in
    let z = moved_back a.parts b.parts s.first_key in let w = back_there a.values b.values s.value in cc

pub moves_values : Moves lift_value moved_value
moves_values a b v =
    let x = back_span a.at b.at v.span in
    let y = back_span a.at b.at v.whole in
    let z = back_owner a b v.owner in let u = moved_back a.parts b.parts v.first_key in
    let s = back_there a.at b.at v.comma_before in let t = back_there a.at b.at v.comma_after in cc
