-- Of the values of Wide's grammar, the test of a value's profile takes exactly those of that profile's grammar.
--
-- Theorem: `profile_tested`.
use Rattle.std.proofs.Common.{◌≡◌, true, Result, Ok, Err, refl, sym, ap, subst, arith}
use Rattle.std.specs.Prelude.{is_ok}
use Rattle.keep_types.specs.declared.leaf.Profile.{Profile}
use Rattle.keep_types.specs.declared.leaf.Profile.TheVariants.{Strict, Wide}
use Rattle.keep_syntax.specs.Tree.{Value, value_text, value_depth}
use Rattle.keep_syntax.specs.Grammar.{IsValue}
use Rattle.keep_syntax.specs.Reading.{read_one_value}
use Rattle.keep_syntax.specs.Profiles.{is_strict, is_allowed_in}
use Rattle.keep_syntax.specs.Laws.{ProfileIsTested}
use Rattle.keep_syntax.proofs.WholeLaws.{value_found, value_read, one_value}
use Rattle.keep_syntax.proofs.WiderLaws.{value_wider}

ok_value : {A E : Type 0} (r : Result A E) → is_ok r ≡ true → (x : A) × (r ≡ Ok x)
ok_value (Ok x) h = (x, refl)
ok_value (Err e) h = absurd cc

strict_found : (v : Value) → IsValue Wide v → is_strict v ≡ true → IsValue Strict v
strict_found v h e =
    let (w, is) = ok_value (read_one_value Strict (value_depth v) (value_text v)) e in
    let r = value_found Strict (value_depth v) (value_text v) w is in
    subst (λ (x : Value). IsValue Strict x) (one_value Wide w v (value_wider w r.valid) h (sym r.spelled)) r.valid

strict_taken : (v : Value) → IsValue Strict v → is_strict v ≡ true
strict_taken v h =
    ap is_ok (value_read Strict (value_depth v) (value_text v) v
    (record { valid = h; spelled = refl; shallow = omega arith }))

pub profile_tested : ProfileIsTested
profile_tested Strict v h = (strict_found v h, strict_taken v)
profile_tested Wide v h = ((λ e. h), (λ k. refl))

-- a value that the test takes is one of the profile's grammar
pub allowed_value : (profile : Profile) (v : Value) → IsValue Wide v → is_allowed_in profile v ≡ true
    → IsValue profile v
allowed_value profile v h e = (profile_tested profile v h).0 e

-- the test takes each value of the profile's grammar
pub value_allowed : (profile : Profile) (v : Value) → IsValue profile v → is_allowed_in profile v ≡ true
value_allowed Strict v h = strict_taken v h
value_allowed Wide v h = refl
