-- Joining facts in place gives the joined facts.
--
-- Theorems: `joined_in_place`: the form that is written in place holds the joined facts; `info_joined`: as callers see
-- them, the joined facts are the facts of both, joined.
use Rattle.std.proofs.Common.{◌≡◌, ℕ, ◌+◌, ◌-◌, ◌^◌, Bool, true, false, cond, ◌&&◌, ◌==◌, Option, Some, None, refl}
use Rattle.std.proofs.Common.{arith}
use Rattle.std.proofs.lemmas.Bool.Decides.{nat_tests}
use Rattle.std.specs.Prelude.{min, nat_le}
use Rattle.keep_types.specs.declared.role.Role.{Role}
use Rattle.keep_index_store.specs.declared.facts.NodeFacts.{NodeFacts}
use Rattle.keep_index_store.specs.declared.packed.Form.TheVariants.{Packed}
use Rattle.keep_index_store.specs.Packed.{facts_in, short_facts, joined_short}
use Rattle.keep_index_store.specs.Facts.{later_kind, rank, origin_of, joined_facts, joined_info, info_of}

later_origin : (old more : NodeFacts) (later : Bool)
    → (cond later (short_facts more) (short_facts old)).origin ≡ (cond later more old).origin
later_origin old more true = refl
later_origin old more false = refl

later_number : (old more : NodeFacts) (later : Bool)
    → (cond later (short_facts more) (short_facts old)).number ≡ (cond later more old).number
later_number old more true = refl
later_number old more false = refl

-- the form that is written in place holds the joined facts
pub joined_in_place : (old more : NodeFacts) (role : Option Role)
    → facts_in (Packed role (later_kind old.kind more.kind) (joined_short (short_facts old) (short_facts more)))
    ≡ record (joined_facts old more) { role = role }
joined_in_place old more role =
    let later : Bool = nat_le (rank (origin_of old.origin old.number)) (rank (origin_of more.origin more.number)) in
    rw (later_origin old more later, later_number old more later) refl

-- ---- the joined facts as the callers of the library see them

marks_joined : (n m : ℕ) → (min (n + m) (2 ^ 64 - 1) == 0) ≡ ((n == 0) && (m == 0))
marks_joined n m = grind (arith, nat_tests)

key_joined : (old more : NodeFacts)
    → (info_of (joined_facts old more)).key ≡ (joined_info (info_of old) (info_of more)).key
key_joined old more =
    rw marks_joined (elim (old.marks == 0) as
    (λ b. cond (b && (more.marks == 0)) None (Some (cond b more.key old.key))
    ≡ cond b (cond (more.marks == 0) None (Some more.key)) (cond b None (Some old.key))) [
      | true ↦ refl
      | false ↦ refl
    ])

origin_joined : (old more : NodeFacts) (later : Bool)
    → (info_of (cond later more old)).origin ≡ cond later (info_of more).origin (info_of old).origin
origin_joined old more true = refl
origin_joined old more false = refl

pub info_joined : (old more : NodeFacts) → info_of (joined_facts old more) ≡ joined_info (info_of old) (info_of more)
info_joined old more =
    let later : Bool = nat_le (rank (origin_of old.origin old.number)) (rank (origin_of more.origin more.number)) in
    rw (key_joined old more, origin_joined old more later) refl
