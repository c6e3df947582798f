-- What holds of a fault.
use Rattle.std.specs.Prelude.{ℕ, IfErr, Result}
use Rattle.keep_syntax.specs.declared.fault.Why.{Why}
use Rattle.keep_rules.specs.declared.definitions.DefineFault.{DefineFault}
use Rattle.keep_rules.specs.declared.definitions.DefineFault.TheVariants.{Refused, Memory}

-- where it is not out of memory, this holds of its key part's number in the document and of its reason
abbrev pub FaultMeets : DefineFault → (ℕ → Why → Type 0) → Type 0
FaultMeets (Refused part why) P = P part why
FaultMeets Memory P = Unit {0}

-- if a key part was refused, this holds of its number and of the reason
abbrev pub IfRefused : {T : Type 0} → Result T DefineFault → (ℕ → Why → Type 0) → Type 0
IfRefused result P = IfErr result (λ fault. FaultMeets fault P)
