-- What obeys the rules is refused only where memory runs out.
--
-- Theorems: `refused_memory`: a document; `value_refused_memory`: a value alone.
use Rattle.std.proofs.Common.{◌≡◌, ℕ, refl}
use Rattle.keep_syntax.specs.declared.fault.ReadFault.{ReadFault}
use Rattle.keep_syntax.specs.declared.fault.ReadFault.TheVariants.{Utf8, Syntax, TooDeep, Define, Memory}
use Rattle.keep_syntax.specs.declared.fault.Why.{Why}
use Rattle.keep_syntax.specs.Tree.{Value, Document}
use Rattle.keep_meaning.specs.Faults.{IsFaultIn, IsFaultInValue}
use Rattle.keep_meaning.specs.Marks.{marks}
use Rattle.keep_meaning.specs.Meaning.{mentions_in, mentions_of_value}
use Rattle.keep_rules.specs.ReadDocuments.{ValueObeys, IsRefusal, IsValueRefusal}
use Rattle.keep_meaning.specs.Rules.{ObeysRules}
use Rattle.keep_meaning.proofs.Shared.{not_both}

-- a document with a fault does not obey the rules
pub fault_breaks : (d : Document) (at : ℕ) (why : Why) → IsFaultIn d at why → ObeysRules (marks (mentions_in d)) → ⊥
fault_breaks d at why fault obeys = not_both (marks (mentions_in d)) fault.number why fault.first obeys

pub value_fault_breaks : (v : Value) (at : ℕ) (why : Why) → IsFaultInValue v at why → ValueObeys v → ⊥
value_fault_breaks v at why fault obeys = not_both (marks (mentions_of_value v)) fault.number why fault.first obeys

pub refused_memory : (d : Document) (r : ReadFault) → IsRefusal d r → ObeysRules (marks (mentions_in d)) → r ≡ Memory
refused_memory d (Define at why) refused obeys = absurd (fault_breaks d at why refused obeys)
refused_memory d Memory refused obeys = refl
refused_memory d (Utf8 at) refused obeys = absurd refused
refused_memory d (Syntax at what) refused obeys = absurd refused
refused_memory d (TooDeep at) refused obeys = absurd refused

pub value_refused_memory : (v : Value) (r : ReadFault) → IsValueRefusal v r → ValueObeys v → r ≡ Memory
value_refused_memory v (Define at why) refused obeys = absurd (value_fault_breaks v at why refused obeys)
value_refused_memory v Memory refused obeys = refl
value_refused_memory v (Utf8 at) refused obeys = absurd refused
value_refused_memory v (Syntax at what) refused obeys = absurd refused
value_refused_memory v (TooDeep at) refused obeys = absurd refused
