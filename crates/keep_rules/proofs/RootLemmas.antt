-- The root alone represents an empty list of mentions, and the fault with a number is at the place of its key part.
--
-- Theorems: `rooted_represents`: the root; `fault_placed`: the fault.
use Rattle.std.proofs.Common.{ℕ, ◌<◌, List, [], ◌∷◌, length, refl, sym, ap, subst, arith, length-append}
use Rattle.keep_syntax.specs.declared.fault.ReadFault.{ReadFault}
use Rattle.keep_syntax.specs.declared.fault.ReadFault.TheVariants as faults
use Rattle.keep_syntax.specs.declared.fault.Why.{Why}
use Rattle.keep_types.specs.declared.syntax.KeyPart.{KeyPart}
use Rattle.keep_rules.specs.declared.definitions.DefineFault.{DefineFault}
use Rattle.keep_rules.specs.declared.definitions.DefineFault.TheVariants as fault
use Rattle.keep_meaning.specs.Faults.{IsFirstFaultAt}
use Rattle.keep_meaning.specs.Rules.{Mark, IsFirstFaulty}
use Rattle.keep_rules.specs.Represents.{Represents}
use Rattle.keep_rules.specs.DefineFaults.{FaultMeets}
use Rattle.keep_index_store.specs.Tree.{TrieInfos, IsRoot}
use Rattle.keep_index_store.specs.Trie.{TrieNode, Holding}
use Rattle.keep_rules.specs.ReadDocuments.{IsFaultAt}
use Rattle.keep_rules.proofs.ReadLemmas.{root_represents}

pub rooted_represents : (nodes : TrieInfos) (h : Holding) → IsRoot h nodes → Represents nodes.trie [] []
rooted_represents nodes h r =
    subst (λ (ts : List TrieNode). Represents ts [] []) (sym r.alone) (root_represents r.root r.state)

-- ---- faults

pub first_low : (ms : List Mark) (n : ℕ) (why : Why) → IsFirstFaulty ms n why → n < length ms
first_low ms n why first =
    omega (arith, ap length first.here, length-append first.before (first.mark ∷ first.after), first.number)

-- the fault with that number is at the place of its key part
pub fault_placed : (parts : List KeyPart) (ms : List Mark) (P : ReadFault → Type 0) (g : DefineFault) (r : ReadFault)
    → IsFaultAt parts g r → FaultMeets g (λ n w. IsFirstFaulty ms n w)
    → ((at : ℕ) (why : Why) → IsFirstFaultAt ms parts at why → P (faults.Define at why)) → P faults.Memory → P r
fault_placed parts ms P (fault.Refused n why) r at first define memory =
    subst P (sym at.2) (define at.0.span.start why
    (record { number = n; part = at.0; first = first; occurs = at.1; here = refl }))
fault_placed parts ms P fault.Memory r at first define memory = subst P (sym at) memory
