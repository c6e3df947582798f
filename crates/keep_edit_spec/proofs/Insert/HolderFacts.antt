-- An array of tables is neither an array nor an inline table.
--
-- Theorem: `no_bracket_element`.
use Rattle.std.proofs.Common.{◌≡◌, true, List, refl}
use Rattle.keep_path.specs.Path.{Part}
use Rattle.keep_meaning.specs.Marks.{MentionKind, element, Mention}
use Rattle.keep_meaning.specs.Nodes.{has, is_element}
use Rattle.keep_edit_spec.specs.Look.{is_bracket_at}
use Rattle.keep_edit_spec.proofs.Common.Runs.{Rules, exclusive, solid}
use Rattle.keep_edit_spec.proofs.Common.Doubles.{has_some}
use Rattle.keep_edit_spec.proofs.Common.EntryDepths.{alone_of_bracket}
use Rattle.keep_edit_spec.proofs.Remove.RemoveRefusal.{IsShared, no_both}

element_solid : (a : MentionKind) → is_element a ≡ true → solid a ≡ true
element_solid element e = refl
element_solid other e = absurd cc

element_many : (a : MentionKind) → is_element a ≡ true → exclusive a ≡ true → ⊥
element_many element e g = absurd cc
element_many other e g = absurd cc

shared_element : IsShared is_element
shared_element = record { firm = element_solid; many = element_many }

-- an array of tables is neither an array nor an inline table
pub no_bracket_element : (path : List Part) (ms : List Mention) → Rules ms → has is_element path ms ≡ true
    → is_bracket_at ms path ≡ true → ⊥
no_bracket_element path ms rules e b =
    no_both is_element shared_element path ms (has_some is_element path ms e) (alone_of_bracket path ms b) rules
