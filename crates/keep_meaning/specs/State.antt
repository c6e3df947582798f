-- The one role that a node stores for those at its path.
use Rattle.std.specs.Prelude.{◌≡◌, List, [], Option, Some, None}
use Rattle.std.specs.List.{list_all}
use Rattle.keep_types.specs.declared.role.Role.{Role}
use Rattle.keep_meaning.specs.Rules.{allows}

-- A state represents roles: it allows what each of them allows. With no state there is no role.
abbrev pub IsState : Option Role → List Role → Type 0
IsState None roles = roles ≡ []
IsState (Some s) roles = (r : Role) → allows s r ≡ list_all (λ e. allows e r) roles
