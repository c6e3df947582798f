-- The definition rules, as a table over pairs of marks. (TOML 1.0.0: Keys, Table, Inline Table, Array of Tables. That
-- dotted keys may pass a table that is there only because a header went through it is this project's own choice.)
use Rattle.std.specs.Prelude.{◌≡◌, ℕ, Bool, true, false, IsTrue, List, ◌∷◌, ◌++◌, length, AllPairs, Any}
use Rattle.keep_types.specs.declared.role.Role.{Role}
use Rattle.keep_types.specs.declared.role.Role.TheVariants.{Through, Past, Define, Element, Dotted, Value}
use Rattle.keep_syntax.specs.declared.fault.Why.{Why}
use Rattle.keep_syntax.specs.declared.fault.Why.TheVariants.{NotATable, DefinedTwice, NotAnArray, NotByDots}
use Rattle.keep_syntax.specs.declared.fault.Why.TheVariants.{DuplicateKey}
use Rattle.keep_path.specs.Path.{Part}

-- A mark: a key part with its role and its full path.
pub record Mark : Type 0 where
  pub role : Role
  pub path : List Part

-- the table: which later role an earlier one allows at the same path
abbrev pub allows : Role → Role → Bool
allows Through Through = true
allows Through Define = true
allows Through Dotted = true
allows Define Through = true
allows Element Element = true
allows Element Past = true
allows Past Element = true
allows Past Past = true
allows Dotted Through = true
allows Dotted Dotted = true
allows _ _ = false

-- why a mark of this role is refused. (No `Past` mark is the first faulty one.)
abbrev pub why_of : Role → Why
why_of Through = NotATable
why_of Past = NotAnArray
why_of Define = DefinedTwice
why_of Element = NotAnArray
why_of Dotted = NotByDots
why_of Value = DuplicateKey

-- the earlier mark allows the later one
abbrev pub Allows : Mark → Mark → Type 0
Allows earlier later = earlier.path ≡ later.path → IsTrue (allows earlier.role later.role)

-- of any two marks at one path, the earlier allows the later
abbrev pub ObeysRules : List Mark → Type 0
ObeysRules marks = AllPairs Allows marks

-- some earlier mark does not allow this one
abbrev pub IsRefused : List Mark → Mark → Type 0
IsRefused earlier mark = Any (λ e. (e.path ≡ mark.path) × (allows e.role mark.role ≡ false)) earlier

-- the mark number n is the first faulty one: those before it obey the rules, and one of them does not allow it
pub record IsFirstFaulty (marks : List Mark) (n : ℕ) (why : Why) : Type 0 where
  pub before : List Mark
  pub mark : Mark
  pub after : List Mark
  pub here : marks ≡ before ++ mark ∷ after
  pub number : length before ≡ n
  pub obeys : ObeysRules before
  pub refused : IsRefused before mark
  pub reason : why ≡ why_of mark.role
