-- What holds of the edit of a value's text holds of the edit that is given.
--
-- Theorem: `by_value`.
use Rattle.std.proofs.Common.{◌≡◌, ℕ, List, sym, subst}
use Rattle.keep_syntax.specs.Tree.{Value}
use Rattle.keep_path.specs.Path.{Part}
use Rattle.keep_edit_spec.specs.Edits as law
use Rattle.keep_edit_plan.specs.Reading.{IsTextOfValue}

pub by_value : (make : List Part → Value → law.Edit) (path : List Part) (value : List ℕ) (e : law.Edit)
    (P : law.Edit → Type 0) → ((v : Value) → IsTextOfValue value v → P (make path v))
    → ((v : Value) × IsTextOfValue value v × (e ≡ make path v)) → P e
by_value make path value e P h (v, is, same) = subst P (sym same) (h v is)
