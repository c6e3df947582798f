-- What holds of entries that are moved from after one count to after another.
use Rattle.std.specs.Prelude.{◌≡◌, ℕ, ◌<◌, ◌^◌}
use Rattle.keep_syntax_store.specs.declared.moves.Counts.{Counts}
use Rattle.keep_syntax_store.specs.Blocks.{raise_place, step}
use Rattle.keep_syntax_store.specs.Held.{IsHeld}
use Rattle.keep_syntax_store.specs.Rereading.{nothing}

-- From one count to another only places move, and the end of a text of `len` bytes is held where it moves.
pub record OnlyPlacesMove (len : ℕ) (old new : Counts) : Type 0 where
  pub statements : old.statements ≡ new.statements
  pub keys : old.keys ≡ new.keys
  pub values : old.values ≡ new.values
  pub end : IsHeld old.at new.at len
  pub at : old.at < 2 ^ 64

-- From nothing to nothing an entry stays as it is. Where only places move, an entry after the old count is moved by
-- moving its places on, whether they were moved on before or not.
pub record MovesRight {E : Type 0} (After : Counts → ℕ → E → Type 0) (moved : Counts → Counts → E → E)
    (raise : ℕ → E → E) : Type 0 where
  pub stays : (e : E) → moved nothing nothing e ≡ e
  pub once : (len : ℕ) (old new : Counts) (e : E) → OnlyPlacesMove len old new → After old len e
      → raise (step old.at new.at) e ≡ moved old new e
  pub again : (by len : ℕ) (old new : Counts) (e : E) → OnlyPlacesMove len old new → After old len (raise by e)
      → raise (raise_place (step old.at new.at) by) e ≡ moved old new (raise by e)
