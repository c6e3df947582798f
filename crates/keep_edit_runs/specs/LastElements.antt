-- The last element of each array of tables of which edits of a list append elements.
use Rattle.std.specs.Prelude.{◌≡◌, ◌≢◌, ℕ, List, Option, Some, map, nat_eq}
use Rattle.std.specs.HashMap.{get}
use Rattle.keep_path.specs.Path.{key}
use Rattle.keep_edit_plan.specs.Headers.{key_texts}
use Rattle.keep_edit_runs.specs.SeenPaths.{keys_number}
use Rattle.keep_edit_runs.specs.declared.last_elements.LastElement.{LastElement}
use Rattle.keep_edit_runs.specs.declared.last_elements.LastElements.{LastElements}

-- the element that is kept by a number
abbrev pub last_at : LastElements → ℕ → Option LastElement
last_at kept n = get nat_eq kept.elements n

abbrev pub array_keys : LastElement → List (List ℕ)
array_keys l = key_texts l.keys.now

-- the number that stands for the keys of its array
abbrev pub array_number : LastElement → ℕ
array_number l = keys_number (map key (array_keys l))

-- It is kept by that number, and each other number has what it had.
pub record IsLastKept (old : LastElements) (l : LastElement) (new : LastElements) : Type 0 where
  pub here : last_at new (array_number l) ≡ Some l
  pub others : (n : ℕ) → n ≢ array_number l → last_at new n ≡ last_at old n
