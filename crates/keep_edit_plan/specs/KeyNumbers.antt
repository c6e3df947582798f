-- Numbers that stand for the keys of an inline table, by which a key is known not to be there.
use Rattle.std.specs.Prelude.{ℕ, ◌==◌, IfSome, IsTrue, List}
use Rattle.std.specs.Hash.FoldHasher.{finish, initial, write}
use Rattle.std.specs.HashSet.{HashSet, contains_by}
use Rattle.keep_edit_plan.specs.declared.open_value.key_numbers.KeyNumbers.{KeyNumbers}

-- A key with another number is another key.
abbrev pub number_of : List ℕ → ℕ
number_of key = finish (write initial key)

-- the number of the key is one of these
abbrev pub HasNumber : {S : Type 0} → HashSet ℕ S → List ℕ → Type 0
HasNumber numbers key = IsTrue (contains_by (λ n. number_of key == n) numbers)

-- The number of the key is one of those, if they are known.
abbrev pub HasKey : KeyNumbers → List ℕ → Type 0
HasKey keys key = IfSome keys.known (λ numbers. HasNumber numbers key)
