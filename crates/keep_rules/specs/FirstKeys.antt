-- Where the keys of values begin among the key parts of the document.
use Rattle.std.specs.Prelude.{◌≡◌, ℕ, ◌+◌, List, ◌∷◌}
use Rattle.keep_types.specs.declared.syntax.ValueInfo.{ValueInfo}
use Rattle.keep_rules.specs.NestedValues.{NestedValue}
use Rattle.keep_rules.specs.NestedReads.{nested_keys, HasKeys}

-- each has its key parts after those of the values before it, the first from that number on
abbrev pub FirstKeys : ℕ → List NestedValue → List ValueInfo → Type 0
FirstKeys first (t ∷ ts) (info ∷ infos) =
    (info.first_key ≡ first) × HasKeys t × FirstKeys (first + nested_keys t) ts infos
FirstKeys first _ _ = Unit {0}
