-- The facts about all nodes, where a value gives place to another: the nodes in it go, and those in the new one come.
use Rattle.std.specs.Prelude.{◌≡◌, ◌≢◌, ℕ, suc, ◌+◌, ◌-◌, ◌<◌, ◌≤◌, nat_lt, if◌then◌else◌, List, [], ◌++◌, length}
use Rattle.std.specs.Prelude.{take, drop, map, Some, None, slice_index_or}
use Rattle.std.specs.Option.{option_map}
use Rattle.keep_types.specs.declared.node.Kind.{Kind}
use Rattle.keep_types.specs.declared.node.Origin.TheVariants as origin
use Rattle.keep_types.specs.declared.node.NodeInfo.{NodeInfo}
use Rattle.keep_path.specs.NodeInfos.{NodeInfos, no_info, renumbered_origin, with_kind}
use Rattle.keep_path.specs.Path.{Part}

-- what a number is where all from `from` on are moved, as there were `old` and now are `new`
abbrev pub shifted : ℕ → ℕ → ℕ → ℕ → ℕ
shifted from old new n = if nat_lt n from then n else (n + new) - old

-- the list, where so many elements after the first ones give place to others
abbrev pub spliced : {A : Type 0} → ℕ → ℕ → List A → List A → List A
spliced at gone new xs = take at xs ++ (new ++ drop (at + gone) xs)

-- how many values and key parts a document has
pub record Totals : Type 0 where
  pub values : ℕ
  pub keys : ℕ

-- how many it has with one line more, of one key part and with nothing in its value
abbrev pub one_more : Totals → Totals
one_more t = record { values = suc t.values; keys = suc t.keys }

-- ---- the facts about one node

-- the number of its value, or of that of the last keyval that continues from it by dots; and that of the first key part
-- that names it
abbrev pub value_of : NodeInfo → ℕ
value_of i = elim i.origin [
  | origin.Root ↦ 0
  | origin.Value v ↦ v
  | origin.Header s ↦ 0
  | origin.Element s ↦ 0
  | origin.Dotted v ↦ v
  | origin.Through s ↦ 0
  | origin.Tables ↦ 0
]

abbrev pub key_of : NodeInfo → ℕ
key_of i = elim i.key [ Some k ↦ k | None ↦ 0 ]

-- with other numbers of values and of key parts
abbrev pub with_numbers : (ℕ → ℕ) → (ℕ → ℕ) → NodeInfo → NodeInfo
with_numbers value key i = record i {
  key = option_map key i.key;
  origin = renumbered_origin (λ s. s) value i.origin;
}

-- of a node that is not in the value: what comes after the value has other numbers
abbrev pub info_beside : NodeInfo → Totals → Totals → NodeInfo → NodeInfo
info_beside own old new i =
    with_numbers (shifted (suc (value_of own)) old.values new.values) (shifted (suc (key_of own)) old.keys new.keys) i

-- of a node in the new value: alone its values have numbers from 1 on, and its key parts from 0 on
abbrev pub info_inside : NodeInfo → NodeInfo → NodeInfo
info_inside own i = with_numbers (shifted 0 0 (value_of own)) (shifted 0 0 (suc (key_of own))) i

-- ---- all nodes

-- the paths after the one with the number i, `gone` of them, are below it, and no others are
pub record AreBelow (paths : List (List Part)) (i gone : ℕ) : Type 0 where
  pub within : i + gone < length paths
  pub below : (j : ℕ) → i < j → j ≤ i + gone
      → (more : List Part) × (more ≢ []) × (slice_index_or paths j [] ≡ slice_index_or paths i [] ++ more)
  pub others : (j : ℕ) → i + gone < j → j < length paths
      → (more : List Part) → slice_index_or paths j [] ≡ slice_index_or paths i [] ++ more → ⊥

-- With another value, of this kind, at the node i: the `gone` nodes in the old one give place to those in the new one.
-- `inside` are the nodes of the new one alone, its own before those in it.
abbrev pub with_value : NodeInfos → ℕ → ℕ → Totals → Totals → NodeInfos → Kind → NodeInfos
with_value t i gone old new inside k =
    let own = slice_index_or t.infos i no_info in
    record {
      paths = spliced (suc i) gone (map (λ p. slice_index_or t.paths i [] ++ p) (drop 1 inside.paths)) t.paths;
      infos = spliced (suc i) gone
          (map (info_inside own) (drop 1 inside.infos)) (map (info_beside own old new) (with_kind t i k).infos);
    }
