-- The keys of a path, taken one by one.
--
-- Theorems: `index_there`: steps with an index among them are no keys; `no_keys`: a text whose only path has an index
-- is that of no keys.
use Rattle.std.proofs.Common.{◌≡◌, ℕ, List, [], ◌∷◌, ◌++◌, map, Option, None, subst, sym, Vec, Global, String}
use Rattle.keep_path.specs.Path.{Part, key, index}
use Rattle.keep_path.specs.PathText.{AreKeys}
use Rattle.keep_cli.specs.EditWords.{IsKeysIn, IsKeysText, IsOnlyPath}

abbrev pub as_path : List (List ℕ) → List Part
as_path keys = map (λ text. key text) keys

pub index_there : (keys : List (List ℕ)) (n : ℕ) (rest : List Part) → AreKeys (as_path keys ++ index n ∷ rest) → ⊥
index_there [] n rest h = h
index_there (k ∷ ks) n rest h = index_there ks n rest h

are_keys : (keys : List (List ℕ)) → AreKeys (as_path keys)
are_keys [] = tt
are_keys (k ∷ ks) = are_keys ks

-- a text whose only path has an index is that of no keys
pub no_keys : (text : List ℕ) (path : List Part) (found : Option (Vec (String Global) Global)) → found ≡ None
    → IsOnlyPath text path → IsKeysIn path found → (keys : List (List ℕ)) × IsKeysText text keys → ⊥
no_keys text path found none only there (keys, is) =
    let bad : AreKeys path → ⊥ = subst (λ (o : Option (Vec (String Global) Global)). IsKeysIn path o) none there in
    bad (subst AreKeys (sym (only.1 (as_path keys) is)) (are_keys keys))
