-- The seed that a text gives to the hashers of its maps.
use Rattle.std.specs.Prelude.{ℕ, List, fold}
use Rattle.std.specs.Hash as fed
use Rattle.std.specs.Hash.DefaultHasher as sip
use Rattle.std.specs.Hash.FoldHasher as folding
use Rattle.keep_index_store.specs.declared.seed.Seed.{Seed}

-- the hash of new lines, written to the hasher with which the seed before them begins
abbrev pub seed_after : Seed → List ℕ → Seed
seed_after seed lines =
    record { start = fold folding.write seed.start (fed.u64 (sip.finish (sip.write sip.initial lines))) }

-- the hash of the whole text, written to a fresh hasher
abbrev pub seed_of : List ℕ → Seed
seed_of text = seed_after (record { start = folding.initial }) text
