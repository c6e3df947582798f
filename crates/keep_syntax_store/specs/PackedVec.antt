-- What a list of entries stores: those in few bytes and, by their numbers, the others, each moved with its block.
use Rattle.std.specs.Prelude.{◌≡◌, ℕ, ◌+◌, ◌*◌, ◌/◌, ◌≤◌, List, [], ◌++◌, length, map, take, drop, slice_range}
use Rattle.keep_syntax_store.specs.declared.packed_vec.PackedVec.{PackedVec}
use Rattle.keep_syntax_store.specs.declared.packed_vec.TheConstants.{BLOCK}
use Rattle.keep_syntax_store.specs.declared.patch.Patch.{Patch}
use Rattle.keep_syntax_store.specs.Blocks.{in_blocks}
use Rattle.keep_syntax_store.specs.Unfit.{IsFree, with_unfit}

-- its entries, where `unpack` gives the entry that was packed, and `raise` moves the places of one
abbrev pub entries : {E P : Type 0} → (P → E) → (ℕ → E → E) → PackedVec E P → List E
entries unpack raise v = in_blocks raise v.moves.items 0 (with_unfit v.unfit 0 (map unpack v.packed.items))

-- all are packed, and no block is moved
pub record IsAllPacked {E P : Type 0} (v : PackedVec E P) : Type 0 where
  pub packed : v.unfit ≡ []
  pub still : v.moves.items ≡ []

-- the entries from a number up to another are packed, and in one block
pub record IsPackedRun {E P : Type 0} (from to : ℕ) (v : PackedVec E P) : Type 0 where
  pub order : from ≤ to
  pub within : to ≤ length v.packed.items
  pub block : to ≤ (from / BLOCK + 1) * BLOCK
  pub free : IsFree from to v.unfit

-- what is not in few bytes, and how blocks are moved, is the same
pub record HasSameRest {E P : Type 0} (v w : PackedVec E P) : Type 0 where
  pub unfit : w.unfit ≡ v.unfit
  pub moves : w.moves.items ≡ v.moves.items

-- ---- entries that change places with others

-- the entries of a patch are in the place of as many
pub record IsWithin {E P : Type 0} (v : PackedVec E P) (c : Patch P) : Type 0 where
  pub within : c.from + length c.run.items ≤ length v.packed.items

abbrev pub with_run : {P : Type 0} → List P → ℕ → List P → List P
with_run packed from run = take from packed ++ (run ++ drop (from + length run) packed)

-- the entries and the moves of a list and of a patch changed places
pub record IsPatched {E P : Type 0} (v : PackedVec E P) (c : Patch P) (w : PackedVec E P) (d : Patch P)
    : Type 0 where
  pub packed : w.packed.items ≡ with_run v.packed.items c.from c.run.items
  pub run : d.run.items ≡ slice_range v.packed.items c.from (c.from + length c.run.items)
  pub from : d.from ≡ c.from
  pub moves : w.moves.items ≡ c.moves.items
  pub back : d.moves.items ≡ v.moves.items
  pub unfit : w.unfit ≡ v.unfit

-- a run of entries, as many as are to be in its place
pub record IsRunOf {E P : Type 0} (from to count : ℕ) (v : PackedVec E P) : Type 0 where
  pub size : count + from ≡ to
  pub within : to ≤ length v.packed.items

-- the list has these entries once it changed places with the patch
pub record Gives {E P : Type 0} (unpack : P → E) (raise : ℕ → E → E) (v : PackedVec E P) (c : Patch P) (es : List E)
    : Type 0 where
  pub fits : IsWithin v c
  pub gives
      : in_blocks raise c.moves.items 0 (with_unfit v.unfit 0 (map unpack (with_run v.packed.items c.from c.run.items)))
      ≡ es
