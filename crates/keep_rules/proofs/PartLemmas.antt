-- The stored key parts are at most 2 ^ 64 - 1, so a machine word counts them.
--
-- Theorem: `few_keys`.
use Rattle.std.proofs.Common.{◌≤◌, ◌-◌, ◌^◌, length, arith}
use Rattle.keep_syntax_store.specs.declared.parts.Parts.{Parts}
use Rattle.keep_syntax_store.specs.Blocks.{raise_key}
use Rattle.keep_syntax_store.specs.Flat.{flat, unpacked_key_part}
use Rattle.keep_syntax_store.proofs.EntryLaws.{entries_length}

-- a machine word counts them, since a vector has less than 2 ^ 63
pub few_keys : (parts : Parts) → length (flat parts).keys ≤ 2 ^ 64 - 1
few_keys parts =
    let packed = parts.keys.packed in
    omega (arith, packed.ok.0, packed.ok.1, packed.small, entries_length unpacked_key_part raise_key parts.keys)
