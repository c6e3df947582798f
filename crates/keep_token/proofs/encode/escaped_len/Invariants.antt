use Rattle.std.proofs.Common.{◌≡◌, ◌-◌, ◌^◌, length, take, min}
use Rattle.std.specs.List.{flat_map}
use Rattle.keep_token.specs.Encoded.{encoded_byte}
use Rattle.keep_token.proofs.encode.escaped_len.Given as goal

abbrev pub invariant-loop-byte : goal.invariant-loop-byte
invariant-loop-byte l = l.len ≡ min (length (flat_map encoded_byte (take l.byte-index l.bytes))) (2 ^ 64 - 1)
