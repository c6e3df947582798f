use Rattle.std.proofs.Common.{◌≡◌, ◌++◌, ◌≤◌, length, take, string_bytes, string_capacity}
use denote.Text.{Utf8}
use denote.Shadow.{shadow}
use Rattle.std.specs.List.{flat_map}
use Rattle.keep_token.specs.Encoded.{encoded_byte}
use Rattle.keep_token.proofs.encode.push_escaped.Given as goal

abbrev pub invariant-rest : goal.invariant-rest
invariant-rest l =
    shadow (Utf8 l.rest)
    × (string_bytes l.out ++ flat_map encoded_byte l.rest ≡ string_bytes l.initial.out
    ++ flat_map encoded_byte l.fn.text)
    × (take (length (string_bytes l.initial.out)) (string_bytes l.out) ≡ string_bytes l.initial.out)
    × (string_capacity l.initial.out ≤ string_capacity l.out)

abbrev pub decreases-rest : goal.decreases-rest
decreases-rest l = length l.rest
