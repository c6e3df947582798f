-- The value is what the pieces that are passed give, and the rest of the body is the text of those that are left.
use Rattle.std.proofs.Common.{◌-◌, List, length, drop}
use Rattle.std.specs.Str.{IsCharBoundary}
use Rattle.std.specs.String.{string_bytes}
use Rattle.keep_token.specs.Strings.{Piece}
use Rattle.keep_token.specs.Decoding.{IsBodyOf}
use Rattle.keep_token.proofs.DecodeLaws.{LeftOf}
use Rattle.keep_token.proofs.decode.unescape.Given as goal

abbrev pub invariant-loop-value : goal.invariant-loop-value
invariant-loop-value l = record {
  cut : IsCharBoundary l.body l.at;
  left : (ps : List Piece) → IsBodyOf l.body ps → LeftOf ps (drop l.at l.body) (string_bytes l.value);
}

abbrev pub decreases-loop-value : goal.decreases-loop-value
decreases-loop-value l = length l.body - l.at
