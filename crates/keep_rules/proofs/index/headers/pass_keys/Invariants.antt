use Rattle.std.proofs.Common.{map, take}
use Rattle.std.specs.Prelude.{string_bytes}
use Rattle.keep_rules.specs.HeaderJoins.{PassesKeys}
use Rattle.keep_rules.proofs.index.headers.pass_keys.Given as goal

-- the header went through the keys so far
abbrev pub invariant-loop-i : goal.invariant-loop-i
invariant-loop-i l = PassesKeys l.nodes l.joins.items l.statement l.key (map string_bytes (take l.i l.keys)) l.at
