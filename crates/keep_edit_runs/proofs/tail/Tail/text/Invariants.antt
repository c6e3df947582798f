-- What the blocks so far write.
use Rattle.std.proofs.Common.{◌≡◌, string_bytes, take}
use Rattle.keep_edit_runs.specs.Tail.{bytes_of}
use Rattle.keep_edit_runs.proofs.tail.Tail.text.Given as goal

abbrev pub invariant-loop-block : goal.invariant-loop-block
invariant-loop-block l = string_bytes l.text ≡ bytes_of (take l.block-index l.block-items)
