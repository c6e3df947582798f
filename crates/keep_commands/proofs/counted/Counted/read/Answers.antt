use Rattle.keep_commands.proofs.counted.Counted.read.Goals as goal

pub returns-then-is_err-clause-bytes : goal.returns-then-is_err-clause-bytes
returns-then-is_err-clause-bytes g c = c.read-result.ensures.bytes

pub returns-else-is_err-clause-bytes : goal.returns-else-is_err-clause-bytes
returns-else-is_err-clause-bytes g c = c.read-result.ensures.bytes
