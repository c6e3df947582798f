use Rattle.std.proofs.Common.{◌≡◌, ℕ, List, length, take, Option, None, Some, arith}
use Rattle.std.specs.Option.{unwrap_or}
use Rattle.memchr.specs.Find.{IsFirstByte, is_byte}
use Rattle.keep_syntax_store.specs.declared.starts.TheConstants.{FAR}
use Rattle.keep_syntax_store.specs.Starts.{fars}
use Rattle.keep_syntax_store.proofs.RunLaws.{none_far}
use Rattle.keep_syntax_store.proofs.starts.count_near.Goals as goal

before_first : (steps : List ℕ) (first : Option ℕ) → IsFirstByte (is_byte FAR) steps first
    → fars (take (unwrap_or first (length steps)) steps) ≡ 0
before_first steps None nowhere =
    none_far steps (length steps) (omega arith) (λ k within. nowhere k (omega arith) within)
before_first steps (Some n) first =
    none_far steps n (omega (arith, first.0.high)) (λ k before. first.0.before k (omega arith) before)

pub returns-clause-near : goal.returns-clause-near
returns-clause-near c = rw c.unwrap_or.ensures (before_first c.args.steps.now c.memchr.result c.memchr.ensures)
