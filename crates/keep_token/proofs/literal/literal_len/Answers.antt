-- The run ends at an apostrophe, or nothing continues there.
use Rattle.std.proofs.Common.{ap, ◌∙◌}
use Rattle.std.specs.List.{prefix_len}
use Rattle.std.proofs.lemmas.List.{take_rest}
use Rattle.keep_token.specs.Strings.{is_literal}
use Rattle.keep_token.proofs.StringScans.{literal_ends, literal_stops}
use Rattle.keep_token.proofs.literal.literal_len.Goals as goal

pub returns-then-byte_at-eq39-clause-found : goal.returns-then-byte_at-eq39-clause-found
returns-then-byte_at-eq39-clause-found c =
    let len = c.literal_run-at.ensures.len ∙ ap (prefix_len is_literal) (take_rest c.args.bytes.now 1) in
    literal_ends c.args.bytes.now c.literal_run-at.result len (cc)

pub returns-else-byte_at-eq39-clause-found : goal.returns-else-byte_at-eq39-clause-found
returns-else-byte_at-eq39-clause-found c =
    let len = c.literal_run-at.ensures.len ∙ ap (prefix_len is_literal) (take_rest c.args.bytes.now 1) in
    literal_stops c.args.bytes.now c.literal_run-at.result len (λ e. c.if-byte_at-eq39.false (c.byte_at.ensures ∙ e))
