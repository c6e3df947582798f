use Rattle.std.proofs.Common.{drop, Some, None, sym}
use Rattle.keep_token.specs.Scanning.{key_at}
use Rattle.keep_token.proofs.Ends.{at_rest}
use Rattle.keep_token.proofs.KeyLaws.{key_one}
use Rattle.keep_token.proofs.ScanEnds.{key_at_place, key_ends, only_found, only_none}
use Rattle.keep_token.proofs.key.scan_key.Goals as goal

pub returns-in-Ok-clause-found : goal.returns-in-Ok-clause-found
returns-in-Ok-clause-found c =
    let found =
    at_rest (key_at c.args.profile) (Some (c.in-Ok.leaf, c.in-Ok.len)) c.as_bytes.result.now c.args.text.now c.args.at
    c.as_bytes.ensures.value (sym c.in-Ok.ensures.value) in
    key_at_place c.args.profile c.args.text.now c.args.at c.in-Ok.leaf c.in-Ok.len found

pub returns-in-Ok-clause-only : goal.returns-in-Ok-clause-only
returns-in-Ok-clause-only c =
    let found =
    at_rest (key_at c.args.profile) (Some (c.in-Ok.leaf, c.in-Ok.len)) c.as_bytes.result.now c.args.text.now c.args.at
    c.as_bytes.ensures.value (sym c.in-Ok.ensures.value) in
    λ k m h.
    only_found c.args.at (key_at c.args.profile (drop c.args.at c.args.text.now)) c.in-Ok.leaf c.in-Ok.len found k m
    (key_one c.args.profile (drop c.args.at c.args.text.now) k m h)

pub returns-in-Ok-clause-ends : goal.returns-in-Ok-clause-ends
returns-in-Ok-clause-ends c =
    let found =
    at_rest (key_at c.args.profile) (Some (c.in-Ok.leaf, c.in-Ok.len)) c.as_bytes.result.now c.args.text.now c.args.at
    c.as_bytes.ensures.value (sym c.in-Ok.ensures.value) in
    key_ends c.args.profile c.args.text.now c.args.at c.in-Ok.leaf c.in-Ok.len c.utf8.text c.requires found

pub returns-in-Err-clause-only : goal.returns-in-Err-clause-only
returns-in-Err-clause-only c =
    let none =
    at_rest (key_at c.args.profile) None c.as_bytes.result.now c.args.text.now c.args.at c.as_bytes.ensures.value
    (sym c.in-Err.ensures.value) in
    λ k m h.
    only_none (key_at c.args.profile (drop c.args.at c.args.text.now)) k m none
    (key_one c.args.profile (drop c.args.at c.args.text.now) k m h)
