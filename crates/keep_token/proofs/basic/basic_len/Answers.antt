-- The scan goes past runs and escapes, and ends at a quotation mark or at a fault.
use Rattle.std.proofs.Common.{◌+◌, arith, refl, ap, ◌∙◌, sym}
use Rattle.std.specs.List.{prefix_len}
use Rattle.std.proofs.lemmas.List.{take_rest}
use Rattle.keep_token.specs.Strings.{is_basic}
use Rattle.keep_token.specs.Pieces.{escape_at}
use Rattle.keep_token.proofs.StringScans.{basic_run, basic_ends, basic_escape, basic_no_escape, basic_stops, after_run}
use Rattle.keep_token.proofs.StringScans.{occurs_within, length-rest}
use Rattle.keep_token.proofs.basic.basic_len.Goals as goal

pub returns-then-stop-eq34-clause-found : goal.returns-then-stop-eq34-clause-found
returns-then-stop-eq34-clause-found c =
    let at = c.loop-profile.at in
    let len = c.basic_run-at.ensures.len ∙ ap (prefix_len is_basic) (take_rest c.args.bytes.now at) in
    let preserved =
    c.loop-profile.invariant.preserved ∙ basic_run c.args.profile c.args.bytes.now at c.basic_run-at.result len in
    basic_ends c.args.profile c.args.bytes.now (at + c.basic_run-at.result) (cc) preserved

pub returns-then-stop-ne92-clause-found : goal.returns-then-stop-ne92-clause-found
returns-then-stop-ne92-clause-found c =
    let at = c.loop-profile.at in
    let n = c.basic_run-at.result in
    let len = c.basic_run-at.ensures.len ∙ ap (prefix_len is_basic) (take_rest c.args.bytes.now at) in
    let preserved = c.loop-profile.invariant.preserved ∙ basic_run c.args.profile c.args.bytes.now at n len in
    basic_stops c.args.profile c.args.bytes.now (at + n) (λ e. c.if-stop-eq34.false (c.byte_at-stop.ensures ∙ e))
    (λ e. c.if-stop-ne92.true (c.byte_at-stop.ensures ∙ e))
    (after_run is_basic refl c.args.bytes.now at n len) preserved

pub loop-profile-smaller : goal.loop-profile-smaller
loop-profile-smaller c =
    let stop = c.loop-profile.at + c.basic_run-at.result in
    let nested = occurs_within c.args.bytes.now stop 0x5C (cc) (omega arith) in
    omega (arith, c.in-Some.ensures.within, nested, length-rest c.args.bytes.now (stop + 1) (omega (arith, nested)))

pub loop-profile-preserved : goal.loop-profile-preserved
loop-profile-preserved c =
    let at = c.loop-profile.at in
    let n = c.basic_run-at.result in
    let len = c.basic_run-at.ensures.len ∙ ap (prefix_len is_basic) (take_rest c.args.bytes.now at) in
    let preserved = c.loop-profile.invariant.preserved ∙ basic_run c.args.profile c.args.bytes.now at n len in
    let (p, found, size, value) = c.in-Some.ensures.escape in
    let found' = ap (escape_at c.args.profile) (sym (take_rest c.args.bytes.now (at + n + 1))) ∙ found in
    let nested = occurs_within c.args.bytes.now (at + n) 0x5C (cc) (omega arith) in
    record {
      within =
          omega (
            arith,
            c.in-Some.ensures.within,
            nested,
            length-rest c.args.bytes.now (at + n + 1) (omega (arith, nested)),
          );
      preserved =
          preserved ∙ basic_escape c.args.profile c.args.bytes.now (at + n) c.in-Some.escape.len p (cc) found' size;
    }

pub returns-in-None-clause-found : goal.returns-in-None-clause-found
returns-in-None-clause-found c =
    let at = c.loop-profile.at in
    let n = c.basic_run-at.result in
    let len = c.basic_run-at.ensures.len ∙ ap (prefix_len is_basic) (take_rest c.args.bytes.now at) in
    let preserved = c.loop-profile.invariant.preserved ∙ basic_run c.args.profile c.args.bytes.now at n len in
    let none =
    ap (escape_at c.args.profile) (sym (take_rest c.args.bytes.now (at + n + 1))) ∙ c.in-None.ensures.escape in
    basic_no_escape c.args.profile c.args.bytes.now (at + n) (cc) none preserved
