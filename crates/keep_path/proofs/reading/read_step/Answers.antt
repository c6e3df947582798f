-- A step begins with a dot or a bracket.
use Rattle.std.proofs.Common.{◌≡◌, drop, rules, arith, refl, string_bytes}
use Rattle.std.proofs.lemmas.Grind.{common_steps}
use Rattle.keep_path.proofs.ReadLaws.{prefix_of, dot_step, bracket_step, dot_goes_on, bracket_goes_on, dot_stops}
use Rattle.keep_path.proofs.ReadLaws.{bracket_stops, other_stops}
use Rattle.keep_path.proofs.reading.read_step.Goals as goal

pub range_from-requires : goal.range_from-requires
range_from-requires c _ =
    (prefix_of c.args.text.now c.as_bytes.result.now c.byte_or_zero.result 0x2E c.as_bytes.ensures.value
    c.byte_or_zero.ensures c.utf8.text c.in-46.is (omega arith) (omega arith)).cut

pub range_from-requires-in-91 : goal.range_from-requires-in-91
range_from-requires-in-91 c _ =
    (prefix_of c.args.text.now c.as_bytes.result.now c.byte_or_zero.result 0x5B c.as_bytes.ensures.value
    c.byte_or_zero.ensures c.utf8.text c.in-91.is (omega arith) (omega arith)).cut

pub returns-in-Some-clause-found : goal.returns-in-Some-clause-found
returns-in-Some-clause-found c =
    let after : c.range_from.result.now ≡ drop 1 c.args.text.now =
    first_of (search rules, grind (arith, common_steps)) in
    dot_step c.args.text.now c.range_from.result.now (string_bytes c.in-Some.key) c.in-Some.len
    (prefix_of c.args.text.now c.as_bytes.result.now c.byte_or_zero.result 0x2E c.as_bytes.ensures.value
    c.byte_or_zero.ensures c.utf8.text c.in-46.is (omega arith) (omega arith)) after
    (rw c.in-Some.is at c.in_ok-key-in-46.ensures.found)

pub returns-in-Some-read_index-clause-found : goal.returns-in-Some-read_index-clause-found
returns-in-Some-read_index-clause-found c =
    let after : c.range_from-in-91.result.now ≡ drop 1 c.args.text.now =
    first_of (search rules, grind (arith, common_steps)) in
    let read = c.in-Some-read_index.ensures in
    bracket_step c.args.text.now c.range_from-in-91.result.now c.in-Some-read_index.index c.in-Some-read_index.len
    (prefix_of c.args.text.now c.as_bytes.result.now c.byte_or_zero.result 0x5B c.as_bytes.ensures.value
    c.byte_or_zero.ensures c.utf8.text c.in-91.is (omega arith) (omega arith)) after read.small read.found read.len

pub returns-in-Some-clause-on : goal.returns-in-Some-clause-on
returns-in-Some-clause-on c =
    let after : c.range_from.result.now ≡ drop 1 c.args.text.now =
    first_of (search rules, grind (arith, common_steps)) in
    dot_goes_on c.args.text.now c.range_from.result.now (string_bytes c.in-Some.key) c.in-Some.len
    (prefix_of c.args.text.now c.as_bytes.result.now c.byte_or_zero.result 0x2E c.as_bytes.ensures.value
    c.byte_or_zero.ensures c.utf8.text c.in-46.is (omega arith) (omega arith)) after
    (rw c.in-Some.is at c.in_ok-key-in-46.ensures.found) (rw c.in-Some.is at c.in_ok-key-in-46.ensures.longest)

pub returns-in-None-clause-none : goal.returns-in-None-clause-none
returns-in-None-clause-none c _ =
    let after : c.range_from.result.now ≡ drop 1 c.args.text.now =
    first_of (search rules, grind (arith, common_steps)) in
    dot_stops c.args.text.now c.range_from.result.now
    (prefix_of c.args.text.now c.as_bytes.result.now c.byte_or_zero.result 0x2E c.as_bytes.ensures.value
    c.byte_or_zero.ensures c.utf8.text c.in-46.is (omega arith) (omega arith)) after
    ((rw c.in-None.is at c.in_ok-key-in-46.ensures.none) refl)

pub returns-in-Some-read_index-clause-on : goal.returns-in-Some-read_index-clause-on
returns-in-Some-read_index-clause-on c =
    let after : c.range_from-in-91.result.now ≡ drop 1 c.args.text.now =
    first_of (search rules, grind (arith, common_steps)) in
    let read = c.in-Some-read_index.ensures in
    bracket_goes_on c.args.text.now c.range_from-in-91.result.now c.in-Some-read_index.index c.in-Some-read_index.len
    (prefix_of c.args.text.now c.as_bytes.result.now c.byte_or_zero.result 0x5B c.as_bytes.ensures.value
    c.byte_or_zero.ensures c.utf8.text c.in-91.is (omega arith) (omega arith)) after read.small read.found read.len

pub returns-in-None-read_index-clause-none : goal.returns-in-None-read_index-clause-none
returns-in-None-read_index-clause-none c _ =
    let after : c.range_from-in-91.result.now ≡ drop 1 c.args.text.now =
    first_of (search rules, grind (arith, common_steps)) in
    bracket_stops c.args.text.now c.range_from-in-91.result.now
    (prefix_of c.args.text.now c.as_bytes.result.now c.byte_or_zero.result 0x5B c.as_bytes.ensures.value
    c.byte_or_zero.ensures c.utf8.text c.in-91.is (omega arith) (omega arith)) after
    (c.in-None-read_index.ensures.none refl)

pub returns-in_default-clause-none : goal.returns-in_default-clause-none
returns-in_default-clause-none c _ =
    other_stops c.args.text.now c.as_bytes.result.now c.byte_or_zero.result c.as_bytes.ensures.value
    c.byte_or_zero.ensures
    (λ e. first_of (search rules, grind (arith, common_steps)))
    (λ e. first_of (search rules, grind (arith, common_steps)))
