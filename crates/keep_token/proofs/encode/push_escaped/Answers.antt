use Rattle.std.proofs.Common.{◌≡◌, ◌<◌, ◌+◌, ◌++◌, List, ℕ, length, length-append, take, get_or, ap, string_bytes}
use Rattle.std.proofs.Common.{string_capacity, arith, rules, refl, sym, subst}
use Rattle.std.proofs.Math.Seq.{take-length}
use Rattle.keep_token.specs.Encoded.{encoded_byte}
use Rattle.keep_token.specs.Escapes.{is_plain}
use Rattle.std.specs.List.{flat_map, prefix_len}
use Rattle.keep_token.proofs.EncodedLaws.{not_plain, plain_end, escape_end, encoded_last, encoded_more, escape_part}
use Rattle.keep_token.proofs.EncodedLaws.{grown, grown_then, len_is, no_room, on_err, plain_part}
use Rattle.std.proofs.lemmas.List.Sums.{prefix_len-le-length}
use Rattle.keep_token.proofs.encode.push_escaped.Goals as goal

pub range-requires-clause-end_boundary : goal.range-requires-clause-end_boundary
range-requires-clause-end_boundary c =
    let e : c.plain_len-plain.result ≡ prefix_len is_plain c.rest.rest.now = cc in
    plain_end c.rest.rest.now c.plain_len-plain.result e

pub returns-then-plain-rest-clause-pushed : goal.returns-then-plain-rest-clause-pushed
returns-then-plain-rest-clause-pushed c =
    let e : c.plain_len-plain.result ≡ prefix_len is_plain c.rest.rest.now = cc in
    encoded_last c.rest.rest.now _ _ _ c.plain_len-plain.result e c.if-plain-rest.true c.rest.invariant.1 (search rules)

pub push_escape-requires : goal.push_escape-requires
push_escape-requires c =
    let e : c.plain_len-plain.result ≡ prefix_len is_plain c.rest.rest.now = cc in
    let more : c.plain_len-plain.result < length c.rest.rest.now =
    omega (arith, prefix_len-le-length is_plain c.rest.rest.now) in
    rw c.as_bytes-in-rest.ensures.value (not_plain c.rest.rest.now c.plain_len-plain.result e more)

pub range_from-rest-requires : goal.range_from-rest-requires
range_from-rest-requires c _ =
    let e : c.plain_len-plain.result ≡ prefix_len is_plain c.rest.rest.now = cc in
    escape_end c.rest.rest.now c.plain_len-plain.result c.rest.invariant.0 e
    (omega (arith, prefix_len-le-length is_plain c.rest.rest.now))

pub rest-preserved : goal.rest-preserved
rest-preserved c =
    let e : c.plain_len-plain.result ≡ prefix_len is_plain c.rest.rest.now = cc in
    let more : c.plain_len-plain.result < length c.rest.rest.now =
    omega (arith, prefix_len-le-length is_plain c.rest.rest.now) in
    let whole =
    encoded_more c.rest.rest.now _ (string_bytes c.push_str.new.self) (string_bytes c.push_escape.new.out) _
    c.plain_len-plain.result e more c.rest.invariant.1 (search rules)
    (rw (← c.as_bytes-in-rest.ensures.value) (search rules)) in
    let run =
    grown (string_bytes c.rest.out) (string_bytes c.push_str.new.self) (take c.plain_len-plain.result c.rest.rest.now)
    (search rules) in (
      c.range_from-rest.utf8,
      rw c.range_from-rest.ensures.value whole,
      grown_then _ _ _ c.rest.invariant.2 (grown_then _ _ _ run c.push_escape.ensures.grown),
      omega (arith, c.rest.invariant.3, c.in_ok-push_str.ensures.capacity, c.push_escape.ensures.room),
    )

pub rest-init : goal.rest-init
rest-init c = (c.utf8.text, refl, take-length (string_bytes c.args.out.now), omega arith)

pub returns-in_err-push_str-clause-full : goal.returns-in_err-push_str-clause-full
returns-in_err-push_str-clause-full c =
    let e : c.plain_len-plain.result ≡ prefix_len is_plain c.rest.rest.now = cc in
    let run : c.range.result.now ≡ take c.plain_len-plain.result c.rest.rest.now = search rules in
    on_err _ (no_room (string_bytes c.args.out.now) (string_bytes c.rest.out) (flat_map encoded_byte c.rest.rest.now)
    (flat_map encoded_byte c.args.text.now) (string_capacity c.args.out.now) (string_capacity c.rest.out)
    (length (take c.plain_len-plain.result c.rest.rest.now)) c.rest.invariant.1 c.rest.invariant.3
    (omega (arith, c.in_err-push_str.ensures.full, ap length run, len_is c.rest.out))
    (plain_part c.rest.rest.now c.plain_len-plain.result e))

pub returns-in_err-push_str-clause-grown : goal.returns-in_err-push_str-clause-grown
returns-in_err-push_str-clause-grown c =
    subst (λ (t : List ℕ). take (length (string_bytes c.args.out.now)) t ≡ string_bytes c.args.out.now)
    (sym c.in_err-push_str.ensures.bytes) c.rest.invariant.2

pub returns-in_err-push_escape-clause-full : goal.returns-in_err-push_escape-clause-full
returns-in_err-push_escape-clause-full c =
    let e : c.plain_len-plain.result ≡ prefix_len is_plain c.rest.rest.now = cc in
    let more : c.plain_len-plain.result < length c.rest.rest.now =
    omega (arith, prefix_len-le-length is_plain c.rest.rest.now) in
    let run : string_bytes c.push_str.new.self ≡ string_bytes c.rest.out
    ++ take c.plain_len-plain.result c.rest.rest.now = search rules in
    let byte : length (encoded_byte (get_or c.as_bytes-in-rest.result.now c.plain_len-plain.result 0))
    ≡ length (encoded_byte (get_or c.rest.rest.now c.plain_len-plain.result 0)) =
    rw c.as_bytes-in-rest.ensures.value refl in
    on_err _ (no_room (string_bytes c.args.out.now) (string_bytes c.rest.out) (flat_map encoded_byte c.rest.rest.now)
    (flat_map encoded_byte c.args.text.now) (string_capacity c.args.out.now) (string_capacity c.rest.out)
    (length (take c.plain_len-plain.result c.rest.rest.now)
    + length (encoded_byte (get_or c.rest.rest.now c.plain_len-plain.result 0))) c.rest.invariant.1 c.rest.invariant.3
    (omega (
      arith,
      c.in_err-push_escape.ensures.full,
      c.in_ok-push_str.ensures.capacity,
      ap length run,
      length-append (string_bytes c.rest.out) (take c.plain_len-plain.result c.rest.rest.now),
      byte,
    )) (escape_part c.rest.rest.now c.plain_len-plain.result e more))

pub returns-in_err-push_escape-clause-grown : goal.returns-in_err-push_escape-clause-grown
returns-in_err-push_escape-clause-grown c =
    let run =
    grown (string_bytes c.rest.out) (string_bytes c.push_str.new.self) (take c.plain_len-plain.result c.rest.rest.now)
    (search rules) in
    grown_then _ _ _ c.rest.invariant.2 (grown_then _ _ _ run c.in_err-push_escape.ensures.grown)

pub returns-then-plain-rest-clause-grown : goal.returns-then-plain-rest-clause-grown
returns-then-plain-rest-clause-grown c =
    grown_then _ _ _ c.rest.invariant.2
    (grown (string_bytes c.rest.out) (string_bytes c.push_str.new.self) (take c.plain_len-plain.result c.rest.rest.now)
    (search rules))
