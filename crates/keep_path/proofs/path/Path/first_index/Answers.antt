-- Each iteration passes a dot and a key part.
use Rattle.std.proofs.Common.{◌≡◌, ◌+◌, ◌∙◌, drop, sym, rules, arith, refl, add_assoc}
use Rattle.std.proofs.lemmas.Grind.{common_steps}
use Rattle.std.proofs.lemmas.Str.{IsCharBoundary-from_rest}
use Rattle.std.specs.Prelude.{IsCharBoundary}
use Rattle.keep_path.proofs.FirstIndexLaws.{byte_is, dot_cut, first_key_passed, next_key_passed, no_first_key}
use Rattle.keep_path.proofs.FirstIndexLaws.{no_next_key, index_there, all_keys}
use Rattle.keep_path.proofs.path.Path.first_index.Goals as goal

pub returns-in_err-at-clause-none : goal.returns-in_err-at-clause-none
returns-in_err-at-clause-none c _ = no_first_key c.args.text.now (c.in_err-at.ensures.none refl)

pub loop-at-init : goal.loop-at-init
loop-at-init c = record {
  cut = c.in_ok-at.ensures.ends;
  so_far = first_key_passed c.args.text.now c.in_ok-at.at c.in_ok-at.ensures.found;
}

pub range_from-requires : goal.range_from-requires
range_from-requires c _ =
    dot_cut c.args.text.now c.loop-at.at c.utf8.text
    (byte_is c.args.text.now c.as_bytes.result.now c.loop-at.at c.byte_or_zero.result c.as_bytes.ensures.value
    c.byte_or_zero.ensures ∙ c.loop-at-test.true)

pub returns-in_err-at-2-clause-none : goal.returns-in_err-at-2-clause-none
returns-in_err-at-2-clause-none c _ path stated =
    let dot =
    byte_is c.args.text.now c.as_bytes.result.now c.loop-at.at c.byte_or_zero.result c.as_bytes.ensures.value
    c.byte_or_zero.ensures ∙ c.loop-at-test.true in
    let after : c.range_from.result.now ≡ drop (c.loop-at.at + 1) c.args.text.now =
    first_of (search rules, grind (arith, common_steps)) in
    absurd (no_next_key c.args.text.now c.range_from.result.now c.loop-at.at dot after (c.in_err-at-2.ensures.none refl)
    c.loop-at.invariant.so_far path stated)

pub loop-at-preserved : goal.loop-at-preserved
loop-at-preserved c =
    let dot =
    byte_is c.args.text.now c.as_bytes.result.now c.loop-at.at c.byte_or_zero.result c.as_bytes.ensures.value
    c.byte_or_zero.ensures ∙ c.loop-at-test.true in
    let after : c.range_from.result.now ≡ drop (c.loop-at.at + 1) c.args.text.now =
    first_of (search rules, grind (arith, common_steps)) in
    let cut : IsCharBoundary (drop (c.loop-at.at + 1) c.args.text.now) c.in_ok-at-2.field-0 =
    rw after at c.in_ok-at-2.ensures.ends in
    let within = (dot_cut c.args.text.now c.loop-at.at c.utf8.text dot).0 in
    record {
      cut = rw (← add_assoc c.loop-at.at 1 c.in_ok-at-2.field-0)
          (IsCharBoundary-from_rest c.args.text.now (c.loop-at.at + 1) c.in_ok-at-2.field-0 within cut);
      so_far =
          next_key_passed c.args.text.now c.range_from.result.now c.loop-at.at c.in_ok-at-2.field-0 dot after
          c.in_ok-at-2.ensures.found c.loop-at.invariant.so_far;
    }

pub returns-then-at-text-clause-found : goal.returns-then-at-text-clause-found
returns-then-at-text-clause-found c =
    let here =
    byte_is c.args.text.now c.as_bytes.result.now c.loop-at.at c.byte_or_zero.result c.as_bytes.ensures.value
    c.byte_or_zero.ensures in
    index_there c.args.text.now c.loop-at.at c.if-at-text.true (λ e. c.loop-at-test.false (sym here ∙ e))
    c.loop-at.invariant.so_far c.requires

pub returns-else-at-text-clause-none : goal.returns-else-at-text-clause-none
returns-else-at-text-clause-none c _ =
    all_keys c.args.text.now c.loop-at.at c.if-at-text.false c.loop-at.invariant.so_far
