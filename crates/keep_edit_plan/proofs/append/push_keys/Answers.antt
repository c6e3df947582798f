use Rattle.std.proofs.Common.{◌∙◌, ap, sym, ◌++◌, append_assoc}
use Rattle.std.specs.Prelude.{string_bytes, codes}
use Rattle.std.proofs.lemmas.List.{append-nil}
use Rattle.keep_token.specs.Encoded.{encoded_key}
use Rattle.keep_edit_plan.proofs.AppendLaws.{one_key_more, all_written, keys_so_far}
use Rattle.keep_edit_plan.proofs.append.push_keys.Goals as goal

pub loop-name-init : goal.loop-name-init
loop-name-init c = sym (append-nil (string_bytes c.push_key.new.out))

pub loop-name-preserved : goal.loop-name-preserved
loop-name-preserved c =
    let before = string_bytes c.push_key.new.out ++ keys_so_far c.in-Some.further.now c.loop-name.name-index in
    c.in_ok-push_key-2.ensures.pushed
    ∙ ap (λ t. t ++ encoded_key c.as_str-in-loop-name.result.now)
    (c.in_ok-push_str.ensures.bytes ∙ ap (λ t. t ++ codes ".") c.loop-name.invariant)
    ∙ ap (λ k. (before ++ codes ".") ++ encoded_key k) c.as_str-in-loop-name.ensures.value
    ∙ one_key_more c.in-Some.further.now c.loop-name.name-index c.name-item.result (string_bytes c.push_key.new.out)
    c.loop-name-test.true c.name-item.is

pub returns : goal.returns
returns c =
    c.loop-name.invariant
    ∙ ap (λ t. t ++ keys_so_far c.in-Some.further.now c.loop-name.name-index)
    (c.in_ok-push_key.ensures.pushed ∙ ap (λ k. string_bytes c.args.out.now ++ encoded_key k) c.as_str.ensures.value)
    ∙ append_assoc (string_bytes c.args.out.now) (encoded_key (string_bytes c.in-Some.first.now))
    (keys_so_far c.in-Some.further.now c.loop-name.name-index)
    ∙ ap (λ t. string_bytes c.args.out.now ++ t)
    (all_written c.args.keys.now c.in-Some.further.now c.in-Some.first.now c.loop-name.name-index
    c.in-Some.ensures.cases.0 c.loop-name-test.false)
