use Rattle.std.proofs.Common.{◌∙◌, length, min, not, string_bytes, sym, arith, eq-eqb}
use Rattle.std.proofs.lemmas.Bool.Decides.{Decides-like, Decides-not}
use Rattle.std.proofs.lemmas.List.{length-map}
use Rattle.keep_edit_plan.specs.Headers.{key_texts}
use Rattle.keep_edit_runs.proofs.AlikeLaws.{apart_unless_agree, same_or_apart}
use Rattle.keep_edit_runs.proofs.alike.are_same_or_apart.Goals as goal

pub returns-then-keys-more : goal.returns-then-keys-more
returns-then-keys-more c =
    let keys = c.args.keys.now in
    let more = c.args.more.now in
    let long = c.if-keys-more.true in (
      λ yes. same_or_apart (key_texts keys) (key_texts more)
          (length-map keys string_bytes ∙ long ∙ sym (length-map more string_bytes)),
      λ h. eq-eqb (length keys) (length more) long,
    )

pub returns-else-keys-more : goal.returns-else-keys-more
returns-else-keys-more c =
    let keys = c.args.keys.now in
    let more = c.args.more.now in
    let own = length-map keys string_bytes in
    let other = length-map more string_bytes in
    let (apart, back) =
    apart_unless_agree (min (length keys) (length more)) (key_texts keys) (key_texts more)
    (omega (arith, own, other)) (omega (arith, own, other, c.if-keys-more.false)) in
    Decides-like (not c.keys_agree.result) apart back (Decides-not c.keys_agree.result c.keys_agree.ensures)
