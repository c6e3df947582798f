use Rattle.std.proofs.Common.{length, min, not, string_bytes, arith}
use Rattle.std.proofs.lemmas.Bool.Decides.{Decides-like, Decides-not}
use Rattle.std.proofs.lemmas.List.{length-map}
use Rattle.keep_edit_plan.specs.Headers.{key_texts}
use Rattle.keep_edit_runs.proofs.AlikeLaws.{keys_apart}
use Rattle.keep_edit_runs.proofs.alike.are_keys_apart.Goals as goal

pub returns : goal.returns
returns c =
    let keys = c.args.keys.now in
    let more = c.args.more.now in
    let own = length-map keys string_bytes in
    let other = length-map more string_bytes in
    let (apart, back) =
    keys_apart (min (length keys) (length more)) (key_texts keys) (key_texts more) (omega (arith, own, other)) in
    Decides-like (not c.keys_agree.result) apart back (Decides-not c.keys_agree.result c.keys_agree.ensures)
