use Rattle.std.proofs.Common.{inr}
use Rattle.keep_cli.proofs.KeyLaws.{no_keys}
use Rattle.keep_cli.proofs.edit.keys_of.Goals as goal

pub returns-in-Some-first_index : goal.returns-in-Some-first_index
returns-in-Some-first_index c =
    inr (
      no_keys c.args.text.now _ _ c.in-None.is c.in_ok-path.ensures c.in_ok-keys.ensures,
      inr c.in-Some-first_index.ensures.found,
    )
