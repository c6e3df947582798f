use Rattle.std.proofs.Common.{refl}
use Rattle.keep_syntax_store.proofs.FlatLaws.{same_flat}
use Rattle.keep_syntax_store.proofs.RaiseLaws.{keys_move, statements_move, values_move}
use Rattle.keep_syntax_store.proofs.parts.Parts.settle.Goals as goal

pub returns : goal.returns
returns c =
    same_flat _ _ refl refl (c.settle.ensures statements_move) (c.settle-2.ensures keys_move)
    (c.settle-3.ensures values_move)
