use Rattle.std.proofs.Common.{◌≡◌, ℕ, None, Option, Some, arith, refl}
use Rattle.std.specs.Prelude.{IfSome}
use Rattle.keep_path.specs.Path.{without_last}
use Rattle.keep_edit_plan.specs.Headers.{key_texts}
use Rattle.keep_edit_spec.specs.FilledTables.{element_at}
use Rattle.keep_edit_runs.proofs.AlikeLaws.{keys_before_index}
use Rattle.keep_edit_runs.proofs.filled_tables.element_with_key.Goals as goal

pub returns : goal.returns
returns c = by c.index_at.result refl
  where
    by : (o : Option ℕ) → c.index_at.result ≡ o
        → IfSome o (λ number. without_last c.args.path.now ≡ element_at (key_texts c.args.keys.now) number)
    by None is = tt
    by (Some n) is =
        keys_before_index c.args.path.now c.args.keys.now n (omega (arith, c.if-len-keys.false, c.len.ensures.count))
        (c.begins_with_keys.ensures c.if-not-begins_with_keys.false) ((c.index_at.ensures n).0 is)
