use Rattle.std.proofs.Common.{subst}
use Rattle.std.specs.Prelude.{Option, IfSome}
use Rattle.keep_syntax_store.specs.declared.keys.PackedKeyPart.{PackedKeyPart}
use Rattle.keep_syntax_store.specs.declared.statements.PackedStatement.{PackedStatement}
use Rattle.keep_syntax_store.specs.declared.values.PackedValue.{PackedValue}
use Rattle.keep_syntax_store.specs.declared.patch.Patch.{Patch}
use Rattle.keep_syntax_store.specs.Flat.{Flat, flat, unpacked_statement, unpacked_key_part, unpacked_value}
use Rattle.keep_syntax_store.specs.Blocks.{raise_key, raise_statement, raise_value}
use Rattle.keep_syntax_store.specs.InPlace.{placed}
use Rattle.keep_syntax_store.specs.PackedVec.{Gives}
use Rattle.keep_syntax_store.proofs.RaiseLaws.{keys_move, statements_move, values_move}
use Rattle.keep_syntax_store.proofs.parts.Parts.patch.Goals as goal

pub returns : goal.returns
returns c =
    let p = c.args.self.now in
    let k = c.args.counts.now in
    let f : Flat = placed (flat p) (flat c.args.fresh.now) k.from k.to k.until k.until.at in
    record {
      kinds = c.in_ok-replaced_kinds.ensures;
      starts = c.in_ok-replaced_places.ensures;
      statements =
          subst (λ (o : Option (Patch PackedStatement)).
          IfSome o (λ d. Gives unpacked_statement raise_statement p.statements d f.statements)) c.in-Some.is
          (c.in_ok-statements.ensures statements_move);
      keys = subst (λ (o : Option (Patch PackedKeyPart)).
          IfSome o (λ d. Gives unpacked_key_part raise_key p.keys d f.keys)) c.in-Some-2.is
          (c.in_ok-keys.ensures keys_move);
      values =
          subst (λ (o : Option (Patch PackedValue)).
          IfSome o (λ d. Gives unpacked_value raise_value p.values d f.values)) c.in-Some-3.is
          (c.in_ok-values.ensures values_move);
    }
