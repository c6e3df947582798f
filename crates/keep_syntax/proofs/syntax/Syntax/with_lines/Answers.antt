use Rattle.std.proofs.Common.{refl}
use Rattle.keep_syntax.proofs.RereadLaws.{reread_is, may_move}
use Rattle.keep_syntax.proofs.syntax.Syntax.with_lines.Goals as goal

pub replaced_parts-requires : goal.replaced_parts-requires
replaced_parts-requires c = may_move c.requires

pub returns : goal.returns
returns c =
    λ d m is h.
    reread_is c.args.self.now c.in_ok-new.new c.in_ok-parts.parts _ _ is h c.in_ok-new.ensures c.in_ok-parts.ensures
    refl refl
