use Rattle.keep_syntax.proofs.AfterLaws.{may_move_after}
use Rattle.keep_syntax.proofs.RereadLaws.{reread_is, may_move}
use Rattle.keep_syntax.proofs.syntax.Syntax.put_lines.Goals as goal

pub replace_parts-requires-clause-can : goal.replace_parts-requires-clause-can
replace_parts-requires-clause-can c = may_move c.requires

pub replace_parts-requires-clause-after : goal.replace_parts-requires-clause-after
replace_parts-requires-clause-after c = may_move_after c.requires

pub returns-clause-read : goal.returns-clause-read
returns-clause-read c =
    λ d m is h.
    reread_is c.args.self.now c.in_ok-new.new c.replace_parts.new.parts c.replace.new.dest c.replace-2.new.dest is h
    c.in_ok-new.ensures c.in_ok-parts.ensures.done c.replace.ensures.after c.replace-2.ensures.after
