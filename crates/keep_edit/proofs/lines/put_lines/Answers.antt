use Rattle.keep_edit.proofs.TakeLaws.{touches, is_syntax, can_as, is_reread}
use Rattle.keep_edit.proofs.lines.put_lines.Goals as goal

pub replace-requires : goal.replace-requires
replace-requires c =
    let (old, made, index, h) = c.requires in
    record {
      document = h.edit.tree;
      is = is_syntax old made _ _ h.holds h.edit h.edit.tree h.edit.read;
      new = (touches old made _ _ h.holds h.edit).lines;
      can = can_as old made _ _ h.holds h.edit c.args.whole h.touched_are c.args.profile c.args.lines.now h.profile_is
          h.lines_are;
    }

pub returns-clause-renewed : goal.returns-clause-renewed
returns-clause-renewed c = λ old made index h.
    is_reread old made _ _ h.holds h.edit c.args.whole h.touched_are c.replace.result c.args.profile c.args.lines.now
    c.replace.new.self h.profile_is h.lines_are
    c.replace.ensures.read c.replace.ensures.of_text
