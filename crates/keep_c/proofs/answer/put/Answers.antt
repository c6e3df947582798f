use Rattle.std.proofs.Common.{◌∙◌, ap, length, sym}
use Rattle.keep_c.proofs.AnswerLaws.{without_room, written}
use Rattle.keep_c.proofs.answer.put.Goals as goal

pub returns-then-put_text : goal.returns-then-put_text
returns-then-put_text c =
    written c.args.answer c.in-Ok.text c.in-Ok.is c.args.out.now c.put_text.new.out c.put_text.new.size
    c.no_fault.result
    (c.put_text.ensures.size ∙ ap length c.as_str.ensures.value) c.no_fault.ensures
    (rw (sym c.as_str.ensures.value) (c.put_text.ensures.put c.if-put_text.true))

pub returns-in-Ok : goal.returns-in-Ok
returns-in-Ok c =
    without_room c.args.answer c.in-Ok.text c.in-Ok.is c.args.out.now c.put_text.new.out c.put_text.new.size
    c.no_room.result
    (c.put_text.ensures.size ∙ ap length c.as_str.ensures.value) c.no_room.ensures
    (rw (sym c.as_str.ensures.value) (c.put_text.ensures.kept c.if-put_text.false))
