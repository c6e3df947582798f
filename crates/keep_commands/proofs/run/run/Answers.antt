use Rattle.std.proofs.Common.{rules}
use Rattle.keep_commands.proofs.Appends.{keeps_self}
use Rattle.keep_commands.proofs.ProfileLaws.{never_profile, passed_up}
use Rattle.keep_commands.proofs.RunLaws.{answer_stops, answer_written}
use Rattle.keep_commands.proofs.run.run.Goals as goal

pub returns-in_err-answer-clause-profile : goal.returns-in_err-answer-clause-profile
returns-in_err-answer-clause-profile g c = λ own.
    passed_up c.from_residual-in_err-answer.result c.in_err-answer.field-0.0 c.from_residual-in_err-answer.ensures.1
    (never_profile c.args.command.now c.in_ok-bytes.bytes.items c.in_err-answer.field-0.0 own c.in_err-answer.ensures)

pub returns-in_err-answer-clause-asked : goal.returns-in_err-answer-clause-asked
returns-in_err-answer-clause-asked g c = search rules

pub returns-in_err-answer-clause-answers : goal.returns-in_err-answer-clause-answers
returns-in_err-answer-clause-answers g c =
    answer_stops c.args.command.now (g.R.Read.remaining c.args.input.now.inner)
    (g.W.Write.contents c.args.output.now.inner) (g.W.Write.contents c.args.output.now.inner) c.in_ok-bytes.bytes.items
    c.from_residual-in_err-answer.result c.in_err-answer.field-0.0 c.from_residual-in_err-answer.ensures.1
    c.in_ok-bytes.ensures.reads.1 (keeps_self _) c.in_err-answer.ensures

pub returns-in_err-answer-clause-decided : goal.returns-in_err-answer-clause-decided
returns-in_err-answer-clause-decided g c = search rules

pub returns-in_err-answer-clause-failed : goal.returns-in_err-answer-clause-failed
returns-in_err-answer-clause-failed g c = search rules

pub write_answer-written-requires : goal.write_answer-written-requires
write_answer-written-requires g c = search rules

pub returns-clause-asked : goal.returns-clause-asked
returns-clause-asked g c = search rules

pub returns-clause-answers : goal.returns-clause-answers
returns-clause-answers g c =
    answer_written c.args.command.now (g.R.Read.remaining c.args.input.now.inner)
    (g.W.Write.contents c.args.output.now.inner) (g.W.Write.contents c.write_answer-written.new.output.inner)
    c.in_ok-bytes.bytes.items
    c.in_ok-answer.answer c.write_answer-written.result c.write_answer-written.new.output.failed
    c.in_ok-bytes.ensures.reads.1 c.in_ok-answer.ensures c.write_answer-written.ensures.writes

pub returns-clause-decided : goal.returns-clause-decided
returns-clause-decided g c = search rules

pub returns-clause-profile : goal.returns-clause-profile
returns-clause-profile g c = search rules

pub returns-clause-failed : goal.returns-clause-failed
returns-clause-failed g c = search rules
