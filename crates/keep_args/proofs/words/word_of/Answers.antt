use Rattle.std.proofs.Common.{Some, None}
use Rattle.clap.specs.Words.{found_of}
use Rattle.keep_args.proofs.Rows.{word_met}
use Rattle.keep_args.proofs.words.word_of.Goals as goal

pub returns-in-Some : goal.returns-in-Some
returns-in-Some c = word_met (found_of c.args.matches.now) c.args.id.now (Some c.in-Some.text.now) c.in-Some.ensures

pub returns-in-None : goal.returns-in-None
returns-in-None c = word_met (found_of c.args.matches.now) c.args.id.now None c.in-None.ensures
