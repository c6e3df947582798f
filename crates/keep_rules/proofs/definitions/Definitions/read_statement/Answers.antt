-- A statement with a value is a keyval, and any other a header.
use Rattle.keep_rules.proofs.definitions.Definitions.read_statement.Goals as goal

pub returns-in-Some : goal.returns-in-Some
returns-in-Some c = c.read_keyval.ensures c.args.number

pub returns-in-None : goal.returns-in-None
returns-in-None c = c.read_header.ensures c.args.body

pub read_header-requires : goal.read_header-requires
read_header-requires c =
    record { statement = c.requires.statement; rooted = c.requires.reading.2.rooted; head = c.in-None.is }
