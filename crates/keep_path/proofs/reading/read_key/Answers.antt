-- A key part of TOML is one with the additions.
use Rattle.std.proofs.Common.{◌-◌}
use Rattle.std.proofs.lemmas.Str.{IsCharBoundary-start}
use Rattle.keep_path.proofs.ReadLaws.{wide_key}
use Rattle.keep_path.proofs.StopLaws.{keys_of_found, keys_of_none}
use Rattle.keep_path.proofs.reading.read_key.Goals as goal

pub scan_key-requires : goal.scan_key-requires
scan_key-requires c = IsCharBoundary-start c.args.text.now c.utf8.text

pub decode_string-requires-clause-leaf : goal.decode_string-requires-clause-leaf
decode_string-requires-clause-leaf c =
    wide_key c.args.text.now c.range.result.now c.in-Ok.leaf (c.in-Ok.len - 0) c.range.ensures.value
    c.in-Ok.ensures.found.1

pub returns-clause-longest : goal.returns-clause-longest
returns-clause-longest c =
    keys_of_found c.args.text.now c.scan_key.result c.in-Ok.leaf c.in-Ok.len c.in-Ok.is c.scan_key.ensures.only

pub returns-in_default-clause-none : goal.returns-in_default-clause-none
returns-in_default-clause-none c _ =
    keys_of_none c.args.text.now c.scan_key.result c.in_default.field-0 c.in_default.is c.scan_key.ensures.only
