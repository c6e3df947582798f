use Rattle.std.proofs.lemmas.Str.{IsCharBoundary-start}
use Rattle.keep_path.proofs.reading.key_len.Goals as goal

pub scan_key-requires : goal.scan_key-requires
scan_key-requires c = IsCharBoundary-start c.args.text.now c.utf8.text
