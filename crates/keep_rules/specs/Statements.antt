-- What the keys of headers mean.
use Rattle.keep_meaning.specs.Marks as marks
use Rattle.keep_rules.specs.Keys.{Key}

abbrev pub header_of : Key → marks.Statement
header_of k = marks.header k.texts

abbrev pub element_of : Key → marks.Statement
element_of k = marks.element_header k.texts
