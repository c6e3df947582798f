-- An insert that adds a line, at the end of a body or to a table which dotted keys make, adds the same one after
-- another such insert, of another first new key, added its own, if the lines are in order.
--
-- There are two kinds of each: StillAdds, StillAddsDotted, DottedAfterLine and LineAfterDotted show the four cases.
--
-- Theorem: `still_adds_line_to`.
use Rattle.std.proofs.Common.{true, false}
use Rattle.keep_edit_spec.specs.DottedLines.{StillAddsLineTo}
use Rattle.keep_edit_spec.proofs.Lists.DottedAfterLine.{dotted_after_line}
use Rattle.keep_edit_spec.proofs.Lists.LineAfterDotted.{line_after_dotted}
use Rattle.keep_edit_spec.proofs.Lists.StillAdds.{still_adds}
use Rattle.keep_edit_spec.proofs.Lists.StillAddsDotted.{still_adds_dotted}

pub still_adds_line_to : StillAddsLineTo
still_adds_line_to profile limit s path value c false other more d false fine h k order =
    still_adds profile limit s path value c other more d fine h k order.other
still_adds_line_to profile limit s path value c true other more d true fine h k order =
    still_adds_dotted profile limit s path value c other more d fine h k order
still_adds_line_to profile limit s path value c false other more d true fine h k order =
    dotted_after_line profile limit s path value c other more d fine h k order
still_adds_line_to profile limit s path value c true other more d false fine h k order =
    line_after_dotted profile limit s path value c other more d fine h k order.other
