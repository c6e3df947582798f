-- A line with nothing in its value: a document has one value and one key part more by it (LineCounts).
--
-- Theorem: `bare_line`.
use Rattle.std.proofs.Common.{List, [], arith}
use Rattle.keep_syntax.specs.Tree.{Line, Document}
use Rattle.keep_path.specs.Path.{Part}
use Rattle.keep_meaning.specs.Fact.{Fact}
use Rattle.keep_meaning.specs.Meaning.{mentions_in}
use Rattle.keep_edit_spec.specs.KeyvalLines.{HasLineAt, IsBareLine}
use Rattle.keep_edit_spec.proofs.Common.Bridge.{obeys_from_rules}
use Rattle.keep_edit_spec.proofs.Common.Runs.{Rules}
use Rattle.keep_edit_spec.proofs.Values.LineCounts.{HasMore, line_counts}

-- A line that is there, where the rules hold.
pub bare_line : (d bare : Document) (path : List Part) (fact : Fact) (before : List Line)
    → HasLineAt d bare path fact before → Rules (mentions_in bare) → IsBareLine d bare path fact before
bare_line d bare path fact before h rules =
    let counts : HasMore d bare 1 =
    line_counts d bare h.line.before h.line.after h.line.text [] h.line.fact h.line.old h.line.new in
    record {
      line = h;
      values = counts.values;
      keys = omega (arith, counts.keys);
      obeys = obeys_from_rules (mentions_in bare) rules;
    }
