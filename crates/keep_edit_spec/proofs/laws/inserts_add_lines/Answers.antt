use Rattle.keep_edit_spec.proofs.Lists.BroughtOpens.{opens_table}
use Rattle.keep_edit_spec.proofs.Lists.StillAdds.{still_adds}
use Rattle.keep_edit_spec.proofs.Lists.StillAddsLineTo.{still_adds_line_to}
use Rattle.keep_edit_spec.proofs.Lists.StillBringsHeader.{still_brings_header}
use Rattle.keep_edit_spec.proofs.laws.inserts_add_lines.Goals as goal

pub returns : goal.returns
returns c = record { line = still_adds; any = still_adds_line_to; header = still_brings_header; opens = opens_table }
