use Rattle.std.proofs.Common.{◌<◌, [], length, drop}
use Rattle.keep_syntax.specs.Tree as tree
use Rattle.keep_rules.specs.Lookup.{path_numbered}
use Rattle.keep_rules.specs.ReadDocuments.{IsIndexOf}
use Rattle.keep_edit_plan.specs.Headers.{key_texts}
use Rattle.keep_edit_plan.proofs.NewTableLaws.{IsNew, LeadOn}
use Rattle.keep_edit_plan.proofs.new_table.leads_to_none.Given as goal

-- what the keys that are left lead to, from the node that was reached
abbrev pub invariant-loop-name : goal.invariant-loop-name
invariant-loop-name l =
    (l.at.0 < length l.index.paths) ×
    ((s : tree.Document) → IsIndexOf s l.index
    → LeadOn s (IsNew s) (path_numbered l.index l.at.0) (key_texts (drop l.name-index l.keys))
    → LeadOn s (IsNew s) [] (key_texts l.keys))
