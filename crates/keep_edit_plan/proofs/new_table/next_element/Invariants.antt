use Rattle.std.proofs.Common.{◌<◌, ℕ, [], length, drop}
use Rattle.std.specs.Prelude.{string_bytes}
use Rattle.keep_syntax.specs.Tree as tree
use Rattle.keep_rules.specs.Lookup.{path_numbered}
use Rattle.keep_rules.specs.ReadDocuments.{IsIndexOf}
use Rattle.keep_edit_plan.specs.Headers.{key_texts}
use Rattle.keep_edit_plan.proofs.NewElementLaws.{EndsIn}
use Rattle.keep_edit_plan.proofs.NewTableLaws.{LeadOn}
use Rattle.keep_edit_plan.proofs.new_table.next_element.Given as goal

-- what the keys that are left of the way lead to, from the node that was reached
abbrev pub invariant-loop-name : goal.invariant-loop-name
invariant-loop-name l =
    (l.at.0 < length l.index.paths) ×
    ((s : tree.Document) → IsIndexOf s l.index → (n : ℕ)
    → LeadOn s (EndsIn s (string_bytes l.last) n) (path_numbered l.index l.at.0) (key_texts (drop l.name-index l.way))
    → LeadOn s (EndsIn s (string_bytes l.last) n) [] (key_texts l.way))
