use Rattle.std.proofs.Common.{◌≡◌, ◌<◌, ◌∷◌, ◌++◌, [], length, drop}
use Rattle.std.specs.Prelude.{string_bytes}
use Rattle.keep_syntax.specs.Tree as tree
use Rattle.keep_rules.specs.Lookup.{path_numbered}
use Rattle.keep_rules.specs.ReadDocuments.{IsIndexOf}
use Rattle.keep_edit_plan.specs.Headers.{role_of, key_texts, conflict_from}
use Rattle.keep_edit_plan.proofs.header.check_header.Given as goal

-- what is left to be met, from the node that was reached
abbrev pub invariant-loop-name : goal.invariant-loop-name
invariant-loop-name l =
    (l.at.0 < length l.index.paths) ×
    ((s : tree.Document) → IsIndexOf s l.index
    → conflict_from s [] (key_texts l.keys) (role_of l.header)
    ≡ conflict_from s (path_numbered l.index l.at.0)
    (key_texts (drop l.name-index l.prefix) ++ string_bytes l.last ∷ []) (role_of l.header))
