-- An insert of an item, or of a key below a value, is a change inside the value of a line.
--
-- Of an item the definition says so. Below a value no line has to do with the path (`value_no_lines`), so the key is
-- not put in by a line.
--
-- Theorems: `item_nested`, `braced_nested`.
use Rattle.std.proofs.Common.{◌≡◌, ℕ, List, ◌++◌, length, drop, refl, ap, ◌∙◌, Some, None}
use Rattle.keep_syntax.specs.Tree.{Value, Document}
use Rattle.keep_path.specs.Path.{Part}
use Rattle.keep_meaning.specs.Counts.{is_value, numbered_in}
use Rattle.keep_meaning.specs.Marks.{marks}
use Rattle.keep_meaning.specs.Meaning.{mentions_in}
use Rattle.keep_meaning.specs.Nodes.{last_number, numbered_at, value_number}
use Rattle.keep_meaning.specs.Rules.{ObeysRules}
use Rattle.keep_edit_spec.specs.Edits.{insert, change, change_insert, name_with, nested}
use Rattle.keep_edit_spec.specs.Look.{holder, item_number}
use Rattle.keep_edit_spec.specs.Values.{put_item, put_named}
use Rattle.keep_edit_spec.proofs.Common.Marks.{rules_of_document}
use Rattle.keep_edit_spec.proofs.Common.ValueNumber.{alone_of_number}
use Rattle.keep_edit_spec.proofs.Insert.InsertBraces.{change_braces, no_lines}
use Rattle.keep_edit_spec.proofs.Insert.InsertWhole.{has_lines}
use Rattle.keep_edit_spec.proofs.Insert.NoLines.{value_no_lines}

-- of an item
pub item_nested : (s : Document) (path : List Part) (v : Value) (n : ℕ) → item_number path (mentions_in s) ≡ Some n
    → change s (insert path v) ≡ nested (put_item v) path s
item_nested s path v n item = rw (item, change_insert) refl

-- of a key, where a value has this number at the holder or at a prefix of it
pub braced_nested : (s : Document) (path : List Part) (v : Value) (at dots : List Part) (number : ℕ)
    → ObeysRules (marks (mentions_in s)) → item_number path (mentions_in s) ≡ None
    → holder path (mentions_in s) ≡ at ++ dots
    → last_number is_value value_number (numbered_at at (numbered_in s)) ≡ Some number
    → change s (insert path v) ≡ nested (put_named name_with (length (drop (length (holder path (mentions_in s))) path))
    v) path s
braced_nested s path v at dots number obeys no_item whole valued =
    change_braces s path v no_item
    (no_lines s (holder path (mentions_in s))
    (ap (has_lines s) whole
    ∙ value_no_lines s at dots (rules_of_document s obeys) (alone_of_number at s number valued)))
