-- The lines of `list`, entry by entry.
--
-- Theorems: `entries_few`: a document has no more entries than nodes; `lines_around`: the lines before a block, the
-- block, and the lines after it are all lines.
use Rattle.std.proofs.Common.{◌≡◌, ◌++◌, ◌≤◌, ℕ, List, length, length-append, take, drop, sym, ap, ◌∙◌}
use Rattle.std.proofs.Common.{append_assoc, arith, length-drop}
use Rattle.std.proofs.lemmas.Grind.{flat_map-append}
use Rattle.std.proofs.lemmas.List.{length-map, take-append-drop}
use Rattle.keep_syntax.specs.Tree.{Document}
use Rattle.keep_meaning.specs.Meaning.{mentions_in}
use Rattle.keep_meaning.specs.Nodes.{node_path, node_paths, nodes_in}
use Rattle.keep_path.specs.Path.{Part}
use Rattle.keep_meaning.proofs.Shared.{paths-nodes_in}
use Rattle.keep_edit.specs.Answers.{counts_of, entries_of, entry_at}
use Rattle.keep_edit.specs.declared.document.Entry.{Entry}
use Rattle.keep_commands.specs.Answer.{entry_line, lines_of}

-- there are fewer entries than nodes
pub entries_few : (s : Document) (n : ℕ) → (counts_of s).nodes ≤ n → length (entries_of s) ≤ n
entries_few s n h =
    let many : length (nodes_in s) ≡ length (node_paths (mentions_in s)) =
    sym (length-map (nodes_in s) node_path) ∙ ap (λ (ps : List (List Part)). length ps) (paths-nodes_in s) in
    omega (
      arith,
      many,
      h,
      length-map (drop 1 (node_paths (mentions_in s))) (entry_at (mentions_in s)),
      length-drop 1 (node_paths (mentions_in s)),
    )

-- ---- block by block

-- the lines before a number, and those from it on
lines_split : (entries : List Entry) (n : ℕ) → lines_of (take n entries) ++ lines_of (drop n entries) ≡ lines_of entries
lines_split entries n =
    sym (flat_map-append entry_line (take n entries) (drop n entries)) ∙ ap lines_of (take-append-drop n entries)

pub lines_taken : (entries : List Entry) (n : ℕ) → length (lines_of (take n entries)) ≤ length (lines_of entries)
lines_taken entries n =
    omega (
      arith,
      ap length (lines_split entries n),
      length-append (lines_of (take n entries)) (lines_of (drop n entries)),
    )

-- the lines before a block, the block, and those after it
pub lines_around : (entries : List Entry) (n m : ℕ) (block : List ℕ)
    → lines_of (take n entries) ++ block ≡ lines_of (take m entries)
    → lines_of (take n entries) ++ (block ++ lines_of (drop m entries)) ≡ lines_of entries
lines_around entries n m block e =
    sym (append_assoc (lines_of (take n entries)) block (lines_of (drop m entries)))
    ∙ ap (λ (t : List ℕ). t ++ lines_of (drop m entries)) e ∙ lines_split entries m
