-- How many tokens and nodes a document has.
--
-- Theorems: `counts_are`: the numbers that syntax and index have are those of the document; `counts_few`: each is at
-- most one more than the text has bytes.
use Rattle.std.proofs.Common.{◌≡◌, ◌≤◌, ◌+◌, ℕ, length, ◌∙◌, ap, arith}
use Rattle.std.proofs.lemmas.List.{length-map}
use Rattle.keep_syntax.specs.declared.syntax.Syntax.{Syntax}
use Rattle.keep_syntax.specs.Tree.{Document}
use Rattle.keep_syntax.specs.Numbered.{tokens}
use Rattle.keep_syntax.specs.Contract.{tokens_of}
use Rattle.keep_syntax.proofs.Shared.{tokens_few}
use Rattle.keep_meaning.specs.Nodes.{nodes_in, node_path}
use Rattle.keep_path.specs.NodeInfos.{NodeInfos}
use Rattle.keep_meaning.proofs.Shared.{nodes_few}
use Rattle.keep_edit.specs.Reading.{limit, ProfiledText, IsTextOfTree, Holds}
use Rattle.keep_edit.specs.Answers.{counts_of}
use Rattle.keep_edit.specs.declared.document.Counts.{Counts}
use Rattle.keep_edit_plan.proofs.Shared.{stated_is, tokens_are}

abbrev counted : ℕ → ℕ → Counts
counted m n = record { tokens = m; nodes = n }

pub counts_are : (t : ProfiledText) (syntax : Syntax) (index : NodeInfos) (s : Document) (m n : ℕ)
    → Holds t syntax index → IsTextOfTree t s
    → m ≡ length (tokens_of syntax t.text) → n ≡ length index.paths → counted m n ≡ counts_of s
counts_are t syntax index s m n h read e f =
    let tokens_many : m ≡ length (tokens s) = e ∙ ap length (tokens_are t syntax index s h read) in
    let nodes_many : n ≡ length (nodes_in s) =
    f ∙ ap (λ (x : NodeInfos). length x.paths) (stated_is t syntax index s h read)
    ∙ length-map (nodes_in s) node_path in
    ap (λ (x : ℕ). counted x n) tokens_many ∙ ap (counted (length (tokens s))) nodes_many

-- ---- how many they are

pub counts_few : (t : ProfiledText) (syntax : Syntax) (index : NodeInfos) (m n : ℕ) → Holds t syntax index
    → m ≡ length (tokens_of syntax t.text) → n ≡ length index.paths → (m ≤ length t.text + 1) × (n ≤ length t.text + 1)
counts_few t syntax index m n h e f =
    let same : counted m n ≡ counts_of h.tree = counts_are t syntax index h.tree m n h h.read e f in (
      omega (arith, ap (λ (c : Counts). c.tokens) same, tokens_few t.profile limit t.text h.tree h.read.reads),
      omega (
        arith,
        ap (λ (c : Counts). c.nodes) same,
        nodes_few t.profile h.tree h.read.reads.valid,
        ap length h.read.reads.spelled,
      ),
    )
