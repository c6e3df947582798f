-- Where the first line of a document ends: the lines that its first byte touches end there, if more come.
--
-- Theorems: `first_line_is`; `first_line_here`: of a document that was read.
use Rattle.std.proofs.Common.{◌≡◌, ℕ, ◌+◌, ◌<◌, ◌≤◌, List, [], ◌∷◌, ◌++◌, length, refl, sym, ap}
use Rattle.std.proofs.Common.{subst, ◌∙◌, arith, le-leb}
use Rattle.std.proofs.lemmas.Bool.{lt-leb}
use Rattle.std.specs.List.{AllByRecursion}
use Rattle.std.proofs.lemmas.List.{length-append}
use Rattle.keep_types.specs.declared.leaf.Profile.{Profile}
use Rattle.keep_syntax.specs.Tree.{Document, Ended, bom_leaves, ended_leaves, text, text_of}
use Rattle.keep_syntax.specs.Grammar.{IsDocument, IsEnded}
use Rattle.keep_syntax.specs.Numbered.{width}
use Rattle.keep_syntax.specs.WholeLines.{begin, first_from, line_starts, starts_of}
use Rattle.keep_syntax.proofs.SplitLaws.{have_bytes}
use Rattle.keep_edit_spec.specs.FirstNewline.{first_line_text}
use Rattle.keep_types.specs.declared.syntax.Span.{Span}
use Rattle.keep_path.specs.NodeInfos.{NodeInfos}
use Rattle.keep_syntax.specs.declared.syntax.Syntax.{Syntax}
use Rattle.keep_syntax.specs.Contract.{IsSyntaxOf}
use Rattle.keep_syntax.specs.Numbered.{span}
use Rattle.keep_syntax.specs.WholeLines.{touched}
use Rattle.keep_edit_plan.specs.Inserting.{lines_start}
use Rattle.keep_edit_plan.specs.Newlines.{IsFirstLineEnd}
use Rattle.keep_edit_plan.specs.Reading.{Holds, IsTextOfTree, ProfiledText}
use Rattle.keep_edit_plan.proofs.AnswerLaws.{tree_is}

from_start : (place high x : ℕ) (xs : List ℕ) → x < place → first_from place high (x ∷ xs) ≡ first_from place high xs
from_start place high x xs less = rw (lt-leb place x less) refl

starts_at : (at : ℕ) (es : List Ended) (place high : ℕ) → place ≤ at → first_from place high (line_starts at es) ≡ at
starts_at at [] place high le = rw (le-leb place at le) refl
starts_at at (e ∷ es) place high le = rw (le-leb place at le) refl

pub first_line_is : (profile : Profile) (s : Document) → IsDocument profile s → (n : ℕ)
    → n ≡ first_from (begin s + 1) (length (text s)) (starts_of s) → n < length (text s) → IsFirstLineEnd s n
first_line_is profile s valid n is less = by s.ended refl valid.ended
  where
    by : (ended : List Ended) → s.ended ≡ ended → AllByRecursion (IsEnded profile) s.ended → IsFirstLineEnd s n
    by [] e h =
        let all : n ≡ length (text s) =
        is ∙ ap (λ es. first_from (begin s + 1) (length (text s)) (line_starts (begin s) es)) e
        ∙ from_start (begin s + 1) (length (text s)) (begin s) [] (omega arith) in
        absurd (omega (arith, all, less))
    by (x ∷ es) e h =
        let line = text_of (bom_leaves s.bom) ++ text_of (ended_leaves x) in
        let some = (have_bytes profile (x ∷ es) (subst (AllByRecursion (IsEnded profile)) e h)).0 in
        let ends : n ≡ begin s + width (ended_leaves x) =
        is ∙ ap (λ es. first_from (begin s + 1) (length (text s)) (line_starts (begin s) es)) e
        ∙ from_start (begin s + 1) (length (text s)) (begin s) (line_starts (begin s + width (ended_leaves x)) es)
        (omega arith)
        ∙ starts_at (begin s + width (ended_leaves x)) es (begin s + 1) (length (text s)) (omega (arith, some)) in (
          line,
          (
            ap (first_line_text s.bom) e,
            length-append (text_of (bom_leaves s.bom)) (text_of (ended_leaves x)) ∙ sym ends,
          ),
        )

pub first_line_here : (now : ProfiledText) (syntax : Syntax) (index : NodeInfos) (s : Document)
    → Holds now syntax index → IsTextOfTree now s → (start : ℕ) (line : Span) → start ≡ lines_start s
    → ((d : Document) → IsSyntaxOf syntax d → line ≡ touched d (span start (start + 1)))
    → {len : ℕ} → len ≡ length now.text → line.end < len → IsFirstLineEnd s line.end
first_line_here now syntax index s h read start line begins lines {len} all less =
    let is : IsSyntaxOf syntax s = subst (IsSyntaxOf syntax) (tree_is now syntax index s h read) h.is in
    first_line_is now.profile s read.reads.valid line.end
    (ap (λ (sp : Span). sp.end) (lines s is)
    ∙ ap (λ n. first_from (n + 1) (length (text s)) (starts_of s)) begins)
    (omega (arith, less, all, ap length read.reads.spelled))
