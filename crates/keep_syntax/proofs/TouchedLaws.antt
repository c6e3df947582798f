-- The lines that a span touches are found among the line starts.
--
-- Theorem: `touched_found`.
use Rattle.std.proofs.Common.{◌≡◌, ℕ, List, length, sym, ap, ◌∙◌, arith}
use Rattle.keep_types.specs.declared.syntax.Span.{Span}
use Rattle.keep_syntax.specs.declared.syntax.Syntax.{Syntax}
use Rattle.keep_syntax.specs.Tree.{Document, text}
use Rattle.keep_syntax.specs.Numbered.{span}
use Rattle.keep_syntax.specs.WholeLines.{begin, starts_of, last_to, first_from, touched}
use Rattle.keep_syntax.specs.Contract.{IsSyntaxOf, IsSpanIn}
use Rattle.keep_syntax.proofs.LineStartLaws.{last_any, same_begin}

pub touched_found : (s : Syntax) (sp : Span) (low start end : ℕ) → IsSpanIn s sp → start ≡ last_to sp.start low s.lines
    → end ≡ first_from sp.end s.len s.lines → (d : Document) → IsSyntaxOf s d → span start end ≡ touched d sp
touched_found s sp low start end i first next d is =
    let same : begin i.document ≡ begin d =
    same_begin (begin i.document) (begin d) i.document.ended d.ended (sym i.is.lines ∙ is.lines) in
    let here : start ≡ last_to sp.start (begin d) (starts_of d) =
    first ∙ ap (λ (ns : List ℕ). last_to sp.start low ns) is.lines
    ∙ last_any sp.start low (begin d) (begin d) d.ended (omega (arith, same, i.low)) in
    let there : end ≡ first_from sp.end (length (text d)) (starts_of d) =
    next ∙ ap (λ (ns : List ℕ). first_from sp.end s.len ns) is.lines
    ∙ ap (λ (n : ℕ). first_from sp.end n (starts_of d)) is.len in
    ap (λ (n : ℕ). span n end) here ∙ ap (λ (n : ℕ). span (last_to sp.start (begin d) (starts_of d)) n) there
