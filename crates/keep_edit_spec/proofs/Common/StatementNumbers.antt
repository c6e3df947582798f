-- The numbered mentions of a document around one of its lines: those before it, its own, and those after it.
--
-- Theorems: `numbered_around`; `reading_lines`: the reading after lines is that after their statements.
use Rattle.std.proofs.Common.{◌≡◌, List, [], ◌∷◌, ◌++◌, refl, ap, ◌∙◌, Option, Some, None}
use Rattle.std.specs.List.{filter_map, cons_option}
use Rattle.std.proofs.lemmas.List.Elements.{filter_map-append}
use Rattle.keep_syntax.specs.Tree.{Line}
use Rattle.keep_meaning.specs.Marks.{Mention, Statement, Reading, statement_mentions, next_reading, reading_after}
use Rattle.keep_meaning.specs.Marks.{start}
use Rattle.keep_meaning.specs.Meaning.{statement_of, reading_after_lines}
use Rattle.keep_meaning.specs.Counts.{Count, next_count, no_count, numbered_mentions, numbered_from, count_from}
use Rattle.keep_meaning.specs.Counts.{line_statement}
use Rattle.keep_meaning.proofs.Shared.{numbered_from-append}

-- the reading after lines is the reading after their statements
pub reading_lines : (r : Reading) (ls : List Line)
    → reading_after r (filter_map line_statement ls) ≡ reading_after_lines r ls
reading_lines r [] = refl
reading_lines r (l ∷ ls) = by (statement_of l.content) (λ q. reading_lines q ls)
  where
    by : (o : Option Statement)
        → ((q : Reading) → reading_after q (filter_map line_statement ls) ≡ reading_after_lines q ls)
        → reading_after r (cons_option o (filter_map line_statement ls))
        ≡ reading_after_lines (elim o [ None ↦ r | Some s ↦ next_reading r s ]) ls
    by None more = more r
    by (Some s) more = more (next_reading r s)

-- how many statements, values and key parts these lines have
abbrev pub count_of_lines : List Line → Count
count_of_lines ls = count_from no_count start (filter_map line_statement ls)

-- The numbered mentions of the lines before a line, of its statement, and of the lines after it.
pub numbered_around : (pre post : List Line) (l : Line) (st : Statement) → statement_of l.content ≡ Some st
    → (let c : Count = count_of_lines pre in
    let r : Reading = reading_after_lines start pre in
    let ms : List Mention = statement_mentions r st in
    numbered_from no_count start (filter_map line_statement (pre ++ l ∷ post))
    ≡ numbered_from no_count start (filter_map line_statement pre)
    ++ (numbered_mentions c ms ++ numbered_from (next_count c ms) (next_reading r st) (filter_map line_statement post)))
numbered_around pre post l st e =
    let earlier : List Statement = filter_map line_statement pre in
    let later : List Statement = filter_map line_statement post in
    ap (numbered_from no_count start)
    (filter_map-append line_statement pre (l ∷ post) ∙ ap (λ (o : Option Statement). earlier ++ cons_option o later) e)
    ∙ numbered_from-append no_count start earlier (st ∷ later)
    ∙ ap (λ (r : Reading). numbered_from no_count start earlier ++ numbered_from (count_of_lines pre) r (st ∷ later))
    (reading_lines start pre)
