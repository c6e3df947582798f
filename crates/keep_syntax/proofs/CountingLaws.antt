-- How much comes before a line is found in what is stored: by places that ascend, and by the first statement after it.
--
-- The code has a place and the stored lists; it counts the token places before it, and the statements that begin before
-- it. Both ascend, so the count is the length of what is stored of the lines before (`starts_before`, `lines_begin`, by
-- induction). How many key parts and values come before is read off the first statement and the first keyval from there
-- on (`HeadLaws`). A document's lists are those of the lines before, joined with those of the rest (`flat_before`), and
-- of such lists the counts are found (`counts_join` of keep_syntax_store).
--
-- Theorem: `counts_found`: the counts that the code finds are those of the lines before the place.
use Rattle.std.proofs.Common.{◌≡◌, ℕ, suc, ◌+◌, ◌<◌, ◌≤◌, List, [], ◌∷◌, ◌++◌, length, refl, sym, ap, subst, ◌∙◌, arith}
use Rattle.std.specs.List.{flat_map, AllByRecursion}
use Rattle.std.proofs.lemmas.List.{append-nil, length-append}
use Rattle.std.proofs.lemmas.Grind.{flat_map-append}
use Rattle.keep_types.specs.declared.leaf.Profile.{Profile}
use Rattle.keep_types.specs.declared.syntax.Statement.{Statement}
use Rattle.keep_syntax.specs.Tree.{Written, Content, blank, keyval, header, element, Line, Ended, Document, text_of}
use Rattle.keep_syntax.specs.Tree.{line_leaves, ended_leaves, bom_leaves}
use Rattle.keep_syntax.specs.Grammar.{IsEnded, IsDocument}
use Rattle.keep_syntax.specs.Numbered.{width, Count, first_line, line_statements, content_statements, next_line}
use Rattle.keep_syntax.specs.Numbered.{over_lines, after_lines}
use Rattle.keep_syntax_store.specs.Flat.{Flat}
use Rattle.keep_syntax.specs.Growth.{kinds, starts}
use Rattle.keep_syntax_store.specs.Rereading.{LinesAscend, count_at, counts_at, counts_before, joined}
use Rattle.keep_syntax.specs.FlatLines.{flat_of}
use Rattle.keep_syntax.proofs.CountLaws.{BeginsChar, AreSome, document_some}
use Rattle.keep_syntax.proofs.GrowthLaws.{width-append}
use Rattle.keep_syntax_store.proofs.Shared.{Before, BeginBefore, BeginFrom, From, IsEven, all_append, all_back}
use Rattle.keep_syntax_store.proofs.Shared.{all_prefix, counts_join, head_begins, joined_assoc, joined_even, same_count}
use Rattle.keep_syntax.proofs.LineNumberingLaws.{over_ended, after_lines-at, after_lines-statements, after_lines-parts}
use Rattle.keep_syntax.proofs.LineNumberingLaws.{after_lines-values}
use Rattle.keep_syntax.proofs.LineStartLaws.{HaveBytes}
use Rattle.keep_syntax.proofs.SplitLaws.{have_bytes}
use Rattle.keep_syntax.proofs.HeadLaws.{head_is, values_from}
use Rattle.keep_syntax.proofs.PieceLaws.{bom_piece, ended_piece, lines_piece, flat_pieces, lines_prefix}

-- ---- places

pub starts_before : (at end : ℕ) (ws : List Written) → AreSome ws → at + width ws ≤ end → Before end (starts at ws)
starts_before at end [] h k = tt
starts_before at end (w ∷ ws) h k = (
  omega (arith, h.0.0, k, length-append w.text (text_of ws)),
  starts_before (at + length w.text) end ws h.1 (omega (arith, k, length-append w.text (text_of ws))),
)

starts_from : (place at : ℕ) (ws : List Written) → place ≤ at → From place (starts at ws)
starts_from place at [] h = tt
starts_from place at (w ∷ ws) h = h

-- ---- statements

line_begins : (c : Count) (l : Line) (end place : ℕ) → c.at < place → BeginBefore place (line_statements c l end)
line_begins c l end place h = by l.content
  where
    by : (k : Content) → BeginBefore place (content_statements c l end k)
    by blank = tt
    by (keyval name value) = (h, tt)
    by (header before key after) = (h, tt)
    by (element before key after) = (h, tt)

lines_begin : (c : Count) (es : List Ended) (place : ℕ) → HaveBytes es → c.at + width (flat_map ended_leaves es) ≤ place
    → BeginBefore place (over_ended line_statements c es)
lines_begin c [] place h k = tt
lines_begin c (e ∷ es) place h k =
    let size = width-append (ended_leaves e) (flat_map ended_leaves es) in
    all_append (λ (s : Statement). s.line.start < place) (line_statements c e.line (c.at + width (ended_leaves e)))
    (over_ended line_statements (next_line c e) es)
    (line_begins c e.line (c.at + width (ended_leaves e)) place (omega (arith, h.0, k, size)))
    (lines_begin (next_line c e) es place h.1 (omega (arith, k, size)))

-- a line has at most one statement, which begins where it begins
line_ascends : (low : ℕ) (c : Count) (l : Line) (end : ℕ) (rest : List Statement) → low ≤ c.at
    → ((n : ℕ) → n ≤ c.at → LinesAscend n rest) → LinesAscend low (line_statements c l end ++ rest)
line_ascends low c l end rest h others = by l.content
  where
    by : (k : Content) → LinesAscend low (content_statements c l end k ++ rest)
    by blank = others low h
    by (keyval name value) = (h, others c.at (omega arith))
    by (header before key after) = (h, others c.at (omega arith))
    by (element before key after) = (h, others c.at (omega arith))

pub lines_ascend : (low : ℕ) (c : Count) (es : List Ended) (last : Line) → low ≤ c.at
    → LinesAscend low (over_lines line_statements c es last)
lines_ascend low c [] last h =
    let all = line_statements c last (c.at + width (line_leaves last)) in
    subst (LinesAscend low) (append-nil all)
    (line_ascends low c last (c.at + width (line_leaves last)) [] h (λ n le. tt))
lines_ascend low c (e ∷ es) last h =
    line_ascends low c e.line (c.at + width (ended_leaves e)) (over_lines line_statements (next_line c e) es last) h
    (λ n le. lines_ascend n (next_line c e) es last (omega (arith, le)))

-- ---- all of it

pub starts_even : (at : ℕ) (ws : List Written) → length (starts at ws) ≡ length (kinds ws)
starts_even at [] = refl
starts_even at (w ∷ ws) = ap suc (starts_even (at + length w.text) ws)

-- what is stored of a document's lines before others
abbrev pub before_piece : Document → List Ended → Flat
before_piece d prefix = joined (bom_piece d) (ended_piece (first_line d) prefix)

pub before_even : (d : Document) (prefix : List Ended) → IsEven (before_piece d prefix)
before_even d prefix =
    joined_even (bom_piece d) (ended_piece (first_line d) prefix) (starts_even 0 (bom_leaves d.bom))
    (starts_even (first_line d).at (flat_map ended_leaves prefix))

pub lines_even : (c : Count) (es : List Ended) (l : Line) → IsEven (lines_piece c es l)
lines_even c es l = starts_even c.at (flat_map ended_leaves es ++ line_leaves l)

pub before_count : (d : Document) (prefix : List Ended) (place : ℕ) → place ≡ (after_lines (first_line d) prefix).at
    → count_at place (before_piece d prefix) ≡ after_lines (first_line d) prefix
before_count d prefix place e =
    let c0 = first_line d in
    same_count (count_at place (before_piece d prefix)) (after_lines c0 prefix) e
    (omega (arith, after_lines-statements c0 prefix)) (omega (arith, after_lines-parts c0 prefix))
    (omega (arith, after_lines-values c0 prefix))

-- a document is its lines before others, and these
pub flat_before : (d : Document) (prefix rest : List Ended) → d.ended ≡ prefix ++ rest
    → flat_of d ≡ joined (before_piece d prefix) (lines_piece (after_lines (first_line d) prefix) rest d.last)
flat_before d prefix rest e =
    let c0 = first_line d in
    let y = lines_piece (after_lines c0 prefix) rest d.last in
    flat_pieces d ∙ ap (λ (es : List Ended). joined (bom_piece d) (lines_piece c0 es d.last)) e
    ∙ ap (λ (f : Flat). joined (bom_piece d) f) (lines_prefix c0 prefix rest d.last)
    ∙ sym (joined_assoc (bom_piece d) (ended_piece c0 prefix) y)

some_prefix : (profile : Profile) (d : Document) (prefix rest : List Ended) → IsDocument profile d
    → d.ended ≡ prefix ++ rest → AreSome (flat_map ended_leaves prefix)
some_prefix profile d prefix rest valid e =
    let some = document_some profile d valid in
    let here =
    all_prefix BeginsChar (flat_map ended_leaves d.ended) (line_leaves d.last)
    (all_back BeginsChar (bom_leaves d.bom) (flat_map ended_leaves d.ended ++ line_leaves d.last) some) in
    all_prefix BeginsChar (flat_map ended_leaves prefix) (flat_map ended_leaves rest)
    (subst (λ (ws : List Written). AreSome ws) (ap (flat_map ended_leaves) e ∙ flat_map-append ended_leaves prefix rest)
    here)

-- How much comes before a line: all that is stored of the lines before it.
pub counts_found : (profile : Profile) (d : Document) (prefix rest : List Ended) (place : ℕ) → IsDocument profile d
    → d.ended ≡ prefix ++ rest → place ≡ (after_lines (first_line d) prefix).at
    → counts_before (flat_of d) place ≡ counts_at place (before_piece d prefix)
counts_found profile d prefix rest place valid e here =
    let c0 = first_line d in
    let c = after_lines c0 prefix in
    let x = before_piece d prefix in
    let y = lines_piece c rest d.last in
    let bom : List Written = bom_leaves d.bom in
    let lines : List Written = flat_map ended_leaves prefix in
    let size : c.at ≡ c0.at + width lines = after_lines-at c0 prefix in
    let low : Before place x.starts =
    all_append (λ (n : ℕ). n < place) (starts 0 bom) (starts c0.at lines)
    (starts_before 0 place bom (all_prefix BeginsChar bom (flat_map ended_leaves d.ended ++ line_leaves d.last)
    (document_some profile d valid)) (omega (arith, here, size)))
    (starts_before c0.at place lines (some_prefix profile d prefix rest valid e) (omega (arith, here, size))) in
    let head = head_is c rest d.last in
    let bytes =
    have_bytes profile prefix (all_prefix (IsEnded profile) prefix rest
    (subst (λ (es : List Ended). AllByRecursion (IsEnded profile) es) e valid.ended)) in
    ap (λ (f : Flat). counts_before f place) (flat_before d prefix rest e)
    ∙ counts_join c x y place (before_even d prefix) low
    (starts_from place c.at (flat_map ended_leaves rest ++ line_leaves d.last) (omega (arith, here)))
    (lines_begin c0 prefix place bytes (omega (arith, here, size)))
    (subst (λ (n : ℕ). BeginFrom n y.statements) (sym here) (head_begins c y.statements y.keys head))
    head (values_from c rest d.last) (omega (arith, after_lines-parts c0 prefix))
    (omega (arith, after_lines-values c0 prefix))
