-- What is stored of a document, in pieces: that of the lines before others, that of those, and that of the lines after.
--
-- Theorems: `lines_replaced`: what is stored where some lines are new; `flat_pieces`: that of a document is that of its
-- byte order mark and its lines; `lines_prefix`: that of lines is that of the first of them and of the others.
use Rattle.std.proofs.Common.{◌≡◌, ℕ, ◌+◌, Bool, false, List, [], ◌++◌, refl, sym, ap, ◌∙◌, arith, append_assoc}
use Rattle.std.specs.List.{flat_map}
use Rattle.std.proofs.lemmas.List.{append-nil}
use Rattle.std.proofs.lemmas.Grind.{flat_map-append}
use Rattle.keep_syntax.specs.Tree.{Written, Line, Ended, Document, line_leaves, ended_leaves, bom_leaves}
use Rattle.keep_syntax.specs.Numbered.{width, Count, first_line, line_statements, line_parts, line_values, after_lines}
use Rattle.keep_syntax_store.specs.Flat.{Flat}
use Rattle.keep_syntax.specs.Growth.{Taken, only, kinds, starts, add_at}
use Rattle.keep_syntax.specs.FlatLines.{lines_taken, flat_of}
use Rattle.keep_syntax.specs.WholeLines.{empty_line}
use Rattle.keep_syntax_store.specs.Lifted.{origin}
use Rattle.keep_syntax_store.specs.Rereading.{moved_flat, joined}
use Rattle.keep_syntax_store.proofs.Shared.{joined_assoc, same_flat}
use Rattle.keep_syntax.proofs.GrowthLaws.{kinds-append, starts-append}
use Rattle.keep_syntax.proofs.LineNumberingLaws.{over_ended, over-last, after_lines-at}
use Rattle.keep_syntax.proofs.LineLoopLaws.{all_taken}
use Rattle.keep_syntax.proofs.LinesLaws.{over-prefix, moved_statements, moved_parts, moved_values}
use Rattle.keep_syntax.proofs.ReplacedLaws.{starts_move}

-- what parts add that begin at a place
abbrev pub piece : ℕ → Taken → Flat
piece at t =
    record {
      kinds = kinds t.leaves;
      starts = starts at t.leaves;
      statements = t.statements;
      keys = t.keys;
      values = t.values;
    }

abbrev pub bom_piece : Document → Flat
bom_piece d = piece 0 (only (bom_leaves d.bom))

-- lines from a count on, each with its newline
abbrev pub ended_piece : Count → List Ended → Flat
ended_piece c es = piece c.at (all_taken c es)

-- and with a last line
abbrev pub lines_piece : Count → List Ended → Line → Flat
lines_piece c es l = piece c.at (lines_taken c (es, l))

-- the lines before others, and these
pub lines_prefix : (c : Count) (xs ys : List Ended) (l : Line)
    → lines_piece c (xs ++ ys) l ≡ joined (ended_piece c xs) (lines_piece (after_lines c xs) ys l)
lines_prefix c xs ys l =
    let k = after_lines c xs in
    let before : List Written = flat_map ended_leaves xs in
    let after : List Written = flat_map ended_leaves ys ++ line_leaves l in
    let split : flat_map ended_leaves (xs ++ ys) ++ line_leaves l ≡ before ++ after =
    ap (λ (ws : List Written). ws ++ line_leaves l) (flat_map-append ended_leaves xs ys)
    ∙ append_assoc before (flat_map ended_leaves ys) (line_leaves l) in
    same_flat (lines_piece c (xs ++ ys) l) (joined (ended_piece c xs) (lines_piece k ys l))
    (ap kinds split ∙ kinds-append before after)
    (ap (starts c.at) split ∙ starts-append c.at before after
    ∙ ap (λ (n : ℕ). starts c.at before ++ starts n after) (sym (after_lines-at c xs)))
    (over-prefix line_statements c xs ys l)
    (over-prefix (λ c l line_end. line_parts c l) c xs ys l)
    (over-prefix (λ c l line_end. line_values c l) c xs ys l)

-- lines from one count on are those from another, moved
pub lines_moved : (a b : Count) (es : List Ended) (l : Line) → moved_flat a b (lines_piece a es l) ≡ lines_piece b es l
lines_moved a b es l =
    same_flat (moved_flat a b (lines_piece a es l)) (lines_piece b es l)
    refl
    (sym (starts_move a.at b.at (flat_map ended_leaves es ++ line_leaves l)))
    (moved_statements a b es l)
    (moved_parts a b es l)
    (moved_values a b es l)

-- a last line without bytes adds nothing
pub lines_ended : (c : Count) (es : List Ended) → lines_piece c es empty_line ≡ ended_piece c es
lines_ended c es =
    let none : flat_map ended_leaves es ++ [] ≡ flat_map ended_leaves es = append-nil (flat_map ended_leaves es) in
    same_flat (lines_piece c es empty_line) (ended_piece c es)
    (ap kinds none)
    (ap (starts c.at) none)
    (over-last line_statements c es empty_line ∙ append-nil (over_ended line_statements c es))
    (over-last (λ c l line_end. line_parts c l) c es empty_line
    ∙ append-nil (over_ended (λ c l line_end. line_parts c l) c es))
    (over-last (λ c l line_end. line_values c l) c es empty_line
    ∙ append-nil (over_ended (λ c l line_end. line_values c l) c es))

-- a document is its byte order mark and its lines
pub flat_pieces : (d : Document) → flat_of d ≡ joined (bom_piece d) (lines_piece (first_line d) d.ended d.last)
unfolding add_at
flat_pieces d =
    let bom : List Written = bom_leaves d.bom in
    let rest : List Written = flat_map ended_leaves d.ended ++ line_leaves d.last in
    same_flat (flat_of d) (joined (bom_piece d) (lines_piece (first_line d) d.ended d.last))
    (kinds-append bom rest)
    (starts-append 0 bom rest
    ∙ ap (λ (n : ℕ). starts 0 bom ++ starts n rest) (let e : 0 + width bom ≡ width bom = omega arith in e))
    refl refl refl

-- its lines alone, if it has none
pub flat_lines : (d : Document) → d.bom ≡ false → flat_of d ≡ lines_piece origin d.ended d.last
flat_lines d e =
    flat_pieces d
    ∙ ap (λ (b : Bool). let x : Document = record { bom = b; ended = d.ended; last = d.last } in
    joined (bom_piece x) (lines_piece (first_line x) d.ended d.last)) e

-- Lines among which some are new: those before unchanged, the new ones lifted, and those after moved.
pub lines_replaced : (d : Document) (prefix gone new back : List Ended) (last : Line)
    → let c1 = after_lines (first_line d) prefix in
    joined (joined (joined (bom_piece d) (ended_piece (first_line d) prefix))
    (moved_flat origin c1 (lines_piece origin new empty_line)))
    (moved_flat (after_lines c1 gone) (after_lines c1 new) (lines_piece (after_lines c1 gone) back last))
    ≡ joined (bom_piece d) (lines_piece (first_line d) (prefix ++ (new ++ back)) last)
lines_replaced d prefix gone new back last =
    let c0 = first_line d in
    let c1 = after_lines c0 prefix in
    let c2 = after_lines c1 new in
    let before = joined (bom_piece d) (ended_piece c0 prefix) in
    let here : moved_flat origin c1 (lines_piece origin new empty_line) ≡ ended_piece c1 new =
    lines_moved origin c1 new empty_line ∙ lines_ended c1 new in
    let there = lines_moved (after_lines c1 gone) c2 back last in
    ap (λ (f : Flat).
    joined (joined before f) (moved_flat (after_lines c1 gone) c2 (lines_piece (after_lines c1 gone) back last))) here
    ∙ ap (λ (f : Flat). joined (joined before (ended_piece c1 new)) f) there
    ∙ joined_assoc before (ended_piece c1 new) (lines_piece c2 back last)
    ∙ ap (λ (f : Flat). joined before f) (sym (lines_prefix c1 new back last))
    ∙ joined_assoc (bom_piece d) (ended_piece c0 prefix) (lines_piece c1 (new ++ back) last)
    ∙ ap (λ (f : Flat). joined (bom_piece d) f) (sym (lines_prefix c0 prefix (new ++ back) last))

-- and where the new ones come last
pub lines_replaced_last : (d : Document) (prefix new : List Ended) (last : Line)
    → joined (joined (bom_piece d) (ended_piece (first_line d) prefix))
    (moved_flat origin (after_lines (first_line d) prefix) (lines_piece origin new last))
    ≡ joined (bom_piece d) (lines_piece (first_line d) (prefix ++ new) last)
lines_replaced_last d prefix new last =
    let c0 = first_line d in
    let c1 = after_lines c0 prefix in
    ap (λ (f : Flat). joined (joined (bom_piece d) (ended_piece c0 prefix)) f) (lines_moved origin c1 new last)
    ∙ joined_assoc (bom_piece d) (ended_piece c0 prefix) (lines_piece c1 new last)
    ∙ ap (λ (f : Flat). joined (bom_piece d) f) (sym (lines_prefix c0 prefix new last))
