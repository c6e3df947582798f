-- Where the lines of a text, and what is in them, are spelled.
--
-- Theorems: `lines_spelled`: all lines, from the place of the first one; `next_spelled`: those after the first one;
-- `content_spelled`: the content of a line.
use Rattle.std.proofs.Common.{◌≡◌, ℕ, ◌+◌, List, [], ◌∷◌, ◌++◌, length, sym, subst, arith, append_assoc}
use Rattle.std.specs.List.{flat_map}
use Rattle.keep_types.specs.declared.leaf.Leaf.TheVariants as leaf
use Rattle.keep_syntax.specs.Tree.{Written, Gap, Key, Line, Ended, Document, token, key_leaves, content_leaves}
use Rattle.keep_syntax.specs.Tree.{comment_leaves, line_leaves, ended_leaves, bom_leaves, text_of, text}
use Rattle.keep_syntax.specs.Numbered.{width, Count, content_start, next_line, first_line}
use Rattle.keep_meaning.proofs.KeyPartLemmas.{IsPart, part_whole, part_right, part_placed, Spelled, spelled_left}
use Rattle.keep_meaning.proofs.KeyPartLemmas.{spelled_right}

-- the key of a header
pub head_spelled : (bytes : List ℕ) (at : ℕ) (first last : Written) (before : Gap) (key : Key) (after : Gap)
    → Spelled bytes at (first ∷ before ++ (key_leaves key ++ (after ++ (last ∷ []))))
    → Spelled bytes (at + length first.text + width before) (key_leaves key)
head_spelled bytes at first last before key after h =
    let rest : List Written = key_leaves key ++ (after ++ (last ∷ [])) in
    let a : Spelled bytes (at + length first.text) (before ++ rest) =
    part_right bytes at first.text (text_of (before ++ rest)) h in
    spelled_left bytes (at + length first.text + width before) (key_leaves key) (after ++ (last ∷ []))
    (spelled_right bytes (at + length first.text) before rest a)

-- the content of a line
pub content_spelled : (bytes : List ℕ) (c : Count) (l : Line) → Spelled bytes c.at (line_leaves l)
    → Spelled bytes (content_start c l) (content_leaves l.content)
content_spelled bytes c l h =
    let rest : List Written = l.after ++ comment_leaves l.comment in
    spelled_left bytes (content_start c l) (content_leaves l.content) rest
    (spelled_right bytes c.at l.before (content_leaves l.content ++ rest) h)

-- lines from a place on
abbrev pub LinesSpelled : List ℕ → ℕ → List Ended → Line → Type 0
LinesSpelled bytes at es last = Spelled bytes at (flat_map ended_leaves es ++ line_leaves last)

first_spelled : (bytes : List ℕ) (at : ℕ) (e : Ended) (es : List Ended) (last : Line)
    → LinesSpelled bytes at (e ∷ es) last
    → Spelled bytes at (ended_leaves e ++ (flat_map ended_leaves es ++ line_leaves last))
first_spelled bytes at e es last h =
    subst (Spelled bytes at) (append_assoc (ended_leaves e) (flat_map ended_leaves es) (line_leaves last)) h

-- the first of them, and those after it
pub line_spelled : (bytes : List ℕ) (c : Count) (e : Ended) (es : List Ended) (last : Line)
    → LinesSpelled bytes c.at (e ∷ es) last → Spelled bytes c.at (line_leaves e.line)
line_spelled bytes c e es last h =
    spelled_left bytes c.at (line_leaves e.line) (e.newline ∷ [])
    (spelled_left bytes c.at (ended_leaves e) (flat_map ended_leaves es ++ line_leaves last)
    (first_spelled bytes c.at e es last h))

pub next_spelled : (bytes : List ℕ) (c : Count) (e : Ended) (es : List Ended) (last : Line)
    → LinesSpelled bytes c.at (e ∷ es) last → LinesSpelled bytes (next_line c e).at es last
next_spelled bytes c e es last h =
    spelled_right bytes c.at (ended_leaves e) (flat_map ended_leaves es ++ line_leaves last)
    (first_spelled bytes c.at e es last h)

-- all lines come after the byte order mark
pub lines_spelled : (bytes : List ℕ) (d : Document) → bytes ≡ text d
    → LinesSpelled bytes (first_line d).at d.ended d.last
lines_spelled bytes d e =
    let end : List Written = token leaf.End [] in
    let ended : List Written = flat_map ended_leaves d.ended in
    let from : ℕ = 0 + width (bom_leaves d.bom) in
    let whole : Spelled bytes 0 (bom_leaves d.bom ++ (ended ++ (line_leaves d.last ++ end))) =
    subst (λ (t : List ℕ). IsPart bytes 0 t) e (part_whole bytes) in
    let after : Spelled bytes from (ended ++ (line_leaves d.last ++ end)) =
    spelled_right bytes 0 (bom_leaves d.bom) (ended ++ (line_leaves d.last ++ end)) whole in
    let lines : Spelled bytes from ((ended ++ line_leaves d.last) ++ end) =
    subst (Spelled bytes from) (sym (append_assoc ended (line_leaves d.last) end)) after in
    part_placed bytes from (first_line d).at (text_of (ended ++ line_leaves d.last)) (omega arith)
    (spelled_left bytes from (ended ++ line_leaves d.last) end lines)
