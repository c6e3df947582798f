-- One iteration of the loop that reads lines, for the code: it goes on after a line and its newline, is ready after the
-- last line, or fails.
--
-- Theorems: `lines_newline`: after a line and its newline, the lines of the rest are read; `lines_last`: after the last
-- line the loop is ready; `lines_err`: where an iteration fails, so does the loop.
use Rattle.std.proofs.Common.{◌≡◌, ℕ, List, [], ◌∷◌, ◌++◌, drop, Some, Ok, Err, refl}
use Rattle.keep_types.specs.declared.leaf.Profile.{Profile}
use Rattle.keep_types.specs.declared.leaf.Leaf.TheVariants as leaf
use Rattle.keep_token.specs.Scanning.{gap_at}
use Rattle.keep_syntax.specs.Tree.{Line, Ended}
use Rattle.keep_syntax.specs.Reading.{Fault, continues, ready, written, line_at, ended_at, lines_of}
use Rattle.keep_syntax.proofs.LoopLaws.{loop_on, loop_ready, loop_err}
use Rattle.keep_syntax.proofs.DocumentLaws.{lines_shorten}

-- ---- lines

-- a line with its newline
pub lines_newline : (profile : Profile) (depth_left : ℕ) (prefix : List Ended) (text : List ℕ) (l : Line)
    (rest : List ℕ) (n : ℕ) → line_at profile depth_left text ≡ Ok (l, rest) → gap_at rest ≡ Some (leaf.Newline, n)
    → lines_of profile depth_left prefix text
    ≡ lines_of profile depth_left (prefix ++ (record { line = l; newline = written leaf.Newline n rest } ∷ []))
    (drop n rest)
unfolding ended_at gap_at
lines_newline profile depth_left prefix text l [] n e g = absurd cc
lines_newline profile depth_left prefix text l (c ∷ cs) n e g =
    let s = prefix ++ (record { line = l; newline = written leaf.Newline n (c ∷ cs) } ∷ []) in
    let iteration : ended_at profile depth_left prefix text ≡ Ok (continues s, drop n (c ∷ cs)) = rw (e, g) refl in
    loop_on (ended_at profile depth_left) (lines_shorten profile depth_left) prefix text s (drop n (c ∷ cs)) iteration

-- the last line
pub lines_last : (profile : Profile) (depth_left : ℕ) (prefix : List Ended) (text : List ℕ) (l : Line)
    → line_at profile depth_left text ≡ Ok (l, []) → lines_of profile depth_left prefix text ≡ Ok ((prefix, l), [])
unfolding ended_at
lines_last profile depth_left prefix text l e =
    let iteration : ended_at profile depth_left prefix text ≡ Ok (ready (prefix, l), []) = rw e refl in
    loop_ready (ended_at profile depth_left) prefix text (prefix, l) [] iteration

pub lines_err : (profile : Profile) (depth_left : ℕ) (prefix : List Ended) (text : List ℕ) (d : Fault)
    → ended_at profile depth_left prefix text ≡ Err d → lines_of profile depth_left prefix text ≡ Err d
lines_err profile depth_left prefix text d e = loop_err (ended_at profile depth_left) prefix text d e
