-- White space, a newline, and what is blank after it.
use Rattle.std.proofs.Common.{◌≡◌, ℕ, ◌+◌, ◌≤◌, false, ◌==◌, List, ◌∷◌, ◌++◌, length, take, drop, Some, None, refl, ap}
use Rattle.std.proofs.Common.{sym, ◌∙◌, arith}
use Rattle.std.proofs.lemmas.Bool.Decides.{nat_tests}
use Rattle.std.proofs.lemmas.List.{take_rest, drop-drop, length-take-le}
use Rattle.std.proofs.Common.{length-append}
use Rattle.std.specs.List.{prefix_len}
use Rattle.keep_token.specs.Abnf.{is_ws}
use Rattle.keep_token.specs.PieceLens.{piece_len}
use Rattle.keep_token.specs.Pieces.{newline_len, blank_len, line_end_at}
use Rattle.keep_token.proofs.escape.line_end_len.Goals as goal

spelled : (t : List ℕ) (w n b : ℕ) → w ≤ length t → n ≤ length (drop w t) → b ≤ length (drop n (drop w t))
    → length (0x5C ∷ take w t ++ (take n (drop w t) ++ take b (drop n (drop w t)))) ≡ 1 + (w + n) + b
spelled t w n b i j k =
    let e = length-take-le w t i in
    let f = length-take-le n (drop w t) j in
    let g = length-take-le b (drop n (drop w t)) k in
    simp length-append (omega (arith, e, f, g))

found : (t : List ℕ) (w n b : ℕ) → w ≡ prefix_len is_ws t → n ≡ newline_len (drop w t) → b ≡ blank_len (drop (w + n) t)
    → (n ≡ 0 → ⊥) → w ≤ length t → n ≤ length (drop w t) → b ≤ length (drop (w + n) t)
    → Some (1 + (w + n) + b) ≡ piece_len (line_end_at t)
found t w n b e f g some i j k =
    let plain : (n == 0) ≡ false = grind (arith, nat_tests) in
    let rest : drop n (drop w t) ≡ drop (w + n) t = drop-drop n w t in
    let len = spelled t w n b i j (rw rest k) in
    rw (← e, ← f, plain, rest, ← g) (ap Some (sym (rw rest at len)))

none : (t : List ℕ) (w n : ℕ) → w ≡ prefix_len is_ws t → n ≡ newline_len (drop w t) → n ≡ 0
    → None ≡ piece_len (line_end_at t)
none t w n e f z = rw (← e, ← f, z) refl

pub returns-clause-len : goal.returns-clause-len
returns-clause-len c =
    let t = c.args.bytes.now in
    let w = c.ws_run-white.result in
    let n = c.newline_len-newline.result in
    let rest = take_rest t w in
    let after = take_rest t (w + n) in
    found t w n c.blank_len.result c.ws_run-white.ensures.len (c.newline_len-newline.ensures.len ∙ ap newline_len rest)
    (c.blank_len.ensures.len ∙ ap blank_len after) c.if-newline-eq0.false c.ws_run-white.ensures.within
    (rw rest at c.newline_len-newline.ensures.within) (rw after at c.blank_len.ensures.within)

pub returns-then-newline-eq0-clause-len : goal.returns-then-newline-eq0-clause-len
returns-then-newline-eq0-clause-len c =
    none c.args.bytes.now c.ws_run-white.result c.newline_len-newline.result c.ws_run-white.ensures.len
    (c.newline_len-newline.ensures.len ∙ ap newline_len (take_rest c.args.bytes.now c.ws_run-white.result))
    c.if-newline-eq0.true
