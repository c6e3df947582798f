-- The places of tokens from one place on are those from another, moved.
--
-- Theorem: `starts_move`.
use Rattle.std.proofs.Common.{◌≡◌, ℕ, ◌+◌, List, [], ◌∷◌, length, map, refl, ap, ◌∙◌, arith}
use Rattle.keep_syntax.specs.Tree.{Written}
use Rattle.keep_syntax.specs.Growth.{starts}
use Rattle.keep_syntax_store.specs.Lifted.{moved}

-- from after one place to after another
starts_on : (old new k : ℕ) (ws : List Written) → starts (new + k) ws ≡ map (moved old new) (starts (old + k) ws)
starts_on old new k [] = refl
starts_on old new k (w ∷ ws) =
    ap (λ n. n ∷ starts (new + k + length w.text) ws) (let e : new + k ≡ moved old new (old + k) = omega arith in e)
    ∙ ap (λ n. moved old new (old + k) ∷ starts n ws)
    (let e : new + k + length w.text ≡ new + (k + length w.text) = omega arith in e)
    ∙ ap (λ xs. moved old new (old + k) ∷ xs) (starts_on old new (k + length w.text) ws)
    ∙ ap (λ n. moved old new (old + k) ∷ map (moved old new) (starts n ws))
    (let e : old + (k + length w.text) ≡ old + k + length w.text = omega arith in e)

pub starts_move : (old new : ℕ) (ws : List Written) → starts new ws ≡ map (moved old new) (starts old ws)
starts_move old new ws =
    ap (λ n. starts n ws) (let e : new ≡ new + 0 = omega arith in e) ∙ starts_on old new 0 ws
    ∙ ap (λ n. map (moved old new) (starts n ws)) (let e : old + 0 ≡ old = omega arith in e)
