-- The texts of a document's tokens, joined, are its text; and there are as many token places as tokens.
--
-- Theorems: `tokens_text`: all tokens of a document joined are its text; `tokens_placed`: there are as many tokens
-- without their texts as with them.
use Rattle.std.proofs.Common.{◌≡◌, ℕ, suc, ◌+◌, List, [], ◌∷◌, ◌++◌, length, refl, ap}
use Rattle.std.specs.List.{flat_map}
use Rattle.keep_syntax.specs.Tree.{Written, Document, text_of, leaves, text}
use Rattle.keep_syntax.specs.Numbered.{Placed, placed, token_places, tokens}

-- the texts of tokens, joined
pub placed_text : (at : ℕ) (ws : List Written) → flat_map (λ (p : Placed). p.text) (placed at ws) ≡ text_of ws
placed_text at [] = refl
placed_text at (w ∷ ws) = ap (λ (t : List ℕ). w.text ++ t) (placed_text (at + length w.text) ws)

-- All tokens of a document joined are its text.
pub tokens_text : (s : Document) → flat_map (λ (p : Placed). p.text) (tokens s) ≡ text s
tokens_text s = placed_text 0 (leaves s)

-- as many tokens without their texts as with them
pub tokens_placed : (at : ℕ) (ws : List Written) → length (token_places at ws) ≡ length (placed at ws)
tokens_placed at [] = refl
tokens_placed at (w ∷ ws) = ap suc (tokens_placed (at + length w.text) ws)
