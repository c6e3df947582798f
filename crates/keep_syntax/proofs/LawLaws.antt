-- The tokens of a document part its text, and there may be one more than bytes.
--
-- Theorems: `tokens_part`: the tokens part the text; `tokens_few`: there is at most one more than bytes;
-- `tokens_reach`: a text of any length can have as many.
use Rattle.std.proofs.Common.{◌≡◌, ℕ, zero, suc, ◌+◌, List, [], ◌∷◌, ◌++◌, length, refl, sym, ap, ◌∙◌, subst, arith}
use Rattle.std.proofs.Common.{append_assoc, inl, None, false}
use Rattle.std.specs.List.{AllByRecursion}
use Rattle.std.proofs.lemmas.List.{length-append, append-nil}
use Rattle.keep_types.specs.declared.leaf.Profile.TheVariants.{Strict}
use Rattle.keep_types.specs.declared.leaf.Leaf.TheVariants as leaf
use Rattle.keep_syntax.specs.Tree.{Written, Document, Ended, blank, text_of, token, leaves, text}
use Rattle.keep_syntax.specs.Grammar.{IsEnded}
use Rattle.keep_syntax.specs.Numbered.{Placed, placed, tokens}
use Rattle.keep_syntax.specs.Laws.{ArePartition, TokensPartition, TokensAreFew, TokensReachBound}
use Rattle.keep_syntax.proofs.SpaceLaws.{text_of-append}
use Rattle.keep_syntax.proofs.CountLaws.{AreSome, inner_leaves, leaves_end, document_some, leaves_count, tokens_count}
use Rattle.keep_syntax.proofs.PlaceLaws.{tokens_placed}
use Rattle.keep_syntax.proofs.CutLaws.{slice_is}

-- leaves after a part of the text, each of a byte at least, and End
parted : (bytes prefix : List ℕ) (ws : List Written) (at : ℕ) → at ≡ length prefix → bytes ≡ prefix ++ text_of ws
    → AreSome ws → ArePartition bytes at (placed at (ws ++ token leaf.End []))
parted bytes prefix [] at p e h = (refl, refl, refl, p ∙ sym (ap length (e ∙ append-nil prefix)))
parted bytes prefix (w ∷ []) at p e h =
    let next = at + length w.text in
    let end : next ≡ length bytes =
    omega (arith, p, ap length e, length-append prefix (w.text ++ []), ap length (append-nil w.text)) in
    (refl, h.0.0, sym (slice_is bytes prefix w.text [] at next p refl e), (refl, refl, refl, end))
parted bytes prefix (w ∷ v ∷ ws) at p e h =
    let next = at + length w.text in
    let rest =
    parted bytes (prefix ++ w.text) (v ∷ ws) next (omega (arith, p, length-append prefix w.text))
    (e ∙ sym (append_assoc prefix w.text (text_of (v ∷ ws)))) h.1 in
    (refl, h.0.0, sym (slice_is bytes prefix w.text (text_of (v ∷ ws)) at next p refl e), rest)

pub tokens_part : TokensPartition
tokens_part profile d h =
    let inner = inner_leaves d in
    let inner_text : text d ≡ text_of inner =
    ap text_of (leaves_end d) ∙ text_of-append inner (token leaf.End []) ∙ append-nil (text_of inner) in
    subst (λ (ts : List Placed). ArePartition (text d) 0 ts) (ap (placed 0) (sym (leaves_end d)))
    (parted (text d) [] inner 0 refl inner_text (document_some profile d h))

token_count : (d : Document) → length (tokens d) ≡ length (leaves d)
token_count d = sym (tokens_placed 0 (leaves d)) ∙ tokens_count 0 (leaves d)

pub tokens_few : TokensAreFew
tokens_few profile limit bytes d r = omega (arith, token_count d, leaves_count profile limit bytes d r)

-- ---- lines with nothing in them

abbrev ended_line : Ended
ended_line =
    record {
      line = record { before = []; content = blank; after = []; comment = None };
      newline = record { leaf = leaf.Newline; text = 0x0A ∷ [] };
    }

abbrev empty_lines : ℕ → List Ended
empty_lines zero = []
empty_lines (suc n) = ended_line ∷ empty_lines n

abbrev lines_only : ℕ → Document
lines_only n =
    record {
      bom = false;
      ended = empty_lines n;
      last = record { before = []; content = blank; after = []; comment = None };
    }

valid_lines : (n : ℕ) → AllByRecursion (IsEnded Strict) (empty_lines n)
valid_lines zero = tt
valid_lines (suc n) = (
  record {
    line = record { before = tt; content = tt; after = refl; comment = tt };
    kind = refl;
    newline = inl refl;
  },
  valid_lines n,
)

lines_text : (n : ℕ) → length (text (lines_only n)) ≡ n
lines_text zero = refl
lines_text (suc n) = ap suc (lines_text n)

lines_count : (n : ℕ) → length (leaves (lines_only n)) ≡ n + 1
lines_count zero = refl
lines_count (suc n) = omega (arith, lines_count n)

pub tokens_reach : TokensReachBound
tokens_reach n = (
  lines_only n,
  record { ended = valid_lines n; last = record { before = tt; content = tt; after = refl; comment = tt } },
  lines_text n,
  token_count (lines_only n) ∙ lines_count n,
)
