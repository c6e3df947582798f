-- The tokens that stored kinds and starts cut out of a text, one by one, and as the leaves of a tree.
--
-- Theorems: `cut_next`: the token with a number, and those after it; `cut_placed`: the tokens are the leaves of a tree
-- with their places; `start_forward`: the tokens begin in order.
use Rattle.std.proofs.Common.{◌≡◌, ℕ, zero, suc, ◌+◌, ◌-◌, ◌≤◌, List, [], ◌∷◌, ◌++◌, length, get_or, take, drop}
use Rattle.std.proofs.Common.{slice_get, slice_range, Some, None, refl, sym, ap, ◌∙◌, arith, append_assoc, take_at}
use Rattle.std.proofs.Common.{drop_at}
use Rattle.std.proofs.lemmas.Option.{same_Some}
use Rattle.std.specs.List.{AllByRecursion}
use Rattle.std.proofs.lemmas.List.{length-append, append-nil}
use Rattle.keep_types.specs.declared.leaf.Leaf.{Leaf}
use Rattle.keep_types.specs.declared.leaf.Leaf.TheVariants as leaf
use Rattle.keep_syntax.specs.Tree.{Written, text_of, token}
use Rattle.keep_syntax.specs.Numbered.{width, Placed, placed}
use Rattle.keep_syntax.specs.Growth.{kinds, starts}
use Rattle.keep_syntax.specs.Cut.{start_in, cut}

-- ---- by number

start_after : (ss : List ℕ) (n d : ℕ) → get_or (drop 1 ss) n d ≡ get_or ss (suc n) d
start_after [] zero d = refl
start_after [] (suc n) d = refl
start_after (s ∷ ss) n d = refl

-- the token of a number
abbrev pub token_in : List ℕ → List ℕ → ℕ → Leaf → Placed
token_in text ss n l =
    record {
      leaf = l;
      at = start_in text ss n;
      text = slice_range text (start_in text ss n) (start_in text ss (suc n));
    }

after_is : (text ss : List ℕ) (n : ℕ) (l : Leaf) → token_in text (drop 1 ss) n l ≡ token_in text ss (suc n) l
after_is text ss n l = rw (start_after ss n (length text), start_after ss (suc n) (length text)) refl

pub cut_step : (text : List ℕ) (ks : List Leaf) (ss : List ℕ) (n : ℕ) (l : Leaf) → slice_get ks n ≡ Some l
    → drop n (cut text ks ss) ≡ token_in text ss n l ∷ drop (suc n) (cut text ks ss)
cut_step text [] ss n l e = absurd cc
cut_step text (k ∷ ks) ss zero l e = ap (λ (x : Leaf). token_in text ss 0 x ∷ cut text ks (drop 1 ss)) (same_Some k l e)
cut_step text (k ∷ ks) ss (suc n) l e =
    cut_step text ks (drop 1 ss) n l e
    ∙ ap (λ (t : Placed). t ∷ drop (suc n) (cut text ks (drop 1 ss))) (after_is text ss n l)

pub cut_end : (text : List ℕ) (ks : List Leaf) (ss : List ℕ) (n : ℕ) → slice_get ks n ≡ None
    → drop n (cut text ks ss) ≡ []
cut_end text [] ss zero e = refl
cut_end text [] ss (suc n) e = refl
cut_end text (k ∷ ks) ss zero e = absurd cc
cut_end text (k ∷ ks) ss (suc n) e = cut_end text ks (drop 1 ss) n e

pub cut_count : (text : List ℕ) (ks : List Leaf) (ss : List ℕ) → length (cut text ks ss) ≡ length ks
cut_count text [] ss = refl
cut_count text (k ∷ ks) ss = ap suc (cut_count text ks (drop 1 ss))

-- ---- where tokens begin

pub start_holds : (p : ℕ → Type 0) (text ss : List ℕ) → AllByRecursion p ss → p (length text) → (n : ℕ)
    → p (start_in text ss n)
start_holds p text [] h end n = end
start_holds p text (s ∷ ss) h end zero = h.0
start_holds p text (s ∷ ss) h end (suc n) = start_holds p text ss h.1 end n

first_start : (text : List ℕ) (a : ℕ) (ws : List Written) → a + width ws ≤ length text
    → a ≤ start_in text (starts a ws) 0
first_start text a [] le = omega arith
first_start text a (w ∷ ws) le = omega arith

pub start_forward : (text : List ℕ) (a : ℕ) (ws : List Written) → a + width ws ≤ length text → (n : ℕ)
    → start_in text (starts a ws) n ≤ start_in text (starts a ws) (suc n)
start_forward text a [] le n = omega arith
start_forward text a (w ∷ ws) le zero =
    omega (arith, first_start text (a + length w.text) ws (omega (arith, length-append w.text (text_of ws))))
start_forward text a (w ∷ ws) le (suc n) =
    start_forward text (a + length w.text) ws (omega (arith, length-append w.text (text_of ws))) n

-- ---- of leaves

-- the leaves after a part of the text begin where that ends
start_of : (text prefix : List ℕ) (ws : List Written) (at : ℕ) → at ≡ length prefix → text ≡ prefix ++ text_of ws
    → start_in text (starts at ws) 0 ≡ at
start_of text prefix [] at p e = ap length (e ∙ append-nil prefix) ∙ sym p
start_of text prefix (w ∷ ws) at p e = refl

-- the text from a place to a place
pub slice_is : (text prefix t rest : List ℕ) (at end : ℕ) → at ≡ length prefix → end ≡ at + length t
    → text ≡ prefix ++ (t ++ rest) → slice_range text at end ≡ t
slice_is text prefix t rest at end p q e =
    let n : end - at ≡ length t = omega (arith, q) in
    ap (λ (x : List ℕ). take (end - at) (drop at x)) e ∙ ap (take (end - at)) (drop_at prefix (t ++ rest) at (sym p))
    ∙ take_at t rest (end - at) (sym n)

pub cut_placed : (text prefix : List ℕ) (ws : List Written) (at : ℕ) → at ≡ length prefix → text ≡ prefix ++ text_of ws
    → cut text (kinds ws ++ (leaf.End ∷ [])) (starts at ws) ≡ placed at (ws ++ token leaf.End [])
cut_placed text prefix [] at p e =
    let n : length text ≡ at = ap length (e ∙ append-nil prefix) ∙ sym p in
    let t : slice_range text (length text) (length text) ≡ [] =
    slice_is text prefix [] [] (length text) (length text) (n ∙ p) (omega arith) e in
    ap (λ (x : List ℕ). record { leaf = leaf.End; at = length text; text = x } ∷ []) t
    ∙ ap (λ (x : ℕ). record { leaf = leaf.End; at = x; text = [] } ∷ []) n
cut_placed text prefix (w ∷ ws) at p e =
    let next = at + length w.text in
    let e' : text ≡ (prefix ++ w.text) ++ text_of ws = e ∙ sym (append_assoc prefix w.text (text_of ws)) in
    let p' : next ≡ length (prefix ++ w.text) = omega (arith, p, length-append prefix w.text) in
    let t : slice_range text at (start_in text (starts next ws) 0) ≡ w.text =
    slice_is text prefix w.text (text_of ws) at (start_in text (starts next ws) 0) p
    (start_of text (prefix ++ w.text) ws next p' e') e in
    ap (λ (x : List ℕ).
    record { leaf = w.leaf; at = at; text = x } ∷ cut text (kinds ws ++ (leaf.End ∷ [])) (starts next ws)) t
    ∙ ap (λ (ps : List Placed). record { leaf = w.leaf; at = at; text = w.text } ∷ ps)
    (cut_placed text (prefix ++ w.text) ws next p' e')

-- the token that is cut out at its places
pub cut_next : (text : List ℕ) (ks : List Leaf) (ss : List ℕ) (n : ℕ) (l : Leaf) (at end : ℕ) (t : List ℕ)
    → slice_get ks n ≡ Some l → at ≡ start_in text ss n → end ≡ start_in text ss (n + 1) → t ≡ slice_range text at end
    → drop n (cut text ks ss) ≡ record { leaf = l; at = at; text = t } ∷ drop (n + 1) (cut text ks ss)
cut_next text ks ss n l at end t k a b e =
    let m : n + 1 ≡ suc n = omega arith in
    let b' : end ≡ start_in text ss (suc n) = b ∙ ap (start_in text ss) m in
    rw (e, a, b', m) (cut_step text ks ss n l k)
