-- The tabs, spaces and newlines from a place on end where those after the first of them end.
--
-- Theorems: `white_at`: where a tab or a space comes first; `newline_at`: where a newline does; `nothing_at`: where
-- neither does, there are none.
use Rattle.std.proofs.Common.{◌≡◌, ℕ, ◌+◌, ◌<◌, true, false, ◌&&◌, ◌==◌, List, [], ◌∷◌, length, get_or, drop, refl, ap}
use Rattle.std.proofs.Common.{arith, inl, inr, add-zero, get_or-drop, length-drop}
use Rattle.std.proofs.lemmas.Bool.{cases_Bool}
use Rattle.std.proofs.lemmas.List.{drop-drop}
use Rattle.keep_token.specs.Abnf.{is_ws}
use Rattle.keep_token.specs.Pieces.{blank_len, newline_len}

white_first : (text : List ℕ) → 0 < length text → is_ws (get_or text 0 0) ≡ true
    → blank_len text ≡ 1 + blank_len (drop 1 text)
white_first [] some h = absurd (omega arith)
white_first (c ∷ []) some h = rw h refl
white_first (c ∷ d ∷ cs) some h = rw h (omega arith)

newline_first : (text : List ℕ) → is_ws (get_or text 0 0) ≡ false
    → blank_len text ≡ newline_len text + blank_len (drop (newline_len text) text)
newline_first [] h = refl
newline_first (c ∷ []) h =
    elim (cases_Bool (c == 0x0A)) [
      | inl e ↦ rw (h, e) refl
      | inr e ↦ elim (cases_Bool (c == 0x0D)) [ inl f ↦ rw (h, e, f, h, e) refl | inr f ↦ rw (h, e, f, h, e) refl ]
    ]
newline_first (c ∷ d ∷ cs) h =
    elim (cases_Bool (c == 0x0A)) [
      | inl e ↦ rw (h, e) (omega arith)
      | inr e ↦
          elim (cases_Bool (c == 0x0D && d == 0x0A)) [
            | inl f ↦ rw (h, e, f) (omega arith)
            | inr f ↦
                rw (h, e, f, h, e, f) refl
          ]
    ]

pub white_at : (bytes : List ℕ) (at : ℕ) → at < length bytes → is_ws (get_or bytes at 0) ≡ true
    → at + 1 + blank_len (drop (at + 1) bytes) ≡ at + blank_len (drop at bytes)
white_at bytes at h e =
    let here =
    white_first (drop at bytes) (omega (arith, length-drop at bytes)) (rw (get_or-drop at bytes 0 0, add-zero) e) in
    omega (arith, here, ap blank_len (drop-drop 1 at bytes))

nothing_first : (text : List ℕ) → is_ws (get_or text 0 0) ≡ false → newline_len text ≡ 0 → blank_len text ≡ 0
nothing_first [] h z = refl
nothing_first (c ∷ []) h z =
    elim (cases_Bool (c == 0x0A)) [
      | inl e ↦ absurd (let f = rw e at z in omega (arith, f))
      | inr e ↦ rw (h, e) refl
    ]
nothing_first (c ∷ d ∷ cs) h z =
    elim (cases_Bool (c == 0x0A)) [
      | inl e ↦ absurd (let f = rw e at z in omega (arith, f))
      | inr e ↦
          elim (cases_Bool (c == 0x0D && d == 0x0A)) [
            | inl f ↦ absurd (let g = rw (e, f) at z in omega (arith, g))
            | inr f ↦ rw (h, e, f) refl
          ]
    ]

pub newline_at : (bytes : List ℕ) (at n : ℕ) → n ≡ newline_len (drop at bytes) → is_ws (get_or bytes at 0) ≡ false
    → at + n + blank_len (drop (at + n) bytes) ≡ at + blank_len (drop at bytes)
newline_at bytes at n e h =
    let here = newline_first (drop at bytes) (rw (get_or-drop at bytes 0 0, add-zero) h) in
    omega (arith, here, e, ap (λ m. blank_len (drop m (drop at bytes))) e, ap blank_len (drop-drop n at bytes))

pub nothing_at : (bytes : List ℕ) (at : ℕ) → newline_len (drop at bytes) ≡ 0 → is_ws (get_or bytes at 0) ≡ false
    → blank_len (drop at bytes) ≡ 0
nothing_at bytes at z h = nothing_first (drop at bytes) (rw (get_or-drop at bytes 0 0, add-zero) h) z
