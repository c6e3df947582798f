-- A string in well-formed UTF-8 ends where the text may be cut.
--
-- A text may be cut before and after an ASCII byte (`cut_one`), and a string begins and ends in one: so it ends between
-- characters (`end_boundary`).
--
-- Theorems: `basic_boundary`, `literal_boundary`, `ml_basic_boundary` and `ml_literal_boundary`.
use Rattle.std.proofs.Common.{◌≡◌, ℕ, ◌+◌, ◌<◌, ◌≤◌, List, [], ◌∷◌, ◌++◌, length, get_or, take, drop, refl, sym, ap}
use Rattle.std.proofs.Common.{◌∙◌, subst, arith, append_assoc, take_at, drop_at, take-append-drop, length-append}
use Rattle.std.proofs.Common.{length-take, IsUtf8, IsCharBoundary}
use Rattle.std.proofs.lemmas.Str.{IsUtf8-take, IsUtf8-drop, IsCharBoundary-before_ascii, IsCharBoundary-after_ascii}
use Rattle.keep_types.specs.declared.leaf.Profile.{Profile}
use Rattle.keep_token.specs.Strings.{text_of, Basic, Literal, MlBasic, MlLiteral}

-- ---- cuts beside ASCII

-- before and after an ASCII byte
seam : (prefix : List ℕ) (c : ℕ) (rest : List ℕ) → get_or (prefix ++ (c ∷ rest)) (length prefix) 0 ≡ c
seam [] c rest = refl
seam (b ∷ prefix) c rest = seam prefix c rest

pub cut_one : (prefix : List ℕ) (c : ℕ) (rest : List ℕ) → c < 128 → IsUtf8 (prefix ++ (c ∷ rest))
    → IsUtf8 prefix × IsUtf8 rest
cut_one prefix c rest ascii u =
    let text = prefix ++ (c ∷ rest) in
    let within : length prefix < length text = omega (arith, length-append prefix (c ∷ rest)) in
    let low : get_or text (length prefix) 0 < 128 = rw (seam prefix c rest) ascii in
    let here = IsUtf8-take text (length prefix) u (IsCharBoundary-before_ascii text (length prefix) within low) in
    let after = IsUtf8-drop text (length prefix + 1) u (IsCharBoundary-after_ascii text (length prefix) u within low) in
    let dropped : drop (length prefix + 1) text ≡ rest =
    ap (drop (length prefix + 1)) (sym (append_assoc prefix (c ∷ []) rest))
    ∙ drop_at (prefix ++ (c ∷ [])) rest (length prefix + 1) (length-append prefix (c ∷ [])) in
    (subst IsUtf8 (take_at prefix (c ∷ rest) (length prefix) refl) here, subst IsUtf8 dropped after)

-- ---- where a string ends the text may be cut

end_boundary : (text : List ℕ) (n mark : ℕ) (prefix : List ℕ) → IsUtf8 text → n ≤ length text → mark < 128
    → take n text ≡ prefix ++ (mark ∷ []) → IsCharBoundary text n
end_boundary text n mark prefix u within low spelled =
    let rest = drop n text in
    let split : text ≡ prefix ++ (mark ∷ rest) =
    sym (take-append-drop n text) ∙ ap (λ t. t ++ rest) spelled ∙ append_assoc prefix (mark ∷ []) rest in
    let count : length prefix + 1 ≡ n =
    omega (arith, length-take n text, ap length spelled, length-append prefix (mark ∷ []), within) in
    let byte : get_or text (length prefix) 0 ≡ mark =
    ap (λ t. get_or t (length prefix) 0) split ∙ seam prefix mark rest in
    subst (λ k. IsCharBoundary text k) count
    (IsCharBoundary-after_ascii text (length prefix) u (omega (arith, count, within)) (rw byte low))

last_of_three : (mark : ℕ) (body : List ℕ)
    → mark ∷ mark ∷ mark ∷ body ++ (mark ∷ mark ∷ mark ∷ []) ≡ (mark ∷ mark ∷ mark ∷ body ++ (mark ∷ mark ∷ []))
    ++ (mark ∷ [])
last_of_three mark body = ap (λ t. mark ∷ mark ∷ mark ∷ t) (sym (append_assoc body (mark ∷ mark ∷ []) (mark ∷ [])))

pub basic_boundary : (profile : Profile) (text : List ℕ) (n : ℕ) → IsUtf8 text → n ≤ length text
    → Basic profile (take n text) → IsCharBoundary text n
basic_boundary profile text n u within (ps, h) =
    end_boundary text n 0x22 (0x22 ∷ text_of ps) u within (omega arith) h.spelled

pub literal_boundary : (text : List ℕ) (n : ℕ) → IsUtf8 text → n ≤ length text → Literal (take n text)
    → IsCharBoundary text n
literal_boundary text n u within (ps, h) = end_boundary text n 0x27 (0x27 ∷ text_of ps) u within (omega arith) h.spelled

pub ml_basic_boundary : (profile : Profile) (text : List ℕ) (n : ℕ) → IsUtf8 text → n ≤ length text
    → MlBasic profile (take n text) → IsCharBoundary text n
ml_basic_boundary profile text n u within (ps, h) =
    end_boundary text n 0x22 (0x22 ∷ 0x22 ∷ 0x22 ∷ text_of ps ++ (0x22 ∷ 0x22 ∷ [])) u within (omega arith)
    (h.spelled ∙ last_of_three 0x22 (text_of ps))

pub ml_literal_boundary : (text : List ℕ) (n : ℕ) → IsUtf8 text → n ≤ length text → MlLiteral (take n text)
    → IsCharBoundary text n
ml_literal_boundary text n u within (ps, h) =
    end_boundary text n 0x27 (0x27 ∷ 0x27 ∷ 0x27 ∷ text_of ps ++ (0x27 ∷ 0x27 ∷ [])) u within (omega arith)
    (h.spelled ∙ last_of_three 0x27 (text_of ps))
