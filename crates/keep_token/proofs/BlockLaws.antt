-- A run of bytes that pass a test, seen sixteen at a time by the mask of those that fail it.
--
-- A block's lanes are compared all at once: what a lane is set to is what the tests say of its byte (`lane_is`, by
-- cases of five truth values), so the mask's bits are those of the bytes that end a run (`block_ends`). Where the mask
-- is 0 the run goes through the block (`run_through`); else it ends at the lowest bit (`run_stops`). The classes of
-- bytes that the code tests are those of the grammar, which is computed for each of the 256 bytes (`upto`). Digits have
-- a mask of their own (`block_non_digits`), and where it is 0 they go through the block (`digits_through`). White space
-- has one, too (`block_non_ws`).
--
-- Theorems: `block_ends`, `run_through`, `run_stops`, and `comment_class`, `basic_class` and `literal_class`, with
-- `comment_ends`, `basic_ends` and `literal_ends` where a block has the end; for digits `block_non_digits` and
-- `digits_through`; for white space `block_non_ws`.
use Rattle.std.proofs.Common.{◌≡◌, ℕ, zero, suc, ◌+◌, ◌*◌, ◌%◌, ◌^◌, ◌<◌, ◌≤◌, Bool, true, false, not, cond, eqb, ltb}
use Rattle.std.proofs.Common.{List, [], ◌∷◌, map, length, drop, take, take-add, replicate, bit_and, inl, inr, subst}
use Rattle.std.proofs.Common.{refl, sym, ap, ap₂, ◌∙◌, arith, w8, Fits}
use Rattle.std.specs.Prelude.{◌&&◌, ◌||◌, ◌==◌, nat_le}
use Rattle.std.specs.Char.{is_ascii_digit}
use Rattle.std.specs.List.{list_all, prefix_len}
use Rattle.std.proofs.lemmas.Bool.{and_parts, cases_Bool, cases_lt, eq-eqb, ne_eqb, eqb-true, eqb-false}
use Rattle.std.proofs.lemmas.Bool.Decides.{leb_tells, nat_tests}
use Rattle.std.proofs.lemmas.List.{length-map, length-drop}
use Rattle.std.proofs.lemmas.List.Folds.{list_all-append, prefix_len-append}
use Rattle.std.proofs.lemmas.List.Sums.{prefix_len-drop_all, prefix_len-drop_no, prefix_len-le-length, prefix_len_stops}
use Rattle.std.proofs.lemmas.Simd.{zip2_splat, zip2_splat_left, zip2-map, mask_l-mod, chunk-drop, length-chunk}
use Rattle.std.proofs.lemmas.Simd.{leading_from_mask_l, trailing_mask_l}
use lib.Bits.{bit_or}
use lib.Lanes.{zip2, mask_l, top, chunk, Each1}
use lib.Count.{count_trailing_zeros}
use Rattle.keep_token.specs.Abnf.{between, is_comment}
use Rattle.keep_token.specs.Strings.{is_basic, is_literal}
use Rattle.keep_token.specs.Blocks.{ends_run, is_non_digit, is_non_ws, is_plain}
use Rattle.keep_token.proofs.ClassLaws.{same, same_is}

-- ---- the mask of a block

-- what a lane is set to where its byte is below, other than, or the same as a byte
abbrev below : ℕ → ℕ → ℕ
below a b = cond (ltb a b) 255 0

abbrev other : ℕ → ℕ → ℕ
other a b = cond (not (eqb a b)) 255 0

abbrev equal : ℕ → ℕ → ℕ
equal a b = cond (eqb a b) 255 0

-- the test holds of each number below n
abbrev upto : (ℕ → Bool) → ℕ → Bool
upto p zero = true
upto p (suc n) = p n && upto p n

upto_sound : (p : ℕ → Bool) (n i : ℕ) → upto p n ≡ true → i < n → p i ≡ true
upto_sound p zero i h lt = absurd (omega arith)
upto_sound p (suc n) i h lt =
    by (eqb i n) refl (λ (less : i < n). upto_sound p n i (and_parts (p n) (upto p n) h).1 less)
  where
    by : (b : Bool) → eqb i n ≡ b → (i < n → p i ≡ true) → p i ≡ true
    by true e more = ap p (eqb-true i n e) ∙ (and_parts (p n) (upto p n) h).0
    by false e more = more (omega (arith, eqb-false i n e))

-- a control character but for the tab
abbrev control : ℕ → Bool
control x = (ltb x 0x20 && not (eqb x 9)) || eqb x 0x7F

abbrev right_control : ℕ → Bool
right_control x = same (control x) (not (is_comment x))

right_controls : upto right_control 256 ≡ true
right_controls = refl

-- a lane that a test sets
abbrev set_by : Bool → ℕ
set_by b = cond b 255 0

top_set : (a : Bool) → top 7 (set_by a) ≡ a
top_set true = refl
top_set false = refl

or_set : (a b : Bool) → bit_or (set_by a) (set_by b) ≡ set_by (a || b)
or_set true true = refl
or_set true false = refl
or_set false true = refl
or_set false false = refl

and_set : (a b : Bool) → bit_and (set_by a) (set_by b) ≡ set_by (a && b)
and_set true true = refl
and_set true false = refl
and_set false true = refl
and_set false false = refl

-- the lane of a byte, by its six tests
abbrev lane : Bool → Bool → Bool → Bool → Bool → Bool → ℕ
lane low tab del also a b =
    bit_or (bit_and (bit_or (bit_and (set_by low) (set_by (not tab))) (set_by del)) (set_by (not also)))
    (bit_or (set_by a) (set_by b))

lane_is : (low tab del also a b : Bool)
    → top 7 (lane low tab del also a b) ≡ ((((low && not tab) || del) && not also) || (a || b))
lane_is low tab del also a b =
    let one = ap (λ (n : ℕ). bit_or n (set_by del)) (and_set low (not tab)) ∙ or_set (low && not tab) del in
    let two = ap (λ (n : ℕ). bit_and n (set_by (not also))) one ∙ and_set ((low && not tab) || del) (not also) in
    let both = ap₂ bit_or two (or_set a b) ∙ or_set (((low && not tab) || del) && not also) (a || b) in
    ap (top 7) both ∙ top_set ((((low && not tab) || del) && not also) || (a || b))

not_plain : (c also m : Bool) → ((not c && not also) || m) ≡ not ((c || also) && not m)
not_plain true also true = refl
not_plain true also false = refl
not_plain false true true = refl
not_plain false true false = refl
not_plain false false m = refl

abbrev lane_of : ℕ → ℕ → ℕ → ℕ → ℕ
lane_of also a b x = lane (ltb x 0x20) (eqb x 9) (eqb x 0x7F) (eqb x also) (eqb x a) (eqb x b)

each_lane : (also a b : ℕ) (v : List ℕ) → Each1 (Fits w8) v
    → map (top 7) (map (lane_of also a b) v) ≡ map (ends_run also a b) v
each_lane also a b [] fits = refl
each_lane also a b (x ∷ xs) fits =
    let is : control x ≡ not (is_comment x) = same_is _ _ (upto_sound right_control 256 x right_controls fits.0.fits) in
    let here : top 7 (lane_of also a b x) ≡ ends_run also a b x =
    lane_is (ltb x 0x20) (eqb x 9) (eqb x 0x7F) (eqb x also) (eqb x a) (eqb x b)
    ∙ ap (λ (c : Bool). (c && not (eqb x also)) || (eqb x a || eqb x b)) is
    ∙ not_plain (is_comment x) (eqb x also) (eqb x a || eqb x b) in
    ap₂ (λ (c : Bool) (cs : List Bool). c ∷ cs) here (each_lane also a b xs fits.1)

pub block_ends : (also a b : ℕ) (v : List ℕ) → length v ≡ 16 → Each1 (Fits w8) v
    → mask_l (map (top 7) (zip2 bit_or
    (zip2 bit_and (zip2 bit_or (zip2 bit_and (zip2 below v (replicate 16 0x20)) (zip2 other v (replicate 16 9)))
    (zip2 equal v (replicate 16 0x7F))) (zip2 other v (replicate 16 also)))
    (zip2 bit_or (zip2 equal v (replicate 16 a)) (zip2 equal v (replicate 16 b))))) % 2 ^ 64
    ≡ mask_l (map (ends_run also a b) v)
block_ends also a b v long fits =
    let low =
    ap₂ (zip2 bit_and) (zip2_splat below v 16 0x20 long) (zip2_splat other v 16 9 long)
    ∙ zip2-map bit_and (λ x. below x 0x20) (λ x. other x 9) v in
    let some =
    ap₂ (zip2 bit_or) low (zip2_splat equal v 16 0x7F long)
    ∙ zip2-map bit_or (λ x. bit_and (below x 0x20) (other x 9)) (λ x. equal x 0x7F) v in
    let control =
    ap₂ (zip2 bit_and) some (zip2_splat other v 16 also long)
    ∙ zip2-map bit_and (λ x. bit_or (bit_and (below x 0x20) (other x 9)) (equal x 0x7F)) (λ x. other x also) v in
    let marks =
    ap₂ (zip2 bit_or) (zip2_splat equal v 16 a long) (zip2_splat equal v 16 b long)
    ∙ zip2-map bit_or (λ x. equal x a) (λ x. equal x b) v in
    let lanes =
    ap₂ (zip2 bit_or) control marks
    ∙ zip2-map bit_or (λ x. bit_and (bit_or (bit_and (below x 0x20) (other x 9)) (equal x 0x7F)) (other x also))
    (λ x. bit_or (equal x a) (equal x b)) v in
    ap (λ (l : List ℕ). mask_l (map (top 7) l) % 2 ^ 64) lanes
    ∙ ap (λ (l : List Bool). mask_l l % 2 ^ 64) (each_lane also a b v fits)
    ∙ mask_l-mod (map (ends_run also a b) v) 64 (omega (arith, length-map v (ends_run also a b)))

-- ---- the mask of a block's bytes that are no digits

not_digit : (x : ℕ) → (ltb x 48 || ltb 57 x) ≡ is_non_digit x
not_digit x = grind (arith, nat_tests)

each_non_digit : (v : List ℕ) → map (top 7) (map (λ x. bit_or (below x 48) (below 57 x)) v) ≡ map is_non_digit v
each_non_digit [] = refl
each_non_digit (x ∷ xs) =
    let here : top 7 (bit_or (below x 48) (below 57 x)) ≡ is_non_digit x =
    ap (top 7) (or_set (ltb x 48) (ltb 57 x)) ∙ top_set (ltb x 48 || ltb 57 x) ∙ not_digit x in
    ap₂ (λ (c : Bool) (cs : List Bool). c ∷ cs) here (each_non_digit xs)

pub block_non_digits : (v : List ℕ) → length v ≡ 16
    → mask_l (map (top 7) (zip2 bit_or (zip2 below v (replicate 16 48)) (zip2 below (replicate 16 57) v))) % 2 ^ 64
    ≡ mask_l (map is_non_digit v)
block_non_digits v long =
    let lanes =
    ap₂ (zip2 bit_or) (zip2_splat below v 16 48 long) (zip2_splat_left below 57 16 v long)
    ∙ zip2-map bit_or (λ x. below x 48) (below 57) v in
    ap (λ (l : List ℕ). mask_l (map (top 7) l) % 2 ^ 64) lanes
    ∙ ap (λ (l : List Bool). mask_l l % 2 ^ 64) (each_non_digit v)
    ∙ mask_l-mod (map is_non_digit v) 64 (omega (arith, length-map v is_non_digit))

-- ---- the mask of a block's bytes that are no white space

neither : (a b : Bool) → (not a && not b) ≡ not (a || b)
neither true b = refl
neither false b = refl

each_non_ws : (v : List ℕ) → map (top 7) (map (λ x. bit_and (other x 0x20) (other x 9)) v) ≡ map is_non_ws v
each_non_ws [] = refl
each_non_ws (x ∷ xs) =
    let here : top 7 (bit_and (other x 0x20) (other x 9)) ≡ is_non_ws x =
    ap (top 7) (and_set (not (eqb x 0x20)) (not (eqb x 9)))
    ∙ top_set (not (eqb x 0x20) && not (eqb x 9))
    ∙ neither (eqb x 0x20) (eqb x 9) in
    ap₂ (λ (c : Bool) (cs : List Bool). c ∷ cs) here (each_non_ws xs)

pub block_non_ws : (v : List ℕ) → length v ≡ 16
    → mask_l (map (top 7) (zip2 bit_and (zip2 other v (replicate 16 0x20)) (zip2 other v (replicate 16 9)))) % 2 ^ 64
    ≡ mask_l (map is_non_ws v)
block_non_ws v long =
    let lanes =
    ap₂ (zip2 bit_and) (zip2_splat other v 16 0x20 long) (zip2_splat other v 16 9 long)
    ∙ zip2-map bit_and (λ x. other x 0x20) (λ x. other x 9) v in
    ap (λ (l : List ℕ). mask_l (map (top 7) l) % 2 ^ 64) lanes
    ∙ ap (λ (l : List Bool). mask_l l % 2 ^ 64) (each_non_ws v)
    ∙ mask_l-mod (map is_non_ws v) 64 (omega (arith, length-map v is_non_ws))

-- ---- digits

-- where no bit is set, each byte is a digit
no_bit : (b : Bool) (m : ℕ) → cond (not b) 1 0 + 2 * m ≡ 0 → (b ≡ true) × (m ≡ 0)
no_bit true m e = (refl, omega arith)
no_bit false m e = absurd (omega arith)

all_digits : (xs : List ℕ) → mask_l (map is_non_digit xs) ≡ 0 → list_all is_ascii_digit xs ≡ true
all_digits [] e = refl
all_digits (x ∷ xs) e = let is = no_bit (is_ascii_digit x) _ e in rw is.0 (all_digits xs is.1)

-- digits go through a block with no other byte
pub digits_through : (d : List ℕ) (i n : ℕ) → list_all is_ascii_digit (take i d) ≡ true
    → mask_l (map is_non_digit (chunk i n d)) ≡ 0 → list_all is_ascii_digit (take (i + n) d) ≡ true
digits_through d i n before none =
    ap (list_all is_ascii_digit) (take-add i n d) ∙ list_all-append is_ascii_digit (take i d) (chunk i n d)
    ∙ (rw (before, all_digits (chunk i n d) none) refl)

-- ---- a run, block by block

none_fails : (b : Bool) (n l m : ℕ) → n ≤ l → cond (not b) (1 + n) 0 ≡ 1 + l → (n ≡ l → m ≡ 0) → cond b 1 0 + 2 * m ≡ 0
none_fails true n l m le e ih = absurd (omega arith)
none_fails false n l m le e ih = let z = ih (omega arith) in omega arith

module _ (p q : ℕ → Bool) (opposite : (x : ℕ) → q x ≡ not (p x)) where
  same_run : (xs : List ℕ) → prefix_len q xs ≡ prefix_len (λ x. not (p x)) xs
  same_run [] = refl
  same_run (x ∷ xs) = ap₂ (λ b n. cond b (1 + n) 0) (opposite x) (same_run xs)

  all_pass : (xs : List ℕ) → prefix_len (λ x. not (p x)) xs ≡ length xs → mask_l (map p xs) ≡ 0
  all_pass [] e = refl
  all_pass (x ∷ xs) e =
      none_fails (p x) _ (length xs) _ (prefix_len-le-length (λ y. not (p y)) xs) (omega arith) (all_pass xs)

  split : (d : List ℕ) (i n : ℕ)
      → prefix_len q (drop i d) ≡ cond (eqb (prefix_len q (chunk i n d)) (length (chunk i n d))) (length (chunk i n d)
      + prefix_len q (drop (i + n) d)) (prefix_len q (chunk i n d))
  split d i n = ap (prefix_len q) (chunk-drop i n d) ∙ prefix_len-append q (chunk i n d) (drop (i + n) d)

  -- the run goes through a block in which no byte fails
  pub run_through : (d : List ℕ) (i n : ℕ) → i + n ≤ length d → mask_l (map p (chunk i n d)) ≡ 0
      → prefix_len q (drop i d) ≡ n + prefix_len q (drop (i + n) d)
  run_through d i n room none =
      let c = chunk i n d in
      split d i n
      ∙ ap (λ b. cond b (length c + prefix_len q (drop (i + n) d)) (prefix_len q c))
      (eq-eqb _ _ (same_run c ∙ leading_from_mask_l p c none))
      ∙ ap (λ k. k + prefix_len q (drop (i + n) d)) (length-chunk i n d room)

  -- and ends in one where some byte fails
  pub run_stops : (d : List ℕ) (i n : ℕ) → i + n ≤ length d → n ≤ 64 → 0 < mask_l (map p (chunk i n d))
      → prefix_len q (drop i d) ≡ count_trailing_zeros 64 (mask_l (map p (chunk i n d)))
  run_stops d i n room short some =
      let c = chunk i n d in
      split d i n
      ∙ ap (λ b. cond b (length c + prefix_len q (drop (i + n) d)) (prefix_len q c))
      (ne_eqb _ _ (λ (e : prefix_len q c ≡ length c). omega (arith, all_pass c (sym (same_run c) ∙ e))))
      ∙ same_run c ∙ sym (trailing_mask_l p 64 c (omega (arith, length-chunk i n d room)) some)

-- after a whole run comes none
after_run : (p : ℕ → Bool) (xs : List ℕ) → prefix_len p (drop (prefix_len p xs) xs) ≡ 0
after_run p xs = elim (cases_lt (prefix_len p xs) (length xs)) [
  | inl within ↦ prefix_len-drop_no p xs (prefix_len p xs) 0 within (prefix_len_stops p xs 0 within)
  | inr past ↦ prefix_len-drop_all p xs (prefix_len p xs) past
]

-- a run of n bytes, and none after it
pub run_whole : (p : ℕ → Bool) (d : List ℕ) (n : ℕ) → prefix_len p d ≡ n
    → prefix_len p d ≡ n + prefix_len p (drop n d)
run_whole p d n is =
    let none : prefix_len p (drop n d) ≡ 0 = subst (λ (k : ℕ). prefix_len p (drop k d) ≡ 0) is (after_run p d) in
    omega (arith, is, none)

pub run_bound : (q : ℕ → Bool) (d : List ℕ) (i : ℕ) → i ≤ length d → i + prefix_len q (drop i d) ≤ length d
run_bound q d i h = omega (arith, prefix_len-le-length q (drop i d), length-drop i d)

not_not : (b : Bool) → b ≡ not (not b)
not_not true = refl
not_not false = refl

pub opposite_class : (q : ℕ → Bool) (x : ℕ) → q x ≡ not (not (q x))
opposite_class q x = not_not (q x)

-- ---- the classes of bytes that runs are of

and_none : (b : Bool) → (b && false) ≡ false
and_none true = refl
and_none false = refl

eq_over : (k c : ℕ) → k < c → eqb c k ≡ false
eq_over k c h = ne_eqb c k (λ (e : c ≡ k). omega arith)

between_over : (from to c : ℕ) → to < c → between from to c ≡ false
between_over from to c h =
    elim (leb_tells c to) [ inl p ↦ absurd (let le = p.1 in omega arith) | inr p ↦ rw p.0 (and_none (nat_le from c)) ]

comment_over : (c : ℕ) → 256 ≤ c → is_comment c ≡ false
comment_over c h =
    rw (eq_over 9 c (omega arith), between_over 0x20 0x7E c (omega arith), between_over 0x80 0xFF c (omega arith)) refl

plain_over : (also a b c : ℕ) → also < 256 → 256 ≤ c → is_plain also a b c ≡ false
plain_over also a b c small h = rw (comment_over c h, eq_over also c (omega arith)) refl

basic_over : (c : ℕ) → 256 ≤ c → is_basic c ≡ false
basic_over c h =
    rw (
      eq_over 0x20 c (omega arith),
      eq_over 9 c (omega arith),
      eq_over 0x21 c (omega arith),
      between_over 0x23 0x5B c (omega arith),
      between_over 0x5D 0x7E c (omega arith),
      between_over 0x80 0xFF c (omega arith),
    ) refl

literal_over : (c : ℕ) → 256 ≤ c → is_literal c ≡ false
literal_over c h =
    rw (
      eq_over 9 c (omega arith),
      between_over 0x20 0x26 c (omega arith),
      between_over 0x28 0x7E c (omega arith),
      between_over 0x80 0xFF c (omega arith),
    ) refl

-- two classes that agree on bytes, and have nothing else
module _ (p q : ℕ → Bool) (bytes : upto (λ x. same (p x) (q x)) 256 ≡ true) (p_none : (x : ℕ) → 256 ≤ x → p x ≡ false)
    (q_none : (x : ℕ) → 256 ≤ x → q x ≡ false) where
  one_class : (x : ℕ) → p x ≡ q x
  one_class x = elim (leb_tells 256 x) [
    | inl far ↦ p_none x far.1 ∙ sym (q_none x far.1)
    | inr near ↦ same_is (p x) (q x) (upto_sound (λ y. same (p y) (q y)) 256 x bytes near.1)
  ]

  pub one_run : (xs : List ℕ) → prefix_len p xs ≡ prefix_len q xs
  one_run [] = refl
  one_run (x ∷ xs) = ap₂ (λ b n. cond b (1 + n) 0) (one_class x) (one_run xs)

-- a run of a class goes on after as many bytes as a run of plain bytes, with no control character but the tab, is known
-- to have
module _ (q : ℕ → Bool) (a b : ℕ) (bytes : upto (λ x. same (is_plain 9 a b x) (q x)) 256 ≡ true)
    (none : (x : ℕ) → 256 ≤ x → q x ≡ false) where
  pub class_is : (x : ℕ) → is_plain 9 a b x ≡ q x
  class_is = one_class (is_plain 9 a b) q bytes (λ x far. plain_over 9 a b x (omega arith) far) none

  pub class_run : (d : List ℕ) (i : ℕ) → prefix_len (is_plain 9 a b) d ≡ i + prefix_len (is_plain 9 a b) (drop i d)
      → prefix_len q d ≡ i + prefix_len q (drop i d)
  class_run d i run =
      let same_run : (xs : List ℕ) → prefix_len (is_plain 9 a b) xs ≡ prefix_len q xs =
      one_run (is_plain 9 a b) q bytes (λ x far. plain_over 9 a b x (omega arith) far) none in
      sym (same_run d) ∙ run ∙ ap (λ (n : ℕ). i + n) (same_run (drop i d))

  -- and so where a run of plain bytes is known to end
  pub class_ends : (d : List ℕ) (n : ℕ) → prefix_len (is_plain 9 a b) d ≡ n → prefix_len q d ≡ n
  class_ends d n is =
      sym (one_run (is_plain 9 a b) q bytes (λ x far. plain_over 9 a b x (omega arith) far) none d) ∙ is

pub comment_class : (d : List ℕ) (i : ℕ)
    → prefix_len (is_plain 9 0x7F 0x7F) d ≡ i + prefix_len (is_plain 9 0x7F 0x7F) (drop i d)
    → prefix_len is_comment d ≡ i + prefix_len is_comment (drop i d)
comment_class = class_run is_comment 0x7F 0x7F refl comment_over

pub comment_ends : (d : List ℕ) (n : ℕ) → prefix_len (is_plain 9 0x7F 0x7F) d ≡ n → prefix_len is_comment d ≡ n
comment_ends = class_ends is_comment 0x7F 0x7F refl comment_over

pub basic_class : (d : List ℕ) (i : ℕ)
    → prefix_len (is_plain 9 0x22 0x5C) d ≡ i + prefix_len (is_plain 9 0x22 0x5C) (drop i d)
    → prefix_len is_basic d ≡ i + prefix_len is_basic (drop i d)
basic_class = class_run is_basic 0x22 0x5C refl basic_over

pub basic_ends : (d : List ℕ) (n : ℕ) → prefix_len (is_plain 9 0x22 0x5C) d ≡ n → prefix_len is_basic d ≡ n
basic_ends = class_ends is_basic 0x22 0x5C refl basic_over

pub literal_class : (d : List ℕ) (i : ℕ)
    → prefix_len (is_plain 9 0x27 0x27) d ≡ i + prefix_len (is_plain 9 0x27 0x27) (drop i d)
    → prefix_len is_literal d ≡ i + prefix_len is_literal (drop i d)
literal_class = class_run is_literal 0x27 0x27 refl literal_over

pub literal_ends : (d : List ℕ) (n : ℕ) → prefix_len (is_plain 9 0x27 0x27) d ≡ n → prefix_len is_literal d ≡ n
literal_ends = class_ends is_literal 0x27 0x27 refl literal_over

-- ---- over many lines

-- a plain byte but for the one more
other_plain : (also a b c : ℕ) → (c == also) ≡ false → is_plain also a b c ≡ true → is_plain 9 a b c ≡ true
other_plain also a b c other e =
    let plain : (is_comment c || false) && not (c == a || c == b) ≡ true = rw other at e in
    elim (cases_Bool (is_comment c)) [
      | inl f ↦ rw f (rw f at plain)
      | inr f ↦ absurd (let never = rw f at plain in cc)
    ]

pub basic_or_line_feed : (c : ℕ) → (c == 0x0A) ≡ false → is_plain 0x0A 0x22 0x5C c ≡ true → is_basic c ≡ true
basic_or_line_feed c other e =
    sym (class_is is_basic 0x22 0x5C refl basic_over c) ∙ other_plain 0x0A 0x22 0x5C c other e

pub literal_or_line_feed : (c : ℕ) → (c == 0x0A) ≡ false → is_plain 0x0A 0x27 0x27 c ≡ true → is_literal c ≡ true
literal_or_line_feed c other e =
    sym (class_is is_literal 0x27 0x27 refl literal_over c) ∙ other_plain 0x0A 0x27 0x27 c other e
