-- A leaf in a gap ends where a character ends: after an ASCII byte, or before one.
--
-- In UTF-8 a character ends after each ASCII byte (`after_ascii`), and before each or at the end of the text
-- (`before_ascii`). The last byte of white space and of a newline is ASCII (`white_last`, `newline_last`), and the text
-- has this byte there (`last_of`). A comment may end with another character; but the byte after it, if there is one, is
-- one that no comment has (`comment_stops`), and these are ASCII (`low_after_comment`). What the code finds in the rest
-- of its bytes is what the same function finds in the text from the place on (`at_rest`). What `gap_at` finds there is
-- a leaf (`gap_at_place`), by `gap_found`, and the only one (`gap_only_found`, `gap_only_none`), by `gap_one`.
--
-- Theorems: `gap_ends`: where the leaf that is found ends; `gap_at_place` and `gap_only_found`: it is the leaf at the
-- place, and no other is.
use Rattle.std.proofs.Common.{◌≡◌, ℕ, zero, suc, ◌+◌, ◌-◌, ◌<◌, ◌≤◌, true, false, List, [], ◌∷◌, ◌++◌, length, get_or}
use Rattle.std.proofs.Common.{take, drop, Option, Some, None, sym, ap, ◌∙◌, inl, inr, arith, add-zero, get_or-drop}
use Rattle.std.proofs.Common.{length-drop}
use Rattle.std.specs.Prelude.{IsUtf8, IsCharBoundary}
use Rattle.std.proofs.lemmas.Bool.{cases_lt}
use Rattle.std.proofs.lemmas.Bool.Decides.{nat_tests}
use Rattle.std.proofs.lemmas.List.{get_or-take, length-take, take_rest}
use Rattle.std.proofs.lemmas.Str.{IsCharBoundary-end, IsCharBoundary-before_ascii, IsCharBoundary-after_ascii}
use Rattle.std.specs.List.{prefix_len}
use Rattle.keep_types.specs.declared.leaf.Leaf.{Leaf}
use Rattle.keep_types.specs.declared.leaf.Leaf.TheVariants as leaf
use Rattle.keep_types.specs.declared.leaf.Profile.TheVariants.{Strict}
use Rattle.keep_token.specs.Abnf.{is_ws, is_comment}
use Rattle.keep_token.specs.Leaves.{IsLeaf, GapLeaf}
use Rattle.keep_token.specs.Pieces.{first}
use Rattle.keep_token.specs.Scanning.{gap_at}
use Rattle.keep_token.proofs.GapLaws.{gap_cases, white, line, comment, nothing}
use Rattle.keep_token.proofs.GapLeaves.{all_pass, gap_found, gap_one}

-- after an ASCII byte
pub after_ascii : (text : List ℕ) (at n : ℕ) → IsUtf8 text → 0 < n → n ≤ length (drop at text)
    → get_or (drop at text) (n - 1) 0 < 128 → IsCharBoundary text (at + n)
after_ascii text at n utf8 some le low =
    let here : get_or text (at + (n - 1)) 0 < 128 = rw (get_or-drop at text (n - 1) 0) at low in
    let within : at + (n - 1) < length text = omega (arith, length-drop at text) in
    let ends : IsCharBoundary text (at + (n - 1) + 1) =
    IsCharBoundary-after_ascii text (at + (n - 1)) utf8 within here in
    let same : at + (n - 1) + 1 ≡ at + n = omega arith in
    rw same at ends

-- before an ASCII byte, or at the end
pub before_ascii : (text : List ℕ) (at n : ℕ) → at ≤ length text → n ≤ length (drop at text)
    → first (drop n (drop at text)) < 128 → IsCharBoundary text (at + n)
before_ascii text at n le within low =
    let e : length (drop at text) ≡ length text - at = length-drop at text in
    elim (cases_lt (at + n) (length text)) [
      | inl lt ↦
          let here : get_or (drop at text) n 0 < 128 = rw (get_or-drop n (drop at text) 0 0, add-zero) at low in
          IsCharBoundary-before_ascii text (at + n) lt (rw (get_or-drop at text n 0) at here)
      | inr ge ↦
          let same : at + n ≡ length text = omega arith in
          rw same (IsCharBoundary-end text)
    ]

-- ---- gaps

white_last : (t : List ℕ) → IsLeaf Strict leaf.Ws t → get_or t (length t - 1) 0 < 128
white_last t h =
    let pass : is_ws (get_or t (length t - 1) 0) ≡ true = all_pass is_ws t (length t - 1) h.1 (omega (arith, h.0)) in
    grind (arith, nat_tests)

newline_last : (t : List ℕ) → IsLeaf Strict leaf.Newline t → get_or t (length t - 1) 0 < 128
newline_last t (inl h) = rw h (omega arith)
newline_last t (inr h) = rw h (omega arith)

newline_some : (text : List ℕ) (n : ℕ) → IsLeaf Strict leaf.Newline (take n text) → 0 < n
newline_some text zero (inl h) = absurd cc
newline_some text zero (inr h) = absurd cc
newline_some text (suc n) h = omega arith

pub some_injective : {A : Type 0} {x y : A} → ◌≡◌ {A = Option A} (Some x) (Some y) → x ≡ y
some_injective e = cc

other_leaf : leaf.Comment ≡ leaf.Ws → ⊥
other_leaf e = cc

other_leaf' : leaf.Comment ≡ leaf.Newline → ⊥
other_leaf' e = cc

comment_some : (text : List ℕ) (n : ℕ) → IsLeaf Strict leaf.Comment (take n text) → 0 < n
comment_some text zero (a, b, spelled, hash, all) =
    absurd (let k : [] ≡ 0x23 ∷ b = spelled ∙ ap (λ (x : List ℕ). x ++ b) hash in cc)
comment_some text (suc n) h = omega arith

gap_some : (text : List ℕ) (l : Leaf) (n : ℕ) → GapLeaf text l n → 0 < n
gap_some text leaf.Ws n h = omega (arith, h.leaf.belongs.0, length-take n text)
gap_some text leaf.Newline n h = newline_some text n h.leaf.belongs
gap_some text leaf.Comment n h = comment_some text n h.leaf.belongs
gap_some text _ n h = absurd (let k = h.kind in cc)

-- the last byte of a leaf is a byte of the text
pub last_of : (text : List ℕ) (n : ℕ) → 0 < n → n ≤ length text
    → get_or (take n text) (length (take n text) - 1) 0 < 128 → get_or text (n - 1) 0 < 128
last_of text n some le low =
    let len : length (take n text) ≡ n = omega (arith, length-take n text) in
    let here : get_or (take n text) (n - 1) 0 < 128 = rw len at low in
    rw (get_or-take n text (n - 1) 0 (omega arith)) at here

low_after_comment : (c : ℕ) → c < 256 → is_comment c ≡ false → c < 128
low_after_comment c byte h = grind (arith, nat_tests)

comment_stops : (text : List ℕ) (n : ℕ) → gap_at text ≡ Some (leaf.Comment, n)
    → is_comment (first (drop n text)) ≡ false
comment_stops text n e =
    elim (gap_cases text) [
      | white r h ↦
          absurd (let k : ◌≡◌ {A = Leaf × ℕ} (leaf.Comment, n) (leaf.Ws, prefix_len is_ws text) =
          some_injective (sym e ∙ r) in other_leaf (ap (λ (p : Leaf × ℕ). p.0) k))
      | line m r h found ↦
          absurd (let k : ◌≡◌ {A = Leaf × ℕ} (leaf.Comment, n) (leaf.Newline, m) = some_injective (sym e ∙ r) in
          other_leaf' (ap (λ (p : Leaf × ℕ). p.0) k))
      | comment m r h found stop ↦
          (let k : ◌≡◌ {A = Leaf × ℕ} (leaf.Comment, n) (leaf.Comment, m) = some_injective (sym e ∙ r) in
          rw (ap (λ (p : Leaf × ℕ). p.1) k) stop)
      | nothing r h ↦ absurd (let k : ◌≡◌ {A = Option (Leaf × ℕ)} (Some (leaf.Comment, n)) None = sym e ∙ r in cc)
    ]

gap_ends_by : (text : List ℕ) (at : ℕ) (l : Leaf) (n : ℕ) → ((i : ℕ) → get_or text i 0 < 256) → IsUtf8 text
    → at ≤ length text → GapLeaf (drop at text) l n → gap_at (drop at text) ≡ Some (l, n) → IsCharBoundary text (at + n)
gap_ends_by text at leaf.Ws n bytes utf8 le h e =
    let some : 0 < n = omega (arith, h.leaf.belongs.0, length-take n (drop at text)) in
    after_ascii text at n utf8 some h.leaf.within
    (last_of (drop at text) n some h.leaf.within (white_last (take n (drop at text)) h.leaf.belongs))
gap_ends_by text at leaf.Newline n bytes utf8 le h e =
    let some : 0 < n = newline_some (drop at text) n h.leaf.belongs in
    after_ascii text at n utf8 some h.leaf.within
    (last_of (drop at text) n some h.leaf.within (newline_last (take n (drop at text)) h.leaf.belongs))
gap_ends_by text at leaf.Comment n bytes utf8 le h e =
    let byte : first (drop n (drop at text)) < 256 =
    rw (get_or-drop n (drop at text) 0 0, get_or-drop at text (n + 0) 0) (bytes (at + (n + 0))) in
    before_ascii text at n le h.leaf.within
    (low_after_comment (first (drop n (drop at text))) byte (comment_stops (drop at text) n e))
gap_ends_by text at _ n bytes utf8 le h e = absurd (let k = h.kind in cc)

pub gap_ends : (text : List ℕ) (at : ℕ) (l : Leaf) (n : ℕ) → ((i : ℕ) → get_or text i 0 < 256) → IsUtf8 text
    → at ≤ length text → gap_at (drop at text) ≡ Some (l, n) → IsCharBoundary text (at + n)
gap_ends text at l n bytes utf8 le found =
    let h : GapLeaf (drop at text) l n = gap_found (drop at text) l n found in
    gap_ends_by text at l n bytes utf8 le h found

-- what a function on a rest of the text gives is what it gives on the text from there
pub at_rest : {A : Type 0} (f : List ℕ → A) (r : A) (bytes text : List ℕ) (at : ℕ) → bytes ≡ text
    → r ≡ f (take (length bytes - at) (drop at bytes)) → f (drop at text) ≡ r
at_rest f r bytes text at same e = sym (e ∙ ap f (take_rest bytes at ∙ ap (drop at) same))

-- the leaf at a place, from the length that was found
pub gap_at_place : (text : List ℕ) (at : ℕ) (l : Leaf) (n : ℕ) → gap_at (drop at text) ≡ Some (l, n)
    → (at < at + n) × GapLeaf (drop at text) l (at + n - at)
gap_at_place text at l n e =
    let h = gap_found (drop at text) l n e in
    let some = gap_some (drop at text) l n h in
    let same : at + n - at ≡ n = omega arith in
    (omega arith, rw same h)

pub gap_only_found : (text : List ℕ) (at : ℕ) (l : Leaf) (n : ℕ) → gap_at (drop at text) ≡ Some (l, n)
    → (k : Leaf) (m : ℕ) → GapLeaf (drop at text) k m
    → ◌≡◌ {A = Option (Leaf × ℕ)} (Some (l, at + n)) (Some (k, at + m))
gap_only_found text at l n e k m h =
    let f : ◌≡◌ {A = Leaf × ℕ} (l, n) (k, m) = some_injective (sym e ∙ gap_one (drop at text) k m h) in
    ap (λ (p : Leaf × ℕ). Some (p.0, at + p.1)) f

pub gap_only_none : (r : Option (Leaf × ℕ)) (text : List ℕ) (at : ℕ) → gap_at (drop at text) ≡ None → (k : Leaf) (m : ℕ)
    → GapLeaf (drop at text) k m → r ≡ Some (k, at + m)
gap_only_none r text at e k m h =
    absurd (let f : ◌≡◌ {A = Option (Leaf × ℕ)} None (Some (k, m)) = sym e ∙ gap_one (drop at text) k m h in cc)
