-- Gaps: what is found is a leaf, and a leaf is found again before what does not continue with it.
--
-- Theorems: `gap_cases`: what is found is a leaf of its kind; `ws_again` and `comment_again`: a leaf is found again.
use Rattle.std.proofs.Common.{◌≡◌, ℕ, suc, ◌+◌, ◌<◌, ◌≤◌, Bool, true, false, ◌&&◌, ◌==◌, List, [], ◌∷◌, ◌++◌, length}
use Rattle.std.proofs.Common.{get_or, take, drop, Option, Some, None, refl, ap, inl, inr, arith, eqb-true}
use Rattle.std.proofs.lemmas.Bool.{and_parts}
use Rattle.std.proofs.lemmas.List.{length-take}
use Rattle.std.proofs.lemmas.List.Sums.{prefix_len-le-length}
use Rattle.std.specs.List.{prefix_len, list_all}
use Rattle.keep_types.specs.declared.leaf.Leaf.{Leaf}
use Rattle.keep_types.specs.declared.leaf.Leaf.TheVariants as leaf
use Rattle.keep_types.specs.declared.leaf.Profile.TheVariants.{Strict}
use Rattle.keep_token.specs.Abnf.{Some1, is_ws, is_comment}
use Rattle.keep_token.specs.Leaves.{IsLeaf}
use Rattle.keep_token.specs.Pieces.{first}
use Rattle.keep_token.specs.Scanning.{gap_at}
pub use Rattle.keep_token.proofs.RunLaws.{tested, prefix_len-run, list_all-run, first-after_run, prefix_len-positive}

-- what a scan finds at a place: a leaf of n bytes, in its language
pub record Found (l : Leaf) (text : List ℕ) (n : ℕ) : Type 0 where
  pub some : 0 < n
  pub within : n ≤ length text
  pub leaf : IsLeaf Strict l (take n text)

pub run_found : (p : ℕ → Bool) (text : List ℕ) → p 0 ≡ false → p (first text) ≡ true
    → (0 < prefix_len p text) × (prefix_len p text ≤ length text) × Some1 p (take (prefix_len p text) text)
run_found p text none e =
    let some = prefix_len-positive p text none e in
    let within = prefix_len-le-length p text in
    (some, within, (omega (arith, length-take (prefix_len p text) text), list_all-run p text))

-- ---- gaps

pub ws_found : (text : List ℕ) → is_ws (first text) ≡ true
    → (gap_at text ≡ Some (leaf.Ws, prefix_len is_ws text)) × Found leaf.Ws text (prefix_len is_ws text)
    × (is_ws (first (drop (prefix_len is_ws text) text)) ≡ false)
unfolding gap_at
ws_found text e =
    let (some, within, run) = run_found is_ws text refl e in
    (rw e refl, record { some = some; within = within; leaf = run }, first-after_run is_ws text refl)

-- what is found has the kind that the first byte shows
pub data Gaps (text : List ℕ) (r : Option (Leaf × ℕ)) : Type 0 where
  white : (r ≡ Some (leaf.Ws, prefix_len is_ws text)) → (is_ws (first text) ≡ true) → Gaps text r
  line : (n : ℕ) → (r ≡ Some (leaf.Newline, n)) → (is_ws (first text) ≡ false) → Found leaf.Newline text n → Gaps text r
  comment : (n : ℕ) → (r ≡ Some (leaf.Comment, n)) → (is_ws (first text) ≡ false) → Found leaf.Comment text n
      → (is_comment (first (drop n text)) ≡ false) → Gaps text r
  nothing : (r ≡ None) → (is_ws (first text) ≡ false) → Gaps text r

pub comment_found : (text : List ℕ) → (first text == 0x23) ≡ true
    → Found leaf.Comment text (1 + prefix_len is_comment (drop 1 text))
    × (is_comment (first (drop (1 + prefix_len is_comment (drop 1 text)) text)) ≡ false)
comment_found [] e = absurd cc
comment_found (c ∷ cs) e =
    let n = prefix_len is_comment cs in
    let one : 1 + n ≡ suc n = omega arith in
    let hash : c ≡ 0x23 = eqb-true c 0x23 e in
    let le = prefix_len-le-length is_comment cs in
    let spelled : take (1 + n) (c ∷ cs) ≡ (0x23 ∷ []) ++ take n cs = rw (one, hash) refl in (
      record {
        some = omega arith;
        within = omega arith;
        leaf = (0x23 ∷ [], take n cs, spelled, refl, list_all-run is_comment cs);
      },
      rw one (first-after_run is_comment cs refl),
    )

pub newline_one : (text : List ℕ) → (first text == 0x0A) ≡ true → Found leaf.Newline text 1
newline_one [] e = absurd cc
newline_one (c ∷ cs) e =
    record { some = omega arith; within = omega arith; leaf = inl (ap (λ (b : ℕ). b ∷ []) (eqb-true c 0x0A e)) }

pub newline_two : (text : List ℕ) → (first text == 0x0D) ≡ true → (get_or text 1 0 == 0x0A) ≡ true
    → Found leaf.Newline text 2
newline_two [] e f = absurd cc
newline_two (c ∷ []) e f = absurd cc
newline_two (c ∷ d ∷ cs) e f =
    record { some = omega arith; within = omega arith; leaf = inr (rw (eqb-true c 0x0D e, eqb-true d 0x0A f) refl) }

pub gap_cases : (text : List ℕ) → Gaps text (gap_at text)
unfolding gap_at
gap_cases text =
    elim (tested (is_ws (first text))) [
      | inl e ↦ white (rw e refl) e
      | inr e ↦ elim (tested (first text == 0x0A)) [
        | inl f ↦ line 1 (rw (e, f) refl) e (newline_one text f)
        | inr f ↦ elim (tested (first text == 0x0D && get_or text 1 0 == 0x0A)) [
          | inl g ↦ let (h, k) =
              and_parts (first text == 0x0D) (get_or text 1 0 == 0x0A) g in
              line 2 (rw (e, f, g) refl) e (newline_two text h k)
          | inr g ↦ elim (tested (first text == 0x23)) [
            | inl h ↦ let (found, stops) =
                comment_found text h in
                comment (1 + prefix_len is_comment (drop 1 text)) (rw (e, f, g, h) refl) e found stops
            | inr h ↦ nothing (rw (e, f, g, h) refl) e
          ]
        ]
      ]
    ]

-- a leaf is found again
pub ws_again : (t rest : List ℕ) → IsLeaf Strict leaf.Ws t → is_ws (first rest) ≡ false
    → gap_at (t ++ rest) ≡ Some (leaf.Ws, length t)
unfolding gap_at
ws_again [] rest h stop = absurd (omega arith)
ws_again (c ∷ cs) rest h stop =
    let (here, more) = and_parts (is_ws c) (list_all is_ws cs) h.1 in
    rw here (ap (λ (n : ℕ). Some (leaf.Ws, n)) (omega (arith, prefix_len-run is_ws cs rest more stop)))

pub newline_again : (t rest : List ℕ) → IsLeaf Strict leaf.Newline t
    → gap_at (t ++ rest) ≡ Some (leaf.Newline, length t)
unfolding gap_at
newline_again t rest (inl e) = rw e refl
newline_again t rest (inr e) = rw e refl

pub comment_again : (t rest : List ℕ) → IsLeaf Strict leaf.Comment t → is_comment (first rest) ≡ false
    → gap_at (t ++ rest) ≡ Some (leaf.Comment, length t)
unfolding gap_at
comment_again t rest (a, b, spelled, hash, all) stop =
    rw (
      spelled,
      hash,
    ) (ap (λ (n : ℕ). Some (leaf.Comment, n)) (omega (arith, prefix_len-run is_comment b rest all stop)))
