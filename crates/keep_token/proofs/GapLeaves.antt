-- What a scan of a gap finds is the leaf at the place, and where it finds none there is none.
--
-- The first byte tells the kind, of a newline the first two (`GapKinds`), both for the scan and for each leaf of the
-- grammar (`gap_kind`). For each kind the scan takes the longest run that the grammar allows: of white space, of a
-- comment's bytes, or one newline. There is one longest leaf (`longest_one`), so the two agree.
--
-- Theorems: `gap_found` and `gap_one`.
use Rattle.std.proofs.Common.{◌≡◌, ℕ, zero, suc, ◌+◌, ◌<◌, ◌≤◌, Bool, true, false, ◌&&◌, ◌==◌, List, [], ◌∷◌, ◌++◌}
use Rattle.std.proofs.Common.{length, get_or, take, drop, Option, Some, None, refl, ap, ◌∙◌, subst, inl, inr, arith}
use Rattle.std.proofs.Common.{eqb-true}
use Rattle.std.proofs.lemmas.Bool.{cases_lt, and_parts}
use Rattle.std.proofs.lemmas.List.{get_or-take, length-take}
use Rattle.std.proofs.lemmas.List.Sums.{prefix_len_stops}
use Rattle.std.specs.List.{prefix_len, list_all}
use Rattle.keep_types.specs.declared.leaf.Leaf.{Leaf}
use Rattle.keep_types.specs.declared.leaf.Leaf.TheVariants as leaf
use Rattle.keep_types.specs.declared.leaf.Profile.TheVariants.{Strict}
use Rattle.keep_token.specs.Abnf.{Language, Longest, is_ws, is_comment}
use Rattle.keep_token.specs.Leaves.{IsLeaf, GapLeaf, is_gap_leaf}
use Rattle.keep_token.specs.Pieces.{first}
use Rattle.keep_token.specs.Scanning.{gap_at}
use Rattle.keep_token.proofs.GapLaws.{tested, ws_found, comment_found, newline_one, newline_two}

-- each byte of a run passes
pub all_pass : (p : ℕ → Bool) (xs : List ℕ) (i : ℕ) → list_all p xs ≡ true → i < length xs → p (get_or xs i 0) ≡ true
all_pass p [] i h lt = absurd (omega arith)
all_pass p (x ∷ xs) zero h lt = (and_parts (p x) (list_all p xs) h).0
all_pass p (x ∷ xs) (suc i) h lt = all_pass p xs i (and_parts (p x) (list_all p xs) h).1 (omega arith)

-- a prefix of passing bytes is no longer than the run
pub run_longest : (p : ℕ → Bool) (text : List ℕ) (m : ℕ) → m ≤ length text → list_all p (take m text) ≡ true
    → m ≤ prefix_len p text
run_longest p text m le h =
    elim (cases_lt (prefix_len p text) m) [
      | inr ok ↦ ok
      | inl lt ↦
          let stop = prefix_len_stops p text 0 (omega arith) in
          let at = all_pass p (take m text) (prefix_len p text) h (omega (arith, length-take m text)) in
          let same : get_or (take m text) (prefix_len p text) 0 ≡ get_or text (prefix_len p text) 0 =
          get_or-take m text (prefix_len p text) 0 lt in
          absurd (let k : p (get_or text (prefix_len p text) 0) ≡ true = rw (← same) at in cc)
    ]

pub longest_one : (A : Language) (text : List ℕ) (n m : ℕ) → Longest A text n → Longest A text m → n ≡ m
longest_one A text n m a b =
    let le = b.longest n a.within a.belongs in
    let ge = a.longest m b.within b.belongs in
    omega arith

-- ---- what is found

pub ws_leaf : (text : List ℕ) → is_ws (first text) ≡ true → GapLeaf text leaf.Ws (prefix_len is_ws text)
ws_leaf text e =
    let (at, found, stop) = ws_found text e in
    record {
      kind = refl;
      leaf = record {
        within = found.within;
        belongs = found.leaf;
        longest = λ m le h. run_longest is_ws text m le h.1;
      };
    }

-- a newline before a text that begins with LF, or CR LF, has that length
newline_len_one : (text : List ℕ) (m : ℕ) → (first text == 0x0A) ≡ true → m ≤ length text
    → IsLeaf Strict leaf.Newline (take m text) → m ≤ 1
newline_len_one text m e le (inl h) =
    let k : length (take m text) ≡ 1 = ap length h in omega (arith, length-take m text)
newline_len_one [] m e le (inr h) = absurd cc
newline_len_one (c ∷ cs) zero e le (inr h) = omega arith
newline_len_one (c ∷ cs) (suc m) e le (inr h) =
    let k : c ≡ 0x0D = ap first h in
    let j : c ≡ 0x0A = eqb-true c 0x0A e in
    absurd (omega arith)

newline_len_two : (text : List ℕ) (m : ℕ) → m ≤ length text → IsLeaf Strict leaf.Newline (take m text) → m ≤ 2
newline_len_two text m le (inl h) = let k : length (take m text) ≡ 1 = ap length h in omega (arith, length-take m text)
newline_len_two text m le (inr h) = let k : length (take m text) ≡ 2 = ap length h in omega (arith, length-take m text)

newline_leaf_one : (text : List ℕ) → (first text == 0x0A) ≡ true → GapLeaf text leaf.Newline 1
newline_leaf_one text e =
    let found = newline_one text e in
    record {
      kind = refl;
      leaf = record { within = found.within; belongs = found.leaf; longest = λ m le h. newline_len_one text m e le h };
    }

newline_leaf_two : (text : List ℕ) → (first text == 0x0D) ≡ true → (get_or text 1 0 == 0x0A) ≡ true
    → GapLeaf text leaf.Newline 2
newline_leaf_two text e f =
    let found = newline_two text e f in
    record {
      kind = refl;
      leaf = record { within = found.within; belongs = found.leaf; longest = λ m le h. newline_len_two text m le h };
    }

comment_longest : (text : List ℕ) (m : ℕ) → m ≤ length text → IsLeaf Strict leaf.Comment (take m text)
    → m ≤ 1 + prefix_len is_comment (drop 1 text)
comment_longest text zero le h = omega arith
comment_longest [] (suc m) le h = absurd (omega arith)
comment_longest (c ∷ cs) (suc m) le (a, b, spelled, hash, all) =
    let whole : c ∷ take m cs ≡ 0x23 ∷ b = spelled ∙ ap (λ (x : List ℕ). x ++ b) hash in
    let after : take m cs ≡ b = ap (drop 1) whole in
    let pass : list_all is_comment (take m cs) ≡ true = rw after all in
    omega (arith, run_longest is_comment cs m (omega arith) pass)

comment_leaf : (text : List ℕ) → (first text == 0x23) ≡ true
    → GapLeaf text leaf.Comment (1 + prefix_len is_comment (drop 1 text))
comment_leaf text e =
    let (found, stops) = comment_found text e in
    record {
      kind = refl;
      leaf = record { within = found.within; belongs = found.leaf; longest = λ m le h. comment_longest text m le h };
    }

-- ---- the leaf of a gap, by the first bytes

-- where the text begins so, the leaf is of this kind
pub data GapKinds (text : List ℕ) (l : Leaf) : Type 0 where
  white : (l ≡ leaf.Ws) → (is_ws (first text) ≡ true) → GapKinds text l
  line : (l ≡ leaf.Newline) → (first text == 0x0A) ≡ true → GapKinds text l
  lines : (l ≡ leaf.Newline) → (first text == 0x0D) ≡ true → (get_or text 1 0 == 0x0A) ≡ true → GapKinds text l
  comment : (l ≡ leaf.Comment) → (first text == 0x23) ≡ true → GapKinds text l

white_first : (text : List ℕ) (n : ℕ) → IsLeaf Strict leaf.Ws (take n text) → is_ws (first text) ≡ true
white_first text zero h = absurd (omega (arith, h.0))
white_first [] (suc n) h = absurd (omega (arith, h.0))
white_first (c ∷ cs) (suc n) h = (and_parts (is_ws c) (list_all is_ws (take n cs)) h.1).0

line_kind : (text : List ℕ) (n : ℕ) → IsLeaf Strict leaf.Newline (take n text) → GapKinds text leaf.Newline
line_kind text zero (inl h) = absurd cc
line_kind text zero (inr h) = absurd cc
line_kind [] (suc n) (inl h) = absurd cc
line_kind [] (suc n) (inr h) = absurd cc
line_kind (c ∷ cs) (suc n) (inl h) = let k : c ≡ 0x0A = ap first h in line refl (rw k refl)
line_kind (c ∷ cs) (suc zero) (inr h) = absurd (let k : 1 ≡ 2 = ap length h in omega arith)
line_kind (c ∷ []) (suc (suc n)) (inr h) = absurd (let k : 1 ≡ 2 = ap length h in omega arith)
line_kind (c ∷ d ∷ cs) (suc (suc n)) (inr h) =
    let k : c ≡ 0x0D = ap first h in
    let j : d ≡ 0x0A = ap (λ (x : List ℕ). get_or x 1 0) h in
    lines refl (rw k refl) (rw j refl)

comment_first : (text : List ℕ) (n : ℕ) → IsLeaf Strict leaf.Comment (take n text) → (first text == 0x23) ≡ true
comment_first text zero (a, b, spelled, hash, all) =
    absurd (let k : [] ≡ 0x23 ∷ b = spelled ∙ ap (λ (x : List ℕ). x ++ b) hash in cc)
comment_first [] (suc n) (a, b, spelled, hash, all) =
    absurd (let k : [] ≡ 0x23 ∷ b = spelled ∙ ap (λ (x : List ℕ). x ++ b) hash in cc)
comment_first (c ∷ cs) (suc n) (a, b, spelled, hash, all) =
    let whole : c ∷ take n cs ≡ 0x23 ∷ b = spelled ∙ ap (λ (x : List ℕ). x ++ b) hash in
    let k : c ≡ 0x23 = ap first whole in rw k refl

gap_kind : (text : List ℕ) (l : Leaf) (n : ℕ) → is_gap_leaf l ≡ true → IsLeaf Strict l (take n text) → GapKinds text l
gap_kind text leaf.Ws n k h = white refl (white_first text n h)
gap_kind text leaf.Newline n k h = line_kind text n h
gap_kind text leaf.Comment n k h = comment refl (comment_first text n h)
gap_kind text _ n k h = absurd cc

-- the leaf of a gap is what the first bytes show
same_length : (text : List ℕ) (l : Leaf) (n m : ℕ) → GapLeaf text l n → GapLeaf text l m → n ≡ m
same_length text l n m a b = longest_one (IsLeaf Strict l) text n m a.leaf b.leaf

pub gap_one : (text : List ℕ) (l : Leaf) (n : ℕ) → GapLeaf text l n → gap_at text ≡ Some (l, n)
unfolding gap_at
gap_one text l n h =
    elim (gap_kind text l n h.kind h.leaf.belongs) [
      | white k e ↦
          let same = same_length text leaf.Ws (prefix_len is_ws text) n (ws_leaf text e) (rw k at h) in
          rw (k, e) (ap (λ (m : ℕ). Some (leaf.Ws, m)) same)
      | line k e ↦
          let same = same_length text leaf.Newline 1 n (newline_leaf_one text e) (rw k at h) in
          let other : is_ws (first text) ≡ false = rw (eqb-true (first text) 0x0A e) refl in
          rw (k, other, e) (ap (λ (m : ℕ). Some (leaf.Newline, m)) same)
      | lines k e f ↦
          let same = same_length text leaf.Newline 2 n (newline_leaf_two text e f) (rw k at h) in
          let other : is_ws (first text) ≡ false = rw (eqb-true (first text) 0x0D e) refl in
          let another : (first text == 0x0A) ≡ false = rw (eqb-true (first text) 0x0D e) refl in
          rw (k, other, another, e, f) (ap (λ (m : ℕ). Some (leaf.Newline, m)) same)
      | comment k e ↦
          let same =
          same_length text leaf.Comment (1 + prefix_len is_comment (drop 1 text)) n (comment_leaf text e) (rw k at h) in
          let other : is_ws (first text) ≡ false = rw (eqb-true (first text) 0x23 e) refl in
          let another : (first text == 0x0A) ≡ false = rw (eqb-true (first text) 0x23 e) refl in
          let third : (first text == 0x0D) ≡ false = rw (eqb-true (first text) 0x23 e) refl in
          rw (k, other, another, third, e) (ap (λ (m : ℕ). Some (leaf.Comment, m)) same)
    ]

-- a leaf of this kind and length, under other names
found_as : (text : List ℕ) (k : Leaf) (m : ℕ) (l : Leaf) (n : ℕ) → GapLeaf text k m
    → ◌≡◌ {A = Option (Leaf × ℕ)} (Some (k, m)) (Some (l, n)) → GapLeaf text l n
found_as text k m l n h e =
    let same : ◌≡◌ {A = Leaf × ℕ} (k, m) (l, n) = cc in
    subst (λ (p : Leaf × ℕ). GapLeaf text p.0 p.1) same h

-- what is found is the leaf
pub gap_found : (text : List ℕ) (l : Leaf) (n : ℕ) → gap_at text ≡ Some (l, n) → GapLeaf text l n
unfolding gap_at
gap_found text l n at =
    elim (tested (is_ws (first text))) [
      | inl e ↦ found_as text leaf.Ws (prefix_len is_ws text) l n (ws_leaf text e) (rw e at at)
      | inr e ↦ elim (tested (first text == 0x0A)) [
        | inl f ↦ found_as text leaf.Newline 1 l n (newline_leaf_one text f) (rw (e, f) at at)
        | inr f ↦ elim (tested (first text == 0x0D && get_or text 1 0 == 0x0A)) [
          | inl g ↦
              let (h, k) = and_parts (first text == 0x0D) (get_or text 1 0 == 0x0A) g in
              found_as text leaf.Newline 2 l n (newline_leaf_two text h k) (rw (e, f, g) at at)
          | inr g ↦ elim (tested (first text == 0x23)) [
            | inl h ↦
                found_as text leaf.Comment (1 + prefix_len is_comment (drop 1 text)) l n (comment_leaf text h)
                (rw (e, f, g, h) at at)
            | inr h ↦ absurd (let none : None ≡ Some (l, n) = rw (e, f, g, h) at at in cc)
          ]
        ]
      ]
    ]
