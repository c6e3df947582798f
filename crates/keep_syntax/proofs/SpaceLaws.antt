-- Gaps are read as they are written, and what is written as a gap is read again.
--
-- A gap is white space alone, or white space, newlines and comments, by where it is. For both there are two directions:
-- what is taken from a text is a gap with that text, and nothing of a gap is left (`space_takes`, `blank_takes`); a gap
-- before a byte that begins a part is taken again (`space_again`, `blank_again`). `blank_takes_from` is an induction
-- over a bound on the steps, and `blank_same` shows that the bound does not matter if it is more than the bytes.
-- `gap_takes` and `gap_again` choose by the brackets. The lemmas on classes say which byte a gap or what follows it
-- begins with (`space_class`, `blank_class`).
--
-- Theorems: `space_takes`, `gap_takes`: what is read is a gap; `space_again`, `gap_again`: a gap is read again.
use Rattle.std.proofs.Common.{◌≡◌, ℕ, zero, suc, ◌<◌, ◌≤◌, Bool, true, false, not, ◌&&◌, ◌||◌, ◌==◌, List, [], ◌∷◌}
use Rattle.std.proofs.Common.{◌++◌, length, slice_index, take, drop, Some, None, refl, sym, ap, ◌∙◌, subst, inl, inr}
use Rattle.std.proofs.Common.{arith, append_assoc, take_at, drop_at}
use Rattle.std.specs.Prelude.{IsTrue}
use Rattle.std.specs.List.{prefix_len, list_all}
use Rattle.std.specs.Char.{is_ascii_digit}
use Rattle.std.proofs.lemmas.Bool.{and_parts}
use Rattle.std.proofs.lemmas.Bool.Decides.{nat_tests}
use Rattle.std.proofs.lemmas.List.{append-nil, take-append-drop, length-drop, length-append}
use Rattle.std.proofs.lemmas.List.Concat.{flat_map-append}
use Rattle.keep_types.specs.declared.leaf.Profile.{Profile}
use Rattle.keep_types.specs.declared.leaf.Profile.TheVariants.{Strict, Wide}
use Rattle.keep_types.specs.declared.leaf.Leaf.{Leaf}
use Rattle.keep_types.specs.declared.leaf.Leaf.TheVariants as leaf
use Rattle.keep_token.specs.Abnf.{Newline, between, is_ws, is_comment, is_word}
use Rattle.keep_token.specs.Leaves.{IsLeaf, is_gap_leaf}
use Rattle.keep_token.specs.Scanning.{first, gap_at, may_follow_scalar}
use Rattle.keep_token.proofs.Shared.{tested, ws_found, ws_again, newline_again, comment_again, Found, white, line}
use Rattle.keep_token.proofs.Shared.{comment, nothing, gap_cases}
use Rattle.keep_syntax.specs.declared.info.Brackets.{Brackets}
use Rattle.keep_syntax.specs.declared.info.Brackets.TheVariants as brackets
use Rattle.keep_syntax.specs.Tree.{Written, Gap, text_of, token}
use Rattle.keep_syntax.specs.Grammar.{IsSpace, IsBlank, Continues, is_ws_leaf, Place, in_array, in_inline, IsGap}
use Rattle.keep_syntax.specs.Reading.{written, space_of, space_at, prepended, blank_from, blank_at, gap_in}

pub text_of-append : (a b : List Written) → text_of (a ++ b) ≡ text_of a ++ text_of b
text_of-append a b = flat_map-append (λ w. w.text) a b

-- a byte that begins a part, and no gap
abbrev pub is_solid : ℕ → Bool
is_solid c = between 0x21 0x7E c && not (c == 0x23)

pub solid_no_ws : (c : ℕ) → is_solid c ≡ true → is_ws c ≡ false
solid_no_ws c h = grind (arith, nat_tests)

solid_is_comment : (c : ℕ) → is_solid c ≡ true → is_comment c ≡ false → ⊥
solid_is_comment c h k = grind (arith, nat_tests)

ws_is_comment : (c : ℕ) → is_ws c ≡ true → is_comment c ≡ false → ⊥
ws_is_comment c h k = grind (arith, nat_tests)

-- ---- what a leaf of a gap begins with

pub newline_class : (p : ℕ → Bool) (t x : List ℕ) → p 0x0A ≡ false → p 0x0D ≡ false → Newline t
    → p (first (t ++ x)) ≡ false
newline_class p t x e0 e1 (inl k) = rw k e0
newline_class p t x e0 e1 (inr k) = rw k e1

pub comment_class : (p : ℕ → Bool) (t x : List ℕ) → p 0x23 ≡ false → IsLeaf Strict leaf.Comment t
    → p (first (t ++ x)) ≡ false
comment_class p t x e (a, b, spelled, hash, all) = rw (spelled, hash) e

pub ws_class : (p : ℕ → Bool) (t x : List ℕ) → ((c : ℕ) → is_ws c ≡ true → p c ≡ false) → IsLeaf Strict leaf.Ws t
    → p (first (t ++ x)) ≡ false
ws_class p [] x ws h = absurd (omega (arith, h.0))
ws_class p (c ∷ cs) x ws h = ws c (and_parts (is_ws c) (list_all is_ws cs) h.1).0

-- ---- white space

-- what a run of white space is
pub record Spaced (text : List ℕ) (g : Gap) (rest : List ℕ) : Type 0 where
  pub spelled : text ≡ text_of g ++ rest
  pub valid : IsSpace g
  pub stops : is_ws (first rest) ≡ false

nothing_spaced : (text : List ℕ) → is_ws (first text) ≡ false → Spaced text [] text
nothing_spaced text e = record { spelled = refl; valid = tt; stops = e }

-- where no white space begins, nothing is taken
pub space_none : (text : List ℕ) → is_ws (first text) ≡ false → space_at text ≡ ([], text)
unfolding space_at
space_none text e =
    elim (gap_cases text) [
      | white r f ↦ absurd cc
      | line n r f found ↦ rw r refl
      | comment n r f found stop ↦ rw r refl
      | nothing r f ↦ rw r refl
    ]

space_some : (text : List ℕ) → is_ws (first text) ≡ true
    → space_at text ≡ (token leaf.Ws (take (prefix_len is_ws text) text), drop (prefix_len is_ws text) text)
unfolding space_at
space_some text e = rw (ws_found text e).0 refl

pub space_takes : (text : List ℕ) → Spaced text (space_at text).0 (space_at text).1
space_takes text =
    elim (tested (is_ws (first text))) [
      | inr e ↦ rw (space_none text e) (nothing_spaced text e)
      | inl e ↦
          let n = prefix_len is_ws text in
          let (at, found, stop) = ws_found text e in
          rw (space_some text e) (record {
            spelled = rw (append-nil (take n text)) (sym (take-append-drop n text));
            valid = (refl, found.leaf);
            stops = stop;
          })
    ]

pub space_shortens : (text : List ℕ) → length (space_at text).1 ≤ length text
space_shortens text =
    let s = space_takes text in
    omega (arith, ap length s.spelled, length-append (text_of (space_at text).0) (space_at text).1)

pub space_again : (g : Gap) (rest : List ℕ) → IsSpace g → is_ws (first rest) ≡ false
    → space_at (text_of g ++ rest) ≡ (g, rest)
unfolding space_at
space_again [] rest h stop = space_none rest stop
space_again (w ∷ []) rest h stop =
    let t = w.text in
    let found : gap_at (t ++ rest) ≡ Some (leaf.Ws, length t) = ws_again t rest h.1 stop in
    let is_w : token leaf.Ws t ≡ w ∷ [] = ap (λ (l : Leaf). record { leaf = l; text = t } ∷ []) (sym h.0) in
    let e : space_of (t ++ rest) (gap_at (t ++ rest)) ≡ (w ∷ [], rest) =
    rw (found, take_at t rest (length t) refl, drop_at t rest (length t) refl, is_w) refl in
    subst (λ (x : List ℕ). space_of (x ++ rest) (gap_at (x ++ rest)) ≡ (w ∷ [], rest)) (sym (append-nil t)) e
space_again (w ∷ v ∷ more) rest h stop = absurd h

-- A class that has no white space fails at white space, so it fails after any gap.
pub space_class : (p : ℕ → Bool) (g : Gap) (rest : List ℕ) → IsSpace g → ((c : ℕ) → is_ws c ≡ true → p c ≡ false)
    → p (first rest) ≡ false → p (first (text_of g ++ rest)) ≡ false
space_class p [] rest h not_ws stop = stop
space_class p (w ∷ []) rest h not_ws stop = rw (append-nil w.text) (ws_class p w.text rest not_ws h.1)
space_class p (w ∷ v ∷ more) rest h not_ws stop = absurd h

-- ---- white space, newlines and comments

pub record Blanked (text : List ℕ) (g : Gap) (rest : List ℕ) : Type 0 where
  pub spelled : text ≡ text_of g ++ rest
  pub valid : is_solid (first rest) ≡ true → IsBlank g

comment_first : (text : List ℕ) (n : ℕ) → Found leaf.Comment text n → first text ≡ 0x23
comment_first [] n found = absurd (omega (arith, found.some, found.within))
comment_first (c ∷ cs) zero found = absurd (omega (arith, found.some))
comment_first (c ∷ cs) (suc n) found =
    let (a, b, spelled, hash, all) = found.leaf in ap first (spelled ∙ ap (λ (x : List ℕ). x ++ b) hash)

-- what follows white space, and what follows a comment
ws_continues : (n : ℕ) (text : List ℕ) → is_ws (first text) ≡ false → Continues leaf.Ws (blank_from n text).0
unfolding blank_from
ws_continues zero text stop = tt
ws_continues (suc n) text stop =
    elim (gap_cases text) [
      | white r f ↦ absurd cc
      | line k r f found ↦ rw r refl
      | comment k r f found s ↦ rw r refl
      | nothing r f ↦ rw r tt
    ]

comment_continues : (n : ℕ) (text : List ℕ) → is_comment (first text) ≡ false
    → is_solid (first (blank_from n text).1) ≡ true → Continues leaf.Comment (blank_from n text).0
unfolding blank_from
comment_continues zero text stop solid = absurd (solid_is_comment (first text) solid stop)
comment_continues (suc n) text stop solid =
    elim (gap_cases text) [
      | white r f ↦ absurd (ws_is_comment (first text) f stop)
      | line k r f found ↦ rw r refl
      | comment k r f found s ↦
          absurd (let bad : is_comment 0x23 ≡ false =
          subst (λ (c : ℕ). is_comment c ≡ false) (comment_first text k found) stop in cc)
      | nothing r f ↦ absurd (solid_is_comment (first text) (rw r at solid) stop)
    ]

blank_takes_from : (n : ℕ) (text : List ℕ) → length text < n → Blanked text (blank_from n text).0 (blank_from n text).1
unfolding blank_from
blank_takes_from zero text lt = absurd (omega arith)
blank_takes_from (suc n) text lt =
    elim (gap_cases text) [
      | white r f ↦
          let k = prefix_len is_ws text in
          let (at, found, stop) = ws_found text f in
          let ih = blank_takes_from n (drop k text) (omega (arith, length-drop k text, found.some, found.within)) in
          rw r (record {
            spelled = one (blank_from n (drop k text)).0 (blank_from n (drop k text)).1 k ih.spelled;
            valid = λ s. (refl, found.leaf, ws_continues n (drop k text) stop, ih.valid s);
          })
      | line k r f found ↦
          let ih = blank_takes_from n (drop k text) (omega (arith, length-drop k text, found.some, found.within)) in
          rw r (record {
            spelled = one (blank_from n (drop k text)).0 (blank_from n (drop k text)).1 k ih.spelled;
            valid = λ s. (refl, found.leaf, tt, ih.valid s);
          })
      | comment k r f found stop ↦
          let ih = blank_takes_from n (drop k text) (omega (arith, length-drop k text, found.some, found.within)) in
          rw r (record {
            spelled = one (blank_from n (drop k text)).0 (blank_from n (drop k text)).1 k ih.spelled;
            valid = λ s. (refl, found.leaf, comment_continues n (drop k text) stop s, ih.valid s);
          })
      | nothing r f ↦ rw r (record { spelled = refl; valid = λ s. tt })
    ]
  where
    one : (g : Gap) (rest : List ℕ) (k : ℕ) → drop k text ≡ text_of g ++ rest
        → text ≡ (take k text ++ text_of g) ++ rest
    one g rest k e =
        sym (take-append-drop k text) ∙ ap (λ (x : List ℕ). take k text ++ x) e
        ∙ sym (append_assoc (take k text) (text_of g) rest)

pub blank_takes : (text : List ℕ) → Blanked text (blank_at text).0 (blank_at text).1
blank_takes text = blank_takes_from (suc (length text)) text (omega arith)

-- as many steps as there are bytes are enough
blank_same : (n m : ℕ) (text : List ℕ) → length text < n → length text < m → blank_from n text ≡ blank_from m text
unfolding blank_from
blank_same zero m text lt lt' = absurd (omega arith)
blank_same (suc n) zero text lt lt' = absurd (omega arith)
blank_same (suc n) (suc m) text lt lt' =
    elim (gap_cases text) [
      | white r f ↦ let (at, found, stop) =
          ws_found text f in let k =
          prefix_len is_ws text in
          rw r (ap (prepended (written leaf.Ws k text))
          (blank_same n m (drop k text) (omega (arith, length-drop k text, found.some, found.within))
          (omega (arith, length-drop k text, found.some, found.within))))
      | line k r f found ↦
          rw r (ap (prepended (written leaf.Newline k text))
          (blank_same n m (drop k text) (omega (arith, length-drop k text, found.some, found.within))
          (omega (arith, length-drop k text, found.some, found.within))))
      | comment k r f found stop ↦
          rw r (ap (prepended (written leaf.Comment k text))
          (blank_same n m (drop k text) (omega (arith, length-drop k text, found.some, found.within))
          (omega (arith, length-drop k text, found.some, found.within))))
      | nothing r f ↦ rw r refl
    ]

-- a leaf at the start, and none
pub blank_step : (text : List ℕ) (l : Leaf) (n : ℕ) → 0 < n → n ≤ length text → gap_at text ≡ Some (l, n)
    → blank_at text ≡ prepended (written l n text) (blank_at (drop n text))
unfolding blank_from
blank_step text l n some within e =
    rw e (ap (prepended (written l n text))
    (blank_same (length text) (suc (length (drop n text))) (drop n text) (omega (arith, length-drop n text))
    (omega arith)))

pub blank_stop : (text : List ℕ) → gap_at text ≡ None → blank_at text ≡ ([], text)
unfolding blank_from
blank_stop text e = rw e refl

-- a gap's first byte
pub blank_class : (p : ℕ → Bool) (g : Gap) (x : List ℕ) → ((c : ℕ) → is_ws c ≡ true → p c ≡ false) → p 0x0A ≡ false
    → p 0x0D ≡ false → p 0x23 ≡ false → IsBlank g → p (first x) ≡ false → p (first (text_of g ++ x)) ≡ false
blank_class p [] x ws e0 e1 e2 h stop = stop
blank_class p (w ∷ more) x ws e0 e1 e2 h stop = rw (append_assoc w.text (text_of more) x) (by w.leaf w.text h.0 h.1)
  where
    by : (l : Leaf) (t : List ℕ) → IsTrue (is_gap_leaf l) → IsLeaf Strict l t
        → p (first (t ++ (text_of more ++ x))) ≡ false
    by leaf.Ws t k i = ws_class p t (text_of more ++ x) ws i
    by leaf.Newline t k i = newline_class p t (text_of more ++ x) e0 e1 i
    by leaf.Comment t k i = comment_class p t (text_of more ++ x) e2 i
    by _ t k i = absurd cc

-- a gap that does not begin with white space
solid_or_line : (more : Gap) (x : List ℕ) → Continues leaf.Ws more → IsBlank more → is_solid (first x) ≡ true
    → is_ws (first (text_of more ++ x)) ≡ false
solid_or_line [] x g h solid = solid_no_ws (first x) solid
solid_or_line (v ∷ more) x g h solid = rw (append_assoc v.text (text_of more) x) (by v.leaf v.text h.0 g h.1)
  where
    by : (l : Leaf) (t : List ℕ) → IsTrue (is_gap_leaf l) → IsTrue (not (is_ws_leaf l)) → IsLeaf Strict l t
        → is_ws (first (t ++ (text_of more ++ x))) ≡ false
    by leaf.Ws t k n i = absurd cc
    by leaf.Newline t k n i = newline_class is_ws t (text_of more ++ x) refl refl i
    by leaf.Comment t k n i = comment_class is_ws t (text_of more ++ x) refl i
    by _ t k n i = absurd cc

after_comment : (more : Gap) (x : List ℕ) → Continues leaf.Comment more → IsBlank more
    → is_comment (first (text_of more ++ x)) ≡ false
after_comment [] x g h = absurd g
after_comment (v ∷ more) x g h =
    rw (append_assoc v.text (text_of more) x)
    (newline_class is_comment v.text (text_of more ++ x) refl refl (subst (λ (l : Leaf). IsLeaf Strict l v.text) g h.1))

leaf_again : (l : Leaf) (t : List ℕ) (more : Gap) (x : List ℕ) → IsTrue (is_gap_leaf l) → IsLeaf Strict l t
    → Continues l more → IsBlank more → is_solid (first x) ≡ true
    → gap_at (t ++ (text_of more ++ x)) ≡ Some (l, length t)
leaf_again leaf.Ws t more x k i g h solid = ws_again t (text_of more ++ x) i (solid_or_line more x g h solid)
leaf_again leaf.Newline t more x k i g h solid = newline_again t (text_of more ++ x) i
leaf_again leaf.Comment t more x k i g h solid = comment_again t (text_of more ++ x) i (after_comment more x g h)
leaf_again _ t more x k i g h solid = absurd cc

solid_no_gap : (c : ℕ) → is_solid c ≡ true
    → (is_ws c ≡ false) × ((c == 0x0A) ≡ false) × ((c == 0x0D) ≡ false) × ((c == 0x23) ≡ false)
solid_no_gap c h = (solid_no_ws c h, grind (arith, nat_tests), grind (arith, nat_tests), grind (arith, nat_tests))

gap_none : (text : List ℕ) → is_solid (first text) ≡ true → gap_at text ≡ None
unfolding gap_at
gap_none text solid = let (a, b, c, d) = solid_no_gap (first text) solid in rw (a, b, c, d) refl

-- a leaf of a gap is not empty
pub gap_leaf_some : (l : Leaf) (t : List ℕ) → IsTrue (is_gap_leaf l) → IsLeaf Strict l t → 0 < length t
gap_leaf_some leaf.Ws t k i = i.0
gap_leaf_some leaf.Newline t k (inl e) = omega (arith, ap length e)
gap_leaf_some leaf.Newline t k (inr e) = omega (arith, ap length e)
gap_leaf_some leaf.Comment t k (a, b, spelled, hash, all) =
    omega (arith, ap length spelled, ap length hash, length-append a b)
gap_leaf_some _ t k i = absurd cc

blank_again : (g : Gap) (rest : List ℕ) → IsBlank g → is_solid (first rest) ≡ true
    → blank_at (text_of g ++ rest) ≡ (g, rest)
blank_again [] rest h solid = blank_stop rest (gap_none rest solid)
blank_again (w ∷ more) rest h solid =
    let t = w.text in
    let x = text_of more ++ rest in
    let step : blank_at (t ++ x) ≡ prepended (written w.leaf (length t) (t
    ++ x)) (blank_at (drop (length t) (t ++ x))) =
    blank_step (t ++ x) w.leaf (length t) (gap_leaf_some w.leaf t h.0 h.1) (omega (arith, length-append t x))
    (leaf_again w.leaf t more rest h.0 h.1 h.2 h.3 solid) in
    let ih : blank_at x ≡ (more, rest) = blank_again more rest h.3 solid in
    ap blank_at (append_assoc t (text_of more) rest) ∙ step
    ∙ rw (take_at t x (length t) refl, drop_at t x (length t) refl, ih) refl

-- ---- the gaps of brackets

abbrev pub place_of : Brackets → Place
place_of brackets.Array = in_array
place_of brackets.Inline = in_inline

-- A gap, if a part follows it.
pub record Gapped (profile : Profile) (b : Brackets) (text : List ℕ) (g : Gap) (rest : List ℕ) : Type 0 where
  pub spelled : text ≡ text_of g ++ rest
  pub valid : is_solid (first rest) ≡ true → IsGap profile (place_of b) g

pub gap_takes : (profile : Profile) (b : Brackets) (text : List ℕ)
    → Gapped profile b text (gap_in profile b text).0 (gap_in profile b text).1
gap_takes Strict brackets.Array text = let k = blank_takes text in record { spelled = k.spelled; valid = k.valid }
gap_takes Wide brackets.Array text = let k = blank_takes text in record { spelled = k.spelled; valid = k.valid }
gap_takes Strict brackets.Inline text = let k = space_takes text in record { spelled = k.spelled; valid = λ s. k.valid }
gap_takes Wide brackets.Inline text = let k = blank_takes text in record { spelled = k.spelled; valid = k.valid }

pub gap_shortens : (profile : Profile) (b : Brackets) (text : List ℕ) → length (gap_in profile b text).1 ≤ length text
gap_shortens profile b text =
    let s = gap_takes profile b text in
    omega (arith, ap length s.spelled, length-append (text_of (gap_in profile b text).0) (gap_in profile b text).1)

pub gap_again : (profile : Profile) (b : Brackets) (g : Gap) (rest : List ℕ) → IsGap profile (place_of b) g
    → is_solid (first rest) ≡ true → gap_in profile b (text_of g ++ rest) ≡ (g, rest)
gap_again Strict brackets.Array g rest h solid = blank_again g rest h solid
gap_again Wide brackets.Array g rest h solid = blank_again g rest h solid
gap_again Strict brackets.Inline g rest h solid = space_again g rest h (solid_no_ws (first rest) solid)
gap_again Wide brackets.Inline g rest h solid = blank_again g rest h solid

pub space_blank : (g : Gap) → IsSpace g → IsBlank g
space_blank [] h = tt
space_blank (w ∷ []) h =
    let at_ws : IsTrue (is_gap_leaf leaf.Ws) × IsLeaf Strict leaf.Ws w.text × Continues leaf.Ws [] × IsBlank [] =
    (refl, h.1, tt, tt) in
    subst (λ (l : Leaf). IsTrue (is_gap_leaf l) × IsLeaf Strict l w.text × Continues l [] × IsBlank []) (sym h.0) at_ws
space_blank (w ∷ v ∷ more) h = absurd h

pub gap_blank : (profile : Profile) (b : Brackets) (g : Gap) → IsGap profile (place_of b) g → IsBlank g
gap_blank Strict brackets.Array g h = h
gap_blank Wide brackets.Array g h = h
gap_blank Strict brackets.Inline g h = space_blank g h
gap_blank Wide brackets.Inline g h = h

-- ---- what may follow a scalar

-- a byte of no scalar
abbrev pub is_stop : ℕ → Bool
is_stop c = not (((is_word c || c == 0x22) || c == 0x27) || c == 0x20)

-- of one byte, or of two
stop_follows : (c d : ℕ) → is_stop c ≡ true
    → (not ((is_word c || c == 0x22) || c == 0x27) && not (c == 0x20 && is_ascii_digit d)) ≡ true
stop_follows c d k = grind (arith, nat_tests)

ws_follows : (c d : ℕ) → is_ws c ≡ true → is_ascii_digit d ≡ false
    → (not ((is_word c || c == 0x22) || c == 0x27) && not (c == 0x20 && is_ascii_digit d)) ≡ true
ws_follows c d k no_digit = grind (arith, nat_tests)

ws_no_digit : (c : ℕ) → is_ws c ≡ true → is_ascii_digit c ≡ false
ws_no_digit c k = grind (arith, nat_tests)

stop_no_digit : (c : ℕ) → is_stop c ≡ true → is_ascii_digit c ≡ false
stop_no_digit c k = grind (arith, nat_tests)

-- a leaf of a gap and then no digit
white_follows : (t more : List ℕ) → IsLeaf Strict leaf.Ws t → is_ascii_digit (first more) ≡ false
    → may_follow_scalar (t ++ more) ≡ true
white_follows [] more i e = absurd (omega (arith, i.0))
white_follows (c ∷ []) more i e = ws_follows c (first more) (and_parts (is_ws c) _ i.1).0 e
white_follows (c ∷ d ∷ cs) more i e =
    let p = and_parts (is_ws c) _ i.1 in ws_follows c d p.0 (ws_no_digit d (and_parts (is_ws d) _ p.1).0)

leaf_follows : (l : Leaf) (t more : List ℕ) → IsTrue (is_gap_leaf l) → IsLeaf Strict l t
    → is_ascii_digit (first more) ≡ false → may_follow_scalar (t ++ more) ≡ true
leaf_follows leaf.Ws t more k i e = white_follows t more i e
leaf_follows leaf.Newline t more k (inl n) e = rw n refl
leaf_follows leaf.Newline t more k (inr n) e = rw n refl
leaf_follows leaf.Comment t more k (a, b, spelled, hash, all) e = rw (spelled, hash) refl
leaf_follows _ t more k i e = absurd cc

-- a gap and then a byte of no scalar may follow a scalar (`rw` in place of the `subst` takes many seconds)
pub may_follow : (g : Gap) (x : List ℕ) → IsBlank g → is_stop (first x) ≡ true
    → may_follow_scalar (text_of g ++ x) ≡ true
may_follow [] x h stop = stop_follows (first x) (slice_index x 1) stop
may_follow (w ∷ more) x h stop =
    let no_digit = blank_class is_ascii_digit more x ws_no_digit refl refl refl h.3 (stop_no_digit (first x) stop) in
    subst (λ (text : List ℕ). may_follow_scalar text ≡ true) (sym (append_assoc w.text (text_of more) x))
    (leaf_follows w.leaf w.text (text_of more ++ x) h.0 h.1 no_digit)
