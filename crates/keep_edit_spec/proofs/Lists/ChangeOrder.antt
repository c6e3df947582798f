-- Changes in the order of their places: one put before another, or in the place of another, gives one list.
--
-- Two that begin at two places can be put in either order (`with_both`), by induction on the changes. A change goes
-- right before those that begin later (`is_put`). So another one that begins there goes there, too. In a list in which
-- each follows the one before, one that takes bytes at a place is the only one there (`one_there`). Of two at a place
-- the one that is put in later is the later one (`put_ahead`).
--
-- Theorems: `with_both`, `beside_back`, `put_in_place`, `one_in_place`, `others_in_place`, `put_ahead`; `follow_low`,
-- `goes_before`, `goes_past`.
use Rattle.std.proofs.Common.{◌≡◌, ◌≢◌, ℕ, ◌+◌, ◌<◌, ◌≤◌, List, [], ◌∷◌, ◌++◌, All, refl, sym, ap, ap₂}
use Rattle.std.proofs.Common.{◌∙◌, arith, inl, inr, subst}
use Rattle.std.specs.Prelude.{◌⊎◌}
use Rattle.std.proofs.lemmas.Bool.{cases_lt, le-ltb, lt-ltb}
use Rattle.keep_edit_spec.specs.TextChanges.{Follow, IsBeside, TextChange, with_change}
use Rattle.keep_edit_spec.proofs.Lists.TextChanges.{one_of_all}

-- ---- two changes

pub goes_before : (c : TextChange) (cs : List TextChange) (d : TextChange) → d.at < c.at
    → with_change (c ∷ cs) d ≡ d ∷ c ∷ cs
goes_before c cs d less = rw (lt-ltb d.at c.at less) refl

pub goes_past : (c : TextChange) (cs : List TextChange) (d : TextChange) → c.at ≤ d.at
    → with_change (c ∷ cs) d ≡ c ∷ with_change cs d
goes_past c cs d low = rw (le-ltb d.at c.at low) refl

-- one that begins before all of them comes first
with_first : (c : TextChange) (cs : List TextChange) (a b : TextChange) → a.at < b.at → a.at < c.at
    → with_change (with_change (c ∷ cs) b) a ≡ a ∷ with_change (c ∷ cs) b
with_first c cs a b less low = by (cases_lt b.at c.at)
  where
    by : (b.at < c.at) ⊎ (c.at ≤ b.at) → with_change (with_change (c ∷ cs) b) a ≡ a ∷ with_change (c ∷ cs) b
    by (inl up) = rw (goes_before c cs b up) (goes_before b (c ∷ cs) a less)
    by (inr down) = rw (goes_past c cs b down) (goes_before c (with_change cs b) a low)

with_less : (cs : List TextChange) (a b : TextChange) → a.at < b.at
    → with_change (with_change cs a) b ≡ with_change (with_change cs b) a
with_less [] a b less = goes_past a [] b (omega (arith, less)) ∙ sym (goes_before b [] a less)
with_less (c ∷ cs) a b less = elim (cases_lt a.at c.at) [
  | inl low ↦
      ap (λ (l : List TextChange). with_change l b) (goes_before c cs a low)
      ∙ goes_past a (c ∷ cs) b (omega (arith, less))
      ∙ sym (with_first c cs a b less low)
  | inr up ↦
      ap (λ (l : List TextChange). with_change l b) (goes_past c cs a up)
      ∙ goes_past c (with_change cs a) b (omega (arith, up, less))
      ∙ ap (λ (l : List TextChange). c ∷ l) (with_less cs a b less)
      ∙ sym (goes_past c (with_change cs b) a up)
      ∙ sym (ap (λ (l : List TextChange). with_change l a) (goes_past c cs b (omega (arith, up, less))))
]

pub with_both : (cs : List TextChange) (a b : TextChange) → a.at ≢ b.at
    → with_change (with_change cs a) b ≡ with_change (with_change cs b) a
with_both cs a b differs = elim (cases_lt a.at b.at) [
  | inl less ↦ with_less cs a b less
  | inr up ↦ elim (cases_lt b.at a.at) [
    | inl less ↦ sym (with_less cs b a less)
    | inr down ↦ absurd (differs (omega (arith, up, down)))
  ]
]

-- One that takes bytes is beside another, and begins elsewhere, if that is beside it.
pub beside_back : (c d : TextChange) → 0 < c.size → IsBeside c d → IsBeside d c × (c.at ≢ d.at)
beside_back c d some (inl ends) = (inr (omega (arith, some, ends), ends), λ same. omega (arith, some, ends, same))
beside_back c d some (inr (less, ends)) = (inl ends, λ same. omega (arith, less, same))

-- ---- one in the place of another

-- where a change is put
record IsPut (rest : List TextChange) (c : TextChange) : Type 0 where
  before : List TextChange
  after : List TextChange
  all : rest ≡ before ++ after
  is : (d : TextChange) → d.at ≡ c.at → with_change rest d ≡ before ++ d ∷ after

is_put : (rest : List TextChange) (c : TextChange) → IsPut rest c
is_put [] c = record { before = []; after = []; all = refl; is = λ d same. refl }
is_put (x ∷ rest) c = elim (cases_lt c.at x.at) [
  | inl less ↦ record {
    before = [];
    after = x ∷ rest;
    all = refl;
    is = λ d same. goes_before x rest d (omega (arith, less, same));
  }
  | inr low ↦
      let more : IsPut rest c = is_put rest c in
      record {
        before = x ∷ more.before;
        after = more.after;
        all = ap (λ (l : List TextChange). x ∷ l) more.all;
        is = λ d same.
            goes_past x rest d (omega (arith, low, same)) ∙ ap (λ (l : List TextChange). x ∷ l) (more.is d same);
      }
]

-- each begins where those before it end, or later
pub follow_low : (from : ℕ) (before after : List TextChange) (x : TextChange) → Follow from (before ++ x ∷ after)
    → from ≤ x.at
follow_low from [] after x follow = follow.0
follow_low from (y ∷ before) after x follow =
    let low : y.at + y.size ≤ x.at = follow_low (y.at + y.size) before after x follow.1 in
    omega (arith, low, follow.0)

-- Two at one place, which take bytes, are one.
one_there : (from : ℕ) (before after left right : List TextChange) (x c d : TextChange) → x.at ≡ c.at → 0 < x.size
    → 0 < c.size → Follow from (before ++ x ∷ after) → before ++ x ∷ after ≡ left ++ c ∷ right
    → before ++ d ∷ after ≡ left ++ d ∷ right
one_there from [] after [] right x c d at some has follow is =
    let rest : after ≡ right = cc in ap (λ (l : List TextChange). d ∷ l) rest
one_there from [] after (y ∷ left) right x c d at some has follow is =
    let rest : after ≡ left ++ c ∷ right = cc in
    let low : x.at + x.size ≤ c.at =
    follow_low (x.at + x.size) left right c (subst (Follow (x.at + x.size)) rest follow.1) in
    absurd (omega (arith, low, at, some))
one_there from (y ∷ before) after [] right x c d at some has follow is =
    let first : y ≡ c = cc in
    let low : y.at + y.size ≤ x.at = follow_low (y.at + y.size) before after x follow.1 in
    let there : c.at + c.size ≤ x.at = subst (λ (z : TextChange). z.at + z.size ≤ x.at) first low in
    absurd (omega (arith, there, at, has))
one_there from (y ∷ before) after (z ∷ left) right x c d at some has follow is =
    let first : y ≡ z = cc in
    let rest : before ++ x ∷ after ≡ left ++ c ∷ right = cc in
    ap (λ (l : List TextChange). y ∷ l)
    (one_there (y.at + y.size) before after left right x c d at some has follow.1 rest)
    ∙ ap (λ (z : TextChange). z ∷ left ++ d ∷ right) first

-- So the others are the same.
others_there : (from : ℕ) (before after left right : List TextChange) (c : TextChange) → 0 < c.size
    → Follow from (before ++ c ∷ after) → before ++ c ∷ after ≡ left ++ c ∷ right → before ++ after ≡ left ++ right
others_there from [] after [] right c some follow is = cc
others_there from [] after (y ∷ left) right c some follow is =
    let rest : after ≡ left ++ c ∷ right = cc in
    let low : c.at + c.size ≤ c.at =
    follow_low (c.at + c.size) left right c (subst (Follow (c.at + c.size)) rest follow.1) in
    absurd (omega (arith, low, some))
others_there from (y ∷ before) after [] right c some follow is =
    let first : y ≡ c = cc in
    let low : y.at + y.size ≤ c.at = follow_low (y.at + y.size) before after c follow.1 in
    let there : c.at + c.size ≤ c.at = subst (λ (z : TextChange). z.at + z.size ≤ c.at) first low in
    absurd (omega (arith, there, some))
others_there from (y ∷ before) after (z ∷ left) right c some follow is =
    let first : y ≡ z = cc in
    let rest : before ++ c ∷ after ≡ left ++ c ∷ right = cc in
    ap (λ (l : List TextChange). y ∷ l)
    (others_there (y.at + y.size) before after left right c some follow.1 rest)
    ∙ ap (λ (w : TextChange). w ∷ left ++ right) first

-- A change in a list at the place of c, with which the list is that of the others, is c: another in its place is put
-- among the others.
pub put_in_place : (before after rest : List TextChange) (x c d : TextChange) → x.at ≡ d.at → x.size ≡ d.size
    → c.at ≡ d.at → c.size ≡ d.size → 0 < d.size → Follow 0 (before ++ x ∷ after)
    → before ++ x ∷ after ≡ with_change rest c → before ++ d ∷ after ≡ with_change rest d
put_in_place before after rest x c d at size there many some follow is =
    let put : IsPut rest c = is_put rest c in
    one_there 0 before after put.before put.after x c d (at ∙ sym there) (omega (arith, size, some))
    (omega (arith, many, some)) follow (is ∙ put.is c refl)
    ∙ sym (put.is d (sym there))

-- Two at one place, which take bytes, are the same.
same_there : (from : ℕ) (before after left right : List TextChange) (x c : TextChange) → x.at ≡ c.at → 0 < x.size
    → 0 < c.size → Follow from (before ++ x ∷ after) → before ++ x ∷ after ≡ left ++ c ∷ right → x ≡ c
same_there from [] after [] right x c at some has follow is = cc
same_there from [] after (y ∷ left) right x c at some has follow is =
    let rest : after ≡ left ++ c ∷ right = cc in
    let low : x.at + x.size ≤ c.at =
    follow_low (x.at + x.size) left right c (subst (Follow (x.at + x.size)) rest follow.1) in
    absurd (omega (arith, low, at, some))
same_there from (y ∷ before) after [] right x c at some has follow is =
    let first : y ≡ c = cc in
    let low : y.at + y.size ≤ x.at = follow_low (y.at + y.size) before after x follow.1 in
    let there : c.at + c.size ≤ x.at = subst (λ (z : TextChange). z.at + z.size ≤ x.at) first low in
    absurd (omega (arith, there, at, has))
same_there from (y ∷ before) after (z ∷ left) right x c at some has follow is =
    let rest : before ++ x ∷ after ≡ left ++ c ∷ right = cc in
    same_there (y.at + y.size) before after left right x c at some has follow.1 rest

-- A change of such a list at the place of c, with which the list is that of the others, is c.
pub one_in_place : (before after rest : List TextChange) (x c : TextChange) → x.at ≡ c.at → 0 < x.size → 0 < c.size
    → Follow 0 (before ++ x ∷ after) → before ++ x ∷ after ≡ with_change rest c → x ≡ c
one_in_place before after rest x c at some has follow is =
    let put : IsPut rest c = is_put rest c in
    same_there 0 before after put.before put.after x c at some has follow (is ∙ put.is c refl)

-- And the others are those of the list without it.
pub others_in_place : (before after rest : List TextChange) (c : TextChange) → 0 < c.size
    → Follow 0 (before ++ c ∷ after) → before ++ c ∷ after ≡ with_change rest c → rest ≡ before ++ after
others_in_place before after rest c some follow is =
    let put : IsPut rest c = is_put rest c in
    put.all ∙ sym (others_there 0 before after put.before put.after c some follow (is ∙ put.is c refl))

-- ---- one before the last at a place

-- The last change at the place of one that is put in is that one. Another there, which is put in before it, goes right
-- before it.
pub put_ahead : (from : ℕ) (before after cs : List TextChange) (x c d : TextChange) → Follow from cs → x.at ≡ c.at
    → d.at ≡ c.at → All (λ y. c.at < y.at) after → with_change cs x ≡ before ++ d ∷ after
    → with_change (with_change cs c) x ≡ before ++ c ∷ d ∷ after
put_ahead from [] after [] x c d follow same there later is =
    goes_past c [] x (omega (arith, same)) ∙ ap (λ (l : List TextChange). c ∷ l) is
put_ahead from (z ∷ before) after [] x c d follow same there later is = absurd (no_more before is)
  where
    no_more : (l : List TextChange) → x ∷ [] ≡ z ∷ l ++ d ∷ after → ⊥
    no_more [] e = absurd cc
    no_more (y ∷ l) e = absurd cc
put_ahead from before after (y ∷ cs) x c d follow same there later is =
    by (cases_lt x.at y.at) before is (λ l. put_ahead (y.at + y.size) l after cs x c d follow.1 same there later)
  where
    by : (x.at < y.at) ⊎ (y.at ≤ x.at) → (l : List TextChange) → with_change (y ∷ cs) x ≡ l ++ d ∷ after
        → ((m : List TextChange) → with_change cs x ≡ m ++ d ∷ after
        → with_change (with_change cs c) x ≡ m ++ c ∷ d ∷ after)
        → with_change (with_change (y ∷ cs) c) x ≡ l ++ c ∷ d ∷ after
    by (inl less) [] e ih =
        ap (λ (m : List TextChange). with_change m x) (goes_before y cs c (omega (arith, less, same)))
        ∙ goes_past c (y ∷ cs) x (omega (arith, same))
        ∙ ap (λ (m : List TextChange). c ∷ m) e
    by (inl less) (z ∷ l) e ih =
        let k : x ∷ y ∷ cs ≡ z ∷ l ++ d ∷ after = sym (goes_before y cs x less) ∙ e in
        let rest : y ∷ cs ≡ l ++ d ∷ after = cc in
        let low : y.at ≤ d.at = follow_low y.at l after d (subst (Follow y.at) rest (omega arith, follow.1)) in
        absurd (omega (arith, low, less, same, there))
    by (inr late) [] e ih =
        let k : y ∷ with_change cs x ≡ d ∷ after = sym (goes_past y cs x late) ∙ e in
        let rest : with_change cs x ≡ after = cc in
        let past : c.at < x.at =
        one_of_all (λ w. c.at < w.at) cs x (subst (All (λ w. c.at < w.at)) (sym rest) later) in
        absurd (omega (arith, past, same))
    by (inr late) (z ∷ l) e ih =
        let k : y ∷ with_change cs x ≡ z ∷ l ++ d ∷ after = sym (goes_past y cs x late) ∙ e in
        let first : y ≡ z = cc in
        let rest : with_change cs x ≡ l ++ d ∷ after = cc in
        ap (λ (m : List TextChange). with_change m x) (goes_past y cs c (omega (arith, late, same)))
        ∙ goes_past y (with_change cs c) x late
        ∙ ap₂ (λ (w : TextChange) (m : List TextChange). w ∷ m) first (ih l rest)
