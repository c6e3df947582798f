-- Changes of a text in the order of their places, and one change more: facts of lists alone.
--
-- A change goes before the first that begins after it (`with_change`). It is beside each, so it ends before that one
-- begins, and those that begin where it does or before it have ended. So the bytes that are gone before it are no more
-- than there were (`gone_room`), and between two changes no more than there were between (`gone_between`). So the text
-- with it is the text with the others, changed at the place to which the others move it, and changes keep their order
-- when they are moved. Each is by induction on the changes. Two texts that come at one byte can come in either order,
-- if the one that comes last in the text is put where the other ends (`put_in_front`).
--
-- Theorems: `follow_with`, `text_with_one`, `put_in_front`, `moved_with`, `moved_next`, `beside_past`, `end_apart`,
-- `end_apart_let`, `begins_apart`, `begins_at_one`, `all_with`, `one_of_all`, `rest_of_all`, `none_with`,
-- `length_with`; `gone_room`, `past_later`; `unmoved`: a change right behind a byte.
use Rattle.std.proofs.Common.{◌≡◌, ◌≢◌, ℕ, ◌+◌, ◌-◌, ◌<◌, ◌≤◌, Bool, true, false, cond, List, [], ◌∷◌, ◌++◌, length}
use Rattle.std.proofs.Common.{take, drop, get_or, suc, All, refl, sym, ap, ap₂, ◌∙◌, append_assoc, arith, inl, inr}
use Rattle.std.proofs.Common.{length-append, length-drop}
use Rattle.std.specs.Prelude.{nat_lt, ◌⊎◌, ◌==◌}
use Rattle.std.specs.List.{list_any}
use Rattle.std.proofs.lemmas.Bool.{and_parts, cases_lt, eq-eqb, eqb-true, le-ltb, lt-ltb, ltb-false, ltb-true, or_from}
use Rattle.std.proofs.lemmas.Bool.{or_parts}
use Rattle.std.proofs.lemmas.List.{drop-append-le, drop-drop, drop-take, length-take, take-append-le, take-take}
use Rattle.std.proofs.lemmas.List.Elements.{All-cons, All-head, All-nil, All-tail}
use Rattle.std.proofs.Math.Seq.{take-append-add, take-append_seam, drop-append-add, drop-append_seam}
use Rattle.keep_edit_spec.specs.Changed.{Place, put}
use Rattle.keep_edit_spec.specs.Runs.{LetsCome, takes_up_to}
use Rattle.keep_edit_spec.specs.TextChanges.{Follow, IsBeside, TextChange, come_to, gone_to, moved, moved_by_all}
use Rattle.keep_edit_spec.specs.TextChanges.{moved_by, moved_past, change_at, place_of_change, text_with, with_change}

-- ---- one change

-- A change right behind that byte leaves it where it is.
abbrev pub behind : ℕ → TextChange
behind at = change_at (suc at) 0 []

pub unmoved : (at : ℕ) → moved_by (behind at) at ≡ at
unmoved at = rw (lt-ltb at (suc at) (omega arith)) refl

-- ---- the elements

pub all_with : (P : TextChange → Type 0) (cs : List TextChange) (d : TextChange) → All P cs → P d
    → All P (with_change cs d)
all_with P [] d h one = All-cons P d [] one h
all_with P (c ∷ cs) d h one = by (nat_lt d.at c.at) (all_with P cs d (All-tail P c cs h) one)
  where
    by : (b : Bool) → All P (with_change cs d) → All P (cond b (d ∷ c ∷ cs) (c ∷ with_change cs d))
    by true ih = All-cons P d (c ∷ cs) one h
    by false ih = All-cons P c (with_change cs d) (All-head P c cs h) ih

pub one_of_all : (P : TextChange → Type 0) (cs : List TextChange) (d : TextChange) → All P (with_change cs d) → P d
one_of_all P [] d h = All-head P d [] h
one_of_all P (c ∷ cs) d h = by (nat_lt d.at c.at) (one_of_all P cs d) h
  where
    by : (b : Bool) → (All P (with_change cs d) → P d) → All P (cond b (d ∷ c ∷ cs) (c ∷ with_change cs d)) → P d
    by true ih all = All-head P d (c ∷ cs) all
    by false ih all = ih (All-tail P c (with_change cs d) all)

pub rest_of_all : (P : TextChange → Type 0) (cs : List TextChange) (d : TextChange) → All P (with_change cs d)
    → All P cs
rest_of_all P [] d h = All-nil P
rest_of_all P (c ∷ cs) d h = by (nat_lt d.at c.at) (rest_of_all P cs d) h
  where
    by : (b : Bool) → (All P (with_change cs d) → All P cs) → All P (cond b (d ∷ c ∷ cs) (c ∷ with_change cs d))
        → All P (c ∷ cs)
    by true ih all = All-tail P d (c ∷ cs) all
    by false ih all =
        All-cons P c cs (All-head P c (with_change cs d) all) (ih (All-tail P c (with_change cs d) all))

pub none_with : (test : TextChange → Bool) (cs : List TextChange) (d : TextChange)
    → list_any test (with_change cs d) ≡ false → (test d ≡ false) × (list_any test cs ≡ false)
none_with test [] d h = or_parts (test d) false h
none_with test (c ∷ cs) d h = by (nat_lt d.at c.at) (none_with test cs d) h
  where
    by : (b : Bool) → (list_any test (with_change cs d) ≡ false → (test d ≡ false) × (list_any test cs ≡ false))
        → list_any test (cond b (d ∷ c ∷ cs) (c ∷ with_change cs d)) ≡ false
        → (test d ≡ false) × (list_any test (c ∷ cs) ≡ false)
    by true ih all = or_parts (test d) (list_any test (c ∷ cs)) all
    by false ih all =
        let parts = or_parts (test c) (list_any test (with_change cs d)) all in
        let rest = ih parts.1 in
        (rest.0, or_from (test c) (list_any test cs) parts.0 rest.1)

-- where some pass a test, what holds of each holds of one that does
none_or_one : (test : TextChange → Bool) (P : TextChange → Type 0) (cs : List TextChange) → All P cs
    → (list_any test cs ≡ false) ⊎ ((c : TextChange) × (test c ≡ true) × P c)
none_or_one test P [] h = inl refl
none_or_one test P (c ∷ cs) h = by (test c) refl (none_or_one test P cs (All-tail P c cs h))
  where
    by : (b : Bool) → test c ≡ b → (list_any test cs ≡ false) ⊎ ((x : TextChange) × (test x ≡ true) × P x)
        → (list_any test (c ∷ cs) ≡ false) ⊎ ((x : TextChange) × (test x ≡ true) × P x)
    by true e rest = inr (c, e, All-head P c cs h)
    by false e (inl none) = inl (or_from (test c) (list_any test cs) e none)
    by false e (inr one) = inr one

pub length_with : (cs : List TextChange) (d : TextChange) → length (with_change cs d) ≡ suc (length cs)
length_with [] d = refl
length_with (c ∷ cs) d = by (nat_lt d.at c.at) (length_with cs d)
  where
    by : (b : Bool) → length (with_change cs d) ≡ suc (length cs)
        → length (cond b (d ∷ c ∷ cs) (c ∷ with_change cs d)) ≡ suc (suc (length cs))
    by true ih = refl
    by false ih = ap suc ih

-- ---- the order

-- of two changes that are beside each other, the one that begins first ends before the other begins
ends_before : (c d : TextChange) → IsBeside c d → c.at ≤ d.at → c.at + c.size ≤ d.at
ends_before c d (inl h) low = h
ends_before c d (inr h) low = absurd (omega (arith, h.0))

begins_after : (c d : TextChange) → IsBeside c d → d.at < c.at → d.at + d.size ≤ c.at
begins_after c d (inl h) less = absurd (omega (arith, h))
begins_after c d (inr h) less = h.1

pub follow_with : (from : ℕ) (cs : List TextChange) (d : TextChange) → from ≤ d.at → Follow from cs
    → All (λ c. IsBeside c d) cs → Follow from (with_change cs d)
follow_with from [] d low h beside = (low, tt)
follow_with from (c ∷ cs) d low h beside =
    by (nat_lt d.at c.at) refl
    (λ past. follow_with (c.at + c.size) cs d past h.1 (All-tail (λ x. IsBeside x d) c cs beside))
  where
    by : (b : Bool) → nat_lt d.at c.at ≡ b → (c.at + c.size ≤ d.at → Follow (c.at + c.size) (with_change cs d))
        → Follow from (cond b (d ∷ c ∷ cs) (c ∷ with_change cs d))
    by true e ih =
        (low, (begins_after c d (All-head (λ x. IsBeside x d) c cs beside) (ltb-true d.at c.at e), h.1))
    by false e ih =
        (h.0, ih (ends_before c d (All-head (λ x. IsBeside x d) c cs beside) (ltb-false d.at c.at e)))

-- ---- places

-- a change counts that begins at the byte or before it: so many bytes, as many as come by it or as go
abbrev counted : ℕ → TextChange → ℕ → ℕ
counted at c many = cond (nat_lt at c.at) 0 many

not_counted : (at : ℕ) (c : TextChange) (many : ℕ) → at < c.at → counted at c many ≡ 0
not_counted at c many less = rw (lt-ltb at c.at less) refl

is_counted : (at : ℕ) (c : TextChange) (many : ℕ) → c.at ≤ at → counted at c many ≡ many
is_counted at c many low = rw (le-ltb at c.at low) refl

-- changes that begin later don't count
none_come : (at from : ℕ) (cs : List TextChange) → at < from → Follow from cs → come_to at cs ≡ 0
none_come at from [] less h = refl
none_come at from (c ∷ cs) less h =
    let before : at < c.at = omega (arith, h.0) in
    omega (arith, not_counted at c (length c.new) before, none_come at (c.at + c.size) cs (omega arith) h.1)

none_gone : (at from : ℕ) (cs : List TextChange) → at < from → Follow from cs → gone_to at cs ≡ 0
none_gone at from [] less h = refl
none_gone at from (c ∷ cs) less h =
    let before : at < c.at = omega (arith, h.0) in
    omega (arith, not_counted at c c.size before, none_gone at (c.at + c.size) cs (omega arith) h.1)

-- one change more counts as it does alone
come_with : (at : ℕ) (cs : List TextChange) (d : TextChange)
    → come_to at (with_change cs d) ≡ counted at d (length d.new) + come_to at cs
come_with at [] d = refl
come_with at (c ∷ cs) d = by (nat_lt d.at c.at) (come_with at cs d)
  where
    by : (b : Bool) → come_to at (with_change cs d) ≡ counted at d (length d.new) + come_to at cs
        → come_to at (cond b (d ∷ c ∷ cs) (c ∷ with_change cs d))
        ≡ counted at d (length d.new) + come_to at (c ∷ cs)
    by true ih = refl
    by false ih = omega (arith, ih)

gone_with : (at : ℕ) (cs : List TextChange) (d : TextChange)
    → gone_to at (with_change cs d) ≡ counted at d d.size + gone_to at cs
gone_with at [] d = refl
gone_with at (c ∷ cs) d = by (nat_lt d.at c.at) (gone_with at cs d)
  where
    by : (b : Bool) → gone_to at (with_change cs d) ≡ counted at d d.size + gone_to at cs
        → gone_to at (cond b (d ∷ c ∷ cs) (c ∷ with_change cs d)) ≡ counted at d d.size + gone_to at (c ∷ cs)
    by true ih = refl
    by false ih = omega (arith, ih)

-- to a later byte as many come, or more
counted_more : (at to : ℕ) (c : TextChange) (many : ℕ) → at ≤ to → counted at c many ≤ counted to c many
counted_more at to c many up = by (nat_lt at c.at) refl
  where
    by : (b : Bool) → nat_lt at c.at ≡ b → counted at c many ≤ counted to c many
    by true e =
        let none : counted at c many ≡ 0 = not_counted at c many (ltb-true at c.at e) in
        omega arith
    by false e =
        let low : c.at ≤ at = ltb-false at c.at e in
        omega (arith, is_counted at c many low, is_counted to c many (omega arith))

come_more : (at to : ℕ) (cs : List TextChange) → at ≤ to → come_to at cs ≤ come_to to cs
come_more at to [] up = omega arith
come_more at to (c ∷ cs) up = omega (arith, counted_more at to c (length c.new) up, come_more at to cs up)

-- changes from a byte on that begin where one does that is beside each, or before it, have room between the two
pub gone_room : (from : ℕ) (cs : List TextChange) (d : TextChange) → from ≤ d.at → Follow from cs
    → All (λ c. IsBeside c d) cs → gone_to d.at cs + from ≤ d.at
gone_room from [] d low h beside = omega arith
gone_room from (c ∷ cs) d low h beside =
    by (nat_lt d.at c.at) refl
    (λ past. gone_room (c.at + c.size) cs d past h.1 (All-tail (λ x. IsBeside x d) c cs beside))
  where
    by : (b : Bool) → nat_lt d.at c.at ≡ b
        → (c.at + c.size ≤ d.at → gone_to d.at cs + (c.at + c.size) ≤ d.at)
        → gone_to d.at (c ∷ cs) + from ≤ d.at
    by true e ih =
        let less : d.at < c.at = ltb-true d.at c.at e in
        omega (arith, not_counted d.at c c.size less, none_gone d.at (c.at + c.size) cs (omega arith) h.1)
    by false e ih =
        let late : c.at ≤ d.at = ltb-false d.at c.at e in
        let past : c.at + c.size ≤ d.at =
        ends_before c d (All-head (λ x. IsBeside x d) c cs beside) late in
        omega (arith, h.0, is_counted d.at c c.size late, ih past)

-- and those that begin after one that is beside each have room between it and a later one
gone_between : (from : ℕ) (cs : List TextChange) (d e : TextChange) → d.at + d.size ≤ e.at → Follow from cs
    → All (λ c. IsBeside c d) cs → All (λ c. IsBeside c e) cs
    → gone_to e.at cs + (d.at + d.size) ≤ gone_to d.at cs + e.at
gone_between from [] d e up h left right = omega arith
gone_between from (c ∷ cs) d e up h left right =
    by (nat_lt d.at c.at) refl
    (gone_between (c.at + c.size) cs d e up h.1 (All-tail (λ x. IsBeside x d) c cs left)
    (All-tail (λ x. IsBeside x e) c cs right))
  where
    by : (b : Bool) → nat_lt d.at c.at ≡ b
        → gone_to e.at cs + (d.at + d.size) ≤ gone_to d.at cs + e.at
        → gone_to e.at (c ∷ cs) + (d.at + d.size) ≤ gone_to d.at (c ∷ cs) + e.at
    by true same ih =
        let after : d.at + d.size ≤ c.at =
        begins_after c d (All-head (λ x. IsBeside x d) c cs left) (ltb-true d.at c.at same) in
        omega (arith, gone_room (d.at + d.size) (c ∷ cs) e up (after, h.1) right)
    by false same ih =
        let late : c.at ≤ d.at = ltb-false d.at c.at same in
        omega (arith, is_counted d.at c c.size late, is_counted e.at c c.size (omega arith), ih)

-- a change is beside the byte where another begins, too, if it is beside that other
beside_byte : (c d : TextChange) → IsBeside c d → IsBeside c (change_at d.at 1 [])
beside_byte c d (inl h) = inl h
beside_byte c d (inr h) = inr (h.0, omega (arith, h.0))

-- so a later change stays later
gone_less : (cs : List TextChange) (d e : TextChange) → d.at < e.at → Follow 0 cs → All (λ c. IsBeside c d) cs
    → All (λ c. IsBeside c e) cs → gone_to e.at cs + suc d.at ≤ gone_to d.at cs + e.at
gone_less cs d e less h left right =
    omega (
      arith,
      gone_between 0 cs (change_at d.at 1 []) e (omega arith) h
          (λ k x lt. beside_byte (get_or cs k x) d (left k x lt)) right,
    )

-- ---- changes that are moved

-- one after another, with what is between
pub past_later : (cs : List TextChange) (d e : TextChange) → d.at + d.size ≤ e.at → Follow 0 cs
    → All (λ c. IsBeside c d) cs → All (λ c. IsBeside c e) cs
    → moved_by_all cs d.at + d.size ≤ moved_by_all cs e.at
past_later cs d e up h left right =
    omega (
      arith,
      come_more d.at e.at cs (omega arith),
      gone_between 0 cs d e up h left right,
      gone_room 0 cs d (omega arith) h left,
      gone_room 0 cs e (omega arith) h right,
    )

past_less : (cs : List TextChange) (d e : TextChange) → d.at < e.at → Follow 0 cs → All (λ c. IsBeside c d) cs
    → All (λ c. IsBeside c e) cs → moved_by_all cs d.at < moved_by_all cs e.at
past_less cs d e less h left right =
    omega (
      arith,
      come_more d.at e.at cs (omega arith),
      gone_less cs d e less h left right,
      gone_room 0 cs d (omega arith) h left,
      gone_room 0 cs e (omega arith) h right,
    )

pub beside_past : (cs : List TextChange) (d e : TextChange) → Follow 0 cs → All (λ c. IsBeside c d) cs
    → All (λ c. IsBeside c e) cs → IsBeside d e → IsBeside (moved_past cs d) (moved_past cs e)
beside_past cs d e h left right (inl first) = inl (past_later cs d e first h left right)
beside_past cs d e h left right (inr first) =
    inr (past_less cs e d first.0 h right left, past_later cs e d first.1 h right left)

-- the place alone
moved_with_at : (cs : List TextChange) (d e : TextChange) → Follow 0 cs → All (λ c. IsBeside c d) cs
    → All (λ c. IsBeside c e) cs → IsBeside d e
    → moved_by_all (with_change cs d) e.at ≡ moved_by (moved_past cs d) (moved_by_all cs e.at)
moved_with_at cs d e h left right (inl first) =
    let low : d.at ≤ e.at = omega (arith, first) in
    let later : moved_by_all cs d.at + d.size ≤ moved_by_all cs e.at = past_later cs d e first h left right in
    rw (le-ltb (moved_by_all cs e.at) (moved_by_all cs d.at) (omega (arith, later)))
    (omega (
      arith,
      come_with e.at cs d,
      gone_with e.at cs d,
      is_counted e.at d (length d.new) low,
      is_counted e.at d d.size low,
      gone_room 0 cs e (omega arith) h right,
    ))
moved_with_at cs d e h left right (inr first) =
    rw (lt-ltb (moved_by_all cs e.at) (moved_by_all cs d.at) (past_less cs e d first.0 h right left))
    (omega (
      arith,
      come_with e.at cs d,
      gone_with e.at cs d,
      not_counted e.at d (length d.new) first.0,
      not_counted e.at d d.size first.0,
    ))

pub moved_with : (cs : List TextChange) (d e : TextChange) → Follow 0 cs → All (λ c. IsBeside c d) cs
    → All (λ c. IsBeside c e) cs → IsBeside d e
    → moved_past (with_change cs d) e ≡ moved (moved_past cs d) (moved_past cs e)
moved_with cs d e h left right beside =
    ap (λ (at : ℕ). change_at at e.size e.new) (moved_with_at cs d e h left right beside)

-- ---- a change right before another's place

-- no change begins between the two
begins_alike : (x r : TextChange) (at : ℕ) → r.at + r.size ≡ at → IsBeside x r → x.at ≢ at
    → nat_lt r.at x.at ≡ nat_lt at x.at
begins_alike x r at next beside other = by (cases_lt r.at x.at)
  where
    by : (r.at < x.at) ⊎ (x.at ≤ r.at) → nat_lt r.at x.at ≡ nat_lt at x.at
    by (inr low) = le-ltb r.at x.at low ∙ sym (le-ltb at x.at (omega (arith, low, next)))
    by (inl less) = lt-ltb r.at x.at less ∙ sym (lt-ltb at x.at (past beside))
      where
        past : IsBeside x r → at < x.at
        past (inl before) = absurd (omega (arith, before, less))
        past (inr (first, far)) = elim (cases_lt at x.at) [
          | inl later ↦ later
          | inr up ↦ absurd (other (omega (arith, up, far, next)))
        ]

counted_alike : (r : TextChange) (at : ℕ) → r.at + r.size ≡ at → (cs : List TextChange) → All (λ x. IsBeside x r) cs
    → All (λ x. x.at ≢ at) cs → (come_to r.at cs ≡ come_to at cs) × (gone_to r.at cs ≡ gone_to at cs)
counted_alike r at next [] beside other = (refl, refl)
counted_alike r at next (x ∷ cs) beside other =
    let same : nat_lt r.at x.at ≡ nat_lt at x.at =
    begins_alike x r at next (All-head (λ y. IsBeside y r) x cs beside) (All-head (λ y. y.at ≢ at) x cs other) in
    let (come, gone) =
    counted_alike r at next cs (All-tail (λ y. IsBeside y r) x cs beside) (All-tail (λ y. y.at ≢ at) x cs other) in (
      ap₂ (λ (b : Bool) (n : ℕ). cond b 0 (length x.new) + n) same come,
      ap₂ (λ (b : Bool) (n : ℕ). cond b 0 x.size + n) same gone,
    )

-- so the place right after it moves as it does
pub moved_next : (cs : List TextChange) (r : TextChange) (at : ℕ) → Follow 0 cs → r.at + r.size ≡ at
    → All (λ x. IsBeside x r) cs → All (λ x. x.at ≢ at) cs → moved_by_all cs r.at + r.size ≡ moved_by_all cs at
moved_next cs r at h next beside other =
    let (come, gone) = counted_alike r at next cs beside other in
    omega (arith, next, come, gone, gone_room 0 cs r (omega arith) h beside)

-- ---- changes that end before another's place

-- A change that does not take the byte before a place is beside that byte, too.
beside_before : (c e : TextChange) (before : ℕ) → suc before ≡ e.at → IsBeside c e → takes_up_to e.at c ≡ false
    → IsBeside c (change_at before 0 [])
beside_before c e before is (inl ends) clear = by (cases_lt 0 c.size) (cases_lt (c.at + c.size) e.at)
  where
    by : (0 < c.size) ⊎ (c.size ≤ 0) → (c.at + c.size < e.at) ⊎ (e.at ≤ c.at + c.size)
        → IsBeside c (change_at before 0 [])
    by some (inl less) = inl (omega (arith, is, less))
    by (inl some) (inr up) =
        let same : c.at + c.size ≡ e.at = omega (arith, ends, up) in
        let takes : takes_up_to e.at c ≡ true = rw (lt-ltb 0 c.size some) (eq-eqb (c.at + c.size) e.at same) in
        absurd cc
    by (inr none) (inr up) = inr ((omega (arith, is, none, up)), omega (arith, is, none, up))
beside_before c e before is (inr after) clear = inr ((omega (arith, is, after.0)), omega (arith, is, after.0))

all_before : (cs : List TextChange) (e : TextChange) (before : ℕ) → suc before ≡ e.at → All (λ c. IsBeside c e) cs
    → list_any (takes_up_to e.at) cs ≡ false → All (λ c. IsBeside c (change_at before 0 [])) cs
all_before [] e before is h clear = All-nil (λ c. IsBeside c (change_at before 0 []))
all_before (c ∷ cs) e before is h clear =
    let parts = or_parts (takes_up_to e.at c) (list_any (takes_up_to e.at) cs) clear in
    All-cons (λ x. IsBeside x (change_at before 0 [])) c cs
    (beside_before c e before is (All-head (λ x. IsBeside x e) c cs h) parts.0)
    (all_before cs e before is (All-tail (λ x. IsBeside x e) c cs h) parts.1)

-- So where none of them takes it, one that ends elsewhere still does once they are made.
pub end_apart : (cs : List TextChange) (d e : TextChange) → Follow 0 cs → All (λ c. IsBeside c d) cs
    → All (λ c. IsBeside c e) cs → list_any (takes_up_to e.at) cs ≡ false → IsBeside d e → d.at + d.size ≢ e.at
    → moved_by_all cs d.at + d.size ≢ moved_by_all cs e.at
end_apart cs d e h left right clear (inl first) differs same =
    elim (cases_lt (d.at + d.size) e.at) [
      | inl less ↦
          let before : ℕ = e.at - 1 in
          let is : suc before ≡ e.at = omega (arith, less) in
          let byte : TextChange = change_at before 0 [] in
          let all = all_before cs e before is right clear in
          omega (
            arith,
            same,
            past_later cs d byte (omega (arith, less)) h left all,
            past_less cs byte e (omega (arith, less)) h all right,
          )
      | inr up ↦ differs (omega (arith, first, up))
    ]
end_apart cs d e h left right clear (inr first) differs same =
    omega (arith, same, past_less cs e d first.0 h right left)

-- And where one of them, g, takes it, if the bytes r that end where g begins stay: one that ends before r ends before
-- the place still, and one that begins after g ends past it.
end_apart_at : (cs : List TextChange) (d e g r : TextChange) → Follow 0 cs → All (λ c. IsBeside c d) cs
    → All (λ c. IsBeside c e) cs → All (λ c. IsBeside c r) cs → IsBeside g d → IsBeside d r → 0 < r.size
    → r.at + r.size ≡ g.at → g.at + g.size ≡ e.at → d.at + d.size ≢ e.at
    → moved_by_all cs d.at + d.size ≢ moved_by_all cs e.at
end_apart_at cs d e g r h left right stay beside (inl before) some ends next differs same =
    omega (
      arith,
      same,
      some,
      past_later cs d r before h left stay,
      past_later cs r e (omega (arith, ends, next)) h stay right,
    )
end_apart_at cs d e g r h left right stay (inr first) (inr after) some ends next differs same =
    omega (arith, first.0, after.1, ends)
end_apart_at cs d e g r h left right stay (inl past) (inr after) some ends next differs same =
    elim (cases_lt e.at d.at) [
      | inl less ↦ omega (arith, same, past_less cs e d less h right left)
      | inr up ↦
          let at : d.at ≡ e.at = omega (arith, past, next, up) in
          differs (omega (arith, at, same, ap (moved_by_all cs) at))
    ]

-- So where each doesn't take it, or takes a line whose place another can come in.
pub end_apart_let : (bytes : List ℕ) (cs : List TextChange) (d e : TextChange) → Follow 0 cs
    → All (λ c. IsBeside c d) cs → All (λ c. IsBeside c e) cs
    → All (LetsCome bytes (with_change cs d) e.at) cs → IsBeside d e → d.at + d.size ≢ e.at
    → moved_by_all cs d.at + d.size ≢ moved_by_all cs e.at
end_apart_let bytes cs d e h left right lets beside differs =
    by (none_or_one (takes_up_to e.at) (λ g. IsBeside g d × LetsCome bytes (with_change cs d) e.at g) cs
    (λ k x lt. (left k x lt, lets k x lt)))
  where
    by : (list_any (takes_up_to e.at) cs ≡ false) ⊎ ((g : TextChange) × (takes_up_to e.at g ≡ true) × (IsBeside g d
        × LetsCome bytes (with_change cs d) e.at g))
        → moved_by_all cs d.at + d.size ≢ moved_by_all cs e.at
    by (inl none) = end_apart cs d e h left right none beside differs
    by (inr (g, takes, (side, inl clear))) = absurd cc
    by (inr (g, takes, (side, inr leaves))) =
        let r : TextChange = change_at leaves.said.from (suc (length leaves.said.line)) [] in
        let there : g.at + g.size ≡ e.at =
        eqb-true (g.at + g.size) e.at (and_parts (nat_lt 0 g.size) (g.at + g.size == e.at) takes).1 in
        end_apart_at cs d e g r h left right (rest_of_all (λ x. IsBeside x r) cs d leaves.stays) side
        (one_of_all (λ x. IsBeside x r) cs d leaves.stays) (omega arith) leaves.said.ends there differs

-- Two that begin at two places still do.
pub begins_apart : (cs : List TextChange) (d e : TextChange) → Follow 0 cs → All (λ c. IsBeside c d) cs
    → All (λ c. IsBeside c e) cs → d.at ≢ e.at → moved_by_all cs d.at ≢ moved_by_all cs e.at
begins_apart cs d e h left right differs same = elim (cases_lt d.at e.at) [
  | inl less ↦ omega (arith, same, past_less cs d e less h left right)
  | inr up ↦ elim (cases_lt e.at d.at) [
    | inl less ↦ omega (arith, same, past_less cs e d less h right left)
    | inr down ↦ differs (omega (arith, up, down))
  ]
]

-- So where they begin at one place then, they did before.
pub begins_at_one : (cs : List TextChange) (d e : TextChange) → Follow 0 cs → All (λ c. IsBeside c d) cs
    → All (λ c. IsBeside c e) cs → moved_by_all cs d.at ≡ moved_by_all cs e.at → d.at ≡ e.at
begins_at_one cs d e h left right same = elim (cases_lt d.at e.at) [
  | inl less ↦ absurd (begins_apart cs d e h left right (λ is. omega (arith, less, is)) same)
  | inr up ↦ elim (cases_lt e.at d.at) [
    | inl less ↦ absurd (begins_apart cs d e h left right (λ is. omega (arith, less, is)) same)
    | inr down ↦ omega (arith, up, down)
  ]
]

-- ---- texts

-- so many bytes give place to these
abbrev put_at : ℕ → ℕ → List ℕ → Place
put_at at size new = record { start = at; end = at + size; new = new }

-- a changed text, where the parts on its sides are known
put_between : (w before new after : List ℕ) (k size : ℕ) → take k w ≡ before → drop (k + size) w ≡ after
    → before ++ (new ++ after) ≡ put w (put_at k size new)
put_between w before new after k size left right = sym (ap₂ (λ (p q : List ℕ). p ++ (new ++ q)) left right)

-- and past a part that stays
put_past : (a w new : List ℕ) (k size : ℕ)
    → a ++ put w (put_at k size new) ≡ put (a ++ w) (put_at (length a + k) size new)
put_past a w new k size =
    let sum : length a + k + size ≡ length a + (k + size) = omega arith in
    sym (append_assoc a (take k w) (new ++ drop (k + size) w))
    ∙ put_between (a ++ w) (a ++ take k w) new (drop (k + size) w) (length a + k) size (take-append-add a w k)
    (ap (λ (n : ℕ). drop n (a ++ w)) sum ∙ drop-append-add a w (k + size))

-- before a change that begins later
put_before : (from at size to k : ℕ) (bytes new rest : List ℕ) → from + k ≡ at → at + size ≤ to
    → at + size ≤ length bytes
    → drop from (take at bytes) ++ (new ++ (drop (at + size) (take to bytes) ++ rest))
    ≡ put (drop from (take to bytes) ++ rest) (put_at k size new)
put_before from at size to k bytes new rest start past within =
    let a : List ℕ = drop from (take to bytes) in
    let few : k + size ≤ length a = omega (arith, length-drop from (take to bytes), length-take to bytes) in
    let end : from + (k + size) ≡ at + size = omega arith in
    put_between (a ++ rest) (drop from (take at bytes)) new (drop (at + size) (take to bytes) ++ rest) k size
    (take-append-le k a rest (omega arith)
    ∙ sym (drop-take from k (take to bytes))
    ∙ ap (λ (n : ℕ). drop from (take n (take to bytes))) start
    ∙ ap (drop from) (take-take at to bytes (omega arith)))
    (drop-append-le (k + size) a rest few
    ∙ ap (λ (t : List ℕ). t ++ rest)
    (drop-drop (k + size) from (take to bytes) ∙ ap (λ (n : ℕ). drop n (take to bytes)) end))

-- the bytes of the text between the end of a change and the place to which the later changes move another
abbrev room_to : List TextChange → TextChange → ℕ → ℕ
room_to cs d from = moved_by_all cs d.at - from

text_from : (from : ℕ) (bytes : List ℕ) (cs : List TextChange) (d : TextChange) (k : ℕ) → from ≤ d.at
    → d.at + d.size ≤ length bytes → Follow from cs → All (λ c. IsBeside c d) cs
    → from + k + gone_to d.at cs ≡ d.at + come_to d.at cs
    → text_with from bytes (with_change cs d) ≡ put (text_with from bytes cs) (put_at k d.size d.new)
text_from from bytes [] d k low within h beside sum =
    let start : from + k ≡ d.at = omega arith in
    let end : from + (k + d.size) ≡ d.at + d.size = omega arith in
    put_between (drop from bytes) (drop from (take d.at bytes)) d.new (drop (d.at + d.size) bytes) k d.size
    (sym (drop-take from k bytes) ∙ ap (λ (n : ℕ). drop from (take n bytes)) start)
    (drop-drop (k + d.size) from bytes ∙ ap (λ (n : ℕ). drop n bytes) end)
text_from from bytes (c ∷ cs) d k low within h beside sum =
    by (nat_lt d.at c.at) refl
    (λ past. text_from (c.at + c.size) bytes cs d (room_to cs d (c.at + c.size)) past within h.1 alone
    (omega (arith, gone_room (c.at + c.size) cs d past h.1 alone)))
  where
    alone : All (λ x. IsBeside x d) cs
    alone = All-tail (λ x. IsBeside x d) c cs beside

    by : (b : Bool) → nat_lt d.at c.at ≡ b
        → (c.at + c.size ≤ d.at → text_with (c.at + c.size) bytes (with_change cs d)
        ≡ put (text_with (c.at + c.size) bytes cs) (put_at (room_to cs d (c.at + c.size)) d.size d.new))
        → text_with from bytes (cond b (d ∷ c ∷ cs) (c ∷ with_change cs d))
        ≡ put (text_with from bytes (c ∷ cs)) (put_at k d.size d.new)
    by true e ih =
        let less : d.at < c.at = ltb-true d.at c.at e in
        put_before from d.at d.size c.at k bytes d.new (c.new ++ text_with (c.at + c.size) bytes cs)
        (omega (
          arith,
          sum,
          not_counted d.at c (length c.new) less,
          not_counted d.at c c.size less,
          none_come d.at (c.at + c.size) cs (omega arith) h.1,
          none_gone d.at (c.at + c.size) cs (omega arith) h.1,
        ))
        (begins_after c d (All-head (λ x. IsBeside x d) c cs beside) less) within
    by false e ih =
        let late : c.at ≤ d.at = ltb-false d.at c.at e in
        let past : c.at + c.size ≤ d.at =
        ends_before c d (All-head (λ x. IsBeside x d) c cs beside) late in
        let a : List ℕ = drop from (take c.at bytes) in
        let w : List ℕ = text_with (c.at + c.size) bytes cs in
        let n : ℕ = room_to cs d (c.at + c.size) in
        let on : length a + (length c.new + n) ≡ k =
        omega (
          arith,
          h.0,
          sum,
          is_counted d.at c (length c.new) late,
          is_counted d.at c c.size late,
          gone_room (c.at + c.size) cs d past h.1 alone,
          length-drop from (take c.at bytes),
          length-take c.at bytes,
        ) in
        ap (λ (t : List ℕ). a ++ (c.new ++ t)) (ih past)
        ∙ ap (λ (t : List ℕ). a ++ t) (put_past c.new w d.new n d.size)
        ∙ put_past a (c.new ++ w) d.new (length c.new + n) d.size
        ∙ ap (λ (at : ℕ). put (a ++ (c.new ++ w)) (put_at at d.size d.new)) on

pub text_with_one : (bytes : List ℕ) (cs : List TextChange) (d : TextChange) → d.at + d.size ≤ length bytes
    → Follow 0 cs → All (λ c. IsBeside c d) cs
    → text_with 0 bytes (with_change cs d) ≡ put (text_with 0 bytes cs) (place_of_change (moved_past cs d))
text_with_one bytes cs d within h beside =
    text_from 0 bytes cs d (moved_by_all cs d.at) (omega arith) within h beside
    (omega (arith, gone_room 0 cs d (omega arith) h beside))

-- a text is cut where its first part ends
seam : (w l r : List ℕ) (n : ℕ) → w ≡ l ++ r → n ≡ length l → (take n w ≡ l) × (drop n w ≡ r)
seam w l r n is long = (
  ap₂ (λ (m : ℕ) (t : List ℕ). take m t) long is ∙ take-append_seam l r,
  ap₂ (λ (m : ℕ) (t : List ℕ). drop m t) long is ∙ drop-append_seam l r,
)

-- bytes give place to others, and then something new comes in front; or the new first, and the others behind it
come_in_front : (bytes new more : List ℕ) (at size : ℕ) → at ≤ length bytes
    → put (put bytes (put_at at size more)) (put_at at 0 new)
    ≡ put (put bytes (put_at at 0 new)) (put_at (at + length new) size more)
come_in_front bytes new more at size few =
    let a : List ℕ = take at bytes in
    let b : List ℕ = drop (at + 0) bytes in
    let r : List ℕ = drop (at + size) bytes in
    let w : List ℕ = a ++ (new ++ b) in
    let long : length a ≡ at = omega (arith, length-take at bytes, few) in
    let front = seam (a ++ (more ++ r)) a (more ++ r) at refl (sym long) in
    let ends : at + length new ≡ length (a ++ new) = omega (arith, long, length-append a new) in
    let back = seam w (a ++ new) b (at + length new) (sym (append_assoc a new b)) ends in
    let rest : drop (at + length new + size) w ≡ r =
    sym (drop-drop size (at + length new) w) ∙ ap (drop size) back.1 ∙ drop-drop size (at + 0) bytes
    ∙ ap (λ (n : ℕ). drop n bytes) (omega arith) in
    sym (put_between (a ++ (more ++ r)) a new (more ++ r) at 0 front.0
    (ap (λ (n : ℕ). drop n (a ++ (more ++ r))) (omega arith) ∙ front.1))
    ∙ sym (append_assoc a new (more ++ r))
    ∙ put_between w (a ++ new) more r (at + length new) size back.0 rest

-- Of two changes that begin at one byte, the later one comes in front, if it takes nothing, as if it had been first.
pub put_in_front : (bytes : List ℕ) (c d : TextChange) → d.at ≡ c.at → c.size ≡ 0 → c.at ≤ length bytes
    → put (put bytes (place_of_change d)) (place_of_change c)
    ≡ put (put bytes (place_of_change c)) (place_of_change (moved c d))
put_in_front bytes c d same none few =
    let own : place_of_change c ≡ put_at c.at 0 c.new = ap (λ (n : ℕ). put_at c.at n c.new) none in
    ap₂ (λ (p q : Place). put (put bytes p) q) (ap (λ (n : ℕ). put_at n d.size d.new) same) own
    ∙ come_in_front bytes c.new d.new c.at d.size few
    ∙ sym (ap₂ (λ (p q : Place). put (put bytes p) q) own (ap (λ (n : ℕ). put_at n d.size d.new) past))
  where
    past : moved_by c d.at ≡ c.at + length c.new
    past = rw (le-ltb d.at c.at (omega (arith, same))) (omega (arith, same, none))
