-- A change c, which takes nothing, in a list of changes, another in its place, and one change more: lists alone.
--
-- The changes before c in the list begin where it does or before it, those after it there or later. So one change more
-- is put before it or after it (`goes_left`, `goes_right`), and the text is that of the changes before it up to c, then
-- what c gives, then the rest (`text_parts`). What c gives begins where they move its place (`starts_there`), so one
-- change more ends before that, or begins after it (`moved_there`). Two changes in one list at places that differ
-- are found in it apart (`found_own`, `found_other`).
--
-- Theorems: `put_among`, `goes_among`, `moved_there`, `text_parts`, `starts_there`, `put_part`, `found_own`,
-- `found_other`; `all_before`, `all_from`, `all_join`: what holds of all.
use Rattle.std.proofs.Common.{◌≡◌, ◌≢◌, ℕ, ◌+◌, ◌-◌, ◌<◌, ◌≤◌, Bool, true, false, cond, List, [], ◌∷◌, ◌++◌, length}
use Rattle.std.proofs.Common.{take, drop, All, refl, sym, ap, ap₂, subst, ◌∙◌, append_assoc, arith, length-append}
use Rattle.std.proofs.Common.{length-drop, inl, inr}
use Rattle.std.specs.Prelude.{nat_lt, ◌⊎◌}
use Rattle.std.proofs.lemmas.Bool.{cases_lt, le-ltb, lt-ltb}
use Rattle.std.proofs.lemmas.List.{length-take, take-take}
use Rattle.std.proofs.lemmas.List.Elements.{All-cons, All-head, All-nil, All-tail}
use Rattle.std.proofs.Math.Seq.{take-append-add, drop-append-add}
use Rattle.keep_edit_spec.specs.Changed.{put}
use Rattle.keep_edit_spec.specs.TextChanges.{Follow, IsBeside, TextChange, change_at, come_to, gone_to, moved_by}
use Rattle.keep_edit_spec.specs.TextChanges.{moved_by_all, moved_past, text_with, with_change}
use Rattle.keep_edit_spec.proofs.Lists.ChangeOrder.{goes_before, goes_past}
use Rattle.keep_edit_spec.proofs.Lists.TextChanges.{gone_room, moved_with, past_later}

-- ---- what comes before the change, and after it

-- one more change goes before a change that begins later, among those before it
goes_left : (before after : List TextChange) (c e : TextChange) → e.at < c.at
    → with_change (before ++ c ∷ after) e ≡ with_change before e ++ c ∷ after
goes_left [] after c e less = rw (lt-ltb e.at c.at less) refl
goes_left (x ∷ before) after c e less = by (nat_lt e.at x.at) (goes_left before after c e less)
  where
    by : (b : Bool) → with_change (before ++ c ∷ after) e ≡ with_change before e ++ c ∷ after
        → cond b (e ∷ x ∷ before ++ c ∷ after) (x ∷ with_change (before ++ c ∷ after) e)
        ≡ cond b (e ∷ x ∷ before) (x ∷ with_change before e) ++ c ∷ after
    by true ih = refl
    by false ih = ap (λ (l : List TextChange). x ∷ l) ih

-- each of those before it ends where it begins, or before that
low : (from : ℕ) (before after : List TextChange) (c : TextChange) → Follow from (before ++ c ∷ after) → from ≤ c.at
low from [] after c h = h.0
low from (x ∷ before) after c h =
    let k : x.at + x.size ≤ c.at = low (x.at + x.size) before after c h.1 in omega (arith, k, h.0)

-- and after those before it if it begins where it does or later
goes_right : (from : ℕ) (before after : List TextChange) (c e : TextChange) → Follow from (before ++ c ∷ after)
    → c.at ≤ e.at → with_change (before ++ c ∷ after) e ≡ before ++ c ∷ with_change after e
goes_right from [] after c e h late = rw (le-ltb e.at c.at late) refl
goes_right from (x ∷ before) after c e h late =
    let past : x.at + x.size ≤ c.at = low (x.at + x.size) before after c h.1 in
    let less : x.at ≤ e.at = omega (arith, past, late) in
    ap (λ (b : Bool). cond b (e ∷ x ∷ before ++ c ∷ after) (x ∷ with_change (before ++ c ∷ after) e))
    (le-ltb e.at x.at less)
    ∙ ap (λ (l : List TextChange). x ∷ l) (goes_right (x.at + x.size) before after c e h.1 late)

follow_before : (from : ℕ) (before after : List TextChange) (c : TextChange) → Follow from (before ++ c ∷ after)
    → Follow from before
follow_before from [] after c h = tt
follow_before from (x ∷ before) after c h = (h.0, follow_before (x.at + x.size) before after c h.1)

follow_after : (from : ℕ) (before after : List TextChange) (c : TextChange) → Follow from (before ++ c ∷ after)
    → Follow (c.at + c.size) after
follow_after from [] after c h = h.1
follow_after from (x ∷ before) after c h = follow_after (x.at + x.size) before after c h.1

-- a place where nothing is taken
abbrev here : TextChange → TextChange
here c = change_at c.at 0 []

beside_before : (from : ℕ) (before after : List TextChange) (c : TextChange) → Follow from (before ++ c ∷ after)
    → All (λ x. IsBeside x (here c)) before
beside_before from [] after c h = All-nil (λ x. IsBeside x (here c))
beside_before from (x ∷ before) after c h =
    let past : x.at + x.size ≤ c.at = low (x.at + x.size) before after c h.1 in
    All-cons (λ y. IsBeside y (here c)) x before (inl past) (beside_before (x.at + x.size) before after c h.1)

pub all_before : (P : TextChange → Type 0) (before after : List TextChange) (c : TextChange)
    → All P (before ++ c ∷ after) → All P before
all_before P [] after c h = All-nil P
all_before P (x ∷ before) after c h =
    All-cons P x before (All-head P x (before ++ c ∷ after) h)
    (all_before P before after c (All-tail P x (before ++ c ∷ after) h))

pub all_from : (P : TextChange → Type 0) (before after : List TextChange) (c : TextChange)
    → All P (before ++ c ∷ after) → P c × All P after
all_from P [] after c h = (All-head P c after h, All-tail P c after h)
all_from P (x ∷ before) after c h = all_from P before after c (All-tail P x (before ++ c ∷ after) h)

pub all_join : (P : TextChange → Type 0) (before after : List TextChange) (c : TextChange) → All P before → P c
    → All P after → All P (before ++ c ∷ after)
all_join P [] after c h one k = All-cons P c after one k
all_join P (x ∷ before) after c h one k =
    All-cons P x (before ++ c ∷ after) (All-head P x before h)
    (all_join P before after c (All-tail P x before h) one k)

-- ---- two lists with one or the other change

-- the one list has c where the other has d
pub record IsAmong (c d : TextChange) (xs ys : List TextChange) : Type 0 where
  pub before : List TextChange
  pub after : List TextChange
  pub is : xs ≡ before ++ c ∷ after
  pub other : ys ≡ before ++ d ∷ after

-- ---- where changes are moved

counted_before : (from at : ℕ) (before after : List TextChange) (c : TextChange) → Follow from (before ++ c ∷ after)
    → c.at ≤ at → (come_to at before ≡ come_to c.at before) × (gone_to at before ≡ gone_to c.at before)
counted_before from at [] after c h late = (refl, refl)
counted_before from at (x ∷ before) after c h late =
    let past : x.at + x.size ≤ c.at = low (x.at + x.size) before after c h.1 in
    let same : nat_lt at x.at ≡ nat_lt c.at x.at =
    le-ltb at x.at (omega (arith, past, late)) ∙ sym (le-ltb c.at x.at (omega (arith, past))) in
    let (come, gone) = counted_before (x.at + x.size) at before after c h.1 late in (
      ap₂ (λ (b : Bool) (n : ℕ). cond b 0 (length x.new) + n) same come,
      ap₂ (λ (b : Bool) (n : ℕ). cond b 0 x.size + n) same gone,
    )

come_parts : (at : ℕ) (before after : List TextChange)
    → come_to at (before ++ after) ≡ come_to at before + come_to at after
come_parts at [] after = omega arith
come_parts at (x ∷ before) after = omega (arith, come_parts at before after)

gone_parts : (at : ℕ) (before after : List TextChange)
    → gone_to at (before ++ after) ≡ gone_to at before + gone_to at after
gone_parts at [] after = omega arith
gone_parts at (x ∷ before) after = omega (arith, gone_parts at before after)

-- those that begin later don't count
none_later : (from at : ℕ) (after : List TextChange) → at < from → Follow from after
    → (come_to at after ≡ 0) × (gone_to at after ≡ 0)
none_later from at [] less h = (refl, refl)
none_later from at (x ∷ after) less h =
    let before : at < x.at = omega (arith, less, h.0) in
    let (come, gone) = none_later (x.at + x.size) at after (omega (arith, before)) h.1 in (
      rw (lt-ltb at x.at before) (omega (arith, come)),
      rw (lt-ltb at x.at before) (omega (arith, gone)),
    )

-- One change more, of a text in which what c gives is from this byte on: it ends before that and moves it, or begins
-- after it.
abbrev pub IsMoreThere : ℕ → ℕ → TextChange → ℕ → Type 0
IsMoreThere start size e next =
    ((e.at + e.size ≤ start) × (next + e.size ≡ start + length e.new))
    ⊎ ((start + size ≤ e.at) × (next ≡ start))

-- the lists with the change more, and where it is
pub record IsAmongMore (c d : TextChange) (xs ys : List TextChange) (start : ℕ) (e : TextChange) : Type 0 where
  pub among : IsAmong c d (with_change xs e) (with_change ys e)
  pub there : IsMoreThere start (length c.new) (moved_past xs e) (moved_by_all among.before c.at)

module _ (before after : List TextChange) (c d e : TextChange) (none : c.size ≡ 0) (same : c.at ≡ d.at)
    (h : Follow 0 (before ++ c ∷ after)) (beside : All (λ x. IsBeside x e) (before ++ c ∷ after)) where
  abbrev all : List TextChange
  all = before ++ c ∷ after

  abbrev start : ℕ
  start = moved_by_all before c.at

  follows : Follow 0 before
  follows = follow_before 0 before after c h

  -- ---- before it

  module _ (less : e.at < c.at) where
    ends : e.at + e.size ≤ c.at
    ends = by (all_from (λ x. IsBeside x e) before after c beside).0
      where
        by : IsBeside c e → e.at + e.size ≤ c.at
        by (inl past) = absurd (omega (arith, past, less))
        by (inr (first, past)) = past

    left_beside : All (λ x. IsBeside x e) before
    left_beside = all_before (λ x. IsBeside x e) before after c beside

    moved_left : moved_by_all all e.at ≡ moved_by_all before e.at
    moved_left =
        let (come, gone) =
        none_later (c.at + c.size) e.at after (omega (arith, less)) (follow_after 0 before after c h) in
        let come_all : come_to e.at all ≡ come_to e.at before + 0 =
        come_parts e.at before (c ∷ after)
        ∙ ap (λ (n : ℕ). come_to e.at before + n)
        (rw (lt-ltb e.at c.at less) (omega (arith, come))) in
        let gone_all : gone_to e.at all ≡ gone_to e.at before + 0 =
        gone_parts e.at before (c ∷ after)
        ∙ ap (λ (n : ℕ). gone_to e.at before + n)
        (rw (lt-ltb e.at c.at less) (omega (arith, gone))) in
        omega (arith, come_all, gone_all)

    later : moved_by_all before e.at + e.size ≤ start
    later =
        past_later before e (here c) ends follows left_beside (beside_before 0 before after c h)

    next_left : moved_by_all (with_change before e) c.at + e.size ≡ start + length e.new
    next_left =
        let is : moved_by_all (with_change before e) c.at ≡ moved_by (moved_past before e) start =
        ap (λ (x : TextChange). x.at)
        (moved_with before e (here c) follows left_beside (beside_before 0 before after c h) (inl ends)) in
        let past : nat_lt start (moved_by_all before e.at) ≡ false =
        le-ltb start (moved_by_all before e.at) (omega (arith, later)) in
        let there : moved_by (moved_past before e) start ≡ (start + length e.new) - e.size =
        ap (λ (b : Bool). cond b start ((start + length e.new) - e.size)) past in
        omega (arith, is, there, later)

    goes_first : IsAmongMore c d all (before ++ d ∷ after) start e
    goes_first = record {
      among = record {
        before = with_change before e;
        after = after;
        is = goes_left before after c e less;
        other = goes_left before after d e (omega (arith, less, same));
      };
      there = inl ((omega (arith, moved_left, later)), next_left);
    }

  -- ---- after it

  module _ (late : c.at ≤ e.at) where
    moved_right : start + length c.new ≤ moved_by_all all e.at
    moved_right =
        let (come, gone) = counted_before 0 e.at before after c h late in
        let right : All (λ x. IsBeside x e) after = (all_from (λ x. IsBeside x e) before after c beside).1 in
        let room : gone_to e.at after + (c.at + c.size) ≤ e.at =
        gone_room (c.at + c.size) after e (omega (arith, none, late)) (follow_after 0 before after c h) right in
        let room_before : gone_to c.at before + 0 ≤ c.at =
        gone_room 0 before (here c) (omega arith) follows (beside_before 0 before after c h) in
        let come_all : come_to e.at all ≡ come_to e.at before + (length c.new + come_to e.at after) =
        come_parts e.at before (c ∷ after)
        ∙ ap (λ (n : ℕ). come_to e.at before + n) (rw (le-ltb e.at c.at late) refl) in
        let gone_all : gone_to e.at all ≡ gone_to e.at before + (c.size + gone_to e.at after) =
        gone_parts e.at before (c ∷ after)
        ∙ ap (λ (n : ℕ). gone_to e.at before + n) (rw (le-ltb e.at c.at late) refl) in
        omega (arith, come, gone, room, room_before, come_all, gone_all, none)

    goes_last : IsAmongMore c d all (before ++ d ∷ after) start e
    goes_last = record {
      among = record {
        before = before;
        after = with_change after e;
        is = goes_right 0 before after c e h late;
        other = right_of 0 before h;
      };
      there = inr (moved_right, refl);
    }
      where
        right_of : (from : ℕ) (l : List TextChange) → Follow from (l ++ c ∷ after)
            → with_change (l ++ d ∷ after) e ≡ l ++ d ∷ with_change after e
        right_of from [] k =
            let past : d.at ≤ e.at = omega (arith, same, late) in rw (le-ltb e.at d.at past) refl
        right_of from (x ∷ l) k =
            let past : x.at + x.size ≤ c.at = low (x.at + x.size) l after c k.1 in
            let less : x.at ≤ e.at = omega (arith, past, late) in
            ap (λ (b : Bool). cond b (e ∷ x ∷ l ++ d ∷ after) (x ∷ with_change (l ++ d ∷ after) e))
            (le-ltb e.at x.at less)
            ∙ ap (λ (z : List TextChange). x ∷ z) (right_of (x.at + x.size) l k.1)

  goes : IsAmongMore c d all (before ++ d ∷ after) start e
  goes = elim (cases_lt e.at c.at) [ inl less ↦ goes_first less | inr late ↦ goes_last late ]

pub goes_among : (c d : TextChange) (xs ys : List TextChange) (k : IsAmong c d xs ys) (e : TextChange) → c.size ≡ 0
    → c.at ≡ d.at → Follow 0 xs → All (λ x. IsBeside x e) xs
    → IsAmongMore c d xs ys (moved_by_all k.before c.at) e
goes_among c d xs ys k e none same h beside =
    subst (λ (l : List TextChange). IsAmongMore c d l ys (moved_by_all k.before c.at) e) (sym k.is)
    (subst (λ (l : List TextChange).
    IsAmongMore c d (k.before ++ c ∷ k.after) l (moved_by_all k.before c.at) e) (sym k.other)
    (goes k.before k.after c d e none same (subst (Follow 0) k.is h)
    (subst (All (λ x. IsBeside x e)) k.is beside)))

-- a part of what c gives: the change more is beside it, and moves it along
pub moved_there : (start next size : ℕ) (e x : TextChange) (at : ℕ) → x.at ≡ start + at → 0 < x.size
    → at + x.size ≤ size → IsMoreThere start size e next → IsBeside e x × (moved_by e x.at ≡ next + at)
moved_there start next size e x at is some few (inl (ends, moves)) =
    let past : nat_lt x.at e.at ≡ false = le-ltb x.at e.at (omega (arith, is, ends)) in (
      inl (omega (arith, is, ends)),
      ap (λ (b : Bool). cond b x.at ((x.at + length e.new) - e.size)) past ∙ omega (arith, is, ends, moves),
    )
moved_there start next size e x at is some few (inr (begins, stays)) =
    let before : x.at < e.at = omega (arith, is, begins, some, few) in (
      inr (before, omega (arith, is, begins, few)),
      ap (λ (b : Bool). cond b x.at ((x.at + length e.new) - e.size)) (lt-ltb x.at e.at before)
          ∙ omega (arith, is, stays),
    )

-- ---- the text

-- the text up to the change, the changes before it made
abbrev pub text_to : ℕ → List ℕ → List TextChange → TextChange → List ℕ
text_to from bytes before c = text_with from (take c.at bytes) before

abbrev pub text_after : List ℕ → TextChange → List TextChange → List ℕ
text_after bytes c after = text_with (c.at + c.size) bytes after

pub text_parts : (from : ℕ) (bytes : List ℕ) (before after : List TextChange) (c : TextChange)
    → Follow from (before ++ c ∷ after)
    → text_with from bytes (before ++ c ∷ after)
    ≡ text_to from bytes before c ++ (c.new ++ text_after bytes c after)
text_parts from bytes [] after c h = refl
text_parts from bytes (x ∷ before) after c h =
    let past : x.at + x.size ≤ c.at = low (x.at + x.size) before after c h.1 in
    let rest : List ℕ = c.new ++ text_after bytes c after in
    let p : List ℕ = text_to (x.at + x.size) bytes before c in
    ap₂ (λ (a t : List ℕ). drop from a ++ (x.new ++ t)) (sym (take-take x.at c.at bytes (omega (arith, past))))
    (text_parts (x.at + x.size) bytes before after c h.1)
    ∙ ap (λ (t : List ℕ). drop from (take x.at (take c.at bytes)) ++ t) (sym (append_assoc x.new p rest))
    ∙ sym (append_assoc (drop from (take x.at (take c.at bytes))) (x.new ++ p) rest)

long_to : (from : ℕ) (bytes : List ℕ) (before after : List TextChange) (c : TextChange) → c.at ≤ length bytes
    → Follow from (before ++ c ∷ after)
    → length (text_to from bytes before c) + (from + gone_to c.at before) ≡ c.at + come_to c.at before
long_to from bytes [] after c few h =
    omega (arith, length-drop from (take c.at bytes), length-take c.at bytes, h.0, few)
long_to from bytes (x ∷ before) after c few h =
    let past : x.at + x.size ≤ c.at = low (x.at + x.size) before after c h.1 in
    let w : List ℕ = take c.at bytes in
    let p : List ℕ = text_to (x.at + x.size) bytes before c in
    let a : List ℕ = drop from (take x.at w) in
    let counts : nat_lt c.at x.at ≡ false = le-ltb c.at x.at (omega (arith, past)) in
    let come : come_to c.at (x ∷ before) ≡ length x.new + come_to c.at before = rw counts refl in
    let gone : gone_to c.at (x ∷ before) ≡ x.size + gone_to c.at before = rw counts refl in
    omega (
      arith,
      come,
      gone,
      past,
      h.0,
      few,
      long_to (x.at + x.size) bytes before after c few h.1,
      length-append a (x.new ++ p),
      length-append x.new p,
      length-drop from (take x.at w),
      length-take x.at w,
      length-take c.at bytes,
    )

-- it is as long as where they move the change
pub starts_there : (bytes : List ℕ) (before after : List TextChange) (c : TextChange) → c.at ≤ length bytes
    → Follow 0 (before ++ c ∷ after) → length (text_to 0 bytes before c) ≡ moved_by_all before c.at
starts_there bytes before after c few h =
    omega (arith, long_to 0 bytes before after c few h)

-- a part of a part gives place to another
pub put_part : (a key was newline b new : List ℕ) (at size : ℕ) → at ≡ length a + length key → size ≡ length was
    → put (a ++ ((key ++ (was ++ newline)) ++ b)) (record { start = at; end = at + size; new = new })
    ≡ a ++ ((key ++ (new ++ newline)) ++ b)
put_part a key was newline b new at size is long =
    let rest : List ℕ = newline ++ b in
    let whole : a ++ ((key ++ (was ++ newline)) ++ b) ≡ (a ++ key) ++ (was ++ rest) = simp append_assoc refl in
    let start : at ≡ length (a ++ key) + 0 = omega (arith, is, length-append a key) in
    let end : at + size ≡ length (a ++ key) + length was = omega (arith, is, long, length-append a key) in
    ap₂ (λ (t : List ℕ) (z : ℕ). take z t ++ (new ++ drop (at + size) t)) whole start
    ∙ ap (λ (z : ℕ). take (length (a ++ key) + 0) ((a ++ key) ++ (was ++ rest))
    ++ (new ++ drop z ((a ++ key) ++ (was ++ rest)))) end
    ∙ ap₂ (λ (l r : List ℕ). l ++ (new ++ r)) (take-append-add (a ++ key) (was ++ rest) 0)
    (drop-append-add (a ++ key) (was ++ rest) (length was) ∙ dropped was rest)
    ∙ none_taken (a ++ key) (was ++ rest) (new ++ rest)
    ∙ simp append_assoc refl
  where
    dropped : (l r : List ℕ) → drop (length l) (l ++ r) ≡ r
    dropped l r =
        ap (λ (z : ℕ). drop z (l ++ r)) (let e : length l ≡ length l + 0 = omega arith in e)
        ∙ drop-append-add l r 0 ∙ none_gone r
      where
        none_gone : (t : List ℕ) → drop 0 t ≡ t
        none_gone [] = refl
        none_gone (x ∷ t) = refl

    none_taken : (l r t : List ℕ) → (l ++ take 0 r) ++ t ≡ l ++ t
    none_taken l [] t = append_assoc l [] t
    none_taken l (x ∷ r) t = append_assoc l [] t

-- ---- a change among others

none_there : (cs l r : List TextChange) (c : TextChange) → All (λ y. y ≢ c) cs → cs ≡ l ++ c ∷ r → ⊥
none_there cs [] r c h is =
    All-head (λ y. y ≢ c) c r (subst (All (λ y. y ≢ c)) is h) refl
none_there cs (x ∷ l) r c h is =
    none_there (l ++ c ∷ r) l r c (All-tail (λ y. y ≢ c) x (l ++ c ∷ r) (subst (All (λ y. y ≢ c)) is h)) refl

-- where a change is put
record IsPutThere (cs : List TextChange) (x : TextChange) : Type 0 where
  left : List TextChange
  right : List TextChange
  was : cs ≡ left ++ right
  none : (from : ℕ) → Follow from cs → (come_to x.at right ≡ 0) × (gone_to x.at right ≡ 0)
  is : (d : TextChange) → d.at ≡ x.at → with_change cs d ≡ left ++ d ∷ right

put_there : (cs : List TextChange) (x : TextChange) → IsPutThere cs x
put_there [] x = record { left = []; right = []; was = refl; none = λ from h. (refl, refl); is = λ d same. refl }
put_there (y ∷ cs) x = elim (cases_lt x.at y.at) [
  | inl less ↦ record {
    left = [];
    right = y ∷ cs;
    was = refl;
    none = λ from h. none_later y.at x.at (y ∷ cs) less (omega arith, h.1);
    is = λ d same. goes_before y cs d (omega (arith, less, same));
  }
  | inr late ↦
      let more : IsPutThere cs x = put_there cs x in
      record {
        left = y ∷ more.left;
        right = more.right;
        was = ap (λ (l : List TextChange). y ∷ l) more.was;
        none = λ from h. more.none (y.at + y.size) h.1;
        is = λ d same.
            goes_past y cs d (omega (arith, late, same)) ∙ ap (λ (l : List TextChange). y ∷ l) (more.is d same);
      }
]

-- The change is put in, and is where the others move its place; another there is put in its place.
pub record IsAmongFirst (cs : List TextChange) (c d : TextChange) : Type 0 where
  pub among : IsAmong c d (with_change cs c) (with_change cs d)
  pub start : moved_by_all among.before c.at ≡ moved_by_all cs c.at

pub put_among : (cs : List TextChange) (c d : TextChange) → Follow 0 cs → c.at ≡ d.at → IsAmongFirst cs c d
put_among cs c d h same =
    let put : IsPutThere cs c = put_there cs c in
    let (come, gone) = put.none 0 h in
    record {
      among = record {
        before = put.left;
        after = put.right;
        is = put.is c refl;
        other = put.is d (sym same);
      };
      start =
          let all : come_to c.at cs ≡ come_to c.at put.left + come_to c.at put.right =
          ap (come_to c.at) put.was ∙ come_parts c.at put.left put.right in
          let taken : gone_to c.at cs ≡ gone_to c.at put.left + gone_to c.at put.right =
          ap (gone_to c.at) put.was ∙ gone_parts c.at put.left put.right in
          omega (arith, come, gone, all, taken);
    }

-- a list has it at one place
same_place : (left right before after : List TextChange) (x c d : TextChange) → All (λ y. y ≢ c) (left ++ right)
    → left ++ x ∷ right ≡ before ++ c ∷ after → (x ≡ c) × (left ++ d ∷ right ≡ before ++ d ∷ after)
same_place [] right [] after x c d h is =
    (cc, let rest : right ≡ after = cc in ap (λ (l : List TextChange). d ∷ l) rest)
same_place [] right (y ∷ before) after x c d h is =
    let rest : right ≡ before ++ c ∷ after = cc in absurd (none_there right before after c h rest)
same_place (y ∷ left) right [] after x c d h is =
    let first : y ≡ c = cc in absurd (All-head (λ z. z ≢ c) y (left ++ right) h first)
same_place (y ∷ left) right (z ∷ before) after x c d h is =
    let first : y ≡ z = cc in
    let rest : left ++ x ∷ right ≡ before ++ c ∷ after = cc in
    let (one, more) =
    same_place left right before after x c d (All-tail (λ w. w ≢ c) y (left ++ right) h) rest in
    (one, ap₂ (λ (w : TextChange) (l : List TextChange). w ∷ l) first more)

-- Where none of the others is a change, and it is in the list with one more, it is that one; another there is in its
-- place.
pub found_own : (cs : List TextChange) (x c d : TextChange) (before after : List TextChange)
    → All (λ y. y ≢ c) cs → d.at ≡ x.at → with_change cs x ≡ before ++ c ∷ after
    → (x ≡ c) × (with_change cs d ≡ before ++ d ∷ after)
found_own cs x c d before after other same is =
    let put : IsPutThere cs x = put_there cs x in
    let (one, more) =
    same_place put.left put.right before after x c d (subst (All (λ y. y ≢ c)) put.was other)
    (sym (put.is x refl) ∙ is) in
    (one, put.is d same ∙ more)

-- And where the one more is not that change, it is among the others; with another in its place the list has it there.
pub record IsFoundThere (cs : List TextChange) (x c d : TextChange) (before after : List TextChange) : Type 0 where
  pub left : List TextChange
  pub right : List TextChange
  pub was : cs ≡ left ++ c ∷ right
  pub is : with_change (left ++ d ∷ right) x ≡ before ++ d ∷ after

-- the one more comes first
found_first : (cs l right : List TextChange) (y x c d : TextChange) → c.at ≡ d.at → x.at < y.at
    → y ∷ cs ≡ l ++ c ∷ right → with_change (l ++ d ∷ right) x ≡ x ∷ l ++ d ∷ right
found_first cs [] right y x c d same less is =
    let first : y ≡ c = cc in
    goes_before d right x (omega (arith, less, same, ap (λ (z : TextChange). z.at) first))
found_first cs (z ∷ l) right y x c d same less is =
    let first : y ≡ z = cc in
    goes_before z (l ++ d ∷ right) x (omega (arith, less, ap (λ (w : TextChange). w.at) first))

pub found_other : (cs : List TextChange) (x c d : TextChange) (before after : List TextChange) → x ≢ c
    → c.at ≡ d.at → with_change cs x ≡ before ++ c ∷ after → IsFoundThere cs x c d before after
found_other [] x c d [] after other same is = absurd (other cc)
found_other [] x c d (y ∷ before) after other same is =
    let rest : [] ≡ before ++ c ∷ after = cc in
    absurd (none_there [] before after c (All-nil (λ z. z ≢ c)) rest)
found_other (y ∷ cs) x c d before after other same is =
    by (cases_lt x.at y.at) (λ l. found_other cs x c d l after other same) before is
  where
    by : (x.at < y.at) ⊎ (y.at ≤ x.at)
        → ((l : List TextChange) → with_change cs x ≡ l ++ c ∷ after → IsFoundThere cs x c d l after)
        → (l : List TextChange) → with_change (y ∷ cs) x ≡ l ++ c ∷ after → IsFoundThere (y ∷ cs) x c d l after
    by (inl less) ih [] e = absurd (other (let k : x ∷ y ∷ cs ≡ c ∷ after = sym (goes_before y cs x less) ∙ e in cc))
    by (inl less) ih (z ∷ l) e =
        let k : x ∷ y ∷ cs ≡ z ∷ l ++ c ∷ after = sym (goes_before y cs x less) ∙ e in
        let first : x ≡ z = cc in
        let rest : y ∷ cs ≡ l ++ c ∷ after = cc in
        record {
          left = l;
          right = after;
          was = rest;
          is = found_first cs l after y x c d same less rest
              ∙ ap (λ (w : TextChange). w ∷ l ++ d ∷ after) first;
        }
    by (inr late) ih [] e =
        let k : y ∷ with_change cs x ≡ c ∷ after = sym (goes_past y cs x late) ∙ e in
        let first : y ≡ c = cc in
        let rest : with_change cs x ≡ after = cc in
        record {
          left = [];
          right = cs;
          was = ap (λ (w : TextChange). w ∷ cs) first;
          is = goes_past d cs x (omega (arith, late, same, ap (λ (w : TextChange). w.at) first))
              ∙ ap (λ (l : List TextChange). d ∷ l) rest;
        }
    by (inr late) ih (z ∷ l) e =
        let k : y ∷ with_change cs x ≡ z ∷ l ++ c ∷ after = sym (goes_past y cs x late) ∙ e in
        let first : y ≡ z = cc in
        let rest : with_change cs x ≡ l ++ c ∷ after = cc in
        let more : IsFoundThere cs x c d l after = ih l rest in
        record {
          left = y ∷ more.left;
          right = more.right;
          was = ap (λ (w : List TextChange). y ∷ w) {y = more.left ++ c ∷ more.right} more.was;
          is = goes_past y (more.left ++ d ∷ more.right) x late
              ∙ ap₂ (λ (w : TextChange) (m : List TextChange). w ∷ m) first more.is;
        }
