-- A change that goes on past a place, where bytes after the place go and come back.
--
-- The text is the same with the place's own change, the narrow one (`wider_put`). Both move a byte alike, since as many
-- bytes more come as go (`narrow_moves`). What is beside the wide change is beside the narrow one, which is in it
-- (`beside_narrow`). After another change beside the wide one, the bytes that go and come back are the
-- same (`rest_stays`), and in the text still (`moved_within`), so the wide one moves as the narrow one does
-- (`still_wider`).
--
-- Theorems: `new_long`, `wider_put`, `narrow_moves`, `beside_narrow`, `rest_stays`, `still_wider`.
use Rattle.std.proofs.Common.{◌≡◌, ℕ, ◌+◌, ◌-◌, ◌<◌, ◌≤◌, cond, List, ◌++◌, length, take, drop, refl, sym, ap, ap₂, ◌∙◌}
use Rattle.std.proofs.Common.{append_assoc, length-append, arith, length-drop, inl, inr}
use Rattle.std.specs.Prelude.{nat_lt}
use Rattle.std.proofs.lemmas.Bool.{le-ltb, lt-ltb}
use Rattle.std.proofs.lemmas.List.{drop-append-le, drop-drop, drop-take, length-take-le, take-append-drop}
use Rattle.std.proofs.lemmas.List.{take-append-le, take-take}
use Rattle.std.proofs.Math.Seq.{drop-append-add}
use Rattle.keep_edit_spec.specs.Changed.{Place, put}
use Rattle.keep_edit_spec.specs.TextChanges.{IsBeside, IsWider, TextChange, change_at, moved, moved_by, place_of_change}

-- the change of the place alone
abbrev pub narrow : Place → TextChange
narrow p = change_at p.start (p.end - p.start) p.new

pub narrow_place : (p : Place) → p.start ≤ p.end → p ≡ place_of_change (narrow p)
narrow_place p low =
    let e : p.end ≡ p.start + (p.end - p.start) = omega (arith, low) in
    ap (λ (n : ℕ). record { start = p.start; end = n; new = p.new }) e

module _ (bytes : List ℕ) (p : Place) (c : TextChange) (h : IsWider bytes p c) (low : p.start ≤ p.end) where
  rest_long : length (take h.rest (drop p.end bytes)) ≡ h.rest
  rest_long = length-take-le h.rest (drop p.end bytes) (omega (arith, length-drop p.end bytes, h.within))

  pub new_long : length c.new ≡ length p.new + h.rest
  new_long =
      ap (λ (t : List ℕ). length t) h.new ∙ length-append p.new (take h.rest (drop p.end bytes))
      ∙ ap (λ (n : ℕ). length p.new + n) rest_long

  pub wider_put : put bytes p ≡ put bytes (place_of_change c)
  wider_put =
      let more : List ℕ = drop p.end bytes in
      let parts : drop p.end bytes ≡ take h.rest more ++ drop (c.at + c.size) bytes =
      sym (take-append-drop h.rest more)
      ∙ ap (λ (t : List ℕ). take h.rest more ++ t) (drop-drop h.rest p.end bytes
      ∙ ap (λ (n : ℕ). drop n bytes) (omega (arith, h.end))) in
      ap (λ (t : List ℕ). take p.start bytes ++ (p.new ++ t)) parts
      ∙ ap (λ (t : List ℕ). take p.start bytes ++ t)
      (sym (append_assoc p.new (take h.rest more) (drop (c.at + c.size) bytes))
      ∙ ap (λ (t : List ℕ). t ++ drop (c.at + c.size) bytes) (sym h.new))
      ∙ ap (λ (n : ℕ). take n bytes ++ (c.new ++ drop (c.at + c.size) bytes)) (sym h.start)

  pub narrow_moves : (at : ℕ) → moved_by (narrow p) at ≡ moved_by c at
  narrow_moves at =
      ap (λ (n : ℕ). cond (nat_lt at n) at ((at + length p.new) - (p.end - p.start))) (sym h.start)
      ∙ ap (cond (nat_lt at c.at) at) (
      let same : (at + length p.new) - (p.end - p.start) ≡ (at + length c.new) - c.size =
      omega (arith, new_long, h.start, h.end, low) in same)

  pub beside_narrow : (d : TextChange) → IsBeside c d → IsBeside (narrow p) d
  beside_narrow d (inl e) = inl (let end : c.at + c.size ≤ d.at = e in omega (arith, end, h.end, low))
  beside_narrow d (inr (less, far)) = inr ((omega (arith, less, h.start)), (omega (arith, far, h.start)))

-- ---- after another change

-- the bytes of a text from one byte on are those of what is put before another text
past_front : (front back : List ℕ) (n m : ℕ) → n ≡ length front + m → drop n (front ++ back) ≡ drop m back
past_front front back n m is = ap (λ (i : ℕ). drop i (front ++ back)) is ∙ drop-append-add front back m

in_front : (bytes back : List ℕ) (to n size : ℕ) → n + size ≤ to → to ≤ length bytes
    → take size (drop n (take to bytes ++ back)) ≡ take size (drop n bytes)
in_front bytes back to n size few within =
    let front : List ℕ = take to bytes in
    let long : length front ≡ to = length-take-le to bytes within in
    let enough : size ≤ length (drop n front) = omega (arith, length-drop n front, long, few) in
    let room : to ≡ n + (to - n) = omega (arith, few) in
    ap (take size) (drop-append-le n front back (omega (arith, long, few)))
    ∙ take-append-le size (drop n front) back enough
    ∙ ap (λ (i : ℕ). take size (drop n (take i bytes))) room
    ∙ ap (take size) (drop-take n (to - n) bytes)
    ∙ take-take size (to - n) (drop n bytes) (omega (arith, few))

-- the bytes at a change, from one of them on, are the same after another change beside it
pub rest_stays : (bytes : List ℕ) (c d : TextChange) (k size : ℕ) → k + size ≤ d.size → c.at + c.size ≤ length bytes
    → IsBeside c d → take size (drop (moved_by c d.at + k) (put bytes (place_of_change c)))
    ≡ take size (drop (d.at + k) bytes)
rest_stays bytes c d k size few within (inl far) =
    let past : c.at + c.size ≤ d.at = far in
    let front : List ℕ = take c.at bytes ++ c.new in
    let more : ℕ = (d.at + k) - (c.at + c.size) in
    let moved : moved_by c d.at ≡ (d.at + length c.new) - c.size = rw (le-ltb d.at c.at (omega (arith, past))) refl in
    let long : length front ≡ c.at + length c.new =
    length-append (take c.at bytes) c.new
    ∙ ap (λ (n : ℕ). n + length c.new) (length-take-le c.at bytes (omega (arith, within))) in
    ap (λ (t : List ℕ). take size (drop (moved_by c d.at + k) t))
    (sym (append_assoc (take c.at bytes) c.new (drop (c.at + c.size) bytes)))
    ∙ ap (take size)
    (past_front front (drop (c.at + c.size) bytes) (moved_by c d.at + k) more (omega (arith, moved, long, past))
    ∙ drop-drop more (c.at + c.size) bytes
    ∙ ap (λ (n : ℕ). drop n bytes)
    (let same : c.at + c.size + more ≡ d.at + k = omega (arith, past) in same))
rest_stays bytes c d k size few within (inr (less, far)) =
    let stays : moved_by c d.at ≡ d.at = rw (lt-ltb d.at c.at less) refl in
    ap (λ (n : ℕ). take size (drop (n + k) (put bytes (place_of_change c)))) stays
    ∙ in_front bytes (c.new ++ drop (c.at + c.size) bytes) c.at (d.at + k) size (omega (arith, far, few))
    (omega (arith, within))

-- and it is in the text still
moved_within : (bytes : List ℕ) (c d : TextChange) → d.at + d.size ≤ length bytes → c.at + c.size ≤ length bytes
    → IsBeside c d → moved_by c d.at + d.size ≤ length (put bytes (place_of_change c))
moved_within bytes c d few within beside =
    let back : List ℕ = drop (c.at + c.size) bytes in
    let long : length (put bytes (place_of_change c)) ≡ c.at + (length c.new + (length bytes - (c.at + c.size))) =
    omega (
      arith,
      length-append (take c.at bytes) (c.new ++ back),
      length-append c.new back,
      length-take-le c.at bytes (omega (arith, within)),
      length-drop (c.at + c.size) bytes,
    ) in
    by beside long
  where
    by : IsBeside c d
        → length (put bytes (place_of_change c)) ≡ c.at + (length c.new + (length bytes - (c.at + c.size)))
        → moved_by c d.at + d.size ≤ length (put bytes (place_of_change c))
    by (inl far) long =
        let past : c.at + c.size ≤ d.at = far in
        let moved : moved_by c d.at ≡ (d.at + length c.new) - c.size =
        rw (le-ltb d.at c.at (omega (arith, past))) refl in
        omega (arith, moved, long, past, few)
    by (inr (less, far)) long =
        let stays : moved_by c d.at ≡ d.at = rw (lt-ltb d.at c.at less) refl in omega (arith, stays, long, far)

-- Where the place has moved as its own change does, the wide change is that of it still.
pub still_wider : (bytes now : List ℕ) (p q : Place) (c d : TextChange) → IsWider bytes p d → p.start < p.end
    → now ≡ put bytes (place_of_change c) → c.at + c.size ≤ length bytes → IsBeside c d
    → q ≡ place_of_change (moved c (narrow p)) → IsWider now q (moved c d)
still_wider bytes now p q c d h some is within beside moves =
    let n : ℕ = moved_by c p.start in
    let start : q.start ≡ n = ap (λ (x : Place). x.start) moves in
    let end : q.end ≡ n + (p.end - p.start) = ap (λ (x : Place). x.end) moves in
    let new : q.new ≡ p.new = ap (λ (x : Place). x.new) moves in
    let at : moved_by c d.at ≡ n = ap (moved_by c) h.start in
    let k : ℕ = p.end - p.start in
    let long : k + h.rest ≡ d.size = omega (arith, h.start, h.end, some) in
    let same : take h.rest (drop q.end now) ≡ take h.rest (drop p.end bytes) =
    ap₂ (λ (i : ℕ) (t : List ℕ). take h.rest (drop i t)) (end ∙ ap (λ (i : ℕ). i + k) (sym at)) is
    ∙ rest_stays bytes c d k h.rest (omega (arith, long)) within beside
    ∙ ap (λ (i : ℕ). take h.rest (drop i bytes)) (omega (arith, h.start, some)) in
    record {
      rest = h.rest;
      start = at ∙ sym start;
      end = omega (arith, at, end, long);
      within = omega (
        arith,
        moved_within bytes c d (omega (arith, h.end, h.within)) within beside,
        ap (λ (t : List ℕ). length t) is,
        at,
        end,
        long,
      );
      new = h.new ∙ ap₂ (λ (a b : List ℕ). a ++ b) (sym new) (sym same);
    }
