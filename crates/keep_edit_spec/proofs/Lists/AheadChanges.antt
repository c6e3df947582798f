-- A change right before the last ones at its byte, in the order of their places, and in the text.
--
-- Changes are cut at a byte: those up to it, and the others, which begin with one after it (`split_at`). One that
-- begins at the byte is put between the two (`put_past`). So edits at one byte put theirs there in their order, and one
-- more before all of these edits puts its own before theirs (`before_all`). A list has one such cut (`one_split`), and
-- one that leaves so many behind it (`one_length`). Of two texts that come at two bytes, the one that comes in front
-- moves the other's place (`come_ahead`).
--
-- Theorems: `put_before_all`, `low_before`, `put_ahead_of`.
use Rattle.std.proofs.Common.{◌≡◌, ℕ, ◌+◌, ◌-◌, ◌<◌, ◌≤◌, List, [], ◌∷◌, ◌++◌, length, take, drop, suc, All, refl, sym}
use Rattle.std.proofs.Common.{ap, ap₂, ◌∙◌, append_assoc, append-nil, arith, inl, inr, subst, length-append}
use Rattle.std.specs.Prelude.{⊤}
use Rattle.std.proofs.lemmas.Bool.{cases_lt, le-ltb}
use Rattle.std.proofs.lemmas.List.{drop-append-le, drop-drop, drop-take, length-take, take-append-le, take-take}
use Rattle.std.proofs.lemmas.List.Elements.{All-append, All-cons, All-head, All-nil, All-tail}
use Rattle.std.proofs.Math.Seq.{take-append-add, drop-append-add}
use Rattle.keep_edit_spec.specs.Changed.{Place, put}
use Rattle.keep_edit_spec.specs.RunLists.{MadeEdit, changes_of}
use Rattle.keep_edit_spec.specs.TextChanges.{Follow, TextChange, moved, moved_by, place_of_change, with_change}
use Rattle.keep_edit_spec.proofs.Lists.ChangeOrder.{follow_low, goes_before, goes_past}

-- ---- the order

-- the first of them begins after the byte
Later : ℕ → List TextChange → Type 0
Later at [] = ⊤
Later at (x ∷ xs) = at < x.at

all_later : (at : ℕ) (cs : List TextChange) → All (λ x. at < x.at) cs → Later at cs
unfolding Later
all_later at [] h = tt
all_later at (c ∷ cs) h = All-head (λ x. at < x.at) c cs h

-- the changes up to a byte, and the others
record IsSplit (at : ℕ) (cs : List TextChange) : Type 0 where
  low : List TextChange
  high : List TextChange
  all : cs ≡ low ++ high
  up_to : All (λ x. x.at ≤ at) low
  later : Later at high

split_at : (at : ℕ) (cs : List TextChange) → IsSplit at cs
unfolding Later
split_at at [] = record { low = []; high = []; all = refl; up_to = All-nil (λ x. x.at ≤ at); later = tt }
split_at at (c ∷ cs) = elim (cases_lt at c.at) [
  | inl less ↦ record { low = []; high = c ∷ cs; all = refl; up_to = All-nil (λ x. x.at ≤ at); later = less }
  | inr up ↦
      let more : IsSplit at cs = split_at at cs in
      record {
        low = c ∷ more.low;
        high = more.high;
        all = ap (λ (l : List TextChange). c ∷ l) more.all;
        up_to = All-cons (λ x. x.at ≤ at) c more.low up more.up_to;
        later = more.later;
      }
]

-- one that begins at the byte is put between the two
put_past : (low high : List TextChange) (d : TextChange) → All (λ x. x.at ≤ d.at) low → Later d.at high
    → with_change (low ++ high) d ≡ low ++ d ∷ high
unfolding Later
put_past [] [] d up_to later = refl
put_past [] (x ∷ high) d up_to later = goes_before x high d later
put_past (x ∷ low) high d up_to later =
    goes_past x (low ++ high) d (All-head (λ y. y.at ≤ d.at) x low up_to)
    ∙ ap (λ (l : List TextChange). x ∷ l) (put_past low high d (All-tail (λ y. y.at ≤ d.at) x low up_to) later)

-- there is one such cut
one_split : (at : ℕ) (low high left right : List TextChange) → All (λ x. x.at ≤ at) low → All (λ x. x.at ≤ at) left
    → Later at high → Later at right → low ++ high ≡ left ++ right → (low ≡ left) × (high ≡ right)
unfolding Later
one_split at [] high [] right up_to past later after is = (refl, is)
one_split at [] high (y ∷ left) right up_to past later after is =
    let less : at < y.at = subst (Later at) is later in
    absurd (omega (arith, less, All-head (λ x. x.at ≤ at) y left past))
one_split at (x ∷ low) high [] right up_to past later after is =
    let less : at < x.at = subst (Later at) (sym is) after in
    absurd (omega (arith, less, All-head (λ y. y.at ≤ at) x low up_to))
one_split at (x ∷ low) high (y ∷ left) right up_to past later after is =
    let first : x ≡ y = cc in
    let rest : low ++ high ≡ left ++ right = cc in
    let more = one_split at low high left right (All-tail (λ z. z.at ≤ at) x low up_to)
    (All-tail (λ z. z.at ≤ at) y left past) later after rest in
    (ap₂ (λ (z : TextChange) (l : List TextChange). z ∷ l) first more.0, more.1)

-- and one cut with so many behind it
one_length : (low high left right : List TextChange) → low ++ high ≡ left ++ right → length high ≡ length right
    → (low ≡ left) × (high ≡ right)
one_length [] high [] right is long = (refl, is)
one_length [] high (y ∷ left) right is long =
    absurd (omega (arith, long, ap (length {A = TextChange}) is, length-append left right))
one_length (x ∷ low) high [] right is long =
    absurd (omega (arith, long, ap (length {A = TextChange}) is, length-append low high))
one_length (x ∷ low) high (y ∷ left) right is long =
    let first : x ≡ y = cc in
    let rest : low ++ high ≡ left ++ right = cc in
    let more = one_length low high left right rest long in
    (ap₂ (λ (z : TextChange) (l : List TextChange). z ∷ l) first more.0, more.1)

-- one moves over to the list on the left
one_over : (left here high : List TextChange) (b : TextChange)
    → left ++ here ++ b ∷ high ≡ left ++ (here ++ b ∷ []) ++ high
one_over left here high b =
    append_assoc left here (b ∷ high)
    ∙ ap (λ (l : List TextChange). left ++ l) (sym (append_assoc here (b ∷ []) high))
    ∙ sym (append_assoc left (here ++ b ∷ []) high)

-- ---- a change before those of edits at its byte

-- The second changes are the first with c, right before so many that begin at its byte.
record IsBeforeAll (c : TextChange) (many : ℕ) (was now : List TextChange) : Type 0 where
  low : List TextChange
  here : List TextChange
  high : List TextChange
  without : was ≡ low ++ here ++ high
  with : now ≡ low ++ c ∷ here ++ high
  up_to : All (λ x. x.at ≤ c.at) low
  same : All (λ x. x.at ≡ c.at) here
  later : Later c.at high
  long : length here ≡ many

low_of_same : (at : ℕ) (cs : List TextChange) → All (λ x. x.at ≡ at) cs → All (λ x. x.at ≤ at) cs
low_of_same at cs h k x less = omega (arith, h k x less)

before_all : (bs rest : List MadeEdit) (m : MadeEdit) → All (λ b. b.change.at ≡ m.change.at) bs
    → IsBeforeAll m.change (length bs) (changes_of (bs ++ rest)) (changes_of (bs ++ m ∷ rest))
before_all [] rest m there =
    let cut : IsSplit m.change.at (changes_of rest) = split_at m.change.at (changes_of rest) in
    record {
      low = cut.low;
      here = [];
      high = cut.high;
      without = cut.all ∙ ap (λ (l : List TextChange). l ++ cut.high) (sym (append-nil cut.low));
      with =
          ap (λ (l : List TextChange). with_change l m.change) cut.all
          ∙ put_past cut.low cut.high m.change cut.up_to cut.later
          ∙ sym (append_assoc cut.low (m.change ∷ []) cut.high);
      up_to = cut.up_to;
      same = All-nil (λ x. x.at ≡ m.change.at);
      later = cut.later;
      long = refl;
    }
before_all (b ∷ bs) rest m there =
    one_more (before_all bs rest m (All-tail (λ x. x.change.at ≡ m.change.at) b bs there))
    (All-head (λ x. x.change.at ≡ m.change.at) b bs there)
  where
    one_more : IsBeforeAll m.change (length bs) (changes_of (bs ++ rest)) (changes_of (bs ++ m ∷ rest))
        → b.change.at ≡ m.change.at
        → IsBeforeAll m.change (suc (length bs)) (changes_of (b ∷ bs ++ rest)) (changes_of (b ∷ bs ++ m ∷ rest))
    one_more h at = record {
      low = h.low;
      here = h.here ++ b.change ∷ [];
      high = h.high;
      without =
          ap (λ (l : List TextChange). with_change l b.change) h.without
          ∙ put_past (h.low ++ h.here) h.high b.change
          (All-append (λ x. x.at ≤ b.change.at) h.low h.here low (below h.here h.same)) later
          ∙ one_over h.low h.here h.high b.change;
      with =
          ap (λ (l : List TextChange). with_change l b.change) h.with
          ∙ put_past (h.low ++ m.change ∷ h.here) h.high b.change
          (All-append (λ x. x.at ≤ b.change.at) h.low (m.change ∷ h.here) low
          (All-cons (λ x. x.at ≤ b.change.at) m.change h.here (omega (arith, at)) (below h.here h.same))) later
          ∙ one_over h.low (m.change ∷ h.here) h.high b.change;
      up_to = h.up_to;
      same = All-append (λ x. x.at ≡ m.change.at) h.here (b.change ∷ []) h.same
          (All-cons (λ x. x.at ≡ m.change.at) b.change [] at (All-nil (λ x. x.at ≡ m.change.at)));
      later = h.later;
      long = omega (arith, length-append h.here (b.change ∷ []), h.long);
    }
      where
        low : All (λ x. x.at ≤ b.change.at) h.low
        low k x less = omega (arith, at, h.up_to k x less)

        below : (l : List TextChange) → All (λ x. x.at ≡ m.change.at) l → All (λ x. x.at ≤ b.change.at) l
        below l all k x less = omega (arith, at, all k x less)

        later : Later b.change.at h.high
        later = subst (λ n. Later n h.high) (sym at) h.later

-- An edit before the last ones, all of which make their changes at its byte, makes its own right before as many there.
pub put_before_all : (bs rest : List MadeEdit) (m : MadeEdit) → All (λ b. b.change.at ≡ m.change.at) bs
    → (first between last : List TextChange) → changes_of (bs ++ rest) ≡ first ++ between ++ last
    → All (λ x. x.at ≤ m.change.at) first → All (λ x. x.at ≡ m.change.at) between
    → All (λ x. m.change.at < x.at) last → length between ≡ length bs
    → changes_of (bs ++ m ∷ rest) ≡ first ++ m.change ∷ between ++ last
put_before_all bs rest m there first between last is up_to same past many =
    let at : ℕ = m.change.at in
    let h : IsBeforeAll m.change (length bs) (changes_of (bs ++ rest)) (changes_of (bs ++ m ∷ rest)) =
    before_all bs rest m there in
    let cut = one_split at (h.low ++ h.here) h.high (first ++ between) last
    (All-append (λ x. x.at ≤ at) h.low h.here h.up_to (low_of_same at h.here h.same))
    (All-append (λ x. x.at ≤ at) first between up_to (low_of_same at between same)) h.later
    (all_later at last past)
    (sym h.without ∙ is) in
    let parts = one_length h.low h.here first between cut.0 (omega (arith, h.long, many)) in
    h.with
    ∙ ap₂ (λ (l r : List TextChange). l ++ r)
    (ap₂ (λ (l r : List TextChange). l ++ m.change ∷ r) parts.0 parts.1) cut.1

-- Where each follows the one before, those before some at a byte begin there or before it.
pub low_before : (from at : ℕ) (first between last : List TextChange) → Follow from (first ++ between ++ last)
    → All (λ x. x.at ≡ at) between → 0 < length between → All (λ x. x.at ≤ at) first
low_before from at [] between last follow same some = All-nil (λ x. x.at ≤ at)
low_before from at (y ∷ first) between last follow same some =
    All-cons (λ x. x.at ≤ at) y first (up between follow.1 same some)
    (low_before (y.at + y.size) at first between last follow.1 same some)
  where
    up : (l : List TextChange) → Follow (y.at + y.size) (first ++ l ++ last) → All (λ x. x.at ≡ at) l → 0 < length l
        → y.at ≤ at
    up [] h all none = absurd (omega (arith, none))
    up (z ∷ l) h all none =
        let chain : Follow (y.at + y.size) (first ++ z ∷ (l ++ last)) =
        subst (Follow (y.at + y.size)) (append_assoc first (z ∷ l) last) h in
        omega (arith, follow_low (y.at + y.size) first (l ++ last) z chain, All-head (λ x. x.at ≡ at) z l all)

-- ---- texts

-- these come at a byte
abbrev place_at : ℕ → List ℕ → Place
place_at at new = record { start = at; end = at; new = new }

-- More comes at a byte, and then something new, so many bytes before it; or the new first, which moves the more.
come_ahead : (bytes new more : List ℕ) (at k : ℕ) → at + k ≤ length bytes
    → put (put bytes (place_at (at + k) more)) (place_at at new)
    ≡ put (put bytes (place_at at new)) (place_at (at + k + length new) more)
come_ahead bytes new more at k few =
    let a : List ℕ = take at bytes in
    let b : List ℕ = drop at bytes in
    let t : List ℕ = take (at + k) bytes in
    let r : List ℕ = more ++ drop (at + k) bytes in
    let wide : length t ≡ at + k = omega (arith, length-take (at + k) bytes, few) in
    let long : length a ≡ at = omega (arith, length-take at bytes, few) in
    let past : length a + (length new + k) ≡ at + k + length new = omega (arith, long) in
    let left : take at (t ++ r) ≡ a =
    take-append-le at t r (omega (arith, wide)) ∙ take-take at (at + k) bytes (omega arith) in
    let right : drop at (t ++ r) ≡ take k b ++ r =
    drop-append-le at t r (omega (arith, wide)) ∙ ap (λ (l : List ℕ). l ++ r) (drop-take at k bytes) in
    let before : take (at + k + length new) (a ++ (new ++ b)) ≡ a ++ (new ++ take k b) =
    ap (λ (n : ℕ). take n (a ++ (new ++ b))) (sym past)
    ∙ take-append-add a (new ++ b) (length new + k)
    ∙ ap (λ (l : List ℕ). a ++ l) (take-append-add new b k) in
    let after : drop (at + k + length new) (a ++ (new ++ b)) ≡ drop (at + k) bytes =
    ap (λ (n : ℕ). drop n (a ++ (new ++ b))) (sym past)
    ∙ drop-append-add a (new ++ b) (length new + k)
    ∙ drop-append-add new b k
    ∙ drop-drop k at bytes in
    ap₂ (λ (p q : List ℕ). p ++ (new ++ q)) left right
    ∙ ap (λ (l : List ℕ). a ++ l) (sym (append_assoc new (take k b) r))
    ∙ sym (append_assoc a (new ++ take k b) r)
    ∙ sym (ap₂ (λ (p q : List ℕ). p ++ (more ++ q)) before after)

-- Of two that take nothing, the later one comes at the place of the other or before it, as if it had been first.
pub put_ahead_of : (bytes : List ℕ) (c d : TextChange) → c.at ≤ d.at → c.size ≡ 0 → d.size ≡ 0 → d.at ≤ length bytes
    → put (put bytes (place_of_change d)) (place_of_change c)
    ≡ put (put bytes (place_of_change c)) (place_of_change (moved c d))
put_ahead_of bytes c d low none no_size few =
    let k : ℕ = d.at - c.at in
    let far : d.at ≡ c.at + k = omega (arith, low) in
    ap₂ (λ (p q : Place). put (put bytes p) q) (place d (c.at + k) far no_size) (place c c.at refl none)
    ∙ come_ahead bytes c.new d.new c.at k (omega (arith, low, few))
    ∙ sym (ap₂ (λ (p q : Place). put (put bytes p) q) (place c c.at refl none)
    (place (moved c d) (c.at + k + length c.new) (past k far) no_size))
  where
    place : (x : TextChange) (at : ℕ) → x.at ≡ at → x.size ≡ 0 → place_of_change x ≡ place_at at x.new
    place x at is zero_size =
        ap₂ (λ (n m : ℕ). record { start = n; end = m; new = x.new }) is (omega (arith, is, zero_size))

    past : (k : ℕ) → d.at ≡ c.at + k → moved_by c d.at ≡ c.at + k + length c.new
    past k far = rw (le-ltb d.at c.at low) (omega (arith, far, none))
