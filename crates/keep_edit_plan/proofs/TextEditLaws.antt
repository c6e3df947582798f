-- Edits of one text, in the order of their places, as the code keeps them and writes the text with them: a new one
-- comes in where a search by its start ends, and the text is written edit by edit.
--
-- None overlaps another, so those before that place have ended where the one right before it has, and those from it on
-- begin no earlier than the first of them. So the new one overlaps none exactly if those two leave it room.
--
-- Theorems: `follow_order`, `follow_apart`: the list is in order for the search; `place_found`: where that ends;
-- `left_of_beside`, `right_of_beside`, `room_beside`: the two leave room exactly if none overlaps; `all_insert`,
-- `insert_change`, `map_insert`, `has_room`: the list with one edit more; `none_written`, `next_change`, `part_is`,
-- `one_written`: what is written before the first edit and with one more; `takes_it`: an edit that replaces the byte
-- before a place; `others_take_not`, `none_takes`, `one_alone`, `alone_takes`, `all_if_alone`: only one does;
-- `all_further`, `all_changes`, `all_of_one`, `change_at_edit`: what holds of each edit; `has_change`: the change of
-- one; `put_ahead`, `follow_ahead`: one more ahead of others; `put_before`, `follow_put_before`: right before one;
-- `set_in_place`, `set_instead`, `follow_replaced`, `both_same`: one in the place of another.
use Rattle.std.proofs.Common.{◌≡◌, ℕ, zero, suc, ◌+◌, ◌-◌, ◌<◌, ◌≤◌, true, false, List, [], ◌∷◌, ◌++◌, length}
use Rattle.std.proofs.Common.{get_or, take, drop, insert, set, map, slice_range, string_bytes, All, leb}
use Rattle.std.proofs.Common.{IsUtf8, IsCharBoundary, refl, sym, ap, ◌∙◌, subst, append_assoc, drop-cons, add-one}
use Rattle.std.proofs.Common.{Bool, Some, not, slice_get}
use Rattle.std.specs.Prelude.{◌&&◌, ◌||◌}
use Rattle.std.proofs.Common.{◌==◌, ◌≢◌, nat_lt, arith, leb-true, leb-false, lt-ltb, le-ltb, ltb, ◌⊎◌, inl, inr}
use Rattle.std.proofs.lemmas.List.{drop-take, get_or-drop, get_or-map, get_or-take, get_or_default, length-drop}
use Rattle.std.proofs.lemmas.List.{length-map, length-take-le, map-append, take-append-drop, take_more}
use Rattle.std.proofs.lemmas.List.Elements.{All-append, All-cons, All-drop, All-head, All-map, All-nil, All-tail}
use Rattle.std.proofs.lemmas.List.Elements.{All-take, All-weaker}
use Rattle.std.proofs.lemmas.List.Folds.{list_any-append}
use Rattle.std.specs.List.{list_any}
use Rattle.std.proofs.lemmas.Bool.{and_right, cases_lt, eq-eqb, ltb-false, ltb-true, ne_eqb, or_right}
use Rattle.std.proofs.lemmas.List.Sorted.{IsNonDecreasingBy-from_all_adjacent}
use Rattle.std.proofs.lemmas.Str.{IsCharBoundary-start}
use Rattle.std.proofs.Math.Seq.{take-length}
use Rattle.std.specs.List.Sorted.{IsNonDecreasingBy, IsPartitionPoint}
use Rattle.keep_edit_spec.specs.LinesInPlace.{IsPutBefore}
use Rattle.keep_edit_spec.specs.Runs.{takes_up_to}
use Rattle.keep_edit_spec.specs.TextChanges.{Follow, IsBeside, TextChange, text_with, with_change}
use Rattle.keep_edit_plan.specs.declared.text_edit.TextEdit.{TextEdit}
use Rattle.keep_edit_plan.specs.TextEdits.{HasChange, HasInstead, HasRoom, IsChangeIn, IsOrdered, IsPutAhead}
use Rattle.keep_edit_plan.specs.TextEdits.{IsReplaced, TakesAlone, change_of}

-- ---- the order

-- where an edit begins
abbrev pub start_of : TextEdit → ℕ
start_of t = t.place.start

-- None begins before the byte `from`.
follow_low : (from : ℕ) (ts : List TextEdit) (k : ℕ) (d : TextEdit) → Follow from (map change_of ts) → k < length ts
    → from ≤ start_of (get_or ts k d)
follow_low from [] k d h w = absurd (omega (arith, w))
follow_low from (t ∷ ts) zero d h w = h.0
follow_low from (t ∷ ts) (suc k) d h w =
    omega (arith, h.0, follow_low (t.place.start + (t.place.end - t.place.start)) ts k d h.1 (omega (arith, w)))

-- Each begins where an earlier one ends or later.
pub follow_apart : (from : ℕ) (ts : List TextEdit) (i j : ℕ) (d : TextEdit) → Follow from (map change_of ts) → i < j
    → j < length ts
    → start_of (get_or ts i d) + ((get_or ts i d).place.end - start_of (get_or ts i d)) ≤ start_of (get_or ts j d)
follow_apart from [] i j d h l w = absurd (omega (arith, w))
follow_apart from (t ∷ ts) i zero d h l w = absurd (omega (arith, l))
follow_apart from (t ∷ ts) zero (suc j) d h l w =
    follow_low (t.place.start + (t.place.end - t.place.start)) ts j d h.1 (omega (arith, w))
follow_apart from (t ∷ ts) (suc i) (suc j) d h l w =
    follow_apart (t.place.start + (t.place.end - t.place.start)) ts i j d h.1 (omega (arith, l)) (omega (arith, w))

pub follow_order : (from : ℕ) (ts : List TextEdit) → Follow from (map change_of ts) → IsNonDecreasingBy start_of ts
follow_order from ts h =
    IsNonDecreasingBy-from_all_adjacent start_of ts
    (λ k d w. omega (arith, follow_apart from ts k (k + 1) d h (omega arith) w))

-- ---- the place of one edit more

-- Those before it begin where the edit `m` does or before it, and the others after it.
pub record IsPlaceOf (m : TextEdit) (ts : List TextEdit) (place : ℕ) : Type 0 where
  pub within : place ≤ length ts
  pub before : (k : ℕ) (d : TextEdit) → k < place → start_of (get_or ts k d) ≤ m.place.start
  pub after : (k : ℕ) (d : TextEdit) → place ≤ k → k < length ts → m.place.start < start_of (get_or ts k d)

pub place_found : (m : TextEdit) (ts : List TextEdit) (place : ℕ) → place ≤ length ts
    → IsPartitionPoint (λ (t : TextEdit). leb (start_of t) m.place.start ≡ true)
    (λ (t : TextEdit). leb (start_of t) m.place.start ≡ false) ts place
    → IsPlaceOf m ts place
place_found m ts place w h = record {
  within = w;
  before = λ k d l. leb-true (start_of (get_or ts k d)) m.place.start (h.0 k d (omega arith) l);
  after = λ k d l r. leb-false (start_of (get_or ts k d)) m.place.start (h.1 k d l r);
}

-- ---- what overlaps

-- the one right before the place ends where the edit `m` begins or before it
abbrev pub HasLeft : TextEdit → List TextEdit → ℕ → Type 0
HasLeft m ts place = (d : TextEdit) → 0 < place → (get_or ts (place - 1) d).place.end ≤ m.place.start

-- the one at the place begins where the edit `m` ends or after it
abbrev pub HasRight : TextEdit → List TextEdit → ℕ → Type 0
HasRight m ts place = (d : TextEdit) → place < length ts → m.place.end ≤ start_of (get_or ts place d)

-- what holds of each change holds of that of an edit
pub change_at_edit : (P : TextChange → Type 0) (ts : List TextEdit) (k : ℕ) (d : TextEdit) → k < length ts
    → All P (map change_of ts) → P (change_of (get_or ts k d))
change_at_edit P ts k d w h =
    subst P (get_or-map change_of ts k d (change_of d) w)
    (h k (change_of d) (omega (arith, w, length-map ts change_of)))

module _ (m : TextEdit) (ts : List TextEdit) (place : ℕ) (p : IsPlaceOf m ts place) where
  pub left_of_beside : All (λ c. IsBeside c (change_of m)) (map change_of ts) → HasLeft m ts place
  left_of_beside h d some =
      by (change_at_edit (λ c. IsBeside c (change_of m)) ts (place - 1) d (omega (arith, p.within)) h)
    where
      by : IsBeside (change_of (get_or ts (place - 1) d)) (change_of m)
          → (get_or ts (place - 1) d).place.end ≤ m.place.start
      by (inl ends) = omega (arith, ends)
      by (inr later) = absurd (omega (arith, later.0, p.before (place - 1) d (omega arith)))

  pub right_of_beside : All (λ c. IsBeside c (change_of m)) (map change_of ts) → HasRight m ts place
  right_of_beside h d some = by (change_at_edit (λ c. IsBeside c (change_of m)) ts place d some h)
    where
      by : IsBeside (change_of (get_or ts place d)) (change_of m) → m.place.end ≤ start_of (get_or ts place d)
      by (inl ends) = absurd (omega (arith, ends, p.after place d (omega arith) some))
      by (inr later) = omega (arith, later.1)

  module _ (h : Follow 0 (map change_of ts)) (left : HasLeft m ts place) (right : HasRight m ts place)
      (k : ℕ) (d : TextEdit) (w : k < length ts) where
    ended : k < place
        → start_of (get_or ts k d) + ((get_or ts k d).place.end - start_of (get_or ts k d)) ≤ m.place.start
    ended l = by (cases_lt (k + 1) place)
      where
        by : (k + 1 < place) ⊎ (place ≤ k + 1)
            → start_of (get_or ts k d) + ((get_or ts k d).place.end - start_of (get_or ts k d)) ≤ m.place.start
        by (inl more) =
            omega (
              arith,
              follow_apart 0 ts k (k + 1) d h (omega arith) (omega (arith, p.within)),
              p.before (k + 1) d more,
            )
        by (inr last) =
            let at : k ≡ place - 1 = omega arith in
            omega (arith, ap (λ n. (get_or ts n d).place.end) at, left d (omega arith), p.before k d l)

    begins : place ≤ k → m.place.start + (m.place.end - m.place.start) ≤ start_of (get_or ts k d)
    begins r =
        omega (arith, right d (omega arith), follow_order 0 ts h place k d r w, p.after k d r w)

    each_beside : IsBeside (change_of (get_or ts k d)) (change_of m)
    each_beside = by (cases_lt k place)
      where
        by : (k < place) ⊎ (place ≤ k) → IsBeside (change_of (get_or ts k d)) (change_of m)
        by (inl l) = inl (ended l)
        by (inr r) = inr (p.after k d r w, begins r)

  pub room_beside : Follow 0 (map change_of ts) → HasLeft m ts place → HasRight m ts place
      → All (λ c. IsBeside c (change_of m)) (map change_of ts)
  room_beside h left right =
      All-map (λ c. IsBeside c (change_of m)) change_of ts (λ k d w. each_beside h left right k d w)

-- ---- the list with one edit more

pub all_insert : (P : TextEdit → Type 0) (ts : List TextEdit) (t : TextEdit) (i : ℕ) → P t → All P ts
    → All P (insert ts i t)
all_insert P ts t i one all =
    All-append P (take i ts) (t ∷ drop i ts) (All-take P i ts all)
    (All-cons P t (drop i ts) one (All-drop P i ts all))

pub insert_change : (m : TextEdit) (ts : List TextEdit) (place : ℕ) → IsPlaceOf m ts place
    → map change_of (insert ts place m) ≡ with_change (map change_of ts) (change_of m)
insert_change m [] zero p = refl
insert_change m [] (suc place) p = absurd (omega (arith, p.within))
insert_change m (t ∷ ts) zero p =
    let later : m.place.start < t.place.start = p.after zero t (omega arith) (omega arith) in
    rw (lt-ltb m.place.start t.place.start later) refl
insert_change m (t ∷ ts) (suc place) p =
    let first : t.place.start ≤ m.place.start = p.before zero t (omega arith) in
    let rest : IsPlaceOf m ts place =
    record {
      within = omega (arith, p.within);
      before = λ k d l. p.before (suc k) d (omega (arith, l));
      after = λ k d l r. p.after (suc k) d (omega (arith, l)) (omega (arith, r));
    } in
    rw (le-ltb m.place.start t.place.start first)
    (ap (λ (cs : List TextChange). change_of t ∷ cs) (insert_change m ts place rest))

pub map_insert : (ts : List TextEdit) (n : ℕ) (t : TextEdit)
    → map change_of (insert ts n t) ≡ insert (map change_of ts) n (change_of t)
map_insert [] zero t = refl
map_insert [] (suc n) t = refl
map_insert (x ∷ ts) zero t = refl
map_insert (x ∷ ts) (suc n) t = ap (λ (cs : List TextChange). change_of x ∷ cs) (map_insert ts n t)

pub has_room : (m : TextEdit) (ts : List TextEdit) (place : ℕ) → IsPlaceOf m ts place → Follow 0 (map change_of ts)
    → HasLeft m ts place → HasRight m ts place → HasRoom (map change_of ts) (change_of m) place
has_room m ts place p follow left right = record {
  beside = room_beside m ts place p follow left right;
  within = omega (arith, p.within, length-map ts change_of);
  is = sym (insert_change m ts place p) ∙ map_insert ts place m;
}

-- ---- one more, ahead of others

follow_before : (from : ℕ) (before after : List TextChange) (c d : TextChange) → d.at ≡ c.at → c.size ≡ 0
    → Follow from (before ++ d ∷ after) → Follow from (before ++ c ∷ d ∷ after)
follow_before from [] after c d at none (low, rest) =
    (omega (arith, at, low), (omega (arith, at, none), rest))
follow_before from (x ∷ before) after c d at none (low, rest) =
    (low, follow_before (x.at + x.size) before after c d at none rest)

-- An edit that takes nothing comes before the last `count` of those that begin where it does: before the one with the
-- number `first`, which begins there too. The last of them takes nothing either.
module _ (m : TextEdit) (ts : List TextEdit) (place : ℕ) (p : IsPlaceOf m ts place) (first count : ℕ)
    (many : first + count ≡ place) (some : 0 < count) (h : Follow 0 (map change_of ts))
    (none : m.place.start ≡ m.place.end) (start : start_of (get_or ts first m) ≡ m.place.start)
    (end : (get_or ts (place - 1) m).place.end ≡ m.place.end) where
  first_within : first < length ts
  first_within = omega (arith, many, some, p.within)

  -- All from that one to the last begin there.
  begins_there : (k : ℕ) (d : TextEdit) → first ≤ k → k < place → start_of (get_or ts k d) ≡ m.place.start
  begins_there k d low less =
      omega (
        arith,
        ap start_of (get_or_default ts first m d first_within),
        start,
        follow_order 0 ts h first k d low (omega (arith, less, p.within)),
        p.before k d less,
      )

  -- the last of them, whatever stands for one that is not there
  last_end : HasLeft m ts place
  last_end d more =
      subst (λ (t : TextEdit). t.place.end ≤ m.place.start)
      (get_or_default ts (place - 1) m d (omega (arith, more, p.within))) (omega (arith, end, none))

  right_end : HasRight m ts place
  right_end d more = omega (arith, none, p.after place d (omega arith) more)

  -- the edits that come after it
  abbrev rest : List TextEdit
  rest = drop first ts

  -- the changes before it, the `count` behind it, and those that begin later
  abbrev before : List TextChange
  before = map change_of (take first ts)

  abbrev behind : List TextChange
  behind = map change_of (take count rest)

  abbrev after : List TextChange
  after = map change_of (drop count rest)

  rest_is : map change_of rest ≡ behind ++ after
  rest_is =
      ap (map change_of) (sym (take-append-drop count rest)) ∙ map-append change_of (take count rest) (drop count rest)

  all_is : map change_of ts ≡ before ++ map change_of rest
  all_is = ap (map change_of) (sym (take-append-drop first ts)) ∙ map-append change_of (take first ts) rest

  with_it : map change_of (insert ts first m) ≡ before ++ change_of m ∷ map change_of rest
  with_it = map-append change_of (take first ts) (m ∷ rest)

  rest_length : length rest ≡ length ts - first
  rest_length = length-drop first ts

  behind_length : length (take count rest) ≡ count
  behind_length = length-take-le count rest (omega (arith, rest_length, many, p.within))

  behind_there : All (λ c. c.at ≡ m.place.start) behind
  behind_there = All-map (λ c. c.at ≡ m.place.start) change_of (take count rest) there
    where
      there : (k : ℕ) (d : TextEdit) → k < length (take count rest)
          → start_of (get_or (take count rest) k d) ≡ m.place.start
      there k d w =
          let less : k < count = omega (arith, w, behind_length) in
          ap start_of (get_or-take count rest k d less ∙ get_or-drop first ts k d)
          ∙ begins_there (first + k) d (omega arith) (omega (arith, less, many))

  after_later : All (λ c. m.place.start < c.at) after
  after_later = All-map (λ c. m.place.start < c.at) change_of (drop count rest) later
    where
      later : (k : ℕ) (d : TextEdit) → k < length (drop count rest)
          → m.place.start < start_of (get_or (drop count rest) k d)
      later k d w =
          subst (λ (t : TextEdit). m.place.start < start_of t)
          (sym (get_or-drop count rest k d ∙ get_or-drop first ts (count + k) d))
          (p.after (first + (count + k)) d (omega (arith, many))
          (omega (arith, w, length-drop count rest, rest_length)))

  pub put_ahead : IsPutAhead (map change_of ts) (change_of m) count (map change_of (insert ts first m))
  put_ahead = record {
    before = before;
    behind = behind;
    after = after;
    was = all_is ∙ ap (λ (cs : List TextChange). before ++ cs) rest_is ∙ sym (append_assoc before behind after);
    many = length-map (take count rest) change_of ∙ behind_length;
    at = behind_there;
    later = after_later;
    is = with_it ∙ ap (λ (cs : List TextChange). before ++ change_of m ∷ cs) rest_is
        ∙ sym (append_assoc before (change_of m ∷ behind) after);
    beside = room_beside m ts place p h last_end right_end;
  }

  pub follow_ahead : Follow 0 (map change_of (insert ts first m))
  follow_ahead =
      let one : TextChange = change_of (get_or ts first m) in
      let later : List TextChange = map change_of (drop (suc first) ts) in
      let one_on : map change_of rest ≡ one ∷ later = ap (map change_of) (drop-cons ts first m first_within) in
      subst (Follow 0) (sym (with_it ∙ ap (λ (cs : List TextChange). before ++ change_of m ∷ cs) one_on))
      (follow_before 0 before later (change_of m) one start (omega (arith, none))
      (subst (Follow 0) (all_is ∙ ap (λ (cs : List TextChange). before ++ cs) one_on) h))

-- ---- right before one that takes bytes

module _ (m : TextEdit) (ts : List TextEdit) (i : ℕ) (within : i < length ts) (none : m.place.start ≡ m.place.end)
    (start : start_of (get_or ts i m) ≡ m.place.start) (some : m.place.start < (get_or ts i m).place.end) where
  abbrev taker : TextChange
  taker = change_of (get_or ts i m)

  abbrev earlier : List TextChange
  earlier = map change_of (take i ts)

  abbrev later : List TextChange
  later = map change_of (drop (suc i) ts)

  rest_from : map change_of (drop i ts) ≡ taker ∷ later
  rest_from = ap (map change_of) (drop-cons ts i m within)

  were : map change_of ts ≡ earlier ++ taker ∷ later
  were =
      ap (map change_of) (sym (take-append-drop i ts)) ∙ map-append change_of (take i ts) (drop i ts)
      ∙ ap (λ (cs : List TextChange). earlier ++ cs) rest_from

  are : map change_of (insert ts i m) ≡ earlier ++ change_of m ∷ taker ∷ later
  are =
      map-append change_of (take i ts) (m ∷ drop i ts)
      ∙ ap (λ (cs : List TextChange). earlier ++ change_of m ∷ cs) rest_from

  pub put_before : IsPutBefore (map change_of ts) (change_of m) (map change_of (insert ts i m))
  put_before = record {
    before = earlier;
    next = taker;
    after = later;
    was = were;
    at = start;
    some = omega (arith, start, some);
    is = are;
  }

  pub follow_put_before : Follow 0 (map change_of ts) → Follow 0 (map change_of (insert ts i m))
  follow_put_before h =
      subst (Follow 0) (sym are)
      (follow_before 0 earlier later (change_of m) taker start (omega (arith, none)) (subst (Follow 0) were h))

-- ---- the text, edit by edit

-- `out` is what is written up to the byte `from`, before the edits `rest`
pub record IsWrittenTo (bytes : List ℕ) (all : List TextChange) (out : List ℕ) (from : ℕ) (rest : List TextEdit)
    : Type 0 where
  pub boundary : IsCharBoundary bytes from
  pub follow : Follow from (map change_of rest)
  pub is : out ++ text_with from bytes (map change_of rest) ≡ text_with 0 bytes all

pub none_written : (bytes : List ℕ) (all : List TextEdit) → IsUtf8 bytes → Follow 0 (map change_of all)
    → IsWrittenTo bytes (map change_of all) [] 0 all
none_written bytes all utf8 h = record { boundary = IsCharBoundary-start bytes utf8; follow = h; is = refl }

-- the part of a text between two bytes
pub part_is : (from at : ℕ) (bytes : List ℕ) → from ≤ at → slice_range bytes from at ≡ drop from (take at bytes)
part_is from at bytes h =
    let same : from + (at - from) ≡ at = omega arith in
    sym (drop-take from (at - from) bytes) ∙ ap (λ n. drop from (take n bytes)) same

module _ (bytes : List ℕ) (all : List TextEdit) (out : List ℕ) (from i : ℕ) (t : TextEdit) (w : i < length all)
    (e : t ≡ get_or all i t) (h : IsWrittenTo bytes (map change_of all) out from (drop i all)) where
  next : IsWrittenTo bytes (map change_of all) out from (t ∷ drop (suc i) all)
  next =
      subst (λ ts. IsWrittenTo bytes (map change_of all) out from ts)
      (drop-cons all i t w ∙ ap (λ x. x ∷ drop (suc i) all) (sym e)) h

  pub next_change : All (IsChangeIn bytes) (map change_of all) → IsChangeIn bytes (change_of t)
  next_change changes =
      subst (λ x. IsChangeIn bytes (change_of x)) (sym e) (change_at_edit (IsChangeIn bytes) all i t w changes)

  pub one_written : All (IsChangeIn bytes) (map change_of all) → All IsOrdered all → (new : List ℕ)
      → new ≡ (out ++ slice_range bytes from t.place.start) ++ string_bytes t.new
      → IsWrittenTo bytes (map change_of all) new t.place.end (drop (i + 1) all)
  one_written changes ordered new is =
      let rest : List TextEdit = drop (suc i) all in
      let start : ℕ = t.place.start in
      let past : drop (i + 1) all ≡ rest = ap (λ n. drop n all) (add-one i) in
      let low : start ≤ t.place.end = subst IsOrdered (sym e) (ordered i t w) in
      let end : start + (t.place.end - start) ≡ t.place.end = omega arith in
      let after : List ℕ = text_with (start + (t.place.end - start)) bytes (map change_of rest) in
      let here : IsWrittenTo bytes (map change_of all) ((out ++ slice_range bytes from start) ++ string_bytes t.new)
      (start + (t.place.end - start)) rest =
      record {
        boundary = (next_change changes).ends;
        follow = next.follow.1;
        is = append_assoc (out ++ slice_range bytes from start) (string_bytes t.new) after
            ∙ append_assoc out (slice_range bytes from start) (string_bytes t.new ++ after)
            ∙ ap (λ xs. out ++ (xs ++ (string_bytes t.new ++ after))) (part_is from start bytes next.follow.0)
            ∙ next.is;
      } in
      subst (λ (ts : List TextEdit). IsWrittenTo bytes (map change_of all) new t.place.end ts) (sym past)
      (subst (λ (n : ℕ). IsWrittenTo bytes (map change_of all) new n rest) end
      (subst (λ (xs : List ℕ). IsWrittenTo bytes (map change_of all) xs (start + (t.place.end - start)) rest) (sym is)
      here))

-- ---- an edit that replaces the byte before a place

pub takes_it : (place : ℕ) (t : TextEdit) → t.place.start < t.place.end → t.place.end ≡ place
    → takes_up_to place (change_of t) ≡ true
takes_it place t some end =
    let size : 0 < t.place.end - t.place.start = omega (arith, some) in
    let ends : t.place.start + (t.place.end - t.place.start) ≡ place = omega (arith, some, end) in
    rw (lt-ltb 0 (t.place.end - t.place.start) size) (eq-eqb (t.place.start + (t.place.end - t.place.start)) place ends)

no_taker : (place : ℕ) (t : TextEdit) → IsOrdered t → (t.place.start < t.place.end → t.place.end ≢ place)
    → takes_up_to place (change_of t) ≡ false
no_taker place t ordered other = elim (cases_lt t.place.start t.place.end) [
  | inl less ↦
      let ends : t.place.start + (t.place.end - t.place.start) ≡ t.place.end = omega arith in
      let apart : (t.place.end == place) ≡ false = ne_eqb t.place.end place (other less) in
      rw ends (and_right (nat_lt 0 (t.place.end - t.place.start)) (t.place.end == place) apart)
  | inr none ↦
      let size : t.place.end - t.place.start ≡ 0 = omega (arith, none) in
      rw size refl
]

-- Only the last that begins before the place can be such an edit: each earlier one ends where that begins, or before,
-- and the others begin at the place, or after it.
module _ (place : ℕ) (ts : List TextEdit) (after : ℕ) (follow : Follow 0 (map change_of ts))
    (ordered : All IsOrdered ts) (within : after ≤ length ts)
    (point : IsPartitionPoint (λ (t : TextEdit). ltb (start_of t) place ≡ true)
    (λ (t : TextEdit). ltb (start_of t) place ≡ false) ts after) where
  taker_is_last : (k : ℕ) (d : TextEdit) → k < length ts → start_of (get_or ts k d) < (get_or ts k d).place.end
      → (get_or ts k d).place.end ≡ place → k + 1 ≡ after
  taker_is_last k d w some end = by (cases_lt (k + 1) after) (cases_lt k after)
    where
      by : (k + 1 < after) ⊎ (after ≤ k + 1) → (k < after) ⊎ (after ≤ k) → k + 1 ≡ after
      by (inl more) _ =
          let last : k + 1 < length ts = omega (arith, more, within) in
          absurd (omega (
            arith,
            follow_apart 0 ts k (k + 1) d follow (omega arith) last,
            ltb-true (start_of (get_or ts (k + 1) d)) place (point.0 (k + 1) d (omega arith) more),
            some,
            end,
          ))
      by (inr _) (inr past) =
          absurd (omega (arith, ltb-false (start_of (get_or ts k d)) place (point.1 k d past w), some, end))
      by (inr low) (inl high) = omega (arith, low, high)

  -- No other takes that byte, nor does that one, if it ends elsewhere.
  pub others_take_not : (k : ℕ) (d : TextEdit) → k < length ts → (k + 1 ≡ after → (get_or ts k d).place.end ≢ place)
      → takes_up_to place (change_of (get_or ts k d)) ≡ false
  others_take_not k d w other =
      no_taker place (get_or ts k d) (ordered k d w)
      (λ some. λ end. other (taker_is_last k d w some end) end)

  pub none_takes : ((k : ℕ) (d : TextEdit) → k < length ts → k + 1 ≡ after → (get_or ts k d).place.end ≢ place)
      → All (λ c. takes_up_to place c ≡ false) (map change_of ts)
  none_takes other =
      All-map (λ c. takes_up_to place c ≡ false) change_of ts (λ k d w. others_take_not k d w (other k d w))

-- one that takes that byte where no other does
pub one_alone : (place : ℕ) (ts : List TextEdit) (i : ℕ) (d : TextEdit) → i < length ts
    → takes_up_to place (change_of (get_or ts i d)) ≡ true
    → ((k : ℕ) (e : TextEdit) → k < length ts → k ≢ i → takes_up_to place (change_of (get_or ts k e)) ≡ false)
    → TakesAlone place (map change_of ts) (change_of (get_or ts i d))
one_alone place [] i d less takes others = absurd (omega (arith, less))
one_alone place (t ∷ ts) zero d less takes others = record {
  before = [];
  after = map change_of ts;
  is = refl;
  takes = takes;
  earlier = All-nil (λ c. takes_up_to place c ≡ false);
  later = All-map (λ c. takes_up_to place c ≡ false) change_of ts
      (λ k e w. others (suc k) e (omega (arith, w)) (λ same. omega (arith, same)));
}
one_alone place (t ∷ ts) (suc i) d less takes others =
    let r = one_alone place ts i d (omega (arith, less)) takes
    (λ k e w other. others (suc k) e (omega (arith, w)) (λ same. other (omega (arith, same)))) in
    let first : takes_up_to place (change_of t) ≡ false =
    others zero t (omega (arith, less)) (λ same. omega (arith, same)) in
    record {
      before = change_of t ∷ r.before;
      after = r.after;
      is = ap (λ (cs : List TextChange). change_of t ∷ cs) r.is;
      takes = r.takes;
      earlier = All-cons (λ c. takes_up_to place c ≡ false) (change_of t) r.before first r.earlier;
      later = r.later;
    }

module _ (place : ℕ) (changes : List TextChange) (c : TextChange) (alone : TakesAlone place changes c) where
  pub alone_takes : list_any (takes_up_to place) changes ≡ true
  alone_takes =
      let here : (takes_up_to place c || list_any (takes_up_to place) alone.after) ≡ true = rw alone.takes refl in
      ap (list_any (takes_up_to place)) alone.is
      ∙ list_any-append (takes_up_to place) alone.before (c ∷ alone.after)
      ∙ or_right (list_any (takes_up_to place) alone.before) (list_any (takes_up_to place) (c ∷ alone.after)) here

  -- What holds of each change that doesn't take the byte, and of the one that does, holds of all.
  pub all_if_alone : (P : TextChange → Type 0) → ((d : TextChange) → takes_up_to place d ≡ false → P d) → P c
      → All P changes
  all_if_alone P others one =
      subst (All P) (sym alone.is)
      (All-append P alone.before (c ∷ alone.after)
      (All-weaker (λ d. takes_up_to place d ≡ false) P others alone.before alone.earlier)
      (All-cons P c alone.after one
      (All-weaker (λ d. takes_up_to place d ≡ false) P others alone.after alone.later)))

-- what holds of all changes holds of one of them
pub all_of_one : (P : TextChange → Type 0) (before : List TextChange) (c : TextChange) (after : List TextChange)
    → All P (before ++ c ∷ after) → P c
all_of_one P [] c after all = All-head P c after all
all_of_one P (b ∷ before) c after all = all_of_one P before c after (All-tail P b (before ++ c ∷ after) all)

-- ---- edits in a row

-- what holds of the edits before one and of that one
pub all_further : (P : TextEdit → Type 0) (ts : List TextEdit) (n : ℕ) (t : TextEdit) → n < length ts
    → t ≡ get_or ts n t → All P (take n ts) → P t → All P (take (n + 1) ts)
all_further P ts n t lt is before here =
    subst (All P) (sym (take_more ts n t lt))
    (All-append P (take n ts) (get_or ts n t ∷ []) before
    (All-cons P (get_or ts n t) [] (subst P is here) (All-nil P)))

-- what holds of all edits so far, where these are all, holds of their changes
pub all_changes : (P : TextChange → Type 0) (ts : List TextEdit) (n : ℕ) (changes : List TextChange) → n ≡ length ts
    → map change_of ts ≡ changes → All (λ t. P (change_of t)) (take n ts) → All P changes
all_changes P ts n changes all is h =
    let each : All (λ t. P (change_of t)) ts =
    subst (All (λ t. P (change_of t))) (ap (λ m. take m ts) all ∙ take-length ts) h in
    subst (All P) is (All-map P change_of ts each)

-- ---- one edit in the place of another

-- what is told not to differ in one of two things is the same in both
pub both_same : (r x y : Bool) → r ≡ not (x && y) → r ≡ false → (x ≡ true) × (y ≡ true)
both_same r true true e f = (refl, refl)
both_same r true false e f = absurd cc
both_same r false y e f = absurd cc

pub set_in_place : (ts : List TextEdit) (i : ℕ) (d e : TextEdit) → i < length ts
    → (change_of (get_or ts i d)).at ≡ (change_of e).at → (change_of (get_or ts i d)).size ≡ (change_of e).size
    → IsReplaced (map change_of ts) (change_of e) (map change_of (set ts i e))
set_in_place [] i d e less at size = absurd (omega (arith, less))
set_in_place (t ∷ ts) zero d e less at size = record {
  before = [];
  gone = change_of t;
  after = map change_of ts;
  was = refl;
  is = refl;
  at = at;
  size = size;
}
set_in_place (t ∷ ts) (suc i) d e less at size =
    let r = set_in_place ts i d e (omega (arith, less)) at size in
    record {
      before = change_of t ∷ r.before;
      gone = r.gone;
      after = r.after;
      was = ap (λ (cs : List TextChange). change_of t ∷ cs) r.was;
      is = ap (λ (cs : List TextChange). change_of t ∷ cs) r.is;
      at = r.at;
      size = r.size;
    }

pub set_instead : (ts : List TextEdit) (i : ℕ) (c : TextChange) (e : TextEdit)
    → slice_get (map change_of ts) i ≡ Some c
    → HasInstead (map change_of ts) c (change_of e) (map change_of (set ts i e))
set_instead [] i c e there = absurd cc
set_instead (t ∷ ts) zero c e there =
    let same : change_of t ≡ c = cc in
    record {
      before = [];
      after = map change_of ts;
      was = ap (λ (x : TextChange). x ∷ map change_of ts) same;
      is = refl;
    }
set_instead (t ∷ ts) (suc i) c e there =
    let r = set_instead ts i c e there in
    record {
      before = change_of t ∷ r.before;
      after = r.after;
      was = ap (λ (cs : List TextChange). change_of t ∷ cs) r.was;
      is = ap (λ (cs : List TextChange). change_of t ∷ cs) r.is;
    }

-- the change of an edit is one of those of the list
pub has_change : (ts : List TextEdit) (i : ℕ) (d : TextEdit) → i < length ts
    → HasChange (map change_of ts) (change_of (get_or ts i d))
has_change [] i d less = absurd (omega (arith, less))
has_change (t ∷ ts) zero d less = record { before = []; after = map change_of ts; is = refl }
has_change (t ∷ ts) (suc i) d less =
    let r = has_change ts i d (omega (arith, less)) in
    record {
      before = change_of t ∷ r.before;
      after = r.after;
      is = ap (λ (cs : List TextChange). change_of t ∷ cs) r.is;
    }

pub follow_replaced : (from : ℕ) (before after : List TextChange) (x c : TextChange) → x.at ≡ c.at → x.size ≡ c.size
    → Follow from (before ++ x ∷ after) → Follow from (before ++ c ∷ after)
follow_replaced from [] after x c at size (low, rest) =
    (omega (arith, low, at), subst (λ (n : ℕ). Follow n after) (omega (arith, at, size)) rest)
follow_replaced from (b ∷ before) after x c at size (low, rest) =
    (low, follow_replaced (b.at + b.size) before after x c at size rest)
