-- The places of entries as lists: of one entry, of the last, and without one.
--
-- Theorems: `cut_to_comma`, `cut_at_end`, `cut_alone`: what goes with an entry, by the entries that have these numbers;
-- `removed_between`, `removed_last`: what is left of the list.
use Rattle.std.proofs.Common.{◌≡◌, ℕ, zero, suc, ◌+◌, ◌-◌, ◌<◌, ◌≤◌, List, [], ◌∷◌, ◌++◌, length, take, drop, refl, sym}
use Rattle.std.proofs.Common.{ap, ◌∙◌, subst, arith, Some, slice_get, get_or, set}
use Rattle.std.specs.List.{remove}
use Rattle.std.proofs.lemmas.Option.{same_Some}
use Rattle.keep_types.specs.declared.syntax.Span.{Span}
use Rattle.keep_edit_plan.specs.OpenPlaces.{extent}
use Rattle.keep_edit_plan.specs.TakenEntries.{HasNoComma, IsCommaRun, IsCutAlone, IsCutAtEnd, IsCutWithComma, IsLastGap}
use Rattle.keep_edit_plan.specs.TakenEntries.{joined, places_left, without_place}
use Rattle.keep_edit_plan.specs.declared.open_value.EntryPlace.{EntryPlace}

-- ---- one entry

record IsOne (places : List EntryPlace) (n gone : ℕ) (here : EntryPlace) : Type 0 where
  before : List EntryPlace
  rest : List EntryPlace
  are : places ≡ before ++ (here ∷ rest)
  count : length before ≡ n
  is_before : take n places ≡ before
  left : without_place n gone places ≡ before ++ joined (here.gap + here.len) gone rest

one_place : (places : List EntryPlace) (n gone : ℕ) (here : EntryPlace) → slice_get places n ≡ Some here
    → IsOne places n gone here
one_place [] n gone here e = absurd cc
one_place (p ∷ ps) zero gone here e =
    let p_is : p ≡ here = same_Some p here e in
    record {
      before = [];
      rest = ps;
      are = ap (λ (x : EntryPlace). x ∷ ps) p_is;
      count = refl;
      is_before = refl;
      left = ap (λ (x : EntryPlace). joined (x.gap + x.len) gone ps) p_is;
    }
one_place (p ∷ ps) (suc n) gone here e =
    let t = one_place ps n gone here e in
    record {
      before = p ∷ t.before;
      rest = t.rest;
      are = ap (λ (l : List EntryPlace). p ∷ l) t.are;
      count = omega (arith, t.count);
      is_before = ap (λ (l : List EntryPlace). p ∷ l) t.is_before;
      left = ap (λ (l : List EntryPlace). p ∷ l) t.left;
    }

pub cut_to_comma : (text bytes : List ℕ) (places : List EntryPlace) (n bytes_before begin start end last run : ℕ)
    (here : EntryPlace) → Some here ≡ slice_get places n → bytes_before ≡ extent (take n places)
    → begin ≡ bytes_before + here.gap → start ≡ begin + 1 → end ≡ start + here.len → bytes ≡ text
    → IsCommaRun run (drop end bytes) → last ≡ end + run
    → IsCutWithComma text places n (record { start = start; end = last })
    (places_left n (record { start = start; end = last }) places)
cut_to_comma text bytes places n bytes_before begin start end last run here e before_is begin_is start_is end_is same
    is_run last_is =
    let size : last - start ≡ here.len + run = omega arith in
    let t = one_place places n (here.len + run) here (sym e) in
    let long : extent (take n places) ≡ extent t.before = ap extent t.is_before in
    let end_of : end ≡ suc (extent t.before + (here.gap + here.len)) = omega arith in
    record {
      before = t.before;
      here = here;
      rest = t.rest;
      run = run;
      are = t.are;
      count = t.count;
      is_run =
          subst (λ (k : ℕ). IsCommaRun run (drop k text)) end_of
          (subst (λ (b : List ℕ). IsCommaRun run (drop end b)) same is_run);
      start = omega arith;
      end = omega arith;
      are_left = ap (λ (k : ℕ). without_place n k places) size ∙ t.left;
    }

-- ---- the last

record AreLast (places : List EntryPlace) (n gone : ℕ) (here : EntryPlace) : Type 0 where
  before : List EntryPlace
  last : EntryPlace
  are : places ≡ before ++ (last ∷ here ∷ [])
  count : suc (length before) ≡ suc n
  is_before : extent (take (suc n) places) ≡ extent before + (last.gap + last.len)
  left : without_place (suc n) gone places ≡ before ++ (last ∷ [])

last_two : (places : List EntryPlace) (n gone : ℕ) (here : EntryPlace) → slice_get places (suc n) ≡ Some here
    → length places ≡ suc (suc n) → AreLast places n gone here
last_two [] n gone here e long = absurd cc
last_two (p ∷ []) n gone here e long = absurd (omega arith)
last_two (p ∷ q ∷ []) zero gone here e long =
    let q_is : q ≡ here = same_Some q here e in
    record { before = []; last = p; are = cc; count = refl; is_before = omega arith; left = refl }
last_two (p ∷ q ∷ r ∷ ps) zero gone here e long = absurd (omega arith)
last_two (p ∷ q ∷ ps) (suc n) gone here e long =
    let t = last_two (q ∷ ps) n gone here e (omega arith) in
    record {
      before = p ∷ t.before;
      last = t.last;
      are = ap (λ (l : List EntryPlace). p ∷ l) t.are;
      count = omega (arith, t.count);
      is_before = omega (arith, t.is_before);
      left = ap (λ (l : List EntryPlace). p ∷ l) t.left;
    }

pub cut_at_end : (text bytes : List ℕ) (places : List EntryPlace) (n m bytes_before start middle end : ℕ)
    (here : EntryPlace) → Some here ≡ slice_get places n → m ≡ n + 1 → m ≡ length places → (n ≡ 0 → ⊥)
    → bytes_before ≡ extent (take n places) → start ≡ bytes_before + 1 → bytes ≡ text
    → IsLastGap here.gap here.len (drop start bytes) → middle ≡ start + here.gap → end ≡ middle + here.len
    → IsCutAtEnd text places n (record { start = start; end = end })
    (places_left n (record { start = start; end = end }) places)
cut_at_end text bytes places zero m bytes_before start middle end here e m_is long some before_is start_is same gap
    middle_is end_is = absurd (some refl)
cut_at_end text bytes places (suc n) m bytes_before start middle end here e m_is long some before_is start_is same gap
    middle_is end_is =
    let t = last_two places n (end - start) here (sym e) (omega arith) in
    let start_of : start ≡ suc (extent t.before + (t.last.gap + t.last.len)) = omega (arith, t.is_before) in
    record {
      before = t.before;
      last = t.last;
      here = here;
      are = t.are;
      count = t.count;
      gap =
          subst (λ (k : ℕ). IsLastGap here.gap here.len (drop k text)) start_of
          (subst (λ (b : List ℕ). IsLastGap here.gap here.len (drop start b)) same gap);
      start = start_of;
      end = omega arith;
      are_left = t.left;
    }

pub cut_alone : (text bytes : List ℕ) (places : List EntryPlace) (n m bytes_before begin start end : ℕ)
    (here : EntryPlace) → Some here ≡ slice_get places n → m ≡ n + 1 → m ≡ length places → n ≡ 0
    → bytes_before ≡ extent (take n places) → begin ≡ bytes_before + 1 → start ≡ begin + here.gap
    → end ≡ start + here.len → bytes ≡ text → HasNoComma (drop end bytes)
    → IsCutAlone text places n (record { start = start; end = end })
    (places_left n (record { start = start; end = end }) places)
cut_alone text bytes [] zero m bytes_before begin start end here e m_is long none before_is begin_is start_is end_is
    same alone = absurd cc
cut_alone text bytes (p ∷ q ∷ ps) zero m bytes_before begin start end here e m_is long none before_is begin_is start_is
    end_is same alone = absurd (omega arith)
cut_alone text bytes places (suc n) m bytes_before begin start end here e m_is long none before_is begin_is start_is
    end_is same alone = absurd (omega arith)
cut_alone text bytes (p ∷ []) zero m bytes_before begin start end here e m_is long none before_is begin_is start_is
    end_is same alone =
    let p_is : p ≡ here = same_Some p here (sym e) in
    let end_of : end ≡ suc (here.gap + here.len) = omega arith in
    record {
      here = here;
      are = cc;
      count = none;
      alone =
          subst (λ (k : ℕ). HasNoComma (drop k text)) end_of
          (subst (λ (b : List ℕ). HasNoComma (drop end b)) same alone);
      start = omega arith;
      end = omega arith;
      are_left = refl;
    }

-- ---- without one

gone_last : (places : List EntryPlace) (n gone : ℕ) → n < length places → length (remove places n) ≤ n
    → remove places n ≡ without_place n gone places
gone_last [] n gone within few = absurd (omega arith)
gone_last (p ∷ []) zero gone within few = refl
gone_last (p ∷ q ∷ ps) zero gone within few = absurd (omega arith)
gone_last (p ∷ ps) (suc n) gone within few =
    ap (λ (l : List EntryPlace). p ∷ l) (gone_last ps n gone (omega arith) (omega arith))

gone_between : (places : List EntryPlace) (n gone : ℕ) (here next : EntryPlace) → n < length places
    → here ≡ get_or places n here → n < length (remove places n) → next ≡ get_or (remove places n) n next
    → set (remove places n) n (record { gap = here.gap + here.len + next.gap - gone; len = next.len })
    ≡ without_place n gone places
gone_between [] n gone here next within e more f = absurd (omega arith)
gone_between (p ∷ []) zero gone here next within e more f = absurd (omega arith)
gone_between (p ∷ q ∷ ps) zero gone here next within e more f =
    ap (λ (x : EntryPlace). record { gap = x.gap + x.len + next.gap - gone; len = next.len } ∷ ps) e
    ∙ ap (λ (x : EntryPlace). record { gap = p.gap + p.len + x.gap - gone; len = x.len } ∷ ps) f
gone_between (p ∷ ps) (suc n) gone here next within e more f =
    ap (λ (l : List EntryPlace). p ∷ l) (gone_between ps n gone here next (omega arith) e (omega arith) f)

pub removed_last : (places items : List EntryPlace) (n : ℕ) (cut : Span) → items ≡ remove places n → n < length places
    → length items ≤ n → items ≡ places_left n cut places
removed_last places items n cut is within few =
    is ∙ gone_last places n (cut.end - cut.start) within (subst (λ (l : List EntryPlace). length l ≤ n) is few)

pub removed_between : (places items : List EntryPlace) (n size gap : ℕ) (cut : Span) (here next : EntryPlace)
    → items ≡ remove places n → n < length places → here ≡ get_or places n here → n < length items
    → next ≡ get_or items n next → size ≡ cut.end - cut.start → gap ≡ here.gap + here.len + next.gap - size
    → set items n (record { gap = gap; len = next.len }) ≡ places_left n cut places
removed_between places items n size gap cut here next is within e more f size_is gap_is =
    ap (λ (l : List EntryPlace). set l n (record { gap = gap; len = next.len })) is
    ∙ ap (λ (k : ℕ). set (remove places n) n (record { gap = k; len = next.len }))
    (gap_is ∙ ap (λ (k : ℕ). here.gap + here.len + next.gap - k) size_is)
    ∙ gone_between places n (cut.end - cut.start) here next within e
    (subst (λ (l : List EntryPlace). n < length l) is more)
    (subst (λ (l : List EntryPlace). next ≡ get_or l n next) is f)
