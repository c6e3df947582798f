-- An item that comes into an array whose entries are at known places.
--
-- The place of an entry is a gap and a length. An item comes before the one that has its number
-- (`put_before_laid`) or, if none has it, after the last (`put_after_laid`): both by induction over the entries, where
-- what is before the place grows by the gap and the length of each entry that is passed. In brackets the opening one
-- comes first (`put_item_laid`). The places with one more are what the code makes by a write and an insert
-- (`placed_before`).
--
-- Theorems: `put_item_laid`, `placed_before`.
use Rattle.std.proofs.Common.{◌≡◌, ℕ, zero, suc, ◌+◌, ◌<◌, ◌≤◌, List, [], ◌∷◌, ◌++◌, length, take, drop, refl, sym, ap}
use Rattle.std.proofs.Common.{◌∙◌, length-append, arith, slice_get, Option, Some, None}
use Rattle.std.specs.Prelude.{codes}
use Rattle.std.specs.List.{insert}
use Rattle.std.proofs.Common.{set}
use Rattle.std.proofs.lemmas.Option.{same_Some, slice_get_within}
use Rattle.std.proofs.lemmas.List.{drop-set, take-set}
use Rattle.keep_syntax.specs.Tree.{Gap, array, Entries, none, entry, Value, text_of, comma_leaves}
use Rattle.keep_syntax.specs.Tree.{named_leaves}
use Rattle.keep_edit_spec.proofs.Shared.{text_of-append}
use Rattle.keep_edit_spec.specs.Changed.{Changed, within, or_else, framed_change}
use Rattle.keep_edit_spec.specs.Values.{entry_prefix, entry_back, space, put_before, put_after, text_of_value, put_item}
use Rattle.keep_path.specs.Path.{index}
use Rattle.keep_edit_spec.specs.EntryChanges.{entry_count}
use Rattle.keep_edit_plan.specs.OpenValues.{AreLaid, first_gap}
use Rattle.keep_edit_plan.specs.OpenPlaces.{extent, item_text, place, place_of_new, with_place}
use Rattle.keep_edit_plan.specs.declared.open_value.EntryPlace.{EntryPlace}

-- an item is its value alone
item_len : (v : Value) → length (text_of_value v) ≡ length (entry_prefix None v.body v.nested)
item_len v = ap (λ (l : List ℕ). length l) (simp text_of-append refl)

-- ---- before an entry

record IsPutBefore (item : Value) (gap n : ℕ) (p : EntryPlace) (es : Entries) (ps : List EntryPlace) : Type 0 where
  made : Changed Entries
  by : put_before n item es ≡ Some made
  at : gap + length made.before ≡ extent (take n ps) + p.gap
  old : made.old ≡ []
  new : made.new ≡ text_of_value item ++ codes ", "
  laid : AreLaid gap made.to (with_place n (length (text_of_value item)) ps (Some p))

length-entry : (a b c d : List ℕ) → length ((a ++ (b ++ c)) ++ d) ≡ length a + (length b + length c) + length d
length-entry a b c d =
    omega (arith, length-append (a ++ (b ++ c)) d, length-append a (b ++ c), length-append b c)

put_before_laid : (item : Value) (gap n : ℕ) (p : EntryPlace) (es : Entries) (ps : List EntryPlace)
    → AreLaid gap es ps → slice_get ps n ≡ Some p → IsPutBefore item gap n p es ps
put_before_laid item gap n p none [] laid there = absurd cc
put_before_laid item gap n p none (q ∷ qs) laid there = absurd laid
put_before_laid item gap n p (entry name body nested after comma rest) [] laid there = absurd laid
put_before_laid item gap zero p (entry name body nested after comma rest) (q ∷ qs) laid there =
    let same : q ≡ p = same_Some q p there in
    let gaps : q.gap ≡ p.gap = ap (λ (x : EntryPlace). x.gap) same in
    let lens : q.len ≡ p.len = ap (λ (x : EntryPlace). x.len) same in
    record {
      made = _;
      by = refl;
      at = omega (arith, gaps, laid.0);
      old = refl;
      new = refl;
      laid = (sym gaps ∙ laid.0, (item_len item, (refl, (sym lens ∙ laid.1.0, laid.1.1))));
    }
put_before_laid item gap (suc m) p (entry name body nested after comma rest) (q ∷ qs) laid there =
    let gap' : ℕ = length (text_of after) + length (text_of (comma_leaves comma)) in
    let left : List ℕ = entry_prefix name body nested ++ (text_of after ++ text_of (comma_leaves comma)) in
    let h : IsPutBefore item gap' m p rest qs = put_before_laid item gap' m p rest qs laid.1.1 there in
    record {
      made = framed_change (entry name body nested after comma) left [] h.made;
      by = ap (within (entry name body nested after comma) left []) h.by;
      at =
          omega (
            arith,
            laid.0,
            laid.1.0,
            h.at,
            length-entry (entry_prefix name body nested) (text_of after) (text_of (comma_leaves comma)) h.made.before,
          );
      old = h.old;
      new = h.new;
      laid = (laid.0, (laid.1.0, h.laid));
    }

-- ---- after the last

record IsPutAfter (item : Value) (gap : ℕ) (es : Entries) (ps : List EntryPlace) : Type 0 where
  made : Changed Entries
  by : put_after [] None item es ≡ Some made
  at : gap + length made.before ≡ extent ps
  old : made.old ≡ []
  new : made.new ≡ codes ", " ++ text_of_value item
  laid : AreLaid gap made.to (ps ++ (place 2 (length (text_of_value item)) ∷ []))

put_after_laid : (item : Value) (gap : ℕ) (es : Entries) (q : EntryPlace) (qs : List EntryPlace)
    → AreLaid gap es (q ∷ qs) → IsPutAfter item gap es (q ∷ qs)
put_after_laid item gap none q qs laid = absurd laid
put_after_laid item gap (entry name body nested after comma none) q [] laid = record {
  made = _;
  by = refl;
  at = omega (arith, laid.0, laid.1.0);
  old = refl;
  new = refl;
  laid = (laid.0, (laid.1.0, (refl, (item_len item, tt))));
}
put_after_laid item gap (entry name body nested after comma none) q (r ∷ rs) laid = absurd laid.1.1
put_after_laid item gap (entry name body nested after comma (entry n b e a c t)) q [] laid = absurd laid.1.1
put_after_laid item gap (entry name body nested after comma (entry n b e a c t)) q (r ∷ rs) laid =
    let rest : Entries = entry n b e a c t in
    let gap' : ℕ = length (text_of after) + length (text_of (comma_leaves comma)) in
    let left : List ℕ = entry_prefix name body nested ++ (text_of after ++ text_of (comma_leaves comma)) in
    let h : IsPutAfter item gap' rest (r ∷ rs) = put_after_laid item gap' rest r rs laid.1.1 in
    record {
      made = framed_change (entry name body nested after comma) left [] h.made;
      by = ap (λ (o : Option (Changed Entries)).
          or_else (within (entry name body nested after comma) left [] o) (Some (record {
            to = entry name body nested [] (Some space) (entry None item.body item.nested after comma rest);
            before = entry_prefix name body nested;
            old = [];
            new = codes ", " ++ (text_of (named_leaves None) ++ text_of_value item);
            after = entry_back after comma rest;
          }))) h.by;
      at =
          omega (
            arith,
            laid.0,
            laid.1.0,
            h.at,
            length-entry (entry_prefix name body nested) (text_of after) (text_of (comma_leaves comma)) h.made.before,
          );
      old = h.old;
      new = h.new;
      laid = (laid.0, (laid.1.0, h.laid));
    }

-- no more than all are taken
take_past : (ps : List EntryPlace) (n : ℕ) → slice_get ps n ≡ None → take n ps ≡ ps
take_past [] zero there = refl
take_past [] (suc m) there = refl
take_past (q ∷ qs) zero there = absurd cc
take_past (q ∷ qs) (suc m) there = ap (λ (l : List EntryPlace). q ∷ l) (take_past qs m there)

-- past the last there is none to put an item before
put_before_none : (item : Value) (n gap : ℕ) (es : Entries) (ps : List EntryPlace) → AreLaid gap es ps
    → slice_get ps n ≡ None → put_before n item es ≡ None
put_before_none item n gap none ps laid there = refl
put_before_none item n gap (entry name body nested after comma rest) [] laid there = absurd laid
put_before_none item zero gap (entry name body nested after comma rest) (q ∷ qs) laid there = absurd cc
put_before_none item (suc m) gap (entry name body nested after comma rest) (q ∷ qs) laid there =
    ap (within (entry name body nested after comma)
    (entry_prefix name body nested ++ (text_of after ++ text_of (comma_leaves comma))) [])
    (put_before_none item m _ rest qs laid.1.1 there)

-- ---- in an array

pub record IsPut (item : Value) (n : ℕ) (first : Gap) (es : Entries) (ps : List EntryPlace) : Type 0 where
  pub made : Changed Value
  pub by : put_item item (index n ∷ []) (record { body = array first; nested = es }) ≡ Some made
  pub at : length made.before ≡ 1 + place_of_new n ps
  pub old : made.old ≡ []
  pub new : made.new ≡ item_text (text_of_value item) ps (slice_get ps n)
  pub gap : Gap
  pub body : made.to.body ≡ array gap
  pub laid : AreLaid (first_gap made.to.body) made.to.nested
      (with_place n (length (text_of_value item)) ps (slice_get ps n))

-- as many are there as places
pub laid_length : (es : Entries) (ps : List EntryPlace) (gap : ℕ) → AreLaid gap es ps → entry_count es ≡ length ps
laid_length none [] gap laid = refl
laid_length none (q ∷ qs) gap laid = absurd laid
laid_length (entry name body nested after comma rest) [] gap laid = absurd laid
laid_length (entry name body nested after comma rest) (q ∷ qs) gap laid =
    ap (λ (n : ℕ). suc n)
    (laid_length rest qs (length (text_of after) + length (text_of (comma_leaves comma))) laid.1.1)

length-open : (first before : List ℕ) → length ((codes "[" ++ first) ++ before) ≡ 1 + (length first + length before)
length-open first before = omega (arith, length-append (codes "[" ++ first) before, length-append (codes "[") first)

pub put_item_laid : (item : Value) (n : ℕ) (first : Gap) (es : Entries) (ps : List EntryPlace)
    → AreLaid (length (text_of first)) es ps → n ≤ length ps → IsPut item n first es ps
put_item_laid item n first none (q ∷ qs) laid few = absurd laid
put_item_laid item zero first none [] laid few = record {
  made = _;
  by = refl;
  at = refl;
  old = refl;
  new = refl;
  gap = [];
  body = refl;
  laid = (refl, (item_len item, tt));
}
put_item_laid item (suc m) first none [] laid few = absurd (omega (arith, few))
put_item_laid item n first (entry name body nested after comma rest) [] laid few = absurd laid
put_item_laid item n first (entry name body nested after comma rest) (q ∷ qs) laid few = by (slice_get ps n) refl
  where
    es : Entries
    es = entry name body nested after comma rest

    ps : List EntryPlace
    ps = q ∷ qs

    outer : Entries → Value
    outer es = record { body = array first; nested = es }

    in_open : Option (Changed Entries) → Option (Changed Value)
    in_open o = within outer (codes "[" ++ text_of first) (codes "]") o

    by : (o : Option EntryPlace) → slice_get ps n ≡ o → IsPut item n first es ps
    by (Some p) there =
        let h : IsPutBefore item (length (text_of first)) n p es ps =
        put_before_laid item (length (text_of first)) n p es ps laid there in
        record {
          made = framed_change outer (codes "[" ++ text_of first) (codes "]") h.made;
          by = ap (λ (o : Option (Changed Entries)). in_open (or_else o (put_after [] None item es))) h.by;
          at = rw there (omega (arith, h.at, length-open (text_of first) h.made.before));
          old = h.old;
          new = rw there h.new;
          gap = first;
          body = refl;
          laid = rw there h.laid;
        }
    by None there =
        let h : IsPutAfter item (length (text_of first)) es ps =
        put_after_laid item (length (text_of first)) es q qs laid in
        let none : put_before n item es ≡ None = put_before_none item n _ es ps laid there in
        record {
          made = framed_change outer (codes "[" ++ text_of first) (codes "]") h.made;
          by = ap (λ (o : Option (Changed Entries)). in_open (or_else o (put_after [] None item es))) none
              ∙ ap in_open h.by;
          at =
              rw there (omega (
                arith,
                h.at,
                length-open (text_of first) h.made.before,
                ap extent (take_past ps n there),
              ));
          old = h.old;
          new = rw there h.new;
          gap = first;
          body = refl;
          laid = rw there h.laid;
        }

-- ---- the places

pub placed_before : (ps now : List EntryPlace) (n len : ℕ) (p : EntryPlace) → slice_get ps n ≡ Some p
    → now ≡ insert (set ps n (place 2 p.len)) n (place p.gap len) → now ≡ with_place n len ps (slice_get ps n)
placed_before ps now n len p there is =
    let there_is : n < length ps = slice_get_within ps n p there in
    let next : n + 1 ≡ suc n = omega arith in
    let rest : drop n (set ps n (place 2 p.len)) ≡ place 2 p.len ∷ drop (suc n) ps =
    drop-set ps n (place 2 p.len) there_is ∙ ap (λ (k : ℕ). place 2 p.len ∷ drop k ps) next in
    rw there (is ∙ ap (λ (l : List EntryPlace). l ++ (place p.gap len ∷ drop n (set ps n (place 2 p.len))))
    (take-set ps n (place 2 p.len))
    ∙ ap (λ (l : List EntryPlace). take n ps ++ (place p.gap len ∷ l)) rest)
