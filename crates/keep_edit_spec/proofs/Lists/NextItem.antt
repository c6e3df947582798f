-- The item after one that was inserted as the last of an array is written right after it.
--
-- The insert is done at the array's value alone (`put_there`), and so is the next one in the new document, so the next
-- follows it through the document (NextChange) if it does at the array (`here`): after the last entry comes the new
-- one, and after that the next (`after_last`); in empty brackets too. An insert before an item writes its comma behind
-- the value, and no value begins with a comma (`not_before`); so an insert that writes as the premise says is none.
--
-- Theorems: `next_placed`; `not_before`, `not_empty`: what is written for a last item is not what is written for one
-- before another, nor is it nothing.
use Rattle.std.proofs.Common.{◌≡◌, ℕ, zero, suc, ◌+◌, true, List, [], ◌∷◌, ◌++◌, length, refl, sym, ap, subst}
use Rattle.std.proofs.Common.{◌∙◌, append_assoc, length-append, arith, Option, Some, None, inl, inr}
use Rattle.std.specs.Prelude.{codes}
use Rattle.std.proofs.lemmas.Option.{same_Some}
use Rattle.keep_types.specs.declared.leaf.Profile.{Profile}
use Rattle.keep_token.specs.Pieces.{first}
use Rattle.keep_syntax.specs.Tree.{Gap, named_leaves, comma_leaves, Body, scalar, array, inline}
use Rattle.keep_syntax.specs.Tree.{Entries, none, entry, Value, Document, text_of, value_text}
use Rattle.keep_syntax.specs.Grammar.{IsValue, IsDocument}
use Rattle.keep_syntax.proofs.Shared.{allowed_value, value_begins}
use Rattle.keep_syntax.proofs.ValueLaws.{is_value_first}
use Rattle.keep_path.specs.Path.{Part, index}
use Rattle.keep_meaning.specs.Fact as fact
use Rattle.keep_meaning.specs.Meaning.{mentions_in}
use Rattle.keep_meaning.specs.Marks.{Mention}
use Rattle.keep_meaning.specs.Nodes.{fact_at}
use Rattle.keep_edit_spec.specs.Look.{is_array_at, item_number}
use Rattle.keep_edit_spec.specs.Changed.{Changed, framed_change, within, or_else, place_of}
use Rattle.keep_edit_spec.specs.Values.{entry_prefix, entry_back, space}
use Rattle.keep_edit_spec.specs.Values.{put_before, put_after, put_item, text_of_value}
use Rattle.keep_edit_spec.specs.Edits.{insert, change, change_insert, changed_or_same, edited_document, nested, place}
use Rattle.keep_edit_spec.specs.Insertion.{put_in}
use Rattle.keep_edit_spec.specs.Refusals.{refusal}
use Rattle.keep_edit_spec.specs.Laws.{IsEditable}
use Rattle.keep_edit_spec.proofs.Common.Texts.{in-brackets}
use Rattle.keep_edit_spec.proofs.Common.Runs.{Rules}
use Rattle.keep_edit_spec.proofs.Common.Marks.{rules_of_document}
use Rattle.keep_edit_spec.proofs.Common.DoneAtValue.{EachOf, of_within}
use Rattle.keep_edit_spec.proofs.Common.Cuts.{last_part-snoc, without_last-snoc}
use Rattle.keep_edit_spec.proofs.Insert.DoneThere.{IsDoneThere, same_value}
use Rattle.keep_edit_spec.proofs.Insert.Gives.{Gives}
use Rattle.keep_edit_spec.proofs.Insert.FoundThere.{put_place}
use Rattle.keep_edit_spec.proofs.Insert.InsertItem.{insert_item}
use Rattle.keep_edit_spec.proofs.Insert.InsertWhole.{IsInsertedWhole}
use Rattle.keep_edit_spec.proofs.Insert.ItemThere.{is_array, item_at, granted, put_there}
use Rattle.keep_edit_spec.proofs.Insert.ItemPlaces.{of_some}
use Rattle.keep_edit_spec.specs.AddedItems.{separator, item_path, HasItems, CanBeItem}
use Rattle.keep_edit_spec.proofs.Lists.AtHolder.{gives_item, put_at}
use Rattle.keep_edit_spec.proofs.Lists.NextChange.{IsNext, Outcome, Follows, outcome_framed, nested_follows}

-- ---- in entries

before_text : (n : ℕ) (new : Value) (es : Entries)
    → EachOf (λ c. c.new ≡ text_of_value new ++ codes ", ") (put_before n new es)
before_text n new none = tt
before_text zero new (entry name body nested after comma rest) = refl
before_text (suc m) new (entry name body nested after comma rest) =
    of_within (λ c. c.new ≡ text_of_value new ++ codes ", ") (λ c. c.new ≡ text_of_value new ++ codes ", ")
    (entry name body nested after comma) _ [] (put_before m new rest) (λ c h. h) (before_text m new rest)

within_none : {A B : Type 0} (outer : A → B) (left right : List ℕ) (o : Option (Changed A))
    → within outer left right o ≡ None → o ≡ None
within_none outer left right None e = refl
within_none outer left right (Some c) e = absurd cc

some_first : {A : Type 0} (o : Option A) (x : A) → or_else o (Some x) ≡ None → ⊥
some_first None x e = absurd cc
some_first (Some y) x e = absurd cc

abbrev next_text : Value → List ℕ
next_text more = codes ", " ++ text_of_value more

-- no item of the next number is there, and the next comes after the last
record IsLast (more : Value) (n : ℕ) (x : Changed Entries) : Type 0 where
  few : put_before (suc n) more x.to ≡ None
  next : IsNext (next_text more) x (put_after [] None more x.to)

after_last : (value more : Value) (n : ℕ) (es : Entries) (x : Changed Entries) → put_before n value es ≡ None
    → put_after [] None value es ≡ Some x → IsLast more n x
after_last value more n none x e k = absurd cc
after_last value more zero (entry name body nested after comma rest) x e k = absurd cc
after_last value more (suc m) (entry name body nested after comma none) x e k =
    subst (IsLast more (suc m)) (same_Some _ x k) (record {
      few = refl;
      next = record {
        next = _;
        is = refl;
        before = append_assoc (entry_prefix name body nested) (text_of (comma_leaves (Some space)))
            (entry_prefix None value.body value.nested)
            ∙ ap (λ (l : List ℕ). entry_prefix name body nested ++ (codes ", " ++ l))
            (sym (in-brackets value.body value.nested));
        old = refl;
        given = refl;
      };
    })
after_last value more (suc m)
    (entry name body nested after comma (entry name' body' nested' after' comma' rest')) x e k =
    by (put_after [] None value rest) refl k (λ z f g. after_last value more m rest z g f)
  where
    rest : Entries
    rest = entry name' body' nested' after' comma' rest'

    outer : Entries → Entries
    outer = entry name body nested after comma

    left : List ℕ
    left = entry_prefix name body nested ++ (text_of after ++ text_of (comma_leaves comma))

    put : Value → Entries → Changed Entries
    put new es = record {
      to = entry name body nested [] (Some space) (entry None new.body new.nested after comma es);
      before = entry_prefix name body nested;
      old = [];
      new = codes ", " ++ (text_of (named_leaves None) ++ text_of_value new);
      after = entry_back after comma es;
    }

    by : (o : Option (Changed Entries)) → put_after [] None value rest ≡ o
        → or_else (within outer left [] o) (Some (put value rest)) ≡ Some x
        → ((z : Changed Entries) → put_after [] None value rest ≡ Some z → put_before m value rest ≡ None
        → IsLast more m z)
        → IsLast more (suc m) x
    by None f g further = absurd (some_first _ _ f)
    by (Some z) f g further =
        let h : IsLast more m z = further z f (within_none outer left [] (put_before m value rest) e) in
        subst (IsLast more (suc m)) (same_Some (framed_change outer left [] z) x g) (record {
          few = ap (within outer left []) h.few;
          next = record {
            next = framed_change outer left [] h.next.next;
            is = ap (λ (o : Option (Changed Entries)). or_else (within outer left [] o)
                (Some (put more z.to))) h.next.is;
            before = ap (λ (l : List ℕ). left ++ l) h.next.before ∙ sym (append_assoc left z.before z.new);
            old = h.next.old;
            given = h.next.given;
          };
        })

-- ---- at the array

in_array : (more : Value) (n : ℕ) (gap : Gap) (es : Entries) (d : Changed Entries)
    → or_else (put_before n more es) (put_after [] None more es) ≡ Some d
    → put_at more n [] (record { body = array gap; nested = es })
    ≡ Some (framed_change (λ es. record { body = array gap; nested = es }) (codes "[" ++ text_of gap) (codes "]") d)
in_array more n gap none d e = absurd cc
in_array more n gap (entry name body nested after comma rest) d e =
    ap (λ (o : Option (Changed Entries)).
    or_else (within (λ es. record { body = array gap; nested = es }) (codes "[" ++ text_of gap) (codes "]") o)
    (Some (same_value (record { body = array gap; nested = entry name body nested after comma rest })))) e

here : (value more : Value) (n : ℕ) (v : Value)
    → Follows (text_of_value value) (next_text more) (put_at value n [] v) (put_at more (suc n) []) v
here value more n v = by v.body v.nested
  where
    by : (body : Body) (nested : Entries)
        → Follows (text_of_value value) (next_text more) (put_at value n [] (record { body = body; nested = nested }))
        (put_at more (suc n) []) (record { body = body; nested = nested })
    by (scalar w) nested = inr (inl refl)
    by (inline gap) nested = inr (inl refl)
    by (array gap) none = inr (inr (record {
      next = _;
      is = refl;
      before = ap (λ (l : List ℕ). codes "[" ++ l) (sym (in-brackets value.body value.nested));
      old = refl;
      given = refl;
    }))
    by (array gap) (entry name body nested after comma rest) =
        split (put_before n value es) refl (put_after [] None value es) refl
      where
        es : Entries
        es = entry name body nested after comma rest

        outer : Entries → Value
        outer es = record { body = array gap; nested = es }

        split : (o : Option (Changed Entries)) → put_before n value es ≡ o → (p : Option (Changed Entries))
            → put_after [] None value es ≡ p
            → Follows (text_of_value value) (next_text more)
            (or_else (within outer (codes "[" ++ text_of gap) (codes "]") (or_else o p)) (Some (same_value (outer es))))
            (put_at more (suc n) []) (outer es)
        split (Some x) e p k =
            inl (of_some (λ c. c.new ≡ text_of_value value ++ codes ", ") (put_before n value es) x e
            (before_text n value es))
        split None e None k = absurd (some_first _ _ k)
        split None e (Some x) k =
            let h : IsLast more n x = after_last value more n es x e k in
            outcome_framed (text_of_value value) (next_text more) outer (codes "[" ++ text_of gap) (codes "]") x
            (put_after [] None more x.to) (put_at more (suc n) [] (outer x.to))
            (λ d f. in_array more (suc n) gap x.to d
            (ap (λ (o : Option (Changed Entries)). or_else o (put_after [] None more x.to)) h.few ∙ f))
            (inr (inr h.next))

-- ---- where it is not put

-- what is written for a last item is not what is written for one before another
pub not_before : (profile : Profile) (v : Value) → IsValue profile v → (n : ℕ)
    → separator n ++ value_text v ≡ value_text v ++ codes ", " → ⊥
not_before profile v valid zero e =
    absurd (omega (arith, ap (λ (l : List ℕ). length l) e, length-append (value_text v) (codes ", ")))
not_before profile v valid (suc n) e = by (value_text v) (value_begins profile v [] valid) e
  where
    by : (t : List ℕ) → is_value_first (first (t ++ [])) ≡ true → codes ", " ++ t ≡ t ++ codes ", " → ⊥
    by [] h e = cc
    by (c ∷ cs) h e =
        let same : 0x2C ≡ c = cc in
        let no : is_value_first 0x2C ≡ true = subst (λ (x : ℕ). is_value_first x ≡ true) (sym same) h in absurd cc

-- nor is it nothing
pub not_empty : (profile : Profile) (v : Value) → IsValue profile v → (before : List ℕ)
    → before ++ value_text v ≡ [] → ⊥
not_empty profile v valid (b ∷ bs) e = cc
not_empty profile v valid [] e = by (value_text v) (value_begins profile v [] valid) e
  where
    by : (t : List ℕ) → is_value_first (first (t ++ [])) ≡ true → t ≡ [] → ⊥
    by [] h e = cc
    by (c ∷ cs) h e = cc

-- ---- the next item

numbered : (a : List Part) (n : ℕ) (ms : List Mention) → is_array_at a ms ≡ true
    → item_number (item_path a n) ms ≡ Some n
numbered a n ms e = rw (item_number, last_part-snoc a (index n), without_last-snoc a (index n), e) refl

array_there : (a : List Part) (n : ℕ) (ms : List Mention) → is_array_at a ms ≡ true → fact_at a ms ≡ Some fact.array
array_there a n ms e =
    subst (λ (p : List Part). fact_at p ms ≡ Some fact.array) (without_last-snoc a (index n))
    (item_at (item_path a n) n ms (numbered a n ms e)).is_array

changed_by : (s : Document) (a : List Part) (n : ℕ) (new : Value) (c : Changed Document)
    → is_array_at a (mentions_in s) ≡ true → nested (put_item new) (item_path a n) s ≡ Some c
    → change s (insert (item_path a n) new) ≡ Some c
changed_by s a n new c e is = rw (change_insert, numbered a n (mentions_in s) e) is

no_length : (l : List ℕ) → length l ≡ 0 → l ≡ []
no_length [] e = refl
no_length (x ∷ l) e = absurd (omega (arith, e))

pub next_placed : (profile : Profile) (limit : ℕ) (s : Document) (array : List Part) (n at : ℕ) (value : Value)
    → IsEditable profile limit s → HasItems profile limit s array n at → CanBeItem profile limit s array value
    → refusal profile limit s (insert (item_path array n) value) ≡ None
    → is_array_at array (mentions_in (edited_document s (insert (item_path array n) value))) ≡ true
    → (more : Value)
    → place (edited_document s (insert (item_path array n) value)) (insert (item_path array (suc n)) more)
    ≡ put_in (at + length (separator n ++ value_text value)) (separator (suc n) ++ value_text more)
next_placed profile limit s a n at value fine has can allowed stays more =
    let ms : List Mention = mentions_in s in
    let path : List Part = item_path a n in
    let number : item_number path ms ≡ Some n = numbered a n ms has.array_is in
    let valid : IsValue profile value =
    allowed_value profile value can.given.valid (granted profile limit s path n value number allowed).suits in
    let d : IsDoneThere profile is_array (put_item value) (index n ∷ []) a s =
    put_there profile s a value n fine.valid (rules_of_document s fine.obeys) valid (array_there a n ms has.array_is) in
    let is : change s (insert path value) ≡ Some d.changed = changed_by s a n value d.changed has.array_is d.is in
    let whole : IsInsertedWhole profile limit s path value =
    insert_item profile limit s path value n fine (record { valid = valid; obeys = can.given.obeys }) number allowed in
    let rules : Rules (mentions_in d.changed.to) =
    subst (λ (c : Changed Document). Rules (mentions_in c.to))
    (same_Some whole.changed d.changed (sym whole.is ∙ is)) whole.whole.rules in
    let at_is : place_of d.changed ≡ put_in at (separator n ++ value_text value) =
    sym (ap (λ (o : Option (Changed Document)). place_of (changed_or_same s o)) is) ∙ has.next value in
    let start : length d.changed.before ≡ at = ap (λ x. x.start) at_is in
    let end : length d.changed.before + length d.changed.old ≡ at = ap (λ x. x.end) at_is in
    let new : d.changed.new ≡ separator n ++ value_text value = ap (λ x. x.new) at_is in
    let nothing : d.changed.old ≡ [] = no_length d.changed.old (omega (arith, start, end)) in
    subst (λ (t : Document). place t (insert (item_path a (suc n)) more)
    ≡ put_in (at + length (separator n ++ value_text value)) (separator (suc n) ++ value_text more))
    (sym (ap (λ (o : Option (Changed Document)). (changed_or_same s o).to) is))
    (by d.changed d.valid rules
    (subst (λ (t : Document). is_array_at a (mentions_in t) ≡ true)
    (ap (λ (o : Option (Changed Document)). (changed_or_same s o).to) is) stays)
    valid start nothing new
    (subst (λ (o : Option (Changed Document)). Follows (text_of_value value) (next_text more) o
    (nested (put_at more (suc n)) a) s) d.ended_is
    (nested_follows (text_of_value value) (next_text more) (put_at value n) (put_at more (suc n)) (λ p ps v. refl)
    (λ p ps v. refl) (here value more n) a s)))
  where
    by : (c : Changed Document) → IsDocument profile c.to → Rules (mentions_in c.to)
        → is_array_at a (mentions_in c.to) ≡ true → IsValue profile value → length c.before ≡ at → c.old ≡ []
        → c.new ≡ separator n ++ value_text value
        → Outcome (text_of_value value) (next_text more) c (nested (put_at more (suc n)) a c.to)
        → place c.to (insert (item_path a (suc n)) more)
        ≡ put_in (at + length (separator n ++ value_text value)) (separator (suc n) ++ value_text more)
    by c valid rules stays own start nothing new (inl e) =
        absurd (not_before profile value own n (sym new ∙ e))
    by c valid rules stays own start nothing new (inr (inl e)) =
        absurd (not_empty profile value own (separator n) (sym new ∙ e ∙ nothing))
    by c valid rules stays own start nothing new (inr (inr h)) =
        let is : change c.to (insert (item_path a (suc n)) more) ≡ Some h.next =
        changed_by c.to a (suc n) more h.next stays
        (subst (λ (o : Option (Changed Document)). Gives o (nested (put_item more) (item_path a (suc n)) c.to)) h.is
        (gives_item profile c.to a more (suc n) valid rules (array_there a n (mentions_in c.to) stays))) in
        ap (λ (o : Option (Changed Document)). place_of (changed_or_same c.to o)) is
        ∙ put_place h.next (at + length (separator n ++ value_text value)) (separator (suc n) ++ value_text more) h.old
        (omega (
          arith,
          ap (λ (l : List ℕ). length l) h.before,
          length-append c.before c.new,
          start,
          ap (λ (l : List ℕ). length l) new,
        )) h.given
