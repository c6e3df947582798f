-- `insert` at an index of an array: from no refusal there is a change, and the new document is right.
--
-- Where the edit is not refused, the index is at most the count of items (`granted`), so the array has a place for the
-- item (`enough`), and it is put in there (`put_there`). The array before the edit is the one after it without the new
-- item (`put_out`), so the laws of an item that is taken out apply in reverse. They give the rules (`rules_put`) and
-- the facts by the index (`by_number`): below the new index they stay (`at_place`), at it they are those of the value
-- (`own`), and above it they are those of the index one lower. At all other paths nothing changes (`by_place`). No
-- refusal also means that the new value is not too deep, so the depth stays within the limit (`insert_item`).
--
-- Theorem: `insert_item`.
use Rattle.std.proofs.Common.{◌≡◌, ℕ, suc, ◌-◌, ◌<◌, ◌≤◌, Bool, true, false, cond, List, [], ◌∷◌, ◌++◌, map, refl, sym}
use Rattle.std.proofs.Common.{ap, subst, ◌∙◌, arith, Option, Some, None, inl, inr}
use Rattle.std.specs.Prelude.{nat_lt, ◌==◌}
use Rattle.std.proofs.lemmas.Bool.{cases_lt, le-ltb, ltb-false, eqb-true, eq-eqb}
use Rattle.keep_types.specs.declared.leaf.Profile.{Profile}
use Rattle.keep_syntax.specs.Tree.{Value, Document, value_depth}
use Rattle.keep_meaning.specs.Fact as fact
use Rattle.keep_meaning.specs.Fact.{Fact}
use Rattle.keep_path.specs.Path.{Part, key, index}
use Rattle.keep_meaning.specs.Marks.{MentionKind, item, Mention, below}
use Rattle.keep_meaning.specs.Meaning.{body_fact, valued_mentions, entries_mentions, mentions_in, mentions_of_value}
use Rattle.keep_meaning.specs.Nodes.{fact_at}
use Rattle.keep_edit_spec.specs.Look.{strip, enclosing, without_last, item_number, item_count}
use Rattle.keep_edit_spec.specs.Values.{put_item}
use Rattle.keep_edit_spec.specs.Edits.{insert, change, change_insert, nested}
use Rattle.keep_edit_spec.specs.Trees.{IsTreeOf, source, fact_from, put_in}
use Rattle.keep_edit_spec.specs.Trees as trees
use Rattle.keep_edit_spec.specs.Refusals.{refusal}
use Rattle.keep_edit_spec.specs.Laws.{IsEditable, IsGivenValue}
use Rattle.keep_edit_spec.proofs.Common.Runs.{SomeOf, Rules, strip-sound}
use Rattle.keep_edit_spec.proofs.Common.SetLaw.{EachTo, IsAloneAt}
use Rattle.keep_edit_spec.proofs.Common.SetDocument.{IsLawful}
use Rattle.keep_edit_spec.proofs.Common.Marks.{rules_of_document, rules_of_value}
use Rattle.keep_edit_spec.proofs.Common.Moves.{down}
use Rattle.keep_edit_spec.proofs.Remove.RemoveInValue.{IsItemOut, item_facts, item_below, item_above, down_below}
use Rattle.keep_edit_spec.proofs.Common.ValueThere.{alone_of_fact}
use Rattle.keep_edit_spec.proofs.Common.InValue.{tagged}
use Rattle.keep_edit_spec.proofs.Insert.DoneThere.{IsDoneThere}
use Rattle.keep_edit_spec.proofs.Insert.PutIn.{size}
use Rattle.keep_edit_spec.proofs.Insert.PutValue.{IsItemPut}
use Rattle.keep_edit_spec.proofs.Insert.ItemCount.{item_count_few}
use Rattle.keep_edit_spec.proofs.Insert.ItemPut.{put_out, put_rules, put_facts, down_less}
use Rattle.keep_edit_spec.proofs.Insert.InsertWhole.{IsInsertedWhole}
use Rattle.keep_edit_spec.proofs.Insert.PutDepth.{enclosing_more, whole_from}
use Rattle.keep_edit_spec.proofs.Insert.ItemThere.{is_array, IsItemPath, item_at, never_whole, IsGranted, granted}
use Rattle.keep_edit_spec.proofs.Insert.ItemThere.{put_of, deep_of, entries_of, bracket_of, put_there}

-- ---- its rules and its tree

module _ (profile : Profile) (s : Document) (a : List Part) (new : Value) (n : ℕ)
    (new_rules : Rules (mentions_of_value new)) (few : n ≤ item_count a (mentions_in s)) (root : a ≡ [] → ⊥)
    (d : IsDoneThere profile is_array (put_item new) (index n ∷ []) a s) where
  enough : n ≤ size d.old.nested
  enough =
      let count : item_count a (mentions_in s)
      ≡ item_count a (d.before ++ (map (below a) (tagged d.tag d.old) ++ d.after)) =
      ap (λ (l : List Mention). item_count a l) d.was in
      omega (
        arith,
        few,
        count,
        item_count_few profile a d.before d.after (d.tag (body_fact d.old.body)) d.old.nested root
            (entries_of profile d.old.body d.old.nested d.fit d.old_valid) d.disjoint_before d.disjoint_after,
      )

  put : IsItemPut new n d.old d.done.to
  put = subst (EachTo (IsItemPut new n d.old)) d.by (put_of new n d.old.body d.old.nested d.fit enough)

  out : (o : IsItemOut n d.done.to.nested d.old.nested) × (o.run ≡ mentions_of_value new)
  out = put_out new n d.old.nested d.done.to.nested put.item

  same_mentions : (tag : Fact → MentionKind)
      → valued_mentions (tag (body_fact d.old.body)) (entries_mentions 0 d.done.to.nested) ≡ tagged tag d.done.to
  same_mentions tag = ap (λ (f : Fact). valued_mentions (tag f) (entries_mentions 0 d.done.to.nested)) (sym put.fact)

  pub rules_put : Rules (mentions_in d.changed.to)
  rules_put =
      d.rules_now (subst Rules (same_mentions d.tag)
      (put_rules new n (d.tag (body_fact d.old.body)) d.old.nested d.done.to.nested out.0 out.1 new_rules d.rules))

  here : (q r : List Part) → strip a q ≡ Some r
      → fact_at q (mentions_in d.changed.to) ≡ fact_at r (mentions_of_value d.done.to)
  here q r e = ap (λ (x : List Part). fact_at x (mentions_in d.changed.to)) (strip-sound a q r e) ∙ d.holds_now r

  at_place : (q r r' : List Part) → strip a q ≡ Some r → strip (index n ∷ []) r ≡ None → down n r ≡ r'
      → fact_at q (mentions_in d.changed.to) ≡ fact_at (a ++ r') (mentions_in s)
  at_place q r r' e h k =
      here q r e
      ∙ ap (fact_at r) (sym (same_mentions item))
      ∙ sym (item_facts n (item (body_fact d.old.body)) d.done.to.nested d.old.nested out.0 r h)
      ∙ ap (λ (x : List Part). fact_at x (mentions_of_value d.old)) k
      ∙ sym (d.holds r')

  own : (q r : List Part) → strip a q ≡ Some (index n ∷ r)
      → fact_at q (mentions_in d.changed.to) ≡ fact_at r (mentions_of_value new)
  own q r e =
      here q (index n ∷ r) e ∙ ap (fact_at (index n ∷ r)) (sym (same_mentions item))
      ∙ put_facts new n (item (body_fact d.old.body)) d.old.nested d.done.to.nested out.0 out.1 r

  not_less : (m : ℕ) → nat_lt m n ≡ false → n ≤ m
  not_less m e = ltb-false m n e

  less : (m : ℕ) → nat_lt m n ≡ true → m < n
  less m e = elim (cases_lt m n) [ inl l ↦ l | inr g ↦ absurd (let z : nat_lt m n ≡ false = le-ltb m n g in cc) ]

  by_number : (q : List Part) (m : ℕ) (r : List Part) → strip a q ≡ Some (index m ∷ r) → (b : Bool) → nat_lt m n ≡ b
      → (c : Bool) → (m == n) ≡ c
      → fact_at q (mentions_in d.changed.to)
      ≡ fact_from (mentions_in s) (mentions_of_value new)
      (cond b (trees.from q) (cond c (trees.given r) (trees.from (a ++ index (m - 1) ∷ r))))
  by_number q m r e true h c k =
      at_place q (index m ∷ r) (index m ∷ r) e (item_below n m r (less m h)) (down_below n m r (less m h))
      ∙ ap (λ (x : List Part). fact_at x (mentions_in s)) (sym (strip-sound a q (index m ∷ r) e))
  by_number q m r e false h true k = own q r (e ∙ ap (λ (i : ℕ). Some (index i ∷ r)) (eqb-true m n k))
  by_number q m r e false h false k =
      let more : n < m =
      elim (cases_lt n m) [
        | inl l ↦ l
        | inr g ↦
            (let same : m ≡ n = (let f : n ≤ m = not_less m h in omega arith) in
            let yes : (m == n) ≡ true = eq-eqb m n same in absurd cc)
      ] in
      at_place q (index m ∷ r) (index (m - 1) ∷ r) e (item_above n m r more) (down_less n m r more)

  by_place : (q : List Part) (o : Option (List Part)) → strip a q ≡ o
      → fact_at q (mentions_in d.changed.to) ≡ fact_from (mentions_in s) (mentions_of_value new) (elim o [
        | None ↦ trees.from q
        | Some more ↦ elim more [
          | [] ↦ trees.from q
          | part ∷ rest ↦ elim part [
            | key text ↦ trees.from q
            | index m ↦
                cond (nat_lt m n) (trees.from q)
                (cond (m == n) (trees.given rest) (trees.from (a ++ index (m - 1) ∷ rest)))
          ]
        ]
      ])
  by_place q None e = d.elsewhere q e
  by_place q (Some []) e =
      at_place q [] [] e refl refl ∙ ap (λ (x : List Part). fact_at x (mentions_in s)) (sym (strip-sound a q [] e))
  by_place q (Some (key text ∷ r)) e =
      at_place q (key text ∷ r) (key text ∷ r) e refl refl
      ∙ ap (λ (x : List Part). fact_at x (mentions_in s)) (sym (strip-sound a q (key text ∷ r) e))
  by_place q (Some (index m ∷ r)) e = by_number q m r e (nat_lt m n) refl (m == n) refl

  pub tree_put : (q : List Part)
      → fact_at q (mentions_in d.changed.to) ≡ fact_from (mentions_in s) (mentions_of_value new) (put_in a n q)
  tree_put q = by_place q (strip a q) refl

-- From no refusal: the value is put in as an item, and the new document is right.
pub insert_item : (profile : Profile) (limit : ℕ) (s : Document) (path : List Part) (new : Value) (n : ℕ)
    → IsEditable profile limit s → IsGivenValue profile new
    → item_number path (mentions_in s) ≡ Some n → refusal profile limit s (insert path new) ≡ None
    → IsInsertedWhole profile limit s path new
insert_item profile limit s path new n editable given at allowed =
    let ms : List Mention = mentions_in s in
    let a : List Part = without_last path in
    let p : IsItemPath path n ms = item_at path n ms at in
    let g : IsGranted profile limit s path n new = granted profile limit s path n new at allowed in
    let rules : Rules ms = rules_of_document s editable.obeys in
    let new_rules : Rules (mentions_of_value new) = rules_of_value new given.obeys in
    let d : IsDoneThere profile is_array (put_item new) (index n ∷ []) a s =
    put_there profile s a new n editable.valid rules given.valid p.is_array in
    let root : a ≡ [] → ⊥ =
    λ e. never_whole s (subst (λ (x : List Part). SomeOf (IsAloneAt x) ms) e
    (alone_of_fact a ms fact.array p.is_array refl)) in
    let is : change s (insert path new) ≡ Some d.changed =
    rw (at, change_insert) (subst (λ (x : List Part). nested (put_item new) x s ≡ Some d.changed) (sym p.whole) d.is) in
    let tree : IsTreeOf ms (insert path new) (mentions_in d.changed.to) =
    λ q. tree_put profile s a new n new_rules g.few root d q ∙ sym (rw (at, source) refl) in
    let lawful : IsLawful s (insert path new) d.changed.to =
    record { rules = rules_put profile s a new n new_rules g.few root d; tree = tree } in
    let inner : suc (enclosing a ms) ≤ enclosing path ms =
    subst (λ (x : List Part). suc (enclosing a ms) ≤ enclosing x ms) (sym p.whole)
    (enclosing_more a (index n) [] ms d.old d.holds (bracket_of d.old.body d.fit)) in
    record {
      changed = d.changed;
      is = is;
      whole = whole_from profile s (insert path new) d.changed is d.valid lawful;
      low = omega (
        arith,
        d.low (suc (value_depth new)) (λ v e. deep_of new n v.body v.nested e),
        inner,
        g.shallow,
        editable.shallow,
      );
    }
