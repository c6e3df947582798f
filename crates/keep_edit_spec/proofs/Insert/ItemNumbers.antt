-- The items of an array are numbered from 0 up to their count.
--
-- Theorem: `items_numbered`.
use Rattle.std.proofs.Common.{◌≡◌, ℕ, ◌+◌, ◌<◌, ◌≤◌, ◌==◌, true, false, List, [], ◌∷◌, ◌++◌, map, refl, sym, ap, subst}
use Rattle.std.proofs.Common.{◌∙◌, arith, Option, Some, None, inl, inr}
use Rattle.std.specs.List.{filter_map}
use Rattle.std.proofs.lemmas.Bool.Decides.{eqb_tells}
use Rattle.keep_types.specs.declared.leaf.Profile.{Profile}
use Rattle.keep_syntax.specs.Tree.{Entries, none, entry, Value, Document}
use Rattle.keep_syntax.specs.Grammar.{AreEntries, in_array, IsValue, IsDocument}
use Rattle.keep_meaning.specs.Fact as fact
use Rattle.keep_meaning.specs.Fact.{Fact, is_value_fact}
use Rattle.keep_path.specs.Path.{Part, index, same_path}
use Rattle.keep_meaning.specs.Rules.{ObeysRules}
use Rattle.keep_meaning.specs.Marks.{item, Mention, below, fact_of, marks}
use Rattle.keep_meaning.specs.Meaning.{body_fact, valued_mentions, entry_mentions, entries_mentions, mentions_in}
use Rattle.keep_meaning.specs.Nodes.{is_at, kinds_at, fact_at, first_of}
use Rattle.keep_edit_spec.specs.Look.{strip, item_count}
use Rattle.keep_edit_spec.specs.Refusals.{has_value}
use Rattle.keep_edit_spec.proofs.Common.Runs.{AllOf, SomeOf, IsDisjoint, Rules, same_path-refl, kinds_at-append}
use Rattle.keep_edit_spec.proofs.Common.Runs.{kinds_at-disjoint, strip-append}
use Rattle.keep_edit_spec.proofs.Common.SetLaw.{IsAloneAt}
use Rattle.keep_edit_spec.proofs.Common.ValueThere.{alone_of_fact}
use Rattle.keep_edit_spec.proofs.Common.DoneAtValue.{value_fact-body}
use Rattle.keep_edit_spec.proofs.Common.Marks.{rules_of_document}
use Rattle.keep_edit_spec.proofs.Values.ValuePlace.{value_of_path}
use Rattle.keep_edit_spec.proofs.Insert.DoneThere.{IsDoneThere}
use Rattle.keep_edit_spec.proofs.Insert.PutIn.{size}
use Rattle.keep_edit_spec.proofs.Insert.ItemCount.{item_count_few, item_count_many}
use Rattle.keep_edit_spec.proofs.Insert.ItemThere.{is_array, entries_of, never_whole, put_there}
use Rattle.keep_edit_spec.specs.Values.{put_item}

fact_head : (path : List Part) (m : Mention) (ms : List Mention) (f : Fact) → is_at path m ≡ true
    → fact_of m.kind ≡ Some f → fact_at path (m ∷ ms) ≡ Some f
fact_head path m ms f e g = rw (e, g) refl

-- at another number
other_number : (k n : ℕ) (ms : List Mention) → (n == k) ≡ false
    → AllOf (IsDisjoint (index n ∷ [])) (map (below (index k ∷ [])) ms)
other_number k n [] e = tt
other_number k n (m ∷ ms) e = (by e, other_number k n ms e)
  where
    by : (n == k) ≡ false → strip (index n ∷ []) (index k ∷ m.path) ≡ None
    by e = rw (strip, e) refl

fact_later : (path : List Part) (xs ys : List Mention) → kinds_at path xs ≡ []
    → fact_at path (xs ++ ys) ≡ fact_at path ys
fact_later path xs ys e =
    ap (λ l. first_of (filter_map fact_of l)) (kinds_at-append path xs ys ∙ ap (λ l. l ++ kinds_at path ys) e)

-- of entries whose first item has a number
pub record IsNumbered (n k : ℕ) (es : Entries) : Type 0 where
  pub there : n < k + size es
      → (f : Fact) × (fact_at (index n ∷ []) (entries_mentions k es) ≡ Some f) × (is_value_fact f ≡ true)
  pub none_there : k + size es ≤ n → fact_at (index n ∷ []) (entries_mentions k es) ≡ None

numbered : (profile : Profile) (n k : ℕ) (es : Entries) → AreEntries profile in_array es → k ≤ n → IsNumbered n k es
numbered profile n k none valid low = record { there = λ h. absurd (omega (arith, h, low)); none_there = λ h. refl }
numbered profile n k (entry (Some name) body nested after comma rest) valid low = absurd valid.0
numbered profile n k (entry None body nested after comma rest) valid low = elim (eqb_tells n k) [
  | inl same ↦ (let (e, is) = same in record {
    there = λ h. (
      body_fact body,
      fact_head (index n ∷ []) (below (index k ∷ []) (record { path = []; kind = item (body_fact body) }))
          (map (below (index k ∷ [])) (entries_mentions 0 nested) ++ entries_mentions (k + 1) rest) (body_fact body)
          (here is) refl,
      value_fact-body body,
    );
    none_there = λ h. absurd (omega (arith, h, is));
  })
  | inr other ↦ (let (e, is) = other in
      let more : IsNumbered n (k + 1) rest = numbered profile n (k + 1) rest valid.5 (omega (arith, low, is)) in
      let past : fact_at (index n ∷ []) (entries_mentions k (entry None body nested after comma rest))
      ≡ fact_at (index n ∷ []) (entries_mentions (k + 1) rest) =
      fact_later (index n ∷ []) (entry_mentions k None (body_fact body) (entries_mentions 0 nested))
      (entries_mentions (k + 1) rest)
      (kinds_at-disjoint (index n ∷ []) (index n ∷ []) []
      (entry_mentions k None (body_fact body) (entries_mentions 0 nested))
      (other_number k n (valued_mentions (item (body_fact body)) (entries_mentions 0 nested)) e) whole) in record {
        there = λ h. (let (f, at, v) = more.there (omega (arith, h)) in (f, past ∙ at, v));
        none_there = λ h. past ∙ more.none_there (omega (arith, h));
      })
]
  where
    here : n ≡ k
        → is_at (index n ∷ []) (below (index k ∷ []) (record { path = []; kind = item (body_fact body) })) ≡ true
    here is = ap (λ (i : ℕ). same_path (index i ∷ []) (index n ∷ [])) (sym is) ∙ same_path-refl (index n ∷ [])

    whole : strip (index n ∷ []) (index n ∷ []) ≡ Some []
    whole = strip-append (index n ∷ []) []

valued : (path : List Part) (ms : List Mention) (f : Fact) → fact_at path ms ≡ Some f → is_value_fact f ≡ true
    → has_value path ms ≡ true
valued path ms f e v = ap (λ (o : Option Fact). elim o [ None ↦ false | Some x ↦ is_value_fact x ]) e ∙ v

no_value : (path : List Part) (ms : List Mention) → fact_at path ms ≡ None → has_value path ms ≡ false
no_value path ms e = ap (λ (o : Option Fact). elim o [ None ↦ false | Some x ↦ is_value_fact x ]) e

-- A static array has a value at each number below the count of its items, and at no other.
pub record AreNumbered (a : List Part) (s : Document) : Type 0 where
  pub below_count : (n : ℕ) → n < item_count a (mentions_in s) → has_value (a ++ index n ∷ []) (mentions_in s) ≡ true
  pub from_count : (n : ℕ) → item_count a (mentions_in s) ≤ n → has_value (a ++ index n ∷ []) (mentions_in s) ≡ false

pub items_numbered : (profile : Profile) (s : Document) (a : List Part) → IsDocument profile s
    → ObeysRules (marks (mentions_in s)) → fact_at a (mentions_in s) ≡ Some fact.array → AreNumbered a s
items_numbered profile s a valid obeys at =
    let rules : Rules (mentions_in s) = rules_of_document s obeys in
    let (number, info, of) = value_of_path profile a s valid obeys (valued a (mentions_in s) fact.array at refl) in
    let given : Value = of.value in
    let good : IsValue profile given = of.valid in
    let d : IsDoneThere profile is_array (put_item given) (index 0 ∷ []) a s =
    put_there profile s a given 0 valid rules good at in
    let entries : AreEntries profile in_array d.old.nested =
    entries_of profile d.old.body d.old.nested d.fit d.old_valid in
    let root : a ≡ [] → ⊥ =
    λ e. never_whole s (subst (λ (x : List Part). SomeOf (IsAloneAt x) (mentions_in s)) e
    (alone_of_fact a (mentions_in s) fact.array at refl)) in
    let count : item_count a (mentions_in s) ≡ size d.old.nested =
    omega (
      arith,
      ap (item_count a) d.was,
      item_count_few profile a d.before d.after (d.tag (body_fact d.old.body)) d.old.nested root entries
          d.disjoint_before d.disjoint_after,
      item_count_many profile a d.before d.after (d.tag (body_fact d.old.body)) d.old.nested entries,
    ) in
    record {
      below_count = λ n h.
          let (f, there, v) =
          (numbered profile n 0 d.old.nested entries (omega arith)).there (omega (arith, h, count)) in
          valued (a ++ index n ∷ []) (mentions_in s) f (d.holds (index n ∷ []) ∙ there) v;
      from_count =
          λ n h. no_value (a ++ index n ∷ []) (mentions_in s)
          (d.holds (index n ∷ [])
          ∙ (numbered profile n 0 d.old.nested entries (omega arith)).none_there (omega (arith, h, count)));
    }
