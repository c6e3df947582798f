-- Where an item is put into an array: before the item of its number, after the last, or into empty brackets.
--
-- `put_item` looks for the item of that number and puts the new one before it; if there is none, after the last; if
-- there are no items at all, between the brackets. `item_placed` is this split (`by_before`, `by_after`, `by_parts`),
-- with the place of the change in each case. Which case it is follows from how many items there are (`count_is`), since
-- an item of the number is there exactly if the number is below the count (`number_few`). The stored value that the
-- place is computed from is the one of that item, as one value has a path (`same_value_at`). Nothing is taken out
-- (`item_nothing`).
--
-- Theorem: `item_law`: where an item is put in, by the value of its own number, of the number before it, or of the
-- array.
use Rattle.std.proofs.Common.{◌≡◌, ℕ, zero, suc, ◌+◌, ◌<◌, ◌≤◌, Bool, true, false, List, [], ◌∷◌, ◌++◌, length, map}
use Rattle.std.proofs.Common.{slice_get, refl, sym, ap, subst, ◌∙◌, append_assoc, length-append, arith, Option, Some}
use Rattle.std.proofs.Common.{None, inl, inr}
use Rattle.std.proofs.lemmas.Option.{same_Some}
use Rattle.keep_types.proofs.Shared.{one_of_two}
use Rattle.std.specs.Prelude.{codes, ⊤}
use Rattle.keep_types.specs.declared.leaf.Profile.{Profile}
use Rattle.keep_types.specs.declared.leaf.Profile.TheVariants.{Wide}
use Rattle.keep_types.specs.declared.syntax.Start.{Start}
use Rattle.keep_types.specs.declared.syntax.ValueInfo.{ValueInfo}
use Rattle.keep_syntax.specs.Tree.{Name, Body, scalar, array, inline, Entries, none, entry, Value, Document, text_of}
use Rattle.keep_syntax.specs.Grammar.{IsNamed, IsBody, AreEntries, in_array}
use Rattle.keep_syntax.specs.Numbered as syntax
use Rattle.keep_syntax.specs.Numbered.{nested_of}
use Rattle.keep_syntax.proofs.Shared.{allowed_value, gap_blank}
use Rattle.keep_path.specs.Path.{Part, key, index}
use Rattle.keep_meaning.specs.Fact as fact
use Rattle.keep_meaning.specs.Marks.{Mention, below, item}
use Rattle.keep_meaning.specs.Meaning.{body_fact, valued_mentions, entry_mentions, entries_mentions, step, mentions_in}
use Rattle.keep_meaning.specs.Counts.{is_value, numbered_in}
use Rattle.keep_meaning.specs.Nodes.{numbered_at, last_number, value_number}
use Rattle.keep_edit_spec.specs.Look.{without_last, item_number, item_count}
use Rattle.keep_edit_spec.specs.Changed.{Changed, Place, place_of, framed_change, within, or_else}
use Rattle.keep_edit_spec.specs.Values.{put_before, put_after, put_item, bracketed_change, text_of_value}
use Rattle.keep_edit_spec.specs.Edits.{insert, change, change_insert, nested}
use Rattle.keep_edit_spec.specs.Insertion.{before_item, after_entry, in_empty, keyed_text}
use Rattle.keep_edit_spec.specs.Laws.{IsEditable, IsGivenValue}
use Rattle.keep_edit_spec.specs.Refusals.{refusal}
use Rattle.keep_edit_spec.proofs.Common.Runs.{SomeOf, Rules}
use Rattle.keep_edit_spec.proofs.Common.SetLaw.{IsAloneAt}
use Rattle.keep_edit_spec.proofs.Common.Marks.{rules_of_document}
use Rattle.keep_edit_spec.proofs.Common.ValueThere.{alone_of_fact, some_cases}
use Rattle.keep_edit_spec.proofs.Common.ValueNumber.{alone_of_number}
use Rattle.keep_edit_spec.proofs.Common.DoneAtValue.{EachOf, of_within, of_or_else}
use Rattle.keep_edit_spec.proofs.Common.FoundValue.{alone_beyond, alone_named}
use Rattle.keep_edit_spec.proofs.Remove.RemovePlace.{IsValueAt, value_at_split}
use Rattle.keep_edit_spec.proofs.Insert.DoneThere.{IsDoneThere}
use Rattle.keep_edit_spec.proofs.Insert.Gives.{never_alone}
use Rattle.keep_edit_spec.proofs.Common.SetDocument.{cancel}
use Rattle.keep_edit_spec.proofs.Insert.PutIn.{size, few_items}
use Rattle.keep_edit_spec.proofs.Insert.ItemCount.{item_count_few, item_count_many}
use Rattle.keep_edit_spec.proofs.Insert.ItemThere.{is_array, IsItemPath, item_at, never_whole, IsGranted, granted}
use Rattle.keep_edit_spec.proofs.Insert.ItemThere.{entries_of, put_there}
use Rattle.keep_edit_spec.proofs.Insert.FoundThere.{TakesNothing, IsFoundThere, found_there, put_place}
use Rattle.keep_edit_spec.proofs.Insert.EntryPlaces.{IsEntryAt, own_of, IsBefore, before_at, IsAfterEntry, after_at}
use Rattle.keep_edit_spec.proofs.Insert.EntryEdges.{gap_low, entries_low, back_low, low_put}
use Rattle.keep_edit_spec.proofs.Insert.LineBefore.{IsLowPlace}
use Rattle.keep_edit_spec.proofs.Remove.RemoveLinePlace.{is_high}
use Rattle.keep_token.specs.Pieces.{first}
use Rattle.keep_syntax.specs.declared.info.Brackets.TheVariants as brackets
use Rattle.keep_edit_spec.proofs.Insert.EntryThere.{first_in, infos_before, mentioned_before, values_there}
use Rattle.keep_edit_spec.proofs.Insert.EntryThere.{mentioned_there, count_there}

-- ---- nothing is taken out

abbrev pub Nothing : {A : Type 0} → Changed A → Type 0
Nothing d = d.old ≡ []

before_nothing : (n : ℕ) (new : Value) (es : Entries) → EachOf Nothing (put_before n new es)
before_nothing n new none = tt
before_nothing zero new (entry name body nested after comma rest) = refl
before_nothing (suc m) new (entry name body nested after comma rest) =
    of_within Nothing Nothing (entry name body nested after comma) _ [] (put_before m new rest) (λ c h. h)
    (before_nothing m new rest)

pub after_nothing : (prefix : List Part) (named : Option Name) (new : Value) (es : Entries)
    → EachOf Nothing (put_after prefix named new es)
after_nothing prefix named new none = tt
after_nothing prefix named new (entry name body nested after comma rest) =
    of_or_else Nothing (within (entry name body nested after comma) _ [] (put_after prefix named new rest)) _
    (of_within Nothing Nothing (entry name body nested after comma) _ [] (put_after prefix named new rest) (λ c h. h)
    (after_nothing prefix named new rest)) (when _ _ refl)
  where
    when : {A : Type 0} (b : Bool) (c : Changed A) → c.old ≡ []
        → EachOf Nothing (elim b [ false ↦ None | true ↦ Some c ])
    when false c e = tt
    when true c e = e

pub bracketed_nothing : (named : Option Name) (new : Value) (more : Entries → Option (Changed Entries)) (body : Body)
    (nested : Entries) → ((es : Entries) → EachOf Nothing (more es))
    → EachOf Nothing (bracketed_change named new more body nested)
bracketed_nothing named new more (scalar w) nested h = tt
bracketed_nothing named new more (array first) none h = refl
bracketed_nothing named new more (inline first) none h = refl
bracketed_nothing named new more (array first) (entry name body nested after comma rest) h =
    of_within Nothing Nothing (λ es. record { body = array first; nested = es })
    (codes "[" ++ text_of first) (codes "]") (more (entry name body nested after comma rest)) (λ c k. k)
    (h (entry name body nested after comma rest))
bracketed_nothing named new more (inline first) (entry name body nested after comma rest) h =
    of_within Nothing Nothing (λ es. record { body = inline first; nested = es })
    (codes "{" ++ text_of first) (codes "}") (more (entry name body nested after comma rest)) (λ c k. k)
    (h (entry name body nested after comma rest))

pub of_some : {A : Type 0} (P : Changed A → Type 0) (o : Option (Changed A)) (c : Changed A) → o ≡ Some c → EachOf P o
    → P c
of_some P o c e h = subst (EachOf P) e h

item_nothing : (new : Value) → TakesNothing (put_item new)
item_nothing new more v d e = of_some Nothing (put_item new more v) d e (by more)
  where
    by : (more : List Part) → EachOf Nothing (put_item new more v)
    by [] = tt
    by (key text ∷ ps) = tt
    by (index n ∷ ps) =
        bracketed_nothing None new (λ es. or_else (put_before n new es) (put_after [] None new es)) v.body v.nested
        (λ es. of_or_else Nothing (put_before n new es) (put_after [] None new es) (before_nothing n new es)
        (after_nothing [] None new es))

-- ---- a change inside is one of what it is put together from

pub record IsWithin {A B : Type 0} (outer : A → B) (left right : List ℕ) (o : Option (Changed A))
    (done : Changed B) : Type 0 where
  pub inner : Changed A
  pub is : o ≡ Some inner
  pub before : done.before ≡ left ++ inner.before
  pub new : done.new ≡ inner.new
  pub after : done.after ≡ inner.after ++ right

pub within_is : {A B : Type 0} (outer : A → B) (left right : List ℕ) (o : Option (Changed A)) (done : Changed B)
    → within outer left right o ≡ Some done → IsWithin outer left right o done
within_is outer left right None done e = absurd cc
within_is outer left right (Some d) done e =
    let k : framed_change outer left right d ≡ done = same_Some (framed_change outer left right d) done e in
    record {
      inner = d;
      is = refl;
      before = sym (ap (λ x. x.before) k);
      new = sym (ap (λ x. x.new) k);
      after = sym (ap (λ x. x.after) k);
    }

-- ---- items by their numbers

number_less : (n k : ℕ) (es : Entries) → SomeOf (IsAloneAt (index n ∷ [])) (entries_mentions k es) → n < k + size es
number_less n k none s = absurd s
number_less n k (entry name body nested after comma rest) s =
    elim (some_cases (IsAloneAt (index n ∷ [])) (entry_mentions k name (body_fact body) (entries_mentions 0 nested))
    (entries_mentions (k + 1) rest) s) [
      | inl t ↦
          (let (more, e) = alone_named k name (body_fact body) (entries_mentions 0 nested) (index n ∷ []) t in
          by name more e)
      | inr t ↦ omega (arith, number_less n (k + 1) rest t)
    ]
  where
    by : (name : Option Name) (more : List Part) → index n ∷ [] ≡ step k name ++ more → n < k + suc (size rest)
    by None more e = let same : n ≡ k = cc in omega (arith, same)
    by (Some name) more e = absurd cc

abbrev Any : ℕ → Option Name → Type 0
Any m name = ⊤

-- what is known of the place of the change
data IsItemPlaced (a : List Part) (n : ℕ) (s : Document) (new : Value) (c : Changed Document) (own : ValueInfo)
    (count : ℕ) : Type 0 where
  into_empty : count ≡ 0 → place_of c ≡ in_empty own [] new → is_high (first c.after) ≡ false
      → IsItemPlaced a n s new c own count
  before_one : (i : ValueInfo) → n < count → IsValueAt (a ++ index n ∷ []) s i → place_of c ≡ before_item i new
      → is_high (first c.after) ≡ false → IsItemPlaced a n s new c own count
  after_last : (i : ValueInfo) (m : ℕ) → suc m ≡ count → count ≤ n → IsValueAt (a ++ index m ∷ []) s i
      → place_of c ≡ after_entry i [] new → is_high (first c.after) ≡ false → IsItemPlaced a n s new c own count

module _ (profile : Profile) (s : Document) (a : List Part) (n : ℕ) (new : Value) (rules : Rules (mentions_in s))
    (root : a ≡ [] → ⊥) (c : Changed Document)
    (f : IsFoundThere profile is_array (put_item new) (index n ∷ []) a s c) where
  abbrev rest : List Part
  rest = index n ∷ []

  abbrev v : Value
  v = f.found.value

  abbrev p : Start
  p = first_in profile is_array (put_item new) rest a s c f

  abbrev put : Entries → Option (Changed Entries)
  put es = or_else (put_before n new es) (put_after [] None new es)

  are : AreEntries profile in_array v.nested
  are = entries_of profile v.body v.nested f.fit f.valid

  count_is : item_count a (mentions_in s) ≡ size v.nested
  count_is =
      let whole : item_count a (mentions_in s)
      ≡ item_count a (f.found.earlier
      ++ (map (below a) (valued_mentions f.found.mention.kind (entries_mentions 0 v.nested)) ++ f.found.further)) =
      ap (item_count a) f.whole in
      omega (
        arith,
        whole,
        item_count_few profile a f.found.earlier f.found.further f.found.mention.kind v.nested root are
            f.disjoint_before f.disjoint_after,
        item_count_many profile a f.found.earlier f.found.further f.found.mention.kind v.nested are,
      )

  no_name : (z : IsEntryAt Any 0 p v.nested) → z.name ≡ None
  no_name z = by z.name (z.valid profile in_array are).0
    where
      by : (name : Option Name) → IsNamed profile in_array name → name ≡ None
      by None h = refl
      by (Some name) h = absurd h

  value_of_item : (z : IsEntryAt Any 0 p v.nested) → IsValueAt (a ++ index z.number ∷ []) s (own_of Any 0 p v.nested z)
  value_of_item z =
      let tail : List Mention = map (below a) (entries_mentions (z.number + 1) z.rest) ++ f.found.further in
      let before : List Mention = mentioned_before profile is_array (put_item new) rest a s c f Any z in
      let m : Mention = record { path = a ++ index z.number ∷ []; kind = item (body_fact z.body) } in
      let later : List Mention =
      map (below a) (map (below (index z.number ∷ [])) (entries_mentions 0 z.nested)) ++ tail in
      let mentioned : mentions_in s ≡ before ++ m ∷ later =
      mentioned_there profile is_array (put_item new) rest a s c f Any z
      ∙ ap (λ (o : Option Name).
      before ++ (map (below a) (entry_mentions z.number o (body_fact z.body) (entries_mentions 0 z.nested)) ++ tail))
      (no_name z) in
      value_at_split (a ++ index z.number ∷ []) s before m later
      (infos_before profile is_array (put_item new) rest a s c f Any z) (own_of Any 0 p v.nested z) _ rules mentioned
      refl refl
      (values_there profile is_array (put_item new) rest a s c f Any z)
      (count_there profile is_array (put_item new) rest a s c f Any z)

  -- where the entries begin in the text
  prefix_is : (done : Changed Entries) (left : List ℕ) → f.found.done.before ≡ left ++ done.before
      → f.found.from + length left ≡ p.at → length c.before ≡ p.at + length done.before
  prefix_is done left e h =
      let begins : f.found.own.span.start ≡ f.found.from = ap (λ (i : ValueInfo). i.span.start) f.found.stated in
      omega (arith, f.found.start, begins, ap (λ (t : List ℕ). length t) e, length-append left done.before, h)

  -- what comes after the place
  after_is : (done : Changed Entries) → f.found.done.after ≡ done.after ++ codes "]"
      → c.after ≡ done.after ++ (codes "]" ++ f.found.beyond)
  after_is done e =
      f.found.text_after ∙ ap (λ (t : List ℕ). t ++ f.found.beyond) e ∙ append_assoc done.after (codes "]")
      f.found.beyond

  abbrev Placed : Type 0
  Placed = IsItemPlaced a n s new c f.found.own (item_count a (mentions_in s))

  by_before : (d : Changed Entries) → put_before n new v.nested ≡ Some d → length c.before ≡ p.at + length d.before
      → c.new ≡ d.new → c.after ≡ d.after ++ (codes "]" ++ f.found.beyond) → Placed
  by_before d e start given more =
      let b : IsBefore Any new (0 + n) 0 p v.nested d =
      of_some (IsBefore Any new (0 + n) 0 p v.nested) (put_before n new v.nested) d e
      (before_at Any new 0 n p v.nested) in
      let same : b.entry.number ≡ n = omega (arith, b.number) in
      before_one (own_of Any 0 p v.nested b.entry) (omega (arith, b.entry.left, same, count_is))
      (subst (λ (m : ℕ). IsValueAt (a ++ index m ∷ []) s (own_of Any 0 p v.nested b.entry)) same
      (value_of_item b.entry))
      (put_place c b.entry.begin.at (text_of_value new ++ codes ", ") (f.found.old ∙ f.nothing)
      (omega (arith, start, b.start)) (given ∙ b.given))
      (ap (λ (t : List ℕ). is_high (first t)) (more ∙ ap (λ (t : List ℕ). t ++ (codes "]" ++ f.found.beyond)) b.after)
      ∙ entries_low profile brackets.Array
      (entry b.entry.name b.entry.body b.entry.nested b.entry.after b.entry.comma b.entry.rest) (codes "]"
      ++ f.found.beyond) (b.entry.valid profile in_array are) refl)

  by_after : (d : Changed Entries) → put_before n new v.nested ≡ None → put_after [] None new v.nested ≡ Some d
      → length c.before ≡ p.at + length d.before → c.new ≡ d.new → c.after ≡ d.after ++ (codes "]" ++ f.found.beyond)
      → Placed
  by_after d few e start given more =
      let b : IsAfterEntry Any [] None new 0 p v.nested d =
      of_some (IsAfterEntry Any [] None new 0 p v.nested) (put_after [] None new v.nested) d e
      (after_at Any [] None new 0 p v.nested) in
      let i : ValueInfo = own_of Any 0 p v.nested b.entry in
      after_last i b.entry.number (omega (arith, b.entry.left, count_is, last b.entry.rest b.last))
      (omega (arith, few_items new n v.nested few, count_is)) (value_of_item b.entry)
      (put_place c i.span.end (codes ", " ++ keyed_text [] new) (f.found.old ∙ f.nothing) (omega (arith, start, b.end))
      (given ∙ b.given))
      (ap (λ (t : List ℕ). is_high (first t)) (more ∙ ap (λ (t : List ℕ). t ++ (codes "]" ++ f.found.beyond)) b.after)
      ∙ back_low profile brackets.Array b.entry.after b.entry.comma b.entry.rest (codes "]" ++ f.found.beyond)
      (b.entry.valid profile in_array are).3 (b.entry.valid profile in_array are).5 refl)
    where
      last : (es : Entries) → put_after [] None new es ≡ None → size es ≡ 0
      last none e = refl
      last (entry name body nested after comma more) e =
          absurd (some_first (within (entry name body nested after comma) _ [] (put_after [] None new more)) _ e)
        where
          some_first : {A : Type 0} (o : Option A) (x : A) → or_else o (Some x) ≡ None → ⊥
          some_first None x e = absurd cc
          some_first (Some y) x e = absurd cc

  by_parts : (b : Body) (es : Entries) → v.body ≡ b → v.nested ≡ es → is_array b ≡ true
      → bracketed_change None new put b es ≡ Some f.found.done → Placed
  by_parts (scalar w) es eb ei fit e = absurd cc
  by_parts (inline g) es eb ei fit e = absurd cc
  by_parts (array g) none eb ei fit e =
      let k = same_Some _ f.found.done e in
      let before : f.found.done.before ≡ codes "[" = sym (ap (λ (x : Changed Value). x.before) k) in
      into_empty (count_is ∙ ap size ei)
      (put_place c (suc f.found.own.span.start) (keyed_text [] new) (f.found.old ∙ f.nothing)
      (omega (arith, f.found.start, ap (λ (t : List ℕ). length t) before))
      (f.found.new ∙ sym (ap (λ (x : Changed Value). x.new) k)))
      (ap (λ (t : List ℕ). is_high (first t))
      (f.found.text_after ∙ ap (λ (t : List ℕ). t ++ f.found.beyond) (sym (ap (λ (x : Changed Value). x.after) k))
      ∙ append_assoc (text_of g) (codes "]") f.found.beyond)
      ∙ gap_low g (codes "]" ++ f.found.beyond)
      (gap_blank profile brackets.Array g (subst (IsBody profile) eb f.valid.body)) refl)
  by_parts (array g) (entry name body nested after comma more) eb ei fit e =
      let es : Entries = entry name body nested after comma more in
      let w = within_is (λ xs. record { body = array g; nested = xs }) (codes "[" ++ text_of g) (codes "]") (put es)
      f.found.done e in
      let at : f.found.from + length (codes "[" ++ text_of g) ≡ p.at =
      omega (
        arith,
        ap (λ (x : Body). (nested_of f.found.begin f.found.from f.found.keys x).at) eb,
        length-append (codes "[") (text_of g),
      ) in
      let start : length c.before ≡ p.at + length w.inner.before =
      prefix_is w.inner (codes "[" ++ text_of g) w.before at in
      let given : c.new ≡ w.inner.new = f.found.new ∙ w.new in
      by_first w.inner (put_before n new v.nested) refl (ap put ei ∙ w.is) start given (after_is w.inner w.after)
    where
      by_first : (d : Changed Entries) (o : Option (Changed Entries)) → put_before n new v.nested ≡ o
          → or_else (put_before n new v.nested) (put_after [] None new v.nested) ≡ Some d
          → length c.before ≡ p.at + length d.before → c.new ≡ d.new
          → c.after ≡ d.after ++ (codes "]" ++ f.found.beyond) → Placed
      by_first d (Some x) h e start given more =
          let k : Some x ≡ Some d =
          sym (ap (λ (o : Option (Changed Entries)). or_else o (put_after [] None new v.nested)) h) ∙ e in
          by_before d (h ∙ k) start given more
      by_first d None h e start given more =
          by_after d h (sym (ap (λ (o : Option (Changed Entries)). or_else o (put_after [] None new v.nested)) h) ∙ e)
          start given more

  item_placed : Placed
  item_placed = by_parts v.body v.nested refl refl f.fit f.by

  -- the items that have values have numbers below the count
  number_few : (m : ℕ) → SomeOf (IsAloneAt (a ++ index m ∷ [])) (mentions_in s) → m < item_count a (mentions_in s)
  number_few m alone =
      elim (some_cases (IsAloneAt q) f.found.earlier (map (below a) run ++ f.found.further)
      (subst (SomeOf (IsAloneAt q)) f.whole alone)) [
        | inl x ↦ absurd (never_alone a q (index m ∷ []) f.found.earlier f.disjoint_before x refl)
        | inr x ↦ (elim (some_cases (IsAloneAt q) (map (below a) run) f.found.further x) [
          | inl y ↦ (let b = alone_beyond a q run y in inner b.more (cancel a (index m ∷ []) b.more b.whole) b.alone)
          | inr y ↦ absurd (never_alone a q (index m ∷ []) f.found.further f.disjoint_after y refl)
        ])
      ]
    where
      q : List Part
      q = a ++ index m ∷ []

      run : List Mention
      run = valued_mentions f.found.mention.kind (entries_mentions 0 v.nested)

      inner : (r : List Part) → index m ∷ [] ≡ r → SomeOf (IsAloneAt r) run → m < item_count a (mentions_in s)
      inner r e (inl top) = let k : [] ≡ index m ∷ [] = top.path ∙ sym e in absurd cc
      inner r e (inr t) =
          omega (
            arith,
            count_is,
            number_less m 0 v.nested (subst (λ (x : List Part). SomeOf (IsAloneAt x) (entries_mentions 0 v.nested))
                (sym e) t),
          )

-- ---- the laws

-- one value is at a path
pub same_value_at : (path : List Part) (s : Document) (v : ℕ) (i j : ValueInfo)
    → last_number is_value value_number (numbered_at path (numbered_in s)) ≡ Some v
    → slice_get (syntax.values s) v ≡ Some i → IsValueAt path s j → j ≡ i
same_value_at path s v i j number here h =
    let same : h.number ≡ v = one_of_two _ h.number v h.is number in
    one_of_two (slice_get (syntax.values s) v) j i (ap (slice_get (syntax.values s)) (sym same) ∙ h.here) here

-- The place of an item that is put in.
pub record IsItemLaw (path : List Part) (n : ℕ) (s : Document) (new : Value) : Type 0 where
  pub before : (v : ℕ) (i : ValueInfo) → last_number is_value value_number (numbered_at path (numbered_in s)) ≡ Some v
      → slice_get (syntax.values s) v ≡ Some i → IsLowPlace s (insert path new) (before_item i new)
  pub after : (m v : ℕ) (i : ValueInfo) → n ≡ suc m → item_count (without_last path) (mentions_in s) ≡ n
      → last_number is_value value_number (numbered_at (without_last path ++ index m ∷ []) (numbered_in s)) ≡ Some v
      → slice_get (syntax.values s) v ≡ Some i
      → IsLowPlace s (insert path new) (after_entry i [] new)
  pub empty : (v : ℕ) (i : ValueInfo) → item_count (without_last path) (mentions_in s) ≡ 0
      → last_number is_value value_number (numbered_at (without_last path) (numbered_in s)) ≡ Some v
      → slice_get (syntax.values s) v ≡ Some i
      → IsLowPlace s (insert path new) (in_empty i [] new)

pub item_law : (profile : Profile) (limit : ℕ) (s : Document) (path : List Part) (new : Value) (n : ℕ)
    → IsEditable profile limit s → IsGivenValue Wide new
    → item_number path (mentions_in s) ≡ Some n → refusal profile limit s (insert path new) ≡ None
    → IsItemLaw path n s new
item_law profile limit s path new n editable given at allowed =
    let ms : List Mention = mentions_in s in
    let a : List Part = without_last path in
    let h : IsItemPath path n ms = item_at path n ms at in
    let g : IsGranted profile limit s path n new = granted profile limit s path n new at allowed in
    let rules : Rules ms = rules_of_document s editable.obeys in
    let d : IsDoneThere profile is_array (put_item new) (index n ∷ []) a s =
    put_there profile s a new n editable.valid rules (allowed_value profile new given.valid g.suits) h.is_array in
    let root : a ≡ [] → ⊥ =
    λ e. never_whole s (subst (λ (x : List Part). SomeOf (IsAloneAt x) ms) e
    (alone_of_fact a ms fact.array h.is_array refl)) in
    let is : change s (insert path new) ≡ Some d.changed =
    rw (at, change_insert) (subst (λ (x : List Part). nested (put_item new) x s ≡ Some d.changed) (sym h.whole) d.is) in
    let f : IsFoundThere profile is_array (put_item new) (index n ∷ []) a s d.changed =
    found_there profile is_array (put_item new) (index n ∷ []) a s editable.valid rules (item_nothing new) d.changed
    d.is d.ended_is in
    let placed = item_placed profile s a n new rules root d.changed f in
    let there : (p : Place) → place_of d.changed ≡ p → is_high (first d.changed.after) ≡ false
    → IsLowPlace s (insert path new) p =
    λ p e low. low_put s (insert path new) d.changed p is (f.found.old ∙ f.nothing) e low in
    let few = number_few profile s a n new rules root d.changed f in
    record {
      before = λ v i number here. by_before d.changed f.found.own placed few h.whole there v i number here;
      after = λ m v i e count number here. by_after d.changed f.found.own placed there m v i e count number here;
      empty = λ v i count number here. by_empty d.changed f.found.own f.here placed there v i count number here;
    }
  where
    by_before : (c : Changed Document) (own : ValueInfo)
        → IsItemPlaced (without_last path) n s new c own (item_count (without_last path) (mentions_in s))
        → ((m : ℕ) → SomeOf (IsAloneAt (without_last path ++ index m ∷ [])) (mentions_in s)
        → m < item_count (without_last path) (mentions_in s))
        → path ≡ without_last path ++ index n ∷ []
        → ((p : Place) → place_of c ≡ p → is_high (first c.after) ≡ false → IsLowPlace s (insert path new) p)
        → (v : ℕ) (i : ValueInfo) → last_number is_value value_number (numbered_at path (numbered_in s)) ≡ Some v
        → slice_get (syntax.values s) v ≡ Some i → IsLowPlace s (insert path new) (before_item i new)
    by_before c own (into_empty zero_items e low) few whole there v i number here =
        let less =
        few n (subst (λ (x : List Part). SomeOf (IsAloneAt x) (mentions_in s)) whole
        (alone_of_number path s v number)) in absurd (omega (arith, less, zero_items))
    by_before c own (after_last j m last more at e low) few whole there v i number here =
        let less =
        few n (subst (λ (x : List Part). SomeOf (IsAloneAt x) (mentions_in s)) whole
        (alone_of_number path s v number)) in absurd (omega (arith, less, more))
    by_before c own (before_one j less at e low) few whole there v i number here =
        subst (λ (x : ValueInfo). IsLowPlace s (insert path new) (before_item x new))
        (same_value_at path s v i j number here (subst (λ (x : List Part). IsValueAt x s j) (sym whole) at))
        (there (before_item j new) e low)

    by_after : (c : Changed Document) (own : ValueInfo)
        → IsItemPlaced (without_last path) n s new c own (item_count (without_last path) (mentions_in s))
        → ((p : Place) → place_of c ≡ p → is_high (first c.after) ≡ false → IsLowPlace s (insert path new) p)
        → (m v : ℕ) (i : ValueInfo) → n ≡ suc m → item_count (without_last path) (mentions_in s) ≡ n
        → last_number is_value value_number (numbered_at (without_last path ++ index m ∷ []) (numbered_in s)) ≡ Some v
        → slice_get (syntax.values s) v ≡ Some i
        → IsLowPlace s (insert path new) (after_entry i [] new)
    by_after c own (into_empty zero_items e low) there m v i more count number here =
        absurd (omega (arith, zero_items, count, more))
    by_after c own (before_one j less at e low) there m v i more count number here = absurd (omega (arith, less, count))
    by_after c own (after_last j k last few at e low) there m v i more count number here =
        let same : k ≡ m = omega (arith, last, count, more) in
        subst (λ (x : ValueInfo). IsLowPlace s (insert path new) (after_entry x [] new))
        (same_value_at (without_last path ++ index m ∷ []) s v i j number here
        (subst (λ (x : ℕ). IsValueAt (without_last path ++ index x ∷ []) s j) same at))
        (there (after_entry j [] new) e low)

    by_empty : (c : Changed Document) (own : ValueInfo) → IsValueAt (without_last path) s own
        → IsItemPlaced (without_last path) n s new c own (item_count (without_last path) (mentions_in s))
        → ((p : Place) → place_of c ≡ p → is_high (first c.after) ≡ false → IsLowPlace s (insert path new) p)
        → (v : ℕ) (i : ValueInfo) → item_count (without_last path) (mentions_in s) ≡ 0
        → last_number is_value value_number (numbered_at (without_last path) (numbered_in s)) ≡ Some v
        → slice_get (syntax.values s) v ≡ Some i
        → IsLowPlace s (insert path new) (in_empty i [] new)
    by_empty c own at (into_empty zero_items e low) there v i count number here =
        subst (λ (x : ValueInfo). IsLowPlace s (insert path new) (in_empty x [] new))
        (same_value_at (without_last path) s v i own number here at) (there (in_empty own [] new) e low)
    by_empty c own at (before_one j less at' e low) there v i count number here = absurd (omega (arith, less, count))
    by_empty c own at (after_last j m last few at' e low) there v i count number here =
        absurd (omega (arith, last, count))
