-- An edit of an entry makes of any document what the set of the value that holds it makes, if it makes the set's value
-- of that value alone.
--
-- The value there is the given one, since a text is that of one value (`same_value`). So what the edit makes of the
-- document, by what an act makes of the value there (EntryMade), is what the set makes (`same_by`). Nor is the edit
-- refused. An insert: the array has as many items (`enough`), or nothing is there by the new key (`free`). The document
-- can hold what comes in, which is in the set's value, so it is of the profile's grammar (`item_within`,
-- `keyval_within`) and less deep (EntryDepth). A remove: an entry that goes has a value (`taken_stated`).
--
-- Theorem: `entry_change_is_set`.
use Rattle.std.proofs.Common.{◌≡◌, ℕ, zero, suc, ◌+◌, ◌<◌, ◌≤◌, Bool, true, false, not, List, [], ◌∷◌, ◌++◌, take, drop}
use Rattle.std.proofs.Common.{refl, sym, ap, subst, ◌∙◌, arith, Option, Some, None, IsUtf8, inl, inr}
use Rattle.std.specs.Prelude.{codes}
use Rattle.std.specs.List.{AllByRecursion, filter_map, list_any}
use Rattle.std.proofs.lemmas.Bool.{cases_lt, le-ltb}
use Rattle.std.proofs.lemmas.Bool.Decides.{eqb_tells}
use Rattle.std.proofs.lemmas.List.{append-nil}
use Rattle.std.proofs.lemmas.Option.{same_Some}
use Rattle.keep_types.specs.declared.leaf.Profile.{Profile}
use Rattle.keep_types.specs.declared.leaf.Profile.TheVariants.{Strict, Wide}
use Rattle.keep_syntax.specs.Tree.{Body, Name, array, inline, scalar, Entries, none, entry, Value, Document}
use Rattle.keep_syntax.specs.Tree.{comma_leaves, text, text_of, value_depth, value_text}
use Rattle.keep_syntax.specs.Grammar.{AreEntries, IsNamed, IsValue, Place, in_array, place_in}
use Rattle.keep_syntax.proofs.Shared.{allowed_value, one_value, reads_value_wider, value_allowed}
use Rattle.keep_path.specs.Path.{Part, index, key}
use Rattle.keep_meaning.specs.Fact as fact
use Rattle.keep_meaning.specs.Fact.{Fact, is_value_fact}
use Rattle.keep_meaning.specs.Marks.{Mention, MentionKind, fact_of}
use Rattle.keep_meaning.specs.Meaning.{body_fact, entries_mentions, entry_mentions, mentions_in, mentions_of_value}
use Rattle.keep_meaning.specs.Meaning.{step}
use Rattle.keep_meaning.specs.Nodes.{fact_at, first_of, is_at, kinds_at}
use Rattle.keep_edit_spec.specs.AddedItems.{item_path}
use Rattle.keep_edit_spec.specs.Changed.{Changed, or_else, within}
use Rattle.keep_edit_spec.specs.Edits.{Edit, append_element, append_table, edited_document, insert, name_with, remove}
use Rattle.keep_edit_spec.specs.Edits.{rename, set}
use Rattle.keep_edit_spec.specs.EntryChanges.{EntryChangeIsSet, IsGivenTo, MakesOfValue, PutsItem, PutsKeyval}
use Rattle.keep_edit_spec.specs.EntryChanges.{TakesEntry, entry_count}
use Rattle.keep_edit_spec.specs.EntryEdits.{CanHold, MakesSet}
use Rattle.keep_edit_spec.specs.Laws.{IsEditable, IsGivenValue}
use Rattle.keep_edit_spec.specs.Look.{enclosing, is_array_at, is_table_fact, item_count, keys_in, strip}
use Rattle.keep_edit_spec.specs.Refusals.{has_value, is_foreign, is_too_deep}
use Rattle.keep_edit_spec.specs.Runs.{path_of}
use Rattle.keep_edit_spec.specs.SetValues.{SetsValue}
use Rattle.keep_edit_spec.specs.TextChanges.{TextChange}
use Rattle.keep_edit_spec.specs.Values.{Act, entry_prefix, put_after, put_before, put_item, put_named, removal}
use Rattle.keep_edit_spec.proofs.Common.DoneAtValue.{fact_join, step_facts, value_fact-body}
use Rattle.keep_edit_spec.proofs.Common.Marks.{rules_of_document, rules_of_value}
use Rattle.keep_edit_spec.proofs.Common.Runs.{AllOf, Allowed, IsDisjoint, Rules, kinds_at-disjoint, pairs_split}
use Rattle.keep_edit_spec.proofs.Common.Runs.{strip-append}
use Rattle.keep_edit_spec.proofs.Common.SetLaw.{EachTo, to_or_else, to_within}
use Rattle.keep_edit_spec.proofs.Common.ValueThere.{alone_of_fact}
use Rattle.keep_edit_spec.proofs.Insert.BracesPlace.{is_inline, table_body}
use Rattle.keep_edit_spec.proofs.Insert.DoneThere.{ended, same_value}
use Rattle.keep_edit_spec.proofs.Insert.ItemNumbers.{items_numbered}
use Rattle.keep_edit_spec.proofs.Insert.ItemThere.{array_body, entries_of, is_array}
use Rattle.keep_edit_spec.proofs.Insert.NamedEntries.{EachEntry, IsStated, entries_stated}
use Rattle.keep_edit_spec.proofs.Lists.AtHolder.{any_body, inline_table, put_at, put_keyval_at, take_at}
use Rattle.keep_edit_spec.proofs.Lists.EntryDepth.{enclosing_entry, put_deep, put_keyval_deep}
use Rattle.keep_edit_spec.proofs.Lists.EntryEdits.{removable}
use Rattle.keep_edit_spec.proofs.Lists.EntryInserts.{keyval_unrefused}
use Rattle.keep_edit_spec.proofs.Lists.EntryMade as made_there
use Rattle.keep_edit_spec.proofs.Lists.EntryMade.{IsMadeThere, insert_keyval_there, insert_there, mentioned_by}
use Rattle.keep_edit_spec.proofs.Lists.EntryMade.{remove_there, value_of}
use Rattle.keep_edit_spec.proofs.Lists.MoreItems.{unrefused}
use Rattle.keep_edit_spec.proofs.Lists.SetAllowed.{node_alone}
use Rattle.keep_edit_spec.proofs.Lists.ValueSet as value_set
use Rattle.keep_edit_spec.proofs.Remove.TakenOut.{IsOut, IsRemoved, does_remove}
use Rattle.keep_edit_spec.proofs.Set.SetIsLawful.{IsSettable, settable}

wider : (profile : Profile) (v : Value) → IsValue profile v → IsValue Wide v
wider Wide v h = h
wider Strict v h =
    (reads_value_wider (value_depth v) (value_text v) v
    (record { valid = h; spelled = refl; shallow = omega arith })).valid

-- what an act makes where it fits, it makes at the end of a path
done_at_end : (fits : Body → Bool) (act : Act) (rest : List Part) (v : Value) (made : Changed Value)
    → fits v.body ≡ true → act rest v ≡ Some made → ended fits act rest [] v ≡ Some made
done_at_end fits act rest v made e h = by (fits v.body) (act rest v) e h
  where
    by : (b : Bool) (o : Option (Changed Value)) → b ≡ true → o ≡ Some made
        → ◌≡◌ {A = Option (Changed Value)}
        (elim b [ true ↦ or_else o (Some (same_value v)) | false ↦ Some (same_value v) ]) (Some made)
    by b o e h = rw (e, h) refl

-- ---- what comes in is of the profile's grammar, where the whole is

abbrev Holds : Profile → Place → Value → Entries → Type 0
Holds profile place new es = AreEntries profile place es → IsValue profile new

before_holds : (profile : Profile) (place : Place) (n : ℕ) (new : Value) (es : Entries)
    → EachTo (Holds profile place new) (put_before n new es)
before_holds profile place n new none = tt
before_holds profile place zero new (entry name body nested after comma rest) =
    λ h. record { body = h.1; nested = h.2 }
before_holds profile place (suc m) new (entry name body nested after comma rest) =
    to_within (Holds profile place new) (Holds profile place new) (entry name body nested after comma)
    (entry_prefix name body nested ++ (text_of after ++ text_of (comma_leaves comma))) [] (put_before m new rest)
    (λ fs g h. g h.5) (before_holds profile place m new rest)

after_holds : (profile : Profile) (place : Place) (named : Option Name) (new : Value) (es : Entries)
    → EachTo (Holds profile place new) (put_after [] named new es)
after_holds profile place named new none = tt
after_holds profile place named new (entry name body nested after comma rest) =
    to_or_else (Holds profile place new)
    (within (entry name body nested after comma)
    (entry_prefix name body nested ++ (text_of after ++ text_of (comma_leaves comma))) []
    (put_after [] named new rest)) (Some _)
    (to_within (Holds profile place new) (Holds profile place new) (entry name body nested after comma)
    (entry_prefix name body nested ++ (text_of after ++ text_of (comma_leaves comma))) []
    (put_after [] named new rest) (λ fs g h. g h.5) (after_holds profile place named new rest))
    (λ h. record { body = h.5.1; nested = h.5.2 })

abbrev Within : Profile → Value → Value → Type 0
Within profile new v = IsValue profile v → IsValue profile new

item_within : (profile : Profile) (n : ℕ) (new : Value) (body : Body) (nested : Entries) → is_array body ≡ true
    → EachTo (Within profile new) (put_item new (index n ∷ []) (record { body = body; nested = nested }))
item_within profile n new (scalar w) nested e = absurd cc
item_within profile n new (inline first) nested e = absurd cc
item_within profile n new (array first) none e = λ h. record { body = h.nested.1; nested = h.nested.2 }
item_within profile n new (array first) (entry name body nested after comma rest) e =
    let es : Entries = entry name body nested after comma rest in
    to_within (Holds profile in_array new) (Within profile new) (λ fs. record { body = array first; nested = fs })
    (codes "[" ++ text_of first) (codes "]") (or_else (put_before n new es) (put_after [] None new es))
    (λ fs g h. g h.nested)
    (to_or_else (Holds profile in_array new) (put_before n new es) (put_after [] None new es)
    (before_holds profile in_array n new es) (after_holds profile in_array None new es))

keyval_within : (profile : Profile) (k : List ℕ) (new : Value) (body : Body) (nested : Entries)
    → is_inline body ≡ true
    → EachTo (Within profile new) (put_named name_with 1 new (key k ∷ []) (record { body = body; nested = nested }))
keyval_within profile k new (scalar w) nested e = absurd cc
keyval_within profile k new (array first) nested e = absurd cc
keyval_within profile k new (inline first) none e = λ h. record { body = h.nested.1; nested = h.nested.2 }
keyval_within profile k new (inline first) (entry name body nested after comma rest) e =
    let es : Entries = entry name body nested after comma rest in
    let named : Option Name = Some (name_with (k ∷ [])) in
    to_within (Holds profile (place_in (inline first)) new) (Within profile new)
    (λ fs. record { body = inline first; nested = fs }) (codes "{" ++ text_of first) (codes "}")
    (put_after [] named new es) (λ fs g h. g h.nested) (after_holds profile (place_in (inline first)) named new es)

-- ---- the facts of entries

-- each number below the count is that of an item
number_stated : (profile : Profile) (ms : List Mention) (n k : ℕ) (es : Entries) → AreEntries profile in_array es
    → EachEntry (λ m name. IsStated (step m name) ms) k es → k ≤ n → n < k + entry_count es
    → IsStated (index n ∷ []) ms
number_stated profile ms n k none valid each low less = absurd (omega (arith, low, less))
number_stated profile ms n k (entry (Some name) body nested after comma rest) valid each low less = absurd valid.0
number_stated profile ms n k (entry None body nested after comma rest) valid each low less = elim (eqb_tells n k) [
  | inl same ↦ subst (λ (m : ℕ). IsStated (index m ∷ []) ms) (sym same.1) each.0
  | inr other ↦
      number_stated profile ms n (k + 1) rest valid.5 each.1 (omega (arith, low, other.1)) (omega (arith, less))
]

-- the entry that goes has a value
taken_stated : (path : List Part) (old now : Entries) (out : IsOut path 0 old now) → Rules (entries_mentions 0 old)
    → fact_at path (entries_mentions 0 old) ≡ Some (body_fact out.body)
taken_stated path old now out rules =
    let own : List Mention =
    entry_mentions out.number out.name (body_fact out.body) (entries_mentions 0 out.nested) in
    let further : List Mention = own ++ entries_mentions (out.number + 1) out.rest in
    let there : Rules further = (pairs_split Allowed out.before further (subst Rules out.was rules)).right in
    ap (fact_at path) out.was
    ∙ fact_join path out.before further (no_fact (out.disjoint rules))
    ∙ ap (λ (p : List Part). fact_at p further) (sym out.named ∙ sym (append-nil (step out.number out.name)))
    ∙ step_facts out.number out.name out.body out.nested [] None out.rest there []
  where
    no_fact : AllOf (IsDisjoint path) out.before → fact_at path out.before ≡ None
    no_fact disjoint =
        ap (λ l. first_of (filter_map fact_of l))
        (kinds_at-disjoint path path [] out.before disjoint
        (ap (strip path) (sym (append-nil path)) ∙ strip-append path []))

-- an array has items, an inline table keyvals
can_hold : (profile : Profile) (body : Body) (name : Option Name) (n : ℕ) (part : Part)
    → IsNamed profile (place_in body) name → step n name ≡ part ∷ [] → CanHold (Some (body_fact body)) part
can_hold profile (scalar w) None n part named e = absurd named
can_hold profile (scalar w) (Some name) n part named e = absurd named
can_hold profile (array first) (Some name) n part named e = absurd named
can_hold profile (array first) None n (index m) named e = refl
can_hold profile (array first) None n (key k) named e = absurd cc
can_hold profile (inline first) None n part named e = absurd named
can_hold profile (inline first) (Some name) n (key k) named e = refl
can_hold profile (inline first) (Some name) n (index m) named e = absurd cc

-- ---- in a document

module _ (profile : Profile) (limit : ℕ) (s : Document) (path : List Part) (was now : Value) (c : TextChange)
    (fine : IsEditable profile limit s) (given : IsGivenValue Wide was)
    (bytes : take c.size (drop c.at (text s)) ≡ value_text was) (sets : SetsValue profile limit s path now c) where
  abbrev ms : List Mention
  ms = mentions_in s

  abbrev here : Value
  here = made_there.its profile limit s path now c fine sets

  abbrev outer : Value → Document
  outer = (made_there.there profile limit s path now c fine sets).outer

  here_valid : IsValue profile here
  here_valid = value_set.old_valid profile limit s path now c fine sets

  same_value_there : here ≡ was
  same_value_there =
      one_value Wide here was (wider profile here here_valid) given.valid
      (sym (value_set.bytes profile limit s path now c fine sets) ∙ bytes)

  was_valid : IsValue profile was
  was_valid = subst (IsValue profile) same_value_there here_valid

  rules : Rules (mentions_of_value was)
  rules = rules_of_value was given.obeys

  facts : (q : List Part) → fact_at (path ++ q) ms ≡ fact_at q (mentions_of_value was)
  facts q =
      made_there.facts profile limit s path now c fine sets q
      ∙ ap (λ (v : Value). fact_at q (mentions_of_value v)) same_value_there

  fact_here : fact_at path ms ≡ Some (body_fact was.body)
  fact_here = ap (λ (p : List Part). fact_at p ms) (sym (append-nil path)) ∙ facts []

  stated_value : (p : Part) → IsStated (p ∷ []) (entries_mentions 0 was.nested)
      → has_value (path ++ p ∷ []) ms ≡ true
  stated_value p stated = ap value_of (facts (p ∷ []) ∙ stated.is) ∙ stated.valued

  -- the edit makes what the set makes
  same_by : (act : Act) (e : Edit) (made : Changed Value) → IsMadeThere act here outer (edited_document s e)
      → act [] was ≡ Some made → made.to ≡ now → edited_document s e ≡ edited_document s (set path now)
  same_by act e made x by is =
      let both : Some x.made ≡ Some made = sym x.by ∙ ap (act []) same_value_there ∙ by in
      x.to_is
      ∙ ap outer (ap (λ (m : Changed Value). m.to) (same_Some x.made made both) ∙ is)
      ∙ sym (value_set.edited_is profile limit s path now c fine sets)

  can_set : IsSettable profile limit path now ms
  can_set = settable profile limit path now ms sets.allowed

  shallow : (p : Part) (new : Value) → suc (value_depth new) ≤ value_depth now
      → is_too_deep limit (path ++ p ∷ []) new ms ≡ false
  shallow p new deep =
      le-ltb limit (enclosing (path ++ p ∷ []) ms + value_depth new)
      (omega (
        arith,
        deep,
        can_set.shallow,
        enclosing_entry path p ms (mentions_of_value here) (made_there.facts profile limit s path now c fine sets),
      ))

  own : (new : Value) → Within profile new now → is_foreign profile new ≡ false
  own new holds =
      ap not (value_allowed profile new (holds (allowed_value profile now sets.given.valid can_set.suits)))

  -- ---- an item

  module _ (n : ℕ) (new : Value) (puts : PutsItem was n new now) where
    fits : is_array was.body ≡ true
    fits = array_body was.body (ap Some puts.array)

    at : fact_at path ms ≡ Some fact.array
    at = fact_here ∙ ap Some puts.array

    array_is : is_array_at path ms ≡ true
    array_is = rw (at, is_array_at) refl

    by_act : put_at new n [] was ≡ Some puts.made
    by_act = done_at_end is_array (put_item new) (index n ∷ []) was puts.made fits puts.by

    item_deep : suc (value_depth new) ≤ value_depth now
    item_deep =
        subst (λ (v : Value). suc (value_depth new) ≤ value_depth v) puts.is
        (subst (EachTo (λ v. suc (value_depth new) ≤ value_depth v)) by_act (put_deep new n was fits))

    enough : n ≤ item_count path ms
    enough = elim (cases_lt (item_count path ms) n) [
      | inr many ↦ many
      | inl fewer ↦
          let m : ℕ = item_count path ms in
          let yes : has_value (path ++ index m ∷ []) ms ≡ true =
          stated_value (index m)
          (number_stated profile (entries_mentions 0 was.nested) m 0 was.nested
          (entries_of profile was.body was.nested fits was_valid) (entries_stated 0 was.nested rules.1) (omega arith)
          (omega (arith, fewer, puts.few))) in
          let no : has_value (path ++ index m ∷ []) ms ≡ false =
          (items_numbered profile s path fine.valid fine.obeys at).from_count m (omega arith) in
          let both : true ≡ false = sym yes ∙ no in
          absurd cc
    ]

    item_set : IsGivenValue Wide new → AllByRecursion IsUtf8 (keys_in (item_path path n))
        → MakesSet profile limit s (insert (item_path path n) new) path now c
    item_set good utf8 = record {
      of_entry = record { part = index n; is = refl; holds = at; given = good; utf8 = utf8 };
      allowed =
          unrefused profile limit path n new ms array_is enough (shallow (index n) new item_deep)
          (own new (subst (Within profile new) puts.is
          (subst (EachTo (Within profile new)) puts.by (item_within profile n new was.body was.nested fits))));
      sets = sets;
      same =
          same_by (put_at new n) (insert (item_path path n) new) puts.made
          (insert_there profile limit s path now c fine sets n new array_is) by_act puts.is;
    }

  -- ---- a keyval

  module _ (k : List ℕ) (new : Value) (puts : PutsKeyval was k new now) where
    table : is_inline was.body ≡ true
    table = table_body was.body (ap (λ (f : Fact). is_table_fact (Some f)) puts.inline)

    at_table : fact_at path ms ≡ Some fact.inline
    at_table = fact_here ∙ ap Some puts.inline

    by_keyval : put_keyval_at new k [] was ≡ Some puts.made
    by_keyval = done_at_end is_inline (put_named name_with 1 new) (key k ∷ []) was puts.made table puts.by

    keyval_deep : suc (value_depth new) ≤ value_depth now
    keyval_deep =
        subst (λ (v : Value). suc (value_depth new) ≤ value_depth v) puts.is
        (subst (EachTo (λ v. suc (value_depth new) ≤ value_depth v)) by_keyval (put_keyval_deep new k was table))

    -- nothing is there by the new key
    free : list_any (is_at (path ++ key k ∷ [])) ms ≡ false
    free =
        mentioned_by (path ++ key k ∷ []) ms
        ∙ ap (λ (l : List MentionKind). list_any (λ x. true) l)
        (made_there.kinds profile limit s path now c fine sets (key k) []
        ∙ ap (λ (v : Value). kinds_at (key k ∷ []) (mentions_of_value v)) same_value_there)
        ∙ sym (mentioned_by (key k ∷ []) (mentions_of_value was)) ∙ puts.free

    keyval_set : IsGivenValue Wide new → AllByRecursion IsUtf8 (keys_in (path ++ key k ∷ []))
        → MakesSet profile limit s (insert (path ++ key k ∷ []) new) path now c
    keyval_set good utf8 = record {
      of_entry = record { part = key k; is = refl; holds = at_table; given = good; utf8 = utf8 };
      allowed =
          keyval_unrefused profile limit path k new ms
          (node_alone path ms (alone_of_fact path ms fact.inline at_table refl))
          (inline_table path ms (rules_of_document s fine.obeys) at_table) free (shallow (key k) new keyval_deep)
          (own new (subst (Within profile new) puts.is
          (subst (EachTo (Within profile new)) puts.by (keyval_within profile k new was.body was.nested table))));
      sets = sets;
      same =
          same_by (put_keyval_at new k) (insert (path ++ key k ∷ []) new) puts.made
          (insert_keyval_there profile limit s path now c fine sets k new at_table free) by_keyval puts.is;
    }

  -- ---- an entry that goes

  module _ (part : Part) (takes : TakesEntry was part now) where
    out : IsRemoved profile (part ∷ []) was takes.made.to
    out =
        subst (EachTo (IsRemoved profile (part ∷ []) was)) takes.by
        (does_remove profile (part ∷ []) was was_valid)

    valued : has_value (path ++ part ∷ []) ms ≡ true
    valued =
        stated_value part (record {
          fact = body_fact out.out.body;
          is = taken_stated (part ∷ []) was.nested takes.made.to.nested out.out rules.1;
          valued = value_fact-body out.out.body;
        })

    taken_set : MakesSet profile limit s (remove (path ++ part ∷ [])) path now c
    taken_set = record {
      of_entry = record {
        part = part;
        is = refl;
        holds = subst (λ (o : Option Fact). CanHold o part) (sym fact_here)
            (can_hold profile was.body out.out.name out.out.number part
            (out.out.valid profile (place_in was.body) was_valid.nested).0 out.out.named);
        valued = valued;
      };
      allowed = removable profile limit path part ms valued;
      sets = sets;
      same =
          same_by (take_at part) (remove (path ++ part ∷ [])) takes.made
          (remove_there profile limit s path now c fine sets part valued)
          (done_at_end any_body removal (part ∷ []) was takes.made refl takes.by) takes.is;
    }

  -- ---- each edit

  abbrev Sets : Edit → Type 0
  Sets e = MakesSet profile limit s e path now c

  of_edit : (e : Edit) (part : Part) → path_of e ≡ path ++ part ∷ [] → AllByRecursion IsUtf8 (keys_in (path_of e))
      → IsGivenTo Wide e → MakesOfValue was e part now → Sets e
  of_edit (insert p new) (index n) is utf8 good makes =
      subst (λ (q : List Part). Sets (insert q new)) (sym is)
      (item_set n new makes good (subst (λ (q : List Part). AllByRecursion IsUtf8 (keys_in q)) is utf8))
  of_edit (insert p new) (key k) is utf8 good makes =
      subst (λ (q : List Part). Sets (insert q new)) (sym is)
      (keyval_set k new makes good (subst (λ (q : List Part). AllByRecursion IsUtf8 (keys_in q)) is utf8))
  of_edit (remove p) part is utf8 good makes =
      subst (λ (q : List Part). Sets (remove q)) (sym is) (taken_set part makes)
  of_edit (set p new) part is utf8 good makes = absurd makes
  of_edit (rename p name) part is utf8 good makes = absurd makes
  of_edit (append_table keys) part is utf8 good makes = absurd makes
  of_edit (append_element keys) part is utf8 good makes = absurd makes

pub entry_change_is_set : EntryChangeIsSet
entry_change_is_set profile limit s path part e was now c fine is utf8 good given bytes makes sets =
    of_edit profile limit s path was now c fine given bytes sets e part is utf8 good makes
