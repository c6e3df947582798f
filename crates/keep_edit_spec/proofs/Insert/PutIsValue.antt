-- An item put into an array, and a keyval put into an inline table, make a value: of the grammar, by the rules of
-- definition, and as deep as the value was or as one level around what was put in.
--
-- What comes in is known for the law of inserts in documents (PutValue, ItemPut). Here the rules are shown of the value
-- alone. Those of an array are as after an item was taken out, in reverse. In an inline table nothing is at or under
-- the new key, since what is mentioned under a path comes with a mention of it (`fresh_key`), so the keyval may be
-- beside all that is there. The depth is an equation here: an entry that is put in takes none away (`before_deepens`,
-- `after_deepens`, by induction over the entries).
--
-- Theorems: `put_item_is_value`, `put_keyval_is_value`.
use Rattle.std.proofs.Common.{◌≡◌, ℕ, zero, suc, ◌+◌, ◌≤◌, true, false, List, [], ◌∷◌, ◌++◌, map, refl, sym, ap}
use Rattle.std.proofs.Common.{subst, ◌∙◌, arith, Option, Some, None}
use Rattle.std.specs.Prelude.{codes, max}
use Rattle.std.specs.List.{list_any}
use Rattle.keep_types.specs.declared.leaf.Profile.{Profile}
use Rattle.keep_syntax.specs.Tree.{Body, Gap, Name, Value, array, inline, scalar, Entries, none, entry, entries_depth}
use Rattle.keep_syntax.specs.Tree.{comma_leaves, text_of, value_depth}
use Rattle.keep_syntax.specs.Grammar.{IsName, IsValue, in_inline}
use Rattle.keep_path.specs.Path.{index, key}
use Rattle.keep_meaning.specs.Fact.{Fact}
use Rattle.keep_meaning.specs.Marks.{Mention, item, value}
use Rattle.keep_meaning.specs.Meaning.{body_fact, entries_mentions, further_value, key_value, keyval_mentions}
use Rattle.keep_meaning.specs.Meaning.{mentions_of_value, valued_mentions}
use Rattle.keep_meaning.specs.Nodes.{is_at}
use Rattle.keep_edit_spec.specs.Changed.{Changed, or_else, within}
use Rattle.keep_edit_spec.specs.Edits.{name_with}
use Rattle.keep_edit_spec.specs.EntryChanges.{PutItemIsValue, PutKeyvalIsValue, entry_count}
use Rattle.keep_edit_spec.specs.Laws.{IsGivenValue}
use Rattle.keep_edit_spec.specs.Look.{is_table_fact}
use Rattle.keep_edit_spec.specs.Values.{entry_prefix, put_after, put_before, put_item, put_named}
use Rattle.keep_edit_spec.proofs.Common.Bridge.{obeys_from_rules}
use Rattle.keep_edit_spec.proofs.Common.InsertLaw.{keyed_under, rules_keyval, some_named}
use Rattle.keep_edit_spec.proofs.Common.Marks.{rules_of_value}
use Rattle.keep_edit_spec.proofs.Common.NewLines.{IsKeyText, valid_name}
use Rattle.keep_edit_spec.proofs.Common.Runs.{AllOf, IsDisjoint, IsUnder, Rules, all_left, all_right, rules_replaced}
use Rattle.keep_edit_spec.proofs.Common.SetLaw.{EachTo, closed_cons, closed_entries, disjoint_closed, to_or_else}
use Rattle.keep_edit_spec.proofs.Common.SetLaw.{to_within}
use Rattle.keep_edit_spec.proofs.Insert.BracesPlace.{entries_inline, is_inline, table_body}
use Rattle.keep_edit_spec.proofs.Insert.ItemPut.{put_out, put_rules}
use Rattle.keep_edit_spec.proofs.Insert.ItemThere.{array_body, is_array}
use Rattle.keep_edit_spec.proofs.Insert.PutIn.{size}
use Rattle.keep_edit_spec.proofs.Insert.PutValue.{IsItemPut, IsNamedPut, item_put, named_put, valid_item, valid_named}
use Rattle.keep_edit_spec.proofs.Remove.RemoveInValue.{renumbered}
use Rattle.keep_edit_spec.proofs.Rename.KeyTexts.{key_text}

-- ---- how deep it gets

abbrev Deepens : Value → Entries → Entries → Type 0
Deepens new es fs = entries_depth fs ≡ max (entries_depth es) (value_depth new)

before_deepens : (new : Value) (m : ℕ) (es : Entries) → EachTo (Deepens new es) (put_before m new es)
before_deepens new m none = tt
before_deepens new zero (entry name body nested after comma rest) = omega arith
before_deepens new (suc m) (entry name body nested after comma rest) =
    to_within (Deepens new rest) (Deepens new (entry name body nested after comma rest))
    (entry name body nested after comma)
    (entry_prefix name body nested ++ (text_of after ++ text_of (comma_leaves comma))) [] (put_before m new rest)
    (λ es h. omega (arith, h)) (before_deepens new m rest)

after_deepens : (named : Option Name) (new : Value) (es : Entries)
    → EachTo (Deepens new es) (put_after [] named new es)
after_deepens named new none = tt
after_deepens named new (entry name body nested after comma rest) =
    to_or_else (Deepens new (entry name body nested after comma rest))
    (within (entry name body nested after comma)
    (entry_prefix name body nested ++ (text_of after ++ text_of (comma_leaves comma))) []
    (put_after [] named new rest)) (Some _)
    (to_within (Deepens new rest) (Deepens new (entry name body nested after comma rest))
    (entry name body nested after comma)
    (entry_prefix name body nested ++ (text_of after ++ text_of (comma_leaves comma))) []
    (put_after [] named new rest) (λ es h. omega (arith, h)) (after_deepens named new rest))
    (omega arith)

abbrev IsDeepened : Value → Value → Value → Type 0
IsDeepened new old now = value_depth now ≡ max (value_depth old) (suc (value_depth new))

item_deepens : (new : Value) (n : ℕ) (first : Gap) (nested : Entries)
    → EachTo (IsDeepened new (record { body = array first; nested = nested }))
    (put_item new (index n ∷ []) (record { body = array first; nested = nested }))
item_deepens new n first none = omega arith
item_deepens new n first (entry name body nested after comma rest) =
    let es : Entries = entry name body nested after comma rest in
    to_within (Deepens new es) (IsDeepened new (record { body = array first; nested = es }))
    (λ fs. record { body = array first; nested = fs }) (codes "[" ++ text_of first) (codes "]")
    (or_else (put_before n new es) (put_after [] None new es)) (λ fs h. omega (arith, h))
    (to_or_else (Deepens new es) (put_before n new es) (put_after [] None new es) (before_deepens new n es)
    (after_deepens None new es))

keyval_deepens : (new : Value) (k : List ℕ) (first : Gap) (nested : Entries)
    → EachTo (IsDeepened new (record { body = inline first; nested = nested }))
    (put_named name_with 1 new (key k ∷ []) (record { body = inline first; nested = nested }))
keyval_deepens new k first none = omega arith
keyval_deepens new k first (entry name body nested after comma rest) =
    let es : Entries = entry name body nested after comma rest in
    let named : Option Name = Some (name_with (k ∷ [])) in
    to_within (Deepens new es) (IsDeepened new (record { body = inline first; nested = es }))
    (λ fs. record { body = inline first; nested = fs }) (codes "{" ++ text_of first) (codes "}")
    (put_after [] named new es) (λ fs h. omega (arith, h)) (after_deepens named new es)

-- ---- an item

counted : (es : Entries) → entry_count es ≡ size es
counted none = refl
counted (entry name body nested after comma rest) = ap suc (counted rest)

record IsItemOf (profile : Profile) (n : ℕ) (new old now : Value) : Type 0 where
  put : IsItemPut new n old now
  valid : IsValue profile now
  deep : IsDeepened new old now

item_of : (profile : Profile) (n : ℕ) (new : Value) (body : Body) (nested : Entries) (made : Changed Value)
    → is_array body ≡ true → n ≤ size nested → IsValue profile new
    → IsValue profile (record { body = body; nested = nested })
    → put_item new (index n ∷ []) (record { body = body; nested = nested }) ≡ Some made
    → IsItemOf profile n new (record { body = body; nested = nested }) made.to
item_of profile n new (array first) nested made e few given valid is = record {
  put = subst (EachTo (IsItemPut new n (record { body = array first; nested = nested }))) is
      (item_put new n first nested few);
  valid = subst (EachTo (IsValue profile)) is (valid_item profile new n first nested given valid);
  deep = subst (EachTo (IsDeepened new (record { body = array first; nested = nested }))) is
      (item_deepens new n first nested);
}
item_of profile n new (scalar w) nested made e few given valid is = absurd cc
item_of profile n new (inline first) nested made e few given valid is = absurd cc

item_rules : (n : ℕ) (new old now : Value) → IsItemPut new n old now → Rules (mentions_of_value new)
    → Rules (mentions_of_value old) → Rules (mentions_of_value now)
item_rules n new old now put given rules =
    let out = put_out new n old.nested now.nested put.item in
    subst (λ (f : Fact). Rules (valued_mentions (item f) (entries_mentions 0 now.nested))) (sym put.fact)
    (put_rules new n (item (body_fact old.body)) old.nested now.nested out.0 out.1 given rules)

pub put_item_is_value : PutItemIsValue
put_item_is_value profile was n new now given given_new puts =
    let one : IsItemOf profile n new was puts.made.to =
    item_of profile n new was.body was.nested puts.made (array_body was.body (ap Some puts.array))
    (omega (arith, puts.few, counted was.nested)) given_new.valid given.valid puts.by in
    let rules : Rules (mentions_of_value puts.made.to) =
    item_rules n new was puts.made.to one.put (rules_of_value new given_new.obeys) (rules_of_value was given.obeys) in
    subst (λ (v : Value). IsGivenValue profile v × IsDeepened new was v) puts.is (
      record { valid = one.valid; obeys = obeys_from_rules (mentions_of_value puts.made.to) rules },
      one.deep,
    )

-- ---- a keyval

record IsKeyvalOf (profile : Profile) (k : List ℕ) (new old now : Value) : Type 0 where
  put : IsNamedPut [] (name_with (k ∷ [])) new old now
  valid : IsValue profile now
  deep : IsDeepened new old now

keyval_of : (profile : Profile) (k : List ℕ) (new : Value) (body : Body) (nested : Entries) (made : Changed Value)
    → is_inline body ≡ true → IsName profile (name_with (k ∷ [])) → IsValue profile new
    → IsValue profile (record { body = body; nested = nested })
    → put_named name_with 1 new (key k ∷ []) (record { body = body; nested = nested }) ≡ Some made
    → IsKeyvalOf profile k new (record { body = body; nested = nested }) made.to
keyval_of profile k new (inline first) nested made e named given valid is = record {
  put = subst (EachTo (IsNamedPut [] (name_with (k ∷ [])) new (record { body = inline first; nested = nested }))) is
      (named_put name_with 1 new (key k ∷ []) first nested);
  valid = subst (EachTo (IsValue profile)) is
      (valid_named profile name_with 1 new (key k ∷ []) first nested named given valid);
  deep = subst (EachTo (IsDeepened new (record { body = inline first; nested = nested }))) is
      (keyval_deepens new k first nested);
}
keyval_of profile k new (scalar w) nested made e named given valid is = absurd cc
keyval_of profile k new (array first) nested made e named given valid is = absurd cc

-- nothing is at or under a path of one key that nothing in the value has
fresh_key : (v : Value) (k : List ℕ) → list_any (is_at (key k ∷ [])) (mentions_of_value v) ≡ false
    → AllOf (IsDisjoint (key k ∷ [])) (mentions_of_value v)
fresh_key v k free =
    disjoint_closed (key k ∷ []) (mentions_of_value v) (mentions_of_value v)
    (closed_cons (item (body_fact v.body)) (entries_mentions 0 v.nested) (closed_entries 0 v.nested) (key k) [])
    (λ s. let there : list_any (is_at (key k ∷ [])) (mentions_of_value v) ≡ true =
    some_named (key k ∷ []) (mentions_of_value v) s in
    let both : true ≡ false = sym there ∙ free in
    cc)

module _ (profile : Profile) (k : List ℕ) (new old now : Value) (text : IsKeyText profile k)
    (put : IsNamedPut [] (name_with (k ∷ [])) new old now) (table : is_inline old.body ≡ true)
    (valid : IsValue profile old) (free : list_any (is_at (key k ∷ [])) (mentions_of_value old) ≡ false) where
  abbrev name : Name
  name = name_with (k ∷ [])

  abbrev before : List Mention
  before = record { path = []; kind = item (body_fact old.body) } ∷ put.put.before

  abbrev after : List Mention
  after = entries_mentions put.put.number put.put.rest

  was : mentions_of_value old ≡ before ++ after
  was = ap (λ (l : List Mention). record { path = []; kind = item (body_fact old.body) } ∷ l) put.put.was

  same : entries_mentions (put.put.number + 1) put.put.rest ≡ after
  same =
      renumbered profile in_inline name put.put.rest (put.put.number + 1) put.put.number
      (valid_name profile k [] (text, tt)) (put.put.valid profile in_inline (entries_inline profile old table valid))

  is : mentions_of_value now ≡ before ++ (keyval_mentions name new ++ after)
  is =
      ap (λ (f : Fact). valued_mentions (item f) (entries_mentions 0 now.nested)) put.fact
      ∙ ap (λ (l : List Mention). record { path = []; kind = item (body_fact old.body) } ∷ l)
      (put.put.is ∙ ap (λ (l : List Mention). put.put.before ++ (keyval_mentions name new ++ l)) same)

  under : AllOf (IsUnder (key k ∷ [])) (keyval_mentions name new)
  under =
      subst (λ (x : List ℕ). AllOf (IsUnder (key x ∷ [])) (keyval_mentions name new)) text.means
      (keyed_under (key_value name.key.first) (map further_value name.key.more)
      (valued_mentions (value (body_fact new.body)) (entries_mentions 0 new.nested)))

  keyval_rules : Rules (mentions_of_value new) → Rules (mentions_of_value old) → Rules (mentions_of_value now)
  keyval_rules given rules =
      let both : AllOf (IsDisjoint (key k ∷ [])) (before ++ after) =
      subst (AllOf (IsDisjoint (key k ∷ []))) was (fresh_key old k free) in
      subst Rules (sym is)
      (rules_replaced (key k ∷ []) before [] (keyval_mentions name new) after (subst Rules was rules)
      (all_left (IsDisjoint (key k ∷ [])) before after both) (all_right (IsDisjoint (key k ∷ [])) before after both)
      under (rules_keyval name new given))

pub put_keyval_is_value : PutKeyvalIsValue
put_keyval_is_value profile was k new now given given_new puts =
    let text : IsKeyText profile k = key_text profile k puts.utf8 in
    let table : is_inline was.body ≡ true =
    table_body was.body (ap (λ (f : Fact). is_table_fact (Some f)) puts.inline) in
    let one : IsKeyvalOf profile k new was puts.made.to =
    keyval_of profile k new was.body was.nested puts.made table (valid_name profile k [] (text, tt)) given_new.valid
    given.valid puts.by in
    let rules : Rules (mentions_of_value puts.made.to) =
    keyval_rules profile k new was puts.made.to text one.put table given.valid puts.free
    (rules_of_value new given_new.obeys) (rules_of_value was given.obeys) in
    subst (λ (v : Value). IsGivenValue profile v × IsDeepened new was v) puts.is (
      record { valid = one.valid; obeys = obeys_from_rules (mentions_of_value puts.made.to) rules },
      one.deep,
    )
