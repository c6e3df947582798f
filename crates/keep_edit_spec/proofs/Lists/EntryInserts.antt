-- An insert of an entry makes what the set of the value makes, also in a document where a value with the same text is,
-- at the same path or at another.
--
-- It makes the same (EntryMade). Nor is it refused there: of an item, since the array has as many items; of a keyval,
-- since its path names no node there either, and the value is an inline table too. It is not too deep, since the set
-- there is not, whose value is deeper than the entry by one (EntryDepth).
--
-- Theorems: `insert_allowed`, `insert_same`: of an item; `keyval_allowed`, `keyval_same`: of a keyval; `deeper`,
-- `shallow`: of the depth of an entry.
use Rattle.std.proofs.Common.{◌≡◌, ℕ, suc, ◌+◌, ◌≤◌, Bool, true, false, not, ◌&&◌, List, [], ◌∷◌, ◌++◌, length}
use Rattle.std.proofs.Common.{take, drop, refl, sym, ap, subst, ◌∙◌, arith, Some, None, inl, inr}
use Rattle.std.specs.List.{list_any}
use Rattle.std.proofs.lemmas.Bool.{cases_lt, le-ltb}
use Rattle.std.proofs.lemmas.List.{append-nil}
use Rattle.keep_types.specs.declared.leaf.Profile.{Profile}
use Rattle.keep_syntax.specs.Tree.{Body, Value, Document, text, value_depth}
use Rattle.keep_path.specs.Path.{Part, index, key}
use Rattle.keep_meaning.specs.Fact as fact
use Rattle.keep_meaning.specs.Fact.{Fact}
use Rattle.keep_meaning.specs.Marks.{Mention}
use Rattle.keep_meaning.specs.Meaning.{body_fact, mentions_in, mentions_of_value}
use Rattle.keep_meaning.specs.Nodes.{fact_at, is_at, is_node, is_root}
use Rattle.keep_edit_spec.specs.declared.fault.EditFault.{EditFault}
use Rattle.keep_edit_spec.specs.declared.fault.EditFault.TheVariants as fault
use Rattle.keep_edit_spec.specs.AddedItems.{item_path}
use Rattle.keep_edit_spec.specs.Edits.{Edit, edited_document, insert, set}
use Rattle.keep_edit_spec.specs.Laws.{IsEditable}
use Rattle.keep_edit_spec.specs.Look.{enclosing, holder, is_array_at, is_index, is_table, is_table_fact, item_count}
use Rattle.keep_edit_spec.specs.Refusals.{first_that_holds, has_value, is_foreign, is_too_deep, refusal, refusal_by}
use Rattle.keep_edit_spec.specs.SetValues.{SetsValue}
use Rattle.keep_edit_spec.specs.TextChanges.{TextChange}
use Rattle.keep_edit_spec.specs.Values.{Act}
use Rattle.keep_edit_spec.proofs.Common.Cuts.{without_last-snoc}
use Rattle.keep_edit_spec.proofs.Common.Marks.{rules_of_document}
use Rattle.keep_edit_spec.proofs.Common.SetLaw.{EachTo}
use Rattle.keep_edit_spec.proofs.Common.ValueThere.{alone_of_fact}
use Rattle.keep_edit_spec.proofs.Insert.BracesPlace.{is_inline, table_body}
use Rattle.keep_edit_spec.proofs.Insert.InsertWhole.{suits_there}
use Rattle.keep_edit_spec.proofs.Insert.ItemNumbers.{items_numbered}
use Rattle.keep_edit_spec.proofs.Insert.ItemThere.{IsGranted, array_body, granted}
use Rattle.keep_edit_spec.proofs.Insert.NewPath.{drop_prefix_parts, either_false}
use Rattle.keep_edit_spec.proofs.Lists.AtHolder.{inline_table, put_at, put_keyval_at}
use Rattle.keep_edit_spec.proofs.Lists.EntryActs.{holder_is, keyval_number, numbered}
use Rattle.keep_edit_spec.proofs.Lists.EntryDepth.{enclosing_entry, put_deep, put_keyval_deep}
use Rattle.keep_edit_spec.proofs.Lists.EntryMade.{IsMadeThere, facts, insert_keyval_there, insert_there, its, made_is}
use Rattle.keep_edit_spec.proofs.Lists.EntryMade.{same_fact, same_node, same_valued, still_same, there}
use Rattle.keep_edit_spec.proofs.Lists.MoreItems.{unrefused}
use Rattle.keep_edit_spec.proofs.Lists.SetAllowed.{node_alone}
use Rattle.keep_edit_spec.proofs.Set.SetIsLawful.{settable}

-- ---- the refusal of a keyval

not_there : (named indexed : Bool) (more : List (Bool × EditFault))
    → first_that_holds ((not named && indexed, fault.NotFound) ∷ (named, fault.Exists) ∷ more) ≡ None → named ≡ false
not_there false indexed more h = refl
not_there true indexed more h = absurd cc

-- a keyval that is not refused has a path that names no node
unnamed : (profile : Profile) (limit : ℕ) (a : List Part) (k : List ℕ) (new : Value) (ms : List Mention)
    → refusal_by profile limit ms (insert (a ++ key k ∷ []) new) ≡ None → list_any (is_at (a ++ key k ∷ [])) ms ≡ false
unnamed profile limit a k new ms allowed =
    either_false (is_root path) (list_any (is_at path) ms)
    (not_there (is_node path ms) (list_any is_index (drop (length (holder path ms)) path))
    ((not (is_table (holder path ms) ms), fault.NotTable) ∷ (is_too_deep limit path new ms, fault.TooDeep)
    ∷ (is_foreign profile new, fault.Profile) ∷ []) (rw (keyval_number a k ms, refusal_by) at allowed))
  where
    path : List Part
    path = a ++ key k ∷ []

pub no_root : (a : List Part) (p : Part) → is_root (a ++ p ∷ []) ≡ false
no_root [] p = refl
no_root (q ∷ a) p = refl

all_pass : (named indexed table deep foreign : Bool) → named ≡ false → indexed ≡ false → table ≡ true → deep ≡ false
    → foreign ≡ false
    → first_that_holds ((not named && indexed, fault.NotFound) ∷ (named, fault.Exists) ∷ (not table, fault.NotTable)
    ∷ (deep, fault.TooDeep) ∷ (foreign, fault.Profile) ∷ []) ≡ None
all_pass named indexed table deep foreign e f g h i = rw (e, f, g, h, i) refl

pub keyval_unrefused : (profile : Profile) (limit : ℕ) (a : List Part) (k : List ℕ) (new : Value) (ms : List Mention)
    → is_node a ms ≡ true → is_table a ms ≡ true → list_any (is_at (a ++ key k ∷ [])) ms ≡ false
    → is_too_deep limit (a ++ key k ∷ []) new ms ≡ false → is_foreign profile new ≡ false
    → refusal_by profile limit ms (insert (a ++ key k ∷ []) new) ≡ None
keyval_unrefused profile limit a k new ms node table free shallow own =
    rw (keyval_number a k ms, refusal_by)
    (all_pass (is_node path ms) (list_any is_index (drop (length (holder path ms)) path)) (is_table (holder path ms) ms)
    (is_too_deep limit path new ms) (is_foreign profile new) no_node no_index
    (ap (λ (h : List Part). is_table h ms) holds ∙ table) shallow own)
  where
    path : List Part
    path = a ++ key k ∷ []

    holds : holder (a ++ key k ∷ []) ms ≡ a
    holds = holder_is a (key k) ms node

    no_node : is_node (a ++ key k ∷ []) ms ≡ false
    no_node = rw (no_root a (key k), free) refl

    no_index : list_any is_index (drop (length (holder (a ++ key k ∷ []) ms)) (a ++ key k ∷ [])) ≡ false
    no_index =
        ap (λ (h : List Part). list_any is_index (drop (length h) (a ++ key k ∷ []))) holds
        ∙ ap (list_any is_index) (drop_prefix_parts a (key k ∷ []))

pub inline_body : (body : Body) → Some (body_fact body) ≡ Some fact.inline → is_inline body ≡ true
inline_body body e = table_body body (ap is_table_fact e)

-- ---- in another document

module _ (profile : Profile) (limit : ℕ) (s : Document) (a : List Part) (value : Value) (c : TextChange)
    (now : Document) (b : List Part) (d : TextChange) (fine : IsEditable profile limit s)
    (fine_now : IsEditable profile limit now)
    (h : SetsValue profile limit s a value c) (k : SetsValue profile limit now b value d)
    (same : take d.size (drop d.at (text now)) ≡ take c.size (drop c.at (text s))) where
  abbrev was : Value
  was = its profile limit s a value c fine h

  fact_was : (f : Fact) → fact_at a (mentions_in s) ≡ Some f → Some (body_fact was.body) ≡ Some f
  fact_was f at =
      sym (facts profile limit s a value c fine h [])
      ∙ ap (λ (p : List Part). fact_at p (mentions_in s)) (append-nil a) ∙ at

  -- the set's value is deeper than the entry
  pub deeper : (act : Act) (e : Edit) (new : Value)
      → IsMadeThere act was (there profile limit s a value c fine h).outer (edited_document s e)
      → edited_document s e ≡ edited_document s (set a value)
      → EachTo (λ u. suc (value_depth new) ≤ value_depth u) (act [] was) → suc (value_depth new) ≤ value_depth value
  deeper act e new x sets deep =
      subst (λ (u : Value). suc (value_depth new) ≤ value_depth u)
      (made_is profile limit s a value c now b d fine fine_now h k same act e x sets)
      (subst (EachTo (λ u. suc (value_depth new) ≤ value_depth u)) x.by deep)

  pub shallow : (p : Part) (new : Value) → suc (value_depth new) ≤ value_depth value
      → is_too_deep limit (b ++ p ∷ []) new (mentions_in now) ≡ false
  shallow p new deep =
      le-ltb limit (enclosing (b ++ p ∷ []) (mentions_in now) + value_depth new)
      (omega (
        arith,
        deep,
        (settable profile limit b value (mentions_in now) k.allowed).shallow,
        enclosing_entry b p (mentions_in now) (mentions_of_value (its profile limit now b value d fine_now k))
            (facts profile limit now b value d fine_now k),
      ))

  -- ---- an item

  module _ (n : ℕ) (new : Value) (at : fact_at a (mentions_in s) ≡ Some fact.array)
      (allowed : refusal profile limit s (insert (item_path a n) new) ≡ None)
      (sets : edited_document s (insert (item_path a n) new) ≡ edited_document s (set a value)) where
    array_is : is_array_at a (mentions_in s) ≡ true
    array_is = rw (at, is_array_at) refl

    at_now : fact_at b (mentions_in now) ≡ Some fact.array
    at_now = same_fact profile limit s a value c now b d fine fine_now h k same ∙ at

    array_now : is_array_at b (mentions_in now) ≡ true
    array_now = rw (at_now, is_array_at) refl

    before : IsMadeThere (put_at new n) was (there profile limit s a value c fine h).outer
        (edited_document s (insert (item_path a n) new))
    before = insert_there profile limit s a value c fine h n new array_is

    pub insert_same : edited_document now (insert (item_path b n) new) ≡ edited_document now (set b value)
    insert_same =
        still_same profile limit s a value c now b d fine fine_now h k same (put_at new n) (insert (item_path a n) new)
        before sets (insert (item_path b n) new)
        (insert_there profile limit now b value d fine_now k n new array_now)

    grant : IsGranted profile limit s (item_path a n) n new
    grant = granted profile limit s (item_path a n) n new (numbered a n (mentions_in s) array_is) allowed

    enough : n ≤ item_count b (mentions_in now)
    enough = elim (cases_lt (item_count b (mentions_in now)) n) [
      | inr many ↦ many
      | inl fewer ↦
          let m : ℕ = item_count b (mentions_in now) in
          let many : n ≤ item_count a (mentions_in s) =
          omega (
            arith,
            grant.few,
            ap (λ (p : List Part). item_count p (mentions_in s)) (without_last-snoc a (index n)),
          ) in
          let yes : has_value (item_path a m) (mentions_in s) ≡ true =
          (items_numbered profile s a fine.valid fine.obeys at).below_count m (omega (arith, fewer, many)) in
          let no : has_value (item_path b m) (mentions_in now) ≡ false =
          (items_numbered profile now b fine_now.valid fine_now.obeys at_now).from_count m (omega arith) in
          let both : true ≡ false =
          sym yes ∙ sym (same_valued profile limit s a value c now b d fine fine_now h k same (index m)) ∙ no in
          absurd cc
    ]

    pub insert_allowed : refusal profile limit now (insert (item_path b n) new) ≡ None
    insert_allowed =
        unrefused profile limit b n new (mentions_in now) array_now enough
        (shallow (index n) new (deeper (put_at new n) (insert (item_path a n) new) new before sets
        (put_deep new n was (array_body was.body (fact_was fact.array at)))))
        (ap not grant.suits)

  -- ---- a keyval

  module _ (key_is : List ℕ) (new : Value) (at : fact_at a (mentions_in s) ≡ Some fact.inline)
      (allowed : refusal profile limit s (insert (a ++ key key_is ∷ []) new) ≡ None)
      (sets : edited_document s (insert (a ++ key key_is ∷ []) new) ≡ edited_document s (set a value)) where
    abbrev path : List Part
    path = a ++ key key_is ∷ []

    abbrev path_now : List Part
    path_now = b ++ key key_is ∷ []

    inline_now : fact_at b (mentions_in now) ≡ Some fact.inline
    inline_now = same_fact profile limit s a value c now b d fine fine_now h k same ∙ at

    free : list_any (is_at path) (mentions_in s) ≡ false
    free = unnamed profile limit a key_is new (mentions_in s) allowed

    free_now : list_any (is_at path_now) (mentions_in now) ≡ false
    free_now = same_node profile limit s a value c now b d fine fine_now h k same (key key_is) ∙ free

    keyval_before : IsMadeThere (put_keyval_at new key_is) was (there profile limit s a value c fine h).outer
        (edited_document s (insert path new))
    keyval_before = insert_keyval_there profile limit s a value c fine h key_is new at free

    pub keyval_same : edited_document now (insert path_now new) ≡ edited_document now (set b value)
    keyval_same =
        still_same profile limit s a value c now b d fine fine_now h k same (put_keyval_at new key_is)
        (insert path new) keyval_before sets (insert path_now new)
        (insert_keyval_there profile limit now b value d fine_now k key_is new inline_now free_now)

    pub keyval_allowed : refusal profile limit now (insert path_now new) ≡ None
    keyval_allowed =
        keyval_unrefused profile limit b key_is new (mentions_in now)
        (node_alone b (mentions_in now) (alone_of_fact b (mentions_in now) fact.inline inline_now refl))
        (inline_table b (mentions_in now) (rules_of_document now fine_now.obeys) inline_now) free_now
        (shallow (key key_is) new (deeper (put_keyval_at new key_is) (insert path new) new keyval_before sets
        (put_keyval_deep new key_is was (inline_body was.body (fact_was fact.inline at)))))
        (ap not (suits_there profile limit s path new (keyval_number a key_is (mentions_in s)) allowed))
