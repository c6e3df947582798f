-- An edit of an entry makes the same of two documents in which the value that holds the entry has the same text, also
-- where the value has another path in the other one.
--
-- It is done at that value (EntryActs, ValueSet), which is the same in both documents, since a text is that of one
-- value. So if it makes of the value in one what the set of the value makes there, the edit of the entry in the other
-- does (`still_same`). The same is said at the path of the value and below it (`same_fact`, `same_kinds`, `same_node`).
--
-- Theorems: `made_by`: what is done at the value; `insert_there`, `insert_keyval_there`, `remove_there`: it is;
-- `still_same`; `made_is`, `facts`, `same_fact`, `same_kinds`, `same_node`.
use Rattle.std.proofs.Common.{◌≡◌, ℕ, Bool, true, false, List, [], ◌∷◌, ◌++◌, take, drop, refl, sym, ap}
use Rattle.std.proofs.Common.{◌∙◌, Option, Some, None}
use Rattle.std.specs.List.{list_any}
use Rattle.std.proofs.lemmas.List.{append-nil}
use Rattle.keep_types.specs.declared.leaf.Profile.{Profile}
use Rattle.keep_syntax.specs.Tree.{Value, Document, text}
use Rattle.keep_syntax.proofs.Shared.{one_value}
use Rattle.keep_path.specs.Path.{Part, index, key}
use Rattle.keep_meaning.specs.Fact as fact
use Rattle.keep_meaning.specs.Fact.{Fact, is_value_fact}
use Rattle.keep_meaning.specs.Marks.{Mention, MentionKind}
use Rattle.keep_meaning.specs.Meaning.{mentions_in, mentions_of_value}
use Rattle.keep_meaning.specs.Nodes.{fact_at, is_at, kinds_at}
use Rattle.keep_edit_spec.specs.AddedItems.{item_path}
use Rattle.keep_edit_spec.specs.Changed.{Changed, framed_change, within}
use Rattle.keep_edit_spec.specs.Edits.{Edit, changed_or_same, edited_document, insert, name_with, nested, remove, set}
use Rattle.keep_edit_spec.specs.Laws.{IsEditable}
use Rattle.keep_edit_spec.specs.Look.{is_array_at}
use Rattle.keep_edit_spec.specs.Refusals.{has_value}
use Rattle.keep_edit_spec.specs.SetValues.{SetsValue}
use Rattle.keep_edit_spec.specs.TextChanges.{TextChange}
use Rattle.keep_edit_spec.specs.Values.{Act, put_item, put_named, removal}
use Rattle.keep_edit_spec.proofs.Common.DoneAtValue.{IsAtEnd}
use Rattle.keep_edit_spec.proofs.Common.FoundValue.{Valid_document}
use Rattle.keep_edit_spec.proofs.Common.ValueThere.{CanBeDone, the_some}
use Rattle.keep_edit_spec.proofs.Insert.BracesPlace.{is_inline}
use Rattle.keep_edit_spec.proofs.Insert.DoneThere.{can_ended}
use Rattle.keep_edit_spec.proofs.Insert.ItemThere.{array_at, is_array}
use Rattle.keep_edit_spec.proofs.Lists.AtHolder.{any_body, put_at, put_keyval_at, take_at}
use Rattle.keep_edit_spec.proofs.Lists.EntryActs.{inserted, inserted_keyval, removed_entry}
use Rattle.keep_edit_spec.proofs.Lists.OneValue.{IsAtValue, makes_there}
use Rattle.keep_edit_spec.proofs.Lists.ValueSet as value_set
use Rattle.keep_edit_spec.proofs.Set.SetIsLawful.{settable}

-- ---- what an act at the value makes

pub record IsMadeThere (act : Act) (v : Value) (outer : Value → Document) (to : Document) : Type 0 where
  pub made : Changed Value
  pub by : act [] v ≡ Some made
  pub to_is : to ≡ outer made.to

abbrev pub value_of : Option Fact → Bool
value_of o = elim o [ None ↦ false | Some f ↦ is_value_fact f ]

module _ (profile : Profile) (limit : ℕ) (s : Document) (a : List Part) (value : Value) (c : TextChange)
    (fine : IsEditable profile limit s) (h : SetsValue profile limit s a value c) where
  abbrev pub there : IsAtValue (Valid_document s) (λ t act. nested act a t) s
  there = value_set.there profile limit s a value c fine h

  abbrev pub its : Value
  its = there.value

  pub facts : (q : List Part) → fact_at (a ++ q) (mentions_in s) ≡ fact_at q (mentions_of_value its)
  facts = value_set.facts profile limit s a value c fine h

  pub kinds : (p : Part) (ps : List Part)
      → kinds_at (a ++ p ∷ ps) (mentions_in s) ≡ kinds_at (p ∷ ps) (mentions_of_value its)
  kinds = value_set.kinds profile limit s a value c fine h

  pub made_by : (act : Act) → IsAtEnd act → CanBeDone act → (e : Edit)
      → ((x : Changed Document) → nested act a s ≡ Some x → edited_document s e ≡ x.to)
      → IsMadeThere act its there.outer (edited_document s e)
  made_by act ends can e does =
      let (m, is) = the_some (act [] its) (can its) in
      record {
        made = m;
        by = is;
        to_is = does (framed_change there.outer there.left there.right m)
            (makes_there there act ends can ∙ ap (within there.outer there.left there.right) is);
      }

  pub insert_there : (n : ℕ) (new : Value) → is_array_at a (mentions_in s) ≡ true
      → IsMadeThere (put_at new n) its there.outer (edited_document s (insert (item_path a n) new))
  insert_there n new array_is =
      made_by (put_at new n) (λ p ps v. refl) (can_ended is_array (put_item new) (index n ∷ []))
      (insert (item_path a n) new)
      (λ x e. ap (λ (o : Option (Changed Document)). (changed_or_same s o).to)
      (inserted profile limit s a n new x fine array_is (array_at a (mentions_in s) array_is) e))

  pub insert_keyval_there : (k : List ℕ) (new : Value) → fact_at a (mentions_in s) ≡ Some fact.inline
      → list_any (is_at (a ++ key k ∷ [])) (mentions_in s) ≡ false
      → IsMadeThere (put_keyval_at new k) its there.outer (edited_document s (insert (a ++ key k ∷ []) new))
  insert_keyval_there k new at free =
      made_by (put_keyval_at new k) (λ p ps v. refl)
      (can_ended is_inline (put_named name_with 1 new) (key k ∷ [])) (insert (a ++ key k ∷ []) new)
      (λ x e. ap (λ (o : Option (Changed Document)). (changed_or_same s o).to)
      (inserted_keyval profile limit s a k new x fine at free e))

  pub holder_valued : has_value a (mentions_in s) ≡ true
  holder_valued = (settable profile limit a value (mentions_in s) h.allowed).valued

  pub remove_there : (p : Part) → has_value (a ++ p ∷ []) (mentions_in s) ≡ true
      → IsMadeThere (take_at p) its there.outer (edited_document s (remove (a ++ p ∷ [])))
  remove_there p valued =
      made_by (take_at p) (λ q qs v. refl) (can_ended any_body removal (p ∷ [])) (remove (a ++ p ∷ []))
      (λ x e. ap (λ (o : Option (Changed Document)). (changed_or_same s o).to)
      (removed_entry profile limit s a p x fine holder_valued valued e))

-- ---- what is mentioned

pub mentioned_by : (q : List Part) (ms : List Mention) → list_any (is_at q) ms ≡ list_any (λ k. true) (kinds_at q ms)
mentioned_by q [] = refl
mentioned_by q (m ∷ ms) = by (is_at q m) refl (mentioned_by q ms)
  where
    by : (b : Bool) → is_at q m ≡ b
        → list_any (is_at q) ms ≡ list_any (λ (k : MentionKind). true) (kinds_at q ms)
        → list_any (is_at q) (m ∷ ms) ≡ list_any (λ (k : MentionKind). true) (kinds_at q (m ∷ ms))
    by true e more = rw e refl
    by false e more = rw e more

-- ---- in another document

module _ (profile : Profile) (limit : ℕ) (s : Document) (a : List Part) (value : Value) (c : TextChange)
    (now : Document) (b : List Part) (d : TextChange) (fine : IsEditable profile limit s)
    (fine_now : IsEditable profile limit now)
    (h : SetsValue profile limit s a value c) (k : SetsValue profile limit now b value d)
    (same : take d.size (drop d.at (text now)) ≡ take c.size (drop c.at (text s))) where
  abbrev was : Value
  was = its profile limit s a value c fine h

  abbrev is_now : Value
  is_now = its profile limit now b value d fine_now k

  same_values : is_now ≡ was
  same_values =
      one_value profile is_now was (value_set.old_valid profile limit now b value d fine_now k)
      (value_set.old_valid profile limit s a value c fine h)
      (sym (value_set.bytes profile limit now b value d fine_now k) ∙ same
      ∙ value_set.bytes profile limit s a value c fine h)

  same_below : (q : List Part) → fact_at (b ++ q) (mentions_in now) ≡ fact_at (a ++ q) (mentions_in s)
  same_below q =
      facts profile limit now b value d fine_now k q
      ∙ ap (λ (v : Value). fact_at q (mentions_of_value v)) same_values ∙ sym (facts profile limit s a value c fine h q)

  pub same_fact : fact_at b (mentions_in now) ≡ fact_at a (mentions_in s)
  same_fact =
      ap (λ (p : List Part). fact_at p (mentions_in now)) (sym (append-nil b)) ∙ same_below []
      ∙ ap (λ (p : List Part). fact_at p (mentions_in s)) (append-nil a)

  pub same_valued : (p : Part)
      → has_value (b ++ p ∷ []) (mentions_in now) ≡ has_value (a ++ p ∷ []) (mentions_in s)
  same_valued p = ap value_of (same_below (p ∷ []))

  pub same_kinds : (p : Part) → kinds_at (b ++ p ∷ []) (mentions_in now) ≡ kinds_at (a ++ p ∷ []) (mentions_in s)
  same_kinds p =
      kinds profile limit now b value d fine_now k p []
      ∙ ap (λ (v : Value). kinds_at (p ∷ []) (mentions_of_value v)) same_values
      ∙ sym (kinds profile limit s a value c fine h p [])

  pub same_node : (p : Part)
      → list_any (is_at (b ++ p ∷ [])) (mentions_in now) ≡ list_any (is_at (a ++ p ∷ [])) (mentions_in s)
  same_node p =
      mentioned_by (b ++ p ∷ []) (mentions_in now)
      ∙ ap (λ (l : List MentionKind). list_any (λ x. true) l) (same_kinds p)
      ∙ sym (mentioned_by (a ++ p ∷ []) (mentions_in s))

  module _ (act : Act) (e : Edit)
      (x : IsMadeThere act was (there profile limit s a value c fine h).outer (edited_document s e))
      (sets : edited_document s e ≡ edited_document s (set a value)) where
    -- the set's value
    pub made_is : x.made.to ≡ value
    made_is =
        (there profile limit s a value c fine h).one x.made.to value
        (sym x.to_is ∙ sets ∙ value_set.edited_is profile limit s a value c fine h)

    pub still_same : (f : Edit)
        → IsMadeThere act is_now (there profile limit now b value d fine_now k).outer (edited_document now f)
        → edited_document now f ≡ edited_document now (set b value)
    still_same f y =
        let both : Some y.made ≡ Some x.made = sym y.by ∙ ap (act []) same_values ∙ x.by in
        let alike : y.made ≡ x.made = cc in
        y.to_is
        ∙ ap (there profile limit now b value d fine_now k).outer (ap (λ (m : Changed Value). m.to) alike ∙ made_is)
        ∙ sym (value_set.edited_is profile limit now b value d fine_now k)
