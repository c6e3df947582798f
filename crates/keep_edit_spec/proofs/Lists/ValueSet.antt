-- The value that a set replaces, and what is known of it: its text and the facts in it, and the document with another
-- value in its place.
--
-- All acts at the end of the path are done at one value (OneValue), and so is the set. It replaces the whole text of
-- the value (`bytes`). The search for it finds the same text, and what is said there (`found`), and a text is that of
-- one value.
--
-- Theorems: `there`, `bytes`, `edited_is`, `facts`, `kinds`.
use Rattle.std.proofs.Common.{◌≡◌, ℕ, List, [], ◌∷◌, ◌++◌, length, take, drop, refl, sym, ap, subst, ◌∙◌}
use Rattle.std.proofs.Common.{arith, take_at, drop_at, Option, Some, None, ◌⊎◌, inl, inr}
use Rattle.std.proofs.lemmas.List.{append-nil}
use Rattle.std.proofs.lemmas.Option.{same_Some}
use Rattle.keep_types.specs.declared.leaf.Profile.{Profile}
use Rattle.keep_syntax.specs.Tree.{Value, Document, text, value_text}
use Rattle.keep_syntax.specs.Grammar.{IsValue}
use Rattle.keep_syntax.specs.Numbered as syntax
use Rattle.keep_syntax.proofs.Shared.{one_value}
use Rattle.keep_path.specs.Path.{Part}
use Rattle.keep_meaning.specs.Meaning.{mentions_in, mentions_of_value}
use Rattle.keep_meaning.specs.Nodes.{fact_at, kinds_at}
use Rattle.keep_edit_spec.specs.Changed.{Changed, IsChangeOf, Place, framed_change, place_of}
use Rattle.keep_edit_spec.specs.Edits.{change, changed_or_same, edited_document, nested, set}
use Rattle.keep_edit_spec.specs.Laws.{IsEditable, IsLawfulEdit}
use Rattle.keep_edit_spec.specs.SetValues.{SetsValue}
use Rattle.keep_edit_spec.specs.TextChanges.{TextChange, place_of_change}
use Rattle.keep_edit_spec.specs.Values.{Act, replacement}
use Rattle.keep_edit_spec.proofs.EditLaws.{set_lawful}
use Rattle.keep_edit_spec.proofs.Common.Texts.{EachIs}
use Rattle.keep_edit_spec.proofs.Common.LineTexts.{change-is}
use Rattle.keep_edit_spec.proofs.Common.Marks.{rules_of_document}
use Rattle.keep_edit_spec.proofs.Common.DoneAtValue.{EachOf}
use Rattle.keep_edit_spec.proofs.Common.FoundValue.{IsFoundIn, Valid_document, found_nested}
use Rattle.keep_edit_spec.proofs.Insert.FoundThere.{found_facts, found_kinds}
use Rattle.keep_edit_spec.proofs.Lists.OneValue.{IsAtValue, MakeNothing, makes_there, one_value_at}

-- a part of a text, by its place
part_is : (before part after bytes : List ℕ) (at size : ℕ) → bytes ≡ before ++ (part ++ after) → at ≡ length before
    → size ≡ length part → take size (drop at bytes) ≡ part
part_is before part after bytes at size is start long =
    ap (λ (b : List ℕ). take size (drop at b)) is
    ∙ ap (take size) (drop_at before (part ++ after) at (sym start)) ∙ take_at part after size (sym long)

module _ (profile : Profile) (limit : ℕ) (s : Document) (path : List Part) (value : Value) (c : TextChange)
    (fine : IsEditable profile limit s) (h : SetsValue profile limit s path value c) where
  lawful : IsLawfulEdit profile limit s (set path value)
  lawful = set_lawful profile limit s path value fine h.given h.allowed

  abbrev its : Document → Act → Option (Changed Document)
  its t act = nested act path t

  pub there : IsAtValue (Valid_document s) its s
  there = by (one_value_at path s)
    where
      by : MakeNothing its s ⊎ IsAtValue (Valid_document s) its s → IsAtValue (Valid_document s) its s
      by (inr k) = k
      by (inl nothing) =
          let none : None ≡ Some lawful.changed =
          sym (nothing (replacement value) (λ p ps v. refl) (λ v. tt)) ∙ lawful.is in
          absurd cc

  abbrev old : Value
  old = there.value

  pub old_valid : IsValue profile old
  old_valid = there.valid profile fine.valid

  abbrev made : Changed Document
  made = framed_change there.outer there.left there.right (record {
    to = value;
    before = [];
    old = value_text old;
    new = value_text value;
    after = [];
  })

  is : change s (set path value) ≡ Some made
  is = makes_there there (replacement value) (λ p ps v. refl) (λ v. tt)

  pub edited_is : edited_document s (set path value) ≡ there.outer value
  edited_is = ap (λ (o : Option (Changed Document)). (changed_or_same s o).to) is

  place_is : place_of_change c ≡ place_of made
  place_is = sym h.is ∙ ap (λ (o : Option (Changed Document)). place_of (changed_or_same s o)) is

  pub bytes : take c.size (drop c.at (text s)) ≡ value_text old
  bytes =
      let cut : IsChangeOf text s made =
      subst (λ (o : Option (Changed Document)). EachIs text s o) is (change-is s (set path value)) in
      part_is made.before (value_text old) made.after (text s) c.at c.size cut.was
      (ap (λ (p : Place). p.start) place_is)
      (omega (arith, ap (λ (p : Place). p.start) place_is, ap (λ (p : Place). p.end) place_is))

  -- ---- the facts

  found : IsFoundIn (replacement value) (Valid_document s) 0 path (mentions_in s) (syntax.values s) made
  found =
      subst (EachOf (IsFoundIn (replacement value) (Valid_document s) 0 path (mentions_in s) (syntax.values s))) is
      (found_nested (replacement value) path s)

  -- that search is for the same value
  record IsOld (k : IsFoundIn (replacement value) (Valid_document s) 0 path (mentions_in s) (syntax.values s) made)
      : Type 0 where
    at : k.mention.path ≡ path
    same : k.value ≡ old

  old_by : (k : IsFoundIn (replacement value) (Valid_document s) 0 path (mentions_in s) (syntax.values s) made)
      → (more : List Part) → k.more ≡ more → IsOld k
  old_by k (p ∷ ps) e =
      let none : None ≡ Some k.done = ap (λ (x : List Part). replacement value x k.value) (sym e) ∙ k.by in absurd cc
  old_by k [] e =
      let place : k.mention.path ≡ path =
      sym (append-nil k.mention.path) ∙ ap (λ (x : List Part). k.mention.path ++ x) (sym e) ∙ sym k.place in
      let done : (record {
        to = value;
        before = [];
        old = value_text k.value;
        new = value_text value;
        after = [];
      }) ≡ k.done =
      same_Some _ k.done (ap (λ (x : List Part). replacement value x k.value) (sym e) ∙ k.by) in
      let spelled : value_text k.value ≡ value_text old =
      ap (λ (x : Changed Value). x.old) done ∙ sym k.old in
      record { at = place; same = one_value profile k.value old (k.valid profile fine.valid) old_valid spelled }

  is_old : IsOld found
  is_old = old_by found found.more refl

  pub facts : (q : List Part) → fact_at (path ++ q) (mentions_in s) ≡ fact_at q (mentions_of_value old)
  facts q =
      found_facts (replacement value) path s made found is_old.at (rules_of_document s fine.obeys) q
      ∙ ap (λ (v : Value). fact_at q (mentions_of_value v)) is_old.same

  pub kinds : (p : Part) (ps : List Part)
      → kinds_at (path ++ p ∷ ps) (mentions_in s) ≡ kinds_at (p ∷ ps) (mentions_of_value old)
  kinds p ps =
      found_kinds (replacement value) path s made found is_old.at (rules_of_document s fine.obeys) p ps
      ∙ ap (λ (v : Value). kinds_at (p ∷ ps) (mentions_of_value v)) is_old.same
