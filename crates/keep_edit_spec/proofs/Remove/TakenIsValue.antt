-- A value without one of its entries is a value: of the grammar, by the rules of definition, and no deeper.
--
-- What goes are the mentions of the entry (TakenOut). Of an array the items after it have numbers one lower, by which
-- no two paths become one; of an inline table all others stay as they are.
--
-- Theorem: `taken_entry_is_value`.
use Rattle.std.proofs.Common.{◌≡◌, ℕ, ◌+◌, ◌≤◌, List, [], ◌∷◌, ◌++◌, sym, ap, subst, ◌∙◌, Option, Some, None, refl}
use Rattle.keep_types.specs.declared.leaf.Profile.{Profile}
use Rattle.keep_syntax.specs.Tree.{Name, Value, value_depth}
use Rattle.keep_syntax.specs.Grammar.{IsNamed, IsValue, place_in}
use Rattle.keep_path.specs.Path.{Part}
use Rattle.keep_meaning.specs.Fact.{Fact}
use Rattle.keep_meaning.specs.Marks.{Mention, item}
use Rattle.keep_meaning.specs.Meaning.{body_fact, entries_mentions, entry_mentions, mentions_of_value, valued_mentions}
use Rattle.keep_edit_spec.specs.EntryChanges.{TakenEntryIsValue}
use Rattle.keep_edit_spec.specs.Laws.{IsGivenValue}
use Rattle.keep_edit_spec.proofs.Common.ActDepth.{NoDeeper}
use Rattle.keep_edit_spec.proofs.Common.Bridge.{obeys_from_rules}
use Rattle.keep_edit_spec.proofs.Common.Marks.{rules_of_value}
use Rattle.keep_edit_spec.proofs.Common.Moves.{rules_taken}
use Rattle.keep_edit_spec.proofs.Common.Runs.{Rules}
use Rattle.keep_edit_spec.proofs.Common.SetLaw.{EachTo}
use Rattle.keep_edit_spec.proofs.Remove.RemoveDepth.{removal_depth}
use Rattle.keep_edit_spec.proofs.Remove.RemoveInValue.{item_out, item_rules, renumbered}
use Rattle.keep_edit_spec.proofs.Remove.RemoveValid.{valid_removal}
use Rattle.keep_edit_spec.proofs.Remove.TakenOut.{IsRemoved, does_remove}

module _ (profile : Profile) (path : List Part) (old now : Value) (out : IsRemoved profile path old now)
    (rules : Rules (mentions_of_value old)) where
  abbrev root : Mention
  root = record { path = []; kind = item (body_fact old.body) }

  -- what is left, under the mention of the value before
  rules_left : (o : Option Name) → out.out.name ≡ o → Rules (root ∷ entries_mentions 0 now.nested)
  rules_left None e =
      item_rules out.out.number (item (body_fact old.body)) old.nested now.nested
      (item_out path old.nested now.nested out.out e rules.1) rules
  rules_left (Some name) e =
      let n : ℕ = out.out.number in
      let run : List Mention =
      entry_mentions n out.out.name (body_fact out.out.body) (entries_mentions 0 out.out.nested) in
      let valid = out.out.valid profile (place_in old.body) out.valid.nested in
      let same : entries_mentions n out.out.rest ≡ entries_mentions (n + 1) out.out.rest =
      renumbered profile (place_in old.body) name out.out.rest n (n + 1)
      (subst (λ (o : Option Name). IsNamed profile (place_in old.body) o) e valid.0) valid.1 in
      subst Rules
      (ap (λ (l : List Mention). root ∷ l) (ap (λ (l : List Mention). out.out.before ++ l) (sym same) ∙ sym out.out.is))
      (rules_taken (root ∷ out.out.before) run (entries_mentions (n + 1) out.out.rest)
      (subst Rules (ap (λ (l : List Mention). root ∷ l) out.out.was) rules))

  rules_now : Rules (mentions_of_value now)
  rules_now =
      subst (λ (f : Fact). Rules (valued_mentions (item f) (entries_mentions 0 now.nested))) (sym out.fact)
      (rules_left out.out.name refl)

pub taken_entry_is_value : TakenEntryIsValue
taken_entry_is_value profile was part now given takes =
    let path : List Part = part ∷ [] in
    let left : Value = takes.made.to in
    let out : IsRemoved profile path was left =
    subst (EachTo (IsRemoved profile path was)) takes.by (does_remove profile path was given.valid) in
    let valid : IsValue profile left =
    subst (EachTo (IsValue profile)) takes.by (valid_removal profile path was given.valid) in
    let low : value_depth left ≤ value_depth was =
    subst (EachTo (NoDeeper was)) takes.by (removal_depth path was.body was.nested) in
    let rules : Rules (mentions_of_value left) =
    rules_now profile path was left out (rules_of_value was given.obeys) in
    subst (λ (v : Value). IsGivenValue profile v × (value_depth v ≤ value_depth was)) takes.is
    (record { valid = valid; obeys = obeys_from_rules (mentions_of_value left) rules }, low)
