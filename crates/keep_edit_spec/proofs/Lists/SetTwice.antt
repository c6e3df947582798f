-- A value that is set twice is as if it was set once, to the second value.
--
-- All acts at the end of the path are done at one value, also when another value is in its place (OneValue), and so is
-- either set. The second replaces the whole text that the first wrote, and each gives the document with its own value
-- in that place. The second is not refused: the path has a value, the one that was set, and what encloses it is as
-- before, since the facts at shorter paths stay.
--
-- Theorem: `sets_again`.
use Rattle.std.proofs.Common.{◌≡◌, ℕ, ◌+◌, true, List, [], ◌∷◌, ◌++◌, length, length-append, refl, sym, ap, ap₂, ◌∙◌}
use Rattle.std.proofs.Common.{arith, Option, Some, None}
use Rattle.std.proofs.lemmas.List.{append-nil}
use Rattle.keep_types.specs.declared.leaf.Profile.{Profile}
use Rattle.keep_types.specs.declared.leaf.Profile.TheVariants.{Wide}
use Rattle.keep_syntax.specs.Tree.{Value, Document, value_text}
use Rattle.keep_path.specs.Path.{Part, strip}
use Rattle.keep_meaning.specs.Meaning.{mentions_in, mentions_of_value}
use Rattle.keep_edit_spec.specs.Changed.{Changed, Place, framed_change, place_of}
use Rattle.keep_edit_spec.specs.Edits.{change, changed_or_same, edited_document, nested, place, set}
use Rattle.keep_edit_spec.specs.Laws.{IsEditable, IsLawfulEdit}
use Rattle.keep_edit_spec.specs.Look.{is_bracket_at}
use Rattle.keep_edit_spec.specs.Refusals.{has_value, refusal}
use Rattle.keep_edit_spec.specs.SetValues.{IsSetAgain, SetsAgain, SetsValue}
use Rattle.keep_edit_spec.specs.TextChanges.{TextChange, change_at, place_of_change}
use Rattle.keep_edit_spec.specs.Trees.{fact_from, given, source}
use Rattle.keep_edit_spec.specs.Values.{replacement}
use Rattle.keep_edit_spec.proofs.EditLaws.{set_lawful}
use Rattle.keep_edit_spec.proofs.Common.DoneAtValue.{value_fact-body}
use Rattle.keep_edit_spec.proofs.Common.EntryDepths.{bracket_of}
use Rattle.keep_edit_spec.proofs.Common.FoundValue.{Valid_document}
use Rattle.keep_edit_spec.proofs.Common.Runs.{strip-append}
use Rattle.keep_edit_spec.proofs.Lists.OneValue.{IsAtValue, makes_there}
use Rattle.keep_edit_spec.proofs.Lists.SetAllowed.{fact_stays, set_kept, value_of}
use Rattle.keep_edit_spec.proofs.Lists.SomeBytes.{value_has_bytes}
use Rattle.keep_edit_spec.proofs.Lists.ValueSet as value_set
use Rattle.keep_edit_spec.proofs.Rename.RenamedPath.{short_disjoint}
use Rattle.keep_edit_spec.proofs.Set.SetIsLawful.{settable}

module _ (profile : Profile) (limit : ℕ) (s : Document) (path : List Part) (value : Value) (c : TextChange)
    (fine : IsEditable profile limit s) (h : SetsValue profile limit s path value c) where
  abbrev now : Document
  now = edited_document s (set path value)

  abbrev there : IsAtValue (Valid_document s) (λ t act. nested act path t) s
  there = value_set.there profile limit s path value c fine h

  -- ---- the changes

  -- another value in the place of one
  abbrev made : Value → Value → Changed Document
  made from to = framed_change there.outer there.left there.right (record {
    to = to;
    before = [];
    old = value_text from;
    new = value_text to;
    after = [];
  })

  made_first : (more : Value) → change s (set path more) ≡ Some (made there.value more)
  made_first more = makes_there there (replacement more) (λ p ps v. refl) (λ v. tt)

  made_again : (more : Value) → change now (set path more) ≡ Some (made value more)
  made_again more =
      ap (λ (t : Document). nested (replacement more) path t)
      (value_set.edited_is profile limit s path value c fine h)
      ∙ there.makes value (replacement more) (λ p ps v. refl) (λ v. tt)

  same_document : (more : Value) → edited_document now (set path more) ≡ edited_document s (set path more)
  same_document more =
      ap (λ (o : Option (Changed Document)). (changed_or_same now o).to) (made_again more)
      ∙ sym (ap (λ (o : Option (Changed Document)). (changed_or_same s o).to) (made_first more))

  -- ---- their places

  first_place : (more : Value) (d : TextChange) → SetsValue profile limit s path more d
      → place_of_change d ≡ place_of (made there.value more)
  first_place more d k =
      sym k.is ∙ ap (λ (o : Option (Changed Document)). place_of (changed_or_same s o)) (made_first more)

  starts : (more : Value) (d : TextChange) → SetsValue profile limit s path more d
      → d.at ≡ length (there.left ++ [])
  starts more d k = ap (λ (p : Place). p.start) (first_place more d k)

  long : (more : Value) (d : TextChange) → SetsValue profile limit s path more d
      → d.size ≡ length (value_text there.value)
  long more d k = omega (arith, ap (λ (p : Place). p.end) (first_place more d k), starts more d k)

  comes : (more : Value) (d : TextChange) → SetsValue profile limit s path more d → d.new ≡ value_text more
  comes more d k = ap (λ (p : Place). p.new) (first_place more d k)

  place_again : (more : Value) (d : TextChange) → SetsValue profile limit s path more d
      → place now (set path more) ≡ place_of_change (change_at c.at (length c.new) d.new)
  place_again more d k =
      ap (λ (o : Option (Changed Document)). place_of (changed_or_same now o)) (made_again more)
      ∙ ap₂ (λ (n : ℕ) (t : List ℕ). record { start = n; end = n + length t; new = value_text more })
      (sym (starts value c h)) (sym (comes value c h))
      ∙ ap (λ (t : List ℕ). record { start = c.at; end = c.at + length c.new; new = t }) (sym (comes more d k))

  -- ---- it is not refused

  lawful : IsLawfulEdit profile limit s (set path value)
  lawful = set_lawful profile limit s path value fine h.given h.allowed

  given_there : strip path path ≡ Some [] → source (mentions_in s) (set path value) path ≡ given []
  given_there e = rw (e, source) refl

  has_there : has_value path (mentions_in now) ≡ true
  has_there =
      let own : strip path path ≡ Some [] = ap (strip path) (sym (append-nil path)) ∙ strip-append path [] in
      ap value_of (lawful.tree path ∙ ap (fact_from (mentions_in s) (mentions_of_value value)) (given_there own))
      ∙ value_fact-body value.body

  encloses : (q : List Part) (k : Part) (qs : List Part) → path ≡ q ++ k ∷ qs
      → is_bracket_at (mentions_in now) q ≡ is_bracket_at (mentions_in s) q
  encloses q k qs is =
      ap bracket_of (fact_stays profile limit s path value q lawful
      (short_disjoint path q (omega (arith, ap length is, length-append q (k ∷ qs)))))

  allowed_again : (more : Value) → refusal profile limit s (set path more) ≡ None
      → refusal profile limit now (set path more) ≡ None
  allowed_again more allowed =
      set_kept profile limit path more (mentions_in s) (mentions_in now)
      (has_there ∙ sym (settable profile limit path more (mentions_in s) allowed).valued) encloses allowed

  again : (more : Value) (d : TextChange) → SetsValue profile limit s path more d
      → IsSetAgain profile limit s path value c more d
  again more d k = record {
    at = starts more d k ∙ sym (starts value c h);
    size = long more d k ∙ sym (long value c h);
    sets = record {
      given = k.given;
      allowed = allowed_again more k.allowed;
      some = omega (arith, ap length (comes value c h), value_has_bytes Wide value h.given.valid);
      is = place_again more d k;
    };
    same = same_document more;
  }

pub sets_again : SetsAgain
sets_again profile limit s path value c more d fine h k = again profile limit s path value c fine h more d k
